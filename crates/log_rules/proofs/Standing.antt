-- The writes that stand: what they leave at each key, and one of them fewer.
use Rattle.std.proofs.Common.{◌≡◌, ℕ, ◌+◌, ◌-◌, ◌<◌, ◌≤◌, Bool, true, false, cond, not, ◌&&◌, ◌||◌, ◌==◌, nat_lt, List, [], ◌∷◌, ◌++◌, Option, Some, None, refl, sym, ap, subst, ◌∙◌, eqb-true, eq-eqb, arith}
use Rattle.std.specs.List.{AllByRecursion, list_all}
use Rattle.std.proofs.lemmas.Bool.{both_ways, cond-true, cond-false, ne_eqb, lt-ltb, le-ltb}
use Rattle.clv_base.specs.declared.names.TxId.{TxId}
use Rattle.clv_base.specs.declared.changes.Change.{Change}
use Rattle.clv_base.specs.declared.changes.Change.TheVariants.{Sets, Adds}
use Rattle.clv_base.specs.Orders.{tx_same}
use Rattle.clv_base.specs.Maps.{KeyMap, plus, minus}
use Rattle.clv_base.specs.Logs.{StandingUpdate, changed, is_setting, newest_at, newest_of, without_newest}
use Rattle.clv_base.specs.LogRules.{lies_below}
use Rattle.clv_base.proofs.SameNames.{tx_true}
use Rattle.clv_base.proofs.Sums.{minus_plus, minus_over_plus}
use Rattle.log_analysis.proofs.Laws.Bools.{and_first, and_second, and_both}
use Rattle.log_rules.specs.Rules.{is_at, is_below}
use Rattle.log_rules.specs.Shares.{Share, with_share, without_share, without}
use Rattle.log_rules.proofs.ShareLists.{Counted, counted_more, share_back, share_beside, without_own, without_beside}
use Rattle.law_base.proofs.Bools.{by_bool as both, and_no, or_yes}
use Rattle.law_base.proofs.Names.{Falls, falls_weaker}
use Rattle.law_base.proofs.Numbers.{unequal_flip}
use Rattle.law_base.proofs.Sets.{same_flip as tx_symmetric}
pub use Rattle.law_base.proofs.Running.{top_value}

-- the LSN of the newest UPDATE at a key, and how many ADDs stand above it
abbrev pub top_set : ℕ → List StandingUpdate → Option ℕ
top_set k [] = None
top_set k (w ∷ ws) = cond (k == w.key) (cond (is_setting w.change) (Some w.lsn) (top_set k ws)) (top_set k ws)

abbrev pub adds_over : ℕ → List StandingUpdate → ℕ
adds_over k [] = 0
adds_over k (w ∷ ws) = cond (k == w.key) (cond (is_setting w.change) 0 (adds_over k ws + 1)) (adds_over k ws)

-- the shares at a key of those who aren't committed
abbrev pub shares_of : (TxId → Bool) → ℕ → List StandingUpdate → List Share
shares_of c k [] = []
shares_of c k (w ∷ ws) = cond ((k == w.key) && not (c w.tx)) (with_share w.tx (is_setting w.change) (shares_of c k ws)) (shares_of c k ws)

pub counted_of : (c : TxId → Bool) (k : ℕ) (ws : List StandingUpdate) → Counted (shares_of c k ws)
counted_of c k [] = tt
counted_of c k (w ∷ ws) =
    both (λ b. Counted (cond b (with_share w.tx (is_setting w.change) (shares_of c k ws)) (shares_of c k ws))) ((k == w.key) && not (c w.tx))
    (λ _. counted_more w.tx (is_setting w.change) (shares_of c k ws) (counted_of c k ws)) (λ _. counted_of c k ws)

abbrev pub lsn_of : Option StandingUpdate → Option ℕ
lsn_of None = None
lsn_of (Some w) = Some w.lsn

-- ---- lists with the same front

module _ {X : Type 0} (g : List StandingUpdate → X) where
  pub ahead : ((v : StandingUpdate) (xs ys : List StandingUpdate) → g xs ≡ g ys → g (v ∷ xs) ≡ g (v ∷ ys)) → (over xs ys : List StandingUpdate) → g xs ≡ g ys → g (over ++ xs) ≡ g (over ++ ys)
  ahead step [] xs ys e = e
  ahead step (v ∷ vs) xs ys e = step v (vs ++ xs) (vs ++ ys) (ahead step vs xs ys e)

  pub passed : (k : ℕ) → ((v : StandingUpdate) (xs : List StandingUpdate) → (k == v.key) ≡ false → g (v ∷ xs) ≡ g xs) → (over xs : List StandingUpdate) → AllByRecursion (λ v. (k == v.key) ≡ false) over → g (over ++ xs) ≡ g xs
  passed k skip [] xs all = refl
  passed k skip (v ∷ vs) xs all = skip v (vs ++ xs) all.0 ∙ passed k skip vs xs all.1

pub top_step : (k : ℕ) (v : StandingUpdate) (xs ys : List StandingUpdate) → top_set k xs ≡ top_set k ys → top_set k (v ∷ xs) ≡ top_set k (v ∷ ys)
top_step k v xs ys e = ap (λ r. cond (k == v.key) (cond (is_setting v.change) (Some v.lsn) r) r) e

pub adds_step : (k : ℕ) (v : StandingUpdate) (xs ys : List StandingUpdate) → adds_over k xs ≡ adds_over k ys → adds_over k (v ∷ xs) ≡ adds_over k (v ∷ ys)
adds_step k v xs ys e = ap (λ r. cond (k == v.key) (cond (is_setting v.change) 0 (r + 1)) r) e

pub value_step : (floor : KeyMap) (k : ℕ) (v : StandingUpdate) (xs ys : List StandingUpdate) → top_value floor k xs ≡ top_value floor k ys → top_value floor k (v ∷ xs) ≡ top_value floor k (v ∷ ys)
value_step floor k v xs ys e = ap (λ r. cond (k == v.key) (changed v.change r) r) e

pub newest_step : (t : TxId) (v : StandingUpdate) (xs ys : List StandingUpdate) → newest_of t xs ≡ newest_of t ys → newest_of t (v ∷ xs) ≡ newest_of t (v ∷ ys)
newest_step t v xs ys e = ap (λ r. cond (tx_same t v.tx) (Some v) r) e

pub shares_step : (c : TxId → Bool) (k : ℕ) (v : StandingUpdate) (xs ys : List StandingUpdate) → shares_of c k xs ≡ shares_of c k ys → shares_of c k (v ∷ xs) ≡ shares_of c k (v ∷ ys)
shares_step c k v xs ys e = ap (λ r. cond ((k == v.key) && not (c v.tx)) (with_share v.tx (is_setting v.change) r) r) e

-- ---- where a transaction's newest write stands

pub split_newest : (tx : TxId) (ws : List StandingUpdate) (w : StandingUpdate) → newest_of tx ws ≡ Some w
    → (over : List StandingUpdate) × (under : List StandingUpdate) × (ws ≡ over ++ w ∷ under) × AllByRecursion (λ v. tx_same tx v.tx ≡ false) over × (tx_same tx w.tx ≡ true)
split_newest tx [] w e = absurd cc
split_newest tx (v ∷ vs) w e =
    both (λ b. tx_same tx v.tx ≡ b → cond b (Some v) (newest_of tx vs) ≡ Some w
    → (over : List StandingUpdate) × (under : List StandingUpdate) × (v ∷ vs ≡ over ++ w ∷ under) × AllByRecursion (λ u. tx_same tx u.tx ≡ false) over × (tx_same tx w.tx ≡ true)) (tx_same tx v.tx)
    (λ _ own is. let same : v ≡ w = cc in ([], vs, ap (λ u. u ∷ vs) same, tt, subst (λ u. tx_same tx u.tx ≡ true) same own))
    (λ _ other is. let r = split_newest tx vs w is in (v ∷ r.0, r.1, ap (λ l. v ∷ l) r.2, (other, r.3), r.4)) refl e

pub left_is : (tx : TxId) (over : List StandingUpdate) (w : StandingUpdate) (under : List StandingUpdate) → AllByRecursion (λ v. tx_same tx v.tx ≡ false) over → tx_same tx w.tx ≡ true → without_newest tx (over ++ w ∷ under) ≡ over ++ under
left_is tx [] w under others own = cond-true _ _ _ own
left_is tx (v ∷ vs) w under others own = cond-false _ _ _ others.0 ∙ ap (λ l. v ∷ l) (left_is tx vs w under others.1 own)

pub falls_at : (n : ℕ) (over : List StandingUpdate) (w : StandingUpdate) (under : List StandingUpdate) → Falls n (over ++ w ∷ under) → w.lsn < n
falls_at n [] w under falls = falls.0
falls_at n (v ∷ vs) w under falls = let l : w.lsn < v.lsn = falls_at v.lsn vs w under falls.1 in omega (arith, falls.0)

pub falls_under : (n : ℕ) (over : List StandingUpdate) (w : StandingUpdate) (under : List StandingUpdate) → Falls n (over ++ w ∷ under) → Falls w.lsn under
falls_under n [] w under falls = falls.1
falls_under n (v ∷ vs) w under falls = falls_under v.lsn vs w under falls.1

-- ---- one write fewer

-- a write over it is of another key, or both add
abbrev pub IsClear : StandingUpdate → StandingUpdate → Type 0
IsClear w v = (w.key == v.key) ≡ true → (is_setting v.change ≡ false) × (is_setting w.change ≡ false)

same_key : (k : ℕ) → (k == k) ≡ true
same_key k = eq-eqb k k refl

module _ (w : StandingUpdate) where
  -- what sets is passed at its key
  other_keys : is_setting w.change ≡ true → (over : List StandingUpdate) → AllByRecursion (IsClear w) over → AllByRecursion (λ v. (w.key == v.key) ≡ false) over
  other_keys sets [] clear = tt
  other_keys sets (v ∷ vs) clear =
      (both (λ b. (w.key == v.key) ≡ b → (w.key == v.key) ≡ false) (w.key == v.key) (λ _ e. absurd (both_ways _ (clear.0 e).1 sets)) (λ _ e. e) refl, other_keys sets vs clear.1)

  top_other : (k : ℕ) (xs : List StandingUpdate) → (k == w.key) ≡ false → top_set k (w ∷ xs) ≡ top_set k xs
  top_other k xs e = cond-false _ _ _ e

  top_add : (k : ℕ) (xs : List StandingUpdate) → is_setting w.change ≡ false → top_set k (w ∷ xs) ≡ top_set k xs
  top_add k xs adds = ap (λ s. cond (k == w.key) (cond s (Some w.lsn) (top_set k xs)) (top_set k xs)) adds ∙ either (k == w.key)
    where
      either : (b : Bool) → cond b (top_set k xs) (top_set k xs) ≡ top_set k xs
      either true = refl
      either false = refl

module _ (w : StandingUpdate) (over under : List StandingUpdate) (clear : AllByRecursion (IsClear w) over) where
  abbrev ws : List StandingUpdate
  ws = over ++ w ∷ under

  abbrev us : List StandingUpdate
  us = over ++ under

  below_of : Option ℕ
  below_of = cond (is_setting w.change) (top_set w.key under) None

  -- what is left at other keys
  pub top_elsewhere : (k : ℕ) → (k == w.key) ≡ false → top_set k us ≡ top_set k ws
  top_elsewhere k e = sym (ahead (top_set k) (top_step k) over (w ∷ under) under (cond-false _ _ _ e))

  pub adds_elsewhere : (k : ℕ) → (k == w.key) ≡ false → adds_over k us ≡ adds_over k ws
  adds_elsewhere k e = sym (ahead (adds_over k) (adds_step k) over (w ∷ under) under (cond-false _ _ _ e))

  pub value_elsewhere : (floor : KeyMap) (k : ℕ) → (k == w.key) ≡ false → top_value floor k us ≡ top_value floor k ws
  value_elsewhere floor k e = sym (ahead (top_value floor k) (value_step floor k) over (w ∷ under) under (cond-false _ _ _ e))

  -- and at its own, where it set the value
  pub top_unset : is_setting w.change ≡ true → top_set w.key us ≡ top_set w.key under
  top_unset sets = passed (top_set w.key) w.key (λ v xs e. cond-false _ _ _ e) over under (other_keys w sets over clear)

  pub adds_unset : is_setting w.change ≡ true → adds_over w.key us ≡ adds_over w.key under
  adds_unset sets = passed (adds_over w.key) w.key (λ v xs e. cond-false _ _ _ e) over under (other_keys w sets over clear)

  pub value_unset : (floor : KeyMap) → is_setting w.change ≡ true → top_value floor w.key us ≡ top_value floor w.key under
  value_unset floor sets = passed (top_value floor w.key) w.key (λ v xs e. cond-false _ _ _ e) over under (other_keys w sets over clear)

  -- where it added
  pub top_unadd : (k : ℕ) → is_setting w.change ≡ false → top_set k us ≡ top_set k ws
  top_unadd k adds = sym (ahead (top_set k) (top_step k) over (w ∷ under) under (top_add w k under adds))

add_more : (w : StandingUpdate) (over under : List StandingUpdate) → AllByRecursion (IsClear w) over → is_setting w.change ≡ false → adds_over w.key (over ++ w ∷ under) ≡ adds_over w.key (over ++ under) + 1
add_more w [] under clear adds = cond-true _ _ _ (same_key w.key) ∙ cond-false _ _ _ adds
add_more w (v ∷ vs) under clear adds =
    both (λ b. (w.key == v.key) ≡ b → cond b (cond (is_setting v.change) 0 (adds_over w.key (vs ++ w ∷ under) + 1)) (adds_over w.key (vs ++ w ∷ under))
    ≡ cond b (cond (is_setting v.change) 0 (adds_over w.key (vs ++ under) + 1)) (adds_over w.key (vs ++ under)) + 1) (w.key == v.key)
    (λ _ e. let s = (clear.0 e).0 in
    cond-false _ _ _ s ∙ ap (λ n. n + 1) (add_more w vs under clear.1 adds) ∙ ap (λ n. n + 1) (sym (cond-false _ _ _ s)))
    (λ _ e. add_more w vs under clear.1 adds) refl

pub adds_unadd : (w : StandingUpdate) (over under : List StandingUpdate) → AllByRecursion (IsClear w) over → is_setting w.change ≡ false → adds_over w.key (over ++ under) ≡ adds_over w.key (over ++ w ∷ under) - 1
adds_unadd w over under clear adds = let e = add_more w over under clear adds in omega (arith, e)

-- something stands at its key
pub something_there : (w : StandingUpdate) (over under : List StandingUpdate) → AllByRecursion (IsClear w) over → top_set w.key (over ++ w ∷ under) ≡ None → adds_over w.key (over ++ w ∷ under) ≡ 0 → ⊥
something_there w over under clear top adds =
    both (λ b. is_setting w.change ≡ b → ⊥) (is_setting w.change)
    (λ _ sets.
    let here : top_set w.key (over ++ w ∷ under) ≡ Some w.lsn =
    passed (top_set w.key) w.key (λ v xs e. cond-false _ _ _ e) over (w ∷ under) (other_keys w sets over clear) ∙ cond-true _ _ _ (same_key w.key) ∙ cond-true _ _ _ sets in
    let no : ◌≡◌ {A = Option ℕ} (Some w.lsn) None = sym here ∙ top in cc)
    (λ _ added. let more = add_more w over under clear added in absurd (omega (arith, more, adds))) refl

pub value_unadd : (floor : KeyMap) (w : StandingUpdate) (n : ℕ) (over under : List StandingUpdate) → AllByRecursion (IsClear w) over → w.change ≡ Adds n → top_value floor w.key (over ++ under) ≡ minus n (top_value floor w.key (over ++ w ∷ under))
value_unadd floor w n [] under clear adds =
    sym (minus_plus n (top_value floor w.key under))
    ∙ sym (ap (minus n) (cond-true _ _ _ (same_key w.key) ∙ ap (λ c. changed c (top_value floor w.key under)) adds))
value_unadd floor w n (v ∷ vs) under clear adds =
    both (λ b. (w.key == v.key) ≡ b → cond b (changed v.change (top_value floor w.key (vs ++ under))) (top_value floor w.key (vs ++ under))
    ≡ minus n (cond b (changed v.change (top_value floor w.key (vs ++ w ∷ under))) (top_value floor w.key (vs ++ w ∷ under)))) (w.key == v.key)
    (λ _ e. beside v.change (clear.0 e).0 (value_unadd floor w n vs under clear.1 adds)) (λ _ e. value_unadd floor w n vs under clear.1 adds) refl
  where
    beside : (c : Change) → is_setting c ≡ false → top_value floor w.key (vs ++ under) ≡ minus n (top_value floor w.key (vs ++ w ∷ under)) → changed c (top_value floor w.key (vs ++ under)) ≡ minus n (changed c (top_value floor w.key (vs ++ w ∷ under)))
    beside (Sets before after) s ih = absurd (both_ways _ s refl)
    beside (Adds m) s ih = ap (plus m) ih ∙ sym (minus_over_plus n m (top_value floor w.key (vs ++ w ∷ under)))

-- the newest of each transaction
pub newest_other : (tx t : TxId) (w : StandingUpdate) (over under : List StandingUpdate) → tx_same tx w.tx ≡ true → tx_same tx t ≡ false → newest_of t (over ++ under) ≡ newest_of t (over ++ w ∷ under)
newest_other tx t w over under own other =
    sym (ahead (newest_of t) (newest_step t) over (w ∷ under) under
    (cond-false _ _ _ (ap (tx_same t) (sym (tx_true tx w.tx own)) ∙ tx_symmetric t tx ∙ other)))

pub newest_own : (tx : TxId) (over under : List StandingUpdate) → AllByRecursion (λ v. tx_same tx v.tx ≡ false) over → newest_of tx (over ++ under) ≡ newest_of tx under
newest_own tx [] under others = refl
newest_own tx (v ∷ vs) under others = cond-false _ _ _ others.0 ∙ newest_own tx vs under others.1

-- the shares at each key
pub shares_elsewhere : (c : TxId → Bool) (k : ℕ) (w : StandingUpdate) (over under : List StandingUpdate) → (k == w.key) ≡ false → shares_of c k (over ++ under) ≡ shares_of c k (over ++ w ∷ under)
shares_elsewhere c k w over under e = sym (ahead (shares_of c k) (shares_step c k) over (w ∷ under) under (ap (λ b. cond (b && not (c w.tx)) (with_share w.tx (is_setting w.change) (shares_of c k under)) (shares_of c k under)) e))

pub shares_here : (c : TxId → Bool) (tx : TxId) (w : StandingUpdate) (over under : List StandingUpdate) → AllByRecursion (λ v. tx_same tx v.tx ≡ false) over → tx_same tx w.tx ≡ true → c w.tx ≡ false
    → shares_of c w.key (over ++ under) ≡ without_share tx (is_setting w.change) (shares_of c w.key (over ++ w ∷ under))
shares_here c tx w [] under others own pending =
    sym (share_back tx (is_setting w.change) (shares_of c w.key under) (counted_of c w.key under))
    ∙ ap (λ t. without_share tx (is_setting w.change) (with_share t (is_setting w.change) (shares_of c w.key under))) (tx_true tx w.tx own)
    ∙ sym (ap (without_share tx (is_setting w.change)) (ap (λ b. cond (b && not (c w.tx)) (with_share w.tx (is_setting w.change) (shares_of c w.key under)) (shares_of c w.key under)) (same_key w.key)
    ∙ ap (λ b. cond (true && not b) (with_share w.tx (is_setting w.change) (shares_of c w.key under)) (shares_of c w.key under)) pending))
shares_here c tx w (v ∷ vs) under others own pending =
    both (λ b. cond b (with_share v.tx (is_setting v.change) (shares_of c w.key (vs ++ under))) (shares_of c w.key (vs ++ under))
    ≡ without_share tx (is_setting w.change) (cond b (with_share v.tx (is_setting v.change) (shares_of c w.key (vs ++ w ∷ under))) (shares_of c w.key (vs ++ w ∷ under)))) ((w.key == v.key) && not (c v.tx))
    (λ _. ap (with_share v.tx (is_setting v.change)) (shares_here c tx w vs under others.1 own pending)
    ∙ sym (share_beside tx (is_setting w.change) v.tx (is_setting v.change) others.0 (shares_of c w.key (vs ++ w ∷ under))))
    (λ _. shares_here c tx w vs under others.1 own pending)

-- once a transaction is committed, its shares go
pub shares_settled : (c d : TxId → Bool) (tx : TxId) → ((t : TxId) → d t ≡ c t || tx_same tx t) → (k : ℕ) (ws : List StandingUpdate) → shares_of d k ws ≡ without tx (shares_of c k ws)
shares_settled c d tx is k [] = refl
shares_settled c d tx is k (w ∷ ws) =
    ap (λ b. cond ((k == w.key) && not b) (with_share w.tx (is_setting w.change) (shares_of d k ws)) (shares_of d k ws)) (is w.tx)
    ∙ at (k == w.key) (c w.tx) (tx_same tx w.tx) refl (shares_settled c d tx is k ws)
  where
    at : (a b e : Bool) → tx_same tx w.tx ≡ e → shares_of d k ws ≡ without tx (shares_of c k ws)
        → cond (a && not (b || e)) (with_share w.tx (is_setting w.change) (shares_of d k ws)) (shares_of d k ws) ≡ without tx (cond (a && not b) (with_share w.tx (is_setting w.change) (shares_of c k ws)) (shares_of c k ws))
    at false b e same ih = ih
    at true true e same ih = ih
    at true false true same ih =
        ih ∙ sym (without_own tx (is_setting w.change) (shares_of c k ws)) ∙ ap (λ t. without tx (with_share t (is_setting w.change) (shares_of c k ws))) (tx_true tx w.tx same)
    at true false false same ih =
        ap (with_share w.tx (is_setting w.change)) ih ∙ sym (without_beside tx w.tx (is_setting w.change) (shares_of c k ws) same)

-- ---- what the rules of undoing ask

key_flip : (a b : ℕ) → (a == b) ≡ true → (b == a) ≡ true
key_flip a b e = eq-eqb b a (sym (eqb-true a b e))

-- the write is the newest of its key
pub clear_by_top : (n : ℕ) (w : StandingUpdate) (over under : List StandingUpdate) → Falls n (over ++ w ∷ under)
    → elim (newest_at w.key (over ++ w ∷ under)) [ Some v ↦ v.lsn == w.lsn | None ↦ false ] ≡ true → AllByRecursion (IsClear w) over
clear_by_top n w [] under falls e = tt
clear_by_top n w (v ∷ vs) under falls e =
    both (λ b. (w.key == v.key) ≡ b → elim (cond b (Some v) (newest_at w.key (vs ++ w ∷ under))) [ Some u ↦ u.lsn == w.lsn | None ↦ false ] ≡ true → IsClear w v × AllByRecursion (IsClear w) vs) (w.key == v.key)
    (λ _ at same. let lower : w.lsn < v.lsn = falls_at v.lsn vs w under falls.1 in let equal : v.lsn ≡ w.lsn = eqb-true v.lsn w.lsn same in absurd (omega (arith, lower, equal)))
    (λ _ apart is. ((λ at. absurd (both_ways _ apart at)), clear_by_top v.lsn w vs under falls.1 is)) refl e

abbrev lsn_is : ℕ → Option StandingUpdate → Bool
lsn_is n o = elim o [ Some v ↦ v.lsn == n | None ↦ false ]

pub top_test : (n : ℕ) (w : StandingUpdate) (over under : List StandingUpdate) → is_setting w.change ≡ true → Falls n (over ++ w ∷ under)
    → is_at w.lsn (top_set w.key (over ++ w ∷ under)) && (adds_over w.key (over ++ w ∷ under) == 0) ≡ elim (newest_at w.key (over ++ w ∷ under)) [ Some v ↦ v.lsn == w.lsn | None ↦ false ]
top_test n w [] under sets falls =
    ap (λ b. is_at w.lsn (cond b (cond (is_setting w.change) (Some w.lsn) (top_set w.key under)) (top_set w.key under)) && (cond b (cond (is_setting w.change) 0 (adds_over w.key under + 1)) (adds_over w.key under) == 0)) (same_key w.key)
    ∙ ap (λ s. is_at w.lsn (cond s (Some w.lsn) (top_set w.key under)) && (cond s 0 (adds_over w.key under + 1) == 0)) sets
    ∙ ap (λ b. b && (0 == 0)) (same_key w.lsn)
    ∙ sym (ap (λ (b : Bool). lsn_is w.lsn (cond b (Some w) (newest_at w.key under))) (same_key w.key) ∙ same_key w.lsn)
top_test n w (v ∷ vs) under sets falls =
    both (λ b. is_at w.lsn (cond b (cond (is_setting v.change) (Some v.lsn) (top_set w.key (vs ++ w ∷ under))) (top_set w.key (vs ++ w ∷ under)))
    && (cond b (cond (is_setting v.change) 0 (adds_over w.key (vs ++ w ∷ under) + 1)) (adds_over w.key (vs ++ w ∷ under)) == 0)
    ≡ lsn_is w.lsn (cond b (Some v) (newest_at w.key (vs ++ w ∷ under)))) (w.key == v.key)
    (λ _.
    both (λ s. is_at w.lsn (cond s (Some v.lsn) (top_set w.key (vs ++ w ∷ under))) && (cond s 0 (adds_over w.key (vs ++ w ∷ under) + 1) == 0) ≡ (v.lsn == w.lsn)) (is_setting v.change)
    (λ _. and_yes (v.lsn == w.lsn))
    (λ _.
    let lower : w.lsn < v.lsn = falls_at v.lsn vs w under falls.1 in
    ap (λ b. is_at w.lsn (top_set w.key (vs ++ w ∷ under)) && b) (ne_eqb (adds_over w.key (vs ++ w ∷ under) + 1) 0 (λ e. absurd (omega (arith, e))))
    ∙ and_no (is_at w.lsn (top_set w.key (vs ++ w ∷ under))) ∙ sym (ne_eqb v.lsn w.lsn (λ e. absurd (omega (arith, lower, e))))))
    (λ _. top_test v.lsn w vs under sets falls.1)
  where
    and_yes : (a : Bool) → a && true ≡ a
    and_yes true = refl
    and_yes false = refl

-- no UPDATE of its key stands over the write
abbrev pub is_free : StandingUpdate → StandingUpdate → Bool
is_free w v = not (is_setting v.change && lies_below w v)

free_key : (k l s t w : Bool) → k ≡ true → l ≡ true → not (s && (k && l && (w || s))) ≡ true → s ≡ false
free_key true true true t w i j e = absurd (both_ways _ (ap not (or_yes w)) e)
free_key true true false t w i j e = refl
free_key false l s t w i j e = absurd cc
free_key true false s t w i j e = absurd cc

pub clear_by_free : (n : ℕ) (w : StandingUpdate) (over under : List StandingUpdate) → Falls n (over ++ w ∷ under) → is_setting w.change ≡ false
    → list_all (is_free w) (over ++ w ∷ under) ≡ true → AllByRecursion (IsClear w) over
clear_by_free n w [] under falls adds e = tt
clear_by_free n w (v ∷ vs) under falls adds e = (
  λ at. (
    free_key (v.key == w.key) (nat_lt w.lsn v.lsn) (is_setting v.change) true (is_setting w.change) (key_flip w.key v.key at) (lt-ltb w.lsn v.lsn (falls_at v.lsn vs w under falls.1))
        (and_first (is_free w v) (list_all (is_free w) (vs ++ w ∷ under)) e),
    adds,
  ),
  clear_by_free v.lsn w vs under falls.1 adds (and_second (is_free w v) (list_all (is_free w) (vs ++ w ∷ under)) e),
)

-- all those under it are lower
lower_free : (w : StandingUpdate) (n : ℕ) (ws : List StandingUpdate) → n ≤ w.lsn → Falls n ws → list_all (is_free w) ws ≡ true
lower_free w n [] le falls = refl
lower_free w n (v ∷ vs) le falls =
    and_both (is_free w v) (list_all (is_free w) vs)
    (ap (λ b. not (is_setting v.change && ((v.key == w.key) && b && (is_setting w.change || is_setting v.change)))) (le-ltb w.lsn v.lsn (omega (arith, le, falls.0))) ∙ none (is_setting v.change) (v.key == w.key) (is_setting w.change || is_setting v.change))
    (lower_free w v.lsn vs (omega (arith, le, falls.0)) falls.1)
  where
    none : (s k t : Bool) → not (s && (k && false && t)) ≡ true
    none true true t = refl
    none true false t = refl
    none false k t = refl

lower_top : (k n : ℕ) (ws : List StandingUpdate) → Falls n ws → is_below (top_set k ws) n ≡ true
lower_top k n [] falls = refl
lower_top k n (v ∷ vs) falls =
    both (λ b. is_below (cond b (cond (is_setting v.change) (Some v.lsn) (top_set k vs)) (top_set k vs)) n ≡ true) (k == v.key)
    (λ _. both (λ s. is_below (cond s (Some v.lsn) (top_set k vs)) n ≡ true) (is_setting v.change) (λ _. lt-ltb v.lsn n falls.0) (λ _. lower_top k n vs (falls_weaker v.lsn n vs (omega (arith, falls.0)) falls.1)))
    (λ _. lower_top k n vs (falls_weaker v.lsn n vs (omega (arith, falls.0)) falls.1))

pub free_test : (n : ℕ) (w : StandingUpdate) (over under : List StandingUpdate) → is_setting w.change ≡ false → Falls n (over ++ w ∷ under)
    → is_below (top_set w.key (over ++ w ∷ under)) w.lsn ≡ list_all (is_free w) (over ++ w ∷ under)
free_test n w [] under adds falls =
    ap (λ o. is_below o w.lsn) (top_add w w.key under adds) ∙ lower_top w.key w.lsn under falls.1
    ∙ sym (and_both (is_free w w) (list_all (is_free w) under) (ap (λ s. not (s && lies_below w w)) adds) (lower_free w w.lsn under (omega arith) falls.1))
free_test n w (v ∷ vs) under adds falls =
    both (λ b. (w.key == v.key) ≡ b → is_below (cond b (cond (is_setting v.change) (Some v.lsn) (top_set w.key (vs ++ w ∷ under))) (top_set w.key (vs ++ w ∷ under))) w.lsn
    ≡ is_free w v && list_all (is_free w) (vs ++ w ∷ under)) (w.key == v.key)
    (λ _ at.
    let lower : w.lsn < v.lsn = falls_at v.lsn vs w under falls.1 in
    both (λ s. is_setting v.change ≡ s → is_below (cond s (Some v.lsn) (top_set w.key (vs ++ w ∷ under))) w.lsn ≡ is_free w v && list_all (is_free w) (vs ++ w ∷ under)) (is_setting v.change)
    (λ _ s. le-ltb v.lsn w.lsn (omega (arith, lower))
    ∙ sym (ap (λ b. b && list_all (is_free w) (vs ++ w ∷ under))
    (covers (is_setting v.change) (v.key == w.key) (nat_lt w.lsn v.lsn) (is_setting w.change) s (key_flip w.key v.key at) (lt-ltb w.lsn v.lsn lower))))
    (λ _ s. free_test v.lsn w vs under adds falls.1 ∙ sym (ap (λ b. not (b && lies_below w v) && list_all (is_free w) (vs ++ w ∷ under)) s)) refl)
    (λ _ apart. free_test v.lsn w vs under adds falls.1
    ∙ sym (ap (λ b. b && list_all (is_free w) (vs ++ w ∷ under)) (elsewhere (is_setting v.change) (v.key == w.key) (nat_lt w.lsn v.lsn) (is_setting w.change || is_setting v.change) (unequal_flip w.key v.key apart)))) refl
  where
    covers : (s k l t : Bool) → s ≡ true → k ≡ true → l ≡ true → not (s && (k && l && (t || s))) ≡ false
    covers true true true t h i j = ap not (or_yes t)
    covers false k l t h i j = absurd cc
    covers true false l t h i j = absurd cc
    covers true true false t h i j = absurd cc

    elsewhere : (s k l t : Bool) → k ≡ false → not (s && (k && l && t)) ≡ true
    elsewhere true false l t h = refl
    elsewhere false k l t h = refl
    elsewhere true true l t h = absurd cc
