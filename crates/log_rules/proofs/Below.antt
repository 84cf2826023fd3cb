-- The writes of others below a transaction's.
use Rattle.std.proofs.Common.{◌≡◌, ℕ, ◌<◌, Bool, true, false, cond, not, ◌&&◌, ◌||◌, ◌==◌, nat_lt, List, [], ◌∷◌, refl, sym, ap, ◌∙◌, eqb-true, eq-eqb, arith}
use Rattle.std.specs.List.{AllByRecursion, list_any, list_all}
use Rattle.std.proofs.lemmas.Bool.{both_ways, lt-ltb, le-ltb}
use Rattle.clv_base.specs.declared.names.TxId.{TxId}
use Rattle.clv_base.specs.Orders.{tx_same, tx_in}
use Rattle.clv_base.specs.Logs.{StandingUpdate, is_setting, without_newest}
use Rattle.clv_base.specs.LogRules.{has_above, writes_below, lies_below}
use Rattle.clv_base.proofs.SameNames.{tx_true}
use Rattle.log_analysis.proofs.Laws.Bools.{and_first, and_second, and_both, all_same, all_weaker, all_filter, all_both, all_true}
use Rattle.log_rules.specs.Rules.{is_own_or_one_of}
use Rattle.law_base.proofs.Names.{Falls, falls_weaker}
use Rattle.law_base.proofs.Bools.{by_bool as both}
use Rattle.law_base.proofs.Sets.{same_flip as tx_symmetric}
use Rattle.law_base.specs.Items.{AllLater}

-- ---- tests of each two

pub all_swap : {X : Type 0} (f : X → X → Bool) (xs ys : List X) → list_all (λ v. list_all (λ u. f u v) ys) xs ≡ list_all (λ u. list_all (f u) xs) ys
all_swap f [] ys = sym (all_true (λ u. true) (λ u. refl) ys)
all_swap f (v ∷ vs) ys = ap (λ b. list_all (λ u. f u v) ys && b) (all_swap f vs ys) ∙ sym (all_both (λ u. f u v) (λ u. list_all (f u) vs) ys)

pub none_any : {X : Type 0} (a : Bool) (q : X → Bool) (p : Bool) (xs : List X) → not (a && list_any q xs) || p ≡ list_all (λ x. not (a && q x) || p) xs
none_any a q p [] = none a
  where
    none : (a : Bool) → not (a && false) || p ≡ true
    none true = refl
    none false = refl
none_any a q p (x ∷ xs) = parts a (q x) (list_any q xs) p ∙ ap (λ b. (not (a && q x) || p) && b) (none_any a q p xs)
  where
    parts : (a b c p : Bool) → not (a && (b || c)) || p ≡ (not (a && b) || p) && (not (a && c) || p)
    parts a b c p = grind arith

all_alike : {X : Type 0} (f g : X → Bool) (xs : List X) → AllByRecursion (λ x. f x ≡ g x) xs → list_all f xs ≡ list_all g xs
all_alike f g [] all = refl
all_alike f g (x ∷ xs) all = ap (λ b. b && list_all f xs) all.0 ∙ ap (λ b. g x && b) (all_alike f g xs all.1)

-- two tests that come to the same of each two
abbrev pub Alike : {X : Type 0} → (X → X → Bool) → (X → X → Bool) → List X → Type 0
Alike f g [] = Unit {0}
Alike f g (u ∷ us) = (f u u ≡ g u u) × AllByRecursion (λ v. f u v ≡ g u v) us × AllByRecursion (λ v. f v u ≡ g v u) us × Alike f g us

pub pairs_alike : {X : Type 0} (f g : X → X → Bool) (xs : List X) → Alike f g xs → list_all (λ w. list_all (f w) xs) xs ≡ list_all (λ w. list_all (g w) xs) xs
pairs_alike f g [] alike = refl
pairs_alike f g (u ∷ us) alike =
    ap (λ b. (f u u && list_all (f u) us) && b) (all_both (λ w. f w u) (λ w. list_all (f w) us) us)
    ∙ ap (λ b. (b && list_all (f u) us) && (list_all (λ w. f w u) us && list_all (λ w. list_all (f w) us) us)) alike.0
    ∙ ap (λ b. (g u u && b) && (list_all (λ w. f w u) us && list_all (λ w. list_all (f w) us) us)) (all_alike (f u) (g u) us alike.1)
    ∙ ap (λ b. (g u u && list_all (g u) us) && (b && list_all (λ w. list_all (f w) us) us)) (all_alike (λ w. f w u) (λ w. g w u) us alike.2)
    ∙ ap (λ b. (g u u && list_all (g u) us) && (list_all (λ w. g w u) us && b)) (pairs_alike f g us alike.3)
    ∙ sym (ap (λ b. (g u u && list_all (g u) us) && b) (all_both (λ w. g w u) (λ w. list_all (g w) us) us))

-- ---- as the rules say it

module _ (p : TxId → Bool) (tx : TxId) where
  -- where v is another's and lies below w, which is the transaction's, p is to hold of its writer
  abbrev pub passes_below : StandingUpdate → StandingUpdate → Bool
  passes_below w v = not (not (tx_same tx v.tx) && (tx_same tx w.tx && lies_below v w)) || p v.tx

  abbrev pub all_pass : List StandingUpdate → Bool
  all_pass ws = list_all (λ w. list_all (passes_below w) ws) ws

  pub below_is : (ws : List StandingUpdate) → list_all (λ w. p w.tx) (writes_below tx ws) ≡ all_pass ws
  below_is ws =
      all_filter (λ w. p w.tx) (λ w. not (tx_same tx w.tx) && has_above tx w ws) ws
      ∙ all_same (λ v. not (not (tx_same tx v.tx) && has_above tx v ws) || p v.tx) (λ v. list_all (λ w. passes_below w v) ws)
      (λ v. none_any (not (tx_same tx v.tx)) (λ w. tx_same tx w.tx && lies_below v w) (p v.tx) ws) ws
      ∙ all_swap passes_below ws ws

-- what holds of more writers
pub pass_more : (p q : TxId → Bool) (tx : TxId) → ((t : TxId) → p t ≡ true → q t ≡ true) → (ws : List StandingUpdate) → all_pass p tx ws ≡ true → all_pass q tx ws ≡ true
pass_more p q tx more ws all =
    all_weaker (λ w. list_all (passes_below p tx w) ws) (λ w. list_all (passes_below q tx w) ws)
    (λ w. all_weaker (passes_below p tx w) (passes_below q tx w) (λ v. still (not (not (tx_same tx v.tx) && (tx_same tx w.tx && lies_below v w))) (p v.tx) (q v.tx) (more v.tx)) ws) ws all
  where
    still : (a b c : Bool) → (b ≡ true → c ≡ true) → a || b ≡ true → a || c ≡ true
    still true b c f e = refl
    still false b c f e = f e

-- of fewer writes
all_fewer : (f : StandingUpdate → Bool) (tx : TxId) (ws : List StandingUpdate) → list_all f ws ≡ true → list_all f (without_newest tx ws) ≡ true
all_fewer f tx [] all = refl
all_fewer f tx (v ∷ vs) all =
    both (λ b. list_all f (cond b vs (v ∷ without_newest tx vs)) ≡ true) (tx_same tx v.tx) (λ _. and_second (f v) (list_all f vs) all)
    (λ _. and_both (f v) (list_all f (without_newest tx vs)) (and_first (f v) (list_all f vs) all) (all_fewer f tx vs (and_second (f v) (list_all f vs) all)))

pub pass_fewer : (p : TxId → Bool) (t tx : TxId) (ws : List StandingUpdate) → all_pass p t ws ≡ true → all_pass p t (without_newest tx ws) ≡ true
pass_fewer p t tx ws all =
    all_fewer (λ w. list_all (passes_below p t w) (without_newest tx ws)) tx ws
    (all_weaker (λ w. list_all (passes_below p t w) ws) (λ w. list_all (passes_below p t w) (without_newest tx ws)) (λ w e. all_fewer (passes_below p t w) tx ws e) ws all)

-- of one more, which is another's
pub pass_pushed : (p : TxId → Bool) (t : TxId) (u : StandingUpdate) (ws : List StandingUpdate) → tx_same t u.tx ≡ false → Falls u.lsn ws → all_pass p t ws ≡ true → all_pass p t (u ∷ ws) ≡ true
pass_pushed p t u ws other falls all =
    and_both (list_all (passes_below p t u) (u ∷ ws)) (list_all (λ w. list_all (passes_below p t w) (u ∷ ws)) ws)
    (all_true (passes_below p t u) (λ v. foreign (not (tx_same t v.tx)) (tx_same t u.tx) (lies_below v u) (p v.tx) other) (u ∷ ws))
    (above ws falls all)
  where
    foreign : (a b c q : Bool) → b ≡ false → not (a && (b && c)) || q ≡ true
    foreign true false c q e = refl
    foreign false b c q e = refl
    foreign true true c q e = absurd cc

    over : (a b k l s q : Bool) → l ≡ false → not (a && (b && (k && l && s))) || q ≡ true
    over a b k l s q e = grind (arith, e)

    above : (vs : List StandingUpdate) → Falls u.lsn vs → list_all (λ w. list_all (passes_below p t w) ws) vs ≡ true → list_all (λ w. list_all (passes_below p t w) (u ∷ ws)) vs ≡ true
    above [] fall each = refl
    above (v ∷ vs) fall each =
        and_both (list_all (passes_below p t v) (u ∷ ws)) (list_all (λ w. list_all (passes_below p t w) (u ∷ ws)) vs)
        (and_both (passes_below p t v u) (list_all (passes_below p t v) ws)
        (over (not (tx_same t u.tx)) (tx_same t v.tx) (v.key == u.key) (nat_lt u.lsn v.lsn) (is_setting u.change || is_setting v.change) (p u.tx) (le-ltb u.lsn v.lsn (omega (arith, fall.0))))
        (and_first (list_all (passes_below p t v) ws) (list_all (λ w. list_all (passes_below p t w) ws) vs) each))
        (above vs (falls_weaker v.lsn u.lsn vs (omega (arith, fall.0)) fall.1) (and_second (list_all (passes_below p t v) ws) (list_all (λ w. list_all (passes_below p t w) ws) vs) each))

-- ---- by what is asked at the keys of the transaction's writes

-- what lies at the key of w is of one who is committed, is the transaction's, is listed, or adds where w adds
abbrev pub meets : (TxId → Bool) → TxId → List TxId → StandingUpdate → StandingUpdate → Bool
meets c tx listed w v = not (w.key == v.key) || (c v.tx || (is_own_or_one_of tx listed v.tx || (not (is_setting w.change) && not (is_setting v.change))))

abbrev pub meets_own : (TxId → Bool) → TxId → List TxId → StandingUpdate → StandingUpdate → Bool
meets_own c tx listed w v = not (tx_same tx w.tx) || meets c tx listed w v

-- a write over another's UPDATE, or an UPDATE over another's write: the other one is closed
abbrev pub Covers : (TxId → Bool) → StandingUpdate → StandingUpdate → Type 0
Covers closed v w = (v.key == w.key) ≡ true → (is_setting v.change || is_setting w.change) ≡ true → tx_same v.tx w.tx ≡ false → closed w.tx ≡ true

module _ (closed c : TxId → Bool) (tx : TxId) (listed : List TxId) (is_open : closed tx ≡ false) where
  abbrev passes : TxId → Bool
  passes t = c t || tx_in t listed

  alone : (u : StandingUpdate) → passes_below passes tx u u ≡ meets_own c tx listed u u
  alone u = one (tx_same tx u.tx) (tx_same u.tx tx) (lies_below u u) (u.key == u.key) (c u.tx) (tx_in u.tx listed) (not (is_setting u.change) && not (is_setting u.change)) (tx_symmetric tx u.tx)
    where
      one : (o o' b k m l a : Bool) → o ≡ o' → not (not o && (o && b)) || (m || l) ≡ not o || (not k || (m || ((o' || l) || a)))
      one o o' b k m l a e = grind (arith, e)

  under : (u v : StandingUpdate) → v.lsn < u.lsn → passes_below passes tx u v ≡ meets_own c tx listed u v
  under u v lt =
      one (tx_same tx u.tx) (tx_same tx v.tx) (tx_same v.tx tx) (u.key == v.key) (nat_lt v.lsn u.lsn) (is_setting v.change) (is_setting u.change) (c v.tx) (tx_in v.tx listed) (tx_symmetric tx v.tx) (lt-ltb v.lsn u.lsn lt)
    where
      one : (ou ov ov' k l sv su m i : Bool) → ov ≡ ov' → l ≡ true → not (not ov && (ou && (k && l && (sv || su)))) || (m || i) ≡ not ou || (not k || (m || ((ov' || i) || (not su && not sv))))
      one ou ov ov' k l sv su m i e f = grind (arith, e, f)

  over : (u v : StandingUpdate) → v.lsn < u.lsn → Covers closed u v → passes_below passes tx v u ≡ meets_own c tx listed v u
  over u v lt covers =
      one (tx_same tx v.tx) (tx_same tx u.tx) (tx_same u.tx tx) (v.key == u.key) (nat_lt u.lsn v.lsn) (is_setting u.change) (is_setting v.change) (c u.tx) (tx_in u.tx listed) (tx_symmetric tx u.tx) (le-ltb u.lsn v.lsn (omega (arith, lt)))
      (λ own foreign key sets.
      let apart : tx_same u.tx v.tx ≡ false = ap (tx_same u.tx) (sym (tx_true tx v.tx own)) ∙ tx_symmetric u.tx tx ∙ foreign in
      both_ways _ is_open (ap closed (tx_true tx v.tx own) ∙ covers (eq-eqb u.key v.key (sym (eqb-true v.key u.key key))) sets apart))
    where
      one : (ov ou ou' k l su sv m i : Bool) → ou ≡ ou' → l ≡ false → (ov ≡ true → ou ≡ false → k ≡ true → (su || sv) ≡ true → ⊥)
          → not (not ou && (ov && (k && l && (su || sv)))) || (m || i) ≡ not ov || (not k || (m || ((ou' || i) || (not sv && not su))))
      one ov ou ou' k l su sv m i e f h = grind (arith, e, f, h)

  alike : (n : ℕ) (ws : List StandingUpdate) → Falls n ws → AllLater (Covers closed) ws → Alike (passes_below passes tx) (meets_own c tx listed) ws
  alike n [] falls covers = tt
  alike n (u ∷ us) falls covers = (alone u, below us falls.1, above us falls.1 covers.0, alike u.lsn us falls.1 covers.1)
    where
      below : (vs : List StandingUpdate) → Falls u.lsn vs → AllByRecursion (λ v. passes_below passes tx u v ≡ meets_own c tx listed u v) vs
      below [] fall = tt
      below (v ∷ vs) fall = (under u v fall.0, below vs (falls_weaker v.lsn u.lsn vs (omega (arith, fall.0)) fall.1))

      above : (vs : List StandingUpdate) → Falls u.lsn vs → AllByRecursion (Covers closed u) vs → AllByRecursion (λ v. passes_below passes tx v u ≡ meets_own c tx listed v u) vs
      above [] fall all = tt
      above (v ∷ vs) fall all = (over u v fall.0 all.0, above vs (falls_weaker v.lsn u.lsn vs (omega (arith, fall.0)) fall.1) all.1)

  pub pass_is : (n : ℕ) (ws : List StandingUpdate) → Falls n ws → AllLater (Covers closed) ws → all_pass passes tx ws ≡ list_all (λ w. list_all (meets_own c tx listed w) ws) ws
  pass_is n ws falls covers = pairs_alike (passes_below passes tx) (meets_own c tx listed) ws (alike n ws falls covers)
