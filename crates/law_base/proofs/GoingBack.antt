-- What a going back leaves: of one transaction the newest writes are taken back, and nothing else.
use Rattle.std.proofs.Common.{◌≡◌, ℕ, zero, suc, ◌-◌, ◌<◌, ⊎_elim, Bool, true, false, cond, not, ◌&&◌, ◌||◌, List, [], ◌∷◌, ◌++◌, map, take, length, Option, Some, None, ◌==◌, nat_lt, refl, sym, ap, subst, ◌∙◌, eq-eqb, ne_eqb, arith, append_assoc}
use Rattle.std.specs.List.{AllByRecursion, filter}
use Rattle.std.specs.Map.{keys_of}
use Rattle.std.proofs.lemmas.Bool.{cases_Bool, cases_lt, both_ways, cond_both, cond-true, cond-false, false_from_ne_true, lt-ltb, le-ltb, or_parts}
use Rattle.std.proofs.lemmas.Option.{none-some, same_Some}
use Rattle.clv_base.specs.declared.values.Value.{Value as ValueType}
use Rattle.clv_base.specs.declared.names.TxId.{TxId}
use Rattle.clv_base.specs.declared.logs.LogRecord.{LogRecord}
use Rattle.clv_base.specs.declared.changes.Change.{Change}
use Rattle.clv_base.specs.Orders.{tx_same, nat_in}
use Rattle.clv_base.specs.Logs.{StandingUpdate, unchanged, standing, without_newest, newest_of, has_standing}
use Rattle.clv_base.specs.Maps.{KeyMap}
use Rattle.clv_base.specs.Needs.{Records, value_at}
use Rattle.clv_base.specs.State.{Local}
use Rattle.clv_base.specs.Undo.{undone_at, record_without, records_without, compensation, clrs_by, is_of, newest_lsn, newest_lsns, is_at, take_back, roll_to}
use Rattle.clv_base.proofs.SameNames.{or_left, tx_true, tx_flip}
use Rattle.law_base.specs.Undone.{stays_by}
use Rattle.law_base.proofs.Lists.{all_mono, all_of, all_both, append_nil}
use Rattle.law_base.proofs.Cells.{record_at}
use Rattle.law_base.proofs.Standing.{Falls, falls_below, falls_without, standing_falls, standing_push, has_write, without_other, count_writes, counts_some, counts_without}
use Rattle.law_base.proofs.Running.{top_value}
use Rattle.law_base.proofs.Undoing.{NewestGo, standing_undone_by, compensates, Chain, Upward, HaveRecords, unwritten, reset, record_undone, values_undone, chain_stays, filter_all_by}

-- ---- tests that agree on the writes take back the same

abbrev pub AgreeOn : (StandingUpdate → Bool) → (StandingUpdate → Bool) → List StandingUpdate → Type 0
AgreeOn f g ws = AllByRecursion (λ v. f v ≡ g v) ws

pub agree_back : (f g : StandingUpdate → Bool) (ws : List StandingUpdate) → AgreeOn f g ws → AgreeOn g f ws
agree_back f g ws a = all_mono _ _ (λ v e. sym e) ws a

pub same_filter : (f g : StandingUpdate → Bool) (ws : List StandingUpdate) → AgreeOn f g ws → filter (stays_by f) ws ≡ filter (stays_by g) ws
same_filter f g [] a = refl
same_filter f g (w ∷ ws) a = ap (λ b. cond (not b) (w ∷ filter (stays_by f) ws) (filter (stays_by f) ws)) a.0 ∙ ap (λ l. cond (not (g w)) (w ∷ l) l) (same_filter f g ws a.1)

pub same_undone : (f g : StandingUpdate → Bool) (k : ℕ) (ws : List StandingUpdate) (v : Option ValueType) → AgreeOn f g ws → undone_at f k ws v ≡ undone_at g k ws v
same_undone f g k [] v a = refl
same_undone f g k (w ∷ ws) v a =
    same_undone f g k ws (cond (f w && (k == w.key)) (unchanged w.change v) v) a.1 ∙ ap (λ b. undone_at g k ws (cond (b && (k == w.key)) (unchanged w.change v) v)) a.0

pub same_records : (f g : StandingUpdate → Bool) (ws : List StandingUpdate) (rs : Records) → AgreeOn f g ws → records_without f ws rs ≡ records_without g ws rs
same_records f g ws [] a = refl
same_records f g ws (r ∷ rs) a = ap (λ v. (r.0, v) ∷ records_without f ws rs) (same_undone f g r.0 ws r.1 a) ∙ ap (λ l. record_without g ws r ∷ l) (same_records f g ws rs a)

pub same_clrs : (f g : StandingUpdate → Bool) (ws : List StandingUpdate) → AgreeOn f g ws → clrs_by f ws ≡ clrs_by g ws
same_clrs f g [] a = refl
same_clrs f g (w ∷ ws) a =
    ap (λ b. cond b (compensation w.tx (newest_lsn w.tx ws) w.key w.change ∷ clrs_by f ws) (clrs_by f ws)) a.0
    ∙ ap (λ rs. cond (g w) (compensation w.tx (newest_lsn w.tx ws) w.key w.change ∷ rs) rs) (same_clrs f g ws a.1)

pub same_upward : (f g : StandingUpdate → Bool) (ws : List StandingUpdate) → AgreeOn f g ws → Upward f ws → Upward g ws
same_upward f g [] a up = tt
same_upward f g (w ∷ ws) a up =
    ((λ out. all_mono _ _ (λ v h same sets. sym h.0 ∙ h.1 same sets) ws (all_both _ _ ws a.1 (up.0 (a.0 ∙ out)))), same_upward f g ws a.1 up.1)

pub same_newest : (f g : StandingUpdate → Bool) (ws : List StandingUpdate) → AgreeOn f g ws → NewestGo f ws → NewestGo g ws
same_newest f g [] a up = tt
same_newest f g (w ∷ ws) a up = ((λ out. all_mono _ _ (λ v h same. sym h.0 ∙ h.1 same) ws (all_both _ _ ws a.1 (up.0 (a.0 ∙ out)))), same_newest f g ws a.1 up.1)

-- ---- the newest writes of a transaction, by their LSNs

abbrev pub newest_test : ℕ → TxId → List StandingUpdate → StandingUpdate → Bool
newest_test n tx ws w = is_at (newest_lsns n tx ws) w

lsns_of_others : (n : ℕ) (tx : TxId) (w : StandingUpdate) (ws : List StandingUpdate) → tx_same tx w.tx ≡ false → newest_lsns n tx (w ∷ ws) ≡ newest_lsns n tx ws
lsns_of_others n tx w ws e = ap (λ l. take n (map (λ v. v.lsn) l)) (cond-false (tx_same tx w.tx) (w ∷ filter (λ v. tx_same tx v.tx) ws) (filter (λ v. tx_same tx v.tx) ws) e)

lsns_of_own : (n : ℕ) (tx : TxId) (w : StandingUpdate) (ws : List StandingUpdate) → tx_same tx w.tx ≡ true → newest_lsns (suc n) tx (w ∷ ws) ≡ w.lsn ∷ newest_lsns n tx ws
lsns_of_own n tx w ws e = ap (λ l. take (suc n) (map (λ v. v.lsn) l)) (cond-true (tx_same tx w.tx) (w ∷ filter (λ v. tx_same tx v.tx) ws) (filter (λ v. tx_same tx v.tx) ws) e)

lsns_below : (m n : ℕ) (tx : TxId) (ws : List StandingUpdate) → Falls m ws → AllByRecursion (λ x. x < m) (newest_lsns n tx ws)
lsns_below m zero tx ws f = tt
lsns_below m (suc n) tx [] f = tt
lsns_below m (suc n) tx (w ∷ ws) f =
    ⊎_elim
    (λ e. subst (AllByRecursion (λ x. x < m)) (sym (lsns_of_own n tx w ws e)) (f.0, lower (newest_lsns n tx ws) (lsns_below w.lsn n tx ws f.1)))
    (λ e. subst (AllByRecursion (λ x. x < m)) (sym (lsns_of_others (suc n) tx w ws e)) (lower (newest_lsns (suc n) tx ws) (lsns_below w.lsn (suc n) tx ws f.1)))
    (cases_Bool (tx_same tx w.tx))
  where
    lower : (xs : List ℕ) → AllByRecursion (λ x. x < w.lsn) xs → AllByRecursion (λ x. x < m) xs
    lower xs a = all_mono _ _ (λ x (h : x < w.lsn). let l : w.lsn < m = f.0 in omega arith) xs a

not_among : (m : ℕ) (xs : List ℕ) → AllByRecursion (λ x. x < m) xs → nat_in m xs ≡ false
not_among m [] a = refl
not_among m (x ∷ xs) a = ap (λ b. b || nat_in m xs) (ne_eqb m x (λ q. let l : x < m = a.0 in absurd (omega arith))) ∙ not_among m xs a.1

head_other : (m n : ℕ) (tx : TxId) (w : StandingUpdate) (ws : List StandingUpdate) → Falls m (w ∷ ws) → tx_same tx w.tx ≡ false → newest_test n tx (w ∷ ws) w ≡ false
head_other m n tx w ws f e = ap (nat_in w.lsn) (lsns_of_others n tx w ws e) ∙ not_among w.lsn (newest_lsns n tx ws) (lsns_below w.lsn n tx ws f.1)

rest_other : (n : ℕ) (tx : TxId) (w : StandingUpdate) (ws : List StandingUpdate) → tx_same tx w.tx ≡ false → AgreeOn (newest_test n tx (w ∷ ws)) (newest_test n tx ws) ws
rest_other n tx w ws e = all_of _ (λ v. ap (nat_in v.lsn) (lsns_of_others n tx w ws e)) ws

head_own : (n : ℕ) (tx : TxId) (w : StandingUpdate) (ws : List StandingUpdate) → tx_same tx w.tx ≡ true → newest_test (suc n) tx (w ∷ ws) w ≡ true
head_own n tx w ws e = ap (nat_in w.lsn) (lsns_of_own n tx w ws e) ∙ or_left _ _ (eq-eqb w.lsn w.lsn refl)

rest_own : (m n : ℕ) (tx : TxId) (w : StandingUpdate) (ws : List StandingUpdate) → Falls m (w ∷ ws) → tx_same tx w.tx ≡ true → AgreeOn (newest_test (suc n) tx (w ∷ ws)) (newest_test n tx ws) ws
rest_own m n tx w ws f e =
    all_mono _ _
    (λ v (l : v.lsn < w.lsn). ap (nat_in v.lsn) (lsns_of_own n tx w ws e) ∙ ap (λ b. b || nat_in v.lsn (newest_lsns n tx ws)) (ne_eqb v.lsn w.lsn (λ q. absurd (omega arith))))
    ws (falls_below w.lsn ws f.1)

-- they are writes of the transaction, and its newest ones
pub newest_own : (m n : ℕ) (tx : TxId) (ws : List StandingUpdate) → Falls m ws → AllByRecursion (λ v. newest_test n tx ws v ≡ true → tx_same tx v.tx ≡ true) ws
newest_own m zero tx ws f = all_of _ (λ v e. absurd (both_ways false refl e)) ws
newest_own m (suc n) tx [] f = tt
newest_own m (suc n) tx (w ∷ ws) f =
    ⊎_elim
    (λ e. ((λ i. e), all_mono _ _ (λ v h i. h.1 (sym h.0 ∙ i)) ws (all_both _ _ ws (rest_own m n tx w ws f e) (newest_own w.lsn n tx ws f.1))))
    (λ e. ((λ i. absurd (both_ways _ (head_other m (suc n) tx w ws f e) i)), all_mono _ _ (λ v h i. h.1 (sym h.0 ∙ i)) ws (all_both _ _ ws (rest_other (suc n) tx w ws e) (newest_own w.lsn (suc n) tx ws f.1))))
    (cases_Bool (tx_same tx w.tx))

pub newest_first : (m n : ℕ) (tx : TxId) (ws : List StandingUpdate) → Falls m ws → NewestGo (newest_test n tx ws) ws
newest_first m n tx [] f = tt
newest_first m zero tx (w ∷ ws) f = ((λ out. all_of _ (λ v same. refl) ws), newest_first w.lsn zero tx ws f.1)
newest_first m (suc n) tx (w ∷ ws) f =
    ⊎_elim
    (λ e. (
      (λ out. absurd (both_ways _ out (head_own n tx w ws e))),
      same_newest _ _ ws (agree_back _ _ ws (rest_own m n tx w ws f e)) (newest_first w.lsn n tx ws f.1),
    ))
    (λ e. (
      (λ out. all_mono _ _ (λ v h same. others v.tx (tx_true v.tx w.tx same) h.0 h.1 e) ws (all_both _ _ ws (rest_other (suc n) tx w ws e) (newest_own w.lsn (suc n) tx ws f.1))),
      same_newest _ _ ws (agree_back _ _ ws (rest_other (suc n) tx w ws e)) (newest_first w.lsn (suc n) tx ws f.1),
    ))
    (cases_Bool (tx_same tx w.tx))
  where
    others : {a b : Bool} (u : TxId) → u ≡ w.tx → a ≡ b → (b ≡ true → tx_same tx u ≡ true) → tx_same tx w.tx ≡ false → a ≡ false
    others u same q own e = false_from_ne_true _ (λ i. both_ways _ e (subst (λ z. tx_same tx z ≡ true) same (own (sym q ∙ i))))

-- any test that takes back so many of its writes, and the newest ones of them, is this one
pub newest_agree : (gone : StandingUpdate → Bool) (m n : ℕ) (tx : TxId) (ws : List StandingUpdate) → Falls m ws → NewestGo gone ws → AllByRecursion (λ v. gone v ≡ true → tx_same tx v.tx ≡ true) ws → length (filter gone ws) ≡ n → AgreeOn (newest_test n tx ws) gone ws
newest_agree gone m n tx [] f newest own count = tt
newest_agree gone m n tx (w ∷ ws) f newest own count =
    ⊎_elim
    (λ g. subst (λ z. AgreeOn (newest_test z tx (w ∷ ws)) gone (w ∷ ws)) (sym (ap length (cond-true (gone w) (w ∷ filter gone ws) (filter gone ws) g)) ∙ count) (
      head_own (length (filter gone ws)) tx w ws (own.0 g) ∙ sym g,
      all_mono _ _ (λ v h. h.0 ∙ h.1) ws (all_both _ _ ws (rest_own m (length (filter gone ws)) tx w ws f (own.0 g)) (newest_agree gone w.lsn (length (filter gone ws)) tx ws f.1 newest.1 own.1 refl)),
    ))
    (λ g. let fewer : length (filter gone ws) ≡ n = sym (ap length (cond-false (gone w) (w ∷ filter gone ws) (filter gone ws) g)) ∙ count in
    ⊎_elim
    (λ e. let none = none_gone g e in
    subst (λ z. AgreeOn (newest_test z tx (w ∷ ws)) gone (w ∷ ws)) (sym (ap length (filter_none gone ws none)) ∙ fewer) (sym g, all_mono _ _ (λ v h. sym h) ws none))
    (λ e. (head_other m n tx w ws f e ∙ sym g, all_mono _ _ (λ v h. h.0 ∙ h.1) ws (all_both _ _ ws (rest_other n tx w ws e) (newest_agree gone w.lsn n tx ws f.1 newest.1 own.1 fewer))))
    (cases_Bool (tx_same tx w.tx)))
    (cases_Bool (gone w))
  where
    filter_none : (gone : StandingUpdate → Bool) (vs : List StandingUpdate) → AllByRecursion (λ v. gone v ≡ false) vs → filter gone vs ≡ []
    filter_none gone [] a = refl
    filter_none gone (v ∷ vs) a = cond-false (gone v) (v ∷ filter gone vs) (filter gone vs) a.0 ∙ filter_none gone vs a.1

    none_gone : gone w ≡ false → tx_same tx w.tx ≡ true → AllByRecursion (λ v. gone v ≡ false) ws
    none_gone g e =
        all_mono _ _ (λ v h. false_from_ne_true _ (λ i. both_ways _ (h.0 (subst (λ z. tx_same v.tx z ≡ true) (tx_true tx w.tx e) (tx_flip tx v.tx (h.1 i)))) i)) ws (all_both _ _ ws (newest.0 g) own.1)

-- ---- what stands without them

-- the writes without the newest n of a transaction
abbrev pub but_newest : ℕ → TxId → List StandingUpdate → List StandingUpdate
but_newest zero tx ws = ws
but_newest (suc n) tx ws = but_newest n tx (without_newest tx ws)

but_none : (n : ℕ) (tx : TxId) → but_newest n tx [] ≡ []
but_none zero tx = refl
but_none (suc n) tx = but_none n tx

pub but_other : (n : ℕ) (tx : TxId) (w : StandingUpdate) (ws : List StandingUpdate) → tx_same tx w.tx ≡ false → but_newest n tx (w ∷ ws) ≡ w ∷ but_newest n tx ws
but_other zero tx w ws e = refl
but_other (suc n) tx w ws e = ap (but_newest n tx) (cond-false (tx_same tx w.tx) ws (w ∷ without_newest tx ws) e) ∙ but_other n tx w (without_newest tx ws) e

pub filter_is_but : (m n : ℕ) (tx : TxId) (ws : List StandingUpdate) → Falls m ws → filter (stays_by (newest_test n tx ws)) ws ≡ but_newest n tx ws
filter_is_but m zero tx ws f = filter_all_by (newest_test zero tx ws) ws (all_of _ (λ v. refl) ws)
filter_is_but m (suc n) tx [] f = sym (but_none n tx)
filter_is_but m (suc n) tx (w ∷ ws) f =
    ⊎_elim
    (λ e. cond-false (stays_by (newest_test (suc n) tx (w ∷ ws)) w) _ _ (ap not (head_own n tx w ws e))
    ∙ same_filter _ _ ws (rest_own m n tx w ws f e)
    ∙ filter_is_but w.lsn n tx ws f.1
    ∙ ap (but_newest n tx) (sym (cond-true (tx_same tx w.tx) ws (w ∷ without_newest tx ws) e)))
    (λ e. cond-true (stays_by (newest_test (suc n) tx (w ∷ ws)) w) _ _ (ap not (head_other m (suc n) tx w ws f e))
    ∙ ap (λ l. w ∷ l) (same_filter _ _ ws (rest_other (suc n) tx w ws e) ∙ filter_is_but w.lsn (suc n) tx ws f.1)
    ∙ sym (but_other (suc n) tx w ws e))
    (cases_Bool (tx_same tx w.tx))

pub standing_rolled : (tx : TxId) (n : ℕ) (l : Local) → standing (roll_to tx n l).log ≡ filter (stays_by (newest_test n tx (standing l.log))) (standing l.log)
standing_rolled tx n l = standing_undone_by (newest_test n tx (standing l.log)) l.log (newest_first (length l.log) n tx (standing l.log) (standing_falls l.log))

pub rolled_is : (tx : TxId) (n : ℕ) (l : Local) → standing (roll_to tx n l).log ≡ but_newest n tx (standing l.log)
rolled_is tx n l = standing_rolled tx n l ∙ filter_is_but (length l.log) n tx (standing l.log) (standing_falls l.log)

-- by any test that comes to the same
pub rolled_by : (gone : StandingUpdate → Bool) (tx : TxId) (n : ℕ) (l : Local) → NewestGo gone (standing l.log) → AllByRecursion (λ v. gone v ≡ true → tx_same tx v.tx ≡ true) (standing l.log) → length (filter gone (standing l.log)) ≡ n
    → standing (roll_to tx n l).log ≡ filter (stays_by gone) (standing l.log)
rolled_by gone tx n l newest own count = standing_rolled tx n l ∙ same_filter _ _ (standing l.log) (newest_agree gone (length l.log) n tx (standing l.log) (standing_falls l.log) newest own count)

-- ---- whose writes stand after it

but_has_other : (n : ℕ) (t tx : TxId) (ws : List StandingUpdate) → tx_same t tx ≡ false → has_write (but_newest n tx ws) t ≡ has_write ws t
but_has_other zero t tx ws e = refl
but_has_other (suc n) t tx ws e = but_has_other n t tx (without_newest tx ws) e ∙ without_other t tx ws e

pub rolled_other : (t tx : TxId) (n : ℕ) (l : Local) → tx_same t tx ≡ false → has_standing (roll_to tx n l).log t ≡ has_standing l.log t
rolled_other t tx n l e = ap (λ ws. has_write ws t) (rolled_is tx n l) ∙ but_has_other n t tx (standing l.log) e

without_none : (tx : TxId) (ws : List StandingUpdate) → has_write ws tx ≡ false → without_newest tx ws ≡ ws
without_none tx [] e = refl
without_none tx (w ∷ ws) e = at (tx_same tx w.tx) (λ h. without_none tx ws h) e
  where
    at : (b : Bool) → (has_write ws tx ≡ false → without_newest tx ws ≡ ws) → (b || has_write ws tx) ≡ false → cond b ws (w ∷ without_newest tx ws) ≡ w ∷ ws
    at true k h = absurd (both_ways true h refl)
    at false k h = ap (λ l. w ∷ l) (k h)

pub counts_but : (n : ℕ) (tx : TxId) (ws : List StandingUpdate) → count_writes tx (but_newest n tx ws) ≡ count_writes tx ws - n
counts_but zero tx ws = omega arith
counts_but (suc n) tx ws =
    counts_but n tx (without_newest tx ws)
    ∙ ⊎_elim
    (λ e. let c : suc (count_writes tx (without_newest tx ws)) ≡ count_writes tx ws = counts_without tx ws e in omega arith)
    (λ e. let c : count_writes tx (without_newest tx ws) ≡ count_writes tx ws = ap (count_writes tx) (without_none tx ws e) in
    let z : count_writes tx ws ≡ 0 = none_counted (count_writes tx ws) (sym (counts_some tx ws) ∙ e) in omega arith)
    (cases_Bool (has_write ws tx))
  where
    none_counted : (k : ℕ) → nat_lt 0 k ≡ false → k ≡ 0
    none_counted zero e = refl
    none_counted (suc k) e = absurd (both_ways _ e (lt-ltb 0 (suc k) (omega arith)))

-- one of its own stands where fewer are taken back than stood
pub rolled_own : (tx : TxId) (n : ℕ) (l : Local) → has_standing (roll_to tx n l).log tx ≡ nat_lt n (count_writes tx (standing l.log))
rolled_own tx n l =
    ap (λ ws. has_write ws tx) (rolled_is tx n l) ∙ counts_some tx (but_newest n tx (standing l.log)) ∙ ap (nat_lt 0) (counts_but n tx (standing l.log)) ∙ above (count_writes tx (standing l.log))
  where
    above : (k : ℕ) → nat_lt 0 (k - n) ≡ nat_lt n k
    above k = ⊎_elim (λ l. lt-ltb 0 (k - n) (omega arith) ∙ sym (lt-ltb n k l)) (λ g. le-ltb 0 (k - n) (omega arith) ∙ sym (le-ltb n k g)) (cases_lt n k)

-- ---- values after it

-- no write of the transaction lies below another's, but ADDs below ADDs: so none of its newest does
pub newest_up : (m n : ℕ) (tx : TxId) (ws : List StandingUpdate) → Falls m ws → Upward (is_of (tx ∷ [])) ws → Upward (newest_test n tx ws) ws
newest_up m n tx [] f up = tt
newest_up m zero tx (w ∷ ws) f up = ((λ out. all_of _ (λ v same sets. refl) ws), newest_up w.lsn zero tx ws f.1 up.1)
newest_up m (suc n) tx (w ∷ ws) f up =
    ⊎_elim
    (λ e. (
      (λ out. absurd (both_ways _ out (head_own n tx w ws e))),
      same_upward _ _ ws (agree_back _ _ ws (rest_own m n tx w ws f e)) (newest_up w.lsn n tx ws f.1 up.1),
    ))
    (λ e. (
      (λ out. all_mono _ _ (λ v h same sets. spared (h.0 same sets) h.1.0 h.1.1) ws
          (all_both _ _ ws (up.0 (ap (λ b. b || false) e)) (all_both _ _ ws (rest_other (suc n) tx w ws e) (newest_own w.lsn (suc n) tx ws f.1)))),
      same_upward _ _ ws (agree_back _ _ ws (rest_other (suc n) tx w ws e)) (newest_up w.lsn (suc n) tx ws f.1 up.1),
    ))
    (cases_Bool (tx_same tx w.tx))
  where
    spared : {a b c : Bool} → (c || false) ≡ false → a ≡ b → (b ≡ true → c ≡ true) → a ≡ false
    spared out q own = false_from_ne_true _ (λ i. both_ways _ out (or_left _ _ (own (sym q ∙ i))))

newest_have : (m n : ℕ) (tx : TxId) (ws : List StandingUpdate) (rs : Records) → Falls m ws → HaveRecords rs (is_of (tx ∷ [])) ws → HaveRecords rs (newest_test n tx ws) ws
newest_have m n tx ws rs f have = all_mono _ _ (λ v h i. h.0 (or_left _ _ (h.1 i))) ws (all_both _ _ ws have (newest_own m n tx ws f))

-- the records' values are again those of what stands
pub values_rolled : (floor : KeyMap) (tx : TxId) (n : ℕ) (l : Local) (k : ℕ) → Chain floor (standing l.log) → Upward (is_of (tx ∷ [])) (standing l.log) → HaveRecords l.records (is_of (tx ∷ [])) (standing l.log) → value_at k l.records ≡ top_value floor k (standing l.log)
    → value_at k (roll_to tx n l).records ≡ top_value floor k (standing (roll_to tx n l).log)
values_rolled floor tx n l k chain up have e =
    let f = standing_falls l.log in
    values_undone floor (newest_test n tx (standing l.log)) (standing l.log) l.records k chain (newest_up (length l.log) n tx (standing l.log) f up) (newest_have (length l.log) n tx (standing l.log) l.records f have) e
    ∙ ap (top_value floor k) (sym (standing_rolled tx n l))

pub chain_rolled : (floor : KeyMap) (tx : TxId) (n : ℕ) (l : Local) → Upward (is_of (tx ∷ [])) (standing l.log) → Chain floor (standing l.log) → Chain floor (standing (roll_to tx n l).log)
chain_rolled floor tx n l up chain =
    subst (Chain floor) (sym (standing_rolled tx n l)) (chain_stays floor (newest_test n tx (standing l.log)) (standing l.log) (newest_up (length l.log) n tx (standing l.log) (standing_falls l.log) up) chain)

-- a record at a key where the transaction wrote nothing that stands is as it was
pub record_rolled : (tx : TxId) (n : ℕ) (l : Local) (k : ℕ) → AllByRecursion (λ w. w.key ≡ k → tx_same tx w.tx ≡ false) (standing l.log) → record_at k (roll_to tx n l).records ≡ record_at k l.records
record_rolled tx n l k out = record_undone (newest_test n tx (standing l.log)) (standing l.log) l.records k ∙ same (record_at k l.records)
  where
    same : (o : Option (Option ValueType)) → reset (newest_test n tx (standing l.log)) (standing l.log) k o ≡ o
    same None = refl
    same (Some v) =
        ap Some (unwritten (newest_test n tx (standing l.log)) k (standing l.log) v (all_mono _ _ (λ w h q. false_from_ne_true _ (λ i. both_ways _ (h.0 q) (h.1 i))) (standing l.log)
        (all_both _ _ (standing l.log) out (newest_own (length l.log) n tx (standing l.log) (standing_falls l.log)))))

-- and the same keys have records
pub keys_without : (gone : StandingUpdate → Bool) (ws : List StandingUpdate) (rs : Records) → keys_of (records_without gone ws rs) ≡ keys_of rs
keys_without gone ws [] = refl
keys_without gone ws (r ∷ rs) = ap (λ ks. r.0 ∷ ks) (keys_without gone ws rs)

-- ---- write by write

-- the newest write is taken back
abbrev pub undo_newest : TxId → StandingUpdate → Local → Local
undo_newest tx w l =
    record l {
      records = map (λ r. (r.0, cond (r.0 == w.key) (unchanged w.change r.1) r.1)) l.records;
      log = l.log ++ compensation tx (newest_lsn tx (without_newest tx (standing l.log))) w.key w.change ∷ [];
    }

newest_here : (tx : TxId) (v w : StandingUpdate) (ws : List StandingUpdate) → tx_same tx v.tx ≡ true → newest_of tx (v ∷ ws) ≡ Some w → v ≡ w
newest_here tx v w ws s e = same_Some v w (sym (cond-true (tx_same tx v.tx) (Some v) (newest_of tx ws) s) ∙ e)

newest_later : (tx : TxId) (v w : StandingUpdate) (ws : List StandingUpdate) → tx_same tx v.tx ≡ false → newest_of tx (v ∷ ws) ≡ Some w → newest_of tx ws ≡ Some w
newest_later tx v w ws s e = sym (cond-false (tx_same tx v.tx) (Some v) (newest_of tx ws) s) ∙ e

falls_less : (m : ℕ) (tx : TxId) (v : StandingUpdate) (ws : List StandingUpdate) → Falls m (v ∷ ws) → Falls m (v ∷ without_newest tx ws)
falls_less m tx v ws f = (f.0, falls_without tx v.lsn ws f.1)

undone_step : (m n k : ℕ) (tx : TxId) (ws : List StandingUpdate) (w : StandingUpdate) (x : Option ValueType) → Falls m ws → newest_of tx ws ≡ Some w
    → undone_at (newest_test (suc n) tx ws) k ws x ≡ undone_at (newest_test n tx (without_newest tx ws)) k (without_newest tx ws) (cond (k == w.key) (unchanged w.change x) x)
undone_step m n k tx [] w x f e = absurd (none-some w e)
undone_step m n k tx (v ∷ ws) w x f e =
    ⊎_elim
    (λ s. let same = newest_here tx v w ws s e in
    ap (λ b. undone_at (newest_test (suc n) tx (v ∷ ws)) k ws (cond (b && (k == v.key)) (unchanged v.change x) x)) (head_own n tx v ws s)
    ∙ same_undone _ _ k ws (cond (k == v.key) (unchanged v.change x) x) (rest_own m n tx v ws f s)
    ∙ ap (λ u. undone_at (newest_test n tx ws) k ws (cond (k == u.key) (unchanged u.change x) x)) same
    ∙ ap (λ us. undone_at (newest_test n tx us) k us (cond (k == w.key) (unchanged w.change x) x)) (sym (cond-true (tx_same tx v.tx) ws (v ∷ without_newest tx ws) s)))
    (λ s. ap (λ b. undone_at (newest_test (suc n) tx (v ∷ ws)) k ws (cond (b && (k == v.key)) (unchanged v.change x) x)) (head_other m (suc n) tx v ws f s)
    ∙ same_undone _ _ k ws x (rest_other (suc n) tx v ws s)
    ∙ undone_step v.lsn n k tx ws w x f.1 (newest_later tx v w ws s e)
    ∙ sym (same_undone _ _ k (without_newest tx ws) (cond (k == w.key) (unchanged w.change x) x) (rest_other n tx v (without_newest tx ws) s))
    ∙ ap (λ b. undone_at (newest_test n tx (v ∷ without_newest tx ws)) k (without_newest tx ws) (cond (b && (k == v.key)) (unchanged v.change (cond (k == w.key) (unchanged w.change x) x)) (cond (k == w.key) (unchanged w.change x) x)))
    (sym (head_other m n tx v (without_newest tx ws) (falls_less m tx v ws f) s))
    ∙ ap (λ us. undone_at (newest_test n tx us) k us (cond (k == w.key) (unchanged w.change x) x)) (sym (cond-false (tx_same tx v.tx) ws (v ∷ without_newest tx ws) s)))
    (cases_Bool (tx_same tx v.tx))

records_step : (m n : ℕ) (tx : TxId) (ws : List StandingUpdate) (w : StandingUpdate) (rs : Records) → Falls m ws → newest_of tx ws ≡ Some w
    → records_without (newest_test (suc n) tx ws) ws rs ≡ records_without (newest_test n tx (without_newest tx ws)) (without_newest tx ws) (map (λ r. (r.0, cond (r.0 == w.key) (unchanged w.change r.1) r.1)) rs)
records_step m n tx ws w [] f e = refl
records_step m n tx ws w (r ∷ rs) f e =
    ap (λ x. (r.0, x) ∷ records_without (newest_test (suc n) tx ws) ws rs) (undone_step m n r.0 tx ws w r.1 f e)
    ∙ ap (λ l. record_without (newest_test n tx (without_newest tx ws)) (without_newest tx ws) (r.0, cond (r.0 == w.key) (unchanged w.change r.1) r.1) ∷ l) (records_step m n tx ws w rs f e)

clrs_step : (m n : ℕ) (tx : TxId) (ws : List StandingUpdate) (w : StandingUpdate) → Falls m ws → newest_of tx ws ≡ Some w
    → clrs_by (newest_test (suc n) tx ws) ws ≡ compensation tx (newest_lsn tx (without_newest tx ws)) w.key w.change ∷ clrs_by (newest_test n tx (without_newest tx ws)) (without_newest tx ws)
clrs_step m n tx [] w f e = absurd (none-some w e)
clrs_step m n tx (v ∷ ws) w f e =
    ⊎_elim
    (λ s. let same = newest_here tx v w ws s e in
    cond-true (newest_test (suc n) tx (v ∷ ws) v) (compensation v.tx (newest_lsn v.tx ws) v.key v.change ∷ clrs_by (newest_test (suc n) tx (v ∷ ws)) ws) (clrs_by (newest_test (suc n) tx (v ∷ ws)) ws) (head_own n tx v ws s)
    ∙ ap (λ rs. compensation v.tx (newest_lsn v.tx ws) v.key v.change ∷ rs) (same_clrs _ _ ws (rest_own m n tx v ws f s))
    ∙ ap (λ t. compensation t (newest_lsn t ws) v.key v.change ∷ clrs_by (newest_test n tx ws) ws) (sym (tx_true tx v.tx s))
    ∙ ap (λ u. compensation tx (newest_lsn tx ws) u.key u.change ∷ clrs_by (newest_test n tx ws) ws) same
    ∙ ap (λ us. compensation tx (newest_lsn tx us) w.key w.change ∷ clrs_by (newest_test n tx us) us) (sym (cond-true (tx_same tx v.tx) ws (v ∷ without_newest tx ws) s)))
    (λ s. cond-false (newest_test (suc n) tx (v ∷ ws) v) (compensation v.tx (newest_lsn v.tx ws) v.key v.change ∷ clrs_by (newest_test (suc n) tx (v ∷ ws)) ws) (clrs_by (newest_test (suc n) tx (v ∷ ws)) ws) (head_other m (suc n) tx v ws f s)
    ∙ same_clrs _ _ ws (rest_other (suc n) tx v ws s)
    ∙ clrs_step v.lsn n tx ws w f.1 (newest_later tx v w ws s e)
    ∙ ap (λ o. compensation tx (elim o [ Some u ↦ Some u.lsn | None ↦ None ]) w.key w.change ∷ clrs_by (newest_test n tx (without_newest tx ws)) (without_newest tx ws)) (sym (cond-false (tx_same tx v.tx) (Some v) (newest_of tx (without_newest tx ws)) s))
    ∙ ap (λ rs. compensation tx (newest_lsn tx (v ∷ without_newest tx ws)) w.key w.change ∷ rs)
    (sym (cond-false (newest_test n tx (v ∷ without_newest tx ws) v) (compensation v.tx (newest_lsn v.tx (without_newest tx ws)) v.key v.change ∷ clrs_by (newest_test n tx (v ∷ without_newest tx ws)) (without_newest tx ws))
    (clrs_by (newest_test n tx (v ∷ without_newest tx ws)) (without_newest tx ws)) (head_other m n tx v (without_newest tx ws) (falls_less m tx v ws f) s)
    ∙ same_clrs _ _ (without_newest tx ws) (rest_other n tx v (without_newest tx ws) s)))
    ∙ ap (λ us. compensation tx (newest_lsn tx us) w.key w.change ∷ clrs_by (newest_test n tx us) us) (sym (cond-false (tx_same tx v.tx) ws (v ∷ without_newest tx ws) s)))
    (cases_Bool (tx_same tx v.tx))

pub undo_stands : (tx : TxId) (w : StandingUpdate) (l : Local) → standing (undo_newest tx w l).log ≡ without_newest tx (standing l.log)
undo_stands tx w l =
    let next = newest_lsn tx (without_newest tx (standing l.log)) in
    standing_push l.log (compensation tx next w.key w.change) ∙ compensates (length l.log) tx next w.key w.change (standing l.log)

-- a going back takes the newest one back, and then the others
pub roll_step : (tx : TxId) (n : ℕ) (l : Local) (w : StandingUpdate) → newest_of tx (standing l.log) ≡ Some w → roll_to tx (suc n) l ≡ roll_to tx n (undo_newest tx w l)
roll_step tx n l w e =
    let f = standing_falls l.log in
    ap (λ rs. record l { records = rs; log = l.log ++ clrs_by (newest_test (suc n) tx (standing l.log)) (standing l.log) }) (records_step (length l.log) n tx (standing l.log) w l.records f e)
    ∙ ap (λ rs. record l { records = records_without (newest_test n tx (without_newest tx (standing l.log))) (without_newest tx (standing l.log)) (undo_newest tx w l).records; log = rs })
    (ap (λ rs. l.log ++ rs) (clrs_step (length l.log) n tx (standing l.log) w f e)
    ∙ sym (append_assoc l.log (compensation tx (newest_lsn tx (without_newest tx (standing l.log))) w.key w.change ∷ []) (clrs_by (newest_test n tx (without_newest tx (standing l.log))) (without_newest tx (standing l.log)))))
    ∙ ap (λ ws. record l { records = records_without (newest_test n tx ws) ws (undo_newest tx w l).records; log = (undo_newest tx w l).log ++ clrs_by (newest_test n tx ws) ws }) (sym (undo_stands tx w l))

-- where there is nothing to take back, nothing changes
pub take_back_none : (l : Local) → take_back [] l ≡ l
take_back_none l = ap (λ rs. record l { records = rs; log = l.log ++ clrs_by (is_at []) (standing l.log) }) (as_they_were l.records) ∙ ap (λ rs. record l { log = l.log ++ rs }) (no_clrs (standing l.log)) ∙ ap (λ rs. record l { log = rs }) (append_nil l.log)
  where
    same_value : (k : ℕ) (ws : List StandingUpdate) (v : Option ValueType) → undone_at (is_at []) k ws v ≡ v
    same_value k [] v = refl
    same_value k (w ∷ ws) v = same_value k ws v

    as_they_were : (rs : Records) → records_without (is_at []) (standing l.log) rs ≡ rs
    as_they_were [] = refl
    as_they_were (r ∷ rs) = ap (λ v. (r.0, v) ∷ records_without (is_at []) (standing l.log) rs) (same_value r.0 (standing l.log) r.1) ∙ ap (λ l. r ∷ l) (as_they_were rs)

    no_clrs : (ws : List StandingUpdate) → clrs_by (is_at []) ws ≡ []
    no_clrs [] = refl
    no_clrs (w ∷ ws) = no_clrs ws

pub roll_nothing : (tx : TxId) (l : Local) → roll_to tx 0 l ≡ l
roll_nothing tx l = take_back_none l

pub roll_none : (tx : TxId) (n : ℕ) (l : Local) → has_standing l.log tx ≡ false → roll_to tx n l ≡ l
roll_none tx n l e = ap (λ ns. take_back ns l) (no_lsns n (standing l.log) e) ∙ take_back_none l
  where
    no_lsns : (n : ℕ) (ws : List StandingUpdate) → has_write ws tx ≡ false → newest_lsns n tx ws ≡ []
    no_lsns zero ws h = refl
    no_lsns (suc n) [] h = refl
    no_lsns (suc n) (w ∷ ws) h = let p = or_parts (tx_same tx w.tx) (has_write ws tx) h in lsns_of_others (suc n) tx w ws p.0 ∙ no_lsns (suc n) ws p.1

-- ---- its records

-- what each of them is
pub clrs_each : (P : LogRecord → Type 0) (gone : StandingUpdate → Bool) (ws : List StandingUpdate) → AllByRecursion (λ w. gone w ≡ true → (next : Option ℕ) → P (compensation w.tx next w.key w.change)) ws → AllByRecursion P (clrs_by gone ws)
clrs_each P gone [] each = tt
clrs_each P gone (w ∷ ws) each =
    cond_both (gone w) (compensation w.tx (newest_lsn w.tx ws) w.key w.change ∷ clrs_by gone ws) (clrs_by gone ws) (AllByRecursion P)
    (λ g. (each.0 g (newest_lsn w.tx ws), clrs_each P gone ws each.1)) (λ g. clrs_each P gone ws each.1)

-- of a going back each is an undo record of the transaction
pub rolled_each : (P : LogRecord → Type 0) (tx : TxId) (n : ℕ) (log : List LogRecord) → ((next : Option ℕ) (key : ℕ) (change : Change) → P (compensation tx next key change)) → AllByRecursion P (clrs_by (newest_test n tx (standing log)) (standing log))
rolled_each P tx n log each =
    clrs_each P (newest_test n tx (standing log)) (standing log)
    (all_mono _ _ (λ w h g next. subst (λ t. P (compensation t next w.key w.change)) (tx_true tx w.tx (h g)) (each next w.key w.change)) (standing log) (newest_own (length log) n tx (standing log) (standing_falls log)))
