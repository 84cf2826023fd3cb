-- How many records an undo writes.
use Rattle.std.proofs.Common.{◌≡◌, ℕ, ◌+◌, ◌≤◌, ⊎_elim, Bool, true, false, cond, not, ◌&&◌, ◌||◌, List, [], ◌∷◌, ◌++◌, length, refl, sym, ap, subst, ◌∙◌, arith}
use Rattle.std.proofs.lemmas.Bool.{both_ways, cases_Bool, false_from_ne_true}
use Rattle.std.proofs.lemmas.List.{length-map}
use Rattle.std.specs.List.{AllByRecursion, filter}
use Rattle.clv_base.specs.declared.names.TxId.{TxId}
use Rattle.clv_base.specs.declared.logs.LogRecord.{LogRecord}
use Rattle.clv_base.specs.declared.logs.LogRecord.TheVariants.{Abort}
use Rattle.clv_base.specs.Orders.{tx_same, tx_in}
use Rattle.clv_base.specs.Logs.{StandingUpdate, has_standing, standing, writers}
use Rattle.clv_base.specs.Undo.{aborts_of, clrs_of}
use Rattle.law_base.specs.Undone.{stays_by, stays_of}
use Rattle.clv_base.proofs.SameNames.{tx_true}
use Rattle.law_base.proofs.Bools.{none_or}
use Rattle.law_base.proofs.Numbers.{one_if}
use Rattle.law_base.proofs.Sets.{Rise}
use Rattle.law_base.proofs.Standing.{has_filter, has_write}
use Rattle.law_base.proofs.Undoing.{standing_undone}
use Rattle.cascade_undo.specs.Writes.{writes_of}
use Rattle.txn_core.specs.Sound.{owed_by, owed_for, writers_by, writes_by}
use Rattle.txn_core.proofs.Counting.{count-first, count-fewer, count-apart, count-covered, count-kept, count-within, in_set}
use Rattle.txn_core.proofs.Writers.{none_own, writers_alike, writers_gone, writers_of_others, writers_one, wrote_at_most}

-- an undo of a set writes a CLR or UNADD for each of the set's standing writes, and an ABORT for each of the set that has one
pub undo_at_most : (set : List TxId) (log : List LogRecord) → Rise set → length (aborts_of log set) + length (writes_of set (standing log)) ≤ owed_by (in_set set) log
undo_at_most set log s = let a = wrote_at_most set (standing log) s in let c = length-map (filter (has_standing log) set) (λ t. Abort t) in omega (arith, a, c)

-- ---- by tests of transactions

-- by a stricter test no more is owed
pub count_owed_fewer : (p q : TxId → Bool) (log : List LogRecord) → ((t : TxId) → p t ≡ true → q t ≡ true) → owed_by p log ≤ owed_by q log
count_owed_fewer p q log h =
    let a = count-fewer (λ (w : StandingUpdate). p w.tx) (λ w. q w.tx) (standing log) (λ w. h w.tx) in let b = count-fewer p q (writers (standing log)) h in omega (arith, a, b)

-- by two tests that exclude each other no more than by a wider one
pub count_owed_apart : (p q r : TxId → Bool) (log : List LogRecord) → ((t : TxId) → p t ≡ true → r t ≡ true) → ((t : TxId) → q t ≡ true → r t ≡ true) → ((t : TxId) → p t ≡ true → q t ≡ false)
    → owed_by p log + owed_by q log ≤ owed_by r log
count_owed_apart p q r log f g h =
    let a = count-apart (λ (w : StandingUpdate). p w.tx) (λ w. q w.tx) (λ w. r w.tx) (standing log) (λ w. f w.tx) (λ w. g w.tx) (λ w. h w.tx) in
    let b = count-apart p q r (writers (standing log)) f g h in omega (arith, a, b)

-- by two tests of which one passes wherever a third does, no less than by that
pub count_owed_covered : (p q r : TxId → Bool) (log : List LogRecord) → ((t : TxId) → r t ≡ true → p t ≡ false → q t ≡ true) → owed_by r log ≤ owed_by p log + owed_by q log
count_owed_covered p q r log h =
    let a = count-covered (λ (w : StandingUpdate). p w.tx) (λ w. q w.tx) (λ w. r w.tx) (standing log) (λ w. h w.tx) in let b = count-covered p q r (writers (standing log)) h in omega (arith, a, b)

-- to one of whom nothing stands nothing is owed
pub owed_of_others : (tx : TxId) (p q : TxId → Bool) (log : List LogRecord) → has_standing log tx ≡ false → ((t : TxId) → tx_same tx t ≡ false → p t ≡ true → q t ≡ true) → owed_by p log ≤ owed_by q log
owed_of_others tx p q log e h =
    let a = count-within (λ (w : StandingUpdate). p w.tx) (λ w. q w.tx) (standing log) (all_by (standing log) (none_own tx (standing log) e)) in
    let b = writers_of_others tx p q (standing log) e h in omega (arith, a, b)
  where
    all_by : (ws : List StandingUpdate) → AllByRecursion (λ w. tx_same tx w.tx ≡ false) ws → AllByRecursion (λ w. p w.tx ≡ true → q w.tx ≡ true) ws
    all_by [] a = tt
    all_by (w ∷ ws) a = (h w.tx a.0, all_by ws a.1)

-- ---- the log after it

-- by records that leave what stands no more and no less is owed
pub owed-still : (test : TxId → Bool) (log more : List LogRecord) → standing (log ++ more) ≡ standing log → owed_by test (log ++ more) ≡ owed_by test log
owed-still test log more e = ap (owed_for test) e

-- nor by the undo of those that don't pass
pub owed-undone : (test : TxId → Bool) (set : List TxId) (log : List LogRecord) → ((t : TxId) → test t ≡ true → tx_in t set ≡ false) → owed_by test (log ++ aborts_of log set ++ clrs_of set (standing log)) ≡ owed_by test log
owed-undone test set log out =
    let e = ap (owed_for test) (standing_undone set log) in
    let a = count-kept (λ (w : StandingUpdate). test w.tx) (stays_of set) (standing log) (λ w h. ap not (out w.tx h)) in
    let b = writers_alike test (filter (stays_of set) (standing log)) (standing log) (λ t h. has_filter (λ u. not (tx_in u set)) (standing log) t ∙ ap (λ c. not c && has_write (standing log) t) (out t h)) in
    omega (arith, e, a, b)

-- ---- a write more

-- two more by the first standing write of a transaction, one by each later one
pub owed-one : (test : TxId → Bool) (w : StandingUpdate) (ws : List StandingUpdate) → owed_for test (w ∷ ws) ≤ owed_for test ws + cond (has_write ws w.tx) 1 2
owed-one test w ws =
    let a = count-first (λ (v : StandingUpdate). test v.tx) w ws in let b = writers_one test w ws in let c = at (has_write ws w.tx) (test w.tx) in omega (arith, a, b, c)
  where
    at : (x p : Bool) → one_if p + one_if (not x && p) ≤ cond x 1 2
    at true true = omega arith
    at true false = omega arith
    at false true = omega arith
    at false false = omega arith

-- and no less for one that passes
pub owed-own : (test : TxId → Bool) (w : StandingUpdate) (ws : List StandingUpdate) → test w.tx ≡ true → owed_for test ws + cond (has_write ws w.tx) 1 2 ≤ owed_for test (w ∷ ws)
owed-own test w ws own =
    let a = count-first (λ (v : StandingUpdate). test v.tx) w ws in let b = writers_one test w ws in let passes = ap one_if own in
    let c = at (has_write ws w.tx) (test w.tx) own in omega (arith, a, b, c, passes)
  where
    at : (x p : Bool) → p ≡ true → cond x 1 2 ≤ 1 + one_if (not x && p)
    at x false e = absurd (both_ways false refl e)
    at true true e = omega arith
    at false true e = omega arith

-- ---- writes that are taken back

-- some writes of a transaction
abbrev pub AreOf : TxId → (StandingUpdate → Bool) → List StandingUpdate → Type 0
AreOf tx gone ws = AllByRecursion (λ w. tx_same tx w.tx ≡ false → gone w ≡ false) ws

-- what isn't owed any more: a CLR or UNADD for each that goes, and an ABORT where none is left
abbrev pub owed_less : TxId → (StandingUpdate → Bool) → List StandingUpdate → ℕ
owed_less tx gone ws = length (filter gone ws) + one_if (has_write ws tx && not (has_write (filter (stays_by gone) ws) tx))

module _ (test : TxId → Bool) (tx : TxId) (own : test tx ≡ true) (gone : StandingUpdate → Bool) where
  writes_back : (ws : List StandingUpdate) → AreOf tx gone ws → writes_by test (filter (stays_by gone) ws) + length (filter gone ws) ≡ writes_by test ws
  writes_back [] mine = refl
  writes_back (w ∷ ws) mine =
      let more = writes_back ws mine.1 in let a = count-first (λ (v : StandingUpdate). test v.tx) w ws in let b = count-first gone w ws in
      let c = at (gone w) refl in omega (arith, more, a, b, c)
    where
      passes : gone w ≡ true → test w.tx ≡ true
      passes g = ⊎_elim (λ s. ap test (sym (tx_true tx w.tx s)) ∙ own) (λ s. absurd (both_ways _ (mine.0 s) g)) (cases_Bool (tx_same tx w.tx))

      at : (b : Bool) → gone w ≡ b → writes_by test (cond (not b) (w ∷ filter (stays_by gone) ws) (filter (stays_by gone) ws)) + one_if b ≡ writes_by test (filter (stays_by gone) ws) + one_if (test w.tx)
      at true g = let p = ap one_if (passes g) in omega (arith, p)
      at false g = let a = count-first (λ (v : StandingUpdate). test v.tx) w (filter (stays_by gone) ws) in omega (arith, a)

  others_stay : (ws : List StandingUpdate) → AreOf tx gone ws → (t : TxId) → tx_same tx t ≡ false → has_write (filter (stays_by gone) ws) t ≡ has_write ws t
  others_stay [] mine t o = refl
  others_stay (w ∷ ws) mine t o = at (gone w) refl (others_stay ws mine.1 t o)
    where
      at : (b : Bool) → gone w ≡ b → has_write (filter (stays_by gone) ws) t ≡ has_write ws t → has_write (cond (not b) (w ∷ filter (stays_by gone) ws) (filter (stays_by gone) ws)) t ≡ (tx_same t w.tx || has_write ws t)
      at true g more =
          let other : tx_same t w.tx ≡ false = false_from_ne_true _ (λ s. both_ways _ (mine.0 (ap (tx_same tx) (sym (tx_true t w.tx s)) ∙ o)) g) in
          more ∙ sym (ap (λ b. b || has_write ws t) other)
      at false g more = ap (λ b. tx_same t w.tx || b) more

  fewer_left : (ws : List StandingUpdate) (t : TxId) → has_write ws t ≡ false → has_write (filter (stays_by gone) ws) t ≡ false
  fewer_left [] t e = refl
  fewer_left (w ∷ ws) t e = let p = none_or (tx_same t w.tx) (has_write ws t) e in at (gone w) (fewer_left ws t p.1) p.0
    where
      at : (b : Bool) → has_write (filter (stays_by gone) ws) t ≡ false → tx_same t w.tx ≡ false → has_write (cond (not b) (w ∷ filter (stays_by gone) ws) (filter (stays_by gone) ws)) t ≡ false
      at true more o = more
      at false more o = ap (λ b. b || has_write (filter (stays_by gone) ws) t) o ∙ more

  alike : (ws : List StandingUpdate) → AreOf tx gone ws → has_write (filter (stays_by gone) ws) tx ≡ has_write ws tx → writers_by test (filter (stays_by gone) ws) ≡ writers_by test ws
  alike ws mine e =
      writers_alike test (filter (stays_by gone) ws) ws
      (λ t _. ⊎_elim (λ s. subst (λ u. has_write (filter (stays_by gone) ws) u ≡ has_write ws u) (tx_true tx t s) e) (λ o. others_stay ws mine t o) (cases_Bool (tx_same tx t)))

  -- so much less is owed by each test that the transaction passes
  pub owed-back : (ws : List StandingUpdate) → AreOf tx gone ws → owed_for test (filter (stays_by gone) ws) + owed_less tx gone ws ≡ owed_for test ws
  owed-back ws mine = let a = writes_back ws mine in let b = at (has_write ws tx) (has_write (filter (stays_by gone) ws) tx) refl refl in omega (arith, a, b)
    where
      at : (s l : Bool) → has_write ws tx ≡ s → has_write (filter (stays_by gone) ws) tx ≡ l → writers_by test (filter (stays_by gone) ws) + one_if (s && not l) ≡ writers_by test ws
      at true false s l = writers_gone test tx ws (filter (stays_by gone) ws) own s l (λ u o. others_stay ws mine u o)
      at false true s l = absurd (both_ways _ (fewer_left ws tx s) l)
      at true true s l = let e = alike ws mine (l ∙ sym s) in omega (arith, e)
      at false false s l = let e = alike ws mine (l ∙ sym s) in omega (arith, e)
