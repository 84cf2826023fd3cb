-- The newest write of a set: it is the greatest of its transactions' newest, and what a look at one LSN tells of it.
use Rattle.std.proofs.Common.{◌≡◌, ℕ, ◌+◌, ◌<◌, ◌≤◌, Bool, true, false, cond, ◌||◌, List, [], ◌∷◌, ◌++◌, length, Option, Some, None, refl, sym, ap, subst, ◌∙◌, arith}
use Rattle.std.specs.Prelude.{slice_get, IfSome, IsNone}
use Rattle.std.specs.List.{AllByRecursion}
use Rattle.std.specs.Option.{option_cmp}
use Rattle.std.specs.Ordering.{nat_cmp, ord_max}
use Rattle.std.proofs.lemmas.Bool.{cond-true}
use Rattle.std.proofs.lemmas.Bool.Decides.{nat_tests}
use Rattle.clv_base.specs.declared.names.TxId.{TxId}
use Rattle.clv_base.specs.declared.logs.LogRecord.{LogRecord}
use Rattle.clv_base.specs.Orders.{tx_same, tx_in}
use Rattle.clv_base.specs.declared.changes.Change.{Change}
use Rattle.clv_base.specs.declared.changes.Change.TheVariants.{Sets, Adds}
use Rattle.clv_base.specs.OneShard.{update_of}
use Rattle.clv_base.specs.Logs.{StandingUpdate, standing, newest_of}
use Rattle.clv_base.specs.Undo.{is_of, newest_lsn}
use Rattle.clv_base.proofs.SameNames.{tx_self}
use Rattle.cascade_undo.proofs.Members.{tx_in-more}
use Rattle.cascade_undo.specs.declared.write.Write.{Write}
use Rattle.cascade_undo.specs.Steps.{newest_in, lsn_of, write_in, IsNewestIn, AreBelow}
use Rattle.cascade_undo.proofs.Splitting.{NoneOf, split_at, newest_above, newest_past}
use Rattle.cascade_undo.proofs.Standing.{falls, IsIn, in_log}
use Rattle.law_base.proofs.Bools.{by_bool as both, or_none}
use Rattle.law_base.proofs.Names.{other_name, Falls}

-- ---- the greatest of two LSNs

abbrev pub later : Option ℕ → Option ℕ → Option ℕ
later a b = ord_max (option_cmp nat_cmp) a b

abbrev IsUnder : ℕ → Option ℕ → Type 0
IsUnder n None = Unit {0}
IsUnder n (Some q) = q < n

under_weaker : (m n : ℕ) (o : Option ℕ) → m < n → IsUnder m o → IsUnder n o
under_weaker m n None l under = tt
under_weaker m n (Some q) l under = omega arith

later_same : (n : ℕ) → later (Some n) (Some n) ≡ Some n
later_same n = grind (arith, nat_tests)

later_first : (n : ℕ) (o : Option ℕ) → IsUnder n o → later (Some n) o ≡ Some n
later_first n None under = refl
later_first n (Some q) under = grind (arith, nat_tests)

later_second : (n : ℕ) (o : Option ℕ) → IsUnder n o → later o (Some n) ≡ Some n
later_second n None under = refl
later_second n (Some q) under = grind (arith, nat_tests)

-- ---- the greatest of a set

own_under : (n : ℕ) (t : TxId) (ws : List StandingUpdate) → Falls n ws → IsUnder n (newest_lsn t ws)
own_under n t [] f = tt
own_under n t (w ∷ ws) f = both (λ b. IsUnder n (lsn_of (cond b (Some w) (newest_of t ws)))) (tx_same t w.tx) (λ _. f.0) (λ _. under_weaker w.lsn n (newest_lsn t ws) f.0 (own_under w.lsn t ws f.1))

set_under : (n : ℕ) (set : List TxId) (ws : List StandingUpdate) → Falls n ws → IsUnder n (lsn_of (newest_in set ws))
set_under n set [] f = tt
set_under n set (w ∷ ws) f = both (λ b. IsUnder n (lsn_of (cond b (Some w) (newest_in set ws)))) (tx_in w.tx set) (λ _. f.0) (λ _. under_weaker w.lsn n (lsn_of (newest_in set ws)) f.0 (set_under w.lsn set ws f.1))

pub newest_in_none : (ws : List StandingUpdate) → newest_in [] ws ≡ None
newest_in_none [] = refl
newest_in_none (w ∷ ws) = newest_in_none ws

-- with one transaction more
newest_more : (xs : List TxId) (x : TxId) (n : ℕ) (ws : List StandingUpdate) → Falls n ws → lsn_of (newest_in (xs ++ x ∷ []) ws) ≡ later (lsn_of (newest_in xs ws)) (newest_lsn x ws)
newest_more xs x n [] f = refl
newest_more xs x n (w ∷ ws) f =
    ap (λ b. lsn_of (cond b (Some w) (newest_in (xs ++ x ∷ []) ws))) (tx_in-more w.tx xs x) ∙ at (tx_in w.tx xs) (tx_same x w.tx) (newest_more xs x w.lsn ws f.1)
  where
    at : (a b : Bool) → lsn_of (newest_in (xs ++ x ∷ []) ws) ≡ later (lsn_of (newest_in xs ws)) (newest_lsn x ws)
        → lsn_of (cond (a || b) (Some w) (newest_in (xs ++ x ∷ []) ws)) ≡ later (lsn_of (cond a (Some w) (newest_in xs ws))) (lsn_of (cond b (Some w) (newest_of x ws)))
    at true true more = sym (later_same w.lsn)
    at true false more = sym (later_first w.lsn (newest_lsn x ws) (own_under w.lsn x ws f.1))
    at false true more = sym (later_second w.lsn (lsn_of (newest_in xs ws)) (set_under w.lsn xs ws f.1))
    at false false more = more

pub newest_with : (xs : List TxId) (x : TxId) (log : List LogRecord) → lsn_of (newest_in (xs ++ x ∷ []) (standing log)) ≡ later (lsn_of (newest_in xs (standing log))) (newest_lsn x (standing log))
newest_with xs x log = newest_more xs x _ (standing log) (falls log)

-- ---- the record that it is

pub no_lsn : (o : Option StandingUpdate) → lsn_of o ≡ None → o ≡ None
no_lsn None e = refl
no_lsn (Some v) e = absurd cc

holds_of_newest : (P : StandingUpdate → Type 0) (set : List TxId) (ws : List StandingUpdate) (v : StandingUpdate) → newest_in set ws ≡ Some v → AllByRecursion P ws → P v
holds_of_newest P set [] v e a = absurd cc
holds_of_newest P set (w ∷ ws) v e a =
    both (λ b. cond b (Some w) (newest_in set ws) ≡ Some v → P v) (tx_in w.tx set) (λ _ is. let same : w ≡ v = cc in subst P same a.0) (λ _ is. holds_of_newest P set ws v is a.1) e

written_of : (lsn : ℕ) (tx : TxId) (key : ℕ) (c : Change) → write_in lsn (Some (update_of tx key c)) ≡ Some (record { lsn = lsn; tx = tx; key = key; change = c })
written_of lsn tx key (Sets before after) = refl
written_of lsn tx key (Adds by) = refl

write_there : (set : List TxId) (log : List LogRecord) (v : StandingUpdate) → newest_in set (standing log) ≡ Some v
    → write_in v.lsn (slice_get log v.lsn) ≡ Some (record { lsn = v.lsn; tx = v.tx; key = v.key; change = v.change })
write_there set log v is = ap (write_in v.lsn) (holds_of_newest (IsIn log) set (standing log) v is (in_log log)) ∙ written_of v.lsn v.tx v.key v.change

module _ (set : List TxId) (log : List LogRecord) (lsn : ℕ) (o : Option Write) (there : o ≡ write_in lsn (slice_get log lsn)) where
  pub newest_there_is : lsn_of (newest_in set (standing log)) ≡ Some lsn → IfSome o (IsNewestIn set (standing log)) × (IsNone o → newest_in set (standing log) ≡ None)
  newest_there_is e = at (newest_in set (standing log)) refl e
    where
      at : (found : Option StandingUpdate) → newest_in set (standing log) ≡ found → lsn_of found ≡ Some lsn → IfSome o (IsNewestIn set (standing log)) × (IsNone o → newest_in set (standing log) ≡ None)
      at None is e = absurd cc
      at (Some v) is e =
          let same : v.lsn ≡ lsn = cc in
          let whole : o ≡ Some (record { lsn = v.lsn; tx = v.tx; key = v.key; change = v.change }) = there ∙ ap (λ k. write_in k (slice_get log k)) (sym same) ∙ write_there set log v is in
          (subst (λ x. IfSome x (IsNewestIn set (standing log))) (sym whole) is, λ none. absurd cc)

-- ---- what a look at one LSN tells, where none is above

-- the newest of the set is no older than that of one of its transactions
newest_at_least : (set : List TxId) (t : TxId) (q n : ℕ) (ws : List StandingUpdate) → Falls n ws → tx_in t set ≡ true → newest_lsn t ws ≡ Some q → (v : StandingUpdate) × (newest_in set ws ≡ Some v) × (q ≤ v.lsn)
newest_at_least set t q n [] f i e = absurd cc
newest_at_least set t q n (w ∷ ws) f i e =
    both (λ b. tx_in w.tx set ≡ b → (v : StandingUpdate) × (cond b (Some w) (newest_in set ws) ≡ Some v) × (q ≤ v.lsn)) (tx_in w.tx set)
    (λ _ own. (w, refl, most (own_under w.lsn t ws f.1) e))
    (λ _ other. newest_at_least set t q w.lsn ws f.1 i (ap (λ b. lsn_of (cond b (Some w) (newest_of t ws))) (sym (other_name set t w.tx i other)) ∙ e)) refl
  where
    most : IsUnder w.lsn (newest_lsn t ws) → newest_lsn t (w ∷ ws) ≡ Some q → q ≤ w.lsn
    most under is =
        both (λ b. lsn_of (cond b (Some w) (newest_of t ws)) ≡ Some q → q ≤ w.lsn) (tx_same t w.tx) (λ _ e. let same : w.lsn ≡ q = cc in omega arith)
        (λ _ e. let l : q < w.lsn = subst (IsUnder w.lsn) e under in omega arith) is

-- of a set of one it is its newest
pub newest_in_one : (t : TxId) (ws : List StandingUpdate) → newest_in (t ∷ []) ws ≡ newest_of t ws
newest_in_one t [] = refl
newest_in_one t (w ∷ ws) = ap (λ b. cond b (Some w) (newest_in (t ∷ []) ws)) (or_none (tx_same t w.tx)) ∙ ap (λ o. cond (tx_same t w.tx) (Some w) o) (newest_in_one t ws)

-- the newest write of the set is its transaction's newest
newest_of_own : (set : List TxId) (ws : List StandingUpdate) (v : StandingUpdate) → newest_in set ws ≡ Some v → (tx_in v.tx set ≡ true) × (newest_lsn v.tx ws ≡ Some v.lsn)
newest_of_own set ws v is =
    let p = split_at set ws v is in
    (p.own, ap (newest_lsn v.tx) p.is ∙ ap lsn_of (newest_above v.tx p.above (v ∷ p.rest) p.others ∙ cond-true _ _ _ (tx_self v.tx)))

module _ (set : List TxId) (log : List LogRecord) (lsn : ℕ) (below : AreBelow set (lsn + 1) (standing log)) where
  pub some_at : (w : Write) → Some w ≡ write_in lsn (slice_get log lsn) → tx_in w.tx set ≡ true → newest_lsn w.tx (standing log) ≡ Some lsn → IsNewestIn set (standing log) w
  some_at w there i newest =
      let n = newest_at_least set w.tx lsn _ (standing log) (falls log) i newest in
      let under : n.0.lsn < lsn + 1 = subst (λ o. IfSome o (λ v. v.lsn < lsn + 1)) n.1 below in
      let same : n.0.lsn ≡ lsn = let most = n.2 in omega arith in
      (newest_there_is set log lsn (Some w) there (ap lsn_of n.1 ∙ ap (λ k. Some k) same)).0

  pub none_at : ((w : Write) → write_in lsn (slice_get log lsn) ≡ Some w → tx_in w.tx set ≡ true → newest_lsn w.tx (standing log) ≡ Some lsn → ⊥) → AreBelow set lsn (standing log)
  none_at never = at (newest_in set (standing log)) refl below
    where
      at : (o : Option StandingUpdate) → newest_in set (standing log) ≡ o → IfSome o (λ v. v.lsn < lsn + 1) → IfSome o (λ v. v.lsn < lsn)
      at None is under = tt
      at (Some v) is under =
          let own = newest_of_own set (standing log) v is in
          let other : v.lsn ≡ lsn → ⊥ = λ same. never (record { lsn = v.lsn; tx = v.tx; key = v.key; change = v.change })
          (ap (λ k. write_in k (slice_get log k)) (sym same) ∙ write_there set log v is) own.0 (own.1 ∙ ap (λ k. Some k) same) in
          omega arith

-- ---- below what all are

of_lsns : (n : ℕ) (o : Option StandingUpdate) → IsUnder n (lsn_of o) → IfSome o (λ v. v.lsn < n)
of_lsns n None under = tt
of_lsns n (Some v) under = under

pub below_end : (set : List TxId) (log : List LogRecord) → AreBelow set (length log) (standing log)
below_end set log = of_lsns (length log) (newest_in set (standing log)) (set_under (length log) set (standing log) (falls log))

falls_under : (n : ℕ) (above : List StandingUpdate) (w : StandingUpdate) (rest : List StandingUpdate) → Falls n (above ++ w ∷ rest) → Falls w.lsn rest
falls_under n [] w rest f = f.1
falls_under n (v ∷ vs) w rest f = falls_under v.lsn vs w rest f.1

-- what is left without the newest one is below it
pub below_left : (set : List TxId) (w : StandingUpdate) → tx_in w.tx set ≡ true → (above rest : List StandingUpdate) → NoneOf (is_of set) above → (n : ℕ) → Falls n (above ++ w ∷ rest)
    → AreBelow set w.lsn (above ++ rest)
below_left set w i above rest h n f =
    subst (λ o. IfSome o (λ v. v.lsn < w.lsn)) (sym (newest_past set above rest h)) (of_lsns w.lsn (newest_in set rest) (set_under w.lsn set rest (falls_under n above w rest f)))
