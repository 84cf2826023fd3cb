-- In no front of a log with so many records a write of a transaction stands.
use Rattle.std.proofs.Common.{◌≡◌, ⊎_elim, refl, sym, ap, subst, ◌∙◌, ℕ, ◌+◌, ◌-◌, ◌≤◌, ◌<◌, nat_lt, true, false, Bool, List, [], ◌∷◌, ◌++◌, Some, None, length, arith, append-nil, append_assoc, take-append-drop}
use Rattle.std.specs.Prelude.{take, drop}
use Rattle.std.proofs.Math.Seq.{take-append-add}
use Rattle.std.proofs.lemmas.Bool.{both_ways, or_cases, or_from, or_parts, false_from_ne_true, ltb-true, ltb-false}
use Rattle.std.proofs.lemmas.List.{take-append-le, take_all, length-take}
use Rattle.clv_base.specs.declared.names.TxId.{TxId}
use Rattle.clv_base.specs.declared.logs.LogRecord.{LogRecord}
use Rattle.clv_base.specs.declared.logs.LogRecord.TheVariants.{Abort}
use Rattle.clv_base.specs.Logs.{wrote_in, aborted_in, has_standing, undone_lsn, is_update_of, is_abort_of}
use Rattle.clv_base.specs.LogRules.{part_of, disorder}
use Rattle.clv_base.specs.Facts.{is_due_at}
use Rattle.clv_base.specs.State.{Shard}
use Rattle.clv_base.specs.Restarts.{restart_records, next_epoch, FailedRestarts, untouched, failed_first, Restarts}
use Rattle.clv_base.proofs.SameNames.{tx_true}
use Rattle.law_base.proofs.Bools.{and_first, and_second}
use Rattle.law_base.proofs.Standing.{stood_before, undone_in_front, undone_inside}
use Rattle.shard_laws.proofs.Keeping.RecordsAndFrontsKeep.{wrote_append, aborted_append}
use Rattle.law_base.specs.Coming.{may_come, Comes, MayBegin, AllCome, Follows}
use Rattle.law_base.proofs.InOrder.{follows_come}
use Rattle.law_base.proofs.Parts.{in_order_comes}
use Rattle.shard_laws.proofs.Order.WhoseWritesStand.{has_still}
use Rattle.fate_laws.proofs.Homes.ShardKnowsHomes.{still_not}
use Rattle.fate_laws.proofs.Logs.RestartsWriteNoUpdate.{restart_writes_none, wrote_take}

abbrev pub NoneStandsFrom : ℕ → List LogRecord → TxId → Type 0
NoneStandsFrom n log t = (k : ℕ) → n ≤ k → has_standing (take k log) t ≡ false

pub none_whole : (n : ℕ) (log : List LogRecord) (t : TxId) → n ≤ length log → NoneStandsFrom n log t → has_standing log t ≡ false
none_whole n log t l a = subst (λ z. has_standing z t ≡ false) (take_all (length log) log (omega arith)) (a (length log) l)

pub none_all : (log : List LogRecord) (t : TxId) → has_standing log t ≡ false → NoneStandsFrom (length log) log t
none_all log t e k l = subst (λ z. has_standing z t ≡ false) (sym (take_all k log l)) e

-- where what undid its writes lies below that number, and none stands
pub none_undone : (n : ℕ) (log : List LogRecord) (t : TxId) → has_standing log t ≡ false → is_due_at (undone_lsn log t) n ≡ true → NoneStandsFrom n log t
none_undone n log t e d k l =
    false_from_ne_true _ (λ h. both_ways _ e (subst (λ z. has_standing z t ≡ true) (take-append-drop k log) (has_still (take k log) (drop k log) t (undone_in_front (take k log) (drop k log) t front) h)))
  where
    front : (j : ℕ) → undone_lsn (take k log ++ drop k log) t ≡ Some j → j < length (take k log)
    front j q =
        let r : undone_lsn log t ≡ Some j = subst (λ z. undone_lsn z t ≡ Some j) (take-append-drop k log) q in
        let a = ltb-true j n (subst (λ o. is_due_at o n ≡ true) r d) in
        let b = undone_inside log t j r in
        let c = length-take k log in
        omega (arith, a, b, c, l)

-- ---- more records

-- a log that goes on from another one without an UPDATE or ADD of the transaction
abbrev pub GoesOnWithout : TxId → List LogRecord → List LogRecord → Type 0
GoesOnWithout t xs ys = (more : List LogRecord) × (xs ++ more ≡ ys) × (wrote_in more t ≡ false)

pub same_on : (t : TxId) (xs : List LogRecord) → GoesOnWithout t xs xs
same_on t xs = ([], append-nil xs, refl)

pub then_on : (t : TxId) (xs ys zs : List LogRecord) → GoesOnWithout t xs ys → GoesOnWithout t ys zs → GoesOnWithout t xs zs
then_on t xs ys zs (a, e, f) (b, g, h) = (a ++ b, sym (append_assoc xs a b) ∙ ap (λ z. z ++ b) e ∙ g, wrote_append a b t ∙ or_from _ _ f h)

pub stood_on : (t : TxId) (xs ys : List LogRecord) → GoesOnWithout t xs ys → has_standing ys t ≡ true → has_standing xs t ≡ true
stood_on t xs _ (more, e, f) h = stood_before xs more t f (subst (λ z. has_standing z t ≡ true) (sym e) h)

pub none_on : (n : ℕ) (t : TxId) (xs ys : List LogRecord) → GoesOnWithout t xs ys → NoneStandsFrom n xs t → NoneStandsFrom n ys t
none_on n t xs ys (more, e, f) a k l = subst (λ z. has_standing (take k z) t ≡ false) e (at (nat_lt (length xs) k) refl)
  where
    at : (b : Bool) → nat_lt (length xs) k ≡ b → has_standing (take k (xs ++ more)) t ≡ false
    at false q = subst (λ z. has_standing z t ≡ false) (sym (take-append-le k xs more (let x = ltb-false (length xs) k q in omega (arith, x)))) (a k l)
    at true q =
        let x = ltb-true (length xs) k q in
        let j = k - length xs in
        let same : length xs + j ≡ k = omega (arith, x) in
        let none : has_standing xs t ≡ false = subst (λ z. has_standing z t ≡ false) (take_all k xs (omega (arith, x))) (a k l) in
        let new : wrote_in (take j more) t ≡ false = false_from_ne_true _ (λ w. both_ways _ f (wrote_take j more t w)) in
        subst (λ z. has_standing z t ≡ false) (sym (take-append-add xs more j) ∙ ap (λ i. take i (xs ++ more)) same) (still_not (has_standing xs t) (has_standing (xs ++ take j more) t) (stood_before xs (take j more) t new) none)

-- in a log in order, whose ABORT comes behind some records, and wrote nothing behind them, had a write that stood in them
abort_rule : (shard : ℕ) (part log : List LogRecord) (r : LogRecord) (t : TxId) → may_come shard part log r ≡ true → is_abort_of t r ≡ true → has_standing log t ≡ true
abort_rule shard part log (Abort tx) t m e = subst (λ z. has_standing log z ≡ true) (sym (tx_true t tx e)) (and_second _ _ (and_first _ _ (and_first _ _ m)))
abort_rule shard part log _ t m e = absurd (both_ways false refl e)

aborted_come : (shard : ℕ) (part log rs : List LogRecord) (t : TxId) → Comes shard part log rs → wrote_in rs t ≡ false → aborted_in rs t ≡ true → has_standing log t ≡ true
aborted_come shard part log [] t f n a = absurd (both_ways false refl a)
aborted_come shard part log (r ∷ rs) t f n a =
    let w = or_parts (is_update_of t r) (wrote_in rs t) n in
    ⊎_elim (λ h. abort_rule shard part log r t f.0 h) (λ h. stood_before log (r ∷ []) t (or_from _ _ w.0 refl) (aborted_come shard part (log ++ r ∷ []) rs t f.1 w.1 h)) (or_cases (is_abort_of t r) (aborted_in rs t) a)

pub comes_behind : (shard : ℕ) (part before xs ys : List LogRecord) → Comes shard part before (xs ++ ys) → Comes shard part (before ++ xs) ys
comes_behind shard part before [] ys f = subst (λ l. Comes shard part l ys) (sym (append-nil before)) f
comes_behind shard part before (x ∷ xs) ys f = subst (λ l. Comes shard part l ys) (append_assoc before (x ∷ []) xs) (comes_behind shard part (before ++ x ∷ []) xs ys f.1)

pub aborted_stood : (shard : ℕ) (log rs : List LogRecord) (t : TxId) → Follows shard log rs → wrote_in rs t ≡ false → aborted_in rs t ≡ true → has_standing log t ≡ true
aborted_stood shard log rs t f n a = aborted_come shard [] log rs t (follows_come shard [] log rs (λ u i. absurd (both_ways false refl i)) f) n a

-- none is its first record
no_first : (shard : ℕ) (part : List LogRecord) (r : LogRecord) (t : TxId) → MayBegin shard part r → is_abort_of t r ≡ false
no_first shard part (Abort tx) t m = absurd (both_ways false refl m)
no_first shard part _ t m = refl

all_stood : (shard : ℕ) (part xs ys : List LogRecord) (t : TxId) → AllCome shard part (xs ++ ys) → wrote_in ys t ≡ false → aborted_in ys t ≡ true → has_standing xs t ≡ true
all_stood shard part [] [] t f n a = absurd (both_ways false refl a)
all_stood shard part [] (r ∷ rs) t f n a =
    let w = or_parts (is_update_of t r) (wrote_in rs t) n in
    ⊎_elim (λ h. absurd (both_ways _ (no_first shard part r t f.0) h)) (λ h. stood_before [] (r ∷ []) t (or_from _ _ w.0 refl) (aborted_come shard part (r ∷ []) rs t f.1 w.1 h)) (or_cases (is_abort_of t r) (aborted_in rs t) a)
all_stood shard part (x ∷ xs) ys t f n a = aborted_come shard part (x ∷ xs) ys t (comes_behind shard part (x ∷ []) xs ys f.1) n a

pub unaborted_on : (shard : ℕ) (xs ys : List LogRecord) (t : TxId) → GoesOnWithout t xs ys → disorder shard ys ≡ None → has_standing xs t ≡ false → aborted_in xs t ≡ false → aborted_in ys t ≡ false
unaborted_on shard xs ys t (more, e, f) d n u =
    let come : AllCome shard (part_of ys) (xs ++ more) = subst (AllCome shard (part_of ys)) (sym e) (in_order_comes shard ys d) in
    subst (λ z. aborted_in z t ≡ false) e (aborted_append xs more t ∙ or_from _ _ u (false_from_ne_true _ (λ a. both_ways _ n (all_stood shard (part_of ys) xs more t come f a))))

-- ---- restarts

failed_on : (s : Shard) (found left : List LogRecord) (t : TxId) → FailedRestarts s found left → GoesOnWithout t found left
failed_on s found _ t untouched = same_on t found
failed_on s found left t (failed_first n f) =
    let more = restart_records s.shard found s.run (next_epoch s found) in
    then_on t found (found ++ take n more) left
    (take n more, refl, false_from_ne_true _ (λ w. both_ways _ (restart_writes_none s.shard found s.run (next_epoch s found) t) (wrote_take n more t w)))
    (failed_on s (found ++ take n more) left t f)

pub restarts_on : (s : Shard) (found : List LogRecord) (epoch : ℕ) (after : List LogRecord) (t : TxId) → Restarts s found epoch after → GoesOnWithout t found after
restarts_on s found epoch after t (left, f, e, a) =
    then_on t found left after (failed_on s found left t f) (restart_records s.shard left s.run epoch, sym a, restart_writes_none s.shard left s.run epoch t)
