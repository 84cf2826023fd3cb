-- Logs that may be opened, by their homes: who is committed in one of them has a home, and there each other shard with records of it is a part.
use Rattle.std.proofs.Common.{◌≡◌, ⊎_elim, refl, sym, subst, ℕ, zero, suc, ◌+◌, ◌<◌, true, false, not, ◌||◌, ◌==◌, Bool, List, [], ◌∷◌, Option, Some, None, is_none, length, arith, eqb-true, ap, ◌⊎◌, inl, inr, ◌&&◌}
use Rattle.std.specs.List.{list_any, list_all}
use Rattle.std.proofs.lemmas.Bool.{both_ways, and_parts, or_cases}
use Rattle.clv_base.specs.declared.names.TxId.{TxId}
use Rattle.clv_base.specs.declared.logs.LogRecord.{LogRecord}
use Rattle.clv_base.specs.declared.logs.LogRecord.TheVariants.{Update, Clr, Prepare, Commit, Abort, End, Restart, Add, Unadd, Forgotten, Check}
use Rattle.clv_base.specs.Orders.{tx_same, tx_in, tx_insert, tx_union, nat_in}
use Rattle.clv_base.specs.Logs.{is_record_of, committed_in, has_standing, is_prepare_of, is_commit_of, prepared_in, is_update_of, is_undo_of}
use Rattle.clv_base.specs.LogRules.{log_of, all_logs_from, any_log_from, part_agrees, agrees_at, is_home_of, committed_of, committed_of_all, first_apart, apart, is_undone_in}
use Rattle.clv_base.specs.FileRules.{may_open, log_passes}
use Rattle.clv_base.proofs.SameNames.{tx_true, insert_keeps, insert_has}
use Rattle.law_base.proofs.Options.{none_of}
use Rattle.law_base.proofs.Logs.{passes_at as each_passes}

-- ---- the committed have a home

in_committed : (log : List LogRecord) (t : TxId) → committed_in log t ≡ true → tx_in t (committed_of log) ≡ true
in_committed [] t c = absurd (both_ways false refl c)
in_committed (Commit tx parts ∷ rs) t c =
    ⊎_elim (λ e. subst (λ z. tx_in z (tx_insert tx (committed_of rs)) ≡ true) (sym (tx_true t tx e)) (insert_has tx (committed_of rs))) (λ h. insert_keeps tx t (committed_of rs) (in_committed rs t h)) (or_cases (tx_same t tx) (committed_in rs t) c)
in_committed (Update tx a b d ∷ rs) t c = in_committed rs t c
in_committed (Clr tx a b d ∷ rs) t c = in_committed rs t c
in_committed (Prepare tx a b ∷ rs) t c = in_committed rs t c
in_committed (Abort tx ∷ rs) t c = in_committed rs t c
in_committed (End tx ∷ rs) t c = in_committed rs t c
in_committed (Restart run epoch ∷ rs) t c = in_committed rs t c
in_committed (Add tx a by ∷ rs) t c = in_committed rs t c
in_committed (Unadd tx a b by ∷ rs) t c = in_committed rs t c
in_committed (Forgotten ∷ rs) t c = in_committed rs t c
in_committed (Check run' epoch' upto base ∷ rs) t c = in_committed rs t c

union_left : (xs ys : List TxId) (t : TxId) → tx_in t xs ≡ true → tx_in t (tx_union xs ys) ≡ true
union_left [] ys t i = absurd (both_ways false refl i)
union_left (x ∷ xs) ys t i =
    ⊎_elim (λ e. subst (λ z. tx_in z (tx_insert x (tx_union xs ys)) ≡ true) (tx_true x t e) (insert_has x (tx_union xs ys))) (λ h. insert_keeps x t (tx_union xs ys) (union_left xs ys t h)) (or_cases (tx_same x t) (tx_in t xs) i)

union_right : (xs ys : List TxId) (t : TxId) → tx_in t ys ≡ true → tx_in t (tx_union xs ys) ≡ true
union_right [] ys t i = i
union_right (x ∷ xs) ys t i = insert_keeps x t (tx_union xs ys) (union_right xs ys t i)

in_committed_all : (logs : List (List LogRecord)) (n : ℕ) (t : TxId) → committed_in (log_of logs n) t ≡ true → tx_in t (committed_of_all logs) ≡ true
in_committed_all [] n t c = absurd (both_ways false refl c)
in_committed_all (log ∷ logs) zero t c = union_left (committed_of log) (committed_of_all logs) t (in_committed log t c)
in_committed_all (log ∷ logs) (suc n) t c = union_right (committed_of log) (committed_of_all logs) t (in_committed_all logs n t c)

has_home : (logs : List (List LogRecord)) (txs : List TxId) (t : TxId) → first_apart logs txs ≡ None → tx_in t txs ≡ true → any_log_from 0 (is_home_of logs t) logs ≡ true
has_home logs [] t f i = absurd (both_ways false refl i)
has_home logs (x ∷ xs) t f i = at (any_log_from 0 (is_home_of logs x) logs) refl f (has_home logs xs t)
  where
    at : (b : Bool) → any_log_from 0 (is_home_of logs x) logs ≡ b → ◌≡◌ {A = Option TxId} (elim b [ true ↦ first_apart logs xs | false ↦ Some x ]) None
        → (first_apart logs xs ≡ None → tx_in t xs ≡ true → any_log_from 0 (is_home_of logs t) logs ≡ true) → any_log_from 0 (is_home_of logs t) logs ≡ true
    at true e g k = ⊎_elim (λ q. subst (λ z. any_log_from 0 (is_home_of logs z) logs ≡ true) (tx_true x t q) e) (λ q. k g q) (or_cases (tx_same x t) (tx_in t xs) i)
    at false e g k = absurd cc

which_log : (n : ℕ) (test : ℕ → List LogRecord → Bool) (logs : List (List LogRecord)) → any_log_from n test logs ≡ true → (i : ℕ) × (test (n + i) (log_of logs i) ≡ true)
which_log n test [] a = absurd (both_ways false refl a)
which_log n test (log ∷ logs) a =
    ⊎_elim (λ h. (0, subst (λ k. test k log ≡ true) (omega arith) h)) (λ h. let r = which_log (suc n) test logs h in (suc r.0, subst (λ k. test k (log_of logs r.0) ≡ true) (omega arith) r.1)) (or_cases (test n log) (any_log_from (suc n) test logs) a)

-- who is committed in some log has a home
pub home_of : (splits : List ℕ) (logs : List (List LogRecord)) (m : ℕ) (t : TxId) → may_open splits logs ≡ true → committed_in (log_of logs m) t ≡ true → (h : ℕ) × (is_home_of logs t h (log_of logs h) ≡ true)
home_of splits logs m t o c =
    let d = none_of (apart logs) (and_parts (all_logs_from 0 (log_passes splits) logs) (is_none (apart logs)) o).1 in
    let a = which_log 0 (is_home_of logs t) logs (has_home logs (committed_of_all logs) t d (in_committed_all logs m t c)) in
    (a.0, subst (λ k. is_home_of logs t k (log_of logs a.0) ≡ true) (omega arith) a.1)

-- ---- the parts of a home

pub nat_at : (f : ℕ → Bool) (n : ℕ) (ns : List ℕ) → list_all f ns ≡ true → nat_in n ns ≡ true → f n ≡ true
nat_at f n [] a i = absurd (both_ways false refl i)
nat_at f n (m ∷ ms) a i =
    let p = and_parts (f m) (list_all f ms) a in ⊎_elim (λ e. subst (λ z. f z ≡ true) (sym (eqb-true n m e)) p.0) (λ h. nat_at f n ms p.1 h) (or_cases (n == m) (nat_in n ms) i)

-- ---- of whom a log has something that isn't undone

not_both : (a b : Bool) → b ≡ false → (a && b) ≡ false
not_both true b e = e
not_both false b e = refl

-- a PREPARE or a COMMIT of it, or a write of it that stands
more_than_undone : (t : TxId) (test : LogRecord → Bool) → ((r : LogRecord) → test r ≡ true → (not (is_record_of t r) || is_update_of t r || is_undo_of t r) ≡ false) → (log : List LogRecord) → list_any test log ≡ true
    → list_all (λ r. not (is_record_of t r) || is_update_of t r || is_undo_of t r) log ≡ false
more_than_undone t test k [] e = absurd (both_ways false refl e)
more_than_undone t test k (r ∷ rs) e = at (or_cases (test r) (list_any test rs) e) (more_than_undone t test k rs)
  where
    at : (test r ≡ true) ⊎ (list_any test rs ≡ true) → (list_any test rs ≡ true → list_all (λ r. not (is_record_of t r) || is_update_of t r || is_undo_of t r) rs ≡ false)
        → list_all (λ r. not (is_record_of t r) || is_update_of t r || is_undo_of t r) (r ∷ rs) ≡ false
    at (inl g) k2 = ap (λ b. b && list_all (λ r. not (is_record_of t r) || is_update_of t r || is_undo_of t r) rs) (k r g)
    at (inr g) k2 = not_both (not (is_record_of t r) || is_update_of t r || is_undo_of t r) _ (k2 g)

no_record : (b : Bool) → b ≡ true → (not b || false || false) ≡ false
no_record true e = refl
no_record false e = absurd (both_ways false refl e)

pub prepared_stays : (log : List LogRecord) (t : TxId) → prepared_in log t ≡ true → is_undone_in log t ≡ false
prepared_stays log t e = not_both (not (has_standing log t)) _ (more_than_undone t (is_prepare_of t) each log e)
  where
    each : (r : LogRecord) → is_prepare_of t r ≡ true → (not (is_record_of t r) || is_update_of t r || is_undo_of t r) ≡ false
    each (Prepare tx home ps) e = no_record (tx_same t tx) e
    each _ e = absurd (both_ways false refl e)

pub committed_stays : (log : List LogRecord) (t : TxId) → committed_in log t ≡ true → is_undone_in log t ≡ false
committed_stays log t e = not_both (not (has_standing log t)) _ (more_than_undone t (is_commit_of t) each log e)
  where
    each : (r : LogRecord) → is_commit_of t r ≡ true → (not (is_record_of t r) || is_update_of t r || is_undo_of t r) ≡ false
    each (Commit tx ps) e = no_record (tx_same t tx) e
    each _ e = absurd (both_ways false refl e)

pub standing_stays : (log : List LogRecord) (t : TxId) → has_standing log t ≡ true → is_undone_in log t ≡ false
standing_stays log t e = ap (λ b. not b && list_all (λ r. not (is_record_of t r) || is_update_of t r || is_undo_of t r) log) e

-- another shard with a record of it that isn't undone there is one of the parts
pub named_part : (logs : List (List LogRecord)) (t : TxId) (h n : ℕ) (ps : List ℕ) → n < length logs → agrees_at logs t h (log_of logs h) ps ≡ true → (n == h) ≡ false → is_undone_in (log_of logs n) t ≡ false → nat_in n ps ≡ true
named_part logs t h n ps l a q r =
    let z = and_parts _ _ (and_parts _ _ (and_parts _ _ a).0).0 in
    let w = each_passes (λ s other. (s == h) || nat_in s ps || is_undone_in other t) 0 n logs z.1 l in
    named (n == h) (nat_in n ps) (is_undone_in (log_of logs n) t) q r (subst (λ k. ((k == h) || nat_in k ps || is_undone_in (log_of logs n) t) ≡ true) (zero_plus n) w)
  where
    zero_plus : (m : ℕ) → 0 + m ≡ m
    zero_plus m = omega arith

    named : (a b c : Bool) → a ≡ false → c ≡ false → (a || b || c) ≡ true → b ≡ true
    named true b c n i v = absurd (both_ways true n refl)
    named false true c n i v = refl
    named false false c n i v = absurd (both_ways c i v)

-- and agrees with the home
pub part_agreed : (logs : List (List LogRecord)) (t : TxId) (h n : ℕ) (ps : List ℕ) → n < length logs → agrees_at logs t h (log_of logs h) ps ≡ true → (n == h) ≡ false → is_undone_in (log_of logs n) t ≡ false → part_agrees t h (log_of logs n) ≡ true
part_agreed logs t h n ps l a q r = nat_at (λ s. part_agrees t h (log_of logs s)) n ps (and_parts _ _ (and_parts _ _ a).0).1 (named_part logs t h n ps l a q r)
