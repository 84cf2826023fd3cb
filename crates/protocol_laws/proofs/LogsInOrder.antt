-- What holds of a log in order, record by record.
pub mod OneRecordMore
pub mod RunsAreOfRestarts
pub mod StandingUpdatesLie
pub mod UndoBeforeClosing
use Rattle.std.proofs.Common.{◌≡◌, ⊎_elim, refl, sym, ap, subst, ℕ, suc, true, false, not, ◌&&◌, List, [], ◌∷◌, ◌++◌, length, None, append-nil, append_assoc}
use Rattle.std.specs.Prelude.{⊤}
use Rattle.std.specs.List.{AllByRecursion}
use Rattle.std.proofs.lemmas.Bool.{both_ways, or_cases, not-true, false_from_ne_true}
use Rattle.clv_base.specs.declared.names.TxId.{TxId}
use Rattle.clv_base.specs.declared.logs.LogRecord.{LogRecord}
use Rattle.clv_base.specs.declared.logs.LogRecord.TheVariants.{Update, Clr, Prepare, Commit, Abort, Add, Unadd, Check}
use Rattle.clv_base.specs.Orders.{nat_in}
use Rattle.clv_base.specs.Maps.{KeyMap}
use Rattle.clv_base.specs.Logs.{standing, base_of, committed_in, prepared_in, aborted_in, is_commit_of, is_abort_of}
use Rattle.clv_base.specs.LogRules.{may_undo, part_of, disorder}
use Rattle.law_base.specs.Coming.{may_come, AllCome}
use Rattle.clv_base.specs.Restarts.{greatest_run}
use Rattle.clv_base.proofs.SameNames.{tx_true}
use Rattle.protocol_laws.specs.Order.{moves, Open_at, Tidy, Unprepared, Sealed, Undoable, RunFits, NothingAfterCommit, NothingAfterPrepare, UndoneAreOpen, AbortedAreUncommitted, CommittedLieOnCommitted, RunsAreThoseOfRestarts, FrontsKeepOrder}
use Rattle.protocol_laws.proofs.LogsInOrder.OneRecordMore.{push_cases, push_false}
use Rattle.protocol_laws.proofs.LogsInOrder.RunsAreOfRestarts.{runs_step}
use Rattle.protocol_laws.proofs.LogsInOrder.StandingUpdatesLie.{Writes, writes_step}
use Rattle.protocol_laws.proofs.LogsInOrder.UndoBeforeClosing.{undoable_push, may_undo_step}
use Rattle.law_base.proofs.Bools.{and_first as front, and_second as last}
use Rattle.law_base.proofs.Bases.{base_push}
use Rattle.law_base.proofs.InOrder.{come_base, through}
use Rattle.law_base.proofs.Parts.{in_order_comes, in_order_take}
use Rattle.law_base.proofs.Logs.{standing_push}

-- a COMMIT does not name the shard itself as a part
abbrev pub OtherParts : ℕ → LogRecord → Type 0
OtherParts shard (Commit tx parts) = nat_in shard parts ≡ false
OtherParts shard _ = ⊤

pub record Order (shard : ℕ) (log : List LogRecord) : Type 0 where
  pub tidy : Tidy [] log
  pub sealed : Sealed [] log
  pub apart : (t : TxId) → committed_in log t ≡ true → aborted_in log t ≡ false
  pub undoable : Undoable [] log
  pub writes : Writes (base_of log) (committed_in log) (length log) (standing log)
  pub runs : AllByRecursion (RunFits (greatest_run log)) log
  pub parts : AllByRecursion (OtherParts shard) log

tidy_push : (before log : List LogRecord) (r : LogRecord) → Tidy before log → Open_at (before ++ log) (moves r) → Tidy before (log ++ r ∷ [])
tidy_push before [] r t o = (subst (λ l. Open_at l (moves r)) (append-nil before) o, tt)
tidy_push before (x ∷ xs) r t o = (t.0, tidy_push (before ++ x ∷ []) xs r t.1 (subst (λ l. Open_at l (moves r)) (sym (append_assoc before (x ∷ []) xs)) o))

sealed_push : (before log : List LogRecord) (r : LogRecord) → Sealed before log → Unprepared (before ++ log) r → Sealed before (log ++ r ∷ [])
sealed_push before [] r t o = (subst (λ l. Unprepared l r) (append-nil before) o, tt)
sealed_push before (x ∷ xs) r t o = (t.0, sealed_push (before ++ x ∷ []) xs r t.1 (subst (λ l. Unprepared l r) (sym (append_assoc before (x ∷ []) xs)) o))

unprepared_step : (shard : ℕ) (part log : List LogRecord) (r : LogRecord) → may_come shard part log r ≡ true → Unprepared log r
unprepared_step shard part log (Update tx key before after) m = not-true _ (last _ _ (front _ _ (front _ _ (front _ _ (front _ _ (front _ _ (front _ _ m)))))))
unprepared_step shard part log (Add tx key by) m = not-true _ (last _ _ (front _ _ (front _ _ (front _ _ (front _ _ (front _ _ m))))))
unprepared_step shard part log (Prepare tx home ps) m = not-true _ (last _ _ (front _ _ (front _ _ (front _ _ (front _ _ m)))))
unprepared_step shard part log _ m = tt

-- of whom a write may be undone is not committed
uncommitted : (log : List LogRecord) (t : TxId) → (committed_in log t ≡ true → aborted_in log t ≡ false) → may_undo log t ≡ true → committed_in log t ≡ false
uncommitted log t apart m =
    ⊎_elim (λ a. false_from_ne_true _ (λ c. both_ways _ (apart c) a)) (λ o. not-true _ (last _ _ o)) (or_cases (aborted_in log t) (not (prepared_in log t) && not (committed_in log t)) m)

open_step : (shard : ℕ) (part log : List LogRecord) (r : LogRecord) → Order shard log → may_come shard part log r ≡ true → Open_at log (moves r)
open_step shard part log (Update tx key before after) h m = not-true _ (last _ _ (front _ _ (front _ _ (front _ _ (front _ _ (front _ _ m))))))
open_step shard part log (Add tx key by) h m = not-true _ (last _ _ (front _ _ (front _ _ (front _ _ (front _ _ m)))))
open_step shard part log (Clr tx next key after) h m = uncommitted log tx (h.apart tx) (last _ _ (front _ _ m))
open_step shard part log (Unadd tx next key by) h m = uncommitted log tx (h.apart tx) (last _ _ (front _ _ m))
open_step shard part log _ h m = tt

no_abort : (shard : ℕ) (part log : List LogRecord) (r : LogRecord) (t : TxId) → may_come shard part log r ≡ true → committed_in log t ≡ true → is_abort_of t r ≡ false
no_abort shard part log (Abort tx) t m c = false_from_ne_true _ (λ s. both_ways _ (not-true _ (last _ _ (front _ _ m))) (subst (λ z. committed_in log z ≡ true) (tx_true t tx s) c))
no_abort shard part log _ t m c = refl

commit_new : (shard : ℕ) (part log : List LogRecord) (r : LogRecord) (t : TxId) → may_come shard part log r ≡ true → is_commit_of t r ≡ true → (aborted_in log t ≡ false) × (is_abort_of t r ≡ false)
commit_new shard part log (Commit tx parts) t m e =
    (subst (λ z. aborted_in log z ≡ false) (sym (tx_true t tx e)) (not-true _ (last _ _ (front _ _ (front _ _ (front _ _ (front _ _ (front _ _ m))))))), refl)
commit_new shard part log _ t m e = absurd (both_ways false refl e)

parts_step : (shard : ℕ) (part log : List LogRecord) (r : LogRecord) → may_come shard part log r ≡ true → OtherParts shard r
parts_step shard part log (Commit tx parts) m = not-true _ (last _ _ (front _ _ (front _ _ (front _ _ (front _ _ m)))))
parts_step shard part log _ m = tt

all_push : (P : LogRecord → Type 0) (rs : List LogRecord) (r : LogRecord) → AllByRecursion P rs → P r → AllByRecursion P (rs ++ r ∷ [])
all_push P [] r a p = (p, tt)
all_push P (x ∷ xs) r a p = (a.0, all_push P xs r a.1 p)

length_push : (log : List LogRecord) (r : LogRecord) → suc (length log) ≡ length (log ++ r ∷ [])
length_push [] r = refl
length_push (x ∷ xs) r = ap suc (length_push xs r)

order_push : (shard : ℕ) (part log : List LogRecord) (r : LogRecord) → Order shard log → may_come shard part log r ≡ true → Order shard (log ++ r ∷ [])
order_push shard part log r h m =
    record {
      tidy = tidy_push [] log r h.tidy (open_step shard part log r h m);
      sealed = sealed_push [] log r h.sealed (unprepared_step shard part log r m);
      apart = λ t c. ⊎_elim (λ old. push_false (is_abort_of t) log r (h.apart t old) (no_abort shard part log r t m old)) (λ new. let p = commit_new shard part log r t m new in push_false (is_abort_of t) log r p.0 p.1)
          (push_cases (is_commit_of t) log r c);
      undoable = undoable_push [] log r h.undoable (may_undo_step shard part log r m);
      writes = subst (λ base. Writes base (committed_in (log ++ r ∷ [])) (length (log ++ r ∷ [])) (standing (log ++ r ∷ []))) (sym (base_push log r (come_base shard part log r m)))
          (subst (λ n. Writes (base_of log) (committed_in (log ++ r ∷ [])) n (standing (log ++ r ∷ []))) (length_push log r)
          (subst (Writes (base_of log) (committed_in (log ++ r ∷ [])) (suc (length log))) (sym (standing_push log r)) (writes_step shard part log r m h.writes)));
      runs = runs_step shard part log r h.runs m;
      parts = all_push (OtherParts shard) log r h.parts (parts_step shard part log r m);
    }

pub order_first : (shard run epoch upto : ℕ) (base : KeyMap) → Order shard (Check run epoch upto base ∷ [])
order_first shard run epoch upto base =
    record {
      tidy = (tt, tt);
      sealed = (tt, tt);
      apart = λ t c. absurd (both_ways false refl c);
      undoable = (tt, tt);
      writes = record { chain = tt; falls = tt; low = tt; lie = tt };
      runs = (tt, tt);
      parts = (tt, tt);
    }

pub all_in_order : (shard : ℕ) (part log : List LogRecord) → AllCome shard part log → Order shard log
all_in_order shard part log f =
    through (Order shard) shard part (λ l r g h m. order_push shard part l r h m) log f
    (record {
      tidy = tt;
      sealed = tt;
      apart = λ t c. absurd (both_ways false refl c);
      undoable = tt;
      writes = record { chain = tt; falls = tt; low = tt; lie = tt };
      runs = tt;
      parts = tt;
    })
    (λ run epoch upto base rises. order_first shard run epoch upto base)

pub in_order : (shard : ℕ) (log : List LogRecord) → disorder shard log ≡ None → Order shard log
in_order shard log d = all_in_order shard (part_of log) log (in_order_comes shard log d)

pub tidy_in_order : NothingAfterCommit
tidy_in_order shard log d = (in_order shard log d).tidy

pub sealed_in_order : NothingAfterPrepare
sealed_in_order shard log d = (in_order shard log d).sealed

pub undoable_in_order : UndoneAreOpen
undoable_in_order shard log d = (in_order shard log d).undoable

pub aborted_uncommitted : AbortedAreUncommitted
aborted_uncommitted shard log t d a = false_from_ne_true _ (λ c. both_ways _ ((in_order shard log d).apart t c) a)

pub lie_in_order : CommittedLieOnCommitted
lie_in_order shard log d = (in_order shard log d).writes.lie

pub runs_in_order : RunsAreThoseOfRestarts
runs_in_order shard log d = (in_order shard log d).runs

pub fronts_in_order : FrontsKeepOrder
fronts_in_order shard n log l d = (in_order_take shard n log l d).0
