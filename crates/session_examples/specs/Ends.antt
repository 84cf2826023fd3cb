-- How a transfer ends, and its try.
use Rattle.std.specs.Prelude.{◌≡◌, ⊤, ℕ, Bool, true, false, Option, Some, None, Result, Ok, Err}
use Rattle.clv_base.specs.declared.values.Value.TheVariants.{Num, Bytes}
use Rattle.clv_base.specs.declared.values.Value.{Value as ValueType}
use Rattle.clv_base.specs.declared.names.TxId.{TxId}
use Rattle.session_ops.specs.declared.operating.OpError.{OpError}
use Rattle.session_ops.specs.declared.operating.OpError.TheVariants as op
use Rattle.session_ops.specs.declared.rolling.BackError.{BackError}
use Rattle.session_ops.specs.declared.rolling.BackError.TheVariants as left
use Rattle.session_ops.specs.declared.committing.Settled.{Settled}
use Rattle.session_ops.specs.declared.committing.CommitError.{CommitError}
use Rattle.session_ops.specs.declared.committing.CommitError.TheVariants as commit
use Rattle.session_api.specs.declared.progress.Progress.{Progress}
use Rattle.session_api.specs.declared.progress.Progress.TheVariants.{Idle, Active, Worn, Undone, Asked, Ended}
use Rattle.session_api.specs.declared.beginning.BeginError.{BeginError}
use Rattle.session_api.specs.declared.beginning.BeginError.TheVariants as begin
use Rattle.session_api.specs.declared.retrying.RetryError.{RetryError}
use Rattle.session_api.specs.declared.retrying.RetryError.TheVariants as retry
use Rattle.session_api.specs.declared.ending.AbortError.{AbortError}
use Rattle.session_api.specs.declared.ending.AbortError.TheVariants as abort
use Rattle.session_examples.specs.declared.transfers.Refusal.TheVariants.{Missing}
use Rattle.session_examples.specs.declared.transfers.Transferred.{Transferred}
use Rattle.session_examples.specs.declared.transfers.Transferred.TheVariants.{Moved, Refused, GivenUp}
use Rattle.session_examples.specs.declared.transfers.Stop.{Stop}
use Rattle.session_examples.specs.declared.transfers.Stop.TheVariants as stop
use Rattle.session_examples.specs.declared.transfers.Failure.{Failure}
use Rattle.session_examples.specs.declared.transfers.Failure.TheVariants as failed

-- ---- how the session's last transaction stands

-- it may have operations
abbrev pub is_open : Progress → Bool
is_open (Active p) = true
is_open Idle = false
is_open (Worn p) = false
is_open (Undone p n upto) = false
is_open (Asked p home stamp) = false
is_open (Ended p) = false

-- it ended by an abort
abbrev pub has_ended : Progress → Bool
has_ended (Ended p) = true
has_ended Idle = false
has_ended (Active p) = false
has_ended (Worn p) = false
has_ended (Undone p n upto) = false
has_ended (Asked p home stamp) = false

-- what was moved is acknowledged, and what was refused or given up is aborted
abbrev pub EndsAs : Result Transferred Stop → Progress → Type 0
EndsAs (Ok Moved) t = t ≡ Idle
EndsAs (Ok (Refused why)) t = has_ended t ≡ true
EndsAs (Ok (GivenUp cause)) t = has_ended t ≡ true
EndsAs (Err stop) t = ⊤

-- ---- within a try

-- what the answers of a session's calls are to a try; a key that is read must hold a number
abbrev pub failure_end : OpError → Failure
failure_end (op.Aborted cause) = failed.Aborted cause
failure_end (op.Down n) = failed.Stopped (stop.Down n)
failure_end (op.Worn at) = failed.Stopped (stop.Worn at)
failure_end op.Memory = failed.Stopped stop.Memory

abbrev pub value_end : ℕ → Result (Option ValueType) OpError → Result ℕ Failure
value_end key (Ok (Some (Num n))) = Ok n
value_end key (Ok (Some (Bytes bytes))) = Err (failed.Refused (Missing key))
value_end key (Ok None) = Err (failed.Refused (Missing key))
value_end key (Err e) = Err (failure_end e)

abbrev pub written_end : Result (Option ValueType) OpError → Result Unit Failure
written_end (Ok before) = Ok tt
written_end (Err e) = Err (failure_end e)

abbrev pub back_end : Result (Unit {0}) BackError → Result Unit Failure
back_end (Ok a) = Ok tt
back_end (Err (left.Aborted cause)) = Err (failed.Aborted cause)
back_end (Err (left.Down n)) = Err (failed.Stopped (stop.Down n))
back_end (Err (left.Worn n at)) = Err (failed.Stopped (stop.Worn at))

abbrev pub commit_end : Result Settled CommitError → Result Unit Failure
commit_end (Ok settled) = Ok tt
commit_end (Err (commit.Aborted cause)) = Err (failed.Aborted cause)
commit_end (Err (commit.Down n)) = Err (failed.Stopped (stop.Down n))
commit_end (Err (commit.Unsettled n)) = Err (failed.Stopped (stop.Unsettled n))
commit_end (Err (commit.Worn at)) = Err (failed.Stopped (stop.Worn at))
commit_end (Err commit.Memory) = Err (failed.Stopped stop.Memory)

-- of a beginning, where none is active; of another try, where the last one ended by an abort; of an abort, where there may be nothing to abort
abbrev pub BeginEnds : Result TxId BeginError → Result Unit Stop → Type 0
BeginEnds (Ok tx) r = r ≡ Ok tt
BeginEnds (Err (begin.Worn at)) r = r ≡ Err (stop.Worn at)
BeginEnds (Err (begin.Active tx)) r = ⊥

abbrev pub RetryEnds : Result TxId RetryError → Result Unit Stop → Type 0
RetryEnds (Ok tx) r = r ≡ Ok tt
RetryEnds (Err (retry.Worn at)) r = r ≡ Err (stop.Worn at)
RetryEnds (Err (retry.Active tx)) r = ⊥
RetryEnds (Err retry.NoRetry) r = ⊥

abbrev pub AbortEnds : Result Unit AbortError → Result Unit Stop → Type 0
AbortEnds (Ok a) r = r ≡ Ok tt
AbortEnds (Err abort.NoTx) r = r ≡ Ok tt
AbortEnds (Err (abort.Worn at)) r = r ≡ Err (stop.Worn at)

-- after an operation or a going back: open still, or aborted
abbrev pub GoesOnAs : {A : Type 0} → Result A Failure → Progress → Type 0
GoesOnAs (Ok a) t = is_open t ≡ true
GoesOnAs (Err (failed.Aborted cause)) t = has_ended t ≡ true
GoesOnAs (Err (failed.Refused why)) t = is_open t ≡ true
GoesOnAs (Err (failed.Stopped s)) t = ⊤

-- after the try: acknowledged, aborted, or open still
abbrev pub TriedAs : Result Unit Failure → Progress → Type 0
TriedAs (Ok a) t = t ≡ Idle
TriedAs (Err (failed.Aborted cause)) t = has_ended t ≡ true
TriedAs (Err (failed.Refused why)) t = is_open t ≡ true
TriedAs (Err (failed.Stopped s)) t = ⊤
