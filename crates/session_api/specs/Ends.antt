-- What the answers of a beginning and of another try are to whoever runs a script.
use Rattle.std.specs.Prelude.{◌≡◌, Result, Ok, Err}
use Rattle.clv_base.specs.declared.names.TxId.{TxId}
use Rattle.script_runs.specs.declared.ends.StopCause.{StopCause}
use Rattle.script_runs.specs.declared.ends.StopCause.TheVariants.{Worn}
use Rattle.session_api.specs.declared.beginning.BeginError.{BeginError}
use Rattle.session_api.specs.declared.beginning.BeginError.TheVariants as begin
use Rattle.session_api.specs.declared.retrying.RetryError.{RetryError}
use Rattle.session_api.specs.declared.retrying.RetryError.TheVariants as retry

-- of a beginning; none is active
abbrev pub BeginEnds : Result TxId BeginError → Result Unit StopCause → Type 0
BeginEnds (Ok tx) r = r ≡ Ok tt
BeginEnds (Err (begin.Worn at)) r = r ≡ Err (Worn at)
BeginEnds (Err (begin.Active tx)) r = ⊥

-- of another try; the last one ended by an abort
abbrev pub RetryEnds : Result TxId RetryError → Result Unit StopCause → Type 0
RetryEnds (Ok tx) r = r ≡ Ok tt
RetryEnds (Err (retry.Worn at)) r = r ≡ Err (Worn at)
RetryEnds (Err (retry.Active tx)) r = ⊥
RetryEnds (Err retry.NoRetry) r = ⊥
