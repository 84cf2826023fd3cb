-- What is due, carried out on what a shard's transactions work on.
use Rattle.std.specs.Prelude.{◌≡◌, [], ◌∷◌, None}
use Rattle.clv_base.specs.declared.names.TxId.{TxId}
use Rattle.clv_base.specs.declared.causes.Vote.{Vote}
use Rattle.clv_base.specs.declared.causes.Vote.TheVariants.{Yes, Read, No}
use Rattle.clv_base.specs.declared.logs.LogRecord.TheVariants.{Commit as CommitRecord, End as EndRecord}
use Rattle.clv_base.specs.declared.state.Ruling.{Ruling}
use Rattle.clv_base.specs.declared.state.Ruling.TheVariants.{Commit as CommitVerdict, Acknowledge, Abort as AbortVerdict, End as EndVerdict}
use Rattle.clv_base.specs.State.{Local, Shard}
use Rattle.clv_base.specs.Undo.{release_parts, roll_back}
use Rattle.clv_base.specs.OneShard.{purge}
use Rattle.clv_base.specs.Due.{append_log}
use Rattle.due_step.specs.Found.{carried}
use Rattle.due_step.specs.declared.finding.Due.{Due}
use Rattle.due_step.specs.declared.finding.Due.TheVariants.{Commit, Vote as DueVote, Ruling as DueRuling}

abbrev pub voted : Local → TxId → Vote → Local
voted l tx Yes = l
voted l tx Read = release_parts (tx ∷ []) None l
voted l tx (No why) = l

abbrev pub ruled : Local → TxId → Ruling → Local
ruled l tx (CommitVerdict parts) = append_log (CommitRecord tx parts ∷ []) l
ruled l tx Acknowledge = release_parts (tx ∷ []) None l
ruled l tx (AbortVerdict cause to) = roll_back tx l
ruled l tx EndVerdict = append_log (EndRecord tx ∷ []) l

abbrev pub local_after : Local → TxId → Due → Local
local_after l tx Commit = release_parts (tx ∷ []) None l
local_after l tx (DueVote vote) = voted l tx vote
local_after l tx (DueRuling r) = ruled l tx r

-- no ghost is without a lock
abbrev pub IsPurged : Local → Type 0
IsPurged l = purge l ≡ l

-- what is found, carried out, comes to this
abbrev pub CarriesLocal : Type 0
CarriesLocal = (s : Shard) (tx : TxId) (due : Due) → (carried s tx due).local ≡ local_after s.local tx due
