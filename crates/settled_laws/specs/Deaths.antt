-- What is told of aborts where each shard began settled.
use Rattle.std.specs.Prelude.{◌≡◌, ℕ, ◌<◌, true, not, List, ◌∷◌, ◌++◌, Some}
use Rattle.std.specs.List.{list_all}
use Rattle.clv_base.specs.declared.names.TxId.{TxId}
use Rattle.clv_base.specs.declared.logs.LogRecord.{LogRecord}
use Rattle.clv_base.specs.declared.causes.AbortCause.{AbortCause}
use Rattle.clv_base.specs.declared.causes.AbortCause.TheVariants.{Died}
use Rattle.clv_base.specs.declared.state.Stage.TheVariants.{Closed}
use Rattle.clv_base.specs.declared.events.Entry.{Entry}
use Rattle.clv_base.specs.Shards.{shard_count}
use Rattle.clv_base.specs.Logs.{committed_in}
use Rattle.clv_base.specs.State.{Shard}
use Rattle.clv_base.specs.Undo.{stage_of}
use Rattle.clv_base.specs.Sessions.{is_of_session}
use Rattle.clv_base.specs.Journals.{History, journal_of, start_of}
use Rattle.clv_base.specs.Machines.{Runs}
use Rattle.protocol_laws.specs.Growth.{is_restart}
use Rattle.history_laws.specs.Openings.{LegalFrom}
use Rattle.fate_laws.specs.Causes.{TellsCause}

-- after some first entries of its journal, of which only sessions make none, each closed part of the shard was decided; and the shard is never restarted
pub record BeginsSettled (before : List (List LogRecord)) (h : History) (n : ℕ) : Type 0 where
  pub front : List Entry
  pub behind : List Entry
  pub journal_is : journal_of n h ≡ front ++ behind
  pub state : Shard
  pub runs : Runs (start_of before n) front state
  pub decided : (tx : TxId) → stage_of state.local tx ≡ Some Closed → committed_in state.local.log tx ≡ true
  pub no_session : list_all (λ e. not (is_of_session e.event)) front ≡ true
  pub goes_on : list_all (λ e. not (is_restart e.event)) (journal_of n h) ≡ true

-- where so each shard began, each death and each abort that is told is that of a younger one in the way of an older one: no closed part is
-- ever undone, so no abort takes another along, no shard votes no, and nobody is told that its request was refused
abbrev pub AbortsAreDeaths : Type 0
AbortsAreDeaths =
    (splits : List ℕ) (before : List (List LogRecord)) (h : History) (after : List (List LogRecord)) (so_far rest : History) (e : ℕ × Entry) (tx : TxId) (cause : AbortCause)
    → LegalFrom splits before h after → ((n : ℕ) → n < shard_count splits → BeginsSettled before h n)
    → so_far ++ e ∷ rest ≡ h → TellsCause (e.1).event (e.1).outcome tx cause → (older : TxId) × (cause ≡ Died older)
