-- What a run leaves whose sessions all went through.
use Rattle.std.specs.Prelude.{◌≡◌, ◌⊎◌, ℕ, ◌<◌, Bool, true, List, [], length, Option, Some, None}
use Rattle.clv_base.specs.declared.names.TxId.{TxId}
use Rattle.clv_base.specs.declared.logs.LogRecord.{LogRecord}
use Rattle.clv_base.specs.declared.events.Entry.{Entry}
use Rattle.clv_base.specs.Logs.{stands}
use Rattle.clv_base.specs.FileRules.{may_open}
use Rattle.clv_base.specs.Journals.{History}
use Rattle.clv_base.specs.History.{IsAmong, acknowledged_in, request_of, serial_acts}
use Rattle.history_laws.specs.Outcomes.{aborted_in_history}
use Rattle.io_model.specs.Sides.{Stories}
use Rattle.history_replay.specs.Entries.{Kept}
use Rattle.history_replay.specs.Replayed.{acknowledged_acts, replayed}
use Rattle.cluster_runs.specs.Histories.{entries, crash_logs, members_by}
use Rattle.script_lang.specs.Bodies.{Body}
use Rattle.cluster_runs.specs.Promises.{RunPromised}
use Rattle.cluster_runs.specs.PromisedSessions.{Went, Begun}

-- each session of the script went through
abbrev pub HaveGone : List (List Body) → (ℕ → Went) → Type 0
HaveGone script went = (k : ℕ) → k < length script → went k ≡ Begun None

-- who made a request was told of its acknowledgement, or of its abort
abbrev pub AreTold : History → Type 0
AreTold h =
    (n : ℕ) (e : Entry) (t : TxId) → IsAmong n e h → request_of e.event e.outcome ≡ Some t → (acknowledged_in h t ≡ true) ⊎ (aborted_in_history h t ≡ true)

abbrev pub RequestsAreTold : Type 0
RequestsAreTold =
    (splits : List ℕ) (before now : ℕ → Option Stories) (counts counts_now : ℕ → ℕ) (most : Option ℕ) (script : List (List Body)) (went : ℕ → Went) (kept : Kept)
    → RunPromised splits before now counts counts_now most script went kept → HaveGone script went → AreTold (entries kept)

-- whatever a crash keeps, what stands is the map after the acknowledged transactions
abbrev pub LeavesReplayed : List ℕ → Kept → List (List LogRecord) → Type 0
LeavesReplayed splits kept left = (choice : ℕ → Bool) → stands (crash_logs splits kept left choice) ≡ replayed kept

abbrev pub RunsReplay : Type 0
RunsReplay =
    (splits : List ℕ) (before now : ℕ → Option Stories) (counts counts_now : ℕ → ℕ) (most : Option ℕ) (script : List (List Body)) (went : ℕ → Went) (kept : Kept)
    → may_open splits kept.found ≡ true → (p : RunPromised splits before now counts counts_now most script went kept) → HaveGone script went
    → LeavesReplayed splits kept (p.keeps).left

-- and the members are the acknowledged transactions, with what they did
abbrev pub MembersAreAcknowledged : Type 0
MembersAreAcknowledged =
    (splits : List ℕ) (before now : ℕ → Option Stories) (counts counts_now : ℕ → ℕ) (most : Option ℕ) (script : List (List Body)) (went : ℕ → Went) (kept : Kept) (choice : ℕ → Bool)
    → may_open splits kept.found ≡ true → (p : RunPromised splits before now counts counts_now most script went kept) → HaveGone script went
    → serial_acts (members_by splits kept (p.keeps).left choice) ≡ acknowledged_acts (entries kept) (entries kept)

-- where there was no session, the map after the acknowledged transactions is what the logs found stand for
abbrev pub NothingIsReplayed : Type 0
NothingIsReplayed =
    (splits : List ℕ) (before now : ℕ → Option Stories) (counts counts_now : ℕ → ℕ) (most : Option ℕ) (went : ℕ → Went) (kept : Kept)
    → RunPromised splits before now counts counts_now most [] went kept → replayed kept ≡ stands kept.found
