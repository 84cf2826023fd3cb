-- A member that is in doubt in what is left on a shard never fell there.
use Rattle.std.proofs.Common.{◌≡◌, ℕ, ◌<◌, true, Bool, List, [], append-nil}
use Rattle.clv_base.specs.declared.names.TxId.{TxId}
use Rattle.clv_base.specs.declared.logs.LogRecord.{LogRecord}
use Rattle.clv_base.specs.Orders.{tx_in}
use Rattle.clv_base.specs.Logs.{committed_in, in_doubt}
use Rattle.clv_base.specs.LogRules.{log_of}
use Rattle.clv_base.specs.Shards.{shard_count}
use Rattle.clv_base.specs.Restarts.{run_after, log_left}
use Rattle.clv_base.specs.Journals.{History, final_of}
use Rattle.clv_base.specs.History.{logs_left}
use Rattle.history_laws.specs.Openings.{LegalFrom}
use Rattle.shard_laws.proofs.Cuts.WhoIsInDoubt.{prepared_cut}
use Rattle.fate_laws.proofs.History.EntriesInTurn.{Requested}
use Rattle.fate_laws.proofs.Origins.FrontsKeepOrigins.{DidOrOld, IsOld, traced_front}
use Rattle.fate_laws.proofs.Homes.DecidedStaysDecided.{commits_stand_at_home}
use Rattle.fate_laws.specs.Falls.{Fell}
use Rattle.fate_laws.proofs.EachShardLeads.RecordsTellTheirOrigin.{prepared_from}
use Rattle.headline_laws.proofs.RequestsNameTheirShards.{names_shard}
use Rattle.headline_laws.proofs.YesVotersNeverFell.{prepared_members_never_fell}
use Rattle.history_laws.proofs.Logs.DoubtedAreUndecided.{doubt_prepared}

pub unfallen : {splits : List ℕ} {before after : List (List LogRecord)} {h : History} → LegalFrom splits before h after → (choice : ℕ → Bool) (n m : ℕ) (t : TxId) → n < shard_count splits → m < shard_count splits → t.run ≡ run_after before
    → tx_in t (in_doubt n (log_left (final_of before h after n) (choice n))) ≡ true → committed_in (log_of (logs_left splits before h after choice) m) t ≡ true → Fell before h after n t → ⊥
unfallen {splits} {before} {after} {h} l choice n m t i j run doubt commit f =
    let s = final_of before h after n in
    let z = commits_stand_at_home splits before h after choice m t l j run commit in
    let r = z.1 in
    let prepared = prepared_cut _ s.local.log t (doubt_prepared n (log_left s (choice n)) t doubt) in
    let did = (prepared_from (DidOrOld (run_after before) h n) (Requested h) (IsOld (run_after before)) n s.local.log (((traced_front l h [] (append-nil h)).states n i).origins).log t prepared).0 in
    prepared_members_never_fell splits before h after choice m n z.0 r.0 r.1 t l j i r.2 r.3 r.4 (names_shard splits before after h n z.0 t r l.legal run did) commit prepared f
