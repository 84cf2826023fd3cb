-- The records of a quiet shard are its log's map.
use Rattle.std.proofs.Common.{◌≡◌, sym, ap, ◌∙◌, true, false, Bool, [], ◌∷◌, length, arith, append-nil}
use Rattle.std.specs.Prelude.{take, unwrap_or}
use Rattle.std.proofs.lemmas.List.{take_all}
use Rattle.clv_base.specs.LogRules.{log_of}
use Rattle.clv_base.specs.Logs.{stands}
use Rattle.clv_base.specs.State.{Shard}
use Rattle.clv_base.specs.Restarts.{run_after, log_left}
use Rattle.clv_base.specs.Journals.{final_of}
use Rattle.clv_base.specs.History.{IsQuiet}
use Rattle.shard_laws.proofs.QuietIsSettled.{quiet_is_settled}
use Rattle.fate_laws.specs.Leading.{deeds_before, with_found}
use Rattle.fate_laws.specs.Settling.{QuietShardsAreTheirMaps}
use Rattle.fate_laws.proofs.EachShardLeads.{each_shard_leads}
use Rattle.history_laws.proofs.NeverTakenBack.{log_now}

-- a quiet shard's log is left whole
pub left_whole : (s : Shard) (kept : Bool) → IsQuiet s → log_left s kept ≡ s.local.log
left_whole s true q = ap (λ f. take (unwrap_or f s.durable) s.local.log) q.2 ∙ ap (λ n. take n s.local.log) q.1 ∙ take_all (length s.local.log) s.local.log (omega arith)
left_whole s false q = ap (λ n. take n s.local.log) q.1 ∙ take_all (length s.local.log) s.local.log (omega arith)

pub quiet_shards_are_their_maps : QuietShardsAreTheirMaps
quiet_shards_are_their_maps splits before h after choice n l i q =
    let s = final_of before h after n in
    let log = log_of before n in
    let e = deeds_before before h after n in
    quiet_is_settled n (run_after before) log (with_found n log e) s (each_shard_leads splits before h after h [] n l (append-nil h) i) q
    ∙ ap (λ z. stands (z ∷ [])) (sym (log_now splits before h after choice n i ∙ left_whole s (choice n) q))
