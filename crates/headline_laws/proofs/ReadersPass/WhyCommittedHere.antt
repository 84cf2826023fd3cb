-- Who is committed on a shard has a write that stands there, or its home there.
use Rattle.std.proofs.Common.{◌≡◌, ◌⊎◌, inl, inr, ⊎_elim, ℕ, ◌<◌, true, List, ◌++◌, arith}
use Rattle.clv_base.specs.declared.names.TxId.{TxId}
use Rattle.clv_base.specs.declared.logs.LogRecord.{LogRecord}
use Rattle.clv_base.specs.Shards.{shard_count}
use Rattle.clv_base.specs.LogRules.{log_of}
use Rattle.clv_base.specs.Logs.{has_standing, committed_in}
use Rattle.clv_base.specs.State.{Shard}
use Rattle.clv_base.specs.Events.{finish}
use Rattle.clv_base.specs.Restarts.{run_after}
use Rattle.clv_base.specs.Journals.{History}
use Rattle.protocol_laws.specs.Growth.{IsPrefixOf}
use Rattle.history_cases.proofs.Stepping.{settled}
use Rattle.history_cases.proofs.Worlds.{state_at}
use Rattle.history_laws.specs.Openings.{LegalFrom}
use Rattle.shard_laws.specs.OneShard.{Leads}
use Rattle.shard_laws.proofs.OrderIsKept.{order_is_kept, part_is_old}
use Rattle.fate_laws.specs.Leading.{deeds_before, with_found}
use Rattle.fate_laws.proofs.History.EntriesInTurn.{Requested}
use Rattle.fate_laws.proofs.Origins.DueKeepsOrigins.{OwnRequest}
use Rattle.fate_laws.proofs.Origins.FrontsKeepOrigins.{DidOrOld, IsOld, traced_front}
use Rattle.fate_laws.proofs.Logs.LogOnlyGrows.{Inside, inside_due}
use Rattle.fate_laws.proofs.EachShardLeads.{each_shard_leads}
use Rattle.fate_laws.proofs.EachShardLeads.MessagesMayCome.{committed_stands}

-- the log after an entry goes on from that before what is due is done
pub finish_prefix : (s x : Shard) → Inside s x → IsPrefixOf s.local.log (finish x).local.log
finish_prefix s x i = (settled (Inside s) x (inside_due s) i).log

-- a write of who is committed on a shard, and is of this run, stands there, or it made its request there
pub committed_by : {splits : List ℕ} {before after : List (List LogRecord)} {h : History} → LegalFrom splits before h after → (pre post : History) → pre ++ post ≡ h → (n : ℕ) → n < shard_count splits → (t : TxId) → t.run ≡ run_after before
    → committed_in (state_at before after n pre).local.log t ≡ true → (has_standing (state_at before after n pre).local.log t ≡ true) ⊎ Requested pre t n
committed_by {splits} {before} {after} {h} l pre post q n i t run c =
    ⊎_elim (λ w. inl w) (λ r. inr (of_own (⊎_elim (λ o. o) (λ k. inr (part_is_old n (run_after before) found (with_found n found (deeds_before before pre after n)) s leads t k)) r)))
    (committed_stands (DidOrOld (run_after before) pre n) (Requested pre) (IsOld (run_after before)) n s.local.log t (((traced_front l pre post q).states n i).origins).log
    (order_is_kept n (run_after before) found (with_found n found (deeds_before before pre after n)) s leads) c)
  where
    s : Shard
    s = state_at before after n pre

    found : List LogRecord
    found = log_of before n

    leads : Leads n (run_after before) found (with_found n found (deeds_before before pre after n)) s
    leads = each_shard_leads splits before h after pre post n l q i

    of_own : OwnRequest (Requested pre) (IsOld (run_after before)) n t → Requested pre t n
    of_own (inl r) = r
    of_own (inr old) = absurd (omega (arith, old, run))
