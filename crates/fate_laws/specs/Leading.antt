-- What a shard of a history of many did, and that the laws of one shard hold of it.
use Rattle.std.specs.Prelude.{◌≡◌, ℕ, ◌<◌, List, [], ◌∷◌, ◌++◌, map, Some, None}
use Rattle.clv_base.specs.declared.names.TxId.{TxId}
use Rattle.clv_base.specs.declared.logs.LogRecord.{LogRecord}
use Rattle.clv_base.specs.declared.events.Event.{Event}
use Rattle.clv_base.specs.declared.events.Event.TheVariants.{Restart}
use Rattle.clv_base.specs.declared.events.Entry.{Entry}
use Rattle.clv_base.specs.Shards.{shard_count}
use Rattle.clv_base.specs.LogRules.{log_of}
use Rattle.clv_base.specs.State.{Shard}
use Rattle.clv_base.specs.Restarts.{run_after}
use Rattle.clv_base.specs.Journals.{History, journal_of, start_of, after_entry}
use Rattle.clv_base.specs.History.{request_of, state_before}
use Rattle.law_base.specs.Items.{Did}
use Rattle.history_laws.specs.Openings.{LegalFrom}
use Rattle.shard_laws.specs.OneShard.{Deeds, no_deeds, Leads, with_one, new_deed, new_told, new_met, doomed_in, left_out, found_items, found_asked, found_met}

-- ---- what a shard did

-- who falls by an event: at a restart those that it leaves out, else those whose parts an abort took away
abbrev pub falling : Event → Shard → Shard → List TxId
falling Restart s t = left_out s t
falling _ s t = doomed_in t

abbrev pub deeds_with : Deeds → Shard → Shard → Entry → Deeds
deeds_with d s t e =
    record d {
      done = with_one d.done (new_deed s e.event e.outcome);
      told = with_one d.told (new_told e.event e.outcome);
      met = new_met s e.event e.outcome ++ d.met;
      fell = falling e.event s t ++ d.fell;
    }

-- by the entries of its journal, from a state, with what it did before
abbrev pub deeds_after : List LogRecord → Deeds → Shard → List Entry → Deeds
deeds_after log d s [] = d
deeds_after log d s (e ∷ es) = let t = after_entry log s e in deeds_after log (deeds_with d s t e) t es

abbrev pub own_deeds : List (List LogRecord) → History → List (List LogRecord) → ℕ → Deeds
own_deeds before so_far after n = deeds_after (log_of after n) no_deeds (start_of before n) (journal_of n so_far)

-- the transactions whose requests were taken, on any shard, in order
abbrev pub requests_of : History → List TxId
requests_of [] = []
requests_of (e ∷ es) = elim (request_of (e.1).event (e.1).outcome) [ Some t ↦ t ∷ requests_of es | None ↦ requests_of es ]

-- with those that asked on any shard
abbrev pub deeds_before : List (List LogRecord) → History → List (List LogRecord) → ℕ → Deeds
deeds_before before so_far after n = record (own_deeds before so_far after n) { asked = requests_of so_far }

-- with what those that its log left in doubt did before
abbrev pub with_found : ℕ → List LogRecord → Deeds → Deeds
with_found n log d = record { done = map (λ x. Did x) (found_items n log) ++ d.done; asked = found_asked n log ++ d.asked; told = d.told; met = d.met ++ found_met n log; fell = d.fell }

-- ---- the laws of one shard hold of each

-- where whom its log left in doubt acted, asked and met before
abbrev pub EachShardLeads : Type 0
EachShardLeads =
    (splits : List ℕ) (before : List (List LogRecord)) (h : History) (after : List (List LogRecord)) (so_far rest : History) (n : ℕ)
    → LegalFrom splits before h after → so_far ++ rest ≡ h → n < shard_count splits
    → Leads n (run_after before) (log_of before n) (with_found n (log_of before n) (deeds_before before so_far after n)) (state_before before so_far after n)
