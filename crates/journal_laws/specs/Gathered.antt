-- What a cluster has in hand at its end: each shard's journal and each walker's own entries. They make a legal history.
use Rattle.std.specs.Prelude.{◌≡◌, ℕ, ◌<◌, ◌^◌, true, List, [], length, Some, None, slice_get}
use Rattle.clv_base.specs.declared.logs.LogRecord.{LogRecord}
use Rattle.clv_base.specs.declared.events.Entry.{Entry}
use Rattle.clv_base.specs.Shards.{shard_count, are_splits}
use Rattle.clv_base.specs.LogRules.{log_of}
use Rattle.clv_base.specs.State.{Shard}
use Rattle.clv_base.specs.Restarts.{run_after}
use Rattle.clv_base.specs.Journals.{History, journal_of, own, start_of, final_of, MayLeave}
use Rattle.clv_base.specs.History.{Legal}
use Rattle.history_replay.specs.Entries.{entries_of}
use Rattle.clv_base.specs.Machines.{Runs}
use Rattle.journal_laws.specs.Walkers.{WalkerKeeps, by_walker}

-- the journal of shard n
abbrev pub journal_at : List (List Entry) → ℕ → List Entry
journal_at journals n = elim (slice_get journals n) [ Some j ↦ j | None ↦ [] ]

-- each shard's journal leads from the state in which its log was opened to its state now, and its log now is one that it may leave. Each walker kept its
-- own entries, and on each shard these are the journal's entries of its number
pub record Gathered (splits : List ℕ) (before after : List (List LogRecord)) (journals : List (List Entry)) (states : ℕ → Shard) (kept : ℕ → History) : Type 0 where
  pub splits_rise : are_splits splits ≡ true
  pub each_log : (length before ≡ shard_count splits) × (length after ≡ shard_count splits)
  pub each_journal : length journals ≡ shard_count splits
  pub run_fits : run_after before < 2 ^ 32
  pub runs : (n : ℕ) → n < shard_count splits → Runs (start_of before n) (journal_at journals n) (states n)
  pub leaves : (n : ℕ) → n < shard_count splits → MayLeave (states n) (log_of after n)
  pub walkers : (walker : ℕ) → WalkerKeeps splits (run_after before) walker (kept walker)
  pub shared : (walker n : ℕ) → n < shard_count splits → by_walker walker (journal_at journals n) ≡ journal_of n (kept walker)

-- the entries of all journals, by stamp, then shard, are a legal history; its journals, states and walkers' own entries are these
pub record MakesHistory (splits : List ℕ) (before after : List (List LogRecord)) (journals : List (List Entry)) (states : ℕ → Shard) (kept : ℕ → History) : Type 0 where
  pub legal : Legal splits before (entries_of journals) after
  pub same_journals : (n : ℕ) → n < shard_count splits → journal_of n (entries_of journals) ≡ journal_at journals n
  pub same_states : (n : ℕ) → n < shard_count splits → final_of before (entries_of journals) after n ≡ states n
  pub same_own : (walker : ℕ) → own walker (entries_of journals) ≡ kept walker

abbrev pub GatheredIsLegal : Type 0
GatheredIsLegal =
    (splits : List ℕ) (before after : List (List LogRecord)) (journals : List (List Entry)) (states : ℕ → Shard) (kept : ℕ → History)
    → Gathered splits before after journals states kept → MakesHistory splits before after journals states kept
