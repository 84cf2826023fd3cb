-- A walker's own entries as its passes have them, shard by shard.
use Rattle.std.specs.Prelude.{◌≡◌, ℕ, ◌<◌, ◌^◌, true, List, [], ◌∷◌, ◌++◌, length, slice_set}
use Rattle.std.specs.List.{AllByRecursion}
use Rattle.clv_base.specs.declared.logs.LogRecord.{LogRecord}
use Rattle.clv_base.specs.declared.events.Entry.{Entry}
use Rattle.clv_base.specs.Shards.{shard_count, are_splits}
use Rattle.clv_base.specs.LogRules.{log_of}
use Rattle.clv_base.specs.State.{Shard}
use Rattle.clv_base.specs.Restarts.{run_after}
use Rattle.clv_base.specs.Journals.{start_of, MayLeave}
use Rattle.history_replay.specs.Entries.{entries_of}
use Rattle.clv_base.specs.Machines.{Runs}
use Rattle.journal_laws.specs.Walkers.{WalkerKeeps, StampsRise, by_walker}
use Rattle.journal_laws.specs.Gathered.{journal_at, MakesHistory}

-- one entry more on a shard, after all of them, is one more at the end
abbrev pub OwnEntriesGoOn : Type 0
OwnEntriesGoOn =
    (views : List (List Entry)) (n : ℕ) (e : Entry) → n < length views → StampsRise (entries_of views) → AllByRecursion (λ f. (f.1).stamp < e.stamp) (entries_of views)
    → entries_of (slice_set views n (journal_at views n ++ e ∷ [])) ≡ entries_of views ++ (n, e) ∷ []

-- as `Gathered`, by what each pass has of its own
pub record GatheredViews (splits : List ℕ) (before after : List (List LogRecord)) (journals : List (List Entry)) (states : ℕ → Shard) (views : ℕ → List (List Entry)) : Type 0 where
  pub splits_rise : are_splits splits ≡ true
  pub each_log : (length before ≡ shard_count splits) × (length after ≡ shard_count splits)
  pub each_journal : length journals ≡ shard_count splits
  pub run_fits : run_after before < 2 ^ 32
  pub runs : (n : ℕ) → n < shard_count splits → Runs (start_of before n) (journal_at journals n) (states n)
  pub leaves : (n : ℕ) → n < shard_count splits → MayLeave (states n) (log_of after n)
  pub walkers : (walker : ℕ) → WalkerKeeps splits (run_after before) walker (entries_of (views walker))
  pub shared : (walker n : ℕ) → n < shard_count splits → by_walker walker (journal_at journals n) ≡ journal_at (views walker) n

abbrev pub ViewsAreLegal : Type 0
ViewsAreLegal =
    (splits : List ℕ) (before after : List (List LogRecord)) (journals : List (List Entry)) (states : ℕ → Shard) (views : ℕ → List (List Entry))
    → GatheredViews splits before after journals states views → MakesHistory splits before after journals states (λ w. entries_of (views w))
