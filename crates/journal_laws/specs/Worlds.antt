-- Worlds that make one step after another: at each moment their history is legal, whatever a crash then leaves.
use Rattle.std.specs.Prelude.{◌≡◌, ℕ, zero, suc, ◌+◌, ◌<◌, ◌^◌, Bool, true, cond, nat_lt, nat_le, List, [], ◌∷◌, length, Some, None, slice_get}
use Rattle.std.specs.List.{list_all, AllByRecursion}
use Rattle.clv_base.specs.declared.logs.LogRecord.{LogRecord}
use Rattle.clv_base.specs.Shards.{shard_count, are_splits}
use Rattle.clv_base.specs.declared.events.CoreStep.{CoreStep}
use Rattle.clv_base.specs.FileRules.{may_open, have_spellings}
use Rattle.clv_base.specs.Core.{World}
use Rattle.clv_base.specs.Runs.{run_on, run_events}
use Rattle.clv_base.specs.State.{Shard}
use Rattle.clv_base.specs.Restarts.{opened, run_after}
use Rattle.clv_base.specs.Sessions.{is_session}
use Rattle.clv_base.specs.Journals.{is_ordered, journal_of, own, start_of, logs_left_from}
use Rattle.clv_base.specs.History.{Legal, MessagesSent}
use Rattle.clv_base.specs.Machines.{Runs}
use Rattle.journal_laws.specs.Walkers.{StampsRise, is_numbered}

-- the logs of shards that were just made
abbrev pub empty_logs : ℕ → List (List LogRecord)
empty_logs zero = []
empty_logs (suc k) = [] ∷ empty_logs k

-- how many of the shards have a stamp that only a flush's end may have
abbrev pub count_past : List Shard → ℕ
count_past [] = 0
count_past (s ∷ ss) = cond (nat_le (2 ^ 48) s.last) 1 0 + count_past ss

-- no shard that has records in flight has such a stamp, while it is up
abbrev pub LandsInTime : Shard → Type 0
LandsInTime s = s.is_up ≡ true → (n : ℕ) → s.flight ≡ Some n → s.last < 2 ^ 48

-- each shard ran from the state in which its log was opened; the entries are in order; the walkers keep the rules
pub record Steady (splits : List ℕ) (before : List (List LogRecord)) (w : World) : Type 0 where
  pub shards : length w.shards ≡ shard_count splits
  pub runs : (n : ℕ) (s : Shard) → slice_get w.shards n ≡ Some s → Runs (start_of before n) (journal_of n w.history) s
  pub lands : (n : ℕ) (s : Shard) → slice_get w.shards n ≡ Some s → LandsInTime s
  pub stamped : AllByRecursion (λ e. (e.1).stamp < 2 ^ 48 + count_past w.shards) w.history
  pub ordered : is_ordered w.history ≡ true
  pub in_shards : list_all (λ e. nat_lt e.0 (shard_count splits)) w.history ≡ true
  pub stamps : (walker : ℕ) → StampsRise (own walker w.history)
  pub sessions : (walker : ℕ) → is_session splits (run_after before) walker (own walker w.history) ≡ true
  pub numbered : (walker : ℕ) → list_all (is_numbered walker) (own walker w.history) ≡ true
  pub messages : MessagesSent [] w.history

abbrev pub StepsKeepSteady : Type 0
StepsKeepSteady =
    (splits : List ℕ) (before : List (List LogRecord)) (w : World) (c : CoreStep) → are_splits splits ≡ true → Steady splits before w
    → Steady splits before (run_on splits w c (slice_get w.shards c.shard))

-- a shard of a world
abbrev pub shard_at : World → ℕ → Shard
shard_at w n = elim (slice_get w.shards n) [ Some s ↦ s | None ↦ opened n 1 [] ]

-- the logs that a crash leaves now, by a choice for each shard
abbrev pub logs_now : List ℕ → World → (ℕ → Bool) → List (List LogRecord)
logs_now splits w choice = logs_left_from (shard_at w) choice 0 (shard_count splits)

abbrev pub SteadyIsLegal : Type 0
SteadyIsLegal =
    (splits : List ℕ) (before : List (List LogRecord)) (w : World) (choice : ℕ → Bool) → are_splits splits ≡ true → length before ≡ shard_count splits → run_after before < 2 ^ 32
    → Steady splits before w → Legal splits before w.history (logs_now splits w choice)

abbrev pub RunEventsIsLegal : Type 0
RunEventsIsLegal =
    (splits : List ℕ) (cs : List CoreStep) (choice : ℕ → Bool) → are_splits splits ≡ true
    → Legal splits (empty_logs (shard_count splits)) (run_events splits cs).history (logs_now splits (run_events splits cs) choice)

-- empty logs may be opened, and their records, of which there are none, have spellings
abbrev pub EmptyLogsMayBeOpened : Type 0
EmptyLogsMayBeOpened = (splits : List ℕ) (k : ℕ) → (may_open splits (empty_logs k) ≡ true) × (have_spellings (empty_logs k) ≡ true)
