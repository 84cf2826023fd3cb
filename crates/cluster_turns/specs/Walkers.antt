-- What a walker has of a cluster, and what one turn makes of it.
use Rattle.std.specs.Prelude.{◌≡◌, ℕ, suc, ◌<◌, ◌≤◌, ◌^◌, ◌-◌, true, not, ◌||◌, List, [], ◌∷◌, ◌++◌, map, length, slice_index_or, slice_set, Option, Some, None, Result, Ok, Err}
use Rattle.std.specs.List.{AllByRecursion}
use Rattle.clv_base.specs.declared.names.TxId.{TxId}
use Rattle.clv_base.specs.declared.names.Birth.{Birth}
use Rattle.clv_base.specs.declared.logs.LogRecord.{LogRecord}
use Rattle.clv_base.specs.declared.events.Event.{Event}
use Rattle.clv_base.specs.declared.events.Outcome.{Outcome}
use Rattle.clv_base.specs.declared.events.Entry.{Entry}
use Rattle.clv_base.specs.State.{Shard}
use Rattle.clv_base.specs.Shards.{shard_count}
use Rattle.clv_base.specs.LogRules.{log_of}
use Rattle.clv_base.specs.Restarts.{run_after}
use Rattle.clv_base.specs.Events.{Does, happen}
use Rattle.clv_base.specs.Sessions.{is_session, is_of_session, is_session_number}
use Rattle.clv_base.specs.History.{WasSent}
use Rattle.clv_base.specs.Journals.{History}
use Rattle.history_replay.specs.Entries.{on_shard, entries_of}
use Rattle.journal_laws.specs.Walkers.{WalkerKeeps}
use Rattle.machine_calls.specs.Steps.{entry}
use Rattle.turn_lock.specs.declared.pass.TurnLock.{TurnLock}
use Rattle.turn_lock.specs.declared.pass.Pass.{Pass}
use Rattle.turn_lock.specs.Passes.{number, pass_origin, seen, own, known, IsPassOf, IsSamePass, IsNewPass}
use Rattle.machine_laws.specs.declared.notes.Note.{Note}
use Rattle.machine_laws.specs.declared.notes.Origin.{Origin}
use Rattle.machine_laws.specs.Homes.{entries_in, state_of, is_named, IsFree}
use Rattle.cluster_turns.specs.declared.shards.Shards.{Shards}
use Rattle.cluster_turns.specs.declared.shards.Walker.{Walker}
use Rattle.cluster_turns.specs.declared.shards.WornClock.{WornClock}
use Rattle.cluster_turns.specs.Turns.{Turned}

-- what never changes of shard n of a cluster with these splits that found these logs
pub record IsOriginAt (splits : List ℕ) (founds : List (List LogRecord)) (n : ℕ) (o : Origin) : Type 0 where
  pub shard : o.shard ≡ n
  pub run : o.run ≡ run_after founds
  pub found : o.found.value.items ≡ log_of founds n
  pub splits_are : o.splits.value ≡ splits

-- after the walker's entries its session goes on by the event, whatever comes of it; the walker may make it, and what it delivers it sent
pub record GoesOn (splits : List ℕ) (run w : ℕ) (es : History) (n : ℕ) (e : Event) : Type 0 where
  pub session : (s t : Shard) (stamp : ℕ) (o : Outcome) → happen s e ≡ Does o t → is_session splits run w (es ++ (n, entry stamp w e o) ∷ []) ≡ true
  pub numbered : (not (is_of_session e) || is_session_number w) ≡ true
  pub sent : WasSent es e

module _ {T : Type 0} where
  -- p is a pass of the number w of the lock at k
  pub record IsPassAt (splits : List ℕ) (founds : List (List LogRecord)) (locks : List (TurnLock T Note Origin)) (w k : ℕ) (p : Pass T Note Origin) : Type 0 where
    pub ours : (l : TurnLock T Note Origin) → IsPassOf (slice_index_or locks k l) p
    pub number_is : number p ≡ w
    pub origin : Origin
    pub has_origin : pass_origin p ≡ Some origin
    pub origin_is : IsOriginAt splits founds k origin

  -- the passes are of the number w, one for each lock
  pub record ArePassesOf (splits : List ℕ) (founds : List (List LogRecord)) (locks : List (TurnLock T Note Origin)) (w : ℕ) (passes : List (Option (Pass T Note Origin))) : Type 0 where
    pub count : length passes ≡ length locks
    pub each : (k : ℕ) (d : Option (Pass T Note Origin)) → k < length locks → (p : Pass T Note Origin) × (slice_index_or passes k d ≡ Some p) × IsPassAt splits founds locks w k p

  -- they are new ones
  pub record AreNewPasses (splits : List ℕ) (founds : List (List LogRecord)) (locks : List (TurnLock T Note Origin)) (w : ℕ) (passes : List (Option (Pass T Note Origin))) : Type 0 where
    pub count : length passes ≡ length locks
    pub each :
        (k : ℕ) (d : Option (Pass T Note Origin)) → k < length locks
        → (p : Pass T Note Origin) × (o : Origin) × (slice_index_or passes k d ≡ Some p) × ((l : TurnLock T Note Origin) → IsNewPass (slice_index_or locks k l) o w p) × IsOriginAt splits founds k o

  -- the walker's own entries on one shard, on all, and by stamp, then shard
  abbrev pub own_of : Option (Pass T Note Origin) → List Entry
  own_of None = []
  own_of (Some p) = entries_in (own p)

  abbrev pub own_lists : List (Option (Pass T Note Origin)) → List (List Entry)
  own_lists passes = map own_of passes

  abbrev pub kept : List (Option (Pass T Note Origin)) → History
  kept passes = entries_of (own_lists passes)

  -- passes of one number; what the walker keeps is a walker's, and none of it has a stamp past the clock
  pub record IsWalkerOf (splits : List ℕ) (founds : List (List LogRecord)) (locks : List (TurnLock T Note Origin)) (w clock : ℕ) (passes : List (Option (Pass T Note Origin))) : Type 0 where
    pub are_passes : ArePassesOf splits founds locks w passes
    pub keeps : WalkerKeeps splits (run_after founds) w (kept passes)
    pub in_time : AllByRecursion (λ f. (f.1).stamp ≤ clock) (kept passes)

  -- one turn on shard n: its pass p becomes q, all others stay, and what the walker keeps grows by the entries of the notes that it added
  pub record Walked (Told : Shard → Shard → List Note → Type 0) (n w : ℕ) (before after : List (Option (Pass T Note Origin))) : Type 0 where
    pub p : Pass T Note Origin
    pub q : Pass T Note Origin
    pub had : (d : Option (Pass T Note Origin)) → slice_index_or before n d ≡ Some p
    pub turned : Turned Told w p q
    pub after_is : after ≡ slice_set before n (Some q)
    pub kept_is : kept after ≡ kept before ++ on_shard n (entries_in turned.added)

  -- an operation's birth, or the transaction of a drop, bears the walker's number; as its pass has seen the shard, this is down, or no other part of the birth is active there
  pub record MayBeFree (n w : ℕ) (e : Event) (passes : List (Option (Pass T Note Origin))) : Type 0 where
    pub named : is_named w e ≡ true
    pub free : (p : Pass T Note Origin) (o : Origin) → ((d : Option (Pass T Note Origin)) → slice_index_or passes n d ≡ Some p) → pass_origin p ≡ Some o → IsFree (state_of o (seen p)) e

  -- the pass of shard n knows at least as much as before to be durable, and was answered what it knows; nothing else changed
  pub record Looked (n : ℕ) (before : List (Option (Pass T Note Origin))) (horizon : ℕ) (after : List (Option (Pass T Note Origin))) : Type 0 where
    pub p : Pass T Note Origin
    pub q : Pass T Note Origin
    pub had : (d : Option (Pass T Note Origin)) → slice_index_or before n d ≡ Some p
    pub after_is : after ≡ slice_set before n (Some q)
    pub same : IsSamePass p q
    pub rises : known p ≤ horizon
    pub knows : known q ≡ horizon

module _ {M S G : Type 0} where
  -- the logs that opening found
  abbrev pub founds_of : Shards M S G → List (List LogRecord)
  founds_of sh = map (λ log. log.items) sh.found.value.items

  pub record IsWalker (sh : Shards M S G) (w : Walker M S G) : Type 0 where
    pub count : length sh.locks.items ≡ shard_count sh.splits
    pub run : sh.run ≡ run_after (founds_of sh)
    pub walks : IsWalkerOf sh.splits (founds_of sh) sh.locks.items w.number w.clock w.passes.items
    pub serials : w.serial ≤ w.clock

  -- a turn leaves the walker's number and serial
  abbrev pub IsSameWalker : Walker M S G → Walker M S G → Type 0
  IsSameWalker before after = (after.number ≡ before.number) × (after.serial ≡ before.serial)

  -- the name and the birth of a walker's next transaction
  abbrev pub TellsNext : ℕ → Walker M S G → Result (TxId × Birth) WornClock → Walker M S G → Type 0
  TellsNext run before (Ok (tx, birth)) after =
      (tx ≡ record { run = run; session = before.number; serial = suc before.serial }) × (birth ≡ record { stamp = suc before.clock; session = before.number; serial = suc before.serial })
      × (before.clock < 2 ^ 48 - 1) × (after ≡ record before { clock = suc before.clock; serial = suc before.serial })
  TellsNext run before (Err worn) after = (worn.at ≡ 2 ^ 48) × (2 ^ 48 - 1 ≤ before.clock) × (after ≡ before)
