-- What a restart makes of a log: the log after it, and the state.
use Rattle.std.specs.Prelude.{Bool, List, None, Option, Some, [], cond, false, length, map, max, nat_le, nat_lt, not, suc, take, true, unwrap_or, zero, ℕ, ◌++◌, ◌-◌, ◌==◌, ◌||◌, ◌&&◌, ◌^◌, ◌∷◌, ◌≡◌}
use Rattle.std.specs.List.{filter, common_prefix_len}
use Rattle.clv_base.specs.declared.names.TxId.{TxId}
use Rattle.clv_base.specs.declared.names.Birth.{Birth}
use Rattle.clv_base.specs.declared.logs.LogRecord.{LogRecord}
use Rattle.clv_base.specs.declared.logs.LogRecord.TheVariants.{Commit, Abort, Restart, Check}
use Rattle.clv_base.specs.declared.events.Event.TheVariants.{Restart as RestartEvent}
use Rattle.clv_base.specs.declared.events.Outcome.{Outcome}
use Rattle.clv_base.specs.declared.events.Outcome.TheVariants.{Up, Nothing}
use Rattle.clv_base.specs.declared.events.Entry.{Entry}
use Rattle.clv_base.specs.declared.modes.Part.{Part}
use Rattle.clv_base.specs.declared.modes.Part.TheVariants.{I, X}
use Rattle.clv_base.specs.declared.modes.Anchor.TheVariants.{At}
use Rattle.clv_base.specs.Orders.{Table, tx_in, tx_put}
use Rattle.clv_base.specs.Maps.{KeyMap}
use Rattle.clv_base.specs.Logs.{StandingUpdate, Change, Sets, Adds, committed_in, aborted_in, place_from, ended_in, standing, writers, in_doubt, is_winner, fold_updates, prepare_of}
use Rattle.clv_base.specs.Values.{same_list}
use Rattle.clv_base.specs.LogRules.{same_record}
use Rattle.clv_base.specs.Modes.{on_key}
use Rattle.clv_base.specs.Locks.{Locks, take_one}
use Rattle.clv_base.specs.State.{Closed, Held, Local, Shard}
use Rattle.clv_base.specs.Undo.{clrs_of}
use Rattle.clv_base.specs.Participant.{restored_voters}
use Rattle.clv_base.specs.Coordinator.{restored_requests}
use Rattle.clv_base.specs.Needs.{Records, record_set, Found, Live, Ghost, Absent, found_at}
use Rattle.clv_base.specs.Events.{Does, CallAnswer, Quiet, stamped, next_stamp}

-- ---- the log after a restart

-- the transactions with a standing UPDATE or ADD that are neither committed here nor in doubt here, rising
abbrev pub losers : ℕ → List LogRecord → List TxId
losers shard log = filter (λ t. not (is_winner shard log t)) (writers (standing log))

-- an ABORT for each loser that has none, then their CLRs and UNADDs, the greatest LSN first
abbrev pub undo_records : ℕ → List LogRecord → List LogRecord
undo_records shard log = map (λ t. Abort t) (filter (λ t. not (aborted_in log t)) (losers shard log)) ++ clrs_of (losers shard log) (standing log)

-- then the RESTART
abbrev pub restart_records : ℕ → List LogRecord → ℕ → ℕ → List LogRecord
restart_records shard log run epoch = undo_records shard log ++ Restart run epoch ∷ []

abbrev pub log_after_restart : ℕ → List LogRecord → ℕ → ℕ → List LogRecord
log_after_restart shard log run epoch = log ++ restart_records shard log run epoch

-- ---- the state that a log leaves after its RESTART

-- a live record for each pair of the map
abbrev pub records_of : KeyMap → Records
records_of m = map (λ e. (e.0, Some e.1)) m

-- with a ghost at each key of the transactions' standing writes that has no value
abbrev pub ghost_if_absent : ℕ → Records → Found → Records
ghost_if_absent k rs Absent = record_set k None rs
ghost_if_absent k rs Ghost = rs
ghost_if_absent k rs (Live v) = rs

abbrev pub with_ghosts : List TxId → List StandingUpdate → Records → Records
with_ghosts txs [] rs = rs
with_ghosts txs (w ∷ ws) rs = with_ghosts txs ws (cond (tx_in w.tx txs) (ghost_if_absent w.key rs (found_at w.key rs)) rs)

-- the age of a restored part: no rule compares it, as it is never active
abbrev pub old_birth : TxId → Birth
old_birth tx = record { stamp = 0; session = tx.session; serial = tx.serial }

-- a closed lock of a restored part
abbrev pub restored_lock : TxId → ℕ → Part → Locks → Locks
restored_lock tx key part locks = take_one (At key) (record { tx = tx; birth = old_birth tx; mode = on_key part; closed = true }) locks

-- on the keys of their standing writes: key I where they only added, else key X
abbrev pub part_of : Change → Part
part_of (Sets before after) = X
part_of (Adds by) = I

abbrev pub restored_locks : List TxId → List StandingUpdate → Locks → Locks
restored_locks txs [] locks = locks
restored_locks txs (w ∷ ws) locks = restored_locks txs ws (cond (tx_in w.tx txs) (restored_lock w.tx w.key (part_of w.change) locks) locks)

abbrev pub restored_part : TxId → Held
restored_part tx = record { birth = old_birth tx; stage = Closed; is_restored = true; is_dropped = false }

abbrev pub restored_parts : List TxId → Table Held
restored_parts txs = map (λ t. (t, restored_part t)) txs

-- the home that its PREPARE names
abbrev pub home_by : Option (ℕ × List TxId) → ℕ
home_by None = 0
home_by (Some p) = p.0

abbrev pub homes_of : List LogRecord → List TxId → List (TxId × ℕ)
homes_of log txs = map (λ t. (t, home_by (prepare_of log t))) txs

-- its listed predecessors that have no COMMIT here
abbrev pub pairs_of_listed : List LogRecord → TxId → Option (ℕ × List TxId) → List (TxId × TxId)
pairs_of_listed log tx None = []
pairs_of_listed log tx (Some p) = map (λ q. (tx, q)) (filter (λ q. not (committed_in log q)) p.1)

abbrev pub restored_pairs : List LogRecord → List TxId → List (TxId × TxId)
restored_pairs log [] = []
restored_pairs log (t ∷ ts) = pairs_of_listed log t (prepare_of log t) ++ restored_pairs log ts

-- the COMMITs with parts and no END
abbrev pub unended_with : List LogRecord → TxId → List ℕ → Table (List ℕ) → Table (List ℕ)
unended_with log tx [] rest = rest
unended_with log tx (p ∷ ps) rest = cond (ended_in log tx) rest (tx_put tx (p ∷ ps) rest)

abbrev pub unended_in : List LogRecord → List LogRecord → Table (List ℕ)
unended_in log [] = []
unended_in log (Commit tx parts ∷ rs) = unended_with log tx parts (unended_in log rs)
unended_in log (_ ∷ rs) = unended_in log rs

-- the state of a shard whose log, which ends with a RESTART, is this
abbrev pub local_after : ℕ → ℕ → List LogRecord → Local
local_after shard epoch log =
    record {
      records = with_ghosts (in_doubt shard log) (standing log) (records_of (fold_updates (is_winner shard log) log []));
      locks = restored_locks (in_doubt shard log) (standing log) [];
      parts = restored_parts (in_doubt shard log);
      pairs = restored_pairs log (in_doubt shard log);
      log = log;
      epoch = epoch;
    }

abbrev pub state_after : ℕ → ℕ → ℕ → List LogRecord → ℕ → List Entry → Shard
state_after shard run epoch log last journal =
    record {
      shard = shard;
      run = run;
      is_up = true;
      local = local_after shard epoch log;
      voters = restored_voters (homes_of log (in_doubt shard log));
      requests = restored_requests (unended_in log log);
      durable = length log;
      flight = None;
      outbox = [];
      last = last;
      journal = journal;
    }

-- ---- opening

-- the greatest run in a log, and in all
abbrev pub greatest_run : List LogRecord → ℕ
greatest_run [] = 0
greatest_run (Restart run epoch ∷ rs) = max run (greatest_run rs)
greatest_run (Check run epoch upto base ∷ rs) = max run (greatest_run rs)
greatest_run (_ ∷ rs) = greatest_run rs

abbrev pub run_after : List (List LogRecord) → ℕ
run_after [] = 1
run_after (log ∷ logs) = max (suc (greatest_run log)) (run_after logs)

-- a shard as it is opened from its log
abbrev pub opened : ℕ → ℕ → List LogRecord → Shard
opened shard run log = state_after shard run 0 (log_after_restart shard log run 0) 0 []

-- ---- a live restart

-- the greatest epoch of the run in a log, and the shard's own
abbrev pub greatest_epoch : ℕ → ℕ → List LogRecord → ℕ
greatest_epoch run own [] = own
greatest_epoch run own (Restart r e ∷ rs) = greatest_epoch run (cond (r == run) (max own e) own) rs
greatest_epoch run own (Check r e upto base ∷ rs) = greatest_epoch run (cond (r == run) (max own e) own) rs
greatest_epoch run own (_ ∷ rs) = greatest_epoch run own rs

abbrev pub next_epoch : Shard → List LogRecord → ℕ
next_epoch s log = suc (greatest_epoch s.run s.local.epoch log)

-- the first record of a log by which a live restart refuses it: a RESTART of a greater run, or of this run with an epoch of 2^63 or more
abbrev pub bars_restart : ℕ → LogRecord → Bool
bars_restart run (Restart r e) = nat_lt run r || ((r == run) && nat_le (2 ^ 63) e)
bars_restart run (Check r e upto base) = nat_lt run r || ((r == run) && nat_le (2 ^ 63) e)
bars_restart run _ = false

abbrev pub first_barred : ℕ → List LogRecord → Option ℕ
first_barred run log = place_from 0 (bars_restart run) log

-- the log that a crash of this shard leaves: the durable records, with or without those in flight
abbrev pub log_left : Shard → Bool → List LogRecord
log_left s flight_survives = take (cond flight_survives (unwrap_or s.flight s.durable) s.durable) s.local.log

-- the shard is restarted with this log, which ends with the RESTART
abbrev pub revived : Shard → ℕ → List LogRecord → Shard
revived s epoch log = state_after s.shard s.run epoch log s.last s.journal

-- a restart that finds the durable records, with or without those in flight, and fails nowhere. It stands only on a shard that is down
abbrev pub revive_with : Shard → ℕ → ℕ → List LogRecord → ℕ → CallAnswer
revive_with s clock walker found epoch =
    stamped (next_stamp s clock RestartEvent) walker RestartEvent (nat_lt (next_stamp s clock RestartEvent) (2 ^ 48))
    (Does (Up epoch) (revived s epoch (log_after_restart s.shard found s.run epoch)))

abbrev pub revive_down : Shard → ℕ → ℕ → List LogRecord → CallAnswer
revive_down s clock walker found = revive_with s clock walker found (next_epoch s found)

abbrev pub revive : Shard → ℕ → ℕ → Bool → CallAnswer
revive s clock walker flight_survives = elim s.is_up [ true ↦ Quiet Nothing | false ↦ revive_down s clock walker (log_left s flight_survives) ]

-- ---- restarts that fail in between

-- a log of the shard that restarts of its run which all failed may leave of the log found: one that fails leaves some of its records,
-- from the first on, and the next goes on from there
pub data FailedRestarts (s : Shard) : List LogRecord → List LogRecord → Type 0 where
  untouched : {found : List LogRecord} → FailedRestarts s found found
  failed_first :
      {found left : List LogRecord} (n : ℕ) → FailedRestarts s (found ++ take n (restart_records s.shard found s.run (next_epoch s found))) left → FailedRestarts s found left

-- from this log they may lead to that one, by a last one that is whole, with that epoch
abbrev pub Restarts : Shard → List LogRecord → ℕ → List LogRecord → Type 0
Restarts s found epoch after =
    (left : List LogRecord) × FailedRestarts s found left × (epoch ≡ next_epoch s left) × (after ≡ log_after_restart s.shard left s.run epoch)

-- The same, computed: all that failed restarts may have added is some of what the next one would write, or RESTARTs of rising epochs.
-- So from a log that was found there is one log up to a RESTART of an epoch: the undo records, then a RESTART for each epoch from the next one on.
abbrev pub restarts_up : ℕ → ℕ → ℕ → List LogRecord
restarts_up run epoch zero = []
restarts_up run epoch (suc n) = Restart run epoch ∷ restarts_up run (suc epoch) n

abbrev pub log_up_to_epoch : Shard → List LogRecord → ℕ → List LogRecord
log_up_to_epoch s found epoch = found ++ undo_records s.shard found ++ restarts_up s.run (next_epoch s found) (suc epoch - next_epoch s found)

-- the state of a restarted shard settles nothing by itself
abbrev pub RestartLeads : Shard → Outcome → Shard → Type 0
RestartLeads s o t =
    (flight_survives : Bool) × (epoch : ℕ) × (after : List LogRecord) × Restarts s (log_left s flight_survives) epoch after × (o ≡ Up epoch) × (t ≡ revived s epoch after)

-- ---- whether a log that was found may stand after a restart with this epoch

-- a log that was found, against the one log up to the RESTART: it is that one, where the epoch is reached; and how far it is
abbrev pub is_log_up_to : Shard → List LogRecord → List LogRecord → ℕ → Bool
is_log_up_to s log found epoch = nat_le (next_epoch s found) epoch && same_list same_record log (log_up_to_epoch s found epoch)

abbrev pub agrees_up_to : Shard → List LogRecord → List LogRecord → ℕ → ℕ
agrees_up_to s log found epoch = common_prefix_len same_record log (log_up_to_epoch s found epoch)

-- none where the log is what restarts that found the durable records, with or without those in flight, may leave with this epoch;
-- else its first record by which it isn't, or its end where records are missing
abbrev pub misfit : Shard → List LogRecord → ℕ → Option ℕ
misfit s log epoch =
    elim (is_log_up_to s log (log_left s false) epoch || is_log_up_to s log (log_left s true) epoch) [
      | true ↦ None
      | false ↦ Some (max (agrees_up_to s log (log_left s false) epoch) (agrees_up_to s log (log_left s true) epoch))
    ]
