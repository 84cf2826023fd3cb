-- The histories of the examples: they are legal, and they replay as serial runs.
use Rattle.clv_base.specs.declared.values.Value.TheVariants.{Num}
use Rattle.clv_base.specs.Core.{World}
use Rattle.clv_base.specs.FileRules.{have_spellings, may_open}
use Rattle.clv_base.specs.History.{Legal, Member, serial, serial_answers, serial_acts}
use Rattle.clv_base.specs.Journals.{History, final_of}
use Rattle.clv_base.specs.LogRules.{apart}
use Rattle.clv_base.specs.Logs.{stands}
use Rattle.clv_base.specs.Maps.{replay_answers, replay_map}
use Rattle.clv_base.specs.Restarts.{log_left}
use Rattle.clv_base.specs.Runs.{is_legal_by_tests}
use Rattle.clv_base.specs.State.{Shard}
use Rattle.clv_base.specs.declared.logs.LogRecord.{LogRecord}
use Rattle.clv_base.specs.declared.logs.LogRecord.TheVariants.{Commit, Restart, Update}
use Rattle.clv_base.specs.declared.ops.Answer.{Answer}
use Rattle.clv_base.specs.declared.ops.Answer.TheVariants.{Pairs, Value}
use Rattle.clv_base.specs.declared.ops.Op.{Op}
use Rattle.clv_base.specs.declared.ops.Op.TheVariants.{Del, Get, Put, Scan}
use Rattle.history_examples.specs.Cascades.{chain, gap_split_after}
use Rattle.history_examples.specs.Crashes.{flush_failed, stopped_found, stopped_lost}
use Rattle.history_examples.specs.InDoubt.{prepared_found, prepared_lost}
use Rattle.history_examples.specs.Playing.{empty_logs, splits_at, tx, operated}
use Rattle.history_examples.specs.Repeats.{asked_twice, repeats}
use Rattle.history_examples.specs.Scans.{phantoms, wide_reader}
use Rattle.history_examples.specs.Waiting.{old_waits, young_dies}
use Rattle.history_examples.specs.Writers.{one_write, own_writes}
use Rattle.std.specs.Prelude.{Bool, List, None, Some, [], false, map, suc, true, zero, ℕ, ◌+◌, ◌∷◌, ◌≡◌}

-- the logs that a crash leaves
abbrev pub left : World → Bool → List (List LogRecord)
left w flight_survives = map (λ s. log_left s flight_survives) w.shards

-- the shards after the history's entries, from n on
abbrev pub finals_from : ℕ → ℕ → History → List (List LogRecord) → List Shard
finals_from n zero h after = []
finals_from n (suc k) h after = final_of (empty_logs (n + suc k)) h after n ∷ finals_from (suc n) k h after

-- a member of a serial history
abbrev pub member : ℕ → ℕ → ℕ → List (Op × Answer) → Member
member s stamp shard ops = record { tx = tx s 1; point = record { stamp = stamp; shard = shard }; acts = operated 1 ops }

-- the serial history has these members; they replay with their answers to what the logs stand for
abbrev pub SerialIs : World → Bool → List Member → Type 0
SerialIs w flight_survives ms =
    (serial (left w flight_survives) (w.history) ≡ ms)
    × (replay_answers [] (serial_acts ms) ≡ serial_answers ms)
    × (replay_map [] (serial_acts ms) ≡ stands (left w flight_survives))

abbrev pub writer_alone : List Member
writer_alone = member 1 2 0 ((Put 5 (Num 10), Value None) ∷ []) ∷ []

abbrev pub Serial_found : Type 0
Serial_found = SerialIs stopped_found.world false writer_alone

abbrev pub Serial_lost : Type 0
Serial_lost = SerialIs stopped_lost.world true []

abbrev pub Legal_one : Type 0
Legal_one =
    (is_legal_by_tests [] stopped_found.world ≡ true) × (is_legal_by_tests [] stopped_lost.world ≡ true) × (is_legal_by_tests [] one_write.world ≡ true)

abbrev pub both_writers : List Member
both_writers =
    member 1 3 1 ((Put 5 (Num 10), Value None) ∷ (Put 9 (Num 90), Value None) ∷ []) ∷
    member 2 5 0 ((Put 3 (Num 30), Value None) ∷ (Put 5 (Num 11), Value (Some (Num 10))) ∷ []) ∷ []

abbrev pub Serial_wide : Type 0
Serial_wide = SerialIs prepared_found.world true both_writers × (apart (left prepared_found.world true) ≡ None)

abbrev pub Legal_wide : Type 0
Legal_wide = (is_legal_by_tests splits_at prepared_found.world ≡ true) × (is_legal_by_tests splits_at prepared_lost.world ≡ true)

-- so do the others
abbrev pub Legal_chain : Type 0
Legal_chain = (is_legal_by_tests (6 ∷ 7 ∷ []) chain.world ≡ true) × (is_legal_by_tests (10 ∷ []) gap_split_after.world ≡ true)

abbrev pub Legal_repeats : Type 0
Legal_repeats = (is_legal_by_tests splits_at repeats.world ≡ true) × (is_legal_by_tests splits_at asked_twice.world ≡ true)

abbrev pub Legal_small : Type 0
Legal_small =
    (is_legal_by_tests [] own_writes.world ≡ true) × (is_legal_by_tests [] flush_failed.world ≡ true) × (is_legal_by_tests [] young_dies.world ≡ true)
    × (is_legal_by_tests [] old_waits.world ≡ true)

abbrev pub Legal_readers : Type 0
Legal_readers = (is_legal_by_tests [] phantoms.world ≡ true) × (is_legal_by_tests splits_at wide_reader.world ≡ true)

-- the logs that a crash leaves may be opened again
abbrev pub Opens_again : Type 0
Opens_again =
    (may_open splits_at (left prepared_found.world true) ≡ true) × (have_spellings (left prepared_found.world true) ≡ true)
    × (may_open (4 ∷ 8 ∷ []) (left prepared_found.world true) ≡ true) × (may_open (6 ∷ 7 ∷ []) (left prepared_found.world true) ≡ false)

-- the entries of a history lead to the state: the log at the end is given, as it is left
abbrev pub found_log : List LogRecord
found_log = Restart 1 0 ∷ Update (tx 1 1) 5 None (Some (Num 10)) ∷ Commit (tx 1 1) [] ∷ Restart 1 1 ∷ []

abbrev pub found_final : Shard
found_final = final_of ([] ∷ []) (stopped_found.world.history) (found_log ∷ []) 0

abbrev pub Final_state : Type 0
Final_state =
    (left stopped_found.world true ≡ found_log ∷ []) × (found_final.local.log ≡ found_log) × (found_final.local.records ≡ (5, Some (Num 10)) ∷ [])
    × (found_final.local.locks ≡ []) × (found_final.is_up ≡ true) × (found_final.local.epoch ≡ 1)

abbrev pub one_log : List LogRecord
one_log = Restart 1 0 ∷ Update (tx 1 1) 5 None (Some (Num 10)) ∷ Commit (tx 1 1) [] ∷ []

abbrev pub One_is_legal : Type 0
One_is_legal = Legal [] (empty_logs 1) (one_write.world.history) (one_log ∷ [])

abbrev pub phantom_members : List Member
phantom_members =
    member 1 2 0 ((Put 5 (Num 10), Value None) ∷ []) ∷
    member 2 8 0 ((Scan 0 9, Pairs ((5, Num 10) ∷ [])) ∷ []) ∷
    record { tx = tx 3 2; point = record { stamp = 11; shard = 0 }; acts = operated 1 ((Put 7 (Num 70), Value None) ∷ []) } ∷
    member 4 13 0 ((Del 5, Value (Some (Num 10))) ∷ []) ∷
    member 5 15 0 ((Scan 0 9, Pairs ((7, Num 70) ∷ [])) ∷ []) ∷ []

abbrev pub Phantoms_replay : Type 0
Phantoms_replay = SerialIs phantoms.world false phantom_members

abbrev pub Wide_reader_replays : Type 0
Wide_reader_replays =
    SerialIs wide_reader.world false
    (member 1 3 0 ((Put 3 (Num 30), Value None) ∷ (Put 5 (Num 50), Value None) ∷ []) ∷
    member 2 7 0 ((Get 3, Value (Some (Num 30))) ∷ (Get 5, Value (Some (Num 50))) ∷ []) ∷ [])
