-- Additions: to numbers and to what is none, beside each other, and undone.
use Rattle.clv_base.specs.declared.values.Value.TheVariants.{Bytes, Num}
use Rattle.clv_base.specs.Core.{disorders, locks_at, logs_of, pairs_at}
use Rattle.clv_base.specs.LogRules.{apart}
use Rattle.clv_base.specs.Runs.{is_legal_by_tests}
use Rattle.clv_base.specs.declared.causes.AbortCause.TheVariants.{Died, NoVote}
use Rattle.clv_base.specs.declared.causes.NoWhy.TheVariants.{Restarted as RestartedWhy}
use Rattle.clv_base.specs.declared.causes.Vote.TheVariants.{No}
use Rattle.clv_base.specs.declared.events.Event.TheVariants.{Stop}
use Rattle.clv_base.specs.declared.events.Outcome.{Outcome}
use Rattle.clv_base.specs.declared.events.Outcome.TheVariants.{Aborted, Acknowledged, Answered, Asked, Dead, Durable, Out, Sent, Stopped, Taken, Up, Wait}
use Rattle.clv_base.specs.declared.logs.LogRecord.{LogRecord}
use Rattle.clv_base.specs.declared.logs.LogRecord.TheVariants.{Abort, Add as AddRecord, Commit, Prepare, Restart, Unadd, Update}
use Rattle.clv_base.specs.declared.messages.Message.TheVariants.{Prepare as PrepareMessage, Vote as VoteMessage}
use Rattle.clv_base.specs.declared.modes.Anchor.TheVariants.{At}
use Rattle.clv_base.specs.declared.modes.Part.TheVariants.{I, N}
use Rattle.clv_base.specs.declared.ops.Answer.TheVariants.{Added, Value}
use Rattle.clv_base.specs.declared.ops.Op.TheVariants.{Add, Del, Get, Put}
use Rattle.history_examples.specs.Histories.{SerialIs, member}
use Rattle.history_examples.specs.Playing.{Act, Carry_from, Event_at, Land_at, Played, Restart_at, Shows, again, first, flush_out, look, mode, new_world, next, play, request, row, tx}
use Rattle.history_examples.specs.Soundness.{sound_after}
use Rattle.std.specs.Prelude.{List, None, Some, [], false, true, ℕ, ◌++◌, ◌∷◌, ◌≡◌}

-- ---- one transaction

abbrev pub greatest : ℕ
greatest = 18446744073709551615

-- it adds to the greatest number, and where there is no record
abbrev pub wrapping : List Act
wrapping =
    first 1 1 0 1 (Put 5 (Num greatest)) ∷ again 1 1 0 1 2 0 (Add 5 3) ∷ again 1 1 0 1 3 0 (Get 5) ∷ again 1 1 0 1 4 0 (Add 9 1) ∷
    request 1 1 0 ((0, 0) ∷ []) ∷ flush_out 0 ∷ Land_at 0 0 true ∷ look 1 1 0 ∷ []

abbrev pub wrapped : Played
wrapped = play wrapping (new_world 1)

abbrev pub SumsWrap : Type 0
SumsWrap =
    Shows wrapped
    (Answered (Value None) 0 ∷ Answered (Added true) 0 ∷ Answered (Value (Some (Num 2))) 0 ∷ Answered (Added false) 0 ∷ Asked ∷ Out 4 ∷ Durable 4 ∷
    Acknowledged ∷ [])
    ((Restart 1 0 ∷ Update (tx 1 1) 5 None (Some (Num greatest)) ∷ AddRecord (tx 1 1) 5 3 ∷ Commit (tx 1 1) [] ∷ []) ∷ [])
    (((5, Num 2) ∷ []) ∷ [])
    × SerialIs wrapped.world false
    (member 1 5 0 ((Put 5 (Num greatest), Value None) ∷ (Add 5 3, Added true) ∷ (Get 5, Value (Some (Num 2))) ∷ (Add 9 1, Added false) ∷ []) ∷ [])
    × (is_legal_by_tests [] wrapped.world ≡ true) × (sound_after wrapping (new_world 1) ≡ true)

-- it adds to a text, to a number, and where it deleted that
abbrev pub to_no_number : List Act
to_no_number =
    first 1 1 0 1 (Put 5 (Bytes (7 ∷ []))) ∷ again 1 1 0 1 2 0 (Add 5 1) ∷ again 1 1 0 1 3 0 (Put 5 (Num 1)) ∷ again 1 1 0 1 4 0 (Add 5 1) ∷
    again 1 1 0 1 5 0 (Del 5) ∷ again 1 1 0 1 6 0 (Add 5 1) ∷ again 1 1 0 1 7 0 (Get 5) ∷ request 1 1 0 ((0, 0) ∷ []) ∷ []

abbrev pub added_to_nothing : Played
added_to_nothing = play to_no_number (new_world 1)

abbrev pub NothingIsAddedToNoNumber : Type 0
NothingIsAddedToNoNumber =
    Shows added_to_nothing
    (Answered (Value None) 0 ∷ Answered (Added false) 0 ∷ Answered (Value (Some (Bytes (7 ∷ [])))) 0 ∷ Answered (Added true) 0 ∷
    Answered (Value (Some (Num 2))) 0 ∷ Answered (Added false) 0 ∷ Answered (Value None) 0 ∷ Asked ∷ [])
    ((Restart 1 0 ∷ Update (tx 1 1) 5 None (Some (Bytes (7 ∷ []))) ∷ Update (tx 1 1) 5 (Some (Bytes (7 ∷ []))) (Some (Num 1)) ∷
    AddRecord (tx 1 1) 5 1 ∷ Update (tx 1 1) 5 (Some (Num 2)) None ∷ Commit (tx 1 1) [] ∷ []) ∷ [])
    ([] ∷ [])
    × (is_legal_by_tests [] added_to_nothing.world ≡ true) × (sound_after to_no_number (new_world 1) ≡ true)

-- ---- beside each other

-- key 5, on shard 0, has 100. The first adds 5 there, writes on shard 1 too and requests; the second adds 7 beside it, and commits
abbrev pub counted : List Act
counted =
    first 3 1 0 1 (Put 5 (Num 100)) ∷ request 3 1 0 ((0, 0) ∷ []) ∷ flush_out 0 ∷ Land_at 0 0 true ∷ look 3 1 0 ∷
    first 1 1 0 2 (Add 5 5) ∷ next 1 1 1 2 2 (Put 11 (Num 1)) ∷ request 1 1 0 ((0, 0) ∷ (1, 0) ∷ []) ∷ first 2 1 0 3 (Add 5 7) ∷ []

abbrev pub counted_on : List Act
counted_on = request 2 1 0 ((0, 0) ∷ []) ∷ flush_out 0 ∷ Land_at 0 0 true ∷ look 2 1 0 ∷ []

-- then shard 1 restarts, and refuses the first
abbrev pub taken_back : List Act
taken_back = Event_at 0 1 Stop ∷ Restart_at 0 1 false ∷ Carry_from 0 0 ∷ Carry_from 0 1 ∷ look 1 1 0 ∷ []

abbrev pub beside : Played
beside = play counted (new_world 2)

abbrev pub beside_to_the_end : Played
beside_to_the_end = play (counted_on ++ taken_back) beside

abbrev pub AddersStandBesideEachOther : Type 0
AddersStandBesideEachOther =
    (locks_at beside.world 0 ≡ row (At 5) 1 2 (mode I N) true ∷ row (At 5) 2 3 (mode I N) false ∷ []) × (pairs_at beside.world 0 ≡ [])
    × (sound_after counted (new_world 2) ≡ true)

abbrev pub beside_heard : List Outcome
beside_heard =
    Answered (Value None) 0 ∷ Asked ∷ Out 3 ∷ Durable 3 ∷ Acknowledged ∷ Answered (Added true) 0 ∷ Answered (Value None) 0 ∷ Asked ∷
    Answered (Added true) 0 ∷ Asked ∷ Out 7 ∷ Durable 7 ∷ Acknowledged ∷ Stopped ∷ Up 1 ∷ Sent (PrepareMessage 1 (tx 1 1) 0 0) ∷ Taken ∷
    Sent (VoteMessage 0 (tx 1 1) 1 (No (RestartedWhy 0 1))) ∷ Taken ∷ Aborted (NoVote 1 (RestartedWhy 0 1)) ∷ []

abbrev pub beside_log : List LogRecord
beside_log =
    Restart 1 0 ∷ Update (tx 3 1) 5 None (Some (Num 100)) ∷ Commit (tx 3 1) [] ∷ AddRecord (tx 1 1) 5 5 ∷ Prepare (tx 1 1) 0 [] ∷
    AddRecord (tx 2 1) 5 7 ∷ Commit (tx 2 1) [] ∷ Abort (tx 1 1) ∷ Unadd (tx 1 1) None 5 5 ∷ []

abbrev pub UndoneBesideAnother : Type 0
UndoneBesideAnother =
    Shows beside_to_the_end beside_heard (beside_log ∷ (Restart 1 0 ∷ Restart 1 1 ∷ []) ∷ []) (((5, Num 107) ∷ []) ∷ [] ∷ [])
    × (disorders 0 (logs_of beside_to_the_end.world) ≡ None ∷ None ∷ []) × (apart (logs_of beside_to_the_end.world) ≡ None)

abbrev pub AddersReplay : Type 0
AddersReplay =
    SerialIs beside_to_the_end.world false (member 3 2 0 ((Put 5 (Num 100), Value None) ∷ []) ∷ member 2 10 0 ((Add 5 7, Added true) ∷ []) ∷ [])

abbrev pub AddersAreLegal : Type 0
AddersAreLegal = is_legal_by_tests (10 ∷ []) beside_to_the_end.world ≡ true

abbrev pub AddersAreSound : Type 0
AddersAreSound = sound_after (counted_on ++ taken_back) beside ≡ true

-- ---- beside those that read

-- a younger one adds over a read that isn't closed, and an older one reads over an addition that isn't
abbrev pub reads_and_adds : Played
reads_and_adds =
    play
    (first 3 1 0 1 (Put 5 (Num 100)) ∷ request 3 1 0 ((0, 0) ∷ []) ∷ first 1 1 0 2 (Get 5) ∷ first 2 1 0 3 (Add 5 7) ∷ request 1 1 0 ((0, 0) ∷ []) ∷
    first 4 1 0 5 (Add 5 1) ∷ first 5 1 0 4 (Get 5) ∷ [])
    (new_world 1)

abbrev pub ReadersKeepAddersOut : Type 0
ReadersKeepAddersOut =
    reads_and_adds.heard ≡
    Answered (Value None) 0 ∷ Asked ∷ Answered (Value (Some (Num 100))) 0 ∷ Dead (Died (tx 1 1)) ∷ Asked ∷ Answered (Added true) 0 ∷ Wait (tx 4 1) ∷ []

-- ---- logs

-- a number that was set, and an addition
abbrev pub added_log : List LogRecord
added_log = Restart 1 0 ∷ Update (tx 3 1) 5 None (Some (Num 100)) ∷ Commit (tx 3 1) [] ∷ AddRecord (tx 1 1) 5 5 ∷ Prepare (tx 1 1) 0 [] ∷ []

abbrev pub AdditionsHaveOrder : Type 0
AdditionsHaveOrder =
    -- over it another one is committed, which need not wait, and it is undone
    (disorders 0 ((added_log ++ AddRecord (tx 2 1) 5 7 ∷ Commit (tx 2 1) [] ∷ Abort (tx 1 1) ∷ Unadd (tx 1 1) None 5 5 ∷ []) ∷ []) ≡ None ∷ [])
    -- a value is set over it, whose COMMIT waits; and below that it isn't undone
    × (disorders 0 ((added_log ++ Update (tx 2 1) 5 (Some (Num 105)) None ∷ Commit (tx 2 1) [] ∷ []) ∷ []) ≡ Some 6 ∷ [])
    × (disorders 0 ((added_log ++ Update (tx 2 1) 5 (Some (Num 105)) None ∷ Abort (tx 1 1) ∷ Unadd (tx 1 1) None 5 5 ∷ []) ∷ []) ≡ Some 7 ∷ [])
    -- an ADD where there is no number, and an UNADD of another number
    × (disorders 0 ((added_log ++ AddRecord (tx 2 1) 6 1 ∷ []) ∷ []) ≡ Some 5 ∷ [])
    × (disorders 0 ((added_log ++ Abort (tx 1 1) ∷ Unadd (tx 1 1) None 5 6 ∷ []) ∷ []) ≡ Some 6 ∷ [])
