-- Goings back: what is taken away, what stays, who meets what, and how such transactions vote.
use Rattle.clv_base.specs.declared.values.Value.TheVariants.{Num}
use Rattle.clv_base.specs.Core.{disorders, logs_of, pairs_at}
use Rattle.clv_base.specs.History.{Member}
use Rattle.clv_base.specs.LogRules.{apart}
use Rattle.clv_base.specs.Maps.{GoesBack}
use Rattle.clv_base.specs.Runs.{is_legal_by_tests}
use Rattle.clv_base.specs.declared.causes.AbortCause.TheVariants.{Died}
use Rattle.clv_base.specs.declared.causes.Vote.TheVariants.{Read}
use Rattle.clv_base.specs.declared.events.Event.TheVariants.{Send}
use Rattle.clv_base.specs.declared.events.Outcome.TheVariants.{Acknowledged, Answered, Asked, Dead, Durable, Nothing, Out, Rolled, Sent, Taken}
use Rattle.clv_base.specs.declared.logs.LogRecord.{LogRecord}
use Rattle.clv_base.specs.declared.logs.LogRecord.TheVariants.{Abort, Add as AddRecord, Clr, Commit, End, Prepare, Restart, Unadd, Update}
use Rattle.clv_base.specs.declared.messages.Message.TheVariants.{Prepare as PrepareMessage, Vote as VoteMessage}
use Rattle.clv_base.specs.declared.ops.Answer.TheVariants.{Added, Value}
use Rattle.clv_base.specs.declared.ops.Op.TheVariants.{Add, Get, Put}
use Rattle.history_examples.specs.Histories.{SerialIs}
use Rattle.history_examples.specs.Playing.{Act, Carry_from, Event_at, Land_at, Played, Shows, again, first, flush_out, go_back, look, new_world, next, operated, play, request, tx}
use Rattle.history_examples.specs.Soundness.{sound_after}
use Rattle.std.specs.Prelude.{List, None, Some, [], false, true, ◌++◌, ◌∷◌, ◌≡◌}

-- ---- one transaction

-- it puts twice, goes back to after the first, and reads before and behind that
abbrev pub returning : List Act
returning =
    first 1 1 0 1 (Put 5 (Num 1)) ∷ again 1 1 0 1 2 0 (Put 5 (Num 2)) ∷ again 1 1 0 1 3 0 (Get 5) ∷ go_back 1 1 0 4 0 1 ∷ again 1 1 0 1 5 0 (Get 5) ∷
    request 1 1 0 ((0, 0) ∷ []) ∷ flush_out 0 ∷ Land_at 0 0 true ∷ look 1 1 0 ∷ []

abbrev pub returned : Played
returned = play returning (new_world 1)

abbrev pub returning_member : Member
returning_member = record {
  tx = tx 1 1;
  point = record { stamp = 6; shard = 0 };
  acts = operated 1 ((Put 5 (Num 1), Value None) ∷ (Put 5 (Num 2), Value (Some (Num 1))) ∷ (Get 5, Value (Some (Num 2))) ∷ [])
      ++ (4, GoesBack 1, None) ∷ operated 5 ((Get 5, Value (Some (Num 1))) ∷ []);
}

abbrev pub GoesBackToAfterTheFirst : Type 0
GoesBackToAfterTheFirst =
    Shows returned
    (Answered (Value None) 0 ∷ Answered (Value (Some (Num 1))) 0 ∷ Answered (Value (Some (Num 2))) 0 ∷ Rolled ∷ Answered (Value (Some (Num 1))) 0 ∷ Asked ∷
    Out 5 ∷ Durable 5 ∷ Acknowledged ∷ [])
    ((Restart 1 0 ∷ Update (tx 1 1) 5 None (Some (Num 1)) ∷ Update (tx 1 1) 5 (Some (Num 1)) (Some (Num 2)) ∷ Clr (tx 1 1) (Some 1) 5 (Some (Num 1)) ∷
    Commit (tx 1 1) [] ∷ []) ∷ [])
    (((5, Num 1) ∷ []) ∷ [])
    × SerialIs returned.world false (returning_member ∷ [])
    × (is_legal_by_tests [] returned.world ≡ true) × (sound_after returning (new_world 1) ≡ true)

-- a second going back takes away what was written since, and nothing that the first took
abbrev pub returning_twice : List Act
returning_twice =
    first 1 1 0 1 (Put 5 (Num 1)) ∷ again 1 1 0 1 2 0 (Put 6 (Num 2)) ∷ go_back 1 1 0 3 0 1 ∷ again 1 1 0 1 4 0 (Put 7 (Num 3)) ∷
    go_back 1 1 0 5 0 1 ∷ request 1 1 0 ((0, 0) ∷ []) ∷ []

abbrev pub SecondTakesTheRest : Type 0
SecondTakesTheRest =
    Shows (play returning_twice (new_world 1))
    (Answered (Value None) 0 ∷ Answered (Value None) 0 ∷ Rolled ∷ Answered (Value None) 0 ∷ Rolled ∷ Asked ∷ [])
    ((Restart 1 0 ∷ Update (tx 1 1) 5 None (Some (Num 1)) ∷ Update (tx 1 1) 6 None (Some (Num 2)) ∷ Clr (tx 1 1) (Some 1) 6 None ∷
    Update (tx 1 1) 7 None (Some (Num 3)) ∷ Clr (tx 1 1) (Some 1) 7 None ∷ Commit (tx 1 1) [] ∷ []) ∷ [])
    (((5, Num 1) ∷ []) ∷ [])
    × (is_legal_by_tests [] (play returning_twice (new_world 1)).world ≡ true) × (sound_after returning_twice (new_world 1) ≡ true)

-- one that goes back to a number which an earlier one went over may not commit
abbrev pub crossing : List Act
crossing =
    first 1 1 0 1 (Put 5 (Num 1)) ∷ again 1 1 0 1 2 0 (Put 5 (Num 2)) ∷ go_back 1 1 0 3 0 1 ∷ again 1 1 0 1 4 0 (Put 6 (Num 9)) ∷ go_back 1 1 0 5 0 2 ∷ []

abbrev pub CrossingsDoNotCommit : Type 0
CrossingsDoNotCommit =
    (is_legal_by_tests [] (play crossing (new_world 1)).world ≡ true)
    × (is_legal_by_tests [] (play (crossing ++ request 1 1 0 ((0, 0) ∷ []) ∷ []) (new_world 1)).world ≡ false)

-- ---- its locks stay

-- it goes back over its put, and a younger one still dies of it
abbrev pub holding_on : Played
holding_on = play (first 1 1 0 1 (Put 5 (Num 1)) ∷ go_back 1 1 0 2 0 0 ∷ first 2 1 0 2 (Get 5) ∷ []) (new_world 1)

abbrev pub LocksStay : Type 0
LocksStay = holding_on.heard ≡ Answered (Value None) 0 ∷ Rolled ∷ Dead (Died (tx 1 1)) ∷ []

-- ---- beside one that adds

-- key 5 has 100; of two that add to it the first goes back, and the other's sum stays
abbrev pub adding_back : List Act
adding_back =
    first 3 1 0 1 (Put 5 (Num 100)) ∷ request 3 1 0 ((0, 0) ∷ []) ∷ first 1 1 0 2 (Add 5 5) ∷ first 2 1 0 3 (Add 5 7) ∷ go_back 1 1 0 2 0 0 ∷
    request 2 1 0 ((0, 0) ∷ []) ∷ request 1 1 0 ((0, 0) ∷ []) ∷ []

abbrev pub AdditionsAreTakenBack : Type 0
AdditionsAreTakenBack =
    Shows (play adding_back (new_world 1))
    (Answered (Value None) 0 ∷ Asked ∷ Answered (Added true) 0 ∷ Answered (Added true) 0 ∷ Rolled ∷ Asked ∷ Asked ∷ [])
    ((Restart 1 0 ∷ Update (tx 3 1) 5 None (Some (Num 100)) ∷ Commit (tx 3 1) [] ∷ AddRecord (tx 1 1) 5 5 ∷ AddRecord (tx 2 1) 5 7 ∷ Unadd (tx 1 1) None 5 5 ∷
    Commit (tx 2 1) [] ∷ []) ∷ [])
    (((5, Num 107) ∷ []) ∷ [])
    × (is_legal_by_tests [] (play adding_back (new_world 1)).world ≡ true) × (sound_after adding_back (new_world 1) ≡ true)

-- ---- over two shards

-- it takes all back at its home, and writes on shard 1; who reads at the home has no predecessor, and is acknowledged while the first is undecided
abbrev pub all_taken_back : List Act
all_taken_back =
    first 1 1 0 1 (Put 5 (Num 1)) ∷ go_back 1 1 0 2 0 0 ∷ next 1 1 1 1 3 (Put 11 (Num 1)) ∷ request 1 1 0 ((0, 0) ∷ (1, 0) ∷ []) ∷
    first 2 1 0 2 (Get 5) ∷ request 2 1 0 ((0, 0) ∷ []) ∷ look 2 1 0 ∷ []

-- then shard 1 votes yes, the home commits though nothing of it stands there, and both end
abbrev pub both_end : List Act
both_end =
    Carry_from 0 0 ∷ flush_out 1 ∷ Land_at 0 1 true ∷ Carry_from 0 1 ∷ flush_out 0 ∷ Land_at 0 0 true ∷ look 1 1 0 ∷ Carry_from 0 0 ∷ flush_out 1 ∷
    Land_at 0 1 true ∷ Carry_from 0 1 ∷ []

abbrev pub NobodyWaitsForWhatIsTakenBack : Type 0
NobodyWaitsForWhatIsTakenBack =
    ((play all_taken_back (new_world 2)).heard
    ≡ Answered (Value None) 0 ∷ Rolled ∷ Answered (Value None) 0 ∷ Asked ∷ Answered (Value None) 0 ∷ Asked ∷ Acknowledged ∷ [])
    × (pairs_at (play all_taken_back (new_world 2)).world 0 ≡ [])

abbrev pub committed_elsewhere : Played
committed_elsewhere = play (all_taken_back ++ both_end) (new_world 2)

abbrev pub HomesCommitWithoutAWrite : Type 0
HomesCommitWithoutAWrite =
    (logs_of committed_elsewhere.world
    ≡ (Restart 1 0 ∷ Update (tx 1 1) 5 None (Some (Num 1)) ∷ Clr (tx 1 1) None 5 None ∷ Commit (tx 1 1) (1 ∷ []) ∷ End (tx 1 1) ∷ [])
    ∷ (Restart 1 0 ∷ Update (tx 1 1) 11 None (Some (Num 1)) ∷ Prepare (tx 1 1) 0 [] ∷ Commit (tx 1 1) [] ∷ []) ∷ [])
    × (disorders 0 (logs_of committed_elsewhere.world) ≡ None ∷ None ∷ []) × (apart (logs_of committed_elsewhere.world) ≡ None)
    × (is_legal_by_tests (10 ∷ []) committed_elsewhere.world ≡ true)
    × (sound_after (all_taken_back ++ both_end) (new_world 2) ≡ true)

-- it writes at its home, and takes all back on shard 1: that votes that it read, and not before what took it back is durable
abbrev pub taken_back_there : List Act
taken_back_there =
    first 1 1 0 1 (Put 5 (Num 1)) ∷ next 1 1 1 1 2 (Put 11 (Num 1)) ∷ go_back 1 1 1 3 0 1 ∷ request 1 1 0 ((0, 0) ∷ (1, 0) ∷ []) ∷ Carry_from 0 0 ∷ []

abbrev pub VotesWaitForTheUndo : Type 0
VotesWaitForTheUndo =
    ((play (taken_back_there ++ Event_at 0 1 Send ∷ []) (new_world 2)).heard
    ≡ Answered (Value None) 0 ∷ Answered (Value None) 0 ∷ Rolled ∷ Asked ∷ Sent (PrepareMessage 1 (tx 1 1) 0 0) ∷ Taken ∷ Nothing ∷ [])
    × ((play (taken_back_there ++ flush_out 1 ∷ Land_at 0 1 true ∷ Event_at 0 1 Send ∷ []) (new_world 2)).heard
    ≡ Answered (Value None) 0 ∷ Answered (Value None) 0 ∷ Rolled ∷ Asked ∷ Sent (PrepareMessage 1 (tx 1 1) 0 0) ∷ Taken ∷ Out 3 ∷ Durable 3 ∷
    Sent (VoteMessage 0 (tx 1 1) 1 Read) ∷ [])

-- ---- logs

-- one that wrote, and took it back
abbrev pub taken_back_log : List LogRecord
taken_back_log = Restart 1 0 ∷ Update (tx 1 1) 5 None (Some (Num 1)) ∷ Clr (tx 1 1) None 5 None ∷ []

abbrev pub written_log : List LogRecord
written_log = Restart 1 0 ∷ Update (tx 1 1) 5 None (Some (Num 1)) ∷ []

abbrev pub GoingsBackHaveOrder : Type 0
GoingsBackHaveOrder =
    (disorders 0 (taken_back_log ∷ []) ≡ None ∷ [])
    -- nothing of it stands: it has no PREPARE, no COMMIT alone and no ABORT, but a COMMIT with parts
    × (disorders 0 ((taken_back_log ++ Prepare (tx 1 1) 0 [] ∷ []) ∷ []) ≡ Some 3 ∷ [])
    × (disorders 0 ((taken_back_log ++ Commit (tx 1 1) [] ∷ []) ∷ []) ≡ Some 3 ∷ [])
    × (disorders 0 ((taken_back_log ++ Abort (tx 1 1) ∷ []) ∷ []) ≡ Some 3 ∷ [])
    × (disorders 0 ((taken_back_log ++ Commit (tx 1 1) (1 ∷ []) ∷ []) ∷ []) ≡ None ∷ [])
    -- what is taken back once isn't taken back again, and nothing is behind its PREPARE
    × (disorders 0 ((taken_back_log ++ Clr (tx 1 1) None 5 None ∷ []) ∷ []) ≡ Some 3 ∷ [])
    × (disorders 0 ((written_log ++ Prepare (tx 1 1) 0 [] ∷ Clr (tx 1 1) None 5 None ∷ []) ∷ []) ≡ Some 3 ∷ [])
