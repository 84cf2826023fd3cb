-- A session whose transfer dies and is tried again, with a scan over two shards; one that is stopped; and one that goes back.
use Rattle.std.specs.Prelude.{◌≡◌, ℕ, true, List, [], ◌∷◌, ◌++◌, Option, Some, None}
use Rattle.clv_base.specs.declared.names.TxId.{TxId}
use Rattle.clv_base.specs.declared.names.Birth.{Birth}
use Rattle.clv_base.specs.declared.values.Value.TheVariants.{Num}
use Rattle.clv_base.specs.declared.ops.Op.{Op}
use Rattle.clv_base.specs.declared.ops.Op.TheVariants.{Get, Put, Scan}
use Rattle.clv_base.specs.declared.ops.Answer.TheVariants.{Value, Pairs}
use Rattle.clv_base.specs.declared.causes.AbortCause.TheVariants.{Died}
use Rattle.clv_base.specs.declared.events.Event.{Event}
use Rattle.clv_base.specs.declared.events.Event.TheVariants.{Op as OpEvent, RollTo, Request, Look, Drop}
use Rattle.clv_base.specs.declared.events.Outcome.{Outcome}
use Rattle.clv_base.specs.declared.events.Outcome.TheVariants.{Answered, Rolled, Dead, Asked, Acknowledged, Dropped}
use Rattle.clv_base.specs.declared.events.Entry.{Entry}
use Rattle.clv_base.specs.Journals.{History}
use Rattle.clv_base.specs.Sessions.{is_session}
use Rattle.script_lang.specs.declared.actions.Action.TheVariants.{Do, Move, Save, Back}
use Rattle.script_lang.specs.declared.actions.Ending.TheVariants.{Commit, Abort}
use Rattle.script_lang.specs.Bodies.{Body}
use Rattle.script_runs.specs.declared.ends.StopCause.TheVariants as stop
use Rattle.script_runs.specs.Sessions.{FollowsScript}

-- keys below 10 are on shard 0, the others on shard 1
abbrev pub splits : List ℕ
splits = 10 ∷ []

-- an entry of session 2 on a shard
abbrev pub on : ℕ → ℕ → Event → Outcome → ℕ × Entry
on shard stamp e o = (shard, record { stamp = stamp; walker = 2; event = e; outcome = o })

abbrev pub named : ℕ → ℕ → TxId
named session serial = record { run = 1; session = session; serial = serial }

-- born at a stamp, with this serial
abbrev pub born : ℕ → ℕ → Birth
born stamp serial = record { stamp = stamp; session = 2; serial = serial }

-- 30 move from key 1 to key 11; then all pairs are read, and the transaction is ended by `abort`
abbrev pub transfer : Body
transfer = record { actions = Move 1 11 30 ∷ []; ending = Commit }

abbrev pub look_round : Body
look_round = record { actions = Do (Scan 0 20) ∷ []; ending = Abort }

abbrev pub op : ℕ → Birth → ℕ → Option ℕ → Op → Event
op serial birth nth seen o = OpEvent (named 2 serial) birth nth seen o

abbrev pub value : ℕ → Outcome
value v = Answered (Value (Some (Num v))) 0

-- its second look meets an older transaction: it dies, and its part on shard 0 is dropped
abbrev pub first_try : History
first_try =
    on 0 2 (op 1 (born 1 1) 1 None (Get 1)) (value 100)
    ∷ on 1 3 (op 1 (born 1 1) 2 None (Get 11)) (Dead (Died (named 1 1)))
    ∷ on 0 4 (Drop (named 2 1)) Dropped
    ∷ []

-- with the same birth and a name of its own, it is acknowledged
abbrev pub second_try : History
second_try =
    on 0 6 (op 2 (born 1 1) 1 None (Get 1)) (value 100)
    ∷ on 1 7 (op 2 (born 1 1) 2 None (Get 11)) (value 5)
    ∷ on 0 8 (op 2 (born 1 1) 3 (Some 0) (Put 1 (Num 70))) (value 100)
    ∷ on 1 9 (op 2 (born 1 1) 4 (Some 0) (Put 11 (Num 35))) (value 5)
    ∷ on 0 10 (Request (named 2 2) ((0, 0) ∷ (1, 0) ∷ [])) Asked
    ∷ on 0 20 (Look (named 2 2)) Acknowledged
    ∷ []

-- the scan has a part on each shard, and both are dropped
abbrev pub only_try : History
only_try =
    on 0 22 (op 3 (born 21 3) 1 None (Scan 0 9)) (Answered (Pairs ((1, Num 70) ∷ [])) 0)
    ∷ on 1 23 (op 3 (born 21 3) 1 None (Scan 10 20)) (Answered (Pairs ((11, Num 35) ∷ [])) 0)
    ∷ on 0 24 (Drop (named 2 3)) Dropped
    ∷ on 1 25 (Drop (named 2 3)) Dropped
    ∷ []

abbrev pub TransferIsRetried : Type 0
TransferIsRetried = FollowsScript splits 1 2 (Some 100) (transfer ∷ look_round ∷ []) None (first_try ++ second_try ++ only_try)

-- these are entries that a session may make
abbrev pub TransferIsSession : Type 0
TransferIsSession = is_session splits 1 2 (first_try ++ second_try ++ only_try) ≡ true

-- where only one try is wanted the transfer is given up; then a shard is found down at the second part of the scan
abbrev pub stopped_try : History
stopped_try =
    on 0 7 (op 2 (born 6 2) 1 None (Scan 0 9)) (Answered (Pairs ((1, Num 100) ∷ [])) 0)
    ∷ on 0 8 (Drop (named 2 2)) Dropped
    ∷ []

abbrev pub ScanIsStopped : Type 0
ScanIsStopped = FollowsScript splits 1 2 (Some 1) (transfer ∷ look_round ∷ transfer ∷ []) (Some (stop.Down 1)) (first_try ++ stopped_try)

-- a write is taken back: what is read behind it is the one before the savepoint
abbrev pub second_thought : Body
second_thought =
    record { actions = Do (Put 5 (Num 1)) ∷ Save ∷ Do (Put 5 (Num 2)) ∷ Do (Get 5) ∷ Back 1 ∷ Do (Get 5) ∷ []; ending = Commit }

abbrev pub thinking : History
thinking =
    on 0 2 (op 1 (born 1 1) 1 None (Put 5 (Num 1))) (Answered (Value None) 0)
    ∷ on 0 3 (op 1 (born 1 1) 2 (Some 0) (Put 5 (Num 2))) (value 1)
    ∷ on 0 4 (op 1 (born 1 1) 3 (Some 0) (Get 5)) (value 2)
    ∷ on 0 5 (RollTo (named 2 1) 4 0 1) Rolled
    ∷ on 0 6 (op 1 (born 1 1) 5 (Some 0) (Get 5)) (value 1)
    ∷ on 0 7 (Request (named 2 1) ((0, 0) ∷ [])) Asked
    ∷ on 0 9 (Look (named 2 1)) Acknowledged
    ∷ []

abbrev pub SecondThoughtGoesBack : Type 0
SecondThoughtGoesBack = FollowsScript splits 1 2 (Some 100) (second_thought ∷ []) None thinking

abbrev pub ThoughtIsSession : Type 0
ThoughtIsSession = is_session splits 1 2 thinking ≡ true
