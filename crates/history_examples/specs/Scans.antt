-- Scans: part by part, without phantoms; readers over several shards.
use Rattle.clv_base.specs.declared.values.Value.TheVariants.{Num}
use Rattle.clv_base.specs.Core.{live, locks_at, records_at}
use Rattle.clv_base.specs.declared.causes.AbortCause.TheVariants.{Died}
use Rattle.clv_base.specs.declared.causes.Vote.TheVariants.{Read, Yes}
use Rattle.clv_base.specs.declared.events.Event.TheVariants.{Look, Op as OpEvent, Request}
use Rattle.clv_base.specs.declared.events.Outcome.TheVariants.{Acknowledged, Answered, Asked, Dead, Durable, NotYet, Out, Sent, Taken}
use Rattle.clv_base.specs.declared.messages.Message.TheVariants.{Decide, Done, Prepare as PrepareMessage, Vote as VoteMessage}
use Rattle.clv_base.specs.declared.ops.Answer.TheVariants.{Pairs, Value}
use Rattle.clv_base.specs.declared.ops.Op.TheVariants.{Del, Get, Put, Scan}
use Rattle.history_examples.specs.Playing.{Carry_from, Event_at, Land_at, Played, again, birth, first, flush_out, look, new_world, next, play_legal, request, splits_at, tx}
use Rattle.std.specs.Prelude.{None, Some, [], true, ◌∷◌, ◌≡◌}

-- the scan over the shards of these splits, part by part
abbrev pub scans : Played
scans =
    play_legal (10 ∷ 20 ∷ [])
    (first 1 1 0 1 (Put 0 (Num 1)) ∷ next 1 1 1 1 2 (Put 10 (Num 2)) ∷ next 1 1 2 1 3 (Put 20 (Num 3)) ∷ again 1 1 2 1 4 0 (Put 18446744073709551615 (Num 4)) ∷
    again 1 1 0 1 5 0 (Scan 0 9) ∷ again 1 1 1 1 5 0 (Scan 10 19) ∷ again 1 1 2 1 5 0 (Scan 20 18446744073709551615) ∷ [])
    (new_world 3)

abbrev pub Scanned : Type 0
Scanned =
    scans.heard ≡
    Answered (Value None) 0 ∷ Answered (Value None) 0 ∷ Answered (Value None) 0 ∷ Answered (Value None) 0 ∷
    Answered (Pairs ((0, Num 1) ∷ [])) 0 ∷ Answered (Pairs ((10, Num 2) ∷ [])) 0 ∷
    Answered (Pairs ((20, Num 3) ∷ (18446744073709551615, Num 4) ∷ [])) 0 ∷ []

-- an insert commits; a scan reads it; a younger insert dies of the scan's gap; the scan commits; the insert is tried again and
-- commits; the first key is deleted; another scan reads over the closed delete, and waits for it to be durable
abbrev pub phantoms : Played
phantoms =
    play_legal []
    (first 1 1 0 1 (Put 5 (Num 10)) ∷ request 1 1 0 ((0, 0) ∷ []) ∷ flush_out 0 ∷ Land_at 0 0 true ∷ look 1 1 0 ∷
    first 2 1 0 2 (Scan 0 9) ∷ first 3 1 0 3 (Put 7 (Num 70)) ∷ request 2 1 0 ((0, 0) ∷ []) ∷ look 2 1 0 ∷
    Event_at 3 0 (OpEvent (tx 3 2) (birth 3 3) 1 None (Put 7 (Num 70))) ∷ Event_at 3 0 (Request (tx 3 2) ((0, 0) ∷ [])) ∷
    first 4 1 0 4 (Del 5) ∷ request 4 1 0 ((0, 0) ∷ []) ∷ first 5 1 0 5 (Scan 0 9) ∷ request 5 1 0 ((0, 0) ∷ []) ∷ look 5 1 0 ∷
    flush_out 0 ∷ Land_at 0 0 true ∷ look 5 1 0 ∷ look 4 1 0 ∷ Event_at 3 0 (Look (tx 3 2)) ∷ [])
    (new_world 1)

abbrev pub Phantoms : Type 0
Phantoms =
    (phantoms.heard ≡
    Answered (Value None) 0 ∷ Asked ∷ Out 3 ∷ Durable 3 ∷ Acknowledged ∷
    Answered (Pairs ((5, Num 10) ∷ [])) 0 ∷ Dead (Died (tx 2 1)) ∷ Asked ∷ Acknowledged ∷
    Answered (Value None) 0 ∷ Asked ∷
    Answered (Value (Some (Num 10))) 0 ∷ Asked ∷ Answered (Pairs ((7, Num 70) ∷ [])) 0 ∷ Asked ∷ NotYet ∷
    Out 7 ∷ Durable 7 ∷ Acknowledged ∷ Acknowledged ∷ Acknowledged ∷ [])
    × (live phantoms.world ≡ ((7, Num 70) ∷ []) ∷ []) × (records_at phantoms.world 0 ≡ (7, Some (Num 70)) ∷ []) × (locks_at phantoms.world 0 ≡ [])

-- a reader of two shards over a writer of both: its votes and its own acknowledgement wait for the writer's COMMITs
abbrev pub wide_reader : Played
wide_reader =
    play_legal splits_at
    (first 1 1 0 1 (Put 3 (Num 30)) ∷ next 1 1 1 1 2 (Put 5 (Num 50)) ∷ request 1 1 0 ((0, 0) ∷ (1, 0) ∷ []) ∷ Carry_from 0 0 ∷
    first 2 1 0 2 (Get 3) ∷ next 2 1 1 2 2 (Get 5) ∷ request 2 1 0 ((0, 0) ∷ (1, 0) ∷ []) ∷ Carry_from 0 0 ∷ look 2 1 0 ∷
    flush_out 1 ∷ Land_at 0 1 true ∷ Carry_from 0 1 ∷ flush_out 0 ∷ Land_at 0 0 true ∷ look 2 1 0 ∷
    Carry_from 0 0 ∷ flush_out 1 ∷ Land_at 0 1 true ∷ Carry_from 0 1 ∷ Carry_from 0 1 ∷ look 2 1 0 ∷ look 1 1 0 ∷ [])
    (new_world 3)

abbrev pub Wide_reader : Type 0
Wide_reader =
    (wide_reader.heard ≡
    Answered (Value None) 0 ∷ Answered (Value None) 0 ∷ Asked ∷ Sent (PrepareMessage 1 (tx 1 1) 0 0) ∷ Taken ∷
    Answered (Value (Some (Num 30))) 0 ∷ Answered (Value (Some (Num 50))) 0 ∷ Asked ∷ Sent (PrepareMessage 1 (tx 2 1) 0 0) ∷ Taken ∷ NotYet ∷
    Out 3 ∷ Durable 3 ∷ Sent (VoteMessage 0 (tx 1 1) 1 Yes) ∷ Taken ∷ Out 4 ∷ Durable 4 ∷ NotYet ∷
    Sent (Decide 1 (tx 1 1) 0 true) ∷ Taken ∷ Out 4 ∷ Durable 4 ∷ Sent (Done 0 (tx 1 1) 1) ∷ Taken ∷ Sent (VoteMessage 0 (tx 2 1) 1 Read) ∷ Taken ∷
    Acknowledged ∷ Acknowledged ∷ [])
    × (locks_at wide_reader.world 0 ≡ []) × (locks_at wide_reader.world 1 ≡ [])
