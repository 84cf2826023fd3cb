-- What an operation is answered by the core, before what is due then is done.
use Rattle.std.specs.Prelude.{◌≡◌, List, []}
use Rattle.clv_base.specs.declared.names.TxId.{TxId}
use Rattle.clv_base.specs.State.{Local, Shard}
use Rattle.clv_base.specs.OneShard.{OpReply, OpWaits, OpCrowded, OpDies, OpAnswers}
use Rattle.clv_base.specs.Events.{finish}
use Rattle.txn_core.specs.declared.op.Reply.{Reply}
use Rattle.txn_core.specs.declared.op.Reply.TheVariants.{Answered, Dead, Wait, Crowded}

-- those that were noted for a death stay after a death alone
abbrev pub StayBy : Reply → List TxId → List TxId → Type 0
StayBy (Answered answer copy epoch) before after = after ≡ []
StayBy (Dead cause) before after = after ≡ before
StayBy (Wait younger) before after = after ≡ []
StayBy (Crowded count) before after = after ≡ []

-- the protocol's reply is this one, and what comes of the state in the end is what comes of the reply's; a quiet answer changes nothing
abbrev pub Comes : OpReply → Shard → Reply → Shard → Type 0
Comes reply s (Answered answer copy epoch) t = (l : Local) × (reply ≡ OpAnswers answer l) × (epoch ≡ s.local.epoch) × (finish t ≡ finish (record s { local = l })) × (copy ≡ answer)
Comes reply s (Dead cause) t = (l : Local) × (reply ≡ OpDies cause l) × (finish t ≡ finish (record s { local = l }))
Comes reply s (Wait younger) t = (reply ≡ OpWaits younger) × (t ≡ s)
Comes reply s (Crowded count) t = (reply ≡ OpCrowded count) × (t ≡ s)

-- the same, once all is done that is due
abbrev pub Ends : OpReply → Shard → Reply → Shard → Type 0
Ends reply s (Answered answer copy epoch) t = (l : Local) × (reply ≡ OpAnswers answer l) × (epoch ≡ s.local.epoch) × (t ≡ finish (record s { local = l })) × (copy ≡ answer)
Ends reply s (Dead cause) t = (l : Local) × (reply ≡ OpDies cause l) × (t ≡ finish (record s { local = l }))
Ends reply s (Wait younger) t = (reply ≡ OpWaits younger) × (t ≡ s)
Ends reply s (Crowded count) t = (reply ≡ OpCrowded count) × (t ≡ s)
