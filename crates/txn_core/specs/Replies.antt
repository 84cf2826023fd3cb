-- What an operation is answered.
use Rattle.std.specs.Prelude.{◌≡◌}
use Rattle.clv_base.specs.State.{Local}
use Rattle.clv_base.specs.OneShard.{OpReply, OpWaits, OpCrowded, OpDies, OpAnswers, purge}
use Rattle.txn_core.specs.declared.op.Reply.{Reply}
use Rattle.txn_core.specs.declared.op.Reply.TheVariants.{Answered, Dead, Wait, Crowded}
use Rattle.txn_core.specs.State.{TxState, IsSameBut}

-- the protocol's reply is this one, with its answer twice, and the state afterwards is the reply's without the ghosts that bear no lock; a quiet answer changes nothing
abbrev pub Replies : OpReply → TxState → Reply → TxState → Type 0
Replies reply s (Answered answer copy epoch) t = (l : Local) × (reply ≡ OpAnswers answer l) × (epoch ≡ (s.local).epoch) × IsSameBut s (purge l) t × (copy ≡ answer)
Replies reply s (Dead cause) t = (l : Local) × (reply ≡ OpDies cause l) × IsSameBut s (purge l) t
Replies reply s (Wait younger) t = (reply ≡ OpWaits younger) × (t ≡ s)
Replies reply s (Crowded count) t = (reply ≡ OpCrowded count) × (t ≡ s)
