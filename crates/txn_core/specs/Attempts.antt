-- What an operation comes to, before a part that dies is rolled back.
use Rattle.std.specs.Prelude.{◌≡◌, true}
use Rattle.clv_base.specs.declared.names.TxId.{TxId}
use Rattle.clv_base.specs.State.{is_present}
use Rattle.clv_base.specs.Undo.{stage_of, roll_back}
use Rattle.clv_base.specs.OneShard.{OpReply, OpWaits, OpCrowded, OpDies, OpAnswers}
use Rattle.txn_core.specs.declared.attempt.Attempt.{Attempt}
use Rattle.txn_core.specs.declared.attempt.Attempt.TheVariants.{Answered, Dead, Dying, Wait, Crowded}
use Rattle.txn_core.specs.State.{TxState, IsSameBut}

-- the protocol's reply is this one, and the state afterwards is the reply's; where a part dies, it is still to be rolled back
abbrev pub ComesTo : OpReply → TxId → TxState → Attempt → TxState → Type 0
ComesTo reply tx s (Answered answer copy) t = (reply ≡ OpAnswers answer t.local) × ((t.local).epoch ≡ (s.local).epoch) × IsSameBut s t.local t × (copy ≡ answer)
ComesTo reply tx s (Dead cause) t = (reply ≡ OpDies cause s.local) × (t ≡ s)
ComesTo reply tx s (Dying cause) t = (reply ≡ OpDies cause (roll_back tx s.local)) × (is_present (stage_of s.local tx) ≡ true) × (t ≡ s)
ComesTo reply tx s (Wait younger) t = (reply ≡ OpWaits younger) × (t ≡ s)
ComesTo reply tx s (Crowded count) t = (reply ≡ OpCrowded count) × (t ≡ s)
