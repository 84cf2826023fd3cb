-- Which shards a request names.
use Rattle.std.specs.Prelude.{◌≡◌, ℕ, true, List, map, Option}
use Rattle.clv_base.specs.declared.names.TxId.{TxId}
use Rattle.clv_base.specs.declared.names.Birth.{Birth}
use Rattle.clv_base.specs.declared.ops.Op.{Op}
use Rattle.clv_base.specs.declared.ops.Answer.{Answer}
use Rattle.clv_base.specs.declared.logs.LogRecord.{LogRecord}
use Rattle.clv_base.specs.declared.events.Event.TheVariants.{Op as OpEvent, Request as RequestEvent}
use Rattle.clv_base.specs.declared.events.Outcome.TheVariants.{Answered}
use Rattle.clv_base.specs.declared.events.Entry.{Entry}
use Rattle.clv_base.specs.Orders.{nat_in}
use Rattle.clv_base.specs.Journals.{History}
use Rattle.clv_base.specs.History.{Legal, IsAmong}

-- the request of a transaction names each shard that answered an operation of it
abbrev pub RequestsNameTheirShards : Type 0
RequestsNameTheirShards =
    (splits : List ℕ) (before : List (List LogRecord)) (h : History) (after : List (List LogRecord)) (m home : ℕ) (x e : Entry) (tx : TxId) (birth : Birth) (nth : ℕ) (seen : Option ℕ) (op : Op) (a : Answer) (epoch : ℕ) (touched : List (ℕ × ℕ))
    → Legal splits before h after → IsAmong m x h → x.event ≡ OpEvent tx birth nth seen op → x.outcome ≡ Answered a epoch
    → IsAmong home e h → e.event ≡ RequestEvent tx touched → nat_in m (map (λ t. t.0) touched) ≡ true
