-- What a request names.
use Rattle.std.specs.Prelude.{◌≡◌, ℕ, List, Option}
use Rattle.std.specs.List.{AllByRecursion}
use Rattle.clv_base.specs.declared.names.TxId.{TxId}
use Rattle.clv_base.specs.declared.names.Birth.{Birth}
use Rattle.clv_base.specs.declared.ops.Op.{Op}
use Rattle.clv_base.specs.declared.ops.Answer.{Answer}
use Rattle.clv_base.specs.declared.logs.LogRecord.{LogRecord}
use Rattle.clv_base.specs.declared.events.Event.TheVariants.{Op as OpEvent, Request}
use Rattle.clv_base.specs.declared.events.Outcome.TheVariants.{Answered}
use Rattle.clv_base.specs.declared.events.Entry.{Entry}
use Rattle.clv_base.specs.Journals.{History}
use Rattle.clv_base.specs.History.{Legal, IsAmong}
use Rattle.history_laws.specs.Turns.{ComesBefore}

-- an entry of the shard answered an operation of the transaction in that epoch, before the given one
pub record AnsweredBefore (h : History) (tx : TxId) (shard epoch home : ℕ) (r : Entry) : Type 0 where
  pub entry : Entry
  pub birth : Birth
  pub nth : ℕ
  pub seen : Option ℕ
  pub op : Op
  pub answer : Answer
  pub among : IsAmong shard entry h
  pub event : entry.event ≡ OpEvent tx birth nth seen op
  pub outcome : entry.outcome ≡ Answered answer epoch
  pub comes_before : ComesBefore shard entry home r

-- each shard that a request names, with its epoch, answered the transaction in that epoch before
abbrev pub RequestsNameWhatAnswered : Type 0
RequestsNameWhatAnswered =
    (splits : List ℕ) (before : List (List LogRecord)) (h : History) (after : List (List LogRecord)) (home : ℕ) (r : Entry) (tx : TxId) (touched : List (ℕ × ℕ))
    → Legal splits before h after
    → IsAmong home r h → r.event ≡ Request tx touched
    → AllByRecursion (λ k. AnsweredBefore h tx k.0 k.1 home r) touched
