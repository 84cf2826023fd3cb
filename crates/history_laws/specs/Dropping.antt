-- When a session drops a transaction that made its request.
use Rattle.std.specs.Prelude.{◌≡◌, ℕ, List}
use Rattle.clv_base.specs.declared.names.TxId.{TxId}
use Rattle.clv_base.specs.declared.causes.AbortCause.{AbortCause}
use Rattle.clv_base.specs.declared.logs.LogRecord.{LogRecord}
use Rattle.clv_base.specs.declared.events.Event.TheVariants.{Request, Look, Drop}
use Rattle.clv_base.specs.declared.events.Outcome.TheVariants.{Asked, Aborted}
use Rattle.clv_base.specs.declared.events.Entry.{Entry}
use Rattle.clv_base.specs.Journals.{History}
use Rattle.clv_base.specs.History.{Legal, IsAmong}
use Rattle.history_laws.specs.Turns.{ComesBefore}

-- where the request was taken, a look found the transaction aborted before the drop
abbrev pub DropsFollowAborts : Type 0
DropsFollowAborts =
    (splits : List ℕ) (before : List (List LogRecord)) (h : History) (after : List (List LogRecord)) (home n : ℕ) (r x : Entry) (tx : TxId) (touched : List (ℕ × ℕ))
    → Legal splits before h after
    → IsAmong home r h → r.event ≡ Request tx touched → r.outcome ≡ Asked
    → IsAmong n x h → x.event ≡ Drop tx
    → (k : ℕ) × (y : Entry) × (cause : AbortCause) × IsAmong k y h × (y.event ≡ Look tx) × (y.outcome ≡ Aborted cause) × ComesBefore k y n x
