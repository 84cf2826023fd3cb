-- What a walker knows of a birth of its own on a shard: no entry of others makes a part of it active.
use Rattle.std.specs.Prelude.{◌≡◌, ◌≢◌, ⊤, ℕ, false, not, ◌&&◌, List}
use Rattle.std.specs.List.{AllByRecursion}
use Rattle.std.specs.Ordering.{is_eq}
use Rattle.clv_base.specs.declared.names.TxId.{TxId}
use Rattle.clv_base.specs.declared.names.Birth.{Birth}
use Rattle.clv_base.specs.declared.logs.LogRecord.{LogRecord}
use Rattle.clv_base.specs.declared.events.Event.{Event}
use Rattle.clv_base.specs.declared.events.Event.TheVariants.{Op}
use Rattle.clv_base.specs.declared.events.Entry.{Entry}
use Rattle.clv_base.specs.Orders.{tx_same, birth_cmp}
use Rattle.clv_base.specs.State.{Shard}
use Rattle.clv_base.specs.Restarts.{opened}
use Rattle.clv_base.specs.Journals.{has_equal_active_birth}
use Rattle.clv_base.specs.Machines.{Runs}
use Rattle.journal_laws.specs.Walkers.{by_walker}

-- an operation with this birth is of this transaction
abbrev pub LeavesBirth : TxId → Birth → Event → Type 0
LeavesBirth tx birth (Op u b nth seen op) = (not (tx_same tx u) && is_eq (birth_cmp birth b)) ≡ false
LeavesBirth tx birth _ = ⊤

-- where no other transaction of a birth has an active part, none has one after entries that leave it alone
abbrev pub FreeBirthsStay : Type 0
FreeBirthsStay =
    (s t : Shard) (es : List Entry) (tx : TxId) (birth : Birth) → Runs s es t → AllByRecursion (λ e. LeavesBirth tx birth e.event) es → has_equal_active_birth tx birth s.local.parts ≡ false
    → has_equal_active_birth tx birth t.local.parts ≡ false

-- none has one where a log was opened
abbrev pub OpenedHasNone : Type 0
OpenedHasNone = (n run : ℕ) (found : List LogRecord) (tx : TxId) (birth : Birth) → has_equal_active_birth tx birth (opened n run found).local.parts ≡ false

-- an operation's birth has its walker's number as session
abbrev pub BearsWalker : ℕ → Event → Type 0
BearsWalker walker (Op u b nth seen op) = b.session ≡ walker
BearsWalker walker _ = ⊤

-- so entries of others leave a birth alone
abbrev pub OthersLeaveBirths : Type 0
OthersLeaveBirths = (e : Entry) (tx : TxId) (birth : Birth) → BearsWalker e.walker e.event → e.walker ≢ birth.session → LeavesBirth tx birth e.event

-- so a walker's birth is free on a shard where none of its own operations so far has it
abbrev pub NewBirthsAreFree : Type 0
NewBirthsAreFree =
    (n run : ℕ) (found : List LogRecord) (es : List Entry) (t : Shard) (tx : TxId) (birth : Birth) → Runs (opened n run found) es t → AllByRecursion (λ e. BearsWalker e.walker e.event) es
    → AllByRecursion (λ e. LeavesBirth tx birth e.event) (by_walker birth.session es) → has_equal_active_birth tx birth t.local.parts ≡ false
