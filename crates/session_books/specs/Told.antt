-- What a history tells of operations, goings back, acknowledgements, requests and looks.
use Rattle.std.specs.Prelude.{Bool, false, cond, List, [], ◌∷◌, Option, Some, None}
use Rattle.std.specs.List.{list_any}
use Rattle.std.specs.Ordering.{is_eq}
use Rattle.clv_base.specs.declared.names.TxId.{TxId}
use Rattle.clv_base.specs.declared.names.Birth.{Birth}
use Rattle.clv_base.specs.declared.events.Event.{Event}
use Rattle.clv_base.specs.declared.events.Event.TheVariants.{Op, RollTo, Look}
use Rattle.clv_base.specs.declared.events.Outcome.{Outcome}
use Rattle.clv_base.specs.declared.events.Outcome.TheVariants.{Answered, Rolled, Acknowledged}
use Rattle.clv_base.specs.Orders.{tx_same, birth_cmp}
use Rattle.clv_base.specs.Journals.{History}
use Rattle.session_books.specs.Done.{Did, WentBack}
use Rattle.session_books.specs.declared.told.Told.{Told}

-- the answered operation, or the going back, that an entry tells, with its transaction
abbrev pub told_by : Event → Outcome → Option (TxId × Told)
told_by (Op tx birth nth seen op) (Answered answer epoch) = Some (tx, record { nth = nth; done = Did op answer })
told_by (Op tx birth nth seen op) _ = None
told_by (RollTo tx nth seen upto) Rolled = Some (tx, record { nth = nth; done = WentBack upto })
told_by (RollTo tx nth seen upto) _ = None
told_by _ o = None

abbrev pub with_told : TxId → Option (TxId × Told) → List Told → List Told
with_told t None ts = ts
with_told t (Some p) ts = cond (tx_same p.0 t) (p.1 ∷ ts) ts

-- those of the transaction, in the history's order
abbrev pub told_in : TxId → History → List Told
told_in t [] = []
told_in t (e ∷ es) = with_told t (told_by (e.1).event (e.1).outcome) (told_in t es)

-- the transaction that an entry tells to be acknowledged, to have made its request, to be looked for
abbrev pub acknowledged_by : Event → Outcome → Option TxId
acknowledged_by (Look tx) Acknowledged = Some tx
acknowledged_by (Look tx) _ = None
acknowledged_by _ o = None

abbrev pub looked_by : Event → Option TxId
looked_by (Look tx) = Some tx
looked_by _ = None

-- whether there is a transaction, and it is this one
abbrev pub is_tx : TxId → Option TxId → Bool
is_tx t None = false
is_tx t (Some tx) = tx_same t tx

-- whether a Look of the transaction was answered
abbrev pub has_look : TxId → History → Bool
has_look t h = list_any (λ e. is_tx t (looked_by (e.1).event)) h

-- the transaction of an operation, with its birth
abbrev pub try_of : Event → Option (TxId × Birth)
try_of (Op tx birth nth seen op) = Some (tx, birth)
try_of _ = None

abbrev pub same_birth : Birth → Birth → Bool
same_birth a b = is_eq (birth_cmp a b)

-- whether there is a birth, and it is this one
abbrev pub is_birth : Birth → Option Birth → Bool
is_birth b None = false
is_birth b (Some birth) = same_birth b birth

-- whether it is an operation of this birth
abbrev pub is_of_birth : Birth → Option (TxId × Birth) → Bool
is_of_birth b None = false
is_of_birth b (Some p) = same_birth b p.1

abbrev pub has_birth : Birth → History → Bool
has_birth b h = list_any (λ e. is_of_birth b (try_of (e.1).event)) h
