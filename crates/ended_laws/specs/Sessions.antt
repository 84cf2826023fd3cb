-- What no session makes any more of a transaction, by what came before.
use Rattle.std.specs.Prelude.{◌≡◌, ℕ, ◌<◌, Bool, false, true, ◌||◌, List, ◌∷◌, ◌++◌, Some}
use Rattle.clv_base.specs.declared.names.TxId.{TxId}
use Rattle.clv_base.specs.declared.logs.LogRecord.{LogRecord}
use Rattle.clv_base.specs.declared.events.Event.{Event}
use Rattle.clv_base.specs.declared.events.Event.TheVariants.{Op, RollTo, Request, Look, Drop}
use Rattle.clv_base.specs.declared.events.Outcome.{Outcome}
use Rattle.clv_base.specs.declared.events.Outcome.TheVariants.{Dead}
use Rattle.clv_base.specs.declared.events.Entry.{Entry}
use Rattle.clv_base.specs.Orders.{tx_same}
use Rattle.clv_base.specs.Journals.{History}
use Rattle.clv_base.specs.History.{Legal, IsAmong, is_acknowledgement, request_of}
use Rattle.protocol_laws.specs.SessionLaws.{tx_of}
use Rattle.history_laws.specs.Outcomes.{is_abort}

-- an operation, a going back or a request of the transaction; or a look; or a drop
abbrev pub works_for : TxId → Event → Bool
works_for t (Op tx birth nth seen op) = tx_same t tx
works_for t (RollTo tx nth seen upto) = tx_same t tx
works_for t (Request tx touched) = tx_same t tx
works_for t _ = false

abbrev pub asks_for : TxId → Event → Bool
asks_for t (Look tx) = tx_same t tx
asks_for t (Op tx birth nth seen op) = tx_same t tx
asks_for t (RollTo tx nth seen upto) = tx_same t tx
asks_for t (Request tx touched) = tx_same t tx
asks_for t _ = false

abbrev pub names : TxId → Event → Bool
names t (Drop tx) = tx_same t tx
names t (Look tx) = tx_same t tx
names t (Op tx birth nth seen op) = tx_same t tx
names t (RollTo tx nth seen upto) = tx_same t tx
names t (Request tx touched) = tx_same t tx
names t _ = false

-- so far its request was taken; it was told of its end; of success; its session began a later one
abbrev pub WasRequested : History → TxId → Type 0
WasRequested so_far t = (m : ℕ) × (r : Entry) × IsAmong m r so_far × (request_of r.event r.outcome ≡ Some t)

abbrev pub WasToldItsEnd : History → TxId → Type 0
WasToldItsEnd so_far t = (m : ℕ) × (r : Entry) × IsAmong m r so_far × ((is_acknowledgement t r.event r.outcome || is_abort t r.event r.outcome) ≡ true)

abbrev pub WasAcknowledged : History → TxId → Type 0
WasAcknowledged so_far t = (m : ℕ) × (r : Entry) × IsAmong m r so_far × (is_acknowledgement t r.event r.outcome ≡ true)

abbrev pub WasFollowed : History → TxId → Type 0
WasFollowed so_far t = (m : ℕ) × (r : Entry) × (u : TxId) × IsAmong m r so_far × (tx_of r.event ≡ Some u) × (u.session ≡ t.session) × (t.serial < u.serial)

-- the entry behind what is so far, in a legal history
abbrev pub Behind : (History → TxId → Type 0) → (TxId → Event → Bool) → Type 0
Behind Was does =
    (splits : List ℕ) (before : List (List LogRecord)) (so_far : History) (n : ℕ) (e : Entry) (later : History) (after : List (List LogRecord)) (t : TxId)
    → Legal splits before (so_far ++ (n, e) ∷ later) after → Was so_far t → does t e.event ≡ false

-- behind its request there is no operation, no going back and no further request of it
abbrev pub NoWorkFollowsARequest : Type 0
NoWorkFollowsARequest = Behind WasRequested works_for

-- behind what told its end there are only drops of it
abbrev pub OnlyDropsFollowTheEnd : Type 0
OnlyDropsFollowTheEnd = Behind WasToldItsEnd asks_for

-- behind the word of success not even these
abbrev pub NothingFollowsSuccess : Type 0
NothingFollowsSuccess = Behind WasAcknowledged names

-- nor behind a later one of its session
abbrev pub NothingFollowsALaterOne : Type 0
NothingFollowsALaterOne = Behind WasFollowed names

-- an operation, a going back or a request of it died
abbrev pub dies : TxId → Event → Outcome → Bool
dies t (Op tx birth nth seen op) (Dead cause) = tx_same t tx
dies t (RollTo tx nth seen upto) (Dead cause) = tx_same t tx
dies t (Request tx touched) (Dead cause) = tx_same t tx
dies t _ _ = false

abbrev pub WasDead : History → TxId → Type 0
WasDead h t = (m : ℕ) × (r : Entry) × IsAmong m r h × (dies t r.event r.outcome ≡ true)

-- no request of one that died is ever taken, before or behind
abbrev pub TheDeadAskNothing : Type 0
TheDeadAskNothing = (splits : List ℕ) (before : List (List LogRecord)) (h : History) (after : List (List LogRecord)) (t : TxId) → Legal splits before h after → WasDead h t → WasRequested h t → ⊥
