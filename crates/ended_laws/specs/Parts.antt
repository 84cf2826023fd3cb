-- A part that is gone, and the shard without its row and without its vote.
use Rattle.std.specs.Prelude.{◌≡◌, ⊤, Bool, true, false, ◌==◌, Option, Some, None}
use Rattle.std.specs.List.Sorted.{IsStrictlySortedBy}
use Rattle.std.specs.Map.{keys_of}
use Rattle.clv_base.specs.declared.names.TxId.{TxId}
use Rattle.clv_base.specs.declared.messages.Message.{Message}
use Rattle.clv_base.specs.declared.messages.Message.TheVariants.{Prepare}
use Rattle.clv_base.specs.declared.events.Event.{Event}
use Rattle.clv_base.specs.declared.events.Event.TheVariants.{Op as OpEvent, RollTo, Request as RequestEvent, Drop, Deliver}
use Rattle.clv_base.specs.declared.events.Outcome.{Outcome}
use Rattle.clv_base.specs.declared.state.Voter.{Voter}
use Rattle.clv_base.specs.Orders.{tx_cmp, tx_same, tx_get}
use Rattle.clv_base.specs.State.{Local, Shard, with_local, is_present}
use Rattle.clv_base.specs.Undo.{stage_of}
use Rattle.clv_base.specs.Events.{Reply, QuietBeforeWorn, QuietAfterWorn, Does, happen}
use Rattle.clv_base.specs.declared.state.Request.{Request}
use Rattle.ended_laws.specs.Requests.{without, forgets, IsOver}

-- the shard that keeps nothing of the transaction's part, nor of its vote
abbrev pub forgets_in : TxId → Local → Local
forgets_in tx l = record l { parts = without tx l.parts }

abbrev pub forgets_part : TxId → Shard → Shard
forgets_part tx s = record (with_local (forgets_in tx) s) { voters = without tx s.voters }

abbrev pub partless : TxId → Reply → Reply
partless tx (QuietBeforeWorn o) = QuietBeforeWorn o
partless tx (QuietAfterWorn o) = QuietAfterWorn o
partless tx (Does o t) = Does o (forgets_part tx t)

-- no vote is owed
abbrev pub owes_none : Option Voter → Bool
owes_none None = true
owes_none (Some v) = v.owed == 0

-- the part is not there any more, owes no vote, and no request of it is kept here; the tables rise
pub record IsPast (s : Shard) (tx : TxId) : Type 0 where
  pub parts_rise : IsStrictlySortedBy tx_cmp (keys_of s.local.parts)
  pub voters_rise : IsStrictlySortedBy tx_cmp (keys_of s.voters)
  pub requests_rise : IsStrictlySortedBy tx_cmp (keys_of s.requests)
  pub is_gone : is_present (stage_of s.local tx) ≡ false
  pub owes : owes_none (tx_get tx s.voters) ≡ true
  pub no_request : tx_get tx s.requests ≡ None

-- what is not of its session, but for looks, nor a Prepare of it
abbrev pub IsNoPrepareOf : TxId → Message → Type 0
IsNoPrepareOf tx (Prepare to t home seen) = tx_same tx t ≡ false
IsNoPrepareOf tx _ = ⊤

abbrev pub MayMeet : TxId → Event → Type 0
MayMeet tx (OpEvent t birth nth seen op) = tx_same tx t ≡ false
MayMeet tx (RollTo t nth seen upto) = tx_same tx t ≡ false
MayMeet tx (RequestEvent t touched) = tx_same tx t ≡ false
MayMeet tx (Drop t) = tx_same tx t ≡ false
MayMeet tx (Deliver m stamp) = IsNoPrepareOf tx m
MayMeet tx _ = ⊤

-- each such event finds the same without the rows: a late decision, a late question, a look, a reminder, and all that is of others
abbrev pub OnlyItsOwnEventsMissIt : Type 0
OnlyItsOwnEventsMissIt = (s : Shard) (tx : TxId) (e : Event) → IsPast s tx → MayMeet tx e → happen (forgets_part tx s) e ≡ partless tx (happen s e)

-- and leaves the part past
abbrev pub PastStaysPast : Type 0
PastStaysPast = (s t : Shard) (tx : TxId) (e : Event) (o : Outcome) → IsPast s tx → MayMeet tx e → happen s e ≡ Does o t → IsPast t tx

-- ---- many rows

-- forgetting one transaction leaves each other one as it was, over or past; and where a request is over and no vote is owed, its part is past once
-- the request is forgotten
pub record GoAlone : Type 0 where
  pub over : (s : Shard) (tx u : TxId) (q : Request) → tx_same tx u ≡ false → IsOver s u q → IsOver (forgets tx s) u q
  pub over_still : (s : Shard) (tx u : TxId) (q : Request) → tx_same tx u ≡ false → IsOver s u q → IsOver (forgets_part tx s) u q
  pub past : (s : Shard) (tx u : TxId) → tx_same tx u ≡ false → IsPast s u → IsPast (forgets tx s) u
  pub past_still : (s : Shard) (tx u : TxId) → tx_same tx u ≡ false → IsPast s u → IsPast (forgets_part tx s) u
  pub then_past :
      (s : Shard) (tx : TxId) (q : Request) → IsOver s tx q → IsStrictlySortedBy tx_cmp (keys_of s.local.parts) → IsStrictlySortedBy tx_cmp (keys_of s.voters) → owes_none (tx_get tx s.voters) ≡ true
      → IsPast (forgets tx s) tx
