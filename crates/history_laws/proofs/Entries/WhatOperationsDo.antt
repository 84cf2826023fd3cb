-- What comes of an operation.
use Rattle.std.proofs.Common.{◌≡◌, ◌⊎◌, inl, inr, refl, sym, ap, subst, ℕ, true, false, Bool, Option, Some, None, eqb-true}
use Rattle.clv_base.specs.declared.names.TxId.{TxId}
use Rattle.clv_base.specs.declared.names.Birth.{Birth}
use Rattle.clv_base.specs.declared.ops.Op.{Op}
use Rattle.clv_base.specs.declared.ops.Answer.{Answer}
use Rattle.clv_base.specs.declared.causes.AbortCause.{AbortCause}
use Rattle.clv_base.specs.declared.modes.Decision.{Decision}
use Rattle.clv_base.specs.declared.modes.Decision.TheVariants.{Grant, Wait, Die}
use Rattle.clv_base.specs.declared.state.Stage.{Stage}
use Rattle.clv_base.specs.declared.state.Stage.TheVariants.{Active, Closed, Gone}
use Rattle.clv_base.specs.declared.events.Event.{Event}
use Rattle.clv_base.specs.declared.events.Event.TheVariants.{Op as OpEvent}
use Rattle.clv_base.specs.declared.events.Outcome.{Outcome}
use Rattle.clv_base.specs.declared.events.Outcome.TheVariants.{Answered}
use Rattle.clv_base.specs.Locks.{decide}
use Rattle.clv_base.specs.State.{Shard, Local, is_present}
use Rattle.clv_base.specs.Undo.{stage_of, roll_back}
use Rattle.clv_base.specs.Needs.{needs_of, answer_of}
use Rattle.clv_base.specs.OneShard.{OpReply, OpWaits, OpCrowded, OpDies, OpAnswers, performed, rolled_back_if, op_granted, op_decided, op_by_stage, op_seen, op_reply, seen_fits}
use Rattle.history_cases.proofs.Stepping.{Step, op_dies, op_answers, Happens, finishes, stops}

-- ---- its replies

pub data OpIs (l : Local) (tx : TxId) (birth : Birth) (seen : Option ℕ) (op : Op) : OpReply → Type 0 where
  waits : {y : TxId} → OpIs l tx birth seen op (OpWaits y)
  no_room : {n : ℕ} → OpIs l tx birth seen op (OpCrowded n)
  dies : {c : AbortCause} → OpIs l tx birth seen op (OpDies c l)
  rolls : {c : AbortCause} → OpIs l tx birth seen op (OpDies c (roll_back tx l))
  performs : seen_fits l.epoch seen ≡ true → (stage_of l tx ≡ None) ⊎ (stage_of l tx ≡ Some Active) → OpIs l tx birth seen op (OpAnswers (answer_of op l.records) (performed tx birth op l))

without_is : (l : Local) (tx : TxId) (birth : Birth) (seen : Option ℕ) (op : Op) (c : AbortCause) (b : Bool) → OpIs l tx birth seen op (OpDies c (rolled_back_if b tx l))
without_is l tx birth seen op c true = rolls
without_is l tx birth seen op c false = dies

granted_is : (l : Local) (tx : TxId) (birth : Birth) (seen : Option ℕ) (op : Op) (b : Bool) → seen_fits l.epoch seen ≡ true → (stage_of l tx ≡ None) ⊎ (stage_of l tx ≡ Some Active) → OpIs l tx birth seen op (op_granted l tx birth op b)
granted_is l tx birth seen op true f e = no_room
granted_is l tx birth seen op false f e = performs f e

decided_is : (l : Local) (tx : TxId) (birth : Birth) (seen : Option ℕ) (op : Op) (d : Decision) → seen_fits l.epoch seen ≡ true → (stage_of l tx ≡ None) ⊎ (stage_of l tx ≡ Some Active) → OpIs l tx birth seen op (op_decided l tx birth op d)
decided_is l tx birth seen op Grant f e = granted_is l tx birth seen op _ f e
decided_is l tx birth seen op (Wait y) f e = waits
decided_is l tx birth seen op (Die o) f e = without_is l tx birth seen op _ (is_present (stage_of l tx))

stage_is : (l : Local) (tx : TxId) (birth : Birth) (seen : Option ℕ) (op : Op) (st : Option Stage) → stage_of l tx ≡ st → seen_fits l.epoch seen ≡ true → OpIs l tx birth seen op (op_by_stage l tx birth op st)
stage_is l tx birth seen op None e f = decided_is l tx birth seen op (decide tx birth (needs_of op l.records) l.locks) f (inl e)
stage_is l tx birth seen op (Some Active) e f = decided_is l tx birth seen op (decide tx birth (needs_of op l.records) l.locks) f (inr e)
stage_is l tx birth seen op (Some Closed) e f = dies
stage_is l tx birth seen op (Some (Gone None)) e f = dies
stage_is l tx birth seen op (Some (Gone (Some d))) e f = dies

seen_is : (shard : ℕ) (l : Local) (tx : TxId) (birth : Birth) (seen : Option ℕ) (op : Op) (b : Bool) → seen_fits l.epoch seen ≡ b → OpIs l tx birth seen op (op_seen shard l tx birth seen op b)
seen_is shard l tx birth seen op true f = stage_is l tx birth seen op (stage_of l tx) refl f
seen_is shard l tx birth seen op false f = without_is l tx birth seen op _ (is_present (stage_of l tx))

pub reply_is : (shard : ℕ) (l : Local) (tx : TxId) (birth : Birth) (seen : Option ℕ) (op : Op) (r : OpReply) → op_reply shard l tx birth seen op ≡ r → OpIs l tx birth seen op r
reply_is shard l tx birth seen op r e = subst (OpIs l tx birth seen op) e (seen_is shard l tx birth seen op (seen_fits l.epoch seen) refl)

-- ---- its answer

-- an operation is answered in the shard's epoch, and it has seen that one or none
fits_seen : (epoch : ℕ) (seen : Option ℕ) → seen_fits epoch seen ≡ true → (seen ≡ None) ⊎ (seen ≡ Some epoch)
fits_seen epoch None e = inl refl
fits_seen epoch (Some k) e = inr (ap (λ z. Some z) (eqb-true k epoch e))

performs_seen : (l m : Local) (tx : TxId) (birth : Birth) (seen : Option ℕ) (op : Op) (a : Answer) → OpIs l tx birth seen op (OpAnswers a m) → (seen ≡ None) ⊎ (seen ≡ Some l.epoch)
performs_seen l _ tx birth seen op _ (performs f e) = fits_seen l.epoch seen f

pub answered_epoch : (s t : Shard) {e : Event} {o : Outcome} → Happens s e o t → (tx : TxId) (birth : Birth) (nth : ℕ) (seen : Option ℕ) (op : Op) (a : Answer) (n : ℕ) → e ≡ OpEvent tx birth nth seen op → o ≡ Answered a n
    → (n ≡ s.local.epoch) × ((seen ≡ None) ⊎ (seen ≡ Some n))
answered_epoch s _ (finishes {t = t} u g) tx birth nth seen op a n q r = at t g q r
  where
    at : (t : Shard) {e : Event} {o : Outcome} → Step s e o t → e ≡ OpEvent tx birth nth seen op → o ≡ Answered a n → (n ≡ s.local.epoch) × ((seen ≡ None) ⊎ (seen ≡ Some n))
    at _ (op_answers tx0 birth0 nth0 seen0 op0 answer l g) q r =
        let same_epoch : n ≡ s.local.epoch = one_epoch r in
        let same_seen : seen0 ≡ seen = one_seen q in (
          same_epoch,
          subst (λ z. (z ≡ None) ⊎ (z ≡ Some n)) same_seen (subst (λ z. (seen0 ≡ None) ⊎ (seen0 ≡ Some z)) (sym same_epoch)
              (performs_seen s.local l tx0 birth0 seen0 op0 answer (reply_is s.shard s.local tx0 birth0 seen0 op0 (OpAnswers answer l) g))),
        )
      where
        one_epoch : Answered answer s.local.epoch ≡ Answered a n → n ≡ s.local.epoch
        one_epoch z = cc

        one_seen : OpEvent tx0 birth0 nth0 seen0 op0 ≡ OpEvent tx birth nth seen op → seen0 ≡ seen
        one_seen z = cc
    at t (op_dies tx0 birth0 nth0 seen0 op0 cause l g) q r = absurd cc
    at t _ q r = absurd cc
answered_epoch s _ (stops u) tx birth nth seen op a n q r = absurd cc
