-- Why an operation or a request dies, by its shard's state.
use Rattle.std.proofs.Common.{◌≡◌, ◌⊎◌, inl, inr, refl, ℕ, true, false, Bool, List, Option, Some, None, ◌==◌, unwrap_or}
use Rattle.std.proofs.lemmas.Bool.{both_ways}
use Rattle.clv_base.specs.declared.names.TxId.{TxId}
use Rattle.clv_base.specs.declared.names.Birth.{Birth}
use Rattle.clv_base.specs.declared.ops.Op.{Op}
use Rattle.clv_base.specs.declared.causes.AbortCause.{AbortCause}
use Rattle.clv_base.specs.declared.causes.AbortCause.TheVariants.{Died, Restarted}
use Rattle.clv_base.specs.declared.events.Event.TheVariants.{Request as RequestEvent}
use Rattle.clv_base.specs.declared.events.Outcome.TheVariants.{Dead, Asked, Down}
use Rattle.clv_base.specs.declared.state.Stage.{Stage}
use Rattle.clv_base.specs.declared.state.Stage.TheVariants.{Active, Closed, Gone}
use Rattle.clv_base.specs.declared.modes.Decision.{Decision}
use Rattle.clv_base.specs.declared.modes.Decision.TheVariants.{Grant, Wait, Die}
use Rattle.clv_base.specs.Locks.{decide}
use Rattle.clv_base.specs.Needs.{needs_of}
use Rattle.clv_base.specs.State.{Shard, Local}
use Rattle.clv_base.specs.Undo.{stage_of}
use Rattle.clv_base.specs.Coordinator.{doom_cause}
use Rattle.clv_base.specs.OneShard.{OpDies, seen_fits, op_granted, op_decided, op_by_stage, op_seen, op_reply}
use Rattle.clv_base.specs.Events.{Reply, QuietBeforeWorn, Does, epoch_in, request_by_stage, request_event, happen_up, happen}

-- ---- an operation

pub data OpWhy (shard : ℕ) (l : Local) (tx : TxId) (birth : Birth) (seen : Option ℕ) (op : Op) (c : AbortCause) : Type 0 where
  unseen : seen_fits l.epoch seen ≡ false → c ≡ Restarted shard (unwrap_or seen 0) l.epoch → OpWhy shard l tx birth seen op c
  closed : (stage_of l tx ≡ Some Closed) ⊎ (stage_of l tx ≡ Some (Gone None)) → OpWhy shard l tx birth seen op c
  doomed : (d : TxId) → stage_of l tx ≡ Some (Gone (Some d)) → c ≡ doom_cause tx d → OpWhy shard l tx birth seen op c
  older : (o : TxId) → decide tx birth (needs_of op l.records) l.locks ≡ Die o → c ≡ Died o → OpWhy shard l tx birth seen op c

granted : (shard : ℕ) (l k : Local) (tx : TxId) (birth : Birth) (seen : Option ℕ) (op : Op) (c : AbortCause) (b : Bool) → op_granted l tx birth op b ≡ OpDies c k → ⊥
granted shard l k tx birth seen op c true e = absurd cc
granted shard l k tx birth seen op c false e = absurd cc

dies_by : (c x : AbortCause) (k l : Local) → OpDies x l ≡ OpDies c k → c ≡ x
dies_by c x k l e = cc

decided : (shard : ℕ) (l k : Local) (tx : TxId) (birth : Birth) (seen : Option ℕ) (op : Op) (c : AbortCause) (d : Decision) → decide tx birth (needs_of op l.records) l.locks ≡ d → op_decided l tx birth op d ≡ OpDies c k → OpWhy shard l tx birth seen op c
decided shard l k tx birth seen op c Grant f e = absurd (granted shard l k tx birth seen op c _ e)
decided shard l k tx birth seen op c (Wait y) f e = absurd cc
decided shard l k tx birth seen op c (Die o) f e = older o f (dies_by c (Died o) k _ e)

by_stage : (shard : ℕ) (l k : Local) (tx : TxId) (birth : Birth) (seen : Option ℕ) (op : Op) (c : AbortCause) (st : Option Stage) → stage_of l tx ≡ st → op_by_stage l tx birth op st ≡ OpDies c k → OpWhy shard l tx birth seen op c
by_stage shard l k tx birth seen op c None f e = decided shard l k tx birth seen op c (decide tx birth (needs_of op l.records) l.locks) refl e
by_stage shard l k tx birth seen op c (Some Active) f e = decided shard l k tx birth seen op c (decide tx birth (needs_of op l.records) l.locks) refl e
by_stage shard l k tx birth seen op c (Some Closed) f e = closed (inl f)
by_stage shard l k tx birth seen op c (Some (Gone None)) f e = closed (inr f)
by_stage shard l k tx birth seen op c (Some (Gone (Some d))) f e = doomed d f (dies_by c (doom_cause tx d) k l e)

by_seen : (shard : ℕ) (l k : Local) (tx : TxId) (birth : Birth) (seen : Option ℕ) (op : Op) (c : AbortCause) (b : Bool) → seen_fits l.epoch seen ≡ b → op_seen shard l tx birth seen op b ≡ OpDies c k → OpWhy shard l tx birth seen op c
by_seen shard l k tx birth seen op c false f e = unseen f (dies_by c (Restarted shard (unwrap_or seen 0) l.epoch) k _ e)
by_seen shard l k tx birth seen op c true f e = by_stage shard l k tx birth seen op c (stage_of l tx) refl e

pub op_why : (shard : ℕ) (l k : Local) (tx : TxId) (birth : Birth) (seen : Option ℕ) (op : Op) (c : AbortCause) → op_reply shard l tx birth seen op ≡ OpDies c k → OpWhy shard l tx birth seen op c
op_why shard l k tx birth seen op c e = by_seen shard l k tx birth seen op c (seen_fits l.epoch seen) refl e

-- an epoch that doesn't fit is some epoch, and another
pub seen_other : (epoch : ℕ) (seen : Option ℕ) → seen_fits epoch seen ≡ false → (e : ℕ) × (seen ≡ Some e) × ((e == epoch) ≡ false)
seen_other epoch None e = absurd (both_ways true e refl)
seen_other epoch (Some n) e = (n, refl, e)

-- ---- a request

pub data RequestWhy (s : Shard) (tx : TxId) (ts : List (ℕ × ℕ)) (c : AbortCause) : Type 0 where
  late : seen_fits s.local.epoch (epoch_in s.shard ts) ≡ false → c ≡ Restarted s.shard (unwrap_or (epoch_in s.shard ts) 0) s.local.epoch → RequestWhy s tx ts c
  fell : (d : TxId) → stage_of s.local tx ≡ Some (Gone (Some d)) → c ≡ doom_cause tx d → RequestWhy s tx ts c

dead_by : (c x : AbortCause) (s t : Shard) → Does (Dead x) s ≡ Does (Dead c) t → c ≡ x
dead_by c x s t e = cc

asked_not : (c : AbortCause) (s t : Shard) → Does Asked s ≡ Does (Dead c) t → ⊥
asked_not c s t e = absurd cc

stage_why : (s t : Shard) (tx : TxId) (ts : List (ℕ × ℕ)) (c : AbortCause) (st : Option Stage) → stage_of s.local tx ≡ st → request_by_stage s tx ts st ≡ Does (Dead c) t → RequestWhy s tx ts c
stage_why s t tx ts c None f e = absurd (asked_not c _ t e)
stage_why s t tx ts c (Some Active) f e = absurd (asked_not c _ t e)
stage_why s t tx ts c (Some Closed) f e = absurd (asked_not c _ t e)
stage_why s t tx ts c (Some (Gone None)) f e = absurd (asked_not c _ t e)
stage_why s t tx ts c (Some (Gone (Some d))) f e = fell d f (dead_by c (doom_cause tx d) _ t e)

fit_why : (s t : Shard) (tx : TxId) (ts : List (ℕ × ℕ)) (c : AbortCause) (b : Bool) → seen_fits s.local.epoch (epoch_in s.shard ts) ≡ b → request_event s tx ts b ≡ Does (Dead c) t → RequestWhy s tx ts c
fit_why s t tx ts c false f e = late f (dead_by c _ _ t e)
fit_why s t tx ts c true f e = stage_why s t tx ts c (stage_of s.local tx) refl e

up_why : (s t : Shard) (tx : TxId) (ts : List (ℕ × ℕ)) (c : AbortCause) (b : Bool) → ◌≡◌ {A = Reply} (elim b [ true ↦ happen_up s (RequestEvent tx ts) | false ↦ QuietBeforeWorn Down ]) (Does (Dead c) t) → RequestWhy s tx ts c
up_why s t tx ts c true e = fit_why s t tx ts c (seen_fits s.local.epoch (epoch_in s.shard ts)) refl e
up_why s t tx ts c false e = absurd cc

pub request_why : (s t : Shard) (tx : TxId) (ts : List (ℕ × ℕ)) (c : AbortCause) → happen s (RequestEvent tx ts) ≡ Does (Dead c) t → RequestWhy s tx ts c
request_why s t tx ts c e = up_why s t tx ts c s.is_up e
