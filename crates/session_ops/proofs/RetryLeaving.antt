-- Which transactions may be tried again.
use Rattle.std.proofs.Common.{◌≡◌, ◌∙◌, refl, sym, ap, true, None, inl, inr}
use Rattle.std.specs.Prelude.{◌⊎◌}
use Rattle.clv_base.specs.Sessions.{SessionState, Phase, Touching, Ended, Standing, Told, Refused, is_touching, may_drop}
use Rattle.cluster_turns.specs.declared.shards.Shards.{Shards}
use Rattle.cluster_turns.specs.declared.shards.Walker.{Walker}
use Rattle.cluster_turns.specs.Walkers.{IsWalker}
use Rattle.session_ops.specs.Standing.{IsActive}
use Rattle.session_ops.specs.Dropped.{IsLeft, IsEnding}
use Rattle.session_ops.specs.Unbearing.{UnbornOrWorn}
use Rattle.session_ops.proofs.Unbearing.{drops_unbear}
use Rattle.session_ops.specs.Retried.{IsRetriable}
use Rattle.session_ops.specs.Laws.{EndedAreRetriable, ActiveAreRetriable, AbortsAreRetriable}

pub ended_are_retriable : (M S G : Type 0) → EndedAreRetriable M S G
ended_are_retriable M S G sh w p e = record { state = p; ready = e.ending.over.ready; goes = inl refl; may = e.ending.may; born = e.ending.over.born; unborn = e.unborn }

touching_drops : (x : Phase) → is_touching x ≡ true → may_drop x ≡ true
touching_drops Touching h = refl
touching_drops Ended h = refl
touching_drops (Standing home) h = h
touching_drops Told h = h
touching_drops Refused h = refl

pub active_are_retriable : (M S G : Type 0) → ActiveAreRetriable M S G
active_are_retriable M S G sh w p a u = record { state = a.state; ready = a.ready; goes = a.goes; may = touching_drops p.phase a.touching; born = a.born; unborn = u }

-- ---- after an abort

same_birth : (p q : SessionState) → IsLeft p q → q.birth ≡ p.birth
same_birth p q (inl same) = ap (λ z. z.birth) same
same_birth p q (inr same) = ap (λ z. z.birth) same

module _ {M S G : Type 0} where
  unborn_left : (v : Walker M S G) (p q : SessionState) → q.birth ≡ p.birth → UnbornOrWorn v p → UnbornOrWorn v q
  unborn_left v p q same (inl worn) = inl worn
  unborn_left v p q same (inr all) = inr (λ birth is. all birth (sym same ∙ is))

  walks_on : (sh : Shards M S G) (v : Walker M S G) (q : SessionState) → IsActive sh v q ⊎ IsEnding sh v q → IsWalker sh v
  walks_on sh v q (inl a) = a.ready.walker
  walks_on sh v q (inr e) = e.over.ready.walker

  again : (sh : Shards M S G) (v : Walker M S G) (q : SessionState) → UnbornOrWorn v q → IsActive sh v q ⊎ IsEnding sh v q → IsRetriable sh v q
  again sh v q u (inl a) = active_are_retriable M S G sh v q a u
  again sh v q u (inr e) = ended_are_retriable M S G sh v q (record { ending = e; unborn = u })

pub aborts_are_retriable : (M S G : Type 0) → AbortsAreRetriable M S G
aborts_are_retriable M S G sh w v p q r born h left stands = again sh v q (unborn_left v p q (same_birth p q left) (drops_unbear M S G sh w v p None r (walks_on sh v q stands) born (λ n is. absurd cc) h)) stands
