-- A session whose clock is raised while no transaction is active.
use Rattle.std.proofs.Common.{◌≡◌, ℕ, ◌≤◌, max, Option, Some, None, inl, inr, arith}
use Rattle.clv_base.specs.declared.names.Birth.{Birth}
use Rattle.clv_base.specs.Sessions.{SessionState}
use Rattle.cluster_turns.specs.declared.shards.Shards.{Shards}
use Rattle.cluster_turns.specs.declared.shards.Walker.{Walker}
use Rattle.cluster_turns.specs.Walkers.{IsWalker, kept}
use Rattle.cluster_turns.proofs.Laws.{informed_later}
use Rattle.session_ops.specs.Standing.{IsOld, IsReady, HasBirth}
use Rattle.session_ops.specs.Retried.{IsRetriable}
use Rattle.session_ops.specs.Unbearing.{UnbornOrWorn}
use Rattle.script_runs.specs.Seen.{Idle}
use Rattle.session_api.specs.declared.progress.Progress.{Progress}
use Rattle.session_api.specs.declared.progress.Progress.TheVariants as progress
use Rattle.session_api.specs.Sessions.{StandsIn}
use Rattle.session_api.specs.Standing.{Holds, standing_of}
use Rattle.session_api.proofs.Standings.{unasked_born, never_idle, asked_idle}
use Rattle.law_base.proofs.Lists.{all_mono}

old_up : (k m : ℕ) (b : Option Birth) → k ≤ m → IsOld k b → IsOld m b
old_up k m None l o = tt
old_up k m (Some b) l o = (omega arith)

module _ {M S G : Type 0} (sh : Shards M S G) (clock : ℕ) where
  abbrev up : Walker M S G → Walker M S G
  up w = record w { clock = max w.clock clock }

  walker_up : (w : Walker M S G) → IsWalker sh w → IsWalker sh (up w)
  walker_up w h = record {
    count = h.count;
    run = h.run;
    walks = record {
      are_passes = (h.walks).are_passes;
      keeps = (h.walks).keeps;
      in_time = all_mono (λ f. (f.1).stamp ≤ w.clock) (λ f. (f.1).stamp ≤ max w.clock clock) (λ f l. omega arith) (kept w.passes.items) (h.walks).in_time;
    };
    serials = (let s = h.serials in omega arith);
  }

  ready_up : (w : Walker M S G) (t : SessionState) → IsReady sh w t → IsReady sh (up w) t
  ready_up w t h = record {
    walker = walker_up w h.walker;
    number = h.number;
    state = h.state;
    serial = h.serial;
    old = old_up w.clock (max w.clock clock) t.birth (omega arith) h.old;
    informed = informed_later w.number w.clock (max w.clock clock) w.passes.items (omega arith) h.informed;
  }

  born_up : (w : Walker M S G) (p : SessionState) → HasBirth w p → HasBirth (up w) p
  born_up w p b = record { birth = b.birth; is = b.is; bears = b.bears; old = (let o = b.old in omega arith); free = b.free; parts = b.parts; reached = b.reached }

  unborn_up : (w : Walker M S G) (p : SessionState) → UnbornOrWorn w p → UnbornOrWorn (up w) p
  unborn_up w p (inl worn) = inl (omega arith)
  unborn_up w p (inr unborn) = inr unborn

  retriable_up : (w : Walker M S G) (p : SessionState) → IsRetriable sh w p → IsRetriable sh (up w) p
  retriable_up w p r = record { state = r.state; ready = ready_up w r.state r.ready; goes = r.goes; may = r.may; born = born_up w p r.born; unborn = unborn_up w p r.unborn }

  stands_up : (w : Walker M S G) (s : Progress) (again : Option Birth) → StandsIn sh w s → standing_of s ≡ Idle again → StandsIn sh (up w) s
  stands_up w progress.Idle again h idle = (h.0, ready_up w h.0 h.1)
  stands_up w (progress.Active p) again h idle = let b = h.born in never_idle p p.birth b.birth again b.is idle
  stands_up w (progress.Worn p) again h idle = let b = unasked_born sh w p h.0 in never_idle p p.birth b.birth again b.is idle
  stands_up w (progress.Undone p n upto) again h idle = let b = (h.0).born in never_idle p p.birth b.birth again b.is idle
  stands_up w (progress.Asked p home stamp) again h idle = asked_idle again idle
  stands_up w (progress.Ended p) again h idle = retriable_up w p h

  pub held_up : (w : Walker M S G) (s : Progress) → Holds sh w s → (again : Option Birth) × (standing_of s ≡ Idle again) → Holds sh (up w) s
  held_up w s h idle = record {
    session = record { stands = stands_up w s idle.0 (h.session).stands idle.1; landed = (h.session).landed };
    splits = h.splits;
    fetched = h.fetched;
    disks = h.disks;
  }
