-- What a drain leaves.
use Rattle.std.proofs.Common.{◌≡◌, ◌∙◌, refl, sym, subst, ℕ, ◌≤◌, List, length, Option, None, Result, Ok, Err, arith}
use Rattle.turn_lock.specs.declared.pass.Pass.{Pass}
use Rattle.machine_laws.specs.declared.notes.Note.{Note}
use Rattle.machine_laws.specs.declared.notes.Origin.{Origin}
use Rattle.cluster_turns.specs.declared.home.Home.{Home}
use Rattle.cluster_turns.specs.declared.shards.Shards.{Shards}
use Rattle.cluster_turns.specs.declared.shards.Walker.{Walker}
use Rattle.cluster_turns.specs.Walkers.{IsWalker, IsSameWalker, kept}
use Rattle.cluster_turns.specs.declared.tending.DrainError.{DrainError}
use Rattle.cluster_turns.specs.Rounds.{Rounds, DrainTold}
use Rattle.cluster_turns.proofs.Laws.{then_rounds, then_refused}
use Rattle.cluster_closing.specs.Landed.{HasLanded}
use Rattle.cluster_closing.specs.EndLaws.{DrainsLand}
use Rattle.cluster_closing.specs.Held.{HoldsNone}
use Rattle.cluster_closing.specs.Laws.{DrainsHoldNone, DrainsFetchNone}
use Rattle.cluster_opening.specs.Made.{IsNewWalker}
use Rattle.session_api.specs.Standing.{IsAtRest}
use Rattle.law_base.proofs.Lists.{all_mono}

pub drained : {M S G : Type 0} → DrainsLand (Home M S G) → DrainsHoldNone (Home M S G) → DrainsFetchNone (Home M S G) → (sh : Shards M S G) (w v : Walker M S G) (r : Result Unit DrainError)
    → (number : ℕ) → IsAtRest sh number w → IsWalker sh v × IsSameWalker w v → DrainTold (length sh.locks.items) w.number w.clock w.passes.items r v.clock v.passes.items → IsAtRest sh number v
drained lands holds fetches sh w v r number rest walks told = record {
  walker = walks.0;
  number_is = walks.1.0 ∙ rest.number_is;
  landed = subst (λ n. HasLanded n v.passes.items) (sym walks.1.0) (lands (length sh.locks.items) w.number w.clock w.passes.items r v.clock v.passes.items told rest.landed);
  fetched = fetches (length sh.locks.items) w.number w.clock w.passes.items r v.clock v.passes.items told rest.fetched;
  disks = subst (λ n. HoldsNone n v.passes.items) (sym walks.1.0) (holds None (length sh.locks.items) w.number w.clock w.passes.items r v.clock v.passes.items told rest.disks);
}

module _ {T : Type 0} where
  -- a drain behind rounds
  pub drains_on : {count w c0 c1 : ℕ} {b0 b1 : List (Option (Pass T Note Origin))} (r : Result Unit DrainError) (c2 : ℕ) (b2 : List (Option (Pass T Note Origin))) → Rounds count w c0 b0 c1 b1 → DrainTold count w c1 b1 r c2 b2 → DrainTold count w c0 b0 r c2 b2
  drains_on (Ok u) c2 b2 a t = (then_rounds a t.0, t.1)
  drains_on (Err e) c2 b2 a t = then_refused a t

  pub drain_ok : {count w c : ℕ} {before : List (Option (Pass T Note Origin))} (r : Result Unit DrainError) {c' : ℕ} {after : List (Option (Pass T Note Origin))} → ((e : DrainError) → r ≡ Err e → ⊥) → DrainTold count w c before r c' after
      → Rounds count w c before c' after
  drain_ok (Ok u) fine t = t.0
  drain_ok (Err e) fine t = absurd (fine e refl)

-- ---- a clock that is raised

walker_up : {M S G : Type 0} (sh : Shards M S G) (clock : ℕ) (w : Walker M S G) → w.clock ≤ clock → IsWalker sh w → IsWalker sh (record w { clock = clock })
walker_up sh clock w low h = record {
  count = h.count;
  run = h.run;
  walks = record {
    are_passes = (h.walks).are_passes;
    keeps = (h.walks).keeps;
    in_time = all_mono (λ f. (f.1).stamp ≤ w.clock) (λ f. (f.1).stamp ≤ clock) (λ f l. omega arith) (kept w.passes.items) (h.walks).in_time;
  };
  serials = (let s = h.serials in omega arith);
}

pub rest_up : {M S G : Type 0} (sh : Shards M S G) (number clock : ℕ) (w : Walker M S G) → w.clock ≤ clock → IsAtRest sh number w → IsAtRest sh number (record w { clock = clock })
rest_up sh number clock w low h = record { walker = walker_up sh clock w low h.walker; number_is = h.number_is; landed = h.landed; fetched = h.fetched; disks = h.disks }

pub new_up : {M S G : Type 0} (sh : Shards M S G) (number clock : ℕ) (w : Walker M S G) → IsNewWalker sh number 0 w → IsNewWalker sh number clock (record w { clock = clock })
new_up sh number clock w h = record { walker = walker_up sh clock w (let c = h.clock_is in omega arith) h.walker; number_is = h.number_is; clock_is = refl; none_begun = h.none_begun; new = h.new }
