-- An operation on one shard, and the drops after it.
use Rattle.std.proofs.Common.{◌≡◌, ◌∙◌, refl, sym, ap, subst, ℕ, false, [], append-nil, length, Result, Ok, Err}
use Rattle.clv_base.specs.declared.ops.Op.{Op}
use Rattle.clv_base.specs.declared.ops.Answer.{Answer}
use Rattle.clv_base.specs.declared.events.Event.{Event}
use Rattle.clv_base.specs.Sessions.{SessionState, Ended, may_drop, after_drop}
use Rattle.cluster_turns.specs.declared.shards.Shards.{Shards}
use Rattle.cluster_turns.specs.declared.shards.Walker.{Walker}
use Rattle.cluster_turns.specs.CallTurns.{Took}
use Rattle.cluster_turns.proofs.Laws.{turns_follow}
use Rattle.session_ops.specs.declared.operating.OpError.{OpError}
use Rattle.session_ops.specs.declared.operating.OpError.TheVariants.{Aborted, Down, Worn, Memory}
use Rattle.session_ops.specs.Standing.{IsActive}
use Rattle.session_ops.specs.Operated.{Operated, PlacedBy, StandsBy, answered_in}
use Rattle.session_ops.specs.Decided.{Leaving, IsLeftOver, LeavesIf}
use Rattle.session_ops.proofs.Deciding.{left_ended}
use Rattle.session_ops.specs.Parts.{has_died, LeftBy, Performing, StandsUnless}

module _ {M S G : Type 0} (sh : Shards M S G) where
  pub left_over : (w : Walker M S G) (n nth : ℕ) (op : Op) (p q : SessionState) (r : Result Answer OpError) → PlacedBy n nth op p (answered_in r) q → StandsBy n sh w q (answered_in r) → IsLeftOver (has_died r) sh w q
  left_over w n nth op p q (Ok answer) place h = tt
  left_over w n nth op p q (Err (Aborted cause)) place h =
      let phase : q.phase ≡ Ended = ap (λ z. z.phase) place in (record { over = h.0; may = ap may_drop phase }, ap after_drop phase ∙ sym phase)
  left_over w n nth op p q (Err (Down m)) place h = tt
  left_over w n nth op p q (Err (Worn at)) place h = tt
  left_over w n nth op p q (Err Memory) place h = tt

  abbrev Operates : Walker M S G → Walker M S G → ℕ → Event → Result Answer OpError → Type 0
  Operates w u n e r = Operated w.number w.clock w.passes.items n e (answered_in r) u.clock u.passes.items

  abbrev Performs : Walker M S G → Walker M S G → ℕ → SessionState → Event → Result Answer OpError → Type 0
  Performs w v n p e r = Performing (length sh.locks.items) w.number w.clock w.passes.items n p e r v.clock v.passes.items

  -- without drops
  asked : (w u : Walker M S G) (n : ℕ) (p : SessionState) (e : Event) (r : Result Answer OpError) → Operates w u n e r → has_died r ≡ false → Performs w u n p e r
  asked w u n p e r o not_so = record {
    asking = o.turns;
    leaving = [];
    took = subst (λ ts. Took w.number w.clock w.passes.items ts u.clock u.passes.items) (sym (append-nil o.turns)) o.took;
    only = o.only;
    told = o.told;
    drops = tt;
    left = subst (λ b. LeftBy (length sh.locks.items) n p.tx p.touched b []) (sym not_so) refl;
  }

  pub performed : (w u v : Walker M S G) (n nth : ℕ) (op : Op) (p m q : SessionState) (e : Event) (r : Result Answer OpError) → u.number ≡ w.number → Operates w u n e r → PlacedBy n nth op p (answered_in r) m
      → LeavesIf (has_died r) sh u m n v q → Performs w v n p e r
  performed w u v n nth op p m q e (Ok answer) number o place l = subst (λ z. Performs w z n p e (Ok answer)) (sym l.0) (asked w u n p e (Ok answer) o refl)
  performed w u v n nth op p m q e (Err (Down k)) number o place l = subst (λ z. Performs w z n p e (Err (Down k))) (sym l.0) (asked w u n p e (Err (Down k)) o refl)
  performed w u v n nth op p m q e (Err (Worn at)) number o place l = subst (λ z. Performs w z n p e (Err (Worn at))) (sym l.0) (asked w u n p e (Err (Worn at)) o refl)
  performed w u v n nth op p m q e (Err Memory) number o place l = subst (λ z. Performs w z n p e (Err Memory)) (sym l.0) (asked w u n p e (Err Memory) o refl)
  performed w u v n nth op p m q e (Err (Aborted cause)) number o place l =
      let count = length sh.locks.items in
      let drops : Leaving count w.number u.clock u.passes.items p.tx p.touched n v.clock v.passes.items =
      subst (λ (k : ℕ). Leaving count k u.clock u.passes.items p.tx p.touched n v.clock v.passes.items) number
      (subst (λ (z : SessionState). Leaving count u.number u.clock u.passes.items z.tx z.touched n v.clock v.passes.items) place l.0) in
      record {
        asking = o.turns;
        leaving = drops.turns;
        took = turns_follow w.number w.clock u.clock v.clock w.passes.items u.passes.items v.passes.items o.turns drops.turns o.took drops.took;
        only = o.only;
        told = o.told;
        drops = drops.only;
        left = drops.each;
      }

  -- drops leave the place
  same_place : (u v : Walker M S G) (m q : SessionState) (n : ℕ) (r : Result Answer OpError) → LeavesIf (has_died r) sh u m n v q → q ≡ m
  same_place u v m q n (Ok answer) l = l.1
  same_place u v m q n (Err (Aborted cause)) l = l.1
  same_place u v m q n (Err (Down k)) l = l.1
  same_place u v m q n (Err (Worn at)) l = l.1
  same_place u v m q n (Err Memory) l = l.1

  pub placed : (u v : Walker M S G) (n nth : ℕ) (op : Op) (p m q : SessionState) (r : Result Answer OpError) → PlacedBy n nth op p (answered_in r) m → LeavesIf (has_died r) sh u m n v q → PlacedBy n nth op p (answered_in r) q
  placed u v n nth op p m q r place l = subst (PlacedBy n nth op p (answered_in r)) (sym (same_place u v m q n r l)) place

  still : (u v : Walker M S G) (m q : SessionState) → IsActive sh u m → (v ≡ u) × (q ≡ m) → IsActive sh v q
  still u v m q a l = subst (λ z. IsActive sh z q) (sym l.0) (subst (IsActive sh u) (sym l.1) a)

  pub performed_stands : (u v : Walker M S G) (n : ℕ) (m q : SessionState) (r : Result Answer OpError) → StandsBy n sh u m (answered_in r) → LeavesIf (has_died r) sh u m n v q → StandsUnless (has_died r) sh v q
  performed_stands u v n m q (Ok answer) h l = still u v m q h l
  performed_stands u v n m q (Err (Down k)) h l = still u v m q h l
  performed_stands u v n m q (Err (Worn at)) h l = still u v m q h l
  performed_stands u v n m q (Err Memory) h l = still u v m q h l
  performed_stands u v n m q (Err (Aborted cause)) h l = left_ended sh u v m q n h.0.born h.1 l.0 l.1 l.2
