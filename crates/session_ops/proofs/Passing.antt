-- What a round leaves of a session.
use Rattle.std.proofs.Common.{◌≡◌, ◌∙◌, refl, sym, ap, subst, ℕ, ◌≤◌, ◌==◌, true, false, inr, List, [], ◌∷◌, ◌++◌, append_assoc, append-nil, Option, Some, None, arith}
use Rattle.std.specs.List.{AllByRecursion}
use Rattle.std.specs.Map.{lookup}
use Rattle.std.proofs.lemmas.Bool.{both_ways}
use Rattle.clv_base.specs.declared.names.TxId.{TxId}
use Rattle.clv_base.specs.declared.names.Birth.{Birth}
use Rattle.clv_base.specs.declared.events.Event.{Event}
use Rattle.clv_base.specs.declared.events.Event.TheVariants.{Op, RollTo, Request, Look, Drop, Send, Deliver, Remind, FlushOut, FlushIn, Stop, Restart}
use Rattle.clv_base.specs.declared.events.Entry.{Entry}
use Rattle.clv_base.specs.Journals.{History}
use Rattle.clv_base.specs.Sessions.{SessionState, is_of_session, is_session_number}
use Rattle.journal_laws.specs.Births.{LeavesBirth}
use Rattle.cluster_turns.specs.declared.shards.Shards.{Shards}
use Rattle.cluster_turns.specs.declared.shards.Walker.{Walker}
use Rattle.cluster_turns.specs.Walkers.{IsWalker, IsSameWalker, kept}
use Rattle.cluster_turns.specs.States.{session_of}
use Rattle.cluster_turns.proofs.Laws.{states_go_on, others_leave_states}
use Rattle.cluster_turns.specs.CallTurns.{Turn, Took, IsMadeBy, entry_on, entries_made, AreOthers}
use Rattle.cluster_turns.proofs.Laws.{kept_grows, entries_are_made, clock_rises}
use Rattle.cluster_turns.specs.Births.{IsBornBy}
use Rattle.cluster_turns.specs.Unborn.{AllLeaveUnborn}
use Rattle.cluster_turns.proofs.Laws.{informed_stay, free_stays, unless_stays, reached_stays}
use Rattle.session_ops.specs.Standing.{IsOld, IsReady, HasBirth, IsActive}

pub other_leaves : (tx : TxId) (birth : Birth) (e : Event) → is_of_session e ≡ false → LeavesBirth tx birth e
other_leaves tx birth (Op u b nth seen op) h = absurd (both_ways true h refl)
other_leaves tx birth (RollTo u nth seen upto) h = absurd (both_ways true h refl)
other_leaves tx birth (Request u ts) h = tt
other_leaves tx birth (Look u) h = tt
other_leaves tx birth (Drop u) h = tt
other_leaves tx birth Send h = tt
other_leaves tx birth (Deliver m stamp) h = tt
other_leaves tx birth Remind h = tt
other_leaves tx birth FlushOut h = tt
other_leaves tx birth FlushIn h = tt
other_leaves tx birth Stop h = tt
other_leaves tx birth Restart h = tt

pub other_born : (clock : ℕ) (e : Event) → is_of_session e ≡ false → IsBornBy clock e
other_born clock (Op u b nth seen op) h = absurd (both_ways true h refl)
other_born clock (RollTo u nth seen upto) h = absurd (both_ways true h refl)
other_born clock (Request u ts) h = tt
other_born clock (Look u) h = tt
other_born clock (Drop u) h = tt
other_born clock Send h = tt
other_born clock (Deliver m stamp) h = tt
other_born clock Remind h = tt
other_born clock FlushOut h = tt
other_born clock FlushIn h = tt
other_born clock Stop h = tt
other_born clock Restart h = tt

pub all_leave : (tx : TxId) (birth : Birth) (ts : List Turn) → AreOthers ts → AllByRecursion (λ t. LeavesBirth tx birth t.event) ts
all_leave tx birth [] h = tt
all_leave tx birth (t ∷ ts) h = (other_leaves tx birth t.event h.0, all_leave tx birth ts h.1)

pub all_unborn : (m : ℕ) (birth : Birth) (ts : List Turn) → AreOthers ts → AllLeaveUnborn m birth ts
all_unborn m birth [] h = tt
all_unborn m birth (t ∷ ts) h = ((λ here. inr (λ tx. other_leaves tx birth t.event h.0)), all_unborn m birth ts h.1)

pub all_born : (clock : ℕ) (ts : List Turn) → AreOthers ts → AllByRecursion (λ t. IsBornBy clock t.event) ts
all_born clock [] h = tt
all_born clock (t ∷ ts) h = (other_born clock t.event h.0, all_born clock ts h.1)

-- entries of others leave the session's state
pub state_stays : (splits : List ℕ) (run w : ℕ) (es : History) (s : SessionState) (ts : List Turn) → AreOthers ts → AllByRecursion (IsMadeBy w) ts → session_of splits run w es ≡ Some s → session_of splits run w (es ++ entries_made ts) ≡ Some s
state_stays splits run w es s [] o m h = ap (session_of splits run w) (append-nil es) ∙ h
state_stays splits run w es s (t ∷ ts) o m h = at t.made refl (λ fs k. state_stays splits run w fs s ts o.1 m.1 k)
  where
    at : (made : Option Entry) → t.made ≡ made → ((fs : History) → session_of splits run w fs ≡ Some s → session_of splits run w (fs ++ entries_made ts) ≡ Some s) → session_of splits run w (es ++ (entry_on t.shard made ++ entries_made ts)) ≡ Some s
    at None is rest = rest es h
    at (Some x) is rest =
        let one = states_go_on splits run w es s (t.shard, x) h ∙ others_leave_states splits t.shard s x.event x.outcome (ap is_of_session (m.0 x is).1 ∙ o.0) in
        ap (session_of splits run w) (sym (append_assoc es ((t.shard, x) ∷ []) (entries_made ts))) ∙ rest (es ++ (t.shard, x) ∷ []) one

module _ {M S G : Type 0} (sh : Shards M S G) (w v : Walker M S G) where
  pub still_ready : (t : SessionState) (ts : List Turn) → Took w.number w.clock w.passes.items ts v.clock v.passes.items → AreOthers ts → IsWalker sh v → IsSameWalker w v → IsReady sh w t → IsReady sh v t
  still_ready t ts took others is_walker same a =
      let l = clock_rises w.number w.clock v.clock w.passes.items v.passes.items ts took in
      record {
        walker = is_walker;
        number = subst (λ k. is_session_number k ≡ true) (sym same.0) a.number;
        state = subst (λ k. session_of sh.splits sh.run k (kept v.passes.items) ≡ Some t) (sym same.0)
            (ap (session_of sh.splits sh.run w.number) (kept_grows w.number w.clock v.clock w.passes.items v.passes.items ts took)
            ∙ state_stays sh.splits sh.run w.number (kept w.passes.items) t ts others (entries_are_made w.number w.clock v.clock w.passes.items v.passes.items ts took) a.state);
        serial = (let s = same.1 in let h = a.serial in omega arith);
        old = later l t.birth a.old;
        informed = subst (λ k. Rattle.cluster_turns.specs.Births.AreInformed k v.clock v.passes.items) (sym same.0)
            (informed_stay w.number w.clock v.clock w.passes.items v.passes.items ts took (all_born w.clock ts others) a.informed);
      }
    where
      later : w.clock ≤ v.clock → (b : Option Birth) → IsOld w.clock b → IsOld v.clock b
      later l None h = tt
      later l (Some b) h = omega arith

  pub still_born : (p : SessionState) (ts : List Turn) → Took w.number w.clock w.passes.items ts v.clock v.passes.items → AreOthers ts → IsSameWalker w v → HasBirth w p → HasBirth v p
  still_born p ts took others same b =
      let l = clock_rises w.number w.clock v.clock w.passes.items v.passes.items ts took in
      record {
        birth = b.birth;
        is = b.is;
        bears = b.bears ∙ sym same.0;
        old = (let o = b.old in omega arith);
        free = free_stays w.number w.clock v.clock w.passes.items v.passes.items ts p.tx b.birth took b.bears (all_leave p.tx b.birth ts others) b.free;
        parts = λ m. unless_stays m w.number w.clock v.clock w.passes.items v.passes.items ts (lookup (◌==◌ m) p.touched) b.birth took b.bears (all_unborn m b.birth ts others) (b.parts m);
        reached = λ m epoch h. reached_stays m w.number w.clock v.clock epoch w.passes.items v.passes.items ts took (b.reached m epoch h);
      }

  pub still_active : (p : SessionState) (ts : List Turn) → Took w.number w.clock w.passes.items ts v.clock v.passes.items → AreOthers ts → IsWalker sh v → IsSameWalker w v → IsActive sh w p → IsActive sh v p
  still_active p ts took others is_walker same a =
      let l = clock_rises w.number w.clock v.clock w.passes.items v.passes.items ts took in
      record {
        state = a.state;
        ready = still_ready a.state ts took others is_walker same a.ready;
        goes = a.goes;
        touching = a.touching;
        born = still_born p ts took others same a.born;
        serial = (let s = same.1 in let h = a.serial in omega arith);
        spelled = a.spelled;
        counted = (let h = a.counted in omega arith);
        few = a.few;
      }
