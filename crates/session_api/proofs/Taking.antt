-- What a walker's turns keep: a shard that it saw down, and that it has no disk.
use Rattle.std.proofs.Common.{◌≡◌, ◌∙◌, sym, ap, subst, ℕ, List, [], ◌++◌, append_assoc, append-nil, get_or, set, get_or-set_same, get_or-set_other, Option, Some, None, arith}
use mathlib.Core.Logic.{dite}
use native.Mathlib.Decide.{ℕ_discrete}
use Rattle.clv_base.specs.State.{Shard}
use Rattle.turn_lock.specs.declared.pass.Pass.{Pass}
use Rattle.turn_lock.specs.Passes.{seen, pass_origin}
use Rattle.machine_laws.specs.declared.notes.Note.{Note}
use Rattle.machine_laws.specs.declared.notes.Origin.{Origin}
use Rattle.cluster_turns.specs.declared.shards.Shards.{Shards}
use Rattle.cluster_turns.specs.declared.shards.Walker.{Walker}
use Rattle.cluster_turns.specs.Turns.{Turned}
use Rattle.cluster_turns.specs.Walkers.{Walked, Looked, IsSameWalker}
use Rattle.cluster_closing.proofs.Laws.{inside, some_inj}
use Rattle.cluster_closing.specs.Held.{HoldsNone, FetchedNone}
use Rattle.cluster_closing.proofs.Laws.{turns_hold_none, turns_fetch_none}
use Rattle.cluster_turns.specs.CallTurns.{Turn, Took, no_turn, event_turn, flush_turns, horizon_look, FoundDown}
use Rattle.cluster_turns.proofs.Laws.{clock_rises, down_is_seen}
use Rattle.script_runs.specs.declared.ends.StopCause.{StopCause}
use Rattle.script_runs.specs.declared.ends.StopCause.TheVariants.{Down, Unsettled, Worn, Memory}
use Rattle.session_api.specs.declared.progress.Progress.{Progress}
use Rattle.session_api.specs.Sessions.{IsSession}
use Rattle.session_api.specs.Standing.{Holds}
use Rattle.script_runs.specs.Seen.{Keeps}
use Rattle.session_api.specs.Grounds.{HasSeenDown, WasDown, Grounds, further, HasMissedBy, HasMissed}

-- ---- a shard that was seen down

module _ {T : Type 0} where
  -- what was seen first is so still, whatever was seen since
  seen_later : {p q : Pass T Note Origin} (more : List Note) → seen q ≡ seen p ++ more → pass_origin q ≡ pass_origin p → HasSeenDown p → HasSeenDown q
  seen_later more seen_is origin_is h = record {
    origin = h.origin;
    has_origin = origin_is ∙ h.has_origin;
    first = h.first;
    later = h.later ++ more;
    seen_is = seen_is ∙ ap (λ l. l ++ more) h.seen_is ∙ append_assoc h.first h.later more;
    down = h.down;
  }

  turned_down : {Told : Shard → Shard → List Note → Type 0} {w : ℕ} {p q : Pass T Note Origin} → Turned Told w p q → HasSeenDown p → HasSeenDown q
  turned_down {Told} {w} {p} t h = seen_later (t.found.0 ++ t.added) (t.seen_is ∙ ap (λ l. l ++ t.added) t.found.1 ∙ append_assoc (seen p) t.found.0 t.added) t.origin_is h

  looked_down : {n horizon : ℕ} {before after : List (Option (Pass T Note Origin))} (l : Looked n before horizon after) → HasSeenDown l.p → HasSeenDown l.q
  looked_down l h = seen_later [] (l.same.2 ∙ sym (append-nil (seen l.p))) l.same.0 h

  -- the pass of shard m is replaced
  replaced : (n m : ℕ) (before after : List (Option (Pass T Note Origin))) (p q : Pass T Note Origin) → ((d : Option (Pass T Note Origin)) → get_or before m d ≡ Some p) → after ≡ set before m (Some q) → (HasSeenDown p → HasSeenDown q) → WasDown n before → WasDown n after
  replaced n m before after p q had is step (x, at, down) = dite (ℕ_discrete n m)
      (λ here. (
        q,
        λ d. ap (λ z. get_or z n d) is ∙ ap (λ (j : ℕ). get_or (set before m (Some q)) j d) here ∙ get_or-set_same before m (Some q) d (inside before m p had),
        step (subst HasSeenDown (some_inj x p (sym (at None) ∙ ap (λ (j : ℕ). get_or before j None) here ∙ had None)) down),
      ))
      (λ other. (x, λ d. ap (λ z. get_or z n d) is ∙ get_or-set_other before m n (Some q) d other ∙ at d, down))

  walked_down : (n m w : ℕ) (Told : Shard → Shard → List Note → Type 0) (before after : List (Option (Pass T Note Origin))) → Walked Told m w before after → WasDown n before → WasDown n after
  walked_down n m w Told before after h k = replaced n m before after h.p h.q h.had h.after_is (turned_down h.turned) k

  pub down_stays : (n w c d : ℕ) (ps qs : List (Option (Pass T Note Origin))) (ts : List Turn) → Took w c ps ts d qs → WasDown n ps → WasDown n qs
  down_stays n w _ _ _ _ _ (no_turn clock ps) k = k
  down_stays n w _ _ _ _ _ (event_turn clock c clock' ps qs rs t ts walked made stays h) k = down_stays n w c clock' qs rs ts h (walked_down n t.shard w _ ps qs walked k)
  down_stays n w _ _ _ _ _ (flush_turns clock c d clock' upto pushed ps ms qs rs t u ts out back is answer made same lands landed entered known h) k =
      down_stays n w d clock' qs rs ts h (walked_down n t.shard w _ ms qs back (walked_down n t.shard w _ ps ms out k))
  down_stays n w _ _ _ _ _ (horizon_look clock clock' m horizon ps qs rs ts looked h) k = down_stays n w clock clock' qs rs ts h (replaced n m ps qs looked.p looked.q looked.had looked.after_is (looked_down looked) k)

  pub found_down : (n w c d : ℕ) (ps qs : List (Option (Pass T Note Origin))) (ts : List Turn) → Took w c ps ts d qs → FoundDown n ts → WasDown n qs
  found_down n w c d ps qs ts took found =
      let s = down_is_seen n w c d ps qs ts took found in
      down_stays n w s.clock d s.passes qs s.rest s.takes (
        (s.sees).p,
        (s.sees).had,
        record {
          origin = (s.sees).origin;
          has_origin = (s.sees).has_origin;
          first = seen (s.sees).p;
          later = [];
          seen_is = sym (append-nil (seen (s.sees).p));
          down = (s.sees).down;
        },
      )

module _ {M S G : Type 0} where
  -- grounds stay
  pub grounds_stay : (w v : Walker M S G) (ts : List Turn) → Took w.number w.clock w.passes.items ts v.clock v.passes.items → (cause : StopCause) → Grounds w cause → Grounds v cause
  grounds_stay w v ts took (Down n) g = down_stays n w.number w.clock v.clock w.passes.items v.passes.items ts took g
  grounds_stay w v ts took (Unsettled n) g = down_stays n w.number w.clock v.clock w.passes.items v.passes.items ts took g
  grounds_stay w v ts took (Worn at) g = (g.0, (let c = clock_rises w.number w.clock v.clock w.passes.items v.passes.items ts took in let l = g.1 in omega arith))
  grounds_stay w v ts took Memory g = tt

module _ {M S G : Type 0} where
  -- and what a drop came to
  pub missed_stays : (w v : Walker M S G) (ts : List Turn) → IsSameWalker w v → Took w.number w.clock w.passes.items ts v.clock v.passes.items → Keeps (HasMissed w) (HasMissed v)
  missed_stays w v ts same took tx n es h =
      subst (λ k. HasMissedBy k v.passes.items tx n es) (sym same.0)
      (record {
        before = h.before;
        after = h.after;
        clock = h.clock;
        clock_after = h.clock_after;
        turns = h.turns;
        entries = h.entries;
        took = h.took;
        vain = h.vain;
        later = further w.passes.items v.passes.items w.clock v.clock ts h.later took;
      })

  pub missed_same : (w v : Walker M S G) → v.number ≡ w.number → v.passes.items ≡ w.passes.items → Keeps (HasMissed w) (HasMissed v)
  missed_same w v number passes tx n es h = subst (λ k. HasMissedBy k v.passes.items tx n es) (sym number) (subst (λ ps. HasMissedBy w.number ps tx n es) (sym passes) h)

-- ---- the session after a call

module _ {M S G : Type 0} (sh : Shards M S G) where
  pub record HoldsOn (w : Walker M S G) (after : Shards M S G) (v : Walker M S G) (t : Progress) : Type 0 where
    pub holds : Holds after v t
    pub misses : Keeps (HasMissed w) (HasMissed v)

  -- turns take no disk
  pub held_after : (w v : Walker M S G) (s t : Progress) (ts : List Turn) → Holds sh w s → IsSession sh v t → IsSameWalker w v → Took w.number w.clock w.passes.items ts v.clock v.passes.items → HoldsOn w sh v t
  held_after w v s t ts h session same took = record {
    holds = record {
      session = session;
      splits = h.splits;
      fetched = turns_fetch_none w.number w.clock v.clock w.passes.items v.passes.items ts took h.fetched;
      disks = subst (λ k. HoldsNone k v.passes.items) (sym same.0) (turns_hold_none None w.number w.clock v.clock w.passes.items v.passes.items ts took h.disks);
    };
    misses = missed_stays w v ts same took;
  }

  -- nor does a call without a turn
  pub held_so : (w v : Walker M S G) (s t : Progress) → Holds sh w s → IsSession sh v t → v.number ≡ w.number → v.passes.items ≡ w.passes.items → HoldsOn w sh v t
  held_so w v s t h session number passes = record {
    holds = record {
      session = session;
      splits = h.splits;
      fetched = subst FetchedNone (sym passes) h.fetched;
      disks = subst (λ k. HoldsNone k v.passes.items) (sym number) (subst (HoldsNone w.number) (sym passes) h.disks);
    };
    misses = missed_same w v number passes;
  }
