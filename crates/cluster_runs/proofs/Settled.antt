-- What a walker has seen settled stays seen.
use Rattle.std.proofs.Common.{◌≡◌, ◌∙◌, sym, ap, subst, ◌≢◌, ℕ, zero, suc, ◌<◌, ◌≤◌, true, List, [], ◌∷◌, ◌++◌, set, length, get_or, append_assoc, append-nil, get_or-set_same, get_or-set_other, Option, Some, None, Result, Ok, Err, arith}
use mathlib.Core.Logic.{dite}
use native.Mathlib.Decide.{ℕ_discrete}
use Rattle.clv_base.specs.State.{Shard}
use Rattle.turn_lock.specs.declared.pass.Pass.{Pass}
use Rattle.turn_lock.specs.Passes.{seen}
use Rattle.machine_calls.specs.Settled.{is_settled, are_inactive}
use Rattle.machine_laws.specs.declared.notes.Note.{Note}
use Rattle.machine_laws.specs.declared.notes.Origin.{Origin}
use Rattle.machine_laws.specs.Homes.{IsLegal, entries_in}
use Rattle.cluster_turns.specs.Dates.{latest, seen_by, last_seen}
use Rattle.cluster_turns.proofs.Laws.{state_last}
use Rattle.cluster_turns.specs.Turns.{Turned, SettledTold}
use Rattle.cluster_turns.specs.Walkers.{Walked}
use Rattle.cluster_turns.specs.declared.flushing.Flushed.{Flushed}
use Rattle.cluster_turns.specs.declared.flushing.FlushError.{FlushError}
use Rattle.cluster_turns.specs.Told.{FlushTold, one_turn, two_turns}
use Rattle.cluster_turns.specs.declared.carrying.Carry.{Carry}
use Rattle.cluster_turns.specs.declared.carrying.CarryError.{CarryError}
use Rattle.cluster_turns.specs.Carried.{BringTold, is_lost, is_brought, CarryTold, none_sent, one_sent}
use Rattle.cluster_turns.specs.declared.tending.DrainError.{DrainError}
use Rattle.cluster_turns.specs.Rounds.{SettledAt, Rounds, no_turn, flushes, carries, reminds, looks, Refused, no_flush, no_message, no_reminder, DrainTold}
use Rattle.cluster_closing.proofs.Laws.{inside, some_inj}
use Rattle.std.proofs.lemmas.Bool.{and_parts}
use Rattle.cluster_runs.specs.declared.draining.Sight.{Sight}
use Rattle.cluster_runs.specs.Drained.{LookTold, HasSeenSettled, QuietAt, WasSettled}

module _ {T : Type 0} where
  turned_settled : {Told : Shard → Shard → List Note → Type 0} {w : ℕ} (clock : ℕ) (p q : Pass T Note Origin) → Turned Told w p q → HasSeenSettled clock p → HasSeenSettled clock q
  turned_settled clock p q t k = record {
    origin = k.origin;
    has_origin = t.origin_is ∙ k.has_origin;
    first = k.first;
    later = (k.later ++ t.found.0) ++ t.added;
    seen_is = t.seen_is ∙ ap (λ ns. ns ++ t.added) (t.found.1 ∙ ap (λ ns. ns ++ t.found.0) k.seen_is ∙ append_assoc k.first k.later t.found.0) ∙ append_assoc k.first (k.later ++ t.found.0) t.added;
    s = k.s;
    s_is = k.s_is;
    settled = k.settled;
    early = k.early;
  }

  pub walked_settled : {Told : Shard → Shard → List Note → Type 0} {m w : ℕ} {before after : List (Option (Pass T Note Origin))} (n clock : ℕ) → Walked Told m w before after → WasSettled n clock before → WasSettled n clock after
  walked_settled {Told} {m} {w} {before} {after} n clock h (x, at, k) = dite (ℕ_discrete n m)
      (λ here. (
        h.q,
        λ d. ap (λ z. get_or z n d) h.after_is ∙ ap (λ (j : ℕ). get_or (set before m (Some h.q)) j d) here ∙ get_or-set_same before m (Some h.q) d (inside before m h.p h.had),
        turned_settled clock h.p h.q h.turned (subst (HasSeenSettled clock) (some_inj x h.p (sym (at None) ∙ ap (λ (j : ℕ). get_or before j None) here ∙ h.had None)) k),
      ))
      (λ other. (x, λ d. ap (λ z. get_or z n d) h.after_is ∙ get_or-set_other before m n (Some h.q) d other ∙ at d, k))

  flushed_settled : {m w c : ℕ} {before after : List (Option (Pass T Note Origin))} {r : Result Flushed FlushError} {c' : ℕ} (n clock : ℕ) → FlushTold m w c before r c' after → WasSettled n clock before → WasSettled n clock after
  flushed_settled n clock (one_turn r c' after stays h) k = walked_settled n clock h k
  flushed_settled n clock (two_turns upto c1 c' pushed between after h l p) k = walked_settled n clock l (walked_settled n clock h k)

  brought_settled : {count : ℕ} {m : _} {w c : ℕ} {before after : List (Option (Pass T Note Origin))} {r : Result Carry CarryError} {c' : ℕ} (n clock : ℕ) → BringTold count m w c before r c' after → WasSettled n clock before → WasSettled n clock after
  brought_settled n clock (is_lost l) k = k
  brought_settled n clock (is_brought r c' after l h) k = walked_settled n clock h k

  carried_settled : {count m w c : ℕ} {before after : List (Option (Pass T Note Origin))} {r : Result Carry CarryError} {c' : ℕ} (n clock : ℕ) → CarryTold count m w c before r c' after → WasSettled n clock before → WasSettled n clock after
  carried_settled n clock (none_sent r c' after unsent h) k = walked_settled n clock h k
  carried_settled n clock (one_sent m c1 between r c' after h b) k = brought_settled n clock b (walked_settled n clock h k)

  rounds_settled : {count w c : ℕ} {before after : List (Option (Pass T Note Origin))} {c' : ℕ} (n clock : ℕ) → Rounds count w c before c' after → WasSettled n clock before → WasSettled n clock after
  rounds_settled n clock no_turn k = k
  rounds_settled n clock (flushes m r c' after b l t) k = flushed_settled n clock t (rounds_settled n clock b k)
  rounds_settled n clock (carries m r c' after b l t) k = carried_settled n clock t (rounds_settled n clock b k)
  rounds_settled n clock (reminds m r c' after b l t) k = walked_settled n clock t (rounds_settled n clock b k)
  rounds_settled n clock (looks m answer after b l t) k = walked_settled n clock t (rounds_settled n clock b k)

  refused_settled : {count w c : ℕ} {before after : List (Option (Pass T Note Origin))} {e : DrainError} {c' : ℕ} (n clock : ℕ) → Refused count w c before e c' after → WasSettled n clock before → WasSettled n clock after
  refused_settled n clock (no_flush m e c' after b l t) k = flushed_settled n clock t (rounds_settled n clock b k)
  refused_settled n clock (no_message m e c' after b l t) k = carried_settled n clock t (rounds_settled n clock b k)
  refused_settled n clock (no_reminder m r e c' after b l t is) k = walked_settled n clock t (rounds_settled n clock b k)

  pub drain_settled : (count w c : ℕ) (before after : List (Option (Pass T Note Origin))) (r : Result Unit DrainError) (c' n clock : ℕ) → DrainTold count w c before r c' after → WasSettled n clock before → WasSettled n clock after
  drain_settled count w c before after (Ok u) c' n clock t k = rounds_settled n clock t.0 k
  drain_settled count w c before after (Err e) c' n clock t k = refused_settled n clock t k

  -- ---- a look

  pub as_look : {n w : ℕ} {before after : List (Option (Pass T Note Origin))} (sight : Sight) → Walked (LookTold sight) n w before after → Walked (SettledTold sight.settled) n w before after
  as_look sight h = let t = h.turned in record {
    p = h.p;
    q = h.q;
    had = h.had;
    turned = record {
      origin = t.origin;
      has_origin = t.has_origin;
      before = t.before;
      added = t.added;
      s = t.s;
      t = t.t;
      s_is = t.s_is;
      t_is = t.t_is;
      told = t.told.settled;
      found = t.found;
      seen_is = t.seen_is;
      own_is = t.own_is;
      number_is = t.number_is;
      origin_is = t.origin_is;
      known_rises = t.known_rises;
    };
    after_is = h.after_is;
    kept_is = h.kept_is;
  }

  -- the stamps that a pass has seen are among those that its walker has
  seen_among : (n : ℕ) (ps : List (Option (Pass T Note Origin))) (p : Pass T Note Origin) → ((d : Option (Pass T Note Origin)) → get_or ps n d ≡ Some p) → latest (entries_in (seen p)) ≤ last_seen ps
  seen_among n [] p had = absurd (let k : None ≡ Some p = had None in cc)
  seen_among zero (x ∷ xs) p had = let e : seen_by x ≡ latest (entries_in (seen p)) = ap seen_by (had None) in omega arith
  seen_among (suc n) (x ∷ xs) p had = let r = seen_among n xs p had in omega arith

  -- its last stamp is among those that the walker has seen then
  pub looked_last : {n w : ℕ} {before after : List (Option (Pass T Note Origin))} (sight : Sight) → Walked (LookTold sight) n w before after → sight.last ≤ last_seen after
  looked_last {n} {w} {before} {after} sight h =
      let t = h.turned in
      let is = t.told.last_is in
      let low = state_last t.origin (t.before ++ t.added) t.t t.t_is in
      let now = ap (λ l. latest (entries_in l)) t.seen_is in
      let among = seen_among n after h.q (λ d. ap (λ ps. get_or ps n d) h.after_is ∙ get_or-set_same before n (Some h.q) d (inside before n h.p h.had)) in
      omega arith

  pub seen_settled : {n w : ℕ} {before after : List (Option (Pass T Note Origin))} (sight : Sight) (most : ℕ) → Walked (LookTold sight) n w before after → sight.settled ≡ true → sight.last ≤ most → WasSettled n most after
  seen_settled {n} {w} {before} {after} sight most h is low =
      let t = h.turned in (
        h.q,
        λ d. ap (λ ps. get_or ps n d) h.after_is ∙ get_or-set_same before n (Some h.q) d (inside before n h.p h.had),
        record {
          origin = t.origin;
          has_origin = t.origin_is ∙ t.has_origin;
          first = t.before ++ t.added;
          later = [];
          seen_is = t.seen_is ∙ sym (append-nil (t.before ++ t.added));
          s = t.t;
          s_is = t.t_is;
          settled = ap is_settled t.told.settled.same ∙ sym t.told.settled.answer_is ∙ is;
          early = (let l = t.told.last_is in omega arith);
        },
      )

  pub settled_later : (n clock clock' : ℕ) (passes : List (Option (Pass T Note Origin))) → clock ≤ clock' → WasSettled n clock passes → WasSettled n clock' passes
  settled_later n clock clock' passes low (p, had, k) = (
    p,
    had,
    record {
      origin = k.origin;
      has_origin = k.has_origin;
      first = k.first;
      later = k.later;
      seen_is = k.seen_is;
      s = k.s;
      s_is = k.s_is;
      settled = k.settled;
      early = (let e = k.early in omega arith);
    },
  )

  -- ---- a look that finds nothing active either

  -- a look at one shard leaves what was seen of the others
  pub quiet_still : {Told : Shard → Shard → List Note → Type 0} {n w : ℕ} {before after : List (Option (Pass T Note Origin))} → Walked Told n w before after → (m : ℕ) → m ≢ n → QuietAt m before → QuietAt m after
  quiet_still {Told} {n} {w} {before} {after} h m other k = record {
    p = k.p;
    had = λ d. ap (λ ps. get_or ps m d) h.after_is ∙ get_or-set_other before n m (Some h.q) d other ∙ k.had d;
    origin = k.origin;
    has_origin = k.has_origin;
    s = k.s;
    s_is = k.s_is;
    quiet = k.quiet;
  }

  pub quiet_here : {n w : ℕ} {before after : List (Option (Pass T Note Origin))} (sight : Sight) → Walked (LookTold sight) n w before after → n < length before → sight.quiet ≡ true → QuietAt n after
  quiet_here {n} {w} {before} {after} sight h low is =
      let t = h.turned in
      record {
        p = h.q;
        had = λ d. ap (λ ps. get_or ps n d) h.after_is ∙ get_or-set_same before n (Some h.q) d low;
        origin = t.origin;
        has_origin = t.origin_is ∙ t.has_origin;
        s = t.t;
        s_is = subst (λ ns. IsLegal t.origin ns t.t) (sym t.seen_is) t.t_is;
        quiet = sym t.told.quiet_is ∙ is;
      }

  -- who is quiet is settled
  pub settles : (n : ℕ) (passes : List (Option (Pass T Note Origin))) → QuietAt n passes → SettledAt n passes
  settles n passes k = record {
    p = k.p;
    had = k.had;
    origin = k.origin;
    has_origin = k.has_origin;
    s = k.s;
    s_is = k.s_is;
    settled = (and_parts (is_settled k.s) (are_inactive ((k.s).local).parts) k.quiet).0;
  }
