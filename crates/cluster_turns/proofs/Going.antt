-- Rounds one after another, and what they leave.
use Rattle.std.proofs.Common.{◌≡◌, ◌≢◌, ℕ, ◌<◌, Bool, true, List, [], ◌++◌, get_or, sym, ap, refl, ◌∙◌, subst, append-nil, append_assoc, get_or-set_same, get_or-set_other, Option, Some, Result, Ok, Err, length}
use Rattle.clv_base.specs.Journals.{History}
use Rattle.clv_base.specs.State.{Shard}
use Rattle.turn_lock.specs.declared.pass.Pass.{Pass}
use Rattle.machine_calls.specs.Settled.{is_settled}
use Rattle.machine_laws.specs.declared.notes.Note.{Note}
use Rattle.machine_laws.specs.declared.notes.Origin.{Origin}
use Rattle.machine_laws.specs.Homes.{IsLegal, entries_in}
use Rattle.history_replay.specs.Entries.{on_shard}
use Rattle.cluster_turns.specs.Turns.{SettledTold}
use Rattle.cluster_turns.specs.Walkers.{Walked, kept}
use Rattle.cluster_turns.specs.declared.flushing.Flushed.{Flushed}
use Rattle.cluster_turns.specs.declared.flushing.FlushError.{FlushError}
use Rattle.cluster_turns.specs.Told.{FlushTold, one_turn, two_turns}
use Rattle.cluster_turns.specs.declared.carrying.Carry.{Carry}
use Rattle.cluster_turns.specs.declared.carrying.CarryError.{CarryError}
use Rattle.cluster_turns.specs.Carried.{BringTold, is_lost, is_brought, CarryTold, none_sent, one_sent}
use Rattle.cluster_turns.specs.declared.tending.DrainError.{DrainError}
use Rattle.cluster_turns.specs.Rounds.{Rounds, no_turn, flushes, carries, reminds, looks, Refused, no_flush, no_message, no_reminder, CarriedAll, Tended, SettledAt}

module _ {T : Type 0} where
  -- rounds behind rounds
  pub then_rounds : {count w c0 c1 : ℕ} {b0 b1 : List (Option (Pass T Note Origin))} {c2 : ℕ} {b2 : List (Option (Pass T Note Origin))} → Rounds count w c0 b0 c1 b1 → Rounds count w c1 b1 c2 b2 → Rounds count w c0 b0 c2 b2
  then_rounds a no_turn = a
  then_rounds a (flushes n r c' after b l t) = flushes n r c' after (then_rounds a b) l t
  then_rounds a (carries n r c' after b l t) = carries n r c' after (then_rounds a b) l t
  then_rounds a (reminds n r c' after b l t) = reminds n r c' after (then_rounds a b) l t
  then_rounds a (looks n answer after b l t) = looks n answer after (then_rounds a b) l t

  pub then_refused : {count w c0 c1 : ℕ} {b0 b1 : List (Option (Pass T Note Origin))} {e : DrainError} {c2 : ℕ} {b2 : List (Option (Pass T Note Origin))} → Rounds count w c0 b0 c1 b1 → Refused count w c1 b1 e c2 b2 → Refused count w c0 b0 e c2 b2
  then_refused a (no_flush n e c' after b l t) = no_flush n e c' after (then_rounds a b) l t
  then_refused a (no_message n e c' after b l t) = no_message n e c' after (then_rounds a b) l t
  then_refused a (no_reminder n r e c' after b l t is) = no_reminder n r e c' after (then_rounds a b) l t is

  pub carried_ok : {count w c : ℕ} {before : List (Option (Pass T Note Origin))} (n : ℕ) (r : Result Unit CarryError) {c' : ℕ} {after : List (Option (Pass T Note Origin))} → ((e : CarryError) → r ≡ Err e → ⊥) → CarriedAll count w n c before r c' after
      → Rounds count w c before c' after
  carried_ok n (Ok u) fine h = h
  carried_ok n (Err e) fine h = absurd (fine e refl)

  pub tended_ok : {count w c : ℕ} {before : List (Option (Pass T Note Origin))} (r : Result Unit DrainError) {c' : ℕ} {after : List (Option (Pass T Note Origin))} → ((e : DrainError) → r ≡ Err e → ⊥) → Tended count w c before r c' after
      → Rounds count w c before c' after
  tended_ok (Ok u) fine h = h
  tended_ok (Err e) fine h = absurd (fine e refl)

  pub then_tended : {count w c0 c1 : ℕ} {b0 b1 : List (Option (Pass T Note Origin))} (r : Result Unit DrainError) (c2 : ℕ) (b2 : List (Option (Pass T Note Origin))) → Rounds count w c0 b0 c1 b1 → Tended count w c1 b1 r c2 b2 → Tended count w c0 b0 r c2 b2
  then_tended (Ok u) c2 b2 a h = then_rounds a h
  then_tended (Err e) c2 b2 a h = then_refused a h

  -- ---- what the walker keeps only grows

  abbrev pub Grows : List (Option (Pass T Note Origin)) → List (Option (Pass T Note Origin)) → Type 0
  Grows before after = (more : History) × (kept after ≡ kept before ++ more)

  stays : (ps : List (Option (Pass T Note Origin))) → Grows ps ps
  stays ps = ([], sym (append-nil (kept ps)))

  grows_on : (a b c : List (Option (Pass T Note Origin))) → Grows a b → Grows b c → Grows a c
  grows_on a b c x y = (x.0 ++ y.0, y.1 ∙ ap (λ h. h ++ y.0) x.1 ∙ append_assoc (kept a) x.0 y.0)

  walked_grows : {Told : Shard → Shard → List Note → Type 0} {n w : ℕ} {before after : List (Option (Pass T Note Origin))} → Walked Told n w before after → Grows before after
  walked_grows {Told} {n} h = (on_shard n (entries_in h.turned.added), h.kept_is)

  flush_grows : {n w c : ℕ} {before after : List (Option (Pass T Note Origin))} {r : Result Flushed FlushError} {c' : ℕ} → FlushTold n w c before r c' after → Grows before after
  flush_grows (one_turn r c' after stays_home h) = walked_grows h
  flush_grows {n} {w} {c} {before} (two_turns upto c1 c' pushed between after h k p) = grows_on before between after (walked_grows h) (walked_grows k)

  bring_grows : {count : ℕ} {m : _} {w c : ℕ} {before after : List (Option (Pass T Note Origin))} {r : Result Carry CarryError} {c' : ℕ} → BringTold count m w c before r c' after → Grows before after
  bring_grows {count} {m} {w} {c} {before} (is_lost l) = stays before
  bring_grows (is_brought r c' after l h) = walked_grows h

  carry_grows : {count n w c : ℕ} {before after : List (Option (Pass T Note Origin))} {r : Result Carry CarryError} {c' : ℕ} → CarryTold count n w c before r c' after → Grows before after
  carry_grows (none_sent r c' after unsent h) = walked_grows h
  carry_grows {count} {n} {w} {c} {before} (one_sent m c1 between r c' after h b) = grows_on before between after (walked_grows h) (bring_grows b)

  pub rounds_grow : {count w c : ℕ} {before after : List (Option (Pass T Note Origin))} {c' : ℕ} → Rounds count w c before c' after → Grows before after
  rounds_grow {count} {w} {c} {before} no_turn = stays before
  rounds_grow {count} {w} {c} {before} (flushes {between} n r c' after b l t) = grows_on before between after (rounds_grow b) (flush_grows t)
  rounds_grow {count} {w} {c} {before} (carries {between} n r c' after b l t) = grows_on before between after (rounds_grow b) (carry_grows t)
  rounds_grow {count} {w} {c} {before} (reminds {between} n r c' after b l t) = grows_on before between after (rounds_grow b) (walked_grows t)
  rounds_grow {count} {w} {c} {before} (looks {between} n answer after b l t) = grows_on before between after (rounds_grow b) (walked_grows t)

  pub refused_grows : {count w c : ℕ} {before after : List (Option (Pass T Note Origin))} {e : DrainError} {c' : ℕ} → Refused count w c before e c' after → Grows before after
  refused_grows {count} {w} {c} {before} (no_flush {between} n e c' after b l t) = grows_on before between after (rounds_grow b) (flush_grows t)
  refused_grows {count} {w} {c} {before} (no_message {between} n e c' after b l t) = grows_on before between after (rounds_grow b) (carry_grows t)
  refused_grows {count} {w} {c} {before} (no_reminder {between} n r e c' after b l t is) = grows_on before between after (rounds_grow b) (walked_grows t)

  -- ---- looks

  -- a look at one shard leaves what was seen of the others
  pub settled_still : {Told : Shard → Shard → List Note → Type 0} {n w : ℕ} {before after : List (Option (Pass T Note Origin))} → Walked Told n w before after → (m : ℕ) → m ≢ n → SettledAt m before → SettledAt m after
  settled_still {Told} {n} {w} {before} {after} h m other k = record {
    p = k.p;
    had = λ d. ap (λ ps. get_or ps m d) h.after_is ∙ get_or-set_other before n m (Some h.q) d other ∙ k.had d;
    origin = k.origin;
    has_origin = k.has_origin;
    s = k.s;
    s_is = k.s_is;
    settled = k.settled;
  }

  pub settled_here : {n w : ℕ} {before after : List (Option (Pass T Note Origin))} (answer : Bool) → Walked (SettledTold answer) n w before after → n < length before → answer ≡ true → SettledAt n after
  settled_here {n} {w} {before} {after} answer h low is =
      let t = h.turned in
      record {
        p = h.q;
        had = λ d. ap (λ ps. get_or ps n d) h.after_is ∙ get_or-set_same before n (Some h.q) d low;
        origin = t.origin;
        has_origin = t.origin_is ∙ t.has_origin;
        s = t.t;
        s_is = subst (λ ns. IsLegal t.origin ns t.t) (sym t.seen_is) t.t_is;
        settled = ap is_settled t.told.same ∙ sym t.told.answer_is ∙ is;
      }
