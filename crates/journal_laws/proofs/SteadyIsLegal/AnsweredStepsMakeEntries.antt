-- A step that is answered by an entry makes it.
use Rattle.std.proofs.Common.{◌≡◌, refl, sym, ap, subst, ◌∙◌, ℕ, ◌<◌, true, false, Bool, Option, Some, None, nat_lt, arith}
use Rattle.std.specs.Prelude.{◌^◌}
use Rattle.std.proofs.lemmas.Bool.{both_ways, ltb-true, not-true}
use Rattle.clv_base.specs.declared.events.Event.{Event}
use Rattle.clv_base.specs.declared.events.Event.TheVariants.{Op, FlushIn, Restart}
use Rattle.clv_base.specs.declared.events.Outcome.{Outcome}
use Rattle.clv_base.specs.declared.events.Outcome.TheVariants.{Durable, Failed, Up, Nothing, Down}
use Rattle.clv_base.specs.declared.events.CoreStep.{CoreStep}
use Rattle.clv_base.specs.State.{Shard}
use Rattle.clv_base.specs.Events.{Reply, QuietBeforeWorn, QuietAfterWorn, Does, Quiet, Worn, Enters, finish, happen, landed, put_down, with_durable, next_stamp, with_entry, stamped, step, land_up}
use Rattle.clv_base.specs.Restarts.{log_left, log_after_restart, next_epoch, revived, revive_down, untouched}
use Rattle.clv_base.specs.Journals.{has_equal_active_birth, has_no_equal_active_birth, stamp_bound}
use Rattle.clv_base.specs.Core.{answer_by, entry_of}
use Rattle.history_cases.proofs.Durability.{framed_finish}
use Rattle.clv_base.specs.Machines.{BecomesBy, Makes}
use Rattle.law_base.proofs.Shards.{does_after, does_outcome, same_after, same_outcome}

-- ---- an answer with a stamp

quiet_enters : {X : Type 0} {p o : Outcome} {t : Shard} → Quiet p ≡ Enters o t → X
quiet_enters h = cc

worn_enters : {X : Type 0} {o : Outcome} {t : Shard} → Worn ≡ Enters o t → X
worn_enters h = cc

pub record Entered (stamp walker : ℕ) (e : Event) (room : Bool) (r : Reply) (o : Outcome) (t : Shard) : Type 0 where
  pub after : Shard
  pub reply : r ≡ Does o after
  pub is : t ≡ with_entry stamp walker e o after
  pub had_room : room ≡ true

entered : (stamp walker : ℕ) (e : Event) (room : Bool) (r : Reply) (o : Outcome) (t : Shard) → stamped stamp walker e room r ≡ Enters o t → Entered stamp walker e room r o t
entered stamp walker e room (QuietBeforeWorn p) o t h = quiet_enters h
entered stamp walker e false (QuietAfterWorn p) o t h = worn_enters h
entered stamp walker e true (QuietAfterWorn p) o t h = quiet_enters h
entered stamp walker e false (Does p u) o t h = worn_enters h
entered stamp walker e true (Does p u) o t h =
    let q = same_outcome h in
    record { after = u; reply = ap (λ x. Does x u) q; is = sym (same_after h) ∙ ap (λ x. with_entry stamp walker e x u) q; had_room = refl }

-- ---- what it becomes by

-- an answer of the shard, and where its stamp is bounded by the test
pub record Answers (s : Shard) (clock walker : ℕ) (e : Event) (o : Outcome) (t : Shard) : Type 0 where
  pub after : Shard
  pub becomes : BecomesBy s e o after
  pub is : t ≡ with_entry (next_stamp s clock e) walker e o after

by_step : (s : Shard) (clock walker : ℕ) (e : Event) (o : Outcome) (t : Shard) → step s clock walker e ≡ Enters o t → Entered (next_stamp s clock e) walker e (nat_lt (next_stamp s clock e) (2 ^ 48)) (happen s e) o t
by_step s clock walker e o t h = entered (next_stamp s clock e) walker e (nat_lt (next_stamp s clock e) (2 ^ 48)) (happen s e) o t h

lands_by : (s : Shard) (clock walker n : ℕ) (kept : Bool) (o : Outcome) (t : Shard) → s.is_up ≡ true → s.flight ≡ Some n → Entered (next_stamp s clock FlushIn) walker FlushIn true (landed s n kept) o t → Answers s clock walker FlushIn o t
lands_by s clock walker n true o t u f h =
    let p = does_outcome h.reply in
    let b : BecomesBy s FlushIn (Durable n) (finish (with_durable n s)) = (u, f, refl) in
    record { after = h.after; becomes = subst (λ x. BecomesBy s FlushIn x h.after) p (subst (BecomesBy s FlushIn (Durable n)) (does_after h.reply) b); is = h.is }
lands_by s clock walker n false o t u f h =
    let p = does_outcome h.reply in
    let b : BecomesBy s FlushIn Failed (put_down s) = (u, (n, f), refl) in
    record { after = h.after; becomes = subst (λ x. BecomesBy s FlushIn x h.after) p (subst (BecomesBy s FlushIn Failed) (does_after h.reply) b); is = h.is }

lands_up : (s : Shard) (clock walker : ℕ) (kept : Bool) (f : Option ℕ) (o : Outcome) (t : Shard) → s.is_up ≡ true → s.flight ≡ f → land_up s clock walker kept f ≡ Enters o t → Answers s clock walker FlushIn o t
lands_up s clock walker kept None o t u g h = quiet_enters h
lands_up s clock walker kept (Some n) o t u g h = lands_by s clock walker n kept o t u g (entered (next_stamp s clock FlushIn) walker FlushIn true (landed s n kept) o t h)

lands : (s : Shard) (clock walker : ℕ) (kept up : Bool) (o : Outcome) (t : Shard) → s.is_up ≡ up → elim up [ true ↦ land_up s clock walker kept s.flight | false ↦ Quiet Down ] ≡ Enters o t
    → Answers s clock walker FlushIn o t
lands s clock walker kept true o t u h = lands_up s clock walker kept s.flight o t u refl h
lands s clock walker kept false o t u h = quiet_enters h

revives : (s : Shard) (clock walker : ℕ) (kept up : Bool) (o : Outcome) (t : Shard) → s.is_up ≡ up → elim up [ true ↦ Quiet Nothing | false ↦ revive_down s clock walker (log_left s kept) ] ≡ Enters o t
    → Answers s clock walker Restart o t
revives s clock walker kept true o t u h = quiet_enters h
revives s clock walker kept false o t u h =
    let found = log_left s kept in
    let epoch = next_epoch s found in
    let after = log_after_restart s.shard found s.run epoch in
    let x = entered (next_stamp s clock Restart) walker Restart (nat_lt (next_stamp s clock Restart) (2 ^ 48)) (Does (Up epoch) (revived s epoch after)) o t h in
    record { after = x.after; becomes = (u, (kept, epoch, after, (found, untouched, refl, refl), sym (does_outcome x.reply), sym (does_after x.reply))); is = x.is }

pub answers : (s : Shard) (clock : ℕ) (c : CoreStep) (e : Event) (o : Outcome) (t : Shard) → answer_by clock c s e ≡ Enters o t → has_no_equal_active_birth s e ≡ true → Answers s clock c.walker e o t
answers s clock c FlushIn o t h b = lands s clock c.walker c.kept s.is_up o t refl h
answers s clock c Restart o t h b = revives s clock c.walker c.kept s.is_up o t refl h
answers s clock c (Op tx birth nth seen op) o t h b =
    let x = by_step s clock c.walker (Op tx birth nth seen op) o t h in record { after = x.after; becomes = (not-true (has_equal_active_birth tx birth s.local.parts) b, x.reply); is = x.is }
answers s clock c e o t h b = let x = by_step s clock c.walker e o t h in record { after = x.after; becomes = x.reply; is = x.is }

-- ---- the bound on its stamp

-- all but a flush's end have room
pub data Bounds (s : Shard) (clock : ℕ) : Event → Type 0 where
  has_room : {e : Event} → next_stamp s clock e < 2 ^ 48 → Bounds s clock e
  may_pass : Bounds s clock FlushIn

room_of : (s : Shard) (clock walker : ℕ) (e : Event) (o : Outcome) (t : Shard) → step s clock walker e ≡ Enters o t → Bounds s clock e
room_of s clock walker e o t h = has_room (ltb-true (next_stamp s clock e) (2 ^ 48) (by_step s clock walker e o t h).had_room)

revives_room : (s : Shard) (clock walker : ℕ) (kept up : Bool) (o : Outcome) (t : Shard) → elim up [ true ↦ Quiet Nothing | false ↦ revive_down s clock walker (log_left s kept) ] ≡ Enters o t → Bounds s clock Restart
revives_room s clock walker kept true o t h = quiet_enters h
revives_room s clock walker kept false o t h =
    let found = log_left s kept in
    let epoch = next_epoch s found in
    has_room (ltb-true (next_stamp s clock Restart) (2 ^ 48)
    (entered (next_stamp s clock Restart) walker Restart (nat_lt (next_stamp s clock Restart) (2 ^ 48)) (Does (Up epoch) (revived s epoch (log_after_restart s.shard found s.run epoch))) o t h).had_room)

pub bounds : (s : Shard) (clock : ℕ) (c : CoreStep) (e : Event) (o : Outcome) (t : Shard) → answer_by clock c s e ≡ Enters o t → Bounds s clock e
bounds s clock c FlushIn o t h = may_pass
bounds s clock c Restart o t h = revives_room s clock c.walker c.kept s.is_up o t h
bounds s clock c _ o t h = room_of s clock c.walker _ o t h

-- ---- the entry

pub makes_entry : (s : Shard) (clock : ℕ) (c : CoreStep) (o : Outcome) (t : Shard) → Answers s clock c.walker c.event o t → next_stamp s clock c.event < stamp_bound c.event → Makes s (entry_of c o t) t
makes_entry s clock c o t a l =
    record {
      state = a.after;
      becomes = a.becomes;
      entered = a.is ∙ ap (λ n. with_entry n c.walker c.event o a.after) (sym last);
      rises = omega (arith, last);
      above_message = omega (arith, last);
      bounded = omega (arith, last, l);
    }
  where
    last : t.last ≡ next_stamp s clock c.event
    last = ap (λ x. x.last) a.is

-- a flush's end leaves no records in flight on a shard that is up
pub lands_after : (s : Shard) (o : Outcome) (t : Shard) → BecomesBy s FlushIn o t → t.is_up ≡ true → (n : ℕ) → t.flight ≡ Some n → ⊥
lands_after s (Durable m) t b u n f = none_some (sym (framed_finish (with_durable m s)).flight ∙ sym (ap (λ x. x.flight) b.2) ∙ f)
  where
    none_some : {a : ℕ} → ◌≡◌ {A = Option ℕ} None (Some a) → ⊥
    none_some k = cc
lands_after s Failed t b u n f = both_ways false refl (sym (ap (λ x. x.is_up) b.2) ∙ u)
lands_after s _ t b u n f = absurd b.1
