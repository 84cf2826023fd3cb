-- What an event that isn't of a flush or a restart leaves of a shard.
use Rattle.std.proofs.Common.{◌≡◌, refl, sym, ap, ◌∙◌, ℕ, ◌≤◌, true, false, Bool, length, take, nat_lt, Option, Some, None}
use Rattle.std.specs.Prelude.{◌^◌, unwrap_or}
use Rattle.clv_base.specs.declared.events.Event.{Event}
use Rattle.clv_base.specs.declared.events.Event.TheVariants.{FlushOut}
use Rattle.clv_base.specs.declared.events.Outcome.{Outcome}
use Rattle.clv_base.specs.State.{Shard}
use Rattle.clv_base.specs.Events.{Reply, QuietBeforeWorn, QuietAfterWorn, Does, Quiet, Worn, Enters, stamped, with_entry, happen, step, next_stamp}
use Rattle.clv_base.specs.Restarts.{log_left}
use Rattle.protocol_laws.specs.Growth.{IsPrefixOf}
use Rattle.protocol_laws.proofs.LogOnlyGrows.{log_only_grows}
use Rattle.history_cases.proofs.Stepping.{Step, op_dies, op_answers, request_refused, request_doomed, request_again, request_new, request_closes, looks_well, looks_ill, drops, sends, prepare_closes, prepare_again, vote_counts, decision_comes, decision_again, done_counts, asked, reminds, flushes, Happens, finishes, stops, happened, roll_refused, roll_doomed, roll_late, roll_unknown, rolls_back}
use Rattle.history_cases.proofs.Durability.{framed_finish, happens_steps}
use Rattle.crash_laws.specs.Fronts.{FrontsFit}
use Rattle.law_base.proofs.Shards.{same_after, same_outcome}
use Rattle.machine_laws.proofs.Calm.{take_grown}

-- an answer with a stamp that is an entry's
pub record Stamped (stamp w : ℕ) (e : Event) (r : Reply) (o : Outcome) (t : Shard) : Type 0 where
  pub after : Shard
  pub reply : r ≡ Does o after
  pub is : t ≡ with_entry stamp w e o after

quiet_enters : {X : Type 0} {p o : Outcome} {t : Shard} → Quiet p ≡ Enters o t → X
quiet_enters h = absurd cc

worn_enters : {X : Type 0} {o : Outcome} {t : Shard} → Worn ≡ Enters o t → X
worn_enters h = absurd cc

pub entered : (stamp w : ℕ) (e : Event) (room : Bool) (r : Reply) (o : Outcome) (t : Shard) → stamped stamp w e room r ≡ Enters o t → Stamped stamp w e r o t
entered stamp w e room (QuietBeforeWorn p) o t h = quiet_enters h
entered stamp w e false (QuietAfterWorn p) o t h = worn_enters h
entered stamp w e true (QuietAfterWorn p) o t h = quiet_enters h
entered stamp w e false (Does p u) o t h = worn_enters h
entered stamp w e true (Does p u) o t h =
    let q = same_outcome h in record { after = u; reply = ap (λ x. Does x u) q; is = sym (same_after h) ∙ ap (λ x. with_entry stamp w e x u) q }

step_flight : (s t : Shard) {e : Event} {o : Outcome} → Step s e o t → (e ≡ FlushOut → ⊥) → t.flight ≡ s.flight
step_flight s t (op_dies tx birth nth seen op cause l h) f = refl
step_flight s t (op_answers tx birth nth seen op answer l h) f = refl
step_flight s t (roll_refused tx nth seen upto h) f = refl
step_flight s t (roll_doomed tx nth seen upto doom h k) f = refl
step_flight s t (roll_late tx nth seen upto h k) f = refl
step_flight s t (roll_unknown tx nth seen upto h k) f = refl
step_flight s t (rolls_back tx nth seen upto h k) f = refl
step_flight s t (request_refused tx ts cause h) f = refl
step_flight s t (request_doomed tx ts doom h) f = refl
step_flight s t (request_again tx ts f0 h) f = refl
step_flight s t (request_new tx ts f0 h) f = refl
step_flight s t (request_closes tx ts f0 h) f = refl
step_flight s t (looks_well tx h) f = refl
step_flight s t (looks_ill tx cause d h) f = refl
step_flight s t (drops tx stage h) f = refl
step_flight s t (sends m ms h) f = refl
step_flight s t (prepare_closes tx home seen stamp h) f = refl
step_flight s t (prepare_again tx home seen stamp h) f = refl
step_flight s t (vote_counts tx from vote stamp q g h) f = refl
step_flight s t (decision_comes tx home true stamp h) f = refl
step_flight s t (decision_comes tx home false stamp h) f = refl
step_flight s t (decision_again tx home commit stamp h) f = refl
step_flight s t (done_counts tx from stamp q g h) f = refl
step_flight s t (asked tx from stamp) f = refl
step_flight s t (reminds m ms g h) f = refl
step_flight s t (flushes k g h) f = absurd (f refl)

happens_flight : (s t : Shard) {e : Event} {o : Outcome} → Happens s e o t → (e ≡ FlushOut → ⊥) → t.flight ≡ s.flight
happens_flight s _ (finishes {t = x} u h) f = (framed_finish x).flight ∙ step_flight s x h f
happens_flight s _ (stops u) f = refl

was_up : (s t : Shard) {e : Event} {o : Outcome} → Happens s e o t → s.is_up ≡ true
was_up s _ (finishes {t = x} u h) = u
was_up s _ (stops u) = u

-- what stays of a shard
pub record Keeps (s t : Shard) : Type 0 where
  pub durable : t.durable ≡ s.durable
  pub flight : t.flight ≡ s.flight
  pub grown : IsPrefixOf s.local.log t.local.log

pub record Stepped (s t : Shard) : Type 0 where
  pub up : s.is_up ≡ true
  pub keeps : Keeps s t

pub step_keeps : (s : Shard) (clock w : ℕ) (e : Event) (o : Outcome) (t : Shard) → step s clock w e ≡ Enters o t → (e ≡ FlushOut → ⊥) → Stepped s t
step_keeps s clock w e o t h f =
    let x = entered (next_stamp s clock e) w e (nat_lt (next_stamp s clock e) (2 ^ 48)) (happen s e) o t h in
    let p = happened s x.after e o x.reply in
    let g = log_only_grows s x.after e o x.reply in
    record {
      up = was_up s x.after p;
      keeps = record {
        durable = ap (λ u. u.durable) x.is ∙ (happens_steps s x.after p).durable;
        flight = ap (λ u. u.flight) x.is ∙ happens_flight s x.after p f;
        grown = (g.0, g.1 ∙ ap (λ u. u.local.log) (sym x.is));
      };
    }

-- what a crash leaves of the log stays
pub left_same : (s t : Shard) (kept : Bool) → FrontsFit s → Keeps s t → log_left t kept ≡ log_left s kept
left_same s t false f k = take_grown s.durable t.durable s.local.log t.local.log f.within k.durable k.grown
left_same s t true f k = ap (λ x. take (unwrap_or x t.durable) t.local.log) k.flight ∙ at s.flight (λ n e. f.flying n e)
  where
    at : (x : Option ℕ) → ((n : ℕ) → x ≡ Some n → (s.durable ≤ n) × (n ≤ length s.local.log)) → take (unwrap_or x t.durable) t.local.log ≡ take (unwrap_or x s.durable) s.local.log
    at None g = take_grown s.durable t.durable s.local.log t.local.log f.within k.durable k.grown
    at (Some n) g = take_grown n n s.local.log t.local.log (g n refl).1 refl k.grown
