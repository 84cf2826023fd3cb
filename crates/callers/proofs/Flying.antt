-- A flush that began, by what the machine tells of it.
use Rattle.std.proofs.Common.{◌≡◌, refl, ℕ, zero, suc, ◌+◌, ◌<◌, ◌^◌, max, Bool, true, false, nat_lt, sym, ap, ◌∙◌, arith, Option, Some, None, Ok}
use Rattle.std.specs.Prelude.{drop}
use Rattle.std.proofs.lemmas.Bool.{ltb-true}
use Rattle.clv_base.specs.declared.events.Event.TheVariants.{FlushOut}
use Rattle.clv_base.specs.declared.events.Outcome.{Outcome}
use Rattle.clv_base.specs.declared.events.Outcome.TheVariants.{Out, Down}
use Rattle.clv_base.specs.declared.events.Entry.{Entry}
use Rattle.clv_base.specs.Logs.{fitting}
use Rattle.clv_base.specs.State.{Shard}
use Rattle.clv_base.specs.Events.{QuietBeforeWorn, Quiet, Enters, next_stamp, step, stamped, happen_up, out_event, taken, finish, with_entry, with_flight}
use Rattle.machine_calls.specs.declared.flights.Flight.{Flight}
use Rattle.machine_calls.specs.Steps.{Tells}
use Rattle.machine_calls.specs.Flights.{Leaves}
use Rattle.machine_laws.proofs.Laws.{finishes_alike, finishes_stay}
use Rattle.law_base.proofs.Shards.{same_out, up_or_down}
use Rattle.law_base.proofs.Options.{ok_inj}

-- the shard is up, its records are in flight, and there are stamps
pub record Flown (t : Shard) (clock upto : ℕ) : Type 0 where
  pub up : t.is_up ≡ true
  pub flies : t.flight ≡ Some upto
  pub last : t.last < 2 ^ 48
  pub early : clock < 2 ^ 48

stays_up : (u : Shard) → (finish u).is_up ≡ u.is_up
stays_up u = ap (λ (x : Shard). x.is_up) (finishes_alike u.is_up u.last u.journal u)

-- an entry is made only where nothing flew and records are taken now
outs : (s : Shard) (stamp w : ℕ) (room : Bool) (f : Option ℕ) (k n : ℕ) (t : Shard) → stamped stamp w FlushOut room (out_event s f k) ≡ Enters (Out n) t
    → (room ≡ true) × (t ≡ with_entry stamp w FlushOut (Out n) (finish (with_flight n s)))
outs s stamp w room f zero n t h = absurd cc
outs s stamp w room (Some m) (suc k) n t h = absurd cc
outs s stamp w false None (suc k) n t h = absurd cc
outs s stamp w true None (suc k) n t h =
    let m = s.durable + suc k in let same : Out m ≡ Out n = cc in let is : with_entry stamp w FlushOut (Out m) (finish (with_flight m s)) ≡ t = cc in
    (refl, sym is ∙ ap (λ q. with_entry stamp w FlushOut (Out q) (finish (with_flight q s))) (same_out same))

entered : (s : Shard) (clock w n : ℕ) (t : Shard) (b : Bool) → s.is_up ≡ b
    → stamped (next_stamp s clock FlushOut) w FlushOut (nat_lt (next_stamp s clock FlushOut) (2 ^ 48)) (elim b [ true ↦ happen_up s FlushOut | false ↦ QuietBeforeWorn Down ]) ≡ Enters (Out n) t → Flown t clock n
entered s clock w n t false up h = absurd cc
entered s clock w n t true up h =
    let o = outs s (next_stamp s clock FlushOut) w (nat_lt (next_stamp s clock FlushOut) (2 ^ 48)) s.flight (fitting 1048576 (drop (taken s) s.local.log)) n t h in
    let below : suc (max s.last (max clock 0)) < 2 ^ 48 = ltb-true (next_stamp s clock FlushOut) (2 ^ 48) o.0 in
    let last : t.last ≡ suc (max s.last (max clock 0)) = ap (λ (u : Shard). u.last) o.1 in
    record {
      up = ap (λ (u : Shard). u.is_up) o.1 ∙ stays_up (with_flight n s) ∙ up;
      flies = ap (λ (u : Shard). u.flight) o.1 ∙ (finishes_stay (with_flight n s)).1;
      last = omega (arith, last, below);
      early = omega (arith, below);
    }

pub flown : {G : Type 0} (s t : Shard) (clock w : ℕ) (before after : Option G) (o : Outcome) (f : Flight G) (x : Option Entry) → Tells (step s clock w FlushOut) s clock w FlushOut (Ok o) t x → Leaves t before after o f
    → Flown t clock f.upto
flown s t clock w before after o f None h d =
    absurd (up_or_down s (next_stamp s clock FlushOut) w (nat_lt (next_stamp s clock FlushOut) (2 ^ 48)) f.upto s.is_up (h.0 ∙ ap (λ p. Quiet p) d.outcome))
flown s t clock w before after o f (Some x) h d = entered s clock w f.upto t s.is_up refl (h.2.enters ∙ ap (λ p. Enters p t) (sym (ok_inj _ _ h.1) ∙ d.outcome))
