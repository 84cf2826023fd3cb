-- The entry of a flush's end, where the records were pushed.
use Rattle.std.proofs.Common.{◌≡◌, sym, ◌∙◌, ap, subst, ℕ, ◌+◌, suc, max, arith}
use Rattle.std.proofs.Math.Nat.{max-zero}
use Rattle.clv_base.specs.declared.events.Event.TheVariants.{FlushIn}
use Rattle.clv_base.specs.declared.events.Entry.{Entry}
use Rattle.clv_base.specs.State.{Shard}
use Rattle.clv_base.specs.declared.events.Outcome.TheVariants.{Durable}
use Rattle.clv_base.specs.Events.{land as lands, next_stamp, finish, with_durable, with_entry}
use Rattle.machine_calls.specs.Steps.{Made}
use Rattle.shard_machine.specs.Machined.{Machined}
use Rattle.shard_machine.proofs.Homing.{made_durable}
use Rattle.shard_machine.proofs.machine.ShardMachine.land.Goals as goal

next : (n : ℕ) → n + 1 ≡ suc n
next n = omega arith

pub returns-then-pushed-clause-told : goal.returns-then-pushed-clause-told
returns-then-pushed-clause-told g c =
    let i = c.self.inside in let s : Shard = c.args.self.now.shard in let t : Shard = c.end_flight.new.self.shard in let clock = c.args.clock in let w = c.args.walker in let o = c.end_flight.result in
    let last : i.last ≡ s.last = ap (λ (v : Machined _). v.shard.last) c.self.view_is in
    let at : c.max-stamp.result + 1 ≡ next_stamp s clock FlushIn =
    ap (λ n. n + 1) (c.max-stamp.ensures ∙ ap (λ n. max n clock) last ∙ ap (λ n. max s.last n) (sym (max-zero clock))) ∙ next (max s.last (max clock 0)) in
    let is : t ≡ with_entry (c.max-stamp.result + 1) w FlushIn (Durable c.args.flight.upto) (finish (with_durable c.args.flight.upto s)) =
    c.end_flight.ensures.shard in
    subst (λ b. (x : Entry) × Made (lands s clock w b) s clock w FlushIn o t x) (sym c.if-pushed.true)
    (made_durable s t c.args.flight.upto clock w (c.max-stamp.result + 1) o c.requires.up c.requires.flies at c.end_flight.ensures.outcome is)
