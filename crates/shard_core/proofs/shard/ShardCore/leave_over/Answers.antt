-- Nothing is due for the least candidate, which goes.
use Rattle.std.proofs.Common.{◌≡◌, Bool, true, false, not, ◌&&◌, ◌==◌, eqb-true, sym, ap, subst, ◌∙◌, List, [], ◌∷◌, Option, Some, None, refl}
use Rattle.std.proofs.lemmas.Bool.{and_parts}
use Rattle.std.specs.Option.{option_eq}
use Rattle.clv_base.specs.declared.names.TxId.{TxId}
use Rattle.clv_base.specs.Orders.{tx_get}
use Rattle.clv_base.specs.State.{Shard}
use Rattle.tx_table.specs.Held.{Candidates, least as least_held, but_least as rest_held}
use Rattle.two_phase_commit.specs.Coordinated.{ruling_of}
use Rattle.due_step.specs.Ready.{IsReady, least, but_least}
use Rattle.due_step.proofs.Laws.{ready_rest}
use Rattle.shard_core.specs.Core.{Core, seen_as}
use Rattle.shard_core.specs.Finished.{IsFinished}
use Rattle.shard_core.proofs.Finishing.{finished_rests}
use Rattle.shard_core.proofs.shard.ShardCore.leave_over.Given as given
use Rattle.shard_core.proofs.shard.ShardCore.leave_over.Goals as goal
use Rattle.shard_core.proofs.shard.ShardCore.leave_over.Goals.{After-leave_first}

same_rest : (ts : List TxId) → but_least ts ≡ rest_held ts
same_rest [] = refl
same_rest (t ∷ ts) = refl

same_least : (ts : List TxId) → least ts ≡ least_held ts
same_least [] = refl
same_least (t ∷ ts) = refl

eq_is : (a b : TxId) → ((a.run == b.run) && ((a.session == b.session) && (a.serial == b.serial))) ≡ true → a ≡ b
eq_is a b e =
    let p = and_parts _ _ e in let q = and_parts _ _ p.1 in
    ap (λ n. record a { run = n }) (eqb-true a.run b.run p.0) ∙ ap (λ n. record a { run = b.run; session = n }) (eqb-true a.session b.session q.0) ∙ ap (λ n. record b { serial = n }) (eqb-true a.serial b.serial q.1)

holds : (b : Bool) → false ≡ not b → b ≡ true
holds true e = refl
holds false e = absurd cc

is_it : (f : TxId → TxId → Bool) (o : Option TxId) (tx : TxId) → false ≡ not (option_eq f o (Some tx)) → ((a b : TxId) → f a b ≡ true → a ≡ b) → o ≡ Some tx
is_it f None tx e same = absurd cc
is_it f (Some x) tx e same = ap (λ (y : TxId). Some y) (same x tx (holds (f x tx) e))

rest : (g : given.Over) (c : After-leave_first g) → least c.self.inside.candidates.txs ≡ Some c.args.tx
    → IsReady (seen_as c.self.inside.run c.self.inside.transactions c.self.inside.participant c.self.inside.coordinator c.self.inside.outbox) (rest_held c.self.inside.candidates.txs) c.self.inside.candidates.limit
rest g c first =
    let i = c.self.inside in let tx = c.args.tx in let over = c.if-is_over.ensures in
    let s : Shard = seen_as i.run i.transactions i.participant i.coordinator i.outbox in
    let ready = subst (λ (v : Core). IsReady v.shard v.candidates v.limit) (sym c.self.view_is) c.requires.ready in
    let finished = subst (λ (v : Core). IsFinished v.shard.local tx) (sym c.self.view_is) (c.requires.finished (over.done refl)) in
    let none = finished_rests s tx finished (over.voter refl) (λ f a b. ap (λ n. ruling_of n tx f (tx_get tx i.coordinator.requests)) (sym c.self.invariant.home) ∙ over.request refl f a b) in
    subst (λ ts. IsReady s ts i.candidates.limit) (same_rest i.candidates.txs) (ready_rest s i.candidates.txs i.candidates.limit tx ready first none)

pub returns-then-is_over-clause-ready : goal.returns-then-is_over-clause-ready
returns-then-is_over-clause-ready g c =
    let i = c.self.inside in let s : Shard = seen_as i.run i.transactions i.participant i.coordinator i.outbox in
    let first = same_least i.candidates.txs ∙ sym c.first.ensures.first ∙ is_it _ c.first.result c.args.tx c.if-ne.ensures (λ a b e. eq_is a b e) in
    subst (λ (d : Candidates). IsReady s d.txs d.limit) (sym c.leave_first.ensures) (rest g c first)
