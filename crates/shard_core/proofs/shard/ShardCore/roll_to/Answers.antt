-- By the epoch that was seen, and by the stage of the part.
use Rattle.std.proofs.Common.{◌≡◌, sym, ap, ◌∙◌, Some, None}
use Rattle.clv_base.specs.declared.causes.AbortCause.{AbortCause}
use Rattle.clv_base.specs.declared.causes.AbortCause.TheVariants.{Asked, Restarted}
use Rattle.clv_base.specs.declared.events.Outcome.TheVariants.{Rolled, Dead}
use Rattle.clv_base.specs.declared.state.Stage.TheVariants.{Closed, Gone}
use Rattle.clv_base.specs.State.{Shard}
use Rattle.clv_base.specs.Undo.{stage_of}
use Rattle.clv_base.specs.Events.{Does, finish, roll_by_stage}
use Rattle.shard_core.specs.Core.{Core}
use Rattle.shard_core.proofs.Back.{other_epoch, same_epoch, back_gone}
use Rattle.shard_core.proofs.Looked.{rest_is as rest_same}
use Rattle.shard_core.proofs.shard.ShardCore.roll_to.Goals as goal

pub returns-then-seen-now-clause-happens : goal.returns-then-seen-now-clause-happens
returns-then-seen-now-clause-happens g c =
    let s : Shard = c.args.self.now.shard in
    let home : c.self.inside.shard ≡ s.shard = c.self.invariant.transactions ∙ ap (λ (v : Core). v.shard.shard) c.self.view_is in
    other_epoch s c.args.tx c.args.count c.args.seen c.epoch-now.result c.epoch-now.ensures c.if-seen-now.true (rest_same c.args.self.now c.requires)
    ∙ ap (λ k. Does (Dead (Restarted k c.args.seen c.epoch-now.result)) s) (sym home)

pub returns-in-Some-Gone-clause-happens : goal.returns-in-Some-Gone-clause-happens
returns-in-Some-Gone-clause-happens g c =
    let s : Shard = c.args.self.now.shard in
    let st : stage_of s.local c.args.tx ≡ Some (Gone c.in-Some-Gone.doom) = cc in
    same_epoch s c.args.tx c.args.count c.args.seen c.epoch-now.result c.epoch-now.ensures c.if-seen-now.false
    ∙ ap (roll_by_stage s c.args.tx c.args.count) st ∙ back_gone s c.args.tx c.args.count c.in-Some-Gone.doom
    ∙ ap (λ (r : AbortCause). Does (Dead r) (finish s)) (sym c.gone_cause.ensures) ∙ ap (Does (Dead c.gone_cause.result)) (rest_same c.args.self.now c.requires)

pub returns-in-Some-Closed-clause-happens : goal.returns-in-Some-Closed-clause-happens
returns-in-Some-Closed-clause-happens g c =
    let s : Shard = c.args.self.now.shard in
    let st : stage_of s.local c.args.tx ≡ Some Closed = cc in
    same_epoch s c.args.tx c.args.count c.args.seen c.epoch-now.result c.epoch-now.ensures c.if-seen-now.false
    ∙ ap (roll_by_stage s c.args.tx c.args.count) st ∙ ap (Does (Dead Asked)) (rest_same c.args.self.now c.requires)

pub returns-in-None-clause-happens : goal.returns-in-None-clause-happens
returns-in-None-clause-happens g c =
    let s : Shard = c.args.self.now.shard in
    let st : stage_of s.local c.args.tx ≡ None = cc in
    same_epoch s c.args.tx c.args.count c.args.seen c.epoch-now.result c.epoch-now.ensures c.if-seen-now.false
    ∙ ap (roll_by_stage s c.args.tx c.args.count) st ∙ ap (Does Rolled) (rest_same c.args.self.now c.requires)
