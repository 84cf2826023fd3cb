-- By the epoch that it names, and by the stage of the part.
use Rattle.std.proofs.Common.{◌≡◌, sym, ap, ◌∙◌, Some}
use Rattle.clv_base.specs.declared.causes.AbortCause.TheVariants.{Restarted}
use Rattle.clv_base.specs.declared.events.Outcome.TheVariants.{Asked, Dead}
use Rattle.clv_base.specs.declared.state.Stage.TheVariants.{Closed, Gone}
use Rattle.clv_base.specs.State.{Shard}
use Rattle.clv_base.specs.Undo.{stage_of}
use Rattle.clv_base.specs.Events.{Does, finish, request_by_stage}
use Rattle.shard_core.specs.declared.requesting.RequestAnswer.{RequestAnswer}
use Rattle.shard_core.specs.Requesting.{requested}
use Rattle.shard_core.specs.Core.{Core}
use Rattle.shard_core.proofs.Asking.{named, misfit, fits, gone_by}
use Rattle.shard_core.proofs.shard.ShardCore.request.Goals as goal
use Rattle.shard_core.proofs.Looked.{rest_is as rest_same}

pub returns-then-seen-now-clause-ok : goal.returns-then-seen-now-clause-ok
returns-then-seen-now-clause-ok g c =
    let s : Shard = c.args.self.now.shard in let touched = c.args.touched in
    let home : c.self.inside.shard ≡ s.shard = c.self.invariant.transactions ∙ ap (λ (v : Core). v.shard.shard) c.self.view_is in
    let seen = named s c.self.inside.shard c.unwrap_or-seen.result c.epoch-now.result c.as_slice.result.now touched c.epoch_in.result c.unwrap_or-seen.ensures c.epoch_in.ensures c.as_slice.ensures home in
    misfit s c.args.tx touched c.epoch-now.result c.unwrap_or-seen.result c.epoch-now.ensures seen c.if-seen-now.true (rest_same c.args.self.now c.requires.rest)
    ∙ ap (λ k. Does (Dead (Restarted k c.unwrap_or-seen.result c.epoch-now.result)) s) (sym home)

pub returns-in-Some-Gone-clause-ok : goal.returns-in-Some-Gone-clause-ok
returns-in-Some-Gone-clause-ok g c =
    let s : Shard = c.args.self.now.shard in let touched = c.args.touched in
    let home : c.self.inside.shard ≡ s.shard = c.self.invariant.transactions ∙ ap (λ (v : Core). v.shard.shard) c.self.view_is in
    let seen = named s c.self.inside.shard c.unwrap_or-seen.result c.epoch-now.result c.as_slice.result.now touched c.epoch_in.result c.unwrap_or-seen.ensures c.epoch_in.ensures c.as_slice.ensures home in
    let st : stage_of s.local c.args.tx ≡ Some (Gone c.in-Some-Gone.doom) = cc in
    fits s c.args.tx touched c.epoch-now.result c.unwrap_or-seen.result c.epoch-now.ensures seen c.if-seen-now.false
    ∙ ap (request_by_stage s c.args.tx touched) st ∙ gone_by s c.args.tx touched c.in-Some-Gone.doom
    ∙ ap (λ (r : RequestAnswer). Does (requested r) (finish s)) (sym c.answer_gone.ensures) ∙ ap (Does (requested c.answer_gone.result)) (rest_same c.args.self.now c.requires.rest)

pub returns-in-Some-Closed-clause-ok : goal.returns-in-Some-Closed-clause-ok
returns-in-Some-Closed-clause-ok g c =
    let s : Shard = c.args.self.now.shard in let touched = c.args.touched in
    let home : c.self.inside.shard ≡ s.shard = c.self.invariant.transactions ∙ ap (λ (v : Core). v.shard.shard) c.self.view_is in
    let seen = named s c.self.inside.shard c.unwrap_or-seen.result c.epoch-now.result c.as_slice.result.now touched c.epoch_in.result c.unwrap_or-seen.ensures c.epoch_in.ensures c.as_slice.ensures home in
    let st : stage_of s.local c.args.tx ≡ Some Closed = cc in
    fits s c.args.tx touched c.epoch-now.result c.unwrap_or-seen.result c.epoch-now.ensures seen c.if-seen-now.false
    ∙ ap (request_by_stage s c.args.tx touched) st ∙ ap (Does Asked) (rest_same c.args.self.now c.requires.rest)
