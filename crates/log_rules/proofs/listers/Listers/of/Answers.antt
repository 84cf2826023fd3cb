use Rattle.std.proofs.Common.{◌≡◌, ◌<◌, ◌≤◌, ◌++◌, ◌-◌, ◌+◌, length, None, Some, ap, ◌∙◌, rules}
use Rattle.log_rules.specs.Listers.{lister_at, listers_from}
use Rattle.log_rules.proofs.Steps.{listers_on, listers_none, listers_end}
use Rattle.log_rules.proofs.listers.Listers.of.Goals as goal

pub loop-step-preserved : goal.loop-step-preserved
loop-step-preserved c =
    let within : c.loop-step._step < length c.args.self.now.all.items = search rules in
    let at : lister_at c.args.self.now.all.items c.loop-step.place ≡ Some c.in-Some.lister = search rules in
    ap (λ xs. xs ++ listers_from c.args.self.now.all.items (length c.args.self.now.all.items - (c.loop-step._step + 1)) c.in-Some.lister.next) c.in_ok-push.ensures.items
    ∙ listers_on c.args.self.now.all.items (length c.args.self.now.all.items) c.loop-step._step c.loop-step.place c.loop-step.txs.items _ c.loop-step.invariant within c.in-Some.lister at

pub returns-in_default : goal.returns-in_default
returns-in_default c =
    let within : c.loop-step._step < length c.args.self.now.all.items = search rules in
    let at : lister_at c.args.self.now.all.items c.loop-step.place ≡ None = search rules in
    listers_none c.args.self.now.all.items (length c.args.self.now.all.items) c.loop-step._step c.loop-step.place c.loop-step.txs.items _ c.loop-step.invariant within at

pub returns : goal.returns
returns c =
    let past : length c.args.self.now.all.items ≤ c.loop-step._step = search rules in
    listers_end c.args.self.now.all.items (length c.args.self.now.all.items) c.loop-step._step c.loop-step.place c.loop-step.txs.items _ c.loop-step.invariant past
