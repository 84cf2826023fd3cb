use Rattle.std.proofs.Common.{◌∙◌, sym, ap, subst, arith}
use Rattle.session_api.specs.declared.progress.Progress.TheVariants.{Idle}
use Rattle.session_api.specs.Savepoints.{Saved}
use Rattle.session_api.specs.Standing.{Holds}
use Rattle.session_examples.proofs.sitting.sit.Goals as goal
use Rattle.law_base.proofs.Options.{value_or as the}

pub new-requires : goal.new-requires
new-requires g c = record {
  session = (let w = c.unwrap-walker.result in let ws = c.args.walkers.now in let some = c.requires.some in
      let is = ap (the w) (sym c.unwrap-walker.ensures ∙ c.pop.ensures.value w (omega arith)) in
      (subst (λ x. Holds c.args.shards.now x Idle) (sym is) (c.requires.session w)).session);
}

pub returns-clause-session : goal.returns-clause-session
returns-clause-session g c =
    let w = c.unwrap-walker.result in let ws = c.args.walkers.now in let some = c.requires.some in let r = c.new.result in
    let is = ap (the w) (sym c.unwrap-walker.ensures ∙ c.pop.ensures.value w (omega arith)) in
    subst (λ s. Holds r.shards.now r.walker s) (sym c.new.ensures.begins.1)
    (subst (λ x. Holds r.shards.now x Idle) (sym c.new.ensures.begins.0)
    (subst (λ sh. Holds sh w Idle) (sym c.new.ensures.shards) (subst (λ x. Holds c.args.shards.now x Idle) (sym is) (c.requires.session w))))

pub returns-clause-saved : goal.returns-clause-saved
returns-clause-saved g c = subst (λ s. Saved s c.new.result.saves.items) (sym c.new.ensures.begins.1) tt

pub returns-clause-walker : goal.returns-clause-walker
returns-clause-walker g c =
    λ d. let w = c.unwrap-walker.result in let some = c.requires.some in c.new.ensures.begins.0 ∙ ap (the w) (sym c.unwrap-walker.ensures ∙ c.pop.ensures.value d (omega arith))
