use Rattle.std.proofs.Common.{◌+◌, drop, Some, sym, ap, ◌∙◌}
use Rattle.clv_base.specs.Journals.{own}
use Rattle.cluster_turns.specs.States.{after_from}
use Rattle.interleaving_core.proofs.Entries.{after_first, own_first, own_other, cut}
use Rattle.interleaving_core.proofs.following.session_of.Goals as goal
use Rattle.interleaving_core.proofs.following.session_of.Goals.{then-placed-walker+in_ok-follow, else-placed-walker}

pub loop-placed-preserved : goal.loop-placed-preserved
loop-placed-preserved c splits t h =
    let w = c.args.walker in let es = c.args.history.now in let i = c.loop-placed.placed-index in let e = c.placed-item.result in let rest = drop (i + 1) es in
    let before = ap (λ l. after_from splits (Some c.loop-placed.session) (own w l)) (sym (cut es i e c.loop-placed-test.true c.placed-item.is)) ∙ c.loop-placed.invariant splits t h in
    elim c.if-placed-walker.branch [
      | then-placed-walker+in_ok-follow k ↦
          let a = after_first splits c.loop-placed.session t e (own w rest) (ap (λ l. after_from splits (Some c.loop-placed.session) l) (sym (own_first w e rest k.if-placed-walker.true)) ∙ before) in
          ap (λ s. after_from splits (Some s) (own w rest)) (k.session-is ∙ k.in_ok-follow.ensures splits a.0 a.1) ∙ a.2
      | else-placed-walker k ↦
          ap (λ s. after_from splits (Some s) (own w rest)) k.session-is ∙ ap (λ l. after_from splits (Some c.loop-placed.session) l) (sym (own_other w e rest k.if-placed-walker.false)) ∙ before
    ]
