use Rattle.std.proofs.Common.{sym, subst, get_or, arith}
use Rattle.log_analysis.specs.Facts.{Knows}
use Rattle.log_analysis.proofs.Laws.Tables.{know_count, know_each}
use Rattle.log_rules.proofs.agreement.index_all.Goals as goal

pub bounds-facts-at : goal.bounds-facts-at
bounds-facts-at c = let many = know_count c.args.facts.now c.args.logs.now c.requires in let below = c.loop-at-test.true in omega arith

pub new-known-requires : goal.new-known-requires
new-known-requires c =
    let f = c.index-facts-at.result in let v = c.index-logs-at.result in
    let here = know_each c.args.facts.now c.args.logs.now c.loop-at.at f v c.requires c.loop-at-test.true in
    subst (Knows f) (sym c.as_slice.ensures.value) (subst (λ m. Knows m v.items) (sym c.index-facts-at.is) (subst (λ w. Knows (get_or c.args.facts.now c.loop-at.at f) w.items) (sym c.index-logs-at.is) here))

pub offset_bounds-facts-at : goal.offset_bounds-facts-at
offset_bounds-facts-at c = let many = know_count c.args.facts.now c.args.logs.now c.requires in let below = c.loop-at-test.true in let fine = c.well_formed in omega arith
