use Rattle.std.proofs.Common.{subst, arith}
use Rattle.report_reading.specs.declared.told.Taken.TheVariants.{Nowhere}
use Rattle.report_reading.specs.Texts.{Sums}
use Rattle.report_reading.specs.Reading.{SoFar, so_far, HasPlace}
use Rattle.report_reading.proofs.Places.{counts_nowhere}
use Rattle.report_reading.proofs.reading.SoFar.end.Goals as goal

pub returns-else-counts-len : goal.returns-else-counts-len
returns-else-counts-len c =
    subst (λ (s : SoFar). HasPlace s s (Sums c.args.counts) Nowhere) c.self.view_is
    (counts_nowhere (so_far c.self.inside.pairs.items c.self.inside.txs.items) c.args.counts (λ e.
    let ok = c.self.inside.txs.ok in
    let len = c.len.ensures in c.if-counts-len.false (omega arith)))
