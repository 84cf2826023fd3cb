use Rattle.std.proofs.Common.{◌≡◌, ◌≤◌, ◌<◌, ◌+◌, ◌∙◌, ℕ, length, drop, get_or, ap, arith, ◌-◌}
use Rattle.log_buffer.specs.Buffers.{fitting_by}
use Rattle.log_buffer.proofs.Fitting.{sizes_next, fitting_next}
use Rattle.log_buffer.proofs.batch.fitting.Goals as goal

pub loop-count-preserved : goal.loop-count-preserved
loop-count-preserved g c =
    let size = g.R.Measured.size in let rs = c.args.records.now in let i = c.loop-count.count in let x = c.index-records-count.result in
    let told : c.size-size.result ≡ size (get_or rs i x) = c.size-size.ensures ∙ ap size c.index-records-count.is in
    let inside : i < length rs = c.loop-count-test.true in
    let fits : size (get_or rs i x) ≤ c.loop-count.left = omega (arith, told, c.if-left-size.false) in
    let more = sizes_next size rs i x inside in let fit = fitting_next size c.loop-count.left rs i x inside fits in
    let left : c.loop-count.left ≡ (c.loop-count.left - c.size-size.result) + size (get_or rs i x) = omega (arith, told, fits) in
    let inv = c.loop-count.invariant in
    let same = ap (λ (n : ℕ). fitting_by size (c.loop-count.left - n) (drop (i + 1) rs)) told in
    (omega (arith, inv.0, fit, same), omega (arith, inv.1, more, left))
