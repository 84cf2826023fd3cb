use Rattle.std.proofs.Common.{◌≡◌, ◌<◌, ◌+◌, ◌++◌, ◌∷◌, [], ℕ, length, subst, sym, ap, ◌∙◌, arith}
use Rattle.report_reading.specs.Faults.{IsFault, too_long}
use Rattle.report_reading.specs.Texts.{Sums}
use Rattle.report_reading.specs.Reading.{SoFar, lines_so_far}
use Rattle.report_reading.proofs.Places.{IsAt, at_first, fault_here, fault_behind, fault_at_end, is_report}
use Rattle.report_reading.proofs.reading.read_report.Goals as goal

pub returns-then-bytes-gt-MOST_BYTES-clause-fault : goal.returns-then-bytes-gt-MOST_BYTES-clause-fault
returns-then-bytes-gt-MOST_BYTES-clause-fault c = λ n e. let first : 0 ≡ n = cc in subst (λ (m : ℕ). IsFault c.args.bytes.now m) first (too_long (omega arith))

pub loop-rest-init : goal.loop-rest-init
loop-rest-init c = subst (λ (s : SoFar). IsAt c.args.bytes.now c.args.bytes.now 0 s) (sym c.new-told.ensures) (at_first c.args.bytes.now (omega arith))

pub returns-then-is_empty-clause-report : goal.returns-then-is_empty-clause-report
returns-then-is_empty-clause-report c =
    let comes = (rw c.in-Ok-Ends.field-0-is at c.in-Ok-Ends.ensures) in
    let none : length c.cut_line.result.1.now ≡ 0 = grind arith in
    is_report c.args.bytes.now c.loop-rest.rest.now c.cut_line.result.0.now c.cut_line.result.1.now c.loop-rest.number c.loop-rest.told c.in-Ok-Ends.counts c.ended.result c.loop-rest.invariant c.cut_line.ensures.cut none comes.1
    (c.ended.ensures.lines ∙ ap (λ (s : SoFar). lines_so_far s ++ Sums c.in-Ok-Ends.counts ∷ []) comes.0) c.ended.ensures.can

pub returns-in-Ok-Ends-clause-fault : goal.returns-in-Ok-Ends-clause-fault
returns-in-Ok-Ends-clause-fault c = λ n e.
    let same : c.loop-rest.number + 1 + 1 ≡ n = cc in
    let comes = (rw c.in-Ok-Ends.field-0-is at c.in-Ok-Ends.ensures) in
    let some : 0 < length c.cut_line.result.1.now = grind arith in
    fault_behind c.args.bytes.now c.loop-rest.rest.now c.cut_line.result.0.now c.cut_line.result.1.now c.loop-rest.number n c.loop-rest.told c.in-Ok-Ends.counts c.stands.ensures c.loop-rest.invariant c.cut_line.ensures.cut (omega arith) comes.1
    comes.2 some

pub returns-in-Ok-Nowhere-clause-fault : goal.returns-in-Ok-Nowhere-clause-fault
returns-in-Ok-Nowhere-clause-fault c = λ n e.
    let same : c.loop-rest.number + 1 ≡ n = cc in
    fault_here c.args.bytes.now c.loop-rest.rest.now c.cut_line.result.0.now c.cut_line.result.1.now c.loop-rest.number n c.loop-rest.told c.read.new.self c.stands.ensures c.loop-rest.invariant c.cut_line.ensures.cut (omega arith)
    (rw c.in-Ok-Nowhere.field-0-is at c.in-Ok-Nowhere.ensures)

pub returns-clause-fault : goal.returns-clause-fault
returns-clause-fault c = λ n e.
    let same : c.loop-rest.number + 1 ≡ n = cc in
    let empty : length c.loop-rest.rest.now ≡ 0 = grind arith in
    fault_at_end c.args.bytes.now c.loop-rest.rest.now c.loop-rest.number n c.loop-rest.told c.stands-2.ensures c.loop-rest.invariant empty (omega arith)
