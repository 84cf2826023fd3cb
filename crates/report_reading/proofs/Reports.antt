-- Reports and their faults.
use Rattle.std.proofs.Common.{◌≡◌, ℕ, List, [], ◌∷◌, sym, ap, ap₂, ◌∙◌, arith, append_assoc}
use Rattle.clv_base.specs.declared.values.Value.{Value as ValueType}
use Rattle.report_reading.specs.Told.{ReportedTx, Reported}
use Rattle.report_reading.specs.Texts.{Sums, lines_of, counts_of, texts_of, IsReport, pair_lines, tx_lines}
use Rattle.report_reading.specs.Faults.{cut, at_line, at_end, too_long, ReportsHaveNoFault, ReportsTellOneThing}
use Rattle.report_reading.specs.Reading.{so_far}
use Rattle.report_reading.proofs.Whole.{cut_joined, same_lines, behind_so_far}

pub cut_report : (bytes : List ℕ) (r : Reported) → IsReport bytes r → cut bytes ≡ texts_of (lines_of r)
cut_report bytes r i = ap cut i.text ∙ cut_joined (lines_of r) (i.can).each

pub no_fault : ReportsHaveNoFault
no_fault bytes r line i (at_line front l behind short lines begins none) =
    none (r, behind, i.can, sym (cut_report bytes r i) ∙ lines ∙ sym (append_assoc front (l ∷ []) behind))
no_fault bytes r line i (at_end short begins none) = none r i
no_fault bytes r line i (too_long long) = (let short = i.short in omega arith)

reported : List (ℕ × ValueType) → List ReportedTx → ℕ → ℕ → Reported
reported ps ts u a = record { pairs = ps; txs = ts; unsettled = u; aborted = a }

pub one_thing : ReportsTellOneThing
unfolding reported
one_thing bytes r other i j =
    let lines : lines_of r ≡ lines_of other = same_lines (lines_of r) (lines_of other) (i.can).each (j.can).each (sym (cut_report bytes r i) ∙ cut_report bytes other j) in
    let parts = behind_so_far r (so_far other.pairs other.txs) (Sums (counts_of other)) [] (lines ∙ sym (append_assoc (pair_lines other.pairs) (tx_lines other.txs) (Sums (counts_of other) ∷ []))) in
    let unsettled : r.unsettled ≡ other.unsettled = ap (λ c. c.unsettled) parts.2 in
    let aborted : r.aborted ≡ other.aborted = ap (λ c. c.aborted) parts.2 in
    ap₂ (λ ps ts. reported ps ts r.unsettled r.aborted) parts.0 parts.1 ∙ ap₂ (reported other.pairs other.txs) unsettled aborted
