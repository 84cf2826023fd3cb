use Rattle.std.proofs.Common.{List, [], ◌∷◌, sym}
use Rattle.serde_json.specs.Data.{Data}
use Rattle.serde_json.specs.View.{view}
use Rattle.report_text.specs.Lines.{num, value_data}
use Rattle.report_reading.proofs.Rows.{list_same, row_size}
use Rattle.report_reading.proofs.values.pair_of.Goals as goal

pub returns-then-values-ne2 : goal.returns-then-values-ne2
returns-then-values-ne2 c = λ x fits same.
    let row : List Data = num x.0 ∷ value_data x.1 ∷ [] in
    let size = row_size view c.args.values.now row (list_same row _ same) in c.if-values-ne2.true (sym size)
