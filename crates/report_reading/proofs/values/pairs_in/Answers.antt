use Rattle.std.proofs.Common.{map, sym, ◌∙◌, ap}
use Rattle.serde_json.specs.View.{view}
use Rattle.report_text.specs.Lines.{pair}
use Rattle.report_reading.proofs.Rows.{row_is}
use Rattle.report_reading.proofs.values.pairs_in.Goals as goal

pub returns-in-None : goal.returns-in-None
returns-in-None c = λ ps all same. (rw c.in-None.is at c.in_ok-pairs.ensures) ps all (row_is view (view c.args.value.now) c.in-Some.values.now.items (map pair ps) c.in-Some.ensures same ∙ ap (map view) (sym c.as_slice.ensures.value))
