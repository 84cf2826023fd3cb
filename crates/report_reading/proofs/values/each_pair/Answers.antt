use Rattle.serde_json.specs.View.{view}
use Rattle.report_text.specs.Lines.{pair}
use Rattle.report_reading.specs.Told.{fits_pair}
use Rattle.report_reading.proofs.Rows.{one_told}
use Rattle.report_reading.proofs.values.each_pair.Goals as goal

pub returns-in-None : goal.returns-in-None
returns-in-None c = λ ps all same. one_told fits_pair pair view ps c.args.values.now c.loop-value.value-index c.value-item.result c.loop-value-test.true c.value-item.is all same (rw c.in-None.is at c.in_ok-pair.ensures)
