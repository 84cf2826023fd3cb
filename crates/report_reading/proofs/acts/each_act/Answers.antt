use Rattle.serde_json.specs.View.{view}
use Rattle.report_text.specs.Lines.{act}
use Rattle.report_reading.specs.Told.{can_be_done}
use Rattle.report_reading.proofs.Rows.{one_told}
use Rattle.report_reading.proofs.acts.each_act.Goals as goal

pub returns-in-None : goal.returns-in-None
returns-in-None c = λ ds all same. one_told can_be_done act view ds c.args.values.now c.loop-value.value-index c.value-item.result c.loop-value-test.true c.value-item.is all same (rw c.in-None.is at c.in_ok-act.ensures)
