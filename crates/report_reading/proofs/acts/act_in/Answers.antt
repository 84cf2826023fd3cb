use Rattle.std.proofs.Common.{sym, ◌∙◌, subst}
use Rattle.std.specs.Result.{IfOk}
use Rattle.serde_json.specs.Data.{Data}
use Rattle.serde_json.specs.View.{view, items_of}
use Rattle.report_text.specs.Lines.{act}
use Rattle.report_reading.specs.Told.{can_be_done}
use Rattle.report_reading.specs.Finding.{Finds}
use Rattle.report_reading.proofs.Rows.{seen_array, no_array, row_of, act_is_row}
use Rattle.report_reading.proofs.acts.act_in.Goals as goal

pub returns-in-Some : goal.returns-in-Some
returns-in-Some c =
    subst (λ (d : Data). IfOk c.row_in.result (λ found. Finds can_be_done act found d)) (seen_array view (view c.args.value.now) c.in-Some.values.now.items c.as_slice.result.now c.in-Some.ensures c.as_slice.ensures.value) c.row_in.ensures

pub returns-in-None : goal.returns-in-None
returns-in-None c = λ d can same. no_array (view c.args.value.now) (items_of (row_of d)) c.in-None.ensures (sym same ∙ act_is_row d)
