use Rattle.std.proofs.Common.{[], ◌∷◌, sym, subst}
use Rattle.std.specs.Result.{IfOk}
use Rattle.serde_json.specs.Data.{Data}
use Rattle.serde_json.specs.View.{view, items_of}
use Rattle.report_text.specs.Lines.{num, value_data, pair}
use Rattle.report_reading.specs.Told.{fits_pair}
use Rattle.report_reading.specs.Finding.{Finds}
use Rattle.report_reading.proofs.Rows.{seen_array, no_array}
use Rattle.report_reading.proofs.values.pair_in.Goals as goal

pub returns-in-Some : goal.returns-in-Some
returns-in-Some c =
    subst (λ (d : Data). IfOk c.pair_of.result (λ found. Finds fits_pair pair found d)) (seen_array view (view c.args.value.now) c.in-Some.values.now.items c.as_slice.result.now c.in-Some.ensures c.as_slice.ensures.value) c.pair_of.ensures

pub returns-in-None : goal.returns-in-None
returns-in-None c = λ p fits same. no_array (view c.args.value.now) (items_of (num p.0 ∷ value_data p.1 ∷ [])) c.in-None.ensures (sym same)
