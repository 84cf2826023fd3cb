use Rattle.std.proofs.Common.{inl, inr}
use Rattle.serde_json.specs.View.{view}
use Rattle.report_reading.proofs.Rows.{no_scan}
use Rattle.report_reading.proofs.acts.scan_in.Goals as goal

pub returns-in_default : goal.returns-in_default
returns-in_default c = λ d can same. no_scan d (view c.args.low.now) (view c.args.high.now) (view c.args.answer.now) can same (inl c.in_default.ensures)

pub returns-in_default-number_in : goal.returns-in_default-number_in
returns-in_default-number_in c = λ d can same. no_scan d (view c.args.low.now) (view c.args.high.now) (view c.args.answer.now) can same (inr (inl c.in_default-number_in.ensures))
