use Rattle.std.proofs.Common.{inl, inr}
use Rattle.serde_json.specs.View.{view}
use Rattle.report_reading.proofs.Rows.{no_put}
use Rattle.report_reading.proofs.acts.put_in.Goals as goal

pub returns-in_default : goal.returns-in_default
returns-in_default c = λ d can same. no_put d (view c.args.key.now) (view c.args.value.now) (view c.args.answer.now) can same (inl c.in_default.ensures)

pub returns-in_default-2 : goal.returns-in_default-2
returns-in_default-2 c = λ d can same. no_put d (view c.args.key.now) (view c.args.value.now) (view c.args.answer.now) can same (inr (inl (rw c.in_default-2.is at c.in_ok-value.ensures)))

pub returns-in-None : goal.returns-in-None
returns-in-None c = λ d can same. no_put d (view c.args.key.now) (view c.args.value.now) (view c.args.answer.now) can same (inr (inr (rw c.in-None.is at c.in_ok-before.ensures)))
