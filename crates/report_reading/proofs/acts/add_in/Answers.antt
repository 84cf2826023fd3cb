use Rattle.std.proofs.Common.{inl, inr, sym}
use Rattle.serde_json.specs.View.{view}
use Rattle.report_reading.proofs.Rows.{no_add, no_bool}
use Rattle.report_reading.proofs.acts.add_in.Goals as goal

pub returns-in_default : goal.returns-in_default
returns-in_default c = λ d can same. no_add d (view c.args.key.now) (view c.args.by.now) (view c.args.answer.now) can same (inl c.in_default.ensures)

pub returns-in_default-number_in : goal.returns-in_default-number_in
returns-in_default-number_in c = λ d can same. no_add d (view c.args.key.now) (view c.args.by.now) (view c.args.answer.now) can same (inr (inl c.in_default-number_in.ensures))

pub returns-in-None : goal.returns-in-None
returns-in-None c = λ d can same. no_add d (view c.args.key.now) (view c.args.by.now) (view c.args.answer.now) can same (inr (inr (λ x e. no_bool (view c.args.answer.now) x c.in-None.ensures (sym e))))
