use Rattle.serde_json.specs.View.{view}
use Rattle.report_reading.proofs.Rows.{no_keyed_key, no_keyed_answer, no_keyed_word}
use Rattle.report_reading.proofs.acts.keyed_in.Goals as goal

pub returns-in_default : goal.returns-in_default
returns-in_default c = λ d can same. no_keyed_key d (view c.args.word.now) (view c.args.key.now) (view c.args.answer.now) can same c.in_default.ensures

pub returns-in_default-2 : goal.returns-in_default-2
returns-in_default-2 c = λ d can same. no_keyed_answer d (view c.args.word.now) (view c.args.key.now) (view c.args.answer.now) can same (rw c.in_default-2.is at c.in_ok-before.ensures)

pub returns-in-None : goal.returns-in-None
returns-in-None c = λ d can same. no_keyed_word d (view c.args.word.now) (view c.args.key.now) (view c.args.answer.now) can same c.in-None.ensures.0 c.in-None.ensures.1
