use Rattle.std.proofs.lemmas.Bool.{both_ways}
use Rattle.serde_json.specs.View.{view}
use Rattle.report_reading.proofs.Rows.{no_back_word, no_back_number}
use Rattle.report_reading.proofs.acts.back_in.Goals as goal

pub returns-then-not-is_the : goal.returns-then-not-is_the
returns-then-not-is_the c = λ d can same. no_back_word d (view c.args.word.now) (view c.args.upto.now) can same (λ e. both_ways c.is_the.result c.if-not-is_the.true (c.is_the.ensures.1 e))

pub returns-in-None : goal.returns-in-None
returns-in-None c = λ d can same. no_back_number d (view c.args.word.now) (view c.args.upto.now) can same c.in-None.ensures
