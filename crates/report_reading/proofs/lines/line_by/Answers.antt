use Rattle.std.proofs.Common.{sym, ◌∙◌}
use Rattle.serde_json.specs.View.{view}
use Rattle.report_reading.proofs.Objects.{list_is_pair}
use Rattle.report_reading.proofs.lines.line_by.Goals as goal

pub returns-in-None : goal.returns-in-None
returns-in-None c = λ l can is text. list_is_pair l (view c.args.value.now) (sym c.is_array.ensures ∙ c.if-is_array.true) is can (λ p fits e. (rw c.in-None.is at c.in_ok-key.ensures) p fits e text)
