use Rattle.std.proofs.Common.{ap, ◌∙◌}
use Rattle.serde_json.specs.Written.{has_float}
use Rattle.report_text.proofs.NoFloats.{in_transaction}
use Rattle.report_text.proofs.books.lines.Goals as goal

pub add_line-requires : goal.add_line-requires
add_line-requires c = ap has_float c.in_ok-value.ensures ∙ in_transaction c.row-item.result.tx c.row-item.result.ops
