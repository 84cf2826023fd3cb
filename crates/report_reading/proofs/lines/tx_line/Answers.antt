use Rattle.std.proofs.Common.{sym, ap, ◌∙◌}
use Rattle.serde_json.specs.View.{view}
use Rattle.serde_json.specs.Written.{has_float}
use Rattle.report_reading.proofs.Objects.{told_parts, small_word, session_in, acts_whole}
use Rattle.report_reading.proofs.lines.tx_line.Goals as goal

pub returns-in_default-number_at : goal.returns-in_default-number_at
returns-in_default-number_at c = λ t can is text.
    let told = told_parts t can in c.in_default-number_at.ensures t.session (small_word t.session told.few_sessions) (session_in (view c.args.value.now) t is)

pub tx_text-requires : goal.tx_text-requires
tx_text-requires c = let found = (rw c.in-Some-2.is at c.in_ok-told.ensures) in sym (ap has_float found.1) ∙ acts_whole c.in-Some-2.told found.0
