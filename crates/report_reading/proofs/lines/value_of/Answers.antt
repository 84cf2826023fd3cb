use Rattle.std.proofs.Common.{◌≡◌, Option, Some, None, IsUtf8, sym, ap, ◌∙◌, subst}
use Rattle.std.proofs.lemmas.Bool.{both_ways}
use Rattle.std.proofs.lemmas.Option.{same_Some}
use Rattle.serde_json.specs.Data.{Data}
use Rattle.serde_json.specs.Read.{read}
use Rattle.serde_json.specs.View.{view}
use Rattle.serde_json.specs.Written.{compact_text}
use Rattle.report_reading.specs.Texts.{data_of}
use Rattle.report_reading.proofs.Printed.{printed_is_utf8}
use Rattle.report_reading.proofs.ReadBack.{good_line, read_line}
use Rattle.report_reading.proofs.lines.value_of.Goals as goal

pub returns-in-Ok : goal.returns-in-Ok
returns-in-Ok c = λ l can is. same_Some (view c.in-Ok.value) (data_of l) (sym c.in-Ok.ensures.ok.1 ∙ ap read is ∙ read_line l can)

pub returns-else-is_memory : goal.returns-else-is_memory
returns-else-is_memory c = λ l can is.
    let utf8 = subst IsUtf8 (sym is) (printed_is_utf8 (compact_text (data_of l)) (good_line l can).printed) in
    let none = c.in-Err.ensures.err (λ memory. both_ways c.is_memory.result c.if-is_memory.false (c.is_memory.ensures.1 memory)) utf8 in
    let wrong : ◌≡◌ {A = Option Data} (Some (data_of l)) None = sym (read_line l can) ∙ sym (ap read is) ∙ none in cc
