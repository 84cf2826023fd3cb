use Rattle.std.proofs.Common.{◌∙◌, sym, arith}
use Rattle.script_lang.proofs.Texts.{are_digits_by, digits_are}
use Rattle.script_lang.proofs.lines.are_digits.Goals as goal

pub returns-then-is_lower : goal.returns-then-is_lower
returns-then-is_lower c = (
  λ all. are_digits_by c.args.word.now (grind arith) (omega (arith, c.if-word-gt400.false)) (omega (arith, c.if-word-ne0.false)) (sym c.is_lower.ensures ∙ c.if-is_lower.true) (sym c.has_digits_alone.ensures ∙ all),
  λ is. c.has_digits_alone.ensures ∙ (digits_are c.args.word.now is.0 is.1).1,
)
