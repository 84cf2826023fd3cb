use Rattle.std.proofs.Common.{sym, ◌∙◌, ap, arith, length, inl, inr, true}
use Rattle.std.proofs.lemmas.Bool.{both_ways}
use Rattle.hex.specs.Hex.{decode_of, encode_lower}
use Rattle.report_reading.proofs.Same.{too_long_text, not_decoded, decoded_few, other_text, unequal_texts}
use Rattle.report_reading.proofs.values.text_in.Goals as goal

pub returns-then-text-gt400 : goal.returns-then-text-gt400
returns-then-text-gt400 c = λ bytes fits same. too_long_text bytes c.args.text.now fits same c.if-text-gt400.true

pub returns-else-is_memory : goal.returns-else-is_memory
returns-else-is_memory c = λ bytes fits same. elim c.in-Err.ensures.err [
  | inl memory ↦ both_ways c.is_memory.result c.if-is_memory.false (c.is_memory.ensures.1 memory)
  | inr bad ↦ not_decoded bytes c.args.text.now c.in-Err.error fits same (ap decode_of (sym c.as_bytes.ensures.value) ∙ bad)
]

pub returns-then-ne : goal.returns-then-ne
returns-then-ne c = λ bytes fits same.
    other_text bytes c.in-Ok.bytes.items c.as_str.result.now c.args.text.now c.as_bytes.result.now fits same c.in-Ok.ensures.ok c.as_bytes.ensures.value
    (c.as_str.ensures.value ∙ c.in_ok-digits.ensures ∙ ap encode_lower c.as_slice.ensures.value) (unequal_texts c.as_str.result.now c.args.text.now c.if-ne.ensures)

pub new-requires : goal.new-requires
new-requires c =
    let few = decoded_few c.as_bytes.result.now c.in-Ok.bytes.items c.in-Ok.ensures.ok (let len = c.as_bytes.ensures.len in let low = c.if-text-gt400.false in omega arith) in
    let same = ap length c.as_slice-2.ensures.value in omega arith
