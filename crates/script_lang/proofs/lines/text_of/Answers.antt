use Rattle.std.proofs.Common.{length, ap, arith}
use Rattle.hex.proofs.HexLemmas.{decode_of-ok}
use Rattle.script_lang.proofs.lines.text_of.Goals as goal

pub new-requires-in-Ok : goal.new-requires-in-Ok
new-requires-in-Ok c =
    let ok = decode_of-ok c.args.word.now c.in-Ok.bytes.items c.in-Ok.ensures.ok in
    let same = ap length c.as_slice-in-Ok.ensures.value in
    let few = ((c.are_digits.ensures.0 c.if-not-are_digits.false).1).few in
    omega (arith, ok.2, few, same)
