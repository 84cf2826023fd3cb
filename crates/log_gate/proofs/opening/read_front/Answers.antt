use Rattle.std.proofs.Common.{◌≡◌, ℕ, List, length, take, drop, min, Ok, ◌∙◌, ap, rules, arith}
use Rattle.std.proofs.lemmas.Bool.Decides.{nat_tests}
use Rattle.std.proofs.lemmas.List.{take_min}
use Rattle.io_model.specs.declared.disk.Failed.{Failed}
use Rattle.log_gate.specs.Opening.{IsFrontOf}
use Rattle.log_gate.proofs.Looking.{tells_looks_if}
use Rattle.log_gate.proofs.opening.read_front.Goals as goal

front_is : (bytes front : List ℕ) (count len : ℕ) → length bytes ≡ len → count ≡ min 148 len → take count front ≡ take count bytes → take count front ≡ take 148 bytes
front_is bytes front count len long many piece =
    let all : count ≡ min 148 (length bytes) = omega (arith, many, long) in
    piece ∙ ap (λ (n : ℕ). take n bytes) all ∙ take_min 148 bytes

pub returns-clause-told : goal.returns-clause-told
returns-clause-told g c =
    let count : ℕ = c.min-count.result in
    let many : c.min-count.result ≡ min 148 c.args.len = first_of (search rules, omega (arith, c.min-count.ensures), grind (arith, nat_tests, c.min-count.ensures)) in
    tells_looks_if _ _ (λ bytes. length bytes ≡ c.args.len) (λ bytes. take count c.fill.new.into ≡ take count (drop 0 bytes)) (IsFrontOf {E = Failed} c.fill.new.into (Ok count)) c.requires.len
    (λ bytes long piece. front_is bytes c.fill.new.into count c.args.len long many piece)
    c.in_ok-fill.ensures.told
