use Rattle.std.proofs.Common.{◌≡◌, ◌+◌, ◌-◌, ℕ, length, take, drop, Ok, Err, min, rules, arith}
use Rattle.std.proofs.lemmas.Bool.Decides.{nat_tests}
use Rattle.std.proofs.lemmas.Result.{err_from_is_err_and}
use Rattle.log_gate.specs.Opening.{StandsGate}
use Rattle.log_gate.proofs.Looking.{tells_looks_if}
use Rattle.log_gate.proofs.Pieces.{gate_taken, gate_broken}
use Rattle.log_gate.proofs.walking.gate_on.Goals as goal

pub returns-in_err-size-clause-told : goal.returns-in_err-size-clause-told
returns-in_err-size-clause-told g c =
    let p = err_from_is_err_and c.from_residual-in_err-size.result c.from_residual-in_err-size.ensures.1 in
    let left : ℕ = c.args.len - c.args.at - 1 in
    let count : ℕ = 1 + c.min.result in
    let many : 1 + c.min.result ≡ 1 + min (c.args.len - c.args.at - 1) 4 = first_of (search rules, omega (arith, c.min.ensures), grind (arith, nat_tests, c.min.ensures)) in
    rw p.1
    (tells_looks_if _ _ (λ bytes. length bytes ≡ c.args.len) (λ bytes. take count c.fill.new.into ≡ take count (drop c.args.at bytes)) (StandsGate c.args.at (Err p.0)) c.requires.len
    (λ bytes long piece.
    let size : length bytes ≡ c.args.at + (1 + (c.args.len - c.args.at - 1)) = omega (arith, long, c.requires.place) in
    gate_broken bytes (take count c.fill.new.into) c.args.at left count size many piece c.in_err-size.field-0.0 p.0 p.2 c.in_err-size.ensures.takes)
    c.in_ok-fill.ensures.told)

pub returns-clause-told : goal.returns-clause-told
returns-clause-told g c =
    let left : ℕ = c.args.len - c.args.at - 1 in
    let count : ℕ = 1 + c.min.result in
    let many : 1 + c.min.result ≡ 1 + min (c.args.len - c.args.at - 1) 4 = first_of (search rules, omega (arith, c.min.ensures), grind (arith, nat_tests, c.min.ensures)) in
    tells_looks_if _ _ (λ bytes. length bytes ≡ c.args.len) (λ bytes. take count c.fill.new.into ≡ take count (drop c.args.at bytes)) (StandsGate c.args.at (Ok c.in_ok-size.size)) c.requires.len
    (λ bytes long piece.
    let size : length bytes ≡ c.args.at + (1 + (c.args.len - c.args.at - 1)) = omega (arith, long, c.requires.place) in
    gate_taken bytes (take count c.fill.new.into) c.args.at left count size many piece c.in_ok-size.size c.in_ok-size.ensures.takes)
    c.in_ok-fill.ensures.told
