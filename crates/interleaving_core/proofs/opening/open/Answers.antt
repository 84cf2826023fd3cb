use Rattle.std.proofs.Common.{rules, ◌≡◌, ◌∙◌, refl, sym, ap, [], Some}
use Rattle.interleaving_core.proofs.opening.open.Goals as goal

pub recover-requires-clause-log : goal.recover-requires-clause-log
recover-requires-clause-log g c = (record { splits = [] }, λ log is. is ∙ ap (λ rs. Some rs) (ap (λ x. x.records) c.new-gate.ensures ∙ sym c.new-log.ensures.items))

pub returns-in-Ok-new-clause-seated : goal.returns-in-Ok-new-clause-seated
returns-in-Ok-new-clause-seated g c =
    let kept : Some c.recover.new.gate.records ≡ Some c.in-Ok-recover.recovered.buffer.records =
    c.in-Ok-recover.ensures.gate (record { splits = [] }) (λ log is. is ∙ ap (λ rs. Some rs) (ap (λ x. x.records) c.new-gate.ensures ∙ sym c.new-log.ensures.items)) (Some c.recover.new.gate.records) refl in
    let unshut = c.in-Ok-recover.ensures.open in search rules
