use Rattle.std.proofs.Common.{◌≡◌, suc, refl, sym, ap, subst, ◌∙◌, [], Some}
use Rattle.clv_base.specs.Restarts.{greatest_epoch, log_after_restart, next_epoch, misfit}
use Rattle.interleaving_core.specs.Seated.{IsSeated}
use Rattle.interleaving_core.specs.declared.seat.Air.TheVariants.{Home}
use Rattle.interleaving_core.proofs.Reviving.{no_misfit, revives_is, revived_enters, seated_revived}
use Rattle.interleaving_core.proofs.restarting.revive_from.Goals as goal

pub revive-requires-clause-fits : goal.revive-requires-clause-fits
revive-requires-clause-fits g c =
    let m = g.M.Machine in let a = c.args in let s = m.shard a.machine.now in let found = a.found.items in
    let e : a.epoch ≡ next_epoch s found = c.requires.epoch ∙ ap (λ r. suc (greatest_epoch r s.local.epoch found)) (sym c.requires.shard.1) in
    let l : c.in-Ok-recover.recovered.buffer.records ≡ log_after_restart s.shard found s.run a.epoch =
    c.in-Ok-recover.ensures.log ∙ ap (λ n. log_after_restart n found 1 a.epoch) (sym c.requires.shard.0) ∙ ap (λ r. log_after_restart s.shard found r a.epoch) (sym c.requires.shard.1) in
    ap (λ x. misfit s x a.epoch) l ∙ no_misfit s found c.requires.log.0 a.epoch c.requires.log.1 e

pub returns-in-Ok-revive-clause-moves : goal.returns-in-Ok-revive-clause-moves
returns-in-Ok-revive-clause-moves g c kept is =
    let m = g.M.Machine in let a = c.args in let s = m.shard a.machine.now in let t = m.shard c.revive.new.self in let found = a.found.items in let log = c.in-Ok-recover.recovered.buffer.records in
    let e : a.epoch ≡ next_epoch s found = c.requires.epoch ∙ ap (λ r. suc (greatest_epoch r s.local.epoch found)) (sym c.requires.shard.1) in
    let l : log ≡ log_after_restart s.shard found s.run a.epoch =
    c.in-Ok-recover.ensures.log ∙ ap (λ n. log_after_restart n found 1 a.epoch) (sym c.requires.shard.0) ∙ ap (λ r. log_after_restart s.shard found r a.epoch) (sym c.requires.shard.1) in
    let told = c.in-Ok-revive.ensures.told in
    sym (revives_is s a.clock a.walker kept found a.epoch log c.requires.down is e l) ∙ revived_enters s t a.clock a.walker a.epoch log c.in-Ok-revive.outcome told.0 c.requires.room told.1

pub returns-in-Ok-revive-clause-seated : goal.returns-in-Ok-revive-clause-seated
returns-in-Ok-revive-clause-seated g c =
    let m = g.M.Machine in let a = c.args in let s = m.shard a.machine.now in let t = m.shard c.revive.new.self in let log = c.in-Ok-recover.recovered.buffer.records in
    let told = c.in-Ok-revive.ensures.told in
    let gate = c.recover.new.gate in
    subst (λ x. IsSeated t x Home) (sym c.in-Ok-revive.ensures.up)
    (seated_revived s t a.clock a.walker a.epoch log c.in-Ok-revive.outcome gate c.requires.room (revived_enters s t a.clock a.walker a.epoch log c.in-Ok-revive.outcome told.0 c.requires.room told.1)
    (c.in-Ok-recover.ensures.gate (record { splits = [] }) (λ l is. is ∙ ap (λ rs. Some rs) c.requires.gate.is) (Some gate.records) refl) c.in-Ok-recover.ensures.open c.in-Ok-recover.ensures.spelled)

pub recover-requires-clause-log : goal.recover-requires-clause-log
recover-requires-clause-log g c = (record { splits = [] }, λ l is. is ∙ ap (λ rs. Some rs) c.requires.gate.is)
