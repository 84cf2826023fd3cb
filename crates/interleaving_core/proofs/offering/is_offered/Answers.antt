use Rattle.std.proofs.Common.{◌≡◌, true, sym}
use Rattle.machine_calls.specs.Events.{event_fits}
use Rattle.interleaving_core.specs.Naming.{names_fit}
use Rattle.interleaving_core.proofs.Fitting.{step_fits}
use Rattle.interleaving_core.proofs.Sessioning.{of_answer}
use Rattle.interleaving_core.proofs.offering.is_offered.Goals as goal

pub returns-clause-fits : goal.returns-clause-fits
returns-clause-fits c =
    let a = c.args in
    of_answer c.session_may.result (λ may. may ≡ true → names_fit a.shard a.event.now ≡ true) (λ may. may ≡ true → event_fits a.shard a.event.now ≡ true)
    (λ may p q. step_fits a.history.now a.shard a.event.now c.requires.sent (sym c.if-not-comes_after_sending.ensures) (p q)) c.session_may.ensures.fits
