use Rattle.std.proofs.Common.{◌≡◌, ℕ, Bool, IfOk, subst, ◌∙◌}
use Rattle.std.proofs.Math.Path.{fun_ext}
use Rattle.checkpoint_taking.specs.Lsns.{has_lsn}
use Rattle.checkpoint_taking.proofs.StandingLsns.{stand_at}
use Rattle.checkpoint_taking.proofs.taking.lsns_of.Goals as goal

pub returns : goal.returns
returns c =
    subst (λ (f : ℕ → Bool). IfOk c.of.result (λ s. (n : ℕ) → has_lsn s n ≡ f n))
    (fun_ext (stand_at c.args.log.now c.as_slice.result.now (c.as_slice.ensures.value ∙ c.in_ok-lsns.ensures)))
    c.of.ensures
