use Rattle.log_gate.proofs.Chain.{four, last_failed}
use Rattle.log_gate.proofs.calls.write_batch.Goals as goal

pub returns-in_err-sync-2-clause-told : goal.returns-in_err-sync-2-clause-told
returns-in_err-sync-2-clause-told g c =
    four _ _ _ _ _ _ _ _ _ _ c.in_ok-write_at.ensures.told c.in_ok-sync.ensures.told c.in_ok-write_at-2.ensures.told c.in_err-sync-2.ensures.told
    (λ s a b d t h1 h2 h3 h4. last_failed c.args.gate c.args.bytes.now c.from_residual-in_err-sync-2.result s a b d t c.from_residual-in_err-sync-2.ensures.0 h1 h2 h3 h4)
