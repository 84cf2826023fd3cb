-- A PREPARE settles nobody.
use Rattle.std.proofs.Common.{List, [], ◌∷◌, refl, sym, ap, ◌∙◌}
use Rattle.clv_base.specs.declared.logs.LogRecord.{LogRecord}
use Rattle.clv_base.specs.declared.logs.LogRecord.TheVariants.{Prepare}
use Rattle.clv_base.specs.Logs.{commit_lsn}
use Rattle.txn_core.proofs.Settling.{commit_lsn-more}
use Rattle.txn_core.proofs.plans.write_closing.Goals as goal

pub returns-in-Prepare-clause-settled : goal.returns-in-Prepare-clause-settled
returns-in-Prepare-clause-settled c = λ t.
    c.requires.settled t ∙ sym (commit_lsn-more t c.args.buffer.now.records (Prepare c.args.tx c.args.home c.in-Prepare.predecessors ∷ []) refl)
    ∙ sym (ap (λ (log : List LogRecord). commit_lsn log t) c.append_reserved.ensures.records)
