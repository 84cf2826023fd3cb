use Rattle.std.proofs.Common.{◌≡◌, true, List, sym, subst}
use Rattle.std.specs.List.{list_all}
use Rattle.report_reading.specs.declared.told.ReportedTx.{ReportedTx}
use Rattle.report_reading.specs.Told.{can_be_told}
use Rattle.report_reading.specs.Texts.{counts_of}
use Rattle.clv_audit.proofs.Judging.{all_told}
use Rattle.clv_audit.proofs.auditing.judge.Goals as goal

pub first_wrong-requires-clause-can : goal.first_wrong-requires-clause-can
first_wrong-requires-clause-can c =
    subst (λ (l : List ReportedTx). list_all can_be_told l ≡ true) (sym c.as_slice-txs.ensures) (all_told c.args.reported.now.pairs c.args.reported.now.txs (counts_of c.args.reported.now) c.requires.can.each)
