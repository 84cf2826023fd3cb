use Rattle.std.proofs.Common.{◌∙◌, ap, refl, Err, arith}
use Rattle.record_stream.specs.declared.stop.Stop.{Stop}
use Rattle.record_stream.proofs.Laws.Coming.{cut_is_unfinished, unfinished_is_cut}
use Rattle.record_stream.proofs.records.is_unfinished.Goals as goal

pub returns-in-Ok : goal.returns-in-Ok
returns-in-Ok c = (λ e. absurd cc, λ u. let was = unfinished_is_cut c.args.bytes.now u in let is = c.in-Ok.ensures in absurd cc)

pub returns-in-Err-Cut : goal.returns-in-Err-Cut
returns-in-Err-Cut c = (λ e. cut_is_unfinished c.args.bytes.now (λ i. omega (arith, c.type_inv.bytes i)) (c.in-Err-Cut.ensures ∙ ap (λ (s : Stop). Err s) c.in-Err-Cut.field-0-is), λ u. refl)

pub returns-in-Err-Bad : goal.returns-in-Err-Bad
returns-in-Err-Bad c = (λ e. absurd cc, λ u. let was = unfinished_is_cut c.args.bytes.now u in let is = c.in-Err-Bad.ensures in let bad = c.in-Err-Bad.field-0-is in absurd cc)
