use Rattle.std.proofs.Common.{◌∙◌, ap}
use Rattle.std.specs.Map.{lookup}
use Rattle.lock_index.specs.contracts.links.LinkPartialEq.TheImpl.{eq-value}
use Rattle.lock_index.proofs.Linking.{found_next}
use Rattle.lock_index.proofs.links.next.Goals as goal

pub returns : goal.returns
returns c = c.copied.ensures ∙ (c.get.ensures.value ∙ (ap (λ k. lookup (eq-value.it k) c.args.links.now.entries) c.make_link.ensures ∙ found_next c.args.tx c.args.at c.args.links.now.entries))
