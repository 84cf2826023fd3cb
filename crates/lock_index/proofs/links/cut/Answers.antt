use Rattle.std.proofs.Common.{◌≡◌, subst, cond, None, ap, ◌∙◌}
use Rattle.std.specs.Map.{lookup}
use Rattle.lock_index.specs.declared.links.Link.{Link}
use Rattle.lock_index.specs.contracts.links.LinkPartialEq.TheImpl.{eq-value}
use Rattle.lock_index.proofs.Linking.{found_next, next_changed}
use Rattle.lock_index.proofs.links.cut.Goals as goal

pub returns-clause-was : goal.returns-clause-was
returns-clause-was c = let ls = c.args.links.now.entries in c.swap_remove.ensures.value ∙ (ap (λ k. lookup (eq-value.it k) ls) c.make_link.ensures ∙ found_next c.args.tx c.args.at ls)

pub returns-clause-links : goal.returns-clause-links
returns-clause-links c = let ls = c.args.links.now.entries in let ms = c.swap_remove.new.self.entries in
    next_changed c.args.tx c.args.at ls ms None (subst (λ k. (q : Link) → lookup (eq-value.it q) ms ≡ cond (eq-value.it k q) None (lookup (eq-value.it q) ls)) c.make_link.ensures c.swap_remove.ensures.updates.0)
