use Rattle.std.proofs.Common.{◌≡◌, refl, false, sym, ap, ◌∙◌, subst, cond, Some}
use Rattle.std.proofs.lemmas.Bool.{both_ways}
use Rattle.std.specs.Map.{lookup}
use Rattle.lock_index.specs.declared.links.Link.{Link}
use Rattle.lock_index.specs.contracts.links.LinkPartialEq.TheImpl.{eq-value}
use Rattle.lock_index.proofs.Linking.{found_next, next_changed}
use Rattle.lock_index.proofs.links.set.Goals as goal

pub unreachable-requires : goal.unreachable-requires
unreachable-requires c = let ls = c.args.links.now.entries in
    both_ways false refl (c.in_default.ensures.succeeds (c.requires (sym (found_next c.args.tx c.args.at ls) ∙ (sym (ap (λ k. lookup (eq-value.it k) ls) c.make_link.ensures) ∙ c.in_default.ensures.absent))))

pub returns-clause-links : goal.returns-clause-links
returns-clause-links c = let ls = c.args.links.now.entries in let ms = c.insert.new.self.entries in
    next_changed c.args.tx c.args.at ls ms (Some c.args.then) (subst (λ k. (q : Link) → lookup (eq-value.it q) ms ≡ cond (eq-value.it k q) (Some c.args.then) (lookup (eq-value.it q) ls)) c.make_link.ensures c.in-Ok.ensures.updates.0)

pub returns-clause-was : goal.returns-clause-was
returns-clause-was c = let ls = c.args.links.now.entries in c.in-Ok.ensures.old ∙ (ap (λ k. lookup (eq-value.it k) ls) c.make_link.ensures ∙ found_next c.args.tx c.args.at ls)
