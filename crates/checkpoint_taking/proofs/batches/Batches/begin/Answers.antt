use Rattle.std.proofs.Common.{[], ◌∷◌, ◌++◌, map, sym, subst}
use Rattle.std.specs.List.{AllByRecursion}
use Rattle.checkpoint_taking.specs.Cut.{FitsBatch}
use Rattle.checkpoint_taking.proofs.Sizes.{spelling_fits}
use Rattle.checkpoint_taking.proofs.batches.Batches.begin.Goals as goal

pub invariant_of-result : goal.invariant_of-result
invariant_of-result c =
    subst (λ vs. AllByRecursion FitsBatch (map (λ v. v.items) vs ++ (c.in_ok-payload_of.field-0).items ∷ [])) (sym c.new.ensures.items)
    (subst FitsBatch (sym c.in_ok-payload_of.ensures) (spelling_fits c.length_is_size_in_file.ensures c.args.r.now c.requires), tt)
