-- A COMMIT without parts has a spelling where its transaction's name has.
use Rattle.std.proofs.Common.{◌≡◌, refl, sym, subst, true, ℕ, List}
use Rattle.std.proofs.lemmas.Bool.{and_from}
use Rattle.clv_base.specs.declared.logs.LogRecord.TheVariants.{Commit}
use Rattle.clv_base.specs.FileRules.{has_spelling}
use Rattle.shard_core.proofs.deciding.commit_noted.Goals as goal

pub commit_part-requires-clause-spelled : goal.commit_part-requires-clause-spelled
commit_part-requires-clause-spelled g c =
    subst (λ (ps : List ℕ). has_spelling (Commit c.args.tx ps) ≡ true) (sym c.new-2.ensures) (and_from _ _ (and_from _ _ (and_from _ _ c.requires.name refl) refl) refl)
