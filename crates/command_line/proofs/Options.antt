-- One more option of a command.
use Rattle.std.proofs.Common.{◌≡◌, ℕ, ◌+◌, true, List, ◌∷◌, drop, sym, ap, ◌∙◌}
use Rattle.std.specs.Borrow.{Bor}
use Rattle.clap.specs.Words.{App, with_rule}
use Rattle.command_line.specs.Apps.{option_rule, with_required}
use Rattle.command_line.specs.Steps.{texts}

pub option_more : (old new all : App) (names : List (Bor (List ℕ))) (place : ℕ) (name : Bor (List ℕ)) → drop place names ≡ name ∷ drop (place + 1) names
    → new ≡ with_rule old (option_rule name.now true) → with_required old (texts (drop place names)) ≡ all → with_required new (texts (drop (place + 1) names)) ≡ all
option_more old new all names place name e is so_far =
    ap (λ (a : App). with_required a (texts (drop (place + 1) names))) is ∙ sym (ap (λ (l : List (Bor (List ℕ))). with_required old (texts l)) e) ∙ so_far
