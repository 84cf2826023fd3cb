-- What is found under a name, by the rows.
use Rattle.std.proofs.Common.{◌≡◌, ℕ, List, Option, Some, None, MatchOption, option_map, refl, sym, ap, ◌∙◌, subst, ◌≤◌}
use Rattle.std.specs.Borrow.{Bor}
use Rattle.clap.specs.Words.{Text, first_of, rows_of, first_value}
use Rattle.clap.specs.declared.parser.matches.Found.{Found}
use Rattle.clap.proofs.WalkLemmas.{first_value-rows}
use Rattle.script_lang.specs.Grammar.{IsNumber}
use Rattle.command_line.specs.Commands.{IsGiven, IsUpTo}

pub found_is : (f : Found) (id : Text) (result : Option (Bor (List ℕ))) → option_map (λ s. s.now) result ≡ first_value f id → first_of id (rows_of f) ≡ option_map (λ s. s.now) result
found_is f id result e = sym (first_value-rows f id) ∙ sym e

pub found_some : (f : Found) (id : Text) (result : Option (Bor (List ℕ))) (word : Bor (List ℕ)) → option_map (λ s. s.now) result ≡ first_value f id → result ≡ Some word → first_of id (rows_of f) ≡ Some word.now
found_some f id result word e is = found_is f id result e ∙ ap (λ (r : Option (Bor (List ℕ))). option_map (λ s. s.now) r) is

pub found_none : (f : Found) (id : Text) (result : Option (Bor (List ℕ))) → option_map (λ s. s.now) result ≡ first_value f id → result ≡ None → first_of id (rows_of f) ≡ None
found_none f id result e is = found_is f id result e ∙ ap (λ (r : Option (Bor (List ℕ))). option_map (λ s. s.now) r) is

pub given_by : (v : Option Text) (word bytes : List ℕ) (r : Option ℕ) → v ≡ Some word → bytes ≡ word
    → MatchOption r ((n : ℕ) → IsNumber bytes n → ⊥) (λ n. IsNumber bytes n) → MatchOption r ((n : ℕ) → IsGiven v n → ⊥) (λ n. IsGiven v n)
given_by v word bytes r e same h =
    let g = subst (λ (b : List ℕ). MatchOption r ((n : ℕ) → IsNumber b n → ⊥) (λ n. IsNumber b n)) same h in
    subst (λ (o : Option Text). MatchOption r ((n : ℕ) → IsGiven o n → ⊥) (λ n. IsGiven o n)) (sym e) g

pub none_given : (v : Option Text) → v ≡ None → (n : ℕ) → IsGiven v n → ⊥
none_given v e n h = subst (λ (o : Option Text). IsGiven o n) e h

pub is_up_to : (v : Option Text) (word bytes : List ℕ) (most otherwise n : ℕ) → v ≡ Some word → bytes ≡ word → IsNumber bytes n → 1 ≤ n → n ≤ most → IsUpTo most otherwise v n
is_up_to v word bytes most otherwise n e same is some few =
    subst (λ (o : Option Text). IsUpTo most otherwise o n) (sym e) (subst (λ (b : List ℕ). IsNumber b n) same is, some, few)

pub up_to_is : (v : Option Text) (word bytes : List ℕ) (most otherwise n : ℕ) → v ≡ Some word → bytes ≡ word → IsUpTo most otherwise v n → IsNumber bytes n × (1 ≤ n) × (n ≤ most)
up_to_is v word bytes most otherwise n e same h =
    let g : IsNumber word n × (1 ≤ n) × (n ≤ most) = subst (λ (o : Option Text). IsUpTo most otherwise o n) e h in (subst (λ (b : List ℕ). IsNumber b n) (sym same) g.0, g.1, g.2)

pub up_to_none : (v : Option Text) (most otherwise : ℕ) → v ≡ None → IsUpTo most otherwise v otherwise
up_to_none v most otherwise e = subst (λ (o : Option Text). IsUpTo most otherwise o otherwise) (sym e) refl
