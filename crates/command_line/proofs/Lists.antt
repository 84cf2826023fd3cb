-- Words that are numbers, one after another.
use Rattle.std.proofs.Common.{◌≡◌, ℕ, List, [], ◌∷◌, ◌++◌, sym, ap, ap₂, ◌∙◌, subst, refl}
use Rattle.std.specs.Borrow.{Bor}
use Rattle.clap.specs.Words.{Text}
use Rattle.script_lang.specs.Grammar.{IsNumber}
use Rattle.command_line.specs.Commands.{AreNumbers}
use Rattle.command_line.specs.Steps.{texts}
use Rattle.std.proofs.lemmas.List.{map-append}
use Rattle.script_lang.proofs.Laws.{number_once}

pub numbers_more : (words : List Text) (list : List ℕ) (word : Text) (n : ℕ) → AreNumbers words list → IsNumber word n → AreNumbers (words ++ word ∷ []) (list ++ n ∷ [])
numbers_more [] [] word n all one = (one, tt)
numbers_more [] (m ∷ list) word n all one = absurd all
numbers_more (w ∷ words) [] word n all one = absurd all
numbers_more (w ∷ words) (m ∷ list) word n all one = (all.0, numbers_more words list word n all.1 one)

-- a word among them that is no number
pub none_of_numbers : (before : List Text) (word : Text) (after : List Text) → ((n : ℕ) → IsNumber word n → ⊥) → (list : List ℕ) → AreNumbers (before ++ word ∷ after) list → ⊥
none_of_numbers [] word after none [] all = all
none_of_numbers [] word after none (n ∷ list) all = none n all.0
none_of_numbers (w ∷ before) word after none [] all = all
none_of_numbers (w ∷ before) word after none (n ∷ list) all = none_of_numbers before word after none list all.1

pub numbers_once : (words : List Text) (a b : List ℕ) → AreNumbers words a → AreNumbers words b → a ≡ b
numbers_once [] [] [] p q = refl
numbers_once [] [] (n ∷ b) p q = absurd q
numbers_once [] (m ∷ a) b p q = absurd p
numbers_once (w ∷ words) [] b p q = absurd p
numbers_once (w ∷ words) (m ∷ a) [] p q = absurd q
numbers_once (w ∷ words) (m ∷ a) (n ∷ b) p q = ap₂ (λ (x : ℕ) (xs : List ℕ). x ∷ xs) (number_once w m n p.0 q.0) (numbers_once words a b p.1 q.1)

pub one_more : (before after : List (Bor (List ℕ))) (word : Bor (List ℕ)) (bytes : List ℕ) (list grown : List ℕ) (n : ℕ)
    → bytes ≡ word.now → after ≡ before ++ word ∷ [] → AreNumbers (texts before) list → IsNumber bytes n → grown ≡ list ++ n ∷ [] → AreNumbers (texts after) grown
one_more before after word bytes list grown n same e all one is =
    let number = subst (λ (b : List ℕ). IsNumber b n) same one in
    let words : texts after ≡ texts before ++ word.now ∷ [] = ap texts e ∙ map-append (λ (s : Bor (List ℕ)). s.now) before (word ∷ []) in
    subst (λ (ws : List Text). AreNumbers ws grown) (sym words) (subst (λ (g : List ℕ). AreNumbers (texts before ++ word.now ∷ []) g) (sym is) (numbers_more (texts before) list word.now n all number))

pub one_is_none : (words before behind : List (Bor (List ℕ))) (word : Bor (List ℕ)) (bytes : List ℕ) → bytes ≡ word.now → words ≡ before ++ word ∷ behind
    → ((n : ℕ) → IsNumber bytes n → ⊥) → (list : List ℕ) → AreNumbers (texts words) list → ⊥
one_is_none words before behind word bytes same e none list all =
    let ws : texts words ≡ texts before ++ word.now ∷ texts behind = ap texts e ∙ map-append (λ (s : Bor (List ℕ)). s.now) before (word ∷ behind) in
    none_of_numbers (texts before) word.now (texts behind) (λ n is. none n (subst (λ (b : List ℕ). IsNumber b n) (sym same) is)) list (subst (λ (x : List Text). AreNumbers x list) ws all)
