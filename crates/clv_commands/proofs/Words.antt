-- Words are one command.
use Rattle.std.proofs.Common.{◌≡◌, refl, sym, ap, subst, ◌∙◌, ℕ, List, [], ◌∷◌, Option, Some, None, arith}
use Rattle.clap.specs.Words.{Row, Text}
use Rattle.command_line.specs.Commands.{IsGiven, IsUpTo, Says, IsCommand}
use Rattle.command_line.specs.declared.commands.Command.{Command}
use Rattle.command_line.specs.declared.commands.Command.TheVariants.{Make, Run, Show, Load, Serve, Audit, Standby}
use Rattle.clv_commands.specs.Top.{HasCommand}
use Rattle.law_base.proofs.Numbers.{below_differs as less}
use Rattle.script_lang.proofs.Laws.{number_once}
use Rattle.command_line.proofs.Laws.{numbers_once}

given_once : (o : Option Text) (m n : ℕ) → IsGiven o m → IsGiven o n → m ≡ n
given_once None m n p q = absurd p
given_once (Some word) m n p q = number_once word m n p q

up_to_once : (most otherwise : ℕ) (o : Option Text) (m n : ℕ) → IsUpTo most otherwise o m → IsUpTo most otherwise o n → m ≡ n
up_to_once most otherwise None m n p q = p ∙ sym q
up_to_once most otherwise (Some word) m n p q = number_once word m n p.0 q.0

-- the first letter of each command's name differs, but for three, whose second one does
abbrev first_letter : List ℕ → ℕ
first_letter [] = 0
first_letter (letter ∷ letters) = letter

abbrev second_letter : List ℕ → ℕ
second_letter [] = 0
second_letter (letter ∷ letters) = first_letter letters

says_once : (name : Text) (rows : List Row) (c d : Command) → Says name rows c → Says name rows d → c ≡ d
says_once name rows (Make a) (Make b) p q = ap Make (numbers_once _ a b p.1 q.1)
says_once name rows (Run a) (Run b) p q = ap Run (up_to_once 1000 100 _ a b p.1 q.1)
says_once name rows Show Show p q = refl
says_once name rows (Serve a) (Serve b) p q = ap Serve (up_to_once 64 16 _ a b p.1 q.1)
says_once name rows (Load s n a t) (Load s' n' a' t') p q =
    let es : s ≡ s' = given_once _ s s' p.1 q.1 in
    let en : n ≡ n' = given_once _ n n' p.2 q.2 in
    let ea : a ≡ a' = given_once _ a a' p.3 q.3 in
    let et : t ≡ t' = given_once _ t t' p.4 q.4 in
    cc
says_once name rows (Make a) (Run b2) p q = absurd (less 109 114 (omega arith) (ap first_letter (sym p.0 ∙ q.0)))
says_once name rows (Make a) Show p q = absurd (less 109 115 (omega arith) (ap first_letter (sym p.0 ∙ q)))
says_once name rows (Make a) (Load s2 n2 k2 t2) p q = absurd (less 108 109 (omega arith) (ap first_letter (sym q.0 ∙ p.0)))
says_once name rows (Run b) (Make a2) p q = absurd (less 109 114 (omega arith) (ap first_letter (sym q.0 ∙ p.0)))
says_once name rows (Run b) Show p q = absurd (less 114 115 (omega arith) (ap first_letter (sym p.0 ∙ q)))
says_once name rows (Run b) (Load s2 n2 k2 t2) p q = absurd (less 108 114 (omega arith) (ap first_letter (sym q.0 ∙ p.0)))
says_once name rows Show (Make a2) p q = absurd (less 109 115 (omega arith) (ap first_letter (sym q.0 ∙ p)))
says_once name rows Show (Run b2) p q = absurd (less 114 115 (omega arith) (ap first_letter (sym q.0 ∙ p)))
says_once name rows Show (Load s2 n2 k2 t2) p q = absurd (less 108 115 (omega arith) (ap first_letter (sym q.0 ∙ p)))
says_once name rows (Load s n k t) (Make a2) p q = absurd (less 108 109 (omega arith) (ap first_letter (sym p.0 ∙ q.0)))
says_once name rows (Load s n k t) (Run b2) p q = absurd (less 108 114 (omega arith) (ap first_letter (sym p.0 ∙ q.0)))
says_once name rows (Load s n k t) Show p q = absurd (less 108 115 (omega arith) (ap first_letter (sym p.0 ∙ q)))
says_once name rows (Make a) (Serve e2) p q = absurd (less 109 115 (omega arith) (ap first_letter (sym p.0 ∙ q.0)))
says_once name rows (Run b) (Serve e2) p q = absurd (less 114 115 (omega arith) (ap first_letter (sym p.0 ∙ q.0)))
says_once name rows Show (Serve e2) p q = absurd (less 101 104 (omega arith) (ap second_letter (sym q.0 ∙ p)))
says_once name rows (Load s n k t) (Serve e2) p q = absurd (less 108 115 (omega arith) (ap first_letter (sym p.0 ∙ q.0)))
says_once name rows (Serve e) (Make a2) p q = absurd (less 109 115 (omega arith) (ap first_letter (sym q.0 ∙ p.0)))
says_once name rows (Serve e) (Run b2) p q = absurd (less 114 115 (omega arith) (ap first_letter (sym q.0 ∙ p.0)))
says_once name rows (Serve e) Show p q = absurd (less 101 104 (omega arith) (ap second_letter (sym p.0 ∙ q)))
says_once name rows (Serve e) (Load s2 n2 k2 t2) p q = absurd (less 108 115 (omega arith) (ap first_letter (sym q.0 ∙ p.0)))
says_once name rows Audit Audit p q = refl
says_once name rows Audit (Make a2) p q = absurd (less 97 109 (omega arith) (ap first_letter (sym p ∙ q.0)))
says_once name rows Audit (Run b2) p q = absurd (less 97 114 (omega arith) (ap first_letter (sym p ∙ q.0)))
says_once name rows Audit Show p q = absurd (less 97 115 (omega arith) (ap first_letter (sym p ∙ q)))
says_once name rows Audit (Load s2 n2 k2 t2) p q = absurd (less 97 108 (omega arith) (ap first_letter (sym p ∙ q.0)))
says_once name rows Audit (Serve e2) p q = absurd (less 97 115 (omega arith) (ap first_letter (sym p ∙ q.0)))
says_once name rows (Make a) Audit p q = absurd (less 97 109 (omega arith) (ap first_letter (sym q ∙ p.0)))
says_once name rows (Run b) Audit p q = absurd (less 97 114 (omega arith) (ap first_letter (sym q ∙ p.0)))
says_once name rows Show Audit p q = absurd (less 97 115 (omega arith) (ap first_letter (sym q ∙ p)))
says_once name rows (Load s n k t) Audit p q = absurd (less 97 108 (omega arith) (ap first_letter (sym q ∙ p.0)))
says_once name rows (Serve e) Audit p q = absurd (less 97 115 (omega arith) (ap first_letter (sym q ∙ p.0)))
says_once name rows (Standby a) (Standby b) p q = ap Standby (numbers_once _ a b p.1 q.1)
says_once name rows (Standby f) (Make a) p q = absurd (less 109 115 (omega arith) (ap first_letter (sym q.0 ∙ p.0)))
says_once name rows (Make a) (Standby f) p q = absurd (less 109 115 (omega arith) (ap first_letter (sym p.0 ∙ q.0)))
says_once name rows (Standby f) (Run b) p q = absurd (less 114 115 (omega arith) (ap first_letter (sym q.0 ∙ p.0)))
says_once name rows (Run b) (Standby f) p q = absurd (less 114 115 (omega arith) (ap first_letter (sym p.0 ∙ q.0)))
says_once name rows (Standby f) (Load s n k t) p q = absurd (less 108 115 (omega arith) (ap first_letter (sym q.0 ∙ p.0)))
says_once name rows (Load s n k t) (Standby f) p q = absurd (less 108 115 (omega arith) (ap first_letter (sym p.0 ∙ q.0)))
says_once name rows (Standby f) Audit p q = absurd (less 97 115 (omega arith) (ap first_letter (sym q ∙ p.0)))
says_once name rows Audit (Standby f) p q = absurd (less 97 115 (omega arith) (ap first_letter (sym p ∙ q.0)))
says_once name rows (Standby f) Show p q = absurd (less 104 116 (omega arith) (ap second_letter (sym q ∙ p.0)))
says_once name rows Show (Standby f) p q = absurd (less 104 116 (omega arith) (ap second_letter (sym p ∙ q.0)))
says_once name rows (Standby f) (Serve e) p q = absurd (less 101 116 (omega arith) (ap second_letter (sym q.0 ∙ p.0)))
says_once name rows (Serve e) (Standby f) p q = absurd (less 101 116 (omega arith) (ap second_letter (sym p.0 ∙ q.0)))

abbrev says : Option (Text × List Row) → Command → Type 0
says None c = ⊥
says (Some x) c = Says x.0 x.1 c

pub one_command : (words : List (List ℕ)) (c d : Command) → IsCommand words c → IsCommand words d → c ≡ d
one_command words c d (fine, name, rows, sub, p) (fine', name', rows', sub', q) =
    says_once name rows c d p (subst (λ (o : Option (Text × List Row)). says o d) sub (subst (λ (o : Option (Text × List Row)). says o d) (sym sub') q))

-- what holds of one command that the words are holds of each
pub shown : (words : List (List ℕ)) (c : Command) (P : Command → Type 0) → IsCommand words c → P c → HasCommand words P
shown words c P is p d also = subst P (one_command words c d is also) p
