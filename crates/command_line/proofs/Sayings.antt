-- What a subcommand says.
use Rattle.std.proofs.Common.{◌≡◌, ◌≢◌, ◌≤◌, ℕ, List, length, map, slice_index, Option, option_map, codes, true, refl, sym, ap, ◌∙◌, subst, arith}
use Rattle.std.specs.Borrow.{Bor}
use Rattle.clap.specs.Words.{Row, Text, all_of, rows_of, matched_of, raw_values}
use Rattle.clap.specs.declared.parser.matches.Found.{Found}
use Rattle.clap.proofs.WalkLemmas.{raw_values-rows}
use Rattle.clv_base.specs.Shards.{are_splits}
use Rattle.command_line.specs.Commands.{Command, Make, Run, Show, Load, Serve, Audit, Standby, AreNumbers, listed, Says}
use Rattle.law_base.proofs.Lists.{unequal}

pub all_is : (f : Found) (id : Text) (result : Option (Bor (List (Bor (List ℕ))))) (list : Option (List Text))
    → option_map (λ s. map (λ v. v.now) s.now) result ≡ option_map raw_values (matched_of f id) → option_map (λ s. map (λ v. v.now) s.now) result ≡ list → all_of id (rows_of f) ≡ list
all_is f id result list e is = sym (raw_values-rows f id) ∙ sym e ∙ is

pub make_says : (rows : List Row) (command : Command) (words : List Text) → listed (all_of (codes "split") rows) ≡ words
    → ((splits : List ℕ) × (command ≡ Make splits) × AreNumbers words splits × (are_splits splits ≡ true)) → Says (codes "make") rows command
make_says rows command words e (splits, is, numbers, rise) =
    subst (λ (x : Command). Says (codes "make") rows x) (sym is) (refl, subst (λ (ws : List Text). AreNumbers ws splits) (sym e) numbers, rise)

pub make_not : (rows : List Row) (words : List Text) → listed (all_of (codes "split") rows) ≡ words
    → ((splits : List ℕ) → AreNumbers words splits → are_splits splits ≡ true → ⊥) → (command : Command) → Says (codes "make") rows command → ⊥
make_not rows words e none (Make splits) says = none splits (subst (λ (ws : List Text). AreNumbers ws splits) e says.1) says.2
make_not rows words e none (Run tries) says = unequal (codes "make") (codes "run") (omega arith) says.0
make_not rows words e none Show says = unequal (codes "make") (codes "show") (omega arith) says
make_not rows words e none (Load a b c d) says = unequal (codes "make") (codes "load") (omega arith) says.0
make_not rows words e none (Serve sessions) says = unequal (codes "make") (codes "serve") (omega arith) says.0
make_not rows words e none Audit says = unequal (codes "make") (codes "audit") (omega arith) says
make_not rows words e none (Standby counts) says = unequal (codes "make") (codes "standby") (omega arith) says.0

-- names that begin alike
unlike_next : (a b : List ℕ) → slice_index a 1 ≢ slice_index b 1 → a ≡ b → ⊥
unlike_next a b differ e = differ (ap (λ (w : List ℕ). slice_index w 1) e)

pub standby_says : (rows : List Row) (command : Command) (words : List Text) → listed (all_of (codes "count") rows) ≡ words
    → ((counts : List ℕ) × (command ≡ Standby counts) × AreNumbers words counts × (length counts ≤ 16)) → Says (codes "standby") rows command
standby_says rows command words e (counts, is, numbers, few) =
    subst (λ (x : Command). Says (codes "standby") rows x) (sym is) (refl, subst (λ (ws : List Text). AreNumbers ws counts) (sym e) numbers, few)

pub standby_not : (rows : List Row) (words : List Text) → listed (all_of (codes "count") rows) ≡ words
    → ((counts : List ℕ) → AreNumbers words counts → length counts ≤ 16 → ⊥) → (command : Command) → Says (codes "standby") rows command → ⊥
standby_not rows words e none (Standby counts) says = none counts (subst (λ (ws : List Text). AreNumbers ws counts) e says.1) says.2
standby_not rows words e none (Make splits) says = unequal (codes "standby") (codes "make") (omega arith) says.0
standby_not rows words e none (Run tries) says = unequal (codes "standby") (codes "run") (omega arith) says.0
standby_not rows words e none Show says = unlike_next (codes "standby") (codes "show") (omega arith) says
standby_not rows words e none (Load a b c d) says = unequal (codes "standby") (codes "load") (omega arith) says.0
standby_not rows words e none (Serve sessions) says = unlike_next (codes "standby") (codes "serve") (omega arith) says.0
standby_not rows words e none Audit says = unequal (codes "standby") (codes "audit") (omega arith) says
