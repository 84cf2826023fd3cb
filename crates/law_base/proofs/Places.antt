-- How many of a log's places a checkpoint stands for: they stay where the log goes on.
use Rattle.std.proofs.Common.{◌≡◌, ℕ, ◌≤◌, true, false, List, [], ◌∷◌, ◌++◌, refl, sym, subst}
use Rattle.std.specs.List.{AllByRecursion, list_all}
use Rattle.std.proofs.lemmas.Bool.{both_ways}
use Rattle.clv_base.specs.declared.logs.LogRecord.{LogRecord}
use Rattle.clv_base.specs.declared.logs.LogRecord.TheVariants.{Check}
use Rattle.clv_base.specs.LogRules.{upto_of}
use Rattle.clv_base.specs.FileRules.{has_own_spelling}
use Rattle.law_base.proofs.Logs.{IsUndo}

pub upto_later : (log more : List LogRecord) → upto_of more ≡ 0 → upto_of (log ++ more) ≡ upto_of log
upto_later [] more none = none
upto_later (r ∷ rs) more none = refl

-- so whatever number they are at most
pub upto_within : (n : ℕ) (log more : List LogRecord) → upto_of more ≡ 0 → upto_of log ≤ n → upto_of (log ++ more) ≤ n
upto_within n log more none l = subst (λ k. k ≤ n) (sym (upto_later log more none)) l

-- undo records begin no log with a checkpoint
pub undo_upto : (rs : List LogRecord) → AllByRecursion IsUndo rs → upto_of rs ≡ 0
undo_upto [] a = refl
undo_upto (Check run epoch upto base ∷ rs) a = absurd a.0
undo_upto (_ ∷ rs) a = refl

-- a log whose records have spellings of their own has none
pub own_upto : (log : List LogRecord) → list_all has_own_spelling log ≡ true → upto_of log ≡ 0
own_upto [] h = refl
own_upto (Check run epoch upto base ∷ rs) h = absurd (both_ways false refl h)
own_upto (_ ∷ rs) h = refl
