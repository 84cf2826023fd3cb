-- What a restart brings back of commits that await their parts.
use Rattle.std.proofs.Common.{◌≡◌, refl, sym, subst, ◌∙◌, ℕ, true, false, cond, Bool, List, [], ◌∷◌, Some}
use Rattle.std.proofs.lemmas.Bool.{both_ways}
use Rattle.clv_base.specs.declared.names.TxId.{TxId}
use Rattle.clv_base.specs.declared.logs.LogRecord.{LogRecord}
use Rattle.clv_base.specs.declared.logs.LogRecord.TheVariants.{Update, Clr, Prepare, Commit, Abort, End, Restart, Add, Unadd, Forgotten, Check}
use Rattle.clv_base.specs.Orders.{tx_same, tx_get, tx_put, nat_in}
use Rattle.clv_base.specs.Logs.{ended_in, commit_parts}
use Rattle.clv_base.specs.Restarts.{unended_with, unended_in}
use Rattle.clv_base.proofs.SameNames.{tx_true}
use Rattle.law_base.proofs.Changed.{none_some, some_same}
use Rattle.law_base.proofs.Tables.{get_put}

-- it has its COMMIT, whose parts are among these, and no END
abbrev pub Unended : List LogRecord → List LogRecord → TxId → List ℕ → Type 0
Unended log rs t qs = (ended_in log t ≡ false) × ((ps : List ℕ) × (commit_parts rs t ≡ Some ps) × ((m : ℕ) → nat_in m ps ≡ true → nat_in m qs ≡ true))

-- a COMMIT with no parts
later_one : (log rs : List LogRecord) (tx t : TxId) (qs : List ℕ) (b : Bool) → Unended log rs t qs
    → (ended_in log t ≡ false) × ((ps : List ℕ) × (cond b (Some []) (commit_parts rs t) ≡ Some ps) × ((m : ℕ) → nat_in m ps ≡ true → nat_in m qs ≡ true))
later_one log rs tx t qs true u = (u.0, ([], refl, λ m i. absurd (both_ways false refl i)))
later_one log rs tx t qs false u = u

-- one that has its END
ended_one : (log rs : List LogRecord) (tx t : TxId) (parts qs : List ℕ) (b : Bool) → tx_same t tx ≡ b → ended_in log tx ≡ true → Unended log rs t qs
    → (ended_in log t ≡ false) × ((ps : List ℕ) × (cond b (Some parts) (commit_parts rs t) ≡ Some ps) × ((m : ℕ) → nat_in m ps ≡ true → nat_in m qs ≡ true))
ended_one log rs tx t parts qs true s e u = absurd (both_ways (ended_in log tx) (subst (λ z. ended_in log z ≡ false) (tx_true t tx s) u.0) e)
ended_one log rs tx t parts qs false s e u = u

-- one that has none
open_one : (log rs : List LogRecord) (tx t : TxId) (parts qs : List ℕ) (b : Bool) → tx_same t tx ≡ b → ended_in log tx ≡ false → cond b (Some parts) (tx_get t (unended_in log rs)) ≡ Some qs → (tx_get t (unended_in log rs) ≡ Some qs → Unended log rs t qs)
    → (ended_in log t ≡ false) × ((ps : List ℕ) × (cond b (Some parts) (commit_parts rs t) ≡ Some ps) × ((m : ℕ) → nat_in m ps ≡ true → nat_in m qs ≡ true))
open_one log rs tx t parts qs true s n g k = (subst (λ z. ended_in log z ≡ false) (sym (tx_true t tx s)) n, (parts, refl, λ m i. subst (λ z. nat_in m z ≡ true) (some_same parts qs g) i))
open_one log rs tx t parts qs false s n g k = k g

commit_one : (log rs : List LogRecord) (tx t : TxId) (parts qs : List ℕ) → tx_get t (unended_with log tx parts (unended_in log rs)) ≡ Some qs → (tx_get t (unended_in log rs) ≡ Some qs → Unended log rs t qs) → Unended log (Commit tx parts ∷ rs) t qs
commit_one log rs tx t [] qs g k = later_one log rs tx t qs (tx_same t tx) (k g)
commit_one log rs tx t (p ∷ ps) qs g k = at (ended_in log tx) refl g
  where
    at : (b : Bool) → ended_in log tx ≡ b → tx_get t (cond b (unended_in log rs) (tx_put tx (p ∷ ps) (unended_in log rs))) ≡ Some qs → Unended log (Commit tx (p ∷ ps) ∷ rs) t qs
    at true e g = ended_one log rs tx t (p ∷ ps) qs (tx_same t tx) refl e (k g)
    at false e g = open_one log rs tx t (p ∷ ps) qs (tx_same t tx) refl e (sym (get_put tx t (p ∷ ps) (unended_in log rs)) ∙ g) k

pub unended : (log rs : List LogRecord) (t : TxId) (qs : List ℕ) → tx_get t (unended_in log rs) ≡ Some qs → Unended log rs t qs
unended log [] t qs g = absurd (none_some qs g)
unended log (Commit tx parts ∷ rs) t qs g = commit_one log rs tx t parts qs g (unended log rs t qs)
unended log (Update tx k b a ∷ rs) t qs g = unended log rs t qs g
unended log (Clr tx u k a ∷ rs) t qs g = unended log rs t qs g
unended log (Prepare tx home us ∷ rs) t qs g = unended log rs t qs g
unended log (Abort tx ∷ rs) t qs g = unended log rs t qs g
unended log (End tx ∷ rs) t qs g = unended log rs t qs g
unended log (Restart run epoch ∷ rs) t qs g = unended log rs t qs g
unended log (Add tx k by ∷ rs) t qs g = unended log rs t qs g
unended log (Unadd tx u k by ∷ rs) t qs g = unended log rs t qs g
unended log (Forgotten ∷ rs) t qs g = unended log rs t qs g
unended log (Check run' epoch' upto base ∷ rs) t qs g = unended log rs t qs g
