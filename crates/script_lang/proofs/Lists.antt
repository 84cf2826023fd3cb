-- Lists that grow as a workload is made.
use Rattle.std.proofs.Common.{◌≡◌, ap, ◌∙◌, sym, ℕ, suc, ◌+◌, ◌-◌, ◌<◌, List, [], ◌∷◌, ◌++◌, append_assoc, arith}
use Rattle.clv_base.specs.declared.values.Value.TheVariants.{Num}
use Rattle.clv_base.specs.declared.ops.Op.TheVariants.{Put}
use Rattle.script_lang.specs.declared.actions.Action.TheVariants.{Do}
use Rattle.script_lang.specs.declared.actions.Ending.TheVariants.{Commit}
use Rattle.script_lang.specs.Grammar.{body}
use Rattle.script_lang.specs.Loads.{next_state, fill, transfers, sessions_from, transfer, session}
use Rattle.law_base.proofs.Numbers.{minus_suc as one_less}

-- one more element, and one fewer to come
pub grown : {A : Type 0} (items : List A) (x : A) (rest behind whole : List A) → items ++ rest ≡ whole → rest ≡ x ∷ behind → (items ++ x ∷ []) ++ behind ≡ whole
grown items x rest behind whole h e = append_assoc items (x ∷ []) behind ∙ ap (λ r. items ++ r) (sym e) ∙ h

pub fill_more : (n i : ℕ) → i < n → fill i (n - i) ≡ Do (Put i (Num 1000)) ∷ fill (i + 1) (n - (i + 1))
fill_more n i h = ap (fill i) (one_less n i h) ∙ ap (λ k. Do (Put i (Num 1000)) ∷ fill k (n - (i + 1))) (let e : suc i ≡ i + 1 = omega arith in e)

pub transfers_more : (accounts x n i : ℕ) → i < n → transfers accounts x (n - i) ≡ body (transfer accounts x ∷ []) Commit ∷ transfers accounts (next_state (next_state (next_state x))) (n - (i + 1))
transfers_more accounts x n i h = ap (transfers accounts x) (one_less n i h)

pub sessions_more : (seed accounts count n i : ℕ) → i < n → sessions_from seed accounts count (i + 1) (n - i) ≡ session seed accounts count (i + 1) ∷ sessions_from seed accounts count (i + 1 + 1) (n - (i + 1))
sessions_more seed accounts count n i h =
    ap (sessions_from seed accounts count (i + 1)) (one_less n i h)
    ∙ ap (λ k. session seed accounts count (i + 1) ∷ sessions_from seed accounts count k (n - (i + 1))) (let e : suc (i + 1) ≡ i + 1 + 1 = omega arith in e)
