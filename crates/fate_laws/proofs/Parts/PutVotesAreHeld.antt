-- The votes that a request has: what each that is put has, each that is got has.
use Rattle.std.proofs.Common.{◌≡◌, refl, sym, ap, subst, ℕ, true, false, cond, Bool, List, [], ◌∷◌, Option, Some, ◌==◌, eqb-true, Ordering, Less, Equal, Greater, nat_cmp, is_eq}
use Rattle.std.specs.List.{AllByRecursion}
use Rattle.std.specs.Ordering.{match_ordering}
use Rattle.std.specs.BTreeMap.{insert_entry}
use Rattle.clv_base.specs.declared.causes.Vote.{Vote}
use Rattle.clv_base.specs.Coordinator.{vote_from}
use Rattle.clv_base.proofs.SameNames.{nat_cmp_true}
use Rattle.law_base.proofs.Changed.{none_some, some_same}

get_case : (P : ℕ → Vote → Type 0) (m : ℕ) (v : Vote) (r : ℕ × Vote) (o : Option Vote) (b : Bool) → (m == r.0) ≡ b → P r.0 r.1 → cond b (Some r.1) o ≡ Some v → (o ≡ Some v → P m v) → P m v
get_case P m v r o true e a g k = subst (λ z. P m z) (some_same r.1 v g) (subst (λ n. P n r.1) (sym (eqb-true m r.0 e)) a)
get_case P m v r o false e a g k = k g

pub votes_get : (P : ℕ → Vote → Type 0) (vs : List (ℕ × Vote)) (m : ℕ) (v : Vote) → AllByRecursion (λ r. P r.0 r.1) vs → vote_from m vs ≡ Some v → P m v
votes_get P [] m v a g = absurd (none_some v g)
votes_get P (r ∷ rs) m v a g = get_case P m v r (vote_from m rs) (m == r.0) refl a.0 g (votes_get P rs m v a.1)

put_case : (P : ℕ → Vote → Type 0) (o : Ordering) (m : ℕ) (v : Vote) (r : ℕ × Vote) (rs qs : List (ℕ × Vote)) → (o ≡ Equal → m ≡ r.0) → P m v → P r.0 r.1 → AllByRecursion (λ r. P r.0 r.1) rs → AllByRecursion (λ r. P r.0 r.1) qs
    → AllByRecursion (λ r. P r.0 r.1) (match_ordering o ((m, v) ∷ r ∷ rs) ((r.0, v) ∷ rs) (r ∷ qs))
put_case P Less m v r rs qs e a b c d = (a, (b, c))
put_case P Equal m v r rs qs e a b c d = (subst (λ n. P n v) (e refl) a, c)
put_case P Greater m v r rs qs e a b c d = (b, d)

pub votes_put : (P : ℕ → Vote → Type 0) (vs : List (ℕ × Vote)) (m : ℕ) (v : Vote) → P m v → AllByRecursion (λ r. P r.0 r.1) vs → AllByRecursion (λ r. P r.0 r.1) (insert_entry nat_cmp vs m v)
votes_put P [] m v a k = (a, tt)
votes_put P (r ∷ rs) m v a k = put_case P (nat_cmp m r.0) m v r rs (insert_entry nat_cmp rs m v) (λ e. nat_cmp_true m r.0 (ap is_eq e)) a k.0 k.1 (votes_put P rs m v a k.1)
