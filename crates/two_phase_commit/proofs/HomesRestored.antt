-- Rising commits put in one after another stand in their order, and are fit.
use Rattle.std.proofs.Common.{◌≡◌, true, List, [], ◌∷◌, ◌++◌, refl, sym, ap, subst, ◌∙◌, ℕ, ◌+◌, ◌<◌, length, get_or, drop, drop-cons, add-one, arith}
use Rattle.std.proofs.lemmas.Bool.{both_ways}
use Rattle.std.specs.List.{AllByRecursion}
use Rattle.std.specs.List.Sorted.{IsStrictlySortedBy}
use Rattle.std.specs.Map.{keys_of}
use Rattle.std.specs.BTreeMap.{insert_entry}
use Rattle.std.specs.Ordering.{nat_cmp}
use Rattle.clv_base.specs.declared.names.TxId.{TxId}
use Rattle.clv_base.specs.declared.state.Request.{Request}
use Rattle.clv_base.specs.FileRules.{tx_has_spelling}
use Rattle.clv_base.specs.Orders.{Table, tx_cmp}
use Rattle.clv_base.specs.Coordinator.{restored_request, restored_requests}
use Rattle.two_phase_commit.specs.Coordinated.{IsFit, AreNamed}
use Rattle.law_base.proofs.Tables.{put_last}
use Rattle.law_base.proofs.Names.{request_keys as keys_restored}

pub step_restored : (i : ℕ) (commits : Table (List ℕ)) (x : TxId × List ℕ) (now : Table Request) → IsStrictlySortedBy tx_cmp (keys_of commits) → i < length commits → x ≡ get_or commits i x
    → now ++ restored_requests (drop i commits) ≡ restored_requests commits
    → insert_entry tx_cmp now x.0 (restored_request x.1) ++ restored_requests (drop (i + 1) commits) ≡ restored_requests commits
step_restored i commits x now s h is e =
    let cut : drop i commits ≡ get_or commits i x ∷ drop (i + 1) commits = rw (add-one, drop-cons commits i x) refl in
    let here : drop i commits ≡ x ∷ drop (i + 1) commits = cut ∙ ap (λ (y : TxId × List ℕ). y ∷ drop (i + 1) commits) (sym is) in
    let whole : now ++ restored_requests (x ∷ drop (i + 1) commits) ≡ restored_requests commits = ap (λ l. now ++ restored_requests l) (sym here) ∙ e in
    put_last x.0 (restored_request x.1) now (restored_requests (drop (i + 1) commits))
    (subst (λ ks. IsStrictlySortedBy tx_cmp ks) (sym (ap keys_of whole ∙ keys_restored commits)) s) ∙ whole

nothing_rises : IsStrictlySortedBy nat_cmp []
unfolding IsStrictlySortedBy
nothing_rises = tt

restored_fit : (shard : ℕ) (parts : List ℕ) → IsFit shard (restored_request parts)
restored_fit shard parts = record { home = tt; few = omega arith; low = tt; rise = nothing_rises; acked = nothing_rises; parts = λ n e. absurd (both_ways _ refl e) }

restored_are_fit : (shard : ℕ) (commits : Table (List ℕ)) → AllByRecursion (λ p. IsFit shard p.1) (restored_requests commits)
restored_are_fit shard [] = tt
restored_are_fit shard (c ∷ cs) = (restored_fit shard c.1, restored_are_fit shard cs)

restored_are_named : (commits : Table (List ℕ)) → AreNamed commits → AreNamed (restored_requests commits)
restored_are_named [] n = tt
restored_are_named (c ∷ cs) n = (n.0, restored_are_named cs n.1)

front_are : (P : TxId × Request → Type 0) (xs ys : Table Request) → AllByRecursion P (xs ++ ys) → AllByRecursion P xs
front_are P [] ys a = tt
front_are P (x ∷ xs) ys a = (a.0, front_are P xs ys a.1)

pub so_far_fit : (shard : ℕ) (xs ys : Table Request) (commits : Table (List ℕ)) → xs ++ ys ≡ restored_requests commits → AllByRecursion (λ p. IsFit shard p.1) xs
so_far_fit shard xs ys commits e = front_are (λ p. IsFit shard p.1) xs ys (subst (λ (l : Table Request). AllByRecursion (λ p. IsFit shard p.1) l) (sym e) (restored_are_fit shard commits))

pub so_far_named : (xs ys : Table Request) (commits : Table (List ℕ)) → AreNamed commits → xs ++ ys ≡ restored_requests commits → AreNamed xs
so_far_named xs ys commits n e = front_are (λ p. tx_has_spelling p.0 ≡ true) xs ys (subst (λ (l : Table Request). AreNamed l) (sym e) (restored_are_named commits n))
