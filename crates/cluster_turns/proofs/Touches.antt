-- The epoch of a touched shard, after one more touch.
use Rattle.std.proofs.Common.{◌≡◌, ◌∙◌, refl, sym, ap, ℕ, ◌==◌, Bool, true, false, cond, List, [], ◌∷◌, Option, Some, None, eq-eqb}
use Rattle.std.specs.Prelude.{is_some, unwrap_or}
use Rattle.std.specs.Map.{lookup}
use Rattle.std.specs.BTreeMap.{insert_entry}
use Rattle.std.specs.Ordering.{nat_cmp, match_ordering, is_eq}
use Rattle.std.specs.declared.cmp.Ordering.{Ordering}
use Rattle.std.specs.declared.cmp.Ordering.TheVariants.{Less, Equal, Greater}
use Rattle.std.proofs.lemmas.Bool.{both_ways}
use Rattle.clv_base.specs.Sessions.{touch}
use Rattle.clv_base.proofs.SameNames.{nat_cmp_true, nat_cmp_self}
use Rattle.law_base.proofs.Numbers.{unequal_test as apart}
use Rattle.law_base.proofs.Options.{found_none}

greater_apart : (n k : ℕ) → nat_cmp n k ≡ Greater → (n == k) ≡ false
greater_apart n k e = apart n k (λ same. both_ways (is_eq (nat_cmp n k)) (ap is_eq e) (sym (ap (λ j. is_eq (nat_cmp n j)) same) ∙ nat_cmp_self n))

insert_here : (n epoch : ℕ) (ts : List (ℕ × ℕ)) → lookup (◌==◌ n) (insert_entry nat_cmp ts n epoch) ≡ Some epoch
insert_here n epoch [] = ap (λ b. cond b (Some epoch) None) (eq-eqb n n refl)
insert_here n epoch (t ∷ ts) = at (nat_cmp n t.0) refl (insert_here n epoch ts)
  where
    at : (o : Ordering) → nat_cmp n t.0 ≡ o → lookup (◌==◌ n) (insert_entry nat_cmp ts n epoch) ≡ Some epoch
        → lookup (◌==◌ n) (match_ordering o ((n, epoch) ∷ t ∷ ts) ((t.0, epoch) ∷ ts) (t ∷ insert_entry nat_cmp ts n epoch)) ≡ Some epoch
    at Less e h = ap (λ b. cond b (Some epoch) (lookup (◌==◌ n) (t ∷ ts))) (eq-eqb n n refl)
    at Equal e h = ap (λ b. cond b (Some epoch) (lookup (◌==◌ n) ts)) (eq-eqb n t.0 (nat_cmp_true n t.0 (ap is_eq e)))
    at Greater e h = ap (λ b. cond b (Some t.1) (lookup (◌==◌ n) (insert_entry nat_cmp ts n epoch))) (greater_apart n t.0 e) ∙ h

insert_else : (m n epoch : ℕ) (ts : List (ℕ × ℕ)) → (m ≡ n → ⊥) → lookup (◌==◌ m) (insert_entry nat_cmp ts n epoch) ≡ lookup (◌==◌ m) ts
insert_else m n epoch [] other = ap (λ b. cond b (Some epoch) None) (apart m n other)
insert_else m n epoch (t ∷ ts) other = at (nat_cmp n t.0) refl (insert_else m n epoch ts other)
  where
    at : (o : Ordering) → nat_cmp n t.0 ≡ o → lookup (◌==◌ m) (insert_entry nat_cmp ts n epoch) ≡ lookup (◌==◌ m) ts
        → lookup (◌==◌ m) (match_ordering o ((n, epoch) ∷ t ∷ ts) ((t.0, epoch) ∷ ts) (t ∷ insert_entry nat_cmp ts n epoch)) ≡ lookup (◌==◌ m) (t ∷ ts)
    at Less e h = ap (λ b. cond b (Some epoch) (lookup (◌==◌ m) (t ∷ ts))) (apart m n other)
    at Equal e h =
        let far = apart m t.0 (λ same. other (same ∙ sym (nat_cmp_true n t.0 (ap is_eq e)))) in
        ap (λ b. cond b (Some epoch) (lookup (◌==◌ m) ts)) far ∙ sym (ap (λ b. cond b (Some t.1) (lookup (◌==◌ m) ts)) far)
    at Greater e h = ap (λ o. cond (m == t.0) (Some t.1) o) h

some_or : (o : Option ℕ) (epoch : ℕ) → is_some o ≡ true → o ≡ Some (unwrap_or o epoch)
some_or None epoch h = absurd (both_ways false refl h)
some_or (Some v) epoch h = refl

-- the first touch's epoch
pub touch_here : (n epoch : ℕ) (ts : List (ℕ × ℕ)) → lookup (◌==◌ n) (touch n epoch ts) ≡ Some (unwrap_or (lookup (◌==◌ n) ts) epoch)
touch_here n epoch ts = at (is_some (lookup (◌==◌ n) ts)) refl
  where
    at : (b : Bool) → is_some (lookup (◌==◌ n) ts) ≡ b → lookup (◌==◌ n) (cond b ts (insert_entry nat_cmp ts n epoch)) ≡ Some (unwrap_or (lookup (◌==◌ n) ts) epoch)
    at true h = some_or (lookup (◌==◌ n) ts) epoch h
    at false h = insert_here n epoch ts ∙ sym (ap (λ o. Some (unwrap_or o epoch)) (found_none (lookup (◌==◌ n) ts) h))

-- other shards' stay
pub touch_else : (m n epoch : ℕ) (ts : List (ℕ × ℕ)) → (m ≡ n → ⊥) → lookup (◌==◌ m) (touch n epoch ts) ≡ lookup (◌==◌ m) ts
touch_else m n epoch ts other = at (is_some (lookup (◌==◌ n) ts))
  where
    at : (b : Bool) → lookup (◌==◌ m) (cond b ts (insert_entry nat_cmp ts n epoch)) ≡ lookup (◌==◌ m) ts
    at true = refl
    at false = insert_else m n epoch ts other
