-- The places of a transaction's writes, with one more record.
use Rattle.std.proofs.Common.{◌≡◌, ℕ, suc, ◌+◌, ◌≤◌, Bool, true, false, cond, List, [], ◌∷◌, ◌++◌, length, Option, Some, None, ap, ◌∙◌, arith}
use Rattle.clv_base.specs.declared.names.TxId.{TxId}
use Rattle.clv_base.specs.Orders.{tx_same}
use Rattle.log_buffer.specs.declared.measured.Link.{Link}
use Rattle.log_buffer.specs.declared.measured.Link.TheVariants.{Writes, Undoes, Neither}
use Rattle.log_buffer.specs.Links.{undoes_of}
use Rattle.log_buffer.specs.Chains.{others, places_after, places_from, places, last_undo_from, last_undo}

places_from-snoc : (t : TxId) (n : ℕ) (ls : List Link) (l : Link) (ps : List ℕ) → places_from t n (ls ++ l ∷ []) ps ≡ places_after t (n + length ls) l (places_from t n ls ps)
places_from-snoc t n [] l ps = ap (λ k. places_after t k l ps) (omega arith)
places_from-snoc t n (x ∷ xs) l ps = places_from-snoc t (suc n) xs l (places_after t n x ps) ∙ ap (λ k. places_after t k l (places_from t n (x ∷ xs) ps)) (omega arith)

pub places-snoc : (t : TxId) (ls : List Link) (l : Link) → places t (ls ++ l ∷ []) ≡ places_after t (length ls) l (places t ls)
places-snoc t ls l = places_from-snoc t 0 ls l [] ∙ ap (λ k. places_after t k l (places t ls)) (omega arith)

last_undo_from-snoc : (t : TxId) (n : ℕ) (so_far : Option ℕ) (ls : List Link) (l : Link)
    → last_undo_from t n so_far (ls ++ l ∷ []) ≡ cond (undoes_of t l) (Some (n + length ls)) (last_undo_from t n so_far ls)
last_undo_from-snoc t n so_far [] l = ap (λ k. cond (undoes_of t l) (Some k) so_far) (omega arith)
last_undo_from-snoc t n so_far (x ∷ xs) l =
    last_undo_from-snoc t (suc n) (cond (undoes_of t x) (Some n) so_far) xs l ∙ ap (λ k. cond (undoes_of t l) (Some k) (last_undo_from t n so_far (x ∷ xs))) (omega arith)

pub last_undo-snoc : (t : TxId) (ls : List Link) (l : Link) → last_undo t (ls ++ l ∷ []) ≡ cond (undoes_of t l) (Some (length ls)) (last_undo t ls)
last_undo-snoc t ls l = last_undo_from-snoc t 0 None ls l ∙ ap (λ k. cond (undoes_of t l) (Some k) (last_undo t ls)) (omega arith)

few_others : (ps : List ℕ) → length (others ps) ≤ length ps
few_others [] = omega arith
few_others (p ∷ ps) = omega arith

few_after : (t : TxId) (n : ℕ) (l : Link) (ps : List ℕ) → length (places_after t n l ps) ≤ length ps + 1
few_after t n (Writes u) ps = at (tx_same t u)
  where
    at : (s : Bool) → length (cond s (n ∷ ps) ps) ≤ length ps + 1
    at true = omega arith
    at false = omega arith
few_after t n (Undoes u) ps = at (tx_same t u)
  where
    at : (s : Bool) → length (cond s (others ps) ps) ≤ length ps + 1
    at true = let few = few_others ps in omega arith
    at false = omega arith
few_after t n Neither ps = omega arith

few_from : (t : TxId) (n : ℕ) (ls : List Link) (ps : List ℕ) → length (places_from t n ls ps) ≤ length ls + length ps
few_from t n [] ps = omega arith
few_from t n (l ∷ ls) ps = let more = few_from t (suc n) ls (places_after t n l ps) in let one = few_after t n l ps in omega arith

-- no more writes of a transaction stand than there are records
pub places_few : (t : TxId) (ls : List Link) → length (places t ls) ≤ length ls
places_few t ls = let few = few_from t 0 ls [] in omega arith
