-- Where an element is put into a list that is in order.
use Rattle.std.proofs.Common.{◌≡◌, refl, sym, ap, ◌∙◌, ℕ, suc, ◌+◌, cond, true, false, Bool, not, List, [], ◌∷◌, ◌++◌, get_or, set, Some, None, subst, arith}
use Rattle.std.specs.List.{position, position_from, insert}
use Rattle.std.proofs.lemmas.Iterator.Adapters.{position_from-zero}
use Rattle.std.specs.declared.cmp.Ordering.{Ordering}
use Rattle.std.specs.declared.cmp.Ordering.TheVariants.{Less, Equal, Greater}
use Rattle.std.specs.Ordering.{is_eq, is_gt, match_ordering}
use Rattle.clv_base.specs.declared.names.TxId.{TxId}
use Rattle.clv_base.specs.declared.modes.Anchor.{Anchor}
use Rattle.clv_base.specs.declared.modes.Holder.{Holder}
use Rattle.clv_base.specs.Orders.{tx_cmp, tx_insert}
use Rattle.clv_base.specs.Locks.{Locks, row_cmp, with_mode, take_one}

-- side says where the new element y stands beside x, and merge makes of x what stands there where both are at one place
module _ {X : Type 0} (side : X → Ordering) (y : X) (merge : X → X) where
  -- the list with y at its place
  abbrev pub put : List X → List X
  put [] = y ∷ []
  put (x ∷ xs) = match_ordering (side x) (y ∷ x ∷ xs) (merge x ∷ xs) (x ∷ put xs)

  -- x stands at the place of y or behind it
  abbrev pub reached : X → Bool
  reached x = not (is_gt (side x))

  abbrev at : Ordering → X → List X → List X
  at o x xs = match_ordering o (y ∷ x ∷ xs) (merge x ∷ xs) (x ∷ put xs)

  -- the place of y is k
  record Placed (xs : List X) (k : ℕ) : Type 0 where
    joins : (d : X) → is_eq (side (get_or xs k d)) ≡ true → put xs ≡ set xs k (merge (get_or xs k d))
    inserts : (d : X) → is_eq (side (get_or xs k d)) ≡ false → put xs ≡ insert xs k y

  less_here : (x : X) (xs : List X) → side x ≡ Less → Placed (x ∷ xs) 0
  less_here x xs e = record { joins = λ d t. let no : true ≡ false = sym t ∙ ap is_eq e in absurd cc; inserts = λ d t. ap (λ o. at o x xs) e }

  equal_here : (x : X) (xs : List X) → side x ≡ Equal → Placed (x ∷ xs) 0
  equal_here x xs e = record { joins = λ d t. ap (λ o. at o x xs) e; inserts = λ d t. let no : false ≡ true = sym t ∙ ap is_eq e in absurd cc }

  behind : (x : X) (xs : List X) (k : ℕ) → side x ≡ Greater → Placed xs k → Placed (x ∷ xs) (suc k)
  behind x xs k e p = record { joins = λ d t. ap (λ o. at o x xs) e ∙ ap (λ l. x ∷ l) (p.joins d t); inserts = λ d t. ap (λ o. at o x xs) e ∙ ap (λ l. x ∷ l) (p.inserts d t) }

  found_at : (n j : ℕ) (xs : List X) → position_from reached n xs ≡ Some j → (k : ℕ) × (n + k ≡ j) × Placed xs k
  found_at n j [] e = absurd cc
  found_at n j (x ∷ xs) e = go (side x) refl (found_at (n + 1) j xs) e
    where
      go : (o : Ordering) → side x ≡ o → (position_from reached (n + 1) xs ≡ Some j → (k : ℕ) × (n + 1 + k ≡ j) × Placed xs k) → cond (not (is_gt o)) (Some n) (position_from reached (n + 1) xs) ≡ Some j → (k : ℕ) × (n + k ≡ j) × Placed (x ∷ xs) k
      go Less w more s = (0, (let q : n ≡ j = cc in omega arith), less_here x xs w)
      go Equal w more s = (0, (let q : n ≡ j = cc in omega arith), equal_here x xs w)
      go Greater w more s = let t = more s in (suc t.0, (let q = t.1 in omega arith), behind x xs t.0 w t.2)

  not_found : (n : ℕ) (xs : List X) → position_from reached n xs ≡ None → put xs ≡ xs ++ y ∷ []
  not_found n [] e = refl
  not_found n (x ∷ xs) e = go (side x) refl (not_found (n + 1) xs) e
    where
      go : (o : Ordering) → side x ≡ o → (position_from reached (n + 1) xs ≡ None → put xs ≡ xs ++ y ∷ []) → cond (not (is_gt o)) (Some n) (position_from reached (n + 1) xs) ≡ None → put (x ∷ xs) ≡ (x ∷ xs) ++ y ∷ []
      go Less w more s = absurd cc
      go Equal w more s = absurd cc
      go Greater w more s = ap (λ o. at o x xs) w ∙ ap (λ l. x ∷ l) (more s)

  placed : (j : ℕ) (xs : List X) → position reached xs ≡ Some j → Placed xs j
  placed j xs e = let t = found_at 0 j xs (sym (position_from-zero reached xs) ∙ e) in subst (Placed xs) (let q = t.1 in omega arith) t.2

  pub put_last : (xs : List X) → position reached xs ≡ None → put xs ≡ xs ++ y ∷ []
  put_last xs e = not_found 0 xs (sym (position_from-zero reached xs) ∙ e)

  pub put_merged : (j : ℕ) (xs : List X) (x : X) → position reached xs ≡ Some j → x ≡ get_or xs j x → is_eq (side x) ≡ true → put xs ≡ set xs j (merge x)
  put_merged j xs x e there same = (placed j xs e).joins x (ap (λ z. is_eq (side z)) (sym there) ∙ same) ∙ ap (λ z. set xs j (merge z)) (sym there)

  pub put_before : (j : ℕ) (xs : List X) (x : X) → position reached xs ≡ Some j → x ≡ get_or xs j x → is_eq (side x) ≡ false → put xs ≡ insert xs j y
  put_before j xs x e there other = (placed j xs e).inserts x (ap (λ z. is_eq (side z)) (sym there) ∙ other)

-- to take a lock is to put a row
module _ (a : Anchor) (h : Holder) where
  abbrev pub row_side : Anchor × Holder → Ordering
  row_side r = row_cmp a h.tx r

  abbrev pub row_merge : Anchor × Holder → Anchor × Holder
  row_merge r = (a, with_mode r.1 h.mode)

  pub take_one-put : (rows : Locks) → take_one a h rows ≡ put row_side (a, h) row_merge rows
  take_one-put [] = refl
  take_one-put (r ∷ rs) = ap (λ l. match_ordering (row_side r) ((a, h) ∷ r ∷ rs) (row_merge r ∷ rs) (r ∷ l)) (take_one-put rs)

-- to insert a transaction is to put it
module _ (tx : TxId) where
  abbrev pub tx_side : TxId → Ordering
  tx_side x = tx_cmp tx x

  pub tx_insert-put : (txs : List TxId) → tx_insert tx txs ≡ put tx_side tx (λ x. x) txs
  tx_insert-put [] = refl
  tx_insert-put (x ∷ xs) = ap (λ l. match_ordering (tx_side x) (tx ∷ x ∷ xs) (x ∷ xs) (x ∷ l)) (tx_insert-put xs)
