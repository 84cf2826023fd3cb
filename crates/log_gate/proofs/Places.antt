-- A list of bytes with one byte at a place, and what a torn write behind it or over it leaves.
use Rattle.std.proofs.Common.{◌≡◌, ℕ, ◌+◌, min, List, [], ◌∷◌, ◌++◌, length, get_or, take, drop, sym, ◌∙◌, ap, arith, append_assoc, length-append, take-append-drop}
use Rattle.std.proofs.lemmas.List.{take_at, drop_at, drop_more, drop-drop}
use Rattle.io_model.specs.Story.{IsTorn, put}

module _ (front : List ℕ) (gate : ℕ) (rest : List ℕ) (at : ℕ) (size : at ≡ length front) where
  abbrev whole : List ℕ
  whole = front ++ gate ∷ rest

  long : length whole ≡ at + 1 + length rest
  long = omega (arith, length-append front (gate ∷ rest), size)

  pub take_gate : take (at + 1) whole ≡ front ++ gate ∷ []
  take_gate = ap (λ (l : List ℕ). take (at + 1) l) (sym (append_assoc front (gate ∷ []) rest)) ∙ take_at (front ++ gate ∷ []) rest (at + 1) (omega (arith, length-append front (gate ∷ []), size))

  pub drop_gate : drop (at + 1) whole ≡ rest
  drop_gate = ap (λ (l : List ℕ). drop (at + 1) l) (sym (append_assoc front (gate ∷ []) rest)) ∙ drop_at (front ++ gate ∷ []) rest (at + 1) (omega (arith, length-append front (gate ∷ []), size))

  -- a torn write behind the gate leaves the gate
  pub torn_behind : (count : ℕ) (image : List ℕ) → IsTorn (at + 1) count whole image → image ≡ front ++ gate ∷ drop (at + 1) image
  torn_behind count image torn =
      let inside : min (at + 1) (length whole) ≡ at + 1 = omega (arith, long) in
      let same : take (at + 1) image ≡ front ++ gate ∷ [] = ap (λ (n : ℕ). take n image) (sym inside) ∙ torn.before ∙ take_gate in
      sym (take-append-drop (at + 1) image) ∙ ap (λ (l : List ℕ). l ++ drop (at + 1) image) same ∙ append_assoc front (gate ∷ []) (drop (at + 1) image)

  -- a write behind the gate
  pub put_behind : (bytes : List ℕ) → put whole (at + 1) bytes ≡ front ++ gate ∷ (bytes ++ drop (length bytes) rest)
  put_behind bytes =
      let tail : drop (at + 1 + length bytes) whole ≡ drop (length bytes) rest = sym (drop-drop (length bytes) (at + 1) whole) ∙ ap (λ (l : List ℕ). drop (length bytes) l) drop_gate in
      ap (λ (l : List ℕ). l ++ bytes ++ drop (at + 1 + length bytes) whole) take_gate
      ∙ ap (λ (l : List ℕ). (front ++ gate ∷ []) ++ bytes ++ l) tail
      ∙ append_assoc (front ++ gate ∷ []) bytes (drop (length bytes) rest)
      ∙ append_assoc front (gate ∷ []) (bytes ++ drop (length bytes) rest)

  -- a torn write of the gate alone leaves all else
  pub torn_gate : (image : List ℕ) → IsTorn at 1 whole image → image ≡ front ++ get_or image at 0 ∷ rest
  torn_gate image torn =
      let inside : min at (length whole) ≡ at = omega (arith, long) in
      let before : take at image ≡ front = ap (λ (n : ℕ). take n image) (sym inside) ∙ torn.before ∙ take_at front (gate ∷ rest) at (sym size) in
      let behind : drop at image ≡ get_or image at 0 ∷ rest = drop_more image at 0 (omega (arith, torn.no_shorter, long)) ∙ ap (λ (l : List ℕ). get_or image at 0 ∷ l) (torn.behind ∙ drop_gate) in
      sym (take-append-drop at image) ∙ ap (λ (l : List ℕ). l ++ drop at image) before ∙ ap (λ (l : List ℕ). front ++ l) behind

  pub put_gate : (byte : ℕ) → put whole at (byte ∷ []) ≡ front ++ byte ∷ rest
  put_gate byte =
      ap (λ (l : List ℕ). l ++ (byte ∷ []) ++ drop (at + 1) whole) (take_at front (gate ∷ rest) at (sym size))
      ∙ ap (λ (l : List ℕ). front ++ (byte ∷ []) ++ l) drop_gate
      ∙ append_assoc front (byte ∷ []) rest
