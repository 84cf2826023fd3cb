-- Notes, whose numbers fall from the last one on.
use Rattle.std.proofs.Common.{◌≡◌, ◌∙◌, refl, sym, ap, subst, ℕ, zero, suc, ◌+◌, ◌-◌, ◌<◌, ◌≤◌, Bool, true, false, cond, not, ◌&&◌, ◌||◌, ◌==◌, nat_lt, nat_le, List, [], ◌∷◌, ◌++◌, length, reverse, take, drop, get_or, arith, drop-cons, take-append-drop, append-nil, filter}
use Rattle.std.specs.List.{list_all}
use Rattle.std.proofs.lemmas.List.{take_more, reverse-append, reverse-reverse, get_or-reverse, length-reverse}
use Rattle.std.proofs.lemmas.List.Elements.{filter-append}
use Rattle.std.proofs.lemmas.Bool.{le-ltb, ltb-false, both_ways, lt-ltb, eq-eqb, and_from, le-leb}
use Rattle.clv_base.specs.Backs.{stands_for_back}
use Rattle.cluster_turns.specs.Notes.{is_noted, is_above, is_left, notes_left, FallFrom, AreFalling, AreUpTo}

-- ---- falling numbers

pub falls_to : (m n : ℕ) (ws : List (ℕ × ℕ)) → m ≤ n → FallFrom m ws → FallFrom n ws
falls_to m n [] l h = tt
falls_to m n (w ∷ ws) l h = ((let k = h.0 in omega arith), h.1)

pub falls_rest : (n : ℕ) (ws : List (ℕ × ℕ)) → FallFrom n ws → FallFrom n (drop 1 ws)
falls_rest n [] h = tt
falls_rest n (w ∷ ws) h = falls_to w.1 n ws h.0 h.1

pub falls_kept : (p : ℕ × ℕ → Bool) (n : ℕ) (ws : List (ℕ × ℕ)) → FallFrom n ws → FallFrom n (filter p ws)
falls_kept p n [] h = tt
falls_kept p n (w ∷ ws) h = at (p w) (falls_kept p w.1 ws h.1)
  where
    at : (b : Bool) → FallFrom w.1 (filter p ws) → FallFrom n (cond b (w ∷ filter p ws) (filter p ws))
    at true k = (h.0, k)
    at false k = falls_to w.1 n (filter p ws) h.0 k

pub falling_from : (n : ℕ) (ws : List (ℕ × ℕ)) → FallFrom n ws → AreFalling ws
falling_from n [] h = tt
falling_from n (w ∷ ws) h = h.1

pub falling_rest : (ws : List (ℕ × ℕ)) → AreFalling ws → AreFalling (drop 1 ws)
falling_rest [] h = tt
falling_rest (w ∷ ws) h = falling_from w.1 ws h

pub falling_kept : (p : ℕ × ℕ → Bool) (ws : List (ℕ × ℕ)) → AreFalling ws → AreFalling (filter p ws)
falling_kept p [] h = tt
falling_kept p (w ∷ ws) h = falling_from w.1 (filter p (w ∷ ws)) (falls_kept p w.1 (w ∷ ws) ((omega arith), h))

falling_drop : (k : ℕ) (ws : List (ℕ × ℕ)) → AreFalling ws → AreFalling (drop k ws)
falling_drop zero ws h = h
falling_drop (suc k) [] h = tt
falling_drop (suc k) (w ∷ ws) h = falling_drop k ws (falling_from w.1 ws h)

falling_behind : (xs ys : List (ℕ × ℕ)) → AreFalling (xs ++ ys) → AreFalling ys
falling_behind [] ys h = h
falling_behind (x ∷ xs) ys h = falling_behind xs ys (falling_from x.1 (xs ++ ys) h)

-- ---- none above a number

pub none_above : (n upto : ℕ) (ws : List (ℕ × ℕ)) → n ≤ upto → FallFrom n ws → is_above upto ws ≡ false
none_above n upto [] l h = refl
none_above n upto (w ∷ ws) l h =
    let k = h.0 in ap (λ b. b || is_above upto ws) (le-ltb upto w.1 (omega arith)) ∙ none_above w.1 upto ws (omega arith) h.1

and_no : (a : Bool) → (a && false) ≡ false
and_no true = refl
and_no false = refl

pub none_noted : (n upto : ℕ) (ws : List (ℕ × ℕ)) → is_above upto ws ≡ false → is_noted n upto ws ≡ false
none_noted n upto [] h = refl
none_noted n upto (w ∷ ws) h = at (nat_lt upto w.1) refl (none_noted n upto ws)
  where
    at : (b : Bool) → nat_lt upto w.1 ≡ b → (is_above upto ws ≡ false → is_noted n upto ws ≡ false) → is_noted n upto (w ∷ ws) ≡ false
    at true e k = absurd (both_ways (is_above upto (w ∷ ws)) h (ap (λ b. b || is_above upto ws) e))
    at false e k = ap (λ b. ((w.0 == n) && b) || is_noted n upto ws) e ∙ ap (λ b. b || is_noted n upto ws) (and_no (w.0 == n)) ∙ k (sym (ap (λ b. b || is_above upto ws) e) ∙ h)

pub all_left : (n upto : ℕ) (ws : List (ℕ × ℕ)) → is_above upto ws ≡ false → notes_left n upto ws ≡ ws
all_left n upto [] h = refl
all_left n upto (w ∷ ws) h = at (nat_lt upto w.1) refl (all_left n upto ws)
  where
    rest : List (ℕ × ℕ)
    rest = notes_left n upto ws

    at : (b : Bool) → nat_lt upto w.1 ≡ b → (is_above upto ws ≡ false → rest ≡ ws) → notes_left n upto (w ∷ ws) ≡ w ∷ ws
    at true e k = absurd (both_ways (is_above upto (w ∷ ws)) h (ap (λ b. b || is_above upto ws) e))
    at false e k =
        ap (λ b. cond (not ((w.0 == n) && b)) (w ∷ rest) rest) e ∙ ap (λ b. cond (not b) (w ∷ rest) rest) (and_no (w.0 == n))
        ∙ ap (λ l. w ∷ l) (k (sym (ap (λ b. b || is_above upto ws) e) ∙ h))

-- ---- the last one but some

-- what stands behind k notes
pub behind : (k : ℕ) (ws : List (ℕ × ℕ)) (w : ℕ × ℕ) → k < length ws → w ≡ get_or ws k w → drop k ws ≡ w ∷ drop (suc k) ws
behind k ws w l is = drop-cons ws k w l ∙ ap (λ x. x ∷ drop (suc k) ws) (sym is)

-- it is read from the end of the list in which it lies
pub read_behind : (items now : List (ℕ × ℕ)) (k count : ℕ) (w : ℕ × ℕ) → reverse items ≡ now → count ≡ length items → k < count → w ≡ get_or items (count - 1 - k) w → w ≡ get_or now k w
read_behind items now k count w is len l at =
    at ∙ ap (λ j. get_or items j w) (let P : ℕ → Type 0 = λ m. m - 1 - k ≡ length items - 1 - k in subst P (sym len) refl) ∙ sym (get_or-reverse items k w (omega arith)) ∙ ap (λ l. get_or l k w) is

pub long_behind : (items now : List (ℕ × ℕ)) → reverse items ≡ now → length now ≡ length items
long_behind items now is = sym (ap length is) ∙ length-reverse items

pub falls_behind : (k : ℕ) (ws : List (ℕ × ℕ)) (w : ℕ × ℕ) → AreFalling ws → k < length ws → w ≡ get_or ws k w → FallFrom w.1 (drop (suc k) ws)
falls_behind k ws w h l is = let P : List (ℕ × ℕ) → Type 0 = λ xs. AreFalling xs in subst P (behind k ws w l is) (falling_drop k ws h)

pub above_behind : (upto k : ℕ) (ws : List (ℕ × ℕ)) (w : ℕ × ℕ) → AreFalling ws → k < length ws → w ≡ get_or ws k w → nat_lt upto w.1 ≡ is_above upto (drop k ws)
above_behind upto k ws w h l is = at (nat_lt upto w.1) refl ∙ sym (ap (is_above upto) (behind k ws w l is))
  where
    at : (b : Bool) → nat_lt upto w.1 ≡ b → nat_lt upto w.1 ≡ (nat_lt upto w.1 || is_above upto (drop (suc k) ws))
    at true e = e ∙ sym (ap (λ b. b || is_above upto (drop (suc k) ws)) e)
    at false e =
        e ∙ sym (ap (λ b. b || is_above upto (drop (suc k) ws)) e ∙ none_above w.1 upto (drop (suc k) ws) (ltb-false upto w.1 e) (falls_behind k ws w h l is))

pub noted_none : (n upto k : ℕ) (ws : List (ℕ × ℕ)) (w : ℕ × ℕ) → AreFalling ws → k < length ws → w ≡ get_or ws k w → w.1 ≤ upto → is_noted n upto (drop k ws) ≡ false
noted_none n upto k ws w h l is low =
    none_noted n upto (drop k ws) (sym (above_behind upto k ws w h l is) ∙ le-ltb upto w.1 low)

pub noted_here : (n upto k : ℕ) (ws : List (ℕ × ℕ)) (w : ℕ × ℕ) → k < length ws → w ≡ get_or ws k w → upto < w.1 → (w.0 == n) ≡ true → is_noted n upto (drop k ws) ≡ true
noted_here n upto k ws w l is high same =
    ap (is_noted n upto) (behind k ws w l is) ∙ ap (λ b. b || is_noted n upto (drop (suc k) ws)) (and_from (w.0 == n) (nat_lt upto w.1) same (lt-ltb upto w.1 high))

pub noted_on : (n upto k : ℕ) (ws : List (ℕ × ℕ)) (w : ℕ × ℕ) → k < length ws → w ≡ get_or ws k w → (w.0 == n) ≡ false → is_noted n upto (drop k ws) ≡ is_noted n upto (drop (suc k) ws)
noted_on n upto k ws w l is other =
    ap (is_noted n upto) (behind k ws w l is) ∙ ap (λ b. (b && nat_lt upto w.1) || is_noted n upto (drop (suc k) ws)) other

-- ---- a list in the order of the numbers

reverse_kept : (p : ℕ × ℕ → Bool) (xs : List (ℕ × ℕ)) → reverse (filter p xs) ≡ filter p (reverse xs)
reverse_kept p [] = refl
reverse_kept p (x ∷ xs) = at (p x) refl (reverse_kept p xs) ∙ sym (ap (filter p) (reverse-append (x ∷ []) xs) ∙ filter-append p (reverse xs) (x ∷ []))
  where
    at : (b : Bool) → p x ≡ b → reverse (filter p xs) ≡ filter p (reverse xs) → reverse (cond (p x) (x ∷ filter p xs) (filter p xs)) ≡ filter p (reverse xs) ++ cond (p x) (x ∷ []) []
    at true e k =
        ap (λ b. reverse (cond b (x ∷ filter p xs) (filter p xs))) e ∙ reverse-append (x ∷ []) (filter p xs) ∙ ap (λ l. l ++ x ∷ []) k
        ∙ sym (ap (λ b. filter p (reverse xs) ++ cond b (x ∷ []) []) e)
    at false e k =
        ap (λ b. reverse (cond b (x ∷ filter p xs) (filter p xs))) e ∙ k ∙ sym (append-nil (filter p (reverse xs)))
        ∙ sym (ap (λ b. filter p (reverse xs) ++ cond b (x ∷ []) []) e)

pub reversed_left : (n upto : ℕ) (xs : List (ℕ × ℕ)) → reverse (notes_left n upto xs) ≡ notes_left n upto (reverse xs)
reversed_left n upto xs = reverse_kept (is_left n upto) xs

-- those up to a number that none is above
pub left_before : (upto k : ℕ) (items : List (ℕ × ℕ)) (w : ℕ × ℕ) → AreFalling (reverse items) → k < length items → w ≡ get_or items k w → w.1 ≤ upto → (n : ℕ) → notes_left n upto (take (k + 1) items) ≡ take (k + 1) items
left_before upto k items w h l is low n =
    sym (reverse-reverse (notes_left n upto (take (k + 1) items))) ∙ ap reverse (reversed_left n upto (take (k + 1) items) ∙ all_left n upto (reverse (take (k + 1) items)) none) ∙ reverse-reverse (take (k + 1) items)
  where
    turned : reverse (take (k + 1) items) ≡ w ∷ reverse (take k items)
    turned = ap reverse (take_more items k w l) ∙ reverse-append (take k items) (get_or items k w ∷ []) ∙ ap (λ x. x ∷ reverse (take k items)) (sym is)

    falling : AreFalling (reverse (take (k + 1) items))
    falling = let P : List (ℕ × ℕ) → Type 0 = λ xs. AreFalling xs in
        falling_behind (reverse (drop (k + 1) items)) (reverse (take (k + 1) items))
        (subst P (ap reverse (sym (take-append-drop (k + 1) items)) ∙ reverse-append (take (k + 1) items) (drop (k + 1) items)) h)

    none : is_above upto (reverse (take (k + 1) items)) ≡ false
    none =
        let P : List (ℕ × ℕ) → Type 0 = λ xs. AreFalling xs in
        ap (is_above upto) turned ∙ none_above upto upto (w ∷ reverse (take k items)) (omega arith) (low, subst P turned falling)

-- ---- goings back so far

pub up_to_more : (m n : ℕ) (bs : List (ℕ × ℕ)) → m ≤ n → AreUpTo m bs → AreUpTo n bs
up_to_more m n [] l h = tt
up_to_more m n (b ∷ bs) l h = ((let k = h.0 in omega arith), up_to_more m n bs l h.1)

or_so : (x : Bool) → (x || true) ≡ true
or_so true = refl
or_so false = refl

all_before : (n : ℕ) (bs : List (ℕ × ℕ)) → AreUpTo n bs → list_all (λ b. nat_le n b.1 || nat_le b.0 n) bs ≡ true
all_before n [] h = refl
all_before n (b ∷ bs) h =
    and_from (nat_le n b.1 || nat_le b.0 n) (list_all (λ x. nat_le n x.1 || nat_le x.0 n) bs) (ap (λ x. nat_le n b.1 || x) (le-leb b.0 n h.0) ∙ or_so (nat_le n b.1)) (all_before n bs h.1)

pub stands_here : (n : ℕ) (bs : List (ℕ × ℕ)) → AreUpTo n bs → stands_for_back (suc n) n bs ≡ true
stands_here n bs h = and_from (nat_lt n (suc n)) (list_all (λ b. nat_le n b.1 || nat_le b.0 n) bs) (lt-ltb n (suc n) (omega arith)) (all_before n bs h)

-- ---- one note of the list

pub left_no : (n upto : ℕ) (w : ℕ × ℕ) → w.0 ≡ n → upto < w.1 → is_left n upto w ≡ false
left_no n upto w same high = ap not (and_from (w.0 == n) (nat_lt upto w.1) (eq-eqb w.0 n same) (lt-ltb upto w.1 high))

pub left_other : (n upto : ℕ) (w : ℕ × ℕ) → (w.0 == n) ≡ false → is_left n upto w ≡ true
left_other n upto w other = ap (λ b. not (b && nat_lt upto w.1)) other

pub left_low : (n upto : ℕ) (w : ℕ × ℕ) → w.1 ≤ upto → is_left n upto w ≡ true
left_low n upto w low = ap (λ b. not ((w.0 == n) && b)) (le-ltb upto w.1 low) ∙ ap not (and_no (w.0 == n))
