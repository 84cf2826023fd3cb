-- Texts of printed bytes: none of them is a line feed, and all are ASCII.
use Rattle.std.proofs.Common.{◌≡◌, ℕ, zero, suc, ◌+◌, ◌/◌, ◌%◌, ◌^◌, ◌<◌, ◌≤◌, Bool, true, false, cond, ◌&&◌, nat_lt, nat_le, List, [], ◌∷◌, ◌++◌, length, get_or, decimal, IsUtf8, inl, inr, refl, sym, ◌∙◌, subst, arith}
use Rattle.std.proofs.lemmas.Bool.{and_parts, and_from, cases_eq, ltb-true, leb-true, lt-ltb, le-leb}
use Rattle.std.proofs.lemmas.Fmt.{decimal_is_IsNumeral}
use Rattle.std.proofs.lemmas.List.Folds.{list_all-append}
use Rattle.std.proofs.lemmas.Str.{IsUtf8-from_ascii}
use Rattle.std.proofs.lemmas.Str.Parse.{digit_at}
use Rattle.std.specs.List.{list_all}
use Rattle.json.specs.Print.{escape_byte, escape, quoted}
use Rattle.hex.specs.Hex.{encode_with, encode_lower, lower_digits}

abbrev pub is_printed : ℕ → Bool
is_printed b = nat_le 32 b && nat_lt b 128

abbrev pub Printed : List ℕ → Type 0
Printed xs = list_all is_printed xs ≡ true

pub printed_append : (xs ys : List ℕ) → Printed xs → Printed ys → Printed (xs ++ ys)
printed_append xs ys a b = list_all-append is_printed xs ys ∙ and_from _ _ a b

-- ---- escapes

escapes_below : ℕ → Bool
escapes_below zero = true
escapes_below (suc n) = cond (is_printed n) (list_all is_printed (escape_byte n)) true && escapes_below n

at_most : (b c : Bool) → b ≡ true → cond b c true ≡ true → c ≡ true
at_most true c e h = h
at_most false c e h = absurd (cc)

escape_below : (n : ℕ) → escapes_below n ≡ true → (x : ℕ) → x < n → is_printed x ≡ true → Printed (escape_byte x)
unfolding escapes_below
escape_below zero e x h p = absurd (omega arith)
escape_below (suc n) e x h p =
    let parts = and_parts (cond (is_printed n) (list_all is_printed (escape_byte n)) true) (escapes_below n) e in
    elim (cases_eq x n) [
      | inl same ↦ subst (λ (m : ℕ). Printed (escape_byte m)) (sym same) (at_most _ _ (subst (λ (m : ℕ). is_printed m ≡ true) same p) parts.0)
      | inr other ↦ escape_below n parts.1 x (omega arith) p
    ]

all_escapes : escapes_below 128 ≡ true
unfolding escapes_below escape_byte
all_escapes = refl

pub printed_escape : (s : List ℕ) → Printed s → Printed (escape s)
printed_escape [] h = refl
printed_escape (x ∷ s) h =
    let parts = and_parts (is_printed x) (list_all is_printed s) h in
    let small = and_parts (nat_le 32 x) (nat_lt x 128) parts.0 in
    printed_append (escape_byte x) (escape s) (escape_below 128 all_escapes x (ltb-true x 128 small.1) parts.0) (printed_escape s parts.1)

pub printed_quoted : (s : List ℕ) → Printed s → Printed (quoted s)
printed_quoted s h = printed_append (escape s) (34 ∷ []) (printed_escape s h) refl

-- ---- numbers, and texts as digits

printed_each : (xs : List ℕ) → ((i : ℕ) → i < length xs → (48 ≤ get_or xs i 0) × (get_or xs i 0 ≤ 57)) → Printed xs
printed_each [] h = refl
printed_each (x ∷ xs) h =
    let first = h 0 (omega arith) in
    and_from _ _ (and_from _ _ (le-leb 32 x (omega (arith, first.0))) (lt-ltb x 128 (omega (arith, first.1)))) (printed_each xs (λ i l. h (suc i) (omega arith)))

pub printed_decimal : (n : ℕ) → n < 2 ^ 64 → Printed (decimal n)
printed_decimal n h = printed_each (decimal n) (λ i l. digit_at _ i (decimal_is_IsNumeral n h).0.1 l)

digits_below : ℕ → Bool
digits_below zero = true
digits_below (suc n) = is_printed (get_or lower_digits n 0) && digits_below n

digit_below : (n : ℕ) → digits_below n ≡ true → (x : ℕ) → x < n → is_printed (get_or lower_digits x 0) ≡ true
unfolding digits_below
digit_below zero e x h = absurd (omega arith)
digit_below (suc n) e x h =
    let parts = and_parts (is_printed (get_or lower_digits n 0)) (digits_below n) e in
    elim (cases_eq x n) [
      | inl same ↦ subst (λ (m : ℕ). is_printed (get_or lower_digits m 0) ≡ true) (sym same) parts.0
      | inr other ↦ digit_below n parts.1 x (omega arith)
    ]

all_digits : digits_below 16 ≡ true
unfolding digits_below
all_digits = refl

pub printed_digits : (bytes : List ℕ) → list_all (λ b. nat_lt b 256) bytes ≡ true → Printed (encode_lower bytes)
unfolding encode_with
printed_digits [] h = refl
printed_digits (b ∷ bytes) h =
    let parts = and_parts (nat_lt b 256) (list_all (λ x. nat_lt x 256) bytes) h in
    let small : b < 256 = ltb-true b 256 parts.0 in
    and_from _ _ (digit_below 16 all_digits (b / 16) (omega arith)) (and_from _ _ (digit_below 16 all_digits (b % 16) (omega arith)) (printed_digits bytes parts.1))

-- ---- what follows

ascii_at : (xs : List ℕ) → Printed xs → (i : ℕ) → get_or xs i 0 < 128
ascii_at [] h i = omega arith
ascii_at (x ∷ xs) h zero = ltb-true x 128 (and_parts (nat_le 32 x) (nat_lt x 128) (and_parts (is_printed x) (list_all is_printed xs) h).0).1
ascii_at (x ∷ xs) h (suc i) = ascii_at xs (and_parts (is_printed x) (list_all is_printed xs) h).1 i

pub printed_is_utf8 : (xs : List ℕ) → Printed xs → IsUtf8 xs
printed_is_utf8 xs h = IsUtf8-from_ascii xs (ascii_at xs h)

pub first_printed : (x : ℕ) (xs : List ℕ) → Printed (x ∷ xs) → (x ≡ 10 → ⊥) × Printed xs
first_printed x xs h =
    let parts = and_parts (is_printed x) (list_all is_printed xs) h in
    let low : 32 ≤ x = leb-true 32 x (and_parts (nat_le 32 x) (nat_lt x 128) parts.0).0 in
    ((λ e. omega arith), parts.1)
