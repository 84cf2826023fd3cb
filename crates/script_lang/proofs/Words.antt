-- Where a text of words is parted.
use Rattle.std.proofs.Common.{◌≡◌, ℕ, suc, ◌<◌, List, [], ◌∷◌, ◌++◌, length, slice_index, subst, refl, sym, ap, ◌∙◌, arith, ◌==◌, ◌%◌, false, codes, Ok, Err, inl, inr}
use Rattle.std.proofs.lemmas.Bool.{ne_eqb}
use Rattle.std.proofs.lemmas.Str.Parse.{digit_at}
use Rattle.hex.specs.Hex.{decode_of}
use Rattle.hex.specs.declared.error.FromHexError.TheVariants.{OddLength}
use Rattle.hex.proofs.HexLemmas.{decode_of-odd, decode_of-same}
use Rattle.script_lang.specs.Reading.{Lacks}
use Rattle.script_lang.specs.Grammar.{IsNumber, AreTwo, AreThree, IsText, AreKeyAndText, lines_of}

-- a number has no space
pub number_has_no_space : (word : List ℕ) (n : ℕ) → IsNumber word n → Lacks 32 word
number_has_no_space word n is = λ k h e. let d = digit_at word k (is.digits).1 h in omega arith

-- texts are parted at the first space
pub parted_alike : (a b c d : List ℕ) → Lacks 32 a → Lacks 32 c → a ++ 32 ∷ b ≡ c ++ 32 ∷ d → (a ≡ c) × (b ≡ d)
parted_alike [] b [] d la lc e = (refl, cc)
parted_alike [] b (x ∷ c) d la lc e = absurd (lc 0 (omega arith) (cc))
parted_alike (x ∷ a) b [] d la lc e = absurd (la 0 (omega arith) (cc))
parted_alike (x ∷ a) b (y ∷ c) d la lc e =
    let rest : a ++ 32 ∷ b ≡ c ++ 32 ∷ d = cc in
    let same = parted_alike a b c d (λ k h. la (suc k) (omega arith)) (λ k h. lc (suc k) (omega arith)) rest in
    let heads : x ≡ y = cc in (cc, same.1)

-- a space stands where the words are parted
space_stands : (a b : List ℕ) → (length a < length (a ++ 32 ∷ b)) × (slice_index (a ++ 32 ∷ b) (length a) ≡ 32)
space_stands [] b = (omega arith, refl)
space_stands (x ∷ a) b = let deeper = space_stands a b in (omega arith, deeper.1)

-- a text without a space is not parted by one
pub not_parted : (text a b : List ℕ) → Lacks 32 text → text ≡ a ++ 32 ∷ b → ⊥
not_parted text a b none is =
    let at = space_stands a b in
    let lies : length a < length text = rw is at.0 in
    none (length a) lies (rw is at.1)

-- a text that is parted is numbers only where its words are
pub two_by_words : (text a b : List ℕ) → text ≡ a ++ 32 ∷ b → Lacks 32 a → (m n : ℕ) → AreTwo text m n → IsNumber a m × IsNumber b n
two_by_words text a b is none m n (c, d, same, first, second) =
    let e = parted_alike a b c d none (number_has_no_space c m first) (sym is ∙ same) in
    let P : List ℕ → Type 0 = λ w. IsNumber w m in
    let Q : List ℕ → Type 0 = λ w. IsNumber w n in
    (subst P (sym e.0) first, subst Q (sym e.1) second)

pub three_by_words : (text a b : List ℕ) → text ≡ a ++ 32 ∷ b → Lacks 32 a → (k m n : ℕ) → AreThree text k m n → IsNumber a k × AreTwo b m n
three_by_words text a b is none k m n (c, d, same, first, others) =
    let e = parted_alike a b c d none (number_has_no_space c k first) (sym is ∙ same) in
    let P : List ℕ → Type 0 = λ w. IsNumber w k in
    let Q : List ℕ → Type 0 = λ w. AreTwo w m n in
    (subst P (sym e.0) first, subst Q (sym e.1) others)

pub text_by_words : (text a b : List ℕ) → text ≡ a ++ 32 ∷ b → Lacks 32 a → (m : ℕ) (n : List ℕ) → AreKeyAndText text m n → IsNumber a m × IsText b n
text_by_words text a b is none m n (c, d, same, first, second) =
    let e = parted_alike a b c d none (number_has_no_space c m first) (sym is ∙ same) in
    let P : List ℕ → Type 0 = λ w. IsNumber w m in
    let Q : List ℕ → Type 0 = λ w. IsText w n in
    (subst P (sym e.0) first, subst Q (sym e.1) second)

-- `-` is no digits
no_dash : (word bytes : List ℕ) → word ≡ codes "-" → decode_of word ≡ Ok bytes → ⊥
no_dash word bytes is e = let no : Err OddLength ≡ Ok bytes = sym (decode_of-odd word (ap (λ w. length w % 2) is)) ∙ e in cc

-- a line ends at the first line feed, or with the text
pub line_cut : (a b : List ℕ) → Lacks 10 a → lines_of (a ++ 10 ∷ b) ≡ a ∷ lines_of b
line_cut [] b none = refl
line_cut (x ∷ a) b none =
    let deeper = line_cut a b (λ k h. none (suc k) (omega arith)) in
    let other : (x == 10) ≡ false = ne_eqb x 10 (none 0 (omega arith)) in rw (other, deeper)

pub last_line : (x : ℕ) (a : List ℕ) → Lacks 10 (x ∷ a) → lines_of (x ∷ a) ≡ (x ∷ a) ∷ []
last_line x [] none = let other : (x == 10) ≡ false = ne_eqb x 10 (none 0 (omega arith)) in rw other
last_line x (y ∷ a) none =
    let deeper = last_line y a (λ k h. none (suc k) (omega arith)) in
    let other : (x == 10) ≡ false = ne_eqb x 10 (none 0 (omega arith)) in rw (other, deeper)

pub last_line_of : (a : List ℕ) → 0 < length a → Lacks 10 a → lines_of a ≡ a ∷ []
last_line_of [] some none = absurd (let no : ⊥ = omega arith in no)
last_line_of (x ∷ a) some none = last_line x a none

-- ---- words with one meaning

pub number_once : (word : List ℕ) (m n : ℕ) → IsNumber word m → IsNumber word n → m ≡ n
number_once word m n a b = sym a.value ∙ b.value

pub two_once : (words : List ℕ) (k v m n : ℕ) → AreTwo words k v → AreTwo words m n → (k ≡ m) × (v ≡ n)
two_once words k v m n (a, b, is, one, two) other =
    let parts = two_by_words words a b is (number_has_no_space a k one) m n other in
    (number_once a k m one parts.0, number_once b v n two parts.1)

pub text_is_one : (word a b : List ℕ) → IsText word a → IsText word b → a ≡ b
text_is_one word a b (inl x) (inl y) = x.1 ∙ sym y.1
text_is_one word a b (inl x) (inr y) = absurd (no_dash word b x.0 y.decodes)
text_is_one word a b (inr x) (inl y) = absurd (no_dash word a y.0 x.decodes)
text_is_one word a b (inr x) (inr y) = decode_of-same word a b x.decodes y.decodes

pub text_once : (words : List ℕ) (k : ℕ) (v : List ℕ) (m : ℕ) (n : List ℕ) → AreKeyAndText words k v → AreKeyAndText words m n → (k ≡ m) × (v ≡ n)
text_once words k v m n (a, b, is, one, two) other =
    let parts = text_by_words words a b is (number_has_no_space a k one) m n other in
    (number_once a k m one parts.0, text_is_one b v n two parts.1)

pub three_once : (words : List ℕ) (i j k l m n : ℕ) → AreThree words i j k → AreThree words l m n → (i ≡ l) × (j ≡ m) × (k ≡ n)
three_once words i j k l m n (a, b, is, one, two) other =
    let parts = three_by_words words a b is (number_has_no_space a i one) l m n other in
    let last = two_once b j k m n two parts.1 in
    (number_once a i l one parts.0, last.0, last.1)
