-- What is told as a value, by the shape of the value.
use Rattle.std.proofs.Common.{◌≡◌, ◌⊎◌, ℕ, zero, suc, ◌^◌, ◌<◌, ◌≤◌, Bool, true, false, ◌&&◌, nat_le, List, [], ◌∷◌, map, length, get_or, Option, Some, None, option_and_then, is_some, codes, MatchOption, inl, inr, refl, sym, ap, ◌∙◌, subst, arith}
use Rattle.std.proofs.lemmas.Bool.{and_parts, and_from, both_ways, le-leb, lt-ltb, leb-true, ltb-true}
use Rattle.std.specs.List.{list_all}
use Rattle.serde_json.specs.Data.{unsigned, negative, float, Data, null, boolean, number, string, array, object, Items}
use Rattle.serde_json.specs.Find.{as_null, as_bool, as_number, as_str, as_array, as_u64}
use Rattle.serde_json.specs.View.{items_of}
use Rattle.clv_base.specs.declared.values.Value.{Value as ValueType}
use Rattle.clv_base.specs.declared.ops.Op.{Op}
use Rattle.clv_base.specs.declared.ops.Op.TheVariants.{Get, Put, Del, Scan, Add}
use Rattle.clv_base.specs.declared.ops.Answer.{Answer}
use Rattle.clv_base.specs.declared.ops.Answer.TheVariants.{Value, Pairs, Added}
use Rattle.clv_base.specs.Values.{fits_value}
use Rattle.session_books.specs.Done.{Done, Did, WentBack}
use Rattle.script_lang.specs.Laws.{is_word}
use Rattle.report_text.specs.Lines.{num, list, value_data, optional, pair, answer, act}
use Rattle.report_reading.specs.Told.{fits_optional, fits_pair, is_answer_of, can_be_done}

-- ---- what a value is, by what it is asked

pub number_finds : (d : Data) (r : Option ℕ) → r ≡ option_and_then as_u64 (as_number d) → MatchOption r ((n : ℕ) → num n ≡ d → ⊥) (λ n. num n ≡ d)
number_finds null r e = subst (λ o. MatchOption o ((n : ℕ) → num n ≡ null → ⊥) (λ n. num n ≡ null)) (sym e) (λ n f. cc)
number_finds (boolean b) r e = subst (λ o. MatchOption o ((n : ℕ) → num n ≡ boolean b → ⊥) (λ n. num n ≡ boolean b)) (sym e) (λ n f. cc)
number_finds (number (unsigned m)) r e = subst (λ o. MatchOption o ((n : ℕ) → num n ≡ num m → ⊥) (λ n. num n ≡ num m)) (sym e) refl
number_finds (number (negative z)) r e = subst (λ o. MatchOption o ((n : ℕ) → num n ≡ number (negative z) → ⊥) (λ n. num n ≡ number (negative z))) (sym e) (λ n f. cc)
number_finds (number (float x)) r e = subst (λ o. MatchOption o ((n : ℕ) → num n ≡ number (float x) → ⊥) (λ n. num n ≡ number (float x))) (sym e) (λ n f. cc)
number_finds (string s) r e = subst (λ o. MatchOption o ((n : ℕ) → num n ≡ string s → ⊥) (λ n. num n ≡ string s)) (sym e) (λ n f. cc)
number_finds (array ds) r e = subst (λ o. MatchOption o ((n : ℕ) → num n ≡ array ds → ⊥) (λ n. num n ≡ array ds)) (sym e) (λ n f. cc)
number_finds (object ms) r e = subst (λ o. MatchOption o ((n : ℕ) → num n ≡ object ms → ⊥) (λ n. num n ≡ object ms)) (sym e) (λ n f. cc)

pub str_is : (d : Data) (s : List ℕ) → Some s ≡ as_str d → d ≡ string s
str_is null s e = absurd cc
str_is (boolean b) s e = absurd cc
str_is (number n) s e = absurd cc
str_is (string t) s e = (let same : s ≡ t = cc in ap string (sym same))
str_is (array ds) s e = absurd cc
str_is (object ms) s e = absurd cc

pub no_str : (d : Data) (s : List ℕ) → None ≡ as_str d → d ≡ string s → ⊥
no_str d s e f = let no : ◌≡◌ {A = Option (List ℕ)} None (Some s) = e ∙ ap as_str f in cc

pub array_is : (d : Data) (ds : Items) → Some ds ≡ as_array d → d ≡ array ds
array_is null ds e = absurd cc
array_is (boolean b) ds e = absurd cc
array_is (number n) ds e = absurd cc
array_is (string s) ds e = absurd cc
array_is (array es) ds e = (let same : ds ≡ es = cc in ap array (sym same))
array_is (object ms) ds e = absurd cc

pub no_array : (d : Data) (ds : Items) → None ≡ as_array d → d ≡ array ds → ⊥
no_array d ds e f = let no : ◌≡◌ {A = Option Items} None (Some ds) = e ∙ ap as_array f in cc

pub bool_is : (d : Data) (b : Bool) → Some b ≡ as_bool d → d ≡ boolean b
bool_is null b e = absurd cc
bool_is (boolean c) b e = (let same : b ≡ c = cc in ap boolean (sym same))
bool_is (number n) b e = absurd cc
bool_is (string s) b e = absurd cc
bool_is (array ds) b e = absurd cc
bool_is (object ms) b e = absurd cc

pub no_bool : (d : Data) (b : Bool) → None ≡ as_bool d → d ≡ boolean b → ⊥
no_bool d b e f = let no : ◌≡◌ {A = Option Bool} None (Some b) = e ∙ ap as_bool f in cc

pub null_is : (d : Data) → is_some (as_null d) ≡ true → d ≡ null
null_is null e = refl
null_is (boolean b) e = absurd (both_ways false refl e)
null_is (number n) e = absurd (both_ways false refl e)
null_is (string s) e = absurd (both_ways false refl e)
null_is (array ds) e = absurd (both_ways false refl e)
null_is (object ms) e = absurd (both_ways false refl e)

pub no_null : (d : Data) → is_some (as_null d) ≡ false → d ≡ null → ⊥
no_null d e f = both_ways (is_some (as_null d)) e (ap (λ x. is_some (as_null x)) f)

-- ---- lists of values

pub items_same : (ds es : List Data) → items_of ds ≡ items_of es → ds ≡ es
items_same [] [] e = refl
items_same [] (b ∷ es) e = absurd cc
items_same (a ∷ ds) [] e = absurd cc
items_same (a ∷ ds) (b ∷ es) e =
    let first : a ≡ b = cc in
    let rest : items_of ds ≡ items_of es = cc in
    ap (λ x. x ∷ ds) first ∙ ap (λ l. b ∷ l) (items_same ds es rest)

pub list_same : (ds es : List Data) → list ds ≡ list es → ds ≡ es
list_same ds es e = let items : items_of ds ≡ items_of es = cc in items_same ds es items

-- an element of a list is told as one of the others
pub one_told :
    {X V : Type 0} (passes : X → Bool) (tell : X → Data) (see : V → Data) (ys : List X) (xs : List V) (i : ℕ) (v : V)
    → i < length xs → v ≡ get_or xs i v → list_all passes ys ≡ true → map tell ys ≡ map see xs → ((y : X) → passes y ≡ true → tell y ≡ see v → ⊥) → ⊥
one_told passes tell see ys [] i v h at all same never = omega arith
one_told passes tell see [] (x ∷ xs) i v h at all same never = cc
one_told passes tell see (y ∷ ys) (x ∷ xs) zero v h at all same never =
    let first : tell y ≡ see x = cc in
    never y (and_parts (passes y) (list_all passes ys) all).0 (first ∙ ap see (sym at))
one_told passes tell see (y ∷ ys) (x ∷ xs) (suc i) v h at all same never =
    let rest : map tell ys ≡ map see xs = cc in
    one_told passes tell see ys xs i v (omega arith) at (and_parts (passes y) (list_all passes ys) all).1 rest never

pub two_items : {V : Type 0} (xs : List V) (a b : V) → length xs ≡ 2 → a ≡ get_or xs 0 a → b ≡ get_or xs 1 b → xs ≡ a ∷ b ∷ []
two_items [] a b h p q = absurd (omega arith)
two_items (x ∷ []) a b h p q = absurd (omega arith)
two_items (x ∷ y ∷ []) a b h p q = cc
two_items (x ∷ y ∷ z ∷ xs) a b h p q = absurd (omega arith)

pub three_items : {V : Type 0} (xs : List V) (a b c : V) → length xs ≡ 3 → a ≡ get_or xs 0 a → b ≡ get_or xs 1 b → c ≡ get_or xs 2 c → xs ≡ a ∷ b ∷ c ∷ []
three_items [] a b c h p q r = absurd (omega arith)
three_items (x ∷ xs) a b c h p q r = (let rest = two_items xs b c (omega arith) q r in ap (λ y. y ∷ xs) (sym p) ∙ ap (λ l. a ∷ l) rest)

pub four_items : {V : Type 0} (xs : List V) (a b c d : V) → length xs ≡ 4 → a ≡ get_or xs 0 a → b ≡ get_or xs 1 b → c ≡ get_or xs 2 c → d ≡ get_or xs 3 d → xs ≡ a ∷ b ∷ c ∷ d ∷ []
four_items [] a b c d h p q r s = absurd (omega arith)
four_items (x ∷ xs) a b c d h p q r s = (let rest = three_items xs b c d (omega arith) q r s in ap (λ y. y ∷ xs) (sym p) ∙ ap (λ l. a ∷ l) rest)

-- ---- acts, by the number of their values

pub data Two (d : Done) (a b : Data) : Type 0 where
  back : (upto : ℕ) → d ≡ WentBack upto → string (codes "back") ≡ a → num upto ≡ b → is_word upto ≡ true → Two d a b

pub data Three (d : Done) (a b c : Data) : Type 0 where
  got : (k : ℕ) (v : Option ValueType) → d ≡ Did (Get k) (Value v) → string (codes "get") ≡ a → num k ≡ b → optional v ≡ c → is_word k ≡ true → fits_optional v ≡ true → Three d a b c
  deleted : (k : ℕ) (v : Option ValueType) → d ≡ Did (Del k) (Value v) → string (codes "del") ≡ a → num k ≡ b → optional v ≡ c → is_word k ≡ true → fits_optional v ≡ true → Three d a b c

pub data Four (d : Done) (a b c e : Data) : Type 0 where
  put : (k : ℕ) (v : ValueType) (w : Option ValueType) → d ≡ Did (Put k v) (Value w) → string (codes "put") ≡ a → num k ≡ b → value_data v ≡ c → optional w ≡ e
      → is_word k ≡ true → fits_value v ≡ true → fits_optional w ≡ true → Four d a b c e
  scanned : (lo hi : ℕ) (ps : List (ℕ × ValueType)) → d ≡ Did (Scan lo hi) (Pairs ps) → string (codes "scan") ≡ a → num lo ≡ b → num hi ≡ c → list (map pair ps) ≡ e
      → nat_le lo hi ≡ true → is_word hi ≡ true → list_all fits_pair ps ≡ true → Four d a b c e
  added : (k by : ℕ) (found : Bool) → d ≡ Did (Add k by) (Added found) → string (codes "add") ≡ a → num k ≡ b → num by ≡ c → boolean found ≡ e
      → is_word k ≡ true → is_word by ≡ true → Four d a b c e

-- the values that an act is told by
abbrev pub row_of : Done → List Data
row_of (Did (Get k) a) = string (codes "get") ∷ num k ∷ answer a ∷ []
row_of (Did (Put k v) a) = string (codes "put") ∷ num k ∷ value_data v ∷ answer a ∷ []
row_of (Did (Del k) a) = string (codes "del") ∷ num k ∷ answer a ∷ []
row_of (Did (Scan lo hi) a) = string (codes "scan") ∷ num lo ∷ num hi ∷ answer a ∷ []
row_of (Did (Add k by) a) = string (codes "add") ∷ num k ∷ num by ∷ answer a ∷ []
row_of (WentBack upto) = string (codes "back") ∷ num upto ∷ []

pub act_is_row : (d : Done) → act d ≡ list (row_of d)
act_is_row (Did (Get k) a) = refl
act_is_row (Did (Put k v) a) = refl
act_is_row (Did (Del k) a) = refl
act_is_row (Did (Scan lo hi) a) = refl
act_is_row (Did (Add k by) a) = refl
act_is_row (WentBack upto) = refl

no_answer : {A : Type 0} (op : Op) (a : Answer) → is_answer_of op a ≡ false → can_be_done (Did op a) ≡ true → A
no_answer op a other can = absurd (both_ways (is_answer_of op a) other (and_parts _ _ can).0)

pub two_values : (d : Done) (a b : Data) → can_be_done d ≡ true → row_of d ≡ a ∷ b ∷ [] → Two d a b
two_values (Did (Get k) w) a b can e = absurd cc
two_values (Did (Put k v) w) a b can e = absurd cc
two_values (Did (Del k) w) a b can e = absurd cc
two_values (Did (Scan lo hi) w) a b can e = absurd cc
two_values (Did (Add k by) w) a b can e = absurd cc
two_values (WentBack upto) a b can e = back upto refl (cc) (cc) can

pub three_values : (d : Done) (a b c : Data) → can_be_done d ≡ true → row_of d ≡ a ∷ b ∷ c ∷ [] → Three d a b c
three_values (Did (Get k) (Value v)) a b c can e = got k v refl (cc) (cc) (cc) (and_parts (is_word k) (fits_optional v) can).0 (and_parts (is_word k) (fits_optional v) can).1
three_values (Did (Get k) (Pairs ps)) a b c can e = no_answer (Get k) (Pairs ps) refl can
three_values (Did (Get k) (Added f)) a b c can e = no_answer (Get k) (Added f) refl can
three_values (Did (Put k v) w) a b c can e = absurd cc
three_values (Did (Del k) (Value v)) a b c can e = deleted k v refl (cc) (cc) (cc) (and_parts (is_word k) (fits_optional v) can).0 (and_parts (is_word k) (fits_optional v) can).1
three_values (Did (Del k) (Pairs ps)) a b c can e = no_answer (Del k) (Pairs ps) refl can
three_values (Did (Del k) (Added f)) a b c can e = no_answer (Del k) (Added f) refl can
three_values (Did (Scan lo hi) w) a b c can e = absurd cc
three_values (Did (Add k by) w) a b c can e = absurd cc
three_values (WentBack upto) a b c can e = absurd cc

pub four_values : (d : Done) (a b c e : Data) → can_be_done d ≡ true → row_of d ≡ a ∷ b ∷ c ∷ e ∷ [] → Four d a b c e
four_values (Did (Get k) w) a b c e can h = absurd cc
four_values (Did (Put k v) (Value w)) a b c e can h =
    let parts = and_parts (is_word k && fits_value v) (fits_optional w) can in
    let both = and_parts (is_word k) (fits_value v) parts.0 in put k v w refl (cc) (cc) (cc) (cc) both.0 both.1 parts.1
four_values (Did (Put k v) (Pairs ps)) a b c e can h = no_answer (Put k v) (Pairs ps) refl can
four_values (Did (Put k v) (Added f)) a b c e can h = no_answer (Put k v) (Added f) refl can
four_values (Did (Del k) w) a b c e can h = absurd cc
four_values (Did (Scan lo hi) (Value w)) a b c e can h = no_answer (Scan lo hi) (Value w) refl can
four_values (Did (Scan lo hi) (Pairs ps)) a b c e can h =
    let parts = and_parts (nat_le lo hi && is_word hi) (list_all fits_pair ps) can in
    let both = and_parts (nat_le lo hi) (is_word hi) parts.0 in scanned lo hi ps refl (cc) (cc) (cc) (cc) both.0 both.1 parts.1
four_values (Did (Scan lo hi) (Added f)) a b c e can h = no_answer (Scan lo hi) (Added f) refl can
four_values (Did (Add k by) (Value w)) a b c e can h = no_answer (Add k by) (Value w) refl can
four_values (Did (Add k by) (Pairs ps)) a b c e can h = no_answer (Add k by) (Pairs ps) refl can
four_values (Did (Add k by) (Added f)) a b c e can h =
    let parts = and_parts (is_word k && is_word by) true can in
    let both = and_parts (is_word k) (is_word by) parts.0 in added k by f refl (cc) (cc) (cc) (cc) both.0 both.1
four_values (WentBack upto) a b c e can h = absurd cc

-- an act is told by two, three or four values
pub row_length : (d : Done) → (length (row_of d) ≡ 2) ⊎ ((length (row_of d) ≡ 3) ⊎ (length (row_of d) ≡ 4))
row_length (Did (Get k) a) = inr (inl refl)
row_length (Did (Put k v) a) = inr (inr refl)
row_length (Did (Del k) a) = inr (inl refl)
row_length (Did (Scan lo hi) a) = inr (inr refl)
row_length (Did (Add k by) a) = inr (inr refl)
row_length (WentBack upto) = inl refl

-- ---- rows of values that are seen so

pub row_is : {V : Type 0} (see : V → Data) (d : Data) (xs : List V) (row : List Data) → Some (items_of (map see xs)) ≡ as_array d → list row ≡ d → row ≡ map see xs
row_is see d xs row e f = list_same row (map see xs) (f ∙ array_is d (items_of (map see xs)) e)

size_of : {V : Type 0} (see : V → Data) (xs : List V) → length (map see xs) ≡ length xs
size_of see [] = refl
size_of see (x ∷ xs) = ap suc (size_of see xs)

pub row_size : {V : Type 0} (see : V → Data) (xs : List V) (row : List Data) → row ≡ map see xs → length row ≡ length xs
row_size see xs row e = ap length e ∙ size_of see xs

low_word : (lo hi : ℕ) → nat_le lo hi ≡ true → is_word hi ≡ true → is_word lo ≡ true
low_word lo hi e f = lt-ltb lo (2 ^ 64) (omega (arith, leb-true lo hi e, ltb-true hi (2 ^ 64) f))

-- ---- which act no row is

-- words with other first letters
word_in : Data → List ℕ
word_in (string s) = s
word_in d = []

other_words : (a b : List ℕ) → (get_or a 0 0 ≡ get_or b 0 0 → ⊥) → string a ≡ string b → ⊥
unfolding word_in
other_words a b differ e = differ (ap (λ d. get_or (word_in d) 0 0) e)

pub no_get_del : string (codes "get") ≡ string (codes "del") → ⊥
no_get_del e = other_words (codes "get") (codes "del") (λ f. omega arith) e

pub no_put_scan : string (codes "put") ≡ string (codes "scan") → ⊥
no_put_scan e = other_words (codes "put") (codes "scan") (λ f. omega arith) e

pub no_put_add : string (codes "put") ≡ string (codes "add") → ⊥
no_put_add e = other_words (codes "put") (codes "add") (λ f. omega arith) e

pub no_scan_add : string (codes "scan") ≡ string (codes "add") → ⊥
no_scan_add e = other_words (codes "scan") (codes "add") (λ f. omega arith) e

pub act_two : (d : Done) (a b : Data) → can_be_done d ≡ true → act d ≡ list (a ∷ b ∷ []) → Two d a b
act_two d a b can e = two_values d a b can (list_same (row_of d) (a ∷ b ∷ []) (sym (act_is_row d) ∙ e))

pub act_three : (d : Done) (a b c : Data) → can_be_done d ≡ true → act d ≡ list (a ∷ b ∷ c ∷ []) → Three d a b c
act_three d a b c can e = three_values d a b c can (list_same (row_of d) (a ∷ b ∷ c ∷ []) (sym (act_is_row d) ∙ e))

pub act_four : (d : Done) (a b c e : Data) → can_be_done d ≡ true → act d ≡ list (a ∷ b ∷ c ∷ e ∷ []) → Four d a b c e
act_four d a b c e can same = four_values d a b c e can (list_same (row_of d) (a ∷ b ∷ c ∷ e ∷ []) (sym (act_is_row d) ∙ same))

abbrev pub NoNumber : Data → Type 0
NoNumber b = (n : ℕ) → is_word n ≡ true → num n ≡ b → ⊥

abbrev pub NoOptional : Data → Type 0
NoOptional c = (v : Option ValueType) → fits_optional v ≡ true → optional v ≡ c → ⊥

-- a going back
pub no_back_word : (d : Done) (a b : Data) → can_be_done d ≡ true → act d ≡ list (a ∷ b ∷ []) → (a ≡ string (codes "back") → ⊥) → ⊥
no_back_word d a b can e never = elim (act_two d a b can e) [ back u p q r s ↦ never (sym q) ]

pub no_back_number : (d : Done) (a b : Data) → can_be_done d ≡ true → act d ≡ list (a ∷ b ∷ []) → NoNumber b → ⊥
no_back_number d a b can e never = elim (act_two d a b can e) [ back u p q r s ↦ never u s r ]

-- a key read, or taken away
pub no_keyed_key : (d : Done) (a b c : Data) → can_be_done d ≡ true → act d ≡ list (a ∷ b ∷ c ∷ []) → NoNumber b → ⊥
no_keyed_key d a b c can e never = elim (act_three d a b c can e) [ got k v p q r s f g ↦ never k f r | deleted k v p q r s f g ↦ never k f r ]

pub no_keyed_answer : (d : Done) (a b c : Data) → can_be_done d ≡ true → act d ≡ list (a ∷ b ∷ c ∷ []) → NoOptional c → ⊥
no_keyed_answer d a b c can e never = elim (act_three d a b c can e) [ got k v p q r s f g ↦ never v g s | deleted k v p q r s f g ↦ never v g s ]

pub no_keyed_word : (d : Done) (a b c : Data) → can_be_done d ≡ true → act d ≡ list (a ∷ b ∷ c ∷ []) → (a ≡ string (codes "get") → ⊥) → (a ≡ string (codes "del") → ⊥) → ⊥
no_keyed_word d a b c can e no_get no_del = elim (act_three d a b c can e) [ got k v p q r s f g ↦ no_get (sym q) | deleted k v p q r s f g ↦ no_del (sym q) ]

-- a put
pub no_put : (d : Done) (b c e : Data) → can_be_done d ≡ true → act d ≡ list (string (codes "put") ∷ b ∷ c ∷ e ∷ []) → NoNumber b ⊎ (((v : ValueType) → fits_value v ≡ true → value_data v ≡ c → ⊥) ⊎ NoOptional e) → ⊥
no_put d b c e can same never = at (act_four d (string (codes "put")) b c e can same) never
  where
    at : Four d (string (codes "put")) b c e → NoNumber b ⊎ (((v : ValueType) → fits_value v ≡ true → value_data v ≡ c → ⊥) ⊎ NoOptional e) → ⊥
    at (put k v w p q r s t g h i) (inl x) = x k g r
    at (put k v w p q r s t g h i) (inr (inl x)) = x v h s
    at (put k v w p q r s t g h i) (inr (inr x)) = x w i t
    at (scanned lo hi ps p q r s t g h i) x = no_put_scan (sym q)
    at (added k by y p q r s t g h) x = no_put_add (sym q)

-- a scan
pub no_scan :
    (d : Done) (b c e : Data) → can_be_done d ≡ true → act d ≡ list (string (codes "scan") ∷ b ∷ c ∷ e ∷ [])
    → NoNumber b ⊎ (NoNumber c ⊎ (((lo hi : ℕ) → num lo ≡ b → num hi ≡ c → lo ≤ hi → ⊥) ⊎ ((ps : List (ℕ × ValueType)) → list_all fits_pair ps ≡ true → list (map pair ps) ≡ e → ⊥))) → ⊥
no_scan d b c e can same never = at (act_four d (string (codes "scan")) b c e can same) never
  where
    at : Four d (string (codes "scan")) b c e
        → NoNumber b ⊎ (NoNumber c ⊎ (((lo hi : ℕ) → num lo ≡ b → num hi ≡ c → lo ≤ hi → ⊥) ⊎ ((ps : List (ℕ × ValueType)) → list_all fits_pair ps ≡ true → list (map pair ps) ≡ e → ⊥))) → ⊥
    at (scanned lo hi ps p q r s t g h i) (inl x) = x lo (low_word lo hi g h) r
    at (scanned lo hi ps p q r s t g h i) (inr (inl x)) = x hi h s
    at (scanned lo hi ps p q r s t g h i) (inr (inr (inl x))) = x lo hi r s (leb-true lo hi g)
    at (scanned lo hi ps p q r s t g h i) (inr (inr (inr x))) = x ps i t
    at (put k v w p q r s t g h i) x = no_put_scan q
    at (added k by y p q r s t g h) x = no_scan_add (sym q)

-- an addition
pub no_add : (d : Done) (b c e : Data) → can_be_done d ≡ true → act d ≡ list (string (codes "add") ∷ b ∷ c ∷ e ∷ []) → NoNumber b ⊎ (NoNumber c ⊎ ((x : Bool) → boolean x ≡ e → ⊥)) → ⊥
no_add d b c e can same never = at (act_four d (string (codes "add")) b c e can same) never
  where
    at : Four d (string (codes "add")) b c e → NoNumber b ⊎ (NoNumber c ⊎ ((x : Bool) → boolean x ≡ e → ⊥)) → ⊥
    at (added k by y p q r s t g h) (inl x) = x k g r
    at (added k by y p q r s t g h) (inr (inl x)) = x by h s
    at (added k by y p q r s t g h) (inr (inr x)) = x y t
    at (put k v w p q r s t g h i) x = no_put_add q
    at (scanned lo hi ps p q r s t g h i) x = no_scan_add q

-- another word
pub no_four_word :
    (d : Done) (a b c e : Data) → can_be_done d ≡ true → act d ≡ list (a ∷ b ∷ c ∷ e ∷ []) → (a ≡ string (codes "put") → ⊥) → (a ≡ string (codes "scan") → ⊥) → (a ≡ string (codes "add") → ⊥) → ⊥
no_four_word d a b c e can same x y z = elim (act_four d a b c e can same) [
  | put k v w p q r s t g h i ↦ x (sym q)
  | scanned lo hi ps p q r s t g h i ↦ y (sym q)
  | added k by w p q r s t g h ↦ z (sym q)
]

-- another number of values
pub no_size : {V : Type 0} (see : V → Data) (d : Done) (xs : List V) → act d ≡ list (map see xs) → (length xs ≡ 2 → ⊥) → (length xs ≡ 3 → ⊥) → (length xs ≡ 4 → ⊥) → ⊥
no_size see d xs e two three four =
    let size = row_size see xs (row_of d) (list_same (row_of d) (map see xs) (sym (act_is_row d) ∙ e)) in elim (row_length d) [
      | inl x ↦ two (sym size ∙ x)
      | inr more ↦ elim more [ inl y ↦ three (sym size ∙ y) | inr z ↦ four (sym size ∙ z) ]
    ]

-- ---- what is told so can be done

pub fit_keyed : (k : ℕ) (v : Option ValueType) → is_word k ≡ true → fits_optional v ≡ true → (can_be_done (Did (Get k) (Value v)) ≡ true) × (can_be_done (Did (Del k) (Value v)) ≡ true)
fit_keyed k v f g = (and_from (is_word k) (fits_optional v) f g, and_from (is_word k) (fits_optional v) f g)

pub fit_put : (k : ℕ) (v : ValueType) (w : Option ValueType) → is_word k ≡ true → fits_value v ≡ true → fits_optional w ≡ true → can_be_done (Did (Put k v) (Value w)) ≡ true
fit_put k v w f g h = and_from (is_word k && fits_value v) (fits_optional w) (and_from (is_word k) (fits_value v) f g) h

pub fit_scan : (lo hi : ℕ) (ps : List (ℕ × ValueType)) → lo ≤ hi → is_word hi ≡ true → list_all fits_pair ps ≡ true → can_be_done (Did (Scan lo hi) (Pairs ps)) ≡ true
fit_scan lo hi ps f g h = and_from (nat_le lo hi && is_word hi) (list_all fits_pair ps) (and_from (nat_le lo hi) (is_word hi) (le-leb lo hi f) g) h

pub fit_add : (k by : ℕ) (x : Bool) → is_word k ≡ true → is_word by ≡ true → can_be_done (Did (Add k by) (Added x)) ≡ true
fit_add k by x f g = and_from (is_word k && is_word by) true (and_from (is_word k) (is_word by) f g) refl

pub keyed_told :
    (op : Op) (k : ℕ) (v : Option ValueType) (a b c : Data) → ((op ≡ Get k) × (a ≡ string (codes "get"))) ⊎ ((op ≡ Del k) × (a ≡ string (codes "del"))) → is_word k ≡ true → num k ≡ b → fits_optional v ≡ true → optional v ≡ c
    → (can_be_done (Did op (Value v)) ≡ true) × (act (Did op (Value v)) ≡ list (a ∷ b ∷ c ∷ []))
keyed_told op k v a b c (inl (is, w)) f e g h =
    (subst (λ (x : Op). can_be_done (Did x (Value v)) ≡ true) (sym is) (fit_keyed k v f g).0, ap (λ (x : Op). act (Did x (Value v))) is ∙ three_parts w e h)
  where
    three_parts : a ≡ string (codes "get") → num k ≡ b → optional v ≡ c → list (string (codes "get") ∷ num k ∷ optional v ∷ []) ≡ list (a ∷ b ∷ c ∷ [])
    three_parts x y z = ap (λ (d : Data). list (d ∷ num k ∷ optional v ∷ [])) (sym x) ∙ ap (λ (d : Data). list (a ∷ d ∷ optional v ∷ [])) y ∙ ap (λ (d : Data). list (a ∷ b ∷ d ∷ [])) z
keyed_told op k v a b c (inr (is, w)) f e g h =
    (subst (λ (x : Op). can_be_done (Did x (Value v)) ≡ true) (sym is) (fit_keyed k v f g).1, ap (λ (x : Op). act (Did x (Value v))) is ∙ three_parts w e h)
  where
    three_parts : a ≡ string (codes "del") → num k ≡ b → optional v ≡ c → list (string (codes "del") ∷ num k ∷ optional v ∷ []) ≡ list (a ∷ b ∷ c ∷ [])
    three_parts x y z = ap (λ (d : Data). list (d ∷ num k ∷ optional v ∷ [])) (sym x) ∙ ap (λ (d : Data). list (a ∷ d ∷ optional v ∷ [])) y ∙ ap (λ (d : Data). list (a ∷ b ∷ d ∷ [])) z

pub seen_array : {V : Type 0} (see : V → Data) (d : Data) (xs ys : List V) → Some (items_of (map see xs)) ≡ as_array d → ys ≡ xs → list (map see ys) ≡ d
seen_array see d xs ys e f = ap (λ l. list (map see l)) f ∙ sym (array_is d (items_of (map see xs)) e)
