-- A value that may be none is scanned.
use Rattle.std.proofs.Common.{◌≡◌, ℕ, zero, suc, ◌+◌, ◌-◌, ◌/◌, ◌%◌, ◌^◌, ◌<◌, ◌≤◌, Bool, true, false, cond, ltb, leb, ◌&&◌, List, [], ◌∷◌, ◌++◌, length, take, drop, Option, Some, None, Ok, Err, refl, sym, ap, ◌∙◌, arith}
use Rattle.std.specs.List.{list_all}
use Rattle.std.proofs.lemmas.Bool.{ltb-false, ltb-true, lt-ltb, le-ltb, leb-true, le-leb}
use Rattle.std.proofs.lemmas.List.{drop_at, length-append, take-append-drop, length-take-le}
use Rattle.clv_base.specs.declared.values.Value.{Value}
use Rattle.clv_base.specs.declared.values.Value.TheVariants.{Num, Bytes}
use Rattle.clv_base.specs.FileRules.{is_value}
use Rattle.log_records.specs.Spelling.{number, optional}
use Rattle.log_records.proofs.Laws.Fields.{IsBytes-rest, both_true}
use Rattle.record_stream.specs.declared.stop.Stop.TheVariants.{Cut}
use Rattle.record_stream.specs.Scanning.{number_at, bytes_at, text_at, value_at}
use Rattle.record_stream.proofs.Scans.{Part, Found, Scans, got, given_is, scans_then, scans_as}
use Rattle.record_stream.proofs.NumberScans.{Bounded, itself, number_parts, number_scans}
use Rattle.record_stream.proofs.NameScans.{nothing, long_scans}
use Rattle.law_base.proofs.Lists.{IsBytes, bytes_drop}

-- ---- so many bytes

abbrev all_bytes : List ℕ → Bool
all_bytes bytes = list_all (λ b. ltb b 256) bytes

-- bytes at the front are bytes
front_bytes : (n : ℕ) (bytes : List ℕ) → IsBytes bytes → all_bytes (take n bytes) ≡ true
front_bytes zero bytes fits = refl
front_bytes (suc n) [] fits = refl
front_bytes (suc n) (b ∷ bytes) fits = rw (lt-ltb b 256 (fits 0), front_bytes n bytes (IsBytes-rest b bytes fits)) refl

abbrev OfLength : ℕ → List ℕ → Type 0
OfLength n bytes = (length bytes ≡ n) × (all_bytes bytes ≡ true)

bytes_tested : (short : Bool) (after : List ℕ) (y : Unit {0}) (rest : List ℕ) → cond short (Err Cut) (got tt after) ≡ got y rest → (short ≡ false) × (after ≡ rest)
bytes_tested true after y rest e = absurd cc
bytes_tested false after y rest e = (refl, (given_is tt y after rest e).1)

bytes_cut : (short : Bool) (after : List ℕ) → cond short (Err Cut) (got {Y = Unit {0}} tt after) ≡ Err Cut → short ≡ true
bytes_cut true after e = refl
bytes_cut false after e = absurd cc

abbrev zeros : ℕ → List ℕ
zeros zero = []
zeros (suc n) = 0 ∷ zeros n

length-zeros : (n : ℕ) → length (zeros n) ≡ n
length-zeros zero = refl
length-zeros (suc n) = ap suc (length-zeros n)

all-zeros : (n : ℕ) → all_bytes (zeros n) ≡ true
all-zeros zero = refl
all-zeros (suc n) = all-zeros n

all-append : (xs ys : List ℕ) → all_bytes xs ≡ true → all_bytes ys ≡ true → all_bytes (xs ++ ys) ≡ true
all-append [] ys a b = b
all-append (x ∷ xs) ys a b = let p = both_true (ltb x 256) (all_bytes xs) a in rw (p.0, all-append xs ys p.1 b) refl

all-whole : (bytes : List ℕ) → IsBytes bytes → all_bytes bytes ≡ true
all-whole [] fits = refl
all-whole (b ∷ bytes) fits = rw (lt-ltb b 256 (fits 0), all-whole bytes (IsBytes-rest b bytes fits)) refl

found_bytes : (n : ℕ) (bytes : List ℕ) (y : Unit {0}) (rest : List ℕ) → IsBytes bytes → bytes_at n bytes ≡ Ok (y, rest) → Found (OfLength n) itself nothing bytes y rest
found_bytes n bytes y rest fits e =
    let t = bytes_tested (ltb (length bytes) n) (drop n bytes) y rest e in
    let within : n ≤ length bytes = ltb-false (length bytes) n t.0 in
    record {
      what = take n bytes;
      is_good = (length-take-le n bytes within, front_bytes n bytes fits);
      given = refl;
      takes = record { parts = sym (take-append-drop n bytes) ∙ ap (λ (l : List ℕ). take n bytes ++ l) t.1; rest_fits = rw (← t.1) (bytes_drop n bytes fits) };
    }

cut_bytes : (n : ℕ) (bytes : List ℕ) → IsBytes bytes → bytes_at n bytes ≡ Err Cut → Part (OfLength n) itself bytes
cut_bytes n bytes fits e =
    let short : length bytes < n = ltb-true (length bytes) n (bytes_cut (ltb (length bytes) n) (drop n bytes) e) in
    let k = n - length bytes - 1 in
    record {
      whole = bytes ++ 0 ∷ zeros k;
      is_good = (omega (arith, length-append bytes (0 ∷ zeros k), length-zeros k), all-append bytes (0 ∷ zeros k) (all-whole bytes fits) (all-zeros k));
      next = 0;
      behind = zeros k;
      is = refl;
    }

whole_bytes : (n : ℕ) (bytes rest : List ℕ) → length bytes ≡ n → bytes_at n (bytes ++ rest) ≡ Ok (tt, rest)
whole_bytes n bytes rest len =
    let long : ltb (length (bytes ++ rest)) n ≡ false = le-ltb _ _ (omega (arith, length-append bytes rest, len)) in
    rw (long, drop_at bytes rest n len) refl

stays_bytes : (n : ℕ) (whole bytes : List ℕ) (next : ℕ) (behind : List ℕ) → length whole ≡ n → bytes ++ next ∷ behind ≡ whole → bytes_at n bytes ≡ Err Cut
stays_bytes n whole bytes next behind len is =
    let short : ltb (length bytes) n ≡ true = lt-ltb _ _ (omega (arith, sym (length-append bytes (next ∷ behind)) ∙ ap length is, len)) in
    rw short refl

bytes_scans : (n : ℕ) → Scans (OfLength n) itself nothing (bytes_at n)
bytes_scans n =
    record {
      one = zeros n;
      one_is_good = (length-zeros n, all-zeros n);
      found = λ bytes y rest fits e. found_bytes n bytes y rest fits e;
      cut = λ bytes fits e. cut_bytes n bytes fits e;
      whole = λ bytes rest good. whole_bytes n bytes rest good.0;
      stays = λ whole bytes next behind good is. stays_bytes n whole bytes next behind good.0 is;
    }

-- ---- a text

abbrev IsText : List ℕ → Type 0
IsText text = (leb (length text) 200 && all_bytes text) ≡ true

no_bytes : (m : ℕ) → number 0 m ≡ []
unfolding number
no_bytes m = refl

one_byte : (n : ℕ) → n ≤ 200 → number 1 n ≡ n ∷ []
one_byte n le = let low : n % 256 ≡ n = omega (arith, le) in number_parts 0 n ∙ rw (low, no_bytes (n / 256)) refl

text_scans : Scans IsText (λ text. length text ∷ text) nothing text_at
unfolding text_at
text_scans =
    let count = number_scans 1 0 200 (omega arith) (omega arith) in
    let both = scans_then (Bounded 0 200) OfLength (number 1) (λ n bytes. bytes) itself (λ n bytes. tt) (number_at 1 0 200) bytes_at count (λ n good. bytes_scans n) in
    scans_as (λ (x : ℕ × List ℕ). Bounded 0 200 x.0 × OfLength x.0 x.1) IsText (λ x. number 1 x.0 ++ x.1) (λ text. length text ∷ text) nothing nothing
    (λ x. x.1) (λ text. (length text, text)) text_at both
    (λ x good. (
      rw (good.1.0, le-leb x.0 200 good.0.1, good.1.1) refl,
      ap (λ (n : ℕ). n ∷ x.1) good.1.0 ∙ ap (λ (l : List ℕ). l ++ x.1) (sym (one_byte x.0 good.0.1)),
      refl,
    ))
    (λ text good. let p = both_true (leb (length text) 200) (all_bytes text) good in
    let few : length text ≤ 200 = leb-true (length text) 200 p.0 in
    (((omega arith, few), (refl, p.1)), ap (λ (l : List ℕ). l ++ text) (one_byte (length text) few), refl))

-- ---- a value

abbrev pub IsOptional : Option Value → Type 0
IsOptional v = is_value v ≡ true

found_value : (bytes : List ℕ) (y : Unit {0}) (rest : List ℕ) → IsBytes bytes → value_at bytes ≡ Ok (y, rest) → Found IsOptional optional nothing bytes y rest
unfolding value_at optional
found_value [] y rest fits e = absurd cc
found_value (zero ∷ bytes) y rest fits e =
    let same : bytes ≡ rest = (given_is tt y bytes rest e).1 in
    record { what = None; is_good = refl; given = refl; takes = record { parts = ap (λ (l : List ℕ). 0 ∷ l) same; rest_fits = rw (← same) (IsBytes-rest 0 bytes fits) } }
found_value (suc zero ∷ bytes) y rest fits e =
    let f = long_scans.found bytes y rest (IsBytes-rest 1 bytes fits) e in
    record { what = Some (Num f.what); is_good = lt-ltb f.what (2 ^ 64) f.is_good; given = refl; takes = record { parts = ap (λ (l : List ℕ). 1 ∷ l) f.takes.parts; rest_fits = f.takes.rest_fits } }
found_value (suc (suc zero) ∷ bytes) y rest fits e =
    let f = text_scans.found bytes y rest (IsBytes-rest 2 bytes fits) e in
    record { what = Some (Bytes f.what); is_good = f.is_good; given = refl; takes = record { parts = ap (λ (l : List ℕ). 2 ∷ l) f.takes.parts; rest_fits = f.takes.rest_fits } }
found_value (suc (suc (suc b)) ∷ bytes) y rest fits e = absurd cc

cut_value : (bytes : List ℕ) → IsBytes bytes → value_at bytes ≡ Err Cut → Part IsOptional optional bytes
unfolding value_at optional
cut_value [] fits e = record { whole = None; is_good = refl; next = 0; behind = []; is = refl }
cut_value (zero ∷ bytes) fits e = absurd cc
cut_value (suc zero ∷ bytes) fits e =
    let f = long_scans.cut bytes (IsBytes-rest 1 bytes fits) e in
    record { whole = Some (Num f.whole); is_good = lt-ltb f.whole (2 ^ 64) f.is_good; next = f.next; behind = f.behind; is = ap (λ (l : List ℕ). 1 ∷ l) f.is }
cut_value (suc (suc zero) ∷ bytes) fits e =
    let f = text_scans.cut bytes (IsBytes-rest 2 bytes fits) e in
    record { whole = Some (Bytes f.whole); is_good = f.is_good; next = f.next; behind = f.behind; is = ap (λ (l : List ℕ). 2 ∷ l) f.is }
cut_value (suc (suc (suc b)) ∷ bytes) fits e = absurd cc

whole_value : (v : Option Value) (rest : List ℕ) → IsOptional v → value_at (optional v ++ rest) ≡ Ok (tt, rest)
unfolding value_at optional
whole_value None rest good = refl
whole_value (Some (Num n)) rest good = long_scans.whole n rest (ltb-true n (2 ^ 64) good)
whole_value (Some (Bytes text)) rest good = text_scans.whole text rest good

stays_value : (v : Option Value) (bytes : List ℕ) (next : ℕ) (behind : List ℕ) → IsOptional v → bytes ++ next ∷ behind ≡ optional v → value_at bytes ≡ Err Cut
unfolding value_at optional
stays_value v [] next behind good is = refl
stays_value None (b ∷ []) next behind good is = absurd cc
stays_value None (b ∷ c ∷ bytes) next behind good is = absurd cc
stays_value (Some (Num n)) (b ∷ bytes) next behind good is =
    let head : b ≡ 1 = cc in
    let tail : bytes ++ next ∷ behind ≡ number 8 n = cc in
    ap (λ (k : ℕ). value_at (k ∷ bytes)) head ∙ long_scans.stays n bytes next behind (ltb-true n (2 ^ 64) good) tail
stays_value (Some (Bytes text)) (b ∷ bytes) next behind good is =
    let head : b ≡ 2 = cc in
    let tail : bytes ++ next ∷ behind ≡ length text ∷ text = cc in
    ap (λ (k : ℕ). value_at (k ∷ bytes)) head ∙ text_scans.stays text bytes next behind good tail

pub value_scans : Scans IsOptional optional nothing value_at
value_scans =
    record {
      one = None;
      one_is_good = refl;
      found = λ bytes y rest fits e. found_value bytes y rest fits e;
      cut = λ bytes fits e. cut_value bytes fits e;
      whole = λ v rest good. whole_value v rest good;
      stays = λ v bytes next behind good is. stays_value v bytes next behind good is;
    }
