-- A number between two bounds is scanned.
use Rattle.std.proofs.Common.{◌≡◌, ℕ, zero, suc, ◌+◌, ◌-◌, ◌*◌, ◌/◌, ◌%◌, ◌^◌, ◌<◌, ◌≤◌, Bool, true, false, cond, ltb, leb, ◌&&◌, List, [], ◌∷◌, ◌++◌, length, drop, Ok, Err, Some, refl, sym, ap, ◌∙◌, arith}
use Rattle.std.specs.Int.{byte_at, bytes_low_first}
use Rattle.std.proofs.Math.Nat.{div-div-eq-div-mul, pow-succ'}
use Rattle.std.proofs.lemmas.Bool.{ltb-true, lt-ltb, le-ltb, leb-true, le-leb}
use Rattle.std.proofs.lemmas.List.{drop_at, length-append}
use Rattle.byteorder.specs.Endian.{little_number}
use Rattle.byteorder.specs.Numbers.{little_number-reads_back}
use Rattle.log_records.specs.Reading.{number_at as read_number_at}
use Rattle.log_records.specs.Spelling.{number}
use Rattle.log_records.proofs.Laws.Fields.{IsBytes-rest, both_true, number_takes}
use Rattle.log_records.proofs.Laws.Spellings.{length-number}
use Rattle.record_stream.specs.declared.stop.Stop.{Stop}
use Rattle.record_stream.specs.declared.stop.Stop.TheVariants.{Cut, Bad}
use Rattle.record_stream.specs.Scanning.{goes_on, stop_by, number_at}
use Rattle.record_stream.proofs.Scans.{Part, Found, Scans, got, given_is}
use Rattle.law_base.proofs.Lists.{IsBytes}

-- ---- the lowest byte of a number, and what is left of it

moved_byte : (i n : ℕ) → byte_at (suc i) n ≡ byte_at i (n / 256)
moved_byte zero n = refl
moved_byte (suc i) n =
    let wide : n / 256 ^ suc (suc i) ≡ n / 256 / 256 ^ suc i = ap (λ (p : ℕ). n / p) (pow-succ' 256 (suc i)) ∙ sym (div-div-eq-div-mul n 256 (256 ^ suc i)) in
    ap (λ (m : ℕ). m % 256) wide

moved : (width i n : ℕ) → bytes_low_first (suc i) width n ≡ bytes_low_first i width (n / 256)
moved zero i n = refl
moved (suc width) i n = rw (moved_byte i n, moved width (suc i) n) refl

pub number_parts : (width n : ℕ) → number (suc width) n ≡ n % 256 ∷ number width (n / 256)
unfolding number
number_parts width n = ap (λ (l : List ℕ). n % 256 ∷ l) (moved width 0 n)

-- ---- bytes that a number between the bounds begins with

record Reaches (width least most : ℕ) (bytes : List ℕ) : Type 0 where
  n : ℕ
  least_is : least ≤ n
  most_is : n ≤ most
  next : ℕ
  behind : List ℕ
  is : bytes ++ next ∷ behind ≡ number width n

reaches : (width least most : ℕ) (bytes : List ℕ) → IsBytes bytes → length bytes < width → goes_on least most bytes ≡ true → Reaches width least most bytes
reaches zero least most bytes fits short e = absurd (omega arith)
reaches (suc width) least most [] fits short e =
    record { n = least; least_is = omega arith; most_is = leb-true least most e; next = least % 256; behind = number width (least / 256); is = sym (number_parts width least) }
reaches (suc width) least most (b ∷ bytes) fits short e =
    let low = (least - b + 255) / 256 in
    let high = (most - b) / 256 in
    let p = both_true (leb b most) (goes_on low high bytes) e in
    let within : b ≤ most = leb-true b most p.0 in
    let small : b < 256 = fits 0 in
    let r = reaches width low high bytes (IsBytes-rest b bytes fits) (omega arith) p.1 in
    let head : (b + 256 * r.n) % 256 ≡ b = omega arith in
    let tail : (b + 256 * r.n) / 256 ≡ r.n = omega arith in
    let spelled : number (suc width) (b + 256 * r.n) ≡ b ∷ number width r.n = number_parts width (b + 256 * r.n) ∙ rw (head, tail) refl in
    record {
      n = b + 256 * r.n;
      least_is = omega (arith, r.least_is);
      most_is = omega (arith, r.most_is);
      next = r.next;
      behind = r.behind;
      is = ap (λ (l : List ℕ). b ∷ l) r.is ∙ sym spelled;
    }

none : (b : ℕ) (bytes : List ℕ) (n : ℕ) → b ∷ bytes ≡ number 0 n → ⊥
unfolding number
none b bytes n e = absurd cc

begins : (width least most n : ℕ) (bytes : List ℕ) (next : ℕ) (behind : List ℕ) → least ≤ n → n ≤ most → bytes ++ next ∷ behind ≡ number width n → goes_on least most bytes ≡ true
begins width least most n [] next behind low high is = le-leb least most (omega arith)
begins zero least most n (b ∷ bytes) next behind low high is = absurd (none b (bytes ++ next ∷ behind) n is)
begins (suc width) least most n (b ∷ bytes) next behind low high is =
    let both = is ∙ number_parts width n in
    let head : b ≡ n % 256 = cc in
    let tail : bytes ++ next ∷ behind ≡ number width (n / 256) = cc in
    let within : leb b most ≡ true = le-leb b most (omega (arith, head)) in
    let rest = begins width ((least - b + 255) / 256) ((most - b) / 256) (n / 256) bytes next behind (omega (arith, head)) (omega (arith, head)) tail in
    rw (within, rest) refl

shorter : (width n : ℕ) (bytes : List ℕ) (next : ℕ) (behind : List ℕ) → bytes ++ next ∷ behind ≡ number width n → length bytes < width
shorter width n bytes next behind is = omega (arith, sym (length-append bytes (next ∷ behind)) ∙ ap length is ∙ length-number width n)

-- ---- the scan

abbrev pub Bounded : ℕ → ℕ → ℕ → Type 0
Bounded least most n = (least ≤ n) × (n ≤ most)

abbrev pub itself : {X : Type 0} → X → X
itself x = x

-- what was found, by the tests of the scan
tested : (short within : Bool) (stop : Stop) (n : ℕ) (after : List ℕ) (y : ℕ) (rest : List ℕ) → cond short (Err stop) (cond within (got n after) (Err Bad)) ≡ got y rest
    → (short ≡ false) × (within ≡ true) × (n ≡ y) × (after ≡ rest)
tested true within stop n after y rest e = absurd cc
tested false false stop n after y rest e = absurd cc
tested false true stop n after y rest e = let g = given_is n y after rest e in (refl, refl, g.0, g.1)

tested_cut : (short within goes : Bool) (n : ℕ) (after : List ℕ) → cond short (Err (stop_by goes)) (cond within (got n after) (Err Bad)) ≡ Err Cut → (short ≡ true) × (goes ≡ true)
tested_cut true within true n after e = (refl, refl)
tested_cut true within false n after e = absurd cc
tested_cut false true goes n after e = absurd cc
tested_cut false false goes n after e = absurd cc

number_found : (width least most : ℕ) (bytes : List ℕ) (n : ℕ) (rest : List ℕ) → IsBytes bytes → number_at width least most bytes ≡ Ok (n, rest) → Found (Bounded least most) (number width) itself bytes n rest
unfolding number_at read_number_at
number_found width least most bytes n rest fits e =
    let m = little_number width bytes in
    let t = tested (ltb (length bytes) width) (leb least m && leb m most) (stop_by (goes_on least most bytes)) m (drop width bytes) n rest e in
    let p = both_true (leb least m) (leb m most) t.1 in
    let read : read_number_at width bytes ≡ Some (n, rest) = rw (t.0, t.2, t.3) refl in
    record { what = n; is_good = (leb-true least n (rw (← t.2) p.0), leb-true n most (rw (← t.2) p.1)); given = refl; takes = number_takes width bytes n rest fits read }

number_cut : (width least most : ℕ) (bytes : List ℕ) → IsBytes bytes → number_at width least most bytes ≡ Err Cut → Part (Bounded least most) (number width) bytes
unfolding number_at
number_cut width least most bytes fits e =
    let m = little_number width bytes in
    let t = tested_cut (ltb (length bytes) width) (leb least m && leb m most) (goes_on least most bytes) m (drop width bytes) e in
    let r = reaches width least most bytes fits (ltb-true (length bytes) width t.0) t.1 in
    record { whole = r.n; is_good = (r.least_is, r.most_is); next = r.next; behind = r.behind; is = r.is }

number_whole : (width least most n : ℕ) (rest : List ℕ) → n < 256 ^ width → Bounded least most n → number_at width least most (number width n ++ rest) ≡ Ok (n, rest)
unfolding number_at number
number_whole width least most n rest lt good =
    let len : length (number width n) ≡ width = length-number width n in
    let long : ltb (length (number width n ++ rest)) width ≡ false = le-ltb _ _ (omega (arith, length-append (number width n) rest)) in
    let low : leb least n ≡ true = le-leb least n good.0 in
    let high : leb n most ≡ true = le-leb n most good.1 in
    rw (long, little_number-reads_back width n rest lt, drop_at (number width n) rest width len, low, high) refl

number_stays : (width least most n : ℕ) (bytes : List ℕ) (next : ℕ) (behind : List ℕ) → Bounded least most n → bytes ++ next ∷ behind ≡ number width n → number_at width least most bytes ≡ Err Cut
unfolding number_at
number_stays width least most n bytes next behind good is =
    let short : ltb (length bytes) width ≡ true = lt-ltb (length bytes) width (shorter width n bytes next behind is) in
    rw (short, begins width least most n bytes next behind good.0 good.1 is) refl

pub number_scans : (width least most : ℕ) → least ≤ most → most < 256 ^ width → Scans (Bounded least most) (number width) itself (number_at width least most)
number_scans width least most le fit =
    record {
      one = least;
      one_is_good = (omega arith, le);
      found = λ bytes n rest fits e. number_found width least most bytes n rest fits e;
      cut = λ bytes fits e. number_cut width least most bytes fits e;
      whole = λ n rest good. number_whole width least most n rest (omega (arith, good.1)) good;
      stays = λ n bytes next behind good is. number_stays width least most n bytes next behind good is;
    }
