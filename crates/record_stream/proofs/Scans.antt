-- What a scan promises, and scans one behind the other.
use Rattle.std.proofs.Common.{◌≡◌, ◌⊎◌, ℕ, List, [], ◌∷◌, ◌++◌, Result, Ok, Err, refl, sym, ap, subst, ◌∙◌, append_assoc, inl, inr}
use Rattle.record_stream.specs.declared.stop.Stop.{Stop}
use Rattle.record_stream.specs.declared.stop.Stop.TheVariants.{Cut}
use Rattle.record_stream.specs.Scanning.{◌>>=◌, Scan}
use Rattle.log_records.proofs.Laws.Fields.{Takes, Takes-then}
use Rattle.law_base.proofs.Lists.{IsBytes}

-- bytes that begin a spelling and are not all of it
pub record Part {X : Type 0} (P : X → Type 0) (spell : X → List ℕ) (bytes : List ℕ) : Type 0 where
  pub whole : X
  pub is_good : P whole
  pub next : ℕ
  pub behind : List ℕ
  pub is : bytes ++ next ∷ behind ≡ spell whole

pub record Found {X Y : Type 0} (P : X → Type 0) (spell : X → List ℕ) (out : X → Y) (bytes : List ℕ) (y : Y) (rest : List ℕ) : Type 0 where
  pub what : X
  pub is_good : P what
  pub given : out what ≡ y
  pub takes : Takes bytes (spell what) rest

-- a scan finds what is spelled, whole or cut, and nothing else
pub record Scans {X Y : Type 0} (P : X → Type 0) (spell : X → List ℕ) (out : X → Y) (scan : List ℕ → Scan Y) : Type 0 where
  pub one : X
  pub one_is_good : P one
  pub found : (bytes : List ℕ) (y : Y) (rest : List ℕ) → IsBytes bytes → scan bytes ≡ Ok (y, rest) → Found P spell out bytes y rest
  pub cut : (bytes : List ℕ) → IsBytes bytes → scan bytes ≡ Err Cut → Part P spell bytes
  pub whole : (x : X) (rest : List ℕ) → P x → scan (spell x ++ rest) ≡ Ok (out x, rest)
  pub stays : (x : X) (bytes : List ℕ) (next : ℕ) (behind : List ℕ) → P x → bytes ++ next ∷ behind ≡ spell x → scan bytes ≡ Err Cut

abbrev fine : {A : Type 0} → A → Result A Stop
fine x = Ok x

pub ok_is : {A : Type 0} (x y : A) → fine x ≡ fine y → x ≡ y
ok_is x y e = cc

-- what was read, and the bytes after it
abbrev pub got : {Y : Type 0} → Y → List ℕ → Scan Y
got y rest = Ok (y, rest)

pub given_is : {Y : Type 0} (y z : Y) (a b : List ℕ) → got y a ≡ got z b → (y ≡ z) × (a ≡ b)
given_is {Y = Y} y z a b e = let p = ok_is {A = Y × List ℕ} (y, a) (z, b) e in (ap (λ (x : Y × List ℕ). x.0) p, ap (λ (x : Y × List ℕ). x.1) p)

-- where two lists are parted twice, one first part goes on within the other
pub record Within (a b c d : List ℕ) : Type 0 where
  pub middle : List ℕ
  pub first : a ≡ c ++ middle
  pub second : middle ++ b ≡ d

pub record Short (a b c d : List ℕ) : Type 0 where
  pub next : ℕ
  pub behind : List ℕ
  pub first : a ++ next ∷ behind ≡ c
  pub second : b ≡ (next ∷ behind) ++ d

pub parted : (a b c d : List ℕ) → a ++ b ≡ c ++ d → Within a b c d ⊎ Short a b c d
parted a b [] d e = inl (record { middle = a; first = refl; second = e })
parted [] b (y ∷ c) d e = inr (record { next = y; behind = c; first = refl; second = e })
parted (x ∷ a) b (y ∷ c) d e =
    let head : x ≡ y = cc in
    let tail : a ++ b ≡ c ++ d = cc in
    elim (parted a b c d tail) [
      | inl w ↦ inl (record { middle = w.middle; first = ap (λ (l : List ℕ). x ∷ l) w.first ∙ ap (λ (z : ℕ). z ∷ (c ++ w.middle)) head; second = w.second })
      | inr s ↦ inr (record { next = s.next; behind = s.behind; first = ap (λ (l : List ℕ). x ∷ l) s.first ∙ ap (λ (z : ℕ). z ∷ c) head; second = s.second })
    ]

-- a scan that depends on what was scanned before
module _ {A B Y Z : Type 0} (P : A → Type 0) (Q : A → B → Type 0) (f : A → List ℕ) (g : A → B → List ℕ) (out : A → Y) (out' : A → B → Z) (s : List ℕ → Scan Y) (t : Y → List ℕ → Scan Z) where
  abbrev both : A × B → Type 0
  both x = P x.0 × Q x.0 x.1

  abbrev spelled : A × B → List ℕ
  spelled x = f x.0 ++ g x.0 x.1

  abbrev given : A × B → Z
  given x = out' x.0 x.1

  abbrev next_scan : List ℕ → Scan Z
  next_scan bytes = s bytes >>= λ y. t y.0 y.1

  found_then : (first : Scans P f out s) → ((a : A) → P a → Scans (Q a) (g a) (out' a) (t (out a))) → (bytes : List ℕ) (z : Z) (rest : List ℕ)
      → IsBytes bytes → (r : Scan Y) → s bytes ≡ r → (r >>= λ y. t y.0 y.1) ≡ Ok (z, rest) → Found both spelled given bytes z rest
  found_then first second bytes z rest fits (Err e) is read = absurd cc
  found_then first second bytes z rest fits (Ok y) is read =
      let a = first.found bytes y.0 y.1 fits is in
      let scan = second a.what a.is_good in
      let same : t (out a.what) y.1 ≡ Ok (z, rest) = ap (λ (u : Y). t u y.1) a.given ∙ read in
      let b = scan.found y.1 z rest a.takes.rest_fits same in
      record { what = (a.what, b.what); is_good = (a.is_good, b.is_good); given = b.given; takes = Takes-then bytes (f a.what) y.1 (g a.what b.what) rest a.takes b.takes }

  cut_then : (first : Scans P f out s) → ((a : A) → P a → Scans (Q a) (g a) (out' a) (t (out a))) → (bytes : List ℕ)
      → IsBytes bytes → (r : Scan Y) → s bytes ≡ r → (r >>= λ y. t y.0 y.1) ≡ Err Cut → Part both spelled bytes
  cut_then first second bytes fits (Err e) is read =
      let was : s bytes ≡ Err Cut = is ∙ ap (λ (x : Stop). Err x) cc in
      let a = first.cut bytes fits was in
      let scan = second a.whole a.is_good in
      record {
        whole = (a.whole, scan.one);
        is_good = (a.is_good, scan.one_is_good);
        next = a.next;
        behind = a.behind ++ g a.whole scan.one;
        is = sym (append_assoc bytes (a.next ∷ a.behind) (g a.whole scan.one)) ∙ ap (λ (l : List ℕ). l ++ g a.whole scan.one) a.is;
      }
  cut_then first second bytes fits (Ok y) is read =
      let a = first.found bytes y.0 y.1 fits is in
      let scan = second a.what a.is_good in
      let same : t (out a.what) y.1 ≡ Err Cut = ap (λ (u : Y). t u y.1) a.given ∙ read in
      let b = scan.cut y.1 a.takes.rest_fits same in
      record {
        whole = (a.what, b.whole);
        is_good = (a.is_good, b.is_good);
        next = b.next;
        behind = b.behind;
        is = ap (λ (l : List ℕ). l ++ b.next ∷ b.behind) a.takes.parts ∙ append_assoc (f a.what) y.1 (b.next ∷ b.behind) ∙ ap (λ (l : List ℕ). f a.what ++ l) b.is;
      }

  stays_then : (first : Scans P f out s) → ((a : A) → P a → Scans (Q a) (g a) (out' a) (t (out a))) → (a : A) (b : B) (bytes : List ℕ) (next : ℕ) (behind : List ℕ)
      → P a → Q a b → bytes ++ next ∷ behind ≡ f a ++ g a b → next_scan bytes ≡ Err Cut
  stays_then first second a b bytes next behind p q is =
      elim (parted bytes (next ∷ behind) (f a) (g a b) is) [
        | inl w ↦ let read : s bytes ≡ Ok (out a, w.middle) = ap s w.first ∙ first.whole a w.middle p in
            let after : t (out a) w.middle ≡ Err Cut = (second a p).stays b w.middle next behind q w.second in
            ap (λ (r : Scan Y). r >>= λ y. t y.0 y.1) read ∙ after
        | inr h ↦ let read : s bytes ≡ Err Cut = first.stays a bytes h.next h.behind p h.first in
            ap (λ (r : Scan Y). r >>= λ y. t y.0 y.1) read
      ]

  pub scans_then : Scans P f out s → ((a : A) → P a → Scans (Q a) (g a) (out' a) (t (out a))) → Scans both spelled given next_scan
  scans_then first second =
      let a = first.one in
      let scan = second a first.one_is_good in
      record {
        one = (a, scan.one);
        one_is_good = (first.one_is_good, scan.one_is_good);
        found = λ bytes z rest fits read. found_then first second bytes z rest fits (s bytes) refl read;
        cut = λ bytes fits read. cut_then first second bytes fits (s bytes) refl read;
        whole = λ x rest good. ap (λ (l : List ℕ). next_scan l) (append_assoc (f x.0) (g x.0 x.1) rest)
            ∙ ap (λ (r : Scan Y). r >>= λ y. t y.0 y.1) (first.whole x.0 (g x.0 x.1 ++ rest) good.0) ∙ (second x.0 good.0).whole x.1 rest good.1;
        stays = λ x bytes next behind good is. stays_then first second x.0 x.1 bytes next behind good.0 good.1 is;
      }

-- the same scan of other words for the same things

module _ {X X' Y : Type 0} (P : X → Type 0) (P' : X' → Type 0) (spell : X → List ℕ) (spell' : X' → List ℕ) (out : X → Y) (out' : X' → Y) (to : X → X') (back : X' → X) (scan : List ℕ → Scan Y) where
  pub scans_as : Scans P spell out scan
      → ((x : X) → P x → P' (to x) × (spell' (to x) ≡ spell x) × (out' (to x) ≡ out x))
      → ((x : X') → P' x → P (back x) × (spell (back x) ≡ spell' x) × (out (back x) ≡ out' x)) → Scans P' spell' out' scan
  scans_as first forth again =
      record {
        one = to first.one;
        one_is_good = (forth first.one first.one_is_good).0;
        found = λ bytes y rest fits read. let a = first.found bytes y rest fits read in let w = forth a.what a.is_good in
            record { what = to a.what; is_good = w.0; given = w.2 ∙ a.given; takes = subst (λ (l : List ℕ). Takes bytes l rest) (sym w.1) a.takes };
        cut = λ bytes fits read. let a = first.cut bytes fits read in let w = forth a.whole a.is_good in
            record { whole = to a.whole; is_good = w.0; next = a.next; behind = a.behind; is = a.is ∙ sym w.1 };
        whole = λ x rest good. let w = again x good in
            ap (λ (l : List ℕ). scan (l ++ rest)) (sym w.1) ∙ first.whole (back x) rest w.0 ∙ ap (λ (y : Y). Ok (y, rest)) w.2;
        stays = λ x bytes next behind good is. let w = again x good in first.stays (back x) bytes next behind w.0 (is ∙ sym w.1);
      }

-- the same scan, with something else made of what it finds
module _ {X Y Z : Type 0} (P : X → Type 0) (spell : X → List ℕ) (out : X → Y) (make : Y → Z) (scan : List ℕ → Scan Y) where
  abbrev put : Y × List ℕ → Scan Z
  put y = Ok (make y.0, y.1)

  abbrev made : List ℕ → Scan Z
  made bytes = scan bytes >>= put

  found_made : Scans P spell out scan → (bytes : List ℕ) (z : Z) (rest : List ℕ) → IsBytes bytes → (r : Scan Y) → scan bytes ≡ r
      → (r >>= put) ≡ Ok (z, rest) → Found P spell (λ x. make (out x)) bytes z rest
  found_made first bytes z rest fits (Err e) is read = absurd cc
  found_made first bytes z rest fits (Ok y) is read =
      let same = given_is (make y.0) z y.1 rest read in
      let a = first.found bytes y.0 rest fits (is ∙ ap (λ (l : List ℕ). Ok (y.0, l)) same.1) in
      record { what = a.what; is_good = a.is_good; given = ap make a.given ∙ same.0; takes = a.takes }

  cut_made : Scans P spell out scan → (bytes : List ℕ) → IsBytes bytes → (r : Scan Y) → scan bytes ≡ r
      → (r >>= put) ≡ Err Cut → Part P spell bytes
  cut_made first bytes fits (Err e) is read = first.cut bytes fits (is ∙ ap (λ (x : Stop). Err x) cc)
  cut_made first bytes fits (Ok y) is read = absurd cc

  pub scans_made : Scans P spell out scan → Scans P spell (λ x. make (out x)) made
  scans_made first =
      record {
        one = first.one;
        one_is_good = first.one_is_good;
        found = λ bytes z rest fits read. found_made first bytes z rest fits (scan bytes) refl read;
        cut = λ bytes fits read. cut_made first bytes fits (scan bytes) refl read;
        whole = λ x rest good. ap (λ (r : Scan Y). r >>= put) (first.whole x rest good);
        stays = λ x bytes next behind good is. ap (λ (r : Scan Y). r >>= put) (first.stays x bytes next behind good is);
      }

-- scans that read alike
pub scans_same : {X Y : Type 0} {P : X → Type 0} {spell : X → List ℕ} {out : X → Y} (scan other : List ℕ → Scan Y)
    → Scans P spell out scan → ((bytes : List ℕ) → other bytes ≡ scan bytes) → Scans P spell out other
scans_same scan other first same =
    record {
      one = first.one;
      one_is_good = first.one_is_good;
      found = λ bytes y rest fits read. first.found bytes y rest fits (sym (same bytes) ∙ read);
      cut = λ bytes fits read. first.cut bytes fits (sym (same bytes) ∙ read);
      whole = λ x rest good. same _ ∙ first.whole x rest good;
      stays = λ x bytes next behind good is. same bytes ∙ first.stays x bytes next behind good is;
    }
