-- A field that is read is the field that was written, and what was written is read again.
use Rattle.std.proofs.Common.{◌≡◌, ℕ, zero, suc, ◌+◌, ◌-◌, ◌*◌, ◌/◌, ◌%◌, ◌^◌, ◌<◌, ◌≤◌, Bool, true, false, cond, ltb, leb, eqb, ◌&&◌, ◌⊎◌, lit<, List, [], ◌∷◌, ◌++◌, length, take, drop, Option, Some, None, refl, sym, ap, subst, ◌∙◌, append_assoc, arith, inl, inr}
use Rattle.std.specs.List.{flat_map, list_all}
use Rattle.std.specs.Int.{byte_at, bytes_low_first}
use Rattle.std.proofs.Math.Nat.{div-div-eq-div-mul, pow-succ'}
use Rattle.std.proofs.lemmas.Bool.{ltb-false, ltb-true, le-ltb, eqb-true, leb-true, le-leb}
use Rattle.std.proofs.lemmas.Bool.Decides.{nat_tests}
use Rattle.std.proofs.Math.Seq.{take-append_seam}
use Rattle.std.proofs.lemmas.List.{drop_at, take-append-drop, length-append, length-take-le}
use Rattle.std.proofs.lemmas.List.Concat.{flat_map-cons}
use Rattle.byteorder.specs.Endian.{little_bytes, little_from, little_number}
use Rattle.byteorder.specs.Numbers.{little_number-reads_back, little_from-cons, length-bytes_low_first}
use Rattle.clv_base.specs.declared.names.TxId.{TxId}
use Rattle.clv_base.specs.declared.values.Value.{Value}
use Rattle.clv_base.specs.declared.values.Value.TheVariants.{Num, Bytes}
use Rattle.clv_base.specs.FileRules.{tx_has_spelling, is_value, is_undo_next}
use Rattle.log_records.specs.Reading.{◌>>=◌, number_at, transaction_at, text_at, optional_at, undo_next_at, each_at, several_at, unless_greatest}
use Rattle.log_records.specs.Spelling.{number, transaction, optional, undo_next, several}
use Rattle.law_base.proofs.Lists.{IsBytes, bytes_drop as IsBytes-drop}

pub IsBytes-rest : (b : ℕ) (bytes : List ℕ) → IsBytes (b ∷ bytes) → IsBytes bytes
IsBytes-rest b bytes h i = h (suc i)

-- the value of a step that did not fail
pub bind_some : {A B : Type 0} (r : Option A) (f : A → Option B) (y : B) → (r >>= f) ≡ Some y → (x : A) × (r ≡ Some x) × (f x ≡ Some y)
bind_some (Some x) f y e = (x, refl, e)
bind_some None f y e = absurd cc

-- a test that did not fail
pub guard_some : {A : Type 0} (b : Bool) (x y : A) → cond b (Some x) None ≡ Some y → (b ≡ true) × (x ≡ y)
guard_some true x y e = (refl, cc)
guard_some false x y e = absurd cc

kept_some : {A : Type 0} (b : Bool) (r : Option A) (y : A) → cond b r None ≡ Some y → r ≡ Some y
kept_some true r y e = e
kept_some false r y e = absurd cc

pub both_true : (a b : Bool) → a && b ≡ true → (a ≡ true) × (b ≡ true)
both_true true b e = (refl, e)
both_true false b e = absurd cc

cases_eqb : (n : ℕ) → (eqb n (2 ^ 64 - 1) ≡ true) ⊎ (eqb n (2 ^ 64 - 1) ≡ false)
cases_eqb n = elim (eqb n (2 ^ 64 - 1)) as (λ b. (b ≡ true) ⊎ (b ≡ false)) [ true ↦ inl refl | false ↦ inr refl ]

guard_short : {A : Type 0} (b : Bool) (x y : A) → cond b None (Some x) ≡ Some y → (b ≡ false) × (x ≡ y)
guard_short true x y e = absurd cc
guard_short false x y e = (refl, cc)

abbrev done : {A : Type 0} → A → Option A
done x = Some x

pub some_is : {A : Type 0} (x y : A) → done x ≡ done y → x ≡ y
some_is x y e = cc

-- what a reader took from the front
pub record Takes (bytes text rest : List ℕ) : Type 0 where
  pub parts : bytes ≡ text ++ rest
  pub rest_fits : IsBytes rest

pub Takes-then : (a x b y c : List ℕ) → Takes a x b → Takes b y c → Takes a (x ++ y) c
Takes-then a x b y c p q = record { parts = p.parts ∙ ap (λ (t : List ℕ). x ++ t) q.parts ∙ sym (append_assoc x y c); rest_fits = q.rest_fits }

-- ---- numbers

-- the bytes of a number from its second on are those of what is left of it
shifted_byte : (k a y : ℕ) → a < 256 → byte_at (suc k) (a + 256 * y) ≡ byte_at k y
shifted_byte zero a y lt = let low : (a + 256 * y) / 256 ≡ y = omega arith in ap (λ (n : ℕ). n % 256) low
shifted_byte (suc k) a y lt =
    let low : (a + 256 * y) / 256 ≡ y = omega arith in
    let wide : (a + 256 * y) / 256 ^ suc (suc k) ≡ (a + 256 * y) / 256 / 256 ^ suc k = ap (λ (p : ℕ). (a + 256 * y) / p) (pow-succ' 256 (suc k)) ∙ sym (div-div-eq-div-mul (a + 256 * y) 256 (256 ^ suc k)) in
    ap (λ (n : ℕ). n % 256) (wide ∙ ap (λ (n : ℕ). n / 256 ^ suc k) low)

shifted : (width i a y : ℕ) → a < 256 → bytes_low_first (suc i) width (a + 256 * y) ≡ bytes_low_first i width y
shifted zero i a y lt = refl
shifted (suc width) i a y lt = rw (shifted_byte i a y lt, shifted width (suc i) a y lt) refl

-- a number that was read is written as the bytes it was read from
written_again : (width : ℕ) (bytes : List ℕ) → IsBytes bytes → width ≤ length bytes → bytes_low_first 0 width (little_from 0 width bytes) ≡ take width bytes
written_again zero bytes fits le = refl
written_again (suc width) [] fits le = absurd (omega arith)
written_again (suc width) (b ∷ bytes) fits le =
    let here : b < 256 = fits 0 in
    let moved : little_from 1 width (b ∷ bytes) ≡ little_from 0 width bytes = little_from-cons 0 width b bytes in
    let rest = written_again width bytes (IsBytes-rest b bytes fits) (omega arith) in
    let low : (b + 256 * little_from 0 width bytes) % 256 ≡ b = omega arith in
    rw (moved, low, shifted width 0 b (little_from 0 width bytes) here, rest) refl

pub number_takes : (width : ℕ) (bytes : List ℕ) (n : ℕ) (rest : List ℕ) → IsBytes bytes → number_at width bytes ≡ Some (n, rest) → Takes bytes (number width n) rest
unfolding number_at number
number_takes width bytes n rest fits e =
    let g = guard_short (ltb (length bytes) width) (little_number width bytes, drop width bytes) (n, rest) e in
    let n-is : little_number width bytes ≡ n = ap (λ (p : ℕ × List ℕ). p.0) g.1 in
    let rest-is : drop width bytes ≡ rest = ap (λ (p : ℕ × List ℕ). p.1) g.1 in
    let front : little_bytes width n ≡ take width bytes = rw (← n-is) (written_again width bytes fits (ltb-false _ _ g.0)) in
    record { parts = rw (front, ← rest-is) (sym (take-append-drop width bytes)); rest_fits = rw (← rest-is) (IsBytes-drop width bytes fits) }

pub number_again : (width n : ℕ) (rest : List ℕ) → n < 256 ^ width → number_at width (number width n ++ rest) ≡ Some (n, rest)
unfolding number_at number
number_again width n rest lt =
    let len : length (little_bytes width n) ≡ width = length-bytes_low_first 0 width n in
    let long : ltb (length (little_bytes width n ++ rest)) width ≡ false = le-ltb _ _ (omega (arith, length-append (little_bytes width n) rest)) in
    rw (long, little_number-reads_back width n rest lt, drop_at (little_bytes width n) rest width len) refl

-- ---- transactions

pub transaction_takes : (bytes : List ℕ) (tx : TxId) (rest : List ℕ) → IsBytes bytes → transaction_at bytes ≡ Some (tx, rest) → Takes bytes (transaction tx) rest
unfolding transaction_at transaction
transaction_takes bytes tx rest fits e =
    let a = bind_some (number_at 4 bytes) (λ run. number_at 4 run.1 >>= λ session. number_at 8 session.1 >>= λ serial. Some (record { run = run.0; session = session.0; serial = serial.0 }, serial.1)) (tx, rest) e in
    let b = bind_some (number_at 4 a.0.1) (λ session. number_at 8 session.1 >>= λ serial. Some (record { run = a.0.0; session = session.0; serial = serial.0 }, serial.1)) (tx, rest) a.2 in
    let c = bind_some (number_at 8 b.0.1) (λ serial. Some (record { run = a.0.0; session = b.0.0; serial = serial.0 }, serial.1)) (tx, rest) b.2 in
    let t0 = number_takes 4 bytes a.0.0 a.0.1 fits a.1 in
    let t1 = number_takes 4 a.0.1 b.0.0 b.0.1 t0.rest_fits b.1 in
    let t2 = number_takes 8 b.0.1 c.0.0 c.0.1 t1.rest_fits c.1 in
    let e12 = Takes-then a.0.1 (number 4 b.0.0) b.0.1 (number 8 c.0.0) c.0.1 t1 t2 in
    let e02 = Takes-then bytes (number 4 a.0.0) a.0.1 (number 4 b.0.0 ++ number 8 c.0.0) c.0.1 t0 e12 in
    let made : TxId × List ℕ = (record { run = a.0.0; session = b.0.0; serial = c.0.0 }, c.0.1) in
    subst (λ (y : TxId × List ℕ). Takes bytes (transaction y.0) y.1) {x = made} (some_is made (tx, rest) c.2) e02

pub transaction_again : (tx : TxId) (rest : List ℕ) → tx_has_spelling tx ≡ true → transaction_at (transaction tx ++ rest) ≡ Some (tx, rest)
unfolding transaction_at transaction
transaction_again tx rest fits =
    let run : tx.run < 256 ^ 4 = grind (arith, nat_tests) in
    let session : tx.session < 256 ^ 4 = grind (arith, nat_tests) in
    let serial : tx.serial < 256 ^ 8 = grind (arith, nat_tests) in
    let regrouped : (number 4 tx.run ++ (number 4 tx.session ++ number 8 tx.serial)) ++ rest ≡ number 4 tx.run ++ (number 4 tx.session ++ (number 8 tx.serial ++ rest)) = simp append_assoc in
    ap transaction_at regrouped ∙ rw (number_again 4 tx.run (number 4 tx.session ++ (number 8 tx.serial ++ rest)) run, number_again 4 tx.session (number 8 tx.serial ++ rest) session, number_again 8 tx.serial rest serial) refl

-- ---- values that may be none

text_takes : (bytes text rest : List ℕ) → IsBytes bytes → text_at bytes ≡ Some (text, rest) → Takes bytes (length text ∷ text) rest
unfolding text_at
text_takes [] text rest fits e = absurd cc
text_takes (count ∷ bytes) text rest fits e =
    let g = guard_some (leb count 200 && leb count (length bytes)) (take count bytes, drop count bytes) (text, rest) e in
    let within : count ≤ length bytes = leb-true count (length bytes) (both_true (leb count 200) (leb count (length bytes)) g.0).1 in
    let text_is : take count bytes ≡ text = ap (λ (p : List ℕ × List ℕ). p.0) g.1 in
    let rest_is : drop count bytes ≡ rest = ap (λ (p : List ℕ × List ℕ). p.1) g.1 in
    let count_is : length text ≡ count = ap length (sym text_is) ∙ length-take-le count bytes within in
    let parts : bytes ≡ text ++ rest = sym (take-append-drop count bytes) ∙ ap (λ (t : List ℕ). t ++ drop count bytes) text_is ∙ ap (λ (t : List ℕ). text ++ t) rest_is in
    record { parts = ap (λ (n : ℕ). n ∷ bytes) (sym count_is) ∙ ap (λ (t : List ℕ). length text ∷ t) parts; rest_fits = rw (← rest_is) (IsBytes-drop count bytes (IsBytes-rest count bytes fits)) }

text_again : (text rest : List ℕ) → leb (length text) 200 ≡ true → text_at (length text ∷ (text ++ rest)) ≡ Some (text, rest)
unfolding text_at
text_again text rest h =
    let within : leb (length text) (length (text ++ rest)) ≡ true = le-leb (length text) (length (text ++ rest)) (omega (arith, length-append text rest)) in
    rw (h, within, take-append_seam text rest, drop_at text rest (length text) refl) refl

pub optional_takes : (bytes : List ℕ) (o : Option Value) (rest : List ℕ) → IsBytes bytes → optional_at bytes ≡ Some (o, rest) → Takes bytes (optional o) rest
unfolding optional_at optional
optional_takes [] o rest fits e = absurd cc
optional_takes (zero ∷ bytes) o rest fits e =
    subst (λ (x : Option Value × List ℕ). Takes (0 ∷ bytes) (optional x.0) x.1) (some_is (None, bytes) (o, rest) e) (record { parts = refl; rest_fits = IsBytes-rest 0 bytes fits })
optional_takes (suc zero ∷ bytes) o rest fits e =
    let b = bind_some (number_at 8 bytes) (λ n. Some (Some (Num n.0), n.1)) (o, rest) e in
    let t = number_takes 8 bytes b.0.0 b.0.1 (IsBytes-rest 1 bytes fits) b.1 in
    subst (λ (x : Option Value × List ℕ). Takes (1 ∷ bytes) (optional x.0) x.1) (some_is (Some (Num b.0.0), b.0.1) (o, rest) b.2) (record { parts = ap (λ (w : List ℕ). 1 ∷ w) t.parts; rest_fits = t.rest_fits })
optional_takes (suc (suc zero) ∷ bytes) o rest fits e =
    let b = bind_some (text_at bytes) (λ t. Some (Some (Bytes t.0), t.1)) (o, rest) e in
    let t = text_takes bytes b.0.0 b.0.1 (IsBytes-rest 2 bytes fits) b.1 in
    subst (λ (x : Option Value × List ℕ). Takes (2 ∷ bytes) (optional x.0) x.1) (some_is (Some (Bytes b.0.0), b.0.1) (o, rest) b.2) (record { parts = ap (λ (w : List ℕ). 2 ∷ w) t.parts; rest_fits = t.rest_fits })
optional_takes (suc (suc (suc b)) ∷ bytes) o rest fits e = absurd cc

pub optional_again : (o : Option Value) (rest : List ℕ) → is_value o ≡ true → optional_at (optional o ++ rest) ≡ Some (o, rest)
unfolding optional_at optional
optional_again None rest h = refl
optional_again (Some (Num n)) rest h = let lt : n < 256 ^ 8 = ltb-true n (2 ^ 64) h in rw (number_again 8 n rest lt) refl
optional_again (Some (Bytes text)) rest h = rw (text_again text rest (both_true (leb (length text) 200) (list_all (λ b. ltb b 256) text) h).0) refl

-- the greatest number is none, read or written
written_lsn : (n : ℕ) → undo_next (unless_greatest n) ≡ number 8 n
unfolding undo_next
written_lsn n = elim (cases_eqb n) [ inl e ↦ rw e (ap (number 8) (sym (eqb-true n (2 ^ 64 - 1) e))) | inr e ↦ rw e refl ]

pub undo_next_takes : (bytes : List ℕ) (o : Option ℕ) (rest : List ℕ) → IsBytes bytes → undo_next_at bytes ≡ Some (o, rest) → Takes bytes (undo_next o) rest
unfolding undo_next_at
undo_next_takes bytes o rest fits e =
    let b = bind_some (number_at 8 bytes) (λ n. Some (unless_greatest n.0, n.1)) (o, rest) e in
    let t = number_takes 8 bytes b.0.0 b.0.1 fits b.1 in
    subst (λ (x : Option ℕ × List ℕ). Takes bytes (undo_next x.0) x.1) (some_is (unless_greatest b.0.0, b.0.1) (o, rest) b.2) (rw (written_lsn b.0.0) t)

pub undo_next_again : (o : Option ℕ) (rest : List ℕ) → is_undo_next o ≡ true → undo_next_at (undo_next o ++ rest) ≡ Some (o, rest)
unfolding undo_next_at undo_next
undo_next_again None rest h = let lt : 2 ^ 64 - 1 < 256 ^ 8 = lit< tt in rw (number_again 8 (2 ^ 64 - 1) rest lt) refl
undo_next_again (Some n) rest h =
    let below : n < 2 ^ 64 - 1 = ltb-true n (2 ^ 64 - 1) h in
    let lt : n < 256 ^ 8 = omega arith in
    let other : eqb n (2 ^ 64 - 1) ≡ false = grind (arith, nat_tests) in
    rw (number_again 8 n rest lt, other) refl

-- ---- lists

module _ {X : Type 0} (one : X → List ℕ) (one_at : List ℕ → Option (X × List ℕ)) where
  pub each_takes : ((bytes : List ℕ) (x : X) (rest : List ℕ) → IsBytes bytes → one_at bytes ≡ Some (x, rest) → Takes bytes (one x) rest)
      → (n : ℕ) (bytes : List ℕ) (x : List X × List ℕ) → IsBytes bytes → each_at one_at n bytes ≡ Some x → Takes bytes (flat_map one x.0) x.1 × (length x.0 ≡ n)
  unfolding each_at
  each_takes takes zero bytes x fits e =
      subst (λ (y : List X × List ℕ). Takes bytes (flat_map one y.0) y.1 × (length y.0 ≡ 0)) (some_is ([], bytes) x e) (record { parts = refl; rest_fits = fits }, refl)
  each_takes takes (suc n) bytes x fits e =
      let a = bind_some (one_at bytes) (λ first. each_at one_at n first.1 >>= λ others. Some (first.0 ∷ others.0, others.1)) x e in
      let b = bind_some (each_at one_at n a.0.1) (λ others. Some (a.0.0 ∷ others.0, others.1)) x a.2 in
      let first = takes bytes a.0.0 a.0.1 fits a.1 in
      let second = each_takes takes n a.0.1 b.0 first.rest_fits b.1 in
      let both = Takes-then bytes (one a.0.0) a.0.1 (flat_map one b.0.0) b.0.1 first second.0 in
      let made : List X × List ℕ = (a.0.0 ∷ b.0.0, b.0.1) in
      subst (λ (y : List X × List ℕ). Takes bytes (flat_map one y.0) y.1 × (length y.0 ≡ suc n)) (some_is made x b.2) (rw flat_map-cons both, ap suc second.1)

  pub several_takes : ((bytes : List ℕ) (x : X) (rest : List ℕ) → IsBytes bytes → one_at bytes ≡ Some (x, rest) → Takes bytes (one x) rest)
      → (most : ℕ) (bytes : List ℕ) (x : List X × List ℕ) → IsBytes bytes → several_at one_at most bytes ≡ Some x → Takes bytes (several one x.0) x.1
  unfolding several_at several
  several_takes takes most bytes x fits e =
      let a = bind_some (number_at 4 bytes) (λ n. cond (leb n.0 most) (each_at one_at n.0 n.1) None) x e in
      let g = kept_some (leb a.0.0 most) (each_at one_at a.0.0 a.0.1) x a.2 in
      let t0 = number_takes 4 bytes a.0.0 a.0.1 fits a.1 in
      let t1 = each_takes takes a.0.0 a.0.1 x t0.rest_fits g in
      let both = Takes-then bytes (number 4 a.0.0) a.0.1 (flat_map one x.0) x.1 t0 t1.0 in
      rw t1.1 both

  pub each_again : (test : X → Bool) → ((x : X) (rest : List ℕ) → test x ≡ true → one_at (one x ++ rest) ≡ Some (x, rest))
      → (xs : List X) (rest : List ℕ) → list_all test xs ≡ true → each_at one_at (length xs) (flat_map one xs ++ rest) ≡ Some (xs, rest)
  unfolding each_at
  each_again test again [] rest fits = refl
  each_again test again (x ∷ xs) rest fits =
      let parts = both_true (test x) (list_all test xs) fits in
      let regrouped : flat_map one (x ∷ xs) ++ rest ≡ one x ++ (flat_map one xs ++ rest) = ap (λ (l : List ℕ). l ++ rest) (flat_map-cons one x xs) ∙ append_assoc (one x) (flat_map one xs) rest in
      ap (each_at one_at (suc (length xs))) regrouped ∙ rw (again x (flat_map one xs ++ rest) parts.0, each_again test again xs rest parts.1) refl

  pub several_again : (test : X → Bool) → ((x : X) (rest : List ℕ) → test x ≡ true → one_at (one x ++ rest) ≡ Some (x, rest))
      → (most : ℕ) → most < 2 ^ 32 → (xs : List X) (rest : List ℕ) → length xs ≤ most → list_all test xs ≡ true → several_at one_at most (several one xs ++ rest) ≡ Some (xs, rest)
  unfolding several_at several
  several_again test again most small xs rest few fits =
      let lt : length xs < 256 ^ 4 = omega arith in
      let within : leb (length xs) most ≡ true = grind (arith, nat_tests) in
      ap (several_at one_at most) (append_assoc (number 4 (length xs)) (flat_map one xs) rest) ∙ rw (number_again 4 (length xs) (flat_map one xs ++ rest) lt, within, each_again test again xs rest fits) refl
