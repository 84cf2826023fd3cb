-- Notes and the numbers at them.
use Rattle.std.proofs.Common.{◌≡◌, ℕ, zero, suc, ◌+◌, ◌<◌, ◌≤◌, Bool, true, false, cond, List, [], ◌∷◌, ◌++◌, length, get_or, nat_le, nat_lt, Option, Some, None, IfSome, refl, sym, ap, subst, ◌∙◌, length-append, arith}
use Rattle.std.specs.List.{filter}
use Rattle.std.proofs.lemmas.Bool.Decides.{nat_tests}
use Rattle.std.proofs.Math.ListN.{get_or-append}
use Rattle.std.proofs.Math.Seq.{get_or-append_seam}
use Rattle.std.proofs.lemmas.Bool.{cond-true, cond-false}
use Rattle.clv_base.specs.declared.names.TxId.{TxId}
use Rattle.clv_base.specs.Orders.{Table, tx_get, tx_same}
use Rattle.shard_machine.specs.declared.numbers.Note.{Note}
use Rattle.shard_machine.specs.Numbers.{numbers_at, stacks_from, stacks, IsAbove, IsOver, AreOver, AreNotes}

-- the numbers of a note that is put on these
abbrev pub with_note : List (List ℕ) → Note → List ℕ
with_note so_far n = n.number ∷ numbers_at so_far n.below

-- ---- more notes leave the numbers at those that are there

longer : {X : Type 0} (xs : List X) (x : X) → length (xs ++ x ∷ []) ≡ suc (length xs)
longer xs x = length-append xs (x ∷ []) ∙ omega arith

stays : (so_far : List (List ℕ)) (ns : List Note) (j : ℕ) → j < length so_far → get_or (stacks_from so_far ns) j [] ≡ get_or so_far j []
stays so_far [] j l = refl
stays so_far (n ∷ ns) j l =
    let more : length (so_far ++ with_note so_far n ∷ []) ≡ suc (length so_far) = longer so_far (with_note so_far n) in
    stays (so_far ++ with_note so_far n ∷ []) ns j (omega (arith, more, l)) ∙ get_or-append so_far (with_note so_far n ∷ []) [] j l

stays_at : (so_far : List (List ℕ)) (ns : List Note) (o : Option ℕ) → IfSome o (λ j. j < length so_far) → numbers_at (stacks_from so_far ns) o ≡ numbers_at so_far o
stays_at so_far ns None l = refl
stays_at so_far ns (Some j) l = stays so_far ns j l

stacked : (so_far : List (List ℕ)) (ns more : List Note) → stacks_from so_far (ns ++ more) ≡ stacks_from (stacks_from so_far ns) more
stacked so_far [] more = refl
stacked so_far (n ∷ ns) more = stacked (so_far ++ with_note so_far n ∷ []) ns more

as_long : (so_far : List (List ℕ)) (ns : List Note) → length (stacks_from so_far ns) ≡ length so_far + length ns
as_long so_far [] = omega arith
as_long so_far (n ∷ ns) =
    let more : length (so_far ++ with_note so_far n ∷ []) ≡ suc (length so_far) = longer so_far (with_note so_far n) in
    let rest = as_long (so_far ++ with_note so_far n ∷ []) ns in omega (arith, more, rest)

over_append : (so_far : List (List ℕ)) (ns : List Note) (n : Note) → AreOver so_far ns → IsOver (stacks_from so_far ns) n → AreOver so_far (ns ++ n ∷ [])
over_append so_far [] n a o = (o, tt)
over_append so_far (m ∷ ns) n a o = (a.0, over_append (so_far ++ with_note so_far m ∷ []) ns n a.1 o)

-- ---- what is at a note

pub record IsAt (all : List (List ℕ)) (i : ℕ) (n : Note) : Type 0 where
  pub numbers : get_or all i [] ≡ n.number ∷ numbers_at all n.below
  pub lower : IfSome n.below (λ j. j < i)
  pub above : IsAbove n.number (numbers_at all n.below)

at_from : (so_far : List (List ℕ)) (ns : List Note) (i : ℕ) (d : Note) → AreOver so_far ns → i < length ns → IsAt (stacks_from so_far ns) (length so_far + i) (get_or ns i d)
at_from so_far [] i d a l = absurd (omega (arith, l))
at_from so_far (m ∷ ns) zero d a l =
    let more : length (so_far ++ with_note so_far m ∷ []) ≡ suc (length so_far) = longer so_far (with_note so_far m) in
    let below : numbers_at (stacks_from so_far (m ∷ ns)) m.below ≡ numbers_at so_far m.below = stays_at so_far (m ∷ ns) m.below a.0.0 in
    let zero_is : length so_far + 0 ≡ length so_far = omega arith in
    record {
      numbers = ap (λ k. get_or (stacks_from so_far (m ∷ ns)) k []) zero_is ∙ stays (so_far ++ with_note so_far m ∷ []) ns (length so_far) (omega (arith, more))
          ∙ get_or-append_seam so_far (with_note so_far m) [] [] ∙ ap (λ l. m.number ∷ l) (sym below);
      lower = subst (λ k. IfSome m.below (λ j. j < k)) (sym zero_is) a.0.0;
      above = subst (IsAbove m.number) (sym below) a.0.1;
    }
at_from so_far (m ∷ ns) (suc i) d a l =
    let more : length (so_far ++ with_note so_far m ∷ []) ≡ suc (length so_far) = longer so_far (with_note so_far m) in
    let next : length (so_far ++ with_note so_far m ∷ []) + i ≡ length so_far + suc i = omega (arith, more) in
    subst (λ k. IsAt (stacks_from so_far (m ∷ ns)) k (get_or ns i d)) next (at_from (so_far ++ with_note so_far m ∷ []) ns i d a.1 (omega (arith, l)))

pub note_at : (ns : List Note) (i : ℕ) (d : Note) → AreOver [] ns → i < length ns → IsAt (stacks ns) i (get_or ns i d)
note_at ns i d a l = let none : 0 + i ≡ i = omega arith in subst (λ k. IsAt (stacks ns) k (get_or ns i d)) none (at_from [] ns i d a l)

-- ---- one note more

module _ (ns : List Note) (n : Note) where
  pub stays_old : (o : Option ℕ) → IfSome o (λ i. i < length ns) → numbers_at (stacks (ns ++ n ∷ [])) o ≡ numbers_at (stacks ns) o
  stays_old o l = let long : length (stacks ns) ≡ length ns = as_long [] ns ∙ omega arith in ap (λ all. numbers_at all o) (stacked [] ns (n ∷ [])) ∙ stays_at (stacks ns) (n ∷ []) o (within o long l)
    where
      within : (o : Option ℕ) → length (stacks ns) ≡ length ns → IfSome o (λ i. i < length ns) → IfSome o (λ i. i < length (stacks ns))
      within None long l = l
      within (Some i) long l = omega (arith, long, l)

  pub is_new : numbers_at (stacks (ns ++ n ∷ [])) (Some (length ns)) ≡ with_note (stacks ns) n
  is_new =
      let long : length (stacks ns) ≡ length ns = as_long [] ns ∙ omega arith in
      ap (λ all. get_or all (length ns) []) (stacked [] ns (n ∷ [])) ∙ ap (λ k. get_or (stacks ns ++ with_note (stacks ns) n ∷ []) k []) (sym long) ∙ get_or-append_seam (stacks ns) (with_note (stacks ns) n) [] []

  pub still_over : AreOver [] ns → IfSome n.below (λ i. i < length ns) → IsAbove n.number (numbers_at (stacks ns) n.below) → AreOver [] (ns ++ n ∷ [])
  still_over a low above = over_append [] ns n a (within n.below (as_long [] ns ∙ omega arith) low, above)
    where
      within : (o : Option ℕ) → length (stacks ns) ≡ length ns → IfSome o (λ i. i < length ns) → IfSome o (λ i. i < length (stacks ns))
      within None long l = l
      within (Some i) long l = omega (arith, long, l)

-- ---- how far one goes down

-- how many notes are left at most, from a place on
abbrev pub left : Option ℕ → ℕ
left None = 0
left (Some i) = suc i

pub lower_left : (o : Option ℕ) (i : ℕ) → IfSome o (λ j. j < i) → left o ≤ i
lower_left None i l = omega arith
lower_left (Some j) i l = omega (arith, l)

pub lower_there : (o : Option ℕ) (i n : ℕ) → IfSome o (λ j. j < i) → i < n → IfSome o (λ j. j < n)
lower_there None i n l k = tt
lower_there (Some j) i n l k = omega (arith, l, k)

beyond_head : (upto n : ℕ) (ns : List ℕ) → upto < n → (filter (nat_lt upto) (n ∷ ns) ≡ n ∷ filter (nat_lt upto) ns) × (filter (λ m. nat_le m upto) (n ∷ ns) ≡ filter (λ m. nat_le m upto) ns)
beyond_head upto n ns l =
    let over : nat_lt upto n ≡ true = grind (arith, nat_tests, l) in let high : nat_le n upto ≡ false = grind (arith, nat_tests, l) in
    (cond-true (nat_lt upto n) (n ∷ filter (nat_lt upto) ns) (filter (nat_lt upto) ns) over, cond-false (nat_le n upto) (n ∷ filter (λ m. nat_le m upto) ns) (filter (λ m. nat_le m upto) ns) high)

all_within : (upto n : ℕ) (ns : List ℕ) → n ≤ upto → IsAbove n ns → (filter (nat_lt upto) ns ≡ []) × (filter (λ m. nat_le m upto) ns ≡ ns)
all_within upto n [] l a = (refl, refl)
all_within upto n (m ∷ ms) l a =
    let less : m < n = a.0 in
    let out : nat_lt upto m ≡ false = grind (arith, nat_tests, l, less) in let low : nat_le m upto ≡ true = grind (arith, nat_tests, l, less) in
    let rest = all_within upto n ms l a.1 in
    (cond-false (nat_lt upto m) (m ∷ filter (nat_lt upto) ms) (filter (nat_lt upto) ms) out ∙ rest.0, cond-true (nat_le m upto) (m ∷ filter (λ k. nat_le k upto) ms) (filter (λ k. nat_le k upto) ms) low ∙ ap (λ l. m ∷ l) rest.1)

-- on the way down: so many are passed, and the numbers that are left
pub record Down (all : List (List ℕ)) (upto : ℕ) (start : List ℕ) (passed : ℕ) (place : Option ℕ) : Type 0 where
  pub count : passed + length (filter (nat_lt upto) (numbers_at all place)) ≡ length (filter (nat_lt upto) start)
  pub rest : filter (λ n. nat_le n upto) (numbers_at all place) ≡ filter (λ n. nat_le n upto) start

module _ (all : List (List ℕ)) (upto : ℕ) (start : List ℕ) (passed i : ℕ) (n : Note) (at : IsAt all i n) (down : Down all upto start passed (Some i)) where
  -- one that is beyond is passed
  pub further : upto < n.number → Down all upto start (passed + 1) n.below
  further l =
      let head = beyond_head upto n.number (numbers_at all n.below) l in
      let counted : length (filter (nat_lt upto) (get_or all i [])) ≡ suc (length (filter (nat_lt upto) (numbers_at all n.below))) = ap (λ l. length (filter (nat_lt upto) l)) at.numbers ∙ ap length head.0 in
      let so_far = down.count in
      record {
        count = omega (arith, counted, so_far);
        rest = sym (ap (filter (λ m. nat_le m upto)) at.numbers ∙ head.1) ∙ down.rest;
      }

  -- one that isn't ends the way
  pub ends : n.number ≤ upto → (passed ≡ length (filter (nat_lt upto) start)) × (get_or all i [] ≡ filter (λ m. nat_le m upto) start)
  ends l =
      let low : nat_le n.number upto ≡ true = grind (arith, nat_tests, l) in let out : nat_lt upto n.number ≡ false = grind (arith, nat_tests, l) in
      let ns = numbers_at all n.below in let rest = all_within upto n.number ns l at.above in
      let none : filter (nat_lt upto) (get_or all i []) ≡ [] =
      ap (filter (nat_lt upto)) at.numbers ∙ cond-false (nat_lt upto n.number) (n.number ∷ filter (nat_lt upto) ns) (filter (nat_lt upto) ns) out ∙ rest.0 in
      let whole : filter (λ m. nat_le m upto) (get_or all i []) ≡ get_or all i [] =
      ap (filter (λ m. nat_le m upto)) at.numbers ∙ cond-true (nat_le n.number upto) (n.number ∷ filter (λ m. nat_le m upto) ns) (filter (λ m. nat_le m upto) ns) low ∙ ap (λ k. n.number ∷ k) rest.1 ∙ sym at.numbers in
      let so_far = down.count in let gone = ap length none in
      (omega (arith, so_far, gone), sym whole ∙ down.rest)

-- nothing is left
pub ended : (all : List (List ℕ)) (upto : ℕ) (start : List ℕ) (passed : ℕ) (o : Option ℕ) → o ≡ None → Down all upto start passed o → (passed ≡ length (filter (nat_lt upto) start)) × (numbers_at all o ≡ filter (λ m. nat_le m upto) start)
ended all upto start passed None e down = let so_far = down.count in (omega (arith, so_far), down.rest)
ended all upto start passed (Some i) e down = absurd cc

-- what is above the newest number is above all
pub above_all : (all : List (List ℕ)) (i : ℕ) (n : Note) (m : ℕ) → IsAt all i n → n.number < m → IsAbove m (get_or all i [])
above_all all i n m at l = subst (IsAbove m) (sym at.numbers) (l, weaker (numbers_at all n.below) at.above)
  where
    weaker : (ns : List ℕ) → IsAbove n.number ns → IsAbove m ns
    weaker [] a = tt
    weaker (k ∷ ks) a = let less : k < n.number = a.0 in (omega (arith, less, l), weaker ks a.1)

-- ---- a table of the newest notes

-- where it names a note this one is there
pub is_there : (ns : List Note) (newest : Table ℕ) (tx : TxId) (i : ℕ) → AreNotes ns newest → tx_get tx newest ≡ Some i → i < length ns
is_there ns newest tx i a found = subst (λ o. IfSome o (λ k. k < length ns)) found (a.there tx)

-- a note more is the newest of its transaction
module _ (ns : List Note) (newest after : Table ℕ) (tx : TxId) (n : Note) (a : AreNotes ns newest) (below : n.below ≡ tx_get tx newest) (rows : (t : TxId) → tx_get t after ≡ cond (tx_same tx t) (Some (length ns)) (tx_get t newest)) where
  pub noted : (t : TxId) → numbers_at (stacks (ns ++ n ∷ [])) (tx_get t after) ≡ cond (tx_same tx t) (n.number ∷ numbers_at (stacks ns) (tx_get tx newest)) (numbers_at (stacks ns) (tx_get t newest))
  noted t = ap (numbers_at (stacks (ns ++ n ∷ []))) (rows t) ∙ at (tx_same tx t)
    where
      at : (b : Bool) → numbers_at (stacks (ns ++ n ∷ [])) (cond b (Some (length ns)) (tx_get t newest)) ≡ cond b (n.number ∷ numbers_at (stacks ns) (tx_get tx newest)) (numbers_at (stacks ns) (tx_get t newest))
      at true = is_new ns n ∙ ap (λ o. n.number ∷ numbers_at (stacks ns) o) below
      at false = stays_old ns n (tx_get t newest) (a.there t)

  pub still_notes : IsAbove n.number (numbers_at (stacks ns) (tx_get tx newest)) → AreNotes (ns ++ n ∷ []) after
  still_notes above = record {
    over = still_over ns n a.over (subst (λ o. IfSome o (λ i. i < length ns)) (sym below) (a.there tx)) (subst (λ o. IsAbove n.number (numbers_at (stacks ns) o)) (sym below) above);
    there = λ t. subst (λ o. IfSome o (λ i. i < length (ns ++ n ∷ []))) (sym (rows t)) (at (tx_same tx t) (tx_get t newest) (a.there t));
  }
    where
      more : length (ns ++ n ∷ []) ≡ suc (length ns)
      more = longer ns n

      at : (b : Bool) (o : Option ℕ) → IfSome o (λ i. i < length ns) → IfSome (cond b (Some (length ns)) o) (λ i. i < length (ns ++ n ∷ []))
      at true o l = omega (arith, more)
      at false None l = l
      at false (Some i) l = omega (arith, more, l)

-- an older one is the newest
module _ (ns : List Note) (newest after : Table ℕ) (tx : TxId) (o : Option ℕ) (a : AreNotes ns newest) (rows : (t : TxId) → tx_get t after ≡ cond (tx_same tx t) o (tx_get t newest)) where
  pub moved : (numbers : List ℕ) → numbers_at (stacks ns) o ≡ numbers → (t : TxId) → numbers_at (stacks ns) (tx_get t after) ≡ cond (tx_same tx t) numbers (numbers_at (stacks ns) (tx_get t newest))
  moved numbers is t = ap (numbers_at (stacks ns)) (rows t) ∙ at (tx_same tx t)
    where
      at : (b : Bool) → numbers_at (stacks ns) (cond b o (tx_get t newest)) ≡ cond b numbers (numbers_at (stacks ns) (tx_get t newest))
      at true = is
      at false = refl

  pub still_named : IfSome o (λ i. i < length ns) → AreNotes ns after
  still_named l = record { over = a.over; there = λ t. subst (λ p. IfSome p (λ i. i < length ns)) (sym (rows t)) (at (tx_same tx t) t) }
    where
      at : (b : Bool) (t : TxId) → IfSome (cond b o (tx_get t newest)) (λ i. i < length ns)
      at true t = l
      at false t = a.there t
