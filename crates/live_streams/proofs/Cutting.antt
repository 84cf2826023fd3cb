-- Bytes that are cut into lines.
use Rattle.std.proofs.Common.{◌≡◌, refl, sym, ap, ◌∙◌, subst, ℕ, ◌+◌, ◌≤◌, ◌<◌, Bool, true, false, cond, ◌==◌, nat_lt, List, [], ◌∷◌, ◌++◌, length, take, Option, Some, None, append_assoc, append-nil, arith, length-append, length-take, length-take-le, take_all, le_of_lt, subst₂, ap₂, ◌⊎◌, inl, inr}
use Rattle.std.proofs.lemmas.List.{take-append-le}
use Rattle.std.proofs.lemmas.Bool.{cases_lt}
use Rattle.std.proofs.lemmas.Bool.Decides.{nat_tests}
use Rattle.script_lang.specs.Grammar.{lines_of, before_line}
use Rattle.live_lines.specs.Cutting.{Begun, most_bytes, none_begun, with_byte, line_in}
use Rattle.live_lines.specs.declared.calls.Asked.{Asked}
use Rattle.live_lines.specs.declared.calls.Refusal.{Refusal}
use Rattle.live_lines.specs.declared.calls.Refusal.TheVariants as refusal
use Rattle.live_streams.specs.Inputs.{IsTaken, AreTaken, TakenAs, TookInput, TookAllInput, TookAllButLast, plus, no_line, line, too_long}
use Rattle.live_streams.specs.Cut.{kept_of, HasNoFeed, HasBegun, IsCut}

-- ---- lines and line feeds

feed_ends : (front more : List ℕ) → HasNoFeed front → lines_of (front ++ 10 ∷ more) ≡ front ∷ lines_of more
feed_ends [] more none = refl
feed_ends (b ∷ front) more (isnt, none) =
    ap (λ t. cond t ([] ∷ lines_of (front ++ 10 ∷ more)) (before_line b (lines_of (front ++ 10 ∷ more)))) isnt ∙ ap (before_line b) (feed_ends front more none)

one_line : (b : ℕ) (front : List ℕ) → HasNoFeed (b ∷ front) → lines_of (b ∷ front) ≡ (b ∷ front) ∷ []
one_line b [] (isnt, none) = ap (λ t. cond t ([] ∷ []) (before_line b [])) isnt
one_line b (c ∷ front) (isnt, none) =
    ap (λ t. cond t ([] ∷ lines_of (c ∷ front)) (before_line b (lines_of (c ∷ front)))) isnt ∙ ap (before_line b) (one_line c front none)

one_at_most : (front : List ℕ) → HasNoFeed front → length (lines_of front) ≤ 1
one_at_most [] none = omega arith
one_at_most (b ∷ front) none = omega (arith, ap length (one_line b front none))

no_feed_on : (front : List ℕ) (b : ℕ) → HasNoFeed front → (b == 10) ≡ false → HasNoFeed (front ++ b ∷ [])
no_feed_on [] b none isnt = (isnt, tt)
no_feed_on (c ∷ front) b (is, none) isnt = (is, no_feed_on front b none isnt)

-- ---- what is kept of a line

begun_at : List ℕ → Bool → Begun
begun_at front is_cut = record { front = front; is_cut = is_cut }

-- one more byte of a line, of which at most so many are kept
with_at : ℕ → Begun → ℕ → Begun
with_at most begun b = cond (nat_lt (length begun.front) most) (begun_at (begun.front ++ b ∷ []) begun.is_cut) (begun_at begun.front true)

both_false : {a b : Bool} → a ≡ false → b ≡ false → a ≡ b
both_false p q = p ∙ sym q

with_more :
    (most : ℕ) (front : List ℕ) (b : ℕ) → (length front < most) ⊎ (most ≤ length front)
    → with_at most (begun_at (take most front) (nat_lt most (length front))) b ≡ begun_at (take most (front ++ b ∷ [])) (nat_lt most (length (front ++ b ∷ [])))
unfolding begun_at with_at
with_more most front b (inl below) =
    let all : take most front ≡ front = take_all most front (le_of_lt below) in
    let still : take most (front ++ b ∷ []) ≡ front ++ b ∷ [] = take_all most (front ++ b ∷ []) (omega (arith, length-append front (b ∷ []))) in
    let goes : nat_lt (length (take most front)) most ≡ true = subst (λ l. nat_lt (length l) most ≡ true) (sym all) (grind (arith, nat_tests)) in
    let cut : nat_lt most (length front) ≡ nat_lt most (length (front ++ b ∷ [])) = both_false (grind (arith, nat_tests)) (grind (arith, nat_tests, length-append front (b ∷ []))) in
    ap (λ t. cond t (begun_at (take most front ++ b ∷ []) (nat_lt most (length front))) (begun_at (take most front) true)) goes
    ∙ ap₂ begun_at (ap (λ l. l ++ b ∷ []) all ∙ sym still) cut
with_more most front b (inr above) =
    let stops : nat_lt (length (take most front)) most ≡ false = grind (arith, nat_tests, length-take-le most front above) in
    let cut : true ≡ nat_lt most (length (front ++ b ∷ [])) = sym (grind (arith, nat_tests, length-append front (b ∷ []))) in
    ap (λ t. cond t (begun_at (take most front ++ b ∷ []) (nat_lt most (length front))) (begun_at (take most front) true)) stops
    ∙ ap₂ begun_at (sym (take-append-le most front (b ∷ []) above)) cut

kept_on : (front : List ℕ) (b : ℕ) → with_byte (kept_of front) b ≡ kept_of (front ++ b ∷ [])
unfolding begun_at with_at
kept_on front b = with_more most_bytes front b (cases_lt (length front) most_bytes)

-- nothing is kept where nothing has come
kept_some : (most b : ℕ) (front : List ℕ) → 0 < most → take most (b ∷ front) ≡ [] → ⊥
kept_some most b front some is = omega (arith, ap length is, length-take most (b ∷ front))

-- what a line comes to is told by what is kept of it
kept_as : (n : ℕ) (front kept : List ℕ) (one : Option (ℕ × Asked)) (other : Option Refusal) (cut : Bool) → nat_lt most_bytes (length front) ≡ cut → kept ≡ take most_bytes front → TakenAs n (cond cut None (Some kept)) one other → IsTaken n front one other
kept_as n front kept one other true is same (none, too) = subst₂ (λ o r. IsTaken n front o r) (sym none) (sym too) (too_long front (grind (arith, nat_tests)))
kept_as n front kept one other false is same taken =
    let short : length front ≤ most_bytes = grind (arith, nat_tests) in
    let all : kept ≡ front = same ∙ take_all most_bytes front short in
    subst (λ l. length l ≤ most_bytes → IsTaken n l one other) all taken short

taken_as : (n : ℕ) (begun : Begun) (front : List ℕ) (one : Option (ℕ × Asked)) (other : Option Refusal) → HasBegun begun front → TakenAs n (line_in begun) one other → IsTaken n front one other
taken_as n begun front one other begins taken =
    let now : TakenAs n (line_in (kept_of front)) one other = subst (λ k. TakenAs n (line_in k) one other) begins.kept taken in
    kept_as n front (take most_bytes front) one other (nat_lt most_bytes (length front)) refl refl now

-- ---- lines one after another

plus_on : {A : Type 0} (xs ys : List A) (o : Option A) → xs ++ plus ys o ≡ plus (xs ++ ys) o
plus_on xs ys None = refl
plus_on xs ys (Some y) = sym (append_assoc xs ys (y ∷ []))

retaken : (n : ℕ) {a b : List (List ℕ)} {h i : List (ℕ × Asked)} {r s : List Refusal} → a ≡ b → h ≡ i → r ≡ s → AreTaken n a h r → AreTaken n b i s
retaken n {a} {b} {h} {i} {r} {s} p q t taken = subst (λ x. AreTaken n b i x) t (subst (λ x. AreTaken n b x r) q (subst (λ x. AreTaken n x h r) p taken))

taken_on :
    (n : ℕ) (a b : List (List ℕ)) (h i : List (ℕ × Asked)) (r s : List Refusal) → AreTaken n a h r → AreTaken n b i s → AreTaken n (a ++ b) (h ++ i) (r ++ s)
taken_on n a b h i r s taken no_line = retaken n (sym (append-nil a)) (sym (append-nil h)) (sym (append-nil r)) taken
taken_on n a b h i r s taken (line lines last handed one refused other more is) =
    retaken n (append_assoc a lines (last ∷ [])) (sym (plus_on h handed one)) (sym (plus_on r refused other))
    (line (a ++ lines) last (h ++ handed) one (r ++ refused) other (taken_on n a lines h handed r refused taken more) is)

one_taken : (n : ℕ) (front : List ℕ) (one : Option (ℕ × Asked)) (other : Option Refusal) → IsTaken n front one other → AreTaken n (front ∷ []) (plus [] one) (plus [] other)
one_taken n front one other is = line [] front [] one [] other no_line is

-- ---- bytes behind a line that has begun

pub none_cut : (n : ℕ) (begun : Begun) (front : List ℕ) → HasBegun begun front → IsCut n front [] begun [] []
none_cut n begun front begins = record {
  whole = [];
  last = front;
  begins = begins;
  lines = λ more. ap (λ l. lines_of (l ++ more)) (append-nil front);
  taken = no_line;
}

-- a byte that is no line feed
pub byte_cut : (n : ℕ) (begun : Begun) (front : List ℕ) (b : ℕ) → HasBegun begun front → (b == 10) ≡ false → IsCut n front (b ∷ []) (with_byte begun b) [] []
byte_cut n begun front b begins isnt = record {
  whole = [];
  last = front ++ b ∷ [];
  begins = record { no_feed = no_feed_on front b begins.no_feed isnt; kept = ap (λ k. with_byte k b) begins.kept ∙ kept_on front b };
  lines = λ more. refl;
  taken = no_line;
}

-- a line feed
pub feed_cut :
    (n : ℕ) (begun : Begun) (front : List ℕ) (one : Option (ℕ × Asked)) (other : Option Refusal) → HasBegun begun front → TakenAs n (line_in begun) one other
    → IsCut n front (10 ∷ []) none_begun (plus [] one) (plus [] other)
feed_cut n begun front one other begins taken = record {
  whole = front ∷ [];
  last = [];
  begins = record { no_feed = tt; kept = refl };
  lines = λ more. ap lines_of (append_assoc front (10 ∷ []) more) ∙ feed_ends front more begins.no_feed;
  taken = one_taken n front one other (taken_as n begun front one other begins taken);
}

-- the end of all
pub last_cut : (n : ℕ) (begun : Begun) (front : List ℕ) (one : Option (ℕ × Asked)) (other : Option Refusal) → HasBegun begun front → (begun.front ≡ [] → ⊥) → TakenAs n (line_in begun) one other → AreTaken n (lines_of front) (plus [] one) (plus [] other)
last_cut n begun [] one other begins some taken = absurd (some (ap (λ k. k.front) begins.kept))
last_cut n begun (b ∷ front) one other begins some taken =
    subst (λ l. AreTaken n l (plus [] one) (plus [] other)) (sym (one_line b front begins.no_feed)) (one_taken n (b ∷ front) one other (taken_as n begun (b ∷ front) one other begins taken))

pub none_last : (n : ℕ) (begun : Begun) (front : List ℕ) → HasBegun begun front → begun.front ≡ [] → AreTaken n (lines_of front) [] []
none_last n begun [] begins none = no_line
none_last n begun (b ∷ front) begins none = absurd (kept_some most_bytes b front (omega arith) (sym (ap (λ k. k.front) begins.kept) ∙ none))

-- bytes, and more behind them
lines_on :
    (front bytes more last : List ℕ) (whole : List (List ℕ)) → ((m : List ℕ) → lines_of (front ++ bytes ++ m) ≡ whole ++ lines_of (last ++ m))
    → (m : List ℕ) → lines_of (front ++ (bytes ++ more) ++ m) ≡ whole ++ lines_of (last ++ more ++ m)
lines_on front bytes more last whole lines m =
    ap (λ l. lines_of (l ++ m)) (sym (append_assoc front bytes more)) ∙ (ap lines_of (append_assoc (front ++ bytes) more m) ∙ (lines (more ++ m) ∙ ap (λ l. whole ++ lines_of l) (sym (append_assoc last more m))))

pub cut_on :
    (n : ℕ) (front bytes more : List ℕ) (begun begun' : Begun) (h i : List (ℕ × Asked)) (r s : List Refusal) (cut : IsCut n front bytes begun h r) → IsCut n cut.last more begun' i s
    → IsCut n front (bytes ++ more) begun' (h ++ i) (r ++ s)
cut_on n front bytes more begun begun' h i r s cut next = record {
  whole = cut.whole ++ next.whole;
  last = next.last;
  begins = next.begins;
  lines = λ m. lines_on front bytes more cut.last cut.whole cut.lines m ∙ (ap (λ l. cut.whole ++ l) (next.lines m) ∙ sym (append_assoc cut.whole next.whole (lines_of (next.last ++ m))));
  taken = taken_on n cut.whole next.whole h i r s cut.taken next.taken;
}

pub front_on :
    (n : ℕ) (front bytes more : List ℕ) (begun : Begun) (h i : List (ℕ × Asked)) (r s : List Refusal) (cut : IsCut n front bytes begun h r) → TookInput n (cut.last ++ more) i s
    → TookInput n (front ++ (bytes ++ more)) (h ++ i) (r ++ s)
front_on n front bytes more begun h i r s cut (lines, rest, is, taken) =
    let all : lines_of (front ++ (bytes ++ more)) ≡ cut.whole ++ lines_of (cut.last ++ more) = (
    ap lines_of (sym (append-nil (front ++ (bytes ++ more)))) ∙ (lines_on front bytes more cut.last cut.whole cut.lines [] ∙ ap (λ l. cut.whole ++ lines_of l) (append-nil (cut.last ++ more)))
    ) in
    (cut.whole ++ lines, rest, all ∙ (ap (λ l. cut.whole ++ l) is ∙ sym (append_assoc cut.whole lines rest)), taken_on n cut.whole lines h i r s cut.taken taken)

-- none of the lines to come
pub none_took : (n : ℕ) (bytes : List ℕ) → TookInput n bytes [] []
none_took n bytes = ([], lines_of bytes, refl, no_line)

-- ---- what was read from the beginning

cut_lines : (n : ℕ) (bytes : List ℕ) (begun : Begun) (h : List (ℕ × Asked)) (r : List Refusal) (cut : IsCut n [] bytes begun h r) → lines_of bytes ≡ cut.whole ++ lines_of cut.last
cut_lines n bytes begun h r cut = ap lines_of (sym (append-nil bytes)) ∙ (cut.lines [] ∙ ap (λ l. cut.whole ++ lines_of l) (append-nil cut.last))

pub cut_but_last : (n : ℕ) (bytes : List ℕ) (begun : Begun) (h : List (ℕ × Asked)) (r : List Refusal) → IsCut n [] bytes begun h r → TookAllButLast n bytes h r
cut_but_last n bytes begun h r cut = (cut.whole, lines_of cut.last, cut_lines n bytes begun h r cut, one_at_most cut.last cut.begins.no_feed, cut.taken)

pub cut_all :
    (n : ℕ) (bytes : List ℕ) (begun : Begun) (h i : List (ℕ × Asked)) (r s : List Refusal) (cut : IsCut n [] bytes begun h r) → AreTaken n (lines_of cut.last) i s
    → TookAllInput n bytes (h ++ i) (r ++ s)
cut_all n bytes begun h i r s cut last = subst (λ l. AreTaken n l (h ++ i) (r ++ s)) (sym (cut_lines n bytes begun h r cut)) (taken_on n cut.whole (lines_of cut.last) h i r s cut.taken last)

pub but_last_took : (n : ℕ) (bytes : List ℕ) (h : List (ℕ × Asked)) (r : List Refusal) → TookAllButLast n bytes h r → TookInput n bytes h r
but_last_took n bytes h r (front, rest, is, few, taken) = (front, rest, is, taken)

pub all_took : (n : ℕ) (bytes : List ℕ) (h : List (ℕ × Asked)) (r : List Refusal) → TookAllInput n bytes h r → TookInput n bytes h r
all_took n bytes h r taken = (lines_of bytes, [], sym (append-nil (lines_of bytes)), taken)
