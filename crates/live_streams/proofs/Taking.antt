-- What was read and taken, piece after piece.
use Rattle.std.proofs.Common.{◌≡◌, refl, sym, ap, ◌∙◌, subst, subst₂, ℕ, ◌+◌, ◌≤◌, ◌<◌, ◌==◌, true, false, List, [], ◌∷◌, ◌++◌, length, take, drop, Option, Some, None, option_map, Ok, Err, append_assoc, append-nil, take-append-drop, Bor, arith}
use Rattle.io_model.specs.Streams.{Gives, Ends, Consumes}
use Rattle.io_model.specs.declared.disk.Failed.{Failed as SourceFailed}
use Rattle.io_model.specs.declared.whole.ReadError.{ReadError}
use Rattle.io_model.specs.declared.whole.ReadError.TheVariants.{Failed, Memory}
use Rattle.rtrb.specs.declared.producer.Producer.{Producer}
use Rattle.live_lines.specs.Cutting.{Begun, most_bytes, none_begun, with_byte, line_in}
use Rattle.live_lines.specs.Requests.{Reads}
use Rattle.live_lines.specs.declared.requests.Request.{Request}
use Rattle.live_lines.specs.declared.requests.Request.TheVariants.{Blank, Of, NoSession}
use Rattle.live_lines.specs.declared.calls.Asked.{Asked}
use Rattle.live_lines.specs.declared.calls.Reply.{Reply}
use Rattle.live_lines.specs.declared.calls.Refusal.{Refusal}
use Rattle.live_lines.specs.declared.calls.Refusal.TheVariants as refusal
use Rattle.script_lang.specs.Grammar.{lines_of}
use Rattle.live_streams.specs.Inputs.{IsTaken, AreTaken, TakenAs, TookInput, plus, passed_over, handed_to, of_none}
use Rattle.live_streams.specs.Cut.{HasBegun, IsCut}
use Rattle.live_streams.specs.Handed.{HandsAll, ReadsLines}
use Rattle.live_streams.specs.Steps.{HandsEnded, HandsFront, HandsLast, ReadsSome}
use Rattle.live_streams.specs.declared.reading.Read.{Read}
use Rattle.live_streams.specs.declared.reading.Read.TheVariants.{Whole, Gone}
use Rattle.live_streams.proofs.Cutting.{none_cut, byte_cut, feed_cut, last_cut, none_last, cut_on, front_on, none_took, cut_but_last, cut_all, but_last_took, all_took}
use Rattle.live_streams.proofs.Handing.{none_handed, handed_on}

-- ---- bytes that were consumed

pub none_consumed : (left : Option (List ℕ)) → Consumes left left []
none_consumed None = refl
none_consumed (Some left) = (left, refl, refl)

pub consumed_on : (left mid left' : Option (List ℕ)) (bytes more : List ℕ) → Consumes left mid bytes → Consumes mid left' more → Consumes left left' (bytes ++ more)
consumed_on None mid left' bytes more none next = subst (λ m. Consumes m left' more) none next
consumed_on (Some all) mid left' bytes more (later, is, parts) next =
    let (last, ends, rest) = subst (λ m. Consumes m left' more) is next in
    (last, ends, parts ∙ (ap (λ l. bytes ++ l) rest ∙ sym (append_assoc bytes more last)))

ended_behind : (left mid left' : Option (List ℕ)) (bytes : List ℕ) → Consumes left mid bytes → Ends mid left' [] → Ends left left' bytes
ended_behind None mid left' bytes none ends = subst (λ m. Ends m left' []) none ends
ended_behind (Some all) mid left' bytes (later, is, parts) ends =
    let (none, empty) = subst (λ m. Ends m left' []) is ends in
    (none, parts ∙ (ap (λ l. bytes ++ l) empty ∙ append-nil bytes))

end_consumed : (left left' : Option (List ℕ)) (bytes : List ℕ) → Ends left left' bytes → Consumes left left' bytes
end_consumed None left' bytes none = none
end_consumed (Some all) left' bytes (none, is) = ([], none, is ∙ sym (append-nil bytes))

-- ---- what was handed out

at_first : HasBegun none_begun []
at_first = record { no_feed = tt; kept = refl }

module _ {A P B Q : Type 0} where
  pub none_ended : (begun : Begun) (a : List (Producer Asked A P)) (o : Producer Reply B Q) → HandsEnded begun begun [] a a o o
  none_ended begun a o = ([], [], none_handed a o, λ front begins. none_cut (length a) begun front begins)

  pub ended_on :
      (begun begun' begun'' : Begun) (bytes more : List ℕ) (a b c : List (Producer Asked A P)) (o p q : Producer Reply B Q) → HandsEnded begun begun' bytes a b o p → HandsEnded begun' begun'' more b c p q
      → HandsEnded begun begun'' (bytes ++ more) a c o q
  ended_on begun begun' begun'' bytes more a b c o p q (h, r, hands, cut) (i, s, next, cuts) = (
    h ++ i,
    r ++ s,
    handed_on h i r s a b c o p q hands next,
    λ front begins.
        let one = cut front begins in
        cut_on (length a) front bytes more begun' begun'' h i r s one (subst (λ n. IsCut n one.last more begun'' i s) hands.len (cuts one.last one.begins)),
  )

  front_ended :
      (begun begun' : Begun) (bytes more : List ℕ) (a b c : List (Producer Asked A P)) (o p q : Producer Reply B Q) → HandsEnded begun begun' bytes a b o p → HandsFront begun' more b c p q
      → HandsFront begun (bytes ++ more) a c o q
  front_ended begun begun' bytes more a b c o p q (h, r, hands, cut) (i, s, next, took) = (
    h ++ i,
    r ++ s,
    handed_on h i r s a b c o p q hands next,
    λ front begins.
        let one = cut front begins in
        front_on (length a) front bytes more begun' h i r s one (subst (λ n. TookInput n (one.last ++ more) i s) hands.len (took one.last one.begins)),
  )

  -- where no more is handed out
  none_front : (begun : Begun) (more : List ℕ) (b c : List (Producer Asked A P)) (p q : Producer Reply B Q) → HandsAll [] [] b c p q → HandsFront begun more b c p q
  none_front begun more b c p q hands = ([], [], hands, λ front begins. none_took (length b) (front ++ more))

  still_handed :
      (h : List (ℕ × Asked)) (r : List Refusal) (a b c : List (Producer Asked A P)) (o p q : Producer Reply B Q) → HandsAll h r a b o p → HandsAll [] [] b c p q → HandsAll h r a c o q
  still_handed h r a b c o p q hands none = subst₂ (λ x y. HandsAll x y a c o q) (append-nil h) (append-nil r) (handed_on h [] r [] a b c o p q hands none)

  -- ---- from the beginning

  pub reads_nothing : (left : Option (List ℕ)) (a : List (Producer Asked A P)) (o : Producer Reply B Q) → ReadsLines left left a a o o (Err Memory)
  reads_nothing left a o = record { bytes = []; handed = []; refused = []; consumes = none_consumed left; took = none_took (length a) []; hands = none_handed a o; reads = refl }

  reads_front :
      (left left' : Option (List ℕ)) (bytes : List ℕ) (a c : List (Producer Asked A P)) (o q : Producer Reply B Q) → Consumes left left' bytes → HandsFront none_begun bytes a c o q → ReadsLines left left' a c o q (Ok Gone)
  reads_front left left' bytes a c o q consumes (h, r, hands, took) = record { bytes = bytes; handed = h; refused = r; consumes = consumes; took = took [] at_first; hands = hands; reads = tt }

  -- the last step, with what came before
  pub reads_to :
      (left mid left' : Option (List ℕ)) (bytes : List ℕ) (begun begun' : Begun) (a b c : List (Producer Asked A P)) (o p q : Producer Reply B Q) (read : Read)
      → Consumes left mid bytes → HandsEnded none_begun begun bytes a b o p → ReadsSome mid left' begun begun' b c p q (Ok (Some read)) → ReadsLines left left' a c o q (Ok read)
  reads_to left mid left' bytes begun begun' a b c o p q Whole consumes (h, r, hands, cut) (ends, (i, s, next, last)) =
      let one = cut [] at_first in
      let end = ended_behind left mid left' bytes consumes ends in
      let all = cut_all (length a) bytes begun h i r s one (subst (λ n. AreTaken n (lines_of one.last) i s) hands.len (last one.last one.begins)) in
      record {
        bytes = bytes;
        handed = h ++ i;
        refused = r ++ s;
        consumes = end_consumed left left' bytes end;
        took = all_took (length a) bytes (h ++ i) (r ++ s) all;
        hands = handed_on h i r s a b c o p q hands next;
        reads = (end, all);
      }
  reads_to left mid left' bytes begun begun' a b c o p q Gone consumes ended (more, next, front) =
      reads_front left left' (bytes ++ more) a c o q (consumed_on left mid left' bytes more consumes next) (front_ended none_begun begun bytes more a b c o p q ended front)

  pub reads_failed :
      (left mid left' : Option (List ℕ)) (bytes : List ℕ) (begun begun' : Begun) (a b c : List (Producer Asked A P)) (o p q : Producer Reply B Q) (e : ReadError)
      → Consumes left mid bytes → HandsEnded none_begun begun bytes a b o p → ReadsSome mid left' begun begun' b c p q (Err e) → ReadsLines left left' a c o q (Err e)
  reads_failed left mid left' bytes begun begun' a b c o p q e consumes (h, r, hands, cut) (next, is, none) =
      let but_last = cut_but_last (length a) bytes begun h r (cut [] at_first) in
      subst (λ x. ReadsLines left left' a c o q (Err x)) (sym is) (record {
        bytes = bytes;
        handed = h;
        refused = r;
        consumes = subst (λ l. Consumes left left' l) (append-nil bytes) (consumed_on left mid left' bytes [] consumes next);
        took = but_last_took (length a) bytes h r but_last;
        hands = still_handed h r a b c o p q hands none;
        reads = but_last;
      })

-- ---- what one line asks for

abbrev line_at : Option (Bor (List ℕ)) → Option (List ℕ)
line_at line = option_map {T = Bor (List ℕ)} {U = List ℕ} (λ l. l.now) line

some_taken : (n : ℕ) (line : Option (Bor (List ℕ))) (bytes : Bor (List ℕ)) (one : Option (ℕ × Asked)) (other : Option Refusal) → line ≡ Some bytes → (length bytes.now ≤ most_bytes → IsTaken n bytes.now one other) → TakenAs n (line_at line) one other
some_taken n line bytes one other is taken = subst (λ l. TakenAs n (line_at l) one other) (sym is) taken

pub none_taken : (n : ℕ) (line : Option (Bor (List ℕ))) → line ≡ None → TakenAs n (line_at line) None (Some refusal.TooLong)
none_taken n line is = subst (λ l. TakenAs n (line_at l) None (Some refusal.TooLong)) (sym is) (refl, refl)

pub blank_taken :
    (n m : ℕ) (line : Option (Bor (List ℕ))) (bytes : Bor (List ℕ)) (request : Request) → n ≡ m → line ≡ Some bytes → request ≡ Blank → Reads n bytes.now request
    → TakenAs m (line_at line) None None
blank_taken n m line bytes request same is blank reads = some_taken m line bytes None None is (λ short. passed_over bytes.now short (subst₂ (λ x r. Reads x bytes.now r) same blank reads))

pub of_taken :
    (n m : ℕ) (line : Option (Bor (List ℕ))) (bytes : Bor (List ℕ)) (request : Request) (session : ℕ) (asked : Asked) → n ≡ m → line ≡ Some bytes → request ≡ Of session asked → Reads n bytes.now request
    → TakenAs m (line_at line) (Some (session, asked)) None
of_taken n m line bytes request session asked same is names reads =
    some_taken m line bytes (Some (session, asked)) None is (λ short. handed_to bytes.now session asked short (subst₂ (λ x r. Reads x bytes.now r) same names reads))

pub unnamed_taken :
    (n m : ℕ) (line : Option (Bor (List ℕ))) (bytes : Bor (List ℕ)) (request : Request) → n ≡ m → line ≡ Some bytes → request ≡ NoSession → Reads n bytes.now request
    → TakenAs m (line_at line) None (Some refusal.NoSession)
unnamed_taken n m line bytes request same is names reads = some_taken m line bytes None (Some refusal.NoSession) is (λ short. of_none bytes.now short (subst₂ (λ x r. Reads x bytes.now r) same names reads))

-- ---- single bytes

module _ {A P B Q : Type 0} where
  -- a line feed
  pub feed_handed :
      (begun begun' : Begun) (b : ℕ) (line : Option (List ℕ)) (a c : List (Producer Asked A P)) (o q : Producer Reply B Q) → b ≡ 10 → line ≡ line_in begun → begun' ≡ none_begun
      → ((one : Option (ℕ × Asked)) × (other : Option Refusal) × TakenAs (length a) line one other × HandsAll (plus [] one) (plus [] other) a c o q)
      → HandsEnded begun begun' (b ∷ []) a c o q
  feed_handed begun begun' b line a c o q feed is none (one, other, taken, hands) =
      subst₂ (λ x k. HandsEnded begun k (x ∷ []) a c o q) (sym feed) (sym none)
      (plus [] one, plus [] other, hands, λ front begins. feed_cut (length a) begun front one other begins (subst (λ l. TakenAs (length a) l one other) is taken))

  -- any other
  pub byte_handed : (begun begun' : Begun) (b : ℕ) (a : List (Producer Asked A P)) (o : Producer Reply B Q) → (b == 10) ≡ false → begun' ≡ with_byte begun b → HandsEnded begun begun' (b ∷ []) a a o o
  byte_handed begun begun' b a o isnt is =
      subst (λ k. HandsEnded begun k (b ∷ []) a a o o) (sym is) ([], [], none_handed a o, λ front begins. byte_cut (length a) begun front b begins isnt)

  -- one after another
  pub bytes_handed :
      (begun begun' begun'' : Begun) (bytes : List ℕ) (i b : ℕ) (a c d : List (Producer Asked A P)) (o p q : Producer Reply B Q) → take (i + 1) bytes ≡ take i bytes ++ b ∷ []
      → HandsEnded begun begun' (take i bytes) a c o p → HandsEnded begun' begun'' (b ∷ []) c d p q → HandsEnded begun begun'' (take (i + 1) bytes) a d o q
  bytes_handed begun begun' begun'' bytes i b a c d o p q is ended next =
      subst (λ l. HandsEnded begun begun'' l a d o q) (sym is) (ended_on begun begun' begun'' (take i bytes) (b ∷ []) a c d o p q ended next)

  pub bytes_stopped :
      (begun begun' : Begun) (bytes : List ℕ) (i : ℕ) (a c d : List (Producer Asked A P)) (o p q : Producer Reply B Q) → HandsEnded begun begun' (take i bytes) a c o p → HandsAll [] [] c d p q
      → HandsFront begun bytes a d o q
  bytes_stopped begun begun' bytes i a c d o p q ended none =
      subst (λ l. HandsFront begun l a d o q) (take-append-drop i bytes) (front_ended begun begun' (take i bytes) (drop i bytes) a c d o p q ended (none_front begun' (drop i bytes) c d p q none))

  -- the last line
  pub last_handed :
      (begun : Begun) (line : Option (List ℕ)) (a c : List (Producer Asked A P)) (o q : Producer Reply B Q) → (begun.front ≡ [] → ⊥) → line ≡ line_in begun
      → ((one : Option (ℕ × Asked)) × (other : Option Refusal) × TakenAs (length a) line one other × HandsAll (plus [] one) (plus [] other) a c o q) → HandsLast begun a c o q Whole
  last_handed begun line a c o q some is (one, other, taken, hands) =
      (plus [] one, plus [] other, hands, λ front begins. last_cut (length a) begun front one other begins some (subst (λ l. TakenAs (length a) l one other) is taken))

  pub none_left : (begun : Begun) (a : List (Producer Asked A P)) (o : Producer Reply B Q) → begun.front ≡ [] → HandsLast begun a a o o Whole
  none_left begun a o none = ([], [], none_handed a o, λ front begins. none_last (length a) begun front begins none)

-- ---- one read of the source

given_none : (left left' : Option (List ℕ)) (piece : List ℕ) (e : SourceFailed) → Gives left left' piece (Err e) → Consumes left left' []
given_none None left' piece e is = is
given_none (Some all) left' piece e is = (all, is, refl)

given_some : (left left' : Option (List ℕ)) (piece : List ℕ) (n : ℕ) → Gives {E = SourceFailed} left left' piece (Ok n) → Consumes left left' (take n piece)
given_some None left' piece n is = is
given_some (Some all) left' piece n (later, is, parts, ends) = (later, is, parts)

given_end : (left left' : Option (List ℕ)) (piece : List ℕ) (n : ℕ) → n ≡ 0 → 0 < length piece → Gives {E = SourceFailed} left left' piece (Ok n) → Ends left left' []
given_end None left' piece n none some is = is
given_end (Some all) left' piece n none some (later, is, parts, ends) =
    let empty : all ≡ [] = ends none some in
    let rest : all ≡ later = parts ∙ ap (λ k. take k piece ++ later) none in
    (is ∙ ap Some (sym rest ∙ empty), empty)

module _ {A P B Q : Type 0} where
  pub some_failed :
      (left left' : Option (List ℕ)) (piece : List ℕ) (begun : Begun) (a : List (Producer Asked A P)) (o : Producer Reply B Q) (e : SourceFailed) (error : ReadError) → error ≡ Failed → Gives left left' piece (Err e)
      → ReadsSome left left' begun begun a a o o (Err error)
  some_failed left left' piece begun a o e error is gives = (given_none left left' piece e gives, is, none_handed a o)

  last_of :
      (left left' : Option (List ℕ)) (begun : Begun) (a c : List (Producer Asked A P)) (o q : Producer Reply B Q) (read : Read) → Ends left left' [] → HandsLast begun a c o q read
      → ReadsSome left left' begun begun a c o q (Ok (Some read))
  last_of left left' begun a c o q Whole ends last = (ends, last)
  last_of left left' begun a c o q Gone ends none = ([], end_consumed left left' [] ends, none_front begun [] a c o q none)

  pub some_ended :
      (left left' : Option (List ℕ)) (piece : List ℕ) (n : ℕ) (begun : Begun) (a c : List (Producer Asked A P)) (o q : Producer Reply B Q) (read : Read)
      → n ≡ 0 → 0 < length piece → Gives {E = SourceFailed} left left' piece (Ok n) → HandsLast begun a c o q read → ReadsSome left left' begun begun a c o q (Ok (Some read))
  some_ended left left' piece n begun a c o q read none some gives last = last_of left left' begun a c o q read (given_end left left' piece n none some gives) last

  pub some_read :
      (left left' : Option (List ℕ)) (piece : List ℕ) (n : ℕ) (begun begun' : Begun) (a c : List (Producer Asked A P)) (o q : Producer Reply B Q)
      → Gives {E = SourceFailed} left left' piece (Ok n) → HandsEnded begun begun' (take n piece) a c o q → ReadsSome left left' begun begun' a c o q (Ok None)
  some_read left left' piece n begun begun' a c o q gives ended = (take n piece, given_some left left' piece n gives, ended)

  pub some_stopped :
      (left left' : Option (List ℕ)) (piece : List ℕ) (n : ℕ) (begun begun' : Begun) (a c : List (Producer Asked A P)) (o q : Producer Reply B Q)
      → Gives {E = SourceFailed} left left' piece (Ok n) → HandsFront begun (take n piece) a c o q → ReadsSome left left' begun begun' a c o q (Ok (Some Gone))
  some_stopped left left' piece n begun begun' a c o q gives front = (take n piece, given_some left left' piece n gives, front)

-- nothing has come, unless something has
pub none_begins : (l : List ℕ) → ((l ≡ [] → ⊥) → false ≡ true) → l ≡ []
none_begins [] none = refl
none_begins (b ∷ l) none = let e : false ≡ true = none (λ is. omega (arith, ap length is)) in absurd cc
