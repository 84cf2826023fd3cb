-- What one step of the reader hands to the sessions.
use Rattle.std.specs.Prelude.{◌≡◌, ℕ, List, [], ◌∷◌, ◌++◌, length, Option, Some, None, Result, Ok, Err}
use Rattle.io_model.specs.Streams.{Ends, Consumes}
use Rattle.io_model.specs.declared.whole.ReadError.{ReadError}
use Rattle.io_model.specs.declared.whole.ReadError.TheVariants.{Failed}
use Rattle.rtrb.specs.declared.producer.Producer.{Producer}
use Rattle.live_lines.specs.Cutting.{Begun}
use Rattle.live_lines.specs.declared.calls.Asked.{Asked}
use Rattle.live_lines.specs.declared.calls.Reply.{Reply}
use Rattle.live_lines.specs.declared.calls.Refusal.{Refusal}
use Rattle.script_lang.specs.Grammar.{lines_of}
use Rattle.live_streams.specs.Inputs.{AreTaken, TookInput, TakenAs, plus}
use Rattle.live_streams.specs.Cut.{HasBegun, IsCut}
use Rattle.live_streams.specs.Handed.{HandsAll}
use Rattle.live_streams.specs.declared.reading.Read.{Read}
use Rattle.live_streams.specs.declared.reading.Read.TheVariants.{Whole, Gone}

module _ {A P B Q : Type 0} where
  -- one line was handed out or refused, if any, unless nobody takes answers any more
  abbrev pub HandsOne : {E : Type 0} → Option (ℕ × Asked) → Option Refusal → List (Producer Asked A P) → List (Producer Asked A P) → Producer Reply B Q → Producer Reply B Q → Result (Unit {0}) E → Type 0
  HandsOne one other old new own own' (Ok u) = HandsAll (plus [] one) (plus [] other) old new own own'
  HandsOne one other old new own own' (Err e) = HandsAll [] [] old new own own'

  -- so was what a line of the input asks for; none is a line that is too long
  abbrev pub HandsLine : {E : Type 0} → Option (List ℕ) → List (Producer Asked A P) → List (Producer Asked A P) → Producer Reply B Q → Producer Reply B Q → Result (Unit {0}) E → Type 0
  HandsLine line old new own own' result = (one : Option (ℕ × Asked)) × (other : Option Refusal) × TakenAs (length old) line one other × HandsOne one other old new own own' result

  -- bytes follow a line that has begun: the lines that end in them were handed out or refused
  abbrev pub HandsEnded : Begun → Begun → List ℕ → List (Producer Asked A P) → List (Producer Asked A P) → Producer Reply B Q → Producer Reply B Q → Type 0
  HandsEnded begun begun' bytes old new own own' =
      (handed : List (ℕ × Asked)) × (refused : List Refusal) × HandsAll handed refused old new own own' × ((line : List ℕ) → HasBegun begun line → IsCut (length old) line bytes begun' handed refused)

  -- some of them were, the first ones
  abbrev pub HandsFront : Begun → List ℕ → List (Producer Asked A P) → List (Producer Asked A P) → Producer Reply B Q → Producer Reply B Q → Type 0
  HandsFront begun bytes old new own own' =
      (handed : List (ℕ × Asked)) × (refused : List Refusal) × HandsAll handed refused old new own own' × ((line : List ℕ) → HasBegun begun line → TookInput (length old) (line ++ bytes) handed refused)

  -- one byte follows, and nobody takes answers any more where the line that it ends can't be handed out
  abbrev pub HandsByte : {E : Type 0} → Begun → Begun → ℕ → List (Producer Asked A P) → List (Producer Asked A P) → Producer Reply B Q → Producer Reply B Q → Result (Unit {0}) E → Type 0
  HandsByte begun begun' b old new own own' (Ok u) = HandsEnded begun begun' (b ∷ []) old new own own'
  HandsByte begun begun' b old new own own' (Err e) = HandsAll [] [] old new own own'

  -- all of them, unless nobody takes answers any more
  abbrev pub HandsBytes : {E : Type 0} → Begun → Begun → List ℕ → List (Producer Asked A P) → List (Producer Asked A P) → Producer Reply B Q → Producer Reply B Q → Result (Unit {0}) E → Type 0
  HandsBytes begun begun' bytes old new own own' (Ok u) = HandsEnded begun begun' bytes old new own own'
  HandsBytes begun begun' bytes old new own own' (Err e) = HandsFront begun bytes old new own own'

  -- no byte follows: the line that has begun was handed out or refused, if it has any
  abbrev pub HandsLast : Begun → List (Producer Asked A P) → List (Producer Asked A P) → Producer Reply B Q → Producer Reply B Q → Read → Type 0
  HandsLast begun old new own own' Whole =
      (handed : List (ℕ × Asked)) × (refused : List Refusal) × HandsAll handed refused old new own own' × ((line : List ℕ) → HasBegun begun line → AreTaken (length old) (lines_of line) handed refused)
  HandsLast begun old new own own' Gone = HandsAll [] [] old new own own'

  -- the next bytes were read and taken, or the input has ended, or the source failed, and nothing was taken
  abbrev pub ReadsSome : Option (List ℕ) → Option (List ℕ) → Begun → Begun → List (Producer Asked A P) → List (Producer Asked A P) → Producer Reply B Q → Producer Reply B Q → Result (Option Read) ReadError → Type 0
  ReadsSome left left' begun begun' old new own own' (Ok None) = (bytes : List ℕ) × Consumes left left' bytes × HandsEnded begun begun' bytes old new own own'
  ReadsSome left left' begun begun' old new own own' (Ok (Some Whole)) = Ends left left' [] × HandsLast begun old new own own' Whole
  ReadsSome left left' begun begun' old new own own' (Ok (Some Gone)) = (bytes : List ℕ) × Consumes left left' bytes × HandsFront begun bytes old new own own'
  ReadsSome left left' begun begun' old new own own' (Err e) = Consumes left left' [] × (e ≡ Failed) × HandsAll [] [] old new own own'
