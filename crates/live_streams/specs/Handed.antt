-- What the reader hands to the sessions.
use Rattle.std.specs.Prelude.{◌≡◌, ℕ, suc, ◌<◌, List, [], ◌++◌, length, map, slice_index_or, Option, Result, Ok, Err}
use Rattle.io_model.specs.Streams.{Ends, Consumes}
use Rattle.io_model.specs.declared.whole.ReadError.{ReadError}
use Rattle.io_model.specs.declared.whole.ReadError.TheVariants.{Failed, TooLong, Memory}
use Rattle.rtrb.specs.Ring.{sent, SameProducer}
use Rattle.rtrb.specs.declared.producer.Producer.{Producer}
use Rattle.live_lines.specs.declared.calls.Asked.{Asked}
use Rattle.live_lines.specs.declared.calls.Reply.{Reply}
use Rattle.live_lines.specs.declared.calls.Reply.TheVariants.{Refused}
use Rattle.live_lines.specs.declared.calls.Refusal.{Refusal}
use Rattle.live_streams.specs.Inputs.{TookInput, TookAllInput, TookAllButLast, of_session}
use Rattle.live_streams.specs.declared.reading.Read.{Read}
use Rattle.live_streams.specs.declared.reading.Read.TheVariants.{Whole, Gone}

-- the whole input was read, and each line handed out or refused; at a fault each line of what came before it, but perhaps the last; without memory nothing was read
abbrev pub ReadTo : Option (List ℕ) → Option (List ℕ) → ℕ → List ℕ → List (ℕ × Asked) → List Refusal → Result Read ReadError → Type 0
ReadTo left left' sessions bytes handed refused (Ok Whole) = Ends left left' bytes × TookAllInput sessions bytes handed refused
ReadTo left left' sessions bytes handed refused (Ok Gone) = Unit {0}
ReadTo left left' sessions bytes handed refused (Err Failed) = TookAllButLast sessions bytes handed refused
ReadTo left left' sessions bytes handed refused (Err TooLong) = ⊥
ReadTo left left' sessions bytes handed refused (Err Memory) = bytes ≡ []

module _ {A P B Q : Type 0} where
  -- these lines were handed out, to whom they name, and these refused
  pub record HandsAll (handed : List (ℕ × Asked)) (refused : List Refusal) (old new : List (Producer Asked A P)) (own own' : Producer Reply B Q) : Type 0 where
    pub len : length new ≡ length old
    pub same : (k : ℕ) (d : Producer Asked A P) → k < length old → SameProducer (slice_index_or old k d) (slice_index_or new k d)
    pub sends : (k : ℕ) (d : Producer Asked A P) → k < length old → sent (slice_index_or new k d) ≡ sent (slice_index_or old k d) ++ of_session (suc k) handed
    pub same_own : SameProducer own own'
    pub refuses : sent own' ≡ sent own ++ map Refused refused

  -- what was read, and what of it was handed out, or refused: the first lines, in their order
  pub record ReadsLines (left left' : Option (List ℕ)) (old new : List (Producer Asked A P)) (own own' : Producer Reply B Q) (result : Result Read ReadError) : Type 0 where
    pub bytes : List ℕ
    pub handed : List (ℕ × Asked)
    pub refused : List Refusal
    pub consumes : Consumes left left' bytes
    pub took : TookInput (length old) bytes handed refused
    pub hands : HandsAll handed refused old new own own'
    pub reads : ReadTo left left' (length old) bytes handed refused result
