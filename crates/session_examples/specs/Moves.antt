-- What a transfer makes of its session's entries.
use Rattle.std.specs.Prelude.{◌≡◌, ⊤, ℕ, ◌≤◌, ◌+◌, ◌-◌, List, [], ◌∷◌, ◌++◌, length, Some, Result, Ok, Err}
use Rattle.clv_base.specs.declared.values.Value.TheVariants.{Num}
use Rattle.clv_base.specs.declared.names.TxId.{TxId}
use Rattle.clv_base.specs.declared.names.Birth.{Birth}
use Rattle.clv_base.specs.declared.ops.Op.TheVariants.{Get, Put}
use Rattle.clv_base.specs.declared.ops.Answer.{Answer}
use Rattle.clv_base.specs.declared.ops.Answer.TheVariants.{Value}
use Rattle.clv_base.specs.declared.events.Outcome.TheVariants as out
use Rattle.clv_base.specs.declared.events.Entry.{Entry}
use Rattle.clv_base.specs.Journals.{History}
use Rattle.clv_base.specs.Sessions.{SessionState}
use Rattle.cluster_turns.specs.declared.shards.Shards.{Shards}
use Rattle.cluster_turns.specs.declared.shards.Walker.{Walker}
use Rattle.cluster_turns.specs.Walkers.{kept}
use Rattle.session_books.specs.Done.{Done, Did}
use Rattle.script_runs.specs.Acts.{AreActs, written_by}
use Rattle.script_runs.specs.Tries.{IsRequest, IsLook}
use Rattle.script_runs.specs.Sessions.{session_entries}
use Rattle.session_api.specs.declared.progress.Progress.{Progress}
use Rattle.session_api.specs.declared.progress.Progress.TheVariants.{Active}
use Rattle.session_examples.specs.declared.transfers.Transferred.{Transferred}
use Rattle.session_examples.specs.declared.transfers.Transferred.TheVariants.{Moved, Refused, GivenUp}
use Rattle.session_examples.specs.declared.transfers.Stop.{Stop}

-- ---- entries

-- one transaction's: what it did, its request, and a look that was told of its acknowledgement
pub record Acknowledges (splits : List ℕ) (acts : List Done) (es : History) : Type 0 where
  pub tx : TxId
  pub birth : Birth
  pub before : History
  pub home : ℕ
  pub asked : ℕ × Entry
  pub told : ℕ × Entry
  pub entries_are : es ≡ before ++ asked ∷ told ∷ []
  pub acts_are : AreActs splits tx birth 1 [] acts before
  pub asked_is : IsRequest tx home out.Asked asked
  pub told_is : IsLook tx home out.Acknowledged told

-- what a transfer does: both keys are read, then both are written
abbrev pub reads_and_writes : ℕ → ℕ → ℕ → ℕ → ℕ → ℕ → Answer → Answer → List Done
reads_and_writes from to holds other left sum one two =
    Did (Get from) (Value (Some (Num holds))) ∷ Did (Get to) (Value (Some (Num other))) ∷ Did (Put from (Num left)) one ∷ Did (Put to (Num sum)) two ∷ []

-- both keys are read, and the one holds enough; then both are written, whatever that is answered
pub record Moves (splits : List ℕ) (from to amount : ℕ) (es : History) : Type 0 where
  pub holds : ℕ
  pub other : ℕ
  pub covered : amount ≤ holds
  pub one : Answer
  pub two : Answer
  pub acknowledged : Acknowledges splits (reads_and_writes from to holds other (holds - amount) (other + amount) one two) es

-- ---- a session's

module _ {M S G : Type 0} where
  -- the entries that a session's walker has made as a session
  abbrev pub made_by : Walker M S G → History
  made_by w = session_entries (kept w.passes.items)

  -- since the walker w the active transaction has done this, and nothing else
  pub record Doing (sh : Shards M S G) (w v : Walker M S G) (t : Progress) (acts : List Done) : Type 0 where
    pub place : SessionState
    pub birth : Birth
    pub is : t ≡ Active place
    pub birth_is : place.birth ≡ Some birth
    pub nth_is : place.nth ≡ length acts
    pub written_is : place.written ≡ written_by sh.splits acts
    pub made : History
    pub made_is : made_by v ≡ made_by w ++ made
    pub acts_are : AreActs sh.splits place.tx birth 1 [] acts made

  -- it has done nothing so far
  abbrev pub IsFresh : Shards M S G → Walker M S G → Progress → Type 0
  IsFresh sh v t = Doing sh v v t []

  -- both keys were read, and these are to be their values
  abbrev pub IsPlanned : Shards M S G → ℕ → ℕ → ℕ → Walker M S G → ℕ → ℕ → Walker M S G → Progress → Type 0
  IsPlanned sh from to amount w left sum v t =
      (holds other : ℕ) × (amount ≤ holds) × (left ≡ holds - amount) × (sum ≡ other + amount)
      × Doing sh w v t (Did (Get from) (Value (Some (Num holds))) ∷ Did (Get to) (Value (Some (Num other))) ∷ [])

  -- since the walker w one transaction that did this was acknowledged
  abbrev pub HasAcknowledged : Shards M S G → List Done → Walker M S G → Walker M S G → Type 0
  HasAcknowledged sh acts w v = (es : History) × (made_by v ≡ made_by w ++ es) × Acknowledges sh.splits acts es

  -- the last of the entries since then are so; before them there may be others
  abbrev pub HasLast : (History → Type 0) → Walker M S G → Walker M S G → Type 0
  HasLast P w v = (earlier es : History) × (made_by v ≡ made_by w ++ earlier ++ es) × P es

  -- they are those of a transfer
  abbrev pub HasMoved : Shards M S G → ℕ → ℕ → ℕ → Walker M S G → Walker M S G → Type 0
  HasMoved sh from to amount w v = HasLast (Moves sh.splits from to amount) w v

  -- where it was moved, the last of its entries are those of the transfer
  abbrev pub MovesAs : Shards M S G → ℕ → ℕ → ℕ → Result Transferred Stop → Walker M S G → Walker M S G → Type 0
  MovesAs sh from to amount (Ok Moved) w v = HasMoved sh from to amount w v
  MovesAs sh from to amount (Ok (Refused why)) w v = ⊤
  MovesAs sh from to amount (Ok (GivenUp cause)) w v = ⊤
  MovesAs sh from to amount (Err stop) w v = ⊤
