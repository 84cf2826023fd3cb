-- Who falls on a shard, and that no commit finds one that did.
use Rattle.std.specs.Prelude.{◌≡◌, ◌⊎◌, ℕ, ◌<◌, Bool, true, false, List, [], ◌∷◌, ◌++◌}
use Rattle.clv_base.specs.declared.names.TxId.{TxId}
use Rattle.clv_base.specs.declared.logs.LogRecord.{LogRecord}
use Rattle.clv_base.specs.declared.messages.Message.TheVariants.{Decide}
use Rattle.clv_base.specs.declared.events.Event.TheVariants.{Deliver, Restart}
use Rattle.clv_base.specs.declared.events.Event.{Event}
use Rattle.clv_base.specs.LogRules.{log_of}
use Rattle.clv_base.specs.Orders.{tx_in}
use Rattle.clv_base.specs.declared.events.Outcome.TheVariants.{Taken}
use Rattle.clv_base.specs.declared.events.Entry.{Entry}
use Rattle.clv_base.specs.Shards.{shard_count}
use Rattle.clv_base.specs.Logs.{committed_in}
use Rattle.clv_base.specs.State.{Shard, is_present}
use Rattle.clv_base.specs.Undo.{stage_of}
use Rattle.clv_base.specs.Journals.{History, start_of, after_entry, journal_of}
use Rattle.clv_base.specs.History.{state_before}
use Rattle.clv_base.specs.Restarts.{run_after}
use Rattle.history_laws.specs.Openings.{LegalFrom}
use Rattle.fate_laws.specs.Decisions.{IsHome, is_left}
use Rattle.shard_laws.specs.OneShard.{is_doomed, doomed_in, left_out}

-- a restart left the transaction out: its part was there, and is neither there after it nor committed
abbrev pub IsLeftOut : Shard → Shard → TxId → Type 0
IsLeftOut s t tx = (is_present (stage_of s.local tx) ≡ true) × (is_present (stage_of t.local tx) ≡ false) × (committed_in t.local.log tx ≡ false)

-- so it was by a restart of the shard so far
abbrev pub WasLeftOut : List (List LogRecord) → History → List (List LogRecord) → ℕ → TxId → Type 0
WasLeftOut before so_far after n tx =
    (front : History) × (e : Entry) × (rest : History) × (front ++ (n, e) ∷ rest ≡ so_far) × (e.event ≡ Restart)
    × IsLeftOut (state_before before front after n) (state_before before (front ++ (n, e) ∷ []) after n) tx

-- at some moment so far its part was gone by an abort
abbrev pub WasDoomed : List (List LogRecord) → History → List (List LogRecord) → ℕ → TxId → Type 0
WasDoomed before so_far after n tx = (front : History) × (rest : History) × (front ++ rest ≡ so_far) × (is_doomed (stage_of (state_before before front after n).local tx) ≡ true)

-- the transaction fell on the shard: an abort took its part away, or a restart left it out
abbrev pub Fell : List (List LogRecord) → History → List (List LogRecord) → ℕ → TxId → Type 0
Fell before so_far after n tx = WasLeftOut before so_far after n tx ⊎ WasDoomed before so_far after n tx

-- who falls by an entry, as the histories of one shard count them: those whose parts are gone by an abort, and at a restart those that were
-- here and are neither restored nor committed
abbrev pub falls_by : Event → Shard → Shard → List TxId
falls_by Restart s t = left_out s t
falls_by _ s t = doomed_in t

-- all that fell by a journal's entries, the last ones first
abbrev pub fallen_in : List LogRecord → Shard → List Entry → List TxId → List TxId
fallen_in log s [] so_far = so_far
fallen_in log s (e ∷ es) so_far = let t = after_entry log s e in fallen_in log t es (falls_by e.event s t ++ so_far)

abbrev pub fallen_on : List (List LogRecord) → History → List (List LogRecord) → ℕ → List TxId
fallen_on before so_far after n = fallen_in (log_of after n) (start_of before n) (journal_of n so_far) []

-- at each moment, who fell on a shard is not committed there
abbrev pub FallenAreUncommitted : Type 0
FallenAreUncommitted =
    (splits : List ℕ) (before : List (List LogRecord)) (so_far later : History) (after : List (List LogRecord)) (n : ℕ) (tx : TxId)
    → LegalFrom splits before (so_far ++ later) after → n < shard_count splits
    → Fell before so_far after n tx → committed_in (state_before before so_far after n).local.log tx ≡ false

-- a commit that is decided, and is taken where it isn't in the log yet, finds a part that never fell there
abbrev pub CommitsFindTheUnfallen : Type 0
CommitsFindTheUnfallen =
    (splits : List ℕ) (before : List (List LogRecord)) (so_far : History) (n : ℕ) (e : Entry) (later : History) (after : List (List LogRecord)) (tx : TxId) (to home stamp : ℕ)
    → LegalFrom splits before (so_far ++ (n, e) ∷ later) after
    → e.event ≡ Deliver (Decide to tx home true) stamp → e.outcome ≡ Taken → committed_in (state_before before so_far after n).local.log tx ≡ false
    → Fell before so_far after n tx → ⊥

-- so it is none of those that fell, as the histories of one shard count them
abbrev pub CommitsFindNoneFallen : Type 0
CommitsFindNoneFallen =
    (splits : List ℕ) (before : List (List LogRecord)) (so_far : History) (n : ℕ) (e : Entry) (later : History) (after : List (List LogRecord)) (tx : TxId) (to home stamp : ℕ)
    → LegalFrom splits before (so_far ++ (n, e) ∷ later) after
    → e.event ≡ Deliver (Decide to tx home true) stamp → e.outcome ≡ Taken → committed_in (state_before before so_far after n).local.log tx ≡ false
    → tx_in tx (fallen_on before so_far after n) ≡ false

-- whose COMMIT is left in a shard's log, whatever a crash keeps, never fell there
abbrev pub CommittedNeverFell : Type 0
CommittedNeverFell =
    (splits : List ℕ) (before : List (List LogRecord)) (h : History) (after : List (List LogRecord)) (choice : ℕ → Bool) (n : ℕ) (tx : TxId)
    → LegalFrom splits before h after → n < shard_count splits
    → is_left splits before h after choice n tx ≡ true → Fell before h after n tx → ⊥

-- nor at its home, where a COMMIT of it is left on any shard
abbrev pub MembersNeverFellAtHome : Type 0
MembersNeverFellAtHome =
    (splits : List ℕ) (before : List (List LogRecord)) (h : History) (after : List (List LogRecord)) (choice : ℕ → Bool) (n home : ℕ) (tx : TxId)
    → LegalFrom splits before h after → n < shard_count splits → home < shard_count splits → tx.run ≡ run_after before
    → is_left splits before h after choice n tx ≡ true → IsHome h tx home → Fell before h after home tx → ⊥
