-- One try of a transaction.
use Rattle.std.specs.Prelude.{◌≡◌, ◌≢◌, ℕ, suc, Bool, true, false, List, [], ◌∷◌, ◌++◌, length, Option, Some, None}
use Rattle.std.specs.List.{AllByRecursion}
use Rattle.clv_base.specs.declared.names.TxId.{TxId}
use Rattle.clv_base.specs.declared.names.Birth.{Birth}
use Rattle.clv_base.specs.declared.causes.AbortCause.{AbortCause}
use Rattle.clv_base.specs.declared.ops.Op.{Op}
use Rattle.clv_base.specs.declared.ops.Answer.{Answer}
use Rattle.clv_base.specs.declared.events.Event.TheVariants.{Request, Look, Drop}
use Rattle.clv_base.specs.declared.events.Outcome.{Outcome}
use Rattle.clv_base.specs.declared.events.Outcome.TheVariants.{Dead, Asked, Acknowledged, Aborted, Dropped}
use Rattle.clv_base.specs.declared.events.Entry.{Entry}
use Rattle.clv_base.specs.Maps.{Operates, GoesBack}
use Rattle.clv_base.specs.Journals.{History}
use Rattle.script_lang.specs.declared.actions.Ending.{Ending}
use Rattle.script_lang.specs.declared.actions.Ending.TheVariants.{Commit, Abort}
use Rattle.script_lang.specs.Bodies.{Body}
use Rattle.session_books.specs.Done.{Done}
use Rattle.script_runs.specs.Operations.{ArePartsAnswered, IsBegun, IsDeath, parts_of}
use Rattle.script_runs.specs.Acts.{KeepsTo, next_of, written_by, IsBackBegun, IsBackDeath, AreActs}
pub use Rattle.script_runs.specs.Acts.{is_touched}
use Rattle.script_runs.specs.declared.ends.StopCause.{StopCause}
use Rattle.script_runs.specs.declared.ends.StopCause.TheVariants as stop
use Rattle.script_runs.specs.declared.ends.TryEnd.{TryEnd}
use Rattle.script_runs.specs.declared.ends.TryEnd.TheVariants as end

-- a try: its name, what it did, how it ended, and its entries
pub record Try : Type 0 where
  pub tx : TxId
  pub acts : List Done
  pub end : TryEnd
  pub entries : History

-- ---- the entries behind the acts

-- an entry is the transaction's request at its home, with this outcome; a look there
pub record IsRequest (tx : TxId) (home : ℕ) (o : Outcome) (e : ℕ × Entry) : Type 0 where
  pub shard : e.0 ≡ home
  pub touched : List (ℕ × ℕ)
  pub event : (e.1).event ≡ Request tx touched
  pub outcome : (e.1).outcome ≡ o

pub record IsLook (tx : TxId) (home : ℕ) (o : Outcome) (e : ℕ × Entry) : Type 0 where
  pub shard : e.0 ≡ home
  pub event : (e.1).event ≡ Look tx
  pub outcome : (e.1).outcome ≡ o

-- an entry drops the transaction on a shard that these entries touched, but not on the one where it is gone already
pub record IsDrop (tx : TxId) (before : History) (gone : Option ℕ) (e : ℕ × Entry) : Type 0 where
  pub event : (e.1).event ≡ Drop tx
  pub outcome : (e.1).outcome ≡ Dropped
  pub touched : is_touched before e.0 ≡ true
  pub other : gone ≢ Some e.0

abbrev pub AreDrops : TxId → History → Option ℕ → History → Type 0
AreDrops tx before gone es = AllByRecursion (IsDrop tx before gone) es

-- ---- how it ended

-- each line was done, and the transaction is to end so
pub record IsDone (body : Body) (ending : Ending) (acts : List Done) : Type 0 where
  pub all : next_of body.actions acts ≡ None
  pub ending_is : body.ending ≡ ending

-- behind what was done, and before a request: the next operation was begun, or the next going back; or the request is next
pub data IsUnderWay (splits : List ℕ) (body : Body) (tx : TxId) (birth : Birth) (acts : List Done) : History → Type 0 where
  operation_begun :
      (op : Op) (es : History) → next_of body.actions acts ≡ Some (Operates op) → IsBegun splits tx birth (suc (length acts)) op es
      → IsUnderWay splits body tx birth acts es
  back_begun :
      (upto n : ℕ) (es : History) → next_of body.actions acts ≡ Some (GoesBack upto) → IsBackBegun tx (suc (length acts)) upto (written_by splits acts) n es
      → IsUnderWay splits body tx birth acts es
  request_next : IsDone body Commit acts → IsUnderWay splits body tx birth acts []

-- stamps or memory are wanting
abbrev pub is_want : StopCause → Bool
is_want (stop.Down n) = false
is_want (stop.Unsettled n) = false
is_want (stop.Worn at) = true
is_want stop.Memory = true

-- what stands behind the entries of what was done, by how the try ended
pub data EndsBy (splits : List ℕ) (body : Body) (tx : TxId) (birth : Birth) (acts : List Done) (before : History) : TryEnd → History → Type 0 where
  -- the request was asked, and a look was told of the acknowledgement
  acknowledged :
      (home : ℕ) (asked told : ℕ × Entry) → IsDone body Commit acts → IsRequest tx home Asked asked → IsLook tx home Acknowledged told
      → EndsBy splits body tx birth acts before end.Acknowledged (asked ∷ told ∷ [])
  -- it did nothing, so there was nothing to commit
  nothing : IsDone body Commit acts → acts ≡ [] → EndsBy splits body tx birth acts before end.Empty []
  -- the line `abort` ended it
  by_line : (drops : History) → IsDone body Abort acts → AreDrops tx before None drops → EndsBy splits body tx birth acts before end.Asked drops
  -- the next operation died
  in_operation :
      (op : Op) (cause : AbortCause) (n : ℕ) (here drops : History) → next_of body.actions acts ≡ Some (Operates op)
      → IsDeath splits tx birth (suc (length acts)) op cause n here → AreDrops tx (before ++ here) (Some n) drops
      → EndsBy splits body tx birth acts before (end.Aborted cause) (here ++ drops)
  -- the next going back died
  in_going_back :
      (upto : ℕ) (cause : AbortCause) (n : ℕ) (here drops : History) → next_of body.actions acts ≡ Some (GoesBack upto)
      → IsBackDeath tx (suc (length acts)) upto (written_by splits acts) cause n here → AreDrops tx (before ++ here) (Some n) drops
      → EndsBy splits body tx birth acts before (end.Aborted cause) (here ++ drops)
  -- the request died
  at_request :
      (home : ℕ) (cause : AbortCause) (asked : ℕ × Entry) (drops : History) → IsDone body Commit acts → IsRequest tx home (Dead cause) asked
      → AreDrops tx before (Some home) drops → EndsBy splits body tx birth acts before (end.Aborted cause) (asked ∷ drops)
  -- a look was told of the abort
  at_look :
      (home : ℕ) (cause : AbortCause) (asked told : ℕ × Entry) (drops : History) → IsDone body Commit acts → IsRequest tx home Asked asked
      → IsLook tx home (Aborted cause) told → AreDrops tx before (Some home) drops
      → EndsBy splits body tx birth acts before (end.Aborted cause) (asked ∷ told ∷ drops)
  -- a shard was down before the request: the transaction is dropped
  down :
      (n : ℕ) (here drops : History) → IsUnderWay splits body tx birth acts here → AreDrops tx (before ++ here) None drops
      → EndsBy splits body tx birth acts before (end.Stopped (stop.Down n)) (here ++ drops)
  -- a shard was down behind it: the request stands
  unsettled :
      (n home : ℕ) (asked : ℕ × Entry) → IsDone body Commit acts → IsRequest tx home Asked asked
      → EndsBy splits body tx birth acts before (end.Stopped (stop.Unsettled n)) (asked ∷ [])
  -- stamps or memory were wanting: the transaction stands as it was
  wanting_before :
      (cause : StopCause) (here : History) → is_want cause ≡ true → IsUnderWay splits body tx birth acts here
      → EndsBy splits body tx birth acts before (end.Stopped cause) here
  wanting_behind :
      (cause : StopCause) (home : ℕ) (asked : ℕ × Entry) → is_want cause ≡ true → IsDone body Commit acts → IsRequest tx home Asked asked
      → EndsBy splits body tx birth acts before (end.Stopped cause) (asked ∷ [])
  -- memory was wanting between two acts
  wanting_between : EndsBy splits body tx birth acts before (end.Stopped stop.Memory) []
  -- each part of the next operation was answered, but memory was wanting for its answer
  unanswered :
      (op : Op) (parts : List Answer) (here : History) → next_of body.actions acts ≡ Some (Operates op)
      → ArePartsAnswered tx birth (suc (length acts)) (parts_of splits op) parts here → EndsBy splits body tx birth acts before (end.Stopped stop.Memory) here
  -- stamps were wanting at the line `abort`
  worn_at_line :
      (at : ℕ) (drops : History) → IsDone body Abort acts → AreDrops tx before None drops
      → EndsBy splits body tx birth acts before (end.Stopped (stop.Worn at)) drops

-- a try of a transaction of this birth: what its lines ask for, numbered from 1, as far as it was done; and behind that stands how it ended
pub record IsTry (splits : List ℕ) (body : Body) (birth : Birth) (t : Try) : Type 0 where
  pub before : History
  pub behind : History
  pub entries_are : t.entries ≡ before ++ behind
  pub follows : KeepsTo body.actions t.acts
  pub acts_are : AreActs splits t.tx birth 1 [] t.acts before
  pub ends : EndsBy splits body t.tx birth t.acts before t.end behind
