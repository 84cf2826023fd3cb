-- What a session of a script keeps.
use Rattle.std.specs.Prelude.{◌≡◌, ⊤, ℕ, suc, ◌+◌, ◌≤◌, Bool, true, false, List, [], ◌∷◌, ◌++◌, map, length, Option, Some, None}
use Rattle.std.specs.List.{AllByRecursion, list_any}
use Rattle.clv_base.specs.declared.names.TxId.{TxId}
use Rattle.clv_base.specs.declared.names.Birth.{Birth}
use Rattle.clv_base.specs.declared.causes.AbortCause.TheVariants.{Asked as AskedCause}
use Rattle.clv_base.specs.declared.events.Event.{Event}
use Rattle.clv_base.specs.declared.events.Event.TheVariants.{Op as OpEvent, Drop}
use Rattle.clv_base.specs.declared.events.Outcome.TheVariants.{Asked, Acknowledged}
use Rattle.clv_base.specs.declared.events.Entry.{Entry}
use Rattle.clv_base.specs.Orders.{tx_same}
use Rattle.clv_base.specs.Journals.{History}
use Rattle.clv_base.specs.Maps.{Act, Operates, GoesBack, Acts}
use Rattle.clv_base.specs.History.{acts_in}
use Rattle.script_lang.specs.declared.actions.Ending.TheVariants.{Commit, Abort}
use Rattle.script_lang.specs.Bodies.{Body}
use Rattle.script_lang.specs.Following.{all_acts}
use Rattle.script_runs.specs.declared.ends.StopCause.{StopCause}
use Rattle.script_runs.specs.declared.ends.StopCause.TheVariants as stop
use Rattle.script_runs.specs.declared.ends.TryEnd.{TryEnd}
use Rattle.script_runs.specs.declared.ends.TryEnd.TheVariants as end
use Rattle.script_runs.specs.Operations.{parts_of}
use Rattle.script_runs.specs.Acts.{acts_of, answers_in, numbered, numbered_parts, AreActs}
use Rattle.script_runs.specs.Tries.{Try, IsTry, IsRequest, IsLook}
use Rattle.script_runs.specs.Sessions.{Transaction, IsTransaction, AreTransactions, FollowsScript, is_to_retry, has_left, entries_of, tries_of}

-- ---- an acknowledged try

-- it did all that the lines ask for, and the entries are that, then the request and the look that was told
pub record DidItsLines (splits : List ℕ) (body : Body) (birth : Birth) (t : Try) : Type 0 where
  pub ending_is : body.ending ≡ Commit
  pub before : History
  pub home : ℕ
  pub asked : ℕ × Entry
  pub told : ℕ × Entry
  pub entries_are : t.entries ≡ before ++ asked ∷ told ∷ []
  pub all : acts_of t.acts ≡ all_acts body.actions (answers_in t.acts)
  pub acts_are : AreActs splits t.tx birth 1 [] t.acts before
  pub asked_is : IsRequest t.tx home Asked asked
  pub told_is : IsLook t.tx home Acknowledged told

abbrev pub AcknowledgedDidTheirLines : Type 0
AcknowledgedDidTheirLines =
    (splits : List ℕ) (body : Body) (birth : Birth) (t : Try) → IsTry splits body birth t → t.end ≡ end.Acknowledged → DidItsLines splits body birth t

-- the parts of acts with their numbers, from nth on, one act's after another's: a going back is one
abbrev pub all_parts : List ℕ → ℕ → List Act → Acts
all_parts splits nth [] = []
all_parts splits nth (Operates op ∷ acts) = numbered_parts nth (parts_of splits op) ++ all_parts splits (suc nth) acts
all_parts splits nth (GoesBack upto ∷ acts) = (nth, GoesBack upto) ∷ all_parts splits (suc nth) acts

-- what its entries tell that it did are the parts of what its lines ask for
abbrev pub EntriesTellTheirLines : Type 0
EntriesTellTheirLines =
    (splits : List ℕ) (body : Body) (birth : Birth) (t : Try) → IsTry splits body birth t → t.end ≡ end.Acknowledged
    → numbered (acts_in t.tx t.entries) ≡ all_parts splits 1 (all_acts body.actions (answers_in t.acts))

-- and of another transaction's they tell nothing
abbrev pub EntriesTellOfNoOther : Type 0
EntriesTellOfNoOther =
    (splits : List ℕ) (body : Body) (birth : Birth) (t : Try) (tx : TxId) → IsTry splits body birth t → tx_same tx t.tx ≡ false → acts_in tx t.entries ≡ []

-- ---- drops

abbrev pub is_drop : Event → Bool
is_drop (Drop tx) = true
is_drop _ = false

-- a try is dropped where it was aborted, where the line `abort` ended it, though stamps were wanting then, or where a shard was down before its request
abbrev pub MayDrop : Body → TryEnd → Type 0
MayDrop body end.Acknowledged = ⊥
MayDrop body end.Empty = ⊥
MayDrop body end.Asked = body.ending ≡ Abort
MayDrop body (end.Aborted cause) = ⊤
MayDrop body (end.Stopped (stop.Down n)) = ⊤
MayDrop body (end.Stopped (stop.Unsettled n)) = ⊥
MayDrop body (end.Stopped (stop.Worn at)) = body.ending ≡ Abort
MayDrop body (end.Stopped stop.Memory) = ⊥

abbrev pub DropsHaveReasons : Type 0
DropsHaveReasons =
    (splits : List ℕ) (body : Body) (birth : Birth) (t : Try) → IsTry splits body birth t → list_any (λ e. is_drop (e.1).event) t.entries ≡ true → MayDrop body t.end

-- ---- tries

-- there are at most so many
abbrev pub TriesAreFew : Type 0
TriesAreFew =
    (splits : List ℕ) (run walker most : ℕ) (tr : Transaction) (cause : Option StopCause) → IsTransaction splits run walker (Some most) tr cause → 1 ≤ most
    → length tr.tries ≤ most

-- and in a session no more than it has transactions and made entries, as each that is followed by another one made an entry
abbrev pub SessionTriesAreFew : Type 0
SessionTriesAreFew =
    (splits : List ℕ) (run walker : ℕ) (most : Option ℕ) (bodies : List Body) (trs : List Transaction) (cause : Option StopCause) → AreTransactions splits run walker most bodies trs cause
    → length (tries_of trs) ≤ length bodies + length (entries_of (tries_of trs))

-- each operation of a transaction's tries bears its birth
abbrev pub IsBornSo : Birth → Event → Type 0
IsBornSo b (OpEvent tx birth nth seen op) = birth ≡ b
IsBornSo b _ = ⊤

abbrev pub TriesHaveOneBirth : Type 0
TriesHaveOneBirth =
    (splits : List ℕ) (run walker : ℕ) (most : Option ℕ) (tr : Transaction) (cause : Option StopCause) → IsTransaction splits run walker most tr cause
    → AllByRecursion (λ e. IsBornSo tr.birth (e.1).event) (entries_of tr.tries)

-- and those of different transactions have different ones
abbrev pub TransactionsHaveOwnBirths : Type 0
TransactionsHaveOwnBirths =
    (splits : List ℕ) (run walker : ℕ) (most : Option ℕ) (bodies : List Body) (cause : Option StopCause) (es : History) (f : FollowsScript splits run walker most bodies cause es)
    → (front between behind : List Transaction) (a b : Transaction) → f.transactions ≡ front ++ a ∷ between ++ b ∷ behind → a.birth ≡ b.birth → ⊥

-- ---- the whole session

-- how a transaction of so many tries ended that wasn't stopped, by its last try
pub data Completes (most : Option ℕ) (body : Body) (count : ℕ) : TryEnd → Type 0 where
  acknowledged : body.ending ≡ Commit → Completes most body count end.Acknowledged
  empty : body.ending ≡ Commit → Completes most body count end.Empty
  by_line : body.ending ≡ Abort → Completes most body count end.Asked
  was_asked : Completes most body count (end.Aborted AskedCause)
  no_try_left : (last : TryEnd) → is_to_retry last ≡ true → has_left most count ≡ false → Completes most body count last

pub record IsComplete (most : Option ℕ) (tr : Transaction) : Type 0 where
  pub front : List Try
  pub last : Try
  pub tries_are : tr.tries ≡ front ++ last ∷ []
  pub completes : Completes most tr.body (length tr.tries) last.end

-- a session that wasn't stopped went through all its transactions
abbrev pub SessionsGoThrough : Type 0
SessionsGoThrough =
    (splits : List ℕ) (run walker : ℕ) (most : Option ℕ) (bodies : List Body) (es : History) (f : FollowsScript splits run walker most bodies None es)
    → (map (λ tr. tr.body) f.transactions ≡ bodies) × AllByRecursion (IsComplete most) f.transactions

-- of a transaction that a try names, the session's entries tell what this try did alone
abbrev pub SessionsTellTheirTries : Type 0
SessionsTellTheirTries =
    (splits : List ℕ) (run walker : ℕ) (most : Option ℕ) (bodies : List Body) (cause : Option StopCause) (es : History) (f : FollowsScript splits run walker most bodies cause es)
    → (front behind : List Try) (t : Try) → tries_of f.transactions ≡ front ++ t ∷ behind → acts_in t.tx es ≡ acts_in t.tx t.entries
