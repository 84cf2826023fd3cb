-- What the members of a history did, in its order.
use Rattle.std.specs.Prelude.{◌≡◌, ◌⊎◌, ⊤, ℕ, Bool, true, false, not, ◌&&◌, ◌==◌, nat_lt, List, [], ◌∷◌, ◌++◌, map, Option, Some, None}
use Rattle.std.specs.List.{filter, AllByRecursion}
use Rattle.clv_base.specs.declared.names.TxId.{TxId}
use Rattle.clv_base.specs.declared.logs.LogRecord.{LogRecord}
use Rattle.clv_base.specs.declared.events.Event.{Event}
use Rattle.clv_base.specs.declared.events.Event.TheVariants.{Op as OpEvent, RollTo}
use Rattle.clv_base.specs.declared.events.Outcome.{Outcome}
use Rattle.clv_base.specs.declared.events.Outcome.TheVariants.{Answered, Rolled}
use Rattle.clv_base.specs.Orders.{tx_same, tx_in}
use Rattle.clv_base.specs.Maps.{KeyMap, op_answer, op_after}
use Rattle.clv_base.specs.Backs.{are_numbered}
use Rattle.clv_base.specs.Folding.{IsRising, meets_key, key_written, adds}
use Rattle.clv_base.specs.Logs.{stands}
use Rattle.clv_base.specs.Journals.{History}
use Rattle.clv_base.specs.History.{logs_left}
use Rattle.law_base.specs.Items.{AllLater}
use Rattle.serial_laws.specs.Shares.{ShardAct, OnShard, BackOn, is_on, numbered, part_on, ReplaysTo, goes_whole}
use Rattle.history_laws.specs.Openings.{LegalFrom}
use Rattle.history_laws.specs.Continuing.{serial_left}
use Rattle.history_laws.specs.Going.{shard_acts_in}
use Rattle.history_laws.specs.Places.{transactions_of, StandsBefore}
use Rattle.fate_laws.specs.Members.{is_member}

-- an operation that a shard answered or a going back there, and whose it is
pub record Act : Type 0 where
  pub tx : TxId
  pub done : ShardAct

abbrev pub act_of : ℕ → Event → Outcome → Option Act
act_of n (OpEvent tx birth nth seen op) (Answered answer epoch) = Some (record { tx = tx; done = OnShard n nth op answer })
act_of n (OpEvent tx birth nth seen op) _ = None
act_of n (RollTo tx nth seen upto) Rolled = Some (record { tx = tx; done = BackOn n nth upto })
act_of n (RollTo tx nth seen upto) _ = None
act_of n _ o = None

-- those of a history, in its order
abbrev pub with_act : Option Act → List Act → List Act
with_act None as_ = as_
with_act (Some a) as_ = a ∷ as_

abbrev pub acts : History → List Act
acts [] = []
acts (e ∷ es) = with_act (act_of e.0 (e.1).event (e.1).outcome) (acts es)

-- those of the members, by what a crash leaves
abbrev pub member_acts : List ℕ → List (List LogRecord) → History → List (List LogRecord) → (ℕ → Bool) → List Act
member_acts splits before h after choice = filter (λ a. is_member splits before h after choice a.tx) (acts h)

-- ---- Base: what each operation finds

-- whether it is one of the operations that a going back of this transaction on this shard takes away
abbrev pub is_beyond_by : Bool → ℕ → ℕ → ShardAct → Bool
is_beyond_by own shard upto (OnShard n number op answer) = own && (n == shard) && nat_lt upto number
is_beyond_by own shard upto (BackOn n number to) = false

abbrev pub is_beyond : TxId → ℕ → ℕ → Act → Bool
is_beyond tx shard upto a = is_beyond_by (tx_same a.tx tx) shard upto a.done

-- the operations that hold after one more act
abbrev pub held_by : List Act → Act → ShardAct → List Act
held_by so_far a (OnShard shard number op answer) = so_far ++ a ∷ []
held_by so_far a (BackOn shard number upto) = filter (λ b. not (is_beyond a.tx shard upto b)) so_far

abbrev pub held_with : List Act → Act → List Act
held_with so_far a = held_by so_far a a.done

-- the map after some operations
abbrev pub done_on : ShardAct → KeyMap → KeyMap
done_on (OnShard shard number op answer) m = op_after op m
done_on (BackOn shard number upto) m = m

abbrev pub map_after : KeyMap → List Act → KeyMap
map_after m [] = m
map_after m (a ∷ as_) = map_after (done_on a.done m) as_

abbrev pub AnswersBy : KeyMap → ShardAct → Type 0
AnswersBy m (OnShard shard number op answer) = answer ≡ op_answer op m
AnswersBy m (BackOn shard number upto) = ⊤

-- from the first map each operation answers as the map does with the writes of the earlier ones that hold then, and those that hold at the end
-- come to the last map
abbrev pub AnswersFrom : KeyMap → List Act → List Act → KeyMap → Type 0
AnswersFrom m held [] last = map_after m held ≡ last
AnswersFrom m held (a ∷ as_) last = AnswersBy (map_after m held) a.done × AnswersFrom m (held_with held a) as_ last

abbrev pub AnswersAreOfEarlier : Type 0
AnswersAreOfEarlier =
    (splits : List ℕ) (before : List (List LogRecord)) (h : History) (after : List (List LogRecord)) (choice : ℕ → Bool)
    → LegalFrom splits before h after
    → AnswersFrom (stands before) [] (member_acts splits before h after choice) (stands (logs_left splits before h after choice))

-- ---- Order: who meets whom

abbrev pub meets_at : ShardAct → ℕ → Bool
meets_at (OnShard shard number op answer) k = meets_key op k
meets_at (BackOn shard number upto) k = false

abbrev pub written_by : ShardAct → Option ℕ
written_by (OnShard shard number op answer) = key_written op answer
written_by (BackOn shard number upto) = None

abbrev pub has_added : ShardAct → Bool
has_added (OnShard shard number op answer) = adds op answer
has_added (BackOn shard number upto) = false

-- both operations meet a key that one of them writes (a Del where it found a value, an Add where it found a number; a Scan meets all keys in its
-- bounds), and not both of them add to a number
abbrev pub Meet : Act → Act → Type 0
Meet a b =
    (k : ℕ) × (meets_at a.done k ≡ true) × (meets_at b.done k ≡ true) × ((written_by a.done ≡ Some k) ⊎ (written_by b.done ≡ Some k))
    × ((has_added a.done && has_added b.done) ≡ false)

-- of two that meet, the first of which stands earlier, it is of the same transaction, or of one at an earlier place
abbrev pub MeetInOrder : List TxId → List Act → Type 0
MeetInOrder ts as_ = AllLater (λ a b. Meet a b → (a.tx ≡ b.tx) ⊎ StandsBefore a.tx b.tx ts) as_

-- and between an operation and the going back that takes it away nobody else meets it
abbrev pub NobodyBefore : List Act → TxId → ShardAct → Type 0
NobodyBefore so_far tx (OnShard shard number op answer) = ⊤
NobodyBefore so_far tx (BackOn shard number upto) = AllLater (λ a b. is_beyond tx shard upto a ≡ true → Meet a b → a.tx ≡ b.tx) so_far

abbrev pub NobodyBetween : List Act → List Act → Type 0
NobodyBetween so_far [] = ⊤
NobodyBetween so_far (a ∷ as_) = NobodyBefore so_far a.tx a.done × NobodyBetween (so_far ++ a ∷ []) as_

abbrev pub MeetingsFollowPlaces : Type 0
MeetingsFollowPlaces =
    (splits : List ℕ) (before : List (List LogRecord)) (h : History) (after : List (List LogRecord)) (choice : ℕ → Bool)
    → LegalFrom splits before h after
    → MeetInOrder (transactions_of (serial_left splits before h after choice)) (member_acts splits before h after choice)
    × NobodyBetween [] (member_acts splits before h after choice)

-- ---- and that is all that a serial history needs

-- each stands once
abbrev pub AreDistinct : List TxId → Type 0
AreDistinct [] = ⊤
AreDistinct (t ∷ ts) = (tx_in t ts ≡ false) × AreDistinct ts

-- of each transaction its acts
abbrev pub acts_of_each : List TxId → List Act → List (List ShardAct)
acts_of_each ts as_ = map (λ t. map (λ a. a.done) (filter (λ a. tx_same a.tx t) as_)) ts

-- any acts of some transactions on one shard, numbered in order, that answer as the map does with the writes that hold, that meet in the order of
-- the transactions' places, and with nobody between an operation and its going back, replay transaction by transaction, with these answers and to
-- this map
abbrev pub ActsReplay : Type 0
ActsReplay =
    (n : ℕ) (start last : KeyMap) (ts : List TxId) (as_ : List Act) → IsRising start → AreDistinct ts
    → AllByRecursion (λ a. (tx_in a.tx ts ≡ true) × (is_on n a.done ≡ true)) as_
    → AllByRecursion (λ t. are_numbered 0 [] (numbered (part_on n t)) ≡ true) (acts_of_each ts as_)
    → AnswersFrom start [] as_ last → MeetInOrder ts as_ → NobodyBetween [] as_
    → ReplaysTo start (map (part_on n) (acts_of_each ts as_)) last

-- what is needed of the members beside: each stands once, their acts are those of the history, and their goings back are whole
abbrev pub MembersHaveTheirActs : Type 0
MembersHaveTheirActs =
    (splits : List ℕ) (before : List (List LogRecord)) (h : History) (after : List (List LogRecord)) (choice : ℕ → Bool)
    → LegalFrom splits before h after → AreDistinct (transactions_of (serial_left splits before h after choice))
    × (acts_of_each (transactions_of (serial_left splits before h after choice)) (member_acts splits before h after choice)
    ≡ map (λ m. shard_acts_in m.tx h) (serial_left splits before h after choice))
    × AllByRecursion (λ m. goes_whole (shard_acts_in m.tx h) ≡ true) (serial_left splits before h after choice)
