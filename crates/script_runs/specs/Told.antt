-- What a session's calls tell.
use Rattle.std.specs.Prelude.{◌≡◌, ◌⊎◌, ⊤, ℕ, suc, ◌<◌, ◌≤◌, Bool, true, false, nat_le, List, [], ◌∷◌, ◌++◌, Option, Some, None, Result, Ok, Err}
use Rattle.std.specs.List.{AllByRecursion}
use Rattle.clv_base.specs.declared.names.TxId.{TxId}
use Rattle.clv_base.specs.declared.names.Birth.{Birth}
use Rattle.clv_base.specs.declared.names.Point.{Point}
use Rattle.clv_base.specs.declared.causes.AbortCause.{AbortCause}
use Rattle.clv_base.specs.declared.ops.Op.{Op}
use Rattle.clv_base.specs.declared.ops.Op.TheVariants.{Get, Put, Del, Scan, Add}
use Rattle.clv_base.specs.declared.ops.Answer.{Answer}
use Rattle.clv_base.specs.declared.events.Event.TheVariants.{Drop}
use Rattle.clv_base.specs.declared.events.Outcome.TheVariants.{Dead, Asked as AskedOut, Acknowledged as AcknowledgedOut, Aborted as AbortedOut, Dropped}
use Rattle.clv_base.specs.declared.events.Entry.{Entry}
use Rattle.clv_base.specs.Journals.{History}
use Rattle.script_runs.specs.declared.ends.StopCause.{StopCause}
use Rattle.script_runs.specs.declared.ends.StopCause.TheVariants.{Down, Unsettled, Worn, Memory}
use Rattle.script_runs.specs.declared.ends.TryEnd.{TryEnd}
use Rattle.script_runs.specs.declared.ends.TryEnd.TheVariants.{Acknowledged, Empty, Asked, Aborted, Stopped}
use Rattle.script_runs.specs.Operations.{IsOperation, ArePartsAnswered, IsBegun, IsDeath, parts_of}
use Rattle.script_runs.specs.Acts.{is_touched, stands_above, IsGoingBack, IsBackBegun, IsBackDeath}
use Rattle.script_runs.specs.Tries.{IsRequest, IsLook}
use Rattle.script_runs.specs.Seen.{Idle, Active, Seen, Misses, Grows, GrowsIn, IsWornOut, untouched}
use Rattle.script_runs.specs.Seen as seen

-- ---- beginnings

-- the transaction is a new one, with this birth
pub record Begins (birth : Birth) (u v : Seen) : Type 0 where
  pub tx : TxId
  pub run_is : tx.run ≡ u.run
  pub session_is : tx.session ≡ u.walker
  pub serial_is : tx.serial ≡ v.serial
  pub rises : v.serial ≡ suc u.serial
  pub grows : GrowsIn 1 [] u v
  pub active : v.standing ≡ Active tx birth 0 untouched

-- what was refused made nothing
abbrev pub BeginTold : {A : Type 0} → Result A StopCause → Seen → Seen → Type 0
BeginTold (Ok a) u v = (birth : Birth) × (birth.session ≡ u.walker) × (u.clock < birth.stamp) × (birth.stamp ≤ v.clock) × Begins birth u v
BeginTold (Err (Worn at)) u v = Grows [] u v
BeginTold (Err Memory) u v = ⊥
BeginTold (Err (Down n)) u v = ⊥
BeginTold (Err (Unsettled n)) u v = ⊥

-- nor did a further try before which a shard was found down: the session stands as it did
abbrev pub RetryTold : {A : Type 0} → Birth → Result A StopCause → Seen → Seen → Type 0
RetryTold birth (Ok a) u v = Begins birth u v
RetryTold birth (Err (Worn at)) u v = Grows [] u v
RetryTold birth (Err Memory) u v = ⊥
RetryTold birth (Err (Down n)) u v = Grows [] u v × (v.standing ≡ Idle (Some birth))
RetryTold birth (Err (Unsettled n)) u v = ⊥

-- ---- drops

-- an entry drops the transaction on a shard that it touched, but not on the one where it is gone already
pub record IsDropOf (tx : TxId) (touched : ℕ → Bool) (left_out : Option ℕ) (e : ℕ × Entry) : Type 0 where
  pub event : (e.1).event ≡ Drop tx
  pub outcome : (e.1).outcome ≡ Dropped
  pub on_touched : touched e.0 ≡ true
  pub other : left_out ≡ Some e.0 → ⊥

abbrev pub AreDropsOf : TxId → (ℕ → Bool) → Option ℕ → History → Type 0
AreDropsOf tx touched left_out es = AllByRecursion (IsDropOf tx touched left_out) es

-- each shard that is touched was touched before, or is one of these entries'
abbrev pub TouchesBy : (ℕ → Bool) → History → (ℕ → Bool) → Type 0
TouchesBy before es after = (n : ℕ) → after n ≡ true → (before n ≡ true) ⊎ (is_touched es n ≡ true)

-- those shards are touched, and no others
pub record TouchesJust (before : ℕ → Bool) (es : History) (after : ℕ → Bool) : Type 0 where
  pub only : TouchesBy before es after
  pub stay : (n : ℕ) → before n ≡ true → after n ≡ true
  pub new : (n : ℕ) → is_touched es n ≡ true → after n ≡ true

-- each touched shard has one of these drops, or a drop came to nothing there
abbrev pub DropsEach : (ℕ → Bool) → History → (ℕ → Type 0) → Type 0
DropsEach touched drops missed = (n : ℕ) → touched n ≡ true → (is_touched drops n ≡ true) ⊎ missed n

-- ---- operations

-- the bounds of a scan don't fall
abbrev pub has_range : Op → Bool
has_range (Get k) = true
has_range (Put k v) = true
has_range (Del k) = true
has_range (Scan lo hi) = nat_le lo hi
has_range (Add k by) = true

-- active still, with these shards touched
abbrev pub StaysActive : TxId → Birth → (ℕ → Bool) → Seen → Type 0
StaysActive tx birth touched v = (nth : ℕ) × (v.standing ≡ Active tx birth nth touched)

-- each part was answered, but memory was wanting for the operation's answer
abbrev pub IsUnanswered : List ℕ → TxId → Birth → ℕ → Op → History → Type 0
IsUnanswered splits tx birth nth op es = (parts : List Answer) × ArePartsAnswered tx birth nth (parts_of splits op) parts es

-- of the active transaction's operation: the shards touched after it, and its entries
abbrev pub OperateTold : TxId → Birth → ℕ → (ℕ → Bool) → Op → Result Answer TryEnd → Seen → Seen → Type 0
OperateTold tx birth nth touched op (Ok answer) u v =
    (here : History) × (after : ℕ → Bool) × IsOperation u.splits tx birth (suc nth) op answer here × TouchesJust touched here after × Grows here u v
    × (v.standing ≡ Active tx birth (suc nth) after)
OperateTold tx birth nth touched op (Err (Aborted cause)) u v =
    (here drops : History) × (n : ℕ) × (after : ℕ → Bool) × IsDeath u.splits tx birth (suc nth) op cause n here × TouchesBy touched here after
    × AreDropsOf tx after (Some n) drops × Grows (here ++ drops) u v × (v.standing ≡ Idle (Some birth))
OperateTold tx birth nth touched op (Err (Stopped (Down n))) u v =
    (here : History) × (after : ℕ → Bool) × IsBegun u.splits tx birth (suc nth) op here × TouchesJust touched here after × Grows here u v × StaysActive tx birth after v
OperateTold tx birth nth touched op (Err (Stopped (Worn at))) u v =
    (here : History) × (after : ℕ → Bool) × IsBegun u.splits tx birth (suc nth) op here × TouchesJust touched here after × Grows here u v × StaysActive tx birth after v
OperateTold tx birth nth touched op (Err (Stopped Memory)) u v =
    (here : History) × (after : ℕ → Bool) × (IsBegun u.splits tx birth (suc nth) op here ⊎ IsUnanswered u.splits tx birth (suc nth) op here)
    × TouchesJust touched here after × Grows here u v × StaysActive tx birth after v
OperateTold tx birth nth touched op (Err (Stopped (Unsettled n))) u v = ⊥
OperateTold tx birth nth touched op (Err Acknowledged) u v = ⊥
OperateTold tx birth nth touched op (Err Empty) u v = ⊥
OperateTold tx birth nth touched op (Err Asked) u v = ⊥

-- ---- goings back

-- each is on a shard that is touched
abbrev pub AreOn : (ℕ → Bool) → History → Type 0
AreOn touched es = (n : ℕ) → is_touched es n ≡ true → touched n ≡ true

-- of the active transaction's going back to where it was after so many acts, where these writes stand: where none of a later act does it makes nothing, and else
-- it is told where it led
abbrev pub BackTold : TxId → Birth → ℕ → (ℕ → Bool) → ℕ → List (ℕ × ℕ) → Result (Option ℕ) TryEnd → Seen → Seen → Type 0
BackTold tx birth nth touched upto ws (Ok None) u v = (stands_above upto ws ≡ false) × Grows [] u v × (v.standing ≡ Active tx birth nth touched)
BackTold tx birth nth touched upto ws (Ok (Some to)) u v =
    (to ≡ upto) × (stands_above upto ws ≡ true) × (here : History) × IsGoingBack tx (suc nth) upto ws here × AreOn touched here × Grows here u v
    × (v.standing ≡ Active tx birth (suc nth) touched)
BackTold tx birth nth touched upto ws (Err (Aborted cause)) u v =
    (here drops : History) × (n : ℕ) × IsBackDeath tx (suc nth) upto ws cause n here × AreOn touched here × AreDropsOf tx touched (Some n) drops × Grows (here ++ drops) u v
    × (v.standing ≡ Idle (Some birth))
BackTold tx birth nth touched upto ws (Err (Stopped (Down n))) u v =
    (here : History) × IsBackBegun tx (suc nth) upto ws n here × AreOn touched here × Grows here u v × StaysActive tx birth touched v
BackTold tx birth nth touched upto ws (Err (Stopped (Worn at))) u v =
    (here : History) × (n : ℕ) × IsBackBegun tx (suc nth) upto ws n here × AreOn touched here × Grows here u v × StaysActive tx birth touched v
BackTold tx birth nth touched upto ws (Err (Stopped (Unsettled n))) u v = ⊥
BackTold tx birth nth touched upto ws (Err (Stopped Memory)) u v = ⊥
BackTold tx birth nth touched upto ws (Err Acknowledged) u v = ⊥
BackTold tx birth nth touched upto ws (Err Empty) u v = ⊥
BackTold tx birth nth touched upto ws (Err Asked) u v = ⊥

-- ---- ends

-- its request stands at its home, and nothing else was made
abbrev pub RequestStands : TxId → Seen → Seen → Type 0
RequestStands tx u v = (home : ℕ) × (asked : ℕ × Entry) × IsRequest tx home AskedOut asked × Grows (asked ∷ []) u v

-- the place of an entry
abbrev pub place_of : ℕ × Entry → Point
place_of e = record { stamp = (e.1).stamp; shard = e.0 }

-- its request stands without an answer; or it was not made, and the transaction is active still
abbrev pub StaysAsked : TxId → Seen → Seen → Type 0
StaysAsked tx u v = RequestStands tx u v × (v.standing ≡ seen.Asked)

abbrev pub StaysUnasked : TxId → Birth → (ℕ → Bool) → Seen → Seen → Type 0
StaysUnasked tx birth touched u v = Grows [] u v × StaysActive tx birth touched v

-- it died of its request; it was told of its abort by a look
abbrev pub DiesAtRequest : TxId → (ℕ → Bool) → AbortCause → Seen → Seen → Type 0
DiesAtRequest tx touched cause u v =
    (home : ℕ) × (asked : ℕ × Entry) × (drops : History) × IsRequest tx home (Dead cause) asked × AreDropsOf tx touched (Some home) drops × Grows (asked ∷ drops) u v

abbrev pub AbortsAtLook : TxId → (ℕ → Bool) → AbortCause → Seen → Seen → Type 0
AbortsAtLook tx touched cause u v =
    (home : ℕ) × (asked told : ℕ × Entry) × (drops : History) × IsRequest tx home AskedOut asked × IsLook tx home (AbortedOut cause) told
    × AreDropsOf tx touched (Some home) drops × Grows (asked ∷ told ∷ drops) u v

-- of the active transaction's commit: there is nothing to commit only where it had no act
abbrev pub CommitTold : TxId → Birth → ℕ → (ℕ → Bool) → TryEnd → Seen → Seen → Type 0
CommitTold tx birth nth touched Acknowledged u v =
    (home : ℕ) × (asked told : ℕ × Entry) × IsRequest tx home AskedOut asked × IsLook tx home AcknowledgedOut told × Grows (asked ∷ told ∷ []) u v
    × (v.standing ≡ Idle None) × (v.asked ≡ place_of asked)
CommitTold tx birth nth touched Empty u v = (nth ≡ 0) × Grows [] u v × (v.standing ≡ Idle None)
CommitTold tx birth nth touched (Aborted cause) u v = (DiesAtRequest tx touched cause u v ⊎ AbortsAtLook tx touched cause u v) × (v.standing ≡ Idle (Some birth))
CommitTold tx birth nth touched (Stopped (Down n)) u v = Grows [] u v × StaysActive tx birth touched v
CommitTold tx birth nth touched (Stopped (Unsettled n)) u v = StaysAsked tx u v
CommitTold tx birth nth touched (Stopped (Worn at)) u v = StaysUnasked tx birth touched u v ⊎ StaysAsked tx u v
CommitTold tx birth nth touched (Stopped Memory) u v = StaysUnasked tx birth touched u v ⊎ StaysAsked tx u v
CommitTold tx birth nth touched Asked u v = ⊥

-- of its abort: each shard that it touched has a drop, or a drop came to nothing there; where stamps were wanting some may have none
abbrev pub AbortTold : {A : Type 0} → Misses → TxId → Birth → (ℕ → Bool) → Result A StopCause → Seen → Seen → Type 0
AbortTold missed tx birth touched (Ok a) u v =
    (drops : History) × AreDropsOf tx touched None drops × Grows drops u v × (v.standing ≡ Idle (Some birth)) × DropsEach touched drops (λ n. missed tx n u.entries)
AbortTold missed tx birth touched (Err (Worn at)) u v = (drops : History) × AreDropsOf tx touched None drops × Grows drops u v × IsWornOut v
AbortTold missed tx birth touched (Err Memory) u v = ⊥
AbortTold missed tx birth touched (Err (Down n)) u v = ⊥
AbortTold missed tx birth touched (Err (Unsettled n)) u v = ⊥

-- where a shard was down the active transaction is dropped on each shard that it touched, unless stamps were wanting; else nothing more is done
abbrev pub GivenUp : Misses → TryEnd → Seen → Seen → Type 0
GivenUp missed (Stopped (Down n)) u v =
    (tx : TxId) (birth : Birth) (nth : ℕ) (touched : ℕ → Bool) → u.standing ≡ Active tx birth nth touched
    → (drops : History) × AreDropsOf tx touched None drops × Grows drops u v × (DropsEach touched drops (λ n. missed tx n u.entries) ⊎ IsWornOut v)
GivenUp missed (Stopped (Unsettled n)) u v = v ≡ u
GivenUp missed (Stopped (Worn at)) u v = v ≡ u
GivenUp missed (Stopped Memory) u v = v ≡ u
GivenUp missed Acknowledged u v = v ≡ u
GivenUp missed Empty u v = v ≡ u
GivenUp missed Asked u v = v ≡ u
GivenUp missed (Aborted cause) u v = v ≡ u

-- the transaction is active where a shard was down
abbrev pub IsActiveWhereDown : TryEnd → Seen → Type 0
IsActiveWhereDown (Stopped (Down n)) u = (tx : TxId) × (birth : Birth) × (nth : ℕ) × (touched : ℕ → Bool) × (u.standing ≡ Active tx birth nth touched)
IsActiveWhereDown (Stopped (Unsettled n)) u = ⊤
IsActiveWhereDown (Stopped (Worn at)) u = ⊤
IsActiveWhereDown (Stopped Memory) u = ⊤
IsActiveWhereDown Acknowledged u = ⊤
IsActiveWhereDown Empty u = ⊤
IsActiveWhereDown Asked u = ⊤
IsActiveWhereDown (Aborted cause) u = ⊤

-- at the line `abort`: asked for, or worn
abbrev pub LineAborts : Misses → TxId → Birth → (ℕ → Bool) → TryEnd → Seen → Seen → Type 0
LineAborts missed tx birth touched Asked u v =
    (drops : History) × AreDropsOf tx touched None drops × Grows drops u v × (v.standing ≡ Idle (Some birth)) × DropsEach touched drops (λ n. missed tx n u.entries)
LineAborts missed tx birth touched (Stopped (Worn at)) u v = (drops : History) × AreDropsOf tx touched None drops × Grows drops u v × IsWornOut v
LineAborts missed tx birth touched (Stopped (Down n)) u v = ⊥
LineAborts missed tx birth touched (Stopped (Unsettled n)) u v = ⊥
LineAborts missed tx birth touched (Stopped Memory) u v = ⊥
LineAborts missed tx birth touched Acknowledged u v = ⊥
LineAborts missed tx birth touched Empty u v = ⊥
LineAborts missed tx birth touched (Aborted cause) u v = ⊥
