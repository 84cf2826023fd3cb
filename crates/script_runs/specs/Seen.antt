-- What whoever runs a script knows of a session.
use Rattle.std.specs.Prelude.{◌≡◌, ℕ, ◌+◌, ◌<◌, ◌≤◌, ◌^◌, ◌-◌, max, Bool, true, false, nat_le, List, [], ◌++◌, Option}
use Rattle.std.specs.List.{AllByRecursion, filter}
use Rattle.clv_base.specs.declared.names.TxId.{TxId}
use Rattle.clv_base.specs.declared.names.Birth.{Birth}
use Rattle.clv_base.specs.declared.names.Point.{Point}
use Rattle.clv_base.specs.Journals.{History}
use Rattle.script_lang.specs.Savepoints.{Savepoints, no_savepoints, keep, back_to}
use Rattle.session_books.specs.Done.{Done}
use Rattle.script_runs.specs.Acts.{written_after}
use Rattle.script_runs.specs.declared.calls.Stage.{Stage}
use Rattle.script_runs.specs.declared.calls.Stage.TheVariants as stage

-- how its last transaction stands: none is active, and the last one may be tried again with its birth, if it ended by an abort; or it is active: its
-- name, its birth, the number of its last operation, and which shards it touched; or its request stands
pub data Standing : Type 0 where
  Idle : (again : Option Birth) → Standing
  Active : (tx : TxId) (birth : Birth) (nth : ℕ) (touched : ℕ → Bool) → Standing
  Asked : Standing

abbrev pub untouched : ℕ → Bool
untouched n = false

-- whether some shard is touched
abbrev pub IsTouching : (ℕ → Bool) → Bool → Type 0
IsTouching touched true = (n : ℕ) × (touched n ≡ true)
IsTouching touched false = (n : ℕ) → touched n ≡ false

-- how far it is, without its names
abbrev pub IsStage : Standing → Stage → Type 0
IsStage (Idle again) st = st ≡ stage.Idle
IsStage (Active tx birth nth touched) st = (some : Bool) × (st ≡ stage.Active some) × IsTouching touched some
IsStage Asked st = st ≡ stage.Asked

-- what the active transaction may go back over: its savepoints, and shard and number of each operation whose write stands, the last one first
pub record Going : Type 0 where
  pub saves : Savepoints
  pub written : List (ℕ × ℕ)

abbrev pub going_at_start : Going
going_at_start = record { saves = no_savepoints; written = [] }

-- after its act number nth
abbrev pub going_on : List ℕ → ℕ → Done → Going → Going
going_on splits nth d g = record { saves = g.saves; written = written_after splits nth d g.written }

-- after a savepoint, behind so many acts; and after a going back to one, which leads to upto
abbrev pub going_saved : ℕ → Going → Going
going_saved nth g = record { saves = keep nth g.saves; written = g.written }

abbrev pub going_back_to : ℕ → ℕ → Going → Going
going_back_to number upto g = record { saves = back_to number g.saves; written = filter (λ w. nat_le w.1 upto) g.written }

-- a session: the splits, its run and its walker's number, the entries that it made, a clock that none of its births is past, the greatest stamp of the entries
-- that it has seen, whoever made them, the serial of its last transaction, how that stands, and the place of its last request
pub record Seen : Type 0 where
  pub splits : List ℕ
  pub run : ℕ
  pub walker : ℕ
  pub entries : History
  pub clock : ℕ
  pub latest : ℕ
  pub serial : ℕ
  pub standing : Standing
  pub asked : Point

-- it with a clock that is up to this one at least
abbrev pub raised : ℕ → Seen → Seen
raised clock u = record u { clock = max u.clock clock }

-- its clock is at its end
abbrev pub IsWornOut : Seen → Type 0
IsWornOut u = 2 ^ 48 - 1 ≤ u.clock

-- of which transaction, on which shard, and behind which entries of the session a drop came to nothing
abbrev pub Misses : Type 1
Misses = TxId → ℕ → History → Type 0

abbrev pub Keeps : Misses → Misses → Type 0
Keeps before after = (tx : TxId) (n : ℕ) (es : History) → before tx n es → after tx n es

-- each has a stamp past the first clock, and up to the second
abbrev pub AreStamped : ℕ → ℕ → History → Type 0
AreStamped clock clock' es = AllByRecursion (λ e. (clock < (e.1).stamp) × ((e.1).stamp ≤ clock')) es

-- the same session, with these entries more, which were made between its two clocks. It began so many tries, each with a serial one more than the last; and past
-- the base and the stamps that it has seen its clock rose by no more than one for each of them
pub record GrowsFrom (base begun : ℕ) (es : History) (u v : Seen) : Type 0 where
  pub splits_are : v.splits ≡ u.splits
  pub run_is : v.run ≡ u.run
  pub walker_is : v.walker ≡ u.walker
  pub entries_are : v.entries ≡ u.entries ++ es
  pub clock_rises : u.clock ≤ v.clock
  pub serial_is : v.serial ≡ begun + u.serial
  pub latest_rises : u.latest ≤ v.latest
  pub dated : v.clock ≤ begun + max base v.latest
  pub stamped : AreStamped u.clock v.clock es

abbrev pub GrowsIn : ℕ → History → Seen → Seen → Type 0
GrowsIn begun es u v = GrowsFrom u.clock begun es u v

-- by a call that begins none
abbrev pub Grows : History → Seen → Seen → Type 0
Grows es u v = GrowsIn 0 es u v
