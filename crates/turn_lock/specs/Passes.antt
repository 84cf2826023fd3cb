-- What clauses say of a lock, of a pass, which is the right to turns, and of a turn.
use Rattle.std.specs.Prelude.{◌≡◌, ℕ, List, [], ◌∷◌, Option, Some, None}
use Rattle.turn_lock.specs.declared.view.Record.{Record}
use Rattle.turn_lock.specs.declared.pass.TurnLock.{TurnLock}
use Rattle.turn_lock.specs.declared.pass.Pass.{Pass}
use Rattle.turn_lock.specs.declared.pass.Turn.{Turn}

-- of the records that a view has, the first; a pass and a turn have one each
module _ {E O : Type 0} where
  abbrev pub number_in : List (Record E O) → ℕ
  number_in [] = 0
  number_in (r ∷ rs) = r.number

  abbrev pub seen_in : List (Record E O) → List E
  seen_in [] = []
  seen_in (r ∷ rs) = r.seen

  abbrev pub own_in : List (Record E O) → List E
  own_in [] = []
  own_in (r ∷ rs) = r.own

  abbrev pub origin_in : List (Record E O) → Option O
  origin_in [] = None
  origin_in (r ∷ rs) = Some r.origin

-- the lock
module _ {T E O : Type 0} where
  -- how many passes there are
  abbrev pub passes_of : TurnLock T E O → ℕ
  passes_of lock = lock.table.shared.key.passes

-- a pass
module _ {T E O : Type 0} where
  -- it is one of this lock
  abbrev pub IsPassOf : TurnLock T E O → Pass T E O → Type 0
  IsPassOf lock p = p.seat.table_id ≡ lock.table.shared.table_id

  -- its number, which the entries of its turns have
  abbrev pub number : Pass T E O → ℕ
  number p = number_in p.seat.me.0.records

  -- the origin of the lock's value
  abbrev pub pass_origin : Pass T E O → Option O
  pass_origin p = origin_in p.seat.me.0.records

  -- the journal as its last turn left it
  abbrev pub seen : Pass T E O → List E
  seen p = seen_in p.seat.me.0.records

  -- the entries that its own turns added
  abbrev pub own : Pass T E O → List E
  own p = own_in p.seat.me.0.records

  -- what it knows to be durable: the most that it was answered or has published
  abbrev pub known : Pass T E O → ℕ
  known p = p.seat.me.0.known

  -- the same pass, which may know of more
  abbrev pub IsSamePass : Pass T E O → Pass T E O → Type 0
  IsSamePass p q = (pass_origin q ≡ pass_origin p) × (number q ≡ number p) × (seen q ≡ seen p) × (own q ≡ own p)

  -- the pass of the number k, which has had no turn
  abbrev pub IsNewPass : TurnLock T E O → O → ℕ → Pass T E O → Type 0
  IsNewPass lock o k p = IsPassOf lock p × (pass_origin p ≡ Some o) × (number p ≡ k) × (seen p ≡ []) × (own p ≡ []) × (known p ≡ 0)

-- a turn: whose it is, what was handed out, and what its pass had before
module _ {T E O : Type 0} where
  -- it is one of this lock
  abbrev pub IsTurnOf : TurnLock T E O → Turn T E O → Type 0
  IsTurnOf lock t = t.seat.table_id ≡ lock.table.shared.table_id

  -- the number of its pass
  abbrev pub turn_number : Turn T E O → ℕ
  turn_number t = number_in t.seat.me.0.records

  -- the origin of the lock's value
  abbrev pub turn_origin : Turn T E O → Option O
  turn_origin t = origin_in t.seat.me.0.records

  -- the journal as it was handed out
  abbrev pub turn_seen : Turn T E O → List E
  turn_seen t = seen_in t.seat.me.0.records

  -- the entries that earlier turns of its pass added
  abbrev pub turn_own : Turn T E O → List E
  turn_own t = own_in t.seat.me.0.records

  -- what its pass knows to be durable
  abbrev pub turn_known : Turn T E O → ℕ
  turn_known t = t.seat.me.0.known
