-- The numbers of the operations whose writes stand, as notes: each names the note of its transaction's write below it.
use Rattle.std.specs.Prelude.{⊤, ℕ, ◌<◌, List, [], ◌∷◌, ◌++◌, length, get_or, Option, Some, None, IfSome}
use Rattle.std.specs.List.{AllByRecursion}
use Rattle.clv_base.specs.declared.names.TxId.{TxId}
use Rattle.clv_base.specs.Orders.{Table, tx_get}
use Rattle.shard_machine.specs.declared.numbers.Note.{Note}

-- the numbers at a note that is named, by those of each note so far: none where none is named
abbrev pub numbers_at : List (List ℕ) → Option ℕ → List ℕ
numbers_at so_far None = []
numbers_at so_far (Some i) = get_or so_far i []

-- the numbers of each note, the last one first: its own, and those of the note that it names
abbrev pub stacks_from : List (List ℕ) → List Note → List (List ℕ)
stacks_from so_far [] = so_far
stacks_from so_far (n ∷ ns) = stacks_from (so_far ++ (n.number ∷ numbers_at so_far n.below) ∷ []) ns

abbrev pub stacks : List Note → List (List ℕ)
stacks ns = stacks_from [] ns

-- the notes, the newest one of each transaction whose write stands, and for how many more there is room
pub record Noted : Type 0 where
  pub notes : List Note
  pub newest : Table ℕ
  pub room : ℕ

-- the numbers of a transaction, the last one first
abbrev pub numbers_of : TxId → Noted → List ℕ
numbers_of tx n = numbers_at (stacks n.notes) (tx_get tx n.newest)

-- a number is above these
abbrev pub IsAbove : ℕ → List ℕ → Type 0
IsAbove n ns = AllByRecursion (λ m. m < n) ns

-- each note names an earlier one, if any, above whose numbers its own is
abbrev pub IsOver : List (List ℕ) → Note → Type 0
IsOver so_far n = IfSome n.below (λ i. i < length so_far) × IsAbove n.number (numbers_at so_far n.below)

abbrev pub AreOver : List (List ℕ) → List Note → Type 0
AreOver so_far [] = ⊤
AreOver so_far (n ∷ ns) = IsOver so_far n × AreOver (so_far ++ (n.number ∷ numbers_at so_far n.below) ∷ []) ns

-- so it is of all notes, and the newest ones are among them
pub record AreNotes (ns : List Note) (newest : Table ℕ) : Type 0 where
  pub over : AreOver [] ns
  pub there : (t : TxId) → IfSome (tx_get t newest) (λ i. i < length ns)
