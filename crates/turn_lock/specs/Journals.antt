-- What clauses say of a value's journal, which is a list of entries that only grows. Each entry has the number of the
-- pass that made it.
use Rattle.std.specs.Prelude.{◌≡◌, ◌==◌, ℕ, List, [], ◌∷◌, ◌++◌, max}
use Rattle.std.specs.List.{All, filter}

module _ {E : Type 0} where
  -- the journal begins with what was seen
  abbrev pub StartsWith : List E → List E → Type 0
  StartsWith journal seen = (rest : List E) × (journal ≡ seen ++ rest)

  -- the entries of the number w, in order
  abbrev pub entries_by : (E → ℕ) → ℕ → List E → List E
  entries_by maker w journal = filter (λ e. maker e == w) journal

  -- the most that an entry says to be durable, 0 where none does
  abbrev pub durable_of : (E → ℕ) → List E → ℕ
  durable_of durable [] = 0
  durable_of durable (e ∷ es) = max (durable e) (durable_of durable es)

  -- now is before and what others than the number w added
  abbrev pub GrownByOthers : (E → ℕ) → ℕ → List E → List E → Type 0
  GrownByOthers maker w before now = (added : List E) × (now ≡ before ++ added) × (entries_by maker w added ≡ [])

  -- now is before and what the number w added
  abbrev pub GrownBy : (E → ℕ) → ℕ → List E → List E → Type 0
  GrownBy maker w before now = (added : List E) × (now ≡ before ++ added) × All (λ e. maker e ≡ w) added
