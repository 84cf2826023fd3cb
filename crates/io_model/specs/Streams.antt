-- What a source gives and what a sink takes, where they tell it.
use Rattle.std.specs.Prelude.{◌≡◌, ℕ, ◌<◌, ◌≤◌, List, [], ◌++◌, length, take, Option, Some, None, Result, Ok, Err}
use Rattle.io_model.specs.Disk.{Rose}
use Rattle.io_model.specs.declared.whole.ReadError.{ReadError}
use Rattle.io_model.specs.declared.whole.ReadError.TheVariants.{Failed, TooLong, Memory}

-- the bytes left begin with those that were given; none are given only at the end, or for an empty piece; a failure takes none
abbrev pub Gives : {E : Type 0} → Option (List ℕ) → Option (List ℕ) → List ℕ → Result ℕ E → Type 0
Gives None new piece result = new ≡ None
Gives (Some left) new piece (Ok n) = (later : List ℕ) × (new ≡ Some later) × (left ≡ take n piece ++ later) × (n ≡ 0 → 0 < length piece → left ≡ [])
Gives (Some left) new piece (Err e) = new ≡ Some left

-- the bytes taken grow by these
abbrev pub Grows : Option (List ℕ) → Option (List ℕ) → List ℕ → Type 0
Grows None new bytes = new ≡ None
Grows (Some taken) new bytes = new ≡ Some (taken ++ bytes)

-- the bytes taken grow by the first n of these; a failure takes none
abbrev pub Takes : {E : Type 0} → Option (List ℕ) → Option (List ℕ) → List ℕ → Result ℕ E → Type 0
Takes old new bytes (Ok n) = Grows old new (take n bytes)
Takes old new bytes (Err e) = Grows old new []

-- all of these were taken, or at a failure some, the first of them first
abbrev pub TakesAll : {A E : Type 0} → Option (List ℕ) → Option (List ℕ) → List ℕ → Result A E → Type 0
TakesAll old new bytes (Ok a) = Grows old new bytes
TakesAll old new bytes (Err e) = (n : ℕ) × Grows old new (take n bytes)

-- the bytes left were these, and then what is left now
abbrev pub Consumes : Option (List ℕ) → Option (List ℕ) → List ℕ → Type 0
Consumes None new bytes = new ≡ None
Consumes (Some left) new bytes = (later : List ℕ) × (new ≡ Some later) × (left ≡ bytes ++ later)

-- the bytes left were exactly these, and none is left
abbrev pub Ends : Option (List ℕ) → Option (List ℕ) → List ℕ → Type 0
Ends None new bytes = new ≡ None
Ends (Some left) new bytes = (new ≡ Some []) × (left ≡ bytes)

-- `Failed` is answered only where the count rose, and after every other answer the count stands
abbrev pub CountsReading : {A : Type 0} → ℕ → ℕ → Result A ReadError → Type 0
CountsReading before now (Ok a) = now ≡ before
CountsReading before now (Err Failed) = Rose before now × (before ≤ now)
CountsReading before now (Err TooLong) = now ≡ before
CountsReading before now (Err Memory) = now ≡ before
