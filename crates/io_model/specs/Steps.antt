-- One read of a source whose bytes are gathered.
use Rattle.std.specs.Prelude.{◌≡◌, ℕ, ◌<◌, List, [], ◌++◌, length, Bool, true, false, Option, Result, Ok, Err}
use Rattle.io_model.specs.Streams.{Consumes, Ends}

-- some bytes were added to those gathered; or none was left
abbrev pub Adds : {E : Type 0} → Option (List ℕ) → Option (List ℕ) → List ℕ → List ℕ → Result Bool E → Type 0
Adds old new gathered all (Ok true) = (more : List ℕ) × Consumes old new more × (all ≡ gathered ++ more) × (0 < length more)
Adds old new gathered all (Ok false) = Ends old new [] × (all ≡ gathered)
Adds old new gathered all (Err e) = Unit {0}
