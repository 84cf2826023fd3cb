-- What the walkers write.
use Rattle.std.specs.Prelude.{ℕ, zero, suc, List, [], ◌∷◌, ◌++◌}
use Rattle.session_examples.specs.declared.numbers.Entry.{Entry}

abbrev pub entry : ℕ → ℕ → Entry
entry w k = record { walker = w; number = k }

-- the numbers from 0 up to n, written by w
abbrev pub written : ℕ → ℕ → List Entry
written w zero = []
written w (suc n) = written w n ++ entry w n ∷ []
