-- A put that is taken back.
use Rattle.std.specs.Prelude.{◌≡◌, ℕ, List, [], ◌∷◌, Option}
use Rattle.clv_base.specs.declared.values.Value.{Value as ValueType}
use Rattle.clv_base.specs.declared.ops.Op.TheVariants.{Put}
use Rattle.clv_base.specs.declared.ops.Answer.TheVariants.{Value}
use Rattle.clv_base.specs.Maps.{KeyMap, acts_after}
use Rattle.session_books.specs.Done.{Done, Did, WentBack}
use Rattle.script_runs.specs.Acts.{acts_of}
use Rattle.script_runs.specs.TriesLaws.{all_parts}

-- what its transaction does: it goes back to where it had done nothing
abbrev pub put_taken_back : ℕ → ValueType → Option ValueType → List Done
put_taken_back key value before = Did (Put key value) (Value before) ∷ WentBack 0 ∷ []

-- wherever a serial history has it, the map behind it is the one before
abbrev pub TakenBackIsAsBefore : Type 0
TakenBackIsAsBefore =
    (splits : List ℕ) (m : KeyMap) (key : ℕ) (value : ValueType) (before : Option ValueType) → acts_after (all_parts splits 1 (acts_of (put_taken_back key value before))) m [] ≡ m
