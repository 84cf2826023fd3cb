-- What is found in a value.
use Rattle.std.specs.Prelude.{◌≡◌, Bool, true, Option, MatchOption}
use Rattle.serde_json.specs.Data.{Data}

-- what was found is told as this value; or nothing that passes is
abbrev pub Finds : {X : Type 0} → (X → Bool) → (X → Data) → Option X → Data → Type 0
Finds {X} passes tell found d = MatchOption found ((x : X) → passes x ≡ true → tell x ≡ d → ⊥) (λ x. (passes x ≡ true) × (tell x ≡ d))
