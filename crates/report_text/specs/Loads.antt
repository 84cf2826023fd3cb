-- The line of a workload.
use Rattle.std.specs.Prelude.{ℕ, List, codes, [], ◌∷◌, ◌+◌}
use Rattle.serde_json.specs.Data.{Data, object, member, no_members}
use Rattle.clv_base.specs.declared.values.Value.{Value}
use Rattle.clv_base.specs.declared.values.Value.TheVariants.{Num, Bytes}
use Rattle.clv_base.specs.Maps.{KeyMap}
use Rattle.report_text.specs.Lines.{num, line}

-- the sum of a map's numbers
abbrev pub number_in : Value → ℕ
number_in (Num n) = n
number_in (Bytes bytes) = 0

abbrev pub values_sum : KeyMap → ℕ
values_sum [] = 0
values_sum (p ∷ ps) = number_in p.1 + values_sum ps

-- {"accounts":..,"acknowledged":..,"sum":..}
abbrev pub load_object : ℕ → ℕ → ℕ → Data
load_object accounts acknowledged sum =
    object (member (codes "accounts") (num accounts) (member (codes "acknowledged") (num acknowledged) (member (codes "sum") (num sum) no_members)))

abbrev pub load_text : ℕ → ℕ → ℕ → List ℕ
load_text accounts acknowledged sum = line (load_object accounts acknowledged sum)
