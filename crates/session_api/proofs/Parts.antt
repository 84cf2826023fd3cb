-- An operation has a part on some shard.
use Rattle.std.proofs.Common.{◌≡◌, ◌∙◌, refl, sym, ap, ℕ, zero, suc, ◌+◌, ◌<◌, ◌≤◌, ◌^◌, true, false, cond, max, min, nat_le, List, [], ◌∷◌, ◌++◌, Option, Some, None, arith, eq-eqb}
use Rattle.std.specs.Prelude.{IsTrue}
use Rattle.std.proofs.lemmas.Bool.{both_ways, and_parts, leb-true, le-leb}
use mathlib.Core.Logic.{dite}
use native.Mathlib.Decide.{ℕ_discrete}
use Rattle.clv_base.specs.declared.names.TxId.{TxId}
use Rattle.clv_base.specs.declared.names.Birth.{Birth}
use Rattle.clv_base.specs.declared.ops.Op.{Op}
use Rattle.clv_base.specs.declared.ops.Op.TheVariants.{Scan, Add}
use Rattle.clv_base.specs.Shards.{shard_of, shard_count, span, lies_within, are_splits}
use Rattle.clv_base.proofs.Spans.{span_keys}
use Rattle.script_runs.specs.Operations.{scan_within, part_at, scan_parts, parts_of, no_part, IsBegun}
use Rattle.session_api.specs.ToldLaws.{IsAt, gets, puts, dels}
use Rattle.law_base.proofs.Lists.{is_shard}

-- the first of its parts, and the others
abbrev pub HasPart : List (ℕ × Op) → Type 0
HasPart parts = (next : ℕ × Op) × (left : List (ℕ × Op)) × (parts ≡ next ∷ left)

-- a range meets the shard of its lower end
meets_first : (splits : List ℕ) (lo hi : ℕ) → IsTrue (are_splits splits) → lo ≤ hi → hi < 2 ^ 64 → (op : Op) × (scan_within lo hi (span splits (shard_of splits lo)) ≡ Some op)
meets_first splits lo hi rise falls small = at (span splits (shard_of splits lo)) (span_keys splits (shard_of splits lo) lo rise (omega arith) ∙ eq-eqb (shard_of splits lo) (shard_of splits lo) refl)
  where
    at : (o : Option (ℕ × ℕ)) → lies_within o lo ≡ true → (op : Op) × (scan_within lo hi o ≡ Some op)
    at None h = absurd (both_ways false refl h)
    at (Some s) h =
        let k = and_parts (nat_le s.0 lo) (nat_le lo s.1) h in
        let a = leb-true s.0 lo k.0 in
        let b = leb-true lo s.1 k.1 in
        (Scan (max lo s.0) (min hi s.1), ap (λ c. cond c (Some (Scan (max lo s.0) (min hi s.1))) None) (le-leb (max lo s.0) (min hi s.1) (omega arith)))

-- if one of so many shards is met there is a first one
some_part : (splits : List ℕ) (lo hi n a k : ℕ) (op : Op) → scan_within lo hi (span splits n) ≡ Some op → a ≤ n → n < a + k → HasPart (scan_parts splits lo hi a k)
some_part splits lo hi n a zero op is low high = absurd (omega arith)
some_part splits lo hi n a (suc k) op is low high = at (scan_within lo hi (span splits a)) refl (λ l h. some_part splits lo hi n (suc a) k op is l h)
  where
    at : (o : Option Op) → scan_within lo hi (span splits a) ≡ o → (suc a ≤ n → n < suc a + k → HasPart (scan_parts splits lo hi (suc a) k)) → HasPart (part_at a o ++ scan_parts splits lo hi (suc a) k)
    at (Some x) there later = ((a, x), scan_parts splits lo hi (suc a) k, refl)
    at None there later = dite (ℕ_discrete a n)
        (λ here. (let wrong : None ≡ Some op = sym there ∙ ap (λ (m : ℕ). scan_within lo hi (span splits m)) here ∙ is in absurd cc))
        (λ other. later (omega arith) (omega arith))

pub scan_has_part : (splits : List ℕ) (lo hi : ℕ) → IsTrue (are_splits splits) → lo ≤ hi → hi < 2 ^ 64 → HasPart (parts_of splits (Scan lo hi))
scan_has_part splits lo hi rise falls small =
    let m = meets_first splits lo hi rise falls small in
    some_part splits lo hi (shard_of splits lo) 0 (shard_count splits) m.0 m.1 (omega arith) (let l = is_shard splits lo in omega arith)

-- an operation at this key, whatever it answers
pub data HasKey (key : ℕ) : Op → Type 0 where
  of_value : {op : Op} → IsAt key op → HasKey key op
  adds : (by : ℕ) → HasKey key (Add key by)

pub at_part : (splits : List ℕ) (key : ℕ) (op : Op) → HasKey key op → parts_of splits op ≡ (shard_of splits key, op) ∷ []
at_part splits key _ (of_value gets) = refl
at_part splits key _ (of_value (puts value)) = refl
at_part splits key _ (of_value dels) = refl
at_part splits key _ (adds by) = refl

pub point_has_part : (splits : List ℕ) (key : ℕ) (op : Op) → HasKey key op → HasPart (parts_of splits op)
point_has_part splits key op is = ((shard_of splits key, op), [], at_part splits key op is)

-- nothing of it was done so far
pub begun_with_none : (splits : List ℕ) (tx : TxId) (birth : Birth) (nth : ℕ) (op : Op) → HasPart (parts_of splits op) → IsBegun splits tx birth nth op []
begun_with_none splits tx birth nth op part = record { done = []; next = part.0; left = part.1; parts = part.2; answers = []; answered = no_part }
