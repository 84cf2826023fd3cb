-- What an operation inserts and writes, by the records.
use Rattle.std.specs.Prelude.{◌≡◌, ℕ, List, [], ◌∷◌, Option, Some, None}
use Rattle.clv_base.specs.declared.values.Value.{Value as ValueType}
use Rattle.clv_base.specs.declared.ops.Op.{Op}
use Rattle.clv_base.specs.declared.modes.Part.{Part}
use Rattle.clv_base.specs.declared.modes.Anchor.TheVariants.{At}
use Rattle.clv_base.specs.declared.modes.Need.{Need}
use Rattle.clv_base.specs.declared.changes.Change.{Change}
use Rattle.clv_base.specs.Logs.{changed}
use Rattle.clv_base.specs.Modes.{on_key, on_gap}
use Rattle.clv_base.specs.declared.modes.Found.{Found}
use Rattle.clv_base.specs.declared.modes.Found.TheVariants.{Live, Ghost, Absent}
use Rattle.clv_base.specs.Needs.{Records, found_at, lower_anchor, need, key_of, inserts, writes_of, value_at, needs_of, answer_of}
use Rattle.shard_ops.specs.declared.plan.Insert.{Insert}
use Rattle.shard_ops.specs.declared.plan.Write.{Write}
use Rattle.shard_ops.specs.declared.plan.Plan.{Plan}
use Rattle.shard_ops.specs.declared.plan.Needs.{Needs}
use Rattle.shard_ops.specs.declared.plan.Needs.TheVariants.{One, Several}

-- a lock on the record at the key, where there is one, else on the gap of the anchor below
abbrev pub lock_at : ℕ → Records → Part → Part → Found → Need
lock_at k rs on_record beside (Live v) = need (At k) (on_key on_record)
lock_at k rs on_record beside Ghost = need (At k) (on_key on_record)
lock_at k rs on_record beside Absent = need (lower_anchor k rs) (on_gap beside)

-- a row's pair, where it is live
abbrev pub pair_at : ℕ → Found → Option (ℕ × ValueType)
pair_at k (Live v) = Some (k, v)
pair_at k Ghost = None
pair_at k Absent = None

abbrev pub pair_of : ℕ × Found → Option (ℕ × ValueType)
pair_of r = pair_at r.0 r.1

-- the new record, with the anchor whose gap it splits
abbrev pub insert_by : Records → Option ℕ → Option Insert
insert_by rs None = None
insert_by rs (Some k) = Some (record { key = k; lower = lower_anchor k rs })

abbrev pub insert_of : Op → Records → Option Insert
insert_of op rs = insert_by rs (inserts op (found_at (key_of op) rs))

-- the key that is written: what is done to its value, and what it is then, by what it is before
abbrev pub write_by : Option ValueType → Option (ℕ × Change) → Option Write
write_by before None = None
write_by before (Some w) = Some (record { key = w.0; change = w.1; after = changed w.1 before })

abbrev pub write_of : Op → Records → Option Write
write_of op rs = write_by (value_at (key_of op) rs) (writes_of op (value_at (key_of op) rs))

-- the locks, in order
abbrev pub needed : Needs → List Need
needed (One n) = n ∷ []
needed (Several ns) = ns.items

-- what an operation needs, answers, inserts and writes
pub record IsPlanOf (op : Op) (rs : Records) (p : Plan) : Type 0 where
  pub needs : needed p.needs ≡ needs_of op rs
  pub answer : p.answer ≡ answer_of op rs
  pub insert : p.insert ≡ insert_of op rs
  pub write : p.write ≡ write_of op rs
