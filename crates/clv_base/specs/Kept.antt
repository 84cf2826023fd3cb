-- What is kept of a value that may be none.
use Rattle.std.specs.Prelude.{Option, Some, None}
use Rattle.clv_base.specs.declared.values.Value.{Value}
use Rattle.clv_base.specs.declared.values.Value.TheVariants as values
use Rattle.clv_base.specs.declared.ops.Op.{Op}
use Rattle.clv_base.specs.declared.ops.Op.TheVariants.{Get, Put, Del, Scan, Add}
use Rattle.clv_base.specs.declared.kept.HeldOp.{HeldOp}
use Rattle.clv_base.specs.declared.kept.HeldOp.TheVariants as held
use Rattle.clv_base.specs.declared.kept.Held.{Held}
use Rattle.clv_base.specs.declared.kept.Held.TheVariants.{Nothing, Num, Bytes}

abbrev pub value_of : Held → Option Value
value_of Nothing = None
value_of (Num n) = Some (values.Num n)
value_of (Bytes bytes) = Some (values.Bytes bytes)

-- and of an operation
abbrev pub op_of : HeldOp → Op
op_of (held.Get k) = Get k
op_of (held.PutNum k n) = Put k (values.Num n)
op_of (held.PutBytes k bytes) = Put k (values.Bytes bytes)
op_of (held.Del k) = Del k
op_of (held.Scan lo hi) = Scan lo hi
op_of (held.Add k by) = Add k by
