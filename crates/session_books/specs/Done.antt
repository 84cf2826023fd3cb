-- What a transaction did.
use Rattle.std.specs.Prelude.{ℕ}
use Rattle.clv_base.specs.declared.ops.Op.{Op}
use Rattle.clv_base.specs.declared.ops.Answer.{Answer}
use Rattle.clv_base.specs.declared.ops.Answer.TheVariants.{Value, Pairs, Added}
use Rattle.session_books.specs.declared.done.Held.{Held}
use Rattle.session_books.specs.declared.done.Held.TheVariants as held

-- an operation, with its answer; or a going back to where it was after so many of its acts
pub data Done : Type 0 where
  Did : (op : Op) (answer : Answer) → Done
  WentBack : (upto : ℕ) → Done

-- as it is kept
abbrev pub done_of : Held → Done
done_of (held.Valued op v) = Did op (Value v)
done_of (held.Listed op ps) = Did op (Pairs ps)
done_of (held.Added op found) = Did op (Added found)
done_of (held.Back upto) = WentBack upto
