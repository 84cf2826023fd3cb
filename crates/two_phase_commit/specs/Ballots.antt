-- The votes that came, and for how many shards there are places.
use Rattle.std.specs.Prelude.{ℕ, List}
use Rattle.clv_base.specs.declared.causes.Vote.{Vote}

pub record Ballot : Type 0 where
  pub votes : List (ℕ × Vote)
  pub places : ℕ
