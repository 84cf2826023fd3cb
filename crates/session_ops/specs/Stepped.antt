-- A scan, part after part.
use Rattle.std.specs.Prelude.{◌≡◌, ◌⊎◌, ℕ, suc, ◌<◌, ◌==◌, List, [], ◌∷◌, ◌++◌, Option, Some, None, Result, Ok, Err, length}
use Rattle.std.specs.Map.{lookup}
use Rattle.clv_base.specs.declared.values.Value.{Value as ValueType}
use Rattle.clv_base.specs.declared.names.Birth.{Birth}
use Rattle.clv_base.specs.declared.ops.Op.TheVariants.{Scan}
use Rattle.clv_base.specs.declared.ops.Answer.{Answer}
use Rattle.clv_base.specs.declared.events.Event.TheVariants.{Op as OpEvent}
use Rattle.clv_base.specs.Sessions.{SessionState}
use Rattle.cluster_turns.specs.declared.shards.Shards.{Shards}
use Rattle.cluster_turns.specs.declared.shards.Walker.{Walker}
use Rattle.cluster_turns.specs.Walkers.{IsSameWalker}
use Rattle.session_ops.specs.declared.operating.OpError.{OpError}
use Rattle.session_ops.specs.declared.operating.OpError.TheVariants.{Memory}
use Rattle.session_ops.specs.Standing.{IsActive}
use Rattle.session_ops.specs.Operated.{PlacedBy, answered_in}
use Rattle.session_ops.specs.Parts.{has_died, StandsUnless, Performing}
use Rattle.session_ops.specs.Scanned.{part_on, pairs_in, TakesPairs}

-- all pairs of these answers, one's behind another's
abbrev pub all_pairs : List Answer → List (ℕ × ValueType)
all_pairs [] = []
all_pairs (answer ∷ answers) = pairs_in answer ++ all_pairs answers

-- a part wasn't answered, or there was no memory for its pairs
abbrev pub Fails : Result Answer OpError → OpError → Type 0
Fails answer e = (answer ≡ Err e) ⊎ (((a : Answer) × (answer ≡ Ok a)) × (e ≡ Memory))

module _ {M S G : Type 0} where
  -- one part scan of the active transaction m, on shard n
  pub record PartMade (sh : Shards M S G) (birth : Birth) (nth n : ℕ) (part : ℕ × ℕ) (u : Walker M S G) (m : SessionState) (answer : Result Answer OpError) (v : Walker M S G) (q : SessionState) : Type 0 where
    pub active : IsActive sh u m
    pub same : IsSameWalker u v
    pub turns : Performing (length sh.locks.items) u.number u.clock u.passes.items n m (OpEvent m.tx birth nth (lookup (◌==◌ n) m.touched) (Scan part.0 part.1)) answer v.clock v.passes.items
    pub place : PlacedBy n nth (Scan part.0 part.1) m (answered_in answer) q
    pub stands : StandsUnless (has_died answer) sh v q

  -- the parts on the shards below n: each shard whose keys the range meets had its part scan, answered so; no other had a turn
  pub data PartsMade (sh : Shards M S G) (birth : Birth) (nth lo hi : ℕ) (w : Walker M S G) (p : SessionState) : ℕ → List Answer → Walker M S G → SessionState → Type 0 where
    no_shard : PartsMade sh birth nth lo hi w p 0 [] w p
    passed_by : (n : ℕ) (answers : List Answer) (u : Walker M S G) (m : SessionState) → PartsMade sh birth nth lo hi w p n answers u m → part_on sh.splits n lo hi ≡ None → PartsMade sh birth nth lo hi w p (suc n) answers u m
    one_part :
        (n : ℕ) (answers : List Answer) (u v : Walker M S G) (m q : SessionState) (part : ℕ × ℕ) (answer : Answer) → PartsMade sh birth nth lo hi w p n answers u m → part_on sh.splits n lo hi ≡ Some part
        → PartMade sh birth nth n part u m (Ok answer) v q → PartsMade sh birth nth lo hi w p (suc n) (answers ++ answer ∷ []) v q

  -- what a shard's part of it makes: nothing where it has none
  abbrev pub PartTold : Option (ℕ × ℕ) → Shards M S G → Birth → ℕ → ℕ → Walker M S G → SessionState → List (ℕ × ValueType) → Result Unit OpError → Walker M S G → SessionState → List (ℕ × ValueType) → Type 0
  PartTold None sh birth nth n u m ps r v q qs = (r ≡ Ok tt) × (v ≡ u) × (q ≡ m) × (qs ≡ ps)
  PartTold (Some part) sh birth nth n u m ps r v q qs = (answer : Result Answer OpError) × PartMade sh birth nth n part u m answer v q × TakesPairs ps answer r qs

  pub record PartFailed (sh : Shards M S G) (birth : Birth) (nth lo hi : ℕ) (w : Walker M S G) (p : SessionState) (e : OpError) (v : Walker M S G) (q : SessionState) : Type 0 where
    pub shard : ℕ
    pub below : shard < length sh.locks.items
    pub answers : List Answer
    pub walker : Walker M S G
    pub middle : SessionState
    pub before : PartsMade sh birth nth lo hi w p shard answers walker middle
    pub part : ℕ × ℕ
    pub meets : part_on sh.splits shard lo hi ≡ Some part
    pub answer : Result Answer OpError
    pub made : PartMade sh birth nth shard part walker middle answer v q
    pub fails : Fails answer e

  -- the pairs are those of all parts; or one part failed
  abbrev pub PartsTold : Shards M S G → Birth → ℕ → ℕ → ℕ → Walker M S G → SessionState → Result (List (ℕ × ValueType)) OpError → Walker M S G → SessionState → Type 0
  PartsTold sh birth nth lo hi w p (Ok pairs) v q = (answers : List Answer) × PartsMade sh birth nth lo hi w p (length sh.locks.items) answers v q × (pairs ≡ all_pairs answers)
  PartsTold sh birth nth lo hi w p (Err e) v q = PartFailed sh birth nth lo hi w p e v q
