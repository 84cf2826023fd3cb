-- A transaction's acts over many shards: what each shard has of them, and what they are together.
use Rattle.std.specs.Prelude.{◌≡◌, ⊤, ℕ, ◌<◌, Bool, true, false, cond, not, ◌&&◌, ◌||◌, ◌==◌, nat_lt, nat_le, List, [], ◌∷◌, map, Option, Some, None}
use Rattle.std.specs.List.{AllByRecursion, filter}
use Rattle.clv_base.specs.declared.ops.Op.{Op}
use Rattle.clv_base.specs.declared.ops.Answer.{Answer}
use Rattle.clv_base.specs.Maps.{KeyMap, map_get, Operates, GoesBack, Acts, replay_map, replay_answers}
use Rattle.clv_base.specs.Folding.{IsRising}
use Rattle.clv_base.specs.Shards.{shard_count, are_splits, in_span}
use Rattle.clv_base.specs.Backs.{has_written, stands_for_back, are_numbered}
use Rattle.clv_base.specs.Sessions.{lies_in, with_written, is_back_whole, goes_on_back}
use Rattle.clv_base.specs.History.{DoneAct, put_act, answers_given}

-- an operation on a shard with its answer, or a going back there: a going back on several shards, under one number, is several of these
pub data ShardAct : Type 0 where
  OnShard : (shard number : ℕ) (op : Op) (answer : Answer) → ShardAct
  BackOn : (shard number upto : ℕ) → ShardAct

abbrev pub done_act : ShardAct → DoneAct
done_act (OnShard shard number op answer) = (number, Operates op, Some answer)
done_act (BackOn shard number upto) = (number, GoesBack upto, None)

abbrev pub is_on : ℕ → ShardAct → Bool
is_on n (OnShard shard number op answer) = shard == n
is_on n (BackOn shard number upto) = shard == n

-- what a shard has of a transaction
abbrev pub part_on : ℕ → List ShardAct → List DoneAct
part_on n [] = []
part_on n (x ∷ xs) = cond (is_on n x) (done_act x ∷ part_on n xs) (part_on n xs)

-- and what the transaction did, where the goings back of one number are one
abbrev pub whole : List ShardAct → List DoneAct
whole [] = []
whole (x ∷ xs) = put_act (done_act x) (whole xs)

abbrev pub numbered : List DoneAct → Acts
numbered ps = map (λ p. (p.0, p.1)) ps

-- transactions, one after another, give their answers from one map, and leave another
abbrev pub ReplaysTo : KeyMap → List (List DoneAct) → KeyMap → Type 0
ReplaysTo m ts last = (replay_answers m (map numbered ts) ≡ map answers_given ts) × (replay_map m (map numbered ts) ≡ last)

-- each operation's keys are its shard's
abbrev pub LiesIn : List ℕ → ShardAct → Type 0
LiesIn splits (OnShard shard number op answer) = (shard < shard_count splits) × (lies_in splits shard op ≡ true)
LiesIn splits (BackOn shard number upto) = ⊤

-- ---- goings back are whole

-- how far a transaction is: the number of its last act; where that is a going back, the shard of its last entry and to where; the shards and
-- numbers of the operations whose writes it took nowhere away; and its goings back so far, with their numbers
pub record Progress : Type 0 where
  pub nth : ℕ
  pub back : Option (ℕ × ℕ)
  pub written : List (ℕ × ℕ)
  pub backs : List (ℕ × ℕ)

abbrev pub not_begun : Progress
not_begun = record { nth = 0; back = None; written = []; backs = [] }

-- a going back under the number of the last one goes to the same place, on a higher shard
abbrev pub continues : Progress → ℕ → ℕ → ℕ → Bool
continues p shard number upto = (number == p.nth) && goes_on_back p.back shard upto

-- any other act comes where no write of a later operation is left by the going back before it; it has a number that goes on, and goes back to
-- a number that still stands
abbrev pub may_follow : Progress → ShardAct → Bool
may_follow p (OnShard shard number op answer) = is_back_whole p.back p.written && nat_le p.nth number
may_follow p (BackOn shard number upto) =
    continues p shard number upto || (is_back_whole p.back p.written && nat_lt p.nth number && stands_for_back number upto p.backs)

abbrev pub kept_on : ℕ → ℕ → List (ℕ × ℕ) → List (ℕ × ℕ)
kept_on shard upto ws = filter (λ w. not ((w.0 == shard) && nat_lt upto w.1)) ws

abbrev pub followed : Progress → ShardAct → Progress
followed p (OnShard shard number op answer) =
    record { nth = number; back = None; written = with_written shard number (has_written op answer) p.written; backs = p.backs }
followed p (BackOn shard number upto) =
    record {
      nth = number;
      back = Some (shard, upto);
      written = kept_on shard upto p.written;
      backs = cond (continues p shard number upto) p.backs ((number, upto) ∷ p.backs);
    }

abbrev pub goes_whole_from : Progress → List ShardAct → Bool
goes_whole_from p [] = is_back_whole p.back p.written
goes_whole_from p (x ∷ xs) = may_follow p x && goes_whole_from (followed p x) xs

-- the acts are numbered in order, and where a transaction goes back, no write of a later operation is left on any shard
abbrev pub goes_whole : List ShardAct → Bool
goes_whole t = goes_whole_from not_begun t

-- ---- what shards have of a map

-- in each shard's span the map has the values of the shard's map, and none elsewhere
pub record HasShares (splits : List ℕ) (m : KeyMap) (f : ℕ → KeyMap) : Type 0 where
  pub whole_rises : IsRising m
  pub shares_rise : (n : ℕ) → n < shard_count splits → IsRising (f n)
  pub values : (n k : ℕ) → n < shard_count splits → in_span splits n k ≡ true → map_get k m ≡ map_get k (f n)
  pub nowhere : (k : ℕ) → ((n : ℕ) → n < shard_count splits → in_span splits n k ≡ false) → map_get k m ≡ None

-- ---- the laws

-- where the parts that each shard has of some transactions replay there, one transaction after another, the transactions replay
abbrev pub ReplayByShards : Type 0
ReplayByShards =
    (splits : List ℕ) (m last : KeyMap) (f g : ℕ → KeyMap) (ts : List (List ShardAct))
    → are_splits splits ≡ true → HasShares splits m f → HasShares splits last g
    → AllByRecursion (λ t. AllByRecursion (LiesIn splits) t) ts → AllByRecursion (λ t. goes_whole t ≡ true) ts
    → ((n : ℕ) → n < shard_count splits → ReplaysTo (f n) (map (part_on n) ts) (g n))
    → ReplaysTo m (map whole ts) last

-- what each shard has of a transaction, and what it did, is numbered in order, and goes back to numbers that still stand
abbrev pub PartsAreNumbered : Type 0
PartsAreNumbered =
    (t : List ShardAct) → goes_whole t ≡ true
    → ((n : ℕ) → are_numbered 0 [] (numbered (part_on n t)) ≡ true) × (are_numbered 0 [] (numbered (whole t)) ≡ true)
