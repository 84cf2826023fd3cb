-- Savepoints: which operations' writes stand, by a journal; and goings back in a serial history.
use Rattle.std.specs.Prelude.{◌≡◌, ⊤, ℕ, zero, suc, ◌<◌, Bool, true, cond, not, ◌&&◌, ◌||◌, ◌==◌, nat_lt, nat_le, List, [], ◌∷◌, ◌++◌, length, Option, Some, None, is_some}
use Rattle.std.specs.List.{filter, list_any, list_all}
use Rattle.clv_base.specs.declared.names.TxId.{TxId}
use Rattle.clv_base.specs.declared.ops.Op.{Op}
use Rattle.clv_base.specs.declared.ops.Answer.{Answer}
use Rattle.clv_base.specs.declared.events.Event.{Event}
use Rattle.clv_base.specs.declared.events.Event.TheVariants.{Op as OpEvent, RollTo}
use Rattle.clv_base.specs.declared.events.Outcome.{Outcome}
use Rattle.clv_base.specs.declared.events.Outcome.TheVariants.{Answered, Rolled}
use Rattle.clv_base.specs.declared.events.Entry.{Entry}
use Rattle.clv_base.specs.Orders.{tx_same}
use Rattle.clv_base.specs.Maps.{KeyMap, Act, Operates, GoesBack, Acts, op_answer, op_after, replay_map, replay_answers}
use Rattle.clv_base.specs.Folding.{key_written, adds, meets_written, IsRising}

-- ---- which operations' writes stand on a shard

-- whether an operation with this answer wrote
abbrev pub has_written : Op → Answer → Bool
has_written op a = is_some (key_written op a)

-- the numbers of a transaction's operations whose writes stand, the last one first, after one more entry
abbrev pub numbers_after : TxId → Event → Outcome → List ℕ → List ℕ
numbers_after t (OpEvent tx birth nth seen op) (Answered a epoch) ns = cond (tx_same t tx && has_written op a) (nth ∷ ns) ns
numbers_after t (OpEvent tx birth nth seen op) _ ns = ns
numbers_after t (RollTo tx nth seen upto) Rolled ns = cond (tx_same t tx) (filter (λ n. nat_le n upto) ns) ns
numbers_after t (RollTo tx nth seen upto) _ ns = ns
numbers_after t _ o ns = ns

abbrev pub numbers_from : TxId → List ℕ → List Entry → List ℕ
numbers_from t ns [] = ns
numbers_from t ns (e ∷ es) = numbers_from t (numbers_after t e.event e.outcome ns) es

abbrev pub standing_numbers : TxId → List Entry → List ℕ
standing_numbers t journal = numbers_from t [] journal

-- how many writes of operations after this number stand
abbrev pub count_after : ℕ → List ℕ → ℕ
count_after upto ns = length (filter (nat_lt upto) ns)

-- ---- acts that were done in one order, replayed in another

-- an act with its number and its answer (a going back has none), and the place of its transaction in the serial history
pub record PlacedAct : Type 0 where
  pub place : ℕ
  pub number : ℕ
  pub act : Act
  pub answer : Option Answer

-- whether the act is one of that place with a greater number
abbrev pub is_later_of : ℕ → ℕ → PlacedAct → Bool
is_later_of place upto q = (q.place == place) && nat_lt upto q.number

-- the operations that still hold after one more act: a going back takes its transaction's later ones away
abbrev pub held_by : List PlacedAct → PlacedAct → Act → List PlacedAct
held_by so_far p (Operates o) = so_far ++ p ∷ []
held_by so_far p (GoesBack u) = filter (λ q. not (is_later_of p.place u q)) so_far

abbrev pub held_after : List PlacedAct → PlacedAct → List PlacedAct
held_after so_far p = held_by so_far p p.act

abbrev pub held_of : List PlacedAct → List PlacedAct → List PlacedAct
held_of so_far [] = so_far
held_of so_far (p ∷ ps) = held_of (held_after so_far p) ps

-- the map after these operations
abbrev pub act_on : Act → KeyMap → KeyMap
act_on (Operates o) m = op_after o m
act_on (GoesBack u) m = m

abbrev pub map_of : KeyMap → List PlacedAct → KeyMap
map_of m [] = m
map_of m (p ∷ ps) = map_of (act_on p.act m) ps

-- Base: each answer is that of the map with the earlier operations that still hold
abbrev pub AnswerFits : PlacedAct → KeyMap → Act → Type 0
AnswerFits p m (Operates o) = p.answer ≡ Some (op_answer o m)
AnswerFits p m (GoesBack u) = p.answer ≡ None

abbrev pub KeepsBase : KeyMap → List PlacedAct → List PlacedAct → Type 0
KeepsBase m so_far [] = ⊤
KeepsBase m so_far (p ∷ ps) = AnswerFits p (map_of m so_far) p.act × KeepsBase m (held_after so_far p) ps

-- an operation with its answer, as others meet it
abbrev pub done_of : Act → Option Answer → List (Op × Answer)
done_of (Operates o) (Some a) = (o, a) ∷ []
done_of (Operates o) None = []
done_of (GoesBack u) a = []

abbrev pub all_done : List PlacedAct → List (Op × Answer)
all_done [] = []
all_done (p ∷ ps) = done_of p.act p.answer ++ all_done ps

-- what an act is met by: its operation; of a going back, the operations that it takes away
abbrev pub met_by : List PlacedAct → PlacedAct → Act → List (Op × Answer)
met_by so_far p (Operates o) = done_of p.act p.answer
met_by so_far p (GoesBack u) = all_done (filter (is_later_of p.place u) so_far)

abbrev pub mets : List PlacedAct → List PlacedAct → List (ℕ × List (Op × Answer))
mets so_far [] = []
mets so_far (p ∷ ps) = (p.place, met_by so_far p p.act) ∷ mets (held_after so_far p) ps

-- whether two operations meet at a key that one of them writes; two Adds that found values don't meet
abbrev pub ops_clash : Op × Answer → Op × Answer → Bool
ops_clash p q = not (adds p.0 p.1 && adds q.0 q.1) && (meets_written q.0 (key_written p.0 p.1) || meets_written p.0 (key_written q.0 q.1))

abbrev pub acts_clash : List (Op × Answer) → List (Op × Answer) → Bool
acts_clash ps qs = list_any (λ p. list_any (ops_clash p) qs) ps

-- Order: none of a lower place comes later and clashes
abbrev pub is_clear_of : ℕ × List (Op × Answer) → List (ℕ × List (Op × Answer)) → Bool
is_clear_of p qs = list_all (λ q. not (nat_lt q.0 p.0) || not (acts_clash p.1 q.1)) qs

abbrev pub keeps_order : List (ℕ × List (Op × Answer)) → Bool
keeps_order [] = true
keeps_order (p ∷ ps) = is_clear_of p ps && keeps_order ps

-- the acts of a place are numbered in order, and each goes back to a number that still stands: none that an earlier one went back over
abbrev pub stands_for_back : ℕ → ℕ → List (ℕ × ℕ) → Bool
stands_for_back nth upto backs = nat_lt upto nth && list_all (λ b. nat_le upto b.1 || nat_le b.0 upto) backs

abbrev pub backs_with : ℕ → Act → List (ℕ × ℕ) → List (ℕ × ℕ)
backs_with nth (Operates o) backs = backs
backs_with nth (GoesBack u) backs = (nth, u) ∷ backs

abbrev pub is_next : ℕ → ℕ → Act → List (ℕ × ℕ) → Bool
is_next last nth (Operates o) backs = nat_le last nth
is_next last nth (GoesBack u) backs = nat_lt last nth && stands_for_back nth u backs

abbrev pub are_numbered : ℕ → List (ℕ × ℕ) → Acts → Bool
are_numbered last backs [] = true
are_numbered last backs (a ∷ as_) = is_next last a.0 a.1 backs && are_numbered a.0 (backs_with a.0 a.1 backs) as_

-- ---- place by place, as whole transactions

abbrev pub acts_at : ℕ → List PlacedAct → Acts
acts_at n [] = []
acts_at n (p ∷ ps) = cond (p.place == n) ((p.number, p.act) ∷ acts_at n ps) (acts_at n ps)

abbrev pub answers_by : Option Answer → List Answer
answers_by None = []
answers_by (Some a) = a ∷ []

abbrev pub answers_at : ℕ → List PlacedAct → List Answer
answers_at n [] = []
answers_at n (p ∷ ps) = cond (p.place == n) (answers_by p.answer ++ answers_at n ps) (answers_at n ps)

abbrev pub each_from : {X : Type 0} → (ℕ → X) → ℕ → ℕ → List X
each_from f n zero = []
each_from f n (suc k) = f n ∷ each_from f (suc n) k

abbrev pub AllActsBelow : ℕ → List PlacedAct → Type 0
AllActsBelow k [] = ⊤
AllActsBelow k (p ∷ ps) = (p.place < k) × AllActsBelow k ps

-- Fold: acts that keep Base and Order are, transaction by transaction, a serial run with their answers and their map
abbrev pub ActsAreSerialRun : Type 0
ActsAreSerialRun =
    (m : KeyMap) (ps : List PlacedAct) (k : ℕ)
    → IsRising m → KeepsBase m [] ps → keeps_order (mets [] ps) ≡ true → AllActsBelow k ps
    → ((n : ℕ) → n < k → are_numbered 0 [] (acts_at n ps) ≡ true)
    → (replay_answers m (each_from (λ n. acts_at n ps) 0 k) ≡ each_from (λ n. answers_at n ps) 0 k)
    × (replay_map m (each_from (λ n. acts_at n ps) 0 k) ≡ map_of m (held_of [] ps))
