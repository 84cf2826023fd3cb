-- Deeds that are operations alone, as those that a log is found with: all of them hold.
use Rattle.std.proofs.Common.{◌≡◌, refl, sym, ap, subst, ◌∙◌, Bool, true, false, cond, List, [], ◌∷◌, ◌++◌, map, append-nil, append_assoc}
use Rattle.std.specs.List.{AllByRecursion, filter}
use Rattle.clv_base.specs.declared.names.TxId.{TxId}
use Rattle.clv_base.specs.Maps.{KeyMap, op_after}
use Rattle.law_base.specs.Items.{Item, Deed, Did, held_from, held, ActsFrom, Acts, Runs, after, AllLater}
use Rattle.shard_laws.specs.OneShard.{items_in, deeds_by_chosen, NobodyBetween}
use Rattle.shard_laws.proofs.Keeping.DeedsThatHold.{AllMet, later_met}

abbrev pub alone : List Item → List Deed
alone xs = map (λ x. Did x) xs

held_on : (xs ys : List Item) → held_from xs (alone ys) ≡ xs ++ ys
held_on xs [] = sym (append-nil xs)
held_on xs (y ∷ ys) = held_on (xs ++ y ∷ []) ys ∙ append_assoc xs (y ∷ []) ys

pub held_alone : (xs : List Item) → held (alone xs) ≡ xs
held_alone xs = held_on [] xs

pub items_alone : (xs : List Item) → items_in (alone xs) ≡ xs
items_alone [] = refl
items_alone (x ∷ xs) = ap (λ l. x ∷ l) (items_alone xs)

after_push : (m : KeyMap) (xs : List Item) (y : Item) → after m (xs ++ y ∷ []) ≡ op_after y.op (after m xs)
after_push m [] y = refl
after_push m (x ∷ xs) y = after_push (op_after x.op m) xs y

acts_on : (m : KeyMap) (xs ys : List Item) → Runs (after m xs) ys → ActsFrom m xs (alone ys)
acts_on m xs [] r = tt
acts_on m xs (y ∷ ys) r = (r.0, acts_on m (xs ++ y ∷ []) ys (subst (λ n. Runs n ys) (sym (after_push m xs y)) r.1))

pub acts_alone : (m : KeyMap) (xs : List Item) → Runs m xs → Acts m (alone xs)
acts_alone m xs r = acts_on m [] xs r

pub between_alone : (xs ys : List Item) → NobodyBetween xs (alone ys)
between_alone xs [] = tt
between_alone xs (y ∷ ys) = between_alone (xs ++ y ∷ []) ys

-- what holds of all of them, and of each two
pub all_alone : (P : Deed → Type 0) (xs : List Item) → AllByRecursion (λ x. P (Did x)) xs → AllByRecursion P (alone xs)
all_alone P [] a = tt
all_alone P (x ∷ xs) a = (a.0, all_alone P xs a.1)

pub later_alone : (R : Deed → Deed → Type 0) (xs : List Item) → AllLater (λ x y. R (Did x) (Did y)) xs → AllLater R (alone xs)
later_alone R [] a = tt
later_alone R (x ∷ xs) a = (all_alone (R (Did x)) xs a.0, later_alone R xs a.1)

pub met_alone : (R : Item → Item → Type 0) (xs : List Item) → AllLater R xs → AllMet R (alone xs)
met_alone R xs a = later_met R (alone xs) (subst (AllLater R) (sym (items_alone xs)) a)

-- those of some transactions
pub alone_chosen : (keep : TxId → Bool) (xs : List Item) → deeds_by_chosen keep (alone xs) ≡ alone (filter (λ x. keep x.tx) xs)
alone_chosen keep [] = refl
alone_chosen keep (x ∷ xs) = at (keep x.tx) (alone_chosen keep xs)
  where
    at : (b : Bool) → deeds_by_chosen keep (alone xs) ≡ alone (filter (λ x. keep x.tx) xs) → cond b (Did x ∷ deeds_by_chosen keep (alone xs)) (deeds_by_chosen keep (alone xs)) ≡ alone (cond b (x ∷ filter (λ x. keep x.tx) xs) (filter (λ x. keep x.tx) xs))
    at true e = ap (λ l. Did x ∷ l) e
    at false e = e
