-- The parts of the acts that a session made: those of each scan adjoin, and none of them is empty.
use Rattle.std.proofs.Common.{◌≡◌, ◌⊎◌, inl, inr, refl, sym, ap, subst, ◌∙◌, ℕ, zero, suc, pred, ◌+◌, ◌<◌, ◌≤◌, Bool, true, false, cond, max, min, nat_le, nat_lt, List, [], ◌∷◌, ◌++◌, length, Some, None, arith}
use Rattle.std.specs.Prelude.{⊤}
use Rattle.std.specs.List.{AllByRecursion}
use Rattle.std.proofs.lemmas.Bool.{cases_lt, leb-true, leb-false, ltb-true, ltb-false}
use Rattle.clv_base.specs.declared.ops.Op.{Op}
use Rattle.clv_base.specs.declared.ops.Op.TheVariants.{Get, Put, Del, Scan, Add}
use Rattle.clv_base.specs.Shards.{shard_count, first_key, are_splits}
use Rattle.clv_base.specs.Maps.{Act, Operates, GoesBack, Acts}
use Rattle.clv_base.specs.History.{DoneAct}
use Rattle.clv_base.proofs.Spans.{Rises, rises, start, span_is}
use Rattle.session_books.specs.Done.{Done}
use Rattle.script_runs.specs.Operations.{scan_within, part_at, scan_parts, parts_of}
use Rattle.script_runs.specs.Acts.{numbered, numbered_parts}
use Rattle.script_runs.specs.TriesTell.{ArePartsOf, no_act, operation, going_back}

-- ---- what is whole

abbrev OpsAdjoin : Op → Op → Type 0
OpsAdjoin x y = (lo hi lo2 hi2 : ℕ) → x ≡ Scan lo hi → y ≡ Scan lo2 hi2 → (lo ≤ hi) × (lo2 ≡ suc hi) × (lo2 ≤ hi2)

abbrev PartMeets : ℕ × Op → List (ℕ × Op) → Type 0
PartMeets p [] = ⊤
PartMeets p (q ∷ qs) = OpsAdjoin p.1 q.1

abbrev PartsAreWhole : List (ℕ × Op) → Type 0
PartsAreWhole [] = ⊤
PartsAreWhole (p ∷ ps) = PartMeets p ps × PartsAreWhole ps

abbrev pub ActsAdjoin : Act → Act → Type 0
ActsAdjoin x y = (lo hi lo2 hi2 : ℕ) → x ≡ Operates (Scan lo hi) → y ≡ Operates (Scan lo2 hi2) → (lo ≤ hi) × (lo2 ≡ suc hi) × (lo2 ≤ hi2)

abbrev pub Meets : ℕ × Act → Acts → Type 0
Meets p [] = ⊤
Meets p (q ∷ qs) = p.0 ≡ q.0 → ActsAdjoin p.1 q.1

-- of acts with their numbers, those of one number
abbrev pub ActsAreWhole : Acts → Type 0
ActsAreWhole [] = ⊤
ActsAreWhole (p ∷ ps) = Meets p ps × ActsAreWhole ps

-- ---- the parts of a scan

-- of the shards from a key on: none, or the first one begins where both do, and has some key of the range
data First (lo hi from : ℕ) (parts : List (ℕ × Op)) : Type 0 where
  none : parts ≡ [] → First lo hi from parts
  some : (n high : ℕ) (rest : List (ℕ × Op)) → parts ≡ (n, Scan (max lo from) high) ∷ rest → max lo from ≤ high → high ≤ hi → First lo hi from parts

record Good (lo hi from : ℕ) (parts : List (ℕ × Op)) : Type 0 where
  first : First lo hi from parts
  whole : PartsAreWhole parts

keys_rise : (splits : List ℕ) (n : ℕ) → Rises splits → suc n < length splits → first_key splits n < first_key splits (suc n)
keys_rise [] n r l = absurd (omega arith)
keys_rise (s ∷ []) n r l = absurd (omega arith)
keys_rise (s ∷ t ∷ ss) zero r l = r.0
keys_rise (s ∷ t ∷ ss) (suc n) r l = keys_rise (t ∷ ss) n r.1 (omega arith)

starts_rise : (splits : List ℕ) (n : ℕ) → Rises splits → n < length splits → start splits n ≤ first_key splits n
starts_rise splits zero r l = omega arith
starts_rise splits (suc n) r l = let up = keys_rise splits n r l in omega arith

ends_of : (a b lo hi : ℕ) → Scan a b ≡ Scan lo hi → (a ≡ lo) × (b ≡ hi)
ends_of a b lo hi e = (let f : a ≡ lo = cc in f, let g : b ≡ hi = cc in g)

module _ (lo hi : ℕ) where
  met : (n from to : ℕ) (rest : List (ℕ × Op)) → from ≤ to → max lo from ≤ min hi to → First lo hi (suc to) rest → PartMeets (n, Scan (max lo from) (min hi to)) rest
  met n from to rest l some_here (none e) = subst (PartMeets (n, Scan (max lo from) (min hi to))) (sym e) tt
  met n from to rest l some_here (some m high more e low up) =
      subst (PartMeets (n, Scan (max lo from) (min hi to))) (sym e)
      (λ lo1 hi1 lo2 hi2 p q.
      let a = ends_of (max lo from) (min hi to) lo1 hi1 p in
      let b = ends_of (max lo (suc to)) high lo2 hi2 q in
      let a0 = a.0 in let a1 = a.1 in let b0 = b.0 in let b1 = b.1 in
      ((let k : lo1 ≤ hi1 = omega arith in k), (let k : lo2 ≡ suc hi1 = omega arith in k), (let k : lo2 ≤ hi2 = omega arith in k)))

  -- one shard more: from here up to below there, or without keys of the range
  good_here : (n from to : ℕ) (rest : List (ℕ × Op)) (b : Bool) → nat_le (max lo from) (min hi (pred to)) ≡ b → from < to → Good lo hi to rest
      → Good lo hi from (part_at n (cond b (Some (Scan (max lo from) (min hi (pred to)))) None) ++ rest)
  good_here n from zero rest b is l g = absurd (omega arith)
  good_here n from (suc to) rest true is l g =
      let e = leb-true (max lo from) (min hi to) is in
      record { first = some n (min hi to) rest refl e (omega arith); whole = (met n from to rest (omega arith) e g.first, g.whole) }
  good_here n from (suc to) rest false is l g = let e = leb-false (max lo from) (min hi to) is in record { first = later e g.first; whole = g.whole }
    where
      later : min hi to < max lo from → First lo hi (suc to) rest → First lo hi from rest
      later e (none f) = none f
      later e (some m high more f low up) =
          let same : max lo (suc to) ≡ max lo from = omega arith in
          some m high more (f ∙ ap (λ (low : ℕ). (m, Scan low high) ∷ more) same) (omega arith) up

  good_none : (from to : ℕ) (rest : List (ℕ × Op)) → to ≤ from → (from ≤ to) ⊎ (rest ≡ []) → Good lo hi to rest → Good lo hi from rest
  good_none from to rest l (inr e) g = record { first = none e; whole = g.whole }
  good_none from to rest l (inl up) g = record { first = at g.first; whole = g.whole }
    where
      at : First lo hi to rest → First lo hi from rest
      at (none f) = none f
      at (some m high more f low h) =
          let same : max lo to ≡ max lo from = omega arith in
          some m high more (f ∙ ap (λ (low : ℕ). (m, Scan low high) ∷ more) same) (omega arith) h

  good_span : (n from to : ℕ) (rest : List (ℕ × Op)) (b : Bool) → nat_lt from to ≡ b → (from ≤ to) ⊎ (rest ≡ []) → Good lo hi to rest → Good lo hi from (part_at n (scan_within lo hi (cond b (Some (from, pred to)) None)) ++ rest)
  good_span n from to rest true is up g = good_here n from to rest (nat_le (max lo from) (min hi (pred to))) refl (ltb-true from to is) g
  good_span n from to rest false is up g = good_none from to rest (ltb-false from to is) up g

  good : (splits : List ℕ) → Rises splits → (k n : ℕ) → n + k ≡ suc (length splits) → Good lo hi (start splits n) (scan_parts splits lo hi n k)
  good splits r zero n is = record { first = none refl; whole = tt }
  good splits r (suc k) n is =
      subst (λ o. Good lo hi (start splits n) (part_at n (scan_within lo hi o) ++ scan_parts splits lo hi (suc n) k)) (sym (span_is splits n))
      (good_span n (start splits n) (first_key splits n) (scan_parts splits lo hi (suc n) k) (nat_lt (start splits n) (first_key splits n)) refl (at k (cases_lt n (length splits)) is) (good splits r k (suc n) (omega arith)))
    where
      at : (j : ℕ) → (n < length splits) ⊎ (length splits ≤ n) → n + suc j ≡ suc (length splits) → (start splits n ≤ first_key splits n) ⊎ (scan_parts splits lo hi (suc n) j ≡ [])
      at j (inl low) e = inl (starts_rise splits n r low)
      at zero (inr past) e = inr refl
      at (suc j) (inr past) e = absurd (omega arith)

parts_whole : (splits : List ℕ) → Rises splits → (op : Op) → PartsAreWhole (parts_of splits op)
parts_whole splits r (Get k) = (tt, tt)
parts_whole splits r (Put k v) = (tt, tt)
parts_whole splits r (Del k) = (tt, tt)
parts_whole splits r (Scan lo hi) = (good lo hi splits r (shard_count splits) 0 (omega arith)).whole
parts_whole splits r (Add k by) = (tt, tt)

-- ---- acts one behind another

abbrev AllFrom : ℕ → Acts → Type 0
AllFrom nth as_ = AllByRecursion (λ (p : ℕ × Act). nth ≤ p.0) as_

from_less : (nth : ℕ) (as_ : Acts) → AllFrom (suc nth) as_ → AllFrom nth as_
from_less nth [] a = tt
from_less nth (p ∷ ps) a = (let l = a.0 in omega arith, from_less nth ps a.1)

parts_from : (nth : ℕ) (parts : List (ℕ × Op)) (rest : Acts) → AllFrom (suc nth) rest → AllFrom nth (numbered_parts nth parts ++ rest)
parts_from nth [] rest a = from_less nth rest a
parts_from nth (p ∷ parts) rest a = (omega arith, parts_from nth parts rest a)

other_number : (nth : ℕ) (act : Act) (rest : Acts) → AllFrom (suc nth) rest → Meets (nth, act) rest
other_number nth act [] a = tt
other_number nth act (q ∷ qs) a = λ same. absurd (let l = a.0 in let no : ⊥ = omega arith in no)

op_in : (o p : Op) → Operates o ≡ Operates p → o ≡ p
op_in o p e = cc

whole_behind : (nth : ℕ) (parts : List (ℕ × Op)) (rest : Acts) → PartsAreWhole parts → AllFrom (suc nth) rest → ActsAreWhole rest → ActsAreWhole (numbered_parts nth parts ++ rest)
whole_behind nth [] rest w a b = b
whole_behind nth (p ∷ []) rest w a b = (other_number nth (Operates p.1) rest a, b)
whole_behind nth (p ∷ q ∷ parts) rest w a b =
    ((λ same lo hi lo2 hi2 x y. w.0 lo hi lo2 hi2 (op_in p.1 (Scan lo hi) x) (op_in q.1 (Scan lo2 hi2) y)), whole_behind nth (q ∷ parts) rest w.1 a b)

numbered_append : (ps qs : List DoneAct) → numbered (ps ++ qs) ≡ numbered ps ++ numbered qs
numbered_append [] qs = refl
numbered_append (p ∷ ps) qs = ap (λ (l : Acts). (p.0, p.1) ∷ l) (numbered_append ps qs)

record Whole (nth : ℕ) (as_ : Acts) : Type 0 where
  from : AllFrom nth as_
  whole : ActsAreWhole as_

parts_are : (splits : List ℕ) → Rises splits → (nth : ℕ) (ds : List Done) (as_ : List DoneAct) → ArePartsOf splits nth ds as_ → Whole nth (numbered as_)
parts_are splits r _ _ _ (no_act nth) = record { from = tt; whole = tt }
parts_are splits r _ _ _ (operation nth op answer ds here behind all is parts given more) =
    let w = parts_are splits r (suc nth) ds behind more in
    subst (Whole nth) (sym (ap numbered is ∙ numbered_append here behind ∙ ap (λ (l : Acts). l ++ numbered behind) parts))
    (record { from = parts_from nth (parts_of splits op) (numbered behind) w.from; whole = whole_behind nth (parts_of splits op) (numbered behind) (parts_whole splits r op) w.from w.whole })
parts_are splits r _ _ _ (going_back nth upto ds behind more) =
    let w = parts_are splits r (suc nth) ds behind more in
    record { from = (omega arith, from_less nth (numbered behind) w.from); whole = (other_number nth (GoesBack upto) (numbered behind) w.from, w.whole) }

pub acts_are_whole : (splits : List ℕ) → are_splits splits ≡ true → (nth : ℕ) (ds : List Done) (as_ : List DoneAct) → ArePartsOf splits nth ds as_ → ActsAreWhole (numbered as_)
acts_are_whole splits s nth ds as_ p = (parts_are splits (rises splits s) nth ds as_ p).whole
