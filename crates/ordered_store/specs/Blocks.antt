-- Blocks of records, one after the other.
use Rattle.std.specs.Prelude.{Vec, Option, max, ◌+◌, ◌-◌, ◌*◌, ◌≡◌, ℕ, suc, true, List, [], ◌∷◌, ◌++◌, ◌≤◌, cond, nat_lt, nat_le, length, vec_len, vec_capacity}
use Rattle.std.specs.Coded.{×_prop, Unit-prop, le_prop, Coded-set, coded_ℕ, coded_bool}
use Rattle.std.specs.Ordering.{nat_cmp}
use Rattle.std.specs.FinMap.{is_sorted}
use Rattle.clv_base.specs.declared.values.Value.{Value as ValueType}
use Rattle.clv_base.specs.Needs.{Records}
use Rattle.ordered_store.specs.declared.block.Block.{Block}
use Rattle.ordered_store.specs.Records.{Under, Begins, Starts}

-- all records
abbrev pub flat : List Block → Records
flat [] = []
flat (b ∷ bs) = b.rows.items ++ flat bs

-- the records of each block rise, from its fence, up to the next one's; the first may have none
abbrev pub Chain : Block → List Block → Type 0
Chain b [] = is_sorted nat_cmp b.rows.items ≡ true
Chain b (c ∷ cs) = (is_sorted nat_cmp b.rows.items ≡ true) × (Under c.fence b.rows.items × (Begins c.fence c.rows.items × Chain c cs))

-- the first block has records, unless it is alone
abbrev pub Leads : Block → List Block → Type 0
Leads b [] = Starts b.fence b.rows.items
Leads b (c ∷ cs) = Begins b.fence b.rows.items

abbrev pub Chained : List Block → Type 0
Chained [] = ⊥
Chained (b ∷ bs) = Leads b bs × Chain b bs

-- each block has at most 64 records, and room for one more
abbrev pub Sized : List Block → Type 0
Sized [] = Unit {0}
Sized (b ∷ bs) = ((vec_len b.rows ≤ 64) × (65 ≤ vec_capacity b.rows)) × Sized bs

-- how many records lie above the 33 that a cut leaves
abbrev pub excess : List Block → ℕ
excess [] = 0
excess (b ∷ bs) = (vec_len b.rows - 33) + excess bs

-- for how many new keys rows are kept: each spare block serves one, and after a cut it takes 32 more to the next
abbrev pub room_of : List Block → ℕ → ℕ
room_of bs spares = max spares (32 * spares + 31 - excess bs)

-- rows with no record, and room for 65
abbrev pub Empties : {Z : Type 0} → List (Vec (ℕ × Option ValueType) Z) → Type 0
Empties [] = Unit {0}
Empties (e ∷ es) = ((length e.items ≡ 0) × (65 ≤ vec_capacity e)) × Empties es

-- how many fences from the front on are at most k
abbrev pub reached : ℕ → List Block → ℕ
reached k [] = 0
reached k (b ∷ bs) = cond (nat_le b.fence k) (suc (reached k bs)) 0

-- how many fences from the front on are below k
abbrev pub passed : ℕ → List Block → ℕ
passed k [] = 0
passed k (b ∷ bs) = cond (nat_lt b.fence k) (suc (passed k bs)) 0

abbrev pub slot_of : ℕ → List Block → ℕ
slot_of k [] = 0
slot_of k (b ∷ bs) = reached k bs

abbrev pub slot_below : ℕ → List Block → ℕ
slot_below k [] = 0
slot_below k (b ∷ bs) = passed k bs

-- ---- each of these facts has one proof at most

none-prop : IsProp ⊥
none-prop x y = absurd x

Under-prop : (k : ℕ) (rs : Records) → IsProp (Under k rs)
Under-prop k [] = Unit-prop
Under-prop k (r ∷ rs) = ×_prop le_prop (Under-prop k rs)

Begins-prop : (k : ℕ) (rs : Records) → IsProp (Begins k rs)
Begins-prop k [] = none-prop
Begins-prop k (r ∷ rs) = Coded-set coded_ℕ k r.0

Starts-prop : (k : ℕ) (rs : Records) → IsProp (Starts k rs)
Starts-prop k [] = Unit-prop
Starts-prop k (r ∷ rs) = Coded-set coded_ℕ k r.0

Chain-prop : (b : Block) (bs : List Block) → IsProp (Chain b bs)
Chain-prop b [] = Coded-set coded_bool (is_sorted nat_cmp b.rows.items) true
Chain-prop b (c ∷ cs) = ×_prop (Coded-set coded_bool (is_sorted nat_cmp b.rows.items) true) (×_prop (Under-prop c.fence b.rows.items) (×_prop (Begins-prop c.fence c.rows.items) (Chain-prop c cs)))

Leads-prop : (b : Block) (bs : List Block) → IsProp (Leads b bs)
Leads-prop b [] = Starts-prop b.fence b.rows.items
Leads-prop b (c ∷ cs) = Begins-prop b.fence b.rows.items

pub Chained-prop : (bs : List Block) → IsProp (Chained bs)
Chained-prop [] = none-prop
Chained-prop (b ∷ bs) = ×_prop (Leads-prop b bs) (Chain-prop b bs)

pub Sized-prop : (bs : List Block) → IsProp (Sized bs)
Sized-prop [] = Unit-prop
Sized-prop (b ∷ bs) = ×_prop (×_prop le_prop le_prop) (Sized-prop bs)

pub Empties-prop : {Z : Type 0} (es : List (Vec (ℕ × Option ValueType) Z)) → IsProp (Empties es)
Empties-prop [] = Unit-prop
Empties-prop (e ∷ es) = ×_prop (×_prop (Coded-set coded_ℕ (length e.items) 0) le_prop) (Empties-prop es)
