-- What a granted operation writes, what is held through its write, and its part.
use Rattle.std.proofs.Common.{◌≡◌, Bool, true, false, cond, not, ◌&&◌, List, [], ◌∷◌, ◌++◌, Option, Some, None, ◌==◌, refl, sym, ap, subst, ◌∙◌, eqb-true, eq-eqb, ℕ, ⊎_elim}
use Rattle.std.proofs.lemmas.Bool.{cases_Bool, both_ways, cond-true, cond-false}
use Rattle.std.specs.List.{AllByRecursion, filter}
use Rattle.law_base.specs.Items.{Deed, Did, WentBack, is_beyond, Acts, ActsFrom}
use Rattle.clv_base.specs.declared.ops.Answer.{Answer}
use Rattle.clv_base.specs.declared.ops.Answer.TheVariants.{Added}
use Rattle.clv_base.specs.declared.values.Value.TheVariants.{Num, Bytes}
use Rattle.clv_base.specs.Maps.{KeyMap, op_answer, is_number}
use Rattle.clv_base.specs.Folding.{adds, meets_key}
use Rattle.clv_base.proofs.Folding.{plus_is_number}
use Rattle.std.proofs.lemmas.Option.{none-some, same_Some}
use Rattle.clv_base.specs.declared.values.Value.{Value as ValueType}
use Rattle.clv_base.specs.declared.names.TxId.{TxId}
use Rattle.clv_base.specs.declared.names.Birth.{Birth}
use Rattle.clv_base.specs.declared.logs.LogRecord.{LogRecord}
use Rattle.clv_base.specs.declared.modes.Part.{Part}
use Rattle.clv_base.specs.declared.modes.Part.TheVariants.{N, S, I, X}
use Rattle.clv_base.specs.declared.modes.Anchor.{Anchor}
use Rattle.clv_base.specs.declared.modes.Anchor.TheVariants.{Low, At}
use Rattle.clv_base.specs.declared.state.Stage.{Stage}
use Rattle.clv_base.specs.declared.state.Stage.TheVariants.{Active, Closed, Gone}
use Rattle.clv_base.specs.declared.state.Held.{Held}
use Rattle.clv_base.specs.Orders.{Table, tx_same, tx_get}
use Rattle.clv_base.specs.Maps.{map_get}
use Rattle.clv_base.specs.declared.changes.Change.TheVariants.{Sets, Adds}
use Rattle.clv_base.specs.declared.changes.Change.{Change}
use Rattle.clv_base.specs.Logs.{StandingUpdate, changed, is_setting}
use Rattle.clv_base.specs.Locks.{Locks}
use Rattle.clv_base.specs.Needs.{Records, value_at, lower_anchor}
use Rattle.law_base.proofs.Cells.{record_at, live_by}
use Rattle.law_base.specs.Items.{Item, after, is_write_at}
use Rattle.clv_base.proofs.SameNames.{tx_self, tx_ne}
use Rattle.law_base.proofs.Running.{top_value}
use Rattle.law_base.proofs.Anchors.{Rising}
use Rattle.law_base.proofs.LockRows.{holds, Rows}
use Rattle.shard_laws.proofs.Operations.NeedsCoverKeys.{holds_at, holds_by}
use Rattle.law_base.proofs.Tables.{stage_in, stage_by}
use Rattle.shard_laws.proofs.Keeping.WhatOneShardKeeps.{adds_in, is_adding, StageFits, Belongs, of_kept}
use Rattle.clv_base.specs.declared.ops.Op.{Op}
use Rattle.clv_base.specs.declared.ops.Op.TheVariants as ops
use Rattle.clv_base.specs.declared.ops.Op.TheVariants.{Get, Put, Del, Scan}
use Rattle.clv_base.specs.declared.modes.Need.{Need}
use Rattle.clv_base.specs.Orders.{tx_put}
use Rattle.clv_base.specs.Modes.{on_key, part_compatible}
use Rattle.clv_base.specs.Locks.{take_all, split_gap, holder_of}
use Rattle.clv_base.specs.Needs.{found_at, found_by, inserts, writes_of, key_of, record_set, answer_of}
use Rattle.clv_base.specs.OneShard.{update_of, active_part, inserted_locks, new_part}
use Rattle.law_base.specs.Items.{told}
use Rattle.law_base.proofs.Anchors.{rising_set, record_at_set, lower_insert, anchor_present}
use Rattle.law_base.proofs.LockRows.{least, take_keeps, take_gives, rows_take, all_keeps, all_gives, split_keeps, split_gives, rows_split}
use Rattle.shard_laws.proofs.Operations.NeedsCoverKeys.{met_part, wrote_part, adds_to, asks_by}
use Rattle.law_base.proofs.Tables.{get_put}
use Rattle.law_base.proofs.Names.{MayStand, none_held}
use Rattle.shard_laws.specs.OneShard.{items_in}

abbrev pub Written : Type 0
Written = Option (ℕ × Change)

abbrev pub records_by : Written → Records → Records
records_by None rs = rs
records_by (Some w) rs = record_set w.0 (changed w.1 (value_at w.0 rs)) rs

abbrev pub log_by : TxId → Written → List LogRecord → List LogRecord
log_by tx None log = log
log_by tx (Some w) log = log ++ update_of tx w.0 w.1 ∷ []

-- nothing is written, or where a record stands, or a new record
pub data Writing (rs : Records) : Written → Option ℕ → Type 0 where
  nothing : Writing rs None None
  there : (k : ℕ) (c : Change) (x : Option ValueType) → record_at k rs ≡ Some x → Writing rs (Some (k, c)) None
  fresh : (k : ℕ) (b a : Option ValueType) → record_at k rs ≡ None → Writing rs (Some (k, Sets b a)) (Some k)

pub put_writing : (k : ℕ) (v : ValueType) (b : Option ValueType) (rs : Records) (o : Option (Option ValueType)) → record_at k rs ≡ o → Writing rs (writes_of (Put k v) b) (inserts (Put k v) (found_by o))
put_writing k v b rs None e = fresh k b (Some v) e
put_writing k v b rs (Some None) e = there k (Sets b (Some v)) None e
put_writing k v b rs (Some (Some x)) e = there k (Sets b (Some v)) (Some x) e

pub del_writing : (k : ℕ) (rs : Records) (o : Option (Option ValueType)) → record_at k rs ≡ o → Writing rs (writes_of (Del k) (live_by o)) (inserts (Del k) (found_by o))
del_writing k rs None e = nothing
del_writing k rs (Some None) e = nothing
del_writing k rs (Some (Some x)) e = there k (Sets (Some x) None) (Some x) e

pub add_writing : (k n : ℕ) (rs : Records) (o : Option (Option ValueType)) → record_at k rs ≡ o → Writing rs (writes_of (ops.Add k n) (live_by o)) (inserts (ops.Add k n) (found_by o))
add_writing k n rs None e = nothing
add_writing k n rs (Some None) e = nothing
add_writing k n rs (Some (Some (Num v))) e = there k (Adds n) (Some (Num v)) e
add_writing k n rs (Some (Some (Bytes b))) e = nothing

pub writing : (op : Op) (rs : Records) → Writing rs (writes_of op (value_at (key_of op) rs)) (inserts op (found_at (key_of op) rs))
writing (Get k) rs = nothing
writing (Put k v) rs = put_writing k v (value_at k rs) rs (record_at k rs) refl
writing (Del k) rs = del_writing k rs (record_at k rs) refl
writing (Scan lo hi) rs = nothing
writing (ops.Add k n) rs = add_writing k n rs (record_at k rs) refl

pub some_key : (j k : ℕ) → Some j ≡ Some k → k ≡ j
some_key j k e = cc

-- an insert is a write
pub insert_writes : (rs : Records) (w : Written) (ins : Option ℕ) (q : ℕ) → Writing rs w ins → ins ≡ Some q → is_write_at w q ≡ true
insert_writes rs _ _ q nothing e = absurd (none-some q e)
insert_writes rs _ _ q (there k c x h) e = absurd (none-some q e)
insert_writes rs _ _ q (fresh k b a h) e = eq-eqb q k (some_key k q e)

pub set_some : (q k : ℕ) (a : Option ValueType) (rs : Records) → (q == k) ≡ true → record_at q (record_set k a rs) ≡ Some a
set_some q k a rs e = record_at_set q k a rs ∙ cond-true (q == k) (Some a) (record_at q rs) e

pub set_same : (q k : ℕ) (a : Option ValueType) (rs : Records) → (q == k) ≡ false → record_at q (record_set k a rs) ≡ record_at q rs
set_same q k a rs e = record_at_set q k a rs ∙ cond-false (q == k) (Some a) (record_at q rs) e

-- where it was written, a record stands
pub written_record : (rs : Records) (w : Written) (ins : Option ℕ) (q : ℕ) → Writing rs w ins → is_write_at w q ≡ true → (x : Option ValueType) × (record_at q (records_by w rs) ≡ Some x)
written_record rs _ _ q nothing e = absurd (both_ways false refl e)
written_record rs _ _ q (there k c x h) e = (changed c (value_at k rs), set_some q k (changed c (value_at k rs)) rs e)
written_record rs _ _ q (fresh k b a h) e = (a, set_some q k a rs e)

pub still_record : (rs : Records) (w : Written) (ins : Option ℕ) (q : ℕ) → Writing rs w ins → record_at q (records_by w rs) ≡ None → record_at q rs ≡ None
still_record rs _ _ q nothing e = e
still_record rs _ _ q (there k c x h) e =
    ⊎_elim (λ t. absurd (some_none (changed c (value_at k rs)) (sym (set_some q k (changed c (value_at k rs)) rs t) ∙ e))) (λ f. sym (set_same q k (changed c (value_at k rs)) rs f) ∙ e) (cases_Bool (q == k))
  where
    some_none : (a : Option ValueType) → Some a ≡ None → ⊥
    some_none a e = absurd cc
still_record rs _ _ q (fresh k b a h) e = ⊎_elim (λ t. absurd (some_none a (sym (set_some q k a rs t) ∙ e))) (λ f. sym (set_same q k a rs f) ∙ e) (cases_Bool (q == k))
  where
    some_none : (a : Option ValueType) → Some a ≡ None → ⊥
    some_none a e = absurd cc

pub rising_by : (rs : Records) (w : Written) → Rising rs → Rising (records_by w rs)
rising_by rs None h = h
rising_by rs (Some w) h = rising_set w.0 (changed w.1 (value_at w.0 rs)) rs h

pub least_X : (p : Part) → least p X ≡ true
least_X N = refl
least_X S = refl
least_X I = refl
least_X X = refl

-- ---- what is held, through the write

pub same_by : (p : Part) (locks more : Locks) (rs ts : Records) (u : TxId) (q : ℕ) (o : Option (Option ValueType)) → record_at q rs ≡ o → record_at q ts ≡ o → (holds true p (At q) u locks ≡ true → holds true p (At q) u more ≡ true)
    → (o ≡ None → holds false p (lower_anchor q rs) u locks ≡ true → holds false p (lower_anchor q ts) u more ≡ true) → holds_at p locks rs u q ≡ true → holds_at p more ts u q ≡ true
same_by p locks more rs ts u q (Some x) e f key gap h = subst (λ o. holds_by p more ts u q o ≡ true) (sym f) (key (subst (λ o. holds_by p locks rs u q o ≡ true) e h))
same_by p locks more rs ts u q None e f key gap h = subst (λ o. holds_by p more ts u q o ≡ true) (sym f) (gap refl (subst (λ o. holds_by p locks rs u q o ≡ true) e h))

pub moved_there : (k : ℕ) (a x : Option ValueType) (p : Part) (locks : Locks) (rs : Records) (u : TxId) (q : ℕ) → Rising rs → record_at k rs ≡ Some x → holds_at p locks rs u q ≡ true → holds_at p locks (record_set k a rs) u q ≡ true
moved_there k a x p locks rs u q h e held =
    ⊎_elim
    (λ t. let same : q ≡ k = eqb-true q k t in
    subst (λ o. holds_by p locks (record_set k a rs) u q o ≡ true) (sym (set_some q k a rs t)) (subst (λ o. holds_by p locks rs u q o ≡ true) (ap (λ j. record_at j rs) same ∙ e) held))
    (λ f. same_by p locks locks rs (record_set k a rs) u q (record_at q rs) refl (set_same q k a rs f) (λ i. i) (λ none i. subst (λ b. holds false p b u locks ≡ true) (sym (anchor_present q k a x Low rs h e)) i) held)
    (cases_Bool (q == k))

pub moved_fresh : (tx : TxId) (birth : Birth) (k : ℕ) (a : Option ValueType) (p : Part) (locks : Locks) (rs : Records) (u : TxId) (q : ℕ) → Rising rs → record_at k rs ≡ None → (record_at q rs ≡ None → least S p ≡ true) → (Some k ≡ Some q → u ≡ tx)
    → holds_at p locks rs u q ≡ true → holds_at p (inserted_locks tx birth rs (Some k) locks) (record_set k a rs) u q ≡ true
moved_fresh tx birth k a p locks rs u q h none least_p own held =
    ⊎_elim
    (λ t. let same : q ≡ k = eqb-true q k t in
    subst (λ o. holds_by p (inserted_locks tx birth rs (Some k) locks) (record_set k a rs) u q o ≡ true) (sym (set_some q k a rs t))
    (subst (λ z. holds true p (At q) z (inserted_locks tx birth rs (Some k) locks) ≡ true) (sym (own (ap Some (sym same))))
    (subst (λ j. holds true p (At j) tx (inserted_locks tx birth rs (Some k) locks) ≡ true) (sym same) (take_gives true p (At k) (holder_of tx birth (on_key X)) (split_gap (lower_anchor k rs) (At k) locks) (least_X p)))))
    (λ f. same_by p locks (inserted_locks tx birth rs (Some k) locks) rs (record_set k a rs) u q (record_at q rs) refl (set_same q k a rs f)
    (λ i. keep true (At q) i)
    (λ empty i. ⊎_elim
    (λ s. subst (λ b. holds false p b u (inserted_locks tx birth rs (Some k) locks) ≡ true) (sym s) (keep false (lower_anchor q rs) i))
    (λ s. subst (λ b. holds false p b u (inserted_locks tx birth rs (Some k) locks) ≡ true) (sym s.0)
    (take_keeps false p (At k) u (At k) (holder_of tx birth (on_key X)) (split_gap (lower_anchor k rs) (At k) locks)
    (split_gives p u (lower_anchor k rs) (At k) locks (least_p empty) (subst (λ b. holds false p b u locks ≡ true) s.1 i))))
    (lower_insert q k a rs h none)) held)
    (cases_Bool (q == k))
  where
    keep : (f : Bool) (b : Anchor) → holds f p b u locks ≡ true → holds f p b u (inserted_locks tx birth rs (Some k) locks) ≡ true
    keep f b i = take_keeps f p b u (At k) (holder_of tx birth (on_key X)) (split_gap (lower_anchor k rs) (At k) locks) (split_keeps f p b u (lower_anchor k rs) (At k) locks i)

pub moved : (tx : TxId) (birth : Birth) (p : Part) (locks : Locks) (rs : Records) (w : Written) (ins : Option ℕ) (u : TxId) (q : ℕ) → Rising rs → Writing rs w ins → (record_at q rs ≡ None → least S p ≡ true) → (ins ≡ Some q → u ≡ tx)
    → holds_at p locks rs u q ≡ true → holds_at p (inserted_locks tx birth rs ins locks) (records_by w rs) u q ≡ true
moved tx birth p locks rs _ _ u q h nothing least_p own held = held
moved tx birth p locks rs _ _ u q h (there k c x e) least_p own held = moved_there k (changed c (value_at k rs)) x p locks rs u q h e held
moved tx birth p locks rs _ _ u q h (fresh k b a e) least_p own held = moved_fresh tx birth k a p locks rs u q h e least_p own held

pub insert_keeps_key : (tx : TxId) (birth : Birth) (rs : Records) (ins : Option ℕ) (locks : Locks) (p : Part) (b : Anchor) (u : TxId) → holds true p b u locks ≡ true → holds true p b u (inserted_locks tx birth rs ins locks) ≡ true
insert_keeps_key tx birth rs None locks p b u i = i
insert_keeps_key tx birth rs (Some k) locks p b u i = take_keeps true p b u (At k) (holder_of tx birth (on_key X)) (split_gap (lower_anchor k rs) (At k) locks) (split_keeps true p b u (lower_anchor k rs) (At k) locks i)

pub rows_insert : (P : TxId → Birth → Bool → Type 0) (tx : TxId) (birth : Birth) (rs : Records) (ins : Option ℕ) (locks : Locks) → P tx birth false → Rows P locks → Rows P (inserted_locks tx birth rs ins locks)
rows_insert P tx birth rs None locks p all = all
rows_insert P tx birth rs (Some k) locks p all = rows_take P (At k) (holder_of tx birth (on_key X)) (split_gap (lower_anchor k rs) (At k) locks) p (rows_split P (lower_anchor k rs) (At k) locks all)

pub asked_held : (p : Part) (tx : TxId) (birth : Birth) (ns : List Need) (locks : Locks) (rs : Records) (q : ℕ) (o : Option (Option ValueType)) → asks_by p ns rs q o ≡ true → holds_by p (take_all tx birth ns locks) rs tx q o ≡ true
asked_held p tx birth ns locks rs q (Some x) e = all_gives true p (At q) tx birth ns locks e
asked_held p tx birth ns locks rs q None e = all_gives false p (lower_anchor q rs) tx birth ns locks e

pub taken_held : (p : Part) (tx : TxId) (birth : Birth) (ns : List Need) (locks : Locks) (rs : Records) (u : TxId) (q : ℕ) (o : Option (Option ValueType)) → holds_by p locks rs u q o ≡ true → holds_by p (take_all tx birth ns locks) rs u q o ≡ true
taken_held p tx birth ns locks rs u q (Some x) e = all_keeps true p (At q) u tx birth ns locks e
taken_held p tx birth ns locks rs u q None e = all_keeps false p (lower_anchor q rs) u tx birth ns locks e

-- ---- the part

pub get_new : (tx : TxId) (birth : Birth) (parts : Table Held) (u : TxId) (h : Held) → tx_get tx parts ≡ None → tx_get u parts ≡ Some h → tx_get u (tx_put tx (active_part birth) parts) ≡ Some h
get_new tx birth parts u h none e =
    get_put tx u (active_part birth) parts
    ∙ ap (λ b. cond b (Some (active_part birth)) (tx_get u parts)) (tx_ne u tx (λ s. none_held h (sym none ∙ ap (λ z. tx_get z parts) (sym s) ∙ e))) ∙ e

pub part_keeps : (tx : TxId) (birth : Birth) (parts : Table Held) (u : TxId) (h : Held) (o : Option Held) → tx_get tx parts ≡ o → tx_get u parts ≡ Some h → tx_get u (new_part tx birth o parts) ≡ Some h
part_keeps tx birth parts u h None e f = get_new tx birth parts u h e f
part_keeps tx birth parts u h (Some x) e f = f

pub own_part : (tx : TxId) (birth : Birth) (parts : Table Held) → MayStand parts tx birth → (h : Held) × (tx_get tx (new_part tx birth (tx_get tx parts) parts) ≡ Some h) × (h.birth ≡ birth) × (h.stage ≡ Active)
own_part tx birth parts may =
    ⊎_elim
    (λ e. (active_part birth, ap (λ o. tx_get tx (new_part tx birth o parts)) e ∙ get_put tx tx (active_part birth) parts ∙ cond-true (tx_same tx tx) _ _ (tx_self tx), refl, refl))
    (λ m. (m.0, ap (λ o. tx_get tx (new_part tx birth o parts)) m.1 ∙ m.1, m.2, m.3)) may

pub fits_active : (s : Stage) → s ≡ Active → StageFits false s
fits_active s e = subst (StageFits false) (sym e) tt

-- a closed lock is not of an active part
pub not_active : (parts : Table Held) (u : TxId) (b : Birth) → Belongs parts u b true → stage_in parts u ≡ Some Active → ⊥
not_active parts u b (h, e, f, fit) a = at h.stage fit (same_Some h.stage Active (sym (ap stage_by e) ∙ a))
  where
    at : (s : Stage) → StageFits true s → s ≡ Active → ⊥
    at s fit e = subst (StageFits true) e fit

-- a lock of a part that is not active is closed
pub is_closed : (parts : Table Held) (u : TxId) (b : Birth) (c : Bool) → Belongs parts u b c → (stage_in parts u ≡ Some Active → ⊥) → c ≡ true
is_closed parts u b true h n = refl
is_closed parts u b false (h, e, f, fit) n = absurd (n (ap stage_by e ∙ at h.stage fit))
  where
    at : (s : Stage) → StageFits false s → Some s ≡ Some Active
    at Active fit = refl
    at Closed fit = absurd fit
    at (Gone d) fit = absurd fit

-- who has a closed lock is closed
pub closed_row : (parts : Table Held) (u : TxId) (b : Birth) → Belongs parts u b true → stage_in parts u ≡ Some Closed
closed_row parts u b (h, e, f, fit) = ap stage_by e ∙ at h.stage fit
  where
    at : (s : Stage) → StageFits true s → Some s ≡ Some Closed
    at Active fit = absurd fit
    at Closed fit = refl
    at (Gone d) fit = absurd fit

pub told_same : (op : Op) (rs : Records) → writes_of op (told (answer_of op rs)) ≡ writes_of op (value_at (key_of op) rs)
told_same (Get k) rs = refl
told_same (Put k v) rs = refl
told_same (Del k) rs = refl
told_same (Scan lo hi) rs = refl
told_same (ops.Add k n) rs = at (value_at k rs)
  where
    at : (v : Option ValueType) → writes_of (ops.Add k n) (told (Added (is_number v))) ≡ writes_of (ops.Add k n) v
    at None = refl
    at (Some (Num v)) = refl
    at (Some (Bytes b)) = refl

-- ---- parts that don't fit each other

-- one wrote and the other met, and not both add
pub wrote_met : (a b : Bool) → (a && b) ≡ false → part_compatible (met_part b) (wrote_part a) ≡ false
wrote_met true true e = absurd (both_ways true e refl)
wrote_met true false e = refl
wrote_met false true e = refl
wrote_met false false e = refl

-- one met and the other writes
pub met_wrote : (a b : Bool) → (a && b) ≡ false → part_compatible (wrote_part b) (met_part a) ≡ false
met_wrote true true e = absurd (both_ways true e refl)
met_wrote true false e = refl
met_wrote false true e = refl
met_wrote false false e = refl

-- a part of one who wrote is held as a write
pub wrote_holds : (b : Bool) → least I (wrote_part b) ≡ true
wrote_holds true = refl
wrote_holds false = refl

-- of a gap no part is held that adds
pub gap_fits : (p : Part) (o : Option (Option ValueType)) → (least S p ≡ false → o ≡ None → ⊥) → o ≡ None → least S p ≡ true
gap_fits p o stands none = at (least S p) refl
  where
    at : (b : Bool) → least S p ≡ b → b ≡ true
    at true e = refl
    at false e = absurd (stands e none)

-- whoever adds found a number, and so a record
pub number_there : (o : Option (Option ValueType)) → is_number (live_by o) ≡ true → o ≡ None → ⊥
number_there None n e = both_ways false refl n
number_there (Some v) n e = absurd cc

pub and_none : (b : Bool) → (b && false) ≡ false
and_none true = refl
and_none false = refl

-- whether an operation adds, by what it writes, and by its answer
pub adds_same : (op : Op) (b : Option ValueType) → adds_to op b ≡ adds_in (writes_of op b)
adds_same (Get k) b = refl
adds_same (Put k v) b = refl
adds_same (Del k) None = refl
adds_same (Del k) (Some v) = refl
adds_same (Scan lo hi) b = refl
adds_same (ops.Add k n) None = refl
adds_same (ops.Add k n) (Some (Num v)) = refl
adds_same (ops.Add k n) (Some (Bytes b)) = refl

pub adds_told : (op : Op) (rs : Records) → adds op (answer_of op rs) ≡ adds_to op (value_at (key_of op) rs)
adds_told (Get k) rs = refl
adds_told (Put k v) rs = refl
adds_told (Del k) rs = refl
adds_told (Scan lo hi) rs = refl
adds_told (ops.Add k n) rs = refl

-- of items that answer in turn
pub adds_by : (op : Op) (a : Answer) (m : KeyMap) → a ≡ op_answer op m → adds op a ≡ adds_in (writes_of op (told a))
adds_by (Get k) a m e = refl
adds_by (Put k v) a m e = refl
adds_by (Del k) a m e = at (told a)
  where
    at : (v : Option ValueType) → false ≡ adds_in (writes_of (Del k) v)
    at None = refl
    at (Some v) = refl
adds_by (Scan lo hi) a m e = refl
adds_by (ops.Add k n) a m e = subst (λ b. adds (ops.Add k n) b ≡ adds_in (writes_of (ops.Add k n) (told b))) (sym e) (at (is_number (map_get k m)))
  where
    at : (b : Bool) → adds (ops.Add k n) (Added b) ≡ adds_in (writes_of (ops.Add k n) (told (Added b)))
    at true = refl
    at false = refl

abbrev pub Tells : Item → Type 0
Tells y = adds y.op y.answer ≡ is_adding y

-- of operations that answered in turn
pub all_tell : (ds : List Deed) (m : KeyMap) → Acts m ds → AllByRecursion Tells (items_in ds)
all_tell ds m acts = from [] ds acts
  where
    from : (xs : List Item) (es : List Deed) → ActsFrom m xs es → AllByRecursion Tells (items_in es)
    from xs [] a = tt
    from xs (Did x ∷ es) a = (adds_by x.op x.answer (after m xs) a.0, from (xs ++ x ∷ []) es a.1)
    from xs (WentBack tx number upto ∷ es) a = from (filter (λ x. not (is_beyond tx upto x)) xs) es a.1

-- where it adds, a record stands
pub added_there : (op : Op) (rs : Records) (q : ℕ) → meets_key op q ≡ true → adds_to op (value_at (key_of op) rs) ≡ true → record_at q rs ≡ None → ⊥
added_there (Get k) rs q m a e = both_ways false refl a
added_there (Put k v) rs q m a e = both_ways false refl a
added_there (Del k) rs q m a e = both_ways false refl a
added_there (Scan lo hi) rs q m a e = both_ways false refl a
added_there (ops.Add k n) rs q m a e = number_there (record_at k rs) a (ap (λ j. record_at j rs) (eqb-true k q m) ∙ e)

-- an insert adds nothing
pub insert_sets : (rs : Records) (w : Written) (ins : Option ℕ) (q : ℕ) → Writing rs w ins → ins ≡ Some q → adds_in w ≡ false
insert_sets rs _ _ q nothing e = absurd (none-some q e)
insert_sets rs _ _ q (there k c x h) e = absurd (none-some q e)
insert_sets rs _ _ q (fresh k b a h) e = refl

-- what adds hears alone whether there is a number
pub number_tells : (op : Op) (rs : Records) (m : KeyMap) → adds_to op (value_at (key_of op) rs) ≡ true → is_number (value_at (key_of op) rs) ≡ is_number (map_get (key_of op) m) → answer_of op rs ≡ op_answer op m
number_tells (Get k) rs m a e = absurd (both_ways false refl a)
number_tells (Put k v) rs m a e = absurd (both_ways false refl a)
number_tells (Del k) rs m a e = absurd (both_ways false refl a)
number_tells (Scan lo hi) rs m a e = absurd (both_ways false refl a)
number_tells (ops.Add k n) rs m a e = ap Added e

pub adds_meets : (op : Op) (b : Option ValueType) → adds_to op b ≡ true → meets_key op (key_of op) ≡ true
adds_meets (Get k) b a = absurd (both_ways false refl a)
adds_meets (Put k v) b a = absurd (both_ways false refl a)
adds_meets (Del k) b a = absurd (both_ways false refl a)
adds_meets (Scan lo hi) b a = absurd (both_ways false refl a)
adds_meets (ops.Add k n) b a = eq-eqb k k refl

-- ADDs that are left out leave a number where there is one
pub number_changed : (c : Change) (a b : Option ValueType) → is_number a ≡ is_number b → is_number (changed c a) ≡ is_number (changed c b)
number_changed (Sets before after) a b e = refl
number_changed (Adds n) a b e = plus_is_number n a ∙ e ∙ sym (plus_is_number n b)

pub number_alive : (floor : KeyMap) (f : TxId → Bool) (q : ℕ) (ws : List StandingUpdate) → AllByRecursion (λ w. w.key ≡ q → is_setting w.change ≡ true → f w.tx ≡ true) ws
    → is_number (top_value floor q (filter (of_kept f) ws)) ≡ is_number (top_value floor q ws)
number_alive floor f q [] a = refl
number_alive floor f q (w ∷ ws) a = at (q == w.key) (f w.tx) refl refl (number_alive floor f q ws a.1)
  where
    added : (c : Change) → (is_setting c ≡ true → ⊥) → is_number (top_value floor q ws) ≡ is_number (changed c (top_value floor q ws))
    added (Sets before after) none = absurd (none refl)
    added (Adds n) none = sym (plus_is_number n (top_value floor q ws))

    at : (b c : Bool) → (q == w.key) ≡ b → f w.tx ≡ c → is_number (top_value floor q (filter (of_kept f) ws)) ≡ is_number (top_value floor q ws)
        → is_number (top_value floor q (cond c (w ∷ filter (of_kept f) ws) (filter (of_kept f) ws))) ≡ is_number (cond b (changed w.change (top_value floor q ws)) (top_value floor q ws))
    at true true e h ih = ap is_number (cond-true (q == w.key) _ _ e) ∙ number_changed w.change (top_value floor q (filter (of_kept f) ws)) (top_value floor q ws) ih
    at true false e h ih = ih ∙ added w.change (λ s. both_ways _ h (a.0 (sym (eqb-true q w.key e)) s))
    at false true e h ih = ap is_number (cond-false (q == w.key) _ _ e) ∙ ih
    at false false e h ih = ih
