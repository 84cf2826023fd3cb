-- What an operation needs covers the keys that it meets, and that it writes.
use Rattle.std.proofs.Common.{◌≡◌, ℕ, ⊎_elim, Bool, true, false, ◌&&◌, List, [], ◌∷◌, ◌++◌, map, Option, Some, None, ◌==◌, nat_le, refl, sym, subst, ◌∙◌, eqb-true, arith}
use Rattle.std.proofs.lemmas.Bool.{cases_Bool, both_ways, cond_both, cond-true, cond-false, or_cases, and_parts, and_from, leb-true, le-leb}
use Rattle.clv_base.specs.declared.values.Value.{Value as ValueType}
use Rattle.clv_base.specs.declared.ops.Op.{Op}
use Rattle.clv_base.specs.declared.ops.Op.TheVariants.{Get, Put, Del, Scan, Add}
use Rattle.clv_base.specs.declared.names.TxId.{TxId}
use Rattle.clv_base.specs.declared.modes.Part.{Part}
use Rattle.clv_base.specs.declared.modes.Part.TheVariants.{S, I, X}
use Rattle.clv_base.specs.declared.modes.Anchor.{Anchor}
use Rattle.clv_base.specs.declared.modes.Anchor.TheVariants.{Low, At}
use Rattle.clv_base.specs.declared.modes.Need.{Need}
use Rattle.clv_base.specs.Modes.{on_key, on_gap, on_both}
use Rattle.clv_base.specs.Locks.{Locks}
use Rattle.clv_base.specs.Orders.{anchor_same}
use Rattle.clv_base.specs.declared.values.Value.TheVariants.{Num, Bytes}
use Rattle.clv_base.specs.Maps.{is_number, lies_between}
use Rattle.clv_base.specs.Folding.{meets_key}
use Rattle.clv_base.specs.Needs.{Records, value_at, lower_anchor, records_between, need, found_at, found_by, gap_below, needs_by, needs_of, key_of, writes_of}
use Rattle.law_base.proofs.Cells.{record_at, live_by}
use Rattle.law_base.specs.Items.{is_write_at}
use Rattle.clv_base.proofs.SameNames.{or_left, or_right}
use Rattle.law_base.proofs.Anchors.{Rising, scan_below}
use Rattle.law_base.proofs.LockRows.{least, part_of, holds, asks, need_asks, anchor_self}

-- the part at the place of a key: of the record there, or of the gap in which it lies
abbrev pub asks_by : Part → List Need → Records → ℕ → Option (Option ValueType) → Bool
asks_by p ns rs k (Some v) = asks true p (At k) ns
asks_by p ns rs k None = asks false p (lower_anchor k rs) ns

abbrev pub asks_at : Part → List Need → Records → ℕ → Bool
asks_at p ns rs k = asks_by p ns rs k (record_at k rs)

abbrev pub holds_by : Part → Locks → Records → TxId → ℕ → Option (Option ValueType) → Bool
holds_by p locks rs tx k (Some v) = holds true p (At k) tx locks
holds_by p locks rs tx k None = holds false p (lower_anchor k rs) tx locks

abbrev pub holds_at : Part → Locks → Records → TxId → ℕ → Bool
holds_at p locks rs tx k = holds_by p locks rs tx k (record_at k rs)

-- the part that is asked for at a key that is met, and at one that is written, by whether it is added to
abbrev pub met_part : Bool → Part
met_part true = I
met_part false = S

abbrev pub wrote_part : Bool → Part
wrote_part true = I
wrote_part false = X

-- whether an operation adds, by the value at its key
abbrev pub adds_to : Op → Option ValueType → Bool
adds_to (Get k) b = false
adds_to (Put k v) b = false
adds_to (Del k) b = false
adds_to (Scan lo hi) b = false
adds_to (Add k n) b = is_number b

one_asks : (f : Bool) (p : Part) (n : Need) → least p (part_of f n.mode) ≡ true → asks f p n.anchor (n ∷ []) ≡ true
one_asks f p n h = or_left _ _ (and_from _ _ (anchor_self n.anchor) h)

-- a key alone
get_asks : (k : ℕ) (rs : Records) (o : Option (Option ValueType)) → asks_by S (needs_by (Get k) rs (found_by o)) rs k o ≡ true
get_asks k rs (Some None) = one_asks true S (need (At k) (on_key S)) refl
get_asks k rs (Some (Some v)) = one_asks true S (need (At k) (on_key S)) refl
get_asks k rs None = one_asks false S (need (lower_anchor k rs) (on_gap S)) refl

put_asks : (p : Part) (k : ℕ) (v : ValueType) (rs : Records) (o : Option (Option ValueType)) → least p X ≡ true → asks_by p (needs_by (Put k v) rs (found_by o)) rs k o ≡ true
put_asks p k v rs (Some None) h = one_asks true p (need (At k) (on_key X)) h
put_asks p k v rs (Some (Some w)) h = one_asks true p (need (At k) (on_key X)) h
put_asks p k v rs None h = one_asks false p (need (lower_anchor k rs) (on_gap X)) h

del_asks : (k : ℕ) (rs : Records) (o : Option (Option ValueType)) → asks_by S (needs_by (Del k) rs (found_by o)) rs k o ≡ true
del_asks k rs (Some (Some v)) = one_asks true S (need (At k) (on_key X)) refl
del_asks k rs (Some None) = one_asks true S (need (At k) (on_key S)) refl
del_asks k rs None = one_asks false S (need (lower_anchor k rs) (on_gap S)) refl

add_asks : (k n : ℕ) (rs : Records) (o : Option (Option ValueType)) → asks_by (met_part (is_number (live_by o))) (needs_by (Add k n) rs (found_by o)) rs k o ≡ true
add_asks k n rs (Some (Some (Num v))) = one_asks true I (need (At k) (on_key I)) refl
add_asks k n rs (Some (Some (Bytes b))) = one_asks true S (need (At k) (on_key S)) refl
add_asks k n rs (Some None) = one_asks true S (need (At k) (on_key S)) refl
add_asks k n rs None = one_asks false S (need (lower_anchor k rs) (on_gap S)) refl

-- the records of a scan
append_right : (f : Bool) (p : Part) (a : Anchor) (xs ys : List Need) → asks f p a ys ≡ true → asks f p a (xs ++ ys) ≡ true
append_right f p a [] ys e = e
append_right f p a (x ∷ xs) ys e = or_right (need_asks f p a x) _ (append_right f p a xs ys e)

append_left : (f : Bool) (p : Part) (a : Anchor) (xs ys : List Need) → asks f p a xs ≡ true → asks f p a (xs ++ ys) ≡ true
append_left f p a [] ys e = absurd (both_ways false refl e)
append_left f p a (x ∷ xs) ys e = ⊎_elim (λ t. or_left _ _ t) (λ t. or_right (need_asks f p a x) _ (append_left f p a xs ys t)) (or_cases (need_asks f p a x) (asks f p a xs) e)

both_part : (f : Bool) → least S (part_of f (on_both S)) ≡ true
both_part true = refl
both_part false = refl

absent_some : (v : Option ValueType) → ◌≡◌ {A = Option (Option ValueType)} None (Some v) → ⊥
absent_some v e = absurd cc

scan_record : (f : Bool) (lo hi k : ℕ) (v : Option ValueType) (rs : Records) → (nat_le lo k && nat_le k hi) ≡ true → record_at k rs ≡ Some v → asks f S (At k) (map (λ r. need (At r.0) (on_both S)) (records_between lo hi rs)) ≡ true
scan_record f lo hi k v [] within e = absurd (absent_some v e)
scan_record f lo hi k v (r ∷ rs) within e =
    ⊎_elim
    (λ t. let here : (nat_le lo r.0 && nat_le r.0 hi) ≡ true = subst (λ j. (nat_le lo j && nat_le j hi) ≡ true) (eqb-true k r.0 t) within in
    subst (λ l. asks f S (At k) (map (λ r. need (At r.0) (on_both S)) l) ≡ true) (sym (cond-true (nat_le lo r.0 && nat_le r.0 hi) (r ∷ records_between lo hi rs) (records_between lo hi rs) here))
    (or_left _ _ (and_from _ _ (subst (λ j. same_at k j ≡ true) (eqb-true k r.0 t) (anchor_self (At k))) (both_part f))))
    (λ t. let later : asks f S (At k) (map (λ r. need (At r.0) (on_both S)) (records_between lo hi rs)) ≡ true = scan_record f lo hi k v rs within (sym (cond-false (k == r.0) (Some r.1) (record_at k rs) t) ∙ e) in
    cond_both (nat_le lo r.0 && nat_le r.0 hi) (r ∷ records_between lo hi rs) (records_between lo hi rs) (λ l. asks f S (At k) (map (λ r. need (At r.0) (on_both S)) l) ≡ true)
    (λ s. or_right (need_asks f S (At k) (need (At r.0) (on_both S))) _ later) (λ s. later))
    (cases_Bool (k == r.0))
  where
    same_at : ℕ → ℕ → Bool
    same_at i j = anchor_same (At i) (At j)

scan_asks : (lo hi k : ℕ) (rs : Records) → Rising rs → lies_between lo hi k ≡ true → (o : Option (Option ValueType)) → record_at k rs ≡ o → asks_by S (needs_of (Scan lo hi) rs) rs k o ≡ true
scan_asks lo hi k rs h within (Some v) e = append_right true S (At k) (gap_below lo rs (found_at lo rs)) _ (scan_record true lo hi k v rs within e)
scan_asks lo hi k rs h within None e =
    ⊎_elim
    (λ s. append_left false S (lower_anchor k rs) (gap_below lo rs (found_at lo rs)) _
    (subst (λ o. asks false S (lower_anchor k rs) (gap_below lo rs (found_by o)) ≡ true) (sym s.1)
    (subst (λ a. asks false S a (gap_below lo rs (found_by None)) ≡ true) (sym s.0) (one_asks false S (need (lower_anchor lo rs) (on_gap S)) refl))))
    (λ s. append_right false S (lower_anchor k rs) (gap_below lo rs (found_at lo rs)) _
    (subst (λ a. asks false S a (map (λ r. need (At r.0) (on_both S)) (records_between lo hi rs)) ≡ true) (sym s.2)
    (scan_record false lo hi s.0 s.1 rs (and_from _ _ (le-leb lo s.0 s.4) (le-leb s.0 hi (let l = leb-true k hi (and_parts (nat_le lo k) (nat_le k hi) within).1 in let m = s.5 in omega arith))) s.3)))
    (scan_below lo k Low rs (leb-true lo k (and_parts (nat_le lo k) (nat_le k hi) within).0) h e)

-- each key that it meets
pub asks_met : (o : Op) (rs : Records) (k : ℕ) → Rising rs → meets_key o k ≡ true → asks_at (met_part (adds_to o (value_at (key_of o) rs))) (needs_of o rs) rs k ≡ true
asks_met (Get j) rs k h e = subst (λ i. asks_at S (needs_of (Get j) rs) rs i ≡ true) (eqb-true j k e) (get_asks j rs (record_at j rs))
asks_met (Put j v) rs k h e = subst (λ i. asks_at S (needs_of (Put j v) rs) rs i ≡ true) (eqb-true j k e) (put_asks S j v rs (record_at j rs) refl)
asks_met (Del j) rs k h e = subst (λ i. asks_at S (needs_of (Del j) rs) rs i ≡ true) (eqb-true j k e) (del_asks j rs (record_at j rs))
asks_met (Add j n) rs k h e = subst (λ i. asks_at (met_part (is_number (value_at j rs))) (needs_of (Add j n) rs) rs i ≡ true) (eqb-true j k e) (add_asks j n rs (record_at j rs))
asks_met (Scan lo hi) rs k h e = scan_asks lo hi k rs h e (record_at k rs) refl

del_writes : (j : ℕ) (rs : Records) (o : Option (Option ValueType)) → is_write_at (writes_of (Del j) (live_by o)) j ≡ true → asks_by X (needs_by (Del j) rs (found_by o)) rs j o ≡ true
del_writes j rs (Some (Some v)) e = one_asks true X (need (At j) (on_key X)) refl
del_writes j rs (Some None) e = absurd (both_ways false refl e)
del_writes j rs None e = absurd (both_ways false refl e)

add_writes : (j n : ℕ) (rs : Records) (o : Option (Option ValueType)) → is_write_at (writes_of (Add j n) (live_by o)) j ≡ true → asks_by (wrote_part (is_number (live_by o))) (needs_by (Add j n) rs (found_by o)) rs j o ≡ true
add_writes j n rs (Some (Some (Num v))) e = one_asks true I (need (At j) (on_key I)) refl
add_writes j n rs (Some (Some (Bytes b))) e = absurd (both_ways false refl e)
add_writes j n rs (Some None) e = absurd (both_ways false refl e)
add_writes j n rs None e = absurd (both_ways false refl e)

written_key : (o : Op) (b : Option ValueType) (k : ℕ) → is_write_at (writes_of o b) k ≡ true → k ≡ key_of o
written_key (Get j) b k e = absurd (both_ways false refl e)
written_key (Put j v) b k e = eqb-true k j e
written_key (Del j) (Some v) k e = eqb-true k j e
written_key (Del j) None k e = absurd (both_ways false refl e)
written_key (Scan lo hi) b k e = absurd (both_ways false refl e)
written_key (Add j n) (Some (Num v)) k e = eqb-true k j e
written_key (Add j n) (Some (Bytes b)) k e = absurd (both_ways false refl e)
written_key (Add j n) None k e = absurd (both_ways false refl e)

writes_here : (o : Op) (rs : Records) → is_write_at (writes_of o (value_at (key_of o) rs)) (key_of o) ≡ true → asks_at (wrote_part (adds_to o (value_at (key_of o) rs))) (needs_of o rs) rs (key_of o) ≡ true
writes_here (Get j) rs e = absurd (both_ways false refl e)
writes_here (Put j v) rs e = put_asks X j v rs (record_at j rs) refl
writes_here (Del j) rs e = del_writes j rs (record_at j rs) e
writes_here (Scan lo hi) rs e = absurd (both_ways false refl e)
writes_here (Add j n) rs e = add_writes j n rs (record_at j rs) e

-- and that it writes
pub asks_written : (o : Op) (rs : Records) (k : ℕ) → is_write_at (writes_of o (value_at (key_of o) rs)) k ≡ true → asks_at (wrote_part (adds_to o (value_at (key_of o) rs))) (needs_of o rs) rs k ≡ true
asks_written o rs k e =
    let same : k ≡ key_of o = written_key o (value_at (key_of o) rs) k e in
    subst (λ i. asks_at (wrote_part (adds_to o (value_at (key_of o) rs))) (needs_of o rs) rs i ≡ true) (sym same) (writes_here o rs (subst (λ i. is_write_at (writes_of o (value_at (key_of o) rs)) i ≡ true) same e))
