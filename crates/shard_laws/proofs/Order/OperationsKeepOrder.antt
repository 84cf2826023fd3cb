-- A granted operation keeps the order rules: its UPDATE may follow, and what lies under it is done or of a predecessor.
use Rattle.std.proofs.Common.{◌≡◌, arith, ◌⊎◌, inl, inr, ⊎_elim, refl, sym, ap, subst, ◌∙◌, ℕ, ◌+◌, Bool, true, false, not, ◌&&◌, ◌||◌, List, [], ◌∷◌, ◌++◌, length, Option, Some, None, is_some, ◌==◌, eqb-true, eq-eqb}
use Rattle.std.specs.List.{AllByRecursion, filter}
use Rattle.std.proofs.lemmas.Bool.{cases_Bool, both_ways, and_parts, and_from, or_from, false_from_ne_true}
use Rattle.clv_base.specs.declared.values.Value.{Value as ValueType}
use Rattle.clv_base.specs.declared.values.Value.TheVariants.{Num, Bytes}
use Rattle.clv_base.specs.declared.names.TxId.{TxId}
use Rattle.clv_base.specs.declared.names.Birth.{Birth}
use Rattle.clv_base.specs.declared.logs.LogRecord.{LogRecord}
use Rattle.clv_base.specs.declared.logs.LogRecord.TheVariants.{Update, Add}
use Rattle.clv_base.specs.declared.modes.Anchor.TheVariants.{At}
use Rattle.clv_base.specs.declared.modes.Need.{Need}
use Rattle.clv_base.specs.declared.modes.Decision.TheVariants.{Grant}
use Rattle.clv_base.specs.declared.ops.Op.{Op}
use Rattle.clv_base.specs.declared.ops.Op.TheVariants as ops
use Rattle.clv_base.specs.declared.ops.Op.TheVariants.{Get, Put, Del, Scan}
use Rattle.clv_base.specs.declared.state.Stage.{Stage}
use Rattle.clv_base.specs.declared.state.Stage.TheVariants.{Active, Closed}
use Rattle.clv_base.specs.declared.state.Held.{Held}
use Rattle.clv_base.specs.Orders.{Table, tx_same, tx_in, tx_get}
use Rattle.clv_base.specs.State.{is_present}
use Rattle.clv_base.specs.Locks.{decide, violated}
use Rattle.clv_base.specs.declared.changes.Change.TheVariants.{Sets, Adds}
use Rattle.clv_base.specs.declared.changes.Change.{Change}
use Rattle.clv_base.specs.Logs.{StandingUpdate, is_setting, standing, standing_after, committed_in, prepared_in, aborted_in, wrote_in, has_standing, value_in, is_abort_of}
use Rattle.clv_base.specs.Values.{same_optional_value}
use Rattle.clv_base.specs.Modes.{part_compatible}
use Rattle.clv_base.specs.Maps.{is_number}
use Rattle.clv_base.specs.LogRules.{may_follow, may_write, may_set, may_add, may_cover, before_restart}
use Rattle.law_base.proofs.Options.{optional_value_self}
use Rattle.clv_base.specs.Needs.{needs_of, value_at, key_of, writes_of}
use Rattle.clv_base.specs.OneShard.{update_of, new_part, add_pairs}
use Rattle.clv_base.proofs.SameNames.{or_left, or_right, tx_true, tx_eq, tx_ne, cases_tx}
use Rattle.law_base.specs.Items.{is_write_at}
use Rattle.law_base.proofs.Cells.{record_at}
use Rattle.law_base.proofs.Lists.{all_mono, all_both}
use Rattle.law_base.proofs.Standing.{standing_append, all_stand, stood_before}
use Rattle.law_base.proofs.Sets.{in_filter, filter_in}
use Rattle.law_base.proofs.Tables.{stage_in, stage_by, is_pair, insert_from, add_keeps, add_has}
use Rattle.law_base.proofs.Commits.{commit_durable, durable_committed, committed_keeps}
use Rattle.protocol_laws.proofs.LogsInOrder.OneRecordMore.{push_cases}
use Rattle.protocol_laws.proofs.LogsInOrder.{Order}
use Rattle.law_base.proofs.LockRows.{conflict, violates, violated_row, holds, asks}
use Rattle.shard_laws.proofs.Operations.NeedsCoverKeys.{wrote_part, asks_by, asks_at, asks_written}
use Rattle.shard_laws.proofs.Keeping.WhatOneShardKeeps.{adds_in, part_for, View, Past, Belongs, Kept, begins}
use Rattle.shard_laws.proofs.Keeping.ChangesKeepPrepared.{prepared_append}
use Rattle.shard_laws.proofs.Keeping.GrantingKeeps.{Written, log_by, adds_same, wrote_holds, own_part, not_active, is_closed, closed_row}
use Rattle.law_base.proofs.Stages.{other_part, closed_not_active}
use Rattle.shard_laws.proofs.Order.RecordByRecord.{last_push, before_push, greatest_plain}
use Rattle.shard_laws.proofs.Order.WhoIsListed.{named_more, old_more}
use Rattle.law_base.proofs.Parts.{in_order_more}
use Rattle.shard_laws.proofs.Order.WhoseWritesStand.{has_still}
use Rattle.shard_laws.proofs.Order.ChangesKeepOrder.{LiesOn, Under, Lying, Ordered, listed_same, under_more}
use Rattle.law_base.proofs.Names.{MayStand}
use Rattle.law_base.proofs.Running.{top_value}

-- ---- an UPDATE or ADD of an active part

pub ordered_update : (shard run : ℕ) (parts : Table Held) (pairs : List (TxId × TxId)) (log : List LogRecord) (t : TxId) (key : ℕ) (change : Change) → Ordered shard run parts pairs log → may_follow shard log (update_of t key change) ≡ true
    → stage_in parts t ≡ Some Active → Ordered shard run parts pairs (log ++ update_of t key change ∷ [])
ordered_update shard run parts pairs log t key (Sets before after) o m act = record {
  in_order = in_order_more shard log (Update t key before after ∷ []) o.in_order (m, tt);
  named = named_more run log (Update t key before after ∷ []) (λ u. refl) o.named;
  old = old_more shard run log (Update t key before after ∷ []) o.in_order (m, tt) o.old;
  last = ((o.last).0, last_push log (Update t key before after) tt ∙ (o.last).1);
  latest = greatest_plain log (Update t key before after) run tt o.latest;
  of_run = o.of_run;
  new = λ u a. ap (λ l. wrote_in l u) (before_push [] log (Update t key before after) tt) ∙ o.new u a;
  unaborted = λ u p. false_from_ne_true _ (λ e. ⊎_elim (λ a. both_ways _ (o.unaborted u p) a) (λ a. both_ways false refl a) (push_cases (is_abort_of u) log (Update t key before after) e));
  decided = λ u c w. ⊎_elim (λ p. inl (prepared_append log (Update t key before after ∷ []) u ∙ or_left _ _ p)) (λ k. inr (committed_keeps log (Update t key before after ∷ []) u k))
      (o.decided u c (stood_before log (Update t key before after ∷ []) u (or_from _ false (tx_ne u t (λ s. closed_not_active (sym c ∙ ap (stage_in parts) s ∙ act))) refl) w));
  others = λ u p e. let q = o.others u p e in (q.0, ⊎_elim (λ c. inl (committed_keeps log (Update t key before after ∷ []) p c)) (λ c. inr (c.0, has_still log (Update t key before after ∷ []) p refl c.1)) q.1);
  lists = λ u p c i. ⊎_elim (λ k. inl (committed_keeps log (Update t key before after ∷ []) p k)) (λ e. inr e) (o.lists u p c (ap (tx_in p) (sym (listed_same log (Update t key before after ∷ []) u refl)) ∙ i));
}
ordered_update shard run parts pairs log t key (Adds by) o m act = record {
  in_order = in_order_more shard log (Add t key by ∷ []) o.in_order (m, tt);
  named = named_more run log (Add t key by ∷ []) (λ u. refl) o.named;
  old = old_more shard run log (Add t key by ∷ []) o.in_order (m, tt) o.old;
  last = ((o.last).0, last_push log (Add t key by) tt ∙ (o.last).1);
  latest = greatest_plain log (Add t key by) run tt o.latest;
  of_run = o.of_run;
  new = λ u a. ap (λ l. wrote_in l u) (before_push [] log (Add t key by) tt) ∙ o.new u a;
  unaborted = λ u p. false_from_ne_true _ (λ e. ⊎_elim (λ a. both_ways _ (o.unaborted u p) a) (λ a. both_ways false refl a) (push_cases (is_abort_of u) log (Add t key by) e));
  decided = λ u c w. ⊎_elim (λ p. inl (prepared_append log (Add t key by ∷ []) u ∙ or_left _ _ p)) (λ k. inr (committed_keeps log (Add t key by ∷ []) u k))
      (o.decided u c (stood_before log (Add t key by ∷ []) u (or_from _ false (tx_ne u t (λ s. closed_not_active (sym c ∙ ap (stage_in parts) s ∙ act))) refl) w));
  others = λ u p e. let q = o.others u p e in (q.0, ⊎_elim (λ c. inl (committed_keeps log (Add t key by ∷ []) p c)) (λ c. inr (c.0, has_still log (Add t key by ∷ []) p refl c.1)) q.1);
  lists = λ u p c i. ⊎_elim (λ k. inl (committed_keeps log (Add t key by ∷ []) p k)) (λ e. inr e) (o.lists u p c (ap (tx_in p) (sym (listed_same log (Add t key by ∷ []) u refl)) ∙ i));
}

-- ---- a new part, and more pairs

pub add_which : (tx : TxId) (ps : List TxId) (pairs : List (TxId × TxId)) (t p : TxId) → is_pair (add_pairs tx ps pairs) t p ≡ true → (is_pair pairs t p ≡ true) ⊎ ((t ≡ tx) × (tx_in p ps ≡ true))
add_which tx [] pairs t p e = inl e
add_which tx (q ∷ qs) pairs t p e =
    ⊎_elim
    (λ h. ⊎_elim (λ i. inl i) (λ i. let m = and_parts (tx_same t tx) (tx_same p q) i in inr (tx_true t tx m.0, or_left _ _ (tx_eq q p (sym (tx_true p q m.1))))) (insert_from pairs (tx, q) t p h))
    (λ h. inr (h.0, or_right (tx_same q p) _ h.1))
    (add_which tx qs _ t p e)

pub ordered_new : (shard run : ℕ) (parts parts2 : Table Held) (pairs : List (TxId × TxId)) (log : List LogRecord) (t : TxId) (vs : List TxId) → Ordered shard run parts pairs log
    → (stage_in parts2 t ≡ Some Active) → ((u : TxId) → (u ≡ t → ⊥) → stage_in parts2 u ≡ stage_in parts u) → (stage_in parts t ≡ Some Closed → ⊥) → t.run ≡ run → wrote_in (before_restart [] log) t ≡ false → aborted_in log t ≡ false
    → ((p : TxId) → tx_in p vs ≡ true → (t ≡ p → ⊥) × ((stage_in parts p ≡ Some Closed) × (has_standing log p ≡ true))) → Ordered shard run parts2 (add_pairs t vs pairs) log
ordered_new shard run parts parts2 pairs log t vs o own same was run_is unwritten unaborted viol = record {
  in_order = o.in_order;
  named = o.named;
  old = o.old;
  last = o.last;
  latest = o.latest;
  of_run = λ u a. ⊎_elim (λ e. ap (λ z. z.run) e ∙ run_is) (λ ne. o.of_run u (sym (same u ne) ∙ a)) (cases_tx u t);
  new = λ u a. ⊎_elim (λ e. ap (λ z. wrote_in (before_restart [] log) z) e ∙ unwritten) (λ ne. o.new u (sym (same u ne) ∙ a)) (cases_tx u t);
  unaborted = λ u p. ⊎_elim (λ e. ap (aborted_in log) e ∙ unaborted) (λ ne. o.unaborted u (ap is_present (sym (same u ne)) ∙ p)) (cases_tx u t);
  decided = λ u c w. o.decided u (back u c) w;
  others = λ u p e.
      ⊎_elim
      (λ old. let q = o.others u p old in (q.0, ⊎_elim (λ c. inl c) (λ c. inr (still p c.0, c.1)) q.1))
      (λ n. let q = viol p n.1 in ((λ s. q.0 (sym n.0 ∙ s)), inr (still p q.1.0, q.1.1)))
      (add_which t vs pairs u p e);
  lists = λ u p c i. ⊎_elim (λ k. inl k) (λ e. inr (add_keeps t vs pairs u p e)) (o.lists u p (back u c) i);
}
  where
    back : (u : TxId) → stage_in parts2 u ≡ Some Closed → stage_in parts u ≡ Some Closed
    back u c = ⊎_elim (λ e. absurd (closed_not_active (sym c ∙ ap (stage_in parts2) e ∙ own))) (λ ne. sym (same u ne) ∙ c) (cases_tx u t)

    still : (p : TxId) → stage_in parts p ≡ Some Closed → stage_in parts2 p ≡ Some Closed
    still p c = same p (λ e. was (ap (stage_in parts) (sym e) ∙ c)) ∙ c

-- ---- what an operation writes

-- a change by what stood before: an UPDATE names it, an ADD finds a number
abbrev FitsChange : Change → Option ValueType → Type 0
FitsChange (Sets before after) b = (before ≡ b) × ((is_some before || is_some after) ≡ true)
FitsChange (Adds n) b = is_number b ≡ true

same_write : (x w : ℕ × Change) → Some x ≡ Some w → x ≡ w
same_write x w e = cc

change_is : (op : Op) (b : Option ValueType) (w : ℕ × Change) → writes_of op b ≡ Some w → (w.0 ≡ key_of op) × FitsChange w.1 b
change_is (Get k) b w e = absurd cc
change_is (Put k v) b w e = subst (λ z. (z.0 ≡ k) × FitsChange z.1 b) (same_write (k, Sets b (Some v)) w e) (refl, (refl, or_right (is_some b) _ refl))
change_is (Del k) None w e = absurd cc
change_is (Del k) (Some x) w e = subst (λ z. (z.0 ≡ k) × FitsChange z.1 (Some x)) (same_write (k, Sets (Some x) None) w e) (refl, (refl, refl))
change_is (Scan lo hi) b w e = absurd cc
change_is (ops.Add k n) None w e = absurd cc
change_is (ops.Add k n) (Some (Num v)) w e = subst (λ z. (z.0 ≡ k) × FitsChange z.1 (Some (Num v))) (same_write (k, Adds n) w e) (refl, refl)
change_is (ops.Add k n) (Some (Bytes b)) w e = absurd cc

-- two parts of those who write fit where both add alone
wrote_wrote : (a b : Bool) → (a && b) ≡ false → part_compatible (wrote_part b) (wrote_part a) ≡ false
wrote_wrote true true e = absurd (both_ways true e refl)
wrote_wrote true false e = refl
wrote_wrote false true e = refl
wrote_wrote false false e = refl

and_none : (b : Bool) → (b && false) ≡ false
and_none true = refl
and_none false = refl

same_self : (a b : Option ValueType) → a ≡ b → same_optional_value a b ≡ true
same_self a b e = subst (λ z. same_optional_value a z ≡ true) e (optional_value_self a)

stands_then : (n : ℕ) (tx : TxId) (key : ℕ) (c : Change) (ws : List StandingUpdate) → standing_after n (update_of tx key c) ws ≡ record { lsn = n; tx = tx; key = key; change = c } ∷ ws
stands_then n tx key (Sets before after) ws = refl
stands_then n tx key (Adds by) ws = refl

-- where one of two sets, not both add
not_both : (a b : Bool) → (a || b) ≡ true → (not a && not b) ≡ false
not_both true b e = refl
not_both false true e = refl
not_both false false e = absurd (both_ways false refl e)

-- ---- all of it

module _ (shard run : ℕ) (g : Past) (v : View) (tx : TxId) (birth : Birth) (op : Op) (k : Kept g v) (o : Ordered shard run v.parts v.pairs v.log) (l : Lying v.pairs v.log) (order : Order shard v.log)
    (grant : decide tx birth (needs_of op v.records) v.locks ≡ Grant) (may : MayStand v.parts tx birth) (run_is : tx.run ≡ run) (open_ : committed_in v.log tx ≡ false) (unprepared : prepared_in v.log tx ≡ false) (unaborted : aborted_in v.log tx ≡ false)
    (unwritten : wrote_in (before_restart [] v.log) tx ≡ false) where
  abbrev needs : List Need
  needs = needs_of op v.records

  abbrev change : Written
  change = writes_of op (value_at (key_of op) v.records)

  abbrev adding : Bool
  adding = adds_in change

  abbrev parts_after : Table Held
  parts_after = new_part tx birth (tx_get tx v.parts) v.parts

  -- whose writes are violated, of which some stand
  abbrev met : List TxId
  met = filter (has_standing v.log) (violated tx needs v.locks)

  abbrev pairs_after : List (TxId × TxId)
  pairs_after = add_pairs tx met v.pairs

  stage_own : stage_in parts_after tx ≡ Some Active
  stage_own = let h = own_part tx birth v.parts may in ap stage_by h.1 ∙ ap Some h.3

  stage_same : (u : TxId) → (u ≡ tx → ⊥) → stage_in parts_after u ≡ stage_in v.parts u
  stage_same u ne = ap stage_by (other_part tx birth v.parts u (tx_get tx v.parts) (tx_ne u tx ne))

  not_closed : stage_in v.parts tx ≡ Some Closed → ⊥
  not_closed e = ⊎_elim (λ none. none_stage (sym (ap stage_by none) ∙ e)) (λ m. closed_not_active (sym e ∙ ap stage_by m.1 ∙ ap Some m.3)) may
    where
      none_stage : ◌≡◌ {A = Option Stage} None (Some Closed) → ⊥
      none_stage e = absurd cc

  -- each is closed
  met_closed : (p : TxId) → tx_in p met ≡ true → (tx ≡ p → ⊥) × ((stage_in v.parts p ≡ Some Closed) × (has_standing v.log p ≡ true))
  met_closed p i =
      let f = in_filter (has_standing v.log) p (violated tx needs v.locks) i in
      let r = violated_row (Belongs v.parts) tx p needs v.locks k.rows f.0 in
      let c = closed_row v.parts p r.0 r.1 in
      ((λ s. not_closed (ap (stage_in v.parts) s ∙ c)), (c, f.1))

  abbrev Held_write : StandingUpdate → Type 0
  Held_write w = commit_durable v.log v.durable w.tx ≡ false → (holds true (part_for w.change) (At w.key) w.tx v.locks ≡ true) × (record_at w.key v.records ≡ None → ⊥)

  -- another's write of the key that is written is committed, or violated; but both may add
  write_met : (w : StandingUpdate) → Held_write w × (has_standing v.log w.tx ≡ true) → is_write_at change w.key ≡ true → (not (is_setting w.change) && adding) ≡ false
      → (w.tx ≡ tx) ⊎ ((committed_in v.log w.tx ≡ true) ⊎ (tx_in w.tx met ≡ true))
  write_met w h e apart =
      ⊎_elim (λ s. inl s)
      (λ ne. inr (⊎_elim (λ d. inl (durable_committed v.log v.durable w.tx d))
      (λ out. let held = h.0 out in inr (filter_in (has_standing v.log) w.tx (violated tx needs v.locks) (violates_here ne held.0 held.1) h.1))
      (cases_Bool (commit_durable v.log v.durable w.tx))))
      (cases_tx w.tx tx)
    where
      asked : (q : Option (Option ValueType)) → (q ≡ None → ⊥) → asks_by (wrote_part adding) needs v.records w.key q ≡ true → asks true (wrote_part adding) (At w.key) needs ≡ true
      asked (Some x) n e = e
      asked None n e = absurd (n refl)

      violates_here : (w.tx ≡ tx → ⊥) → holds true (part_for w.change) (At w.key) w.tx v.locks ≡ true → (record_at w.key v.records ≡ None → ⊥) → tx_in w.tx (violated tx needs v.locks) ≡ true
      violates_here ne held there =
          let needed = subst (λ b. asks_at (wrote_part b) needs v.records w.key ≡ true) (adds_same op (value_at (key_of op) v.records)) (asks_written op v.records w.key e) in
          let a : asks true (wrote_part adding) (At w.key) needs ≡ true = asked (record_at w.key v.records) there needed in
          let clash = wrote_wrote (not (is_setting w.change)) adding apart in
          let c = conflict (Belongs v.parts) tx w.tx birth true (part_for w.change) (wrote_part adding) (At w.key) needs v.locks k.rows grant held a clash (λ s. ne (sym s)) in
          violates (Belongs v.parts) tx w.tx true (part_for w.change) (wrote_part adding) (At w.key) needs v.locks k.rows
          (λ b d z. is_closed v.parts w.tx b d z (λ active. not_active v.parts w.tx c.0 c.1 active)) (wrote_holds (not (is_setting w.change))) held a clash (λ s. ne (sym s))

  lies_new : (w : StandingUpdate) → Held_write w × (has_standing v.log w.tx ≡ true) → is_write_at change w.key ≡ true → (not (is_setting w.change) && adding) ≡ false → LiesOn pairs_after (committed_in v.log) tx w.tx
  lies_new w h e apart = ⊎_elim (λ s. inl s) (λ m. inr (⊎_elim (λ c. inl c) (λ i. inr (add_has tx met v.pairs w.tx i)) m)) (write_met w h e apart)

  -- so it may be covered
  covers : (u : StandingUpdate) → Held_write u × (has_standing v.log u.tx ≡ true) → is_write_at change u.key ≡ true → (not (is_setting u.change) && adding) ≡ false → may_cover v.log tx u ≡ true
  covers u f w apart =
      ⊎_elim (λ s. or_left _ _ (tx_eq tx u.tx (sym s)))
      (λ m. or_right (tx_same tx u.tx) _ (⊎_elim
      (λ c. and_from _ _ (or_right (prepared_in v.log u.tx) _ c) (ap not (order.apart u.tx c)))
      (λ i. let x = met_closed u.tx i in
      and_from _ _ (⊎_elim (λ p. or_left _ _ p) (λ c. or_right (prepared_in v.log u.tx) _ c) (o.decided u.tx x.1.0 x.1.1)) (ap not (o.unaborted u.tx (ap is_present x.1.0)))) m))
      (write_met u f w apart)

  abbrev AllHeld : List StandingUpdate → Type 0
  AllHeld ws = AllByRecursion (λ z. Held_write z × (has_standing v.log z.tx ≡ true)) ws

  all_set : (q : ℕ) (ws : List StandingUpdate) → AllHeld ws → is_write_at change q ≡ true → adding ≡ false → may_set v.log tx q ws ≡ true
  all_set q [] a w sets = refl
  all_set q (u ∷ us) a w sets =
      and_from _ _
      (⊎_elim
      (λ e. or_right (not (q == u.key)) _ (covers u a.0 (subst (λ z. is_write_at change z ≡ true) (eqb-true q u.key e) w) (ap (λ b. not (is_setting u.change) && b) sets ∙ and_none (not (is_setting u.change)))))
      (λ e. or_left _ _ (ap not e)) (cases_Bool (q == u.key)))
      (all_set q us a.1 w sets)

  all_add : (q : ℕ) (ws : List StandingUpdate) → AllHeld ws → is_write_at change q ≡ true → may_add v.log tx q ws ≡ true
  all_add q [] a w = refl
  all_add q (u ∷ us) a w =
      and_from _ _
      (⊎_elim
      (λ e. ⊎_elim
      (λ s. or_right (not (q == u.key) || not (is_setting u.change)) _ (covers u a.0 (subst (λ z. is_write_at change z ≡ true) (eqb-true q u.key e) w) (ap (λ b. not b && adding) s)))
      (λ s. or_left _ _ (or_right (not (q == u.key)) _ (ap not s))) (cases_Bool (is_setting u.change)))
      (λ e. or_left _ _ (or_left _ _ (ap not e))) (cases_Bool (q == u.key)))
      (all_add q us a.1 w)

  held_all : AllHeld (standing v.log)
  held_all = all_both _ _ (standing v.log) k.wrote (all_stand v.log)

  writes_now : may_write v.log tx ≡ true
  writes_now =
      and_from _ _ (and_from _ _ (and_from _ _ (and_from _ _
      (and_from _ _ (ap (λ z. elim z [ Some p ↦ tx.run == p.0 | None ↦ false ]) (o.last).1 ∙ eq-eqb tx.run run run_is) (ap not (false_from_ne_true _ (λ i. ⊎_elim (λ p. both_ways _ unprepared p) (λ l. omega (arith, run_is, l)) (o.named tx i))))) (ap not unprepared)) (ap not open_)) (ap not unaborted)) (ap not unwritten)

  value_now : (key : ℕ) → key ≡ key_of op → value_at (key_of op) v.records ≡ value_in v.log key
  value_now key is = ap (λ q. value_at q v.records) (sym is) ∙ k.values key ∙ ap (λ base. top_value base key (standing v.log)) (sym (begins g v k))

  follows : (key : ℕ) (c : Change) → key ≡ key_of op → FitsChange c (value_at (key_of op) v.records) → change ≡ Some (key, c) → may_follow shard v.log (update_of tx key c) ≡ true
  follows key (Sets before after) is fits e =
      and_from _ _ (and_from _ _ (and_from _ _ writes_now (same_self before (value_in v.log key) (fits.0 ∙ value_now key is))) fits.1)
      (all_set key (standing v.log) held_all (ap (λ z. is_write_at z key) e ∙ eq-eqb key key refl) (ap adds_in e))
  follows key (Adds n) is fits e =
      and_from _ _ (and_from _ _ writes_now (ap is_number (sym (value_now key is)) ∙ fits)) (all_add key (standing v.log) held_all (ap (λ z. is_write_at z key) e ∙ eq-eqb key key refl))

  update_follows : (w : ℕ × Change) → change ≡ Some w → may_follow shard v.log (update_of tx w.0 w.1) ≡ true
  update_follows w e = let c = change_is op (value_at (key_of op) v.records) w e in follows w.0 w.1 c.0 c.1 e

  new_ordered : Ordered shard run parts_after pairs_after v.log
  new_ordered = ordered_new shard run v.parts parts_after v.pairs v.log tx met o stage_own stage_same not_closed run_is unwritten unaborted met_closed

  ordered_by : (w : Written) → change ≡ w → Ordered shard run parts_after pairs_after (log_by tx w v.log)
  ordered_by None e = new_ordered
  ordered_by (Some w) e = ordered_update shard run parts_after pairs_after v.log tx w.0 w.1 new_ordered (update_follows w e) stage_own

  pub ordered_performed : Ordered shard run parts_after pairs_after (log_by tx change v.log)
  ordered_performed = ordered_by change refl

  under_old : (ws : List StandingUpdate) → Under v.pairs (committed_in v.log) ws → Under pairs_after (committed_in v.log) ws
  under_old [] u = tt
  under_old (w ∷ ws) u = (all_mono _ _ (λ z h e q. ⊎_elim (λ s. inl s) (λ m. inr (⊎_elim (λ c. inl c) (λ i. inr (add_keeps tx met v.pairs w.tx z.tx i)) m)) (h e q)) ws u.0, under_old ws u.1)

  under_by : (w : Written) → change ≡ w → Under pairs_after (committed_in (log_by tx w v.log)) (standing (log_by tx w v.log))
  under_by None e = under_old (standing v.log) l
  under_by (Some w) e =
      subst (Under pairs_after (committed_in (v.log ++ update_of tx w.0 w.1 ∷ []))) (sym (standing_append 0 v.log (update_of tx w.0 w.1 ∷ []) [] ∙ stands_then (0 + length v.log) tx w.0 w.1 (standing v.log)))
      (under_more pairs_after (committed_in v.log) (committed_in (v.log ++ update_of tx w.0 w.1 ∷ [])) (record { lsn = 0 + length v.log; tx = tx; key = w.0; change = w.1 } ∷ standing v.log)
      (λ t c. committed_keeps v.log (update_of tx w.0 w.1 ∷ []) t c) (
        all_mono _ _ (λ z h q s. lies_new z h (ap (λ y. is_write_at y z.key) e ∙ eq-eqb z.key w.0 q) (ap (λ b. not (is_setting z.change) && b) (ap adds_in e) ∙ not_both (is_setting z.change) (is_setting w.1) s)) (standing v.log) held_all,
        under_old (standing v.log) l,
      ))

  pub lying_performed : Lying pairs_after (log_by tx change v.log)
  lying_performed = under_by change refl
