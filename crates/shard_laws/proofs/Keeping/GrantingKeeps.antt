-- A granted operation keeps what a shard keeps.
use Rattle.std.proofs.Common.{◌≡◌, ◌+◌, ◌<◌, ◌⊎◌, inl, inr, Bool, true, false, cond, not, ◌&&◌, List, [], ◌∷◌, ◌++◌, map, length, Option, Some, None, ◌==◌, refl, sym, ap, subst, ◌∙◌, arith, eqb-true, eq-eqb, ◌≤◌, ℕ, ⊎_elim}
use Rattle.std.specs.Prelude.{take}
use Rattle.std.proofs.lemmas.Bool.{cases_Bool, both_ways, cond-true, cond-false, or_cases, and_parts, not-true, false_from_ne_true, or_from}
use Rattle.std.specs.List.{AllByRecursion, filter, list_any}
use Rattle.clv_base.specs.Needs.{live_pairs}
use Rattle.law_base.specs.Items.{AllLater, Deed, Did, held}
use Rattle.law_base.specs.Undone.{stays_of}
use Rattle.clv_base.specs.Maps.{op_answer, is_number}
use Rattle.clv_base.specs.Folding.{adds}
use Rattle.shard_laws.proofs.Keeping.LeavingKeeps.{one_in, none_two, top_alive, filter_less}
use Rattle.clv_base.specs.declared.values.Value.{Value as ValueType}
use Rattle.clv_base.specs.declared.names.TxId.{TxId}
use Rattle.clv_base.specs.declared.names.Birth.{Birth}
use Rattle.clv_base.specs.declared.logs.LogRecord.TheVariants.{Update, Add}
use Rattle.clv_base.specs.declared.modes.Part.{Part}
use Rattle.clv_base.specs.declared.modes.Part.TheVariants.{S}
use Rattle.clv_base.specs.declared.modes.Anchor.TheVariants.{At}
use Rattle.clv_base.specs.declared.state.Stage.{Stage}
use Rattle.clv_base.specs.declared.state.Stage.TheVariants.{Active, Closed, Gone}
use Rattle.clv_base.specs.declared.state.Held.{Held}
use Rattle.clv_base.specs.Orders.{Table, tx_same, tx_in, tx_get}
use Rattle.clv_base.specs.Maps.{map_get}
use Rattle.clv_base.specs.declared.changes.Change.TheVariants.{Sets, Adds}
use Rattle.clv_base.specs.LogRules.{upto_of}
use Rattle.clv_base.specs.Logs.{StandingUpdate, base_of, changed, is_setting, standing, committed_in, prepared_in, has_standing, aborted_in}
use Rattle.clv_base.specs.Locks.{Locks}
use Rattle.clv_base.specs.State.{is_present}
use Rattle.clv_base.specs.Needs.{value_at, lower_anchor}
use Rattle.law_base.proofs.Cells.{record_at, live_by, live_some}
use Rattle.law_base.specs.Items.{Item, wrote, writes, meets, both_add, Runs, after, Reaches, Clash, pile, on_top, is_write_at}
use Rattle.clv_base.proofs.SameNames.{or_left, or_right, tx_true, tx_self, tx_ne, tx_flip}
use Rattle.law_base.proofs.Lists.{all_mono, all_both, all_filter, all_push, later_mono, later_filter, later_push, all_kept}
use Rattle.law_base.proofs.Running.{top_value}
use Rattle.law_base.proofs.Undoing.{standing_append}
use Rattle.law_base.proofs.LockRows.{holds, Rows}
use Rattle.shard_laws.proofs.Operations.NeedsCoverKeys.{holds_at, holds_by}
use Rattle.law_base.proofs.Tables.{stage_in, stage_by, is_pair}
use Rattle.law_base.proofs.Commits.{CommitBefore, commit_durable, before_keeps, before_first, durable_committed, durable_keeps, uncommitted_append, committed_from}
use Rattle.shard_laws.proofs.Keeping.ChangesKeepPrepared.{Prepared, prepared_item, prepared_update, Listing}
use Rattle.shard_laws.proofs.Operations.WritesAtEachKey.{keys_by, keys_filter, keys_top, keys_on_top}
use Rattle.shard_laws.proofs.Keeping.WhatOneShardKeeps.{adds_in, is_adding, HoldsPart, part_for, View, Past, place, Belongs, Covers, Wrote, Dep, Known, Left, Ended, Kept, of_kept, is_alive, IsAlone, Cause}
use Rattle.protocol_laws.specs.Order.{Tidy}
use Rattle.clv_base.specs.declared.ops.Op.{Op}
use Rattle.clv_base.specs.declared.modes.Need.{Need}
use Rattle.clv_base.specs.State.{Shard}
use Rattle.clv_base.specs.declared.modes.Decision.TheVariants.{Grant}
use Rattle.clv_base.specs.Modes.{part_compatible}
use Rattle.clv_base.specs.Locks.{take_all, decide, violated}
use Rattle.shard_laws.proofs.Keeping.WhatOneShardKeeps.{Out}
use Rattle.clv_base.specs.Needs.{found_at, needs_of, inserts, writes_of, key_of, answer_of}
use Rattle.clv_base.specs.OneShard.{inserted_locks, new_part, add_pairs, locked, written, performed, violated_here}
use Rattle.clv_base.proofs.SameNames.{cases_tx}
use Rattle.law_base.proofs.Running.{write_met, same_answer, Keeps, rising_all, pile_value, pile_push}
use Rattle.law_base.proofs.Undoing.{keeps_of, pile_filter, filter_all}
use Rattle.shard_laws.proofs.Operations.AnswersByValues.{same_told, live_find, live_rises}
use Rattle.law_base.proofs.Anchors.{record_at_set}
use Rattle.law_base.proofs.LockRows.{least, asks, rows_all, all_keeps, conflict, violates, violated_row}
use Rattle.shard_laws.proofs.Operations.NeedsCoverKeys.{met_part, wrote_part, adds_to, asks_at, asks_by, asks_met, asks_written}
use Rattle.law_base.proofs.Tables.{add_keeps, add_has, add_from}
use Rattle.shard_laws.proofs.Keeping.ClosingKeeps.{place_in, place_out}
use Rattle.shard_laws.proofs.Keeping.RecordsAndFrontsKeep.{tidy_append, aborted_append}
use Rattle.shard_laws.proofs.Keeping.WhatOneShardKeeps.{view_of}
use Rattle.law_base.proofs.Stages.{other_part}
use Rattle.law_base.proofs.Bools.{t_true}
use Rattle.law_base.proofs.Names.{MayStand}
pub use Rattle.shard_laws.proofs.Keeping.WhatGrantsHold.{Written, log_by, adds_same, wrote_holds, own_part, not_active, is_closed, closed_row, insert_writes, writing}
use Rattle.shard_laws.proofs.Keeping.WhatGrantsHold.{Tells, added_there, adds_meets, adds_told, taken_held, all_tell, and_none, asked_held, fits_active, gap_fits, insert_keeps_key, insert_sets, met_wrote, moved, number_alive, number_tells, part_keeps, records_by, rising_by, rows_insert, still_record, told_same, written_record, wrote_met}
use Rattle.shard_laws.specs.OneShard.{doer, number_of, items_in, deeds_by_chosen, AreBelow}
use Rattle.shard_laws.proofs.Keeping.DeedsThatHold.{AllMet, Rise, items_append, held_push, acts_push, met_push, met_pop, met_mono, met_chosen, between_did, between_chosen, all_held, runs_held, doers_items, acts_chosen, held_chosen, items_all_chosen, items_later_chosen, later_with}
use Rattle.law_base.proofs.Standing.{all_stand}
use Rattle.law_base.proofs.Sets.{filter_in, in_filter}
use Rattle.shard_laws.proofs.Keeping.DeedsInTheLog.{item_wrote, stands_held}
use Rattle.law_base.proofs.Bases.{take_base}
use Rattle.law_base.proofs.Places.{upto_within}

module _ (g : Past) (v : View) (tx : TxId) (birth : Birth) (nth : ℕ) (op : Op) (k : Kept g v) (grant : decide tx birth (needs_of op v.records) v.locks ≡ Grant)
    (may : MayStand v.parts tx birth) (new : tx_in tx g.asked ≡ false) (open_ : committed_in v.log tx ≡ false) (alive : aborted_in v.log tx ≡ false) (unprepared : prepared_in v.log tx ≡ false) (unmet : (p : TxId) → is_pair g.met tx p ≡ true → stage_in v.parts tx ≡ Some Active) (no_succ : (t : TxId) → is_pair v.pairs t tx ≡ true → ⊥) (lost_open : (t : TxId) → tx_in t g.lost ≡ true → committed_in v.log t ≡ false) (rises : AreBelow tx nth g.done) where
  abbrev needs : List Need
  needs = needs_of op v.records

  abbrev change : Written
  change = writes_of op (value_at (key_of op) v.records)

  abbrev ins : Option ℕ
  ins = inserts op (found_at (key_of op) v.records)

  abbrev item : Item
  item = record { tx = tx; number = nth; op = op; answer = answer_of op v.records; lsn = 0 + length v.log }

  -- whom it violates: those closed ones of whom a write stands
  abbrev vs : List TxId
  vs = filter (has_standing v.log) (violated tx needs v.locks)

  abbrev parts_after : Table Held
  parts_after = new_part tx birth (tx_get tx v.parts) v.parts

  abbrev locks_after : Locks
  locks_after = inserted_locks tx birth v.records ins (take_all tx birth needs v.locks)

  abbrev View_by : Written → View
  View_by w = record {
    records = records_by w v.records;
    locks = locks_after;
    parts = parts_after;
    pairs = add_pairs tx vs v.pairs;
    log = log_by tx w v.log;
    durable = v.durable;
    flight = v.flight;
  }

  wrote_here : wrote item ≡ change
  wrote_here = told_same op v.records

  writes_here : (q : ℕ) → writes item q ≡ true → is_write_at change q ≡ true
  writes_here q e = ap (λ w. is_write_at w q) (sym wrote_here) ∙ e

  abbrev adding : Bool
  adding = adds_in change

  adding_is : adds_to op (value_at (key_of op) v.records) ≡ adding
  adding_is = adds_same op (value_at (key_of op) v.records)

  adding_here : is_adding item ≡ adding
  adding_here = ap adds_in wrote_here

  met_asked : (q : ℕ) → meets item q ≡ true → asks_at (met_part adding) needs v.records q ≡ true
  met_asked q m = subst (λ b. asks_at (met_part b) needs v.records q ≡ true) adding_is (asks_met op v.records q k.rises m)

  write_asked : (q : ℕ) → is_write_at change q ≡ true → asks_at (wrote_part adding) needs v.records q ≡ true
  write_asked q m = subst (λ b. asks_at (wrote_part b) needs v.records q ≡ true) adding_is (asks_written op v.records q m)

  -- where it adds, a record stands at what it meets, and at what it writes
  there_met : (q : ℕ) → meets item q ≡ true → least S (met_part adding) ≡ false → record_at q v.records ≡ None → ⊥
  there_met q m l = at adding refl l
    where
      at : (b : Bool) → adding ≡ b → least S (met_part b) ≡ false → record_at q v.records ≡ None → ⊥
      at true e l none = added_there op v.records q m (adding_is ∙ e) none
      at false e l none = both_ways true l refl

  there_wrote : (q : ℕ) → is_write_at change q ≡ true → least S (wrote_part adding) ≡ false → record_at q v.records ≡ None → ⊥
  there_wrote q w l = at adding refl l
    where
      at : (b : Bool) → adding ≡ b → least S (wrote_part b) ≡ false → record_at q v.records ≡ None → ⊥
      at true e l none = added_there op v.records q (write_met item q (ap (λ z. is_write_at z q) wrote_here ∙ w)) (adding_is ∙ e) none
      at false e l none = both_ways true l refl

  -- another's item and this one don't both add
  not_both : (y : Item) → Tells y → both_add y item ≡ false → (is_adding y && adding) ≡ false
  not_both y told_y e = ap (λ b. b && adding) (sym told_y) ∙ ap (λ b. adds y.op y.answer && b) (sym (adds_told op v.records ∙ adding_is)) ∙ e

  -- who holds what does not fit has no active part
  apart_at : (u : TxId) (p q : Part) (j : ℕ) (o : Option (Option ValueType)) → holds_by p v.locks v.records u j o ≡ true → asks_by q needs v.records j o ≡ true → part_compatible q p ≡ false → (tx ≡ u → ⊥) → stage_in v.parts u ≡ Some Active → ⊥
  apart_at u p q j (Some x) held asked clash ne active = let c = conflict (Belongs v.parts) tx u birth true p q (At j) needs v.locks k.rows grant held asked clash ne in not_active v.parts u c.0 c.1 active
  apart_at u p q j None held asked clash ne active = let c = conflict (Belongs v.parts) tx u birth false p q (lower_anchor j v.records) needs v.locks k.rows grant held asked clash ne in not_active v.parts u c.0 c.1 active

  stage_own : stage_in parts_after tx ≡ Some Active
  stage_own = let h = own_part tx birth v.parts may in ap stage_by h.1 ∙ ap Some h.3

  stage_same : (u : TxId) → (u ≡ tx → ⊥) → stage_in parts_after u ≡ stage_in v.parts u
  stage_same u ne = ap stage_by (other_part tx birth v.parts u (tx_get tx v.parts) (tx_ne u tx ne))

  closed_apart : ◌≡◌ {A = Option Stage} (Some Active) (Some Closed) → ⊥
  closed_apart e = absurd cc

  doomed_apart : (d : TxId) → ◌≡◌ {A = Option Stage} (Some Active) (Some (Gone (Some d))) → ⊥
  doomed_apart d e = absurd cc

  asked_other : (u : TxId) → tx_in u g.asked ≡ true → u ≡ tx → ⊥
  asked_other u r e = both_ways _ new (ap (λ z. tx_in z g.asked) (sym e) ∙ r)

  active_item : (u : TxId) → Known g v u → stage_in parts_after u ≡ Some Active → stage_in v.parts u ≡ Some Active
  active_item u known a = ⊎_elim (λ h. h) (λ r. sym (stage_same u (asked_other u r.0)) ∙ a) known

  -- another's item, active, does not meet the inserted key
  insert_own : (y : Item) → (stage_in v.parts y.tx ≡ Some Active) → Covers v.records v.locks y → (q : ℕ) → meets y q ≡ true → ins ≡ Some q → y.tx ≡ tx
  insert_own y active c q met e =
      ⊎_elim (λ s. s)
      (λ ne. absurd (apart_at y.tx (met_part (is_adding y)) (wrote_part adding) q (record_at q v.records) (c.0 q met).0 (write_asked q (insert_writes v.records change ins q (writing op v.records) e))
      (met_wrote (is_adding y) adding (ap (λ b. is_adding y && b) (insert_sets v.records change ins q (writing op v.records) e) ∙ and_none (is_adding y))) (λ s. ne (sym s)) active))
      (cases_tx y.tx tx)

  old_holds : (p : Part) (y : Item) (q : ℕ) → (record_at q v.records ≡ None → least S p ≡ true) → (ins ≡ Some q → y.tx ≡ tx) → holds_at p v.locks v.records y.tx q ≡ true → holds_at p locks_after (records_by change v.records) y.tx q ≡ true
  old_holds p y q least_p own held =
      moved tx birth p (take_all tx birth needs v.locks) v.records change ins y.tx q k.rises (writing op v.records) least_p own (taken_held p tx birth needs v.locks v.records y.tx q (record_at q v.records) held)

  new_holds : (p : Part) (q : ℕ) → (record_at q v.records ≡ None → least S p ≡ true) → asks_at p needs v.records q ≡ true → holds_at p locks_after (records_by change v.records) tx q ≡ true
  new_holds p q least_p asked =
      moved tx birth p (take_all tx birth needs v.locks) v.records change ins tx q k.rises (writing op v.records) least_p (λ e. refl) (asked_held p tx birth needs v.locks v.records q (record_at q v.records) asked)

  -- ---- the log
  standing_by : (w : Written) → standing (log_by tx w v.log) ≡ on_top tx (0 + length v.log) w (standing v.log)
  standing_by None = refl
  standing_by (Some (key, Sets before after)) = standing_append 0 v.log (Update tx key before after ∷ []) []
  standing_by (Some (key, Adds by)) = standing_append 0 v.log (Add tx key by ∷ []) []

  value_by : (w : Written) (q : ℕ) → value_at q (records_by w v.records) ≡ top_value g.floor q (on_top tx (0 + length v.log) w (standing v.log))
  value_by None q = k.values q
  value_by (Some w) q =
      ap live_by (record_at_set q w.0 (changed w.1 (value_at w.0 v.records)) v.records) ∙ at (q == w.0) refl
    where
      at : (b : Bool) → (q == w.0) ≡ b
          → live_by (cond b (Some (changed w.1 (value_at w.0 v.records))) (record_at q v.records)) ≡ cond b (changed w.1 (top_value g.floor q (standing v.log))) (top_value g.floor q (standing v.log))
      at true e = live_some (changed w.1 (value_at w.0 v.records)) ∙ ap (changed w.1) (k.values w.0 ∙ ap (λ j. top_value g.floor j (standing v.log)) (sym (eqb-true q w.0 e)))
      at false e = k.values q

  floor_by : (w : Written) (c : ℕ) → v.durable ≤ c → base_of (take c (log_by tx w v.log)) ≡ g.floor
  floor_by None c l = k.floor_done c l
  floor_by (Some (key, Sets before after)) c l = take_base c v.log (Update tx key before after ∷ []) refl ∙ k.floor_done c l
  floor_by (Some (key, Adds by)) c l = take_base c v.log (Add tx key by ∷ []) refl ∙ k.floor_done c l

  part_by : (w : Written) → upto_of (log_by tx w v.log) ≤ v.durable
  part_by None = k.part_done
  part_by (Some (key, Sets before after)) = upto_within v.durable v.log (Update tx key before after ∷ []) refl k.part_done
  part_by (Some (key, Adds by)) = upto_within v.durable v.log (Add tx key by ∷ []) refl k.part_done

  from_by : (w : Written) (t : TxId) → committed_in (log_by tx w v.log) t ≡ true → committed_in v.log t ≡ true
  from_by None t c = c
  from_by (Some (key, Sets before after)) t c = committed_from v.log (Update tx key before after ∷ []) t refl c
  from_by (Some (key, Adds by)) t c = committed_from v.log (Add tx key by ∷ []) t refl c

  none_by : (w : Written) (t : TxId) → committed_in v.log t ≡ false → committed_in (log_by tx w v.log) t ≡ false
  none_by None t c = c
  none_by (Some (key, Sets before after)) t c = uncommitted_append v.log (Update tx key before after ∷ []) t c refl
  none_by (Some (key, Adds by)) t c = uncommitted_append v.log (Add tx key by ∷ []) t c refl

  durable_by : (w : Written) (t : TxId) → commit_durable v.log v.durable t ≡ true → commit_durable (log_by tx w v.log) v.durable t ≡ true
  durable_by None t c = c
  durable_by (Some (key, Sets before after)) t c = durable_keeps v.log (Update tx key before after ∷ []) v.durable v.durable t (omega arith) c
  durable_by (Some (key, Adds by)) t c = durable_keeps v.log (Add tx key by ∷ []) v.durable v.durable t (omega arith) c

  before_by : (w : Written) (p t : TxId) → CommitBefore v.log p t → CommitBefore (log_by tx w v.log) p t
  before_by None p t c = c
  before_by (Some (key, Sets before after)) p t c = before_keeps v.log (Update tx key before after ∷ []) p t c
  before_by (Some (key, Adds by)) p t c = before_keeps v.log (Add tx key by ∷ []) p t c

  unwritten_by : (w : Written) (u : TxId) → (u ≡ tx → ⊥) → has_standing v.log u ≡ false → has_standing (log_by tx w v.log) u ≡ false
  unwritten_by w u ne e = ap (λ ws. list_any (λ x. tx_same u x.tx) ws) (standing_by w) ∙ at w
    where
      at : (w : Written) → list_any (λ x. tx_same u x.tx) (on_top tx (0 + length v.log) w (standing v.log)) ≡ false
      at None = e
      at (Some x) = or_from _ _ (tx_ne u tx ne) e

  aborted_by : (w : Written) (u : TxId) → aborted_in (log_by tx w v.log) u ≡ true → aborted_in v.log u ≡ true
  aborted_by None u e = e
  aborted_by (Some (key, Sets before after)) u e = ⊎_elim (λ h. h) (λ h. absurd (both_ways false refl h)) (or_cases (aborted_in v.log u) false (sym (aborted_append v.log (Update tx key before after ∷ []) u) ∙ e))
  aborted_by (Some (key, Adds by)) u e = ⊎_elim (λ h. h) (λ h. absurd (both_ways false refl h)) (or_cases (aborted_in v.log u) false (sym (aborted_append v.log (Add tx key by ∷ []) u) ∙ e))

  tidy_by : (w : Written) → Tidy [] (log_by tx w v.log)
  tidy_by None = k.tidy
  tidy_by (Some (key, Sets before after)) = tidy_append [] v.log (Update tx key before after ∷ []) k.tidy (open_, tt)
  tidy_by (Some (key, Adds by)) = tidy_append [] v.log (Add tx key by ∷ []) k.tidy (open_, tt)

  -- ---- the new item against an earlier one
  clash_closed : (y : Item) → Tells y → (stage_in v.parts y.tx ≡ Some Active → Covers v.records v.locks y) → Clash y item → (y.tx ≡ tx) ⊎ (stage_in v.parts y.tx ≡ Some Active → ⊥)
  clash_closed y told_y covers clash =
      let apart : (is_adding y && adding) ≡ false = not_both y told_y clash.4 in
      ⊎_elim (λ s. inl s)
      (λ ne. inr (λ active. let c = covers active in
      ⊎_elim
      (λ w. apart_at y.tx (wrote_part (is_adding y)) (met_part adding) clash.0 (record_at clash.0 v.records) (c.1 clash.0 w).0 (met_asked clash.0 clash.2) (wrote_met (is_adding y) adding apart) (λ s. ne (sym s)) active)
      (λ w. apart_at y.tx (met_part (is_adding y)) (wrote_part adding) clash.0 (record_at clash.0 v.records) (c.0 clash.0 clash.1).0 (write_asked clash.0 (writes_here clash.0 (clash.3 w))) (met_wrote (is_adding y) adding apart) (λ s. ne (sym s)) active)
      (cases_Bool (writes y clash.0))))
      (cases_tx y.tx tx)

  order_new : (y : Item) → Tells y → Known g v y.tx → (stage_in v.parts y.tx ≡ Some Active → Covers v.records v.locks y) → Clash y item → (y.tx ≡ tx) ⊎ (place g.asked y.tx < place g.asked tx)
  order_new y told_y known covers clash =
      ⊎_elim (λ s. inl s)
      (λ closed. ⊎_elim (λ active. absurd (closed active))
      (λ r. let in_place = place_in g.asked y.tx r.0 in inr (subst (λ n. place g.asked y.tx < n) (sym (place_out g.asked tx new)) in_place)) known)
      (clash_closed y told_y covers clash)

  alone_new : (y : Item) → Tells y → (stage_in v.parts y.tx ≡ Some Active → Covers v.records v.locks y) → IsAlone parts_after y item
  alone_new y told_y covers clash =
      ⊎_elim (λ s. inl s) (λ closed. ⊎_elim (λ s. inl s) (λ ne. inr (λ a. closed (sym (stage_same y.tx ne) ∙ a))) (cases_tx y.tx tx)) (clash_closed y told_y covers clash)

  -- who wrote a key that is met, and whose COMMIT is not durable, is violated
  violates_at : (u : TxId) (q : ℕ) (b : Bool) → (b && adding) ≡ false → (u ≡ tx → ⊥) → has_standing v.log u ≡ true → holds true (wrote_part b) (At q) u v.locks ≡ true → (record_at q v.records ≡ None → ⊥) → meets item q ≡ true → tx_in u vs ≡ true
  violates_at u q b apart ne wrote held stands met =
      let a = at (record_at q v.records) stands (met_asked q met) in
      let c = conflict (Belongs v.parts) tx u birth true (wrote_part b) (met_part adding) (At q) needs v.locks k.rows grant held a (wrote_met b adding apart) (λ s. ne (sym s)) in
      filter_in (has_standing v.log) u (violated tx needs v.locks)
      (violates (Belongs v.parts) tx u true (wrote_part b) (met_part adding) (At q) needs v.locks k.rows
      (λ b d h. is_closed v.parts u b d h (λ active. not_active v.parts u c.0 c.1 active)) (wrote_holds b) held a (wrote_met b adding apart) (λ s. ne (sym s))) wrote
    where
      at : (o : Option (Option ValueType)) → (o ≡ None → ⊥) → asks_by (met_part adding) needs v.records q o ≡ true → asks true (met_part adding) (At q) needs ≡ true
      at (Some x) n e = e
      at None n e = absurd (n refl)

  abbrev Item_wrote : Item → Type 0
  Item_wrote y = ((q : ℕ) → writes y q ≡ true → has_standing v.log y.tx ≡ true) × (commit_durable v.log v.durable y.tx ≡ false → (q : ℕ) → writes y q ≡ true → (holds true (wrote_part (is_adding y)) (At q) y.tx v.locks ≡ true) × (record_at q v.records ≡ None → ⊥))

  wrote_here_all : AllByRecursion Item_wrote (held g.done)
  wrote_here_all = all_both _ _ (held g.done) (stands_held g v k) (item_wrote g v k)

  cause_new : (y : Item) → Tells y → Item_wrote y → Reaches y item → (y.tx ≡ tx) ⊎ Dep (View_by change) tx y.tx
  cause_new y told_y wrote reach =
      ⊎_elim (λ s. inl s)
      (λ ne. inr (⊎_elim
      (λ d. inl (durable_by change y.tx d))
      (λ out. let held_y = wrote.1 out reach.0 reach.1 in inr (inl (add_has tx vs v.pairs y.tx (violates_at y.tx reach.0 (is_adding y) (not_both y told_y reach.3) ne (wrote.0 reach.0 reach.1) held_y.0 held_y.1 reach.2))))
      (cases_Bool (commit_durable v.log v.durable y.tx))))
      (cases_tx y.tx tx)

  -- where it is not lost, what stands at the keys that it meets is of those that are not; but where it adds, ADDs may be of others
  alive_at : tx_in tx g.lost ≡ false → ((p : TxId) → tx_in p vs ≡ true → tx_in p g.lost ≡ false) → (q : ℕ) → meets item q ≡ true
      → (w : StandingUpdate) → (has_standing v.log w.tx ≡ true) × Wrote v w → w.key ≡ q → (not (is_setting w.change) && adding) ≡ false → tx_in w.tx g.lost ≡ false
  alive_at own others q met w h e apart = false_from_ne_true _ (λ l.
      let held_w = h.1 (false_from_ne_true _ (λ d. both_ways _ (lost_open w.tx l) (durable_committed v.log v.durable w.tx d))) in
      ⊎_elim (λ s. both_ways _ own (subst (λ z. tx_in z g.lost ≡ true) s l))
      (λ ne. both_ways _ (others w.tx (violates_at w.tx q (not (is_setting w.change)) apart ne h.0 (subst (λ z. holds true (part_for w.change) (At z) w.tx v.locks ≡ true) e held_w.0) (λ n. held_w.1 (ap (λ z. record_at z v.records) e ∙ n)) met)) l) (cases_tx w.tx tx))

  each_wrote : AllByRecursion (λ w. (has_standing v.log w.tx ≡ true) × Wrote v w) (standing v.log)
  each_wrote = all_both _ _ (standing v.log) (all_stand v.log) k.wrote

  runs : Runs g.start (held g.done)
  runs = runs_held g.start g.done k.start_rises k.acts k.between k.rising

  past_value : (q : ℕ) → top_value g.floor q (filter (of_kept (is_alive g.lost)) (standing v.log)) ≡ map_get q (after g.start (held g.done))
  past_value q = sym (pile_value g.floor (held g.done) g.start g.base q runs (k.base_value q) ∙ sym (keys_top g.floor (filter (of_kept (is_alive g.lost)) (standing v.log)) (pile (held g.done) g.base) q k.standing_is))

  same_values : tx_in tx g.lost ≡ false → ((p : TxId) → tx_in p vs ≡ true → tx_in p g.lost ≡ false) → adding ≡ false → (q : ℕ) → meets item q ≡ true
      → map_get q (live_pairs v.records) ≡ map_get q (after g.start (held g.done))
  same_values own others sets q met =
      live_find q v.records k.rises ∙ k.values q
      ∙ sym (top_alive g.floor (is_alive g.lost) q (standing v.log)
      (all_mono _ _ (λ w h e. ap not (alive_at own others q met w h e (ap (λ b. not (is_setting w.change) && b) sets ∙ and_none (not (is_setting w.change))))) (standing v.log) each_wrote))
      ∙ past_value q

  same_number : tx_in tx g.lost ≡ false → ((p : TxId) → tx_in p vs ≡ true → tx_in p g.lost ≡ false) → (q : ℕ) → meets item q ≡ true
      → is_number (value_at q v.records) ≡ is_number (map_get q (after g.start (held g.done)))
  same_number own others q met =
      ap is_number (k.values q)
      ∙ sym (number_alive g.floor (is_alive g.lost) q (standing v.log)
      (all_mono _ _ (λ w h e s. ap not (alive_at own others q met w h e (ap (λ b. not b && adding) s))) (standing v.log) each_wrote))
      ∙ ap is_number (past_value q)

  answer_now : tx_in tx g.lost ≡ false → ((p : TxId) → tx_in p vs ≡ true → tx_in p g.lost ≡ false) → answer_of op v.records ≡ op_answer op (after g.start (held g.done))
  answer_now own others =
      ⊎_elim
      (λ a. let here = adding_is ∙ a in number_tells op v.records (after g.start (held g.done)) here (same_number own others (key_of op) (adds_meets op (value_at (key_of op) v.records) here)))
      (λ sets. same_told op v.records (live_pairs v.records) k.rises (t_true _ (live_rises v.records k.rises)) (λ q. live_find q v.records k.rises)
      ∙ same_answer op (live_pairs v.records) (after g.start (held g.done)) (t_true _ (live_rises v.records k.rises)) (rising_all (held g.done) g.start k.start_rises) (λ q met. same_values own others sets q met))
      (cases_Bool adding)

  present_after : (u : TxId) → is_present (stage_in v.parts u) ≡ true → is_present (stage_in parts_after u) ≡ true
  present_after u e = ⊎_elim (λ s. ap is_present (ap (stage_in parts_after) s ∙ stage_own)) (λ ne. ap is_present (stage_same u ne) ∙ e) (cases_tx u tx)

  active_back : (u : TxId) → stage_in parts_after u ≡ Some Active → (u ≡ tx) ⊎ (stage_in v.parts u ≡ Some Active)
  active_back u e = ⊎_elim (λ s. inl s) (λ ne. inr (sym (stage_same u ne) ∙ e)) (cases_tx u tx)

  now_met : (ps : List TxId) (t p : TxId) → is_pair (map (λ q. (tx, q)) ps ++ g.met) t p ≡ true → (t ≡ tx) ⊎ (is_pair g.met t p ≡ true)
  now_met [] t p e = inr e
  now_met (q ∷ qs) t p e = ⊎_elim (λ h. inl (tx_true t tx (and_parts (tx_same t tx) (tx_same p q) h).0)) (λ h. now_met qs t p h) (or_cases (tx_same t tx && tx_same p q) (is_pair (map (λ q. (tx, q)) qs ++ g.met) t p) e)

  prepared_now : Prepared (g.done ++ Did item ∷ []) (map (λ p. (tx, p)) vs ++ g.met) parts_after v.log
  prepared_now = prepared_item g.done g.met (map (λ p. (tx, p)) vs ++ g.met) v.parts parts_after v.log item k.prepared unprepared active_back (now_met vs)

  prepared_by : (w : Written) → Prepared (g.done ++ Did item ∷ []) (map (λ p. (tx, p)) vs ++ g.met) parts_after (log_by tx w v.log)
  prepared_by None = prepared_now
  prepared_by (Some w) = prepared_update (g.done ++ Did item ∷ []) (map (λ p. (tx, p)) vs ++ g.met) parts_after v.log tx w.0 w.1 prepared_now unprepared

  -- ---- what both share
  wrote_now : AllByRecursion (Wrote (View_by change)) (standing (log_by tx change v.log))
  wrote_now = subst (AllByRecursion (Wrote (View_by change))) (sym (standing_by change)) (on_new change refl)
    where
      olds : AllByRecursion (Wrote (View_by change)) (standing v.log)
      olds = all_mono _ _ (λ w h out. let c = h (false_from_ne_true _ (λ d. both_ways _ out (durable_by change w.tx d))) in (
        insert_keeps_key tx birth v.records ins (take_all tx birth needs v.locks) (part_for w.change) (At w.key) w.tx (all_keeps true (part_for w.change) (At w.key) w.tx tx birth needs v.locks c.0),
        λ none. c.1 (still_record v.records change ins w.key (writing op v.records) none),
      )) (standing v.log) k.wrote

      some_none : (a : Option ValueType) → Some a ≡ None → ⊥
      some_none a e = absurd cc

      here : (q : ℕ) → is_write_at change q ≡ true → (holds true (wrote_part adding) (At q) tx locks_after ≡ true) × (record_at q (records_by change v.records) ≡ None → ⊥)
      here q e = let r = written_record v.records change ins q (writing op v.records) e in
          (subst (λ o. holds_by (wrote_part adding) locks_after (records_by change v.records) tx q o ≡ true) r.1 (new_holds (wrote_part adding) q (gap_fits (wrote_part adding) (record_at q v.records) (there_wrote q e)) (write_asked q e)), λ none. absurd (some_none r.0 (sym r.1 ∙ none)))

      on_new : (w : Written) → change ≡ w → AllByRecursion (Wrote (View_by change)) (on_top tx (0 + length v.log) w (standing v.log))
      on_new None e = olds
      on_new (Some w) e = (
        (λ out. let h = here w.0 (ap (λ z. is_write_at z w.0) e ∙ eq-eqb w.0 w.0 refl) in (subst (λ z. holds true (wrote_part (adds_in z)) (At w.0) tx locks_after ≡ true) e h.0, h.1)),
        olds,
      )

  met_cases : (ps : List TxId) (t p : TxId) → is_pair (map (λ q. (tx, q)) ps ++ g.met) t p ≡ true → ((t ≡ tx) × (tx_in p ps ≡ true)) ⊎ (is_pair g.met t p ≡ true)
  met_cases [] t p e = inr e
  met_cases (q ∷ qs) t p e = ⊎_elim
      (λ h. let m = and_parts (tx_same t tx) (tx_same p q) h in inl (tx_true t tx m.0, or_left _ _ (tx_flip p q m.1)))
      (λ h. ⊎_elim (λ i. inl (i.0, or_right (tx_same q p) _ i.1)) (λ i. inr i) (met_cases qs t p h))
      (or_cases (tx_same t tx && tx_same p q) (is_pair (map (λ q. (tx, q)) qs ++ g.met) t p) e)

  abbrev Recovers : List TxId → TxId → TxId → Type 0
  Recovers lost t p = ((tx_in t lost ≡ true) × (stage_in parts_after t ≡ Some Active → ⊥)) ⊎ (Dep (View_by change) t p × (place g.asked p < place g.asked t))

  recover_new : (lost : List TxId) (t p : TxId) → (t ≡ tx) × (tx_in p vs ≡ true) → Recovers lost t p
  recover_new lost t p n =
      let row = violated_row (Belongs v.parts) tx p needs v.locks k.rows (in_filter (has_standing v.log) p (violated tx needs v.locks) n.1).0 in
      let before = place_in g.asked p (k.closed p (closed_row v.parts p row.0 row.1)) in
      inr (subst (λ z. Dep (View_by change) z p) (sym n.0) (inr (inl (add_has tx vs v.pairs p n.1))), subst (λ z. place g.asked p < place g.asked z) (sym n.0) (subst (λ m. place g.asked p < m) (sym (place_out g.asked tx new)) before))

  recover_old : (lost : List TxId) → ((t : TxId) → tx_in t g.lost ≡ true → tx_in t lost ≡ true) → (t p : TxId) → is_pair g.met t p ≡ true → Out g v t ⊎ (Dep v t p × (place g.asked p < place g.asked t)) → Recovers lost t p
  recover_old lost more t p old h =
      ⊎_elim
      (λ o. inl (more t o.0, λ a. ⊎_elim (λ s. o.1 (ap (stage_in v.parts) s ∙ unmet p (ap (λ z. is_pair g.met z p) (sym s) ∙ old))) (λ b. o.1 b) (active_back t a)))
      (λ d. inr (⊎_elim (λ c. inl (durable_by change p c)) (λ m. ⊎_elim (λ pair. inr (inl (add_keeps tx vs v.pairs t p pair))) (λ b. inr (inr (before_by change p t b))) m) d.0, d.1)) h

  recovers : (lost : List TxId) → ((t : TxId) → tx_in t g.lost ≡ true → tx_in t lost ≡ true) → (t p : TxId) → is_pair (map (λ q. (tx, q)) vs ++ g.met) t p ≡ true → Recovers lost t p
  recovers lost more t p e = ⊎_elim (λ n. recover_new lost t p n) (λ old. recover_old lost more t p old (k.recover t p old)) (met_cases vs t p e)

  own_belongs : Belongs parts_after tx birth false
  own_belongs = let h = own_part tx birth v.parts may in (h.0, h.1, h.2, fits_active h.0.stage h.3)

  still_known : (u : TxId) → Known g v u → Known g (View_by change) u
  still_known u h =
      ⊎_elim
      (λ a. inl (⊎_elim (λ s. ap (stage_in parts_after) s ∙ stage_own) (λ ne. stage_same u ne ∙ a) (cases_tx u tx)))
      (λ r. inr (r.0, λ a. r.1 (sym (stage_same u (asked_other u r.0)) ∙ a))) h

  still_left : (u : TxId) → Left g v u → Left g (View_by change) u
  still_left u l = ⊎_elim (λ a. inl (present_after u a)) (λ a. inr (⊎_elim (λ o. inl o) (λ d. inr (durable_by change u d)) a)) l

  rows_now : Rows (Belongs parts_after) locks_after
  rows_now = rows_insert (Belongs parts_after) tx birth v.records ins (take_all tx birth needs v.locks) own_belongs (rows_all (Belongs parts_after) tx birth needs v.locks own_belongs
      (all_mono _ _ (λ r h. (h.0, part_keeps tx birth v.parts (r.1).tx h.0 (tx_get tx v.parts) refl h.1, h.2, h.3)) v.locks k.rows))

  covered_now : AllByRecursion (λ y. stage_in parts_after y.tx ≡ Some Active → Covers (View_by change).records (View_by change).locks y) (items_in g.done)
  covered_now = all_mono _ _ (λ y h active. let a = active_item y.tx h.1 active in let c = h.0 a in (
    λ q m. (
      old_holds (met_part (is_adding y)) y q (gap_fits (met_part (is_adding y)) (record_at q v.records) (c.0 q m).1) (insert_own y a c q m) (c.0 q m).0,
      λ l none. (c.0 q m).1 l (still_record v.records change ins q (writing op v.records) none),
    ),
    λ q m. (
      old_holds (wrote_part (is_adding y)) y q (gap_fits (wrote_part (is_adding y)) (record_at q v.records) (c.1 q m).1) (insert_own y a c q (write_met y q m)) (c.1 q m).0,
      λ l none. (c.1 q m).1 l (still_record v.records change ins q (writing op v.records) none),
    ),
  )) (items_in g.done) (all_both _ _ (items_in g.done) k.covered (doers_items (Known g v) g.done k.known))

  covers_now : Covers (View_by change).records (View_by change).locks item
  covers_now = (
    λ q m. subst (λ b. HoldsPart (View_by change).records (View_by change).locks tx (met_part b) q) (sym adding_here) (
      new_holds (met_part adding) q (gap_fits (met_part adding) (record_at q v.records) (there_met q m)) (met_asked q m),
      λ l none. there_met q m l (still_record v.records change ins q (writing op v.records) none),
    ),
    λ q m. let w = writes_here q m in
        subst (λ b. HoldsPart (View_by change).records (View_by change).locks tx (wrote_part b) q) (sym adding_here) (
          new_holds (wrote_part adding) q (gap_fits (wrote_part adding) (record_at q v.records) (there_wrote q w)) (write_asked q w),
          λ l none. there_wrote q w l (still_record v.records change ins q (writing op v.records) none),
        ),
  )

  tells : AllByRecursion Tells (items_in g.done)
  tells = all_tell g.done g.start k.acts

  met_tells : AllByRecursion (λ y. (Tells y × Known g v y.tx) × (stage_in v.parts y.tx ≡ Some Active → Covers v.records v.locks y)) (items_in g.done)
  met_tells = all_both _ _ (items_in g.done) (all_both _ _ (items_in g.done) tells (doers_items (Known g v) g.done k.known)) k.covered

  causes_now : AllMet (Cause (View_by change).pairs (View_by change).log (View_by change).durable) g.done
  causes_now = met_mono _ _ (λ x y h r. ⊎_elim (λ s. inl s) (λ d. inr (⊎_elim (λ c. inl (durable_by change x.tx c)) (λ m. ⊎_elim (λ pair. inr (inl (add_keeps tx vs v.pairs y.tx x.tx pair))) (λ b. inr (inr (before_by change x.tx y.tx b))) m) d)) (h r)) g.done k.causes

  alone_now : AllLater (IsAlone parts_after) (items_in g.done)
  alone_now = later_mono _ _ (λ x y h c. ⊎_elim (λ s. inl s) (λ n. inr (λ a. n (active_item x.tx h.0 a))) (h.1 c)) (items_in g.done) (later_with (λ x. Known g v x.tx) _ (items_in g.done) (doers_items (Known g v) g.done k.known) k.alone)

  over_now : (u : TxId) → tx_in u g.over ≡ true → Ended g (View_by change) u
  over_now u e = ⊎_elim (λ c. inl (durable_by change u c)) (λ c. let ne : u ≡ tx → ⊥ = λ s. both_ways _ new (ap (λ z. tx_in z g.asked) (sym s) ∙ c.3) in
      inr (none_by change u c.0, unwritten_by change u ne c.1, ap is_present (stage_same u ne) ∙ c.2, c.3)) (k.over u e)

  dead_now : (u : TxId) → aborted_in (log_by tx change v.log) u ≡ true → (committed_in (log_by tx change v.log) u ≡ false) × (stage_in parts_after u ≡ Some Active → ⊥) × (stage_in parts_after u ≡ Some Closed → ⊥)
  dead_now u h = let old = aborted_by change u h in let d = k.dead u old in let ne : u ≡ tx → ⊥ = λ s. both_ways _ alive (ap (aborted_in v.log) (sym s) ∙ old) in
      (none_by change u d.0, (λ a. d.1 (sym (stage_same u ne) ∙ a)), (λ a. d.2 (sym (stage_same u ne) ∙ a)))

  doomed_now : (u d : TxId) → stage_in parts_after u ≡ Some (Gone (Some d)) → committed_in (log_by tx change v.log) u ≡ false
  doomed_now u d h = none_by change u (k.doomed u d (sym (stage_same u (λ s. doomed_apart d (sym stage_own ∙ ap (stage_in parts_after) (sym s) ∙ h))) ∙ h))

  successors_now : (t p : TxId) → is_pair (add_pairs tx vs v.pairs) t p ≡ true → is_present (stage_in parts_after t) ≡ true
  successors_now t p e = ⊎_elim (λ old. present_after t (k.successors t p old)) (λ s. ap is_present (ap (stage_in parts_after) s ∙ stage_own)) (add_from tx vs v.pairs t p e)

  downwards_now : (t p : TxId) → is_pair (add_pairs tx vs v.pairs) t p ≡ true → committed_in (log_by tx change v.log) t ≡ true → CommitBefore (log_by tx change v.log) p t
  downwards_now t p e c = ⊎_elim (λ old. before_by change p t (k.downwards t p old (from_by change t c))) (λ s. absurd (both_ways _ open_ (ap (committed_in v.log) (sym s) ∙ from_by change t c))) (add_from tx vs v.pairs t p e)

  values_now : (q : ℕ) → value_at q (records_by change v.records) ≡ top_value g.floor q (standing (log_by tx change v.log))
  values_now q = value_by change q ∙ ap (top_value g.floor q) (sym (standing_by change))

  -- ---- it is not lost: it did one thing more
  top_kept : (w : Written) → tx_in tx g.lost ≡ false → filter (of_kept (is_alive g.lost)) (on_top tx (0 + length v.log) w (standing v.log)) ≡ on_top tx (0 + length v.log) w (filter (of_kept (is_alive g.lost)) (standing v.log))
  top_kept None own = refl
  top_kept (Some w) own = cond-true (not (tx_in tx g.lost)) (record { lsn = 0 + length v.log; tx = tx; key = w.0; change = w.1 } ∷ filter (of_kept (is_alive g.lost)) (standing v.log)) (filter (of_kept (is_alive g.lost)) (standing v.log)) (ap not own)

  items_more : items_in (g.done ++ Did item ∷ []) ≡ items_in g.done ++ item ∷ []
  items_more = items_append g.done (Did item ∷ [])

  each_more : (P : Item → Type 0) → AllByRecursion P (items_in g.done) → P item → AllByRecursion P (items_in (g.done ++ Did item ∷ []))
  each_more P all p = subst (AllByRecursion P) (sym items_more) (all_push P (items_in g.done) item all p)

  later_more : (R : Item → Item → Type 0) → AllLater R (items_in g.done) → AllByRecursion (λ y. R y item) (items_in g.done) → AllLater R (items_in (g.done ++ Did item ∷ []))
  later_more R later all = subst (AllLater R) (sym items_more) (later_push R (items_in g.done) item later all)

  keeps_view : tx_in tx g.lost ≡ false → ((p : TxId) → tx_in p vs ≡ true → tx_in p g.lost ≡ false) → Kept (record g { done = g.done ++ Did item ∷ []; met = map (λ p. (tx, p)) vs ++ g.met }) (View_by change)
  keeps_view own others = record {
    start = k.start;
    past = record {
      acts = acts_push g.start g.done (Did item) k.acts (answer_now own others);
      alive = all_push _ g.done (Did item) k.alive own;
      order = later_more _ k.order (all_mono _ _ (λ y h. order_new y h.0.0 h.0.1 h.1) (items_in g.done) met_tells);
      between = between_did g.done item k.between;
      rising = later_push Rise g.done (Did item) k.rising (all_mono _ _ (λ d h same. below_is (number_of d) nth (h same)) g.done rises);
    };
    log = record {
      standing_is = keys_by (ap (filter (of_kept (is_alive g.lost))) (standing_by change) ∙ top_kept change own)
          (keys_on_top tx (0 + length v.log) change (filter (of_kept (is_alive g.lost)) (standing v.log)) (pile (held g.done) g.base) k.standing_is)
          (ap (λ w. on_top tx (0 + length v.log) w (pile (held g.done) g.base)) (sym wrote_here) ∙ sym (pile_push (held g.done) item g.base) ∙ ap (λ l. pile l g.base) (sym (held_push g.done (Did item))));
      tidy = tidy_by change;
    };
    records = record { rises = rising_by v.records change k.rises; values = values_now };
    locks = record { rows = rows_now; covered = each_more _ covered_now (λ active. covers_now); wrote = wrote_now };
    parts = record {
      known = all_push _ g.done (Did item) (all_mono _ _ (λ d h. still_known (doer d) h) g.done k.known) (inl stage_own);
      alone = later_more _ alone_now (all_mono _ _ (λ y h. alone_new y h.0.0 h.1) (items_in g.done) met_tells);
      closed = λ u e. k.closed u (sym (stage_same u (λ s. closed_apart (sym stage_own ∙ ap (stage_in parts_after) (sym s) ∙ e))) ∙ e);
      successors = successors_now;
    };
    fates = record { uncommitted = λ u a. none_by change u (⊎_elim (λ s. ap (committed_in v.log) s ∙ open_) (λ b. k.uncommitted u b) (active_back u a)); dead = dead_now; doomed = doomed_now; prepared = prepared_by change };
    ends = record { left = all_push _ g.done (Did item) (all_mono _ _ (λ d l. still_left (doer d) l) g.done k.left) (inl (ap is_present stage_own)); over = over_now; recover = recovers g.lost (λ t l. l) };
    pairs = record { downwards = downwards_now; causes = met_push _ g.done (Did item) causes_now (all_mono _ _ (λ y h. cause_new y h.0 h.1) (held g.done) (all_both _ _ (held g.done) (all_held Tells g.done tells) wrote_here_all)) };
    durable = record { base_done = all_mono _ _ (λ w c. durable_by change w.tx c) g.base k.base_done; front = k.front; floor_done = floor_by change; part_done = part_by change };
  }
    where
      below_is : (a b : ℕ) → a < b → a ≤ b
      below_is a b l = omega arith

  -- ---- it is lost: it violated one that is, or is lost already; what it did leaves the past
  keeps_own : (x y : Item) → (Reaches x y → (x.tx ≡ y.tx) ⊎ Dep v y.tx x.tx) → Keeps (λ z. is_alive (tx ∷ []) z.tx) x y
  keeps_own x y h r here =
      let out : tx_in y.tx (tx ∷ []) ≡ false = not-true _ here in
      ap not (false_from_ne_true _ (λ i. let same = one_in tx x.tx i in
      ⊎_elim (λ s. both_ways _ out (subst (λ z. tx_in z (tx ∷ []) ≡ true) s i))
      (λ dep. ⊎_elim (λ c. both_ways _ open_ (subst (λ z. committed_in v.log z ≡ true) same (durable_committed v.log v.durable x.tx c)))
      (λ m. ⊎_elim (λ pair. no_succ y.tx (subst (λ z. is_pair v.pairs y.tx z ≡ true) same pair)) (λ b. both_ways _ open_ (subst (λ z. committed_in v.log z ≡ true) same (before_first v.log x.tx y.tx b))) m) dep) (h r)))

  top_lost : (w : Written) → filter (of_kept (is_alive (tx ∷ g.lost))) (on_top tx (0 + length v.log) w (standing v.log)) ≡ filter (of_kept (is_alive (tx ∷ g.lost))) (standing v.log)
  top_lost None = refl
  top_lost (Some w) = cond-false (not (tx_in tx (tx ∷ g.lost))) (record { lsn = 0 + length v.log; tx = tx; key = w.0; change = w.1 } ∷ filter (of_kept (is_alive (tx ∷ g.lost))) (standing v.log)) (filter (of_kept (is_alive (tx ∷ g.lost))) (standing v.log)) (ap not (or_left _ _ (tx_self tx)))

  base_other : AllByRecursion (λ w. tx_in w.tx (tx ∷ []) ≡ false) g.base
  base_other = all_mono _ _ (λ w c. false_from_ne_true _ (λ i. both_ways _ open_ (subst (λ z. committed_in v.log z ≡ true) (one_in tx w.tx i) (durable_committed v.log v.durable w.tx c)))) g.base k.base_done

  abbrev stay : List Deed
  stay = deeds_by_chosen (is_alive (tx ∷ [])) g.done

  of_stay : (P : Deed → Type 0) → AllByRecursion P g.done → AllByRecursion P stay
  of_stay P all = all_kept P (λ d. is_alive (tx ∷ []) (doer d)) g.done all

  met_stay : (R : Item → Item → Type 0) → AllMet R g.done → AllMet R stay
  met_stay R all = met_mono _ _ (λ x y h. h.0) stay (met_chosen R (is_alive (tx ∷ [])) g.done all)

  prepared_lost : (w : Written) → Prepared stay (map (λ p. (tx, p)) vs ++ g.met) parts_after (log_by tx w v.log)
  prepared_lost w = let p = prepared_by w in
      record { unprepared = p.unprepared; sealed = p.sealed; causes = met_stay _ (met_pop (Listing (log_by tx w v.log)) g.done (Did item) p.causes).0; recover = p.recover }

  keeps_lost : Kept (record g { done = stay; lost = tx ∷ g.lost; met = map (λ p. (tx, p)) vs ++ g.met }) (View_by change)
  keeps_lost = record {
    start = k.start;
    past = record {
      acts = acts_chosen g.start (is_alive (tx ∷ [])) g.done k.start_rises k.acts k.between k.rising (met_mono _ _ keeps_own g.done k.causes);
      alive = all_mono _ _ (λ d h. none_two (tx ∷ []) g.lost (doer d) (not-true _ h.1) h.0) stay (all_filter _ (λ d. is_alive (tx ∷ []) (doer d)) g.done k.alive);
      order = later_mono _ _ (λ x y h c. h.0 c) (items_in stay) (items_later_chosen _ (is_alive (tx ∷ [])) g.done k.order);
      between = between_chosen (is_alive (tx ∷ [])) g.done k.between;
      rising = later_mono _ _ (λ d e h. h.0) stay (later_filter Rise (λ d. is_alive (tx ∷ []) (doer d)) g.done k.rising);
    };
    log = record {
      standing_is = keys_by (ap (filter (of_kept (is_alive (tx ∷ g.lost)))) (standing_by change) ∙ top_lost change ∙ filter_less (tx ∷ []) g.lost (standing v.log))
          (keys_filter (stays_of (tx ∷ [])) (filter (of_kept (is_alive g.lost)) (standing v.log)) (pile (held g.done) g.base) k.standing_is)
          (pile_filter (tx ∷ []) (held g.done) g.base ∙ ap (pile (filter (keeps_of (tx ∷ [])) (held g.done))) (filter_all (tx ∷ []) g.base base_other) ∙ ap (λ l. pile l g.base) (sym (held_chosen (is_alive (tx ∷ [])) g.done)));
      tidy = tidy_by change;
    };
    records = record { rises = rising_by v.records change k.rises; values = values_now };
    locks = record { rows = rows_now; covered = all_mono _ _ (λ y h. h.0) (items_in stay) (items_all_chosen _ (is_alive (tx ∷ [])) g.done covered_now); wrote = wrote_now };
    parts = record {
      known = all_mono _ _ (λ d h. still_known (doer d) h) stay (of_stay _ k.known);
      alone = later_mono _ _ (λ x y h. h.0) (items_in stay) (items_later_chosen _ (is_alive (tx ∷ [])) g.done alone_now);
      closed = λ u e. k.closed u (sym (stage_same u (λ s. closed_apart (sym stage_own ∙ ap (stage_in parts_after) (sym s) ∙ e))) ∙ e);
      successors = successors_now;
    };
    fates = record { uncommitted = λ u a. none_by change u (⊎_elim (λ s. ap (committed_in v.log) s ∙ open_) (λ b. k.uncommitted u b) (active_back u a)); dead = dead_now; doomed = doomed_now; prepared = prepared_lost change };
    ends = record { left = all_mono _ _ (λ d h. still_left (doer d) h) stay (of_stay _ k.left); over = over_now; recover = recovers (tx ∷ g.lost) (λ t l. or_right (tx_same tx t) _ l) };
    pairs = record { downwards = downwards_now; causes = met_stay _ causes_now };
    durable = record { base_done = all_mono _ _ (λ w c. durable_by change w.tx c) g.base k.base_done; front = k.front; floor_done = floor_by change; part_done = part_by change };
  }

-- the state after a granted operation
view_written : (g : Past) (tx : TxId) (birth : Birth) (op : Op) (s : Shard) (w : Written) → Kept g (record {
  records = records_by w s.local.records;
  locks = (locked tx birth op s.local).locks;
  parts = (locked tx birth op s.local).parts;
  pairs = (locked tx birth op s.local).pairs;
  log = log_by tx w s.local.log;
  durable = s.durable;
  flight = s.flight;
}) → Kept g (view_of (record s { local = written tx w (locked tx birth op s.local) }))
view_written g tx birth op s None k = k
view_written g tx birth op s (Some w) k = k

module _ (g : Past) (s : Shard) (tx : TxId) (birth : Birth) (nth : ℕ) (op : Op) (k : Kept g (view_of s)) (grant : decide tx birth (needs_of op s.local.records) s.local.locks ≡ Grant) (may : MayStand s.local.parts tx birth) (new : tx_in tx g.asked ≡ false) (open_ : committed_in s.local.log tx ≡ false)
    (alive : aborted_in s.local.log tx ≡ false) (unprepared : prepared_in s.local.log tx ≡ false) (unmet : (p : TxId) → is_pair g.met tx p ≡ true → stage_in s.local.parts tx ≡ Some Active) (no_succ : (t : TxId) → is_pair s.local.pairs t tx ≡ true → ⊥) (lost_open : (t : TxId) → tx_in t g.lost ≡ true → committed_in s.local.log t ≡ false)
    (rises : AreBelow tx nth g.done) where
  abbrev did_now : Deed
  did_now = Did (record { tx = tx; number = nth; op = op; answer = answer_of op s.local.records; lsn = 0 + length s.local.log })

  abbrev met_now : List (TxId × TxId)
  met_now = map (λ p. (tx, p)) (violated_here s.local tx op) ++ g.met

  pub keeps_performed : tx_in tx g.lost ≡ false → ((p : TxId) → tx_in p (violated_here s.local tx op) ≡ true → tx_in p g.lost ≡ false)
      → Kept (record g { done = g.done ++ Did (record { tx = tx; number = nth; op = op; answer = answer_of op s.local.records; lsn = 0 + length s.local.log }) ∷ []; met = map (λ p. (tx, p)) (violated_here s.local tx op) ++ g.met }) (view_of (record s { local = performed tx birth op s.local }))
  keeps_performed own others =
      view_written (record g { done = g.done ++ did_now ∷ []; met = met_now }) tx birth op s (writes_of op (value_at (key_of op) s.local.records)) (keeps_view g (view_of s) tx birth nth op k grant may new open_ alive unprepared unmet no_succ lost_open rises own others)

  pub keeps_lost_op : Kept (record g { done = deeds_by_chosen (is_alive (tx ∷ [])) g.done; lost = tx ∷ g.lost; met = map (λ p. (tx, p)) (violated_here s.local tx op) ++ g.met }) (view_of (record s { local = performed tx birth op s.local }))
  keeps_lost_op =
      view_written (record g { done = deeds_by_chosen (is_alive (tx ∷ [])) g.done; lost = tx ∷ g.lost; met = met_now }) tx birth op s (writes_of op (value_at (key_of op) s.local.records)) (keeps_lost g (view_of s) tx birth nth op k grant may new open_ alive unprepared unmet no_succ lost_open rises)
