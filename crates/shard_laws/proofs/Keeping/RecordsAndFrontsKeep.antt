-- Changes of a shard that keep what it keeps: a record more, a part closed, the durable front, a purge.
use Rattle.std.proofs.Common.{◌≡◌, ◌≤◌, ◌<◌, inl, inr, Bool, true, false, cond, not, ◌||◌, List, [], ◌∷◌, ◌++◌, length, Option, Some, None, ◌==◌, ◌+◌, ◌⊎◌, refl, sym, ap, subst, ◌∙◌, arith, append_assoc, eqb-true, ℕ, ⊎_elim}
use Rattle.std.specs.List.{AllByRecursion, filter, list_any}
use Rattle.std.proofs.lemmas.Bool.{cases_Bool, both_ways, cond-true, cond-false, or_cases, false_from_ne_true, or_from}
use Rattle.std.proofs.lemmas.List.Folds.{list_any-append}
use Rattle.clv_base.specs.declared.names.TxId.{TxId}
use Rattle.clv_base.specs.declared.logs.LogRecord.{LogRecord}
use Rattle.clv_base.specs.declared.logs.LogRecord.TheVariants.{Prepare, Commit, End}
use Rattle.clv_base.specs.declared.modes.Part.{Part}
use Rattle.clv_base.specs.declared.modes.Anchor.{Anchor}
use Rattle.clv_base.specs.declared.modes.Anchor.TheVariants.{Low, At}
use Rattle.clv_base.specs.declared.state.Stage.{Stage}
use Rattle.clv_base.specs.declared.state.Stage.TheVariants.{Active, Closed, Gone}
use Rattle.clv_base.specs.Orders.{tx_same, tx_in}
use Rattle.clv_base.specs.LogRules.{upto_by, upto_of}
use Rattle.clv_base.specs.Logs.{standing, committed_in, wrote_in, prepared_in, is_update_of, is_commit_of, is_prepare_of, has_standing, aborted_in, is_abort_of, base_by, base_of}
use Rattle.clv_base.specs.Locks.{Locks, is_free}
use Rattle.clv_base.specs.State.{is_present}
use Rattle.clv_base.specs.Needs.{Records, value_at, lower_anchor, is_locked_or_live, without_ghosts}
use Rattle.law_base.proofs.Cells.{record_at, live_by}
use Rattle.clv_base.proofs.SameNames.{or_left, tx_true, tx_self, tx_ne}
use Rattle.law_base.proofs.Lists.{all_mono}
use Rattle.law_base.proofs.Running.{top_value}
use Rattle.law_base.proofs.Undoing.{standing_append}
use Rattle.law_base.proofs.Anchors.{Rising, rising_filter, record_kept, record_absent, anchor_kept, absent_above}
use Rattle.law_base.proofs.LockRows.{holds, held_not_free}
use Rattle.shard_laws.proofs.Operations.NeedsCoverKeys.{holds_at, holds_by}
use Rattle.law_base.proofs.Tables.{stage_in, is_pair}
use Rattle.law_base.proofs.Commits.{CommitBefore, commit_durable, before_keeps, before_new, durable_keeps, durable_parts, durable_from, durable_committed, before_second, committed_append, uncommitted_append, place_some, place_less, place_keeps, place_new, durable_further as further}
use Rattle.shard_laws.proofs.Keeping.ChangesKeepPrepared.{IsListed, Lists, Prepared, by_prepare, prepare_here, unprepared_append, lists_more, sealed_append, prepared_more}
use Rattle.shard_laws.proofs.Operations.WritesAtEachKey.{keys_by}
use Rattle.shard_laws.proofs.Operations.NeedsCoverKeys.{met_part, wrote_part}
use Rattle.shard_laws.proofs.Keeping.WhatOneShardKeeps.{HoldsPart, is_adding, part_for, View, Past, Dep, Kept, KeptFront, Ended, Wrote, of_kept, is_alive}
use Rattle.protocol_laws.specs.Order.{moves, Open_at, Tidy}
use Rattle.std.proofs.Common.{append-nil}
use Rattle.std.proofs.lemmas.Option.{none-some, same_Some}
use Rattle.clv_base.specs.declared.values.Value.{Value as ValueType}
use Rattle.shard_laws.specs.OneShard.{doer, items_in}
use Rattle.shard_laws.proofs.Keeping.DeedsThatHold.{met_mono, met_both}
use Rattle.law_base.proofs.Bases.{take_base}
use Rattle.law_base.proofs.Places.{upto_within}

-- ---- a record more

undurable : (log more : List LogRecord) (d e : ℕ) (tx : TxId) → d ≤ e → commit_durable (log ++ more) e tx ≡ false → commit_durable log d tx ≡ false
undurable log more d e tx le h = false_from_ne_true _ (λ t. both_ways _ h (durable_keeps log more d e tx le t))

dep_more : (v : View) (more : List LogRecord) (t p : TxId) → Dep v t p → Dep (record v { log = v.log ++ more }) t p
dep_more v more t p d = ⊎_elim (λ h. inl (durable_keeps v.log more v.durable v.durable p (omega arith) h)) (λ h. ⊎_elim (λ i. inr (inl i)) (λ i. inr (inr (before_keeps v.log more p t i))) h) d

pub wrote_keeps : (log more : List LogRecord) (tx : TxId) → wrote_in log tx ≡ true → wrote_in (log ++ more) tx ≡ true
wrote_keeps log more tx e = list_any-append (is_update_of tx) log more ∙ or_left _ _ e

-- a log that is tidy and more records that are
pub tidy_append : (before xs ys : List LogRecord) → Tidy before xs → Tidy (before ++ xs) ys → Tidy before (xs ++ ys)
tidy_append before [] ys t u = subst (λ l. Tidy l ys) (append-nil before) u
tidy_append before (x ∷ xs) ys t u = (t.0, tidy_append (before ++ x ∷ []) xs ys t.1 (subst (λ l. Tidy l ys) (sym (append_assoc before (x ∷ []) xs)) u))

pub aborted_append : (log more : List LogRecord) (t : TxId) → aborted_in (log ++ more) t ≡ (aborted_in log t || aborted_in more t)
aborted_append log more t = list_any-append (is_abort_of t) log more

pub wrote_append : (log more : List LogRecord) (t : TxId) → wrote_in (log ++ more) t ≡ (wrote_in log t || wrote_in more t)
wrote_append log more t = list_any-append (is_update_of t) log more

pub ended_more : (g : Past) (v : View) (more : List LogRecord) (t : TxId) → (is_present (stage_in v.parts t) ≡ false → committed_in more t ≡ false) → (has_standing v.log t ≡ false → has_standing (v.log ++ more) t ≡ false) → Ended g v t → Ended g (record v { log = v.log ++ more }) t
ended_more g v more t c w e =
    ⊎_elim (λ h. inl (durable_keeps v.log more v.durable v.durable t (omega arith) h)) (λ h. inr (uncommitted_append v.log more t h.0 (c h.2), w h.1, h.2, h.3)) e

-- what more records may be
pub record More (v : View) (more : List LogRecord) : Type 0 where
  pub same_standing : standing (v.log ++ more) ≡ standing v.log
  pub not_active : (t : TxId) → stage_in v.parts t ≡ Some Active → committed_in more t ≡ false
  pub not_gone : (t : TxId) → is_present (stage_in v.parts t) ≡ false → committed_in more t ≡ false
  pub not_doomed : (t d : TxId) → stage_in v.parts t ≡ Some (Gone (Some d)) → committed_in more t ≡ false
  pub not_dead : (t : TxId) → aborted_in v.log t ≡ true → committed_in more t ≡ false
  pub no_abort : (t : TxId) → aborted_in more t ≡ false
  pub down : (t p : TxId) → is_pair v.pairs t p ≡ true → committed_in more t ≡ true → CommitBefore (v.log ++ more) p t
  pub tidies : Tidy v.log more
  pub brings : base_of more ≡ []
  pub starts : upto_of more ≡ 0

pub keeps_records : (g : Past) (v : View) (more : List LogRecord) → Kept g v → More v more → Prepared g.done g.met v.parts (v.log ++ more) → Kept g (record v { log = v.log ++ more })
keeps_records g v more k m prep = record {
  start = k.start;
  past = k.past;
  log = record { standing_is = keys_by (ap (filter (of_kept (is_alive g.lost))) m.same_standing) k.standing_is refl; tidy = tidy_append [] v.log more k.tidy m.tidies };
  records = record { rises = k.rises; values = λ q. k.values q ∙ ap (top_value g.floor q) (sym m.same_standing) };
  locks = record { rows = k.rows; covered = k.covered; wrote = subst (AllByRecursion (Wrote (record v { log = v.log ++ more }))) (sym m.same_standing) (all_mono _ _ (λ x h out. h (undurable v.log more v.durable v.durable x.tx (omega arith) out)) (standing v.log) k.wrote) };
  parts = k.parts;
  fates = record {
    uncommitted = λ t h. uncommitted_append v.log more t (k.uncommitted t h) (m.not_active t h);
    dead = λ t u. let old : aborted_in v.log t ≡ true = ⊎_elim (λ h. h) (λ h. absurd (both_ways _ (m.no_abort t) h)) (or_cases (aborted_in v.log t) (aborted_in more t) (sym (aborted_append v.log more t) ∙ u)) in
        let d = k.dead t old in (uncommitted_append v.log more t d.0 (m.not_dead t old), d.1, d.2);
    doomed = λ t d h. uncommitted_append v.log more t (k.doomed t d h) (m.not_doomed t d h);
    prepared = prep;
  };
  ends = record {
    left = all_mono _ _ (λ x l. ⊎_elim (λ a. inl a) (λ a. inr (⊎_elim (λ o. inl o) (λ d. inr (durable_keeps v.log more v.durable v.durable (doer x) (omega arith) d)) a)) l) g.done k.left;
    over = λ t h. ended_more g v more t (m.not_gone t) (λ e. ap (λ ws. list_any (λ w. tx_same t w.tx) ws) m.same_standing ∙ e) (k.over t h);
    recover = λ t p e. ⊎_elim (λ o. inl o) (λ d. inr (dep_more v more t p d.0, d.1)) (k.recover t p e);
  };
  pairs = record {
    downwards = λ t p h c. ⊎_elim (λ i. before_keeps v.log more p t (k.downwards t p h i)) (λ i. m.down t p h i) (or_cases (committed_in v.log t) (committed_in more t) (sym (committed_append v.log more t) ∙ c));
    causes = met_mono _ _ (λ x y h r. ⊎_elim (λ s. inl s) (λ d. inr (dep_more v more y.tx x.tx d)) (h r)) g.done k.causes;
  };
  durable = record { base_done = all_mono _ _ (λ w h. durable_keeps v.log more v.durable v.durable w.tx (omega arith) h) g.base k.base_done; front = k.front; floor_done = λ c l. take_base c v.log more m.brings ∙ k.floor_done c l; part_done = upto_within v.durable v.log more m.starts k.part_done };
}

-- a record that is no UPDATE, CLR, COMMIT, PREPARE or ABORT
pub record Quiet (r : LogRecord) : Type 0 where
  pub no_commit : (t : TxId) → is_commit_of t r ≡ false
  pub no_update : (t : TxId) → is_update_of t r ≡ false
  pub no_abort : (t : TxId) → is_abort_of t r ≡ false
  pub no_move : moves r ≡ None
  pub no_prepare : (t : TxId) → is_prepare_of t r ≡ false
  pub brings : base_by r ≡ []
  pub starts : upto_by r ≡ 0

open_none : (before : List LogRecord) (o : Option TxId) → o ≡ None → Open_at before o
open_none before o e = subst (Open_at before) (sym e) tt

pub keeps_quiet : (g : Past) (v : View) (r : LogRecord) → Kept g v → standing (v.log ++ r ∷ []) ≡ standing v.log → Quiet r → Kept g (record v { log = v.log ++ r ∷ [] })
keeps_quiet g v r k e q = keeps_records g v (r ∷ []) k (record {
  same_standing = e;
  not_active = λ t h. or_from _ false (q.no_commit t) refl;
  not_gone = λ t h. or_from _ false (q.no_commit t) refl;
  not_doomed = λ t d h. or_from _ false (q.no_commit t) refl;
  not_dead = λ t h. or_from _ false (q.no_commit t) refl;
  no_abort = λ t. or_from _ false (q.no_abort t) refl;
  down = λ t p h c. absurd (both_ways _ (or_from _ false (q.no_commit t) refl) c);
  tidies = (open_none v.log (moves r) q.no_move, tt);
  brings = q.brings;
  starts = q.starts;
}) (prepared_more g.done g.met v.parts v.log (r ∷ []) k.prepared (λ t. or_from _ false (q.no_update t) refl) (λ t. or_from _ false (q.no_prepare t) refl))

pub quiet_end : (tx : TxId) → Quiet (End tx)
quiet_end tx = record { no_commit = λ t. refl; no_update = λ t. refl; no_abort = λ t. refl; no_move = refl; no_prepare = λ t. refl; brings = refl; starts = refl }

stage_apart : (v : View) (t u : TxId) (a b : Stage) → stage_in v.parts t ≡ Some a → stage_in v.parts u ≡ Some b → (Some a ≡ Some b → ⊥) → tx_same u t ≡ false
stage_apart v t u a b e f ne = tx_ne u t (λ s. ne (sym e ∙ ap (stage_in v.parts) (sym s) ∙ f))

-- a COMMIT of a closed part whose predecessors are committed
pub keeps_commit : (g : Past) (v : View) (t : TxId) (parts : List ℕ) → Kept g v → stage_in v.parts t ≡ Some Closed → committed_in v.log t ≡ false → ((p : TxId) → is_pair v.pairs t p ≡ true → committed_in v.log p ≡ true)
    → Kept g (record v { log = v.log ++ Commit t parts ∷ [] })
keeps_commit g v t parts k closed new before = keeps_records g v (Commit t parts ∷ []) k (record {
  same_standing = standing_append 0 v.log (Commit t parts ∷ []) [];
  not_active = λ u h. or_from _ false (stage_apart v t u Closed Active closed h (λ s. absurd cc)) refl;
  not_gone = λ u h. or_from _ false (tx_ne u t (λ s. both_ways _ h (ap is_present (ap (stage_in v.parts) s ∙ closed)))) refl;
  not_doomed = λ u d h. or_from _ false (stage_apart v t u Closed (Gone (Some d)) closed h (λ s. absurd cc)) refl;
  not_dead = λ u h. or_from _ false (tx_ne u t (λ s. (k.dead u h).2 (ap (stage_in v.parts) s ∙ closed))) refl;
  no_abort = λ u. refl;
  down = λ u p h c. ⊎_elim
      (λ i. let same : u ≡ t = tx_true u t i in
      subst (λ x. CommitBefore (v.log ++ Commit t parts ∷ []) p x) (sym same) (before_new v.log p t parts (before p (subst (λ x. is_pair v.pairs x p ≡ true) same h)) new))
      (λ i. absurd (both_ways false refl i))
      (or_cases (tx_same u t) false c);
  tidies = (tt, tt);
  brings = refl;
  starts = refl;
}) (prepared_more g.done g.met v.parts v.log (Commit t parts ∷ []) k.prepared (λ u. refl) (λ u. refl))

-- a PREPARE of a closed part, whose predecessors it lists or are committed
module _ (g : Past) (v : View) (t : TxId) (home : ℕ) (ps : List TxId) (k : Kept g v) (closed : stage_in v.parts t ≡ Some Closed) (new : committed_in v.log t ≡ false) (first : prepared_in v.log t ≡ false)
    (before : (p : TxId) → is_pair v.pairs t p ≡ true → (committed_in v.log p ≡ true) ⊎ (tx_in p ps ≡ true)) (met_deps : (p : TxId) → is_pair g.met t p ≡ true → Dep v t p) where
  committed_first : (p : TxId) → committed_in v.log p ≡ true → IsListed (v.log ++ Prepare t home ps ∷ []) t p
  committed_first p c =
      let m = place_some 0 (is_commit_of p) v.log c in
      let l = place_less 0 (is_commit_of p) v.log m.0 m.1 in
      inr (m.0, 0 + length v.log, place_keeps 0 (is_commit_of p) v.log (Prepare t home ps ∷ []) m.0 m.1, place_new 0 (is_prepare_of t) v.log (Prepare t home ps) first (tx_self t), l)

  own_listed : (p : TxId) → Dep v t p → IsListed (v.log ++ Prepare t home ps ∷ []) t p
  own_listed p d =
      ⊎_elim (λ c. committed_first p (durable_committed v.log v.durable p c))
      (λ m. ⊎_elim (λ pair. ⊎_elim (λ c. committed_first p c) (λ i. inl (ap (λ o. tx_in p (by_prepare o)) (prepare_here v.log [] t home ps first) ∙ i)) (before p pair))
      (λ b. absurd (both_ways _ new (before_second v.log p t b))) m) d

  lists_now : (u p : TxId) → ((u ≡ t) → Dep v t p) → Lists v.log u p → Lists (v.log ++ Prepare t home ps ∷ []) u p
  lists_now u p dep old =
      ⊎_elim (λ same. let e = tx_true u t same in λ is. subst (λ z. IsListed (v.log ++ Prepare t home ps ∷ []) z p) (sym e) (own_listed p (dep e)))
      (λ other. lists_more v.log (Prepare t home ps ∷ []) u p (ap (λ b. b || false) other) old) (cases_Bool (tx_same u t))

  more_prepare : More v (Prepare t home ps ∷ [])
  more_prepare = record {
    same_standing = standing_append 0 v.log (Prepare t home ps ∷ []) [];
    not_active = λ u h. refl;
    not_gone = λ u h. refl;
    not_doomed = λ u d h. refl;
    not_dead = λ u h. refl;
    no_abort = λ u. refl;
    down = λ u p h c. absurd (both_ways false refl c);
    tidies = (tt, tt);
    brings = refl;
    starts = refl;
  }

  prepared_prepare : Prepared g.done g.met v.parts (v.log ++ Prepare t home ps ∷ [])
  prepared_prepare = record {
    unprepared = λ u a. unprepared_append v.log (Prepare t home ps ∷ []) u (k.prepared.unprepared u a) (or_from _ false (stage_apart v t u Closed Active closed a (λ s. absurd cc)) refl);
    sealed = sealed_append [] v.log (Prepare t home ps ∷ []) k.prepared.sealed (first, tt);
    causes = met_mono _ _ (λ x y h r. ⊎_elim (λ s. inl s) (λ dep. ⊎_elim (λ s. inl s) (λ old. inr (lists_now y.tx x.tx (λ e. subst (λ z. Dep v z x.tx) e dep) old)) (h.1 r)) (h.0 r)) g.done (met_both _ _ g.done k.causes k.prepared.causes);
    recover = λ u p e. lists_now u p (λ same. met_deps p (subst (λ z. is_pair g.met z p ≡ true) same e)) (k.prepared.recover u p e);
  }

  pub keeps_prepare : Kept g (record v { log = v.log ++ Prepare t home ps ∷ [] })
  keeps_prepare = keeps_records g v (Prepare t home ps ∷ []) k more_prepare prepared_prepare

-- ---- the durable front

dep_front : (v : View) (n : ℕ) (t p : TxId) → v.durable ≤ n → Dep v t p → Dep (record v { durable = n; flight = None }) t p
dep_front v n t p le d = ⊎_elim (λ h. inl (further v.log v.durable n p le h)) (λ h. inr h) d
  where
    further : (log : List LogRecord) (d e : ℕ) (tx : TxId) → d ≤ e → commit_durable log d tx ≡ true → commit_durable log e tx ≡ true
    further log d e tx le h = let m = durable_parts log d tx h in let l = m.2 in durable_from log e tx m.0 m.1 (omega arith)

pub keeps_front : (g : Past) (v : View) (n : ℕ) → Kept g v → v.durable ≤ n → Kept g (record v { durable = n; flight = None })
keeps_front g v n k le = record {
  start = k.start;
  past = k.past;
  log = k.log;
  records = k.records;
  locks = record { rows = k.rows; covered = k.covered; wrote = all_mono _ _ (λ x h out. h (false_from_ne_true _ (λ t. both_ways _ out (further v.log v.durable n x.tx le t)))) (standing v.log) k.wrote };
  parts = k.parts;
  fates = k.fates;
  ends = record {
    left = all_mono _ _ (λ x l. ⊎_elim (λ a. inl a) (λ a. inr (⊎_elim (λ o. inl o) (λ d. inr (further v.log v.durable n (doer x) le d)) a)) l) g.done k.left;
    over = λ t h. ⊎_elim (λ c. inl (further v.log v.durable n t le c)) (λ c. inr c) (k.over t h);
    recover = λ t p e. ⊎_elim (λ o. inl o) (λ d. inr (dep_front v n t p le d.0, d.1)) (k.recover t p e);
  };
  pairs = record { downwards = k.downwards; causes = met_mono _ _ (λ x y h r. ⊎_elim (λ s. inl s) (λ d. inr (dep_front v n y.tx x.tx le d)) (h r)) g.done k.causes };
  durable = record { base_done = all_mono _ _ (λ w h. further v.log v.durable n w.tx le h) g.base k.base_done; front = λ m e. absurd (none-some m e); floor_done = λ c l. k.floor_done c (omega (arith, le, l)); part_done = let d = k.part_done in omega (arith, le, d) };
}

pub keeps_flight : (g : Past) (v : View) (n : ℕ) → Kept g v → v.durable ≤ n → Kept g (record v { flight = Some n })
keeps_flight g v n k le =
    let front : KeptFront g.floor g.base v.log v.durable (Some n) = record { base_done = k.base_done; front = λ m e. subst (λ x. v.durable ≤ x) (same_Some n m e) le; floor_done = k.floor_done; part_done = k.part_done } in
    record { start = k.start; past = k.past; log = k.log; records = k.records; locks = k.locks; parts = k.parts; fates = k.fates; ends = k.ends; pairs = k.pairs; durable = front }

-- ---- a purge

kept_live : (locks : Locks) (k : ℕ) → is_free (At k) locks ≡ false → (v : Option ValueType) → is_locked_or_live locks (k, v) ≡ true
kept_live locks k e (Some v) = refl
kept_live locks k e None = ap not e

value_purged : (locks : Locks) (k : ℕ) (rs : Records) → Rising rs → value_at k (without_ghosts locks rs) ≡ value_at k rs
value_purged locks k [] h = refl
value_purged locks k (r ∷ rs) h =
    ⊎_elim
    (λ e. ap (λ l. value_at k l) (cond-true (is_locked_or_live locks r) (r ∷ without_ghosts locks rs) (without_ghosts locks rs) e) ∙ same (k == r.0) (value_purged locks k rs h.1))
    (λ e. ap (λ l. value_at k l) (cond-false (is_locked_or_live locks r) (r ∷ without_ghosts locks rs) (without_ghosts locks rs) e) ∙ value_purged locks k rs h.1 ∙ dropped r.1 e (k == r.0) (λ t. absent_above k rs (subst (λ j. AllByRecursion (λ q. j < q.0) rs) (sym (eqb-true k r.0 t)) h.0)))
    (cases_Bool (is_locked_or_live locks r))
  where
    same : (b : Bool) → live_by (record_at k (without_ghosts locks rs)) ≡ live_by (record_at k rs) → live_by (cond b (Some r.1) (record_at k (without_ghosts locks rs))) ≡ live_by (cond b (Some r.1) (record_at k rs))
    same true e = refl
    same false e = e

    dropped : (x : Option ValueType) → is_locked_or_live locks (r.0, x) ≡ false → (b : Bool) → (b ≡ true → record_at k rs ≡ None) → live_by (record_at k rs) ≡ live_by (cond b (Some x) (record_at k rs))
    dropped (Some v) e b none = absurd (both_ways true e refl)
    dropped None e true none = ap live_by (none refl)
    dropped None e false none = refl

at_key : (locks : Locks) (f : Bool) (p : Part) (a : Anchor) (tx : TxId) → holds f p a tx locks ≡ true → (q : ℕ × Option ValueType) → a ≡ At q.0 → is_locked_or_live locks q ≡ true
at_key locks f p a tx e q s = kept_live locks q.0 (subst (λ b. is_free b locks ≡ false) s (held_not_free f p a tx locks e)) q.1

purge_case : (locks : Locks) (rs : Records) (p : Part) (tx : TxId) (k : ℕ) (o : Option (Option ValueType)) → record_at k rs ≡ o → holds_by p locks rs tx k o ≡ true → holds_at p locks (without_ghosts locks rs) tx k ≡ true
purge_case locks rs p tx k (Some v) e h =
    subst (λ o. holds_by p locks (without_ghosts locks rs) tx k o ≡ true) (sym (record_kept (is_locked_or_live locks) k rs (λ x. at_key locks true p (At k) tx h (k, x) refl) ∙ e)) h
purge_case locks rs p tx k None e h =
    subst (λ o. holds_by p locks (without_ghosts locks rs) tx k o ≡ true) (sym (record_absent (is_locked_or_live locks) k rs e))
    (subst (λ a. holds false p a tx locks ≡ true) (sym (anchor_kept (is_locked_or_live locks) k Low (lower_anchor k rs) rs (λ q s. at_key locks false p (lower_anchor k rs) tx h q s) refl)) h)

purge_holds : (locks : Locks) (rs : Records) (p : Part) (tx : TxId) (k : ℕ) → holds_at p locks rs tx k ≡ true → holds_at p locks (without_ghosts locks rs) tx k ≡ true
purge_holds locks rs p tx k h = purge_case locks rs p tx k (record_at k rs) refl h

-- where none stands after a purge at a key that is held, none stood before
purge_stands : (locks : Locks) (rs : Records) (p : Part) (tx : TxId) (k : ℕ) (o : Option (Option ValueType)) → record_at k rs ≡ o → holds_by p locks rs tx k o ≡ true → record_at k (without_ghosts locks rs) ≡ None → o ≡ None
purge_stands locks rs p tx k (Some v) e h none = sym (record_kept (is_locked_or_live locks) k rs (λ x. at_key locks true p (At k) tx h (k, x) refl) ∙ e) ∙ none
purge_stands locks rs p tx k None e h none = refl

purge_part : (locks : Locks) (rs : Records) (tx : TxId) (p : Part) (k : ℕ) → HoldsPart rs locks tx p k → HoldsPart (without_ghosts locks rs) locks tx p k
purge_part locks rs tx p k h = (purge_holds locks rs p tx k h.0, λ l none. h.1 l (purge_stands locks rs p tx k (record_at k rs) refl h.0 none))

pub keeps_purge : (g : Past) (v : View) → Kept g v → Kept g (record v { records = without_ghosts v.locks v.records })
keeps_purge g v k = record {
  start = k.start;
  past = k.past;
  log = k.log;
  records = record { rises = rising_filter (is_locked_or_live v.locks) v.records k.rises; values = λ q. value_purged v.locks q v.records k.rises ∙ k.values q };
  locks = record {
    rows = k.rows;
    covered = all_mono _ _ (λ y h active. let c = h active in (λ q m. purge_part v.locks v.records y.tx (met_part (is_adding y)) q (c.0 q m), λ q m. purge_part v.locks v.records y.tx (wrote_part (is_adding y)) q (c.1 q m))) (items_in g.done) k.covered;
    wrote = all_mono _ _ (λ w h out. let c = h out in (c.0, λ none. c.1 (sym (record_kept (is_locked_or_live v.locks) w.key v.records (λ b. at_key v.locks true (part_for w.change) (At w.key) w.tx c.0 (w.key, b) refl)) ∙ none))) (standing v.log) k.wrote;
  };
  parts = k.parts;
  fates = k.fates;
  ends = k.ends;
  pairs = k.pairs;
  durable = k.durable;
}
