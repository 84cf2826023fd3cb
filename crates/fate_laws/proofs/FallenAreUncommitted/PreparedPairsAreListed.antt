-- What a shard's PREPAREs list: predecessors that were prepared or committed before, or let go; and each pair of a prepared one is listed, or
-- committed.
use Rattle.std.proofs.Common.{◌≡◌, ◌⊎◌, inl, inr, ⊎_elim, refl, sym, ap, subst, ◌∙◌, ℕ, true, false, not, Bool, ◌||◌, List, [], ◌∷◌, ◌++◌, Option, Some, None}
use Rattle.std.specs.List.{list_any}
use Rattle.std.proofs.lemmas.Bool.{both_ways, and_parts, or_cases, or_left, or_right, or_from, false_from_ne_true}
use Rattle.clv_base.specs.declared.names.TxId.{TxId}
use Rattle.clv_base.specs.declared.names.Birth.{Birth}
use Rattle.clv_base.specs.declared.ops.Op.{Op}
use Rattle.clv_base.specs.declared.ops.Op.TheVariants as ops
use Rattle.clv_base.specs.declared.logs.LogRecord.{LogRecord}
use Rattle.clv_base.specs.declared.logs.LogRecord.TheVariants.{Update, Prepare, Commit, Add}
use Rattle.clv_base.specs.declared.state.Stage.TheVariants.{Active, Closed}
use Rattle.clv_base.specs.Orders.{tx_same, tx_in, tx_get, pair_insert}
use Rattle.clv_base.specs.declared.changes.Change.{Change}
use Rattle.clv_base.specs.declared.changes.Change.TheVariants.{Sets, Adds}
use Rattle.clv_base.specs.Logs.{committed_in, prepared_in, wrote_in, has_standing, prepare_of, is_undo_of}
use Rattle.clv_base.specs.Locks.{violated, close_locks}
use Rattle.clv_base.specs.Needs.{needs_of, writes_of, value_at, key_of, Records}
use Rattle.clv_base.specs.State.{Local}
use Rattle.clv_base.specs.Undo.{stage_of, gone_in, pairs_without}
use Rattle.clv_base.specs.Facts.{predecessors_of, undecided_of}
use Rattle.clv_base.specs.OneShard.{written, locked, performed, violated_here, add_pairs, new_part, closed_in, close_part, closing}
use Rattle.clv_base.proofs.SameNames.{tx_true, tx_self, tx_flip}
use Rattle.law_base.proofs.Changed.{some_same}
use Rattle.law_base.proofs.Commits.{committed_keeps, committed_append}
use Rattle.law_base.proofs.Tables.{stage_by, stage_in, is_pair, pair_in, in_pair, without_pairs, add_from, insert_from}
use Rattle.law_base.proofs.Sets.{in_filter, filter_in}
use Rattle.law_base.proofs.LockRows.{Rows, violated_row}
use Rattle.shard_laws.proofs.Keeping.ChangesKeepPrepared.{prepared_append, prepare_here}
use Rattle.shard_laws.proofs.Order.WhoseWritesStand.{has_still}
use Rattle.law_base.proofs.Standing.{stood_before}
use Rattle.law_base.proofs.Stages.{stage_closed, closed_other, closed_back, active_back, other_part}
use Rattle.fate_laws.proofs.Logs.WhatAddsNoPrepare.{prepare_from, prepare_new}
use Rattle.fate_laws.proofs.Logs.WhatPreparesOrCommits.{new_active}
use Rattle.fate_laws.proofs.FallenAreUncommitted.PreparesListEarlierOnes.{Ahead, ahead_append}
use Rattle.law_base.specs.Coming.{is_let_go}
use Rattle.protocol_laws.proofs.LogsInOrder.OneRecordMore.{prepared_there}

-- prepared or committed
abbrev pub Decided : List LogRecord → TxId → Type 0
Decided log t = (prepared_in log t ≡ true) ⊎ (committed_in log t ≡ true)

pub record Lined (part : List LogRecord) (l : Local) : Type 0 where
  pub decided : (t : TxId) → stage_of l t ≡ Some Closed → has_standing l.log t ≡ true → Decided l.log t
  pub paired : (t q : TxId) → is_pair l.pairs t q ≡ true → Decided l.log q
  pub met : (t q : TxId) (p : ℕ × List TxId) → is_pair l.pairs t q ≡ true → prepare_of l.log t ≡ Some p → (tx_in q p.1 ≡ true) ⊎ (committed_in l.log q ≡ true)
  pub stands : (t : TxId) → prepared_in l.log t ≡ true → stage_of l t ≡ Some Closed → has_standing l.log t ≡ true
  pub unprepared : (t : TxId) → stage_of l t ≡ Some Active → prepared_in l.log t ≡ false
  pub ahead : Ahead part [] l.log

pub decided_more : (log more : List LogRecord) (t : TxId) → Decided log t → Decided (log ++ more) t
decided_more log more t (inl p) = inl (prepared_append log more t ∙ or_left _ _ p)
decided_more log more t (inr c) = inr (committed_keeps log more t c)

-- ---- records that are neither PREPARE nor UPDATE, at the end of the log; parts that go

-- what stands of a closed part goes on standing
pub record Plainly (part : List LogRecord) (l : Local) (more : List LogRecord) : Type 0 where
  pub prepares : (t : TxId) → prepared_in more t ≡ false
  pub updates : (t : TxId) → wrote_in more t ≡ false
  pub keeps : (t : TxId) → stage_of l t ≡ Some Closed → has_standing l.log t ≡ true → has_standing (l.log ++ more) t ≡ true
  pub ahead : Ahead part l.log more

or_first : (a b : Bool) → b ≡ false → (a || b) ≡ true → a ≡ true
or_first a b e f = ⊎_elim (λ h. h) (λ h. absurd (both_ways _ e h)) (or_cases a b f)

pub lined_more : (part : List LogRecord) (l : Local) (more : List LogRecord) → Plainly part l more → Lined part l → Lined part (record l { log = l.log ++ more })
lined_more part l more k p = record {
  decided = λ t c w. decided_more l.log more t (p.decided t c (stood_before l.log more t (k.updates t) w));
  paired = λ t q i. decided_more l.log more q (p.paired t q i);
  met = λ t q o i e. ⊎_elim (λ h. inl h) (λ h. inr (committed_keeps l.log more q h)) (p.met t q o i (prepare_from l.log more t o (k.prepares t) e));
  stands = λ t e c. k.keeps t c (p.stands t (back t e) c);
  unprepared = λ t a. false_from_ne_true _ (λ e. both_ways _ (p.unprepared t a) (back t e));
  ahead = ahead_append part [] l.log more p.ahead k.ahead;
}
  where
    back : (t : TxId) → prepared_in (l.log ++ more) t ≡ true → prepared_in l.log t ≡ true
    back t e = or_first (prepared_in l.log t) (prepared_in more t) (k.prepares t) (sym (prepared_append l.log more t) ∙ e)

pub lined_gone : (part : List LogRecord) (l m : Local) (set : List TxId) (d : Option TxId) → m.parts ≡ gone_in set d l.parts → m.pairs ≡ pairs_without set l.pairs → m.log ≡ l.log → Lined part l → Lined part m
lined_gone part l m set d f g h p = record {
  decided = λ t c w. subst (λ z. Decided z t) (sym h) (p.decided t (was_closed t c) (subst (λ z. has_standing z t ≡ true) h w));
  paired = λ t q i. subst (λ z. Decided z q) (sym h) (p.paired t q (old t q i));
  met = λ t q o i k. subst (λ z. (tx_in q o.1 ≡ true) ⊎ (committed_in z q ≡ true)) (sym h) (p.met t q o (old t q i) (subst (λ z. prepare_of z t ≡ Some o) h k));
  stands = λ t k c. subst (λ z. has_standing z t ≡ true) (sym h) (p.stands t (subst (λ z. prepared_in z t ≡ true) h k) (was_closed t c));
  unprepared = λ t a. subst (λ z. prepared_in z t ≡ false) (sym h) (p.unprepared t (active_back set d t l.parts (subst (λ z. stage_in z t ≡ Some Active) f a)).1);
  ahead = subst (Ahead part []) (sym h) p.ahead;
}
  where
    was_closed : (t : TxId) → stage_of m t ≡ Some Closed → stage_of l t ≡ Some Closed
    was_closed t c = closed_back set d t l.parts (subst (λ z. stage_in z t ≡ Some Closed) f c)

    old : (t q : TxId) → is_pair m.pairs t q ≡ true → is_pair l.pairs t q ≡ true
    old t q i = (without_pairs set l.pairs t q (subst (λ z. is_pair z t q ≡ true) g i)).0

-- ---- an operation

new_pair : (tx : TxId) (ps : List TxId) (pairs : List (TxId × TxId)) (t p : TxId) → is_pair (add_pairs tx ps pairs) t p ≡ true → (is_pair pairs t p ≡ true) ⊎ (tx_in p ps ≡ true)
new_pair tx [] pairs t p e = inl e
new_pair tx (q ∷ qs) pairs t p e =
    ⊎_elim (λ a. ⊎_elim (λ b. inl b) (λ b. let c = and_parts (tx_same t tx) (tx_same p q) b in inr (or_left (tx_same q p) (tx_in p qs) (tx_flip p q c.1))) (insert_from pairs (tx, q) t p a))
    (λ a. inr (or_right (tx_same q p) (tx_in p qs) a)) (new_pair tx qs (pair_insert (tx, q) pairs) t p e)

pub lined_performed : (part : List LogRecord) (l : Local) (tx : TxId) (birth : Birth) (op : Op) (P : TxId → Birth → Bool → Type 0) → Rows P l.locks → ((p : TxId) (b : Birth) → P p b true → stage_of l p ≡ Some Closed)
    → (stage_of l tx ≡ None) ⊎ (stage_of l tx ≡ Some Active) → prepared_in l.log tx ≡ false → Lined part l → Lined part (performed tx birth op l)
lined_performed part l tx birth op P rows closed st u p = by_write (writes_of op (value_at (key_of op) l.records))
  where
    differ : Some Active ≡ Some Closed → ⊥
    differ z = absurd cc

    was_closed : (t : TxId) → stage_in (new_part tx birth (tx_get tx l.parts) l.parts) t ≡ Some Closed → (t ≡ tx → ⊥) × (stage_of l t ≡ Some Closed)
    was_closed t c = at (tx_same t tx) refl
      where
        at : (b : Bool) → tx_same t tx ≡ b → (t ≡ tx → ⊥) × (stage_of l t ≡ Some Closed)
        at true e = absurd (differ (sym (new_active tx birth l.parts (tx_get tx l.parts) refl st) ∙ subst (λ v. stage_in (new_part tx birth (tx_get tx l.parts) l.parts) v ≡ Some Closed) (tx_true t tx e) c))
        at false e = ((λ q. both_ways _ e (subst (λ v. tx_same t v ≡ true) q (tx_self t))), sym (ap stage_by (other_part tx birth l.parts t (tx_get tx l.parts) e)) ∙ c)

    was_active : (t : TxId) → stage_in (new_part tx birth (tx_get tx l.parts) l.parts) t ≡ Some Active → prepared_in l.log t ≡ false
    was_active t a = at (tx_same t tx) refl
      where
        at : (b : Bool) → tx_same t tx ≡ b → prepared_in l.log t ≡ false
        at true e = subst (λ v. prepared_in l.log v ≡ false) (sym (tx_true t tx e)) u
        at false e = p.unprepared t (sym (ap stage_by (other_part tx birth l.parts t (tx_get tx l.parts) e)) ∙ a)

    is_paired : (log : List LogRecord) → ((q : TxId) → Decided l.log q → Decided log q) → (t q : TxId) → is_pair (add_pairs tx (violated_here l tx op) l.pairs) t q ≡ true → Decided log q
    is_paired log more t q i =
        more q (⊎_elim (λ k. p.paired t q k)
        (λ k.
        let v = in_filter (has_standing l.log) q (violated tx (needs_of op l.records) l.locks) k in
        let r = violated_row P tx q (needs_of op l.records) l.locks rows v.0 in
        p.decided q (closed q r.0 r.1) v.1)
        (new_pair tx (violated_here l tx op) l.pairs t q i))

    is_met : (t q : TxId) (o : ℕ × List TxId) → is_pair (add_pairs tx (violated_here l tx op) l.pairs) t q ≡ true → prepare_of l.log t ≡ Some o → (tx_in q o.1 ≡ true) ⊎ (committed_in l.log q ≡ true)
    is_met t q o i e =
        ⊎_elim (λ k. p.met t q o k e) (λ k. absurd (both_ways _ u (subst (λ z. prepared_in l.log z ≡ true) k (prepared_there l.log t o e)))) (add_from tx (violated_here l tx op) l.pairs t q i)

    -- its UPDATE or ADD
    by_more : (rs : Records) (more : List LogRecord) → ((t : TxId) → wrote_in more t ≡ (tx_same t tx || false)) → ((t : TxId) → list_any (is_undo_of t) more ≡ false) → ((t : TxId) → prepared_in more t ≡ false) → Ahead part l.log more
        → Lined part (record (locked tx birth op l) { records = rs; log = l.log ++ more })
    by_more rs more own undo none further = record {
      decided = λ t c v. decided_more l.log more t
          (p.decided t (was_closed t c).1 (stood_before l.log more t (own t ∙ ap (λ b. b || false) (false_from_ne_true _ (λ e. (was_closed t c).0 (tx_true t tx e)))) v));
      paired = λ t q i. is_paired (l.log ++ more) (λ q k. decided_more l.log more q k) t q i;
      met = λ t q o i f. ⊎_elim (λ h. inl h) (λ h. inr (committed_keeps l.log more q h)) (is_met t q o i (prepare_from l.log more t o (none t) f));
      stands = λ t k c. has_still l.log more t (undo t) (p.stands t (or_first (prepared_in l.log t) (prepared_in more t) (none t) (sym (prepared_append l.log more t) ∙ k)) (was_closed t c).1);
      unprepared = λ t a. prepared_append l.log more t ∙ or_from _ _ (was_active t a) (none t);
      ahead = ahead_append part [] l.log more p.ahead further;
    }

    by_write : (w : Option (ℕ × Change)) → Lined part (written tx w (locked tx birth op l))
    by_write None = record {
      decided = λ t c w. p.decided t (was_closed t c).1 w;
      paired = λ t q i. is_paired l.log (λ q k. k) t q i;
      met = is_met;
      stands = λ t k c. p.stands t k (was_closed t c).1;
      unprepared = was_active;
      ahead = p.ahead;
    }
    by_write (Some (key, Sets before after)) = by_more _ (Update tx key before after ∷ []) (λ t. refl) (λ t. refl) (λ t. refl) (tt, tt)
    by_write (Some (key, Adds by)) = by_more _ (Add tx key by ∷ []) (λ t. refl) (λ t. refl) (λ t. refl) (tt, tt)

-- ---- a part that closes

record Closing (part : List LogRecord) (l : Local) (tx : TxId) (more : List LogRecord) : Type 0 where
  mine : has_standing l.log tx ≡ true → Decided (l.log ++ more) tx
  prepares : (t : TxId) (p : ℕ × List TxId) → prepare_of (l.log ++ more) t ≡ Some p → (prepare_of l.log t ≡ Some p) ⊎ ((t ≡ tx) × (p.1 ≡ undecided_of l tx))
  prepared : (t : TxId) → prepared_in (l.log ++ more) t ≡ true → (prepared_in l.log t ≡ true) ⊎ ((t ≡ tx) × (has_standing l.log tx ≡ true))
  updates : (t : TxId) → wrote_in more t ≡ false
  keeps : (t : TxId) → has_standing l.log t ≡ true → has_standing (l.log ++ more) t ≡ true
  ahead : Ahead part l.log more

closed_by : (part : List LogRecord) (l : Local) (tx : TxId) (more : List LogRecord) → stage_of l tx ≡ Some Active → Closing part l tx more → Lined part l → Lined part (record l { locks = close_locks tx l.locks; parts = closed_in tx l.parts; log = l.log ++ more })
closed_by part l tx more a k p = record {
  decided = λ t c w. is_decided t (tx_same tx t) refl c (stood_before l.log more t (k.updates t) w);
  paired = λ t q i. decided_more l.log more q (p.paired t q i);
  met = λ t q o i e. ⊎_elim (λ f. ⊎_elim (λ h. inl h) (λ h. inr (committed_keeps l.log more q h)) (p.met t q o i f)) (λ f. new_met q o (subst (λ z. is_pair l.pairs z q ≡ true) f.0 i) f.1 (committed_in l.log q) refl) (k.prepares t o e);
  stands = λ t e c. k.keeps t (⊎_elim (λ f. old_stands t (tx_same tx t) refl f c) (λ f. subst (λ z. has_standing l.log z ≡ true) (sym f.0) f.1) (k.prepared t e));
  unprepared = λ t b. false_from_ne_true _ (λ e. by_name t (tx_same tx t) refl b e);
  ahead = ahead_append part [] l.log more p.ahead k.ahead;
}
  where
    differ : Some Active ≡ Some Closed → ⊥
    differ z = absurd cc

    is_decided : (t : TxId) (b : Bool) → tx_same tx t ≡ b → stage_in (closed_in tx l.parts) t ≡ Some Closed → has_standing l.log t ≡ true → Decided (l.log ++ more) t
    is_decided t true e c w = subst (Decided (l.log ++ more)) (tx_true tx t e) (k.mine (subst (λ z. has_standing l.log z ≡ true) (sym (tx_true tx t e)) w))
    is_decided t false e c w = decided_more l.log more t (p.decided t (sym (closed_other l.parts tx t e) ∙ c) w)

    old_stands : (t : TxId) (b : Bool) → tx_same tx t ≡ b → prepared_in l.log t ≡ true → stage_in (closed_in tx l.parts) t ≡ Some Closed → has_standing l.log t ≡ true
    old_stands t true e f c = absurd (both_ways _ (p.unprepared tx a) (subst (λ z. prepared_in l.log z ≡ true) (sym (tx_true tx t e)) f))
    old_stands t false e f c = p.stands t f (sym (closed_other l.parts tx t e) ∙ c)

    new_met : (q : TxId) (o : ℕ × List TxId) → is_pair l.pairs tx q ≡ true → o.1 ≡ undecided_of l tx → (b : Bool) → committed_in l.log q ≡ b → (tx_in q o.1 ≡ true) ⊎ (committed_in (l.log ++ more) q ≡ true)
    new_met q o i f true e = inr (committed_keeps l.log more q e)
    new_met q o i f false e = inl (subst (λ z. tx_in q z ≡ true) (sym f) (filter_in (λ z. not (committed_in l.log z)) q (predecessors_of l.pairs tx) (pair_in l.pairs tx q i) (ap not e)))

    by_name : (t : TxId) (b : Bool) → tx_same tx t ≡ b → stage_in (closed_in tx l.parts) t ≡ Some Active → prepared_in (l.log ++ more) t ≡ true → ⊥
    by_name t true e b h = differ (sym b ∙ subst (λ z. stage_in (closed_in tx l.parts) z ≡ Some Closed) (tx_true tx t e) (stage_closed l.parts tx a))
    by_name t false e b h = ⊎_elim (λ f. both_ways _ (p.unprepared t (sym (closed_other l.parts tx t e) ∙ b)) f) (λ f. both_ways _ e (subst (λ z. tx_same tx z ≡ true) (sym f.0) (tx_self tx))) (k.prepared t h)

closing_prepare : (part : List LogRecord) (l : Local) (tx : TxId) (home : ℕ) (us : List TxId) → stage_of l tx ≡ Some Active → is_let_go part tx ≡ false → has_standing l.log tx ≡ true → us ≡ undecided_of l tx → Lined part l → Closing part l tx (Prepare tx home us ∷ [])
closing_prepare part l tx home us a v w e p =
    let more = Prepare tx home us ∷ [] in
    let u = p.unprepared tx a in
    record {
      mine = λ x. inl (prepared_append l.log more tx ∙ or_right (prepared_in l.log tx) _ (or_left (tx_same tx tx) false (tx_self tx)));
      prepares = λ t q f. ⊎_elim (λ h. inl h) (λ h. inr (h.0, own_list q (subst (λ z. prepare_of (l.log ++ Prepare tx home us ∷ []) z ≡ Some q) h.0 f) ∙ e)) (prepare_new l.log tx home us t q f);
      prepared = λ t f. ⊎_elim (λ h. inl h) (λ h. ⊎_elim (λ s. inr (tx_true t tx s, w)) (λ s. absurd (both_ways false refl s)) (or_cases (tx_same t tx) false h)) (or_cases (prepared_in l.log t) (prepared_in more t) (sym (prepared_append l.log more t) ∙ f));
      updates = λ t. refl;
      keeps = λ t h. has_still l.log more t refl h;
      ahead = ((u, v, λ q i. ⊎_elim (λ k. inl k) (λ k. inr (inl k)) (p.paired tx q (in_pair l.pairs tx q (in_filter (λ z. not (committed_in l.log z)) q (predecessors_of l.pairs tx) (subst (λ z. tx_in q z ≡ true) e i)).0))), tt);
    }
  where
    own_list : (q : ℕ × List TxId) → prepare_of (l.log ++ Prepare tx home us ∷ []) tx ≡ Some q → q.1 ≡ us
    own_list q f = sym (ap (λ (z : ℕ × List TxId). z.1) (some_same (home, us) q (sym (prepare_here l.log [] tx home us (p.unprepared tx a)) ∙ f)))

closing_plain : (part : List LogRecord) (l : Local) (tx : TxId) (more : List LogRecord) → (has_standing l.log tx ≡ true → Decided (l.log ++ more) tx) → ((t : TxId) → prepared_in more t ≡ false) → ((t : TxId) → wrote_in more t ≡ false) → ((t : TxId) → list_any (is_undo_of t) more ≡ false) → Ahead part l.log more → Closing part l tx more
closing_plain part l tx more m n w z a = record {
  mine = m;
  prepares = λ t p e. inl (prepare_from l.log more t p (n t) e);
  prepared = λ t e. inl (or_first (prepared_in l.log t) (prepared_in more t) (n t) (sym (prepared_append l.log more t) ∙ e));
  updates = w;
  keeps = λ t h. has_still l.log more t (z t) h;
  ahead = a;
}

closing_kind : (part : List LogRecord) (l : Local) (tx : TxId) (home : ℕ) (b one : Bool) (us : List TxId) → stage_of l tx ≡ Some Active → is_let_go part tx ≡ false → has_standing l.log tx ≡ b → us ≡ undecided_of l tx → Lined part l → Closing part l tx (closing b one tx home us)
closing_kind part l tx home false one us a o w e p = closing_plain part l tx [] (λ x. absurd (both_ways _ w x)) (λ t. refl) (λ t. refl) (λ t. refl) tt
closing_kind part l tx home true true [] a o w e p =
    closing_plain part l tx (Commit tx [] ∷ []) (λ x. inr (committed_append l.log (Commit tx [] ∷ []) tx ∙ or_right (committed_in l.log tx) _ (or_left (tx_same tx tx) false (tx_self tx)))) (λ t. refl) (λ t. refl) (λ t. refl) (tt, tt)
closing_kind part l tx home true true (v ∷ vs) a o w e p = closing_prepare part l tx home (v ∷ vs) a o w e p
closing_kind part l tx home true false us a o w e p = closing_prepare part l tx home us a o w e p

pub lined_closed : (part : List LogRecord) (l : Local) (tx : TxId) (home : ℕ) (one : Bool) → stage_of l tx ≡ Some Active → is_let_go part tx ≡ false → Lined part l → Lined part (close_part tx home one l)
lined_closed part l tx home one a o p = closed_by part l tx (closing (has_standing l.log tx) one tx home (undecided_of l tx)) a (closing_kind part l tx home (has_standing l.log tx) one (undecided_of l tx) a o refl refl p) p
