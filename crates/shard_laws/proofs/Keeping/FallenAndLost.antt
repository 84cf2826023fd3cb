-- Who fell: whose part here went without a commit; and who is lost, since it fell or depends on one that is lost.
use Rattle.std.proofs.Common.{◌≡◌, ◌⊎◌, inl, inr, refl, sym, ap, subst, ◌∙◌, ◌≤◌, zero, suc, Bool, true, false, ◌||◌, List, [], ◌∷◌, ◌++◌, Option, Some, None, arith, ℕ, ⊎_elim}
use Rattle.std.specs.Prelude.{take}
use Rattle.std.proofs.lemmas.Bool.{cases_Bool, both_ways, or_cases, false_from_ne_true}
use Rattle.std.specs.List.{list_any}
use Rattle.clv_base.specs.declared.names.TxId.{TxId}
use Rattle.clv_base.specs.declared.logs.LogRecord.{LogRecord}
use Rattle.clv_base.specs.declared.logs.LogRecord.TheVariants.{Prepare}
use Rattle.clv_base.specs.declared.state.Stage.{Stage}
use Rattle.clv_base.specs.declared.state.Stage.TheVariants.{Active}
use Rattle.clv_base.specs.declared.state.Held.{Held}
use Rattle.clv_base.specs.Orders.{Table, tx_same, tx_in}
use Rattle.clv_base.specs.State.{is_present}
use Rattle.clv_base.specs.Logs.{committed_in, prepared_in, aborted_in, is_abort_of}
use Rattle.clv_base.specs.LogRules.{listed_in}
use Rattle.clv_base.specs.Undo.{gone_in, pairs_without}
use Rattle.clv_base.proofs.SameNames.{or_left, or_right, tx_true, tx_eq, tx_ne}
use Rattle.law_base.proofs.Tables.{stage_in, is_pair, without_pairs, pairs_stay}
use Rattle.law_base.proofs.Commits.{commit_durable, durable_keeps, uncommitted_append, committed_append, committed_keeps}
use Rattle.shard_laws.specs.OneShard.{is_doomed}
use Rattle.shard_laws.proofs.Keeping.ChangesKeepPrepared.{prepared_append}
use Rattle.shard_laws.proofs.Keeping.LeavingKeeps.{in_first, in_more, in_two}
use Rattle.law_base.proofs.Stages.{stage_other, stage_own, gone_by, own_go}
use Rattle.shard_laws.proofs.Order.ChangesKeepOrder.{listed_same, unlisted}
use Rattle.clv_base.specs.OneShard.{add_pairs}
use Rattle.law_base.proofs.Tables.{add_keeps, add_has}
use Rattle.law_base.proofs.Sets.{none_listed}
use Rattle.shard_laws.proofs.Order.OperationsKeepOrder.{add_which}

-- it fell before this step, or its part is gone by an abort now
abbrev pub Fell : List TxId → Table Held → TxId → Type 0
Fell fell parts t = (tx_in t fell ≡ true) ⊎ (is_doomed (stage_in parts t) ≡ true)

pub record Falls (asked fell lost over : List TxId) (parts : Table Held) (pairs : List (TxId × TxId)) (log : List LogRecord) (durable : ℕ) : Type 0 where
  -- who fell is lost; who is lost is neither committed nor finished, and fell or has a predecessor that is lost; whose predecessor is lost is
  -- lost; and who lists one that is lost is lost, or its ABORT is durable
  pub fallen : (t : TxId) → Fell fell parts t → tx_in t lost ≡ true
  pub open_ : (t : TxId) → tx_in t lost ≡ true → committed_in log t ≡ false
  pub unfinished : (t : TxId) → tx_in t lost ≡ true → tx_in t over ≡ false
  pub why : (t : TxId) → tx_in t lost ≡ true → Fell fell parts t ⊎ ((p : TxId) × (is_pair pairs t p ≡ true) × (tx_in p lost ≡ true))
  pub up : (t p : TxId) → is_pair pairs t p ≡ true → tx_in p lost ≡ true → tx_in t lost ≡ true
  pub lists : (t p : TxId) → tx_in p (listed_in log t) ≡ true → tx_in p lost ≡ true → (tx_in t lost ≡ true) ⊎ (aborted_in (take durable log) t ≡ true)
  -- who fell and is here is prepared; who is prepared and not committed asked, or its ABORT is durable; and where it is not here it fell, or
  -- its ABORT is durable
  pub back : (t : TxId) → tx_in t fell ≡ true → is_present (stage_in parts t) ≡ true → prepared_in log t ≡ true
  pub owns : (t : TxId) → prepared_in log t ≡ true → committed_in log t ≡ false → (tx_in t asked ≡ true) ⊎ (aborted_in (take durable log) t ≡ true)
  pub gone : (t : TxId) → prepared_in log t ≡ true → committed_in log t ≡ false → is_present (stage_in parts t) ≡ false → Fell fell parts t ⊎ (aborted_in (take durable log) t ≡ true)
  -- who is committed and not here is so durably; a PREPARE lists the predecessors that are not committed
  pub settled : (t : TxId) → committed_in log t ≡ true → is_present (stage_in parts t) ≡ false → commit_durable log durable t ≡ true
  pub paired : (t p : TxId) → is_pair pairs t p ≡ true → prepared_in log t ≡ true → (tx_in p (listed_in log t) ≡ true) ⊎ (committed_in log p ≡ true)

-- ---- records more

pub take_more : (test : LogRecord → Bool) (n : ℕ) (xs ys : List LogRecord) → list_any test (take n xs) ≡ true → list_any test (take n (xs ++ ys)) ≡ true
take_more test zero xs ys e = e
take_more test (suc n) [] ys e = absurd (both_ways false refl e)
take_more test (suc n) (x ∷ xs) ys e = ⊎_elim (λ h. or_left _ _ h) (λ h. or_right (test x) _ (take_more test n xs ys h)) (or_cases (test x) (list_any test (take n xs)) e)

pub take_further : (test : LogRecord → Bool) (m n : ℕ) (xs : List LogRecord) → m ≤ n → list_any test (take m xs) ≡ true → list_any test (take n xs) ≡ true
take_further test zero n xs l e = absurd (both_ways false refl e)
take_further test (suc m) zero xs l e = absurd (omega (arith, l))
take_further test (suc m) (suc n) [] l e = absurd (both_ways false refl e)
take_further test (suc m) (suc n) (x ∷ xs) l e = ⊎_elim (λ h. or_left _ _ h) (λ h. or_right (test x) _ (take_further test m n xs (omega (arith, l)) h)) (or_cases (test x) (list_any test (take m xs)) e)

-- a durable ABORT stays durable
aborts_more : {P : Type 0} (durable : ℕ) (log more : List LogRecord) (t : TxId) → P ⊎ (aborted_in (take durable log) t ≡ true) → P ⊎ (aborted_in (take durable (log ++ more)) t ≡ true)
aborts_more durable log more t (inl p) = inl p
aborts_more durable log more t (inr a) = inr (take_more (is_abort_of t) durable log more a)

aborts_further : {P : Type 0} (durable n : ℕ) (log : List LogRecord) (t : TxId) → durable ≤ n → P ⊎ (aborted_in (take durable log) t ≡ true) → P ⊎ (aborted_in (take n log) t ≡ true)
aborts_further durable n log t l (inl p) = inl p
aborts_further durable n log t l (inr a) = inr (take_further (is_abort_of t) durable n log l a)

-- records of which none is a PREPARE, and whose COMMITs are of those that are here and not lost
module _ (asked fell lost over : List TxId) (parts : Table Held) (pairs : List (TxId × TxId)) (log more : List LogRecord) (durable : ℕ) (f : Falls asked fell lost over parts pairs log durable) where
  old_prepared : (t : TxId) → prepared_in more t ≡ false → prepared_in (log ++ more) t ≡ true → prepared_in log t ≡ true
  old_prepared t n e = ⊎_elim (λ h. h) (λ h. absurd (both_ways _ n h)) (or_cases (prepared_in log t) (prepared_in more t) (sym (prepared_append log more t) ∙ e))

  old_open : (t : TxId) → committed_in (log ++ more) t ≡ false → committed_in log t ≡ false
  old_open t e = false_from_ne_true _ (λ c. both_ways _ e (committed_keeps log more t c))

  pub falls_more : ((t : TxId) → prepared_in more t ≡ false) → ((t : TxId) → committed_in more t ≡ true → (is_present (stage_in parts t) ≡ true) × (tx_in t lost ≡ false)) → Falls asked fell lost over parts pairs (log ++ more) durable
  falls_more unprepared commits = record {
    fallen = f.fallen;
    open_ = λ t l. uncommitted_append log more t (f.open_ t l) (false_from_ne_true _ (λ c. both_ways _ (commits t c).1 l));
    unfinished = f.unfinished;
    why = f.why;
    up = f.up;
    lists = λ t p i l. aborts_more durable log more t (f.lists t p (ap (tx_in p) (sym (listed_same log more t (unprepared t))) ∙ i) l);
    back = λ t i h. prepared_append log more t ∙ or_left _ _ (f.back t i h);
    owns = λ t p c. aborts_more durable log more t (f.owns t (old_prepared t (unprepared t) p) (old_open t c));
    gone = λ t p c h. aborts_more durable log more t (f.gone t (old_prepared t (unprepared t) p) (old_open t c) h);
    settled = λ t c h. durable_keeps log more durable durable t (omega arith) (f.settled t (⊎_elim (λ k. k) (λ k. absurd (both_ways _ h (commits t k).0)) (or_cases (committed_in log t) (committed_in more t) (sym (committed_append log more t) ∙ c))) h);
    paired = λ t p e q. ⊎_elim (λ i. inl (ap (tx_in p) (listed_same log more t (unprepared t)) ∙ i)) (λ c. inr (committed_keeps log more p c)) (f.paired t p e (old_prepared t (unprepared t) q));
  }

-- a PREPARE of an active part, which lists its predecessors that are not committed
pub falls_prepare : (asked fell lost over : List TxId) (parts : Table Held) (pairs : List (TxId × TxId)) (log : List LogRecord) (durable : ℕ) (t : TxId) (home : ℕ) (ps : List TxId) → Falls asked fell lost over parts pairs log durable → is_present (stage_in parts t) ≡ true → tx_in t asked ≡ true → listed_in (log ++ Prepare t home ps ∷ []) t ≡ ps
    → ((p : TxId) → tx_in p ps ≡ true → is_pair pairs t p ≡ true) → ((p : TxId) → is_pair pairs t p ≡ true → (committed_in log p ≡ true) ⊎ (tx_in p ps ≡ true)) → Falls asked fell lost over parts pairs (log ++ Prepare t home ps ∷ []) durable
falls_prepare asked fell lost over parts pairs log durable t home ps f here asks listed mine all_mine = record {
  fallen = f.fallen;
  open_ = λ u l. uncommitted_append log (Prepare t home ps ∷ []) u (f.open_ u l) refl;
  unfinished = f.unfinished;
  why = f.why;
  up = f.up;
  lists = λ u p i l. ⊎_elim
      (λ s. let e = tx_true u t s in inl (subst (λ z. tx_in z lost ≡ true) (sym e) (f.up t p (mine p (ap (tx_in p) (sym listed) ∙ subst (λ z. tx_in p (listed_in (log ++ Prepare t home ps ∷ []) z) ≡ true) e i)) l)))
      (λ n. aborts_more durable log (Prepare t home ps ∷ []) u (f.lists u p (ap (tx_in p) (sym (listed_same log (Prepare t home ps ∷ []) u (ap (λ b. b || false) n))) ∙ i) l)) (cases_Bool (tx_same u t));
  back = λ u i h. prepared_append log (Prepare t home ps ∷ []) u ∙ or_left _ _ (f.back u i h);
  owns = λ u p c. ⊎_elim (λ s. inl (subst (λ z. tx_in z asked ≡ true) (sym (tx_true u t s)) asks)) (λ n. aborts_more durable log (Prepare t home ps ∷ []) u (f.owns u (other u n p) (was_open u c))) (cases_Bool (tx_same u t));
  gone = λ u p c h. aborts_more durable log (Prepare t home ps ∷ []) u (f.gone u (other u (absent u h) p) (was_open u c) h);
  settled = λ u c h. durable_keeps log (Prepare t home ps ∷ []) durable durable u (omega arith) (f.settled u (⊎_elim (λ k. k) (λ k. absurd (both_ways false refl k)) (or_cases (committed_in log u) false (sym (committed_append log (Prepare t home ps ∷ []) u) ∙ c))) h);
  paired = λ u p e q. ⊎_elim
      (λ s. let same = tx_true u t s in ⊎_elim (λ c. inr (committed_keeps log (Prepare t home ps ∷ []) p c)) (λ i. inl (subst (λ z. tx_in p (listed_in (log ++ Prepare t home ps ∷ []) z) ≡ true) (sym same) (ap (tx_in p) listed ∙ i))) (all_mine p (subst (λ z. is_pair pairs z p ≡ true) same e)))
      (λ n. ⊎_elim (λ i. inl (ap (tx_in p) (listed_same log (Prepare t home ps ∷ []) u (ap (λ b. b || false) n)) ∙ i)) (λ c. inr (committed_keeps log (Prepare t home ps ∷ []) p c)) (f.paired u p e (other u n q))) (cases_Bool (tx_same u t));
}
  where
    other : (u : TxId) → tx_same u t ≡ false → prepared_in (log ++ Prepare t home ps ∷ []) u ≡ true → prepared_in log u ≡ true
    other u n e = ⊎_elim (λ h. h) (λ h. absurd (both_ways _ (ap (λ b. b || false) n) h)) (or_cases (prepared_in log u) (prepared_in (Prepare t home ps ∷ []) u) (sym (prepared_append log (Prepare t home ps ∷ []) u) ∙ e))

    absent : (u : TxId) → is_present (stage_in parts u) ≡ false → tx_same u t ≡ false
    absent u h = tx_ne u t (λ s. both_ways _ h (ap is_present (ap (stage_in parts) s) ∙ here))

    was_open : (u : TxId) → committed_in (log ++ Prepare t home ps ∷ []) u ≡ false → committed_in log u ≡ false
    was_open u c = false_from_ne_true _ (λ k. both_ways _ c (committed_keeps log (Prepare t home ps ∷ []) u k))

-- one more asked
pub falls_asked : (asked fell lost over : List TxId) (parts : Table Held) (pairs : List (TxId × TxId)) (log : List LogRecord) (durable : ℕ) (t : TxId) → Falls asked fell lost over parts pairs log durable → Falls (asked ++ t ∷ []) fell lost over parts pairs log durable
falls_asked asked fell lost over parts pairs log durable t f = record {
  fallen = f.fallen;
  open_ = f.open_;
  unfinished = f.unfinished;
  why = f.why;
  up = f.up;
  lists = f.lists;
  back = f.back;
  owns = λ u p c. ⊎_elim (λ a. inl (in_first asked (t ∷ []) u a)) (λ a. inr a) (f.owns u p c);
  gone = f.gone;
  settled = f.settled;
  paired = f.paired;
}

-- ---- the parts

-- whose presence and doom stay
pub falls_parts : (asked fell lost over : List TxId) (parts parts2 : Table Held) (pairs : List (TxId × TxId)) (log : List LogRecord) (durable : ℕ) → ((t : TxId) → is_present (stage_in parts2 t) ≡ is_present (stage_in parts t)) → ((t : TxId) → is_doomed (stage_in parts2 t) ≡ is_doomed (stage_in parts t))
    → Falls asked fell lost over parts pairs log durable → Falls asked fell lost over parts2 pairs log durable
falls_parts asked fell lost over parts parts2 pairs log durable same doom f = record {
  fallen = λ t e. f.fallen t (⊎_elim (λ a. inl a) (λ a. inr (sym (doom t) ∙ a)) e);
  open_ = f.open_;
  unfinished = f.unfinished;
  why = λ t l. ⊎_elim (λ e. inl (to t e)) (λ q. inr q) (f.why t l);
  up = f.up;
  lists = f.lists;
  back = λ t i h. f.back t i (sym (same t) ∙ h);
  owns = f.owns;
  gone = λ t p c h. ⊎_elim (λ e. inl (to t e)) (λ r. inr r) (f.gone t p c (sym (same t) ∙ h));
  settled = λ t c h. f.settled t c (sym (same t) ∙ h);
  paired = f.paired;
}
  where
    to : (t : TxId) → Fell fell parts t → Fell fell parts2 t
    to t (inl i) = inl i
    to t (inr d) = inr (doom t ∙ d)

-- the durable front
pub falls_front : (asked fell lost over : List TxId) (parts : Table Held) (pairs : List (TxId × TxId)) (log : List LogRecord) (durable n : ℕ) → durable ≤ n → ((t : TxId) → commit_durable log durable t ≡ true → commit_durable log n t ≡ true) → Falls asked fell lost over parts pairs log durable → Falls asked fell lost over parts pairs log n
falls_front asked fell lost over parts pairs log durable n l further f = record {
  fallen = f.fallen;
  open_ = f.open_;
  unfinished = f.unfinished;
  why = f.why;
  up = f.up;
  lists = λ t p i k. aborts_further durable n log t l (f.lists t p i k);
  back = f.back;
  owns = λ t p c. aborts_further durable n log t l (f.owns t p c);
  gone = λ t p c h. aborts_further durable n log t l (f.gone t p c h);
  settled = λ t c h. further t (f.settled t c h);
  paired = f.paired;
}

-- one more is told of
pub falls_over : (asked fell lost over : List TxId) (parts : Table Held) (pairs : List (TxId × TxId)) (log : List LogRecord) (durable : ℕ) (t : TxId) → tx_in t lost ≡ false → Falls asked fell lost over parts pairs log durable → Falls asked fell lost (t ∷ over) parts pairs log durable
falls_over asked fell lost over parts pairs log durable t n f = record {
  fallen = f.fallen;
  open_ = f.open_;
  unfinished = λ u l. neither (tx_same t u) (tx_in u over) (tx_ne t u (λ s. both_ways _ n (subst (λ z. tx_in z lost ≡ true) (sym s) l))) (f.unfinished u l);
  why = f.why;
  up = f.up;
  lists = f.lists;
  back = f.back;
  owns = f.owns;
  gone = f.gone;
  settled = f.settled;
  paired = f.paired;
}
  where
    neither : (a b : Bool) → a ≡ false → b ≡ false → (a || b) ≡ false
    neither true b e f = e
    neither false b e f = f

-- one that is not lost leaves, with a durable COMMIT or without a PREPARE
pub falls_finish : (asked fell lost over : List TxId) (parts : Table Held) (pairs : List (TxId × TxId)) (log : List LogRecord) (durable : ℕ) (t : TxId) → Falls asked fell lost over parts pairs log durable → tx_in t lost ≡ false
    → (committed_in log t ≡ true → commit_durable log durable t ≡ true) → (prepared_in log t ≡ true → committed_in log t ≡ true) → Falls asked fell lost over (gone_in (t ∷ []) None parts) (pairs_without (t ∷ []) pairs) log durable
falls_finish asked fell lost over parts pairs log durable t f n durably prepared = record {
  fallen = λ u e. f.fallen u (⊎_elim (λ i. inl i) (λ d. inr (undoomed u d)) e);
  open_ = f.open_;
  unfinished = f.unfinished;
  why = λ u l. let out = other u l in ⊎_elim (λ e. inl (⊎_elim (λ i. inl i) (λ d. inr (ap is_doomed (stage_other (t ∷ []) None u parts out) ∙ d)) e)) (λ q. inr (q.0, pairs_stay (t ∷ []) pairs u q.0 out q.1, q.2)) (f.why u l);
  up = λ u p e l. f.up u p (without_pairs (t ∷ []) pairs u p e).0 l;
  lists = f.lists;
  back = λ u i h. f.back u i (was u h);
  owns = f.owns;
  gone = λ u p c h. ⊎_elim (λ i. absurd (both_ways _ c (ap (committed_in log) (one u i) ∙ prepared (ap (prepared_in log) (sym (one u i)) ∙ p))))
      (λ i. ⊎_elim (λ e. inl (⊎_elim (λ a. inl a) (λ d. inr (ap is_doomed (stage_other (t ∷ []) None u parts i) ∙ d)) e)) (λ r. inr r) (f.gone u p c (ap is_present (sym (stage_other (t ∷ []) None u parts i)) ∙ h))) (cases_Bool (tx_in u (t ∷ [])));
  settled = λ u c h. ⊎_elim (λ i. ap (commit_durable log durable) (one u i) ∙ durably (ap (committed_in log) (sym (one u i)) ∙ c)) (λ i. f.settled u c (ap is_present (sym (stage_other (t ∷ []) None u parts i)) ∙ h)) (cases_Bool (tx_in u (t ∷ [])));
  paired = λ u p e q. f.paired u p (without_pairs (t ∷ []) pairs u p e).0 q;
}
  where
    one : (u : TxId) → tx_in u (t ∷ []) ≡ true → u ≡ t
    one u e = ⊎_elim (λ h. sym (tx_true t u h)) (λ h. absurd (both_ways false refl h)) (or_cases (tx_same t u) false e)

    other : (u : TxId) → tx_in u lost ≡ true → tx_in u (t ∷ []) ≡ false
    other u l = false_from_ne_true _ (λ i. both_ways _ n (subst (λ z. tx_in z lost ≡ true) (one u i) l))

    gone_undoomed : (o : Option Stage) → is_doomed (gone_by None o) ≡ false
    gone_undoomed None = refl
    gone_undoomed (Some s) = refl

    undoomed : (u : TxId) → is_doomed (stage_in (gone_in (t ∷ []) None parts) u) ≡ true → is_doomed (stage_in parts u) ≡ true
    undoomed u d = ⊎_elim (λ i. absurd (both_ways _ (ap is_doomed (stage_own (t ∷ []) None u parts i) ∙ gone_undoomed (stage_in parts u)) d)) (λ i. ap is_doomed (sym (stage_other (t ∷ []) None u parts i)) ∙ d) (cases_Bool (tx_in u (t ∷ [])))

    was : (u : TxId) → is_present (stage_in (gone_in (t ∷ []) None parts) u) ≡ true → is_present (stage_in parts u) ≡ true
    was u h = ⊎_elim (λ i. absurd (both_ways _ (own_go (t ∷ []) None u parts i) h)) (λ i. ap is_present (sym (stage_other (t ∷ []) None u parts i)) ∙ h) (cases_Bool (tx_in u (t ∷ [])))

-- ---- a set is taken away

module _ (asked fell lost over : List TxId) (parts : Table Held) (pairs : List (TxId × TxId)) (log more : List LogRecord) (durable : ℕ) (set : List TxId) (d : TxId) (f : Falls asked fell lost over parts pairs log durable)
    (upward : (t p : TxId) → is_pair pairs t p ≡ true → tx_in p set ≡ true → tx_in t set ≡ true) (undecided : (t : TxId) → tx_in t set ≡ true → committed_in log t ≡ false) (here : (t : TxId) → tx_in t set ≡ true → is_present (stage_in parts t) ≡ true) (unfinished : (t : TxId) → tx_in t set ≡ true → tx_in t over ≡ false)
    (listed : (t p : TxId) → is_present (stage_in parts t) ≡ true → tx_in p (listed_in log t) ≡ true → (committed_in log p ≡ true) ⊎ (is_pair pairs t p ≡ true)) (lists_committed : (t p : TxId) → committed_in log t ≡ true → tx_in p (listed_in log t) ≡ true → committed_in log p ≡ true)
    (no_prepare : (t : TxId) → prepared_in more t ≡ false) (no_commit : (t : TxId) → committed_in more t ≡ false) where
  is_prepared : (t p : TxId) → tx_in p (listed_in log t) ≡ true → prepared_in log t ≡ true
  is_prepared t p i = ⊎_elim (λ e. e) (λ e. absurd (none_listed p _ (unlisted log t e) i)) (cases_Bool (prepared_in log t))

  gone_doomed : (o : Option Stage) → is_present o ≡ true → is_doomed (gone_by (Some d) o) ≡ true
  gone_doomed None e = absurd (both_ways false refl e)
  gone_doomed (Some s) e = refl

  own_doomed : (t : TxId) → tx_in t set ≡ true → is_doomed (stage_in (gone_in set (Some d) parts) t) ≡ true
  own_doomed t i = ap is_doomed (stage_own set (Some d) t parts i) ∙ gone_doomed (stage_in parts t) (here t i)

  now_fell : (t : TxId) → Fell fell parts t → Fell fell (gone_in set (Some d) parts) t
  now_fell t (inl i) = inl i
  now_fell t (inr e) = inr (⊎_elim (λ i. own_doomed t i) (λ i. ap is_doomed (stage_other set (Some d) t parts i) ∙ e) (cases_Bool (tx_in t set)))

  was_here : (t : TxId) → is_present (stage_in (gone_in set (Some d) parts) t) ≡ true → (tx_in t set ≡ false) × (is_present (stage_in parts t) ≡ true)
  was_here t h = let out : tx_in t set ≡ false = false_from_ne_true _ (λ i. both_ways _ (own_go set (Some d) t parts i) h) in (out, ap is_present (sym (stage_other set (Some d) t parts out)) ∙ h)

  -- who lists one of the set is lost
  set_listed : (t p : TxId) → tx_in p (listed_in log t) ≡ true → tx_in p set ≡ true → (tx_in t (set ++ lost) ≡ true) ⊎ (aborted_in (take durable log) t ≡ true)
  set_listed t p i s =
      ⊎_elim
      (λ h. ⊎_elim (λ c. absurd (both_ways _ (undecided p s) c)) (λ e. inl (in_first set lost t (upward t p e s))) (listed t p h i))
      (λ h. ⊎_elim (λ c. absurd (both_ways _ (undecided p s) (lists_committed t p c i))) (λ c. ⊎_elim (λ e. inl (in_more set lost t (f.fallen t e))) (λ a. inr a) (f.gone t (is_prepared t p i) c h)) (cases_Bool (committed_in log t)))
      (cases_Bool (is_present (stage_in parts t)))

  falls_set : Falls asked fell (set ++ lost) over (gone_in set (Some d) parts) (pairs_without set pairs) log durable
  falls_set = record {
    fallen = λ t e. ⊎_elim (λ i. in_first set lost t i) (λ i. in_more set lost t (f.fallen t (⊎_elim (λ a. inl a) (λ a. inr (ap is_doomed (sym (stage_other set (Some d) t parts i)) ∙ a)) e))) (cases_Bool (tx_in t set));
    open_ = λ t l. ⊎_elim (λ i. undecided t i) (λ i. f.open_ t i) (in_two set lost t l);
    unfinished = λ t l. ⊎_elim (λ i. unfinished t i) (λ i. f.unfinished t i) (in_two set lost t l);
    why = λ t l. ⊎_elim (λ i. inl (inr (own_doomed t i)))
        (λ out. ⊎_elim (λ e. inl (now_fell t e)) (λ q. inr (q.0, pairs_stay set pairs t q.0 out q.1, in_more set lost q.0 q.2)) (f.why t (⊎_elim (λ i. absurd (both_ways _ out i)) (λ i. i) (in_two set lost t l)))) (cases_Bool (tx_in t set));
    up = λ t p e l. let w = without_pairs set pairs t p e in in_more set lost t (f.up t p w.0 (⊎_elim (λ i. absurd (both_ways _ w.1 (upward t p w.0 i))) (λ i. i) (in_two set lost p l)));
    lists = λ t p i l. ⊎_elim (λ s. set_listed t p i s) (λ s. ⊎_elim (λ k. inl (in_more set lost t k)) (λ a. inr a) (f.lists t p i s)) (in_two set lost p l);
    back = λ t i h. f.back t i (was_here t h).1;
    owns = f.owns;
    gone = λ t p c h. ⊎_elim (λ i. inl (inr (own_doomed t i))) (λ i. ⊎_elim (λ e. inl (now_fell t e)) (λ r. inr r) (f.gone t p c (ap is_present (sym (stage_other set (Some d) t parts i)) ∙ h))) (cases_Bool (tx_in t set));
    settled = λ t c h. f.settled t c (ap is_present (sym (stage_other set (Some d) t parts (false_from_ne_true _ (λ i. both_ways _ (undecided t i) c)))) ∙ h);
    paired = λ t p e q. f.paired t p (without_pairs set pairs t p e).0 q;
  }

  pub falls_taken : Falls asked fell (set ++ lost) over (gone_in set (Some d) parts) (pairs_without set pairs) (log ++ more) durable
  falls_taken = falls_more asked fell (set ++ lost) over (gone_in set (Some d) parts) (pairs_without set pairs) log more durable falls_set no_prepare (λ t c. absurd (both_ways _ (no_commit t) c))

-- ---- a granted operation of an active or a new part

module _ (asked fell lost over : List TxId) (parts parts2 : Table Held) (pairs : List (TxId × TxId)) (log : List LogRecord) (durable : ℕ) (t : TxId) (vs : List TxId) (f : Falls asked fell lost over parts pairs log durable)
    (own : stage_in parts2 t ≡ Some Active) (same : (u : TxId) → (u ≡ t → ⊥) → stage_in parts2 u ≡ stage_in parts u) (unfallen : tx_in t fell ≡ false) (undoomed : is_doomed (stage_in parts t) ≡ false) (unprepared : prepared_in log t ≡ false) where
  not_absent : (u : TxId) → is_present (stage_in parts2 u) ≡ false → u ≡ t → ⊥
  not_absent u h s = both_ways _ h (ap is_present (ap (stage_in parts2) s ∙ own))

  was_absent : (u : TxId) → is_present (stage_in parts2 u) ≡ false → is_present (stage_in parts u) ≡ false
  was_absent u h = ap is_present (sym (same u (not_absent u h))) ∙ h

  fell_back : (u : TxId) → Fell fell parts2 u → (u ≡ t → ⊥) × Fell fell parts u
  fell_back u (inl i) = ((λ s. both_ways _ unfallen (subst (λ z. tx_in z fell ≡ true) s i)), inl i)
  fell_back u (inr d) = let ne : u ≡ t → ⊥ = λ s. both_ways false refl (sym (ap is_doomed (ap (stage_in parts2) s ∙ own)) ∙ d) in (ne, inr (ap is_doomed (sym (same u ne)) ∙ d))

  fell_now : (u : TxId) → Fell fell parts u → Fell fell parts2 u
  fell_now u (inl i) = inl i
  fell_now u (inr d) = inr (ap is_doomed (same u (λ s. both_ways _ undoomed (subst (λ z. is_doomed (stage_in parts z) ≡ true) s d))) ∙ d)

  now_back : (u : TxId) → tx_in u fell ≡ true → is_present (stage_in parts2 u) ≡ true → prepared_in log u ≡ true
  now_back u i h = f.back u i (ap is_present (sym (same u (λ s. both_ways _ unfallen (subst (λ z. tx_in z fell ≡ true) s i)))) ∙ h)

  now_gone : (u : TxId) → prepared_in log u ≡ true → committed_in log u ≡ false → is_present (stage_in parts2 u) ≡ false → Fell fell parts2 u ⊎ (aborted_in (take durable log) u ≡ true)
  now_gone u p c h = ⊎_elim (λ e. inl (fell_now u e)) (λ r. inr r) (f.gone u p c (was_absent u h))

  now_paired : (u p : TxId) → is_pair (add_pairs t vs pairs) u p ≡ true → prepared_in log u ≡ true → (tx_in p (listed_in log u) ≡ true) ⊎ (committed_in log p ≡ true)
  now_paired u p e q = ⊎_elim (λ o. f.paired u p o q) (λ n. absurd (both_ways _ unprepared (subst (λ z. prepared_in log z ≡ true) n.0 q))) (add_which t vs pairs u p e)

  -- neither it nor whom it violated is lost
  pub falls_alive : tx_in t lost ≡ false → ((p : TxId) → tx_in p vs ≡ true → tx_in p lost ≡ false) → Falls asked fell lost over parts2 (add_pairs t vs pairs) log durable
  falls_alive alive others = record {
    fallen = λ u e. f.fallen u (fell_back u e).1;
    open_ = f.open_;
    unfinished = f.unfinished;
    why = λ u l. ⊎_elim (λ e. inl (fell_now u e)) (λ q. inr (q.0, add_keeps t vs pairs u q.0 q.1, q.2)) (f.why u l);
    up = λ u p e l. ⊎_elim (λ o. f.up u p o l) (λ n. absurd (both_ways _ (others p n.1) l)) (add_which t vs pairs u p e);
    lists = f.lists;
    back = now_back;
    owns = f.owns;
    gone = now_gone;
    settled = λ u c h. f.settled u c (was_absent u h);
    paired = now_paired;
  }

  -- it is lost: already, or by one that it violated
  pub falls_lost : committed_in log t ≡ false → tx_in t over ≡ false → ((u : TxId) → is_pair pairs u t ≡ true → ⊥) → ((u : TxId) → tx_in t (listed_in log u) ≡ true → prepared_in log t ≡ true) → (tx_in t lost ≡ true) ⊎ ((p : TxId) × (tx_in p vs ≡ true) × (tx_in p lost ≡ true))
      → Falls asked fell (t ∷ lost) over parts2 (add_pairs t vs pairs) log durable
  falls_lost open_ unfinished no_succ listed because = record {
    fallen = λ u e. or_right (tx_same t u) _ (f.fallen u (fell_back u e).1);
    open_ = λ u l. ⊎_elim (λ s. subst (λ z. committed_in log z ≡ false) (tx_true t u s) open_) (λ i. f.open_ u i) (or_cases (tx_same t u) (tx_in u lost) l);
    unfinished = λ u l. ⊎_elim (λ s. subst (λ z. tx_in z over ≡ false) (tx_true t u s) unfinished) (λ i. f.unfinished u i) (or_cases (tx_same t u) (tx_in u lost) l);
    why = λ u l. ⊎_elim (λ s. subst (λ z. Fell fell parts2 z ⊎ ((p : TxId) × (is_pair (add_pairs t vs pairs) z p ≡ true) × (tx_in p (t ∷ lost) ≡ true))) (tx_true t u s) own_why) (λ i. old_why u i) (or_cases (tx_same t u) (tx_in u lost) l);
    up = λ u p e l. ⊎_elim
        (λ o. ⊎_elim (λ s. absurd (no_succ u (subst (λ z. is_pair pairs u z ≡ true) (sym (tx_true t p s)) o))) (λ i. or_right (tx_same t u) _ (f.up u p o i)) (or_cases (tx_same t p) (tx_in p lost) l))
        (λ n. or_left _ _ (tx_eq t u (sym n.0))) (add_which t vs pairs u p e);
    lists = λ u p i l. ⊎_elim (λ s. absurd (both_ways _ unprepared (listed u (subst (λ z. tx_in z (listed_in log u) ≡ true) (sym (tx_true t p s)) i)))) (λ j. ⊎_elim (λ k. inl (or_right (tx_same t u) _ k)) (λ a. inr a) (f.lists u p i j)) (or_cases (tx_same t p) (tx_in p lost) l);
    back = now_back;
    owns = f.owns;
    gone = now_gone;
    settled = λ u c h. f.settled u c (was_absent u h);
    paired = now_paired;
  }
    where
      old_why : (u : TxId) → tx_in u lost ≡ true → Fell fell parts2 u ⊎ ((p : TxId) × (is_pair (add_pairs t vs pairs) u p ≡ true) × (tx_in p (t ∷ lost) ≡ true))
      old_why u i = ⊎_elim (λ e. inl (fell_now u e)) (λ q. inr (q.0, add_keeps t vs pairs u q.0 q.1, or_right (tx_same t q.0) _ q.2)) (f.why u i)

      own_why : Fell fell parts2 t ⊎ ((p : TxId) × (is_pair (add_pairs t vs pairs) t p ≡ true) × (tx_in p (t ∷ lost) ≡ true))
      own_why = ⊎_elim (λ i. old_why t i) (λ q. inr (q.0, add_has t vs pairs q.0 q.1, or_right (tx_same t q.0) _ q.2)) because
