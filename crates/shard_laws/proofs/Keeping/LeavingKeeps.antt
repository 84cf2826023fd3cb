-- A set of transactions leaves the shard: finished, or taken away with what it wrote.
use Rattle.std.proofs.Common.{◌≡◌, ◌⊎◌, inl, inr, Bool, true, false, cond, not, ◌||◌, List, [], ◌∷◌, ◌++◌, Option, Some, None, refl, sym, ap, subst, ◌∙◌, arith, append_assoc, eqb-true, ◌==◌, ℕ, ⊎_elim}
use Rattle.std.specs.List.{AllByRecursion, filter, list_any}
use Rattle.std.proofs.lemmas.Bool.{cases_Bool, both_ways, cond_both, cond-true, cond-false, or_cases, not-true, false_from_ne_true, or_from}
use Rattle.std.proofs.lemmas.List.Folds.{list_any-append}
use Rattle.clv_base.specs.declared.values.Value.{Value as ValueType}
use Rattle.clv_base.specs.declared.names.TxId.{TxId}
use Rattle.clv_base.specs.declared.logs.LogRecord.{LogRecord}
use Rattle.clv_base.specs.declared.modes.Part.{Part}
use Rattle.clv_base.specs.declared.modes.Anchor.TheVariants.{Low, At}
use Rattle.clv_base.specs.declared.state.Stage.{Stage}
use Rattle.clv_base.specs.declared.state.Stage.TheVariants.{Closed}
use Rattle.clv_base.specs.declared.state.Held.{Held}
use Rattle.clv_base.specs.Orders.{Table, tx_same, tx_in}
use Rattle.clv_base.specs.Logs.{StandingUpdate, changed, standing, committed_in, has_standing, aborted_in, base_of}
use Rattle.clv_base.specs.Locks.{Locks, release}
use Rattle.clv_base.specs.Undo.{gone_in, pairs_without, records_without, aborts_of, clrs_of, is_of}
use Rattle.clv_base.specs.State.{is_present}
use Rattle.clv_base.specs.Needs.{Records, lower_anchor}
use Rattle.law_base.proofs.Cells.{record_at}
use Rattle.law_base.specs.Items.{Item, Reaches, pile, Deed, held}
use Rattle.clv_base.proofs.SameNames.{or_left, or_right, tx_true, tx_self, tx_eq}
use Rattle.law_base.proofs.Lists.{all_mono, all_both, all_filter, later_mono, later_filter, all_append, all_of}
use Rattle.law_base.proofs.Running.{top_value, Keeps}
use Rattle.law_base.specs.Undone.{stays_of, stays_by}
use Rattle.law_base.proofs.Undoing.{Chain, keeps_of, standing_undone, values_undone, HaveRecords, Upward, record_undone, pile_filter, filter_all}
use Rattle.law_base.proofs.Anchors.{rising_undone, anchor_undone}
use Rattle.law_base.proofs.LockRows.{holds, Rows, rows_release, release_holds}
use Rattle.shard_laws.proofs.Operations.NeedsCoverKeys.{holds_at, holds_by}
use Rattle.law_base.proofs.Tables.{stage_in, is_pair, without_pairs, pairs_stay}
use Rattle.law_base.proofs.Commits.{commit_durable, before_keeps, before_first, durable_keeps, durable_committed, before_durable, uncommitted_append, committed_from}
use Rattle.shard_laws.proofs.Keeping.ChangesKeepPrepared.{prepared_more, prepared_parts, prepared_kept}
use Rattle.shard_laws.proofs.Operations.WritesAtEachKey.{keys_by, keys_filter}
use Rattle.shard_laws.proofs.Keeping.WhatOneShardKeeps.{View, Past, Belongs, Dep, Known, Kept, Ended, Wrote, Left, of_kept, is_alive, Covers, begins}
use Rattle.shard_laws.proofs.Operations.NeedsCoverKeys.{met_part, wrote_part}
use Rattle.shard_laws.proofs.Keeping.WhatOneShardKeeps.{is_adding, part_for}
use Rattle.law_base.proofs.Undoing.{reset}
use Rattle.shard_laws.proofs.Keeping.RecordsAndFrontsKeep.{tidy_append, ended_more, aborted_append}
use Rattle.law_base.proofs.Stages.{active_back, closed_back, doomed_back, get_other, gone_by, gone_closed, stage_other, stage_own, closed_not_active}
use Rattle.shard_laws.specs.OneShard.{doer, items_in, deeds_by_chosen}
use Rattle.shard_laws.proofs.Keeping.DeedsThatHold.{AllMet, Rise, held_chosen, between_chosen, met_chosen, met_mono, acts_chosen, items_all_chosen, items_later_chosen}
use Rattle.law_base.proofs.Standing.{all_stand}
use Rattle.clv_base.proofs.Folding.{or_left as or_false_left, or_right as or_false_right}
use Rattle.shard_laws.proofs.Keeping.RecordsOfAnUndo.{no_commits, no_writes, no_prepares, aborted_here, tidy_harmless, harmless_aborts, harmless_clrs}
use Rattle.clv_base.specs.Maps.{KeyMap}
use Rattle.law_base.proofs.Bases.{take_base}
use Rattle.law_base.proofs.Places.{undo_upto, upto_within}
use Rattle.law_base.proofs.Logs.{IsUndo, aborts_undo, clrs_undo, undo_base}

-- ---- parts that are gone

rows_go : (set : List TxId) (d : Option TxId) (parts : Table Held) (locks : Locks) → Rows (Belongs parts) locks → Rows (Belongs (gone_in set d parts)) (release set locks)
rows_go set d parts locks rows = rows_release (Belongs parts) (Belongs (gone_in set d parts)) set locks (λ u b c h out. (h.0, get_other set d u parts out ∙ h.1, h.2, h.3)) rows

holds_go : (set : List TxId) (locks : Locks) (rs : Records) (p : Part) (u : TxId) (q : ℕ) → tx_in u set ≡ false → holds_at p locks rs u q ≡ true → holds_at p (release set locks) rs u q ≡ true
holds_go set locks rs p u q out h = at (record_at q rs) h
  where
    at : (o : Option (Option ValueType)) → holds_by p locks rs u q o ≡ true → holds_by p (release set locks) rs u q o ≡ true
    at (Some x) h = release_holds set true p (At q) u locks out h
    at None h = release_holds set false p (lower_anchor q rs) u locks out h

-- ---- one is finished: its COMMIT is durable, or no write of it stands and those of its predecessors are

pub one_in : (t u : TxId) → tx_in u (t ∷ []) ≡ true → u ≡ t
one_in t u e = ⊎_elim (λ h. sym (tx_true t u h)) (λ h. absurd (both_ways false refl h)) (or_cases (tx_same t u) false e)

in_one : (t : TxId) → tx_in t (t ∷ []) ≡ true
in_one t = or_left _ _ (tx_self t)

-- why it may be finished
abbrev pub Done : View → TxId → Type 0
Done v t = (commit_durable v.log v.durable t ≡ true) ⊎ ((committed_in v.log t ≡ false) × (has_standing v.log t ≡ false) × ((p : TxId) → is_pair v.pairs t p ≡ true → commit_durable v.log v.durable p ≡ true))

pub keeps_finish : (g : Past) (v : View) (t : TxId) → Kept g v → stage_in v.parts t ≡ Some Closed → Done v t
    → Kept (record g { over = t ∷ g.over }) (record v { locks = release (t ∷ []) v.locks; parts = gone_in (t ∷ []) None v.parts; pairs = pairs_without (t ∷ []) v.pairs })
keeps_finish g v t k closed done = record {
  start = k.start;
  past = k.past;
  log = k.log;
  records = k.records;
  locks = record {
    rows = rows_go (t ∷ []) None v.parts v.locks k.rows;
    covered = all_mono _ _ (λ y h active.
        let a = active_back (t ∷ []) None y.tx v.parts active in
        let c = h a.1 in
        (λ q m. (holds_go (t ∷ []) v.locks v.records (met_part (is_adding y)) y.tx q a.0 (c.0 q m).0, (c.0 q m).1), λ q m. (holds_go (t ∷ []) v.locks v.records (wrote_part (is_adding y)) y.tx q a.0 (c.1 q m).0, (c.1 q m).1))) (items_in g.done) k.covered;
    wrote = all_mono _ _ (λ w h out. let c = h.0 out in (release_holds (t ∷ []) true (part_for w.change) (At w.key) w.tx v.locks (not_own w.tx h.1 out) c.0, c.1)) (standing v.log) (all_both _ _ (standing v.log) k.wrote (all_stand v.log));
  };
  parts = record {
    known = all_mono _ _ (λ d h. still_known (doer d) h) g.done k.known;
    alone = later_mono _ _ (λ x y h c. ⊎_elim (λ s. inl s) (λ n. inr (λ a. n (active_back (t ∷ []) None x.tx v.parts a).1)) (h c)) (items_in g.done) k.alone;
    closed = λ u h. k.closed u (closed_back (t ∷ []) None u v.parts h);
    successors = λ u p h. let s = without_pairs (t ∷ []) v.pairs u p h in subst (λ o. is_present o ≡ true) (sym (stage_other (t ∷ []) None u v.parts s.1)) (k.successors u p s.0);
  };
  fates = record {
    uncommitted = λ u h. k.uncommitted u (active_back (t ∷ []) None u v.parts h).1;
    dead = λ u h. let d = k.dead u h in (d.0, (λ a. d.1 (active_back (t ∷ []) None u v.parts a).1), (λ a. d.2 (closed_back (t ∷ []) None u v.parts a)));
    doomed = λ u d h. k.doomed u d (doomed_back (t ∷ []) u d v.parts h);
    prepared = prepared_parts g.done g.met v.parts (gone_in (t ∷ []) None v.parts) v.log k.prepared (λ u a. (active_back (t ∷ []) None u v.parts a).1);
  };
  ends = record {
    left = all_mono _ _ (λ d l. ⊎_elim (λ a. still_left (doer d) a) (λ a. inr (⊎_elim (λ o. inl (or_right (tx_same t (doer d)) _ o)) (λ c. inr c) a)) l) g.done k.left;
    over = λ u h. ⊎_elim (λ e. own_ended u (sym (tx_true t u e))) (λ i. still_ended u (k.over u i)) (or_cases (tx_same t u) (tx_in u g.over) h);
    recover = λ u p e. ⊎_elim (λ o. inl (o.0, λ a. o.1 (active_back (t ∷ []) None u v.parts a).1)) (λ d. inr (still_dep u p d.0, d.1)) (k.recover u p e);
  };
  pairs = record { downwards = λ u p h c. k.downwards u p (without_pairs (t ∷ []) v.pairs u p h).0 c; causes = met_mono _ _ (λ x y h r. ⊎_elim (λ s. inl s) (λ d. inr (still_dep y.tx x.tx d)) (h r)) g.done k.causes };
  durable = k.durable;
}
  where
    not_own : (u : TxId) → has_standing v.log u ≡ true → commit_durable v.log v.durable u ≡ false → tx_in u (t ∷ []) ≡ false
    not_own u stands out = false_from_ne_true _ (λ i. let same = one_in t u i in
        ⊎_elim (λ d. both_ways _ out (subst (λ z. commit_durable v.log v.durable z ≡ true) (sym same) d)) (λ d. both_ways _ d.1 (subst (λ z. has_standing v.log z ≡ true) same stands)) done)

    gone_absent : (o : Option Stage) → is_present (gone_by None o) ≡ false
    gone_absent None = refl
    gone_absent (Some x) = refl

    absent : (u : TxId) → is_present (stage_in v.parts u) ≡ false → is_present (stage_in (gone_in (t ∷ []) None v.parts) u) ≡ false
    absent u e = ⊎_elim (λ i. ap is_present (stage_own (t ∷ []) None u v.parts i) ∙ gone_absent (stage_in v.parts u)) (λ i. ap is_present (stage_other (t ∷ []) None u v.parts i) ∙ e) (cases_Bool (tx_in u (t ∷ [])))

    still_left : (u : TxId) → is_present (stage_in v.parts u) ≡ true → Left (record g { over = t ∷ g.over }) (record v { locks = release (t ∷ []) v.locks; parts = gone_in (t ∷ []) None v.parts; pairs = pairs_without (t ∷ []) v.pairs }) u
    still_left u a = ⊎_elim (λ i. inr (inl (or_left _ _ (tx_eq t u (sym (one_in t u i)))))) (λ i. inl (ap is_present (stage_other (t ∷ []) None u v.parts i) ∙ a)) (cases_Bool (tx_in u (t ∷ [])))

    own_ended : (u : TxId) → u ≡ t → Ended (record g { over = t ∷ g.over }) (record v { locks = release (t ∷ []) v.locks; parts = gone_in (t ∷ []) None v.parts; pairs = pairs_without (t ∷ []) v.pairs }) u
    own_ended u same = subst (Ended (record g { over = t ∷ g.over }) (record v { locks = release (t ∷ []) v.locks; parts = gone_in (t ∷ []) None v.parts; pairs = pairs_without (t ∷ []) v.pairs })) (sym same)
        (⊎_elim (λ d. inl d) (λ d. inr (d.0, d.1, ap is_present (stage_own (t ∷ []) None t v.parts (in_one t)) ∙ gone_absent (stage_in v.parts t), k.closed t closed)) done)

    still_ended : (u : TxId) → Ended g v u → Ended (record g { over = t ∷ g.over }) (record v { locks = release (t ∷ []) v.locks; parts = gone_in (t ∷ []) None v.parts; pairs = pairs_without (t ∷ []) v.pairs }) u
    still_ended u e = ⊎_elim (λ d. inl d) (λ d. inr (d.0, d.1, absent u d.2, d.3)) e

    still_known : (u : TxId) → Known g v u → Known (record g { over = t ∷ g.over }) (record v { locks = release (t ∷ []) v.locks; parts = gone_in (t ∷ []) None v.parts; pairs = pairs_without (t ∷ []) v.pairs }) u
    still_known u h =
        ⊎_elim
        (λ i. ⊎_elim
        (λ a. absurd (closed_not_active (sym closed ∙ ap (stage_in v.parts) (sym (one_in t u i)) ∙ a)))
        (λ r. inr (r.0, λ a. r.1 (active_back (t ∷ []) None u v.parts a).1))
        h)
        (λ i. ⊎_elim
        (λ a. inl (stage_other (t ∷ []) None u v.parts i ∙ a))
        (λ r. inr (r.0, λ a. r.1 (active_back (t ∷ []) None u v.parts a).1))
        h)
        (cases_Bool (tx_in u (t ∷ [])))

    still_dep : (u p : TxId) → Dep v u p → Dep (record v { locks = release (t ∷ []) v.locks; parts = gone_in (t ∷ []) None v.parts; pairs = pairs_without (t ∷ []) v.pairs }) u p
    still_dep u p d =
        ⊎_elim (λ h. inl h)
        (λ h. ⊎_elim
        (λ i. ⊎_elim
        (λ own. let same = one_in t u own in
        let pair : is_pair v.pairs t p ≡ true = subst (λ z. is_pair v.pairs z p ≡ true) same i in
        ⊎_elim (λ c. inl (before_durable v.log v.durable p t (k.downwards t p pair (durable_committed v.log v.durable t c)) c)) (λ c. inl (c.2 p pair)) done)
        (λ out. inr (inl (pairs_stay (t ∷ []) v.pairs u p out i)))
        (cases_Bool (tx_in u (t ∷ []))))
        (λ i. inr (inr i)) h)
        d

-- ---- a set is taken away: it holds with each its successors, and none of it is committed

pub record MayGo (v : View) (set : List TxId) : Type 0 where
  pub upward : (t p : TxId) → is_pair v.pairs t p ≡ true → tx_in p set ≡ true → tx_in t set ≡ true
  pub undecided : (t : TxId) → tx_in t set ≡ true → committed_in v.log t ≡ false
  pub present : (t : TxId) → tx_in t set ≡ true → is_present (stage_in v.parts t) ≡ true

-- where all writes of a key are of those that pass, its fold is theirs
pub top_alive : (floor : KeyMap) (f : TxId → Bool) (q : ℕ) (ws : List StandingUpdate) → AllByRecursion (λ w. w.key ≡ q → f w.tx ≡ true) ws → top_value floor q (filter (of_kept f) ws) ≡ top_value floor q ws
top_alive floor f q [] a = refl
top_alive floor f q (w ∷ ws) a = at (q == w.key) (f w.tx) refl refl (top_alive floor f q ws a.1)
  where
    at : (b c : Bool) → (q == w.key) ≡ b → f w.tx ≡ c → top_value floor q (filter (of_kept f) ws) ≡ top_value floor q ws → top_value floor q (cond c (w ∷ filter (of_kept f) ws) (filter (of_kept f) ws)) ≡ top_value floor q (w ∷ ws)
    at true true e h ih =
        cond-true (q == w.key) (changed w.change (top_value floor q (filter (of_kept f) ws))) (top_value floor q (filter (of_kept f) ws)) e ∙ ap (changed w.change) ih
        ∙ sym (cond-true (q == w.key) (changed w.change (top_value floor q ws)) (top_value floor q ws) e)
    at true false e h ih = absurd (both_ways _ h (a.0 (sym (eqb-true q w.key e))))
    at false true e h ih =
        cond-false (q == w.key) (changed w.change (top_value floor q (filter (of_kept f) ws))) (top_value floor q (filter (of_kept f) ws)) e ∙ ih
        ∙ sym (cond-false (q == w.key) (changed w.change (top_value floor q ws)) (top_value floor q ws) e)
    at false false e h ih = ih ∙ sym (cond-false (q == w.key) (changed w.change (top_value floor q ws)) (top_value floor q ws) e)

-- the writes of those that pass, without a set's
pub filter_less : (set lost : List TxId) (ws : List StandingUpdate) → filter (of_kept (is_alive (set ++ lost))) ws ≡ filter (stays_of set) (filter (of_kept (is_alive lost)) ws)
filter_less set lost [] = refl
filter_less set lost (w ∷ ws) = at (tx_in w.tx set) (tx_in w.tx lost) refl refl (filter_less set lost ws)
  where
    two : (b c : Bool) → tx_in w.tx set ≡ b → tx_in w.tx lost ≡ c → tx_in w.tx (set ++ lost) ≡ (b || c)
    two b c e f = list_any-append (λ x. tx_same x w.tx) set lost ∙ ap (λ z. z || tx_in w.tx lost) e ∙ ap (λ z. b || z) f

    skip : (b c : Bool) → tx_in w.tx set ≡ b → tx_in w.tx lost ≡ c → (b || c) ≡ true → filter (of_kept (is_alive (set ++ lost))) (w ∷ ws) ≡ filter (of_kept (is_alive (set ++ lost))) ws
    skip b c e f t = cond-false (not (tx_in w.tx (set ++ lost))) (w ∷ filter (of_kept (is_alive (set ++ lost))) ws) (filter (of_kept (is_alive (set ++ lost))) ws) (ap not (two b c e f ∙ t))

    at : (b c : Bool) → tx_in w.tx set ≡ b → tx_in w.tx lost ≡ c → filter (of_kept (is_alive (set ++ lost))) ws ≡ filter (stays_of set) (filter (of_kept (is_alive lost)) ws)
        → filter (of_kept (is_alive (set ++ lost))) (w ∷ ws) ≡ filter (stays_of set) (cond (not c) (w ∷ filter (of_kept (is_alive lost)) ws) (filter (of_kept (is_alive lost)) ws))
    at true true e f ih = skip true true e f refl ∙ ih
    at true false e f ih = skip true false e f refl ∙ ih ∙ sym (cond-false (not (tx_in w.tx set)) (w ∷ filter (stays_of set) (filter (of_kept (is_alive lost)) ws)) (filter (stays_of set) (filter (of_kept (is_alive lost)) ws)) (ap not e))
    at false true e f ih = skip false true e f refl ∙ ih
    at false false e f ih =
        cond-true (not (tx_in w.tx (set ++ lost))) (w ∷ filter (of_kept (is_alive (set ++ lost))) ws) (filter (of_kept (is_alive (set ++ lost))) ws) (ap not (two false false e f))
        ∙ ap (λ l. w ∷ l) ih
        ∙ sym (cond-true (not (tx_in w.tx set)) (w ∷ filter (stays_of set) (filter (of_kept (is_alive lost)) ws)) (filter (stays_of set) (filter (of_kept (is_alive lost)) ws)) (ap not e))

-- ---- two sets

pub in_first : (xs ys : List TxId) (t : TxId) → tx_in t xs ≡ true → tx_in t (xs ++ ys) ≡ true
in_first xs ys t e = list_any-append (λ x. tx_same x t) xs ys ∙ or_left _ _ e

pub in_more : (xs ys : List TxId) (t : TxId) → tx_in t ys ≡ true → tx_in t (xs ++ ys) ≡ true
in_more xs ys t e = list_any-append (λ x. tx_same x t) xs ys ∙ or_right (tx_in t xs) _ e

pub none_two : (xs ys : List TxId) (t : TxId) → tx_in t xs ≡ false → tx_in t ys ≡ false → tx_in t (xs ++ ys) ≡ false
none_two xs ys t e f = list_any-append (λ x. tx_same x t) xs ys ∙ or_from (tx_in t xs) (tx_in t ys) e f

pub in_two : (xs ys : List TxId) (t : TxId) → tx_in t (xs ++ ys) ≡ true → (tx_in t xs ≡ true) ⊎ (tx_in t ys ≡ true)
in_two xs ys t e = or_cases (tx_in t xs) (tx_in t ys) (sym (list_any-append (λ x. tx_same x t) xs ys) ∙ e)

-- the writes of neither
pub filter_sets : (set lost : List TxId) (ws : List StandingUpdate) → filter (of_kept (is_alive (set ++ lost))) (filter (stays_of set) ws) ≡ filter (stays_of set) (filter (of_kept (is_alive lost)) ws)
filter_sets set lost [] = refl
filter_sets set lost (w ∷ ws) = at (tx_in w.tx set) (tx_in w.tx lost) refl refl (filter_sets set lost ws)
  where
    two : (b c : Bool) → tx_in w.tx set ≡ b → tx_in w.tx lost ≡ c → tx_in w.tx (set ++ lost) ≡ (b || c)
    two b c e f = list_any-append (λ x. tx_same x w.tx) set lost ∙ ap (λ z. z || tx_in w.tx lost) e ∙ ap (λ z. b || z) f

    at : (b c : Bool) → tx_in w.tx set ≡ b → tx_in w.tx lost ≡ c → filter (of_kept (is_alive (set ++ lost))) (filter (stays_of set) ws) ≡ filter (stays_of set) (filter (of_kept (is_alive lost)) ws)
        → filter (of_kept (is_alive (set ++ lost))) (cond (not b) (w ∷ filter (stays_of set) ws) (filter (stays_of set) ws)) ≡ filter (stays_of set) (cond (not c) (w ∷ filter (of_kept (is_alive lost)) ws) (filter (of_kept (is_alive lost)) ws))
    at true true e f ih = ih
    at true false e f ih = ih ∙ sym (cond-false (not (tx_in w.tx set)) (w ∷ filter (stays_of set) (filter (of_kept (is_alive lost)) ws)) (filter (stays_of set) (filter (of_kept (is_alive lost)) ws)) (ap not e))
    at false true e f ih = cond-false (not (tx_in w.tx (set ++ lost))) (w ∷ filter (of_kept (is_alive (set ++ lost))) (filter (stays_of set) ws)) (filter (of_kept (is_alive (set ++ lost))) (filter (stays_of set) ws)) (ap not (two false true e f)) ∙ ih
    at false false e f ih =
        cond-true (not (tx_in w.tx (set ++ lost))) (w ∷ filter (of_kept (is_alive (set ++ lost))) (filter (stays_of set) ws)) (filter (of_kept (is_alive (set ++ lost))) (filter (stays_of set) ws)) (ap not (two false false e f))
        ∙ ap (λ l. w ∷ l) ih
        ∙ sym (cond-true (not (tx_in w.tx set)) (w ∷ filter (stays_of set) (filter (of_kept (is_alive lost)) ws)) (filter (stays_of set) (filter (of_kept (is_alive lost)) ws)) (ap not e))

pub holds_undone : (gone : StandingUpdate → Bool) (ws : List StandingUpdate) (locks : Locks) (rs : Records) (p : Part) (u : TxId) (q : ℕ) → holds_at p locks rs u q ≡ true → holds_at p locks (records_without gone ws rs) u q ≡ true
holds_undone gone ws locks rs p u q h =
    subst (λ o. holds_by p locks (records_without gone ws rs) u q o ≡ true) (sym (record_undone gone ws rs q)) (at (record_at q rs) h)
  where
    at : (o : Option (Option ValueType)) → holds_by p locks rs u q o ≡ true → holds_by p locks (records_without gone ws rs) u q (reset gone ws q o) ≡ true
    at (Some x) h = h
    at None h = subst (λ a. holds false p a u locks ≡ true) (sym (anchor_undone gone ws q Low rs)) h

reset_none : (gone : StandingUpdate → Bool) (ws : List StandingUpdate) (q : ℕ) (o : Option (Option ValueType)) → reset gone ws q o ≡ None → o ≡ None
reset_none gone ws q None e = refl
reset_none gone ws q (Some v) e = absurd cc

-- where no record stands after an undo, none stood before
pub none_stood : (gone : StandingUpdate → Bool) (ws : List StandingUpdate) (rs : Records) (q : ℕ) → record_at q (records_without gone ws rs) ≡ None → record_at q rs ≡ None
none_stood gone ws rs q none = reset_none gone ws q (record_at q rs) (sym (record_undone gone ws rs q) ∙ none)

-- who is active holds what it needs over records of which some are reset
pub covers_undone : (gone : StandingUpdate → Bool) (ws : List StandingUpdate) (locks : Locks) (rs : Records) (y : Item) → Covers rs locks y → Covers (records_without gone ws rs) locks y
covers_undone gone ws locks rs y c = (
  λ q m. (holds_undone gone ws locks rs (met_part (is_adding y)) y.tx q (c.0 q m).0, λ l none. (c.0 q m).1 l (none_stood gone ws rs q none)),
  λ q m. (holds_undone gone ws locks rs (wrote_part (is_adding y)) y.tx q (c.1 q m).0, λ l none. (c.1 q m).1 l (none_stood gone ws rs q none)),
)

-- of whom no write stood, none stands among some of these
pub none_left : (f : StandingUpdate → Bool) (t : TxId) (ws : List StandingUpdate) → list_any (λ w. tx_same t w.tx) ws ≡ false → list_any (λ w. tx_same t w.tx) (filter f ws) ≡ false
none_left f t [] e = e
none_left f t (w ∷ ws) e =
    cond_both (f w) (w ∷ filter f ws) (filter f ws) (λ l. list_any (λ v. tx_same t v.tx) l ≡ false)
    (λ k. or_from _ _ (or_false_left (tx_same t w.tx) (list_any (λ v. tx_same t v.tx) ws) e) (none_left f t ws (or_false_right (tx_same t w.tx) (list_any (λ v. tx_same t v.tx) ws) e)))
    (λ k. none_left f t ws (or_false_right (tx_same t w.tx) (list_any (λ v. tx_same t v.tx) ws) e))

-- of whom a write stood, of which none is taken away, one stands still
pub still_left : (gone : StandingUpdate → Bool) (t : TxId) (ws : List StandingUpdate) → AllByRecursion (λ w. tx_same t w.tx ≡ true → gone w ≡ false) ws → list_any (λ w. tx_same t w.tx) ws ≡ true → list_any (λ w. tx_same t w.tx) (filter (stays_by gone) ws) ≡ true
still_left gone t [] all e = e
still_left gone t (w ∷ ws) all e = at (tx_same t w.tx) (gone w) refl refl (or_cases (tx_same t w.tx) (list_any (λ v. tx_same t v.tx) ws) e) (still_left gone t ws all.1)
  where
    at : (b c : Bool) → tx_same t w.tx ≡ b → gone w ≡ c → (tx_same t w.tx ≡ true) ⊎ (list_any (λ v. tx_same t v.tx) ws ≡ true) → (list_any (λ v. tx_same t v.tx) ws ≡ true → list_any (λ v. tx_same t v.tx) (filter (stays_by gone) ws) ≡ true)
        → list_any (λ v. tx_same t v.tx) (cond (not c) (w ∷ filter (stays_by gone) ws) (filter (stays_by gone) ws)) ≡ true
    at true c s o h more = ap (λ b. list_any (λ v. tx_same t v.tx) (cond (not b) (w ∷ filter (stays_by gone) ws) (filter (stays_by gone) ws))) (sym o ∙ all.0 s) ∙ or_left _ _ s
    at false true s o h more = ⊎_elim (λ i. absurd (both_ways _ s i)) (λ i. more i) h
    at false false s o h more = ⊎_elim (λ i. absurd (both_ways _ s i)) (λ i. or_right (tx_same t w.tx) _ (more i)) h

module _ (g : Past) (v : View) (set : List TxId) (d : TxId) (k : Kept g v) (may : MayGo v set) (chain_here : Chain (base_of v.log) (standing v.log)) (upward_here : Upward (is_of set) (standing v.log)) where
  Taken : List LogRecord → View
  Taken log = record {
    records = records_without (is_of set) (standing v.log) v.records;
    locks = release set v.locks;
    parts = gone_in set (Some d) v.parts;
    pairs = pairs_without set v.pairs;
    log = log;
    durable = v.durable;
    flight = v.flight;
  }

  committed_out : (t : TxId) → committed_in v.log t ≡ true → tx_in t set ≡ false
  committed_out t c = false_from_ne_true _ (λ i. both_ways _ (may.undecided t i) c)

  keeps_pair : (x y : Item) → (Reaches x y → (x.tx ≡ y.tx) ⊎ Dep v y.tx x.tx) → Keeps (λ z. is_alive set z.tx) x y
  keeps_pair x y h r here =
      let out : tx_in y.tx set ≡ false = not-true _ here in
      ap not
      (⊎_elim
      (λ s. subst (λ z. tx_in z set ≡ false) (sym s) out)
      (λ dep. ⊎_elim (λ c. committed_out x.tx (durable_committed v.log v.durable x.tx c))
      (λ more. ⊎_elim (λ pair. false_from_ne_true _ (λ i. both_ways _ out (may.upward y.tx x.tx pair i))) (λ b. committed_out x.tx (before_first v.log x.tx y.tx b)) more)
      dep)
      (h r))

  abbrev stay : List Deed
  stay = deeds_by_chosen (is_alive set) g.done

  base_out : AllByRecursion (λ w. tx_in w.tx set ≡ false) g.base
  base_out = all_mono _ _ (λ w c. committed_out w.tx (durable_committed v.log v.durable w.tx c)) g.base k.base_done

  have_here : HaveRecords v.records (is_of set) (standing v.log)
  have_here = all_mono _ _ (λ w h i. (h (false_from_ne_true _ (λ c. both_ways _ (may.undecided w.tx i) (durable_committed v.log v.durable w.tx c)))).1) (standing v.log) k.wrote

  chain_floor : Chain g.floor (standing v.log)
  chain_floor = subst (λ base. Chain base (standing v.log)) (begins g v k) chain_here

  undoing : AllByRecursion IsUndo (aborts_of v.log set ++ clrs_of set (standing v.log))
  undoing = all_append IsUndo (aborts_of v.log set) (clrs_of set (standing v.log)) (aborts_undo (filter (has_standing v.log) set)) (clrs_undo set (standing v.log))

  brings : base_of (aborts_of v.log set ++ clrs_of set (standing v.log)) ≡ []
  brings = undo_base (aborts_of v.log set ++ clrs_of set (standing v.log)) undoing

  more : List LogRecord
  more = aborts_of v.log set ++ clrs_of set (standing v.log)

  standing_more : standing (v.log ++ (aborts_of v.log set ++ clrs_of set (standing v.log))) ≡ filter (stays_of set) (standing v.log)
  standing_more = ap standing (sym (append_assoc v.log (aborts_of v.log set) (clrs_of set (standing v.log)))) ∙ standing_undone set v.log

  no_more : (t : TxId) → committed_in (aborts_of v.log set ++ clrs_of set (standing v.log)) t ≡ false
  no_more t = no_commits set t v.log

  back : (t : TxId) → committed_in (v.log ++ (aborts_of v.log set ++ clrs_of set (standing v.log))) t ≡ true → committed_in v.log t ≡ true
  back t c = committed_from v.log (aborts_of v.log set ++ clrs_of set (standing v.log)) t (no_more t) c

  still_durable : (t : TxId) → commit_durable v.log v.durable t ≡ true → commit_durable (v.log ++ (aborts_of v.log set ++ clrs_of set (standing v.log))) v.durable t ≡ true
  still_durable t c = durable_keeps v.log (aborts_of v.log set ++ clrs_of set (standing v.log)) v.durable v.durable t (omega arith) c

  gone_absent : (e : Option TxId) (o : Option Stage) → is_present (gone_by e o) ≡ false
  gone_absent e None = refl
  gone_absent e (Some x) = refl

  absent : (u : TxId) → is_present (stage_in v.parts u) ≡ false → is_present (stage_in (gone_in set (Some d) v.parts) u) ≡ false
  absent u e = ⊎_elim (λ i. ap is_present (stage_own set (Some d) u v.parts i) ∙ gone_absent (Some d) (stage_in v.parts u)) (λ i. ap is_present (stage_other set (Some d) u v.parts i) ∙ e) (cases_Bool (tx_in u set))

  of_stay : (P : Deed → Type 0) → AllByRecursion P g.done → AllByRecursion (λ d. P d × (tx_in (doer d) set ≡ false)) stay
  of_stay P all = all_mono _ _ (λ d h. (h.0, not-true _ h.1)) stay (all_filter P (λ d. is_alive set (doer d)) g.done all)

  met_stay : (R : Item → Item → Type 0) → AllMet R g.done → AllMet (λ x y. R x y × (tx_in y.tx set ≡ false)) stay
  met_stay R all = met_mono _ _ (λ x y h. (h.0, not-true _ h.2)) stay (met_chosen R (is_alive set) g.done all)

  pile_stay : filter (stays_of set) (pile (held g.done) g.base) ≡ pile (held stay) g.base
  pile_stay =
      pile_filter set (held g.done) g.base ∙ ap (pile (filter (keeps_of set) (held g.done))) (filter_all set g.base base_out) ∙ ap (λ l. pile l g.base) (sym (held_chosen (is_alive set) g.done))

  taken_kept : Kept (record g { done = stay; lost = set ++ g.lost }) (Taken (v.log ++ (aborts_of v.log set ++ clrs_of set (standing v.log))))
  unfolding Taken
  taken_kept = record {
    start = k.start;
    past = record {
      acts = acts_chosen g.start (is_alive set) g.done k.start_rises k.acts k.between k.rising (met_mono _ _ keeps_pair g.done k.causes);
      alive = all_mono _ _ (λ d h. none_two set g.lost (doer d) h.1 h.0) stay (of_stay _ k.alive);
      order = later_mono _ _ (λ x y h. h.0) (items_in stay) (items_later_chosen _ (is_alive set) g.done k.order);
      between = between_chosen (is_alive set) g.done k.between;
      rising = later_mono _ _ (λ d e h. h.0) stay (later_filter Rise (λ d. is_alive set (doer d)) g.done k.rising);
    };
    log = record {
      standing_is = keys_by (ap (filter (of_kept (is_alive (set ++ g.lost)))) standing_more ∙ filter_sets set g.lost (standing v.log))
          (keys_filter (stays_of set) (filter (of_kept (is_alive g.lost)) (standing v.log)) (pile (held g.done) g.base) k.standing_is)
          pile_stay;
      tidy = tidy_append [] v.log _ k.tidy
          (tidy_harmless v.log v.log _ (λ t e. e)
          (all_append _ (aborts_of v.log set) (clrs_of set (standing v.log)) (harmless_aborts v.log (filter (has_standing v.log) set)) (harmless_clrs v.log (is_of set) (standing v.log) (all_of _ (λ w i. may.undecided w.tx i) (standing v.log)))));
    };
    records = record { rises = rising_undone (is_of set) (standing v.log) v.records k.rises; values = λ q. values_undone g.floor (is_of set) (standing v.log) v.records q chain_floor upward_here have_here (k.values q) ∙ ap (top_value g.floor q) (sym standing_more) };
    locks = record {
      rows = rows_go set (Some d) v.parts v.locks k.rows;
      covered = all_mono _ _ (λ y h active.
          let a = active_back set (Some d) y.tx v.parts active in
          let c = h.0 a.1 in
          covers_undone (is_of set) (standing v.log) (release set v.locks) v.records y (
            λ q m. (holds_go set v.locks v.records (met_part (is_adding y)) y.tx q a.0 (c.0 q m).0, (c.0 q m).1),
            λ q m. (holds_go set v.locks v.records (wrote_part (is_adding y)) y.tx q a.0 (c.1 q m).0, (c.1 q m).1),
          ))
          (items_in stay) (items_all_chosen _ (is_alive set) g.done k.covered);
      wrote = subst (AllByRecursion (Wrote (Taken (v.log ++ (aborts_of v.log set ++ clrs_of set (standing v.log)))))) (sym standing_more)
          (all_mono _ _ (λ w h out.
          let c = h.0 (false_from_ne_true _ (λ t. both_ways _ out (still_durable w.tx t))) in
          (release_holds set true (part_for w.change) (At w.key) w.tx v.locks (not-true _ h.1) c.0, λ none. c.1 (none_stood (is_of set) (standing v.log) v.records w.key none)))
          (filter (stays_of set) (standing v.log)) (all_filter _ (stays_of set) (standing v.log) k.wrote));
    };
    parts = record {
      known = all_mono _ _ (λ e h. ⊎_elim (λ a. inl (stage_other set (Some d) (doer e) v.parts h.1 ∙ a)) (λ r. inr (r.0, λ a. r.1 (active_back set (Some d) (doer e) v.parts a).1)) h.0) stay (of_stay _ k.known);
      alone = later_mono _ _ (λ x y h c. ⊎_elim (λ s. inl s) (λ n. inr (λ a. n (active_back set (Some d) x.tx v.parts a).1)) (h.0 c)) (items_in stay) (items_later_chosen _ (is_alive set) g.done k.alone);
      closed = λ u h. k.closed u (closed_back set (Some d) u v.parts h);
      successors = λ u p h. let s = without_pairs set v.pairs u p h in subst (λ o. is_present o ≡ true) (sym (stage_other set (Some d) u v.parts s.1)) (k.successors u p s.0);
    };
    fates = record {
      uncommitted = λ u h. uncommitted_append v.log _ u (k.uncommitted u (active_back set (Some d) u v.parts h).1) (no_more u);
      dead = λ u h.
          ⊎_elim
          (λ old. let e = k.dead u old in (uncommitted_append v.log _ u e.0 (no_more u), (λ a. e.1 (active_back set (Some d) u v.parts a).1), (λ a. e.2 (closed_back set (Some d) u v.parts a))))
          (λ new. let i = aborted_here set u v.log new in
          (uncommitted_append v.log _ u (may.undecided u i) (no_more u), (λ a. both_ways _ (active_back set (Some d) u v.parts a).0 i), (λ a. gone_closed (Some d) (stage_in v.parts u) (sym (stage_own set (Some d) u v.parts i) ∙ a))))
          (or_cases (aborted_in v.log u) _ (sym (aborted_append v.log (aborts_of v.log set ++ clrs_of set (standing v.log)) u) ∙ h));
      doomed = λ u e h. uncommitted_append v.log _ u (⊎_elim (λ i. may.undecided u i) (λ i. k.doomed u e (sym (stage_other set (Some d) u v.parts i) ∙ h)) (cases_Bool (tx_in u set))) (no_more u);
      prepared = prepared_more stay g.met (gone_in set (Some d) v.parts) v.log (aborts_of v.log set ++ clrs_of set (standing v.log))
          (prepared_kept (is_alive set) g.done g.met (gone_in set (Some d) v.parts) v.log (prepared_parts g.done g.met v.parts (gone_in set (Some d) v.parts) v.log k.prepared (λ u a. (active_back set (Some d) u v.parts a).1)))
          (λ u. no_writes set u v.log) (λ u. no_prepares set u v.log);
    };
    ends = record {
      left = all_mono _ _ (λ e h. ⊎_elim (λ a. inl (ap is_present (stage_other set (Some d) (doer e) v.parts h.1) ∙ a)) (λ a. inr (⊎_elim (λ o. inl o) (λ c. inr (still_durable (doer e) c)) a)) h.0) stay (of_stay _ k.left);
      over = λ u h. ⊎_elim (λ c. inl c) (λ c. inr (c.0, c.1, absent u c.2, c.3))
          (ended_more g v (aborts_of v.log set ++ clrs_of set (standing v.log)) u (λ a. no_more u) (λ e. ap (λ ws. list_any (λ w. tx_same u w.tx) ws) standing_more ∙ none_left (stays_of set) u (standing v.log) e) (k.over u h));
      recover = λ u p e. ⊎_elim (λ o. inl (in_more set g.lost u o.0, λ a. o.1 (active_back set (Some d) u v.parts a).1))
          (λ dep. ⊎_elim (λ i. inl (in_first set g.lost u i, λ a. both_ways _ (active_back set (Some d) u v.parts a).0 i))
          (λ i. inr (⊎_elim (λ c. inl (still_durable p c)) (λ m. ⊎_elim (λ pair. inr (inl (pairs_stay set v.pairs u p i pair))) (λ b. inr (inr (before_keeps v.log _ p u b))) m) dep.0, dep.1))
          (cases_Bool (tx_in u set)))
          (k.recover u p e);
    };
    pairs = record {
      downwards = λ u p h c. before_keeps v.log _ p u (k.downwards u p (without_pairs set v.pairs u p h).0 (back u c));
      causes = met_mono _ _ (λ x y h r.
          ⊎_elim (λ s. inl s) (λ dep. inr (⊎_elim (λ c. inl (still_durable x.tx c))
          (λ m. ⊎_elim (λ pair. inr (inl (pairs_stay set v.pairs y.tx x.tx h.1 pair))) (λ b. inr (inr (before_keeps v.log _ x.tx y.tx b))) m) dep)) (h.0 r))
          stay (met_stay _ k.causes);
    };
    durable = record {
      base_done = all_mono _ _ (λ w c. still_durable w.tx c) g.base k.base_done;
      front = k.front;
      floor_done = λ c l. take_base c v.log (aborts_of v.log set ++ clrs_of set (standing v.log)) brings ∙ k.floor_done c l;
      part_done = upto_within v.durable v.log (aborts_of v.log set ++ clrs_of set (standing v.log)) (undo_upto (aborts_of v.log set ++ clrs_of set (standing v.log)) undoing) k.part_done;
    };
  }

  pub keeps_taken : Kept (record g { done = deeds_by_chosen (is_alive set) g.done; lost = set ++ g.lost }) (record {
    records = records_without (is_of set) (standing v.log) v.records;
    locks = release set v.locks;
    parts = gone_in set (Some d) v.parts;
    pairs = pairs_without set v.pairs;
    log = v.log ++ aborts_of v.log set ++ clrs_of set (standing v.log);
    durable = v.durable;
    flight = v.flight;
  })
  unfolding Taken
  keeps_taken = subst (λ log. Kept (record g { done = stay; lost = set ++ g.lost }) (Taken log)) (sym (append_assoc v.log (aborts_of v.log set) (clrs_of set (standing v.log)))) taken_kept
