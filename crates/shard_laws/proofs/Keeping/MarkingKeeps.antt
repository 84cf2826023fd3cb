-- Changes of parts that leave each stage as it is: a part is marked, or one that has left is finished once more.
use Rattle.std.proofs.Common.{◌≡◌, inl, inr, Bool, true, false, cond, not, List, [], ◌∷◌, Some, None, refl, sym, ap, subst, ◌∙◌, ⊎_elim}
use Rattle.std.proofs.lemmas.Bool.{cases_Bool, both_ways, and_from, cond-true, false_from_ne_true}
use Rattle.clv_base.specs.declared.names.TxId.{TxId}
use Rattle.clv_base.specs.declared.names.Birth.{Birth}
use Rattle.clv_base.specs.declared.state.Stage.{Stage}
use Rattle.clv_base.specs.declared.state.Stage.TheVariants.{Gone}
use Rattle.clv_base.specs.declared.state.Held.{Held}
use Rattle.clv_base.specs.Orders.{Table, tx_same, tx_in}
use Rattle.clv_base.specs.Locks.{Locks, release}
use Rattle.clv_base.specs.State.{is_present}
use Rattle.clv_base.specs.Undo.{gone_in, pairs_without}
use Rattle.clv_base.specs.OneShard.{dropped_part, marked_in}
use Rattle.clv_base.proofs.SameNames.{or_left, or_right, tx_self}
use Rattle.law_base.proofs.Lists.{all_mono, later_mono}
use Rattle.law_base.proofs.LockRows.{Rows}
use Rattle.law_base.proofs.Tables.{stage_in, stage_by, is_pair, row_pairs}
use Rattle.shard_laws.proofs.Keeping.ChangesKeepPrepared.{prepared_parts}
use Rattle.shard_laws.proofs.Keeping.WhatOneShardKeeps.{View, Past, StageFits, Belongs, Kept}
use Rattle.shard_laws.proofs.Keeping.LeavingKeeps.{one_in}
use Rattle.law_base.proofs.Stages.{get_other, stage_own, stage_other, gone_by}
use Rattle.law_base.proofs.Stages.{get_marked, stage_marked}
use Rattle.shard_laws.specs.OneShard.{doer, items_in}

pub keeps_parts : (g : Past) (v : View) (parts : Table Held) → ((u : TxId) → stage_in parts u ≡ stage_in v.parts u) → ((u : TxId) (b : Birth) (c : Bool) → Belongs v.parts u b c → Belongs parts u b c) → Kept g v → Kept g (record v { parts = parts })
keeps_parts g v parts same own k = record {
  start = k.start;
  past = k.past;
  log = k.log;
  records = k.records;
  locks = record { rows = all_mono _ _ (λ r h. own (r.1).tx (r.1).birth (r.1).closed h) v.locks k.rows; covered = all_mono _ _ (λ y h active. h (sym (same y.tx) ∙ active)) (items_in g.done) k.covered; wrote = k.wrote };
  parts = record {
    known = all_mono _ _ (λ d h. ⊎_elim (λ a. inl (same (doer d) ∙ a)) (λ r. inr (r.0, λ a. r.1 (sym (same (doer d)) ∙ a))) h) g.done k.known;
    alone = later_mono _ _ (λ x y h c. ⊎_elim (λ s. inl s) (λ n. inr (λ a. n (sym (same x.tx) ∙ a))) (h c)) (items_in g.done) k.alone;
    closed = λ t h. k.closed t (sym (same t) ∙ h);
    successors = λ t p h. ap is_present (same t) ∙ k.successors t p h;
  };
  fates = record {
    uncommitted = λ t h. k.uncommitted t (sym (same t) ∙ h);
    dead = λ t u. let d = k.dead t u in (d.0, (λ a. d.1 (sym (same t) ∙ a)), (λ a. d.2 (sym (same t) ∙ a)));
    doomed = λ t d h. k.doomed t d (sym (same t) ∙ h);
    prepared = prepared_parts g.done g.met v.parts parts v.log k.prepared (λ t a. sym (same t) ∙ a);
  };
  ends = record {
    left = all_mono _ _ (λ d l. ⊎_elim (λ a. inl (ap is_present (same (doer d)) ∙ a)) (λ a. inr a) l) g.done k.left;
    over = λ t h. ⊎_elim (λ c. inl c) (λ c. inr (c.0, c.1, ap is_present (same t) ∙ c.2, c.3)) (k.over t h);
    recover = λ t p e. ⊎_elim (λ o. inl (o.0, λ a. o.1 (sym (same t) ∙ a))) (λ d. inr d) (k.recover t p e);
  };
  pairs = k.pairs;
  durable = k.durable;
}

-- ---- marked as dropped

belongs_marked : (t : TxId) (parts : Table Held) (u : TxId) (b : Birth) (c : Bool) → Belongs parts u b c → Belongs (marked_in t parts) u b c
belongs_marked t parts u b c (h, e, f, fit) = at (tx_same t u) refl
  where
    at : (x : Bool) → tx_same t u ≡ x → Belongs (marked_in t parts) u b c
    at true s = (dropped_part h, get_marked t u parts ∙ ap (λ o. elim o [ Some h ↦ Some (cond (tx_same t u) (dropped_part h) h) | None ↦ None ]) e ∙ ap (λ x. Some (cond x (dropped_part h) h)) s, f, fit)
    at false s = (h, get_marked t u parts ∙ ap (λ o. elim o [ Some h ↦ Some (cond (tx_same t u) (dropped_part h) h) | None ↦ None ]) e ∙ ap (λ x. Some (cond x (dropped_part h) h)) s, f, fit)

pub keeps_marked : (g : Past) (v : View) (t : TxId) → Kept g v → Kept g (record v { parts = marked_in t v.parts })
keeps_marked g v t k = keeps_parts g v (marked_in t v.parts) (λ u. stage_marked t u v.parts) (λ u b c h. belongs_marked t v.parts u b c h) k

-- ---- finished once more

pub gone_stays : (t u : TxId) (parts : Table Held) → stage_in parts u ≡ Some (Gone None) → stage_in (gone_in (t ∷ []) None parts) u ≡ Some (Gone None)
gone_stays t u parts r = ⊎_elim (λ i. stage_own (t ∷ []) None u parts i ∙ ap (gone_by None) r) (λ i. stage_other (t ∷ []) None u parts i ∙ r) (cases_Bool (tx_in u (t ∷ [])))

pub same_again : (t : TxId) (parts : Table Held) → stage_in parts t ≡ Some (Gone None) → (u : TxId) → stage_in (gone_in (t ∷ []) None parts) u ≡ stage_in parts u
same_again t parts gone u =
    ⊎_elim (λ i. let e = ap (stage_in parts) (one_in t u i) ∙ gone in gone_stays t u parts e ∙ sym e) (λ i. stage_other (t ∷ []) None u parts i) (cases_Bool (tx_in u (t ∷ [])))

-- a lock is not of a part that has left
not_gone : (parts : Table Held) (u : TxId) (b : Birth) (c : Bool) → Belongs parts u b c → stage_in parts u ≡ Some (Gone None) → ⊥
not_gone parts u b c (h, e, f, fit) g = at c h.stage fit (some_stage h.stage (Gone None) (sym (ap stage_by e) ∙ g))
  where
    some_stage : (a b : Stage) → Some a ≡ Some b → a ≡ b
    some_stage a b e = cc

    at : (c : Bool) (s : Stage) → StageFits c s → s ≡ Gone None → ⊥
    at c s fit e = never c (subst (StageFits c) e fit)
      where
        never : (c : Bool) → StageFits c (Gone None) → ⊥
        never true x = x
        never false x = x

row_apart : (t : TxId) (parts : Table Held) (u : TxId) (b : Birth) (c : Bool) → stage_in parts t ≡ Some (Gone None) → Belongs parts u b c → tx_in u (t ∷ []) ≡ false
row_apart t parts u b c gone h = false_from_ne_true _ (λ i. not_gone parts u b c h (ap (stage_in parts) (one_in t u i) ∙ gone))

belongs_again : (t : TxId) (parts : Table Held) → stage_in parts t ≡ Some (Gone None) → (u : TxId) (b : Birth) (c : Bool) → Belongs parts u b c → Belongs (gone_in (t ∷ []) None parts) u b c
belongs_again t parts gone u b c h = (h.0, get_other (t ∷ []) None u parts (row_apart t parts u b c gone h) ∙ h.1, h.2, h.3)

release_none : (t : TxId) (parts : Table Held) (locks : Locks) → stage_in parts t ≡ Some (Gone None) → Rows (Belongs parts) locks → release (t ∷ []) locks ≡ locks
release_none t parts [] gone rows = refl
release_none t parts (r ∷ rs) gone rows =
    cond-true (not (tx_in (r.1).tx (t ∷ []))) (r ∷ release (t ∷ []) rs) (release (t ∷ []) rs) (ap not (row_apart t parts (r.1).tx (r.1).birth (r.1).closed gone rows.0))
    ∙ ap (λ l. r ∷ l) (release_none t parts rs gone rows.1)

pub pairs_none : (t : TxId) (parts : Table Held) (pairs : List (TxId × TxId)) → stage_in parts t ≡ Some (Gone None) → ((u p : TxId) → is_pair pairs u p ≡ true → is_present (stage_in parts u) ≡ true) → pairs_without (t ∷ []) pairs ≡ pairs
pairs_none t parts [] gone h = refl
pairs_none t parts (q ∷ qs) gone h =
    let apart : tx_in q.0 (t ∷ []) ≡ false = false_from_ne_true _ (λ i. both_ways false refl (sym (ap is_present (ap (stage_in parts) (one_in t q.0 i) ∙ gone)) ∙ h q.0 q.1 (own q))) in
    cond-true (not (tx_in q.0 (t ∷ []))) (q ∷ pairs_without (t ∷ []) qs) (pairs_without (t ∷ []) qs) (ap not apart)
    ∙ ap (λ l. q ∷ l) (pairs_none t parts qs gone (λ u p e. h u p (or_right (row_pairs u p q) _ e)))
  where
    own : (q : TxId × TxId) → is_pair (q ∷ qs) q.0 q.1 ≡ true
    own q = or_left _ _ (and_from _ _ (tx_self q.0) (tx_self q.1))

pub keeps_again : (g : Past) (v : View) (t : TxId) → Kept g v → stage_in v.parts t ≡ Some (Gone None)
    → Kept g (record v { locks = release (t ∷ []) v.locks; parts = gone_in (t ∷ []) None v.parts; pairs = pairs_without (t ∷ []) v.pairs })
keeps_again g v t k gone =
    subst (λ ps. Kept g (record v { locks = release (t ∷ []) v.locks; parts = gone_in (t ∷ []) None v.parts; pairs = ps })) (sym (pairs_none t v.parts v.pairs gone k.successors))
    (subst (λ ls. Kept g (record v { locks = ls; parts = gone_in (t ∷ []) None v.parts })) (sym (release_none t v.parts v.locks gone k.rows))
    (keeps_parts g v (gone_in (t ∷ []) None v.parts) (same_again t v.parts gone) (belongs_again t v.parts gone) k))
