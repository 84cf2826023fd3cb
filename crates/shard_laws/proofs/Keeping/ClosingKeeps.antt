-- A part is closed, and its transaction is the last that asked.
use Rattle.std.proofs.Common.{◌≡◌, zero, suc, ◌<◌, inl, inr, Bool, true, false, cond, ◌||◌, List, [], ◌∷◌, ◌++◌, length, Option, Some, None, refl, sym, ap, subst, ◌∙◌, arith, ℕ, ⊎_elim}
use Rattle.std.proofs.lemmas.Bool.{cases_Bool, both_ways, cond-true, cond-false, or_cases, false_from_ne_true}
use Rattle.std.proofs.lemmas.List.Folds.{list_any-append}
use Rattle.clv_base.specs.declared.values.Value.{Value as ValueType}
use Rattle.clv_base.specs.declared.names.TxId.{TxId}
use Rattle.clv_base.specs.declared.modes.Part.{Part}
use Rattle.clv_base.specs.declared.modes.Anchor.TheVariants.{At}
use Rattle.clv_base.specs.declared.state.Stage.{Stage}
use Rattle.clv_base.specs.declared.state.Stage.TheVariants.{Active, Closed, Gone}
use Rattle.clv_base.specs.declared.state.Held.{Held}
use Rattle.clv_base.specs.Orders.{Table, tx_same, tx_in, tx_get}
use Rattle.clv_base.specs.Locks.{close_locks}
use Rattle.clv_base.specs.Logs.{standing}
use Rattle.clv_base.specs.State.{is_present}
use Rattle.clv_base.specs.OneShard.{closed_part, closed_in}
use Rattle.clv_base.specs.Needs.{lower_anchor}
use Rattle.law_base.proofs.Cells.{record_at}
use Rattle.clv_base.proofs.SameNames.{or_left, tx_true, tx_ne, tx_flip}
use Rattle.law_base.proofs.Lists.{all_mono, later_mono}
use Rattle.law_base.proofs.LockRows.{rows_close, close_holds}
use Rattle.shard_laws.proofs.Operations.NeedsCoverKeys.{holds_at, holds_by}
use Rattle.law_base.proofs.Tables.{stage_in, stage_by}
use Rattle.shard_laws.proofs.Keeping.ChangesKeepPrepared.{prepared_parts}
use Rattle.shard_laws.proofs.Operations.NeedsCoverKeys.{met_part, wrote_part}
use Rattle.shard_laws.proofs.Keeping.WhatOneShardKeeps.{is_adding, part_for, View, Past, place, Belongs, Known, Kept}
use Rattle.law_base.proofs.Stages.{get_closed, get_closed_other, get_closed_own, stage_closed, closed_other as stage_other, closed_not_active}
use Rattle.law_base.proofs.Sets.{flip_apart}
use Rattle.clv_base.proofs.Folding.{or_left as or_false_left, or_right as or_false_right}
use Rattle.shard_laws.specs.OneShard.{doer, items_in}

-- ---- places

pub place_push : (as_ : List TxId) (n t u : TxId) → place as_ t < place as_ u → place (as_ ++ n ∷ []) t < place (as_ ++ n ∷ []) u
place_push [] n t u h = absurd (omega arith)
place_push (a ∷ rest) n t u h = at (tx_same t a) (tx_same u a) h (place_push rest n t u)
  where
    at : (b c : Bool) → cond b zero (suc (place rest t)) < cond c zero (suc (place rest u)) → (place rest t < place rest u → place (rest ++ n ∷ []) t < place (rest ++ n ∷ []) u) → cond b zero (suc (place (rest ++ n ∷ []) t)) < cond c zero (suc (place (rest ++ n ∷ []) u))
    at true true h ih = absurd (omega arith)
    at true false h ih = omega arith
    at false true h ih = absurd (omega arith)
    at false false h ih = let l = ih (omega arith) in omega arith

pub place_in : (as_ : List TxId) (t : TxId) → tx_in t as_ ≡ true → place as_ t < length as_
place_in [] t e = absurd (both_ways false refl e)
place_in (a ∷ rest) t e =
    ⊎_elim
    (λ h. let z : place (a ∷ rest) t ≡ zero = cond-true (tx_same t a) zero (suc (place rest t)) (tx_flip a t h) in omega arith)
    (λ h. at (tx_same t a) (place_in rest t h))
    (or_cases (tx_same a t) (tx_in t rest) e)
  where
    at : (b : Bool) → place rest t < length rest → cond b zero (suc (place rest t)) < length (a ∷ rest)
    at true h = omega arith
    at false h = omega arith

pub place_out : (as_ : List TxId) (t : TxId) → tx_in t as_ ≡ false → place as_ t ≡ length as_
place_out [] t e = refl
place_out (a ∷ rest) t e =
    cond-false (tx_same t a) zero (suc (place rest t)) (flip_apart a t (or_false_left _ _ e)) ∙ ap suc (place_out rest t (or_false_right (tx_same a t) _ e)) ∙ one
  where
    one : suc (length rest) ≡ length (a ∷ rest)
    one = omega arith

pub in_push : (as_ : List TxId) (n t : TxId) → tx_in t (as_ ++ n ∷ []) ≡ (tx_in t as_ || (tx_same n t || false))
in_push as_ n t = list_any-append (λ x. tx_same x t) as_ (n ∷ [])

-- ---- the part

-- a stage after it that is not Closed was there before
pub stage_back : (parts : Table Held) (t u : TxId) (s : Stage) → stage_in parts t ≡ Some Active → (Some Closed ≡ Some s → ⊥) → stage_in (closed_in t parts) u ≡ Some s → (tx_same t u ≡ false) × (stage_in parts u ≡ Some s)
stage_back parts t u s act ne e =
    let apart : tx_same t u ≡ false = false_from_ne_true _ (λ h. ne (sym (stage_closed parts t act) ∙ ap (stage_in (closed_in t parts)) (tx_true t u h) ∙ e)) in
    (apart, sym (stage_other parts t u apart) ∙ e)

closed_not_doomed : (d : TxId) → ◌≡◌ {A = Option Stage} (Some Closed) (Some (Gone (Some d))) → ⊥
closed_not_doomed d e = absurd cc

pub present_closed : (parts : Table Held) (t u : TxId) → is_present (stage_in parts u) ≡ true → is_present (stage_in (closed_in t parts) u) ≡ true
present_closed parts t u e = subst (λ o. is_present (stage_by o) ≡ true) (sym (get_closed t u parts)) (at (tx_get u parts) (tx_same t u) e)
  where
    at : (o : Option Held) (b : Bool) → is_present (stage_by o) ≡ true → is_present (stage_by (elim o [ Some h ↦ Some (cond b (closed_part h) h) | None ↦ None ])) ≡ true
    at None b e = e
    at (Some h) true e = refl
    at (Some h) false e = e

-- a transaction more has asked, here or elsewhere
pub keeps_asked : (g : Past) (v : View) (t : TxId) → Kept g v → Kept (record g { asked = g.asked ++ t ∷ [] }) v
keeps_asked g v t k = record {
  start = k.start;
  past = record { acts = k.acts; alive = k.alive; order = later_mono _ _ (λ x y h c. ⊎_elim (λ s. inl s) (λ l. inr (place_push g.asked t x.tx y.tx l)) (h c)) (items_in g.done) k.order; between = k.between; rising = k.rising };
  log = k.log;
  records = k.records;
  locks = k.locks;
  parts = record { known = all_mono _ _ (λ d h. ⊎_elim (λ a. inl a) (λ r. inr (in_push g.asked t (doer d) ∙ or_left _ _ r.0, r.1)) h) g.done k.known; alone = k.alone; closed = λ u h. in_push g.asked t u ∙ or_left _ _ (k.closed u h); successors = k.successors };
  fates = k.fates;
  ends = record { left = k.left; over = λ u h. ⊎_elim (λ c. inl c) (λ c. inr (c.0, c.1, c.2, in_push g.asked t u ∙ or_left _ _ c.3)) (k.over u h); recover = λ u p e. ⊎_elim (λ o. inl o) (λ d. inr (d.0, place_push g.asked t p u d.1)) (k.recover u p e) };
  pairs = k.pairs;
  durable = k.durable;
}

-- the part of one that asked is closed
pub keeps_close : (g : Past) (v : View) (t : TxId) → Kept g v → stage_in v.parts t ≡ Some Active → tx_in t g.asked ≡ true
    → Kept g (record v { locks = close_locks t v.locks; parts = closed_in t v.parts })
keeps_close g v t k act asks = record {
  start = k.start;
  past = k.past;
  log = k.log;
  records = k.records;
  locks = record {
    rows = rows_close (Belongs v.parts) (Belongs (closed_in t v.parts)) t v.locks
        (λ u b c h same. (closed_part h.0, get_closed_own t u v.parts h.0 same h.1, h.2, tt))
        (λ u b c h other. (h.0, get_closed_other t u v.parts other ∙ h.1, h.2, h.3))
        k.rows;
    covered = all_mono _ _ (λ y h active.
        let c = h (stage_back v.parts t y.tx Active act closed_not_active active).1 in
        (λ q m. (holds_closed (met_part (is_adding y)) y.tx q (c.0 q m).0, (c.0 q m).1), λ q m. (holds_closed (wrote_part (is_adding y)) y.tx q (c.1 q m).0, (c.1 q m).1))) (items_in g.done) k.covered;
    wrote = all_mono _ _ (λ w h out. let c = h out in (close_holds t true (part_for w.change) (At w.key) w.tx v.locks ∙ c.0, c.1)) (standing v.log) k.wrote;
  };
  parts = record {
    known = all_mono _ _ (λ d h. still_known (doer d) h) g.done k.known;
    alone = later_mono _ _ (λ x y h c. ⊎_elim (λ s. inl s) (λ n. inr (λ a. n (stage_back v.parts t x.tx Active act closed_not_active a).1)) (h c)) (items_in g.done) k.alone;
    closed = λ u h. ⊎_elim (λ e. subst (λ z. tx_in z g.asked ≡ true) (tx_true t u e) asks) (λ e. k.closed u (sym (stage_other v.parts t u e) ∙ h)) (cases_Bool (tx_same t u));
    successors = λ u p h. present_closed v.parts t u (k.successors u p h);
  };
  fates = record {
    uncommitted = λ u h. k.uncommitted u (stage_back v.parts t u Active act closed_not_active h).1;
    dead = λ u h. let d = k.dead u h in (d.0, (λ a. d.1 (stage_back v.parts t u Active act closed_not_active a).1), (λ a. still_dead u d.1 d.2 a));
    doomed = λ u d h. k.doomed u d (stage_back v.parts t u (Gone (Some d)) act (closed_not_doomed d) h).1;
    prepared = prepared_parts g.done g.met v.parts (closed_in t v.parts) v.log k.prepared (λ u a. (stage_back v.parts t u Active act closed_not_active a).1);
  };
  ends = record {
    left = all_mono _ _ (λ d l. ⊎_elim (λ a. inl (present_closed v.parts t (doer d) a)) (λ a. inr a) l) g.done k.left;
    over = λ u h. ⊎_elim (λ c. inl c) (λ c. inr (c.0, c.1, not_present u c.2, c.3)) (k.over u h);
    recover = λ u p e. ⊎_elim (λ o. inl (o.0, λ a. o.1 (stage_back v.parts t u Active act closed_not_active a).1)) (λ d. inr d) (k.recover u p e);
  };
  pairs = k.pairs;
  durable = k.durable;
}
  where
    holds_closed : (p : Part) (u : TxId) (q : ℕ) → holds_at p v.locks v.records u q ≡ true → holds_at p (close_locks t v.locks) v.records u q ≡ true
    holds_closed p u q h = at (record_at q v.records) h
      where
        at : (o : Option (Option ValueType)) → holds_by p v.locks v.records u q o ≡ true → holds_by p (close_locks t v.locks) v.records u q o ≡ true
        at (Some x) h = close_holds t true p (At q) u v.locks ∙ h
        at None h = close_holds t false p (lower_anchor q v.records) u v.locks ∙ h

    not_present : (u : TxId) → is_present (stage_in v.parts u) ≡ false → is_present (stage_in (closed_in t v.parts) u) ≡ false
    not_present u e = ap is_present (stage_other v.parts t u (tx_ne t u (λ s. both_ways _ e (ap is_present (ap (stage_in v.parts) (sym s) ∙ act))))) ∙ e

    still_dead : (u : TxId) → (stage_in v.parts u ≡ Some Active → ⊥) → (stage_in v.parts u ≡ Some Closed → ⊥) → stage_in (closed_in t v.parts) u ≡ Some Closed → ⊥
    still_dead u na nc e = ⊎_elim (λ s. na (ap (stage_in v.parts) (sym (tx_true t u s)) ∙ act)) (λ s. nc (sym (stage_other v.parts t u s) ∙ e)) (cases_Bool (tx_same t u))

    still_known : (u : TxId) → Known g v u → Known g (record v { locks = close_locks t v.locks; parts = closed_in t v.parts }) u
    still_known u h =
        ⊎_elim
        (λ a. ⊎_elim
        (λ e. inr (subst (λ z. tx_in z g.asked ≡ true) (tx_true t u e) asks, λ a. closed_not_active (sym (subst (λ x. stage_in (closed_in t v.parts) x ≡ Some Closed) (tx_true t u e) (stage_closed v.parts t act)) ∙ a)))
        (λ e. inl (stage_other v.parts t u e ∙ a))
        (cases_Bool (tx_same t u)))
        (λ r. inr (r.0, λ a. r.1 (stage_back v.parts t u Active act closed_not_active a).1))
        h
