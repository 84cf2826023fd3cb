-- Who fell, through a restart: those that were here, and are neither restored nor committed.
use Rattle.std.proofs.Common.{◌≡◌, ◌⊎◌, inl, inr, ⊎_elim, refl, sym, ap, subst, ◌∙◌, ℕ, ◌≤◌, Bool, true, false, ◌||◌, List, [], ◌∷◌, ◌++◌, length, Option, Some, None, arith, map, cond}
use Rattle.std.specs.Prelude.{take}
use Rattle.std.proofs.lemmas.Bool.{cases_Bool, both_ways, or_cases, false_from_ne_true}
use Rattle.std.proofs.lemmas.List.{take_all}
use Rattle.clv_base.specs.declared.names.TxId.{TxId}
use Rattle.clv_base.specs.declared.logs.LogRecord.{LogRecord}
use Rattle.clv_base.specs.declared.state.Held.{Held}
use Rattle.clv_base.specs.declared.state.Stage.{Stage}
use Rattle.clv_base.proofs.SameNames.{or_left, or_right, tx_flip}
use Rattle.clv_base.specs.Orders.{Table, tx_in, tx_same, tx_get}
use Rattle.clv_base.specs.State.{is_present}
use Rattle.clv_base.specs.Logs.{committed_in, prepared_in, aborted_in, is_abort_of, is_commit_of, in_doubt}
use Rattle.clv_base.specs.LogRules.{listed_in, disorder}
use Rattle.clv_base.specs.Restarts.{restored_parts, restored_pairs}
use Rattle.law_base.proofs.Tables.{stage_in, is_pair, stage_by}
use Rattle.law_base.proofs.Commits.{commit_durable, durable_from, place_some, place_less}
use Rattle.law_base.proofs.Sets.{none_listed, list_all_at}
use Rattle.shard_laws.specs.OneShard.{is_doomed}
use Rattle.shard_laws.proofs.Keeping.LeavingKeeps.{in_first, in_more, in_two}
use Rattle.shard_laws.proofs.Cuts.WhatCutsHold.{cut_keeps, durable_cut}
use Rattle.shard_laws.proofs.Cuts.WhoIsInDoubt.{Doubted, doubted, prepared_cut}
use Rattle.shard_laws.proofs.Restarts.RestoredLocksAndParts.{restored_closed, restored_none}
use Rattle.shard_laws.proofs.Order.ChangesKeepOrder.{unlisted}
use Rattle.shard_laws.proofs.Order.WritesLieOnListed.{order_of, committed_lists}
use Rattle.shard_laws.proofs.Restarts.RestoredRequestsAndPairs.{pair_there, pair_lists}
use Rattle.shard_laws.proofs.Keeping.FallenAndLost.{Fell, Falls, take_further}

-- who has a part is named
get_name : (u : TxId) (h : Held) (ps : Table Held) → tx_get u ps ≡ Some h → tx_in u (map (λ p. p.0) ps) ≡ true
get_name u h [] e = absurd cc
get_name u h (p ∷ ps) e = at (tx_same u p.0) refl e (get_name u h ps)
  where
    at : (b : Bool) → tx_same u p.0 ≡ b → cond b (Some p.1) (tx_get u ps) ≡ Some h → (tx_get u ps ≡ Some h → tx_in u (map (λ p. p.0) ps) ≡ true) → tx_in u (map (λ p. p.0) (p ∷ ps)) ≡ true
    at true f e k = or_left _ _ (tx_flip u p.0 f)
    at false f e k = or_right (tx_same p.0 u) _ (k e)

pub stage_name : (u : TxId) (ps : Table Held) (st : Stage) → stage_in ps u ≡ Some st → tx_in u (map (λ p. p.0) ps) ≡ true
stage_name u ps st e = at (tx_get u ps) refl e
  where
    at : (o : Option Held) → tx_get u ps ≡ o → stage_by o ≡ Some st → tx_in u (map (λ p. p.0) ps) ≡ true
    at None f g = absurd cc
    at (Some h) f g = get_name u h ps f

-- whole logs are durable
pub all_durable : (log : List LogRecord) (t : TxId) → committed_in log t ≡ true → commit_durable log (length log) t ≡ true
all_durable log t e = let k = place_some 0 (is_commit_of t) log e in let l = place_less 0 (is_commit_of t) log k.0 k.1 in durable_from log (length log) t k.0 k.1 (omega arith)

module _ (shard : ℕ) (asked fell lost over : List TxId) (parts : Table Held) (pairs : List (TxId × TxId)) (log : List LogRecord) (durable c : ℕ) (after : List LogRecord) (out : List TxId) (f : Falls asked fell lost over parts pairs log durable)
    (order : disorder shard after ≡ None) (le : durable ≤ c) (boundary : (t : TxId) → is_doomed (stage_in parts t) ≡ true → tx_in t fell ≡ true) (present_asked : (t : TxId) → is_present (stage_in parts t) ≡ true → prepared_in log t ≡ true → tx_in t asked ≡ true) (successors : (t p : TxId) → is_pair pairs t p ≡ true → is_present (stage_in parts t) ≡ true) (finished : (t : TxId) → is_present (stage_in parts t) ≡ true → tx_in t over ≡ true → committed_in after t ≡ true)
    (commits : (t : TxId) → committed_in after t ≡ committed_in (take c log) t) (prepares : (t : TxId) → prepared_in after t ≡ prepared_in (take c log) t) (aborts : (t : TxId) → aborted_in (take c log) t ≡ true → aborted_in after t ≡ true) (lists_same : (t : TxId) → prepared_in after t ≡ true → listed_in after t ≡ listed_in log t)
    (outs : (t : TxId) → tx_in t out ≡ true → (is_present (stage_in parts t) ≡ true) × (tx_in t (in_doubt shard after) ≡ false) × (committed_in after t ≡ false)) (all_outs : (t : TxId) → is_present (stage_in parts t) ≡ true → tx_in t (in_doubt shard after) ≡ false → committed_in after t ≡ false → tx_in t out ≡ true) where
  doubts : (t : TxId) → tx_in t (in_doubt shard after) ≡ true → Doubted after (in_doubt shard after) t
  doubts t i = doubted shard after t (order_of shard after order).sealed i

  was_open : (t : TxId) → committed_in log t ≡ false → committed_in after t ≡ false
  was_open t e = commits t ∙ false_from_ne_true _ (λ k. both_ways _ e (cut_keeps c log t k))

  was_prepared : (t : TxId) → prepared_in after t ≡ true → prepared_in log t ≡ true
  was_prepared t e = prepared_cut c log t (sym (prepares t) ∙ e)

  -- who was not here then, and is not committed now, was not committed
  absent_open : (t : TxId) → is_present (stage_in parts t) ≡ false → committed_in after t ≡ false → committed_in log t ≡ false
  absent_open t h e = false_from_ne_true _ (λ k. both_ways _ e (commits t ∙ durable_cut durable c log t le (f.settled t k h)))

  -- an ABORT that was durable is here still
  still_aborted : (t : TxId) → aborted_in (take durable log) t ≡ true → aborted_in after t ≡ true
  still_aborted t a = aborts t (take_further (is_abort_of t) durable c log le a)

  aborted_now : {P : Type 0} (t : TxId) → P ⊎ (aborted_in (take durable log) t ≡ true) → P ⊎ (aborted_in (take (length after) after) t ≡ true)
  aborted_now t (inl p) = inl p
  aborted_now t (inr a) = inr (subst (λ l. aborted_in l t ≡ true) (sym (take_all (length after) after (omega arith))) (still_aborted t a))

  not_aborted : (t : TxId) → tx_in t (in_doubt shard after) ≡ true → aborted_in (take durable log) t ≡ true → ⊥
  not_aborted t i a = both_ways _ (doubts t i).unaborted (still_aborted t a)

  restored : (t : TxId) → tx_in t (in_doubt shard after) ≡ true → is_present (stage_in (restored_parts (in_doubt shard after)) t) ≡ true
  restored t i = ap is_present (restored_closed (in_doubt shard after) t i)

  not_restored : (t : TxId) → is_present (stage_in (restored_parts (in_doubt shard after)) t) ≡ false → tx_in t (in_doubt shard after) ≡ false
  not_restored t h = false_from_ne_true _ (λ i. both_ways _ h (restored t i))

  is_restored : (t : TxId) → is_present (stage_in (restored_parts (in_doubt shard after)) t) ≡ true → tx_in t (in_doubt shard after) ≡ true
  is_restored t h = ⊎_elim (λ i. i) (λ n. absurd (both_ways false refl (sym (ap is_present (restored_none (in_doubt shard after) t n)) ∙ h))) (cases_Bool (tx_in t (in_doubt shard after)))

  none_doomed : (t : TxId) → is_doomed (stage_in (restored_parts (in_doubt shard after)) t) ≡ true → ⊥
  none_doomed t d = ⊎_elim (λ i. both_ways false refl (sym (ap is_doomed (restored_closed (in_doubt shard after) t i)) ∙ d)) (λ n. both_ways false refl (sym (ap is_doomed (restored_none (in_doubt shard after) t n)) ∙ d)) (cases_Bool (tx_in t (in_doubt shard after)))

  fell_index : (t : TxId) → Fell fell parts t → tx_in t (out ++ fell) ≡ true
  fell_index t (inl i) = in_more out fell t i
  fell_index t (inr d) = in_more out fell t (boundary t d)

  lists_prepared : (t p : TxId) → tx_in p (listed_in after t) ≡ true → prepared_in after t ≡ true
  lists_prepared t p i = ⊎_elim (λ e. e) (λ e. absurd (none_listed p _ (unlisted after t e) i)) (cases_Bool (prepared_in after t))

  -- whom one in doubt lists is committed or in doubt
  doubt_lists : (t p : TxId) → tx_in t (in_doubt shard after) ≡ true → tx_in p (listed_in after t) ≡ true → (committed_in after p || tx_in p (in_doubt shard after)) ≡ true
  doubt_lists t p i l = list_all_at (λ z. committed_in after z || tx_in z (in_doubt shard after)) p (listed_in after t) (doubts t i).listed l

  out_lost : (p : TxId) → tx_in p out ≡ true → (committed_in after p || tx_in p (in_doubt shard after)) ≡ true → ⊥
  out_lost p o e = let q = outs p o in ⊎_elim (λ k. both_ways _ q.2 k) (λ k. both_ways _ q.1 k) (or_cases (committed_in after p) (tx_in p (in_doubt shard after)) e)

  -- who lists one that was left out is lost
  out_listed : (t p : TxId) → tx_in p (listed_in after t) ≡ true → tx_in p out ≡ true → (tx_in t (out ++ lost) ≡ true) ⊎ (aborted_in (take durable log) t ≡ true)
  out_listed t p i o =
      let open_t : committed_in after t ≡ false = false_from_ne_true _ (λ k. both_ways _ (outs p o).2 (committed_lists shard after order t p k i)) in
      ⊎_elim
      (λ h. inl (in_first out lost t (all_outs t h (false_from_ne_true _ (λ d. out_lost p o (doubt_lists t p d i))) open_t)))
      (λ h. ⊎_elim (λ e. inl (in_more out lost t (f.fallen t e))) (λ a. inr a) (f.gone t (was_prepared t (lists_prepared t p i)) (absent_open t h open_t) h))
      (cases_Bool (is_present (stage_in parts t)))

  with_pair : (t p : TxId) → tx_in t lost ≡ true → is_pair pairs t p ≡ true → tx_in p lost ≡ true → Fell (out ++ fell) (restored_parts (in_doubt shard after)) t ⊎ ((q : TxId) × (is_pair (restored_pairs after (in_doubt shard after)) t q ≡ true) × (tx_in q (out ++ lost) ≡ true))
  with_pair t p l e m =
      ⊎_elim
      (λ i. let d = doubts t i in ⊎_elim
      (λ k. inr (p, pair_there after (in_doubt shard after) t p i (ap (tx_in p) (lists_same t d.prepared) ∙ k) (was_open p (f.open_ p m)), in_more out lost p m))
      (λ k. absurd (both_ways _ (f.open_ p m) k)) (f.paired t p e (was_prepared t d.prepared)))
      (λ n. inl (inl (in_first out fell t (all_outs t (successors t p e) n (was_open t (f.open_ t l))))))
      (cases_Bool (tx_in t (in_doubt shard after)))

  pub falls_restarted : Falls asked (out ++ fell) (out ++ lost) over (restored_parts (in_doubt shard after)) (restored_pairs after (in_doubt shard after)) after (length after)
  falls_restarted = record {
    fallen = λ t e. ⊎_elim (λ i. ⊎_elim (λ o. in_first out lost t o) (λ j. in_more out lost t (f.fallen t (inl j))) (in_two out fell t i)) (λ d. absurd (none_doomed t d)) e;
    open_ = λ t l. ⊎_elim (λ o. (outs t o).2) (λ i. was_open t (f.open_ t i)) (in_two out lost t l);
    unfinished = λ t l. ⊎_elim (λ o. let q = outs t o in false_from_ne_true _ (λ i. both_ways _ q.2 (finished t q.0 i))) (λ i. f.unfinished t i) (in_two out lost t l);
    why = λ t l. ⊎_elim (λ o. inl (inl (in_first out fell t o))) (λ i. ⊎_elim (λ e. inl (inl (fell_index t e))) (λ q. with_pair t q.0 i q.1 q.2) (f.why t i)) (in_two out lost t l);
    up = λ t p e l.
        let q = pair_lists after (in_doubt shard after) t p e in
        ⊎_elim (λ o. absurd (out_lost p o (doubt_lists t p q.0 q.1))) (λ i. ⊎_elim (λ k. in_more out lost t k) (λ a. absurd (not_aborted t q.0 a)) (f.lists t p (ap (tx_in p) (sym (lists_same t (doubts t q.0).prepared)) ∙ q.1) i)) (in_two out lost p l);
    lists = λ t p i l. aborted_now t (⊎_elim (λ o. out_listed t p i o) (λ j. ⊎_elim (λ k. inl (in_more out lost t k)) (λ a. inr a) (f.lists t p (ap (tx_in p) (sym (lists_same t (lists_prepared t p i))) ∙ i) j)) (in_two out lost p l));
    back = λ t i h. (doubts t (is_restored t h)).prepared;
    owns = λ t p k. aborted_now t (⊎_elim (λ here. inl (present_asked t here (was_prepared t p))) (λ left. f.owns t (was_prepared t p) (absent_open t left k)) (cases_Bool (is_present (stage_in parts t))));
    gone = λ t p k h. aborted_now t (⊎_elim
        (λ here. inl (inl (in_first out fell t (all_outs t here (not_restored t h) k))))
        (λ left. ⊎_elim (λ e. inl (inl (fell_index t e))) (λ a. inr a) (f.gone t (was_prepared t p) (absent_open t left k) left))
        (cases_Bool (is_present (stage_in parts t))));
    settled = λ t k h. all_durable after t k;
    paired = λ t p e q. inl (pair_lists after (in_doubt shard after) t p e).1;
  }
