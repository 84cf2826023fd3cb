-- What comes behind a log in order asks nothing of what its checkpoint lets go.
use Rattle.std.proofs.Common.{◌≡◌, ℕ, suc, ◌+◌, ⊎_elim, Bool, true, false, not, ◌&&◌, List, [], ◌∷◌, ◌++◌, append_assoc, append-nil, length, Option, Some, None, ◌==◌, refl, sym, ap, subst, ◌∙◌}
use Rattle.std.specs.List.{AllByRecursion, list_any, list_all}
use Rattle.std.proofs.lemmas.Bool.{both_ways, and_parts, cond_both, or_cases, or_parts}
use Rattle.std.proofs.lemmas.List.Folds.{list_any-append}
use Rattle.clv_base.specs.declared.names.TxId.{TxId}
use Rattle.clv_base.specs.declared.logs.LogRecord.{LogRecord}
use Rattle.clv_base.specs.declared.logs.LogRecord.TheVariants.{Update, Clr, Prepare, Commit, Abort, End, Restart, Add, Unadd, Forgotten, Check}
use Rattle.clv_base.specs.Orders.{tx_same}
use Rattle.clv_base.specs.Logs.{StandingUpdate, is_commit_of, is_prepare_of, is_abort_of, committed_in, prepared_in, aborted_in, prepare_of, has_standing, standing, standing_from, standing_after, without_newest}
use Rattle.clv_base.specs.LogRules.{may_follow, commit_by_prepare, some_parts, disorder}
use Rattle.clv_base.specs.Checkpoints.{is_away}
use Rattle.law_base.proofs.Bools.{not_true}
use Rattle.law_base.proofs.Lists.{all_append}
use Rattle.law_base.proofs.Standing.{standing_append, all_without}
use Rattle.protocol_laws.specs.Order.{Open_at, moves, Tidy, Unprepared, Sealed, LieOnThese}
use Rattle.protocol_laws.proofs.LogsInOrder.{sealed_in_order, tidy_in_order, lie_in_order}
use Rattle.law_base.specs.Coming.{Follows}
use Rattle.law_base.proofs.Parts.{in_order_cut, whole_part}
use Rattle.shard_laws.proofs.Keeping.ChangesKeepPrepared.{sealed_later}
use Rattle.shard_laws.proofs.Cuts.WhatCutsHold.{tidy_later}
use Rattle.log_checkpoint.specs.Laws.{IsFirst, GoesOn, LieOn}
use Rattle.log_checkpoint.proofs.StayingAlike.{first_of, prepare_more, unprepared_write, old_standing, stays_alike}
use Rattle.checkpoint_laws.proofs.InOrder.{begins, once, rising}
use Rattle.checkpoint_laws.specs.Laws.{LogsInOrderStayAlike}

was_none : (test : LogRecord → Bool) (log mid : List LogRecord) → list_any test (log ++ mid) ≡ false → list_any test log ≡ false
was_none test log mid e = (or_parts (list_any test log) (list_any test mid) (sym (list_any-append test log mid) ∙ e)).0

listed_open : (log before : List LogRecord) (tx : TxId) (ps : List TxId) → ((p : TxId) → committed_in before p ≡ false → committed_in log p ≡ false)
    → list_all (λ p. not (tx_same p tx) && prepared_in before p && not (committed_in before p) && not (aborted_in before p)) ps ≡ true → AllByRecursion (λ p. committed_in log p ≡ false) ps
listed_open log before tx [] was e = tt
listed_open log before tx (p ∷ ps) was e =
    let x = and_parts (not (tx_same p tx) && prepared_in before p && not (committed_in before p) && not (aborted_in before p)) _ e in
    let y = and_parts (not (tx_same p tx) && prepared_in before p && not (committed_in before p)) (not (aborted_in before p)) x.0 in
    let z = and_parts (not (tx_same p tx) && prepared_in before p) (not (committed_in before p)) y.0 in
    (was p (not_true _ z.1), listed_open log before tx ps was x.1)

home_told : (shard : ℕ) (before : List LogRecord) (tx : TxId) (parts : List ℕ) (o : Option (ℕ × List TxId)) → commit_by_prepare shard before tx parts o ≡ true → some_parts parts ≡ true → (o ≡ None → ⊥) → is_away shard o ≡ false
home_told shard before tx parts None c s some = refl
home_told shard before tx [] (Some q) c s some = absurd (both_ways false refl s)
home_told shard before tx (p ∷ ps) (Some q) c s some =
    ⊎_elim (λ h. ap not h) (λ n. absurd (both_ways false refl n)) (or_cases (q.0 == shard) false c)

-- ---- each record

module _ (shard : ℕ) (first : LogRecord) (later : List LogRecord) (is_first : IsFirst first) where
  abbrev log : List LogRecord
  log = first ∷ later

  own_home : (mid : List LogRecord) (tx : TxId) (parts : List ℕ) (o : Option (ℕ × List TxId)) → prepare_of log tx ≡ o → commit_by_prepare shard (log ++ mid) tx parts (prepare_of (log ++ mid) tx) ≡ true → some_parts parts ≡ true
      → is_away shard (prepare_of log tx) ≡ false
  own_home mid tx parts None e c s = ap (is_away shard) e
  own_home mid tx parts (Some q) e c s =
      ap (is_away shard) e
      ∙ home_told shard (log ++ mid) tx parts (Some q) (ap (commit_by_prepare shard (log ++ mid) tx parts) (sym (prepare_more log mid tx ∙ ap (λ o. first_of o (prepare_of mid tx)) e)) ∙ c) s (λ n. absurd cc)

  one_goes : (mid : List LogRecord) (r : LogRecord) → AllByRecursion (GoesOn shard log) mid → may_follow shard (log ++ mid) r ≡ true → Unprepared (log ++ mid) r → Open_at (log ++ mid) (moves r) → GoesOn shard log r
  one_goes mid (Update tx key before after) all m u o =
      let a = and_parts _ _ (and_parts _ _ (and_parts _ _ m).0).0 in let w = and_parts _ _ a.0 in let x = and_parts _ _ w.0 in
      (was_none (is_commit_of tx) log mid o, was_none (is_prepare_of tx) log mid u, was_none (is_abort_of tx) log mid (not_true _ x.1))
  one_goes mid (Add tx key by) all m u o =
      let a = and_parts _ _ (and_parts _ _ m).0 in let w = and_parts _ _ a.0 in let x = and_parts _ _ w.0 in
      (was_none (is_commit_of tx) log mid o, was_none (is_prepare_of tx) log mid u, was_none (is_abort_of tx) log mid (not_true _ x.1))
  one_goes mid (Clr tx undo_next key after) all m u o = was_none (is_commit_of tx) log mid o
  one_goes mid (Unadd tx undo_next key by) all m u o = was_none (is_commit_of tx) log mid o
  one_goes mid (Prepare tx home listed) all m u o =
      let y = and_parts _ _ (and_parts _ _ m).0 in let z = and_parts _ _ y.0 in let v = and_parts _ _ z.0 in
      (was_none (is_commit_of tx) log mid (not_true _ v.1), was_none (is_prepare_of tx) log mid u, listed_open log (log ++ mid) tx listed (λ p e. was_none (is_commit_of p) log mid e) y.1)
  one_goes mid (Commit tx parts) all m u o =
      let x = and_parts _ _ m in let y = and_parts _ _ x.0 in let z = and_parts _ _ y.0 in let v = and_parts _ _ z.0 in let w = and_parts _ _ v.0 in let k = and_parts _ _ w.0 in let c = and_parts _ _ k.0 in (
        was_none (is_commit_of tx) log mid (not_true _ c.1),
        λ p n. own_home mid tx parts (prepare_of log tx) refl y.1
            (⊎_elim (λ s. absurd (both_ways _ n (old_standing shard first later mid is_first all (prepared_in log) tx p (unprepared_write shard first later mid is_first all) s))) (λ s. s)
            (or_cases (has_standing (log ++ mid) tx) (some_parts parts) x.1)),
      )
  one_goes mid (Abort tx) all m u o = tt
  one_goes mid (End tx) all m u o = tt
  one_goes mid (Restart run epoch) all m u o = tt
  one_goes mid Forgotten all m u o = tt
  one_goes mid (Check run epoch upto base) all m u o = tt

  all_go : (mid rs : List LogRecord) → AllByRecursion (GoesOn shard log) mid → Follows shard (log ++ mid) rs → Sealed (log ++ mid) rs → Tidy (log ++ mid) rs → AllByRecursion (GoesOn shard log) rs
  all_go mid [] all f s t = tt
  all_go mid (r ∷ rs) all f s t =
      let g = one_goes mid r all f.0 s.0 t.0 in (
        g,
        all_go (mid ++ r ∷ []) rs (all_append (GoesOn shard log) mid (r ∷ []) all (g, tt))
            (subst (λ l. Follows shard l rs) (append_assoc log mid (r ∷ [])) f.1) (subst (λ l. Sealed l rs) (append_assoc log mid (r ∷ [])) s.1) (subst (λ l. Tidy l rs) (append_assoc log mid (r ∷ [])) t.1),
      )

  lie_without : (these : TxId → Bool) (t : TxId) (ws : List StandingUpdate) → LieOn these ws → LieOn these (without_newest t ws)
  lie_without these t [] lie = tt
  lie_without these t (w ∷ ws) lie =
      cond_both (tx_same t w.tx) ws (w ∷ without_newest t ws) (LieOn these) (λ _. lie.1) (λ _. ((λ c. all_without _ t ws (lie.0 c)), lie_without these t ws lie.1))

  lie_after : (n : ℕ) (r : LogRecord) (ws : List StandingUpdate) → GoesOn shard log r → LieOn (committed_in log) ws → LieOn (committed_in log) (standing_after n r ws)
  lie_after n (Update tx key before after) ws g lie = ((λ c. absurd (both_ways _ g.0 c)), lie)
  lie_after n (Add tx key by) ws g lie = ((λ c. absurd (both_ways _ g.0 c)), lie)
  lie_after n (Clr tx undo_next key after) ws g lie = lie_without (committed_in log) tx ws lie
  lie_after n (Unadd tx undo_next key by) ws g lie = lie_without (committed_in log) tx ws lie
  lie_after n (Prepare tx home listed) ws g lie = lie
  lie_after n (Commit tx parts) ws g lie = lie
  lie_after n (Abort tx) ws g lie = lie
  lie_after n (End tx) ws g lie = lie
  lie_after n (Restart run epoch) ws g lie = lie
  lie_after n Forgotten ws g lie = lie
  lie_after n (Check run epoch upto base) ws g lie = lie

  lie_from : (n : ℕ) (rs : List LogRecord) (ws : List StandingUpdate) → AllByRecursion (GoesOn shard log) rs → LieOn (committed_in log) ws → LieOn (committed_in log) (standing_from n rs ws)
  lie_from n [] ws all lie = lie
  lie_from n (r ∷ rs) ws all lie = lie_from (suc n) rs (standing_after n r ws) all.1 (lie_after n r ws all.0 lie)

pub lie_same : (these : TxId → Bool) (ws : List StandingUpdate) → LieOnThese these ws → LieOn these ws
lie_same these [] lie = tt
lie_same these (w ∷ ws) lie = (lie.0, lie_same these ws lie.1)

-- the records that come behind a log in order, as long as it stays so
pub later_go : (shard : ℕ) (first : LogRecord) (later more : List LogRecord) → disorder shard (first ∷ later) ≡ None → disorder shard (first ∷ later ++ more) ≡ None → AllByRecursion (GoesOn shard (first ∷ later)) more
later_go shard r rs more own d =
    let log : List LogRecord = r ∷ rs in
    let nil : log ++ [] ≡ log = append-nil log in
    all_go shard r rs (begins shard log own) [] more tt (subst (λ l. Follows shard l more) (sym nil) (in_order_cut shard log more (whole_part shard log own) d).1)
    (subst (λ l. Sealed l more) (sym nil) (sealed_later [] log more (sealed_in_order shard (log ++ more) d)))
    (subst (λ l. Tidy l more) (sym nil) (tidy_later [] log more (tidy_in_order shard (log ++ more) d)))

pub later_lie : (shard : ℕ) (first : LogRecord) (later more : List LogRecord) → disorder shard (first ∷ later) ≡ None → AllByRecursion (GoesOn shard (first ∷ later)) more
    → LieOn (committed_in (first ∷ later)) (standing (first ∷ later ++ more))
later_lie shard r rs more own goes =
    let log : List LogRecord = r ∷ rs in
    subst (LieOn (committed_in log)) (sym (standing_append 0 log more []))
    (lie_from shard r rs (begins shard log own) (0 + length log) more (standing log) goes (lie_same (committed_in log) (standing log) (lie_in_order shard log own)))

pub stay_alike : LogsInOrderStayAlike
stay_alike shard [] more own d = refl
stay_alike shard (r ∷ rs) more own d =
    let log : List LogRecord = r ∷ rs in
    let goes : AllByRecursion (GoesOn shard log) more = later_go shard r rs more own d in
    stays_alike shard log more (begins shard log own) (once [] log (sealed_in_order shard log own)) (rising shard log own) goes (later_lie shard r rs more own goes)
