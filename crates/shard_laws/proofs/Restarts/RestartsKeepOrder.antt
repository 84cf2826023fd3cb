-- A log in order stays so through a restart, also where restarts failed in between; and the state that it restores keeps the order rules.
use Rattle.std.proofs.Common.{◌≡◌, inl, inr, ⊎_elim, refl, sym, ap, subst, ◌∙◌, ℕ, ◌≤◌, Bool, true, false, not, ◌||◌, List, [], ◌∷◌, ◌++◌, map, Some, None, is_some, arith, append_assoc, append-nil}
use Rattle.std.specs.Prelude.{take, drop}
use Rattle.std.specs.List.{AllByRecursion, filter}
use Rattle.std.proofs.lemmas.Bool.{cases_Bool, both_ways, cond_both, or_cases, and_from, not-true, false_from_ne_true}
use Rattle.std.proofs.lemmas.List.{take-append-drop}
use Rattle.std.proofs.lemmas.List.Folds.{list_any-append}
use Rattle.law_base.specs.Coming.{may_come}
use Rattle.law_base.proofs.InOrder.{through}
use Rattle.law_base.proofs.Parts.{in_order_comes, in_order_more}
use Rattle.shard_laws.proofs.Order.WhoIsListed.{Named, named_more, unlisted_all, OldParted, old_more}
use Rattle.clv_base.specs.declared.names.TxId.{TxId}
use Rattle.clv_base.specs.declared.logs.LogRecord.{LogRecord}
use Rattle.clv_base.specs.declared.logs.LogRecord.TheVariants.{Update, Clr, Prepare, Commit, Abort, End, Restart, Add, Unadd, Forgotten, Check}
use Rattle.clv_base.specs.declared.state.Stage.TheVariants.{Active, Closed}
use Rattle.clv_base.specs.declared.state.RequestState.TheVariants.{Undecided, Committed}
use Rattle.clv_base.specs.Orders.{tx_same, tx_in}
use Rattle.clv_base.specs.State.{Shard}
use Rattle.clv_base.specs.Logs.{StandingUpdate, standing, committed_in, aborted_in, wrote_in, has_standing, is_commit_of, in_doubt, is_winner, writers}
use Rattle.clv_base.specs.LogRules.{may_follow, last_restart, above_restarts, lists, is_listed, listed_in, part_of, disorder}
use Rattle.clv_base.specs.Undo.{is_of, clrs_of, newest_lsn, compensation}
use Rattle.clv_base.specs.Coordinator.{restored_requests}
use Rattle.clv_base.specs.Restarts.{losers, undo_records, restart_records, log_after_restart, restored_parts, restored_pairs, unended_in, greatest_run, next_epoch, FailedRestarts, Restarts, untouched, failed_first}
use Rattle.clv_base.proofs.SameNames.{tx_eq, tx_flip}
use Rattle.law_base.proofs.Lists.{all_mono, all_both, all_append}
use Rattle.law_base.proofs.Standing.{standing_append, all_wrote}
use Rattle.law_base.proofs.Undoing.{Upward}
use Rattle.law_base.proofs.Tables.{stage_in}
use Rattle.law_base.proofs.Sets.{filter_in, in_filter, list_all_at, each_writer}
use Rattle.law_base.proofs.Bools.{and_first as front, and_second as last}
use Rattle.law_base.proofs.Stages.{present_is}
use Rattle.protocol_laws.specs.Order.{LieOnThese}
use Rattle.protocol_laws.proofs.LogsInOrder.OneRecordMore.{push_false}
use Rattle.protocol_laws.proofs.LogsInOrder.{Order}
use Rattle.shard_laws.proofs.Cuts.MembersRunSerially.{once_filter}
use Rattle.shard_laws.proofs.Cuts.WhatCutsHold.{of_kept}
use Rattle.shard_laws.proofs.Cuts.WhoIsInDoubt.{Doubted, doubted}
use Rattle.shard_laws.proofs.Restarts.RestoredLocksAndParts.{restored_closed, restored_stage}
use Rattle.shard_laws.proofs.Order.RecordByRecord.{Follows, follows_append, follows_take, Plainly, greatest_front, greatest_both, above_next, above_push}
use Rattle.shard_laws.proofs.Order.RisingAreDistinct.{writers_once}
use Rattle.shard_laws.proofs.Order.UndoMayFollow.{undo_follows, plainly_compensation}
use Rattle.shard_laws.proofs.Order.WritesLieOnListed.{lists_others, Beneath, LieListed, order_of, lie_listed, winners_lie, wrote_restart}
use Rattle.shard_laws.proofs.Order.ChangesKeepOrder.{LiesOn, Under, Lying, Ordered, list_all_from}
use Rattle.shard_laws.proofs.Order.WhoseWritesStand.{writer_has, open_stands}
use Rattle.shard_laws.proofs.Order.WhatRulingsMayWrite.{Rulings}
use Rattle.shard_laws.proofs.Restarts.RestoredRequestsAndPairs.{pair_there, pair_lists, request_from, OneCommit, unended_parts}
use Rattle.shard_laws.proofs.Restarts.WinnersKeepTheirWrites.{Found, Plain, winners, found_more, plain_restart, loser_alike, standing_whole}
use Rattle.law_base.proofs.Logs.{last_restart_push as last_new}
use Rattle.clv_base.proofs.Folding.{or_left as or_false_left, or_right as or_false_right}

-- ---- the losers lie under no winner

upward_from : (these : TxId → Bool) (set : List TxId) (ws : List StandingUpdate) → AllByRecursion (λ w. not (tx_in w.tx set) ≡ these w.tx) ws → LieOnThese these ws → Upward (is_of set) ws
upward_from these set [] a l = tt
upward_from these set (w ∷ ws) a l = (
  (λ out. all_mono _ _ (λ v h e q. not-true _ (h.1 ∙ h.0 e q)) ws (all_both _ _ ws (l.0 (sym a.0 ∙ ap not out)) a.1)),
  upward_from these set ws a.1 l.1,
)

-- a log's own cut
pub found_self : (shard : ℕ) (log : List LogRecord) → Order shard log → Found shard log log
found_self shard log o = record {
  commits = λ t. refl;
  doubts = refl;
  prepares = λ t. refl;
  lists = λ t p e l. l;
  same_kept = refl;
  tidy = o.tidy;
  sealed = o.sealed;
  aborts = λ t e. e;
  listed = λ t e. refl;
  begins = refl;
}

pub all_first : {I : Type 0} (P : I → Type 0) (xs ys : List I) → AllByRecursion P (xs ++ ys) → AllByRecursion P xs
all_first P [] ys a = tt
all_first P (x ∷ xs) ys a = (a.0, all_first P xs ys a.1)

plainly_aborts : (ts : List TxId) → AllByRecursion Plainly (map (λ t. Abort t) ts)
plainly_aborts [] = tt
plainly_aborts (t ∷ ts) = (tt, plainly_aborts ts)

plainly_clrs : (set : List TxId) (ws : List StandingUpdate) → AllByRecursion Plainly (clrs_of set ws)
plainly_clrs set [] = tt
plainly_clrs set (w ∷ ws) =
    cond_both (tx_in w.tx set) (compensation w.tx (newest_lsn w.tx ws) w.key w.change ∷ clrs_of set ws) (clrs_of set ws) (AllByRecursion Plainly)
    (λ i. (plainly_compensation w.tx (newest_lsn w.tx ws) w.key w.change, plainly_clrs set ws)) (λ i. plainly_clrs set ws)

plainly_undo : (shard : ℕ) (log : List LogRecord) → AllByRecursion Plainly (undo_records shard log)
plainly_undo shard log = all_append Plainly (map (λ t. Abort t) (filter (λ t. not (aborted_in log t)) (losers shard log))) (clrs_of (losers shard log) (standing log)) (plainly_aborts (filter (λ t. not (aborted_in log t)) (losers shard log))) (plainly_clrs (losers shard log) (standing log))

above_all : (run epoch : ℕ) (log more : List LogRecord) → AllByRecursion Plainly more → above_restarts run epoch (log ++ more) ≡ above_restarts run epoch log
above_all run epoch log [] p = ap (above_restarts run epoch) (append-nil log)
above_all run epoch log (r ∷ rs) p = ap (above_restarts run epoch) (sym (append_assoc log (r ∷ []) rs)) ∙ above_all run epoch (log ++ r ∷ []) rs p.1 ∙ above_push run epoch log r p.0

greatest_plainly : (rs : List LogRecord) (n : ℕ) → AllByRecursion Plainly rs → greatest_run rs ≤ n
greatest_plainly [] n p = omega arith
greatest_plainly (Restart run epoch ∷ rs) n p = absurd p.0
greatest_plainly (Update tx k b a ∷ rs) n p = greatest_plainly rs n p.1
greatest_plainly (Clr tx u k a ∷ rs) n p = greatest_plainly rs n p.1
greatest_plainly (Prepare tx home ps ∷ rs) n p = greatest_plainly rs n p.1
greatest_plainly (Commit tx ps ∷ rs) n p = greatest_plainly rs n p.1
greatest_plainly (Abort tx ∷ rs) n p = greatest_plainly rs n p.1
greatest_plainly (End tx ∷ rs) n p = greatest_plainly rs n p.1
greatest_plainly (Add tx k by ∷ rs) n p = greatest_plainly rs n p.1
greatest_plainly (Unadd tx u k by ∷ rs) n p = greatest_plainly rs n p.1
greatest_plainly (Forgotten ∷ rs) n p = greatest_plainly rs n p.1
greatest_plainly (Check run' epoch' upto base ∷ rs) n p = absurd p.0

all_kept : (f g : TxId → Bool) (ws : List StandingUpdate) → ((t : TxId) → f t ≡ g t) → AllByRecursion (λ w. f w.tx ≡ true) (filter (of_kept g) ws)
all_kept f g [] e = tt
all_kept f g (w ∷ ws) e = cond_both (g w.tx) (w ∷ filter (of_kept g) ws) (filter (of_kept g) ws) (AllByRecursion (λ w. f w.tx ≡ true)) (λ k. (e w.tx ∙ k, all_kept f g ws e)) (λ k. all_kept f g ws e)

-- ---- one restart

module _ (shard : ℕ) (log : List LogRecord) (f : disorder shard log ≡ None) where
  order : Order shard log
  order = order_of shard log f

  upward_losers : Upward (is_of (losers shard log)) (standing log)
  upward_losers = upward_from (is_winner shard log) (losers shard log) (standing log)
      (all_mono _ _ (λ w i. loser_alike shard log w.tx i) (standing log) (each_writer (standing log)))
      (winners_lie shard log order (standing log) (order.writes).lie (lie_listed shard log f))

  loser_open : (t : TxId) → tx_in t (filter (λ u. not (aborted_in log u)) (losers shard log)) ≡ true → (has_standing log t ≡ true) × (committed_in log t ≡ false) × (aborted_in log t ≡ false)
  loser_open t i =
      let a = in_filter (λ u. not (aborted_in log u)) t (losers shard log) i in
      let b = in_filter (λ u. not (is_winner shard log u)) t (writers (standing log)) a.0 in
      (writer_has t (standing log) b.0, or_false_left (committed_in log t) (tx_in t (in_doubt shard log)) (not-true _ b.1), not-true _ a.1)

  undo_some : is_some (last_restart log) ≡ true → Follows shard log (undo_records shard log)
  undo_some s = undo_follows shard log (losers shard log) (filter (λ t. not (aborted_in log t)) (losers shard log)) s
      (once_filter (λ t. not (aborted_in log t)) (losers shard log) (once_filter (λ t. not (is_winner shard log t)) (writers (standing log)) (writers_once (standing log)))) loser_open upward_losers (order.writes).falls
      (all_mono _ _ (λ w h i. ⊎_elim (λ a. inl a) (λ a. inr (filter_in (λ u. not (aborted_in log u)) w.tx (losers shard log) i (ap not a))) (cases_Bool (aborted_in log w.tx))) (standing log) (all_wrote log))

  -- where nothing stands there is nothing to undo
  abbrev undo_of : List StandingUpdate → List LogRecord
  undo_of ws = map (λ t. Abort t) (filter (λ t. not (aborted_in log t)) (filter (λ t. not (is_winner shard log t)) (writers ws))) ++ clrs_of (filter (λ t. not (is_winner shard log t)) (writers ws)) ws

  undo_case : (ws : List StandingUpdate) → standing log ≡ ws → Follows shard log (undo_records shard log)
  undo_case [] e = subst (λ ws. Follows shard log (undo_of ws)) (sym e) tt
  undo_case (w ∷ ws) e = undo_some (wrote_restart shard log f w.tx (subst (AllByRecursion (λ v. wrote_in log v.tx ≡ true)) e (all_wrote log)).0)

  undone : Follows shard log (undo_records shard log)
  undone = undo_case (standing log) refl

  found_undone : Found shard log (log ++ undo_records shard log)
  found_undone = found_more shard log log (undo_records shard log) (found_self shard log order) (all_first (Plain shard log) (undo_records shard log) (Restart 0 0 ∷ []) (plain_restart shard log 0 0))

  standing_undone : standing (log ++ undo_records shard log) ≡ filter (of_kept (is_winner shard log)) (standing log)
  standing_undone = sym (ap standing (sym (append_assoc log (undo_records shard log) (Restart 0 0 ∷ []))) ∙ standing_append 0 (log ++ undo_records shard log) (Restart 0 0 ∷ []) []) ∙ standing_whole shard log 0 0

  restart_may : (run epoch : ℕ) → above_restarts run epoch log ≡ true → may_follow shard (log ++ undo_records shard log) (Restart run epoch) ≡ true
  restart_may run epoch a = and_from _ _ (above_all run epoch log (undo_records shard log) (plainly_undo shard log) ∙ a)
      (list_all_from (λ w. is_winner shard (log ++ undo_records shard log) w.tx) (standing (log ++ undo_records shard log))
      (subst (AllByRecursion (λ w. is_winner shard (log ++ undo_records shard log) w.tx ≡ true)) (sym standing_undone)
      (all_kept (is_winner shard (log ++ undo_records shard log)) (is_winner shard log) (standing log) (λ t. winners shard log (log ++ undo_records shard log) t found_undone))))

  pub restart_follows : (run epoch : ℕ) → above_restarts run epoch log ≡ true → Follows shard log (restart_records shard log run epoch)
  restart_follows run epoch a = follows_append shard log (undo_records shard log) (Restart run epoch ∷ []) undone (restart_may run epoch a, tt)

  pub restarted_log : (run epoch : ℕ) → above_restarts run epoch log ≡ true → disorder shard (log_after_restart shard log run epoch) ≡ None
  restarted_log run epoch a = in_order_more shard log (restart_records shard log run epoch) f (restart_follows run epoch a)

  -- it lists nobody more
  pub restart_lists : (run epoch : ℕ) (t : TxId) → is_listed (restart_records shard log run epoch) t ≡ false
  restart_lists run epoch = unlisted_all (restart_records shard log run epoch) (all_mono _ _ (λ r p. p.no_prepare) (restart_records shard log run epoch) (plain_restart shard log run epoch))

  pub restarted_last : (run epoch : ℕ) → last_restart (log_after_restart shard log run epoch) ≡ Some (run, epoch)
  restarted_last run epoch = ap last_restart (sym (append_assoc log (undo_records shard log) (Restart run epoch ∷ []))) ∙ last_new (log ++ undo_records shard log) run epoch

  pub records_latest : (run epoch : ℕ) → greatest_run (restart_records shard log run epoch) ≤ run
  records_latest run epoch = greatest_both (undo_records shard log) (Restart run epoch ∷ []) run (greatest_plainly (undo_records shard log) run (plainly_undo shard log)) (omega arith)

  pub restarted_latest : (run epoch : ℕ) → greatest_run log ≤ run → greatest_run (log_after_restart shard log run epoch) ≤ run
  restarted_latest run epoch l = greatest_both log (restart_records shard log run epoch) run l (records_latest run epoch)

-- ---- restarts that fail in between

abbrev pub Fine : Shard → List LogRecord → Type 0
Fine s log = (disorder s.shard log ≡ None) × (greatest_run log ≤ s.run) × Named s.run log × OldParted s.run log

above_of : (s : Shard) (log : List LogRecord) → greatest_run log ≤ s.run → above_restarts s.run (next_epoch s log) log ≡ true
above_of s log l = above_next s.run s.local.epoch (next_epoch s log) log l (omega arith)

unlisted_front : (n : ℕ) (rs : List LogRecord) (t : TxId) → is_listed rs t ≡ false → is_listed (take n rs) t ≡ false
unlisted_front n rs t e =
    or_false_left (is_listed (take n rs) t) (is_listed (drop n rs) t) (sym (list_any-append (lists t) (take n rs) (drop n rs)) ∙ ap (λ l. is_listed l t) (take-append-drop n rs) ∙ e)

pub fine_failed : (s : Shard) (found left : List LogRecord) → Fine s found → FailedRestarts s found left → Fine s left
fine_failed s found _ h (untouched) = h
fine_failed s found left h (failed_first n more) =
    let rs : List LogRecord = restart_records s.shard found s.run (next_epoch s found) in
    fine_failed s (found ++ take n (restart_records s.shard found s.run (next_epoch s found))) left (
      in_order_more s.shard found (take n rs) h.0 (follows_take s.shard n found rs (restart_follows s.shard found h.0 s.run (next_epoch s found) (above_of s found h.1))),
      greatest_both found (take n rs) s.run h.1 (greatest_front (take n rs) (drop n rs) s.run (subst (λ l. greatest_run l ≤ s.run) (sym (take-append-drop n rs)) (records_latest s.shard found h.0 s.run (next_epoch s found)))),
      named_more s.run found (take n rs) (λ t. unlisted_front n rs t (restart_lists s.shard found h.0 s.run (next_epoch s found) t)) h.2,
      old_more s.shard s.run found (take n rs) h.0 (follows_take s.shard n found rs (restart_follows s.shard found h.0 s.run (next_epoch s found) (above_of s found h.1))) h.3,
    ) more

-- what the last of them leaves: a RESTART of this run last, and only winners standing
pub record Renewed (shard run : ℕ) (log : List LogRecord) : Type 0 where
  pub in_order : disorder shard log ≡ None
  pub named : Named run log
  pub old : OldParted run log
  pub last : (epoch : ℕ) × (last_restart log ≡ Some (run, epoch))
  pub latest : greatest_run log ≤ run
  pub won : AllByRecursion (λ w. is_winner shard log w.tx ≡ true) (standing log)

pub renewed : (shard run epoch : ℕ) (log : List LogRecord) → disorder shard log ≡ None → greatest_run log ≤ run → Named run log → OldParted run log → above_restarts run epoch log ≡ true → Renewed shard run (log_after_restart shard log run epoch)
renewed shard run epoch log f l n b a = record {
  in_order = restarted_log shard log f run epoch a;
  named = named_more run log (restart_records shard log run epoch) (restart_lists shard log f run epoch) n;
  old = old_more shard run log (restart_records shard log run epoch) f (restart_follows shard log f run epoch a) b;
  last = (epoch, restarted_last shard log f run epoch);
  latest = restarted_latest shard log f run epoch l;
  won = subst (AllByRecursion (λ w. is_winner shard (log_after_restart shard log run epoch) w.tx ≡ true)) (sym (standing_whole shard log run epoch))
      (all_kept (is_winner shard (log_after_restart shard log run epoch)) (is_winner shard log) (standing log)
      (λ t. winners shard log (log_after_restart shard log run epoch) t (found_more shard log log (restart_records shard log run epoch) (found_self shard log (order_of shard log f)) (plain_restart shard log run epoch))));
}

pub renewed_by : (s : Shard) (found : List LogRecord) (epoch : ℕ) (log : List LogRecord) → Fine s found → Restarts s found epoch log → Renewed s.shard s.run log
renewed_by s found epoch log h (left, failed, e, same) =
    let x = fine_failed s found left h failed in
    subst (Renewed s.shard s.run) (sym same) (renewed s.shard s.run epoch left x.0 x.1 x.2 x.3 (subst (λ n. above_restarts s.run n left ≡ true) (sym e) (above_of s left x.1)))

-- ---- more of a log in order

-- none has two COMMITs
one_push : (log : List LogRecord) (tx : TxId) (parts : List ℕ) → OneCommit log → committed_in log tx ≡ false → OneCommit (log ++ Commit tx parts ∷ [])
one_push [] tx parts o e = (refl, tt)
one_push (Commit u ps ∷ rs) tx parts o e =
    (push_false (is_commit_of u) rs (Commit tx parts) o.0 (false_from_ne_true _ (λ s. both_ways _ (or_false_left (tx_same tx u) _ e) (tx_flip u tx s))), one_push rs tx parts o.1 (or_false_right (tx_same tx u) _ e))
one_push (Update u k b a ∷ rs) tx parts o e = one_push rs tx parts o e
one_push (Clr u n k a ∷ rs) tx parts o e = one_push rs tx parts o e
one_push (Prepare u home ps ∷ rs) tx parts o e = one_push rs tx parts o e
one_push (Abort u ∷ rs) tx parts o e = one_push rs tx parts o e
one_push (End u ∷ rs) tx parts o e = one_push rs tx parts o e
one_push (Restart run epoch ∷ rs) tx parts o e = one_push rs tx parts o e
one_push (Add u k by ∷ rs) tx parts o e = one_push rs tx parts o e
one_push (Unadd u n k by ∷ rs) tx parts o e = one_push rs tx parts o e
one_push (Forgotten ∷ rs) tx parts o e = one_push rs tx parts o e
one_push (Check run' epoch' upto base ∷ rs) tx parts o e = one_push rs tx parts o e

one_other : (log : List LogRecord) (r : LogRecord) → ((t : TxId) → is_commit_of t r ≡ false) → OneCommit log → OneCommit (r ∷ []) → OneCommit (log ++ r ∷ [])
one_other [] r none o l = l
one_other (Commit u ps ∷ rs) r none o l = (push_false (is_commit_of u) rs r o.0 (none u), one_other rs r none o.1 l)
one_other (Update u k b a ∷ rs) r none o l = one_other rs r none o l
one_other (Clr u n k a ∷ rs) r none o l = one_other rs r none o l
one_other (Prepare u home ps ∷ rs) r none o l = one_other rs r none o l
one_other (Abort u ∷ rs) r none o l = one_other rs r none o l
one_other (End u ∷ rs) r none o l = one_other rs r none o l
one_other (Restart run epoch ∷ rs) r none o l = one_other rs r none o l
one_other (Add u k by ∷ rs) r none o l = one_other rs r none o l
one_other (Unadd u n k by ∷ rs) r none o l = one_other rs r none o l
one_other (Forgotten ∷ rs) r none o l = one_other rs r none o l
one_other (Check run' epoch' upto base ∷ rs) r none o l = one_other rs r none o l

one_step : (shard : ℕ) (part log : List LogRecord) (r : LogRecord) → may_come shard part log r ≡ true → OneCommit log → OneCommit (log ++ r ∷ [])
one_step shard part log (Commit tx parts) m o = one_push log tx parts o (not-true _ (last _ _ (front _ _ (front _ _ (front _ _ (front _ _ (front _ _ (front _ _ m))))))))
one_step shard part log (Update tx k b a) m o = one_other log (Update tx k b a) (λ t. refl) o tt
one_step shard part log (Clr tx u k a) m o = one_other log (Clr tx u k a) (λ t. refl) o tt
one_step shard part log (Prepare tx home ps) m o = one_other log (Prepare tx home ps) (λ t. refl) o tt
one_step shard part log (Abort tx) m o = one_other log (Abort tx) (λ t. refl) o tt
one_step shard part log (End tx) m o = one_other log (End tx) (λ t. refl) o tt
one_step shard part log (Restart run epoch) m o = one_other log (Restart run epoch) (λ t. refl) o tt
one_step shard part log (Add tx k by) m o = one_other log (Add tx k by) (λ t. refl) o tt
one_step shard part log (Unadd tx u k by) m o = one_other log (Unadd tx u k by) (λ t. refl) o tt
one_step shard part log Forgotten m o = one_other log Forgotten (λ t. refl) o tt
one_step shard part log (Check run' epoch' upto base) m o = absurd cc

pub one_commit : (shard : ℕ) (log : List LogRecord) → disorder shard log ≡ None → OneCommit log
one_commit shard log d =
    through OneCommit shard (part_of log) (λ l r g p m. one_step shard (part_of log) l r m p) log (in_order_comes shard log d) tt (λ run epoch upto base rises. tt)

-- ---- the state that a restart restores

module _ (shard run : ℕ) (log : List LogRecord) (r : Renewed shard run log) where
  now : Order shard log
  now = order_of shard log r.in_order

  closed_active : Active ≡ Closed → ⊥
  closed_active e = absurd cc

  no_active : (t : TxId) → stage_in (restored_parts (in_doubt shard log)) t ≡ Some Active → ⊥
  no_active t a = closed_active (restored_stage (in_doubt shard log) t Active a).0

  doubt_of : (t : TxId) → tx_in t (in_doubt shard log) ≡ true → Doubted log (in_doubt shard log) t
  doubt_of t i = doubted shard log t now.sealed i

  closed_doubt : (t : TxId) → stage_in (restored_parts (in_doubt shard log)) t ≡ Some Closed → tx_in t (in_doubt shard log) ≡ true
  closed_doubt t c = (restored_stage (in_doubt shard log) t Closed c).1

  listed_doubt : (t p : TxId) → tx_in t (in_doubt shard log) ≡ true → tx_in p (listed_in log t) ≡ true → committed_in log p ≡ false → tx_in p (in_doubt shard log) ≡ true
  listed_doubt t p i l c = ⊎_elim (λ k. absurd (both_ways _ c k)) (λ k. k)
      (or_cases (committed_in log p) (tx_in p (in_doubt shard log)) (list_all_at (λ q. committed_in log q || tx_in q (in_doubt shard log)) p (listed_in log t) (doubt_of t i).listed l))

  -- of each a write stands
  doubt_stands : (t : TxId) → tx_in t (in_doubt shard log) ≡ true → has_standing log t ≡ true
  doubt_stands t i = ⊎_elim (λ h. h) (λ a. absurd (both_ways _ (doubt_of t i).unaborted a)) (open_stands shard log r.in_order t (doubt_of t i).prepared (doubt_of t i).open_)

  pub ordered_restored : Ordered shard run (restored_parts (in_doubt shard log)) (restored_pairs log (in_doubt shard log)) log
  ordered_restored = record {
    in_order = r.in_order;
    named = r.named;
    old = r.old;
    last = r.last;
    latest = r.latest;
    of_run = λ t a. absurd (no_active t a);
    new = λ t a. absurd (no_active t a);
    unaborted = λ t p. ⊎_elim (λ a. absurd (no_active t a)) (λ c. (doubt_of t (closed_doubt t c)).unaborted) (present_is (stage_in (restored_parts (in_doubt shard log)) t) p);
    decided = λ t c w. inl (doubt_of t (closed_doubt t c)).prepared;
    others = λ t p e.
        let q = pair_lists log (in_doubt shard log) t p e in
        let i = listed_doubt t p q.0 q.1 q.2 in
        ((λ s. both_ways _ (lists_others shard log r.in_order t p q.1) (tx_eq p t (sym s))), inr (restored_closed (in_doubt shard log) p i, doubt_stands p i));
    lists = λ t p c l. ⊎_elim (λ k. inl k) (λ n. inr (pair_there log (in_doubt shard log) t p (closed_doubt t c) l n)) (cases_Bool (committed_in log p));
  }

  under_now : (ws : List StandingUpdate) → AllByRecursion (λ w. is_winner shard log w.tx ≡ true) ws → LieOnThese (committed_in log) ws → LieListed log ws → Under (restored_pairs log (in_doubt shard log)) (committed_in log) ws
  under_now [] w c l = tt
  under_now (v ∷ vs) w c l = (
    ⊎_elim
        (λ k. all_mono _ _ (λ u h e q. inr (inl (h e q))) vs (c.0 k))
        (λ i. all_mono _ _ (λ u h e q. lies i (h e q)) vs (l.0 (doubt_of v.tx i).prepared))
        (or_cases (committed_in log v.tx) (tx_in v.tx (in_doubt shard log)) w.0),
    under_now vs w.1 c.1 l.1,
  )
    where
      lies : {p : TxId} → tx_in v.tx (in_doubt shard log) ≡ true → Beneath log v.tx p → LiesOn (restored_pairs log (in_doubt shard log)) (committed_in log) v.tx p
      lies i (inl s) = inl s
      lies i (inr (inl k)) = inr (inl k)
      lies {p} i (inr (inr m)) = inr (⊎_elim (λ k. inl k) (λ n. inr (pair_there log (in_doubt shard log) v.tx p i m n)) (cases_Bool (committed_in log p)))

  pub lying_restored : Lying (restored_pairs log (in_doubt shard log)) log
  lying_restored = under_now (standing log) r.won (now.writes).lie (lie_listed shard log r.in_order)

  pub rulings_restored : Rulings shard run (restored_requests (unended_in log log)) log
  rulings_restored t q e =
      let x = request_from t (unended_in log log) q e in
      let y = unended_parts log log t x.0 (one_commit shard log r.in_order) x.1 in
      record {
        undecided = λ u. absurd (not_undecided x.0 (ap (λ z. z.state) (sym x.2) ∙ u));
        committed = λ p ps s n. (y.0 ∙ ap Some (same_parts x.0 (p ∷ ps) (ap (λ z. z.state) (sym x.2) ∙ s)), y.1);
      }
    where
      not_undecided : (ps : List ℕ) → Committed ps ≡ Undecided → ⊥
      not_undecided ps e = absurd cc

      same_parts : (ps qs : List ℕ) → Committed ps ≡ Committed qs → ps ≡ qs
      same_parts ps qs e = cc
