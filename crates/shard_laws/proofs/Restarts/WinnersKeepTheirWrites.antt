-- What restarts make of a log that was found: it keeps the writes of those that win, committed or in doubt.
use Rattle.std.proofs.Common.{◌≡◌, ℕ, suc, ◌+◌, ⊎_elim, Bool, true, false, not, ◌||◌, List, [], ◌∷◌, ◌++◌, map, length, refl, sym, ap, subst, ◌∙◌, append_assoc, append-nil}
use Rattle.std.specs.Prelude.{take}
use Rattle.std.specs.List.{AllByRecursion, filter}
use Rattle.std.proofs.lemmas.Bool.{both_ways, cond_both, cond-false, or_cases, not-true, false_from_ne_true}
use Rattle.clv_base.specs.declared.names.TxId.{TxId}
use Rattle.clv_base.specs.declared.logs.LogRecord.{LogRecord}
use Rattle.clv_base.specs.declared.logs.LogRecord.TheVariants.{Update, Clr, Prepare, Commit, Abort, End, Restart, Add, Unadd, Forgotten, Check}
use Rattle.clv_base.specs.declared.changes.Change.{Change}
use Rattle.clv_base.specs.Orders.{tx_same, tx_in}
use Rattle.clv_base.specs.declared.changes.Change.TheVariants.{Sets, Adds}
use Rattle.clv_base.specs.Logs.{StandingUpdate, standing, standing_from, without_newest, committed_in, prepared_in, wrote_in, aborted_in, is_update_of, is_undo_of, is_commit_of, is_prepare_of, writers, in_doubt, is_winner, is_abort_of, base_by, base_of}
use Rattle.clv_base.specs.Undo.{clrs_of, newest_lsn, compensation}
use Rattle.clv_base.specs.State.{Shard}
use Rattle.clv_base.specs.Restarts.{losers, restart_records, log_after_restart, next_epoch, FailedRestarts, untouched, failed_first, Restarts}
use Rattle.clv_base.proofs.SameNames.{or_left, or_right, tx_true, tx_self}
use Rattle.law_base.proofs.Lists.{all_mono, all_append, all_taken}
use Rattle.law_base.proofs.Standing.{standing_append}
use Rattle.law_base.proofs.Undoing.{standing_aborts, standing_clrs}
use Rattle.law_base.proofs.Commits.{committed_append}
use Rattle.law_base.proofs.Doubts.{Unlike, is_it, nobody, abort_unlike, clr_unlike, unadd_unlike, restart_unlike, doubts_more}
use Rattle.law_base.proofs.Sets.{filter_in, in_filter, each_writer}
use Rattle.law_base.proofs.Bools.{or_right_false}
use Rattle.protocol_laws.specs.Order.{moves, Open_at, Tidy, Sealed, undone_in}
use Rattle.protocol_laws.proofs.LogsInOrder.{Order}
use Rattle.shard_laws.proofs.Cuts.WhoIsInDoubt.{doubted}
use Rattle.shard_laws.proofs.Keeping.ChangesKeepPrepared.{IsListed, is_listed_more, prepared_append, sealed_more, listed_keeps}
use Rattle.shard_laws.proofs.Keeping.RecordsAndFrontsKeep.{tidy_append}
use Rattle.shard_laws.proofs.Keeping.RecordsOfAnUndo.{Harmless, tidy_harmless}
use Rattle.shard_laws.proofs.Cuts.WhatCutsHold.{of_kept, without_other}
use Rattle.shard_laws.proofs.Cuts.MembersOfCutsReplay.{filter_alike}
use Rattle.std.proofs.lemmas.List.Folds.{list_any-append}
use Rattle.clv_base.specs.LogRules.{listed_in}
use Rattle.clv_base.proofs.Folding.{or_left as or_false_left, or_right as or_false_right}
use Rattle.law_base.proofs.Bases.{base_more}

-- ---- what restarts may make of the log that was found

-- a record that a restart of this log writes: no UPDATE, COMMIT or PREPARE, and it aborts and undoes none that wins
pub record Plain (shard : ℕ) (log : List LogRecord) (r : LogRecord) : Type 0 where
  pub opens : Open_at log (moves r)
  pub no_commit : (t : TxId) → is_commit_of t r ≡ false
  pub no_update : (t : TxId) → is_update_of t r ≡ false
  pub no_prepare : (t : TxId) → is_prepare_of t r ≡ false
  pub undoes : (t : TxId) → is_undo_of t r ≡ true → is_winner shard log t ≡ false
  pub whom : TxId → Bool
  pub unlike : Unlike whom r
  pub spares : (t : TxId) → tx_in t (in_doubt shard log) ≡ true → whom t ≡ false
  pub brings : base_by r ≡ []

-- what a log that restarts made of the cut keeps of it
pub record Found (shard : ℕ) (cut log : List LogRecord) : Type 0 where
  pub commits : (t : TxId) → committed_in log t ≡ committed_in cut t
  pub doubts : in_doubt shard log ≡ in_doubt shard cut
  pub prepares : (t : TxId) → prepared_in log t ≡ prepared_in cut t
  pub lists : (t p : TxId) → prepared_in cut t ≡ true → IsListed cut t p → IsListed log t p
  pub same_kept : filter (of_kept (is_winner shard cut)) (standing log) ≡ filter (of_kept (is_winner shard cut)) (standing cut)
  pub tidy : Tidy [] log
  pub sealed : Sealed [] log
  pub aborts : (t : TxId) → aborted_in cut t ≡ true → aborted_in log t ≡ true
  pub listed : (t : TxId) → prepared_in cut t ≡ true → listed_in log t ≡ listed_in cut t
  pub begins : base_of log ≡ base_of cut

pub winners : (shard : ℕ) (cut log : List LogRecord) (t : TxId) → Found shard cut log → is_winner shard log t ≡ is_winner shard cut t
winners shard cut log t f = ap (λ b. b || tx_in t (in_doubt shard log)) (f.commits t) ∙ ap (λ l. committed_in cut t || tx_in t l) f.doubts

-- none of them is aborted
pub winner_unaborted : (shard : ℕ) (cut log : List LogRecord) (t : TxId) → Order shard log → Found shard cut log → aborted_in log t ≡ true → is_winner shard cut t ≡ false
winner_unaborted shard cut log t o f a = sym (winners shard cut log t f) ∙ false_from_ne_true _ (λ w.
    ⊎_elim (λ c. both_ways _ (o.apart t c) a) (λ i. both_ways _ (doubted shard log t o.sealed i).unaborted a) (or_cases (committed_in log t) (tx_in t (in_doubt shard log)) w))

none_commit : (shard : ℕ) (log rs : List LogRecord) (t : TxId) → AllByRecursion (Plain shard log) rs → committed_in rs t ≡ false
none_commit shard log [] t all = refl
none_commit shard log (r ∷ rs) t all = ap (λ b. b || committed_in rs t) ((all.0).no_commit t) ∙ none_commit shard log rs t all.1

pub none_update : (shard : ℕ) (log rs : List LogRecord) (t : TxId) → AllByRecursion (Plain shard log) rs → wrote_in rs t ≡ false
none_update shard log [] t all = refl
none_update shard log (r ∷ rs) t all = ap (λ b. b || wrote_in rs t) ((all.0).no_update t) ∙ none_update shard log rs t all.1

pub none_prepare : (shard : ℕ) (log rs : List LogRecord) (t : TxId) → AllByRecursion (Plain shard log) rs → prepared_in rs t ≡ false
none_prepare shard log [] t all = refl
none_prepare shard log (r ∷ rs) t all = ap (λ b. b || prepared_in rs t) ((all.0).no_prepare t) ∙ none_prepare shard log rs t all.1

none_brings : (shard : ℕ) (log rs : List LogRecord) → AllByRecursion (Plain shard log) rs → base_of rs ≡ []
none_brings shard log [] all = refl
none_brings shard log (r ∷ rs) all = (all.0).brings

undone_open : (shard : ℕ) (log rs : List LogRecord) (t : TxId) → AllByRecursion (Plain shard log) rs → undone_in rs t ≡ true → is_winner shard log t ≡ false
undone_open shard log [] t all e = absurd (both_ways false refl e)
undone_open shard log (r ∷ rs) t all e = ⊎_elim (λ h. (all.0).undoes t h) (λ h. undone_open shard log rs t all.1 h) (or_cases (is_undo_of t r) (undone_in rs t) e)

same_doubts : (shard : ℕ) (log now rs : List LogRecord) → in_doubt shard now ≡ in_doubt shard log → AllByRecursion (Plain shard log) rs → in_doubt shard (now ++ rs) ≡ in_doubt shard log
same_doubts shard log now [] e all = ap (in_doubt shard) (append-nil now) ∙ e
same_doubts shard log now (r ∷ rs) e all =
    ap (in_doubt shard) (sym (append_assoc now (r ∷ []) rs))
    ∙ same_doubts shard log (now ++ r ∷ []) rs (doubts_more (all.0).whom now r shard (all.0).unlike (λ t i. (all.0).spares t (subst (λ l. tx_in t l ≡ true) e i)) ∙ e) all.1

-- records that make and undo no write of those that are kept leave their writes
pub unmoved_from : (keep : TxId → Bool) (n : ℕ) (rs : List LogRecord) (ws : List StandingUpdate) → ((t : TxId) → wrote_in rs t ≡ true → keep t ≡ false) → ((t : TxId) → undone_in rs t ≡ true → keep t ≡ false)
    → filter (of_kept keep) (standing_from n rs ws) ≡ filter (of_kept keep) ws
unmoved_from keep n [] ws w u = refl
unmoved_from keep n (Update tx k b a ∷ rs) ws w u =
    unmoved_from keep (suc n) rs (record { lsn = n; tx = tx; key = k; change = Sets b a } ∷ ws) (λ t e. w t (or_right (tx_same t tx) _ e)) (λ t e. u t e) ∙ cond-false (keep tx) _ (filter (of_kept keep) ws) (w tx (or_left _ _ (tx_self tx)))
unmoved_from keep n (Clr tx x k a ∷ rs) ws w u = unmoved_from keep (suc n) rs (without_newest tx ws) (λ t e. w t e) (λ t e. u t (or_right (tx_same t tx) _ e)) ∙ without_other keep tx ws (u tx (or_left _ _ (tx_self tx)))
unmoved_from keep n (Prepare tx home ps ∷ rs) ws w u = unmoved_from keep (suc n) rs ws w u
unmoved_from keep n (Commit tx ps ∷ rs) ws w u = unmoved_from keep (suc n) rs ws w u
unmoved_from keep n (Abort tx ∷ rs) ws w u = unmoved_from keep (suc n) rs ws w u
unmoved_from keep n (End tx ∷ rs) ws w u = unmoved_from keep (suc n) rs ws w u
unmoved_from keep n (Restart run epoch ∷ rs) ws w u = unmoved_from keep (suc n) rs ws w u
unmoved_from keep n (Add tx k by ∷ rs) ws w u =
    unmoved_from keep (suc n) rs (record { lsn = n; tx = tx; key = k; change = Adds by } ∷ ws) (λ t e. w t (or_right (tx_same t tx) _ e)) (λ t e. u t e) ∙ cond-false (keep tx) _ (filter (of_kept keep) ws) (w tx (or_left _ _ (tx_self tx)))
unmoved_from keep n (Unadd tx x k by ∷ rs) ws w u = unmoved_from keep (suc n) rs (without_newest tx ws) (λ t e. w t e) (λ t e. u t (or_right (tx_same t tx) _ e)) ∙ without_other keep tx ws (u tx (or_left _ _ (tx_self tx)))
unmoved_from keep n (Forgotten ∷ rs) ws w u = unmoved_from keep (suc n) rs ws w u
unmoved_from keep n (Check run' epoch' upto base ∷ rs) ws w u = unmoved_from keep (suc n) rs ws w u

harmless_plain : (shard : ℕ) (log rs : List LogRecord) → AllByRecursion (Plain shard log) rs → AllByRecursion (Harmless log) rs
harmless_plain shard log rs all = all_mono _ _ (λ r p. (p.opens, p.no_commit)) rs all

pub found_more : (shard : ℕ) (cut log more : List LogRecord) → Found shard cut log → AllByRecursion (Plain shard log) more → Found shard cut (log ++ more)
found_more shard cut log more f all = record {
  commits = λ t. committed_append log more t ∙ or_right_false _ _ (none_commit shard log more t all) ∙ f.commits t;
  doubts = same_doubts shard log log more refl all ∙ f.doubts;
  prepares = λ t. prepared_append log more t ∙ or_right_false _ _ (none_prepare shard log more t all) ∙ f.prepares t;
  lists = λ t p e l. is_listed_more log more t p (f.prepares t ∙ e) (f.lists t p e l);
  same_kept = ap (filter (of_kept (is_winner shard cut))) (standing_append 0 log more []) ∙ unmoved_from (is_winner shard cut) (0 + length log) more (standing log)
      (λ t e. absurd (both_ways _ (none_update shard log more t all) e)) (λ t e. sym (winners shard cut log t f) ∙ undone_open shard log more t all e) ∙ f.same_kept;
  tidy = tidy_append [] log more f.tidy (tidy_harmless log log more (λ t e. e) (harmless_plain shard log more all));
  sealed = sealed_more log more f.sealed (λ t. none_update shard log more t all) (λ t. none_prepare shard log more t all);
  aborts = λ t e. list_any-append (is_abort_of t) log more ∙ or_left _ _ (f.aborts t e);
  listed = λ t e. listed_keeps log more t (f.prepares t ∙ e) ∙ f.listed t e;
  begins = base_more log more (none_brings shard log more all) ∙ f.begins;
}

-- ---- what a restart writes is plain

pub loser_out : (shard : ℕ) (log : List LogRecord) (t : TxId) → tx_in t (losers shard log) ≡ true → is_winner shard log t ≡ false
loser_out shard log t i = not-true _ (in_filter (λ u. not (is_winner shard log u)) t (writers (standing log)) i).1

plain_aborts : (shard : ℕ) (log : List LogRecord) (ts : List TxId) → ((t : TxId) → tx_in t ts ≡ true → is_winner shard log t ≡ false) → AllByRecursion (Plain shard log) (map (λ t. Abort t) ts)
plain_aborts shard log [] h = tt
plain_aborts shard log (t ∷ ts) h = (
  record {
    opens = tt;
    no_commit = λ u. refl;
    no_update = λ u. refl;
    no_prepare = λ u. refl;
    undoes = λ u e. absurd (both_ways false refl e);
    whom = is_it t;
    unlike = abort_unlike t;
    spares = λ u i. false_from_ne_true _ (λ same. both_ways _ (or_false_right _ _ (h t (or_left _ _ (tx_self t)))) (subst (λ z. tx_in z (in_doubt shard log) ≡ true) (tx_true u t same) i));
    brings = refl;
  },
  plain_aborts shard log ts (λ u i. h u (or_right (tx_same t u) _ i)),
)

plain_clrs : (shard : ℕ) (log : List LogRecord) (set : List TxId) (ws : List StandingUpdate) → ((t : TxId) → tx_in t set ≡ true → is_winner shard log t ≡ false) → AllByRecursion (Plain shard log) (clrs_of set ws)
plain_clrs shard log set [] h = tt
plain_clrs shard log set (w ∷ ws) h =
    cond_both (tx_in w.tx set) (compensation w.tx (newest_lsn w.tx ws) w.key w.change ∷ clrs_of set ws) (clrs_of set ws) (AllByRecursion (Plain shard log))
    (λ i. (one w.change i, plain_clrs shard log set ws h)) (λ i. plain_clrs shard log set ws h)
  where
    one : (c : Change) → tx_in w.tx set ≡ true → Plain shard log (compensation w.tx (newest_lsn w.tx ws) w.key c)
    one (Sets before after) i = record {
      opens = or_false_left _ _ (h w.tx i);
      no_commit = λ u. refl;
      no_update = λ u. refl;
      no_prepare = λ u. refl;
      undoes = λ u e. subst (λ z. is_winner shard log z ≡ false) (sym (tx_true u w.tx e)) (h w.tx i);
      whom = nobody;
      unlike = clr_unlike w.tx (newest_lsn w.tx ws) w.key before;
      spares = λ u j. refl;
      brings = refl;
    }
    one (Adds by) i = record {
      opens = or_false_left _ _ (h w.tx i);
      no_commit = λ u. refl;
      no_update = λ u. refl;
      no_prepare = λ u. refl;
      undoes = λ u e. subst (λ z. is_winner shard log z ≡ false) (sym (tx_true u w.tx e)) (h w.tx i);
      whom = nobody;
      unlike = unadd_unlike w.tx (newest_lsn w.tx ws) w.key by;
      spares = λ u j. refl;
      brings = refl;
    }

aborted_losers : (shard : ℕ) (log : List LogRecord) (t : TxId) → tx_in t (filter (λ u. not (aborted_in log u)) (losers shard log)) ≡ true → is_winner shard log t ≡ false
aborted_losers shard log t i = loser_out shard log t (in_filter (λ u. not (aborted_in log u)) t (losers shard log) i).0

pub plain_restart : (shard : ℕ) (log : List LogRecord) (run epoch : ℕ) → AllByRecursion (Plain shard log) (restart_records shard log run epoch)
plain_restart shard log run epoch =
    all_append (Plain shard log) (map (λ t. Abort t) (filter (λ t. not (aborted_in log t)) (losers shard log)) ++ clrs_of (losers shard log) (standing log)) (Restart run epoch ∷ [])
    (all_append (Plain shard log) (map (λ t. Abort t) (filter (λ t. not (aborted_in log t)) (losers shard log))) (clrs_of (losers shard log) (standing log))
    (plain_aborts shard log (filter (λ t. not (aborted_in log t)) (losers shard log)) (aborted_losers shard log)) (plain_clrs shard log (losers shard log) (standing log) (loser_out shard log)))
    (record { opens = tt; no_commit = λ u. refl; no_update = λ u. refl; no_prepare = λ u. refl; undoes = λ u e. absurd (both_ways false refl e); whom = nobody; unlike = restart_unlike run epoch; spares = λ u i. refl; brings = refl }, tt)

-- ---- the whole restart leaves the writes of those that win alone

pub loser_alike : (shard : ℕ) (log : List LogRecord) (t : TxId) → tx_in t (writers (standing log)) ≡ true → not (tx_in t (losers shard log)) ≡ is_winner shard log t
loser_alike shard log t w = at (is_winner shard log t) refl
  where
    at : (b : Bool) → is_winner shard log t ≡ b → not (tx_in t (losers shard log)) ≡ b
    at true c = ap not (false_from_ne_true _ (λ i. both_ways _ (loser_out shard log t i) c))
    at false c = ap not (filter_in (λ u. not (is_winner shard log u)) t (writers (standing log)) w (ap not c))

pub standing_whole : (shard : ℕ) (log : List LogRecord) (run epoch : ℕ) → standing (log_after_restart shard log run epoch) ≡ filter (of_kept (is_winner shard log)) (standing log)
standing_whole shard log run epoch =
    let ts : List TxId = filter (λ t. not (aborted_in log t)) (losers shard log) in
    let cs : List LogRecord = clrs_of (losers shard log) (standing log) in
    let a = standing_aborts (0 + length log) ts (cs ++ Restart run epoch ∷ []) (standing log) in
    standing_append 0 log (map (λ t. Abort t) ts ++ cs ++ Restart run epoch ∷ []) []
    ∙ ap (λ l. standing_from (0 + length log) l (standing log)) (append_assoc (map (λ t. Abort t) ts) cs (Restart run epoch ∷ []))
    ∙ a.1
    ∙ standing_append a.0 cs (Restart run epoch ∷ []) (standing log)
    ∙ standing_clrs (losers shard log) a.0 [] (standing log) tt
    ∙ filter_alike (λ t. not (tx_in t (losers shard log))) (is_winner shard log) (standing log) (all_mono _ _ (λ w i. loser_alike shard log w.tx i) (standing log) (each_writer (standing log)))

pub record Restarted (shard : ℕ) (cut log : List LogRecord) : Type 0 where
  pub found : Found shard cut log
  pub only_kept : standing log ≡ filter (of_kept (is_winner shard cut)) (standing cut)

of_failed : (s : Shard) (cut found left : List LogRecord) → Found s.shard cut found → FailedRestarts s found left → Found s.shard cut left
of_failed s cut found _ f (untouched) = f
of_failed s cut found left f (failed_first n more) =
    of_failed s cut (found ++ take n (restart_records s.shard found s.run (next_epoch s found))) left (found_more s.shard cut found (take n (restart_records s.shard found s.run (next_epoch s found))) f (all_taken (Plain s.shard found) n _ (plain_restart s.shard found s.run (next_epoch s found)))) more

pub of_whole : (s : Shard) (cut found : List LogRecord) (epoch : ℕ) → Found s.shard cut found → Restarted s.shard cut (log_after_restart s.shard found s.run epoch)
of_whole s cut found epoch f = record {
  found = found_more s.shard cut found (restart_records s.shard found s.run epoch) f (plain_restart s.shard found s.run epoch);
  only_kept = standing_whole s.shard found s.run epoch ∙ filter_alike (is_winner s.shard found) (is_winner s.shard cut) (standing found) (every (standing found)) ∙ f.same_kept;
}
  where
    every : (ws : List StandingUpdate) → AllByRecursion (λ w. is_winner s.shard found w.tx ≡ is_winner s.shard cut w.tx) ws
    every [] = tt
    every (w ∷ ws) = (winners s.shard cut found w.tx f, every ws)

pub of_restarts : (s : Shard) (cut : List LogRecord) (found : List LogRecord) (epoch : ℕ) (log : List LogRecord) → Found s.shard cut found → Restarts s found epoch log → Restarted s.shard cut log
of_restarts s cut found epoch log f r = subst (Restarted s.shard cut) (sym r.3) (of_whole s cut r.0 epoch (of_failed s cut found r.0 f r.1))
