-- What fits behind an index is what may follow its records.
use Rattle.std.proofs.Common.{◌≡◌, ℕ, Bool, true, false, not, ◌&&◌, ◌||◌, ◌==◌, nat_lt, List, [], ◌∷◌, ◌++◌, length, take, Option, Some, None, is_some, unwrap_or, ⊎_elim, refl, sym, ap, subst, ◌∙◌, eqb-true, arith}
use Rattle.std.specs.List.{AllByRecursion, list_all}
use Rattle.std.proofs.lemmas.Bool.{both_ways, or_cases, false_from_ne_true}
use Rattle.clv_base.specs.declared.values.Value.{Value as ValueType}
use Rattle.clv_base.specs.declared.names.TxId.{TxId}
use Rattle.clv_base.specs.declared.changes.Change.{Change}
use Rattle.clv_base.specs.declared.changes.Change.TheVariants.{Sets, Adds}
use Rattle.clv_base.specs.declared.logs.LogRecord.{LogRecord}
use Rattle.clv_base.specs.declared.logs.LogRecord.TheVariants.{Update, Clr, Prepare, Commit, Abort, End, Restart, Add, Unadd, Forgotten, Check}
use Rattle.clv_base.specs.Orders.{tx_same, tx_in, nat_in}
use Rattle.clv_base.specs.Logs.{StandingUpdate, is_setting, is_prepare_of, is_commit_of, wrote_in, has_standing, committed_in, prepared_in, aborted_in, ended_in, prepare_of, commit_parts, standing, newest_of, without_newest, value_in}
use Rattle.clv_base.specs.Values.{same_optional_value}
use Rattle.clv_base.specs.Maps.{is_number}
use Rattle.clv_base.specs.LogRules.{same_option, some_parts, last_restart, above_restarts, before_restart, in_last_run, is_listed, is_current, has_new_standing, may_undo, may_cover, may_set, may_add, may_write as may_write_in, may_follow, writes_below, listed_in, commit_by_prepare, clears, unadds, compensates, next_to_undo}
use Rattle.clv_base.proofs.SameNames.{tx_true}
use Rattle.log_analysis.specs.Lists.{home_at, listed_at, parts_at}
use Rattle.log_analysis.proofs.Laws.Bools.{and_first, and_second, all_same}
use Rattle.log_analysis.proofs.Laws.Places.{home_in, home_is, listed_is, parts_is}
use Rattle.log_rules.specs.declared.index.Index.{Index}
use Rattle.log_rules.specs.Writes.{write_at, top_at, adds_at, newest_by}
use Rattle.log_rules.specs.Rules.{is_last_run, is_before, is_after, is_below, undoes_setting, undoes_adding, facts_in, has_commit, stands, may_be_undone, has_no_fate, may_write, may_be_covered, may_be_set_over, may_be_added_over, may_be_listed, all_clear, home_allows, is_at, compensates_write, compensates_add, restart_fits, update_fits, add_fits, prepare_fits, commit_fits, abort_fits, clr_fits, unadd_fits, end_fits, fits}
use Rattle.log_rules.proofs.Below.{below_is, pass_more}
use Rattle.log_rules.proofs.Doubt.{of_all, nobody_is}
use Rattle.log_rules.proofs.IndexOf.{IsIndexOf}
use Rattle.log_rules.proofs.NewWrites.{newest_behind}
use Rattle.log_rules.proofs.SoundLogs.{Sound, closed_in, may_lie, listed_earlier}
use Rattle.log_rules.proofs.ShareLists.{asks}
use Rattle.log_rules.proofs.Standing.{top_set, adds_over, lsn_of, split_newest, left_is, newest_own, top_test, free_test}
use Rattle.log_rules.proofs.Links.{Linked, link_of, linked_at}
use Rattle.log_rules.proofs.Walks.{asked_of_all, asked_of_sets, all_clear_is}
use Rattle.law_base.proofs.Bools.{by_bool as both, not_true, or_false}
use Rattle.law_base.proofs.Logs.{place_is as is_some_place}
use Rattle.law_base.proofs.Parts.{unprepared}
use Rattle.law_base.proofs.Names.{Falls, falls_length}
use Rattle.law_base.proofs.Standing.{counts_some}

and_assoc4 : (a b c d : Bool) → a && (b && c && d) ≡ a && b && c && d
and_assoc4 true b c d = refl
and_assoc4 false b c d = refl

and_assoc3 : (a b c : Bool) → a && b && c ≡ a && (b && c)
and_assoc3 true b c = refl
and_assoc3 false b c = refl

and_group : (a b c d e : Bool) → a && b && c && d && e ≡ a && (b && c && d) && e
and_group true b c d e = refl
and_group false b c d e = refl

and_when : (a b d : Bool) → (a ≡ true → b ≡ d) → a && b ≡ a && d
and_when true b d same = same refl
and_when false b d same = refl

run_of : (run : ℕ) (o : Option (ℕ × ℕ)) → is_last_run run o ≡ elim o [ Some p ↦ run == p.0 | None ↦ false ]
run_of run None = refl
run_of run (Some p) = refl

module _ (shard : ℕ) (x : Index) (log : List LogRecord) (s : Sound log) (i : IsIndexOf shard x log) where
  is_prepared : (t : TxId) → is_some (facts_in x t).prepare ≡ prepared_in log t
  is_prepared t = ap (λ f. is_some f.prepare) (i.facts t) ∙ is_some_place 0 (is_prepare_of t) log

  pub is_committed : (t : TxId) → has_commit x t ≡ committed_in log t
  is_committed t = ap (λ f. is_some f.commit) (i.facts t) ∙ is_some_place 0 (is_commit_of t) log

  is_aborted : (t : TxId) → (facts_in x t).is_aborted ≡ aborted_in log t
  is_aborted t = ap (λ f. f.is_aborted) (i.facts t)

  is_ended : (t : TxId) → (facts_in x t).is_ended ≡ ended_in log t
  is_ended t = ap (λ f. f.is_ended) (i.facts t)

  stands_is : (t : TxId) → stands x t ≡ has_standing log t
  stands_is t = ap (λ f. nat_lt 0 f.standing) (i.facts t) ∙ sym (counts_some t (standing log))

  wrote_before : (t : TxId) → is_before x.restart_at (facts_in x t).first_update ≡ wrote_in (before_restart [] log) t
  wrote_before t = ap (λ f. is_before x.restart_at f.first_update) (i.facts t) ∙ i.restart_at.before t

  stands_since : (t : TxId) → is_after x.restart_at (newest_by x.writes t) ≡ has_new_standing log t
  stands_since t =
      ap (is_after x.restart_at) (i.newest t) ∙ ap (λ n. is_after n (lsn_of (newest_of t (standing log)))) i.restart_at.place
      ∙ newest_behind (length (before_restart [] log)) (length log) t (standing log) s.falls

  undoable_is : (t : TxId) → may_be_undone x t ≡ may_undo log t
  undoable_is t =
      ap (λ b. b || (not (is_some (facts_in x t).prepare) && not (has_commit x t))) (is_aborted t) ∙ ap (λ b. aborted_in log t || (not b && not (has_commit x t))) (is_prepared t)
      ∙ ap (λ b. aborted_in log t || (not (prepared_in log t) && not b)) (is_committed t)

  last_run : (tx : TxId) → is_last_run tx.run x.last ≡ in_last_run log tx
  last_run tx = ap (is_last_run tx.run) i.last ∙ run_of tx.run (last_restart log)

  -- one without a PREPARE is listed by nobody
  unlisted_open : (tx : TxId) → prepared_in log tx ≡ false → is_listed log tx ≡ false
  unlisted_open tx none = false_from_ne_true _ (λ l. both_ways _ none (listed_earlier [] log tx s.earlier l))

  current_is : (tx : TxId) → in_last_run log tx && not (prepared_in log tx) ≡ is_current log tx && not (prepared_in log tx)
  current_is tx = at (in_last_run log tx) (is_listed log tx) (prepared_in log tx) (unlisted_open tx)
    where
      at : (r l p : Bool) → (p ≡ false → l ≡ false) → r && not p ≡ (r && not l) && not p
      at true true true h = refl
      at true false true h = refl
      at false l true h = refl
      at true l false h = ap (λ b. (true && not b) && true) (sym (h refl))
      at false l false h = refl

  any_restart : is_some x.last ≡ is_some (last_restart log)
  any_restart = ap is_some i.last

  no_fate : (t : TxId) → has_no_fate x t ≡ not (prepared_in log t) && not (committed_in log t) && not (aborted_in log t)
  no_fate t = ap (λ b. not b && not (has_commit x t) && not (facts_in x t).is_aborted) (is_prepared t) ∙ ap (λ b. not (prepared_in log t) && not b && not (facts_in x t).is_aborted) (is_committed t) ∙ ap (λ b. not (prepared_in log t) && not (committed_in log t) && not b) (is_aborted t)

  is_open : (t : TxId) → prepared_in log t ≡ false → committed_in log t ≡ false → aborted_in log t ≡ false → closed_in log t ≡ false
  is_open t p c a = rw (p, c, a) refl

  pub clear : (tx : TxId) (listed : List TxId) → closed_in log tx ≡ false → all_clear x tx listed (length log) ≡ list_all (λ w. committed_in log w.tx || tx_in w.tx listed) (writes_below tx (standing log))
  clear tx listed open_now =
      all_clear_is (closed_in log) (committed_in log) x tx listed (length log) (standing log) open_now i.linked (i.newest tx) i.shares s.falls (falls_length (length log) (standing log) s.falls) s.covers

  -- ---- RESTART

  restart_is : (run epoch : ℕ) → restart_fits x run epoch ≡ may_follow shard log (Restart run epoch)
  restart_is run epoch = rw (← i.above run epoch) (ap (λ b. above_restarts run epoch log && b) (nobody_is shard log s x.barring i.barring))

  -- ---- UPDATE and ADD

  may_is : (tx : TxId) → may_write x tx ≡ may_write_in log tx
  may_is tx =
      let a : is_last_run tx.run x.last && has_no_fate x tx ≡ is_current log tx && not (prepared_in log tx) && not (committed_in log tx) && not (aborted_in log tx) =
      ap (λ b. b && has_no_fate x tx) (last_run tx) ∙ ap (λ b. in_last_run log tx && b) (no_fate tx) ∙ and_assoc4 (in_last_run log tx) (not (prepared_in log tx)) (not (committed_in log tx)) (not (aborted_in log tx))
      ∙ ap (λ b. b && not (committed_in log tx) && not (aborted_in log tx)) (current_is tx) in
      rw (a, wrote_before tx) refl

  cover_fate : (t : TxId) → (is_some (facts_in x t).prepare || is_some (facts_in x t).commit) && not (facts_in x t).is_aborted ≡ (prepared_in log t || committed_in log t) && not (aborted_in log t)
  cover_fate t = ap (λ b. (b || has_commit x t) && not (facts_in x t).is_aborted) (is_prepared t) ∙ ap (λ b. (prepared_in log t || b) && not (facts_in x t).is_aborted) (is_committed t) ∙ ap (λ b. (prepared_in log t || committed_in log t) && not b) (is_aborted t)

  -- those with a COMMIT needn't be asked
  cover_is : (tx t : TxId) → committed_in log t || may_be_covered x tx t ≡ tx_same tx t || ((prepared_in log t || committed_in log t) && not (aborted_in log t))
  cover_is tx t =
      ap (λ b. committed_in log t || (tx_same tx t || b)) (cover_fate t) ∙ at (committed_in log t) (tx_same tx t) (prepared_in log t) (aborted_in log t) (s.fates t)
    where
      at : (c o p a : Bool) → (c ≡ true → a ≡ false) → c || (o || ((p || c) && not a)) ≡ o || ((p || c) && not a)
      at false o p a fate = refl
      at true true p a fate = refl
      at true false p true fate = absurd (both_ways _ (fate refl) refl)
      at true false true false fate = refl
      at true false false false fate = refl

  set_is : (tx : TxId) (k : ℕ) → may_be_set_over x tx k ≡ may_set log tx k (standing log)
  set_is tx k =
      ap (list_all (λ u. may_be_covered x tx u.tx)) (i.shares k) ∙ asked_of_all (may_be_covered x tx) (committed_in log) k (standing log)
      ∙ all_same (λ v. not (k == v.key) || (committed_in log v.tx || may_be_covered x tx v.tx)) (λ v. not (k == v.key) || may_cover log tx v) (λ v. ap (λ b. not (k == v.key) || b) (cover_is tx v.tx)) (standing log)

  add_is : (tx : TxId) (k : ℕ) → may_be_added_over x tx k ≡ may_add log tx k (standing log)
  add_is tx k =
      ap (list_all (asks (may_be_covered x tx))) (i.shares k) ∙ asked_of_sets (may_be_covered x tx) (committed_in log) k (standing log)
      ∙ all_same (λ v. not (k == v.key) || (committed_in log v.tx || (not (is_setting v.change) || may_be_covered x tx v.tx))) (λ v. not (k == v.key) || not (is_setting v.change) || may_cover log tx v)
      (λ v. turned (not (k == v.key)) (committed_in log v.tx) (not (is_setting v.change)) (may_be_covered x tx v.tx) ∙ ap (λ b. not (k == v.key) || not (is_setting v.change) || b) (cover_is tx v.tx)) (standing log)
    where
      turned : (a b c d : Bool) → a || (b || (c || d)) ≡ a || c || (b || d)
      turned a b c d = grind arith

  update_is : (tx : TxId) (key : ℕ) (before after : Option ValueType) → update_fits x tx key before after ≡ may_follow shard log (Update tx key before after)
  update_is tx key before after =
      rw (may_is tx, i.values key, set_is tx key)
      (turned (may_write_in log tx) (same_optional_value before (value_in log key)) (is_some before || is_some after) (may_set log tx key (standing log)))
    where
      turned : (a b c d : Bool) → a && c && (b && d) ≡ a && b && c && d
      turned a b c d = grind arith

  adding_is : (tx : TxId) (key by : ℕ) → add_fits x tx key ≡ may_follow shard log (Add tx key by)
  adding_is tx key by = rw (may_is tx, i.values key, add_is tx key) (sym (and_assoc3 (may_write_in log tx) (is_number (value_in log key)) (may_add log tx key (standing log))))

  -- ---- PREPARE

  list_is : (tx p : TxId) → may_be_listed x tx p ≡ not (tx_same p tx) && prepared_in log p && not (committed_in log p) && not (aborted_in log p)
  list_is tx p = rw (is_prepared p, is_committed p, is_aborted p) refl

  abbrev may_list : TxId → TxId → Bool
  may_list tx p = not (tx_same p tx) && prepared_in log p && not (committed_in log p) && not (aborted_in log p)

  prepare_is : (tx : TxId) (home : ℕ) (listed : List TxId) → prepare_fits x (length log) tx listed ≡ may_follow shard log (Prepare tx home listed)
  prepare_is tx home listed =
      let a : is_some x.last && is_after x.restart_at (newest_by x.writes tx) && has_no_fate x tx ≡ is_some (last_restart log) && has_new_standing log tx && not (prepared_in log tx) && not (committed_in log tx) && not (aborted_in log tx) =
      ap (λ b. b && is_after x.restart_at (newest_by x.writes tx) && has_no_fate x tx) any_restart ∙ ap (λ b. is_some (last_restart log) && b && has_no_fate x tx) (stands_since tx)
      ∙ ap (λ b. is_some (last_restart log) && has_new_standing log tx && b) (no_fate tx)
      ∙ and_assoc4 (is_some (last_restart log) && has_new_standing log tx) (not (prepared_in log tx)) (not (committed_in log tx)) (not (aborted_in log tx)) in
      let b : list_all (may_be_listed x tx) listed ≡ list_all (may_list tx) listed = all_same (may_be_listed x tx) (may_list tx) (list_is tx) listed in
      ap (λ v. v && list_all (may_be_listed x tx) listed && all_clear x tx listed (length log)) a
      ∙ ap (λ v. is_some (last_restart log) && has_new_standing log tx && not (prepared_in log tx) && not (committed_in log tx) && not (aborted_in log tx) && v && all_clear x tx listed (length log)) b
      ∙ and_when (is_some (last_restart log) && has_new_standing log tx && not (prepared_in log tx) && not (committed_in log tx) && not (aborted_in log tx) && list_all (may_list tx) listed)
      (all_clear x tx listed (length log)) (list_all (λ w. committed_in log w.tx || tx_in w.tx listed) (writes_below tx (standing log)))
      (λ e. let f = and_first _ _ e in
      clear tx listed (is_open tx (not_true _ (and_second _ _ (and_first _ _ (and_first _ _ f)))) (not_true _ (and_second _ _ (and_first _ _ f))) (not_true _ (and_second _ _ f))))

  -- ---- ABORT

  abort_is : (tx : TxId) → abort_fits x tx ≡ may_follow shard log (Abort tx)
  abort_is tx = rw (any_restart, stands_is tx, is_committed tx, is_aborted tx) refl

  -- ---- CLR and UNADD

  -- the newest write of a transaction, by the index
  found_at : (tx : TxId) (w : StandingUpdate) (over under : List StandingUpdate) → standing log ≡ over ++ w ∷ under → newest_of tx (standing log) ≡ Some w → write_at x.writes (newest_by x.writes tx) ≡ Some (link_of w under)
  found_at tx w over under is newest =
      ap (write_at x.writes) (i.newest tx ∙ ap lsn_of newest) ∙ linked_at x.writes over w under (subst (Linked x.writes) is i.linked)

  left_at : (tx : TxId) (w : StandingUpdate) (over under : List StandingUpdate) → standing log ≡ over ++ w ∷ under → AllByRecursion (λ v. tx_same tx v.tx ≡ false) over → tx_same tx w.tx ≡ true
      → (link_of w under).earlier ≡ next_to_undo tx (standing log)
  left_at tx w over under is others own =
      lsn_is (newest_of w.tx under) ∙ sym (ap lsn_by (ap (λ ws. newest_of tx (without_newest tx ws)) is ∙ ap (newest_of tx) (left_is tx over w under others own) ∙ newest_own tx over under others ∙ ap (λ t. newest_of t under) (tx_true tx w.tx own)))
    where
      lsn_by : Option StandingUpdate → Option ℕ
      lsn_by o = elim o [ Some v ↦ Some v.lsn | None ↦ None ]

      lsn_is : (o : Option StandingUpdate) → lsn_of o ≡ elim o [ Some v ↦ Some v.lsn | None ↦ None ]
      lsn_is None = refl
      lsn_is (Some v) = refl

  module _ (w : StandingUpdate) (over under : List StandingUpdate) (is : standing log ≡ over ++ w ∷ under) where
    falls_here : Falls (length log) (over ++ w ∷ under)
    falls_here = subst (Falls (length log)) is s.falls

    clears_is : (after : Option ValueType) (c : Change) → w.change ≡ c
        → undoes_setting c after && is_at w.lsn (top_at x.writes w.key) && (adds_at x.writes w.key == 0) ≡ clears w after (standing log) c
    clears_is after (Adds by) e = refl
    clears_is after (Sets before set) e =
        ap (λ o. same_optional_value before after && is_at w.lsn o && (adds_at x.writes w.key == 0)) (i.tops w.key)
        ∙ ap (λ n. same_optional_value before after && is_at w.lsn (top_set w.key (standing log)) && (n == 0)) (i.adds w.key)
        ∙ ap (λ ws. same_optional_value before after && is_at w.lsn (top_set w.key ws) && (adds_over w.key ws == 0)) is
        ∙ and_assoc3 (same_optional_value before after) (is_at w.lsn (top_set w.key (over ++ w ∷ under))) (adds_over w.key (over ++ w ∷ under) == 0)
        ∙ ap (λ b. same_optional_value before after && b) (top_test (length log) w over under (ap is_setting e) falls_here)
        ∙ sym (ap (λ ws. clears w after ws (Sets before set)) is)

    unadds_is : (by : ℕ) (c : Change) → w.change ≡ c → undoes_adding c by && is_below (top_at x.writes w.key) w.lsn ≡ unadds w by (standing log) c
    unadds_is by (Sets before set) e = refl
    unadds_is by (Adds added) e =
        ap (λ o. (added == by) && is_below o w.lsn) (i.tops w.key) ∙ ap (λ ws. (added == by) && is_below (top_set w.key ws) w.lsn) is
        ∙ ap (λ b. (added == by) && b) (free_test (length log) w over under (ap is_setting e) falls_here)
        ∙ sym (ap (λ ws. unadds w by ws (Adds added)) is)

  -- what is the same at the write's key
  at_key : (key : ℕ) (w : StandingUpdate) (f : ℕ → Bool) (t d : Bool) → f w.key ≡ t → (w.key == key) && f key && d ≡ (w.key == key) && t && d
  at_key key w f t d same =
      both (λ b. (w.key == key) ≡ b → b && f key && d ≡ b && t && d) (w.key == key) (λ _ e. ap (λ v. v && d) (ap f (sym (eqb-true w.key key e)) ∙ same)) (λ _ _. refl) refl

  clr_found : (tx : TxId) (undo_next : Option ℕ) (key : ℕ) (after : Option ValueType) (o : Option StandingUpdate) → newest_of tx (standing log) ≡ o
      → compensates_write x tx undo_next key after (write_at x.writes (newest_by x.writes tx)) ≡ compensates (λ w. clears w after (standing log) w.change) tx undo_next key (standing log) o
  clr_found tx undo_next key after None newest = ap (λ p. compensates_write x tx undo_next key after (write_at x.writes p)) (i.newest tx ∙ ap lsn_of newest)
  clr_found tx undo_next key after (Some w) newest =
      let at = split_newest tx (standing log) w newest in
      ap (compensates_write x tx undo_next key after) (found_at tx w at.0 at.1 at.2 newest)
      ∙ ap (λ n. (w.key == key) && undoes_setting w.change after && is_at w.lsn (top_at x.writes key) && (adds_at x.writes key == 0) && same_option undo_next n) (left_at tx w at.0 at.1 at.2 at.3 at.4)
      ∙ and_group (w.key == key) (undoes_setting w.change after) (is_at w.lsn (top_at x.writes key)) (adds_at x.writes key == 0) (same_option undo_next (next_to_undo tx (standing log)))
      ∙ at_key key w (λ k. undoes_setting w.change after && is_at w.lsn (top_at x.writes k) && (adds_at x.writes k == 0)) (clears w after (standing log) w.change) (same_option undo_next (next_to_undo tx (standing log)))
      (clears_is w at.0 at.1 at.2 after w.change refl)

  unadd_found : (tx : TxId) (undo_next : Option ℕ) (key by : ℕ) (o : Option StandingUpdate) → newest_of tx (standing log) ≡ o
      → compensates_add x tx undo_next key by (write_at x.writes (newest_by x.writes tx)) ≡ compensates (λ w. unadds w by (standing log) w.change) tx undo_next key (standing log) o
  unadd_found tx undo_next key by None newest = ap (λ p. compensates_add x tx undo_next key by (write_at x.writes p)) (i.newest tx ∙ ap lsn_of newest)
  unadd_found tx undo_next key by (Some w) newest =
      let at = split_newest tx (standing log) w newest in
      ap (compensates_add x tx undo_next key by) (found_at tx w at.0 at.1 at.2 newest)
      ∙ ap (λ n. (w.key == key) && undoes_adding w.change by && is_below (top_at x.writes key) w.lsn && same_option undo_next n) (left_at tx w at.0 at.1 at.2 at.3 at.4)
      ∙ ap (λ b. b && same_option undo_next (next_to_undo tx (standing log))) (and_assoc3 (w.key == key) (undoes_adding w.change by) (is_below (top_at x.writes key) w.lsn))
      ∙ at_key key w (λ k. undoes_adding w.change by && is_below (top_at x.writes k) w.lsn) (unadds w by (standing log) w.change) (same_option undo_next (next_to_undo tx (standing log)))
      (unadds_is w at.0 at.1 at.2 by w.change refl)

  clr_is : (tx : TxId) (undo_next : Option ℕ) (key : ℕ) (after : Option ValueType) → clr_fits x tx undo_next key after ≡ may_follow shard log (Clr tx undo_next key after)
  clr_is tx undo_next key after = rw (any_restart, undoable_is tx, clr_found tx undo_next key after (newest_of tx (standing log)) refl) refl

  unadd_is : (tx : TxId) (undo_next : Option ℕ) (key by : ℕ) → unadd_fits x tx undo_next key by ≡ may_follow shard log (Unadd tx undo_next key by)
  unadd_is tx undo_next key by = rw (any_restart, undoable_is tx, unadd_found tx undo_next key by (newest_of tx (standing log)) refl) refl

-- ---- COMMIT and END, which read what earlier records list

no_parts : (parts : List ℕ) → not (some_parts parts) ≡ elim parts [ [] ↦ true | s ∷ ss ↦ false ]
no_parts [] = refl
no_parts (s ∷ ss) = refl

by_home : (shard : ℕ) (log : List LogRecord) (tx : TxId) (parts : List ℕ) (run : Bool) → (prepare_of log tx ≡ None → run ≡ is_current log tx) → (o : Option (ℕ × List TxId)) → prepare_of log tx ≡ o
    → ◌≡◌ {A = Bool} (elim (home_in o) [ None ↦ run | Some home ↦ (home == shard) || not (some_parts parts) ]) (commit_by_prepare shard log tx parts o)
by_home shard log tx parts run is None e = is e
by_home shard log tx parts run is (Some p) e = ap (λ b. (p.0 == shard) || b) (no_parts parts)

unlisted_run : (r l : Bool) → l ≡ false → r ≡ r && not l
unlisted_run true l e = ap not (sym e)
unlisted_run false l e = refl

of_parts : (o : Option (List ℕ)) → some_parts (unwrap_or o []) ≡ elim o [ Some ps ↦ some_parts ps | None ↦ false ]
of_parts None = refl
of_parts (Some ps) = refl

module _ (shard : ℕ) (x : Index) (records : List LogRecord) (n : ℕ) (s : Sound (take n records)) (i : IsIndexOf shard x (take n records)) where
  lists_is : (tx : TxId) → listed_at records (facts_in x tx).prepare ≡ listed_in (take n records) tx
  lists_is tx = ap (λ f. listed_at records f.prepare) (i.facts tx) ∙ listed_is records n tx

  homes_is : (tx : TxId) → home_at records (facts_in x tx).prepare ≡ home_in (prepare_of (take n records) tx)
  homes_is tx = ap (λ f. home_at records f.prepare) (i.facts tx) ∙ home_is records n tx

  home_rule : (tx : TxId) (parts : List ℕ) → home_allows x records (facts_in x tx) tx parts ≡ commit_by_prepare shard (take n records) tx parts (prepare_of (take n records) tx)
  home_rule tx parts =
      ap (λ o. elim o [ None ↦ is_last_run tx.run x.last | Some home ↦ (home == x.shard) || not (some_parts parts) ]) (homes_is tx)
      ∙ ap (λ h. elim (home_in (prepare_of (take n records) tx)) [ None ↦ is_last_run tx.run x.last | Some home ↦ (home == h) || not (some_parts parts) ]) i.here
      ∙ by_home shard (take n records) tx parts (is_last_run tx.run x.last)
      (λ none. last_run shard x (take n records) s i tx ∙ unlisted_run (in_last_run (take n records) tx) (is_listed (take n records) tx) (unlisted_open shard x (take n records) s i tx (unprepared (take n records) tx none)))
      (prepare_of (take n records) tx) refl

  lists_committed : (tx : TxId) → list_all (has_commit x) (listed_at records (facts_in x tx).prepare) ≡ list_all (committed_in (take n records)) (listed_in (take n records) tx)
  lists_committed tx = ap (list_all (has_commit x)) (lists_is tx) ∙ all_same (has_commit x) (committed_in (take n records)) (is_committed shard x (take n records) s i) (listed_in (take n records) tx)

  -- of one with a PREPARE all that lies below was committed or listed, and who is listed is committed now
  below_listed : (tx : TxId) → prepared_in (take n records) tx ≡ true → aborted_in (take n records) tx ≡ false → list_all (committed_in (take n records)) (listed_in (take n records) tx) ≡ true
      → list_all (λ w. committed_in (take n records) w.tx) (writes_below tx (standing (take n records))) ≡ true
  below_listed tx prepared unaborted listed =
      let log = take n records in
      below_is (committed_in log) tx (standing log)
      ∙ pass_more (may_lie log tx) (committed_in log) tx (λ u e. ⊎_elim (λ c. c) (λ l. of_all (committed_in log) (listed_in log tx) listed u l) (or_cases (committed_in log u) (tx_in u (listed_in log tx)) e)) (standing log) (s.below tx prepared unaborted)

  below_open : (tx : TxId) → committed_in (take n records) tx ≡ false → aborted_in (take n records) tx ≡ false → list_all (committed_in (take n records)) (listed_in (take n records) tx) ≡ true
      → (b : Bool) → prepared_in (take n records) tx ≡ b → b || all_clear x tx [] (length (take n records)) ≡ list_all (λ w. committed_in (take n records) w.tx) (writes_below tx (standing (take n records)))
  below_open tx uncommitted unaborted listed true prepared = sym (below_listed tx prepared unaborted listed)
  below_open tx uncommitted unaborted listed false unprepared =
      clear shard x (take n records) s i tx [] (is_open shard x (take n records) s i tx unprepared uncommitted unaborted)
      ∙ all_same (λ w. committed_in (take n records) w.tx || tx_in w.tx []) (λ w. committed_in (take n records) w.tx) (λ w. or_false (committed_in (take n records) w.tx)) (writes_below tx (standing (take n records)))

  commit_is : (tx : TxId) (parts : List ℕ) → commit_fits x records (length (take n records)) tx parts ≡ may_follow shard (take n records) (Commit tx parts)
  commit_is tx parts =
      let log = take n records in
      let c : has_commit x tx ≡ committed_in log tx = is_committed shard x log s i tx in
      let p : is_some (facts_in x tx).prepare ≡ prepared_in log tx = is_prepared shard x log s i tx in
      let k : Bool = all_clear x tx [] (length log) in
      rw (any_restart shard x log s i, c, is_aborted shard x log s i tx, home_rule tx parts, i.here, lists_committed tx, p, stands_is shard x log s i tx)
      (ap (λ b. b && commit_by_prepare shard log tx parts (prepare_of log tx) && (has_standing log tx || some_parts parts))
      (and_when (is_some (last_restart log) && not (committed_in log tx) && not (aborted_in log tx) && not (nat_in shard parts) && list_all (committed_in log) (listed_in log tx))
      (prepared_in log tx || k) (list_all (λ w. committed_in log w.tx) (writes_below tx (standing log)))
      (λ e. let f = and_first _ _ (and_first _ _ e) in
      below_open tx (not_true _ (and_second _ _ (and_first _ _ f))) (not_true _ (and_second _ _ f)) (and_second _ _ e) (prepared_in log tx) refl)))

  end_is : (tx : TxId) → end_fits x records tx ≡ may_follow shard (take n records) (End tx)
  end_is tx =
      rw (any_restart shard x (take n records) s i, is_ended shard x (take n records) s i tx)
      (ap (λ b. is_some (last_restart (take n records)) && not (ended_in (take n records) tx) && b)
      (ap (λ f. some_parts (parts_at records f.commit)) (i.facts tx) ∙ ap some_parts (parts_is records n tx) ∙ of_parts (commit_parts (take n records) tx)))

  pub fits_is : (r : LogRecord) → fits x records (length (take n records)) r ≡ may_follow shard (take n records) r
  fits_is (Restart run epoch) = restart_is shard x (take n records) s i run epoch
  fits_is (Update tx key before after) = update_is shard x (take n records) s i tx key before after
  fits_is (Clr tx undo_next key after) = clr_is shard x (take n records) s i tx undo_next key after
  fits_is (Prepare tx home listed) = prepare_is shard x (take n records) s i tx home listed
  fits_is (Commit tx parts) = commit_is tx parts
  fits_is (Abort tx) = abort_is shard x (take n records) s i tx
  fits_is (End tx) = end_is tx
  fits_is (Add tx key by) = adding_is shard x (take n records) s i tx key by
  fits_is (Unadd tx undo_next key by) = unadd_is shard x (take n records) s i tx undo_next key by
  fits_is Forgotten = refl
  fits_is (Check run' epoch' upto base) = refl
