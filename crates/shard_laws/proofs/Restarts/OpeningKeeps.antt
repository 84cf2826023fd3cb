-- A shard that was opened keeps what a shard keeps: over the writes that the log found commits, those that it leaves in doubt acted.
use Rattle.std.proofs.Common.{◌≡◌, ℕ, ◌<◌, ◌⊎◌, inl, inr, ⊎_elim, true, false, ◌||◌, List, [], ◌∷◌, ◌++◌, length, Option, Some, None, refl, sym, ap, subst, ◌∙◌, arith, map, not, append_assoc}
use Rattle.std.specs.Prelude.{take}
use Rattle.std.specs.List.{AllByRecursion, filter}
use Rattle.std.proofs.lemmas.Bool.{cases_Bool, both_ways, cond_both, or_cases, false_from_ne_true, or_from}
use Rattle.std.proofs.lemmas.List.{take_all}
use Rattle.std.proofs.lemmas.List.Folds.{list_any-append}
use Rattle.std.proofs.Math.Bool.{or-false}
use Rattle.std.proofs.lemmas.Option.{none-some}
use Rattle.clv_base.specs.declared.names.TxId.{TxId}
use Rattle.clv_base.specs.declared.logs.LogRecord.{LogRecord}
use Rattle.clv_base.specs.declared.logs.LogRecord.TheVariants.{Abort, Restart}
use Rattle.clv_base.specs.declared.causes.Vote.{Vote}
use Rattle.clv_base.specs.declared.causes.Vote.TheVariants.{Read}
use Rattle.clv_base.specs.declared.state.Stage.TheVariants.{Active, Closed, Gone}
use Rattle.clv_base.specs.declared.state.Voter.{Voter}
use Rattle.clv_base.specs.Orders.{tx_in}
use Rattle.clv_base.specs.Maps.{map_get}
use Rattle.clv_base.specs.Undo.{stage_of, clrs_of}
use Rattle.clv_base.specs.Logs.{StandingUpdate, standing, committed_in, committed_somewhere, is_commit_of, is_prepare_of, is_abort_of, prepared_in, aborted_in, in_doubt, is_winner, fold_updates, stands, writers, base_of}
use Rattle.clv_base.specs.LogRules.{listed_in, disorder}
use Rattle.clv_base.specs.Restarts.{greatest_run, log_after_restart, records_of, with_ghosts, restored_locks, restored_parts, restored_pairs, unended_in, opened, losers}
use Rattle.clv_base.specs.Coordinator.{restored_requests}
use Rattle.clv_base.specs.State.{is_present}
use Rattle.clv_base.proofs.SameNames.{or_left}
use Rattle.law_base.proofs.Parts.{whole_part}
use Rattle.law_base.specs.Items.{Item, Deed, Did, held, Runs, AllLater, Reaches, pile}
use Rattle.law_base.proofs.Lists.{all_mono, later_mono}
use Rattle.law_base.proofs.Running.{top_value, write_met}
use Rattle.law_base.proofs.Tables.{stage_in, is_pair}
use Rattle.law_base.proofs.Commits.{commit_durable}
use Rattle.law_base.proofs.Sets.{filter_in, list_all_at}
use Rattle.protocol_laws.proofs.LogsInOrder.OneRecordMore.{own_commit, own_prepare}
use Rattle.protocol_laws.proofs.LogsInOrder.RunsAreOfRestarts.{record_fits}
use Rattle.protocol_laws.proofs.LogsInOrder.StandingUpdatesLie.{chain_kept}
use Rattle.protocol_laws.proofs.LogsInOrder.{Order, in_order}
use Rattle.shard_laws.specs.OneShard.{MayServe, is_doomed, items_in, found_items, found_asked, found_met}
use Rattle.shard_laws.proofs.Operations.WritesAtEachKey.{SameAtKeys, keys_by}
use Rattle.shard_laws.proofs.Keeping.WhatOneShardKeeps.{Past, is_alive, place}
use Rattle.shard_laws.proofs.Events.DueKeeps.{part_same, Sound}
use Rattle.shard_laws.proofs.Cuts.WhatCutsHold.{of_kept, fold_alike, updates_values}
use Rattle.shard_laws.proofs.Cuts.MembersOfCutsReplay.{filter_all_kept}
use Rattle.shard_laws.proofs.Restarts.UnrestoredFell.{all_durable}
use Rattle.shard_laws.proofs.Keeping.FallenAndLost.{Falls}
use Rattle.shard_laws.proofs.Order.UndoMayFollow.{aborted_now}
use Rattle.shard_laws.proofs.Cuts.WhoIsInDoubt.{Doubted, doubted}
use Rattle.shard_laws.proofs.Restarts.RestoredLocksAndParts.{restored_closed, restored_stage, restored_none, rows_restored}
use Rattle.shard_laws.proofs.Order.WritesLieOnListed.{order_of, lie_listed, winners_lie}
use Rattle.shard_laws.proofs.Order.WhoseWritesStand.{has_writer, open_stands}
use Rattle.shard_laws.proofs.Order.RecordByRecord.{above_later}
use Rattle.shard_laws.proofs.Order.WhoIsListed.{named_found, old_found}
use Rattle.shard_laws.proofs.Order.StepsKeepOrder.{KeepsOrder}
use Rattle.shard_laws.proofs.Restarts.RestartsKeepOrder.{found_self, Renewed, renewed, ordered_restored, lying_restored, rulings_restored}
use Rattle.shard_laws.proofs.Restarts.RestoredRequestsAndPairs.{requests_none, unended_none, voter_is, pair_there, pair_of, pair_lists}
use Rattle.shard_laws.proofs.Restarts.WinnersKeepTheirWrites.{Restarted, winner_unaborted, of_whole}
use Rattle.shard_laws.proofs.Restarts.OperationsAlone.{alone, held_alone, items_alone, acts_alone, between_alone, all_alone, later_alone, met_alone}
use Rattle.shard_laws.proofs.Keeping.DeedsThatHold.{Rise}
use Rattle.shard_laws.proofs.Restarts.RecordsAfterRestart.{committed_remade, values_remade, rises_remade, wrote_remade}
use Rattle.shard_laws.proofs.Restarts.RestartsKeep.{state_with, restored_committed, IsCommitted}
use Rattle.protocol_laws.specs.Order.{LieOnThese}
use Rattle.shard_laws.proofs.Restarts.AddsFindNumbers.{find_numbers, numbers_kept}
use Rattle.shard_laws.proofs.Restarts.FoundDoubtedActedBefore.{UnderFound, all_tell, found_rise, found_doubted, pile_found, keys_split, runs_found, order_has, listed_before, under_found}
use Rattle.law_base.proofs.Logs.{fold_rises}
use Rattle.clv_base.proofs.Folding.{or_left as or_false_left, or_right as or_false_right}

-- a restart aborts the losers
undo_aborts : (shard : ℕ) (log : List LogRecord) (run : ℕ) (t : TxId) → tx_in t (losers shard log) ≡ true → aborted_in (log_after_restart shard log run 0) t ≡ true
undo_aborts shard log run t i =
    let ts : List TxId = filter (λ u. not (aborted_in log u)) (losers shard log) in
    let cs : List LogRecord = clrs_of (losers shard log) (standing log) in
    let a : aborted_in (log ++ map (λ u. Abort u) ts) t ≡ true = aborted_now log ts t (⊎_elim (λ e. inl e) (λ e. inr (filter_in (λ u. not (aborted_in log u)) t (losers shard log) i (ap not e))) (cases_Bool (aborted_in log t))) in
    subst (λ l. aborted_in l t ≡ true) (append_assoc log (map (λ u. Abort u) ts) (cs ++ Restart run 0 ∷ []) ∙ ap (λ l. log ++ l) (sym (append_assoc (map (λ u. Abort u) ts) cs (Restart run 0 ∷ []))))
    (list_any-append (is_abort_of t) (log ++ map (λ u. Abort u) ts) (cs ++ Restart run 0 ∷ []) ∙ or_left _ _ a)

-- over what the log found commits, those in doubt acted and asked
abbrev pub past_of : ℕ → List LogRecord → Past
past_of shard before =
    record {
      floor = base_of before;
      start = stands (before ∷ []);
      base = filter (of_kept (committed_in before)) (standing before);
      done = alone (found_items shard before);
      asked = found_asked shard before;
      over = [];
      met = found_met shard before;
      fell = [];
      lost = [];
    }

closed_active : Active ≡ Closed → ⊥
closed_active e = absurd cc

gone_closed : (d : Option TxId) → Gone d ≡ Closed → ⊥
gone_closed d e = absurd cc

module _ (shard run : ℕ) (before : List LogRecord) (may : MayServe shard run before) where
  abbrev Now : List LogRecord
  Now = log_after_restart shard before run 0

  abbrev doubt : List TxId
  doubt = in_doubt shard before

  pub follows : disorder shard before ≡ None
  follows = may.0

  pub order : Order shard before
  order = in_order shard before may.0

  re : Restarted shard before (log_after_restart shard before run 0)
  re = of_whole (opened shard run []) before before 0 (found_self shard before order)

  -- ---- who is in doubt

  pub doubt_of : (t : TxId) → tx_in t doubt ≡ true → Doubted before doubt t
  doubt_of t i = doubted shard before t order.sealed i

  pub doubt_apart : (t : TxId) → tx_in t doubt ≡ true → committed_in before t ≡ false
  doubt_apart t i = (doubt_of t i).open_

  doubt_open : (t : TxId) → tx_in t doubt ≡ true → committed_in Now t ≡ false
  doubt_open t i = re.found.commits t ∙ doubt_apart t i

  pub doubt_asked : (t : TxId) → tx_in t doubt ≡ true → tx_in t (found_asked shard before) ≡ true
  doubt_asked t i = order_has (λ u. tx_in u doubt) before t (doubt_of t i).prepared i

  no_active : (t : TxId) → stage_in (restored_parts doubt) t ≡ Some Active → ⊥
  no_active t e = closed_active (restored_stage doubt t Active e).0

  -- whom its PREPARE lists in the log as it is now
  listed_now : (t p : TxId) → tx_in t doubt ≡ true → tx_in p (listed_in before t) ≡ true → tx_in p (listed_in Now t) ≡ true
  listed_now t p i l = ap (tx_in p) (re.found.listed t (doubt_of t i).prepared) ∙ l

  listed_pair : (t p : TxId) → tx_in t doubt ≡ true → tx_in p doubt ≡ true → tx_in p (listed_in before t) ≡ true → is_pair (restored_pairs Now doubt) t p ≡ true
  listed_pair t p i j l = pair_there Now doubt t p i (listed_now t p i l) (doubt_open p j)

  pub listed_place : (t p : TxId) → tx_in t doubt ≡ true → tx_in p doubt ≡ true → tx_in p (listed_in before t) ≡ true → place (found_asked shard before) p < place (found_asked shard before) t
  listed_place t p i j l = listed_before shard (λ u. tx_in u doubt) before follows (λ u k. (doubt_of u k).prepared) t p l i j

  -- a pair that was found is of two in doubt
  met_doubt : (t p : TxId) → is_pair (found_met shard before) t p ≡ true → (tx_in t doubt ≡ true) × (tx_in p doubt ≡ true) × (tx_in p (listed_in before t) ≡ true)
  met_doubt t p e =
      let q = pair_lists before doubt t p e in
      let d = list_all_at (λ z. committed_in before z || tx_in z doubt) p (listed_in before t) (doubt_of t q.0).listed q.1 in
      (q.0, ⊎_elim (λ c. absurd (both_ways _ q.2 c)) (λ i. i) (or_cases (committed_in before p) (tx_in p doubt) d), q.1)

  -- ---- what it wrote

  map_is : stands (before ∷ []) ≡ fold_updates (committed_in before) before []
  map_is = fold_alike (committed_somewhere (before ∷ [])) (committed_in before) before [] (λ t. or-false (committed_in before t))

  pub start_value : (k : ℕ) → map_get k (stands (before ∷ [])) ≡ top_value (base_of before) k (filter (of_kept (committed_in before)) (standing before))
  start_value k = ap (map_get k) map_is ∙ updates_values (committed_in before) before k

  base_done : (ws : List StandingUpdate) → AllByRecursion (λ w. commit_durable Now (length Now) w.tx ≡ true) (filter (of_kept (committed_in before)) ws)
  base_done [] = tt
  base_done (w ∷ ws) =
      cond_both (committed_in before w.tx) (w ∷ filter (of_kept (committed_in before)) ws) (filter (of_kept (committed_in before)) ws)
      (AllByRecursion (λ w. commit_durable Now (length Now) w.tx ≡ true))
      (λ e. (committed_remade shard before Now re w.tx e, base_done ws)) (λ e. base_done ws)

  pub runs_start : Runs (stands (before ∷ [])) (found_items shard before)
  runs_start =
      let lie : LieOnThese (is_winner shard before) (standing before) = winners_lie shard before order (standing before) order.writes.lie (lie_listed shard before follows) in
      runs_found (committed_in before) (λ t. tx_in t doubt) doubt_apart (base_of before) (stands (before ∷ [])) (filter (of_kept (committed_in before)) (standing before)) start_value (standing before) (all_tell shard before follows)
      (chain_kept (base_of before) (is_winner shard before) (standing before) lie order.writes.chain) (numbers_kept (base_of before) (is_winner shard before) (standing before) lie (find_numbers shard before follows)) order.writes.lie (λ q. inl refl)

  all_alive : (ws : List StandingUpdate) → AllByRecursion (λ w. is_alive [] w.tx ≡ true) ws
  all_alive [] = tt
  all_alive (w ∷ ws) = (refl, all_alive ws)

  pub split_start : SameAtKeys (filter (of_kept (is_winner shard before)) (standing before)) (pile (found_items shard before) (filter (of_kept (committed_in before)) (standing before)))
  split_start =
      keys_by refl (keys_split (committed_in before) (λ t. tx_in t doubt) doubt_apart (standing before) order.writes.lie)
      (sym (pile_found (λ t. tx_in t doubt) (standing before) (filter (of_kept (committed_in before)) (standing before)) (all_tell shard before follows)))

  standing_start : SameAtKeys (filter (of_kept (is_alive [])) (standing Now)) (pile (held (alone (found_items shard before))) (filter (of_kept (committed_in before)) (standing before)))
  standing_start =
      keys_by (filter_all_kept (is_alive []) (standing Now) (all_alive (standing Now)) ∙ re.only_kept) split_start (ap (λ xs. pile xs (filter (of_kept (committed_in before)) (standing before))) (sym (held_alone (found_items shard before))))

  pub items_doubted : AllByRecursion (λ x. tx_in x.tx doubt ≡ true) (found_items shard before)
  items_doubted = found_doubted (λ t. tx_in t doubt) (standing before)

  pub under_start : AllLater (UnderFound before (λ t. tx_in t doubt)) (found_items shard before)
  under_start = under_found before (λ t. tx_in t doubt) (λ t i. ((doubt_of t i).prepared, doubt_apart t i)) (standing before) (lie_listed shard before follows)

  pub reached : (x y : Item) → UnderFound before (λ t. tx_in t doubt) x y → Reaches x y → (x.tx ≡ y.tx) ⊎ ((tx_in x.tx (listed_in before y.tx) ≡ true) × (tx_in x.tx doubt ≡ true) × (tx_in y.tx doubt ≡ true))
  reached x y u r = u r.0 (write_met x r.0 r.1) r.2 r.3

  -- ---- the order of the log

  old_run : (t : TxId) → committed_in before t ≡ true → t.run < run
  old_run t e = let l = record_fits (greatest_run before) t (is_commit_of t) (own_commit t) before order.runs e in let m = may.1 in omega (arith, l, m)

  renewed_start : Renewed shard run Now
  renewed_start = let l = may.1 in renewed shard run 0 before follows (omega (arith, l)) (named_found shard run before follows l) (old_found shard run before follows l) (above_later run 0 before l)

  old_prepared : (t : TxId) → prepared_in Now t ≡ true → (tx_in t (found_asked shard before) ≡ true) ⊎ (t.run < run)
  old_prepared t e = let l = record_fits (greatest_run before) t (is_prepare_of t) (own_prepare t) before order.runs (sym (re.found.prepares t) ∙ e) in let m = may.1 in inr (omega (arith, l, m))

  abbrev KeepsNow : List TxId → Type 0
  KeepsNow d = KeepsOrder (found_asked shard before) shard run (restored_parts d) (restored_pairs Now d) Now (restored_requests (unended_in Now Now))

  order_start : KeepsOrder (found_asked shard before) shard run (restored_parts doubt) (restored_pairs Now doubt) Now (restored_requests (unended_in Now Now))
  order_start = subst KeepsNow re.found.doubts (record {
    ordered = ordered_restored shard run Now renewed_start;
    lying = lying_restored shard run Now renewed_start;
    rulings = rulings_restored shard run Now renewed_start;
    asks = old_prepared;
  })

  -- ---- who fell

  -- who is prepared, not committed and not in doubt is aborted by the opening at the latest
  aborted_start : (t : TxId) → prepared_in Now t ≡ true → committed_in Now t ≡ false → tx_in t doubt ≡ false → aborted_in (take (length Now) Now) t ≡ true
  aborted_start t p c n =
      let loses : is_winner shard before t ≡ false = or_from _ _ (sym (re.found.commits t) ∙ c) n in
      subst (λ l. aborted_in l t ≡ true) (sym (take_all (length Now) Now (omega arith)))
      (⊎_elim
      (λ w. undo_aborts shard before run t (filter_in (λ u. not (is_winner shard before u)) t (writers (standing before)) (has_writer t (standing before) w) (ap not loses)))
      (λ a. re.found.aborts t a)
      (open_stands shard before follows t (sym (re.found.prepares t) ∙ p) (sym (re.found.commits t) ∙ c)))

  absent_start : (t : TxId) → is_present (stage_in (restored_parts doubt) t) ≡ false → tx_in t doubt ≡ false
  absent_start t h = false_from_ne_true _ (λ i. both_ways _ h (ap is_present (restored_closed doubt t i)))

  not_doomed : (t : TxId) → is_doomed (stage_in (restored_parts doubt) t) ≡ true → ⊥
  not_doomed t d = ⊎_elim (λ i. both_ways false refl (sym (ap is_doomed (restored_closed doubt t i)) ∙ d)) (λ n. both_ways false refl (sym (ap is_doomed (restored_none doubt t n)) ∙ d)) (cases_Bool (tx_in t doubt))

  falls_start : Falls (found_asked shard before) [] [] [] (restored_parts doubt) (restored_pairs Now doubt) Now (length Now)
  falls_start = record {
    fallen = λ t e. ⊎_elim (λ i. i) (λ d. absurd (not_doomed t d)) e;
    open_ = λ t l. absurd (both_ways false refl l);
    unfinished = λ t l. absurd (both_ways false refl l);
    why = λ t l. absurd (both_ways false refl l);
    up = λ t p e l. absurd (both_ways false refl l);
    lists = λ t p i l. absurd (both_ways false refl l);
    back = λ t i h. absurd (both_ways false refl i);
    owns = λ t p c. ⊎_elim (λ i. inl (doubt_asked t i)) (λ n. inr (aborted_start t p c n)) (cases_Bool (tx_in t doubt));
    gone = λ t p c h. inr (aborted_start t p c (absent_start t h));
    settled = λ t c h. all_durable Now t c;
    paired = λ t p e q. inl (pair_lists Now doubt t p e).1;
  }

  -- ---- all of it

  no_read : (v : Voter) → v.vote ≡ None → v.vote ≡ Some Read → ⊥
  no_read v e f = none_vote (sym e ∙ f)
    where
      none_vote : ◌≡◌ {A = Option Vote} None (Some Read) → ⊥
      none_vote x = absurd cc

  order_now : Order shard Now
  order_now = order_of shard Now renewed_start.in_order

  abbrev done_start : List Deed
  done_start = alone (found_items shard before)

  -- of all of them, and of each two
  abbrev AllFound : (Deed → Type 0) → Type 0
  AllFound P = AllByRecursion P done_start

  all_found : (P : Deed → Type 0) → ((x : Item) → tx_in x.tx doubt ≡ true → P (Did x)) → AllFound P
  all_found P h = all_alone P (found_items shard before) (all_mono _ _ h (found_items shard before) items_doubted)

  two_found : (R : Item → Item → Type 0) → ((x y : Item) → UnderFound before (λ t. tx_in t doubt) x y → R x y) → AllLater R (items_in done_start)
  two_found R h = subst (AllLater R) (sym (items_alone (found_items shard before))) (later_mono _ _ h (found_items shard before) under_start)

  sound_start : Sound done_start (past_of shard before) (state_with (opened shard run []) 0 Now doubt (with_ghosts doubt (standing Now) (records_of (fold_updates (is_winner shard Now) Now []))) (restored_locks doubt (standing Now) []))
  unfolding state_with
  sound_start = record {
    kept = record {
      start = record { start_rises = fold_rises (committed_somewhere (before ∷ [])) before [] tt; base_value = start_value; base_chain = chain_kept (base_of before) (committed_in before) (standing before) order.writes.lie order.writes.chain };
      past = record {
        acts = acts_alone (stands (before ∷ [])) (found_items shard before) runs_start;
        alive = all_found _ (λ x i. refl);
        order = two_found _ (λ x y u c. ⊎_elim (λ s. inl s) (λ l. inr (listed_place y.tx x.tx l.2 l.1 l.0)) (u c.0 c.1 c.2 c.4));
        between = between_alone [] (found_items shard before);
        rising = later_alone Rise (found_items shard before) (found_rise (λ t. tx_in t doubt) (standing before));
      };
      log = record { standing_is = standing_start; tidy = re.found.tidy };
      records = record { rises = rises_remade shard before Now re; values = λ q. values_remade shard before Now re q ∙ ap (λ base. top_value base q (standing Now)) re.found.begins };
      locks = record {
        rows = rows_restored doubt (standing Now) [] tt;
        covered = subst (AllByRecursion _) (sym (items_alone (found_items shard before))) (all_mono _ _ (λ x i a. absurd (no_active x.tx a)) (found_items shard before) items_doubted);
        wrote = wrote_remade shard before Now re;
      };
      parts = record {
        known = all_found _ (λ x i. inr (doubt_asked x.tx i, λ a. no_active x.tx a));
        alone = two_found _ (λ x y u c. inr (λ a. no_active x.tx a));
        closed = λ t e. doubt_asked t (restored_stage doubt t Closed e).1;
        successors = λ t p e. ap is_present (restored_closed doubt t (pair_of Now doubt t p e));
      };
      fates = record {
        uncommitted = λ t e. absurd (no_active t e);
        dead = λ t e. let d = winner_unaborted shard before Now t order_now re.found e in (
          re.found.commits t ∙ or_false_left (committed_in before t) (tx_in t doubt) d,
          (λ a. no_active t a),
          (λ a. both_ways _ (or_false_right (committed_in before t) (tx_in t doubt) d) (restored_stage doubt t Closed a).1),
        );
        doomed = λ t d e. absurd (gone_closed (Some d) (restored_stage doubt t (Gone (Some d)) e).0);
        prepared = record {
          unprepared = λ t a. absurd (no_active t a);
          sealed = re.found.sealed;
          causes = met_alone _ (found_items shard before) (later_mono _ _ (λ x y u r. ⊎_elim (λ s. inl s) (λ l. inr (λ e. inl (listed_now y.tx x.tx l.2 l.0))) (reached x y u r)) (found_items shard before) under_start);
          recover = λ t p e q. let m = met_doubt t p e in inl (listed_now t p m.0 m.2);
        };
      };
      ends = record {
        left = all_found _ (λ x i. inl (ap is_present (restored_closed doubt x.tx i)));
        over = λ t e. absurd (both_ways false refl e);
        recover = λ t p e. let m = met_doubt t p e in inr (inr (inl (listed_pair t p m.0 m.1 m.2)), listed_place t p m.0 m.1 m.2);
      };
      pairs = record {
        downwards = λ t p e c. absurd (both_ways _ (doubt_open t (pair_of Now doubt t p e)) c);
        causes = met_alone _ (found_items shard before) (later_mono _ _ (λ x y u r. ⊎_elim (λ s. inl s) (λ l. inr (inr (inl (listed_pair y.tx x.tx l.2 l.1 l.0)))) (reached x y u r)) (found_items shard before) under_start);
      };
      durable = record { base_done = base_done (standing before); front = λ n e. absurd (none-some n e); floor_done = λ n l. ap base_of (take_all n Now l) ∙ re.found.begins; part_done = whole_part shard Now renewed_start.in_order };
    };
    answers = record { told = λ t. inr refl; within = part_same done_start };
    requests = record { undecided = λ t q e u. absurd ((subst IsCommitted e (restored_committed (unended_in Now Now) t)).0 u); readers = λ t q e u. absurd ((subst IsCommitted e (restored_committed (unended_in Now Now) t)).1 u); unfallen = λ t q e u here. refl };
    voters = record {
      apart = λ t v e. requests_none (unended_in Now Now) t (unended_none Now Now t (doubt_open t (voter_is Now doubt t v e).0));
      unvoted = λ t v e w. doubt_open t (voter_is Now doubt t v e).0;
      read = λ t v e f. absurd (no_read v (voter_is Now doubt t v e).1 f);
    };
    asked = λ t e. inr (old_run t (sym (re.found.commits t) ∙ e));
    falls = falls_start;
    order = order_start;
  }

  pub sound_opened : Sound done_start (past_of shard before) (opened shard run before)
  unfolding state_with
  sound_opened = subst (λ d. Sound done_start (past_of shard before) (state_with (opened shard run []) 0 Now d (with_ghosts d (standing Now) (records_of (fold_updates (is_winner shard Now) Now []))) (restored_locks d (standing Now) []))) (sym re.found.doubts) sound_start

-- and nobody fell
pub opened_undoomed : (shard run : ℕ) (before : List LogRecord) (u : TxId) → is_doomed (stage_of (opened shard run before).local u) ≡ true → ⊥
opened_undoomed shard run before u d = let txs = in_doubt shard (log_after_restart shard before run 0) in
    ⊎_elim (λ i. both_ways false refl (sym (ap is_doomed (restored_closed (in_doubt shard (log_after_restart shard before run 0)) u i)) ∙ d)) (λ n. both_ways false refl (sym (ap is_doomed (restored_none (in_doubt shard (log_after_restart shard before run 0)) u n)) ∙ d))
    (cases_Bool (tx_in u (in_doubt shard (log_after_restart shard before run 0))))
