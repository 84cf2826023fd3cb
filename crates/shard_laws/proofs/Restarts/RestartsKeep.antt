-- A restart keeps what a shard keeps: of the past what the log that was found commits or leaves in doubt, and what was told.
use Rattle.std.proofs.Common.{◌≡◌, ℕ, ◌+◌, ◌≤◌, ◌<◌, ◌⊎◌, inl, inr, ⊎_elim, Bool, true, false, cond, ◌&&◌, ◌||◌, List, [], ◌∷◌, ◌++◌, length, Option, Some, None, unwrap_or, refl, sym, ap, subst, ◌∙◌, arith, map, not}
use Rattle.std.specs.Prelude.{take, drop}
use Rattle.std.specs.List.{AllByRecursion, filter}
use Rattle.std.proofs.lemmas.Bool.{cases_Bool, both_ways, cond_both, or_cases, and_from, or_from, false_from_ne_true, not-true, and_parts, cond-false}
use Rattle.std.proofs.lemmas.List.{take-append-drop, take_all}
use Rattle.std.proofs.lemmas.List.Folds.{list_any-append}
use Rattle.std.proofs.lemmas.Option.{none-some}
use Rattle.clv_base.specs.declared.names.TxId.{TxId}
use Rattle.clv_base.specs.declared.causes.Vote.{Vote}
use Rattle.clv_base.specs.declared.causes.Vote.TheVariants.{Read}
use Rattle.clv_base.specs.declared.logs.LogRecord.{LogRecord}
use Rattle.clv_base.specs.declared.logs.LogRecord.TheVariants.{Update, Add}
use Rattle.clv_base.specs.declared.state.Stage.{Stage}
use Rattle.clv_base.specs.declared.state.Stage.TheVariants.{Active, Closed, Gone}
use Rattle.clv_base.specs.declared.state.Request.{Request}
use Rattle.clv_base.specs.declared.state.RequestState.TheVariants.{Undecided, Finished}
use Rattle.clv_base.specs.declared.state.Voter.{Voter}
use Rattle.clv_base.specs.Orders.{Table, tx_same, tx_in, tx_get}
use Rattle.clv_base.specs.Logs.{StandingUpdate, standing, committed_in, prepared_in, aborted_in, wrote_in, has_standing, is_update_of, is_commit_of, in_doubt, is_winner, fold_updates, is_abort_of, base_of}
use Rattle.clv_base.specs.Locks.{Locks}
use Rattle.clv_base.specs.State.{Shard, is_present}
use Rattle.clv_base.specs.Undo.{stage_of}
use Rattle.clv_base.specs.Needs.{Records}
use Rattle.clv_base.specs.Participant.{restored_voters}
use Rattle.clv_base.specs.Coordinator.{restored_request, restored_requests}
use Rattle.clv_base.specs.Restarts.{records_of, with_ghosts, restored_locks, restored_parts, homes_of, restored_pairs, unended_in, greatest_run, log_left, revived, Restarts}
use Rattle.clv_base.proofs.SameNames.{or_left, or_right, tx_true}
use Rattle.law_base.proofs.InOrder.{all_take}
use Rattle.law_base.proofs.Parts.{in_order_comes, in_order_take, whole_part}
use Rattle.law_base.specs.Items.{Item, Deed, held, Acts, AllLater, pile}
use Rattle.law_base.proofs.Lists.{all_mono, all_both, all_of, all_filter, later_mono, later_filter}
use Rattle.law_base.proofs.Running.{Keeps, top_value}
use Rattle.law_base.proofs.Standing.{standing_append, all_stand, of_writer}
use Rattle.law_base.proofs.Tables.{stage_in}
use Rattle.law_base.proofs.Commits.{commit_durable, committed_append, place_there, before_second}
use Rattle.law_base.proofs.Sets.{filter_in, in_filter}
use Rattle.law_base.proofs.Stages.{present_is}
use Rattle.protocol_laws.specs.Order.{moves, Open_at, Tidy, Undoable, Unprepared, Sealed, undone_in}
use Rattle.protocol_laws.proofs.LogsInOrder.UndoBeforeClosing.{undoable_later, undone_later}
use Rattle.shard_laws.specs.OneShard.{doer, deeds_of, deeds_by_chosen, items_in, is_member, is_doomed, left_out}
use Rattle.shard_laws.proofs.Operations.WritesAtEachKey.{SameAtKeys, keys_by, keys_filter, keys_all}
use Rattle.shard_laws.proofs.Keeping.WhatOneShardKeeps.{View, view_of, Past, Dep, Known, Left, Cause, IsAlone, is_alive, place}
use Rattle.shard_laws.proofs.Keeping.DeedsThatHold.{AllMet, held_chosen, between_chosen, met_chosen, met_mono, met_both, items_later_chosen, acts_chosen}
use Rattle.shard_laws.proofs.Keeping.ChangesKeepPrepared.{IsListed, Lists, Listing, prepared_append, sealed_later, listed_keeps}
use Rattle.shard_laws.proofs.Keeping.LeavingKeeps.{none_two, in_first, in_more}
use Rattle.shard_laws.proofs.Events.DueKeeps.{part_filter, Sound, committed_not, committed_unfinished}
use Rattle.shard_laws.proofs.Cuts.WhatCutsHold.{cut_keeps, durable_cut, of_kept, tidy_later}
use Rattle.shard_laws.proofs.Cuts.MembersRunSerially.{Once}
use Rattle.shard_laws.proofs.Cuts.MembersOfCutsReplay.{own_chosen, dep_cut, item_asked, cut_base, pile_keep, filter_all_kept, filter_alike, filter_and}
use Rattle.shard_laws.proofs.Cuts.WhoIsInDoubt.{Doubted, doubted, prepared_cut, listed_cut, listed_wins}
use Rattle.shard_laws.proofs.Restarts.RestoredLocksAndParts.{restored_closed, restored_stage, restored_none, rows_restored}
use Rattle.shard_laws.proofs.Order.RecordByRecord.{greatest_front}
use Rattle.shard_laws.proofs.Order.WhoIsListed.{named_cut, old_cut}
use Rattle.shard_laws.proofs.Order.StepsKeepOrder.{KeepsOrder}
use Rattle.shard_laws.proofs.Restarts.RestartsKeepOrder.{found_self, Renewed, Fine, renewed_by, ordered_restored, lying_restored, rulings_restored}
use Rattle.shard_laws.proofs.Keeping.FallenAndLost.{Fell, Falls, take_further}
use Rattle.shard_laws.proofs.Order.WritesLieOnListed.{order_of}
use Rattle.protocol_laws.proofs.LogsInOrder.{Order, all_in_order}
use Rattle.shard_laws.proofs.Restarts.UnrestoredFell.{all_durable, falls_restarted, stage_name}
use Rattle.shard_laws.proofs.Restarts.RestoredRequestsAndPairs.{requests_none, unended_none, voter_is, pair_there, pair_of}
use Rattle.shard_laws.proofs.Restarts.WinnersKeepTheirWrites.{Found, unmoved_from, Restarted, winner_unaborted, of_restarts}
use Rattle.shard_laws.proofs.Restarts.RecordsAfterRestart.{view_remade, committed_remade, values_remade, rises_remade, all_won, wrote_remade}
use Rattle.clv_base.specs.LogRules.{listed_in, part_of}
use Rattle.clv_base.proofs.Folding.{or_left as or_false_left, or_right as or_false_right}

-- ---- a cut of the log

cut_false : (c : ℕ) (log : List LogRecord) (t : TxId) → committed_in log t ≡ false → committed_in (take c log) t ≡ false
cut_false c log t e = false_from_ne_true _ (λ h. both_ways _ e (cut_keeps c log t h))

-- ---- the requests of a restarted shard are committed

abbrev pub IsCommitted : Option Request → Type 0
IsCommitted None = Unit {0}
IsCommitted (Some q) = (q.state ≡ Undecided → ⊥) × (q.state ≡ Finished → ⊥)

pub restored_committed : (rs : Table (List ℕ)) (t : TxId) → IsCommitted (tx_get t (restored_requests rs))
restored_committed [] t = tt
restored_committed (r ∷ rs) t = at (tx_same t r.0) (restored_committed rs t)
  where
    at : (b : Bool) → IsCommitted (tx_get t (restored_requests rs)) → IsCommitted (cond b (Some (restored_request r.1)) (tx_get t (restored_requests rs)))
    at true ih = (committed_not r.1, committed_unfinished r.1)
    at false ih = ih

-- ---- all of it

-- the state after a restart, with what is in doubt, its records and its locks given
unfoldable pub state_with : Shard → ℕ → List LogRecord → List TxId → Records → Locks → Shard
state_with s epoch log doubt rs ls = record {
  shard = s.shard;
  run = s.run;
  is_up = true;
  local = record { records = rs; locks = ls; parts = restored_parts doubt; pairs = restored_pairs log doubt; log = log; epoch = epoch };
  voters = restored_voters (homes_of log doubt);
  requests = restored_requests (unended_in log log);
  durable = length log;
  flight = None;
  outbox = [];
  last = s.last;
  journal = s.journal;
}

-- ---- the cut

pub tidy_closed : (before rs : List LogRecord) (t : TxId) → Tidy before rs → committed_in before t ≡ true → wrote_in rs t ≡ true → ⊥
tidy_closed before [] t d c w = both_ways false refl w
tidy_closed before (r ∷ rs) t d c w = ⊎_elim (λ h. one r d.0 h) (λ h. tidy_closed (before ++ r ∷ []) rs t d.1 (committed_append before (r ∷ []) t ∙ or_left _ _ c) h) (or_cases (is_update_of t r) (wrote_in rs t) w)
  where
    one : (r : LogRecord) → Open_at before (moves r) → is_update_of t r ≡ true → ⊥
    one (Update tx k b a) o e = both_ways _ (subst (λ z. committed_in before z ≡ false) (sym (tx_true t tx e)) o) c
    one (Add tx k by) o e = both_ways _ (subst (λ z. committed_in before z ≡ false) (sym (tx_true t tx e)) o) c
    one _ o e = both_ways false refl e

pub sealed_closed : (before rs : List LogRecord) (t : TxId) → Sealed before rs → prepared_in before t ≡ true → wrote_in rs t ≡ true → ⊥
sealed_closed before [] t d c w = both_ways false refl w
sealed_closed before (r ∷ rs) t d c w = ⊎_elim (λ h. one r d.0 h) (λ h. sealed_closed (before ++ r ∷ []) rs t d.1 (prepared_append before (r ∷ []) t ∙ or_left _ _ c) h) (or_cases (is_update_of t r) (wrote_in rs t) w)
  where
    one : (r : LogRecord) → Unprepared before r → is_update_of t r ≡ true → ⊥
    one (Update tx k b a) o e = both_ways _ (subst (λ z. prepared_in before z ≡ false) (sym (tx_true t tx e)) o) c
    one (Add tx k by) o e = both_ways _ (subst (λ z. prepared_in before z ≡ false) (sym (tx_true t tx e)) o) c
    one _ o e = both_ways false refl e

later_of : {I : Type 0} (R : I → I → Type 0) → ((x y : I) → R x y) → (xs : List I) → AllLater R xs
later_of R h [] = tt
later_of R h (x ∷ xs) = (all_of _ (h x) xs, later_of R h xs)

-- between the steps those that an abort took away have fallen
abbrev pub Bounded : Past → Shard → Type 0
Bounded g s = (t : TxId) → is_doomed (stage_of s.local t) ≡ true → tx_in t g.fell ≡ true

-- the cut is in order
pub fine_cut : (all : List Deed) (g : Past) (s : Shard) (c : ℕ) → Sound all g s → s.durable ≤ c → Fine s (take c s.local.log)
fine_cut all g s c h le =
    let o = h.order.ordered in
    let d = h.kept.part_done in
    ((in_order_take s.shard c s.local.log (omega (arith, d, le)) o.in_order).0, greatest_front (take c s.local.log) (drop c s.local.log) s.run (subst (λ l. greatest_run l ≤ s.run) (sym (take-append-drop c s.local.log)) o.latest), named_cut s.shard s.run c s.local.log o.in_order o.named, old_cut s.shard s.run c s.local.log (omega (arith, d, le)) o.in_order o.old)

module _ (all : List Deed) (g : Past) (s : Shard) (c : ℕ) (h : Sound all g s) where
  pub cut_order : Order s.shard (take c s.local.log)
  cut_order = all_in_order s.shard (part_of s.local.log) (take c s.local.log) (all_take s.shard c (part_of s.local.log) s.local.log (in_order_comes s.shard s.local.log h.order.ordered.in_order))

  pub doubt_of : (t : TxId) → tx_in t (in_doubt s.shard (take c s.local.log)) ≡ true → Doubted (take c s.local.log) (in_doubt s.shard (take c s.local.log)) t
  doubt_of t i = doubted s.shard (take c s.local.log) t cut_order.sealed i

  pub doubt_closed : (t : TxId) → tx_in t (in_doubt s.shard (take c s.local.log)) ≡ true → is_present (stage_of s.local t) ≡ true → stage_of s.local t ≡ Some Closed
  doubt_closed t i here = ⊎_elim (λ a. absurd (both_ways _ (h.kept.prepared.unprepared t a) (prepared_cut c s.local.log t (doubt_of t i).prepared))) (λ e. e) (present_is (stage_of s.local t) here)

  -- who is in doubt in the cut and not here fell
  pub doubt_gone : s.durable ≤ c → (t : TxId) → tx_in t (in_doubt s.shard (take c s.local.log)) ≡ true → is_present (stage_of s.local t) ≡ false → Fell g.fell s.local.parts t
  doubt_gone le t i n =
      let d = doubt_of t i in
      let p = prepared_cut c s.local.log t d.prepared in
      let open_ : committed_in s.local.log t ≡ false = false_from_ne_true _ (λ k. both_ways _ d.open_ (durable_cut s.durable c s.local.log t le (h.falls.settled t k n))) in
      ⊎_elim (λ e. e) (λ a. absurd (both_ways _ d.unaborted (take_further (is_abort_of t) s.durable c s.local.log le a))) (h.falls.gone t p open_ n)

  pub doubt_here : s.durable ≤ c → (t : TxId) → tx_in t (in_doubt s.shard (take c s.local.log)) ≡ true → (Fell g.fell s.local.parts t → ⊥) → is_present (stage_of s.local t) ≡ true
  doubt_here le t i n = at (is_present (stage_of s.local t)) refl
    where
      at : (b : Bool) → is_present (stage_of s.local t) ≡ b → b ≡ true
      at true e = refl
      at false e = absurd (n (doubt_gone le t i e))

  pub doubt_alive : s.durable ≤ c → (t : TxId) → tx_in t (in_doubt s.shard (take c s.local.log)) ≡ true → tx_in t g.lost ≡ false → is_present (stage_of s.local t) ≡ true
  doubt_alive le t i n = doubt_here le t i (λ e. both_ways _ n (h.falls.fallen t e))

  pub found_cut : Found s.shard (take c s.local.log) (take c s.local.log)
  found_cut = found_self s.shard (take c s.local.log) cut_order

module _ (all : List Deed) (g : Past) (s : Shard) (c epoch : ℕ) (log : List LogRecord) (h : Sound all g s) (le : s.durable ≤ c) (once : Once g.asked) (bounded : Bounded g s) (re : Restarted s.shard (take c s.local.log) log) (new : Renewed s.shard s.run log) where
  abbrev stays : TxId → Bool
  stays t = is_winner s.shard (take c s.local.log) t || tx_in t g.over

  abbrev doubt : List TxId
  doubt = in_doubt s.shard (take c s.local.log)

  found : Found s.shard (take c s.local.log) log
  found = re.found

  doubt_open : (t : TxId) → tx_in t doubt ≡ true → committed_in log t ≡ false
  doubt_open t i = found.commits t ∙ (doubt_of all g s c h t i).open_

  -- who was told and left is not in doubt: else it fell
  not_doubt : (t : TxId) → tx_in t g.over ≡ true → is_present (stage_of s.local t) ≡ false → tx_in t doubt ≡ false
  not_doubt t o n = false_from_ne_true _ (λ i. both_ways _ (h.falls.unfinished t (h.falls.fallen t (doubt_gone all g s c h le t i n))) o)

  after_stage : (t : TxId) → stage_of (revived s epoch log).local t ≡ stage_in (restored_parts doubt) t
  after_stage t = ap (λ d. stage_in (restored_parts d) t) found.doubts

  outs : (t : TxId) → tx_in t (left_out s (revived s epoch log)) ≡ true → (is_present (stage_of s.local t) ≡ true) × (tx_in t doubt ≡ false) × (committed_in log t ≡ false)
  outs t i =
      let f = (in_filter (λ u. is_present (stage_of s.local u) && not (is_present (stage_of (revived s epoch log).local u)) && not (committed_in log u)) t (map (λ p. p.0) s.local.parts) i).1 in
      let a = and_parts (is_present (stage_of s.local t) && not (is_present (stage_of (revived s epoch log).local t))) (not (committed_in log t)) f in
      let q = and_parts (is_present (stage_of s.local t)) (not (is_present (stage_of (revived s epoch log).local t))) a.0 in
      (q.0, false_from_ne_true _ (λ d. both_ways _ (not-true _ q.1) (ap is_present (after_stage t ∙ restored_closed doubt t d))), not-true _ a.1)

  all_outs : (t : TxId) → is_present (stage_of s.local t) ≡ true → tx_in t doubt ≡ false → committed_in log t ≡ false → tx_in t (left_out s (revived s epoch log)) ≡ true
  all_outs t here n k = filter_in (λ u. is_present (stage_of s.local u) && not (is_present (stage_of (revived s epoch log).local u)) && not (committed_in log u)) t (map (λ p. p.0) s.local.parts) (named (stage_of s.local t) refl here)
      (and_from _ _ (and_from _ _ here (ap not (ap is_present (after_stage t ∙ restored_none doubt t n)))) (ap not k))
    where
      named : (o : Option Stage) → stage_of s.local t ≡ o → is_present o ≡ true → tx_in t (map (λ p. p.0) s.local.parts) ≡ true
      named None f p = absurd (both_ways false refl p)
      named (Some st) f p = stage_name t s.local.parts st f

  absent_now : (t : TxId) → tx_in t doubt ≡ false → is_present (stage_in (restored_parts doubt) t) ≡ false
  absent_now t i = ap is_present (restored_none doubt t i)

  -- who was told, and of whom a write stands, is committed in the cut
  over_wins : (t : TxId) → has_standing s.local.log t ≡ true → tx_in t g.over ≡ true → is_winner s.shard (take c s.local.log) t ≡ true
  over_wins t w o = or_left _ _ (⊎_elim (λ d. durable_cut s.durable c s.local.log t le d) (λ r. absurd (both_ways _ r.1 w)) (h.kept.over t o))

  or_nothing : (a : Bool) → (a || false) ≡ a
  or_nothing true = refl
  or_nothing false = refl

  alike : (t : TxId) → has_standing s.local.log t ≡ true → (is_winner s.shard (take c s.local.log) t || tx_in t g.over) ≡ is_winner s.shard (take c s.local.log) t
  alike t w = ⊎_elim (λ f. let k = over_wins t w f in or_left _ _ k ∙ sym k) (λ f. ap (λ b. is_winner s.shard (take c s.local.log) t || b) f ∙ or_nothing _) (cases_Bool (tx_in t g.over))

  base_wins : AllByRecursion (λ w. is_winner s.shard (take c s.local.log) w.tx ≡ true) g.base
  base_wins = all_mono _ _ (λ w e. or_left _ _ e) g.base (cut_base all g s g.over c h le once (λ t i. i))

  kept_of : (P : StandingUpdate → Type 0) (f : TxId → Bool) (ws : List StandingUpdate) → AllByRecursion P ws → AllByRecursion P (filter (of_kept f) ws)
  kept_of P f [] a = tt
  kept_of P f (w ∷ ws) a = cond_both (f w.tx) (w ∷ filter (of_kept f) ws) (filter (of_kept f) ws) (AllByRecursion P) (λ e. (a.0, kept_of P f ws a.1)) (λ e. kept_of P f ws a.1)

  writers_now : AllByRecursion (λ w. (is_winner s.shard (take c s.local.log) w.tx || tx_in w.tx g.over) ≡ is_winner s.shard (take c s.local.log) w.tx) (pile (held g.done) g.base)
  writers_now = keys_all (λ w. (is_winner s.shard (take c s.local.log) w.tx || tx_in w.tx g.over) ≡ is_winner s.shard (take c s.local.log) w.tx) (filter (of_kept (is_alive g.lost)) (standing s.local.log)) (pile (held g.done) g.base) h.kept.standing_is
      (kept_of _ (is_alive g.lost) (standing s.local.log) (all_mono _ _ (λ w st. alike w.tx st) (standing s.local.log) (all_stand s.local.log)))

  -- what comes behind the cut moves no write of a winner that is not lost
  standing_rest : filter (of_kept (λ t. is_winner s.shard (take c s.local.log) t && is_alive g.lost t)) (standing s.local.log) ≡ filter (of_kept (λ t. is_winner s.shard (take c s.local.log) t && is_alive g.lost t)) (standing (take c s.local.log))
  standing_rest =
      let whole : take c s.local.log ++ drop c s.local.log ≡ s.local.log = take-append-drop c s.local.log in
      ap (λ l. filter (of_kept (λ t. is_winner s.shard (take c s.local.log) t && is_alive g.lost t)) (standing l)) (sym whole)
      ∙ ap (filter (of_kept (λ t. is_winner s.shard (take c s.local.log) t && is_alive g.lost t))) (standing_append 0 (take c s.local.log) (drop c s.local.log) [])
      ∙ unmoved_from (λ t. is_winner s.shard (take c s.local.log) t && is_alive g.lost t) (0 + length (take c s.local.log)) (drop c s.local.log) (standing (take c s.local.log))
      (λ t w. false_from_ne_true _ (λ k. ⊎_elim (λ e. tidy_closed (take c s.local.log) (drop c s.local.log) t (tidy_later [] (take c s.local.log) (drop c s.local.log) (subst (Tidy []) (sym whole) h.kept.tidy)) e w)
      (λ i. sealed_closed (take c s.local.log) (drop c s.local.log) t (sealed_later [] (take c s.local.log) (drop c s.local.log) (subst (Sealed []) (sym whole) h.kept.prepared.sealed)) (doubt_of all g s c h t i).prepared w)
      (or_cases (committed_in (take c s.local.log) t) (tx_in t doubt) (and_parts (is_winner s.shard (take c s.local.log) t) (is_alive g.lost t) k).0)))
      (λ t u. false_from_ne_true _ (λ k. sound_alive t k u))
    where
      -- a winner is closed in the cut, so what is undone behind it was aborted
      closed : (t : TxId) → is_winner s.shard (take c s.local.log) t ≡ true → (prepared_in (take c s.local.log) t || committed_in (take c s.local.log) t) ≡ true
      closed t w = ⊎_elim (λ e. or_right (prepared_in (take c s.local.log) t) _ e) (λ i. or_left _ _ (doubt_of all g s c h t i).prepared) (or_cases (committed_in (take c s.local.log) t) (tx_in t doubt) w)

      sound_alive : (t : TxId) → (is_winner s.shard (take c s.local.log) t && is_alive g.lost t) ≡ true → undone_in (drop c s.local.log) t ≡ true → ⊥
      sound_alive t k u =
          let whole : take c s.local.log ++ drop c s.local.log ≡ s.local.log = take-append-drop c s.local.log in
          let p = and_parts (is_winner s.shard (take c s.local.log) t) (is_alive g.lost t) k in
          let a = undone_later (take c s.local.log) (drop c s.local.log) t (undoable_later [] (take c s.local.log) (drop c s.local.log) (subst (Undoable []) (sym whole) (order_of s.shard s.local.log h.order.ordered.in_order).undoable)) u (closed t p.0) in
          let d = h.kept.dead t (subst (λ l. aborted_in l t ≡ true) whole a) in
          ⊎_elim (λ e. both_ways _ d.0 (cut_keeps c s.local.log t e)) (λ i. d.2 (doubt_closed all g s c h t i (doubt_alive all g s c h le t i (not-true _ p.1)))) (or_cases (committed_in (take c s.local.log) t) (tx_in t doubt) p.0)

  -- winners are not left out
  winner_in : (t : TxId) → is_winner s.shard (take c s.local.log) t ≡ true → tx_in t (left_out s (revived s epoch log)) ≡ false
  winner_in t w = false_from_ne_true _ (λ i. let q = outs t i in ⊎_elim (λ k. both_ways _ q.2 (found.commits t ∙ k)) (λ d. both_ways _ q.1 d) (or_cases (committed_in (take c s.local.log) t) (tx_in t doubt) w))

  same_alive : (t : TxId) → is_winner s.shard (take c s.local.log) t ≡ true → is_alive (left_out s (revived s epoch log) ++ g.lost) t ≡ is_alive g.lost t
  same_alive t w = ap not (list_any-append (λ x. tx_same x t) (left_out s (revived s epoch log)) g.lost ∙ ap (λ z. z || tx_in t g.lost) (winner_in t w))

  and_swap : (a b : Bool) → (a && b) ≡ (b && a)
  and_swap true true = refl
  and_swap true false = refl
  and_swap false true = refl
  and_swap false false = refl

  every_swap : (ws : List StandingUpdate) → AllByRecursion (λ w. (is_winner s.shard (take c s.local.log) w.tx && is_alive g.lost w.tx) ≡ (is_alive g.lost w.tx && is_winner s.shard (take c s.local.log) w.tx)) ws
  every_swap [] = tt
  every_swap (w ∷ ws) = (and_swap (is_winner s.shard (take c s.local.log) w.tx) (is_alive g.lost w.tx), every_swap ws)

  standing_now : SameAtKeys (filter (of_kept (is_alive (left_out s (revived s epoch log) ++ g.lost))) (standing log)) (pile (held (deeds_by_chosen stays g.done)) g.base)
  standing_now =
      keys_by
      (ap (filter (of_kept (is_alive (left_out s (revived s epoch log) ++ g.lost)))) re.only_kept
      ∙ filter_and (is_alive g.lost) (is_alive (left_out s (revived s epoch log) ++ g.lost)) (λ t. is_winner s.shard (take c s.local.log) t) (standing (take c s.local.log)) same_alive
      ∙ sym standing_rest
      ∙ filter_alike (λ t. is_winner s.shard (take c s.local.log) t && is_alive g.lost t) (λ t. is_alive g.lost t && is_winner s.shard (take c s.local.log) t) (standing s.local.log) (every_swap (standing s.local.log))
      ∙ sym (filter_and (λ t. is_winner s.shard (take c s.local.log) t) (λ t. is_winner s.shard (take c s.local.log) t) (is_alive g.lost) (standing s.local.log) (λ t e. refl)))
      (keys_filter (of_kept (λ t. is_winner s.shard (take c s.local.log) t)) (filter (of_kept (is_alive g.lost)) (standing s.local.log)) (pile (held g.done) g.base) h.kept.standing_is)
      (sym (filter_alike (λ t. is_winner s.shard (take c s.local.log) t || tx_in t g.over) (λ t. is_winner s.shard (take c s.local.log) t) (pile (held g.done) g.base) writers_now)
      ∙ pile_keep (λ t. is_winner s.shard (take c s.local.log) t || tx_in t g.over) (held g.done) g.base
      ∙ ap (λ xs. pile xs (filter (of_kept (λ t. is_winner s.shard (take c s.local.log) t || tx_in t g.over)) g.base)) (sym (held_chosen stays g.done))
      ∙ ap (pile (held (deeds_by_chosen stays g.done))) (filter_all_kept (λ t. is_winner s.shard (take c s.local.log) t || tx_in t g.over) g.base (all_mono _ _ (λ w e. or_left _ _ e) g.base base_wins)))

  -- ---- whom one that stays met

  lists_now : (t p : TxId) → Lists s.local.log t p → Lists log t p
  lists_now t p l e = let f = sym (found.prepares t) ∙ e in found.lists t p f (listed_cut c s.local.log t p f (l (prepared_cut c s.local.log t f)))

  -- one that stays is a member, or in doubt
  stays_as : (t : TxId) → stays t ≡ true → (is_member s c g.over t ≡ true) ⊎ (tx_in t doubt ≡ true)
  stays_as t e =
      ⊎_elim (λ w. ⊎_elim (λ k. inl (or_left _ _ k)) (λ i. inr i) (or_cases (committed_in (take c s.local.log) t) (tx_in t doubt) w)) (λ o. inl (or_right (committed_in (take c s.local.log) t) _ o))
      (or_cases (is_winner s.shard (take c s.local.log) t) (tx_in t g.over) e)

  dep_stays : (t p : TxId) → Dep (view_of s) t p → Lists s.local.log t p → stays t ≡ true → stays p ≡ true
  dep_stays t p d l e =
      ⊎_elim (λ m. or_left _ _ (or_left _ _ (dep_cut all g s g.over c h le once (λ u i. i) t p d m)))
      (λ i. let q = doubt_of all g s c h t i in or_left _ _ (listed_wins s.shard (take c s.local.log) t p q (listed_cut c s.local.log t p q.prepared (l (prepared_cut c s.local.log t q.prepared)))))
      (stays_as t e)

  abbrev After_view : View
  After_view = view_remade s.shard (take c s.local.log) log

  listed_dep : (t p : TxId) → tx_in t doubt ≡ true → IsListed log t p → Dep After_view t p
  listed_dep t p i (inl l) = ⊎_elim (λ k. inl (all_durable log p k)) (λ k. inr (inl (pair_there log doubt t p i l k))) (cases_Bool (committed_in log p))
  listed_dep t p i (inr (n, m, f, q, l)) = inl (all_durable log p (place_there 0 (is_commit_of p) log n f))

  dep_now : (t p : TxId) → Dep (view_of s) t p → Lists s.local.log t p → stays t ≡ true → Dep After_view t p
  dep_now t p d l e =
      ⊎_elim (λ m. inl (committed_remade s.shard (take c s.local.log) log re p (dep_cut all g s g.over c h le once (λ u i. i) t p d m)))
      (λ i. listed_dep t p i (lists_now t p l (found.prepares t ∙ (doubt_of all g s c h t i).prepared))) (stays_as t e)

  abbrev Both : Item → Item → Type 0
  Both x y = Cause s.local.pairs s.local.log s.durable x y × Listing s.local.log x y

  keeps_now : (x y : Item) → Both x y → Keeps (λ z. stays z.tx) x y
  keeps_now x y f reach k =
      ⊎_elim (λ same. subst (λ t. stays t ≡ true) (sym same) k)
      (λ d. ⊎_elim (λ same. subst (λ t. stays t ≡ true) (sym same) k) (λ l. dep_stays y.tx x.tx d l k) (f.1 reach)) (f.0 reach)

  both_causes : AllMet Both g.done
  both_causes = met_both _ _ g.done h.kept.causes h.kept.prepared.causes

  abbrev done_now : List Deed
  done_now = deeds_by_chosen stays g.done

  acts_now : Acts g.start done_now
  acts_now = acts_chosen g.start stays g.done h.kept.start_rises h.kept.acts h.kept.between h.kept.rising (met_mono _ _ keeps_now g.done both_causes)

  -- ---- the transactions

  stays_asked : (t : TxId) → Known g (view_of s) t → tx_in t g.lost ≡ false → stays t ≡ true → tx_in t g.asked ≡ true
  stays_asked t known alive e = ⊎_elim (λ m. item_asked all g s g.over c h le once (λ u i. i) t known m) (λ i. h.kept.closed t (doubt_closed all g s c h t i (doubt_alive all g s c h le t i alive))) (stays_as t e)

  own_now : (t : TxId) → stays t ≡ true → deeds_of t g.done ≡ deeds_of t all → deeds_of t done_now ≡ deeds_of t all
  own_now t e told = own_chosen stays t g.done e ∙ told

  -- who does not stay: neither committed nor in doubt in the cut
  gone_facts : (t : TxId) → stays t ≡ false → (committed_in log t ≡ false) × (tx_in t doubt ≡ false) × (tx_in t g.over ≡ false)
  gone_facts t e =
      let w = or_false_left (is_winner s.shard (take c s.local.log) t) (tx_in t g.over) e in
      (found.commits t ∙ or_false_left (committed_in (take c s.local.log) t) (tx_in t doubt) w, or_false_right (committed_in (take c s.local.log) t) (tx_in t doubt) w, or_false_right (is_winner s.shard (take c s.local.log) t) (tx_in t g.over) e)

  -- it is left out if it is here
  here_out : (t : TxId) → stays t ≡ false → is_present (stage_of s.local t) ≡ true → tx_in t (left_out s (revived s epoch log)) ≡ true
  here_out t e here = let q = gone_facts t e in all_outs t here q.1 q.0

  -- and else it did nothing
  not_durable : (t : TxId) → stays t ≡ false → commit_durable s.local.log s.durable t ≡ true → ⊥
  not_durable t e d = both_ways _ (gone_facts t e).0 (found.commits t ∙ durable_cut s.durable c s.local.log t le d)

  none_of_it : (t : TxId) → stays t ≡ false → is_present (stage_of s.local t) ≡ false → (ds : List Deed) → AllByRecursion (λ d. Left g (view_of s) (doer d)) ds → deeds_of t ds ≡ []
  none_of_it t e n [] a = refl
  none_of_it t e n (d ∷ ds) a =
      cond-false (tx_same (doer d) t) (d ∷ deeds_of t ds) (deeds_of t ds) (false_from_ne_true _ (λ q. let same = tx_true (doer d) t q in
      ⊎_elim (λ p. both_ways _ n (ap is_present (ap (stage_of s.local) (sym same)) ∙ p)) (λ m. ⊎_elim (λ o. both_ways _ (gone_facts t e).2 (subst (λ z. tx_in z g.over ≡ true) same o)) (λ k. not_durable t e (subst (λ z. commit_durable s.local.log s.durable z ≡ true) same k)) m) a.0))
      ∙ none_of_it t e n ds a.1

  told_now : (t : TxId) → (tx_in t (left_out s (revived s epoch log) ++ g.lost) ≡ true) ⊎ (deeds_of t done_now ≡ deeds_of t all)
  told_now t = ⊎_elim (λ l. inl (in_more (left_out s (revived s epoch log)) g.lost t l))
      (λ told. ⊎_elim (λ st. inr (own_now t st told))
      (λ st. ⊎_elim (λ here. inl (in_first (left_out s (revived s epoch log)) g.lost t (here_out t st here)))
      (λ n. let none = none_of_it t st n g.done h.kept.left in
      inr (none_of_it t st n done_now (all_mono _ _ (λ d q. q.0) done_now (all_filter _ (λ d. stays (doer d)) g.done h.kept.left)) ∙ sym none ∙ told))
      (cases_Bool (is_present (stage_of s.local t)))) (cases_Bool (stays t))) (h.told t)

  closed_active : Active ≡ Closed → ⊥
  closed_active e = absurd cc

  gone_closed : (d : Option TxId) → Gone d ≡ Closed → ⊥
  gone_closed d e = absurd cc

  no_active : (t : TxId) → stage_in (restored_parts doubt) t ≡ Some Active → ⊥
  no_active t e = closed_active (restored_stage doubt t Active e).0

  no_read : (v : Voter) → v.vote ≡ None → v.vote ≡ Some Read → ⊥
  no_read v e f = none_vote (sym e ∙ f)
    where
      none_vote : ◌≡◌ {A = Option Vote} None (Some Read) → ⊥
      none_vote x = absurd cc

  known_now : AllByRecursion (λ d. (Known g (view_of s) (doer d) × (tx_in (doer d) g.lost ≡ false)) × (stays (doer d) ≡ true)) done_now
  known_now = all_filter _ (λ d. stays (doer d)) g.done (all_both _ _ g.done h.kept.known h.kept.alive)

  causes_now : AllMet (Cause After_view.pairs log (length log)) done_now
  causes_now = met_mono _ _ (λ x y f reach. ⊎_elim (λ same. inl same) (λ d. ⊎_elim (λ same. inl same) (λ l. inr (dep_now y.tx x.tx d l f.2)) (f.0.1 reach)) (f.0.0 reach)) done_now (met_chosen Both stays g.done both_causes)

  finished_now : (t : TxId) → is_present (stage_of s.local t) ≡ true → tx_in t g.over ≡ true → committed_in log t ≡ true
  finished_now t here o = ⊎_elim (λ d. found.commits t ∙ durable_cut s.durable c s.local.log t le d) (λ r. absurd (both_ways _ r.2 here)) (h.kept.over t o)

  -- who stays is not left out
  stays_in : (t : TxId) → stays t ≡ true → tx_in t (left_out s (revived s epoch log)) ≡ false
  stays_in t e = false_from_ne_true _ (λ i. let q = outs t i in
      ⊎_elim (λ w. both_ways _ (winner_in t w) i) (λ o. both_ways _ q.2 (finished_now t q.0 o)) (or_cases (is_winner s.shard (take c s.local.log) t) (tx_in t g.over) e))

  left_now : (t : TxId) → stays t ≡ true → (is_present (stage_in (restored_parts doubt) t) ≡ true) ⊎ ((tx_in t g.over ≡ true) ⊎ (commit_durable log (length log) t ≡ true))
  left_now t e = ⊎_elim (λ w. ⊎_elim (λ k. inr (inr (committed_remade s.shard (take c s.local.log) log re t k))) (λ i. inl (ap is_present (restored_closed doubt t i))) (or_cases (committed_in (take c s.local.log) t) (tx_in t doubt) w)) (λ o. inr (inl o)) (or_cases (is_winner s.shard (take c s.local.log) t) (tx_in t g.over) e)

  recover_now : (t p : TxId) → Dep (view_of s) t p × (place g.asked p < place g.asked t) → Lists s.local.log t p → ((tx_in t (left_out s (revived s epoch log) ++ g.lost) ≡ true) × (stage_in (restored_parts doubt) t ≡ Some Active → ⊥)) ⊎ (Dep After_view t p × (place g.asked p < place g.asked t))
  recover_now t p d l = ⊎_elim (λ st. inr (dep_now t p d.0 l st, d.1))
      (λ st. ⊎_elim (λ here. inl (in_first (left_out s (revived s epoch log)) g.lost t (here_out t st here), λ a. no_active t a))
      (λ n. inr (inl (committed_remade s.shard (take c s.local.log) log re p (⊎_elim (λ k. durable_cut s.durable c s.local.log p le k) (λ m. ⊎_elim (λ e. absurd (both_ways _ n (h.kept.successors t p e))) (λ b. absurd (not_durable t st (h.falls.settled t (before_second s.local.log p t b) n))) m) d.0)), d.1))
      (cases_Bool (is_present (stage_of s.local t)))) (cases_Bool (stays t))

  still_asked : (t : TxId) → prepared_in log t ≡ true → (tx_in t g.asked ≡ true) ⊎ (t.run < s.run)
  still_asked t e = h.order.asks t (prepared_cut c s.local.log t (sym (found.prepares t) ∙ e))

  -- who is prepared and here asked, and so did who is in doubt
  present_asked : (t : TxId) → is_present (stage_of s.local t) ≡ true → prepared_in s.local.log t ≡ true → tx_in t g.asked ≡ true
  present_asked t here p = ⊎_elim (λ a. absurd (both_ways _ (h.kept.prepared.unprepared t a) p)) (λ e. h.kept.closed t e) (present_is (stage_of s.local t) here)

  doubt_asked : (t : TxId) → tx_in t doubt ≡ true → tx_in t g.asked ≡ true
  doubt_asked t i =
      let d = doubt_of all g s c h t i in
      let p = prepared_cut c s.local.log t d.prepared in
      ⊎_elim (λ here. present_asked t here p)
      (λ n. ⊎_elim (λ a. a) (λ a. absurd (both_ways _ d.unaborted (take_further (is_abort_of t) s.durable c s.local.log le a)))
      (h.falls.owns t p (false_from_ne_true _ (λ k. both_ways _ d.open_ (durable_cut s.durable c s.local.log t le (h.falls.settled t k n))))))
      (cases_Bool (is_present (stage_of s.local t)))

  abbrev FallsNow : List TxId → Type 0
  FallsNow d = Falls g.asked (left_out s (revived s epoch log) ++ g.fell) (left_out s (revived s epoch log) ++ g.lost) g.over (restored_parts d) (restored_pairs log d) log (length log)

  falls_now : FallsNow doubt
  falls_now = subst FallsNow found.doubts (falls_restarted s.shard g.asked g.fell g.lost g.over s.local.parts s.local.pairs s.local.log s.durable c log (left_out s (revived s epoch log)) h.falls new.in_order le bounded present_asked h.kept.successors finished_now found.commits found.prepares found.aborts
      (λ t e. let p = sym (found.prepares t) ∙ e in found.listed t p ∙ sym (subst (λ l. listed_in l t ≡ listed_in (take c s.local.log) t) (take-append-drop c s.local.log) (listed_keeps (take c s.local.log) (drop c s.local.log) t p)))
      (λ t i. let q = outs t i in (q.0, ap (tx_in t) found.doubts ∙ q.1, q.2)) (λ t here n k. all_outs t here (ap (tx_in t) (sym found.doubts) ∙ n) k))

  abbrev KeepsNow : List TxId → Type 0
  KeepsNow d = KeepsOrder g.asked s.shard s.run (restored_parts d) (restored_pairs log d) log (restored_requests (unended_in log log))

  order_now : KeepsOrder g.asked s.shard s.run (restored_parts doubt) (restored_pairs log doubt) log (restored_requests (unended_in log log))
  order_now = subst KeepsNow found.doubts (record {
    ordered = ordered_restored s.shard s.run log new;
    lying = lying_restored s.shard s.run log new;
    rulings = rulings_restored s.shard s.run log new;
    asks = still_asked;
  })

  -- of whom neither is committed nor in doubt in the cut, nothing stands
  none_stands : (t : TxId) → committed_in (take c s.local.log) t ≡ false → tx_in t doubt ≡ false → has_standing log t ≡ false
  none_stands t k n = false_from_ne_true _ (λ e. both_ways _ (or_from _ _ k n) (of_writer (λ u. is_winner s.shard (take c s.local.log) u ≡ true) (standing log) t (all_won s.shard (take c s.local.log) log re) e))

  order_of_it : Order s.shard log
  order_of_it = order_of s.shard log new.in_order

  sound_now : Sound all (record g { done = done_now; fell = left_out s (revived s epoch log) ++ g.fell; lost = left_out s (revived s epoch log) ++ g.lost }) (state_with s epoch log doubt (with_ghosts doubt (standing log) (records_of (fold_updates (is_winner s.shard log) log []))) (restored_locks doubt (standing log) []))
  unfolding state_with
  sound_now = record {
    kept = record {
      start = h.kept.start;
      past = record {
        acts = acts_now;
        alive = all_mono _ _ (λ d f. none_two (left_out s (revived s epoch log)) g.lost (doer d) (stays_in (doer d) f.1) f.0.1) done_now known_now;
        order = later_mono _ _ (λ x y f clash. f.0 clash) (items_in done_now) (items_later_chosen _ stays g.done h.kept.order);
        between = between_chosen stays g.done h.kept.between;
        rising = later_mono _ _ (λ d e f. f.0) done_now (later_filter _ (λ d. stays (doer d)) g.done h.kept.rising);
      };
      log = record { standing_is = standing_now; tidy = found.tidy };
      records = record { rises = rises_remade s.shard (take c s.local.log) log re; values = λ q. values_remade s.shard (take c s.local.log) log re q ∙ ap (λ base. top_value base q (standing log)) (found.begins ∙ h.kept.floor_done c le) };
      locks = record { rows = rows_restored doubt (standing log) [] tt; covered = all_of _ (λ x a. absurd (no_active x.tx a)) (items_in done_now); wrote = wrote_remade s.shard (take c s.local.log) log re };
      parts = record {
        known = all_mono _ _ (λ d f. inr (stays_asked (doer d) f.0.0 f.0.1 f.1, λ a. no_active (doer d) a)) done_now known_now;
        alone = later_of (IsAlone (restored_parts doubt)) (λ x y clash. inr (λ a. no_active x.tx a)) (items_in done_now);
        closed = λ t e. doubt_asked t (restored_stage doubt t Closed e).1;
        successors = λ t p e. ap is_present (restored_closed doubt t (pair_of log doubt t p e));
      };
      fates = record {
        uncommitted = λ t e. absurd (no_active t e);
        dead = λ t e. let d = winner_unaborted s.shard (take c s.local.log) log t order_of_it found e in (
          found.commits t ∙ or_false_left (committed_in (take c s.local.log) t) (tx_in t doubt) d,
          (λ a. no_active t a),
          (λ a. both_ways _ (or_false_right (committed_in (take c s.local.log) t) (tx_in t doubt) d) (restored_stage doubt t Closed a).1),
        );
        doomed = λ t d e. absurd (gone_closed (Some d) (restored_stage doubt t (Gone (Some d)) e).0);
        prepared = record {
          unprepared = λ t a. absurd (no_active t a);
          sealed = found.sealed;
          causes = met_mono _ _ (λ x y f reach. ⊎_elim (λ same. inl same) (λ l. inr (lists_now y.tx x.tx l)) (f.0.1 reach)) done_now (met_chosen Both stays g.done both_causes);
          recover = λ t p e. lists_now t p (h.kept.prepared.recover t p e);
        };
      };
      ends = record {
        left = all_mono _ _ (λ d f. left_now (doer d) f.1) done_now known_now;
        over = λ t i. ⊎_elim (λ d. inl (committed_remade s.shard (take c s.local.log) log re t (durable_cut s.durable c s.local.log t le d)))
            (λ r. let n = not_doubt t i r.2 in inr (found.commits t ∙ cut_false c s.local.log t r.0, none_stands t (cut_false c s.local.log t r.0) n, absent_now t n, r.3)) (h.kept.over t i);
        recover = λ t p e. ⊎_elim (λ o. inl (in_more (left_out s (revived s epoch log)) g.lost t o.0, λ a. no_active t a)) (λ d. recover_now t p d (h.kept.prepared.recover t p e)) (h.kept.recover t p e);
      };
      pairs = record { downwards = λ t p e m. absurd (both_ways _ (doubt_open t (pair_of log doubt t p e)) m); causes = causes_now };
      durable = record { base_done = all_mono _ _ (λ w e. committed_remade s.shard (take c s.local.log) log re w.tx e) g.base (cut_base all g s g.over c h le once (λ t i. i)); front = λ n e. absurd (none-some n e); floor_done = λ n l. ap base_of (take_all n log l) ∙ found.begins ∙ h.kept.floor_done c le; part_done = whole_part s.shard log new.in_order };
    };
    answers = record { told = told_now; within = part_filter (λ d. stays (doer d)) g.done all h.within };
    requests = record {
      undecided = λ t q e u. absurd ((subst IsCommitted e (restored_committed (unended_in log log) t)).0 u);
      readers = λ t q e u. absurd ((subst IsCommitted e (restored_committed (unended_in log log) t)).1 u);
      unfallen = λ t q e u here. absurd ((subst IsCommitted e (restored_committed (unended_in log log) t)).0 u);
    };
    voters = record {
      apart = λ t v e. requests_none (unended_in log log) t (unended_none log log t (doubt_open t (voter_is log doubt t v e).0));
      unvoted = λ t v e w. doubt_open t (voter_is log doubt t v e).0;
      read = λ t v e f. absurd (no_read v (voter_is log doubt t v e).1 f);
    };
    asked = λ t e. h.asked t (cut_keeps c s.local.log t (sym (found.commits t) ∙ e));
    falls = falls_now;
    order = order_now;
  }

  sound_revived : Sound all (record g { done = done_now; fell = left_out s (revived s epoch log) ++ g.fell; lost = left_out s (revived s epoch log) ++ g.lost }) (revived s epoch log)
  unfolding state_with
  sound_revived = subst (λ d. Sound all (record g { done = done_now; fell = left_out s (revived s epoch log) ++ g.fell; lost = left_out s (revived s epoch log) ++ g.lost }) (state_with s epoch log d (with_ghosts d (standing log) (records_of (fold_updates (is_winner s.shard log) log []))) (restored_locks d (standing log) []))) (sym found.doubts) sound_now

restored_undoomed : (txs : List TxId) (t : TxId) → is_doomed (stage_in (restored_parts txs) t) ≡ true → ⊥
restored_undoomed txs t d = ⊎_elim (λ i. both_ways false refl (sym (ap is_doomed (restored_closed txs t i)) ∙ d)) (λ n. both_ways false refl (sym (ap is_doomed (restored_none txs t n)) ∙ d)) (cases_Bool (tx_in t txs))

front_flight : (s : Shard) (o : Option ℕ) → ((n : ℕ) → o ≡ Some n → s.durable ≤ n) → s.durable ≤ unwrap_or o s.durable
front_flight s None h = omega arith
front_flight s (Some n) h = h n refl

pub front_cut : (s : Shard) (kept : Bool) → ((n : ℕ) → s.flight ≡ Some n → s.durable ≤ n) → s.durable ≤ cond kept (unwrap_or s.flight s.durable) s.durable
front_cut s true h = front_flight s s.flight h
front_cut s false h = omega arith

pub revived_sound :
    (all : List Deed) (told : List TxId) (g : Past) (s : Shard) (kept : Bool) (epoch : ℕ) (log : List LogRecord) → Sound all g s → Bounded g s → Once g.asked → ((t : TxId) → tx_in t told ≡ true → tx_in t g.over ≡ true) → Restarts s (log_left s kept) epoch log
    → (h : Past) × Sound all h (revived s epoch log) × (h.start ≡ g.start) × (h.base ≡ g.base) × (h.asked ≡ g.asked) × ((t : TxId) → tx_in t told ≡ true → tx_in t h.over ≡ true) × (h.met ≡ g.met) × (h.fell ≡ left_out s (revived s epoch log) ++ g.fell) × ((t : TxId) → is_doomed (stage_of (revived s epoch log).local t) ≡ true → tx_in t h.fell ≡ true)
revived_sound all told g s kept epoch log h bounded once over leads =
    let c : ℕ = cond kept (unwrap_or s.flight s.durable) s.durable in (
      record g { done = deeds_by_chosen (λ t. is_winner s.shard (take c s.local.log) t || tx_in t g.over) g.done; fell = left_out s (revived s epoch log) ++ g.fell; lost = left_out s (revived s epoch log) ++ g.lost },
      sound_revived all g s c epoch log h (front_cut s kept h.kept.front) once bounded (of_restarts s (take c s.local.log) (take c s.local.log) epoch log (found_cut all g s c h) leads)
          (renewed_by s (take c s.local.log) epoch log (fine_cut all g s c h (front_cut s kept h.kept.front)) leads),
      refl,
      refl,
      refl,
      over,
      refl,
      refl,
      (λ t d. absurd (restored_undoomed (in_doubt s.shard log) t d)),
    )
