-- Transactions that are chosen by other shards' COMMITs replay.
use Rattle.std.proofs.Common.{◌≡◌, ℕ, ◌+◌, ◌≤◌, ◌<◌, ◌⊎◌, inl, inr, ⊎_elim, Bool, true, false, ◌&&◌, ◌||◌, List, [], ◌∷◌, ◌++◌, length, refl, sym, ap, subst, ◌∙◌, not, Some}
use Rattle.std.specs.Prelude.{take, drop}
use Rattle.std.specs.List.{AllByRecursion, filter}
use Rattle.std.proofs.lemmas.Bool.{both_ways, or_cases, and_parts, false_from_ne_true}
use Rattle.std.proofs.lemmas.List.{take-append-drop}
use Rattle.clv_base.specs.declared.names.TxId.{TxId}
use Rattle.clv_base.specs.Orders.{tx_in}
use Rattle.clv_base.specs.Maps.{map_get, replay_map, replay_answers}
use Rattle.clv_base.specs.Logs.{standing, committed_in, prepared_in, aborted_in, has_standing, is_commit_of, in_doubt, is_winner, stands}
use Rattle.clv_base.specs.LogRules.{listed_in}
use Rattle.clv_base.specs.State.{Shard, is_present}
use Rattle.clv_base.proofs.Folding.{same_map}
use Rattle.clv_base.proofs.SameNames.{or_left, or_right}
use Rattle.law_base.specs.Items.{Item, Deed, held, Runs, Acts, after, AllLater, Clash, pile}
use Rattle.law_base.proofs.Lists.{all_mono, all_filter, later_mono, later_filter}
use Rattle.law_base.proofs.Running.{top_value, Keeps, rising_all, pile_value}
use Rattle.law_base.proofs.Standing.{standing_append, all_stand}
use Rattle.law_base.proofs.Tables.{is_pair}
use Rattle.law_base.proofs.Commits.{place_there, durable_committed, before_second}
use Rattle.law_base.proofs.Sets.{list_all_at}
use Rattle.protocol_laws.specs.Order.{Tidy, Undoable, Sealed}
use Rattle.protocol_laws.proofs.LogsInOrder.UndoBeforeClosing.{undoable_later, undone_later}
use Rattle.shard_laws.specs.OneShard.{doer, deeds_of, deeds_by_chosen, items_in, acts_by, answers_by, GoBackInOrder, NobodyBetween, MayChoose, Passes, map_chosen, ChosenReplay, ChosenStandBefore}
use Rattle.shard_laws.proofs.Operations.WritesAtEachKey.{keys_top, keys_filter}
use Rattle.shard_laws.proofs.Keeping.WhatOneShardKeeps.{Past, view_of, place, Dep, Cause, Known, is_alive}
use Rattle.shard_laws.proofs.Keeping.DeedsThatHold.{Rise, runs_held, held_chosen, between_chosen, items_later_chosen, met_mono, met_both, acts_chosen}
use Rattle.shard_laws.proofs.Keeping.ChangesKeepPrepared.{Lists, Listing, sealed_later, listed_keeps}
use Rattle.shard_laws.proofs.Events.DueKeeps.{Sound, did, as_done, Lost}
use Rattle.shard_laws.proofs.Order.WritesLieOnListed.{order_of}
use Rattle.shard_laws.proofs.Cuts.WhatCutsHold.{cut_keeps, durable_cut, of_kept, tidy_later, updates_values}
use Rattle.shard_laws.proofs.Cuts.MembersRunSerially.{filter_place, in_kept, Once, once_filter, serial_of}
use Rattle.shard_laws.proofs.Cuts.MembersOfCutsReplay.{own_chosen, SameDeeds, same_acts, same_answers, same_backs, all_passed, dep_cut, item_asked, cut_base, pile_keep, filter_all_kept, filter_alike, filter_within}
use Rattle.shard_laws.proofs.Cuts.WhoIsInDoubt.{prepared_cut, listed_cut}
use Rattle.shard_laws.proofs.Restarts.WinnersKeepTheirWrites.{unmoved_from}
use Rattle.shard_laws.proofs.Restarts.RestartsKeep.{doubt_of, doubt_closed, doubt_gone, tidy_closed, sealed_closed, Bounded, doubt_here}
use Rattle.shard_laws.proofs.AnswersAndMap.{held as held_now}
use Rattle.clv_base.specs.Undo.{stage_of}
use Rattle.clv_base.specs.declared.state.Stage.TheVariants.{Closed}
use Rattle.law_base.proofs.Logs.{fold_rises}

and_where : (a b : Bool) → (a ≡ true → b ≡ true) → a ≡ (a && b)
and_where true b e = sym (e refl)
and_where false b e = refl

module _ (all : List Deed) (g : Past) (s : Shard) (told : List TxId) (cut : ℕ) (chosen : TxId → Bool) (h : Sound all g s) (le : s.durable ≤ cut) (once : Once g.asked) (all_over : (t : TxId) → tx_in t told ≡ true → tx_in t g.over ≡ true)
    (bounded : Bounded g s) (may : MayChoose s cut (did all told g) chosen) where
  abbrev kept : List Deed
  kept = deeds_by_chosen chosen g.done

  abbrev ms : List TxId
  ms = filter chosen g.asked

  whole : take cut s.local.log ++ drop cut s.local.log ≡ s.local.log
  whole = take-append-drop cut s.local.log

  -- a chosen one in doubt is here still
  chosen_closed : (t : TxId) → tx_in t (in_doubt s.shard (take cut s.local.log)) ≡ true → tx_in t g.fell ≡ false → stage_of s.local t ≡ Some Closed
  chosen_closed t i n = doubt_closed all g s cut h t i (doubt_here all g s cut h le t i (λ e. ⊎_elim (λ a. both_ways _ n a) (λ d. both_ways _ n (bounded t d)) e))

  -- one of whom no write stands here, and that left, stays, and whom it met is committed in the cut
  passing_stays : (t : TxId) → Passes (did all told g) s t → Lost g t → ⊥
  passing_stays t r l =
      ⊎_elim (λ e. ⊎_elim (λ a. both_ways _ r.unfallen a) (λ d. both_ways _ r.unfallen (bounded t d)) e) (λ p. both_ways _ r.absent (h.kept.successors t p.0 p.1)) (h.falls.why t l)

  passing_met : (t p : TxId) → Passes (did all told g) s t → Dep (view_of s) t p → committed_in (take cut s.local.log) p ≡ true
  passing_met t p r d =
      ⊎_elim (λ e. durable_cut s.durable cut s.local.log p le e)
      (λ m. ⊎_elim (λ pair. absurd (both_ways _ r.absent (h.kept.successors t p pair))) (λ b. absurd (both_ways _ r.uncommitted (before_second s.local.log p t b))) m) d

  not_lost : (t : TxId) → chosen t ≡ true → Lost g t → ⊥
  not_lost t k l =
      ⊎_elim (λ m. ⊎_elim (λ c. both_ways _ (h.falls.open_ t l) (cut_keeps cut s.local.log t c)) (λ o. both_ways _ (h.falls.unfinished t l) (all_over t o)) (or_cases (committed_in (take cut s.local.log) t) (tx_in t told) m))
      (λ o. ⊎_elim
      (λ q. ⊎_elim (λ e. ⊎_elim (λ a. both_ways _ q.2 a) (λ d. both_ways _ q.2 (bounded t d)) e)
      (λ p. let d = (doubt_of all g s cut h t q.0).prepared in
      ⊎_elim (λ i. both_ways _ (h.falls.open_ p.0 p.2) (cut_keeps cut s.local.log p.0 (list_all_at (committed_in (take cut s.local.log)) p.0 (listed_in (take cut s.local.log) t) q.1
      (ap (tx_in p.0) (sym (subst (λ l. listed_in l t ≡ listed_in (take cut s.local.log) t) whole (listed_keeps (take cut s.local.log) (drop cut s.local.log) t d))) ∙ i))))
      (λ c. both_ways _ (h.falls.open_ p.0 p.2) c) (h.falls.paired t p.0 p.1 (prepared_cut cut s.local.log t d))) (h.falls.why t l))
      (λ r. passing_stays t r l) o) (may.are_here t k)

  -- whom a chosen one met is chosen
  dep_chosen : (t p : TxId) → Dep (view_of s) t p → Lists s.local.log t p → chosen t ≡ true → chosen p ≡ true
  dep_chosen t p d l k =
      ⊎_elim (λ m. may.commits p (dep_cut all g s told cut h le once all_over t p d m))
      (λ o. ⊎_elim
      (λ q. let e = (doubt_of all g s cut h t q.0).prepared in
      may.commits p (⊎_elim (λ i. list_all_at (committed_in (take cut s.local.log)) p (listed_in (take cut s.local.log) t) q.1 i) (λ i. place_there 0 (is_commit_of p) (take cut s.local.log) i.0 i.2) (listed_cut cut s.local.log t p e (l (prepared_cut cut s.local.log t e)))))
      (λ r. may.commits p (passing_met t p r d)) o)
      (may.are_here t k)

  abbrev Both : Item → Item → Type 0
  Both x y = Cause s.local.pairs s.local.log s.durable x y × Listing s.local.log x y

  keeps_chosen : (x y : Item) → Both x y → Keeps (λ z. chosen z.tx) x y
  keeps_chosen x y f reach k =
      ⊎_elim (λ same. subst (λ t. chosen t ≡ true) (sym same) k)
      (λ d. ⊎_elim (λ same. subst (λ t. chosen t ≡ true) (sym same) k) (λ l. dep_chosen y.tx x.tx d l k) (f.1 reach)) (f.0 reach)

  pub kept_acts : Acts g.start (deeds_by_chosen chosen g.done)
  kept_acts = acts_chosen g.start chosen g.done h.kept.start_rises h.kept.acts h.kept.between h.kept.rising (met_mono Both _ keeps_chosen g.done (met_both _ _ g.done h.kept.causes h.kept.prepared.causes))

  pub kept_between : NobodyBetween [] (deeds_by_chosen chosen g.done)
  kept_between = between_chosen chosen g.done h.kept.between

  pub kept_run : Runs g.start (held (deeds_by_chosen chosen g.done))
  kept_run = runs_held g.start kept h.kept.start_rises kept_acts kept_between (later_mono _ _ (λ d e r. r.0) kept (later_filter Rise (λ d. chosen (doer d)) g.done h.kept.rising))

  pub kept_order : AllLater (λ x y. Clash x y → (x.tx ≡ y.tx) ⊎ (place ms x.tx < place ms y.tx)) (items_in (deeds_by_chosen chosen g.done))
  kept_order = later_mono _ _ (λ x y o c. ⊎_elim (λ same. inl same) (λ l. inr (filter_place chosen g.asked x.tx y.tx o.1 o.2 l)) (o.0 c)) (items_in kept) (items_later_chosen _ chosen g.done h.kept.order)

  chosen_asked : (t : TxId) → Known g (view_of s) t → chosen t ≡ true → tx_in t g.asked ≡ true
  chosen_asked t known k = ⊎_elim (λ m. item_asked all g s told cut h le once all_over t known m) (λ o. ⊎_elim (λ q. h.kept.closed t (chosen_closed t q.0 q.2)) (λ r. r.has_asked) o) (may.are_here t k)

  kept_in : AllByRecursion (λ d. tx_in (doer d) ms ≡ true) kept
  kept_in = all_mono _ _ (λ d k. in_kept chosen g.asked (doer d) (chosen_asked (doer d) k.0 k.1) k.1) kept (all_filter _ (λ d. chosen (doer d)) g.done h.kept.known)

  pub own_deeds : (t : TxId) → chosen t ≡ true → deeds_of t (deeds_by_chosen chosen g.done) ≡ deeds_of t all
  own_deeds t k = own_chosen chosen t g.done k ∙ ⊎_elim (λ l. absurd (not_lost t k l)) (λ i. i) (h.told t)

  ms_same : AllByRecursion (SameDeeds kept all) ms
  ms_same = all_mono _ _ (λ t k. own_deeds t k) ms (all_passed chosen g.asked)

  -- ---- the map

  -- a chosen one of whom a write stands is committed in the cut, or in doubt there
  wins_here : (t : TxId) → has_standing s.local.log t ≡ true → chosen t ≡ true → is_winner s.shard (take cut s.local.log) t ≡ true
  wins_here t w k =
      ⊎_elim
      (λ m. or_left _ _ (⊎_elim (λ c. c) (λ o. ⊎_elim (λ d. durable_cut s.durable cut s.local.log t le d) (λ r. absurd (both_ways _ r.1 w)) (h.kept.over t (all_over t o))) (or_cases (committed_in (take cut s.local.log) t) (tx_in t told) m)))
      (λ o. ⊎_elim (λ q. or_right (committed_in (take cut s.local.log) t) _ q.0) (λ r. absurd (both_ways _ r.unwritten w)) o) (may.are_here t k)

  abbrev winning : TxId → Bool
  winning t = chosen t && is_winner s.shard (take cut s.local.log) t

  -- who is in doubt in the cut and left fell
  doubt_stays : (t : TxId) → tx_in t (in_doubt s.shard (take cut s.local.log)) ≡ true → is_present (stage_of s.local t) ≡ false → tx_in t g.fell ≡ true
  doubt_stays t i n = ⊎_elim (λ a. a) (λ d. bounded t d) (doubt_gone all g s cut h le t i n)

  -- none of them is aborted
  winning_alive : (t : TxId) → winning t ≡ true → aborted_in s.local.log t ≡ true → ⊥
  winning_alive t k a =
      let d = h.kept.dead t a in
      let p = and_parts (chosen t) (is_winner s.shard (take cut s.local.log) t) k in
      ⊎_elim (λ c. both_ways _ d.0 (cut_keeps cut s.local.log t c))
      (λ i. ⊎_elim
      (λ m. ⊎_elim (λ c. both_ways _ d.0 (cut_keeps cut s.local.log t c))
      (λ o. ⊎_elim (λ e. both_ways _ d.0 (durable_committed s.local.log s.durable t e)) (λ e. both_ways _ (h.falls.unfinished t (h.falls.fallen t (inl (doubt_stays t i e.2)))) (all_over t o)) (h.kept.over t (all_over t o))) (or_cases (committed_in (take cut s.local.log) t) (tx_in t told) m))
      (λ o. ⊎_elim (λ q. d.2 (chosen_closed t q.0 q.2)) (λ r. both_ways _ r.unfallen (doubt_stays t i r.absent)) o) (may.are_here t p.0))
      (or_cases (committed_in (take cut s.local.log) t) (tx_in t (in_doubt s.shard (take cut s.local.log))) p.1)

  closed_there : (t : TxId) → is_winner s.shard (take cut s.local.log) t ≡ true → (prepared_in (take cut s.local.log) t || committed_in (take cut s.local.log) t) ≡ true
  closed_there t w = ⊎_elim (λ e. or_right (prepared_in (take cut s.local.log) t) _ e) (λ i. or_left _ _ (doubt_of all g s cut h t i).prepared) (or_cases (committed_in (take cut s.local.log) t) (tx_in t (in_doubt s.shard (take cut s.local.log))) w)

  rest_unmoved : filter (of_kept winning) (standing s.local.log) ≡ filter (of_kept winning) (standing (take cut s.local.log))
  rest_unmoved =
      ap (λ l. filter (of_kept winning) (standing l)) (sym whole)
      ∙ ap (filter (of_kept winning)) (standing_append 0 (take cut s.local.log) (drop cut s.local.log) [])
      ∙ unmoved_from winning (0 + length (take cut s.local.log)) (drop cut s.local.log) (standing (take cut s.local.log))
      (λ t w. false_from_ne_true _ (λ k. ⊎_elim (λ e. tidy_closed (take cut s.local.log) (drop cut s.local.log) t (tidy_later [] (take cut s.local.log) (drop cut s.local.log) (subst (Tidy []) (sym whole) h.kept.tidy)) e w)
      (λ i. sealed_closed (take cut s.local.log) (drop cut s.local.log) t (sealed_later [] (take cut s.local.log) (drop cut s.local.log) (subst (Sealed []) (sym whole) h.kept.prepared.sealed)) (doubt_of all g s cut h t i).prepared w)
      (or_cases (committed_in (take cut s.local.log) t) (tx_in t (in_doubt s.shard (take cut s.local.log))) (and_parts (chosen t) (is_winner s.shard (take cut s.local.log) t) k).1)))
      (λ t u. false_from_ne_true _ (λ k. winning_alive t k (subst (λ l. aborted_in l t ≡ true) whole
      (undone_later (take cut s.local.log) (drop cut s.local.log) t (undoable_later [] (take cut s.local.log) (drop cut s.local.log) (subst (Undoable []) (sym whole) (order_of s.shard s.local.log h.order.ordered.in_order).undoable)) u
      (closed_there t (and_parts (chosen t) (is_winner s.shard (take cut s.local.log) t) k).1)))))

  writers_win : AllByRecursion (λ w. chosen w.tx ≡ winning w.tx) (standing s.local.log)
  writers_win = all_mono _ _ (λ w st. and_where (chosen w.tx) (is_winner s.shard (take cut s.local.log) w.tx) (wins_here w.tx st)) (standing s.local.log) (all_stand s.local.log)

  base_chosen : AllByRecursion (λ w. chosen w.tx ≡ true) g.base
  base_chosen = all_mono _ _ (λ w e. may.commits w.tx e) g.base (cut_base all g s told cut h le once all_over)

  cut_map : (q : ℕ) → map_get q (map_chosen s.shard (take cut s.local.log) chosen) ≡ top_value g.floor q (filter (of_kept chosen) (standing s.local.log))
  cut_map q =
      updates_values winning (take cut s.local.log) q
      ∙ ap (λ base. top_value base q (filter (of_kept winning) (standing (take cut s.local.log)))) (h.kept.floor_done cut le)
      ∙ ap (top_value g.floor q) (sym rest_unmoved ∙ sym (filter_alike chosen winning (standing s.local.log) writers_win))

  pub same_chosen : after g.start (held (deeds_by_chosen chosen g.done)) ≡ map_chosen s.shard (take cut s.local.log) chosen
  same_chosen =
      same_map (after g.start (held kept)) (map_chosen s.shard (take cut s.local.log) chosen)
      (rising_all (held kept) g.start h.kept.start_rises) (fold_rises winning (take cut s.local.log) [] tt)
      (λ q. pile_value g.floor (held kept) g.start g.base q kept_run (h.kept.base_value q)
      ∙ ap (λ ws. top_value g.floor q (pile (held kept) ws)) (sym (filter_all_kept chosen g.base base_chosen))
      ∙ ap (λ xs. top_value g.floor q (pile xs (filter (of_kept chosen) g.base))) (held_chosen chosen g.done)
      ∙ ap (top_value g.floor q) (sym (pile_keep chosen (held g.done) g.base))
      ∙ sym (keys_top g.floor (filter (of_kept chosen) (filter (of_kept (is_alive g.lost)) (standing s.local.log))) (filter (of_kept chosen) (pile (held g.done) g.base)) q (keys_filter (of_kept chosen) (filter (of_kept (is_alive g.lost)) (standing s.local.log)) (pile (held g.done) g.base) h.kept.standing_is))
      ∙ ap (top_value g.floor q) (filter_within chosen (is_alive g.lost) (standing s.local.log) (λ t k. ap not (false_from_ne_true _ (λ l. not_lost t k l))))
      ∙ sym (cut_map q))

  pub chosen_run : GoBackInOrder (filter chosen g.asked) all → (replay_answers g.start (acts_by (filter chosen g.asked) all) ≡ answers_by (filter chosen g.asked) all) × (replay_map g.start (acts_by (filter chosen g.asked) all) ≡ map_chosen s.shard (take cut s.local.log) chosen)
  chosen_run back =
      let run = serial_of ms g.start kept (once_filter chosen g.asked once) h.kept.start_rises kept_acts kept_order kept_between kept_in (same_backs kept all ms ms_same back) in
      let acts = same_acts kept all ms ms_same in
      (ap (replay_answers g.start) (sym acts) ∙ run.0 ∙ same_answers kept all ms ms_same, ap (replay_map g.start) (sym acts) ∙ run.1 ∙ same_chosen)

  pub chosen_before : (t p : TxId) → is_pair g.met t p ≡ true → chosen t ≡ true → (chosen p ≡ true) × (place (filter chosen g.asked) p < place (filter chosen g.asked) t)
  chosen_before t p e k =
      ⊎_elim
      (λ o. absurd (not_lost t k o.0))
      (λ d. let q = dep_chosen t p d.0 (h.kept.prepared.recover t p e) k in (q, filter_place chosen g.asked p t q k d.1))
      (h.kept.recover t p e)

pub chosen_replay : ChosenReplay
chosen_replay shard run before d s cut chosen leads le may back =
    let b = held_now shard run before d s leads in
    let r = chosen_run d.done b.0 s d.told cut chosen b.1 le (subst Once (sym b.4) b.5) b.6 b.9 (subst (λ x. MayChoose s cut x chosen) (sym (as_done d b.0 b.4 b.7 b.8)) may) (subst (λ l. GoBackInOrder (filter chosen l) d.done) (sym b.4) back) in (
      subst (λ l. replay_answers (stands (before ∷ [])) (acts_by (filter chosen l) d.done) ≡ answers_by (filter chosen l) d.done) b.4 (subst (λ m. replay_answers m (acts_by (filter chosen (b.0).asked) d.done) ≡ answers_by (filter chosen (b.0).asked) d.done) b.2 r.0),
      subst (λ l. replay_map (stands (before ∷ [])) (acts_by (filter chosen l) d.done) ≡ map_chosen s.shard (take cut s.local.log) chosen) b.4 (subst (λ m. replay_map m (acts_by (filter chosen (b.0).asked) d.done) ≡ map_chosen s.shard (take cut s.local.log) chosen) b.2 r.1),
    )

pub chosen_stand_before : ChosenStandBefore
chosen_stand_before shard run before d s cut chosen t p leads le may e k =
    let b = held_now shard run before d s leads in
    let r = chosen_before d.done b.0 s d.told cut chosen b.1 le (subst Once (sym b.4) b.5) b.6 b.9 (subst (λ x. MayChoose s cut x chosen) (sym (as_done d b.0 b.4 b.7 b.8)) may) t p (subst (λ m. is_pair m t p ≡ true) (sym b.7) e) k in
    (r.0, subst (λ l. place (filter chosen l) p < place (filter chosen l) t) b.4 r.1)
