-- The replay of the chosen ones, split at the opening: those that the log found leaves in doubt come first.
use Rattle.std.proofs.Common.{◌≡◌, ℕ, ◌<◌, arith, append-nil, ◌⊎◌, inl, inr, ⊎_elim, Bool, true, false, cond, ◌&&◌, ◌||◌, List, [], ◌∷◌, ◌++◌, map, Option, Some, None, refl, sym, ap, subst, ◌∙◌}
use Rattle.std.specs.List.{AllByRecursion, filter}
use Rattle.std.proofs.lemmas.Bool.{cases_Bool, both_ways, cond_both, cond-false, and_parts, or_cases}
use Rattle.std.proofs.lemmas.List.{append_cancel_left, map-append}
use Rattle.std.proofs.lemmas.List.Elements.{filter-append}
use Rattle.clv_base.specs.declared.names.TxId.{TxId}
use Rattle.clv_base.specs.declared.logs.LogRecord.{LogRecord}
use Rattle.clv_base.specs.declared.events.Event.{Event}
use Rattle.clv_base.specs.declared.events.Event.TheVariants.{Op as OpEvent, RollTo, Request as RequestEvent, Look, Drop, Send, Deliver, Remind, FlushOut, FlushIn, Stop, Restart as RestartEvent}
use Rattle.clv_base.specs.declared.events.Outcome.{Outcome}
use Rattle.clv_base.specs.declared.events.Outcome.TheVariants.{Answered, Rolled}
use Rattle.clv_base.specs.Orders.{tx_same, tx_in}
use Rattle.clv_base.specs.Folding.{IsRising}
use Rattle.clv_base.specs.Maps.{KeyMap, replay_map, replay_answers}
use Rattle.clv_base.specs.Logs.{StandingUpdate, standing, committed_in, prepared_in, is_prepare_of, in_doubt, is_winner, stands, committed_somewhere, base_of}
use Rattle.clv_base.specs.Restarts.{greatest_run}
use Rattle.clv_base.specs.State.{Shard}
use Rattle.clv_base.proofs.SameNames.{or_left, or_right, tx_ne}
use Rattle.clv_base.proofs.Folding.{same_map}
use Rattle.law_base.specs.Items.{Item, Deed, Runs, after, AllLater, Clash, pile}
use Rattle.law_base.proofs.Lists.{all_mono, all_filter, later_mono, later_filter}
use Rattle.law_base.proofs.Running.{top_value, Keeps, kept_runs, rising_all, pile_value, replay_map_append, replay_answers_append}
use Rattle.law_base.proofs.Tables.{is_pair}
use Rattle.shard_laws.specs.OneShard.{Deeds, doer, deeds_of, items_in, act_of_deed, with_one, new_deed, new_asked, new_met, MayHappen, MayServe, Leads, opens, happens, lands, others_ask, revives, acts_by, answers_by, GoBackInOrder, found_items, found_asked, found_met, map_found, LaterReplay}
use Rattle.shard_laws.proofs.Operations.WritesAtEachKey.{keys_filter, keys_top}
use Rattle.shard_laws.proofs.Keeping.WhatOneShardKeeps.{of_kept, place}
use Rattle.shard_laws.proofs.Cuts.WhatCutsHold.{updates_values}
use Rattle.shard_laws.proofs.Keeping.LeavingKeeps.{in_first}
use Rattle.shard_laws.proofs.Cuts.MembersOfCutsReplay.{own_chosen, SameDeeds, same_acts, same_answers, same_backs, pile_keep, filter_all_kept, filter_within}
use Rattle.shard_laws.proofs.Cuts.MembersRunSerially.{once_filter, filter_place, in_kept, serial_of}
use Rattle.shard_laws.proofs.Restarts.RestoredRequestsAndPairs.{pair_there, pair_append}
use Rattle.shard_laws.proofs.Restarts.FoundDoubtedActedBefore.{UnderFound, order_once, order_out}
use Rattle.shard_laws.proofs.Restarts.RestartsKeepOrder.{all_first}
use Rattle.shard_laws.proofs.Restarts.OperationsAlone.{alone, held_alone, items_alone, acts_alone, between_alone, all_alone, alone_chosen}
use Rattle.protocol_laws.proofs.LogsInOrder.{in_order}
use Rattle.protocol_laws.proofs.LogsInOrder.OneRecordMore.{own_prepare}
use Rattle.protocol_laws.proofs.LogsInOrder.RunsAreOfRestarts.{record_fits}
use Rattle.shard_laws.proofs.OrderIsKept.{stays_here}
use Rattle.shard_laws.proofs.Restarts.OpeningKeeps.{follows, doubt_apart, doubt_asked, listed_place, start_value, runs_start, split_start, items_doubted, under_start, reached}
use Rattle.shard_laws.proofs.ChosenReplay.{chosen_replay, chosen_stand_before}
use Rattle.law_base.proofs.Names.{own_in as each_in}
use Rattle.law_base.proofs.Logs.{fold_rises}

-- ---- who was found in doubt does nothing more: it is of an earlier run

-- whose deed an event's is
abbrev IsOf : TxId → Option Deed → Type 0
IsOf u None = Unit {0}
IsOf u (Some d) = doer d ≡ u → ⊥

new_other : (d : Deeds) (s : Shard) (e : Event) (o : Outcome) (u : TxId) → MayHappen d s e → (u.run ≡ s.run → ⊥) → IsOf u (new_deed s e o)
new_other d s (OpEvent tx birth nth seen op) o u may old = at o
  where
    apart : tx ≡ u → ⊥
    apart e = old (ap (λ z. z.run) (sym e) ∙ may.of_run)

    at : (o : Outcome) → IsOf u (new_deed s (OpEvent tx birth nth seen op) o)
    at (Answered a n) = apart
    at _ = tt
new_other d s (RollTo tx nth seen upto) o u may old = at o
  where
    apart : tx ≡ u → ⊥
    apart e = old (ap (λ z. z.run) (sym e) ∙ may.of_run)

    at : (o : Outcome) → IsOf u (new_deed s (RollTo tx nth seen upto) o)
    at Rolled = apart
    at _ = tt
new_other d s (RequestEvent tx touched) o u may old = tt
new_other d s (Look tx) o u may old = tt
new_other d s (Drop tx) o u may old = tt
new_other d s Send o u may old = tt
new_other d s (Deliver m stamp) o u may old = tt
new_other d s Remind o u may old = tt
new_other d s FlushOut o u may old = tt
new_other d s FlushIn o u may old = tt
new_other d s Stop o u may old = tt
new_other d s RestartEvent o u may old = tt

deeds_with : (ds : List Deed) (o : Option Deed) (u : TxId) → IsOf u o → deeds_of u (with_one ds o) ≡ deeds_of u ds
deeds_with ds None u n = refl
deeds_with ds (Some d) u n =
    filter-append (λ e. tx_same (doer e) u) ds (d ∷ []) ∙ ap (λ l. deeds_of u ds ++ l) (cond-false (tx_same (doer d) u) (d ∷ []) [] (tx_ne (doer d) u n)) ∙ append-nil (deeds_of u ds)

found_old : (shard run : ℕ) (before : List LogRecord) → MayServe shard run before → (u : TxId) → tx_in u (found_asked shard before) ≡ true → u.run < run
found_old shard run before may u i =
    let p : prepared_in before u ≡ true = ⊎_elim (λ e. e) (λ n. absurd (both_ways _ (order_out (λ t. tx_in t (in_doubt shard before)) before u n) i)) (cases_Bool (prepared_in before u)) in
    let l = record_fits (greatest_run before) u (is_prepare_of u) (own_prepare u) before (in_order shard before may.0).runs p in
    let m = may.1 in
    omega (arith, l, m)

in_with : (as_ : List TxId) (o : Option TxId) (u : TxId) → tx_in u as_ ≡ true → tx_in u (with_one as_ o) ≡ true
in_with as_ None u i = i
in_with as_ (Some t) u i = in_first as_ (t ∷ []) u i

-- what was found stays as it was
pub record Stays (shard run : ℕ) (before : List LogRecord) (done : List Deed) (asked : List TxId) (met : List (TxId × TxId)) : Type 0 where
  pub may : MayServe shard run before
  pub there : (u : TxId) → tx_in u (found_asked shard before) ≡ true → tx_in u asked ≡ true
  pub same : (u : TxId) → tx_in u (found_asked shard before) ≡ true → deeds_of u done ≡ deeds_of u (alone (found_items shard before))
  pub pairs : (t p : TxId) → is_pair (found_met shard before) t p ≡ true → is_pair met t p ≡ true

pub found_stays : (shard run : ℕ) (before : List LogRecord) (d : Deeds) (s : Shard) → Leads shard run before d s → Stays shard run before d.done d.asked d.met
found_stays shard run before _ _ (opens may) = record { may = may; there = λ u i. i; same = λ u i. refl; pairs = λ t p e. e }
found_stays shard run before _ _ (happens {d} {s} e o t stamp walker leads may eq) =
    let k = found_stays shard run before d s leads in
    record {
      may = k.may;
      there = λ u i. in_with d.asked (new_asked s e) u (k.there u i);
      same = λ u i. deeds_with d.done (new_deed s e o) u (new_other d s e o u may (λ r. let l = found_old shard run before k.may u i in let q = ap (λ p. p.1) (stays_here shard run before d s leads) in absurd (omega (arith, l, q, r)))) ∙ k.same u i;
      pairs = λ v p i. pair_append (new_met s e o) d.met v p ∙ or_right (is_pair (new_met s e o) v p) _ (k.pairs v p i);
    }
found_stays shard run before _ _ (lands {d} {s} n pushed o t stamp walker leads flies eq) = found_stays shard run before d s leads
found_stays shard run before _ _ (others_ask {d} {s} t leads new) =
    let k = found_stays shard run before d s leads in
    record { may = k.may; there = λ u i. in_first d.asked (t ∷ []) u (k.there u i); same = k.same; pairs = k.pairs }
found_stays shard run before _ _ (revives {d} {s} kept epoch log stamp walker leads down fits) = found_stays shard run before d s leads

-- ---- the chosen ones of those in doubt

module _ (shard run : ℕ) (before : List LogRecord) (may : MayServe shard run before) (chosen : TxId → Bool) (closed : (t p : TxId) → is_pair (found_met shard before) t p ≡ true → chosen t ≡ true → chosen p ≡ true) where
  abbrev doubt : List TxId
  doubt = in_doubt shard before

  abbrev start : KeyMap
  start = stands (before ∷ [])

  abbrev base : List StandingUpdate
  base = filter (of_kept (committed_in before)) (standing before)

  abbrev pick : TxId → Bool
  pick t = committed_in before t || (tx_in t doubt && chosen t)

  abbrev picks : List Item
  picks = filter (λ x. chosen x.tx) (found_items shard before)

  abbrev firsts : List TxId
  firsts = filter chosen (found_asked shard before)

  start_rises : IsRising start
  start_rises = fold_rises (committed_somewhere (before ∷ [])) before [] tt

  -- whom a chosen one lists is chosen
  keeps_chosen : (x y : Item) → UnderFound before (λ t. tx_in t doubt) x y → Keeps (λ z. chosen z.tx) x y
  keeps_chosen x y u reach k =
      ⊎_elim (λ s. subst (λ t. chosen t ≡ true) (sym s) k)
      (λ l. closed y.tx x.tx (pair_there before doubt y.tx x.tx l.2 l.0 (doubt_apart shard run before may x.tx l.1)) k) (reached shard run before may x y u reach)

  pub picks_run : Runs start picks
  picks_run = kept_runs (λ z. chosen z.tx) (found_items shard before) start start start_rises start_rises (runs_start shard run before may) (later_mono _ _ keeps_chosen (found_items shard before) (under_start shard run before may)) (λ q. inl refl)

  picks_order : AllLater (λ x y. Clash x y → (x.tx ≡ y.tx) ⊎ (place firsts x.tx < place firsts y.tx)) picks
  picks_order =
      later_mono _ _
      (λ x y f c. ⊎_elim (λ s. inl s) (λ l. inr (filter_place chosen (found_asked shard before) x.tx y.tx f.1 f.2 (listed_place shard run before may y.tx x.tx l.2 l.1 l.0))) (f.0 c.0 c.1 c.2 c.4))
      picks (later_filter _ (λ z. chosen z.tx) (found_items shard before) (under_start shard run before may))

  picks_doubted : AllByRecursion (λ x. (tx_in x.tx doubt ≡ true) × (chosen x.tx ≡ true)) picks
  picks_doubted = all_filter _ (λ x. chosen x.tx) (found_items shard before) (items_doubted shard run before may)

  picks_in : AllByRecursion (λ x. tx_in x.tx firsts ≡ true) picks
  picks_in = all_mono _ _ (λ x f. in_kept chosen (found_asked shard before) x.tx (doubt_asked shard run before may x.tx f.0) f.1) picks picks_doubted

  firsts_run : GoBackInOrder firsts (alone picks) → (replay_answers start (acts_by firsts (alone picks)) ≡ answers_by firsts (alone picks)) × (replay_map start (acts_by firsts (alone picks)) ≡ after start picks)
  firsts_run back =
      let run = serial_of firsts start (alone picks) (once_filter chosen (found_asked shard before) (order_once shard (λ t. tx_in t doubt) before (follows shard run before may))) start_rises (acts_alone start picks picks_run)
      (subst (AllLater (λ x y. Clash x y → (x.tx ≡ y.tx) ⊎ (place firsts x.tx < place firsts y.tx))) (sym (items_alone picks)) picks_order) (between_alone [] picks) (all_alone _ picks picks_in) back in
      (run.0, run.1 ∙ ap (after start) (held_alone picks))

  -- ---- their map

  -- what they wrote over the base are the writes of those that are picked
  filter_picks : (xs : List Item) → AllByRecursion (λ x. tx_in x.tx doubt ≡ true) xs → filter (λ x. pick x.tx) xs ≡ filter (λ x. chosen x.tx) xs
  filter_picks [] a = refl
  filter_picks (x ∷ xs) a =
      ap (λ b. cond b (x ∷ filter (λ y. pick y.tx) xs) (filter (λ y. pick y.tx) xs)) (same (committed_in before x.tx) (tx_in x.tx doubt) (doubt_apart shard run before may x.tx a.0) a.0)
      ∙ ap (λ l. cond (chosen x.tx) (x ∷ l) l) (filter_picks xs a.1)
    where
      same : (c d : Bool) → c ≡ false → d ≡ true → (c || (d && chosen x.tx)) ≡ chosen x.tx
      same true d e f = absurd (both_ways true e refl)
      same false true e f = refl
      same false false e f = absurd (both_ways false refl f)

  base_picked : (ws : List StandingUpdate) → AllByRecursion (λ w. pick w.tx ≡ true) (filter (of_kept (committed_in before)) ws)
  base_picked [] = tt
  base_picked (w ∷ ws) =
      cond_both (committed_in before w.tx) (w ∷ filter (of_kept (committed_in before)) ws) (filter (of_kept (committed_in before)) ws) (AllByRecursion (λ w. pick w.tx ≡ true)) (λ e. (or_left _ _ e, base_picked ws)) (λ e. base_picked ws)

  pile_picks : pile picks base ≡ filter (of_kept pick) (pile (found_items shard before) base)
  pile_picks =
      sym (pile_keep pick (found_items shard before) base ∙ ap (λ xs. pile xs (filter (of_kept pick) base)) (filter_picks (found_items shard before) (items_doubted shard run before may)) ∙ ap (pile picks) (filter_all_kept pick base (base_picked (standing before))))

  picked_wins : (t : TxId) → pick t ≡ true → is_winner shard before t ≡ true
  picked_wins t e = ⊎_elim (λ c. or_left _ _ c) (λ d. or_right (committed_in before t) _ (and_parts (tx_in t doubt) (chosen t) d).0) (or_cases (committed_in before t) (tx_in t doubt && chosen t) e)

  pub firsts_map : after start picks ≡ map_found shard before chosen
  firsts_map =
      same_map (after start picks) (map_found shard before chosen) (rising_all picks start start_rises) (fold_rises pick before [] tt)
      (λ q. pile_value (base_of before) picks start base q picks_run (start_value shard run before may q)
      ∙ ap (top_value (base_of before) q) pile_picks
      ∙ sym (keys_top (base_of before) (filter (of_kept pick) (filter (of_kept (is_winner shard before)) (standing before))) (filter (of_kept pick) (pile (found_items shard before) base)) q
      (keys_filter (of_kept pick) (filter (of_kept (is_winner shard before)) (standing before)) (pile (found_items shard before) base) (split_start shard run before may)))
      ∙ ap (top_value (base_of before) q) (filter_within pick (is_winner shard before) (standing before) picked_wins)
      ∙ sym (updates_values pick before q))

  -- ---- with all that was done

  module _ (all : List Deed) (same : (t : TxId) → tx_in t (found_asked shard before) ≡ true → deeds_of t all ≡ deeds_of t (alone (found_items shard before))) where
    pub own_deeds : (t : TxId) → tx_in t (found_asked shard before) ≡ true → chosen t ≡ true → deeds_of t (alone picks) ≡ deeds_of t all
    own_deeds t i k = ap (deeds_of t) (sym (alone_chosen chosen (found_items shard before))) ∙ own_chosen chosen t (alone (found_items shard before)) k ∙ sym (same t i)

    firsts_same : AllByRecursion (SameDeeds (alone picks) all) firsts
    firsts_same = all_mono _ _ (λ t f. own_deeds t f.0 f.1) firsts (all_filter (λ t. tx_in t (found_asked shard before) ≡ true) chosen (found_asked shard before) (each_in (found_asked shard before)))

    pub firsts_replay : GoBackInOrder firsts all → (replay_answers start (acts_by firsts all) ≡ answers_by firsts all) × (replay_map start (acts_by firsts all) ≡ map_found shard before chosen)
    firsts_replay back =
        let run = firsts_run (same_backs (alone picks) all firsts firsts_same back) in
        let acts = same_acts (alone picks) all firsts firsts_same in
        (ap (replay_answers start) (sym acts) ∙ run.0 ∙ same_answers (alone picks) all firsts firsts_same, ap (replay_map start) (sym acts) ∙ run.1 ∙ firsts_map)

pub later_replay : LaterReplay
later_replay shard run before d s cut chosen later leads le may split back =
    let k = found_stays shard run before d s leads in
    let start = stands (before ∷ []) in
    let firsts = filter chosen (found_asked shard before) in
    let rest = filter chosen later in
    let whole : filter chosen d.asked ≡ firsts ++ rest = ap (filter chosen) split ∙ filter-append chosen (found_asked shard before) later in
    let acts : acts_by (filter chosen d.asked) d.done ≡ acts_by firsts d.done ++ acts_by rest d.done = ap (λ ts. acts_by ts d.done) whole ∙ map-append (λ t. map act_of_deed (deeds_of t d.done)) firsts rest in
    let answers : answers_by (filter chosen d.asked) d.done ≡ answers_by firsts d.done ++ answers_by rest d.done = ap (λ ts. answers_by ts d.done) whole ∙ map-append (λ t. map (λ x. x.answer) (items_in (deeds_of t d.done))) firsts rest in
    let closed : (t p : TxId) → is_pair (found_met shard before) t p ≡ true → chosen t ≡ true → chosen p ≡ true = λ t p e c. (chosen_stand_before shard run before d s cut chosen t p leads le may (k.pairs t p e) c).0 in
    let first = firsts_replay shard run before k.may chosen closed d.done k.same (all_first _ firsts rest (subst (λ ts. GoBackInOrder ts d.done) whole back)) in
    let r = chosen_replay shard run before d s cut chosen leads le may back in (
      append_cancel_left (answers_by firsts d.done) (replay_answers (map_found shard before chosen) (acts_by rest d.done)) (answers_by rest d.done)
          (ap (λ a. a ++ replay_answers (map_found shard before chosen) (acts_by rest d.done)) (sym first.0) ∙ ap (λ m. replay_answers start (acts_by firsts d.done) ++ replay_answers m (acts_by rest d.done)) (sym first.1)
          ∙ sym (replay_answers_append start (acts_by firsts d.done) (acts_by rest d.done)) ∙ ap (replay_answers start) (sym acts) ∙ r.0 ∙ answers),
      ap (λ m. replay_map m (acts_by rest d.done)) (sym first.1) ∙ sym (replay_map_append start (acts_by firsts d.done) (acts_by rest d.done)) ∙ ap (replay_map start) (sym acts) ∙ r.1,
    )
