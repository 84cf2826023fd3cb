-- What is due, and each event, keep what a shard keeps.
use Rattle.std.proofs.Common.{◌≡◌, ℕ, zero, suc, ◌<◌, ◌⊎◌, inl, inr, ⊎_elim, Bool, true, false, cond, not, ◌&&◌, ◌||◌, List, [], ◌∷◌, ◌++◌, Option, Some, None, is_none, length, ◌==◌, eqb-true, arith, refl, sym, ap, subst, ◌∙◌, append_assoc, eq-eqb, map}
use Rattle.std.specs.List.{filter, list_all, list_any, AllByRecursion}
use Rattle.std.proofs.lemmas.Bool.{cases_Bool, both_ways, or_cases, and_parts, and_from, false_from_ne_true, cond_both, not-true, or_from}
use Rattle.std.proofs.lemmas.Option.{same_Some, none-some as none_some}
use Rattle.clv_base.specs.declared.names.TxId.{TxId}
use Rattle.clv_base.specs.declared.logs.LogRecord.{LogRecord}
use Rattle.clv_base.specs.declared.logs.LogRecord.TheVariants.{Commit, End}
use Rattle.clv_base.specs.declared.state.Stage.{Stage}
use Rattle.clv_base.specs.declared.state.Held.{Held}
use Rattle.clv_base.specs.declared.state.Stage.TheVariants.{Active, Closed, Gone}
use Rattle.clv_base.specs.Orders.{Table, tx_same, tx_in, tx_get}
use Rattle.clv_base.specs.Logs.{standing, committed_in, is_commit_of, commit_lsn, has_standing, prepared_in}
use Rattle.clv_base.specs.Undo.{stage_of, aborts_of, clrs_of, doomed_here, doomed_by, roll_back, is_of}
use Rattle.clv_base.specs.State.{Shard, with_local, is_present}
use Rattle.clv_base.specs.Facts.{predecessors_of, undecided_of, facts_of, state_by, doom_by, has_durable_predecessors, has_durable_prepare, is_closed_state, is_waiting}
use Rattle.clv_base.specs.Participant.{gone_vote, vote_in_state, first_vote, vote_owed, vote_by, voted, vote_by_writes}
use Rattle.clv_base.specs.Coordinator.{others, is_good, vote_from, yes_shards, open_shards, is_agreed, agreed_ruling, first_no, cause_by, refusal, refused_ruling, end_ruling, undecided_ruling, ruling_in}
use Rattle.clv_base.specs.declared.state.Ruling.TheVariants.{Commit as CommitRuling, Acknowledge, Abort as AbortRuling, End as EndRuling}
use Rattle.clv_base.specs.OneShard.{purge, mark_dropped}
use Rattle.clv_base.specs.Due.{finish_part, or_else, with_commit_done, commit_due, with_vote, finish_reader, give_vote, vote_due, with_ruling, do_ruling, rule, request_due, due_of, first_due, known_txs, next_due, do_due, with_due_done, work}
use Rattle.clv_base.specs.Events.{finish}
use Rattle.protocol_laws.proofs.PredecessorsByFacts.{durable_before}
use Rattle.shard_laws.proofs.Keeping.MarkingKeeps.{same_again, pairs_none, keeps_marked, gone_stays, keeps_again}
use Rattle.law_base.proofs.Stages.{stage_marked, present_is, was_present}
use Rattle.law_base.specs.Items.{Deed}
use Rattle.clv_base.proofs.SameNames.{or_left, or_right, tx_true, tx_self, tx_ne}
use Rattle.law_base.proofs.Undoing.{standing_append, standing_undone}
use Rattle.law_base.proofs.Tables.{is_pair, pair_in}
use Rattle.law_base.proofs.Commits.{commit_durable, durable_committed, uncommitted_append, committed_from, place_some}
use Rattle.shard_laws.proofs.Keeping.WhatOneShardKeeps.{Past, View, Kept, is_alive}
use Rattle.clv_base.specs.declared.state.Voter.{Voter}
use Rattle.clv_base.specs.declared.causes.Vote.{Vote}
use Rattle.clv_base.specs.declared.causes.Vote.TheVariants.{Yes, Read, No}
use Rattle.clv_base.specs.declared.causes.NoWhy.TheVariants.{Doomed, Restarted as RestartedWhy}
use Rattle.clv_base.specs.declared.state.Request.{Request}
use Rattle.clv_base.specs.declared.state.RequestState.{RequestState}
use Rattle.clv_base.specs.declared.state.RequestState.TheVariants.{Undecided, Committed, Finished, Refused}
use Rattle.clv_base.specs.declared.causes.AbortCause.{AbortCause}
use Rattle.clv_base.specs.Orders.{tx_set, nat_in}
use Rattle.shard_laws.proofs.Keeping.WhatOneShardKeeps.{view_of}
use Rattle.shard_laws.proofs.Keeping.DoomedMayGo.{may_go}
use Rattle.shard_laws.proofs.Order.RisingAreDistinct.{doomed_once}
use Rattle.shard_laws.specs.OneShard.{Deeds, is_doomed, doer, deeds_by_chosen}
use Rattle.shard_laws.proofs.Keeping.FallenAndLost.{Falls, falls_more, falls_parts, falls_over, falls_finish, falls_taken}
use Rattle.shard_laws.proofs.Order.WritesLieOnListed.{order_of, committed_lists}
use Rattle.shard_laws.proofs.Order.ClosingKeepsOrder.{upward_under}
use Rattle.shard_laws.proofs.Order.ChangesKeepOrder.{unlisted, asked_more}
use Rattle.shard_laws.proofs.Keeping.LeavingKeeps.{in_first, in_more, still_left}
use Rattle.clv_base.specs.LogRules.{listed_in}
use Rattle.clv_base.specs.Undo.{gone_in, pairs_without}
use Rattle.clv_base.specs.OneShard.{marked_in}
use Rattle.law_base.proofs.Tables.{stage_in}
use Rattle.shard_laws.proofs.Order.StepsKeepOrder.{KeepsOrder, order_leaves, order_marked, order_taken, order_ends, home_commits, ended_open}
use Rattle.shard_laws.proofs.Order.WhatRulingsMayWrite.{Ruled, Rulings, ruled_more, ruled_other, parts_new, unended_more}
use Rattle.clv_base.specs.LogRules.{some_parts}
use Rattle.clv_base.specs.Participant.{is_yes_vote}
use Rattle.shard_laws.proofs.Keeping.RecordsAndFrontsKeep.{keeps_quiet, quiet_end, keeps_commit, keeps_purge}
use Rattle.shard_laws.proofs.Keeping.LeavingKeeps.{keeps_finish, keeps_taken, MayGo, Done, one_in}
use Rattle.law_base.proofs.Stages.{absent_go, stage_own, stage_other, gone_by}
use Rattle.law_base.proofs.Sets.{in_filter, none_listed}
use Rattle.law_base.proofs.Changed.{get_set, set_none}
use Rattle.clv_base.proofs.Settling.{do_due_at}
use Rattle.shard_laws.specs.OneShard.{deeds_of}
use Rattle.law_base.proofs.Shards.{Before}
use Rattle.law_base.proofs.Lists.{all_of}
use Rattle.law_base.specs.Undone.{stays_of}
use Rattle.shard_laws.proofs.Order.WhoseWritesStand.{open_stands}
use Rattle.shard_laws.proofs.Keeping.RecordsOfAnUndo.{no_commits, no_prepares}
use Rattle.clv_base.specs.declared.parts.PartFacts.{PartFacts}

-- ---- lists of deeds

pub filter_same : (f h : Deed → Bool) (xs : List Deed) → ((x : Deed) → f x ≡ h x) → filter f xs ≡ filter h xs
filter_same f h [] e = refl
filter_same f h (x ∷ xs) e = ap (λ b. cond b (x ∷ filter f xs) (filter f xs)) (e x) ∙ ap (λ l. cond (h x) (x ∷ l) l) (filter_same f h xs e)

pub filter_both : (f h : Deed → Bool) (xs : List Deed) → filter h (filter f xs) ≡ filter (λ x. f x && h x) xs
filter_both f h [] = refl
filter_both f h (x ∷ xs) = at (f x) (filter_both f h xs)
  where
    at : (b : Bool) → filter h (filter f xs) ≡ filter (λ x. f x && h x) xs → filter h (cond b (x ∷ filter f xs) (filter f xs)) ≡ cond (b && h x) (x ∷ filter (λ x. f x && h x) xs) (filter (λ x. f x && h x) xs)
    at true e = ap (λ l. cond (h x) (x ∷ l) l) e
    at false e = e

-- a list with some left out
pub data PartOf : List Deed → List Deed → Type 0 where
  nothing : PartOf [] []
  also : (x : Deed) {xs ys : List Deed} → PartOf xs ys → PartOf (x ∷ xs) (x ∷ ys)
  only : (y : Deed) {xs ys : List Deed} → PartOf xs ys → PartOf xs (y ∷ ys)

pub part_same : (xs : List Deed) → PartOf xs xs
part_same [] = nothing
part_same (x ∷ xs) = also x (part_same xs)

pub part_push : (x : Deed) (xs ys : List Deed) → PartOf xs ys → PartOf (xs ++ x ∷ []) (ys ++ x ∷ [])
part_push x _ _ nothing = also x nothing
part_push x _ _ (also y {xs = xs} {ys = ys} p) = also y (part_push x xs ys p)
part_push x xs _ (only y {ys = ys} p) = only y (part_push x xs ys p)

pub part_more : (x : Deed) (xs ys : List Deed) → PartOf xs ys → PartOf xs (ys ++ x ∷ [])
part_more x _ _ nothing = only x nothing
part_more x _ _ (also y {xs = xs} {ys = ys} p) = also y (part_more x xs ys p)
part_more x xs _ (only y {ys = ys} p) = only y (part_more x xs ys p)

pub part_filter : (f : Deed → Bool) (xs ys : List Deed) → PartOf xs ys → PartOf (filter f xs) ys
part_filter f _ _ nothing = nothing
part_filter f _ _ (also y {xs = xs} {ys = ys} p) = at (f y) (part_filter f xs ys p)
  where
    at : (b : Bool) → PartOf (filter f xs) ys → PartOf (cond b (y ∷ filter f xs) (filter f xs)) (y ∷ ys)
    at true q = also y q
    at false q = only y q
part_filter f xs _ (only y {ys = ys} p) = only y (part_filter f xs ys p)

-- what is true of all is true of these
pub part_all : (P : Deed → Type 0) (xs ys : List Deed) → PartOf xs ys → AllByRecursion P ys → AllByRecursion P xs
part_all P _ _ nothing a = tt
part_all P _ _ (also y {xs = xs} {ys = ys} p) a = (a.0, part_all P xs ys p a.1)
part_all P xs _ (only y {ys = ys} p) a = part_all P xs ys p a.1

-- ---- what is true of a state and all that was done in it

-- what a past has of what was done, with all deeds, and those that were told
abbrev pub did : List Deed → List TxId → Past → Deeds
did all told g = record { done = all; asked = g.asked; told = told; met = g.met; fell = g.fell }

pub as_done : (d : Deeds) (g : Past) → g.asked ≡ d.asked → g.met ≡ d.met → g.fell ≡ d.fell → did d.done d.told g ≡ d
as_done d g a m f = ap (λ l. record d { asked = l; met = g.met; fell = g.fell }) a ∙ ap (λ l. record d { met = l; fell = g.fell }) m ∙ ap (λ l. record d { fell = l }) f

-- never to be committed or finished here
abbrev pub Lost : Past → TxId → Type 0
Lost g t = tx_in t g.lost ≡ true

-- an undecided request is of one that is not committed here, or it has no other shard, and its COMMIT was written at once
abbrev pub Open : ℕ → List LogRecord → TxId → Request → Type 0
Open shard log t q = (committed_in log t ≡ false) ⊎ ((others shard q.touched ≡ []) × (q.votes ≡ []))

-- it asked, or it is of an earlier run
abbrev pub AskedOrOld : Past → ℕ → TxId → Type 0
AskedOrOld g run t = (tx_in t g.asked ≡ true) ⊎ (t.run < run)

-- what of a shard its invariant reads
pub record Seen : Type 0 where
  pub shard : ℕ
  pub run : ℕ
  pub view : View
  pub voters : Table Voter
  pub requests : Table Request

abbrev pub seen_of : Shard → Seen
seen_of s = record { shard = s.shard; run = s.run; view = view_of s; voters = s.voters; requests = s.requests }

-- what was done: of each transaction the past has all its deeds, or it is lost; and these in the order in which all were done
pub record SoundAnswers (all done : List Deed) (lost : List TxId) : Type 0 where
  pub told : (t : TxId) → (tx_in t lost ≡ true) ⊎ (deeds_of t done ≡ deeds_of t all)
  pub within : PartOf done all

-- requests: an undecided one is open, a finished one is over, and of whose undecided request this is the home, it did not fall
pub record SoundRequests (shard : ℕ) (over fell : List TxId) (parts : Table Held) (log : List LogRecord) (requests : Table Request) : Type 0 where
  pub undecided : (t : TxId) (q : Request) → tx_get t requests ≡ Some q → q.state ≡ Undecided → Open shard log t q
  pub readers : (t : TxId) (q : Request) → tx_get t requests ≡ Some q → q.state ≡ Finished → tx_in t over ≡ true
  pub unfallen : (t : TxId) (q : Request) → tx_get t requests ≡ Some q → q.state ≡ Undecided → is_present (stage_in parts t) ≡ true → tx_in t fell ≡ false

-- voters: no home is asked by another; what votes and has no write that stands is not committed; a part that voted Read has left
pub record SoundVoters (parts : Table Held) (log : List LogRecord) (voters : Table Voter) (requests : Table Request) : Type 0 where
  pub apart : (t : TxId) (v : Voter) → tx_get t voters ≡ Some v → tx_get t requests ≡ None
  pub unvoted : (t : TxId) (v : Voter) → tx_get t voters ≡ Some v → has_standing log t ≡ false → committed_in log t ≡ false
  pub read : (t : TxId) (v : Voter) → tx_get t voters ≡ Some v → v.vote ≡ Some Read → stage_in parts t ≡ Some (Gone None)

-- each group reads only what its type names, and all of them only what is seen: a step that leaves this alone hands it on
pub record SoundIn (all : List Deed) (g : Past) (v : Seen) : Type 0 where
  pub kept : Kept g v.view
  pub answers : SoundAnswers all g.done g.lost
  pub open answers use *
  pub requests : SoundRequests v.shard g.over g.fell v.view.parts v.view.log v.requests
  pub open requests use *
  pub voters : SoundVoters v.view.parts v.view.log v.voters v.requests
  pub open voters use *
  -- who is committed asked, or is of an earlier run
  pub asked : (t : TxId) → committed_in v.view.log t ≡ true → AskedOrOld g v.run t
  -- who fell and who is lost
  pub falls : Falls g.asked g.fell g.lost g.over v.view.parts v.view.pairs v.view.log v.view.durable
  -- what the order rules of its log rest on
  pub order : KeepsOrder g.asked v.shard v.run v.view.parts v.view.pairs v.view.log v.requests

abbrev pub Sound : List Deed → Past → Shard → Type 0
Sound all g s = SoundIn all g (seen_of s)

abbrev pub More_over : Past → Past → Type 0
More_over g h = (t : TxId) → tx_in t g.over ≡ true → tx_in t h.over ≡ true

abbrev pub After : List Deed → Past → Shard → Type 0
After all g t = (h : Past) × Sound all h t × (h.start ≡ g.start) × (h.base ≡ g.base) × (h.asked ≡ g.asked) × More_over g h × (h.met ≡ g.met) × (h.fell ≡ g.fell)

pub then_after : (all : List Deed) (g h : Past) (t : Shard) → h.start ≡ g.start → h.base ≡ g.base → h.asked ≡ g.asked → More_over g h → h.met ≡ g.met → h.fell ≡ g.fell → After all h t → After all g t
then_after all g h t a b c m x w (i, s, d, e, f, n, y, z) = (i, s, d ∙ a, e ∙ b, f ∙ c, (λ u o. n u (m u o)), y ∙ x, z ∙ w)

pub at_once : (all : List Deed) (g : Past) (t : Shard) → Sound all g t → After all g t
at_once all g t s = (g, s, refl, refl, refl, (λ u o. o), refl, refl)

pub data Next (all : List Deed) (g : Past) : Option Shard → Type 0 where
  nothing : Next all g None
  step : {t : Shard} → After all g t → Next all g (Some t)

-- ---- changed requests

-- a request with another ruling
pub rulings_set : (shard run : ℕ) (log : List LogRecord) (requests : Table Request) (t : TxId) (w : Request) → Rulings shard run requests log → Ruled shard run log t w → Rulings shard run (tx_set t w requests) log
rulings_set shard run log requests t w old own u q e =
    ⊎_elim (λ p. subst (λ z. Ruled shard run log u z) (sym p.1) (subst (λ z. Ruled shard run log z w) (sym p.0) own)) (λ p. old u q p.1) (get_set t u w q requests e)

pub order_set : (asked : List TxId) (s : Shard) (t : TxId) (w : Request) → KeepsOrder asked s.shard s.run s.local.parts s.local.pairs s.local.log s.requests → Ruled s.shard s.run s.local.log t w
    → KeepsOrder asked s.shard s.run s.local.parts s.local.pairs s.local.log (tx_set t w s.requests)
order_set asked s t w k own = record { ordered = k.ordered; lying = k.lying; rulings = rulings_set s.shard s.run s.local.log s.requests t w k.rulings own; asks = k.asks }

refused_commit : (c : AbortCause) (ps : List ℕ) → Refused c ≡ Committed ps → ⊥
refused_commit c ps e = absurd cc

finished_commit : (ps : List ℕ) → Finished ≡ Committed ps → ⊥
finished_commit ps e = absurd cc

-- rulings that are none of two
ruled_open : (s : Shard) (t : TxId) (w : Request) → (w.state ≡ Undecided → ⊥) → (log : List LogRecord) → ((u : TxId) (q : Request) → tx_get u s.requests ≡ Some q → q.state ≡ Undecided → Open s.shard log u q)
    → (u : TxId) (q : Request) → tx_get u (tx_set t w s.requests) ≡ Some q → q.state ≡ Undecided → Open s.shard log u q
ruled_open s t w ne log old u q e un = ⊎_elim (λ p. absurd (ne (ap (λ r. r.state) (sym p.1) ∙ un))) (λ p. old u q p.1 un) (get_set t u w q s.requests e)

ruled_reader : (g : Past) (s : Shard) (t : TxId) (w : Request) → (w.state ≡ Finished → tx_in t g.over ≡ true) → ((u : TxId) (q : Request) → tx_get u s.requests ≡ Some q → q.state ≡ Finished → tx_in u g.over ≡ true)
    → (u : TxId) (q : Request) → tx_get u (tx_set t w s.requests) ≡ Some q → q.state ≡ Finished → tx_in u g.over ≡ true
ruled_reader g s t w own old u q e f = ⊎_elim (λ p. ap (λ z. tx_in z g.over) p.0 ∙ own (ap (λ r. r.state) (sym p.1) ∙ f)) (λ p. old u q p.1 f) (get_set t u w q s.requests e)

-- ---- what is due

-- one is finished
-- who is done, and of whom a write stands, is committed
stands_done : (s : Shard) (t u : TxId) → u ≡ t → Done (view_of s) t → has_standing s.local.log u ≡ true → committed_in s.local.log u ≡ true
stands_done s t u e done w =
    ⊎_elim (λ d. ap (committed_in s.local.log) e ∙ durable_committed s.local.log s.durable t d) (λ d. absurd (both_ways _ d.1 (subst (λ z. has_standing s.local.log z ≡ true) e w))) done

-- of one that is here, prepared and not committed a write stands
prepared_here : (all : List Deed) (g : Past) (s : Shard) (t : TxId) → Sound all g s → is_present (stage_of s.local t) ≡ true → committed_in s.local.log t ≡ false → prepared_in s.local.log t ≡ true → has_standing s.local.log t ≡ true
prepared_here all g s t h here n p = ⊎_elim (λ e. e) (λ a. absurd (both_ways _ (h.order.ordered.unaborted t here) a)) (open_stands s.shard s.local.log h.order.ordered.in_order t p n)

-- who is done is not lost
done_alive : (all : List Deed) (g : Past) (s : Shard) (t : TxId) → Sound all g s → stage_of s.local t ≡ Some Closed → Done (view_of s) t → tx_in t g.lost ≡ false
done_alive all g s t h closed done = false_from_ne_true _ (λ l. ⊎_elim
    (λ d. both_ways _ (h.falls.open_ t l) (durable_committed s.local.log s.durable t d))
    (λ d. ⊎_elim
    (λ e. ⊎_elim
    (λ i. both_ways _ d.1 (prepared_here all g s t h (ap is_present closed) d.0 (h.falls.back t i (ap is_present closed))))
    (λ i. both_ways false refl (sym (ap is_doomed closed) ∙ i)) e)
    (λ q. both_ways _ (h.falls.open_ q.0 q.2) (durable_committed s.local.log s.durable q.0 (d.2 q.0 q.1))) (h.falls.why t l)) done)

-- who is here and whose predecessors are committed is not lost, if it did not fall
pub here_alive : (all : List Deed) (g : Past) (s : Shard) (t : TxId) → Sound all g s → is_present (stage_of s.local t) ≡ true → tx_in t g.fell ≡ false → ((p : TxId) → is_pair s.local.pairs t p ≡ true → committed_in s.local.log p ≡ true) → tx_in t g.lost ≡ false
here_alive all g s t h here unfallen before = false_from_ne_true _ (λ l. ⊎_elim
    (λ e. ⊎_elim (λ i. both_ways _ unfallen i) (λ i. not_doomed (stage_of s.local t) here i) e)
    (λ q. both_ways _ (h.falls.open_ q.0 q.2) (before q.0 q.1)) (h.falls.why t l))
  where
    not_doomed : (o : Option Stage) → is_present o ≡ true → is_doomed o ≡ true → ⊥
    not_doomed None e d = both_ways false refl e
    not_doomed (Some Active) e d = both_ways false refl d
    not_doomed (Some Closed) e d = both_ways false refl d
    not_doomed (Some (Gone x)) e d = both_ways false refl e

was_here : (s : Shard) (t u : TxId) → is_present (stage_in (gone_in (t ∷ []) None s.local.parts) u) ≡ true → is_present (stage_of s.local u) ≡ true
was_here s t u e = false_or (is_present (stage_of s.local u)) refl
  where
    false_or : (b : Bool) → is_present (stage_of s.local u) ≡ b → b ≡ true
    false_or true f = refl
    false_or false f = absurd (both_ways _ (absent_go (t ∷ []) None u s.local.parts f) e)

finished : (all : List Deed) (g : Past) (s : Shard) (t : TxId) → Sound all g s → stage_of s.local t ≡ Some Closed → Done (view_of s) t → Sound all (record g { over = t ∷ g.over }) (finish_part t s)
finished all g s t h closed done = record {
  kept = keeps_finish g (view_of s) t h.kept closed done;
  answers = h.answers;
  requests = record { undecided = h.undecided; readers = λ u q e f. or_right (tx_same t u) _ (h.readers u q e f); unfallen = λ u q e un here. h.unfallen u q e un (was_here s t u here) };
  voters = record { apart = h.apart; unvoted = h.unvoted; read = λ u v e f. gone_stays t u s.local.parts (h.read u v e f) };
  asked = h.asked;
  falls = falls_over g.asked g.fell g.lost g.over (gone_in (t ∷ []) None s.local.parts) (pairs_without (t ∷ []) s.local.pairs) s.local.log s.durable t (done_alive all g s t h closed done)
      (falls_finish g.asked g.fell g.lost g.over s.local.parts s.local.pairs s.local.log s.durable t h.falls (done_alive all g s t h closed done)
      (λ c. ⊎_elim (λ d. d) (λ d. absurd (both_ways _ d.0 c)) done) (λ p. ⊎_elim (λ c. c) (λ n. stands_done s t t refl done (prepared_here all g s t h (ap is_present closed) n p)) (cases_Bool (committed_in s.local.log t))));
  order = order_leaves g.asked s.shard s.run s.local.parts s.local.pairs s.local.log s.requests h.order (t ∷ []) None (λ u i. inl (λ w. stands_done s t u (one_in t u i) done w));
}

gone_closed : ◌≡◌ {A = Option Stage} (Some (Gone None)) (Some Closed) → ⊥
gone_closed e = absurd cc

-- one that was finished is finished again
again_falls : (all : List Deed) (g : Past) (s : Shard) (t : TxId) → Sound all g s → stage_of s.local t ≡ Some (Gone None) → Falls g.asked g.fell g.lost g.over (gone_in (t ∷ []) None s.local.parts) (pairs_without (t ∷ []) s.local.pairs) s.local.log s.durable
again_falls all g s t h gone =
    subst (λ ps. Falls g.asked g.fell g.lost g.over (gone_in (t ∷ []) None s.local.parts) ps s.local.log s.durable) (sym (pairs_none t s.local.parts s.local.pairs gone h.kept.successors))
    (falls_parts g.asked g.fell g.lost g.over s.local.parts (gone_in (t ∷ []) None s.local.parts) s.local.pairs s.local.log s.durable (λ u. ap is_present (same_again t s.local.parts gone u)) (λ u. ap is_doomed (same_again t s.local.parts gone u)) h.falls)

finished_again : (all : List Deed) (g : Past) (s : Shard) (t : TxId) → Sound all g s → stage_of s.local t ≡ Some (Gone None) → Sound all g (finish_part t s)
finished_again all g s t h gone = record {
  kept = keeps_again g (view_of s) t h.kept gone;
  answers = h.answers;
  requests = record { undecided = h.undecided; readers = h.readers; unfallen = λ u q e un here. h.unfallen u q e un (was_here s t u here) };
  voters = record { apart = h.apart; unvoted = h.unvoted; read = λ u v e f. gone_stays t u s.local.parts (h.read u v e f) };
  asked = h.asked;
  falls = again_falls all g s t h gone;
  order = order_leaves g.asked s.shard s.run s.local.parts s.local.pairs s.local.log s.requests h.order (t ∷ []) None
      (λ u i. inr ((λ c. gone_closed (sym gone ∙ ap (stage_of s.local) (sym (one_in t u i)) ∙ c)), (λ p e. both_ways _ (ap is_present (ap (stage_of s.local) (one_in t u i) ∙ gone)) (h.kept.successors u p e))));
}

-- a part is marked
pub marked_sound : (all : List Deed) (g : Past) (s : Shard) (t : TxId) → Sound all g s → Sound all g (with_local (mark_dropped t) s)
marked_sound all g s t h = record {
  kept = keeps_marked g (view_of s) t h.kept;
  answers = h.answers;
  requests = record { undecided = h.undecided; readers = h.readers; unfallen = λ u q e un here. h.unfallen u q e un (ap is_present (sym (stage_marked t u s.local.parts)) ∙ here) };
  voters = record { apart = h.apart; unvoted = h.unvoted; read = λ u v e f. stage_marked t u s.local.parts ∙ h.read u v e f };
  asked = h.asked;
  falls = falls_parts g.asked g.fell g.lost g.over s.local.parts (marked_in t s.local.parts) s.local.pairs s.local.log s.durable (λ u. ap is_present (stage_marked t u s.local.parts)) (λ u. ap is_doomed (stage_marked t u s.local.parts)) h.falls;
  order = order_marked g.asked s.shard s.run s.local.parts s.local.pairs s.local.log s.requests t h.order;
}

due_cond : (all : List Deed) (g : Past) (b : Bool) (x y : Option Shard) → (b ≡ true → Next all g x) → (b ≡ false → Next all g y) → Next all g (cond b x y)
due_cond all g true x y p q = p refl
due_cond all g false x y p q = q refl

or_next : (all : List Deed) (g : Past) (x y : Option Shard) → Next all g x → Next all g y → Next all g (or_else x y)
or_next all g None y p q = q
or_next all g (Some t) y p q = p

over_more : (g : Past) (t : TxId) → More_over g (record g { over = t ∷ g.over })
over_more g t u o = or_right (tx_same t u) _ o

commit_next : (all : List Deed) (g : Past) (s : Shard) (tx : TxId) (o : Option Stage) → Sound all g s → stage_of s.local tx ≡ o → Next all g (commit_due s tx o)
commit_next all g s tx None h e = nothing
commit_next all g s tx (Some Active) h e = nothing
commit_next all g s tx (Some Closed) h e =
    due_cond all g (commit_durable s.local.log s.durable tx) (Some (with_commit_done s tx)) None
    (λ d. let f = finished all g s tx h e (inl d) in step (record g { over = tx ∷ g.over }, f, refl, refl, refl, over_more g tx, refl, refl)) (λ d. nothing)
commit_next all g s tx (Some (Gone d)) h e = nothing

-- a vote changes what the shard keeps of the voter alone
voted_sound : (all : List Deed) (g : Past) (s : Shard) (tx : TxId) (v : Voter) (vote : Vote) → Sound all g s → tx_get tx s.voters ≡ Some v → (vote ≡ Read → stage_of s.local tx ≡ Some (Gone None)) → Sound all g (with_vote s tx v vote)
voted_sound all g s tx v vote h e left = record {
  kept = h.kept;
  answers = h.answers;
  requests = h.requests;
  voters = record {
    apart = λ u w f. ⊎_elim (λ p. subst (λ z. tx_get z s.requests ≡ None) (sym p.0) (h.apart tx v e)) (λ p. h.apart u w p.1) (get_set tx u (voted vote v) w s.voters f);
    unvoted = λ u w f. ⊎_elim (λ p. subst (λ z. has_standing s.local.log z ≡ false → committed_in s.local.log z ≡ false) (sym p.0) (h.unvoted tx v e)) (λ p. h.unvoted u w p.1) (get_set tx u (voted vote v) w s.voters f);
    read = λ u w f i. ⊎_elim (λ p. ap (stage_of s.local) p.0 ∙ left (same_Some vote Read (ap (λ z. z.vote) (sym p.1) ∙ i))) (λ p. h.read u w p.1 i) (get_set tx u (voted vote v) w s.voters f);
  };
  asked = h.asked;
  falls = h.falls;
  order = h.order;
}

-- a Read is given again, or where no write of the part stands and its predecessors' COMMITs are durable
abbrev ReadNow : Shard → TxId → Type 0
ReadNow s tx = (stage_of s.local tx ≡ Some Closed) × (has_durable_predecessors (facts_of s tx) ≡ true) × (has_standing s.local.log tx ≡ false)

gone_read : (o : Option TxId) → gone_vote o ≡ Some Read → ⊥
gone_read None e = none_some Read e
gone_read (Some d) e = let x = same_Some (No (Doomed d)) Read e in absurd cc

closed_read : (f : PartFacts) (a b : Bool) → cond a (vote_by_writes f b) None ≡ Some Read → (a ≡ true) × (b ≡ false)
closed_read f false b e = absurd (none_some Read e)
closed_read f true true e = absurd (never (has_durable_prepare f) e)
  where
    never : (c : Bool) → cond c (Some Yes) None ≡ Some Read → ⊥
    never true e = let x = same_Some Yes Read e in absurd cc
    never false e = none_some Read e
closed_read f true false e = (refl, refl)

read_new : (s : Shard) (tx : TxId) (v : Voter) (o : Option Stage) → stage_of s.local tx ≡ o → vote_in_state (facts_of s tx) v.seen (state_by o) ≡ Some Read → ReadNow s tx
read_new s tx v None e f = let x = same_Some (No (RestartedWhy v.seen s.local.epoch)) Read f in absurd cc
read_new s tx v (Some Active) e f = absurd (none_some Read f)
read_new s tx v (Some (Gone d)) e f = absurd (gone_read (doom_by (stage_of s.local tx)) f)
read_new s tx v (Some Closed) e f = let c = closed_read (facts_of s tx) (has_durable_predecessors (facts_of s tx)) (has_standing s.local.log tx) f in (e, c.0, c.1)

read_first : (s : Shard) (tx : TxId) (v : Voter) (o : Option Vote) → v.vote ≡ o → first_vote (facts_of s tx) v.seen o ≡ Some Read → (v.vote ≡ Some Read) ⊎ ReadNow s tx
read_first s tx v None e f = inr (read_new s tx v (stage_of s.local tx) refl f)
read_first s tx v (Some vote) e f = inl (e ∙ f)

read_by : (s : Shard) (tx : TxId) (v : Voter) (b : Bool) → vote_owed (facts_of s tx) v b ≡ Some Read → (v.vote ≡ Some Read) ⊎ ReadNow s tx
read_by s tx v true e = absurd (none_some Read e)
read_by s tx v false e = read_first s tx v v.vote refl e

give_next : (all : List Deed) (g : Past) (s : Shard) (tx : TxId) (v : Voter) (o : Option Vote) → Sound all g s → tx_get tx s.voters ≡ Some v → vote_by (facts_of s tx) v ≡ o → Next all g (give_vote s tx v o)
give_next all g s tx v None h e f = nothing
give_next all g s tx v (Some Yes) h e f = step (at_once all g (with_vote s tx v Yes) (voted_sound all g s tx v Yes h e (λ x. absurd cc)))
give_next all g s tx v (Some (No why)) h e f = step (at_once all g (with_vote s tx v (No why)) (voted_sound all g s tx v (No why) h e (λ x. absurd cc)))
give_next all g s tx v (Some Read) h e f = ⊎_elim again first (read_by s tx v (v.owed == 0) f)
  where
    again : v.vote ≡ Some Read → Next all g (Some (finish_reader tx Read (with_vote s tx v Read)))
    again r =
        let gone = h.read tx v e r in
        let x = voted_sound all g (finish_part tx s) tx v Read (finished_again all g s tx h gone) e (λ y. gone_stays tx tx s.local.parts gone) in
        step (at_once all g (finish_part tx (with_vote s tx v Read)) x)

    first : ReadNow s tx → Next all g (Some (finish_reader tx Read (with_vote s tx v Read)))
    first r =
        let x = voted_sound all (record g { over = tx ∷ g.over }) (finish_part tx s) tx v Read
        (finished all g s tx h r.0 (inr (h.unvoted tx v e r.2, r.2, durable_before s tx r.1))) e
        (λ y. stage_own (tx ∷ []) None tx s.local.parts (or_left _ _ (tx_self tx)) ∙ ap (gone_by None) r.0) in
        step (record g { over = tx ∷ g.over }, x, refl, refl, refl, over_more g tx, refl, refl)

vote_next : (all : List Deed) (g : Past) (s : Shard) (tx : TxId) (o : Option Voter) → Sound all g s → tx_get tx s.voters ≡ o → Next all g (vote_due s tx o)
vote_next all g s tx None h e = nothing
vote_next all g s tx (Some v) h e = give_next all g s tx v (vote_by (facts_of s tx) v) h e refl

-- ---- rolled back

none_rolled : (s : Shard) (tx t : TxId) → committed_in s.local.log t ≡ false → committed_in (s.local.log ++ aborts_of s.local.log (doomed_here s.local tx) ++ clrs_of (doomed_here s.local tx) (standing s.local.log)) t ≡ false
none_rolled s tx t e =
    ap (λ l. committed_in l t) (append_assoc s.local.log (aborts_of s.local.log (doomed_here s.local tx)) (clrs_of (doomed_here s.local tx) (standing s.local.log)))
    ∙ uncommitted_append s.local.log _ t e (no_commits (doomed_here s.local tx) t s.local.log)

rolled_standing : (s : Shard) (tx : TxId) → standing (s.local.log ++ aborts_of s.local.log (doomed_here s.local tx) ++ clrs_of (doomed_here s.local tx) (standing s.local.log)) ≡ filter (stays_of (doomed_here s.local tx)) (standing s.local.log)
rolled_standing s tx = standing_undone (doomed_here s.local tx) s.local.log

rolled_stands : (s : Shard) (tx t : TxId) → tx_in t (doomed_here s.local tx) ≡ false → has_standing s.local.log t ≡ true → has_standing (s.local.log ++ aborts_of s.local.log (doomed_here s.local tx) ++ clrs_of (doomed_here s.local tx) (standing s.local.log)) t ≡ true
rolled_stands s tx t out e = ap (λ ws. list_any (λ w. tx_same t w.tx) ws) (rolled_standing s tx) ∙ still_left (is_of (doomed_here s.local tx)) t (standing s.local.log) (all_of _ (λ w same. subst (λ z. tx_in z (doomed_here s.local tx) ≡ false) (tx_true t w.tx same) out) (standing s.local.log)) e

-- the deeds of one that stays
pub own_kept : (set : List TxId) (t : TxId) (ds : List Deed) → tx_in t set ≡ false → deeds_of t (deeds_by_chosen (is_alive set) ds) ≡ deeds_of t ds
own_kept set t ds out = filter_both (λ d. is_alive set (doer d)) (λ d. tx_same (doer d) t) ds ∙ filter_same _ _ ds (λ d. at d (tx_same (doer d) t) refl)
  where
    none : (a : Bool) → (a && false) ≡ false
    none true = refl
    none false = refl

    at : (d : Deed) (b : Bool) → tx_same (doer d) t ≡ b → (is_alive set (doer d) && b) ≡ b
    at d true e = and_from _ _ (ap not (subst (λ z. tx_in z set ≡ false) (sym (tx_true (doer d) t e)) out)) refl
    at d false e = none (is_alive set (doer d))

rolled_asked : (all : List Deed) (g : Past) (s : Shard) (tx t : TxId) → Sound all g s → committed_in (s.local.log ++ aborts_of s.local.log (doomed_here s.local tx) ++ clrs_of (doomed_here s.local tx) (standing s.local.log)) t ≡ true → AskedOrOld g s.run t
rolled_asked all g s tx t h e = ⊎_elim (λ c. h.asked t c) (λ c. absurd (both_ways _ (none_rolled s tx t c) e)) (cases_Bool (committed_in s.local.log t))

-- whom the PREPARE of one that is here lists is committed, or its predecessor
lists_here : (all : List Deed) (g : Past) (s : Shard) → Sound all g s → (u p : TxId) → is_present (stage_of s.local u) ≡ true → tx_in p (listed_in s.local.log u) ≡ true → (committed_in s.local.log p ≡ true) ⊎ (is_pair s.local.pairs u p ≡ true)
lists_here all g s h u p here i =
    ⊎_elim (λ a. absurd (none_listed p _ (unlisted s.local.log u (h.kept.prepared.unprepared u a)) i)) (λ c. h.order.ordered.lists u p c i) (present_is (stage_of s.local u) here)

pub rolled : (all : List Deed) (g : Past) (s : Shard) (tx : TxId) → Sound all g s → committed_in s.local.log tx ≡ false → After all g (with_local (roll_back tx) s)
rolled all g s tx h open_ =
    let go : MayGo (view_of s) (doomed_here s.local tx) = may_go g s tx h.kept open_ in (
      record g { done = deeds_by_chosen (is_alive (doomed_here s.local tx)) g.done; lost = doomed_here s.local tx ++ g.lost },
      record {
        kept = keeps_taken g (view_of s) (doomed_here s.local tx) tx h.kept go ((order_of s.shard s.local.log h.order.ordered.in_order).writes).chain (upward_under (doomed_here s.local tx) s.local.pairs (committed_in s.local.log) (standing s.local.log) go.upward (λ u c. false_from_ne_true _ (λ i. both_ways _ (go.undecided u i) c)) h.order.lying);
        answers = record {
          told = λ u. ⊎_elim (λ i. inl (in_first (doomed_here s.local tx) g.lost u i)) (λ i. ⊎_elim (λ l. inl (in_more (doomed_here s.local tx) g.lost u l)) (λ e. inr (own_kept (doomed_here s.local tx) u g.done i ∙ e)) (h.told u)) (cases_Bool (tx_in u (doomed_here s.local tx)));
          within = part_filter (λ d. is_alive (doomed_here s.local tx) (doer d)) g.done all h.within;
        };
        requests = record { undecided = λ t q e u. ⊎_elim (λ c. inl (none_rolled s tx t c)) (λ c. inr c) (h.undecided t q e u); readers = h.readers; unfallen = λ u q e un here. h.unfallen u q e un (was_present (doomed_here s.local tx) (Some tx) u s.local.parts here) };
        voters = record {
          apart = h.apart;
          unvoted = λ t v e w. none_rolled s tx t (⊎_elim (λ i. go.undecided t i) (λ i. h.unvoted t v e (false_from_ne_true _ (λ x. both_ways _ w (rolled_stands s tx t i x)))) (cases_Bool (tx_in t (doomed_here s.local tx))));
          read = λ t v e f. let r = h.read t v e f in
              stage_other (doomed_here s.local tx) (Some tx) t s.local.parts (false_from_ne_true _ (λ i. both_ways false refl (sym (ap is_present r) ∙ (in_filter (λ x. is_present (stage_of s.local x)) t (doomed_by s.local tx) i).1))) ∙ r;
        };
        asked = λ t e. rolled_asked all g s tx t h e;
        falls = subst (λ l. Falls g.asked g.fell (doomed_here s.local tx ++ g.lost) g.over (gone_in (doomed_here s.local tx) (Some tx) s.local.parts) (pairs_without (doomed_here s.local tx) s.local.pairs) l s.durable) (sym (append_assoc s.local.log (aborts_of s.local.log (doomed_here s.local tx)) (clrs_of (doomed_here s.local tx) (standing s.local.log))))
            (falls_taken g.asked g.fell g.lost g.over s.local.parts s.local.pairs s.local.log (aborts_of s.local.log (doomed_here s.local tx) ++ clrs_of (doomed_here s.local tx) (standing s.local.log)) s.durable (doomed_here s.local tx) tx h.falls go.upward go.undecided go.present
            (λ u i. false_from_ne_true _ (λ o. ⊎_elim (λ d. both_ways _ (go.undecided u i) (durable_committed s.local.log s.durable u d)) (λ d. both_ways _ d.2 (go.present u i)) (h.kept.over u o)))
            (λ u p here i. lists_here all g s h u p here i) (committed_lists s.shard s.local.log h.order.ordered.in_order) (λ u. no_prepares (doomed_here s.local tx) u s.local.log) (λ u. no_commits (doomed_here s.local tx) u s.local.log));
        order = order_taken g.asked s.shard s.run s.local.parts s.local.pairs s.local.log s.requests h.order (doomed_here s.local tx) tx go.upward go.undecided go.present (doomed_once s.local tx);
      },
      refl,
      refl,
      refl,
      (λ u o. o),
      refl,
      refl,
    )

-- ---- the home decides

pub committed_not : (parts : List ℕ) → Committed parts ≡ Undecided → ⊥
committed_not parts e = absurd cc

pub committed_unfinished : (parts : List ℕ) → Committed parts ≡ Finished → ⊥
committed_unfinished parts e = absurd cc

finished_not : Finished ≡ Undecided → ⊥
finished_not e = absurd cc

refused_not : (c : AbortCause) → Refused c ≡ Undecided → ⊥
refused_not c e = absurd cc

refused_unfinished : (c : AbortCause) → Refused c ≡ Finished → ⊥
refused_unfinished c e = absurd cc

refused_as : (all : List Deed) (g : Past) (s : Shard) (tx : TxId) (q : Request) (c : AbortCause) (to : List ℕ) → Sound all g s → Sound all g (with_ruling tx q (AbortRuling c to) s)
refused_as all g s tx q c to h = record {
  kept = h.kept;
  answers = h.answers;
  requests = record {
    undecided = ruled_open s tx (record q { state = Refused c }) (refused_not c) s.local.log h.undecided;
    readers = ruled_reader g s tx (record q { state = Refused c }) (λ e. absurd (refused_unfinished c e)) h.readers;
    unfallen = λ u w e f here. ⊎_elim (λ p. absurd (refused_not c (ap (λ z. z.state) (sym p.1) ∙ f))) (λ p. h.unfallen u w p.1 f here) (get_set tx u (record q { state = Refused c }) w s.requests e);
  };
  voters = record { apart = λ t v e. set_none tx t (record q { state = Refused c }) s.requests (h.apart t v e); unvoted = h.unvoted; read = h.read };
  asked = h.asked;
  falls = h.falls;
  order = order_set g.asked s tx (record q { state = Refused c }) h.order (ruled_other s.shard s.run s.local.log tx (record q { state = Refused c }) (refused_not c) (refused_commit c));
}

pub commit_here : (all : List Deed) (g : Past) (s : Shard) (tx : TxId) (parts : List ℕ) → Sound all g s → stage_of s.local tx ≡ Some Closed → committed_in s.local.log tx ≡ false → ((p : TxId) → is_pair s.local.pairs tx p ≡ true → committed_in s.local.log p ≡ true)
    → Kept g (record (view_of s) { log = s.local.log ++ Commit tx parts ∷ [] })
commit_here all g s tx parts h closed open_ before = keeps_commit g (view_of s) tx parts h.kept closed open_ before

pub commit_other : (log : List LogRecord) (tx u : TxId) (parts : List ℕ) → committed_in log u ≡ false → (tx_same u tx ≡ false) → committed_in (log ++ Commit tx parts ∷ []) u ≡ false
commit_other log tx u parts e ne = uncommitted_append log (Commit tx parts ∷ []) u e (ap (λ b. b || false) ne)

pub commit_asked : (all : List Deed) (g : Past) (s : Shard) (tx : TxId) (parts : List ℕ) → Sound all g s → stage_of s.local tx ≡ Some Closed → (u : TxId) → committed_in (s.local.log ++ Commit tx parts ∷ []) u ≡ true → AskedOrOld g s.run u
commit_asked all g s tx parts h closed u e =
    ⊎_elim (λ t. inl (ap (λ z. tx_in z g.asked) (tx_true u tx t) ∙ h.kept.closed tx closed))
    (λ ne. ⊎_elim (λ c. h.asked u c) (λ c. absurd (both_ways _ (commit_other s.local.log tx u parts c ne) e)) (cases_Bool (committed_in s.local.log u)))
    (cases_Bool (tx_same u tx))

-- a COMMIT of one that is here and not lost
pub commit_falls : (all : List Deed) (g : Past) (s : Shard) (tx : TxId) (parts : List ℕ) → Sound all g s → stage_of s.local tx ≡ Some Closed → tx_in tx g.lost ≡ false → Falls g.asked g.fell g.lost g.over s.local.parts s.local.pairs (s.local.log ++ Commit tx parts ∷ []) s.durable
commit_falls all g s tx parts h closed alive = falls_more g.asked g.fell g.lost g.over s.local.parts s.local.pairs s.local.log (Commit tx parts ∷ []) s.durable h.falls (λ u. refl)
    (λ u c. ⊎_elim (λ e. let same = tx_true u tx e in (ap is_present (ap (stage_of s.local) same ∙ closed), ap (λ z. tx_in z g.lost) same ∙ alive)) (λ e. absurd (both_ways false refl e)) (or_cases (tx_same u tx) false c))

-- with the home's COMMIT
committed_order : (asked : List TxId) (s : Shard) (tx : TxId) (q : Request) (parts : List ℕ) → KeepsOrder asked s.shard s.run s.local.parts s.local.pairs s.local.log s.requests → tx_get tx s.requests ≡ Some q → stage_of s.local tx ≡ Some Closed → committed_in s.local.log tx ≡ false → Before s tx
    → q.state ≡ Undecided → nat_in s.shard parts ≡ false → (has_standing s.local.log tx || some_parts parts) ≡ true
    → KeepsOrder asked s.shard s.run s.local.parts s.local.pairs (s.local.log ++ Commit tx parts ∷ []) (tx_set tx (record q { state = Committed parts }) s.requests)
committed_order asked s tx q parts k there closed open_ before un home wrote =
    let c = home_commits asked s.shard s.run s.local.parts s.local.pairs s.local.log s.requests k tx q parts there un closed open_ home before wrote in
    record {
      ordered = c.ordered;
      lying = c.lying;
      asks = c.asks;
      rulings = rulings_set s.shard s.run (s.local.log ++ Commit tx parts ∷ []) s.requests tx (record q { state = Committed parts }) c.rulings (record {
        undecided = λ e. absurd (committed_not parts e);
        committed = λ p ps e n. (
          parts_new s.local.log tx parts open_ ∙ ap Some (same_parts parts (p ∷ ps) e),
          unended_more s.local.log (Commit tx parts ∷ []) tx (ended_open asked s.shard s.run s.local.parts s.local.pairs s.local.log s.requests k tx open_) refl,
        );
      });
    }
  where
    same_parts : (ps qs : List ℕ) → Committed ps ≡ Committed qs → ps ≡ qs
    same_parts ps qs e = cc

update_committed : (all : List Deed) (g : Past) (s : Shard) (tx : TxId) (q : Request) (parts : List ℕ) → Sound all g s → tx_get tx s.requests ≡ Some q → stage_of s.local tx ≡ Some Closed → committed_in s.local.log tx ≡ false → Before s tx → q.state ≡ Undecided → nat_in s.shard parts ≡ false → (has_standing s.local.log tx || some_parts parts) ≡ true → Next all g (rule s tx q (Some (CommitRuling parts)))
update_committed all g s tx q parts h there closed open_ before un home wrote = step (
  g,
  record {
    kept = commit_here all g s tx parts h closed open_ before;
    answers = h.answers;
    requests = record {
      undecided = λ u r e un. ⊎_elim
          (λ p. absurd (committed_not parts (ap (λ z. z.state) (sym p.1) ∙ un)))
          (λ p. ⊎_elim (λ c. inl (commit_other s.local.log tx u parts c (tx_ne u tx p.0))) (λ c. inr c) (h.undecided u r p.1 un))
          (get_set tx u (record q { state = Committed parts }) r s.requests e);
      readers = ruled_reader g s tx (record q { state = Committed parts }) (λ e. absurd (committed_unfinished parts e)) h.readers;
      unfallen = λ u w e f here. ⊎_elim (λ p. absurd (committed_not parts (ap (λ z. z.state) (sym p.1) ∙ f))) (λ p. h.unfallen u w p.1 f here) (get_set tx u (record q { state = Committed parts }) w s.requests e);
    };
    voters = record {
      apart = λ t v e. set_none tx t (record q { state = Committed parts }) s.requests (h.apart t v e);
      unvoted = λ t v e w. commit_other s.local.log tx t parts (h.unvoted t v e (ap (λ ws. list_any (λ x. tx_same t x.tx) ws) (sym (standing_append 0 s.local.log (Commit tx parts ∷ []) [])) ∙ w))
          (tx_ne t tx (λ same. none_some q (sym (h.apart t v e) ∙ ap (λ z. tx_get z s.requests) same ∙ there)));
      read = h.read;
    };
    asked = commit_asked all g s tx parts h closed;
    falls = commit_falls all g s tx parts h closed (here_alive all g s tx h (ap is_present closed) (h.unfallen tx q there un (ap is_present closed)) before);
    order = committed_order g.asked s tx q parts h.order there closed open_ before un home wrote;
  },
  refl,
  refl,
  refl,
  (λ u o. o),
  refl,
  refl,
)

reader_sound : (all : List Deed) (g : Past) (s : Shard) (tx : TxId) (q : Request) → Sound all g s → stage_of s.local tx ≡ Some Closed → Done (view_of s) tx → Sound all (record g { over = tx ∷ g.over }) (do_ruling tx Acknowledge (with_ruling tx q Acknowledge s))
reader_sound all g s tx q h closed done =
    let f = finished all g s tx h closed done in
    record {
      kept = f.kept;
      answers = f.answers;
      requests = record {
        undecided = ruled_open s tx (record q { state = Finished }) finished_not s.local.log h.undecided;
        readers = ruled_reader (record g { over = tx ∷ g.over }) s tx (record q { state = Finished }) (λ e. or_left _ _ (tx_self tx)) f.readers;
        unfallen = λ u w e g2 here. ⊎_elim (λ p. absurd (finished_not (ap (λ z. z.state) (sym p.1) ∙ g2))) (λ p. f.unfallen u w p.1 g2 here) (get_set tx u (record q { state = Finished }) w s.requests e);
      };
      voters = record { apart = λ t v e. set_none tx t (record q { state = Finished }) s.requests (h.apart t v e); unvoted = h.unvoted; read = f.read };
      asked = h.asked;
      falls = f.falls;
      order = order_set g.asked (finish_part tx s) tx (record q { state = Finished }) f.order (ruled_other s.shard s.run s.local.log tx (record q { state = Finished }) finished_not finished_commit);
    }

update_next : (all : List Deed) (g : Past) (s : Shard) (tx : TxId) (q : Request) (w : Bool) (ps : List ℕ) → Sound all g s → tx_get tx s.requests ≡ Some q → stage_of s.local tx ≡ Some Closed → committed_in s.local.log tx ≡ false → Before s tx → has_standing s.local.log tx ≡ w → q.state ≡ Undecided → nat_in s.shard ps ≡ false → Next all g (rule s tx q (agreed_ruling (facts_of s tx) w ps))
update_next all g s tx q w (p ∷ ps) h there closed open_ before e un home = update_committed all g s tx q (p ∷ ps) h there closed open_ before un home (or_right (has_standing s.local.log tx) _ refl)
update_next all g s tx q true [] h there closed open_ before e un home = update_committed all g s tx q [] h there closed open_ before un home (or_left _ _ e)
update_next all g s tx q false [] h there closed open_ before e un home = at (has_durable_predecessors (facts_of s tx)) refl
  where
    at : (b : Bool) → has_durable_predecessors (facts_of s tx) ≡ b → Next all g (rule s tx q (cond b (Some Acknowledge) None))
    at true d = step (record g { over = tx ∷ g.over }, reader_sound all g s tx q h closed (inr (open_, e, durable_before s tx d)), refl, refl, refl, over_more g tx, refl, refl)
    at false d = nothing

-- what is agreed on: the part is closed, it is not committed, its predecessors are
pub closed_state : (o : Option Stage) → is_closed_state (state_by o) ≡ true → o ≡ Some Closed
closed_state None e = absurd (both_ways false refl e)
closed_state (Some Active) e = absurd (both_ways false refl e)
closed_state (Some Closed) e = refl
closed_state (Some (Gone d)) e = absurd (both_ways false refl e)

pub no_place : (log : List LogRecord) (tx : TxId) → is_none (commit_lsn log tx) ≡ true → committed_in log tx ≡ false
no_place log tx e = false_from_ne_true _ (λ c. let k = place_some 0 (is_commit_of tx) log c in both_ways false refl (sym (ap is_none k.1) ∙ e))

pub waiting_here : (s : Shard) (tx : TxId) → is_waiting (facts_of s tx) ≡ true → (stage_of s.local tx ≡ Some Closed) × (committed_in s.local.log tx ≡ false)
waiting_here s tx w = let p = and_parts (is_closed_state (state_by (stage_of s.local tx))) (is_none (commit_lsn s.local.log tx)) w in (closed_state (stage_of s.local tx) p.0, no_place s.local.log tx p.1)

none_left : (f : TxId → Bool) (u : TxId) (xs : List TxId) → (length (filter (λ p. not (f p)) xs) == 0) ≡ true → tx_in u xs ≡ true → f u ≡ true
none_left f u [] e i = absurd (both_ways false refl i)
none_left f u (x ∷ xs) e i = at (f x) refl e (none_left f u xs)
  where
    at : (b : Bool) → f x ≡ b → (length (cond (not b) (x ∷ filter (λ p. not (f p)) xs) (filter (λ p. not (f p)) xs)) == 0) ≡ true → ((length (filter (λ p. not (f p)) xs) == 0) ≡ true → tx_in u xs ≡ true → f u ≡ true) → f u ≡ true
    at true t e ih = ⊎_elim (λ h. subst (λ z. f z ≡ true) (tx_true x u h) t) (λ h. ih e h) (or_cases (tx_same x u) (tx_in u xs) i)
    at false t e ih = let z = eqb-true (length (x ∷ filter (λ p. not (f p)) xs)) 0 e in absurd (omega (arith, z))

pub agreed_before : (s : Shard) (tx : TxId) → (length (undecided_of s.local tx) == 0) ≡ true → Before s tx
agreed_before s tx e p i = none_left (committed_in s.local.log) p (predecessors_of s.local.pairs tx) e (pair_in s.local.pairs tx p i)

-- an abort is ruled of one that is not committed
no_refusal : (all : List Deed) (g : Past) (s : Shard) (tx : TxId) (o : Option Stage) → Sound all g s → stage_of s.local tx ≡ o → committed_in s.local.log tx ≡ true → doom_by o ≡ None
no_refusal all g s tx None h e c = refl
no_refusal all g s tx (Some Active) h e c = refl
no_refusal all g s tx (Some Closed) h e c = refl
no_refusal all g s tx (Some (Gone None)) h e c = refl
no_refusal all g s tx (Some (Gone (Some d))) h e c = absurd (both_ways _ (h.kept.doomed tx d e) c)

refusal_open : (all : List Deed) (g : Past) (s : Shard) (tx : TxId) (q : Request) (c : AbortCause) → Sound all g s → Open s.shard s.local.log tx q → refusal tx q (facts_of s tx) ≡ Some c → committed_in s.local.log tx ≡ false
refusal_open all g s tx q c h open_ e =
    ⊎_elim (λ n. n) (λ n. false_from_ne_true _ (λ m. none_some c (sym (ap (λ v. cause_by tx (first_no v) (doom_by (stage_of s.local tx))) n.1 ∙ ap (cause_by tx None) (no_refusal all g s tx (stage_of s.local tx) h refl m)) ∙ e))) open_

refuse_next : (all : List Deed) (g : Past) (s : Shard) (tx : TxId) (q : Request) (o : Option AbortCause) → Sound all g s → Open s.shard s.local.log tx q → refusal tx q (facts_of s tx) ≡ o → Next all g (rule s tx q (refused_ruling s.shard q o))
refuse_next all g s tx q None h open_ e = nothing
refuse_next all g s tx q (Some c) h open_ e =
    let r = rolled all g (with_ruling tx q (AbortRuling c (open_shards s.shard q)) s) tx (refused_as all g s tx q c (open_shards s.shard q) h) (refusal_open all g s tx q c h open_ e) in
    let f = r.1 in
    step (r.0, f, r.2, r.3, r.4, r.5, r.6, r.7)

-- the shard itself is no part of its commit
not_in_filter : (n : ℕ) (f : ℕ → Bool) (xs : List ℕ) → nat_in n xs ≡ false → nat_in n (filter f xs) ≡ false
not_in_filter n f [] e = refl
not_in_filter n f (x ∷ xs) e = at (n == x) refl e (not_in_filter n f xs)
  where
    at : (b : Bool) → (n == x) ≡ b → (b || nat_in n xs) ≡ false → (nat_in n xs ≡ false → nat_in n (filter f xs) ≡ false) → nat_in n (cond (f x) (x ∷ filter f xs) (filter f xs)) ≡ false
    at true q e k = absurd (both_ways true e refl)
    at false q e k = cond_both (f x) (x ∷ filter f xs) (filter f xs) (λ l. nat_in n l ≡ false) (λ c. or_from (n == x) (nat_in n (filter f xs)) q (k e)) (λ c. k e)

others_only : (shard : ℕ) (xs : List ℕ) → nat_in shard (filter (λ p. not (p == shard)) xs) ≡ false
others_only shard [] = refl
others_only shard (x ∷ xs) = at (x == shard) refl (others_only shard xs)
  where
    at : (b : Bool) → (x == shard) ≡ b → nat_in shard (filter (λ p. not (p == shard)) xs) ≡ false → nat_in shard (cond (not b) (x ∷ filter (λ p. not (p == shard)) xs) (filter (λ p. not (p == shard)) xs)) ≡ false
    at true q k = k
    at false q k = or_from (shard == x) (nat_in shard (filter (λ p. not (p == shard)) xs)) (false_from_ne_true _ (λ e. both_ways _ q (eq-eqb x shard (sym (eqb-true shard x e))))) k

not_own_part : (shard : ℕ) (q : Request) → nat_in shard (yes_shards shard q) ≡ false
not_own_part shard q = not_in_filter shard (λ p. is_yes_vote (vote_from p q.votes)) (others shard q.touched) (others_only shard (map (λ t. t.0) q.touched))

undecided_next : (all : List Deed) (g : Past) (s : Shard) (tx : TxId) (q : Request) (b : Bool) → Sound all g s → tx_get tx s.requests ≡ Some q → Open s.shard s.local.log tx q → q.state ≡ Undecided → is_agreed s.shard q (facts_of s tx) ≡ b → Next all g (rule s tx q (undecided_ruling s.shard tx q (facts_of s tx) b))
undecided_next all g s tx q false h there open_ un a = refuse_next all g s tx q (refusal tx q (facts_of s tx)) h open_ refl
undecided_next all g s tx q true h there open_ un a =
    let p = and_parts (is_waiting (facts_of s tx) && (length (undecided_of s.local tx) == 0)) (list_all (λ p. is_good (vote_from p q.votes)) (others s.shard q.touched)) a in
    let r = and_parts (is_waiting (facts_of s tx)) (length (undecided_of s.local tx) == 0) p.0 in
    let w = waiting_here s tx r.0 in
    update_next all g s tx q (has_standing s.local.log tx) (yes_shards s.shard q) h there w.0 w.1 (agreed_before s tx r.1) refl un (not_own_part s.shard q)

-- with the END of a commit
ended_order : (asked : List TxId) (s : Shard) (tx : TxId) (q : Request) (p : ℕ) (ps : List ℕ) → KeepsOrder asked s.shard s.run s.local.parts s.local.pairs s.local.log s.requests → (q.state ≡ Undecided → ⊥) → tx_get tx s.requests ≡ Some q → q.state ≡ Committed (p ∷ ps) → q.is_ended ≡ false
    → KeepsOrder asked s.shard s.run s.local.parts s.local.pairs (s.local.log ++ End tx ∷ []) (tx_set tx (record q { is_ended = true }) s.requests)
ended_order asked s tx q p ps k ne there is open_ =
    let r = (k.rulings tx q there).committed p ps is open_ in
    let c = order_ends asked s.shard s.run s.local.parts s.local.pairs s.local.log s.requests k tx p ps r.0 r.1 in
    record {
      ordered = c.0;
      lying = c.1;
      asks = asked_more asked s.run s.local.log (End tx ∷ []) (λ u. refl) k.asks;
      rulings = λ u w e. ⊎_elim
          (λ i. subst (λ z. Ruled s.shard s.run (s.local.log ++ End tx ∷ []) u z) (sym i.1) (record { undecided = λ un. absurd (ne un); committed = λ n ns f o. absurd (both_ways true o refl) }))
          (λ i. ruled_more s.shard s.run s.local.log (End tx ∷ []) u w (λ un. refl) (ap (λ b. b || false) (tx_ne u tx i.0)) (k.rulings u w i.1))
          (get_set tx u (record q { is_ended = true }) w s.requests e);
    }

end_sound : (all : List Deed) (g : Past) (s : Shard) (tx : TxId) (q : Request) → Sound all g s → (q.state ≡ Undecided → ⊥) → (q.state ≡ Finished → ⊥) → tx_get tx s.requests ≡ Some q → (p : ℕ) (ps : List ℕ) → q.state ≡ Committed (p ∷ ps) → q.is_ended ≡ false → Sound all g (do_ruling tx EndRuling (with_ruling tx q EndRuling s))
end_sound all g s tx q h ne nf there p ps is open_ = record {
  kept = keeps_quiet g (view_of s) (End tx) h.kept (standing_append 0 s.local.log (End tx ∷ []) []) (quiet_end tx);
  answers = h.answers;
  requests = record {
    undecided = ruled_open s tx (record q { is_ended = true }) ne (s.local.log ++ End tx ∷ []) (λ u r e un. ⊎_elim (λ c. inl (uncommitted_append s.local.log (End tx ∷ []) u c refl)) (λ c. inr c) (h.undecided u r e un));
    readers = ruled_reader g s tx (record q { is_ended = true }) (λ e. absurd (nf e)) h.readers;
    unfallen = λ u w e f here. ⊎_elim (λ z. absurd (ne (ap (λ y. y.state) (sym z.1) ∙ f))) (λ z. h.unfallen u w z.1 f here) (get_set tx u (record q { is_ended = true }) w s.requests e);
  };
  voters = record {
    apart = λ t v e. set_none tx t (record q { is_ended = true }) s.requests (h.apart t v e);
    unvoted = λ t v e w. uncommitted_append s.local.log (End tx ∷ []) t (h.unvoted t v e (ap (λ ws. list_any (λ x. tx_same t x.tx) ws) (sym (standing_append 0 s.local.log (End tx ∷ []) [])) ∙ w)) refl;
    read = h.read;
  };
  asked = λ t e. h.asked t (committed_from s.local.log (End tx ∷ []) t refl e);
  falls = falls_more g.asked g.fell g.lost g.over s.local.parts s.local.pairs s.local.log (End tx ∷ []) s.durable h.falls (λ u. refl) (λ u c. absurd (both_ways false refl c));
  order = ended_order g.asked s tx q p ps h.order ne there is open_;
}

end_next : (all : List Deed) (g : Past) (s : Shard) (tx : TxId) (q : Request) (ps : List ℕ) → Sound all g s → (q.state ≡ Undecided → ⊥) → (q.state ≡ Finished → ⊥) → tx_get tx s.requests ≡ Some q → q.state ≡ Committed ps → Next all g (rule s tx q (end_ruling q ps))
end_next all g s tx q [] h ne nf there is = nothing
end_next all g s tx q (p ∷ ps) h ne nf there is = at (not q.is_ended && list_all (λ n. nat_in n q.acknowledged_by) (p ∷ ps)) refl
  where
    at : (b : Bool) → (not q.is_ended && list_all (λ n. nat_in n q.acknowledged_by) (p ∷ ps)) ≡ b → Next all g (rule s tx q (cond b (Some EndRuling) None))
    at true e = step (at_once all g (do_ruling tx EndRuling (with_ruling tx q EndRuling s)) (end_sound all g s tx q h ne nf there p ps is (not-true _ (and_parts (not q.is_ended) (list_all (λ n. nat_in n q.acknowledged_by) (p ∷ ps)) e).0)))
    at false e = nothing

ruling_next : (all : List Deed) (g : Past) (s : Shard) (tx : TxId) (q : Request) (r : RequestState) → Sound all g s → tx_get tx s.requests ≡ Some q → q.state ≡ r → Next all g (rule s tx q (ruling_in s.shard tx q (facts_of s tx) r))
ruling_next all g s tx q Undecided h e f = undecided_next all g s tx q (is_agreed s.shard q (facts_of s tx)) h e (h.undecided tx q e f) f refl
ruling_next all g s tx q (Committed parts) h e f = end_next all g s tx q parts h (λ u. committed_not parts (sym f ∙ u)) (λ u. committed_unfinished parts (sym f ∙ u)) e f
ruling_next all g s tx q Finished h e f = nothing
ruling_next all g s tx q (Refused c) h e f = nothing

request_next : (all : List Deed) (g : Past) (s : Shard) (tx : TxId) (o : Option Request) → Sound all g s → tx_get tx s.requests ≡ o → Next all g (request_due s tx o)
request_next all g s tx None h e = nothing
request_next all g s tx (Some q) h e = ruling_next all g s tx q q.state h e refl

due_next : (all : List Deed) (g : Past) (s : Shard) (tx : TxId) → Sound all g s → Next all g (due_of s tx)
due_next all g s tx h =
    or_next all g _ _ (commit_next all g s tx (stage_of s.local tx) h refl) (or_next all g _ _ (vote_next all g s tx (tx_get tx s.voters) h refl) (request_next all g s tx (tx_get tx s.requests) h refl))

found_next : (all : List Deed) (g : Past) (o rest : Option Shard) → Next all g o → Next all g rest → Next all g (elim o [ Some t ↦ Some t | None ↦ rest ])
found_next all g None rest a b = b
found_next all g (Some t) rest a b = a

first_next : (all : List Deed) (g : Past) (s : Shard) (txs : List TxId) → Sound all g s → Next all g (first_due s txs)
first_next all g s [] h = nothing
first_next all g s (tx ∷ txs) h = found_next all g (due_of s tx) _ (due_next all g s tx h) (first_next all g s txs h)

-- ---- until nothing is due

settle_step : (all : List Deed) (g : Past) (n : ℕ) (s : Shard) (o : Option Shard) → Sound all g s → Next all g o → ((h : Past) (t : Shard) → Sound all h t → After all h (do_due n t)) → After all g (do_due_at n s o)
settle_step all g n s None h nothing ih = at_once all g s h
settle_step all g n s (Some t) h (step a) ih = then_after all g a.0 (do_due n t) a.2 a.3 a.4 a.5 a.6 a.7 (ih a.0 t a.1)

settle_sound : (all : List Deed) (n : ℕ) (g : Past) (s : Shard) → Sound all g s → After all g (do_due n s)
settle_sound all zero g s h = at_once all g s h
settle_sound all (suc n) g s h = settle_step all g n s (next_due s) h (first_next all g s (known_txs s) h) (settle_sound all n)

purged_sound : (all : List Deed) (g : Past) (s : Shard) → Sound all g s → Sound all g (with_local purge s)
purged_sound all g s h = record { kept = keeps_purge g (view_of s) h.kept; answers = h.answers; requests = h.requests; voters = h.voters; asked = h.asked; falls = h.falls; order = h.order }

-- at the end of an event
pub finish_sound : (all : List Deed) (g : Past) (s : Shard) → Sound all g s → After all g (finish s)
finish_sound all g s h = let a = settle_sound all (work s) g s h in (a.0, purged_sound all a.0 (with_due_done s) a.1, a.2, a.3, a.4, a.5, a.6, a.7)
