-- A message that comes keeps what a shard keeps.
use Rattle.std.proofs.Common.{◌≡◌, ℕ, inl, inr, ⊎_elim, Bool, true, false, cond, not, ◌&&◌, List, [], ◌∷◌, Option, Some, None, ◌==◌, refl, sym, ap, subst, ◌∙◌}
use Rattle.std.proofs.lemmas.Bool.{both_ways}
use Rattle.clv_base.specs.declared.names.TxId.{TxId}
use Rattle.clv_base.specs.declared.logs.LogRecord.TheVariants.{Commit}
use Rattle.shard_laws.proofs.Order.StepsKeepOrder.{decision_commits}
use Rattle.shard_laws.proofs.Order.WhatRulingsMayWrite.{ruled_alike}
use Rattle.clv_base.specs.declared.state.Stage.{Stage}
use Rattle.clv_base.specs.declared.state.Stage.TheVariants.{Active, Closed, Gone}
use Rattle.clv_base.specs.Orders.{tx_same, tx_in, tx_get}
use Rattle.clv_base.specs.Logs.{committed_in, has_standing}
use Rattle.clv_base.specs.State.{Shard, with_local, is_present}
use Rattle.clv_base.specs.Undo.{stage_of}
use Rattle.clv_base.specs.Facts.{predecessors_of, undecided_of, facts_of, is_waiting, has_durable_commit}
use Rattle.clv_base.specs.Participant.{asked_voter, taken_if, taken_by}
use Rattle.clv_base.specs.Coordinator.{others, vote_from, takes_vote, counts_vote, with_vote_of, takes_done, with_done_of, ask_answer}
use Rattle.clv_base.specs.OneShard.{closing, close_part}
use Rattle.clv_base.specs.Due.{send}
use Rattle.clv_base.specs.Events.{QuietBeforeWorn, Does, finish, owe_vote, on_prepare, with_votes, on_vote, decided, on_decide, with_done, on_done, ask_messages, on_message}
use Rattle.shard_laws.specs.OneShard.{predecessors_committed}
use Rattle.law_base.specs.Items.{Deed}
use Rattle.clv_base.proofs.SameNames.{tx_true, tx_ne}
use Rattle.law_base.proofs.Tables.{pair_in}
use Rattle.law_base.proofs.Commits.{uncommitted_append}
use Rattle.shard_laws.proofs.Keeping.WhatOneShardKeeps.{Past}
use Rattle.clv_base.specs.declared.state.Request.{Request}
use Rattle.clv_base.specs.declared.state.RequestState.TheVariants.{Undecided}
use Rattle.clv_base.specs.declared.messages.Message.{Message}
use Rattle.clv_base.specs.declared.messages.Message.TheVariants.{Prepare as PrepareMessage, Vote as VoteMessage, Decide, Done, Ask}
use Rattle.clv_base.specs.declared.causes.Vote.{Vote}
use Rattle.clv_base.specs.declared.causes.Vote.TheVariants.{Read}
use Rattle.clv_base.specs.declared.state.Voter.{Voter}
use Rattle.std.proofs.Common.{is_some}
use Rattle.clv_base.specs.Orders.{tx_set, nat_in}
use Rattle.clv_base.specs.declared.events.Outcome.TheVariants.{Taken, Stale}
use Rattle.clv_base.specs.declared.events.Event.TheVariants.{Deliver}
use Rattle.shard_laws.specs.OneShard.{MayDeliver}
use Rattle.law_base.proofs.Tables.{get_put}
use Rattle.shard_laws.proofs.Events.DueKeeps.{did, here_alive, commit_falls}
use Rattle.law_base.proofs.Sets.{list_all_at}
use Rattle.law_base.proofs.Changed.{get_set, set_none}
use Rattle.shard_laws.proofs.Events.DueKeeps.{Sound, order_set, Open, After, at_once, rolled, commit_here, commit_other, commit_asked, waiting_here}
use Rattle.shard_laws.proofs.Events.KeptAfterReplies.{Keeps_reply, ends, at_cond, quietly, early}
use Rattle.shard_laws.proofs.Events.RequestsKeep.{closed_sound}
use Rattle.law_base.proofs.Standing.{standing_append}
use Rattle.std.specs.List.{list_any}

owed : (all : List Deed) (g : Past) (s : Shard) (tx : TxId) (home seen : ℕ) → Sound all g s → tx_get tx s.requests ≡ None → (has_standing s.local.log tx ≡ false → committed_in s.local.log tx ≡ false) → Sound all g (owe_vote tx home seen s)
owed all g s tx home seen h no_request open_ = record {
  kept = h.kept;
  answers = h.answers;
  requests = h.requests;
  voters = record {
    apart = λ u v e. at u v (tx_same u tx) refl (sym (get_put tx u (asked_voter home seen (tx_get tx s.voters)) s.voters) ∙ e);
    unvoted = λ u v e. open_at u v (tx_same u tx) refl (sym (get_put tx u (asked_voter home seen (tx_get tx s.voters)) s.voters) ∙ e);
    read = λ u v e f. read_at u v (tx_same u tx) refl (sym (get_put tx u (asked_voter home seen (tx_get tx s.voters)) s.voters) ∙ e) f;
  };
  asked = h.asked;
  falls = h.falls;
  order = h.order;
}
  where
    some_voter : (v w : Voter) → Some v ≡ Some w → v ≡ w
    some_voter v w e = cc

    none_read : ◌≡◌ {A = Option Vote} None (Some Read) → ⊥
    none_read e = absurd cc

    same_vote : (o : Option Voter) → tx_get tx s.voters ≡ o → (asked_voter home seen o).vote ≡ Some Read → stage_of s.local tx ≡ Some (Gone None)
    same_vote None e f = absurd (none_read f)
    same_vote (Some w) e f = h.read tx w e f

    read_at : (u : TxId) (v : Voter) (b : Bool) → tx_same u tx ≡ b → cond b (Some (asked_voter home seen (tx_get tx s.voters))) (tx_get u s.voters) ≡ Some v → v.vote ≡ Some Read → stage_of s.local u ≡ Some (Gone None)
    read_at u v true t e f = ap (stage_of s.local) (tx_true u tx t) ∙ same_vote (tx_get tx s.voters) refl (ap (λ z. z.vote) (some_voter _ v e) ∙ f)
    read_at u v false t e f = h.read u v e f

    at : (u : TxId) (v : Voter) (b : Bool) → tx_same u tx ≡ b → cond b (Some (asked_voter home seen (tx_get tx s.voters))) (tx_get u s.voters) ≡ Some v → tx_get u s.requests ≡ None
    at u v true t e = ap (λ z. tx_get z s.requests) (tx_true u tx t) ∙ no_request
    at u v false t e = h.apart u v e

    open_at : (u : TxId) (v : Voter) (b : Bool) → tx_same u tx ≡ b → cond b (Some (asked_voter home seen (tx_get tx s.voters))) (tx_get u s.voters) ≡ Some v → has_standing s.local.log u ≡ false → committed_in s.local.log u ≡ false
    open_at u v true t e = subst (λ z. has_standing s.local.log z ≡ false → committed_in s.local.log z ≡ false) (sym (tx_true u tx t)) open_
    open_at u v false t e = h.unvoted u v e

prepares : (all : List Deed) (g : Past) (s : Shard) (m : Message) (stamp : ℕ) (tx : TxId) (home seen : ℕ) (o : Option Stage) → Sound all g s → stage_of s.local tx ≡ o → tx_in tx g.asked ≡ true → tx_get tx s.requests ≡ None → (has_standing s.local.log tx ≡ false → committed_in s.local.log tx ≡ false) → Keeps_reply all g s (Deliver m stamp) (on_prepare s tx home seen o)
prepares all g s m stamp tx home seen None h st asks none open_ = at_cond all g s (Deliver m stamp) (seen == s.local.epoch) (QuietBeforeWorn Stale) (Does Taken (finish (owe_vote tx home seen s))) early (quietly all g s (owe_vote tx home seen s) (Deliver m stamp) Taken (refl, refl, refl) refl (owed all g s tx home seen h none open_))
prepares all g s m stamp tx home seen (Some Closed) h st asks none open_ = quietly all g s (owe_vote tx home seen s) (Deliver m stamp) Taken (refl, refl, refl) refl (owed all g s tx home seen h none open_)
prepares all g s m stamp tx home seen (Some (Gone d)) h st asks none open_ = quietly all g s (owe_vote tx home seen s) (Deliver m stamp) Taken (refl, refl, refl) refl (owed all g s tx home seen h none open_)
prepares all g s m stamp tx home seen (Some Active) h st asks none open_ =
    quietly all g s (owe_vote tx home seen (with_local (close_part tx home false) s)) (Deliver m stamp) Taken (refl, refl, refl) refl
    (owed all g (with_local (close_part tx home false) s) tx home seen
    (closed_sound all g s tx home false h st asks (λ u q e un. tx_ne u tx (λ same. none_request q (sym none ∙ ap (λ z. tx_get z s.requests) (sym same) ∙ e))) (λ v e. refl)) none
    (λ w. uncommitted_append s.local.log _ tx (h.kept.uncommitted tx st) (prepared (has_standing s.local.log tx) (undecided_of s.local tx))))
  where
    none_request : (q : Request) → ◌≡◌ {A = Option Request} None (Some q) → ⊥
    none_request q e = absurd cc

    prepared : (wrote : Bool) (ps : List TxId) → committed_in (closing wrote false tx home ps) tx ≡ false
    prepared true ps = refl
    prepared false ps = refl

-- a request with its ruling as it was
same_ruling : (all : List Deed) (g : Past) (s : Shard) (tx : TxId) (q w : Request) → Sound all g s → tx_get tx s.requests ≡ Some q → w.state ≡ q.state → w.is_ended ≡ q.is_ended → (q.state ≡ Undecided → Open s.shard s.local.log tx w) → Sound all g (record s { requests = tx_set tx w s.requests })
same_ruling all g s tx q w h e r n open_ = record {
  kept = h.kept;
  answers = h.answers;
  requests = record {
    undecided = λ u p f un. ⊎_elim (λ i. subst (λ z. Open s.shard s.local.log z p) (sym i.0) (subst (Open s.shard s.local.log tx) (sym i.1) (open_ (sym r ∙ ap (λ z. z.state) (sym i.1) ∙ un)))) (λ i. h.undecided u p i.1 un) (get_set tx u w p s.requests f);
    readers = λ u p f un. ⊎_elim (λ i. subst (λ z. tx_in z g.over ≡ true) (sym i.0) (h.readers tx q e (sym r ∙ ap (λ z. z.state) (sym i.1) ∙ un))) (λ i. h.readers u p i.1 un) (get_set tx u w p s.requests f);
    unfallen = λ u p f un here. ⊎_elim (λ i. ap (λ z. tx_in z g.fell) i.0 ∙ h.unfallen tx q e (sym r ∙ ap (λ z. z.state) (sym i.1) ∙ un) (ap is_present (ap (stage_of s.local) (sym i.0)) ∙ here)) (λ i. h.unfallen u p i.1 un here) (get_set tx u w p s.requests f);
  };
  voters = record { apart = λ u v f. set_none tx u w s.requests (h.apart u v f); unvoted = h.unvoted; read = h.read };
  asked = h.asked;
  falls = h.falls;
  order = order_set g.asked s tx w h.order (ruled_alike s.shard s.run s.local.log tx q w r n (h.order.rulings tx q e));
}

-- a vote is taken only of another shard
votes_open : (all : List Deed) (g : Past) (s : Shard) (tx : TxId) (from : ℕ) (v : Vote) (q : Request) → Sound all g s → tx_get tx s.requests ≡ Some q → takes_vote s.shard from q ≡ true → q.state ≡ Undecided → Open s.shard s.local.log tx (with_vote_of from v q)
votes_open all g s tx from v q h e takes un =
    ⊎_elim (λ c. inl c) (λ c. absurd (none (others s.shard q.touched) c.0 (ap (counts_vote s.shard from q) (sym un) ∙ takes))) (h.undecided tx q e un)
  where
    none : (os : List ℕ) → os ≡ [] → (nat_in from os && not (is_some (vote_from from q.votes))) ≡ true → ⊥
    none os z t = both_ways false refl (sym (ap (λ l. nat_in from l && not (is_some (vote_from from q.votes))) z) ∙ t)

votes : (all : List Deed) (g : Past) (s : Shard) (m : Message) (stamp : ℕ) (tx : TxId) (from : ℕ) (v : Vote) (o : Option Request) → Sound all g s → tx_get tx s.requests ≡ o → Keeps_reply all g s (Deliver m stamp) (on_vote s tx from v o)
votes all g s m stamp tx from v None h e = early
votes all g s m stamp tx from v (Some q) h e = at (takes_vote s.shard from q) refl
  where
    at : (b : Bool) → takes_vote s.shard from q ≡ b → Keeps_reply all g s (Deliver m stamp) (cond b (Does Taken (finish (with_votes tx from v q s))) (QuietBeforeWorn Stale))
    at true t = quietly all g s (with_votes tx from v q s) (Deliver m stamp) Taken (refl, refl, refl) refl (same_ruling all g s tx q (with_vote_of from v q) h e refl refl (λ un. votes_open all g s tx from v q h e t un))
    at false t = early

dones : (all : List Deed) (g : Past) (s : Shard) (m : Message) (stamp : ℕ) (tx : TxId) (from : ℕ) (o : Option Request) → Sound all g s → tx_get tx s.requests ≡ o → Keeps_reply all g s (Deliver m stamp) (on_done s tx from o)
dones all g s m stamp tx from None h e = early
dones all g s m stamp tx from (Some q) h e =
    at_cond all g s (Deliver m stamp) (takes_done from q) (Does Taken (finish (with_done tx from q s))) (QuietBeforeWorn Stale)
    (quietly all g s (with_done tx from q s) (Deliver m stamp) Taken (refl, refl, refl) refl (same_ruling all g s tx q (with_done_of from q) h e refl refl (λ un. h.undecided tx q e un))) early

commit_sound : (all : List Deed) (g : Past) (s : Shard) (tx : TxId) → Sound all g s → stage_of s.local tx ≡ Some Closed → committed_in s.local.log tx ≡ false → predecessors_committed s.local tx ≡ true → has_standing s.local.log tx ≡ true → ((q : Request) → tx_get tx s.requests ≡ Some q → q.state ≡ Undecided → ⊥) → tx_in tx g.fell ≡ false → Sound all g (decided s tx true)
commit_sound all g s tx h closed open_ before w none unfallen = record {
  kept = commit_here all g s tx [] h closed open_ (λ p e. list_all_at (committed_in s.local.log) p (predecessors_of s.local.pairs tx) before (pair_in s.local.pairs tx p e));
  answers = h.answers;
  requests = record { undecided = λ u q e un. ⊎_elim (λ c. inl (commit_other s.local.log tx u [] c (tx_ne u tx (λ same. none q (ap (λ z. tx_get z s.requests) (sym same) ∙ e) un)))) (λ c. inr c) (h.undecided u q e un); readers = h.readers; unfallen = h.unfallen };
  voters = record {
    apart = h.apart;
    unvoted = λ u v e x. let y : has_standing s.local.log u ≡ false = ap (λ ws. list_any (λ z. tx_same u z.tx) ws) (sym (standing_append 0 s.local.log (Commit tx [] ∷ []) [])) ∙ x in
        commit_other s.local.log tx u [] (h.unvoted u v e y) (tx_ne u tx (λ same. both_ways _ y (ap (has_standing s.local.log) same ∙ w)));
    read = h.read;
  };
  asked = commit_asked all g s tx [] h closed;
  falls = commit_falls all g s tx [] h closed (here_alive all g s tx h (ap is_present closed) unfallen (λ p e. list_all_at (committed_in s.local.log) p (predecessors_of s.local.pairs tx) before (pair_in s.local.pairs tx p e)));
  order = decision_commits g.asked s.shard s.run s.local.parts s.local.pairs s.local.log s.requests h.order tx closed open_ (λ p e. list_all_at (committed_in s.local.log) p (predecessors_of s.local.pairs tx) before (pair_in s.local.pairs tx p e)) w;
}

decides : (all : List Deed) (g : Past) (s : Shard) (m : Message) (stamp : ℕ) (tx : TxId) (home : ℕ) (commit : Bool) → Sound all g s → (commit ≡ true → committed_in s.local.log tx ≡ false → (predecessors_committed s.local tx ≡ true) × (has_standing s.local.log tx ≡ true) × ((q : Request) → tx_get tx s.requests ≡ Some q → q.state ≡ Undecided → ⊥) × (tx_in tx g.fell ≡ false))
    → Keeps_reply all g s (Deliver m stamp) (on_decide s tx home commit (taken_by (facts_of s tx) commit))
decides all g s m stamp tx home commit h may = at (is_waiting (facts_of s tx)) (commit && has_durable_commit (facts_of s tx)) refl
  where
    decided_after : (c : Bool) → commit ≡ c → is_waiting (facts_of s tx) ≡ true → After all g (decided s tx c)
    decided_after true e w = let x = waiting_here s tx w in let y = may e x.1 in at_once all g (decided s tx true) (commit_sound all g s tx h x.0 x.1 y.0 y.1 y.2 y.3)
    decided_after false e w = rolled all g s tx h (waiting_here s tx w).1

    at : (b c : Bool) → is_waiting (facts_of s tx) ≡ b → Keeps_reply all g s (Deliver m stamp) (on_decide s tx home commit (taken_if b c))
    at true c w = ends all g s (decided s tx commit) (Deliver m stamp) Taken (refl, refl, refl) refl (decided_after commit refl w)
    at false true w = quietly all g s (send (Done home tx s.shard ∷ []) s) (Deliver m stamp) Taken (refl, refl, refl) refl h
    at false false w = early

pub message : (all : List Deed) (g : Past) (s : Shard) (m : Message) (stamp : ℕ) → Sound all g s → MayDeliver (did all [] g) s m → Keeps_reply all g s (Deliver m stamp) (on_message s m)
message all g s (PrepareMessage to tx home seen) stamp h may = prepares all g s (PrepareMessage to tx home seen) stamp tx home seen (stage_of s.local tx) h refl may.0 may.1 may.2
message all g s (VoteMessage to tx from vote) stamp h may = votes all g s (VoteMessage to tx from vote) stamp tx from vote (tx_get tx s.requests) h refl
message all g s (Decide to tx home true) stamp h may = decides all g s (Decide to tx home true) stamp tx home true h (λ e. may)
message all g s (Decide to tx home false) stamp h may = decides all g s (Decide to tx home false) stamp tx home false h (λ e. absurd (both_ways false refl e))
message all g s (Done to tx from) stamp h may = dones all g s (Done to tx from) stamp tx from (tx_get tx s.requests) h refl
message all g s (Ask to tx from) stamp h may = quietly all g s (send (ask_messages s tx from (ask_answer (tx_get tx s.requests) (facts_of s tx))) s) (Deliver (Ask to tx from) stamp) Taken (refl, refl, refl) refl h
