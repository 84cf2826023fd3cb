-- Each event comes to the same without the row of a request that is over.
use Rattle.std.proofs.Common.{◌≡◌, ◌⊎◌, inl, inr, refl, sym, ap, subst, ◌∙◌, ℕ, zero, suc, true, false, cond, Bool, not, ◌||◌, ◌==◌, List, [], ◌∷◌, ◌++◌, Option, Some, None}
use Rattle.std.specs.Prelude.{drop}
use Rattle.std.specs.List.{filter}
use Rattle.std.specs.Map.{keys_of}
use Rattle.std.specs.List.Sorted.{IsStrictlySortedBy}
use Rattle.std.proofs.lemmas.Bool.{both_ways}
use Rattle.clv_base.specs.declared.names.TxId.{TxId}
use Rattle.clv_base.specs.declared.names.Birth.{Birth}
use Rattle.clv_base.specs.declared.ops.Op.{Op}
use Rattle.clv_base.specs.declared.causes.AbortCause.TheVariants.{Asked as AskedCause, Restarted as RestartedCause}
use Rattle.clv_base.specs.declared.causes.Vote.{Vote}
use Rattle.clv_base.specs.declared.messages.Message.{Message}
use Rattle.clv_base.specs.declared.messages.Message.TheVariants.{Prepare, Vote as VoteMessage, Decide, Done, Ask}
use Rattle.clv_base.specs.declared.events.Event.{Event}
use Rattle.clv_base.specs.declared.events.Event.TheVariants.{Op as OpEvent, RollTo, Request as RequestEvent, Look, Drop, Send, Deliver, Remind, FlushOut, FlushIn, Stop, Restart}
use Rattle.clv_base.specs.declared.events.Outcome.{Outcome}
use Rattle.clv_base.specs.declared.events.Outcome.TheVariants.{Acknowledged, Aborted, Taken, NotYet, Stale, Down, Dead, Rolled, Asked}
use Rattle.clv_base.specs.declared.state.Stage.{Stage}
use Rattle.clv_base.specs.declared.state.Stage.TheVariants.{Active, Closed, Gone}
use Rattle.clv_base.specs.declared.state.Request.{Request}
use Rattle.clv_base.specs.declared.state.RequestState.{RequestState}
use Rattle.clv_base.specs.declared.state.RequestState.TheVariants.{Undecided, Committed, Finished, Refused}
use Rattle.clv_base.specs.declared.state.Taken.{Taken as DecisionTaken}
use Rattle.clv_base.specs.declared.state.Taken.TheVariants.{Done as IsDone, Waiting as IsAwaited, Stale as IsStale}
use Rattle.clv_base.specs.Orders.{tx_cmp, tx_same, tx_in, tx_get}
use Rattle.clv_base.specs.Logs.{committed_in, fitting}
use Rattle.clv_base.specs.State.{Shard, with_local}
use Rattle.clv_base.specs.Undo.{stage_of}
use Rattle.clv_base.specs.Backs.{count_after, standing_numbers}
use Rattle.clv_base.specs.Facts.{facts_of, has_durable_commit}
use Rattle.clv_base.specs.Participant.{taken_by, asks}
use Rattle.clv_base.specs.Coordinator.{others, takes_vote, with_vote_of, takes_done, with_done_of, ask_answer, doom_cause, prepares, missing_votes, missing_dones, each_request, home_reminders}
use Rattle.clv_base.specs.OneShard.{OpReply, OpWaits, OpCrowded, OpDies, OpAnswers, op_reply, seen_fits, close_part}
use Rattle.clv_base.specs.Due.{send}
use Rattle.clv_base.specs.Events.{QuietBeforeWorn, Does, finish, op_event, roll_by_stage, roll_event, is_alone, epoch_in, coordinate, request_by_stage, request_event, request_epoch, look_lost, look_state, look_known, drop_event, owe_vote, on_prepare, with_votes, on_vote, on_decide, with_done, on_done, ask_messages, on_ask, on_message, to_of, send_event, durable_requests, waiting_voters, remind_with, reminders, taken, out_event, happen_up}
use Rattle.clv_base.proofs.SameNames.{tx_true}
use Rattle.history_cases.proofs.Stepping.{Step, op_dies, op_answers, rolls_back, request_new, request_closes, drops, sends, prepare_closes, prepare_again, vote_counts, decision_comes, decision_again, done_counts, asked, reminds, flushes}
use Rattle.ended_laws.specs.Requests.{without, forgets, forgetful, IsOver, is_by_log, MayCome, NobodyMissesIt}
use Rattle.ended_laws.proofs.Reading.{no_vote, no_done, same_answer, same_look, no_prepare, no_decide}
use Rattle.ended_laws.proofs.Rows.{get_own, get_without, set_without, put_without, OwnRowsAre, own_rows, each_without, keys_without}
use Rattle.ended_laws.proofs.Staying.{step_leaves}
use Rattle.ended_laws.proofs.Due.{finished_same}

-- a filter of the names keeps the others
in_kept : (t tx : TxId) (test : TxId → Bool) (ks : List TxId) → tx_same tx t ≡ false → tx_in t (filter test (filter (λ u. not (tx_same tx u)) ks)) ≡ tx_in t (filter test ks)
in_kept t tx test [] d = refl
in_kept t tx test (k ∷ ks) d = at (tx_same tx k) (test k) refl refl (in_kept t tx test ks d)
  where
    apart : tx_same tx k ≡ true → tx_same k t ≡ false
    apart e = subst (λ z. tx_same z t ≡ false) (tx_true tx k e) d

    at : (b c : Bool) → tx_same tx k ≡ b → test k ≡ c → tx_in t (filter test (filter (λ u. not (tx_same tx u)) ks)) ≡ tx_in t (filter test ks)
        → tx_in t (filter test (cond (not b) (k ∷ filter (λ u. not (tx_same tx u)) ks) (filter (λ u. not (tx_same tx u)) ks))) ≡ tx_in t (cond c (k ∷ filter test ks) (filter test ks))
    at true true e f more = more ∙ sym (ap (λ b. b || tx_in t (filter test ks)) (apart e))
    at true false e f more = more
    at false true e f more = ap (λ b. tx_in t (cond b (k ∷ filter test (filter (λ u. not (tx_same tx u)) ks)) (filter test (filter (λ u. not (tx_same tx u)) ks)))) f ∙ ap (λ b. tx_same k t || b) more
    at false false e f more = ap (λ b. tx_in t (cond b (k ∷ filter test (filter (λ u. not (tx_same tx u)) ks)) (filter test (filter (λ u. not (tx_same tx u)) ks)))) f ∙ more

-- what an event does leaves the request over, so what is due then comes to the same
module _ (s : Shard) (tx : TxId) (q : Request) (over : IsOver s tx q) where
  done_by : (t : Shard) {e : Event} {o : Outcome} → Step s e o t → MayCome tx q e → Does o (finish (forgets tx t)) ≡ forgetful tx (Does o (finish t))
  done_by t {o = o} g m = ap (Does o) (finished_same t tx q (step_leaves s t tx q g over m))

  -- where nothing is done but what is due
  idly : (o : Outcome) → Does o (finish (forgets tx s)) ≡ forgetful tx (Does o (finish s))
  idly o = ap (Does o) (finished_same s tx q over)

  operation : (u : TxId) (birth : Birth) (nth : ℕ) (seen : Option ℕ) (op : Op) (r : OpReply) → tx_same tx u ≡ false → op_reply s.shard s.local u birth seen op ≡ r → op_event (forgets tx s) r ≡ forgetful tx (op_event s r)
  operation u birth nth seen op (OpWaits y) d e = refl
  operation u birth nth seen op (OpCrowded n) d e = refl
  operation u birth nth seen op (OpDies c l) d e = done_by _ (op_dies u birth nth seen op c l e) d
  operation u birth nth seen op (OpAnswers a l) d e = done_by _ (op_answers u birth nth seen op a l e) d

  coordinated : (u : TxId) (ts : List (ℕ × ℕ)) (t : Shard) → tx_same tx u ≡ false → t.requests ≡ s.requests → coordinate u ts (forgets tx t) ≡ forgets tx (coordinate u ts t)
  coordinated u ts t d e =
      ap (λ rows. send (prepares t.shard u ts) (record t { requests = rows }))
      (sym (put_without tx u _ t.requests d (subst (λ z. IsStrictlySortedBy tx_cmp (keys_of z)) (sym e) over.rises)))

  by_stage : (u : TxId) (ts : List (ℕ × ℕ)) (st : Option Stage) → tx_same tx u ≡ false → seen_fits s.local.epoch (epoch_in s.shard ts) ≡ true → stage_of s.local u ≡ st
      → request_by_stage (forgets tx s) u ts st ≡ forgetful tx (request_by_stage s u ts st)
  by_stage u ts None d f e = ap (λ t. Does Asked (finish t)) (coordinated u ts s d refl) ∙ done_by _ (request_new u ts f e) d
  by_stage u ts (Some Active) d f e =
      ap (λ t. Does Asked (finish t)) (coordinated u ts (with_local (close_part u s.shard (is_alone (others s.shard ts))) s) d refl) ∙ done_by _ (request_closes u ts f e) d
  by_stage u ts (Some Closed) d f e = idly Asked
  by_stage u ts (Some (Gone None)) d f e = idly Asked
  by_stage u ts (Some (Gone (Some x))) d f e = idly (Dead (doom_cause u x))

  request : (u : TxId) (ts : List (ℕ × ℕ)) (b : Bool) → tx_same tx u ≡ false → seen_fits s.local.epoch (epoch_in s.shard ts) ≡ b → request_event (forgets tx s) u ts b ≡ forgetful tx (request_event s u ts b)
  request u ts true d f = by_stage u ts (stage_of s.local u) d f refl
  request u ts false d f = idly _

  -- ---- goings back

  rolling : (u : TxId) (nth seen upto : ℕ) (st : Option Stage) → tx_same tx u ≡ false → (seen == s.local.epoch) ≡ true → stage_of s.local u ≡ st
      → roll_by_stage (forgets tx s) u (count_after upto (standing_numbers u s.journal)) st ≡ forgetful tx (roll_by_stage s u (count_after upto (standing_numbers u s.journal)) st)
  rolling u nth seen upto None d f e = idly Rolled
  rolling u nth seen upto (Some Active) d f e = done_by _ (rolls_back u nth seen upto f e) d
  rolling u nth seen upto (Some Closed) d f e = idly (Dead AskedCause)
  rolling u nth seen upto (Some (Gone None)) d f e = idly (Dead AskedCause)
  rolling u nth seen upto (Some (Gone (Some x))) d f e = idly (Dead (doom_cause u x))

  going_back : (u : TxId) (nth seen upto : ℕ) (b : Bool) → tx_same tx u ≡ false → (seen == s.local.epoch) ≡ b → roll_event (forgets tx s) u seen upto b ≡ forgetful tx (roll_event s u seen upto b)
  going_back u nth seen upto false d f = idly _
  going_back u nth seen upto true d f = rolling u nth seen upto (stage_of s.local u) d f refl

  -- ---- looks

  lost : (u : TxId) (o : Option ℕ) → look_lost (forgets tx s) u o ≡ forgetful tx (look_lost s u o)
  lost u None = refl
  lost u (Some e) = at (e == s.local.epoch)
    where
      at : (b : Bool) → cond b (QuietBeforeWorn NotYet) (Does (Aborted (RestartedCause s.shard e s.local.epoch)) (finish (forgets tx s)))
          ≡ forgetful tx (cond b (QuietBeforeWorn NotYet) (Does (Aborted (RestartedCause s.shard e s.local.epoch)) (finish s)))
      at true = refl
      at false = idly _

  by_state : (st : RequestState) → look_state (forgets tx s) st ≡ forgetful tx (look_state s st)
  by_state Undecided = refl
  by_state (Committed parts) = refl
  by_state Finished = idly Acknowledged
  by_state (Refused cause) = idly (Aborted cause)

  known : (u : TxId) (o : Option Request) → look_known (forgets tx s) u o ≡ forgetful tx (look_known s u o)
  known u (Some p) = by_state p.state
  known u None = at (committed_in s.local.log u) (lost u (request_epoch s.shard u s.journal))
    where
      at : (b : Bool) → look_lost (forgets tx s) u (request_epoch s.shard u s.journal) ≡ forgetful tx (look_lost s u (request_epoch s.shard u s.journal))
          → cond b (QuietBeforeWorn NotYet) (look_lost (forgets tx s) u (request_epoch s.shard u s.journal)) ≡ forgetful tx (cond b (QuietBeforeWorn NotYet) (look_lost s u (request_epoch s.shard u s.journal)))
      at true more = refl
      at false more = more

  known_row : (u : TxId) → (tx_same tx u ≡ false) ⊎ (is_by_log q.state ≡ true) → look_known (forgets tx s) u (tx_get u (without tx s.requests)) ≡ forgetful tx (look_known s u (tx_get u s.requests))
  known_row u m = at (tx_same tx u) refl m
    where
      at : (b : Bool) → tx_same tx u ≡ b → (tx_same tx u ≡ false) ⊎ (is_by_log q.state ≡ true)
          → look_known (forgets tx s) u (tx_get u (without tx s.requests)) ≡ forgetful tx (look_known s u (tx_get u s.requests))
      at false e m = ap (look_known (forgets tx s) u) (get_without tx u s.requests e) ∙ known u (tx_get u s.requests)
      at true e (inl d) = absurd (both_ways _ d e)
      at true e (inr l) =
          subst (λ z. look_known (forgets tx s) z (tx_get z (without tx s.requests)) ≡ forgetful tx (look_known s z (tx_get z s.requests))) (tx_true tx u e)
          (ap (look_known (forgets tx s) tx) (get_own tx s.requests) ∙ known tx None ∙ ap (forgetful tx) (sym (same_look s tx q over l) ∙ sym (ap (look_known s tx) over.kept)))

  look : (u : TxId) (b : Bool) → (tx_same tx u ≡ false) ⊎ (is_by_log q.state ≡ true)
      → cond b (Does Acknowledged (finish (forgets tx s))) (look_known (forgets tx s) u (tx_get u (without tx s.requests))) ≡ forgetful tx (cond b (Does Acknowledged (finish s)) (look_known s u (tx_get u s.requests)))
  look u true m = idly Acknowledged
  look u false m = known_row u m

  -- ---- drops and messages

  dropping : (u : TxId) (st : Option Stage) → stage_of s.local u ≡ st → drop_event (forgets tx s) u st ≡ forgetful tx (drop_event s u st)
  dropping u None e = refl
  dropping u (Some stage) e = done_by _ (drops u stage e) tt

  sending : (ms : List Message) → s.outbox ≡ ms → send_event (forgets tx s) ms ≡ forgetful tx (send_event s ms)
  sending [] e = refl
  sending (m ∷ ms) e = done_by _ (sends m ms e) tt

  owing : (u : TxId) (home seen stamp : ℕ) → (stage_of s.local u ≡ Some Active → ⊥) → Does Taken (finish (owe_vote u home seen (forgets tx s))) ≡ forgetful tx (Does Taken (finish (owe_vote u home seen s)))
  owing u home seen stamp n = done_by _ (prepare_again u home seen stamp n) tt

  preparing : (u : TxId) (home seen stamp : ℕ) (st : Option Stage) → stage_of s.local u ≡ st → on_prepare (forgets tx s) u home seen st ≡ forgetful tx (on_prepare s u home seen st)
  preparing u home seen stamp None e = at (seen == s.local.epoch)
    where
      differ : {x : Option Stage} → x ≡ None → x ≡ Some Active → ⊥
      differ a b = absurd cc

      at : (b : Bool) → cond b (QuietBeforeWorn Stale) (Does Taken (finish (owe_vote u home seen (forgets tx s)))) ≡ forgetful tx (cond b (QuietBeforeWorn Stale) (Does Taken (finish (owe_vote u home seen s))))
      at true = refl
      at false = owing u home seen stamp (λ f. differ e f)
  preparing u home seen stamp (Some Active) e = done_by _ (prepare_closes u home seen stamp e) tt
  preparing u home seen stamp (Some Closed) e = owing u home seen stamp (λ f. differ e f)
    where
      differ : {x : Option Stage} → x ≡ Some Closed → x ≡ Some Active → ⊥
      differ a b = absurd cc
  preparing u home seen stamp (Some (Gone d)) e = owing u home seen stamp (λ f. differ e f)
    where
      differ : {x : Option Stage} → x ≡ Some (Gone d) → x ≡ Some Active → ⊥
      differ a b = absurd cc

  vote_other : (u : TxId) (from : ℕ) (vote : Vote) (stamp : ℕ) (o : Option Request) → tx_get u s.requests ≡ o → tx_same tx u ≡ false → on_vote (forgets tx s) u from vote o ≡ forgetful tx (on_vote s u from vote o)
  vote_other u from vote stamp None e d = refl
  vote_other u from vote stamp (Some p) e d = at (takes_vote s.shard from p) refl
    where
      at : (b : Bool) → takes_vote s.shard from p ≡ b
          → cond b (Does Taken (finish (with_votes u from vote p (forgets tx s)))) (QuietBeforeWorn Stale) ≡ forgetful tx (cond b (Does Taken (finish (with_votes u from vote p s))) (QuietBeforeWorn Stale))
      at true f = ap (λ rows. Does Taken (finish (record s { requests = rows }))) (sym (set_without tx u (with_vote_of from vote p) s.requests d)) ∙ done_by _ (vote_counts u from vote stamp p e f) tt
      at false f = refl

  voting : (u : TxId) (from : ℕ) (vote : Vote) (stamp : ℕ) → on_vote (forgets tx s) u from vote (tx_get u (without tx s.requests)) ≡ forgetful tx (on_vote s u from vote (tx_get u s.requests))
  voting u from vote stamp = at (tx_same tx u) refl
    where
      at : (b : Bool) → tx_same tx u ≡ b → on_vote (forgets tx s) u from vote (tx_get u (without tx s.requests)) ≡ forgetful tx (on_vote s u from vote (tx_get u s.requests))
      at false e = ap (on_vote (forgets tx s) u from vote) (get_without tx u s.requests e) ∙ vote_other u from vote stamp (tx_get u s.requests) refl e
      at true e =
          subst (λ z. on_vote (forgets tx s) z from vote (tx_get z (without tx s.requests)) ≡ forgetful tx (on_vote s z from vote (tx_get z s.requests))) (tx_true tx u e)
          (ap (on_vote (forgets tx s) tx from vote) (get_own tx s.requests)
          ∙ sym (ap (forgetful tx) (ap (on_vote s tx from vote) over.kept ∙ ap (λ b. cond b (Does Taken (finish (with_votes tx from vote q s))) (QuietBeforeWorn Stale)) (no_vote s tx q from over))))

  done_other : (u : TxId) (from stamp : ℕ) (o : Option Request) → tx_get u s.requests ≡ o → tx_same tx u ≡ false → on_done (forgets tx s) u from o ≡ forgetful tx (on_done s u from o)
  done_other u from stamp None e d = refl
  done_other u from stamp (Some p) e d = at (takes_done from p) refl
    where
      at : (b : Bool) → takes_done from p ≡ b
          → cond b (Does Taken (finish (with_done u from p (forgets tx s)))) (QuietBeforeWorn Stale) ≡ forgetful tx (cond b (Does Taken (finish (with_done u from p s))) (QuietBeforeWorn Stale))
      at true f = ap (λ rows. Does Taken (finish (record s { requests = rows }))) (sym (set_without tx u (with_done_of from p) s.requests d)) ∙ done_by _ (done_counts u from stamp p e f) tt
      at false f = refl

  doing : (u : TxId) (from stamp : ℕ) → on_done (forgets tx s) u from (tx_get u (without tx s.requests)) ≡ forgetful tx (on_done s u from (tx_get u s.requests))
  doing u from stamp = at (tx_same tx u) refl
    where
      at : (b : Bool) → tx_same tx u ≡ b → on_done (forgets tx s) u from (tx_get u (without tx s.requests)) ≡ forgetful tx (on_done s u from (tx_get u s.requests))
      at false e = ap (on_done (forgets tx s) u from) (get_without tx u s.requests e) ∙ done_other u from stamp (tx_get u s.requests) refl e
      at true e =
          subst (λ z. on_done (forgets tx s) z from (tx_get z (without tx s.requests)) ≡ forgetful tx (on_done s z from (tx_get z s.requests))) (tx_true tx u e)
          (ap (on_done (forgets tx s) tx from) (get_own tx s.requests)
          ∙ sym (ap (forgetful tx) (ap (on_done s tx from) over.kept ∙ ap (λ b. cond b (Does Taken (finish (with_done tx from q s))) (QuietBeforeWorn Stale)) (no_done s tx q from over))))

  deciding : (u : TxId) (home : ℕ) (commit : Bool) (stamp : ℕ) (d : DecisionTaken) → taken_by (facts_of s u) commit ≡ d → on_decide (forgets tx s) u home commit d ≡ forgetful tx (on_decide s u home commit d)
  deciding u home true stamp IsAwaited e = done_by _ (decision_comes u home true stamp e) tt
  deciding u home false stamp IsAwaited e = done_by _ (decision_comes u home false stamp e) tt
  deciding u home commit stamp IsDone e = done_by _ (decision_again u home commit stamp e) tt
  deciding u home commit stamp IsStale e = refl

  answer_same : (u : TxId) → ask_answer (tx_get u (without tx s.requests)) (facts_of s u) ≡ ask_answer (tx_get u s.requests) (facts_of s u)
  answer_same u = at (tx_same tx u) refl
    where
      at : (b : Bool) → tx_same tx u ≡ b → ask_answer (tx_get u (without tx s.requests)) (facts_of s u) ≡ ask_answer (tx_get u s.requests) (facts_of s u)
      at false e = ap (λ o. ask_answer o (facts_of s u)) (get_without tx u s.requests e)
      at true e =
          subst (λ z. ask_answer (tx_get z (without tx s.requests)) (facts_of s z) ≡ ask_answer (tx_get z s.requests) (facts_of s z)) (tx_true tx u e)
          (ap (λ o. ask_answer o (facts_of s tx)) (get_own tx s.requests) ∙ sym (same_answer s tx q over) ∙ sym (ap (λ o. ask_answer o (facts_of s tx)) over.kept))

  asking : (u : TxId) (from stamp : ℕ) → on_ask (forgets tx s) u from ≡ forgetful tx (on_ask s u from)
  asking u from stamp = ap (λ a. Does Taken (finish (send (ask_messages s u from a) (forgets tx s)))) (answer_same u) ∙ done_by _ (asked u from stamp) tt

  message : (m : Message) (stamp : ℕ) (b : Bool) → (to_of m == s.shard) ≡ b → cond b (on_message (forgets tx s) m) (QuietBeforeWorn Stale) ≡ forgetful tx (cond b (on_message s m) (QuietBeforeWorn Stale))
  message m stamp false e = refl
  message (Prepare to u home seen) stamp true e = preparing u home seen stamp (stage_of s.local u) refl
  message (VoteMessage to u from vote) stamp true e = voting u from vote stamp
  message (Decide to u home commit) stamp true e = deciding u home commit stamp (taken_by (facts_of s u) commit) refl
  message (Done to u from) stamp true e = doing u from stamp
  message (Ask to u from) stamp true e = asking u from stamp

  -- ---- reminders

  reminders_same : reminders (forgets tx s) ≡ reminders s
  reminders_same = ap (λ l. l ++ asks s.shard s.voters (waiting_voters s)) (sym both)
    where
      rows_are : OwnRowsAre tx q s.requests
      rows_are = own_rows tx q s.requests over.rises over.kept

      same_durable : (t : TxId) → tx_same tx t ≡ false → tx_in t (durable_requests s) ≡ tx_in t (durable_requests (forgets tx s))
      same_durable t d =
          sym (ap (λ ks. tx_in t (filter (λ u. has_durable_commit (facts_of s u)) ks)) (keys_without tx s.requests) ∙ in_kept t tx (λ u. has_durable_commit (facts_of s u)) (keys_of s.requests) d)

      no_word : (b : Bool) → ◌≡◌ {A = List Message} (elim b as (λ z. List Message) [ true ↦ missing_dones s.shard tx q q.state | false ↦ [] ]) []
      no_word true = no_decide s tx q over
      no_word false = refl

      both : home_reminders s.shard s.requests (durable_requests s) ≡ home_reminders s.shard (without tx s.requests) (durable_requests (forgets tx s))
      both =
          ap (λ l. l ++ each_request (λ t r. elim (tx_in t (durable_requests s)) as (λ z. List Message) [ true ↦ missing_dones s.shard t r r.state | false ↦ [] ]) s.requests)
          (each_without tx q (λ t r. missing_votes s.shard t r r.state) (λ t r. missing_votes s.shard t r r.state) s.requests rows_are (no_prepare s tx q over) (λ t r d. refl))
          ∙ ap (λ l. each_request (λ t r. missing_votes s.shard t r r.state) (without tx s.requests) ++ l)
          (each_without tx q (λ t r. elim (tx_in t (durable_requests s)) as (λ z. List Message) [ true ↦ missing_dones s.shard t r r.state | false ↦ [] ])
          (λ t r. elim (tx_in t (durable_requests (forgets tx s))) as (λ z. List Message) [ true ↦ missing_dones s.shard t r r.state | false ↦ [] ]) s.requests rows_are (no_word (tx_in tx (durable_requests s)))
          (λ t r d. ap (λ b. elim b as (λ z. List Message) [ true ↦ missing_dones s.shard t r r.state | false ↦ [] ]) (same_durable t d)))

  reminding : (out ms : List Message) → s.outbox ≡ out → reminders s ≡ ms → remind_with (forgets tx s) out ms ≡ forgetful tx (remind_with s out ms)
  reminding [] (m ∷ ms) e f = done_by _ (reminds m ms e f) tt
  reminding [] [] e f = refl
  reminding (o ∷ os) ms e f = refl

  flushing : (f : Option ℕ) (n : ℕ) → s.flight ≡ f → fitting 1048576 (drop (taken s) s.local.log) ≡ n → out_event (forgets tx s) f n ≡ forgetful tx (out_event s f n)
  flushing f zero e g = refl
  flushing (Some n) (suc k) e g = refl
  flushing None (suc k) e g = done_by _ (flushes k e g) tt

  up : (e : Event) → MayCome tx q e → happen_up (forgets tx s) e ≡ forgetful tx (happen_up s e)
  up (OpEvent u birth nth seen op) m = operation u birth nth seen op (op_reply s.shard s.local u birth seen op) m refl
  up (RollTo u nth seen upto) m = going_back u nth seen upto (seen == s.local.epoch) m refl
  up (RequestEvent u ts) m = request u ts (seen_fits s.local.epoch (epoch_in s.shard ts)) m refl
  up (Look u) m = look u (has_durable_commit (facts_of s u)) m
  up (Drop u) m = dropping u (stage_of s.local u) refl
  up Send m = sending s.outbox refl
  up (Deliver x stamp) m = message x stamp (to_of x == s.shard) refl
  up Remind m = ap (remind_with (forgets tx s) s.outbox) reminders_same ∙ reminding s.outbox (reminders s) refl refl
  up FlushOut m = flushing s.flight (fitting 1048576 (drop (taken s) s.local.log)) refl refl
  up FlushIn m = refl
  up Stop m = refl
  up Restart m = refl

  by_up : (e : Event) (b : Bool) → MayCome tx q e → elim b [ true ↦ happen_up (forgets tx s) e | false ↦ QuietBeforeWorn Down ] ≡ forgetful tx (elim b [ true ↦ happen_up s e | false ↦ QuietBeforeWorn Down ])
  by_up e true m = up e m
  by_up e false m = refl

pub nobody_misses_it : NobodyMissesIt
nobody_misses_it s tx q e over may = by_up s tx q over e s.is_up may
