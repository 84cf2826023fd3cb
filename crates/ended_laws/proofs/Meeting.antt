-- Each event that is not its own comes to the same without the rows of a part that is past.
use Rattle.std.proofs.Common.{◌≡◌, refl, sym, ap, subst, ◌∙◌, ℕ, zero, suc, true, false, cond, Bool, not, ◌&&◌, ◌||◌, ◌==◌, List, [], ◌∷◌, ◌++◌, Option, Some, None, is_none}
use Rattle.std.specs.Prelude.{drop}
use Rattle.std.specs.List.{filter, AllByRecursion}
use Rattle.std.specs.Map.{keys_of}
use Rattle.std.proofs.lemmas.Bool.{both_ways, false_from_ne_true}
use Rattle.clv_base.specs.declared.names.TxId.{TxId}
use Rattle.clv_base.specs.declared.names.Birth.{Birth}
use Rattle.clv_base.specs.declared.ops.Op.{Op}
use Rattle.clv_base.specs.declared.causes.AbortCause.TheVariants.{Asked as AskedCause, Restarted as RestartedCause}
use Rattle.clv_base.specs.declared.causes.Vote.{Vote}
use Rattle.clv_base.specs.declared.messages.Message.{Message}
use Rattle.clv_base.specs.declared.messages.Message.TheVariants.{Prepare, Vote as VoteMessage, Decide, Done, Ask}
use Rattle.clv_base.specs.declared.events.Event.{Event}
use Rattle.clv_base.specs.declared.events.Event.TheVariants.{Op as OpEvent, RollTo, Request as RequestEvent, Look, Drop, Send, Deliver, Remind, FlushOut, FlushIn, Stop, Restart}
use Rattle.clv_base.specs.declared.events.Outcome.{Outcome}
use Rattle.clv_base.specs.declared.events.Outcome.TheVariants.{Acknowledged, Aborted, Taken, NotYet, Stale, Down, Dead, Rolled, Asked, Dropped}
use Rattle.clv_base.specs.declared.state.Stage.{Stage}
use Rattle.clv_base.specs.declared.state.Stage.TheVariants.{Active, Closed, Gone}
use Rattle.clv_base.specs.declared.state.Request.{Request}
use Rattle.clv_base.specs.declared.state.RequestState.{RequestState}
use Rattle.clv_base.specs.declared.state.RequestState.TheVariants.{Undecided, Committed, Finished, Refused}
use Rattle.clv_base.specs.declared.state.Taken.{Taken as DecisionTaken}
use Rattle.clv_base.specs.declared.state.Taken.TheVariants.{Done as IsDone, Waiting as IsAwaited, Stale as IsStale}
use Rattle.clv_base.specs.Orders.{Table, tx_same, tx_get, tx_put}
use Rattle.clv_base.specs.Logs.{committed_in, fitting}
use Rattle.clv_base.specs.State.{Shard, with_local}
use Rattle.clv_base.specs.Undo.{stage_of}
use Rattle.clv_base.specs.Backs.{count_after, standing_numbers}
use Rattle.clv_base.specs.Facts.{facts_of, has_durable_commit}
use Rattle.clv_base.specs.Participant.{taken_by, asks}
use Rattle.clv_base.specs.Coordinator.{others, takes_vote, takes_done, doom_cause, home_reminders}
use Rattle.clv_base.specs.OneShard.{OpReply, OpWaits, OpCrowded, OpDies, OpAnswers, op_reply, seen_fits, close_part}
use Rattle.clv_base.specs.Events.{QuietBeforeWorn, Does, finish, op_event, roll_by_stage, roll_event, is_alone, epoch_in, coordinate, request_by_stage, request_event, request_epoch, look_lost, look_state, look_known, drop_event, owe_vote, on_prepare, with_votes, on_vote, on_decide, with_done, on_done, on_message, to_of, send_event, durable_requests, waiting_voters, remind_with, reminders, taken, out_event, happen_up}
use Rattle.clv_base.proofs.SameNames.{tx_true}
use Rattle.history_cases.proofs.Stepping.{Step, op_dies, op_answers, rolls_back, request_new, request_closes, drops, sends, prepare_closes, prepare_again, vote_counts, decision_comes, decision_again, done_counts, asked, reminds, flushes}
use Rattle.clv_base.specs.declared.state.Voter.{Voter}
use Rattle.clv_base.specs.State.{is_present}
use Rattle.clv_base.specs.Participant.{ask_by, asks_home, is_yes_vote, asked_voter, voters_asked, taken_if}
use Rattle.ended_laws.specs.Requests.{without}
use Rattle.ended_laws.specs.Parts.{forgets_in, forgets_part, partless, IsPast, IsNoPrepareOf, MayMeet, OnlyItsOwnEventsMissIt}
use Rattle.ended_laws.proofs.Reading.{not_closed}
use Rattle.ended_laws.proofs.Rows.{get_without, put_without}
use Rattle.ended_laws.proofs.Past.{step_past}
use Rattle.ended_laws.proofs.Partless.{same_stage, rolled_same, dropped_same, closed_same, partless_reply, reply_same, facts_same, waiting_same, finished_same}

-- ---- questions that are asked again

ask_row_same : (s : Shard) (tx u : TxId) → tx_same tx u ≡ false → ask_by s.shard u (tx_get u (without tx s.voters)) ≡ ask_by s.shard u (tx_get u s.voters)
ask_row_same s tx u d = ap (ask_by s.shard u) (get_without tx u s.voters d)

asks_same : (s : Shard) (tx : TxId) (ts : List TxId) → AllByRecursion (λ t. tx_same tx t ≡ false) ts → asks s.shard (without tx s.voters) ts ≡ asks s.shard s.voters ts
asks_same s tx [] a = refl
asks_same s tx (t ∷ ts) a = ap (λ l. l ++ asks s.shard (without tx s.voters) ts) (ask_row_same s tx t a.0) ∙ ap (λ l. ask_by s.shard t (tx_get t s.voters) ++ l) (asks_same s tx ts a.1)

module _ (s : Shard) (tx : TxId) (absent : is_present (stage_of s.local tx) ≡ false) where
  abbrev Asks : TxId × Voter → Bool
  Asks v = asks_home (facts_of s v.0) v.1

  own_is_silent : (v : Voter) → asks_home (facts_of s tx) v ≡ false
  own_is_silent v = ap (λ b. (b && is_none (facts_of s tx).commit) && ((facts_of s tx).restored || is_yes_vote v.vote)) (not_closed (stage_of s.local tx) absent)

  others_same : (u : TxId) (v : Voter) → tx_same tx u ≡ false → asks_home (facts_of (forgets_part tx s) u) v ≡ asks_home (facts_of s u) v
  others_same u v d = ap (λ f. asks_home f v) (facts_same s tx u d)

  who_asks : (rows : Table Voter) → filter (λ v. asks_home (facts_of (forgets_part tx s) v.0) v.1) (without tx rows) ≡ filter (λ v. asks_home (facts_of s v.0) v.1) rows
  who_asks [] = refl
  who_asks (r ∷ rs) = at (tx_same tx r.0) refl (who_asks rs)
    where
      at : (b : Bool) → tx_same tx r.0 ≡ b → filter (λ v. asks_home (facts_of (forgets_part tx s) v.0) v.1) (without tx rs) ≡ filter (λ v. asks_home (facts_of s v.0) v.1) rs
          → filter (λ v. asks_home (facts_of (forgets_part tx s) v.0) v.1) (cond (not b) (r ∷ without tx rs) (without tx rs)) ≡ filter (λ v. asks_home (facts_of s v.0) v.1) (r ∷ rs)
      at true e more =
          let silent : asks_home (facts_of s r.0) r.1 ≡ false = subst (λ z. asks_home (facts_of s z) r.1 ≡ false) (tx_true tx r.0 e) (own_is_silent r.1) in
          more ∙ sym (ap (λ b. cond b (r ∷ filter (λ v. asks_home (facts_of s v.0) v.1) rs) (filter (λ v. asks_home (facts_of s v.0) v.1) rs)) silent)
      at false e more =
          ap (λ b. cond b (r ∷ filter (λ v. asks_home (facts_of (forgets_part tx s) v.0) v.1) (without tx rs)) (filter (λ v. asks_home (facts_of (forgets_part tx s) v.0) v.1) (without tx rs))) (others_same r.0 r.1 e)
          ∙ ap (λ l. cond (asks_home (facts_of s r.0) r.1) (r ∷ l) l) more

  -- none of those who ask is the transaction
  askers_are_others : (rows : Table Voter) → AllByRecursion (λ t. tx_same tx t ≡ false) (keys_of (filter (λ v. asks_home (facts_of s v.0) v.1) rows))
  askers_are_others [] = tt
  askers_are_others (r ∷ rs) = at (asks_home (facts_of s r.0) r.1) refl (askers_are_others rs)
    where
      at : (b : Bool) → asks_home (facts_of s r.0) r.1 ≡ b → AllByRecursion (λ t. tx_same tx t ≡ false) (keys_of (filter (λ v. asks_home (facts_of s v.0) v.1) rs))
          → AllByRecursion (λ t. tx_same tx t ≡ false) (keys_of (cond b (r ∷ filter (λ v. asks_home (facts_of s v.0) v.1) rs) (filter (λ v. asks_home (facts_of s v.0) v.1) rs)))
      at true e more = (false_from_ne_true _ (λ i. both_ways _ (own_is_silent r.1) (subst (λ z. asks_home (facts_of s z) r.1 ≡ true) (sym (tx_true tx r.0 i)) e)), more)
      at false e more = more

  waiting_asks : asks s.shard (without tx s.voters) (waiting_voters (forgets_part tx s)) ≡ asks s.shard s.voters (waiting_voters s)
  waiting_asks = ap (λ rows. asks s.shard (without tx s.voters) (keys_of rows)) (who_asks s.voters) ∙ asks_same s tx (waiting_voters s) (askers_are_others s.voters)

  pub reminders_same : reminders (forgets_part tx s) ≡ reminders s
  reminders_same = ap (λ l. home_reminders s.shard s.requests (durable_requests s) ++ l) waiting_asks

-- ---- events

module _ (s : Shard) (tx : TxId) (past : IsPast s tx) where
  done_by : (t : Shard) {e : Event} {o : Outcome} → Step s e o t → MayMeet tx e → Does o (finish (forgets_part tx t)) ≡ partless tx (Does o (finish t))
  done_by t {o = o} g m = ap (Does o) (finished_same t tx (step_past s t tx g past m))

  idly : (o : Outcome) → Does o (finish (forgets_part tx s)) ≡ partless tx (Does o (finish s))
  idly o = ap (Does o) (finished_same s tx past)

  operation : (u : TxId) (birth : Birth) (nth : ℕ) (seen : Option ℕ) (op : Op) (r : OpReply) → tx_same tx u ≡ false → op_reply s.shard s.local u birth seen op ≡ r → op_event (forgets_part tx s) (partless_reply tx r) ≡ partless tx (op_event s r)
  operation u birth nth seen op (OpWaits y) d e = refl
  operation u birth nth seen op (OpCrowded n) d e = refl
  operation u birth nth seen op (OpDies c l) d e = done_by _ (op_dies u birth nth seen op c l e) d
  operation u birth nth seen op (OpAnswers a l) d e = done_by _ (op_answers u birth nth seen op a l e) d

  by_stage : (u : TxId) (ts : List (ℕ × ℕ)) (st : Option Stage) → tx_same tx u ≡ false → seen_fits s.local.epoch (epoch_in s.shard ts) ≡ true → stage_of s.local u ≡ st
      → request_by_stage (forgets_part tx s) u ts st ≡ partless tx (request_by_stage s u ts st)
  by_stage u ts None d f e = done_by _ (request_new u ts f e) d
  by_stage u ts (Some Active) d f e =
      ap (λ l. Does Asked (finish (coordinate u ts (record s { local = l; voters = without tx s.voters })))) (closed_same s.local tx u s.shard (is_alone (others s.shard ts))) ∙ done_by _ (request_closes u ts f e) d
  by_stage u ts (Some Closed) d f e = idly Asked
  by_stage u ts (Some (Gone None)) d f e = idly Asked
  by_stage u ts (Some (Gone (Some x))) d f e = idly (Dead (doom_cause u x))

  request : (u : TxId) (ts : List (ℕ × ℕ)) (b : Bool) → tx_same tx u ≡ false → seen_fits s.local.epoch (epoch_in s.shard ts) ≡ b → request_event (forgets_part tx s) u ts b ≡ partless tx (request_event s u ts b)
  request u ts true d f = ap (request_by_stage (forgets_part tx s) u ts) (same_stage s.local tx u d) ∙ by_stage u ts (stage_of s.local u) d f refl
  request u ts false d f = idly _

  -- ---- goings back

  rolling : (u : TxId) (nth seen upto : ℕ) (st : Option Stage) → tx_same tx u ≡ false → (seen == s.local.epoch) ≡ true → stage_of s.local u ≡ st
      → roll_by_stage (forgets_part tx s) u (count_after upto (standing_numbers u s.journal)) st ≡ partless tx (roll_by_stage s u (count_after upto (standing_numbers u s.journal)) st)
  rolling u nth seen upto None d f e = idly Rolled
  rolling u nth seen upto (Some Active) d f e = done_by _ (rolls_back u nth seen upto f e) d
  rolling u nth seen upto (Some Closed) d f e = idly (Dead AskedCause)
  rolling u nth seen upto (Some (Gone None)) d f e = idly (Dead AskedCause)
  rolling u nth seen upto (Some (Gone (Some x))) d f e = idly (Dead (doom_cause u x))

  going_back : (u : TxId) (nth seen upto : ℕ) (b : Bool) → tx_same tx u ≡ false → (seen == s.local.epoch) ≡ b → roll_event (forgets_part tx s) u seen upto b ≡ partless tx (roll_event s u seen upto b)
  going_back u nth seen upto false d f = idly _
  going_back u nth seen upto true d f = ap (roll_by_stage (forgets_part tx s) u (count_after upto (standing_numbers u s.journal))) (same_stage s.local tx u d) ∙ rolling u nth seen upto (stage_of s.local u) d f refl

  -- ---- looks

  lost : (u : TxId) (o : Option ℕ) → look_lost (forgets_part tx s) u o ≡ partless tx (look_lost s u o)
  lost u None = refl
  lost u (Some e) = at (e == s.local.epoch)
    where
      at : (b : Bool) → cond b (QuietBeforeWorn NotYet) (Does (Aborted (RestartedCause s.shard e s.local.epoch)) (finish (forgets_part tx s)))
          ≡ partless tx (cond b (QuietBeforeWorn NotYet) (Does (Aborted (RestartedCause s.shard e s.local.epoch)) (finish s)))
      at true = refl
      at false = idly _

  by_state : (st : RequestState) → look_state (forgets_part tx s) st ≡ partless tx (look_state s st)
  by_state Undecided = refl
  by_state (Committed parts) = refl
  by_state Finished = idly Acknowledged
  by_state (Refused cause) = idly (Aborted cause)

  known : (u : TxId) (o : Option Request) → look_known (forgets_part tx s) u o ≡ partless tx (look_known s u o)
  known u (Some p) = by_state p.state
  known u None = at (committed_in s.local.log u) (lost u (request_epoch s.shard u s.journal))
    where
      at : (b : Bool) → look_lost (forgets_part tx s) u (request_epoch s.shard u s.journal) ≡ partless tx (look_lost s u (request_epoch s.shard u s.journal))
          → cond b (QuietBeforeWorn NotYet) (look_lost (forgets_part tx s) u (request_epoch s.shard u s.journal)) ≡ partless tx (cond b (QuietBeforeWorn NotYet) (look_lost s u (request_epoch s.shard u s.journal)))
      at true more = refl
      at false more = more

  look : (u : TxId) (b : Bool) → cond b (Does Acknowledged (finish (forgets_part tx s))) (look_known (forgets_part tx s) u (tx_get u s.requests)) ≡ partless tx (cond b (Does Acknowledged (finish s)) (look_known s u (tx_get u s.requests)))
  look u true = idly Acknowledged
  look u false = known u (tx_get u s.requests)

  -- ---- drops and messages

  dropping : (u : TxId) (st : Option Stage) → tx_same tx u ≡ false → stage_of s.local u ≡ st → drop_event (forgets_part tx s) u st ≡ partless tx (drop_event s u st)
  dropping u None d e = refl
  dropping u (Some stage) d e = ap (λ l. Does Dropped (finish (record s { local = l; voters = without tx s.voters }))) (dropped_same s.local tx u past.is_gone) ∙ done_by _ (drops u stage e) d

  sending : (ms : List Message) → s.outbox ≡ ms → send_event (forgets_part tx s) ms ≡ partless tx (send_event s ms)
  sending [] e = refl
  sending (m ∷ ms) e = done_by _ (sends m ms e) tt

  owed_same : (u : TxId) (home seen : ℕ) → tx_same tx u ≡ false → voters_asked u home seen (without tx s.voters) ≡ without tx (voters_asked u home seen s.voters)
  owed_same u home seen d =
      ap (λ o. tx_put u (asked_voter home seen o) (without tx s.voters)) (get_without tx u s.voters d) ∙ sym (put_without tx u (asked_voter home seen (tx_get u s.voters)) s.voters d past.voters_rise)

  owing : (u : TxId) (home seen stamp : ℕ) → tx_same tx u ≡ false → (stage_of s.local u ≡ Some Active → ⊥)
      → Does Taken (finish (owe_vote u home seen (forgets_part tx s))) ≡ partless tx (Does Taken (finish (owe_vote u home seen s)))
  owing u home seen stamp d n = ap (λ rows. Does Taken (finish (record (with_local (forgets_in tx) s) { voters = rows }))) (owed_same u home seen d) ∙ done_by _ (prepare_again u home seen stamp n) d

  preparing : (u : TxId) (home seen stamp : ℕ) (st : Option Stage) → tx_same tx u ≡ false → stage_of s.local u ≡ st → on_prepare (forgets_part tx s) u home seen st ≡ partless tx (on_prepare s u home seen st)
  preparing u home seen stamp None d e = at (seen == s.local.epoch)
    where
      differ : {x : Option Stage} → x ≡ None → x ≡ Some Active → ⊥
      differ a b = absurd cc

      at : (b : Bool) → cond b (QuietBeforeWorn Stale) (Does Taken (finish (owe_vote u home seen (forgets_part tx s)))) ≡ partless tx (cond b (QuietBeforeWorn Stale) (Does Taken (finish (owe_vote u home seen s))))
      at true = refl
      at false = owing u home seen stamp d (λ f. differ e f)
  preparing u home seen stamp (Some Active) d e =
      ap (λ l. Does Taken (finish (owe_vote u home seen (record s { local = l; voters = without tx s.voters })))) (closed_same s.local tx u home false)
      ∙ ap (λ rows. Does Taken (finish (record s { local = forgets_in tx (close_part u home false s.local); voters = rows }))) (owed_same u home seen d) ∙ done_by _ (prepare_closes u home seen stamp e) d
  preparing u home seen stamp (Some Closed) d e = owing u home seen stamp d (λ f. differ e f)
    where
      differ : {x : Option Stage} → x ≡ Some Closed → x ≡ Some Active → ⊥
      differ a b = absurd cc
  preparing u home seen stamp (Some (Gone x)) d e = owing u home seen stamp d (λ f. differ e f)
    where
      differ : {z : Option Stage} → z ≡ Some (Gone x) → z ≡ Some Active → ⊥
      differ a b = absurd cc

  voting : (u : TxId) (from : ℕ) (vote : Vote) (stamp : ℕ) (o : Option Request) → tx_get u s.requests ≡ o → on_vote (forgets_part tx s) u from vote o ≡ partless tx (on_vote s u from vote o)
  voting u from vote stamp None e = refl
  voting u from vote stamp (Some q) e = at (takes_vote s.shard from q) refl
    where
      at : (b : Bool) → takes_vote s.shard from q ≡ b
          → cond b (Does Taken (finish (with_votes u from vote q (forgets_part tx s)))) (QuietBeforeWorn Stale) ≡ partless tx (cond b (Does Taken (finish (with_votes u from vote q s))) (QuietBeforeWorn Stale))
      at true f = done_by _ (vote_counts u from vote stamp q e f) tt
      at false f = refl

  doing : (u : TxId) (from stamp : ℕ) (o : Option Request) → tx_get u s.requests ≡ o → on_done (forgets_part tx s) u from o ≡ partless tx (on_done s u from o)
  doing u from stamp None e = refl
  doing u from stamp (Some q) e = at (takes_done from q) refl
    where
      at : (b : Bool) → takes_done from q ≡ b
          → cond b (Does Taken (finish (with_done u from q (forgets_part tx s)))) (QuietBeforeWorn Stale) ≡ partless tx (cond b (Does Taken (finish (with_done u from q s))) (QuietBeforeWorn Stale))
      at true f = done_by _ (done_counts u from stamp q e f) tt
      at false f = refl

  deciding : (u : TxId) (home : ℕ) (commit : Bool) (stamp : ℕ) (d : DecisionTaken) → taken_by (facts_of s u) commit ≡ d → on_decide (forgets_part tx s) u home commit d ≡ partless tx (on_decide s u home commit d)
  deciding u home true stamp IsAwaited e = done_by _ (decision_comes u home true stamp e) tt
  deciding u home false stamp IsAwaited e =
      ap (λ l. Does Taken (finish (record s { local = l; voters = without tx s.voters }))) (rolled_same s.local tx u past.is_gone) ∙ done_by _ (decision_comes u home false stamp e) tt
  deciding u home commit stamp IsDone e = done_by _ (decision_again u home commit stamp e) tt
  deciding u home commit stamp IsStale e = refl

  taken_same : (u : TxId) (commit : Bool) → taken_by (facts_of (forgets_part tx s) u) commit ≡ taken_by (facts_of s u) commit
  taken_same u commit = ap (λ b. taken_if b (commit && has_durable_commit (facts_of s u))) (waiting_same s tx u past.is_gone)

  message : (m : Message) (stamp : ℕ) (b : Bool) → IsNoPrepareOf tx m → (to_of m == s.shard) ≡ b → cond b (on_message (forgets_part tx s) m) (QuietBeforeWorn Stale) ≡ partless tx (cond b (on_message s m) (QuietBeforeWorn Stale))
  message m stamp false n e = refl
  message (Prepare to u home seen) stamp true n e = ap (on_prepare (forgets_part tx s) u home seen) (same_stage s.local tx u n) ∙ preparing u home seen stamp (stage_of s.local u) n refl
  message (VoteMessage to u from vote) stamp true n e = voting u from vote stamp (tx_get u s.requests) refl
  message (Decide to u home commit) stamp true n e = ap (on_decide (forgets_part tx s) u home commit) (taken_same u commit) ∙ deciding u home commit stamp (taken_by (facts_of s u) commit) refl
  message (Done to u from) stamp true n e = doing u from stamp (tx_get u s.requests) refl
  message (Ask to u from) stamp true n e = done_by _ (asked u from stamp) tt

  reminding : (out ms : List Message) → s.outbox ≡ out → reminders s ≡ ms → remind_with (forgets_part tx s) out ms ≡ partless tx (remind_with s out ms)
  reminding [] (m ∷ ms) e f = done_by _ (reminds m ms e f) tt
  reminding [] [] e f = refl
  reminding (o ∷ os) ms e f = refl

  flushing : (f : Option ℕ) (n : ℕ) → s.flight ≡ f → fitting 1048576 (drop (taken s) s.local.log) ≡ n → out_event (forgets_part tx s) f n ≡ partless tx (out_event s f n)
  flushing f zero e g = refl
  flushing (Some n) (suc k) e g = refl
  flushing None (suc k) e g = done_by _ (flushes k e g) tt

  up : (e : Event) → MayMeet tx e → happen_up (forgets_part tx s) e ≡ partless tx (happen_up s e)
  up (OpEvent u birth nth seen op) m =
      ap (op_event (forgets_part tx s)) (reply_same s.local tx u m past.is_gone past.parts_rise birth op s.shard seen) ∙ operation u birth nth seen op (op_reply s.shard s.local u birth seen op) m refl
  up (RollTo u nth seen upto) m = going_back u nth seen upto (seen == s.local.epoch) m refl
  up (RequestEvent u ts) m = request u ts (seen_fits s.local.epoch (epoch_in s.shard ts)) m refl
  up (Look u) m = look u (has_durable_commit (facts_of s u))
  up (Drop u) m = ap (drop_event (forgets_part tx s) u) (same_stage s.local tx u m) ∙ dropping u (stage_of s.local u) m refl
  up Send m = sending s.outbox refl
  up (Deliver x stamp) m = message x stamp (to_of x == s.shard) m refl
  up Remind m = ap (remind_with (forgets_part tx s) s.outbox) (reminders_same s tx past.is_gone) ∙ reminding s.outbox (reminders s) refl refl
  up FlushOut m = flushing s.flight (fitting 1048576 (drop (taken s) s.local.log)) refl refl
  up FlushIn m = refl
  up Stop m = refl
  up Restart m = refl

  by_up : (e : Event) (b : Bool) → MayMeet tx e → elim b [ true ↦ happen_up (forgets_part tx s) e | false ↦ QuietBeforeWorn Down ] ≡ partless tx (elim b [ true ↦ happen_up s e | false ↦ QuietBeforeWorn Down ])
  by_up e true m = up e m
  by_up e false m = refl

pub only_its_own_events_miss_it : OnlyItsOwnEventsMissIt
only_its_own_events_miss_it s tx e past may = by_up s tx past e s.is_up may
