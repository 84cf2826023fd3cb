-- Each entry: where a request is finished after it and was not before, its part was here before it, and no write of it stood.
use Rattle.std.proofs.Common.{◌≡◌, ◌⊎◌, inl, inr, ⊎_elim, refl, sym, subst, ◌∙◌, ℕ, true, false, Bool, List, Some}
use Rattle.std.specs.Prelude.{⊤}
use Rattle.std.proofs.lemmas.Bool.{both_ways, false_from_ne_true}
use Rattle.clv_base.specs.declared.names.TxId.{TxId}
use Rattle.clv_base.specs.declared.causes.Vote.{Vote}
use Rattle.clv_base.specs.declared.logs.LogRecord.{LogRecord}
use Rattle.clv_base.specs.declared.messages.Message.TheVariants.{Vote as VoteMessage}
use Rattle.clv_base.specs.declared.state.Request.{Request}
use Rattle.clv_base.specs.declared.state.RequestState.{RequestState}
use Rattle.clv_base.specs.declared.state.RequestState.TheVariants.{Undecided, Committed, Finished, Refused}
use Rattle.clv_base.specs.declared.state.Stage.TheVariants.{Active, Closed}
use Rattle.clv_base.specs.declared.events.Event.{Event}
use Rattle.clv_base.specs.declared.events.Event.TheVariants.{Request as RequestEvent, Deliver, FlushIn, Restart}
use Rattle.clv_base.specs.declared.events.Outcome.{Outcome}
use Rattle.clv_base.specs.declared.events.Outcome.TheVariants.{Asked, Down}
use Rattle.clv_base.specs.Orders.{tx_same, tx_get}
use Rattle.clv_base.specs.Logs.{has_standing, prepared_in}
use Rattle.clv_base.specs.State.{Shard, Local, is_present}
use Rattle.clv_base.specs.Undo.{stage_of}
use Rattle.clv_base.specs.Coordinator.{new_request, with_vote_of, with_done_of, restored_request, restored_requests}
use Rattle.clv_base.specs.Events.{Reply, QuietBeforeWorn, Does, finish, happen, happen_up, with_durable}
use Rattle.clv_base.specs.Restarts.{unended_in, revived}
use Rattle.clv_base.specs.Journals.{up_to_restart}
use Rattle.law_base.proofs.Changed.{Set_or_old, get_set}
use Rattle.law_base.proofs.Rows.{rows_get}
use Rattle.law_base.proofs.Tables.{get_put}
use Rattle.history_cases.proofs.Stepping.{Step, request_new, request_closes, vote_counts, decision_comes, done_counts, finishes, stops}
use Rattle.history_cases.proofs.Entering.{Makes, by_event, by_flush, by_failure, by_restart}
use Rattle.history_cases.proofs.Telling.{all_map}
use Rattle.fate_laws.proofs.Logs.WhatPreparesOrCommits.{Closes, by_request, by_prepare, step_closed, step_prepares}
use Rattle.fate_laws.proofs.Homes.EventsKeepHomes.{put_get, counts_undecided}
use Rattle.fate_laws.proofs.Logs.LogOnlyGrows.{inside_step}
use Rattle.fate_laws.proofs.Parts.PutVotesAreHeld.{votes_put}
use Rattle.fate_laws.proofs.Parts.ClosedPartsKeepWrites.{step_stands}
use Rattle.headline_laws.proofs.AcknowledgedStand.NonWritersStayGone.{active_here, closed_here}
use Rattle.headline_laws.proofs.AcknowledgedStand.DueFinishesOnlyReaders.{Told, RowIs, Within, within_finish}
use Rattle.protocol_laws.proofs.LogsInOrder.OneRecordMore.{prepared_there}
use Rattle.shard_laws.proofs.Order.ChangesKeepOrder.{prepare_some}

-- ---- what an entry begins with, and owes

-- its request is finished
abbrev pub IsFinished : Shard → TxId → Type 0
IsFinished s t = (q : Request) × (tx_get t s.requests ≡ Some q) × (q.state ≡ Finished)

-- its part is here and no write of it stands, where the entry is no restart
abbrev pub IsIdle : Event → Shard → TxId → Type 0
IsIdle e s t = (e ≡ Restart → ⊥) × (is_present (stage_of s.local t) ≡ true) × (has_standing s.local.log t ≡ false)

pub record Begins (W : TxId → List (ℕ × ℕ) → Type 0) (V : TxId → ℕ → Vote → Type 0) (home : ℕ) (s : Shard) : Type 0 where
  pub shard : s.shard ≡ home
  pub stands : (t : TxId) → prepared_in s.local.log t ≡ true → stage_of s.local t ≡ Some Closed → has_standing s.local.log t ≡ true
  pub unprepared : (t : TxId) → stage_of s.local t ≡ Some Active → prepared_in s.local.log t ≡ false
  pub open_ : (t : TxId) (q : Request) → tx_get t s.requests ≡ Some q → q.state ≡ Undecided → W t q.touched × Told (V t) q.votes

abbrev pub Owes : (TxId → List (ℕ × ℕ) → Type 0) → (TxId → ℕ → Vote → Type 0) → Event → Outcome → Type 0
Owes W V (RequestEvent tx ts) Asked = W tx ts
Owes W V (Deliver (VoteMessage to tx from vote) stamp) o = V tx from vote
Owes W V _ _ = ⊤

-- an event of a shard that is up is no restart
no_restart : (s t : Shard) (e : Event) (o : Outcome) → happen s e ≡ Does o t → e ≡ Restart → ⊥
no_restart s t e o h q = at s.is_up (subst (λ v. happen s v ≡ Does o t) q h)
  where
    at : (b : Bool) → ◌≡◌ {A = Reply} (elim b [ true ↦ happen_up s Restart | false ↦ QuietBeforeWorn Down ]) (Does o t) → ⊥
    at true z = absurd cc
    at false z = absurd cc

-- a part that is closed after a step was here before it
here : (s : Shard) {e : Event} {o : Outcome} (t : TxId) → (stage_of s.local t ≡ Some Closed) ⊎ Closes s t e o → is_present (stage_of s.local t) ≡ true
here s t (inl c) = closed_here s.local t c
here s t (inr (by_request ts a)) = active_here s.local t a
here s t (inr (by_prepare to seen stamp a)) = active_here s.local t a

module _ (W : TxId → List (ℕ × ℕ) → Type 0) (V : TxId → ℕ → Vote → Type 0) (home : ℕ) where
  -- a row as it was
  same_row : (P : TxId → Type 0) (s : Shard) (l : Local) (t : TxId) (q : Request) (st : RequestState) → q.state ≡ st → tx_get t s.requests ≡ Some q → Begins W V home s → RowIs (IsFinished s) P W V home l t q st
  same_row P s l t q Undecided e g b = b.open_ t q g e
  same_row P s l t q (Committed parts) e g b = tt
  same_row P s l t q Finished e g b = inl (q, g, e)
  same_row P s l t q (Refused cause) e g b = tt

  old_row : (P : TxId → Type 0) (s : Shard) (l : Local) (t : TxId) (q : Request) → tx_get t s.requests ≡ Some q → Begins W V home s → RowIs (IsFinished s) P W V home l t q q.state
  old_row P s l t q g b = same_row P s l t q q.state refl g b

  -- a new row, or one that was changed
  put_row : (P : TxId → Type 0) (s : Shard) (l : Local) (u : TxId) (ts : List (ℕ × ℕ)) → W u ts → Begins W V home s → (t : TxId) (q : Request) → ((t ≡ u) × (q ≡ new_request ts Undecided)) ⊎ (tx_get t s.requests ≡ Some q) → RowIs (IsFinished s) P W V home l t q q.state
  put_row P s l u ts w b t q (inl c) =
      subst (λ (y : Request). RowIs (IsFinished s) P W V home l t y y.state) (sym c.1) (subst (λ v. RowIs (IsFinished s) P W V home l v (new_request ts Undecided) Undecided) (sym c.0) (w, tt))
  put_row P s l u ts w b t q (inr g) = old_row P s l t q g b

  set_row : (P : TxId → Type 0) (s : Shard) (l : Local) (u : TxId) (w : Request) → RowIs (IsFinished s) P W V home l u w w.state → Begins W V home s → (t : TxId) (q : Request) → Set_or_old u t w q (tx_get t s.requests) → RowIs (IsFinished s) P W V home l t q q.state
  set_row P s l u w r b t q (inl c) =
      subst (λ (y : Request). RowIs (IsFinished s) P W V home l t y y.state) (sym c.1) (subst (λ v. RowIs (IsFinished s) P W V home l v w w.state) (sym c.0) r)
  set_row P s l u w r b t q (inr c) = old_row P s l t q c.1 b

  voted_row : (P : TxId → Type 0) (s : Shard) (l : Local) (u : TxId) (q : Request) (from : ℕ) (vote : Vote) → V u from vote → q.state ≡ Undecided → tx_get u s.requests ≡ Some q → Begins W V home s → RowIs (IsFinished s) P W V home l u (with_vote_of from vote q) q.state
  voted_row P s l u q from vote v e g b =
      let r = b.open_ u q g e in subst (RowIs (IsFinished s) P W V home l u (with_vote_of from vote q)) (sym e) (r.0, votes_put (V u) q.votes from vote v r.1)

  done_row : (F P : TxId → Type 0) (l : Local) (u : TxId) (q : Request) (from : ℕ) (st : RequestState) → RowIs F P W V home l u q st → RowIs F P W V home l u (with_done_of from q) st
  done_row F P l u q from Undecided r = r
  done_row F P l u q from (Committed parts) r = tt
  done_row F P l u q from Finished r = r
  done_row F P l u q from (Refused cause) r = tt

  -- ---- a step

  step_rows : (P : TxId → Type 0) (s x : Shard) {e : Event} {o : Outcome} → Step s e o x → Owes W V e o → Begins W V home s → (t : TxId) (q : Request) → tx_get t x.requests ≡ Some q → RowIs (IsFinished s) P W V home x.local t q q.state
  step_rows P s x (request_new u ts f h) w b t q g = put_row P s x.local u ts w b t q (put_get u t (new_request ts Undecided) q s.requests (tx_same t u) refl (sym (get_put u t (new_request ts Undecided) s.requests) ∙ g))
  step_rows P s x (request_closes u ts f h) w b t q g = put_row P s x.local u ts w b t q (put_get u t (new_request ts Undecided) q s.requests (tx_same t u) refl (sym (get_put u t (new_request ts Undecided) s.requests) ∙ g))
  step_rows P s x (vote_counts u from vote stamp p f c) w b t q g =
      set_row P s x.local u (with_vote_of from vote p) (voted_row P s x.local u p from vote w (counts_undecided s.shard from p p.state c) f b) b t q (get_set u t (with_vote_of from vote p) q s.requests g)
  step_rows P s x (decision_comes u to true stamp f) w b t q g = old_row P s x.local t q g b
  step_rows P s x (decision_comes u to false stamp f) w b t q g = old_row P s x.local t q g b
  step_rows P s x (done_counts u from stamp p f c) w b t q g =
      set_row P s x.local u (with_done_of from p) (done_row (IsFinished s) P x.local u p from p.state (old_row P s x.local u p f b)) b t q (get_set u t (with_done_of from p) q s.requests g)
  step_rows P s x _ w b t q g = old_row P s x.local t q g b

  -- of who is prepared a write stood, where it was closed
  stood : (s : Shard) {e : Event} {o : Outcome} (t : TxId) → Begins W V home s → prepared_in s.local.log t ≡ true → (stage_of s.local t ≡ Some Closed) ⊎ Closes s t e o → has_standing s.local.log t ≡ true
  stood s t b p (inl c) = b.stands t p c
  stood s t b p (inr (by_request ts a)) = absurd (both_ways _ (b.unprepared t a) p)
  stood s t b p (inr (by_prepare to seen stamp a)) = absurd (both_ways _ (b.unprepared t a) p)

  within_step : (s x : Shard) {e : Event} {o : Outcome} → Step s e o x → (e ≡ Restart → ⊥) → Owes W V e o → Begins W V home s → Within (IsFinished s) (IsIdle e s) W V home x
  within_step s x {e} {o} h n w b =
      let i = inside_step s x h in
      record {
        shard = i.shard ∙ b.shard;
        closed = λ t c u. (n, here s t (step_closed s x t h c), false_from_ne_true _ (λ f. both_ways _ u (step_stands s x t h c f)));
        stands = λ t p c.
            let q = prepare_some x.local.log t p in
            step_stands s x t h c (⊎_elim (λ f. stood s t b (prepared_there s.local.log t q.0 f) (step_closed s x t h c)) (λ f. f.stands) (step_prepares s x t q.0 h q.1));
        rows = step_rows (IsIdle e s) s x h w b;
      }

  -- ---- an entry

  flush_begins : (s : Shard) (n : ℕ) → Begins W V home s → Within (IsFinished s) (IsIdle FlushIn s) W V home (with_durable n s)
  flush_begins s n b = record {
    shard = b.shard;
    closed = λ t c u. ((λ q. absurd (differ q)), closed_here s.local t c, u);
    stands = b.stands;
    rows = λ t q g. old_row (IsIdle FlushIn s) s s.local t q g b;
  }
    where
      differ : FlushIn ≡ Restart → ⊥
      differ q = absurd cc

  pub rows_made : (log : List LogRecord) (s x : Shard) {e : Event} {o : Outcome} → Makes log s e o x → Owes W V e o → Begins W V home s → (t : TxId) (q : Request) → tx_get t x.requests ≡ Some q → RowIs (IsFinished s) (IsIdle e s) W V home x.local t q q.state
  rows_made log s x {e} {o} (by_event f (finishes {t = y} u h)) w b t q g = (within_finish (IsFinished s) (IsIdle e s) W V home y (within_step s y h (no_restart s (finish y) e o f) w b)).rows t q g
  rows_made log s x {e} (by_event f (stops u)) w b t q g = old_row (IsIdle e s) s x.local t q g b
  rows_made log s x {e} (by_flush n u f) w b t q g = (within_finish (IsFinished s) (IsIdle e s) W V home (with_durable n s) (flush_begins s n b)).rows t q g
  rows_made log s x {e} (by_failure n u f) w b t q g = old_row (IsIdle e s) s x.local t q g b
  rows_made log s x {e} (by_restart epoch kept u r) w b t q g =
      let after = up_to_restart s.run epoch log in
      rows_get (λ z. RowIs (IsFinished s) (IsIdle e s) W V home (revived s epoch after).local z.0 z.1 (z.1).state) t q (restored_requests (unended_in after after)) (all_map _ (λ n. (n.0, restored_request n.1)) (unended_in after after) (λ n. tt)) g
