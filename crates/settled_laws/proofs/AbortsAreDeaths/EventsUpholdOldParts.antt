-- Each event keeps what a shard upholds, where it rolls back none but those that may go.
use Rattle.std.proofs.Common.{◌≡◌, ◌⊎◌, inl, inr, refl, sym, ap, subst, ◌∙◌, ℕ, true, false, cond, not, Bool, List, [], ◌∷◌, Option, Some, None, is_some, ◌&&◌, ◌||◌, ◌==◌}
use Rattle.std.specs.Prelude.{⊤}
use Rattle.std.specs.List.{AllByRecursion, filter}
use Rattle.std.proofs.lemmas.Bool.{both_ways, and_parts}
use Rattle.clv_base.specs.declared.changes.Change.{Change}
use Rattle.clv_base.specs.declared.names.TxId.{TxId}
use Rattle.clv_base.specs.declared.names.Birth.{Birth}
use Rattle.clv_base.specs.declared.ops.Op.{Op}
use Rattle.clv_base.specs.declared.ops.Answer.{Answer}
use Rattle.clv_base.specs.declared.causes.AbortCause.{AbortCause}
use Rattle.clv_base.specs.declared.causes.NoWhy.{NoWhy}
use Rattle.clv_base.specs.declared.causes.Vote.{Vote}
use Rattle.clv_base.specs.declared.causes.Vote.TheVariants.{Yes, Read, No}
use Rattle.clv_base.specs.declared.messages.Message.{Message}
use Rattle.clv_base.specs.declared.messages.Message.TheVariants.{Prepare, Vote as VoteMessage, Decide, Done, Ask}
use Rattle.clv_base.specs.declared.parts.PartFacts.{PartFacts}
use Rattle.clv_base.specs.declared.state.Stage.{Stage}
use Rattle.clv_base.specs.declared.state.Stage.TheVariants.{Active, Closed, Gone}
use Rattle.clv_base.specs.declared.state.Taken.TheVariants.{Waiting as IsAwaited}
use Rattle.clv_base.specs.declared.state.Voter.{Voter}
use Rattle.clv_base.specs.declared.state.Request.{Request}
use Rattle.clv_base.specs.declared.state.RequestState.{RequestState}
use Rattle.clv_base.specs.declared.state.RequestState.TheVariants.{Undecided, Committed, Finished, Refused}
use Rattle.clv_base.specs.declared.events.Event.{Event}
use Rattle.clv_base.specs.declared.events.Event.TheVariants.{Op as OpEvent, Request as RequestEvent, Look, Drop, Deliver}
use Rattle.clv_base.specs.declared.events.Outcome.{Outcome}
use Rattle.clv_base.specs.declared.events.Outcome.TheVariants.{Dead, Asked, Aborted, Sent, Taken}
use Rattle.clv_base.specs.Orders.{Table, tx_same, tx_in, tx_get, tx_put, nat_in}
use Rattle.clv_base.specs.State.{Shard, Local, with_local, is_present}
use Rattle.clv_base.specs.Undo.{stage_of, doomed_here, roll_back}
use Rattle.clv_base.specs.Facts.{facts_of, has_durable_commit}
use Rattle.clv_base.specs.Participant.{asked_voter, ask_by, asks, taken_by}
use Rattle.clv_base.specs.Coordinator.{new_request, others, counts_vote, with_vote_of, with_done_of, vote_from, ask_answer, prepare_for, missing_votes, missing_dones, each_request, home_reminders}
use Rattle.clv_base.specs.Needs.{writes_of, value_at, key_of}
use Rattle.clv_base.specs.OneShard.{OpDies, OpAnswers, closed_in, close_part, written, locked, performed, rolled_back_if, mark_dropped}
use Rattle.clv_base.specs.Events.{coordinate, is_alone, owe_vote, ask_messages, decided, reminders, durable_requests, waiting_voters}
use Rattle.clv_base.specs.History.{no_taken}
use Rattle.clv_base.proofs.SameNames.{tx_true, tx_self}
use Rattle.law_base.proofs.Changed.{none_some}
use Rattle.law_base.proofs.Rows.{rows_get, rows_put}
use Rattle.law_base.proofs.Lists.{all_append}
use Rattle.law_base.proofs.Tables.{stage_in, get_put}
use Rattle.law_base.proofs.Stages.{stage_own, stage_other, gone_by, stage_marked, stage_closed, closed_other, written_parts}
use Rattle.history_cases.proofs.Stepping.{with_work, FindsLost, Step, op_dies, op_answers, request_again, request_new, request_closes, looks_ill, drops, sends, prepare_closes, prepare_again, vote_counts, decision_comes, decision_again, done_counts, asked, reminds}
use Rattle.history_cases.proofs.Telling.{all_map}
use Rattle.history_laws.proofs.Entries.WhatOperationsDo.{OpIs, dies, rolls, performs, reply_is}
use Rattle.fate_laws.proofs.Parts.CommittedAreVotedFor.{Touched}
use Rattle.fate_laws.proofs.Parts.PutVotesAreHeld.{votes_put}
use Rattle.fate_laws.proofs.Logs.WhatPreparesOrCommits.{new_active}
use Rattle.fate_laws.proofs.FallenAreUncommitted.StepsKeepOutUncommitted.{performed_other}
use Rattle.settled_laws.proofs.AbortsAreDeaths.DueUpholdsOldParts.{Asks, AllRead, Spares, VoteStands, RowStands, VoterStands, Ends, Upheld, upheld_as, none_back, sends_more, row_set}

-- ---- what an entry owes

-- each that goes with the abort may go by it
abbrev pub Falls : (TxId → ℕ → List (ℕ × ℕ) → Type 0) → (TxId → Type 0) → Shard → TxId → Type 0
Falls W O s u = (t : TxId) → tx_in t (doomed_here s.local u) ≡ true → Ends W O t u

abbrev pub OwesVote : (TxId → ℕ → List (ℕ × ℕ) → Type 0) → (ℕ → TxId → Type 0) → ℕ → TxId → Vote → Type 0
OwesVote W V from tx Yes = ⊤
OwesVote W V from tx Read = V from tx
OwesVote W V from tx (No why) = Touched W from tx → ⊥

abbrev pub OwesMessage : (TxId → ℕ → List (ℕ × ℕ) → Type 0) → (ℕ → TxId → Type 0) → (TxId → Type 0) → Shard → Message → Type 0
OwesMessage W V O s (Prepare to tx home seen) = Touched W s.shard tx → stage_of s.local tx ≡ None → ⊥
OwesMessage W V O s (VoteMessage to tx from vote) = OwesVote W V from tx vote
OwesMessage W V O s (Decide to tx home true) = ⊤
OwesMessage W V O s (Decide to tx home false) = to ≡ s.shard → taken_by (facts_of s tx) false ≡ IsAwaited → Falls W O s tx
OwesMessage W V O s (Done to tx from) = ⊤
OwesMessage W V O s (Ask to tx from) = to ≡ s.shard → Asks W tx → tx_get tx s.requests ≡ None → ⊥

abbrev pub IsFinal : Option Stage → Type 0
IsFinal o = (o ≡ Some (Gone None)) ⊎ (o ≡ Some Closed)

abbrev pub Owes : (TxId → ℕ → List (ℕ × ℕ) → Type 0) → (ℕ → TxId → Type 0) → (TxId → Type 0) → Shard → Event → Outcome → Type 0
Owes W V O s (OpEvent tx birth nth seen op) (Dead cause) = Falls W O s tx
Owes W V O s (OpEvent tx birth nth seen op) _ = ⊤
Owes W V O s (RequestEvent tx ts) Asked = W tx s.shard ts × (IsFinal (stage_of s.local tx) → ⊥)
Owes W V O s (RequestEvent tx ts) _ = ⊤
Owes W V O s (Drop tx) o = Falls W O s tx
Owes W V O s (Deliver m stamp) Taken = OwesMessage W V O s m
Owes W V O s (Deliver m stamp) _ = ⊤
Owes W V O s _ o = ⊤

-- ---- an abort

pub rolled : (W : TxId → ℕ → List (ℕ × ℕ) → Type 0) (V : ℕ → TxId → Type 0) (O B : TxId → Type 0) (s : Shard) (u : TxId) → Falls W O s u → Upheld W V O B s → Upheld W V O B (with_local (roll_back u) s)
rolled W V O B s u f p = upheld_as W V O B s (with_local (roll_back u) s) refl refl refl refl p.out (λ t d e. at t d (tx_in t (doomed_here s.local u)) refl e) (λ t e. none_back (doomed_here s.local u) (Some u) t s.local.parts e) p
  where
    by : (d : TxId) (o : Option Stage) → gone_by (Some u) o ≡ Some (Gone (Some d)) → u ≡ d
    by d None e = absurd cc
    by d (Some st) e = cc

    at : (t d : TxId) (b : Bool) → tx_in t (doomed_here s.local u) ≡ b → stage_of (roll_back u s.local) t ≡ Some (Gone (Some d)) → Ends W O t d
    at t d true i e = subst (Ends W O t) (by d (stage_in s.local.parts t) (sym (stage_own (doomed_here s.local u) (Some u) t s.local.parts i) ∙ e)) (f t i)
    at t d false i e = p.gone t d (sym (stage_other (doomed_here s.local u) (Some u) t s.local.parts i) ∙ e)

-- ---- parts

same_parts : (W : TxId → ℕ → List (ℕ × ℕ) → Type 0) (V : ℕ → TxId → Type 0) (O B : TxId → Type 0) (s x : Shard) → x.shard ≡ s.shard → x.requests ≡ s.requests → x.voters ≡ s.voters → x.local.parts ≡ s.local.parts → x.local.epoch ≡ s.local.epoch → AllByRecursion (Spares W V) x.outbox → Upheld W V O B s → Upheld W V O B x
same_parts W V O B s x e f g h ep out p = upheld_as W V O B s x e f g ep out (λ t d k. p.gone t d (ap (λ z. stage_in z t) (sym h) ∙ k)) (λ t k. ap (λ z. stage_in z t) (sym h) ∙ k) p

closes : (W : TxId → ℕ → List (ℕ × ℕ) → Type 0) (V : ℕ → TxId → Type 0) (O B : TxId → Type 0) (s : Shard) (tx : TxId) (home : ℕ) (one : Bool) → stage_of s.local tx ≡ Some Active → Upheld W V O B s → Upheld W V O B (with_local (close_part tx home one) s)
closes W V O B s tx home one a p = upheld_as W V O B s (with_local (close_part tx home one) s) refl refl refl refl p.out (λ t d e. at t d (tx_same tx t) refl e) (λ t e. none t (tx_same tx t) refl e) p
  where
    now : stage_in (closed_in tx s.local.parts) tx ≡ Some Closed
    now = stage_closed s.local.parts tx a

    differ : (d : TxId) → ◌≡◌ {A = Option Stage} (Some Closed) (Some (Gone (Some d))) → ⊥
    differ d z = absurd cc

    at : (t d : TxId) (b : Bool) → tx_same tx t ≡ b → stage_in (closed_in tx s.local.parts) t ≡ Some (Gone (Some d)) → Ends W O t d
    at t d true q e = absurd (differ d (sym now ∙ subst (λ z. stage_in (closed_in tx s.local.parts) z ≡ Some (Gone (Some d))) (sym (tx_true tx t q)) e))
    at t d false q e = p.gone t d (sym (closed_other s.local.parts tx t q) ∙ e)

    none : (t : TxId) (b : Bool) → tx_same tx t ≡ b → stage_in (closed_in tx s.local.parts) t ≡ None → stage_of s.local t ≡ None
    none t true q e = absurd (none_some Closed (sym (subst (λ z. stage_in (closed_in tx s.local.parts) z ≡ None) (sym (tx_true tx t q)) e) ∙ now))
    none t false q e = sym (closed_other s.local.parts tx t q) ∙ e

written_epoch : (tx : TxId) (w : Option (ℕ × Change)) (l : Local) → (written tx w l).epoch ≡ l.epoch
written_epoch tx None l = refl
written_epoch tx (Some w) l = refl

answers : (W : TxId → ℕ → List (ℕ × ℕ) → Type 0) (V : ℕ → TxId → Type 0) (O B : TxId → Type 0) (s : Shard) (tx : TxId) (birth : Birth) (op : Op) → (stage_of s.local tx ≡ None) ⊎ (stage_of s.local tx ≡ Some Active) → Upheld W V O B s → Upheld W V O B (with_work (performed tx birth op s.local) s)
answers W V O B s tx birth op k p = upheld_as W V O B s (with_work (performed tx birth op s.local) s) refl refl refl (written_epoch tx (writes_of op (value_at (key_of op) s.local.records)) (locked tx birth op s.local)) p.out (λ t d e. at t d (tx_same t tx) refl e) (λ t e. none t (tx_same t tx) refl e) p
  where
    now : stage_of (performed tx birth op s.local) tx ≡ Some Active
    now = ap (λ z. stage_in z tx) (written_parts tx (writes_of op (value_at (key_of op) s.local.records)) (locked tx birth op s.local)) ∙ new_active tx birth s.local.parts (tx_get tx s.local.parts) refl k

    differ : (d : TxId) → ◌≡◌ {A = Option Stage} (Some Active) (Some (Gone (Some d))) → ⊥
    differ d z = absurd cc

    at : (t d : TxId) (b : Bool) → tx_same t tx ≡ b → stage_of (performed tx birth op s.local) t ≡ Some (Gone (Some d)) → Ends W O t d
    at t d true q e = absurd (differ d (sym now ∙ subst (λ z. stage_of (performed tx birth op s.local) z ≡ Some (Gone (Some d))) (tx_true t tx q) e))
    at t d false q e = p.gone t d (sym (performed_other s.local tx t birth op q) ∙ e)

    none : (t : TxId) (b : Bool) → tx_same t tx ≡ b → stage_of (performed tx birth op s.local) t ≡ None → stage_of s.local t ≡ None
    none t true q e = absurd (none_some Active (sym (subst (λ z. stage_of (performed tx birth op s.local) z ≡ None) (tx_true t tx q) e) ∙ now))
    none t false q e = sym (performed_other s.local tx t birth op q) ∙ e

answered : (W : TxId → ℕ → List (ℕ × ℕ) → Type 0) (V : ℕ → TxId → Type 0) (O B : TxId → Type 0) (s : Shard) (tx : TxId) (birth : Birth) (seen : Option ℕ) (op : Op) (a : Answer) (l : Local) → OpIs s.local tx birth seen op (OpAnswers a l) → Upheld W V O B s → Upheld W V O B (with_work l s)
answered W V O B s tx birth seen op _ _ (performs f e) p = answers W V O B s tx birth op e p

died : (W : TxId → ℕ → List (ℕ × ℕ) → Type 0) (V : ℕ → TxId → Type 0) (O B : TxId → Type 0) (s : Shard) (tx : TxId) (birth : Birth) (seen : Option ℕ) (op : Op) (c : AbortCause) (l : Local) → OpIs s.local tx birth seen op (OpDies c l) → Falls W O s tx → Upheld W V O B s
    → Upheld W V O B (with_work l s)
died W V O B s tx birth seen op c _ dies f p = same_parts W V O B s (with_work s.local s) refl refl refl refl refl p.out p
died W V O B s tx birth seen op c _ rolls f p = rolled W V O B s tx f p

dropped : (W : TxId → ℕ → List (ℕ × ℕ) → Type 0) (V : ℕ → TxId → Type 0) (O B : TxId → Type 0) (s : Shard) (tx : TxId) (b : Bool) → Falls W O s tx → Upheld W V O B s → Upheld W V O B (with_local (λ l. mark_dropped tx (rolled_back_if b tx l)) s)
dropped W V O B s tx b f p = marked (with_local (rolled_back_if b tx) s) (without b)
  where
    without : (b : Bool) → Upheld W V O B (with_local (rolled_back_if b tx) s)
    without true = rolled W V O B s tx f p
    without false = same_parts W V O B s (with_local (rolled_back_if false tx) s) refl refl refl refl refl p.out p

    marked : (u : Shard) → Upheld W V O B u → Upheld W V O B (with_local (mark_dropped tx) u)
    marked u k = upheld_as W V O B u (with_local (mark_dropped tx) u) refl refl refl refl k.out (λ t d e. k.gone t d (sym (stage_marked tx t u.local.parts) ∙ e)) (λ t e. sym (stage_marked tx t u.local.parts) ∙ e) k

-- ---- requests and voters

put_there : {X : Type 0} (t u : TxId) (w : X) (rs : Table X) → tx_get u (tx_put t w rs) ≡ None → (tx_same u t ≡ false) × (tx_get u rs ≡ None)
put_there t u w rs e = at (tx_same u t) refl (sym (get_put t u w rs) ∙ e)
  where
    at : (b : Bool) → tx_same u t ≡ b → cond b (Some w) (tx_get u rs) ≡ None → (tx_same u t ≡ false) × (tx_get u rs ≡ None)
    at true q f = absurd (none_some w (sym f))
    at false q f = (q, f)

coordinates : (W : TxId → ℕ → List (ℕ × ℕ) → Type 0) (V : ℕ → TxId → Type 0) (O B : TxId → Type 0) (s : Shard) (tx : TxId) (ts : List (ℕ × ℕ)) → W tx s.shard ts → Upheld W V O B s → Upheld W V O B (coordinate tx ts s)
coordinates W V O B s tx ts w p = record {
  gone = p.gone;
  rows = rows_put (λ r. RowStands W V s.shard r.0 r.1 (r.1).state) tx (new_request ts Undecided) s.requests (w, tt) p.rows;
  voters = p.voters;
  out = all_append (Spares W V) s.outbox _ p.out (all_map (Spares W V) (prepare_for s.shard tx) (filter (λ t. not (t.0 == s.shard)) ts) (λ t. tt));
  there = λ t b e. p.there t b (put_there tx t (new_request ts Undecided) s.requests e).1;
  epoch = p.epoch;
}

owed_vote : (W : TxId → ℕ → List (ℕ × ℕ) → Type 0) (V : ℕ → TxId → Type 0) (O B : TxId → Type 0) (s : Shard) (tx : TxId) (home seen : ℕ) → (Touched W s.shard tx → stage_of s.local tx ≡ None → ⊥) → Upheld W V O B s → Upheld W V O B (owe_vote tx home seen s)
owed_vote W V O B s tx home seen k p = record {
  gone = p.gone;
  rows = p.rows;
  voters = rows_put (λ r. VoterStands W s r.0 r.1) tx (asked_voter home seen (tx_get tx s.voters)) s.voters (λ h. ((λ why e. no_no h why (tx_get tx s.voters) refl e), k h)) p.voters;
  out = p.out;
  there = p.there;
  epoch = p.epoch;
}
  where
    no_no : Touched W s.shard tx → (why : NoWhy) (o : Option Voter) → tx_get tx s.voters ≡ o → (asked_voter home seen o).vote ≡ Some (No why) → ⊥
    no_no h why None g e = none_some (No why) e
    no_no h why (Some v) g e = (rows_get (λ r. VoterStands W s r.0 r.1) tx v s.voters p.voters g h).0 why e

counted : (W : TxId → ℕ → List (ℕ × ℕ) → Type 0) (V : ℕ → TxId → Type 0) (n from : ℕ) (tx : TxId) (vote : Vote) (q : Request) (st : RequestState) → counts_vote n from q st ≡ true → OwesVote W V from tx vote → RowStands W V n tx q st → RowStands W V n tx (with_vote_of from vote q) st
counted W V n from tx vote q Undecided e o (w, vs) = (w, votes_put (λ m v. VoteStands V m tx v) q.votes from vote (stands vote o) vs)
  where
    stands : (v : Vote) → OwesVote W V from tx v → VoteStands V from tx v
    stands Yes k = tt
    stands Read k = k
    stands (No why) k = k (n, q.touched, w, (and_parts (nat_in from (others n q.touched)) (not (is_some (vote_from from q.votes))) e).0)
counted W V n from tx vote q (Committed parts) e o k = tt
counted W V n from tx vote q Finished e o k = absurd (both_ways false refl e)
counted W V n from tx vote q (Refused c) e o k = absurd k

acknowledged : (W : TxId → ℕ → List (ℕ × ℕ) → Type 0) (V : ℕ → TxId → Type 0) (n from : ℕ) (tx : TxId) (q : Request) (st : RequestState) → RowStands W V n tx q st → RowStands W V n tx (with_done_of from q) st
acknowledged W V n from tx q Undecided k = k
acknowledged W V n from tx q (Committed parts) k = tt
acknowledged W V n from tx q Finished k = k
acknowledged W V n from tx q (Refused c) k = k

-- ---- what is sent

unanswered : (b c : Bool) → ◌≡◌ {A = Option Bool} (cond b (Some true) (cond (c || true) None (Some false))) (Some false) → ⊥
unanswered true c e = absurd cc
unanswered false true e = absurd cc
unanswered false false e = absurd cc

answer_spares : (W : TxId → ℕ → List (ℕ × ℕ) → Type 0) (V : ℕ → TxId → Type 0) (O B : TxId → Type 0) (s : Shard) (tx : TxId) → (Asks W tx → tx_get tx s.requests ≡ None → ⊥) → Upheld W V O B s → ask_answer (tx_get tx s.requests) (facts_of s tx) ≡ Some false → Asks W tx → AllRead W V tx
answer_spares W V O B s tx k p e h = at (tx_get tx s.requests) refl e
  where
    f : PartFacts
    f = facts_of s tx

    by_state : (q : Request) (st : RequestState) → q.state ≡ st → RowStands W V s.shard tx q st → ◌≡◌ {A = Option Bool} (cond (has_durable_commit (facts_of s tx)) (Some true) (cond (is_some (facts_of s tx).commit || elim st [ Undecided ↦ true | Committed parts ↦ true | Finished ↦ false | Refused cause ↦ false ]) None (Some false))) (Some false) → AllRead W V tx
    by_state q Undecided u r g = absurd (unanswered (has_durable_commit f) (is_some f.commit) g)
    by_state q (Committed parts) u r g = absurd (unanswered (has_durable_commit f) (is_some f.commit) g)
    by_state q Finished u r g = r h
    by_state q (Refused c) u r g = absurd r

    at : (o : Option Request) → tx_get tx s.requests ≡ o → ask_answer o (facts_of s tx) ≡ Some false → AllRead W V tx
    at None g a = absurd (k h g)
    at (Some q) g a = by_state q q.state refl (rows_get (λ r. RowStands W V s.shard r.0 r.1 (r.1).state) tx q s.requests p.rows g) a

asks_spare : (W : TxId → ℕ → List (ℕ × ℕ) → Type 0) (V : ℕ → TxId → Type 0) (s : Shard) (tx : TxId) (from : ℕ) (a : Option Bool) → (a ≡ Some false → Asks W tx → AllRead W V tx) → AllByRecursion (Spares W V) (ask_messages s tx from a)
asks_spare W V s tx from None k = tt
asks_spare W V s tx from (Some true) k = (tt, tt)
asks_spare W V s tx from (Some false) k = (k refl, tt)

each_spares : (W : TxId → ℕ → List (ℕ × ℕ) → Type 0) (V : ℕ → TxId → Type 0) (f : TxId → Request → List Message) → ((t : TxId) (q : Request) → AllByRecursion (Spares W V) (f t q)) → (rs : Table Request) → AllByRecursion (Spares W V) (each_request f rs)
each_spares W V f k [] = tt
each_spares W V f k (r ∷ rs) = all_append (Spares W V) (f r.0 r.1) (each_request f rs) (k r.0 r.1) (each_spares W V f k rs)

asking_spares : (W : TxId → ℕ → List (ℕ × ℕ) → Type 0) (V : ℕ → TxId → Type 0) (n : ℕ) (voters : Table Voter) (txs : List TxId) → AllByRecursion (Spares W V) (asks n voters txs)
asking_spares W V n voters [] = tt
asking_spares W V n voters (t ∷ ts) = all_append (Spares W V) (ask_by n t (tx_get t voters)) (asks n voters ts) (one (tx_get t voters)) (asking_spares W V n voters ts)
  where
    one : (o : Option Voter) → AllByRecursion (Spares W V) (ask_by n t o)
    one None = tt
    one (Some v) = (tt, tt)

reminders_spare : (W : TxId → ℕ → List (ℕ × ℕ) → Type 0) (V : ℕ → TxId → Type 0) (s : Shard) → AllByRecursion (Spares W V) (reminders s)
reminders_spare W V s =
    all_append (Spares W V) (home_reminders s.shard s.requests (durable_requests s)) _
    (all_append (Spares W V) (each_request (λ t q. missing_votes s.shard t q q.state) s.requests) _ (each_spares W V _ (λ t q. missing t q q.state) s.requests) (each_spares W V _ (λ t q. done t q (tx_in t (durable_requests s))) s.requests))
    (asking_spares W V s.shard s.voters (waiting_voters s))
  where
    missing : (t : TxId) (q : Request) (st : RequestState) → AllByRecursion (Spares W V) (missing_votes s.shard t q st)
    missing t q Undecided = all_map (Spares W V) (prepare_for s.shard t) (filter (λ u. not (u.0 == s.shard) && not (is_some (vote_from u.0 q.votes))) q.touched) (λ u. tt)
    missing t q (Committed parts) = tt
    missing t q Finished = tt
    missing t q (Refused c) = tt

    undone : (t : TxId) (q : Request) (st : RequestState) → AllByRecursion (Spares W V) (missing_dones s.shard t q st)
    undone t q Undecided = tt
    undone t q (Committed parts) = all_map (Spares W V) (λ p. Decide p t s.shard true) (filter (λ p. not (nat_in p q.acknowledged_by)) parts) (λ p. tt)
    undone t q Finished = tt
    undone t q (Refused c) = tt

    done : (t : TxId) (q : Request) (b : Bool) → AllByRecursion (Spares W V) (elim b [ true ↦ missing_dones s.shard t q q.state | false ↦ [] ])
    done t q true = undone t q q.state
    done t q false = tt

-- ---- each step

decides : (W : TxId → ℕ → List (ℕ × ℕ) → Type 0) (V : ℕ → TxId → Type 0) (O B : TxId → Type 0) (s : Shard) (tx : TxId) (home : ℕ) (commit : Bool) → taken_by (facts_of s tx) commit ≡ IsAwaited → OwesMessage W V O s (Decide s.shard tx home commit) → Upheld W V O B s
    → Upheld W V O B (decided s tx commit)
decides W V O B s tx home true g o p = same_parts W V O B s (decided s tx true) refl refl refl refl refl p.out p
decides W V O B s tx home false g o p = rolled W V O B s tx (o refl g) p

pub step_upheld : (W : TxId → ℕ → List (ℕ × ℕ) → Type 0) (V : ℕ → TxId → Type 0) (O B : TxId → Type 0) (s x : Shard) {e : Event} {o : Outcome} → Step s e o x → Owes W V O s e o → Upheld W V O B s → Upheld W V O B x
step_upheld W V O B s _ (op_dies tx birth nth seen op cause l g) w p = died W V O B s tx birth seen op cause l (reply_is s.shard s.local tx birth seen op (OpDies cause l) g) w p
step_upheld W V O B s _ (op_answers tx birth nth seen op answer l g) w p = answered W V O B s tx birth seen op answer l (reply_is s.shard s.local tx birth seen op (OpAnswers answer l) g) p
step_upheld W V O B s _ (request_new tx ts f g) w p = coordinates W V O B s tx ts w.0 p
step_upheld W V O B s _ (request_closes tx ts f g) w p =
    let one = is_alone (others s.shard ts) in coordinates W V O B (with_local (close_part tx s.shard one) s) tx ts w.0 (closes W V O B s tx s.shard one g p)
step_upheld W V O B s _ (drops tx stage g) w p = dropped W V O B s tx (is_present (stage_of s.local tx)) w p
step_upheld W V O B s _ (sends m ms g) w p = record { gone = p.gone; rows = p.rows; voters = p.voters; out = (subst (AllByRecursion (Spares W V)) g p.out).1; there = p.there; epoch = p.epoch }
step_upheld W V O B s _ (prepare_closes tx home seen stamp g) w p =
    owed_vote W V O B (with_local (close_part tx home false) s) tx home seen (λ h e. none_some Closed (sym e ∙ stage_closed s.local.parts tx g)) (closes W V O B s tx home false g p)
step_upheld W V O B s _ (prepare_again tx home seen stamp g) w p = owed_vote W V O B s tx home seen w p
step_upheld W V O B s _ (vote_counts tx from vote stamp q g f) w p =
    row_set W V O B s tx (with_vote_of from vote q) (counted W V s.shard from tx vote q q.state f w (rows_get (λ r. RowStands W V s.shard r.0 r.1 (r.1).state) tx q s.requests p.rows g)) p
step_upheld W V O B s _ (decision_comes tx home commit stamp g) w p = decides W V O B s tx home commit g w p
step_upheld W V O B s _ (decision_again tx home commit stamp g) w p = sends_more W V O B s (Done home tx s.shard ∷ []) (tt, tt) p
step_upheld W V O B s _ (done_counts tx from stamp q g f) w p =
    row_set W V O B s tx (with_done_of from q) (acknowledged W V s.shard from tx q q.state (rows_get (λ r. RowStands W V s.shard r.0 r.1 (r.1).state) tx q s.requests p.rows g)) p
step_upheld W V O B s _ (asked tx from stamp) w p =
    sends_more W V O B s (ask_messages s tx from (ask_answer (tx_get tx s.requests) (facts_of s tx))) (asks_spare W V s tx from (ask_answer (tx_get tx s.requests) (facts_of s tx)) (λ e h. answer_spares W V O B s tx (w refl) p e h)) p
step_upheld W V O B s _ (reminds m ms g f) w p = sends_more W V O B s (m ∷ ms) (subst (AllByRecursion (Spares W V)) f (reminders_spare W V s)) p
step_upheld W V O B s x _ w p = record { gone = p.gone; rows = p.rows; voters = p.voters; out = p.out; there = p.there; epoch = p.epoch }

-- ---- what is said by it

abbrev pub SaidBy : (TxId → ℕ → List (ℕ × ℕ) → Type 0) → (ℕ → TxId → Type 0) → Outcome → Type 0
SaidBy W V (Sent m) = Spares W V m
SaidBy W V (Aborted c) = ⊥
SaidBy W V _ = ⊤

-- nobody is told that its request was lost
abbrev pub LosesNone : Shard → Event → Outcome → Type 0
LosesNone s e o = (t : TxId) (c : AbortCause) → e ≡ Look t → o ≡ Aborted c → FindsLost s t c → ⊥

pub step_says : (W : TxId → ℕ → List (ℕ × ℕ) → Type 0) (V : ℕ → TxId → Type 0) (O B : TxId → Type 0) (s x : Shard) {e : Event} {o : Outcome} → Step s e o x → LosesNone s e o → Upheld W V O B s → SaidBy W V o
step_says W V O B s _ (sends m ms g) k p = (subst (AllByRecursion (Spares W V)) g p.out).0
step_says W V O B s _ (looks_ill tx c d (inl (q, g, u))) k p = subst (RowStands W V s.shard tx q) u (rows_get (λ r. RowStands W V s.shard r.0 r.1 (r.1).state) tx q s.requests p.rows g)
step_says W V O B s _ (looks_ill tx c d (inr f)) k p = k tx c refl refl f
step_says W V O B s x _ k p = tt

-- no home takes a no
abbrev pub TakesNoNo : Event → Outcome → Type 0
TakesNoNo e o = (t : TxId) (p : ℕ) (why : NoWhy) → no_taken t e o ≡ Some (p, why) → ⊥

pub step_takes : (W : TxId → ℕ → List (ℕ × ℕ) → Type 0) (V : ℕ → TxId → Type 0) (O B : TxId → Type 0) (s x : Shard) {e : Event} {o : Outcome} → Step s e o x → Owes W V O s e o → Upheld W V O B s → TakesNoNo e o
step_takes W V O B s _ (vote_counts tx from Yes stamp q g f) w p t n why z = absurd (none_some (n, why) z)
step_takes W V O B s _ (vote_counts tx from Read stamp q g f) w p t n why z = absurd (none_some (n, why) z)
step_takes W V O B s _ (vote_counts tx from (No y) stamp q g f) w p t n why z = by q.state f (rows_get (λ r. RowStands W V s.shard r.0 r.1 (r.1).state) tx q s.requests p.rows g)
  where
    by : (st : RequestState) → counts_vote s.shard from q st ≡ true → RowStands W V s.shard tx q st → ⊥
    by Undecided k r = w (s.shard, q.touched, r.0, (and_parts (nat_in from (others s.shard q.touched)) (not (is_some (vote_from from q.votes))) k).0)
    by (Committed parts) k r = both_ways false refl k
    by Finished k r = both_ways false refl k
    by (Refused c) k r = r
step_takes W V O B s x _ w p t n why z = absurd (none_some (n, why) z)

-- ---- a request that is taken is kept

abbrev pub AsksNow : TxId → Event → Outcome → Type 0
AsksNow t e o = (ts : List (ℕ × ℕ)) × (e ≡ RequestEvent t ts) × (o ≡ Asked)

pub asks_there : (W : TxId → ℕ → List (ℕ × ℕ) → Type 0) (V : ℕ → TxId → Type 0) (O : TxId → Type 0) (s x : Shard) {e : Event} {o : Outcome} (t : TxId) (ts : List (ℕ × ℕ)) → Step s e o x → Owes W V O s e o → e ≡ RequestEvent t ts → o ≡ Asked → tx_get t x.requests ≡ None → ⊥
asks_there W V O s _ t ts (request_again tx us f g) w e q z = w.1 g
asks_there W V O s _ t ts (request_new tx us f g) w e q z = here us e (put_there tx t (new_request us Undecided) s.requests z).0
  where
    here : (us : List (ℕ × ℕ)) → RequestEvent tx us ≡ RequestEvent t ts → tx_same t tx ≡ false → ⊥
    here us a n = both_ways false refl (sym n ∙ subst (λ y. tx_same t y ≡ true) (same a) (tx_self t))
      where
        same : RequestEvent tx us ≡ RequestEvent t ts → t ≡ tx
        same b = cc
asks_there W V O s _ t ts (request_closes tx us f g) w e q z = here us e (put_there tx t (new_request us Undecided) s.requests z).0
  where
    here : (us : List (ℕ × ℕ)) → RequestEvent tx us ≡ RequestEvent t ts → tx_same t tx ≡ false → ⊥
    here us a n = both_ways false refl (sym n ∙ subst (λ y. tx_same t y ≡ true) (same a) (tx_self t))
      where
        same : RequestEvent tx us ≡ RequestEvent t ts → t ≡ tx
        same b = cc
asks_there W V O s x t ts _ w e q z = absurd cc
