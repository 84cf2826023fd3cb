-- What an event does before what is due is done: who goes by an abort goes by its own end, and what a request has of votes was taken.
use Rattle.std.proofs.Common.{◌≡◌, ◌⊎◌, inl, inr, refl, sym, ap, subst, ◌∙◌, ℕ, true, false, cond, not, Bool, List, Option, Some, None, is_some}
use Rattle.std.specs.Prelude.{⊤}
use Rattle.std.proofs.lemmas.Bool.{both_ways, and_parts, cond-true, cond-false}
use Rattle.clv_base.specs.declared.names.TxId.{TxId}
use Rattle.clv_base.specs.declared.names.Birth.{Birth}
use Rattle.clv_base.specs.declared.ops.Op.{Op}
use Rattle.clv_base.specs.declared.ops.Answer.{Answer}
use Rattle.clv_base.specs.declared.causes.NoWhy.{NoWhy}
use Rattle.clv_base.specs.declared.causes.AbortCause.{AbortCause}
use Rattle.clv_base.specs.declared.causes.Vote.{Vote}
use Rattle.clv_base.specs.declared.causes.Vote.TheVariants.{Yes, Read, No}
use Rattle.clv_base.specs.declared.messages.Message.{Message}
use Rattle.clv_base.specs.declared.messages.Message.TheVariants.{Prepare, Vote as VoteMessage, Decide, Done, Ask}
use Rattle.clv_base.specs.declared.events.Event.{Event}
use Rattle.clv_base.specs.declared.events.Event.TheVariants.{Op as OpEvent, Request as RequestEvent, Drop, Deliver}
use Rattle.clv_base.specs.declared.events.Outcome.{Outcome}
use Rattle.clv_base.specs.declared.events.Outcome.TheVariants.{Dead, Asked, Taken}
use Rattle.clv_base.specs.declared.state.Stage.{Stage}
use Rattle.clv_base.specs.declared.state.Stage.TheVariants.{Active, Closed, Gone}
use Rattle.clv_base.specs.declared.state.Held.{Held}
use Rattle.clv_base.specs.declared.state.Voter.{Voter}
use Rattle.clv_base.specs.declared.state.Request.{Request}
use Rattle.clv_base.specs.declared.state.RequestState.{RequestState}
use Rattle.clv_base.specs.declared.state.RequestState.TheVariants.{Undecided, Committed, Finished, Refused}
use Rattle.clv_base.specs.Orders.{Table, tx_same, tx_get, tx_put, tx_set, nat_in}
use Rattle.clv_base.specs.State.{Shard, Local, with_local, is_present}
use Rattle.clv_base.specs.Undo.{stage_of}
use Rattle.clv_base.specs.Needs.{writes_of, value_at, key_of}
use Rattle.clv_base.specs.Participant.{asked_voter}
use Rattle.clv_base.specs.Coordinator.{new_request, others, vote_from, counts_vote, with_vote_of, with_done_of}
use Rattle.clv_base.specs.OneShard.{OpDies, OpAnswers, active_part, new_part, locked, performed, rolled_back_if, close_part, closed_in, mark_dropped}
use Rattle.clv_base.specs.Events.{is_alone, coordinate, owe_vote, decided}
use Rattle.clv_base.proofs.SameNames.{tx_true}
use Rattle.law_base.proofs.Changed.{none_some, Set_or_old, get_set}
use Rattle.law_base.proofs.Tables.{stage_by, stage_in, is_pair, get_put}
use Rattle.law_base.proofs.Stages.{stage_closed, closed_other as stage_other, written_parts, stage_marked}
use Rattle.history_cases.proofs.Stepping.{with_work, Step, op_dies, op_answers, request_refused, request_doomed, request_again, request_new, request_closes, looks_well, looks_ill, drops, prepare_closes, prepare_again, vote_counts, decision_comes, done_counts}
use Rattle.history_laws.proofs.Entries.WhatOperationsDo.{OpIs, dies, rolls, performs, reply_is}
use Rattle.fate_laws.proofs.CausesStand.VotersAreParts.{votes_more}
use Rattle.fate_laws.proofs.CausesStand.NoneRefusedAtRest.{Unopposed}
use Rattle.fate_laws.proofs.CausesStand.GoneEndedOrDoomed.{RowFits, Within, Dooms, Alike, row_alike, doom_alike, within_alike, relinked, as_it_is, within_rolled, within_voter}
use Rattle.history_laws.proofs.Entries.AllFromEach.{put_row}

-- ---- what an entry owes

-- no request of it is undecided here
abbrev pub IsSettled : Shard → TxId → Type 0
IsSettled s tx = (q : Request) → tx_get tx s.requests ≡ Some q → q.state ≡ Undecided → ⊥

abbrev pub OwesVote : (TxId → ℕ → NoWhy → Type 0) → TxId → ℕ → Vote → Type 0
OwesVote T tx from (No why) = T tx from why
OwesVote T tx from Yes = ⊤
OwesVote T tx from Read = ⊤

abbrev pub OwesMessage : (TxId → Type 0) → (TxId → ℕ → NoWhy → Type 0) → Shard → Message → Type 0
OwesMessage E T s (Prepare to tx home seen) = ⊤
OwesMessage E T s (VoteMessage to tx from vote) = OwesVote T tx from vote
OwesMessage E T s (Decide to tx home true) = ⊤
OwesMessage E T s (Decide to tx home false) = to ≡ s.shard → E tx × IsSettled s tx
OwesMessage E T s (Done to tx from) = ⊤
OwesMessage E T s (Ask to tx from) = ⊤

abbrev pub Owes : (TxId → Type 0) → (TxId → ℕ → NoWhy → Type 0) → Shard → Event → Outcome → Type 0
Owes E T s (OpEvent tx birth nth seen op) (Dead cause) = E tx × IsSettled s tx
Owes E T s (OpEvent tx birth nth seen op) _ = ⊤
Owes E T s (RequestEvent tx ts) Asked = E tx
Owes E T s (RequestEvent tx ts) _ = ⊤
Owes E T s (Drop tx) o = E tx × IsSettled s tx
Owes E T s (Deliver m stamp) Taken = OwesMessage E T s m
Owes E T s (Deliver m stamp) _ = ⊤
Owes E T s _ o = ⊤

-- nothing speaks against any undecided request
abbrev pub IsCalm : Shard → Type 0
IsCalm s = (t : TxId) (q : Request) → tx_get t s.requests ≡ Some q → q.state ≡ Undecided → Unopposed s t q

-- ---- parts that close, or are new

abbrev NotGone : Option Stage → Type 0
NotGone o = (d : Option TxId) → o ≡ Some (Gone d) → ⊥

none_stays : NotGone None
none_stays d e = none_some (Gone d) e

active_stays : NotGone (Some Active)
active_stays d e = absurd (differ e)
  where
    differ : Some Active ≡ Some (Gone d) → ⊥
    differ z = absurd cc

closed_stays : NotGone (Some Closed)
closed_stays d e = absurd (differ e)
  where
    differ : Some Closed ≡ Some (Gone d) → ⊥
    differ z = absurd cc

abbrev SameOrThere : Option Stage → Option Stage → Type 0
SameOrThere a b = (b ≡ a) ⊎ (NotGone a × NotGone b)

dooms_by : (s u : Shard) → u.shard ≡ s.shard → ((t : TxId) → SameOrThere (stage_of s.local t) (stage_of u.local t)) → Dooms s u
dooms_by s u z k = record {
  shard = z;
  to = λ t d e. to t (Some d) e (k t);
  back = λ t d e. back t (Some d) e (k t);
  none = λ t e. back t None e (k t);
}
  where
    to : (t : TxId) (d : Option TxId) → stage_of u.local t ≡ Some (Gone d) → SameOrThere (stage_of s.local t) (stage_of u.local t) → stage_of s.local t ≡ Some (Gone d)
    to t d e (inl q) = sym q ∙ e
    to t d e (inr q) = absurd (q.1 d e)

    back : (t : TxId) (d : Option TxId) → stage_of s.local t ≡ Some (Gone d) → SameOrThere (stage_of s.local t) (stage_of u.local t) → stage_of u.local t ≡ Some (Gone d)
    back t d e (inl q) = q ∙ e
    back t d e (inr q) = absurd (q.0 d e)

not_gone : (o : Option Stage) (p : Option Stage) → o ≡ p → NotGone p → NotGone o
not_gone o p e n = subst NotGone (sym e) n

closed_case : (parts : Table Held) (tx t : TxId) (b : Bool) → tx_same tx t ≡ b → stage_in parts tx ≡ Some Active → SameOrThere (stage_in parts t) (stage_in (closed_in tx parts) t)
closed_case parts tx t true e a =
    subst (λ z. SameOrThere (stage_in parts z) (stage_in (closed_in tx parts) z)) (tx_true tx t e)
    (inr (not_gone (stage_in parts tx) (Some Active) a active_stays, not_gone (stage_in (closed_in tx parts) tx) (Some Closed) (stage_closed parts tx a) closed_stays))
closed_case parts tx t false e a = inl (stage_other parts tx t e)

closed_alike : (s : Shard) (tx : TxId) (home : ℕ) (one : Bool) → stage_of s.local tx ≡ Some Active → Alike s (with_local (close_part tx home one) s)
closed_alike s tx home one a = (dooms_by s (with_local (close_part tx home one) s) refl (λ t. closed_case s.local.parts tx t (tx_same tx t) refl a), (λ x y e. e))

new_stage : (tx t : TxId) (birth : Birth) (parts : Table Held) (o : Option Held) → tx_get tx parts ≡ o → SameOrThere (stage_in parts t) (stage_in (new_part tx birth o parts) t)
new_stage tx t birth parts (Some h) g = inl refl
new_stage tx t birth parts None g = at (tx_same t tx) refl
  where
    got : tx_get t (tx_put tx (active_part birth) parts) ≡ cond (tx_same t tx) (Some (active_part birth)) (tx_get t parts)
    got = get_put tx t (active_part birth) parts

    at : (b : Bool) → tx_same t tx ≡ b → SameOrThere (stage_in parts t) (stage_in (tx_put tx (active_part birth) parts) t)
    at true e =
        inr (not_gone (stage_in parts t) None (ap stage_by (ap (λ z. tx_get z parts) (tx_true t tx e) ∙ g)) none_stays, not_gone _ (Some Active) (ap stage_by (got ∙ cond-true (tx_same t tx) (Some (active_part birth)) (tx_get t parts) e)) active_stays)
    at false e = inl (ap stage_by (got ∙ cond-false (tx_same t tx) (Some (active_part birth)) (tx_get t parts) e))

-- ---- one request is another, or new

pub set_row : {V : Type 0} (t tx : TxId) (w v : V) (rs : Table V) → tx_get t (tx_set tx w rs) ≡ Some v → ((t ≡ tx) × (v ≡ w)) ⊎ (tx_get t rs ≡ Some v)
set_row t tx w v rs e = at (get_set tx t w v rs e)
  where
    at : Set_or_old tx t w v (tx_get t rs) → ((t ≡ tx) × (v ≡ w)) ⊎ (tx_get t rs ≡ Some v)
    at (inl c) = inl c
    at (inr c) = inr c.1

abbrev SamePairs : Shard → Shard → Type 0
SamePairs s0 s = (a b : TxId) → is_pair s.local.pairs a b ≡ true → is_pair s0.local.pairs a b ≡ true

with_requests : (E : TxId → Type 0) (T : TxId → ℕ → NoWhy → Type 0) (W : TxId → TxId → Type 0) (s0 s : Shard) (rs : Table Request) (tx : TxId) (w : Request) → RowFits E T W s tx w
    → ((t : TxId) (q : Request) → tx_get t rs ≡ Some q → ((t ≡ tx) × (q ≡ w)) ⊎ (tx_get t s.requests ≡ Some q)) → SamePairs s0 s → Within E T W s0 s → Within E T W s0 (record s { requests = rs })
with_requests E T W s0 s rs tx w f g p k =
    let a = as_it_is s (record s { requests = rs }) refl refl refl in
    record {
      linked = inl p;
      gone = k.gone;
      rows = λ t q e. row_alike E T W s (record s { requests = rs }) t q a.0 (at t q (g t q e));
      read = k.read;
    }
  where
    at : (t : TxId) (q : Request) → ((t ≡ tx) × (q ≡ w)) ⊎ (tx_get t s.requests ≡ Some q) → RowFits E T W s t q
    at t q (inl c) = subst (λ x. RowFits E T W s x q) (sym c.0) (subst (RowFits E T W s tx) (sym c.1) f)
    at t q (inr c) = k.rows t q c

-- ---- steps

dies_within : (E : TxId → Type 0) (T : TxId → ℕ → NoWhy → Type 0) (W : TxId → TxId → Type 0) (s : Shard) (tx : TxId) (birth : Birth) (seen : Option ℕ) (op : Op) (c : AbortCause) (l : Local) → OpIs s.local tx birth seen op (OpDies c l) → E tx → IsSettled s tx
    → Within E T W s s → Within E T W s (with_work l s)
dies_within E T W s tx birth seen op c _ dies e n k = within_alike E T W s s (with_work s.local s) (as_it_is s (with_work s.local s) refl refl refl) refl refl k
dies_within E T W s tx birth seen op c _ rolls e n k = within_rolled E T W s s tx e (λ a b x. x) n k

answers_within : (E : TxId → Type 0) (T : TxId → ℕ → NoWhy → Type 0) (W : TxId → TxId → Type 0) (s : Shard) (tx : TxId) (birth : Birth) (seen : Option ℕ) (op : Op) (a : Answer) (l : Local) → OpIs s.local tx birth seen op (OpAnswers a l) → IsCalm s → Within E T W s s
    → Within E T W s (with_work l s)
answers_within E T W s tx birth seen op _ _ (performs f e) c k =
    let w = writes_of op (value_at (key_of op) s.local.records) in
    let u = with_work (performed tx birth op s.local) s in
    let d = dooms_by s u refl (λ t. subst (λ z. SameOrThere (stage_in s.local.parts t) (stage_in z t)) (sym (written_parts tx w (locked tx birth op s.local))) (new_stage tx t birth s.local.parts (tx_get tx s.local.parts) refl)) in
    relinked E T W s s u d refl refl (inr (λ t q g z. let o = c t q g z in (o.0, doom_alike s u t d o.1))) k

coordinates : (E : TxId → Type 0) (T : TxId → ℕ → NoWhy → Type 0) (W : TxId → TxId → Type 0) (s0 s : Shard) (tx : TxId) (ts : List (ℕ × ℕ)) → E tx → NotGone (stage_of s.local tx) → SamePairs s0 s → Within E T W s0 s → Within E T W s0 (coordinate tx ts s)
coordinates E T W s0 s tx ts e g p k =
    let q = new_request ts Undecided in
    let u = record s { requests = tx_put tx q s.requests } in
    within_alike E T W s0 u (coordinate tx ts s) (as_it_is u (coordinate tx ts s) refl refl refl) refl refl
    (with_requests E T W s0 s (tx_put tx q s.requests) tx q (record { votes = tt; state = (e, (λ x. g (Some tx) x)) }) (λ t v f. put_row t tx q v s.requests f) p k)

owes_vote : (E : TxId → Type 0) (T : TxId → ℕ → NoWhy → Type 0) (W : TxId → TxId → Type 0) (s0 s : Shard) (tx : TxId) (home seen : ℕ) → Within E T W s0 s → Within E T W s0 (owe_vote tx home seen s)
owes_vote E T W s0 s tx home seen k =
    let w = asked_voter home seen (tx_get tx s.voters) in
    within_voter E T W s0 s (owe_vote tx home seen s) tx w refl refl refl (λ t v e. put_row t tx w v s.voters e) (reads (tx_get tx s.voters) refl) k
  where
    reads : (o : Option Voter) → tx_get tx s.voters ≡ o → (asked_voter home seen o).vote ≡ Some Read → stage_of s.local tx ≡ Some (Gone None)
    reads None g e = absurd (none_some Read e)
    reads (Some v) g e = k.read tx v g e

counted : (shard from : ℕ) (q : Request) (st : RequestState) → counts_vote shard from q st ≡ true → (nat_in from (others shard q.touched) ≡ true) × (vote_from from q.votes ≡ None)
counted shard from q Undecided e = let p = and_parts (nat_in from (others shard q.touched)) (not (is_some (vote_from from q.votes))) e in (p.0, none (vote_from from q.votes) refl p.1)
  where
    none : (o : Option Vote) → vote_from from q.votes ≡ o → not (is_some o) ≡ true → o ≡ None
    none None f g = refl
    none (Some v) f g = absurd (both_ways false refl g)
counted shard from q (Committed parts) e = absurd (both_ways false refl e)
counted shard from q Finished e = absurd (both_ways false refl e)
counted shard from q (Refused c) e = absurd (both_ways false refl e)

told_no : (T : TxId → ℕ → NoWhy → Type 0) (tx : TxId) (from : ℕ) (vote : Vote) → OwesVote T tx from vote → (why : NoWhy) → vote ≡ No why → T tx from why
told_no T tx from (No y) o why e = subst (T tx from) (same_why e) o
  where
    same_why : No y ≡ No why → y ≡ why
    same_why z = cc
told_no T tx from Yes o why e = absurd cc
told_no T tx from Read o why e = absurd cc

drops_within : (E : TxId → Type 0) (T : TxId → ℕ → NoWhy → Type 0) (W : TxId → TxId → Type 0) (s : Shard) (tx : TxId) (b : Bool) → E tx → IsSettled s tx → Within E T W s s → Within E T W s (with_local (λ l. mark_dropped tx (rolled_back_if b tx l)) s)
drops_within E T W s tx b e n k = marked (with_local (rolled_back_if b tx) s) (rolled b)
  where
    rolled : (b : Bool) → Within E T W s (with_local (rolled_back_if b tx) s)
    rolled true = within_rolled E T W s s tx e (λ x y z. z) n k
    rolled false = within_alike E T W s s (with_local (rolled_back_if false tx) s) (as_it_is s (with_local (rolled_back_if false tx) s) refl refl refl) refl refl k

    marked : (u : Shard) → Within E T W s u → Within E T W s (with_local (mark_dropped tx) u)
    marked u w = within_alike E T W s u (with_local (mark_dropped tx) u) (dooms_by u (with_local (mark_dropped tx) u) refl (λ t. inl (stage_marked tx t u.local.parts)), (λ x y z. z)) refl refl w

decides_within : (E : TxId → Type 0) (T : TxId → ℕ → NoWhy → Type 0) (W : TxId → TxId → Type 0) (s : Shard) (tx : TxId) (home : ℕ) (commit : Bool) → OwesMessage E T s (Decide s.shard tx home commit) → Within E T W s s → Within E T W s (decided s tx commit)
decides_within E T W s tx home true o k = within_alike E T W s s (decided s tx true) (as_it_is s (decided s tx true) refl refl refl) refl refl k
decides_within E T W s tx home false o k = let p = o refl in within_rolled E T W s s tx p.0 (λ x y z. z) p.1 k

pub within_step : (E : TxId → Type 0) (T : TxId → ℕ → NoWhy → Type 0) (W : TxId → TxId → Type 0) (s t : Shard) {e : Event} {o : Outcome} → Step s e o t → Owes E T s e o → IsCalm s → Within E T W s s → Within E T W s t
within_step E T W s _ (op_dies tx birth nth seen op cause l g) w c k = dies_within E T W s tx birth seen op cause l (reply_is s.shard s.local tx birth seen op (OpDies cause l) g) w.0 w.1 k
within_step E T W s _ (op_answers tx birth nth seen op answer l g) w c k = answers_within E T W s tx birth seen op answer l (reply_is s.shard s.local tx birth seen op (OpAnswers answer l) g) c k
within_step E T W s _ (request_refused tx ts cause f) w c k = k
within_step E T W s _ (request_doomed tx ts doom g) w c k = k
within_step E T W s _ (request_again tx ts f g) w c k = k
within_step E T W s _ (request_new tx ts f g) w c k = coordinates E T W s s tx ts w (not_gone (stage_of s.local tx) None g none_stays) (λ a b x. x) k
within_step E T W s _ (request_closes tx ts f g) w c k =
    let u = with_local (close_part tx s.shard (is_alone (others s.shard ts))) s in
    coordinates E T W s u tx ts w (not_gone (stage_of u.local tx) (Some Closed) (stage_closed s.local.parts tx g) closed_stays) (λ a b x. x)
    (within_alike E T W s s u (closed_alike s tx s.shard (is_alone (others s.shard ts)) g) refl refl k)
within_step E T W s _ (looks_well tx f) w c k = k
within_step E T W s _ (looks_ill tx cause d f) w c k = k
within_step E T W s _ (drops tx stage g) w c k = drops_within E T W s tx (is_present (stage_of s.local tx)) w.0 w.1 k
within_step E T W s _ (prepare_closes tx home seen stamp g) w c k =
    let u = with_local (close_part tx home false) s in owes_vote E T W s u tx home seen (within_alike E T W s s u (closed_alike s tx home false g) refl refl k)
within_step E T W s _ (prepare_again tx home seen stamp g) w c k = owes_vote E T W s s tx home seen k
within_step E T W s _ (vote_counts tx from vote stamp q g f) w c k =
    let row = k.rows tx q g in
    let n = counted s.shard from q q.state f in
    let v = with_vote_of from vote q in
    with_requests E T W s s (tx_set tx v s.requests) tx v
    (record { votes = votes_more (others s.shard q.touched) (T tx) q.votes from vote n.1 n.0 (told_no T tx from vote w) row.votes; state = row.state }) (λ t x y. set_row t tx v x s.requests y) (λ a b x. x) k
within_step E T W s _ (decision_comes tx home commit stamp g) w c k = decides_within E T W s tx home commit w k
within_step E T W s _ (done_counts tx from stamp q g f) w c k =
    let row = k.rows tx q g in
    let v = with_done_of from q in
    with_requests E T W s s (tx_set tx v s.requests) tx v (record { votes = row.votes; state = row.state }) (λ t x y. set_row t tx v x s.requests y) (λ a b x. x) k
within_step E T W s t _ w c k = within_alike E T W s s t (as_it_is s t refl refl refl) refl refl k
