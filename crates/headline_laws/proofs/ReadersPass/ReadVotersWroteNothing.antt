-- Within one entry: who votes read by it had a part here before, of which no write stands, also in what is durable, and is finished by its vote.
use Rattle.std.proofs.Common.{◌≡◌, ◌⊎◌, inl, inr, ⊎_elim, refl, sym, ap, subst, ◌∙◌, ℕ, true, false, not, Bool, ◌&&◌, ◌==◌, List, [], ◌∷◌, ◌++◌, map, Option, Some, None, is_some}
use Rattle.std.specs.Prelude.{⊤}
use Rattle.std.specs.List.{AllByRecursion, filter}
use Rattle.std.proofs.lemmas.Bool.{both_ways, or_left, false_from_ne_true}
use Rattle.clv_base.specs.declared.names.TxId.{TxId}
use Rattle.clv_base.specs.declared.causes.Vote.{Vote}
use Rattle.clv_base.specs.declared.causes.Vote.TheVariants.{Yes, Read, No}
use Rattle.clv_base.specs.declared.logs.LogRecord.{LogRecord}
use Rattle.clv_base.specs.declared.messages.Message.{Message}
use Rattle.clv_base.specs.declared.messages.Message.TheVariants.{Prepare, Vote as VoteMessage, Decide, Done, Ask}
use Rattle.clv_base.specs.declared.events.Event.{Event}
use Rattle.clv_base.specs.declared.events.Event.TheVariants.{Deliver, FlushIn, Restart}
use Rattle.clv_base.specs.declared.events.Outcome.{Outcome}
use Rattle.clv_base.specs.declared.events.Outcome.TheVariants.{Nothing, Down}
use Rattle.clv_base.specs.declared.events.Entry.{Entry}
use Rattle.clv_base.specs.declared.state.Stage.{Stage}
use Rattle.clv_base.specs.declared.state.Stage.TheVariants.{Active, Closed, Gone}
use Rattle.clv_base.specs.declared.state.Voter.{Voter}
use Rattle.clv_base.specs.declared.state.Request.{Request}
use Rattle.clv_base.specs.declared.state.RequestState.{RequestState}
use Rattle.clv_base.specs.declared.state.RequestState.TheVariants.{Undecided, Committed, Finished, Refused}
use Rattle.clv_base.specs.declared.state.Ruling.TheVariants.{Commit as CommitVerdict, Acknowledge, Abort as AbortVerdict, End as EndVerdict}
use Rattle.clv_base.specs.Orders.{Table, tx_same, tx_in, nat_in, tx_get, tx_set}
use Rattle.clv_base.specs.Logs.{has_standing, prepared_in, in_doubt}
use Rattle.clv_base.specs.State.{Shard, is_present}
use Rattle.clv_base.specs.Undo.{stage_of, doomed_here}
use Rattle.clv_base.specs.Facts.{facts_of}
use Rattle.clv_base.specs.Participant.{asked_voter, voted, restored_voter, ask_by, asks}
use Rattle.clv_base.specs.Coordinator.{vote_from, prepare_for, prepares, missing_votes, missing_dones, each_request, ask_answer}
use Rattle.clv_base.specs.Due.{commit_messages, finish_reader, with_vote, with_due_done}
use Rattle.clv_base.specs.Events.{Reply, QuietBeforeWorn, Does, happen, finish, with_durable, ask_messages, reminders, durable_requests, waiting_voters}
use Rattle.clv_base.specs.Restarts.{homes_of, state_after}
use Rattle.clv_base.specs.Journals.{up_to_restart}
use Rattle.clv_base.proofs.SameNames.{tx_self}
use Rattle.law_base.proofs.Changed.{none_some}
use Rattle.law_base.proofs.Rows.{rows_get}
use Rattle.law_base.proofs.Tables.{stage_in}
use Rattle.shard_laws.specs.OneShard.{is_doomed}
use Rattle.law_base.proofs.Stages.{gone_by, stage_own}
use Rattle.law_base.proofs.Lists.{all_append}
use Rattle.history_cases.proofs.Telling.{all_map}
use Rattle.history_cases.proofs.Stepping.{Due, commits, votes, rules, KeptByDue, settled, Step, finishes, stops}
use Rattle.history_cases.proofs.Entering.{Makes, by_event, by_flush, by_failure, by_restart}
use Rattle.fate_laws.proofs.Logs.LogOnlyGrows.{inside_self, inside_due}
use Rattle.protocol_laws.proofs.LogsInOrder.OneRecordMore.{prepared_there}
use Rattle.shard_laws.proofs.Order.ChangesKeepOrder.{prepare_some}
use Rattle.fate_laws.proofs.Parts.YesVotesArePrepared.{VoteIs, kept, yes, read, no, vote_is}
use Rattle.fate_laws.proofs.Parts.ClosedPartsKeepWrites.{due_stands, step_stands}
use Rattle.fate_laws.proofs.Parts.OthersCloseOrGo.{due_closed, due_prepares}
use Rattle.fate_laws.proofs.Logs.WhatPreparesOrCommits.{Closes, by_request, by_prepare, step_closed, step_prepares}
use Rattle.fate_laws.proofs.Parts.EventsKeepParts.{Tables, same, coordinates, owes, counts, done, sent, again, answers, reminds, step_tables, reader_tables}
use Rattle.fate_laws.proofs.Homes.ShardKnowsHomes.{still_not}
use Rattle.fate_laws.proofs.CausesStand.EventsEndTheirOwn.{set_row}
use Rattle.headline_laws.proofs.ReadersPass.AbortedWereHere.{Fewer, fewer_same, fewer_finished, present_back, rolled_doomed}
use Rattle.headline_laws.proofs.ReadersPass.FrontsWithoutWrites.{NoneStandsFrom, none_on, none_undone}
use Rattle.headline_laws.proofs.ReadersPass.OnlyOwnOperationsUpdate.{due_on}
use Rattle.history_laws.proofs.Entries.AllFromEach.{put_row}

-- ---- votes of read that a shard holds or is about to send. R: who was asked for its vote; P: what holds of each that voted read

abbrev pub OutIs : (TxId → Type 0) → Message → Type 0
OutIs P (Prepare to tx home seen) = ⊤
OutIs P (VoteMessage to tx from Yes) = ⊤
OutIs P (VoteMessage to tx from Read) = P tx
OutIs P (VoteMessage to tx from (No why)) = ⊤
OutIs P (Decide to tx home commit) = ⊤
OutIs P (Done to tx from) = ⊤
OutIs P (Ask to tx from) = ⊤

pub record Voters (R P : TxId → Type 0) (s : Shard) : Type 0 where
  pub owing : (t : TxId) (v : Voter) → tx_get t s.voters ≡ Some v → (v.owed == 0) ≡ false → R t
  pub rows : (t : TxId) (v : Voter) → tx_get t s.voters ≡ Some v → v.vote ≡ Some Read → P t
  pub out : AllByRecursion (OutIs P) s.outbox

out_mono : (P Q : TxId → Type 0) → ((t : TxId) → P t → Q t) → (ms : List Message) → AllByRecursion (OutIs P) ms → AllByRecursion (OutIs Q) ms
out_mono P Q k [] a = tt
out_mono P Q k (m ∷ ms) a = (one m a.0, out_mono P Q k ms a.1)
  where
    one : (m : Message) → OutIs P m → OutIs Q m
    one (Prepare to tx home seen) p = tt
    one (VoteMessage to tx from Yes) p = tt
    one (VoteMessage to tx from Read) p = k tx p
    one (VoteMessage to tx from (No why)) p = tt
    one (Decide to tx home commit) p = tt
    one (Done to tx from) p = tt
    one (Ask to tx from) p = tt

pub voters_on : (R R' P Q : TxId → Type 0) (s u : Shard) → u.voters ≡ s.voters → AllByRecursion (OutIs Q) u.outbox → ((t : TxId) → R t → R' t) → ((t : TxId) → P t → Q t) → Voters R P s → Voters R' Q u
voters_on R R' P Q s u e o r k p = record {
  owing = λ t v g w. r t (p.owing t v (subst (λ z. tx_get t z ≡ Some v) e g) w);
  rows = λ t v g w. k t (p.rows t v (subst (λ z. tx_get t z ≡ Some v) e g) w);
  out = o;
}

pub voters_mono : (R R' P Q : TxId → Type 0) (s : Shard) → ((t : TxId) → R t → R' t) → ((t : TxId) → P t → Q t) → Voters R P s → Voters R' Q s
voters_mono R R' P Q s r k p = voters_on R R' P Q s s refl (out_mono P Q k s.outbox p.out) r k p

-- ---- messages that are no votes

prepares_out : (Q : TxId → Type 0) (shard : ℕ) (tx : TxId) (xs : List (ℕ × ℕ)) → AllByRecursion (OutIs Q) (map (prepare_for shard tx) xs)
prepares_out Q shard tx xs = all_map (OutIs Q) (prepare_for shard tx) xs (λ x. tt)

missing_out : (Q : TxId → Type 0) (shard : ℕ) (tx : TxId) (q : Request) (st : RequestState) → AllByRecursion (OutIs Q) (missing_votes shard tx q st)
missing_out Q shard tx q Undecided = prepares_out Q shard tx (filter (λ t. not (t.0 == shard) && not (is_some (vote_from t.0 q.votes))) q.touched)
missing_out Q shard tx q (Committed parts) = tt
missing_out Q shard tx q Finished = tt
missing_out Q shard tx q (Refused c) = tt

decides_out : (Q : TxId → Type 0) (shard : ℕ) (tx : TxId) (commit : Bool) (ps : List ℕ) → AllByRecursion (OutIs Q) (map (λ p. Decide p tx shard commit) ps)
decides_out Q shard tx commit ps = all_map (OutIs Q) (λ p. Decide p tx shard commit) ps (λ p. tt)

dones_out : (Q : TxId → Type 0) (shard : ℕ) (tx : TxId) (q : Request) (st : RequestState) → AllByRecursion (OutIs Q) (missing_dones shard tx q st)
dones_out Q shard tx q Undecided = tt
dones_out Q shard tx q (Committed parts) = decides_out Q shard tx true (filter (λ p. not (nat_in p q.acknowledged_by)) parts)
dones_out Q shard tx q Finished = tt
dones_out Q shard tx q (Refused c) = tt

each_out : (Q : TxId → Type 0) (f : TxId → Request → List Message) → ((t : TxId) (q : Request) → AllByRecursion (OutIs Q) (f t q)) → (rs : Table Request) → AllByRecursion (OutIs Q) (each_request f rs)
each_out Q f k [] = tt
each_out Q f k (r ∷ rs) = all_append (OutIs Q) (f r.0 r.1) (each_request f rs) (k r.0 r.1) (each_out Q f k rs)

dones_if : (Q : TxId → Type 0) (shard : ℕ) (tx : TxId) (q : Request) (b : Bool) → AllByRecursion (OutIs Q) (elim b [ true ↦ missing_dones shard tx q q.state | false ↦ [] ])
dones_if Q shard tx q true = dones_out Q shard tx q q.state
dones_if Q shard tx q false = tt

asks_out : (Q : TxId → Type 0) (shard : ℕ) (voters : Table Voter) (ts : List TxId) → AllByRecursion (OutIs Q) (asks shard voters ts)
asks_out Q shard voters [] = tt
asks_out Q shard voters (t ∷ ts) = all_append (OutIs Q) (ask_by shard t (tx_get t voters)) (asks shard voters ts) (one (tx_get t voters)) (asks_out Q shard voters ts)
  where
    one : (o : Option Voter) → AllByRecursion (OutIs Q) (ask_by shard t o)
    one None = tt
    one (Some v) = (tt, tt)

reminders_out : (Q : TxId → Type 0) (s : Shard) → AllByRecursion (OutIs Q) (reminders s)
reminders_out Q s =
    all_append (OutIs Q) _ (asks s.shard s.voters (waiting_voters s))
    (all_append (OutIs Q) _ _ (each_out Q (λ t q. missing_votes s.shard t q q.state) (λ t q. missing_out Q s.shard t q q.state) s.requests)
    (each_out Q (λ t q. elim (tx_in t (durable_requests s)) [ true ↦ missing_dones s.shard t q q.state | false ↦ [] ]) (λ t q. dones_if Q s.shard t q (tx_in t (durable_requests s))) s.requests))
    (asks_out Q s.shard s.voters (waiting_voters s))

answer_out : (Q : TxId → Type 0) (s : Shard) (tx : TxId) (from : ℕ) (o : Option Bool) → AllByRecursion (OutIs Q) (ask_messages s tx from o)
answer_out Q s tx from None = tt
answer_out Q s tx from (Some commit) = (tt, tt)

commit_out : (Q : TxId → Type 0) (s : Shard) (tx : TxId) (o : Option Request) (v : Option Voter) → AllByRecursion (OutIs Q) (commit_messages s tx o v)
commit_out Q s tx (Some q) v = at q.state
  where
    at : (st : RequestState) → AllByRecursion (OutIs Q) (elim st [ Committed parts ↦ map (λ p. Decide p tx s.shard true) parts | Undecided ↦ [] | Finished ↦ [] | Refused cause ↦ [] ])
    at Undecided = tt
    at (Committed parts) = decides_out Q s.shard tx true parts
    at Finished = tt
    at (Refused cause) = tt
commit_out Q s tx None (Some v) = (tt, tt)
commit_out Q s tx None None = tt

-- ---- a vote of read that is cast within the entry

pub record Casts (R : TxId → Type 0) (s0 s : Shard) (t : TxId) : Type 0 where
  pub asked : R t
  pub here : is_present (stage_of s0.local t) ≡ true
  pub fresh : has_standing s0.local.log t ≡ false
  pub unprepared : prepared_in s.local.log t ≡ false
  pub unwritten : NoneStandsFrom s.durable s.local.log t
  pub absent : is_present (stage_of s.local t) ≡ false
  pub undoomed : is_doomed (stage_of s.local t) ≡ false

-- it had voted so before, or casts it
abbrev pub ReadBy : (R P : TxId → Type 0) → Shard → Shard → TxId → Type 0
ReadBy R P s0 s t = P t ⊎ Casts R s0 s t

-- of who is prepared and closed a write stands
abbrev pub PreparedStand : Shard → Type 0
PreparedStand s = (t : TxId) → prepared_in s.local.log t ≡ true → stage_of s.local t ≡ Some Closed → has_standing s.local.log t ≡ true

pub record Casting (R P : TxId → Type 0) (s0 s : Shard) : Type 0 where
  pub closed : (t : TxId) → stage_of s.local t ≡ Some Closed → has_standing s.local.log t ≡ false → (is_present (stage_of s0.local t) ≡ true) × (has_standing s0.local.log t ≡ false)
  pub stands : PreparedStand s
  pub voters : Voters R (ReadBy R P s0 s) s

-- ---- what is due

-- who is not here and not gone by an abort stays so
quiet_fewer : (s u : Shard) (t : TxId) → Fewer s u → is_present (stage_of s.local t) ≡ false → is_doomed (stage_of s.local t) ≡ false → (is_present (stage_of u.local t) ≡ false) × (is_doomed (stage_of u.local t) ≡ false)
quiet_fewer s u t f a b = (still_not _ _ (f.present t) a, still_not _ _ (f.doomed t) b)

quiet_due : (s u : Shard) (t : TxId) → Due s (Some u) → is_present (stage_of s.local t) ≡ false → is_doomed (stage_of s.local t) ≡ false → (is_present (stage_of u.local t) ≡ false) × (is_doomed (stage_of u.local t) ≡ false)
quiet_due s u t (commits tx x y) a b = quiet_fewer s u t (fewer_finished s u tx refl) a b
quiet_due s u t (votes tx v Yes x y) a b = quiet_fewer s u t (fewer_same s u refl) a b
quiet_due s u t (votes tx v Read x y) a b = quiet_fewer s u t (fewer_finished s u tx refl) a b
quiet_due s u t (votes tx v (No why) x y) a b = quiet_fewer s u t (fewer_same s u refl) a b
quiet_due s u t (rules tx q (CommitVerdict parts) x y) a b = quiet_fewer s u t (fewer_same s u refl) a b
quiet_due s u t (rules tx q Acknowledge x y) a b = quiet_fewer s u t (fewer_finished s u tx refl) a b
quiet_due s u t (rules tx q (AbortVerdict cause to) x y) a b =
    (still_not _ _ (present_back (doomed_here s.local tx) (Some tx) s.local.parts t) a, false_from_ne_true _ (λ h. ⊎_elim (λ k. both_ways _ b k) (λ k. both_ways _ a k) (rolled_doomed s.local tx t h)))
quiet_due s u t (rules tx q EndVerdict x y) a b = quiet_fewer s u t (fewer_same s u refl) a b

casts_due : (R : TxId → Type 0) (s0 s u : Shard) (t : TxId) → Due s (Some u) → Casts R s0 s t → Casts R s0 u t
casts_due R s0 s u t d c =
    let q = quiet_due s u t d c.absent c.undoomed in
    let i = inside_due s s u d (inside_self s) in
    record {
      asked = c.asked;
      here = c.here;
      fresh = c.fresh;
      unprepared = false_from_ne_true _ (λ h. let p = prepare_some u.local.log t h in both_ways _ c.unprepared (prepared_there s.local.log t p.0 (due_prepares s u d t p.0 p.1)));
      unwritten = subst (λ n. NoneStandsFrom n u.local.log t) (sym i.durable) (none_on s.durable t s.local.log u.local.log (due_on s u t d) c.unwritten);
      absent = q.0;
      undoomed = q.1;
    }

carry : (R P : TxId → Type 0) (s0 s u : Shard) → Due s (Some u) → (t : TxId) → ReadBy R P s0 s t → ReadBy R P s0 u t
carry R P s0 s u d t (inl p) = inl p
carry R P s0 s u d t (inr c) = inr (casts_due R s0 s u t d c)

casting_by : (R P : TxId → Type 0) (s0 s u : Shard) → Due s (Some u) → Voters R (ReadBy R P s0 u) u → Casting R P s0 s → Casting R P s0 u
casting_by R P s0 s u d w k = record {
  closed = λ t c n. k.closed t (due_closed s u t d c) (false_from_ne_true _ (λ w. both_ways _ n (due_stands s u t d c w)));
  stands = λ t h c. let p = prepare_some u.local.log t h in due_stands s u t d c (k.stands t (prepared_there s.local.log t p.0 (due_prepares s u d t p.0 p.1)) (due_closed s u t d c));
  voters = w;
}

-- nothing changes in the table, and no vote is sent
casting_more : (R P : TxId → Type 0) (s0 s u : Shard) (ms : List Message) → Due s (Some u) → u.voters ≡ s.voters → u.outbox ≡ s.outbox ++ ms → AllByRecursion (OutIs (ReadBy R P s0 u)) ms → Casting R P s0 s → Casting R P s0 u
casting_more R P s0 s u ms d e f a k =
    let c = carry R P s0 s u d in
    casting_by R P s0 s u d
    (voters_on R R (ReadBy R P s0 s) (ReadBy R P s0 u) s u e
    (subst (AllByRecursion (OutIs (ReadBy R P s0 u))) (sym f) (all_append (OutIs (ReadBy R P s0 u)) s.outbox ms (out_mono (ReadBy R P s0 s) (ReadBy R P s0 u) c s.outbox (k.voters).out) a)) (λ t r. r) c k.voters) k

casting_same : (R P : TxId → Type 0) (s0 s u : Shard) → Due s (Some u) → u.voters ≡ s.voters → u.outbox ≡ s.outbox → Casting R P s0 s → Casting R P s0 u
casting_same R P s0 s u d e f k =
    let c = carry R P s0 s u d in
    casting_by R P s0 s u d
    (voters_on R R (ReadBy R P s0 s) (ReadBy R P s0 u) s u e (subst (AllByRecursion (OutIs (ReadBy R P s0 u))) (sym f) (out_mono (ReadBy R P s0 s) (ReadBy R P s0 u) c s.outbox (k.voters).out)) (λ t r. r) c k.voters) k

-- a vote is given
voters_voted : (R P Q : TxId → Type 0) (s u : Shard) (tx : TxId) (v : Voter) (vote : Vote) → u.voters ≡ tx_set tx (voted vote v) s.voters → u.outbox ≡ s.outbox ++ VoteMessage v.home tx s.shard vote ∷ [] → tx_get tx s.voters ≡ Some v → (v.owed == 0) ≡ false
    → ((t : TxId) → P t → Q t) → (vote ≡ Read → Q tx) → Voters R P s → Voters R Q u
voters_voted R P Q s u tx v vote e f g w k r p = record {
  owing = λ t x a b. ⊎_elim (λ c. subst R (sym c.0) (p.owing tx v g w)) (λ c. p.owing t x c b) (set_row t tx (voted vote v) x s.voters (subst (λ z. tx_get t z ≡ Some x) e a));
  rows = λ t x a b. ⊎_elim (λ c. subst Q (sym c.0) (r (one_vote (ap (λ z. z.vote) (sym c.1) ∙ b)))) (λ c. k t (p.rows t x c b)) (set_row t tx (voted vote v) x s.voters (subst (λ z. tx_get t z ≡ Some x) e a));
  out = subst (AllByRecursion (OutIs Q)) (sym f) (all_append (OutIs Q) s.outbox (VoteMessage v.home tx s.shard vote ∷ []) (out_mono P Q k s.outbox p.out) (said vote r, tt));
}
  where
    one_vote : Some vote ≡ Some Read → vote ≡ Read
    one_vote z = cc

    said : (y : Vote) → (y ≡ Read → Q tx) → OutIs Q (VoteMessage v.home tx s.shard y)
    said Yes k = tt
    said Read k = k refl
    said (No why) k = tt

-- one that is read is cast here, or was before
reads_now : (R P : TxId → Type 0) (s0 s : Shard) (tx : TxId) (v : Voter) (y : Vote) → tx_get tx s.voters ≡ Some v → (v.owed == 0) ≡ false → VoteIs s tx v y → Casting R P s0 s → Due s (Some (finish_reader tx y (with_vote s tx v y))) → y ≡ Read → ReadBy R P s0 (finish_reader tx y (with_vote s tx v y)) tx
reads_now R P s0 s tx v y g w (kept e) k d q = carry R P s0 s (finish_reader tx y (with_vote s tx v y)) d tx ((k.voters).rows tx v g (e ∙ ap (λ z. Some z) q))
reads_now R P s0 s tx v _ g w (yes c x z) k d q = absurd cc
reads_now R P s0 s tx v _ g w (read c f b) k d q =
    let was = k.closed tx c f in
    let gone : stage_in (finish_reader tx Read (with_vote s tx v Read)).local.parts tx ≡ Some (Gone None) = stage_own (tx ∷ []) None tx s.local.parts (or_left (tx_same tx tx) false (tx_self tx)) ∙ ap (gone_by None) c in
    inr
    (record {
      asked = (k.voters).owing tx v g w;
      here = was.0;
      fresh = was.1;
      unprepared = false_from_ne_true _ (λ h. both_ways _ f (k.stands tx h c));
      unwritten = none_undone s.durable s.local.log tx f b;
      absent = ap is_present gone;
      undoomed = ap is_doomed gone;
    })
reads_now R P s0 s tx v y g w (no a b) k d q = absurd (b q)

casting_due : (R P : TxId → Type 0) (s0 : Shard) → KeptByDue (Casting R P s0)
casting_due R P s0 s u (commits tx a b) k = casting_more R P s0 s u (commit_messages s tx (tx_get tx s.requests) (tx_get tx s.voters)) (commits tx a b) refl refl (commit_out (ReadBy R P s0 u) s tx (tx_get tx s.requests) (tx_get tx s.voters)) k
casting_due R P s0 s u (votes tx v vote g e) k =
    let y = vote_is s tx v vote e in
    let d = votes tx v vote g e in
    let t = reader_tables s tx v vote in
    casting_by R P s0 s u d (voters_voted R (ReadBy R P s0 s) (ReadBy R P s0 u) s u tx v vote t.0 t.1 g y.1 (carry R P s0 s u d) (reads_now R P s0 s tx v vote g y.1 y.0 k d) k.voters) k
casting_due R P s0 s u (rules tx q (CommitVerdict parts) g e) k = casting_same R P s0 s u (rules tx q (CommitVerdict parts) g e) refl refl k
casting_due R P s0 s u (rules tx q Acknowledge g e) k = casting_same R P s0 s u (rules tx q Acknowledge g e) refl refl k
casting_due R P s0 s u (rules tx q (AbortVerdict cause to) g e) k = casting_more R P s0 s u (map (λ p. Decide p tx s.shard false) to) (rules tx q (AbortVerdict cause to) g e) refl refl (decides_out (ReadBy R P s0 u) s.shard tx false to) k
casting_due R P s0 s u (rules tx q EndVerdict g e) k = casting_same R P s0 s u (rules tx q EndVerdict g e) refl refl k

casting_finish : (R P : TxId → Type 0) (s0 x : Shard) → Casting R P s0 x → Voters R (ReadBy R P s0 (finish x)) (finish x)
casting_finish R P s0 x k =
    let y = with_due_done x in
    let d = settled (Casting R P s0) x (casting_due R P s0) k in
    let c : (t : TxId) → ReadBy R P s0 y t → ReadBy R P s0 (finish x) t = λ t. again_by t in
    voters_on R R (ReadBy R P s0 y) (ReadBy R P s0 (finish x)) y (finish x) refl (out_mono (ReadBy R P s0 y) (ReadBy R P s0 (finish x)) c y.outbox (d.voters).out) (λ t r. r) c d.voters
  where
    again_by : (t : TxId) → ReadBy R P s0 (with_due_done x) t → ReadBy R P s0 (finish x) t
    again_by t (inl p) = inl p
    again_by t (inr z) = inr (record { asked = z.asked; here = z.here; fresh = z.fresh; unprepared = z.unprepared; unwritten = z.unwritten; absent = z.absent; undoomed = z.undoomed })

-- ---- what an event does first

-- a Prepare asks for a vote
abbrev pub Asks : (TxId → Type 0) → Shard → Event → Type 0
Asks R s (Deliver (Prepare to tx home seen) stamp) = to ≡ s.shard → R tx
Asks R s _ = ⊤

asked_read : (s : Shard) (tx : TxId) (home seen : ℕ) (o : Option Voter) → (asked_voter home seen o).vote ≡ Some Read → (v : Voter) × (o ≡ Some v) × (v.vote ≡ Some Read)
asked_read s tx home seen None e = absurd (none_some Read e)
asked_read s tx home seen (Some v) e = (v, refl, e)

voters_step : (R P Q : TxId → Type 0) (s x : Shard) {e : Event} {o : Outcome} → Tables s x e o → Asks R s e → ((t : TxId) → P t → Q t) → Voters R P s → Voters R Q x
voters_step R P Q s x (same a b c) w k p = voters_on R R P Q s x b (subst (AllByRecursion (OutIs Q)) (sym c) (out_mono P Q k s.outbox p.out)) (λ t r. r) k p
voters_step R P Q s x (coordinates tx ts a b c) w k p =
    voters_on R R P Q s x b (subst (AllByRecursion (OutIs Q)) (sym c) (all_append (OutIs Q) s.outbox (prepares s.shard tx ts) (out_mono P Q k s.outbox p.out) (prepares_out Q s.shard tx (filter (λ t. not (t.0 == s.shard)) ts)))) (λ t r. r) k p
voters_step R P Q s x (owes tx home seen stamp a b c) w k p =
    let v0 = asked_voter home seen (tx_get tx s.voters) in
    record {
      owing = λ t v g h. ⊎_elim (λ z. subst R (sym z.0) (w refl)) (λ z. p.owing t v z h) (put_row t tx v0 v s.voters (subst (λ z. tx_get t z ≡ Some v) b g));
      rows = λ t v g h.
          ⊎_elim (λ z. let y = asked_read s tx home seen (tx_get tx s.voters) (ap (λ n. n.vote) (sym z.1) ∙ h) in subst Q (sym z.0) (k tx (p.rows tx y.0 y.1 y.2))) (λ z. k t (p.rows t v z h))
          (put_row t tx v0 v s.voters (subst (λ z. tx_get t z ≡ Some v) b g));
      out = subst (AllByRecursion (OutIs Q)) (sym c) (out_mono P Q k s.outbox p.out);
    }
voters_step R P Q s x (counts tx from vote stamp q g i a b c) w k p = voters_on R R P Q s x b (subst (AllByRecursion (OutIs Q)) (sym c) (out_mono P Q k s.outbox p.out)) (λ t r. r) k p
voters_step R P Q s x (done tx from q g i a b c) w k p = voters_on R R P Q s x b (subst (AllByRecursion (OutIs Q)) (sym c) (out_mono P Q k s.outbox p.out)) (λ t r. r) k p
voters_step R P Q s x (sent m ms g a b c) w k p =
    voters_on R R P Q s x b (subst (AllByRecursion (OutIs Q)) (sym c) (out_mono P Q k ms (subst (AllByRecursion (OutIs P)) g p.out).1)) (λ t r. r) k p
voters_step R P Q s x (again home tx a b c) w k p =
    voters_on R R P Q s x b (subst (AllByRecursion (OutIs Q)) (sym c) (all_append (OutIs Q) s.outbox (Done home tx s.shard ∷ []) (out_mono P Q k s.outbox p.out) (tt, tt))) (λ t r. r) k p
voters_step R P Q s x (answers tx from a b c) w k p =
    let ms = ask_messages s tx from (ask_answer (tx_get tx s.requests) (facts_of s tx)) in
    voters_on R R P Q s x b (subst (AllByRecursion (OutIs Q)) (sym c) (all_append (OutIs Q) s.outbox ms (out_mono P Q k s.outbox p.out) (answer_out Q s tx from (ask_answer (tx_get tx s.requests) (facts_of s tx))))) (λ t r. r) k p
voters_step R P Q s x (reminds a b c) w k p =
    voters_on R R P Q s x b (subst (AllByRecursion (OutIs Q)) (sym c) (all_append (OutIs Q) s.outbox (reminders s) (out_mono P Q k s.outbox p.out) (reminders_out Q s))) (λ t r. r) k p

there : (o : Option Stage) (st : Stage) → o ≡ Some st → is_present (Some st) ≡ true → is_present o ≡ true
there o st e h = subst (λ z. is_present z ≡ true) (sym e) h

closes_here : (s : Shard) {e : Event} {o : Outcome} (t : TxId) → Closes s t e o → is_present (stage_of s.local t) ≡ true
closes_here s t (by_request ts a) = there (stage_of s.local t) Active a refl
closes_here s t (by_prepare home seen stamp a) = there (stage_of s.local t) Active a refl

-- what an entry begins with: no active part is prepared
pub record Begins (s : Shard) : Type 0 where
  pub stands : PreparedStand s
  pub unprepared : (t : TxId) → stage_of s.local t ≡ Some Active → prepared_in s.local.log t ≡ false

stood : (s : Shard) {e : Event} {o : Outcome} (t : TxId) → Begins s → prepared_in s.local.log t ≡ true → (stage_of s.local t ≡ Some Closed) ⊎ Closes s t e o → has_standing s.local.log t ≡ true
stood s t b p (inl c) = b.stands t p c
stood s t b p (inr (by_request ts a)) = absurd (both_ways _ (b.unprepared t a) p)
stood s t b p (inr (by_prepare home seen stamp a)) = absurd (both_ways _ (b.unprepared t a) p)

casting_step : (R P : TxId → Type 0) (s x : Shard) {e : Event} {o : Outcome} → Step s e o x → Begins s → Asks R s e → Voters R P s → Casting R P s x
casting_step R P s x h b w p = record {
  closed = λ t c n.
      (⊎_elim (λ k. there (stage_of s.local t) Closed k refl) (λ k. closes_here s t k) (step_closed s x t h c), false_from_ne_true _ (λ f. both_ways _ n (step_stands s x t h c f)));
  stands = λ t p c.
      let q = prepare_some x.local.log t p in
      step_stands s x t h c (⊎_elim (λ f. stood s t b (prepared_there s.local.log t q.0 f) (step_closed s x t h c)) (λ f. f.stands) (step_prepares s x t q.0 h q.1));
  voters = voters_step R P (ReadBy R P s x) s x (step_tables s x h) w (λ t k. inl k) p;
}

-- ---- an entry

-- by the entry, which is no restart
abbrev pub ReadAt : (R P : TxId → Type 0) → Shard → Shard → Event → TxId → Type 0
ReadAt R P s x e t = P t ⊎ (Casts R s x t × (e ≡ Restart → ⊥))

no_restart : (s : Shard) (e : Event) (o : Outcome) (t : Shard) → happen s e ≡ Does o t → e ≡ Restart → ⊥
no_restart s e o t h q = at s.is_up (subst (λ z. happen s z ≡ Does o t) q h)
  where
    at : (b : Bool) → ◌≡◌ {A = Reply} (elim b [ true ↦ QuietBeforeWorn Nothing | false ↦ QuietBeforeWorn Down ]) (Does o t) → ⊥
    at true z = absurd cc
    at false z = absurd cc

read_at : (R P : TxId → Type 0) (s x : Shard) (e : Event) → (e ≡ Restart → ⊥) → (t : TxId) → ReadBy R P s x t → ReadAt R P s x e t
read_at R P s x e n t (inl p) = inl p
read_at R P s x e n t (inr c) = inr (c, n)

restored_votes : (hs : Table ℕ) → AllByRecursion (λ (r : TxId × Voter). ((r.1).vote ≡ None) × (((r.1).owed == 0) ≡ true)) (map (λ p. (p.0, restored_voter p.1)) hs)
restored_votes [] = tt
restored_votes (h ∷ hs) = ((refl, refl), restored_votes hs)

pub voters_restored : (R P : TxId → Type 0) (shard run epoch : ℕ) (log : List LogRecord) (last : ℕ) (journal : List Entry) → Voters R P (state_after shard run epoch log last journal)
voters_restored R P shard run epoch log last journal = record {
  owing = λ t v g w. absurd (both_ways _ w (row t v g).1);
  rows = λ t v g e. absurd (none_some Read (sym (row t v g).0 ∙ e));
  out = tt;
}
  where
    row : (t : TxId) (v : Voter) → tx_get t (state_after shard run epoch log last journal).voters ≡ Some v → (v.vote ≡ None) × ((v.owed == 0) ≡ true)
    row t v g = rows_get (λ (r : TxId × Voter). ((r.1).vote ≡ None) × (((r.1).owed == 0) ≡ true)) t v (state_after shard run epoch log last journal).voters (restored_votes (homes_of log (in_doubt shard log))) g

voters_by : (R P : TxId → Type 0) (s x : Shard) (e : Event) → (e ≡ Restart → ⊥) → Voters R (ReadBy R P s x) x → Voters R (ReadAt R P s x e) x
voters_by R P s x e n k = voters_mono R R (ReadBy R P s x) (ReadAt R P s x e) x (λ t r. r) (read_at R P s x e n) k

pub voters_made : (R P : TxId → Type 0) (log : List LogRecord) (s x : Shard) {e : Event} {o : Outcome} → Makes log s e o x → Begins s → Asks R s e → Voters R P s → Voters R (ReadAt R P s x e) x
voters_made R P log s x {e} {o} (by_event g (finishes {t = y} u h)) b w p = voters_by R P s (finish y) e (no_restart s e o (finish y) g) (casting_finish R P s y (casting_step R P s y h b w p))
voters_made R P log s x {e} {o} (by_event g (stops u)) b w p = voters_on R R P (ReadAt R P s x e) s x refl (out_mono P (ReadAt R P s x e) (λ t k. inl k) s.outbox p.out) (λ t r. r) (λ t k. inl k) p
voters_made R P log s x (by_flush n u f) b w p =
    let y = with_durable n s in
    voters_by R P s (finish y) FlushIn (λ z. absurd cc)
    (casting_finish R P s y (record { closed = λ t c n. (there (stage_of s.local t) Closed c refl, n); stands = b.stands; voters = voters_on R R P (ReadBy R P s y) s y refl (out_mono P (ReadBy R P s y) (λ t k. inl k) s.outbox p.out) (λ t r. r) (λ t k. inl k) p }))
voters_made R P log s x (by_failure n u f) b w p = voters_on R R P (ReadAt R P s x FlushIn) s x refl (out_mono P (ReadAt R P s x FlushIn) (λ t k. inl k) s.outbox p.out) (λ t r. r) (λ t k. inl k) p
voters_made R P log s x (by_restart epoch keeps u r) b w p =
    voters_restored R (ReadAt R P s x Restart) s.shard s.run epoch (up_to_restart s.run epoch log) s.last s.journal
