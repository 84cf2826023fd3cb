-- What each entry of a history owes, where each shard so far upholds what it should.
use Rattle.std.proofs.Common.{◌≡◌, ◌⊎◌, inl, inr, ⊎_elim, refl, sym, ap, subst, ◌∙◌, ℕ, ◌<◌, true, false, cond, not, Bool, List, [], ◌∷◌, ◌++◌, length, Option, Some, None, ◌==◌, arith, eqb-true}
use Rattle.std.specs.List.{AllByRecursion}
use Rattle.std.proofs.lemmas.Bool.{both_ways, or_cases, eq-eqb}
use Rattle.clv_base.specs.declared.names.TxId.{TxId}
use Rattle.clv_base.specs.declared.names.Birth.{Birth}
use Rattle.clv_base.specs.declared.ops.Op.{Op}
use Rattle.clv_base.specs.declared.logs.LogRecord.{LogRecord}
use Rattle.clv_base.specs.declared.causes.AbortCause.{AbortCause}
use Rattle.clv_base.specs.declared.causes.Vote.{Vote}
use Rattle.clv_base.specs.declared.causes.Vote.TheVariants.{Yes, Read, No}
use Rattle.clv_base.specs.declared.messages.Message.{Message}
use Rattle.clv_base.specs.declared.messages.Message.TheVariants.{Prepare, Vote as VoteMessage, Decide, Done, Ask}
use Rattle.clv_base.specs.declared.state.Stage.{Stage}
use Rattle.clv_base.specs.declared.state.Stage.TheVariants.{Closed, Gone}
use Rattle.clv_base.specs.declared.state.Held.{Held}
use Rattle.clv_base.specs.declared.state.Taken.TheVariants.{Waiting as IsAwaited}
use Rattle.clv_base.specs.declared.events.Event.{Event}
use Rattle.clv_base.specs.declared.events.Event.TheVariants.{Op as OpEvent, Request as RequestEvent, Drop, Deliver}
use Rattle.clv_base.specs.declared.events.Outcome.{Outcome}
use Rattle.clv_base.specs.declared.events.Outcome.TheVariants.{Dead, Asked, Sent, Taken}
use Rattle.clv_base.specs.declared.events.Entry.{Entry}
use Rattle.clv_base.specs.Orders.{tx_same, tx_in, tx_get, nat_in}
use Rattle.clv_base.specs.Shards.{shard_count}
use Rattle.clv_base.specs.Logs.{committed_in}
use Rattle.clv_base.specs.State.{Shard, Local, is_present}
use Rattle.clv_base.specs.Undo.{stage_of, doomed_by}
use Rattle.clv_base.specs.Facts.{facts_of, is_waiting}
use Rattle.clv_base.specs.Participant.{taken_if, taken_by}
use Rattle.clv_base.specs.Coordinator.{others}
use Rattle.clv_base.specs.Sessions.{no_session}
use Rattle.clv_base.specs.Restarts.{run_after}
use Rattle.clv_base.specs.Journals.{History, own}
use Rattle.clv_base.specs.History.{WasSent}
use Rattle.clv_base.proofs.SameNames.{tx_true}
use Rattle.law_base.proofs.Changed.{none_some}
use Rattle.law_base.proofs.Sets.{in_filter}
use Rattle.law_base.proofs.Successors.{through_all}
use Rattle.law_base.proofs.Tables.{is_pair}
use Rattle.protocol_laws.specs.SessionLaws.{tx_of, works_on, ended_by}
use Rattle.protocol_laws.proofs.SessionsKeepOrder.{sessions_keep_order}
use Rattle.history_cases.proofs.Merging.{Placed, Among, is_among, among_is, in_turn, in_order, own_in_order, precedes_before, before_then}
use Rattle.history_cases.proofs.Telling.{IsRequest}
use Rattle.history_cases.proofs.Worlds.{state_at}
use Rattle.history_laws.specs.Openings.{LegalFrom}
use Rattle.history_laws.proofs.RequestsNameWhatAnswered.DropsAfterRequests.{drop_after_request}
use Rattle.history_laws.proofs.RequestsNameWhatAnswered.NamedShardsAnswered.{AnsweredAt}
use Rattle.history_laws.proofs.RequestsNameWhatAnswered.SessionsFollowTheirOperations.{AnswersAt}
use Rattle.history_laws.proofs.NeverTakenBack.{walker_of, one_request}
use Rattle.history_laws.proofs.Entries.NothingFollowsRequests.{nothing_follows}
use Rattle.history_laws.proofs.Entries.WalkedEntryByEntry.{from_own, first_among}
use Rattle.shard_laws.proofs.Order.ChangesKeepOrder.{prepare_some}
use Rattle.shard_laws.proofs.Events.DueKeeps.{waiting_here}
use Rattle.fate_laws.proofs.Parts.FrontsKeepParts.{WasTaken, Bindings, asked_not_own}
use Rattle.fate_laws.proofs.Origins.FrontsKeepOrigins.{IsOld, Brings}
use Rattle.fate_laws.proofs.Homes.FrontsKeepHomes.{delivered}
use Rattle.fate_laws.proofs.FallenAreUncommitted.PreparedPairsAreListed.{Decided}
use Rattle.fate_laws.proofs.Origins.DueKeepsOrigins.{SomeRequest, AwayRequest, part_of}
use Rattle.fate_laws.proofs.CausesStand.EntriesEndTheDying.{Before_entry}
use Rattle.fate_laws.proofs.Parts.CommittedAreVotedFor.{Touched}
use Rattle.fate_laws.proofs.History.EntryByEntry.{Next, AskedIn}
use Rattle.fate_laws.proofs.History.EntriesInTurn.{Requested, own_precedes, named_at, request_no_request}
use Rattle.fate_laws.proofs.VotesBind.{votes_bind}
use Rattle.settled_laws.proofs.AbortsAreDeaths.DueUpholdsOldParts.{Asks, Upheld}
use Rattle.settled_laws.proofs.AbortsAreDeaths.EventsUpholdOldParts.{Falls, OwesVote, OwesMessage, IsFinal, Owes, SaidBy, TakesNoNo}

-- ---- what is known after a front of a history

-- the shard's vote of read on the transaction was sent
abbrev pub VotedRead : History → ℕ → TxId → Type 0
VotedRead pre m t = (k : ℕ) × (x : Entry) × (home : ℕ) × Among (k, x) pre × (x.outcome ≡ Sent (VoteMessage home t m Read))

abbrev pub UpheldAt : ℕ → History → History → ℕ → Shard → Type 0
UpheldAt run h pre n s = Upheld (WasTaken h) (VotedRead pre) (IsOld run) (λ t. AskedIn pre t n) s

abbrev pub Said : History → History → Outcome → Type 0
Said h pre o = SaidBy (WasTaken h) (VotedRead pre) o

pub record AllUpheld (splits : List ℕ) (before after : List (List LogRecord)) (h pre : History) : Type 0 where
  pub states : (n : ℕ) → n < shard_count splits → UpheldAt (run_after before) h pre n (state_at before after n pre)
  pub said : (x : Placed) → Among x pre → Said h pre (x.1).outcome
  pub takes : (x : Placed) → Among x pre → TakesNoNo (x.1).event (x.1).outcome

-- no part of this run is there yet, or each closed part of an earlier run is committed
abbrev pub Begins : ℕ → Shard → Type 0
Begins run s = ((t : TxId) (st : Stage) → stage_of s.local t ≡ Some st → IsOld run t) ⊎ ((t : TxId) → stage_of s.local t ≡ Some Closed → IsOld run t → committed_in s.local.log t ≡ true)

-- what stands before the next entry
pub record Facing (splits : List ℕ) (before after : List (List LogRecord)) (h pre : History) (e : Placed) (post : History) : Type 0 where
  pub from : LegalFrom splits before h after
  pub parts_are : pre ++ e ∷ post ≡ h
  pub next : Next splits before after h pre e
  pub entry : Before_entry splits before after h pre e
  pub bindings : Bindings splits before after h pre
  pub paired : (a u : TxId) → is_pair (state_at before after e.0 pre).local.pairs a u ≡ true → Decided (state_at before after e.0 pre).local.log u
  pub brings : Brings (Requested pre) (IsOld (run_after before)) (e.1).event
  pub begins : Begins (run_after before) (state_at before after e.0 pre)
  pub upheld : AllUpheld splits before after h pre

-- a touched shard but the home is one that the request names
in_others : (P : ℕ × ℕ → Type 0) (m n : ℕ) (ts : List (ℕ × ℕ)) → AllByRecursion P ts → nat_in n (others m ts) ≡ true → (k : ℕ × ℕ) × (k.0 ≡ n) × P k
in_others P m n [] a i = absurd (both_ways false refl i)
in_others P m n (t ∷ ts) a i = at (not (t.0 == m)) i (in_others P m n ts a.1)
  where
    at : (b : Bool) → nat_in n (cond b (t.0 ∷ others m ts) (others m ts)) ≡ true → (nat_in n (others m ts) ≡ true → (k : ℕ × ℕ) × (k.0 ≡ n) × P k) → (k : ℕ × ℕ) × (k.0 ≡ n) × P k
    at true j k = ⊎_elim (λ q. (t, sym (eqb-true n t.0 q), a.0)) k (or_cases (n == t.0) (nat_in n (others m ts)) j)
    at false j k = k j

not_there : (l : Local) (t : TxId) → stage_of l t ≡ None → tx_get t l.parts ≡ None
not_there l t e = at (tx_get t l.parts) refl e
  where
    at : (o : Option Held) → tx_get t l.parts ≡ o → ◌≡◌ {A = Option Stage} (elim o [ Some g ↦ Some g.stage | None ↦ None ]) None → tx_get t l.parts ≡ None
    at None q f = q
    at (Some g) q f = absurd (none_some g.stage (sym f))

is_there : (o : Option Stage) → is_present o ≡ true → (st : Stage) × (o ≡ Some st)
is_there None e = absurd (both_ways false refl e)
is_there (Some st) e = (st, refl)

awaited : (a b : Bool) → taken_if a b ≡ IsAwaited → a ≡ true
awaited true b e = refl
awaited false true e = absurd cc
awaited false false e = absurd cc

module _ {splits : List ℕ} {before after : List (List LogRecord)} {h pre : History} {e : Placed} {post : History} (f : Facing splits before after h pre e post) where
  here : UpheldAt (run_after before) h pre e.0 (state_at before after e.0 pre)
  here = (f.upheld).states e.0 (f.next).inside

  -- who asked is of this run
  asks_now : (t : TxId) → Asks (WasTaken h) t → t.run ≡ run_after before
  asks_now t (m, ts, (r, i, q)) = (walker_of splits before after h (m, r) t (f.next).legal i (ap tx_of q.0)).0

  old_unasked : (t : TxId) → IsOld (run_after before) t → Asks (WasTaken h) t → ⊥
  old_unasked t o a = let r = asks_now t a in omega (arith, o, r)

  -- ---- who goes alone

  alone : (u : TxId) → u.run ≡ run_after before → ((n : ℕ) → AskedIn pre u n → ⊥) → (Asks (WasTaken h) u → ⊥) → Falls (WasTaken h) (IsOld (run_after before)) (state_at before after e.0 pre) u
  alone u r unasked never t i =
      let s = state_at before after e.0 pre in
      let j = (in_filter (λ v. is_present (stage_of s.local v)) t (doomed_by s.local u) i).0 in
      let q : t ≡ u = through_all (λ v. v ≡ u) (length s.local.pairs) s.local.pairs (u ∷ []) (λ a b k z. absurd (unpaired a (subst (λ y. is_pair s.local.pairs a y ≡ true) z k))) (λ v k. first v k) t j in
      ((λ a. never (subst (Asks (WasTaken h)) q a)), inr q)
    where
      first : (v : TxId) → tx_in v (u ∷ []) ≡ true → v ≡ u
      first v k = ⊎_elim (λ a. sym (tx_true u v a)) (λ a. absurd (both_ways false refl a)) (or_cases (tx_same u v) false k)

      unpaired : (a : TxId) → is_pair (state_at before after e.0 pre).local.pairs a u ≡ true → ⊥
      unpaired a k = by (f.paired a u k)
        where
          by : Decided (state_at before after e.0 pre).local.log u → ⊥
          by (inl p) = let x = prepare_some (state_at before after e.0 pre).local.log u p in unasked (x.0).0 ((((f.bindings).fated).homed e.0 (f.next).inside).prepares u x.0 x.1 r)
          by (inr c) = ⊎_elim (λ k. unasked (state_at before after e.0 pre).shard k) (λ k. unasked k.0 k.1) ((((f.bindings).fated).homed e.0 (f.next).inside).log u c r)

  -- whose work ends by this entry, and who made no request before, makes none
  ends_unasked : (t : TxId) → tx_of (e.1).event ≡ Some t → ended_by (e.1).event (e.1).outcome ≡ Some t.serial → ((ts : List (ℕ × ℕ)) → IsRequest t ts e → ⊥) → ((n : ℕ) → AskedIn pre t n → ⊥) → Asks (WasTaken h) t → ⊥
  ends_unasked t c d other unasked (m, ts, (r, i, q)) =
      let o = in_order h ((f.next).legal).ordered in
      ⊎_elim (λ z. other ts (subst (IsRequest t ts) z q))
      (λ z. ⊎_elim (λ a. unasked m (r, ts, (f.next).front (m, r) i (precedes_before (m, r) e h o a), q))
      (λ a.
      let p = own_precedes splits before after h e (m, r) t (f.next).legal (record { first = (f.next).among; second = i; before = precedes_before e (m, r) h o a }) c (ap tx_of q.0) in
      let k = (sessions_keep_order splits (run_after before) (e.1).walker (own (e.1).walker h) p.1).2 in
      both_ways _ (nothing_follows (own (e.1).walker h) e (m, r) t.serial k p.0 d) (subst (λ y. works_on t.serial y ≡ true) (sym q.0) (eq-eqb t.serial t.serial refl))) z)
      (in_turn (m, r) e h i (f.next).among)

  op_falls : (t : TxId) (b : Birth) (nth : ℕ) (seen : Option ℕ) (op : Op) (c : AbortCause) → (e.1).event ≡ OpEvent t b nth seen op → (e.1).outcome ≡ Dead c → Falls (WasTaken h) (IsOld (run_after before)) (state_at before after e.0 pre) t
  op_falls t b nth seen op c p q =
      let unasked : (n : ℕ) → AskedIn pre t n → ⊥ = λ n a. asked_not_own splits before after h pre e t b nth seen op n (f.next) p a in
      alone t (walker_of splits before after h e t (f.next).legal (f.next).among (ap tx_of p)).0 unasked
      (ends_unasked t (ap tx_of p) (ap (λ z. ended_by z (e.1).outcome) p ∙ ap (ended_by (OpEvent t b nth seen op)) q) (λ ts r. differ ts (sym p ∙ r.0)) unasked)
    where
      differ : (ts : List (ℕ × ℕ)) → OpEvent t b nth seen op ≡ RequestEvent t ts → ⊥
      differ ts z = absurd cc

  -- who asked is dropped only where it was told of an abort, and none was
  drop_unasked : (t : TxId) → (e.1).event ≡ Drop t → (n : ℕ) → AskedIn pre t n → ⊥
  drop_unasked t p n (r, ts, i, q) =
      let k = (f.next).earlier (n, r) i in
      let o = own_precedes splits before after h (n, r) e t (f.next).legal (record { first = k.0; second = (f.next).among; before = k.1 }) (ap tx_of q.0) (ap tx_of p) in
      let v = own r.walker h in
      let y = drop_after_request splits v (no_session (run_after before) r.walker) (n, r) e t ts o.1 o.0 q.0 q.1 p in
      let j = (f.next).front y.0 (from_own r.walker y.0 h (first_among y.0 e v y.2)) (precedes_before y.0 e v (own_in_order r.walker h (in_order h ((f.next).legal).ordered)) y.2) in
      subst (Said h pre) y.4 ((f.upheld).said y.0 j)

  drop_falls : (t : TxId) → (e.1).event ≡ Drop t → Falls (WasTaken h) (IsOld (run_after before)) (state_at before after e.0 pre) t
  drop_falls t p =
      alone t (walker_of splits before after h e t (f.next).legal (f.next).among (ap tx_of p)).0 (drop_unasked t p)
      (ends_unasked t (ap tx_of p) (ap (λ z. ended_by z (e.1).outcome) p) (λ ts r. differ ts (sym p ∙ r.0)) (drop_unasked t p))
    where
      differ : (ts : List (ℕ × ℕ)) → Drop t ≡ RequestEvent t ts → ⊥
      differ ts z = absurd cc

  -- ---- a request

  request_first : (t : TxId) (ts : List (ℕ × ℕ)) → (e.1).event ≡ RequestEvent t ts → IsFinal (stage_of (state_at before after e.0 pre).local t) → ⊥
  request_first t ts p g =
      let s = state_at before after e.0 pre in
      let o = ((f.entry).traced).origins in
      by (⊎_elim (λ x. (part_of e.0 s.local.epoch _ _ _ _ _ s t (Gone None) o x).3) (λ x. (part_of e.0 s.local.epoch _ _ _ _ _ s t Closed o x).3) g)
    where
      by : SomeRequest (Requested pre) (IsOld (run_after before)) t → ⊥
      by (inl (n, r)) = request_no_request splits before after h pre e t ts n (f.next).legal (f.entry).behind p r
      by (inr o) = let z = (walker_of splits before after h e t (f.next).legal (f.next).among (ap tx_of p)).0 in omega (arith, o, z)

  -- ---- a Prepare: its part is there

  answered_there : (y : Placed) (t : TxId) (ep : ℕ) → Among y pre → AnsweredAt y t e.0 ep → stage_of (state_at before after e.0 pre).local t ≡ None → ⊥
  answered_there y t ep i a none =
      let s = state_at before after e.0 pre in
      let k = (f.entry).traced in
      let m = k.epochs y t a.birth a.nth a.seen a.op a.answer ep i a.place a.event a.outcome in
      let m0 = m.0 in
      let z = (here).epoch in
      let same : ep ≡ s.local.epoch = omega (arith, m0, z) in
      (k.origins).known t
      (a.birth, (y, i, a.place, subst (AnswersAt y t a.birth) same (record { seen = a.seen; answer = a.answer; at = record { nth = a.nth; op = a.op; is = a.event }; outcome = a.outcome; saw = m.1 })))
      (not_there s.local t none)

  prepare_there : (to t_home seen stamp : ℕ) (t : TxId) → (e.1).event ≡ Deliver (Prepare to t t_home seen) stamp → Touched (WasTaken h) (state_at before after e.0 pre).shard t → stage_of (state_at before after e.0 pre).local t ≡ None → ⊥
  prepare_there to t_home seen stamp t p (m, ts, (r, i, q), j) none =
      let l = (f.next).legal in
      let now = (walker_of splits before after h (m, r) t l i (ap tx_of q.0)).0 in
      let a = delivered splits before after pre (Prepare to t t_home seen) stamp (f.bindings).fated (subst (WasSent pre) p (f.next).sent) now in
      let same = one_request splits before after h (t_home, a.0) (m, r) t a.1 ts l ((f.next).earlier (t_home, a.0) a.2).0 i a.3 q in
      let asked : Among (m, r) pre = subst (λ z. Among z pre) same a.2 in
      let y = in_others (λ k. (y : Placed) × _ × AnsweredAt y t k.0 k.1) m (state_at before after e.0 pre).shard ts (named_at splits before after h (m, r) t ts l i q.0).0 j in
      let turn = (y.2).1 in
      answered_there (y.2).0 t (y.0).1 ((f.next).front (y.2).0 turn.first (before_then (y.2).0 (m, r) e turn.before ((f.next).earlier (m, r) asked).1))
      (subst (λ n. AnsweredAt (y.2).0 t n (y.0).1) (y.1 ∙ ((f.next).split).shard) (y.2).2) none

  -- ---- a vote

  vote_owes : (to t_from stamp : ℕ) (t : TxId) (vote : Vote) → (e.1).event ≡ Deliver (VoteMessage to t t_from vote) stamp → OwesVote (WasTaken h) (VotedRead pre) t_from t vote
  vote_owes to t_from stamp t vote p = by vote (subst (WasSent pre) p (f.next).sent)
    where
      by : (v : Vote) → WasSent pre (Deliver (VoteMessage to t t_from v) stamp) → OwesVote (WasTaken h) (VotedRead pre) t_from t v
      by Yes k = tt
      by Read (n, x, i, z, o) = (n, x, to, is_among n x pre i, o)
      by (No why) (n, x, i, z, o) = subst (Said h pre) o ((f.upheld).said (n, x) (is_among n x pre i))

  -- ---- word of an abort

  -- one who asked waits for none on this shard: where that was told, each other shard voted read
  asked_unwaiting : (to t_home stamp : ℕ) (t : TxId) → (e.1).event ≡ Deliver (Decide to t t_home false) stamp → to ≡ (state_at before after e.0 pre).shard → stage_of (state_at before after e.0 pre).local t ≡ Some Closed → Asks (WasTaken h) t → ⊥
  asked_unwaiting to t_home stamp t p z c a = by ((((f.bindings).parted e.0 (f.next).inside).base).closed t c (asks_now t a))
    where
      n : ℕ
      n = (state_at before after e.0 pre).shard

      told : WasSent pre (Deliver (Decide to t t_home false) stamp) → (m : ℕ) → Touched (WasTaken h) m t → VotedRead pre m t
      told (k, x, i, y, o) = subst (Said h pre) o ((f.upheld).said (k, x) (is_among k x pre i)) a

      away : AwayRequest (Requested pre) (IsOld (run_after before)) to t → (ts : List (ℕ × ℕ)) → WasTaken h t (state_at before after e.0 pre).shard ts → ⊥
      away (inl (m, far, (r, us, i, q, k))) ts (x, j, d) =
          far (sym k ∙ ap (λ v. v.0) (one_request splits before after h r ((state_at before after e.0 pre).shard, x) t us ts (f.next).legal ((f.next).earlier r i).0 j q d) ∙ sym z)
      away (inr o) ts x = old_unasked t o a

      by : ((ts : List (ℕ × ℕ)) × WasTaken h t (state_at before after e.0 pre).shard ts) ⊎ Touched (WasTaken h) (state_at before after e.0 pre).shard t → ⊥
      by (inl (ts, x)) = away (subst (Brings (Requested pre) (IsOld (run_after before))) p f.brings) ts x
      by (inr x) =
          let v = told (subst (WasSent pre) p (f.next).sent) (state_at before after e.0 pre).shard x in
          let k = votes_bind splits before pre (e ∷ post) after v.0 v.1 v.2 (state_at before after e.0 pre).shard t Read (subst (λ y. LegalFrom splits before y after) (sym f.parts_are) f.from)
          (subst (λ y. y < shard_count splits) (sym ((f.next).split).shard) (f.next).inside) (among_is v.0 v.1 pre v.3) v.4 in
          both_ways _ (subst (λ y. is_present (stage_of (state_at before after y pre).local t) ≡ false) ((f.next).split).shard k.1) (ap is_present c)

  decide_falls : (to t_home stamp : ℕ) (t : TxId) → (e.1).event ≡ Deliver (Decide to t t_home false) stamp → to ≡ (state_at before after e.0 pre).shard → taken_by (facts_of (state_at before after e.0 pre) t) false ≡ IsAwaited
      → Falls (WasTaken h) (IsOld (run_after before)) (state_at before after e.0 pre) t
  decide_falls to t_home stamp t p z g =
      let s = state_at before after e.0 pre in
      let c = waiting_here s t (awaited (is_waiting (facts_of s t)) _ g) in
      by c.0 c.1 (part_of e.0 s.local.epoch _ _ _ _ _ s t Closed ((f.entry).traced).origins c.0).3 f.begins
    where
      by : stage_of (state_at before after e.0 pre).local t ≡ Some Closed → committed_in (state_at before after e.0 pre).local.log t ≡ false → SomeRequest (Requested pre) (IsOld (run_after before)) t → Begins (run_after before) (state_at before after e.0 pre)
          → Falls (WasTaken h) (IsOld (run_after before)) (state_at before after e.0 pre) t
      by c d (inl (n, (r, ts, i, q, k))) b = absurd (asked_unwaiting to t_home stamp t p z c (r.0, ts, (r.1, ((f.next).earlier r i).0, q)))
      by c d (inr o) (inr b) = absurd (both_ways _ d (b t c o))
      by c d (inr o) (inl b) = λ u i.
          let s = state_at before after e.0 pre in
          let y = is_there (stage_of s.local u) (in_filter (λ v. is_present (stage_of s.local v)) u (doomed_by s.local t) i).1 in
          let old = b u y.0 y.1 in
          ((λ a. old_unasked u old a), inl old)

  -- ---- a question

  ask_there : (to t_from stamp : ℕ) (t : TxId) → (e.1).event ≡ Deliver (Ask to t t_from) stamp → to ≡ (state_at before after e.0 pre).shard → Asks (WasTaken h) t → tx_get t (state_at before after e.0 pre).requests ≡ None → ⊥
  ask_there to t_from stamp t p z a none =
      (here).there t (subst (AskedIn pre t) (z ∙ ((f.next).split).shard) (delivered splits before after pre (Ask to t t_from) stamp (f.bindings).fated (subst (WasSent pre) p (f.next).sent) (asks_now t a))) none

  -- ---- all of it

  owes_message : (m : Message) (stamp : ℕ) → (e.1).event ≡ Deliver m stamp → OwesMessage (WasTaken h) (VotedRead pre) (IsOld (run_after before)) (state_at before after e.0 pre) m
  owes_message (Prepare to t t_home seen) stamp p = prepare_there to t_home seen stamp t p
  owes_message (VoteMessage to t t_from vote) stamp p = vote_owes to t_from stamp t vote p
  owes_message (Decide to t t_home true) stamp p = tt
  owes_message (Decide to t t_home false) stamp p = decide_falls to t_home stamp t p
  owes_message (Done to t t_from) stamp p = tt
  owes_message (Ask to t t_from) stamp p = ask_there to t_from stamp t p

  pub owes : (ev : Event) (o : Outcome) → (e.1).event ≡ ev → (e.1).outcome ≡ o → Owes (WasTaken h) (VotedRead pre) (IsOld (run_after before)) (state_at before after e.0 pre) ev o
  owes (OpEvent t b nth seen op) (Dead c) p q = op_falls t b nth seen op c p q
  owes (RequestEvent t ts) Asked p q = (subst (λ n. WasTaken h t n ts) (sym ((f.next).split).shard) (e.1, (f.next).among, (p, q)), request_first t ts p)
  owes (Drop t) o p q = drop_falls t p
  owes (Deliver m stamp) Taken p q = owes_message m stamp p
  owes _ o p q = tt
