-- Along a history: of whose request was finished on a shard no write stands there; it is gone and never fell, and each other shard that it names
-- voted read.
use Rattle.std.proofs.Common.{◌≡◌, ◌⊎◌, inl, inr, ⊎_elim, refl, sym, ap, subst, ◌∙◌, ℕ, ◌<◌, true, false, Bool, ◌==◌, List, [], ◌∷◌, ◌++◌, Some, eqb-true, append_assoc, append-nil}
use Rattle.std.proofs.lemmas.Bool.{both_ways}
use Rattle.clv_base.specs.declared.names.TxId.{TxId}
use Rattle.clv_base.specs.declared.causes.Vote.{Vote}
use Rattle.clv_base.specs.declared.causes.Vote.TheVariants.{Read}
use Rattle.clv_base.specs.declared.logs.LogRecord.{LogRecord}
use Rattle.clv_base.specs.declared.messages.Message.TheVariants.{Vote as VoteMessage}
use Rattle.clv_base.specs.declared.state.Request.{Request}
use Rattle.clv_base.specs.declared.state.RequestState.TheVariants.{Undecided, Committed, Finished}
use Rattle.clv_base.specs.declared.events.Event.{Event}
use Rattle.clv_base.specs.declared.events.Event.TheVariants.{Request as RequestEvent, Deliver, Restart}
use Rattle.clv_base.specs.declared.events.Outcome.{Outcome}
use Rattle.clv_base.specs.declared.events.Outcome.TheVariants.{Asked, Sent}
use Rattle.clv_base.specs.declared.events.Entry.{Entry}
use Rattle.clv_base.specs.Orders.{Table, tx_get, nat_in}
use Rattle.clv_base.specs.Shards.{shard_count}
use Rattle.clv_base.specs.LogRules.{log_of}
use Rattle.clv_base.specs.State.{Shard, is_present}
use Rattle.clv_base.specs.Undo.{stage_of}
use Rattle.clv_base.specs.Coordinator.{others, restored_request, restored_requests}
use Rattle.clv_base.specs.Restarts.{run_after, unended_in, log_after_restart}
use Rattle.clv_base.specs.Journals.{History, event_state}
use Rattle.clv_base.specs.History.{WasSent}
use Rattle.history_laws.specs.Openings.{LegalFrom}
use Rattle.shard_laws.specs.OneShard.{is_doomed}
use Rattle.law_base.proofs.Rows.{rows_get}
use Rattle.history_cases.proofs.Entering.{Makes, makes}
use Rattle.history_cases.proofs.Merging.{Placed, Among, among_left, among_right, is_among}
use Rattle.history_cases.proofs.Telling.{IsRequest, all_map}
use Rattle.history_cases.proofs.Worlds.{state_at}
use Rattle.law_base.proofs.Stages.{present_is}
use Rattle.fate_laws.proofs.Parts.FrontsKeepParts.{asked_not_own, bindings_front}
use Rattle.fate_laws.proofs.History.EntryByEntry.{Next, next_at, stays_as_it_was}
use Rattle.fate_laws.proofs.Parts.BoundStaysBound.{NotOwn}
use Rattle.fate_laws.specs.Falls.{Fell}
use Rattle.fate_laws.proofs.FallenAreUncommitted.FrontsKeepOutUncommitted.{stands_front, walk_on, empty_front, same_last, last_front}
use Rattle.fate_laws.proofs.FallenAreUncommitted.{fell_out}
use Rattle.headline_laws.proofs.AcknowledgedStand.NonWritersStayGone.{Quiet, quiet_absent, quiet_undoomed, quiet_made}
use Rattle.headline_laws.proofs.AcknowledgedStand.DueFinishesOnlyReaders.{Told, Ends, RowIs}
use Rattle.headline_laws.proofs.AcknowledgedStand.EntriesFinishOnlyReaders.{IsFinished, IsIdle, Begins, Owes, rows_made}
use Rattle.protocol_laws.proofs.LogsInOrder.OneRecordMore.{prepared_there}

-- ---- what stands in a front of the history

-- the shard sent this vote on the transaction
abbrev pub VotedIn : History → TxId → ℕ → Vote → Type 0
VotedIn pre t m v = (x : Placed) × (to : ℕ) × Among x pre × ((x.1).outcome ≡ Sent (VoteMessage to t m v))

-- its request was taken by this shard, with these touched shards
abbrev pub TakenIn : History → ℕ → TxId → List (ℕ × ℕ) → Type 0
TakenIn pre n t ts = (r : Entry) × Among (n, r) pre × IsRequest t ts (n, r)

abbrev pub WasFinished : List (List LogRecord) → List (List LogRecord) → History → ℕ → TxId → Type 0
WasFinished before after pre n t = (front : History) × (rest : History) × (front ++ rest ≡ pre) × IsFinished (state_at before after n front) t

pub record Finishes (splits : List ℕ) (before after : List (List LogRecord)) (pre : History) (n : ℕ) (t : TxId) : Type 0 where
  pub quiet : Quiet (state_at before after n pre).local t
  pub unfallen : Fell before pre after n t → ⊥
  pub touched : List (ℕ × ℕ)
  pub taken : TakenIn pre n t touched
  pub read : (m : ℕ) → nat_in m (others n touched) ≡ true → VotedIn pre t m Read

pub record Knows (splits : List ℕ) (before after : List (List LogRecord)) (pre : History) : Type 0 where
  pub open_ : (n : ℕ) → n < shard_count splits → (t : TxId) (q : Request) → tx_get t (state_at before after n pre).requests ≡ Some q → q.state ≡ Undecided → TakenIn pre n t q.touched × Told (VotedIn pre t) q.votes
  pub finished : (n : ℕ) → n < shard_count splits → (t : TxId) → WasFinished before after pre n t → Finishes splits before after pre n t

voted_later : (pre : History) (e : Placed) (t : TxId) (m : ℕ) (v : Vote) → VotedIn pre t m v → VotedIn (pre ++ e ∷ []) t m v
voted_later pre e t m v (x, to, i, o) = (x, to, among_left x pre (e ∷ []) i, o)

taken_later : (pre : History) (e : Placed) (n : ℕ) (t : TxId) (ts : List (ℕ × ℕ)) → TakenIn pre n t ts → TakenIn (pre ++ e ∷ []) n t ts
taken_later pre e n t ts (r, i, a) = (r, among_left (n, r) pre (e ∷ []) i, a)

told_later : (pre : History) (e : Placed) (t : TxId) (vs : List (ℕ × Vote)) → Told (VotedIn pre t) vs → Told (VotedIn (pre ++ e ∷ []) t) vs
told_later pre e t [] a = tt
told_later pre e t (v ∷ vs) a = (voted_later pre e t v.0 v.1 a.0, told_later pre e t vs a.1)

-- ---- who falls with the last entry of a front

-- who is quiet after it fell before, or was here before a restart
fell_before : (before after : List (List LogRecord)) (pre : History) (e : Placed) (n : ℕ) (t : TxId) → Quiet (state_at before after n (pre ++ e ∷ [])).local t → ((e.1).event ≡ Restart → is_present (stage_of (state_at before after n pre).local t) ≡ true → ⊥)
    → Fell before (pre ++ e ∷ []) after n t → Fell before pre after n t
fell_before before after pre e n t k r (inl (f, x, rest, z, ev, l)) = at (last_front (f ++ (n, x) ∷ []) rest pre e (append_assoc f ((n, x) ∷ []) rest ∙ z))
  where
    at : (f ++ (n, x) ∷ [] ≡ pre ++ e ∷ []) ⊎ ((s : History) × ((f ++ (n, x) ∷ []) ++ s ≡ pre)) → Fell before pre after n t
    at (inl q) =
        let y = same_last f pre (n, x) e q in
        absurd (r (sym (ap (λ v. (v.1).event) y.1) ∙ ev) (subst (λ v. is_present (stage_of (state_at before after n v).local t) ≡ true) y.0 l.0))
    at (inr (s, q)) = inl (f, x, s, sym (append_assoc f ((n, x) ∷ []) s) ∙ q, ev, l)
fell_before before after pre e n t k r (inr (f, rest, z, d)) = at (last_front f rest pre e z)
  where
    at : (f ≡ pre ++ e ∷ []) ⊎ ((s : History) × (f ++ s ≡ pre)) → Fell before pre after n t
    at (inl q) = absurd (both_ways _ (quiet_undoomed (state_at before after n (pre ++ e ∷ [])).local t k) (subst (λ v. is_doomed (stage_of (state_at before after n v).local t) ≡ true) q d))
    at (inr (s, q)) = inr (f, s, q, d)

-- ---- one entry more

module _ {splits : List ℕ} {before after : List (List LogRecord)} {h : History} (l : LegalFrom splits before h after) (pre : History)
    (e : Placed) (post : History) (q : pre ++ e ∷ post ≡ h) (k : Knows splits before after pre) where
  abbrev New : History
  New = pre ++ e ∷ []

  abbrev S : Shard
  S = state_at before after e.0 pre

  abbrev T : Shard
  T = event_state (log_of after e.0) (state_at before after e.0 pre) (e.1).event (e.1).outcome

  w : Next splits before after h pre e
  w = next_at splits before after h pre e post l.legal q

  made : Makes (log_of after e.0) S (e.1).event (e.1).outcome T
  made = makes (log_of after e.0) S (e.1).event (e.1).outcome ((w.split).enters).event

  owed : (ev : Event) (out : Outcome) → (e.1).event ≡ ev → (e.1).outcome ≡ out → WasSent pre ev → Owes (TakenIn New e.0) (VotedIn New) ev out
  owed (RequestEvent tx ts) Asked a b s = (e.1, among_right e pre (e ∷ []) (inl refl), (a, b))
  owed (Deliver (VoteMessage to tx from vote) stamp) out a b (m, x, i, z, y) = ((m, x), to, among_left (m, x) pre (e ∷ []) (is_among m x pre i), y)
  owed _ out a b s = tt

  begins : Begins (TakenIn New e.0) (VotedIn New) e.0 S
  begins = record {
    shard = (w.split).shard;
    stands = (((bindings_front l pre (e ∷ post) q).parted e.0 w.inside).base).stands;
    unprepared = (((bindings_front l pre (e ∷ post) q).parted e.0 w.inside).base).unprepared;
    open_ = λ t r g u. let p = k.open_ e.0 w.inside t r g u in (taken_later pre e e.0 t r.touched p.0, told_later pre e t r.votes p.1);
  }

  rows_now : (t : TxId) (r : Request) → tx_get t (state_at before after e.0 New).requests ≡ Some r → RowIs (IsFinished S) (IsIdle (e.1).event S) (TakenIn New e.0) (VotedIn New) e.0 T.local t r r.state
  rows_now t r g = rows_made (TakenIn New e.0) (VotedIn New) e.0 (log_of after e.0) S T made (owed (e.1).event (e.1).outcome refl refl w.sent) begins t r (subst (λ (z : Shard). tx_get t z.requests ≡ Some r) (w.split).next g)

  -- who was finished before
  carry : (t : TxId) → Finishes splits before after pre e.0 t → Finishes splits before after New e.0 t
  carry t p = record {
    quiet = now;
    unfallen = λ f. p.unfallen (fell_before before after pre e e.0 t now (λ v there. both_ways _ (quiet_absent S.local t p.quiet) there) f);
    touched = p.touched;
    taken = taken_later pre e e.0 t p.touched p.taken;
    read = λ m i. voted_later pre e t m Read (p.read m i);
  }
    where
      not_own : NotOwn t (e.1).event
      not_own birth nth seen op z = asked_not_own splits before after h pre e t birth nth seen op e.0 w z ((p.taken).0, p.touched, (p.taken).1, (p.taken).2)

      now : Quiet (state_at before after e.0 (pre ++ e ∷ [])).local t
      now = subst (λ (z : Shard). Quiet z.local t) (sym (w.split).next) (quiet_made (log_of after e.0) S T t made not_own p.quiet)

  -- who is idle did not fall
  idle_unfallen : (t : TxId) → IsIdle (e.1).event S t → Fell before pre after e.0 t → ⊥
  idle_unfallen t d f =
      let b = (stands_front l pre (e ∷ post) q e.0 w.inside).barred in
      let x = b.here t (fell_out l pre (e ∷ post) e.0 t q w.inside f) d.1 in
      let p = prepared_there S.local.log t x.0 x.1 in
      ⊎_elim (λ a. both_ways _ ((b.lined).unprepared t a) p) (λ c. both_ways _ d.2 ((b.lined).stands t p c)) (present_is (stage_of S.local t) d.1)

  -- who is finished by this entry
  fresh : (t : TxId) → Ends (IsIdle (e.1).event S) (TakenIn New e.0) (VotedIn New) e.0 T.local t → Finishes splits before after New e.0 t
  fresh t d =
      record { quiet = now; unfallen = λ f. idle_unfallen t d.was (fell_before before after pre e e.0 t now (λ v there. (d.was).0 v) f); touched = d.touched; taken = d.taken; read = d.read }
    where
      now : Quiet (state_at before after e.0 (pre ++ e ∷ [])).local t
      now = subst (λ (z : Shard). Quiet z.local t) (sym (w.split).next) d.quiet

  open_here : (t : TxId) (r : Request) → tx_get t (state_at before after e.0 New).requests ≡ Some r → r.state ≡ Undecided → TakenIn New e.0 t r.touched × Told (VotedIn New t) r.votes
  open_here t r g u = subst (RowIs (IsFinished S) (IsIdle (e.1).event S) (TakenIn New e.0) (VotedIn New) e.0 T.local t r) u (rows_now t r g)

  by_row : (t : TxId) → IsFinished S t ⊎ Ends (IsIdle (e.1).event S) (TakenIn New e.0) (VotedIn New) e.0 T.local t → Finishes splits before after New e.0 t
  by_row t (inl f) = carry t (k.finished e.0 w.inside t (pre, [], append-nil pre, f))
  by_row t (inr d) = fresh t d

  finished_here : (t : TxId) → WasFinished before after New e.0 t → Finishes splits before after New e.0 t
  finished_here t (front, rest, z, f) = at (last_front front rest pre e z)
    where
      at : (front ≡ pre ++ e ∷ []) ⊎ ((s : History) × (front ++ s ≡ pre)) → Finishes splits before after (pre ++ e ∷ []) e.0 t
      at (inl y) =
          let g = subst (λ v. IsFinished (state_at before after e.0 v) t) y f in by_row t (subst (RowIs (IsFinished S) (IsIdle (e.1).event S) (TakenIn New e.0) (VotedIn New) e.0 T.local t g.0) g.2 (rows_now t g.0 g.1))
      at (inr (s, y)) = carry t (k.finished e.0 w.inside t (front, s, y, f))

  -- another shard
  module _ (n : ℕ) (i : n < shard_count splits) (d : (e.0 == n) ≡ false) where
    stays : state_at before after n New ≡ state_at before after n pre
    stays = stays_as_it_was before after n e pre d

    open_there : (t : TxId) (r : Request) → tx_get t (state_at before after n New).requests ≡ Some r → r.state ≡ Undecided → TakenIn New n t r.touched × Told (VotedIn New t) r.votes
    open_there t r g u =
        let p = k.open_ n i t r (subst (λ (z : Shard). tx_get t z.requests ≡ Some r) stays g) u in (taken_later pre e n t r.touched p.0, told_later pre e t r.votes p.1)

    carry_there : (t : TxId) → Finishes splits before after pre n t → Finishes splits before after New n t
    carry_there t p =
        let now = subst (λ (z : Shard). Quiet z.local t) (sym stays) p.quiet in
        record {
          quiet = now;
          unfallen = λ f. p.unfallen (fell_before before after pre e n t now (λ v there. both_ways _ (quiet_absent (state_at before after n pre).local t p.quiet) there) f);
          touched = p.touched;
          taken = taken_later pre e n t p.touched p.taken;
          read = λ m j. voted_later pre e t m Read (p.read m j);
        }

    finished_there : (t : TxId) → WasFinished before after New n t → Finishes splits before after New n t
    finished_there t (front, rest, z, f) = at (last_front front rest pre e z)
      where
        at : (front ≡ pre ++ e ∷ []) ⊎ ((s : History) × (front ++ s ≡ pre)) → Finishes splits before after (pre ++ e ∷ []) n t
        at (inl y) = carry_there t (k.finished n i t (pre, [], append-nil pre, subst (λ z. IsFinished z t) stays (subst (λ v. IsFinished (state_at before after n v) t) y f)))
        at (inr (s, y)) = carry_there t (k.finished n i t (front, s, y, f))

  open_now : (n : ℕ) → n < shard_count splits → (t : TxId) (r : Request) → tx_get t (state_at before after n New).requests ≡ Some r → r.state ≡ Undecided → TakenIn New n t r.touched × Told (VotedIn New t) r.votes
  open_now n i t r = at (e.0 == n) refl
    where
      at : (b : Bool) → (e.0 == n) ≡ b → tx_get t (state_at before after n (pre ++ e ∷ [])).requests ≡ Some r → r.state ≡ Undecided → TakenIn (pre ++ e ∷ []) n t r.touched × Told (VotedIn (pre ++ e ∷ []) t) r.votes
      at true y = subst (λ m. tx_get t (state_at before after m (pre ++ e ∷ [])).requests ≡ Some r → r.state ≡ Undecided → TakenIn (pre ++ e ∷ []) m t r.touched × Told (VotedIn (pre ++ e ∷ []) t) r.votes) (eqb-true e.0 n y) (open_here t r)
      at false y = open_there n i y t r

  finished_now : (n : ℕ) → n < shard_count splits → (t : TxId) → WasFinished before after New n t → Finishes splits before after New n t
  finished_now n i t = at (e.0 == n) refl
    where
      at : (b : Bool) → (e.0 == n) ≡ b → WasFinished before after (pre ++ e ∷ []) n t → Finishes splits before after (pre ++ e ∷ []) n t
      at true y = subst (λ m. WasFinished before after (pre ++ e ∷ []) m t → Finishes splits before after (pre ++ e ∷ []) m t) (eqb-true e.0 n y) (finished_here t)
      at false y = finished_there n i y t

  knows_next : Knows splits before after (pre ++ e ∷ [])
  knows_next = record { open_ = open_now; finished = finished_now }

-- ---- when the shards open

restored_state : (rows : Table (List ℕ)) (t : TxId) (q : Request) → tx_get t (restored_requests rows) ≡ Some q → (parts : List ℕ) × (q.state ≡ Committed parts)
restored_state rows t q g = rows_get (λ z. (parts : List ℕ) × ((z.1).state ≡ Committed parts)) t q (restored_requests rows) (all_map _ (λ n. (n.0, restored_request n.1)) rows (λ n. (n.1, refl))) g

not_open : (q : Request) → ((parts : List ℕ) × (q.state ≡ Committed parts)) → q.state ≡ Undecided → ⊥
not_open q (parts, c) e = differ (sym c ∙ e)
  where
    differ : Committed parts ≡ Undecided → ⊥
    differ z = absurd cc

not_finished : (q : Request) → ((parts : List ℕ) × (q.state ≡ Committed parts)) → q.state ≡ Finished → ⊥
not_finished q (parts, c) e = differ (sym c ∙ e)
  where
    differ : Committed parts ≡ Finished → ⊥
    differ z = absurd cc

knows_start : (splits : List ℕ) (before after : List (List LogRecord)) → Knows splits before after []
knows_start splits before after = record {
  open_ = λ n i t q g u. absurd (not_open q (restored_state (unended n) t q g) u);
  finished = λ n i t w. absurd (never n t (subst (λ v. IsFinished (state_at before after n v) t) (empty_front w.0 w.1 w.2) w.3));
}
  where
    unended : ℕ → Table (List ℕ)
    unended n = let log = log_after_restart n (log_of before n) (run_after before) 0 in unended_in log log

    never : (n : ℕ) (t : TxId) → IsFinished (state_at before after n []) t → ⊥
    never n t (q, g, e) = not_finished q (restored_state (let log = log_after_restart n (log_of before n) (run_after before) 0 in unended_in log log) t q g) e

-- ---- the whole history

pub knows_front : {splits : List ℕ} {before after : List (List LogRecord)} {h : History} → LegalFrom splits before h after → (pre post : History) → pre ++ post ≡ h → Knows splits before after pre
knows_front {splits} {before} {after} {h} l pre post q = walk_on (Knows splits before after) h [] pre post q (knows_next l) (knows_start splits before after)
