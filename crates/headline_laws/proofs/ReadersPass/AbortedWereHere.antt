-- Whose part is gone by an abort after an entry was here before it, or gone by an abort then already.
use Rattle.std.proofs.Common.{◌≡◌, ◌⊎◌, inl, inr, ⊎_elim, refl, sym, ap, subst, ◌∙◌, ℕ, ◌<◌, true, false, cond, Bool, List, [], ◌∷◌, ◌++◌, Option, Some, None}
use Rattle.std.proofs.lemmas.Bool.{both_ways, false_from_ne_true, cond-true, cond-false}
use Rattle.clv_base.specs.declared.names.TxId.{TxId}
use Rattle.clv_base.specs.declared.names.Birth.{Birth}
use Rattle.clv_base.specs.declared.ops.Op.{Op}
use Rattle.clv_base.specs.declared.ops.Answer.{Answer}
use Rattle.clv_base.specs.declared.causes.AbortCause.{AbortCause}
use Rattle.clv_base.specs.declared.causes.Vote.{Vote}
use Rattle.clv_base.specs.declared.causes.Vote.TheVariants.{Yes, Read, No}
use Rattle.clv_base.specs.declared.logs.LogRecord.{LogRecord}
use Rattle.clv_base.specs.declared.events.Event.{Event}
use Rattle.clv_base.specs.declared.events.Outcome.{Outcome}
use Rattle.clv_base.specs.declared.state.Stage.{Stage}
use Rattle.clv_base.specs.declared.state.Stage.TheVariants.{Active, Closed, Gone}
use Rattle.clv_base.specs.declared.state.Held.{Held}
use Rattle.clv_base.specs.declared.state.Voter.{Voter}
use Rattle.clv_base.specs.declared.state.Request.{Request}
use Rattle.clv_base.specs.declared.state.RequestState.TheVariants.{Undecided}
use Rattle.clv_base.specs.declared.state.Ruling.{Ruling}
use Rattle.clv_base.specs.declared.state.Ruling.TheVariants.{Commit as CommitVerdict, Acknowledge, Abort as AbortVerdict, End as EndVerdict}
use Rattle.clv_base.specs.Orders.{Table, tx_same, tx_in, tx_get, tx_put}
use Rattle.clv_base.specs.Logs.{in_doubt}
use Rattle.clv_base.specs.LogRules.{log_of}
use Rattle.clv_base.specs.Shards.{shard_count}
use Rattle.clv_base.specs.State.{Shard, Local, with_local, is_present}
use Rattle.clv_base.specs.Undo.{stage_of, gone_in, doomed_by, doomed_here, roll_back}
use Rattle.clv_base.specs.Facts.{doom_by}
use Rattle.clv_base.specs.Coordinator.{first_no, ruled_request}
use Rattle.clv_base.specs.Needs.{writes_of, value_at, key_of}
use Rattle.clv_base.specs.OneShard.{OpDies, OpAnswers, active_part, new_part, locked, performed, rolled_back_if, closed_in}
use Rattle.clv_base.specs.Due.{finish_reader, with_vote, with_ruling, do_ruling}
use Rattle.clv_base.specs.Events.{finish, with_durable}
use Rattle.clv_base.specs.Restarts.{revived}
use Rattle.clv_base.specs.Journals.{History, event_state, up_to_restart}
use Rattle.clv_base.proofs.SameNames.{tx_true}
use Rattle.law_base.proofs.Changed.{none_some, Set_or_old, get_set}
use Rattle.law_base.proofs.Tables.{stage_by, stage_in, get_put}
use Rattle.law_base.proofs.Sets.{in_filter}
use Rattle.history_laws.specs.Openings.{LegalFrom}
use Rattle.shard_laws.specs.OneShard.{is_doomed}
use Rattle.law_base.proofs.Stages.{stage_closed, closed_other, written_parts, gone_by, stage_own, stage_other, absent_go, stage_marked}
use Rattle.shard_laws.proofs.Restarts.RestoredLocksAndParts.{restored_closed, restored_none}
use Rattle.history_cases.proofs.Stepping.{commits, votes, rules, KeptByDue, settled, Step, op_dies, op_answers, request_refused, request_doomed, request_again, request_closes, looks_well, looks_ill, drops, prepare_closes, decision_comes, finishes, stops}
use Rattle.history_cases.proofs.Entering.{Makes, by_event, by_flush, by_failure, by_restart, makes}
use Rattle.history_cases.proofs.Merging.{Placed}
use Rattle.history_cases.proofs.Worlds.{state_at}
use Rattle.history_laws.proofs.Entries.WhatOperationsDo.{OpIs, dies, rolls, performs, reply_is}
use Rattle.fate_laws.proofs.History.EntryByEntry.{Next, next_at, each_shard}
use Rattle.fate_laws.proofs.CausesStand.EventsEndTheirOwn.{IsCalm}
use Rattle.fate_laws.proofs.CausesStand.GoneEndedOrDoomed.{RuledBy, commit, acknowledge, abort, end, ruled_by, opposed}
use Rattle.fate_laws.proofs.CausesStand.FrontsHaveCauses.{caused_front}

-- its part was gone by an abort, or here
abbrev pub WasHere : Shard → TxId → Type 0
WasHere s t = (is_doomed (stage_of s.local t) ≡ true) ⊎ (is_present (stage_of s.local t) ≡ true)

-- ---- no more parts, and no more aborts

pub record Fewer (s u : Shard) : Type 0 where
  pub present : (t : TxId) → is_present (stage_of u.local t) ≡ true → is_present (stage_of s.local t) ≡ true
  pub doomed : (t : TxId) → is_doomed (stage_of u.local t) ≡ true → is_doomed (stage_of s.local t) ≡ true

pub fewer_same : (s u : Shard) → u.local.parts ≡ s.local.parts → Fewer s u
fewer_same s u e = record {
  present = λ t h. subst (λ z. is_present (stage_in z t) ≡ true) e h;
  doomed = λ t h. subst (λ z. is_doomed (stage_in z t) ≡ true) e h;
}

pub present_back : (set : List TxId) (d : Option TxId) (parts : Table Held) (t : TxId) → is_present (stage_in (gone_in set d parts) t) ≡ true → is_present (stage_in parts t) ≡ true
present_back set d parts t h = at (is_present (stage_in parts t)) refl
  where
    at : (b : Bool) → is_present (stage_in parts t) ≡ b → is_present (stage_in parts t) ≡ true
    at true e = e
    at false e = absurd (both_ways _ (absent_go set d t parts e) h)

undoomed : (o : Option Stage) → is_doomed (gone_by None o) ≡ true → ⊥
undoomed None h = both_ways false refl h
undoomed (Some st) h = both_ways false refl h

doomed_back : (set : List TxId) (parts : Table Held) (t : TxId) → is_doomed (stage_in (gone_in set None parts) t) ≡ true → is_doomed (stage_in parts t) ≡ true
doomed_back set parts t h = at (tx_in t set) refl
  where
    at : (b : Bool) → tx_in t set ≡ b → is_doomed (stage_in parts t) ≡ true
    at true i = absurd (undoomed (stage_in parts t) (subst (λ o. is_doomed o ≡ true) (stage_own set None t parts i) h))
    at false i = subst (λ o. is_doomed o ≡ true) (stage_other set None t parts i) h

pub fewer_finished : (s u : Shard) (tx : TxId) → u.local.parts ≡ gone_in (tx ∷ []) None s.local.parts → Fewer s u
fewer_finished s u tx e = record {
  present = λ t h. present_back (tx ∷ []) None s.local.parts t (subst (λ z. is_present (stage_in z t) ≡ true) e h);
  doomed = λ t h. doomed_back (tx ∷ []) s.local.parts t (subst (λ z. is_doomed (stage_in z t) ≡ true) e h);
}

-- who is taken away by an abort was here
pub rolled_doomed : (l : Local) (u t : TxId) → is_doomed (stage_of (roll_back u l) t) ≡ true → (is_doomed (stage_of l t) ≡ true) ⊎ (is_present (stage_of l t) ≡ true)
rolled_doomed l u t h = at (tx_in t (doomed_here l u)) refl
  where
    at : (b : Bool) → tx_in t (doomed_here l u) ≡ b → (is_doomed (stage_of l t) ≡ true) ⊎ (is_present (stage_of l t) ≡ true)
    at true i = inr (in_filter (λ v. is_present (stage_of l v)) t (doomed_by l u) i).1
    at false i = inl (subst (λ o. is_doomed o ≡ true) (stage_other (doomed_here l u) (Some u) t l.parts i) h)

-- ---- nothing speaks against any undecided request still

no_doom : (o : Option Stage) → is_doomed o ≡ false → doom_by o ≡ None
no_doom None e = refl
no_doom (Some Active) e = refl
no_doom (Some Closed) e = refl
no_doom (Some (Gone None)) e = refl
no_doom (Some (Gone (Some d))) e = absurd (both_ways true e refl)

is_doom : (o : Option Stage) → doom_by o ≡ None → is_doomed o ≡ false
is_doom None e = refl
is_doom (Some Active) e = refl
is_doom (Some Closed) e = refl
is_doom (Some (Gone None)) e = refl
is_doom (Some (Gone (Some d))) e = absurd (none_some d (sym e))

-- each undecided request was one, with the same votes
abbrev Requests : Shard → Shard → Type 0
Requests s u = (t : TxId) (q : Request) → tx_get t u.requests ≡ Some q → q.state ≡ Undecided → (p : Request) × (tx_get t s.requests ≡ Some p) × (p.state ≡ Undecided) × (first_no p.votes ≡ first_no q.votes)

calm_still : (s u : Shard) → ((t : TxId) → is_doomed (stage_of u.local t) ≡ true → is_doomed (stage_of s.local t) ≡ true) → Requests s u → IsCalm s → IsCalm u
calm_still s u d r c t q g e =
    let p = r t q g e in
    let w = c t p.0 p.1 p.2 in
    (sym p.3 ∙ w.0, no_doom (stage_of u.local t) (false_from_ne_true _ (λ h. both_ways _ (is_doom (stage_of s.local t) w.1) (d t h))))

-- ---- from the beginning of an entry

-- the parts that are here were here, or nothing speaks against any undecided request
pub record Stays (s0 s : Shard) : Type 0 where
  pub here : ((t : TxId) → is_present (stage_of s.local t) ≡ true → is_present (stage_of s0.local t) ≡ true) ⊎ IsCalm s
  pub doomed : (t : TxId) → is_doomed (stage_of s.local t) ≡ true → WasHere s0 t

stays_fewer : (s0 s u : Shard) → Fewer s u → Requests s u → Stays s0 s → Stays s0 u
stays_fewer s0 s u f r k = record {
  here = ⊎_elim (λ p. inl (λ t h. p t (f.present t h))) (λ c. inr (calm_still s u f.doomed r c)) k.here;
  doomed = λ t h. k.doomed t (f.doomed t h);
}

stays_rolled : (s0 s u : Shard) (tx : TxId) → u.local ≡ roll_back tx s.local → ((t : TxId) → is_present (stage_of s.local t) ≡ true → is_present (stage_of s0.local t) ≡ true) → Stays s0 s → Stays s0 u
stays_rolled s0 s u tx e p k = record {
  here = inl (λ t h. p t (present_back (doomed_here s.local tx) (Some tx) s.local.parts t (subst (λ (l : Local). is_present (stage_of l t) ≡ true) e h)));
  doomed = λ t h. ⊎_elim (λ d. k.doomed t d) (λ i. inr (p t i)) (rolled_doomed s.local tx t (subst (λ (l : Local). is_doomed (stage_of l t) ≡ true) e h));
}

-- ---- what is due

same_requests : (s u : Shard) → u.requests ≡ s.requests → Requests s u
same_requests s u r t q g e = (q, subst (λ z. tx_get t z ≡ Some q) r g, e, refl)

ruled_requests : (s u : Shard) (tx : TxId) (q : Request) (r : Ruling) → u.requests ≡ (with_ruling tx q r s).requests → tx_get tx s.requests ≡ Some q → ((ruled_request r q).state ≡ Undecided → (q.state ≡ Undecided) × (first_no q.votes ≡ first_no (ruled_request r q).votes)) → Requests s u
ruled_requests s u tx q r e g k t x f n = at (get_set tx t (ruled_request r q) x s.requests (subst (λ z. tx_get t z ≡ Some x) e f))
  where
    at : Set_or_old tx t (ruled_request r q) x (tx_get t s.requests) → (p : Request) × (tx_get t s.requests ≡ Some p) × (p.state ≡ Undecided) × (first_no p.votes ≡ first_no x.votes)
    at (inl c) = let w = k (ap (λ z. z.state) (sym c.1) ∙ n) in (q, subst (λ z. tx_get z s.requests ≡ Some q) (sym c.0) g, w.0, w.1 ∙ ap (λ z. first_no z.votes) (sym c.1))
    at (inr c) = (x, c.1, n, refl)

stays_vote : (s0 s : Shard) (tx : TxId) (v : Voter) (vote : Vote) → Stays s0 s → Stays s0 (finish_reader tx vote (with_vote s tx v vote))
stays_vote s0 s tx v Yes k = let u = with_vote s tx v Yes in stays_fewer s0 s u (fewer_same s u refl) (same_requests s u refl) k
stays_vote s0 s tx v Read k = let u = finish_reader tx Read (with_vote s tx v Read) in stays_fewer s0 s u (fewer_finished s u tx refl) (same_requests s u refl) k
stays_vote s0 s tx v (No why) k = let u = with_vote s tx v (No why) in stays_fewer s0 s u (fewer_same s u refl) (same_requests s u refl) k

stays_ruled : (s0 s : Shard) (tx : TxId) (q : Request) (r : Ruling) → tx_get tx s.requests ≡ Some q → RuledBy s tx q (Some r) → Stays s0 s → Stays s0 (do_ruling tx r (with_ruling tx q r s))
stays_ruled s0 s tx q _ g (commit {parts = parts}) k =
    let u = do_ruling tx (CommitVerdict parts) (with_ruling tx q (CommitVerdict parts) s) in
    stays_fewer s0 s u (fewer_same s u refl) (ruled_requests s u tx q (CommitVerdict parts) refl g (λ e. absurd cc)) k
stays_ruled s0 s tx q _ g (acknowledge c) k =
    let u = do_ruling tx Acknowledge (with_ruling tx q Acknowledge s) in
    stays_fewer s0 s u (fewer_finished s u tx refl) (ruled_requests s u tx q Acknowledge refl g (λ e. absurd cc)) k
stays_ruled s0 s tx q _ g (abort {cause = cause} {to = to} d e) k =
    stays_rolled s0 s (do_ruling tx (AbortVerdict cause to) (with_ruling tx q (AbortVerdict cause to) s)) tx refl (⊎_elim (λ p. p) (λ c. absurd (opposed s tx q cause (c tx q g d) e)) k.here) k
stays_ruled s0 s tx q _ g end k =
    let u = do_ruling tx EndVerdict (with_ruling tx q EndVerdict s) in
    stays_fewer s0 s u (fewer_same s u refl) (ruled_requests s u tx q EndVerdict refl g (λ e. (e, refl))) k

stays_due : (s0 : Shard) → KeptByDue (Stays s0)
stays_due s0 s u (commits tx c d) k = stays_fewer s0 s u (fewer_finished s u tx refl) (same_requests s u refl) k
stays_due s0 s _ (votes tx v vote g e) k = stays_vote s0 s tx v vote k
stays_due s0 s _ (rules tx q r g e) k = stays_ruled s0 s tx q r g (subst (RuledBy s tx q) e (ruled_by s tx q q.state refl)) k

stays_finish : (s0 x : Shard) → Stays s0 x → Stays s0 (finish x)
stays_finish s0 x k = let d = settled (Stays s0) x (stays_due s0) k in record { here = d.here; doomed = d.doomed }

-- ---- what an event does first

stays_self : (s : Shard) → Stays s s
stays_self s = record { here = inl (λ t h. h); doomed = λ t h. inl h }

stays_by : (s u : Shard) → Fewer s u → Stays s u
stays_by s u f = record { here = inl f.present; doomed = λ t h. inl (f.doomed t h) }

rolled_by : (s u : Shard) (tx : TxId) → u.local ≡ roll_back tx s.local → Stays s u
rolled_by s u tx e = stays_rolled s s u tx e (λ t h. h) (stays_self s)

-- a part that closes
fewer_closed : (s u : Shard) (tx : TxId) → stage_of s.local tx ≡ Some Active → u.local.parts ≡ closed_in tx s.local.parts → Fewer s u
fewer_closed s u tx a e = record {
  present = λ t h. by_name (λ o. is_present o ≡ true) t (λ z. z) (λ z. subst (λ o. is_present o ≡ true) (sym a) refl) (subst (λ z. is_present (stage_in z t) ≡ true) e h);
  doomed = λ t h. by_name (λ o. is_doomed o ≡ true) t (λ z. z) (λ z. absurd (both_ways false refl z)) (subst (λ z. is_doomed (stage_in z t) ≡ true) e h);
}
  where
    by_name : (P : Option Stage → Type 0) (t : TxId) → (P (stage_of s.local t) → P (stage_of s.local t)) → (P (Some Closed) → P (stage_of s.local tx)) → P (stage_in (closed_in tx s.local.parts) t) → P (stage_of s.local t)
    by_name P t k c p = at (tx_same tx t) refl
      where
        at : (b : Bool) → tx_same tx t ≡ b → P (stage_of s.local t)
        at true f = let z = tx_true tx t f in subst (λ v. P (stage_of s.local v)) z (c (subst P (stage_closed s.local.parts tx a) (subst (λ v. P (stage_in (closed_in tx s.local.parts) v)) (sym z) p)))
        at false f = subst P (closed_other s.local.parts tx t f) p

new_doomed : (tx t : TxId) (birth : Birth) (parts : Table Held) (o : Option Held) → is_doomed (stage_in (new_part tx birth o parts) t) ≡ true → is_doomed (stage_in parts t) ≡ true
new_doomed tx t birth parts (Some h) d = d
new_doomed tx t birth parts None d = at (tx_same t tx) refl
  where
    got : tx_get t (tx_put tx (active_part birth) parts) ≡ cond (tx_same t tx) (Some (active_part birth)) (tx_get t parts)
    got = get_put tx t (active_part birth) parts

    at : (b : Bool) → tx_same t tx ≡ b → is_doomed (stage_in parts t) ≡ true
    at true e = absurd (both_ways _ (ap (λ o. is_doomed (stage_by o)) (got ∙ cond-true (tx_same t tx) (Some (active_part birth)) (tx_get t parts) e)) d)
    at false e = subst (λ o. is_doomed (stage_by o) ≡ true) (got ∙ cond-false (tx_same t tx) (Some (active_part birth)) (tx_get t parts) e) d

performed_doomed : (l : Local) (tx t : TxId) (birth : Birth) (op : Op) → is_doomed (stage_of (performed tx birth op l) t) ≡ true → is_doomed (stage_of l t) ≡ true
performed_doomed l tx t birth op h =
    new_doomed tx t birth l.parts (tx_get tx l.parts) (subst (λ z. is_doomed (stage_in z t) ≡ true) (written_parts tx (writes_of op (value_at (key_of op) l.records)) (locked tx birth op l)) h)

stays_answers : (s : Shard) (tx : TxId) (birth : Birth) (seen : Option ℕ) (op : Op) (a : Answer) (l : Local) → OpIs s.local tx birth seen op (OpAnswers a l) → IsCalm s → Stays s (record s { local = l })
stays_answers s tx birth seen op _ _ (performs f e) c =
    let u = record s { local = performed tx birth op s.local } in
    record {
      here = inr (calm_still s u (λ t h. performed_doomed s.local tx t birth op h) (same_requests s u refl) c);
      doomed = λ t h. inl (performed_doomed s.local tx t birth op h);
    }

stays_dies : (s : Shard) (tx : TxId) (birth : Birth) (seen : Option ℕ) (op : Op) (c : AbortCause) (l : Local) → OpIs s.local tx birth seen op (OpDies c l) → Stays s (record s { local = l })
stays_dies s tx birth seen op c _ dies = stays_by s (record s { local = s.local }) (fewer_same s (record s { local = s.local }) refl)
stays_dies s tx birth seen op c _ rolls = rolled_by s (record s { local = roll_back tx s.local }) tx refl

stays_without : (s : Shard) (tx : TxId) (b : Bool) → Stays s (with_local (rolled_back_if b tx) s)
stays_without s tx true = rolled_by s (with_local (rolled_back_if true tx) s) tx refl
stays_without s tx false = stays_by s (with_local (rolled_back_if false tx) s) (fewer_same s (with_local (rolled_back_if false tx) s) refl)

stays_dropped : (s u : Shard) (tx : TxId) (b : Bool) → u.requests ≡ s.requests → ((t : TxId) → stage_of u.local t ≡ stage_of (rolled_back_if b tx s.local) t) → Stays s u
stays_dropped s u tx b r e =
    let m = with_local (rolled_back_if b tx) s in
    stays_fewer s m u (record { present = λ t h. subst (λ o. is_present o ≡ true) (e t) h; doomed = λ t h. subst (λ o. is_doomed o ≡ true) (e t) h }) (same_requests m u r) (stays_without s tx b)

pub stays_step : (s x : Shard) {e : Event} {o : Outcome} → Step s e o x → IsCalm s → Stays s x
stays_step s _ (op_dies tx birth nth seen op cause l g) c = stays_dies s tx birth seen op cause l (reply_is s.shard s.local tx birth seen op _ g)
stays_step s _ (op_answers tx birth nth seen op answer l g) c = stays_answers s tx birth seen op answer l (reply_is s.shard s.local tx birth seen op _ g) c
stays_step s x (request_refused tx ts cause g) c = stays_self s
stays_step s x (request_doomed tx ts doom g) c = stays_self s
stays_step s x (request_again tx ts f g) c = stays_self s
stays_step s x (request_closes tx ts f g) c = stays_by s x (fewer_closed s x tx g refl)
stays_step s x (looks_well tx f) c = stays_self s
stays_step s x (looks_ill tx cause d f) c = stays_self s
stays_step s x (drops tx stage g) c = stays_dropped s x tx (is_present (stage_of s.local tx)) refl (λ t. stage_marked tx t (rolled_back_if (is_present (stage_of s.local tx)) tx s.local).parts)
stays_step s x (prepare_closes tx home seen stamp g) c = stays_by s x (fewer_closed s x tx g refl)
stays_step s x (decision_comes tx home false stamp g) c = rolled_by s x tx refl
stays_step s x _ c = stays_by s x (fewer_same s x refl)

-- ---- an entry

doomed_restored : (s : Shard) (epoch : ℕ) (log : List LogRecord) (t : TxId) → is_doomed (stage_of (revived s epoch log).local t) ≡ true → ⊥
doomed_restored s epoch log t h = at (tx_in t (in_doubt s.shard log)) refl
  where
    at : (b : Bool) → tx_in t (in_doubt s.shard log) ≡ b → ⊥
    at true i = both_ways _ (ap is_doomed (restored_closed (in_doubt s.shard log) t i)) h
    at false i = both_ways _ (ap is_doomed (restored_none (in_doubt s.shard log) t i)) h

pub doomed_made : (log : List LogRecord) (s x : Shard) {e : Event} {o : Outcome} (t : TxId) → Makes log s e o x → IsCalm s → is_doomed (stage_of x.local t) ≡ true → WasHere s t
doomed_made log s _ t (by_event g (finishes {t = x} u h)) c d = (stays_finish s x (stays_step s x h c)).doomed t d
doomed_made log s _ t (by_event g (stops u)) c d = inl d
doomed_made log s _ t (by_flush n u f) c d = (stays_finish s (with_durable n s) (stays_by s (with_durable n s) (fewer_same s (with_durable n s) refl))).doomed t d
doomed_made log s _ t (by_failure n u f) c d = inl d
doomed_made log s _ t (by_restart epoch kept u r) c d = absurd (doomed_restored s epoch (up_to_restart s.run epoch log) t d)

-- ---- along a history

pub doomed_was : {splits : List ℕ} {before after : List (List LogRecord)} {h : History} → LegalFrom splits before h after → (pre : History) (e : Placed) (post : History) → pre ++ e ∷ post ≡ h
    → (n : ℕ) → n < shard_count splits → (t : TxId) → is_doomed (stage_of (state_at before after n (pre ++ e ∷ [])).local t) ≡ true → WasHere (state_at before after n pre) t
doomed_was {splits} {before} {after} {h} l pre e post q n i t =
    each_shard (λ k z. is_doomed (stage_of z.local t) ≡ true → WasHere (state_at before after k pre) t) before after e pre here n (λ d. inl d)
  where
    w : Next splits before after h pre e
    w = next_at splits before after h pre e post l.legal q

    here : is_doomed (stage_of (state_at before after e.0 (pre ++ e ∷ [])).local t) ≡ true → WasHere (state_at before after e.0 pre) t
    here d =
        let s = state_at before after e.0 pre in
        doomed_made (log_of after e.0) s (event_state (log_of after e.0) s (e.1).event (e.1).outcome) t (makes (log_of after e.0) s (e.1).event (e.1).outcome ((w.split).enters).event)
        (caused_front l pre (e ∷ post) e.0 q w.inside).calm (subst (λ (z : Shard). is_doomed (stage_of z.local t) ≡ true) (w.split).next d)
