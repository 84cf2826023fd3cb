-- Each event keeps that who is out is never committed.
use Rattle.std.proofs.Common.{◌≡◌, ◌⊎◌, inl, inr, ⊎_elim, refl, sym, ap, subst, ◌∙◌, ℕ, true, false, cond, Bool, ◌&&◌, List, [], ◌∷◌, Option, Some, None}
use Rattle.std.specs.Prelude.{⊤}
use Rattle.std.proofs.lemmas.Bool.{both_ways, false_from_ne_true}
use Rattle.clv_base.specs.declared.names.TxId.{TxId}
use Rattle.clv_base.specs.declared.causes.AbortCause.{AbortCause}
use Rattle.clv_base.specs.declared.causes.Vote.TheVariants.{Read}
use Rattle.clv_base.specs.declared.logs.LogRecord.TheVariants.{Commit}
use Rattle.clv_base.specs.declared.state.Voter.{Voter}
use Rattle.clv_base.specs.declared.state.Request.{Request}
use Rattle.clv_base.specs.declared.state.RequestState.TheVariants.{Undecided}
use Rattle.clv_base.specs.declared.state.Stage.TheVariants.{Active, Closed}
use Rattle.clv_base.specs.Orders.{tx_same, tx_get, tx_set, tx_put}
use Rattle.clv_base.specs.Logs.{committed_in, prepared_in, prepare_of}
use Rattle.clv_base.specs.State.{Shard, Local, is_present, with_local}
use Rattle.clv_base.specs.Undo.{stage_of, doomed_here, roll_back}
use Rattle.clv_base.specs.Facts.{facts_of, has_durable_commit, is_waiting}
use Rattle.clv_base.specs.Coordinator.{others, new_request, with_vote_of, with_done_of}
use Rattle.clv_base.specs.Due.{append_log}
use Rattle.clv_base.specs.Backs.{count_after, standing_numbers}
use Rattle.clv_base.proofs.SameNames.{tx_true}
use Rattle.law_base.proofs.Changed.{none_some, some_same, get_set}
use Rattle.law_base.proofs.Commits.{committed_keeps}
use Rattle.law_base.proofs.Tables.{stage_in, is_pair, get_put}
use Rattle.history_cases.proofs.Uncommitting.{rolled as rolled_commits}
use Rattle.law_base.proofs.Stages.{absent_go, stage_closed, closed_other}
use Rattle.fate_laws.proofs.Homes.ShardKnowsHomes.{still_not, new_commit}
use Rattle.fate_laws.proofs.Logs.WhatAddsNoPrepare.{prepare_from}
use Rattle.clv_base.specs.declared.names.Birth.{Birth}
use Rattle.clv_base.specs.declared.ops.Op.{Op}
use Rattle.clv_base.specs.declared.ops.Answer.{Answer}
use Rattle.clv_base.specs.declared.messages.Message.TheVariants.{Prepare as PrepareMessage, Decide}
use Rattle.clv_base.specs.declared.events.Event.{Event}
use Rattle.clv_base.specs.declared.events.Event.TheVariants.{Op as OpEvent, Request as RequestEvent, Drop, Deliver}
use Rattle.clv_base.specs.declared.events.Outcome.{Outcome}
use Rattle.clv_base.specs.declared.events.Outcome.TheVariants.{Answered, Asked}
use Rattle.clv_base.specs.Participant.{asked_voter}
use Rattle.clv_base.specs.OneShard.{OpDies, rolled_back_if, close_part, closed_in, without_part}
use Rattle.clv_base.specs.Events.{is_alone, coordinate, owe_vote, with_votes, with_done}
use Rattle.history_cases.proofs.Stepping.{Step, op_dies, op_answers, rolls_back, request_refused, request_doomed, request_again, request_new, request_closes, looks_well, looks_ill, drops, prepare_closes, prepare_again, vote_counts, decision_comes, done_counts}
use Rattle.law_base.proofs.LockRows.{Rows}
use Rattle.shard_laws.proofs.Order.ChangesKeepOrder.{prepare_some}
use Rattle.history_laws.proofs.Entries.WhatOperationsDo.{OpIs, dies, rolls, reply_is}
use Rattle.fate_laws.proofs.Logs.LogOnlyGrows.{inside_step}
use Rattle.fate_laws.proofs.Parts.OthersCloseOrGo.{calm_step, was_there}
use Rattle.fate_laws.proofs.Logs.WhatPreparesOrCommits.{Commits, alone, decided, step_prepares, step_commits}
use Rattle.fate_laws.proofs.CommitsGoDownwards.{down_step, Owes as OwesDown}
use Rattle.fate_laws.proofs.Homes.EventsKeepHomes.{put_get, awaits}
use Rattle.fate_laws.proofs.Parts.CommitsHaveTheirParts.{taken_closed}
use Rattle.fate_laws.proofs.AbortedAreCommittedNowhere.EventsKeepDoomedUncommitted.{whose_request}
use Rattle.fate_laws.proofs.FallenAreUncommitted.PreparedPairsAreListed.{Lined, lined_more, lined_closed}
use Rattle.fate_laws.proofs.FallenAreUncommitted.OutIsLost.{Absent, Out, Lost, Barred, lost_inactive, barred_next}
use Rattle.fate_laws.proofs.FallenAreUncommitted.DueKeepsOutUncommitted.{plain_commit, out_open}
use Rattle.fate_laws.proofs.FallenAreUncommitted.StepsKeepOutUncommitted.{barred_same, barred_rolled, barred_back, barred_marked, barred_performed}
use Rattle.protocol_laws.proofs.LogsInOrder.OneRecordMore.{prepared_there}

abbrev pub Owes : (TxId → Type 0) → (TxId → Type 0) → (TxId → Type 0) → (TxId → Type 0) → Shard → Event → Outcome → Type 0
Owes K V O Q s (OpEvent tx birth nth seen op) o =
    (committed_in s.local.log tx ≡ false) × (prepared_in s.local.log tx ≡ false) × ((a : Answer) (ep : ℕ) → o ≡ Answered a ep → V tx ⊎ Out O s tx → ⊥) × ((v : Voter) → tx_get tx s.voters ≡ Some v → v.vote ≡ Some Read → ⊥)
Owes K V O Q s (RequestEvent tx ts) o = o ≡ Asked → Q tx
Owes K V O Q s (Drop tx) o = (committed_in s.local.log tx ≡ false) × ((p : ℕ × List TxId) → prepare_of s.local.log tx ≡ Some p → K tx)
Owes K V O Q s (Deliver (Decide to tx home true) stamp) o = committed_in s.local.log tx ≡ false → stage_of s.local tx ≡ Some Closed → V tx ⊎ Out O s tx → ⊥
Owes K V O Q s (Deliver (Decide to tx home false) stamp) o = committed_in s.local.log tx ≡ false → K tx ⊎ V tx
Owes K V O Q s _ o = ⊤

-- ---- tables

put_rows : (Q : TxId → Type 0) (s : Shard) (u : TxId) (ts : List (ℕ × ℕ)) → Q u → ((t : TxId) (q : Request) → tx_get t s.requests ≡ Some q → q.state ≡ Undecided → Q t) → (t : TxId) (q : Request) → tx_get t (tx_put u (new_request ts Undecided) s.requests) ≡ Some q → q.state ≡ Undecided → Q t
put_rows Q s u ts k rw t q g e =
    ⊎_elim (λ a. subst Q (sym a.0) k) (λ a. rw t q a e) (put_get u t (new_request ts Undecided) q s.requests (tx_same t u) refl (sym (get_put u t (new_request ts Undecided) s.requests) ∙ g))

set_rows : (Q : TxId → Type 0) (s : Shard) (u : TxId) (w q0 : Request) → tx_get u s.requests ≡ Some q0 → w.state ≡ q0.state → ((t : TxId) (q : Request) → tx_get t s.requests ≡ Some q → q.state ≡ Undecided → Q t)
    → (t : TxId) (q : Request) → tx_get t (tx_set u w s.requests) ≡ Some q → q.state ≡ Undecided → Q t
set_rows Q s u w q0 g0 k rw t q g e =
    ⊎_elim (λ a. subst Q (sym a.0) (rw u q0 g0 (sym k ∙ subst (λ (z : Request). z.state ≡ Undecided) a.1 e))) (λ a. rw t q a.1 e) (get_set u t w q s.requests g)

abbrev Reads : Shard → TxId → Type 0
Reads s t = (prepared_in s.local.log t ≡ false) × (stage_of s.local t ≡ Some Active → ⊥)

owed_readers : (s : Shard) (u : TxId) (home seen : ℕ) → ((t : TxId) (v : Voter) → tx_get t s.voters ≡ Some v → v.vote ≡ Some Read → Reads s t)
    → (t : TxId) (v : Voter) → tx_get t (tx_put u (asked_voter home seen (tx_get u s.voters)) s.voters) ≡ Some v → v.vote ≡ Some Read → Reads s t
owed_readers s u home seen rd t v g r = by_name (tx_same t u) refl (sym (get_put u t (asked_voter home seen (tx_get u s.voters)) s.voters) ∙ g)
  where
    own : (o : Option Voter) → tx_get u s.voters ≡ o → (asked_voter home seen o).vote ≡ Some Read → Reads s u
    own None e f = absurd (none_some Read f)
    own (Some w) e f = rd u w e f

    by_name : (b : Bool) → tx_same t u ≡ b → cond b (Some (asked_voter home seen (tx_get u s.voters))) (tx_get t s.voters) ≡ Some v → Reads s t
    by_name true e f = subst (Reads s) (sym (tx_true t u e)) (own (tx_get u s.voters) refl (ap (λ (z : Voter). z.vote) (some_same (asked_voter home seen (tx_get u s.voters)) v f) ∙ r))
    by_name false e f = rd t v f r

-- ---- a part closes

barred_closes : (K V O Q : TxId → Type 0) (s x : Shard) (u : TxId) (home : ℕ) (one : Bool) {e : Event} {o : Outcome} → Step s e o x → ((t : TxId) (birth : Birth) (nth : ℕ) (seen : Option ℕ) (op : Op) → e ≡ OpEvent t birth nth seen op → ⊥)
    → x.local ≡ close_part u home one s.local → OwesDown s e → stage_of s.local u ≡ Some Active → ((t : TxId) (p : ℕ × List TxId) → prepare_of x.local.log t ≡ Some p → O t × (Q t → p.0 ≡ s.shard))
    → ((t : TxId) (q : Request) → tx_get t x.requests ≡ Some q → q.state ≡ Undecided → Q t) → ((t : TxId) (v : Voter) → tx_get t x.voters ≡ Some v → v.vote ≡ Some Read → Reads s t)
    → ((t : TxId) → Commits s t e o → t ≡ u) → Barred K V O Q s → Barred K V O Q x
barred_closes K V O Q s x u home one h no_op e wd a sx rw rd mine b =
    barred_next K V O Q s x b
    (record {
      inside = inside_step s x h;
      lined = subst (Lined b.part) (sym e) (lined_closed b.part s.local u home one a (false_from_ne_true _ (λ g. both_ways _ (b.gone u g).0 (subst (λ k. is_present k ≡ true) (sym a) refl))) b.lined);
      down = down_step s x h wd b.down;
      found = λ t p k. ⊎_elim (λ z. inl z) (λ z. inr (z.was, subst (λ o. is_present o ≡ true) (sym z.now) refl)) (step_prepares s x t p h k);
      sought = sx;
      rows = rw;
      readers = λ t v g r.
          let k = rd t v g r in (
            false_from_ne_true _ (λ z. let y = prepare_some x.local.log t z in ⊎_elim (λ f. both_ways _ k.0 (prepared_there s.local.log t y.0 f)) (λ f. k.1 f.was) (step_prepares s x t y.0 h y.1)),
            (λ z. k.1 ((calm_step s x t h (no_op t)).active z)),
          );
      stay = λ t w. false_from_ne_true _ (λ c. ⊎_elim (λ z. both_ways _ (out_open K V O Q s t b w) z) (λ z. was_active t w (mine t z)) (step_commits s x t h c));
      away = λ t w k. was_there s x t (calm_step s x t h (no_op t)) (stage_of x.local t) refl k;
      goes = λ t p k o f. absurd (by_name t (tx_same u t) refl k (subst (λ (l : Local). is_present (stage_of l t) ≡ false) e o.0));
    })
  where
    was_active : (t : TxId) → V t ⊎ Out O s t → t ≡ u → ⊥
    was_active t (inl v) z = lost_inactive K V O Q s u b (subst V z v) a
    was_active t (inr o) z = both_ways _ (subst (Absent s) z o.0) (subst (λ k. is_present k ≡ true) (sym a) refl)

    by_name : (t : TxId) (d : Bool) → tx_same u t ≡ d → is_present (stage_of s.local t) ≡ true → is_present (stage_in (closed_in u s.local.parts) t) ≡ false → ⊥
    by_name t true f k n = both_ways _ (subst (λ z. is_present (stage_in (closed_in u s.local.parts) z) ≡ false) (sym (tx_true u t f)) n) (subst (λ z. is_present z ≡ true) (sym (stage_closed s.local.parts u a)) refl)
    by_name t false f k n = both_ways _ n (ap is_present (closed_other s.local.parts u t f) ∙ k)

prepares_none : (s : Shard) {e : Event} {o : Outcome} (v u : TxId) (to home seen stamp : ℕ) → Commits s v e o → e ≡ Deliver (PrepareMessage to u home seen) stamp → v ≡ u
prepares_none s v u to home seen stamp (alone xs k n) z = absurd cc
prepares_none s v u to home seen stamp (decided h st) z = absurd cc

-- ---- a COMMIT comes

barred_committed : (K V O Q : TxId → Type 0) (s : Shard) (u : TxId) → ((b : TxId) → is_pair s.local.pairs u b ≡ true → committed_in s.local.log b ≡ true) → (V u ⊎ Out O s u → ⊥) → Barred K V O Q s
    → Barred K V O Q (with_local (append_log (Commit u [] ∷ [])) s)
barred_committed K V O Q s u before out b =
    let x = with_local (append_log (Commit u [] ∷ [])) s in
    let more = Commit u [] ∷ [] in
    barred_next K V O Q s x b
    (record {
      inside = record { shard = refl; durable = refl; log = (more, refl) };
      lined = lined_more b.part s.local more (plain_commit b.part s.local u []) b.lined;
      down = λ a c k i. committed_keeps s.local.log more c (⊎_elim (λ z. b.down a c z i) (λ z. before c (subst (λ y. is_pair s.local.pairs y c ≡ true) z i)) (new_commit s.local.log u [] a k));
      found = λ t p h. inl (prepare_from s.local.log more t p refl h);
      sought = λ t p h. let g = prepare_from s.local.log more t p refl h in (b.sought t (prepared_there s.local.log t p g), (λ q. b.homes t p q g));
      rows = b.rows;
      readers = λ t v g r.
          let k = b.readers t v g r in
          (false_from_ne_true _ (λ h. let z = prepare_some x.local.log t h in both_ways _ k.0 (prepared_there s.local.log t z.0 (prepare_from s.local.log more t z.0 refl z.1))), k.1);
      stay = λ t w. false_from_ne_true _ (λ c. ⊎_elim (λ z. both_ways _ (out_open K V O Q s t b w) z) (λ z. out (subst (λ y. V y ⊎ Out O s y) z w)) (new_commit s.local.log u [] t c));
      away = λ t w h. h;
      goes = λ t p h o f. absurd (both_ways _ o.0 h);
    })

-- ---- each step

died : (K V O Q : TxId → Type 0) (s : Shard) (u : TxId) (birth : Birth) (seen : Option ℕ) (op : Op) (c : AbortCause) (l : Local) → OpIs s.local u birth seen op (OpDies c l) → committed_in s.local.log u ≡ false → prepared_in s.local.log u ≡ false → Barred K V O Q s → Barred K V O Q (record s { local = l })
died K V O Q s u birth seen op c _ dies o n b = barred_same K V O Q s (record s { local = s.local }) refl refl refl b.rows b.readers b
died K V O Q s u birth seen op c _ rolls o n b = barred_rolled K V O Q s u o (λ p a f. absurd (both_ways _ n (prepared_there s.local.log u p f))) b

dropped : (K V O Q : TxId → Type 0) (s : Shard) (u : TxId) (d : Bool) → committed_in s.local.log u ≡ false → ((p : ℕ × List TxId) → prepare_of s.local.log u ≡ Some p → K u) → Barred K V O Q s → Barred K V O Q (with_local (rolled_back_if d u) s)
dropped K V O Q s u true o k b = barred_rolled K V O Q s u o (λ p a f. inr (inr (inl (k p f)))) b
dropped K V O Q s u false o k b = barred_same K V O Q s (with_local (rolled_back_if false u) s) refl refl refl b.rows b.readers b

ruled_out : (K V O Q : TxId → Type 0) (s : Shard) (u : TxId) → committed_in s.local.log u ≡ false → K u ⊎ V u → is_present (stage_of s.local u) ≡ true → Barred K V O Q s → Barred K V O Q (with_local (roll_back u) s)
ruled_out K V O Q s u o w h b = barred_rolled K V O Q s u o (λ p a f. root p a f w) b
  where
    moved : (p : ℕ × List TxId) → Lost K V O s u p → Lost K V O (with_local (roll_back u) s) u p
    moved p (inl (a, c)) = absurd (both_ways _ c h)
    moved p (inr (inl (a, c))) = absurd (both_ways _ c h)
    moved p (inr (inr (inl k))) = inr (inr (inl k))
    moved p (inr (inr (inr (q, m, inl v)))) = inr (inr (inr (q, m, inl v)))
    moved p (inr (inr (inr (q, m, inr z)))) =
        inr (inr (inr (q, m, inr (absent_go (doomed_here s.local u) (Some u) q s.local.parts z.0, still_not (committed_in s.local.log q) (committed_in (roll_back u s.local).log q) (rolled_commits u s.local q) z.1, z.2))))

    root : (p : ℕ × List TxId) → is_present (stage_of (roll_back u s.local) u) ≡ false → prepare_of s.local.log u ≡ Some p → K u ⊎ V u → Lost K V O (with_local (roll_back u) s) u p
    root p a f (inl k) = inr (inr (inl k))
    root p a f (inr v) = moved p (b.why u p (inl v) f)

pub barred_step : (K V O Q : TxId → Type 0) (s x : Shard) {e : Event} {o : Outcome} → Step s e o x → (P : TxId → Birth → Bool → Type 0) → Rows P s.local.locks → ((p : TxId) (b : Birth) → P p b true → stage_of s.local p ≡ Some Closed) → OwesDown s e
    → ((t : TxId) (p : ℕ × List TxId) → prepare_of x.local.log t ≡ Some p → O t × (Q t → p.0 ≡ s.shard)) → Owes K V O Q s e o → Barred K V O Q s → Barred K V O Q x
barred_step K V O Q s _ (op_dies u birth nth seen op cause l g) P rows closed wd sx w b = died K V O Q s u birth seen op cause l (reply_is s.shard s.local u birth seen op _ g) w.0 w.1 b
barred_step K V O Q s _ (op_answers u birth nth seen op answer l g) P rows closed wd sx w b =
    barred_performed K V O Q s u birth nth seen op answer l (op_answers u birth nth seen op answer l g) g (reply_is s.shard s.local u birth seen op _ g) P rows closed w.1 w.0 (w.2 answer s.local.epoch refl) w.3 b
barred_step K V O Q s _ (rolls_back u nth seen upto f g) P rows closed wd sx w b = barred_back K V O Q s u (count_after upto (standing_numbers u s.journal)) g b
barred_step K V O Q s _ (request_refused u ts cause g) P rows closed wd sx w b = b
barred_step K V O Q s _ (request_doomed u ts doom g) P rows closed wd sx w b = b
barred_step K V O Q s _ (request_again u ts f0 g) P rows closed wd sx w b = b
barred_step K V O Q s _ (request_new u ts f0 g) P rows closed wd sx w b = barred_same K V O Q s (coordinate u ts s) refl refl refl (put_rows Q s u ts (w refl) b.rows) b.readers b
barred_step K V O Q s _ (request_closes u ts f0 g) P rows closed wd sx w b =
    barred_closes K V O Q s _ u s.shard (is_alone (others s.shard ts)) (request_closes u ts f0 g) (λ t birth nth seen op z. absurd cc) refl tt g sx (put_rows Q s u ts (w refl) b.rows) b.readers (λ t z. whose_request s t u ts z refl) b
barred_step K V O Q s _ (looks_well u g) P rows closed wd sx w b = b
barred_step K V O Q s _ (looks_ill u cause d g) P rows closed wd sx w b = b
barred_step K V O Q s _ (drops u stage g) P rows closed wd sx w b =
    barred_marked K V O Q (with_local (without_part u) s) u (dropped K V O Q s u (is_present (stage_of s.local u)) w.0 w.1 b)
barred_step K V O Q s _ (prepare_closes u home seen stamp g) P rows closed wd sx w b =
    barred_closes K V O Q s _ u home false (prepare_closes u home seen stamp g) (λ t birth nth seen op z. absurd cc) refl tt g sx b.rows (owed_readers s u home seen b.readers) (λ t z. prepares_none s t u s.shard home seen stamp z refl) b
barred_step K V O Q s _ (prepare_again u home seen stamp g) P rows closed wd sx w b = barred_same K V O Q s (owe_vote u home seen s) refl refl refl b.rows (owed_readers s u home seen b.readers) b
barred_step K V O Q s _ (vote_counts u from vote stamp q g c) P rows closed wd sx w b = barred_same K V O Q s (with_votes u from vote q s) refl refl refl (set_rows Q s u (with_vote_of from vote q) q g refl b.rows) b.readers b
barred_step K V O Q s _ (decision_comes u home true stamp g) P rows closed wd sx w b =
    let n = awaits s u true g in
    barred_committed K V O Q s u (wd n) (w n (taken_closed s u (is_waiting (facts_of s u)) (true && has_durable_commit (facts_of s u)) refl g)) b
barred_step K V O Q s _ (decision_comes u home false stamp g) P rows closed wd sx w b =
    let n = awaits s u false g in
    ruled_out K V O Q s u n (w n) (subst (λ z. is_present z ≡ true) (sym (taken_closed s u (is_waiting (facts_of s u)) (false && has_durable_commit (facts_of s u)) refl g)) refl) b
barred_step K V O Q s _ (done_counts u from stamp q g c) P rows closed wd sx w b = barred_same K V O Q s (with_done u from q s) refl refl refl (set_rows Q s u (with_done_of from q) q g refl b.rows) b.readers b
barred_step K V O Q s _ _ P rows closed wd sx w b = barred_same K V O Q s _ refl refl refl b.rows b.readers b
