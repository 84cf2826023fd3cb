-- What happens on a shard to a transaction that isn't the one that operates: its part only closes or goes, it gets no pairs, and keeps them
-- while it is closed; and it gets a PREPARE only as it closes.
use Rattle.std.proofs.Common.{◌≡◌, ◌⊎◌, inl, inr, ⊎_elim, refl, sym, ap, subst, ◌∙◌, ℕ, true, false, Bool, List, [], ◌∷◌, Option, Some, None}
use Rattle.std.proofs.lemmas.Bool.{both_ways, false_from_ne_true}
use Rattle.clv_base.specs.declared.names.TxId.{TxId}
use Rattle.clv_base.specs.declared.names.Birth.{Birth}
use Rattle.clv_base.specs.declared.ops.Op.{Op}
use Rattle.clv_base.specs.declared.ops.Answer.{Answer}
use Rattle.clv_base.specs.declared.causes.AbortCause.{AbortCause}
use Rattle.clv_base.specs.declared.causes.Vote.{Vote}
use Rattle.clv_base.specs.declared.causes.Vote.TheVariants.{Yes, Read, No}
use Rattle.clv_base.specs.declared.logs.LogRecord.TheVariants.{Commit, End}
use Rattle.clv_base.specs.declared.state.Stage.{Stage}
use Rattle.clv_base.specs.declared.state.Stage.TheVariants.{Active, Closed, Gone}
use Rattle.clv_base.specs.declared.state.Voter.{Voter}
use Rattle.clv_base.specs.declared.state.Request.{Request}
use Rattle.clv_base.specs.declared.state.Ruling.{Ruling}
use Rattle.clv_base.specs.declared.state.Ruling.TheVariants.{Commit as CommitVerdict, Acknowledge, Abort as AbortVerdict, End as EndVerdict}
use Rattle.clv_base.specs.declared.events.Event.{Event}
use Rattle.clv_base.specs.declared.events.Event.TheVariants.{Op as OpEvent}
use Rattle.clv_base.specs.declared.events.Outcome.{Outcome}
use Rattle.clv_base.specs.Orders.{tx_same, tx_in, tx_get}
use Rattle.clv_base.specs.declared.changes.Change.{Change}
use Rattle.clv_base.specs.Logs.{prepare_of, has_standing}
use Rattle.clv_base.specs.Needs.{writes_of, value_at, key_of}
use Rattle.clv_base.specs.State.{Shard, Local, is_present, with_local}
use Rattle.clv_base.specs.Undo.{stage_of, gone_in, pairs_without, doomed_here, roll_back}
use Rattle.clv_base.specs.Facts.{undecided_of}
use Rattle.clv_base.specs.Coordinator.{others}
use Rattle.clv_base.specs.OneShard.{OpDies, OpAnswers, written, locked, performed, rolled_back_if, close_part, closed_in, marked_in, violated_here}
use Rattle.clv_base.specs.Due.{finish_reader, with_vote, do_ruling, with_ruling, with_due_done}
use Rattle.clv_base.specs.Events.{is_alone, finish}
use Rattle.clv_base.proofs.SameNames.{tx_true, tx_self}
use Rattle.clv_base.specs.Backs.{count_after, standing_numbers}
use Rattle.law_base.proofs.Tables.{stage_by, stage_in, is_pair, add_from, add_keeps, without_pairs, pairs_stay}
use Rattle.law_base.proofs.Stages.{stage_own, active_back, closed_back, gone_out, stage_closed, closed_other, stage_marked, other_part}
use Rattle.history_laws.proofs.Entries.WhatOperationsDo.{OpIs, dies, rolls, performs, reply_is}
use Rattle.history_cases.proofs.Stepping.{Due, commits, votes, rules, KeptByDue, settled, Step, op_dies, op_answers, request_closes, drops, prepare_closes, decision_comes, rolls_back}
use Rattle.protocol_laws.proofs.LogOnlyGrows.DueGrowsLogs.{same}
use Rattle.fate_laws.proofs.Logs.LogOnlyGrows.{Inside, inside_self, inside_then, inside_due, inside_step}
use Rattle.fate_laws.proofs.Logs.WhatAddsNoPrepare.{NoMorePrepares, plain_more, rolled, op_answering, closes_with, gone_back}

-- its part was active, and is not
abbrev pub Newly : Shard → Shard → TxId → Type 0
Newly s t tx = (stage_of s.local tx ≡ Some Active) × (stage_of t.local tx ≡ Some Active → ⊥)

pub record Calm (s t : Shard) (tx : TxId) : Type 0 where
  pub inside : Inside s t
  pub pairs : (q : TxId) → is_pair t.local.pairs tx q ≡ true → is_pair s.local.pairs tx q ≡ true
  pub keeps : (q : TxId) → is_present (stage_of t.local tx) ≡ true → is_pair s.local.pairs tx q ≡ true → is_pair t.local.pairs tx q ≡ true
  pub prepares : (p : ℕ × List TxId) → prepare_of t.local.log tx ≡ Some p → (prepare_of s.local.log tx ≡ Some p) ⊎ Newly s t tx
  pub active : stage_of t.local tx ≡ Some Active → stage_of s.local tx ≡ Some Active
  pub closed : stage_of t.local tx ≡ Some Closed → (stage_of s.local tx ≡ Some Closed) ⊎ (stage_of s.local tx ≡ Some Active)

pub there_closed : (o : Option Stage) → o ≡ Some Closed → is_present o ≡ true
there_closed o e = subst (λ x. is_present x ≡ true) (sym e) refl

there_active : (o : Option Stage) → o ≡ Some Active → is_present o ≡ true
there_active o e = subst (λ x. is_present x ≡ true) (sym e) refl

-- who is there was there
pub was_there : (s t : Shard) (tx : TxId) → Calm s t tx → (o : Option Stage) → stage_of t.local tx ≡ o → is_present o ≡ true → is_present (stage_of s.local tx) ≡ true
was_there s t tx c None e h = absurd (both_ways false refl h)
was_there s t tx c (Some Active) e h = there_active (stage_of s.local tx) (c.active e)
was_there s t tx c (Some Closed) e h = ⊎_elim (λ k. there_closed (stage_of s.local tx) k) (λ k. there_active (stage_of s.local tx) k) (c.closed e)
was_there s t tx c (Some (Gone d)) e h = absurd (both_ways false refl h)

pub calm_then : (s t u : Shard) (tx : TxId) → Calm s t tx → Calm t u tx → Calm s u tx
calm_then s t u tx a b = record {
  inside = inside_then s t u a.inside b.inside;
  pairs = λ q i. a.pairs q (b.pairs q i);
  keeps = λ q c i. b.keeps q c (a.keeps q (was_there t u tx b (stage_of u.local tx) refl c) i);
  prepares = λ p e. ⊎_elim (λ f. ⊎_elim (λ g. inl g) (λ n. inr (n.0, λ h. n.1 (b.active h))) (a.prepares p f)) (λ n. inr (a.active n.0, n.1)) (b.prepares p e);
  active = λ h. a.active (b.active h);
  closed = λ h. ⊎_elim (λ c. a.closed c) (λ c. inr (a.active c)) (b.closed h);
}

-- ---- kinds of changes

pub calm_same : (s t : Shard) (tx : TxId) → Inside s t → t.local.parts ≡ s.local.parts → t.local.pairs ≡ s.local.pairs → NoMorePrepares s.local.log t.local.log → Calm s t tx
calm_same s t tx i e f k = record {
  inside = i;
  pairs = λ q h. subst (λ l. is_pair l tx q ≡ true) f h;
  keeps = λ q c h. subst (λ l. is_pair l tx q ≡ true) (sym f) h;
  prepares = λ p h. inl (k tx p h);
  active = λ h. subst (λ l. stage_in l tx ≡ Some Active) e h;
  closed = λ h. inl (subst (λ l. stage_in l tx ≡ Some Closed) e h);
}

calm_gone : (s t : Shard) (tx : TxId) (set : List TxId) (d : Option TxId) → Inside s t → t.local.parts ≡ gone_in set d s.local.parts → t.local.pairs ≡ pairs_without set s.local.pairs → NoMorePrepares s.local.log t.local.log → Calm s t tx
calm_gone s t tx set d i e f k = record {
  inside = i;
  pairs = λ q h. (without_pairs set s.local.pairs tx q (subst (λ l. is_pair l tx q ≡ true) f h)).0;
  keeps = λ q c h. subst (λ l. is_pair l tx q ≡ true) (sym f)
      (pairs_stay set s.local.pairs tx q
      (false_from_ne_true (tx_in tx set) (λ m. both_ways _ (ap is_present (stage_own set d tx s.local.parts m) ∙ gone_out d (stage_in s.local.parts tx)) (subst (λ l. is_present (stage_in l tx) ≡ true) e c))) h);
  prepares = λ p h. inl (k tx p h);
  active = λ h. (active_back set d tx s.local.parts (subst (λ l. stage_in l tx ≡ Some Active) e h)).1;
  closed = λ h. inl (closed_back set d tx s.local.parts (subst (λ l. stage_in l tx ≡ Some Closed) e h));
}

calm_rolled : (s : Shard) (tx u : TxId) → Inside s (with_local (roll_back u) s) → Calm s (with_local (roll_back u) s) tx
calm_rolled s tx u i = calm_gone s (with_local (roll_back u) s) tx (doomed_here s.local u) (Some u) i refl refl (rolled u s.local)

-- closing a part
close_case : (s t : Shard) (tx u : TxId) (home : ℕ) (one : Bool) (b : Bool) → tx_same u tx ≡ b → stage_of s.local u ≡ Some Active → Inside s t → t.local.parts ≡ closed_in u s.local.parts → t.local.pairs ≡ s.local.pairs
    → ((p : ℕ × List TxId) → prepare_of t.local.log tx ≡ Some p → (prepare_of s.local.log tx ≡ Some p) ⊎ (tx ≡ u)) → Calm s t tx
close_case s t tx u home one true e a i f g k =
    let same : u ≡ tx = tx_true u tx e in
    let act : stage_of s.local tx ≡ Some Active = subst (λ v. stage_of s.local v ≡ Some Active) same a in
    let now : stage_of t.local tx ≡ Some Closed = subst (λ l. stage_in l tx ≡ Some Closed) (sym f) (subst (λ v. stage_in (closed_in u s.local.parts) v ≡ Some Closed) same (stage_closed s.local.parts u a)) in
    record {
      inside = i;
      pairs = λ q h. subst (λ l. is_pair l tx q ≡ true) g h;
      keeps = λ q c h. subst (λ l. is_pair l tx q ≡ true) (sym g) h;
      prepares = λ p h. inr (act, λ z. differ (sym z ∙ now));
      active = λ h. act;
      closed = λ h. inr act;
    }
  where
    differ : Some Active ≡ Some Closed → ⊥
    differ z = absurd cc
close_case s t tx u home one false e a i f g k =
    let st : stage_of t.local tx ≡ stage_of s.local tx = ap (λ l. stage_in l tx) f ∙ closed_other s.local.parts u tx e in
    record {
      inside = i;
      pairs = λ q h. subst (λ l. is_pair l tx q ≡ true) g h;
      keeps = λ q c h. subst (λ l. is_pair l tx q ≡ true) (sym g) h;
      prepares = λ p h. ⊎_elim (λ x. inl x) (λ x. absurd (both_ways _ e (subst (λ v. tx_same u v ≡ true) (sym x) (tx_self u)))) (k p h);
      active = λ h. sym st ∙ h;
      closed = λ h. inl (sym st ∙ h);
    }

calm_close : (s : Shard) (tx u : TxId) (home : ℕ) (one : Bool) → stage_of s.local u ≡ Some Active → Inside s (with_local (close_part u home one) s) → Calm s (with_local (close_part u home one) s) tx
calm_close s tx u home one a i =
    close_case s (with_local (close_part u home one) s) tx u home one (tx_same u tx) refl a i refl refl
    (λ p h. ⊎_elim (λ x. inl x) (λ x. inr x.0) (closes_with s.local.log (has_standing s.local.log u) one u home (undecided_of s.local u) tx p h))

-- another's operation
written_parts : (tx : TxId) (w : Option (ℕ × Change)) (l : Local) → ((written tx w l).parts ≡ l.parts) × ((written tx w l).pairs ≡ l.pairs)
written_parts tx None l = (refl, refl)
written_parts tx (Some w) l = (refl, refl)

calm_performed : (s : Shard) (tx u : TxId) (birth : Birth) (op : Op) → (u ≡ tx → ⊥) → Inside s (record s { local = performed u birth op s.local }) → NoMorePrepares s.local.log (performed u birth op s.local).log
    → Calm s (record s { local = performed u birth op s.local }) tx
calm_performed s tx u birth op n i k =
    let t = record s { local = performed u birth op s.local } in
    let w = written_parts u (writes_of op (value_at (key_of op) s.local.records)) (locked u birth op s.local) in
    let no : tx_same tx u ≡ false = false_from_ne_true _ (λ h. n (sym (tx_true tx u h))) in
    let st : stage_of t.local tx ≡ stage_of s.local tx = ap (λ l. stage_in l tx) w.0 ∙ ap stage_by (other_part u birth s.local.parts tx (tx_get u s.local.parts) no) in
    record {
      inside = i;
      pairs = λ q h. ⊎_elim (λ x. x) (λ x. absurd (n (sym x))) (add_from u (violated_here s.local u op) s.local.pairs tx q (subst (λ l. is_pair l tx q ≡ true) w.1 h));
      keeps = λ q c h. subst (λ l. is_pair l tx q ≡ true) (sym w.1) (add_keeps u (violated_here s.local u op) s.local.pairs tx q h);
      prepares = λ p h. inl (k tx p h);
      active = λ h. sym st ∙ h;
      closed = λ h. inl (sym st ∙ h);
    }

calm_answers : (s : Shard) (tx u : TxId) (birth : Birth) (seen : Option ℕ) (op : Op) (a : Answer) (l : Local) → OpIs s.local u birth seen op (OpAnswers a l) → (u ≡ tx → ⊥) → Inside s (record s { local = l }) → NoMorePrepares s.local.log l.log
    → Calm s (record s { local = l }) tx
calm_answers s tx u birth seen op _ _ (performs f e) n i k = calm_performed s tx u birth op n i k

calm_dies : (s : Shard) (tx u : TxId) (birth : Birth) (seen : Option ℕ) (op : Op) (c : AbortCause) (l : Local) → OpIs s.local u birth seen op (OpDies c l) → Inside s (record s { local = l }) → Calm s (record s { local = l }) tx
calm_dies s tx u birth seen op c _ dies i = calm_same s _ tx i refl refl (λ t p h. h)
calm_dies s tx u birth seen op c _ rolls i = calm_rolled s tx u i

-- a drop
calm_marked : (s : Shard) (tx u : TxId) (l : Local) → Calm s (record s { local = l }) tx → Calm s (record s { local = record l { parts = marked_in u l.parts } }) tx
calm_marked s tx u l c =
    let st : stage_in (marked_in u l.parts) tx ≡ stage_in l.parts tx = stage_marked u tx l.parts in
    record {
      inside = record { shard = (c.inside).shard; durable = (c.inside).durable; log = (c.inside).log };
      pairs = c.pairs;
      keeps = λ q h i. c.keeps q (sym (ap is_present st) ∙ h) i;
      prepares = λ p h. ⊎_elim (λ x. inl x) (λ n. inr (n.0, λ z. n.1 (sym st ∙ z))) (c.prepares p h);
      active = λ h. c.active (sym st ∙ h);
      closed = λ h. c.closed (sym st ∙ h);
    }

calm_without : (s : Shard) (tx u : TxId) (b : Bool) → Inside s (record s { local = rolled_back_if b u s.local }) → Calm s (record s { local = rolled_back_if b u s.local }) tx
calm_without s tx u true i = calm_rolled s tx u i
calm_without s tx u false i = calm_same s _ tx i refl refl (λ t p h. h)

-- ---- each step

step_at : (s t : Shard) {e : Event} {o : Outcome} (tx : TxId) → Step s e o t → Inside s t → ((birth : Birth) (nth : ℕ) (seen : Option ℕ) (op : Op) → e ≡ OpEvent tx birth nth seen op → ⊥) → Calm s t tx
step_at s _ tx (op_dies u birth nth seen op cause l g) i n = calm_dies s tx u birth seen op cause l (reply_is s.shard s.local u birth seen op _ g) i
step_at s _ tx (op_answers u birth nth seen op answer l g) i n =
    calm_answers s tx u birth seen op answer l (reply_is s.shard s.local u birth seen op _ g) (λ q. n birth nth seen op (ap (λ v. OpEvent v birth nth seen op) q)) i (op_answering s.shard s.local l u birth seen op answer g)
step_at s _ tx (request_closes u ts f0 g) i n =
    let one = is_alone (others s.shard ts) in
    let x = with_local (close_part u s.shard one) s in
    let c = calm_close s tx u s.shard one g (record { shard = refl; durable = refl; log = i.log }) in
    calm_then s x _ tx c (calm_same x _ tx (record { shard = refl; durable = refl; log = same x.local.log }) refl refl (λ t p h. h))
step_at s _ tx (rolls_back u nth seen upto f g) i n = calm_same s _ tx i refl refl (gone_back u (count_after upto (standing_numbers u s.journal)) s.local)
step_at s _ tx (drops u stage g) i n =
    calm_marked s tx u (rolled_back_if (is_present (stage_of s.local u)) u s.local) (calm_without s tx u (is_present (stage_of s.local u)) (record { shard = refl; durable = refl; log = i.log }))
step_at s _ tx (prepare_closes u home seen stamp g) i n =
    let x = with_local (close_part u home false) s in
    let c = calm_close s tx u home false g (record { shard = refl; durable = refl; log = i.log }) in
    calm_then s x _ tx c (calm_same x _ tx (record { shard = refl; durable = refl; log = same x.local.log }) refl refl (λ t p h. h))
step_at s _ tx (decision_comes u home true stamp g) i n = calm_same s _ tx i refl refl (plain_more s.local.log (Commit u [] ∷ []) ((λ t. refl), tt))
step_at s _ tx (decision_comes u home false stamp g) i n = calm_rolled s tx u i
step_at s _ tx _ i n = calm_same s _ tx i refl refl (λ t p h. h)

pub calm_step : (s t : Shard) {e : Event} {o : Outcome} (tx : TxId) → Step s e o t → ((birth : Birth) (nth : ℕ) (seen : Option ℕ) (op : Op) → e ≡ OpEvent tx birth nth seen op → ⊥) → Calm s t tx
calm_step s t tx h n = step_at s t tx h (inside_step s t h) n

-- any transaction keeps its pairs while it is there
performed_keeps : (s : Shard) (tx u q : TxId) (birth : Birth) (op : Op) → is_pair s.local.pairs tx q ≡ true → is_pair (performed u birth op s.local).pairs tx q ≡ true
performed_keeps s tx u q birth op i =
    let w = written_parts u (writes_of op (value_at (key_of op) s.local.records)) (locked u birth op s.local) in
    subst (λ l. is_pair l tx q ≡ true) (sym w.1) (add_keeps u (violated_here s.local u op) s.local.pairs tx q i)

answers_keeps : (s : Shard) (tx u q : TxId) (birth : Birth) (seen : Option ℕ) (op : Op) (a : Answer) (l : Local) → OpIs s.local u birth seen op (OpAnswers a l) → is_pair s.local.pairs tx q ≡ true → is_pair l.pairs tx q ≡ true
answers_keeps s tx u q birth seen op _ _ (performs f e) i = performed_keeps s tx u q birth op i

pub step_keeps : (s t : Shard) {e : Event} {o : Outcome} (tx q : TxId) → Step s e o t → is_present (stage_of t.local tx) ≡ true → is_pair s.local.pairs tx q ≡ true → is_pair t.local.pairs tx q ≡ true
step_keeps s t tx q (op_dies u birth nth seen op cause l g) p i =
    (calm_dies s tx u birth seen op cause l (reply_is s.shard s.local u birth seen op _ g) (record { shard = refl; durable = refl; log = (inside_step s t (op_dies u birth nth seen op cause l g)).log })).keeps q p i
step_keeps s t tx q (op_answers u birth nth seen op answer l g) p i = answers_keeps s tx u q birth seen op answer l (reply_is s.shard s.local u birth seen op _ g) i
step_keeps s t tx q (drops u stage g) p i = (calm_step s t tx (drops u stage g) (λ b k z op e. absurd cc)).keeps q p i
step_keeps s t tx q (decision_comes u home false stamp g) p i = (calm_step s t tx (decision_comes u home false stamp g) (λ b k z op e. absurd cc)).keeps q p i
step_keeps s t tx q _ p i = i

-- ---- each thing that is due

calm_finished : (s t : Shard) (tx u : TxId) → Inside s t → t.local.parts ≡ gone_in (u ∷ []) None s.local.parts → t.local.pairs ≡ pairs_without (u ∷ []) s.local.pairs → t.local.log ≡ s.local.log → Calm s t tx
calm_finished s t tx u i e f g = calm_gone s t tx (u ∷ []) None i e f (λ v p h. subst (λ l. prepare_of l v ≡ Some p) g h)

calm_reader : (s : Shard) (tx u : TxId) (v : Voter) (vote : Vote) → Inside s (finish_reader u vote (with_vote s u v vote)) → Calm s (finish_reader u vote (with_vote s u v vote)) tx
calm_reader s tx u v Yes i = calm_same s _ tx i refl refl (λ t p h. h)
calm_reader s tx u v Read i = calm_finished s _ tx u i refl refl refl
calm_reader s tx u v (No why) i = calm_same s _ tx i refl refl (λ t p h. h)

calm_ruling : (s : Shard) (tx u : TxId) (q : Request) (r : Ruling) → Inside s (do_ruling u r (with_ruling u q r s)) → Calm s (do_ruling u r (with_ruling u q r s)) tx
calm_ruling s tx u q (CommitVerdict parts) i = calm_same s _ tx i refl refl (plain_more s.local.log (Commit u parts ∷ []) ((λ t. refl), tt))
calm_ruling s tx u q Acknowledge i = calm_finished s _ tx u i refl refl refl
calm_ruling s tx u q (AbortVerdict cause to) i = calm_gone s _ tx (doomed_here s.local u) (Some u) i refl refl (rolled u s.local)
calm_ruling s tx u q EndVerdict i = calm_same s _ tx i refl refl (plain_more s.local.log (End u ∷ []) ((λ t. refl), tt))

pub calm_one : (s t : Shard) (tx : TxId) → Due s (Some t) → Calm s t tx
calm_one s t tx h = at t h (inside_due s s t h (inside_self s))
  where
    at : (t : Shard) → Due s (Some t) → Inside s t → Calm s t tx
    at _ (commits u a b) i = calm_finished s _ tx u i refl refl refl
    at _ (votes u v vote a b) i = calm_reader s tx u v vote i
    at _ (rules u q r a b) i = calm_ruling s tx u q r i

-- nothing that is due closes a part or writes a PREPARE
finished_closed : (s : Shard) (tx u : TxId) → stage_in (gone_in (u ∷ []) None s.local.parts) tx ≡ Some Closed → stage_of s.local tx ≡ Some Closed
finished_closed s tx u h = closed_back (u ∷ []) None tx s.local.parts h

pub due_closed : (s t : Shard) (tx : TxId) → Due s (Some t) → stage_of t.local tx ≡ Some Closed → stage_of s.local tx ≡ Some Closed
due_closed s _ tx (commits u a b) h = finished_closed s tx u h
due_closed s _ tx (votes u v Yes a b) h = h
due_closed s _ tx (votes u v Read a b) h = finished_closed s tx u h
due_closed s _ tx (votes u v (No why) a b) h = h
due_closed s _ tx (rules u q (CommitVerdict parts) a b) h = h
due_closed s _ tx (rules u q Acknowledge a b) h = finished_closed s tx u h
due_closed s _ tx (rules u q (AbortVerdict cause to) a b) h = closed_back (doomed_here s.local u) (Some u) tx s.local.parts h
due_closed s _ tx (rules u q EndVerdict a b) h = h

pub due_prepares : (s t : Shard) → Due s (Some t) → NoMorePrepares s.local.log t.local.log
due_prepares s _ (commits u a b) = λ v p h. h
due_prepares s _ (votes u v Yes a b) = λ w p h. h
due_prepares s _ (votes u v Read a b) = λ w p h. h
due_prepares s _ (votes u v (No why) a b) = λ w p h. h
due_prepares s _ (rules u q (CommitVerdict parts) a b) = plain_more s.local.log (Commit u parts ∷ []) ((λ t. refl), tt)
due_prepares s _ (rules u q Acknowledge a b) = λ v p h. h
due_prepares s _ (rules u q (AbortVerdict cause to) a b) = rolled u s.local
due_prepares s _ (rules u q EndVerdict a b) = plain_more s.local.log (End u ∷ []) ((λ t. refl), tt)

pub calm_self : (s : Shard) (tx : TxId) → Calm s s tx
calm_self s tx = calm_same s s tx (inside_self s) refl refl (λ t p h. h)

pub calm_due : (s0 : Shard) (tx : TxId) → KeptByDue (λ t. Calm s0 t tx)
calm_due s0 tx s t d p = calm_then s0 s t tx p (calm_one s t tx d)

pub calm_finish : (s x : Shard) (tx : TxId) → Calm s x tx → Calm s (finish x) tx
calm_finish s x tx c =
    let d = settled (λ t. Calm s t tx) x (calm_due s tx) c in
    calm_then s (with_due_done x) (finish x) tx d (calm_same (with_due_done x) (finish x) tx (record { shard = refl; durable = refl; log = same (with_due_done x).local.log }) refl refl (λ t p h. h))
