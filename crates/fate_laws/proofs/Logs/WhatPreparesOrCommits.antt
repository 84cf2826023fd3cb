-- How a step gives a transaction a PREPARE, a closed part or a COMMIT.
use Rattle.std.proofs.Common.{◌≡◌, ◌⊎◌, inl, inr, ⊎_elim, refl, sym, ap, subst, ◌∙◌, ℕ, true, false, cond, Bool, List, [], ◌∷◌, ◌++◌, Option, Some, None}
use Rattle.std.proofs.lemmas.Bool.{both_ways}
use Rattle.clv_base.specs.declared.names.TxId.{TxId}
use Rattle.clv_base.specs.declared.names.Birth.{Birth}
use Rattle.clv_base.specs.declared.ops.Op.{Op}
use Rattle.clv_base.specs.declared.ops.Answer.{Answer}
use Rattle.clv_base.specs.declared.causes.AbortCause.{AbortCause}
use Rattle.clv_base.specs.declared.logs.LogRecord.{LogRecord}
use Rattle.clv_base.specs.declared.logs.LogRecord.TheVariants.{Prepare as PrepareRecord, Commit}
use Rattle.clv_base.specs.declared.messages.Message.TheVariants.{Prepare, Decide}
use Rattle.clv_base.specs.declared.state.Stage.TheVariants.{Active, Closed}
use Rattle.clv_base.specs.declared.events.Event.{Event}
use Rattle.clv_base.specs.declared.events.Event.TheVariants.{Request as RequestEvent, Deliver}
use Rattle.clv_base.specs.declared.events.Outcome.{Outcome}
use Rattle.clv_base.specs.declared.events.Outcome.TheVariants.{Asked, Taken}
use Rattle.clv_base.specs.Orders.{tx_same, tx_get, Table}
use Rattle.clv_base.specs.declared.changes.Change.{Change}
use Rattle.clv_base.specs.Logs.{committed_in, prepare_of, has_standing}
use Rattle.clv_base.specs.Needs.{writes_of, value_at, key_of}
use Rattle.clv_base.specs.State.{Shard, Local, is_present}
use Rattle.clv_base.specs.Undo.{stage_of, doomed_here}
use Rattle.clv_base.specs.Facts.{undecided_of}
use Rattle.clv_base.specs.Coordinator.{others}
use Rattle.clv_base.specs.OneShard.{OpDies, OpAnswers, new_part, active_part, written, locked, performed, rolled_back_if, closed_in, closing}
use Rattle.clv_base.specs.Events.{is_alone}
use Rattle.clv_base.proofs.SameNames.{tx_true, tx_self}
use Rattle.law_base.proofs.Changed.{none_some}
use Rattle.law_base.proofs.Tables.{stage_by, stage_in, get_put}
use Rattle.clv_base.specs.declared.state.Held.{Held}
use Rattle.clv_base.specs.Backs.{count_after, standing_numbers}
use Rattle.law_base.proofs.Stages.{closed_back, stage_closed, closed_other, stage_marked, other_part}
use Rattle.history_laws.proofs.Entries.WhatOperationsDo.{OpIs, dies, rolls, performs, reply_is}
use Rattle.history_cases.proofs.Stepping.{Step, op_dies, op_answers, request_closes, drops, prepare_closes, decision_comes, rolls_back}
use Rattle.history_cases.proofs.Uncommitting.{with_more, rolled as rolled_commits, dropped as dropped_commits, op_dying as dying_commits, op_answering as answering_commits, gone_back as back_commits}
use Rattle.fate_laws.proofs.Logs.WhatAddsNoPrepare.{plain_more, prepare_new, rolled, dropped, op_dying, op_answering, gone_back}
use Rattle.fate_laws.proofs.Homes.ShardKnowsHomes.{new_commit}

-- ---- a PREPARE

-- its part was active and is closed now, and a write of it stands: its PREPARE lists its undecided predecessors
pub record ClosedNow (s t : Shard) (tx : TxId) : Type 0 where
  pub was : stage_of s.local tx ≡ Some Active
  pub now : stage_of t.local tx ≡ Some Closed
  pub home : ℕ
  pub log : t.local.log ≡ s.local.log ++ PrepareRecord tx home (undecided_of s.local tx) ∷ []
  pub stands : has_standing s.local.log tx ≡ true
  pub pairs : t.local.pairs ≡ s.local.pairs

closing_new : (s t : Shard) (tx u : TxId) (home : ℕ) (us : List TxId) (p : ℕ × List TxId) → stage_of s.local u ≡ Some Active → stage_of t.local u ≡ Some Closed → t.local.pairs ≡ s.local.pairs → has_standing s.local.log u ≡ true → undecided_of s.local u ≡ us
    → t.local.log ≡ s.local.log ++ PrepareRecord u home us ∷ [] → prepare_of t.local.log tx ≡ Some p → (prepare_of s.local.log tx ≡ Some p) ⊎ ClosedNow s t tx
closing_new s t tx u home us p a c e w f g h =
    ⊎_elim (λ x. inl x)
    (λ x. inr (subst (ClosedNow s t) (sym x.0) (record { was = a; now = c; home = home; log = subst (λ l. t.local.log ≡ s.local.log ++ PrepareRecord u home l ∷ []) (sym f) g; stands = w; pairs = e })))
    (prepare_new s.local.log u home us tx p (subst (λ l. prepare_of l tx ≡ Some p) g h))

closing_is : (s t : Shard) (tx u : TxId) (home : ℕ) (b one : Bool) (us : List TxId) (p : ℕ × List TxId) → stage_of s.local u ≡ Some Active → stage_of t.local u ≡ Some Closed → t.local.pairs ≡ s.local.pairs → has_standing s.local.log u ≡ b → undecided_of s.local u ≡ us
    → t.local.log ≡ s.local.log ++ closing b one u home us → prepare_of t.local.log tx ≡ Some p → (prepare_of s.local.log tx ≡ Some p) ⊎ ClosedNow s t tx
closing_is s t tx u home false one us p a c e w f g h = inl (plain_more s.local.log [] tt tx p (subst (λ l. prepare_of l tx ≡ Some p) g h))
closing_is s t tx u home true true [] p a c e w f g h = inl (plain_more s.local.log (Commit u [] ∷ []) ((λ v. refl), tt) tx p (subst (λ l. prepare_of l tx ≡ Some p) g h))
closing_is s t tx u home true true (v ∷ vs) p a c e w f g h = closing_new s t tx u home (v ∷ vs) p a c e w f g h
closing_is s t tx u home true false us p a c e w f g h = closing_new s t tx u home us p a c e w f g h

pub step_prepares : (s t : Shard) {e : Event} {o : Outcome} (tx : TxId) (p : ℕ × List TxId) → Step s e o t → prepare_of t.local.log tx ≡ Some p → (prepare_of s.local.log tx ≡ Some p) ⊎ ClosedNow s t tx
step_prepares s _ tx p (op_dies u birth nth seen op cause l g) h = inl (op_dying s.shard s.local l u birth seen op cause g tx p h)
step_prepares s _ tx p (op_answers u birth nth seen op answer l g) h = inl (op_answering s.shard s.local l u birth seen op answer g tx p h)
step_prepares s _ tx p (rolls_back u nth seen upto f g) h = inl (gone_back u (count_after upto (standing_numbers u s.journal)) s.local tx p h)
step_prepares s t tx p (request_closes u ts f0 g) h =
    closing_is s _ tx u s.shard (has_standing s.local.log u) (is_alone (others s.shard ts)) (undecided_of s.local u) p g (stage_closed s.local.parts u g) refl refl refl refl h
step_prepares s _ tx p (drops u stage g) h = inl (dropped u s.local tx p h)
step_prepares s t tx p (prepare_closes u home seen stamp g) h = closing_is s _ tx u home (has_standing s.local.log u) false (undecided_of s.local u) p g (stage_closed s.local.parts u g) refl refl refl refl h
step_prepares s _ tx p (decision_comes u home true stamp g) h = inl (plain_more s.local.log (Commit u [] ∷ []) ((λ v. refl), tt) tx p h)
step_prepares s _ tx p (decision_comes u home false stamp g) h = inl (rolled u s.local tx p h)
step_prepares s _ tx p _ h = inl h

-- ---- a closed part

pub data Closes (s : Shard) (tx : TxId) : Event → Outcome → Type 0 where
  by_request : (ts : List (ℕ × ℕ)) → stage_of s.local tx ≡ Some Active → Closes s tx (RequestEvent tx ts) Asked
  by_prepare : (home seen stamp : ℕ) → stage_of s.local tx ≡ Some Active → Closes s tx (Deliver (Prepare s.shard tx home seen) stamp) Taken

-- who did an operation is active
pub new_active : (u : TxId) (birth : Birth) (parts : Table Held) (o : Option Held) → tx_get u parts ≡ o → (stage_by o ≡ None) ⊎ (stage_by o ≡ Some Active) → stage_in (new_part u birth o parts) u ≡ Some Active
new_active u birth parts None e k = ap stage_by (get_put u u (active_part birth) parts) ∙ at_self (tx_same u u) (tx_self u)
  where
    at_self : (b : Bool) → b ≡ true → stage_by (cond b (Some (active_part birth)) (tx_get u parts)) ≡ Some Active
    at_self true q = refl
    at_self false q = absurd (both_ways false refl q)
new_active u birth parts (Some x) e (inl k) = absurd (none_some x.stage (sym k))
new_active u birth parts (Some x) e (inr k) = ap stage_by e ∙ k

performed_closed : (s : Shard) (tx u : TxId) (birth : Birth) (op : Op) → (stage_of s.local u ≡ None) ⊎ (stage_of s.local u ≡ Some Active) → stage_of (performed u birth op s.local) tx ≡ Some Closed → stage_of s.local tx ≡ Some Closed
performed_closed s tx u birth op k h = at (tx_same tx u) refl
  where
    parts_are : (w : Option (ℕ × Change)) (l : Local) → (written u w l).parts ≡ l.parts
    parts_are None l = refl
    parts_are (Some w) l = refl

    st : stage_in (new_part u birth (tx_get u s.local.parts) s.local.parts) tx ≡ Some Closed
    st = ap (λ l. stage_in l tx) (sym (parts_are (writes_of op (value_at (key_of op) s.local.records)) (locked u birth op s.local))) ∙ h

    differ : Some Active ≡ Some Closed → ⊥
    differ z = absurd cc

    at : (b : Bool) → tx_same tx u ≡ b → stage_of s.local tx ≡ Some Closed
    at true e =
        let q : tx ≡ u = tx_true tx u e in
        absurd (differ (sym (new_active u birth s.local.parts (tx_get u s.local.parts) refl k) ∙ subst (λ v. stage_in (new_part u birth (tx_get u s.local.parts) s.local.parts) v ≡ Some Closed) q st))
    at false e = sym (ap stage_by (other_part u birth s.local.parts tx (tx_get u s.local.parts) e)) ∙ st

answers_closed : (s : Shard) (tx u : TxId) (birth : Birth) (seen : Option ℕ) (op : Op) (a : Answer) (l : Local) → OpIs s.local u birth seen op (OpAnswers a l) → stage_of l tx ≡ Some Closed → stage_of s.local tx ≡ Some Closed
answers_closed s tx u birth seen op _ _ (performs f e) h = performed_closed s tx u birth op e h

dies_closed : (s : Shard) (tx u : TxId) (birth : Birth) (seen : Option ℕ) (op : Op) (c : AbortCause) (l : Local) → OpIs s.local u birth seen op (OpDies c l) → stage_of l tx ≡ Some Closed → stage_of s.local tx ≡ Some Closed
dies_closed s tx u birth seen op c _ dies h = h
dies_closed s tx u birth seen op c _ rolls h = closed_back (doomed_here s.local u) (Some u) tx s.local.parts h

without_closed : (s : Shard) (tx u : TxId) (b : Bool) → stage_of (rolled_back_if b u s.local) tx ≡ Some Closed → stage_of s.local tx ≡ Some Closed
without_closed s tx u true h = closed_back (doomed_here s.local u) (Some u) tx s.local.parts h
without_closed s tx u false h = h

close_closed : (s : Shard) (tx u : TxId) (e : Event) (o : Outcome) (b : Bool) → tx_same u tx ≡ b → Closes s u e o → stage_in (closed_in u s.local.parts) tx ≡ Some Closed → (stage_of s.local tx ≡ Some Closed) ⊎ Closes s tx e o
close_closed s tx u e o true f c h = inr (subst (λ v. Closes s v e o) (tx_true u tx f) c)
close_closed s tx u e o false f c h = inl (sym (closed_other s.local.parts u tx f) ∙ h)

pub step_closed : (s t : Shard) {e : Event} {o : Outcome} (tx : TxId) → Step s e o t → stage_of t.local tx ≡ Some Closed → (stage_of s.local tx ≡ Some Closed) ⊎ Closes s tx e o
step_closed s _ tx (op_dies u birth nth seen op cause l g) h = inl (dies_closed s tx u birth seen op cause l (reply_is s.shard s.local u birth seen op _ g) h)
step_closed s _ tx (op_answers u birth nth seen op answer l g) h = inl (answers_closed s tx u birth seen op answer l (reply_is s.shard s.local u birth seen op _ g) h)
step_closed s _ tx (request_closes u ts f0 g) h = close_closed s tx u _ _ (tx_same u tx) refl (by_request ts g) h
step_closed s _ tx (drops u stage g) h =
    inl (without_closed s tx u (is_present (stage_of s.local u)) (sym (stage_marked u tx (rolled_back_if (is_present (stage_of s.local u)) u s.local).parts) ∙ h))
step_closed s _ tx (prepare_closes u home seen stamp g) h = close_closed s tx u _ _ (tx_same u tx) refl (by_prepare home seen stamp g) h
step_closed s _ tx (decision_comes u home false stamp g) h = inl (closed_back (doomed_here s.local u) (Some u) tx s.local.parts h)
step_closed s _ tx _ h = inl h

-- ---- a COMMIT

pub data Commits (s : Shard) (tx : TxId) : Event → Outcome → Type 0 where
  alone : (ts : List (ℕ × ℕ)) → is_alone (others s.shard ts) ≡ true → undecided_of s.local tx ≡ [] → Commits s tx (RequestEvent tx ts) Asked
  decided : (home stamp : ℕ) → Commits s tx (Deliver (Decide s.shard tx home true) stamp) Taken

closing_commits : (log : List LogRecord) (u tx : TxId) (home : ℕ) (b one : Bool) (us : List TxId) → committed_in (log ++ closing b one u home us) tx ≡ true → (committed_in log tx ≡ true) ⊎ ((tx ≡ u) × (one ≡ true) × (us ≡ []))
closing_commits log u tx home false one us c = inl (with_more log [] tt tx c)
closing_commits log u tx home true true [] c = ⊎_elim (λ x. inl x) (λ x. inr (x, refl, refl)) (new_commit log u [] tx c)
closing_commits log u tx home true true (v ∷ vs) c = inl (with_more log (PrepareRecord u home (v ∷ vs) ∷ []) ((λ t. refl), tt) tx c)
closing_commits log u tx home true false us c = inl (with_more log (PrepareRecord u home us ∷ []) ((λ t. refl), tt) tx c)

pub step_commits : (s t : Shard) {e : Event} {o : Outcome} (tx : TxId) → Step s e o t → committed_in t.local.log tx ≡ true → (committed_in s.local.log tx ≡ true) ⊎ Commits s tx e o
step_commits s _ tx (op_dies u birth nth seen op cause l g) h = inl (dying_commits s.shard s.local l u birth seen op cause g tx h)
step_commits s _ tx (op_answers u birth nth seen op answer l g) h = inl (answering_commits s.shard s.local l u birth seen op answer g tx h)
step_commits s _ tx (rolls_back u nth seen upto f g) h = inl (back_commits u (count_after upto (standing_numbers u s.journal)) s.local tx h)
step_commits s _ tx (request_closes u ts f0 g) h =
    ⊎_elim (λ x. inl x) (λ x. inr (subst (λ v. Commits s v (RequestEvent u ts) Asked) (sym x.0) (alone ts x.1 x.2)))
    (closing_commits s.local.log u tx s.shard (has_standing s.local.log u) (is_alone (others s.shard ts)) (undecided_of s.local u) h)
step_commits s _ tx (drops u stage g) h = inl (dropped_commits u s.local tx h)
step_commits s _ tx (prepare_closes u home seen stamp g) h =
    ⊎_elim (λ x. inl x) (λ x. absurd (both_ways false refl x.1)) (closing_commits s.local.log u tx home (has_standing s.local.log u) false (undecided_of s.local u) h)
step_commits s _ tx (decision_comes u home true stamp g) h = ⊎_elim (λ x. inl x) (λ x. inr (subst (λ v. Commits s v (Deliver (Decide s.shard u home true) stamp) Taken) (sym x) (decided home stamp))) (new_commit s.local.log u [] tx h)
step_commits s _ tx (decision_comes u home false stamp g) h = inl (rolled_commits u s.local tx h)
step_commits s _ tx _ h = inl h
