-- What the protocol replies, by what is found.
use Rattle.std.proofs.Common.{◌≡◌, ℕ, ◌<◌, ◌≤◌, Bool, true, false, length, Option, Some, None, refl, sym, ap, subst, ◌∙◌, nat_lt, arith}
use Rattle.std.proofs.lemmas.Bool.Decides.{nat_tests}
use Rattle.clv_base.specs.declared.names.TxId.{TxId}
use Rattle.clv_base.specs.declared.names.Birth.{Birth}
use Rattle.clv_base.specs.declared.ops.Op.{Op}
use Rattle.clv_base.specs.declared.causes.AbortCause.{AbortCause}
use Rattle.clv_base.specs.declared.causes.AbortCause.TheVariants.{Died}
use Rattle.clv_base.specs.declared.state.Stage.{Stage}
use Rattle.clv_base.specs.declared.state.Stage.TheVariants.{Active, Closed, Gone}
use Rattle.clv_base.specs.declared.modes.Decision.{Decision}
use Rattle.clv_base.specs.declared.modes.Decision.TheVariants.{Grant as IsGranted, Wait as IsToWait, Die as IsToDie}
use Rattle.clv_base.specs.Needs.{needs_of}
use Rattle.clv_base.specs.Locks.{decide}
use Rattle.clv_base.specs.State.{Local, is_present}
use Rattle.clv_base.specs.Undo.{stage_of}
use Rattle.clv_base.specs.OneShard.{OpDies, OpCrowded, op_active, op_decided, op_granted, without_part, rolled_back_if, undecided_after, undecided_with, violated_here, performed, OpAnswers}
use Rattle.cascade_undo.specs.Dependencies.{Dependencies}
use Rattle.cascade_undo.proofs.Laws.{AreInLog, undecided_like_log}
use Rattle.shard_ops.specs.Met.{undecided_by_grant}
use Rattle.txn_core.specs.declared.deciding.Decided.{Decided}
use Rattle.txn_core.specs.declared.deciding.Decided.TheVariants.{Grant as GrantedSo, Wait as ToWait, Die as ToDie, Crowded as TooCrowded}
use Rattle.txn_core.specs.Sound.{may_work}
use Rattle.txn_core.specs.Judged.{IsJudged, IsDecided, death_by, judged_by}

death_at : (l : Local) (tx : TxId) (birth : Birth) (op : Op) (cause : AbortCause) (stage : Option Stage) → stage_of l tx ≡ stage
    → IsJudged l tx birth op (OpDies cause (rolled_back_if (is_present stage) tx l)) (death_by stage cause)
death_at l tx birth op cause None e = refl
death_at l tx birth op cause (Some Active) e = (refl, ap is_present e)
death_at l tx birth op cause (Some Closed) e = (refl, ap is_present e)
death_at l tx birth op cause (Some (Gone doom)) e = refl

-- a death is judged by the part that is there
pub death_is : (l : Local) (tx : TxId) (birth : Birth) (op : Op) (cause : AbortCause) → IsJudged l tx birth op (OpDies cause (without_part tx l)) (death_by (stage_of l tx) cause)
death_is l tx birth op cause = death_at l tx birth op cause (stage_of l tx) refl

at_most : (n : ℕ) → n ≤ 1024 → nat_lt 1024 n ≡ false
at_most n h = grind (arith, nat_tests)

more_than : (n : ℕ) → 1024 < n → nat_lt 1024 n ≡ true
more_than n h = grind (arith, nat_tests)

module _ (d : Dependencies) (l : Local) (tx : TxId) (birth : Birth) (op : Op) (pairs : d.pairs ≡ l.pairs) (settled : AreInLog d l) where
  undecided_same : undecided_by_grant l.log d tx (needs_of op l.records) l.locks ≡ undecided_after l tx op
  undecided_same = undecided_like_log d l pairs settled tx (violated_here l tx op)

  decided_as : (x : Decision) → decide tx birth (needs_of op l.records) l.locks ≡ x → op_active l tx birth op ≡ op_decided l tx birth op x
  decided_as x e = ap (op_decided l tx birth op) e

  granted_as : (b : Bool) → decide tx birth (needs_of op l.records) l.locks ≡ IsGranted → nat_lt 1024 (length (undecided_after l tx op)) ≡ b → op_active l tx birth op ≡ op_granted l tx birth op b
  granted_as b e n = decided_as IsGranted e ∙ ap (op_granted l tx birth op) n

  pub judged_is : (x : Decided) → may_work (stage_of l tx) ≡ true → IsDecided l.records l.locks l.log d tx birth op x → IsJudged l tx birth op (op_active l tx birth op) (judged_by (stage_of l tx) x)
  judged_is (GrantedSo plan preds) m h =
      let few : length (undecided_after l tx op) ≤ 1024 = subst (λ us. length us ≤ 1024) undecided_same h.3 in
      (granted_as false h.0 (at_most _ few) ∙ ap (λ a. OpAnswers a (performed tx birth op l)) (sym h.1.answer), h.1, h.2, m, subst (λ us. length (undecided_with l tx us) ≤ 1024) (sym h.2) few)
  judged_is (ToWait younger) m h = decided_as (IsToWait younger) h
  judged_is (ToDie older) m h = subst (λ r. IsJudged l tx birth op r (death_by (stage_of l tx) (Died older))) (sym (decided_as (IsToDie older) h)) (death_is l tx birth op (Died older))
  judged_is (TooCrowded count) m h =
      let same : count ≡ length (undecided_after l tx op) = h.1 ∙ ap length undecided_same in
      granted_as true h.0 (ap (nat_lt 1024) (sym same) ∙ more_than count h.2) ∙ ap OpCrowded (sym same)
