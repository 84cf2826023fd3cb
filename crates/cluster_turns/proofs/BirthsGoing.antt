-- How a transaction goes on, or begins.
use Rattle.std.proofs.Common.{◌≡◌, sym, ap, subst, ◌∙◌, true, cond, Some, None, inl, inr}
use Rattle.std.proofs.lemmas.Bool.{both_ways, and_from}
use Rattle.clv_base.specs.declared.names.Birth.{Birth}
use Rattle.clv_base.specs.Sessions.{SessionState, begun, begins, goes_on, same_birth, session_for, op_in_session, is_touching}
use Rattle.clv_base.proofs.SameNames.{tx_self}
use Rattle.cluster_turns.specs.States.{GoesOnBy, OpsGoOn, TouchedAreLast}
use Rattle.law_base.proofs.Names.{birth_self, birth_same as some_same}

found : (t p : SessionState) (birth : Birth) → GoesOnBy t p → is_touching p.phase ≡ true → p.birth ≡ Some birth → session_for t p.tx birth ≡ Some p
found t p birth (inl same) touching has =
    subst (λ x. session_for x p.tx birth ≡ Some p) same
    (ap (λ b. cond b (cond (goes_on p p.tx birth) (Some p) None) (cond (begins p p.tx birth) (Some (begun p p.tx birth)) None)) (tx_self p.tx)
    ∙ ap (λ b. cond b (Some p) None) (and_from (is_touching p.phase) (same_birth p.birth birth) touching (ap (λ o. same_birth o birth) has ∙ birth_self birth)))
found t p birth (inr (b, is, other, may)) touching has =
    let same : b ≡ birth = some_same b birth (sym (ap (λ x. x.birth) is) ∙ has) in
    let may_so : begins t p.tx birth ≡ true = subst (λ x. begins t p.tx x ≡ true) same may in
    ap (λ c. cond c (cond (goes_on t p.tx birth) (Some t) None) (cond (begins t p.tx birth) (Some (begun t p.tx birth)) None)) other
    ∙ ap (λ c. cond c (Some (begun t p.tx birth)) None) may_so
    ∙ ap (λ x. Some (begun t p.tx x)) (sym same) ∙ ap (λ x. Some x) (sym is)

pub ops_go_on : OpsGoOn
ops_go_on splits t p birth n nth seen op o goes touching has = ap (op_in_session splits n nth seen op o) (found t p birth goes touching has)

pub touched_are_last : TouchedAreLast
touched_are_last t p (inl same) h = same
touched_are_last t p (inr (b, is, other, may)) (inl some) = absurd (some (ap (λ x. x.touched) is))
touched_are_last t p (inr (b, is, other, may)) (inr over) = absurd (both_ways (is_touching p.phase) over (ap (λ x. is_touching x.phase) is))
