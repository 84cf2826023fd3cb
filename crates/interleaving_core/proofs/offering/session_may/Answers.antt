use Rattle.std.proofs.Common.{◌≡◌, ap, subst, sym, ◌∙◌}
use Rattle.std.specs.Prelude.{is_some, IfOk}
use Rattle.clv_base.specs.Journals.{own}
use Rattle.clv_base.specs.Sessions.{session_after, is_session_number}
use Rattle.journal_laws.specs.Offers.{hoped_for}
use Rattle.interleaving_core.proofs.Sessioning.{state_there, may_is}
use Rattle.interleaving_core.proofs.offering.session_may.Goals as goal

pub may_make-requires : goal.may_make-requires
may_make-requires c =
    let a = c.args in let t = state_there a.splits.now a.walker (own a.walker a.history.now) c.requires.session in
    ap (λ u. is_session_number (u.tx).session) (c.in_ok-session.ensures a.splits.now t.state t.is) ∙ ap is_session_number t.bears ∙ sym c.if-not-is_session_number.ensures

pub returns-clause-may : goal.returns-clause-may
returns-clause-may c =
    let a = c.args in let t = state_there a.splits.now a.walker (own a.walker a.history.now) c.requires.session in
    subst (λ x. IfOk c.may_make.result (λ may. may ≡ x))
    (ap (λ u. is_some (session_after a.splits.now a.shard u a.event.now (hoped_for a.event.now))) (c.in_ok-session.ensures a.splits.now t.state t.is)
    ∙ may_is a.splits.now a.walker a.history.now a.shard a.event.now t.state (sym c.if-not-is_of_session.ensures) (sym c.if-not-is_session_number.ensures) t.is) c.may_make.ensures.may
