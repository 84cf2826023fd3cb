use Rattle.std.proofs.Common.{◌∙◌, sym, ap}
use Rattle.session_api.specs.GoingBack.{has_number}
use Rattle.session_api.proofs.Saving.{saved_stands}
use Rattle.session_api.proofs.session.Session.roll_to.Goals as goal

pub go_back_to-requires-clause-stands : goal.go_back_to-requires-clause-stands
go_back_to-requires-clause-stands g c = let s = c.args.self.now in
    saved_stands s.progress s.saves.items c.args.upto c.requires.saved (ap (has_number c.args.upto) (sym c.deref.ensures.value) ∙ sym c.is_saved.ensures ∙ c.if-not-is_saved.false)
