use Rattle.std.proofs.Common.{suc, sym, ap, ◌∙◌, reverse}
use Rattle.clv_base.specs.Backs.{stands_for_back}
use Rattle.clv_base.specs.Sessions.{SessionState}
use Rattle.cluster_turns.proofs.Noting.{stands_here}
use Rattle.cluster_turns.proofs.place.Place.nth.Goals as goal

pub returns-clause-stands : goal.returns-clause-stands
returns-clause-stands c = sym (ap (λ (t : SessionState). stands_for_back (suc t.nth) c.self.inside.nth t.backs) c.self.view_is) ∙ stands_here c.self.inside.nth (reverse c.self.inside.backs.items) c.self.invariant.1
