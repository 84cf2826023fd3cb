use Rattle.std.proofs.Common.{◌&&◌, sym, ap, ◌∙◌, reverse}
use Rattle.clv_base.specs.Sessions.{is_back_whole}
use Rattle.interleaving_core.specs.GoneBack.{is_whole_now}
use Rattle.interleaving_core.proofs.Reversing.{whole_reverse}
use Rattle.interleaving_core.proofs.goings_back.GoingsBack.is_whole.Goals as goal

pub returns-then-self : goal.returns-then-self
returns-then-self c =
    let g = c.self.inside in
    c.is_back_whole.ensures ∙ ap (is_back_whole g.back) c.as_slice.ensures.value ∙ sym (whole_reverse g.back g.written.items)
    ∙ ap (λ b. b && is_back_whole g.back (reverse g.written.items)) (sym c.if-self.true) ∙ ap is_whole_now c.self.view_is
