use Rattle.std.proofs.Common.{◌&&◌, ◌||◌, nat_le, sym, ap, ◌∙◌, reverse}
use Rattle.std.specs.List.{list_all}
use Rattle.std.proofs.lemmas.Bool.{lt-ltb}
use Rattle.clv_base.specs.Backs.{stands_for_back}
use Rattle.interleaving_core.specs.GoneBack.{GoneBack}
use Rattle.interleaving_core.proofs.Reversing.{all_reverse}
use Rattle.interleaving_core.proofs.goings_back.GoingsBack.stands.Goals as goal

pub returns-then-upto-nth : goal.returns-then-upto-nth
returns-then-upto-nth c =
    let g = c.self.inside in let nth = c.args.nth in let upto = c.args.upto in
    c.is_clear.ensures ∙ ap (list_all (λ b. nat_le upto b.1 || nat_le b.0 upto)) c.as_slice.ensures.value ∙ sym (all_reverse (λ b. nat_le upto b.1 || nat_le b.0 upto) g.backs.items)
    ∙ ap (λ b. b && list_all (λ b. nat_le upto b.1 || nat_le b.0 upto) (reverse g.backs.items)) (sym (lt-ltb upto nth c.if-upto-nth.true)) ∙ ap (λ (t : GoneBack). stands_for_back nth upto t.backs) c.self.view_is
