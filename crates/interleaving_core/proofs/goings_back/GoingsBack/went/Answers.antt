use Rattle.std.proofs.Common.{ℕ, List, Some, sym, ap, ◌∙◌, not, ◌&&◌, ◌==◌, nat_lt, reverse}
use Rattle.std.specs.List.{filter}
use Rattle.interleaving_core.specs.GoneBack.{GoneBack}
use Rattle.interleaving_core.proofs.Reversing.{filter_reverse}
use Rattle.interleaving_core.proofs.goings_back.GoingsBack.went.Goals as goal

pub returns : goal.returns
returns c =
    let g = c.self.inside in let n = c.args.shard in let upto = c.args.upto in
    ap (λ (ws : List (ℕ × ℕ)). record { back = Some (n, upto); written = ws; backs = reverse g.backs.items; is_whole = g.is_whole })
    (ap reverse c.take_away.ensures ∙ sym (filter_reverse (λ w. not ((w.0 == n) && nat_lt upto w.1)) g.written.items))
    ∙ ap (λ (t : GoneBack). record t { back = Some (n, upto); written = filter (λ w. not ((w.0 == n) && nat_lt upto w.1)) t.written }) c.self.view_is
