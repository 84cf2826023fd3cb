use Rattle.std.proofs.Common.{sym, ap, ◌∙◌, cond, ◌&&◌, Some}
use Rattle.std.specs.Option.{option_flatten}
use Rattle.clv_base.specs.Orders.{tx_same}
use Rattle.lock_index.specs.Links.{nexts, first, same_place}
use Rattle.lock_index.proofs.Same.{none_is}
use Rattle.lock_index.proofs.Threads.{pushed, pushed_has, turned}
use Rattle.lock_index.proofs.links.note.Goals as goal

pub returns-clause-threaded : goal.returns-clause-threaded
returns-clause-threaded c = let u = c.args.tx in let a = c.args.anchor in let N = nexts c.args.links.now.entries in let L = nexts c.set.new.links.entries in let M = nexts c.set-2.new.links.entries in
    pushed u a N M
    (turned u a N L M (Some (Some a)) (Some (first N u)) c.set.ensures.links (λ t p. c.set-2.ensures.links t p ∙ ap (λ o. cond (tx_same u t && same_place (Some a) p) (Some o) (L t p)) (c.flatten-then.ensures ∙ ap option_flatten c.set.ensures.was)))
    (sym c.next.ensures ∙ none_is _ (sym c.is_some.ensures ∙ c.if-is_some.false)) c.requires.threaded

pub returns-clause-has : goal.returns-clause-has
returns-clause-has c = let u = c.args.tx in let a = c.args.anchor in let N = nexts c.args.links.now.entries in let L = nexts c.set.new.links.entries in let M = nexts c.set-2.new.links.entries in
    pushed_has u a N M
    (turned u a N L M (Some (Some a)) (Some (first N u)) c.set.ensures.links (λ t p. c.set-2.ensures.links t p ∙ ap (λ o. cond (tx_same u t && same_place (Some a) p) (Some o) (L t p)) (c.flatten-then.ensures ∙ ap option_flatten c.set.ensures.was)))
