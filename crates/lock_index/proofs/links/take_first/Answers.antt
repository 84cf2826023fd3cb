use Rattle.std.proofs.Common.{◌≡◌, refl, sym, ap, ◌∙◌, Some, None}
use Rattle.std.specs.Option.{option_flatten}
use Rattle.lock_index.specs.Links.{nexts}
use Rattle.lock_index.proofs.Same.{none_is}
use Rattle.lock_index.proofs.Threads.{popped, popped_out, none_out, twice}
use Rattle.lock_index.proofs.links.take_first.Goals as goal

pub returns-in_default-clause-out : goal.returns-in_default-clause-out
returns-in_default-clause-out c = let u = c.args.tx in let N = nexts c.args.links.now.entries in
    (none_out u N (sym c.first.ensures ∙ c.in_default.is) (c.requires u), λ t b. refl)

pub returns-then-is_some-clause-threaded : goal.returns-then-is_some-clause-threaded
returns-then-is_some-clause-threaded c = let u = c.args.tx in let a = c.in-Some.anchor in let then = c.flatten-then.result in
    let N = nexts c.args.links.now.entries in let L = nexts c.cut.new.links.entries in let M = nexts c.set.new.links.entries in
    popped u a N M (Some then) (twice u a N L M (Some then) None c.cut.ensures.links c.set.ensures.links) (sym c.first.ensures ∙ c.in-Some.is) (c.flatten-then.ensures ∙ ap option_flatten c.cut.ensures.was) c.requires

pub returns-then-is_some-clause-out : goal.returns-then-is_some-clause-out
returns-then-is_some-clause-out c = let u = c.args.tx in let a = c.in-Some.anchor in let then = c.flatten-then.result in
    let N = nexts c.args.links.now.entries in let L = nexts c.cut.new.links.entries in let M = nexts c.set.new.links.entries in
    popped_out u a N M (Some then) (twice u a N L M (Some then) None c.cut.ensures.links c.set.ensures.links) (sym c.first.ensures ∙ c.in-Some.is) (c.requires u)

pub returns-else-is_some-clause-threaded : goal.returns-else-is_some-clause-threaded
returns-else-is_some-clause-threaded c = let u = c.args.tx in let a = c.in-Some.anchor in let then = c.flatten-then.result in
    let N = nexts c.args.links.now.entries in let L = nexts c.cut.new.links.entries in let M = nexts c.cut-else-is_some.new.links.entries in
    let ended : None ≡ then = sym (none_is then (sym c.is_some.ensures ∙ c.if-is_some.false)) in
    popped u a N M None (twice u a N L M None None c.cut.ensures.links c.cut-else-is_some.ensures.links) (sym c.first.ensures ∙ c.in-Some.is) (ended ∙ (c.flatten-then.ensures ∙ ap option_flatten c.cut.ensures.was)) c.requires

pub returns-else-is_some-clause-out : goal.returns-else-is_some-clause-out
returns-else-is_some-clause-out c = let u = c.args.tx in let a = c.in-Some.anchor in
    let N = nexts c.args.links.now.entries in let L = nexts c.cut.new.links.entries in let M = nexts c.cut-else-is_some.new.links.entries in
    popped_out u a N M None (twice u a N L M None None c.cut.ensures.links c.cut-else-is_some.ensures.links) (sym c.first.ensures ∙ c.in-Some.is) (c.requires u)
