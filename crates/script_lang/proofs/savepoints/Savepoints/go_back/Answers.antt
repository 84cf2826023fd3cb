use Rattle.std.proofs.Common.{ℕ, List, ap, ◌∙◌}
use Rattle.script_lang.specs.Savepoints.{Savepoints, back_to}
use Rattle.script_lang.proofs.Keeping.{fewer_are, numbered_as}
use Rattle.script_lang.proofs.savepoints.Savepoints.go_back.Goals as goal

pub invariant_of-self : goal.invariant_of-self
invariant_of-self c =
    numbered_as c.args.number c.self.inside.kept c.self.inside.standing.items c.truncate.new.self.items
    (fewer_are c.args.number c.self.inside.kept c.self.inside.standing.items c.truncate.new.self.items c.deref.result.now c.count_up_to-count.result c.truncate.ensures.items c.count_up_to-count.ensures.count c.deref.ensures.value c.self.invariant)
    c.self.invariant

pub returns : goal.returns
returns c =
    let now =
    fewer_are c.args.number c.self.inside.kept c.self.inside.standing.items c.truncate.new.self.items c.deref.result.now c.count_up_to-count.result c.truncate.ensures.items c.count_up_to-count.ensures.count c.deref.ensures.value c.self.invariant in
    let kept = λ (l : List (ℕ × ℕ)). let s : Savepoints = record { kept = c.self.inside.kept; standing = l } in s in
    ap kept now ∙ ap (back_to c.args.number) c.self.view_is
