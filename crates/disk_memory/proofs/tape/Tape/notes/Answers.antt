use Rattle.std.proofs.Common.{◌≡◌, sym, ◌∙◌, subst}
use Rattle.disk_memory.specs.Told.{View}
use Rattle.disk_memory.specs.Noted.{notes_of}
use Rattle.disk_memory.proofs.Sound.{notes_in_fields}
use Rattle.disk_memory.proofs.tape.Tape.notes.Goals as goal

pub returns : goal.returns
returns c =
    c.deref.ensures.value
    ∙ subst (λ (v : View). c.self.inside.notes.items ≡ notes_of v.story.calls) c.self.view_is (sym (notes_in_fields _ _ _ _ _ _ _ _ c.self.invariant))
