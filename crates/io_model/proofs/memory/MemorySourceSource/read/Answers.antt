use Rattle.std.proofs.Common.{◌≡◌, ◌+◌, length, drop, refl, sym, ◌∙◌, ap, arith, length-drop}
use Rattle.std.proofs.lemmas.List.{take_rest}
use Rattle.io_model.specs.States.{SourceState}
use Rattle.io_model.proofs.Following.{none_left, piece_given}
use Rattle.io_model.proofs.memory.MemorySourceSource.read.Goals as goal

pub returns-clause-told : goal.returns-clause-told
returns-clause-told c =
    let left : c.args.self.now.left ≡ drop c.self.inside.at c.self.inside.bytes.items = ap (λ (s : SourceState). s.left) (sym c.self.view_is) in (
      drop (c.self.inside.at + c.min-count.result) c.self.inside.bytes.items,
      refl,
      left ∙ piece_given c.self.inside.bytes.items c.deref-2.result.now c.give.new.into c.self.inside.at c.min-count.result c.deref-2.ensures.value (omega (arith, c.min-count.ensures)) c.give.ensures,
      λ none some. none_left c.args.self.now.left (omega (
        arith,
        ap length left,
        length-drop c.self.inside.at c.self.inside.bytes.items,
        ap length (take_rest c.deref-2.result.now c.self.inside.at),
        length-drop c.self.inside.at c.deref-2.result.now,
        ap length c.deref-2.ensures.value,
        c.min-count.ensures,
        c.min.ensures,
        c.give.auto.into,
        c.self.invariant.1,
        some,
        none,
      )),
    )
