use Rattle.std.proofs.Common.{◌==◌, ◌∙◌, length, refl, sym, ap, subst, Ok}
use Rattle.std.specs.Map.{lookup}
use Rattle.session_ops.specs.Scanned.{part_on}
use Rattle.session_ops.specs.Stepped.{PartTold}
use Rattle.session_ops.proofs.Gathering.{passed, stepped}
use Rattle.session_ops.proofs.scanning.scan_part.Goals as goal

pub returns-in-None-clause-turns : goal.returns-in-None-clause-turns
returns-in-None-clause-turns g c birth is = let w = c.args.walker.now in let p = c.args.place.now in let sh = c.args.shards.now in
    passed sh.splits (length sh.locks.items) w.number w.clock c.args.shard w.passes.items (record { tx = p.tx; birth = birth; nth = c.args.nth; lo = c.args.lo; hi = c.args.hi }) p.touched c.args.pairs.now.items tt (sym (ap (λ s. part_on s c.args.shard c.args.lo c.args.hi) c.splits.ensures) ∙ sym c.in-None.ensures)

pub returns-in-Some-clause-turns : goal.returns-in-Some-clause-turns
returns-in-Some-clause-turns g c birth is = let w = c.args.walker.now in let v = c.perform-answer.new.walker in let p = c.args.place.now in let q = c.perform-answer.new.place in let sh = c.args.shards.now in
    stepped sh.splits (length sh.locks.items) w.number w.clock v.clock c.args.shard w.passes.items v.passes.items (record { tx = p.tx; birth = birth; nth = c.args.nth; lo = c.args.lo; hi = c.args.hi }) (lookup (◌==◌ c.args.shard) p.touched)
    (c.in-Some.from, c.in-Some.to) p q c.perform-answer.result c.take.result c.args.pairs.now.items c.take.new.pairs.items (sym (ap (λ s. part_on s c.args.shard c.args.lo c.args.hi) c.splits.ensures) ∙ sym c.in-Some.ensures) refl (c.perform-answer.ensures.turns birth is) c.perform-answer.ensures.place c.take.ensures

pub returns-in-None-clause-part : goal.returns-in-None-clause-part
returns-in-None-clause-part g c birth is = let w = c.args.walker.now in let p = c.args.place.now in let sh = c.args.shards.now in
    subst (λ o. PartTold o sh birth c.args.nth c.args.shard w p c.args.pairs.now.items (Ok tt) w p c.args.pairs.now.items) (c.in-None.ensures ∙ ap (λ s. part_on s c.args.shard c.args.lo c.args.hi) c.splits.ensures) (refl, refl, refl, refl)

pub returns-in-Some-clause-part : goal.returns-in-Some-clause-part
returns-in-Some-clause-part g c birth is = let w = c.args.walker.now in let v = c.perform-answer.new.walker in let p = c.args.place.now in let q = c.perform-answer.new.place in let sh = c.args.shards.now in
    subst (λ o. PartTold o sh birth c.args.nth c.args.shard w p c.args.pairs.now.items c.take.result v q c.take.new.pairs.items) (c.in-Some.ensures ∙ ap (λ s. part_on s c.args.shard c.args.lo c.args.hi) c.splits.ensures) (
      c.perform-answer.result,
      record {
        active = c.requires.active;
        same = c.perform-answer.ensures.walker;
        turns = c.perform-answer.ensures.turns birth is;
        place = c.perform-answer.ensures.place;
        stands = c.perform-answer.ensures.stands;
      },
      c.take.ensures,
    )
