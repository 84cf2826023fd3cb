-- Step by step to a lower note.
use Rattle.std.proofs.Common.{◌<◌, length, get_or, Some, None, IfSome, ap, subst, arith}
use Rattle.shard_machine.specs.Numbers.{stacks, numbers_at}
use Rattle.shard_machine.specs.declared.numbers.Note.{Note}
use Rattle.shard_machine.proofs.Numbering.{Down, left, note_at, further, ends, lower_left, lower_there}
use Rattle.shard_machine.proofs.numbers.go_down.Goals as goal

none : Note
none = record { number = 0; below = None }

pub returns-then-note-upto-clause-passed : goal.returns-then-note-upto-clause-passed
unfolding none
returns-then-note-upto-clause-passed c =
    let ns = c.args.notes.now in let at = c.in-Some.at in let start = numbers_at (stacks ns) (Some c.args.from) in
    let inside : at < length ns = subst (λ o. IfSome o (λ i. i < length ns)) c.in-Some.is c.loop-place.invariant.there in
    let down = subst (λ o. Down (stacks ns) c.args.upto start c.loop-place.passed o) c.in-Some.is c.loop-place.invariant.down in
    (ends (stacks ns) c.args.upto start c.loop-place.passed at (get_or ns at none) (note_at ns at none c.requires.over inside) down c.if-note-upto.true).0

pub returns-then-note-upto-clause-left : goal.returns-then-note-upto-clause-left
unfolding none
returns-then-note-upto-clause-left c =
    let ns = c.args.notes.now in let at = c.in-Some.at in let start = numbers_at (stacks ns) (Some c.args.from) in
    let inside : at < length ns = subst (λ o. IfSome o (λ i. i < length ns)) c.in-Some.is c.loop-place.invariant.there in
    let down = subst (λ o. Down (stacks ns) c.args.upto start c.loop-place.passed o) c.in-Some.is c.loop-place.invariant.down in
    (ends (stacks ns) c.args.upto start c.loop-place.passed at (get_or ns at none) (note_at ns at none c.requires.over inside) down c.if-note-upto.true).1

pub loop-place-smaller : goal.loop-place-smaller
unfolding none
loop-place-smaller c =
    let ns = c.args.notes.now in let at = c.in-Some.at in
    let inside : at < length ns = subst (λ o. IfSome o (λ i. i < length ns)) c.in-Some.is c.loop-place.invariant.there in
    let less = lower_left (get_or ns at none).below at (note_at ns at none c.requires.over inside).lower in let now = ap left c.in-Some.is in
    omega (arith, less, now)

pub loop-place-preserved : goal.loop-place-preserved
unfolding none
loop-place-preserved c =
    let ns = c.args.notes.now in let at = c.in-Some.at in let start = numbers_at (stacks ns) (Some c.args.from) in
    let inside : at < length ns = subst (λ o. IfSome o (λ i. i < length ns)) c.in-Some.is c.loop-place.invariant.there in
    let down = subst (λ o. Down (stacks ns) c.args.upto start c.loop-place.passed o) c.in-Some.is c.loop-place.invariant.down in
    let here = note_at ns at none c.requires.over inside in
    let less = lower_left (get_or ns at none).below at here.lower in let now = ap left c.in-Some.is in let few = c.loop-place.invariant.few in
    record {
      down = further (stacks ns) c.args.upto start c.loop-place.passed at (get_or ns at none) here down c.if-note-upto.false;
      there = lower_there (get_or ns at none).below at (length ns) here.lower inside;
      few = omega (arith, less, now, few);
    }
