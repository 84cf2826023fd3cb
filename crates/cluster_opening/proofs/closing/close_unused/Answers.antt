use Rattle.std.proofs.Common.{◌<◌, get_or, length, vec_capacity, arith}
use Rattle.turn_lock.specs.Passes.{pass_origin}
use Rattle.machine_laws.specs.Homes.{layout_of}
use Rattle.machine_laws.specs.Notes.{notes_of}
use Rattle.cluster_opening.proofs.Unused.{all_empty, unused, same_origin, by_origin, gate_there}
use Rattle.cluster_opening.proofs.closing.close_unused.Goals as goal
use Rattle.law_base.proofs.Lists.{elem_at as some_elem}

pub take_apart-requires : goal.take_apart-requires
take_apart-requires g c =
    let P = c.args.passes in let ok = P.ok in let G = g.M.Gate.Gate in let home = c.close-machine.result in let end = c.close-machine.ensures in let new = c.requires.unused in
    let none = all_empty c.args.lock new.0 P.items (λ k d l. new.1 k d (omega arith)) (notes_of (g.M.Machine.shard home.machine).journal home.marks.items) end.own end.others in
    let m = unused G.is_shut G.faults G.shard G.logs home.origin home.marks.items (vec_capacity home.marks) (g.M.Machine.shard home.machine) (g.M.Machine.gate home.machine) end.sound none in
    rw c.into_inner.ensures (gate_there (g.M.Machine.gate home.machine) m.home m.has)

pub returns-clause-left : goal.returns-clause-left
returns-clause-left g c = λ o n layout run found before new is. (
    let P = c.args.passes in let ok = P.ok in let G = g.M.Gate.Gate in let home = c.close-machine.result in let end = c.close-machine.ensures in let some = c.requires.some in
    let first : 0 < length P.items = omega arith in let d = some_elem P.items 0 first in
    let none = all_empty c.args.lock o P.items (λ k d l. new k d (omega arith)) (notes_of (g.M.Machine.shard home.machine).journal home.marks.items) end.own end.others in
    let m = unused G.is_shut G.faults G.shard G.logs home.origin home.marks.items (vec_capacity home.marks) (g.M.Machine.shard home.machine) (g.M.Machine.gate home.machine) end.sound none in
    (rw c.into_inner.ensures at c.take_apart.ensures.left) n layout found run before
    (by_origin G.is_shut G.faults G.shard G.logs o home.origin n layout run found (g.M.Machine.shard home.machine) (g.M.Machine.gate home.machine)
    (same_origin o home.origin (pass_origin (get_or P.items 0 d)) (new 0 d (omega arith)).1 (end.origin 0 d first)) is.shard_is is.run_is is.found_is is.layout_is m))

pub returns-clause-fine : goal.returns-clause-fine
returns-clause-fine g c =
    let P = c.args.passes in let ok = P.ok in let G = g.M.Gate.Gate in let home = c.close-machine.result in let end = c.close-machine.ensures in let new = c.requires.unused in
    let none = all_empty c.args.lock new.0 P.items (λ k d l. new.1 k d (omega arith)) (notes_of (g.M.Machine.shard home.machine).journal home.marks.items) end.own end.others in
    let m = unused G.is_shut G.faults G.shard G.logs home.origin home.marks.items (vec_capacity home.marks) (g.M.Machine.shard home.machine) (g.M.Machine.gate home.machine) end.sound none in
    (rw c.into_inner.ensures at c.take_apart.ensures.fine) home.origin.shard (layout_of home.origin) home.origin.found.value.items home.origin.run m
