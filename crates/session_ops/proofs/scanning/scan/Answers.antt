use Rattle.std.proofs.Common.{◌≡◌, ◌∙◌, ◌+◌, length, Ok, Err, refl, sym, ap, subst, arith, inl}
use Rattle.clv_base.specs.Shards.{shard_count}
use Rattle.session_ops.proofs.Gathering.{nothing_scanned, scanned_on, scan_fails, as_scan}
use Rattle.session_ops.specs.Scanned.{part_on, Scanning}
use Rattle.session_ops.specs.Stepped.{PartTold, PartsTold}
use Rattle.session_ops.proofs.EndParting.{none_so_far, more_so_far, part_fails, parts_told}
use Rattle.session_ops.proofs.scanning.scan.Goals as goal

pub loop-shard-init : goal.loop-shard-init
loop-shard-init g c = let w = c.args.walker.now in let p = c.args.place.now in let sh = c.args.shards.now in (
  c.requires.active,
  (refl, refl),
  (refl, refl),
  inl (ap (λ n. n + 1) c.nth-nth.ensures.number),
  ap (λ n. n + 1) c.nth-nth.ensures.number,
  λ birth is. subst (λ l. Scanning sh.splits 0 w.number w.clock w.passes.items (record { tx = p.tx; birth = birth; nth = p.nth + 1; lo = c.args.lo; hi = c.args.hi }) p.touched (Ok l) w.clock w.passes.items) (sym c.new-pairs.ensures.items)
      (nothing_scanned sh.splits w.number w.clock w.passes.items (record { tx = p.tx; birth = birth; nth = p.nth + 1; lo = c.args.lo; hi = c.args.hi }) p.touched),
  λ birth is. none_so_far sh birth (p.nth + 1) c.args.lo c.args.hi w p c.new-pairs.result.items c.new-pairs.ensures.items,
)

pub loop-shard-preserved : goal.loop-shard-preserved
loop-shard-preserved g c = let w = c.args.walker.now in let u = c.loop-shard.walker in let v = c.scan_part.new.walker in let p = c.args.place.now in let m = c.loop-shard.place in let q = c.scan_part.new.place in let sh = c.args.shards.now in let i = c.loop-shard.invariant in let e = c.in-Ok.ensures in let n = c.loop-shard.shard in (
  e.stands,
  (e.walker.0 ∙ i.1.0, e.walker.1 ∙ i.1.1),
  (e.same.0 ∙ i.2.0, e.same.1 ∙ i.2.1),
  e.under,
  i.4,
  λ birth is. scanned_on sh.splits (length sh.locks.items) w.number w.clock u.clock v.clock n w.passes.items u.passes.items v.passes.items (record { tx = p.tx; birth = birth; nth = p.nth + 1; lo = c.args.lo; hi = c.args.hi }) m.touched q.touched c.loop-shard.pairs.items c.scan_part.new.pairs.items c.in-Ok.field-0 (i.5 birth is)
      (as_scan sh.splits (length sh.locks.items) w.number u.number u.clock v.clock n u.passes.items v.passes.items m.tx p.tx birth (c.nth-nth.result + 1) (p.nth + 1) c.args.lo c.args.hi q.touched c.loop-shard.pairs.items c.scan_part.new.pairs.items (Ok c.in-Ok.field-0) i.1.0 i.2.0 i.4
      (e.turns birth (i.2.1 ∙ is))),
  λ birth is. more_so_far sh birth (p.nth + 1) c.args.lo c.args.hi w p n c.loop-shard.pairs.items c.scan_part.new.pairs.items u v m q c.in-Ok.field-0 (i.6 birth is)
      (subst (λ (k : _). PartTold (part_on sh.splits n c.args.lo c.args.hi) sh birth k n u m c.loop-shard.pairs.items (Ok c.in-Ok.field-0) v q c.scan_part.new.pairs.items) i.4 (e.part birth (i.2.1 ∙ is))),
)

pub returns-in-Err-clause-turns : goal.returns-in-Err-clause-turns
returns-in-Err-clause-turns g c birth is = let w = c.args.walker.now in let u = c.loop-shard.walker in let v = c.scan_part.new.walker in let p = c.args.place.now in let m = c.loop-shard.place in let q = c.scan_part.new.place in let sh = c.args.shards.now in let i = c.loop-shard.invariant in let e = c.in-Err.ensures in let n = c.loop-shard.shard in
    scan_fails sh.splits (length sh.locks.items) w.number w.clock u.clock v.clock n w.passes.items u.passes.items v.passes.items (record { tx = p.tx; birth = birth; nth = p.nth + 1; lo = c.args.lo; hi = c.args.hi }) m.touched q.touched c.loop-shard.pairs.items c.scan_part.new.pairs.items c.in-Err.error (i.5 birth is)
    (as_scan sh.splits (length sh.locks.items) w.number u.number u.clock v.clock n u.passes.items v.passes.items m.tx p.tx birth (c.nth-nth.result + 1) (p.nth + 1) c.args.lo c.args.hi q.touched c.loop-shard.pairs.items c.scan_part.new.pairs.items (Err c.in-Err.error) i.1.0 i.2.0 i.4
    (e.turns birth (i.2.1 ∙ is)))

pub returns-in-Err-clause-parts : goal.returns-in-Err-clause-parts
returns-in-Err-clause-parts g c birth is = let w = c.args.walker.now in let u = c.loop-shard.walker in let v = c.scan_part.new.walker in let p = c.args.place.now in let m = c.loop-shard.place in let q = c.scan_part.new.place in let sh = c.args.shards.now in let i = c.loop-shard.invariant in let e = c.in-Err.ensures in let n = c.loop-shard.shard in
    let below = c.loop-shard-test.true in
    let end = c.shards-shard-end.ensures.shards ∙ ap shard_count c.splits.ensures in
    let count = c.requires.active.ready.walker.count in
    part_fails sh birth (p.nth + 1) c.args.lo c.args.hi w p n c.loop-shard.pairs.items c.scan_part.new.pairs.items u v m q c.in-Err.error (omega arith) (i.6 birth is)
    (subst (λ (k : _). PartTold (part_on sh.splits n c.args.lo c.args.hi) sh birth k n u m c.loop-shard.pairs.items (Err c.in-Err.error) v q c.scan_part.new.pairs.items) i.4 (e.part birth (i.2.1 ∙ is)))

pub returns-clause-parts : goal.returns-clause-parts
returns-clause-parts g c birth is = let w = c.args.walker.now in let u = c.loop-shard.walker in let p = c.args.place.now in let m = c.loop-shard.place in let sh = c.args.shards.now in let i = c.loop-shard.invariant in
    let below = c.loop-shard.auto.shard-end in
    let past = c.loop-shard-test.false in
    let end = c.shards-shard-end.ensures.shards ∙ ap shard_count c.splits.ensures in
    let count = c.requires.active.ready.walker.count in
    subst (λ l. PartsTold sh birth (p.nth + 1) c.args.lo c.args.hi w p (Ok l) u m) (sym c.new.ensures)
    (parts_told sh birth (p.nth + 1) c.args.lo c.args.hi w p c.loop-shard.shard c.loop-shard.pairs.items u m (omega arith) (i.6 birth is))

pub returns-clause-turns : goal.returns-clause-turns
returns-clause-turns g c birth is = let w = c.args.walker.now in let u = c.loop-shard.walker in let p = c.args.place.now in let m = c.loop-shard.place in let sh = c.args.shards.now in let i = c.loop-shard.invariant in
    let below = c.loop-shard.auto.shard-end in
    let past = c.loop-shard-test.false in
    let end = c.shards-shard-end.ensures.shards ∙ ap shard_count c.splits.ensures in
    let count = c.requires.active.ready.walker.count in
    let all : c.loop-shard.shard ≡ length sh.locks.items = omega arith in
    subst (λ (k : _). Scanning sh.splits k w.number w.clock w.passes.items (record { tx = p.tx; birth = birth; nth = p.nth + 1; lo = c.args.lo; hi = c.args.hi }) m.touched (Ok c.new.result) u.clock u.passes.items) all
    (subst (λ l. Scanning sh.splits c.loop-shard.shard w.number w.clock w.passes.items (record { tx = p.tx; birth = birth; nth = p.nth + 1; lo = c.args.lo; hi = c.args.hi }) m.touched (Ok l) u.clock u.passes.items) (sym c.new.ensures) (i.5 birth is))
