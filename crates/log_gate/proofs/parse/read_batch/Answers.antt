use Rattle.std.proofs.Common.{◌≡◌, ◌<◌, List, [], ◌∷◌, ◌++◌, length, drop, sym, ◌∙◌, ap, subst, arith, append_assoc, length-drop, refl}
use Rattle.std.proofs.lemmas.List.{append-nil}
use Rattle.std.proofs.lemmas.Bool.Decides.{nat_tests}
use Rattle.clv_base.specs.declared.logs.LogRecord.{LogRecord}
use Rattle.clv_base.specs.FileRules.{passes_file_rules}
use Rattle.log_gate.proofs.Records.{ReadSoFar, read_start, read_more, read_all}
use Rattle.log_gate.proofs.Batches.{begins_inside, batch_fails}
use Rattle.log_gate.proofs.parse.read_batch.Goals as goal

pub loop-rest-init : goal.loop-rest-init
loop-rest-init c = ([], read_start (passes_file_rules c.args.header.now.splits c.args.header.now.shard) c.args.place c.args.payload.now, sym (append-nil c.args.out.now.items))

pub returns-in-Err : goal.returns-in-Err
returns-in-Err c =
    let inv = c.loop-rest.invariant in
    let some : 0 < length c.loop-rest.rest.now = grind (arith, nat_tests, c.loop-rest-test.ensures) in
    batch_fails (passes_file_rules c.args.header.now.splits c.args.header.now.shard) c.args.place c.args.payload.now inv.0 c.args.out.now.items c.loop-rest.out.items c.loop-rest.rest.now _ c.in-Err.error inv.1 some refl c.in-Err.ensures

pub skip-rest-requires : goal.skip-rest-requires
skip-rest-requires c = (begins_inside c.in-Ok.found.0 c.in-Ok.found.1 c.loop-rest.rest.now c.in-Ok.ensures.0 c.in-Ok.ensures.1).0

pub loop-rest-smaller : goal.loop-rest-smaller
loop-rest-smaller c =
    let inside = begins_inside c.in-Ok.found.0 c.in-Ok.found.1 c.loop-rest.rest.now c.in-Ok.ensures.0 c.in-Ok.ensures.1 in
    let less : length c.skip-rest.result.now < length c.loop-rest.rest.now = omega (arith, inside.0, inside.1, ap length c.skip-rest.ensures, length-drop c.in-Ok.found.1 c.loop-rest.rest.now) in
    less

pub loop-rest-preserved : goal.loop-rest-preserved
loop-rest-preserved c =
    let inv = c.loop-rest.invariant in
    let passes = passes_file_rules c.args.header.now.splits c.args.header.now.shard in (
      inv.0 ++ c.in-Ok.found.0 ∷ [],
      subst (ReadSoFar passes c.args.place c.args.payload.now (inv.0 ++ c.in-Ok.found.0 ∷ [])) (sym c.skip-rest.ensures)
          (read_more passes c.args.place c.args.payload.now inv.0 c.loop-rest.rest.now c.in-Ok.found.0 (drop c.in-Ok.found.1 c.loop-rest.rest.now) inv.1 c.in-Ok.ensures.0 c.in-Ok.ensures.2),
      c.in_ok-push.ensures.items ∙ ap (λ (l : List LogRecord). l ++ c.in-Ok.found.0 ∷ []) inv.2 ∙ append_assoc c.args.out.now.items inv.0 (c.in-Ok.found.0 ∷ []),
    )

pub returns : goal.returns
returns c =
    let inv = c.loop-rest.invariant in
    let none : length c.loop-rest.rest.now ≡ 0 = grind (arith, nat_tests, c.loop-rest-test.ensures) in
    let all = read_all (passes_file_rules c.args.header.now.splits c.args.header.now.shard) c.args.place c.args.payload.now inv.0 c.loop-rest.rest.now inv.1 none in
    (inv.0, all.0, all.1, all.2, inv.2)
