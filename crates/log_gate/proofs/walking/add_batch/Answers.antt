use Rattle.std.proofs.Common.{◌≡◌, take, drop, Ok, Err}
use Rattle.std.proofs.lemmas.Result.{err_from_is_err_and}
use Rattle.clv_base.specs.FileRules.{passes_file_rules}
use Rattle.log_gate.specs.Opening.{AddsBatch}
use Rattle.log_gate.proofs.Looking.{tells_looks}
use Rattle.log_gate.proofs.Pieces.{batch_added, batch_broken, still_good}
use Rattle.log_gate.proofs.walking.add_batch.Goals as goal

pub returns-in_err-read_batch-clause-told : goal.returns-in_err-read_batch-clause-told
returns-in_err-read_batch-clause-told g c =
    let passes = passes_file_rules c.args.header.now.splits c.args.header.now.shard in
    let into = c.fill.new.into in
    let old = c.args.out.now.items in
    let new = c.read_batch.new.out.items in
    let p = err_from_is_err_and c.from_residual-in_err-read_batch.result c.from_residual-in_err-read_batch.ensures.1 in
    rw p.1
    (tells_looks _ _ (λ bytes. take c.args.size into ≡ take c.args.size (drop c.args.place bytes)) (AddsBatch {A = Unit {0}} passes c.args.place c.args.size old new (Err p.0))
    (λ bytes piece. batch_broken passes c.args.place c.args.size bytes (take c.args.size into) old new piece c.in_err-read_batch.field-0.0 p.0 p.2 c.in_err-read_batch.ensures)
    c.in_ok-fill.ensures.told)

pub returns-clause-told : goal.returns-clause-told
returns-clause-told g c =
    let passes = passes_file_rules c.args.header.now.splits c.args.header.now.shard in
    let into = c.fill.new.into in
    let old = c.args.out.now.items in
    let new = c.read_batch.new.out.items in
    tells_looks _ _ (λ bytes. take c.args.size into ≡ take c.args.size (drop c.args.place bytes)) (AddsBatch {A = Unit {0}} passes c.args.place c.args.size old new (Ok tt))
    (λ bytes piece. batch_added passes c.args.place c.args.size bytes (take c.args.size into) old new piece c.in_ok-read_batch.ensures)
    c.in_ok-fill.ensures.told

pub returns-clause-good : goal.returns-clause-good
returns-clause-good g c =
    let passes = passes_file_rules c.args.header.now.splits c.args.header.now.shard in
    still_good passes c.args.place (take c.args.size c.fill.new.into) c.args.out.now.items c.read_batch.new.out.items c.in_ok-read_batch.ensures
