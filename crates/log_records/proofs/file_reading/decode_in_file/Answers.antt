use Rattle.std.proofs.Common.{◌≡◌, ℕ, List, Some, sym, ap, subst, ◌∙◌, arith}
use Rattle.std.proofs.lemmas.Result.{err_from_is_err_and}
use Rattle.log_records.specs.declared.error.DecodeError.TheVariants.{Bad}
use Rattle.log_records.specs.FileSpelling.{BeginsInFile}
use Rattle.log_records.proofs.Laws.FileSpellings.{read_begins_in_file, is_behind_in_file, only_memory_in_file, none_spelled_in_file, one_beginning_in_file}
use Rattle.log_records.proofs.file_reading.decode_in_file.Goals as goal

pub returns-in_err-record-clause-bad : goal.returns-in_err-record-clause-bad
returns-in_err-record-clause-bad c = λ is r behind b.
    let p = err_from_is_err_and c.from_residual.result c.from_residual.ensures.1 in
    let bad : c.in_err-record.field-0.0 ≡ Bad = cc in
    none_spelled_in_file c.in_err-record.field-0.0 c.args.bytes.now r behind bad c.in_err-record.ensures b

pub returns-in_err-record-clause-only : goal.returns-in_err-record-clause-only
returns-in_err-record-clause-only c = λ r behind b.
    let p = err_from_is_err_and c.from_residual.result c.from_residual.ensures.1 in
    rw (p.1, p.2) (only_memory_in_file c.in_err-record.field-0.0 c.args.bytes.now r behind c.in_err-record.ensures b)

pub overflow_sub-result : goal.overflow_sub-result
overflow_sub-result c =
    (is_behind_in_file c.in_ok-record.record c.in_ok-record.rest.now c.args.bytes.now (read_begins_in_file c.args.bytes.now c.in_ok-record.record c.in_ok-record.rest.now (λ i. omega (arith, c.type_inv.bytes i)) c.in_ok-record.ensures)).shorter

pub returns-clause-found : goal.returns-clause-found
returns-clause-found c =
    let b = read_begins_in_file c.args.bytes.now c.in_ok-record.record c.in_ok-record.rest.now (λ i. omega (arith, c.type_inv.bytes i)) c.in_ok-record.ensures in
    let k = is_behind_in_file c.in_ok-record.record c.in_ok-record.rest.now c.args.bytes.now b in
    subst (λ (l : List ℕ). BeginsInFile c.in_ok-record.record l c.args.bytes.now) (sym k.is) b

pub returns-clause-size : goal.returns-clause-size
returns-clause-size c =
    (is_behind_in_file c.in_ok-record.record c.in_ok-record.rest.now c.args.bytes.now (read_begins_in_file c.args.bytes.now c.in_ok-record.record c.in_ok-record.rest.now (λ i. omega (arith, c.type_inv.bytes i)) c.in_ok-record.ensures)).size

pub returns-clause-only : goal.returns-clause-only
returns-clause-only c = λ r behind b.
    (one_beginning_in_file c.in_ok-record.record r c.in_ok-record.rest.now behind c.args.bytes.now (read_begins_in_file c.args.bytes.now c.in_ok-record.record c.in_ok-record.rest.now (λ i. omega (arith, c.type_inv.bytes i)) c.in_ok-record.ensures) b).0

pub returns-clause-reads : goal.returns-clause-reads
returns-clause-reads c =
    let b = read_begins_in_file c.args.bytes.now c.in_ok-record.record c.in_ok-record.rest.now (λ i. omega (arith, c.type_inv.bytes i)) c.in_ok-record.ensures in
    let k = is_behind_in_file c.in_ok-record.record c.in_ok-record.rest.now c.args.bytes.now b in
    c.in_ok-record.ensures ∙ ap (λ (l : List ℕ). Some (c.in_ok-record.record, l)) (sym k.is)
