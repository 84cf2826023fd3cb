use mir.Val.{bool_byte}
use Rattle.std.proofs.Common.{◌≡◌, Bool, true, false, refl, suc, add-one, ap, ◌∙◌, arith}
use Rattle.std.proofs.lemmas.List.{take_all}
use Rattle.txn_core.proofs.Totals.{total_of, total_next, total_fits, total_told}
use Rattle.txn_core.proofs.trimming.owed_to.Goals as goal
use Rattle.law_base.proofs.Numbers.{one_if}

byte_is : (b : Bool) → bool_byte b ≡ one_if b
byte_is true = refl
byte_is false = refl

pub overflow_add-count : goal.overflow_add-count
overflow_add-count c =
    let log = c.args.buffer.now.records in let txs = c.args.txs.now in let i = c.loop-tx.tx-index in
    let next = total_next log txs i (record { run = 0; session = 0; serial = 0 }) c.loop-tx-test.true in let most = total_fits log txs (suc i) c.requires.rising in let room = c.room-no_more_than_reserved in
    let aborts = c.from.ensures ∙ byte_is c.has_standing.result ∙ ap one_if c.has_standing.ensures in
    omega (arith, next, most, room.ensures, room.type_inv, c.standing_writes.ensures, aborts, c.requires.room)

pub overflow_add-count-in-loop-tx : goal.overflow_add-count-in-loop-tx
overflow_add-count-in-loop-tx c =
    let log = c.args.buffer.now.records in let txs = c.args.txs.now in let i = c.loop-tx.tx-index in
    let next = total_next log txs i (record { run = 0; session = 0; serial = 0 }) c.loop-tx-test.true in let most = total_fits log txs (suc i) c.requires.rising in let room = c.room-no_more_than_reserved in
    let aborts = c.from.ensures ∙ byte_is c.has_standing.result ∙ ap one_if c.has_standing.ensures in
    omega (arith, c.loop-tx.invariant, next, most, room.ensures, room.type_inv, c.standing_writes.ensures, aborts, c.requires.room)

pub loop-tx-preserved : goal.loop-tx-preserved
loop-tx-preserved c =
    let log = c.args.buffer.now.records in let txs = c.args.txs.now in let i = c.loop-tx.tx-index in
    let next = total_next log txs i (record { run = 0; session = 0; serial = 0 }) c.loop-tx-test.true in let aborts = c.from.ensures ∙ byte_is c.has_standing.result ∙ ap one_if c.has_standing.ensures in
    rw add-one (omega (arith, c.loop-tx.invariant, next, c.standing_writes.ensures, aborts))

pub returns : goal.returns
returns c =
    let log = c.args.buffer.now.records in let txs = c.args.txs.now in let was = c.loop-tx.invariant in
    was ∙ ap (total_of log) (take_all c.loop-tx.tx-index txs (omega (arith, c.loop-tx-test.false))) ∙ total_told log txs c.requires.rising
