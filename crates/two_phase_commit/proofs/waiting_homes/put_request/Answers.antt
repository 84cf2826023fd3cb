use Rattle.std.proofs.Common.{◌≡◌, cond, ◌&&◌, ◌||◌, sym, ap, subst, ◌∙◌}
use Rattle.clv_base.specs.declared.state.Request.{Request}
use Rattle.clv_base.specs.Orders.{Table, tx_get, tx_same, tx_in, tx_put}
use Rattle.tx_table.specs.Index.{IsIndex}
use Rattle.tx_table.proofs.Laws.{index_renewed}
use Rattle.two_phase_commit.specs.Asked.{IsTold}
use Rattle.two_phase_commit.specs.Waiting.{waits}
use Rattle.two_phase_commit.proofs.waiting_homes.put_request.Goals as goal

pub returns-in-Err-clause-index : goal.returns-in-Err-clause-index
returns-in-Err-clause-index c = c.requires.index

pub returns-in-Err-clause-asked : goal.returns-in-Err-clause-asked
returns-in-Err-clause-asked c = λ t. subst (λ o. IsTold c.args.shard o (tx_get t c.args.requests.now.entries)) (sym (c.reserve.ensures.rows t)) (c.requires.asked t)

pub returns-in-Err-insert_if-clause-index : goal.returns-in-Err-insert_if-clause-index
returns-in-Err-insert_if-clause-index c = λ t. ap (tx_in t) c.in-Err-insert_if.ensures.err ∙ c.requires.index t

pub returns-in-Err-insert_if-clause-asked : goal.returns-in-Err-insert_if-clause-asked
returns-in-Err-insert_if-clause-asked c = λ t. subst (λ o. IsTold c.args.shard o (tx_get t c.args.requests.now.entries)) (sym (c.reserve.ensures.rows t)) (c.requires.asked t)

pub returns-in-Ok-insert-clause-index : goal.returns-in-Ok-insert-clause-index
returns-in-Ok-insert-clause-index c =
    let tx = c.args.tx in let rows = c.args.requests.now.entries in let old = c.args.waiting.now in let mid = c.insert_if.new.self in
    let put : c.insert.new.self.entries ≡ tx_put tx c.args.request rows = c.in-Ok-insert.ensures.entries in
    subst (λ (es : Table Request). IsIndex (waits c.args.shard) es c.keep_if.new.self) (sym put)
    (index_renewed (waits c.args.shard) tx c.args.request rows old mid c.keep_if.new.self c.requires.index
    (λ t. c.in-Ok-insert_if.ensures.members t ∙ ap (λ b. cond (tx_same tx t) (b || tx_in t old) (tx_in t old)) c.waits-waits.ensures)
    (λ t. c.keep_if.ensures.members t ∙ ap (λ b. cond (tx_same tx t) (b && tx_in t mid) (tx_in t mid)) c.waits-waits.ensures))
