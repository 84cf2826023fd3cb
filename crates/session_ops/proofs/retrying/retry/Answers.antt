use Rattle.std.proofs.Common.{◌<◌, ◌^◌, sym, ap, subst, arith}
use Rattle.clv_base.specs.declared.names.TxId.{TxId}
use Rattle.session_ops.proofs.Again.{retries_next}
use Rattle.session_ops.specs.Retried.{Retried}
use Rattle.session_ops.proofs.retrying.retry.Goals as goal

pub returns-in-Ok : goal.returns-in-Ok
returns-in-Ok g c = let w = c.args.walker.now in let v = c.next_tx.new.walker in let sh = c.args.shards.now in let p = c.args.last.now in let a = c.requires.retriable in let n = c.in-Ok.ensures.next in
    let low32 : c.in-Ok.tx.run < 2 ^ 32 = c.place_of.ensures.run in
    let low64 : c.in-Ok.tx.serial < 2 ^ 64 = (let s = a.ready.walker.serials in let k = n.2 in let is = ap (λ (x : TxId). x.serial) n.0 in omega arith) in
    record { retried = (n.2, subst (λ q. Retried sh w v p q) (sym (c.place_of.ensures.place p)) (retries_next sh w v p c.in-Ok.tx a c.birth-birth.result c.birth-birth.ensures c.in-Ok.ensures.walker n.0 n.3 low32 low64 n.2)) }
