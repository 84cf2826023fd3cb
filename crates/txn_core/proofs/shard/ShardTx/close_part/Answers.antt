-- What was reserved for the closing is used, or given back.
use Rattle.std.proofs.Common.{◌≤◌, ap, subst, ◌∙◌, arith}
use Rattle.txn_core.specs.State.{TxState}
use Rattle.txn_core.specs.Sound.{is_here, owed_by}
use Rattle.txn_core.proofs.Returning.{closing_fits, closing_back}
use Rattle.txn_core.proofs.shard.ShardTx.close_part.Goals as goal

pub trim_to-requires : goal.trim_to-requires
trim_to-requires g c =
    let s = c.args.self.now in let m = c.reserve.new.self in let t = c.close_as-closing.new.self in
    let enough = subst (λ (v : TxState). owed_by (is_here v.local) (v.local).log ≤ v.room) c.self.view_is c.self.invariant.sound.room in
    let fits = closing_fits c.args.tx c.args.home c.args.one_shard s m t c.requires.active c.reserve.ensures.same c.close_as-closing.ensures.closed enough in
    let same = c.room-room.ensures ∙ ap (λ (v : TxState). v.room) c.self.view_is in
    omega (arith, fits, same)

pub returns-clause-room : goal.returns-clause-room
returns-clause-room g c =
    let s = c.args.self.now in let m = c.reserve.new.self in let t = c.close_as-closing.new.self in
    let same = c.room-room.ensures ∙ ap (λ (v : TxState). v.room) c.self.view_is in
    (closing_back c.args.tx c.args.home c.args.one_shard s m t c.requires.active c.reserve.ensures.same c.close_as-closing.ensures.closed c.trim_to.new.self c.room-room.result _ c.in-Ok-reserve.ensures.made.0 c.close_as-closing.ensures.room same c.trim_to.ensures).0

pub returns-clause-given_back : goal.returns-clause-given_back
returns-clause-given_back g c =
    let s = c.args.self.now in let m = c.reserve.new.self in let t = c.close_as-closing.new.self in
    let same = c.room-room.ensures ∙ ap (λ (v : TxState). v.room) c.self.view_is in
    (closing_back c.args.tx c.args.home c.args.one_shard s m t c.requires.active c.reserve.ensures.same c.close_as-closing.ensures.closed c.trim_to.new.self c.room-room.result _ c.in-Ok-reserve.ensures.made.0 c.close_as-closing.ensures.room same c.trim_to.ensures).1
