use Rattle.std.proofs.Common.{◌≡◌, subst, arith, vec_len}
use Rattle.std.specs.List.{All}
use Rattle.clv_base.specs.Shards.{shard_count}
use Rattle.io_model.specs.Sides.{sides_out, sides_told}
use Rattle.turn_lock.specs.Passes.{passes_of}
use Rattle.cluster_closing.specs.Room.{HasRoom}
use Rattle.session_examples.proofs.Ending.{all_back}
use Rattle.session_examples.proofs.reviving.open_revive_close.Goals as goal

pub revive_between-revived-requires-clause-new : goal.revive_between-revived-requires-clause-new
revive_between-revived-requires-clause-new g c = let made = c.in-Ok-open_all.ensures.walkers in let ok = c.in-Ok-open_all.opened.walkers.ok in λ k d l. made.1 k d (omega arith)

pub close_all-left-requires-clause-home : goal.close_all-left-requires-clause-home
close_all-left-requires-clause-home g c = c.revive_between-revived.ensures.home

pub close_all-left-requires-clause-all : goal.close_all-left-requires-clause-all
close_all-left-requires-clause-all g c =
    let sh = c.in-Ok-open_all.opened.shards in let made = c.in-Ok-open_all.ensures.walkers in let long = c.revive_between-revived.ensures.two in
    subst (λ n. All (λ l. passes_of l ≡ n) sh.locks.items) (omega arith) c.in-Ok-open_all.ensures.shards.passes

pub close_all-left-requires-clause-room : goal.close_all-left-requires-clause-room
close_all-left-requires-clause-room g c =
    let sh = c.in-Ok-open_all.opened.shards in let made = c.in-Ok-open_all.ensures.walkers in let long = c.revive_between-revived.ensures.two in
    subst (λ n. HasRoom (vec_len sh.locks) n c.in-Ok-open_all.opened.room) (omega arith) c.in-Ok-open_all.ensures.room

pub close_all-left-requires-clause-out : goal.close_all-left-requires-clause-out
close_all-left-requires-clause-out g c =
    let sh = c.in-Ok-open_all.opened.shards in let count = c.in-Ok-open_all.ensures.shards.count in let ok = sh.locks.ok in λ n l. c.in-Ok-open_all.ensures.out.first n (omega arith)

pub returns-clause-back : goal.returns-clause-back
returns-clause-back g c =
    let sh = c.in-Ok-open_all.opened.shards in let count = c.in-Ok-open_all.ensures.shards.count in let ok = sh.locks.ok in
    let H = g.H.House in let h0 = c.args.house.now in let h1 = c.open_all.new.house in let h2 = c.close_all-left.new.house in
    all_back (shard_count sh.splits) (vec_len sh.locks) (H.faults h0) (H.faults h1) (sides_out (H.is_out h0)) (sides_out (H.is_out h1)) (sides_out (H.is_out h2)) (sides_told (H.story h0)) (sides_told (H.story h1)) c.in-Ok-open_all.ensures.out (omega arith) c.close_all-left.ensures.back c.close_all-left.ensures.others c.requires.inside
