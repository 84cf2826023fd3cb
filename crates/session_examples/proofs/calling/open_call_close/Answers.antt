use Rattle.std.proofs.Common.{◌≡◌, subst, arith, vec_len}
use Rattle.std.specs.List.{All}
use Rattle.clv_base.specs.Shards.{shard_count}
use Rattle.io_model.specs.Sides.{sides_out, sides_told}
use Rattle.turn_lock.specs.Passes.{passes_of}
use Rattle.cluster_closing.specs.Room.{HasRoom}
use Rattle.session_examples.specs.Programs.{AnyMade}
use Rattle.session_examples.proofs.Walking.{all_home}
use Rattle.session_examples.proofs.Ending.{all_back, has_run}
use Rattle.session_examples.proofs.calling.open_call_close.Goals as goal

pub call_and_look-answers-requires-clause-new : goal.call_and_look-answers-requires-clause-new
call_and_look-answers-requires-clause-new g c = let made = c.in-Ok-open_all.ensures.walkers in let ok = c.in-Ok-open_all.opened.walkers.ok in (c.args.first, λ k d l. made.1 k d (omega arith))

pub close_all-left-requires-clause-home : goal.close_all-left-requires-clause-home
close_all-left-requires-clause-home g c = all_home c.in-Ok-open_all.opened.shards c.call_and_look-answers.new.walkers.items c.call_and_look-answers.ensures.rest

pub close_all-left-requires-clause-all : goal.close_all-left-requires-clause-all
close_all-left-requires-clause-all g c =
    let sh = c.in-Ok-open_all.opened.shards in let made = c.in-Ok-open_all.ensures.walkers in let long = c.call_and_look-answers.ensures.two in
    subst (λ n. All (λ l. passes_of l ≡ n) sh.locks.items) (omega arith) c.in-Ok-open_all.ensures.shards.passes

pub close_all-left-requires-clause-room : goal.close_all-left-requires-clause-room
close_all-left-requires-clause-room g c =
    let sh = c.in-Ok-open_all.opened.shards in let made = c.in-Ok-open_all.ensures.walkers in let long = c.call_and_look-answers.ensures.two in
    subst (λ n. HasRoom (vec_len sh.locks) n c.in-Ok-open_all.opened.room) (omega arith) c.in-Ok-open_all.ensures.room

pub close_all-left-requires-clause-out : goal.close_all-left-requires-clause-out
close_all-left-requires-clause-out g c =
    let sh = c.in-Ok-open_all.opened.shards in let count = c.in-Ok-open_all.ensures.shards.count in let ok = sh.locks.ok in λ n l. c.in-Ok-open_all.ensures.out.first n (omega arith)

pub returns-clause-back : goal.returns-clause-back
returns-clause-back g c =
    let sh = c.in-Ok-open_all.opened.shards in let count = c.in-Ok-open_all.ensures.shards.count in let ok = sh.locks.ok in
    let H = g.H.House in let h0 = c.args.house.now in let h1 = c.open_all.new.house in let h2 = c.close_all-left.new.house in
    all_back (shard_count sh.splits) (vec_len sh.locks) (H.faults h0) (H.faults h1) (sides_out (H.is_out h0)) (sides_out (H.is_out h1)) (sides_out (H.is_out h2)) (sides_told (H.story h0)) (sides_told (H.story h1)) c.in-Ok-open_all.ensures.out (omega arith) c.close_all-left.ensures.back c.close_all-left.ensures.others c.requires.inside

pub returns-clause-ran : goal.returns-clause-ran
returns-clause-ran g c =
    let sh = c.in-Ok-open_all.opened.shards in let H = g.H.House in let h0 = c.args.house.now in let h1 = c.open_all.new.house in let h2 = c.close_all-left.new.house in let left = c.close_all-left.result in
    let k = c.close_all-left.ensures.closed c.call_and_look-answers.ensures.rest in
    has_run _ sh c.call_and_look-answers.new.walkers.items k.0 left.history left.down 2 (H.faults h0) (H.faults h1) (H.faults h2) (sides_out (H.is_out h0)) (sides_out (H.is_out h1)) (sides_out (H.is_out h2)) (sides_told (H.story h0)) (sides_told (H.story h1)) (sides_told (H.story h2)) AnyMade c.in-Ok-open_all.ensures.shards c.in-Ok-open_all.ensures.out k.1 tt
