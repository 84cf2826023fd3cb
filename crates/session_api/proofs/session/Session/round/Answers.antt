use Rattle.std.proofs.Common.{length, false, replicate, refl}
use Rattle.session_ops.specs.Rounds.{IsOwn, Every, NoShard}
use Rattle.session_ops.proofs.Laws.{told_more}
use Rattle.session_api.proofs.AfterRounds.{round_session, none_true}
use Rattle.session_api.proofs.New.{ready_walker}
use Rattle.session_api.proofs.session.Session.round.Goals as goal

pub round-requires : goal.round-requires
round-requires g c = let s = c.args.self.now in record { walker = ready_walker _ _ _ s.shards.now s.walker s.progress c.requires.session.stands }

pub returns-clause-session : goal.returns-clause-session
returns-clause-session g c = let s = c.args.self.now in let v = c.round.new.walker in let e = c.round.ensures in
    round_session s.shards.now s.walker v s.progress e.round.turns e.round.took e.round.others e.walker.0 e.walker.1 c.requires.session

pub returns-clause-told : goal.returns-clause-told
returns-clause-told g c = let s = c.args.self.now in let w = s.walker in let v = c.round.new.walker in let own = replicate 16 false in
    told_more (length s.shards.now.locks.items) (IsOwn own) NoShard Every w.number w.clock v.clock w.passes.items v.passes.items c.round.result (λ n is. none_true own n refl is) c.round.ensures.told
