use Rattle.session_ops.specs.Rounds.{FlushedOn}
use Rattle.session_ops.proofs.Noting.{none_passed}
use Rattle.session_ops.proofs.parts.flush.Goals as goal

pub returns-in-Err-clause-flush : goal.returns-in-Err-clause-flush
returns-in-Err-clause-flush g c = let w = c.args.walker.now in let e = c.note_away.ensures in
    none_passed {A = Unit {0}} c.args.own.now (FlushedOn c.args.shard) w.number w.clock w.passes.items c.args.met.now c.note_away.new.self tt e.down (λ q. absurd (e.away q.1), λ a. absurd (e.away a)) (λ a. absurd (e.away a), λ q. absurd (e.away q.1))
