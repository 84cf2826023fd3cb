use Rattle.std.proofs.Common.{sym, subst}
use Rattle.session_api.specs.Standing.{Holds}
use Rattle.session_api.proofs.Raising.{held_up}
use Rattle.session_api.proofs.calls.ScriptSessionSessionCalls.raise.Goals as goal

pub returns-clause-session : goal.returns-clause-session
returns-clause-session g c = let s = c.args.self.now.session in let h = c.requires.session in
    record {
      holds = subst (λ k. Holds s.shards.now (record s.walker { clock = k }) s.progress) (sym c.max-self.ensures) (held_up s.shards.now c.args.clock s.walker s.progress h.holds c.requires.idle);
      saved = h.saved;
      leads = h.leads;
      numbered = h.numbered;
      rise = h.rise;
    }
