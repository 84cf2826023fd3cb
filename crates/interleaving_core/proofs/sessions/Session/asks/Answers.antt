use Rattle.std.proofs.Common.{sym, ◌∙◌}
use Rattle.interleaving_core.proofs.Entries.{asked_fit}
use Rattle.interleaving_core.proofs.sessions.Session.asks.Goals as goal

pub returns-clause-fits : goal.returns-clause-fits
returns-clause-fits c h = asked_fit c.args.shard c.args.touched.now c.args.own.now (sym c.if-not-same_touched.ensures) (sym c.is_lowest.ensures ∙ h) c.requires.rise c.requires.low
