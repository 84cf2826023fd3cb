use Rattle.std.proofs.Common.{refl, eq-eqb, ne_eqb}
use Rattle.log_rules.proofs.Barring.{held_elsewhere, held_here}
use Rattle.log_rules.proofs.index.Index.add_prepare.Goals as goal

pub returns-then-home-self : goal.returns-then-home-self
returns-then-home-self c = record {
  keeps = record { shard = refl; last = refl; restart_at = refl; facts = refl };
  writes = refl;
  listers = c.in_ok-add_all.ensures;
  barring = λ t. held_elsewhere c.args.tx t _ c.args.self.now.barring _ (ne_eqb _ _ c.if-home-self.true) (c.remove.ensures.members t);
}

pub returns-else-home-self : goal.returns-else-home-self
returns-else-home-self c = record {
  keeps = record { shard = refl; last = refl; restart_at = refl; facts = refl };
  writes = refl;
  listers = c.in_ok-add_all.ensures;
  barring = λ t. held_here c.args.tx t _ c.args.self.now.barring (eq-eqb _ _ c.if-home-self.false);
}
