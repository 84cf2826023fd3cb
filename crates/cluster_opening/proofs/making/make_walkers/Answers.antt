use Rattle.std.proofs.Common.{get_or, sym, subst}
use Rattle.clv_base.specs.LogRules.{log_of}
use Rattle.cluster_turns.specs.Walkers.{founds_of}
use Rattle.cluster_opening.specs.AllOpened.{IsOpenedAt}
use Rattle.cluster_opening.proofs.making.make_walkers.Goals as goal

pub make_all-requires-clause-opened : goal.make_all-requires-clause-opened
make_all-requires-clause-opened g c = let sh = c.args.shards.now in
    λ n d e l. subst (λ m. IsOpenedAt (record { splits = sh.splits }) sh.run m n (log_of (founds_of sh) n) (get_or sh.locks.items n d) (get_or c.args.passes.now.items n e).items) (sym c.in_ok-rooms.ensures.len) (c.requires.opened n d e l)
