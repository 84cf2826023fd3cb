use Rattle.law_base.proofs.Places.{spelled_plain}
use Rattle.log_standby.proofs.standby.judge.Goals as goal

pub disorder-requires : goal.disorder-requires
disorder-requires c = record { plain = spelled_plain c.args.log.now c.requires.spelled }
