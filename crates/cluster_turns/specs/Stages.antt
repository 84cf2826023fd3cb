-- A stage, as the definitions see it.
use Rattle.clv_base.specs.Sessions.{Phase, Touching, Ended, Standing, Told, Refused}
use Rattle.cluster_turns.specs.declared.place.Stage.{Stage}
use Rattle.cluster_turns.specs.declared.place.Stage.TheVariants.{Touching as IsTouching, Ended as IsEnded, Standing as IsStanding, Told as IsTold, Refused as IsRefused}

abbrev pub phase_of : Stage → Phase
phase_of IsTouching = Touching
phase_of IsEnded = Ended
phase_of (IsStanding home) = Standing home
phase_of IsTold = Told
phase_of IsRefused = Refused
