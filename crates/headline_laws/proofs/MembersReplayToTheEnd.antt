-- The members by the logs at the end replay to the map of these logs.
use Rattle.std.proofs.Common.{◌≡◌, sym, subst, ◌∙◌, List}
use Rattle.clv_base.specs.Maps.{replay_map, replay_answers}
use Rattle.clv_base.specs.Logs.{stands}
use Rattle.clv_base.specs.History.{Member, serial_acts, serial_answers}
use Rattle.headline_laws.proofs.LogsAtTheEndMayBeOpened.{logs_at_the_end_are_what_is_left}
use Rattle.headline_laws.specs.Chaining.{MembersReplayToTheEnd}
use Rattle.headline_laws.proofs.MembersReplay.{members_replay}

pub members_replay_to_the_end : MembersReplayToTheEnd
members_replay_to_the_end splits before h after l =
    let e = logs_at_the_end_are_what_is_left splits before h after l in
    let r = members_replay splits before h after e.0 l in (
      subst (λ (ms : List Member). replay_answers (stands before) (serial_acts ms) ≡ serial_answers ms) (sym (e.1).members) r.0,
      subst (λ (ms : List Member). replay_map (stands before) (serial_acts ms) ≡ stands after) (sym (e.1).members) (r.1 ∙ sym (e.1).map),
    )
