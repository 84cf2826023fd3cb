-- The laws over all histories, gathered.
use Rattle.history_laws.proofs.NeverTakenBack.{never_taken_back}
use Rattle.history_laws.proofs.SessionsKeepTheirOrder.{sessions_keep_their_order, outcomes_are_one}
use Rattle.fate_laws.proofs.CausesStand.{causes_stand}
use Rattle.fate_laws.proofs.Waits.WaitsGoDown.{waits_go_down, waits_have_no_cycle}
use Rattle.headline_laws.proofs.AcknowledgedStand.{acknowledged_are_members}
use Rattle.headline_laws.proofs.LogsLeftMayBeOpened.{logs_left_may_be_opened}
use Rattle.headline_laws.proofs.LogsAtTheEndMayBeOpened.{logs_at_the_end_may_be_opened}
use Rattle.headline_laws.specs.Promise.{Promise}
use Rattle.headline_laws.proofs.MembersReplay.{members_replay}
use Rattle.headline_laws.proofs.PredecessorsStandBefore.{predecessors_stand_before}
use Rattle.headline_laws.proofs.SettledIsTheMap.{settled_is_the_map}

pub promise : Promise
promise splits before h after choice l =
    let replays = members_replay splits before h after choice l in
    record {
      answers = replays.0;
      map = replays.1;
      acknowledged = λ t a. acknowledged_are_members splits before h after choice t l.legal a;
      stay = λ h' after' later l' on. never_taken_back splits before h after h' after' later l l' on;
      predecessors = λ n t p i member is. predecessors_stand_before splits before h after choice n t p l i member is;
      sessions = sessions_keep_their_order splits before h after choice l.legal;
      causes = λ so_far rest e t cause is tells. causes_stand splits before h after so_far rest e t cause l is tells;
      one_outcome = λ t a. outcomes_are_one splits before h after t l.legal a;
      waits = λ t u w. waits_go_down splits before h after t u l w;
      no_cycle = λ t w. waits_have_no_cycle splits before h after t l w;
      settled = λ q. settled_is_the_map splits before h after choice l q;
      opens = logs_left_may_be_opened splits before h after choice l;
      opens_at_the_end = logs_at_the_end_may_be_opened splits before h after l;
    }
