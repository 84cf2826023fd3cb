use Rattle.crash_laws.proofs.MeetingsFollowPlaces.{meetings_follow_places}
use Rattle.crash_laws.proofs.act.meetings_follow_places.Goals as goal

pub returns : goal.returns
returns c = meetings_follow_places
