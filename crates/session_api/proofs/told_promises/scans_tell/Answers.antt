use Rattle.session_api.proofs.Scanning.{scans_tell}
use Rattle.session_api.proofs.told_promises.scans_tell.Goals as goal

pub returns : goal.returns
returns g c = scans_tell _ _ _
