use Rattle.run_audit_laws.proofs.Runs.{scans_stand_whole}
use Rattle.run_audit_laws.proofs.statements.scans_stand_whole.Goals as goal

pub returns : goal.returns
returns c = scans_stand_whole c.members_are_of_script.ensures
