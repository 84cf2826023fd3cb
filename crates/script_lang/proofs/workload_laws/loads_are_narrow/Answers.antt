use Rattle.script_lang.proofs.Narrow.{loads_are_narrow}
use Rattle.script_lang.proofs.workload_laws.loads_are_narrow.Goals as goal

pub returns : goal.returns
returns c = loads_are_narrow
