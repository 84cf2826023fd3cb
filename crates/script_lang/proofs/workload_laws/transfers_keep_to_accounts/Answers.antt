use Rattle.script_lang.proofs.Bounds.{keep_to_accounts}
use Rattle.script_lang.proofs.workload_laws.transfers_keep_to_accounts.Goals as goal

pub returns : goal.returns
returns c = keep_to_accounts
