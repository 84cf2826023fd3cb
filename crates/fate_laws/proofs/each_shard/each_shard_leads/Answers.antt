use Rattle.fate_laws.proofs.EachShardLeads.{each_shard_leads}
use Rattle.fate_laws.proofs.each_shard.each_shard_leads.Goals as goal

pub returns : goal.returns
returns c = each_shard_leads
