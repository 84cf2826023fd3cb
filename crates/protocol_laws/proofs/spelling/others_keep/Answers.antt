use Rattle.protocol_laws.proofs.ChangesKeepSpelling.{ends_keep, records_keep, purges_keep}
use Rattle.protocol_laws.proofs.spelling.others_keep.Goals as goal

pub returns-clause-ends : goal.returns-clause-ends
returns-clause-ends c = ends_keep

pub returns-clause-records : goal.returns-clause-records
returns-clause-records c = records_keep

pub returns-clause-purges : goal.returns-clause-purges
returns-clause-purges c = purges_keep
