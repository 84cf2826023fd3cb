use Rattle.fate_laws.proofs.Origins.AllComesOfEntries.{all_comes_of_entries}
use Rattle.fate_laws.proofs.origin.all_comes_of_entries.Goals as goal

pub returns : goal.returns
returns c = all_comes_of_entries
