use Rattle.interleaving_core.proofs.Puts.{PutsBehind}
use Rattle.interleaving_core.proofs.placing.place_of.Given as goal

abbrev pub invariant-loop-place : goal.invariant-loop-place
invariant-loop-place l = PutsBehind l.entry l.history l.place
