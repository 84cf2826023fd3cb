use Rattle.std.proofs.Common.{◌≤◌, ◌+◌, List, length, refl, sym, ◌∙◌, arith}
use Rattle.std.proofs.lemmas.List.{at_drop_all, length-drop}
use Rattle.clv_base.specs.declared.names.TxId.{TxId}
use Rattle.clv_base.specs.OneShard.{add_pairs}
use Rattle.cascade_undo.proofs.Listed.{first_in, add_next, behind_next}
use Rattle.cascade_undo.proofs.deps.Deps.follow.Goals as goal

nobody : TxId
nobody = record { run = 0; session = 0; serial = 0 }

pub loop-pred-init : goal.loop-pred-init
loop-pred-init c = record {
  left = refl;
  commits = refl;
  marked = refl;
  room = refl;
  settled_room = refl;
  ahead = c.requires.0;
  behind = λ p i out. c.requires.1 p i;
  places = c.requires.2;
}

pub add-requires-clause-ahead : goal.add-requires-clause-ahead
add-requires-clause-ahead c = let ps = c.args.preds.now in let i = c.loop-pred.pred-index in let within = c.loop-pred-test.true in
    let len = length-drop i ps in let some = c.loop-pred.invariant.ahead in omega (arith, len, some, within)

pub add-requires-clause-places : goal.add-requires-clause-places
add-requires-clause-places c = let ps = c.args.preds.now in let i = c.loop-pred.pred-index in let within = c.loop-pred-test.true in
    let len = length-drop i ps in let some = c.loop-pred.invariant.places in omega (arith, len, some, within)

pub add-requires-clause-behind : goal.add-requires-clause-behind
unfolding nobody
add-requires-clause-behind c = λ out. c.loop-pred.invariant.behind _ (first_in c.args.preds.now c.loop-pred.pred-index nobody c.loop-pred-test.true) out

pub loop-pred-preserved : goal.loop-pred-preserved
unfolding nobody
loop-pred-preserved c =
    let tx = c.args.tx in let ps = c.args.preds.now in let i = c.loop-pred.pred-index in let within = c.loop-pred-test.true in let d = c.loop-pred.self in let now = c.add.new.self in
    let before = c.loop-pred.invariant in let e = c.add.ensures in let len = length-drop i ps in let len_now = length-drop (i + 1) ps in
    record {
      left = add_next ps i nobody within tx d.pairs now.pairs e.pairs ∙ before.left;
      commits = e.commits ∙ before.commits;
      marked = e.marked ∙ before.marked;
      room = e.room.0 ∙ before.room;
      settled_room = e.room.1 ∙ before.settled_room;
      ahead = let was = before.ahead in let used = e.ahead in omega (arith, len, len_now, was, used, within);
      behind = behind_next ps i nobody within tx d.pairs now.pairs e.pairs d.behind now.behind before.behind e.behind;
      places = let was = before.places in let used = e.places in omega (arith, len, len_now, was, used, within);
    }

pub returns-clause-pairs : goal.returns-clause-pairs
returns-clause-pairs c = let tx = c.args.tx in let ps = c.args.preds.now in let i = c.loop-pred.pred-index in let over : length ps ≤ i = omega arith in
    sym (at_drop_all (λ (l : List TxId). add_pairs tx l c.loop-pred.self.pairs) ps i over) ∙ c.loop-pred.invariant.left
