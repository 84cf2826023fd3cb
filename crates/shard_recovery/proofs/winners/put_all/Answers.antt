use Rattle.std.proofs.Common.{[], ◌∷◌, ◌++◌, take, sym, ap, ◌∙◌}
use Rattle.std.proofs.lemmas.List.{take_more}
use Rattle.clv_base.specs.Maps.{KeyMap, map_set}
use Rattle.clv_base.specs.Restarts.{records_of}
use Rattle.clv_base.specs.Needs.{value_at}
use Rattle.shard_recovery.specs.Winning.{left_at, writes_after}
use Rattle.shard_recovery.proofs.Folded.{value_of}
use Rattle.shard_recovery.proofs.Sorted.{writes_more}
use Rattle.shard_recovery.proofs.winners.put_all.Goals as goal

pub loop-write-preserved : goal.loop-write-preserved
loop-write-preserved g c =
    let writes = c.args.writes.now in let i = c.loop-write.write-index in let w = c.write-item.result in
    let m : KeyMap = writes_after (take i writes) [] in
    let held = c.reserve.ensures.records ∙ c.loop-write.invariant in
    c.set.ensures.records m held
    ∙ ap (λ v. records_of (map_set w.key v m)) (c.value_left-value.ensures ∙ ap (λ rs. left_at w.left (value_at w.key rs)) held ∙ ap (left_at w.left) (value_of w.key m))
    ∙ ap records_of
    (sym (writes_more (take i writes) w [])
    ∙ ap (λ x. writes_after (take i writes ++ x ∷ []) []) c.write-item.is
    ∙ ap (λ l. writes_after l []) (sym (take_more writes i w c.loop-write-test.true)))
