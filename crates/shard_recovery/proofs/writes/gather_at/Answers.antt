use Rattle.std.proofs.Common.{◌++◌, ◌-◌, [], ◌∷◌, drop, append-nil, append_assoc, sym, ap, ◌∙◌, arith}
use Rattle.std.specs.List.{cons_option}
use Rattle.clv_base.specs.Logs.{standing}
use Rattle.log_analysis.proofs.Laws.Standing.{lsn_inside}
use Rattle.shard_recovery.specs.Winning.{wins_in, kept_writes}
use Rattle.shard_recovery.proofs.Sorted.{kept_more}
use Rattle.shard_recovery.proofs.writes.gather_at.Goals as goal

pub bounds-log-lsns : goal.bounds-log-lsns
bounds-log-lsns c = lsn_inside c.args.log.now c.args.lsns.now (c.loop-place.place - 1) c.requires.stand (omega arith)

pub offset_bounds-log-lsns : goal.offset_bounds-log-lsns
offset_bounds-log-lsns c = let inside = lsn_inside c.args.log.now c.args.lsns.now (c.loop-place.place - 1) c.requires.stand (omega arith) in let fine = c.well_formed in omega arith

pub loop-place-preserved-in-Continue-1 : goal.loop-place-preserved-in-Continue-1
loop-place-preserved-in-Continue-1 c =
    let log = c.args.log.now in let keep = wins_in log c.args.doubtful.now in let so_far = kept_writes keep (drop c.loop-place.place (standing log)) in
    c.in_ok-push.ensures.items ∙ ap (λ l. l ++ c.in-Some.write ∷ []) c.loop-place.invariant
    ∙ append_assoc c.args.first.items so_far (c.in-Some.write ∷ [])
    ∙ ap (λ o. c.args.first.items ++ (so_far ++ cons_option o [])) (sym c.in-Some.is ∙ c.written.ensures log c.requires.knows)
    ∙ ap (λ l. c.args.first.items ++ l) (sym (kept_more keep log c.args.lsns.now c.loop-place.place c.index-log-lsns.result c.requires.stand (omega arith) (omega arith) c.index-log-lsns.is))

pub loop-place-preserved : goal.loop-place-preserved
loop-place-preserved c =
    let log = c.args.log.now in let keep = wins_in log c.args.doubtful.now in let so_far = kept_writes keep (drop c.loop-place.place (standing log)) in
    c.loop-place.invariant ∙ ap (λ l. c.args.first.items ++ l)
    (sym (append-nil so_far)
    ∙ ap (λ o. so_far ++ cons_option o []) (sym c.in_default.is ∙ c.written.ensures log c.requires.knows)
    ∙ sym (kept_more keep log c.args.lsns.now c.loop-place.place c.index-log-lsns.result c.requires.stand (omega arith) (omega arith) c.index-log-lsns.is))
