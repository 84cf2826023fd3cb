use Rattle.std.proofs.Common.{Some, map, sym, ap, ◌∙◌}
use Rattle.history_replay.specs.Transactions.{has_member}
use Rattle.standby_maps.specs.Shown.{shown_by}
use Rattle.standby_maps.proofs.ShownMaps.{nothing_shown, map_shown}
use Rattle.standby_maps.proofs.showing.shown.Goals as goal

pub returns-then-not-all_shown : goal.returns-then-not-all_shown
returns-then-not-all_shown c =
    let streams = map (λ l. l.items) c.args.streams.now in
    sym (nothing_shown (has_member c.in_ok-set.set) c.as_slice.result.now c.in_ok-set.ensures streams (c.as_slice.ensures.value ∙ c.in_ok-members.ensures) (sym c.all_shown.ensures ∙ c.if-not-all_shown.true))

pub returns : goal.returns
returns c =
    let streams = map (λ l. l.items) c.args.streams.now in
    let keep = has_member c.in_ok-set.set in
    ap Some (c.in_ok-fold_all.ensures ∙ ap (shown_by keep streams) c.new-pairs.ensures)
    ∙ sym (map_shown keep c.as_slice.result.now c.in_ok-set.ensures streams (c.as_slice.ensures.value ∙ c.in_ok-members.ensures) (sym c.all_shown.ensures ∙ c.if-not-all_shown.false))
