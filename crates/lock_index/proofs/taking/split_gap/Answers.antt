use Rattle.std.proofs.Common.{◌≡◌, sym, ◌∙◌, ap, map, length, List, arith}
use Rattle.std.specs.List.{filter}
use Rattle.std.proofs.lemmas.List.{length-map}
use Rattle.clv_base.specs.declared.modes.Holder.{Holder}
use Rattle.clv_base.specs.Modes.{is_held}
use Rattle.clv_base.specs.Locks.{gap_alone}
use Rattle.lock_table.specs.Rows.{gaps_held}
use Rattle.lock_index.specs.Groups.{rows_of}
use Rattle.lock_index.specs.Rows.{groups}
use Rattle.lock_index.specs.Kept.{take_each}
use Rattle.lock_index.proofs.Grouped.{gaps_held-group}
use Rattle.lock_index.proofs.Copied.{copied_group}
use Rattle.lock_index.proofs.taking.split_gap.Goals as goal

pub gather-requires : goal.gather-requires
gather-requires c = let gs = groups c.args.groups.now.entries in
    let many : length (filter (λ h. is_held (h.mode).gap) c.on.result.now) ≡ gaps_held c.args.lower (rows_of gs) = ap (λ hs. length (filter (λ h. is_held (h.mode).gap) hs)) c.on.ensures ∙ sym (gaps_held-group c.args.lower gs c.requires.kept.apart) in
    record { room = (c.requires.copies.0, (let r = c.requires.copies.1 in omega arith)) }

pub take_copies-requires-clause-room : goal.take_copies-requires-clause-room
take_copies-requires-clause-room c = let gs = groups c.args.groups.now.entries in
    let held : List Holder = filter (λ h. is_held (h.mode).gap) c.on.result.now in
    let many : length held ≡ gaps_held c.args.lower (rows_of gs) = ap (λ hs. length (filter (λ h. is_held (h.mode).gap) hs)) c.on.ensures ∙ sym (gaps_held-group c.args.lower gs c.requires.kept.apart) in
    let len : length c.deref.result.now ≡ length held = ap length (c.deref.ensures.value ∙ c.gather.ensures.gathered) ∙ length-map held gap_alone in
    ((let r = c.requires.room_on in omega arith), (let r = c.requires.room in omega arith))

pub returns-clause-rows : goal.returns-clause-rows
returns-clause-rows c = let gs = groups c.args.groups.now.entries in
    c.take_copies.ensures.rows ∙ (ap (λ l. take_each c.args.new l (rows_of gs)) (c.deref.ensures.value ∙ (c.gather.ensures.gathered ∙ ap (λ hs. map gap_alone (filter (λ h. is_held (h.mode).gap) hs)) c.on.ensures)) ∙ sym (copied_group c.args.lower c.args.new gs c.requires.kept.apart))

pub returns-clause-room_on : goal.returns-clause-room_on
returns-clause-room_on c = λ a. let gs = groups c.args.groups.now.entries in
    let held : List Holder = filter (λ h. is_held (h.mode).gap) c.on.result.now in
    let many : length held ≡ gaps_held c.args.lower (rows_of gs) = ap (λ hs. length (filter (λ h. is_held (h.mode).gap) hs)) c.on.ensures ∙ sym (gaps_held-group c.args.lower gs c.requires.kept.apart) in
    let len : length c.deref.result.now ≡ length held = ap length (c.deref.ensures.value ∙ c.gather.ensures.gathered) ∙ length-map held gap_alone in
    let r = c.take_copies.ensures.room_on a in omega arith

pub returns-clause-room : goal.returns-clause-room
returns-clause-room c = let gs = groups c.args.groups.now.entries in
    let held : List Holder = filter (λ h. is_held (h.mode).gap) c.on.result.now in
    let many : length held ≡ gaps_held c.args.lower (rows_of gs) = ap (λ hs. length (filter (λ h. is_held (h.mode).gap) hs)) c.on.ensures ∙ sym (gaps_held-group c.args.lower gs c.requires.kept.apart) in
    let len : length c.deref.result.now ≡ length held = ap length (c.deref.ensures.value ∙ c.gather.ensures.gathered) ∙ length-map held gap_alone in
    let r = c.take_copies.ensures.room in omega arith
