use Rattle.std.proofs.Common.{rules, ◌≡◌, ◌<◌, false, length, sym, ap, subst, ◌∙◌}
use Rattle.std.specs.Prelude.{slice_set}
use Rattle.std.specs.List.{AllByRecursion}
use Rattle.clv_base.specs.Shards.{shard_count}
use Rattle.clv_base.specs.Core.{clock_of, put_entry}
use Rattle.clv_base.specs.Journals.{own, has_no_equal_active_birth}
use Rattle.clv_base.specs.Sessions.{is_session}
use Rattle.journal_laws.specs.Worlds.{empty_logs}
use Rattle.crash_laws.specs.Fronts.{LandsBy}
use Rattle.crash_laws.proofs.Laws.{stands, lands_by}
use Rattle.crash_laws.specs.Running.{is_offered, run_step}
use Rattle.interleaving_core.specs.Sound.{world_by, AreSound}
use Rattle.interleaving_core.proofs.Advancing.{shard_there, seat_at, session_one, refused, rival, few_shards, free_there, one_not, made_none, made_some}
use Rattle.interleaving_core.proofs.running.advance.Goals as goal
use Rattle.law_base.proofs.Options.{on_success}

pub is_offered-requires-clause-shards : goal.is_offered-requires-clause-shards
is_offered-requires-clause-shards g c =
    subst (AllByRecursion (λ e. e.0 < 16)) (sym c.as_slice-history.ensures.value) (few_shards c.args.splits.now c.args.world.now.history.items c.requires.splits c.requires.sound.steady.in_shards)

pub is_offered-requires-clause-session : goal.is_offered-requires-clause-session
is_offered-requires-clause-session g c =
    let w = c.args.world.now in let n = c.args.made.now.walker in
    ap (λ h. is_session c.args.splits.now 1 n (own n h)) c.as_slice-history.ensures.value ∙ session_one (g.M.Machine.shard) (g.M.Machine.gate) c.args.splits.now w.seats.items w.history.items n c.requires.sound

pub returns-then-not-branch-clause-step : goal.returns-then-not-branch-clause-step
returns-then-not-branch-clause-step g c =
    let w = c.args.world.now in let made = c.args.made.now in let n = made.shard in let splits = c.args.splits.now in
    let low : n < length w.seats.items = search rules in
    let x = seat_at w.seats.items n low in
    let offered = sym (ap (λ h. is_offered splits h made.walker n made.event) c.as_slice-history.ensures.value) ∙ sym c.in_ok-is_offered.ensures.offered ∙ c.if-not-branch.true in
    (refused (g.M.Machine.shard) (g.M.Machine.gate) splits w.seats.items w.history.items made x.0 c.requires.sound low x.1 offered).step

pub returns-then-has_rival-clause-step : goal.returns-then-has_rival-clause-step
returns-then-has_rival-clause-step g c =
    let sh = g.M.Machine.shard in let w = c.args.world.now in let made = c.args.made.now in let x = c.index.result.now in
    let low : made.shard < length w.seats.items = search rules in
    let rivals : has_no_equal_active_birth (sh x.machine) made.event ≡ false = one_not c.has_rival.result (has_no_equal_active_birth (sh x.machine) made.event) c.has_rival.ensures c.if-has_rival.true in
    (rival sh (g.M.Machine.gate) c.args.splits.now w.seats.items w.history.items made x c.requires.sound low c.index.ensures rivals).step

pub make_entry-requires-clause-shard : goal.make_entry-requires-clause-shard
make_entry-requires-clause-shard g c =
    let sh = g.M.Machine.shard in let w = c.args.world.now in let n = c.args.made.now.shard in let x = c.index_mut.result.now in
    let low : n < length w.seats.items = search rules in
    let st = stands c.args.splits.now (shard_count c.args.splits.now) (world_by sh w.seats.items w.history.items) n (sh x.machine) c.requires.sound.steady
    (shard_there sh (g.M.Machine.gate) w.seats.items n x low c.index_mut.ensures.value) in
    (st.shard, st.run)

pub make_entry-requires-clause-fronts : goal.make_entry-requires-clause-fronts
make_entry-requires-clause-fronts g c =
    let sh = g.M.Machine.shard in let w = c.args.world.now in let n = c.args.made.now.shard in let x = c.index_mut.result.now in
    let low : n < length w.seats.items = search rules in
    (stands c.args.splits.now (shard_count c.args.splits.now) (world_by sh w.seats.items w.history.items) n (sh x.machine) c.requires.sound.steady
    (shard_there sh (g.M.Machine.gate) w.seats.items n x low c.index_mut.ensures.value)).fronts

pub make_entry-requires-clause-lands : goal.make_entry-requires-clause-lands
make_entry-requires-clause-lands g c =
    let sh = g.M.Machine.shard in let w = c.args.world.now in let n = c.args.made.now.shard in let x = c.index_mut.result.now in let v = c.args.made.now.walker in
    let low : n < length w.seats.items = search rules in
    subst (λ k. LandsBy k (sh x.machine)) (sym (c.clock_of-clock.ensures ∙ ap (clock_of v) c.as_slice.ensures.value))
    (lands_by c.args.splits.now (empty_logs (shard_count c.args.splits.now)) (world_by sh w.seats.items w.history.items) n v (sh x.machine) c.requires.splits c.requires.sound.steady
    (shard_there sh (g.M.Machine.gate) w.seats.items n x low c.index_mut.ensures.value))

pub make_entry-requires-clause-birth : goal.make_entry-requires-clause-birth
make_entry-requires-clause-birth g c =
    let sh = g.M.Machine.shard in let seats = c.args.world.now.seats.items in let made = c.args.made.now in let x = c.index_mut.result.now in
    let low : made.shard < length seats = search rules in
    free_there sh seats made x c.index.result.now c.has_rival.result low c.index_mut.ensures.value c.index.ensures c.has_rival.ensures c.if-has_rival.false

pub make_entry-requires-clause-in_order : goal.make_entry-requires-clause-in_order
make_entry-requires-clause-in_order g c =
    let sh = g.M.Machine.shard in let w = c.args.world.now in let n = c.args.made.now.shard in let x = c.index_mut.result.now in
    let low : n < length w.seats.items = search rules in
    c.logs_stay_in_order.ensures c.args.splits.now (world_by sh w.seats.items w.history.items) n (sh x.machine) c.args.made.now.kept c.requires.splits c.requires.sound.steady
    (shard_there sh (g.M.Machine.gate) w.seats.items n x low c.index_mut.ensures.value)

pub returns-in_default-clause-step : goal.returns-in_default-clause-step
returns-in_default-clause-step g c =
    let w = c.args.world.now in let made = c.args.made.now in let x = c.index_mut.result.now in let y = c.make_entry.new.seat in
    let low : made.shard < length w.seats.items = search rules in
    (made_none (g.M.Machine.shard) (g.M.Machine.gate) c.args.splits.now w.seats.items w.history.items made x y c.clock_of-clock.result c.in_ok-entry.field-0 c.requires.sound low c.index_mut.ensures.value
    (c.clock_of-clock.ensures ∙ ap (clock_of made.walker) c.as_slice.ensures.value) c.in_default.is c.in_ok-entry.ensures.makes c.in_ok-entry.ensures.seated).step

pub returns-in_default-clause-sound : goal.returns-in_default-clause-sound
returns-in_default-clause-sound g c =
    let w = c.args.world.now in let made = c.args.made.now in let x = c.index_mut.result.now in let y = c.make_entry.new.seat in
    let low : made.shard < length w.seats.items = search rules in
    (made_none (g.M.Machine.shard) (g.M.Machine.gate) c.args.splits.now w.seats.items w.history.items made x y c.clock_of-clock.result c.in_ok-entry.field-0 c.requires.sound low c.index_mut.ensures.value
    (c.clock_of-clock.ensures ∙ ap (clock_of made.walker) c.as_slice.ensures.value) c.in_default.is c.in_ok-entry.ensures.makes c.in_ok-entry.ensures.seated).sound

pub returns-clause-step : goal.returns-clause-step
returns-clause-step g c =
    let sh = g.M.Machine.shard in let gt = g.M.Machine.gate in let splits = c.args.splits.now in
    let w = c.args.world.now in let made = c.args.made.now in let x = c.index_mut.result.now in let y = c.make_entry.new.seat in
    let low : made.shard < length w.seats.items = search rules in
    let free = free_there sh w.seats.items made x c.index.result.now c.has_rival.result low c.index_mut.ensures.value c.index.ensures c.has_rival.ensures c.if-has_rival.false in
    let offered = sym (ap (λ h. is_offered splits h made.walker made.shard made.event) c.as_slice-history.ensures.value) ∙ sym c.in_ok-is_offered.ensures.offered ∙ c.if-not-branch.false in
    let after = c.put_entry.new.history.items in
    on_success c.put_entry.result (after ≡ put_entry (made.shard, c.in-Some.entry) w.history.items) (world_by sh (slice_set w.seats.items made.shard y) after ≡ run_step splits (world_by sh w.seats.items w.history.items) made)
    (λ put. (made_some sh gt splits w.seats.items w.history.items after made x y c.clock_of-clock.result c.in_ok-entry.field-0 c.in-Some.entry c.requires.splits c.requires.sound low c.index_mut.ensures.value free offered
    (c.clock_of-clock.ensures ∙ ap (clock_of made.walker) c.as_slice.ensures.value) c.in-Some.is c.in_ok-entry.ensures.makes c.in_ok-entry.ensures.seated put).step)
    c.put_entry.ensures

pub returns-clause-sound : goal.returns-clause-sound
returns-clause-sound g c =
    let sh = g.M.Machine.shard in let gt = g.M.Machine.gate in let splits = c.args.splits.now in
    let w = c.args.world.now in let made = c.args.made.now in let x = c.index_mut.result.now in let y = c.make_entry.new.seat in
    let low : made.shard < length w.seats.items = search rules in
    let free = free_there sh w.seats.items made x c.index.result.now c.has_rival.result low c.index_mut.ensures.value c.index.ensures c.has_rival.ensures c.if-has_rival.false in
    let offered = sym (ap (λ h. is_offered splits h made.walker made.shard made.event) c.as_slice-history.ensures.value) ∙ sym c.in_ok-is_offered.ensures.offered ∙ c.if-not-branch.false in
    let after = c.put_entry.new.history.items in
    on_success c.put_entry.result (after ≡ put_entry (made.shard, c.in-Some.entry) w.history.items) (AreSound sh gt splits (slice_set w.seats.items made.shard y) after)
    (λ put. (made_some sh gt splits w.seats.items w.history.items after made x y c.clock_of-clock.result c.in_ok-entry.field-0 c.in-Some.entry c.requires.splits c.requires.sound low c.index_mut.ensures.value free offered
    (c.clock_of-clock.ensures ∙ ap (clock_of made.walker) c.as_slice.ensures.value) c.in-Some.is c.in_ok-entry.ensures.makes c.in_ok-entry.ensures.seated put).sound)
    c.put_entry.ensures
