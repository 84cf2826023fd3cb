use Rattle.std.proofs.Common.{◌≡◌, sym, ap, subst}
use Rattle.clv_base.specs.Shards.{shard_count}
use Rattle.journal_laws.specs.Worlds.{empty_logs, logs_now}
use Rattle.headline_laws.specs.Promise.{Promised}
use Rattle.clv_base.specs.Runs.{run_from, run_events}
use Rattle.crash_laws.specs.Running.{run_step}
use Rattle.interleaving_core.specs.Sound.{as_world, AreSound}
use Rattle.interleaving_core.proofs.Beginning.{sound_new}
use Rattle.interleaving_core.proofs.Stepping.{when_ok, steps_more, steps_all}
use Rattle.interleaving_core.proofs.running.run_events.Goals as goal

pub loop-made-init : goal.loop-made-init
loop-made-init g c =
    let w = c.in_ok-world.world in
    (ap (run_from c.args.splits.now c.args.list.now) c.in_ok-world.ensures.new, sound_new (g.M.Machine.shard) (g.M.Machine.gate) c.args.splits.now w.seats.items w.history.items c.in_ok-world.ensures.new c.in_ok-world.ensures.seats)

pub loop-made-preserved : goal.loop-made-preserved
loop-made-preserved g c =
    let sh = g.M.Machine.shard in let gt = g.M.Machine.gate in let splits = c.args.splits.now in let cs = c.args.list.now in
    let w = c.loop-made.world in let v = c.advance.new.world in let made = c.made-item.result in (
      steps_more splits cs c.loop-made.made-index made (as_world sh w) (as_world sh v) (run_events splits cs) c.loop-made-test.true c.made-item.is
          (when_ok c.advance.result (as_world sh v ≡ run_step splits (as_world sh w) made) c.if-is_err.ensures.value c.advance.ensures.step) c.loop-made.invariant.0,
      when_ok c.advance.result (AreSound sh gt splits v.seats.items v.history.items) c.if-is_err.ensures.value c.advance.ensures.sound,
    )

pub returns-clause-promise : goal.returns-clause-promise
returns-clause-promise g c left choice =
    let sh = g.M.Machine.shard in let splits = c.args.splits.now in let cs = c.args.list.now in
    let now = as_world sh c.loop-made.world in let after = run_events splits cs in
    subst (λ z. Promised splits (empty_logs (shard_count splits)) z.history (logs_now splits z left) choice)
    (sym (steps_all splits cs c.loop-made.made-index now after c.loop-made-test.false c.loop-made.invariant.0)) (c.worlds_keep_promise.ensures splits cs left choice c.as_slice-keys.ensures.splits)
