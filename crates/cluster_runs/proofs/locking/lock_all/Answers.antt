use Rattle.std.proofs.Common.{◌≡◌, ◌∙◌, ◌<◌, ◌^◌, true, map, length, get_or, sym, ap, subst, arith}
use Rattle.clv_base.specs.LogRules.{log_of}
use Rattle.clv_base.specs.FileRules.{may_open}
use Rattle.clv_base.specs.Restarts.{run_after}
use Rattle.cluster_opening.specs.Logs.{LogsOfAll}
use Rattle.cluster_opening.proofs.Laws.{few_shards}
use Rattle.cluster_opening.specs.AllOpened.{IsOpenedAt}
use Rattle.cluster_runs.specs.Begun.{told_as, IsTakenBack}
use Rattle.cluster_runs.proofs.Dealing.{passes_each}
use Rattle.cluster_runs.proofs.Taking.{stopped}
use Rattle.cluster_runs.proofs.locking.lock_all.Goals as goal
use Rattle.law_base.proofs.Logs.{least_run}
use Rattle.io_model.specs.Sides.{sides_out, sides_told}

pub open_shards-requires-clause-run : goal.open_shards-requires-clause-run
open_shards-requires-clause-run g c = let F = c.requires.found.3 in let is = F.run_is in let least = least_run (map (λ v. v.items) c.args.found.logs.items) in omega arith

pub open_shards-requires-clause-gates : goal.open_shards-requires-clause-gates
open_shards-requires-clause-gates g c = (c.requires.found.3).gates_are

pub open_shards-requires-clause-few : goal.open_shards-requires-clause-few
open_shards-requires-clause-few g c =
    let F = c.requires.found.3 in let many = F.gates_are.count in let logs = F.held.count in let few = few_shards c.args.found.splits F.held.splits_rise in let ok = c.args.found.gates.ok in omega arith

pub undo-error-requires-clause-opened : goal.undo-error-requires-clause-opened
undo-error-requires-clause-opened g c = ((record { splits = c.args.found.splits }), c.args.found.run, c.args.walkers, map (λ v. v.items) c.args.found.logs.items, c.requires.some, c.in-Err.ensures.opened)

pub returns-in-Ok-clause-locked : goal.returns-in-Ok-clause-locked
returns-in-Ok-clause-locked g c = λ c0 o0 s0 F. (
    let splits = c.args.found.splits in let made = c.in-Ok.ensures in let okG = c.args.found.gates.ok in let all = made.all in let many = F.gates_are.count in let logs = F.held.count in
    let same = ap (λ v. map (λ l. l.items) v.items) (sym c.of-found.ensures) in record {
      shards = record {
        splits_rise = F.held.splits_rise;
        each_log = ap length (sym same) ∙ F.held.count;
        run_fits = subst (λ r. r < 2 ^ 32) (F.run_is ∙ ap run_after same) F.run_fits;
      };
      held = subst (λ z. LogsOfAll splits z s0) same F.held;
      may = subst (λ z. may_open splits z ≡ true) same F.may;
      run = F.run_is ∙ ap run_after same;
      count = omega arith;
      passes = passes_each (record { splits = c.args.found.splits }) c.args.found.run c.args.walkers (map (λ v. v.items) c.args.found.logs.items) c.open_shards.new.locks.items c.open_shards.new.passes.items made.len made.opened;
    })

pub returns-in-Ok-clause-opened : goal.returns-in-Ok-clause-opened
returns-in-Ok-clause-opened g c =
    let made = c.in-Ok.ensures in let L = c.open_shards.new.locks in let P = c.open_shards.new.passes in let okL = L.ok in let okP = P.ok in let len = made.len in
    let same = ap (λ v. map (λ l. l.items) v.items) (sym c.of-found.ensures) in
    (omega arith, λ n d e l. subst (λ z. IsOpenedAt (record { splits = c.args.found.splits }) c.args.found.run c.args.walkers n (log_of z n) (get_or L.items n d) (get_or P.items n e).items) same (made.opened n d e l))

pub returns-in-Err-clause-taken_back : goal.returns-in-Err-clause-taken_back
returns-in-Err-clause-taken_back g c = λ c0 o0 s0 F. (
    let V = c.args.found.gates.items in let L = map (λ v. v.items) c.args.found.logs.items in let run = c.args.found.run in let G = g.M.Gate.Gate in let told = g.M.OverDisks.story in
    let s = c.in-Err.stopped in let made = c.in-Err.ensures in let st = made.stopped.1 in let above = st.above in let okR = s.rest.ok in let many = F.gates_are.count in let logs = F.held.count in
    let h1 = c.args.house.now in let h2 = c.undo-error.new.house in let faults = g.H.House.faults in let out = g.H.House.is_out in let story = g.H.House.story in
    let undone = c.undo-error.ensures in
    subst (λ z. IsTakenBack c0 (faults h2) (sides_out (out h2)) s0 (sides_told (story h2)) z) (ap (told_as s.shard) (sym undone.error) ∙ sym c.told_as.ensures)
    (stopped G.is_shut G.faults G.shard G.logs told c.args.found.splits L run V s.shard s.error c0 (faults h1) (faults h2) o0 (sides_out (out h1)) (sides_out (out h2)) s0 (sides_told (story h1)) (sides_told (story h2)) F st.is_shard
    (undone.back (record { splits = c.args.found.splits }) run c.args.walkers L V made.opened st) (undone.counts (record { splits = c.args.found.splits }) run L V (λ n d l. (F.gates_are.each n d (omega arith)).fine) st) (λ n l. undone.others n (omega arith))))
