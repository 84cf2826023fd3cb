use Rattle.std.proofs.Common.{◌≡◌, ◌∙◌, ◌+◌, ◌-◌, [], ◌∷◌, ◌++◌, length-take, map, length, get_or, vec_len, sym, ap, subst, arith}
use Rattle.std.proofs.lemmas.List.{get_or_default, get_or-take, length_push, length-map}
use Rattle.clv_base.specs.LogRules.{log_of}
use Rattle.log_analysis.specs.Facts.{Knows}
use Rattle.log_analysis.proofs.Laws.Tables.{know_left, know_some, know_first}
use Rattle.machine_calls.specs.Recovered.{IsLeft}
use Rattle.cluster_opening.specs.AllOpened.{IsOpenedAt, IsOpenGate}
use Rattle.cluster_opening.proofs.Taking.{log_at, pushed_two}
use Rattle.cluster_opening.proofs.all_opening.open_shards.Goals as goal
use Rattle.law_base.proofs.Options.{some_once as some_same}
use Rattle.machine_calls.specs.Disks.{stories_of}

pub remove-facts-requires : goal.remove-facts-requires
remove-facts-requires g c =
    let k = c.loop-shard.shard in let W = c.args.logs in let okW = W.ok in let okS = c.loop-shard.said.ok in let low = c.loop-shard-test.true in let cnt = c.len-count.ensures in
    let fc = c.requires.gates.count in let lm = length-map W.items (λ v. v.items) in let okV = c.args.gates.ok in let few = c.requires.few in
    let h1 = c.loop-shard.invariant.gates in let y = c.unwrap-log.result in
    let some = know_some c.loop-shard.said.items _ _ (know_left c.loop-shard.said.items W.items k y (omega arith) c.loop-shard.invariant.known) in omega arith

pub open_shard-requires : goal.open_shard-requires
open_shard-requires g c =
    let k = c.loop-shard.shard in let inv = c.loop-shard.invariant in let V = c.args.gates in let W = c.args.logs in let okV = V.ok in let okW = W.ok in
    let F = c.requires.gates in let L = map (λ v. v.items) W.items in let G = g.M.Gate.Gate in
    let x = c.unwrap-gate.result in let y = c.unwrap-log.result in let low = c.loop-shard-test.true in let cnt = c.len-count.ensures in
    let h1 = inv.gates in let h2 = inv.logs in let fc = F.count in let lm = length-map W.items (λ v. v.items) in let few = c.requires.few in
    let gate_is : x ≡ get_or V.items k x = some_same x _ c.pop.result c.unwrap-gate.ensures (c.pop.ensures.value x (omega arith)) ∙ inv.gate k (vec_len c.loop-shard.rest - 1) x (omega arith) (omega arith) in
    let log_is : y ≡ get_or W.items k y = some_same y _ c.pop-in-loop-shard.result c.unwrap-log.ensures (c.pop-in-loop-shard.ensures.value y (omega arith)) ∙ inv.log k (vec_len c.loop-shard.later - 1) y (omega arith) (omega arith) in
    let log_same : log_of L k ≡ y.items = log_at W.items k y (omega arith) ∙ ap (λ v. v.items) (sym log_is) in
    let facts = know_first c.loop-shard.said.items c.remove-facts.result c.remove-facts.new.self.items _ _ c.remove-facts.ensures.value c.remove-facts.ensures.by_index.2
    (know_left c.loop-shard.said.items W.items k y (omega arith) inv.known) in
    let at : IsOpenGate G.is_shut G.faults G.shard G.logs (record { splits = c.args.splits.now }) k y.items x = subst (λ z. IsOpenGate G.is_shut G.faults G.shard G.logs (record { splits = c.args.splits.now }) k z x) log_same (subst (λ z. IsOpenGate G.is_shut G.faults G.shard G.logs (record { splits = c.args.splits.now }) k (log_of L k) z) (sym gate_is) (F.each k x (omega arith))) in
    record {
      some = c.requires.some;
      knows = subst (λ v. Knows c.remove-facts.result v.items) (sym log_is) facts.0;
      shard = (omega arith, at.own);
      run = c.requires.run;
      «open» = (at.is_open, at.fine);
      log = at.log_is;
      spelled = at.spelled;
      in_order = at.in_order;
    }

pub returns-in-Err-clause-stopped : goal.returns-in-Err-clause-stopped
returns-in-Err-clause-stopped g c =
    let k = c.loop-shard.shard in let inv = c.loop-shard.invariant in let V = c.args.gates in let W = c.args.logs in let okV = V.ok in let okW = W.ok in let okR = c.pop.new.self.ok in
    let F = c.requires.gates in let L = map (λ v. v.items) W.items in
    let x = c.unwrap-gate.result in let y = c.unwrap-log.result in let low = c.loop-shard-test.true in let cnt = c.len-count.ensures in
    let h1 = inv.gates in let h2 = inv.logs in let fc = F.count in let lm = length-map W.items (λ v. v.items) in let pl = c.pop.ensures.len in let vr = c.pop.ensures.cases in
    let last = vec_len c.loop-shard.rest - 1 in
    let gate_is : x ≡ get_or V.items k x = some_same x _ c.pop.result c.unwrap-gate.ensures (c.pop.ensures.value x (omega arith)) ∙ inv.gate k last x (omega arith) (omega arith) in
    let log_is : y ≡ get_or W.items k y = some_same y _ c.pop-in-loop-shard.result c.unwrap-log.ensures (c.pop-in-loop-shard.ensures.value y (omega arith)) ∙ inv.log k (vec_len c.loop-shard.later - 1) y (omega arith) (omega arith) in
    let log_same : log_of L k ≡ y.items = log_at W.items k y (omega arith) ∙ ap (λ v. v.items) (sym log_is) in
    let fewer = ap length c.pop.ensures.rest in let most = length-take last c.loop-shard.rest.items in let okO = c.loop-shard.rest.ok in (
      inv.locks,
      record {
        is_shard = omega arith;
        left = λ d. subst (λ z. IsLeft k (record { splits = c.args.splits.now }) z c.args.run (g.M.OverDisks.story (get_or V.items k d)) (stories_of g.D.Disk.story c.in-Err.sides)) (sym log_same)
            (subst (λ z. IsLeft k (record { splits = c.args.splits.now }) y.items c.args.run (g.M.OverDisks.story z) (stories_of g.D.Disk.story c.in-Err.sides)) (gate_is ∙ get_or_default V.items k x d (omega arith)) c.in-Err.ensures.left);
        counts = c.in-Err.ensures.cause;
        above = omega arith;
        rest_are = λ n j d h l. ap (λ z. get_or z j d) c.pop.ensures.rest ∙ get_or-take last c.loop-shard.rest.items j d (omega arith) ∙ inv.gate n j d (omega arith) (omega arith);
      },
    )

pub loop-shard-preserved : goal.loop-shard-preserved
loop-shard-preserved g c =
    let k = c.loop-shard.shard in let inv = c.loop-shard.invariant in let V = c.args.gates in let W = c.args.logs in let okV = V.ok in let okW = W.ok in
    let F = c.requires.gates in let L = map (λ v. v.items) W.items in
    let y = c.unwrap-log.result in let low = c.loop-shard-test.true in let cnt = c.len-count.ensures in
    let h1 = inv.gates in let h2 = inv.logs in let fc = F.count in let lm = length-map W.items (λ v. v.items) in
    let last = vec_len c.loop-shard.rest - 1 in let last2 = vec_len c.loop-shard.later - 1 in
    let okO = c.loop-shard.rest.ok in let okP = c.loop-shard.later.ok in let okR = c.pop.new.self.ok in let okS = c.pop-in-loop-shard.new.self.ok in
    let fewer = ap length c.pop.ensures.rest in let most = length-take last c.loop-shard.rest.items in let fewer2 = ap length c.pop-in-loop-shard.ensures.rest in let most2 = length-take last2 c.loop-shard.later.items in
    let log_is : y ≡ get_or W.items k y = some_same y _ c.pop-in-loop-shard.result c.unwrap-log.ensures (c.pop-in-loop-shard.ensures.value y (omega arith)) ∙ inv.log k last2 y (omega arith) (omega arith) in
    let log_same : log_of L k ≡ y.items = log_at W.items k y (omega arith) ∙ ap (λ v. v.items) (sym log_is) in
    let facts = know_first c.loop-shard.said.items c.remove-facts.result c.remove-facts.new.self.items _ _ c.remove-facts.ensures.value c.remove-facts.ensures.by_index.2
    (know_left c.loop-shard.said.items W.items k y (omega arith) inv.known) in
    let made = c.in-Ok.ensures.passes in let okM = c.in-Ok.mine.ok in let put = c.push_reserved.ensures in let put2 = c.push_reserved-in-Ok.ensures in
    let here : IsOpenedAt (record { splits = c.args.splits.now }) c.args.run c.args.walkers k (log_of L k) c.in-Ok.lock c.in-Ok.mine.items = record {
      many = c.in-Ok.ensures.lock;
      all = (let m = made.2 in omega arith);
      origin = made.0;
      origin_is = record { shard_is = (made.1).shard_is; run_is = (made.1).run_is; found_is = (made.1).found_is ∙ sym log_same; layout_is = (made.1).layout_is };
      new = made.3;
    } in
    let il = inv.locks in let ip = inv.passes in let r1 = inv.room in let r2 = inv.room_too in let c1 = put.capacity in let c2 = put2.capacity in record {
      gates = omega arith;
      logs = omega arith;
      gate = λ n j d h l. ap (λ z. get_or z j d) c.pop.ensures.rest ∙ get_or-take last c.loop-shard.rest.items j d (omega arith) ∙ inv.gate n j d h (omega arith);
      log = λ n j d h l. ap (λ z. get_or z j d) c.pop-in-loop-shard.ensures.rest ∙ get_or-take last2 c.loop-shard.later.items j d (omega arith) ∙ inv.log n j d h (omega arith);
      known = facts.1;
      locks = ap length put.items ∙ length_push c.loop-shard.locks.items c.in-Ok.lock ∙ ap (λ n. n + 1) il;
      passes = ap length put2.items ∙ length_push c.loop-shard.passes.items c.in-Ok.mine ∙ ap (λ n. n + 1) ip;
      room = omega arith;
      room_too = omega arith;
      opened = λ n d e l. subst (λ z. IsOpenedAt (record { splits = c.args.splits.now }) c.args.run c.args.walkers n (log_of L n) (get_or z n d) (get_or c.push_reserved-in-Ok.new.self.items n e).items) (sym put.items)
          (subst (λ z. IsOpenedAt (record { splits = c.args.splits.now }) c.args.run c.args.walkers n (log_of L n) (get_or (c.loop-shard.locks.items ++ c.in-Ok.lock ∷ []) n d) (get_or z n e).items) (sym put2.items)
          (pushed_two (λ i a b. IsOpenedAt (record { splits = c.args.splits.now }) c.args.run c.args.walkers i (log_of L i) a b.items) c.loop-shard.locks.items c.loop-shard.passes.items c.in-Ok.lock c.in-Ok.mine k il ip inv.opened here n d e l));
    }
