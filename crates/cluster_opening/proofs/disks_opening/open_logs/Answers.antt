use Rattle.std.proofs.Common.{◌≡◌, ◌∙◌, ◌+◌, [], ◌∷◌, ◌++◌, map, length, Some, None, refl, ap, sym, subst, arith}
use Rattle.std.proofs.lemmas.List.{length_push, length-map, map-append}
use Rattle.io_model.specs.Sides.{sides_out, sides_told}
use Rattle.log_analysis.specs.Facts.{KnowAll}
use Rattle.log_analysis.proofs.Laws.Tables.{know_count, know_push}
use Rattle.cluster_opening.specs.Logs.{IsGateAt}
use Rattle.cluster_opening.specs.Houses.{AreGates, IsStopped}
use Rattle.cluster_opening.proofs.Growing.{no_gates, none_out, grown, one_out}
use Rattle.cluster_opening.proofs.DisksStopping.{agreed_later, stopped}
use Rattle.cluster_opening.proofs.Reading.{one_unworn}
use Rattle.cluster_opening.proofs.disks_opening.open_logs.Goals as goal

pub returns-in-Err-clause-stopped : goal.returns-in-Err-clause-stopped
returns-in-Err-clause-stopped g c =
    let h = c.args.house.now in let h1 = c.open_one.new.house in let F = g.H.House.faults in let O = g.H.House.is_out in let S = g.H.House.story in
    let e = c.in-Err.ensures in
    subst (λ z. IsStopped z (F h) (F h1) (sides_out (O h1)) (sides_told (S h)) (sides_told (S h1)) c.in-Err.error) (sym c.requires.empty.0)
    (stopped [] [] [] (F h) (F h) (F h1) (sides_out (O h)) (sides_out (O h)) (sides_out (O h1)) (sides_told (S h)) (sides_told (S h)) (sides_told (S h1)) c.requires.inside (no_gates [] (sides_told (S h))) (omega arith) 0 refl (none_out (F h) (F h) (F h) (sides_out (O h)) (sides_out (O h)) (sides_out (O h)) (sides_told (S h)) (sides_told (S h)) (sides_told (S h))) (omega arith) (omega arith) None refl
    c.in-Err.error e.refused e.unchanged e.back e.cause e.others)

pub returns-in-Err-open_one-clause-stopped : goal.returns-in-Err-open_one-clause-stopped
returns-in-Err-open_one-clause-stopped g c =
    let h = c.args.house.now in let h1 = c.loop-shard.house in let h2 = c.open_one-in-loop-shard.new.house in let F = g.H.House.faults in let O = g.H.House.is_out in let S = g.H.House.story in
    let inv = c.loop-shard.invariant in let e = c.in-Err-open_one.ensures in let k = c.loop-shard.shard in let splits = c.in-Ok.found.1.splits in
    let L = map (λ v. v.items) c.loop-shard.logs.items in
    let long : length L ≡ k = length-map c.loop-shard.logs.items (λ v. v.items) ∙ inv.count in
    let low = c.loop-shard-test.true in let first = c.loop-shard.auto.shard in let end = c.shards-shard-end.ensures.shards in let most = c.shards-shard-end.ensures.most in
    stopped splits L c.loop-shard.gates.items (F h) (F h1) (F h2) (sides_out (O h)) (sides_out (O h1)) (sides_out (O h2)) (sides_told (S h)) (sides_told (S h1)) (sides_told (S h2)) c.requires.inside inv.gates (omega arith) k long inv.out (omega arith) (omega arith) (Some splits) (agreed_later k splits (omega arith))
    c.in-Err-open_one.error e.refused e.unchanged e.back e.cause e.others

pub returns-in-Err-clause-unworn : goal.returns-in-Err-clause-unworn
returns-in-Err-clause-unworn g c = one_unworn _ _ _ c.in-Err.error c.in-Err.ensures.refused

pub returns-in-Err-open_one-clause-unworn : goal.returns-in-Err-open_one-clause-unworn
returns-in-Err-open_one-clause-unworn g c = one_unworn _ _ _ c.in-Err-open_one.error c.in-Err-open_one.ensures.refused

pub loop-shard-init : goal.loop-shard-init
loop-shard-init g c =
    let h = c.args.house.now in let h1 = c.open_one.new.house in let F = g.H.House.faults in let O = g.H.House.is_out in let S = g.H.House.story in
    let e = c.in-Ok.ensures in let gate = c.in-Ok.found.0 in let splits = c.in-Ok.found.1.splits in let log = c.in-Ok.found.2 in let said = c.in-Ok.found.3 in
    let put = c.push_reserved.ensures in let put2 = c.push_reserved-2.ensures in let put3 = c.push_reserved-3.ensures in
    let gates : c.push_reserved.new.self.items ≡ gate ∷ [] = put.items ∙ ap (λ l. l ++ gate ∷ []) c.requires.empty.0 in
    let logs : c.push_reserved-2.new.self.items ≡ log ∷ [] = put2.items ∙ ap (λ l. l ++ log ∷ []) c.requires.empty.1 in
    let facts : c.push_reserved-3.new.self.items ≡ said ∷ [] = put3.items ∙ ap (λ l. l ++ said ∷ []) c.requires.no_facts in
    let room = c.requires.room.0 in let room2 = c.requires.room.1 in let room3 = c.requires.room_of_facts in let cap = put.capacity in let cap2 = put2.capacity in let cap3 = put3.capacity in
    record {
      gates = subst (λ z. AreGates splits (map (λ v. v.items) z) c.push_reserved.new.self.items (sides_told (S h))) (sym logs)
          (subst (λ z. AreGates splits (log.items ∷ []) z (sides_told (S h))) (sym gates) (grown splits [] [] (sides_told (S h)) log.items gate 0 refl (no_gates splits (sides_told (S h))) e.found));
      known = subst (λ z. KnowAll c.push_reserved-3.new.self.items (map (λ v. v.items) z)) (sym logs) (subst (λ z. KnowAll z (log.items ∷ [])) (sym facts) (e.knows, tt));
      count = ap length logs;
      room = omega arith;
      room_too = omega arith;
      room_of_facts = omega arith;
      out = one_out (F h) (F h) (F h1) (sides_out (O h)) (sides_out (O h)) (sides_out (O h1)) (sides_told (S h)) (sides_told (S h)) (sides_told (S h1)) 0 (none_out (F h) (F h) (F h1) (sides_out (O h)) (sides_out (O h)) (sides_out (O h1)) (sides_told (S h)) (sides_told (S h)) (sides_told (S h1))) e.out.0 e.out.1 e.others;
    }

pub push_reserved-requires-in-Ok-open_one-3 : goal.push_reserved-requires-in-Ok-open_one-3
push_reserved-requires-in-Ok-open_one-3 g c =
    let inv = c.loop-shard.invariant in let room = inv.room_of_facts in let count = inv.count in let many = know_count c.loop-shard.facts.items c.loop-shard.logs.items inv.known in
    let low = c.loop-shard-test.true in let most = c.shards-shard-end.ensures.most in let ok = c.loop-shard.facts.ok in omega arith

pub loop-shard-preserved : goal.loop-shard-preserved
loop-shard-preserved g c =
    let h = c.args.house.now in let h1 = c.loop-shard.house in let h2 = c.open_one-in-loop-shard.new.house in let F = g.H.House.faults in let O = g.H.House.is_out in let S = g.H.House.story in
    let inv = c.loop-shard.invariant in let e = c.in-Ok-open_one.ensures in let k = c.loop-shard.shard in let splits = c.in-Ok.found.1.splits in
    let L = map (λ v. v.items) c.loop-shard.logs.items in
    let long : length L ≡ k = length-map c.loop-shard.logs.items (λ v. v.items) ∙ inv.count in
    let put = c.push_reserved-in-Ok-open_one.ensures in let put2 = c.push_reserved-in-Ok-open_one-2.ensures in let put3 = c.push_reserved-in-Ok-open_one-3.ensures in
    let here = (inv.out.rest k (omega arith)).1 in
    let gate : IsGateAt splits k c.in-Ok-open_one.log.items (sides_told (S h) k) c.in-Ok-open_one.gate =
    subst (λ z. IsGateAt splits k c.in-Ok-open_one.log.items z c.in-Ok-open_one.gate) here (subst (λ z. IsGateAt z k c.in-Ok-open_one.log.items (sides_told (S h1) k) c.in-Ok-open_one.gate) e.agreed e.found) in
    let logs : map (λ v. v.items) c.push_reserved-in-Ok-open_one-2.new.self.items ≡ L ++ c.in-Ok-open_one.log.items ∷ [] = ap (map (λ v. v.items)) put2.items ∙ map-append (λ v. v.items) c.loop-shard.logs.items (c.in-Ok-open_one.log ∷ []) in
    let more = length_push c.loop-shard.logs.items c.in-Ok-open_one.log in let count = inv.count in let room = inv.room in let room2 = inv.room_too in let room3 = inv.room_of_facts in let cap = put.capacity in let cap2 = put2.capacity in let cap3 = put3.capacity in
    let said = c.in-Ok-open_one.said in
    let facts : KnowAll (c.loop-shard.facts.items ++ said ∷ []) (L ++ c.in-Ok-open_one.log.items ∷ []) = know_push c.loop-shard.facts.items L said c.in-Ok-open_one.log.items inv.known e.knows in
    record {
      gates = subst (λ z. AreGates splits z c.push_reserved-in-Ok-open_one.new.self.items (sides_told (S h))) (sym logs) (subst (λ z. AreGates splits (L ++ c.in-Ok-open_one.log.items ∷ []) z (sides_told (S h))) (sym put.items)
          (grown splits L c.loop-shard.gates.items (sides_told (S h)) c.in-Ok-open_one.log.items c.in-Ok-open_one.gate k long inv.gates gate));
      known = subst (λ z. KnowAll z (map (λ v. v.items) c.push_reserved-in-Ok-open_one-2.new.self.items)) (sym put3.items) (subst (KnowAll (c.loop-shard.facts.items ++ said ∷ [])) (sym logs) facts);
      count = ap length put2.items ∙ more ∙ ap (λ n. n + 1) count;
      room = omega arith;
      room_too = omega arith;
      room_of_facts = omega arith;
      out = one_out (F h) (F h1) (F h2) (sides_out (O h)) (sides_out (O h1)) (sides_out (O h2)) (sides_told (S h)) (sides_told (S h1)) (sides_told (S h2)) k inv.out e.out.0 e.out.1 e.others;
    }
