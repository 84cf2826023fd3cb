use Rattle.std.proofs.Common.{arith, get_or, None, ◌∙◌}
use Rattle.machine_laws.specs.Homes.{layout_of, holder_of}
use Rattle.machine_laws.proofs.Laws.{fits_leaves, none_stops, gate_at_home, legal_shard}
use Rattle.machine_laws.specs.Notes.{notes_of}
use Rattle.cluster_closing.proofs.Together.{makes_history, origin_is}
use Rattle.cluster_closing.proofs.lock_ends.close.Goals as goal

pub returns-clause-legal : goal.returns-clause-legal
returns-clause-legal g c = let sh = c.args.shards in let W = c.args.walkers in let H = c.close_all.result in let okW = W.ok in let okL = sh.locks.ok in let okH = H.ok in let long = c.close_all.ensures.len in
    makes_history (λ h. g.M.Machine.shard h.machine) (λ h. h.origin) (λ h. notes_of (g.M.Machine.shard h.machine).journal h.marks.items) sh W.items H.items c.requires.shards (let s = c.requires.some in omega arith) (omega arith)
    c.requires.walkers (λ n d l. c.close_all.ensures.closed n d (omega arith)) (λ n d l. (c.close_all.ensures.sound n d (omega arith)).legal)

pub returns-clause-leaves : goal.returns-clause-leaves
returns-clause-leaves g c = let okH = c.close_all.result.ok in let long = c.close_all.ensures.len in
    λ n d a l is. (let k = c.close_all.ensures.sound n d (omega arith) in let h = get_or c.close_all.result.items n d in let s = g.M.Machine.shard h.machine in
    fits_leaves h.origin (notes_of s.journal h.marks.items) s (g.M.Gate.Gate.is_shut a) (g.M.Gate.Gate.faults a) (g.M.Gate.Gate.shard a) (g.M.Gate.Gate.logs a (layout_of h.origin)) k.legal
    (gate_at_home g.M.Gate.Gate.is_shut g.M.Gate.Gate.faults g.M.Gate.Gate.shard (λ b. g.M.Gate.Gate.logs b (layout_of h.origin)) s (holder_of (notes_of s.journal h.marks.items)) (g.M.Machine.gate h.machine) a k.gated is))

pub returns-clause-counted : goal.returns-clause-counted
returns-clause-counted g c = let okH = c.close_all.result.ok in let long = c.close_all.ensures.len in
    λ n d a l is. (let k = c.close_all.ensures.sound n d (omega arith) in let h = get_or c.close_all.result.items n d in let s = g.M.Machine.shard h.machine in
    (gate_at_home g.M.Gate.Gate.is_shut g.M.Gate.Gate.faults g.M.Gate.Gate.shard (λ b. g.M.Gate.Gate.logs b (layout_of h.origin)) s (holder_of (notes_of s.journal h.marks.items)) (g.M.Machine.gate h.machine) a k.gated is).counted)

pub returns-clause-no_stop : goal.returns-clause-no_stop
returns-clause-no_stop g c = let okH = c.close_all.result.ok in let long = c.close_all.ensures.len in
    λ n d l. (let k = c.close_all.ensures.sound n d (omega arith) in let h = get_or c.close_all.result.items n d in none_stops None (g.M.Machine.shard h.machine).journal k.legal.own_ends)

pub returns-clause-shard : goal.returns-clause-shard
returns-clause-shard g c = let sh = c.args.shards in let W = c.args.walkers in let okW = W.ok in let okL = sh.locks.ok in let okH = c.close_all.result.ok in let long = c.close_all.ensures.len in let some = c.requires.some in
    λ n d l. (let h = get_or c.close_all.result.items n d in let s = g.M.Machine.shard h.machine in let notes = notes_of s.journal h.marks.items in
    legal_shard h.origin notes s (c.close_all.ensures.sound n d (omega arith)).legal
    ∙ (origin_is sh W.items n h.origin notes (omega arith) (omega arith) c.requires.walkers (c.close_all.ensures.closed n d (omega arith))).shard)

pub returns-clause-origin : goal.returns-clause-origin
returns-clause-origin g c = let sh = c.args.shards in let W = c.args.walkers in let okW = W.ok in let okL = sh.locks.ok in let okH = c.close_all.result.ok in let long = c.close_all.ensures.len in let some = c.requires.some in
    λ n d l. (let h = get_or c.close_all.result.items n d in let s = g.M.Machine.shard h.machine in
    origin_is sh W.items n h.origin (notes_of s.journal h.marks.items) (omega arith) (omega arith) c.requires.walkers (c.close_all.ensures.closed n d (omega arith)))
