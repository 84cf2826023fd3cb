use Rattle.std.proofs.Common.{arith, ◌≡◌, ◌∙◌, ◌<◌, ◌-◌, length, get_or, vec_len, None, Some, sym, ap, subst, length-take}
use Rattle.turn_lock.specs.Journals.{StartsWith, entries_by}
use Rattle.turn_lock.specs.Passes.{number}
use Rattle.machine_laws.specs.Notes.{noter, notes_of}
use Rattle.cluster_closing.specs.Ending.{seen_of, own_notes, origin_of}
use Rattle.cluster_closing.proofs.ending.close_last.Goals as goal
use Rattle.law_base.proofs.Options.{value_or as the}
use Rattle.law_base.proofs.Lists.{elem_at as some_elem}

pub gather-passes-requires-clause-walkers : goal.gather-passes-requires-clause-walkers
gather-passes-requires-clause-walkers g c =
    let fewer = ap length c.pop.ensures.rest in let most = length-take (vec_len c.args.locks.now - 1) c.args.locks.now.items in let some = c.requires.some in let okl = c.args.locks.now.ok in let okn = c.pop.new.self.ok in let is = c.len.ensures in
    λ k d l. (let t = c.requires.walkers c.len.result k d (omega arith) l in (t.0, t.1))

pub close-requires-clause-ours : goal.close-requires-clause-ours
close-requires-clause-ours g c =
    let fewer = ap length c.pop.ensures.rest in let most = length-take (vec_len c.args.locks.now - 1) c.args.locks.now.items in let some = c.requires.some in let okl = c.args.locks.now.ok in let okn = c.pop.new.self.ok in let is = c.len.ensures in
    let okw = c.args.walkers.now.ok in let okp = c.gather-passes.result.ok in let len = c.gather-passes.ensures.len.0 in
    let locks = c.args.locks.now.items in let n = c.len.result in let W = c.args.walkers.now.items in
    let lock : c.unwrap-lock.result ≡ get_or locks n c.unwrap-lock.result = ap (the c.unwrap-lock.result) (sym c.unwrap-lock.ensures ∙ (c.pop.ensures.value c.unwrap-lock.result (omega arith) ∙ ap (λ j. Some (get_or locks j c.unwrap-lock.result)) (let e : vec_len c.args.locks.now - 1 ≡ n = omega arith in e))) in
    λ k e l. (let low : k < vec_len c.args.walkers.now = omega arith in let d = some_elem W k (omega arith) in let t = c.requires.walkers n k d (omega arith) low in
    let same : t.0 ≡ get_or c.gather-passes.result.items k e = ap (the t.0) (sym (t.1 None) ∙ c.gather-passes.ensures.taken k d e low) in
    ap (λ p. p.seat.table_id) (sym same) ∙ (t.2 c.unwrap-lock.result ∙ ap (λ z. z.table.shared.table_id) (sym lock)))

pub returns-clause-closed : goal.returns-clause-closed
returns-clause-closed g c =
    let okw = c.args.walkers.now.ok in let okp = c.gather-passes.result.ok in let len = c.gather-passes.ensures.len.0 in let W = c.args.walkers.now.items in let home = c.close.result in
    let J = notes_of (g.M.Machine.shard home.machine).journal home.marks.items in let ps = c.gather-passes.result.items in
    let fewer = ap length c.pop.ensures.rest in let most = length-take (vec_len c.args.locks.now - 1) c.args.locks.now.items in let some = c.requires.some in let okl = c.args.locks.now.ok in let okn = c.pop.new.self.ok in let is = c.len.ensures in
    λ n last. let here : c.len.result ≡ n = omega arith in record {
      seen_is = λ k d l. (let low : k < vec_len c.args.walkers.now = omega arith in let t = c.requires.walkers n k d last low in
          let same : get_or (get_or W k d).passes.items n None ≡ Some (get_or ps k t.0) = ap (λ m. get_or (get_or W k d).passes.items m None) (sym here) ∙ c.gather-passes.ensures.taken k d t.0 low in
          subst (λ o. StartsWith J (seen_of o)) (sym same) (c.close.ensures.seen k t.0 (omega arith)));
      own_is = λ k d l. (let low : k < vec_len c.args.walkers.now = omega arith in let t = c.requires.walkers n k d last low in
          let same : get_or (get_or W k d).passes.items n None ≡ Some (get_or ps k t.0) = ap (λ m. get_or (get_or W k d).passes.items m None) (sym here) ∙ c.gather-passes.ensures.taken k d t.0 low in
          let pass : t.0 ≡ get_or ps k t.0 = ap (the t.0) (sym (t.1 None) ∙ same) in
          ap (λ w. entries_by noter w J) (sym (ap (λ p. number p) (sym pass) ∙ t.3)) ∙ (c.close.ensures.own k t.0 (omega arith) ∙ ap (λ o. own_notes o) (sym same)));
      others = λ w h. c.close.ensures.others w (λ k e l. (λ is_w. (let low : k < vec_len c.args.walkers.now = omega arith in let d = some_elem W k (omega arith) in let t = c.requires.walkers n k d last low in
          let same : get_or (get_or W k d).passes.items n None ≡ Some (get_or ps k e) = ap (λ m. get_or (get_or W k d).passes.items m None) (sym here) ∙ c.gather-passes.ensures.taken k d e low in
          let pass : t.0 ≡ get_or ps k e = ap (the t.0) (sym (t.1 None) ∙ same) in
          h k d (omega arith) (sym t.3 ∙ (ap (λ p. number p) pass ∙ is_w)))));
      origin_is = λ k d l. (let low : k < vec_len c.args.walkers.now = omega arith in let t = c.requires.walkers n k d last low in
          let same : get_or (get_or W k d).passes.items n None ≡ Some (get_or ps k t.0) = ap (λ m. get_or (get_or W k d).passes.items m None) (sym here) ∙ c.gather-passes.ensures.taken k d t.0 low in
          ap (λ o. origin_of o) same ∙ c.close.ensures.origin k t.0 (omega arith));
    }
