use Rattle.std.proofs.Common.{◌≡◌, ◌∙◌, ℕ, ◌+◌, ◌-◌, true, ap, sym, subst, arith, get_or, vec_len, length, length-take}
use Rattle.std.proofs.lemmas.List.{get_or-take, get_or_default}
use mathlib.Core.Logic.{dite}
use native.Mathlib.Decide.{ℕ_discrete}
use Rattle.cluster_closing.specs.Closing.{CameFrom}
use Rattle.cluster_closing.proofs.ComingBack.{from_before, still_from}
use Rattle.cluster_closing.proofs.parting.part_all.Goals as goal
use Rattle.law_base.proofs.Options.{value_or as the}
use Rattle.law_base.proofs.Lists.{pushed_each}
use Rattle.io_model.specs.Sides.{sides_out, sides_told}

pub part_home-journal-requires : goal.part_home-journal-requires
part_home-journal-requires g c =
    let inv = c.loop-i.invariant in let low = c.loop-i-test.true in let i = c.loop-i.i in let cnt = c.len-count.ensures in let k = c.len-count.result - 1 - i in let few = c.requires.few in record {
      shard = omega arith;
      out = (inv.todo k (omega arith)).0;
    }

pub loop-i-preserved : goal.loop-i-preserved
loop-i-preserved g c =
    let inv = c.loop-i.invariant in let low = c.loop-i-test.true in let i = c.loop-i.i in let V = c.args.homes in let okV = V.ok in let okH = c.loop-i.homes.ok in let cnt = c.len-count.ensures in let hl = inv.homes in
    let k = c.len-count.result - 1 - i in let last : vec_len c.loop-i.homes - 1 ≡ k = omega arith in let few = c.requires.few in let x = c.unwrap-home.result in
    let popped : x ≡ get_or c.loop-i.homes.items k x = ap (the x) (sym c.unwrap-home.ensures ∙ c.pop.ensures.value x (omega arith)) ∙ ap (λ m. get_or c.loop-i.homes.items m x) last in
    let okP = c.pop.new.self.ok in let fewer = ap length c.pop.ensures.rest in let most = length-take (vec_len c.loop-i.homes - 1) c.loop-i.homes.items in
    let own = c.part_home-journal.ensures in
    let whole_from : (n : ℕ) (d : _) → n ≡ k → x ≡ get_or V.items n d = λ n d here. popped ∙ inv.same k x (omega arith) ∙ get_or_default V.items k x d (omega arith) ∙ ap (λ m. get_or V.items m d) (sym here) in record {
      homes = omega arith;
      same = λ j d l. ap (λ z. get_or z j d) c.pop.ensures.rest ∙ get_or-take (vec_len c.loop-i.homes - 1) c.loop-i.homes.items j d (omega arith) ∙ inv.same j d (omega arith);
      journals = (let a = inv.journals.0 in let b = c.push_reserved.ensures.len in omega arith, let a = inv.journals.1 in let b = c.push_reserved.ensures.capacity in omega arith);
      maps = (let a = inv.maps.0 in let b = c.push_reserved-in-loop-i.ensures.len in omega arith, let a = inv.maps.1 in let b = c.push_reserved-in-loop-i.ensures.capacity in omega arith);
      todo = λ n l. (let t = own.others n (λ e. absurd (omega (arith, e))) in let w = inv.todo n (omega arith) in (t.1 ∙ w.0, t.0 ∙ w.1));
      back = λ n d gate l h is. dite (ℕ_discrete n k)
          (λ here. (let same = whole_from n d here in
          subst (λ m. CameFrom (g.M.Gate.Gate.faults gate) (g.M.Gate.Gate.shard gate) (g.M.Gate.Gate.logs gate) (g.H.House.faults c.args.house.now m) (g.H.House.faults c.part_home-journal.new.house m) (sides_out (g.H.House.is_out c.part_home-journal.new.house) m) (sides_told (g.H.House.story c.part_home-journal.new.house) m)) (sym here)
          (from_before _ _ _ _ _ _ _ _ (own.back gate (ap (λ z. g.M.Machine.gate z.machine) same ∙ is)) (inv.todo k (omega arith)).1)))
          (λ other. (let t = own.others n (λ e. other e) in still_from _ _ _ _ _ _ _ _ _ _ (inv.back n d gate l (omega arith) is) t.0 t.1 t.2));
      away = λ n d l h is. dite (ℕ_discrete n k)
          (λ here. (let same = whole_from n d here in let a = own.away (ap (λ z. g.M.Machine.gate z.machine) same ∙ is) in
          subst (λ m. (g.H.House.faults c.part_home-journal.new.house m ≡ g.H.House.faults c.args.house.now m) × (sides_out (g.H.House.is_out c.part_home-journal.new.house) m ≡ (true, true))) (sym here) (a.0 ∙ (inv.todo k (omega arith)).1, a.1)))
          (λ other. (let t = own.others n (λ e. other e) in let w = inv.away n d l (omega arith) is in (t.0 ∙ w.0, t.1 ∙ w.1)));
      others = λ n l. (let t = own.others n (λ e. absurd (omega (arith, e))) in let w = inv.others n l in (t.0 ∙ w.0, t.1 ∙ w.1, t.2 ∙ w.2));
      kept = λ j d l. subst (λ z. (m : _) (e : _) → j + m + 1 ≡ c.len-count.result → (get_or z j d).items ≡ (g.M.Machine.shard (get_or V.items m e).machine).journal) (sym c.push_reserved.ensures.items)
          (pushed_each (λ a z. (m : _) (e : _) → a + m + 1 ≡ c.len-count.result → z.items ≡ (g.M.Machine.shard (get_or V.items m e).machine).journal) c.loop-i.journals.items c.part_home-journal.result.journal i (let h = inv.journals.0 in omega arith) inv.kept
          (λ m e at. own.journal ∙ ap (λ z. (g.M.Machine.shard z.machine).journal) (whole_from m e (omega arith))) j d l);
      stored = λ j d l. subst (λ z. (m : _) (e : _) → j + m + 1 ≡ c.len-count.result → g.M.Store.Store.records (get_or z j d) ≡ (g.M.Machine.shard (get_or V.items m e).machine).local.records) (sym c.push_reserved-in-loop-i.ensures.items)
          (pushed_each (λ a z. (m : _) (e : _) → a + m + 1 ≡ c.len-count.result → g.M.Store.Store.records z ≡ (g.M.Machine.shard (get_or V.items m e).machine).local.records) c.loop-i.maps.items c.part_home-journal.result.map i (let h = inv.maps.0 in omega arith) inv.stored
          (λ m e at. own.map ∙ ap (λ z. (g.M.Machine.shard z.machine).local.records) (whole_from m e (omega arith))) j d l);
    }
