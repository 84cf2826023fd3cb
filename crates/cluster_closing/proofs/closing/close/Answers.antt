use Rattle.std.proofs.Common.{◌≡◌, ◌∙◌, refl, true, ℕ, sym, subst, arith, get_or, length, map, ◌<◌}
use Rattle.clv_base.specs.LogRules.{log_of}
use Rattle.clv_base.specs.Shards.{shard_count}
use Rattle.clv_base.specs.Journals.{MayLeave}
use Rattle.history_replay.specs.Entries.{entries_of}
use Rattle.journal_laws.specs.Gathered.{MakesHistory}
use Rattle.machine_laws.specs.Notes.{notes_of}
use Rattle.machine_laws.specs.Homes.{never_stops, IsLegal}
use Rattle.cluster_turns.specs.Walkers.{founds_of}
use Rattle.cluster_closing.specs.Ending.{ClosedAt}
use Rattle.cluster_closing.specs.Legal.{state_at, views_of}
use Rattle.cluster_closing.specs.Held.{never_restarts}
use Rattle.cluster_closing.specs.Ends.{shard_at}
use Rattle.cluster_closing.proofs.Homing.{disks_are_found}
use Rattle.cluster_closing.proofs.Restarting.{unfetched_never_restart}
use Rattle.cluster_closing.specs.Closing.{IsBack, IsLowestDown, lists, Returned}
use Rattle.cluster_closing.proofs.ComingBack.{no_gate_away, of_shards, lists_are, is_back, back_under, gate_is_away}
use Rattle.cluster_closing.proofs.closing.close.Goals as goal
use Rattle.law_base.proofs.Lists.{few_shards, elem_at as some_elem}
use Rattle.io_model.specs.Sides.{sides_out, sides_told}
use Rattle.machine_calls.specs.Disks.{stories_of, faults_of}

pub returns-clause-disks : goal.returns-clause-disks
returns-clause-disks g c =
    let sh = c.args.shards in let W = c.args.walkers in let F = c.args.fetched in let H = c.close-homes.result in let okW = W.ok in let okL = sh.locks.ok in let okH = H.ok in let okF = F.ok in let long = c.close-homes.ensures.len in
    let story = stories_of g.H.Disk.Disk.story in let faults = faults_of g.H.Disk.Disk.faults in let mid = c.part_all-journals.new.house in let new = c.give_back_held.new.house in
    λ n d l. (let h = get_or H.items n d in let s = g.M.Machine.shard h.machine in let notes = notes_of s.journal h.marks.items in let k = c.close-homes.ensures.sound n d (omega arith) in
    let found = disks_are_found _ _ g.M.Gate.Gate.is_shut g.M.Gate.Gate.faults g.M.Gate.Gate.shard g.M.Gate.Gate.logs story faults W.items n h.origin notes s (g.M.Machine.gate h.machine) F.items (c.close-homes.ensures.closed n d (omega arith)) k.legal k.gated
    (λ j e m. no_gate_away sh (get_or W.items j e) n (c.requires.walkers j e m) (omega arith) (c.requires.landed j e m)) c.requires.fetched in
    subst (λ v. IsBack (g.M.Machine.shard (get_or v.items n d).machine) n (record { splits = sh.splits }) F.items (g.H.House.faults c.args.house.now n) (g.H.House.faults new n) (sides_out (g.H.House.is_out new) n) (sides_told (g.H.House.story new) n)) (sym c.of-ends.ensures)
    (back_under sh.splits (founds_of sh) h.origin s n F.items _ _ _ _ (c.close-homes.ensures.origin n d (omega arith))
    (is_back story faults h.origin notes s n k.legal (c.close-homes.ensures.shard n d (omega arith)) g.M.Gate.Gate.is_shut g.M.Gate.Gate.faults g.M.Gate.Gate.shard g.M.Gate.Gate.logs (g.M.Machine.gate h.machine) F.items (g.H.House.faults c.args.house.now n) (g.H.House.faults mid n) (g.H.House.faults new n) (sides_out (g.H.House.is_out mid) n) (sides_out (g.H.House.is_out new) n) (sides_told (g.H.House.story mid) n) (sides_told (g.H.House.story new) n)
    k.gated found (λ gate is. c.part_all-journals.ensures.back n d gate (omega arith) is) (λ no. c.part_all-journals.ensures.away n d (omega arith) no)
    (λ j f m e. subst (λ x. Returned story faults (get_or F.items j f).disk (g.H.House.faults mid x) (g.H.House.faults new x) (sides_out (g.H.House.is_out new) x) (sides_told (g.H.House.story new) x)) e (c.give_back_held.ensures.back j f (omega arith)))
    (λ none. c.give_back_held.ensures.others n none))))

pub returns-clause-others : goal.returns-clause-others
returns-clause-others g c =
    let sh = c.args.shards in let W = c.args.walkers in let F = c.args.fetched in let okL = sh.locks.ok in let okH = c.close-homes.result.ok in let okF = F.ok in let long = c.close-homes.ensures.len in
    λ n l. (let t = c.give_back_held.ensures.others n (λ j f m e. (let low = of_shards (stories_of g.H.Disk.Disk.story) (faults_of g.H.Disk.Disk.faults) sh W.items F.items c.requires.walkers c.requires.fetched j f m in absurd (omega arith))) in
    let w = c.part_all-journals.ensures.others n (omega arith) in (t.0 ∙ w.0, t.1 ∙ w.1, t.2 ∙ w.2))

pub give_back_held-requires : goal.give_back_held-requires
give_back_held-requires g c =
    let sh = c.args.shards in let W = c.args.walkers in let F = c.args.fetched in let H = c.close-homes.result in let okW = W.ok in let okL = sh.locks.ok in let okH = H.ok in let okF = F.ok in let long = c.close-homes.ensures.len in let some = c.requires.some in
    let story = stories_of g.H.Disk.Disk.story in let faults = faults_of g.H.Disk.Disk.faults in
    let few = few_shards sh.splits c.requires.shards.splits_rise in let count = (c.requires.walkers 0 (some_elem W.items 0 (omega arith)) (omega arith)).count in record {
      few = λ j f m. (let low = of_shards story faults sh W.items F.items c.requires.walkers c.requires.fetched j f (omega arith) in omega arith);
      apart = λ i j f m l. c.requires.fetched.apart i j f m (omega arith);
      out = λ j f m. (let n = shard_at F.items j f in let low = of_shards story faults sh W.items F.items c.requires.walkers c.requires.fetched j f (omega arith) in
          let d = some_elem H.items n (omega arith) in let h = get_or H.items n d in let s = g.M.Machine.shard h.machine in let notes = notes_of s.journal h.marks.items in let k = c.close-homes.ensures.sound n d (omega arith) in
          let found = disks_are_found _ _ g.M.Gate.Gate.is_shut g.M.Gate.Gate.faults g.M.Gate.Gate.shard g.M.Gate.Gate.logs story faults W.items n h.origin notes s (g.M.Machine.gate h.machine) F.items (c.close-homes.ensures.closed n d (omega arith)) k.legal k.gated
          (λ i e q. no_gate_away sh (get_or W.items i e) n (c.requires.walkers i e q) (omega arith) (c.requires.landed i e q)) c.requires.fetched in
          (c.part_all-journals.ensures.away n d (omega arith) (gate_is_away story faults n _ s (g.M.Machine.gate h.machine) F.items found j f (omega arith) refl)).1);
    }

pub returns-clause-journals : goal.returns-clause-journals
returns-clause-journals g c = let long = c.close-homes.ensures.len in let kept = c.part_all-journals.ensures.len in let okH = c.close-homes.result.ok in let okJ = c.part_all-journals.result.journals.ok in
    subst (λ v. lists c.part_all-journals.result.journals.items ≡ map (λ h. (g.M.Machine.shard h.machine).journal) v.items) (sym c.of-ends.ensures)
    (lists_are c.part_all-journals.result.journals.items c.close-homes.result.items (λ h. (g.M.Machine.shard h.machine).journal) (let k = kept.0 in omega arith) (λ n d e l. c.part_all-journals.ensures.journals n d e (omega arith)))

pub returns-clause-no_restart : goal.returns-clause-no_restart
returns-clause-no_restart g c = let sh = c.args.shards in let W = c.args.walkers in let okW = W.ok in let okL = sh.locks.ok in let okH = c.close-homes.result.ok in let long = c.close-homes.ensures.len in
    λ fetched n d l. subst (λ v. never_restarts (g.M.Machine.shard (get_or v.items n d).machine).journal ≡ true) (sym c.of-ends.ensures)
    (let h = get_or c.close-homes.result.items n d in let s = g.M.Machine.shard h.machine in
    unfetched_never_restart _ _ _ W.items n h.origin (notes_of s.journal h.marks.items) s (c.close-homes.ensures.closed n d (omega arith)) (c.close-homes.ensures.sound n d (omega arith)).legal
    (λ k e m. ((no_gate_away sh (get_or W.items k e) n (c.requires.walkers k e m) (omega arith) (c.requires.landed k e m)).pass, fetched k e m)))

pub returns-clause-shard : goal.returns-clause-shard
returns-clause-shard g c = let long = c.close-homes.ensures.len in let okH = c.close-homes.result.ok in
    λ n d l. subst (λ v. (g.M.Machine.shard (get_or v.items n d).machine).shard ≡ n) (sym c.of-ends.ensures) (c.close-homes.ensures.shard n d (omega arith))

pub returns-clause-closed : goal.returns-clause-closed
returns-clause-closed g c = let long = c.close-homes.ensures.len in let okH = c.close-homes.result.ok in
    λ n d l. subst (λ v. ClosedAt c.args.walkers.items n (get_or v.items n d).origin (notes_of (g.M.Machine.shard (get_or v.items n d).machine).journal (get_or v.items n d).marks.items)) (sym c.of-ends.ensures) (c.close-homes.ensures.closed n d (omega arith))

pub returns-clause-noted : goal.returns-clause-noted
returns-clause-noted g c = let long = c.close-homes.ensures.len in let okH = c.close-homes.result.ok in
    λ n d l. subst (λ v. IsLegal (get_or v.items n d).origin (notes_of (g.M.Machine.shard (get_or v.items n d).machine).journal (get_or v.items n d).marks.items) (g.M.Machine.shard (get_or v.items n d).machine)) (sym c.of-ends.ensures)
    (c.close-homes.ensures.sound n d (omega arith)).legal

pub returns-clause-maps : goal.returns-clause-maps
returns-clause-maps g c = let long = c.close-homes.ensures.len in let okH = c.close-homes.result.ok in
    λ n d e l. subst (λ v. g.M.Store.Store.records (get_or c.part_all-journals.result.maps.items n d) ≡ (g.M.Machine.shard (get_or v.items n e).machine).local.records) (sym c.of-ends.ensures) (c.part_all-journals.ensures.maps n d e (omega arith))

pub returns-clause-down : goal.returns-clause-down
returns-clause-down g c = subst (λ v. IsLowestDown (λ h. (g.M.Machine.shard h.machine).is_up) v.items c.lowest_down-down.result) (sym c.of-ends.ensures)
    (subst (λ xs. IsLowestDown (λ h. (g.M.Machine.shard h.machine).is_up) xs c.lowest_down-down.result) c.as_slice.ensures.value c.lowest_down-down.ensures)

pub returns-clause-no_stop : goal.returns-clause-no_stop
returns-clause-no_stop g c = let long = c.close-homes.ensures.len in let okH = c.close-homes.result.ok in
    λ n d l. subst (λ v. never_stops (g.M.Machine.shard (get_or v.items n d).machine).journal ≡ true) (sym c.of-ends.ensures) (c.close-homes.ensures.no_stop n d (omega arith))

pub returns-clause-legal : goal.returns-clause-legal
returns-clause-legal g c = let long = c.close-homes.ensures.len in let kept = c.part_all-journals.ensures.len in let okH = c.close-homes.result.ok in let okJ = c.part_all-journals.result.journals.ok in let sh = c.args.shards in
    let journals : lists c.part_all-journals.result.journals.items ≡ map (λ h. (g.M.Machine.shard h.machine).journal) c.close-homes.result.items =
    lists_are c.part_all-journals.result.journals.items c.close-homes.result.items (λ h. (g.M.Machine.shard h.machine).journal) (let k = kept.0 in omega arith) (λ n d e l. c.part_all-journals.ensures.journals n d e (omega arith)) in
    subst (λ v. (after : _) → length after ≡ shard_count sh.splits → ((n : ℕ) → n < shard_count sh.splits → MayLeave (state_at (λ h. g.M.Machine.shard h.machine) (founds_of sh) v.items n) (log_of after n))
    → MakesHistory sh.splits (founds_of sh) after (lists c.part_all-journals.result.journals.items) (state_at (λ h. g.M.Machine.shard h.machine) (founds_of sh) v.items) (λ w. entries_of (views_of c.args.walkers.items w))) (sym c.of-ends.ensures)
    (λ after len may. subst (λ js. MakesHistory sh.splits (founds_of sh) after js (state_at (λ h. g.M.Machine.shard h.machine) (founds_of sh) c.close-homes.result.items) (λ w. entries_of (views_of c.args.walkers.items w))) (sym journals) (c.close-homes.ensures.legal after len may))

pub lowest_down-down-requires : goal.lowest_down-down-requires
lowest_down-down-requires g c =
    let sh = c.args.shards in let W = c.args.walkers in let okW = W.ok in let okL = sh.locks.ok in let okH = c.close-homes.result.ok in let long = c.close-homes.ensures.len in let some = c.requires.some in
    let few = few_shards sh.splits c.requires.shards.splits_rise in let count = (c.requires.walkers 0 (some_elem W.items 0 (omega arith)) (omega arith)).count in omega arith

pub part_all-journals-requires-clause-few : goal.part_all-journals-requires-clause-few
part_all-journals-requires-clause-few g c =
    let sh = c.args.shards in let W = c.args.walkers in let okW = W.ok in let okL = sh.locks.ok in let okH = c.close-homes.result.ok in let long = c.close-homes.ensures.len in let some = c.requires.some in
    let few = few_shards sh.splits c.requires.shards.splits_rise in let count = (c.requires.walkers 0 (some_elem W.items 0 (omega arith)) (omega arith)).count in omega arith
