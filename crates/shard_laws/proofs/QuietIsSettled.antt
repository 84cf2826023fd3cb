-- Where a shard is quiet its live records are the map that its log stands for.
use Rattle.std.proofs.Common.{◌≡◌, ⊎_elim, true, false, Bool, List, [], ◌∷◌, ◌||◌, refl, sym, ap, ◌∙◌}
use Rattle.std.specs.List.{AllByRecursion, filter, list_all}
use Rattle.std.proofs.lemmas.Bool.{both_ways, and_parts, or_cases, cases_Bool}
use Rattle.std.proofs.Math.Bool.{or-false}
use Rattle.clv_base.specs.declared.modes.Anchor.TheVariants.{At}
use Rattle.clv_base.specs.declared.state.Stage.{Stage}
use Rattle.clv_base.specs.declared.state.Stage.TheVariants.{Active, Closed, Gone}
use Rattle.clv_base.specs.Logs.{StandingUpdate, committed_in, fold_updates, committed_somewhere, stands, standing}
use Rattle.clv_base.specs.State.{Shard, is_gone_stage}
use Rattle.clv_base.specs.Needs.{live_pairs}
use Rattle.clv_base.specs.History.{IsQuiet}
use Rattle.clv_base.proofs.Folding.{same_map}
use Rattle.law_base.proofs.Lists.{all_mono}
use Rattle.law_base.proofs.Rows.{rows_get}
use Rattle.law_base.proofs.Running.{top_value}
use Rattle.law_base.proofs.Commits.{commit_durable, durable_committed}
use Rattle.shard_laws.specs.OneShard.{QuietIsSettled}
use Rattle.shard_laws.proofs.AnswersAndMap.{held}
use Rattle.law_base.proofs.LockRows.{holder_row}
use Rattle.shard_laws.proofs.Keeping.WhatOneShardKeeps.{Past, view_of, Kept, Wrote, part_for, Belongs, StageFits, begins}
use Rattle.shard_laws.proofs.Operations.AnswersByValues.{live_rises, live_find}
use Rattle.shard_laws.proofs.Cuts.WhatCutsHold.{of_kept, updates_values, fold_alike}
use Rattle.shard_laws.proofs.Cuts.MembersOfCutsReplay.{filter_all_kept}
use Rattle.law_base.proofs.Bools.{t_true}
use Rattle.law_base.proofs.Logs.{fold_rises}

each_row : {A : Type 0} (test : A → Bool) (xs : List A) → list_all test xs ≡ true → AllByRecursion (λ x. test x ≡ true) xs
each_row test [] e = tt
each_row test (x ∷ xs) e = let p = and_parts (test x) (list_all test xs) e in (p.0, each_row test xs p.1)

-- a part that holds a lock is not gone
not_gone : (c : Bool) (st : Stage) → StageFits c st → is_gone_stage st ≡ false
not_gone c Active f = refl
not_gone c Closed f = refl
not_gone true (Gone d) f = absurd f
not_gone false (Gone d) f = absurd f

-- who wrote is committed
pub writer_committed : (g : Past) (s : Shard) (x : StandingUpdate) → Kept g (view_of s) → IsQuiet s → Wrote (view_of s) x → committed_in s.local.log x.tx ≡ true
writer_committed g s x h q w =
    ⊎_elim (λ d. durable_committed s.local.log s.durable x.tx d)
    (λ d.
    let r = holder_row (Belongs s.local.parts) true (part_for x.change) (At x.key) x.tx s.local.locks h.rows (w d).0 in
    let p = (r.2).0 in
    let t = rows_get (λ r. (is_gone_stage (r.1).stage || committed_in s.local.log r.0) ≡ true) x.tx p s.local.parts (each_row (λ p. is_gone_stage (p.1).stage || committed_in s.local.log p.0) s.local.parts q.3) (r.2).1 in
    ⊎_elim (λ a. absurd (both_ways _ (not_gone r.1 p.stage (r.2).3) a)) (λ a. a) (or_cases (is_gone_stage p.stage) (committed_in s.local.log x.tx) t))
    (cases_Bool (commit_durable s.local.log s.durable x.tx))

pub settled_map : (g : Past) (s : Shard) → Kept g (view_of s) → IsQuiet s → live_pairs s.local.records ≡ stands (s.local.log ∷ [])
settled_map g s h q =
    let log = s.local.log in
    let all : AllByRecursion (λ w. committed_in s.local.log w.tx ≡ true) (standing s.local.log) = all_mono (Wrote (view_of s)) _ (λ w a. writer_committed g s w h q a) (standing s.local.log) h.wrote in
    same_map (live_pairs s.local.records) (fold_updates (committed_in log) log []) (t_true _ (live_rises s.local.records h.rises)) (fold_rises (committed_in log) log [] tt)
    (λ k.
    live_find k s.local.records h.rises
    ∙ h.values k
    ∙ ap (top_value g.floor k) (sym (filter_all_kept (committed_in log) (standing log) all))
    ∙ ap (λ base. top_value base k (filter (of_kept (committed_in log)) (standing log))) (sym (begins g (view_of s) h))
    ∙ sym (updates_values (committed_in log) log k))
    ∙ sym (fold_alike (committed_somewhere (log ∷ [])) (committed_in log) log [] (λ t. or-false (committed_in log t)))

pub quiet_is_settled : QuietIsSettled
quiet_is_settled shard run before d s leads q = let b = held shard run before d s leads in settled_map b.0 s (b.1).kept q
