-- The log of a shard keeps the order rules at every moment of its histories.
use Rattle.std.proofs.Common.{◌≡◌, ℕ, ◌≤◌, Bool, cond, List, refl, subst, ◌∙◌, None, ap, arith}
use Rattle.std.specs.Prelude.{unwrap_or}
use Rattle.clv_base.specs.declared.logs.LogRecord.{LogRecord}
use Rattle.clv_base.specs.State.{Shard}
use Rattle.clv_base.specs.LogRules.{upto_of, disorder}
use Rattle.shard_laws.specs.OneShard.{Deeds, Leads, opens, happens, lands, others_ask, revives, OrderIsKept}
use Rattle.shard_laws.proofs.Events.EventsKeepTheFrame.{happens_here, lands_here}
use Rattle.shard_laws.proofs.AnswersAndMap.{held}
use Rattle.shard_laws.proofs.Order.WhoIsListed.{OldParted}
use Rattle.shard_laws.proofs.Restarts.RestartsKeep.{front_cut}

abbrev pub number_and_run : Shard → ℕ × ℕ
number_and_run s = (s.shard, s.run)

pub stays_here : (shard run : ℕ) (before : List LogRecord) (d : Deeds) (s : Shard) → Leads shard run before d s → number_and_run s ≡ (shard, run)
stays_here shard run before _ _ (opens may) = refl
stays_here shard run before _ _ (happens {d} {s} e o t stamp walker leads may eq) = ap (λ f. (f.0, f.1.0)) (happens_here s e o t eq) ∙ stays_here shard run before d s leads
stays_here shard run before _ _ (lands {d} {s} n pushed o t stamp walker leads flies eq) = ap (λ f. (f.0, f.1.0)) (lands_here s n pushed o t eq) ∙ stays_here shard run before d s leads
stays_here shard run before _ _ (others_ask {d} {s} t leads new) = stays_here shard run before d s leads
stays_here shard run before _ _ (revives {d} {s} kept epoch log stamp walker leads down fits) = stays_here shard run before d s leads

pub order_is_kept : OrderIsKept
order_is_kept shard run before d s leads =
    let b = held shard run before d s leads in
    subst (λ n. disorder n s.local.log ≡ None) (ap (λ p. p.0) (stays_here shard run before d s leads)) b.1.order.ordered.in_order

-- what is left of it has its part, and who is committed in that is of an earlier run
pub part_is_left : (shard run : ℕ) (before : List LogRecord) (d : Deeds) (s : Shard) (kept : Bool) → Leads shard run before d s → upto_of s.local.log ≤ cond kept (unwrap_or s.flight s.durable) s.durable
part_is_left shard run before d s kept leads =
    let b = held shard run before d s leads in
    let l = b.1.kept.part_done in
    let c = front_cut s kept b.1.kept.front in omega (arith, l, c)

pub part_is_old : (shard run : ℕ) (before : List LogRecord) (d : Deeds) (s : Shard) → Leads shard run before d s → OldParted run s.local.log
part_is_old shard run before d s leads =
    let b = held shard run before d s leads in
    subst (λ n. OldParted n s.local.log) (ap (λ p. p.1) (stays_here shard run before d s leads)) b.1.order.ordered.old
