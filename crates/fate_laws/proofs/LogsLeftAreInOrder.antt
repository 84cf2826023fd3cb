-- The logs left are in order.
use Rattle.std.proofs.Common.{◌≡◌, sym, subst, cond, [], None, append-nil}
use Rattle.std.specs.Prelude.{unwrap_or}
use Rattle.clv_base.specs.LogRules.{log_of, disorder}
use Rattle.clv_base.specs.Restarts.{run_after}
use Rattle.clv_base.specs.Journals.{final_of}
use Rattle.protocol_laws.proofs.LogsInOrder.{fronts_in_order}
use Rattle.shard_laws.proofs.OrderIsKept.{order_is_kept, part_is_left}
use Rattle.fate_laws.specs.Leading.{deeds_before, with_found}
use Rattle.fate_laws.specs.Ordering.{LogsLeftAreInOrder}
use Rattle.fate_laws.proofs.EachShardLeads.{each_shard_leads}
use Rattle.history_laws.proofs.NeverTakenBack.{log_now}

pub logs_left_are_in_order : LogsLeftAreInOrder
logs_left_are_in_order splits before h after choice n l i =
    let s = final_of before h after n in
    let log = log_of before n in
    let e = deeds_before before h after n in
    let leads = each_shard_leads splits before h after h [] n l (append-nil h) i in
    let o = order_is_kept n (run_after before) log (with_found n log e) s leads in
    let c = part_is_left n (run_after before) log (with_found n log e) s (choice n) leads in
    subst (λ z. disorder n z ≡ None) (sym (log_now splits before h after choice n i)) (fronts_in_order n (cond (choice n) (unwrap_or s.flight s.durable) s.durable) s.local.log c o)
