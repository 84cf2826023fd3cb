-- A run whose first drain settled each shard begins so, as the laws of settled beginnings say it.
use Rattle.std.proofs.Common.{◌≡◌, refl, sym, ap, subst, ⊎_elim, ℕ, Bool, true, false, cond, not, ◌&&◌, List, [], ◌∷◌, Some}
use Rattle.std.specs.List.{list_all}
use Rattle.std.proofs.lemmas.Bool.{both_ways, and_parts, and_from, or_cases}
use Rattle.clv_base.specs.declared.names.TxId.{TxId}
use Rattle.clv_base.specs.declared.logs.LogRecord.{LogRecord}
use Rattle.clv_base.specs.declared.state.Stage.TheVariants.{Closed}
use Rattle.clv_base.specs.declared.state.Held.{Held}
use Rattle.clv_base.specs.declared.events.Entry.{Entry}
use Rattle.clv_base.specs.Logs.{committed_in}
use Rattle.clv_base.specs.Orders.{Table, tx_same, tx_get}
use Rattle.clv_base.specs.State.{Shard, is_closed_stage}
use Rattle.clv_base.specs.Undo.{stage_of}
use Rattle.clv_base.specs.Journals.{journal_of}
use Rattle.clv_base.proofs.SameNames.{tx_true}
use Rattle.law_base.proofs.Changed.{none_some, some_same}
use Rattle.law_base.proofs.Stages.{stage_of_some}
use Rattle.protocol_laws.specs.Growth.{is_restart}
use Rattle.history_replay.specs.Entries.{Kept}
use Rattle.machine_calls.specs.Steps.{sends_nothing}
use Rattle.machine_calls.specs.Settled.{is_flushed, is_part_settled, is_request_settled, is_settled}
use Rattle.machine_laws.specs.Homes.{is_stop}
use Rattle.settled_laws.specs.Deaths.{BeginsSettled}
use Rattle.cluster_runs.specs.Histories.{entries}
use Rattle.cluster_runs.specs.Ended.{runs_on}
use Rattle.cluster_runs.specs.Drained.{WasDrained}

-- a part that the table has is one of which this holds
settled_part : (log : List LogRecord) (tx : TxId) (h : Held) (parts : Table Held) → list_all (λ p. is_part_settled log p.0 p.1) parts ≡ true → tx_get tx parts ≡ Some h → is_part_settled log tx h ≡ true
settled_part log tx h [] all got = absurd (none_some h got)
settled_part log tx h (p ∷ ps) all got = at (tx_same tx p.0) refl got (settled_part log tx h ps both.1)
  where
    both : (is_part_settled log p.0 p.1 ≡ true) × (list_all (λ q. is_part_settled log q.0 q.1) ps ≡ true)
    both = and_parts (is_part_settled log p.0 p.1) (list_all (λ q. is_part_settled log q.0 q.1) ps) all

    at : (b : Bool) → tx_same tx p.0 ≡ b → cond b (Some p.1) (tx_get tx ps) ≡ Some h → (tx_get tx ps ≡ Some h → is_part_settled log tx h ≡ true) → is_part_settled log tx h ≡ true
    at true same is more = subst (λ x. is_part_settled log tx x ≡ true) (some_same p.1 h is) (subst (λ t. is_part_settled log t p.1 ≡ true) (sym (tx_true tx p.0 same)) both.0)
    at false other is more = more is

-- each closed part of a settled shard is decided
closed_decided : (s : Shard) → is_settled s ≡ true → (tx : TxId) → stage_of s.local tx ≡ Some Closed → committed_in s.local.log tx ≡ true
closed_decided s settled tx closed =
    let parts = list_all (λ p. is_part_settled s.local.log p.0 p.1) s.local.parts in
    let requests = list_all (λ q. is_request_settled s.local.log q.0 q.1) s.requests in
    let first = s.is_up && is_flushed s && sends_nothing s.outbox in
    let a = and_parts (first && parts) requests settled in
    let b = and_parts first parts a.0 in
    let h = stage_of_some s.local.parts tx Closed closed in
    ⊎_elim (λ open_. absurd (both_ways (not (is_closed_stage (h.0).stage)) (ap (λ st. not (is_closed_stage st)) h.2) open_)) (λ c. c)
    (or_cases (not (is_closed_stage (h.0).stage)) (committed_in s.local.log tx) (settled_part s.local.log tx h.0 s.local.parts b.1 h.1))

none_restarts : (es : List Entry) → runs_on es ≡ true → list_all (λ e. not (is_restart e.event)) es ≡ true
none_restarts [] on = refl
none_restarts (e ∷ es) on =
    let a = and_parts (not (is_stop e.event) && not (is_restart e.event)) (runs_on es) on in
    and_from (not (is_restart e.event)) (list_all (λ x. not (is_restart x.event)) es) (and_parts (not (is_stop e.event)) (not (is_restart e.event)) a.0).1 (none_restarts es a.1)

pub begins_settled : (n : ℕ) (run : Kept) → runs_on (journal_of n (entries run)) ≡ true → WasDrained n run → BeginsSettled run.found (entries run) n
begins_settled n run on d = record {
  front = d.front;
  behind = d.behind;
  journal_is = d.journal_is;
  state = d.state;
  runs = d.runs;
  decided = closed_decided d.state d.settled;
  no_session = d.no_session;
  goes_on = none_restarts (journal_of n (entries run)) on;
}
