-- The slices of what recovery found are its lists.
use Rattle.std.proofs.Common.{◌≡◌, sym, ap, subst, ◌∙◌, ℕ, List}
use Rattle.clv_base.specs.declared.logs.LogRecord.{LogRecord}
use Rattle.clv_base.specs.Logs.{prepare_lsn}
use Rattle.clv_base.specs.Coordinator.{restored_requests}
use Rattle.clv_base.specs.Participant.{restored_voters}
use Rattle.clv_base.specs.Orders.{Table}
use Rattle.two_phase_commit.specs.Coordinated.{AreNamed}
use Rattle.law_base.proofs.Lists.{whole_range}
use Rattle.shard_core.proofs.making.beside_of.Goals as goal

pub tables_of-requires-clause-named : goal.tables_of-requires-clause-named
tables_of-requires-clause-named c = subst (λ (rows : Table (List ℕ)). AreNamed rows) (sym c.deref-2.ensures.value) c.requires.named

pub returns-clause-prepares : goal.returns-clause-prepares
returns-clause-prepares c =
    let seen : c.records-log.result.now ≡ c.args.recovered.now.buffer.records = whole_range _ _ _ c.records-log.ensures c.end.ensures.end in
    λ t. c.in-Ok.ensures.prepares t ∙ ap (λ (rs : List LogRecord). prepare_lsn rs t) seen

pub returns-clause-voters : goal.returns-clause-voters
returns-clause-voters c = c.in-Ok.ensures.voters ∙ ap restored_voters c.deref.ensures.value

pub returns-clause-requests : goal.returns-clause-requests
returns-clause-requests c = c.in-Ok.ensures.requests ∙ ap restored_requests c.deref-2.ensures.value
