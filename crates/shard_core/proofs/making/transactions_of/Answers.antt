-- What recovery found is what a restart finds in its log.
use Rattle.std.proofs.Common.{◌≡◌, ◌∙◌, subst}
use Rattle.std.specs.Prelude.{IfOk}
use Rattle.clv_base.specs.State.{Local}
use Rattle.shard_core.proofs.making.transactions_of.Goals as goal

pub restored-requires : goal.restored-requires
restored-requires g c =
    let found = c.requires.1 in
    record {
      records = found.records_are;
      in_doubt = c.deref.ensures.value ∙ found.doubtful;
      pairs = c.deref-2.ensures.value ∙ found.pairs;
      spelled = found.spelled;
    }

pub returns-clause-shard : goal.returns-clause-shard
returns-clause-shard g c = subst (λ n. IfOk c.with_room.result (λ t. t.shard ≡ n)) c.in-Ok.ensures.shard c.with_room.ensures.shard

pub returns-clause-local : goal.returns-clause-local
returns-clause-local g c = subst (λ (l : Local). IfOk c.with_room.result (λ t. t.local ≡ l)) c.in-Ok.ensures.local c.with_room.ensures.local

pub returns-clause-durable : goal.returns-clause-durable
returns-clause-durable g c = subst (λ n. IfOk c.with_room.result (λ t. t.durable ≡ n)) (c.in-Ok.ensures.fronts.0 ∙ c.requires.1.durable) c.with_room.ensures.durable

pub returns-clause-taken : goal.returns-clause-taken
returns-clause-taken g c = subst (λ n. IfOk c.with_room.result (λ t. t.taken ≡ n)) (c.in-Ok.ensures.fronts.1 ∙ c.requires.1.taken) c.with_room.ensures.taken
