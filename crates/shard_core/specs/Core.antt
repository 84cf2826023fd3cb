-- What the core of a shard is seen as: the shard of the definitions, with the transactions for which something may be due, and for how many messages
-- more there is room.
use Rattle.std.specs.Prelude.{ℕ, cond, true, ◌==◌, List, [], Option, Some, None}
use Rattle.clv_base.specs.declared.names.TxId.{TxId}
use Rattle.clv_base.specs.State.{Shard}
use Rattle.txn_core.specs.State.{TxState}
use Rattle.two_phase_commit.specs.Voting.{Voting}
use Rattle.two_phase_commit.specs.Coordinated.{Coordination}
use Rattle.due_step.specs.Sent.{Waiting}

pub record Core : Type 0 where
  pub shard : Shard
  -- rising, and for how many there is room
  pub candidates : List TxId
  pub limit : ℕ
  pub room : ℕ

-- up to where records are in flight: where more were taken than are durable
abbrev pub flight_by : ℕ → ℕ → Option ℕ
flight_by durable taken = cond (durable == taken) None (Some taken)

-- the shard by its parts, seen as one that is up and has no entry yet
abbrev pub seen_as : ℕ → TxState → Voting → Coordination → Waiting → Shard
seen_as run t p c o =
    record {
      shard = t.shard;
      run = run;
      is_up = true;
      local = t.local;
      voters = p.voters;
      requests = c.requests;
      durable = t.durable;
      flight = flight_by t.durable t.taken;
      outbox = o.messages;
      last = 0;
      journal = [];
    }
