-- The parts of a shard's core, and what holds after a change of them at rest.
use Rattle.std.proofs.Common.{ap, refl, ◌≡◌, sym, subst, ◌∙◌, ℕ, ◌≤◌, true, false, List, [], length, drop}
use Rattle.std.proofs.lemmas.Bool.{both_ways}
use Rattle.std.specs.List.Sorted.{IsStrictlySortedBy}
use Rattle.std.specs.Map.{keys_of}
use Rattle.tx_table.specs.Rows.{TxRows}
use Rattle.clv_base.specs.declared.names.TxId.{TxId}
use Rattle.clv_base.specs.declared.state.Voter.{Voter}
use Rattle.clv_base.specs.declared.state.Request.{Request}
use Rattle.clv_base.specs.Orders.{Table, tx_in, tx_get, tx_cmp}
use Rattle.clv_base.specs.Logs.{prepare_lsn}
use Rattle.clv_base.specs.State.{Shard, Local, with_local}
use Rattle.clv_base.specs.OneShard.{purge}
use Rattle.clv_base.specs.Events.{finish}
use Rattle.protocol_laws.specs.Candidates.{Cover}
use Rattle.protocol_laws.specs.Changes.{ChangesDue}
use Rattle.protocol_laws.specs.Depending.{DependentsHaveParts}
use Rattle.due_step.specs.Ready.{IsReady}
use Rattle.tx_table.specs.Held.{Candidates}
use Rattle.due_step.specs.Sent.{Waiting}
use Rattle.due_step.specs.Steps.{ArePrepares}
use Rattle.txn_core.specs.State.{TxState}
use Rattle.txn_core.specs.Sound.{IsSound}
use Rattle.two_phase_commit.specs.Voting.{Voting}
use Rattle.two_phase_commit.specs.Coordinated.{Coordination}
use Rattle.shard_core.specs.Core.{Core, seen_as}
use Rattle.shard_core.specs.Whole.{HasRoom, AreKnown, IsWhole, IsAtRest}
use Rattle.due_step.specs.Noting.{known_keys}
use Rattle.shard_core.proofs.Logged.{All}
use Rattle.shard_core.proofs.Seeing.{writes_locked}
use Rattle.shard_core.proofs.Changing.{covers, ready_after, finish_same}

pub record Parts : Type 0 where
  pub shard : ℕ
  pub run : ℕ
  pub transactions : TxState
  pub participant : Voting
  pub coordinator : Coordination
  pub prepares : TxRows ℕ
  pub outbox : Waiting
  pub candidates : Candidates

abbrev pub seen : Parts → Shard
seen a = seen_as a.run a.transactions a.participant a.coordinator a.outbox

abbrev pub viewed : Parts → Core
viewed a = record { shard = seen a; candidates = a.candidates.txs; limit = a.candidates.limit; room = a.outbox.room }

abbrev pub Holds : Parts → Type 0
Holds a = IsWhole a.shard a.prepares.rows a.transactions a.participant a.coordinator a.outbox a.candidates (seen a)

pub record Changed (b : Parts) (V : Shard) : Type 0 where
  pub whole : Holds b
  pub ready : IsReady (seen b) b.candidates.txs b.candidates.limit
  pub finished : finish (seen b) ≡ finish V

-- the parts are of the same shard
pub record AreOfOne (a b : Parts) : Type 0 where
  pub shard : b.shard ≡ a.shard
  pub transactions : b.transactions.shard ≡ a.transactions.shard
  pub participant : b.participant.shard ≡ a.participant.shard
  pub coordinator : b.coordinator.shard ≡ a.coordinator.shard

-- what is told of transactions and candidates after a call
pub record AreKept (b : Parts) : Type 0 where
  pub sound : IsSound b.transactions.local b.transactions.room
  pub purged : purge b.transactions.local ≡ b.transactions.local
  pub rise : IsStrictlySortedBy tx_cmp b.candidates.txs
  pub few : length b.candidates.txs ≤ b.candidates.limit

pub rest_of : (a : Parts) (c : Core) → viewed a ≡ c → IsAtRest c → IsAtRest (viewed a)
rest_of a c e r = subst IsAtRest (sym e) r

-- where the candidates stay, of whom there are none
pub rest_kept : (a b : Parts) → IsAtRest (viewed a) → b.candidates ≡ a.candidates → IsSound b.transactions.local b.transactions.room → purge b.transactions.local ≡ b.transactions.local → AreKept b
rest_kept a b rest same sound purged = record {
  sound = sound;
  purged = purged;
  rise = subst (IsStrictlySortedBy tx_cmp) (sym (ap (λ (c : Candidates). c.txs) same ∙ rest.none)) rest.ready.rise;
  few = subst (λ (c : Candidates). length c.txs ≤ c.limit) (sym same) (subst (λ xs. length xs ≤ a.candidates.limit) (sym rest.none) rest.ready.few);
}

-- where the candidates are known to cover
pub covered : (a b : Parts) (V : Shard) → Holds a → seen b ≡ with_local purge V → Cover b.candidates.txs (with_local purge V)
    → AreOfOne a b → ArePrepares b.prepares.rows (b.transactions.local).log → DependentsHaveParts V.local → All (known_keys V) (drop b.transactions.durable (b.transactions.local).log) → AreKnown V b.candidates → HasRoom V b.transactions b.outbox → IsStrictlySortedBy tx_cmp (keys_of V.requests) → AreKept b → Changed b V
covered a b V whole same cover one prepares dependents logged known room requests kept =
    let U : Shard = seen b in
    record {
      whole = record {
        transactions = one.shard ∙ whole.transactions ∙ sym one.transactions;
        voters = one.participant ∙ whole.voters ∙ sym one.transactions;
        home = one.coordinator ∙ whole.home ∙ sym one.transactions;
        prepares = prepares;
        dependents = subst (λ (x : Shard). DependentsHaveParts x.local) (sym same) dependents;
        logged = subst (λ (x : Shard). All (known_keys x) (drop b.transactions.durable (b.transactions.local).log)) (sym same) logged;
        candidates = subst (λ (x : Shard). AreKnown x b.candidates) (sym same) (record { known = known.known; places = known.places });
        room = subst (λ (x : Shard). HasRoom x b.transactions b.outbox) (sym same) (record { records = room.records; pairs = room.pairs; messages = room.messages });
      };
      ready = ready_after V U b.candidates.txs b.candidates.limit cover same requests kept.rise kept.few kept.purged;
      finished = finish_same V U same (writes_locked b.transactions.local b.transactions.room kept.sound);
    }

pub changed : (a b : Parts) (V : Shard) (set : List TxId) → IsAtRest (viewed a) → Holds a → seen b ≡ with_local purge V → ChangesDue set (seen a) V → ((x : TxId) → tx_in x set ≡ true → tx_in x b.candidates.txs ≡ true)
    → AreOfOne a b → ArePrepares b.prepares.rows (b.transactions.local).log → DependentsHaveParts V.local → All (known_keys V) (drop b.transactions.durable (b.transactions.local).log) → AreKnown V b.candidates → HasRoom V b.transactions b.outbox → IsStrictlySortedBy tx_cmp (keys_of V.requests) → AreKept b → Changed b V
changed a b V set rest whole same touch within = covered a b V whole same (covers (seen a) V set b.candidates.txs rest.ready.cover touch within)

-- where nobody's local state or tables changed, and nobody is a candidate
pub same_left : (a b : Parts) (V : Shard) → IsAtRest (viewed a) → Holds a → seen b ≡ V → ChangesDue [] (seen a) V → AreOfOne a b → b.prepares ≡ a.prepares → b.candidates ≡ a.candidates → V.local ≡ a.transactions.local → V.voters ≡ a.participant.voters
    → V.requests ≡ a.coordinator.requests → All (known_keys (seen a)) (drop b.transactions.durable (b.transactions.local).log) → HasRoom (seen a) b.transactions b.outbox → AreKept b → Changed b V
same_left a b V rest whole same touch one prepares candidates local voters requests logged room kept =
    let s : Shard = seen a in
    let purged : V ≡ with_local purge V = ap (λ (l : Local). record V { local = l }) (ap (λ (x : Shard). x.local) (sym same) ∙ sym kept.purged ∙ ap (λ (x : Shard). purge x.local) same) in
    let was : Shard = record V { shard = s.shard; local = s.local; voters = s.voters; requests = s.requests } in
    let is : was ≡ V = ap (λ (n : ℕ). record V { shard = n; local = s.local; voters = s.voters; requests = s.requests }) (sym touch.shard) ∙ ap (λ (l : Local). record V { local = l; voters = s.voters; requests = s.requests }) (sym local) ∙ ap (λ (x : Table Voter). record V { voters = x; requests = s.requests }) (sym voters) ∙ ap (λ (x : Table Request). record V { requests = x }) (sym requests) in
    changed a b V [] rest whole (same ∙ purged) touch (λ x e. absurd (both_ways false refl e)) one
    (λ x. ap (λ (r : TxRows ℕ). tx_get x r.rows) prepares ∙ whole.prepares x ∙ ap (λ (l : Local). prepare_lsn l.log x) (sym local ∙ ap (λ (x : Shard). x.local) (sym same)))
    (subst (λ (x : Shard). DependentsHaveParts x.local) is whole.dependents)
    (subst (λ (x : Shard). All (known_keys x) (drop b.transactions.durable (b.transactions.local).log)) is logged)
    (subst (λ (x : Shard). AreKnown x b.candidates) is (subst (AreKnown was) (sym candidates) (record { known = whole.candidates.known; places = whole.candidates.places })))
    (subst (λ (x : Shard). HasRoom x b.transactions b.outbox) is (record { records = room.records; pairs = room.pairs; messages = room.messages }))
    (subst (λ (x : Shard). IsStrictlySortedBy tx_cmp (keys_of x.requests)) is rest.ready.requests) kept
