-- The parts that a restart leaves are the protocol's state after it, at rest, and hold together.
use Rattle.std.proofs.Common.{◌≡◌, refl, sym, ap, subst, ◌∙◌, ℕ, ◌+◌, ◌*◌, ◌≤◌, ◌==◌, Bool, true, false, Some, None, List, [], ◌∷◌, length, drop, eq-eqb, arith}
use Rattle.std.proofs.Math.Seq.{drop-length}
use Rattle.std.proofs.lemmas.Bool.{both_ways, cond-true}
use Rattle.std.proofs.lemmas.List.{length-map}
use Rattle.std.specs.List.Sorted.{IsStrictlySortedBy}
use Rattle.clv_base.specs.declared.names.TxId.{TxId}
use Rattle.clv_base.specs.declared.logs.LogRecord.{LogRecord}
use Rattle.clv_base.specs.Orders.{Table, tx_cmp, tx_in}
use Rattle.clv_base.specs.Logs.{in_doubt, prepare_lsn}
use Rattle.clv_base.specs.State.{Shard, Local}
use Rattle.clv_base.specs.Due.{total, part_work}
use Rattle.clv_base.specs.Coordinator.{restored_request, restored_requests}
use Rattle.clv_base.specs.Participant.{restored_voter, restored_voters}
use Rattle.clv_base.specs.Restarts.{restored_parts, homes_of, unended_in, local_after, state_after}
use Rattle.two_phase_commit.specs.Unended.{UnendedRise}
use Rattle.protocol_laws.specs.Depending.{DependentsHaveParts, RestartsHaveParts}
use Rattle.protocol_laws.specs.Left.{is_finished, is_idle, left_voter, left_request, total_by, left}
use Rattle.protocol_laws.proofs.Laws.{at_rest_none}
use Rattle.due_step.specs.Ready.{IsReady}
use Rattle.due_step.specs.Noting.{known_keys}
use Rattle.due_step.specs.Steps.{ArePrepares}
use Rattle.protocol_laws.specs.Resting.{RestartsEndAtRest}
use Rattle.txn_core.specs.Sound.{HasSpare}
use Rattle.shard_core.specs.Core.{flight_by}
use Rattle.shard_core.specs.Whole.{HasRoom, AreKnown, IsAtRest}
use Rattle.shard_core.proofs.Logged.{All}
use Rattle.shard_core.proofs.Seeing.{same_shard}
use Rattle.shard_core.proofs.Parts.{Parts, seen, viewed, Holds}
use Rattle.law_base.proofs.Names.{request_keys}

-- ---- how much is left

parts_left : (txs : List TxId) → total part_work (restored_parts txs) ≤ length txs
parts_left [] = omega arith
parts_left (t ∷ ts) = let h = parts_left ts in omega (arith, h)

voters_left : (test : TxId → Bool) (homes : List (TxId × ℕ)) → total_by left_voter test (restored_voters homes) ≤ 0
voters_left test [] = omega arith
voters_left test (h ∷ hs) = let one = at (test h.0) in let more = voters_left test hs in omega (arith, one, more)
  where
    at : (b : Bool) → left_voter b (restored_voter h.1) ≤ 0
    at true = omega arith
    at false = omega arith

one_left : (shard : ℕ) (idle : Bool) (parts : List ℕ) → left_request shard idle (restored_request parts) ≤ 1
one_left shard idle [] = omega arith
one_left shard idle (p ∷ ps) = omega arith

requests_left : (shard : ℕ) (test : TxId → Bool) (unended : Table (List ℕ)) → total_by (left_request shard) test (restored_requests unended) ≤ length unended
requests_left shard test [] = omega arith
requests_left shard test (u ∷ us) = let one = one_left shard (test u.0) u.1 in let more = requests_left shard test us in omega (arith, one, more)

-- ---- the state

-- parts that a restart makes, and room for so many things that are left
pub record AreMade (n epoch count : ℕ) (log : List LogRecord) (a : Parts) : Type 0 where
  pub shard : a.shard ≡ n
  pub transactions : a.transactions.shard ≡ n
  pub local : a.transactions.local ≡ local_after n epoch log
  pub durable : a.transactions.durable ≡ length log
  pub taken : a.transactions.taken ≡ length log
  pub participant : a.participant.shard ≡ n
  pub voters : a.participant.voters ≡ restored_voters (homes_of log (in_doubt n log))
  pub coordinator : a.coordinator.shard ≡ n
  pub requests : a.coordinator.requests ≡ restored_requests (unended_in log log)
  pub prepares : ArePrepares a.prepares.rows log
  pub messages : a.outbox.messages ≡ []
  pub none : a.candidates.txs ≡ []
  pub enough : length (homes_of log (in_doubt n log)) + length (unended_in log log) + 1 ≤ count
  pub records : HasSpare count a.transactions
  pub pairs : count ≤ a.transactions.pairs_room
  pub mail : 15 * count ≤ a.outbox.room
  pub places : 2 * count ≤ a.candidates.limit

module _ (shard epoch count : ℕ) (log : List LogRecord) (a : Parts) (m : AreMade shard epoch count log a) where
  pub made_is : seen a ≡ state_after shard a.run epoch log 0 []
  made_is =
      same_shard (seen a) (state_after shard a.run epoch log 0 []) m.transactions refl refl m.local m.voters m.requests m.durable
      (ap (λ d. flight_by d a.transactions.taken) m.durable ∙ ap (flight_by (length log)) m.taken ∙ cond-true (length log == length log) None (Some (length log)) (eq-eqb (length log) (length log) refl))
      m.messages refl refl

  pub made_rests : RestartsEndAtRest → UnendedRise → IsAtRest (viewed a)
  unfolding IsStrictlySortedBy
  made_rests rest rise =
      let s : Shard = state_after shard a.run epoch log 0 [] in let at = rest shard a.run epoch 0 log [] in
      record {
        none = m.none;
        ready = subst (λ (x : Shard). IsReady x [] a.candidates.limit) (sym made_is) (record {
          requests = subst (λ ks. IsStrictlySortedBy tx_cmp ks) (sym (request_keys (unended_in log log))) (rise log log);
          rise = tt;
          few = omega arith;
          cover = at_rest_none s at.0;
          purged = ap (λ (rs : _). record s { local = record s.local { records = rs } }) at.1;
        });
      }

  pub made_holds : RestartsHaveParts → Holds a
  made_holds depend =
      let s : Shard = state_after shard a.run epoch log 0 [] in
      let txs = in_doubt shard log in
      let p = parts_left txs in let v = voters_left (is_finished s.local.parts) (homes_of log txs) in let q = requests_left s.shard (is_idle s.local.parts) (unended_in log log) in
      let homes : length (homes_of log txs) ≡ length txs = length-map txs _ in
      let lp : length s.local.parts ≡ length txs = length-map txs _ in
      let lv : length s.voters ≡ length (homes_of log txs) = length-map (homes_of log txs) _ in
      let lq : length s.requests ≡ length (unended_in log log) = length-map (unended_in log log) _ in
      let enough = m.enough in let records = m.records in let pairs = m.pairs in let mail = m.mail in let places = m.places in
      let fewer : left s + 1 ≤ count = omega (arith, p, v, q, homes, enough) in
      record {
        transactions = m.shard ∙ sym m.transactions;
        voters = m.participant ∙ sym m.transactions;
        home = m.coordinator ∙ sym m.transactions;
        prepares = λ t. m.prepares t ∙ ap (λ (l : Local). prepare_lsn l.log t) (sym m.local);
        dependents = subst (λ (l : Local). DependentsHaveParts l) (sym m.local) (depend shard a.run epoch log 0 []);
        logged = subst (λ rs. All (known_keys (seen a)) rs) (sym (ap (λ n. drop n (a.transactions.local).log) m.durable ∙ ap (λ (l : Local). drop (length log) l.log) m.local ∙ drop-length log)) tt;
        candidates = subst (λ (x : Shard). AreKnown x a.candidates) (sym made_is) (record { known = λ x i. absurd (both_ways _ (ap (tx_in x) m.none) i); places = omega (arith, lp, lv, lq, homes, enough, places) });
        room = subst (λ (x : Shard). HasRoom x a.transactions a.outbox) (sym made_is) (record { records = omega (arith, fewer, records); pairs = omega (arith, fewer, pairs); messages = omega (arith, fewer, mail) });
      }
