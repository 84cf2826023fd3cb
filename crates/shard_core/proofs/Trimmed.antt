-- Room that is given back: what is open is counted as the definitions count it, and what may still be done keeps its room.
use Rattle.std.proofs.Common.{◌≡◌, refl, sym, ap, subst, ◌∙◌, ℕ, zero, suc, ◌+◌, ◌*◌, ◌<◌, ◌≤◌, ◌==◌, min, Bool, true, false, cond, not, ◌||◌, List, [], ◌∷◌, Option, Some, None, length, take, get_or, add-one, arith}
use Rattle.std.specs.List.{filter, list_any}
use Rattle.std.specs.Map.{keys_of}
use Rattle.std.specs.List.Sorted.{IsStrictlySortedBy}
use Rattle.clv_base.specs.declared.names.TxId.{TxId}
use Rattle.clv_base.specs.declared.state.Request.{Request}
use Rattle.clv_base.specs.declared.state.RequestState.{RequestState}
use Rattle.clv_base.specs.declared.state.RequestState.TheVariants.{Undecided, Committed, Finished, Refused}
use Rattle.clv_base.specs.declared.state.Voter.{Voter}
use Rattle.clv_base.specs.Orders.{Table, tx_get, tx_cmp}
use Rattle.clv_base.specs.State.{Shard}
use Rattle.clv_base.specs.Coordinator.{others}
use Rattle.clv_base.specs.Events.{is_alone}
use Rattle.two_phase_commit.specs.Waiting.{waits_in as waits_here, waits, waiting_in}
use Rattle.protocol_laws.specs.Rooms.{voter_of}
use Rattle.protocol_laws.specs.Left.{left}
use Rattle.tx_table.specs.Parts.{parts_here}
use Rattle.two_phase_commit.specs.Voting.{owed_by}
use Rattle.protocol_laws.specs.Open.{txs_here, votes_owed, waits_in, count_waiting, open_work}
use Rattle.protocol_laws.proofs.Laws.{none_is_nothing, left_by_open}
use Rattle.due_step.specs.Sent.{Waiting}
use Rattle.txn_core.specs.State.{TxState}
use Rattle.txn_core.specs.Sound.{is_here, owed_by as undo_owed_by, trimmed}
use Rattle.shard_core.specs.Core.{Core}
use Rattle.shard_core.specs.Whole.{HasRoom, IsAtRest}
use Rattle.shard_core.proofs.Parts.{Parts, seen, viewed, Holds}
use Rattle.law_base.proofs.Numbers.{under_min as least}

-- ---- requests that wait

any_other : (shard : ℕ) (ts : List (ℕ × ℕ)) → list_any (λ t. not (t.0 == shard)) ts ≡ not (is_alone (others shard ts))
any_other shard [] = refl
any_other shard (t ∷ ts) = at (not (t.0 == shard)) (any_other shard ts)
  where
    at : (b : Bool) → list_any (λ t. not (t.0 == shard)) ts ≡ not (is_alone (others shard ts)) → (b || list_any (λ t. not (t.0 == shard)) ts) ≡ not (is_alone (cond b (t.0 ∷ others shard ts) (others shard ts)))
    at true e = refl
    at false e = e

waits_same : (shard : ℕ) (q : Request) (st : RequestState) → waits_here shard q st ≡ waits_in shard q st
waits_same shard q Undecided = any_other shard q.touched
waits_same shard q (Committed parts) = refl
waits_same shard q Finished = refl
waits_same shard q (Refused cause) = refl

pub count_same : (shard : ℕ) (rows : Table Request) → length (waiting_in shard rows) ≡ count_waiting shard rows
count_same shard [] = refl
count_same shard (r ∷ rs) = at (waits shard r.1) (waits_in shard r.1 (r.1).state) (waits_same shard r.1 (r.1).state) (count_same shard rs)
  where
    here : Table Request
    here = filter (λ x. waits shard x.1) rs

    open_rows : Table Request
    open_rows = filter (λ x. waits_in shard x.1 (x.1).state) rs

    at : (b c : Bool) → b ≡ c → length (keys_of here) ≡ length open_rows → length (keys_of (cond b (r ∷ here) here)) ≡ length (cond c (r ∷ open_rows) open_rows)
    at true true e more = ap suc more
    at false false e more = more
    at true false e more = absurd cc
    at false true e more = absurd cc

-- ---- votes that are owed

pub owed_next : (voters : Table Voter) (ts : List TxId) (i : ℕ) (d : TxId) → i < length ts → votes_owed voters (take (suc i) ts) ≡ votes_owed voters (take i ts) + voter_of (tx_get (get_or ts i d) voters)
owed_next voters [] i d h = absurd (omega arith)
owed_next voters (t ∷ ts) zero d h = omega arith
owed_next voters (t ∷ ts) (suc i) d h = let more = owed_next voters ts i d (omega (arith, h)) in omega (arith, more)

-- ---- enough stays

pub open_enough : (c : Core) → IsAtRest c → IsStrictlySortedBy tx_cmp (keys_of (c.shard).voters) → left c.shard ≤ open_work c.shard
open_enough c r voters = left_by_open c.shard voters r.ready.requests (none_is_nothing c.shard r.ready.cover)

pub room_stays : (s : Shard) (t : TxState) (o : Waiting) (n : ℕ) → left s + 1 ≤ n → HasRoom s t o → HasRoom s (trimmed n t) (record o { room = min o.room (15 * n) })
room_stays s t o n enough r =
    let a = r.records in let u = undo_owed_by (is_here t.local) (t.local).log in
    record {
      records = least (left s + 1 + u) t.room (n + u) a (omega (arith, enough));
      pairs = least (left s + 1) t.pairs_room n r.pairs enough;
      messages = least (15 * (left s + 1)) o.room (15 * n) r.messages (omega (arith, enough));
    }

-- ---- the parts without it

module _ (a : Parts) (u : TxState) (w : Waiting) (n : ℕ) (same : u ≡ trimmed n a.transactions) (mail : w ≡ record a.outbox { room = min a.outbox.room (15 * n) }) where
  abbrev less : Parts
  less = record a { transactions = u; outbox = w }

  pub trimmed_same : seen less ≡ seen a
  trimmed_same = ap (λ (x : TxState). seen (record a { transactions = x; outbox = w })) same ∙ ap (λ (x : Waiting). seen (record a { outbox = x })) mail

  pub trimmed_holds : Holds a → left (seen a) + 1 ≤ n → Holds less
  trimmed_holds whole enough =
      subst (λ (x : TxState). Holds (record a { transactions = x; outbox = w })) (sym same)
      (subst (λ (x : Waiting). Holds (record a { transactions = trimmed n a.transactions; outbox = x })) (sym mail)
      (record {
        transactions = whole.transactions;
        voters = whole.voters;
        home = whole.home;
        prepares = whole.prepares;
        dependents = whole.dependents;
        logged = whole.logged;
        candidates = record { known = whole.candidates.known; places = whole.candidates.places };
        room = kept (room_stays (seen a) a.transactions a.outbox n enough whole.room);
      }))
    where
      kept : HasRoom (seen a) (trimmed n a.transactions) (record a.outbox { room = min a.outbox.room (15 * n) })
          → HasRoom (seen (record a { transactions = trimmed n a.transactions; outbox = record a.outbox { room = min a.outbox.room (15 * n) } })) (trimmed n a.transactions) (record a.outbox { room = min a.outbox.room (15 * n) })
      kept r = record { records = r.records; pairs = r.pairs; messages = r.messages }

-- ---- the count

owed_is : (o : Option Voter) → owed_by o ≡ voter_of o
owed_is None = refl
owed_is (Some v) = refl

pub owed_step : (vs now : Table Voter) (ts : List TxId) (i : ℕ) (d : TxId) (k n m : ℕ) → now ≡ vs → i < length ts → k ≡ votes_owed vs (take i ts) → n ≡ owed_by (tx_get (get_or ts i d) now) → m ≡ k + n → m ≡ votes_owed vs (take (i + 1) ts)
owed_step vs now ts i d k n m same h e o s =
    let one : n ≡ voter_of (tx_get (get_or ts i d) vs) = o ∙ ap (λ (x : Table Voter). owed_by (tx_get (get_or ts i d) x)) same ∙ owed_is (tx_get (get_or ts i d) vs) in
    let more = owed_next vs ts i d h in
    rw add-one (omega (arith, e, one, more, s))

pub need_is : (a : Parts) (c : Core) → viewed a ≡ c → Holds a → (h w n m : ℕ) (hs ws : List TxId) → h ≡ length hs → w ≡ length ws → hs ≡ parts_here (a.transactions.local).parts → ws ≡ waiting_in a.coordinator.shard a.coordinator.requests
    → n ≡ votes_owed (c.shard).voters hs → m ≡ 3 * h + n + 2 * w + 1 → m ≡ open_work c.shard + 1
need_is a c view whole h w n m hs ws eh ew here waiting owed sum = subst (λ (v : Core). m ≡ open_work v.shard + 1) view all
  where
    all : m ≡ open_work (seen a) + 1
    all =
        let parts : length hs ≡ length (txs_here (a.transactions.local).parts) = ap length here in
        let votes : n ≡ votes_owed a.participant.voters (txs_here (a.transactions.local).parts) = owed ∙ ap (λ (v : Core). votes_owed v.shard.voters hs) (sym view) ∙ ap (votes_owed a.participant.voters) here in
        let requests : length ws ≡ count_waiting a.transactions.shard a.coordinator.requests = ap length waiting ∙ count_same a.coordinator.shard a.coordinator.requests ∙ ap (λ k. count_waiting k a.coordinator.requests) whole.home in
        omega (arith, eh, ew, sum, parts, votes, requests)
