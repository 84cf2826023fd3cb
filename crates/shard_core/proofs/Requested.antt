-- One request changes, with no more left to do.
use Rattle.std.proofs.Common.{◌≡◌, refl, sym, ap, subst, ◌∙◌, ⊎_elim, ℕ, ◌≤◌, Bool, true, false, ◌&&◌, is_none, List, [], ◌∷◌, ◌++◌, length, length-append, drop, Option, Some, None, arith}
use Rattle.std.proofs.lemmas.Bool.{both_ways, or_cases, and_parts, cond-true}
use Rattle.std.specs.List.Sorted.{IsStrictlySortedBy}
use Rattle.std.specs.Map.{keys_of}
use Rattle.clv_base.specs.declared.names.TxId.{TxId}
use Rattle.clv_base.specs.declared.causes.Vote.{Vote}
use Rattle.clv_base.specs.declared.state.Request.{Request}
use Rattle.clv_base.specs.Orders.{Table, tx_same, tx_in, tx_get, tx_set, tx_insert, tx_cmp}
use Rattle.clv_base.specs.State.{Shard, Local}
use Rattle.clv_base.specs.declared.state.RequestState.{RequestState}
use Rattle.clv_base.specs.declared.state.RequestState.TheVariants.{Undecided, Committed, Finished, Refused}
use Rattle.clv_base.specs.Orders.{nat_in}
use Rattle.clv_base.specs.Events.{is_alone}
use Rattle.clv_base.specs.Coordinator.{others, first_no, counts_vote, takes_vote, with_vote_of, takes_done, with_done_of}
use Rattle.clv_base.proofs.SameNames.{tx_true, in_insert, insert_has}
use Rattle.protocol_laws.specs.Changes.{ChangesDue}
use Rattle.protocol_laws.specs.Left.{is_idle, left_by, left_request, left}
use Rattle.protocol_laws.proofs.Laws.{total_by_at, set_keys, answers_touch}
use Rattle.shard_core.proofs.Changing.{room_kept}
use Rattle.tx_table.specs.Held.{Candidates, HasRoomFor}
use Rattle.due_step.specs.Noting.{known_keys}
use Rattle.due_step.proofs.Laws.{keys_length}
use Rattle.two_phase_commit.specs.Coordinated.{Coordination, counts_by, done_by, requests_with, requests_done}
use Rattle.shard_core.specs.Replying.{vote_taken, done_taken}
use Rattle.shard_core.specs.Whole.{AreKnown, IsAtRest}
use Rattle.shard_core.proofs.Logged.{logged_known}
use Rattle.shard_core.proofs.Parts.{Parts, seen, viewed, Holds, Changed, changed, AreKept}
use Rattle.law_base.proofs.Names.{has_key as get_key, in_second}

-- ---- who has a request is known

pub request_known : (s : Shard) (tx : TxId) (q : Request) → tx_get tx s.requests ≡ Some q → tx_in tx (known_keys s) ≡ true
request_known s tx q e = in_second tx (keys_of s.local.parts) _ (in_second tx (keys_of s.voters) (keys_of s.requests) (get_key tx q s.requests e))

-- there is room for one that is known
pub room_known : (s : Shard) (tx : TxId) (d : Candidates) → AreKnown s d → tx_in tx (known_keys s) ≡ true → HasRoomFor (tx ∷ []) d
room_known s tx d k own = (known_keys s, k.known, λ x e. ⊎_elim (λ h. subst (λ z. tx_in z (known_keys s) ≡ true) (tx_true tx x h) own) (λ h. absurd (both_ways false refl h)) (or_cases (tx_same tx x) false e), sized)
  where
    sized : length (known_keys s) ≤ d.limit
    sized =
        let p = keys_of s.local.parts in let v = keys_of s.voters in let q = keys_of s.requests in
        let a = length-append p (v ++ q) in let b = length-append v q in
        let lp = keys_length s.local.parts in let lv = keys_length s.voters in let lq = keys_length s.requests in let places = k.places in
        omega (arith, a, b, lp, lv, lq, places)

-- one that is known is a candidate besides
pub known_own : (s : Shard) (tx : TxId) (d f : Candidates) → AreKnown s d → tx_in tx (known_keys s) ≡ true → f ≡ record d { txs = tx_insert tx d.txs } → AreKnown s f
known_own s tx d f k own same = subst (AreKnown s) (sym same) (record { known = λ x e. ⊎_elim (λ h. subst (λ z. tx_in z (known_keys s) ≡ true) (sym h) own) (λ h. k.known x h) (in_insert tx x d.txs e); places = k.places })

pub own_within : (tx : TxId) (d f : Candidates) → f ≡ record d { txs = tx_insert tx d.txs } → (x : TxId) → tx_in x (tx ∷ []) ≡ true → tx_in x f.txs ≡ true
own_within tx d f same x e = ⊎_elim (λ h. subst (λ z. tx_in z f.txs ≡ true) (tx_true tx x h) (ap (λ (c : Candidates). tx_in tx c.txs) same ∙ insert_has tx d.txs)) (λ h. absurd (both_ways false refl h)) (or_cases (tx_same tx x) false e)

abbrev pub with_request : TxId → Request → Shard → Shard
with_request tx r s = record s { requests = tx_set tx r s.requests }

pub set_changed : (a : Parts) (tx : TxId) (q r : Request) (c : Coordination) (f : Candidates) → IsAtRest (viewed a) → Holds a → tx_get tx a.coordinator.requests ≡ Some q → ((idle : Bool) → left_request (seen a).shard idle r ≤ left_request (seen a).shard idle q)
    → c ≡ record a.coordinator { requests = tx_set tx r a.coordinator.requests } → f ≡ record a.candidates { txs = tx_insert tx a.candidates.txs } → ChangesDue (tx ∷ []) (seen a) (with_request tx r (seen a))
    → AreKept (record a { coordinator = c; candidates = f }) → Changed (record a { coordinator = c; candidates = f }) (with_request tx r (seen a))
set_changed a tx q r c f rest whole there fewer taken put touch kept =
    let s : Shard = seen a in let V : Shard = with_request tx r s in let b : Parts = record a { coordinator = c; candidates = f } in
    let own = request_known s tx q there in
    let sum = total_by_at (left_request s.shard) (is_idle s.local.parts) tx s.requests q r there in let one = fewer (is_idle s.local.parts tx) in
    let lefts : left V ≤ left s = omega (arith, sum, one) in
    let keys = set_keys tx r s.requests in
    let k = known_own s tx a.candidates f whole.candidates own put in
    let sized = sym (keys_length V.requests) ∙ ap length keys ∙ keys_length s.requests in
    let places = k.places in
    changed a b V (tx ∷ []) rest whole
    (ap (λ (x : Coordination). seen (record a { coordinator = x })) taken ∙ ap (λ (l : Local). record V { local = l }) (sym kept.purged))
    touch
    (own_within tx a.candidates f put)
    (record { shard = refl; transactions = refl; participant = refl; coordinator = ap (λ (x : Coordination). x.shard) taken })
    whole.prepares whole.dependents
    (logged_known (known_keys s) (known_keys V) (λ x e. subst (λ ks. tx_in x (keys_of s.local.parts ++ (keys_of s.voters ++ ks)) ≡ true) (sym keys) e) (drop a.transactions.durable (a.transactions.local).log) whole.logged)
    (record { known = λ x e. subst (λ ks. tx_in x (keys_of s.local.parts ++ (keys_of s.voters ++ ks)) ≡ true) (sym keys) (k.known x e); places = omega (arith, sized, places) })
    (room_kept s V a.transactions a.transactions a.outbox a.outbox lefts (omega arith) (omega arith) (omega arith) whole.room)
    (subst (IsStrictlySortedBy tx_cmp) (sym keys) rest.ready.requests)
    kept

-- ---- votes and acknowledgements

-- a vote that counts is of a request that isn't this shard's alone
vote_counted : (shard from : ℕ) (q : Request) (st : RequestState) → counts_vote shard from q st ≡ true → is_alone (others shard q.touched) ≡ false
vote_counted shard from q Undecided e = at (others shard q.touched) (and_parts (nat_in from (others shard q.touched)) _ e).0
  where
    at : (os : List ℕ) → nat_in from os ≡ true → is_alone os ≡ false
    at [] i = absurd (both_ways false refl i)
    at (p ∷ ps) i = refl
vote_counted shard from q (Committed parts) e = absurd (both_ways false refl e)
vote_counted shard from q Finished e = absurd (both_ways false refl e)
vote_counted shard from q (Refused cause) e = absurd (both_ways false refl e)

vote_left : (shard from : ℕ) (vote : Vote) (q : Request) → takes_vote shard from q ≡ true → (idle : Bool) → left_request shard idle (with_vote_of from vote q) ≤ left_request shard idle q
vote_left shard from vote q e idle = omega (arith, same)
  where
    by : List (ℕ × Vote) → Bool → ℕ
    by votes alone = left_by (idle && (alone && is_none (first_no votes))) q.state q.is_ended

    same : left_request shard idle (with_vote_of from vote q) ≡ left_request shard idle q
    same = let apart = vote_counted shard from q q.state e in ap (by (with_vote_of from vote q).votes) apart ∙ sym (ap (by q.votes) apart)

-- the request that is there
pub there : (tx : TxId) (rs : Table Request) (b : Option Request → Bool) → b None ≡ false → b (tx_get tx rs) ≡ true → (q : Request) × (tx_get tx rs ≡ Some q) × (b (Some q) ≡ true)
there tx rs b none e = at (tx_get tx rs) refl e
  where
    at : (o : Option Request) → tx_get tx rs ≡ o → b o ≡ true → (q : Request) × (tx_get tx rs ≡ Some q) × (b (Some q) ≡ true)
    at (Some q) g h = (q, g, h)
    at None g h = absurd (both_ways _ none h)

pub vote_changed : (a : Parts) (tx : TxId) (from : ℕ) (vote : Vote) (c : Coordination) (f : Candidates) → IsAtRest (viewed a) → Holds a → counts_by a.transactions.shard from (tx_get tx a.coordinator.requests) ≡ true
    → c ≡ record a.coordinator { requests = requests_with tx a.coordinator.shard from vote (tx_get tx a.coordinator.requests) a.coordinator.requests } → f ≡ record a.candidates { txs = tx_insert tx a.candidates.txs }
    → AreKept (record a { coordinator = c; candidates = f }) → Changed (record a { coordinator = c; candidates = f }) (vote_taken tx from vote (tx_get tx (seen a).requests) (seen a))
vote_changed a tx from vote c f rest whole counts taken put kept =
    let rs = a.coordinator.requests in let q = there tx rs (counts_by a.transactions.shard from) refl counts in
    let home : a.coordinator.shard ≡ a.transactions.shard = whole.home in
    let is = subst (λ n. counts_by n from (Some q.0) ≡ true) (sym home) q.2 in
    let b : Parts = record a { coordinator = c; candidates = f } in
    subst (λ o. Changed b (vote_taken tx from vote o (seen a))) (sym q.1)
    (set_changed a tx q.0 (with_vote_of from vote q.0) c f rest whole q.1 (vote_left a.transactions.shard from vote q.0 q.2)
    (taken ∙ ap (λ o. record a.coordinator { requests = requests_with tx a.coordinator.shard from vote o rs }) q.1
    ∙ ap (λ (t : Table Request). record a.coordinator { requests = t }) (cond-true (takes_vote a.coordinator.shard from q.0) (tx_set tx (with_vote_of from vote q.0) rs) rs is))
    put (answers_touch.0 (seen a) tx from vote q.0) kept)

pub done_changed : (a : Parts) (tx : TxId) (from : ℕ) (c : Coordination) (f : Candidates) → IsAtRest (viewed a) → Holds a → done_by from (tx_get tx a.coordinator.requests) ≡ true
    → c ≡ record a.coordinator { requests = requests_done tx from (tx_get tx a.coordinator.requests) a.coordinator.requests } → f ≡ record a.candidates { txs = tx_insert tx a.candidates.txs }
    → AreKept (record a { coordinator = c; candidates = f }) → Changed (record a { coordinator = c; candidates = f }) (done_taken tx from (tx_get tx (seen a).requests) (seen a))
done_changed a tx from c f rest whole counts taken put kept =
    let rs = a.coordinator.requests in let q = there tx rs (done_by from) refl counts in
    let b : Parts = record a { coordinator = c; candidates = f } in
    subst (λ o. Changed b (done_taken tx from o (seen a))) (sym q.1)
    (set_changed a tx q.0 (with_done_of from q.0) c f rest whole q.1 (λ idle. omega arith)
    (taken ∙ ap (λ o. record a.coordinator { requests = requests_done tx from o rs }) q.1
    ∙ ap (λ (t : Table Request). record a.coordinator { requests = t }) (cond-true (takes_done from q.0) (tx_set tx (with_done_of from q.0) rs) rs q.2))
    put (answers_touch.1 (seen a) tx from q.0) kept)
