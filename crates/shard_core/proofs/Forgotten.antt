-- Without the row of a request whose part is finished nothing becomes due, and what is known stays so.
use Rattle.std.proofs.Common.{◌≡◌, ⊎_elim, refl, sym, ap, subst, ◌∙◌, ℕ, suc, ◌+◌, ◌≤◌, Bool, true, false, cond, ◌||◌, List, [], ◌∷◌, ◌++◌, Option, Some, None, length, drop, arith}
use Rattle.std.proofs.lemmas.Bool.{both_ways, or_left, or_right, or_cases}
use Rattle.std.specs.List.Sorted.{IsStrictlySortedBy}
use Rattle.std.specs.Map.{keys_of}
use Rattle.clv_base.specs.declared.names.TxId.{TxId}
use Rattle.clv_base.specs.declared.state.Stage.TheVariants.{Gone}
use Rattle.clv_base.specs.declared.state.Held.{Held}
use Rattle.clv_base.specs.Orders.{Table, tx_cmp, tx_same, tx_in, tx_get, tx_drop}
use Rattle.clv_base.specs.State.{Shard, Local, with_local}
use Rattle.clv_base.specs.Undo.{stage_of}
use Rattle.clv_base.specs.Facts.{facts_of}
use Rattle.clv_base.specs.OneShard.{purge}
use Rattle.clv_base.proofs.SameNames.{tx_true, tx_eq}
use Rattle.protocol_laws.specs.Candidates.{is_commit_due, is_vote_due, is_ruling_due, is_due, is_due_by, Cover, DueByFacts}
use Rattle.protocol_laws.specs.Left.{left_request, total_by, is_idle, left}
use Rattle.protocol_laws.proofs.Laws.{in_append}
use Rattle.two_phase_commit.proofs.Laws.{get_drop}
use Rattle.txn_core.specs.State.{TxState}
use Rattle.txn_core.specs.Sound.{IsSound}
use Rattle.two_phase_commit.specs.Coordinated.{Coordination}
use Rattle.due_step.specs.Ready.{IsReady}
use Rattle.due_step.specs.Sent.{Waiting}
use Rattle.tx_table.specs.Held.{Candidates}
use Rattle.due_step.specs.Noting.{known_keys}
use Rattle.shard_core.specs.Whole.{HasRoom, IsAtRest}
use Rattle.shard_core.proofs.Logged.{logged_known}
use Rattle.law_base.proofs.Names.{in_first as in_left, in_second as in_right}
use Rattle.shard_core.proofs.Parts.{Parts, seen, viewed, Holds, Changed, covered, rest_kept}

-- the shard without the row
abbrev pub dropped : TxId → Shard → Shard
dropped tx s = record s { requests = tx_drop tx s.requests }

-- ---- who has something due

less_due : (c v r : Bool) → (c || (v || false)) ≡ true → (c || (v || r)) ≡ true
less_due true v r e = refl
less_due false true r e = refl
less_due false false r e = absurd (both_ways false refl e)

none_due : DueByFacts → (s : Shard) (tx t : TxId) → IsStrictlySortedBy tx_cmp (keys_of s.requests) → is_due (dropped tx s) t ≡ true → is_due s t ≡ true
none_due by_facts s tx t h e = by_facts s t ∙ at (tx_same tx t) refl (sym (ap (is_due_by s.shard t (facts_of s t) (tx_get t s.voters)) (get_drop tx t s.requests h)) ∙ sym (by_facts (dropped tx s) t) ∙ e)
  where
    at : (b : Bool) → tx_same tx t ≡ b → is_due_by s.shard t (facts_of s t) (tx_get t s.voters) (cond (tx_same tx t) None (tx_get t s.requests)) ≡ true
        → is_due_by s.shard t (facts_of s t) (tx_get t s.voters) (tx_get t s.requests) ≡ true
    at true i f =
        less_due (is_commit_due (facts_of s t)) (is_vote_due (facts_of s t) (tx_get t s.voters)) (is_ruling_due s.shard t (facts_of s t) (tx_get t s.requests))
        (sym (ap (λ b. is_due_by s.shard t (facts_of s t) (tx_get t s.voters) (cond b None (tx_get t s.requests))) i) ∙ f)
    at false i f = sym (ap (λ b. is_due_by s.shard t (facts_of s t) (tx_get t s.voters) (cond b None (tx_get t s.requests))) i) ∙ f

-- ---- who is known

key_there : {V : Type 0} (tx : TxId) (v : V) (rows : Table V) → tx_get tx rows ≡ Some v → tx_in tx (keys_of rows) ≡ true
key_there tx v [] e = absurd cc
key_there tx v (r ∷ rs) e = at (tx_same tx r.0) refl e (key_there tx v rs)
  where
    at : (b : Bool) → tx_same tx r.0 ≡ b → cond b (Some r.1) (tx_get tx rs) ≡ Some v → (tx_get tx rs ≡ Some v → tx_in tx (keys_of rs) ≡ true) → (tx_same r.0 tx || tx_in tx (keys_of rs)) ≡ true
    at true i f more = or_left _ _ (tx_eq r.0 tx (sym (tx_true tx r.0 i)))
    at false i f more = or_right _ _ (more f)

part_there : (l : Local) (tx : TxId) → stage_of l tx ≡ Some (Gone None) → tx_in tx (keys_of l.parts) ≡ true
part_there l tx e = at (tx_get tx l.parts) refl e
  where
    at : (o : Option Held) → tx_get tx l.parts ≡ o → elim o [ Some h ↦ Some h.stage | None ↦ None ] ≡ Some (Gone None) → tx_in tx (keys_of l.parts) ≡ true
    at None i f = absurd cc
    at (Some h) i f = key_there tx h l.parts i

-- a key of the rows is the one that goes, or stays
keys_left : {V : Type 0} (tx x : TxId) (rows : Table V) → tx_in x (keys_of rows) ≡ true → (tx_same tx x || tx_in x (keys_of (tx_drop tx rows))) ≡ true
keys_left tx x [] e = absurd (both_ways false refl e)
keys_left tx x (r ∷ rs) e = ⊎_elim (λ i. first (tx_same tx r.0) refl i) (λ i. more (tx_same tx r.0) i (keys_left tx x rs i)) (or_cases (tx_same r.0 x) (tx_in x (keys_of rs)) e)
  where
    first : (b : Bool) → tx_same tx r.0 ≡ b → tx_same r.0 x ≡ true → (tx_same tx x || tx_in x (keys_of (cond b rs (r ∷ tx_drop tx rs)))) ≡ true
    first true i f = or_left _ _ (tx_eq tx x (tx_true tx r.0 i ∙ tx_true r.0 x f))
    first false i f = or_right (tx_same tx x) _ (or_left _ _ f)

    more : (b : Bool) → tx_in x (keys_of rs) ≡ true → (tx_same tx x || tx_in x (keys_of (tx_drop tx rs))) ≡ true → (tx_same tx x || tx_in x (keys_of (cond b rs (r ∷ tx_drop tx rs)))) ≡ true
    more true i f = or_right (tx_same tx x) _ i
    more false i f = ⊎_elim (λ j. or_left _ _ j) (λ j. or_right (tx_same tx x) _ (or_right (tx_same r.0 x) _ j)) (or_cases (tx_same tx x) (tx_in x (keys_of (tx_drop tx rs))) f)

still_known : (s : Shard) (tx x : TxId) → tx_in tx (keys_of s.local.parts) ≡ true → tx_in x (known_keys s) ≡ true → tx_in x (known_keys (dropped tx s)) ≡ true
still_known s tx x here e =
    ⊎_elim (λ i. in_left x parts rest i)
    (λ i. ⊎_elim (λ j. in_right x parts rest (in_left x voters left_over j)) (λ j. ⊎_elim own (λ k. in_right x parts rest (in_right x voters left_over k)) (or_cases (tx_same tx x) (tx_in x left_over) (keys_left tx x s.requests j)))
    (or_cases (tx_in x voters) (tx_in x (keys_of s.requests)) (sym (in_append x voters (keys_of s.requests)) ∙ i)))
    (or_cases (tx_in x parts) (tx_in x (voters ++ keys_of s.requests)) (sym (in_append x parts (voters ++ keys_of s.requests)) ∙ e))
  where
    parts : List TxId
    parts = keys_of s.local.parts

    voters : List TxId
    voters = keys_of s.voters

    left_over : List TxId
    left_over = keys_of (tx_drop tx s.requests)

    rest : List TxId
    rest = voters ++ left_over

    own : tx_same tx x ≡ true → tx_in x (parts ++ rest) ≡ true
    own i = in_left x parts rest (subst (λ z. tx_in z parts ≡ true) (tx_true tx x i) here)

-- ---- how much is left

fewer : {V : Type 0} (tx : TxId) (rows : Table V) → length (tx_drop tx rows) ≤ length rows
fewer tx [] = omega arith
fewer tx (r ∷ rs) = at (tx_same tx r.0) (fewer tx rs)
  where
    at : (b : Bool) → length (tx_drop tx rs) ≤ length rs → length (cond b rs (r ∷ tx_drop tx rs)) ≤ suc (length rs)
    at true more = omega arith
    at false more = omega (arith, more)

less : {V : Type 0} (f : Bool → V → ℕ) (test : TxId → Bool) (tx : TxId) (rows : Table V) → total_by f test (tx_drop tx rows) ≤ total_by f test rows
less f test tx [] = omega arith
less f test tx (r ∷ rs) = at (tx_same tx r.0) (less f test tx rs)
  where
    at : (b : Bool) → total_by f test (tx_drop tx rs) ≤ total_by f test rs → total_by f test (cond b rs (r ∷ tx_drop tx rs)) ≤ f (test r.0) r.1 + total_by f test rs
    at true more = omega arith
    at false more = omega (arith, more)

less_left : (s : Shard) (tx : TxId) → left (dropped tx s) ≤ left s
less_left s tx = let h = less (left_request s.shard) (is_idle s.local.parts) tx s.requests in omega (arith, h)

still_room : (s : Shard) (tx : TxId) (t : TxState) (o : Waiting) → HasRoom s t o → HasRoom (dropped tx s) t o
still_room s tx t o r =
    let h = less_left s tx in let a = r.records in let b = r.pairs in let c = r.messages in
    record { records = omega (arith, h, a); pairs = omega (arith, h, b); messages = omega (arith, h, c) }

-- ---- all of it

pub forgotten : DueByFacts → (a : Parts) (tx : TxId) (c : Coordination) → IsAtRest (viewed a) → Holds a → stage_of a.transactions.local tx ≡ Some (Gone None) → c ≡ record a.coordinator { requests = tx_drop tx a.coordinator.requests }
    → IsStrictlySortedBy tx_cmp (keys_of c.requests) → IsSound a.transactions.local a.transactions.room → purge a.transactions.local ≡ a.transactions.local → Changed (record a { coordinator = c }) (dropped tx (seen a))
forgotten by_facts a tx c rest whole done is rise sound purged =
    let s : Shard = seen a in let v : Shard = dropped tx s in let b : Parts = record a { coordinator = c } in
    let here = part_there s.local tx done in
    let alike : seen b ≡ v = ap (λ (k : Coordination). seen (record a { coordinator = k })) is in
    let pure : v ≡ with_local purge v = ap (λ (l : Local). record v { local = l }) (sym purged) in
    covered a b v whole (alike ∙ pure)
    (subst (λ xs. Cover xs (with_local purge v)) (sym rest.none) (subst (Cover []) pure (λ t e. rest.ready.cover t (none_due by_facts s tx t rest.ready.requests e))))
    (record { shard = refl; transactions = refl; participant = refl; coordinator = ap (λ (k : Coordination). k.shard) is }) whole.prepares whole.dependents
    (logged_known (known_keys s) (known_keys v) (λ x e. still_known s tx x here e) (drop a.transactions.durable (a.transactions.local).log) whole.logged)
    (record { known = λ x e. still_known s tx x here (whole.candidates.known x e); places = (let h = fewer tx s.requests in let p = whole.candidates.places in omega (arith, h, p)) })
    (still_room s tx a.transactions a.outbox whole.room) (subst (λ (k : Coordination). IsStrictlySortedBy tx_cmp (keys_of k.requests)) is rise) (rest_kept a b rest refl sound purged)

-- what is at rest stays so
pub forgotten_rest : (a b : Parts) (v : Shard) → IsAtRest (viewed a) → b.candidates ≡ a.candidates → Changed b v → IsAtRest (viewed b)
forgotten_rest a b v rest same c =
    let none : b.candidates.txs ≡ [] = ap (λ (k : Candidates). k.txs) same ∙ rest.none in
    record { none = none; ready = subst (λ xs. IsReady (seen b) xs b.candidates.limit) none c.ready }
