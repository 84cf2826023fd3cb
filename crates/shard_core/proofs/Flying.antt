-- Records in flight.
use Rattle.std.proofs.Common.{◌≡◌, refl, sym, ap, subst, ◌∙◌, ⊎_elim, ℕ, ◌+◌, ◌<◌, ◌≤◌, ◌==◌, Bool, true, false, cond, ◌||◌, ◌++◌, length, length-append, drop, slice_range, Some, None, eq-eqb, eqb-true, unwrap_or, arith}
use Rattle.std.proofs.lemmas.Bool.{or_cases, cond-true, cond-false, false_from_ne_true}
use Rattle.std.specs.Map.{keys_of}
use Rattle.clv_base.specs.declared.names.TxId.{TxId}
use Rattle.clv_base.specs.Orders.{tx_in}
use Rattle.clv_base.specs.State.{Shard}
use Rattle.clv_base.specs.Events.{with_durable}
use Rattle.protocol_laws.specs.Depending.{DependentsHaveParts}
use Rattle.tx_table.specs.Held.{Candidates, HasRoomBy}
use Rattle.due_step.specs.Noting.{known_keys}
use Rattle.due_step.proofs.Laws.{keys_length}
use Rattle.txn_core.specs.Landed.{concern}
use Rattle.shard_core.specs.Core.{flight_by}
use Rattle.shard_core.specs.Whole.{AreKnown}
use Rattle.shard_core.proofs.Logged.{All, landed_known}
use Rattle.shard_core.proofs.Seeing.{part_known, pair_has}

-- where nothing flies, all that was taken is durable
pub none_flies : (d t : ℕ) → flight_by d t ≡ None → d ≡ t
none_flies d t e = at (d == t) refl e
  where
    at : (b : Bool) → (d == t) ≡ b → cond b None (Some t) ≡ None → d ≡ t
    at true s e = eqb-true d t s
    at false s e = absurd cc

pub upto_is : (d t n : ℕ) → flight_by d t ≡ Some n → t ≡ n
upto_is d t n e = at (d == t) e
  where
    at : (b : Bool) → cond b None (Some t) ≡ Some n → t ≡ n
    at true e = absurd cc
    at false e = cc

pub taken_is : (d t : ℕ) → unwrap_or (flight_by d t) d ≡ t
taken_is d t = at (d == t) refl
  where
    at : (b : Bool) → (d == t) ≡ b → unwrap_or (cond b None (Some t)) d ≡ t
    at true s = eqb-true d t s
    at false s = refl

-- the batch that is taken flies
pub batch_flies : (d t : ℕ) (k : ℕ → ℕ) → flight_by d t ≡ None → 0 < k (unwrap_or (flight_by d t) d) → flight_by d (t + k t) ≡ Some (d + k (unwrap_or (flight_by d t) d))
batch_flies d t k none some =
    let same = none_flies d t none in let taken : unwrap_or (flight_by d t) d ≡ d = ap (λ o. unwrap_or o d) none in
    let more : 0 < k d = subst (λ n. 0 < k n) taken some in
    ap (λ n. flight_by d (n + k n)) (sym same)
    ∙ cond-false (d == (d + k d)) None (Some (d + k d)) (false_from_ne_true _ (λ e. apart d (k d) more (eqb-true d (d + k d) e))) ∙ ap (λ n. Some (d + k n)) (sym taken)
  where
    apart : (a b : ℕ) → 0 < b → a ≡ a + b → ⊥
    apart a b h e = omega arith

-- nothing flies once all is durable
pub landed_flies : (s : Shard) (n : ℕ) → record s { durable = n; flight = flight_by n n } ≡ with_durable n s
landed_flies s n = ap (λ f. record s { durable = n; flight = f }) (cond-true (n == n) None (Some n) (eq-eqb n n refl))

sized : (s : Shard) (d : Candidates) → AreKnown s d → length (known_keys s) ≤ d.limit
sized s d k =
    let p = keys_of s.local.parts in let v = keys_of s.voters in let q = keys_of s.requests in
    let a = length-append p (v ++ q) in let b = length-append v q in
    let lp = keys_length s.local.parts in let lv = keys_length s.voters in let lq = keys_length s.requests in let places = k.places in
    omega (arith, a, b, lp, lv, lq, places)

their : (s : Shard) (d n : ℕ) → DependentsHaveParts s.local → All (known_keys s) (drop d s.local.log) → (x : TxId) → concern s.local.pairs (slice_range s.local.log d n) x ≡ true → tx_in x (known_keys s) ≡ true
their s d n dependents logged = landed_known (known_keys s) s.local.pairs s.local.log d n (λ x p i. part_known s x (pair_has s.local.parts s.local.pairs x p dependents i)) logged

-- there is room for those whom the records concern
pub room_landed : (s : Shard) (d n : ℕ) (c : Candidates) → AreKnown s c → DependentsHaveParts s.local → All (known_keys s) (drop d s.local.log) → HasRoomBy (concern s.local.pairs (slice_range s.local.log d n)) c
room_landed s d n c k dependents logged = (known_keys s, k.known, their s d n dependents logged, sized s c k)

pub known_landed : (s v : Shard) (d n : ℕ) (c f : Candidates) → AreKnown s c → DependentsHaveParts s.local → All (known_keys s) (drop d s.local.log)
    → ((x : TxId) → tx_in x f.txs ≡ (concern s.local.pairs (slice_range s.local.log d n) x || tx_in x c.txs)) → f.limit ≡ c.limit → AreKnown (with_durable n s) f
known_landed s v d n c f k dependents logged put limit = record {
  known = λ x e. ⊎_elim (λ h. their s d n dependents logged x h) (λ h. k.known x h) (or_cases (concern s.local.pairs (slice_range s.local.log d n) x) (tx_in x c.txs) (sym (put x) ∙ e));
  places = let places = k.places in omega (arith, places, limit);
}
