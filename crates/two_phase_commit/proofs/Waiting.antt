-- A rising table gives each of its transactions its own voter.
use Rattle.std.proofs.Common.{◌≡◌, refl, sym, ap, ◌∙◌, Bool, true, false, cond, List, [], ◌∷◌, Some}
use Rattle.std.specs.List.{AllByRecursion, filter}
use Rattle.std.specs.List.Sorted.{IsStrictlySortedBy}
use Rattle.std.specs.Map.{keys_of}
use Rattle.std.proofs.lemmas.Bool.{both_ways, false_from_ne_true}
use Rattle.std.proofs.lemmas.List.Kept.{IsStrictlySortedBy-filter}
use Rattle.clv_base.specs.declared.names.TxId.{TxId}
use Rattle.clv_base.specs.declared.parts.PartFacts.{PartFacts}
use Rattle.clv_base.specs.declared.state.Voter.{Voter}
use Rattle.clv_base.specs.Orders.{Table, tx_cmp, tx_get, tx_in, tx_same}
use Rattle.clv_base.specs.Facts.{facts_of}
use Rattle.clv_base.specs.Participant.{asks_home}
use Rattle.clv_base.specs.Events.{waiting_voters}
use Rattle.clv_base.specs.State.{Shard}
use Rattle.clv_base.proofs.SameNames.{or_left, or_right, tx_flip}
use Rattle.law_base.proofs.Sets.{filter_in, in_filter, same_list}
use Rattle.tx_table.proofs.Laws.{HasOwn, rows_own}
use Rattle.two_phase_commit.specs.Voting.{asks_by}
use Rattle.two_phase_commit.specs.Doubtful.{WaitingAmong}

same_pass : (f : TxId → PartFacts) (whole vs : Table Voter) → AllByRecursion (HasOwn whole) vs → keys_of (filter (λ v. asks_home (f v.0) v.1) vs) ≡ filter (λ t. asks_by (f t) (tx_get t whole)) (keys_of vs)
same_pass f whole [] a = refl
same_pass f whole (v ∷ vs) a =
    at (asks_home (f v.0) v.1) (same_pass f whole vs a.1)
    ∙ ap (λ o. cond (asks_by (f v.0) o) (v.0 ∷ filter (λ t. asks_by (f t) (tx_get t whole)) (keys_of vs)) (filter (λ t. asks_by (f t) (tx_get t whole)) (keys_of vs))) (sym a.0)
  where
    at : (b : Bool) → keys_of (filter (λ v. asks_home (f v.0) v.1) vs) ≡ filter (λ t. asks_by (f t) (tx_get t whole)) (keys_of vs)
        → keys_of (cond b (v ∷ filter (λ v. asks_home (f v.0) v.1) vs) (filter (λ v. asks_home (f v.0) v.1) vs))
        ≡ cond b (v.0 ∷ filter (λ t. asks_by (f t) (tx_get t whole)) (keys_of vs)) (filter (λ t. asks_by (f t) (tx_get t whole)) (keys_of vs))
    at true e = ap (λ l. v.0 ∷ l) e
    at false e = e

-- ---- among more transactions, or fewer

by_keys : (s : Shard) → IsStrictlySortedBy tx_cmp (keys_of s.voters) → waiting_voters s ≡ filter (λ t. asks_by (facts_of s t) (tx_get t s.voters)) (keys_of s.voters)
by_keys s rising = same_pass (facts_of s) s.voters s.voters (rows_own s.voters rising)

is_voter : (f : PartFacts) (t : TxId) (vs : Table Voter) → asks_by f (tx_get t vs) ≡ true → tx_in t (keys_of vs) ≡ true
is_voter f t [] e = absurd (both_ways false refl e)
is_voter f t (v ∷ vs) e = at (tx_same t v.0) refl e (is_voter f t vs)
  where
    at : (b : Bool) → tx_same t v.0 ≡ b → asks_by f (cond b (Some v.1) (tx_get t vs)) ≡ true → (asks_by f (tx_get t vs) ≡ true → tx_in t (keys_of vs) ≡ true) → tx_in t (v.0 ∷ keys_of vs) ≡ true
    at true s e more = or_left _ _ (tx_flip t v.0 s)
    at false s e more = or_right (tx_same v.0 t) _ (more e)

passing : (test : TxId → Bool) (t : TxId) (xs : List TxId) → (test t ≡ true → tx_in t xs ≡ true) → tx_in t (filter test xs) ≡ test t
passing test t xs h = at (test t) refl
  where
    at : (b : Bool) → test t ≡ b → tx_in t (filter test xs) ≡ b
    at true e = filter_in test t xs (h e) e
    at false e = false_from_ne_true _ (λ i. both_ways _ e (in_filter test t xs i).1)

pub waiting_among : WaitingAmong
waiting_among s txs rising txs_rise all =
    let test : TxId → Bool = λ t. asks_by (facts_of s t) (tx_get t s.voters) in
    by_keys s rising
    ∙ same_list (filter test (keys_of s.voters)) (filter test txs) (IsStrictlySortedBy-filter tx_cmp test (keys_of s.voters) rising) (IsStrictlySortedBy-filter tx_cmp test txs txs_rise)
    (λ t. passing test t (keys_of s.voters) (is_voter (facts_of s t) t s.voters) ∙ sym (passing test t txs (all t)))
