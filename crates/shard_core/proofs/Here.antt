-- Whoever asks its home has its part here.
use Rattle.std.proofs.Common.{◌≡◌, Bool, true, false, cond, [], ◌∷◌, Option, Some, None, refl, sym, subst}
use Rattle.std.proofs.lemmas.Bool.{both_ways, and_parts, cond_both}
use Rattle.std.specs.List.{filter}
use Rattle.std.specs.Map.{keys_of}
use Rattle.clv_base.specs.declared.names.TxId.{TxId}
use Rattle.clv_base.specs.declared.parts.PartFacts.{PartFacts}
use Rattle.clv_base.specs.declared.state.Held.{Held}
use Rattle.clv_base.specs.declared.state.Stage.{Stage}
use Rattle.clv_base.specs.declared.state.Stage.TheVariants.{Active, Closed, Gone}
use Rattle.clv_base.specs.declared.state.Voter.{Voter}
use Rattle.clv_base.specs.Orders.{Table, tx_get, tx_in, tx_same}
use Rattle.clv_base.specs.State.{Shard, is_present}
use Rattle.clv_base.specs.Facts.{facts_of, is_closed_state, is_waiting, state_by}
use Rattle.clv_base.proofs.SameNames.{or_left, or_right, tx_flip}
use Rattle.law_base.proofs.Changed.{none_some, some_same}
use Rattle.tx_table.specs.Index.{index_of}
use Rattle.tx_table.specs.Parts.{is_here, parts_here}
use Rattle.two_phase_commit.specs.Voting.{asks_by}

-- a row that passes is in the index
index_finds : {V : Type 0} (test : V → Bool) (t : TxId) (v : V) (rows : Table V) → tx_get t rows ≡ Some v → test v ≡ true → tx_in t (index_of test rows) ≡ true
index_finds test t v [] e p = absurd (none_some v e)
index_finds test t v (r ∷ rs) e p = at (tx_same t r.0) refl e (index_finds test t v rs)
  where
    at : (b : Bool) → tx_same t r.0 ≡ b → cond b (Some r.1) (tx_get t rs) ≡ Some v → (tx_get t rs ≡ Some v → test v ≡ true → tx_in t (index_of test rs) ≡ true) → tx_in t (index_of test (r ∷ rs)) ≡ true
    at true s e more =
        let q : test r.1 ≡ true = subst (λ x. test x ≡ true) (sym (some_same r.1 v e)) p in
        subst (λ b. tx_in t (keys_of (cond b (r ∷ filter (λ x. test x.1) rs) (filter (λ x. test x.1) rs))) ≡ true) (sym q) (or_left _ _ (tx_flip t r.0 s))
    at false s e more = cond_both (test r.1) (r ∷ filter (λ x. test x.1) rs) (filter (λ x. test x.1) rs) (λ l. tx_in t (keys_of l) ≡ true) (λ k. or_right (tx_same r.0 t) _ (more e p)) (λ k. more e p)

closed_by : (f : PartFacts) (o : Option Voter) → asks_by f o ≡ true → is_closed_state f.state ≡ true
closed_by f None e = absurd (both_ways false refl e)
closed_by f (Some v) e = let w = and_parts (is_waiting f) _ e in (and_parts (is_closed_state f.state) _ w.0).0

closed_present : (st : Stage) → is_closed_state (state_by (Some st)) ≡ true → is_present (Some st) ≡ true
closed_present Active e = absurd (both_ways false refl e)
closed_present Closed e = refl
closed_present (Gone d) e = absurd (both_ways false refl e)

pub asker_here : (s : Shard) (t : TxId) → asks_by (facts_of s t) (tx_get t s.voters) ≡ true → tx_in t (parts_here (s.local).parts) ≡ true
asker_here s t e = at (tx_get t (s.local).parts) refl (closed_by (facts_of s t) (tx_get t s.voters) e)
  where
    at : (o : Option Held) → tx_get t (s.local).parts ≡ o → is_closed_state (state_by (elim o [ Some h ↦ Some h.stage | None ↦ None ])) ≡ true → tx_in t (parts_here (s.local).parts) ≡ true
    at None f c = absurd (both_ways false refl c)
    at (Some h) f c = index_finds is_here t h (s.local).parts f (closed_present h.stage c)
