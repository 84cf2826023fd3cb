-- What is due comes to the same in a shard that forgets something, where what is due for each transaction does.
use Rattle.std.proofs.Common.{◌≡◌, refl, sym, ap, subst, ◌∙◌, ℕ, zero, suc, ◌≤◌, List, [], ◌∷◌, Option, Some, None, is_some, arith}
use Rattle.std.specs.Map.{keys_of}
use Rattle.std.specs.List.Sorted.{IsStrictlySortedBy}
use Rattle.clv_base.specs.declared.names.TxId.{TxId}
use Rattle.clv_base.specs.State.{Shard}
use Rattle.clv_base.specs.Due.{due_of, first_due, known_txs, next_due, with_due_done, work}
use Rattle.clv_base.proofs.Settling.{each_leaves_less}
use Rattle.law_base.proofs.Sets.{Rise, union_rises}
use Rattle.protocol_laws.specs.Candidates.{Cover}
use Rattle.protocol_laws.proofs.Due.LeastIsNext.{due_are_known, least_is_next, others_cover, none_is_nothing, at_rest_none}
use Rattle.protocol_laws.proofs.Due.DoingGoesOn.{nothing_to_do, doing_goes_on}
use Rattle.history_cases.proofs.Stepping.{Due, due_next, KeptByDue}

-- the first of them for whom something is due
record First (s t : Shard) : Type 0 where
  who : TxId
  rest : List TxId
  rise : Rise (who ∷ rest)
  cover : Cover (who ∷ rest) s
  due : due_of s who ≡ Some t

first_of : (s t : Shard) (ks : List TxId) → Rise ks → Cover ks s → first_due s ks ≡ Some t → First s t
unfolding IsStrictlySortedBy
first_of s t [] r c e = absurd cc
first_of s t (k ∷ ks) r c e = at (due_of s k) refl e (first_of s t ks r.1)
  where
    at : (o : Option Shard) → due_of s k ≡ o → elim o [ Some u ↦ Some u | None ↦ first_due s ks ] ≡ Some t → (Cover ks s → first_due s ks ≡ Some t → First s t) → First s t
    at (Some u) f g more = record { who = k; rest = ks; rise = r; cover = c; due = f ∙ g }
    at None f g more = more (others_cover s k ks c f) g

-- ---- a shard that forgets

module _ (forget : Shard → Shard) (Fine : Shard → Type 0) where
  abbrev pub if_any : Option Shard → Option Shard
  if_any o = elim o [ Some t ↦ Some (forget t) | None ↦ None ]

  -- each transaction has the same due, what is done keeps it fine, and requests rise with and without
  pub record Forgets : Type 0 where
    pub due_same : (s : Shard) (u : TxId) → Fine s → due_of (forget s) u ≡ if_any (due_of s u)
    pub stays : KeptByDue Fine
    pub rise : (s : Shard) → Fine s → Rise (keys_of s.requests)
    pub still_rise : (s : Shard) → Fine s → Rise (keys_of (forget s).requests)

  module _ (f : Forgets) where
    some_any : (o : Option Shard) → is_some (if_any o) ≡ is_some o
    some_any None = refl
    some_any (Some t) = refl

    same_cover : (s : Shard) (ks : List TxId) → Fine s → Cover ks s → Cover ks (forget s)
    same_cover s ks o c u e = c u (sym (ap is_some (f.due_same s u o) ∙ some_any (due_of s u)) ∙ e)

    next_same : (s : Shard) → Fine s → next_due (forget s) ≡ if_any (next_due s)
    next_same s o = at (next_due s) refl
      where
        at : (x : Option Shard) → next_due s ≡ x → next_due (forget s) ≡ if_any x
        at None e = none_is_nothing (forget s) (same_cover s [] o (at_rest_none s e))
        at (Some t) e =
            let g = first_of s t (known_txs s) (union_rises (keys_of s.local.parts) _ (union_rises (keys_of s.voters) _ (f.rise s o))) (due_are_known s) e in
            least_is_next (forget s) (forget t) g.who g.rest (f.still_rise s o) g.rise (same_cover s (g.who ∷ g.rest) o g.cover) (f.due_same s g.who o ∙ ap if_any g.due)

    done_at : (n : ℕ) (s : Shard) (x : Option Shard) → next_due s ≡ x → Fine s → work s ≤ suc n → ((t : Shard) → Fine t → work t ≤ n → with_due_done (forget t) ≡ forget (with_due_done t))
        → with_due_done (forget s) ≡ forget (with_due_done s)
    done_at n s None e o l k = nothing_to_do (forget s) (next_same s o ∙ ap if_any e) ∙ sym (ap forget (nothing_to_do s e))
    done_at n s (Some t) e o l k =
        let less = each_leaves_less s t e in
        doing_goes_on (forget s) (forget t) (next_same s o ∙ ap if_any e)
        ∙ k t (f.stays s t (subst (Due s) e (due_next s)) o) (omega (arith, less, l)) ∙ sym (ap forget (doing_goes_on s t e))

    none_left : (s : Shard) (x : Option Shard) → next_due s ≡ x → Fine s → work s ≤ 0 → with_due_done (forget s) ≡ forget (with_due_done s)
    none_left s None e o l = nothing_to_do (forget s) (next_same s o ∙ ap if_any e) ∙ sym (ap forget (nothing_to_do s e))
    none_left s (Some t) e o l = absurd (omega (arith, l, each_leaves_less s t e))

    done_in : (n : ℕ) (s : Shard) → Fine s → work s ≤ n → with_due_done (forget s) ≡ forget (with_due_done s)
    done_in zero s o l = none_left s (next_due s) refl o l
    done_in (suc n) s o l = done_at n s (next_due s) refl o l (done_in n)

    pub done_same : (s : Shard) → Fine s → with_due_done (forget s) ≡ forget (with_due_done s)
    done_same s o = done_in (work s) s o (omega arith)
