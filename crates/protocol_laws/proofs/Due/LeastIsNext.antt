-- The least candidate for which something is due is the least transaction for which something is due.
use Rattle.std.proofs.Common.{◌≡◌, ◌⊎◌, inl, inr, ⊎_elim, refl, sym, ap, subst, ◌∙◌, ℕ, true, false, cond, Bool, ◌||◌, List, [], ◌∷◌, Option, Some, None, is_some}
use Rattle.std.proofs.lemmas.Bool.{both_ways, or_cases, and_parts}
use Rattle.std.specs.List.Sorted.{IsStrictlySortedBy}
use Rattle.std.specs.Map.{keys_of}
use Rattle.std.specs.declared.cmp.Ordering.TheVariants.{Less}
use Rattle.clv_base.specs.declared.names.TxId.{TxId}
use Rattle.clv_base.specs.declared.state.Held.{Held}
use Rattle.clv_base.specs.declared.state.Voter.{Voter}
use Rattle.clv_base.specs.declared.state.Request.{Request}
use Rattle.clv_base.specs.Orders.{Table, tx_cmp, tx_same, tx_in, tx_get, tx_insert, tx_union}
use Rattle.clv_base.specs.State.{Shard}
use Rattle.clv_base.specs.declared.parts.PartFacts.{PartFacts}
use Rattle.clv_base.specs.Facts.{state_by, facts_of, is_closed_state}
use Rattle.clv_base.specs.Due.{due_of, first_due, known_txs}
use Rattle.clv_base.proofs.SameNames.{or_left, or_right, tx_true, tx_flip, insert_keeps, insert_has}
use Rattle.law_base.proofs.Sets.{tx_total, union_right, union_rises}
use Rattle.protocol_laws.specs.Candidates.{is_commit_due, is_vote_due, is_ruling_due, is_due, Cover, LeastIsNext, OthersCover, NoneIsNothing, AtRestNone}
use Rattle.protocol_laws.proofs.Due.DueByFacts.{due_by_facts}
use Rattle.law_base.proofs.Names.{Rise, not_less, above_in}
use Rattle.law_base.proofs.Shards.{rest_of}

-- ---- lists that rise

union_left : (x : TxId) (xs ys : List TxId) → tx_in x xs ≡ true → tx_in x (tx_union xs ys) ≡ true
union_left x [] ys i = absurd (both_ways false refl i)
union_left x (u ∷ us) ys i =
    ⊎_elim
    (λ h. subst (λ z. tx_in z (tx_insert u (tx_union us ys)) ≡ true) (tx_true u x h) (insert_has u (tx_union us ys)))
    (λ h. insert_keeps u x (tx_union us ys) (union_left x us ys h))
    (or_cases (tx_same u x) (tx_in x us) i)

-- ---- who has something due is known

key_in : {V : Type 0} (x : TxId) (t : Table V) → is_some (tx_get x t) ≡ true → tx_in x (keys_of t) ≡ true
key_in x [] e = absurd (both_ways false refl e)
key_in x (p ∷ ps) e = at (tx_same x p.0) refl e (key_in x ps)
  where
    at : (b : Bool) → tx_same x p.0 ≡ b → is_some (cond b (Some p.1) (tx_get x ps)) ≡ true → (is_some (tx_get x ps) ≡ true → tx_in x (keys_of ps) ≡ true) → tx_in x (keys_of (p ∷ ps)) ≡ true
    at true s e more = or_left _ _ (tx_flip x p.0 s)
    at false s e more = or_right (tx_same p.0 x) _ (more e)

closed_some : (o : Option Held) → is_closed_state (state_by (elim o [ Some h ↦ Some h.stage | None ↦ None ])) ≡ true → is_some o ≡ true
closed_some None e = absurd (both_ways false refl e)
closed_some (Some h) e = refl

vote_some : (f : PartFacts) (o : Option Voter) → is_vote_due f o ≡ true → is_some o ≡ true
vote_some f None e = absurd (both_ways false refl e)
vote_some f (Some v) e = refl

ruling_some : (n : ℕ) (x : TxId) (f : PartFacts) (o : Option Request) → is_ruling_due n x f o ≡ true → is_some o ≡ true
ruling_some n x f None e = absurd (both_ways false refl e)
ruling_some n x f (Some q) e = refl

pub due_are_known : (s : Shard) → Cover (known_txs s) s
due_are_known s x e =
    let others = tx_union (keys_of s.voters) (keys_of s.requests) in
    ⊎_elim
    (λ h. union_left x (keys_of s.local.parts) others (key_in x s.local.parts (closed_some (tx_get x s.local.parts) (and_parts _ _ h).0)))
    (λ h. union_right x (keys_of s.local.parts) others
    (⊎_elim
    (λ v. union_left x (keys_of s.voters) (keys_of s.requests) (key_in x s.voters (vote_some (facts_of s x) (tx_get x s.voters) v)))
    (λ r. union_right x (keys_of s.voters) (keys_of s.requests) (key_in x s.requests (ruling_some s.shard x (facts_of s x) (tx_get x s.requests) r)))
    (or_cases (is_vote_due (facts_of s x) (tx_get x s.voters)) (is_ruling_due s.shard x (facts_of s x) (tx_get x s.requests)) h)))
    (or_cases (is_commit_due (facts_of s x)) (is_vote_due (facts_of s x) (tx_get x s.voters) || is_ruling_due s.shard x (facts_of s x) (tx_get x s.requests)) (sym (due_by_facts s x) ∙ e))

known_rise : (s : Shard) → Rise (keys_of s.requests) → Rise (known_txs s)
known_rise s h = union_rises (keys_of s.local.parts) (tx_union (keys_of s.voters) (keys_of s.requests)) (union_rises (keys_of s.voters) (keys_of s.requests) h)

-- ---- the least

first_least : (s t : Shard) (c : TxId) (ks : List TxId) → Rise ks → tx_in c ks ≡ true → due_of s c ≡ Some t → ((x : TxId) → is_due s x ≡ true → (x ≡ c) ⊎ (tx_cmp c x ≡ Less)) → first_due s ks ≡ Some t
unfolding IsStrictlySortedBy
first_least s t c [] r i e least = absurd (both_ways false refl i)
first_least s t c (k ∷ ks) r i e least = at (due_of s k) refl (λ j. first_least s t c ks r.1 j e least)
  where
    later : tx_cmp c k ≡ Less → ⊥
    later l =
        ⊎_elim
        (λ h. not_less c (subst (λ z. tx_cmp c z ≡ Less) (tx_true k c h) l))
        (λ h. not_less c (tx_total.trans c k c l (above_in k c ks r.0 h)))
        (or_cases (tx_same k c) (tx_in c ks) i)

    at : (o : Option Shard) → due_of s k ≡ o → (tx_in c ks ≡ true → first_due s ks ≡ Some t) → rest_of o (first_due s ks) ≡ Some t
    at (Some u) f more = ⊎_elim (λ same. sym f ∙ ap (due_of s) same ∙ e) (λ l. absurd (later l)) (least k (ap is_some f))
    at None f more = ⊎_elim (λ h. absurd (none (sym f ∙ ap (due_of s) (tx_true k c h) ∙ e))) more (or_cases (tx_same k c) (tx_in c ks) i)
      where
        none : None ≡ Some t → ⊥
        none e = absurd cc

pub least_is_next : LeastIsNext
unfolding IsStrictlySortedBy
least_is_next s t c cs requests rise cover e =
    first_least s t c (known_txs s) (known_rise s requests) (due_are_known s c (ap is_some e)) e
    (λ x due. ⊎_elim (λ h. inl (sym (tx_true c x h))) (λ h. inr (above_in c x cs rise.0 h)) (or_cases (tx_same c x) (tx_in x cs) (cover x due)))

pub others_cover : OthersCover
others_cover s c cs cover e x due =
    ⊎_elim (λ h. absurd (both_ways _ (ap is_some (ap (due_of s) (sym (tx_true c x h)) ∙ e)) due)) (λ h. h) (or_cases (tx_same c x) (tx_in x cs) (cover x due))

none_first : (s : Shard) (ks : List TxId) → Cover [] s → first_due s ks ≡ None
none_first s [] cover = refl
none_first s (k ∷ ks) cover = at (due_of s k) refl (none_first s ks cover)
  where
    at : (o : Option Shard) → due_of s k ≡ o → first_due s ks ≡ None → rest_of o (first_due s ks) ≡ None
    at None f more = more
    at (Some u) f more = absurd (both_ways false refl (cover k (ap is_some f)))

pub none_is_nothing : NoneIsNothing
none_is_nothing s cover = none_first s (known_txs s) cover

none_in : (s : Shard) (x : TxId) (ks : List TxId) → first_due s ks ≡ None → tx_in x ks ≡ true → is_due s x ≡ false
none_in s x [] e i = absurd (both_ways false refl i)
none_in s x (k ∷ ks) e i = at (due_of s k) refl e (none_in s x ks)
  where
    at : (o : Option Shard) → due_of s k ≡ o → rest_of o (first_due s ks) ≡ None → (first_due s ks ≡ None → tx_in x ks ≡ true → is_due s x ≡ false) → is_due s x ≡ false
    at (Some u) f e more = absurd cc
    at None f e more = ⊎_elim (λ h. ap is_some (ap (due_of s) (sym (tx_true k x h)) ∙ f)) (λ h. more e h) (or_cases (tx_same k x) (tx_in x ks) i)

pub at_rest_none : AtRestNone
at_rest_none s e x due = absurd (both_ways _ (none_in s x (known_txs s) e (due_are_known s x due)) due)
