-- The shares at a key, as lists.
use Rattle.std.proofs.Common.{◌≡◌, ℕ, suc, ◌+◌, Bool, true, false, cond, not, ◌&&◌, ◌||◌, ◌==◌, List, [], ◌∷◌, ◌++◌, get_or, set, Some, None, refl, sym, ap, subst, ◌∙◌, arith}
use Rattle.std.specs.List.{list_all, position, position_from, remove}
use Rattle.std.proofs.lemmas.Iterator.Adapters.{position_from-zero}
use Rattle.std.proofs.lemmas.Bool.{both_ways, ne_eqb}
use Rattle.clv_base.specs.declared.names.TxId.{TxId}
use Rattle.clv_base.specs.Orders.{tx_same}
use Rattle.clv_base.proofs.SameNames.{tx_true, tx_self}
use Rattle.law_base.proofs.Bools.{by_bool as both, and_no}
use Rattle.log_rules.specs.Shares.{Share, share_of_one, one_more, one_fewer, none_left, with_share, without_share, without}

-- ---- by the place of a transaction's share

module _ (tx : TxId) (b : Bool) where
  abbrev pub is_own : Share → Bool
  is_own s = tx_same tx s.tx

  none_from : (n : ℕ) (ss : List Share) → position_from is_own n ss ≡ None → (with_share tx b ss ≡ ss ++ share_of_one tx b ∷ []) × (without_share tx b ss ≡ ss)
  none_from n [] e = (refl, refl)
  none_from n (s ∷ ss) e =
      both (λ v. cond v (Some n) (position_from is_own (n + 1) ss) ≡ None
      → (cond v (one_more b s ∷ ss) (s ∷ with_share tx b ss) ≡ s ∷ ss ++ share_of_one tx b ∷ []) × (cond v (cond (none_left (one_fewer b s)) ss (one_fewer b s ∷ ss)) (s ∷ without_share tx b ss) ≡ s ∷ ss))
      (tx_same tx s.tx) (λ _ h. absurd cc)
      (λ _ h. let rest = none_from (n + 1) ss h in (ap (λ l. s ∷ l) rest.0, ap (λ l. s ∷ l) rest.1)) e

  pub not_there : (ss : List Share) → position is_own ss ≡ None → (with_share tx b ss ≡ ss ++ share_of_one tx b ∷ []) × (without_share tx b ss ≡ ss)
  not_there ss e = none_from 0 ss (sym (position_from-zero is_own ss) ∙ e)

  -- what becomes of the share at a place
  record Changed (ss : List Share) (k : ℕ) : Type 0 where
    counts : (d : Share) → with_share tx b ss ≡ set ss k (one_more b (get_or ss k d))
    goes : (d : Share) → none_left (one_fewer b (get_or ss k d)) ≡ true → without_share tx b ss ≡ remove ss k
    stays : (d : Share) → none_left (one_fewer b (get_or ss k d)) ≡ false → without_share tx b ss ≡ set ss k (one_fewer b (get_or ss k d))

  found_at : (n j : ℕ) (ss : List Share) → position_from is_own n ss ≡ Some j → (k : ℕ) × (n + k ≡ j) × Changed ss k
  found_at n j [] e = absurd cc
  found_at n j (s ∷ ss) e =
      both (λ v. tx_same tx s.tx ≡ v → cond v (Some n) (position_from is_own (n + 1) ss) ≡ Some j → (k : ℕ) × (n + k ≡ j) × Changed (s ∷ ss) k) (tx_same tx s.tx)
      (λ _ own h. (
        0,
        (let q : n ≡ j = cc in omega arith),
        record {
          counts = λ d. ap (λ v. cond v (one_more b s ∷ ss) (s ∷ with_share tx b ss)) own;
          goes = λ d none. ap (λ v. cond v (cond (none_left (one_fewer b s)) ss (one_fewer b s ∷ ss)) (s ∷ without_share tx b ss)) own ∙ ap (λ v. cond v ss (one_fewer b s ∷ ss)) none;
          stays = λ d some. ap (λ v. cond v (cond (none_left (one_fewer b s)) ss (one_fewer b s ∷ ss)) (s ∷ without_share tx b ss)) own ∙ ap (λ v. cond v ss (one_fewer b s ∷ ss)) some;
        },
      ))
      (λ _ other h.
      let t = found_at (n + 1) j ss h in (
        suc t.0,
        (let q = t.1 in omega arith),
        record {
          counts = λ d. ap (λ v. cond v (one_more b s ∷ ss) (s ∷ with_share tx b ss)) other ∙ ap (λ l. s ∷ l) (t.2.counts d);
          goes = λ d none. ap (λ v. cond v (cond (none_left (one_fewer b s)) ss (one_fewer b s ∷ ss)) (s ∷ without_share tx b ss)) other ∙ ap (λ l. s ∷ l) (t.2.goes d none);
          stays = λ d some. ap (λ v. cond v (cond (none_left (one_fewer b s)) ss (one_fewer b s ∷ ss)) (s ∷ without_share tx b ss)) other ∙ ap (λ l. s ∷ l) (t.2.stays d some);
        },
      )) refl e

  changed_at : (j : ℕ) (ss : List Share) → position is_own ss ≡ Some j → Changed ss j
  changed_at j ss e = let t = found_at 0 j ss (sym (position_from-zero is_own ss) ∙ e) in subst (Changed ss) (let q = t.1 in omega arith) t.2

  pub counted : (j : ℕ) (ss : List Share) (s : Share) → position is_own ss ≡ Some j → s ≡ get_or ss j s → with_share tx b ss ≡ set ss j (one_more b s)
  counted j ss s e there = (changed_at j ss e).counts s ∙ ap (λ z. set ss j (one_more b z)) (sym there)

  pub gone : (j : ℕ) (ss : List Share) (s : Share) → position is_own ss ≡ Some j → s ≡ get_or ss j s → none_left (one_fewer b s) ≡ true → without_share tx b ss ≡ remove ss j
  gone j ss s e there none = (changed_at j ss e).goes s (ap (λ z. none_left (one_fewer b z)) (sym there) ∙ none)

  pub lessened : (j : ℕ) (ss : List Share) (s : Share) → position is_own ss ≡ Some j → s ≡ get_or ss j s → none_left (one_fewer b s) ≡ false → without_share tx b ss ≡ set ss j (one_fewer b s)
  lessened j ss s e there some = (changed_at j ss e).stays s (ap (λ z. none_left (one_fewer b z)) (sym there) ∙ some) ∙ ap (λ z. set ss j (one_fewer b z)) (sym there)

-- ---- one more, one fewer

-- each share is of some write
abbrev pub Counted : List Share → Type 0
Counted [] = Unit {0}
Counted (s ∷ ss) = (none_left s ≡ false) × Counted ss

some_more : (b : Bool) (s : Share) → none_left (one_more b s) ≡ false
some_more true s = ap (λ v. v && (s.adds == 0)) (ne_eqb (s.sets + 1) 0 (λ e. absurd (omega (arith, e))))
some_more false s = ap (λ v. (s.sets == 0) && v) (ne_eqb (s.adds + 1) 0 (λ e. absurd (omega (arith, e)))) ∙ and_no (s.sets == 0)

some_one : (tx : TxId) (b : Bool) → none_left (share_of_one tx b) ≡ false
some_one tx true = refl
some_one tx false = refl

pub counted_more : (tx : TxId) (b : Bool) (ss : List Share) → Counted ss → Counted (with_share tx b ss)
counted_more tx b [] all = (some_one tx b, tt)
counted_more tx b (s ∷ ss) all = both (λ v. Counted (cond v (one_more b s ∷ ss) (s ∷ with_share tx b ss))) (tx_same tx s.tx) (λ _. (some_more b s, all.1)) (λ _. (all.0, counted_more tx b ss all.1))

back_one : (tx : TxId) (b : Bool) → none_left (one_fewer b (share_of_one tx b)) ≡ true
back_one tx true = refl
back_one tx false = refl

back_more : (b : Bool) (s : Share) → one_fewer b (one_more b s) ≡ s
back_more true s = ap (λ n. record s { sets = n }) (omega arith)
back_more false s = ap (λ n. record s { adds = n }) (omega arith)

more_tx : (b : Bool) (s : Share) → (one_more b s).tx ≡ s.tx
more_tx true s = refl
more_tx false s = refl

fewer_tx : (b : Bool) (s : Share) → (one_fewer b s).tx ≡ s.tx
fewer_tx true s = refl
fewer_tx false s = refl

one_tx : (tx : TxId) (b : Bool) → (share_of_one tx b).tx ≡ tx
one_tx tx true = refl
one_tx tx false = refl

-- what was written last is taken back
pub share_back : (tx : TxId) (b : Bool) (ss : List Share) → Counted ss → without_share tx b (with_share tx b ss) ≡ ss
share_back tx b [] all =
    ap (λ v. cond v (cond (none_left (one_fewer b (share_of_one tx b))) [] (one_fewer b (share_of_one tx b) ∷ [])) (share_of_one tx b ∷ [])) (ap (tx_same tx) (one_tx tx b) ∙ tx_self tx)
    ∙ ap (λ v. cond v [] (one_fewer b (share_of_one tx b) ∷ [])) (back_one tx b)
share_back tx b (s ∷ ss) all =
    both (λ v. tx_same tx s.tx ≡ v → without_share tx b (cond v (one_more b s ∷ ss) (s ∷ with_share tx b ss)) ≡ s ∷ ss) (tx_same tx s.tx)
    (λ _ own.
    ap (λ v. cond v (cond (none_left (one_fewer b (one_more b s))) ss (one_fewer b (one_more b s) ∷ ss)) (one_more b s ∷ without_share tx b ss)) (ap (tx_same tx) (more_tx b s) ∙ own)
    ∙ ap (λ z. cond (none_left z) ss (z ∷ ss)) (back_more b s) ∙ ap (λ v. cond v ss (s ∷ ss)) all.0)
    (λ _ other.
    ap (λ v. cond v (cond (none_left (one_fewer b s)) (with_share tx b ss) (one_fewer b s ∷ with_share tx b ss)) (s ∷ without_share tx b (with_share tx b ss))) other
    ∙ ap (λ l. s ∷ l) (share_back tx b ss all.1)) refl

-- and the same beside another one's
module _ (tx : TxId) (b : Bool) (t : TxId) (c : Bool) (other : tx_same tx t ≡ false) where
  taken : List Share → List Share
  taken ss = without_share tx b ss

  -- a share of the other one is passed over
  past : (s : Share) (ss : List Share) → tx_same tx s.tx ≡ false → without_share tx b (s ∷ ss) ≡ s ∷ without_share tx b ss
  past s ss e = ap (λ v. cond v (cond (none_left (one_fewer b s)) ss (one_fewer b s ∷ ss)) (s ∷ without_share tx b ss)) e

  put_past : (s : Share) (ss : List Share) → tx_same t s.tx ≡ false → with_share t c (s ∷ ss) ≡ s ∷ with_share t c ss
  put_past s ss e = ap (λ v. cond v (one_more c s ∷ ss) (s ∷ with_share t c ss)) e

  is_other : (s : Share) → tx_same tx s.tx ≡ true → tx_same t s.tx ≡ false
  is_other s own = both (λ v. tx_same t s.tx ≡ v → v ≡ false) (tx_same t s.tx)
      (λ _ e. absurd (both_ways _ other (subst (λ u. tx_same tx u ≡ true) (sym (tx_true t s.tx e)) own))) (λ _ _. refl) refl

  pub share_beside : (ss : List Share) → without_share tx b (with_share t c ss) ≡ with_share t c (without_share tx b ss)
  share_beside [] = past (share_of_one t c) [] (ap (tx_same tx) (one_tx t c) ∙ other)
  share_beside (s ∷ ss) =
      both (λ v. tx_same tx s.tx ≡ v → without_share tx b (with_share t c (s ∷ ss)) ≡ with_share t c (cond v (cond (none_left (one_fewer b s)) ss (one_fewer b s ∷ ss)) (s ∷ without_share tx b ss))) (tx_same tx s.tx)
      (λ _ own.
      ap (without_share tx b) (put_past s ss (is_other s own))
      ∙ ap (λ v. cond v (cond (none_left (one_fewer b s)) (with_share t c ss) (one_fewer b s ∷ with_share t c ss)) (s ∷ without_share tx b (with_share t c ss))) own
      ∙ both (λ v. cond v (with_share t c ss) (one_fewer b s ∷ with_share t c ss) ≡ with_share t c (cond v ss (one_fewer b s ∷ ss))) (none_left (one_fewer b s)) (λ _. refl)
      (λ _. sym (put_past (one_fewer b s) ss (ap (tx_same t) (fewer_tx b s) ∙ is_other s own))))
      (λ _ foreign.
      both (λ v. tx_same t s.tx ≡ v → without_share tx b (cond v (one_more c s ∷ ss) (s ∷ with_share t c ss)) ≡ cond v (one_more c s ∷ without_share tx b ss) (s ∷ with_share t c (without_share tx b ss))) (tx_same t s.tx)
      (λ _ _. past (one_more c s) ss (ap (tx_same tx) (more_tx c s) ∙ foreign))
      (λ _ _. past s (with_share t c ss) foreign ∙ ap (λ l. s ∷ l) (share_beside ss)) refl) refl

-- ---- those of others

pub without_own : (tx : TxId) (b : Bool) (ss : List Share) → without tx (with_share tx b ss) ≡ without tx ss
without_own tx b [] = ap (λ v. cond (not v) (share_of_one tx b ∷ []) []) (ap (tx_same tx) (one_tx tx b) ∙ tx_self tx)
without_own tx b (s ∷ ss) =
    both (λ v. tx_same tx s.tx ≡ v → without tx (cond v (one_more b s ∷ ss) (s ∷ with_share tx b ss)) ≡ cond (not v) (s ∷ without tx ss) (without tx ss)) (tx_same tx s.tx)
    (λ _ own. ap (λ v. cond (not v) (one_more b s ∷ without tx ss) (without tx ss)) (ap (tx_same tx) (more_tx b s) ∙ own))
    (λ _ other. ap (λ v. cond (not v) (s ∷ without tx (with_share tx b ss)) (without tx (with_share tx b ss))) other ∙ ap (λ l. s ∷ l) (without_own tx b ss)) refl

pub without_beside : (tx t : TxId) (c : Bool) (ss : List Share) → tx_same tx t ≡ false → without tx (with_share t c ss) ≡ with_share t c (without tx ss)
without_beside tx t c [] other = ap (λ v. cond (not v) (share_of_one t c ∷ []) []) (ap (tx_same tx) (one_tx t c) ∙ other)
without_beside tx t c (s ∷ ss) other =
    both (λ v. tx_same tx s.tx ≡ v → without tx (with_share t c (s ∷ ss)) ≡ with_share t c (cond (not v) (s ∷ without tx ss) (without tx ss))) (tx_same tx s.tx)
    (λ _ own.
    ap (without tx) (put_past tx c t c other s ss (is_other tx c t c other s own)) ∙ ap (λ v. cond (not v) (s ∷ without tx (with_share t c ss)) (without tx (with_share t c ss))) own ∙ without_beside tx t c ss other)
    (λ _ foreign.
    both (λ v. tx_same t s.tx ≡ v → without tx (cond v (one_more c s ∷ ss) (s ∷ with_share t c ss)) ≡ cond v (one_more c s ∷ without tx ss) (s ∷ with_share t c (without tx ss))) (tx_same t s.tx)
    (λ _ _. ap (λ v. cond (not v) (one_more c s ∷ without tx ss) (without tx ss)) (ap (tx_same tx) (more_tx c s) ∙ foreign))
    (λ _ _. ap (λ v. cond (not v) (s ∷ without tx (with_share t c ss)) (without tx (with_share t c ss))) foreign ∙ ap (λ l. s ∷ l) (without_beside tx t c ss other)) refl) refl

pub without_twice : (tx : TxId) (ss : List Share) → without tx (without tx ss) ≡ without tx ss
without_twice tx [] = refl
without_twice tx (s ∷ ss) =
    both (λ v. tx_same tx s.tx ≡ v → without tx (cond (not v) (s ∷ without tx ss) (without tx ss)) ≡ cond (not v) (s ∷ without tx ss) (without tx ss)) (tx_same tx s.tx)
    (λ _ own. without_twice tx ss)
    (λ _ other. ap (λ v. cond (not v) (s ∷ without tx (without tx ss)) (without tx (without tx ss))) other ∙ ap (λ l. s ∷ l) (without_twice tx ss)) refl

-- ---- what is asked of each

and_again : (a c : Bool) → a && c ≡ a && (a && c)
and_again true c = refl
and_again false c = refl

and_over : (a b c : Bool) → a && (b && c) ≡ b && (a && c)
and_over true true c = refl
and_over true false c = refl
and_over false true c = refl
and_over false false c = refl

module _ (f : TxId → Bool) where
  pub all_with : (tx : TxId) (b : Bool) (ss : List Share) → list_all (λ s. f s.tx) (with_share tx b ss) ≡ f tx && list_all (λ s. f s.tx) ss
  all_with tx b [] = ap (λ t. f t && true) (one_tx tx b)
  all_with tx b (s ∷ ss) =
      both (λ v. tx_same tx s.tx ≡ v → list_all (λ u. f u.tx) (cond v (one_more b s ∷ ss) (s ∷ with_share tx b ss)) ≡ f tx && (f s.tx && list_all (λ u. f u.tx) ss)) (tx_same tx s.tx)
      (λ _ own.
      ap (λ t. f t && list_all (λ u. f u.tx) ss) (more_tx b s) ∙ and_again (f s.tx) (list_all (λ u. f u.tx) ss) ∙ ap (λ t. f t && (f s.tx && list_all (λ u. f u.tx) ss)) (sym (tx_true tx s.tx own)))
      (λ _ other. ap (λ b. f s.tx && b) (all_with tx b ss) ∙ and_over (f s.tx) (f tx) (list_all (λ u. f u.tx) ss)) refl

  -- where only those are asked who set the value
  abbrev pub asks : Share → Bool
  asks s = (s.sets == 0) || f s.tx

  asks_set : (s : Share) → asks (one_more true s) ≡ f s.tx
  asks_set s = ap (λ b. b || f s.tx) (ne_eqb (s.sets + 1) 0 (λ e. absurd (omega (arith, e))))

  asked : (n a c : Bool) → a && c ≡ a && ((n || a) && c)
  asked true true c = refl
  asked false true c = refl
  asked n false c = refl

  pub all_with_set : (tx : TxId) (ss : List Share) → list_all asks (with_share tx true ss) ≡ f tx && list_all asks ss
  all_with_set tx [] = refl
  all_with_set tx (s ∷ ss) =
      both (λ v. tx_same tx s.tx ≡ v → list_all asks (cond v (one_more true s ∷ ss) (s ∷ with_share tx true ss)) ≡ f tx && (asks s && list_all asks ss)) (tx_same tx s.tx)
      (λ _ own.
      ap (λ v. v && list_all asks ss) (asks_set s) ∙ asked (s.sets == 0) (f s.tx) (list_all asks ss) ∙ ap (λ t. f t && (asks s && list_all asks ss)) (sym (tx_true tx s.tx own)))
      (λ _ other. ap (λ b. asks s && b) (all_with_set tx ss) ∙ and_over (asks s) (f tx) (list_all asks ss)) refl

  pub all_with_add : (tx : TxId) (ss : List Share) → list_all asks (with_share tx false ss) ≡ list_all asks ss
  all_with_add tx [] = refl
  all_with_add tx (s ∷ ss) =
      both (λ v. list_all asks (cond v (one_more false s ∷ ss) (s ∷ with_share tx false ss)) ≡ asks s && list_all asks ss) (tx_same tx s.tx) (λ _. refl)
      (λ _. ap (λ b. asks s && b) (all_with_add tx ss))
