-- The shards' maps, one after another, are one map: their keys lie in spans that follow one another.
use Rattle.std.proofs.Common.{◌≡◌, ℕ, zero, suc, ◌+◌, ◌<◌, ◌≤◌, ⊎_elim, Bool, true, false, cond, List, [], ◌∷◌, ◌++◌, Option, Some, None, ◌==◌, T, nat_cmp, refl, sym, ap, subst, ◌∙◌, arith}
use Rattle.std.specs.List.{AllByRecursion, list_all}
use Rattle.std.specs.Ordering.{nat_cmp, is_lt}
use Rattle.std.specs.Cmp.{unsigned_tied}
use Rattle.std.specs.FinMap.{is_sorted}
use Rattle.std.specs.FinMap.Entries.{below_all}
use Rattle.std.proofs.lemmas.Bool.{both_ways, and_parts, and_from, cases_order, eq-eqb, false_from_ne_true}
use Rattle.clv_base.specs.declared.values.Value.{Value as ValueType}
use Rattle.clv_base.specs.declared.logs.LogRecord.{LogRecord}
use Rattle.clv_base.specs.Maps.{KeyMap, map_get}
use Rattle.clv_base.specs.Logs.{committed_somewhere, stands}
use Rattle.clv_base.specs.LogRules.{log_of}
use Rattle.clv_base.specs.FileRules.{passes_file_rules}
use Rattle.clv_base.specs.Shards.{shard_count, are_splits, in_span}
use Rattle.clv_base.specs.Folding.{IsRising}
use Rattle.clv_base.proofs.Folding.{eq_true, same_map}
use Rattle.headline_laws.specs.Shares.{AreLogsOf, share_of, in_turn, SharesMakeTheMap}
use Rattle.serial_laws.proofs.ReplayByShards.SpansShareNoKey.{one_shard, follow, whose}
use Rattle.headline_laws.proofs.TransactionsReplayByShards.LogsAgreeWithMap.{fold_away, logs_agree}
use Rattle.law_base.proofs.Lists.{all_append as all_two}
use Rattle.law_base.proofs.Anchors.{less_true as less_test}
use Rattle.law_base.proofs.Bools.{t_true as of_true}
use Rattle.law_base.proofs.Logs.{passes_at}

-- ---- the value at a key, through a list of pairs

get_first : (q : ℕ) (e : ℕ × ValueType) (es : KeyMap) → map_get q (e ∷ es) ≡ cond (q == e.0) (Some e.1) (map_get q es)
get_first q e es = ap (λ b. cond b (Some e.1) (map_get q es)) (unsigned_tied q e.0)

none_first : (q : ℕ) (xs ys : KeyMap) → map_get q xs ≡ None → map_get q (xs ++ ys) ≡ map_get q ys
none_first q [] ys n = refl
none_first q (e ∷ es) ys n = get_first q e (es ++ ys) ∙ at (q == e.0) (sym (get_first q e es) ∙ n) (none_first q es ys)
  where
    at : (b : Bool) → cond b (Some e.1) (map_get q es) ≡ None → (map_get q es ≡ None → map_get q (es ++ ys) ≡ map_get q ys) → cond b (Some e.1) (map_get q (es ++ ys)) ≡ map_get q ys
    at true n k = absurd cc
    at false n k = k n

none_second : (q : ℕ) (xs ys : KeyMap) → map_get q ys ≡ None → map_get q (xs ++ ys) ≡ map_get q xs
none_second q [] ys n = n
none_second q (e ∷ es) ys n = get_first q e (es ++ ys) ∙ ap (λ o. cond (q == e.0) (Some e.1) o) (none_second q es ys n) ∙ sym (get_first q e es)

-- ---- keys that rise

true_of : (b : Bool) → T b → b ≡ true
true_of true h = refl
true_of false h = absurd h

below_both : (k : ℕ) (xs ys : KeyMap) → below_all nat_cmp k xs ≡ true → below_all nat_cmp k ys ≡ true → below_all nat_cmp k (xs ++ ys) ≡ true
below_both k [] ys e f = f
below_both k (x ∷ xs) ys e f = let p = and_parts (is_lt (nat_cmp k x.0)) (below_all nat_cmp k xs) e in and_from _ _ p.0 (below_both k xs ys p.1 f)

all_from : {X : Type 0} (P Q : X → Type 0) (xs : List X) → ((x : X) → P x → Q x) → AllByRecursion P xs → AllByRecursion Q xs
all_from P Q [] f a = tt
all_from P Q (x ∷ xs) f a = (f x a.0, all_from P Q xs f a.1)

-- ---- shards' maps

module _ (splits : List ℕ) (f : ℕ → KeyMap) (s : are_splits splits ≡ true) (rising : (n : ℕ) → n < shard_count splits → IsRising (f n)) (outside : (n k : ℕ) → n < shard_count splits → in_span splits n k ≡ false → map_get k (f n) ≡ None) where
  abbrev Within : ℕ → KeyMap → Type 0
  Within n m = AllByRecursion (λ e. in_span splits n e.0 ≡ true) m

  -- a key of a shard from n on
  abbrev IsFrom : ℕ → ℕ → Type 0
  IsFrom n k = (j : ℕ) × (n ≤ j) × (j < shard_count splits) × (in_span splits j k ≡ true)

  abbrev From : ℕ → KeyMap → Type 0
  From n m = AllByRecursion (λ e. IsFrom n e.0) m

  -- pairs without a value outside a span have their keys within
  within_from : (n : ℕ) (m : KeyMap) → ((k : ℕ) → in_span splits n k ≡ false → map_get k m ≡ None) → Within n m
  within_from n [] none = tt
  within_from n (e ∷ es) none = let own = first (in_span splits n e.0) refl in (own, within_from n es (λ k o. rest k o own (k == e.0) refl))
    where
      first : (b : Bool) → in_span splits n e.0 ≡ b → b ≡ true
      first true q = refl
      first false q = absurd (there (ap (λ b. cond b (Some e.1) (map_get e.0 es)) (sym (eq-eqb e.0 e.0 refl)) ∙ sym (get_first e.0 e es) ∙ none e.0 q))
        where
          there : ◌≡◌ {A = Option ValueType} (Some e.1) None → ⊥
          there w = absurd cc

      rest : (k : ℕ) → in_span splits n k ≡ false → in_span splits n e.0 ≡ true → (b : Bool) → (k == e.0) ≡ b → map_get k es ≡ None
      rest k o i true q = absurd (both_ways _ o (subst (λ z. in_span splits n z ≡ true) (sym (eq_true k e.0 q)) i))
      rest k o i false q = ap (λ b. cond b (Some e.1) (map_get k es)) (sym q) ∙ sym (get_first k e es) ∙ none k o

  below_later : (n k : ℕ) (m : KeyMap) → in_span splits n k ≡ true → From (suc n) m → below_all nat_cmp k m ≡ true
  below_later n k [] i a = refl
  below_later n k (e ∷ es) i a =
      let j = a.0 in
      let l = j.1 in
      and_from _ _ (less_test k e.0 (follow splits n j.0 k e.0 s (omega (arith, l)) j.2 i j.3)) (below_later n k es i a.1)

  rise_both : (n : ℕ) (xs ys : KeyMap) → is_sorted nat_cmp xs ≡ true → Within n xs → is_sorted nat_cmp ys ≡ true → From (suc n) ys → is_sorted nat_cmp (xs ++ ys) ≡ true
  rise_both n [] ys r w q a = q
  rise_both n (e ∷ es) ys r w q a =
      let p = and_parts (below_all nat_cmp e.0 es) (is_sorted nat_cmp es) r in
      and_from _ _ (below_both e.0 es ys p.0 (below_later n e.0 ys w.0 a)) (rise_both n es ys p.1 w.1 q a)

  turns_rise : (n k : ℕ) → n + k ≡ shard_count splits → (is_sorted nat_cmp (in_turn f n k) ≡ true) × From n (in_turn f n k)
  turns_rise n zero c = (refl, tt)
  turns_rise n (suc k) c =
      let r = turns_rise (suc n) k (omega (arith, c)) in
      let i : n < shard_count splits = omega (arith, c) in
      let w = within_from n (f n) (λ q. outside n q i) in (
        rise_both n (f n) (in_turn f (suc n) k) (true_of _ (rising n i)) w r.0 r.1,
        all_two (λ e. IsFrom n e.0) (f n) (in_turn f (suc n) k) (all_from (λ e. in_span splits n e.0 ≡ true) (λ e. IsFrom n e.0) (f n) (λ e h. (n, omega arith, i, h)) w)
            (all_from (λ e. IsFrom (suc n) e.0) (λ e. IsFrom n e.0) (in_turn f (suc n) k) (λ e h. let l = h.1 in (h.0, omega (arith, l), h.2, h.3)) r.1),
      )

  turns_none : (n k q : ℕ) → n + k ≡ shard_count splits → ((j : ℕ) → n ≤ j → j < shard_count splits → in_span splits j q ≡ false) → map_get q (in_turn f n k) ≡ None
  turns_none n zero q c none = refl
  turns_none n (suc k) q c none =
      let i : n < shard_count splits = omega (arith, c) in
      none_first q (f n) (in_turn f (suc n) k) (outside n q i (none n (omega arith) i)) ∙ turns_none (suc n) k q (omega (arith, c)) (λ j l. none j (omega (arith, l)))

  away : (n j q : ℕ) → n < shard_count splits → j < shard_count splits → in_span splits n q ≡ true → (n ≡ j → ⊥) → in_span splits j q ≡ false
  away n j q a b i d = false_from_ne_true (in_span splits j q) (λ h. d (one_shard splits n j q s a b i h))

  turns_value : (n k j q : ℕ) → n + k ≡ shard_count splits → n ≤ j → j < shard_count splits → in_span splits j q ≡ true → map_get q (in_turn f n k) ≡ map_get q (f j)
  turns_value n zero j q c l i h = absurd (omega (arith, c, l, i))
  turns_value n (suc k) j q c l i h =
      let m : n < shard_count splits = omega (arith, c) in
      let rest = in_turn f (suc n) k in
      ⊎_elim
      (λ e. none_second q (f n) rest (turns_none (suc n) k q (omega (arith, c)) (λ z a b. away j z q i b h (λ d. omega (arith, a, d, e)))) ∙ ap (λ z. map_get q (f z)) e)
      (⊎_elim
      (λ a. none_first q (f n) rest (outside n q m (away j n q i m h (λ d. omega (arith, a, d)))) ∙ turns_value (suc n) k j q (omega (arith, c)) (omega (arith, a)) i h)
      (λ a. absurd (omega (arith, a, l))))
      (cases_order n j)

-- ---- the map that logs stand for

outside : (splits : List ℕ) (logs : List (List LogRecord)) (n k : ℕ) → AreLogsOf splits logs → n < shard_count splits → in_span splits n k ≡ false → map_get k (share_of logs n) ≡ None
outside splits logs n k a i o =
    let c = a.0 in
    let p = passes_at (λ n log. list_all (passes_file_rules splits n) log) 0 n logs a.1 (omega (arith, c, i)) in
    fold_away splits n (committed_somewhere logs) (log_of logs n) k [] (subst (λ z. list_all (passes_file_rules splits z) (log_of logs n) ≡ true) (zero_plus n) p) o
  where
    zero_plus : (m : ℕ) → 0 + m ≡ m
    zero_plus m = omega arith

pub shares_make_the_map : SharesMakeTheMap
shares_make_the_map splits logs s a =
    let f = share_of logs in
    let g = logs_agree splits logs s a in
    let count = shard_count splits in
    let none_outside : (n k : ℕ) → n < shard_count splits → in_span splits n k ≡ false → map_get k (share_of logs n) ≡ None = λ n k. outside splits logs n k a in
    same_map (in_turn f 0 count) (stands logs) (of_true _ (turns_rise splits f s g.shares_rise none_outside 0 count (omega arith)).0) g.whole_rises (λ q.
    ⊎_elim (λ w. turns_value splits f s g.shares_rise none_outside 0 count w.0 q (omega arith) (omega arith) w.1 w.2 ∙ sym (g.values w.0 q w.1 w.2))
    (λ none. turns_none splits f s g.shares_rise none_outside 0 count q (omega arith) (λ j l i. none j i) ∙ sym (g.nowhere q none))
    (whose splits q count))
