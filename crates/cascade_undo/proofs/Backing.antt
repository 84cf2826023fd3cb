-- A transaction goes back: of its newest writes that are to go the first is taken back, and the others are its newest ones still.
use Rattle.std.proofs.Common.{◌≡◌, ℕ, zero, suc, ◌-◌, ◌<◌, ◌≤◌, Bool, true, false, cond, ◌||◌, ◌==◌, List, [], ◌∷◌, ◌++◌, map, take, length, Option, Some, None, refl, sym, ⊎_elim, ap, subst, ◌∙◌, eq-eqb, arith}
use Rattle.std.specs.Prelude.{IfSome}
use Rattle.std.specs.List.{AllByRecursion, filter}
use Rattle.std.proofs.lemmas.Bool.{both_ways, cases_Bool, cond-true, cond-false, ne_eqb}
use Rattle.clv_base.specs.declared.names.TxId.{TxId}
use Rattle.clv_base.specs.declared.logs.LogRecord.{LogRecord}
use Rattle.clv_base.specs.Orders.{tx_same, nat_in}
use Rattle.clv_base.specs.Logs.{StandingUpdate, standing, newest_of}
use Rattle.clv_base.specs.Undo.{clrs_by, newest_lsns, is_at}
use Rattle.clv_base.specs.Needs.{Records}
use Rattle.clv_base.proofs.SameNames.{or_left, tx_eq, tx_true}
use Rattle.law_base.specs.Undone.{stays_by}
use Rattle.law_base.proofs.Undoing.{NewestGo, standing_undone_by}
use Rattle.law_base.proofs.Bools.{by_bool as both}
use Rattle.law_base.proofs.Lists.{all_mono}
use Rattle.law_base.proofs.Names.{Falls}
use Rattle.cascade_undo.specs.declared.write.Write.{Write}
use Rattle.cascade_undo.specs.Writes.{HaveRecords, HaveRecordsBy}
use Rattle.cascade_undo.specs.Steps.{AreNewest, IsNewestIn, IsNewestOf}
use Rattle.cascade_undo.proofs.Standing.{falls}
use Rattle.cascade_undo.proofs.Newest.{newest_in_one}
use Rattle.cascade_undo.proofs.Splitting.{NoneOf, AreOthers, SplitAt, SplitOf, split_of, all_above, all_but}
use Rattle.cascade_undo.proofs.Stepping.{IsUndone, as_standing, stands}

-- ---- LSNs fall

falls_more : (n m : ℕ) (ws : List StandingUpdate) → n ≤ m → Falls n ws → Falls m ws
falls_more n m [] l f = tt
falls_more n m (v ∷ vs) l f = (let k : v.lsn < n = f.0 in omega arith, f.1)

-- none of them is that of a write above
all_apart : (m k : ℕ) (ws : List StandingUpdate) → k ≤ m → Falls k ws → AllByRecursion (λ v. (v.lsn == m) ≡ false) ws
all_apart m k [] l f = tt
all_apart m k (v ∷ vs) l f = (ne_eqb v.lsn m (λ e. let i : v.lsn < k = f.0 in absurd (omega arith)), all_apart m v.lsn vs (let i : v.lsn < k = f.0 in omega arith) f.1)

none_under : (m k : ℕ) (t : TxId) (ws : List StandingUpdate) → Falls m ws → nat_in m (newest_lsns k t ws) ≡ false
none_under m zero t ws f = refl
none_under m (suc k) t [] f = refl
none_under m (suc k) t (w ∷ ws) f =
    both (λ b. nat_in m (take (suc k) (map (λ v. v.lsn) (cond b (w ∷ filter (λ v. tx_same t v.tx) ws) (filter (λ v. tx_same t v.tx) ws)))) ≡ false) (tx_same t w.tx)
    (λ _. ap (λ b. b || nat_in m (newest_lsns k t ws)) (ne_eqb m w.lsn (λ e. let l : w.lsn < m = f.0 in absurd (omega arith))) ∙ none_under m k t ws (under f))
    (λ _. none_under m (suc k) t ws (under f))
  where
    under : Falls m (w ∷ ws) → Falls m ws
    under f = falls_more w.lsn m ws (let l : w.lsn < m = f.0 in omega arith) f.1

-- ---- its newest ones

others_out : (t : TxId) (above ws : List StandingUpdate) → AreOthers t above → filter (λ v. tx_same t v.tx) (above ++ ws) ≡ filter (λ v. tx_same t v.tx) ws
others_out t [] ws h = refl
others_out t (v ∷ vs) ws h = cond-false _ _ _ h.0 ∙ others_out t vs ws h.1

-- the first, and those of the rest
newest_first : (k : ℕ) (t : TxId) (w : StandingUpdate) (above rest : List StandingUpdate) → t ≡ w.tx → AreOthers t above → newest_lsns (suc k) t (above ++ w ∷ rest) ≡ w.lsn ∷ newest_lsns k t (above ++ rest)
newest_first k t w above rest own h =
    ap (λ l. take (suc k) (map (λ v. v.lsn) l)) (others_out t above (w ∷ rest) h ∙ cond-true _ _ _ (tx_eq t w.tx own))
    ∙ ap (λ l. w.lsn ∷ take k (map (λ v. v.lsn) l)) (sym (others_out t above rest h))

-- those of others aren't among them
pub others_stay : (n k : ℕ) (t : TxId) (ws : List StandingUpdate) → Falls n ws → AllByRecursion (λ v. tx_same t v.tx ≡ false → is_at (newest_lsns k t ws) v ≡ false) ws
others_stay n k t [] f = tt
others_stay n k t (w ∷ ws) f =
    both (λ b. tx_same t w.tx ≡ b → AllByRecursion (λ v. tx_same t v.tx ≡ false → nat_in v.lsn (take k (map (λ u. u.lsn) (cond b (w ∷ filter (λ u. tx_same t u.tx) ws) (filter (λ u. tx_same t u.tx) ws)))) ≡ false) (w ∷ ws)) (tx_same t w.tx)
    (λ _ own. ((λ other. absurd (both_ways _ other own)), at k (λ j. others_stay w.lsn j t ws f.1)))
    (λ _ _. ((λ other. none_under w.lsn k t ws f.1), others_stay w.lsn k t ws f.1)) refl
  where
    more : (j : ℕ) (vs : List StandingUpdate) → AllByRecursion (λ v. (v.lsn == w.lsn) ≡ false) vs → AllByRecursion (λ v. tx_same t v.tx ≡ false → is_at (newest_lsns j t ws) v ≡ false) vs
        → AllByRecursion (λ v. tx_same t v.tx ≡ false → is_at (w.lsn ∷ newest_lsns j t ws) v ≡ false) vs
    more j [] a b = tt
    more j (v ∷ vs) a b = ((λ other. ap (λ c. c || nat_in v.lsn (newest_lsns j t ws)) a.0 ∙ b.0 other), more j vs a.1 b.1)

    none : (vs : List StandingUpdate) → AllByRecursion (λ v. tx_same t v.tx ≡ false → ◌≡◌ {A = Bool} false false) vs
    none [] = tt
    none (v ∷ vs) = ((λ other. refl), none vs)

    at : (j : ℕ) → ((i : ℕ) → AllByRecursion (λ v. tx_same t v.tx ≡ false → is_at (newest_lsns i t ws) v ≡ false) ws)
        → AllByRecursion (λ v. tx_same t v.tx ≡ false → nat_in v.lsn (take j (w.lsn ∷ map (λ u. u.lsn) (filter (λ u. tx_same t u.tx) ws))) ≡ false) ws
    at zero ih = none ws
    at (suc j) ih = more j ws (all_apart w.lsn w.lsn ws (omega arith) f.1) (ih j)

-- no other write stands at its place
apart : (n : ℕ) (w : StandingUpdate) (above rest : List StandingUpdate) → Falls n (above ++ w ∷ rest) → AllByRecursion (λ v. (v.lsn == w.lsn) ≡ false) (above ++ rest)
apart n w [] rest f = all_apart w.lsn w.lsn rest (omega arith) f.1
apart n w (v ∷ vs) rest f = (ne_eqb v.lsn w.lsn (λ e. let l : w.lsn < v.lsn = first v.lsn vs f.1 in absurd (omega arith)), apart v.lsn w vs rest f.1)
  where
    first : (m : ℕ) (us : List StandingUpdate) → Falls m (us ++ w ∷ rest) → w.lsn < m
    first m [] g = g.0
    first m (u ∷ us) g = let l : w.lsn < u.lsn = first u.lsn us g.1 in let k : u.lsn < m = g.0 in omega arith

-- ---- a write is taken back

module _ (gone : StandingUpdate → Bool) (k : ℕ) (t : TxId) (w : StandingUpdate) (above rest : List StandingUpdate) (own : t ≡ w.tx) (h : AreOthers t above)
    (n : ℕ) (f : Falls n (above ++ w ∷ rest)) (are : AreNewest gone (suc k) t (above ++ w ∷ rest)) where
  pub above_stay : NoneOf gone above
  above_stay = both_of (newest_lsns (suc k) t (above ++ w ∷ rest)) above are (others_stay n (suc k) t (above ++ w ∷ rest) f) h
    where
      both_of : (ls : List ℕ) (vs : List StandingUpdate) → AllByRecursion (λ v. gone v ≡ is_at ls v) (vs ++ w ∷ rest) → AllByRecursion (λ v. tx_same t v.tx ≡ false → is_at ls v ≡ false) (vs ++ w ∷ rest)
          → AreOthers t vs → NoneOf gone vs
      both_of ls [] a b o = tt
      both_of ls (v ∷ vs) a b o = (a.0 ∙ b.0 o.0, both_of ls vs a.1 b.1 o.1)

  pub goes : gone w ≡ true
  goes =
      (all_above (λ v. gone v ≡ is_at (newest_lsns (suc k) t (above ++ w ∷ rest)) v) above (w ∷ rest) are).0 ∙ ap (λ l. is_at l w) (newest_first k t w above rest own h)
      ∙ or_left (w.lsn == w.lsn) (nat_in w.lsn (newest_lsns k t (above ++ rest))) (eq-eqb w.lsn w.lsn refl)

  -- the others are its newest ones of those that stand then
  left_newest : AreNewest gone k t (above ++ rest)
  left_newest = both_of (above ++ rest) (all_but (λ v. gone v ≡ is_at (newest_lsns (suc k) t (above ++ w ∷ rest)) v) above w rest are) (apart n w above rest f)
    where
      both_of : (vs : List StandingUpdate) → AllByRecursion (λ v. gone v ≡ is_at (newest_lsns (suc k) t (above ++ w ∷ rest)) v) vs → AllByRecursion (λ v. (v.lsn == w.lsn) ≡ false) vs
          → AllByRecursion (λ v. gone v ≡ is_at (newest_lsns k t (above ++ rest)) v) vs
      both_of [] a b = tt
      both_of (v ∷ vs) a b = (a.0 ∙ ap (λ l. is_at l v) (newest_first k t w above rest own h) ∙ ap (λ c. c || nat_in v.lsn (newest_lsns k t (above ++ rest))) b.0, both_of vs a.1 b.1)

module _ (gone : StandingUpdate → Bool) (k : ℕ) (t : TxId) (log : List LogRecord) (w : Write) (newest : IsNewestOf t (standing log) w) (are : AreNewest gone (suc k) t (standing log)) where
  abbrev it : StandingUpdate
  it = as_standing w

  abbrev of_parts : SplitOf t it (standing log)
  of_parts = split_of t (standing log) it newest

  pub fall : Falls (length log) (of_parts.above ++ it ∷ of_parts.rest)
  fall = subst (Falls (length log)) of_parts.is (falls log)

  pub which : AreNewest gone (suc k) t (of_parts.above ++ it ∷ of_parts.rest)
  which = subst (AreNewest gone (suc k) t) of_parts.is are

  abbrev pub back_parts : SplitAt gone it (standing log)
  back_parts = record {
    above = of_parts.above;
    rest = of_parts.rest;
    is = of_parts.is;
    stay = above_stay gone k t it of_parts.above of_parts.rest of_parts.own of_parts.others (length log) fall which;
    own = goes gone k t it of_parts.above of_parts.rest of_parts.own of_parts.others (length log) fall which;
    others = subst (λ x. AreOthers x of_parts.above) of_parts.own of_parts.others;
  }

  pub back_left : (after : List LogRecord) → IsUndone log w after → AreNewest gone k t (standing after)
  back_left after e =
      subst (AreNewest gone k t) (sym (stands gone log w back_parts after e))
      (left_newest gone k t it of_parts.above of_parts.rest of_parts.own of_parts.others (length log) fall which)

-- ---- at last

none_taken : (k : ℕ) → take k (map {A = StandingUpdate} {B = ℕ} (λ u. u.lsn) []) ≡ []
none_taken zero = refl
none_taken (suc j) = refl

pub none_left : (gone : StandingUpdate → Bool) (k : ℕ) (t : TxId) (ws : List StandingUpdate) → newest_lsns k t ws ≡ [] → AreNewest gone k t ws → NoneOf gone ws
none_left gone k t ws e are = all_mono _ _ (λ v is. is ∙ ap (λ l. is_at l v) e) ws are

pub none_newest : (k : ℕ) (t : TxId) (ws : List StandingUpdate) → newest_of t ws ≡ None → newest_lsns k t ws ≡ []
none_newest k t ws e = ap (λ l. take k (map (λ u. u.lsn) l)) (none_own ws e) ∙ none_taken k
  where
    none_own : (vs : List StandingUpdate) → newest_of t vs ≡ None → filter (λ u. tx_same t u.tx) vs ≡ []
    none_own [] e = refl
    none_own (v ∷ vs) e =
        both (λ b. cond b (Some v) (newest_of t vs) ≡ None → cond b (v ∷ filter (λ u. tx_same t u.tx) vs) (filter (λ u. tx_same t u.tx) vs) ≡ []) (tx_same t v.tx)
        (λ _ is. absurd cc) (λ _ is. none_own vs is) e

-- what is found of a set of one
pub newest_told : (k : ℕ) (t : TxId) (ws : List StandingUpdate) → 0 < k → (o : Option Write) → IfSome o (IsNewestIn (t ∷ []) ws) → IfSome o (λ w. (0 < k) × IsNewestOf t ws w)
newest_told k t ws l None h = tt
newest_told k t ws l (Some w) h = (l, sym (newest_in_one t ws) ∙ h)

-- ---- at first

pub are_newest : (k : ℕ) (t : TxId) (ws : List StandingUpdate) → AreNewest (is_at (newest_lsns k t ws)) k t ws
are_newest k t ws = each ws
  where
    each : (vs : List StandingUpdate) → AllByRecursion (λ v. is_at (newest_lsns k t ws) v ≡ is_at (newest_lsns k t ws) v) vs
    each [] = tt
    each (v ∷ vs) = (refl, each vs)

-- one is left at least
pub one_left : (gone : StandingUpdate → Bool) (k : ℕ) (t : TxId) (ws : List StandingUpdate) → 0 < k → AreNewest gone k t ws → AreNewest gone (suc (k - 1)) t ws
one_left gone k t ws l are = let e : k ≡ suc (k - 1) = omega arith in subst (λ n. AreNewest gone n t ws) e are

-- those that are to go are the transaction's
pub are_own : (k : ℕ) (t : TxId) (n : ℕ) (ws : List StandingUpdate) (rs : Records) → Falls n ws → HaveRecords (t ∷ []) ws rs → HaveRecordsBy (is_at (newest_lsns k t ws)) ws rs
are_own k t n ws rs f have = both_of ws (others_stay n k t ws f) have
  where
    both_of : (vs : List StandingUpdate) → AllByRecursion (λ v. tx_same t v.tx ≡ false → is_at (newest_lsns k t ws) v ≡ false) vs → HaveRecords (t ∷ []) vs rs → HaveRecordsBy (is_at (newest_lsns k t ws)) vs rs
    both_of [] a b = tt
    both_of (v ∷ vs) a b = ((λ i. ⊎_elim (λ own. b.0 (or_left (tx_same t v.tx) false own)) (λ other. absurd (both_ways _ (a.0 other) i)) (cases_Bool (tx_same t v.tx))), both_of vs a.1 b.1)

-- and as many as there are to be taken back
filter_same : (p q : StandingUpdate → Bool) (ws : List StandingUpdate) → AllByRecursion (λ v. p v ≡ q v) ws → filter p ws ≡ filter q ws
filter_same p q [] a = refl
filter_same p q (v ∷ vs) a = ap (λ b. cond b (v ∷ filter p vs) (filter p vs)) a.0 ∙ ap (λ l. cond (q v) (v ∷ l) l) (filter_same p q vs a.1)

abbrev lsns_with : StandingUpdate → TxId → List StandingUpdate → Bool → ℕ → List ℕ
lsns_with w t ws b k = take k (map (λ u. u.lsn) (cond b (w ∷ filter (λ u. tx_same t u.tx) ws) (filter (λ u. tx_same t u.tx) ws)))

none_at : (vs : List StandingUpdate) → length (filter (is_at []) vs) ≡ 0
none_at [] = refl
none_at (v ∷ vs) = none_at vs

pub filtered_at : (n k : ℕ) (t : TxId) (ws : List StandingUpdate) → Falls n ws → length (filter (is_at (newest_lsns k t ws)) ws) ≡ length (newest_lsns k t ws)
filtered_at n k t [] f = sym (ap length (none_taken k))
filtered_at n k t (w ∷ ws) f =
    both (λ b. tx_same t w.tx ≡ b → length (filter (is_at (lsns_with w t ws b k)) (w ∷ ws)) ≡ length (lsns_with w t ws b k)) (tx_same t w.tx)
    (λ _ own. at k (λ j. filtered_at w.lsn j t ws f.1))
    (λ _ other. ap (λ b. length (cond b (w ∷ filter (is_at (newest_lsns k t ws)) ws) (filter (is_at (newest_lsns k t ws)) ws))) (none_under w.lsn k t ws f.1) ∙ filtered_at w.lsn k t ws f.1) refl
  where
    drop_own : (j : ℕ) → AllByRecursion (λ v. is_at (w.lsn ∷ newest_lsns j t ws) v ≡ is_at (newest_lsns j t ws) v) ws
    drop_own j = all_mono _ _ (λ v e. ap (λ c. c || nat_in v.lsn (newest_lsns j t ws)) e) ws (all_apart w.lsn w.lsn ws (omega arith) f.1)

    at : (j : ℕ) → ((i : ℕ) → length (filter (is_at (newest_lsns i t ws)) ws) ≡ length (newest_lsns i t ws)) → length (filter (is_at (lsns_with w t ws true j)) (w ∷ ws)) ≡ length (lsns_with w t ws true j)
    at zero ih = none_at (w ∷ ws)
    at (suc j) ih =
        ap (λ b. length (cond b (w ∷ filter (is_at (w.lsn ∷ newest_lsns j t ws)) ws) (filter (is_at (w.lsn ∷ newest_lsns j t ws)) ws))) (or_left (w.lsn == w.lsn) (nat_in w.lsn (newest_lsns j t ws)) (eq-eqb w.lsn w.lsn refl))
        ∙ ap (λ l. suc (length l)) (filter_same _ _ ws (drop_own j)) ∙ ap suc (ih j)

-- ---- what stands after it

-- where a write stays, its transaction's older ones stay
agreeing : (f g : StandingUpdate → Bool) (ws : List StandingUpdate) → AllByRecursion (λ v. f v ≡ g v) ws → NewestGo g ws → NewestGo f ws
agreeing f g [] a up = tt
agreeing f g (w ∷ ws) a up = ((λ out. both_of ws a.1 (up.0 (sym a.0 ∙ out))), agreeing f g ws a.1 up.1)
  where
    both_of : (vs : List StandingUpdate) → AllByRecursion (λ v. f v ≡ g v) vs → AllByRecursion (λ v. tx_same v.tx w.tx ≡ true → g v ≡ false) vs → AllByRecursion (λ v. tx_same v.tx w.tx ≡ true → f v ≡ false) vs
    both_of [] b h = tt
    both_of (v ∷ vs) b h = ((λ same. b.0 ∙ h.0 same), both_of vs b.1 h.1)

pub newest_go : (n k : ℕ) (t : TxId) (ws : List StandingUpdate) → Falls n ws → NewestGo (is_at (newest_lsns k t ws)) ws
newest_go n k t [] f = tt
newest_go n k t (w ∷ ws) f =
    both (λ b. tx_same t w.tx ≡ b → NewestGo (is_at (lsns_with w t ws b k)) (w ∷ ws)) (tx_same t w.tx)
    (λ _ own. at k own (λ j. newest_go w.lsn j t ws f.1))
    (λ _ other. ((λ out. all_mono _ _ (λ v h same. h (ap (tx_same t) (tx_true v.tx w.tx same) ∙ other)) ws (others_stay w.lsn k t ws f.1)), newest_go w.lsn k t ws f.1)) refl
  where
    nothing : (vs : List StandingUpdate) → NewestGo (is_at []) vs
    nothing [] = tt
    nothing (v ∷ vs) = ((λ out. none_of vs), nothing vs)
      where
        none_of : (us : List StandingUpdate) → AllByRecursion (λ u. tx_same u.tx v.tx ≡ true → is_at [] u ≡ false) us
        none_of [] = tt
        none_of (u ∷ us) = ((λ same. refl), none_of us)

    drop_own : (j : ℕ) → AllByRecursion (λ v. is_at (w.lsn ∷ newest_lsns j t ws) v ≡ is_at (newest_lsns j t ws) v) ws
    drop_own j = all_mono _ _ (λ v e. ap (λ c. c || nat_in v.lsn (newest_lsns j t ws)) e) ws (all_apart w.lsn w.lsn ws (omega arith) f.1)

    at : (j : ℕ) → tx_same t w.tx ≡ true → ((i : ℕ) → NewestGo (is_at (newest_lsns i t ws)) ws) → NewestGo (is_at (lsns_with w t ws true j)) (w ∷ ws)
    at zero own ih = nothing (w ∷ ws)
    at (suc j) own ih = (
      (λ out. absurd (both_ways _ out (or_left (w.lsn == w.lsn) (nat_in w.lsn (newest_lsns j t ws)) (eq-eqb w.lsn w.lsn refl)))),
      agreeing _ _ ws (drop_own j) (ih j),
    )

pub standing_back : (k : ℕ) (t : TxId) (log : List LogRecord)
    → standing (log ++ clrs_by (is_at (newest_lsns k t (standing log))) (standing log)) ≡ filter (stays_by (is_at (newest_lsns k t (standing log)))) (standing log)
standing_back k t log = standing_undone_by (is_at (newest_lsns k t (standing log))) log (newest_go (length log) k t (standing log) (falls log))
