-- A log in order, record by record: each comes behind those before it, whether a checkpoint kept it or it came later.
use Rattle.std.proofs.Common.{◌≡◌, ◌⊎◌, inl, inr, refl, sym, ap, subst, ◌∙◌, ℕ, suc, ◌+◌, Bool, true, false, not, ◌&&◌, ◌||◌, ◌==◌, nat_le, List, [], ◌∷◌, ◌++◌, take, drop, Option, Some, None, append-nil, append_assoc, arith, eqb-true}
use Rattle.std.specs.List.{list_all}
use Rattle.std.proofs.lemmas.Bool.{both_ways, and_parts, and_from, not-true, false_from_ne_true, le-leb}
use Rattle.std.proofs.lemmas.List.{take-append-drop}
use Rattle.clv_base.specs.declared.names.TxId.{TxId}
use Rattle.clv_base.specs.declared.logs.LogRecord.{LogRecord}
use Rattle.clv_base.specs.declared.logs.LogRecord.TheVariants.{Update, Clr, Prepare, Commit, Abort, End, Restart, Add, Unadd, Forgotten, Check}
use Rattle.clv_base.specs.Orders.{tx_same}
use Rattle.clv_base.specs.Maps.{KeyMap}
use Rattle.clv_base.specs.Folding.{IsRising}
use Rattle.clv_base.specs.Logs.{base_by, has_standing, wrote_in, committed_in, prepared_in, aborted_in, prepare_of}
use Rattle.clv_base.specs.LogRules.{may_follow, may_write, last_restart, before_restart, in_last_run, lists, is_listed, is_current, has_new_standing, commit_by_prepare, some_parts, disorder_from}
use Rattle.clv_base.proofs.SameNames.{or_left}
use Rattle.law_base.specs.Coming.{is_of_past, is_let_go, may_go_on, may_come_writing, is_bare, may_come_listed, commit_may_come, may_come, Comes, MayBegin, AllCome, Follows}
use Rattle.law_base.proofs.Bools.{and_first as front, and_second as last}
use Rattle.law_base.proofs.Logs.{order_case, push_left}

-- ---- later records

pub from_disorder : (shard n : ℕ) (before rs : List LogRecord) → disorder_from shard n before rs ≡ None → Follows shard before rs
from_disorder shard n before [] d = tt
from_disorder shard n before (r ∷ rs) d =
    let p = order_case shard n before r rs (may_follow shard before r) refl d in (p.0, from_disorder shard (suc n) (before ++ r ∷ []) rs p.1)

pub to_disorder : (shard n : ℕ) (before rs : List LogRecord) → Follows shard before rs → disorder_from shard n before rs ≡ None
to_disorder shard n before [] f = refl
to_disorder shard n before (r ∷ rs) f =
    ap (λ b. elim b [ true ↦ disorder_from shard (suc n) (before ++ r ∷ []) rs | false ↦ Some n ]) f.0 ∙ to_disorder shard (suc n) (before ++ r ∷ []) rs f.1

pub follows_append : (shard : ℕ) (before xs ys : List LogRecord) → Follows shard before xs → Follows shard (before ++ xs) ys → Follows shard before (xs ++ ys)
follows_append shard before [] ys f g = subst (λ l. Follows shard l ys) (append-nil before) g
follows_append shard before (x ∷ xs) ys f g = (f.0, follows_append shard (before ++ x ∷ []) xs ys f.1 (subst (λ l. Follows shard l ys) (sym (append_assoc before (x ∷ []) xs)) g))

pub follows_front : (shard : ℕ) (before xs ys : List LogRecord) → Follows shard before (xs ++ ys) → Follows shard before xs
follows_front shard before [] ys f = tt
follows_front shard before (x ∷ xs) ys f = (f.0, follows_front shard (before ++ x ∷ []) xs ys f.1)

pub follows_later : (shard : ℕ) (before xs ys : List LogRecord) → Follows shard before (xs ++ ys) → Follows shard (before ++ xs) ys
follows_later shard before [] ys f = subst (λ l. Follows shard l ys) (sym (append-nil before)) f
follows_later shard before (x ∷ xs) ys f = subst (λ l. Follows shard l ys) (append_assoc before (x ∷ []) xs) (follows_later shard (before ++ x ∷ []) xs ys f.1)

pub follows_take : (shard n : ℕ) (before log : List LogRecord) → Follows shard before log → Follows shard before (take n log)
follows_take shard n before log f = follows_front shard before (take n log) (drop n log) (subst (Follows shard before) (sym (take-append-drop n log)) f)

-- ---- records that come

pub comes_append : (shard : ℕ) (part before xs ys : List LogRecord) → Comes shard part before xs → Comes shard part (before ++ xs) ys → Comes shard part before (xs ++ ys)
comes_append shard part before [] ys f g = subst (λ l. Comes shard part l ys) (append-nil before) g
comes_append shard part before (x ∷ xs) ys f g = (f.0, comes_append shard part (before ++ x ∷ []) xs ys f.1 (subst (λ l. Comes shard part l ys) (sym (append_assoc before (x ∷ []) xs)) g))

pub comes_front : (shard : ℕ) (part before xs ys : List LogRecord) → Comes shard part before (xs ++ ys) → Comes shard part before xs
comes_front shard part before [] ys f = tt
comes_front shard part before (x ∷ xs) ys f = (f.0, comes_front shard part (before ++ x ∷ []) xs ys f.1)

pub all_front : (shard : ℕ) (part xs ys : List LogRecord) → AllCome shard part (xs ++ ys) → AllCome shard part xs
all_front shard part [] ys f = tt
all_front shard part (x ∷ xs) ys f = (f.0, comes_front shard part (x ∷ []) xs ys f.1)

pub all_take : (shard n : ℕ) (part log : List LogRecord) → AllCome shard part log → AllCome shard part (take n log)
all_take shard n part log f = all_front shard part (take n log) (drop n log) (subst (AllCome shard part) (sym (take-append-drop n log)) f)

pub may_begin : (shard : ℕ) (part : List LogRecord) (r : LogRecord) → may_come shard part [] r ≡ true → MayBegin shard part r
may_begin shard part (Check run epoch upto base) m = absurd (both_ways false refl m)
may_begin shard part _ m = m

pub all_append : (shard : ℕ) (part log more : List LogRecord) → AllCome shard part log → Comes shard part log more → AllCome shard part (log ++ more)
all_append shard part [] [] f g = tt
all_append shard part [] (r ∷ rs) f g = (may_begin shard part r g.0, g.1)
all_append shard part (x ∷ xs) more f g = (f.0, comes_append shard part (x ∷ []) xs more f.1 g)

-- what holds of nothing and of a checkpoint's first place, and stays with each record that comes
module _ (P : List LogRecord → Type 0) (shard : ℕ) (part : List LogRecord)
    (step : (log : List LogRecord) (r : LogRecord) → AllCome shard part log → P log → may_come shard part log r ≡ true → P (log ++ r ∷ [])) where
  through_from : (before rs : List LogRecord) → AllCome shard part before → Comes shard part before rs → P before → P (before ++ rs)
  through_from before [] g f p = subst P (sym (append-nil before)) p
  through_from before (r ∷ rs) g f p =
      subst P (append_assoc before (r ∷ []) rs) (through_from (before ++ r ∷ []) rs (all_append shard part before (r ∷ []) g (f.0, tt)) f.1 (step before r g p f.0))

  pub through : (log : List LogRecord) → AllCome shard part log → P [] → ((run epoch upto : ℕ) (base : KeyMap) → IsRising base → P (Check run epoch upto base ∷ [])) → P log
  through [] f none first = none
  through (r ∷ rs) f none first = through_from (r ∷ []) rs (f.0, tt) f.1 (begun r f.0)
    where
      begun : (q : LogRecord) → MayBegin shard part q → P (q ∷ [])
      begun (Check run epoch upto base) m = first run epoch upto base m
      begun (Update tx key before after) m = step [] (Update tx key before after) tt none m
      begun (Clr tx undo_next key after) m = step [] (Clr tx undo_next key after) tt none m
      begun (Prepare tx home ps) m = step [] (Prepare tx home ps) tt none m
      begun (Commit tx parts) m = step [] (Commit tx parts) tt none m
      begun (Abort tx) m = step [] (Abort tx) tt none m
      begun (End tx) m = step [] (End tx) tt none m
      begun (Restart run epoch) m = step [] (Restart run epoch) tt none m
      begun (Add tx key by) m = step [] (Add tx key by) tt none m
      begun (Unadd tx undo_next key by) m = step [] (Unadd tx undo_next key by) tt none m
      begun Forgotten m = step [] Forgotten tt none m

-- ---- a record that may follow comes

past_last : (log : List LogRecord) (tx : TxId) → in_last_run log tx ≡ true → is_of_past log tx ≡ true
past_last log tx e = at (last_restart log) e
  where
    at : (o : Option (ℕ × ℕ)) → elim o [ Some p ↦ tx.run == p.0 | None ↦ false ] ≡ true → elim o [ Some p ↦ nat_le tx.run p.0 | None ↦ false ] ≡ true
    at None e = e
    at (Some p) e = let q = eqb-true tx.run p.0 e in le-leb tx.run p.0 (omega (arith, q))

first_of_two : (a b c : Bool) → (a ≡ true → c ≡ true) → (a && b) ≡ true → (c && b) ≡ true
first_of_two a b c f e = and_from c b (f (front a b e)) (last a b e)

listed_more : (o p c a g : Bool) → (o && p && c && a) ≡ true → (o && ((p && c && a) || g)) ≡ true
listed_more true true true true g e = refl
listed_more true true true false g e = absurd (both_ways false refl e)
listed_more true true false a g e = absurd (both_ways false refl e)
listed_more true false c a g e = absurd (both_ways false refl e)
listed_more false p c a g e = absurd (both_ways false refl e)

listed_two : (o p c a g u : Bool) → (o && ((p && c && a) || (g && u))) ≡ true → (p ≡ true) ⊎ ((g ≡ true) × (u ≡ true))
listed_two true true c a g u e = inl refl
listed_two true false c a true true e = inr (refl, refl)
listed_two true false c a true false e = absurd (both_ways false refl e)
listed_two true false c a false u e = absurd (both_ways false refl e)
listed_two false p c a g u e = absurd (both_ways false refl e)

-- whom a PREPARE lists is prepared, or was let go
pub listed_of : (part log : List LogRecord) (tx p : TxId) → may_come_listed part log tx p ≡ true → (prepared_in log p ≡ true) ⊎ ((is_let_go part p ≡ true) × (is_of_past log p ≡ true))
listed_of part log tx p e = listed_two (not (tx_same p tx)) (prepared_in log p) (not (committed_in log p)) (not (aborted_in log p)) (is_let_go part p) (is_of_past log p) e

-- where the log has its part's PREPAREs
module _ (shard : ℕ) (part log : List LogRecord) (has : (t : TxId) → is_listed part t ≡ true → is_listed log t ≡ true) where
  current_goes : (tx : TxId) → is_current log tx ≡ true → may_go_on part log tx ≡ true
  current_goes tx e =
      and_from _ _ (past_last log tx (front _ _ e)) (ap not (false_from_ne_true _ (λ g. both_ways _ (not-true _ (last _ _ e)) (has tx (front _ _ g)))))

  listed_follow : (tx : TxId) (ps : List TxId) → list_all (λ p. not (tx_same p tx) && prepared_in log p && not (committed_in log p) && not (aborted_in log p)) ps ≡ true → list_all (may_come_listed part log tx) ps ≡ true
  listed_follow tx [] e = refl
  listed_follow tx (p ∷ ps) e =
      let a = and_parts (not (tx_same p tx) && prepared_in log p && not (committed_in log p) && not (aborted_in log p)) (list_all (λ p. not (tx_same p tx) && prepared_in log p && not (committed_in log p) && not (aborted_in log p)) ps) e in
      and_from (may_come_listed part log tx p) (list_all (may_come_listed part log tx) ps)
      (listed_more (not (tx_same p tx)) (prepared_in log p) (not (committed_in log p)) (not (aborted_in log p)) (is_let_go part p && is_of_past log p) a.0) (listed_follow tx ps a.1)

  commit_follow : (tx : TxId) (parts : List ℕ) (o : Option (ℕ × List TxId)) → commit_by_prepare shard log tx parts o ≡ true → commit_may_come shard part log tx parts o ≡ true
  commit_follow tx parts None e = current_goes tx e
  commit_follow tx parts (Some p) e = e

  writing_follow : (tx : TxId) → may_write log tx ≡ true → may_come_writing part log tx ≡ true
  writing_follow tx =
      first_of_two (is_current log tx && not (prepared_in log tx) && not (committed_in log tx) && not (aborted_in log tx)) (not (wrote_in (before_restart [] log) tx)) (may_go_on part log tx && not (prepared_in log tx) && not (committed_in log tx) && not (aborted_in log tx))
      (first_of_two (is_current log tx && not (prepared_in log tx) && not (committed_in log tx)) (not (aborted_in log tx)) (may_go_on part log tx && not (prepared_in log tx) && not (committed_in log tx))
      (first_of_two (is_current log tx && not (prepared_in log tx)) (not (committed_in log tx)) (may_go_on part log tx && not (prepared_in log tx))
      (first_of_two (is_current log tx) (not (prepared_in log tx)) (may_go_on part log tx) (current_goes tx))))

  pub follow_comes : (r : LogRecord) → may_follow shard log r ≡ true → may_come shard part log r ≡ true
  follow_comes (Update tx key before after) m =
      let a = and_parts _ _ m in let b = and_parts _ _ a.0 in let c = and_parts _ _ b.0 in
      and_from _ _ (and_from _ _ (and_from _ _ (writing_follow tx c.0) c.1) b.1) a.1
  follow_comes (Add tx key by) m =
      let a = and_parts _ _ m in let b = and_parts _ _ a.0 in
      and_from _ _ (and_from _ _ (writing_follow tx b.0) b.1) a.1
  follow_comes (Prepare tx home ps) m =
      let a = and_parts _ _ m in let b = and_parts _ _ a.0 in let c = and_parts _ _ b.0 in let d = and_parts _ _ c.0 in let f = and_parts _ _ d.0 in let g = and_parts _ _ f.0 in
      and_from _ _ (and_from _ _ (and_from _ _ (and_from _ _ (and_from _ _ (and_from _ _ g.0 (or_left (has_new_standing log tx) (is_bare part log tx ps) g.1)) f.1) d.1) c.1) (listed_follow tx ps b.1)) a.1
  follow_comes (Commit tx parts) m =
      let a = and_parts _ _ m in let b = and_parts _ _ a.0 in
      and_from _ _ (and_from _ _ b.0 (commit_follow tx parts (prepare_of log tx) b.1)) (or_left (has_standing log tx || some_parts parts) (committed_in part tx) a.1)
  follow_comes (Abort tx) m = m
  follow_comes (Clr tx undo_next key after) m = m
  follow_comes (Unadd tx undo_next key by) m = m
  follow_comes (End tx) m = m
  follow_comes (Restart run epoch) m = m
  follow_comes Forgotten m = absurd (both_ways false refl m)
  follow_comes (Check run epoch upto base) m = absurd (both_ways false refl m)

pub follows_come : (shard : ℕ) (part before rs : List LogRecord) → ((t : TxId) → is_listed part t ≡ true → is_listed before t ≡ true) → Follows shard before rs → Comes shard part before rs
follows_come shard part before [] has f = tt
follows_come shard part before (r ∷ rs) has f =
    (follow_comes shard part before has r f.0, follows_come shard part (before ++ r ∷ []) rs (λ t i. push_left (lists t) before r (has t i)) f.1)

-- no record that comes brings a map
pub come_base : (shard : ℕ) (part log : List LogRecord) (r : LogRecord) → may_come shard part log r ≡ true → base_by r ≡ []
come_base shard part log (Check run epoch upto base) m = absurd (both_ways false refl m)
come_base shard part log _ m = refl
