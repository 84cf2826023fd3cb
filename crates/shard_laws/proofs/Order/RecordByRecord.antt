-- A log that keeps the order rules, record by record, and what RESTARTs of it say.
use Rattle.std.proofs.Common.{◌≡◌, refl, sym, ap, subst, ◌∙◌, ℕ, ◌≤◌, ◌<◌, Bool, true, false, ◌&&◌, ◌||◌, List, [], ◌∷◌, ◌++◌, nat_lt, ◌==◌, cond, max, arith, eq-eqb}
use Rattle.std.proofs.lemmas.Bool.{and_from, lt-ltb, ltb-false, or_left}
use Rattle.std.proofs.Math.Bool.{or-false}
use Rattle.clv_base.specs.declared.names.TxId.{TxId}
use Rattle.clv_base.specs.declared.logs.LogRecord.{LogRecord}
use Rattle.clv_base.specs.declared.logs.LogRecord.TheVariants.{Update, Clr, Prepare, Commit, Abort, End, Restart, Add, Unadd, Forgotten, Check}
use Rattle.clv_base.specs.Logs.{wrote_in}
use Rattle.clv_base.specs.LogRules.{before_restart, above_restarts}
use Rattle.clv_base.specs.Restarts.{greatest_run, greatest_epoch}
pub use Rattle.law_base.specs.Coming.{Follows}
pub use Rattle.law_base.proofs.InOrder.{from_disorder, to_disorder, follows_append, follows_front, follows_take, follows_later}
pub use Rattle.law_base.proofs.Restarts.{Plainly, last_push, before_push}
use Rattle.law_base.proofs.Restarts.{epoch_own}
use Rattle.shard_laws.proofs.Keeping.RecordsAndFrontsKeep.{wrote_append}
use Rattle.clv_base.proofs.Folding.{or_left as or_false_left}

-- ---- the last RESTART

-- the records behind the last RESTART
abbrev since_restart : List LogRecord → List LogRecord → List LogRecord
since_restart so_far [] = so_far
since_restart so_far (Restart run epoch ∷ rs) = since_restart [] rs
since_restart so_far (Check run epoch upto base ∷ rs) = since_restart [] rs
since_restart so_far (r ∷ rs) = since_restart (so_far ++ r ∷ []) rs

-- who wrote, wrote before or since the last RESTART
or_three : (a b c : Bool) → ((a || b) || c) ≡ (a || (b || c))
or_three true b c = refl
or_three false b c = refl

one_more : (t : TxId) (sf rs : List LogRecord) (r : LogRecord) → (wrote_in sf t || wrote_in (r ∷ rs) t) ≡ (wrote_in (sf ++ r ∷ []) t || wrote_in rs t)
one_more t sf rs r = sym (ap (λ b. b || wrote_in rs t) (wrote_append sf (r ∷ []) t) ∙ or_three (wrote_in sf t) (wrote_in (r ∷ []) t) (wrote_in rs t) ∙ ap (λ b. wrote_in sf t || b) (sym (wrote_append (r ∷ []) rs t)))

-- the records before a RESTART, from two beginnings
same_before : (t : TxId) (xs ys zs : List LogRecord) → wrote_in xs t ≡ wrote_in ys t → wrote_in (before_restart xs zs) t ≡ wrote_in (before_restart ys zs) t
same_before t xs ys [] e = refl
same_before t xs ys (Restart r f ∷ zs) e = wrote_append xs (before_restart (Restart r f ∷ []) zs) t ∙ ap (λ b. b || wrote_in (before_restart (Restart r f ∷ []) zs) t) e ∙ sym (wrote_append ys (before_restart (Restart r f ∷ []) zs) t)
same_before t xs ys (Update tx k b a ∷ zs) e = same_before t (xs ++ Update tx k b a ∷ []) (ys ++ Update tx k b a ∷ []) zs (wrote_append xs (Update tx k b a ∷ []) t ∙ ap (λ z. z || wrote_in (Update tx k b a ∷ []) t) e ∙ sym (wrote_append ys (Update tx k b a ∷ []) t))
same_before t xs ys (Clr tx u k a ∷ zs) e = same_before t (xs ++ Clr tx u k a ∷ []) (ys ++ Clr tx u k a ∷ []) zs (wrote_append xs (Clr tx u k a ∷ []) t ∙ ap (λ z. z || false) e ∙ sym (wrote_append ys (Clr tx u k a ∷ []) t))
same_before t xs ys (Prepare tx h ps ∷ zs) e = same_before t (xs ++ Prepare tx h ps ∷ []) (ys ++ Prepare tx h ps ∷ []) zs (wrote_append xs (Prepare tx h ps ∷ []) t ∙ ap (λ z. z || false) e ∙ sym (wrote_append ys (Prepare tx h ps ∷ []) t))
same_before t xs ys (Commit tx ps ∷ zs) e = same_before t (xs ++ Commit tx ps ∷ []) (ys ++ Commit tx ps ∷ []) zs (wrote_append xs (Commit tx ps ∷ []) t ∙ ap (λ z. z || false) e ∙ sym (wrote_append ys (Commit tx ps ∷ []) t))
same_before t xs ys (Abort tx ∷ zs) e = same_before t (xs ++ Abort tx ∷ []) (ys ++ Abort tx ∷ []) zs (wrote_append xs (Abort tx ∷ []) t ∙ ap (λ z. z || false) e ∙ sym (wrote_append ys (Abort tx ∷ []) t))
same_before t xs ys (End tx ∷ zs) e = same_before t (xs ++ End tx ∷ []) (ys ++ End tx ∷ []) zs (wrote_append xs (End tx ∷ []) t ∙ ap (λ z. z || false) e ∙ sym (wrote_append ys (End tx ∷ []) t))
same_before t xs ys (Add tx k by ∷ zs) e = same_before t (xs ++ Add tx k by ∷ []) (ys ++ Add tx k by ∷ []) zs (wrote_append xs (Add tx k by ∷ []) t ∙ ap (λ z. z || wrote_in (Add tx k by ∷ []) t) e ∙ sym (wrote_append ys (Add tx k by ∷ []) t))
same_before t xs ys (Unadd tx u k by ∷ zs) e = same_before t (xs ++ Unadd tx u k by ∷ []) (ys ++ Unadd tx u k by ∷ []) zs (wrote_append xs (Unadd tx u k by ∷ []) t ∙ ap (λ z. z || false) e ∙ sym (wrote_append ys (Unadd tx u k by ∷ []) t))
same_before t xs ys (Forgotten ∷ zs) e = same_before t (xs ++ Forgotten ∷ []) (ys ++ Forgotten ∷ []) zs (wrote_append xs (Forgotten ∷ []) t ∙ ap (λ z. z || false) e ∙ sym (wrote_append ys (Forgotten ∷ []) t))
same_before t xs ys (Check run' epoch' upto base ∷ zs) e = wrote_append xs (before_restart (Check run' epoch' upto base ∷ []) zs) t ∙ ap (λ b. b || wrote_in (before_restart (Check run' epoch' upto base ∷ []) zs) t) e ∙ sym (wrote_append ys (before_restart (Check run' epoch' upto base ∷ []) zs) t)

wrote_split : (t : TxId) (sf rs : List LogRecord) → (wrote_in sf t || wrote_in rs t) ≡ (wrote_in (before_restart sf rs) t || wrote_in (since_restart sf rs) t)
wrote_split t sf [] = or-false (wrote_in sf t)
wrote_split t sf (Restart run epoch ∷ rs) = ap (λ b. wrote_in sf t || b) (wrote_split t [] rs ∙ ap (λ b. b || wrote_in (since_restart [] rs) t) (same_before t [] (Restart run epoch ∷ []) rs refl)) ∙ sym (ap (λ b. b || wrote_in (since_restart [] rs) t) (wrote_append sf (before_restart (Restart run epoch ∷ []) rs) t) ∙ or_three (wrote_in sf t) _ _)
wrote_split t sf (Update tx k b a ∷ rs) = one_more t sf rs (Update tx k b a) ∙ wrote_split t (sf ++ Update tx k b a ∷ []) rs
wrote_split t sf (Clr tx u k a ∷ rs) = one_more t sf rs (Clr tx u k a) ∙ wrote_split t (sf ++ Clr tx u k a ∷ []) rs
wrote_split t sf (Prepare tx home ps ∷ rs) = one_more t sf rs (Prepare tx home ps) ∙ wrote_split t (sf ++ Prepare tx home ps ∷ []) rs
wrote_split t sf (Commit tx parts ∷ rs) = one_more t sf rs (Commit tx parts) ∙ wrote_split t (sf ++ Commit tx parts ∷ []) rs
wrote_split t sf (Abort tx ∷ rs) = one_more t sf rs (Abort tx) ∙ wrote_split t (sf ++ Abort tx ∷ []) rs
wrote_split t sf (End tx ∷ rs) = one_more t sf rs (End tx) ∙ wrote_split t (sf ++ End tx ∷ []) rs
wrote_split t sf (Add tx k by ∷ rs) = one_more t sf rs (Add tx k by) ∙ wrote_split t (sf ++ Add tx k by ∷ []) rs
wrote_split t sf (Unadd tx u k by ∷ rs) = one_more t sf rs (Unadd tx u k by) ∙ wrote_split t (sf ++ Unadd tx u k by ∷ []) rs
wrote_split t sf (Forgotten ∷ rs) = one_more t sf rs Forgotten ∙ wrote_split t (sf ++ Forgotten ∷ []) rs
wrote_split t sf (Check run' epoch' upto base ∷ rs) = ap (λ b. wrote_in sf t || b) (wrote_split t [] rs ∙ ap (λ b. b || wrote_in (since_restart [] rs) t) (same_before t [] (Check run' epoch' upto base ∷ []) rs refl)) ∙ sym (ap (λ b. b || wrote_in (since_restart [] rs) t) (wrote_append sf (before_restart (Check run' epoch' upto base ∷ []) rs) t) ∙ or_three (wrote_in sf t) _ _)

pub unwritten_before : (log : List LogRecord) (t : TxId) → wrote_in log t ≡ false → wrote_in (before_restart [] log) t ≡ false
unwritten_before log t e = or_false_left _ _ (sym (wrote_split t [] log) ∙ e)

-- ---- runs and epochs

pub greatest_push : (log : List LogRecord) (r : LogRecord) (n : ℕ) → greatest_run log ≤ n → greatest_run (r ∷ []) ≤ n → greatest_run (log ++ r ∷ []) ≤ n
greatest_push [] r n l m = m
greatest_push (Restart run epoch ∷ rs) r n l m = let k = greatest_push rs r n (omega (arith, l)) m in omega (arith, k, l)
greatest_push (Update tx k b a ∷ rs) r n l m = greatest_push rs r n l m
greatest_push (Clr tx u k a ∷ rs) r n l m = greatest_push rs r n l m
greatest_push (Prepare tx home ps ∷ rs) r n l m = greatest_push rs r n l m
greatest_push (Commit tx parts ∷ rs) r n l m = greatest_push rs r n l m
greatest_push (Abort tx ∷ rs) r n l m = greatest_push rs r n l m
greatest_push (End tx ∷ rs) r n l m = greatest_push rs r n l m
greatest_push (Add tx k by ∷ rs) r n l m = greatest_push rs r n l m
greatest_push (Unadd tx u k by ∷ rs) r n l m = greatest_push rs r n l m
greatest_push (Forgotten ∷ rs) r n l m = greatest_push rs r n l m
greatest_push (Check run' epoch' upto base ∷ rs) r n l m = let k = greatest_push rs r n (omega (arith, l)) m in omega (arith, k, l)

pub greatest_plain : (log : List LogRecord) (r : LogRecord) (n : ℕ) → Plainly r → greatest_run log ≤ n → greatest_run (log ++ r ∷ []) ≤ n
greatest_plain log r n p l = greatest_push log r n l (at r p)
  where
    at : (q : LogRecord) → Plainly q → greatest_run (q ∷ []) ≤ n
    at (Update tx k b a) p = omega arith
    at (Clr tx u k a) p = omega arith
    at (Prepare tx home ps) p = omega arith
    at (Commit tx parts) p = omega arith
    at (Abort tx) p = omega arith
    at (End tx) p = omega arith
    at (Restart run epoch) p = absurd p
    at (Add tx k by) p = omega arith
    at (Unadd tx u k by) p = omega arith
    at Forgotten p = omega arith
    at (Check run' epoch' upto base) p = absurd p

pub greatest_front : (xs ys : List LogRecord) (n : ℕ) → greatest_run (xs ++ ys) ≤ n → greatest_run xs ≤ n
greatest_front [] ys n l = omega arith
greatest_front (Restart run epoch ∷ rs) ys n l = let k = greatest_front rs ys n (omega (arith, l)) in omega (arith, k, l)
greatest_front (Update tx k b a ∷ rs) ys n l = greatest_front rs ys n l
greatest_front (Clr tx u k a ∷ rs) ys n l = greatest_front rs ys n l
greatest_front (Prepare tx home ps ∷ rs) ys n l = greatest_front rs ys n l
greatest_front (Commit tx parts ∷ rs) ys n l = greatest_front rs ys n l
greatest_front (Abort tx ∷ rs) ys n l = greatest_front rs ys n l
greatest_front (End tx ∷ rs) ys n l = greatest_front rs ys n l
greatest_front (Add tx k by ∷ rs) ys n l = greatest_front rs ys n l
greatest_front (Unadd tx u k by ∷ rs) ys n l = greatest_front rs ys n l
greatest_front (Forgotten ∷ rs) ys n l = greatest_front rs ys n l
greatest_front (Check run' epoch' upto base ∷ rs) ys n l = let k = greatest_front rs ys n (omega (arith, l)) in omega (arith, k, l)

pub greatest_both : (xs ys : List LogRecord) (n : ℕ) → greatest_run xs ≤ n → greatest_run ys ≤ n → greatest_run (xs ++ ys) ≤ n
greatest_both [] ys n l m = m
greatest_both (Restart run epoch ∷ rs) ys n l m = let k = greatest_both rs ys n (omega (arith, l)) m in omega (arith, k, l)
greatest_both (Update tx k b a ∷ rs) ys n l m = greatest_both rs ys n l m
greatest_both (Clr tx u k a ∷ rs) ys n l m = greatest_both rs ys n l m
greatest_both (Prepare tx home ps ∷ rs) ys n l m = greatest_both rs ys n l m
greatest_both (Commit tx parts ∷ rs) ys n l m = greatest_both rs ys n l m
greatest_both (Abort tx ∷ rs) ys n l m = greatest_both rs ys n l m
greatest_both (End tx ∷ rs) ys n l m = greatest_both rs ys n l m
greatest_both (Add tx k by ∷ rs) ys n l m = greatest_both rs ys n l m
greatest_both (Unadd tx u k by ∷ rs) ys n l m = greatest_both rs ys n l m
greatest_both (Forgotten ∷ rs) ys n l m = greatest_both rs ys n l m
greatest_both (Check run' epoch' upto base ∷ rs) ys n l m = let k = greatest_both rs ys n (omega (arith, l)) m in omega (arith, k, l)

-- a later run is above, and so is a later epoch of the same run
pub above_later : (run epoch : ℕ) (log : List LogRecord) → greatest_run log < run → above_restarts run epoch log ≡ true
above_later run epoch [] l = refl
above_later run epoch (Restart r e ∷ rs) l = and_from _ _ (or_left _ _ (lt-ltb r run (omega (arith, l)))) (above_later run epoch rs (omega (arith, l)))
above_later run epoch (Update tx k b a ∷ rs) l = above_later run epoch rs l
above_later run epoch (Clr tx u k a ∷ rs) l = above_later run epoch rs l
above_later run epoch (Prepare tx home ps ∷ rs) l = above_later run epoch rs l
above_later run epoch (Commit tx parts ∷ rs) l = above_later run epoch rs l
above_later run epoch (Abort tx ∷ rs) l = above_later run epoch rs l
above_later run epoch (End tx ∷ rs) l = above_later run epoch rs l
above_later run epoch (Add tx k by ∷ rs) l = above_later run epoch rs l
above_later run epoch (Unadd tx u k by ∷ rs) l = above_later run epoch rs l
above_later run epoch (Forgotten ∷ rs) l = above_later run epoch rs l
above_later run epoch (Check run' epoch' upto base ∷ rs) l = and_from _ _ (or_left _ _ (lt-ltb run' run (omega (arith, l)))) (above_later run epoch rs (omega (arith, l)))

pub above_next : (run own epoch : ℕ) (log : List LogRecord) → greatest_run log ≤ run → greatest_epoch run own log < epoch → above_restarts run epoch log ≡ true
above_next run own epoch [] l m = refl
above_next run own epoch (Restart r e ∷ rs) l m = and_from _ _ (at (nat_lt r run) refl) (above_next run (cond (r == run) (max own e) own) epoch rs (omega (arith, l)) m)
  where
    at : (b : Bool) → nat_lt r run ≡ b → (b || ((r == run) && nat_lt e epoch)) ≡ true
    at true f = refl
    at false f =
        let same : r ≡ run = omega (arith, l, ltb-false r run f) in
        let own_less = epoch_own run (cond (r == run) (max own e) own) rs in
        let big : e ≤ cond (r == run) (max own e) own = subst (λ b. e ≤ cond b (max own e) own) (sym (eq-eqb r run same)) (omega arith) in
        and_from _ _ (eq-eqb r run same) (lt-ltb e epoch (omega (arith, big, own_less, m)))
above_next run own epoch (Update tx k b a ∷ rs) l m = above_next run own epoch rs l m
above_next run own epoch (Clr tx u k a ∷ rs) l m = above_next run own epoch rs l m
above_next run own epoch (Prepare tx home ps ∷ rs) l m = above_next run own epoch rs l m
above_next run own epoch (Commit tx parts ∷ rs) l m = above_next run own epoch rs l m
above_next run own epoch (Abort tx ∷ rs) l m = above_next run own epoch rs l m
above_next run own epoch (End tx ∷ rs) l m = above_next run own epoch rs l m
above_next run own epoch (Add tx k by ∷ rs) l m = above_next run own epoch rs l m
above_next run own epoch (Unadd tx u k by ∷ rs) l m = above_next run own epoch rs l m
above_next run own epoch (Forgotten ∷ rs) l m = above_next run own epoch rs l m
above_next run own epoch (Check run' epoch' upto base ∷ rs) l m = and_from _ _ (at (nat_lt run' run) refl) (above_next run (cond (run' == run) (max own epoch') own) epoch rs (omega (arith, l)) m)
  where
    at : (b : Bool) → nat_lt run' run ≡ b → (b || ((run' == run) && nat_lt epoch' epoch)) ≡ true
    at true f = refl
    at false f =
        let same : run' ≡ run = omega (arith, l, ltb-false run' run f) in
        let own_less = epoch_own run (cond (run' == run) (max own epoch') own) rs in
        let big : epoch' ≤ cond (run' == run) (max own epoch') own = subst (λ b. epoch' ≤ cond b (max own epoch') own) (sym (eq-eqb run' run same)) (omega arith) in
        and_from _ _ (eq-eqb run' run same) (lt-ltb epoch' epoch (omega (arith, big, own_less, m)))

pub above_push : (run epoch : ℕ) (log : List LogRecord) (r : LogRecord) → Plainly r → above_restarts run epoch (log ++ r ∷ []) ≡ above_restarts run epoch log
above_push run epoch [] (Update tx k b a) p = refl
above_push run epoch [] (Clr tx u k a) p = refl
above_push run epoch [] (Prepare tx home ps) p = refl
above_push run epoch [] (Commit tx parts) p = refl
above_push run epoch [] (Abort tx) p = refl
above_push run epoch [] (End tx) p = refl
above_push run epoch [] (Restart r e) p = absurd p
above_push run epoch (Restart r e ∷ rs) q p = ap (λ b. (nat_lt r run || ((r == run) && nat_lt e epoch)) && b) (above_push run epoch rs q p)
above_push run epoch (Update tx k b a ∷ rs) q p = above_push run epoch rs q p
above_push run epoch (Clr tx u k a ∷ rs) q p = above_push run epoch rs q p
above_push run epoch (Prepare tx home ps ∷ rs) q p = above_push run epoch rs q p
above_push run epoch (Commit tx parts ∷ rs) q p = above_push run epoch rs q p
above_push run epoch (Abort tx ∷ rs) q p = above_push run epoch rs q p
above_push run epoch (End tx ∷ rs) q p = above_push run epoch rs q p
above_push run epoch [] (Add tx k by) p = refl
above_push run epoch (Add tx k by ∷ rs) q p = above_push run epoch rs q p
above_push run epoch [] (Unadd tx u k by) p = refl
above_push run epoch (Unadd tx u k by ∷ rs) q p = above_push run epoch rs q p
above_push run epoch [] Forgotten p = refl
above_push run epoch [] (Check run' epoch' upto base) p = absurd p
above_push run epoch (Forgotten ∷ rs) q p = above_push run epoch rs q p
above_push run epoch (Check run' epoch' upto base ∷ rs) q p = ap (λ b. (nat_lt run' run || ((run' == run) && nat_lt epoch' epoch)) && b) (above_push run epoch rs q p)
