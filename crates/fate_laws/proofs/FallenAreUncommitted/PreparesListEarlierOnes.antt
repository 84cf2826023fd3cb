-- Each PREPARE of a log is its transaction's only one, and lists ones that were prepared or committed before it, or that a checkpoint let go; these
-- have no PREPARE.
use Rattle.std.proofs.Common.{◌≡◌, ◌⊎◌, inl, inr, ⊎_elim, refl, sym, subst, ◌∙◌, ℕ, true, false, cond, not, Bool, ◌&&◌, ◌||◌, ◌==◌, List, [], ◌∷◌, ◌++◌, map, take, Some, None, append_assoc, append-nil, eqb-true, eq-eqb, take-append-drop}
use Rattle.std.specs.Prelude.{⊤, drop}
use Rattle.std.specs.List.{filter, list_all}
use Rattle.std.proofs.lemmas.Bool.{both_ways, and_parts, or_cases, or_left, or_right, or_from, not-true, false_from_ne_true, or_parts}
use Rattle.clv_base.specs.declared.names.TxId.{TxId}
use Rattle.clv_base.specs.declared.logs.LogRecord.{LogRecord}
use Rattle.clv_base.specs.declared.logs.LogRecord.TheVariants.{Update, Clr, Prepare, Commit, Abort, End, Restart, Add, Unadd, Forgotten, Check}
use Rattle.clv_base.specs.declared.changes.Change.{Change}
use Rattle.clv_base.specs.declared.changes.Change.TheVariants.{Sets, Adds}
use Rattle.clv_base.specs.Orders.{tx_same, tx_in, tx_insert}
use Rattle.clv_base.specs.Logs.{StandingUpdate, standing, committed_in, prepared_in, aborted_in, is_prepare_of, prepare_of, doubt_by, in_doubt_from, in_doubt}
use Rattle.clv_base.specs.LogRules.{part_of, disorder}
use Rattle.clv_base.specs.State.{Shard}
use Rattle.clv_base.specs.Undo.{clrs_by, clrs_of, is_of, newest_lsn, compensation}
use Rattle.clv_base.specs.Restarts.{restart_records, undo_records, log_after_restart, losers, next_epoch, FailedRestarts, Restarts, untouched, failed_first}
use Rattle.clv_base.proofs.SameNames.{tx_true, tx_self, in_insert, insert_keeps, insert_has}
use Rattle.law_base.proofs.Changed.{none_some, some_same}
use Rattle.law_base.proofs.Doubts.{stays_in}
use Rattle.history_laws.proofs.NeverTakenBack.LaterHistoriesHoldMembers.{committed_front}
use Rattle.shard_laws.proofs.Keeping.ChangesKeepPrepared.{prepared_append}
use Rattle.law_base.specs.Coming.{is_let_go, may_come_listed, may_come, AllCome}
use Rattle.law_base.proofs.Bools.{and_first as front_of, and_second as last_of}
use Rattle.law_base.proofs.InOrder.{all_append, listed_of, through}
use Rattle.law_base.proofs.LetGo.{let_go_unprepared}
use Rattle.law_base.proofs.Parts.{in_order_comes}
use Rattle.law_base.proofs.Sets.{list_all_at}

-- whom a PREPARE may list: prepared or committed, or let go
abbrev pub MayList : List LogRecord → List LogRecord → TxId → Type 0
MayList part log t = (prepared_in log t ≡ true) ⊎ ((committed_in log t ≡ true) ⊎ (is_let_go part t ≡ true))

abbrev pub Fronts : List LogRecord → List LogRecord → LogRecord → Type 0
Fronts part front (Prepare tx home ps) = (prepared_in front tx ≡ false) × (is_let_go part tx ≡ false) × ((q : TxId) → tx_in q ps ≡ true → MayList part front q)
Fronts part front (Update tx key before after) = ⊤
Fronts part front (Clr tx next key after) = ⊤
Fronts part front (Commit tx parts) = ⊤
Fronts part front (Abort tx) = ⊤
Fronts part front (End tx) = ⊤
Fronts part front (Restart run epoch) = ⊤
Fronts part front (Add tx key by) = ⊤
Fronts part front (Unadd tx next key by) = ⊤
Fronts part front Forgotten = ⊤
Fronts part front (Check run' epoch' upto base) = ⊤

abbrev pub Ahead : List LogRecord → List LogRecord → List LogRecord → Type 0
Ahead part front [] = ⊤
Ahead part front (r ∷ rs) = Fronts part front r × Ahead part (front ++ r ∷ []) rs

-- ---- longer logs, and fronts

pub ahead_append : (part front xs ys : List LogRecord) → Ahead part front xs → Ahead part (front ++ xs) ys → Ahead part front (xs ++ ys)
ahead_append part front [] ys a b = subst (λ l. Ahead part l ys) (append-nil front) b
ahead_append part front (x ∷ xs) ys a b = (a.0, ahead_append part (front ++ x ∷ []) xs ys a.1 (subst (λ l. Ahead part l ys) (sym (append_assoc front (x ∷ []) xs)) b))

pub ahead_front : (part front xs ys : List LogRecord) → Ahead part front (xs ++ ys) → Ahead part front xs
ahead_front part front [] ys a = tt
ahead_front part front (x ∷ xs) ys a = (a.0, ahead_front part (front ++ x ∷ []) xs ys a.1)

pub ahead_take : (part : List LogRecord) (n : ℕ) (log : List LogRecord) → Ahead part [] log → Ahead part [] (take n log)
ahead_take part n log a = ahead_front part [] (take n log) (drop n log) (subst (Ahead part []) (sym (take-append-drop n log)) a)

-- ---- records that are no PREPAREs

pub aborts_ahead : (part front : List LogRecord) (ts : List TxId) → Ahead part front (map (λ t. Abort t) ts)
aborts_ahead part front [] = tt
aborts_ahead part front (t ∷ ts) = (tt, aborts_ahead part (front ++ Abort t ∷ []) ts)

pub clrs_ahead : (part front : List LogRecord) (gone : StandingUpdate → Bool) (ws : List StandingUpdate) → Ahead part front (clrs_by gone ws)
clrs_ahead part front gone [] = tt
clrs_ahead part front gone (w ∷ ws) = at (gone w) w.change (clrs_ahead part (front ++ compensation w.tx (newest_lsn w.tx ws) w.key w.change ∷ []) gone ws) (clrs_ahead part front gone ws)
  where
    at : (b : Bool) (c : Change) → Ahead part (front ++ compensation w.tx (newest_lsn w.tx ws) w.key c ∷ []) (clrs_by gone ws) → Ahead part front (clrs_by gone ws)
        → Ahead part front (cond b (compensation w.tx (newest_lsn w.tx ws) w.key c ∷ clrs_by gone ws) (clrs_by gone ws))
    at true (Sets before after) k l = (tt, k)
    at true (Adds by) k l = (tt, k)
    at false c k l = l

records_ahead : (part : List LogRecord) (shard : ℕ) (front log : List LogRecord) (run epoch : ℕ) → Ahead part front (restart_records shard log run epoch)
records_ahead part shard front log run epoch =
    let as_ = map (λ t. Abort t) (filter (λ t. not (aborted_in log t)) (losers shard log)) in
    let cs = clrs_of (losers shard log) (standing log) in
    ahead_append part front (undo_records shard log) (Restart run epoch ∷ []) (ahead_append part front as_ cs (aborts_ahead part front _) (clrs_ahead part (front ++ as_) (is_of (losers shard log)) (standing log))) (tt, tt)

pub whole_ahead : (part : List LogRecord) (shard : ℕ) (log : List LogRecord) (run epoch : ℕ) → Ahead part [] log → Ahead part [] (log_after_restart shard log run epoch)
whole_ahead part shard log run epoch a = ahead_append part [] log (restart_records shard log run epoch) a (records_ahead part shard log log run epoch)

failed_ahead : (part : List LogRecord) (s : Shard) (found left : List LogRecord) → FailedRestarts s found left → Ahead part [] found → Ahead part [] left
failed_ahead part s found _ (untouched) a = a
failed_ahead part s found left (failed_first n more) a =
    let rs = restart_records s.shard found s.run (next_epoch s found) in
    failed_ahead part s (found ++ take n rs) left more
    (ahead_append part [] found (take n rs) a (ahead_front part found (take n rs) (drop n rs) (subst (Ahead part found) (sym (take-append-drop n rs)) (records_ahead part s.shard found found s.run (next_epoch s found)))))

pub restarts_ahead : (part : List LogRecord) (s : Shard) (found : List LogRecord) (epoch : ℕ) (after : List LogRecord) → Restarts s found epoch after → Ahead part [] found → Ahead part [] after
restarts_ahead part s found epoch after (left, f, e, q) a = subst (Ahead part []) (sym q) (whole_ahead part s.shard left s.run epoch (failed_ahead part s found left f a))

-- ---- logs in order

comes_fronts : (shard : ℕ) (part front : List LogRecord) (r : LogRecord) → AllCome shard part front → may_come shard part front r ≡ true → Fronts part front r
comes_fronts shard part front (Prepare tx home ps) f m = (
  not-true _ (last_of _ _ (front_of _ _ (front_of _ _ (front_of _ _ (front_of _ _ m))))),
  false_from_ne_true _ (λ g. both_ways _ (let_go_unprepared shard part tx g (front ++ Prepare tx home ps ∷ []) (all_append shard part front (Prepare tx home ps ∷ []) f (m, tt))) own),
  (λ q i. ⊎_elim (λ p. inl p) (λ g. inr (inr g.0)) (listed_of part front tx q (list_all_at (may_come_listed part front tx) q ps (last_of _ _ (front_of _ _ m)) i))),
)
  where
    own : prepared_in (front ++ Prepare tx home ps ∷ []) tx ≡ true
    own = prepared_append front (Prepare tx home ps ∷ []) tx ∙ or_right (prepared_in front tx) _ (or_left (tx_same tx tx) false (tx_self tx))
comes_fronts shard part front (Update tx key before after) f m = tt
comes_fronts shard part front (Clr tx next key after) f m = tt
comes_fronts shard part front (Commit tx parts) f m = tt
comes_fronts shard part front (Abort tx) f m = tt
comes_fronts shard part front (End tx) f m = tt
comes_fronts shard part front (Restart run epoch) f m = tt
comes_fronts shard part front (Add tx key by) f m = tt
comes_fronts shard part front (Unadd tx next key by) f m = tt
comes_fronts shard part front Forgotten f m = tt
comes_fronts shard part front (Check run' epoch' upto base) f m = tt

pub order_ahead : (shard : ℕ) (log : List LogRecord) → disorder shard log ≡ None → Ahead (part_of log) [] log
order_ahead shard log d =
    through (Ahead (part_of log) []) shard (part_of log) (λ l r f a m. ahead_append (part_of log) [] l (r ∷ []) a (comes_fronts shard (part_of log) l r f m, tt)) log (in_order_comes shard log d) tt
    (λ run epoch upto base rises. (tt, tt))

-- ---- who is not in doubt

more_prepared : (front : List LogRecord) (r : LogRecord) (q : TxId) → prepared_in front q ≡ true → prepared_in (front ++ r ∷ []) q ≡ true
more_prepared front r q e = prepared_append front (r ∷ []) q ∙ or_left _ _ e

still_unprepared : (front : List LogRecord) (r : LogRecord) (q : TxId) → prepared_in front q ≡ false → is_prepare_of q r ≡ false → prepared_in (front ++ r ∷ []) q ≡ false
still_unprepared front r q e f = prepared_append front (r ∷ []) q ∙ at (prepared_in front q) (is_prepare_of q r) e f
  where
    at : (a b : Bool) → a ≡ false → b ≡ false → (a || (b || false)) ≡ false
    at true b e f = e
    at false true e f = f
    at false false e f = refl

-- it has its PREPARE, or gets none
abbrev pub Marked : List LogRecord → List LogRecord → TxId → Type 0
Marked part front q = (prepared_in front q ≡ true) ⊎ (is_let_go part q ≡ true)

more_marked : (part front : List LogRecord) (r : LogRecord) (q : TxId) → Marked part front q → Marked part (front ++ r ∷ []) q
more_marked part front r q (inl e) = inl (more_prepared front r q e)
more_marked part front r q (inr g) = inr g

marked_other : (part front : List LogRecord) (tx : TxId) (home : ℕ) (ps : List TxId) (q : TxId) → Fronts part front (Prepare tx home ps) → Marked part front q → q ≡ tx → ⊥
marked_other part front tx home ps q f (inl p) e = both_ways _ f.0 (subst (λ z. prepared_in front z ≡ true) e p)
marked_other part front tx home ps q f (inr g) e = both_ways _ f.1 (subst (λ z. is_let_go part z ≡ true) e g)

-- who is such before these records and comes out in doubt was it before
was_doubted : (log : List LogRecord) (shard : ℕ) (part front rs : List LogRecord) (sf : List TxId) (q : TxId) → Ahead part front rs → Marked part front q → tx_in q (in_doubt_from log shard rs sf) ≡ true → tx_in q sf ≡ true
was_doubted log shard part front [] sf q a p i = i
was_doubted log shard part front (Prepare tx home ps ∷ rs) sf q a p i =
    at (doubt_by log shard tx home ps sf) i (λ sf2 j. was_doubted log shard part (front ++ Prepare tx home ps ∷ []) rs sf2 q a.1 (more_marked part front (Prepare tx home ps) q p) j)
  where
    at : (b : Bool) → tx_in q (in_doubt_from log shard rs (cond b (tx_insert tx sf) sf)) ≡ true → ((sf2 : List TxId) → tx_in q (in_doubt_from log shard rs sf2) ≡ true → tx_in q sf2 ≡ true) → tx_in q sf ≡ true
    at true j rest = ⊎_elim (λ e. absurd (marked_other part front tx home ps q a.0 p e)) (λ k. k) (in_insert tx q sf (rest (tx_insert tx sf) j))
    at false j rest = rest sf j
was_doubted log shard part front (Update tx k b c ∷ rs) sf q a p i = was_doubted log shard part (front ++ Update tx k b c ∷ []) rs sf q a.1 (more_marked part front (Update tx k b c) q p) i
was_doubted log shard part front (Clr tx u k c ∷ rs) sf q a p i = was_doubted log shard part (front ++ Clr tx u k c ∷ []) rs sf q a.1 (more_marked part front (Clr tx u k c) q p) i
was_doubted log shard part front (Commit tx ps ∷ rs) sf q a p i = was_doubted log shard part (front ++ Commit tx ps ∷ []) rs sf q a.1 (more_marked part front (Commit tx ps) q p) i
was_doubted log shard part front (Abort tx ∷ rs) sf q a p i = was_doubted log shard part (front ++ Abort tx ∷ []) rs sf q a.1 (more_marked part front (Abort tx) q p) i
was_doubted log shard part front (End tx ∷ rs) sf q a p i = was_doubted log shard part (front ++ End tx ∷ []) rs sf q a.1 (more_marked part front (End tx) q p) i
was_doubted log shard part front (Restart run epoch ∷ rs) sf q a p i = was_doubted log shard part (front ++ Restart run epoch ∷ []) rs sf q a.1 (more_marked part front (Restart run epoch) q p) i
was_doubted log shard part front (Add tx k by ∷ rs) sf q a p i = was_doubted log shard part (front ++ Add tx k by ∷ []) rs sf q a.1 (more_marked part front (Add tx k by) q p) i
was_doubted log shard part front (Unadd tx u k by ∷ rs) sf q a p i = was_doubted log shard part (front ++ Unadd tx u k by ∷ []) rs sf q a.1 (more_marked part front (Unadd tx u k by) q p) i
was_doubted log shard part front (Forgotten ∷ rs) sf q a p i = was_doubted log shard part (front ++ Forgotten ∷ []) rs sf q a.1 (more_marked part front Forgotten q p) i
was_doubted log shard part front (Check run' epoch' upto base ∷ rs) sf q a p i = was_doubted log shard part (front ++ Check run' epoch' upto base ∷ []) rs sf q a.1 (more_marked part front (Check run' epoch' upto base) q p) i

-- why a prepared one that isn't committed is not in doubt: it was aborted, or this is its home, or it lists one that is neither
abbrev pub Why : List LogRecord → ℕ → List TxId → TxId → ℕ × List TxId → Type 0
Why log shard doubt t p = (aborted_in log t ≡ true) ⊎ ((p.0 ≡ shard) ⊎ ((q : TxId) × (tx_in q p.1 ≡ true) × (committed_in log q ≡ false) × (tx_in q doubt ≡ false)))

some_fails : (f : TxId → Bool) (ps : List TxId) → list_all f ps ≡ false → (q : TxId) × (tx_in q ps ≡ true) × (f q ≡ false)
some_fails f [] e = absurd (both_ways true e refl)
some_fails f (p ∷ ps) e = at (f p) refl e (some_fails f ps)
  where
    at : (b : Bool) → f p ≡ b → (b && list_all f ps) ≡ false → (list_all f ps ≡ false → (q : TxId) × (tx_in q ps ≡ true) × (f q ≡ false)) → (q : TxId) × (tx_in q (p ∷ ps) ≡ true) × (f q ≡ false)
    at true g e k = let z = k e in (z.0, or_right (tx_same p z.0) (tx_in z.0 ps) z.1, z.2)
    at false g e k = (p, or_left (tx_same p p) (tx_in p ps) (tx_self p), g)

no_doubt : (log : List LogRecord) (shard : ℕ) (t : TxId) (home : ℕ) (ps sf : List TxId) → doubt_by log shard t home ps sf ≡ false → committed_in log t ≡ false
    → (aborted_in log t ≡ true) ⊎ ((home ≡ shard) ⊎ ((q : TxId) × (tx_in q ps ≡ true) × ((committed_in log q || tx_in q sf) ≡ false)))
no_doubt log shard t home ps sf d c = at (shard == home) (committed_in log t) (aborted_in log t) (list_all (λ p. committed_in log p || tx_in p sf) ps) refl c refl refl d
  where
    at : (h k a l : Bool) → (shard == home) ≡ h → k ≡ false → aborted_in log t ≡ a → list_all (λ p. committed_in log p || tx_in p sf) ps ≡ l → (not h && not k && not a && l) ≡ false
        → (aborted_in log t ≡ true) ⊎ ((home ≡ shard) ⊎ ((q : TxId) × (tx_in q ps ≡ true) × ((committed_in log q || tx_in q sf) ≡ false)))
    at true k a l e f g m d = inr (inl (sym (eqb-true shard home e)))
    at false true a l e f g m d = absurd (both_ways true f refl)
    at false false true l e f g m d = inl g
    at false false false true e f g m d = absurd (both_ways true d refl)
    at false false false false e f g m d = inr (inr (some_fails (λ p. committed_in log p || tx_in p sf) ps m))

pub behind : (log : List LogRecord) (shard : ℕ) (part front rs : List LogRecord) (sf : List TxId) (t : TxId) (p : ℕ × List TxId) → front ++ rs ≡ log → Ahead part front rs → prepared_in front t ≡ false → prepare_of rs t ≡ Some p
    → tx_in t (in_doubt_from log shard rs sf) ≡ false → committed_in log t ≡ false → Why log shard (in_doubt_from log shard rs sf) t p
behind log shard part front [] sf t p e a u h n c = absurd (none_some p h)
behind log shard part front (Prepare tx home ps ∷ rs) sf t p e a u h n c =
    at (tx_same t tx) (doubt_by log shard tx home ps sf) refl refl h n
    (λ sf2 f h n. behind log shard part (front ++ Prepare tx home ps ∷ []) rs sf2 t p (append_assoc front (Prepare tx home ps ∷ []) rs ∙ e) a.1 (still_unprepared front (Prepare tx home ps) t u f) h n c)
  where
    new : List LogRecord
    new = front ++ Prepare tx home ps ∷ []

    listed : (q : TxId) → (tx_in q ps ≡ true) → ((committed_in log q || tx_in q sf) ≡ false) → (committed_in log q ≡ false) × (tx_in q (in_doubt_from log shard rs sf) ≡ false)
    listed q i f =
        let g = or_parts (committed_in log q) (tx_in q sf) f in (
          g.0,
          false_from_ne_true _ (λ j. ⊎_elim
              (λ k. both_ways _ g.1 (was_doubted log shard part new rs sf q a.1 (inl (more_prepared front (Prepare tx home ps) q k)) j))
              (λ k. ⊎_elim (λ c. both_ways _ g.0 (committed_front front log q (Prepare tx home ps ∷ rs, e) c)) (λ o. both_ways _ g.1 (was_doubted log shard part new rs sf q a.1 (inr o) j)) k)
              ((a.0).2 q i)),
        )

    own : t ≡ tx → doubt_by log shard tx home ps sf ≡ false → Some (home, ps) ≡ Some p → Why log shard (in_doubt_from log shard rs sf) t p
    own s d f =
        let g : (home, ps) ≡ p = some_same (home, ps) p f in
        subst (Why log shard (in_doubt_from log shard rs sf) t) g
        (⊎_elim (λ k. inl k) (λ k. inr (⊎_elim (λ z. inl z) (λ z. let g = listed z.0 z.1 z.2 in inr (z.0, z.1, g.0, g.1)) k))
        (no_doubt log shard t home ps sf (subst (λ z. doubt_by log shard z home ps sf ≡ false) (sym s) d) c))

    at : (b d : Bool) → tx_same t tx ≡ b → doubt_by log shard tx home ps sf ≡ d → cond b (Some (home, ps)) (prepare_of rs t) ≡ Some p → tx_in t (in_doubt_from log shard rs (cond d (tx_insert tx sf) sf)) ≡ false
        → ((sf2 : List TxId) → tx_same t tx ≡ false → prepare_of rs t ≡ Some p → tx_in t (in_doubt_from log shard rs sf2) ≡ false → Why log shard (in_doubt_from log shard rs sf2) t p)
        → Why log shard (in_doubt_from log shard rs (cond d (tx_insert tx sf) sf)) t p
    at true true f d h n k =
        absurd (both_ways _ n (stays_in log shard rs (tx_insert tx sf) t (subst (λ z. tx_in t (tx_insert z sf) ≡ true) (tx_true t tx f) (own_in t sf))))
      where
        own_in : (t : TxId) (xs : List TxId) → tx_in t (tx_insert t xs) ≡ true
        own_in t xs = insert_has t xs
    at true false f d h n k = own (tx_true t tx f) d h
    at false d f g h n k = k (cond d (tx_insert tx sf) sf) f h n
behind log shard part front (Update tx k b x ∷ rs) sf t p e a u h n c = behind log shard part (front ++ Update tx k b x ∷ []) rs sf t p (append_assoc front (Update tx k b x ∷ []) rs ∙ e) a.1 (still_unprepared front (Update tx k b x) t u refl) h n c
behind log shard part front (Clr tx v k x ∷ rs) sf t p e a u h n c = behind log shard part (front ++ Clr tx v k x ∷ []) rs sf t p (append_assoc front (Clr tx v k x ∷ []) rs ∙ e) a.1 (still_unprepared front (Clr tx v k x) t u refl) h n c
behind log shard part front (Commit tx ps ∷ rs) sf t p e a u h n c = behind log shard part (front ++ Commit tx ps ∷ []) rs sf t p (append_assoc front (Commit tx ps ∷ []) rs ∙ e) a.1 (still_unprepared front (Commit tx ps) t u refl) h n c
behind log shard part front (Abort tx ∷ rs) sf t p e a u h n c = behind log shard part (front ++ Abort tx ∷ []) rs sf t p (append_assoc front (Abort tx ∷ []) rs ∙ e) a.1 (still_unprepared front (Abort tx) t u refl) h n c
behind log shard part front (End tx ∷ rs) sf t p e a u h n c = behind log shard part (front ++ End tx ∷ []) rs sf t p (append_assoc front (End tx ∷ []) rs ∙ e) a.1 (still_unprepared front (End tx) t u refl) h n c
behind log shard part front (Restart run epoch ∷ rs) sf t p e a u h n c =
    behind log shard part (front ++ Restart run epoch ∷ []) rs sf t p (append_assoc front (Restart run epoch ∷ []) rs ∙ e) a.1 (still_unprepared front (Restart run epoch) t u refl) h n c
behind log shard part front (Add tx k by ∷ rs) sf t p e a u h n c = behind log shard part (front ++ Add tx k by ∷ []) rs sf t p (append_assoc front (Add tx k by ∷ []) rs ∙ e) a.1 (still_unprepared front (Add tx k by) t u refl) h n c
behind log shard part front (Unadd tx v k by ∷ rs) sf t p e a u h n c = behind log shard part (front ++ Unadd tx v k by ∷ []) rs sf t p (append_assoc front (Unadd tx v k by ∷ []) rs ∙ e) a.1 (still_unprepared front (Unadd tx v k by) t u refl) h n c
behind log shard part front (Forgotten ∷ rs) sf t p e a u h n c = behind log shard part (front ++ Forgotten ∷ []) rs sf t p (append_assoc front (Forgotten ∷ []) rs ∙ e) a.1 (still_unprepared front Forgotten t u refl) h n c
behind log shard part front (Check run' epoch' upto base ∷ rs) sf t p e a u h n c = behind log shard part (front ++ Check run' epoch' upto base ∷ []) rs sf t p (append_assoc front (Check run' epoch' upto base ∷ []) rs ∙ e) a.1 (still_unprepared front (Check run' epoch' upto base) t u refl) h n c

-- in a whole log
pub not_in_doubt : (shard : ℕ) (part log : List LogRecord) (t : TxId) (p : ℕ × List TxId) → Ahead part [] log → prepare_of log t ≡ Some p → tx_in t (in_doubt shard log) ≡ false → committed_in log t ≡ false → Why log shard (in_doubt shard log) t p
not_in_doubt shard part log t p a h n c = behind log shard part [] log [] t p refl a refl h n c

-- whom a PREPARE lists
pub listed_front : (part log front rs : List LogRecord) (t q : TxId) (p : ℕ × List TxId) → front ++ rs ≡ log → Ahead part front rs → prepare_of rs t ≡ Some p → tx_in q p.1 ≡ true → MayList part log q
listed_front part log front [] t q p e a h i = absurd (none_some p h)
listed_front part log front (Prepare tx home ps ∷ rs) t q p e a h i =
    at (tx_same t tx) h (λ f. listed_front part log (front ++ Prepare tx home ps ∷ []) rs t q p (append_assoc front (Prepare tx home ps ∷ []) rs ∙ e) a.1 f i)
  where
    own : (q : TxId) → tx_in q ps ≡ true → MayList part log q
    own q j = ⊎_elim (λ k. inl (subst (λ l. prepared_in l q ≡ true) e (prepared_append front (Prepare tx home ps ∷ rs) q ∙ or_left _ _ k))) (λ k. inr (⊎_elim (λ c. inl (committed_front front log q (Prepare tx home ps ∷ rs, e) c)) (λ o. inr o) k)) ((a.0).2 q j)

    at : (b : Bool) → cond b (Some (home, ps)) (prepare_of rs t) ≡ Some p → (prepare_of rs t ≡ Some p → MayList part log q) → MayList part log q
    at true f k = own q (subst (λ (z : ℕ × List TxId). tx_in q z.1 ≡ true) (sym (some_same (home, ps) p f)) i)
    at false f k = k f
listed_front part log front (Update tx k b x ∷ rs) t q p e a h i = listed_front part log (front ++ Update tx k b x ∷ []) rs t q p (append_assoc front (Update tx k b x ∷ []) rs ∙ e) a.1 h i
listed_front part log front (Clr tx v k x ∷ rs) t q p e a h i = listed_front part log (front ++ Clr tx v k x ∷ []) rs t q p (append_assoc front (Clr tx v k x ∷ []) rs ∙ e) a.1 h i
listed_front part log front (Commit tx ps ∷ rs) t q p e a h i = listed_front part log (front ++ Commit tx ps ∷ []) rs t q p (append_assoc front (Commit tx ps ∷ []) rs ∙ e) a.1 h i
listed_front part log front (Abort tx ∷ rs) t q p e a h i = listed_front part log (front ++ Abort tx ∷ []) rs t q p (append_assoc front (Abort tx ∷ []) rs ∙ e) a.1 h i
listed_front part log front (End tx ∷ rs) t q p e a h i = listed_front part log (front ++ End tx ∷ []) rs t q p (append_assoc front (End tx ∷ []) rs ∙ e) a.1 h i
listed_front part log front (Restart run epoch ∷ rs) t q p e a h i = listed_front part log (front ++ Restart run epoch ∷ []) rs t q p (append_assoc front (Restart run epoch ∷ []) rs ∙ e) a.1 h i
listed_front part log front (Add tx k by ∷ rs) t q p e a h i = listed_front part log (front ++ Add tx k by ∷ []) rs t q p (append_assoc front (Add tx k by ∷ []) rs ∙ e) a.1 h i
listed_front part log front (Unadd tx v k by ∷ rs) t q p e a h i = listed_front part log (front ++ Unadd tx v k by ∷ []) rs t q p (append_assoc front (Unadd tx v k by ∷ []) rs ∙ e) a.1 h i
listed_front part log front (Forgotten ∷ rs) t q p e a h i = listed_front part log (front ++ Forgotten ∷ []) rs t q p (append_assoc front (Forgotten ∷ []) rs ∙ e) a.1 h i
listed_front part log front (Check run' epoch' upto base ∷ rs) t q p e a h i = listed_front part log (front ++ Check run' epoch' upto base ∷ []) rs t q p (append_assoc front (Check run' epoch' upto base ∷ []) rs ∙ e) a.1 h i

-- who is in doubt has its home elsewhere, and whom its PREPARE lists is committed or in doubt
abbrev pub Abroad : List LogRecord → ℕ → List TxId → ℕ × List TxId → Type 0
Abroad log shard doubt p = (p.0 ≡ shard → ⊥) × ((q : TxId) → tx_in q p.1 ≡ true → committed_in log q ≡ false → tx_in q doubt ≡ true)

abroad : (log : List LogRecord) (shard : ℕ) (part front rs : List LogRecord) (sf : List TxId) (t : TxId) (p : ℕ × List TxId) → Ahead part front rs → prepared_in front t ≡ false → prepare_of rs t ≡ Some p → tx_in t sf ≡ false
    → tx_in t (in_doubt_from log shard rs sf) ≡ true → Abroad log shard (in_doubt_from log shard rs sf) p
abroad log shard part front [] sf t p a u h n i = absurd (none_some p h)
abroad log shard part front (Prepare tx home ps ∷ rs) sf t p a u h n i =
    at (tx_same t tx) (doubt_by log shard tx home ps sf) refl refl h i
    (λ sf2 f h m j. abroad log shard part (front ++ Prepare tx home ps ∷ []) rs sf2 t p a.1 (still_unprepared front (Prepare tx home ps) t u f) h m j)
  where
    here : doubt_by log shard tx home ps sf ≡ true → Some (home, ps) ≡ Some p → Abroad log shard (in_doubt_from log shard rs (tx_insert tx sf)) p
    here d f =
        let g = and_parts (not (shard == home) && not (committed_in log tx) && not (aborted_in log tx)) (list_all (λ q. committed_in log q || tx_in q sf) ps) d in
        let k = and_parts (not (shard == home) && not (committed_in log tx)) (not (aborted_in log tx)) g.0 in
        let m = and_parts (not (shard == home)) (not (committed_in log tx)) k.0 in
        subst (Abroad log shard (in_doubt_from log shard rs (tx_insert tx sf))) (some_same (home, ps) p f) (
          (λ z. both_ways _ (not-true _ m.0) (eq-eqb shard home (sym z))),
          (λ q i c. ⊎_elim (λ b. absurd (both_ways _ c b)) (λ b. stays_in log shard rs (tx_insert tx sf) q (insert_keeps tx q sf b))
              (or_cases (committed_in log q) (tx_in q sf) (list_all_at (λ q. committed_in log q || tx_in q sf) q ps g.1 i))),
        )

    not_yet : tx_same t tx ≡ false → (d : Bool) → tx_in t (cond d (tx_insert tx sf) sf) ≡ false
    not_yet f true = false_from_ne_true _ (λ j. ⊎_elim (λ e. both_ways _ f (subst (λ z. tx_same t z ≡ true) e (tx_self t))) (λ e. both_ways _ n e) (in_insert tx t sf j))
    not_yet f false = n

    at : (b d : Bool) → tx_same t tx ≡ b → doubt_by log shard tx home ps sf ≡ d → cond b (Some (home, ps)) (prepare_of rs t) ≡ Some p → tx_in t (in_doubt_from log shard rs (cond d (tx_insert tx sf) sf)) ≡ true
        → ((sf2 : List TxId) → tx_same t tx ≡ false → prepare_of rs t ≡ Some p → tx_in t sf2 ≡ false → tx_in t (in_doubt_from log shard rs sf2) ≡ true → Abroad log shard (in_doubt_from log shard rs sf2) p)
        → Abroad log shard (in_doubt_from log shard rs (cond d (tx_insert tx sf) sf)) p
    at true true f d h i k = here d h
    at true false f d h i k =
        absurd (both_ways _ n (was_doubted log shard part (front ++ Prepare tx home ps ∷ []) rs sf t a.1 (inl (prepared_append front (Prepare tx home ps ∷ []) t ∙ or_right (prepared_in front t) _ (or_left (tx_same t tx) false f))) i))
    at false d f g h i k = k (cond d (tx_insert tx sf) sf) f h (not_yet f d) i
abroad log shard part front (Update tx k b x ∷ rs) sf t p a u h n i = abroad log shard part (front ++ Update tx k b x ∷ []) rs sf t p a.1 (still_unprepared front (Update tx k b x) t u refl) h n i
abroad log shard part front (Clr tx v k x ∷ rs) sf t p a u h n i = abroad log shard part (front ++ Clr tx v k x ∷ []) rs sf t p a.1 (still_unprepared front (Clr tx v k x) t u refl) h n i
abroad log shard part front (Commit tx ps ∷ rs) sf t p a u h n i = abroad log shard part (front ++ Commit tx ps ∷ []) rs sf t p a.1 (still_unprepared front (Commit tx ps) t u refl) h n i
abroad log shard part front (Abort tx ∷ rs) sf t p a u h n i = abroad log shard part (front ++ Abort tx ∷ []) rs sf t p a.1 (still_unprepared front (Abort tx) t u refl) h n i
abroad log shard part front (End tx ∷ rs) sf t p a u h n i = abroad log shard part (front ++ End tx ∷ []) rs sf t p a.1 (still_unprepared front (End tx) t u refl) h n i
abroad log shard part front (Restart run epoch ∷ rs) sf t p a u h n i = abroad log shard part (front ++ Restart run epoch ∷ []) rs sf t p a.1 (still_unprepared front (Restart run epoch) t u refl) h n i
abroad log shard part front (Add tx k by ∷ rs) sf t p a u h n i = abroad log shard part (front ++ Add tx k by ∷ []) rs sf t p a.1 (still_unprepared front (Add tx k by) t u refl) h n i
abroad log shard part front (Unadd tx v k by ∷ rs) sf t p a u h n i = abroad log shard part (front ++ Unadd tx v k by ∷ []) rs sf t p a.1 (still_unprepared front (Unadd tx v k by) t u refl) h n i
abroad log shard part front (Forgotten ∷ rs) sf t p a u h n i = abroad log shard part (front ++ Forgotten ∷ []) rs sf t p a.1 (still_unprepared front Forgotten t u refl) h n i
abroad log shard part front (Check run' epoch' upto base ∷ rs) sf t p a u h n i = abroad log shard part (front ++ Check run' epoch' upto base ∷ []) rs sf t p a.1 (still_unprepared front (Check run' epoch' upto base) t u refl) h n i

pub doubt_abroad : (shard : ℕ) (part log : List LogRecord) (t : TxId) (p : ℕ × List TxId) → Ahead part [] log → prepare_of log t ≡ Some p → tx_in t (in_doubt shard log) ≡ true → Abroad log shard (in_doubt shard log) p
doubt_abroad shard part log t p a h i = abroad log shard part [] log [] t p a refl h refl i

pub home_elsewhere : (shard : ℕ) (part log : List LogRecord) (t : TxId) (p : ℕ × List TxId) → Ahead part [] log → prepare_of log t ≡ Some p → tx_in t (in_doubt shard log) ≡ true → p.0 ≡ shard → ⊥
home_elsewhere shard part log t p a h i = (doubt_abroad shard part log t p a h i).0

-- one that was let go has no PREPARE
pub gone_unprepared : (part front rs : List LogRecord) (t : TxId) → Ahead part front rs → is_let_go part t ≡ true → prepared_in rs t ≡ false
gone_unprepared part front [] t a g = refl
gone_unprepared part front (Prepare tx home ps ∷ rs) t a g =
    or_from (tx_same t tx) (prepared_in rs t) (false_from_ne_true _ (λ s. both_ways _ (a.0).1 (subst (λ z. is_let_go part z ≡ true) (tx_true t tx s) g))) (gone_unprepared part (front ++ Prepare tx home ps ∷ []) rs t a.1 g)
gone_unprepared part front (r ∷ rs) t a g = gone_unprepared part (front ++ r ∷ []) rs t a.1 g
