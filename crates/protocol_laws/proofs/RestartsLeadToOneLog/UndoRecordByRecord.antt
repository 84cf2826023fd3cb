-- The first record of what a restart would write, written: what is left to write are the others.
use Rattle.std.proofs.Common.{◌≡◌, ℕ, suc, Bool, true, false, cond, not, ◌&&◌, ◌||◌, List, [], ◌∷◌, ◌++◌, map, Option, ◌==◌, refl, sym, ap, subst, ◌∙◌}
use Rattle.std.specs.Prelude.{max}
use Rattle.std.specs.List.{AllByRecursion, filter}
use Rattle.std.proofs.lemmas.Bool.{both_ways, not-true, or_parts, cond-true, cond-false, false_from_ne_true}
use Rattle.std.proofs.Math.Bool.{or-false}
use Rattle.clv_base.specs.declared.names.TxId.{TxId}
use Rattle.clv_base.specs.declared.logs.LogRecord.{LogRecord}
use Rattle.clv_base.specs.declared.logs.LogRecord.TheVariants.{Update, Clr, Prepare, Commit, Abort, End, Restart, Add, Unadd, Forgotten, Check}
use Rattle.clv_base.specs.declared.changes.Change.{Change}
use Rattle.clv_base.specs.declared.changes.Change.TheVariants.{Sets, Adds}
use Rattle.clv_base.specs.Orders.{tx_same, tx_in}
use Rattle.clv_base.specs.Logs.{StandingUpdate, aborted_in, committed_in, standing, writers, without_newest, in_doubt, is_winner}
use Rattle.clv_base.specs.State.{Shard}
use Rattle.clv_base.specs.Undo.{compensation, clrs_of, newest_lsn}
use Rattle.clv_base.specs.Restarts.{losers, undo_records, greatest_epoch, next_epoch}
use Rattle.clv_base.proofs.SameNames.{or_left, tx_true, tx_self}
use Rattle.law_base.proofs.Sets.{Rise, writers_rise, without_first, filter_alike, filter_both, in_filter, filter_in, in_passes, none_pass, none_passed, writers_without, each_writer, filter_rises}
use Rattle.law_base.proofs.Doubts.{Unlike, is_it, nobody, abort_unlike, clr_unlike, unadd_unlike, restart_unlike, aborted_more, winners_more, standing_more}
use Rattle.law_base.proofs.Names.{other_name as other_writer}
use Rattle.std.specs.List.Sorted.{IsStrictlySortedBy}

-- the losers that have no ABORT
abbrev pub unaborted : ℕ → List LogRecord → List TxId
unaborted shard log = filter (λ t. not (aborted_in log t)) (losers shard log)

abbrev loses : ℕ → List LogRecord → TxId → Bool
loses shard log t = not (is_winner shard log t)

not_or : (a b : Bool) → not (a || b) ≡ (not a && not b)
not_or true b = refl
not_or false b = refl

-- ---- a record that undoes nothing

-- the losers are the same where what stands is, and nobody in doubt is aborted
losers_more : (g : TxId → Bool) (log : List LogRecord) (r : LogRecord) (shard : ℕ) (ws : List StandingUpdate) → Unlike g r → ((t : TxId) → tx_in t (in_doubt shard log) ≡ true → g t ≡ false)
    → standing (log ++ r ∷ []) ≡ ws → losers shard (log ++ r ∷ []) ≡ filter (loses shard log) (writers ws)
losers_more g log r shard ws u h e =
    ap (λ l. filter (loses shard (log ++ r ∷ [])) (writers l)) e
    ∙ filter_alike (loses shard (log ++ r ∷ [])) (loses shard log) (writers ws) (λ t. ap not (winners_more g log r shard t u h))

-- ---- an ABORT

loser_doubt : (shard : ℕ) (log : List LogRecord) (t : TxId) → tx_in t (losers shard log) ≡ true → tx_in t (in_doubt shard log) ≡ false
loser_doubt shard log t i = (or_parts (committed_in log t) (tx_in t (in_doubt shard log)) (not-true _ (in_filter (loses shard log) t (writers (standing log)) i).1)).1

spares : (shard : ℕ) (log : List LogRecord) (t : TxId) → tx_in t (losers shard log) ≡ true → (u : TxId) → tx_in u (in_doubt shard log) ≡ true → is_it t u ≡ false
spares shard log t i u h = false_from_ne_true _ (λ e. both_ways _ (loser_doubt shard log t i) (subst (λ x. tx_in x (in_doubt shard log) ≡ true) (tx_true u t e) h))

first_in : (shard : ℕ) (log : List LogRecord) (t : TxId) (ts : List TxId) → unaborted shard log ≡ t ∷ ts → tx_in t (losers shard log) ≡ true
first_in shard log t ts e = (in_filter (λ x. not (aborted_in log x)) t (losers shard log) (subst (λ l. tx_in t l ≡ true) (sym e) (or_left _ _ (tx_self t)))).0

rest_rises : (shard : ℕ) (log : List LogRecord) (t : TxId) (ts : List TxId) → unaborted shard log ≡ t ∷ ts → Rise (t ∷ ts)
rest_rises shard log t ts e = subst Rise e (filter_rises (λ x. not (aborted_in log x)) (losers shard log) (filter_rises (loses shard log) (writers (standing log)) (writers_rise (standing log))))

-- the ABORT of the first: the others stay
fewer : (shard : ℕ) (log : List LogRecord) (t : TxId) (ts : List TxId) → unaborted shard log ≡ t ∷ ts → losers shard (log ++ Abort t ∷ []) ≡ losers shard log → unaborted shard (log ++ Abort t ∷ []) ≡ ts
unfolding IsStrictlySortedBy
fewer shard log t ts e same =
    ap (λ l. filter (λ x. not (aborted_in (log ++ Abort t ∷ []) x)) l) same
    ∙ filter_alike (λ x. not (aborted_in (log ++ Abort t ∷ []) x)) (λ x. not (aborted_in log x) && not (tx_same x t)) (losers shard log)
    (λ x. ap not (aborted_more (is_it t) log (Abort t) x (abort_unlike t)) ∙ not_or (aborted_in log x) (tx_same x t))
    ∙ filter_both (λ x. not (aborted_in log x)) (λ x. not (tx_same x t)) (losers shard log)
    ∙ ap (filter (λ x. not (tx_same x t))) e
    ∙ ap (λ b. cond (not b) (t ∷ filter (λ x. not (tx_same x t)) ts) (filter (λ x. not (tx_same x t)) ts)) (tx_self t)
    ∙ without_first t ts (rest_rises shard log t ts e).0

pub after_abort : (shard : ℕ) (log : List LogRecord) (t : TxId) (ts : List TxId) → unaborted shard log ≡ t ∷ ts
    → undo_records shard (log ++ Abort t ∷ []) ≡ map (λ x. Abort x) ts ++ clrs_of (losers shard log) (standing log)
after_abort shard log t ts e =
    let stand : standing (log ++ Abort t ∷ []) ≡ standing log = standing_more log (Abort t) in
    let same : losers shard (log ++ Abort t ∷ []) ≡ losers shard log = losers_more (is_it t) log (Abort t) shard (standing log) (abort_unlike t) (spares shard log t (first_in shard log t ts e)) stand in
    ap (λ l. map (λ x. Abort x) l ++ clrs_of (losers shard (log ++ Abort t ∷ [])) (standing (log ++ Abort t ∷ []))) (fewer shard log t ts e same)
    ∙ ap (λ l. map (λ x. Abort x) ts ++ clrs_of l (standing (log ++ Abort t ∷ []))) same
    ∙ ap (λ l. map (λ x. Abort x) ts ++ clrs_of (losers shard log) l) stand

-- ---- a CLR or UNADD

-- the first of a set's writes, and those of what stands after it
abbrev pub FirstClr : List TxId → List StandingUpdate → LogRecord → List LogRecord → Type 0
FirstClr set ws c cs =
    (t : TxId) × (u : Option ℕ) × (k : ℕ) × (a : Change) × (c ≡ compensation t u k a) × (tx_in t set ≡ true) × (clrs_of set (without_newest t ws) ≡ cs)

abbrev clrs_if : Bool → List TxId → StandingUpdate → List StandingUpdate → List LogRecord
clrs_if b set w ws = cond b (compensation w.tx (newest_lsn w.tx ws) w.key w.change ∷ clrs_of set ws) (clrs_of set ws)

first_here : (set : List TxId) (w : StandingUpdate) (ws : List StandingUpdate) (c : LogRecord) (cs : List LogRecord) → tx_in w.tx set ≡ true
    → ◌≡◌ {A = List LogRecord} (compensation w.tx (newest_lsn w.tx ws) w.key w.change ∷ clrs_of set ws) (c ∷ cs) → FirstClr set (w ∷ ws) c cs
first_here set w ws c cs i e = (w.tx, newest_lsn w.tx ws, w.key, w.change, heads, i, ap (clrs_of set) (cond-true (tx_same w.tx w.tx) ws (w ∷ without_newest w.tx ws) (tx_self w.tx)) ∙ tails)
  where
    heads : c ≡ compensation w.tx (newest_lsn w.tx ws) w.key w.change
    heads = cc

    tails : clrs_of set ws ≡ cs
    tails = cc

first_later : (set : List TxId) (w : StandingUpdate) (ws : List StandingUpdate) (c : LogRecord) (cs : List LogRecord) → tx_in w.tx set ≡ false → FirstClr set ws c cs → FirstClr set (w ∷ ws) c cs
first_later set w ws c cs o (t, u, k, a, e, i, r) = (
  t,
  u,
  k,
  a,
  e,
  i,
  ap (clrs_of set) (cond-false (tx_same t w.tx) ws (w ∷ without_newest t ws) (other_writer set t w.tx i o))
      ∙ ap (λ b. clrs_if b set w (without_newest t ws)) o ∙ r,
)

pub first_clr : (set : List TxId) (ws : List StandingUpdate) (c : LogRecord) (cs : List LogRecord) → clrs_of set ws ≡ c ∷ cs → FirstClr set ws c cs
first_clr set [] c cs e = absurd cc
first_clr set (w ∷ ws) c cs e = at (tx_in w.tx set) refl e (first_clr set ws c cs)
  where
    at : (b : Bool) → tx_in w.tx set ≡ b → clrs_if b set w ws ≡ c ∷ cs → (clrs_of set ws ≡ c ∷ cs → FirstClr set ws c cs) → FirstClr set (w ∷ ws) c cs
    at true i h ih = first_here set w ws c cs i h
    at false i h ih = first_later set w ws c cs i (ih h)

-- CLRs of two sets that agree on the writers
clrs_alike : (xs ys : List TxId) (ws : List StandingUpdate) → AllByRecursion (λ w. tx_in w.tx xs ≡ tx_in w.tx ys) ws → clrs_of xs ws ≡ clrs_of ys ws
clrs_alike xs ys [] h = refl
clrs_alike xs ys (w ∷ ws) h =
    ap (λ l. cond (tx_in w.tx xs) (compensation w.tx (newest_lsn w.tx ws) w.key w.change ∷ l) l) (clrs_alike xs ys ws h.1)
    ∙ ap (λ b. clrs_if b ys w ws) h.0

-- each write has its writer among them
all_more : (P Q : StandingUpdate → Type 0) (ws : List StandingUpdate) → ((w : StandingUpdate) → P w → Q w) → AllByRecursion P ws → AllByRecursion Q ws
all_more P Q [] f h = tt
all_more P Q (w ∷ ws) f h = (f w h.0, all_more P Q ws f h.1)

same_losers : (shard : ℕ) (log : List LogRecord) (t : TxId) → AllByRecursion (λ w. tx_in w.tx (filter (loses shard log) (writers (without_newest t (standing log)))) ≡ tx_in w.tx (losers shard log)) (without_newest t (standing log))
same_losers shard log t =
    all_more _ _ (without_newest t (standing log))
    (λ w h. in_passes (loses shard log) w.tx (writers (without_newest t (standing log))) h
    ∙ sym (in_passes (loses shard log) w.tx (writers (standing log)) (writers_without t w.tx (standing log) h)))
    (each_writer (without_newest t (standing log)))

-- where all losers have their ABORTs, all that lose after a CLR have them
still_none : (shard : ℕ) (log : List LogRecord) (t u : TxId) → unaborted shard log ≡ [] → tx_in u (filter (loses shard log) (writers (without_newest t (standing log)))) ≡ true → not (aborted_in log u) ≡ false
still_none shard log t u none i =
    let p = in_filter (loses shard log) u (writers (without_newest t (standing log))) i in
    none_passed (λ x. not (aborted_in log x)) u (losers shard log) none (filter_in (loses shard log) u (writers (standing log)) (writers_without t u (standing log) p.0) p.1)

-- a record that takes the newest write of the transaction away, and nothing more
after_one : (shard : ℕ) (log : List LogRecord) (t : TxId) (r : LogRecord) → Unlike nobody r → standing (log ++ r ∷ []) ≡ without_newest t (standing log) → unaborted shard log ≡ []
    → undo_records shard (log ++ r ∷ []) ≡ clrs_of (losers shard log) (without_newest t (standing log))
after_one shard log t r unlike stand none =
    let fewer_lose : losers shard (log ++ r ∷ []) ≡ filter (loses shard log) (writers (without_newest t (standing log))) =
    losers_more nobody log r shard (without_newest t (standing log)) unlike (λ x i. refl) stand in
    let none_left : unaborted shard (log ++ r ∷ []) ≡ [] =
    ap (λ l. filter (λ x. not (aborted_in (log ++ r ∷ []) x)) l) fewer_lose
    ∙ filter_alike (λ x. not (aborted_in (log ++ r ∷ []) x)) (λ x. not (aborted_in log x)) (filter (loses shard log) (writers (without_newest t (standing log))))
    (λ x. ap not (aborted_more nobody log r x unlike ∙ or-false (aborted_in log x)))
    ∙ none_pass (λ x. not (aborted_in log x)) (filter (loses shard log) (writers (without_newest t (standing log)))) (λ x i. still_none shard log t x none i) in
    ap (λ l. map (λ x. Abort x) l ++ clrs_of (losers shard (log ++ r ∷ [])) (standing (log ++ r ∷ []))) none_left
    ∙ ap (λ l. clrs_of l (standing (log ++ r ∷ []))) fewer_lose
    ∙ ap (λ l. clrs_of (filter (loses shard log) (writers (without_newest t (standing log)))) l) stand
    ∙ clrs_alike (filter (loses shard log) (writers (without_newest t (standing log)))) (losers shard log) (without_newest t (standing log)) (same_losers shard log t)

pub after_clr : (shard : ℕ) (log : List LogRecord) (t : TxId) (u : Option ℕ) (k : ℕ) (a : Change) → unaborted shard log ≡ []
    → undo_records shard (log ++ compensation t u k a ∷ []) ≡ clrs_of (losers shard log) (without_newest t (standing log))
after_clr shard log t u k (Sets before after) none = after_one shard log t (Clr t u k before) (clr_unlike t u k before) (standing_more log (Clr t u k before)) none
after_clr shard log t u k (Adds by) none = after_one shard log t (Unadd t u k by) (unadd_unlike t u k by) (standing_more log (Unadd t u k by)) none

-- ---- a RESTART

pub after_restart : (shard : ℕ) (log : List LogRecord) (run epoch : ℕ) → undo_records shard (log ++ Restart run epoch ∷ []) ≡ undo_records shard log
after_restart shard log run epoch =
    let stand : standing (log ++ Restart run epoch ∷ []) ≡ standing log = standing_more log (Restart run epoch) in
    let same : losers shard (log ++ Restart run epoch ∷ []) ≡ losers shard log = losers_more nobody log (Restart run epoch) shard (standing log) (restart_unlike run epoch) (λ x i. refl) stand in
    let same_open : unaborted shard (log ++ Restart run epoch ∷ []) ≡ unaborted shard log =
    ap (λ l. filter (λ x. not (aborted_in (log ++ Restart run epoch ∷ []) x)) l) same
    ∙ filter_alike (λ x. not (aborted_in (log ++ Restart run epoch ∷ []) x)) (λ x. not (aborted_in log x)) (losers shard log)
    (λ x. ap not (aborted_more nobody log (Restart run epoch) x (restart_unlike run epoch) ∙ or-false (aborted_in log x))) in
    ap (λ l. map (λ x. Abort x) l ++ clrs_of (losers shard (log ++ Restart run epoch ∷ [])) (standing (log ++ Restart run epoch ∷ []))) same_open
    ∙ ap (λ l. map (λ x. Abort x) (unaborted shard log) ++ clrs_of l (standing (log ++ Restart run epoch ∷ []))) same
    ∙ ap (λ l. map (λ x. Abort x) (unaborted shard log) ++ clrs_of (losers shard log) l) stand

-- ---- epochs

pub greatest_more : (run own : ℕ) (log : List LogRecord) (r : LogRecord) → greatest_epoch run own (log ++ r ∷ []) ≡ greatest_epoch run (greatest_epoch run own log) (r ∷ [])
greatest_more run own [] r = refl
greatest_more run own (Update tx k b a ∷ rs) r = greatest_more run own rs r
greatest_more run own (Clr tx v k a ∷ rs) r = greatest_more run own rs r
greatest_more run own (Prepare tx home ps ∷ rs) r = greatest_more run own rs r
greatest_more run own (Commit tx ps ∷ rs) r = greatest_more run own rs r
greatest_more run own (Abort tx ∷ rs) r = greatest_more run own rs r
greatest_more run own (End tx ∷ rs) r = greatest_more run own rs r
greatest_more run own (Restart q e ∷ rs) r = greatest_more run (cond (q == run) (max own e) own) rs r
greatest_more run own (Add tx k by ∷ rs) r = greatest_more run own rs r
greatest_more run own (Unadd tx v k by ∷ rs) r = greatest_more run own rs r
greatest_more run own (Forgotten ∷ rs) r = greatest_more run own rs r
greatest_more run own (Check run' epoch' upto base ∷ rs) r = greatest_more run (cond (run' == run) (max own epoch') own) rs r

-- ---- one step

-- the record is written, and the others are left to write, with the same epoch
abbrev pub Stepped : Shard → List LogRecord → LogRecord → List LogRecord → Type 0
Stepped s log u us = (undo_records s.shard (log ++ u ∷ []) ≡ us) × (next_epoch s (log ++ u ∷ []) ≡ next_epoch s log)

step_abort : (s : Shard) (log : List LogRecord) (t : TxId) (ts : List TxId) → unaborted s.shard log ≡ t ∷ ts → Stepped s log (Abort t) (map (λ x. Abort x) ts ++ clrs_of (losers s.shard log) (standing log))
step_abort s log t ts e = (after_abort s.shard log t ts e, ap suc (greatest_more s.run s.local.epoch log (Abort t)))

same_epoch : (s : Shard) (log : List LogRecord) (t : TxId) (u : Option ℕ) (k : ℕ) (a : Change) → next_epoch s (log ++ compensation t u k a ∷ []) ≡ next_epoch s log
same_epoch s log t u k (Sets before after) = ap suc (greatest_more s.run s.local.epoch log (Clr t u k before))
same_epoch s log t u k (Adds by) = ap suc (greatest_more s.run s.local.epoch log (Unadd t u k by))

step_clr : (s : Shard) (log : List LogRecord) (u : LogRecord) (us : List LogRecord) → unaborted s.shard log ≡ [] → FirstClr (losers s.shard log) (standing log) u us → Stepped s log u us
step_clr s log u us none (t, v, k, a, e, i, r) = (
  ap (λ c. undo_records s.shard (log ++ c ∷ [])) e ∙ after_clr s.shard log t v k a none ∙ r,
  ap (λ c. next_epoch s (log ++ c ∷ [])) e ∙ same_epoch s log t v k a,
)

pub stepped : (s : Shard) (log : List LogRecord) (u : LogRecord) (us : List LogRecord) → undo_records s.shard log ≡ u ∷ us → Stepped s log u us
stepped s log u us e = at (unaborted s.shard log) refl e
  where
    at : (ts : List TxId) → unaborted s.shard log ≡ ts → map (λ x. Abort x) ts ++ clrs_of (losers s.shard log) (standing log) ≡ u ∷ us → Stepped s log u us
    at [] none h = step_clr s log u us none (first_clr (losers s.shard log) (standing log) u us h)
    at (t ∷ ts) some h = moved (Abort t) (map (λ x. Abort x) ts ++ clrs_of (losers s.shard log) (standing log)) h (step_abort s log t ts some)
      where
        moved : (v : LogRecord) (vs : List LogRecord) → v ∷ vs ≡ u ∷ us → Stepped s log v vs → Stepped s log u us
        moved v vs q h = subst (λ c. Stepped s log c us) (head v vs q) (subst (λ l. Stepped s log v l) (tail v vs q) h)
          where
            head : (v : LogRecord) (vs : List LogRecord) → v ∷ vs ≡ u ∷ us → v ≡ u
            head v vs q = cc

            tail : (v : LogRecord) (vs : List LogRecord) → v ∷ vs ≡ u ∷ us → vs ≡ us
            tail v vs q = cc
