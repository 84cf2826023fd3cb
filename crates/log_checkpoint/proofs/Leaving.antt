-- What stands in a checkpoint.
use Rattle.std.proofs.Common.{◌≡◌, ℕ, suc, ◌<◌, ◌≤◌, ⊎_elim, Bool, true, false, cond, not, ◌&&◌, List, [], ◌∷◌, ◌==◌, refl, sym, ap, subst, ◌∙◌, eqb-true, eq-eqb, arith}
use Rattle.std.specs.List.{AllByRecursion, filter}
use Rattle.std.proofs.lemmas.Bool.{both_ways, cond_both, false_from_ne_true, or_cases}
use Rattle.clv_base.specs.declared.names.TxId.{TxId}
use Rattle.clv_base.specs.declared.logs.LogRecord.{LogRecord}
use Rattle.clv_base.specs.declared.logs.LogRecord.TheVariants.{Update, Clr, Prepare, Commit, Abort, End, Restart, Add, Unadd, Forgotten, Check}
use Rattle.clv_base.specs.declared.changes.Change.TheVariants.{Sets, Adds}
use Rattle.clv_base.specs.Orders.{tx_same}
use Rattle.clv_base.specs.Logs.{StandingUpdate, committed_in, standing, standing_from, standing_after, without_newest}
use Rattle.clv_base.specs.Checkpoints.{stands_at, kept_if, kept_prepare, kept_of, kept_from}
use Rattle.clv_base.proofs.SameNames.{or_left, or_right}
use Rattle.law_base.proofs.Lists.{all_mono}
use Rattle.law_base.proofs.Standing.{Falls, falls_after}
use Rattle.log_checkpoint.specs.Laws.{IsFirst, CheckpointsLeaveTheOpen}

-- ---- the places of what stands

without_stands : (m : ℕ) (t : TxId) (ws : List StandingUpdate) → stands_at m (without_newest t ws) ≡ true → stands_at m ws ≡ true
without_stands m t [] e = e
without_stands m t (w ∷ ws) e =
    cond_both (tx_same t w.tx) ws (w ∷ without_newest t ws) (λ vs. stands_at m vs ≡ true → stands_at m (w ∷ ws) ≡ true)
    (λ same h. or_right (w.lsn == m) _ h)
    (λ other h. ⊎_elim (λ here. or_left _ _ here) (λ later. or_right (w.lsn == m) _ (without_stands m t ws later)) (or_cases (w.lsn == m) (stands_at m (without_newest t ws)) h)) e

-- what stands below a place stood before it
stands_after : (m n : ℕ) (r : LogRecord) (ws : List StandingUpdate) → m < n → stands_at m (standing_after n r ws) ≡ true → stands_at m ws ≡ true
stands_after m n (Update tx key before after) ws l e = ⊎_elim (λ here. let q = eqb-true n m here in absurd (omega (arith, l, q))) (λ later. later) (or_cases (n == m) (stands_at m ws) e)
stands_after m n (Add tx key by) ws l e = ⊎_elim (λ here. let q = eqb-true n m here in absurd (omega (arith, l, q))) (λ later. later) (or_cases (n == m) (stands_at m ws) e)
stands_after m n (Clr tx undo_next key after) ws l e = without_stands m tx ws e
stands_after m n (Unadd tx undo_next key by) ws l e = without_stands m tx ws e
stands_after m n (Prepare tx home listed) ws l e = e
stands_after m n (Commit tx parts) ws l e = e
stands_after m n (Abort tx) ws l e = e
stands_after m n (End tx) ws l e = e
stands_after m n (Restart run epoch) ws l e = e
stands_after m n Forgotten ws l e = e
stands_after m n (Check run epoch upto base) ws l e = e

pub stands_before : (m n : ℕ) (rs : List LogRecord) (ws : List StandingUpdate) → m < n → stands_at m (standing_from n rs ws) ≡ true → stands_at m ws ≡ true
stands_before m n [] ws l e = e
stands_before m n (r ∷ rs) ws l e = stands_after m n r ws l (stands_before m (suc n) rs (standing_after n r ws) (omega (arith, l)) e)

pub falls_apart : (n m : ℕ) (ws : List StandingUpdate) → Falls n ws → n ≤ m → stands_at m ws ≡ true → ⊥
falls_apart n m [] falls l e = both_ways false refl e
falls_apart n m (w ∷ ws) falls l e =
    ⊎_elim (λ here. let q = eqb-true w.lsn m here in let f : w.lsn < n = falls.0 in absurd (omega (arith, f, q, l)))
    (λ later. let f : w.lsn < n = falls.0 in falls_apart w.lsn m ws falls.1 (omega (arith, f, l)) later) (or_cases (w.lsn == m) (stands_at m ws) e)

own_places : (ws : List StandingUpdate) → AllByRecursion (λ w. stands_at w.lsn ws ≡ true) ws
own_places [] = tt
own_places (w ∷ ws) = (or_left (w.lsn == w.lsn) _ (eq-eqb w.lsn w.lsn refl), all_mono _ _ (λ v h. or_right (w.lsn == v.lsn) _ h) ws (own_places ws))

-- ---- writes that stay: of one that is not committed, and standing at the end

abbrev pub stays : List LogRecord → StandingUpdate → Bool
stays log w = not (committed_in log w.tx) && stands_at w.lsn (standing log)

-- one that is compensated doesn't stay
compensated : (log : List LogRecord) (n : ℕ) (t : TxId) (ws : List StandingUpdate) → Falls n ws
    → ((m : ℕ) → m < n → stands_at m (standing log) ≡ true → stands_at m (without_newest t ws) ≡ true) → filter (stays log) (without_newest t ws) ≡ filter (stays log) ws
compensated log n t [] falls final = refl
compensated log n t (w ∷ ws) falls final =
    cond_both (tx_same t w.tx) ws (w ∷ without_newest t ws) (λ vs. ((m : ℕ) → m < n → stands_at m (standing log) ≡ true → stands_at m vs ≡ true) → filter (stays log) vs ≡ filter (stays log) (w ∷ ws))
    (λ same h.
    let gone : stands_at w.lsn (standing log) ≡ false = false_from_ne_true _ (λ e. falls_apart w.lsn w.lsn ws falls.1 (omega arith) (h w.lsn falls.0 e)) in
    sym (ap (λ b. cond b (w ∷ filter (stays log) ws) (filter (stays log) ws)) (ap (λ b. not (committed_in log w.tx) && b) gone ∙ never (not (committed_in log w.tx)))))
    (λ other h.
    ap (λ vs. cond (stays log w) (w ∷ vs) vs)
    (compensated log w.lsn t ws falls.1
    (λ m l e.
    let f : w.lsn < n = falls.0 in
    ⊎_elim (λ here. let q = eqb-true w.lsn m here in absurd (omega (arith, l, q))) (λ later. later)
    (or_cases (w.lsn == m) (stands_at m (without_newest t ws)) (h m (omega (arith, l, f)) e)))))
    final
  where
    never : (b : Bool) → b && false ≡ false
    never true = refl
    never false = refl

-- ---- one record

kept_write : (b : Bool) (n : ℕ) (r : LogRecord) (w : StandingUpdate) (vs : List StandingUpdate) → standing_after n r vs ≡ w ∷ vs → standing_after n (kept_if b r) vs ≡ cond b (w ∷ vs) vs
kept_write true n r w vs e = e
kept_write false n r w vs e = refl

kept_other : (b : Bool) (n : ℕ) (r : LogRecord) (vs : List StandingUpdate) → standing_after n r vs ≡ vs → standing_after n (kept_if b r) vs ≡ vs
kept_other true n r vs e = e
kept_other false n r vs e = refl

kept_listed : (shard : ℕ) (log : List LogRecord) (tx : TxId) (home : ℕ) (listed : List TxId) (b : Bool) (n : ℕ) (vs : List StandingUpdate) → standing_after n (kept_prepare shard log tx home listed b) vs ≡ vs
kept_listed shard log tx home listed true n vs = kept_other _ n (Prepare tx home []) vs refl
kept_listed shard log tx home listed false n vs = kept_other _ n (Prepare tx home _) vs refl

pub one_kept : (shard : ℕ) (log : List LogRecord) (n : ℕ) (r : LogRecord) (rs : List LogRecord) (ws : List StandingUpdate) → Falls n ws → standing_from (suc n) rs (standing_after n r ws) ≡ standing log
    → standing_after n (kept_of shard log n r) (filter (stays log) ws) ≡ filter (stays log) (standing_after n r ws)
one_kept shard log n (Update tx key before after) rs ws falls e =
    kept_write (not (committed_in log tx) && stands_at n (standing log)) n (Update tx key before after) (record { lsn = n; tx = tx; key = key; change = Sets before after }) (filter (stays log) ws) refl
one_kept shard log n (Add tx key by) rs ws falls e =
    kept_write (not (committed_in log tx) && stands_at n (standing log)) n (Add tx key by) (record { lsn = n; tx = tx; key = key; change = Adds by }) (filter (stays log) ws) refl
one_kept shard log n (Clr tx undo_next key after) rs ws falls e =
    sym (compensated log n tx ws falls (λ m l s. stands_before m (suc n) rs (without_newest tx ws) (omega (arith, l)) (subst (λ vs. stands_at m vs ≡ true) (sym e) s)))
one_kept shard log n (Unadd tx undo_next key by) rs ws falls e =
    sym (compensated log n tx ws falls (λ m l s. stands_before m (suc n) rs (without_newest tx ws) (omega (arith, l)) (subst (λ vs. stands_at m vs ≡ true) (sym e) s)))
one_kept shard log n (Prepare tx home listed) rs ws falls e = kept_listed shard log tx home listed (committed_in log tx) n (filter (stays log) ws)
one_kept shard log n (Commit tx parts) rs ws falls e = kept_other _ n (Commit tx parts) (filter (stays log) ws) refl
one_kept shard log n (Abort tx) rs ws falls e = kept_other _ n (Abort tx) (filter (stays log) ws) refl
one_kept shard log n (End tx) rs ws falls e = refl
one_kept shard log n (Restart run epoch) rs ws falls e = refl
one_kept shard log n Forgotten rs ws falls e = refl
one_kept shard log n (Check run epoch upto base) rs ws falls e = refl

kept_stand : (shard : ℕ) (log : List LogRecord) (n : ℕ) (rs : List LogRecord) (ws : List StandingUpdate) → Falls n ws → standing_from n rs ws ≡ standing log
    → standing_from n (kept_from shard log n rs) (filter (stays log) ws) ≡ filter (stays log) (standing log)
kept_stand shard log n [] ws falls e = ap (filter (stays log)) e
kept_stand shard log n (r ∷ rs) ws falls e =
    ap (standing_from (suc n) (kept_from shard log (suc n) rs)) (one_kept shard log n r rs ws falls e)
    ∙ kept_stand shard log (suc n) rs (standing_after n r ws) (falls_after n r ws falls) e

-- all that stand in the end do stand there
all_stay : (log : List LogRecord) (ws : List StandingUpdate) → AllByRecursion (λ w. stands_at w.lsn (standing log) ≡ true) ws → filter (stays log) ws ≡ filter (λ w. not (committed_in log w.tx)) ws
all_stay log [] all = refl
all_stay log (w ∷ ws) all =
    ap (λ b. cond (not (committed_in log w.tx) && b) (w ∷ filter (stays log) ws) (filter (stays log) ws)) all.0
    ∙ ap (λ b. cond b (w ∷ filter (stays log) ws) (filter (stays log) ws)) (whole (not (committed_in log w.tx)))
    ∙ ap (λ vs. cond (not (committed_in log w.tx)) (w ∷ vs) vs) (all_stay log ws all.1)
  where
    whole : (b : Bool) → b && true ≡ b
    whole true = refl
    whole false = refl

pub first_stands : (r : LogRecord) (rs : List LogRecord) → IsFirst r → standing_from 1 rs [] ≡ standing (r ∷ rs)
first_stands (Restart run epoch) rs f = refl
first_stands (Check run epoch upto base) rs f = refl
first_stands (Update tx key before after) rs f = absurd f
first_stands (Add tx key by) rs f = absurd f
first_stands (Clr tx undo_next key after) rs f = absurd f
first_stands (Unadd tx undo_next key by) rs f = absurd f
first_stands (Prepare tx home listed) rs f = absurd f
first_stands (Commit tx parts) rs f = absurd f
first_stands (Abort tx) rs f = absurd f
first_stands (End tx) rs f = absurd f
first_stands Forgotten rs f = absurd f

pub open_stand : CheckpointsLeaveTheOpen
open_stand shard [] f = refl
open_stand shard (r ∷ rs) f =
    kept_stand shard (r ∷ rs) 1 rs [] tt (first_stands r rs f) ∙ all_stay (r ∷ rs) (standing (r ∷ rs)) (own_places (standing (r ∷ rs)))
