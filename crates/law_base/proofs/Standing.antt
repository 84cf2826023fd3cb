-- What stands in a log after one more record, of whom a write stands, and where the last undo of one is.
use Rattle.std.proofs.Common.{◌≡◌, ℕ, suc, ◌+◌, ◌<◌, ◌≤◌, ◌⊎◌, inl, inr, ⊎_elim, Bool, true, false, cond, not, ◌&&◌, ◌||◌, List, [], ◌∷◌, ◌++◌, length, Option, Some, None, is_some, ◌==◌, nat_lt, refl, sym, ap, subst, ◌∙◌, eq-eqb, ne_eqb, arith}
use Rattle.std.specs.List.{AllByRecursion, filter, list_any}
use Rattle.std.proofs.lemmas.Bool.{cases_Bool, both_ways, cond_both, cond-true, cond-false, false_from_ne_true, lt-ltb, or_cases, or_from, or_parts}
use Rattle.std.proofs.lemmas.Option.{none-some, same_Some}
use Rattle.clv_base.specs.declared.values.Value.{Value as ValueType}
use Rattle.clv_base.specs.declared.names.TxId.{TxId}
use Rattle.clv_base.specs.declared.logs.LogRecord.{LogRecord}
use Rattle.clv_base.specs.declared.logs.LogRecord.TheVariants.{Update, Clr, Prepare, Commit, Abort, End, Restart, Add, Unadd, Forgotten, Check}
use Rattle.clv_base.specs.Orders.{tx_same}
use Rattle.clv_base.specs.Logs.{StandingUpdate, standing, standing_from, standing_after, without_newest, newest_of, is_update_of, is_undo_of, wrote_in, has_standing, last_place_from, undone_lsn}
use Rattle.clv_base.proofs.SameNames.{or_left, or_right, tx_self, tx_true}
use Rattle.law_base.proofs.Bools.{and_no, or_none, or_regroup, or_swap}
use Rattle.law_base.proofs.Lists.{all_mono}

-- ---- what stands in a longer log

pub standing_append : (n : ℕ) (xs ys : List LogRecord) (ws : List StandingUpdate) → standing_from n (xs ++ ys) ws ≡ standing_from (n + length xs) ys (standing_from n xs ws)
standing_append n [] ys ws = ap (λ k. standing_from k ys ws) (omega arith)
standing_append n (x ∷ xs) ys ws = standing_append (suc n) xs ys (standing_after n x ws) ∙ ap (λ k. standing_from k ys (standing_from (suc n) xs (standing_after n x ws))) (omega arith)

pub standing_push : (log : List LogRecord) (r : LogRecord) → standing (log ++ r ∷ []) ≡ standing_after (length log) r (standing log)
standing_push log r = standing_append 0 log (r ∷ []) [] ∙ ap (λ n. standing_after n r (standing log)) (omega arith)

pub all_without : (P : StandingUpdate → Type 0) (t : TxId) (ws : List StandingUpdate) → AllByRecursion P ws → AllByRecursion P (without_newest t ws)
all_without P t [] a = tt
all_without P t (w ∷ ws) a = cond_both (tx_same t w.tx) ws (w ∷ without_newest t ws) (AllByRecursion P) (λ e. a.1) (λ e. (a.0, all_without P t ws a.1))

-- ---- who wrote

-- whether one of the writes is the transaction's
abbrev pub has_write : List StandingUpdate → TxId → Bool
has_write ws t = list_any (λ w. tx_same t w.tx) ws

own_writes : (ws : List StandingUpdate) → AllByRecursion (λ w. has_write ws w.tx ≡ true) ws
own_writes [] = tt
own_writes (w ∷ ws) = (or_left (tx_same w.tx w.tx) _ (tx_self w.tx), all_mono _ _ (λ v h. or_right (tx_same v.tx w.tx) _ h) ws (own_writes ws))

pub all_stand : (log : List LogRecord) → AllByRecursion (λ w. has_standing log w.tx ≡ true) (standing log)
all_stand log = own_writes (standing log)

wrote_all : (log : List LogRecord) (n : ℕ) (rs : List LogRecord) (ws : List StandingUpdate) → ((t : TxId) → wrote_in rs t ≡ true → wrote_in log t ≡ true) → AllByRecursion (λ w. wrote_in log w.tx ≡ true) ws → AllByRecursion (λ w. wrote_in log w.tx ≡ true) (standing_from n rs ws)
wrote_all log n [] ws h all = all
wrote_all log n (Update tx k b a ∷ rs) ws h all = wrote_all log (suc n) rs _ (λ t e. h t (or_right (tx_same t tx) _ e)) (h tx (or_left _ _ (tx_self tx)), all)
wrote_all log n (Add tx k by ∷ rs) ws h all = wrote_all log (suc n) rs _ (λ t e. h t (or_right (tx_same t tx) _ e)) (h tx (or_left _ _ (tx_self tx)), all)
wrote_all log n (Clr tx u k a ∷ rs) ws h all = wrote_all log (suc n) rs (without_newest tx ws) h (all_without _ tx ws all)
wrote_all log n (Unadd tx u k by ∷ rs) ws h all = wrote_all log (suc n) rs (without_newest tx ws) h (all_without _ tx ws all)
wrote_all log n (Prepare tx home ps ∷ rs) ws h all = wrote_all log (suc n) rs ws h all
wrote_all log n (Commit tx ps ∷ rs) ws h all = wrote_all log (suc n) rs ws h all
wrote_all log n (Abort tx ∷ rs) ws h all = wrote_all log (suc n) rs ws h all
wrote_all log n (End tx ∷ rs) ws h all = wrote_all log (suc n) rs ws h all
wrote_all log n (Restart run epoch ∷ rs) ws h all = wrote_all log (suc n) rs ws h all
wrote_all log n (Forgotten ∷ rs) ws h all = wrote_all log (suc n) rs ws h all
wrote_all log n (Check run' epoch' upto base ∷ rs) ws h all = wrote_all log (suc n) rs ws h all

pub all_wrote : (log : List LogRecord) → AllByRecursion (λ w. wrote_in log w.tx ≡ true) (standing log)
all_wrote log = wrote_all log 0 log [] (λ t e. e) tt

-- what all writes have, one's writes have
pub of_writer : (P : TxId → Type 0) (ws : List StandingUpdate) (t : TxId) → AllByRecursion (λ w. P w.tx) ws → has_write ws t ≡ true → P t
of_writer P [] t all e = absurd (both_ways false refl e)
of_writer P (w ∷ ws) t all e = ⊎_elim (λ s. subst P (sym (tx_true t w.tx s)) all.0) (λ s. of_writer P ws t all.1 s) (or_cases (tx_same t w.tx) (has_write ws t) e)

-- of whom a write stands, that one wrote
pub standing_wrote : (log : List LogRecord) (t : TxId) → has_standing log t ≡ true → wrote_in log t ≡ true
standing_wrote log t e = of_writer (λ u. wrote_in log u ≡ true) (standing log) t (all_wrote log) e

pub unwritten_stands : (log : List LogRecord) (t : TxId) → wrote_in log t ≡ false → has_standing log t ≡ false
unwritten_stands log t e = false_from_ne_true _ (λ s. both_ways _ e (standing_wrote log t s))

-- ---- LSNs of what stands fall

abbrev pub Falls : ℕ → List StandingUpdate → Type 0
Falls n [] = Unit {0}
Falls n (w ∷ ws) = (w.lsn < n) × Falls w.lsn ws

pub falls_weaker : (n m : ℕ) (ws : List StandingUpdate) → n ≤ m → Falls n ws → Falls m ws
falls_weaker n m [] le falls = tt
falls_weaker n m (w ∷ ws) le falls = (omega arith, falls.1)

pub falls_without : (tx : TxId) (n : ℕ) (ws : List StandingUpdate) → Falls n ws → Falls n (without_newest tx ws)
falls_without tx n [] falls = tt
falls_without tx n (w ∷ ws) falls =
    cond_both (tx_same tx w.tx) ws (w ∷ without_newest tx ws) (Falls n) (λ e. falls_weaker w.lsn n ws (omega arith) falls.1) (λ e. (falls.0, falls_without tx w.lsn ws falls.1))

pub falls_length : (n : ℕ) (ws : List StandingUpdate) → Falls n ws → length ws ≤ n
falls_length n [] f = omega arith
falls_length n (w ∷ ws) f = let l : w.lsn < n = f.0 in let m : length ws ≤ w.lsn = falls_length w.lsn ws f.1 in omega arith

pub falls_after : (n : ℕ) (r : LogRecord) (ws : List StandingUpdate) → Falls n ws → Falls (suc n) (standing_after n r ws)
falls_after n (Update tx k b a) ws f = (omega arith, f)
falls_after n (Add tx k by) ws f = (omega arith, f)
falls_after n (Clr tx u k a) ws f = falls_weaker n (suc n) (without_newest tx ws) (omega arith) (falls_without tx n ws f)
falls_after n (Unadd tx u k by) ws f = falls_weaker n (suc n) (without_newest tx ws) (omega arith) (falls_without tx n ws f)
falls_after n (Prepare tx home ps) ws f = falls_weaker n (suc n) ws (omega arith) f
falls_after n (Commit tx ps) ws f = falls_weaker n (suc n) ws (omega arith) f
falls_after n (Abort tx) ws f = falls_weaker n (suc n) ws (omega arith) f
falls_after n (End tx) ws f = falls_weaker n (suc n) ws (omega arith) f
falls_after n (Restart run epoch) ws f = falls_weaker n (suc n) ws (omega arith) f
falls_after n Forgotten ws f = falls_weaker n (suc n) ws (omega arith) f
falls_after n (Check run' epoch' upto base) ws f = falls_weaker n (suc n) ws (omega arith) f

falls_from : (n : ℕ) (rs : List LogRecord) (ws : List StandingUpdate) → Falls n ws → Falls (n + length rs) (standing_from n rs ws)
falls_from n [] ws f = subst (λ k. Falls k ws) (omega arith) f
falls_from n (r ∷ rs) ws f = subst (λ k. Falls k (standing_from (suc n) rs (standing_after n r ws))) (omega arith) (falls_from (suc n) rs (standing_after n r ws) (falls_after n r ws f))

pub standing_falls : (log : List LogRecord) → Falls (length log) (standing log)
standing_falls log = subst (λ k. Falls k (standing log)) (omega arith) (falls_from 0 log [] tt)

pub falls_below : (n : ℕ) (ws : List StandingUpdate) → Falls n ws → AllByRecursion (λ v. v.lsn < n) ws
falls_below n [] f = tt
falls_below n (w ∷ ws) f = (f.0, all_mono _ _ (λ v (h : v.lsn < w.lsn). let l : w.lsn < n = f.0 in omega arith) ws (falls_below w.lsn ws f.1))

-- ---- of whom a write stands after one more record

pub stands_update : (log : List LogRecord) (tx : TxId) (k : ℕ) (b a : Option ValueType) (t : TxId) → has_standing (log ++ Update tx k b a ∷ []) t ≡ (tx_same t tx || has_standing log t)
stands_update log tx k b a t = ap (λ ws. has_write ws t) (standing_push log (Update tx k b a))

pub stands_add : (log : List LogRecord) (tx : TxId) (k by : ℕ) (t : TxId) → has_standing (log ++ Add tx k by ∷ []) t ≡ (tx_same t tx || has_standing log t)
stands_add log tx k by t = ap (λ ws. has_write ws t) (standing_push log (Add tx k by))

pub without_other : (t u : TxId) (ws : List StandingUpdate) → tx_same t u ≡ false → has_write (without_newest u ws) t ≡ has_write ws t
without_other t u [] e = refl
without_other t u (w ∷ ws) e =
    ⊎_elim
    (λ s. ap (λ vs. has_write vs t) (cond-true (tx_same u w.tx) ws (w ∷ without_newest u ws) s) ∙ ap (λ b. b || has_write ws t) (sym (subst (λ x. tx_same t x ≡ false) (tx_true u w.tx s) e)))
    (λ s. ap (λ vs. has_write vs t) (cond-false (tx_same u w.tx) ws (w ∷ without_newest u ws) s) ∙ ap (λ b. tx_same t w.tx || b) (without_other t u ws e))
    (cases_Bool (tx_same u w.tx))

pub has_without : (t u : TxId) (ws : List StandingUpdate) → has_write (without_newest u ws) t ≡ true → has_write ws t ≡ true
has_without t u [] e = e
has_without t u (w ∷ ws) e =
    ⊎_elim
    (λ s. or_right (tx_same t w.tx) _ (sym (ap (λ vs. has_write vs t) (cond-true (tx_same u w.tx) ws (w ∷ without_newest u ws) s)) ∙ e))
    (λ s. ⊎_elim (λ h. or_left _ _ h) (λ h. or_right (tx_same t w.tx) _ (has_without t u ws h))
    (or_cases (tx_same t w.tx) (has_write (without_newest u ws) t) (sym (ap (λ vs. has_write vs t) (cond-false (tx_same u w.tx) ws (w ∷ without_newest u ws) s)) ∙ e)))
    (cases_Bool (tx_same u w.tx))

-- a record that neither writes for it nor takes a write of it back
after_still : (n : ℕ) (r : LogRecord) (ws : List StandingUpdate) (t : TxId) → is_update_of t r ≡ false → is_undo_of t r ≡ false → has_write (standing_after n r ws) t ≡ has_write ws t
after_still n (Update tx k b a) ws t e f = ap (λ c. c || has_write ws t) e
after_still n (Add tx k by) ws t e f = ap (λ c. c || has_write ws t) e
after_still n (Clr tx u k a) ws t e f = without_other t tx ws f
after_still n (Unadd tx u k by) ws t e f = without_other t tx ws f
after_still n (Prepare tx home ps) ws t e f = refl
after_still n (Commit tx ps) ws t e f = refl
after_still n (Abort tx) ws t e f = refl
after_still n (End tx) ws t e f = refl
after_still n (Restart run epoch) ws t e f = refl
after_still n Forgotten ws t e f = refl
after_still n (Check run' epoch' upto base) ws t e f = refl

from_still : (n : ℕ) (rs : List LogRecord) (ws : List StandingUpdate) (t : TxId) → list_any (is_update_of t) rs ≡ false → list_any (is_undo_of t) rs ≡ false → has_write (standing_from n rs ws) t ≡ has_write ws t
from_still n [] ws t e f = refl
from_still n (r ∷ rs) ws t e f =
    let wrote = or_parts (is_update_of t r) (list_any (is_update_of t) rs) e in
    let undid = or_parts (is_undo_of t r) (list_any (is_undo_of t) rs) f in
    from_still (suc n) rs (standing_after n r ws) t wrote.1 undid.1 ∙ after_still n r ws t wrote.0 undid.0

pub stands_append : (log more : List LogRecord) (t : TxId) → list_any (is_update_of t) more ≡ false → list_any (is_undo_of t) more ≡ false → has_standing (log ++ more) t ≡ has_standing log t
stands_append log more t e f = ap (λ ws. has_write ws t) (standing_append 0 log more []) ∙ from_still (0 + length log) more (standing log) t e f

pub stands_still : (log : List LogRecord) (r : LogRecord) (t : TxId) → is_update_of t r ≡ false → is_undo_of t r ≡ false → has_standing (log ++ r ∷ []) t ≡ has_standing log t
stands_still log r t e f = stands_append log (r ∷ []) t (or_from _ _ e refl) (or_from _ _ f refl)

-- where nothing is written for it, nothing comes to stand
after_fewer : (n : ℕ) (r : LogRecord) (ws : List StandingUpdate) (t : TxId) → is_update_of t r ≡ false → has_write (standing_after n r ws) t ≡ true → has_write ws t ≡ true
after_fewer n (Update tx k b a) ws t e h = sym (ap (λ c. c || has_write ws t) e) ∙ h
after_fewer n (Add tx k by) ws t e h = sym (ap (λ c. c || has_write ws t) e) ∙ h
after_fewer n (Clr tx u k a) ws t e h = has_without t tx ws h
after_fewer n (Unadd tx u k by) ws t e h = has_without t tx ws h
after_fewer n (Prepare tx home ps) ws t e h = h
after_fewer n (Commit tx ps) ws t e h = h
after_fewer n (Abort tx) ws t e h = h
after_fewer n (End tx) ws t e h = h
after_fewer n (Restart run epoch) ws t e h = h
after_fewer n Forgotten ws t e h = h
after_fewer n (Check run' epoch' upto base) ws t e h = h

from_fewer : (n : ℕ) (rs : List LogRecord) (ws : List StandingUpdate) (t : TxId) → list_any (is_update_of t) rs ≡ false → has_write (standing_from n rs ws) t ≡ true → has_write ws t ≡ true
from_fewer n [] ws t e h = h
from_fewer n (r ∷ rs) ws t e h = let wrote = or_parts (is_update_of t r) (list_any (is_update_of t) rs) e in after_fewer n r ws t wrote.0 (from_fewer (suc n) rs (standing_after n r ws) t wrote.1 h)

pub stood_before : (log more : List LogRecord) (t : TxId) → list_any (is_update_of t) more ≡ false → has_standing (log ++ more) t ≡ true → has_standing log t ≡ true
stood_before log more t e h = from_fewer (0 + length log) more (standing log) t e (sym (ap (λ ws. has_write ws t) (standing_append 0 log more [])) ∙ h)

-- of whom nothing is taken back, all that it wrote stands
from_whole : (n : ℕ) (rs : List LogRecord) (ws : List StandingUpdate) (t : TxId) → list_any (is_undo_of t) rs ≡ false → has_write (standing_from n rs ws) t ≡ (has_write ws t || list_any (is_update_of t) rs)
from_whole n [] ws t f = sym (or_none (has_write ws t))
from_whole n (Update tx k b a ∷ rs) ws t f =
    from_whole (suc n) rs (standing_after n (Update tx k b a) ws) t f ∙ sym (or_regroup (tx_same t tx) (has_write ws t) (list_any (is_update_of t) rs)) ∙ or_swap (tx_same t tx) (has_write ws t) (list_any (is_update_of t) rs)
from_whole n (Add tx k by ∷ rs) ws t f =
    from_whole (suc n) rs (standing_after n (Add tx k by) ws) t f ∙ sym (or_regroup (tx_same t tx) (has_write ws t) (list_any (is_update_of t) rs)) ∙ or_swap (tx_same t tx) (has_write ws t) (list_any (is_update_of t) rs)
from_whole n (Clr tx u k a ∷ rs) ws t f =
    let p = or_parts (tx_same t tx) (list_any (is_undo_of t) rs) f in from_whole (suc n) rs (without_newest tx ws) t p.1 ∙ ap (λ b. b || list_any (is_update_of t) rs) (without_other t tx ws p.0)
from_whole n (Unadd tx u k by ∷ rs) ws t f =
    let p = or_parts (tx_same t tx) (list_any (is_undo_of t) rs) f in from_whole (suc n) rs (without_newest tx ws) t p.1 ∙ ap (λ b. b || list_any (is_update_of t) rs) (without_other t tx ws p.0)
from_whole n (Prepare tx home ps ∷ rs) ws t f = from_whole (suc n) rs ws t f
from_whole n (Commit tx ps ∷ rs) ws t f = from_whole (suc n) rs ws t f
from_whole n (Abort tx ∷ rs) ws t f = from_whole (suc n) rs ws t f
from_whole n (End tx ∷ rs) ws t f = from_whole (suc n) rs ws t f
from_whole n (Restart run epoch ∷ rs) ws t f = from_whole (suc n) rs ws t f
from_whole n (Forgotten ∷ rs) ws t f = from_whole (suc n) rs ws t f
from_whole n (Check run' epoch' upto base ∷ rs) ws t f = from_whole (suc n) rs ws t f

pub all_of_it_stands : (log : List LogRecord) (t : TxId) → list_any (is_undo_of t) log ≡ false → has_standing log t ≡ wrote_in log t
all_of_it_stands log t f = from_whole 0 log [] t f

-- ---- its newest write, and how many there are

pub newest_is : (t : TxId) (ws : List StandingUpdate) → is_some (newest_of t ws) ≡ has_write ws t
newest_is t [] = refl
newest_is t (w ∷ ws) = at (tx_same t w.tx) (newest_is t ws)
  where
    at : (b : Bool) → is_some (newest_of t ws) ≡ has_write ws t → is_some (cond b (Some w) (newest_of t ws)) ≡ (b || has_write ws t)
    at true e = refl
    at false e = e

pub newest_below : (t : TxId) (n : ℕ) (ws : List StandingUpdate) (w : StandingUpdate) → Falls n ws → newest_of t ws ≡ Some w → w.lsn < n
newest_below t n [] w f e = absurd (none-some w e)
newest_below t n (v ∷ vs) w f e =
    ⊎_elim
    (λ s. subst (λ x. x.lsn < n) (same_Some v w (sym (cond-true (tx_same t v.tx) (Some v) (newest_of t vs) s) ∙ e)) f.0)
    (λ s. let l : w.lsn < v.lsn = newest_below t v.lsn vs w f.1 (sym (cond-false (tx_same t v.tx) (Some v) (newest_of t vs) s) ∙ e) in let m : v.lsn < n = f.0 in omega arith)
    (cases_Bool (tx_same t v.tx))

filter_lower : (k : ℕ) (ws : List StandingUpdate) → AllByRecursion (λ v. v.lsn < k) ws → filter (λ v. not (v.lsn == k)) ws ≡ ws
filter_lower k [] all = refl
filter_lower k (w ∷ ws) all = cond-true (not (w.lsn == k)) (w ∷ filter (λ v. not (v.lsn == k)) ws) _ (ap not (ne_eqb w.lsn k (λ q. let l : w.lsn < k = all.0 in absurd (omega arith)))) ∙ ap (λ l. w ∷ l) (filter_lower k ws all.1)

-- without the newest one: without that with its LSN
pub without_is_filter : (t : TxId) (n : ℕ) (ws : List StandingUpdate) (w : StandingUpdate) → Falls n ws → newest_of t ws ≡ Some w → without_newest t ws ≡ filter (λ v. not (v.lsn == w.lsn)) ws
without_is_filter t n [] w f e = absurd (none-some w e)
without_is_filter t n (v ∷ vs) w f e =
    ⊎_elim
    (λ s. cond-true (tx_same t v.tx) vs (v ∷ without_newest t vs) s
    ∙ subst (λ u. vs ≡ filter (λ x. not (x.lsn == u.lsn)) (v ∷ vs)) (same_Some v w (sym (cond-true (tx_same t v.tx) (Some v) (newest_of t vs) s) ∙ e))
    (sym (cond-false (not (v.lsn == v.lsn)) (v ∷ filter (λ x. not (x.lsn == v.lsn)) vs) _ (ap not (eq-eqb v.lsn v.lsn refl)) ∙ filter_lower v.lsn vs (falls_below v.lsn vs f.1))))
    (λ s. let later : newest_of t vs ≡ Some w = sym (cond-false (tx_same t v.tx) (Some v) (newest_of t vs) s) ∙ e in
    let l : w.lsn < v.lsn = newest_below t v.lsn vs w f.1 later in
    cond-false (tx_same t v.tx) vs (v ∷ without_newest t vs) s
    ∙ ap (λ l. v ∷ l) (without_is_filter t v.lsn vs w f.1 later)
    ∙ sym (cond-true (not (v.lsn == w.lsn)) (v ∷ filter (λ x. not (x.lsn == w.lsn)) vs) _ (ap not (ne_eqb v.lsn w.lsn (λ q. absurd (omega arith))))))
    (cases_Bool (tx_same t v.tx))

abbrev pub count_writes : TxId → List StandingUpdate → ℕ
count_writes t ws = length (filter (λ w. tx_same t w.tx) ws)

pub counts_some : (t : TxId) (ws : List StandingUpdate) → has_write ws t ≡ nat_lt 0 (count_writes t ws)
counts_some t [] = refl
counts_some t (w ∷ ws) = at (tx_same t w.tx) (counts_some t ws)
  where
    at : (b : Bool) → has_write ws t ≡ nat_lt 0 (count_writes t ws) → (b || has_write ws t) ≡ nat_lt 0 (length (cond b (w ∷ filter (λ v. tx_same t v.tx) ws) (filter (λ v. tx_same t v.tx) ws)))
    at true e = sym (lt-ltb 0 (suc (count_writes t ws)) (omega arith))
    at false e = e

pub counts_without : (t : TxId) (ws : List StandingUpdate) → has_write ws t ≡ true → suc (count_writes t (without_newest t ws)) ≡ count_writes t ws
counts_without t [] e = absurd (both_ways false refl e)
counts_without t (w ∷ ws) e = at (tx_same t w.tx) refl (λ h. counts_without t ws h) e
  where
    at : (b : Bool) → tx_same t w.tx ≡ b → (has_write ws t ≡ true → suc (count_writes t (without_newest t ws)) ≡ count_writes t ws) → (b || has_write ws t) ≡ true
        → suc (count_writes t (cond b ws (w ∷ without_newest t ws))) ≡ length (cond b (w ∷ filter (λ v. tx_same t v.tx) ws) (filter (λ v. tx_same t v.tx) ws))
    at true s k h = refl
    at false s k h = ap suc (ap length (cond-false (tx_same t w.tx) (w ∷ filter (λ v. tx_same t v.tx) (without_newest t ws)) (filter (λ v. tx_same t v.tx) (without_newest t ws)) s)) ∙ k h

pub counts_other : (t u : TxId) (ws : List StandingUpdate) → tx_same t u ≡ false → count_writes t (without_newest u ws) ≡ count_writes t ws
counts_other t u [] e = refl
counts_other t u (w ∷ ws) e =
    ⊎_elim
    (λ s. ap (count_writes t) (cond-true (tx_same u w.tx) ws (w ∷ without_newest u ws) s)
    ∙ ap length (sym (cond-false (tx_same t w.tx) (w ∷ filter (λ v. tx_same t v.tx) ws) (filter (λ v. tx_same t v.tx) ws) (subst (λ x. tx_same t x ≡ false) (tx_true u w.tx s) e))))
    (λ s. ap (count_writes t) (cond-false (tx_same u w.tx) ws (w ∷ without_newest u ws) s) ∙ at (tx_same t w.tx) (counts_other t u ws e))
    (cases_Bool (tx_same u w.tx))
  where
    at : (b : Bool) → count_writes t (without_newest u ws) ≡ count_writes t ws
        → length (cond b (w ∷ filter (λ v. tx_same t v.tx) (without_newest u ws)) (filter (λ v. tx_same t v.tx) (without_newest u ws))) ≡ length (cond b (w ∷ filter (λ v. tx_same t v.tx) ws) (filter (λ v. tx_same t v.tx) ws))
    at true h = ap suc h
    at false h = h

-- the writes of transactions that pass
pub has_filter : (keep : TxId → Bool) (ws : List StandingUpdate) (t : TxId) → has_write (filter (λ w. keep w.tx) ws) t ≡ (keep t && has_write ws t)
has_filter keep [] t = sym (and_no (keep t))
has_filter keep (w ∷ ws) t = at (keep w.tx) (tx_same t w.tx) refl refl (has_filter keep ws t)
  where
    at : (b c : Bool) → keep w.tx ≡ b → tx_same t w.tx ≡ c → has_write (filter (λ v. keep v.tx) ws) t ≡ (keep t && has_write ws t) → has_write (cond b (w ∷ filter (λ v. keep v.tx) ws) (filter (λ v. keep v.tx) ws)) t ≡ (keep t && (c || has_write ws t))
    at true true k s e = ap (λ b. b || has_write (filter (λ v. keep v.tx) ws) t) s ∙ sym (ap (λ b. b && true) (ap keep (tx_true t w.tx s) ∙ k))
    at true false k s e = ap (λ b. b || has_write (filter (λ v. keep v.tx) ws) t) s ∙ e
    at false true k s e = e ∙ ap (λ b. b && has_write ws t) (ap keep (tx_true t w.tx s) ∙ k) ∙ sym (ap (λ b. b && true) (ap keep (tx_true t w.tx s) ∙ k))
    at false false k s e = e

-- ---- where its last undo record is

last_append : (n : ℕ) (so_far : Option ℕ) (test : LogRecord → Bool) (xs ys : List LogRecord) → last_place_from n so_far test (xs ++ ys) ≡ last_place_from (n + length xs) (last_place_from n so_far test xs) test ys
last_append n so_far test [] ys = ap (λ k. last_place_from k so_far test ys) (omega arith)
last_append n so_far test (x ∷ xs) ys =
    last_append (suc n) (cond (test x) (Some n) so_far) test xs ys ∙ ap (λ k. last_place_from k (last_place_from (suc n) (cond (test x) (Some n) so_far) test xs) test ys) (omega arith)

last_none : (n : ℕ) (so_far : Option ℕ) (test : LogRecord → Bool) (xs : List LogRecord) → list_any test xs ≡ false → last_place_from n so_far test xs ≡ so_far
last_none n so_far test [] e = refl
last_none n so_far test (x ∷ xs) e =
    let p = or_parts (test x) (list_any test xs) e in last_none (suc n) (cond (test x) (Some n) so_far) test xs p.1 ∙ cond-false (test x) (Some n) so_far p.0

last_some : (n : ℕ) (so_far : Option ℕ) (test : LogRecord → Bool) (xs : List LogRecord) → is_some (last_place_from n so_far test xs) ≡ (is_some so_far || list_any test xs)
last_some n so_far test [] = sym (or_none (is_some so_far))
last_some n so_far test (x ∷ xs) = last_some (suc n) (cond (test x) (Some n) so_far) test xs ∙ at (test x) so_far
  where
    at : (b : Bool) (o : Option ℕ) → (is_some (cond b (Some n) o) || list_any test xs) ≡ (is_some o || (b || list_any test xs))
    at true None = refl
    at true (Some k) = refl
    at false o = refl

-- it stands before the end, and not before the first of the records gone through
last_inside : (n : ℕ) (so_far : Option ℕ) (test : LogRecord → Bool) (xs : List LogRecord) (k : ℕ) → last_place_from n so_far test xs ≡ Some k → (so_far ≡ Some k) ⊎ ((n ≤ k) × (k < n + length xs))
last_inside n so_far test [] k e = inl e
last_inside n so_far test (x ∷ xs) k e = ⊎_elim (λ s. at (test x) s) (λ s. inr (let a = s.0 in omega arith, let b = s.1 in omega arith)) (last_inside (suc n) (cond (test x) (Some n) so_far) test xs k e)
  where
    at : (b : Bool) → cond b (Some n) so_far ≡ Some k → (so_far ≡ Some k) ⊎ ((n ≤ k) × (k < n + suc (length xs)))
    at true s = let q : n ≡ k = same_Some n k s in inr (omega arith, omega arith)
    at false s = inl s

pub undone_append : (log more : List LogRecord) (t : TxId) → list_any (is_undo_of t) more ≡ false → undone_lsn (log ++ more) t ≡ undone_lsn log t
undone_append log more t e = last_append 0 None (is_undo_of t) log more ∙ last_none (0 + length log) (undone_lsn log t) (is_undo_of t) more e

pub undone_push : (log : List LogRecord) (r : LogRecord) (t : TxId) → undone_lsn (log ++ r ∷ []) t ≡ cond (is_undo_of t r) (Some (length log)) (undone_lsn log t)
undone_push log r t = last_append 0 None (is_undo_of t) log (r ∷ []) ∙ ap (λ n. cond (is_undo_of t r) (Some n) (undone_lsn log t)) (omega arith)

-- a CLR or UNADD of it is the last one, and any other record leaves it
pub undone_now : (log : List LogRecord) (r : LogRecord) (t : TxId) → is_undo_of t r ≡ true → undone_lsn (log ++ r ∷ []) t ≡ Some (length log)
undone_now log r t e = undone_push log r t ∙ cond-true (is_undo_of t r) (Some (length log)) (undone_lsn log t) e

pub undone_still : (log : List LogRecord) (r : LogRecord) (t : TxId) → is_undo_of t r ≡ false → undone_lsn (log ++ r ∷ []) t ≡ undone_lsn log t
undone_still log r t e = undone_push log r t ∙ cond-false (is_undo_of t r) (Some (length log)) (undone_lsn log t) e

pub undone_is : (log : List LogRecord) (t : TxId) → is_some (undone_lsn log t) ≡ list_any (is_undo_of t) log
undone_is log t = last_some 0 None (is_undo_of t) log

pub undone_inside : (log : List LogRecord) (t : TxId) (k : ℕ) → undone_lsn log t ≡ Some k → k < length log
undone_inside log t k e = ⊎_elim (λ s. absurd (none-some k s)) (λ s. let l = s.1 in omega arith) (last_inside 0 None (is_undo_of t) log k e)

last_from : (n : ℕ) (so_far : Option ℕ) (test : LogRecord → Bool) (xs : List LogRecord) (k : ℕ) → list_any test xs ≡ true → last_place_from n so_far test xs ≡ Some k → n ≤ k
last_from n so_far test [] k any e = absurd (both_ways false refl any)
last_from n so_far test (x ∷ xs) k any e =
    ⊎_elim
    (λ more. let l = last_from (suc n) (cond (test x) (Some n) so_far) test xs k more e in omega arith)
    (λ none. let here : test x ≡ true = sym (or_none (test x)) ∙ ap (λ b. test x || b) (sym none) ∙ any in
    let q : n ≡ k = same_Some n k (sym (cond-true (test x) (Some n) so_far here) ∙ sym (last_none (suc n) (cond (test x) (Some n) so_far) test xs none) ∙ e) in omega arith)
    (cases_Bool (list_any test xs))

-- where the last one lies in a front, none comes behind it
pub undone_in_front : (front rest : List LogRecord) (t : TxId) → ((k : ℕ) → undone_lsn (front ++ rest) t ≡ Some k → k < length front) → list_any (is_undo_of t) rest ≡ false
undone_in_front front rest t inside = false_from_ne_true _ (λ any. behind any (undone_lsn (front ++ rest) t) refl)
  where
    split : undone_lsn (front ++ rest) t ≡ last_place_from (0 + length front) (undone_lsn front t) (is_undo_of t) rest
    split = last_append 0 None (is_undo_of t) front rest

    there : list_any (is_undo_of t) rest ≡ true → is_some (undone_lsn (front ++ rest) t) ≡ true
    there any = ap is_some split ∙ last_some (0 + length front) (undone_lsn front t) (is_undo_of t) rest ∙ or_right (is_some (undone_lsn front t)) _ any

    behind : list_any (is_undo_of t) rest ≡ true → (o : Option ℕ) → undone_lsn (front ++ rest) t ≡ o → ⊥
    behind any None e = both_ways _ (ap is_some e) (there any)
    behind any (Some k) e = let l = inside k e in let m = last_from (0 + length front) (undone_lsn front t) (is_undo_of t) rest k any (sym split ∙ e) in absurd (omega arith)
