-- A transaction's writes that stand are those of its chain.
use Rattle.std.proofs.Common.{◌≡◌, ℕ, suc, Bool, true, false, cond, ◌||◌, List, [], ◌∷◌, map, length, Option, Some, None, is_some, refl, sym, ap, ◌∙◌}
use Rattle.std.proofs.lemmas.Bool.{cond-true, both_ways}
use Rattle.std.specs.List.{list_any, filter}
use Rattle.clv_base.specs.declared.names.TxId.{TxId}
use Rattle.clv_base.specs.declared.logs.LogRecord.{LogRecord}
use Rattle.clv_base.specs.declared.logs.LogRecord.TheVariants.{Update, Clr, Prepare, Commit, Abort, End, Restart, Add, Unadd, Forgotten, Check}
use Rattle.clv_base.specs.Orders.{tx_same}
use Rattle.clv_base.specs.Logs.{StandingUpdate, is_undo_of, last_place_from, undone_lsn, has_standing, without_newest, standing_after, standing_from, standing, newest_of}
use Rattle.clv_base.specs.Undo.{newest_lsn}
use Rattle.clv_base.proofs.SameNames.{tx_true, tx_self}
use Rattle.log_buffer.specs.Links.{link_of, undoes_of}
use Rattle.log_buffer.specs.Chains.{first, others, places_after, places_from, places, last_undo_from, last_undo}

-- the places of a transaction's writes among some
lsns : TxId → List StandingUpdate → List ℕ
lsns t [] = []
lsns t (w ∷ ws) = cond (tx_same t w.tx) (w.lsn ∷ lsns t ws) (lsns t ws)

newest_lsn-first : (t : TxId) (ws : List StandingUpdate) → newest_lsn t ws ≡ first (lsns t ws)
unfolding lsns
newest_lsn-first t [] = refl
newest_lsn-first t (w ∷ ws) = at (tx_same t w.tx) (newest_lsn-first t ws)
  where
    at : (b : Bool) → elim (newest_of t ws) [ Some v ↦ Some v.lsn | None ↦ None ] ≡ first (lsns t ws)
        → elim (cond b (Some w) (newest_of t ws)) [ Some v ↦ Some v.lsn | None ↦ None ] ≡ first (cond b (w.lsn ∷ lsns t ws) (lsns t ws))
    at true h = refl
    at false h = h

-- without the newest of u, the places of t are the others where t is u
lsns-without : (t u : TxId) (ws : List StandingUpdate) → lsns t (without_newest u ws) ≡ cond (tx_same t u) (others (lsns t ws)) (lsns t ws)
unfolding lsns
lsns-without t u [] = same (tx_same t u)
  where
    same : (b : Bool) → [] ≡ cond b (others []) []
    same true = refl
    same false = refl
lsns-without t u (w ∷ ws) = at (tx_same u w.tx) (tx_same t w.tx) (tx_same t u) (λ e. ap (tx_same t) (sym (tx_true u w.tx e))) (λ e. ap (λ x. tx_same x w.tx) (tx_true t u e)) refl (lsns-without t u ws)
  where
    at : (uw tw tu : Bool) → (uw ≡ true → tw ≡ tu) → (tu ≡ true → tw ≡ uw) → tx_same t w.tx ≡ tw → lsns t (without_newest u ws) ≡ cond tu (others (lsns t ws)) (lsns t ws)
        → lsns t (cond uw ws (w ∷ without_newest u ws)) ≡ cond tu (others (cond tw (w.lsn ∷ lsns t ws) (lsns t ws))) (cond tw (w.lsn ∷ lsns t ws) (lsns t ws))
    at true true true h k e more = refl
    at true true false h k e more = absurd (both_ways false refl (sym (h refl)))
    at true false true h k e more = absurd (both_ways false refl (h refl))
    at true false false h k e more = refl
    at false true true h k e more = absurd (both_ways false refl (sym (k refl)))
    at false tw false h k e more = ap (λ b. cond b (w.lsn ∷ lsns t (without_newest u ws)) (lsns t (without_newest u ws))) e ∙ ap (λ l. cond tw (w.lsn ∷ l) l) more
    at false false true h k e more = ap (λ b. cond b (w.lsn ∷ lsns t (without_newest u ws)) (lsns t (without_newest u ws))) e ∙ more

lsns-after : (t : TxId) (n : ℕ) (r : LogRecord) (ws : List StandingUpdate) → lsns t (standing_after n r ws) ≡ places_after t n (link_of r) (lsns t ws)
unfolding lsns
lsns-after t n (Update tx key before after) ws = refl
lsns-after t n (Clr tx undo_next key after) ws = lsns-without t tx ws
lsns-after t n (Prepare tx home predecessors) ws = refl
lsns-after t n (Commit tx parts) ws = refl
lsns-after t n (Abort tx) ws = refl
lsns-after t n (End tx) ws = refl
lsns-after t n (Restart run epoch) ws = refl
lsns-after t n (Add tx key by) ws = refl
lsns-after t n (Unadd tx undo_next key by) ws = lsns-without t tx ws
lsns-after t n Forgotten ws = refl
lsns-after t n (Check run' epoch' upto base) ws = refl

lsns-standing : (t : TxId) (n : ℕ) (log : List LogRecord) (ws : List StandingUpdate) → lsns t (standing_from n log ws) ≡ places_from t n (map link_of log) (lsns t ws)
lsns-standing t n [] ws = refl
lsns-standing t n (r ∷ rs) ws = lsns-standing t (suc n) rs (standing_after n r ws) ∙ ap (places_from t (suc n) (map link_of rs)) (lsns-after t n r ws)

places-standing : (t : TxId) (log : List LogRecord) → lsns t (standing log) ≡ places t (map link_of log)
unfolding lsns
places-standing t log = lsns-standing t 0 log []

-- the newest write that stands, and the one below it
pub newest_told : (t : TxId) (log : List LogRecord) → newest_lsn t (standing log) ≡ first (places t (map link_of log))
newest_told t log = newest_lsn-first t (standing log) ∙ ap first (places-standing t log)

pub second_newest_told : (t : TxId) (log : List LogRecord) → newest_lsn t (without_newest t (standing log)) ≡ first (others (places t (map link_of log)))
second_newest_told t log =
    newest_lsn-first t (without_newest t (standing log))
    ∙ ap first (lsns-without t t (standing log) ∙ cond-true (tx_same t t) (others (lsns t (standing log))) (lsns t (standing log)) (tx_self t) ∙ ap others (places-standing t log))

-- whether some write stands, and how many
any_first : (t : TxId) (ws : List StandingUpdate) → is_some (first (lsns t ws)) ≡ list_any (λ w. tx_same t w.tx) ws
unfolding lsns
any_first t [] = refl
any_first t (w ∷ ws) = at (tx_same t w.tx) (any_first t ws)
  where
    at : (b : Bool) → is_some (first (lsns t ws)) ≡ list_any (λ v. tx_same t v.tx) ws → is_some (first (cond b (w.lsn ∷ lsns t ws) (lsns t ws))) ≡ (b || list_any (λ v. tx_same t v.tx) ws)
    at true h = refl
    at false h = h

pub any_told : (t : TxId) (log : List LogRecord) → is_some (first (places t (map link_of log))) ≡ has_standing log t
any_told t log = ap (λ ps. is_some (first ps)) (sym (places-standing t log)) ∙ any_first t (standing log)

count_lsns : (t : TxId) (ws : List StandingUpdate) → length (lsns t ws) ≡ length (filter (λ w. tx_same t w.tx) ws)
unfolding lsns
count_lsns t [] = refl
count_lsns t (w ∷ ws) = at (tx_same t w.tx) (count_lsns t ws)
  where
    at : (b : Bool) → length (lsns t ws) ≡ length (filter (λ v. tx_same t v.tx) ws)
        → length (cond b (w.lsn ∷ lsns t ws) (lsns t ws)) ≡ length (cond b (w ∷ filter (λ v. tx_same t v.tx) ws) (filter (λ v. tx_same t v.tx) ws))
    at true h = ap suc h
    at false h = h

pub count_told : (t : TxId) (log : List LogRecord) → length (places t (map link_of log)) ≡ length (filter (λ w. tx_same t w.tx) (standing log))
count_told t log = ap length (sym (places-standing t log)) ∙ count_lsns t (standing log)

-- ---- the last CLR or UNADD

undo_of : (t : TxId) (r : LogRecord) → undoes_of t (link_of r) ≡ is_undo_of t r
undo_of t (Update tx key before after) = refl
undo_of t (Clr tx undo_next key after) = refl
undo_of t (Prepare tx home predecessors) = refl
undo_of t (Commit tx parts) = refl
undo_of t (Abort tx) = refl
undo_of t (End tx) = refl
undo_of t (Restart run epoch) = refl
undo_of t (Add tx key by) = refl
undo_of t (Unadd tx undo_next key by) = refl
undo_of t Forgotten = refl
undo_of t (Check run' epoch' upto base) = refl

undone_from : (t : TxId) (n : ℕ) (so_far : Option ℕ) (log : List LogRecord) → last_undo_from t n so_far (map link_of log) ≡ last_place_from n so_far (is_undo_of t) log
undone_from t n so_far [] = refl
undone_from t n so_far (r ∷ rs) =
    undone_from t (suc n) (cond (undoes_of t (link_of r)) (Some n) so_far) rs ∙ ap (λ b. last_place_from (suc n) (cond b (Some n) so_far) (is_undo_of t) rs) (undo_of t r)

pub undone_told : (t : TxId) (log : List LogRecord) → last_undo t (map link_of log) ≡ undone_lsn log t
undone_told t log = undone_from t 0 None log
