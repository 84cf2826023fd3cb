-- A record that is passed on the way back from a log's end.
use Rattle.std.proofs.Common.{◌≡◌, ℕ, suc, ◌+◌, ◌-◌, ◌<◌, ◌≤◌, ◌⊎◌, ⊎_elim, Bool, true, false, cond, List, [], ◌∷◌, ◌++◌, map, length, drop, get_or, nat_lt, Option, Result, Ok, Err, OnOk, refl, sym, ap, subst, ◌∙◌, append_assoc, arith}
use Rattle.std.proofs.Math.Seq.{drop-length}
use Rattle.std.proofs.lemmas.Bool.{both_ways}
use Rattle.std.proofs.lemmas.List.{drop_more}
use Rattle.clv_base.specs.declared.names.TxId.{TxId}
use Rattle.clv_base.specs.declared.values.Value.{Value as ValueType}
use Rattle.clv_base.specs.declared.logs.LogRecord.{LogRecord}
use Rattle.clv_base.specs.declared.logs.LogRecord.TheVariants.{Update, Clr, Add, Unadd}
use Rattle.clv_base.specs.declared.changes.Change.TheVariants.{Sets, Adds}
use Rattle.clv_base.specs.Orders.{tx_same}
use Rattle.clv_base.specs.Logs.{StandingUpdate, standing_after, standing_from, without_newest}
use Rattle.clv_base.proofs.SameNames.{tx_true, tx_self}
use Rattle.law_base.proofs.Sets.{same_flip as tx_symmetric}
use Rattle.log_analysis.specs.Standing.{one_more, one_fewer, left_of, lsns_left, Passes}

-- by what is owed to each
fewer_same : (tx : TxId) (f g : TxId → ℕ) → ((t : TxId) → f t ≡ g t) → (t : TxId) → one_fewer tx f t ≡ one_fewer tx g t
fewer_same tx f g same t = ap (λ n. cond (tx_same tx t) (n - 1) (f t)) (same tx) ∙ ap (cond (tx_same tx t) (g tx - 1)) (same t)

left_same : (f g : TxId → ℕ) → ((t : TxId) → f t ≡ g t) → (ws : List StandingUpdate) → left_of f ws ≡ left_of g ws
left_same f g same [] = refl
left_same f g same (w ∷ ws) =
    ap (λ n. cond (nat_lt 0 n) (left_of (one_fewer w.tx f) ws) (w ∷ left_of f ws)) (same w.tx)
    ∙ ap (λ vs. cond (nat_lt 0 (g w.tx)) vs (w ∷ left_of f ws)) (left_same (one_fewer w.tx f) (one_fewer w.tx g) (fewer_same w.tx f g same) ws)
    ∙ ap (λ vs. cond (nat_lt 0 (g w.tx)) (left_of (one_fewer w.tx g) ws) (w ∷ vs)) (left_same f g same ws)

-- nothing owed, all left
nothing_owed : (owed : TxId → ℕ) → ((t : TxId) → owed t ≡ 0) → (ws : List StandingUpdate) → left_of owed ws ≡ ws
nothing_owed owed none [] = refl
nothing_owed owed none (w ∷ ws) = ap (λ n. cond (nat_lt 0 n) (left_of (one_fewer w.tx owed) ws) (w ∷ left_of owed ws)) (none w.tx) ∙ ap (λ vs. w ∷ vs) (nothing_owed owed none ws)

pub all_left : (owed : TxId → ℕ) → ((t : TxId) → owed t ≡ 0) → (ws : List StandingUpdate) → lsns_left owed ws ≡ map (λ w. w.lsn) ws
all_left owed none ws = ap (map (λ (w : StandingUpdate). w.lsn)) (nothing_owed owed none ws)

-- one more and one fewer of the same, and of others
back_again : (tx : TxId) (owed : TxId → ℕ) (t : TxId) → one_fewer tx (one_more tx owed) t ≡ owed t
back_again tx owed t = at (tx_same tx t) refl
  where
    at : (b : Bool) → tx_same tx t ≡ b → cond b (cond (tx_same tx tx) (owed tx + 1) (owed tx) - 1) (cond b (owed tx + 1) (owed t)) ≡ owed t
    at true e = ap (λ c. cond c (owed tx + 1) (owed tx) - 1) (tx_self tx) ∙ (let n : (owed tx + 1) - 1 ≡ owed tx = omega arith in n) ∙ ap owed (tx_true tx t e)
    at false e = refl

apart_swap : (tx u : TxId) (owed : TxId → ℕ) → tx_same tx u ≡ false → (t : TxId) → one_more tx (one_fewer u owed) t ≡ one_fewer u (one_more tx owed) t
apart_swap tx u owed apart t = at (tx_same tx t) (tx_same u t) refl refl
  where
    at : (a b : Bool) → tx_same tx t ≡ a → tx_same u t ≡ b
        → cond a (cond (tx_same u tx) (owed u - 1) (owed tx) + 1) (cond b (owed u - 1) (owed t)) ≡ cond b (cond (tx_same tx u) (owed tx + 1) (owed u) - 1) (cond a (owed tx + 1) (owed t))
    at true true e f = absurd (both_ways _ apart (ap (λ x. tx_same x u) (tx_true tx t e) ∙ tx_symmetric t u ∙ f))
    at true false e f = ap (λ c. cond c (owed u - 1) (owed tx) + 1) (tx_symmetric u tx ∙ apart)
    at false true e f = sym (ap (λ c. cond c (owed tx + 1) (owed u) - 1) apart)
    at false false e f = refl

some_owed : (tx : TxId) (owed : TxId → ℕ) (u : TxId) → tx_same tx u ≡ true → nat_lt 0 (one_more tx owed u) ≡ true
some_owed tx owed u e = ap (λ c. nat_lt 0 (cond c (owed tx + 1) (owed u))) e ∙ above (owed tx)
  where
    above : (n : ℕ) → nat_lt 0 (n + 1) ≡ true
    above n = grind arith

-- a compensation is passed: one more is owed to its transaction
undo_left : (tx : TxId) (owed : TxId → ℕ) (ws : List StandingUpdate) → left_of (one_more tx owed) ws ≡ left_of owed (without_newest tx ws)
undo_left tx owed [] = refl
undo_left tx owed (w ∷ ws) = at (tx_same tx w.tx) refl (undo_left tx owed ws) (undo_left tx (one_fewer w.tx owed) ws)
  where
    at : (b : Bool) → tx_same tx w.tx ≡ b → left_of (one_more tx owed) ws ≡ left_of owed (without_newest tx ws)
        → left_of (one_more tx (one_fewer w.tx owed)) ws ≡ left_of (one_fewer w.tx owed) (without_newest tx ws)
        → left_of (one_more tx owed) (w ∷ ws) ≡ left_of owed (cond b ws (w ∷ without_newest tx ws))
    at true e rest fewer =
        ap (λ c. cond c (left_of (one_fewer w.tx (one_more tx owed)) ws) (w ∷ left_of (one_more tx owed) ws)) (some_owed tx owed w.tx e)
        ∙ left_same (one_fewer w.tx (one_more tx owed)) owed (λ t. ap (λ x. one_fewer x (one_more tx owed) t) (sym (tx_true tx w.tx e)) ∙ back_again tx owed t) ws
    at false e rest fewer =
        ap (λ n. cond (nat_lt 0 n) (left_of (one_fewer w.tx (one_more tx owed)) ws) (w ∷ left_of (one_more tx owed) ws)) (ap (λ c. cond c (owed tx + 1) (owed w.tx)) e)
        ∙ ap (λ vs. cond (nat_lt 0 (owed w.tx)) vs (w ∷ left_of (one_more tx owed) ws))
        (left_same (one_fewer w.tx (one_more tx owed)) (one_more tx (one_fewer w.tx owed)) (λ t. sym (apart_swap tx w.tx owed e t)) ws ∙ fewer)
        ∙ ap (λ vs. cond (nat_lt 0 (owed w.tx)) (left_of (one_fewer w.tx owed) (without_newest tx ws)) (w ∷ vs)) rest

pub undo_passed : (owed owed' : TxId → ℕ) (lsns : List ℕ) (tx : TxId) → ((t : TxId) → owed' t ≡ one_more tx owed t) → (ws : List StandingUpdate) → lsns ++ lsns_left owed' ws ≡ lsns ++ lsns_left owed (without_newest tx ws)
undo_passed owed owed' lsns tx set ws = ap (λ vs. lsns ++ map (λ (w : StandingUpdate). w.lsn) vs) (left_same owed' (one_more tx owed) set ws ∙ undo_left tx owed ws)

-- a write is passed: it stands where none is owed to its transaction
pub write_passed : (owed owed' : TxId → ℕ) (lsns lsns' : List ℕ) (w : StandingUpdate)
    → lsns' ≡ cond (nat_lt 0 (owed w.tx)) lsns (lsns ++ w.lsn ∷ []) → ((t : TxId) → owed' t ≡ cond (nat_lt 0 (owed w.tx)) (one_fewer w.tx owed t) (owed t))
    → (ws : List StandingUpdate) → lsns' ++ lsns_left owed' ws ≡ lsns ++ lsns_left owed (w ∷ ws)
write_passed owed owed' lsns lsns' w told set ws = at (nat_lt 0 (owed w.tx)) told set
  where
    at : (b : Bool) → lsns' ≡ cond b lsns (lsns ++ w.lsn ∷ []) → ((t : TxId) → owed' t ≡ cond b (one_fewer w.tx owed t) (owed t))
        → lsns' ++ lsns_left owed' ws ≡ lsns ++ map (λ (v : StandingUpdate). v.lsn) (cond b (left_of (one_fewer w.tx owed) ws) (w ∷ left_of owed ws))
    at true told set = ap (λ l. l ++ lsns_left owed' ws) told ∙ ap (λ vs. lsns ++ map (λ (v : StandingUpdate). v.lsn) vs) (left_same owed' (one_fewer w.tx owed) set ws)
    at false told set =
        ap (λ l. l ++ lsns_left owed' ws) told ∙ append_assoc lsns (w.lsn ∷ []) (lsns_left owed' ws) ∙ ap (λ vs. lsns ++ (w.lsn ∷ map (λ (v : StandingUpdate). v.lsn) vs)) (left_same owed' owed set ws)

-- ---- as a record says

pub record_undone : (owed owed' : TxId → ℕ) (lsns : List ℕ) (n : ℕ) (r : LogRecord) (tx : TxId)
    → ((u : Option ℕ) × (key : ℕ) × (after : Option ValueType) × (r ≡ Clr tx u key after)) ⊎ ((u : Option ℕ) × (key : ℕ) × (by : ℕ) × (r ≡ Unadd tx u key by))
    → ((t : TxId) → owed' t ≡ one_more tx owed t) → Passes owed lsns n r owed' lsns
record_undone owed owed' lsns n r tx is set =
    ⊎_elim
    (λ h. subst (λ x. Passes owed lsns n x owed' lsns) (sym h.3) (undo_passed owed owed' lsns tx set))
    (λ h. subst (λ x. Passes owed lsns n x owed' lsns) (sym h.3) (undo_passed owed owed' lsns tx set))
    is

pub record_written : (owed owed' : TxId → ℕ) (lsns lsns' : List ℕ) (n : ℕ) (r : LogRecord) (tx : TxId)
    → ((key : ℕ) × (before : Option ValueType) × (after : Option ValueType) × (r ≡ Update tx key before after)) ⊎ ((key : ℕ) × (by : ℕ) × (r ≡ Add tx key by))
    → lsns' ≡ cond (nat_lt 0 (owed tx)) lsns (lsns ++ n ∷ []) → ((t : TxId) → owed' t ≡ cond (nat_lt 0 (owed tx)) (one_fewer tx owed t) (owed t)) → Passes owed lsns n r owed' lsns'
record_written owed owed' lsns lsns' n r tx is told set =
    ⊎_elim
    (λ h. subst (λ x. Passes owed lsns n x owed' lsns') (sym h.3) (write_passed owed owed' lsns lsns' (record { lsn = n; tx = tx; key = h.0; change = Sets h.1 h.2 }) told set))
    (λ h. subst (λ x. Passes owed lsns n x owed' lsns') (sym h.2) (write_passed owed owed' lsns lsns' (record { lsn = n; tx = tx; key = h.0; change = Adds h.1 }) told set))
    is

pub on_ok_both : {T E P Q R : Type 0} (r : Result T E) → (P → Q → R) → OnOk r P → OnOk r Q → OnOk r R
on_ok_both (Ok x) f p q = f p q
on_ok_both (Err e) f p q = tt

-- ---- along the way

abbrev lsns_of : List StandingUpdate → List ℕ
lsns_of ws = map (λ w. w.lsn) ws

pub begins_back : (records : List LogRecord) (lsns : List ℕ) (owed : TxId → ℕ) → lsns ≡ [] → ((t : TxId) → owed t ≡ 0)
    → (ws : List StandingUpdate) → lsns ++ lsns_left owed ws ≡ lsns_of (standing_from (length records) (drop (length records) records) ws)
begins_back records lsns owed nothing none ws =
    ap (λ l. l ++ lsns_left owed ws) nothing ∙ all_left owed none ws ∙ sym (ap (λ rs. lsns_of (standing_from (length records) rs ws)) (drop-length records))

pub steps_back : (records : List LogRecord) (m : ℕ) (r : LogRecord) (owed owed' : TxId → ℕ) (lsns lsns' : List ℕ) → 0 < m → m ≤ length records → r ≡ get_or records (m - 1) r
    → ((ws : List StandingUpdate) → lsns ++ lsns_left owed ws ≡ lsns_of (standing_from m (drop m records) ws)) → Passes owed lsns (m - 1) r owed' lsns'
    → (ws : List StandingUpdate) → lsns' ++ lsns_left owed' ws ≡ lsns_of (standing_from (m - 1) (drop (m - 1) records) ws)
steps_back records m r owed owed' lsns lsns' some within is so_far passes ws =
    let lt : m - 1 < length records = omega arith in let next : suc (m - 1) ≡ m = omega arith in let place : (m - 1) + 1 ≡ m = omega arith in
    passes ws ∙ so_far (standing_after (m - 1) r ws)
    ∙ sym (
    ap (λ rs. lsns_of (standing_from (m - 1) rs ws)) (drop_more records (m - 1) r lt ∙ ap (λ x. x ∷ drop ((m - 1) + 1) records) (sym is))
    ∙ ap (λ k. lsns_of (standing_from k (drop ((m - 1) + 1) records) (standing_after (m - 1) r ws))) next
    ∙ ap (λ k. lsns_of (standing_from m (drop k records) (standing_after (m - 1) r ws))) place
    )
