-- What an undo leaves of the standing writes and of the records.
use Rattle.std.proofs.Common.{◌≡◌, ℕ, suc, ◌+◌, ⊎_elim, Bool, true, false, cond, not, ◌&&◌, ◌||◌, List, [], ◌∷◌, ◌++◌, map, length, Option, Some, None, ◌==◌, refl, sym, ap, subst, ◌∙◌, eqb-true, append_assoc}
use Rattle.std.specs.List.{AllByRecursion, filter}
use Rattle.std.proofs.lemmas.Bool.{cases_Bool, both_ways, cond-true, cond-false, false_from_ne_true, not-true}
use Rattle.clv_base.specs.declared.values.Value.{Value as ValueType}
use Rattle.clv_base.specs.declared.names.TxId.{TxId}
use Rattle.clv_base.specs.declared.logs.LogRecord.{LogRecord}
use Rattle.clv_base.specs.declared.logs.LogRecord.TheVariants.{Abort}
use Rattle.clv_base.specs.Orders.{tx_same, tx_in}
use Rattle.clv_base.specs.declared.changes.Change.{Change}
use Rattle.clv_base.specs.declared.changes.Change.TheVariants.{Sets, Adds}
use Rattle.clv_base.specs.Maps.{KeyMap, plus}
use Rattle.clv_base.specs.Logs.{StandingUpdate, changed, unchanged, is_setting, standing, standing_from, standing_after, without_newest, has_standing}
use Rattle.clv_base.specs.Undo.{undone_at, records_without, compensation, aborts_of, clrs_by, clrs_of, is_of, newest_lsn}
use Rattle.clv_base.specs.Needs.{Records, value_at}
use Rattle.law_base.proofs.Cells.{record_at, live_by, live_some}
use Rattle.law_base.specs.Undone.{stays_by, stays_of}
use Rattle.law_base.specs.Items.{Item, wrote, on_top, pile}
use Rattle.clv_base.proofs.SameNames.{or_left, or_right, tx_self, tx_true}
use Rattle.clv_base.proofs.Sums.{minus_plus, minus_over_plus}
use Rattle.law_base.proofs.Lists.{all_mono, all_of, all_push}
pub use Rattle.law_base.proofs.Standing.{standing_append}
use Rattle.law_base.proofs.Standing.{has_write, has_filter}
use Rattle.law_base.proofs.Running.{top_value}

-- ---- what stands after undo records

pub standing_aborts : (n : ℕ) (ts : List TxId) (rs : List LogRecord) (ws : List StandingUpdate) → (k : ℕ) × (standing_from n (map (λ t. Abort t) ts ++ rs) ws ≡ standing_from k rs ws)
standing_aborts n [] rs ws = (n, refl)
standing_aborts n (t ∷ ts) rs ws = standing_aborts (suc n) ts rs ws

abbrev NoneOf : TxId → List StandingUpdate → Type 0
NoneOf t ws = AllByRecursion (λ v. tx_same t v.tx ≡ false) ws

drop_first : (t : TxId) (pre : List StandingUpdate) (w : StandingUpdate) (ws : List StandingUpdate) → NoneOf t pre → tx_same t w.tx ≡ true → without_newest t (pre ++ w ∷ ws) ≡ pre ++ ws
drop_first t [] w ws none e = cond-true _ _ _ e
drop_first t (v ∷ vs) w ws none e = cond-false _ _ _ none.0 ∙ ap (λ l. v ∷ l) (drop_first t vs w ws none.1 e)

-- of each transaction the newest writes are taken back: where one stays, its older ones stay
abbrev pub NewestGo : (StandingUpdate → Bool) → List StandingUpdate → Type 0
NewestGo gone [] = Unit {0}
NewestGo gone (w ∷ ws) = (gone w ≡ false → AllByRecursion (λ v. tx_same v.tx w.tx ≡ true → gone v ≡ false) ws) × NewestGo gone ws

-- the same of writes that stay and all older ones
abbrev StayOver : (StandingUpdate → Bool) → List StandingUpdate → List StandingUpdate → Type 0
StayOver gone pre ws = AllByRecursion (λ p. AllByRecursion (λ v. tx_same v.tx p.tx ≡ true → gone v ≡ false) ws) pre

none_of : (gone : StandingUpdate → Bool) (w : StandingUpdate) (pre ws : List StandingUpdate) → gone w ≡ true → StayOver gone pre (w ∷ ws) → NoneOf w.tx pre
none_of gone w pre ws e over = all_mono _ _ (λ p h. false_from_ne_true _ (λ s. both_ways (gone w) (h.0 s) e)) pre over

pub compensates : (n : ℕ) (tx : TxId) (next : Option ℕ) (key : ℕ) (change : Change) (ws : List StandingUpdate) → standing_after n (compensation tx next key change) ws ≡ without_newest tx ws
compensates n tx next key (Sets before after) ws = refl
compensates n tx next key (Adds by) ws = refl

pub standing_clrs_by : (gone : StandingUpdate → Bool) (n : ℕ) (pre ws : List StandingUpdate) → StayOver gone pre ws → NewestGo gone ws → standing_from n (clrs_by gone ws) (pre ++ ws) ≡ pre ++ filter (stays_by gone) ws
standing_clrs_by gone n pre [] over newest = refl
standing_clrs_by gone n pre (w ∷ ws) over newest =
    ⊎_elim
    (λ e. ap (λ rs. standing_from n rs (pre ++ w ∷ ws)) (cond-true (gone w) (compensation w.tx (newest_lsn w.tx ws) w.key w.change ∷ clrs_by gone ws) (clrs_by gone ws) e)
    ∙ ap (standing_from (suc n) (clrs_by gone ws)) (compensates n w.tx (newest_lsn w.tx ws) w.key w.change (pre ++ w ∷ ws) ∙ drop_first w.tx pre w ws (none_of gone w pre ws e over) (tx_self w.tx))
    ∙ standing_clrs_by gone (suc n) pre ws (all_mono _ _ (λ p h. h.1) pre over) newest.1
    ∙ ap (λ b. pre ++ cond (not b) (w ∷ filter (stays_by gone) ws) (filter (stays_by gone) ws)) (sym e))
    (λ e. ap (λ rs. standing_from n rs (pre ++ w ∷ ws)) (cond-false (gone w) (compensation w.tx (newest_lsn w.tx ws) w.key w.change ∷ clrs_by gone ws) (clrs_by gone ws) e)
    ∙ ap (standing_from n (clrs_by gone ws)) (sym (append_assoc pre (w ∷ []) ws))
    ∙ standing_clrs_by gone n (pre ++ w ∷ []) ws (all_push _ pre w (all_mono _ _ (λ p h. h.1) pre over) (newest.0 e)) newest.1
    ∙ append_assoc pre (w ∷ []) (filter (stays_by gone) ws)
    ∙ ap (λ b. pre ++ cond (not b) (w ∷ filter (stays_by gone) ws) (filter (stays_by gone) ws)) (sym e))
    (cases_Bool (gone w))

-- after the CLRs and UNADDs of a test exactly the other writes stand
pub standing_undone_by : (gone : StandingUpdate → Bool) (log : List LogRecord) → NewestGo gone (standing log) → standing (log ++ clrs_by gone (standing log)) ≡ filter (stays_by gone) (standing log)
standing_undone_by gone log newest = standing_append 0 log (clrs_by gone (standing log)) [] ∙ standing_clrs_by gone (0 + length log) [] (standing log) tt newest

-- those of a set are all writes of each of its transactions
whole_set : (set : List TxId) (u : TxId) (ws : List StandingUpdate) → tx_in u set ≡ false → AllByRecursion (λ v. tx_same v.tx u ≡ true → is_of set v ≡ false) ws
whole_set set u ws out = all_of _ (λ v s. subst (λ t. tx_in t set ≡ false) (sym (tx_true v.tx u s)) out) ws

pub set_newest : (set : List TxId) (ws : List StandingUpdate) → NewestGo (is_of set) ws
set_newest set [] = tt
set_newest set (w ∷ ws) = ((λ out. whole_set set w.tx ws out), set_newest set ws)

pub standing_clrs : (set : List TxId) (n : ℕ) (pre ws : List StandingUpdate) → AllByRecursion (λ v. stays_of set v ≡ true) pre → standing_from n (clrs_of set ws) (pre ++ ws) ≡ pre ++ filter (stays_of set) ws
standing_clrs set n pre ws all = standing_clrs_by (is_of set) n pre ws (all_mono _ _ (λ p h. whole_set set p.tx ws (not-true _ h)) pre all) (set_newest set ws)

pub standing_undone : (set : List TxId) (log : List LogRecord) → standing (log ++ aborts_of log set ++ clrs_of set (standing log)) ≡ filter (stays_of set) (standing log)
standing_undone set log =
    ap standing (append_assoc log (aborts_of log set) (clrs_of set (standing log)))
    ∙ standing_append 0 log (aborts_of log set ++ clrs_of set (standing log)) []
    ∙ (standing_aborts (0 + length log) (filter (has_standing log) set) (clrs_of set (standing log)) (standing log)).1
    ∙ standing_clrs set (standing_aborts (0 + length log) (filter (has_standing log) set) (clrs_of set (standing log)) (standing log)).0 [] (standing log) tt

-- of the others as much stands as before, of the set nothing
pub undone_has : (set : List TxId) (log : List LogRecord) (t : TxId) → has_standing (log ++ aborts_of log set ++ clrs_of set (standing log)) t ≡ (not (tx_in t set) && has_standing log t)
undone_has set log t = ap (λ ws. has_write ws t) (standing_undone set log) ∙ has_filter (λ u. not (tx_in u set)) (standing log) t

-- ---- each UPDATE names the value below it

abbrev pub IsOver : Change → Option ValueType → Type 0
IsOver (Sets before after) left = before ≡ left
IsOver (Adds by) left = Unit {0}

abbrev pub Chain : KeyMap → List StandingUpdate → Type 0
Chain floor [] = Unit {0}
Chain floor (w ∷ ws) = IsOver w.change (top_value floor w.key ws) × Chain floor ws

-- none of the writes that are taken back lies below one that stays, but that an ADD may stand over ADDs
abbrev pub Upward : (StandingUpdate → Bool) → List StandingUpdate → Type 0
Upward gone [] = Unit {0}
Upward gone (w ∷ ws) = (gone w ≡ false → AllByRecursion (λ v. v.key ≡ w.key → (is_setting v.change || is_setting w.change) ≡ true → gone v ≡ false) ws) × Upward gone ws

-- ---- the value at a key

-- where nothing at the key is taken back, its value stays
pub unwritten : (gone : StandingUpdate → Bool) (k : ℕ) (ws : List StandingUpdate) (v : Option ValueType) → AllByRecursion (λ w. w.key ≡ k → gone w ≡ false) ws → undone_at gone k ws v ≡ v
unwritten gone k [] v all = refl
unwritten gone k (w ∷ ws) v all =
    ap (undone_at gone k ws) (cond-false (gone w && (k == w.key)) (unchanged w.change v) v (at (gone w) (k == w.key) (λ e. all.0 (sym (eqb-true k w.key e)))))
    ∙ unwritten gone k ws v all.1
  where
    at : (a b : Bool) → (b ≡ true → a ≡ false) → (a && b) ≡ false
    at true true h = absurd (both_ways true (h refl) refl)
    at true false h = refl
    at false b h = refl

-- where only ADDs are, it comes to the same whether a number is added before or behind
add_behind : (gone : StandingUpdate → Bool) (k by : ℕ) (ws : List StandingUpdate) (v : Option ValueType) → AllByRecursion (λ w. w.key ≡ k → is_setting w.change ≡ true → gone w ≡ false) ws → undone_at gone k ws (plus by v) ≡ plus by (undone_at gone k ws v)
add_behind gone k by [] v all = refl
add_behind gone k by (w ∷ ws) v all =
    ap (undone_at gone k ws) (at (gone w) (k == w.key) w.change refl refl refl)
    ∙ add_behind gone k by ws (cond (gone w && (k == w.key)) (unchanged w.change v) v) all.1
  where
    at : (a b : Bool) (c : Change) → gone w ≡ a → (k == w.key) ≡ b → w.change ≡ c → cond (a && b) (unchanged c (plus by v)) (plus by v) ≡ plus by (cond (a && b) (unchanged c v) v)
    at true true (Adds n) i e f = minus_over_plus n by v
    at true true (Sets before after) i e f = absurd (both_ways _ (all.0 (sym (eqb-true k w.key e)) (ap is_setting f)) i)
    at true false c i e f = refl
    at false b c i e f = refl

-- what is undone of the fold is the fold of the other writes
pub undone_value : (floor : KeyMap) (gone : StandingUpdate → Bool) (k : ℕ) (ws : List StandingUpdate) → Chain floor ws → Upward gone ws → undone_at gone k ws (top_value floor k ws) ≡ top_value floor k (filter (stays_by gone) ws)
undone_value floor gone k [] chain up = refl
undone_value floor gone k (w ∷ ws) chain up = at (undone_value floor gone k ws chain.1 up.1) (gone w) (k == w.key) w.change refl refl refl
  where
    at : undone_at gone k ws (top_value floor k ws) ≡ top_value floor k (filter (stays_by gone) ws) → (a b : Bool) (c : Change) → gone w ≡ a → (k == w.key) ≡ b → w.change ≡ c
        → undone_at gone k ws (cond (a && b) (unchanged c (cond b (changed c (top_value floor k ws)) (top_value floor k ws))) (cond b (changed c (top_value floor k ws)) (top_value floor k ws)))
        ≡ top_value floor k (cond (not a) (w ∷ filter (stays_by gone) ws) (filter (stays_by gone) ws))
    at ih true true (Sets before after) i e f =
        ap (undone_at gone k ws) (subst (λ x. IsOver x (top_value floor w.key ws)) f chain.0 ∙ ap (λ j. top_value floor j ws) (sym (eqb-true k w.key e))) ∙ ih
    at ih true true (Adds n) i e f = ap (undone_at gone k ws) (minus_plus n (top_value floor k ws)) ∙ ih
    at ih true false c i e f = ih
    at ih false true (Sets before after) i e f =
        unwritten gone k ws after (all_mono _ _ (λ v h same. h (same ∙ eqb-true k w.key e) (or_right (is_setting v.change) _ (ap is_setting f))) ws (up.0 i))
        ∙ sym (cond-true (k == w.key) _ _ e ∙ ap (λ x. changed x (top_value floor k (filter (stays_by gone) ws))) f)
    at ih false true (Adds n) i e f =
        add_behind gone k n ws (top_value floor k ws) (all_mono _ _ (λ v h same sets. h (same ∙ eqb-true k w.key e) (or_left _ (is_setting w.change) sets)) ws (up.0 i))
        ∙ ap (plus n) ih
        ∙ sym (cond-true (k == w.key) _ _ e ∙ ap (λ x. changed x (top_value floor k (filter (stays_by gone) ws))) f)
    at ih false false c i e f = ih ∙ sym (cond-false (k == w.key) _ _ e)

-- where nothing at the key is taken back, the fold stays
pub top_stays : (floor : KeyMap) (gone : StandingUpdate → Bool) (k : ℕ) (ws : List StandingUpdate) → AllByRecursion (λ w. w.key ≡ k → gone w ≡ false) ws → top_value floor k (filter (stays_by gone) ws) ≡ top_value floor k ws
top_stays floor gone k [] all = refl
top_stays floor gone k (w ∷ ws) all = at (gone w) (k == w.key) refl refl (top_stays floor gone k ws all.1)
  where
    at : (a b : Bool) → gone w ≡ a → (k == w.key) ≡ b → top_value floor k (filter (stays_by gone) ws) ≡ top_value floor k ws
        → top_value floor k (cond (not a) (w ∷ filter (stays_by gone) ws) (filter (stays_by gone) ws)) ≡ cond b (changed w.change (top_value floor k ws)) (top_value floor k ws)
    at true true g e ih = absurd (both_ways _ (all.0 (sym (eqb-true k w.key e))) g)
    at true false g e ih = ih
    at false b g e ih = ap (λ c. cond c (changed w.change (top_value floor k (filter (stays_by gone) ws))) (top_value floor k (filter (stays_by gone) ws))) e ∙ ap (λ v. cond b (changed w.change v) v) ih

-- each UPDATE that stays names the value that is left below it
pub chain_stays : (floor : KeyMap) (gone : StandingUpdate → Bool) (ws : List StandingUpdate) → Upward gone ws → Chain floor ws → Chain floor (filter (stays_by gone) ws)
chain_stays floor gone [] up chain = tt
chain_stays floor gone (w ∷ ws) up chain = at (gone w) refl (chain_stays floor gone ws up.1 chain.1)
  where
    over : gone w ≡ false → (c : Change) → w.change ≡ c → IsOver c (top_value floor w.key ws) → IsOver c (top_value floor w.key (filter (stays_by gone) ws))
    over out (Sets before after) f e = e ∙ sym (top_stays floor gone w.key ws (all_mono _ _ (λ v h same. h same (or_right (is_setting v.change) _ (ap is_setting f))) ws (up.0 out)))
    over out (Adds by) f e = tt

    at : (b : Bool) → gone w ≡ b → Chain floor (filter (stays_by gone) ws) → Chain floor (cond (not b) (w ∷ filter (stays_by gone) ws) (filter (stays_by gone) ws))
    at true g ih = ih
    at false g ih = (over g w.change refl chain.0, ih)

-- ---- the records after it

abbrev pub reset : (StandingUpdate → Bool) → List StandingUpdate → ℕ → Option (Option ValueType) → Option (Option ValueType)
reset gone ws k None = None
reset gone ws k (Some v) = Some (undone_at gone k ws v)

pub record_undone : (gone : StandingUpdate → Bool) (ws : List StandingUpdate) (rs : Records) (k : ℕ) → record_at k (records_without gone ws rs) ≡ reset gone ws k (record_at k rs)
record_undone gone ws [] k = refl
record_undone gone ws (r ∷ rs) k =
    ⊎_elim
    (λ e. cond-true (k == r.0) (Some (undone_at gone r.0 ws r.1)) (record_at k (records_without gone ws rs)) e
    ∙ ap (λ j. Some (undone_at gone j ws r.1)) (sym (eqb-true k r.0 e))
    ∙ ap (reset gone ws k) (sym (cond-true (k == r.0) (Some r.1) (record_at k rs) e)))
    (λ e. cond-false (k == r.0) (Some (undone_at gone r.0 ws r.1)) (record_at k (records_without gone ws rs)) e
    ∙ record_undone gone ws rs k
    ∙ ap (reset gone ws k) (sym (cond-false (k == r.0) (Some r.1) (record_at k rs) e)))
    (cases_Bool (k == r.0))

-- where each write that is taken back has a record, the records' values are again those of the standing writes
abbrev pub HaveRecords : Records → (StandingUpdate → Bool) → List StandingUpdate → Type 0
HaveRecords rs gone ws = AllByRecursion (λ v. gone v ≡ true → record_at v.key rs ≡ None → ⊥) ws

live_case : (gone : StandingUpdate → Bool) (ws : List StandingUpdate) (k : ℕ) (o : Option (Option ValueType)) (t u : Option ValueType) → live_by o ≡ t → (o ≡ None → undone_at gone k ws t ≡ t) → undone_at gone k ws t ≡ u → live_by (reset gone ws k o) ≡ u
live_case gone ws k None t u e none h = e ∙ sym (none refl) ∙ h
live_case gone ws k (Some v) t u e none h = live_some (undone_at gone k ws v) ∙ ap (undone_at gone k ws) (sym (live_some v) ∙ e) ∙ h

pub values_undone : (floor : KeyMap) (gone : StandingUpdate → Bool) (ws : List StandingUpdate) (rs : Records) (k : ℕ) → Chain floor ws → Upward gone ws → HaveRecords rs gone ws → value_at k rs ≡ top_value floor k ws → value_at k (records_without gone ws rs) ≡ top_value floor k (filter (stays_by gone) ws)
values_undone floor gone ws rs k chain up have e =
    ap live_by (record_undone gone ws rs k)
    ∙ live_case gone ws k (record_at k rs) (top_value floor k ws) (top_value floor k (filter (stays_by gone) ws)) e
    (λ none. unwritten gone k ws (top_value floor k ws) (all_mono _ _ (λ v h same. ⊎_elim (λ i. absurd (h i (ap (λ j. record_at j rs) same ∙ none))) (λ i. i) (cases_Bool (gone v))) ws have))
    (undone_value floor gone k ws chain up)

-- ---- these facts from the items

-- whether a write stays is told by its item
abbrev pub TellsOf : (StandingUpdate → Bool) → (Item → Bool) → Item → Type 0
TellsOf stay keep x = (w : ℕ × Change) → wrote x ≡ Some w → stay (record { lsn = x.lsn; tx = x.tx; key = w.0; change = w.1 }) ≡ keep x

filter_top : (stay : StandingUpdate → Bool) (tx : TxId) (lsn : ℕ) (o : Option (ℕ × Change)) (b : Bool) (ws : List StandingUpdate) → ((w : ℕ × Change) → o ≡ Some w → stay (record { lsn = lsn; tx = tx; key = w.0; change = w.1 }) ≡ b)
    → filter stay (on_top tx lsn o ws) ≡ cond b (on_top tx lsn o (filter stay ws)) (filter stay ws)
filter_top stay tx lsn None true ws tells = refl
filter_top stay tx lsn None false ws tells = refl
filter_top stay tx lsn (Some w) b ws tells = ap (λ c. cond c (record { lsn = lsn; tx = tx; key = w.0; change = w.1 } ∷ filter stay ws) (filter stay ws)) (tells w refl)

pub pile_filter_by : (stay : StandingUpdate → Bool) (keep : Item → Bool) (xs : List Item) (ws : List StandingUpdate) → AllByRecursion (TellsOf stay keep) xs → filter stay (pile xs ws) ≡ pile (filter keep xs) (filter stay ws)
pile_filter_by stay keep [] ws tells = refl
pile_filter_by stay keep (x ∷ xs) ws tells =
    pile_filter_by stay keep xs (on_top x.tx x.lsn (wrote x) ws) tells.1
    ∙ ap (pile (filter keep xs)) (filter_top stay x.tx x.lsn (wrote x) (keep x) ws tells.0)
    ∙ at (keep x)
  where
    at : (b : Bool) → pile (filter keep xs) (cond b (on_top x.tx x.lsn (wrote x) (filter stay ws)) (filter stay ws)) ≡ pile (cond b (x ∷ filter keep xs) (filter keep xs)) (filter stay ws)
    at true = refl
    at false = refl

abbrev pub keeps_of : List TxId → Item → Bool
keeps_of set x = not (tx_in x.tx set)

pub pile_filter : (set : List TxId) (xs : List Item) (ws : List StandingUpdate) → filter (stays_of set) (pile xs ws) ≡ pile (filter (keeps_of set) xs) (filter (stays_of set) ws)
pile_filter set xs ws = pile_filter_by (stays_of set) (keeps_of set) xs ws (all_of _ (λ x w e. refl) xs)

-- what stays of the base
pub filter_all_by : (gone : StandingUpdate → Bool) (ws : List StandingUpdate) → AllByRecursion (λ v. gone v ≡ false) ws → filter (stays_by gone) ws ≡ ws
filter_all_by gone [] all = refl
filter_all_by gone (w ∷ ws) all = cond-true _ _ _ (ap not all.0) ∙ ap (λ l. w ∷ l) (filter_all_by gone ws all.1)

pub filter_all : (set : List TxId) (ws : List StandingUpdate) → AllByRecursion (λ v. tx_in v.tx set ≡ false) ws → filter (stays_of set) ws ≡ ws
filter_all set ws all = filter_all_by (is_of set) ws all
