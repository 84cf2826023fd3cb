-- The records of those that win, one write that stands after another.
use Rattle.std.proofs.Common.{◌≡◌, ℕ, ◌+◌, ◌<◌, Bool, true, false, cond, not, ◌||◌, ◌==◌, List, [], ◌∷◌, drop, get_or, map, length, Option, Some, None, is_some, refl, sym, ap, ◌∙◌, eq-eqb, arith}
use Rattle.std.specs.List.{filter}
use Rattle.std.specs.Map.{lookup}
use Rattle.std.specs.declared.cmp.Ordering.{Ordering}
use Rattle.std.specs.declared.cmp.Ordering.TheVariants.{Less, Equal, Greater}
use Rattle.std.specs.Ordering.{nat_cmp, match_ordering}
use Rattle.std.specs.Cmp.{unsigned_tied}
use Rattle.std.specs.FinMap.{put}
use Rattle.std.specs.FinMap.Entries.{by_order}
use Rattle.std.proofs.Math.Path.{fun_ext}
use Rattle.std.proofs.lemmas.Bool.{ne_eqb}
use Rattle.std.proofs.lemmas.List.{drop_more}
use Rattle.std.proofs.lemmas.Bool.Decides.{nat_tests}
use Rattle.clv_base.specs.declared.values.Value.{Value as ValueType}
use Rattle.clv_base.specs.declared.names.TxId.{TxId}
use Rattle.clv_base.specs.declared.logs.LogRecord.{LogRecord}
use Rattle.clv_base.specs.declared.changes.Change.{Change}
use Rattle.clv_base.specs.declared.changes.Change.TheVariants.{Sets, Adds}
use Rattle.clv_base.specs.declared.modes.Found.TheVariants.{Absent}
use Rattle.clv_base.specs.Orders.{Table, tx_in}
use Rattle.clv_base.specs.Maps.{KeyMap, map_get, map_set}
use Rattle.clv_base.specs.Logs.{StandingUpdate, standing, is_commit_of, committed_in, is_winner, in_doubt, fold_updates}
use Rattle.clv_base.specs.Needs.{Records, found_at, found_by, live_of, value_at, record_set}
use Rattle.clv_base.specs.OneShard.{update_of}
use Rattle.clv_base.specs.Restarts.{records_of, with_ghosts, ghost_if_absent}
use Rattle.log_analysis.specs.declared.facts.TxFacts.{TxFacts}
use Rattle.log_analysis.specs.Facts.{Knows, known}
use Rattle.cascade_undo.proofs.Laws.{both}
use Rattle.shard_recovery.specs.Winning.{wins_in, with_ghost, records_after}
use Rattle.law_base.proofs.Lists.{elem_at}
use Rattle.log_analysis.proofs.Laws.Standing.{write_inside, write_there}
use Rattle.law_base.proofs.Logs.{place_is as is_some_place}
use Rattle.law_base.proofs.Numbers.{unequal_flip as apart}
use Rattle.law_base.proofs.Names.{set_by}

-- ---- a record taken away

abbrev is_other : ℕ → ℕ × Option ValueType → Bool
is_other k r = not (r.0 == k)

some_found : (v : Option ValueType) → found_by (Some v) ≡ Absent → ⊥
some_found None e = absurd cc
some_found (Some x) e = absurd cc

pub none_gone : (k : ℕ) (rs : Records) → found_at k rs ≡ Absent → rs ≡ filter (λ r. not (r.0 == k)) rs
none_gone k [] e = refl
none_gone k (r ∷ rs) e =
    both (λ b. (k == r.0) ≡ b → found_by (cond b (Some r.1) (lookup (◌==◌ k) rs)) ≡ Absent → r ∷ rs ≡ filter (is_other k) (r ∷ rs)) (k == r.0)
    (λ _ _ h. absurd (some_found r.1 h))
    (λ _ o h. ap (λ l. r ∷ l) (none_gone k rs h) ∙ ap (λ b. cond (not b) (r ∷ filter (is_other k) rs) (filter (is_other k) rs)) (sym (apart k r.0 o))) refl e

pub found_set : (k : ℕ) (v : Option ValueType) (rs : Records) → lookup (◌==◌ k) (record_set k v rs) ≡ Some v
found_set k v [] = ap (λ b. cond b (Some v) None) (eq-eqb k k refl)
found_set k v (r ∷ rs) = at (nat_cmp k r.0) refl (found_set k v rs)
  where
    at : (o : Ordering) → nat_cmp k r.0 ≡ o → lookup (◌==◌ k) (record_set k v rs) ≡ Some v → lookup (◌==◌ k) (set_by o k v r rs) ≡ Some v
    at Less e more = ap (λ b. cond b (Some v) (lookup (◌==◌ k) (r ∷ rs))) (eq-eqb k k refl)
    at Equal e more = let same : k ≡ r.0 = grind (arith, nat_tests) in ap (λ b. cond b (Some v) (lookup (◌==◌ k) rs)) (eq-eqb k r.0 same)
    at Greater e more = let l : r.0 < k = grind (arith, nat_tests) in ap (λ b. cond b (Some r.1) (lookup (◌==◌ k) (record_set k v rs))) (ne_eqb k r.0 (λ s. absurd (omega arith))) ∙ more

pub set_gone : (k : ℕ) (v : Option ValueType) (rs : Records) → filter (λ r. not (r.0 == k)) (record_set k v rs) ≡ filter (λ r. not (r.0 == k)) rs
set_gone k v [] = ap (λ b. cond (not b) ((k, v) ∷ []) []) (eq-eqb k k refl)
set_gone k v (r ∷ rs) = at (nat_cmp k r.0) refl (set_gone k v rs)
  where
    at : (o : Ordering) → nat_cmp k r.0 ≡ o → filter (is_other k) (record_set k v rs) ≡ filter (is_other k) rs → filter (is_other k) (set_by o k v r rs) ≡ filter (is_other k) (r ∷ rs)
    at Less e more = ap (λ b. cond (not b) ((k, v) ∷ filter (is_other k) (r ∷ rs)) (filter (is_other k) (r ∷ rs))) (eq-eqb k k refl)
    at Equal e more =
        let same : r.0 ≡ k = grind (arith, nat_tests) in let is : (r.0 == k) ≡ true = eq-eqb r.0 k same in
        ap (λ b. cond (not b) ((r.0, v) ∷ filter (is_other k) rs) (filter (is_other k) rs)) is ∙ sym (ap (λ b. cond (not b) (r ∷ filter (is_other k) rs) (filter (is_other k) rs)) is)
    at Greater e more = ap (λ l. cond (not (r.0 == k)) (r ∷ l) l) more

-- ---- a record that is set twice

self : (k : ℕ) → nat_cmp k k ≡ Equal
self k = grind (arith, nat_tests)

pub set_twice : (k : ℕ) (v w : Option ValueType) (rs : Records) → record_set k v (record_set k w rs) ≡ record_set k v rs
set_twice k v w [] = ap (λ o. set_by o k v (k, w) []) (self k)
set_twice k v w (r ∷ rs) = at (nat_cmp k r.0) refl (set_twice k v w rs)
  where
    at : (o : Ordering) → nat_cmp k r.0 ≡ o → record_set k v (record_set k w rs) ≡ record_set k v rs → record_set k v (set_by o k w r rs) ≡ set_by o k v r rs
    at Less e more = ap (λ o. set_by o k v (k, w) (r ∷ rs)) (self k)
    at Equal e more = ap (λ o. set_by o k v (r.0, w) rs) e
    at Greater e more = ap (λ o. set_by o k v r (record_set k w rs)) e ∙ ap (λ l. r ∷ l) more

-- ---- records of a map

pub records_set : (k : ℕ) (v : ValueType) (m : KeyMap) → record_set k (Some v) (records_of m) ≡ records_of (put nat_cmp k v m)
records_set k v [] = refl
records_set k v (e ∷ es) = at (nat_cmp k e.0) (records_set k v es)
  where
    at : (o : Ordering) → record_set k (Some v) (records_of es) ≡ records_of (put nat_cmp k v es)
        → match_ordering o ((k, Some v) ∷ (e.0, Some e.1) ∷ records_of es) ((e.0, Some v) ∷ records_of es) ((e.0, Some e.1) ∷ record_set k (Some v) (records_of es))
        ≡ records_of (by_order o ((k, v) ∷ e ∷ es) ((e.0, v) ∷ es) (e ∷ put nat_cmp k v es))
    at Less ih = refl
    at Equal ih = refl
    at Greater ih = ap (λ l. (e.0, Some e.1) ∷ l) ih

pub records_gone : (k : ℕ) (m : KeyMap) → filter (λ r. not (r.0 == k)) (records_of m) ≡ records_of (map_set k None m)
records_gone k [] = refl
records_gone k (e ∷ es) =
    both (λ b. cond b ((e.0, Some e.1) ∷ filter (is_other k) (records_of es)) (filter (is_other k) (records_of es)) ≡ records_of (cond b (e ∷ map_set k None es) (map_set k None es))) (not (e.0 == k))
    (λ _. ap (λ l. (e.0, Some e.1) ∷ l) (records_gone k es)) (λ _. records_gone k es)

-- the value at a key
pub value_of : (k : ℕ) (m : KeyMap) → value_at k (records_of m) ≡ map_get k m
value_of k [] = refl
value_of k (e ∷ es) = at (k == e.0) (value_of k es) ∙ ap (λ b. cond b (Some e.1) (map_get k es)) (sym (unsigned_tied k e.0))
  where
    at : (b : Bool) → value_at k (records_of es) ≡ map_get k es → live_of (found_by (cond b (Some (Some e.1)) (lookup (◌==◌ k) (records_of es)))) ≡ cond b (Some e.1) (map_get k es)
    at true more = refl
    at false more = more

-- ---- the same by other tests

pub fold_alike : (f g : TxId → Bool) → ((t : TxId) → f t ≡ g t) → (log : List LogRecord) (m : KeyMap) → fold_updates f log m ≡ fold_updates g log m
fold_alike f g h log m = ap (λ (keep : TxId → Bool). fold_updates keep log m) (fun_ext h)

pub ghosts_alike : (ts us : List TxId) → ((t : TxId) → tx_in t ts ≡ tx_in t us) → (ws : List StandingUpdate) (rs : Records) → with_ghosts ts ws rs ≡ with_ghosts us ws rs
ghosts_alike ts us h [] rs = refl
ghosts_alike ts us h (w ∷ ws) rs =
    ap (λ b. with_ghosts ts ws (cond b (ghost_if_absent w.key rs (found_at w.key rs)) rs)) (h w.tx)
    ∙ ghosts_alike ts us h ws (cond (tx_in w.tx us) (ghost_if_absent w.key rs (found_at w.key rs)) rs)

pub ghosts_of_nobody : (txs : List TxId) (ws : List StandingUpdate) (rs : Records) → txs ≡ [] → rs ≡ with_ghosts txs ws rs
ghosts_of_nobody txs [] rs none = refl
ghosts_of_nobody txs (w ∷ ws) rs none =
    ghosts_of_nobody txs ws rs none ∙ ap (λ b. with_ghosts txs ws (cond b (ghost_if_absent w.key rs (found_at w.key rs)) rs)) (sym (ap (tx_in w.tx) none))

-- ---- one write more

-- a ghost by the record of a write
pub ghost_by : (txs : List TxId) (tx : TxId) (key : ℕ) (c : Change) (rs : Records) → with_ghost txs (update_of tx key c) rs ≡ cond (tx_in tx txs) (ghost_if_absent key rs (found_at key rs)) rs
ghost_by txs tx key (Sets before after) rs = refl
ghost_by txs tx key (Adds by) rs = refl

-- with the write at one more LSN of what stands, from the newest on
pub ghosts_step :
    (txs : List TxId) (log : List LogRecord) (lsns : List ℕ) (i : ℕ) (r : LogRecord) (now next start : Records) → lsns ≡ map (λ w. w.lsn) (standing log) → i < length lsns → r ≡ get_or log (get_or lsns i 0) r
    → with_ghosts txs (drop i (standing log)) now ≡ with_ghosts txs (standing log) start → next ≡ with_ghost txs r now → with_ghosts txs (drop (i + 1) (standing log)) next ≡ with_ghosts txs (standing log) start
ghosts_step txs log lsns i r now next start are l is so_far made =
    let ws = standing log in let inside = write_inside log lsns i are l in let d = elem_at ws i inside in let w = get_or ws i d in
    ap (with_ghosts txs (drop (i + 1) ws)) (made ∙ ap (λ q. with_ghost txs q now) (is ∙ write_there log lsns i are l d r) ∙ ghost_by txs w.tx w.key w.change now)
    ∙ ap (λ vs. with_ghosts txs vs now) (sym (drop_more ws i d inside))
    ∙ so_far

-- ---- who wins

pub wins_known : (m : Table TxFacts) (log : List LogRecord) (doubtful : List TxId) (t : TxId) → Knows m log → (is_some (known m t).commit || tx_in t doubtful) ≡ wins_in log doubtful t
wins_known m log doubtful t knows = ap (λ b. b || tx_in t doubtful) (ap (λ (f : TxFacts). is_some f.commit) (knows t) ∙ is_some_place 0 (is_commit_of t) log)

-- the records of a restart, from sets that have the same members
pub filled : (shard : ℕ) (log : List LogRecord) (names doubtful : List TxId) (first last : Records) → ((t : TxId) → tx_in t names ≡ tx_in t doubtful) → doubtful ≡ in_doubt shard log
    → first ≡ records_of (fold_updates (wins_in log names) log []) → last ≡ with_ghosts names (standing log) first → last ≡ records_after shard log
filled shard log names doubtful first last same is f l =
    let alike : (t : TxId) → tx_in t names ≡ tx_in t (in_doubt shard log) = λ t. same t ∙ ap (tx_in t) is in
    l ∙ ghosts_alike names (in_doubt shard log) alike (standing log) first
    ∙ ap (with_ghosts (in_doubt shard log) (standing log)) (f ∙ ap records_of (fold_alike (wins_in log names) (is_winner shard log) (λ t. ap (λ b. committed_in log t || b) (alike t)) log []))
