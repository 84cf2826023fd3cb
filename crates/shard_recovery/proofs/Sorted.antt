-- Writes in the order of their keys leave the map that they leave in the log's order.
use Rattle.std.proofs.Common.{◌≡◌, ℕ, ◌<◌, Bool, true, false, cond, not, ◌&&◌, ◌==◌, List, [], ◌∷◌, ◌++◌, ◌+◌, ◌-◌, ◌≤◌, length, drop, get_or, map, Option, Some, None, append-nil, append_assoc, refl, sym, ap, ◌∙◌, eqb-true, arith}
use Rattle.std.specs.List.{filter, cons_option}
use Rattle.std.specs.List.Sorted.{ties, IsStableByKey}
use Rattle.std.specs.Ordering.{nat_cmp, is_lt}
use Rattle.std.specs.FinMap.{find}
use Rattle.std.proofs.lemmas.List.{drop_more}
use Rattle.std.proofs.lemmas.Bool.Decides.{nat_tests}
use Rattle.clv_base.specs.declared.values.Value.{Value as ValueType}
use Rattle.clv_base.specs.declared.names.TxId.{TxId}
use Rattle.clv_base.specs.declared.logs.LogRecord.{LogRecord}
use Rattle.clv_base.specs.declared.changes.Change.{Change}
use Rattle.clv_base.specs.declared.changes.Change.TheVariants.{Sets, Adds}
use Rattle.clv_base.specs.declared.values.Value.TheVariants.{Num, Bytes}
use Rattle.clv_base.specs.Maps.{KeyMap, map_get, map_set, with_pairs}
use Rattle.clv_base.specs.Folding.{IsRising}
use Rattle.clv_base.specs.Logs.{StandingUpdate, standing, with_change, fold_writes}
use Rattle.clv_base.specs.OneShard.{update_of}
use Rattle.clv_base.proofs.Folding.{get_set, rising_set, same_map}
use Rattle.law_base.proofs.Lists.{elem_at}
use Rattle.log_analysis.proofs.Laws.Standing.{write_inside, write_there}
use Rattle.shard_recovery.specs.declared.writes.Write.{Write}
use Rattle.shard_recovery.specs.declared.writes.Left.TheVariants.{Nothing, More}
use Rattle.shard_recovery.specs.Winning.{set_by, left_at, kept_write, kept_writes, begun, writes_after}

pub writes_more : (ws : List Write) (w : Write) (m : KeyMap) → writes_after (ws ++ w ∷ []) m ≡ map_set w.key (left_at w.left (map_get w.key (writes_after ws m))) (writes_after ws m)
writes_more [] w m = refl
writes_more (v ∷ ws) w m = writes_more ws w (map_set v.key (left_at v.left (map_get v.key m)) m)

-- with the write at one more LSN of what stands, from the oldest on
pub kept_more :
    (keep : TxId → Bool) (log : List LogRecord) (lsns : List ℕ) (n : ℕ) (r : LogRecord) → lsns ≡ map (λ w. w.lsn) (standing log) → 0 < n → n ≤ length lsns → r ≡ get_or log (get_or lsns (n - 1) 0) r
    → kept_writes keep (drop (n - 1) (standing log)) ≡ kept_writes keep (drop n (standing log)) ++ cons_option (kept_write keep r) []
kept_more keep log lsns n r are some within is =
    let i = n - 1 in let l : i < length lsns = omega arith in let ws = standing log in
    let inside = write_inside log lsns i are l in let d = elem_at ws i inside in let next : i + 1 ≡ n = omega arith in
    ap (kept_writes keep) (drop_more ws i d inside)
    ∙ ap (λ q. kept_writes keep (drop (i + 1) ws) ++ cons_option (kept_write keep q) []) (sym (is ∙ write_there log lsns i are l d r))
    ∙ ap (λ k. kept_writes keep (drop k ws) ++ cons_option (kept_write keep r) []) next

-- an UPDATE leaves what it sets
set_is : (after v : Option ValueType) → left_at (set_by after) v ≡ after
set_is None v = refl
set_is (Some (Num n)) v = refl
set_is (Some (Bytes b)) v = refl

kept_one : (keep : TxId → Bool) (tx : TxId) (key : ℕ) (c : Change) (vs : List Write) (m : KeyMap)
    → writes_after (vs ++ cons_option (kept_write keep (update_of tx key c)) []) m ≡ cond (keep tx) (with_change key c (writes_after vs m)) (writes_after vs m)
kept_one keep tx key (Sets before after) vs m = at (keep tx)
  where
    at : (b : Bool) → writes_after (vs ++ cons_option (cond b (Some (record { key = key; left = set_by after })) None) []) m ≡ cond b (map_set key after (writes_after vs m)) (writes_after vs m)
    at true = writes_more vs (record { key = key; left = set_by after }) m ∙ ap (λ x. map_set key x (writes_after vs m)) (set_is after (map_get key (writes_after vs m)))
    at false = ap (λ l. writes_after l m) (append-nil vs)
kept_one keep tx key (Adds by) vs m = at (keep tx)
  where
    at : (b : Bool) → writes_after (vs ++ cons_option (cond b (Some (record { key = key; left = More by })) None) []) m ≡ cond b (with_change key (Adds by) (writes_after vs m)) (writes_after vs m)
    at true = writes_more vs (record { key = key; left = More by }) m
    at false = ap (λ l. writes_after l m) (append-nil vs)

-- the writes of pairs put them
pub begun_fold : (ps : KeyMap) (ws : List Write) (m : KeyMap) → writes_after (begun ps ++ ws) m ≡ writes_after ws (with_pairs ps m)
begun_fold [] ws m = refl
begun_fold (p ∷ ps) ws m =
    let w : Write = record { key = p.0; left = set_by (Some p.1) } in
    ap (λ l. writes_after l m) (append_assoc (begun ps) (w ∷ []) ws)
    ∙ begun_fold ps (w ∷ ws) m
    ∙ ap (λ x. writes_after ws (map_set p.0 x (with_pairs ps m))) (set_is (Some p.1) (map_get p.0 (with_pairs ps m)))

-- with one pair more, from the last one on
pub begun_more : (base : KeyMap) (n : ℕ) (p : ℕ × ValueType) (ws next : List Write) → 0 < n → n ≤ length base → p ≡ get_or base (n - 1) p → ws ≡ begun (drop n base)
    → next ≡ ws ++ record { key = p.0; left = set_by (Some p.1) } ∷ [] → next ≡ begun (drop (n - 1) base)
begun_more base n p ws next some within read so_far made =
    let inside : n - 1 < length base = omega arith in
    let place : (n - 1) + 1 ≡ n = omega arith in
    made
    ∙ ap (λ l. l ++ record { key = p.0; left = set_by (Some p.1) } ∷ []) (so_far ∙ ap (λ k. begun (drop k base)) (sym place))
    ∙ ap (λ (q : ℕ × ValueType). begun (q ∷ drop ((n - 1) + 1) base)) read
    ∙ ap begun (sym (drop_more base (n - 1) p inside))

pub kept_fold : (keep : TxId → Bool) (ws : List StandingUpdate) (m : KeyMap) → writes_after (kept_writes keep ws) m ≡ fold_writes keep ws m
kept_fold keep [] m = refl
kept_fold keep (w ∷ ws) m = kept_one keep w.tx w.key w.change (kept_writes keep ws) m ∙ ap (λ n. cond (keep w.tx) (with_change w.key w.change n) n) (kept_fold keep ws m)

-- ---- the value at one key

-- what the writes that pass leave, one after another, of what was there before
last_of : (Write → Bool) → List Write → Option ValueType → Option ValueType
last_of p [] x = x
last_of p (w ∷ ws) x = last_of p ws (cond (p w) (left_at w.left x) x)

found_step : (q k : ℕ) (f : Option ValueType → Option ValueType) (m : KeyMap) → cond (q == k) (f (find nat_cmp k m)) (find nat_cmp q m) ≡ cond (q == k) (f (find nat_cmp q m)) (find nat_cmp q m)
found_step q k f m = at (q == k) refl
  where
    at : (b : Bool) → (q == k) ≡ b → cond b (f (find nat_cmp k m)) (find nat_cmp q m) ≡ cond b (f (find nat_cmp q m)) (find nat_cmp q m)
    at true e = ap (λ n. f (find nat_cmp n m)) (sym (eqb-true q k e))
    at false e = refl

found_after : (q : ℕ) (ws : List Write) (m : KeyMap) → find nat_cmp q (writes_after ws m) ≡ last_of (λ w. q == w.key) ws (find nat_cmp q m)
unfolding last_of
found_after q [] m = refl
found_after q (w ∷ ws) m =
    found_after q ws (map_set w.key (left_at w.left (map_get w.key m)) m)
    ∙ ap (last_of (λ v. q == v.key) ws) (get_set q w.key (left_at w.left (map_get w.key m)) m ∙ found_step q w.key (left_at w.left) m)

last_alike : (p r : Write → Bool) → ((w : Write) → p w ≡ r w) → (ws : List Write) (x : Option ValueType) → last_of p ws x ≡ last_of r ws x
unfolding last_of
last_alike p r same [] x = refl
last_alike p r same (w ∷ ws) x = ap (λ b. last_of p ws (cond b (left_at w.left x) x)) (same w) ∙ last_alike p r same ws (cond (r w) (left_at w.left x) x)

last_kept : (p : Write → Bool) (ws : List Write) (x : Option ValueType) → last_of p ws x ≡ last_of (λ w. true) (filter p ws) x
unfolding last_of
last_kept p [] x = refl
last_kept p (w ∷ ws) x = at (last_kept p ws) (p w)
  where
    at : ((y : Option ValueType) → last_of p ws y ≡ last_of (λ v. true) (filter p ws) y) → (b : Bool)
        → last_of p ws (cond b (left_at w.left x) x) ≡ last_of (λ v. true) (cond b (w ∷ filter p ws) (filter p ws)) x
    at more true = more (left_at w.left x)
    at more false = more x

-- ---- a stable sort by key

tie_is_same : (a b : ℕ) → not (is_lt (nat_cmp a b)) && not (is_lt (nat_cmp b a)) ≡ (a == b)
tie_is_same a b = grind (arith, nat_tests)

rising_writes : (ws : List Write) (m : KeyMap) → IsRising m → IsRising (writes_after ws m)
rising_writes [] m h = h
rising_writes (w ∷ ws) m h =
    let left : Option ValueType = left_at w.left (map_get w.key m) in rising_writes ws (map_set w.key left m) (rising_set w.key left m h)

pub sorted_writes : (ws ys : List Write) → IsStableByKey (λ (w : Write). w.key) nat_cmp ws ys → writes_after ys [] ≡ writes_after ws []
sorted_writes ws ys stable = same_map (writes_after ys []) (writes_after ws []) (rising_writes ys [] tt) (rising_writes ws [] tt) (λ q. at q ys ∙ ap (λ l. last_of (λ w. true) l None) (stable (one q)) ∙ sym (at q ws))
  where
    one : ℕ → Write
    one q = record { key = q; left = Nothing }

    tied : ℕ → Write → Bool
    tied q = ties (λ v w. is_lt (nat_cmp v.key w.key)) (one q)

    at : (q : ℕ) (l : List Write) → find nat_cmp q (writes_after l []) ≡ last_of (λ w. true) (filter (tied q) l) None
    at q l = found_after q l [] ∙ sym (last_alike (tied q) (λ w. q == w.key) (λ w. tie_is_same q w.key) l None) ∙ last_kept (tied q) l None
