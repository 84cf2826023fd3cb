-- Items of which some are left out run as before, where no item that stays meets a key that one left out wrote.
use Rattle.std.proofs.Common.{◌≡◌, ℕ, ◌⊎◌, inl, inr, ⊎_elim, Bool, true, false, cond, ◌&&◌, List, [], ◌∷◌, ◌++◌, map, Option, Some, None, ◌==◌, refl, sym, ap, subst, ◌∙◌, eqb-true, eq-eqb}
use Rattle.std.specs.List.{AllByRecursion, filter}
use Rattle.std.proofs.lemmas.Bool.{cases_Bool, both_ways, cond_both}
use Rattle.clv_base.specs.declared.values.Value.{Value as ValueType}
use Rattle.clv_base.specs.declared.values.Value.TheVariants.{Num, Bytes}
use Rattle.clv_base.specs.declared.ops.Op.{Op}
use Rattle.clv_base.specs.declared.ops.Op.TheVariants.{Get, Put, Del, Scan, Add}
use Rattle.clv_base.specs.declared.ops.Answer.{Answer}
use Rattle.clv_base.specs.declared.ops.Answer.TheVariants.{Value, Pairs, Added}
use Rattle.clv_base.specs.Maps.{KeyMap, map_get, map_set, map_add, with_pairs, plus, is_number, map_between, lies_between, op_answer, op_after, ops_after, ops_answers, replay_ops_map, replay_ops_answers, Acts, Operates, Trail, map_now, acts_after, acts_answers, replay_map, replay_answers}
use Rattle.clv_base.specs.Needs.{writes_of}
use Rattle.clv_base.specs.declared.changes.Change.{Change}
use Rattle.clv_base.specs.Logs.{StandingUpdate, changed, fold_at, base_of, with_change, fold_writes, wrote_in, has_standing, fold_updates, standing}
use Rattle.clv_base.specs.Folding.{IsRising, meets_key, adds}
use Rattle.clv_base.specs.declared.names.TxId.{TxId}
use Rattle.clv_base.specs.declared.logs.LogRecord.{LogRecord}
use Rattle.clv_base.proofs.Folding.{plus_is_number, get_set, rising_after, rising_between, same_map, find_between}
use Rattle.law_base.specs.Items.{Item, told, wrote, is_write_at, writes, meets, Runs, after, AllLater, Reaches, on_top, pile}
use Rattle.law_base.proofs.Lists.{all_mono}
use Rattle.law_base.proofs.Standing.{all_stand, standing_wrote}

-- the value at a key after a write
abbrev pub with_write : Option (ℕ × Change) → ℕ → Option ValueType → Option ValueType
with_write None q old = old
with_write (Some w) q old = cond (q == w.0) (changed w.1 old) old

none_there : (b : Bool) (f : Option ValueType) → (b ≡ true → f ≡ None) → cond b None f ≡ f
none_there true f h = sym (h refl)
none_there false f h = refl

-- a Del of what is not there
del_value : (k q : ℕ) (m : KeyMap) (f : Option ValueType) → map_get k m ≡ f → map_get q (map_set k None m) ≡ with_write (writes_of (Del k) f) q (map_get q m)
del_value k q m None e = get_set q k None m ∙ none_there (q == k) (map_get q m) (λ h. ap (λ j. map_get j m) (eqb-true q k h) ∙ e)
del_value k q m (Some v) e = get_set q k None m

-- an Add to what is no number leaves it, and one to a number is by what is there
same_there : (b : Bool) (x f : Option ValueType) → (b ≡ true → x ≡ f) → cond b x f ≡ f
same_there true x f h = h refl
same_there false x f h = refl

same_inside : (b : Bool) (x y f : Option ValueType) → (b ≡ true → x ≡ y) → cond b x f ≡ cond b y f
same_inside true x y f h = h refl
same_inside false x y f h = refl

add_value : (k n q : ℕ) (m : KeyMap) (f : Option ValueType) → map_get k m ≡ f → map_get q (map_add k n m) ≡ with_write (writes_of (Add k n) (told (Added (is_number f)))) q (map_get q m)
add_value k n q m None e =
    get_set q k (plus n (map_get k m)) m
    ∙ same_there (q == k) (plus n (map_get k m)) (map_get q m) (λ h. ap (plus n) e ∙ sym (ap (λ j. map_get j m) (eqb-true q k h) ∙ e))
add_value k n q m (Some (Bytes b)) e =
    get_set q k (plus n (map_get k m)) m
    ∙ same_there (q == k) (plus n (map_get k m)) (map_get q m) (λ h. ap (plus n) e ∙ sym (ap (λ j. map_get j m) (eqb-true q k h) ∙ e))
add_value k n q m (Some (Num v)) e =
    get_set q k (plus n (map_get k m)) m
    ∙ same_inside (q == k) (plus n (map_get k m)) (plus n (map_get q m)) (map_get q m) (λ h. ap (λ j. plus n (map_get j m)) (sym (eqb-true q k h)))

op_value : (o : Op) (m : KeyMap) (q : ℕ) → map_get q (op_after o m) ≡ with_write (writes_of o (told (op_answer o m))) q (map_get q m)
op_value (Get k) m q = refl
op_value (Put k v) m q = get_set q k (Some v) m
op_value (Del k) m q = del_value k q m (map_get k m) refl
op_value (Scan lo hi) m q = refl
op_value (Add k n) m q = add_value k n q m (map_get k m) refl

pub item_value : (x : Item) (m : KeyMap) (q : ℕ) → x.answer ≡ op_answer x.op m → map_get q (op_after x.op m) ≡ with_write (wrote x) q (map_get q m)
item_value x m q e = subst (λ a. map_get q (op_after x.op m) ≡ with_write (writes_of x.op (told a)) q (map_get q m)) (sym e) (op_value x.op m q)

between_same : (b : Bool) (f g : Option ValueType) → (b ≡ true → f ≡ g) → cond b f None ≡ cond b g None
between_same true f g h = h refl
between_same false f g h = refl

pub same_answer : (o : Op) (m n : KeyMap) → IsRising m → IsRising n → ((k : ℕ) → meets_key o k ≡ true → map_get k m ≡ map_get k n) → op_answer o m ≡ op_answer o n
same_answer (Get k) m n h g e = ap Value (e k (eq-eqb k k refl))
same_answer (Put k v) m n h g e = ap Value (e k (eq-eqb k k refl))
same_answer (Del k) m n h g e = ap Value (e k (eq-eqb k k refl))
same_answer (Add k by) m n h g e = ap (λ o. Added (is_number o)) (e k (eq-eqb k k refl))
same_answer (Scan lo hi) m n h g e =
    ap Pairs (same_map (map_between lo hi m) (map_between lo hi n) (rising_between lo hi m h) (rising_between lo hi n g)
    (λ q. find_between lo hi q m ∙ between_same (lies_between lo hi q) (map_get q m) (map_get q n) (e q) ∙ sym (find_between lo hi q n)))

no_write : (w : Option (ℕ × Change)) (q : ℕ) (f : Option ValueType) → is_write_at w q ≡ false → with_write w q f ≡ f
no_write None q f h = refl
no_write (Some w) q f h = ap (λ b. cond b (changed w.1 f) f) h

-- ---- items that are left out

-- an Add that found a number, by its item
abbrev pub is_add : Item → Bool
is_add x = adds x.op x.answer

-- all that stay and meet a key are Adds that found a number, or none does
abbrev pub OnlyAdds : (Item → Bool) → List Item → ℕ → Type 0
OnlyAdds keep xs k = AllByRecursion (λ y. keep y ≡ true → meets y k ≡ true → is_add y ≡ true) xs

abbrev pub NoneMeets : (Item → Bool) → List Item → ℕ → Type 0
NoneMeets keep xs k = AllByRecursion (λ y. keep y ≡ true → meets y k ≡ true → ⊥) xs

-- the maps are the same at the key; or both or neither have a number there, and only Adds that stay meet it; or none that stays does
abbrev pub SameAt : (Item → Bool) → List Item → KeyMap → KeyMap → ℕ → Type 0
SameAt keep xs m n k = (map_get k m ≡ map_get k n) ⊎ (((is_number (map_get k m) ≡ is_number (map_get k n)) × OnlyAdds keep xs k) ⊎ NoneMeets keep xs k)

abbrev pub Keeps : (Item → Bool) → Item → Item → Type 0
Keeps keep x y = Reaches x y → keep y ≡ true → keep x ≡ true

pub rising_item : (x : Item) (m : KeyMap) → IsRising m → IsRising (op_after x.op m)
rising_item x m h = rising_after x.op m h

-- a write of an Add leaves whether there is a number, and so does one that isn't at the key
pub add_leaves : (o : Op) (b : Option ValueType) (q : ℕ) (f : Option ValueType) → ((k n : ℕ) → o ≡ Add k n → ⊥) ⊎ (is_number (with_write (writes_of o b) q f) ≡ is_number f)
add_leaves (Add k n) None q f = inr refl
add_leaves (Add k n) (Some (Bytes b)) q f = inr refl
add_leaves (Add k n) (Some (Num v)) q f = inr (at (q == k))
  where
    at : (b : Bool) → is_number (cond b (plus n f) f) ≡ is_number f
    at true = plus_is_number n f
    at false = refl
add_leaves (Get k) b q f = inl (λ j n e. absurd cc)
add_leaves (Put k v) b q f = inl (λ j n e. absurd cc)
add_leaves (Del k) b q f = inl (λ j n e. absurd cc)
add_leaves (Scan lo hi) b q f = inl (λ j n e. absurd cc)

add_is : (o : Op) (a : Answer) → adds o a ≡ true → (k : ℕ) × (n : ℕ) × (o ≡ Add k n)
add_is (Add k n) a e = (k, n, refl)
add_is (Get k) a e = absurd (both_ways false refl e)
add_is (Put k v) a e = absurd (both_ways false refl e)
add_is (Del k) a e = absurd (both_ways false refl e)
add_is (Scan lo hi) a e = absurd (both_ways false refl e)

number_stays : (x : Item) (q : ℕ) (f : Option ValueType) → is_add x ≡ true → is_number (with_write (wrote x) q f) ≡ is_number f
number_stays x q f e = let a = add_is x.op x.answer e in ⊎_elim (λ no. absurd (no a.0 a.1 a.2)) (λ s. s) (add_leaves x.op (told x.answer) q f)

-- an item that is left out
both_false : (a b : Bool) → a ≡ false → (a && b) ≡ false
both_false true b e = absurd (both_ways true e refl)
both_false false b e = refl

-- what stays and meets a key that it wrote is an Add, and so is it
only_adds : (keep : Item → Bool) (x : Item) (xs : List Item) (k : ℕ) → keep x ≡ false → writes x k ≡ true → AllByRecursion (Keeps keep x) xs → OnlyAdds keep xs k
only_adds keep x xs k out w later =
    all_mono _ _
    (λ y h there met.
    ⊎_elim (λ e. e) (λ e. absurd (both_ways (keep x) out (h (k, w, met, apart (is_add x) (is_add y) e) there))) (cases_Bool (is_add y)))
    xs later
  where
    apart : (a b : Bool) → b ≡ false → (a && b) ≡ false
    apart true b e = e
    apart false b e = refl

none_meets : (keep : Item → Bool) (x : Item) (xs : List Item) (k : ℕ) → keep x ≡ false → writes x k ≡ true → is_add x ≡ false → AllByRecursion (Keeps keep x) xs → NoneMeets keep xs k
none_meets keep x xs k out w unlike later =
    all_mono _ _ (λ y h there met. both_ways (keep x) out (h (k, w, met, both_false (is_add x) (is_add y) unlike) there)) xs later

-- the value at a key that an item doesn't write
unwritten : (x : Item) (m : KeyMap) (k : ℕ) → x.answer ≡ op_answer x.op m → writes x k ≡ false → map_get k (op_after x.op m) ≡ map_get k m
unwritten x m k a w = item_value x m k a ∙ no_write (wrote x) k (map_get k m) w

-- and whether there is a number, at an Add
unadded : (x : Item) (m : KeyMap) (k : ℕ) → x.answer ≡ op_answer x.op m → is_add x ≡ true → is_number (map_get k (op_after x.op m)) ≡ is_number (map_get k m)
unadded x m k a e = ap is_number (item_value x m k a) ∙ number_stays x k (map_get k m) e

as_numbers : (keep : Item → Bool) (x : Item) (xs : List Item) (m n : KeyMap) (k : ℕ) → OnlyAdds keep xs k → is_number (map_get k (op_after x.op m)) ≡ is_number (map_get k m) → is_number (map_get k m) ≡ is_number (map_get k n)
    → SameAt keep xs (op_after x.op m) n k
as_numbers keep x xs m n k only a b = inr (inl (a ∙ b, only))

left_out : (keep : Item → Bool) (x : Item) (xs : List Item) (m n : KeyMap) (k : ℕ) → keep x ≡ false → x.answer ≡ op_answer x.op m → AllByRecursion (Keeps keep x) xs → SameAt keep (x ∷ xs) m n k → SameAt keep xs (op_after x.op m) n k
left_out keep x xs m n k out a later same =
    ⊎_elim
    (λ w. ⊎_elim (λ e. added w e same) (λ e. inr (inr (none_meets keep x xs k out w e later))) (cases_Bool (is_add x)))
    (λ w. other (unwritten x m k a w) same)
    (cases_Bool (writes x k))
  where
    added : writes x k ≡ true → is_add x ≡ true → SameAt keep (x ∷ xs) m n k → SameAt keep xs (op_after x.op m) n k
    added w e (inl s) = as_numbers keep x xs m n k (only_adds keep x xs k out w later) (unadded x m k a e) (ap is_number s)
    added w e (inr (inl s)) = as_numbers keep x xs m n k (only_adds keep x xs k out w later) (unadded x m k a e) s.0
    added w e (inr (inr s)) = inr (inr s.1)

    other : map_get k (op_after x.op m) ≡ map_get k m → SameAt keep (x ∷ xs) m n k → SameAt keep xs (op_after x.op m) n k
    other u (inl s) = inl (u ∙ s)
    other u (inr (inl s)) = inr (inl (ap is_number u ∙ s.0, s.1.1))
    other u (inr (inr s)) = inr (inr s.1)

-- an item that stays is answered so over both maps
answers_same : (o : Op) (a : Answer) (m n : KeyMap) → IsRising m → IsRising n
    → ((k : ℕ) → meets_key o k ≡ true → (map_get k m ≡ map_get k n) ⊎ ((is_number (map_get k m) ≡ is_number (map_get k n)) × (adds o a ≡ true)))
    → op_answer o m ≡ op_answer o n
answers_same (Add j by) a m n h g e = ap Added (⊎_elim (λ s. ap is_number s) (λ s. s.0) (e j (eq-eqb j j refl)))
answers_same (Get j) a m n h g e = same_answer (Get j) m n h g (λ k met. ⊎_elim (λ s. s) (λ s. absurd (both_ways false refl s.1)) (e k met))
answers_same (Put j v) a m n h g e = same_answer (Put j v) m n h g (λ k met. ⊎_elim (λ s. s) (λ s. absurd (both_ways false refl s.1)) (e k met))
answers_same (Del j) a m n h g e = same_answer (Del j) m n h g (λ k met. ⊎_elim (λ s. s) (λ s. absurd (both_ways false refl s.1)) (e k met))
answers_same (Scan lo hi) a m n h g e = same_answer (Scan lo hi) m n h g (λ k met. ⊎_elim (λ s. s) (λ s. absurd (both_ways false refl s.1)) (e k met))

same_now : (keep : Item → Bool) (x : Item) (xs : List Item) (m n : KeyMap) → IsRising m → IsRising n → keep x ≡ true → ((k : ℕ) → SameAt keep (x ∷ xs) m n k) → op_answer x.op m ≡ op_answer x.op n
same_now keep x xs m n h g here same = answers_same x.op x.answer m n h g (λ k met. at k met (same k))
  where
    at : (k : ℕ) → meets x k ≡ true → SameAt keep (x ∷ xs) m n k → (map_get k m ≡ map_get k n) ⊎ ((is_number (map_get k m) ≡ is_number (map_get k n)) × (is_add x ≡ true))
    at k met (inl s) = inl s
    at k met (inr (inl s)) = inr (s.0, s.1.0 here met)
    at k met (inr (inr s)) = absurd (s.0 here met)

-- the key that is written is met
pub write_met : (x : Item) (k : ℕ) → writes x k ≡ true → meets x k ≡ true
write_met x k e = at x.op (told x.answer) e
  where
    at : (o : Op) (b : Option ValueType) → is_write_at (writes_of o b) k ≡ true → meets_key o k ≡ true
    at (Get j) b e = absurd (both_ways false refl e)
    at (Put j v) b e = eq-eqb j k (sym (eqb-true k j e))
    at (Del j) (Some v) e = eq-eqb j k (sym (eqb-true k j e))
    at (Del j) None e = absurd (both_ways false refl e)
    at (Scan lo hi) b e = absurd (both_ways false refl e)
    at (Add j n) (Some (Num v)) e = eq-eqb j k (sym (eqb-true k j e))
    at (Add j n) (Some (Bytes b)) e = absurd (both_ways false refl e)
    at (Add j n) None e = absurd (both_ways false refl e)

stays : (keep : Item → Bool) (x : Item) (xs : List Item) (m n : KeyMap) (k : ℕ) → keep x ≡ true → x.answer ≡ op_answer x.op m → x.answer ≡ op_answer x.op n → SameAt keep (x ∷ xs) m n k → SameAt keep xs (op_after x.op m) (op_after x.op n) k
stays keep x xs m n k here a b (inl s) = inl (item_value x m k a ∙ ap (with_write (wrote x) k) s ∙ sym (item_value x n k b))
stays keep x xs m n k here a b (inr (inr s)) = inr (inr s.1)
stays keep x xs m n k here a b (inr (inl s)) =
    ⊎_elim
    (λ w. let e = s.1.0 here (write_met x k w) in inr (inl (unadded x m k a e ∙ s.0 ∙ sym (unadded x n k b e), s.1.1)))
    (λ w. inr (inl (ap is_number (unwritten x m k a w) ∙ s.0 ∙ ap is_number (sym (unwritten x n k b w)), s.1.1)))
    (cases_Bool (writes x k))

pub kept_runs : (keep : Item → Bool) (xs : List Item) (m n : KeyMap) → IsRising m → IsRising n → Runs m xs → AllLater (Keeps keep) xs → ((k : ℕ) → SameAt keep xs m n k) → Runs n (filter keep xs)
kept_runs keep [] m n h g r later same = tt
kept_runs keep (x ∷ xs) m n h g r later same =
    cond_both (keep x) (x ∷ filter keep xs) (filter keep xs) (Runs n)
    (λ e. let b : x.answer ≡ op_answer x.op n = r.0 ∙ same_now keep x xs m n h g e same in
    (b, kept_runs keep xs (op_after x.op m) (op_after x.op n) (rising_item x m h) (rising_item x n g) r.1 later.1 (λ k. stays keep x xs m n k e r.0 b (same k))))
    (λ e. kept_runs keep xs (op_after x.op m) n (rising_item x m h) g r.1 later.1 (λ k. left_out keep x xs m n k e r.0 later.0 (same k)))

pub rising_all : (xs : List Item) (m : KeyMap) → IsRising m → IsRising (after m xs)
rising_all [] m h = h
rising_all (x ∷ xs) m h = rising_all xs (op_after x.op m) (rising_item x m h)

pub runs_push : (xs : List Item) (x : Item) (m : KeyMap) → Runs m xs → x.answer ≡ op_answer x.op (after m xs) → Runs m (xs ++ x ∷ [])
runs_push [] x m r e = (e, tt)
runs_push (y ∷ ys) x m r e = (r.0, runs_push ys x (op_after y.op m) r.1 e)

-- ---- the value at a key is the fold of its writes, from a map

abbrev pub top_value : KeyMap → ℕ → List StandingUpdate → Option ValueType
top_value floor k ws = fold_at k (map_get k floor) ws

pub on_top_value : (floor : KeyMap) (x : Item) (ws : List StandingUpdate) (k : ℕ) → top_value floor k (on_top x.tx x.lsn (wrote x) ws) ≡ with_write (wrote x) k (top_value floor k ws)
on_top_value floor x ws k = at (wrote x)
  where
    at : (w : Option (ℕ × Change)) → top_value floor k (on_top x.tx x.lsn w ws) ≡ with_write w k (top_value floor k ws)
    at None = refl
    at (Some w) = refl

pub pile_value : (floor : KeyMap) (xs : List Item) (m : KeyMap) (ws : List StandingUpdate) (k : ℕ) → Runs m xs → map_get k m ≡ top_value floor k ws → map_get k (after m xs) ≡ top_value floor k (pile xs ws)
pile_value floor [] m ws k r e = e
pile_value floor (x ∷ xs) m ws k r e =
    pile_value floor xs (op_after x.op m) (on_top x.tx x.lsn (wrote x) ws) k r.1 (item_value x m k r.0 ∙ ap (with_write (wrote x) k) e ∙ sym (on_top_value floor x ws k))

pub pile_push : (xs : List Item) (x : Item) (ws : List StandingUpdate) → pile (xs ++ x ∷ []) ws ≡ on_top x.tx x.lsn (wrote x) (pile xs ws)
pile_push [] x ws = refl
pile_push (y ∷ ys) x ws = pile_push ys x (on_top y.tx y.lsn (wrote y) ws)

-- ---- a replay in two parts

pub replay_map_append : (m : KeyMap) (xs ys : List Acts) → replay_map m (xs ++ ys) ≡ replay_map (replay_map m xs) ys
replay_map_append m [] ys = refl
replay_map_append m (x ∷ xs) ys = replay_map_append (acts_after x m []) xs ys

pub replay_answers_append : (m : KeyMap) (xs ys : List Acts) → replay_answers m (xs ++ ys) ≡ replay_answers m xs ++ replay_answers (replay_map m xs) ys
replay_answers_append m [] ys = refl
replay_answers_append m (x ∷ xs) ys = ap (λ l. acts_answers x m [] ∷ l) (replay_answers_append (acts_after x m []) xs ys)

-- the same of operations alone
pub replay_ops_map_append : (m : KeyMap) (xs ys : List (List Op)) → replay_ops_map m (xs ++ ys) ≡ replay_ops_map (replay_ops_map m xs) ys
replay_ops_map_append m [] ys = refl
replay_ops_map_append m (x ∷ xs) ys = replay_ops_map_append (ops_after x m) xs ys

pub replay_ops_answers_append : (m : KeyMap) (xs ys : List (List Op)) → replay_ops_answers m (xs ++ ys) ≡ replay_ops_answers m xs ++ replay_ops_answers (replay_ops_map m xs) ys
replay_ops_answers_append m [] ys = refl
replay_ops_answers_append m (x ∷ xs) ys = ap (λ l. ops_answers x m ∷ l) (replay_ops_answers_append (ops_after x m) xs ys)

-- where nobody goes back, acts are operations, whatever their numbers
abbrev pub operations : List (ℕ × Op) → Acts
operations ps = map (λ p. (p.0, Operates p.1)) ps

pub operations_after : (ps : List (ℕ × Op)) (m : KeyMap) (trail : Trail) → acts_after (operations ps) m trail ≡ ops_after (map (λ p. p.1) ps) (map_now m trail)
operations_after [] m trail = refl
operations_after (p ∷ ps) m trail = operations_after ps m ((p.0, op_after p.1 (map_now m trail)) ∷ trail)

pub operations_answers : (ps : List (ℕ × Op)) (m : KeyMap) (trail : Trail) → acts_answers (operations ps) m trail ≡ ops_answers (map (λ p. p.1) ps) (map_now m trail)
operations_answers [] m trail = refl
operations_answers (p ∷ ps) m trail = ap (λ l. op_answer p.1 (map_now m trail) ∷ l) (operations_answers ps m ((p.0, op_after p.1 (map_now m trail)) ∷ trail))

-- ---- the fold of writes

-- it depends on the tests of those alone whose writes they are
pub fold_same : (f k : TxId → Bool) (ws : List StandingUpdate) (m : KeyMap) → AllByRecursion (λ w. f w.tx ≡ k w.tx) ws → fold_writes f ws m ≡ fold_writes k ws m
fold_same f k [] m e = refl
fold_same f k (w ∷ ws) m e =
    ap (λ c. cond c (with_change w.key w.change (fold_writes f ws m)) (fold_writes f ws m)) e.0
    ∙ ap (λ n. cond (k w.tx) (with_change w.key w.change n) n) (fold_same f k ws m e.1)

-- so on those alone of whom a write stands
pub fold_standing : (f k : TxId → Bool) (log : List LogRecord) (m : KeyMap) → ((t : TxId) → has_standing log t ≡ true → f t ≡ k t) → fold_updates f log m ≡ fold_updates k log m
fold_standing f k log m e = fold_same f k (standing log) (with_pairs (base_of log) m) (all_mono _ _ (λ w h. e w.tx h) (standing log) (all_stand log))

pub fold_writers : (f k : TxId → Bool) (log : List LogRecord) (m : KeyMap) → ((t : TxId) → wrote_in log t ≡ true → f t ≡ k t) → fold_updates f log m ≡ fold_updates k log m
fold_writers f k log m e = fold_standing f k log m (λ t h. e t (standing_wrote log t h))
