-- The writes of those not committed stand on the map of those committed: each UPDATE names the value below it there, each ADD finds a number.
use Rattle.std.proofs.Common.{◌≡◌, refl, sym, ap, subst, ◌∙◌, ℕ, Bool, true, false, cond, not, ◌&&◌, ◌||◌, ◌==◌, List, [], ◌∷◌, ◌++◌, append_assoc, Option, eqb-true}
use Rattle.std.specs.List.{AllByRecursion, filter}
use Rattle.std.proofs.lemmas.Bool.{both_ways, and_parts, cond_both, false_from_ne_true}
use Rattle.clv_base.specs.declared.values.Value.{Value as ValueType}
use Rattle.clv_base.specs.declared.names.TxId.{TxId}
use Rattle.clv_base.specs.declared.changes.Change.{Change}
use Rattle.clv_base.specs.declared.changes.Change.TheVariants.{Sets, Adds}
use Rattle.clv_base.specs.Maps.{KeyMap, map_get, is_number}
use Rattle.clv_base.specs.Logs.{StandingUpdate, changed, is_setting, fold_at, fold_writes}
use Rattle.clv_base.proofs.SameNames.{or_left, or_right}
use Rattle.law_base.proofs.Bools.{not_true}
use Rattle.law_base.proofs.Running.{top_value}
use Rattle.law_base.proofs.Undoing.{IsOver, Chain}
use Rattle.shard_laws.proofs.Restarts.AddsFindNumbers.{OverNumber, FindNumbers, number_over, add_number}
use Rattle.log_checkpoint.specs.Laws.{LieOn}
use Rattle.log_checkpoint.proofs.GoingOn.{fold_by, get_fold, bottom}

fold_all : (k : ℕ) (v : Option ValueType) (ws : List StandingUpdate) → fold_by (λ t. true) k v ws ≡ fold_at k v ws
fold_all k v [] = refl
fold_all k v (w ∷ ws) = ap (λ x. cond (k == w.key) (changed w.change x) x) (fold_all k v ws)

number_fold : (k : ℕ) (u v : Option ValueType) (ws : List StandingUpdate) → is_number u ≡ is_number v → is_number (fold_at k u ws) ≡ is_number (fold_at k v ws)
number_fold k u v [] e = e
number_fold k u v (w ∷ ws) e = at (k == w.key) (number_fold k u v ws e)
  where
    at : (b : Bool) → is_number (fold_at k u ws) ≡ is_number (fold_at k v ws) → is_number (cond b (changed w.change (fold_at k u ws)) (fold_at k u ws)) ≡ is_number (cond b (changed w.change (fold_at k v ws)) (fold_at k v ws))
    at true i = number_over w.change (fold_at k u ws) (fold_at k v ws) i
    at false i = i

all_there : (P : StandingUpdate → Type 0) (xs : List StandingUpdate) (w : StandingUpdate) (ws : List StandingUpdate) → AllByRecursion P (xs ++ w ∷ ws) → P w
all_there P [] w ws a = a.0
all_there P (x ∷ xs) w ws a = all_there P xs w ws a.1

pub lie_below : (these : TxId → Bool) (xs ws : List StandingUpdate) → LieOn these (xs ++ ws) → LieOn these ws
lie_below these [] ws l = l
lie_below these (x ∷ xs) ws l = lie_below these xs ws l.1

-- those of these that stand above a write of another one
module _ (these : TxId → Bool) (v : Option ValueType) (w : StandingUpdate) (ws : List StandingUpdate) (out : these w.tx ≡ false) where
  left_out : fold_by these w.key v (w ∷ ws) ≡ fold_by these w.key v ws
  left_out = ap (λ b. cond (b && (w.key == w.key)) (changed w.change (fold_by these w.key v ws)) (fold_by these w.key v ws)) out

  -- none of its key over an UPDATE
  pub none_over : (xs : List StandingUpdate) → LieOn these (xs ++ w ∷ ws) → is_setting w.change ≡ true → fold_by these w.key v (xs ++ w ∷ ws) ≡ fold_by these w.key v ws
  none_over [] l s = left_out
  none_over (x ∷ xs) l s =
      ap (λ b. cond b (changed x.change (fold_by these w.key v (xs ++ w ∷ ws))) (fold_by these w.key v (xs ++ w ∷ ws)))
      (false_from_ne_true (these x.tx && (w.key == x.key)) (λ e.
      let p = and_parts (these x.tx) (w.key == x.key) e in
      both_ways _ out (all_there (λ u. u.key ≡ x.key → (is_setting u.change || is_setting x.change) ≡ true → these u.tx ≡ true) xs w ws (l.0 p.0) (eqb-true w.key x.key p.1) (or_left _ _ s))))
      ∙ none_over xs l.1 s

  -- only ADDs of its key over an ADD
  pub adds_over : (xs : List StandingUpdate) → LieOn these (xs ++ w ∷ ws) → is_number (fold_by these w.key v (xs ++ w ∷ ws)) ≡ is_number (fold_by these w.key v ws)
  adds_over [] l = ap is_number left_out
  adds_over (x ∷ xs) l = at (these x.tx && (w.key == x.key)) refl ∙ adds_over xs l.1
    where
      at : (b : Bool) → (these x.tx && (w.key == x.key)) ≡ b → is_number (cond b (changed x.change (fold_by these w.key v (xs ++ w ∷ ws))) (fold_by these w.key v (xs ++ w ∷ ws))) ≡ is_number (fold_by these w.key v (xs ++ w ∷ ws))
      at false e = refl
      at true e =
          let p = and_parts (these x.tx) (w.key == x.key) e in
          add_number x.change true (fold_by these w.key v (xs ++ w ∷ ws))
          (false_from_ne_true (is_setting x.change) (λ s.
          both_ways _ out (all_there (λ u. u.key ≡ x.key → (is_setting u.change || is_setting x.change) ≡ true → these u.tx ≡ true) xs w ws (l.0 p.0) (eqb-true w.key x.key p.1) (or_right (is_setting w.change) _ s))))

-- what the others stand on, and what all do
pub value_below : (these : TxId → Bool) (floor : KeyMap) (k : ℕ) (ws : List StandingUpdate) → LieOn these ws → top_value floor k ws ≡ fold_at k (fold_by these k (map_get k floor) ws) (filter (λ w. not (these w.tx)) ws)
value_below these floor k ws l =
    sym (fold_all k (map_get k floor) ws) ∙ bottom these (λ t. true) k (map_get k floor) ws (λ t c. refl) l ∙ fold_all k (fold_by these k (map_get k floor) ws) (filter (λ w. not (these w.tx)) ws)

-- ---- the writes of the others, over the map of these

module _ (these : TxId → Bool) (floor : KeyMap) (all : List StandingUpdate) (lie : LieOn these all) where
  abbrev others : List StandingUpdate → List StandingUpdate
  others ws = filter (λ w. not (these w.tx)) ws

  abbrev map_of : KeyMap
  map_of = fold_writes these all floor

  sets_over : (xs : List StandingUpdate) (w : StandingUpdate) (ws : List StandingUpdate) → xs ++ w ∷ ws ≡ all → these w.tx ≡ false → (c : Change) → w.change ≡ c → IsOver c (top_value floor w.key ws) → IsOver c (top_value map_of w.key (others ws))
  sets_over xs w ws is out (Adds by) own o = tt
  sets_over xs w ws is out (Sets before after) own o =
      let l : LieOn these (xs ++ w ∷ ws) = subst (LieOn these) (sym is) lie in
      o ∙ value_below these floor w.key ws (lie_below these xs (w ∷ ws) l).1
      ∙ ap (λ x. fold_at w.key x (others ws))
      (sym (get_fold these w.key all floor ∙ ap (fold_by these w.key (map_get w.key floor)) (sym is) ∙ none_over these (map_get w.key floor) w ws out xs l (ap is_setting own)))

  finds_over : (xs : List StandingUpdate) (w : StandingUpdate) (ws : List StandingUpdate) → xs ++ w ∷ ws ≡ all → these w.tx ≡ false → (c : Change) → OverNumber c (top_value floor w.key ws) → OverNumber c (top_value map_of w.key (others ws))
  finds_over xs w ws is out (Sets before after) o = tt
  finds_over xs w ws is out (Adds by) o =
      let l : LieOn these (xs ++ w ∷ ws) = subst (LieOn these) (sym is) lie in
      number_fold w.key (map_get w.key map_of) (fold_by these w.key (map_get w.key floor) ws) (others ws)
      (ap is_number (get_fold these w.key all floor ∙ ap (fold_by these w.key (map_get w.key floor)) (sym is)) ∙ adds_over these (map_get w.key floor) w ws out xs l)
      ∙ ap is_number (sym (value_below these floor w.key ws (lie_below these xs (w ∷ ws) l).1)) ∙ o

  chain_from : (xs ws : List StandingUpdate) → xs ++ ws ≡ all → Chain floor ws → Chain map_of (others ws)
  chain_from xs [] is c = tt
  chain_from xs (w ∷ ws) is c =
      let rest = chain_from (xs ++ w ∷ []) ws (append_assoc xs (w ∷ []) ws ∙ is) c.1 in
      cond_both (not (these w.tx)) (w ∷ others ws) (others ws) (Chain map_of) (λ e. (sets_over xs w ws is (not_true _ e) w.change refl c.0, rest)) (λ e. rest)

  numbers_from : (xs ws : List StandingUpdate) → xs ++ ws ≡ all → FindNumbers floor ws → FindNumbers map_of (others ws)
  numbers_from xs [] is n = tt
  numbers_from xs (w ∷ ws) is n =
      let rest = numbers_from (xs ++ w ∷ []) ws (append_assoc xs (w ∷ []) ws ∙ is) n.1 in
      cond_both (not (these w.tx)) (w ∷ others ws) (others ws) (FindNumbers map_of) (λ e. (finds_over xs w ws is (not_true _ e) w.change n.0, rest)) (λ e. rest)

  pub open_chain : Chain floor all → Chain map_of (others all)
  open_chain c = chain_from [] all refl c

  pub open_numbers : FindNumbers floor all → FindNumbers map_of (others all)
  open_numbers n = numbers_from [] all refl n

-- ---- and those below some of them

pub chain_below : (floor : KeyMap) (xs ws : List StandingUpdate) → Chain floor (xs ++ ws) → Chain floor ws
chain_below floor [] ws c = c
chain_below floor (x ∷ xs) ws c = chain_below floor xs ws c.1

pub numbers_below : (floor : KeyMap) (xs ws : List StandingUpdate) → FindNumbers floor (xs ++ ws) → FindNumbers floor ws
numbers_below floor [] ws n = n
numbers_below floor (x ∷ xs) ws n = numbers_below floor xs ws n.1

pub all_below : (P : StandingUpdate → Type 0) (xs ws : List StandingUpdate) → AllByRecursion P (xs ++ ws) → AllByRecursion P ws
all_below P [] ws a = a
all_below P (x ∷ xs) ws a = all_below P xs ws a.1
