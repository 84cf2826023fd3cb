-- What is read of a map from transactions to lists, and after one of them changes.
use Rattle.std.proofs.Common.{◌≡◌, ◌≤◌, ◌<◌, ℕ, ◌+◌, ◌-◌, Bool, true, false, cond, ◌||◌, List, [], ◌∷◌, map, length, get_or, take, Option, Some, None, Vec, vec_len, vec_capacity, ⊎_elim, refl, sym, ap, subst, ◌∙◌, arith}
use Rattle.std.specs.Prelude.{unwrap_or}
use Rattle.std.proofs.lemmas.Bool.{or_cases}
use Rattle.std.proofs.lemmas.List.{take_more}
use Rattle.std.specs.Map.{lookup}
use Rattle.std.specs.Option.{option_map_or}
use Rattle.std.specs.List.Sorted.{IsStrictlySortedBy}
use Rattle.std.specs.declared.alloc.Global.{Global}
use Rattle.clv_base.specs.declared.names.TxId.{TxId}
use Rattle.clv_base.specs.Orders.{Table, tx_cmp, tx_same, tx_in, tx_get}
use Rattle.clv_base.proofs.SameNames.{tx_true}
use Rattle.law_base.proofs.Bools.{or_none}
use Rattle.law_base.proofs.Names.{in_append}
use Rattle.tx_table.specs.declared.key.Key.{Key}
use Rattle.tx_table.specs.Keys.{key_of, named}
use Rattle.tx_table.specs.Lists.{ListEntries, list_in, room_in, AllRise}
use Rattle.tx_table.proofs.Lookups.{same_key, tx_same-key}

-- the list that the map keeps
abbrev pub kept : TxId → ListEntries → Option (Vec TxId Global)
kept t es = lookup (same_key (key_of t)) es

abbrev pub items : Vec TxId Global → List TxId
items v = v.items

abbrev pub spare : Vec TxId Global → ℕ
spare v = vec_capacity v - vec_len v

module _ {X : Type 0} (g : Vec TxId Global → X) (d : X) where
  abbrev pub read : TxId → ListEntries → X
  read t es = unwrap_or (tx_get t (map (λ e. (named e.0, g e.1)) es)) d

  pub read_is : (t : TxId) (es : ListEntries) → read t es ≡ option_map_or g (kept t es) d
  read_is t [] = refl
  read_is t (e ∷ es) = ap (λ b. unwrap_or (cond b (Some (g e.1)) (tx_get t (map (λ e. (named e.0, g e.1)) es))) d) (tx_same-key t e.0) ∙ at (same_key (key_of t) e.0) (read_is t es)
    where
      at : (b : Bool) → read t es ≡ option_map_or g (kept t es) d → unwrap_or (cond b (Some (g e.1)) (tx_get t (map (λ e. (named e.0, g e.1)) es))) d ≡ option_map_or g (cond b (Some e.1) (kept t es)) d
      at true more = refl
      at false more = more

  -- of one that is there, and of one that isn't
  pub read_some : (t : TxId) (es : ListEntries) (v : Vec TxId Global) → kept t es ≡ Some v → read t es ≡ g v
  read_some t es v e = read_is t es ∙ ap (λ o. option_map_or g o d) e

  pub read_none : (t : TxId) (es : ListEntries) → kept t es ≡ None → read t es ≡ d
  read_none t es e = read_is t es ∙ ap (λ o. option_map_or g o d) e

  -- where one of them is another
  pub read_changed : (tx : TxId) (w : Option (Vec TxId Global)) (es fs : ListEntries) → ((t : TxId) → kept t fs ≡ cond (tx_same tx t) w (kept t es)) → (t : TxId) → read t fs ≡ cond (tx_same tx t) (option_map_or g w d) (read t es)
  read_changed tx w es fs h t = read_is t fs ∙ ap (λ o. option_map_or g o d) (h t) ∙ pushed (tx_same tx t) ∙ ap (λ x. cond (tx_same tx t) (option_map_or g w d) x) (sym (read_is t es))
    where
      pushed : (b : Bool) → option_map_or g (cond b w (kept t es)) d ≡ cond b (option_map_or g w d) (option_map_or g (kept t es) d)
      pushed true = refl
      pushed false = refl

-- the same, as the map tells it by keys
pub kept_changed : (tx : TxId) (k : Key) (w : Option (Vec TxId Global)) (es fs : ListEntries) → k ≡ key_of tx → ((q : Key) → lookup (same_key q) fs ≡ cond (same_key k q) w (lookup (same_key q) es))
    → (t : TxId) → kept t fs ≡ cond (tx_same tx t) w (kept t es)
kept_changed tx k w es fs e h t = h (key_of t) ∙ ap (λ j. cond (same_key j (key_of t)) w (kept t es)) e ∙ ap (λ b. cond b w (kept t es)) (sym (tx_same-key tx (key_of t)))

-- what stays, though it is set
module _ {X : Type 0} (tx t : TxId) (r : TxId → X) where
  pub own_same : (x : X) → x ≡ r tx → cond (tx_same tx t) x (r t) ≡ r t
  own_same x e = at (tx_same tx t) refl
    where
      at : (b : Bool) → tx_same tx t ≡ b → cond b x (r t) ≡ r t
      at true s = e ∙ ap r (tx_true tx t s)
      at false s = refl

-- what changes as its own list does, and what was nothing
module _ {X : Type 0} (f : X → X) (tx t : TxId) (r : TxId → X) where
  pub own_changed : (x : X) → x ≡ f (r tx) → cond (tx_same tx t) x (r t) ≡ cond (tx_same tx t) (f (r t)) (r t)
  own_changed x e = at (tx_same tx t) refl
    where
      at : (b : Bool) → tx_same tx t ≡ b → cond b x (r t) ≡ cond b (f (r t)) (r t)
      at true s = e ∙ ap (λ u. f (r u)) (tx_true tx t s)
      at false s = refl

  pub none_changed : (d : X) → r tx ≡ d → f d ≡ d → r t ≡ cond (tx_same tx t) (f (r t)) (r t)
  none_changed d e n = at (tx_same tx t) refl
    where
      at : (b : Bool) → tx_same tx t ≡ b → r t ≡ cond b (f (r t)) (r t)
      at true s = let none : r t ≡ d = ap r (sym (tx_true tx t s)) ∙ e in none ∙ sym (ap f none ∙ n)
      at false s = refl

-- room of which one place is used there, or that is more
module _ (tx t : TxId) (r : TxId → ℕ) (n after : ℕ) (now : after ≡ cond (tx_same tx t) n (r t)) where
  pub room_used : r tx ≤ n + 1 → r t ≤ after + cond (tx_same tx t) 1 0
  room_used l = at (tx_same tx t) refl now
    where
      at : (b : Bool) → tx_same tx t ≡ b → after ≡ cond b n (r t) → r t ≤ after + cond b 1 0
      at true s e = let same = ap r (tx_true tx t s) in omega (arith, e, l, same)
      at false s e = omega (arith, e)

  pub room_more : r tx ≤ n → r t ≤ after
  room_more l = at (tx_same tx t) refl now
    where
      at : (b : Bool) → tx_same tx t ≡ b → after ≡ cond b n (r t) → r t ≤ after
      at true s e = let same = ap r (tx_true tx t s) in omega (arith, e, l, same)
      at false s e = omega (arith, e)

-- lists that rise do so where one changes to one that does
pub rise_alike : (lists now : Table (List TxId)) → ((t : TxId) → list_in t now ≡ list_in t lists) → AllRise lists → AllRise now
rise_alike lists now same h t = subst (IsStrictlySortedBy tx_cmp) (sym (same t)) (h t)

pub rise_changed : (lists now : Table (List TxId)) (tx : TxId) (f : List TxId → List TxId) → ((t : TxId) → list_in t now ≡ cond (tx_same tx t) (f (list_in t lists)) (list_in t lists))
    → ((xs : List TxId) → IsStrictlySortedBy tx_cmp xs → IsStrictlySortedBy tx_cmp (f xs)) → AllRise lists → AllRise now
rise_changed lists now tx f changed keeps h t = subst (IsStrictlySortedBy tx_cmp) (sym (changed t)) (at (tx_same tx t))
  where
    at : (b : Bool) → IsStrictlySortedBy tx_cmp (cond b (f (list_in t lists)) (list_in t lists))
    at true = keeps (list_in t lists) (h t)
    at false = h t

-- who was reserved for so far
pub reserved_next : (txs : List TxId) (i : ℕ) (d : TxId) → i < length txs → (count : ℕ) (before after : Table ℕ)
    → ((t : TxId) → tx_in t (take i txs) ≡ true → count ≤ room_in t before) → ((t : TxId) → room_in t before ≤ room_in t after) → count ≤ room_in (get_or txs i d) after
    → (t : TxId) → tx_in t (take (i + 1) txs) ≡ true → count ≤ room_in t after
reserved_next txs i d l count before after h more own t e =
    ⊎_elim
    (λ m. let was = h t m in let now = more t in omega (arith, was, now))
    (λ s. subst (λ u. count ≤ room_in u after) (tx_true (get_or txs i d) t s) own)
    (or_cases (tx_in t (take i txs)) (tx_same (get_or txs i d) t)
    (sym (ap (tx_in t) (take_more txs i d l) ∙ in_append t (take i txs) (get_or txs i d ∷ []) ∙ ap (λ b. tx_in t (take i txs) || b) (or_none (tx_same (get_or txs i d) t))) ∙ e))
