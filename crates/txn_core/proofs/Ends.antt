-- Ending one part after another.
use Rattle.std.proofs.Common.{◌≡◌, ℕ, ◌+◌, ◌<◌, length, get_or, drop, drop-cons, add-one, Bool, true, false, cond, ◌||◌, List, [], ◌∷◌, map, Option, Some, None, refl, sym, ap, subst, ◌∙◌}
use Rattle.std.specs.List.Sorted.{IsStrictlySortedBy}
use Rattle.std.specs.Map.{keys_of}
use Rattle.std.specs.BTreeMap.{insert_entry}
use Rattle.std.specs.declared.cmp.Ordering.{Ordering}
use Rattle.std.specs.declared.cmp.Ordering.TheVariants.{Less, Equal, Greater}
use Rattle.std.specs.Ordering.{is_eq, match_ordering}
use Rattle.clv_base.specs.declared.names.TxId.{TxId}
use Rattle.clv_base.specs.declared.state.Held.{Held}
use Rattle.clv_base.specs.Orders.{Table, tx_cmp, tx_same, tx_in, tx_get}
use Rattle.clv_base.specs.Undo.{gone_in, gone_part}
use Rattle.clv_base.proofs.SameNames.{tx_true}
use Rattle.tx_table.specs.Parts.{IsNoReturn, is_here as part_is_here}
use Rattle.cascade_undo.proofs.Laws.{tx_total}
use Rattle.law_base.proofs.Sets.{AllAbove as Above}

-- ---- parts

pub gone_in-one_more : (doom : Option TxId) (t : TxId) (ts : List TxId) (parts : Table Held) → gone_in ts doom (gone_in (t ∷ []) doom parts) ≡ gone_in (t ∷ ts) doom parts
gone_in-one_more doom t ts [] = refl
gone_in-one_more doom t ts (p ∷ ps) = at (tx_same t p.0) (tx_in p.0 ts) (gone_in-one_more doom t ts ps)
  where
    at : (a b : Bool) → gone_in ts doom (gone_in (t ∷ []) doom ps) ≡ gone_in (t ∷ ts) doom ps
        → (p.0, cond b (gone_part doom (cond (a || false) (gone_part doom p.1) p.1)) (cond (a || false) (gone_part doom p.1) p.1)) ∷ gone_in ts doom (gone_in (t ∷ []) doom ps)
        ≡ (p.0, cond (a || b) (gone_part doom p.1) p.1) ∷ gone_in (t ∷ ts) doom ps
    at true true more = ap (λ l. (p.0, gone_part doom p.1) ∷ l) more
    at true false more = ap (λ l. (p.0, gone_part doom p.1) ∷ l) more
    at false true more = ap (λ l. (p.0, gone_part doom p.1) ∷ l) more
    at false false more = ap (λ l. (p.0, p.1) ∷ l) more

-- a part that is there is changed to one that is here only if it was
pub no_return : (o : Option Held) (old new : Held) → o ≡ Some old → (part_is_here new ≡ true → part_is_here old ≡ true) → IsNoReturn o new
no_return o old new e h = subst (λ p. IsNoReturn p new) (sym e) h

-- the table with another value for one transaction
abbrev pub changed : TxId → (Held → Held) → Table Held → Table Held
changed t f parts = map (λ p. (p.0, cond (tx_same t p.0) (f p.1) p.1)) parts

-- where there is none, nothing changes
pub changed-none : (t : TxId) (f : Held → Held) (parts : Table Held) → tx_get t parts ≡ None → changed t f parts ≡ parts
changed-none t f [] e = refl
changed-none t f (p ∷ ps) e = at (tx_same t p.0) e (changed-none t f ps)
  where
    at : (b : Bool) → cond b (Some p.1) (tx_get t ps) ≡ None → (tx_get t ps ≡ None → changed t f ps ≡ ps) → (p.0, cond b (f p.1) p.1) ∷ changed t f ps ≡ p ∷ ps
    at true e more = absurd cc
    at false e more = ap (λ l. p ∷ l) (more e)

not_above : (t : TxId) (parts : Table Held) → Above t (keys_of parts) → tx_get t parts ≡ None
not_above t [] a = refl
not_above t (p ∷ ps) a = ap (λ c. cond (is_eq c) (Some p.1) (tx_get t ps)) a.0 ∙ not_above t ps a.1

all_above : (t u : TxId) (ts : List TxId) → tx_cmp t u ≡ Less → Above u ts → Above t ts
all_above t u [] l a = tt
all_above t u (x ∷ xs) l a = (tx_total.trans t u x l a.0, all_above t u xs l a.1)

-- the new value of one that is there
pub changed-found : (t : TxId) (f : Held → Held) (h : Held) (parts : Table Held) → IsStrictlySortedBy tx_cmp (keys_of parts) → tx_get t parts ≡ Some h
    → insert_entry tx_cmp parts t (f h) ≡ changed t f parts
unfolding IsStrictlySortedBy
changed-found t f h [] s e = absurd cc
changed-found t f h (p ∷ ps) s e = at (tx_cmp t p.0) refl e (changed-found t f h ps s.1)
  where
    same : tx_cmp t p.0 ≡ Equal → Above t (keys_of ps)
    same i = subst (λ u. Above u (keys_of ps)) (sym (tx_true t p.0 (ap is_eq i))) s.0

    at : (c : Ordering) → tx_cmp t p.0 ≡ c → cond (is_eq c) (Some p.1) (tx_get t ps) ≡ Some h → (tx_get t ps ≡ Some h → insert_entry tx_cmp ps t (f h) ≡ changed t f ps)
        → match_ordering c ((t, f h) ∷ p ∷ ps) ((p.0, f h) ∷ ps) (p ∷ insert_entry tx_cmp ps t (f h)) ≡ (p.0, cond (is_eq c) (f p.1) p.1) ∷ changed t f ps
    at Less i e more = let none = not_above t ps (all_above t p.0 (keys_of ps) i s.0) in absurd cc
    at Equal i e more = let k : p.1 ≡ h = cc in ap (λ x. (p.0, f x) ∷ ps) (sym k) ∙ ap (λ l. (p.0, f p.1) ∷ l) (sym (changed-none t f ps (not_above t ps (same i))))
    at Greater i e more = ap (λ l. p ∷ l) (more e)

-- a part that is gone is one that changed
pub gone_in-changed : (doom : Option TxId) (t : TxId) (parts : Table Held) → gone_in (t ∷ []) doom parts ≡ changed t (gone_part doom) parts
gone_in-changed doom t [] = refl
gone_in-changed doom t (p ∷ ps) = at (tx_same t p.0) (gone_in-changed doom t ps)
  where
    at : (b : Bool) → gone_in (t ∷ []) doom ps ≡ changed t (gone_part doom) ps
        → (p.0, cond (b || false) (gone_part doom p.1) p.1) ∷ gone_in (t ∷ []) doom ps ≡ (p.0, cond b (gone_part doom p.1) p.1) ∷ changed t (gone_part doom) ps
    at true more = ap (λ l. (p.0, gone_part doom p.1) ∷ l) more
    at false more = ap (λ l. p ∷ l) more

-- ---- by a list's places

pub gone_in-nobody : (doom : Option TxId) (parts : Table Held) → gone_in [] doom parts ≡ parts
gone_in-nobody doom [] = refl
gone_in-nobody doom (p ∷ ps) = ap (λ l. p ∷ l) (gone_in-nobody doom ps)

pub gone_in-step : (doom : Option TxId) (i : ℕ) (txs : List TxId) (d : TxId) (parts : Table Held) → i < length txs
    → gone_in (drop (i + 1) txs) doom (gone_in (get_or txs i d ∷ []) doom parts) ≡ gone_in (drop i txs) doom parts
gone_in-step doom i txs d parts h =
    let e : drop i txs ≡ get_or txs i d ∷ drop (i + 1) txs = rw (add-one, drop-cons txs i d) refl in
    gone_in-one_more doom (get_or txs i d) (drop (i + 1) txs) parts ∙ ap (λ l. gone_in l doom parts) (sym e)
