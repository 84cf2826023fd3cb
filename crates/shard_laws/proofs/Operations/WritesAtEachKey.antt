-- Lists of writes that come to the same at each key: they hold the same writes, in the same order but for ADDs beside each other.
use Rattle.std.proofs.Common.{◌≡◌, Bool, true, false, cond, ◌||◌, List, [], ◌∷◌, ◌++◌, Option, Some, None, ◌==◌, refl, sym, ap, subst, ◌∙◌, eqb-true, ℕ}
use Rattle.std.specs.List.{AllByRecursion, filter}
use Rattle.std.proofs.lemmas.Bool.{both_ways}
use Rattle.clv_base.specs.declared.values.Value.{Value as ValueType}
use Rattle.clv_base.specs.declared.names.TxId.{TxId}
use Rattle.clv_base.specs.declared.changes.Change.{Change}
use Rattle.clv_base.specs.declared.changes.Change.TheVariants.{Sets, Adds}
use Rattle.clv_base.specs.Logs.{StandingUpdate, changed, is_setting}
use Rattle.clv_base.specs.Orders.{tx_same}
use Rattle.clv_base.proofs.SameNames.{tx_true}
use Rattle.clv_base.proofs.Sums.{plus_plus}
use Rattle.law_base.specs.Items.{on_top}
use Rattle.law_base.proofs.Running.{top_value}
use Rattle.clv_base.specs.Maps.{KeyMap}

-- two writes that may change places: of different transactions, and of different keys or both ADDs
abbrev pub MaySwap : StandingUpdate → StandingUpdate → Type 0
MaySwap w v = (w.tx ≡ v.tx → ⊥) × (w.key ≡ v.key → (is_setting w.change || is_setting v.change) ≡ false)

pub data SameAtKeys : List StandingUpdate → List StandingUpdate → Type 0 where
  unmoved : {ws : List StandingUpdate} → SameAtKeys ws ws
  behind : {ws vs : List StandingUpdate} (w : StandingUpdate) → SameAtKeys ws vs → SameAtKeys (w ∷ ws) (w ∷ vs)
  swapped : {ws : List StandingUpdate} (w v : StandingUpdate) → MaySwap w v → SameAtKeys (w ∷ v ∷ ws) (v ∷ w ∷ ws)
  twice : {us vs ws : List StandingUpdate} → SameAtKeys us vs → SameAtKeys vs ws → SameAtKeys us ws

-- between lists that are the same as these
pub keys_by : {as_ ws vs bs : List StandingUpdate} → as_ ≡ ws → SameAtKeys ws vs → vs ≡ bs → SameAtKeys as_ bs
keys_by {as_} {ws} {vs} {bs} e s f = subst (SameAtKeys as_) f (subst (λ l. SameAtKeys l vs) (sym e) s)

-- a write moves behind those that it may change places with
pub keys_past : (w : StandingUpdate) (as_ bs : List StandingUpdate) → AllByRecursion (λ v. MaySwap w v) as_ → SameAtKeys (w ∷ as_ ++ bs) (as_ ++ w ∷ bs)
keys_past w [] bs all = unmoved
keys_past w (v ∷ vs) bs all = twice (swapped w v all.0) (behind v (keys_past w vs bs all.1))

pub keys_filter : (f : StandingUpdate → Bool) (ws vs : List StandingUpdate) → SameAtKeys ws vs → SameAtKeys (filter f ws) (filter f vs)
keys_filter f _ _ (unmoved {ws}) = unmoved
keys_filter f _ _ (behind {ws} {vs} w s) = at (f w) (keys_filter f ws vs s)
  where
    at : (b : Bool) → SameAtKeys (filter f ws) (filter f vs) → SameAtKeys (cond b (w ∷ filter f ws) (filter f ws)) (cond b (w ∷ filter f vs) (filter f vs))
    at true ih = behind w ih
    at false ih = ih
keys_filter f _ _ (swapped {ws} w v may) = at (f w) (f v)
  where
    at : (b c : Bool) → SameAtKeys (cond b (w ∷ cond c (v ∷ filter f ws) (filter f ws)) (cond c (v ∷ filter f ws) (filter f ws))) (cond c (v ∷ cond b (w ∷ filter f ws) (filter f ws)) (cond b (w ∷ filter f ws) (filter f ws)))
    at true true = swapped w v may
    at true false = unmoved
    at false true = unmoved
    at false false = unmoved
keys_filter f _ _ (twice {us} {vs} {ws} s t) = twice (keys_filter f us vs s) (keys_filter f vs ws t)

-- ADDs come to the same in both orders
changes_swap : (c d : Change) (o : Option ValueType) → (is_setting c || is_setting d) ≡ false → changed c (changed d o) ≡ changed d (changed c o)
changes_swap (Adds n) (Adds l) o e = plus_plus n l o
changes_swap (Sets b a) d o e = absurd (both_ways true e refl)
changes_swap (Adds n) (Sets b a) o e = absurd (both_ways true e refl)

pub keys_top : (floor : KeyMap) (ws vs : List StandingUpdate) (q : ℕ) → SameAtKeys ws vs → top_value floor q ws ≡ top_value floor q vs
keys_top floor _ _ q (unmoved {ws}) = refl
keys_top floor _ _ q (behind {ws} {vs} w s) = ap (λ o. cond (q == w.key) (changed w.change o) o) (keys_top floor ws vs q s)
keys_top floor _ _ q (swapped {ws} w v may) = at (q == w.key) (q == v.key) refl refl
  where
    at : (b c : Bool) → (q == w.key) ≡ b → (q == v.key) ≡ c
        → cond b (changed w.change (cond c (changed v.change (top_value floor q ws)) (top_value floor q ws))) (cond c (changed v.change (top_value floor q ws)) (top_value floor q ws))
        ≡ cond c (changed v.change (cond b (changed w.change (top_value floor q ws)) (top_value floor q ws))) (cond b (changed w.change (top_value floor q ws)) (top_value floor q ws))
    at true true e f = changes_swap w.change v.change (top_value floor q ws) (may.1 (sym (eqb-true q w.key e) ∙ eqb-true q v.key f))
    at true false e f = refl
    at false true e f = refl
    at false false e f = refl
keys_top floor _ _ q (twice {us} {vs} {ws} s t) = keys_top floor us vs q s ∙ keys_top floor vs ws q t

pub keys_on_top : (tx : TxId) (lsn : ℕ) (w : Option (ℕ × Change)) (ws vs : List StandingUpdate) → SameAtKeys ws vs → SameAtKeys (on_top tx lsn w ws) (on_top tx lsn w vs)
keys_on_top tx lsn None ws vs s = s
keys_on_top tx lsn (Some w) ws vs s = behind (record { lsn = lsn; tx = tx; key = w.0; change = w.1 }) s

-- what holds of each of the one holds of each of the other
pub keys_all : (P : StandingUpdate → Type 0) (ws vs : List StandingUpdate) → SameAtKeys ws vs → AllByRecursion P ws → AllByRecursion P vs
keys_all P _ _ (unmoved {ws}) a = a
keys_all P _ _ (behind {ws} {vs} w s) a = (a.0, keys_all P ws vs s a.1)
keys_all P _ _ (swapped {ws} w v may) a = (a.1.0, (a.0, a.1.1))
keys_all P _ _ (twice {us} {vs} {ws} s t) a = keys_all P vs ws t (keys_all P us vs s a)

-- each transaction's own writes are the same, in the same order
pub keys_own : (t : TxId) (ws vs : List StandingUpdate) → SameAtKeys ws vs → filter (λ w. tx_same t w.tx) ws ≡ filter (λ w. tx_same t w.tx) vs
keys_own t _ _ (unmoved {ws}) = refl
keys_own t _ _ (behind {ws} {vs} w s) = ap (λ l. cond (tx_same t w.tx) (w ∷ l) l) (keys_own t ws vs s)
keys_own t _ _ (swapped {ws} w v may) = at (tx_same t w.tx) (tx_same t v.tx) refl refl
  where
    at : (b c : Bool) → tx_same t w.tx ≡ b → tx_same t v.tx ≡ c
        → cond b (w ∷ cond c (v ∷ filter (λ x. tx_same t x.tx) ws) (filter (λ x. tx_same t x.tx) ws)) (cond c (v ∷ filter (λ x. tx_same t x.tx) ws) (filter (λ x. tx_same t x.tx) ws))
        ≡ cond c (v ∷ cond b (w ∷ filter (λ x. tx_same t x.tx) ws) (filter (λ x. tx_same t x.tx) ws)) (cond b (w ∷ filter (λ x. tx_same t x.tx) ws) (filter (λ x. tx_same t x.tx) ws))
    at true true e f = absurd (may.0 (sym (tx_true t w.tx e) ∙ tx_true t v.tx f))
    at true false e f = refl
    at false true e f = refl
    at false false e f = refl
keys_own t _ _ (twice {us} {vs} {ws} s r) = keys_own t us vs s ∙ keys_own t vs ws r
