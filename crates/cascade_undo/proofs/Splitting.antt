-- The newest of the writes that are to go, among those that stand: those above it stay and are others', and it goes.
use Rattle.std.proofs.Common.{◌≡◌, ℕ, suc, Bool, true, false, cond, ◌&&◌, ◌==◌, List, [], ◌∷◌, ◌++◌, length, Option, Some, None, refl, sym, ap, subst, ◌∙◌}
use Rattle.std.specs.List.{AllByRecursion, filter}
use Rattle.std.proofs.lemmas.Bool.{cond-true, cond-false}
use Rattle.clv_base.specs.declared.values.Value.{Value as ValueType}
use Rattle.clv_base.specs.declared.names.TxId.{TxId}
use Rattle.clv_base.specs.Orders.{tx_in, tx_same}
use Rattle.clv_base.specs.Logs.{StandingUpdate, unchanged, without_newest, newest_of}
use Rattle.clv_base.specs.Undo.{is_of, undone_at, compensation, clrs_by, newest_lsn}
use Rattle.clv_base.proofs.SameNames.{tx_self, tx_true}
use Rattle.cascade_undo.specs.Steps.{newest_in, lsn_of}
use Rattle.law_base.proofs.Bools.{by_bool as both}
use Rattle.law_base.proofs.Lists.{all_mono}
use Rattle.law_base.proofs.Names.{other_name}

-- none of the writes is to go
abbrev pub NoneOf : (StandingUpdate → Bool) → List StandingUpdate → Type 0
NoneOf gone ws = AllByRecursion (λ w. gone w ≡ false) ws

-- none is of the transaction
abbrev pub AreOthers : TxId → List StandingUpdate → Type 0
AreOthers t ws = AllByRecursion (λ w. tx_same t w.tx ≡ false) ws

-- it goes, and those above it stay; it is its transaction's newest
pub record SplitAt (gone : StandingUpdate → Bool) (w : StandingUpdate) (ws : List StandingUpdate) : Type 0 where
  pub above : List StandingUpdate
  pub rest : List StandingUpdate
  pub is : ws ≡ above ++ w ∷ rest
  pub stay : NoneOf gone above
  pub own : gone w ≡ true
  pub others : AreOthers w.tx above

-- ---- the newest of a set

pub record SplitIn (set : List TxId) (w : StandingUpdate) (ws : List StandingUpdate) : Type 0 where
  pub above : List StandingUpdate
  pub rest : List StandingUpdate
  pub is : ws ≡ above ++ w ∷ rest
  pub stay : NoneOf (is_of set) above
  pub own : tx_in w.tx set ≡ true

split_in : (set : List TxId) (ws : List StandingUpdate) (w : StandingUpdate) → newest_in set ws ≡ Some w → SplitIn set w ws
split_in set [] w newest = absurd cc
split_in set (v ∷ vs) w newest =
    both (λ b. tx_in v.tx set ≡ b → cond b (Some v) (newest_in set vs) ≡ Some w → SplitIn set w (v ∷ vs)) (tx_in v.tx set)
    (λ _ own e. let same : v ≡ w = cc in record { above = []; rest = vs; is = ap (λ u. u ∷ vs) same; stay = tt; own = subst (λ u. tx_in u.tx set ≡ true) same own })
    (λ _ other e. let more = split_in set vs w e in record { above = v ∷ more.above; rest = more.rest; is = ap (λ l. v ∷ l) more.is; stay = (other, more.stay); own = more.own }) refl newest

pub set_others : (set : List TxId) (t : TxId) (above : List StandingUpdate) → tx_in t set ≡ true → NoneOf (is_of set) above → AreOthers t above
set_others set t above i h = all_mono _ _ (λ v out. other_name set t v.tx i out) above h

pub split_at : (set : List TxId) (ws : List StandingUpdate) (w : StandingUpdate) → newest_in set ws ≡ Some w → SplitAt (is_of set) w ws
split_at set ws w newest =
    let p = split_in set ws w newest in
    record { above = p.above; rest = p.rest; is = p.is; stay = p.stay; own = p.own; others = set_others set w.tx p.above p.own p.stay }

-- where there is none
pub none_of : (set : List TxId) (ws : List StandingUpdate) → newest_in set ws ≡ None → NoneOf (is_of set) ws
none_of set [] e = tt
none_of set (v ∷ vs) e =
    both (λ b. tx_in v.tx set ≡ b → cond b (Some v) (newest_in set vs) ≡ None → NoneOf (is_of set) (v ∷ vs)) (tx_in v.tx set)
    (λ _ own is. absurd cc) (λ _ other is. (other, none_of set vs is)) refl e

-- ---- the newest of a transaction

pub record SplitOf (t : TxId) (w : StandingUpdate) (ws : List StandingUpdate) : Type 0 where
  pub above : List StandingUpdate
  pub rest : List StandingUpdate
  pub is : ws ≡ above ++ w ∷ rest
  pub own : t ≡ w.tx
  pub others : AreOthers t above

pub split_of : (t : TxId) (ws : List StandingUpdate) (w : StandingUpdate) → newest_of t ws ≡ Some w → SplitOf t w ws
split_of t [] w newest = absurd cc
split_of t (v ∷ vs) w newest =
    both (λ b. tx_same t v.tx ≡ b → cond b (Some v) (newest_of t vs) ≡ Some w → SplitOf t w (v ∷ vs)) (tx_same t v.tx)
    (λ _ own e. let same : v ≡ w = cc in record { above = []; rest = vs; is = ap (λ u. u ∷ vs) same; own = tx_true t v.tx own ∙ ap (λ u. u.tx) same; others = tt })
    (λ _ other e. let more = split_of t vs w e in record { above = v ∷ more.above; rest = more.rest; is = ap (λ l. v ∷ l) more.is; own = more.own; others = (other, more.others) }) refl newest

-- ---- what lies above changes nothing

pub newest_above : (t : TxId) (above ws : List StandingUpdate) → AreOthers t above → newest_of t (above ++ ws) ≡ newest_of t ws
newest_above t [] ws h = refl
newest_above t (v ∷ vs) ws h = cond-false _ _ _ h.0 ∙ newest_above t vs ws h.1

pub without_above : (t : TxId) (above ws : List StandingUpdate) → AreOthers t above → without_newest t (above ++ ws) ≡ above ++ without_newest t ws
without_above t [] ws h = refl
without_above t (v ∷ vs) ws h = cond-false _ _ _ h.0 ∙ ap (λ l. v ∷ l) (without_above t vs ws h.1)

pub newest_past : (set : List TxId) (above ws : List StandingUpdate) → NoneOf (is_of set) above → newest_in set (above ++ ws) ≡ newest_in set ws
newest_past set [] ws h = refl
newest_past set (v ∷ vs) ws h = cond-false _ _ _ h.0 ∙ newest_past set vs ws h.1

pub all_above : (P : StandingUpdate → Type 0) (above ws : List StandingUpdate) → AllByRecursion P (above ++ ws) → AllByRecursion P ws
all_above P [] ws a = a
all_above P (v ∷ vs) ws a = all_above P vs ws a.1

pub all_but : (P : StandingUpdate → Type 0) (above : List StandingUpdate) (w : StandingUpdate) (rest : List StandingUpdate) → AllByRecursion P (above ++ w ∷ rest) → AllByRecursion P (above ++ rest)
all_but P [] w rest a = a.1
all_but P (v ∷ vs) w rest a = (a.0, all_but P vs w rest a.1)

module _ (gone : StandingUpdate → Bool) where
  pub clrs_above : (above ws : List StandingUpdate) → NoneOf gone above → clrs_by gone (above ++ ws) ≡ clrs_by gone ws
  clrs_above [] ws h = refl
  clrs_above (v ∷ vs) ws h = cond-false _ _ _ h.0 ∙ clrs_above vs ws h.1

  pub writes_above : (above ws : List StandingUpdate) → NoneOf gone above → filter gone (above ++ ws) ≡ filter gone ws
  writes_above [] ws h = refl
  writes_above (v ∷ vs) ws h = cond-false _ _ _ h.0 ∙ writes_above vs ws h.1

  pub undone_above : (k : ℕ) (above ws : List StandingUpdate) (v : Option ValueType) → NoneOf gone above → undone_at gone k (above ++ ws) v ≡ undone_at gone k ws v
  undone_above k [] ws v h = refl
  undone_above k (u ∷ us) ws v h = ap (λ b. undone_at gone k (us ++ ws) (cond (b && (k == u.key)) (unchanged u.change v) v)) h.0 ∙ undone_above k us ws v h.1

  -- ---- it goes

  module _ (w : StandingUpdate) (i : gone w ≡ true) (above rest : List StandingUpdate) (h : NoneOf gone above) where
    pub clrs_with_it : AreOthers w.tx above → clrs_by gone (above ++ w ∷ rest) ≡ compensation w.tx (newest_lsn w.tx (above ++ rest)) w.key w.change ∷ clrs_by gone (above ++ rest)
    clrs_with_it others =
        clrs_above above (w ∷ rest) h ∙ cond-true _ _ _ i
        ∙ ap (λ o. compensation w.tx (lsn_of o) w.key w.change ∷ clrs_by gone rest) (sym (newest_above w.tx above rest others))
        ∙ ap (λ l. compensation w.tx (newest_lsn w.tx (above ++ rest)) w.key w.change ∷ l) (sym (clrs_above above rest h))

    pub writes_with_it : length (filter gone (above ++ w ∷ rest)) ≡ suc (length (filter gone (above ++ rest)))
    writes_with_it = ap length (writes_above above (w ∷ rest) h ∙ cond-true _ _ _ i) ∙ ap (λ l. suc (length l)) (sym (writes_above above rest h))

    -- it is taken back first
    pub undone_with_it : (k : ℕ) (v : Option ValueType) → undone_at gone k (above ++ rest) (cond (k == w.key) (unchanged w.change v) v) ≡ undone_at gone k (above ++ w ∷ rest) v
    undone_with_it k v =
        undone_above k above rest (cond (k == w.key) (unchanged w.change v) v) h
        ∙ ap (λ b. undone_at gone k rest (cond (b && (k == w.key)) (unchanged w.change v) v)) (sym i)
        ∙ sym (undone_above k above (w ∷ rest) v h)

pub without_it : (w : StandingUpdate) (above rest : List StandingUpdate) → AreOthers w.tx above → without_newest w.tx (above ++ w ∷ rest) ≡ above ++ rest
without_it w above rest others = without_above w.tx above (w ∷ rest) others ∙ ap (λ l. above ++ l) (cond-true _ _ _ (tx_self w.tx))
