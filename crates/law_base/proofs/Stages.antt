-- The stage of a part after its table changed: parts that are gone, marked as dropped, closed, and a part that is new.
use Rattle.std.proofs.Common.{◌≡◌, ⊎_elim, Bool, true, false, cond, List, Option, Some, None, refl, sym, ap, ◌∙◌, ◌⊎◌, inl, inr, ℕ}
use Rattle.std.proofs.lemmas.Bool.{cases_Bool, cond-false, false_from_ne_true, both_ways}
use Rattle.std.proofs.lemmas.Option.{same_Some}
use Rattle.clv_base.specs.declared.names.TxId.{TxId}
use Rattle.clv_base.specs.declared.names.Birth.{Birth}
use Rattle.clv_base.specs.declared.state.Stage.{Stage}
use Rattle.clv_base.specs.declared.state.Stage.TheVariants.{Active, Closed, Gone}
use Rattle.clv_base.specs.declared.state.Held.{Held}
use Rattle.clv_base.specs.Orders.{Table, tx_same, tx_in, tx_get}
use Rattle.clv_base.specs.declared.changes.Change.{Change}
use Rattle.clv_base.specs.State.{is_present, Local}
use Rattle.clv_base.specs.Undo.{gone_part, gone_in}
use Rattle.clv_base.specs.OneShard.{active_part, new_part, dropped_part, marked_in, closed_part, closed_in, written}
use Rattle.clv_base.proofs.SameNames.{tx_self}
use Rattle.law_base.proofs.Tables.{stage_in, stage_by, get_changed, get_put}

-- ---- gone

pub get_gone : (set : List TxId) (d : Option TxId) (u : TxId) (parts : Table Held) → tx_get u (gone_in set d parts) ≡ elim (tx_get u parts) [ Some h ↦ Some (cond (tx_in u set) (gone_part d h) h) | None ↦ None ]
get_gone set d u parts = get_changed (λ x. tx_in x set) (gone_part d) u parts

pub same_part : (o : Option Held) → elim o [ Some h ↦ Some h | None ↦ None ] ≡ o
same_part None = refl
same_part (Some h) = refl

pub get_other : (set : List TxId) (d : Option TxId) (u : TxId) (parts : Table Held) → tx_in u set ≡ false → tx_get u (gone_in set d parts) ≡ tx_get u parts
get_other set d u parts e = get_gone set d u parts ∙ ap (λ b. elim (tx_get u parts) [ Some h ↦ Some (cond b (gone_part d h) h) | None ↦ None ]) e ∙ same_part (tx_get u parts)

pub stage_other : (set : List TxId) (d : Option TxId) (u : TxId) (parts : Table Held) → tx_in u set ≡ false → stage_in (gone_in set d parts) u ≡ stage_in parts u
stage_other set d u parts e = ap stage_by (get_other set d u parts e)

abbrev pub gone_by : Option TxId → Option Stage → Option Stage
gone_by d None = None
gone_by d (Some s) = Some (Gone d)

pub stage_own : (set : List TxId) (d : Option TxId) (u : TxId) (parts : Table Held) → tx_in u set ≡ true → stage_in (gone_in set d parts) u ≡ gone_by d (stage_in parts u)
stage_own set d u parts e =
    ap stage_by (get_gone set d u parts) ∙ ap (λ b. stage_by (elim (tx_get u parts) [ Some h ↦ Some (cond b (gone_part d h) h) | None ↦ None ])) e ∙ at (tx_get u parts)
  where
    at : (o : Option Held) → stage_by (elim o [ Some h ↦ Some (gone_part d h) | None ↦ None ]) ≡ gone_by d (stage_by o)
    at None = refl
    at (Some h) = refl

pub gone_active : (d : Option TxId) (o : Option Stage) → gone_by d o ≡ Some Active → ⊥
gone_active d None e = absurd cc
gone_active d (Some s) e = absurd cc

-- an active part was active, and is not of the set
pub active_back : (set : List TxId) (d : Option TxId) (u : TxId) (parts : Table Held) → stage_in (gone_in set d parts) u ≡ Some Active → (tx_in u set ≡ false) × (stage_in parts u ≡ Some Active)
active_back set d u parts e =
    let out : tx_in u set ≡ false = false_from_ne_true _ (λ h. gone_active d (stage_in parts u) (sym (stage_own set d u parts h) ∙ e)) in
    (out, sym (stage_other set d u parts out) ∙ e)

pub gone_closed : (d : Option TxId) (o : Option Stage) → gone_by d o ≡ Some Closed → ⊥
gone_closed d None e = absurd cc
gone_closed d (Some s) e = absurd cc

pub closed_back : (set : List TxId) (d : Option TxId) (u : TxId) (parts : Table Held) → stage_in (gone_in set d parts) u ≡ Some Closed → stage_in parts u ≡ Some Closed
closed_back set d u parts e =
    ⊎_elim (λ i. absurd (gone_closed d (stage_in parts u) (sym (stage_own set d u parts i) ∙ e))) (λ i. sym (stage_other set d u parts i) ∙ e) (cases_Bool (tx_in u set))

pub gone_none : (d : TxId) (o : Option Stage) → gone_by None o ≡ Some (Gone (Some d)) → ⊥
gone_none d None e = absurd cc
gone_none d (Some s) e = absurd cc

pub doomed_back : (set : List TxId) (u d : TxId) (parts : Table Held) → stage_in (gone_in set None parts) u ≡ Some (Gone (Some d)) → stage_in parts u ≡ Some (Gone (Some d))
doomed_back set u d parts e =
    ⊎_elim (λ i. absurd (gone_none d (stage_in parts u) (sym (stage_own set None u parts i) ∙ e))) (λ i. sym (stage_other set None u parts i) ∙ e) (cases_Bool (tx_in u set))

pub gone_out : (e : Option TxId) (o : Option Stage) → is_present (gone_by e o) ≡ false
gone_out e None = refl
gone_out e (Some x) = refl

-- who is not present stays so
pub absent_go : (set : List TxId) (d : Option TxId) (u : TxId) (parts : Table Held) → is_present (stage_in parts u) ≡ false → is_present (stage_in (gone_in set d parts) u) ≡ false
absent_go set d u parts e = ⊎_elim (λ i. ap is_present (stage_own set d u parts i) ∙ gone_out d (stage_in parts u)) (λ i. ap is_present (stage_other set d u parts i) ∙ e) (cases_Bool (tx_in u set))

pub own_go : (set : List TxId) (d : Option TxId) (u : TxId) (parts : Table Held) → tx_in u set ≡ true → is_present (stage_in (gone_in set d parts) u) ≡ false
own_go set d u parts i = ap is_present (stage_own set d u parts i) ∙ gone_out d (stage_in parts u)

-- ---- marked as dropped

pub get_marked : (t u : TxId) (parts : Table Held) → tx_get u (marked_in t parts) ≡ elim (tx_get u parts) [ Some h ↦ Some (cond (tx_same t u) (dropped_part h) h) | None ↦ None ]
get_marked t u parts = get_changed (tx_same t) dropped_part u parts

pub stage_marked : (t u : TxId) (parts : Table Held) → stage_in (marked_in t parts) u ≡ stage_in parts u
stage_marked t u parts = ap stage_by (get_marked t u parts) ∙ at (tx_same t u) (tx_get u parts)
  where
    at : (b : Bool) (o : Option Held) → stage_by (elim o [ Some h ↦ Some (cond b (dropped_part h) h) | None ↦ None ]) ≡ stage_by o
    at b None = refl
    at true (Some h) = refl
    at false (Some h) = refl

-- ---- closed

pub closed_not_active : ◌≡◌ {A = Option Stage} (Some Closed) (Some Active) → ⊥
closed_not_active e = absurd cc

pub active_not_closed : ◌≡◌ {A = Option Stage} (Some Active) (Some Closed) → ⊥
active_not_closed e = absurd cc

pub stage_of_some : (parts : Table Held) (t : TxId) (s : Stage) → stage_in parts t ≡ Some s → (h : Held) × (tx_get t parts ≡ Some h) × (h.stage ≡ s)
stage_of_some parts t s e = at (tx_get t parts) refl e
  where
    at : (o : Option Held) → tx_get t parts ≡ o → stage_by o ≡ Some s → (h : Held) × (tx_get t parts ≡ Some h) × (h.stage ≡ s)
    at None f g = absurd cc
    at (Some h) f g = (h, f, same_Some h.stage s g)

pub get_closed : (t u : TxId) (parts : Table Held) → tx_get u (closed_in t parts) ≡ elim (tx_get u parts) [ Some h ↦ Some (cond (tx_same t u) (closed_part h) h) | None ↦ None ]
get_closed t u parts = get_changed (tx_same t) closed_part u parts

pub get_closed_other : (t u : TxId) (parts : Table Held) → tx_same t u ≡ false → tx_get u (closed_in t parts) ≡ tx_get u parts
get_closed_other t u parts e = get_closed t u parts ∙ ap (λ b. elim (tx_get u parts) [ Some h ↦ Some (cond b (closed_part h) h) | None ↦ None ]) e ∙ same_part (tx_get u parts)

pub get_closed_own : (t u : TxId) (parts : Table Held) (h : Held) → tx_same t u ≡ true → tx_get u parts ≡ Some h → tx_get u (closed_in t parts) ≡ Some (closed_part h)
get_closed_own t u parts h e f = get_closed t u parts ∙ ap (λ b. elim (tx_get u parts) [ Some h ↦ Some (cond b (closed_part h) h) | None ↦ None ]) e ∙ ap (λ o. elim o [ Some h ↦ Some (closed_part h) | None ↦ None ]) f

pub stage_closed : (parts : Table Held) (t : TxId) → stage_in parts t ≡ Some Active → stage_in (closed_in t parts) t ≡ Some Closed
stage_closed parts t e = let h = stage_of_some parts t Active e in ap stage_by (get_closed_own t t parts h.0 (tx_self t) h.1)

pub closed_other : (parts : Table Held) (t u : TxId) → tx_same t u ≡ false → stage_in (closed_in t parts) u ≡ stage_in parts u
closed_other parts t u e = ap stage_by (get_closed_other t u parts e)

-- ---- new

pub other_part : (tx : TxId) (birth : Birth) (parts : Table Held) (u : TxId) (o : Option Held) → tx_same u tx ≡ false → tx_get u (new_part tx birth o parts) ≡ tx_get u parts
other_part tx birth parts u None e = get_put tx u (active_part birth) parts ∙ cond-false (tx_same u tx) _ (tx_get u parts) e
other_part tx birth parts u (Some x) e = refl

pub present_is : (o : Option Stage) → is_present o ≡ true → (o ≡ Some Active) ⊎ (o ≡ Some Closed)
present_is None e = absurd (both_ways false refl e)
present_is (Some Active) e = inl refl
present_is (Some Closed) e = inr refl
present_is (Some (Gone d)) e = absurd (both_ways false refl e)

pub was_present : (set : List TxId) (d : Option TxId) (u : TxId) (parts : Table Held) → is_present (stage_in (gone_in set d parts) u) ≡ true → is_present (stage_in parts u) ≡ true
was_present set d u parts e = at (is_present (stage_in parts u)) refl
  where
    at : (b : Bool) → is_present (stage_in parts u) ≡ b → b ≡ true
    at true f = refl
    at false f = absurd (both_ways _ (absent_go set d u parts f) e)

pub written_parts : (tx : TxId) (w : Option (ℕ × Change)) (l : Local) → (written tx w l).parts ≡ l.parts
written_parts tx None l = refl
written_parts tx (Some w) l = refl
