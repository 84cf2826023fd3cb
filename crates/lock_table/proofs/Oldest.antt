-- The oldest holders in a request's way, row by row from the last.
use Rattle.std.proofs.Common.{◌≡◌, ℕ, suc, ◌-◌, ◌<◌, ◌≤◌, not, ◌&&◌, List, ◌∷◌, length, drop, get_or, Option, None, refl, sym, ap, ◌∙◌, subst, arith, drop-cons}
use Rattle.std.proofs.lemmas.List.{drop_all}
use Rattle.clv_base.specs.declared.names.TxId.{TxId}
use Rattle.clv_base.specs.declared.names.Birth.{Birth}
use Rattle.clv_base.specs.declared.modes.Anchor.{Anchor}
use Rattle.clv_base.specs.declared.modes.Need.{Need}
use Rattle.clv_base.specs.declared.modes.Holder.{Holder}
use Rattle.clv_base.specs.Orders.{is_older}
use Rattle.clv_base.specs.Locks.{Locks, conflicting_holders, oldest_by, die_by, wait_by, decide}
use Rattle.lock_table.specs.Rows.{AreOldest}

module _ (tx : TxId) (birth : Birth) (needs : List Need) (rows : Locks) where
  pub nothing_left : AreOldest tx birth needs (drop (length rows) rows) None None
  nothing_left = subst (λ (rs : Locks). AreOldest tx birth needs rs None None) (sym (drop_all (length rows) rows (omega arith))) (refl, refl)

  pub next_row : (left : ℕ) → 0 < left → left ≤ length rows → (d : Anchor × Holder) (older active older' active' : Option Holder) → AreOldest tx birth needs (drop left rows) older active
      → ((rs : Locks) → AreOldest tx birth needs rs older active → AreOldest tx birth needs (get_or rows (left - 1) d ∷ rs) older' active') → AreOldest tx birth needs (drop (left - 1) rows) older' active'
  next_row left some_left within d older active older' active' was more =
      let next : suc (left - 1) ≡ left = omega arith in
      let row : drop (left - 1) rows ≡ get_or rows (left - 1) d ∷ drop left rows = drop-cons rows (left - 1) d (omega arith) ∙ ap (λ (n : ℕ). get_or rows (left - 1) d ∷ drop n rows) next in
      subst (λ (rs : Locks). AreOldest tx birth needs rs older' active') (sym row) (more (drop left rows) was)

  pub decided : (left : ℕ) → left ≤ 0 → (older active : Option Holder) → AreOldest tx birth needs (drop left rows) older active → die_by older (wait_by active) ≡ decide tx birth needs rows
  decided left none_left older active was =
      let none : left ≡ 0 = omega arith in
      let all : AreOldest tx birth needs rows older active = subst (λ (n : ℕ). AreOldest tx birth needs (drop n rows) older active) none was in
      ap (λ (o : Option Holder). die_by o (wait_by active)) all.0
      ∙ ap (λ (a : Option Holder). die_by (oldest_by (λ h. not h.closed && is_older h.birth birth) (conflicting_holders tx needs rows)) (wait_by a)) all.1
