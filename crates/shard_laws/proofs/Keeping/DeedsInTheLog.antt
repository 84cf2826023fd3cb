-- What holds stands in the log: each write of an operation that nobody took back.
use Rattle.std.proofs.Common.{◌≡◌, true, false, List, [], ◌∷◌, Option, Some, None, refl, sym, ap, subst, ◌∙◌, eqb-true, ℕ}
use Rattle.std.specs.List.{AllByRecursion, filter}
use Rattle.std.proofs.lemmas.Bool.{both_ways}
use Rattle.clv_base.specs.declared.names.TxId.{TxId}
use Rattle.clv_base.specs.declared.changes.Change.{Change}
use Rattle.clv_base.specs.declared.modes.Anchor.TheVariants.{At}
use Rattle.clv_base.specs.Logs.{StandingUpdate, standing, has_standing}
use Rattle.law_base.specs.Items.{Item, held, wrote, writes, pile, on_top, is_write_at}
use Rattle.law_base.proofs.Cells.{record_at}
use Rattle.law_base.proofs.Commits.{commit_durable}
use Rattle.law_base.proofs.Lists.{all_mono, all_kept}
use Rattle.law_base.proofs.LockRows.{holds}
use Rattle.law_base.proofs.Standing.{all_stand}
use Rattle.shard_laws.proofs.Operations.NeedsCoverKeys.{wrote_part}
use Rattle.shard_laws.proofs.Operations.WritesAtEachKey.{keys_all}
use Rattle.shard_laws.proofs.Keeping.WhatOneShardKeeps.{View, Past, Kept, Wrote, adds_in, is_adding, of_kept, is_alive}

-- a fact on each write of the items and of the base
pub pile_all : (P : StandingUpdate → Type 0) (xs : List Item) (ws : List StandingUpdate) → AllByRecursion (λ x. (w : ℕ × Change) → wrote x ≡ Some w → P (record { lsn = x.lsn; tx = x.tx; key = w.0; change = w.1 })) xs → AllByRecursion P ws → AllByRecursion P (pile xs ws)
pile_all P [] ws all base = base
pile_all P (x ∷ xs) ws all base = pile_all P xs (on_top x.tx x.lsn (wrote x) ws) all.1 (at (wrote x) refl)
  where
    at : (o : Option (ℕ × Change)) → wrote x ≡ o → AllByRecursion P (on_top x.tx x.lsn o ws)
    at None e = base
    at (Some w) e = (all.0 w e, base)

pub pile_base : (P : StandingUpdate → Type 0) (xs : List Item) (ws : List StandingUpdate) → AllByRecursion P (pile xs ws) → AllByRecursion P ws
pile_base P [] ws all = all
pile_base P (x ∷ xs) ws all = rest x.tx x.lsn (wrote x) (pile_base P xs (on_top x.tx x.lsn (wrote x) ws) all)
  where
    rest : (tx : TxId) (lsn : ℕ) (o : Option (ℕ × Change)) → AllByRecursion P (on_top tx lsn o ws) → AllByRecursion P ws
    rest tx lsn None a = a
    rest tx lsn (Some w) a = a.1

-- each write of the items stands in the pile
pub pile_each : (P : StandingUpdate → Type 0) (xs : List Item) (ws : List StandingUpdate) → AllByRecursion P (pile xs ws) → AllByRecursion (λ x. (w : ℕ × Change) → wrote x ≡ Some w → P (record { lsn = x.lsn; tx = x.tx; key = w.0; change = w.1 })) xs
pile_each P [] ws all = tt
pile_each P (x ∷ xs) ws all = (λ w e. first x.tx x.lsn w (wrote x) e (pile_base P xs (on_top x.tx x.lsn (wrote x) ws) all), pile_each P xs (on_top x.tx x.lsn (wrote x) ws) all)
  where
    first : (tx : TxId) (lsn : ℕ) (w : ℕ × Change) (o : Option (ℕ × Change)) → o ≡ Some w → AllByRecursion P (on_top tx lsn o ws) → P (record { lsn = lsn; tx = tx; key = w.0; change = w.1 })
    first tx lsn w None e a = absurd cc
    first tx lsn w (Some v) e a = subst (λ z. P (record { lsn = lsn; tx = tx; key = z.0; change = z.1 })) (same v w e) a.0
      where
        same : (v w : ℕ × Change) → Some v ≡ Some w → v ≡ w
        same v w e = cc

pub write_some : (o : Option (ℕ × Change)) (k : ℕ) → is_write_at o k ≡ true → (w : ℕ × Change) × (o ≡ Some w)
write_some None k e = absurd (both_ways false refl e)
write_some (Some w) k e = (w, refl)

-- of whom an operation that holds wrote, a write stands
pub stands_held : (g : Past) (v : View) → Kept g v → AllByRecursion (λ x. (q : ℕ) → writes x q ≡ true → has_standing v.log x.tx ≡ true) (held g.done)
stands_held g v k =
    all_mono _ _ (λ x h q e. let w = write_some (wrote x) q e in h w.0 w.1) (held g.done)
    (pile_each _ (held g.done) g.base (keys_all _ (filter (of_kept (is_alive g.lost)) (standing v.log)) (pile (held g.done) g.base) k.standing_is (all_kept (λ w. has_standing v.log w.tx ≡ true) (of_kept (is_alive g.lost)) (standing v.log) (all_stand v.log))))

-- an item's write holds its key
pub item_wrote : (g : Past) (v : View) → Kept g v → AllByRecursion (λ x. commit_durable v.log v.durable x.tx ≡ false → (q : ℕ) → writes x q ≡ true → (holds true (wrote_part (is_adding x)) (At q) x.tx v.locks ≡ true) × (record_at q v.records ≡ None → ⊥)) (held g.done)
item_wrote g v k =
    all_mono _ _ (λ x h out q e.
    let w = write_some (wrote x) q e in
    subst (λ z. (holds true (wrote_part (is_adding x)) (At z) x.tx v.locks ≡ true) × (record_at z v.records ≡ None → ⊥)) (sym (eqb-true q w.0.0 (ap (λ o. is_write_at o q) (sym w.1) ∙ e)))
    (subst (λ o. (holds true (wrote_part (adds_in o)) (At w.0.0) x.tx v.locks ≡ true) × (record_at w.0.0 v.records ≡ None → ⊥)) (sym w.1) (h w.0 w.1 out))) (held g.done)
    (pile_each (Wrote v) (held g.done) g.base (keys_all (Wrote v) (filter (of_kept (is_alive g.lost)) (standing v.log)) (pile (held g.done) g.base) k.standing_is (all_kept (Wrote v) (of_kept (is_alive g.lost)) (standing v.log) k.wrote)))
