-- What a transaction that goes back leaves: the room for what it took back is used, and all else is as it was.
use Rattle.std.proofs.Common.{◌≡◌, ℕ, ◌+◌, ◌≤◌, ⊎_elim, Bool, true, false, List, [], ◌∷◌, length, Some, refl, sym, ap, subst, arith}
use Rattle.std.proofs.lemmas.Bool.{both_ways, cases_Bool, or_cases}
use Rattle.std.specs.List.{AllByRecursion}
use Rattle.clv_base.specs.declared.names.TxId.{TxId}
use Rattle.clv_base.specs.declared.state.Stage.TheVariants.{Active}
use Rattle.clv_base.specs.Orders.{tx_same}
use Rattle.clv_base.specs.Logs.{StandingUpdate, standing}
use Rattle.clv_base.specs.State.{Local, is_present}
use Rattle.clv_base.specs.Undo.{stage_of, is_at, records_without, newest_lsns, roll_to}
use Rattle.clv_base.proofs.SameNames.{or_left, tx_self, tx_true}
use Rattle.law_base.specs.Undone.{stays_by}
use Rattle.law_base.proofs.Lists.{all_mono}
use Rattle.law_base.proofs.Standing.{standing_falls}
use Rattle.cascade_undo.proofs.Laws.{filtered_at, others_stay, standing_back}
use Rattle.cascade_undo.specs.Writes.{HaveRecords}
use Rattle.shard_ops.specs.Ghosts.{GhostsAreLocked}
use Rattle.txn_core.specs.Sound.{is_here, IsHeld, IsSound, owed_by, owed_for}
use Rattle.txn_core.proofs.Counting.{in_set}
use Rattle.txn_core.proofs.Locked.{back_ghosts_are_locked}
use Rattle.txn_core.proofs.Owing.{AreOf, owed_less, owed-back}
use Rattle.txn_core.proofs.Returning.{own_fits}
use Rattle.txn_core.proofs.Undoing.{all_filter, undo_keeps}

module _ (tx : TxId) (n : ℕ) (l : Local) (active : stage_of l tx ≡ Some Active) where
  abbrev ws : List StandingUpdate
  ws = standing l.log

  abbrev gone : StandingUpdate → Bool
  gone = is_at (newest_lsns n tx ws)

  pub own_here : is_here l tx ≡ true
  own_here = ap is_present active

  -- they are its own
  mine : AreOf tx gone ws
  mine = others_stay (length l.log) n tx ws (standing_falls l.log)

  gone_here : AllByRecursion (λ w. gone w ≡ true → is_here l w.tx ≡ true) ws
  gone_here =
      all_mono _ _ (λ w out g. ⊎_elim (λ s. subst (λ u. is_here l u ≡ true) (tx_true tx w.tx s) own_here) (λ o. absurd (both_ways _ (out o) g)) (cases_Bool (tx_same tx w.tx))) ws mine

  -- ---- before it

  pub have_records : (spare : ℕ) → IsSound l spare → HaveRecords (tx ∷ []) ws l.records
  have_records spare sound =
      all_mono _ _ (λ w held i. (held (⊎_elim (λ s. subst (λ u. is_here l u ≡ true) (tx_true tx w.tx s) own_here) (λ no. absurd (both_ways false refl no)) (or_cases (tx_same tx w.tx) false i))).0) ws sound.writes

  pub own_owed : (spare : ℕ) → IsSound l spare → owed_by (in_set (tx ∷ [])) l.log ≤ spare
  own_owed spare sound = let a = own_fits l.parts tx l.log own_here in let r = sound.room in omega (arith, a, r)

  -- ---- what isn't owed any more

  abbrev pub less : ℕ
  less = owed_less tx gone ws

  own_set : in_set (tx ∷ []) tx ≡ true
  own_set = or_left (tx_same tx tx) false (tx_self tx)

  pub owed_own : owed_by (in_set (tx ∷ [])) (roll_to tx n l).log + less ≡ owed_by (in_set (tx ∷ [])) l.log
  owed_own = let e = ap (owed_for (in_set (tx ∷ []))) (standing_back n tx l.log) in let b = owed-back (in_set (tx ∷ [])) tx own_set gone ws mine in omega (arith, e, b)

  pub owed_all : owed_by (is_here l) (roll_to tx n l).log + less ≡ owed_by (is_here l) l.log
  owed_all = let e = ap (owed_for (is_here l)) (standing_back n tx l.log) in let b = owed-back (is_here l) tx own_here gone ws mine in omega (arith, e, b)

  pub less_written : length (newest_lsns n tx ws) ≤ less
  less_written = let a = filtered_at (length l.log) n tx ws (standing_falls l.log) in omega (arith, a)

  -- ---- after it

  pub back_sound : (spare left : ℕ) → IsSound l spare → owed_by (is_here l) (roll_to tx n l).log ≤ left → IsSound (roll_to tx n l) left
  back_sound spare left sound room = record {
    successors = sound.successors;
    writes =
        subst (AllByRecursion (IsHeld (roll_to tx n l))) (sym (standing_back n tx l.log))
        (all_filter (IsHeld l) (IsHeld (roll_to tx n l)) (stays_by gone) ws (λ w h e i. let held = h i in (undo_keeps gone ws w.key l held.0, held.1)) sound.writes);
    room = room;
  }

  pub back_ghosts : (spare : ℕ) → IsSound l spare → GhostsAreLocked l.locks l.records → GhostsAreLocked l.locks (records_without gone ws l.records)
  back_ghosts spare sound locked = back_ghosts_are_locked gone l sound.writes gone_here locked
