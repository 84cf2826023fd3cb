-- What a call tells, by what the event comes to on the shard and by the stamp of its entry.
use Rattle.std.proofs.Common.{◌≡◌, refl, sym, ◌∙◌, ap, ℕ, suc, ◌^◌, Bool, true, false, cond, not, nat_lt, ◌++◌, ◌∷◌, [], Some, None, Ok, Err}
use Rattle.clv_base.specs.declared.events.Event.{Event}
use Rattle.clv_base.specs.declared.events.Outcome.{Outcome}
use Rattle.clv_base.specs.declared.events.Outcome.TheVariants.{Down}
use Rattle.clv_base.specs.State.{Shard}
use Rattle.clv_base.specs.Events.{QuietBeforeWorn, QuietAfterWorn, Does, happen_up, happen, message_stamp, next_stamp, with_entry, Enters, CallAnswer, stamped, step}
use Rattle.machine_calls.specs.declared.machine.StepError.TheVariants.{Memory, Worn}
use Rattle.machine_calls.specs.Steps.{entry, takes_no_memory, may_want_memory, Tells}
use Rattle.shard_machine.specs.Stamps.{newest, stamp_by}

-- the stamp is there exactly where the clock isn't worn
pub has_stamp : (m n : ℕ) → stamp_by m ≡ Some n → (n ≡ suc m) × (nat_lt (suc m) (2 ^ 48) ≡ true)
has_stamp m n e = at (nat_lt (suc m) (2 ^ 48)) refl e
  where
    at : (b : Bool) → nat_lt (suc m) (2 ^ 48) ≡ b → cond b (Some (suc m)) None ≡ Some n → (n ≡ suc m) × (nat_lt (suc m) (2 ^ 48) ≡ true)
    at true t e = (cc, t)
    at false t e = absurd cc

pub no_stamp : (m : ℕ) → stamp_by m ≡ None → nat_lt (suc m) (2 ^ 48) ≡ false
no_stamp m e = at (nat_lt (suc m) (2 ^ 48)) refl e
  where
    at : (b : Bool) → nat_lt (suc m) (2 ^ 48) ≡ b → cond b (Some (suc m)) None ≡ None → nat_lt (suc m) (2 ^ 48) ≡ false
    at true t e = absurd cc
    at false t e = t

-- an entry was made
pub told_done : (s u : Shard) (clock w : ℕ) (e : Event) (o p : Outcome) (n : ℕ) → happen s e ≡ Does o u → p ≡ o → stamp_by (newest s.last clock (message_stamp e)) ≡ Some n → u.journal ≡ s.journal
    → Tells (step s clock w e) s clock w e (Ok o) (with_entry n w e p u) (Some (entry n w e p))
told_done s u clock w e o p n does same stamp journal =
    let m = newest s.last clock (message_stamp e) in let has = has_stamp m n stamp in (
      o,
      refl,
      record {
        enters =
            ap (λ b. stamped (suc m) w e b (happen s e)) has.1 ∙ ap (λ r. stamped (suc m) w e true r) does
            ∙ ap (λ k. Enters o (with_entry k w e o u)) (sym has.0) ∙ ap (λ x. Enters o (with_entry n w e x u)) (sym same);
        entry_is = ap (λ k. entry k w e p) has.0 ∙ ap (λ x. entry (suc m) w e x) same;
        journal = ap (λ j. j ++ entry n w e p ∷ []) journal;
      },
    )

-- a quiet answer that goes before a worn clock, and one after it
pub told_early : (s : Shard) (clock w : ℕ) (e : Event) (o : Outcome) → happen s e ≡ QuietBeforeWorn o → Tells (step s clock w e) s clock w e (Ok o) s None
told_early s clock w e o is = (ap (λ r. stamped (next_stamp s clock e) w e (nat_lt (next_stamp s clock e) (2 ^ 48)) r) is, refl)

pub told_late : (s : Shard) (clock w : ℕ) (e : Event) (o : Outcome) (n : ℕ) → happen s e ≡ QuietAfterWorn o → stamp_by (newest s.last clock (message_stamp e)) ≡ Some n
    → Tells (step s clock w e) s clock w e (Ok o) s None
told_late s clock w e o n is stamp =
    let m = newest s.last clock (message_stamp e) in let has = has_stamp m n stamp in
    (ap (λ b. stamped (suc m) w e b (happen s e)) has.1 ∙ ap (λ r. stamped (suc m) w e true r) is, refl)

-- the clock is worn, where the event would make an entry
pub told_worn : (s u : Shard) (clock w : ℕ) (e : Event) (o : Outcome) → happen s e ≡ Does o u → stamp_by (newest s.last clock (message_stamp e)) ≡ None
    → Tells (step s clock w e) s clock w e (Err (Worn (2 ^ 48))) s None
told_worn s u clock w e o does stamp =
    let m = newest s.last clock (message_stamp e) in
    ((ap (λ b. stamped (suc m) w e b (happen s e)) (no_stamp m stamp) ∙ ap (λ r. stamped (suc m) w e false r) does, refl), refl)

-- there was no memory for the entry
pub told_memory : (s u : Shard) (clock w : ℕ) (e : Event) (o : Outcome) (n : ℕ) → happen s e ≡ Does o u → stamp_by (newest s.last clock (message_stamp e)) ≡ Some n → takes_no_memory s e ≡ false
    → Tells (step s clock w e) s clock w e (Err Memory) s None
told_memory s u clock w e o n does stamp other =
    let m = newest s.last clock (message_stamp e) in let has = has_stamp m n stamp in
    (wants (step s clock w e) (ap (λ b. stamped (suc m) w e b (happen s e)) has.1 ∙ ap (λ r. stamped (suc m) w e true r) does), refl)
  where
    wants : (a : CallAnswer) → a ≡ Enters o (with_entry (suc (newest s.last clock (message_stamp e))) w e o u) → may_want_memory s e a ≡ true
    wants a is = ap (may_want_memory s e) is ∙ ap not other

-- what one comes to that is up
pub goes_up : (s : Shard) (e : Event) → s.is_up ≡ true → happen s e ≡ happen_up s e
goes_up s e up = ap (λ b. elim b [ true ↦ happen_up s e | false ↦ QuietBeforeWorn Down ]) up
