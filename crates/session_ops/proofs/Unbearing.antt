-- Drops leave no part of a birth.
use Rattle.std.proofs.Common.{◌≡◌, ◌∙◌, refl, sym, ap, subst, ℕ, ◌≤◌, ◌<◌, ◌^◌, ◌-◌, ◌==◌, Bool, true, false, not, ◌&&◌, List, [], ◌∷◌, length, Option, Some, None, Result, Ok, Err, arith, inl, inr, eqb-true}
use Rattle.std.specs.Prelude.{◌⊎◌, is_some}
use Rattle.std.specs.List.{AllByRecursion}
use Rattle.std.specs.Map.{lookup}
use Rattle.std.proofs.lemmas.Bool.{both_ways}
use Rattle.clv_base.specs.declared.names.TxId.{TxId}
use Rattle.clv_base.specs.declared.names.Birth.{Birth}
use Rattle.clv_base.specs.declared.events.Event.TheVariants.{Drop}
use Rattle.clv_base.specs.declared.events.Outcome.{Outcome}
use Rattle.clv_base.specs.Sessions.{SessionState}
use Rattle.turn_lock.specs.declared.pass.Pass.{Pass}
use Rattle.journal_laws.specs.Births.{LeavesBirth}
use Rattle.machine_calls.specs.declared.machine.StepError.{StepError}
use Rattle.machine_calls.specs.declared.machine.StepError.TheVariants.{Memory, Worn}
use Rattle.machine_laws.specs.declared.notes.Note.{Note}
use Rattle.machine_laws.specs.declared.notes.Origin.{Origin}
use Rattle.cluster_turns.specs.declared.shards.Shards.{Shards}
use Rattle.cluster_turns.specs.declared.shards.Walker.{Walker}
use Rattle.cluster_turns.specs.Walkers.{IsWalker}
use Rattle.cluster_turns.specs.CallTurns.{Turn, Took, AnyTurn, FoundWorn}
use Rattle.cluster_turns.proofs.Laws.{worn_is_last}
use Rattle.cluster_turns.specs.Births.{AllSeeFree}
use Rattle.cluster_turns.specs.Unborn.{UnbornAt, AllUnborn, AllLeaveUnborn, EndsPart, EndsThere}
use Rattle.cluster_turns.proofs.Laws.{past, unborn_stays, ends_unbear, unborn_unless_none}
use Rattle.session_ops.specs.Standing.{HasBirth}
use Rattle.session_ops.specs.Dropped.{is_to_drop, is_excepted, Drops}
use Rattle.session_ops.specs.Unbearing.{UnbornOrWorn, IsGoneBut, DropsUnbear}
use Rattle.law_base.proofs.Names.{birth_same as some_birth}

-- ---- turns that are drops

abbrev pub IsDrop : TxId → Turn → Type 0
IsDrop tx t = t.event ≡ Drop tx

-- such a turn was answered that the clock is worn, or ends the part
told_of_drop : (tx : TxId) (t : Turn) → IsDrop tx t → ((at : ℕ) × (t.answer ≡ Err (Worn at))) ⊎ EndsPart tx t.event t.answer
told_of_drop tx t is = subst (λ e. ((at : ℕ) × (t.answer ≡ Err (Worn at))) ⊎ EndsPart tx e t.answer) (sym is) (by t.answer refl)
  where
    by : (r : Result Outcome StepError) → t.answer ≡ r → ((at : ℕ) × (t.answer ≡ Err (Worn at))) ⊎ EndsPart tx (Drop tx) t.answer
    by (Ok o) e = inr (subst (EndsPart tx (Drop tx)) (sym e) refl)
    by (Err Memory) e = inr (subst (EndsPart tx (Drop tx)) (sym e) refl)
    by (Err (Worn at)) e = inl (at, e)

all_told : (tx : TxId) (ts : List Turn) → AllByRecursion (IsDrop tx) ts → ((at : ℕ) × FoundWorn at ts) ⊎ AllByRecursion (λ t. EndsPart tx t.event t.answer) ts
all_told tx [] d = inr tt
all_told tx (t ∷ ts) d = both (told_of_drop tx t d.0) (all_told tx ts d.1)
  where
    both : ((at : ℕ) × (t.answer ≡ Err (Worn at))) ⊎ EndsPart tx t.event t.answer → ((at : ℕ) × FoundWorn at ts) ⊎ AllByRecursion (λ u. EndsPart tx u.event u.answer) ts
        → ((at : ℕ) × FoundWorn at (t ∷ ts)) ⊎ AllByRecursion (λ u. EndsPart tx u.event u.answer) (t ∷ ts)
    both (inl (at, worn)) k = inl (at, inl worn)
    both (inr e) (inl (at, worn)) = inl (at, inr worn)
    both (inr e) (inr es) = inr (e, es)

drop_leaves : (tx : TxId) (birth : Birth) (t : Turn) → IsDrop tx t → (v : TxId) → LeavesBirth v birth t.event
drop_leaves tx birth t is v = subst (LeavesBirth v birth) (sym is) tt

all_leave : (n : ℕ) (tx : TxId) (birth : Birth) (ts : List Turn) → AllByRecursion (IsDrop tx) ts → AllLeaveUnborn n birth ts
all_leave n tx birth [] d = tt
all_leave n tx birth (t ∷ ts) d = ((λ here. inr (drop_leaves tx birth t d.0)), all_leave n tx birth ts d.1)

all_free : (tx : TxId) (birth : Birth) (ts : List Turn) → AllByRecursion (IsDrop tx) ts → AllByRecursion (λ t. LeavesBirth tx birth t.event) ts
all_free tx birth [] d = tt
all_free tx birth (t ∷ ts) d = (drop_leaves tx birth t d.0 tx, all_free tx birth ts d.1)

ends_there : (n : ℕ) (tx : TxId) (birth : Birth) (ts : List Turn) → AllByRecursion (IsDrop tx) ts → AllByRecursion (λ t. EndsPart tx t.event t.answer) ts → AnyTurn (λ t. t.shard ≡ n) ts → EndsThere n tx birth ts
ends_there n tx birth [] d e a = absurd a
ends_there n tx birth (t ∷ ts) d e (inl here) = inl (here, e.0, all_leave n tx birth ts d.1)
ends_there n tx birth (t ∷ ts) d e (inr a) = inr (ends_there n tx birth ts d.1 e.1 a)

module _ {T : Type 0} where
  -- where each shard with a part had one, no part is left, or the clock is at its end
  pub all_dropped :
      (w c d count : ℕ) (ps qs : List (Option (Pass T Note Origin))) (ts : List Turn) (tx : TxId) (birth : Birth) (touched : List (ℕ × ℕ)) (except : Option ℕ) → Took w c ps ts d qs → birth.session ≡ w → length qs ≡ count → AllByRecursion (IsDrop tx) ts
      → AllSeeFree tx birth ps → ((n : ℕ) → is_to_drop touched except n ≡ false → UnbornAt n birth ps) → ((n : ℕ) → n < count → is_to_drop touched except n ≡ true → AnyTurn (λ t. t.shard ≡ n) ts) → (2 ^ 48 - 1 ≤ d) ⊎ AllUnborn birth qs
  all_dropped w c d count ps qs ts tx birth touched except took own long drops free before each = at (all_told tx ts drops)
    where
      by : AllByRecursion (λ t. EndsPart tx t.event t.answer) ts → (n : ℕ) (b : Bool) → is_to_drop touched except n ≡ b → UnbornAt n birth qs
      by ends n false e = unborn_stays n w c d ps qs ts birth took own (all_leave n tx birth ts drops) (before n e)
      by ends n true e = λ p had.
          ends_unbear n w c d ps qs ts tx birth took own (all_free tx birth ts drops) free (ends_there n tx birth ts drops ends (each n (let l = past qs n p had in omega arith) e)) p had

      at : ((at : ℕ) × FoundWorn at ts) ⊎ AllByRecursion (λ t. EndsPart tx t.event t.answer) ts → (2 ^ 48 - 1 ≤ d) ⊎ AllUnborn birth qs
      at (inl (stamp, worn)) = inl (worn_is_last stamp w c d ps qs ts took worn).1
      at (inr ends) = inr (λ n. by ends n (is_to_drop touched except n) refl)

pub are_drops : (tx : TxId) (touched : List (ℕ × ℕ)) (except : Option ℕ) (ts : List Turn) → AllByRecursion (Drops tx touched except) ts → AllByRecursion (IsDrop tx) ts
are_drops tx touched except [] h = tt
are_drops tx touched except (t ∷ ts) h = ((h.0).event, are_drops tx touched except ts h.1)

-- ---- where nothing is to be dropped

module _ {M S G : Type 0} where
  unborn_there : (w : Walker M S G) (p : SessionState) (except : Option ℕ) (born : HasBirth w p) → IsGoneBut except w p → (n : ℕ) → is_to_drop p.touched except n ≡ false → UnbornAt n born.birth w.passes.items
  unborn_there w p except born gone n out = at (lookup (◌==◌ n) p.touched) refl except refl out
    where
      at : (part : Option ℕ) → lookup (◌==◌ n) p.touched ≡ part → (o : Option ℕ) → except ≡ o → (is_some (lookup (◌==◌ n) p.touched) && not (is_excepted o n)) ≡ false → UnbornAt n born.birth w.passes.items
      at None e o same out = unborn_unless_none n born.birth w.passes.items (subst (λ part. Rattle.cluster_turns.specs.Unborn.UnbornUnless n part born.birth w.passes.items) e (born.parts n))
      at (Some epoch) e None same out = absurd (both_ways true (sym (ap (λ x. is_some x && true) e) ∙ out) refl)
      at (Some epoch) e (Some m) same out = left (m == n) refl (sym (ap (λ x. is_some x && not (m == n)) e) ∙ out)
        where
          left : (b : Bool) → (m == n) ≡ b → not (m == n) ≡ false → UnbornAt n born.birth w.passes.items
          left true h k = gone n (same ∙ ap (λ x. Some x) (eqb-true m n h)) born.birth born.is
          left false h k = absurd (both_ways true (sym (ap not h) ∙ k) refl)

  -- after turns that are drops, of which each shard with a part had one
  pub dropped_unborn : (sh : Shards M S G) (w v : Walker M S G) (p : SessionState) (except : Option ℕ) (ts : List Turn) → IsWalker sh v → HasBirth w p → IsGoneBut except w p → Took w.number w.clock w.passes.items ts v.clock v.passes.items
      → AllByRecursion (IsDrop p.tx) ts → ((n : ℕ) → n < length sh.locks.items → is_to_drop p.touched except n ≡ true → AnyTurn (λ t. t.shard ≡ n) ts) → UnbornOrWorn v p
  dropped_unborn sh w v p except ts is_walker born gone took drops each =
      at
      (all_dropped w.number w.clock v.clock (length sh.locks.items) w.passes.items v.passes.items ts p.tx born.birth p.touched except took born.bears is_walker.walks.are_passes.count drops born.free (unborn_there w p except born gone) each)
    where
      at : (2 ^ 48 - 1 ≤ v.clock) ⊎ AllUnborn born.birth v.passes.items → (2 ^ 48 - 1 ≤ v.clock) ⊎ ((birth : Birth) → p.birth ≡ Some birth → AllUnborn birth v.passes.items)
      at (inl worn) = inl worn
      at (inr all) = inr (λ birth is. subst (λ b. AllUnborn b v.passes.items) (some_birth born.birth birth (sym born.is ∙ is)) all)

pub drops_unbear : (M S G : Type 0) → DropsUnbear M S G
drops_unbear M S G sh w v p except r is_walker born gone h =
    dropped_unborn sh w v p except h.turns is_walker born gone h.took (are_drops p.tx p.touched except h.turns h.only) (λ n l e. h.each n (omega arith) l e)
