-- The epoch that a request names, and the numbers of the writes that stand, with one entry more.
use Rattle.std.proofs.Common.{◌≡◌, refl, sym, subst, ℕ, ◌<◌, true, List, [], ◌∷◌, ◌++◌, Option, Some, None}
use Rattle.clv_base.specs.declared.names.TxId.{TxId}
use Rattle.clv_base.specs.declared.events.Event.{Event}
use Rattle.clv_base.specs.declared.events.Event.TheVariants.{Op, RollTo, Request, Look, Drop, Send, Deliver, Remind, FlushOut, FlushIn, Stop, Restart}
use Rattle.clv_base.specs.declared.events.Entry.{Entry}
use Rattle.clv_base.specs.Backs.{numbers_after, numbers_from, standing_numbers}
use Rattle.clv_base.specs.Events.{request_epoch}
use Rattle.shard_machine.specs.Numbers.{Noted, numbers_of, IsAbove}
use Rattle.shard_machine.specs.Journaled.{Journaled, is_request, named_by, first_or, MayWrite, MayEnter}

one : (shard : ℕ) (tx : TxId) (e : Entry) → request_epoch shard tx (e ∷ []) ≡ named_by shard tx e
one shard tx e = at (named_by shard tx e)
  where
    at : (o : Option ℕ) → elim o [ Some n ↦ Some n | None ↦ None ] ≡ o
    at (Some n) = refl
    at None = refl

pub one_more : (shard : ℕ) (tx : TxId) (es : List Entry) (e : Entry) → request_epoch shard tx (es ++ e ∷ []) ≡ first_or (request_epoch shard tx es) (named_by shard tx e)
one_more shard tx [] e = one shard tx e
one_more shard tx (x ∷ xs) e = at (named_by shard tx x) (one_more shard tx xs e)
  where
    at : (o : Option ℕ) → request_epoch shard tx (xs ++ e ∷ []) ≡ first_or (request_epoch shard tx xs) (named_by shard tx e)
        → elim o [ Some n ↦ Some n | None ↦ request_epoch shard tx (xs ++ e ∷ []) ] ≡ first_or (elim o [ Some n ↦ Some n | None ↦ request_epoch shard tx xs ]) (named_by shard tx e)
    at (Some n) more = refl
    at None more = more

numbers_more : (tx : TxId) (ns : List ℕ) (es : List Entry) (e : Entry) → numbers_from tx ns (es ++ e ∷ []) ≡ numbers_after tx e.event e.outcome (numbers_from tx ns es)
numbers_more tx ns [] e = refl
numbers_more tx ns (x ∷ xs) e = numbers_more tx (numbers_after tx x.event x.outcome ns) xs e

pub one_number_more : (tx : TxId) (es : List Entry) (e : Entry) → standing_numbers tx (es ++ e ∷ []) ≡ numbers_after tx e.event e.outcome (standing_numbers tx es)
one_number_more tx es e = numbers_more tx [] es e

-- ---- what an entry needs

pub place_for : (j : Journaled) (e : Event) → MayEnter j e → is_request e ≡ true → 0 < j.places
place_for j (Request tx touched) may e = may
place_for j (Op tx birth nth seen op) may e = absurd cc
place_for j (RollTo tx nth seen upto) may e = absurd cc
place_for j (Look tx) may e = absurd cc
place_for j (Drop tx) may e = absurd cc
place_for j Send may e = absurd cc
place_for j (Deliver message stamp) may e = absurd cc
place_for j Remind may e = absurd cc
place_for j FlushOut may e = absurd cc
place_for j FlushIn may e = absurd cc
place_for j Stop may e = absurd cc
place_for j Restart may e = absurd cc

pub write_for : (j : Journaled) (n : Noted) (e : Event) → j.writes ≡ n.room → ((t : TxId) → numbers_of t n ≡ standing_numbers t j.entries) → MayEnter j e → MayWrite e n
write_for j n (Op tx birth nth seen op) room same may = (subst (λ r. 0 < r) room may.0, subst (IsAbove nth) (sym (same tx)) may.1)
write_for j n (Request tx touched) room same may = tt
write_for j n (RollTo tx nth seen upto) room same may = tt
write_for j n (Look tx) room same may = tt
write_for j n (Drop tx) room same may = tt
write_for j n Send room same may = tt
write_for j n (Deliver message stamp) room same may = tt
write_for j n Remind room same may = tt
write_for j n FlushOut room same may = tt
write_for j n FlushIn room same may = tt
write_for j n Stop room same may = tt
write_for j n Restart room same may = tt
