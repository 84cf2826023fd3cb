-- What a drop of a part that is known comes to, and a reminder.
use Rattle.std.proofs.Common.{◌≡◌, refl, sym, ◌∙◌, ap, ℕ, ◌==◌, true, false, List, [], ◌∷◌, length, Option, Some, None, is_some, eqb-true}
use Rattle.std.proofs.lemmas.Bool.{both_ways}
use Rattle.clv_base.specs.declared.names.TxId.{TxId}
use Rattle.clv_base.specs.declared.messages.Message.{Message}
use Rattle.clv_base.specs.declared.events.Event.TheVariants.{Drop, Remind}
use Rattle.clv_base.specs.declared.events.Outcome.TheVariants.{Dropped, Absent, Reminded, Nothing}
use Rattle.clv_base.specs.declared.state.Stage.{Stage}
use Rattle.clv_base.specs.State.{Shard, with_local}
use Rattle.clv_base.specs.Undo.{stage_of}
use Rattle.clv_base.specs.OneShard.{drop_part}
use Rattle.clv_base.specs.Due.{send}
use Rattle.clv_base.specs.Events.{QuietBeforeWorn, Does, finish, drop_event, remind_with, reminders, happen_up}
use Rattle.due_step.specs.Sent.{first_of}
use Rattle.shard_machine.specs.Answers.{goes_on}

-- ---- drops

pub dropped : (s t : Shard) (tx : TxId) (known : Option Stage) → known ≡ stage_of s.local tx → is_some known ≡ true → t ≡ finish (with_local (drop_part tx) s) → happen_up s (Drop tx) ≡ Does Dropped t
dropped s t tx None is there ends = absurd cc
dropped s t tx (Some stage) is there ends = ap (drop_event s tx) (sym is) ∙ ap (λ u. Does Dropped u) (sym ends)

pub drop_goes_on : (s : Shard) (tx : TxId) (known : Option Stage) → known ≡ stage_of s.local tx → is_some known ≡ true → goes_on (happen_up s (Drop tx)) ≡ true
drop_goes_on s tx None is there = absurd cc
drop_goes_on s tx (Some stage) is there = ap (λ k. goes_on (drop_event s tx k)) (sym is)

pub is_known : (s : Shard) (tx : TxId) (known : Option Stage) → known ≡ stage_of s.local tx → is_some known ≡ true → is_some (stage_of s.local tx) ≡ true
is_known s tx None is there = absurd cc
is_known s tx (Some stage) is there = ap is_some (sym is)

pub absent : (s : Shard) (tx : TxId) (known : Option Stage) → known ≡ stage_of s.local tx → is_some known ≡ false → happen_up s (Drop tx) ≡ QuietBeforeWorn Absent
absent s tx None is none = ap (drop_event s tx) (sym is)
absent s tx (Some stage) is none = absurd cc

-- ---- reminders

pub reminded : (s t : Shard) (missing : List Message) → first_of s.outbox ≡ None → missing ≡ reminders s → (missing ≡ [] → ⊥) → t ≡ finish (send missing s) → happen_up s Remind ≡ Does (Reminded (length missing)) t
reminded s t missing none are some ends = ap (remind_with s s.outbox) (sym are) ∙ at s.outbox missing none some ∙ ap (λ u. Does (Reminded (length missing)) u) (sym ends)
  where
    at : (waiting ms : List Message) → first_of waiting ≡ None → (ms ≡ [] → ⊥) → remind_with s waiting ms ≡ Does (Reminded (length ms)) (finish (send ms s))
    at [] [] e some = absurd (some refl)
    at [] (m ∷ ms) e some = refl
    at (o ∷ os) ms e some = absurd cc

pub none_missing : (s : Shard) → first_of s.outbox ≡ None → reminders s ≡ [] → happen_up s Remind ≡ QuietBeforeWorn Nothing
none_missing s none are = ap (remind_with s s.outbox) are ∙ at s.outbox none
  where
    at : (waiting : List Message) → first_of waiting ≡ None → remind_with s waiting [] ≡ QuietBeforeWorn Nothing
    at [] e = refl
    at (o ∷ os) e = absurd cc

-- no message waits, as the core tells it
pub none_waits : (s : Shard) (first : Option Message) → first ≡ first_of s.outbox → is_some first ≡ false → first_of s.outbox ≡ None
none_waits s first is none = sym is ∙ at first none
  where
    at : (f : Option Message) → is_some f ≡ false → f ≡ None
    at None e = refl
    at (Some m) e = absurd cc

-- a list by the test of its length
pub no_items : (ms : List Message) (n : ℕ) → length ms ≡ n → (n == 0) ≡ true → ms ≡ []
no_items ms n is zero_is = at ms (is ∙ eqb-true n 0 zero_is)
  where
    at : (ms : List Message) → length ms ≡ 0 → ms ≡ []
    at [] e = refl
    at (m ∷ ms) e = absurd cc

pub some_items : (ms : List Message) (n : ℕ) → length ms ≡ n → (n == 0) ≡ false → ms ≡ [] → ⊥
some_items ms n is other none = both_ways (n == 0) other (ap (λ k. k == 0) (sym is ∙ ap length none))
