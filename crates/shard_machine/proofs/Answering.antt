-- What a call tells, by what the event comes to on the core.
use Rattle.std.proofs.Common.{◌≡◌, refl, sym, ◌∙◌, ◌^◌, ap, subst, ℕ, suc, Bool, true, false, List, ◌++◌, ◌∷◌, [], Option, Some, None, Ok, Err}
use Rattle.clv_base.specs.declared.events.Event.{Event}
use Rattle.clv_base.specs.declared.events.Entry.{Entry}
use Rattle.clv_base.specs.declared.events.Outcome.{Outcome}
use Rattle.clv_base.specs.declared.events.Outcome.TheVariants.{Answered, Rolled, Dead, Asked, Acknowledged, Aborted, Dropped, Sent, Taken, Reminded, Out, Durable, Failed, Stopped, Up, Wait, Crowded, NotYet, Nothing, Away, Absent, Stale, Down}
use Rattle.clv_base.specs.State.{Shard}
use Rattle.clv_base.specs.Events.{Reply, QuietBeforeWorn, QuietAfterWorn, Does, happen_up, happen, request_epoch, message_stamp, Quiet, stamped, step}
use Rattle.machine_calls.specs.declared.machine.StepError.{StepError}
use Rattle.machine_calls.specs.declared.machine.StepError.TheVariants.{Memory, Worn}
use Rattle.machine_calls.specs.Steps.{entry, takes_no_memory, may_want_memory, Tells}
use Rattle.machine_laws.specs.Frame.{stamped_as, reply_as, look_by}
use Rattle.machine_laws.proofs.Laws.{looks_alike}
use Rattle.clv_base.specs.declared.names.TxId.{TxId}
use Rattle.clv_base.specs.declared.events.Event.TheVariants.{Look}
use Rattle.shard_machine.specs.declared.happening.Happened.TheVariants.{Quiet as QuietHere, Done}
use Rattle.shard_machine.specs.Happening.{IsQuiet, Happens}
use Rattle.shard_machine.specs.Stamps.{newest, stamp_by}
use Rattle.shard_machine.specs.Answers.{is_late, goes_on, Refuses, IsWorn}
use Rattle.shard_machine.proofs.Telling.{told_done, told_early, told_late, told_worn, told_memory, has_stamp, no_stamp}

-- what a call tells, and the entry that it made, if any
abbrev pub Told : Shard → ℕ → ℕ → Event → Outcome → Shard → Type 0
Told s clock w e o t = (made : Option Entry) × Tells (step s clock w e) s clock w e (Ok o) t made

abbrev pub Refused : Shard → ℕ → ℕ → Event → StepError → Shard → Type 0
Refused s clock w e err t = (made : Option Entry) × Tells (step s clock w e) s clock w e (Err err) t made

-- an entry was made
pub entered : (l : ℕ) (j k : List Entry) (s d : Shard) (clock w : ℕ) (e : Event) (r : Reply) (o p : Outcome) (n : ℕ) → happen_up (stamped_as true l j s) e ≡ reply_as l j r → Happens r s (Done o p) d
    → stamp_by (newest l clock (message_stamp e)) ≡ Some n → k ≡ j ++ entry n w e p ∷ [] → Told (stamped_as true l j s) clock w e o (stamped_as true n k d)
entered l j k s d clock w e r o p n alike (is, same) stamp grown =
    let t : Shard = stamped_as true l j d in let does : happen (stamped_as true l j s) e ≡ Does o t = alike ∙ ap (reply_as l j) is in (
      Some (entry n w e p),
      subst (λ x. Tells (step (stamped_as true l j s) clock w e) (stamped_as true l j s) clock w e (Ok o) (stamped_as true n x d) (Some (entry n w e p))) (sym grown)
          (told_done (stamped_as true l j s) t clock w e o p n does same stamp refl),
    )

-- an answer and its copy, where both are what the event comes to
pub twice : (r : Reply) (s d : Shard) (q o p : Outcome) → r ≡ Does q d → o ≡ q → p ≡ q → Happens r s (Done o p) d
twice r s d q o p does one other = (does ∙ ap (λ x. Does x d) (sym one), other ∙ sym one)

-- a quiet answer after all
quiet_as : (s : Shard) (clock w : ℕ) (e : Event) (r : Reply) (o : Outcome) (n : ℕ) → happen s e ≡ r → IsQuiet r o → stamp_by (newest s.last clock (message_stamp e)) ≡ Some n
    → Tells (step s clock w e) s clock w e (Ok o) s None
quiet_as s clock w e (QuietBeforeWorn p) o n is same stamp = told_early s clock w e o (is ∙ ap (λ x. QuietBeforeWorn x) (sym same))
quiet_as s clock w e (QuietAfterWorn p) o n is same stamp = told_late s clock w e o n (is ∙ ap (λ x. QuietAfterWorn x) (sym same)) stamp
quiet_as s clock w e (Does p t) o n is same stamp = absurd same

alike_quiet : (l : ℕ) (j : List Entry) (r : Reply) (o : Outcome) → IsQuiet r o → IsQuiet (reply_as l j r) o
alike_quiet l j (QuietBeforeWorn p) o same = same
alike_quiet l j (QuietAfterWorn p) o same = same
alike_quiet l j (Does p t) o same = absurd same

pub quieted : (l : ℕ) (j k : List Entry) (s d : Shard) (clock w : ℕ) (e : Event) (r : Reply) (o : Outcome) (n : ℕ) → happen_up (stamped_as true l j s) e ≡ reply_as l j r → Happens r s (QuietHere o) d
    → stamp_by (newest l clock (message_stamp e)) ≡ Some n → k ≡ j → Told (stamped_as true l j s) clock w e o (stamped_as true l k d)
quieted l j k s d clock w e r o n alike (is, same) stamp kept = (
  None,
  subst (λ x. Tells (step (stamped_as true l j s) clock w e) (stamped_as true l j s) clock w e (Ok o) (stamped_as true l x d) None) (sym kept)
      (subst (λ (x : Shard). Tells (step (stamped_as true l j s) clock w e) (stamped_as true l j s) clock w e (Ok o) (stamped_as true l j x) None) (sym same)
      (quiet_as (stamped_as true l j s) clock w e (reply_as l j r) o n alike (alike_quiet l j r o is) stamp)),
)

-- a quiet answer that goes before a worn clock
pub earlier : (l : ℕ) (j : List Entry) (s : Shard) (clock w : ℕ) (e : Event) (r : Reply) (o : Outcome) → happen_up (stamped_as true l j s) e ≡ reply_as l j r → r ≡ QuietBeforeWorn o
    → Told (stamped_as true l j s) clock w e o (stamped_as true l j s)
earlier l j s clock w e r o alike is = (None, told_early (stamped_as true l j s) clock w e o (alike ∙ ap (reply_as l j) is))

-- no entry was made, since there was no stamp
worn_as : (s : Shard) (clock w : ℕ) (e : Event) (r : Reply) → happen s e ≡ r → goes_on r ≡ true → stamp_by (newest s.last clock (message_stamp e)) ≡ None → Tells (step s clock w e) s clock w e (Err (Worn (2 ^ 48))) s None
worn_as s clock w e (QuietBeforeWorn p) is on stamp = absurd cc
worn_as s clock w e (QuietAfterWorn p) is on stamp = (
  (
    ap (λ b. stamped (suc (newest s.last clock (message_stamp e))) w e b (happen s e)) (no_stamp (newest s.last clock (message_stamp e)) stamp)
        ∙ ap (λ x. stamped (suc (newest s.last clock (message_stamp e))) w e false x) is,
    refl,
  ),
  refl,
)
worn_as s clock w e (Does o t) is on stamp = told_worn s t clock w e o is stamp

-- no entry was made, since there was no stamp or no memory
refused_as : (s : Shard) (clock w : ℕ) (e : Event) (r : Reply) (err : StepError) (m : Option ℕ) → happen s e ≡ r → goes_on r ≡ true → takes_no_memory s e ≡ false → stamp_by (newest s.last clock (message_stamp e)) ≡ m
    → Refuses m err → Tells (step s clock w e) s clock w e (Err err) s None
refused_as s clock w e (QuietBeforeWorn p) err m is on drop stamp why = absurd cc
refused_as s clock w e (Does o t) (Worn at) None is on drop stamp why =
    subst (λ a. Tells (step s clock w e) s clock w e (Err (Worn a)) s None) (sym why) (told_worn s t clock w e o is stamp)
refused_as s clock w e (Does o t) Memory None is on drop stamp why = absurd why
refused_as s clock w e (Does o t) (Worn at) (Some n) is on drop stamp why = absurd why
refused_as s clock w e (Does o t) Memory (Some n) is on drop stamp why = told_memory s t clock w e o n is stamp drop
refused_as s clock w e (QuietAfterWorn p) (Worn at) None is on drop stamp why =
    subst (λ a. Tells (step s clock w e) s clock w e (Err (Worn a)) s None) (sym why) (worn_as s clock w e (QuietAfterWorn p) is on stamp)
refused_as s clock w e (QuietAfterWorn p) Memory None is on drop stamp why = absurd why
refused_as s clock w e (QuietAfterWorn p) (Worn at) (Some n) is on drop stamp why = absurd why
refused_as s clock w e (QuietAfterWorn p) Memory (Some n) is on drop stamp why =
    let m = newest s.last clock (message_stamp e) in let has = has_stamp m n stamp in
    let quiet : step s clock w e ≡ Quiet p = ap (λ b. stamped (suc m) w e b (happen s e)) has.1 ∙ ap (λ x. stamped (suc m) w e true x) is in
    (ap (may_want_memory s e) quiet ∙ wanted p on, refl)
  where
    wanted : (p : Outcome) → is_late p ≡ true → may_want_memory s e (Quiet p) ≡ true
    wanted (Wait younger) t = refl
    wanted (Crowded count) t = refl
    wanted (Answered a b) t = absurd cc
    wanted Rolled t = absurd cc
    wanted (Dead a) t = absurd cc
    wanted Asked t = absurd cc
    wanted Acknowledged t = absurd cc
    wanted (Aborted a) t = absurd cc
    wanted Dropped t = absurd cc
    wanted (Sent a) t = absurd cc
    wanted Taken t = absurd cc
    wanted (Reminded a) t = absurd cc
    wanted (Out a) t = absurd cc
    wanted (Durable a) t = absurd cc
    wanted Failed t = absurd cc
    wanted Stopped t = absurd cc
    wanted (Up a) t = absurd cc
    wanted NotYet t = absurd cc
    wanted Nothing t = absurd cc
    wanted Away t = absurd cc
    wanted Absent t = absurd cc
    wanted Stale t = absurd cc
    wanted Down t = absurd cc

alike_on : (l : ℕ) (j : List Entry) (r : Reply) → goes_on r ≡ true → goes_on (reply_as l j r) ≡ true
alike_on l j (QuietBeforeWorn p) on = on
alike_on l j (QuietAfterWorn p) on = on
alike_on l j (Does p t) on = on

pub refused : (l : ℕ) (j k : List Entry) (s d : Shard) (clock w : ℕ) (e : Event) (r : Reply) (err : StepError) (m : Option ℕ) → happen_up (stamped_as true l j s) e ≡ reply_as l j r → goes_on r ≡ true
    → takes_no_memory (stamped_as true l j s) e ≡ false → stamp_by (newest l clock (message_stamp e)) ≡ m → Refuses m err → k ≡ j → d ≡ s → Refused (stamped_as true l j s) clock w e err (stamped_as true l k d)
refused l j k s d clock w e r err m alike on drop stamp why kept same = (
  None,
  subst (λ x. Tells (step (stamped_as true l j s) clock w e) (stamped_as true l j s) clock w e (Err err) (stamped_as true l x d) None) (sym kept)
      (subst (λ (x : Shard). Tells (step (stamped_as true l j s) clock w e) (stamped_as true l j s) clock w e (Err err) (stamped_as true l j x) None) (sym same)
      (refused_as (stamped_as true l j s) clock w e (reply_as l j r) err m alike (alike_on l j r on) drop stamp why)),
)

pub worn : (l : ℕ) (j : List Entry) (s : Shard) (clock w : ℕ) (e : Event) (r : Reply) (err : StepError) → happen_up (stamped_as true l j s) e ≡ reply_as l j r → goes_on r ≡ true → IsWorn (stamp_by (newest l clock (message_stamp e))) err
    → Refused (stamped_as true l j s) clock w e err (stamped_as true l j s)
worn l j s clock w e r err alike on (none, is) = (
  None,
  subst (λ x. Tells (step (stamped_as true l j s) clock w e) (stamped_as true l j s) clock w e (Err x) (stamped_as true l j s) None) (sym is)
      (worn_as (stamped_as true l j s) clock w e (reply_as l j r) alike (alike_on l j r on) none),
)

-- a look, by the epoch that the journal tells
pub looked : (l : ℕ) (j : List Entry) (s : Shard) (tx : TxId) (named : Option ℕ) (n : ℕ) → named ≡ request_epoch n tx j → n ≡ s.shard → happen_up (stamped_as true l j s) (Look tx) ≡ reply_as l j (look_by s tx named)
looked l j s tx named n is same = looks_alike l j s tx ∙ ap (λ m. reply_as l j (look_by s tx m)) (sym (is ∙ ap (λ k. request_epoch k tx j) same))

-- the same on a shard of which it is known that it is up
pub on_up : (up : Bool) (P : Bool → Type 0) → up ≡ true → P true → P up
on_up up P is p = subst P (sym is) p
