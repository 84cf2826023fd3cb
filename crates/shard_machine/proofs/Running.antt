-- What holds of the machine's parts holds after an event of the core, with its entry.
use Rattle.std.proofs.Common.{◌≡◌, refl, sym, ◌∙◌, ap, subst, ℕ, suc, ◌<◌, ◌≤◌, max, Bool, true, [], drop, ◌∷◌, ◌++◌, length, List, Some, None, is_none, length-append, arith}
use Rattle.clv_base.specs.declared.messages.Message.{Message}
use Rattle.clv_base.specs.declared.events.Event.{Event}
use Rattle.clv_base.specs.declared.events.Event.TheVariants.{Send}
use Rattle.clv_base.specs.declared.events.Outcome.{Outcome}
use Rattle.clv_base.specs.declared.events.Outcome.TheVariants.{Sent, Nothing}
use Rattle.clv_base.specs.declared.events.Entry.{Entry}
use Rattle.clv_base.specs.State.{Shard}
use Rattle.clv_base.specs.Events.{QuietBeforeWorn, Does, finish, send_event, with_outbox, happen_up, happen}
use Rattle.due_step.specs.Sent.{first_of}
use Rattle.shard_core.specs.Core.{Core}
use Rattle.shard_core.specs.Whole.{IsAtRest}
use Rattle.shard_machine.specs.Journaled.{Journaled}
use Rattle.machine_calls.specs.Events.{event_fits}
use Rattle.machine_laws.specs.Frame.{stamped_as, reply_as, is_plain, is_grounded}
use Rattle.machine_laws.specs.Fitting.{IsNamed, IsShort, FewUndecided, op_fits}
use Rattle.machine_laws.proofs.Laws.{events_alike, events_keep_names, events_stay}
use Rattle.shard_machine.specs.Machined.{IsRunning}
use Rattle.shard_machine.specs.Stamps.{newest, stamp_by}
use Rattle.shard_machine.proofs.Telling.{has_stamp}

-- what the event comes to, whatever the journal and the last stamp
pub goes_as : (l : ℕ) (j : List Entry) (s t : Shard) (e : Event) (o : Outcome) → is_plain e ≡ true → happen_up s e ≡ Does o t → happen (stamped_as true l j s) e ≡ Does o (stamped_as true l j t)
goes_as l j s t e o plain does = events_alike l j s e plain ∙ ap (reply_as l j) does

dressed : (l : ℕ) (j : List Entry) (s : Shard) → IsNamed s → IsNamed (stamped_as true l j s)
dressed l j s n = record {
  fitting = record { shard = n.fitting.shard; voters = n.fitting.voters; requests = n.fitting.requests; outbox = n.fitting.outbox };
  spelled = n.spelled;
}

bare : (l : ℕ) (j : List Entry) (s : Shard) → IsNamed (stamped_as true l j s) → IsNamed s
bare l j s n = record {
  fitting = record { shard = n.fitting.shard; voters = n.fitting.voters; requests = n.fitting.requests; outbox = n.fitting.outbox };
  spelled = n.spelled;
}

-- ---- stamps rise, so there are never as many entries as the next stamp says

rises : (l clock m n : ℕ) → stamp_by (newest l clock m) ≡ Some n → l < n
rises l clock m n stamp = let is : n ≡ suc (max l (max clock m)) = (has_stamp (newest l clock m) n stamp).0 in omega (arith, is)

pub few_before : (l clock m n : ℕ) (es : List Entry) → length es ≤ l → stamp_by (newest l clock m) ≡ Some n → length es < n
few_before l clock m n es few stamp = let more : l < n = rises l clock m n stamp in omega (arith, few, more)

few_after : (l clock m n : ℕ) (es fs : List Entry) (x : Entry) → length es ≤ l → stamp_by (newest l clock m) ≡ Some n → fs ≡ es ++ x ∷ [] → length fs ≤ n
few_after l clock m n es fs x few stamp grown = let more : l < n = rises l clock m n stamp in let one = ap length grown ∙ length-append es (x ∷ []) in omega (arith, few, more, one)

-- ---- what is kept

-- an event of the core, by what it comes to with the machine's journal
pub kept : (c d : Core) (is_up : Bool) (l clock m n : ℕ) (j k : Journaled) (has : Bool) (e : Event) (o : Outcome) (x : Entry) → is_grounded e ≡ true → happen (stamped_as true l j.entries c.shard) e ≡ Does o (stamped_as true l j.entries d.shard)
    → IsAtRest d → event_fits c.shard.shard e ≡ true → op_fits e ≡ true → FewUndecided c.shard.local → IsShort c.shard.local → IsShort d.shard.local
    → k.shard ≡ j.shard → k.entries ≡ j.entries ++ x ∷ [] → stamp_by (newest l clock m) ≡ Some n → IsRunning c is_up l j has → IsRunning d is_up n k has
kept c d is_up l clock m n j k has e o x grounded does rest fits ops few short after same grown stamp r =
    let s : Shard = stamped_as true l j.entries c.shard in let t : Shard = stamped_as true l j.entries d.shard in
    let stay = events_stay s t e o does grounded in
    record {
      rest = rest;
      named = bare l j.entries d.shard (events_keep_names s t e o does fits ops few short after (dressed l j.entries c.shard r.named));
      index = same ∙ r.index ∙ sym stay.0;
      few = few_after l clock m n j.entries k.entries x r.few stamp grown;
      gate = λ up. r.gate up ∙ ap is_none (sym stay.1);
    }

-- the same where the core's shard and the entries stay
pub stays : (c d : Core) (is_up : Bool) (l : ℕ) (j k : Journaled) (has : Bool) → IsAtRest d → d.shard ≡ c.shard → k.shard ≡ j.shard → k.entries ≡ j.entries → IsRunning c is_up l j has → IsRunning d is_up l k has
stays c d is_up l j k has rest same number none r = record {
  rest = rest;
  named = subst (λ (s : Shard). IsNamed s) (sym same) r.named;
  index = number ∙ r.index ∙ ap (λ (s : Shard). s.shard) (sym same);
  few = subst (λ (es : List Entry). length es ≤ l) (sym none) r.few;
  gate = λ up. r.gate up ∙ ap (λ (s : Shard). is_none s.flight) (sym same);
}

-- an entry alone
pub noted : (c : Core) (is_up : Bool) (l clock m n : ℕ) (j k : Journaled) (has : Bool) (x : Entry) → k.shard ≡ j.shard → k.entries ≡ j.entries ++ x ∷ [] → stamp_by (newest l clock m) ≡ Some n → IsRunning c is_up l j has → IsRunning c is_up n k has
noted c is_up l clock m n j k has x same grown stamp r =
    record { rest = r.rest; named = r.named; index = same ∙ r.index; few = few_after l clock m n j.entries k.entries x r.few stamp grown; gate = r.gate }

-- ---- the oldest message leaves

pub sent : (s t : Shard) (m : Message) → first_of s.outbox ≡ Some m → t ≡ finish (with_outbox (drop 1 s.outbox) s) → happen_up s Send ≡ Does (Sent m) t
sent s t m first ends = at s.outbox first ∙ ap (λ u. Does (Sent m) u) (sym ends)
  where
    at : (ms : List Message) → first_of ms ≡ Some m → send_event s ms ≡ Does (Sent m) (finish (with_outbox (drop 1 ms) s))
    at [] e = absurd cc
    at (n ∷ ns) e = let same : n ≡ m = cc in ap (λ x. Does (Sent x) (finish (with_outbox ns s))) same

pub nothing : (s : Shard) → first_of s.outbox ≡ None → happen_up s Send ≡ QuietBeforeWorn Nothing
nothing s none = at s.outbox none
  where
    at : (ms : List Message) → first_of ms ≡ None → send_event s ms ≡ QuietBeforeWorn Nothing
    at [] e = refl
    at (n ∷ ns) e = absurd cc
