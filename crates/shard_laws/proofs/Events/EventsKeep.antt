-- Each event of a shard keeps what it keeps.
use Rattle.std.proofs.Common.{◌≡◌, ℕ, Bool, true, false, List, Some, ◌==◌, refl, subst}
use Rattle.clv_base.specs.declared.names.TxId.{TxId}
use Rattle.clv_base.specs.State.{Shard}
use Rattle.clv_base.specs.Undo.{stage_of}
use Rattle.clv_base.specs.OneShard.{seen_fits}
use Rattle.clv_base.specs.Events.{QuietBeforeWorn, Does, finish, epoch_in, on_message, to_of, reminders, with_durable, put_down, happen_up, happen}
use Rattle.law_base.specs.Items.{Deed}
use Rattle.law_base.proofs.Commits.{durable_further}
use Rattle.shard_laws.proofs.Keeping.WhatOneShardKeeps.{Past}
use Rattle.clv_base.specs.declared.events.Outcome.TheVariants.{Stale}
use Rattle.clv_base.specs.declared.events.Event.{Event}
use Rattle.clv_base.specs.declared.events.Event.TheVariants.{Op as OpEvent, Request as RequestEvent, Look, Drop, Send, Deliver, Remind, FlushOut, FlushIn, Stop, Restart as RestartEvent, RollTo}
use Rattle.clv_base.specs.declared.events.Outcome.{Outcome}
use Rattle.clv_base.specs.declared.events.Outcome.TheVariants.{Down}
use Rattle.shard_laws.proofs.Keeping.WhatOneShardKeeps.{view_of}
use Rattle.shard_laws.specs.OneShard.{MayHappen}
use Rattle.shard_laws.proofs.Keeping.RecordsAndFrontsKeep.{keeps_front}
use Rattle.std.proofs.lemmas.Option.{none-some}
use Rattle.shard_laws.proofs.Keeping.FallenAndLost.{falls_front}
use Rattle.shard_laws.proofs.Events.DueKeeps.{did}
use Rattle.shard_laws.proofs.Events.DueKeeps.{Sound, After, finish_sound}
use Rattle.shard_laws.proofs.Events.KeptAfterReplies.{Later, Keeps_reply, at_cond, early, does}
use Rattle.shard_laws.proofs.Events.OperationsKeep.{operation}
use Rattle.shard_laws.proofs.Events.RequestsKeep.{request}
use Rattle.shard_laws.proofs.Events.LooksAndDropsKeep.{looked, dropped, sent, reminded, flushed}
use Rattle.shard_laws.proofs.Events.MessagesKeep.{message}
use Rattle.shard_laws.proofs.Events.StandingNumbers.{NumbersAre}
use Rattle.shard_laws.proofs.Events.GoingsBackKeep.{goes_back}

up : (all : List Deed) (told : List TxId) (g : Past) (s : Shard) (e : Event) → Sound all g s → NumbersAre all s → MayHappen (did all told g) s e → Keeps_reply all g s e (happen_up s e)
up all told g s (OpEvent tx birth nth seen op) h numbers may = operation all g s tx birth nth seen op (seen_fits s.local.epoch seen) h may refl
up all told g s (RollTo tx nth seen upto) h numbers may = goes_back all g s tx nth seen upto (seen == s.local.epoch) h numbers may refl
up all told g s (RequestEvent tx touched) h numbers may = request all g s tx touched (seen_fits s.local.epoch (epoch_in s.shard touched)) h may refl
up all told g s (Look tx) h numbers may = looked all g s tx h
up all told g s (Drop tx) h numbers may = dropped all g s tx (stage_of s.local tx) h may
up all told g s Send h numbers may = sent all g s s.outbox h
up all told g s (Deliver m stamp) h numbers may = at_cond all g s (Deliver m stamp) (to_of m == s.shard) (on_message s m) (QuietBeforeWorn Stale) (message all g s m stamp h may) early
up all told g s Remind h numbers may = reminded all g s s.outbox (reminders s) h
up all told g s FlushOut h numbers may = flushed all g s s.flight _ h
up all told g s FlushIn h numbers may = early
up all told g s Stop h numbers may = does (g, h, refl, refl, refl, (λ u o. o), (λ u n. absurd (none-some u n)), refl, refl)
up all told g s RestartEvent h numbers may = early

all_events : (all : List Deed) (told : List TxId) (g : Past) (s : Shard) (e : Event) (b : Bool) → Sound all g s → NumbersAre all s → MayHappen (did all told g) s e → Keeps_reply all g s e (elim b [ true ↦ happen_up s e | false ↦ QuietBeforeWorn Down ])
all_events all told g s e true h numbers may = up all told g s e h numbers may
all_events all told g s e false h numbers may = early

from_reply : (all : List Deed) (g : Past) (s : Shard) (e : Event) (o : Outcome) (t : Shard) → Keeps_reply all g s e (Does o t) → Later all g s e o t
from_reply all g s e o t (does l) = l

-- every event keeps it
pub happen_sound : (all : List Deed) (told : List TxId) (g : Past) (s : Shard) (e : Event) (o : Outcome) (t : Shard) → Sound all g s → NumbersAre all s → MayHappen (did all told g) s e → happen s e ≡ Does o t → Later all g s e o t
happen_sound all told g s e o t h numbers may eq = from_reply all g s e o t (subst (Keeps_reply all g s e) eq (all_events all told g s e s.is_up h numbers may))

-- and so does the end of a flush
pub landed_sound : (all : List Deed) (g : Past) (s : Shard) (n : ℕ) → Sound all g s → s.flight ≡ Some n → After all g (finish (with_durable n s))
landed_sound all g s n h e = finish_sound all g (with_durable n s) (record { kept = keeps_front g (view_of s) n h.kept (h.kept.front n e); answers = h.answers; requests = h.requests; voters = h.voters; asked = h.asked; falls = falls_front g.asked g.fell g.lost g.over s.local.parts s.local.pairs s.local.log s.durable n (h.kept.front n e) (λ t c. durable_further s.local.log s.durable n t (h.kept.front n e) c) h.falls; order = h.order })

pub failed_sound : (all : List Deed) (g : Past) (s : Shard) → Sound all g s → Sound all g (put_down s)
failed_sound all g s h = h
