-- One step of a world, and whether it may be made, by what is known before its outcome.
use Rattle.std.specs.Prelude.{ℕ, Bool, not, ◌&&◌, ◌||◌, List, slice_get}
use Rattle.clv_base.specs.declared.events.CoreStep.{CoreStep}
use Rattle.clv_base.specs.declared.events.Event.{Event}
use Rattle.clv_base.specs.Core.{World}
use Rattle.clv_base.specs.Journals.{History, own}
use Rattle.clv_base.specs.Runs.{run_on, was_sent}
use Rattle.clv_base.specs.Sessions.{is_of_session, is_session_number}
use Rattle.journal_laws.specs.Offers.{may_make}

-- what the definitions answer where they allow it, else nothing
abbrev pub run_step : List ℕ → World → CoreStep → World
run_step splits w c = run_on splits w c (slice_get w.shards c.shard)

abbrev pub session_may : List ℕ → History → ℕ → ℕ → Event → Bool
session_may splits h walker n e = not (is_of_session e) || (is_session_number walker && may_make splits 1 walker (own walker h) n e)

-- by the walker's session and the messages that were sent; births are the shard's to tell
abbrev pub is_offered : List ℕ → History → ℕ → ℕ → Event → Bool
is_offered splits h walker n e = session_may splits h walker n e && was_sent h e
