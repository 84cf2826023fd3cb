-- What the crates above may use.
pub use Rattle.cluster_turns.proofs.Walking.{Adds, none, one, walks, still_pass, looks, event_adds, event_rises, other_goes_on, made_adds}
pub use Rattle.law_base.proofs.Options.{some_inj, value_or as the}
pub use Rattle.cluster_turns.proofs.Freely.{free_stays, new_is_free}
pub use Rattle.cluster_turns.proofs.Keeping.{informed_stay, informed_later, new_are_informed, one_changes, changed, by_one}
pub use Rattle.cluster_turns.proofs.Unbearing.{unborn_stays, unless_stays, answered_is_in_epoch, dies_at_request, dies_going_back, ends_unbear, new_is_unborn, unborn_is_free, unborn_unless_none, unborn_unless_any, head_same, tail_same}
pub use Rattle.cluster_turns.proofs.Taking.{turns_follow, kept_grows, entries_are_made, clock_rises}
pub use Rattle.cluster_turns.proofs.Answering.{answers_have_entries, outcomes_fit, down_is_seen, worn_is_last, sessions_grow}
pub use Rattle.cluster_turns.proofs.Dating.{dated_on, turns_are_dated, drains_are_dated, drains_wear_out, rounds_dated, state_last, notes_left, latest_left, latest_right}
pub use Rattle.cluster_turns.proofs.States.{sessions_have_states, states_go_on, states_tell_may_make, others_leave_states, states_bear_walkers}
pub use Rattle.cluster_turns.proofs.BirthsGoing.{ops_go_on, touched_are_last}
pub use Rattle.cluster_turns.proofs.Within.{touched_are_shards, homes_are_shards}
pub use Rattle.cluster_turns.proofs.Written.{written_are_touched}
pub use Rattle.law_base.proofs.Lists.{some_inside as past}
pub use Rattle.law_base.proofs.Options.{some_inj as some_same}
pub use Rattle.cluster_turns.proofs.Replying.{quiet_so, ok_same, enters_so}
pub use Rattle.cluster_turns.proofs.Keeping.{by_append, by_notes}
pub use Rattle.cluster_turns.proofs.Going.{then_rounds, then_refused, settled_still, settled_here}
pub use Rattle.cluster_turns.proofs.Touches.{touch_here, touch_else}
pub use Rattle.cluster_turns.proofs.Reaching.{reached_stays, past_stays, answered_is_reached, down_is_past, past_rolls_nowhere}
