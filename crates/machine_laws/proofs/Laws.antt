-- What crates above may cite.
pub use Rattle.machine_laws.proofs.Alike.{finishes_alike}
pub use Rattle.machine_laws.proofs.EventsAlike.{events_alike, rolls_alike, looks_alike}
pub use Rattle.machine_laws.proofs.Fits.{finishes_keep_names, events_keep_names, landings_keep_names, sends_fit}
pub use Rattle.machine_laws.proofs.Begun.{restarts_are_named}
pub use Rattle.machine_laws.proofs.Staying.{finishes_stay, events_stay}
pub use Rattle.history_cases.proofs.Durability.{framed_finish}
pub use Rattle.journal_laws.proofs.NotesAreRuns.{notes_are_runs}
pub use Rattle.journal_laws.proofs.EachOutcomeGoesOn.{each_outcome_goes_on}
pub use Rattle.journal_laws.proofs.ViewsAreLegal.{own_entries_go_on, views_are_legal}
pub use Rattle.journal_laws.proofs.WalkersGoOn.{walkers_go_on, others_keep_sessions, walkers_begin}
pub use Rattle.machine_laws.proofs.Beginning.{sound_opened}
pub use Rattle.machine_laws.proofs.Calm.{does_calm, failed_append, does_fly, Calm}
pub use Rattle.machine_laws.proofs.Departing.{sound_departs, Gone, gone, still_landable, sound_lands}
pub use Rattle.machine_laws.proofs.Fetching.{down_failed, held_rests, gate_of_down, sound_fetched, down_disk}
pub use Rattle.machine_laws.proofs.Flying.{flight_stays, taker_append, other_first}
pub use Rattle.machine_laws.proofs.Freeing.{all_bear, nothing_happens}
pub use Rattle.machine_laws.proofs.Gating.{legal_counted, legal_shard, legal_run, legal_early, gate_lands, gate_leaves, gate_home, gate_kept, departing, turning, durable_stays, landing, counted_same}
pub use Rattle.machine_laws.proofs.Holding.{up_none, down_restarts}
pub use Rattle.machine_laws.proofs.Keeping.{holder_more, holder_plain, notes_step, grows, sound_step, holder_append}
pub use Rattle.machine_laws.proofs.Leaving.{fits_leaves, none_stops, gate_at_home, whole}
pub use Rattle.machine_laws.proofs.Legal.{entries_append, legal_land, legal_step, legal_fetched, legal_restart, land_makes, from_does, made_up}
pub use Rattle.machine_laws.proofs.Marking.{entry_last, fetch_last, left_last}
pub use Rattle.machine_laws.proofs.Pushing.{pushes, both_records}
pub use Rattle.machine_laws.proofs.Single.{singly}
pub use Rattle.machine_laws.proofs.Turning.{still_free, still_flying, clock_is, above, added_notes, grown_by, since}
