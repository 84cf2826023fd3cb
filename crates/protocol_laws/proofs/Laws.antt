-- Lemmas that this crate offers to the proofs of the crates above it.
pub use Rattle.protocol_laws.proofs.Due.WhoseFactsChange.{undone_none, closing_prepares, commits_change, ends_change, releases_change, roll_backs_change, rolls_change}
pub use Rattle.protocol_laws.proofs.Due.LeastIsNext.{due_are_known, least_is_next, none_is_nothing, at_rest_none, others_cover}
pub use Rattle.protocol_laws.proofs.Due.DoingGoesOn.{nothing_to_do, doing_goes_on}
pub use Rattle.protocol_laws.proofs.Due.DueByFacts.{cover_grows}
pub use Rattle.protocol_laws.proofs.PurgesDontMatter.{purges_dont_matter}
pub use Rattle.protocol_laws.proofs.DependentsHaveParts.{keys_stay, performed_keeps, rolled_keeps, without_keeps, close_keeps, drop_keeps, put_keeps, put_has, get_has, due_keeps_parts}
pub use Rattle.protocol_laws.proofs.DueKeepsKeys.{set_keys, due_keeps_keys}
pub use Rattle.protocol_laws.proofs.LeftFalls.{parts_more, parts_le, performed_le, left_falls}
pub use Rattle.protocol_laws.proofs.LeftFalls.FinishedStayFinished.{total_by_at, put_total_by, PartsStay, stay_same, rolled_stay, without_stay, dropped_stay, closed_stay}
pub use Rattle.protocol_laws.proofs.LeftFalls.VotersAndRequestsFall.{voter_falls, request_falls}
pub use Rattle.protocol_laws.proofs.Due.WhatEventsTouch.{operations_touch, rolls_touch, requests_touch, drops_touch, prepares_touch, answers_touch, decisions_touch, nobody_is_touched, commits_touch, other_in, rest_out, set_other, votes_touch}
pub use Rattle.protocol_laws.proofs.FlushesCover.{flushes_cover}
pub use Rattle.protocol_laws.proofs.LeftByOpen.{left_by_open}
pub use Rattle.law_base.proofs.Logs.{place_more, spelled_append as all_append}
pub use Rattle.law_base.proofs.Names.{in_append}
pub use Rattle.clv_base.proofs.Settling.{gone_le}
pub use Rattle.protocol_laws.proofs.ChangesKeepSpelling.UndoIsSpelled.{aborts_spelled, AreFit, both, clrs_spelled_by, clrs_spelled, fit_standing, IsFit, Named, named_insert, plus_fits, writers_named}
pub use Rattle.protocol_laws.proofs.ChangesKeepSpelling.{operations_keep, closings_keep, aborts_keep, drops_keep, rolls_keep, ends_keep, records_keep, purges_keep, restarts_are_spelled}
pub use Rattle.law_base.proofs.Lists.{all_kept as all_filter, all_mono}
pub use Rattle.protocol_laws.proofs.DoomedSetIsClosed.{doomed_is_closure}
