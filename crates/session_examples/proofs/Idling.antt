-- A session between two transfers.
use Rattle.std.proofs.Common.{◌≡◌, refl, ap, true, None, Ok}
use Rattle.session_api.specs.declared.progress.Progress.{Progress}
use Rattle.session_api.specs.declared.progress.Progress.TheVariants.{Idle, Active, Worn, Undone, Asked, Ended}
use Rattle.session_api.specs.Progresses.{active_tx}
use Rattle.session_examples.specs.declared.transfers.Transferred.{Transferred}
use Rattle.session_examples.specs.declared.transfers.Transferred.TheVariants.{Moved, Refused, GivenUp}
use Rattle.session_examples.specs.Ends.{has_ended, EndsAs}

-- none is active after a transfer that wasn't stopped
pub ended_idle : (t : Progress) → has_ended t ≡ true → active_tx t ≡ None
ended_idle Idle e = refl
ended_idle (Active p) e = absurd cc
ended_idle (Worn p) e = absurd cc
ended_idle (Undone p n upto) e = absurd cc
ended_idle (Asked p home stamp) e = refl
ended_idle (Ended p) e = refl

pub ends_idle : (x : Transferred) (t : Progress) → EndsAs (Ok x) t → active_tx t ≡ None
ends_idle Moved t e = ap active_tx e
ends_idle (Refused why) t e = ended_idle t e
ends_idle (GivenUp cause) t e = ended_idle t e
