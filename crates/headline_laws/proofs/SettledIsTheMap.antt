-- Settled histories, with no premise on where members are.
use Rattle.std.proofs.Common.{sym, subst, [], append-nil}
use Rattle.history_laws.specs.Openings.{LegalFrom}
use Rattle.headline_laws.proofs.ReadersPass.{readers_pass}
use Rattle.headline_laws.proofs.SettledIsTheMapWhereReadersWroteNothing.{settled_is_the_map_where_readers_wrote_nothing}
use Rattle.headline_laws.specs.Settling.{SettledIsTheMap}

pub settled_is_the_map : SettledIsTheMap
settled_is_the_map splits before h after choice l quiet =
    settled_is_the_map_where_readers_wrote_nothing splits before h after choice l
    (λ n k home e t i a v. (readers_pass splits before h [] after k e home n t (subst (λ z. LegalFrom splits before z after) (sym (append-nil h)) l) i a v).0) quiet
