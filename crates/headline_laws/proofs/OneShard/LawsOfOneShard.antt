-- The laws over all shards, where there is one.
use Rattle.std.proofs.Common.{◌≡◌, ⊎_elim, refl, sym, subst, ◌∙◌, true, false, [], ◌∷◌, arith, append-nil}
use Rattle.std.proofs.lemmas.Bool.{both_ways}
use Rattle.clv_base.specs.Orders.{tx_in}
use Rattle.clv_base.specs.Needs.{live_pairs}
use Rattle.clv_base.specs.Journals.{final_of}
use Rattle.headline_laws.proofs.MembersReplay.{members_replay as all_replay}
use Rattle.headline_laws.proofs.PredecessorsStandBefore.{predecessors_stand_before as all_stand_before}
use Rattle.headline_laws.proofs.SettledIsTheMap.{settled_is_the_map as all_are_the_map}
use Rattle.headline_laws.specs.Replaying.{MembersReplay}
use Rattle.headline_laws.specs.OneShardRecovering.{PredecessorsStandBefore}
use Rattle.headline_laws.specs.OneShardSettling.{SettledIsTheMap}
use Rattle.headline_laws.proofs.OneShard.NothingIsInDoubt.{none_in_doubt}

pub members_replay : MembersReplay
members_replay before h after choice l = all_replay [] (before ∷ []) h after choice l

-- nothing was in doubt in the log found, so each predecessor is a member
pub predecessors_stand_before : PredecessorsStandBefore
predecessors_stand_before before h after choice t p l k e =
    ⊎_elim (λ b. b) (λ d. absurd (both_ways false refl (subst (λ ts. tx_in p ts ≡ true) (none_in_doubt before l.opens) d.0)))
    (all_stand_before [] (before ∷ []) h after choice 0 t p l (omega arith) k e)

-- its live records are those of all shards
pub settled_is_the_map : SettledIsTheMap
settled_is_the_map before h after choice l q = sym (append-nil (live_pairs (final_of (before ∷ []) h after 0).local.records)) ∙ all_are_the_map [] (before ∷ []) h after choice l q
