-- What a round leaves of a session.
use Rattle.std.proofs.Common.{◌≡◌, ◌∙◌, refl, subst, ℕ, zero, suc, Bool, true, false, not, List, [], ◌∷◌, slice_get, Option, Some, None, Result, Err, arith}
use Rattle.std.specs.List.{list_all}
use Rattle.std.proofs.lemmas.Bool.{both_ways}
use Rattle.law_base.proofs.Options.{some_inj}
use Rattle.law_base.proofs.Changed.{none_some}
use Rattle.cluster_turns.specs.declared.shards.Shards.{Shards}
use Rattle.cluster_turns.specs.declared.shards.Walker.{Walker}
use Rattle.cluster_turns.specs.Walkers.{IsWalker, IsSameWalker}
use Rattle.turn_lock.specs.declared.pass.Pass.{Pass}
use Rattle.machine_laws.specs.declared.notes.Note.{Note}
use Rattle.machine_laws.specs.declared.notes.Origin.{Origin}
use Rattle.cluster_turns.specs.CallTurns.{Turn, Took, AreOthers, no_turn}
use Rattle.cluster_turns.proofs.Laws.{clock_rises}
use Rattle.session_ops.proofs.Laws.{still_idle, still_active, still_unasked, still_standing, still_retriable, request_stays}
use Rattle.session_ops.specs.declared.parts.RoundError.{RoundError}
use Rattle.session_ops.specs.declared.parts.RoundError.TheVariants.{Down}
use Rattle.session_ops.specs.Rounds.{Rounded}
use Rattle.session_api.specs.declared.progress.Progress.{Progress}
use Rattle.session_api.specs.declared.progress.Progress.TheVariants.{Idle, Active, Worn, Undone, Asked, Ended}
use Rattle.session_api.specs.Sessions.{StandsIn, IsSession, found_in}
use Rattle.session_api.proofs.GoingBack.{undone_stays}
use Rattle.session_api.proofs.Taking.{down_stays}
use Rattle.session_api.proofs.Keeping.{landed_after}
use Rattle.session_api.proofs.Following.{made_in, made_of_other}

-- its entries aren't a session's
pub others_make_none : (ts : List Turn) → AreOthers ts → made_in ts ≡ []
others_make_none [] others = refl
others_make_none (t ∷ ts) others = made_of_other t ts others.0 ∙ others_make_none ts others.1

module _ {M S G : Type 0} (sh : Shards M S G) (w v : Walker M S G) where
  round_stands : (s : Progress) (ts : List Turn) → Took w.number w.clock w.passes.items ts v.clock v.passes.items → AreOthers ts → IsWalker sh v → IsSameWalker w v → StandsIn sh w s → StandsIn sh v s
  round_stands Idle ts took others is_walker same h = still_idle sh w v ts took others is_walker same h
  round_stands (Active p) ts took others is_walker same h = still_active sh w v p ts took others is_walker same h
  round_stands (Worn p) ts took others is_walker same (unasked, worn) =
      (still_unasked sh w v p ts took others is_walker same unasked, (let l = clock_rises w.number w.clock v.clock w.passes.items v.passes.items ts took in omega arith))
  round_stands (Undone p n upto) ts took others is_walker same (active, undone, down) = (
    still_active sh w v p ts took others is_walker same active,
    undone_stays sh w v p n upto ts took undone,
    down_stays n w.number w.clock v.clock w.passes.items v.passes.items ts took down,
  )
  round_stands (Asked p home stamp) ts took others is_walker same (standing, asked) =
      (still_standing sh w v p home ts took others is_walker same standing, request_stays w.number w.clock v.clock w.passes.items v.passes.items ts p (record { stamp = stamp; shard = home }) took asked)
  round_stands (Ended p) ts took others is_walker same h = still_retriable sh w v p ts took others is_walker same h

  pub round_session : (s : Progress) (ts : List Turn) → Took w.number w.clock w.passes.items ts v.clock v.passes.items → AreOthers ts → IsWalker sh v → IsSameWalker w v → IsSession sh w s → IsSession sh v s
  round_session s ts took others is_walker same h = record { stands = round_stands s ts took others is_walker same h.stands; landed = landed_after sh w v ts same took h.landed }

-- ---- what it tells of a shard that is down

module _ {T A : Type 0} (w c d : ℕ) (ps qs : List (Option (Pass T Note Origin))) where
  pub found_so : (r : Result A RoundError) (found : Option ℕ) → ((n : ℕ) → found ≡ Some n → r ≡ Err (Down n)) → Rounded w c ps r d qs → Rounded w c ps (found_in found) d qs
  found_so r None is h = record { turns = h.turns; took = h.took; others = h.others; ended = tt }
  found_so r (Some n) is h = let k = subst (λ x. Rounded w c ps x d qs) (is n refl) h in record { turns = k.turns; took = k.took; others = k.others; ended = k.ended }

pub no_round : {T : Type 0} (w c : ℕ) (ps : List (Option (Pass T Note Origin))) → Rounded w c ps (found_in None) c ps
no_round w c ps = record { turns = []; took = no_turn c ps; others = tt; ended = tt }

-- ---- whose shards it needs

pub none_true : (xs : List Bool) (n : ℕ) → list_all not xs ≡ true → slice_get xs n ≡ Some true → ⊥
none_true [] zero all h = none_some true h
none_true [] (suc n) all h = none_some true h
none_true (true ∷ xs) n all h = both_ways false refl all
none_true (false ∷ xs) zero all h = both_ways false refl (some_inj false true h)
none_true (false ∷ xs) (suc n) all h = none_true xs n all h
