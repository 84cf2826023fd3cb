-- A walker without a turn so far.
use Rattle.std.proofs.Common.{◌≡◌, ◌∙◌, refl, ap, ℕ, suc, ◌<◌, List, [], ◌∷◌, length, get_or, Option, Some, arith}
use Rattle.history_replay.specs.Entries.{on_shard, merged, merged_from}
use Rattle.turn_lock.specs.declared.pass.Pass.{Pass}
use Rattle.turn_lock.specs.Passes.{own}
use Rattle.machine_laws.specs.declared.notes.Note.{Note}
use Rattle.machine_laws.specs.declared.notes.Origin.{Origin}
use Rattle.machine_laws.specs.Homes.{entries_in}
use Rattle.cluster_turns.specs.declared.shards.Shards.{Shards}
use Rattle.cluster_turns.specs.declared.shards.Walker.{Walker}
use Rattle.cluster_turns.specs.Walkers.{AreNewPasses, founds_of, own_of, own_lists, kept}
use Rattle.cluster_turns.specs.States.{session_of}
use Rattle.cluster_turns.proofs.Laws.{new_are_informed}
use Rattle.session_ops.specs.Beginnings.{NewWalkersAreReady}
use Rattle.law_base.proofs.Lists.{first_elem as a_lock}

module _ {T : Type 0} where
  abbrev NoneOwn : List (Option (Pass T Note Origin)) → Type 0
  NoneOwn ps = (k : ℕ) (d : Option (Pass T Note Origin)) → k < length ps → own_of (get_or ps k d) ≡ []

  nothing_kept : (n : ℕ) (ps : List (Option (Pass T Note Origin))) → NoneOwn ps → merged_from n (own_lists ps) ≡ []
  nothing_kept n [] h = refl
  nothing_kept n (p ∷ ps) h = ap (λ own_entries. merged (on_shard n own_entries) (merged_from (suc n) (own_lists ps))) (h 0 p (omega arith)) ∙ nothing_kept (suc n) ps (λ k d l. h (suc k) d (omega arith))

  none_own : (p : Pass T Note Origin) (o : Option (Pass T Note Origin)) → o ≡ Some p → own p ≡ [] → own_of o ≡ []
  none_own p o is empty = ap own_of is ∙ ap entries_in empty

module _ {M S G : Type 0} where
  keeps_nothing : (sh : Shards M S G) (w : Walker M S G) → AreNewPasses sh.splits (founds_of sh) sh.locks.items w.number w.passes.items → kept w.passes.items ≡ []
  keeps_nothing sh w new =
      nothing_kept 0 w.passes.items
      (λ k d l. let low : k < length sh.locks.items = (let c = new.count in omega arith) in let t = new.each k d low in none_own t.0 (get_or w.passes.items k d) t.2 (t.3 (a_lock sh.locks.items (omega arith))).4)

pub new_walkers_are_ready : (M S G : Type 0) → NewWalkersAreReady M S G
new_walkers_are_ready M S G sh w is_walker new number = record {
  walker = is_walker;
  number = number;
  state = ap (session_of sh.splits sh.run w.number) (keeps_nothing sh w new);
  serial = omega arith;
  old = tt;
  informed = new_are_informed sh.splits (founds_of sh) sh.locks.items w.number w.clock w.passes.items new;
}
