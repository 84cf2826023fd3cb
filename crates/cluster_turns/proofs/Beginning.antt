-- A walker before its first turn.
use Rattle.std.proofs.Common.{◌≡◌, ℕ, suc, ◌<◌, ◌≤◌, List, [], ◌∷◌, length, get_or, sym, ap, refl, ◌∙◌, subst, arith, Option, Some}
use Rattle.std.specs.List.{AllByRecursion}
use Rattle.clv_base.specs.declared.logs.LogRecord.{LogRecord}
use Rattle.clv_base.specs.Restarts.{run_after}
use Rattle.history_replay.specs.Entries.{merged_from}
use Rattle.journal_laws.specs.Walkers.{WalkerKeeps}
use Rattle.turn_lock.specs.declared.pass.TurnLock.{TurnLock}
use Rattle.turn_lock.specs.declared.pass.Pass.{Pass}
use Rattle.turn_lock.specs.Passes.{own}
use Rattle.machine_laws.specs.declared.notes.Note.{Note}
use Rattle.machine_laws.specs.declared.notes.Origin.{Origin}
use Rattle.machine_laws.specs.Homes.{entries_in}
use Rattle.machine_laws.proofs.Laws.{walkers_begin}
use Rattle.cluster_turns.specs.Walkers.{own_of, own_lists, kept, AreNewPasses, IsWalkerOf}

module _ {T : Type 0} where
  -- passes without own notes
  abbrev NoneOwn : List (Option (Pass T Note Origin)) → Type 0
  NoneOwn ps = (k : ℕ) (d : Option (Pass T Note Origin)) → k < length ps → own_of (get_or ps k d) ≡ []

  nothing_kept : (n : ℕ) (ps : List (Option (Pass T Note Origin))) → NoneOwn ps → merged_from n (own_lists ps) ≡ []
  nothing_kept n [] h = refl
  nothing_kept n (p ∷ ps) h =
      ap (λ own_entries. Rattle.history_replay.specs.Entries.merged (Rattle.history_replay.specs.Entries.on_shard n own_entries) (merged_from (suc n) (own_lists ps))) (h 0 p (omega arith)) ∙ nothing_kept (suc n) ps (λ k d l. h (suc k) d (omega arith))

  pub new_walker : (splits : List ℕ) (founds : List (List LogRecord)) (locks : List (TurnLock T Note Origin)) (w clock : ℕ) (ps : List (Option (Pass T Note Origin))) → AreNewPasses splits founds locks w ps → IsWalkerOf splits founds locks w clock ps
  new_walker splits founds locks w clock ps a =
      let empty : kept ps ≡ [] = nothing_kept 0 ps (λ k d l. (let t = a.each k d (let c = a.count in omega arith) in none_own t.0 (get_or ps k d) t.2 (t.3 (first k (let c = a.count in omega arith))).4)) in
      record {
        are_passes = record {
          count = a.count;
          each = λ k d l. (let t = a.each k d l in (
            t.0,
            t.2,
            record { ours = λ x. (t.3 x).0; number_is = (t.3 (first k l)).2; origin = t.1; has_origin = (t.3 (first k l)).1; origin_is = t.4 },
          ));
        };
        keeps = subst (WalkerKeeps splits (run_after founds) w) (sym empty) (walkers_begin splits (run_after founds) w);
        in_time = subst (AllByRecursion (λ f. (f.1).stamp ≤ clock)) (sym empty) tt;
      }
    where
      first : (k : ℕ) → k < length locks → TurnLock T Note Origin
      first k l = some_of locks (omega arith)
        where
          some_of : (xs : List (TurnLock T Note Origin)) → 0 < length xs → TurnLock T Note Origin
          some_of [] q = absurd (omega arith)
          some_of (x ∷ xs) q = x

      none_own : (p : Pass T Note Origin) (o : Option (Pass T Note Origin)) → o ≡ Some p → own p ≡ [] → own_of o ≡ []
      none_own p o is empty = ap own_of is ∙ ap entries_in empty
