-- The records and the writes that a restart leaves, and the part of the state that counts.
use Rattle.std.proofs.Common.{◌≡◌, ℕ, ◌<◌, ⊎_elim, Bool, true, false, cond, ◌&&◌, List, [], ◌∷◌, length, Some, None, ◌==◌, T, not, nat_lt, refl, sym, ap, subst, ◌∙◌}
use Rattle.std.specs.List.{AllByRecursion, filter}
use Rattle.std.proofs.lemmas.Bool.{both_ways, cond_both, cond-true, or_cases, ltb-true}
use Rattle.std.specs.declared.cmp.Ordering.TheVariants.{Less, Equal, Greater}
use Rattle.std.specs.Ordering.{nat_cmp, is_lt}
use Rattle.std.specs.Cmp.{unsigned_tied}
use Rattle.std.specs.FinMap.Entries.{below_all}
use Rattle.clv_base.specs.declared.names.TxId.{TxId}
use Rattle.clv_base.specs.declared.logs.LogRecord.{LogRecord}
use Rattle.clv_base.specs.Orders.{tx_in}
use Rattle.clv_base.specs.Maps.{KeyMap, map_get}
use Rattle.clv_base.specs.declared.modes.Anchor.TheVariants.{At}
use Rattle.clv_base.specs.Logs.{StandingUpdate, is_setting, standing, committed_in, in_doubt, is_winner, fold_updates, base_of}
use Rattle.clv_base.specs.Needs.{value_at}
use Rattle.clv_base.specs.Folding.{IsRising}
use Rattle.clv_base.specs.Restarts.{records_of, with_ghosts, restored_locks, restored_parts, restored_pairs}
use Rattle.law_base.proofs.Cells.{record_at, live_by}
use Rattle.law_base.proofs.Lists.{all_mono, all_both}
use Rattle.law_base.proofs.Running.{top_value}
use Rattle.law_base.proofs.Anchors.{Rising, AllAbove}
use Rattle.law_base.proofs.Commits.{commit_durable}
use Rattle.law_base.proofs.LockRows.{holds}
use Rattle.shard_laws.proofs.Operations.NeedsCoverKeys.{wrote_part}
use Rattle.shard_laws.proofs.Keeping.WhatOneShardKeeps.{part_for, View, Wrote}
use Rattle.shard_laws.proofs.Cuts.WhatCutsHold.{of_kept, fold_alike, updates_values}
use Rattle.shard_laws.proofs.Restarts.RestoredLocksAndParts.{ghosts_value, ghosts_rise}
use Rattle.shard_laws.proofs.Restarts.WinnersKeepTheirWrites.{winners, Restarted}
use Rattle.shard_laws.proofs.Restarts.UnrestoredFell.{all_durable}
use Rattle.law_base.proofs.Logs.{fold_rises, has_write_at, has_set_at, each_write_at, each_set_at, locks_hold, locks_set, ghosts_there}

-- ---- the records of a map

pub get_records : (q : ℕ) (m : KeyMap) → value_at q (records_of m) ≡ map_get q m
get_records q [] = refl
get_records q (e ∷ es) = at (q == e.0) (get_records q es) ∙ ap (λ b. cond b (Some e.1) (map_get q es)) (sym (unsigned_tied q e.0))
  where
    at : (b : Bool) → value_at q (records_of es) ≡ map_get q es → live_by (cond b (Some (Some e.1)) (record_at q (records_of es))) ≡ cond b (Some e.1) (map_get q es)
    at true i = refl
    at false i = i

t_first : (a b : Bool) → T (a && b) → T a
t_first true b h = tt
t_first false b h = h

t_second : (a b : Bool) → T (a && b) → T b
t_second true b h = h
t_second false b h = absurd h

less_from : (j k : ℕ) → T (is_lt (nat_cmp j k)) → j < k
less_from j k h = at (nat_lt j k) (j == k) refl h
  where
    at : (b c : Bool) → nat_lt j k ≡ b → T (is_lt (cond b Less (cond c Equal Greater))) → j < k
    at true c e h = ltb-true j k e
    at false true e h = absurd h
    at false false e h = absurd h

above_records : (k : ℕ) (m : KeyMap) → T (below_all nat_cmp k m) → AllAbove k (records_of m)
above_records k [] h = tt
above_records k (e ∷ es) h = (less_from k e.0 (t_first _ _ h), above_records k es (t_second (is_lt (nat_cmp k e.0)) _ h))

pub rising_records : (m : KeyMap) → IsRising m → Rising (records_of m)
rising_records [] h = tt
rising_records (e ∷ es) h = (above_records e.0 es (t_first _ _ h), rising_records es (t_second (below_all nat_cmp e.0 es) _ h))

pub filter_twice : (f : TxId → Bool) (ws : List StandingUpdate) → filter (of_kept f) (filter (of_kept f) ws) ≡ filter (of_kept f) ws
filter_twice f [] = refl
filter_twice f (w ∷ ws) = at (f w.tx) refl (filter_twice f ws)
  where
    at : (b : Bool) → f w.tx ≡ b → filter (of_kept f) (filter (of_kept f) ws) ≡ filter (of_kept f) ws → filter (of_kept f) (cond b (w ∷ filter (of_kept f) ws) (filter (of_kept f) ws)) ≡ cond b (w ∷ filter (of_kept f) ws) (filter (of_kept f) ws)
    at true e ih = cond-true (f w.tx) _ _ e ∙ ap (λ l. w ∷ l) ih
    at false e ih = ih

-- ---- what a restart makes of the cut that it found

abbrev pub view_remade : ℕ → List LogRecord → List LogRecord → View
view_remade shard cut log =
    record {
      records = with_ghosts (in_doubt shard cut) (standing log) (records_of (fold_updates (is_winner shard log) log []));
      locks = restored_locks (in_doubt shard cut) (standing log) [];
      parts = restored_parts (in_doubt shard cut);
      pairs = restored_pairs log (in_doubt shard cut);
      log = log;
      durable = length log;
      flight = None;
    }

module _ (shard : ℕ) (cut log : List LogRecord) (re : Restarted shard cut log) where
  pub committed_remade : (t : TxId) → committed_in cut t ≡ true → commit_durable log (length log) t ≡ true
  committed_remade t e = all_durable log t (re.found.commits t ∙ e)

  standing_kept : filter (of_kept (is_winner shard cut)) (standing log) ≡ standing log
  standing_kept = ap (filter (of_kept (is_winner shard cut))) re.only_kept ∙ filter_twice (is_winner shard cut) (standing cut) ∙ sym re.only_kept

  pub values_remade : (q : ℕ) → value_at q (view_remade shard cut log).records ≡ top_value (base_of log) q (standing log)
  values_remade q =
      ghosts_value (in_doubt shard cut) (standing log) (records_of (fold_updates (is_winner shard log) log [])) q
      ∙ get_records q (fold_updates (is_winner shard log) log [])
      ∙ ap (map_get q) (fold_alike (is_winner shard log) (is_winner shard cut) log [] (λ t. winners shard cut log t re.found))
      ∙ updates_values (is_winner shard cut) log q
      ∙ ap (top_value (base_of log) q) standing_kept

  pub rises_remade : Rising (view_remade shard cut log).records
  rises_remade = ghosts_rise (in_doubt shard cut) (standing log) (records_of (fold_updates (is_winner shard log) log [])) (rising_records (fold_updates (is_winner shard log) log []) (fold_rises (is_winner shard log) log [] tt))

  kept_wins : (ws : List StandingUpdate) → AllByRecursion (λ w. is_winner shard cut w.tx ≡ true) (filter (of_kept (is_winner shard cut)) ws)
  kept_wins [] = tt
  kept_wins (w ∷ ws) =
      cond_both (is_winner shard cut w.tx) (w ∷ filter (of_kept (is_winner shard cut)) ws) (filter (of_kept (is_winner shard cut)) ws) (AllByRecursion (λ w. is_winner shard cut w.tx ≡ true)) (λ e. (e, kept_wins ws)) (λ e. kept_wins ws)

  -- what stands is of those that win
  pub all_won : AllByRecursion (λ w. is_winner shard cut w.tx ≡ true) (standing log)
  all_won = subst (AllByRecursion (λ w. is_winner shard cut w.tx ≡ true)) standing_kept (kept_wins (standing log))

  pub wrote_remade : AllByRecursion (Wrote (view_remade shard cut log)) (standing log)
  wrote_remade = all_mono _ _ (λ w r out.
      ⊎_elim (λ k. absurd (both_ways _ out (committed_remade w.tx k)))
      (λ i. (held w i r.1.0 r.1.1, ghosts_there (in_doubt shard cut) (standing log) (records_of (fold_updates (is_winner shard log) log [])) w.tx w.key i r.1.0))
      (or_cases (committed_in cut w.tx) (tx_in w.tx (in_doubt shard cut)) r.0))
      (standing log) (all_both _ _ (standing log) all_won (all_both _ _ (standing log) (each_write_at (standing log)) (each_set_at (standing log))))
    where
      -- who set the value holds X, who added I
      held : (w : StandingUpdate) → tx_in w.tx (in_doubt shard cut) ≡ true → has_write_at (standing log) w.tx w.key ≡ true → (is_setting w.change ≡ true → has_set_at (standing log) w.tx w.key ≡ true)
          → holds true (part_for w.change) (At w.key) w.tx (restored_locks (in_doubt shard cut) (standing log) []) ≡ true
      held w i wrote sets = at (is_setting w.change) sets
        where
          at : (b : Bool) → (b ≡ true → has_set_at (standing log) w.tx w.key ≡ true) → holds true (wrote_part (not b)) (At w.key) w.tx (restored_locks (in_doubt shard cut) (standing log) []) ≡ true
          at true sets = locks_set (in_doubt shard cut) (standing log) [] w.tx w.key i (sets refl)
          at false sets = locks_hold (in_doubt shard cut) (standing log) [] w.tx w.key i wrote
