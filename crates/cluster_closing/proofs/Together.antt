-- What the shards kept is a legal history.
use Rattle.std.proofs.Common.{◌≡◌, ◌≢◌, ℕ, zero, suc, ◌<◌, Bool, true, false, cond, ◌==◌, List, [], ◌∷◌, length, get_or, map, sym, ap, refl, ◌∙◌, subst, arith, Option, Some, None, eqb-true}
use Rattle.std.proofs.lemmas.Bool.{both_ways, eq-eqb}
use Rattle.clv_base.specs.declared.logs.LogRecord.{LogRecord}
use Rattle.clv_base.specs.declared.events.Entry.{Entry}
use Rattle.clv_base.specs.Shards.{shard_count}
use Rattle.clv_base.specs.LogRules.{log_of}
use Rattle.clv_base.specs.State.{Shard}
use Rattle.clv_base.specs.Restarts.{opened, run_after}
use Rattle.clv_base.specs.Journals.{start_of, MayLeave}
use Rattle.clv_base.specs.Machines.{Runs}
use Rattle.history_replay.specs.Entries.{entries_of}
use Rattle.journal_laws.specs.Gathered.{journal_at, MakesHistory}
use Rattle.journal_laws.specs.Walkers.{WalkerKeeps, by_walker}
use Rattle.turn_lock.specs.Journals.{entries_by}
use Rattle.turn_lock.specs.declared.pass.Pass.{Pass}
use Rattle.turn_lock.specs.Passes.{pass_origin}
use Rattle.machine_laws.specs.declared.notes.Note.{Note}
use Rattle.machine_laws.specs.declared.notes.Origin.{Origin}
use Rattle.machine_laws.specs.Notes.{noter, told}
use Rattle.machine_laws.specs.Homes.{start, state_of, entries_in, IsLegal}
use Rattle.machine_laws.proofs.Laws.{views_are_legal, notes_are_runs, walkers_begin}
use Rattle.cluster_turns.specs.declared.shards.Shards.{Shards}
use Rattle.cluster_turns.specs.declared.shards.Walker.{Walker}
use Rattle.cluster_turns.specs.Walkers.{IsOriginAt, IsWalker, own_lists, kept, founds_of}
use Rattle.cluster_turns.proofs.Laws.{some_inj, by_notes}
use Rattle.cluster_closing.specs.Ending.{ClosedAt, own_notes, origin_of}
use Rattle.cluster_closing.specs.Legal.{AreShards, state_at, views_of}
use Rattle.law_base.proofs.Lists.{elem_at as some_elem, some_at}

pub map_at : {X : Type 0} (f : X → List Entry) (xs : List X) (n : ℕ) (d : X) → n < length xs → journal_at (map f xs) n ≡ f (get_or xs n d)
map_at f [] n d l = absurd (omega arith)
map_at f (x ∷ xs) zero d l = refl
map_at f (x ∷ xs) (suc n) d l = map_at f xs n d (omega arith)

map_length : {X Y : Type 0} (f : X → Y) (xs : List X) → length (map f xs) ≡ length xs
map_length f [] = refl
map_length f (x ∷ xs) = ap suc (map_length f xs)

pub state_here : {H : Type 0} (state : H → Shard) (founds : List (List LogRecord)) (homes : List H) (n : ℕ) (d : H) → n < length homes → state_at state founds homes n ≡ state (get_or homes n d)
state_here state founds homes n d l = ap (λ o. elim o [ Some h ↦ state h | None ↦ start_of founds n ]) (some_at homes n d l)

at_own : {T : Type 0} (ps : List (Option (Pass T Note Origin))) (n : ℕ) → journal_at (own_lists ps) n ≡ entries_in (own_notes (get_or ps n None))
at_own [] n = refl
at_own (None ∷ ps) zero = refl
at_own (Some p ∷ ps) zero = refl
at_own (p ∷ ps) (suc n) = at_own ps n

module _ {M S G : Type 0} where
  -- a number's own entries on a shard are those that its walker kept there
  shared : (vs : List (Walker M S G)) (w n : ℕ) (notes : List Note) → ((k : ℕ) (d : Walker M S G) → k < length vs → entries_by noter (get_or vs k d).number notes ≡ own_notes (get_or (get_or vs k d).passes.items n None))
      → (((k : ℕ) (d : Walker M S G) → k < length vs → (get_or vs k d).number ≢ w) → entries_by noter w notes ≡ []) → by_walker w (entries_in notes) ≡ journal_at (views_of vs w) n
  shared [] w n notes each none = by_notes w notes ∙ ap entries_in (none (λ k d l. absurd (omega arith)))
  shared (v ∷ vs) w n notes each none = at (v.number == w) refl (λ h. shared vs w n notes (λ k d l. each (suc k) d (omega arith)) h)
    where
      skip : (v.number == w) ≡ false → ((k : ℕ) (d : Walker M S G) → k < length vs → (get_or vs k d).number ≢ w) → (k : ℕ) (d : Walker M S G) → k < length (v ∷ vs) → (get_or (v ∷ vs) k d).number ≢ w
      skip q h zero d l = λ e. both_ways (v.number == w) q (eq-eqb v.number w e)
      skip q h (suc k) d l = h k d (omega arith)

      at : (b : Bool) → (v.number == w) ≡ b → ((((k : ℕ) (d : Walker M S G) → k < length vs → (get_or vs k d).number ≢ w) → entries_by noter w notes ≡ []) → by_walker w (entries_in notes) ≡ journal_at (views_of vs w) n)
          → by_walker w (entries_in notes) ≡ journal_at (cond b (own_lists v.passes.items) (views_of vs w)) n
      at true q rest = by_notes w notes ∙ ap (λ m. entries_in (entries_by noter m notes)) (sym (eqb-true v.number w q)) ∙ ap entries_in (each 0 v (omega arith)) ∙ sym (at_own v.passes.items n)
      at false q rest = rest (λ h. none (skip q h))

  keeps : (sh : Shards M S G) (vs : List (Walker M S G)) (w : ℕ) → ((k : ℕ) (d : Walker M S G) → k < length vs → IsWalker sh (get_or vs k d)) → WalkerKeeps sh.splits (run_after (founds_of sh)) w (entries_of (views_of vs w))
  keeps sh [] w each = walkers_begin sh.splits (run_after (founds_of sh)) w
  keeps sh (v ∷ vs) w each = at (v.number == w) refl (keeps sh vs w (λ k d l. each (suc k) d (omega arith)))
    where
      at : (b : Bool) → (v.number == w) ≡ b → WalkerKeeps sh.splits (run_after (founds_of sh)) w (entries_of (views_of vs w)) → WalkerKeeps sh.splits (run_after (founds_of sh)) w (entries_of (cond b (own_lists v.passes.items) (views_of vs w)))
      at true q rest = subst (λ m. WalkerKeeps sh.splits (run_after (founds_of sh)) m (kept v.passes.items)) (eqb-true v.number w q) (each 0 v (omega arith)).walks.keeps
      at false q rest = rest

  -- what never changes of a shard, by the first walker's pass
  pub origin_is : (sh : Shards M S G) (vs : List (Walker M S G)) (n : ℕ) (o : Origin) (notes : List Note) → 0 < length vs → n < length sh.locks.items → ((k : ℕ) (d : Walker M S G) → k < length vs → IsWalker sh (get_or vs k d)) → ClosedAt vs n o notes
      → IsOriginAt sh.splits (founds_of sh) n o
  origin_is sh vs n o notes some low each c =
      let v = some_elem vs 0 some in
      let t = (each 0 v some).walks.are_passes.each n None low in
      let one : pass_origin t.0 ≡ Some o = ap origin_of (sym t.1) ∙ c.origin_is 0 v some in
      subst (IsOriginAt sh.splits (founds_of sh) n) (some_inj t.2.origin o (sym t.2.has_origin ∙ one)) t.2.origin_is

  module _ {H : Type 0} (state : H → Shard) (origin : H → Origin) (notes : H → List Note) (sh : Shards M S G) (vs : List (Walker M S G)) (homes : List H) where
    pub makes_history : AreShards sh → 0 < length vs → length homes ≡ length sh.locks.items → ((k : ℕ) (d : Walker M S G) → k < length vs → IsWalker sh (get_or vs k d))
        → ((n : ℕ) (d : H) → n < length homes → ClosedAt vs n (origin (get_or homes n d)) (notes (get_or homes n d))) → ((n : ℕ) (d : H) → n < length homes → IsLegal (origin (get_or homes n d)) (notes (get_or homes n d)) (state (get_or homes n d)))
        → (after : List (List LogRecord)) → length after ≡ shard_count sh.splits → ((n : ℕ) → n < shard_count sh.splits → MayLeave (state_at state (founds_of sh) homes n) (log_of after n))
        → MakesHistory sh.splits (founds_of sh) after (map (λ h. (state h).journal) homes) (state_at state (founds_of sh) homes) (λ w. entries_of (views_of vs w))
    makes_history are some long each closed legal after many leaves =
        let first = some_elem vs 0 some in
        let count = (each 0 first some).count in
        views_are_legal sh.splits (founds_of sh) after (map (λ h. (state h).journal) homes) (state_at state (founds_of sh) homes) (views_of vs)
        (record {
          splits_rise = are.splits_rise;
          each_log = (are.each_log, many);
          each_journal = map_length (λ h. (state h).journal) homes ∙ long ∙ count;
          run_fits = are.run_fits;
          runs = λ n l. (let low : n < length homes = omega arith in runs n low (some_elem homes n low));
          leaves = leaves;
          walkers = λ w. keeps sh vs w each;
          shared = λ w n l. (let low : n < length homes = omega arith in share w n low (some_elem homes n low));
        })
      where
        runs : (n : ℕ) → n < length homes → H → Runs (start_of (founds_of sh) n) (journal_at (map (λ h. (state h).journal) homes) n) (state_at state (founds_of sh) homes n)
        runs n low d =
            let h = get_or homes n d in
            let k = legal n d low in
            let o = origin_is sh vs n (origin h) (notes h) some (omega arith) each (closed n d low) in
            let begins : start (origin h) ≡ start_of (founds_of sh) n = ap (λ m. opened m (origin h).run (origin h).found.value.items) o.shard ∙ ap (λ r. opened n r (origin h).found.value.items) o.run ∙ ap (opened n (run_after (founds_of sh))) o.found in
            let r = notes_are_runs (start (origin h)) None (map told (notes h)) k.may in
            let es : entries_in (notes h) ≡ journal_at (map (λ x. (state x).journal) homes) n = sym k.entries ∙ sym (map_at (λ x. (state x).journal) homes n d low) in
            let st : state_of (origin h) (notes h) ≡ state_at state (founds_of sh) homes n = sym k.is ∙ sym (state_here state (founds_of sh) homes n d low) in
            subst (λ s. Runs s (journal_at (map (λ x. (state x).journal) homes) n) (state_at state (founds_of sh) homes n)) begins
            (subst (λ l. Runs (start (origin h)) l (state_at state (founds_of sh) homes n)) es (subst (Runs (start (origin h)) (entries_in (notes h))) st r))

        share : (w n : ℕ) → n < length homes → H → by_walker w (journal_at (map (λ h. (state h).journal) homes) n) ≡ journal_at (views_of vs w) n
        share w n low d =
            let h = get_or homes n d in
            let c = closed n d low in
            ap (by_walker w) (map_at (λ x. (state x).journal) homes n d low ∙ (legal n d low).entries) ∙ shared vs w n (notes h) c.own_is (c.others w)
