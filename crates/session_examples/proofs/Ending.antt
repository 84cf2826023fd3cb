-- What a program leaves, from what its cluster's beginning and end told.
use Rattle.std.proofs.Common.{◌≡◌, refl, ◌∙◌, sym, ap, subst, ℕ, ◌<◌, ◌≤◌, Bool, true, false, nat_lt, ◌==◌, cond, List, [], ◌∷◌, ◌++◌, take, length, get_or, Option, Result, Ok, Err, arith}
use Rattle.std.proofs.lemmas.Bool.{ltb-true, ltb-false}
use Rattle.clv_base.specs.declared.logs.LogRecord.{LogRecord}
use Rattle.clv_base.specs.declared.events.Entry.{Entry}
use Rattle.clv_base.specs.State.{Shard}
use Rattle.clv_base.specs.Shards.{shard_count}
use Rattle.clv_base.specs.Journals.{History}
use Rattle.io_model.specs.Sides.{Stories}
use Rattle.cluster_opening.specs.Houses.{WentOut}
use Rattle.history_replay.specs.Entries.{Kept, entries_of}
use Rattle.journal_laws.specs.Gathered.{MakesHistory}
use Rattle.script_runs.specs.Sessions.{session_entries}
use Rattle.cluster_turns.specs.declared.home.Home.{Home}
use Rattle.cluster_turns.specs.declared.shards.Shards.{Shards}
use Rattle.cluster_turns.specs.declared.shards.Walker.{Walker}
use Rattle.cluster_turns.specs.Walkers.{own_lists, kept}
use Rattle.cluster_runs.specs.Begun.{AreLocked}
use Rattle.cluster_runs.specs.Ends.{end_of, walked_by, IsClosed}
use Rattle.cluster_runs.proofs.Laws.{clusters_end}
use Rattle.session_examples.specs.declared.transfers.Transferred.TheVariants.{Moved, Refused, GivenUp}
use Rattle.session_examples.specs.declared.transfers.Transferred.{Transferred}
use Rattle.session_examples.specs.declared.transfers.Stop.{Stop}
use Rattle.session_examples.specs.Moves.{MovesAs}
use Rattle.session_examples.specs.Programs.{HasRun, HasMade}

-- what is so whichever element is named is so where a list has one
pub by_any : {A : Type 0} (P : Type 0) (xs : List A) (n : ℕ) → n < length xs → (A → P) → P
by_any P [] n low so = absurd (omega arith)
by_any P (x ∷ xs) n low so = so x

-- a history stays legal under another name of its journals
pub legal_by : (splits : List ℕ) (before after : List (List LogRecord)) (js ks : List (List Entry)) (states : ℕ → Shard) (own_of : ℕ → History) → ks ≡ js → MakesHistory splits before after js states own_of
    → MakesHistory splits before after ks states own_of
legal_by splits before after js ks states own_of same made = subst (λ l. MakesHistory splits before after l states own_of) (sym same) made

-- the disks of a house that were all in are in again
pub all_back : (count locks : ℕ) (faults faults' : ℕ → ℕ) (out out' out_now : ℕ → Bool × Bool) (stories stories' : ℕ → Option Stories) → WentOut count faults faults' out out' stories stories' → locks ≡ count → ((n : ℕ) → n < locks → out_now n ≡ (false, false))
    → ((n : ℕ) → locks ≤ n → out_now n ≡ out' n) → ((n : ℕ) → n < 16 → out n ≡ (false, false)) → (n : ℕ) → n < 16 → out_now n ≡ (false, false)
all_back count locks faults faults' out out' out_now stories stories' went many back others were n few = at (nat_lt n locks) refl
  where
    at : (b : Bool) → nat_lt n locks ≡ b → out_now n ≡ (false, false)
    at true is = back n (ltb-true n locks is)
    at false is = let past = ltb-false n locks is in others n past ∙ ((went.rest n (omega arith)).0 ∙ were n few)

-- the whole run
pub has_run : {M S G D : Type 0} (shard : M → Shard) (sh : Shards M S G) (walkers : List (Walker M S G)) (homes : List (Home M S G)) (kept : Kept) (down : Option ℕ) (passes : ℕ) (counts counts_open counts_now : ℕ → ℕ) (out out_open out_now : ℕ → Bool × Bool)
    (before open_now now : ℕ → Option Stories) (P : List ℕ → (ℕ → History) → Type 0) → AreLocked passes before sh → WentOut (shard_count sh.splits) counts counts_open out out_open before open_now
    → IsClosed D shard sh walkers homes kept down counts_open counts_now out_open out_now open_now now → P sh.splits (walked_by walkers) → HasRun before now counts counts_now kept P
has_run {D = D} shard sh walkers homes kept down passes counts counts_open counts_now out out_open out_now before open_now now P begun went closed made = record {
  splits = sh.splits;
  states = end_of D shard sh homes;
  own_of = walked_by walkers;
  ended =
      clusters_end {D = D} shard sh walkers homes kept down counts counts_now out out_now before now
      (record { passes = passes; counts_open = counts_open; out_open = out_open; open_now = open_now; begun = begun; went_out = went; closed = closed });
  made = made;
}

module _ {M S G : Type 0} where
  -- of two walkers the second one's entries are those of session 1
  pub walked_second : (ws : List (Walker M S G)) (v : Walker M S G) → length ws ≡ 2 → (get_or ws 0 v).number ≡ 0 → v.number ≡ 1 → walked_by (take 1 ws ++ v ∷ []) 1 ≡ kept v.passes.items
  walked_second [] v many first second = absurd (omega arith)
  walked_second (a ∷ ws) v many first second =
      ap (λ n. entries_of (cond (n == 1) (own_lists a.passes.items) (cond (v.number == 1) (own_lists v.passes.items) []))) first ∙ ap (λ n. entries_of (cond (n == 1) (own_lists v.passes.items) [])) second

  -- what its transfer made
  pub has_made : (sh : Shards M S G) (from to amount : ℕ) (r : Result Transferred Stop) (w v : Walker M S G) (own_of : ℕ → History) → kept w.passes.items ≡ [] → own_of 1 ≡ kept v.passes.items → MovesAs sh from to amount r w v
      → HasMade from to amount r sh.splits own_of
  has_made sh from to amount (Ok Moved) w v own_of none is (earlier, es, made, moves) = (earlier, es, ap session_entries is ∙ (made ∙ ap (λ l. session_entries l ++ earlier ++ es) none), moves)
  has_made sh from to amount (Ok (Refused why)) w v own_of none is moves = tt
  has_made sh from to amount (Ok (GivenUp cause)) w v own_of none is moves = tt
  has_made sh from to amount (Err stop) w v own_of none is moves = tt
