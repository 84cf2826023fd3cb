-- The books of a run's sessions, from their walkers to the history.
use Rattle.std.proofs.Common.{◌≡◌, refl, sym, ap, ◌∙◌, subst, ◌⊎◌, inl, inr, ℕ, zero, suc, ◌+◌, ◌<◌, ◌≤◌, Bool, List, [], ◌∷◌, length, get_or, set, Option, Some, None, slice_get, arith}
use Rattle.std.specs.List.{AllByRecursion}
use Rattle.std.proofs.lemmas.List.{length-set}
use Rattle.std.proofs.lemmas.Option.{slice_get_cases}
use Rattle.clv_base.specs.State.{Shard}
use Rattle.clv_base.specs.Journals.{History, own}
use Rattle.io_model.specs.Sides.{Stories}
use Rattle.history_replay.specs.Entries.{Kept, entries_of}
use Rattle.cluster_turns.specs.declared.home.Home.{Home}
use Rattle.cluster_turns.specs.declared.shards.Shards.{Shards}
use Rattle.cluster_turns.specs.declared.shards.Walker.{Walker}
use Rattle.cluster_turns.specs.Walkers.{kept as kept_by}
use Rattle.cluster_opening.specs.Made.{IsNewWalker}
use Rattle.script_runs.specs.Sessions.{session_entries}
use Rattle.session_api.proofs.Laws.{new_walkers_keep_none}
use Rattle.session_books.specs.Books.{Book, IsBook}
use Rattle.session_books.specs.Laws.{session_part, AreBooks}
use Rattle.cluster_runs.specs.Ends.{IsClosedRun}
use Rattle.cluster_runs.specs.Drained.{HaveLooked}
use Rattle.cluster_runs.specs.Books.{WalkersHaveBooks, HasBooks}
use Rattle.cluster_runs.proofs.Ending.{own_is_kept, others_own_none}

module _ {M S G : Type 0} where
  -- none was begun
  pub no_books : (sh : Shards M S G) (sessions : ℕ) (walkers : List (Walker M S G)) (books : List Book) → length walkers ≡ sessions + 1 → books ≡ []
      → ((k : ℕ) (d : Walker M S G) → k < sessions → IsNewWalker sh (suc k) 0 (get_or walkers (suc k) d)) → WalkersHaveBooks walkers books
  no_books sh sessions walkers books many none new = record {
    few = (let n = ap length none in omega arith);
    each = λ k d e low. absurd (let n = ap length none in omega arith);
    others = λ k d past low. ap session_entries (new_walkers_keep_none _ _ _ sh (suc k) 0 (get_or walkers (suc k) d) (new k d (omega arith)));
  }

  behind : (walkers : List (Walker M S G)) (w d : Walker M S G) (k : ℕ) → get_or walkers (suc k) d ≡ get_or (set walkers 0 w) (suc k) d
  behind [] w d k = refl
  behind (x ∷ xs) w d k = refl

  -- walker 0 has gone on
  pub books_behind : (walkers : List (Walker M S G)) (w : Walker M S G) (books : List Book) → WalkersHaveBooks walkers books → WalkersHaveBooks (set walkers 0 w) books
  books_behind walkers w books b = record {
    few = (let n = length-set walkers 0 w in let f = b.few in omega arith);
    each = λ k d e low. subst (λ z. IsBook (session_entries (kept_by z.passes.items)) (get_or books k e)) (behind walkers w d k) (b.each k d e low);
    others = λ k d past low. subst (λ z. session_entries (kept_by z.passes.items) ≡ []) (behind walkers w d k) (b.others k d past (let n = length-set walkers 0 w in omega arith));
  }

  -- walkers that look keep what they kept
  pub books_still : (sh : Shards M S G) (ws vs : List (Walker M S G)) (books : List Book) → HaveLooked sh ws vs → WalkersHaveBooks ws books → WalkersHaveBooks vs books
  books_still sh ws vs books looked b = record {
    few = (let n = looked.count in let f = b.few in omega arith);
    each = λ k d e low. subst (λ es. IsBook (session_entries es) (get_or books k e)) (sym (looked.each (suc k) d).sees.kept_is) (b.each k d e low);
    others = λ k d past low. subst (λ es. session_entries es ≡ []) (sym (looked.each (suc k) d).sees.kept_is) (b.others k d past (let n = looked.count in omega arith));
  }

-- each keeps its rows, or doesn't
pub none_keep : (keeps : Bool) (books : List Book) → books ≡ [] → AllByRecursion (λ b. b.keeps ≡ keeps) books
none_keep keeps books none = subst (AllByRecursion (λ b. b.keeps ≡ keeps)) (sym none) tt

pub all_keep : (keeps : Bool) (books : List Book) → ((k : ℕ) (e : Book) → k < length books → (get_or books k e).keeps ≡ keeps) → AllByRecursion (λ b. b.keeps ≡ keeps) books
all_keep keeps [] each = tt
all_keep keeps (b ∷ bs) each = (each 0 b (omega arith), all_keep keeps bs (λ k e low. each (suc k) e (omega arith)))

-- books one after another
are_books : (h : History) (w : ℕ) (books : List Book) → ((k : ℕ) (e : Book) → k < length books → IsBook (session_part (w + k) h) (get_or books k e)) → AreBooks h w books
are_books h w [] each = tt
are_books h w (b ∷ bs) each =
    let here : w + 0 ≡ w = omega arith in (
      subst (λ j. IsBook (session_part j h) b) here (each 0 b (omega arith)),
      are_books h (suc w) bs (λ k e low. (let there : w + suc k ≡ suc w + k = omega arith in subst (λ j. IsBook (session_part j h) (get_or bs k e)) there (each (suc k) e (omega arith)))),
    )

-- in the history
pub have_books :
    {M S G D : Type 0} (shard : M → Shard) (sh : Shards M S G) (walkers : List (Walker M S G)) (homes : List (Home M S G)) (kept : Kept) (down : Option ℕ) (counts counts_now : ℕ → ℕ) (out out_now : ℕ → Bool × Bool) (before now : ℕ → Option Stories) (books : List Book)
    → IsClosedRun D shard sh walkers homes kept down counts counts_now out out_now before now → ((k : ℕ) (d : Walker M S G) → k < length walkers → (get_or walkers k d).number ≡ k)
    → Walker M S G → WalkersHaveBooks walkers books → HasBooks (entries_of kept.journals) books
have_books {M = M} {S = S} {G = G} {D = D} shard sh walkers homes kept down counts counts_now out out_now before now books closed numbers d b = record {
  kept = are_books h 1 books (λ k e low. (let next : suc k ≡ 1 + k = omega arith in
      subst (λ j. IsBook (session_part j h) (get_or books k e)) next (subst (λ es. IsBook (session_entries es) (get_or books k e)) (sym (owned (suc k) d (let f = b.few in omega arith))) (b.each k d e low))));
  no_other = other;
}
  where
    h : History
    h = entries_of kept.journals

    owned : (k : ℕ) (e : Walker M S G) → k < length walkers → own k h ≡ kept_by (get_or walkers k e).passes.items
    owned = own_is_kept {D = D} shard sh walkers homes kept down counts counts_now out out_now before now closed numbers

    at : (w : ℕ) → length books ≤ w → ((x : Walker M S G) × (suc w < length walkers) × (slice_get walkers (suc w) ≡ Some x) × (get_or walkers (suc w) x ≡ x)) ⊎ ((length walkers ≤ suc w) × (slice_get walkers (suc w) ≡ None)) → session_part (suc w) h ≡ []
    at w past (inl (x, low, is, read)) = ap session_entries (owned (suc w) x low) ∙ b.others w x past low
    at w past (inr (beyond, is)) = ap session_entries (others_own_none {D = D} shard sh walkers homes kept down counts counts_now out out_now before now closed numbers (suc w) beyond)

    other : (w : ℕ) → length books < w → session_part w h ≡ []
    other zero past = absurd (omega arith)
    other (suc w) past = at w (omega arith) (slice_get_cases walkers (suc w)).1
