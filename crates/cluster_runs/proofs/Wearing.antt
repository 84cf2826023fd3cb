-- Stamps that come to their end.
use Rattle.std.proofs.Common.{◌≡◌, ◌==◌, refl, ap, subst, ℕ, zero, suc, ◌+◌, ◌<◌, ◌≤◌, Bool, true, false, cond, List, [], ◌∷◌, length, get_or, set, max, ◌^◌, ◌-◌, Some, slice_get, Err, IfErr, arith}
use Rattle.std.specs.List.{filter}
use Rattle.std.proofs.lemmas.Bool.{eqb-true}
use Rattle.clv_base.specs.declared.events.Entry.{Entry}
use Rattle.clv_base.specs.Journals.{History, own, journal_of}
use Rattle.cluster_turns.specs.declared.shards.Walker.{Walker}
use Rattle.cluster_turns.specs.Walkers.{kept}
use Rattle.cluster_turns.specs.Dates.{latest, last_seen}
use Rattle.script_runs.specs.Sessions.{session_entries}
use Rattle.script_lang.specs.Bodies.{Body}
use Rattle.script_runs.specs.declared.ends.StopCause.TheVariants.{Worn}
use Rattle.command_line.specs.Running.{End}
use Rattle.cluster_runs.specs.Sessions.{seen_by_all, begun_by_all, AreCounted, base_from}
use Rattle.cluster_runs.specs.Statuses.{transactions, last_stamp}

-- ---- the entries of walkers, from a number on

abbrev pub owned_from : ℕ → ℕ → History → ℕ
owned_from i zero h = 0
owned_from i (suc n) h = length (own i h) + owned_from (suc i) n h

own_more : (i : ℕ) (e : ℕ × Entry) (es : History) (b : Bool) → ((e.1).walker == i) ≡ b → length (own i (e ∷ es)) ≡ cond b (suc (length (own i es))) (length (own i es))
own_more i e es true is = ap (λ b. length (cond b (e ∷ own i es) (own i es))) is
own_more i e es false is = ap (λ b. length (cond b (e ∷ own i es) (own i es))) is

-- an entry is of one of them at most
one_more : (n i : ℕ) (e : ℕ × Entry) (es : History) → (owned_from i n (e ∷ es) ≤ suc (owned_from i n es)) × ((e.1).walker < i → owned_from i n (e ∷ es) ≡ owned_from i n es)
one_more zero i e es = (omega arith, λ low. refl)
one_more (suc n) i e es = at (one_more n (suc i) e es) ((e.1).walker == i) refl
  where
    at : (owned_from (suc i) n (e ∷ es) ≤ suc (owned_from (suc i) n es)) × ((e.1).walker < suc i → owned_from (suc i) n (e ∷ es) ≡ owned_from (suc i) n es) → (b : Bool) → ((e.1).walker == i) ≡ b → (owned_from i (suc n) (e ∷ es) ≤ suc (owned_from i (suc n) es)) × ((e.1).walker < i → owned_from i (suc n) (e ∷ es) ≡ owned_from i (suc n) es)
    at more true is =
        let here : (e.1).walker ≡ i = eqb-true (e.1).walker i is in
        let one = own_more i e es true is in
        let rest = more.1 (omega arith) in
        (omega arith, λ low. absurd (omega arith))
    at more false is = let none = own_more i e es false is in let up = more.0 in (omega arith, λ low. (let rest = more.1 (omega arith) in omega arith))

pub owned_few : (h : History) (i n : ℕ) → owned_from i n h ≤ length h
owned_few [] i zero = omega arith
owned_few [] i (suc n) = let r = owned_few [] (suc i) n in omega arith
owned_few (e ∷ es) i n = let one = (one_more n i e es).0 in let rest = owned_few es i n in omega arith

-- the tries of sessions are no more than their transactions and the history's entries
pub begun_few : {M S G : Type 0} (script : List (List Body)) (ws : List (Walker M S G)) (i : ℕ) (h : History) → length ws ≡ length script
    → ((k : ℕ) (bodies : List Body) (d : Walker M S G) → slice_get script k ≡ Some bodies → (get_or ws k d).serial ≤ length bodies + length (own (i + k) h)) → begun_by_all ws ≤ transactions script + owned_from i (length ws) h
begun_few [] [] i h many few = omega arith
begun_few [] (w ∷ ws) i h many few = absurd (omega arith)
begun_few (x ∷ xs) [] i h many few = absurd (omega arith)
begun_few (x ∷ xs) (w ∷ ws) i h many few =
    let one = few 0 x w refl in
    let same : i + 0 ≡ i = omega arith in
    let at = ap (λ j. length (own j h)) same in
    let rest = begun_few xs ws (suc i) h (omega arith) (λ k bodies d is. subst (λ j. (get_or ws k d).serial ≤ length bodies + length (own j h)) (let e : i + suc k ≡ suc i + k = omega arith in e) (few (suc k) bodies d is)) in
    omega arith

pub filter_below : {X : Type 0} (f : X → Bool) (xs : List X) → length (filter f xs) ≤ length xs
filter_below f [] = omega arith
filter_below f (x ∷ xs) = at (filter_below f xs) (f x)
  where
    at : length (filter f xs) ≤ length xs → (b : Bool) → length (cond b (x ∷ filter f xs) (filter f xs)) ≤ suc (length xs)
    at rest true = omega arith
    at rest false = omega arith

-- ---- the greatest stamp

pub journal_below : (n : ℕ) (h : History) → latest (journal_of n h) ≤ last_stamp h
journal_below n [] = omega arith
journal_below n (e ∷ es) = at (journal_below n es) (e.0 == n)
  where
    at : latest (journal_of n es) ≤ last_stamp es → (b : Bool) → latest (cond b (e.1 ∷ journal_of n es) (journal_of n es)) ≤ last_stamp (e ∷ es)
    at rest true = omega arith
    at rest false = omega arith

-- ---- walkers at their places

module _ {M S G : Type 0} where
  pub seen_at : (ws : List (Walker M S G)) (k : ℕ) (d : Walker M S G) → k < length ws → last_seen (get_or ws k d).passes.items ≤ seen_by_all ws
  seen_at [] k d l = absurd (omega arith)
  seen_at (w ∷ ws) zero d l = omega arith
  seen_at (w ∷ ws) (suc k) d l = let a = seen_at ws k d (omega arith) in omega arith

  pub begun_at : (ws : List (Walker M S G)) (k : ℕ) (d : Walker M S G) → k < length ws → (get_or ws k d).serial ≤ begun_by_all ws
  begun_at [] k d l = absurd (omega arith)
  begun_at (w ∷ ws) zero d l = omega arith
  begun_at (w ∷ ws) (suc k) d l = let a = begun_at ws k d (omega arith) in omega arith

  -- that of the first session, and of another one
  begun_both : (ws : List (Walker M S G)) (k : ℕ) (d : Walker M S G) → suc (suc k) < length ws → (get_or ws 1 d).serial + (get_or ws (suc (suc k)) d).serial ≤ begun_by_all ws
  begun_both [] k d l = absurd (omega arith)
  begun_both (v ∷ []) k d l = absurd (omega arith)
  begun_both (v ∷ w ∷ ws) k d l = let a = begun_at ws k d (omega arith) in omega arith

  -- a session whose clock is at its end: by the stamps that walkers have seen, and their tries
  pub session_worn : (ws : List (Walker M S G)) (clock base k : ℕ) (d : Walker M S G) → suc k < length ws → clock ≤ last_seen (get_or ws 0 d).passes.items → base ≤ (get_or ws 1 d).serial + max clock (last_seen (get_or ws 1 d).passes.items)
      → (get_or ws (suc k) d).clock ≤ (get_or ws (suc k) d).serial + max (base_from clock base k) (last_seen (get_or ws (suc k) d).passes.items) → 2 ^ 48 - 1 ≤ (get_or ws (suc k) d).clock
      → 2 ^ 48 - 1 ≤ seen_by_all ws + begun_by_all ws
  session_worn ws clock base zero d l start reached dated worn =
      let zeroth = seen_at ws 0 d (omega arith) in
      let own = seen_at ws 1 d l in
      let tries = begun_at ws 1 d l in
      omega arith
  session_worn ws clock base (suc k) d l start reached dated worn =
      let zeroth = seen_at ws 0 d (omega arith) in
      let first = seen_at ws 1 d (omega arith) in
      let own = seen_at ws (suc (suc k)) d l in
      let tries = begun_both ws k d l in
      omega arith

  -- walker 0, whose clock is at its end
  pub drain_worn : (ws : List (Walker M S G)) (w : Walker M S G) → 0 < length ws → w.clock ≤ last_seen w.passes.items → 2 ^ 48 - 1 ≤ w.clock → 2 ^ 48 - 1 ≤ seen_by_all (set ws 0 w) + begun_by_all (set ws 0 w)
  drain_worn [] w l dated worn = absurd (omega arith)
  drain_worn (x ∷ xs) w l dated worn = omega arith

  -- it has gone on, and begun none
  pub worn_still : (ws : List (Walker M S G)) (w : Walker M S G) → ((d : Walker M S G) → last_seen (get_or ws 0 d).passes.items ≤ last_seen w.passes.items) → ((d : Walker M S G) → w.serial ≡ (get_or ws 0 d).serial) → 2 ^ 48 - 1 ≤ seen_by_all ws + begun_by_all ws
      → 2 ^ 48 - 1 ≤ seen_by_all (set ws 0 w) + begun_by_all (set ws 0 w)
  worn_still [] w more same worn = worn
  worn_still (x ∷ xs) w more same worn = let m = more x in let s = same x in omega arith

  -- with walker 0, which began none
  pub first_counted : (script : List (List Body)) (ws : List (Walker M S G)) (w : Walker M S G) → 0 < length ws → w.serial ≡ 0
      → ((k : ℕ) (bodies : List Body) (d : Walker M S G) → slice_get script k ≡ Some bodies → (get_or ws (suc k) d).serial ≤ length bodies + length (session_entries (kept (get_or ws (suc k) d).passes.items))) → AreCounted script (set ws 0 w)
  first_counted script [] w l none few = absurd (omega arith)
  first_counted script (x ∷ xs) w l none few = record { none = λ d. none; few = λ k bodies d is. few k bodies d is }

-- ---- the end of one of many

-- what stopped one of them, of a list that is another one
pub one_worn : {X : Type 0} (xs ys : List X) (ended_of : X → End) (end : End) (at : ℕ) → xs ≡ ys → end ≡ Err (Worn at) → IfErr end (λ cause. (k : ℕ) × (k < length xs) × ((d : X) → ended_of (get_or xs k d) ≡ Err cause))
    → (k : ℕ) × (k < length ys) × ((d : X) → ended_of (get_or ys k d) ≡ Err (Worn at))
one_worn {X} xs ys ended_of end at same is h =
    subst (λ zs. (k : ℕ) × (k < length zs) × ((d : X) → ended_of (get_or zs k d) ≡ Err (Worn at))) same (subst (λ x. IfErr x (λ cause. (k : ℕ) × (k < length xs) × ((d : X) → ended_of (get_or xs k d) ≡ Err cause))) is h)
