-- A run whose sessions are those of a script's text can be told by a report.
pub mod ActsAreNumbered
pub mod AcknowledgedDidSomething
pub mod EntriesAreFew
pub mod TriesAreCounted
pub mod SessionsAreAsked
pub mod RowsAreSorted
use Rattle.std.proofs.Common.{◌≡◌, refl, sym, ap, subst, ◌∙◌, inr, ℕ, zero, suc, ◌+◌, ◌<◌, ◌≤◌, ◌^◌, true, List, [], ◌∷◌, ◌++◌, map, length, Some, None, slice_get, arith}
use Rattle.std.specs.List.{AllByRecursion, list_all}
use Rattle.std.proofs.lemmas.Bool.{and_parts, and_from, lt-ltb}
use Rattle.std.proofs.lemmas.List.Sorted.{length_permutation}
use Rattle.clv_base.specs.Logs.{stands}
use Rattle.clv_base.specs.Restarts.{run_after}
use Rattle.clv_base.specs.Journals.{History, own}
use Rattle.law_base.proofs.Lists.{all_append}
use Rattle.script_lang.specs.Bodies.{Body}
use Rattle.script_lang.specs.Laws.{is_narrow_body, session_size, script_size, ScriptsAreNarrow, ScriptsAreShort}
use Rattle.session_books.specs.declared.books.Row.{Row}
use Rattle.session_books.specs.declared.counts.Counts.{Counts}
use Rattle.session_books.specs.Counts.{counts_in}
use Rattle.session_books.specs.Books.{Book, rows}
use Rattle.session_books.specs.Laws.{session_part, AreBooks, all_rows, all_counts, BooksMakeTheReport}
use Rattle.script_runs.specs.Sessions.{tries_of}
use Rattle.script_runs.specs.Books.{AcknowledgedHaveRows, OthersHaveNone, TransactionsAddToBooks, total}
use Rattle.report_reading.specs.Texts.{fits_counts}
use Rattle.audit_laws.specs.Reports.{reported_of}
use Rattle.cluster_runs.specs.Histories.{entries}
use Rattle.cluster_runs.specs.PromisedSessions.{HasFollowed, SessionWent}
use Rattle.run_audit_laws.specs.Runs.{told_by, ReportsOfRunsAreTrue, RunsCanBeTold}
use Rattle.run_audit_laws.proofs.Answering.{IsAsked, asked_can_be_told}
use Rattle.run_audit_laws.proofs.Fitting.{stands_fit, all_spelled}
use Rattle.run_audit_laws.proofs.Naming.{rows_are_named}
use Rattle.run_audit_laws.proofs.RunsCanBeTold.RowsAreSorted.{in_place_order, rows_are_sorted}
use Rattle.run_audit_laws.proofs.RunsCanBeTold.SessionsAreAsked.{IsAskedRow, bodies_few, session_asked}
use Rattle.run_audit_laws.proofs.RunsCanBeTold.TriesAreCounted.{SessionCounted, session_counted}

-- ---- the books of all sessions, from walker w on

abbrev books_from : History → ℕ → List (List Body) → List Book
books_from h w [] = []
books_from h w (bodies ∷ ss) = record { rows = rows (session_part w h); counts = counts_in (session_part w h) (session_part w h); room = 0; keeps = true } ∷ books_from h (suc w) ss

are_books : (h : History) (w : ℕ) (ss : List (List Body)) → AreBooks h w (books_from h w ss)
are_books h w [] = tt
are_books h w (bodies ∷ ss) = (record { rows = refl; counts = refl }, are_books h (suc w) ss)

as_many_books : (h : History) (w : ℕ) (ss : List (List Body)) → length (books_from h w ss) ≡ length ss
as_many_books h w [] = refl
as_many_books h w (bodies ∷ ss) = ap suc (as_many_books h (suc w) ss)

-- they have as many rows as are counted acknowledged, each row was asked for within its bounds, and so many transactions are counted at most
record AllCounted (books : List Book) (most : ℕ) : Type 0 where
  as_many : length (all_rows books) ≡ (all_counts books).acknowledged
  each : AllByRecursion IsAskedRow (all_rows books)
  few : total (all_counts books) ≤ most

long : {A : Type 0} (xs ys : List A) → length (xs ++ ys) ≡ length xs + length ys
long [] ys = omega arith
long (x ∷ xs) ys = let l = long xs ys in omega arith

all_counted : (h : History) (w : ℕ) (ss : List (List Body)) → ((k : ℕ) (bodies : List Body) → slice_get ss k ≡ Some bodies → SessionCounted IsAskedRow (session_part (w + k) h) (length bodies)) → AllCounted (books_from h w ss) (script_size ss)
all_counted h w [] each = record { as_many = refl; each = tt; few = omega arith }
all_counted h w (bodies ∷ ss) each =
    let first = subst (λ v. SessionCounted IsAskedRow (session_part v h) (length bodies)) (let same : w + 0 ≡ w = omega arith in same) (each 0 bodies refl) in
    let rest = all_counted h (suc w) ss (λ k bs is. subst (λ v. SessionCounted IsAskedRow (session_part v h) (length bs)) (let same : w + suc k ≡ suc w + k = omega arith in same) (each (suc k) bs is)) in
    let part = session_part w h in
    let l = long (rows part) (all_rows (books_from h (suc w) ss)) in
    let a = first.as_many in let b = rest.as_many in let c = first.few in let d = rest.few in let k = bodies_few bodies in
    record { as_many = omega arith; each = all_append IsAskedRow (rows part) (all_rows (books_from h (suc w) ss)) first.each rest.each; few = omega arith }

-- ---- scripts

narrow_at : (script : List (List Body)) (k : ℕ) (bodies : List Body) → list_all (list_all is_narrow_body) script ≡ true → slice_get script k ≡ Some bodies → list_all is_narrow_body bodies ≡ true
narrow_at [] k bodies all is = absurd cc
narrow_at (x ∷ xs) zero bodies all is = subst (λ z. list_all is_narrow_body z ≡ true) (let same : x ≡ bodies = cc in same) (and_parts (list_all is_narrow_body x) (list_all (list_all is_narrow_body) xs) all).0
narrow_at (x ∷ xs) (suc k) bodies all is = narrow_at xs k bodies (and_parts (list_all is_narrow_body x) (list_all (list_all is_narrow_body) xs) all).1 is

size_at : (script : List (List Body)) (k : ℕ) (bodies : List Body) → slice_get script k ≡ Some bodies → session_size bodies ≤ script_size script
size_at [] k bodies is = absurd cc
size_at (x ∷ xs) zero bodies is = subst (λ z. session_size z ≤ script_size (x ∷ xs)) (let same : x ≡ bodies = cc in same) (omega arith)
size_at (x ∷ xs) (suc k) bodies is = let l = size_at xs k bodies is in omega arith

low_at : (script : List (List Body)) (k : ℕ) (bodies : List Body) → slice_get script k ≡ Some bodies → k < length script
low_at [] k bodies is = absurd cc
low_at (x ∷ xs) zero bodies is = omega arith
low_at (x ∷ xs) (suc k) bodies is = let l = low_at xs k bodies is in omega arith

-- ---- counts and rows

counts_fit : (c : Counts) → total c < 2 ^ 64 → fits_counts c ≡ true
counts_fit c l = and_from _ _ (lt-ltb c.acknowledged (2 ^ 64) (omega arith)) (and_from _ _ (lt-ltb c.unsettled (2 ^ 64) (omega arith)) (lt-ltb c.aborted (2 ^ 64) (omega arith)))

as_reported : (rs : List Row) → AllByRecursion IsAskedRow rs → AllByRecursion IsAsked (map reported_of rs)
as_reported [] a = tt
as_reported (r ∷ rs) a = (a.0, as_reported rs a.1)

pub runs_can_be_told : BooksMakeTheReport → TransactionsAddToBooks → AcknowledgedHaveRows → OthersHaveNone → ScriptsAreNarrow → ScriptsAreShort → ReportsOfRunsAreTrue → RunsCanBeTold
runs_can_be_told make add have_rows have_none narrow short true_ splits before now counts counts_now most script went kept bytes held may p gone is =
    let h = entries kept in
    let legal = ((p.keeps).legal).legal in
    let size = short bytes script is in
    let long_text = is.2 in
    let books = books_from h 1 script in
    let session : (k : ℕ) (bodies : List Body) → slice_get script k ≡ Some bodies → SessionCounted IsAskedRow (session_part (1 + k) h) (length bodies) =
    λ k bodies at.
    let s : HasFollowed splits (run_after kept.found) (suc k) most bodies None (session_part (suc k) h) = subst (λ z. SessionWent splits (run_after kept.found) (suc k) most bodies z (own (suc k) h)) (gone k (low_at script k bodies at)) ((p.sessions).each k bodies at) in
    let f = s.follows in
    let tight = narrow_at script k bodies (narrow bytes script is) at in
    let n = size_at script k bodies at in
    let small : session_size bodies ≤ 2 ^ 25 = omega arith in
    let c = session_counted have_rows have_none IsAskedRow add splits legal.splits_rise (run_after kept.found) (suc k) most bodies f.transactions f.in_order tight
    (session_asked splits kept.found (p.keeps).left h legal (suc k) most bodies f s.counted small tight) s.clock (length (tries_of f.transactions)) s.births s.counted in
    subst (λ v. SessionCounted IsAskedRow (session_part v h) (length bodies)) (let same : suc k ≡ 1 + k = omega arith in same) (subst (λ es. SessionCounted IsAskedRow es (length bodies)) (sym f.entries_are) c) in
    let all = all_counted h 1 script session in
    let sorted = rows_are_sorted (all_rows books) in
    let many = as_many_books h 1 script in
    let m = make splits kept.found h (p.keeps).left books (in_place_order (all_rows books)) legal (are_books h 1 script) (λ w past. (p.sessions).others w (inr (omega arith))) sorted.same sorted.by_place in
    let asked : AllByRecursion IsAskedRow (rows h) = subst (AllByRecursion IsAskedRow) m.0 (sorted.each IsAskedRow all.each) in
    let spelled = all_spelled kept.found (λ n l. (held.each n (subst (λ (k : ℕ). n < k) held.count l)).spelled) in
    let right = (true_ splits before now counts counts_now most script went kept (λ n. true) (told_by kept) may p gone (record { pairs = refl; txs = refl; unsettled = refl })).0 in
    let few : total (counts_in h h) < 2 ^ 64 = subst (λ (c : Counts). total c < 2 ^ 64) m.1 (let l = all.few in omega arith) in
    record {
      each = asked_can_be_told (map reported_of (rows h)) (stands kept.found) (stands_fit kept.found spelled) (rows_are_named splits kept.found h (p.keeps).left legal) (as_reported (rows h) asked) right.answers;
      counts = counts_fit (counts_in h h) few;
      counted = sym (ap (λ (c : Counts). c.acknowledged) m.1) ∙ sym all.as_many ∙ sym (length_permutation (all_rows books) (in_place_order (all_rows books)) sorted.same) ∙ ap length m.0;
    }
