-- What stands in a journal before a run's sessions.
use Rattle.std.proofs.Common.{◌≡◌, refl, sym, ap, ◌∙◌, subst, inl, inr, ℕ, zero, suc, ◌<◌, ◌≤◌, ◌==◌, nat_lt, eqb-true, Bool, true, false, cond, List, [], ◌∷◌, arith}
use Rattle.std.specs.Prelude.{◌⊎◌, not}
use Rattle.std.specs.List.{AllByRecursion, list_all}
use Rattle.std.proofs.lemmas.Bool.{ltb-true, ltb-false, and_from}
use Rattle.clv_base.specs.declared.events.Entry.{Entry}
use Rattle.clv_base.specs.Sessions.{is_of_session}
use Rattle.clv_base.specs.Journals.{History, own, journal_of}
use Rattle.history_cases.proofs.Merging.{Among, among_all, among_left, in_own}
use Rattle.history_replay.specs.Entries.{Kept}
use Rattle.script_runs.specs.Sessions.{session_entries}
use Rattle.cluster_runs.specs.Histories.{entries}
use Rattle.cluster_runs.specs.Drained.{WasDrained}
use Rattle.cluster_runs.proofs.Ending.{DrainedBy}
use Rattle.cluster_runs.proofs.Going.{in_session}

-- what stands in a journal stands in its history
pub from_journal : (n : ℕ) (e : Entry) (h : History) → Among e (journal_of n h) → Among (n, e) h
from_journal n e [] m = absurd m
from_journal n e ((k, f) ∷ fs) m = at (k == n) refl m (from_journal n e fs)
  where
    at : (b : Bool) → (k == n) ≡ b → Among e (cond b (f ∷ journal_of n fs) (journal_of n fs)) → (Among e (journal_of n fs) → Among (n, e) fs) → Among (n, e) ((k, f) ∷ fs)
    at true is (inl same) more = inl (ap (λ j. (j, f)) (eqb-true k n is) ∙ ap (λ x. (n, x)) same)
    at true is (inr there) more = inr (more there)
    at false is there more = inr (more there)

none_of_sessions : (xs : List Entry) → ((e : Entry) → Among e xs → is_of_session e.event ≡ true → ⊥) → list_all (λ e. not (is_of_session e.event)) xs ≡ true
none_of_sessions [] f = refl
none_of_sessions (x ∷ xs) f = and_from (not (is_of_session x.event)) (list_all (λ e. not (is_of_session e.event)) xs) (at (is_of_session x.event) refl) (none_of_sessions xs (λ e m. f e (inr m)))
  where
    at : (b : Bool) → is_of_session x.event ≡ b → not b ≡ true
    at true is = absurd (f x (inl refl) is)
    at false is = refl

-- where all that sessions made has stamps past the clock, no entry of theirs stands before it
pub before_sessions :
    (count clock n : ℕ) (run : Kept) → ((w : ℕ) → (w ≡ 0) ⊎ (count < w) → session_entries (own w (entries run)) ≡ []) → ((k : ℕ) → k < count → AllByRecursion (λ e. clock < (e.1).stamp) (session_entries (own (suc k) (entries run))))
    → DrainedBy clock n run → WasDrained n run
before_sessions count clock n run others later d = record {
  front = d.front;
  behind = d.behind;
  journal_is = d.journal_is;
  state = d.state;
  runs = d.runs;
  settled = d.settled;
  no_session = none_of_sessions d.front never;
}
  where
    h : History
    h = entries run

    none : (w : ℕ) (x : ℕ × Entry) → Among x (session_entries (own w h)) → session_entries (own w h) ≡ [] → ⊥
    none w x m is = subst (Among x) is m

    past : (k : ℕ) (x : ℕ × Entry) → (x.1).stamp ≤ clock → Among x (session_entries (own (suc k) h)) → AllByRecursion (λ e. clock < (e.1).stamp) (session_entries (own (suc k) h)) → ⊥
    past k x low m all = let l = among_all (λ e. clock < (e.1).stamp) x (session_entries (own (suc k) h)) all m in absurd (omega arith)

    at : (w : ℕ) (x : ℕ × Entry) → (x.1).stamp ≤ clock → Among x (session_entries (own w h)) → ⊥
    at zero x low m = none 0 x m (others 0 (inl refl))
    at (suc k) x low m = by (nat_lt k count) refl
      where
        by : (b : Bool) → nat_lt k count ≡ b → ⊥
        by true is = past k x low m (later k (ltb-true k count is))
        by false is = none (suc k) x m (others (suc k) (inr (let l = ltb-false k count is in omega arith)))

    never : (e : Entry) → Among e d.front → is_of_session e.event ≡ true → ⊥
    never e m of =
        let x : ℕ × Entry = (n, e) in
        let there = from_journal n e h (subst (Among e) (sym d.journal_is) (among_left e d.front d.behind m)) in
        at e.walker x (among_all (λ f. f.stamp ≤ clock) e d.front d.early m) (in_session x (own e.walker h) of (in_own x h there))
