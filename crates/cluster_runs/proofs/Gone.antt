-- How the sessions of a script went, all together.
use Rattle.std.proofs.Common.{◌≡◌, refl, ◌∙◌, sym, ap, subst, arith, ℕ, zero, suc, ◌+◌, ◌<◌, List, [], ◌∷◌, length, get_or, set, Option, Some, None, Ok, Err, IfErr}
use Rattle.std.specs.List.{AllByRecursion}
use Rattle.std.proofs.lemmas.Option.{slice_get_within}
use Rattle.cluster_turns.specs.declared.shards.Shards.{Shards}
use Rattle.cluster_turns.specs.declared.shards.Walker.{Walker}
use Rattle.cluster_turns.specs.Walkers.{kept}
use Rattle.cluster_opening.specs.Made.{IsNewWalker}
use Rattle.script_lang.specs.Bodies.{Body}
use Rattle.script_runs.specs.declared.ends.StopCause.{StopCause}
use Rattle.script_runs.specs.Sessions.{session_entries}
use Rattle.command_line.specs.Running.{End, IsOk}
use Rattle.session_api.specs.Standing.{IsAtRest}
use Rattle.session_api.specs.Grounds.{Grounds}
use Rattle.session_api.proofs.Laws.{new_walkers_rest, new_walkers_keep_none}
use Rattle.cluster_runs.specs.PromisedSessions.{Went, NotBegun, Begun, SessionWent}
use Rattle.cluster_runs.specs.Drained.{WasSettled, AreDrained}
use Rattle.cluster_runs.specs.Sessions.{HasSat, base_from, HasGrounds, SessionsGone, went_to, went_by}
use Rattle.law_base.proofs.Lists.{some_at as at_slice}

fine_went : (end : End) → IsOk end → went_to (Some end) ≡ Begun None
fine_went (Ok u) ok = refl
fine_went (Err cause) ok = absurd ok

stopped : {M S G : Type 0} (w : Walker M S G) (end : End) → IfErr end (Grounds w) → HasGrounds (went_to (Some end)) w
stopped w (Ok u) grounds = tt
stopped w (Err cause) grounds = grounds

module _ {M S G : Type 0} (sh : Shards M S G) (most : Option ℕ) (script : List (List Body)) where
  pub gone : (clock base : ℕ) (walkers : List (Walker M S G)) (ends : List End) (end : End) → length ends ≡ length script
      → ((k : ℕ) (d : Walker M S G) (e : End) → k < length script → HasSat sh clock (base_from clock base k) most script k (get_or walkers (suc k) d) (get_or ends k e)) → (IsOk end → (k : ℕ) (e : End) → k < length script → IsOk (get_or ends k e))
      → SessionsGone sh most script walkers (went_by ends) end
  gone clock base walkers ends end many sat fine = record {
    each = λ k bodies d at. (let low = slice_get_within script k bodies at in let e : End = Ok tt in
        subst (λ x. SessionWent sh.splits sh.run (suc k) most bodies (went_to x) (kept (get_or walkers (suc k) d).passes.items)) (sym (at_slice ends k e (omega arith))) ((sat k d e low).went bodies at));
    grounds = λ k d low. (let e : End = Ok tt in
        subst (λ x. HasGrounds (went_to x) (get_or walkers (suc k) d)) (sym (at_slice ends k e (omega arith))) (stopped (get_or walkers (suc k) d) (get_or ends k e) (sat k d e low).grounds));
    fine = λ ok k low. (let e : End = Ok tt in ap went_to (at_slice ends k e (omega arith)) ∙ fine_went (get_or ends k e) (fine ok k e low));
  }

  -- none was begun
  pub none_gone : (walkers : List (Walker M S G)) (cause : StopCause) → ((k : ℕ) (d : Walker M S G) → k < length script → IsNewWalker sh (suc k) 0 (get_or walkers (suc k) d))
      → SessionsGone sh most script walkers (λ k. NotBegun) (Err cause)
  none_gone walkers cause new = record {
    each = λ k bodies d at. ap session_entries (new_walkers_keep_none _ _ _ sh (suc k) 0 (get_or walkers (suc k) d) (new k d (slice_get_within script k bodies at)));
    grounds = λ k d low. tt;
    fine = λ ok. absurd ok;
  }

  pub new_rest : (number : ℕ) (w : Walker M S G) → IsNewWalker sh number 0 w → IsAtRest sh number w
  new_rest number w new = new_walkers_rest _ _ _ sh number 0 w new

  pub behind : (walkers : List (Walker M S G)) (w d : Walker M S G) (k : ℕ) → get_or (set walkers 0 w) (suc k) d ≡ get_or walkers (suc k) d
  behind [] w d k = refl
  behind (x ∷ xs) w d k = refl

  -- walker 0 has gone on
  pub all_rest : (walkers : List (Walker M S G)) (w : Walker M S G) → length walkers ≡ length script + 1 → IsAtRest sh 0 w → ((k : ℕ) (d : Walker M S G) → k < length script → IsAtRest sh (suc k) (get_or walkers (suc k) d))
      → (k : ℕ) (d : Walker M S G) → k < length script + 1 → IsAtRest sh k (get_or (set walkers 0 w) k d)
  all_rest [] w many rest others k d low = absurd (omega arith)
  all_rest (x ∷ xs) w many rest others zero d low = rest
  all_rest (x ∷ xs) w many rest others (suc k) d low = others k d (omega arith)

  -- each of them, walker 0 this one
  pub each_rest : (walkers : List (Walker M S G)) (w : Walker M S G) → length walkers ≡ length script + 1 → ((d : Walker M S G) → get_or walkers 0 d ≡ w) → IsAtRest sh 0 w → ((k : ℕ) (d : Walker M S G) → k < length script → IsAtRest sh (suc k) (get_or walkers (suc k) d))
      → (k : ℕ) (d : Walker M S G) → k < length walkers → IsAtRest sh k (get_or walkers k d)
  each_rest walkers w many same rest others zero d low = subst (IsAtRest sh 0) (sym (same d)) rest
  each_rest walkers w many same rest others (suc k) d low = others k d (omega arith)

  pub goes_on : (walkers : List (Walker M S G)) (w : Walker M S G) (went : ℕ → Went) (end last : End) → (IsOk last → IsOk end) → SessionsGone sh most script walkers went end → SessionsGone sh most script (set walkers 0 w) went last
  goes_on walkers w went end last ok gone = record {
    each = λ k bodies d at. subst (λ v. SessionWent sh.splits sh.run (suc k) most bodies (went k) (kept v.passes.items)) (sym (behind walkers w d k)) (gone.each k bodies d at);
    grounds = λ k d low. subst (λ v. HasGrounds (went k) v) (sym (behind walkers w d k)) (gone.grounds k d low);
    fine = λ is. gone.fine (ok is);
  }

  -- ---- drained shards

  -- where none was begun
  pub none_drained : (walkers : List (Walker M S G)) (w : Walker M S G) → ((k : ℕ) (d : Walker M S G) → k < length script → IsNewWalker sh (suc k) 0 (get_or walkers (suc k) d)) → AreDrained sh (length script) (set walkers 0 w) (λ k. NotBegun)
  none_drained walkers w new = record {
    clock = 0;
    settled = λ k cause l is. none_begun cause is;
    later = λ k d l.
        subst (λ v. AllByRecursion (λ e. 0 < (e.1).stamp) (session_entries (kept v.passes.items))) (sym (behind walkers w d k))
        (subst (λ es. AllByRecursion (λ e. 0 < (e.1).stamp) (session_entries es)) (sym (new_walkers_keep_none _ _ _ sh (suc k) 0 (get_or walkers (suc k) d) (new k d l))) tt);
  }
    where
      none_begun : {X : Type 0} (cause : Option StopCause) → NotBegun ≡ Begun cause → X
      none_begun cause is = absurd cc

  pub here_first : (walkers : List (Walker M S G)) (w d : Walker M S G) → length walkers ≡ length script + 1 → get_or (set walkers 0 w) 0 d ≡ w
  here_first [] w d many = absurd (omega arith)
  here_first (x ∷ xs) w d many = refl

  -- between the drains of walker 0, which was v and is w
  pub all_drained : (clock : ℕ) (went : ℕ → Went) (walkers : List (Walker M S G)) (v w : Walker M S G) → length walkers ≡ length script + 1 → ((n : ℕ) → n < length sh.locks.items → WasSettled n clock v.passes.items)
      → ((n : ℕ) → WasSettled n clock v.passes.items → WasSettled n clock w.passes.items)
      → ((k : ℕ) (d : Walker M S G) → k < length script → AllByRecursion (λ e. clock < (e.1).stamp) (session_entries (kept (get_or walkers (suc k) d).passes.items))) → AreDrained sh (length script) (set walkers 0 w) went
  all_drained clock went walkers v w many seen stays later = record {
    clock = clock;
    settled = λ k cause l is n d low. subst (λ z. WasSettled n clock z.passes.items) (sym (here_first walkers w d many)) (stays n (seen n low));
    later = λ k d l. subst (λ z. AllByRecursion (λ e. clock < (e.1).stamp) (session_entries (kept z.passes.items))) (sym (behind walkers w d k)) (later k d l);
  }
