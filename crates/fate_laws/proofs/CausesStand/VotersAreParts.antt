-- Votes that a home has taken: each is found under its shard, which is another part of the request.
use Rattle.std.proofs.Common.{◌≡◌, refl, sym, ap, subst, ◌∙◌, ℕ, true, false, cond, List, [], ◌∷◌, Option, Some, None, ◌==◌, eqb-true}
use Rattle.std.specs.List.{AllByRecursion, list_all}
use Rattle.std.specs.BTreeMap.{insert_entry}
use Rattle.std.specs.Ordering.{nat_cmp, match_ordering, is_eq}
use Rattle.std.specs.declared.cmp.Ordering.{Ordering}
use Rattle.std.specs.declared.cmp.Ordering.TheVariants.{Less, Equal, Greater}
use Rattle.std.proofs.lemmas.Bool.{both_ways, cond-true, cond-false, eq-eqb, false_from_ne_true}
use Rattle.clv_base.specs.declared.causes.NoWhy.{NoWhy}
use Rattle.clv_base.specs.declared.causes.AbortCause.{AbortCause}
use Rattle.clv_base.specs.declared.causes.AbortCause.TheVariants.{NoVote}
use Rattle.clv_base.specs.declared.causes.Vote.{Vote}
use Rattle.clv_base.specs.declared.causes.Vote.TheVariants.{Yes, Read, No}
use Rattle.clv_base.specs.Orders.{nat_in}
use Rattle.clv_base.specs.Coordinator.{vote_from, is_good, first_no}
use Rattle.clv_base.proofs.SameNames.{nat_cmp_true}
use Rattle.law_base.proofs.Changed.{some_same, none_some}
use Rattle.law_base.proofs.Lists.{all_mono, good_at}

-- a vote that is found in these votes, of one of these shards, and of which T holds where it is a no
abbrev pub VoteFits : List ℕ → (ℕ → NoWhy → Type 0) → List (ℕ × Vote) → ℕ × Vote → Type 0
VoteFits ps T vs v = (vote_from v.0 vs ≡ Some v.1) × (nat_in v.0 ps ≡ true) × ((why : NoWhy) → v.1 ≡ No why → T v.0 why)

abbrev pub VotesFit : List ℕ → (ℕ → NoWhy → Type 0) → List (ℕ × Vote) → Type 0
VotesFit ps T vs = AllByRecursion (VoteFits ps T vs) vs

-- ---- one vote more

put_found : (vs : List (ℕ × Vote)) (p : ℕ) (v : Vote) → vote_from p vs ≡ None → vote_from p (insert_entry nat_cmp vs p v) ≡ Some v
put_found [] p v e = cond-true (p == p) (Some v) None (eq-eqb p p refl)
put_found (r ∷ rs) p v e = at (nat_cmp p r.0) refl (put_found rs p v)
  where
    apart : (p == r.0) ≡ true → ⊥
    apart q = none_some r.1 (sym e ∙ cond-true (p == r.0) (Some r.1) (vote_from p rs) q)

    rest : vote_from p rs ≡ None
    rest = sym (cond-false (p == r.0) (Some r.1) (vote_from p rs) (false_from_ne_true (p == r.0) apart)) ∙ e

    at : (o : Ordering) → nat_cmp p r.0 ≡ o → (vote_from p rs ≡ None → vote_from p (insert_entry nat_cmp rs p v) ≡ Some v) → vote_from p (match_ordering o ((p, v) ∷ r ∷ rs) ((r.0, v) ∷ rs) (r ∷ insert_entry nat_cmp rs p v)) ≡ Some v
    at Less q k = cond-true (p == p) (Some v) _ (eq-eqb p p refl)
    at Equal q k = absurd (apart (eq-eqb p r.0 (nat_cmp_true p r.0 (ap is_eq q))))
    at Greater q k = cond-false (p == r.0) (Some r.1) _ (false_from_ne_true (p == r.0) apart) ∙ k rest

put_other : (vs : List (ℕ × Vote)) (p n : ℕ) (v : Vote) → (n == p) ≡ false → vote_from n (insert_entry nat_cmp vs p v) ≡ vote_from n vs
put_other [] p n v e = cond-false (n == p) (Some v) None e
put_other (r ∷ rs) p n v e = at (nat_cmp p r.0) refl (put_other rs p n v e)
  where
    at : (o : Ordering) → nat_cmp p r.0 ≡ o → vote_from n (insert_entry nat_cmp rs p v) ≡ vote_from n rs
        → vote_from n (match_ordering o ((p, v) ∷ r ∷ rs) ((r.0, v) ∷ rs) (r ∷ insert_entry nat_cmp rs p v)) ≡ cond (n == r.0) (Some r.1) (vote_from n rs)
    at Less q k = cond-false (n == p) (Some v) _ e
    at Equal q k =
        let s : (n == r.0) ≡ false = subst (λ z. (n == z) ≡ false) (nat_cmp_true p r.0 (ap is_eq q)) e in cond-false (n == r.0) (Some v) (vote_from n rs) s ∙ sym (cond-false (n == r.0) (Some r.1) (vote_from n rs) s)
    at Greater q k = ap (cond (n == r.0) (Some r.1)) k

-- old votes fit among one more
old_fits : (ps : List ℕ) (T : ℕ → NoWhy → Type 0) (vs : List (ℕ × Vote)) (p : ℕ) (v : Vote) (r : ℕ × Vote) → vote_from p vs ≡ None → VoteFits ps T vs r → VoteFits ps T (insert_entry nat_cmp vs p v) r
old_fits ps T vs p v r e f = (put_other vs p r.0 v (false_from_ne_true (r.0 == p) (λ q. none_some r.1 (sym (subst (λ z. vote_from z vs ≡ None) (sym (eqb-true r.0 p q)) e) ∙ f.0))) ∙ f.0, f.1, f.2)

insert_all : (P : ℕ × Vote → Type 0) (vs : List (ℕ × Vote)) (p : ℕ) (v : Vote) → P (p, v) → vote_from p vs ≡ None → AllByRecursion P vs → AllByRecursion P (insert_entry nat_cmp vs p v)
insert_all P [] p v k e a = (k, tt)
insert_all P (r ∷ rs) p v k e a = at (nat_cmp p r.0) refl (insert_all P rs p v k)
  where
    apart : (p == r.0) ≡ true → ⊥
    apart q = none_some r.1 (sym e ∙ cond-true (p == r.0) (Some r.1) (vote_from p rs) q)

    at : (o : Ordering) → nat_cmp p r.0 ≡ o → (vote_from p rs ≡ None → AllByRecursion P rs → AllByRecursion P (insert_entry nat_cmp rs p v)) → AllByRecursion P (match_ordering o ((p, v) ∷ r ∷ rs) ((r.0, v) ∷ rs) (r ∷ insert_entry nat_cmp rs p v))
    at Less q g = (k, (a.0, a.1))
    at Equal q g = absurd (apart (eq-eqb p r.0 (nat_cmp_true p r.0 (ap is_eq q))))
    at Greater q g = (a.0, g (sym (cond-false (p == r.0) (Some r.1) (vote_from p rs) (false_from_ne_true (p == r.0) apart)) ∙ e) a.1)

pub votes_more : (ps : List ℕ) (T : ℕ → NoWhy → Type 0) (vs : List (ℕ × Vote)) (p : ℕ) (v : Vote) → vote_from p vs ≡ None → nat_in p ps ≡ true → ((why : NoWhy) → v ≡ No why → T p why) → VotesFit ps T vs → VotesFit ps T (insert_entry nat_cmp vs p v)
votes_more ps T vs p v e i k a =
    insert_all (VoteFits ps T (insert_entry nat_cmp vs p v)) vs p v (put_found vs p v e, i, k) e (all_mono (VoteFits ps T vs) (VoteFits ps T (insert_entry nat_cmp vs p v)) (λ r f. old_fits ps T vs p v r e f) vs a)

pub votes_mono : (ps : List ℕ) (T U : ℕ → NoWhy → Type 0) (vs : List (ℕ × Vote)) → ((p : ℕ) (why : NoWhy) → T p why → U p why) → VotesFit ps T vs → VotesFit ps U vs
votes_mono ps T U vs k a = all_mono (VoteFits ps T vs) (VoteFits ps U vs) (λ r f. (f.0, f.1, (λ why e. k r.0 why (f.2 why e)))) vs a

-- ---- the first no

pub record ANo (vs all : List (ℕ × Vote)) (c : AbortCause) (ps : List ℕ) (T : ℕ → NoWhy → Type 0) : Type 0 where
  pub from : ℕ
  pub why : NoWhy
  pub cause : c ≡ NoVote from why
  pub found : vote_from from all ≡ Some (No why)
  pub other : nat_in from ps ≡ true
  pub holds : T from why

pub no_in : (ps : List ℕ) (T : ℕ → NoWhy → Type 0) (vs all : List (ℕ × Vote)) (c : AbortCause) → AllByRecursion (VoteFits ps T all) vs → first_no vs ≡ Some c → ANo vs all c ps T
no_in ps T [] all c a e = absurd (none_some c e)
no_in ps T (r ∷ rs) all c a e = at r.1 refl e (no_in ps T rs all c a.1)
  where
    later : ANo rs all c ps T → ANo (r ∷ rs) all c ps T
    later n = record { from = n.from; why = n.why; cause = n.cause; found = n.found; other = n.other; holds = n.holds }

    at : (v : Vote) → r.1 ≡ v → elim v [ Yes ↦ first_no rs | Read ↦ first_no rs | No why ↦ Some (NoVote r.0 why) ] ≡ Some c → (first_no rs ≡ Some c → ANo rs all c ps T) → ANo (r ∷ rs) all c ps T
    at Yes q f k = later (k f)
    at Read q f k = later (k f)
    at (No why) q f k = record { from = r.0; why = why; cause = sym (some_same (NoVote r.0 why) c f); found = (a.0).0 ∙ ap (λ z. Some z) q; other = (a.0).1; holds = (a.0).2 why q }

-- where all others' votes are good there is none
pub all_good : (ps : List ℕ) (T : ℕ → NoWhy → Type 0) (vs : List (ℕ × Vote)) → VotesFit ps T vs → list_all (λ p. is_good (vote_from p vs)) ps ≡ true → first_no vs ≡ None
all_good ps T vs a g = at (first_no vs) refl
  where
    at : (o : Option AbortCause) → first_no vs ≡ o → o ≡ None
    at None e = refl
    at (Some c) e = let n = no_in ps T vs vs c a e in absurd (both_ways false refl (subst (λ z. is_good z ≡ true) n.found (good_at vs ps n.from g n.other)))
