-- COMMITs that are noted one after another.
use Rattle.std.proofs.Common.{◌≡◌, ◌∙◌, ◌≤◌, ◌<◌, ◌+◌, ℕ, suc, Bool, true, false, cond, List, ◌∷◌, length, drop, get_or, Option, Some, None, if◌then◌else◌, ap, sym, subst, refl, arith}
use Rattle.std.proofs.lemmas.List.{drop_more}
use Rattle.std.specs.List.{filter}
use Rattle.clv_base.specs.declared.names.TxId.{TxId}
use Rattle.clv_base.specs.declared.logs.LogRecord.{LogRecord}
use Rattle.clv_base.specs.Logs.{is_commit_of, place_from}
use Rattle.shard_restoring.specs.Opened.{first_of, place_if, is_commit, commits_in}

-- what is left of a log begins with the record at its place
pub left_at : (log : List LogRecord) (n : ℕ) (d r : LogRecord) → n < length log → r ≡ get_or log n d → drop n log ≡ r ∷ drop (n + 1) log
left_at log n d r l e = drop_more log n d l ∙ ap (λ x. x ∷ drop (n + 1) log) (sym e)

first_of_both : (x y : Option ℕ) (b : Bool) (n : ℕ) → first_of (first_of x (place_if b n)) y ≡ first_of x (cond b (Some n) y)
first_of_both (Some a) y b n = refl
first_of_both None y true n = refl
first_of_both None y false n = refl

-- the place of a COMMIT is what was noted, else what is left to be found
pub noted : (t : TxId) (r : LogRecord) (n next : ℕ) (rs : List LogRecord) (old new at : Option ℕ) → suc n ≡ next → first_of old (place_from n (is_commit_of t) (r ∷ rs)) ≡ at → new ≡ first_of old (place_if (is_commit_of t r) n) → first_of new (place_from next (is_commit_of t) rs) ≡ at
noted t r n next rs old new at is before e =
    subst (λ k. first_of new (place_from k (is_commit_of t) rs) ≡ at) is
    (ap (λ x. first_of x (place_from (suc n) (is_commit_of t) rs)) e ∙ (first_of_both old (place_from (suc n) (is_commit_of t) rs) (is_commit_of t r) n ∙ before))

one_less : (b : Bool) (r : LogRecord) (rs : List LogRecord) (old new : ℕ) → length (cond b (r ∷ rs) rs) ≤ old → old ≤ new + (if b then 1 else 0) → length rs ≤ new
one_less true r rs old new l m = omega (arith, l, m)
one_less false r rs old new l m = omega (arith, l, m)

-- there is room for the COMMITs that are left
pub room_left : (r : LogRecord) (rs : List LogRecord) (old new : ℕ) → commits_in (r ∷ rs) ≤ old → old ≤ new + (if is_commit r then 1 else 0) → commits_in rs ≤ new
room_left r rs old new l m = one_less (is_commit r) r (filter is_commit rs) old new l m
