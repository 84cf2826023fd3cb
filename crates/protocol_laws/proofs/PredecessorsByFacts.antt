-- The durable predecessors, by their number and their greatest COMMIT, are all durable.
use Rattle.std.proofs.Common.{◌≡◌, refl, sym, ap, ◌∙◌, ℕ, suc, max, true, false, cond, Bool, List, [], ◌∷◌, length, Option, Some, None, is_some, not, ◌&&◌, ◌||◌, ◌==◌, nat_lt, arith, eqb-true}
use Rattle.std.specs.List.{filter, list_any, list_all}
use Rattle.std.proofs.lemmas.Bool.{both_ways, ltb-true, ltb-false, lt-ltb, le-ltb}
use Rattle.clv_base.specs.declared.names.TxId.{TxId}
use Rattle.clv_base.specs.declared.logs.LogRecord.{LogRecord}
use Rattle.clv_base.specs.Logs.{is_commit_of, committed_in, commit_lsn, place_from, is_below}
use Rattle.clv_base.specs.Facts.{greater_place, greatest_commit, due_by, is_due_at, predecessors_of, facts_of, has_durable_predecessors}
use Rattle.clv_base.specs.State.{Shard}
use Rattle.law_base.proofs.Tables.{is_pair, pair_in}
use Rattle.law_base.proofs.Commits.{commit_durable}
use Rattle.law_base.proofs.Sets.{list_all_at}
use Rattle.protocol_laws.specs.FactLaws.{PredecessorsByFacts}

-- a COMMIT that is there has a place
there_step : (n : ℕ) (b rest : Bool) (o : Option ℕ) → rest ≡ is_some o → (b || rest) ≡ is_some (cond b (Some n) o)
there_step n true rest o e = refl
there_step n false rest o e = e

there : (log : List LogRecord) (p : TxId) (n : ℕ) → list_any (is_commit_of p) log ≡ is_some (place_from n (is_commit_of p) log)
there [] p n = refl
there (r ∷ rs) p n = there_step n (is_commit_of p r) (list_any (is_commit_of p) rs) (place_from (suc n) (is_commit_of p) rs) (there rs p (suc n))

lt_max_by : (a b n : ℕ) (x y : Bool) → nat_lt a n ≡ x → nat_lt b n ≡ y → nat_lt (max a b) n ≡ (x && y)
lt_max_by a b n true true e f =
    let p = ltb-true a n e in
    let q = ltb-true b n f in
    lt-ltb (max a b) n (grind (arith, p, q))
lt_max_by a b n true false e f =
    let q = ltb-false b n f in
    le-ltb (max a b) n (grind (arith, q))
lt_max_by a b n false y e f =
    let p = ltb-false a n e in
    le-ltb (max a b) n (grind (arith, p))

lt_max : (a b n : ℕ) → nat_lt (max a b) n ≡ (nat_lt a n && nat_lt b n)
lt_max a b n = lt_max_by a b n (nat_lt a n) (nat_lt b n) refl refl

not_none : (n : ℕ) (b : Bool) → (suc n == 0) ≡ b → b ≡ false
not_none n true e = let q : suc n ≡ 0 = eqb-true (suc n) 0 e in absurd (omega (arith, q))
not_none n false e = refl

-- what the facts say of these undecided ones and this greatest place
by_facts : ℕ → List TxId → Option ℕ → Bool
by_facts n us g = (length us == 0) && is_due_at (due_by us g) n

by_some : (n : ℕ) (u : TxId) (us : List TxId) (g : Option ℕ) → by_facts n (u ∷ us) g ≡ false
unfolding by_facts
by_some n u us g = ap (λ b. b && true) (not_none (length us) (length (u ∷ us) == 0) refl)

and_no : (x : Bool) → false ≡ (x && false)
and_no true = refl
and_no false = refl

and_yes : (x : Bool) → x ≡ (x && true)
and_yes true = refl
and_yes false = refl

greater : (n a : ℕ) (us : List TxId) (g : Option ℕ) (rest : Bool) → by_facts n us g ≡ rest → by_facts n us (greater_place (Some a) g) ≡ (nat_lt a n && rest)
unfolding by_facts
greater n a (u ∷ us) g rest h =
    by_some n u us (greater_place (Some a) g) ∙ and_no (nat_lt a n) ∙ ap (λ r. nat_lt a n && r) (sym (by_some n u us g) ∙ h)
greater n a [] None rest h = and_yes (nat_lt a n) ∙ ap (λ r. nat_lt a n && r) h
greater n a [] (Some b) rest h = lt_max a b n ∙ ap (λ r. nat_lt a n && r) h

step : (n : ℕ) (p : TxId) (us : List TxId) (g : Option ℕ) (rest b : Bool) (c : Option ℕ) → b ≡ is_some c → by_facts n us g ≡ rest
    → by_facts n (cond (not b) (p ∷ us) us) (greater_place c g) ≡ (is_below c n && rest)
step n p us g rest true None e h = absurd (both_ways true (e) refl)
step n p us g rest false None e h = by_some n p us g
step n p us g rest true (Some a) e h = greater n a us g rest h
step n p us g rest false (Some a) e h = absurd (both_ways false refl e)

all : (log : List LogRecord) (n : ℕ) (ps : List TxId) → by_facts n (filter (λ p. not (committed_in log p)) ps) (greatest_commit log ps) ≡ list_all (λ p. is_below (commit_lsn log p) n) ps
unfolding by_facts
all log n [] = refl
all log n (p ∷ ps) =
    step n p (filter (λ q. not (committed_in log q)) ps) (greatest_commit log ps) (list_all (λ q. is_below (commit_lsn log q) n) ps)
    (committed_in log p) (commit_lsn log p) (there log p 0) (all log n ps)

pub predecessors_by_facts : PredecessorsByFacts
unfolding by_facts
predecessors_by_facts l durable tx = all l.log durable (predecessors_of l.pairs tx)

-- all predecessors are durable by the facts
pub durable_before : (s : Shard) (tx : TxId) → has_durable_predecessors (facts_of s tx) ≡ true → (p : TxId) → is_pair s.local.pairs tx p ≡ true → commit_durable s.local.log s.durable p ≡ true
durable_before s tx d p i =
    list_all_at (λ q. commit_durable s.local.log s.durable q) p (predecessors_of s.local.pairs tx) (sym (predecessors_by_facts s.local s.durable tx) ∙ d) (pair_in s.local.pairs tx p i)
