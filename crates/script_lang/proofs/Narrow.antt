-- A workload is a script within bounds.
use Rattle.std.proofs.Common.{◌≡◌, ◌≢◌, refl, sym, ap, subst, ℕ, zero, suc, ◌+◌, ◌≤◌, ◌^◌, Bool, true, false, not, ◌&&◌, ◌==◌, eqb-true, List, [], ◌∷◌, length, arith}
use Rattle.std.specs.List.{list_all}
use Rattle.std.proofs.lemmas.Bool.{lt-ltb}
use Rattle.clv_base.specs.declared.values.Value.TheVariants.{Num}
use Rattle.clv_base.specs.declared.ops.Op.TheVariants.{Put}
use Rattle.script_lang.specs.declared.actions.Action.TheVariants.{Do}
use Rattle.script_lang.specs.declared.actions.Ending.TheVariants.{Commit}
use Rattle.script_lang.specs.Bodies.{Body}
use Rattle.script_lang.specs.Grammar.{body}
use Rattle.script_lang.specs.Laws.{is_word, is_narrow, is_narrow_body}
use Rattle.script_lang.specs.Loads.{next_state, first_state, transfer, transfers, fill, after_filling, session, sessions_from}
use Rattle.script_lang.specs.WorkloadLaws.{LoadsHaveTheirSessions, LoadsAreNarrow}
use Rattle.script_lang.proofs.Bounds.{keep_to_accounts}
use Rattle.law_base.proofs.Bools.{and_true as both}

word : (n : ℕ) → n ≤ 10000 → is_word n ≡ true
word n h = lt-ltb n (2 ^ 64) (omega arith)

apart : (a b : ℕ) → a ≢ b → not (a == b) ≡ true
apart a b differ = at (a == b) refl
  where
    at : (x : Bool) → (a == b) ≡ x → not (a == b) ≡ true
    at true e = absurd (differ (eqb-true a b e))
    at false e = ap not e

fill_narrow : (k n : ℕ) → k + n ≤ 10000 → list_all is_narrow (fill k n) ≡ true
fill_narrow k zero h = refl
fill_narrow k (suc n) h = both (is_narrow (Do (Put k (Num 1000)))) (list_all is_narrow (fill (suc k) n)) (both (is_word k) (is_word 1000) (word k (omega arith)) (word 1000 (omega arith))) (fill_narrow (suc k) n (omega arith))

transfer_narrow : (accounts x : ℕ) → 2 ≤ accounts → accounts ≤ 10000 → is_narrow (transfer accounts x) ≡ true
transfer_narrow accounts x two few =
    let k = keep_to_accounts accounts x two in
    let from = k.0 in let to = k.1 in let amount = k.2 in
    let low = k.4 in let low' = k.5 in let small = k.8 in
    subst (λ a. is_narrow a ≡ true) (sym k.3)
    (both (is_word from && is_word to) (is_word amount && not (from == to)) (both (is_word from) (is_word to) (word from (omega arith)) (word to (omega arith)))
    (both (is_word amount) (not (from == to)) (word amount (omega arith)) (apart from to k.6)))

transfers_narrow : (accounts x n : ℕ) → 2 ≤ accounts → accounts ≤ 10000 → list_all is_narrow_body (transfers accounts x n) ≡ true
transfers_narrow accounts x zero two few = refl
transfers_narrow accounts x (suc n) two few =
    both (is_narrow_body (body (transfer accounts x ∷ []) Commit)) (list_all is_narrow_body (transfers accounts (next_state (next_state (next_state x))) n))
    (both (is_narrow (transfer accounts x)) true (transfer_narrow accounts x two few) refl) (transfers_narrow accounts (next_state (next_state (next_state x))) n two few)

filled_narrow : (first : Bool) (accounts : ℕ) (bodies : List Body) → accounts ≤ 10000 → list_all is_narrow_body bodies ≡ true → list_all is_narrow_body (after_filling first accounts bodies) ≡ true
filled_narrow true accounts bodies few h = both (is_narrow_body (body (fill 0 accounts) Commit)) (list_all is_narrow_body bodies) (fill_narrow 0 accounts (omega arith)) h
filled_narrow false accounts bodies few h = h

sessions_narrow : (seed accounts count number n : ℕ) → 2 ≤ accounts → accounts ≤ 10000 → list_all (list_all is_narrow_body) (sessions_from seed accounts count number n) ≡ true
sessions_narrow seed accounts count number zero two few = refl
sessions_narrow seed accounts count number (suc n) two few =
    both (list_all is_narrow_body (session seed accounts count number)) (list_all (list_all is_narrow_body) (sessions_from seed accounts count (suc number) n))
    (filled_narrow (number == 1) accounts (transfers accounts (first_state seed number) count) few (transfers_narrow accounts (first_state seed number) count two few))
    (sessions_narrow seed accounts count (suc number) n two few)

pub loads_are_narrow : LoadsAreNarrow
loads_are_narrow seed sessions accounts transfers two few = sessions_narrow seed accounts transfers 1 sessions two few

so_many : (seed accounts count number n : ℕ) → length (sessions_from seed accounts count number n) ≡ n
so_many seed accounts count number zero = refl
so_many seed accounts count number (suc n) = ap suc (so_many seed accounts count (suc number) n)

pub loads_have_their_sessions : LoadsHaveTheirSessions
loads_have_their_sessions seed sessions accounts transfers = so_many seed accounts transfers 1 sessions
