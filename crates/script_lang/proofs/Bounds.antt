-- A transfer keeps to the accounts.
use Rattle.std.proofs.Common.{◌≡◌, ◌≢◌, refl, ℕ, zero, suc, ◌⊎◌, inl, inr, ◌+◌, ◌-◌, ◌%◌, ◌<◌, ◌≤◌, arith, ap, ◌∙◌}
use Rattle.std.proofs.Math.Nat.{add-mod_right, mod-eq_of_lt}
use Rattle.script_lang.specs.declared.actions.Action.TheVariants.{Move}
use Rattle.script_lang.specs.Loads.{move_by}
use Rattle.script_lang.specs.WorkloadLaws.{TransfersKeepToAccounts}

le-or-lt : (a b : ℕ) → (a ≤ b) ⊎ (b < a)
le-or-lt zero b = inl (omega arith)
le-or-lt (suc a) zero = inr (omega arith)
le-or-lt (suc a) (suc b) = elim (le-or-lt a b) as (λ d. (suc a ≤ suc b) ⊎ (suc b < suc a)) [
  | inl h ↦ inl (omega arith)
  | inr h ↦ inr (omega arith)
]

mod_below : (n k : ℕ) → 0 < k → n % k < k
mod_below n k h = omega arith

mod_small : (n k : ℕ) → n < k → n % k ≡ n
mod_small n k h = mod-eq_of_lt h

-- past the end, the count begins anew
wraps : (from step accounts : ℕ) → from < accounts → step < accounts - 1 → accounts ≤ from + 1 + step → (from + 1 + step) % accounts ≡ from + 1 + step - accounts
wraps from step accounts low short past =
    let k = from + 1 + step - accounts in
    let e : from + 1 + step ≡ k + accounts = omega arith in
    ap (λ m. m % accounts) e ∙ add-mod_right k accounts ∙ mod_small k accounts (omega arith)

differ : (from step accounts : ℕ) → 2 ≤ accounts → from < accounts → step < accounts - 1 → from ≢ (from + 1 + step) % accounts
differ from step accounts two low short e =
    elim (le-or-lt accounts (from + 1 + step)) as (λ d. ⊥) [
      | inl past ↦ let w = wraps from step accounts low short past in let f : from ≡ from + 1 + step - accounts = e ∙ w in omega arith
      | inr under ↦ let s = mod_small (from + 1 + step) accounts under in let f : from ≡ from + 1 + step = e ∙ s in omega arith
    ]

moves_keep : (accounts one two three : ℕ) → 2 ≤ accounts
    → (from to amount : ℕ) × (move_by accounts one two three ≡ Move from to amount) × (from < accounts) × (to < accounts) × (from ≢ to) × (1 ≤ amount) × (amount ≤ 10)
moves_keep accounts one two three h =
    let from = one % accounts in
    let low : from < accounts = mod_below one accounts (omega arith) in
    let short : two % (accounts - 1) < accounts - 1 = mod_below two (accounts - 1) (omega arith) in
    let few : three % 10 < 10 = mod_below three 10 (omega arith) in (
      from,
      (from + 1 + two % (accounts - 1)) % accounts,
      three % 10 + 1,
      refl,
      low,
      mod_below _ accounts (omega arith),
      differ from (two % (accounts - 1)) accounts h low short,
      omega arith,
      omega arith,
    )

pub keep_to_accounts : TransfersKeepToAccounts
keep_to_accounts accounts x h = moves_keep accounts _ _ _ h
