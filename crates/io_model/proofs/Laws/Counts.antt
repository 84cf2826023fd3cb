-- The sum of two counts of faults.
use Rattle.std.proofs.Common.{◌≡◌, ℕ, zero, suc, ◌+◌, ◌≤◌, Result, Ok, Err, ap, ◌∙◌, arith}
use Rattle.io_model.specs.Disk.{Rose, HasCause, Adds}

pub rose_first : (a now b : ℕ) → Rose a now → Rose (a + b) (now + b)
rose_first a now b rose = omega (arith, rose)

pub rose_second : (a b now : ℕ) → Rose b now → Rose (a + b) (a + now)
rose_second a b now rose = omega (arith, rose)

pub cause_first : {A E : Type 0} (a now b : ℕ) (r : Result A E) → HasCause a now r → HasCause (a + b) (now + b) r
cause_first a now b (Ok x) h = record { later = omega (arith, h.later); failed = tt; fine = ap (λ (n : ℕ). n + b) h.fine }
cause_first a now b (Err e) h = record { later = omega (arith, h.later); failed = rose_first a now b h.failed; fine = tt }

pub cause_second : {A E : Type 0} (a b now : ℕ) (r : Result A E) → HasCause b now r → HasCause (a + b) (a + now) r
cause_second a b now (Ok x) h = record { later = omega (arith, h.later); failed = tt; fine = ap (λ (n : ℕ). a + n) h.fine }
cause_second a b now (Err e) h = record { later = omega (arith, h.later); failed = rose_second a b now h.failed; fine = tt }

-- one count is added, and then another
pub adds_both : (before a mid b now : ℕ) → Adds before a mid → Adds mid b now → Adds before (a + b) now
adds_both before a mid b now first second = record {
  none = λ none.
      let no_a : a ≡ 0 = omega (arith, none) in
      let no_b : b ≡ 0 = omega (arith, none) in
      second.none no_b ∙ first.none no_a;
  some = λ some. by a b some first second;
  later = omega (arith, first.later, second.later);
}
  where
    by : (a b : ℕ) → 1 ≤ a + b → Adds before a mid → Adds mid b now → Rose before now
    by zero b some first second = let same : mid ≡ before = first.none (omega arith) in let rose = second.some (omega arith) in omega (arith, same, rose)
    by (suc a) b some first second = let rose = first.some (omega arith) in omega (arith, rose, second.later)
