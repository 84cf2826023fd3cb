-- Reading and writing values one after the other, as a loop does.
use Rattle.std.proofs.Common.{◌≡◌, ℕ, suc, ◌-◌, ◌+◌, ◌*◌, ◌≤◌, ◌<◌, List, [], ◌∷◌, ◌++◌, length, take, vec_len, vec_capacity, Option, Some, None, refl, sym, ap, ◌∙◌, append_assoc, arith}
use Rattle.std.specs.Global.{Vec}
use Rattle.std.specs.List.{flat_map}
use Rattle.std.proofs.lemmas.List.{append-nil}
use Rattle.log_records.specs.declared.error.DecodeError.{DecodeError}
use Rattle.log_records.specs.declared.error.DecodeError.TheVariants as errors
use Rattle.log_records.specs.Reading.{◌>>=◌, Fails, each_at}
use Rattle.log_records.specs.Spelling.{number}

-- what was read before, and what is still read
abbrev pub with_front : {X : Type 0} → List X → Option (List X × List ℕ) → Option (List X × List ℕ)
with_front front read = read >>= λ x. Some (front ++ x.0, x.1)

module _ {X : Type 0} (one : List ℕ → Option (X × List ℕ)) where
  regroup : (front : List X) (n : X) (read : Option (List X × List ℕ)) → with_front front (read >>= λ x. Some (n ∷ x.0, x.1)) ≡ with_front (front ++ n ∷ []) read
  regroup front n (Some x) = ap (λ (ns : List X). Some (ns, x.1)) (simp append_assoc)
  regroup front n None = refl

  pub starts : (read : Option (List X × List ℕ)) → with_front [] read ≡ read
  starts (Some x) = refl
  starts None = refl

  pub goes_on : (front : List X) (count i : ℕ) (bytes : List ℕ) (n : X) (after : List ℕ) (total : Option (List X × List ℕ)) → i < count → one bytes ≡ Some (n, after)
      → with_front front (each_at one (count - i) bytes) ≡ total → with_front (front ++ n ∷ []) (each_at one (count - (i + 1)) after) ≡ total
  unfolding each_at
  goes_on front count i bytes n after total lt h so_far =
      let k : count - i ≡ suc (count - (i + 1)) = omega arith in
      let left : with_front front (each_at one (count - i) bytes) ≡ with_front (front ++ n ∷ []) (each_at one (count - (i + 1)) after) = rw (k, h) (regroup front n (each_at one (count - (i + 1)) after)) in
      sym left ∙ so_far

  pub ends : (e : DecodeError) (front : List X) (count i : ℕ) (bytes : List ℕ) (total : Option (List X × List ℕ)) → i < count → Fails e (one bytes)
      → with_front front (each_at one (count - i) bytes) ≡ total → Fails e total
  unfolding each_at
  ends errors.Memory front count i bytes total lt h so_far = tt
  ends errors.Bad front count i bytes total lt h so_far =
      let k : count - i ≡ suc (count - (i + 1)) = omega arith in
      let left : with_front front (each_at one (count - i) bytes) ≡ None = rw (k, h) refl in
      sym so_far ∙ left

  pub is_done : (front : List X) (count i : ℕ) (bytes : List ℕ) (total : Option (List X × List ℕ)) → count ≤ i → with_front front (each_at one (count - i) bytes) ≡ total → total ≡ Some (front, bytes)
  unfolding each_at
  is_done front count i bytes total le so_far =
      let k : count - i ≡ 0 = omega arith in
      let left : with_front front (each_at one (count - i) bytes) ≡ Some (front, bytes) = rw k (ap (λ (ns : List X). Some (ns, bytes)) (append-nil front)) in
      sym so_far ∙ left

-- the count and the first i of a list were put behind what was there, each in so many bytes
pub record Puts {X : Type 0} (one : X → List ℕ) (size i : ℕ) (xs : List X) (old new : Vec ℕ) : Type 0 where
  pub items : new.items ≡ old.items ++ (number 4 (length xs) ++ flat_map one (take i xs))
  pub len : vec_len new ≡ vec_len old + (4 + size * i)
  pub room : vec_capacity old ≤ vec_capacity new
