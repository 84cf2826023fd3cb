-- What a filling and a transfer make of a map.
use Rattle.std.proofs.Common.{◌≡◌, ◌≢◌, refl, sym, ap, subst, ◌∙◌, ℕ, zero, suc, ◌+◌, ◌-◌, ◌*◌, ◌^◌, ◌<◌, ◌≤◌, nat_le, nat_lt, Bool, true, false, cond, ◌&&◌, List, [], ◌∷◌, drop, append-nil, Option, Some, None, arith}
use mathlib.Core.Logic.{dite}
use native.Mathlib.Decide.{ℕ_discrete}
use Rattle.std.proofs.lemmas.Bool.{ne_eqb, eq-eqb, and_parts}
use Rattle.std.proofs.lemmas.Bool.Decides.{nat_tests}
use Rattle.clv_base.specs.declared.values.Value.{Value as ValueType}
use Rattle.clv_base.specs.declared.values.Value.TheVariants.{Num, Bytes}
use Rattle.clv_base.specs.declared.ops.Op.TheVariants.{Put}
use Rattle.clv_base.specs.declared.ops.Answer.{Answer}
use Rattle.clv_base.specs.Maps.{KeyMap, map_get, map_set, ops_after, ops_answers}
use Rattle.clv_base.proofs.Folding.{get_set, get_other}
use Rattle.script_lang.specs.declared.actions.Action.TheVariants.{Move}
use Rattle.script_lang.specs.Following.{puts}
use Rattle.script_lang.proofs.Laws.{all_ops}
use Rattle.script_lang.specs.Loads.{fill}
use Rattle.workload_laws.proofs.Held.{worth, held, held_set, held_each, AreFilled}

-- each of the first n keys has a value, and in all they have n times 1000
pub record IsBalanced (n : ℕ) (m : KeyMap) : Type 0 where
  pub filled : AreFilled n m
  pub sum : held 0 n m ≡ 1000 * n

-- ---- a filling

-- of n keys from k: it leaves those below, and each of its own gets 1000
leaves_below : (k n : ℕ) (answers : List Answer) (m : KeyMap) (q : ℕ) → q < k → map_get q (ops_after (all_ops (fill k n) answers) m) ≡ map_get q m
leaves_below k zero answers m q l = refl
leaves_below k (suc n) answers m q l =
    leaves_below (suc k) n (drop 1 answers) (map_set k (Some (Num 1000)) m) q (omega arith) ∙ get_other q k (Some (Num 1000)) m (ne_eqb q k (λ e. omega arith))

pub fills : (k n : ℕ) (answers : List Answer) (m : KeyMap) (q : ℕ) → k ≤ q → q < k + n → map_get q (ops_after (all_ops (fill k n) answers) m) ≡ Some (Num 1000)
fills k zero answers m q low high = absurd (omega arith)
fills k (suc n) answers m q low high =
    dite (ℕ_discrete q k)
    (λ e. leaves_below (suc k) n (drop 1 answers) (map_set k (Some (Num 1000)) m) q (omega arith) ∙ get_set q k (Some (Num 1000)) m ∙ ap (λ b. cond b (Some (Num 1000)) (map_get q m)) (eq-eqb q k e))
    (λ apart. fills (suc k) n (drop 1 answers) (map_set k (Some (Num 1000)) m) q (omega (arith, apart)) (omega arith))

pub filled : (n : ℕ) (answers : List Answer) (m : KeyMap) → IsBalanced n (ops_after (all_ops (fill 0 n) answers) m)
filled n answers m =
    record {
      filled = λ q l. (1000, fills 0 n answers m q (omega arith) (omega arith));
      sum = held_each 0 n (ops_after (all_ops (fill 0 n) answers) m) (fills 0 n answers m);
    }

-- ---- a transfer

stays_filled : (n k v : ℕ) (m : KeyMap) → AreFilled n m → AreFilled n (map_set k (Some (Num v)) m)
stays_filled n k v m filled q l = dite (ℕ_discrete q k)
    (λ e. (v, get_set q k (Some (Num v)) m ∙ ap (λ b. cond b (Some (Num v)) (map_get q m)) (eq-eqb q k e)))
    (λ apart. ((filled q l).0, get_other q k (Some (Num v)) m (ne_eqb q k apart) ∙ (filled q l).1))

moved : (n from to amount a b : ℕ) (m : KeyMap) → from < n → to < n → from ≢ to → map_get from m ≡ Some (Num a) → map_get to m ≡ Some (Num b) → amount ≤ a → IsBalanced n m
    → IsBalanced n (map_set to (Some (Num (b + amount))) (map_set from (Some (Num (a - amount))) m))
moved n from to amount a b m from_in to_in apart has_a has_b enough is =
    let m1 = map_set from (Some (Num (a - amount))) m in
    let first = held_set 0 n from (a - amount) m (omega arith) (omega arith) in
    let second = held_set 0 n to (b + amount) m1 (omega arith) (omega arith) in
    let had_a : worth (map_get from m) ≡ a = ap worth has_a in
    let had_b : worth (map_get to m1) ≡ b = ap worth (get_other to from (Some (Num (a - amount))) m (ne_eqb to from (λ e. apart (sym e))) ∙ has_b) in
    let old = is.sum in
    record {
      filled = stays_filled n to (b + amount) m1 (stays_filled n from (a - amount) m is.filled);
      sum = omega arith;
    }

module _ (n from to amount : ℕ) (m : KeyMap) (from_in : from < n) (to_in : to < n) (apart : from ≢ to) (is : IsBalanced n m) where
  chosen : (a b : ℕ) (c : Bool) → map_get from m ≡ Some (Num a) → map_get to m ≡ Some (Num b) → (c ≡ true → amount ≤ a) → IsBalanced n (ops_after (cond c (Put from (Num (a - amount)) ∷ Put to (Num (b + amount)) ∷ []) []) m)
  chosen a b false has_a has_b enough = is
  chosen a b true has_a has_b enough = moved n from to amount a b m from_in to_in apart has_a has_b (enough refl) is

  after_puts : (a b : Option ValueType) → map_get from m ≡ a → map_get to m ≡ b → IsBalanced n (ops_after (puts from to amount a b) m)
  after_puts None b has_a has_b = is
  after_puts (Some (Num a)) None has_a has_b = is
  after_puts (Some (Bytes bytes)) b has_a has_b = is
  after_puts (Some (Num a)) (Some (Bytes bytes)) has_a has_b = is
  after_puts (Some (Num a)) (Some (Num b)) has_a has_b =
      chosen a b (nat_le amount a && nat_lt (b + amount) (2 ^ 64)) has_a has_b (λ e. let p = and_parts (nat_le amount a) (nat_lt (b + amount) (2 ^ 64)) e in let h = p.0 in grind (arith, nat_tests))

  -- the values that it was told are those that it found
  pub transferred : (answers : List Answer) → ops_answers (all_ops (Move from to amount ∷ []) answers) m ≡ answers → IsBalanced n (ops_after (all_ops (Move from to amount ∷ []) answers) m)
  transferred answers told = subst (λ r. IsBalanced n (ops_after (all_ops (Move from to amount ∷ []) r) m)) told done
    where
      found : List Answer
      found = ops_answers (all_ops (Move from to amount ∷ []) answers) m

      done : IsBalanced n (ops_after (all_ops (Move from to amount ∷ []) found) m)
      done =
          subst (λ ops. IsBalanced n (ops_after ops m)) (sym (append-nil (puts from to amount (map_get from m) (map_get to m))))
          (after_puts (map_get from m) (map_get to m) refl refl)
