-- Marking, followed to its end: the marks are the doomed set.
use Rattle.std.proofs.Common.{◌≡◌, ℕ, zero, suc, ◌+◌, ◌<◌, ◌≤◌, ⊎_elim, Bool, true, false, cond, ◌&&◌, ◌||◌, List, [], ◌∷◌, ◌++◌, length, get_or, take, drop, drop-cons, append_assoc, refl, sym, ap, subst, ◌∙◌, arith, length-append}
use Rattle.std.proofs.lemmas.Bool.{both_ways, or_cases}
use Rattle.std.proofs.lemmas.List.{take_more, take-append-le}
use Rattle.std.specs.List.Sorted.{IsStrictlySortedBy}
use Rattle.std.specs.Cmp.{both_ways as same_tests}
use Rattle.clv_base.specs.declared.names.TxId.{TxId}
use Rattle.clv_base.specs.Orders.{tx_cmp, tx_same, tx_in, tx_insert}
use Rattle.clv_base.specs.State.{Local}
use Rattle.clv_base.proofs.SameNames.{or_left, or_right, tx_true, tx_self, insert_keeps, insert_has}
use Rattle.protocol_laws.specs.UndoLaws.{is_pair, IsClosed}
use Rattle.protocol_laws.proofs.Laws.{doomed_is_closure}
use Rattle.cascade_undo.specs.Dependencies.{doomed}
use Rattle.cascade_undo.specs.Pairs.{AreTurned}
use Rattle.cascade_undo.specs.Marking.{marks_with, new_marks, unmarked}
use Rattle.law_base.proofs.Rising.{insert_key-rises, insert_there, length-insert_key}
use Rattle.cascade_undo.proofs.Members.{Within, tx_in-more, marks_keep, marks_have, marks_from, queue_has, successors, tx_in-successors}
use Rattle.law_base.proofs.Names.{one_rises}
use Rattle.law_base.proofs.Sets.{tx_total, same_list, through_rises}

-- ---- the doomed set rises

doomed_rises : (pairs : List (TxId × TxId)) (tx : TxId) → IsStrictlySortedBy tx_cmp (doomed pairs tx)
doomed_rises pairs tx = through_rises (length pairs) pairs (tx ∷ []) (one_rises tx)

-- ---- marks that grow

pub marks_rise : (xs marks : List TxId) → IsStrictlySortedBy tx_cmp marks → IsStrictlySortedBy tx_cmp (marks_with xs marks)
marks_rise [] marks s = s
marks_rise (x ∷ xs) marks s = marks_rise xs (tx_insert x marks) (insert_key-rises tx_total x marks s)

unmarked_fewer : (ps : List (TxId × TxId)) (xs ys : List TxId) → Within xs ys → unmarked ps ys ≤ unmarked ps xs
unmarked_fewer [] xs ys w = omega arith
unmarked_fewer (p ∷ ps) xs ys w = at (tx_in p.1 xs) (tx_in p.1 ys) (w p.1) (unmarked_fewer ps xs ys w)
  where
    at : (b c : Bool) → (b ≡ true → c ≡ true) → unmarked ps ys ≤ unmarked ps xs → cond c 0 1 + unmarked ps ys ≤ cond b 0 1 + unmarked ps xs
    at true true h l = omega arith
    at true false h l = absurd (both_ways false refl (h refl))
    at false true h l = omega arith
    at false false h l = omega arith

unmarked_less : (ps : List (TxId × TxId)) (xs ys : List TxId) (p t : TxId) → Within xs ys → is_pair ps p t ≡ true → tx_in t xs ≡ false → tx_in t ys ≡ true → unmarked ps ys + 1 ≤ unmarked ps xs
unmarked_less [] xs ys p t w e out i = absurd (both_ways false refl e)
unmarked_less (q ∷ qs) xs ys p t w e out i = at (tx_same p q.0) (tx_same t q.1) (tx_true t q.1) e (unmarked_fewer qs xs ys w) (λ h. unmarked_less qs xs ys p t w h out i)
  where
    here : (b c : Bool) → b ≡ false → c ≡ true → unmarked qs ys ≤ unmarked qs xs → cond c 0 1 + unmarked qs ys + 1 ≤ cond b 0 1 + unmarked qs xs
    here true c e f l = absurd (both_ways true e refl)
    here false true e f l = omega arith
    here false false e f l = absurd (both_ways false refl f)

    later : (b c : Bool) → (b ≡ true → c ≡ true) → unmarked qs ys + 1 ≤ unmarked qs xs → cond c 0 1 + unmarked qs ys + 1 ≤ cond b 0 1 + unmarked qs xs
    later true true h l = omega arith
    later true false h l = absurd (both_ways false refl (h refl))
    later false true h l = omega arith
    later false false h l = omega arith

    at : (b c : Bool) → (c ≡ true → t ≡ q.1) → ((b && c) || is_pair qs p t) ≡ true → unmarked qs ys ≤ unmarked qs xs → (is_pair qs p t ≡ true → unmarked qs ys + 1 ≤ unmarked qs xs)
        → cond (tx_in q.1 ys) 0 1 + unmarked qs ys + 1 ≤ cond (tx_in q.1 xs) 0 1 + unmarked qs xs
    at true true same e l more = here (tx_in q.1 xs) (tx_in q.1 ys) (ap (λ x. tx_in x xs) (sym (same refl)) ∙ out) (ap (λ x. tx_in x ys) (sym (same refl)) ∙ i) l
    at true false same e l more = later (tx_in q.1 xs) (tx_in q.1 ys) (w q.1) (more e)
    at false c same e l more = later (tx_in q.1 xs) (tx_in q.1 ys) (w q.1) (more e)

-- a mark takes no more room than there is for those that aren't marked
module _ (turned : List (TxId × TxId)) (p t : TxId) (marks : List TxId) (s : IsStrictlySortedBy tx_cmp marks) (e : is_pair turned p t ≡ true) where
  grown : Within marks (tx_insert t marks)
  grown u m = insert_keeps t u marks m

  pub marks_room : length (tx_insert t marks) + unmarked turned (tx_insert t marks) ≤ length marks + unmarked turned marks
  marks_room = at (tx_in t marks) refl
    where
      at : (b : Bool) → tx_in t marks ≡ b → length (tx_insert t marks) + unmarked turned (tx_insert t marks) ≤ length marks + unmarked turned marks
      at true i = let same = ap length (insert_there tx_total t marks s i) in let fewer = unmarked_fewer turned marks (tx_insert t marks) grown in omega arith
      at false i = let more = length-insert_key tx_total t marks in let less = unmarked_less turned marks (tx_insert t marks) p t grown e i (insert_has t marks) in omega arith

  pub queue_room : (queue : List TxId) → length (cond (tx_in t marks) queue (queue ++ t ∷ [])) + unmarked turned (tx_insert t marks) ≤ length queue + unmarked turned marks
  queue_room queue = at (tx_in t marks) refl
    where
      at : (b : Bool) → tx_in t marks ≡ b → length (cond b queue (queue ++ t ∷ [])) + unmarked turned (tx_insert t marks) ≤ length queue + unmarked turned marks
      at true i = let fewer = unmarked_fewer turned marks (tx_insert t marks) grown in omega arith
      at false i = let more = length-append queue (t ∷ []) in let less = unmarked_less turned marks (tx_insert t marks) p t grown e i (insert_has t marks) in omega arith

pub unmarked_most : (ps : List (TxId × TxId)) (marks : List TxId) → unmarked ps marks ≤ length ps
unmarked_most [] marks = omega arith
unmarked_most (p ∷ ps) marks = at (tx_in p.1 marks) (unmarked_most ps marks)
  where
    at : (b : Bool) → unmarked ps marks ≤ length ps → cond b 0 1 + unmarked ps marks ≤ length (p ∷ ps)
    at true l = omega arith
    at false l = omega arith

-- ---- the marks, as far as the queue was followed

abbrev pub ClosedOver : List (TxId × TxId) → List TxId → Type 0
ClosedOver turned set = (p t : TxId) → is_pair turned p t ≡ true → tx_in p set ≡ true → tx_in t set ≡ true

pub record Followed (turned : List (TxId × TxId)) (tx : TxId) (marks queue : List TxId) (n : ℕ) : Type 0 where
  pub rising : IsStrictlySortedBy tx_cmp marks
  pub same : (t : TxId) → tx_in t queue ≡ tx_in t marks
  pub root : tx_in tx marks ≡ true
  pub least : (set : List TxId) → tx_in tx set ≡ true → ClosedOver turned set → Within marks set
  pub followed : (p t : TxId) → is_pair turned p t ≡ true → tx_in p (take n queue) ≡ true → tx_in t marks ≡ true

pub followed_none : (turned : List (TxId × TxId)) (tx : TxId) → Followed turned tx (tx ∷ []) (tx ∷ []) 0
followed_none turned tx = record {
  rising = one_rises tx;
  same = λ t. refl;
  root = or_left _ _ (tx_self tx);
  least = λ set root closed t e. ⊎_elim (λ s. subst (λ y. tx_in y set ≡ true) (tx_true tx t s) root) (λ m. absurd (both_ways false refl m)) (or_cases (tx_same tx t) false e);
  followed = λ p t e i. absurd (both_ways false refl i);
}

pub member_at : (xs : List TxId) (i : ℕ) (d : TxId) → i < length xs → tx_in (get_or xs i d) xs ≡ true
member_at [] i d l = absurd (omega arith)
member_at (x ∷ xs) zero d l = or_left _ _ (tx_self x)
member_at (x ∷ xs) (suc i) d l = or_right _ _ (member_at xs i d (omega arith))

module _ (turned : List (TxId × TxId)) (tx : TxId) (marks queue : List TxId) (n : ℕ) (f : Followed turned tx marks queue n) where
  pub followed_more : (d : TxId) → n < length queue
      → let next = get_or queue n d in Followed turned tx (marks_with (successors next turned) marks) (queue ++ new_marks (successors next turned) marks) (n + 1)
  followed_more d l =
      let next = get_or queue n d in let more = successors next turned in
      let is_marked : tx_in next marks ≡ true = sym (f.same next) ∙ member_at queue n d l in
      record {
        rising = marks_rise more marks f.rising;
        same = queue_has more marks queue f.same;
        root = marks_keep more marks tx f.root;
        least = λ set root closed t e.
            ⊎_elim (λ m. closed next t (sym (tx_in-successors next t turned) ∙ m) (f.least set root closed next is_marked)) (λ m. f.least set root closed t m) (marks_from more marks t e);
        followed = λ p t e i.
            let front : take (n + 1) (queue ++ new_marks more marks) ≡ take n queue ++ next ∷ [] = take-append-le (n + 1) queue (new_marks more marks) (omega arith) ∙ take_more queue n d l in
            ⊎_elim (λ m. marks_keep more marks t (f.followed p t e m))
            (λ s. marks_have more marks t (tx_in-successors next t turned ∙ subst (λ y. is_pair turned y t ≡ true) (sym (tx_true next p s)) e))
            (or_cases (tx_in p (take n queue)) (tx_same next p) (sym (tx_in-more p (take n queue) next) ∙ (ap (tx_in p) (sym front) ∙ i)));
      }

local_with : List (TxId × TxId) → Local
local_with pairs = record { records = []; locks = []; parts = []; pairs = pairs; log = []; epoch = 0 }

-- where all were followed, the marks are the doomed set
pub marks_are_doomed : (turned : List (TxId × TxId)) (tx : TxId) (marks queue : List TxId) (n : ℕ) → Followed turned tx marks queue n → length queue ≤ n → (pairs : List (TxId × TxId)) → AreTurned pairs turned
    → marks ≡ doomed pairs tx
unfolding local_with
marks_are_doomed turned tx marks queue n f l pairs turn =
    let law = doomed_is_closure (local_with pairs) tx in
    let closed : IsClosed pairs marks = λ t p e m. f.followed p t (turn t p ∙ e) (subst (λ q. tx_in p q ≡ true) (sym (all_taken n queue l)) (f.same p ∙ m)) in
    same_list marks (doomed pairs tx) f.rising (doomed_rises pairs tx)
    (λ t. same_tests _ _ (λ e. f.least (doomed pairs tx) law.0 (λ p u e m. law.1 u p (sym (turn u p) ∙ e) m) t e) (λ e. law.2 marks f.root closed t e))
  where
    all_taken : (n : ℕ) (xs : List TxId) → length xs ≤ n → take n xs ≡ xs
    all_taken zero [] l = refl
    all_taken (suc n) [] l = refl
    all_taken zero (x ∷ xs) l = absurd (omega arith)
    all_taken (suc n) (x ∷ xs) l = ap (λ r. x ∷ r) (all_taken n xs (omega arith))

-- ---- one pair after another

module _ (xs : List TxId) (i : ℕ) (d : TxId) (l : i < length xs) (marks now : List TxId) (e : now ≡ tx_insert (get_or xs i d) marks) where
  next_one : drop i xs ≡ get_or xs i d ∷ drop (i + 1) xs
  next_one = drop-cons xs i d l ∙ ap (λ n. get_or xs i d ∷ drop n xs) (let s : suc i ≡ i + 1 = omega arith in s)

  pub marks_next : marks_with (drop (i + 1) xs) now ≡ marks_with (drop i xs) marks
  marks_next = ap (marks_with (drop (i + 1) xs)) e ∙ sym (ap (λ ys. marks_with ys marks) next_one)

  pub queue_next : (queue after : List TxId) → after ≡ cond (tx_in (get_or xs i d) marks) queue (queue ++ get_or xs i d ∷ [])
      → after ++ new_marks (drop (i + 1) xs) now ≡ queue ++ new_marks (drop i xs) marks
  queue_next queue after q =
      ap (λ m. after ++ new_marks (drop (i + 1) xs) m) e ∙ ap (λ a. a ++ rest) q ∙ at (tx_in (get_or xs i d) marks) ∙ sym (ap (λ ys. queue ++ new_marks ys marks) next_one)
    where
      rest : List TxId
      rest = new_marks (drop (i + 1) xs) (tx_insert (get_or xs i d) marks)

      at : (b : Bool) → cond b queue (queue ++ get_or xs i d ∷ []) ++ rest ≡ queue ++ cond b rest (get_or xs i d ∷ rest)
      at true = refl
      at false = append_assoc queue (get_or xs i d ∷ []) rest
