-- A transaction on its way: what its acts so far were answered, where it may go back, and how.
use Rattle.std.proofs.Common.{◌≡◌, ℕ, suc, ◌<◌, ◌≤◌, Bool, true, false, cond, ◌==◌, nat_lt, nat_le, List, [], ◌∷◌, ◌++◌, inl, inr, refl, sym, ap, ◌∙◌, subst, arith, append_assoc}
use Rattle.std.proofs.lemmas.Bool.{and_parts, and_from, le-leb, lt-leb, ltb-true, leb-true, eqb-true, both_ways, or_cases}
use Rattle.std.specs.List.{list_all, AllByRecursion}
use Rattle.clv_base.specs.declared.ops.Op.{Op}
use Rattle.clv_base.specs.declared.ops.Answer.{Answer}
use Rattle.clv_base.specs.Maps.{KeyMap, Operates, GoesBack, Trail, map_now, map_up_to, act_after, acts_after, acts_answers, op_answer, op_after}
use Rattle.clv_base.specs.Backs.{stands_for_back, is_next, are_numbered}
use Rattle.clv_base.specs.Folding.{IsRising}
use Rattle.clv_base.proofs.Folding.{rising_after}
use Rattle.session_books.specs.Done.{Done, Did, WentBack}
use Rattle.report_reading.specs.Told.{numbered_from, numbered}
use Rattle.report_reading.specs.Standing.{Rise, is_among, up_to}
use Rattle.report_reading.proofs.Laws.{among_up_to, among_push, Standing, standing_first, standing_op, standing_back, may_go}
use Rattle.clv_audit.specs.declared.steps.Step.{Step}
use Rattle.clv_audit.specs.Right.{answers_of}
use Rattle.clv_audit.specs.Keeping.{undone_by, undone, steps_above, steps_up_to, numbers_of, IsNextStep, ActGoes}
use Rattle.clv_audit.proofs.Undoing.{undone_append, above_append, one_above, none_above, numbers_up_to, numbers_append, above_in_two}

-- the acts that stand lead back to the maps after them; n is the number of the next act
pub record Keeps (start : KeyMap) (n : ℕ) (trail : Trail) (ss : List Step) (m : KeyMap) : Type 0 where
  pub now : m ≡ map_now start trail
  pub back : (u : ℕ) → is_among u (0 ∷ numbers_of ss) ≡ true → undone (steps_above u ss) m ≡ map_up_to u start trail
  pub rises : IsRising start
  pub trail_rises : AllByRecursion (λ p. IsRising p.1) trail

pub rising_up_to : (u : ℕ) (m : KeyMap) (t : Trail) → IsRising m → AllByRecursion (λ p. IsRising p.1) t → IsRising (map_up_to u m t)
rising_up_to u m [] r h = r
rising_up_to u m (p ∷ t) r h = at (nat_le p.0 u) (rising_up_to u m t r h.1)
  where
    at : (b : Bool) → IsRising (map_up_to u m t) → IsRising (cond b p.1 (map_up_to u m t))
    at true deeper = h.0
    at false deeper = deeper

pub rising_now : (m : KeyMap) (t : Trail) → IsRising m → AllByRecursion (λ p. IsRising p.1) t → IsRising (map_now m t)
rising_now m [] r h = r
rising_now m (p ∷ t) r h = h.0

pub keeps_rising : (start : KeyMap) (n : ℕ) (trail : Trail) (ss : List Step) (m : KeyMap) → Keeps start n trail ss m → IsRising m
keeps_rising start n trail ss m k = subst IsRising (sym k.now) (rising_now start trail k.rises k.trail_rises)

at_here : (u n : ℕ) (x y : KeyMap) → n ≤ u → cond (nat_le n u) x y ≡ x
at_here u n x y h = ap (λ b. cond b x y) (le-leb n u h)

at_others : (u n : ℕ) (x y : KeyMap) → u < n → cond (nat_le n u) x y ≡ y
at_others u n x y h = ap (λ b. cond b x y) (lt-leb n u h)

-- numbers below n are at most n
all_at_most : (n : ℕ) (ns : List ℕ) → list_all (λ m. nat_lt m n) ns ≡ true → list_all (λ m. nat_le m n) ns ≡ true
all_at_most n [] h = refl
all_at_most n (m ∷ ns) h =
    let parts = and_parts (nat_lt m n) (list_all (λ x. nat_lt x n) ns) h in
    let first = ltb-true m n parts.0 in and_from _ _ (le-leb m n (omega arith)) (all_at_most n ns parts.1)

among_below : (u n : ℕ) (ns : List ℕ) → list_all (λ m. nat_lt m n) ns ≡ true → is_among u ns ≡ true → u < n
among_below u n [] h e = absurd (both_ways false refl e)
among_below u n (m ∷ ns) h e =
    let parts = and_parts (nat_lt m n) (list_all (λ x. nat_lt x n) ns) h in
    elim (or_cases (m == u) (is_among u ns) e) [
      | inl same ↦ (let here = eqb-true m u same in let low = ltb-true m n parts.0 in omega arith)
      | inr more ↦ among_below u n ns parts.1 more
    ]

-- the last step's number is above all others
last_step_at_most : (n : ℕ) (ss : List Step) (s : Step) → s.number ≡ n → list_all (λ m. nat_lt m n) (numbers_of ss) ≡ true → list_all (λ m. nat_le m n) (numbers_of (ss ++ s ∷ [])) ≡ true
last_step_at_most n [] s e h = and_from _ _ (le-leb s.number n (omega arith)) refl
last_step_at_most n (x ∷ ss) s e h =
    let parts = and_parts (nat_lt x.number n) (list_all (λ m. nat_lt m n) (numbers_of ss)) h in
    let first = ltb-true x.number n parts.0 in and_from _ _ (le-leb x.number n (omega arith)) (last_step_at_most n ss s e parts.1)

-- one act more, after which the map is this: it leads back to the maps before it
module _ (start : KeyMap) (n : ℕ) (trail : Trail) (ss : List Step) (m after : KeyMap) (s : Step) (number : s.number ≡ n) (below : list_all (λ k. nat_lt k n) (0 ∷ numbers_of ss) ≡ true)
    (back : (u : ℕ) → is_among u (0 ∷ numbers_of ss) ≡ true → undone (steps_above u ss) (undone_by s.written after) ≡ map_up_to u start trail) where
  there : (u : ℕ) → n ≡ u → undone (steps_above u (ss ++ s ∷ [])) after ≡ map_up_to u start ((n, after) ∷ trail)
  there u e =
      let none = none_above n (ss ++ s ∷ []) (last_step_at_most n ss s number (and_parts (nat_lt 0 n) (list_all (λ k. nat_lt k n) (numbers_of ss)) below).1) in
      subst (λ (v : ℕ). undone (steps_above v (ss ++ s ∷ [])) after ≡ map_up_to v start ((n, after) ∷ trail)) e
      (ap (λ l. undone l after) none ∙ sym (at_here n n after (map_up_to n start trail) (omega arith)))

  before : (u : ℕ) → is_among u (0 ∷ numbers_of ss) ≡ true → undone (steps_above u (ss ++ s ∷ [])) after ≡ map_up_to u start ((n, after) ∷ trail)
  before u e =
      let low = among_below u n (0 ∷ numbers_of ss) below e in
      ap (λ l. undone l after) (above_append u ss (s ∷ []) ∙ ap (λ l. steps_above u ss ++ l) (one_above u s (omega arith)))
      ∙ undone_append (steps_above u ss) (s ∷ []) after ∙ back u e ∙ sym (at_others u n after (map_up_to u start trail) low)

  pub goes_back_as_well : (u : ℕ) → is_among u (0 ∷ numbers_of (ss ++ s ∷ [])) ≡ true → undone (steps_above u (ss ++ s ∷ [])) after ≡ map_up_to u start ((n, after) ∷ trail)
  goes_back_as_well u e =
      let numbers : is_among u ((0 ∷ numbers_of ss) ++ s.number ∷ []) ≡ true = ap (λ l. is_among u (0 ∷ l)) (sym (numbers_append ss (s ∷ []))) ∙ e in
      let either = sym (among_push u s.number (0 ∷ numbers_of ss)) ∙ numbers in
      elim (or_cases (is_among u (0 ∷ numbers_of ss)) (s.number == u) either) [
        | inl old ↦ before u old
        | inr new ↦ there u (sym number ∙ eqb-true s.number u new)
      ]

-- ---- the whole

-- of all acts these are left: the others were answered as they were told, and this is the map after them
pub record Going (start : KeyMap) (all left : List Done) (n : ℕ) (ss : List Step) (m : KeyMap) : Type 0 where
  pub trail : Trail
  pub backs : List (ℕ × ℕ)
  pub keeps : Keeps start (suc n) trail ss m
  pub standing : Standing (suc n) (0 ∷ numbers_of ss) backs
  pub legal : are_numbered n backs (numbered_from (suc n) left) ≡ true
  pub told : List Answer
  pub told_all : answers_of all ≡ told ++ answers_of left
  pub answered : acts_answers (numbered all) start [] ≡ told ++ acts_answers (numbered_from (suc n) left) start trail
  pub after : acts_after (numbered all) start [] ≡ acts_after (numbered_from (suc n) left) start trail

pub going_first : (start : KeyMap) (all : List Done) → IsRising start → are_numbered 0 [] (numbered all) ≡ true → Going start all all 0 [] start
going_first start all r h =
    record {
      trail = [];
      backs = [];
      keeps = record { now = refl; back = λ u e. refl; rises = r; trail_rises = tt };
      standing = standing_first;
      legal = h;
      told = [];
      told_all = refl;
      answered = refl;
      after = refl;
    }

standing_as : (n : ℕ) (ns ms : List ℕ) (backs : List (ℕ × ℕ)) → ns ≡ ms → Standing n ns backs → Standing n ms backs
standing_as n ns ms backs e s = subst (λ l. Standing n l backs) e s

-- after an operation that was answered as it was told
op_goes_on :
    (start : KeyMap) (all : List Done) (op : Op) (a : Answer) (left : List Done) (n : ℕ) (ss new : List Step) (m after : KeyMap) → Going start all (Did op a ∷ left) n ss m
    → a ≡ op_answer op m → after ≡ op_after op m → IsNextStep (suc n) m after ss new → Going start all left (suc n) new after
op_goes_on start all op a left n ss new m after g right is step =
    let k = g.keeps in
    let t = g.trail in
    let s = step.0 in
    let here : after ≡ act_after (Operates op) start t = is ∙ ap (op_after op) k.now in
    let trail : Trail = (suc n, after) ∷ t in
    let same : (suc n, act_after (Operates op) start t) ∷ t ≡ trail = ap (λ (x : KeyMap). (suc n, x) ∷ t) (sym here) in
    let kept : Keeps start (suc (suc n)) trail (ss ++ s ∷ []) after =
    record {
      now = refl;
      back = goes_back_as_well start (suc n) t ss m after s step.2 (g.standing).below (λ u e. ap (undone (steps_above u ss)) step.3 ∙ k.back u e);
      rises = k.rises;
      trail_rises = (subst IsRising (sym is) (rising_after op m (keeps_rising start (suc n) t ss m k)), k.trail_rises);
    } in
    record {
      trail = trail;
      backs = g.backs;
      keeps = subst (λ l. Keeps start (suc (suc n)) trail l after) (sym step.1) kept;
      standing = standing_as _ _ _ _ (sym (ap (λ l. 0 ∷ l) (ap numbers_of step.1 ∙ numbers_append ss (s ∷ []) ∙ ap (λ (x : ℕ). numbers_of ss ++ x ∷ []) step.2))) (standing_op (suc n) (0 ∷ numbers_of ss) g.backs g.standing);
      legal = (and_parts (is_next n (suc n) (Operates op) g.backs) (are_numbered (suc n) g.backs (numbered_from (suc (suc n)) left)) g.legal).1;
      told = g.told ++ a ∷ [];
      told_all = g.told_all ∙ sym (append_assoc g.told (a ∷ []) (answers_of left));
      answered =
          g.answered ∙ ap (λ (x : Answer). g.told ++ x ∷ acts_answers (numbered_from (suc (suc n)) left) start ((suc n, act_after (Operates op) start t) ∷ t)) (sym (right ∙ ap (op_answer op) k.now))
          ∙ sym (append_assoc g.told (a ∷ []) _) ∙ ap (λ l. (g.told ++ a ∷ []) ++ acts_answers (numbered_from (suc (suc n)) left) start l) same;
      after = g.after ∙ ap (acts_after (numbered_from (suc (suc n)) left) start) same;
    }

fewer : (u n : ℕ) (ns : List ℕ) → list_all (λ j. nat_lt j n) ns ≡ true → list_all (λ j. nat_lt j n) (up_to u ns) ≡ true
fewer u n [] h = refl
fewer u n (x ∷ ns) h =
    let both = and_parts (nat_lt x n) (list_all (λ j. nat_lt j n) ns) h in at (nat_le x u) both.0 (fewer u n ns both.1)
  where
    at : (b : Bool) → nat_lt x n ≡ true → list_all (λ j. nat_lt j n) (up_to u ns) ≡ true → list_all (λ j. nat_lt j n) (cond b (x ∷ up_to u ns) (up_to u ns)) ≡ true
    at true p q = and_from _ _ p q
    at false p q = q

-- after a going back
back_goes_on :
    (start : KeyMap) (all : List Done) (upto : ℕ) (left : List Done) (n : ℕ) (ss new : List Step) (m after : KeyMap) → Going start all (WentBack upto ∷ left) n ss m
    → after ≡ undone (steps_above upto ss) m → IsNextStep (suc n) after after (steps_up_to upto ss) new → Going start all left (suc n) new after
back_goes_on start all upto left n ss new m after g is step =
    let k = g.keeps in
    let t = g.trail in
    let s = step.0 in
    let low = steps_up_to upto ss in
    let parts = and_parts (is_next n (suc n) (GoesBack upto) g.backs) (are_numbered (suc n) ((suc n, upto) ∷ g.backs) (numbered_from (suc (suc n)) left)) g.legal in
    let may : stands_for_back (suc n) upto g.backs ≡ true = (and_parts (nat_lt n (suc n)) (stands_for_back (suc n) upto g.backs) parts.0).1 in
    let among : is_among upto (0 ∷ numbers_of ss) ≡ true = sym (may_go (suc n) upto (0 ∷ numbers_of ss) g.backs g.standing) ∙ may in
    let under : upto < suc n = among_below upto (suc n) (0 ∷ numbers_of ss) (g.standing).below among in
    let here : after ≡ act_after (GoesBack upto) start t = is ∙ k.back upto among in
    let trail : Trail = (suc n, after) ∷ t in
    let same : (suc n, act_after (GoesBack upto) start t) ∷ t ≡ trail = ap (λ (x : KeyMap). (suc n, x) ∷ t) (sym here) in
    let lower : 0 ∷ numbers_of low ≡ up_to upto (0 ∷ numbers_of ss) = ap (λ l. 0 ∷ l) (numbers_up_to upto ss) ∙ sym (ap (λ b. cond b (0 ∷ up_to upto (numbers_of ss)) (up_to upto (numbers_of ss))) (le-leb 0 upto (omega arith))) in
    let next = standing_back (suc n) upto (0 ∷ numbers_of ss) g.backs under g.standing in
    let below : list_all (λ j. nat_lt j (suc n)) (0 ∷ numbers_of low) ≡ true =
    subst (λ l. list_all (λ j. nat_lt j (suc n)) l ≡ true) (sym lower) (fewer upto (suc n) (0 ∷ numbers_of ss) (g.standing).below) in
    let leads : (u : ℕ) → is_among u (0 ∷ numbers_of low) ≡ true → undone (steps_above u low) (undone_by s.written after) ≡ map_up_to u start t =
    λ u e.
    let both = and_parts (nat_le u upto) (is_among u (0 ∷ numbers_of ss)) (sym (among_up_to u upto (0 ∷ numbers_of ss)) ∙ ap (is_among u) (sym lower) ∙ e) in
    ap (undone (steps_above u low)) (step.3 ∙ is) ∙ sym (undone_append (steps_above u low) (steps_above upto ss) m)
    ∙ ap (λ l. undone l m) (sym (above_in_two 1 u upto ss (leb-true u upto both.0) ((g.standing).rises).1)) ∙ k.back u both.1 in
    let kept : Keeps start (suc (suc n)) trail (low ++ s ∷ []) after =
    record {
      now = refl;
      back = goes_back_as_well start (suc n) t low m after s step.2 below leads;
      rises = k.rises;
      trail_rises = (subst IsRising (sym here) (rising_up_to upto start t k.rises k.trail_rises), k.trail_rises);
    } in
    record {
      trail = trail;
      backs = (suc n, upto) ∷ g.backs;
      keeps = subst (λ l. Keeps start (suc (suc n)) trail l after) (sym step.1) kept;
      standing =
          standing_as _ _ _ _
          (ap (λ l. l ++ suc n ∷ []) (sym lower) ∙ sym (ap (λ l. 0 ∷ l) (ap numbers_of step.1 ∙ numbers_append low (s ∷ []) ∙ ap (λ (x : ℕ). numbers_of low ++ x ∷ []) step.2))) next;
      legal = parts.1;
      told = g.told;
      told_all = g.told_all;
      answered = g.answered ∙ ap (λ l. g.told ++ acts_answers (numbered_from (suc (suc n)) left) start l) same;
      after = g.after ∙ ap (acts_after (numbered_from (suc (suc n)) left) start) same;
    }

pub goes_on : (start : KeyMap) (all : List Done) (d : Done) (left : List Done) (n : ℕ) (ss new : List Step) (m after : KeyMap) (right : Bool) → right ≡ true → Going start all (d ∷ left) n ss m
    → ActGoes d (suc n) m ss right after new → Going start all left (suc n) new after
goes_on start all (Did op a) left n ss new m after right e g goes = op_goes_on start all op a left n ss new m after g (goes.0.0 e) goes.1 goes.2
goes_on start all (WentBack upto) left n ss new m after right e g goes = back_goes_on start all upto left n ss new m after g goes.1 goes.2

same_tail : (xs ys zs : List Answer) → xs ++ ys ≡ xs ++ zs → ys ≡ zs
same_tail [] ys zs e = e
same_tail (x ∷ xs) ys zs e = let rest : xs ++ ys ≡ xs ++ zs = cc in same_tail xs ys zs rest

-- where one answer isn't the map's, the answers aren't those of the run
pub goes_wrong : (start : KeyMap) (all : List Done) (d : Done) (left : List Done) (n : ℕ) (ss new : List Step) (m after : KeyMap) (right : Bool) → right ≡ false → Going start all (d ∷ left) n ss m
    → ActGoes d (suc n) m ss right after new → acts_answers (numbered all) start [] ≡ answers_of all → ⊥
goes_wrong start all (Did op a) left n ss new m after right e g goes same =
    let rest = same_tail g.told _ _ (sym g.answered ∙ same ∙ g.told_all) in
    let first : op_answer op (map_now start (g.trail)) ≡ a = cc in
    both_ways right e (goes.0.1 (sym first ∙ ap (op_answer op) (sym (g.keeps).now)))
goes_wrong start all (WentBack upto) left n ss new m after right e g goes same = both_ways right e goes.0

-- at the end all was answered as it was told
pub goes_through : (start : KeyMap) (all : List Done) (n : ℕ) (ss : List Step) (m : KeyMap) → Going start all [] n ss m → (acts_answers (numbered all) start [] ≡ answers_of all) × (m ≡ acts_after (numbered all) start [])
goes_through start all n ss m g = (g.answered ∙ sym g.told_all, (g.keeps).now ∙ sym g.after)

from_zero : (ns : List ℕ) → Rise 0 (0 ∷ ns) → Rise 0 ns
from_zero [] r = tt
from_zero (n ∷ ns) r = (omega arith, (r.1).1)

pub going_rises : (start : KeyMap) (all left : List Done) (n : ℕ) (ss : List Step) (m : KeyMap) → Going start all left n ss m → Rise 0 (numbers_of ss)
going_rises start all left n ss m g = from_zero (numbers_of ss) (g.standing).rises
