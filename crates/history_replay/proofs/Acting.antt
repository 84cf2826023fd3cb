-- Acts one after another, with the trail of what was before them.
use Rattle.std.proofs.Common.{◌≡◌, ℕ, ◌+◌, ◌<◌, true, false, cond, List, [], ◌∷◌, ◌++◌, drop, get_or, length, nat_le, Option, Some, None, refl, sym, ap, ◌∙◌, append_assoc}
use Rattle.std.proofs.lemmas.Bool.{both_ways, or_parts}
use Rattle.std.proofs.lemmas.List.{drop_more}
use Rattle.clv_base.specs.declared.ops.Op.{Op}
use Rattle.clv_base.specs.declared.ops.Answer.{Answer}
use Rattle.clv_base.specs.Maps.{KeyMap, Trail, op_answer, op_after, map_now, map_up_to, act_after, act_answers, acts_after, acts_answers}
use Rattle.clv_base.specs.Backs.{answers_by}
use Rattle.law_base.proofs.Lists.{append_nil}
use Rattle.history_replay.specs.declared.acts.Act.{Act}
use Rattle.history_replay.specs.declared.acts.Act.TheVariants.{Operates, GoesBack}
use Rattle.history_replay.specs.Acting.{acts_of, doing, is_back, number_of, some_back, trail_over}

pub trail_push : (t : Trail) (xs : List (ℕ × KeyMap)) (x : ℕ × KeyMap) → trail_over t (xs ++ x ∷ []) ≡ x ∷ trail_over t xs
trail_push t [] x = refl
trail_push t (y ∷ ys) x = trail_push (y ∷ t) ys x

-- what is found over a trail: what is found over the map that was found before
up_over : (u : ℕ) (m : KeyMap) (t : Trail) (xs : List (ℕ × KeyMap)) → map_up_to u m (trail_over t xs) ≡ map_up_to u (map_up_to u m t) (trail_over [] xs)
up_over u m t [] = refl
up_over u m t (x ∷ xs) = up_over u m (x ∷ t) xs ∙ sym (up_over u (map_up_to u m t) (x ∷ []) xs)

pub up_step : (u : ℕ) (f : KeyMap) (xs : List (ℕ × KeyMap)) (i : ℕ) (x : ℕ × KeyMap) → i < length xs → x ≡ get_or xs i x → map_up_to u f (trail_over [] (drop i xs)) ≡ map_up_to u (cond (nat_le x.0 u) x.1 f) (trail_over [] (drop (i + 1) xs))
up_step u f xs i x l is = ap (λ ys. map_up_to u f (trail_over [] ys)) (drop_more xs i x l ∙ ap (λ y. y ∷ drop (i + 1) xs) (sym is)) ∙ up_over u f (x ∷ []) (drop (i + 1) xs)

-- where nobody goes back, the trail doesn't matter
forget_answers : (xs : List Act) (m : KeyMap) (t : Trail) → some_back xs ≡ false → acts_answers (acts_of xs) m t ≡ acts_answers (acts_of xs) (map_now m t) []
forget_answers [] m t none = refl
forget_answers (Operates n op ∷ xs) m t none =
    let next = op_after op (map_now m t) in
    ap (λ as_. op_answer op (map_now m t) ∷ as_) (forget_answers xs m ((n, next) ∷ t) none ∙ sym (forget_answers xs (map_now m t) ((n, next) ∷ []) none))
forget_answers (GoesBack n u ∷ xs) m t none = absurd (both_ways true none refl)

forget_map : (xs : List Act) (m : KeyMap) (t : Trail) → some_back xs ≡ false → acts_after (acts_of xs) m t ≡ acts_after (acts_of xs) (map_now m t) []
forget_map [] m t none = refl
forget_map (Operates n op ∷ xs) m t none =
    let next = op_after op (map_now m t) in
    forget_map xs m ((n, next) ∷ t) none ∙ sym (forget_map xs (map_now m t) ((n, next) ∷ []) none)
forget_map (GoesBack n u ∷ xs) m t none = absurd (both_ways true none refl)

-- one more act
pub some_left : (xs : List Act) (i : ℕ) (x : Act) → i < length xs → x ≡ get_or xs i x → drop i xs ≡ x ∷ drop (i + 1) xs
some_left xs i x l is = drop_more xs i x l ∙ ap (λ y. y ∷ drop (i + 1) xs) (sym is)

-- a transaction that never goes back
module _ (acts : List Act) (i : ℕ) (a : Act) (inside : i < length acts) (is : a ≡ get_or acts i a) (none : some_back (drop i acts) ≡ false) where
  pub no_back : (n u : ℕ) → a ≡ GoesBack n u → ⊥
  no_back n u e = both_ways true (sym (ap some_back (some_left acts i a inside is ∙ ap (λ x. x ∷ drop (i + 1) acts) e)) ∙ none) refl

  pub onward_step : some_back (drop (i + 1) acts) ≡ false
  onward_step = (or_parts (is_back a) (some_back (drop (i + 1) acts)) (sym (ap some_back (some_left acts i a inside is)) ∙ none)).1

  pub told_step : (n : ℕ) (op : Op) (p q : KeyMap) (answer : Answer) (so_far more all : List Answer) → a ≡ Operates n op → answer ≡ op_answer op p → q ≡ op_after op p → more ≡ so_far ++ answer ∷ [] → so_far ++ acts_answers (acts_of (drop i acts)) p [] ≡ all
      → more ++ acts_answers (acts_of (drop (i + 1) acts)) q [] ≡ all
  told_step n op p q answer so_far more all e given after pushed told =
      ap (λ l. l ++ acts_answers (acts_of (drop (i + 1) acts)) q []) (pushed ∙ ap (λ x. so_far ++ x ∷ []) given)
      ∙ append_assoc so_far (op_answer op p ∷ []) (acts_answers (acts_of (drop (i + 1) acts)) q [])
      ∙ ap (λ m. so_far ++ op_answer op p ∷ acts_answers (acts_of (drop (i + 1) acts)) m []) after
      ∙ ap (λ l. so_far ++ op_answer op p ∷ l) (sym (forget_answers (drop (i + 1) acts) p ((n, op_after op p) ∷ []) onward_step))
      ∙ ap (λ xs. so_far ++ acts_answers (acts_of xs) p []) (sym (some_left acts i a inside is ∙ ap (λ x. x ∷ drop (i + 1) acts) e))
      ∙ told

  pub rest_step : (n : ℕ) (op : Op) (p q all : KeyMap) → a ≡ Operates n op → q ≡ op_after op p → acts_after (acts_of (drop i acts)) p [] ≡ all → acts_after (acts_of (drop (i + 1) acts)) q [] ≡ all
  rest_step n op p q all e after rest =
      ap (λ m. acts_after (acts_of (drop (i + 1) acts)) m []) after
      ∙ sym (forget_map (drop (i + 1) acts) p ((n, op_after op p) ∷ []) onward_step)
      ∙ ap (λ xs. acts_after (acts_of xs) p []) (sym (some_left acts i a inside is ∙ ap (λ x. x ∷ drop (i + 1) acts) e))
      ∙ rest

-- one that may
module _ (acts : List Act) (i : ℕ) (a : Act) (inside : i < length acts) (is : a ≡ get_or acts i a) (m p q : KeyMap) (t : List (ℕ × KeyMap)) (n : ℕ) (t' : List (ℕ × KeyMap)) where
  pub now_step : t' ≡ t ++ (n, q) ∷ [] → q ≡ map_now m (trail_over [] t')
  now_step pushed = sym (ap (map_now m) (ap (trail_over []) pushed ∙ trail_push [] t (n, q)))

  pub told_with : p ≡ map_now m (trail_over [] t) → n ≡ number_of a → q ≡ act_after (doing a) m (trail_over [] t) → t' ≡ t ++ (n, q) ∷ [] → (given so_far more all : List Answer) → given ≡ act_answers (doing a) p → more ≡ so_far ++ given
      → so_far ++ acts_answers (acts_of (drop i acts)) m (trail_over [] t) ≡ all → more ++ acts_answers (acts_of (drop (i + 1) acts)) m (trail_over [] t') ≡ all
  told_with now number after pushed given so_far more all gives made told =
      ap (λ l. l ++ acts_answers (acts_of (drop (i + 1) acts)) m (trail_over [] t')) made
      ∙ append_assoc so_far given (acts_answers (acts_of (drop (i + 1) acts)) m (trail_over [] t'))
      ∙ ap (λ l. so_far ++ (l ++ acts_answers (acts_of (drop (i + 1) acts)) m (trail_over [] t'))) (gives ∙ ap (act_answers (doing a)) now)
      ∙ ap (λ z. so_far ++ (act_answers (doing a) (map_now m (trail_over [] t)) ++ acts_answers (acts_of (drop (i + 1) acts)) m z)) (trail_is number after pushed)
      ∙ ap (λ xs. so_far ++ acts_answers (acts_of xs) m (trail_over [] t)) (sym (some_left acts i a inside is))
      ∙ told
    where
      trail_is : n ≡ number_of a → q ≡ act_after (doing a) m (trail_over [] t) → t' ≡ t ++ (n, q) ∷ [] → trail_over [] t' ≡ (number_of a, act_after (doing a) m (trail_over [] t)) ∷ trail_over [] t
      trail_is number after pushed = ap (trail_over []) pushed ∙ trail_push [] t (n, q) ∙ ap (λ k. (k, q) ∷ trail_over [] t) number ∙ ap (λ x. (number_of a, x) ∷ trail_over [] t) after

  pub rest_with : n ≡ number_of a → q ≡ act_after (doing a) m (trail_over [] t) → t' ≡ t ++ (n, q) ∷ [] → (all : KeyMap) → acts_after (acts_of (drop i acts)) m (trail_over [] t) ≡ all → acts_after (acts_of (drop (i + 1) acts)) m (trail_over [] t') ≡ all
  rest_with number after pushed all rest =
      ap (acts_after (acts_of (drop (i + 1) acts)) m) (ap (trail_over []) pushed ∙ trail_push [] t (n, q) ∙ ap (λ k. (k, q) ∷ trail_over [] t) number ∙ ap (λ x. (number_of a, x) ∷ trail_over [] t) after)
      ∙ ap (λ xs. acts_after (acts_of xs) m (trail_over [] t)) (sym (some_left acts i a inside is))
      ∙ rest

pub joined_one : (xs : List Answer) (o : Option Answer) (x : Answer) → o ≡ Some x → xs ++ x ∷ [] ≡ xs ++ answers_by o
joined_one xs o x e = ap (λ p. xs ++ answers_by p) (sym e)

pub joined_none : (xs : List Answer) (o : Option Answer) → o ≡ None → xs ≡ xs ++ answers_by o
joined_none xs o e = sym (append_nil xs) ∙ ap (λ p. xs ++ answers_by p) (sym e)
