-- What a transaction did, by a history in parts.
use Rattle.std.proofs.Common.{◌≡◌, ℕ, Bool, true, false, cond, List, [], ◌∷◌, ◌++◌, Option, Some, None, ◌==◌, refl, sym, ap, ◌∙◌, eqb-true, ⊎_elim, append_assoc}
use Rattle.std.specs.List.{AllByRecursion}
use Rattle.std.proofs.lemmas.Bool.{cases_Bool, both_ways, cond_both, cond-true, cond-false}
use Rattle.clv_base.specs.declared.names.TxId.{TxId}
use Rattle.clv_base.specs.declared.ops.Op.{Op}
use Rattle.clv_base.specs.declared.ops.Answer.{Answer}
use Rattle.clv_base.specs.declared.events.Entry.{Entry}
use Rattle.clv_base.specs.Maps.{Operates, GoesBack}
use Rattle.clv_base.specs.Backs.{answers_by}
use Rattle.clv_base.specs.Journals.{History}
use Rattle.clv_base.specs.History.{DoneAct, act_of, goes_back_as, is_with_next, put_act, acts_in, answers_given}
use Rattle.law_base.proofs.Lists.{all_of}

-- ---- one list of acts before another

-- what an entry adds before the later acts
abbrev pub with_act : Option DoneAct → List DoneAct → List DoneAct
with_act o ps = elim o as (λ z. List DoneAct) [ Some p ↦ put_act p ps | None ↦ ps ]

abbrev pub join_acts : List DoneAct → List DoneAct → List DoneAct
join_acts [] qs = qs
join_acts (p ∷ ps) qs = put_act p (join_acts ps qs)

back_number : (n : ℕ) (r : DoneAct) → goes_back_as n r ≡ true → n ≡ r.0
back_number n (k, Operates op, a) e = absurd (both_ways false refl e)
back_number n (k, GoesBack u, a) e = eqb-true n k e

-- an act that goes with the first of some stays with what comes before the first
still_next : (p r : DoneAct) (xs : List DoneAct) → goes_back_as p.0 r ≡ true → is_with_next p (put_act r xs) ≡ true
still_next p r xs e =
    ⊎_elim
    (λ h. ap (is_with_next p) (cond-true (is_with_next r xs) xs (r ∷ xs) h) ∙ moved xs ∙ h)
    (λ h. ap (is_with_next p) (cond-false (is_with_next r xs) xs (r ∷ xs) h) ∙ e)
    (cases_Bool (is_with_next r xs))
  where
    moved : (ys : List DoneAct) → is_with_next p ys ≡ is_with_next r ys
    moved [] = refl
    moved (y ∷ ys) = ap (λ n. goes_back_as n y) (back_number p.0 r e)

put_join : (p : DoneAct) (ps qs : List DoneAct) → put_act p (join_acts ps qs) ≡ join_acts (put_act p ps) qs
put_join p [] qs = refl
put_join p (r ∷ rs) qs =
    ⊎_elim
    (λ e. cond-true _ (join_acts (r ∷ rs) qs) (p ∷ join_acts (r ∷ rs) qs) (still_next p r (join_acts rs qs) e) ∙ ap (λ l. join_acts l qs) (sym (cond-true (goes_back_as p.0 r) (r ∷ rs) (p ∷ r ∷ rs) e)))
    (λ e. ap (λ l. join_acts l qs) (sym (cond-false (goes_back_as p.0 r) (r ∷ rs) (p ∷ r ∷ rs) e)))
    (cases_Bool (goes_back_as p.0 r))

-- a history in two parts
pub acts_append : (t : TxId) (xs ys : History) → acts_in t (xs ++ ys) ≡ join_acts (acts_in t xs) (acts_in t ys)
acts_append t [] ys = refl
acts_append t (x ∷ xs) ys = at (act_of t (x.1).event (x.1).outcome) (acts_append t xs ys)
  where
    at : (o : Option DoneAct) → acts_in t (xs ++ ys) ≡ join_acts (acts_in t xs) (acts_in t ys) → with_act o (acts_in t (xs ++ ys)) ≡ join_acts (with_act o (acts_in t xs)) (acts_in t ys)
    at None e = e
    at (Some p) e = ap (put_act p) e ∙ put_join p (acts_in t xs) (acts_in t ys)

-- ---- entries of others

pub others_did : (t : TxId) (ys : History) → AllByRecursion (λ e. act_of t (e.1).event (e.1).outcome ≡ None) ys → acts_in t ys ≡ []
others_did t [] all = refl
others_did t (y ∷ ys) all = ap (λ o. with_act o (acts_in t ys)) all.0 ∙ others_did t ys all.1

pub acts_before_none : (t : TxId) (xs ys : History) → acts_in t ys ≡ [] → acts_in t (xs ++ ys) ≡ acts_in t xs
acts_before_none t [] ys none = none
acts_before_none t (x ∷ xs) ys none = ap (with_act (act_of t (x.1).event (x.1).outcome)) (acts_before_none t xs ys none)

pub acts_after_none : (t : TxId) (xs ys : History) → acts_in t xs ≡ [] → acts_in t (xs ++ ys) ≡ acts_in t ys
acts_after_none t xs ys none = acts_append t xs ys ∙ ap (λ ps. join_acts ps (acts_in t ys)) none

pub acts_of_others : (t : TxId) (xs : History) (e : ℕ × Entry) → act_of t (e.1).event (e.1).outcome ≡ None → acts_in t (xs ++ e ∷ []) ≡ acts_in t xs
acts_of_others t xs e other = acts_before_none t xs (e ∷ []) (others_did t (e ∷ []) (other, tt))

-- ---- an entry of its own

-- an act that goes with none of the earlier ones
abbrev pub IsApart : List DoneAct → DoneAct → Type 0
IsApart ps p = AllByRecursion (λ q. goes_back_as q.0 p ≡ false) ps

rest_apart : (p q : DoneAct) (ps : List DoneAct) → IsApart (put_act q ps) p → IsApart ps p
rest_apart p q ps all = at (is_with_next q ps) all
  where
    at : (b : Bool) → IsApart (cond b ps (q ∷ ps)) p → IsApart ps p
    at true a = a
    at false a = a.1

put_push : (p q : DoneAct) (ps : List DoneAct) → IsApart (put_act q ps) p → put_act q (ps ++ p ∷ []) ≡ put_act q ps ++ p ∷ []
put_push p q [] all = cond-false (goes_back_as q.0 p) (p ∷ []) (q ∷ p ∷ []) all.0
put_push p q (r ∷ rs) all = at (goes_back_as q.0 r)
  where
    at : (b : Bool) → cond b (r ∷ rs ++ p ∷ []) (q ∷ r ∷ rs ++ p ∷ []) ≡ cond b (r ∷ rs) (q ∷ r ∷ rs) ++ p ∷ []
    at true = refl
    at false = refl

pub acts_push : (t : TxId) (xs : History) (e : ℕ × Entry) (p : DoneAct) → act_of t (e.1).event (e.1).outcome ≡ Some p → IsApart (acts_in t xs) p → acts_in t (xs ++ e ∷ []) ≡ acts_in t xs ++ p ∷ []
acts_push t [] e p own all = ap (λ o. with_act o []) own
acts_push t (x ∷ xs) e p own all = at (act_of t (x.1).event (x.1).outcome) all (λ a. acts_push t xs e p own a)
  where
    at : (o : Option DoneAct) → IsApart (with_act o (acts_in t xs)) p → (IsApart (acts_in t xs) p → acts_in t (xs ++ e ∷ []) ≡ acts_in t xs ++ p ∷ []) → with_act o (acts_in t (xs ++ e ∷ [])) ≡ with_act o (acts_in t xs) ++ p ∷ []
    at None a k = k a
    at (Some q) a k = ap (put_act q) (k (rest_apart p q (acts_in t xs) a)) ∙ put_push p q (acts_in t xs) a

-- an operation goes with none
pub acts_push_op : (t : TxId) (xs : History) (e : ℕ × Entry) (n : ℕ) (op : Op) (a : Option Answer) → act_of t (e.1).event (e.1).outcome ≡ Some (n, Operates op, a) → acts_in t (xs ++ e ∷ []) ≡ acts_in t xs ++ (n, Operates op, a) ∷ []
acts_push_op t xs e n op a own = acts_push t xs e (n, Operates op, a) own (all_of _ (λ q. refl) (acts_in t xs))

-- nor does a going back under a new number
pub acts_push_back : (t : TxId) (xs : History) (e : ℕ × Entry) (n u : ℕ) (a : Option Answer) → act_of t (e.1).event (e.1).outcome ≡ Some (n, GoesBack u, a) → AllByRecursion (λ q. (q.0 == n) ≡ false) (acts_in t xs)
    → acts_in t (xs ++ e ∷ []) ≡ acts_in t xs ++ (n, GoesBack u, a) ∷ []
acts_push_back t xs e n u a own new = acts_push t xs e (n, GoesBack u, a) own new

-- none of them goes with the next one
abbrev pub AreSingle : List DoneAct → Type 0
AreSingle [] = Unit {0}
AreSingle (p ∷ ps) = (is_with_next p ps ≡ false) × AreSingle ps

pub acts_single : (t : TxId) (xs : History) → AreSingle (acts_in t xs)
acts_single t [] = tt
acts_single t (x ∷ xs) = at (act_of t (x.1).event (x.1).outcome) (acts_single t xs)
  where
    at : (o : Option DoneAct) → AreSingle (acts_in t xs) → AreSingle (with_act o (acts_in t xs))
    at None s = s
    at (Some p) s = cond_both (is_with_next p (acts_in t xs)) (acts_in t xs) (p ∷ acts_in t xs) AreSingle (λ e. s) (λ e. (e, s))

join_nothing : (ps : List DoneAct) → AreSingle ps → join_acts ps [] ≡ ps
join_nothing [] s = refl
join_nothing (p ∷ ps) s = ap (put_act p) (join_nothing ps s.1) ∙ cond-false _ ps (p ∷ ps) s.0

join_join : (ps qs rs : List DoneAct) → join_acts (ps ++ qs) rs ≡ join_acts ps (join_acts qs rs)
join_join [] qs rs = refl
join_join (p ∷ ps) qs rs = ap (put_act p) (join_join ps qs rs)

-- the going back that was the last act, on another shard, is the same act
pub acts_push_again : (t : TxId) (xs : History) (e : ℕ × Entry) (p : DoneAct) (ps : List DoneAct) → act_of t (e.1).event (e.1).outcome ≡ Some p → goes_back_as p.0 p ≡ true → acts_in t xs ≡ ps ++ p ∷ [] → acts_in t (xs ++ e ∷ []) ≡ acts_in t xs
acts_push_again t xs e p ps own back last =
    acts_append t xs (e ∷ [])
    ∙ ap (join_acts (acts_in t xs)) (ap (λ o. with_act o []) own)
    ∙ ap (λ qs. join_acts qs (p ∷ [])) last
    ∙ join_join ps (p ∷ []) (p ∷ [])
    ∙ ap (join_acts ps) (cond-true (goes_back_as p.0 p) (p ∷ []) (p ∷ p ∷ []) back)
    ∙ sym (join_join ps (p ∷ []) [])
    ∙ ap (λ qs. join_acts qs []) (sym last)
    ∙ join_nothing (acts_in t xs) (acts_single t xs)

-- ---- answers

pub answers_append : (ps qs : List DoneAct) → answers_given (ps ++ qs) ≡ answers_given ps ++ answers_given qs
answers_append [] qs = refl
answers_append (p ∷ ps) qs = ap (λ as_. answers_by p.2 ++ as_) (answers_append ps qs) ∙ sym (append_assoc (answers_by p.2) (answers_given ps) (answers_given qs))
