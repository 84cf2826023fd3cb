-- The place at which an entry is put.
use Rattle.std.proofs.Common.{◌≡◌, sym, ap, subst, ◌∙◌, ℕ, suc, ◌+◌, ◌<◌, true, false, cond, ◌∷◌, length, drop, get_or, drop-cons, arith}
use Rattle.std.specs.List.{insert}
use Rattle.clv_base.specs.declared.events.Entry.{Entry}
use Rattle.clv_base.specs.Core.{put_entry}
use Rattle.clv_base.specs.Journals.{History, comes_before}

-- where the entry is put among the rest, it is put among all
abbrev pub PutsBehind : ℕ × Entry → History → ℕ → Type 0
PutsBehind e h i = (k : ℕ) → insert (drop i h) k e ≡ put_entry e (drop i h) → insert h (i + k) e ≡ put_entry e h

cut : (h : History) (i : ℕ) (f : ℕ × Entry) → i < length h → f ≡ get_or h i f → drop i h ≡ f ∷ drop (suc i) h
cut h i f l is = drop-cons h i f l ∙ ap (λ x. x ∷ drop (suc i) h) (sym is)

pub puts_next : (e : ℕ × Entry) (h : History) (i : ℕ) (f : ℕ × Entry) → i < length h → f ≡ get_or h i f → comes_before e f ≡ false → PutsBehind e h i → PutsBehind e h (i + 1)
puts_next e h i f l is c b k p =
    let one : i + 1 ≡ suc i = omega arith in
    let q : insert (drop (suc i) h) k e ≡ put_entry e (drop (suc i) h) = subst (λ n. insert (drop n h) k e ≡ put_entry e (drop n h)) one p in
    let r : insert (f ∷ drop (suc i) h) (suc k) e ≡ put_entry e (f ∷ drop (suc i) h) =
    ap (λ l. f ∷ l) q ∙ sym (ap (λ x. cond x (e ∷ f ∷ drop (suc i) h) (f ∷ put_entry e (drop (suc i) h))) c) in
    let z : (i + 1) + k ≡ i + suc k = omega arith in
    ap (λ n. insert h n e) z ∙ b (suc k) (subst (λ t. insert t (suc k) e ≡ put_entry e t) (sym (cut h i f l is)) r)

pub puts_here : (e : ℕ × Entry) (h : History) (i : ℕ) (f : ℕ × Entry) → i < length h → f ≡ get_or h i f → comes_before e f ≡ true → PutsBehind e h i → insert h i e ≡ put_entry e h
puts_here e h i f l is c b =
    let r : insert (f ∷ drop (suc i) h) 0 e ≡ put_entry e (f ∷ drop (suc i) h) = sym (ap (λ x. cond x (e ∷ f ∷ drop (suc i) h) (f ∷ put_entry e (drop (suc i) h))) c) in
    let z : i ≡ i + 0 = omega arith in
    ap (λ n. insert h n e) z ∙ b 0 (subst (λ t. insert t 0 e ≡ put_entry e t) (sym (cut h i f l is)) r)
