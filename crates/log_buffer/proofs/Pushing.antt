-- A chain with one more record.
use Rattle.std.proofs.Common.{◌≡◌, ℕ, zero, suc, ◌+◌, ◌-◌, ◌<◌, ◌≤◌, Bool, true, false, cond, List, [], ◌∷◌, ◌++◌, length, get_or, Option, Some, None, refl, sym, ap, subst, ◌∙◌, length-append, arith}
use Rattle.std.proofs.lemmas.Bool.{both_ways}
use Rattle.clv_base.specs.declared.names.TxId.{TxId}
use Rattle.clv_base.specs.Orders.{tx_same, tx_get}
use Rattle.clv_base.proofs.SameNames.{tx_true}
use Rattle.log_buffer.specs.declared.measured.Link.{Link}
use Rattle.log_buffer.specs.declared.measured.Link.TheVariants.{Writes, Undoes, Neither}
use Rattle.log_buffer.specs.declared.chain.Chain.{Chain}
use Rattle.log_buffer.specs.declared.chain.Written.{Written}
use Rattle.log_buffer.specs.Links.{undoes_of}
use Rattle.log_buffer.specs.Chains.{first, others, places_after, places, last_undo}
use Rattle.log_buffer.specs.Chained.{IsChainOf, Linked, written_in, known_by, with_write, with_undo}
use Rattle.log_buffer.proofs.Places.{places-snoc, last_undo-snoc, places_few}
use Rattle.law_base.proofs.Sets.{same_flip as tx_symmetric}

-- a write of the transaction
abbrev pub writes_of : TxId → Link → Bool
writes_of t (Writes u) = tx_same t u
writes_of t (Undoes u) = false
writes_of t Neither = false

get_left : (xs : List (Option ℕ)) (y : Option ℕ) (k : ℕ) → k < length xs → get_or (xs ++ y ∷ []) k None ≡ get_or xs k None
get_left [] y k l = absurd (omega arith)
get_left (x ∷ xs) y zero l = refl
get_left (x ∷ xs) y (suc k) l = get_left xs y k (omega arith)

get_last : (xs : List (Option ℕ)) (y : Option ℕ) → get_or (xs ++ y ∷ []) (length xs) None ≡ y
get_last [] y = refl
get_last (x ∷ xs) y = get_last xs y

-- what is linked stays so
pub Linked-more : (below : List (Option ℕ)) (b : Option ℕ) (ps : List ℕ) → Linked below ps → Linked (below ++ b ∷ []) ps
Linked-more below b [] h = tt
Linked-more below b (p ∷ ps) h = (simp length-append (omega (arith, h.0)), get_left below b p h.0 ∙ h.1, Linked-more below b ps h.2)

Linked-others : (below : List (Option ℕ)) (ps : List ℕ) → Linked below ps → Linked below (others ps)
Linked-others below [] h = tt
Linked-others below (p ∷ ps) h = h.2

Linked-push : (below : List (Option ℕ)) (ps : List ℕ) → Linked below ps → Linked (below ++ first ps ∷ []) (length below ∷ ps)
Linked-push below ps h = (simp length-append (omega arith), get_last below (first ps), Linked-more below (first ps) ps h)

-- the write below the newest one, as the newest one's place tells it
pub second_told : (below : List (Option ℕ)) (ps : List ℕ) (p : ℕ) → Linked below ps → first ps ≡ Some p → (p < length below) × (get_or below p None ≡ first (others ps))
second_told below [] p h e = absurd cc
second_told below (q ∷ ps) p h e = let s : q ≡ p = cc in (subst (λ k. k < length below) s h.0, subst (λ k. get_or below k None ≡ first ps) s h.1)

linked_after : (below : List (Option ℕ)) (b : Option ℕ) (t : TxId) (l : Link) (ps : List ℕ) → Linked below ps → (writes_of t l ≡ true → b ≡ first ps) → Linked (below ++ b ∷ []) (places_after t (length below) l ps)
linked_after below b t (Writes u) ps h e = at (tx_same t u) e
  where
    at : (s : Bool) → (s ≡ true → b ≡ first ps) → Linked (below ++ b ∷ []) (cond s (length below ∷ ps) ps)
    at true e = subst (λ x. Linked (below ++ x ∷ []) (length below ∷ ps)) (sym (e refl)) (Linked-push below ps h)
    at false e = Linked-more below b ps h
linked_after below b t (Undoes u) ps h e = at (tx_same t u)
  where
    at : (s : Bool) → Linked (below ++ b ∷ []) (cond s (others ps) ps)
    at true = Linked-more below b (others ps) (Linked-others below ps h)
    at false = Linked-more below b ps h
linked_after below b t Neither ps h e = Linked-more below b ps h

-- a record is pushed: its place tells the write below it, and what is known of each is told
pushed : (c d : Chain) (links : List Link) (l : Link) (b : Option ℕ) → IsChainOf c links → d.below.items ≡ c.below.items ++ b ∷ []
    → ((t : TxId) → known_by (tx_get t d.written.rows) ≡ written_in t (links ++ l ∷ [])) → ((t : TxId) → writes_of t l ≡ true → b ≡ first (places t links)) → IsChainOf d (links ++ l ∷ [])
pushed c d links l b h e written told = record {
  count = ap length e ∙ (length-append c.below.items (b ∷ []) ∙ (ap (λ n. n + 1) h.count ∙ sym (length-append links (l ∷ []))));
  written = written;
  below = λ t. subst (λ x. Linked x (places t (links ++ l ∷ []))) (sym e) (subst (Linked (c.below.items ++ b ∷ [])) (sym (places-snoc t links l))
      (subst (λ n. Linked (c.below.items ++ b ∷ []) (places_after t n l (places t links))) h.count (linked_after c.below.items b t l (places t links) (h.below t) (told t))));
}

-- ---- what is known of a transaction's writes, with one more record

abbrev told_of : List ℕ → Option ℕ → Written
told_of ps last = record { newest = first ps; standing = length ps; undone = last }

written_in-snoc : (t : TxId) (links : List Link) (l : Link)
    → written_in t (links ++ l ∷ []) ≡ told_of (places_after t (length links) l (places t links)) (cond (undoes_of t l) (Some (length links)) (last_undo t links))
written_in-snoc t links l =
    ap (λ ps. told_of ps (last_undo t (links ++ l ∷ []))) (places-snoc t links l) ∙ ap (told_of (places_after t (length links) l (places t links))) (last_undo-snoc t links l)

one_more : (n : ℕ) (ps : List ℕ) (last : Option ℕ) → told_of (n ∷ ps) last ≡ with_write n (told_of ps last)
one_more n ps last = let e : suc (length ps) ≡ length ps + 1 = omega arith in ap (λ k. record { newest = Some n; standing = k; undone = last }) e

one_fewer : (n : ℕ) (ps : List ℕ) (last : Option ℕ) → told_of (others ps) (Some n) ≡ with_undo n (first (others ps)) (told_of ps last)
one_fewer n [] last = refl
one_fewer n (p ∷ ps) last = let e : length ps ≡ suc (length ps) - 1 = omega arith in ap (λ k. record { newest = first ps; standing = k; undone = Some n }) e

-- after a write
row_written : (u t : TxId) (links : List Link) → written_in t (links ++ Writes u ∷ []) ≡ cond (tx_same u t) (with_write (length links) (written_in u links)) (written_in t links)
row_written u t links = written_in-snoc t links (Writes u) ∙ (at (tx_same t u) (tx_true t u) ∙ ap (λ b. cond b (with_write (length links) (written_in u links)) (written_in t links)) (tx_symmetric t u))
  where
    at : (s : Bool) → (s ≡ true → t ≡ u) → told_of (cond s (length links ∷ places t links) (places t links)) (last_undo t links) ≡ cond s (with_write (length links) (written_in u links)) (written_in t links)
    at true same = one_more (length links) (places t links) (last_undo t links) ∙ ap (λ x. with_write (length links) (written_in x links)) (same refl)
    at false same = refl

-- after a compensation
row_undone : (u t : TxId) (links : List Link)
    → written_in t (links ++ Undoes u ∷ []) ≡ cond (tx_same u t) (with_undo (length links) (first (others (places u links))) (written_in u links)) (written_in t links)
row_undone u t links =
    written_in-snoc t links (Undoes u)
    ∙ (at (tx_same t u) (tx_true t u) ∙ ap (λ b. cond b (with_undo (length links) (first (others (places u links))) (written_in u links)) (written_in t links)) (tx_symmetric t u))
  where
    at : (s : Bool) → (s ≡ true → t ≡ u) → told_of (cond s (others (places t links)) (places t links)) (cond s (Some (length links)) (last_undo t links))
        ≡ cond s (with_undo (length links) (first (others (places u links))) (written_in u links)) (written_in t links)
    at true same = one_fewer (length links) (places t links) (last_undo t links) ∙ ap (λ x. with_undo (length links) (first (others (places x links))) (written_in x links)) (same refl)
    at false same = refl

row_other : (t : TxId) (links : List Link) → written_in t (links ++ Neither ∷ []) ≡ written_in t links
row_other t links = written_in-snoc t links Neither

known_at : (s : Bool) (w : Written) (row : Option Written) → known_by (cond s (Some w) row) ≡ cond s w (known_by row)
known_at true w row = refl
known_at false w row = refl

-- ---- the three cases

module _ (c d : Chain) (links : List Link) (b : Option ℕ) (h : IsChainOf c links) (e : d.below.items ≡ c.below.items ++ b ∷ []) where
  pub pushed_write : (u : TxId) (n : ℕ) → n ≡ length c.below.items → ((t : TxId) → tx_get t d.written.rows ≡ cond (tx_same u t) (Some (with_write n (written_in u links))) (tx_get t c.written.rows))
      → b ≡ first (places u links) → IsChainOf d (links ++ Writes u ∷ [])
  pushed_write u n at written told = pushed c d links (Writes u) b h e
      (λ t. ap known_by (written t)
      ∙ (known_at (tx_same u t) (with_write n (written_in u links)) (tx_get t c.written.rows)
      ∙ (ap (cond (tx_same u t) (with_write n (written_in u links))) (h.written t)
      ∙ (ap (λ k. cond (tx_same u t) (with_write k (written_in u links)) (written_in t links)) (at ∙ h.count) ∙ sym (row_written u t links)))))
      (λ t s. told ∙ ap (λ x. first (places x links)) (sym (tx_true t u s)))

  pub pushed_undo : (u : TxId) (n : ℕ) → n ≡ length c.below.items
      → ((t : TxId) → tx_get t d.written.rows ≡ cond (tx_same u t) (Some (with_undo n (first (others (places u links))) (written_in u links))) (tx_get t c.written.rows)) → IsChainOf d (links ++ Undoes u ∷ [])
  pushed_undo u n at written = pushed c d links (Undoes u) b h e
      (λ t. ap known_by (written t)
      ∙ (known_at (tx_same u t) (with_undo n (first (others (places u links))) (written_in u links)) (tx_get t c.written.rows)
      ∙ (ap (cond (tx_same u t) (with_undo n (first (others (places u links))) (written_in u links))) (h.written t)
      ∙ (ap (λ k. cond (tx_same u t) (with_undo k (first (others (places u links))) (written_in u links)) (written_in t links)) (at ∙ h.count) ∙ sym (row_undone u t links)))))
      (λ t s. absurd (both_ways false refl s))

  pub pushed_other : ((t : TxId) → tx_get t d.written.rows ≡ tx_get t c.written.rows) → IsChainOf d (links ++ Neither ∷ [])
  pushed_other written = pushed c d links Neither b h e (λ t. ap known_by (written t) ∙ (h.written t ∙ sym (row_other t links))) (λ t s. absurd (both_ways false refl s))

-- no more writes stand than there are records
pub standing_few : (c : Chain) (links : List Link) (u : TxId) (w : Written) → IsChainOf c links → w ≡ written_in u links → w.standing ≤ length c.below.items
standing_few c links u w h e = let few = places_few u links in let told = ap (λ (x : Written). x.standing) e in let count = h.count in omega (arith, few, told, count)

-- ---- the second newest write

second_of_none : (ps : List ℕ) → first ps ≡ None → None ≡ first (others ps)
second_of_none [] e = refl
second_of_none (p ∷ ps) e = absurd cc

pub no_second : (links : List Link) (u : TxId) → first (places u links) ≡ None → None ≡ first (others (places u links))
no_second links u e = second_of_none (places u links) e

pub second_found : (c : Chain) (links : List Link) (u : TxId) (p : ℕ) → IsChainOf c links → first (places u links) ≡ Some p → get_or c.below.items p None ≡ first (others (places u links))
second_found c links u p h e = (second_told c.below.items (places u links) p (h.below u) e).1
