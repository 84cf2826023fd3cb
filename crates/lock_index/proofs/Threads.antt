-- Threads after an anchor was put first, and after the first was taken out.
use Rattle.std.proofs.Common.{◌≡◌, inl, inr, ⊎_elim, refl, sym, ap, ◌∙◌, subst, Bool, true, false, cond, not, ◌&&◌, ◌||◌, List, [], ◌∷◌, Option, Some, None, is_some}
use Rattle.std.proofs.lemmas.Bool.{cases_Bool, both_ways, and_parts}
use Rattle.std.specs.Option.{option_flatten}
use Rattle.clv_base.specs.declared.names.TxId.{TxId}
use Rattle.clv_base.specs.declared.modes.Anchor.{Anchor}
use Rattle.clv_base.specs.Orders.{tx_same, anchor_same}
use Rattle.clv_base.proofs.SameNames.{tx_true, tx_self}
use Rattle.lock_index.specs.Links.{Nexts, first, has, Path, Among, AllApart, Thread, TakesOut, same_place}
use Rattle.law_base.proofs.LockRows.{anchor_true, anchor_self}
use Rattle.lock_index.proofs.Closed.{followed}

and_no : (b : Bool) → (b && false) ≡ false
and_no true = refl
and_no false = refl

-- a thread of which each place is followed as before
framed : (N M : Nexts) (t : TxId) (p : Option Anchor) (bs : List Anchor) → ((b : Anchor) → Among b bs → M t (Some b) ≡ N t (Some b)) → Path N t p bs → Path M t p bs
framed N M t p [] same path = path
framed N M t p (b ∷ bs) same path = (path.0, (path.1.0, same b (inl refl) ∙ path.1.1, framed N M t path.1.0 bs (λ c i. same c (inr i)) path.1.2))

-- a thread that nothing changes
thread_alike : (N M : Nexts) (t : TxId) → ((p : Option Anchor) → M t p ≡ N t p) → Thread N t → Thread M t
thread_alike N M t same k = record {
  anchors = k.anchors;
  path = subst (λ o. Path M t o k.anchors) (sym (ap option_flatten (same None))) (framed N M t (first N t) k.anchors (λ b i. same (Some b)) k.path);
  apart = k.apart;
  all = λ a e. k.all a (sym (ap is_some (same (Some a))) ∙ e);
}

module _ (u : TxId) (a : Anchor) (N M : Nexts) where
  here_first : (w z : Option (Option Anchor)) → M u None ≡ cond (tx_same u u && same_place None None) w (cond (tx_same u u && same_place (Some a) None) z (N u None)) → M u None ≡ w
  here_first w z e = e ∙ ap (λ b. cond (b && true) w (cond (b && false) z (N u None))) (tx_self u)

  here_anchor : (w z : Option (Option Anchor)) → M u (Some a) ≡ cond (tx_same u u && same_place None (Some a)) w (cond (tx_same u u && same_place (Some a) (Some a)) z (N u (Some a))) → M u (Some a) ≡ z
  here_anchor w z e = e ∙ (ap (λ b. cond (b && false) w (cond (b && anchor_same a a) z (N u (Some a)))) (tx_self u) ∙ ap (λ b. cond b z (N u (Some a))) (anchor_self a))

  other_anchor : (w z : Option (Option Anchor)) (t : TxId) (b : Anchor) → (tx_same u t && anchor_same a b) ≡ false → M t (Some b) ≡ cond (tx_same u t && same_place None (Some b)) w (cond (tx_same u t && same_place (Some a) (Some b)) z (N t (Some b))) → M t (Some b) ≡ N t (Some b)
  other_anchor w z t b n e = e ∙ (ap (λ c. cond c w (cond (tx_same u t && anchor_same a b) z (N t (Some b)))) (and_no (tx_same u t)) ∙ ap (λ c. cond c z (N t (Some b))) n)

  other_tx : (w z : Option (Option Anchor)) (t : TxId) (p : Option Anchor) → tx_same u t ≡ false → M t p ≡ cond (tx_same u t && same_place None p) w (cond (tx_same u t && same_place (Some a) p) z (N t p)) → M t p ≡ N t p
  other_tx w z t p n e = e ∙ ap (λ c. cond (c && same_place None p) w (cond (c && same_place (Some a) p) z (N t p))) n

  abbrev Changed : Option (Option Anchor) → Option (Option Anchor) → Type 0
  Changed w z = (t : TxId) (p : Option Anchor) → M t p ≡ cond (tx_same u t && same_place None p) w (cond (tx_same u t && same_place (Some a) p) z (N t p))

  not_same : (b : Anchor) → (b ≡ a → ⊥) → (tx_same u u && anchor_same a b) ≡ false
  not_same b n = ⊎_elim (λ e. absurd (n (sym (anchor_true a b (and_parts (tx_same u u) (anchor_same a b) e).1)))) (λ e. e) (cases_Bool (tx_same u u && anchor_same a b))

  -- ---- put first

  pushed_own : Changed (Some (Some a)) (Some (first N u)) → N u (Some a) ≡ None → Thread N u → Thread M u
  pushed_own now new k = record {
    anchors = a ∷ k.anchors;
    path = (ap option_flatten (here_first (Some (Some a)) (Some (first N u)) (now u None)), (first N u, here_anchor (Some (Some a)) (Some (first N u)) (now u (Some a)), framed N M u (first N u) k.anchors (λ b i. other_anchor (Some (Some a)) (Some (first N u)) u b (not_same b (λ s. not_in b s i)) (now u (Some b))) k.path));
    apart = ((λ i. not_in a refl i), k.apart);
    all = λ b e. ⊎_elim (λ s. inl (sym (anchor_true a b s))) (λ s. inr (k.all b (sym (ap is_some (other_anchor (Some (Some a)) (Some (first N u)) u b (not_same b (λ q. both_ways (anchor_same a b) s (subst (λ c. anchor_same a c ≡ true) (sym q) (anchor_self a)))) (now u (Some b)))) ∙ e))) (cases_Bool (anchor_same a b));
  }
    where
      not_in : (b : Anchor) → b ≡ a → Among b k.anchors → ⊥
      not_in b s i = both_ways (has N u b) (ap (λ c. has N u c) s ∙ ap is_some new) (followed N u (first N u) k.anchors b k.path i)

  pub pushed : Changed (Some (Some a)) (Some (first N u)) → N u (Some a) ≡ None → ((t : TxId) → Thread N t) → (t : TxId) → Thread M t
  pushed now new k t = ⊎_elim
      (λ e. subst (λ v. Thread M v) (tx_true u t e) (pushed_own now new (k u)))
      (λ e. thread_alike N M t (λ p. other_tx (Some (Some a)) (Some (first N u)) t p e (now t p)) (k t))
      (cases_Bool (tx_same u t))

  pub pushed_has : Changed (Some (Some a)) (Some (first N u)) → (t : TxId) (b : Anchor) → has M t b ≡ ((anchor_same a b && tx_same u t) || has N t b)
  pushed_has now t b = ap is_some (now t (Some b)) ∙ go (tx_same u t) (anchor_same a b)
    where
      go : (x y : Bool) → is_some (cond (x && false) (Some (Some a)) (cond (x && y) (Some (first N u)) (N t (Some b)))) ≡ ((y && x) || has N t b)
      go true true = refl
      go true false = refl
      go false true = refl
      go false false = refl

  -- ---- taken out

  popped_own : (w : Option (Option Anchor)) → Changed w None → first N u ≡ Some a → option_flatten w ≡ option_flatten (N u (Some a)) → Thread N u → Thread M u
  popped_own w now is then k = go k.anchors k.path k.apart k.all
    where
      go : (bs : List Anchor) → Path N u (first N u) bs → AllApart bs → ((b : Anchor) → has N u b ≡ true → Among b bs) → Thread M u
      go [] path alone all = let no : Some a ≡ None = sym is ∙ path in absurd cc
      go (c ∷ bs) path alone all = let same : a ≡ c = (let s : Some a ≡ Some c = sym is ∙ path.0 in cc) in
          let n = path.1.0 in
          let begun : first M u ≡ n = ap option_flatten (here_first w None (now u None)) ∙ (then ∙ ap option_flatten (ap (λ z. N u (Some z)) same ∙ path.1.1)) in
          record {
            anchors = bs;
            path = subst (λ o. Path M u o bs) (sym begun) (framed N M u n bs (λ b i. other_anchor w None u b (not_same b (λ s. alone.0 (subst (λ z. Among z bs) (s ∙ same) i))) (now u (Some b))) path.1.2);
            apart = alone.1;
            all = λ b e. ⊎_elim
                (λ s. absurd (both_ways (has M u b) (ap (λ z. has M u z) (sym (anchor_true a b s)) ∙ ap is_some (here_anchor w None (now u (Some a)))) e))
                (λ s. ⊎_elim (λ q. absurd (both_ways (anchor_same a b) s (subst (λ z. anchor_same a z ≡ true) (same ∙ sym q) (anchor_self a)))) (λ i. i)
                (all b (sym (ap is_some (other_anchor w None u b (not_same b (λ q. both_ways (anchor_same a b) s (subst (λ z. anchor_same a z ≡ true) (sym q) (anchor_self a)))) (now u (Some b)))) ∙ e)))
                (cases_Bool (anchor_same a b));
          }

  pub popped : (w : Option (Option Anchor)) → Changed w None → first N u ≡ Some a → option_flatten w ≡ option_flatten (N u (Some a)) → ((t : TxId) → Thread N t) → (t : TxId) → Thread M t
  popped w now is then k t = ⊎_elim
      (λ e. subst (λ v. Thread M v) (tx_true u t e) (popped_own w now is then (k u)))
      (λ e. thread_alike N M t (λ p. other_tx w None t p e (now t p)) (k t))
      (cases_Bool (tx_same u t))

  popped_has : (w : Option (Option Anchor)) → Changed w None → (t : TxId) (b : Anchor) → has M t b ≡ (not (anchor_same a b && tx_same u t) && has N t b)
  popped_has w now t b = ap is_some (now t (Some b)) ∙ go (tx_same u t) (anchor_same a b)
    where
      go : (x y : Bool) → is_some (cond (x && false) w (cond (x && y) None (N t (Some b)))) ≡ (not (y && x) && has N t b)
      go true true = refl
      go true false = refl
      go false true = refl
      go false false = refl

  first_has : first N u ≡ Some a → Thread N u → has N u a ≡ true
  first_has is k = go k.anchors k.path
    where
      go : (bs : List Anchor) → Path N u (first N u) bs → has N u a ≡ true
      go [] path = let no : Some a ≡ None = sym is ∙ path in absurd cc
      go (c ∷ bs) path = let same : a ≡ c = (let s : Some a ≡ Some c = sym is ∙ path.0 in cc) in ap (λ z. has N u z) same ∙ ap is_some path.1.1

  pub popped_out : (w : Option (Option Anchor)) → Changed w None → first N u ≡ Some a → Thread N u → TakesOut u (Some a) N M
  popped_out w now is k = (first_has is k, popped_has w now)

-- a thread without a first anchor has none
pub none_out : (u : TxId) (N : Nexts) → first N u ≡ None → Thread N u → (b : Anchor) → has N u b ≡ false
none_out u N is k b = go k.anchors k.path k.all
  where
    go : (bs : List Anchor) → Path N u (first N u) bs → ((b : Anchor) → has N u b ≡ true → Among b bs) → has N u b ≡ false
    go [] path all = ⊎_elim (λ e. absurd (all b e)) (λ e. e) (cases_Bool (has N u b))
    go (c ∷ bs) path all = let no : None ≡ Some c = sym is ∙ path.0 in absurd cc

-- two writes, one after the other
pub twice : (u : TxId) (a : Anchor) (N L M : Nexts) (w z : Option (Option Anchor)) → ((t : TxId) (p : Option Anchor) → L t p ≡ cond (tx_same u t && same_place (Some a) p) z (N t p)) → ((t : TxId) (p : Option Anchor) → M t p ≡ cond (tx_same u t && same_place None p) w (L t p))
    → (t : TxId) (p : Option Anchor) → M t p ≡ cond (tx_same u t && same_place None p) w (cond (tx_same u t && same_place (Some a) p) z (N t p))
twice u a N L M w z l m t p = m t p ∙ ap (λ o. cond (tx_same u t && same_place None p) w o) (l t p)

-- the same, where what follows the beginning changes first
pub turned : (u : TxId) (a : Anchor) (N L M : Nexts) (w z : Option (Option Anchor)) → ((t : TxId) (p : Option Anchor) → L t p ≡ cond (tx_same u t && same_place None p) w (N t p)) → ((t : TxId) (p : Option Anchor) → M t p ≡ cond (tx_same u t && same_place (Some a) p) z (L t p))
    → (t : TxId) (p : Option Anchor) → M t p ≡ cond (tx_same u t && same_place None p) w (cond (tx_same u t && same_place (Some a) p) z (N t p))
turned u a N L M w z l m t p = m t p ∙ ap (λ o. cond (tx_same u t && same_place (Some a) p) z o) (l t p) ∙ go (tx_same u t) p
  where
    go : (x : Bool) (p : Option Anchor) → cond (x && same_place (Some a) p) z (cond (x && same_place None p) w (N t p)) ≡ cond (x && same_place None p) w (cond (x && same_place (Some a) p) z (N t p))
    go true None = refl
    go true (Some b) = refl
    go false p = refl
