-- What was handed out, one after another.
use Rattle.std.proofs.Common.{◌≡◌, refl, sym, ap, ◌∙◌, subst, ℕ, suc, ◌<◌, ◌==◌, Bool, true, false, if◌then◌else◌, List, [], ◌∷◌, ◌++◌, map, slice_index_or, append_assoc, append-nil}
use Rattle.std.proofs.lemmas.List.{map-append}
use Rattle.rtrb.specs.Ring.{sent}
use Rattle.rtrb.specs.declared.producer.Producer.{Producer}
use Rattle.live_lines.specs.declared.calls.Asked.{Asked}
use Rattle.live_lines.specs.declared.calls.Reply.{Reply}
use Rattle.live_lines.specs.declared.calls.Reply.TheVariants.{Refused}
use Rattle.live_lines.specs.declared.calls.Refusal.{Refusal}
use Rattle.live_streams.specs.Inputs.{of_session}
use Rattle.live_streams.specs.Same.{same_producer, same_producers}
use Rattle.live_streams.specs.Handed.{HandsAll}

of_more : (t : Bool) (asked : Asked) (xs ys zs : List Asked) → xs ≡ ys ++ zs → (if t then asked ∷ xs else xs) ≡ (if t then asked ∷ ys else ys) ++ zs
of_more true asked xs ys zs is = ap (λ l. asked ∷ l) is
of_more false asked xs ys zs is = is

of_both : (k : ℕ) (h i : List (ℕ × Asked)) → of_session k (h ++ i) ≡ of_session k h ++ of_session k i
of_both k [] i = refl
of_both k ((j, asked) ∷ h) i = of_more (j == k) asked (of_session k (h ++ i)) (of_session k h) (of_session k i) (of_both k h i)

module _ {A P B Q : Type 0} where
  -- nothing was
  pub none_handed : (a : List (Producer Asked A P)) (o : Producer Reply B Q) → HandsAll [] [] a a o o
  none_handed a o = record {
    len = refl;
    same = λ k d below. same_producer (slice_index_or a k d);
    sends = λ k d below. sym (append-nil (sent (slice_index_or a k d)));
    same_own = same_producer o;
    refuses = sym (append-nil (sent o));
  }

  -- and more was
  pub handed_on :
      (h i : List (ℕ × Asked)) (r s : List Refusal) (a b c : List (Producer Asked A P)) (o p q : Producer Reply B Q) → HandsAll h r a b o p → HandsAll i s b c p q
      → HandsAll (h ++ i) (r ++ s) a c o q
  handed_on h i r s a b c o p q one more = record {
    len = more.len ∙ one.len;
    same = λ k d below. same_producers (slice_index_or a k d) (slice_index_or b k d) (slice_index_or c k d) (one.same k d below) (more.same k d (subst (λ n. k < n) (sym one.len) below));
    sends = λ k d below.
        more.sends k d (subst (λ n. k < n) (sym one.len) below)
        ∙ (ap (λ l. l ++ of_session (suc k) i) (one.sends k d below)
        ∙ (append_assoc (sent (slice_index_or a k d)) (of_session (suc k) h) (of_session (suc k) i) ∙ ap (λ l. sent (slice_index_or a k d) ++ l) (sym (of_both (suc k) h i))));
    same_own = same_producers o p q one.same_own more.same_own;
    refuses =
        more.refuses
        ∙ (ap (λ l. l ++ map Refused s) one.refuses
        ∙ (append_assoc (sent o) (map Refused r) (map Refused s) ∙ ap (λ l. sent o ++ l) (sym (map-append Refused r s))));
  }
