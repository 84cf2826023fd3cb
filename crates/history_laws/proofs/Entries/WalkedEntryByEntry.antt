-- What holds of every shard and every entry along a history, by one entry more.
use Rattle.std.proofs.Common.{◌≡◌, ◌⊎◌, inl, inr, ⊎_elim, refl, sym, ap, subst, ◌∙◌, ℕ, ◌<◌, true, false, cond, Bool, List, [], ◌∷◌, ◌++◌, ◌==◌, eqb-true, append_assoc, append-nil}
use Rattle.std.specs.List.{AllByRecursion}
use Rattle.clv_base.specs.declared.logs.LogRecord.{LogRecord}
use Rattle.clv_base.specs.Shards.{shard_count}
use Rattle.clv_base.specs.LogRules.{log_of}
use Rattle.clv_base.specs.State.{Shard}
use Rattle.clv_base.specs.Journals.{History, start_of, after_entries, own}
use Rattle.clv_base.specs.History.{Legal, WasSent, MessagesSent}
use Rattle.history_cases.proofs.Merging.{Placed, Before, InOrder, in_order, before_then, not_before_itself, Among, among_all, among_append, among_left, among_right, front_precedes, precedes_before, Precedes}
use Rattle.history_cases.proofs.Worlds.{sent_at, state_at, Split, split_at, in_a_shard, other_journal}

-- ---- the entry behind a front of the history

pub record Behind (h pre : History) (x : Placed) : Type 0 where
  pub here : Among x h
  pub turn : (y : Placed) → Among y pre → Among y h × Before y x
  pub earlier : (y : Placed) → Among y h → Before y x → Among y pre

all_before : (pre : History) (x : Placed) (post : History) (y : Placed) → InOrder (pre ++ x ∷ post) → Among y pre → Before y x
all_before pre x post y o i = precedes_before y x (pre ++ x ∷ post) o (front_precedes y x pre (x ∷ post) i (inl refl))

earlier_is : (pre : History) (x : Placed) (post : History) (y : Placed) → InOrder (pre ++ x ∷ post) → Among y (pre ++ x ∷ post) → Before y x → Among y pre
earlier_is pre x post y o i b = at (among_append y pre (x ∷ post) i) (second_order pre x post o)
  where
    second_order : (pre : History) (x : Placed) (post : History) → InOrder (pre ++ x ∷ post) → AllByRecursion (Before x) post
    second_order [] x post o = o.0
    second_order (z ∷ zs) x post o = second_order zs x post o.1

    at : Among y pre ⊎ Among y (x ∷ post) → AllByRecursion (Before x) post → Among y pre
    at (inl j) a = j
    at (inr (inl q)) a = absurd (not_before_itself y x (sym q) b)
    at (inr (inr j)) a = absurd (not_before_itself y y refl (before_then y x y b (among_all (Before x) y post a j)))

pub behind_of : (splits : List ℕ) (before after : List (List LogRecord)) (h pre : History) (x : Placed) (post : History) → Legal splits before h after → pre ++ x ∷ post ≡ h → Behind h pre x
behind_of splits before after h pre x post l q =
    let o : InOrder (pre ++ x ∷ post) = subst InOrder (sym q) (in_order h l.ordered) in
    record {
      here = subst (Among x) q (among_right x pre (x ∷ post) (inl refl));
      turn = λ y i. (subst (Among y) q (among_left y pre (x ∷ post) i), all_before pre x post y o i);
      earlier = λ y i b. earlier_is pre x post y o (subst (Among y) (sym q) i) b;
    }

-- ---- one entry more

-- S holds of each shard's state after a front of the history, and M of each entry of the front
pub record Walked (S : History → ℕ → Shard → Type 0) (M : Placed → Type 0) (splits : List ℕ) (before after : List (List LogRecord)) (pre : History) : Type 0 where
  pub states : (n : ℕ) → n < shard_count splits → S pre n (state_at before after n pre)
  pub said : (x : Placed) → Among x pre → M x

-- the next entry of a history
pub record Entry_next (splits : List ℕ) (before after : List (List LogRecord)) (h pre : History) (e : Placed) : Type 0 where
  pub behind : Behind h pre e
  pub sent : WasSent pre (e.1).event
  pub below : e.0 < shard_count splits
  pub split : Split splits before after pre e

-- what an entry of one shard does to it, and leaves of the others
abbrev pub Steps : (History → ℕ → Shard → Type 0) → (Placed → Type 0) → List ℕ → List (List LogRecord) → List (List LogRecord) → History → Type 0
Steps S M splits before after h =
    (pre : History) (e : Placed) → Walked S M splits before after pre → Entry_next splits before after h pre e
    → S (pre ++ e ∷ []) e.0 (state_at before after e.0 (pre ++ e ∷ [])) × M e × ((n : ℕ) → n < shard_count splits → (e.0 == n) ≡ false → S pre n (state_at before after n pre) → S (pre ++ e ∷ []) n (state_at before after n pre))

next_walked : (S : History → ℕ → Shard → Type 0) (M : Placed → Type 0) (splits : List ℕ) (before after : List (List LogRecord)) (h pre : History) (e : Placed)
    → Walked S M splits before after pre → Steps S M splits before after h → Entry_next splits before after h pre e → Walked S M splits before after (pre ++ e ∷ [])
next_walked S M splits before after h pre e w k x = record {
  states = λ n m. at n m (e.0 == n) refl;
  said = λ y m. ⊎_elim (λ a. w.said y a) (λ b. last y b) (among_append y pre (e ∷ []) m);
}
  where
    at : (n : ℕ) → n < shard_count splits → (b : Bool) → (e.0 == n) ≡ b → S (pre ++ e ∷ []) n (state_at before after n (pre ++ e ∷ []))
    at n m true c = subst (λ j. S (pre ++ e ∷ []) j (state_at before after j (pre ++ e ∷ []))) (eqb-true e.0 n c) (k pre e w x).0
    at n m false c = subst (λ j. S (pre ++ e ∷ []) n (after_entries (log_of after n) (start_of before n) j)) (sym (other_journal n e pre c)) ((k pre e w x).2 n m c (w.states n m))

    last : (y : Placed) → Among y (e ∷ []) → M y
    last y (inl q) = subst M q (k pre e w x).1
    last y (inr q) = elim q [ ]

pub next_entry : (splits : List ℕ) (before after : List (List LogRecord)) (h pre : History) (e : Placed) (post : History) → Legal splits before h after → pre ++ e ∷ post ≡ h → Entry_next splits before after h pre e
next_entry splits before after h pre e post l q =
    let b = behind_of splits before after h pre e post l q in
    let n = in_a_shard splits before after h e l b.here in
    record { behind = b; sent = sent_at [] pre e post (subst (MessagesSent []) (sym q) l.messages); below = n; split = split_at splits before after h pre e post l q n }

walk : (S : History → ℕ → Shard → Type 0) (M : Placed → Type 0) (splits : List ℕ) (before after : List (List LogRecord)) (h pre post rest : History) → Legal splits before h after → pre ++ post ++ rest ≡ h → Steps S M splits before after h
    → Walked S M splits before after pre → Walked S M splits before after (pre ++ post)
walk S M splits before after h pre [] rest l q k w = subst (Walked S M splits before after) (sym (append-nil pre)) w
walk S M splits before after h pre (e ∷ post) rest l q k w =
    let x = next_entry splits before after h pre e (post ++ rest) l (sym (append_assoc pre (e ∷ post) rest) ∙ q) in
    subst (Walked S M splits before after) (append_assoc pre (e ∷ []) post)
    (walk S M splits before after h (pre ++ e ∷ []) post rest l (ap (λ z. z ++ rest) (append_assoc pre (e ∷ []) post) ∙ q) k (next_walked S M splits before after h pre e w k x))

-- from the shards as they open, through a front of the history
pub walked_front : (S : History → ℕ → Shard → Type 0) (M : Placed → Type 0) (splits : List ℕ) (before after : List (List LogRecord)) (h pre rest : History) → Legal splits before h after → pre ++ rest ≡ h
    → ((n : ℕ) → n < shard_count splits → S [] n (start_of before n)) → Steps S M splits before after h → Walked S M splits before after pre
walked_front S M splits before after h pre rest l q s k = walk S M splits before after h [] pre rest l q k (record { states = s; said = λ x i. elim i [ ] })

-- and through the whole of it
pub walked : (S : History → ℕ → Shard → Type 0) (M : Placed → Type 0) (splits : List ℕ) (before after : List (List LogRecord)) (h : History) → Legal splits before h after
    → ((n : ℕ) → n < shard_count splits → S [] n (start_of before n)) → Steps S M splits before after h → Walked S M splits before after h
walked S M splits before after h l s k = walked_front S M splits before after h h [] l (append-nil h) s k

-- ---- a walker's own entries

own_case : (w : ℕ) (y f : Placed) (fs : History) (b : Bool) → Among y (cond b (f ∷ own w fs) (own w fs)) → (Among y (own w fs) → Among y fs) → Among y (f ∷ fs)
own_case w y f fs true (inl q) k = inl q
own_case w y f fs true (inr m) k = inr (k m)
own_case w y f fs false m k = inr (k m)

pub from_own : (w : ℕ) (y : Placed) (h : History) → Among y (own w h) → Among y h
from_own w y [] m = elim m [ ]
from_own w y (f ∷ fs) m = own_case w y f fs ((f.1).walker == w) m (from_own w y fs)

pub first_among : (x y : Placed) (es : List Placed) → Precedes x y es → Among x es
first_among x y [] p = elim p [ ]
first_among x y (z ∷ zs) (inl p) = inl p.0
first_among x y (z ∷ zs) (inr p) = inr (first_among x y zs p)
