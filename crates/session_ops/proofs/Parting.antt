-- Drops shard by shard.
use Rattle.std.proofs.Common.{◌≡◌, ◌∙◌, refl, ap, ℕ, ◌<◌, ◌≤◌, true, false, List, [], ◌∷◌, ◌++◌, Option, Result, Ok, Err, inl, inr}
use Rattle.std.specs.Prelude.{◌⊎◌}
use Rattle.std.specs.List.{AllByRecursion}
use Rattle.std.proofs.lemmas.Bool.{cases_lt}
use Rattle.clv_base.specs.declared.names.TxId.{TxId}
use Rattle.clv_base.specs.Sessions.{SessionState, Phase, Touching, Ended, Standing, Told, Refused, after_drop}
use Rattle.turn_lock.specs.declared.pass.Pass.{Pass}
use Rattle.machine_laws.specs.declared.notes.Note.{Note}
use Rattle.machine_laws.specs.declared.notes.Origin.{Origin}
use Rattle.cluster_turns.specs.declared.shards.WornClock.{WornClock}
use Rattle.cluster_turns.specs.CallTurns.{Turn, no_turn, AnyTurn}
use Rattle.cluster_turns.proofs.Laws.{turns_follow}
use Rattle.session_ops.specs.Dropped.{is_to_drop, is_worn, WornBy, worse, Dropping, IsLeft}

pub any_after : (P : Turn → Type 0) (xs ys : List Turn) → AnyTurn P ys → AnyTurn P (xs ++ ys)
any_after P [] ys h = h
any_after P (x ∷ xs) ys h = inr (any_after P xs ys h)

pub any_before : (P : Turn → Type 0) (xs ys : List Turn) → AnyTurn P xs → AnyTurn P (xs ++ ys)
any_before P [] ys h = absurd h
any_before P (x ∷ xs) ys (inl h) = inl h
any_before P (x ∷ xs) ys (inr h) = inr (any_before P xs ys h)

pub all_append : (P : Turn → Type 0) (xs ys : List Turn) → AllByRecursion P xs → AllByRecursion P ys → AllByRecursion P (xs ++ ys)
all_append P [] ys a b = b
all_append P (x ∷ xs) ys a b = (a.0, all_append P xs ys a.1 b)

worn_both : {A : Type 0} (q r : Result A WornClock) (xs ys : List Turn) → WornBy q xs → WornBy r ys → WornBy (worse q r) (xs ++ ys)
worn_both (Ok a) (Ok b) xs ys h k = all_append (λ t. is_worn t.answer ≡ false) xs ys h k
worn_both (Ok a) (Err worn) xs ys h k = any_after _ xs ys k
worn_both (Err worn) r xs ys h k = any_before _ xs ys h

module _ {T A : Type 0} where
  pub nothing_dropped : (w c : ℕ) (ps : List (Option (Pass T Note Origin))) (tx : TxId) (touched : List (ℕ × ℕ)) (except : Option ℕ) (n m : ℕ) (a : A)
      → ((k : ℕ) → n ≤ k → k < m → is_to_drop touched except k ≡ true → ⊥) → Dropping {T = T} {A = A} w c ps tx touched except n m (Ok a) c ps
  nothing_dropped w c ps tx touched except n m a none = record { turns = []; took = no_turn c ps; only = tt; each = λ k l u h. absurd (none k l u h); told = tt }

  pub drops_follow : (w c d e : ℕ) (ps qs rs : List (Option (Pass T Note Origin))) (tx : TxId) (touched : List (ℕ × ℕ)) (except : Option ℕ) (n m k : ℕ) (q r : Result A WornClock)
      → Dropping w c ps tx touched except n m q d qs → Dropping w d qs tx touched except m k r e rs → Dropping w c ps tx touched except n k (worse q r) e rs
  drops_follow w c d e ps qs rs tx touched except n m k q r a b = record {
    turns = a.turns ++ b.turns;
    took = turns_follow w c d e ps qs rs a.turns b.turns a.took b.took;
    only = all_append _ a.turns b.turns a.only b.only;
    each = λ i l u h. by i l u h (cases_lt i m);
    told = worn_both q r a.turns b.turns a.told b.told;
  }
    where
      by : (i : ℕ) → n ≤ i → i < k → is_to_drop touched except i ≡ true → (i < m) ⊎ (m ≤ i) → AnyTurn (λ t. t.shard ≡ i) (a.turns ++ b.turns)
      by i l u h (inl less) = any_before _ a.turns b.turns (a.each i l less h)
      by i l u h (inr more) = any_after _ a.turns b.turns (b.each i more u h)

-- ---- the place

pub same_but_self : (p : SessionState) → IsLeft p p
same_but_self p = inl refl

drops_twice : (x : Phase) → after_drop (after_drop x) ≡ after_drop x
drops_twice Touching = refl
drops_twice Ended = refl
drops_twice (Standing home) = refl
drops_twice Told = refl
drops_twice Refused = refl

pub same_but_follow : (p q r : SessionState) → IsLeft p q → IsLeft q r → IsLeft p r
same_but_follow p q r (inl a) (inl b) = inl (b ∙ a)
same_but_follow p q r (inl a) (inr b) = inr (b ∙ ap (λ (z : SessionState). record z { phase = after_drop z.phase }) a)
same_but_follow p q r (inr a) (inl b) = inr (b ∙ a)
same_but_follow p q r (inr a) (inr b) = inr (b ∙ ap (λ (z : SessionState). record z { phase = after_drop z.phase }) a ∙ ap (λ (x : Phase). record p { phase = x }) (drops_twice p.phase))

pub same_tx : (p q : SessionState) → IsLeft p q → q.tx ≡ p.tx
same_tx p q (inl h) = ap (λ z. z.tx) h
same_tx p q (inr h) = ap (λ z. z.tx) h

pub same_touched : (p q : SessionState) → IsLeft p q → q.touched ≡ p.touched
same_touched p q (inl h) = ap (λ z. z.touched) h
same_touched p q (inr h) = ap (λ z. z.touched) h
