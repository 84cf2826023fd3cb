-- The parts of a scan, one after another.
use Rattle.std.proofs.Common.{◌≡◌, ◌∙◌, refl, sym, ap, subst, ℕ, suc, ◌<◌, ◌+◌, List, [], ◌∷◌, ◌++◌, append_assoc, append-nil, length, Option, Some, None, Result, Ok, Err, arith, inl, inr}
use Rattle.clv_base.specs.declared.values.Value.{Value as ValueType}
use Rattle.clv_base.specs.declared.names.Birth.{Birth}
use Rattle.clv_base.specs.declared.ops.Answer.{Answer}
use Rattle.clv_base.specs.Sessions.{SessionState}
use Rattle.cluster_turns.specs.declared.shards.Shards.{Shards}
use Rattle.cluster_turns.specs.declared.shards.Walker.{Walker}
use Rattle.session_ops.specs.declared.operating.OpError.{OpError}
use Rattle.session_ops.specs.Scanned.{part_on, pairs_in, TakesPairs}
use Rattle.session_ops.specs.Stepped.{all_pairs, PartsMade, no_shard, passed_by, one_part, PartTold, Fails, PartFailed, PartsTold}

pairs_more : (answers : List Answer) (answer : Answer) → all_pairs (answers ++ answer ∷ []) ≡ all_pairs answers ++ pairs_in answer
pairs_more [] answer = append-nil (pairs_in answer)
pairs_more (a ∷ answers) answer = ap (λ l. pairs_in a ++ l) (pairs_more answers answer) ∙ sym (append_assoc (pairs_in a) (all_pairs answers) (pairs_in answer))

module _ {M S G : Type 0} (sh : Shards M S G) (birth : Birth) (nth lo hi : ℕ) (w : Walker M S G) (p : SessionState) where
  -- the parts so far, and their pairs
  pub record SoFar (n : ℕ) (ps : List (ℕ × ValueType)) (u : Walker M S G) (m : SessionState) : Type 0 where
    pub answers : List Answer
    pub parts : PartsMade sh birth nth lo hi w p n answers u m
    pub pairs : ps ≡ all_pairs answers

  pub none_so_far : (ps : List (ℕ × ValueType)) → ps ≡ [] → SoFar 0 ps w p
  none_so_far ps is = record { answers = []; parts = no_shard; pairs = is }

  pub more_so_far : (n : ℕ) (ps qs : List (ℕ × ValueType)) (u v : Walker M S G) (m q : SessionState) (x : Unit) → SoFar n ps u m → PartTold (part_on sh.splits n lo hi) sh birth nth n u m ps (Ok x) v q qs → SoFar (n + 1) qs v q
  more_so_far n ps qs u v m q x s told = subst (λ k. SoFar k qs v q) (let k : suc n ≡ n + 1 = omega arith in k) (at (part_on sh.splits n lo hi) refl told)
    where
      at : (o : Option (ℕ × ℕ)) → part_on sh.splits n lo hi ≡ o → PartTold o sh birth nth n u m ps (Ok x) v q qs → SoFar (suc n) qs v q
      at None is (ok, walker, place, pairs) =
          record {
            answers = s.answers;
            parts = subst (λ z. PartsMade sh birth nth lo hi w p (suc n) s.answers z q) (sym walker) (subst (PartsMade sh birth nth lo hi w p (suc n) s.answers u) (sym place) (passed_by n s.answers u m s.parts is));
            pairs = pairs ∙ s.pairs;
          }
      at (Some part) is (Ok answer, made, taken) =
          record {
            answers = s.answers ++ answer ∷ [];
            parts = one_part n s.answers u v m q part answer s.parts is made;
            pairs = taken ∙ ap (λ l. l ++ pairs_in answer) s.pairs ∙ sym (pairs_more s.answers answer);
          }
      at (Some part) is (Err e, made, taken) = absurd cc

  pub part_fails : (n : ℕ) (ps qs : List (ℕ × ValueType)) (u v : Walker M S G) (m q : SessionState) (e : OpError) → n < length sh.locks.items → SoFar n ps u m → PartTold (part_on sh.splits n lo hi) sh birth nth n u m ps (Err e) v q qs
      → PartFailed sh birth nth lo hi w p e v q
  part_fails n ps qs u v m q e below s told = at (part_on sh.splits n lo hi) refl told
    where
      fails : (answer : Result Answer OpError) → TakesPairs ps answer (Err e) qs → Fails answer e
      fails (Ok answer) taken = inr ((answer, refl), taken)
      fails (Err f) taken = inl (ap (λ z. Err z) (let same : f ≡ e = cc in same))

      at : (o : Option (ℕ × ℕ)) → part_on sh.splits n lo hi ≡ o → PartTold o sh birth nth n u m ps (Err e) v q qs → PartFailed sh birth nth lo hi w p e v q
      at None is (ok, walker, place, pairs) = absurd cc
      at (Some part) is (answer, made, taken) = record {
        shard = n;
        below = below;
        answers = s.answers;
        walker = u;
        middle = m;
        before = s.parts;
        part = part;
        meets = is;
        answer = answer;
        made = made;
        fails = fails answer taken;
      }

  pub parts_told : (n : ℕ) (ps : List (ℕ × ValueType)) (v : Walker M S G) (q : SessionState) → n ≡ length sh.locks.items → SoFar n ps v q → PartsTold sh birth nth lo hi w p (Ok ps) v q
  parts_told n ps v q all s = (s.answers, subst (λ k. PartsMade sh birth nth lo hi w p k s.answers v q) all s.parts, s.pairs)
