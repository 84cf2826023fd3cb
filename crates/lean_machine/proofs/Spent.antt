-- What the machine tests is that a request is spent.
use Rattle.std.proofs.Common.{◌≡◌, refl, ap, ℕ, suc, ◌==◌, eqb-true, Bool, true, false, cond, not, ◌&&◌, ◌||◌, List, [], ◌∷◌, Option, Some, None, length, arith}
use Rattle.std.specs.List.{list_all, list_any}
use Rattle.std.specs.List.Sorted.{IsStrictlySortedBy}
use Rattle.std.specs.Map.{keys_of}
use Rattle.std.proofs.lemmas.Bool.{both_ways, and_parts}
use Rattle.clv_base.specs.declared.names.TxId.{TxId}
use Rattle.clv_base.specs.declared.state.Request.{Request}
use Rattle.clv_base.specs.declared.state.RequestState.{RequestState}
use Rattle.clv_base.specs.declared.state.RequestState.TheVariants.{Undecided, Committed, Finished, Refused}
use Rattle.clv_base.specs.declared.state.Ruling.TheVariants.{End as EndVerdict}
use Rattle.clv_base.specs.declared.state.Stage.{Stage}
use Rattle.clv_base.specs.declared.state.Stage.TheVariants.{Active, Closed, Gone}
use Rattle.clv_base.specs.Orders.{tx_cmp, tx_get, nat_in}
use Rattle.clv_base.specs.Logs.{committed_in}
use Rattle.clv_base.specs.State.{Shard, is_present}
use Rattle.clv_base.specs.Undo.{stage_of}
use Rattle.clv_base.specs.Facts.{doom_by}
use Rattle.clv_base.specs.Coordinator.{others, end_ruling}
use Rattle.two_phase_commit.specs.Waiting.{waits_in}
use Rattle.two_phase_commit.specs.Completed.{is_final, complete_by, is_finished, is_spent}
use Rattle.ended_laws.specs.Requests.{IsDone, IsSpent, is_by_log}

pub finished_is : (o : Option Stage) → is_finished o ≡ true → o ≡ Some (Gone None)
finished_is None e = absurd (both_ways false refl e)
finished_is (Some Active) e = absurd (both_ways false refl e)
finished_is (Some Closed) e = absurd (both_ways false refl e)
finished_is (Some (Gone None)) e = refl
finished_is (Some (Gone (Some doom))) e = absurd (both_ways false refl e)

is_not : (b : Bool) → not b ≡ true → b ≡ false
is_not true e = absurd (both_ways false refl e)
is_not false e = refl

no_others : (shard : ℕ) (touched : List (ℕ × ℕ)) → list_any (λ t. not (t.0 == shard)) touched ≡ false → others shard touched ≡ []
no_others shard [] e = refl
no_others shard (t ∷ ts) e = at (t.0 == shard) e (no_others shard ts)
  where
    at : (b : Bool) → (not b || list_any (λ t. not (t.0 == shard)) ts) ≡ false → (list_any (λ t. not (t.0 == shard)) ts ≡ false → others shard ts ≡ []) → cond (not b) (t.0 ∷ others shard ts) (others shard ts) ≡ []
    at true f more = more f
    at false f more = absurd (both_ways true f refl)

nothing : {X : Type 0} (xs : List X) → (length xs == 0) ≡ true → xs ≡ []
nothing [] e = refl
nothing (x ∷ xs) e = let f = eqb-true (suc (length xs)) 0 e in absurd (omega (arith, f))

no_end : (q : Request) (parts : List ℕ) → ((length parts == 0) || q.is_ended) ≡ true → end_ruling q parts ≡ None
no_end q [] e = refl
no_end q (p ∷ ps) e = at q.is_ended (length (p ∷ ps) == 0) refl e
  where
    at : (b c : Bool) → (length (p ∷ ps) == 0) ≡ c → (c || b) ≡ true → cond (not b && list_all (λ n. nat_in n q.acknowledged_by) (p ∷ ps)) (Some EndVerdict) None ≡ None
    at true c f g = refl
    at false true f g = let h = eqb-true (suc (length ps)) 0 f in absurd (omega (arith, h))
    at false false f g = absurd (both_ways false refl g)

done_is : (s : Shard) (tx : TxId) (q : Request) (st : RequestState) → committed_in s.local.log tx ≡ true → stage_of s.local tx ≡ Some (Gone None) → waits_in s.shard q st ≡ false → is_final q st ≡ true → IsDone s tx q st
done_is s tx q Undecided c g w f = (no_others s.shard q.touched w, nothing q.votes f, c, ap doom_by g)
done_is s tx q (Committed parts) c g w f = (c, is_true (list_all (λ p. nat_in p q.acknowledged_by) parts) w, no_end q parts f)
  where
    is_true : (b : Bool) → not b ≡ false → b ≡ true
    is_true true e = refl
    is_true false e = absurd (both_ways true e refl)
done_is s tx q Finished c g w f = tt
done_is s tx q (Refused cause) c g w f = tt

by_log_is : (q : Request) (st : RequestState) → is_final q st ≡ true → is_by_log st ≡ true
by_log_is q Undecided f = refl
by_log_is q (Committed parts) f = refl
by_log_is q Finished f = f
by_log_is q (Refused cause) f = f

-- the row that the transaction has, and that it is spent
pub record Found (s : Shard) (tx : TxId) : Type 0 where
  pub request : Request
  pub kept : tx_get tx s.requests ≡ Some request
  pub spent : IsSpent s tx request

pub spent_is : (s : Shard) (tx : TxId) → is_spent s tx ≡ true → IsStrictlySortedBy tx_cmp (keys_of s.requests) → Found s tx
spent_is s tx e rises = at (tx_get tx s.requests) refl second.1
  where
    first : (is_finished (stage_of s.local tx) ≡ true) × ((committed_in s.local.log tx && complete_by s.shard (tx_get tx s.requests)) ≡ true)
    first = and_parts (is_finished (stage_of s.local tx)) (committed_in s.local.log tx && complete_by s.shard (tx_get tx s.requests)) e

    second : (committed_in s.local.log tx ≡ true) × (complete_by s.shard (tx_get tx s.requests) ≡ true)
    second = and_parts (committed_in s.local.log tx) (complete_by s.shard (tx_get tx s.requests)) first.1

    gone : stage_of s.local tx ≡ Some (Gone None)
    gone = finished_is (stage_of s.local tx) first.0

    at : (o : Option Request) → tx_get tx s.requests ≡ o → complete_by s.shard o ≡ true → Found s tx
    at None k c = absurd (both_ways false refl c)
    at (Some q) k c =
        let p = and_parts (not (waits_in s.shard q q.state)) (is_final q q.state) c in
        record {
          request = q;
          kept = k;
          spent = record {
            over = record { rises = rises; kept = k; is_gone = ap is_present gone; is_done = done_is s tx q q.state second.0 gone (is_not (waits_in s.shard q q.state) p.0) p.1 };
            finished = gone;
            by_log = by_log_is q q.state p.1;
          };
        }
