-- The worked sessions, entry by entry.
use Rattle.std.proofs.Common.{◌≡◌, refl, sym, subst, ℕ, Bool, true, false, ◌||◌, ◌&&◌, ◌==◌, [], ◌∷◌, Option, Some, None}
use Rattle.clv_base.specs.declared.names.TxId.{TxId}
use Rattle.clv_base.specs.declared.names.Birth.{Birth}
use Rattle.clv_base.specs.declared.ops.Op.{Op}
use Rattle.clv_base.specs.declared.values.Value.TheVariants.{Num}
use Rattle.clv_base.specs.declared.ops.Op.TheVariants.{Get, Put, Scan}
use Rattle.clv_base.specs.declared.ops.Answer.{Answer}
use Rattle.clv_base.specs.declared.ops.Answer.TheVariants.{Value, Pairs}
use Rattle.clv_base.specs.declared.causes.AbortCause.TheVariants.{Died}
use Rattle.clv_base.specs.declared.events.Event.TheVariants.{Op as OpEvent, RollTo, Drop, Request, Look}
use Rattle.clv_base.specs.declared.events.Outcome.TheVariants.{Answered, Rolled, Dead, Dropped, Asked, Acknowledged}
use Rattle.session_books.specs.Done.{Did, WentBack}
use Rattle.script_runs.specs.declared.ends.StopCause.TheVariants as stop
use Rattle.script_runs.specs.declared.ends.TryEnd.TheVariants as end
use Rattle.script_runs.specs.Operations.{parts_of, answer_of, ArePartsAnswered, no_part, part, IsOperation}
use Rattle.script_runs.specs.Acts.{no_act, operation, going_back, is_touched, stands_on}
use Rattle.script_runs.specs.Tries.{Try, IsTry, acknowledged, by_line, in_operation, down, operation_begun}
use Rattle.script_runs.specs.Sessions.{further, last, none_left, all_done, done, stopped}
use Rattle.script_runs.specs.Examples.{splits, on, named, born, op, value, transfer, look_round, first_try, second_try, only_try, stopped_try, second_thought, thinking, TransferIsRetried, ScanIsStopped, SecondThoughtGoesBack}

-- an operation with one part
keyed : (tx : TxId) (birth : Birth) (nth n stamp epoch : ℕ) (seen : Option ℕ) (o : Op) (answer : Answer) → parts_of splits o ≡ (n, o) ∷ [] → answer ≡ answer_of o (answer ∷ [])
    → IsOperation splits tx birth nth o answer (on n stamp (OpEvent tx birth nth seen o) (Answered answer epoch) ∷ [])
keyed tx birth nth n stamp epoch seen o answer p a =
    record {
      answers = answer ∷ [];
      parts =
          subst (λ ps. ArePartsAnswered tx birth nth ps (answer ∷ []) (on n stamp (OpEvent tx birth nth seen o) (Answered answer epoch) ∷ [])) (sym p)
          (part (n, o) answer epoch _ [] [] [] (record { shard = refl; seen = seen; event = refl; outcome = refl }) no_part);
      whole = a;
    }

-- ---- the transfer

abbrev died : Try
died = record { tx = named 2 1; acts = Did (Get 1) (Value (Some (Num 100))) ∷ []; end = end.Aborted (Died (named 1 1)); entries = first_try }

died_is : IsTry splits transfer (born 1 1) died
died_is =
    record {
      before = on 0 2 (op 1 (born 1 1) 1 None (Get 1)) (value 100) ∷ [];
      behind = on 1 3 (op 1 (born 1 1) 2 None (Get 11)) (Dead (Died (named 1 1))) ∷ on 0 4 (Drop (named 2 1)) Dropped ∷ [];
      entries_are = refl;
      follows = refl;
      acts_are = operation _ _ _ _ _ _ [] _ refl (keyed (named 2 1) (born 1 1) 1 0 2 0 None (Get 1) (Value (Some (Num 100))) refl refl) (no_act _ _);
      ends =
          in_operation (Get 11) (Died (named 1 1)) 1 (on 1 3 (op 1 (born 1 1) 2 None (Get 11)) (Dead (Died (named 1 1))) ∷ []) (on 0 4 (Drop (named 2 1)) Dropped ∷ []) refl
          (record {
            done = [];
            next = (1, Get 11);
            left = [];
            parts = refl;
            answers = [];
            before = [];
            last = on 1 3 (op 1 (born 1 1) 2 None (Get 11)) (Dead (Died (named 1 1)));
            entries = refl;
            answered = no_part;
            died = record { shard = refl; seen = None; event = refl; outcome = refl };
            shard = refl;
          })
          (record { event = refl; outcome = refl; touched = refl; other = λ h. cc }, tt);
    }

abbrev committed : Try
committed = record { tx = named 2 2; acts = Did (Get 1) (Value (Some (Num 100))) ∷ Did (Get 11) (Value (Some (Num 5))) ∷ Did (Put 1 (Num 70)) (Value (Some (Num 100))) ∷ Did (Put 11 (Num 35)) (Value (Some (Num 5))) ∷ []; end = end.Acknowledged; entries = second_try }

committed_is : IsTry splits transfer (born 1 1) committed
committed_is =
    record {
      before =
          on 0 6 (op 2 (born 1 1) 1 None (Get 1)) (value 100) ∷ on 1 7 (op 2 (born 1 1) 2 None (Get 11)) (value 5) ∷ on 0 8 (op 2 (born 1 1) 3 (Some 0) (Put 1 (Num 70))) (value 100)
          ∷ on 1 9 (op 2 (born 1 1) 4 (Some 0) (Put 11 (Num 35))) (value 5) ∷ [];
      behind = on 0 10 (Request (named 2 2) ((0, 0) ∷ (1, 0) ∷ [])) Asked ∷ on 0 20 (Look (named 2 2)) Acknowledged ∷ [];
      entries_are = refl;
      follows = refl;
      acts_are =
          operation _ _ _ _ _ _ _ _ refl (keyed (named 2 2) (born 1 1) 1 0 6 0 None (Get 1) (Value (Some (Num 100))) refl refl)
          (operation _ _ _ _ _ _ _ _ refl (keyed (named 2 2) (born 1 1) 2 1 7 0 None (Get 11) (Value (Some (Num 5))) refl refl)
          (operation _ _ _ _ _ _ _ _ refl (keyed (named 2 2) (born 1 1) 3 0 8 0 (Some 0) (Put 1 (Num 70)) (Value (Some (Num 100))) refl refl)
          (operation _ _ _ _ _ _ _ _ refl (keyed (named 2 2) (born 1 1) 4 1 9 0 (Some 0) (Put 11 (Num 35)) (Value (Some (Num 5))) refl refl) (no_act _ _))));
      ends =
          acknowledged 0 _ _ (record { all = refl; ending_is = refl }) (record { shard = refl; touched = (0, 0) ∷ (1, 0) ∷ []; event = refl; outcome = refl })
          (record { shard = refl; event = refl; outcome = refl });
    }

-- ---- the scan

abbrev scanned : Try
scanned = record { tx = named 2 3; acts = Did (Scan 0 20) (Pairs ((1, Num 70) ∷ (11, Num 35) ∷ [])) ∷ []; end = end.Asked; entries = only_try }

scanned_is : IsTry splits look_round (born 21 3) scanned
scanned_is =
    record {
      before =
          on 0 22 (op 3 (born 21 3) 1 None (Scan 0 9)) (Answered (Pairs ((1, Num 70) ∷ [])) 0) ∷ on 1 23 (op 3 (born 21 3) 1 None (Scan 10 20)) (Answered (Pairs ((11, Num 35) ∷ [])) 0) ∷ [];
      behind = on 0 24 (Drop (named 2 3)) Dropped ∷ on 1 25 (Drop (named 2 3)) Dropped ∷ [];
      entries_are = refl;
      follows = refl;
      acts_are =
          operation _ _ _ _ _ _ [] _ refl
          (record {
            answers = Pairs ((1, Num 70) ∷ []) ∷ Pairs ((11, Num 35) ∷ []) ∷ [];
            parts =
                part _ _ 0 _ _ _ _ (record { shard = refl; seen = None; event = refl; outcome = refl })
                (part _ _ 0 _ _ _ _ (record { shard = refl; seen = None; event = refl; outcome = refl }) no_part);
            whole = refl;
          })
          (no_act _ _);
      ends =
          by_line _ (record { all = refl; ending_is = refl })
          (record { event = refl; outcome = refl; touched = refl; other = λ h. cc }, (record { event = refl; outcome = refl; touched = refl; other = λ h. cc }, tt));
    }

pub transfer_is_retried : TransferIsRetried
transfer_is_retried =
    record {
      transactions =
          (record { body = transfer; birth = born 1 1; tries = died ∷ committed ∷ [] }) ∷ (record { body = look_round; birth = born 21 3; tries = scanned ∷ [] }) ∷ [];
      in_order =
          done _ _ _ _
          (record {
            born = refl;
            named = (record { run_is = refl; session_is = refl }, (record { run_is = refl; session_is = refl }, tt));
            each = (died_is, (committed_is, tt));
            in_tries = further 1 died (committed ∷ []) None refl refl (last 2 committed refl);
          })
          (done _ _ _ _
          (record { born = refl; named = (record { run_is = refl; session_is = refl }, tt); each = (scanned_is, tt); in_tries = last 1 scanned refl })
          all_done);
      entries_are = refl;
      births_rise = refl;
      serials_rise = refl;
    }

-- ---- the scan that is stopped

abbrev begun : Try
begun = record { tx = named 2 2; acts = []; end = end.Stopped (stop.Down 1); entries = stopped_try }

begun_is : IsTry splits look_round (born 6 2) begun
begun_is =
    record {
      before = [];
      behind = stopped_try;
      entries_are = refl;
      follows = refl;
      acts_are = no_act _ _;
      ends =
          down 1 (on 0 7 (op 2 (born 6 2) 1 None (Scan 0 9)) (Answered (Pairs ((1, Num 100) ∷ [])) 0) ∷ []) (on 0 8 (Drop (named 2 2)) Dropped ∷ [])
          (operation_begun (Scan 0 20) _ refl
          (record {
            done = (0, Scan 0 9) ∷ [];
            next = (1, Scan 10 20);
            left = [];
            parts = refl;
            answers = Pairs ((1, Num 100) ∷ []) ∷ [];
            answered = part _ _ 0 _ _ _ _ (record { shard = refl; seen = None; event = refl; outcome = refl }) no_part;
          }))
          (record { event = refl; outcome = refl; touched = refl; other = λ h. cc }, tt);
    }

pub scan_is_stopped : ScanIsStopped
scan_is_stopped =
    record {
      transactions = (record { body = transfer; birth = born 1 1; tries = died ∷ [] }) ∷ (record { body = look_round; birth = born 6 2; tries = begun ∷ [] }) ∷ [];
      in_order =
          done _ _ _ _
          (record { born = refl; named = (record { run_is = refl; session_is = refl }, tt); each = (died_is, tt); in_tries = none_left 1 died refl refl })
          (stopped _ _ _ (record { born = refl; named = (record { run_is = refl; session_is = refl }, tt); each = (begun_is, tt); in_tries = last 1 begun refl }));
      entries_are = refl;
      births_rise = refl;
      serials_rise = refl;
    }

-- ---- the second thought

abbrev thought : Try
thought =
    record {
      tx = named 2 1;
      acts =
          Did (Put 5 (Num 1)) (Value None) ∷ Did (Put 5 (Num 2)) (Value (Some (Num 1))) ∷ Did (Get 5) (Value (Some (Num 2))) ∷ WentBack 1 ∷ Did (Get 5) (Value (Some (Num 1))) ∷ [];
      end = end.Acknowledged;
      entries = thinking;
    }

-- only the second write is numbered above 1
one_shard : (n : ℕ) → is_touched (on 0 5 (RollTo (named 2 1) 4 0 1) Rolled ∷ []) n ≡ stands_on 1 n ((0, 2) ∷ (0, 1) ∷ [])
one_shard n = at (0 == n)
  where
    at : (b : Bool) → b || false ≡ (b && true || (b && false || false))
    at true = refl
    at false = refl

thought_is : IsTry splits second_thought (born 1 1) thought
thought_is =
    record {
      before =
          on 0 2 (op 1 (born 1 1) 1 None (Put 5 (Num 1))) (Answered (Value None) 0) ∷ on 0 3 (op 1 (born 1 1) 2 (Some 0) (Put 5 (Num 2))) (value 1) ∷ on 0 4 (op 1 (born 1 1) 3 (Some 0) (Get 5)) (value 2)
          ∷ on 0 5 (RollTo (named 2 1) 4 0 1) Rolled ∷ on 0 6 (op 1 (born 1 1) 5 (Some 0) (Get 5)) (value 1) ∷ [];
      behind = on 0 7 (Request (named 2 1) ((0, 0) ∷ [])) Asked ∷ on 0 9 (Look (named 2 1)) Acknowledged ∷ [];
      entries_are = refl;
      follows = refl;
      acts_are =
          operation _ _ _ _ _ _ _ _ refl (keyed (named 2 1) (born 1 1) 1 0 2 0 None (Put 5 (Num 1)) (Value None) refl refl)
          (operation _ _ _ _ _ _ _ _ refl (keyed (named 2 1) (born 1 1) 2 0 3 0 (Some 0) (Put 5 (Num 2)) (Value (Some (Num 1))) refl refl)
          (operation _ _ _ _ _ _ _ _ refl (keyed (named 2 1) (born 1 1) 3 0 4 0 (Some 0) (Get 5) (Value (Some (Num 2))) refl refl)
          (going_back 4 _ 1 _ (on 0 5 (RollTo (named 2 1) 4 0 1) Rolled ∷ []) _ _ refl refl (record { rolled = ((record { seen = 0; event = refl; outcome = refl }, tt), refl); shards = one_shard })
          (operation _ _ _ _ _ _ _ _ refl (keyed (named 2 1) (born 1 1) 5 0 6 0 (Some 0) (Get 5) (Value (Some (Num 1))) refl refl) (no_act _ _)))));
      ends = acknowledged 0 _ _ (record { all = refl; ending_is = refl }) (record { shard = refl; touched = (0, 0) ∷ []; event = refl; outcome = refl }) (record { shard = refl; event = refl; outcome = refl });
    }

pub second_thought_goes_back : SecondThoughtGoesBack
second_thought_goes_back =
    record {
      transactions = (record { body = second_thought; birth = born 1 1; tries = thought ∷ [] }) ∷ [];
      in_order = done _ _ _ _ (record { born = refl; named = (record { run_is = refl; session_is = refl }, tt); each = (thought_is, tt); in_tries = last 1 thought refl }) all_done;
      entries_are = refl;
      births_rise = refl;
      serials_rise = refl;
    }
