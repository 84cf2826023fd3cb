-- Within an entry the log only grows, and what is durable is what was.
use Rattle.std.proofs.Common.{◌≡◌, refl, sym, subst, ◌∙◌, ℕ, suc, ◌+◌, ◌≤◌, true, false, cond, Bool, ◌||◌, List, [], ◌∷◌, ◌++◌, Option, Some, length, arith}
use Rattle.std.specs.List.{list_any}
use Rattle.std.proofs.lemmas.Bool.{both_ways}
use Rattle.clv_base.specs.declared.names.TxId.{TxId}
use Rattle.clv_base.specs.declared.names.Birth.{Birth}
use Rattle.clv_base.specs.declared.ops.Op.{Op}
use Rattle.clv_base.specs.declared.ops.Answer.{Answer}
use Rattle.clv_base.specs.declared.causes.AbortCause.{AbortCause}
use Rattle.clv_base.specs.declared.causes.Vote.{Vote}
use Rattle.clv_base.specs.declared.causes.Vote.TheVariants.{Yes, Read, No}
use Rattle.clv_base.specs.declared.logs.LogRecord.{LogRecord}
use Rattle.clv_base.specs.declared.state.Voter.{Voter}
use Rattle.clv_base.specs.declared.state.Request.{Request}
use Rattle.clv_base.specs.declared.state.Ruling.{Ruling}
use Rattle.clv_base.specs.declared.state.Ruling.TheVariants.{Commit as CommitVerdict, Acknowledge, Abort as AbortVerdict, End as EndVerdict}
use Rattle.clv_base.specs.declared.events.Event.{Event}
use Rattle.clv_base.specs.declared.events.Outcome.{Outcome}
use Rattle.clv_base.specs.Logs.{place_from, is_commit_of}
use Rattle.clv_base.specs.Needs.{writes_of, value_at, key_of}
use Rattle.clv_base.specs.State.{Shard, Local, is_present}
use Rattle.clv_base.specs.OneShard.{OpDies, OpAnswers, locked}
use Rattle.clv_base.specs.Undo.{stage_of}
use Rattle.clv_base.specs.Due.{finish_reader, with_vote, do_ruling, with_ruling}
use Rattle.law_base.proofs.Commits.{place_keeps, place_some, commit_durable, durable_parts, durable_from}
use Rattle.protocol_laws.specs.Growth.{IsPrefixOf}
use Rattle.protocol_laws.proofs.LogOnlyGrows.DueGrowsLogs.{same, more, more_twice, chain}
use Rattle.protocol_laws.proofs.LogOnlyGrows.{writes, rolled_if}
use Rattle.history_cases.proofs.Stepping.{commits, votes, rules, KeptByDue, Step, op_dies, op_answers, request_refused, request_doomed, request_again, request_closes, looks_well, looks_ill, drops, prepare_closes, decision_comes, rolls_back}
use Rattle.history_laws.proofs.Entries.WhatOperationsDo.{OpIs, dies, rolls, performs, reply_is}

pub record Inside (s t : Shard) : Type 0 where
  pub shard : t.shard ≡ s.shard
  pub durable : t.durable ≡ s.durable
  pub log : IsPrefixOf s.local.log t.local.log

pub inside_self : (s : Shard) → Inside s s
inside_self s = record { shard = refl; durable = refl; log = same s.local.log }

pub inside_then : (s t u : Shard) → Inside s t → Inside t u → Inside s u
inside_then s t u p q = record { shard = q.shard ∙ p.shard; durable = q.durable ∙ p.durable; log = chain s.local.log t.local.log u.local.log p.log q.log }

-- ---- what is durable

place_after : (n : ℕ) (test : LogRecord → Bool) (xs ys : List LogRecord) (k : ℕ) → list_any test xs ≡ false → place_from n test (xs ++ ys) ≡ Some k → n + length xs ≤ k
place_after n test [] ys k none e = from n ys k e
  where
    from : (n : ℕ) (ys : List LogRecord) (k : ℕ) → place_from n test ys ≡ Some k → n + 0 ≤ k
    from n [] k e = absurd cc
    from n (y ∷ ys) k e = at (test y) e (from (suc n) ys k)
      where
        at : (b : Bool) → cond b (Some n) (place_from (suc n) test ys) ≡ Some k → (place_from (suc n) test ys ≡ Some k → suc n + 0 ≤ k) → n + 0 ≤ k
        at true e ih = let q : n ≡ k = cc in omega (arith, q)
        at false e ih = let l = ih e in omega (arith, l)
place_after n test (x ∷ xs) ys k none e = at (test x) none e (place_after (suc n) test xs ys k)
  where
    at : (b : Bool) → (b || list_any test xs) ≡ false → cond b (Some n) (place_from (suc n) test (xs ++ ys)) ≡ Some k
        → (list_any test xs ≡ false → place_from (suc n) test (xs ++ ys) ≡ Some k → suc n + length xs ≤ k) → n + length (x ∷ xs) ≤ k
    at true none e ih = absurd (both_ways true none refl)
    at false none e ih = let l = ih none e in omega (arith, l)

-- a COMMIT below the end of a log's front stands in the front
pub durable_back : (log more_of : List LogRecord) (d : ℕ) (tx : TxId) → d ≤ length log → commit_durable (log ++ more_of) d tx ≡ true → commit_durable log d tx ≡ true
durable_back log more_of d tx l h = at (list_any (is_commit_of tx) log) refl
  where
    at : (b : Bool) → list_any (is_commit_of tx) log ≡ b → commit_durable log d tx ≡ true
    at true e =
        let k = durable_parts (log ++ more_of) d tx h in
        let p = place_some 0 (is_commit_of tx) log e in
        let q : Some p.0 ≡ Some k.0 = sym (place_keeps 0 (is_commit_of tx) log more_of p.0 p.1) ∙ k.1 in
        let r : p.0 ≡ k.0 = cc in
        durable_from log d tx p.0 p.1 (let m = k.2 in omega (arith, r, m))
    at false e =
        let k = durable_parts (log ++ more_of) d tx h in
        let p = place_after 0 (is_commit_of tx) log more_of k.0 e k.1 in
        absurd (let m = k.2 in omega (arith, p, m, l))

pub durable_before : (s t : Shard) (tx : TxId) → Inside s t → s.durable ≤ length s.local.log → commit_durable t.local.log t.durable tx ≡ true → commit_durable s.local.log s.durable tx ≡ true
durable_before s t tx p l h =
    durable_back s.local.log (p.log).0 s.durable tx l
    (subst (λ d. commit_durable (s.local.log ++ (p.log).0) d tx ≡ true) p.durable (subst (λ z. commit_durable z t.durable tx ≡ true) (sym (p.log).1) h))

-- ---- each thing that is due

inside_reader : (s0 s : Shard) (tx : TxId) (v : Voter) (vote : Vote) → Inside s0 s → Inside s0 (finish_reader tx vote (with_vote s tx v vote))
inside_reader s0 s tx v Yes p = record { shard = p.shard; durable = p.durable; log = p.log }
inside_reader s0 s tx v Read p = record { shard = p.shard; durable = p.durable; log = p.log }
inside_reader s0 s tx v (No why) p = record { shard = p.shard; durable = p.durable; log = p.log }

inside_ruling : (s0 s : Shard) (tx : TxId) (q : Request) (r : Ruling) → Inside s0 s → Inside s0 (do_ruling tx r (with_ruling tx q r s))
inside_ruling s0 s tx q (CommitVerdict parts) p = record { shard = p.shard; durable = p.durable; log = chain s0.local.log s.local.log _ p.log (more s.local.log _) }
inside_ruling s0 s tx q Acknowledge p = record { shard = p.shard; durable = p.durable; log = p.log }
inside_ruling s0 s tx q (AbortVerdict cause to) p = record { shard = p.shard; durable = p.durable; log = chain s0.local.log s.local.log _ p.log (more_twice s.local.log _ _) }
inside_ruling s0 s tx q EndVerdict p = record { shard = p.shard; durable = p.durable; log = chain s0.local.log s.local.log _ p.log (more s.local.log _) }

pub inside_due : (s0 : Shard) → KeptByDue (Inside s0)
inside_due s0 s _ (commits tx a b) p = record { shard = p.shard; durable = p.durable; log = p.log }
inside_due s0 s _ (votes tx v vote a b) p = inside_reader s0 s tx v vote p
inside_due s0 s _ (rules tx q r a b) p = inside_ruling s0 s tx q r p

-- ---- each step

dying : (l m : Local) (tx : TxId) (birth : Birth) (seen : Option ℕ) (op : Op) (c : AbortCause) → OpIs l tx birth seen op (OpDies c m) → IsPrefixOf l.log m.log
dying l _ tx birth seen op c dies = same l.log
dying l _ tx birth seen op c rolls = more_twice l.log _ _

answering : (l m : Local) (tx : TxId) (birth : Birth) (seen : Option ℕ) (op : Op) (a : Answer) → OpIs l tx birth seen op (OpAnswers a m) → IsPrefixOf l.log m.log
answering l _ tx birth seen op _ (performs f e) = writes (locked tx birth op l) tx (writes_of op (value_at (key_of op) l.records))

pub inside_step : (s t : Shard) {e : Event} {o : Outcome} → Step s e o t → Inside s t
inside_step s _ (op_dies tx birth nth seen op cause l h) = record { shard = refl; durable = refl; log = dying s.local l tx birth seen op cause (reply_is s.shard s.local tx birth seen op _ h) }
inside_step s _ (op_answers tx birth nth seen op answer l h) = record { shard = refl; durable = refl; log = answering s.local l tx birth seen op answer (reply_is s.shard s.local tx birth seen op _ h) }
inside_step s _ (rolls_back tx nth seen upto f h) = record { shard = refl; durable = refl; log = more s.local.log _ }
inside_step s _ (request_refused tx ts cause h) = inside_self s
inside_step s _ (request_doomed tx ts doom h) = inside_self s
inside_step s _ (request_again tx ts f0 h) = inside_self s
inside_step s _ (request_closes tx ts f0 h) = record { shard = refl; durable = refl; log = more s.local.log _ }
inside_step s _ (looks_well tx h) = inside_self s
inside_step s _ (looks_ill tx cause d h) = inside_self s
inside_step s _ (drops tx stage h) = record { shard = refl; durable = refl; log = rolled_if s.local tx (is_present (stage_of s.local tx)) }
inside_step s _ (prepare_closes tx home seen stamp h) = record { shard = refl; durable = refl; log = more s.local.log _ }
inside_step s _ (decision_comes tx home true stamp h) = record { shard = refl; durable = refl; log = more s.local.log _ }
inside_step s _ (decision_comes tx home false stamp h) = record { shard = refl; durable = refl; log = more_twice s.local.log _ _ }
inside_step s _ _ = record { shard = refl; durable = refl; log = same s.local.log }
