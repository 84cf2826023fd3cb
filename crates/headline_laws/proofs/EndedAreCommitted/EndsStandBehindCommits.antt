-- ENDs of a log: each stands behind a COMMIT of its transaction. And what adds none.
use Rattle.std.proofs.Common.{◌≡◌, ◌⊎◌, inl, inr, ⊎_elim, refl, sym, ap, subst, ◌∙◌, ℕ, zero, suc, true, false, cond, not, ◌||◌, Bool, List, [], ◌∷◌, ◌++◌, map, Option, Some, None, append-nil, append_assoc}
use Rattle.std.specs.Prelude.{⊤, take, drop}
use Rattle.std.specs.List.{AllByRecursion, filter}
use Rattle.std.proofs.lemmas.Bool.{both_ways, or_cases, or_left, or_from}
use Rattle.std.proofs.lemmas.List.{take-append-drop}
use Rattle.std.proofs.lemmas.List.Folds.{list_any-append}
use Rattle.clv_base.specs.declared.names.TxId.{TxId}
use Rattle.clv_base.specs.declared.names.Birth.{Birth}
use Rattle.clv_base.specs.declared.ops.Op.{Op}
use Rattle.clv_base.specs.declared.ops.Answer.{Answer}
use Rattle.clv_base.specs.declared.causes.AbortCause.{AbortCause}
use Rattle.clv_base.specs.declared.events.Event.{Event}
use Rattle.clv_base.specs.declared.events.Outcome.{Outcome}
use Rattle.clv_base.specs.declared.logs.LogRecord.{LogRecord}
use Rattle.clv_base.specs.declared.logs.LogRecord.TheVariants.{Update, Clr, Prepare, Commit, Abort, End, Restart, Add, Unadd, Forgotten, Check}
use Rattle.clv_base.specs.Orders.{tx_same, nat_in}
use Rattle.clv_base.specs.declared.changes.Change.{Change}
use Rattle.clv_base.specs.declared.changes.Change.TheVariants.{Sets, Adds}
use Rattle.clv_base.specs.Logs.{StandingUpdate, is_end_of, ended_in, committed_in, aborted_in, commit_parts, standing, has_standing}
use Rattle.clv_base.specs.State.{Shard, Local, is_present}
use Rattle.clv_base.specs.Undo.{stage_of, aborts_of, clrs_of, newest_lsn, doomed_here, roll_back, compensation, is_of, clrs_by, newest_lsns, is_at, roll_to}
use Rattle.clv_base.specs.Facts.{undecided_of}
use Rattle.clv_base.specs.Coordinator.{others}
use Rattle.clv_base.specs.Needs.{writes_of, value_at, key_of}
use Rattle.clv_base.specs.OneShard.{OpDies, OpAnswers, written, locked, rolled_back_if, drop_part, closing, close_part}
use Rattle.clv_base.specs.Events.{is_alone}
use Rattle.clv_base.specs.Restarts.{undo_records, restart_records, log_after_restart, next_epoch, losers, FailedRestarts, untouched, failed_first, Restarts}
use Rattle.clv_base.specs.Backs.{standing_numbers, count_after}
use Rattle.clv_base.proofs.SameNames.{tx_true}
use Rattle.law_base.proofs.Changed.{some_same}
use Rattle.law_base.proofs.Commits.{committed_keeps, parts_keep}
use Rattle.law_base.proofs.Lists.{all_append}
use Rattle.history_laws.proofs.Entries.WhatOperationsDo.{OpIs, dies, rolls, performs, reply_is}
use Rattle.history_cases.proofs.Stepping.{Step, op_dies, op_answers, request_closes, drops, prepare_closes, decision_comes, rolls_back}

-- ---- the parts that a COMMIT names: those of the first one, in a longer log too

there_case : (b : Bool) (x : List ℕ) (c : Bool) (o : Option (List ℕ)) → (b || c) ≡ true → (c ≡ true → (ps : List ℕ) × (o ≡ Some ps)) → (ps : List ℕ) × (cond b (Some x) o ≡ Some ps)
there_case true x c o e k = (x, refl)
there_case false x c o e k = k e

pub parts_there : (log : List LogRecord) (t : TxId) → committed_in log t ≡ true → (ps : List ℕ) × (commit_parts log t ≡ Some ps)
parts_there [] t e = absurd (both_ways false refl e)
parts_there (Commit tx parts ∷ rs) t e = there_case (tx_same t tx) parts (committed_in rs t) (commit_parts rs t) e (parts_there rs t)
parts_there (Update tx k b a ∷ rs) t e = parts_there rs t e
parts_there (Clr tx u k a ∷ rs) t e = parts_there rs t e
parts_there (Prepare tx home qs ∷ rs) t e = parts_there rs t e
parts_there (Abort tx ∷ rs) t e = parts_there rs t e
parts_there (End tx ∷ rs) t e = parts_there rs t e
parts_there (Restart run epoch ∷ rs) t e = parts_there rs t e
parts_there (Add tx k by ∷ rs) t e = parts_there rs t e
parts_there (Unadd tx u k by ∷ rs) t e = parts_there rs t e
parts_there (Forgotten ∷ rs) t e = parts_there rs t e
parts_there (Check run' epoch' upto base ∷ rs) t e = parts_there rs t e

-- whose COMMIT stands in the front of a log has the same parts there
pub parts_back : (log more : List LogRecord) (t : TxId) (ps : List ℕ) → committed_in log t ≡ true → commit_parts (log ++ more) t ≡ Some ps → commit_parts log t ≡ Some ps
parts_back log more t ps c e =
    let k = parts_there log t c in
    let q : k.0 ≡ ps = some_same k.0 ps (sym (parts_keep log more t k.0 k.1) ∙ e) in
    subst (λ z. commit_parts log t ≡ Some z) q k.1

pub parts_front : (n : ℕ) (log : List LogRecord) (t : TxId) (ps : List ℕ) → commit_parts (take n log) t ≡ Some ps → commit_parts log t ≡ Some ps
parts_front n log t ps e = subst (λ z. commit_parts z t ≡ Some ps) (take-append-drop n log) (parts_keep (take n log) (drop n log) t ps e)

pub ended_front : (n : ℕ) (log : List LogRecord) (t : TxId) → ended_in (take n log) t ≡ true → ended_in log t ≡ true
ended_front n log t e = subst (λ z. ended_in z t ≡ true) (take-append-drop n log) (list_any-append (is_end_of t) (take n log) (drop n log) ∙ or_left _ _ e)

-- ---- each END stands behind a COMMIT

abbrev pub EndsFrom : List LogRecord → List LogRecord → Type 0
EndsFrom so_far [] = ⊤
EndsFrom so_far (r ∷ rs) = ((t : TxId) → is_end_of t r ≡ true → committed_in so_far t ≡ true) × EndsFrom (so_far ++ r ∷ []) rs

pub ends_more : (so_far xs ys : List LogRecord) → EndsFrom so_far xs → EndsFrom (so_far ++ xs) ys → EndsFrom so_far (xs ++ ys)
ends_more so_far [] ys a b = subst (λ z. EndsFrom z ys) (append-nil so_far) b
ends_more so_far (x ∷ xs) ys a b = (a.0, ends_more (so_far ++ x ∷ []) xs ys a.1 (subst (λ z. EndsFrom z ys) (sym (append_assoc so_far (x ∷ []) xs)) b))

pub ends_front : (so_far : List LogRecord) (n : ℕ) (xs : List LogRecord) → EndsFrom so_far xs → EndsFrom so_far (take n xs)
ends_front so_far zero xs a = tt
ends_front so_far (suc n) [] a = tt
ends_front so_far (suc n) (x ∷ xs) a = (a.0, ends_front (so_far ++ x ∷ []) n xs a.1)

pub ended_committed : (so_far xs : List LogRecord) (t : TxId) → EndsFrom so_far xs → ended_in xs t ≡ true → committed_in (so_far ++ xs) t ≡ true
ended_committed so_far [] t a e = absurd (both_ways false refl e)
ended_committed so_far (x ∷ xs) t a e =
    ⊎_elim (λ b. committed_keeps so_far (x ∷ xs) t (a.0 t b)) (λ b. subst (λ z. committed_in z t ≡ true) (append_assoc so_far (x ∷ []) xs) (ended_committed (so_far ++ x ∷ []) xs t a.1 b))
    (or_cases (is_end_of t x) (ended_in xs t) e)

-- ---- records that are no ENDs

abbrev pub IsNoEnd : LogRecord → Type 0
IsNoEnd r = (t : TxId) → is_end_of t r ≡ false

abbrev pub HaveNoEnd : List LogRecord → Type 0
HaveNoEnd rs = AllByRecursion IsNoEnd rs

none_ended : (rs : List LogRecord) → HaveNoEnd rs → (t : TxId) → ended_in rs t ≡ false
none_ended [] a t = refl
none_ended (r ∷ rs) a t = or_from (is_end_of t r) (ended_in rs t) (a.0 t) (none_ended rs a.1 t)

pub ends_none : (so_far rs : List LogRecord) → HaveNoEnd rs → EndsFrom so_far rs
ends_none so_far [] a = tt
ends_none so_far (r ∷ rs) a = ((λ t e. absurd (both_ways (is_end_of t r) (a.0 t) e)), ends_none (so_far ++ r ∷ []) rs a.1)

pub ended_before : (log more : List LogRecord) (t : TxId) → HaveNoEnd more → ended_in (log ++ more) t ≡ true → ended_in log t ≡ true
ended_before log more t a e =
    ⊎_elim (λ b. b) (λ b. absurd (both_ways (ended_in more t) (none_ended more a t) b)) (or_cases (ended_in log t) (ended_in more t) (sym (list_any-append (is_end_of t) log more) ∙ e))

take_none : (n : ℕ) (xs : List LogRecord) → HaveNoEnd xs → HaveNoEnd (take n xs)
take_none zero xs a = tt
take_none (suc n) [] a = tt
take_none (suc n) (x ∷ xs) a = (a.0, take_none n xs a.1)

aborts_none : (ts : List TxId) → HaveNoEnd (map (λ t. Abort t) ts)
aborts_none [] = tt
aborts_none (t ∷ ts) = ((λ u. refl), aborts_none ts)

clrs_none : (gone : StandingUpdate → Bool) (ws : List StandingUpdate) → HaveNoEnd (clrs_by gone ws)
clrs_none gone [] = tt
clrs_none gone (w ∷ ws) = at (gone w) w.change (clrs_none gone ws)
  where
    at : (b : Bool) (c : Change) → HaveNoEnd (clrs_by gone ws) → HaveNoEnd (cond b (compensation w.tx (newest_lsn w.tx ws) w.key c ∷ clrs_by gone ws) (clrs_by gone ws))
    at true (Sets before after) a = ((λ u. refl), a)
    at true (Adds by) a = ((λ u. refl), a)
    at false c a = a

closing_none : (b one : Bool) (tx : TxId) (home : ℕ) (us : List TxId) → HaveNoEnd (closing b one tx home us)
closing_none false one tx home us = tt
closing_none true true tx home [] = ((λ u. refl), tt)
closing_none true true tx home (v ∷ vs) = ((λ u. refl), tt)
closing_none true false tx home us = ((λ u. refl), tt)

-- ---- a log that goes on from another without an END

abbrev pub GoesOn : List LogRecord → List LogRecord → Type 0
GoesOn log new = (more : List LogRecord) × (log ++ more ≡ new) × HaveNoEnd more

pub on_same : (log : List LogRecord) → GoesOn log log
on_same log = ([], append-nil log, tt)

pub on_more : (log more : List LogRecord) → HaveNoEnd more → GoesOn log (log ++ more)
on_more log more a = (more, refl, a)

pub on_then : (a b c : List LogRecord) → GoesOn a b → GoesOn b c → GoesOn a c
on_then a b c p q = (p.0 ++ q.0, sym (append_assoc a p.0 q.0) ∙ ap (λ l. l ++ q.0) p.1 ∙ q.1, all_append IsNoEnd p.0 q.0 p.2 q.2)

pub on_rolled : (tx : TxId) (l : Local) → GoesOn l.log (roll_back tx l).log
on_rolled tx l =
    let set = doomed_here l tx in
    on_then l.log (l.log ++ aborts_of l.log set) (roll_back tx l).log (on_more l.log (aborts_of l.log set) (aborts_none (filter (has_standing l.log) set)))
    (on_more (l.log ++ aborts_of l.log set) (clrs_of set (standing l.log)) (clrs_none (is_of set) (standing l.log)))

rolled_if : (b : Bool) (tx : TxId) (l : Local) → GoesOn l.log (rolled_back_if b tx l).log
rolled_if true tx l = on_rolled tx l
rolled_if false tx l = on_same l.log

pub on_dropped : (tx : TxId) (l : Local) → GoesOn l.log (drop_part tx l).log
on_dropped tx l = rolled_if (is_present (stage_of l tx)) tx l

writes : (tx : TxId) (w : Option (ℕ × Change)) (l : Local) → GoesOn l.log (written tx w l).log
writes tx None l = on_same l.log
writes tx (Some (key, Sets before after)) l = on_more l.log (Update tx key before after ∷ []) ((λ u. refl), tt)
writes tx (Some (key, Adds by)) l = on_more l.log (Add tx key by ∷ []) ((λ u. refl), tt)

dying : (l m : Local) (tx : TxId) (birth : Birth) (seen : Option ℕ) (op : Op) (c : AbortCause) → OpIs l tx birth seen op (OpDies c m) → GoesOn l.log m.log
dying l _ tx birth seen op c dies = on_same l.log
dying l _ tx birth seen op c rolls = on_rolled tx l

answering : (l m : Local) (tx : TxId) (birth : Birth) (seen : Option ℕ) (op : Op) (a : Answer) → OpIs l tx birth seen op (OpAnswers a m) → GoesOn l.log m.log
answering l _ tx birth seen op _ (performs f e) = writes tx (writes_of op (value_at (key_of op) l.records)) (locked tx birth op l)

pub on_closed : (tx : TxId) (home : ℕ) (one : Bool) (l : Local) → GoesOn l.log (close_part tx home one l).log
on_closed tx home one l = on_more l.log (closing (has_standing l.log tx) one tx home (undecided_of l tx)) (closing_none (has_standing l.log tx) one tx home (undecided_of l tx))

pub on_back : (tx : TxId) (n : ℕ) (l : Local) → GoesOn l.log (roll_to tx n l).log
on_back tx n l = let gone = is_at (newest_lsns n tx (standing l.log)) in on_more l.log (clrs_by gone (standing l.log)) (clrs_none gone (standing l.log))

-- no event writes one before what is due is done
pub step_on : (s t : Shard) {e : Event} {o : Outcome} → Step s e o t → GoesOn s.local.log t.local.log
step_on s _ (op_dies tx birth nth seen op cause l g) = dying s.local l tx birth seen op cause (reply_is s.shard s.local tx birth seen op _ g)
step_on s _ (op_answers tx birth nth seen op answer l g) = answering s.local l tx birth seen op answer (reply_is s.shard s.local tx birth seen op _ g)
step_on s _ (rolls_back tx nth seen upto f g) = on_back tx (count_after upto (standing_numbers tx s.journal)) s.local
step_on s _ (request_closes tx ts f g) = on_closed tx s.shard (is_alone (others s.shard ts)) s.local
step_on s _ (drops tx stage g) = on_dropped tx s.local
step_on s _ (prepare_closes tx home seen stamp g) = on_closed tx home false s.local
step_on s _ (decision_comes tx home true stamp g) = on_more s.local.log (Commit tx [] ∷ []) ((λ u. refl), tt)
step_on s _ (decision_comes tx home false stamp g) = on_rolled tx s.local
step_on s _ _ = on_same s.local.log

-- nor does a restart

restart_none : (shard : ℕ) (log : List LogRecord) (run epoch : ℕ) → HaveNoEnd (restart_records shard log run epoch)
restart_none shard log run epoch =
    all_append IsNoEnd (undo_records shard log) (Restart run epoch ∷ [])
    (all_append IsNoEnd _ _ (aborts_none (filter (λ t. not (aborted_in log t)) (losers shard log))) (clrs_none (is_of (losers shard log)) (standing log))) ((λ u. refl), tt)

pub on_opened : (shard : ℕ) (log : List LogRecord) (run epoch : ℕ) → GoesOn log (log_after_restart shard log run epoch)
on_opened shard log run epoch = on_more log (restart_records shard log run epoch) (restart_none shard log run epoch)

failed_on : (s : Shard) (found left : List LogRecord) → FailedRestarts s found left → GoesOn found left
failed_on s found _ untouched = on_same found
failed_on s found left (failed_first n f) =
    let more = take n (restart_records s.shard found s.run (next_epoch s found)) in
    on_then found (found ++ more) left (on_more found more (take_none n _ (restart_none s.shard found s.run (next_epoch s found)))) (failed_on s (found ++ more) left f)

pub on_restarted : (s : Shard) (found : List LogRecord) (epoch : ℕ) (after : List LogRecord) → Restarts s found epoch after → GoesOn found after
on_restarted s found epoch after (left, f, e, a) = on_then found left after (failed_on s found left f) (subst (GoesOn left) (sym a) (on_opened s.shard left s.run epoch))

-- ---- what the ENDs of a log tell. K: where whose COMMIT is durable

pub record Tell (K : ℕ → TxId → Type 0) (log : List LogRecord) : Type 0 where
  pub behind : EndsFrom [] log
  pub parts : (tx : TxId) (ps : List ℕ) (m : ℕ) → ended_in log tx ≡ true → commit_parts log tx ≡ Some ps → nat_in m ps ≡ true → K m tx

pub tell_on : (K : ℕ → TxId → Type 0) (log new : List LogRecord) → GoesOn log new → Tell K log → Tell K new
tell_on K log new (more, e, a) p =
    subst (Tell K) e
    (record {
      behind = ends_more [] log more p.behind (ends_none log more a);
      parts = λ tx ps m h c i. let d = ended_before log more tx a h in p.parts tx ps m d (parts_back log more tx ps (ended_committed [] log tx p.behind d) c) i;
    })

pub tell_front : (K : ℕ → TxId → Type 0) (n : ℕ) (log : List LogRecord) → Tell K log → Tell K (take n log)
tell_front K n log p =
    record { behind = ends_front [] n log p.behind; parts = λ tx ps m h c i. p.parts tx ps m (ended_front n log tx h) (parts_front n log tx ps c) i }

pub tell_mono : (K L : ℕ → TxId → Type 0) (log : List LogRecord) → ((n : ℕ) (u : TxId) → K n u → L n u) → Tell K log → Tell L log
tell_mono K L log k p = record { behind = p.behind; parts = λ tx ps m h c i. k m tx (p.parts tx ps m h c i) }

end_of : (log : List LogRecord) (tx t : TxId) → ended_in (log ++ End tx ∷ []) t ≡ true → (ended_in log t ≡ true) ⊎ (t ≡ tx)
end_of log tx t e =
    ⊎_elim (λ a. inl a) (λ a. ⊎_elim (λ b. inr (tx_true t tx b)) (λ b. absurd (both_ways false refl b)) (or_cases (tx_same t tx) false a))
    (or_cases (ended_in log t) (ended_in (End tx ∷ []) t) (sym (list_any-append (is_end_of t) log (End tx ∷ [])) ∙ e))

-- an END of a commit whose parts are all durable
pub tell_end : (K : ℕ → TxId → Type 0) (log : List LogRecord) (tx : TxId) → committed_in log tx ≡ true → ((ps : List ℕ) (m : ℕ) → commit_parts log tx ≡ Some ps → nat_in m ps ≡ true → K m tx) → Tell K log → Tell K (log ++ End tx ∷ [])
tell_end K log tx c k p = record {
  behind = ends_more [] log (End tx ∷ []) p.behind ((λ t e. subst (λ z. committed_in log z ≡ true) (sym (tx_true t tx e)) c), tt);
  parts = λ t ps m h d i.
      ⊎_elim (λ a. p.parts t ps m a (parts_back log (End tx ∷ []) t ps (ended_committed [] log t p.behind a) d) i)
      (λ a. subst (K m) (sym a) (k ps m (parts_back log (End tx ∷ []) tx ps c (subst (λ z. commit_parts (log ++ End tx ∷ []) z ≡ Some ps) a d)) i)) (end_of log tx t h);
}
