-- How many tries there are.
use Rattle.std.proofs.Common.{◌≡◌, ap, ◌∙◌, ℕ, suc, ◌+◌, ◌≤◌, true, List, [], ◌∷◌, length, length-append, Option, Some, None, arith}
use Rattle.std.specs.List.{AllByRecursion}
use Rattle.clv_base.specs.declared.names.TxId.{TxId}
use Rattle.clv_base.specs.declared.names.Birth.{Birth}
use Rattle.clv_base.specs.Journals.{History}
use Rattle.script_lang.specs.Bodies.{Body}
use Rattle.session_books.specs.Done.{Done}
use Rattle.script_runs.specs.declared.ends.StopCause.{StopCause}
use Rattle.script_runs.specs.declared.ends.TryEnd.{TryEnd}
use Rattle.script_runs.specs.Tries.{Try, IsTry, EndsBy, acknowledged, nothing, by_line, in_operation, in_going_back, at_request, at_look, down, unsettled, wanting_before, wanting_behind, wanting_between, unanswered, worn_at_line}
use Rattle.script_runs.specs.Sessions.{InTries, last, none_left, stopped_between, further, Transaction, AreTransactions, all_done, not_begun, stopped, done, is_to_retry, tries_of, entries_of}
use Rattle.script_runs.proofs.Tries.{entries_more}

-- what is to be tried again made an entry
ends_made : (splits : List ℕ) (body : Body) (tx : TxId) (birth : Birth) (acts : List Done) (before behind : History) (e : TryEnd) → EndsBy splits body tx birth acts before e behind → is_to_retry e ≡ true → 1 ≤ length behind
ends_made splits body tx birth acts before _ _ (acknowledged home asked told d a l) h = absurd cc
ends_made splits body tx birth acts before _ _ (nothing d n) h = absurd cc
ends_made splits body tx birth acts before behind _ (by_line _ d a) h = absurd cc
ends_made splits body tx birth acts before _ _ (in_operation op cause n here drops next died are) h =
    let long = ap length died.entries ∙ length-append died.before (died.last ∷ []) in
    let whole = length-append here drops in
    omega arith
ends_made splits body tx birth acts before _ _ (in_going_back upto cause n here drops next died are) h =
    let long = ap length died.entries ∙ length-append died.before (died.last ∷ []) in
    let whole = length-append here drops in
    omega arith
ends_made splits body tx birth acts before _ _ (at_request home cause asked drops d a are) h = omega arith
ends_made splits body tx birth acts before _ _ (at_look home cause asked told drops d a l are) h = omega arith
ends_made splits body tx birth acts before _ _ (down n here drops u are) h = absurd cc
ends_made splits body tx birth acts before _ _ (unsettled n home asked d a) h = absurd cc
ends_made splits body tx birth acts before behind _ (wanting_before cause _ w u) h = absurd cc
ends_made splits body tx birth acts before _ _ (wanting_behind cause home asked w d a) h = absurd cc
ends_made splits body tx birth acts before _ _ wanting_between h = absurd cc
ends_made splits body tx birth acts before behind _ (unanswered op parts _ next are) h = absurd cc
ends_made splits body tx birth acts before behind _ (worn_at_line at _ d are) h = absurd cc

try_made : (splits : List ℕ) (body : Body) (birth : Birth) (t : Try) → IsTry splits body birth t → is_to_retry t.end ≡ true → 1 ≤ length t.entries
try_made splits body birth t is h =
    let m = ends_made splits body t.tx birth t.acts is.before is.behind t.end is.ends h in
    let e = ap length is.entries_are ∙ length-append is.before is.behind in
    omega arith

-- all tries of a transaction but the last one made one
tries_made : (splits : List ℕ) (body : Body) (birth : Birth) (most : Option ℕ) (n : ℕ) (ts : List Try) (cause : Option StopCause) → InTries most n ts cause → AllByRecursion (IsTry splits body birth) ts → length ts ≤ suc (length (entries_of ts))
tries_made splits body birth most n _ _ (last _ t r) each = omega arith
tries_made splits body birth most n _ _ (none_left _ t r l) each = omega arith
tries_made splits body birth most n _ _ (stopped_between _ t cause s r l) each = omega arith
tries_made splits body birth most n _ cause (further _ t ts _ r l i) each =
    let one = try_made splits body birth t each.0 r in
    let more = tries_made splits body birth most (suc n) ts cause i each.1 in
    let e = length-append t.entries (entries_of ts) in
    omega arith

-- so a session's tries are no more than its transactions and its entries
pub session_tries_are_few : (splits : List ℕ) (run walker : ℕ) (most : Option ℕ) (bodies : List Body) (trs : List Transaction) (cause : Option StopCause) → AreTransactions splits run walker most bodies trs cause
    → length (tries_of trs) ≤ length bodies + length (entries_of (tries_of trs))
session_tries_are_few splits run walker most _ _ _ all_done = omega arith
session_tries_are_few splits run walker most _ _ _ (not_begun body bodies at) = omega arith
session_tries_are_few splits run walker most _ _ _ (stopped tr bodies cause is) =
    let one = tries_made splits tr.body tr.birth most 1 tr.tries (Some cause) is.in_tries is.each in
    let t = length-append tr.tries [] in
    let e = ap length (entries_more tr.tries []) ∙ length-append (entries_of tr.tries) (entries_of []) in
    omega arith
session_tries_are_few splits run walker most _ _ _ (done tr bodies trs cause is are) =
    let one = tries_made splits tr.body tr.birth most 1 tr.tries None is.in_tries is.each in
    let more = session_tries_are_few splits run walker most bodies trs cause are in
    let t = length-append tr.tries (tries_of trs) in
    let e = ap length (entries_more tr.tries (tries_of trs)) ∙ length-append (entries_of tr.tries) (entries_of (tries_of trs)) in
    omega arith
