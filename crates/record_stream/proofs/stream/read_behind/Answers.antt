use Rattle.std.proofs.Common.{◌≡◌, ◌∙◌, ◌∷◌, [], ℕ, List, Err, ap, subst, drop, arith}
use Rattle.std.proofs.lemmas.Result.{err_from_is_err_and, IfOk-weaker}
use Rattle.log_records.specs.Spelling.{BeginsWith}
use Rattle.record_stream.specs.Streams.{Begins, Comes, Unfinished}
use Rattle.record_stream.specs.declared.error.StreamError.{StreamError}
use Rattle.record_stream.specs.declared.error.StreamError.TheVariants.{Bad}
use Rattle.record_stream.proofs.Laws.Coming.{front, stands_some, stands_none, ends_within, front_came, front_bad, read_came, read_bad}
use Rattle.record_stream.proofs.stream.read_behind.Goals as goal

pub returns-in_err-first-clause-bad : goal.returns-in_err-first-clause-bad
returns-in_err-first-clause-bad c =
    let p = err_from_is_err_and c.from_residual-in_err-first.result c.from_residual-in_err-first.ensures.1 in
    let same : c.as_slice.result.now ≡ front c.args.tail.now c.args.piece.now = c.as_slice.ensures.value ∙ c.in_ok-front.ensures in
    rw (p.1, p.2)
    (λ e. let is : c.in_err-first.field-0.0 ≡ Bad = cc in
    front_bad c.args.tail.now c.args.piece.now (subst (λ (l : List ℕ). Begins l → ⊥) same (c.in_err-first.ensures.bad (ap (λ (x : StreamError). Err x) is))))

pub overflow_sub-size : goal.overflow_sub-size
overflow_sub-size c =
    let same : c.as_slice.result.now ≡ front c.args.tail.now c.args.piece.now = c.as_slice.ensures.value ∙ c.in_ok-front.ensures in
    let s = stands_some c.as_slice.result.now c.in_ok-first.field-0 c.in-Some.record c.in-Some.size c.in_ok-first.ensures.stands c.in-Some.is in
    let b = subst (λ (l : List ℕ). BeginsWith c.in-Some.record (drop c.in-Some.size c.as_slice.result.now) l) same s.1 in
    let e = ends_within c.in-Some.record c.in-Some.size (drop c.in-Some.size c.as_slice.result.now) c.args.tail.now c.args.piece.now c.requires s.0 b in
    omega (arith, e.low)

pub behind-rest-requires : goal.behind-rest-requires
behind-rest-requires c =
    let same : c.as_slice.result.now ≡ front c.args.tail.now c.args.piece.now = c.as_slice.ensures.value ∙ c.in_ok-front.ensures in
    let s = stands_some c.as_slice.result.now c.in_ok-first.field-0 c.in-Some.record c.in-Some.size c.in_ok-first.ensures.stands c.in-Some.is in
    let b = subst (λ (l : List ℕ). BeginsWith c.in-Some.record (drop c.in-Some.size c.as_slice.result.now) l) same s.1 in
    let e = ends_within c.in-Some.record c.in-Some.size (drop c.in-Some.size c.as_slice.result.now) c.args.tail.now c.args.piece.now c.requires s.0 b in
    omega (arith, e.high)

pub returns-in-None-clause-came : goal.returns-in-None-clause-came
returns-in-None-clause-came c =
    let same : c.as_slice.result.now ≡ front c.args.tail.now c.args.piece.now = c.as_slice.ensures.value ∙ c.in_ok-front.ensures in
    let u = stands_none c.as_slice.result.now c.in_ok-first.field-0 c.in_ok-first.ensures.stands c.in-None.is in
    rw (c.new.ensures.items, c.in_ok-front.ensures) (front_came c.args.tail.now c.args.piece.now c.requires (subst Unfinished same u))

pub returns-in-Some-clause-came : goal.returns-in-Some-clause-came
returns-in-Some-clause-came c =
    let same : c.as_slice.result.now ≡ front c.args.tail.now c.args.piece.now = c.as_slice.ensures.value ∙ c.in_ok-front.ensures in
    let s = stands_some c.as_slice.result.now c.in_ok-first.field-0 c.in-Some.record c.in-Some.size c.in_ok-first.ensures.stands c.in-Some.is in
    let b = subst (λ (l : List ℕ). BeginsWith c.in-Some.record (drop c.in-Some.size c.as_slice.result.now) l) same s.1 in
    let e = ends_within c.in-Some.record c.in-Some.size (drop c.in-Some.size c.as_slice.result.now) c.args.tail.now c.args.piece.now c.requires s.0 b in
    let rest = c.behind-rest.ensures in
    IfOk-weaker c.read_on.result _ _
    (λ read h. read_came c.in-Some.record c.in-Some.size read.records.items read.stream c.args.tail.now c.args.piece.now b.in_bounds e (subst (λ (l : List ℕ). Comes (c.in-Some.record ∷ []) read.records.items read.stream l) rest h))
    c.read_on.ensures.come

pub returns-in-Some-clause-bad : goal.returns-in-Some-clause-bad
returns-in-Some-clause-bad c =
    let same : c.as_slice.result.now ≡ front c.args.tail.now c.args.piece.now = c.as_slice.ensures.value ∙ c.in_ok-front.ensures in
    let s = stands_some c.as_slice.result.now c.in_ok-first.field-0 c.in-Some.record c.in-Some.size c.in_ok-first.ensures.stands c.in-Some.is in
    let b = subst (λ (l : List ℕ). BeginsWith c.in-Some.record (drop c.in-Some.size c.as_slice.result.now) l) same s.1 in
    let e = ends_within c.in-Some.record c.in-Some.size (drop c.in-Some.size c.as_slice.result.now) c.args.tail.now c.args.piece.now c.requires s.0 b in
    let rest = c.behind-rest.ensures in
    λ is. read_bad c.in-Some.record c.in-Some.size c.args.tail.now c.args.piece.now b.in_bounds e (subst (λ (l : List ℕ). Begins l → ⊥) rest (c.read_on.ensures.bad is))
