use Rattle.std.proofs.Common.{◌≡◌, ℕ, ◌+◌, ◌≤◌, List, ◌++◌, length, drop, Option, Some, IfSome, Ok, Err, ◌∙◌, ap, subst, arith}
use Rattle.std.proofs.lemmas.Result.{err_from_is_err_and}
use Rattle.std.proofs.lemmas.List.{append-nil, take_all, drop_all}
use Rattle.io_model.specs.Story.{Story, Write, after, reads}
use Rattle.io_model.specs.declared.disk.Failed.{Failed}
use Rattle.io_model.proofs.Laws.Told.{tells_weaker}
use Rattle.log_gate.specs.Switch.{KeepsFirst, Extends}
use Rattle.log_gate.proofs.WrittenAnew.{write_keeps}
use Rattle.log_gate.proofs.anew.extend.Goals as goal

at_end : (o : Option Story) (s : Story) (at : ℕ) → o ≡ Some s → IfSome o (λ v. at ≡ length (reads v)) → at ≡ length (reads s)
at_end o s at is known = subst (λ (v : Option Story). IfSome v (λ x. at ≡ length (reads x))) is known

within : (at : ℕ) (bytes : List ℕ) → at ≡ length bytes → at ≤ length bytes
within at bytes is = omega arith

extended : (s t : Story) (at : ℕ) (bytes : List ℕ) → at ≡ length (reads s) → t ≡ after (Write at bytes) s → reads t ≡ reads s ++ bytes
extended s t at bytes end is =
    ap reads is ∙ ap (λ (l : List ℕ). l ++ bytes ++ drop (at + length bytes) (reads s)) (take_all at (reads s) (omega (arith, end)))
    ∙ ap (λ (l : List ℕ). reads s ++ bytes ++ l) (drop_all (at + length bytes) (reads s) (omega (arith, end))) ∙ append-nil (reads s ++ bytes)

pub returns-in_err-write_at-clause-told : goal.returns-in_err-write_at-clause-told
returns-in_err-write_at-clause-told g c =
    let p = err_from_is_err_and c.from_residual.result c.from_residual.ensures.1 in
    rw p.1
    (tells_weaker _ _ _ KeepsFirst (λ s t is _ h. write_keeps s {A = Unit {0}} {E = Failed} c.args.at c.args.bytes.now (Err c.in_err-write_at.field-0.0) t c.requires.first (within c.args.at (reads s) (at_end _ s c.args.at is c.requires.place)) h)
    c.in_err-write_at.ensures.told)

pub returns-clause-told : goal.returns-clause-told
returns-clause-told g c =
    tells_weaker _ _ _ (Extends {A = ℕ} {E = Failed} c.args.bytes.now (Ok 0))
    (λ s t is _ h. (
      write_keeps s {A = Unit {0}} {E = Failed} c.args.at c.args.bytes.now (Ok tt) t c.requires.first (within c.args.at (reads s) (at_end _ s c.args.at is c.requires.place)) h,
      extended s t c.args.at c.args.bytes.now (at_end _ s c.args.at is c.requires.place) h,
    ))
    c.in_ok-write_at.ensures.told
