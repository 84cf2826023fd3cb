use Rattle.std.proofs.Common.{arith, ℕ, sym, ◌∙◌, ap, subst, Option, Some, cond, ◌++◌, ◌∷◌, []}
use Rattle.clv_base.specs.Orders.{tx_same, tx_get}
use Rattle.log_buffer.specs.declared.chain.Chain.{Chain}
use Rattle.log_buffer.specs.declared.chain.Written.{Written}
use Rattle.log_buffer.specs.Chained.{IsChainOf, with_write, with_undo}
use Rattle.log_buffer.proofs.Pushing.{standing_few, pushed_write, pushed_undo, pushed_other}
use Rattle.log_buffer.proofs.chain.Chain.push.Goals as goal
use Rattle.log_buffer.proofs.chain.Chain.push.Goals.{in-Writes, in-Undoes, in-Neither}

pub returns-clause-chain : goal.returns-clause-chain
returns-clause-chain c = λ links h.
    let before = c.args.self.now in
    let after : Chain = record { below = c.push_reserved.new.self; written = c.match-link.self.written } in
    let grown = c.push_reserved.ensures.items in
    let place = c.len-at.ensures ∙ before.below.ok.0 in
    elim c.match-link.branch [
      | in-Writes w ↦
          subst (λ l. IsChainOf after (links ++ l ∷ [])) (sym w.in-Writes.is)
          (pushed_write before after links c.match-link.below h
          (grown ∙ ap (λ (s : Chain). s.below.items ++ c.match-link.below ∷ []) w.self-is)
          w.in-Writes.tx c.len-at.result place
          (λ t. ap (λ (s : Chain). tx_get t s.written.rows) w.self-is ∙ w.set.ensures.rows t
          ∙ ap (λ (x : Written). cond (tx_same w.in-Writes.tx t) (Some x) (tx_get t before.written.rows)) (w.with_write.ensures ∙ ap (with_write c.len-at.result) (w.known-known.ensures links h)))
          (w.below-is ∙ ap (λ (x : Written). x.newest) (w.known-known.ensures links h)))
      | in-Undoes w ↦
          subst (λ l. IsChainOf after (links ++ l ∷ [])) (sym w.in-Undoes.is)
          (pushed_undo before after links c.match-link.below h
          (grown ∙ ap (λ (s : Chain). s.below.items ++ c.match-link.below ∷ []) w.self-is)
          w.in-Undoes.tx c.len-at.result place
          (λ t. ap (λ (s : Chain). tx_get t s.written.rows) w.self-is ∙ w.set-in-Undoes.ensures.rows t
          ∙ ap (λ (x : Written). cond (tx_same w.in-Undoes.tx t) (Some x) (tx_get t before.written.rows))
          (w.with_undo.ensures ∙ ap (λ (n : Option ℕ). with_undo c.len-at.result n w.known-known-in-Undoes.result) (w.second-newest.ensures links h)
          ∙ ap (with_undo c.len-at.result _) (w.known-known-in-Undoes.ensures links h))))
      | in-Neither w ↦
          subst (λ l. IsChainOf after (links ++ l ∷ [])) (sym w.in-Neither.is)
          (pushed_other before after links c.match-link.below h
          (grown ∙ ap (λ (s : Chain). s.below.items ++ c.match-link.below ∷ []) w.self-is)
          (λ t. ap (λ (s : Chain). tx_get t s.written.rows) w.self-is))
    ]

pub with_write-requires : goal.with_write-requires
with_write-requires c =
    let before = c.args.self.now in let known = c.requires.chain in
    let few = standing_few before known.0 c.in-Writes.tx c.known-known.result known.1 (c.known-known.ensures known.0 known.1) in
    omega (arith, few, before.below.ok.0, before.below.ok.1, c.requires.room, c.len-at.ensures, c.len-at.type_inv)
