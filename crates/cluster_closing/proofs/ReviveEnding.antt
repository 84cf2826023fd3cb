-- Who has the disk after a restart.
use Rattle.std.proofs.Common.{◌≡◌, ◌≢◌, ◌∙◌, sym, ap, subst, ℕ, cond, [], ◌∷◌, Some, None, Ok, Err}
use Rattle.clv_base.specs.Restarts.{log_after_restart}
use Rattle.journal_laws.specs.Notes.{ends_holding}
use Rattle.turn_lock.specs.Passes.{seen}
use Rattle.machine_laws.specs.declared.notes.Note.TheVariants.{Made}
use Rattle.machine_laws.specs.Homes.{holder_of}
use Rattle.cluster_closing.proofs.Landing.{walked_each}
use Rattle.cluster_closing.specs.Held.{AreMade, HasNoDisk}
use Rattle.cluster_closing.proofs.Holding.{holder_split, walked_none}
use Rattle.cluster_closing.specs.Restarted.{no_turn, one_turn}
use Rattle.cluster_closing.specs.ReviveLaws.{RestartsEndHolding}

others_than : (k n : ℕ) → k ≢ n → Some k ≢ Some n
others_than k n h = λ e. absurd (h (let i : Some k ≡ Some n = e in cc))

module _ {T : Type 0} where
  pub restarts_end_holding : {D : Type 0} → RestartsEndHolding T D
  restarts_end_holding story splits run f w clock before _ _ _ (no_turn why) l = l
  restarts_end_holding story splits run f w clock before (Err e) clock' after (one_turn epoch found was free h) l = walked_none (Some f.shard) h (subst AreMade (sym h.turned.told.added_is) tt) l
  restarts_end_holding story splits run f w clock before (Ok n) clock' after (one_turn epoch found was free h) l =
      walked_each (λ k p. Some k ≢ None → HasNoDisk w p) h (λ k x other is apart. l k x is (others_than k f.shard other)) (λ apart. free_now)
    where
      free_now : holder_of (seen h.q) ≢ Some w
      free_now =
          let log = log_after_restart h.turned.s.shard found h.turned.s.run epoch in
          let none : holder_of (seen h.q) ≡ None = ap holder_of (h.turned.seen_is ∙ ap (λ ns. Rattle.std.proofs.Common.◌++◌ h.turned.before ns) h.turned.told.1.added_is) ∙ holder_split h.turned.before (Made h.turned.told.1.made log ∷ [])
          ∙ ap (λ e. cond (ends_holding e) None (holder_of h.turned.before)) (ap (λ y. y.event) h.turned.told.1.made_is.entry_is) in
          λ held. absurd (let k : None ≡ Some w = sym none ∙ held in cc)
