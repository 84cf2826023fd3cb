-- Gates through a fetch, a restart and a look.
use Rattle.std.proofs.Common.{◌∙◌, ap, ℕ, List, Option, None}
use Rattle.clv_base.specs.State.{Shard}
use Rattle.turn_lock.specs.declared.pass.Pass.{Pass}
use Rattle.machine_laws.specs.declared.notes.Note.{Note}
use Rattle.machine_laws.specs.declared.notes.Origin.{Origin}
use Rattle.machine_laws.specs.Homes.{entries_in, taker, is_taker}
use Rattle.cluster_turns.specs.Walkers.{Walked}
use Rattle.cluster_closing.specs.Landed.{HasOwn, IsHome, HasLanded}
use Rattle.cluster_closing.proofs.Landing.{turned_own, taker_now, home_before, walked_each}
use Rattle.cluster_closing.specs.Restarted.{no_turn, one_turn}
use Rattle.cluster_closing.specs.ReviveLaws.{FetchesLand, RestartsLand, SettledLooksLand}
use Rattle.cluster_closing.proofs.Adding.{AddsCalmly, nothing_added, fetch_adds, revive_adds}

module _ {T : Type 0} where
  calmly_lands : {Told : Shard → Shard → List Note → Type 0} {n w : ℕ} {before after : List (Option (Pass T Note Origin))} (clock : ℕ) (h : Walked Told n w before after) → AddsCalmly w clock h.turned.added → HasLanded w before → HasLanded w after
  calmly_lands {Told} {n} {w} clock h a l =
      let t = h.turned in
      record {
        own = walked_each (λ k. HasOwn w) h (λ k x other is. l.own k x is) (turned_own t a.by (l.own n h.p h.had));
        home = walked_each (λ k. IsHome w) h (λ k x other is. l.home k x is) (ap (λ k. is_taker k w) (taker_now t ∙ a.takes (taker None (entries_in t.before))) ∙ home_before t (l.home n h.p h.had));
      }

  pub fetches_land : {D : Type 0} → FetchesLand T D
  fetches_land clock w n r before after h l = calmly_lands clock h (fetch_adds w clock r h.turned.s h.turned.t h.turned.added h.turned.told) l

  pub restarts_land : {D : Type 0} → RestartsLand T D
  restarts_land story splits run f w clock before _ _ _ (no_turn why) l = l
  restarts_land story splits run f w clock before r clock' after (one_turn epoch found was free h) l =
      calmly_lands clock h (revive_adds clock w epoch found r clock' clock h.turned.s h.turned.t h.turned.added h.turned.told) l

  pub settled_looks_land : SettledLooksLand T
  settled_looks_land clock w n answer before after h l = calmly_lands clock h (nothing_added w clock h.turned.added h.turned.told.added_is) l
