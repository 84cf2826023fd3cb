-- From a decision to what the end of a request tells.
use Rattle.std.proofs.Common.{◌≡◌, ◌∙◌, refl, sym, ap, subst, ℕ, ◌<◌, false, List, [], ◌∷◌, ◌++◌, length, Option, Some, None, Result, Ok, Err, arith, inl, inr}
use Rattle.std.specs.Prelude.{◌⊎◌}
use Rattle.std.specs.List.{AllByRecursion}
use Rattle.std.proofs.lemmas.Bool.{both_ways}
use Rattle.clv_base.specs.declared.names.TxId.{TxId}
use Rattle.clv_base.specs.declared.names.Point.{Point}
use Rattle.clv_base.specs.declared.events.Event.TheVariants.{Look, Drop}
use Rattle.clv_base.specs.Sessions.{SessionState, Phase, Standing, Told, Refused, is_of_session, may_drop, after_drop}
use Rattle.turn_lock.specs.declared.pass.Pass.{Pass}
use Rattle.machine_laws.specs.declared.notes.Note.{Note}
use Rattle.machine_laws.specs.declared.notes.Origin.{Origin}
use Rattle.cluster_turns.specs.declared.shards.Shards.{Shards}
use Rattle.cluster_turns.specs.declared.shards.Walker.{Walker}
use Rattle.cluster_turns.specs.declared.shards.WornClock.{WornClock}
use Rattle.cluster_turns.specs.Walkers.{kept}
use Rattle.cluster_turns.proofs.Laws.{homes_are_shards}
use Rattle.cluster_turns.specs.CallTurns.{Turn, no_turn, AnyTurn}
use Rattle.cluster_turns.proofs.Laws.{turns_follow}
use Rattle.session_ops.specs.Requested.{IsStanding}
use Rattle.session_ops.specs.declared.settled_looking.SettleError.{SettleError}
use Rattle.session_ops.specs.declared.settled_looking.SettleError.TheVariants.{Aborted, Unsettled, Worn, Memory}
use Rattle.session_ops.specs.Settled.{OnlyLooks, PlacedBy, Settling, StandsBy, settled_in}
use Rattle.session_ops.specs.Standing.{HasBirth, IsGoneAt}
use Rattle.session_ops.specs.Dropped.{is_to_drop, Drops, Dropping, IsLeft, IsEnding}
use Rattle.session_ops.specs.Unbearing.{IsEnded, UnbornOrWorn}
use Rattle.session_ops.proofs.Unbearing.{are_drops, dropped_unborn}
use Rattle.session_ops.proofs.Parting.{all_append}
use Rattle.session_ops.proofs.Parting.{any_after, any_before}
use Rattle.session_ops.specs.Standings.{StandsAt, StandsAs}
use Rattle.session_ops.specs.Decided.{Leaving, IsLeftOver, LeavesIf, is_aborted, IsLookOrDrop, DecidedBy, Deciding}

-- ---- turns

dropped_there : (tx : TxId) (touched : List (ℕ × ℕ)) (except : Option ℕ) (n : ℕ) (ts : List Turn) → AllByRecursion (Drops tx touched except) ts → AnyTurn (λ t. t.shard ≡ n) ts → AnyTurn (λ t. (t.shard ≡ n) × (t.event ≡ Drop tx)) ts
dropped_there tx touched except n [] a h = absurd h
dropped_there tx touched except n (t ∷ ts) a (inl h) = inl (h, a.0.event)
dropped_there tx touched except n (t ∷ ts) a (inr h) = inr (dropped_there tx touched except n ts a.1 h)

looks_only : (tx : TxId) (touched : List (ℕ × ℕ)) (n : ℕ) (ts : List Turn) → OnlyLooks tx ts → AllByRecursion (IsLookOrDrop tx touched n) ts
looks_only tx touched n [] h = tt
looks_only tx touched n (t ∷ ts) h = (one h.0, looks_only tx touched n ts h.1)
  where
    one : (is_of_session t.event ≡ false) ⊎ (t.event ≡ Look tx) → IsLookOrDrop tx touched n t
    one (inl k) = inl k
    one (inr k) = inr (inl k)

drops_only : (tx : TxId) (touched : List (ℕ × ℕ)) (n : ℕ) (ts : List Turn) → AllByRecursion (Drops tx touched (Some n)) ts → AllByRecursion (IsLookOrDrop tx touched n) ts
drops_only tx touched n [] h = tt
drops_only tx touched n (t ∷ ts) h = (inr (inr h.0), drops_only tx touched n ts h.1)

-- ---- drops of the other parts

module _ {T A : Type 0} where
  pub leaving : (count w c d : ℕ) (ps qs : List (Option (Pass T Note Origin))) (tx : TxId) (touched : List (ℕ × ℕ)) (n : ℕ) (r : Result A WornClock) → Dropping w c ps tx touched (Some n) 0 count r d qs → Leaving count w c ps tx touched n d qs
  leaving count w c d ps qs tx touched n r h = record {
    turns = h.turns;
    took = h.took;
    only = h.only;
    each = λ k l is. dropped_there tx touched (Some n) k h.turns h.only (h.each k (omega arith) l is);
  }

module _ {T A : Type 0} where
  -- where nothing was touched
  pub nothing_to_drop : (count w c : ℕ) (ps : List (Option (Pass T Note Origin))) (tx : TxId) (touched : List (ℕ × ℕ)) (a : A) → touched ≡ [] → Dropping {T = T} {A = A} w c ps tx touched None 0 count (Ok a) c ps
  nothing_to_drop count w c ps tx touched a none = record {
    turns = [];
    took = no_turn c ps;
    only = tt;
    each = λ k l u h. absurd (both_ways false refl (sym (ap (λ ts. is_to_drop ts None k) none) ∙ h));
    told = tt;
  }

pub left_as_over : (p q : SessionState) → after_drop p.phase ≡ p.phase → IsLeft p q → q ≡ p
left_as_over p q over (inl same) = same
left_as_over p q over (inr same) = same ∙ ap (λ (x : Phase). record p { phase = x }) over

some_number : (a b : ℕ) → ◌≡◌ {A = Option ℕ} (Some a) (Some b) → a ≡ b
some_number a b h = cc

any_shard : (tx : TxId) (n : ℕ) (ts : List Turn) → AnyTurn (λ t. (t.shard ≡ n) × (t.event ≡ Drop tx)) ts → AnyTurn (λ t. t.shard ≡ n) ts
any_shard tx n [] h = absurd h
any_shard tx n (t ∷ ts) (inl h) = inl h.0
any_shard tx n (t ∷ ts) (inr h) = inr (any_shard tx n ts h)

-- ---- the home is a shard

module _ {M S G : Type 0} (sh : Shards M S G) where
  pub home_within : (w : Walker M S G) (p : SessionState) (home : ℕ) → IsStanding sh w p home → home < length sh.locks.items
  home_within w p home a =
      let l = homes_are_shards sh.splits sh.run w.number (kept w.passes.items) p home a.ready.state a.stands in let c = a.ready.walker.count in omega arith

  pub stands_in : (w : Walker M S G) (q : SessionState) (x : Phase) → q.phase ≡ x → StandsAt x sh w q → StandsAs sh w q
  stands_in w q x is h = subst (λ y. StandsAt y sh w q) (sym is) h

  -- ---- drops of the other parts leave none

  pub left_ended : (u v : Walker M S G) (m q : SessionState) (n : ℕ) → HasBirth u m → IsGoneAt n u m → Leaving (length sh.locks.items) u.number u.clock u.passes.items m.tx m.touched n v.clock v.passes.items → q ≡ m → IsEnding sh v q → IsEnded sh v q
  left_ended u v m q n born gone l same e = record {
    ending = e;
    unborn = subst (UnbornOrWorn v) (sym same)
        (dropped_unborn sh u v m (Some n) l.turns e.over.ready.walker born (λ k is. subst (λ i. IsGoneAt i u m) (some_number n k is) gone) l.took (are_drops m.tx m.touched (Some n) l.turns l.only) (λ k low is. any_shard m.tx k l.turns (l.each k low is)));
  }

  -- ---- a decision

  pub left_over : (w : Walker M S G) (p q : SessionState) (n : ℕ) (r : Result Point SettleError) → PlacedBy p (settled_in r) q → StandsBy sh w q n (settled_in r) → IsLeftOver (is_aborted r) sh w q
  left_over w p q n (Ok point) place h = tt
  left_over w p q n (Err (Aborted cause)) place h =
      let phase : q.phase ≡ Refused = ap (λ z. z.phase) place in (record { over = h.0; may = ap may_drop phase }, ap after_drop phase ∙ sym phase)
  left_over w p q n (Err (Unsettled m)) place h = tt
  left_over w p q n (Err (Worn at)) place h = tt
  left_over w p q n (Err Memory) place h = tt

  abbrev Settles : Walker M S G → Walker M S G → ℕ → SessionState → Result Point SettleError → Type 0
  Settles w u n p r = Settling (length sh.locks.items) w.number w.clock w.passes.items n p (settled_in r) u.clock u.passes.items

  abbrev Decides : Walker M S G → Walker M S G → ℕ → SessionState → Result Point SettleError → SessionState → Type 0
  Decides w v n p r q = Deciding (length sh.locks.items) w.number w.clock w.passes.items n p r v.clock v.passes.items q

  -- without drops
  kept_so : (w u v : Walker M S G) (n : ℕ) (p q : SessionState) (r : Result Point SettleError) → (s : Settles w u n p r) → DecidedBy (length sh.locks.items) n p r s.turns q → v ≡ u → Decides w v n p r q
  kept_so w u v n p q r s told same =
      subst (λ z. Decides w z n p r q) (sym same) (record { turns = s.turns; took = s.took; only = looks_only p.tx p.touched n s.turns s.only; told = told })

  pub decided : (w u v : Walker M S G) (n : ℕ) (p m q : SessionState) (r : Result Point SettleError) → p.phase ≡ Standing n → u.number ≡ w.number → Settles w u n p r → PlacedBy p (settled_in r) m
      → LeavesIf (is_aborted r) sh u m n v q → Decides w v n p r q
  decided w u v n p m q (Ok point) stands number s place l = kept_so w u v n p q (Ok point) s (s.told, l.1 ∙ place) l.0
  decided w u v n p m q (Err (Unsettled k)) stands number s place l =
      kept_so w u v n p q (Err (Unsettled k)) s (s.told.0, s.told.1, l.1 ∙ place ∙ ap (λ (x : Phase). record p { phase = x }) stands) l.0
  decided w u v n p m q (Err (Worn at)) stands number s place l =
      kept_so w u v n p q (Err (Worn at)) s (s.told, l.1 ∙ place ∙ ap (λ (x : Phase). record p { phase = x }) stands) l.0
  decided w u v n p m q (Err Memory) stands number s place l =
      kept_so w u v n p q (Err Memory) s (l.1 ∙ place ∙ ap (λ (x : Phase). record p { phase = x }) stands) l.0
  decided w u v n p m q (Err (Aborted cause)) stands number s place l =
      let count = length sh.locks.items in
      let drops : Leaving count w.number u.clock u.passes.items p.tx p.touched n v.clock v.passes.items =
      subst (λ (k : ℕ). Leaving count k u.clock u.passes.items p.tx p.touched n v.clock v.passes.items) number
      (subst (λ (z : SessionState). Leaving count u.number u.clock u.passes.items z.tx z.touched n v.clock v.passes.items) place l.0) in
      record {
        turns = s.turns ++ drops.turns;
        took = turns_follow w.number w.clock u.clock v.clock w.passes.items u.passes.items v.passes.items s.turns drops.turns s.took drops.took;
        only = all_append _ s.turns drops.turns (looks_only p.tx p.touched n s.turns s.only) (drops_only p.tx p.touched n drops.turns drops.only);
        told = (
          any_before _ s.turns drops.turns s.told,
          λ k low is. any_after _ s.turns drops.turns (drops.each k low is),
          l.1 ∙ place,
        );
      }

  pub decided_stands : (w u v : Walker M S G) (n : ℕ) (p m q : SessionState) (r : Result Point SettleError) → p.phase ≡ Standing n → PlacedBy p (settled_in r) m → StandsBy sh u m n (settled_in r)
      → LeavesIf (is_aborted r) sh u m n v q → StandsAs sh v q
  decided_stands w u v n p m q (Ok point) stands place h l =
      subst (λ z. StandsAs sh z q) (sym l.0) (subst (StandsAs sh u) (sym l.1) (stands_in u m Told (ap (λ z. z.phase) place) h))
  decided_stands w u v n p m q (Err (Unsettled k)) stands place h l =
      subst (λ z. StandsAs sh z q) (sym l.0) (subst (StandsAs sh u) (sym l.1) (stands_in u m (Standing n) (ap (λ z. z.phase) place ∙ stands) h))
  decided_stands w u v n p m q (Err (Worn at)) stands place h l =
      subst (λ z. StandsAs sh z q) (sym l.0) (subst (StandsAs sh u) (sym l.1) (stands_in u m (Standing n) (ap (λ z. z.phase) place ∙ stands) h))
  decided_stands w u v n p m q (Err Memory) stands place h l =
      subst (λ z. StandsAs sh z q) (sym l.0) (subst (StandsAs sh u) (sym l.1) (stands_in u m (Standing n) (ap (λ z. z.phase) place ∙ stands) h))
  decided_stands w u v n p m q (Err (Aborted cause)) stands place h l = stands_in v q Refused (ap (λ z. z.phase) (l.1 ∙ place)) (left_ended u v m q n h.0.born h.1 l.0 l.1 l.2)
