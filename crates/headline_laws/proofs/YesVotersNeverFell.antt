-- No part of a member that is prepared ever fell.
use Rattle.std.proofs.Common.{◌≡◌, ◌⊎◌, inl, inr, refl, ap, subst, ℕ, ◌<◌, true, false, Bool, ◌==◌, List, [], map, Some, append-nil, eqb-true}
use Rattle.std.proofs.lemmas.Bool.{both_ways}
use Rattle.clv_base.specs.declared.names.TxId.{TxId}
use Rattle.clv_base.specs.declared.logs.LogRecord.{LogRecord}
use Rattle.clv_base.specs.Shards.{shard_count}
use Rattle.clv_base.specs.Orders.{tx_in}
use Rattle.clv_base.specs.Logs.{committed_in, aborted_in, prepare_of}
use Rattle.clv_base.specs.Restarts.{run_after, log_left}
use Rattle.clv_base.specs.Journals.{History}
use Rattle.clv_base.specs.declared.messages.Message.TheVariants.{Vote as VoteMessage}
use Rattle.clv_base.specs.declared.events.Outcome.TheVariants.{Sent}
use Rattle.clv_base.specs.declared.events.Entry.{Entry}
use Rattle.clv_base.specs.History.{IsAmong}
use Rattle.protocol_laws.specs.SessionLaws.{tx_of}
use Rattle.history_cases.proofs.Merging.{Among, is_among, among_is}
use Rattle.history_laws.specs.Openings.{LegalFrom}
use Rattle.history_laws.proofs.NeverTakenBack.{walker_of}
use Rattle.history_cases.proofs.TellingEvents.{front_committed}
use Rattle.history_cases.proofs.Worlds.{state_at, in_a_shard}
use Rattle.fate_laws.specs.Decisions.{IsHome, is_left}
use Rattle.fate_laws.proofs.Homes.FrontsKeepHomes.{DeadIn}
use Rattle.fate_laws.proofs.History.EntryByEntry.{one_home}
use Rattle.fate_laws.proofs.Logs.WhatAddsNoPrepare.{front_prepare}
use Rattle.fate_laws.proofs.Homes.DecidedStaysDecided.{left_committed, commits_stand_at_home}
use Rattle.fate_laws.proofs.Parts.YesVotesArePrepared.{Bound, Reads}
use Rattle.fate_laws.proofs.Parts.FrontsKeepParts.{FineAt, bindings_front}
use Rattle.fate_laws.proofs.VotesBind.CastVotesStayBound.{casts_front}
use Rattle.clv_base.specs.declared.causes.Vote.TheVariants.{Yes}
use Rattle.fate_laws.specs.Falls.{Fell}
use Rattle.fate_laws.proofs.FallenAreUncommitted.FrontsKeepOutUncommitted.{WasOut, stands_front}
use Rattle.fate_laws.proofs.FallenAreUncommitted.{fell_out, members_never_fell_at_home}
use Rattle.fate_laws.proofs.MembersAreHere.{in_others}
use Rattle.headline_laws.specs.Unfallen.{PreparedMembersNeverFell, YesVotersNeverFell}
use Rattle.headline_laws.proofs.GoneAreLost.OutAreLost.{LostAt, all_lost}
use Rattle.headline_laws.proofs.GoneAreLost.FrontsKeepAbortedAway.{struck_front}
use Rattle.protocol_laws.proofs.LogsInOrder.OneRecordMore.{prepared_there}

-- ---- a part that is bound

module _ {splits : List ℕ} {before after : List (List LogRecord)} {h : History} (l : LegalFrom splits before h after) (choice : ℕ → Bool)
    (n m : ℕ) (tx : TxId) (i : n < shard_count splits) (j : m < shard_count splits) (run : tx.run ≡ run_after before)
    (left : is_left splits before h after choice n tx ≡ true) where
  dead : (k : ℕ) → DeadIn before after h k tx → ⊥
  dead k d =
      let z = commits_stand_at_home splits before h after choice n tx l i run left in
      let b = z.1 in
      let g = is_among z.0 b.0 h b.2 in
      let same = one_home splits before after h tx z.0 k b.0 (d.0).0 b.1 (d.0).1 l.legal g (b.3, b.4) (d.0).2 (d.0).3 in
      both_ways _ (d.1).0 (subst (λ v. committed_in (state_at before after v h).local.log tx ≡ true) same (left_committed splits before h after choice z.0 tx (in_a_shard splits before after h (z.0, b.0) l.legal g) z.2))

  opened : (u : TxId) → WasOut before after h m u → committed_in (state_at before after m h).local.log u ≡ false
  opened u v = ((stands_front l h [] (append-nil h) m j).barred).open_ u v

  by_lost : (p : ℕ × List TxId) → ((u : TxId) → tx_in u p.1 ≡ true → committed_in (log_left (state_at before after m h) false) u ≡ true) → (p.0 ≡ m → ⊥) → LostAt before after h m tx p → ⊥
  by_lost p g away (inl z) = away z
  by_lost p g away (inr (inl (inl (r, w, z)))) = dead w z
  by_lost p g away (inr (inl (inr z))) = z.0 run
  by_lost p g away (inr (inr (u, y, v))) =
      let s = state_at before after m h in both_ways _ (opened u v) (front_committed s.durable s.local.log u (g u y))

  prepared : (b : Bound (state_at before after m h) tx) → prepare_of (state_at before after m h).local.log tx ≡ Some b.listed
  prepared b = let s = state_at before after m h in front_prepare s.durable s.local.log tx b.listed b.prepare

  -- where its PREPARE names another shard as its home, it never was out
  pub bound_never_out : (b : Bound (state_at before after m h) tx) → ((b.listed).0 ≡ m → ⊥) → WasOut before after h m tx → ⊥
  bound_never_out b away v = by_lost b.listed b.durable away (all_lost l h [] (append-nil h) m j tx b.listed (inl run) v (prepared b))

  -- else this is its home
  home_here : (b : Bound (state_at before after m h) tx) → (b.listed).0 ≡ m → IsHome h tx m
  home_here b z = let y = ((bindings_front l h [] (append-nil h)).fated.homed m j).prepares tx b.listed (prepared b) run in (y.0, y.1, among_is m y.0 h (subst (λ v. Among (v, y.0) h) z y.2), (y.3).0, (y.3).1)

  pub bound_never_fell : Bound (state_at before after m h) tx → Fell before h after m tx → ⊥
  bound_never_fell b f = bound_never_out b (λ z. members_never_fell_at_home splits before h after choice n m tx l i j run left (home_here b z) f) (fell_out l h [] m tx (append-nil h) j f)

  -- at its home its COMMIT stands
  at_home : IsHome h tx m → committed_in (state_at before after m h).local.log tx ≡ true
  at_home y =
      let z = commits_stand_at_home splits before h after choice n tx l i run left in
      let b = z.1 in
      let same = one_home splits before after h tx z.0 m b.0 y.0 b.1 y.1 l.legal (is_among z.0 b.0 h b.2) (b.3, b.4) (is_among m y.0 h y.2) (y.3, y.4) in
      left_committed splits before h after choice m tx j (subst (λ v. is_left splits before h after choice v tx ≡ true) same z.2)

  -- so no ABORT of it is in the log
  pub bound_unaborted : Bound (state_at before after m h) tx → aborted_in (state_at before after m h).local.log tx ≡ true → ⊥
  bound_unaborted b k =
      let z = struck_front l h [] (append-nil h) m j tx k in
      let asked = ((stands_front l h [] (append-nil h) m j).barred).sought tx (prepared_there (state_at before after m h).local.log tx b.listed (prepared b)) in
      bound_never_out b (λ y. both_ways _ z.1 (at_home (home_here b y))) (h, [], append-nil h, (z.0, z.1, asked))

-- ---- members, and who voted yes

pub yes_voters_never_fell : YesVotersNeverFell
yes_voters_never_fell splits before h after choice n m k e home tx l i j run a sent left f =
    let b = (casts_front l h [] (append-nil h)).cast (k, e) home m tx Yes (is_among k e h a) sent in
    bound_never_fell l choice n m tx i j run left b.1 f

pub yes_voters_unaborted : {splits : List ℕ} {before after : List (List LogRecord)} {h : History} → LegalFrom splits before h after → (choice : ℕ → Bool) (n m k : ℕ) (e : Entry) (home : ℕ) (tx : TxId) → n < shard_count splits
    → m < shard_count splits → tx.run ≡ run_after before → IsAmong k e h → e.outcome ≡ Sent (VoteMessage home tx m Yes) → is_left splits before h after choice n tx ≡ true → aborted_in (state_at before after m h).local.log tx ≡ true → ⊥
yes_voters_unaborted {h} l choice n m k e home tx i j run a sent left f =
    let b = (casts_front l h [] (append-nil h)).cast (k, e) home m tx Yes (is_among k e h a) sent in
    bound_unaborted l choice n m tx i j run left b.1 f

pub prepared_members_never_fell : PreparedMembersNeverFell
prepared_members_never_fell splits before h after choice n m home e touched tx l i j a ev out there left prep f = at (m == home) refl
  where
    mine : Among (home, e) h
    mine = is_among home e h a

    run : tx.run ≡ run_after before
    run = (walker_of splits before after h (home, e) tx l.legal (is_among home e h a) (ap tx_of ev)).0

    fine : (m == home) ≡ false → FineAt before after h m tx
    fine d =
        let bs = bindings_front l h [] (append-nil h) in
        (bs.parted n i).log tx (left_committed splits before h after choice n tx i left) m (λ r. (home, touched, (e, mine, (ev, out)), in_others m home (map (λ t. t.0) touched) there d))

    by_fine : Bound (state_at before after m h) tx ⊎ (Reads (state_at before after m h) tx ⊎ (committed_in (log_left (state_at before after m h) false) tx ≡ true)) → ⊥
    by_fine (inl b) = bound_never_fell l choice n m tx i j run left b f
    by_fine (inr (inl r)) = both_ways _ r.unprepared prep
    by_fine (inr (inr k)) =
        let s = state_at before after m h in
        both_ways _ (opened l choice n m tx i j run left tx (fell_out l h [] m tx (append-nil h) j f)) (front_committed s.durable s.local.log tx k)

    at : (b : Bool) → (m == home) ≡ b → ⊥
    at true d =
        let z = eqb-true m home d in
        members_never_fell_at_home splits before h after choice n home tx l i (subst (λ v. v < shard_count splits) z j) run left (e, touched, a, ev, out) (subst (λ v. Fell before h after v tx) z f)
    at false d = by_fine (fine d).1
