-- Each member is here on each shard, so the members replay.
pub mod WhoPasses
pub mod YesVotersAreHere
use Rattle.std.proofs.Common.{◌≡◌, ◌⊎◌, inl, inr, ⊎_elim, refl, sym, subst, ℕ, ◌<◌, true, false, Bool, ◌==◌, List, map, Some, eqb-true}
use Rattle.std.proofs.lemmas.Bool.{both_ways, or_cases, eq-eqb}
use Rattle.clv_base.specs.declared.names.TxId.{TxId}
use Rattle.clv_base.specs.declared.causes.Vote.{Vote}
use Rattle.clv_base.specs.declared.causes.Vote.TheVariants.{Yes, Read, No}
use Rattle.clv_base.specs.declared.logs.LogRecord.{LogRecord}
use Rattle.clv_base.specs.declared.messages.Message.TheVariants.{Vote as VoteMessage}
use Rattle.clv_base.specs.declared.events.Event.TheVariants.{Request as RequestEvent}
use Rattle.clv_base.specs.declared.events.Outcome.TheVariants.{Asked, Sent}
use Rattle.clv_base.specs.declared.events.Entry.{Entry}
use Rattle.clv_base.specs.Orders.{nat_in}
use Rattle.clv_base.specs.Coordinator.{others, is_good}
use Rattle.clv_base.specs.Shards.{shard_count}
use Rattle.clv_base.specs.Journals.{History}
use Rattle.clv_base.specs.Logs.{committed_in}
use Rattle.clv_base.specs.LogRules.{log_of}
use Rattle.clv_base.specs.History.{IsAmong, acknowledged_in, logs_left}
use Rattle.history_cases.proofs.Merging.{is_among, among_is}
use Rattle.history_laws.specs.Openings.{LegalFrom}
use Rattle.history_laws.proofs.NeverTakenBack.{is_request}
use Rattle.history_cases.proofs.Worlds.{in_a_shard}
use Rattle.fate_laws.specs.Decisions.{is_left}
use Rattle.headline_laws.proofs.MembersAreVotedFor.{members_are_voted_for}
use Rattle.headline_laws.specs.ReplayingHere.{IsHere}
use Rattle.headline_laws.proofs.MembersReplayWhereHere.WhoIsAMember.{asks}
use Rattle.headline_laws.proofs.MembersReplayWhereHere.{members_replay_where_here}
use Rattle.headline_laws.specs.Found.{MembersAreFound, MembersReplay}
use Rattle.headline_laws.specs.Acknowledged.{OnlyRead}
use Rattle.headline_laws.proofs.AcknowledgedStand.{acknowledged_stand}
use Rattle.headline_laws.proofs.MembersReplay.WhoPasses.{reader_passes, home_passes, unnamed_passes}
use Rattle.headline_laws.proofs.MembersReplay.YesVotersAreHere.{yes_is_here}
use Rattle.fate_laws.proofs.MembersAreHere.{in_others}

module _ {splits : List ℕ} {before after : List (List LogRecord)} {h : History} (l : LegalFrom splits before h after) (choice : ℕ → Bool)
    (n : ℕ) (i : n < shard_count splits) (t : TxId) (home : ℕ) (e : Entry) (touched : List (ℕ × ℕ)) (a : IsAmong home e h)
    (ev : e.event ≡ RequestEvent t touched) (out : e.outcome ≡ Asked) where
  -- on another shard that the request names, where the COMMIT is left at home
  by_vote : is_left splits before h after choice home t ≡ true → (n == home) ≡ false → nat_in n (others home touched) ≡ true → (k : ℕ) (x : Entry) (to : ℕ) (v : Vote) → IsAmong k x h → x.outcome ≡ Sent (VoteMessage to t n v) → is_good (Some v) ≡ true
      → IsHere splits before h after choice n t
  by_vote left away there k x to Yes m s g = yes_is_here l choice n i t home e touched a ev out left away k x to m s there
  by_vote left away there k x to Read m s g = inr (inr (reader_passes l n i t home e touched a ev out k x to m s))
  by_vote left away there k x to (No why) m s g = absurd (both_ways false refl g)

  elsewhere : (is_left splits before h after choice home t ≡ true) ⊎ OnlyRead before h after home touched t → (n == home) ≡ false → nat_in n (others home touched) ≡ true → IsHere splits before h after choice n t
  elsewhere (inl left) away there =
      let v = members_are_voted_for splits before h after choice home n home e touched t l (in_a_shard splits before after h (home, e) l.legal (is_among home e h a)) a ev out there left in
      by_vote left away there v.0 v.1 v.2 v.3 v.4 v.5 v.6
  elsewhere (inr r) away there = let v = r.voted n there in inr (inr (reader_passes l n i t home e touched a ev out v.0 v.1 v.2 v.3 v.4))

  at_home : (is_left splits before h after choice home t ≡ true) ⊎ OnlyRead before h after home touched t → n ≡ home → IsHere splits before h after choice n t
  at_home (inl left) z = inl (subst (λ m. is_left splits before h after choice m t ≡ true) (sym z) left)
  at_home (inr r) z = inr (inr (home_passes l n i t home e touched a ev out z r))

  found : (is_left splits before h after choice home t ≡ true) ⊎ OnlyRead before h after home touched t → IsHere splits before h after choice n t
  found w = at (n == home) (nat_in n (map (λ r. r.0) touched)) refl refl
    where
      at : (b d : Bool) → (n == home) ≡ b → nat_in n (map (λ r. r.0) touched) ≡ d → IsHere splits before h after choice n t
      at true d q j = at_home w (eqb-true n home q)
      at false true q j = elsewhere w q (in_others n home (map (λ r. r.0) touched) j q)
      at false false q j = inr (inr (unnamed_passes l n i t home e touched a ev out j (λ z. both_ways _ q (eq-eqb n home z))))

pub members_are_found : MembersAreFound
members_are_found splits before h after choice n t l i k =
    let y = asks (logs_left splits before h after choice) h h t k in
    let home = (y.0).0 in
    let e = (y.0).1 in
    let r = is_request t e.event e.outcome y.2 in
    let a = among_is home e h y.1 in
    found l choice n i t home e r.0 a r.1 r.2 (⊎_elim (λ left. inl left)
    (λ told. acknowledged_stand splits before h after choice home e r.0 t l (in_a_shard splits before after h (home, e) l.legal y.1) told a r.1 r.2)
    (or_cases (committed_in (log_of (logs_left splits before h after choice) home) t) (acknowledged_in h t) y.3))

pub members_replay : MembersReplay
members_replay splits before h after choice l = members_replay_where_here splits before h after choice l (λ n t i k. members_are_found splits before h after choice n t l i k)
