-- Of a member, only a part that voted read may ever have fallen.
use Rattle.std.proofs.Common.{◌≡◌, refl, ap, subst, ℕ, ◌<◌, true, false, Bool, ◌==◌, map, Some, eqb-true}
use Rattle.std.proofs.lemmas.Bool.{both_ways}
use Rattle.clv_base.specs.declared.causes.Vote.{Vote}
use Rattle.clv_base.specs.declared.causes.Vote.TheVariants.{Yes, Read, No}
use Rattle.clv_base.specs.declared.messages.Message.TheVariants.{Vote as VoteMessage}
use Rattle.clv_base.specs.declared.events.Outcome.TheVariants.{Sent}
use Rattle.clv_base.specs.declared.events.Entry.{Entry}
use Rattle.clv_base.specs.Coordinator.{is_good}
use Rattle.clv_base.specs.Shards.{shard_count}
use Rattle.clv_base.specs.Restarts.{run_after}
use Rattle.clv_base.specs.History.{IsAmong}
use Rattle.protocol_laws.specs.SessionLaws.{tx_of}
use Rattle.history_cases.proofs.Merging.{is_among}
use Rattle.history_laws.proofs.NeverTakenBack.{walker_of}
use Rattle.fate_laws.specs.Falls.{Fell}
use Rattle.fate_laws.proofs.FallenAreUncommitted.{members_never_fell_at_home}
use Rattle.fate_laws.proofs.MembersAreHere.{in_others}
use Rattle.headline_laws.specs.Readers.{OnlyReadersMayFall}
use Rattle.headline_laws.proofs.YesVotersNeverFell.{yes_voters_never_fell}
use Rattle.headline_laws.proofs.MembersAreVotedFor.{members_are_voted_for}

pub only_readers_may_fall : OnlyReadersMayFall
only_readers_may_fall splits before h after choice n m home e touched tx l i j a ev out there left f = at (m == home) refl
  where
    run : tx.run ≡ run_after before
    run = (walker_of splits before after h (home, e) tx l.legal (is_among home e h a) (ap tx_of ev)).0

    by_vote : (k : ℕ) (x : Entry) (to : ℕ) (v : Vote) → IsAmong k x h → x.outcome ≡ Sent (VoteMessage to tx m v) → is_good (Some v) ≡ true → (k : ℕ) × (x : Entry) × (to : ℕ) × IsAmong k x h × (x.outcome ≡ Sent (VoteMessage to tx m Read))
    by_vote k x to Yes y s g = absurd (yes_voters_never_fell splits before h after choice n m k x to tx l i j run y s left f)
    by_vote k x to Read y s g = (k, x, to, y, s)
    by_vote k x to (No why) y s g = absurd (both_ways false refl g)

    at : (b : Bool) → (m == home) ≡ b → (k : ℕ) × (x : Entry) × (to : ℕ) × IsAmong k x h × (x.outcome ≡ Sent (VoteMessage to tx m Read))
    at true d =
        let z = eqb-true m home d in
        absurd (members_never_fell_at_home splits before h after choice n home tx l i (subst (λ v. v < shard_count splits) z j) run left (e, touched, a, ev, out) (subst (λ v. Fell before h after v tx) z f))
    at false d =
        let v = members_are_voted_for splits before h after choice n m home e touched tx l i a ev out (in_others m home (map (λ t. t.0) touched) there d) left in
        by_vote v.0 v.1 v.2 v.3 v.4 v.5 v.6
