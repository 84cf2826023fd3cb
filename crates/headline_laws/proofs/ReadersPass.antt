-- Of who voted read no write stands and no COMMIT is there, and it never fell; so no part of a member ever did.
pub mod AbortedWereHere
pub mod FrontsWithoutWrites
pub mod OnlyOwnOperationsUpdate
pub mod ReadVotersWroteNothing
pub mod WhyCommittedHere
pub mod ReturnedArePrepared
pub mod FrontsPassReaders
use Rattle.std.proofs.Common.{◌≡◌, inl, inr, ⊎_elim, refl, sym, subst, ◌∙◌, ℕ, ◌<◌, true, false, Bool, List, [], ◌∷◌, ◌++◌, map, None, append-nil}
use Rattle.std.proofs.lemmas.Bool.{both_ways, false_from_ne_true}
use Rattle.clv_base.specs.declared.names.TxId.{TxId}
use Rattle.clv_base.specs.declared.logs.LogRecord.{LogRecord}
use Rattle.clv_base.specs.Orders.{nat_in}
use Rattle.clv_base.specs.Shards.{shard_count}
use Rattle.clv_base.specs.declared.causes.Vote.TheVariants.{Read}
use Rattle.clv_base.specs.declared.messages.Message.TheVariants.{Vote as VoteMessage}
use Rattle.clv_base.specs.declared.events.Outcome.TheVariants.{Sent}
use Rattle.clv_base.specs.declared.events.Entry.{Entry}
use Rattle.clv_base.specs.Logs.{has_standing}
use Rattle.clv_base.specs.State.{Shard}
use Rattle.clv_base.specs.Undo.{stage_of}
use Rattle.clv_base.specs.Restarts.{run_after, log_left}
use Rattle.clv_base.specs.Journals.{History, final_of}
use Rattle.clv_base.specs.History.{IsAmong}
use Rattle.history_cases.proofs.Merging.{Among, among_left, is_among}
use Rattle.history_cases.proofs.Worlds.{state_at}
use Rattle.history_laws.specs.Openings.{LegalFrom}
use Rattle.fate_laws.proofs.History.EntriesInTurn.{Requested}
use Rattle.fate_laws.proofs.Origins.FrontsKeepOrigins.{DidOrOld, traced_front}
use Rattle.fate_laws.specs.Decisions.{IsHome, is_left}
use Rattle.fate_laws.proofs.Homes.DecidedStaysDecided.{commits_stand_at_home}
use Rattle.fate_laws.proofs.History.EntryByEntry.{one_home}
use Rattle.fate_laws.specs.Falls.{Fell}
use Rattle.fate_laws.proofs.EachShardLeads.{restored_front}
use Rattle.fate_laws.proofs.EachShardLeads.DeedsWereAnswered.{part_did, none_doomed, none_present}
use Rattle.fate_laws.proofs.EachShardLeads.RestoredStayPrepared.{RestoredArePrepared}
use Rattle.headline_laws.proofs.RequestsNameTheirShards.{names_shard}
use Rattle.headline_laws.proofs.OnlyReadersMayFall.{only_readers_may_fall}
use Rattle.headline_laws.specs.Passing.{ReadersPass}
use Rattle.headline_laws.specs.Falling.{ReadersNeverFell, MembersNeverFell}
use Rattle.fate_laws.proofs.Parts.FrontsKeepParts.{bindings_front}
use Rattle.headline_laws.proofs.ReadersPass.FrontsWithoutWrites.{none_whole}
use Rattle.headline_laws.proofs.ReadersPass.OnlyOwnOperationsUpdate.{none_left}
use Rattle.headline_laws.proofs.ReadersPass.FrontsPassReaders.{Passed, passing_front}
use Rattle.headline_laws.proofs.ReadersPass.WhyCommittedHere.{committed_by}

-- ---- who voted read

pub readers_pass : ReadersPass
readers_pass splits before so_far later after n e home from tx l i j q = (
  unwritten,
  false_from_ne_true _ (λ c. ⊎_elim (λ w. both_ways _ unwritten w) (λ r. elsewhere r) (committed_by l so_far later refl from i tx (p.asked).0 c)),
)
  where
    p : Passed splits before after so_far from tx
    p = (passing_front l so_far later refl).sent (n, e) home from tx i (is_among n e so_far j) q

    s : Shard
    s = state_at before after from so_far

    unwritten : has_standing (state_at before after from so_far).local.log tx ≡ false
    unwritten = none_whole s.durable s.local.log tx (((bindings_front l so_far later refl).fated).counts.counted from i).within p.unwritten

    elsewhere : Requested so_far tx from → ⊥
    elsewhere (y, ts, k, a, z) = apart (p.asked).1
      where
        apart : (m : ℕ) × (m ≡ from → ⊥) × Requested so_far tx m → ⊥
        apart (m, d, (x, us, g, b, v)) =
            d (sym v ∙ one_home splits before after (so_far ++ later) tx x.0 y.0 x.1 y.1 us ts l.legal (among_left x so_far later g) b (among_left y so_far later k) a ∙ z)

pub passed_last : {splits : List ℕ} {before after : List (List LogRecord)} {h : History} → LegalFrom splits before h after → (m k to : ℕ) (x : Entry) (tx : TxId) → m < shard_count splits → IsAmong k x h → x.outcome ≡ Sent (VoteMessage to tx m Read) → Passed splits before after h m tx
passed_last {splits} {before} {after} {h} l m k to x tx i j q = (passing_front l h [] (append-nil h)).sent (k, x) to m tx i (is_among k x h j) q

-- nor does a write of it stand in what a crash leaves, whatever it keeps
pub readers_left : {splits : List ℕ} {before after : List (List LogRecord)} {h : History} → LegalFrom splits before h after → (m k to : ℕ) (x : Entry) (tx : TxId) (kept : Bool) → m < shard_count splits → IsAmong k x h → x.outcome ≡ Sent (VoteMessage to tx m Read)
    → has_standing (log_left (final_of before h after m) kept) tx ≡ false
readers_left {splits} {before} {after} {h} l m k to x tx kept i j q =
    none_left (final_of before h after m) tx kept (((bindings_front l h [] (append-nil h)).fated).counts.counted m i) (passed_last l m k to x tx i j q).unwritten

pub readers_never_fell : ReadersNeverFell
readers_never_fell splits before h after m k to x tx l i j q f = (passed_last l m k to x tx i j q).unfallen f

-- ---- who fell was answered there

module _ {splits : List ℕ} {before after : List (List LogRecord)} {h : History} (l : LegalFrom splits before h after) (m : ℕ) (tx : TxId)
    (j : m < shard_count splits) where
  restored : (front rest : History) → front ++ rest ≡ h → RestoredArePrepared (state_at before after m front).local
  restored front rest q = restored_front l front rest m q j

  did_later : (front rest : History) → front ++ rest ≡ h → DidOrOld (run_after before) front m tx → DidOrOld (run_after before) h m tx
  did_later front rest q (inl (ep, (b, (y, i, p, a)))) = inl (ep, (b, (y, subst (Among y) q (among_left y front rest i), p, a)))
  did_later front rest q (inr old) = inr old

  part_at : (front rest : History) → front ++ rest ≡ h → (stage_of (state_at before after m front).local tx ≡ None → ⊥) → DidOrOld (run_after before) h m tx
  part_at front rest q n =
      let s = state_at before after m front in
      did_later front rest q (part_did (run_after before) front m s tx (stage_of s.local tx) ((traced_front l front rest q).states m j) (restored front rest q) refl n)

  fell_did : Fell before h after m tx → DidOrOld (run_after before) h m tx
  fell_did (inl (front, x, rest, z, ev, y)) = part_at front ((m, x) ∷ rest) z (none_present (stage_of (state_at before after m front).local tx) y.0)
  fell_did (inr (front, rest, z, d)) = part_at front rest z (none_doomed (stage_of (state_at before after m front).local tx) d)

-- ---- members

pub members_never_fell : MembersNeverFell
members_never_fell splits before h after choice n m tx l i j run left f = by_home k.1
  where
    k : (home : ℕ) × IsHome h tx home × (is_left splits before h after choice home tx ≡ true)
    k = commits_stand_at_home splits before h after choice n tx l i run left

    named : (home : ℕ) (r : IsHome h tx home) → DidOrOld (run_after before) h m tx → nat_in m (map (λ t. t.0) r.1) ≡ true
    named home r d = names_shard splits before after h m home tx r l.legal run d

    by_home : IsHome h tx k.0 → ⊥
    by_home r =
        let v = only_readers_may_fall splits before h after choice n m k.0 r.0 r.1 tx l i j r.2 r.3 r.4 (named k.0 r (fell_did l m tx j f)) left f in
        readers_never_fell splits before h after m v.0 v.2 v.1 tx l j v.3 v.4 f
