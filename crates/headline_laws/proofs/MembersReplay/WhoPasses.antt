-- Who passes on a shard: who voted read there, who only read at its home, and whom its request doesn't name.
use Rattle.std.proofs.Common.{◌≡◌, inl, inr, ⊎_elim, refl, sym, ap, subst, ◌∙◌, ℕ, ◌<◌, true, false, List, [], ◌++◌, map, None, arith, append-nil}
use Rattle.std.proofs.lemmas.Bool.{both_ways, false_from_ne_true}
use Rattle.clv_base.specs.declared.names.TxId.{TxId}
use Rattle.clv_base.specs.declared.causes.Vote.TheVariants.{Read}
use Rattle.clv_base.specs.declared.logs.LogRecord.{LogRecord}
use Rattle.clv_base.specs.declared.messages.Message.TheVariants.{Vote as VoteMessage}
use Rattle.clv_base.specs.declared.events.Event.TheVariants.{Request as RequestEvent}
use Rattle.clv_base.specs.declared.events.Outcome.TheVariants.{Asked, Sent}
use Rattle.clv_base.specs.declared.events.Entry.{Entry}
use Rattle.clv_base.specs.Orders.{tx_in, nat_in}
use Rattle.clv_base.specs.Shards.{shard_count}
use Rattle.clv_base.specs.Logs.{has_standing, committed_in}
use Rattle.clv_base.specs.LogRules.{log_of, part_of, disorder}
use Rattle.clv_base.specs.State.{Shard, is_present}
use Rattle.clv_base.specs.Undo.{stage_of}
use Rattle.clv_base.specs.Restarts.{run_after}
use Rattle.clv_base.specs.Journals.{History, final_of}
use Rattle.clv_base.specs.History.{IsAmong}
use Rattle.protocol_laws.specs.SessionLaws.{tx_of}
use Rattle.history_cases.proofs.Merging.{is_among}
use Rattle.history_laws.specs.Openings.{LegalFrom}
use Rattle.history_laws.proofs.NeverTakenBack.{walker_of}
use Rattle.law_base.proofs.Standing.{standing_wrote}
use Rattle.shard_laws.specs.OneShard.{Passes}
use Rattle.shard_laws.proofs.OrderIsKept.{order_is_kept, part_is_old}
use Rattle.fate_laws.proofs.History.EntriesInTurn.{Requested}
use Rattle.fate_laws.proofs.Origins.DueKeepsOrigins.{OwnRequest}
use Rattle.fate_laws.proofs.Origins.FrontsKeepOrigins.{DidAny, DidOrOld, IsOld, Traced, traced_front}
use Rattle.fate_laws.proofs.History.EntryByEntry.{one_home}
use Rattle.fate_laws.proofs.VotesBind.{votes_bind}
use Rattle.fate_laws.specs.Falls.{Fell}
use Rattle.fate_laws.specs.Leading.{deeds_before, with_found, requests_of}
use Rattle.fate_laws.proofs.History.DeedsOfOneEntry.{request_is_in}
use Rattle.fate_laws.proofs.EachShardLeads.MessagesMayCome.{committed_stands}
use Rattle.fate_laws.proofs.EachShardLeads.CommitsSpareTheFallen.{fell_is}
use Rattle.fate_laws.proofs.EachShardLeads.{at_front, each_shard_leads, restored_front}
use Rattle.fate_laws.proofs.EachShardLeads.RecordsTellTheirOrigin.{wrote_from}
use Rattle.fate_laws.proofs.EachShardLeads.DeedsWereAnswered.{part_did, none_present}
use Rattle.headline_laws.proofs.ReadersPass.{readers_pass, readers_never_fell}
use Rattle.headline_laws.specs.Acknowledged.{OnlyRead}
use Rattle.headline_laws.proofs.RequestsNameTheirShards.{names_shard}

module _ {splits : List ℕ} {before after : List (List LogRecord)} {h : History} (l : LegalFrom splits before h after) (n : ℕ)
    (i : n < shard_count splits) (t : TxId) (home : ℕ) (e : Entry) (touched : List (ℕ × ℕ)) (a : IsAmong home e h)
    (ev : e.event ≡ RequestEvent t touched) (out : e.outcome ≡ Asked) where
  run_is : t.run ≡ run_after before
  run_is = (walker_of splits before after h (home, e) t l.legal (is_among home e h a) (ap tx_of ev)).0

  asked : tx_in t (requests_of h) ≡ true
  asked = request_is_in h t (home, e) touched (is_among home e h a) (ev, out)

  -- who never fell is none of the fallen that the shard counts
  uncounted : (Fell before h after n t → ⊥) → tx_in t (deeds_before before h after n).fell ≡ false
  uncounted k = false_from_ne_true _ (λ f. k (fell_is before h after n t (((at_front l h [] n (append-nil h) i).remembers).fell t f).1))

  -- ---- who voted read

  pub reader_passes : (k : ℕ) (x : Entry) (to : ℕ) → IsAmong k x h → x.outcome ≡ Sent (VoteMessage to t n Read) → Passes (deeds_before before h after n) (final_of before h after n) t
  reader_passes k x to m s =
      let w : LegalFrom splits before (h ++ []) after = subst (λ z. LegalFrom splits before z after) (sym (append-nil h)) l in
      let p = readers_pass splits before h [] after k x to n t w i m s in
      record {
        has_asked = asked;
        unwritten = p.0;
        uncommitted = p.1;
        absent = (votes_bind splits before h [] after k x to n t Read w i m s).1;
        unfallen = uncounted (readers_never_fell splits before h after n k to x t l i m s);
      }

  -- ---- who only read, at its home

  pub home_passes : n ≡ home → OnlyRead before h after home touched t → Passes (deeds_before before h after n) (final_of before h after n) t
  home_passes z r = record {
    has_asked = asked;
    unwritten = subst (λ m. has_standing (final_of before h after m).local.log t ≡ false) (sym z) r.unwritten;
    uncommitted = subst (λ m. committed_in (final_of before h after m).local.log t ≡ false) (sym z) r.uncommitted;
    absent = subst (λ m. is_present (stage_of (final_of before h after m).local t) ≡ false) (sym z) r.absent;
    unfallen = uncounted (subst (λ m. Fell before h after m t → ⊥) (sym z) r.unfallen);
  }

  -- ---- whom its request doesn't name

  module _ (unnamed : nat_in n (map (λ r. r.0) touched) ≡ false) (away : n ≡ home → ⊥) where
    abbrev A : TxId → Type 0
    A = DidOrOld (run_after before) h n

    abbrev Q : TxId → ℕ → Type 0
    Q = Requested h

    abbrev O : TxId → Type 0
    O = IsOld (run_after before)

    abbrev s : Shard
    s = final_of before h after n

    ordered : disorder n (final_of before h after n).local.log ≡ None
    ordered =
        let d = deeds_before before h after n in
        let found = log_of before n in
        order_is_kept n (run_after before) found (with_found n found d) s (each_shard_leads splits before h after h [] n l (append-nil h) i)

    part_old : (u : TxId) → committed_in (part_of (final_of before h after n).local.log) u ≡ true → u.run < run_after before
    part_old =
        let d = deeds_before before h after n in
        let found = log_of before n in
        part_is_old n (run_after before) found (with_found n found d) s (each_shard_leads splits before h after h [] n l (append-nil h) i)

    traced : Traced (run_after before) h n (final_of before h after n)
    traced = (traced_front l h [] (append-nil h)).states n i

    undone : DidAny h n t → ⊥
    undone d = both_ways _ unnamed (names_shard splits before after h n home t (e, touched, a, ev, out) l.legal run_is (inl d))

    not_there : DidOrOld (run_after before) h n t → ⊥
    not_there (inl d) = undone d
    not_there (inr old) = let r = run_is in omega (arith, old, r)

    not_its_home : OwnRequest (Requested h) (IsOld (run_after before)) n t → ⊥
    not_its_home (inl (r, us, j, q, z)) = away (sym z ∙ one_home splits before after h t r.0 home r.1 e us touched l.legal j q (is_among home e h a) (ev, out))
    not_its_home (inr old) = let r = run_is in omega (arith, old, r)

    stood_there : has_standing (final_of before h after n).local.log t ≡ true → DidOrOld (run_after before) h n t
    stood_there w = wrote_from A Q O n s.local.log (traced.origins).log t (standing_wrote s.local.log t w)

    pub unnamed_passes : Passes (deeds_before before h after n) (final_of before h after n) t
    unnamed_passes =
        let log = (traced.origins).log in
        record {
          has_asked = asked;
          unwritten = false_from_ne_true _ (λ w. not_there (stood_there w));
          uncommitted = false_from_ne_true _ (λ k. ⊎_elim (λ w. not_there (stood_there w)) (λ r. ⊎_elim not_its_home (λ c. not_its_home (inr (part_old t c))) r)
              (committed_stands A Q O n s.local.log t log ordered k));
          absent = false_from_ne_true _ (λ p. not_there (part_did (run_after before) h n s t (stage_of s.local t) traced (restored_front l h [] n (append-nil h) i) refl (none_present (stage_of s.local t) p)));
          unfallen = false_from_ne_true _ (λ f. not_there (((at_front l h [] n (append-nil h) i).remembers).fell t f).0);
        }
