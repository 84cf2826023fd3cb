-- A transaction of this run that is committed in the logs left has the home that took its request.
use Rattle.std.proofs.Common.{◌≡◌, inl, inr, ⊎_elim, refl, sym, ap, subst, ◌∙◌, ℕ, ◌<◌, true, false, Bool, not, ◌==◌, List, [], map, Option, Some, None, append-nil, arith}
use Rattle.std.specs.List.{filter}
use Rattle.std.proofs.lemmas.Bool.{both_ways, false_from_ne_true, eq-eqb}
use Rattle.clv_base.specs.declared.names.TxId.{TxId}
use Rattle.clv_base.specs.declared.causes.Vote.TheVariants.{Yes, Read}
use Rattle.clv_base.specs.declared.logs.LogRecord.{LogRecord}
use Rattle.clv_base.specs.declared.messages.Message.TheVariants.{Vote as VoteMessage}
use Rattle.clv_base.specs.declared.events.Event.TheVariants.{Request as RequestEvent}
use Rattle.clv_base.specs.declared.events.Outcome.TheVariants.{Asked, Sent}
use Rattle.clv_base.specs.declared.events.Entry.{Entry}
use Rattle.clv_base.specs.Orders.{nat_in}
use Rattle.clv_base.specs.Shards.{shard_count}
use Rattle.clv_base.specs.Logs.{wrote_in, has_standing, prepared_in, committed_in, aborted_in, ended_in, prepare_of, commit_parts}
use Rattle.clv_base.specs.LogRules.{log_of, home_is}
use Rattle.clv_base.specs.Coordinator.{others}
use Rattle.clv_base.specs.State.{Shard}
use Rattle.clv_base.specs.Restarts.{run_after, log_left}
use Rattle.clv_base.specs.Journals.{History, final_of}
use Rattle.clv_base.specs.History.{IsAmong, logs_left}
use Rattle.protocol_laws.specs.Growth.{IsPrefixOf}
use Rattle.protocol_laws.specs.SessionLaws.{tx_of}
use Rattle.protocol_laws.proofs.LogsInOrder.OneRecordMore.{committed_there, prepared_there}
use Rattle.history_cases.proofs.Durability.{left_front}
use Rattle.history_cases.proofs.Merging.{Placed, Among, is_among}
use Rattle.history_laws.specs.Openings.{LegalFrom}
use Rattle.history_laws.proofs.NeverTakenBack.LaterHistoriesHoldMembers.{committed_front}
use Rattle.history_laws.proofs.NeverTakenBack.{walker_of, one_request, log_now}
use Rattle.history_cases.proofs.Worlds.{in_a_shard}
use Rattle.law_base.proofs.Standing.{standing_wrote}
use Rattle.shard_laws.proofs.Cuts.WhoIsInDoubt.{prepared_cut}
use Rattle.shard_laws.proofs.Order.WritesLieOnListed.{ended_committed}
use Rattle.fate_laws.proofs.History.EntriesInTurn.{Requested}
use Rattle.fate_laws.proofs.Origins.FrontsKeepOrigins.{DidOrOld, IsOld, OriginsAt, traced_front}
use Rattle.fate_laws.specs.Decisions.{is_left}
use Rattle.fate_laws.proofs.Parts.YesVotesArePrepared.{Bound}
use Rattle.fate_laws.proofs.Parts.FrontsKeepParts.{Bindings, bindings_front}
use Rattle.fate_laws.proofs.VotesBind.CastVotesStayBound.{casts_front}
use Rattle.fate_laws.proofs.Homes.DecidedStaysDecided.{left_committed}
use Rattle.fate_laws.proofs.History.EntryByEntry.{one_home}
use Rattle.fate_laws.proofs.Logs.WhatAddsNoPrepare.{front_prepare, prepare_more}
use Rattle.fate_laws.proofs.Logs.RestartsWriteNoUpdate.{wrote_take}
use Rattle.fate_laws.proofs.FallenAreUncommitted.FrontsKeepOutUncommitted.{WasOut, stands_front}
use Rattle.fate_laws.proofs.MembersAreHere.{in_others}
use Rattle.headline_laws.proofs.EndedAreCommitted.{part_below, ended_are_committed}
use Rattle.headline_laws.proofs.PartsAreTheYesVoters.HomesKnowTheVotes.{in_picked}
use Rattle.headline_laws.proofs.PartsAreTheYesVoters.{parts_are_the_yes_voters}
use Rattle.fate_laws.proofs.EachShardLeads.RecordsTellTheirOrigin.{wrote_from, prepared_from}
use Rattle.headline_laws.proofs.GoneAreLost.FrontsKeepAbortedAway.{aborts_from, struck_front}
use Rattle.headline_laws.proofs.RequestsNameTheirShards.{names_shard}
use Rattle.headline_laws.proofs.YesVotersNeverFell.{bound_never_out}
use Rattle.headline_laws.proofs.ReadersPass.WhyCommittedHere.{committed_by}
use Rattle.headline_laws.proofs.ReadersPass.{readers_pass, passed_last, readers_left}
use Rattle.headline_laws.proofs.ReadersPass.FrontsPassReaders.{Passed}
use Rattle.headline_laws.proofs.LogsLeftMayBeOpened.LogsAgreeByHomes.{HomeIs, PartIs, part_here}
use Rattle.headline_laws.proofs.LogsLeftMayBeOpened.FrontsTellHomes.{Marked, marks_of}
use Rattle.headline_laws.proofs.LogsLeftMayBeOpened.LeftLogsGoOn.{InOrder, left_aborted}
use Rattle.history_laws.proofs.LogsLeftPass.{left_length}
use Rattle.law_base.proofs.Names.{all_from}

-- the home is none of the others
not_home : (home : ℕ) (xs : List ℕ) → nat_in home (filter (λ p. not (p == home)) xs) ≡ true → ⊥
not_home home xs i = both_ways false refl (subst (λ b. not b ≡ true) (eq-eqb home home refl) (in_picked (λ p. not (p == home)) home xs i).1)

module _ {splits : List ℕ} {before after : List (List LogRecord)} {h : History} (l : LegalFrom splits before h after) (choice : ℕ → Bool)
    (home : ℕ) (e : Entry) (touched : List (ℕ × ℕ)) (t : TxId) (ps : List ℕ) (orders : InOrder splits before h after choice)
    (a : IsAmong home e h) (ev : e.event ≡ RequestEvent t touched) (out : e.outcome ≡ Asked) where
  abbrev left : List (List LogRecord)
  left = logs_left splits before h after choice

  abbrev last : ℕ → Shard
  last n = final_of before h after n

  mine : Among (home, e) h
  mine = is_among home e h a

  inside : home < shard_count splits
  inside = in_a_shard splits before after h (home, e) l.legal mine

  run : t.run ≡ run_after before
  run = (walker_of splits before after h (home, e) t l.legal mine (ap tx_of ev)).0

  not_old : t.run < run_after before → ⊥
  not_old q = let r = run in absurd (omega (arith, q, r))

  bindings : Bindings splits before after h h
  bindings = bindings_front l h [] (append-nil h)

  origins : (n : ℕ) → n < shard_count splits → OriginsAt (run_after before) h n (last n).local.epoch (last n)
  origins n i = ((traced_front l h [] (append-nil h)).states n i).origins

  -- the request that was taken on a shard is this one
  at_home : (n : ℕ) → Requested h t n → n ≡ home
  at_home n (r, ts, i, q, p) = sym p ∙ ap (λ (z : Placed). z.0) (one_request splits before after h r (home, e) t ts touched l.legal i mine q (ev, out))

  -- a PREPARE names it as its home
  prepare_home : (n : ℕ) (p : ℕ × List TxId) → n < shard_count splits → prepare_of (last n).local.log t ≡ Some p → p.0 ≡ home
  prepare_home n p i q =
      let y = ((bindings.fated).homed n i).prepares t p q run in
      one_home splits before after h t p.0 home y.0 e y.1 touched l.legal y.2 y.3 mine (ev, out)

  -- ---- of whom something stands on another shard

  named_there : (n : ℕ) → n < shard_count splits → (n == home) ≡ false → DidOrOld (run_after before) h n t → nat_in n (others home touched) ≡ true
  named_there n i d did = in_others n home (map (λ r. r.0) touched) (names_shard splits before after h n home t (e, touched, a, ev, out) l.legal run did) d

  stood_did : (n : ℕ) → n < shard_count splits → wrote_in (last n).local.log t ≡ true → DidOrOld (run_after before) h n t
  stood_did n i w = wrote_from (DidOrOld (run_after before) h n) (Requested h) (IsOld (run_after before)) n (last n).local.log (origins n i).log t w

  committed_did : (n : ℕ) → n < shard_count splits → (n == home) ≡ false → committed_in (last n).local.log t ≡ true → DidOrOld (run_after before) h n t
  committed_did n i d c =
      ⊎_elim (λ w. stood_did n i (standing_wrote (last n).local.log t w)) (λ x. absurd (both_ways _ d (eq-eqb n home (at_home n x)))) (committed_by l h [] (append-nil h) n i t run c)

  -- what is marked in what is left is so in the log
  left_last : (n : ℕ) → n < shard_count splits → log_of left n ≡ log_left (last n) (choice n)
  left_last n i = log_now splits before h after choice n i

  left_ended : (n : ℕ) → n < shard_count splits → ended_in (log_of left n) t ≡ true → committed_in (last n).local.log t ≡ true
  left_ended n i x = left_committed splits before h after choice n t i (ended_committed n (log_of left n) (orders n i) t x)

  left_prepared : (n : ℕ) → n < shard_count splits → prepared_in (log_of left n) t ≡ true → prepared_in (last n).local.log t ≡ true
  left_prepared n i x = prepared_cut _ (last n).local.log t (subst (λ z. prepared_in z t ≡ true) (left_last n i) x)

  did : (n : ℕ) → n < shard_count splits → (n == home) ≡ false → Marked (log_of left n) t → DidOrOld (run_after before) h n t
  did n i d (inl w) = stood_did n i (wrote_take _ (last n).local.log t (standing_wrote (log_left (last n) (choice n)) t (subst (λ z. has_standing z t ≡ true) (left_last n i) w)))
  did n i d (inr (inl p)) = (prepared_from (DidOrOld (run_after before) h n) (Requested h) (IsOld (run_after before)) n (last n).local.log (origins n i).log t (left_prepared n i p)).0
  did n i d (inr (inr (inl c))) = committed_did n i d (left_committed splits before h after choice n t i c)
  did n i d (inr (inr (inr (inl x)))) = aborts_from (DidOrOld (run_after before) h n) (Requested h) (IsOld (run_after before)) n (last n).local.log t (origins n i).log (left_aborted splits before h after choice n t i x)
  did n i d (inr (inr (inr (inr x)))) = committed_did n i d (left_ended n i x)

  -- of who voted read there nothing does
  read_nothing : (n k to : ℕ) (x : Entry) → n < shard_count splits → IsAmong k x h → x.outcome ≡ Sent (VoteMessage to t n Read) → Marked (log_of left n) t → ⊥
  read_nothing n k to x i m s w = by_mark w
    where
      passed : Passed splits before after h n t
      passed = passed_last l n k to x t i m s

      uncommitted : committed_in (last n).local.log t ≡ false
      uncommitted = (readers_pass splits before h [] after k x to n t (subst (λ z. LegalFrom splits before z after) (sym (append-nil h)) l) i m s).1

      by_mark : Marked (log_of left n) t → ⊥
      by_mark (inl w) = both_ways _ (readers_left l n k to x t (choice n) i m s) (subst (λ z. has_standing z t ≡ true) (left_last n i) w)
      by_mark (inr (inl p)) = both_ways _ (passed.reads).unprepared (left_prepared n i p)
      by_mark (inr (inr (inl c))) = both_ways _ uncommitted (left_committed splits before h after choice n t i c)
      by_mark (inr (inr (inr (inl x)))) = both_ways _ passed.unaborted (left_aborted splits before h after choice n t i x)
      by_mark (inr (inr (inr (inr x)))) = both_ways _ uncommitted (left_ended n i x)

  -- ---- a part that voted yes

  left_more : (n : ℕ) → n < shard_count splits → IsPrefixOf (log_left (last n) false) (log_of left n)
  left_more n i = subst (IsPrefixOf (log_left (last n) false)) (sym (log_now splits before h after choice n i)) (left_front (last n) (choice n) (((bindings.fated).counts).counted n i))

  unaborted : (n : ℕ) → n < shard_count splits → (n ≡ home → ⊥) → is_left splits before h after choice home t ≡ true → (b : Bound (last n) t) → aborted_in (log_of left n) t ≡ false
  unaborted n i d there b = false_from_ne_true _ (λ x. bound_never_out l choice home n t inside i run there b (λ z. d (sym z ∙ prepare_home n b.listed i prepared)) (out_of x))
    where
      prepared : prepare_of (last n).local.log t ≡ Some b.listed
      prepared = front_prepare (last n).durable (last n).local.log t b.listed b.prepare

      out_of : aborted_in (log_of left n) t ≡ true → WasOut before after h n t
      out_of x =
          let z = struck_front l h [] (append-nil h) n i t (left_aborted splits before h after choice n t i x) in
          (h, [], append-nil h, (z.0, z.1, ((stands_front l h [] (append-nil h) n i).barred).sought t (prepared_there (last n).local.log t b.listed prepared)))

  part_is : (n : ℕ) → n < shard_count splits → (n ≡ home → ⊥) → is_left splits before h after choice home t ≡ true → Bound (last n) t → PartIs (log_of left n) t home
  part_is n i d there b =
      let g = left_more n i in
      record {
        listed = b.listed;
        prepare = subst (λ z. prepare_of z t ≡ Some b.listed) g.1 (prepare_more (log_left (last n) false) g.0 t b.listed b.prepare);
        home = prepare_home n b.listed i (front_prepare (last n).durable (last n).local.log t b.listed b.prepare);
        unaborted = unaborted n i d there b;
        committed = all_from (committed_in (log_of left n)) (b.listed).1 (λ q j. committed_front (log_left (last n) false) (log_of left n) q g (b.durable q j));
      }

  -- ---- the home

  module _ (commits : commit_parts (log_of left home) t ≡ Some ps) where
    there : is_left splits before h after choice home t ≡ true
    there = committed_there (log_of left home) t ps commits

    home_named : (p : Option (ℕ × List TxId)) → prepare_of (log_of left home) t ≡ p → home_is home p ≡ true
    home_named None q = refl
    home_named (Some p) q =
        eq-eqb p.0 home (prepare_home home p inside (front_prepare _ (last home).local.log t p (subst (λ z. prepare_of z t ≡ Some p) (log_now splits before h after choice home inside) q)))

    named : (n : ℕ) → n < shard_count splits → (n == home) ≡ false → Marked (log_of left n) t → nat_in n ps ≡ true
    named n i d r = at (nat_in n ps) refl
      where
        at : (b : Bool) → nat_in n ps ≡ b → nat_in n ps ≡ true
        at true q = q
        at false q =
            let v = (parts_are_the_yes_voters splits before h after choice n home e touched t ps l a ev out commits).1 (named_there n i d (did n i d r)) q in absurd (read_nothing n v.0 home v.1 i v.2 v.3 r)

    part : (n : ℕ) → nat_in n ps ≡ true → PartIs (log_of left n) t home
    part n i =
        let j = part_below l choice home n t ps inside commits i in
        let v = (parts_are_the_yes_voters splits before h after choice n home e touched t ps l a ev out commits).0 i in
        let x = v.1 in
        let b = (casts_front l h [] (append-nil h)).cast (x.0, x.1) home n t Yes (is_among x.0 x.1 h x.2) x.3 in
        part_is n j (λ z. not_home home (map (λ r. r.0) touched) (subst (λ k. nat_in k (others home touched) ≡ true) z v.0)) there b.1

    pub home_here : HomeIs left t home ps
    home_here = record {
      commits = commits;
      home = home_named (prepare_of (log_of left home) t) refl;
      named = λ n i d r. let e = left_length splits before h after choice in named n (omega (arith, e, i)) d (marks_of (log_of left n) t r);
      parts = λ n i. part_here (log_of left n) t home (part n i);
      ended = λ x n i. ended_are_committed splits before h after choice home n t ps l inside x commits i;
    }
