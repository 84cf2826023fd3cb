-- What is decided once is decided for good, and who is committed anywhere is a member.
use Rattle.std.proofs.Common.{◌≡◌, inl, inr, ⊎_elim, sym, ap, subst, ◌∙◌, ℕ, ◌<◌, true, false, cond, Bool, ◌||◌, List, [], ◌∷◌, map, Option, Some, None}
use Rattle.std.proofs.lemmas.Bool.{both_ways, or_left, or_right, false_from_ne_true}
use Rattle.clv_base.specs.declared.names.TxId.{TxId}
use Rattle.clv_base.specs.declared.logs.LogRecord.{LogRecord}
use Rattle.clv_base.specs.Shards.{shard_count}
use Rattle.clv_base.specs.Orders.{tx_same, tx_in}
use Rattle.clv_base.specs.Logs.{committed_in}
use Rattle.clv_base.specs.LogRules.{log_of}
use Rattle.clv_base.specs.Restarts.{log_left}
use Rattle.clv_base.specs.Journals.{History, final_of}
use Rattle.clv_base.specs.declared.events.Event.TheVariants.{Request as RequestEvent}
use Rattle.clv_base.specs.History.{Legal, Member, members, acts_in, request_of, acknowledged_in, logs_left}
use Rattle.clv_base.proofs.SameNames.{tx_self}
use Rattle.history_cases.proofs.Durability.{left_front}
use Rattle.history_cases.proofs.Merging.{Placed, Among, among_is, is_among}
use Rattle.history_laws.proofs.NeverTakenBack.LaterHistoriesHoldMembers.{committed_front}
use Rattle.history_cases.proofs.Telling.{IsRequest}
use Rattle.history_cases.proofs.TellingEvents.{front_committed}
use Rattle.history_cases.proofs.Worlds.{in_a_shard}
use Rattle.fate_laws.specs.Members.{CommitsAreMembers}
use Rattle.fate_laws.specs.Decisions.{IsTold, IsHome, CommitsStandAtHome, ToldCommitsStay, ToldAbortsStay}
use Rattle.fate_laws.proofs.Homes.ShardKnowsHomes.{Known}
use Rattle.fate_laws.proofs.History.EntryByEntry.{AskedIn, one_home, DurableIn}
use Rattle.fate_laws.proofs.Homes.FrontsKeepHomes.{Said, Fated, fated}
use Rattle.history_laws.proofs.NeverTakenBack.{log_now}

-- ---- the log that a crash leaves

-- who is durable is left
pub durable_left : (splits : List ℕ) (before : List (List LogRecord)) (h : History) (after : List (List LogRecord)) (choice : ℕ → Bool) (n : ℕ) (tx : TxId) → n < shard_count splits → Fated splits before after h → DurableIn before after h n tx
    → committed_in (log_of (logs_left splits before h after choice) n) tx ≡ true
durable_left splits before h after choice n tx i f d =
    let s = final_of before h after n in
    subst (λ z. committed_in z tx ≡ true) (sym (log_now splits before h after choice n i))
    (committed_front (log_left s false) (log_left s (choice n)) tx (left_front s (choice n) ((f.counts).counted n i)) d)

-- a COMMIT that is left is in the log
pub left_committed : (splits : List ℕ) (before : List (List LogRecord)) (h : History) (after : List (List LogRecord)) (choice : ℕ → Bool) (n : ℕ) (tx : TxId) → n < shard_count splits
    → committed_in (log_of (logs_left splits before h after choice) n) tx ≡ true → committed_in (final_of before h after n).local.log tx ≡ true
left_committed splits before h after choice n tx i c =
    front_committed _ (final_of before h after n).local.log tx (subst (λ z. committed_in z tx ≡ true) (log_now splits before h after choice n i) c)

home_in : (splits : List ℕ) (before after : List (List LogRecord)) (h : History) (tx : TxId) (n : ℕ) → Legal splits before h after → AskedIn h tx n → n < shard_count splits
home_in splits before after h tx n l a = in_a_shard splits before after h (n, a.0) l a.2

is_home : (h : History) (tx : TxId) (n : ℕ) → AskedIn h tx n → IsHome h tx n
is_home h tx n (r, ts, i, a) = (r, ts, among_is n r h i, a.0, a.1)

pub commits_stand_at_home : CommitsStandAtHome
commits_stand_at_home splits before h after choice n tx l i r c =
    let f = fated l in
    ⊎_elim
    (λ a. let e = (f.counts).shard n i in (n, is_home h tx n (subst (AskedIn h tx) e a), c))
    (λ k. (k.0, is_home h tx k.0 k.1, durable_left splits before h after choice k.0 tx (home_in splits before after h tx k.0 l.legal k.1) f k.2))
    ((f.homed n i).log tx (left_committed splits before h after choice n tx i c) r)

-- ---- what was told

told : (splits : List ℕ) (before after : List (List LogRecord)) (h : History) (tx : TxId) (commit : Bool) → Fated splits before after h → (t : IsTold h tx commit) → Said before after h (t.1).outcome
told splits before after h tx commit f (n, e, to, home, i, o) = f.said (n, e) (is_among n e h i)

pub told_commits_stay : ToldCommitsStay
told_commits_stay splits before h after choice home tx l r t (b, us, j, q, o) =
    let f = fated l in
    let k : Known (AskedIn h) (DurableIn before after h) tx = subst (Said before after h) t.5 (told splits before after h tx true f t) r in
    let e = one_home splits before after h tx k.0 home (k.1).0 b (k.1).1 us l.legal (k.1).2 (k.1).3 (is_among home b h j) (q, o) in
    subst (λ n. committed_in (log_of (logs_left splits before h after choice) n) tx ≡ true) e (durable_left splits before h after choice k.0 tx (home_in splits before after h tx k.0 l.legal k.1) f k.2)

pub told_aborts_stay : ToldAbortsStay
told_aborts_stay splits before h after choice n tx l i r t =
    false_from_ne_true _
    (λ c.
    let f = fated l in
    let d = subst (Said before after h) t.5 (told splits before after h tx false f t) r in
    let k = commits_stand_at_home splits before h after choice n tx l i r c in
    let a = d.0 in
    let b = k.1 in
    let e = one_home splits before after h tx k.0 t.3 b.0 a.0 b.1 a.1 l.legal (is_among k.0 b.0 h b.2) (b.3, b.4) a.2 a.3 in
    let j = home_in splits before after h tx t.3 l.legal a in
    both_ways _ (d.1).0 (left_committed splits before h after choice t.3 tx j (subst (λ z. committed_in (log_of (logs_left splits before h after choice) z) tx ≡ true) e k.2)))

-- ---- members

member_one : (logs : List (List LogRecord)) (h : History) (x : Placed) (es : History) (t : TxId) (ts : List (ℕ × ℕ)) → IsRequest t ts x → (committed_in (log_of logs x.0) t || acknowledged_in h t) ≡ true → tx_in t (map (λ (m : Member). m.tx) (members logs h (x ∷ es))) ≡ true
member_one logs h x es t ts r c = at (request_of (x.1).event (x.1).outcome) (ap (λ z. request_of z (x.1).outcome) r.0 ∙ ap (request_of (RequestEvent t ts)) r.1)
  where
    at : (o : Option TxId) → o ≡ Some t
        → tx_in t (map (λ (m : Member). m.tx) (elim o [
          | Some u ↦ cond (committed_in (log_of logs x.0) u || acknowledged_in h u) (record { tx = u; point = record { stamp = (x.1).stamp; shard = x.0 }; acts = acts_in u h } ∷ members logs h es) (members logs h es)
          | None ↦ members logs h es
        ])) ≡ true
    at None e = absurd cc
    at (Some u) e =
        let q : t ≡ u = cc in
        subst (λ b. tx_in t (map (λ (m : Member). m.tx) (cond b (record { tx = u; point = record { stamp = (x.1).stamp; shard = x.0 }; acts = acts_in u h } ∷ members logs h es) (members logs h es))) ≡ true)
        (sym (subst (λ v. (committed_in (log_of logs x.0) v || acknowledged_in h v) ≡ true) q c))
        (or_left (tx_same u t) _ (subst (λ v. tx_same v t ≡ true) q (tx_self t)))

more_members : (logs : List (List LogRecord)) (h : History) (y : Placed) (es : History) (t : TxId) → tx_in t (map (λ (m : Member). m.tx) (members logs h es)) ≡ true → tx_in t (map (λ (m : Member). m.tx) (members logs h (y ∷ es))) ≡ true
more_members logs h y es t i = at (request_of (y.1).event (y.1).outcome)
  where
    with : (b : Bool) (k : Member) → tx_in t (map (λ (m : Member). m.tx) (cond b (k ∷ members logs h es) (members logs h es))) ≡ true
    with true k = or_right (tx_same k.tx t) _ i
    with false k = i

    at : (o : Option TxId)
        → tx_in t (map (λ (m : Member). m.tx) (elim o [
          | Some u ↦ cond (committed_in (log_of logs y.0) u || acknowledged_in h u) (record { tx = u; point = record { stamp = (y.1).stamp; shard = y.0 }; acts = acts_in u h } ∷ members logs h es) (members logs h es)
          | None ↦ members logs h es
        ])) ≡ true
    at None = i
    at (Some u) = with (committed_in (log_of logs y.0) u || acknowledged_in h u) _

-- whose request is among the entries, and who has its COMMIT at home or is acknowledged
pub is_member_by : (logs : List (List LogRecord)) (h : History) (x : Placed) (es : History) (t : TxId) (ts : List (ℕ × ℕ)) → Among x es → IsRequest t ts x → (committed_in (log_of logs x.0) t || acknowledged_in h t) ≡ true → tx_in t (map (λ (m : Member). m.tx) (members logs h es)) ≡ true
is_member_by logs h x [] t ts i r c = elim i [ ]
is_member_by logs h x (y ∷ es) t ts (inl q) r c = subst (λ z. tx_in t (map (λ (m : Member). m.tx) (members logs h (z ∷ es))) ≡ true) (sym q) (member_one logs h x es t ts r c)
is_member_by logs h x (y ∷ es) t ts (inr i) r c = more_members logs h y es t (is_member_by logs h x es t ts i r c)

pub commits_are_members : CommitsAreMembers
commits_are_members splits before h after choice n tx l i r c =
    let k = commits_stand_at_home splits before h after choice n tx l i r c in
    let b = k.1 in
    is_member_by (logs_left splits before h after choice) h (k.0, b.0) h tx b.1 (is_among k.0 b.0 h b.2) (b.3, b.4) (or_left _ (acknowledged_in h tx) k.2)
