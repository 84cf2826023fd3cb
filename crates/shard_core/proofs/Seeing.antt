-- The shard by its parts, and what do_one tells of them.
use Rattle.std.proofs.Common.{◌≡◌, refl, sym, ap, subst, ◌∙◌, ⊎_elim, ℕ, ◌+◌, Bool, true, false, cond, ◌||◌, List, [], ◌∷◌, ◌++◌, length, Option, Some, None, append_assoc, arith}
use Rattle.std.proofs.lemmas.Bool.{both_ways, or_cases, and_parts}
use Rattle.std.specs.List.{AllByRecursion, list_any}
use Rattle.std.specs.Map.{keys_of}
use Rattle.clv_base.specs.declared.names.TxId.{TxId}
use Rattle.clv_base.specs.declared.changes.Change.{Change}
use Rattle.clv_base.specs.declared.changes.Change.TheVariants.{Sets, Adds}
use Rattle.clv_base.specs.declared.causes.Vote.{Vote}
use Rattle.clv_base.specs.declared.causes.Vote.TheVariants.{Yes, Read, No}
use Rattle.clv_base.specs.declared.state.Held.{Held}
use Rattle.clv_base.specs.declared.state.Voter.{Voter}
use Rattle.clv_base.specs.declared.state.Ruling.TheVariants.{Commit as CommitVerdict, Acknowledge, Abort as AbortVerdict, End as EndVerdict}
use Rattle.clv_base.specs.declared.logs.LogRecord.{LogRecord}
use Rattle.clv_base.specs.declared.logs.LogRecord.TheVariants.{Commit as CommitRecord, End as EndRecord}
use Rattle.clv_base.specs.Orders.{Table, tx_same, tx_in, tx_get}
use Rattle.clv_base.specs.Logs.{StandingUpdate, standing, prepare_lsn, is_prepare_of}
use Rattle.clv_base.specs.State.{Shard, Local, with_local}
use Rattle.clv_base.specs.Undo.{doomed_by, doomed_here, aborts_of, newest_lsn, newest_lsns, is_at, compensation, clrs_by, clrs_of, roll_to}
use Rattle.clv_base.specs.OneShard.{purge}
use Rattle.clv_base.specs.Due.{due_of, finish_reader}
use Rattle.clv_base.proofs.SameNames.{or_left, tx_true, tx_self}
use Rattle.protocol_laws.specs.UndoLaws.{is_pair}
use Rattle.protocol_laws.proofs.Laws.{doomed_is_closure}
use Rattle.protocol_laws.specs.Depending.{HasPart, DependentsHaveParts}
use Rattle.protocol_laws.specs.Purging.{IsLocked, WritesAreLocked}
use Rattle.protocol_laws.proofs.Laws.{place_more, undone_none, due_keeps_keys}
use Rattle.due_step.specs.Ready.{least}
use Rattle.tx_table.specs.Held.{AreAmong}
use Rattle.due_step.specs.Found.{carried, vote_sent}
use Rattle.due_step.specs.declared.finding.Due.{Due}
use Rattle.due_step.specs.declared.finding.Due.TheVariants.{Commit, Vote as DueVote, Ruling as DueRuling}
use Rattle.due_step.specs.Sent.{Waiting}
use Rattle.due_step.specs.Noting.{ruled_touches, touches, known_keys}
use Rattle.due_step.proofs.Laws.{own_doomed, ruled_doomed, keys_length}
use Rattle.due_step.specs.Steps.{IsSeen}
use Rattle.txn_core.specs.State.{TxState}
use Rattle.txn_core.specs.Sound.{IsHeld, IsSound}
use Rattle.two_phase_commit.specs.Voting.{Voting}
use Rattle.two_phase_commit.specs.Coordinated.{Coordination}
use Rattle.shard_core.specs.Core.{flight_by, seen_as}
use Rattle.law_base.proofs.Lists.{all_mono as all_weaker}
use Rattle.law_base.proofs.Names.{in_first}

-- ---- seen

-- a shard by its fields
pub same_shard : (s t : Shard) → s.shard ≡ t.shard → s.run ≡ t.run → s.is_up ≡ t.is_up → s.local ≡ t.local → s.voters ≡ t.voters → s.requests ≡ t.requests → s.durable ≡ t.durable → s.flight ≡ t.flight
    → s.outbox ≡ t.outbox → s.last ≡ t.last → s.journal ≡ t.journal → s ≡ t
same_shard s t a b c d e f g h i j k =
    ap (λ x. record s { shard = x }) a ∙ ap (λ x. record s { shard = t.shard; run = x }) b ∙ ap (λ x. record s { shard = t.shard; run = t.run; is_up = x }) c
    ∙ ap (λ (x : Local). record s { shard = t.shard; run = t.run; is_up = t.is_up; local = x }) d ∙ ap (λ x. record t { requests = s.requests; durable = s.durable; flight = s.flight; outbox = s.outbox; last = s.last; journal = s.journal; voters = x }) e
    ∙ ap (λ x. record t { durable = s.durable; flight = s.flight; outbox = s.outbox; last = s.last; journal = s.journal; requests = x }) f ∙ ap (λ x. record t { flight = s.flight; outbox = s.outbox; last = s.last; journal = s.journal; durable = x }) g
    ∙ ap (λ x. record t { outbox = s.outbox; last = s.last; journal = s.journal; flight = x }) h ∙ ap (λ x. record t { last = s.last; journal = s.journal; outbox = x }) i ∙ ap (λ x. record t { journal = s.journal; last = x }) j
    ∙ ap (λ x. record t { journal = x }) k

-- what is due leaves the rest of the shard
pub record Rests (s u : Shard) : Type 0 where
  pub run : u.run ≡ s.run
  pub is_up : u.is_up ≡ s.is_up
  pub flight : u.flight ≡ s.flight
  pub last : u.last ≡ s.last
  pub journal : u.journal ≡ s.journal
  pub durable : u.durable ≡ s.durable

abbrev sent : Shard → TxId → Vote → Option Voter → Shard
sent s tx vote o = finish_reader tx vote (vote_sent s tx vote o)

vote_rests : (s : Shard) (tx : TxId) (vote : Vote) (o : Option Voter) → Rests s (sent s tx vote o)
vote_rests s tx Yes None = record { run = refl; is_up = refl; flight = refl; last = refl; journal = refl; durable = refl }
vote_rests s tx Yes (Some v) = record { run = refl; is_up = refl; flight = refl; last = refl; journal = refl; durable = refl }
vote_rests s tx Read None = record { run = refl; is_up = refl; flight = refl; last = refl; journal = refl; durable = refl }
vote_rests s tx Read (Some v) = record { run = refl; is_up = refl; flight = refl; last = refl; journal = refl; durable = refl }
vote_rests s tx (No why) None = record { run = refl; is_up = refl; flight = refl; last = refl; journal = refl; durable = refl }
vote_rests s tx (No why) (Some v) = record { run = refl; is_up = refl; flight = refl; last = refl; journal = refl; durable = refl }

pub carried_rests : (s : Shard) (tx : TxId) (due : Due) → Rests s (carried s tx due)
carried_rests s tx Commit = record { run = refl; is_up = refl; flight = refl; last = refl; journal = refl; durable = refl }
carried_rests s tx (DueVote vote) = vote_rests s tx vote (tx_get tx s.voters)
carried_rests s tx (DueRuling (CommitVerdict parts)) = record { run = refl; is_up = refl; flight = refl; last = refl; journal = refl; durable = refl }
carried_rests s tx (DueRuling Acknowledge) = record { run = refl; is_up = refl; flight = refl; last = refl; journal = refl; durable = refl }
carried_rests s tx (DueRuling (AbortVerdict cause to)) = record { run = refl; is_up = refl; flight = refl; last = refl; journal = refl; durable = refl }
carried_rests s tx (DueRuling EndVerdict) = record { run = refl; is_up = refl; flight = refl; last = refl; journal = refl; durable = refl }

module _ (run : ℕ) where
  pub seen_now : (t : TxState) (p : Voting) (c : Coordination) (o : Waiting) → c.shard ≡ t.shard → IsSeen (seen_as run t p c o) t p c o
  seen_now t p c o home = record { shard = refl; home = sym home; local = refl; durable = refl; voters = refl; requests = refl; outbox = refl }

  -- after nothing was due
  pub seen_same : (t u : TxState) (p q : Voting) (c d : Coordination) (o w : Waiting) → u.taken ≡ t.taken → IsSeen (seen_as run t p c o) u q d w → seen_as run u q d w ≡ seen_as run t p c o
  seen_same t u p q c d o w taken seen =
      same_shard (seen_as run u q d w) (seen_as run t p c o) (sym seen.shard) refl refl (sym seen.local) (sym seen.voters) (sym seen.requests) (sym seen.durable)
      (ap (flight_by u.durable) taken ∙ ap (λ n. flight_by n t.taken) (sym seen.durable)) (sym seen.outbox) refl refl

  -- after what was due was done
  pub seen_done : (t u : TxState) (p q : Voting) (c d : Coordination) (o w : Waiting) (tx : TxId) (due : Due) → u.taken ≡ t.taken → IsSeen (with_local purge (carried (seen_as run t p c o) tx due)) u q d w
      → seen_as run u q d w ≡ with_local purge (carried (seen_as run t p c o) tx due)
  seen_done t u p q c d o w tx due taken seen =
      let s : Shard = seen_as run t p c o in let r = carried_rests s tx due in
      same_shard (seen_as run u q d w) (with_local purge (carried s tx due)) (sym seen.shard) (sym r.run) (sym r.is_up) (sym seen.local) (sym seen.voters) (sym seen.requests) (sym seen.durable)
      (ap (flight_by u.durable) taken ∙ ap (λ n. flight_by n t.taken) (sym seen.durable ∙ r.durable) ∙ sym r.flight) (sym seen.outbox) (sym r.last) (sym r.journal)

-- ---- who is known

pub pair_has : (parts : Table Held) (pairs : List (TxId × TxId)) (x p : TxId) → AllByRecursion (λ q. HasPart parts q.0) pairs → is_pair pairs x p ≡ true → HasPart parts x
pair_has parts [] x p a e = absurd (both_ways false refl e)
pair_has parts (q ∷ qs) x p a e =
    ⊎_elim (λ h. subst (HasPart parts) (sym (tx_true x q.0 (and_parts _ _ h).0)) a.0) (λ h. pair_has parts qs x p a.1 h) (or_cases _ (is_pair qs x p) e)

pub part_known : (s : Shard) (x : TxId) → HasPart s.local.parts x → tx_in x (known_keys s) ≡ true
part_known s x h = in_first x (keys_of s.local.parts) _ h

-- those that depend on one that is known are known
pub doomed_known : (s : Shard) (tx x : TxId) → DependentsHaveParts s.local → tx_in tx (known_keys s) ≡ true → tx_in x (doomed_by s.local tx) ≡ true → tx_in x (known_keys s) ≡ true
doomed_known s tx x d own e = (doomed_is_closure s.local tx).2 (known_keys s) own (λ t p h i. part_known s t (pair_has s.local.parts s.local.pairs t p d h)) x e

touched_doomed : (l : Local) (tx : TxId) (due : Due) (x : TxId) → touches l tx due x ≡ true → tx_in x (doomed_by l tx) ≡ true
touched_doomed l tx Commit x e = subst (λ z. tx_in z (doomed_by l tx) ≡ true) (tx_true tx x e) (own_doomed l tx)
touched_doomed l tx (DueVote vote) x e = subst (λ z. tx_in z (doomed_by l tx) ≡ true) (tx_true tx x e) (own_doomed l tx)
touched_doomed l tx (DueRuling r) x e =
    ⊎_elim (λ h. ruled_doomed l tx r x h) (λ h. subst (λ z. tx_in z (doomed_by l tx) ≡ true) (tx_true tx x h) (own_doomed l tx)) (or_cases (ruled_touches l tx r x) (tx_same tx x) e)

pub known_more : (s : Shard) (tx : TxId) (due : Due) (txs more : List TxId) → DependentsHaveParts s.local → tx_in tx (known_keys s) ≡ true → AreAmong txs (known_keys s)
    → ((x : TxId) → tx_in x more ≡ (touches s.local tx due x || tx_in x txs)) → AreAmong more (known_keys s)
known_more s tx due txs more d own held put x e =
    ⊎_elim (λ h. doomed_known s tx x d own (touched_doomed s.local tx due x h)) (λ h. held x h) (or_cases (touches s.local tx due x) (tx_in x txs) (sym (put x) ∙ e))

pub least_in : (txs : List TxId) (tx : TxId) → least txs ≡ Some tx → tx_in tx txs ≡ true
least_in [] tx e = absurd cc
least_in (t ∷ ts) tx e = let h : t ≡ tx = cc in or_left _ _ (subst (λ z. tx_same t z ≡ true) h (tx_self t))

-- ---- keys stay

pub known_same : (s t : Shard) (tx : TxId) → due_of s tx ≡ Some t → known_keys t ≡ known_keys s
known_same s t tx e = let k = due_keeps_keys s t tx e in ap (λ (ks : List TxId). ks ++ (keys_of t.voters ++ keys_of t.requests)) k.0 ∙ ap (λ (ks : List TxId). keys_of s.local.parts ++ (ks ++ keys_of t.requests)) k.1
    ∙ ap (λ (ks : List TxId). keys_of s.local.parts ++ (keys_of s.voters ++ ks)) k.2

pub places_same : (s t : Shard) (tx : TxId) → due_of s tx ≡ Some t → length t.local.parts + length t.voters + length t.requests ≡ length s.local.parts + length s.voters + length s.requests
places_same s t tx e =
    let k = due_keeps_keys s t tx e in
    let a = sym (keys_length t.local.parts) ∙ ap length k.0 ∙ keys_length s.local.parts in let b = sym (keys_length t.voters) ∙ ap length k.1 ∙ keys_length s.voters in let c = sym (keys_length t.requests) ∙ ap length k.2 ∙ keys_length s.requests in
    omega (arith, a, b, c)

-- ---- no PREPARE is written

pub single : (x : TxId) (log : List LogRecord) (r : LogRecord) → is_prepare_of x r ≡ false → prepare_lsn (log ++ r ∷ []) x ≡ prepare_lsn log x
single x log r e = place_more 0 (is_prepare_of x) log (r ∷ []) (ap (λ b. b || false) e)

pub undone_prepares : (l : Local) (set : List TxId) (x : TxId) → prepare_lsn (l.log ++ aborts_of l.log set ++ clrs_of set (standing l.log)) x ≡ prepare_lsn l.log x
undone_prepares l set x =
    ap (λ (log : List LogRecord). prepare_lsn log x) (append_assoc l.log (aborts_of l.log set) (clrs_of set (standing l.log)))
    ∙ place_more 0 (is_prepare_of x) l.log (aborts_of l.log set ++ clrs_of set (standing l.log)) (undone_none (is_prepare_of x) (λ t. refl) (λ t u k a. refl) (λ t u k by. refl) l.log set (standing l.log))

back_none : (x : TxId) (gone : StandingUpdate → Bool) (ws : List StandingUpdate) → list_any (is_prepare_of x) (clrs_by gone ws) ≡ false
back_none x gone [] = refl
back_none x gone (w ∷ ws) = at (gone w) w.change (back_none x gone ws)
  where
    at : (b : Bool) (c : Change) → list_any (is_prepare_of x) (clrs_by gone ws) ≡ false
        → list_any (is_prepare_of x) (cond b (compensation w.tx (newest_lsn w.tx ws) w.key c ∷ clrs_by gone ws) (clrs_by gone ws)) ≡ false
    at true (Sets before after) more = more
    at true (Adds by) more = more
    at false c more = more

-- nor by one that goes back
pub back_prepares : (tx : TxId) (n : ℕ) (l : Local) (x : TxId) → prepare_lsn (roll_to tx n l).log x ≡ prepare_lsn l.log x
back_prepares tx n l x = let gone = is_at (newest_lsns n tx (standing l.log)) in place_more 0 (is_prepare_of x) l.log (clrs_by gone (standing l.log)) (back_none x gone (standing l.log))

vote_prepares : (s : Shard) (tx : TxId) (vote : Vote) (o : Option Voter) (x : TxId) → prepare_lsn (sent s tx vote o).local.log x ≡ prepare_lsn s.local.log x
vote_prepares s tx Yes None x = refl
vote_prepares s tx Yes (Some v) x = refl
vote_prepares s tx Read None x = refl
vote_prepares s tx Read (Some v) x = refl
vote_prepares s tx (No why) None x = refl
vote_prepares s tx (No why) (Some v) x = refl

pub carried_prepares : (s : Shard) (tx : TxId) (due : Due) (x : TxId) → prepare_lsn (carried s tx due).local.log x ≡ prepare_lsn s.local.log x
carried_prepares s tx Commit x = refl
carried_prepares s tx (DueVote vote) x = vote_prepares s tx vote (tx_get tx s.voters) x
carried_prepares s tx (DueRuling (CommitVerdict parts)) x = single x s.local.log (CommitRecord tx parts) refl
carried_prepares s tx (DueRuling Acknowledge) x = refl
carried_prepares s tx (DueRuling (AbortVerdict cause to)) x = undone_prepares s.local (doomed_here s.local tx) x
carried_prepares s tx (DueRuling EndVerdict) x = single x s.local.log (EndRecord tx) refl

-- ---- writes are locked

pub writes_locked : (l : Local) (n : ℕ) → IsSound l n → WritesAreLocked l
writes_locked l n sound = all_weaker (IsHeld l) (IsLocked l) (λ w h here. (h here).1) (standing l.log) sound.writes
