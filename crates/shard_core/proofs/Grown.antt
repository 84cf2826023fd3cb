-- The parts after a request or a Prepare: one more may be known, and more may be left to do, for which there is room.
use Rattle.std.proofs.Common.{◌≡◌, refl, sym, ap, subst, ◌∙◌, ◌⊎◌, inl, inr, ⊎_elim, ℕ, ◌+◌, ◌*◌, ◌≤◌, Bool, true, false, ◌&&◌, ◌||◌, List, [], ◌∷◌, ◌++◌, length, drop, Some, is_some, arith}
use Rattle.std.proofs.lemmas.Bool.{both_ways, or_cases}
use Rattle.std.specs.List.Sorted.{IsStrictlySortedBy}
use Rattle.std.specs.Map.{keys_of}
use Rattle.tx_table.specs.Rows.{TxRows}
use Rattle.clv_base.specs.declared.names.TxId.{TxId}
use Rattle.clv_base.specs.declared.state.Request.{Request}
use Rattle.clv_base.specs.declared.state.RequestState.TheVariants.{Undecided}
use Rattle.clv_base.specs.declared.state.Voter.{Voter}
use Rattle.clv_base.specs.declared.state.Stage.TheVariants.{Active}
use Rattle.clv_base.specs.declared.messages.Message.{Message}
use Rattle.clv_base.specs.Orders.{tx_same, tx_in, tx_get, tx_put, tx_insert, tx_cmp}
use Rattle.clv_base.specs.Logs.{prepare_lsn, has_standing}
use Rattle.clv_base.specs.State.{Shard, Local}
use Rattle.clv_base.specs.Undo.{stage_of, doomed_by}
use Rattle.clv_base.specs.Facts.{undecided_of}
use Rattle.clv_base.specs.Coordinator.{new_request, prepares}
use Rattle.clv_base.specs.Participant.{asked_voter, voters_asked}
use Rattle.clv_base.specs.OneShard.{closing, close_part, purge}
use Rattle.clv_base.specs.Due.{total, part_work}
use Rattle.clv_base.specs.Events.{coordinate, owe_vote}
use Rattle.clv_base.proofs.SameNames.{or_left, or_right, in_insert, tx_true}
use Rattle.protocol_laws.specs.UndoLaws.{is_pair}
use Rattle.protocol_laws.specs.Changes.{ChangesDue, successors_of}
use Rattle.protocol_laws.specs.Depending.{DependentsHaveParts}
use Rattle.protocol_laws.specs.Left.{is_finished, is_idle, is_lone, left_by, left_request, left}
use Rattle.protocol_laws.proofs.Laws.{keys_stay, close_keeps, parts_more, put_total_by, PartsStay, stay_same, closed_stay}
use Rattle.due_step.specs.Ready.{IsReady}
use Rattle.tx_table.specs.Held.{Candidates, HasRoomFor, HasRoomBy}
use Rattle.due_step.specs.Sent.{Waiting}
use Rattle.due_step.specs.Noting.{known_keys}
use Rattle.due_step.proofs.Laws.{keys_length, known_have_room, pair_of}
use Rattle.due_step.specs.Steps.{ArePrepares}
use Rattle.txn_core.specs.State.{TxState, IsSameBut}
use Rattle.txn_core.specs.Sound.{is_here, owed_by, KeepsSpare, SpendsSpare}
use Rattle.two_phase_commit.specs.Voting.{Voting}
use Rattle.two_phase_commit.specs.Coordinated.{Coordination}
use Rattle.shard_core.specs.Requesting.{HasStayed, HasMade}
use Rattle.shard_core.specs.Whole.{HasRoom, AreKnown, IsAtRest}
use Rattle.shard_core.proofs.Seeing.{part_known, pair_has}
use Rattle.shard_core.proofs.Logged.{All, logged_more, logged_known}
use Rattle.shard_core.proofs.Changing.{room_kept}
use Rattle.shard_core.proofs.Taking.{stage_known}
use Rattle.shard_core.proofs.Putting.{put_in, put_own, put_most, asked_total, closed_total, left_more, right_more}
use Rattle.shard_core.proofs.Parts.{Parts, seen, viewed, Holds, Changed, changed, AreKept}
use Rattle.law_base.proofs.Names.{in_first as in_left, in_second as in_right}

-- ---- only more room was made, and nobody is a candidate

module _ (a : Parts) (u : TxState) (q : TxRows ℕ) (w : Waiting) (f : Candidates) (rest : IsAtRest (viewed a)) (whole : Holds a) (h : HasStayed a.transactions u a.prepares q a.outbox w a.candidates f) where
  abbrev roomy : Parts
  roomy = record a { transactions = u; prepares = q; outbox = w; candidates = f }

  pub stayed_same : seen roomy ≡ seen a
  stayed_same = ap (λ (x : TxState). seen (record a { transactions = x; outbox = w })) h.transactions ∙ ap (λ (ms : List Message). record (seen a) { outbox = ms }) h.messages

  pub stayed_holds : Holds roomy
  stayed_holds =
      let s : Shard = seen a in let t = a.transactions in let e = h.transactions in
      let shard = ap (λ (x : TxState). x.shard) e in let few = whole.candidates.places in let limit = h.limit in let records = h.records in
      record {
        transactions = whole.transactions ∙ sym shard;
        voters = whole.voters ∙ sym shard;
        home = whole.home ∙ sym shard;
        prepares = λ x. h.places x ∙ whole.prepares x ∙ ap (λ (y : TxState). prepare_lsn (y.local).log x) (sym e);
        dependents = subst (λ (x : Shard). DependentsHaveParts x.local) (sym stayed_same) whole.dependents;
        logged = subst (λ (x : Shard). All (known_keys x) (drop u.durable (u.local).log)) (sym stayed_same) (subst (λ (x : TxState). All (known_keys s) (drop x.durable (x.local).log)) (sym e) whole.logged);
        candidates = subst (λ (x : Shard). AreKnown x f) (sym stayed_same) (record { known = λ x i. absurd (both_ways _ (ap (tx_in x) (h.candidates ∙ rest.none)) i); places = omega (arith, few, limit) });
        room = let n = ap left stayed_same in room_kept s (seen roomy) t u a.outbox w (omega (arith, n)) (keeps e records) h.pairs h.outbox whole.room;
      }
    where
      keeps : IsSameBut a.transactions a.transactions.local u → a.transactions.room ≤ u.room → KeepsSpare a.transactions u
      keeps e records = let n = ap (λ (x : TxState). owed_by (is_here x.local) (x.local).log) e in omega (arith, n, records)

  pub stayed_rest : IsAtRest (viewed roomy)
  stayed_rest =
      let r = rest.ready in
      record {
        none = h.candidates ∙ rest.none;
        ready = subst (λ (x : Shard). IsReady x [] f.limit) (sym stayed_same) (record { requests = r.requests; rise = r.rise; few = omega arith; cover = r.cover; purged = r.purged });
      }

-- ---- what becomes of the part: it is closed, or all stays

pub active_known : (a : Parts) (tx : TxId) → stage_of a.transactions.local tx ≡ Some Active → tx_in tx (known_keys (seen a)) ≡ true
active_known a tx active = stage_known (seen a) tx (ap is_some active)

pub record IsLike (k : ℕ) (keys : List TxId) (durable : ℕ) (l m : Local) : Type 0 where
  pub parts : keys_of m.parts ≡ keys_of l.parts
  pub work : total part_work m.parts ≤ total part_work l.parts + k
  pub stay : PartsStay l.parts m.parts
  pub dependents : DependentsHaveParts m
  pub logged : All keys (drop durable m.log)

pub like_same : (a : Parts) → Holds a → IsLike 0 (known_keys (seen a)) a.transactions.durable a.transactions.local a.transactions.local
like_same a whole = record { parts = refl; work = omega arith; stay = stay_same (a.transactions.local).parts; dependents = whole.dependents; logged = whole.logged }

closing_known : (keys : List TxId) (b one : Bool) (tx : TxId) (home : ℕ) (us : List TxId) → tx_in tx keys ≡ true → All keys (closing b one tx home us)
closing_known keys true true tx home [] own = (own, tt)
closing_known keys true true tx home (u ∷ us) own = (own, tt)
closing_known keys true false tx home us own = (own, tt)
closing_known keys false one tx home us own = tt

pub like_closed : (a : Parts) (tx : TxId) (home : ℕ) (one : Bool) → Holds a → stage_of a.transactions.local tx ≡ Some Active → IsStrictlySortedBy tx_cmp (keys_of (a.transactions.local).parts)
    → IsLike 1 (known_keys (seen a)) a.transactions.durable a.transactions.local (close_part tx home one a.transactions.local)
like_closed a tx home one whole active rising =
    let l = a.transactions.local in let own = active_known a tx active in
    record {
      parts = keys_stay _ l.parts;
      work = closed_total tx l.parts rising;
      stay = closed_stay tx l active;
      dependents = close_keeps tx home one l whole.dependents;
      logged = logged_more (known_keys (seen a)) a.transactions.durable l.log (closing (has_standing l.log tx) one tx home (undecided_of l tx)) whole.logged (closing_known (known_keys (seen a)) (has_standing l.log tx) one tx home (undecided_of l tx) own);
    }

-- ---- the parts with it

-- two things more may be done of a new request
new_most : (shard : ℕ) (idle : Bool) (touched : List (ℕ × ℕ)) → left_request shard idle (new_request touched Undecided) ≤ 2
new_most shard idle touched = at (idle && is_lone shard (new_request touched Undecided))
  where
    at : (b : Bool) → left_by b Undecided false ≤ 2
    at true = omega arith
    at false = omega arith

-- what was done to the transactions and the candidates, with room for n things more
pub record Turns (n : ℕ) (tx : TxId) (m : Local) (t u : TxState) (q : TxRows ℕ) (o w : Waiting) (c f : Candidates) : Type 0 where
  pub same : IsSameBut t m u
  pub spare : t.room + n + owed_by (is_here u.local) (u.local).log ≤ u.room + owed_by (is_here t.local) (t.local).log
  pub pairs : t.pairs_room + n ≤ u.pairs_room
  pub outbox : o.room + 15 * n ≤ w.room
  pub places : ArePrepares q.rows (u.local).log
  pub noted : (x : TxId) → tx_in x f.txs ≡ true → (is_pair (t.local).pairs x tx ≡ true) ⊎ (tx ≡ x)
  pub limit : c.limit + 1 ≤ f.limit

room_more : (n : ℕ) (S V : Shard) (t u : TxState) (o w : Waiting) → left V ≤ left S + n → t.room + n + owed_by (is_here u.local) (u.local).log ≤ u.room + owed_by (is_here t.local) (t.local).log
    → t.pairs_room + n ≤ u.pairs_room → o.room + 15 * n ≤ w.room → HasRoom S t o → HasRoom V u w
room_more n S V t u o w more spare pairs messages r =
    let b = r.pairs in
    record {
      records = records (left S) (left V) n (owed_by (is_here t.local) (t.local).log) (owed_by (is_here u.local) (u.local).log) t.room u.room more r.records spare;
      pairs = omega (arith, more, b, pairs);
      messages = mail (left S) (left V) n o.room w.room more r.messages messages;
    }
  where
    records : (s v n a b x y : ℕ) → v ≤ s + n → s + 1 + a ≤ x → x + n + b ≤ y + a → v + 1 + b ≤ y
    records s v n a b x y h k l = omega arith

    mail : (s v n x y : ℕ) → v ≤ s + n → 15 * (s + 1) ≤ x → x + 15 * n ≤ y → 15 * (v + 1) ≤ y
    mail s v n x y h k l = omega arith

-- who is a candidate is known
noted_known : (a : Parts) (tx : TxId) (V : Shard) (f : Candidates) → Holds a → ((x : TxId) → tx_in x (known_keys (seen a)) ≡ true → tx_in x (known_keys V) ≡ true) → tx_in tx (known_keys V) ≡ true
    → ((x : TxId) → tx_in x f.txs ≡ true → (is_pair (a.transactions.local).pairs x tx ≡ true) ⊎ (tx ≡ x)) → (x : TxId) → tx_in x f.txs ≡ true → tx_in x (known_keys V) ≡ true
noted_known a tx V f whole stay own noted x e =
    let l = a.transactions.local in
    ⊎_elim (λ p. stay x (part_known (seen a) x (pair_has l.parts l.pairs x tx whole.dependents p))) (λ s. subst (λ z. tx_in z (known_keys V) ≡ true) s own) (noted x e)

module _ (k : ℕ) (a : Parts) (tx : TxId) (m : Local) (u : TxState) (q : TxRows ℕ) (f : Candidates) (set : List TxId) (rest : IsAtRest (viewed a)) (whole : Holds a) (like : IsLike k (known_keys (seen a)) a.transactions.durable a.transactions.local m) where
  -- the same but for the parts
  closed_now : Shard
  closed_now = record (seen a) { local = m }

  -- with a request that is kept, and messages
  pub asked_changed : (touched : List (ℕ × ℕ)) (c : Coordination) (w : Waiting) → Turns (k + 2) tx m a.transactions u q a.outbox w a.candidates f
      → c ≡ record a.coordinator { requests = tx_put tx (new_request touched Undecided) a.coordinator.requests } → IsStrictlySortedBy tx_cmp (keys_of c.requests) → w.messages ≡ a.outbox.messages ++ prepares a.transactions.shard tx touched
      → ChangesDue set (seen a) (coordinate tx touched (record (seen a) { local = m })) → ((x : TxId) → tx_in x set ≡ true → tx_in x f.txs ≡ true)
      → AreKept (record a { transactions = u; coordinator = c; prepares = q; outbox = w; candidates = f })
      → Changed (record a { transactions = u; coordinator = c; prepares = q; outbox = w; candidates = f }) (coordinate tx touched (record (seen a) { local = m }))
  asked_changed touched c w turns put rising sent touch within kept =
      let s : Shard = seen a in let t = a.transactions in let V : Shard = coordinate tx touched (record s { local = m }) in let b : Parts = record a { transactions = u; coordinator = c; prepares = q; outbox = w; candidates = f } in
      let new : Request = new_request touched Undecided in let rs = s.requests in
      let stay = λ (x : TxId) (e : tx_in x (known_keys s) ≡ true). subst (λ (ks : List TxId). tx_in x (ks ++ (keys_of s.voters ++ keys_of (tx_put tx new rs))) ≡ true) (sym like.parts)
      (right_more x (keys_of s.local.parts) (keys_of s.voters ++ keys_of rs) (keys_of s.voters ++ keys_of (tx_put tx new rs))
      (λ i. right_more x (keys_of s.voters) (keys_of rs) (keys_of (tx_put tx new rs)) (put_in tx new x rs) i) e) in
      let own = in_right tx (keys_of m.parts) (keys_of s.voters ++ keys_of (tx_put tx new rs)) (in_right tx (keys_of s.voters) (keys_of (tx_put tx new rs)) (put_own tx new rs)) in
      let work = parts_more k s m like.work like.stay in let more = put_total_by (left_request s.shard) (is_idle m.parts) tx new rs in let most = new_most s.shard (is_idle m.parts tx) touched in
      let lefts : left V ≤ left s + (k + 2) = omega (arith, work, more, most) in
      let count = put_most tx new rs in let places = whole.candidates.places in let limit = turns.limit in
      let parts = sym (keys_length m.parts) ∙ ap length like.parts ∙ keys_length s.local.parts in
      let e = turns.same in
      changed a b V set rest whole
      (ap (λ (x : TxState). seen (record a { transactions = x; coordinator = c; outbox = w })) e
      ∙ ap (λ (x : Coordination). seen (record a { transactions = record t { local = m }; coordinator = x; outbox = w })) put
      ∙ ap (λ (ms : List Message). record V { outbox = ms }) sent
      ∙ ap (λ (l : Local). record V { local = l }) (sym (ap (λ (x : TxState). purge x.local) (sym e) ∙ kept.purged ∙ ap (λ (x : TxState). x.local) e)))
      touch within
      (record { shard = refl; transactions = ap (λ (x : TxState). x.shard) e; participant = refl; coordinator = ap (λ (x : Coordination). x.shard) put })
      turns.places like.dependents
      (subst (λ (x : TxState). All (known_keys V) (drop x.durable (x.local).log)) (sym e) (logged_known (known_keys s) (known_keys V) stay (drop t.durable m.log) like.logged))
      (record { known = noted_known a tx V f whole stay own turns.noted; places = omega (arith, parts, count, places, limit) })
      (room_more (k + 2) s V t u a.outbox w lefts turns.spare turns.pairs turns.outbox whole.room)
      (subst (λ (x : Coordination). IsStrictlySortedBy tx_cmp (keys_of x.requests)) put rising)
      kept

  -- with a vote that is owed
  pub owed_changed : (home epoch : ℕ) (p : Voting) (w : Waiting) → Turns (k + 1) tx m a.transactions u q a.outbox w a.candidates f
      → p ≡ record a.participant { voters = voters_asked tx home epoch a.participant.voters } → IsStrictlySortedBy tx_cmp (keys_of a.participant.voters) → w.messages ≡ a.outbox.messages
      → ChangesDue set (seen a) (owe_vote tx home epoch (record (seen a) { local = m })) → ((x : TxId) → tx_in x set ≡ true → tx_in x f.txs ≡ true)
      → AreKept (record a { transactions = u; participant = p; prepares = q; outbox = w; candidates = f })
      → Changed (record a { transactions = u; participant = p; prepares = q; outbox = w; candidates = f }) (owe_vote tx home epoch (record (seen a) { local = m }))
  owed_changed home epoch p w turns put rising sent touch within kept =
      let s : Shard = seen a in let t = a.transactions in let V : Shard = owe_vote tx home epoch (record s { local = m }) in let b : Parts = record a { transactions = u; participant = p; prepares = q; outbox = w; candidates = f } in
      let vs = s.voters in let new : Voter = asked_voter home epoch (tx_get tx vs) in
      let stay = λ (x : TxId) (e : tx_in x (known_keys s) ≡ true). subst (λ (ks : List TxId). tx_in x (ks ++ (keys_of (tx_put tx new vs) ++ keys_of s.requests)) ≡ true) (sym like.parts)
      (right_more x (keys_of s.local.parts) (keys_of vs ++ keys_of s.requests) (keys_of (tx_put tx new vs) ++ keys_of s.requests)
      (λ i. left_more x (keys_of vs) (keys_of (tx_put tx new vs)) (keys_of s.requests) (put_in tx new x vs) i) e) in
      let own = in_right tx (keys_of m.parts) (keys_of (tx_put tx new vs) ++ keys_of s.requests) (in_left tx (keys_of (tx_put tx new vs)) (keys_of s.requests) (put_own tx new vs)) in
      let work = parts_more k s m like.work like.stay in let more = asked_total (is_finished m.parts) tx home epoch vs rising in
      let lefts : left V ≤ left s + (k + 1) = omega (arith, work, more) in
      let most = put_most tx new vs in let places = whole.candidates.places in let limit = turns.limit in
      let parts = sym (keys_length m.parts) ∙ ap length like.parts ∙ keys_length s.local.parts in
      let e = turns.same in
      changed a b V set rest whole
      (ap (λ (x : TxState). seen (record a { transactions = x; participant = p; outbox = w })) e
      ∙ ap (λ (x : Voting). seen (record a { transactions = record t { local = m }; participant = x; outbox = w })) put
      ∙ ap (λ (ms : List Message). record V { outbox = ms }) sent
      ∙ ap (λ (l : Local). record V { local = l }) (sym (ap (λ (x : TxState). purge x.local) (sym e) ∙ kept.purged ∙ ap (λ (x : TxState). x.local) e)))
      touch within
      (record { shard = refl; transactions = ap (λ (x : TxState). x.shard) e; participant = ap (λ (x : Voting). x.shard) put; coordinator = refl })
      turns.places like.dependents
      (subst (λ (x : TxState). All (known_keys V) (drop x.durable (x.local).log)) (sym e) (logged_known (known_keys s) (known_keys V) stay (drop t.durable m.log) like.logged))
      (record { known = noted_known a tx V f whole stay own turns.noted; places = omega (arith, parts, most, places, limit) })
      (room_more (k + 1) s V t u a.outbox w lefts turns.spare turns.pairs turns.outbox whole.room)
      rest.ready.requests
      kept

-- ---- room was made, and the part is closed or stays

pub turns_closed : (n ms : ℕ) (tx : TxId) (home : ℕ) (one : Bool) (t x u : TxState) (p y q : TxRows ℕ) (o v w : Waiting) (c d f : Candidates) → HasStayed t x p y o v c d → HasMade n ms t x y o v c d
    → IsSameBut x (close_part tx home one x.local) u → SpendsSpare 1 x u → x.pairs_room ≤ u.pairs_room + 1 → ArePrepares q.rows (u.local).log
    → ((z : TxId) → tx_in z f.txs ≡ ((is_pair (x.local).pairs z tx || tx_same tx z) || tx_in z d.txs)) → f.limit ≡ d.limit → c.txs ≡ [] → v.room ≡ w.room + ms → Turns n tx (close_part tx home one t.local) t u q o w c f
turns_closed n ms tx home one t x u p y q o v w c d f stay made closed spends pairs places put limit none left =
    let e = stay.transactions in let h = ap (λ (z : TxState). owed_by (is_here z.local) (z.local).log) e in
    let r = made.records in let pr = made.pairs in let ob = made.outbox in let lm = made.limit in
    record {
      same = closed ∙ ap (λ (z : TxState). record z { local = close_part tx home one z.local; room = u.room; pairs_room = u.pairs_room }) e;
      spare = omega (arith, h, r, spends);
      pairs = omega (arith, pr, pairs);
      outbox = omega (arith, ob, left);
      places = places;
      noted = λ z i. ⊎_elim (λ j. ⊎_elim (λ k. inl (subst (λ (l : Local). is_pair l.pairs z tx ≡ true) (ap (λ (z' : TxState). z'.local) e) k)) (λ k. inr (tx_true tx z k)) (or_cases (is_pair (x.local).pairs z tx) (tx_same tx z) j))
          (λ j. absurd (both_ways _ (ap (tx_in z) (stay.candidates ∙ none)) j)) (or_cases (is_pair (x.local).pairs z tx || tx_same tx z) (tx_in z d.txs) (sym (put z) ∙ i));
      limit = omega (arith, lm, limit);
    }

pub turns_same : (n ms : ℕ) (tx : TxId) (t x : TxState) (p y : TxRows ℕ) (o v w : Waiting) (c d f : Candidates) → HasStayed t x p y o v c d → HasMade n ms t x y o v c d
    → ArePrepares p.rows (t.local).log → f ≡ record d { txs = tx_insert tx d.txs } → c.txs ≡ [] → v.room ≡ w.room + ms → Turns n tx t.local t x y o w c f
turns_same n ms tx t x p y o v w c d f stay made places put none left =
    let e = stay.transactions in let h = ap (λ (z : TxState). owed_by (is_here z.local) (z.local).log) e in
    let r = made.records in let pr = made.pairs in let ob = made.outbox in let lm = made.limit in let limit = ap (λ (k : Candidates). k.limit) put in
    record {
      same = e;
      spare = omega (arith, h, r);
      pairs = omega (arith, pr);
      outbox = omega (arith, ob, left);
      places = λ z. stay.places z ∙ places z ∙ ap (λ (s : TxState). prepare_lsn (s.local).log z) (sym e);
      noted = λ z i. ⊎_elim (λ j. inr (sym j)) (λ j. absurd (both_ways _ (ap (tx_in z) (stay.candidates ∙ none)) j)) (in_insert tx z d.txs (ap (λ (k : Candidates). tx_in z k.txs) (sym put) ∙ i));
      limit = omega (arith, lm, limit);
    }

-- ---- there is room for the candidates

pub room_own : (tx : TxId) (c d : Candidates) → c.txs ≡ [] → d.txs ≡ c.txs → c.limit + 1 ≤ d.limit → HasRoomFor (tx ∷ []) d
room_own tx c d none same more = (tx ∷ [], λ x e. absurd (both_ways _ (ap (tx_in x) (same ∙ none)) e), λ x e. e, omega (arith, more))

pub room_doomed : (a : Parts) (tx : TxId) (u : TxState) (d : Candidates) → Holds a → stage_of a.transactions.local tx ≡ Some Active → IsSameBut a.transactions a.transactions.local u → d.txs ≡ a.candidates.txs → a.candidates.limit ≤ d.limit
    → HasRoomBy (λ t. tx_in t (doomed_by u.local tx)) d
room_doomed a tx u d whole active e same more =
    let k = known_have_room (seen a) tx a.candidates whole.dependents whole.candidates.known (active_known a tx active) whole.candidates.places in
    subst (λ (l : Local). HasRoomBy (λ t. tx_in t (doomed_by l tx)) d) (sym (ap (λ (x : TxState). x.local) e))
    (k.0, λ x i. k.1 x (ap (tx_in x) (sym same) ∙ i), k.2, let few = k.3 in omega (arith, few, more))

-- ---- who is touched is a candidate

pub within_closed : (tx : TxId) (x t : TxState) (d f : Candidates) → IsSameBut t t.local x → ((z : TxId) → tx_in z f.txs ≡ ((is_pair (x.local).pairs z tx || tx_same tx z) || tx_in z d.txs))
    → (z : TxId) → tx_in z (tx ∷ successors_of (t.local).pairs tx) ≡ true → tx_in z f.txs ≡ true
within_closed tx x t d f e put z i =
    let l = ap (λ (s : TxState). (s.local).pairs) e in
    put z ∙ or_left (is_pair (x.local).pairs z tx || tx_same tx z) _
    (⊎_elim (λ h. or_right (is_pair (x.local).pairs z tx) _ h) (λ h. or_left _ _ (ap (λ (ps : List (TxId × TxId)). is_pair ps z tx) l ∙ pair_of z tx (t.local).pairs h)) (or_cases (tx_same tx z) (tx_in z (successors_of (t.local).pairs tx)) i))

pub rising_before : (t x : TxState) → IsSameBut t t.local x → IsStrictlySortedBy tx_cmp (keys_of (x.local).parts) → IsStrictlySortedBy tx_cmp (keys_of (t.local).parts)
rising_before t x e r = subst (λ (s : TxState). IsStrictlySortedBy tx_cmp (keys_of (s.local).parts)) e r
