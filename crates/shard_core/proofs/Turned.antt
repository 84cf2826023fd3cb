-- One turn over the parts: what is due for the least candidate is done, and all holds again.
use Rattle.std.proofs.Common.{◌≡◌, refl, sym, ap, subst, ◌∙◌, ℕ, ◌+◌, ◌*◌, ◌<◌, ◌≤◌, true, false, List, [], ◌∷◌, length, Option, Some, None, is_some, drop, arith}
use Rattle.std.proofs.lemmas.Bool.{both_ways}
use Rattle.std.specs.List.{AllByRecursion}
use Rattle.std.specs.List.Sorted.{IsStrictlySortedBy}
use Rattle.clv_base.specs.declared.names.TxId.{TxId}
use Rattle.clv_base.specs.Orders.{Table, tx_in, tx_cmp}
use Rattle.clv_base.specs.Logs.{prepare_lsn}
use Rattle.clv_base.specs.State.{Shard, Local, with_local}
use Rattle.clv_base.specs.Undo.{doomed_by}
use Rattle.clv_base.specs.OneShard.{purge}
use Rattle.clv_base.specs.Due.{due_of, next_due}
use Rattle.protocol_laws.specs.Candidates.{Cover}
use Rattle.protocol_laws.specs.Depending.{DependentsHaveParts}
use Rattle.protocol_laws.specs.Left.{left}
use Rattle.protocol_laws.proofs.Laws.{least_is_next, left_falls, due_keeps_parts, due_keeps_keys}
use Rattle.due_step.specs.Ready.{IsReady, IsDone, least, but_least}
use Rattle.tx_table.specs.Held.{Candidates, AreAmong, HasRoomBy}
use Rattle.due_step.specs.Found.{carried}
use Rattle.due_step.specs.declared.finding.Due.{Due}
use Rattle.due_step.specs.Sent.{Waiting}
use Rattle.due_step.specs.Noting.{known_keys}
use Rattle.due_step.proofs.Laws.{noted_covers, known_have_room}
use Rattle.due_step.specs.Steps.{Steps, Notes}
use Rattle.due_step.proofs.Laws.{kept}
use Rattle.txn_core.specs.State.{TxState}
use Rattle.txn_core.specs.Sound.{is_here, owed_by, IsSound, SpendsSpare}
use Rattle.two_phase_commit.specs.Voting.{Voting}
use Rattle.two_phase_commit.specs.Coordinated.{Coordination}
use Rattle.shard_core.specs.Core.{seen_as}
use Rattle.shard_core.specs.Whole.{HasRoom, AreKnown, IsOfKnown, IsWhole}
use Rattle.shard_core.proofs.Logged.{logged_carried}
use Rattle.shard_core.proofs.Taking.{here_known}
use Rattle.shard_core.proofs.Seeing.{seen_same, seen_done, known_more, least_in, known_same, places_same, carried_prepares, writes_locked}

split : (txs : List TxId) (tx : TxId) → least txs ≡ Some tx → txs ≡ tx ∷ but_least txs
split [] tx e = absurd cc
split (t ∷ ts) tx e = let h : t ≡ tx = cc in ap (λ x. x ∷ ts) h

next_is : (s t : Shard) (txs : List TxId) (limit : ℕ) (tx : TxId) → IsReady s txs limit → least txs ≡ Some tx → due_of s tx ≡ Some t → next_due s ≡ Some t
next_is s t txs limit tx r e d =
    let p = split txs tx e in
    least_is_next s t tx (but_least txs) r.requests (subst (λ (l : List TxId). IsStrictlySortedBy tx_cmp l) p r.rise) (subst (λ (l : List TxId). Cover l s) p r.cover) d

-- there is room for those whom the least candidate dooms
pub doomed_room : (s : Shard) (tx : TxId) (e : Candidates) → AreKnown s e → DependentsHaveParts s.local → least e.txs ≡ Some tx → HasRoomBy (λ t. tx_in t (doomed_by s.local tx)) e
doomed_room s tx e k d first = known_have_room s tx e d k.known (k.known tx (least_in e.txs tx first)) k.places

-- room for one thing less
room_after : (s v : Shard) (t u : TxState) (o w : Waiting) → left v < left s → SpendsSpare 1 t u → t.pairs_room ≤ u.pairs_room + 1 → o.room ≤ w.room + 15 → HasRoom s t o → HasRoom v u w
room_after s v t u o w less spends pairs messages r =
    let a = r.records in let b = r.pairs in let c = r.messages in
    record { records = spare (left s) (left v) (owed_by (is_here t.local) (t.local).log) (owed_by (is_here u.local) (u.local).log) t.room u.room less a spends; pairs = omega (arith, less, b, pairs); messages = mail (left s) (left v) o.room w.room less c messages }
  where
    spare : (n m a b x y : ℕ) → m < n → n + 1 + a ≤ x → x + b ≤ 1 + y + a → m + 1 + b ≤ y
    spare n m a b x y h k l = omega arith

    mail : (n m x y : ℕ) → m < n → 15 * (n + 1) ≤ x → x ≤ y + 15 → 15 * (m + 1) ≤ y
    mail n m x y h k l = omega arith

module _ (run : ℕ) (shard : ℕ) (places : Table ℕ) (t u : TxState) (p q : Voting) (c d : Coordination) (o w : Waiting) (e f : Candidates) (tx : TxId) where
  abbrev S : Shard
  S = seen_as run t p c o

  abbrev U : Shard
  U = seen_as run u q d w

  pub record Turned (due : Option Due) : Type 0 where
    pub whole : IsWhole shard places u q d w f U
    pub ready : IsReady U f.txs f.limit
    pub done : is_some due ≡ true → IsDone (due_of S tx) U
    pub nothing : is_some due ≡ false → (due_of S tx ≡ None) × (U ≡ S) × (f.txs ≡ e.txs)
    pub limit : f.limit ≡ e.limit

  pub turned : (due : Option Due) → IsWhole shard places t p c o e S → IsReady S e.txs e.limit → least e.txs ≡ Some tx → Steps S tx due u q d w → (due ≡ None → (u ≡ t) × (w ≡ o)) → u.taken ≡ t.taken → q.shard ≡ p.shard
      → Notes t.local tx due e f → SpendsSpare 1 t u → t.pairs_room ≤ u.pairs_room + 1 → o.room ≤ w.room + 15 → IsSound u.local u.room → purge u.local ≡ u.local → IsStrictlySortedBy tx_cmp f.txs → length f.txs ≤ f.limit → Turned due
  turned None whole ready first steps idle taken voters noted spends pairs messages sound purged rise few =
      let seen = steps.1 in let same = seen_same run t u p q c d o w taken seen in let i = idle refl in
      let txs : f.txs ≡ e.txs = ap (λ (x : Candidates). x.txs) noted in let limit : f.limit ≡ e.limit = ap (λ (x : Candidates). x.limit) noted in
      record {
        whole = record {
          transactions = whole.transactions ∙ seen.shard;
          voters = voters ∙ whole.voters ∙ seen.shard;
          home = sym seen.home ∙ seen.shard;
          prepares = λ x. whole.prepares x ∙ ap (λ (l : Local). prepare_lsn l.log x) seen.local;
          dependents = subst (λ (x : Shard). DependentsHaveParts x.local) (sym same) whole.dependents;
          logged = subst (λ (x : Shard). AllByRecursion (IsOfKnown (known_keys x)) (drop u.durable (u.local).log)) (sym same) (subst (λ (x : TxState). AllByRecursion (IsOfKnown (known_keys S)) (drop x.durable (x.local).log)) (sym i.0) whole.logged);
          candidates = subst (λ (x : Shard). AreKnown x f) (sym same) (subst (AreKnown S) (sym noted) whole.candidates);
          room = subst (λ (x : Shard). HasRoom x u w) (sym same) (subst (λ (x : TxState). HasRoom S x w) (sym i.0) (subst (HasRoom S t) (sym i.1) whole.room));
        };
        ready = subst (λ (x : Shard). IsReady x f.txs f.limit) (sym same) (subst (λ (x : Candidates). IsReady S x.txs x.limit) (sym noted) ready);
        done = λ b. absurd (both_ways false refl b);
        nothing = λ b. (steps.0, same, txs);
        limit = limit;
      }
  turned (Some due) whole ready first steps idle taken voters noted spends pairs messages sound purged rise few =
      let X : Shard = carried S tx due in let is = steps.0 in let seen = steps.1 in
      let same = seen_done run t u p q c d o w tx due taken seen in
      let less = left_falls S X (next_is S X e.txs e.limit tx ready first is) in
      let known = whole.candidates.known in let own = known tx (least_in e.txs tx first) in
      let sized = places_same S X tx is in let places_were = whole.candidates.places in let limit = noted.1 in
      let keys = known_same S X tx is in
      record {
        whole = record {
          transactions = whole.transactions ∙ sym (kept S tx due).shard ∙ seen.shard;
          voters = voters ∙ whole.voters ∙ sym (kept S tx due).shard ∙ seen.shard;
          home = sym seen.home ∙ seen.shard;
          prepares = λ x. whole.prepares x ∙ sym (carried_prepares S tx due x) ∙ ap (λ (l : Local). prepare_lsn l.log x) seen.local;
          dependents = subst (λ (x : Shard). DependentsHaveParts x.local) (sym same) (due_keeps_parts.0 S X tx is whole.dependents);
          logged = subst (λ (x : Shard). AllByRecursion (IsOfKnown (known_keys x)) (drop u.durable (u.local).log)) (sym same)
              (subst (λ ks. AllByRecursion (IsOfKnown ks) (drop u.durable (u.local).log)) (sym keys)
              (subst (λ (l : Local). AllByRecursion (IsOfKnown (known_keys S)) (drop u.durable l.log)) seen.local
              (subst (λ n. AllByRecursion (IsOfKnown (known_keys S)) (drop n X.local.log)) (sym (kept S tx due).durable ∙ seen.durable) (logged_carried (known_keys S) t.durable S tx due own (λ x h. here_known S tx x h) whole.logged))));
          candidates = subst (λ (x : Shard). AreKnown x f) (sym same) (record {
            known = subst (AreAmong f.txs) (sym keys) (known_more S tx due e.txs f.txs whole.dependents own known noted.0);
            places = omega (arith, sized, places_were, limit);
          });
          room = room_after S U t u o w (subst (λ (x : Shard). left x < left S) (sym same) less) spends pairs messages whole.room;
        };
        ready = subst (λ (x : Shard). IsReady x f.txs f.limit) (sym same) (record {
          requests = subst (IsStrictlySortedBy tx_cmp) (sym (due_keeps_keys S X tx is).2) ready.requests;
          rise = rise;
          few = few;
          cover = noted_covers S tx due e.txs f.txs ready.cover noted.0;
          purged = ap (λ (x : Shard). with_local purge x) (sym same) ∙ ap (λ (l : Local). record U { local = l }) purged ∙ same;
        });
        done = λ b. subst (λ x. IsDone x U) (sym is) (same, writes_locked u.local u.room sound);
        nothing = λ b. absurd (both_ways true b refl);
        limit = limit;
      }
