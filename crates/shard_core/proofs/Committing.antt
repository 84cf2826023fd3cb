-- A COMMIT is written here.
use Rattle.std.proofs.Common.{◌≡◌, refl, sym, ap, subst, ◌∙◌, ⊎_elim, ◌≤◌, true, ◌||◌, [], ◌∷◌, drop, arith}
use Rattle.std.proofs.lemmas.Bool.{both_ways, or_cases}
use Rattle.clv_base.specs.declared.names.TxId.{TxId}
use Rattle.clv_base.specs.declared.logs.LogRecord.TheVariants.{Commit}
use Rattle.clv_base.specs.Orders.{tx_same, tx_in}
use Rattle.clv_base.specs.Logs.{prepare_lsn}
use Rattle.clv_base.specs.State.{Shard, Local}
use Rattle.clv_base.specs.OneShard.{purge}
use Rattle.clv_base.specs.Due.{append_log}
use Rattle.clv_base.specs.Events.{decided}
use Rattle.clv_base.proofs.SameNames.{or_left, or_right, tx_true}
use Rattle.protocol_laws.specs.UndoLaws.{is_pair}
use Rattle.protocol_laws.specs.Changes.{successors_of}
use Rattle.protocol_laws.specs.Depending.{DependentsHaveParts}
use Rattle.protocol_laws.specs.Left.{left}
use Rattle.protocol_laws.proofs.Laws.{decisions_touch}
use Rattle.tx_table.specs.Held.{Candidates}
use Rattle.due_step.specs.Noting.{known_keys}
use Rattle.due_step.proofs.Laws.{pair_of}
use Rattle.txn_core.specs.State.{TxState, IsSameBut}
use Rattle.txn_core.specs.Sound.{KeepsSpare}
use Rattle.due_step.specs.Ready.{IsReady}
use Rattle.shard_core.specs.Whole.{AreKnown, IsAtRest}
use Rattle.shard_core.proofs.Seeing.{single, part_known, pair_has}
use Rattle.shard_core.proofs.Logged.{All, logged_more}
use Rattle.shard_core.proofs.Changing.{room_kept}
use Rattle.shard_core.proofs.Parts.{Parts, seen, viewed, Holds, Changed, changed, AreKept}

pub commit_changed : (a : Parts) (tx : TxId) (u : TxState) (f : Candidates) → IsAtRest (viewed a) → Holds a → tx_in tx (known_keys (seen a)) ≡ true → IsSameBut a.transactions (append_log (Commit tx [] ∷ []) a.transactions.local) u
    → ((x : TxId) → tx_in x f.txs ≡ ((is_pair (a.transactions.local).pairs x tx || tx_same tx x) || tx_in x a.candidates.txs)) → f.limit ≡ a.candidates.limit → KeepsSpare a.transactions u → a.transactions.pairs_room ≤ u.pairs_room
    → AreKept (record a { transactions = u; candidates = f }) → Changed (record a { transactions = u; candidates = f }) (decided (seen a) tx true)
commit_changed a tx u f rest whole known e put limit room pairs kept =
    let s : Shard = seen a in let t = a.transactions in let l = t.local in let V : Shard = decided s tx true in let b : Parts = record a { transactions = u; candidates = f } in
    let k = whole.candidates in let places = k.places in
    changed a b V (tx ∷ successors_of l.pairs tx) rest whole
    (ap (λ (x : TxState). seen (record a { transactions = x })) e
    ∙ ap (λ (m : Local). record V { local = m }) (sym (ap (λ (x : TxState). purge x.local) (sym e) ∙ kept.purged ∙ ap (λ (x : TxState). x.local) e)))
    (decisions_touch.0 s tx)
    (λ x i. put x ∙ or_left (is_pair l.pairs x tx || tx_same tx x) _ (⊎_elim (λ h. or_right (is_pair l.pairs x tx) _ h) (λ h. or_left _ _ (pair_of x tx l.pairs h)) (or_cases (tx_same tx x) (tx_in x (successors_of l.pairs tx)) i)))
    (record { shard = refl; transactions = ap (λ (x : TxState). x.shard) e; participant = refl; coordinator = refl })
    (λ x. whole.prepares x ∙ sym (single x l.log (Commit tx []) refl) ∙ ap (λ (y : TxState). prepare_lsn (y.local).log x) (sym e))
    whole.dependents
    (subst (λ (x : TxState). All (known_keys s) (drop x.durable (x.local).log)) (sym e) (logged_more (known_keys s) t.durable l.log (Commit tx [] ∷ []) whole.logged (known, tt)))
    (record {
      known = λ x i. ⊎_elim (λ h. ⊎_elim (λ p. part_known s x (pair_has l.parts l.pairs x tx whole.dependents p)) (λ p. subst (λ z. tx_in z (known_keys s) ≡ true) (tx_true tx x p) known) (or_cases (is_pair l.pairs x tx) (tx_same tx x) h))
          (λ h. k.known x h) (or_cases (is_pair l.pairs x tx || tx_same tx x) (tx_in x a.candidates.txs) (sym (put x) ∙ i));
      places = omega (arith, places, limit);
    })
    (room_kept s V t u a.outbox a.outbox (omega arith) room pairs (omega arith) whole.room)
    rest.ready.requests
    kept

-- only more room was made, and nobody is a candidate
pub idle_holds : (a : Parts) (u : TxState) (f : Candidates) → Holds a → IsSameBut a.transactions a.transactions.local u → f.txs ≡ [] → a.candidates.limit ≤ f.limit → KeepsSpare a.transactions u → a.transactions.pairs_room ≤ u.pairs_room
    → Holds (record a { transactions = u; candidates = f })
idle_holds a u f whole e none places room pairs =
    let s : Shard = seen a in let t = a.transactions in let U : Shard = seen (record a { transactions = u }) in
    let is : U ≡ s = ap (λ (x : TxState). seen (record a { transactions = x })) e in
    let shard = ap (λ (x : TxState). x.shard) e in let few = whole.candidates.places in
    record {
      transactions = whole.transactions ∙ sym shard;
      voters = whole.voters ∙ sym shard;
      home = whole.home ∙ sym shard;
      prepares = λ x. whole.prepares x ∙ ap (λ (y : TxState). prepare_lsn (y.local).log x) (sym e);
      dependents = subst (λ (x : Shard). DependentsHaveParts x.local) (sym is) whole.dependents;
      logged = subst (λ (x : Shard). All (known_keys x) (drop u.durable (u.local).log)) (sym is) (subst (λ (x : TxState). All (known_keys s) (drop x.durable (x.local).log)) (sym e) whole.logged);
      candidates = subst (λ (x : Shard). AreKnown x f) (sym is) (record { known = λ x i. absurd (both_ways _ (ap (tx_in x) none) i); places = omega (arith, few, places) });
      room = let n = ap left is in room_kept s U t u a.outbox a.outbox (omega (arith, n)) room pairs (omega arith) whole.room;
    }

pub idle_ready : (a : Parts) (u : TxState) (f : Candidates) → IsAtRest (viewed a) → IsSameBut a.transactions a.transactions.local u → f.txs ≡ [] → IsReady (seen (record a { transactions = u; candidates = f })) f.txs f.limit
idle_ready a u f rest e none =
    let is : seen (record a { transactions = u }) ≡ seen a = ap (λ (x : TxState). seen (record a { transactions = x })) e in let r = rest.ready in
    subst (λ (x : Shard). IsReady x f.txs f.limit) (sym is) (subst (λ xs. IsReady (seen a) xs f.limit) (sym none) (record { requests = r.requests; rise = r.rise; few = omega arith; cover = r.cover; purged = r.purged }))
