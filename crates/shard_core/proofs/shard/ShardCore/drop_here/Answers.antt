-- The part and those that depend on it are taken away, and all of these are candidates.
use Rattle.std.proofs.Common.{drop, ◌++◌, ◌≡◌, refl, sym, ap, subst, ◌∙◌, true, is_some, arith}
use Rattle.clv_base.specs.State.{Shard, with_local}
use Rattle.clv_base.specs.Orders.{tx_in}
use Rattle.clv_base.specs.Logs.{prepare_lsn}
use Rattle.clv_base.specs.Undo.{stage_of, doomed_here, doomed_by}
use Rattle.clv_base.specs.OneShard.{drop_part}
use Rattle.clv_base.specs.Events.{finish}
use Rattle.clv_base.proofs.SameNames.{or_left}
use Rattle.protocol_laws.proofs.Laws.{drop_keeps, drops_touch}
use Rattle.due_step.proofs.Laws.{known_have_room}
use Rattle.txn_core.specs.State.{TxState}
use Rattle.shard_core.specs.Core.{Core, seen_as}
use Rattle.std.specs.Map.{keys_of}
use Rattle.due_step.specs.Noting.{known_keys}
use Rattle.shard_core.proofs.Logged.{All, logged_without}
use Rattle.shard_core.proofs.Changing.{room_kept, dropped_le}
use Rattle.shard_core.proofs.Parts.{Parts, seen, Changed, changed, rest_of}
use Rattle.shard_core.proofs.Taking.{here_in, here_known, dropped_keys, without_prepares, stage_known, known_doomed}
use Rattle.shard_core.proofs.shard.ShardCore.drop_here.Given as given
use Rattle.shard_core.proofs.shard.ShardCore.drop_here.Goals as goal

unfoldable before : (g : given.Over) (c : goal.After-drop_noted g) → Parts
before g c = let i = c.self.inside in record {
  shard = i.shard;
  run = i.run;
  transactions = i.transactions;
  participant = i.participant;
  coordinator = i.coordinator;
  prepares = i.prepares;
  outbox = i.outbox;
  candidates = i.candidates;
}

pub drop_noted-requires-clause-room : goal.drop_noted-requires-clause-room
drop_noted-requires-clause-room g c =
    let i = c.self.inside in let s : Shard = seen_as i.run i.transactions i.participant i.coordinator i.outbox in
    known_have_room s c.args.tx i.candidates c.self.invariant.dependents c.self.invariant.candidates.known (stage_known s c.args.tx (subst (λ (v : Core). is_some (stage_of v.shard.local c.args.tx) ≡ true) (sym c.self.view_is) c.requires.known)) c.self.invariant.candidates.places

the_change : (g : given.Over) (c : goal.After-drop_noted g) → Changed (record (before g c) { transactions = c.drop_noted.new.transactions; candidates = c.drop_noted.new.candidates }) (with_local (drop_part c.args.tx) (seen (before g c)))
unfolding before
the_change g c =
    let a = before g c in let s : Shard = seen a in let i = c.self.inside in let tx = c.args.tx in let l = i.transactions.local in let e = c.drop_noted.ensures in
    let b : Parts = record a { transactions = c.drop_noted.new.transactions; candidates = c.drop_noted.new.candidates } in
    let V : Shard = with_local (drop_part tx) s in
    let rest = rest_of a c.args.self.now c.self.view_is c.requires.rest in
    let known = stage_known s tx (subst (λ (v : Core). is_some (stage_of v.shard.local c.args.tx) ≡ true) (sym c.self.view_is) c.requires.known) in
    changed a b V (doomed_here l tx) rest c.self.invariant
    (ap (λ (x : TxState). seen (record a { transactions = x })) e.dropped)
    (drops_touch s tx)
    (λ x h. e.txs x ∙ or_left (tx_in x (doomed_by l tx)) _ (here_in l tx x h))
    (record { shard = refl; transactions = ap (λ (x : TxState). x.shard) e.dropped; participant = refl; coordinator = refl })
    (λ x. c.self.invariant.prepares x ∙ sym (without_prepares tx l x) ∙ ap (λ (x' : TxState). prepare_lsn (x'.local).log x) (sym e.dropped))
    (drop_keeps tx l c.self.invariant.dependents)
    (subst (λ (x : TxState). All (known_keys V) (drop x.durable (x.local).log)) (sym e.dropped)
    (subst (λ ks. All (ks ++ (keys_of s.voters ++ keys_of s.requests)) (drop i.transactions.durable (drop_part tx l).log)) (sym (dropped_keys tx l)) (logged_without (known_keys s) tx i.transactions.durable l (λ x h. here_known s tx x h) c.self.invariant.logged)))
    (known_doomed s V tx i.candidates c.drop_noted.new.candidates c.self.invariant.dependents c.self.invariant.candidates known (dropped_keys tx l) refl refl e.txs e.limit)
    (room_kept s V i.transactions c.drop_noted.new.transactions i.outbox i.outbox (dropped_le s tx) e.room e.pairs_room (omega arith) c.self.invariant.room)
    rest.ready.requests
    (record { sound = e.sound; purged = e.purged; rise = e.rise; few = e.few })

pub invariant_of-self : goal.invariant_of-self
unfolding before
invariant_of-self g c = (the_change g c).whole

pub returns-clause-ready : goal.returns-clause-ready
unfolding before
returns-clause-ready g c = (the_change g c).ready

pub returns-clause-finished : goal.returns-clause-finished
unfolding before
returns-clause-finished g c = (the_change g c).finished ∙ ap (λ (v : Core). finish (with_local (drop_part c.args.tx) v.shard)) c.self.view_is
