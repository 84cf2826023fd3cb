-- Walkers, shards and sessions may be sent to threads.
use denote.RattleType.{RattleType}
use denote.Ref.{NamedLft}
use denote.Param.Send.{IsSend, IsSync, sendable, recorded_send, struct_send}
use denote.Struct.Struct.{Struct}
use denote.Struct.Declared.{shape}
use Rattle.std.proofs.Crossing.{crosses, Vec-send}
use Rattle.turn_lock.proofs.pass.Pass.TheSendSync as pass
use Rattle.turn_lock.proofs.pass.TurnLock.TheSendSync as lock
use Rattle.turn_lock.proofs.gate.BatchGate.TheSendSync as gate
use Rattle.std.specs.contracts.option.Option as option
use Rattle.machine_laws.specs.contracts.notes.Origin as Origin
use Rattle.machine_laws.specs.contracts.notes.Note as Note
use Rattle.turn_lock.specs.contracts.pass.Pass as Pass
use Rattle.cluster_turns.specs.contracts.home.Home as home
use Rattle.cluster_turns.proofs.heap.OnHeap.TheSendSync as heap
use Rattle.cluster_turns.specs.contracts.shards.Walker as walker
use denote.Param.Send.{struct_sync, recorded_sync}
use Rattle.std.proofs.Crossing.{Vec-sync}
use Rattle.clv_base.proofs.splits.Splits.TheSendSync as splits
use Rattle.cluster_turns.specs.contracts.shards.Shards as shards
use Rattle.session_api.specs.contracts.session.Session as session
use Rattle.session_api.proofs.progress.Progress.TheSendSync as progress
use Rattle.script_lang.proofs.savepoints.Savepoints.TheSendSync as saves
use Rattle.session_api.specs.contracts.script_session.ScriptSession as script

pub origin_send : IsSend Origin.the_field.row
origin_send = struct_send (shape Origin.the_type) (search sendable, (search sendable, (search (sendable, crosses) depth 20, (search (sendable, crosses) depth 20, tt))))

pub home_send : (M S G : RattleType) → IsSend M → IsSend (home.the_field M S G).row
home_send M S G m = search (origin_send, heap.the_send, sendable, crosses) depth 30 fits 20000

pub home_row_send : (M S G : RattleType) → IsSend M → IsSend (home.the_row M S G)
home_row_send M S G m = search (origin_send, heap.the_send, sendable, crosses) depth 30 fits 20000

pub pass_send : (M S G : RattleType) → IsSend M → IsSend (Pass.the_row (home.the_row M S G) Note.the_row Origin.the_row)
pass_send M S G m = pass.the_send (home.the_row M S G) Note.the_row Origin.the_row (home_row_send M S G m)

pub option_send : (T : RattleType) → IsSend T → IsSend (option.the_row T)
option_send T t = search sendable depth 20

pub walker_send : (M S G : RattleType) → IsSend M → IsSend (walker.the_field M S G).row
walker_send M S G m =
    let p = pass_send M S G m in
    let W = walker.the_type M S G in
    let o = option_send (Pass.the_row (home.the_row M S G) Note.the_row Origin.the_row) p in
    let v = Vec-send (option.the_row (Pass.the_row (home.the_row M S G) Note.the_row Origin.the_row)) o in
    struct_send (shape W) (search sendable, (search sendable, (search sendable, (v, tt))))

pub shards_sync : (M S G : RattleType) (a : _) (b : _) (c : _) → IsSend M → IsSync (shards.the_field M S G a b c).row
shards_sync M S G a b c m =
    let h = home_row_send M S G m in
    let W = shards.the_type M S G a b c in
    struct_sync (shape W) (search (h, lock.the_sync, Vec-sync, sendable) depth 20, (splits.the_sync, (search sendable, (search (gate.the_sync, crosses, sendable) depth 20, (search (crosses, sendable) depth 20, (search (crosses, sendable) depth 20, (search (crosses, sendable) depth 20, (search (crosses, sendable) depth 20, tt))))))))

pub shards_row_sync : (M S G : RattleType) (a : _) (b : _) (c : _) → IsSend M → IsSync (shards.the_row M S G a b c)
shards_row_sync M S G a b c m = let W = shards.the_type M S G a b c in recorded_sync (Struct (shape W)) W.D W.to W.to_one (shards_sync M S G a b c m)

pub session_send : (l : NamedLft) (M P R S G : RattleType) (a : _) (b : _) (c : _) → IsSend M → IsSync P → IsSync R → IsSend (session.the_field l M P R S G a b c).row
session_send l M P R S G a b c m p r =
    let sh = shards_sync M S G a b c m in
    let w = walker_send M S G m in
    let W = session.the_type l M P R S G a b c in
    struct_send (shape W) (search sendable, (search (shards_row_sync, sendable), (search sendable, (w, (progress.the_field_send, (search (sendable, crosses) depth 20, tt))))))

pub session_row_send : (l : NamedLft) (M P R S G : RattleType) (a : _) (b : _) (c : _) → IsSend M → IsSync P → IsSync R → IsSend (session.the_row l M P R S G a b c)
session_row_send l M P R S G a b c m p r = let W = session.the_type l M P R S G a b c in recorded_send (Struct (shape W)) W.D W.to W.to_one (session_send l M P R S G a b c m p r)

pub script_send : (l : NamedLft) (M P R S G : RattleType) (a : _) (b : _) (c : _) → IsSend M → IsSync P → IsSync R → IsSend (script.the_field l M P R S G a b c).row
script_send l M P R S G a b c m p r = struct_send (shape (script.the_type l M P R S G a b c)) (session_send l M P R S G a b c m p r, (search (sendable, crosses) depth 20, (saves.the_send, (search (sendable, crosses) depth 20, tt))))

pub script_row_send : (l : NamedLft) (M P R S G : RattleType) (a : _) (b : _) (c : _) → IsSend M → IsSync P → IsSync R → IsSend (script.the_row l M P R S G a b c)
script_row_send l M P R S G a b c m p r = let W = script.the_type l M P R S G a b c in recorded_send (Struct (shape W)) W.D W.to W.to_one (script_send l M P R S G a b c m p r)
