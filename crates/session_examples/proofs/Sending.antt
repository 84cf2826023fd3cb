-- Seats may be sent to threads.
use denote.RattleType.{RattleType}
use denote.Ref.{NamedLft}
use denote.Param.Send.{IsSend, IsSync, sendable, recorded_send, struct_send}
use denote.Struct.Struct.{Struct}
use denote.Struct.Declared.{shape}
use Rattle.cluster_runs.proofs.Sending.{session_send}
use Rattle.session_examples.specs.contracts.together.Seat as seat

pub seat_send : (l : NamedLft) (M P R S G : RattleType) (a : _) (b : _) (c : _) → IsSend M → IsSync P → IsSync R → IsSend (seat.the_field l M P R S G a b c).row
seat_send l M P R S G a b c m p r = struct_send (shape (seat.the_type l M P R S G a b c)) (session_send l M P R S G a b c m p r, (search sendable, tt))

pub seat_row_send : (l : NamedLft) (M P R S G : RattleType) (a : _) (b : _) (c : _) → IsSend M → IsSync P → IsSync R → IsSend (seat.the_row l M P R S G a b c)
seat_row_send l M P R S G a b c m p r = let W = seat.the_type l M P R S G a b c in recorded_send (Struct (shape W)) W.D W.to W.to_one (seat_send l M P R S G a b c m p r)
