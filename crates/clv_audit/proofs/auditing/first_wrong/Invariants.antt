use Rattle.std.proofs.Common.{◌≡◌, length, take}
use Rattle.clv_base.specs.Folding.{IsRising}
use Rattle.clv_audit.specs.Right.{AreRight, last_map}
use Rattle.clv_audit.proofs.Judging.{AreLasts}
use Rattle.clv_audit.proofs.auditing.first_wrong.Given as goal

abbrev pub invariant-loop-tx : goal.invariant-loop-tx
invariant-loop-tx l =
    record {
      place : l.place ≡ l.tx-index;
      size : length l.lasts ≡ 65;
      lasts : AreLasts (take l.tx-index l.txs) l.lasts;
      right : AreRight l.fn.pairs (take l.tx-index l.txs);
      pairs : l.pairs ≡ last_map l.fn.pairs (take l.tx-index l.txs);
      rises : IsRising l.pairs;
    }
