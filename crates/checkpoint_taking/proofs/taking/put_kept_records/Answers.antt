use Rattle.std.proofs.Common.{◌≡◌, drop, OnOk, subst}
use Rattle.checkpoint_taking.specs.Cut.{cut}
use Rattle.checkpoint_taking.specs.Lsns.{has_lsn}
use Rattle.checkpoint_taking.proofs.KeptByFacts.{places_are}
use Rattle.checkpoint_taking.proofs.taking.put_kept_records.Goals as goal

pub returns : goal.returns
returns c =
    let log = c.args.log.now in
    subst (λ ps. OnOk c.put_places.result (c.put_places.new.batches ≡ cut c.args.batches.now ps))
    (places_are c.args.shard log c.in_ok-facts.facts c.in_ok-facts.ensures (has_lsn c.in_ok-stands.stands) c.in_ok-stands.ensures 1 (drop 1 log))
    c.put_places.ensures
