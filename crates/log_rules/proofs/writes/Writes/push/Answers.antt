use Rattle.std.proofs.lemmas.Result.{on_ok_weaker}
use Rattle.log_rules.proofs.Pushing.{pushed}
use Rattle.log_rules.proofs.writes.Writes.push.Goals as goal

pub returns-clause-writes : goal.returns-clause-writes
returns-clause-writes c = on_ok_weaker c.set_newest.result
    (λ newest. pushed c.args.self.now c.set_row.new.self c.stack.new.self c.set_newest.new.self c.args.lsn c.args.tx c.args.key c.args.change.now c.in_ok-links.links (record {
      links = c.in_ok-links.ensures;
      row = c.in_ok-set_row.ensures.rows;
      row_records = c.set_row.ensures.records;
      row_tops = c.set_row.ensures.tops;
      row_newest = c.set_row.ensures.newest;
      tops = c.in_ok-stack.ensures.tops;
      adds = c.in_ok-stack.ensures.adds;
      values = c.in_ok-stack.ensures.values;
      shares = c.in_ok-stack.ensures.shares;
      tops_records = c.stack.ensures.records;
      tops_rows = c.stack.ensures.rows;
      tops_newest = c.stack.ensures.newest;
      last_records = c.set_newest.ensures.records;
      last_rows = c.set_newest.ensures.rows;
      last_tops = c.set_newest.ensures.tops;
    }) newest) c.set_newest.ensures.newest
