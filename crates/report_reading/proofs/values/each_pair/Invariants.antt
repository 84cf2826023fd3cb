use Rattle.std.proofs.Common.{◌≡◌, true, map, take}
use Rattle.std.specs.List.{list_all}
use Rattle.serde_json.specs.View.{view}
use Rattle.report_text.specs.Lines.{pair}
use Rattle.report_reading.specs.Told.{fits_pair}
use Rattle.report_reading.proofs.values.each_pair.Given as goal

abbrev pub invariant-loop-value : goal.invariant-loop-value
invariant-loop-value l =
    record {
      passes : list_all fits_pair l.pairs.items ≡ true;
      told : map pair l.pairs.items ≡ map view (take l.value-index l.values);
    }
