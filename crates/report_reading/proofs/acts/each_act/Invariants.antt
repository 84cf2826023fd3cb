use Rattle.std.proofs.Common.{◌≡◌, true, map, take}
use Rattle.std.specs.List.{list_all}
use Rattle.serde_json.specs.View.{view}
use Rattle.report_text.specs.Lines.{act}
use Rattle.report_reading.specs.Told.{can_be_done}
use Rattle.report_reading.proofs.acts.each_act.Given as goal

abbrev pub invariant-loop-value : goal.invariant-loop-value
invariant-loop-value l =
    record {
      passes : list_all can_be_done l.acts.items ≡ true;
      told : map act l.acts.items ≡ map view (take l.value-index l.values);
    }
