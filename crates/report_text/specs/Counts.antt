-- The line of the counts.
use Rattle.std.specs.Prelude.{codes}
use Rattle.serde_json.specs.Data.{Data, object, member, no_members}
use Rattle.session_books.specs.declared.counts.Counts.{Counts}
use Rattle.report_text.specs.Lines.{num}

-- {"aborted":..,"acknowledged":..,"unsettled":..}
abbrev pub summary : Counts → Data
summary c =
    object (member (codes "aborted") (num c.aborted) (member (codes "acknowledged") (num c.acknowledged) (member (codes "unsettled") (num c.unsettled) no_members)))
