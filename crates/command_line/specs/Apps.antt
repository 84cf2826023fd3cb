-- The command line as `clap` is told of it.
use Rattle.std.specs.Prelude.{Bool, true, false, List, [], ◌∷◌, codes, Some}
use Rattle.clap.specs.Words.{App, Rule, Text, new_app, new_rule, with_rule, with_subcommand}
use Rattle.clap.specs.declared.builder.ArgAction.TheVariants.{Append}

-- `--name VALUE`
abbrev pub option_rule : Text → Bool → Rule
option_rule name required = record (new_rule name) { long = Some name; required = required }

-- a command with an option more for each of the names, which must be given
abbrev pub with_required : App → List Text → App
with_required app [] = app
with_required app (name ∷ names) = with_required (with_rule app (option_rule name true)) names

-- [SPLIT]..
abbrev pub split_rule : Rule
split_rule = record (new_rule (codes "split")) { action = Some Append }

abbrev pub make_app : App
make_app = with_rule (new_app (codes "make")) split_rule

abbrev pub run_app : App
run_app = with_rule (new_app (codes "run")) (option_rule (codes "tries") false)

abbrev pub show_app : App
show_app = new_app (codes "show")

abbrev pub load_app : App
load_app =
    with_rule
    (with_rule
    (with_rule (with_rule (new_app (codes "load")) (option_rule (codes "seed") true)) (option_rule (codes "sessions") true))
    (option_rule (codes "accounts") true))
    (option_rule (codes "transfers") true)

abbrev pub serve_app : App
serve_app = with_rule (new_app (codes "serve")) (option_rule (codes "sessions") false)

abbrev pub audit_app : App
audit_app = new_app (codes "audit")

-- [N]..
abbrev pub count_rule : Rule
count_rule = record (new_rule (codes "count")) { action = Some Append }

abbrev pub standby_app : App
standby_app = with_rule (new_app (codes "standby")) count_rule

-- the words are those after the program's name, and a subcommand is wanted
abbrev pub bare_app : App
bare_app = record { top = record (new_app (codes "clv_shell")).top { no_binary_name = true; subcommand_required = true }; subs = [] }

unfoldable pub the_app : App
the_app =
    with_subcommand
    (with_subcommand
    (with_subcommand
    (with_subcommand (with_subcommand (with_subcommand (with_subcommand bare_app make_app.top) run_app.top) show_app.top) load_app.top)
    serve_app.top)
    audit_app.top)
    standby_app.top
