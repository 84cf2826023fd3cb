-- The members of a run whose sessions went through are transactions of its script.
use Rattle.std.specs.Prelude.{◌≡◌, ℕ, true, Bool, List, Option, Some, slice_get}
use Rattle.std.specs.List.{AllByRecursion}
use Rattle.clv_base.specs.FileRules.{may_open}
use Rattle.clv_base.specs.Journals.{History}
use Rattle.clv_base.specs.History.{Member, acts_in}
use Rattle.io_model.specs.Sides.{Stories}
use Rattle.history_replay.specs.Entries.{Kept}
use Rattle.script_lang.specs.Bodies.{Body}
use Rattle.script_lang.specs.Following.{all_acts}
use Rattle.session_books.specs.Done.{Done}
use Rattle.script_runs.specs.Acts.{acts_of, answers_in}
use Rattle.script_runs.specs.TriesTell.{ArePartsOf}
use Rattle.cluster_runs.specs.Histories.{entries, members_by}
use Rattle.cluster_runs.specs.PromisedSessions.{Went}
use Rattle.cluster_runs.specs.Promises.{RunPromised}
use Rattle.cluster_runs.specs.Replays.{HaveGone}

-- its acts are those that the history tells of it: what the lines of one of a session's transactions ask for, under the answers that it was told
pub record IsOfScript (splits : List ℕ) (script : List (List Body)) (h : History) (m : Member) : Type 0 where
  pub told : m.acts ≡ acts_in m.tx h
  pub session : ℕ
  pub bodies : List Body
  pub session_is : slice_get script session ≡ Some bodies
  pub number : ℕ
  pub body : Body
  pub body_is : slice_get bodies number ≡ Some body
  pub acts : List Done
  pub all : acts_of acts ≡ all_acts body.actions (answers_in acts)
  pub parts : ArePartsOf splits 1 acts m.acts

-- each member is so, whatever a crash keeps of what is in flight
abbrev pub MembersAreOfScript : Type 0
MembersAreOfScript =
    (splits : List ℕ) (before now : ℕ → Option Stories) (counts counts_now : ℕ → ℕ) (most : Option ℕ) (script : List (List Body)) (went : ℕ → Went) (kept : Kept) (choice : ℕ → Bool)
    → may_open splits kept.found ≡ true → (p : RunPromised splits before now counts counts_now most script went kept) → HaveGone script went
    → AllByRecursion (IsOfScript splits script (entries kept)) (members_by splits kept (p.keeps).left choice)
