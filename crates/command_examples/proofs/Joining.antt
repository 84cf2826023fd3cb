-- Commands one behind another.
use Rattle.std.proofs.Common.{refl, inl, ℕ, List, Option, Some, None, IfSome}
use Rattle.std.specs.Prelude.{IsSome}
use Rattle.io_model.specs.Sides.{Stories}
use Rattle.history_replay.specs.Entries.{Kept}
use Rattle.command_line.specs.declared.commands.Command.TheVariants.{Run, Show, Serve}
use Rattle.command_line.specs.declared.status.Status.{Status}
use Rattle.cluster_runs.specs.Following.{IsFoundAgain, IsReadAgain, LastLogsAreFound, LeftLogsAreGood}
use Rattle.clv_commands.specs.Runs.{PromisedBy}
use Rattle.command_examples.specs.Chains.{Opens, Follows, IfBoth}

-- what opened shards promised
pub opened_by_run : (tries : ℕ) (left : Option (List ℕ)) (before now : ℕ → Option Stories) (counts counts' : ℕ → ℕ) (status : Status) (kept : Kept) → PromisedBy (Run tries) left before now counts counts' status kept → Opens before now kept
opened_by_run tries left before now counts counts' status kept (script, has, (running, r, ends)) = record { splits = r.splits; held = r.held; keeps = (r.promised).keeps }

pub opened_by_show : (left : Option (List ℕ)) (before now : ℕ → Option Stories) (counts counts' : ℕ → ℕ) (status : Status) (kept : Kept) → PromisedBy Show left before now counts counts' status kept → Opens before now kept
opened_by_show left before now counts counts' status kept (running, r, ends) = record { splits = r.splits; held = r.held; keeps = (r.promised).keeps }

pub opened_by_serve : (sessions : ℕ) (left : Option (List ℕ)) (before now : ℕ → Option Stories) (counts counts' : ℕ → ℕ) (status : Status) (kept : Kept) → PromisedBy (Serve sessions) left before now counts counts' status kept → Opens before now kept
opened_by_serve sessions left before now counts counts' status kept (splits, lives, held, promised) = record { splits = splits; held = held; keeps = promised.keeps }

told_again : (o : Option Stories) → IsSome o → IsReadAgain o o
told_again None is = absurd cc
told_again (Some s) is = refl

pub found_again : (o : Option Stories) → IsSome o → IsFoundAgain o o
found_again None is = absurd cc
found_again (Some s) is = (inl refl, inl refl)

pub follow : LastLogsAreFound → LeftLogsAreGood → (before between now : ℕ → Option Stories) (one two : Kept) → Opens before between one → Opens between now two → Follows before between now one two
follow law opens before between now one two a b = record {
  first = a;
  second = b;
  splits_are = λ told. (law a.splits b.splits before between between one two.found a.keeps (λ n l. told_again (between n) (told n l)) b.held).0;
  found_are = λ told. (law a.splits b.splits before between between one two.found a.keeps (λ n l. told_again (between n) (told n l)) b.held).1;
  good = λ told. opens a.splits before between between one a.keeps (λ n l. found_again (between n) (told n l));
}

pub both : (P Q : Kept → Type 0) (R : Kept → Kept → Type 0) (o p : Option Kept) → ((a b : Kept) → P a → Q b → R a b) → IfSome o P → IfSome p Q → IfBoth o p R
both P Q R None p f h k = tt
both P Q R (Some a) None f h k = tt
both P Q R (Some a) (Some b) f h k = f a b h k
