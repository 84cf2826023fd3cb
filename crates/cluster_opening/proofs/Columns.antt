-- The passes of locks, taken one of each at a time.
use Rattle.std.proofs.Common.{◌≡◌, ℕ, ◌<◌, List, length, get_or, ap, ◌∙◌, subst, arith, Option, Some, Vec, Global}
use Rattle.std.proofs.lemmas.List.{get_or_default}
use Rattle.clv_base.specs.declared.logs.LogRecord.{LogRecord}
use Rattle.clv_base.specs.LogRules.{log_of}
use Rattle.clv_base.specs.Restarts.{run_after}
use Rattle.turn_lock.specs.declared.pass.TurnLock.{TurnLock}
use Rattle.turn_lock.specs.declared.pass.Pass.{Pass}
use Rattle.turn_lock.specs.Passes.{IsNewPass}
use Rattle.machine_laws.specs.declared.notes.Note.{Note}
use Rattle.machine_laws.specs.declared.notes.Origin.{Origin}
use Rattle.cluster_turns.specs.Walkers.{AreNewPasses}
use Rattle.cluster_opening.specs.AllOpened.{IsOpenedAt}
use Rattle.law_base.proofs.Lists.{elem_at as some_elem}

module _ {T : Type 0} where
  -- the passes of one number, one of each lock, are new ones
  pub column_is_new : (splits : List ℕ) (founds : List (List LogRecord)) (run walkers number : ℕ) (locks : List (TurnLock T Note Origin)) (passes : List (Vec (Pass T Note Origin) Global)) (mine : List (Option (Pass T Note Origin))) → run ≡ run_after founds
      → length mine ≡ length locks → length passes ≡ length locks → number < walkers
      → ((n : ℕ) (d : TurnLock T Note Origin) (e : Vec (Pass T Note Origin) Global) → n < length locks → IsOpenedAt (record { splits = splits }) run walkers n (log_of founds n) (get_or locks n d) (get_or passes n e).items)
      → ((n : ℕ) (d : Vec (Pass T Note Origin) Global) (e : Option (Pass T Note Origin)) (f : Pass T Note Origin) → n < length locks → get_or mine n e ≡ Some (get_or (get_or passes n d).items number f))
      → AreNewPasses splits founds locks number mine
  column_is_new splits founds run walkers number locks passes mine is long many low opened taken = record {
    count = long;
    each = λ k d l. (let x = some_elem locks k l in let e = some_elem passes k (omega arith) in let o = opened k x e l in let all = o.all in
        let f = some_elem (get_or passes k e).items number (omega arith) in let p = get_or (get_or passes k e).items number f in (
          p,
          o.origin,
          taken k e d f l,
          λ y. subst (λ (z : TurnLock T Note Origin). IsNewPass z o.origin number p) (get_or_default locks k x y l) (o.new number f low),
          record { shard = (o.origin_is).shard_is; run = (o.origin_is).run_is ∙ is; found = (o.origin_is).found_is; splits_are = ap (λ x. x.splits) (o.origin_is).layout_is },
        ));
  }
