use Rattle.script_lang.specs.declared.following.Following.{Following}
use Rattle.script_lang.proofs.Progress.{passes_save, passes_back}
use Rattle.std.proofs.Common.{refl}
use Rattle.script_lang.proofs.following.Following.passed.Goals as goal

pub returns-in-Some-clause-saved : goal.returns-in-Some-clause-saved
returns-in-Some-clause-saved c = λ lines answers way stands is.
    let g : Following = record { stage = c.args.self.now.stage; left = c.in-Some.behind } in
    passes_save lines answers way c.args.self.now g c.in-Some.field-0-0.now c.in-Some.behind.now stands (c.in-Some.ensures {u = tt}).cases.0 refl refl is

pub returns-in-Some-clause-back : goal.returns-in-Some-clause-back
returns-in-Some-clause-back c = λ lines answers way i stands is.
    let g : Following = record { stage = c.args.self.now.stage; left = c.in-Some.behind } in
    passes_back lines answers way c.args.self.now g c.in-Some.field-0-0.now c.in-Some.behind.now stands (c.in-Some.ensures {u = tt}).cases.0 refl refl i is
