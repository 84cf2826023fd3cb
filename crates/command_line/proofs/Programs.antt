-- What `clap` is told, and what it answers.
use Rattle.std.proofs.Common.{◌≡◌, inl, inr, true, [], refl, subst}
use Rattle.clap.specs.Words.{is_simple, is_simple_and_free, HasKind, IsAmong, Kinds}
use Rattle.clap.specs.Words.{kind_of}
use Rattle.clap.specs.declared.Error.{Error}
use Rattle.clap.specs.declared.error.ErrorKind.TheVariants.{OutOfMemory}
use Rattle.clap.proofs.OnLiterals.{clap_on_literals}
use Rattle.command_line.specs.Apps.{the_app}

pub app_is_simple : is_simple the_app ≡ true
unfolding the_app clap_on_literals
app_is_simple = refl

pub app_is_free : is_simple_and_free the_app ≡ true
unfolding the_app clap_on_literals
app_is_free = refl

pub no_kind : (kinds : Kinds) (e : Error) → HasKind kinds e → kinds ≡ [] → kind_of e ≡ OutOfMemory
no_kind kinds e (inl memory) none = memory
no_kind kinds e (inr among) none = absurd (subst (λ (ks : Kinds). IsAmong (kind_of e) ks) none among)
