-- What a step that is offered names is within the bounds of a machine's calls.
use Rattle.std.proofs.Common.{◌≡◌, inl, inr, refl, sym, ap, subst, ◌∙◌, ℕ, true, [], ◌∷◌}
use Rattle.std.specs.List.{list_all}
use Rattle.std.proofs.lemmas.Bool.{and_parts}
use Rattle.clv_base.specs.declared.messages.Message.{Message}
use Rattle.clv_base.specs.declared.events.Event.{Event}
use Rattle.clv_base.specs.declared.events.Event.TheVariants.{Op, RollTo, Request, Look, Drop, Send, Deliver, Remind, FlushOut, FlushIn, Stop, Restart}
use Rattle.clv_base.specs.declared.events.Entry.{Entry}
use Rattle.clv_base.specs.Journals.{History}
use Rattle.clv_base.specs.History.{IsAmong}
use Rattle.clv_base.specs.Runs.{was_sent}
use Rattle.crash_laws.proofs.Laws.{was_sent_before}
use Rattle.machine_calls.specs.Events.{message_fits, event_fits, sends_fit}
use Rattle.interleaving_core.specs.Naming.{names_fit}
use Rattle.interleaving_core.specs.Sound.{AllFit}

fits_among : (n : ℕ) (e : Entry) (h : History) → AllFit h → IsAmong n e h → sends_fit e.outcome ≡ true
fits_among n e [] a i = absurd i
fits_among n e (f ∷ fs) a (inl i) = subst (λ x. sends_fit (x.1).outcome ≡ true) i (and_parts (sends_fit (f.1).outcome) (list_all (λ x. sends_fit (x.1).outcome) fs) a).0
fits_among n e (f ∷ fs) a (inr i) = fits_among n e fs (and_parts (sends_fit (f.1).outcome) (list_all (λ x. sends_fit (x.1).outcome) fs) a).1 i

sent_fits : (h : History) (m : Message) (stamp : ℕ) → AllFit h → was_sent h (Deliver m stamp) ≡ true → message_fits m ≡ true
sent_fits h m stamp a s = let w = was_sent_before h h (Deliver m stamp) s (λ x i e. i) in sym (ap sends_fit w.4) ∙ fits_among w.0 w.1 h a w.2

pub step_fits : (h : History) (n : ℕ) (e : Event) → AllFit h → was_sent h e ≡ true → names_fit n e ≡ true → event_fits n e ≡ true
step_fits h n (Op tx birth nth seen op) a s f = f
step_fits h n (RollTo tx nth seen upto) a s f = f
step_fits h n (Request tx ts) a s f = f
step_fits h n (Look tx) a s f = f
step_fits h n (Drop tx) a s f = f
step_fits h n (Deliver m stamp) a s f = sent_fits h m stamp a s
step_fits h n Send a s f = refl
step_fits h n Remind a s f = refl
step_fits h n FlushOut a s f = refl
step_fits h n FlushIn a s f = refl
step_fits h n Stop a s f = refl
step_fits h n Restart a s f = refl
