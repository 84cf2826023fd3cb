-- An end of a ring is itself, and what is still itself.
use mathlib.Core.Path.{refl, ◌∙◌}
use Rattle.rtrb.specs.Ring.{SameProducer, SameConsumer}
use Rattle.rtrb.specs.declared.producer.Producer.{Producer}
use Rattle.rtrb.specs.declared.consumer.Consumer.{Consumer}

pub same_consumer : {T A P : Type 0} (a : Consumer T A P) → SameConsumer a a
same_consumer a = ((refl, refl, refl, refl), refl)

pub same_consumers : {T A P : Type 0} (a b c : Consumer T A P) → SameConsumer a b → SameConsumer b c → SameConsumer a c
same_consumers a b c ((w, s, n, h), k) ((v, t, m, i), l) = ((v ∙ w, t ∙ s, m ∙ n, i ∙ h), l ∙ k)

pub same_producer : {T A P : Type 0} (a : Producer T A P) → SameProducer a a
same_producer a = ((refl, refl, refl, refl), refl)

pub same_producers : {T A P : Type 0} (a b c : Producer T A P) → SameProducer a b → SameProducer b c → SameProducer a c
same_producers a b c ((w, s, n, h), k) ((v, t, m, i), l) = ((v ∙ w, t ∙ s, m ∙ n, i ∙ h), l ∙ k)
