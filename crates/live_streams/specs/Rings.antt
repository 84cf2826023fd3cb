-- The rings of all sessions.
use Rattle.std.specs.Prelude.{◌≡◌, ℕ, ◌<◌, List, [], ◌++◌, length, slice_index_or}
use Rattle.rtrb.specs.Ring.{sent, received, IsPair, SameProducer, SameConsumer}
use Rattle.rtrb.specs.declared.producer.Producer.{Producer}
use Rattle.rtrb.specs.declared.consumer.Consumer.{Consumer}

module _ {T A P : Type 0} where
  -- at each place stand the two ends of one ring
  abbrev pub ArePairs : ℕ → List (Producer T A P) → List (Consumer T A P) → Type 0
  ArePairs count makers takers = (k : ℕ) (p : Producer T A P) (c : Consumer T A P) → k < count → IsPair (slice_index_or makers k p) (slice_index_or takers k c)

  -- so many, and nothing went through any
  pub record AreNew (count : ℕ) (makers : List (Producer T A P)) (takers : List (Consumer T A P)) : Type 0 where
    pub makers_are : length makers ≡ count
    pub takers_are : length takers ≡ count
    pub pairs : ArePairs count makers takers
    pub none_sent : (k : ℕ) (p : Producer T A P) → k < count → sent (slice_index_or makers k p) ≡ []
    pub none_received : (k : ℕ) (c : Consumer T A P) → k < count → received (slice_index_or takers k c) ≡ []

  -- the same rings, and nothing was put into any
  pub record SameMakers (old new : List (Producer T A P)) : Type 0 where
    pub len : length new ≡ length old
    pub same : (k : ℕ) (d : Producer T A P) → k < length old → SameProducer (slice_index_or old k d) (slice_index_or new k d)
    pub sent_is : (k : ℕ) (d : Producer T A P) → k < length old → sent (slice_index_or new k d) ≡ sent (slice_index_or old k d)

  -- the same rings, and nothing was taken from any
  pub record SameTakers (old new : List (Consumer T A P)) : Type 0 where
    pub len : length new ≡ length old
    pub same : (k : ℕ) (d : Consumer T A P) → k < length old → SameConsumer (slice_index_or old k d) (slice_index_or new k d)
    pub received_is : (k : ℕ) (d : Consumer T A P) → k < length old → received (slice_index_or new k d) ≡ received (slice_index_or old k d)

  -- of each, all that was put in was taken
  abbrev pub AreAllTaken : ℕ → List (Producer T A P) → List (Consumer T A P) → Type 0
  AreAllTaken count makers takers = (k : ℕ) (p : Producer T A P) (c : Consumer T A P) → k < count → received (slice_index_or takers k c) ≡ sent (slice_index_or makers k p)

  -- of each, what was taken is what was put in first
  abbrev pub AreFronts : ℕ → List (Producer T A P) → List (Consumer T A P) → Type 0
  AreFronts count makers takers =
      (k : ℕ) (p : Producer T A P) (c : Consumer T A P) → k < count → (rest : List T) × (sent (slice_index_or makers k p) ≡ received (slice_index_or takers k c) ++ rest)
