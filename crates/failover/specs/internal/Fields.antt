-- How the fields of a generation stand for what contracts see.
use Rattle.failover.specs.Generations.{GenerationState, IsGeneration}
use Rattle.failover.specs.declared.generation.Generation.TheInside.{Inside}

abbrev pub generation_state : Inside → GenerationState
generation_state a = record { number = a.number; mode = a.mode }

abbrev pub AreFields : Inside → Type 0
AreFields a = IsGeneration (generation_state a)
