-- Want of memory, as clauses name it.
use Rattle.memory_wanted.specs.declared.MemoryWanted.{MemoryWanted}

-- every want of memory is this one: it says that a growth was refused, and nothing more
abbrev pub wanted : MemoryWanted
wanted = record { refused = tt }
