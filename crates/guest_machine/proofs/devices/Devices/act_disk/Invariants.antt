use Rattle.guest_machine.proofs.devices.Devices.act_disk.Given as goal

-- the flags that the memory has when it is lent
abbrev pub ghosts-serve : goal.ghosts-serve
ghosts-serve a = record { flags = a.memory.now.written }
