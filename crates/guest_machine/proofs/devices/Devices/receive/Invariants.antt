use Rattle.guest_machine.proofs.devices.Devices.receive.Given as goal

-- the flags that the memory has when it is lent
abbrev pub ghosts-receive : goal.ghosts-receive
ghosts-receive a = record { flags = a.memory.now.written }
