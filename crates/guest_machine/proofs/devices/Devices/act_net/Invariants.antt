use Rattle.guest_machine.proofs.devices.Devices.act_net.Given as goal

-- the flags that the memory has when it is lent
abbrev pub ghosts-transmit : goal.ghosts-transmit
ghosts-transmit a = record { flags = a.memory.now.written }
