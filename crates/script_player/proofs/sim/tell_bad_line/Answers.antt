use Rattle.script_player.proofs.sim.tell_bad_line.Goals as goal

pub returns : goal.returns
returns g c =
    simp (c.as_slice.ensures.value, c.add-2.ensures.items, c.add_number.ensures.items, c.add.ensures.items, c.new-text.ensures) at c.put.ensures
