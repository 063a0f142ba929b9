use Rattle.std.specs.Prelude.{false}
use Rattle.virtqueue.specs.declared.rings.Queue.{Queue}

-- a queue at boot and after a reset (virtio 1.1, 4.2.2 and 2.1: a reset gives every register its first value)
abbrev pub boot_queue : Queue
boot_queue = record {
  num = 0;
  ready = false;
  desc = 0;
  driver = 0;
  device = 0;
  next_available = 0;
  next_used = 0;
}
