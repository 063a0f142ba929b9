-- The number of the rules that a machine keeps of its own. Where memory begins is `bus_map`'s number, the lengths of frames and what the
-- outbox holds are `net_device`'s, pages are `paged_memory`'s, passed on here, and sectors `block_device`'s. That the code's constants are
-- these is the law `limits_are_the_rules` of guest_machine.
use Rattle.std.specs.Prelude.{ℕ}
-- how many bytes a page has, and how many pages a memory has at most
pub use Rattle.paged_memory.specs.Limits.{page_bytes, most_pages}

-- the machine's rules: a step is made while the outbox of 256 frames holds at most 192, so that 64 more fit, as many as a step can send
abbrev pub stepping_frames : ℕ
stepping_frames = 192
