-- Blocks of 64 bytes: 64 of them are a page.
use Rattle.std.specs.Prelude.{ℕ, ◌+◌, ◌*◌, List}
use Rattle.paged_memory.specs.Bytes.{with_bytes, with_xored}
use Rattle.guest_rules.specs.Guest.{Guest}
use Rattle.guest_rules.specs.Limits.{page_bytes}

-- where a block of a page begins in memory
abbrev pub block_place : ℕ → ℕ → ℕ
block_place page block = page_bytes * page + 64 * block

-- a guest with a block XORed into one of its memory
abbrev pub with_block : Guest → ℕ → ℕ → List ℕ → Guest
with_block g page block change = record g { ram = with_xored g.ram (block_place page block) change }

-- a guest with a sector of its disk replaced
abbrev pub with_sector : Guest → ℕ → List ℕ → Guest
with_sector g sector bytes = record g { sectors = with_bytes g.sectors (512 * sector) bytes }
