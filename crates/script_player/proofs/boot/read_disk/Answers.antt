-- the sector's number stands before the digits of the byte
use Rattle.std.{proofs.Common.{◌∙◌, ap, refl, [], ◌∷◌}, specs.Prelude.slice_index_or}
use Rattle.script_player.proofs.DiskLemmas.{disk_operand, one_reading, disk_read}
use Rattle.script_player.specs.laws.Options.{some_same}
use Rattle.script_player.proofs.boot.read_disk.Goals as goal

pub returns-in_err-sector-clause-only : goal.returns-in_err-sector-clause-only
returns-in_err-sector-clause-only c sector byte h =
    cc (rw c.in_err-sector.was at c.operand.ensures ∙ disk_operand c.args.text.now _ sector byte c.in_ok-after.ensures h)

pub returns-in_err-byte-clause-only : goal.returns-in_err-byte-clause-only
returns-in_err-byte-clause-only c sector byte h =
    let read = one_reading c.args.text.now _ c.in_ok-sector.digits.now _ sector byte c.in_ok-after.ensures c.in_ok-sector.ensures h in
    cc (c.in_err-byte.ensures.only (byte ∷ []) refl read.2 read.1)

pub returns-clause-found : goal.returns-clause-found
returns-clause-found c =
    let bytes = c.in_ok-byte.ensures.bytes in
    disk_read c.args.text.now c.in_ok-after.field-0.now c.in_ok-sector.digits.now c.in_ok-byte.field-0 c.in_ok-sector.sector
    c.in_ok-after.ensures c.in_ok-sector.ensures c.in_ok-byte.ensures.found bytes.0 bytes.1

pub returns-clause-only : goal.returns-clause-only
returns-clause-only c sector byte h =
    let read = one_reading c.args.text.now _ c.in_ok-sector.digits.now _ sector byte c.in_ok-after.ensures c.in_ok-sector.ensures h in
    let first = ap (λ bs. slice_index_or bs 0 0) (some_same (c.in_ok-byte.ensures.only (byte ∷ []) refl read.2 read.1)) in
    rw (read.0, first) refl
