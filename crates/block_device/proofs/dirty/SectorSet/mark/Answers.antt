use Rattle.std.proofs.Common.{◌+◌, ◌≤◌, ap, ◌∙◌, sym, refl, arith, vec_capacity}
use Rattle.block_device.{specs.Dirty.{Sectors, sectors_of, with_written}, proofs.{Rising.rises_higher, SetLemmas.{put_none, put_some}}}
use Rattle.block_device.proofs.dirty.SectorSet.mark.Goals as goal

pub returns-then-has_all : goal.returns-then-has_all
returns-then-has_all c =
    let within : c.args.first + c.args.count ≤ c.self.inside.sectors = omega (arith, ap (λ (s : Sectors). s.room) c.self.view_is) in
    let same = put_none c.self.inside.bits.items c.self.inside.list.items c.self.inside.sectors c.args.first c.args.count
    c.self.invariant.0 within (c.if-has_all.ensures.0 refl) in
    sym c.self.view_is
    ∙ (ap (sectors_of c.self.inside.sectors) same
    ∙ ap (λ (s : Sectors). sectors_of s.room (with_written s.list c.args.first c.args.count)) c.self.view_is)

pub put_in_place-requires-clause-rises : goal.put_in_place-requires-clause-rises
put_in_place-requires-clause-rises c =
    rises_higher 0 c.self.inside.sectors (vec_capacity c.self.inside.list) c.self.inside.list.items c.self.invariant.1
    c.self.invariant.0.rises

pub invariant_of-self : goal.invariant_of-self
invariant_of-self c =
    let within : c.args.first + c.args.count ≤ c.self.inside.sectors = omega (arith, ap (λ (s : Sectors). s.room) c.self.view_is) in (
      put_some c.self.inside.bits.items c.set_bits.new.bits.items c.self.inside.list.items c.put_in_place.new.list.items
          c.self.inside.sectors c.args.first c.args.count c.self.invariant.0 within c.set_bits.ensures.bits c.set_bits.ensures.words
          c.put_in_place.ensures.items,
      omega (arith, c.put_in_place.ensures.capacity),
    )
