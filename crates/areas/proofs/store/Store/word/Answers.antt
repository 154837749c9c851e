use Rattle.std.proofs.Common.{◌∙◌}
use Rattle.areas.specs.Store.{slot_room, slot_fits, slot_is}
use Rattle.areas.proofs.store.Store.word.Goals as goal

pub slot-requires : goal.slot-requires
slot-requires g c =
    let i = c.self.invariant in
    let v = c.self.view_is in
    record { width_in_bounds = slot_room i v c.args.j c.requires; width_bound = slot_fits i v c.args.j c.requires }

pub returns : goal.returns
returns g c = record { word = c.slot.ensures.word ∙ slot_is c.self.invariant c.self.view_is c.args.j c.requires; short = c.slot.ensures.short }
