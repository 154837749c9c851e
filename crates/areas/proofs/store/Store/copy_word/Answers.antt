use Rattle.areas.specs.Store.{slot_room, slot_fits, slot_is}
use Rattle.areas.proofs.store.Store.copy_word.Goals as goal

pub copy_word-requires : goal.copy_word-requires
copy_word-requires g c =
    let i = c.self.invariant in
    let v = c.self.view_is in
    record { width_in_bounds = slot_room i v c.args.j c.requires.there; width_bound = slot_fits i v c.args.j c.requires.there; width_in_bounds_2 = c.requires.room }

pub returns : goal.returns
returns g c =
    let is = slot_is c.self.invariant c.self.view_is c.args.j c.requires.there in
    record { value = rw (← is) c.copy_word.ensures.0; area_after = rw (← is) c.copy_word.ensures.1 }
