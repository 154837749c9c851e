use Rattle.std.proofs.Common.{length, sym, ap, ◌∙◌}
use Rattle.areas.specs.Store.{stored_length}
use Rattle.areas.proofs.store.Store.len.Goals as goal

pub returns : goal.returns
returns g c = sym (stored_length g.row.WIDTH c.self.inside.slots c.self.inside.count) ∙ ap length c.self.view_is
