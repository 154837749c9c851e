use Rattle.std.proofs.Common.{◌≡◌, ◌+◌, ◌*◌, ◌-◌, ℕ, take, drop, ap, ◌∙◌, arith}
use Rattle.areas.specs.Store.{slot, slot_length}
use Rattle.areas.proofs.store.slot.Goals as goal

pub returns : goal.returns
unfolding slot
returns c =
    let a = c.args in
    let p = a.j * a.width + 1 in
    let size : p + c.from.result - p ≡ c.from.result = omega arith in
    let word = ap (λ (x : ℕ). take x (drop p a.store.now)) (size ∙ c.from.ensures) in record {
      word = word;
      short = rw (word, slot_length a.width a.store.now a.j c.requires.width_in_bounds c.requires.width_bound) c.requires.width_bound;
    }
