use Rattle.std.proofs.Common.{◌≡◌, ◌+◌, ◌*◌, ◌≤◌, ◌++◌, ◌∷◌, [], List, ℕ, length, sym, ap, ◌∙◌, add-one}
use Rattle.rules.specs.Words.{Word}
use Rattle.areas.specs.Store.{stored, stored_length, stored_put, slots_put}
use Rattle.areas.proofs.store.Store.push.Goals as goal

-- the next slot is there
room : (width size count : ℕ) (slots : List ℕ) (words : List Word) → stored width slots count ≡ words → length slots ≡ size → length words * width + width ≤ size
    → count * width + width ≤ length slots
room width size count slots words is told r =
    let many : length words ≡ count = ap length (sym is) ∙ stored_length width slots count in
    rw (told, ← many) r

pub store_word-requires-clause-width_in_bounds : goal.store_word-requires-clause-width_in_bounds
store_word-requires-clause-width_in_bounds g c = room _ _ _ _ _ c.self.view_is c.self.told c.requires.room

pub invariant_of-self : goal.invariant_of-self
invariant_of-self g c =
    rw (c.store_word.ensures, add-one)
    (slots_put g.row.WIDTH c.self.inside.slots c.self.inside.count c.self.invariant c.args.w.now (room _ _ _ _ _ c.self.view_is c.self.told c.requires.room) c.requires.short.0)

pub returns : goal.returns
returns g c =
    rw (c.store_word.ensures, add-one)
    (stored_put g.row.WIDTH c.self.inside.slots c.self.inside.count c.self.invariant c.args.w.now (room _ _ _ _ _ c.self.view_is c.self.told c.requires.room) c.requires.short.0
    ∙ ap (λ l. l ++ (c.args.w.now ∷ [])) c.self.view_is)
