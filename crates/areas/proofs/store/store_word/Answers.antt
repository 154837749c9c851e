use mathlib.Core.List.{[], ◌∷◌}
use lib.ListN.{length-set}
use Rattle.rules.specs.Areas.{put, put_one, put_put, put_length}
use mathlib.Core.Path.{ap, ◌∙◌}
use Prim.Native.Nat.{◌+◌, ◌*◌}
use lib.ListN.{length, set}
use borrow.Author.Rules.{rules}
use Rattle.areas.proofs.store.store_word.Goals as goal

pub put_letters-requires : goal.put_letters-requires
put_letters-requires c = simp length-set (search rules)

pub shape_of-store : goal.shape_of-store
shape_of-store c =
    let a = c.args in
    let e = ap length c.put_letters.ensures ∙ put_length (a.j * a.width + 1) a.w.now
    (set a.store.now (a.j * a.width) (length a.w.now)) (simp length-set (search rules)) in
    e ∙ simp length-set

pub returns : goal.returns
returns c = let a = c.args in
    let p = a.j * a.width in
    c.put_letters.ensures
    ∙ ap (put (p + 1) a.w.now) (put_one a.store.now p (length a.w.now) (search rules))
    ∙ put_put p (length a.w.now ∷ []) a.w.now a.store.now (search rules)
