use Rattle.std.proofs.Common.{◌≡◌, ◌+◌, ◌*◌, sym, arith}
use Rattle.rules.specs.Areas.{put_none}
use Rattle.sheets.specs.Standing.{pair_words, set_pairs_more}
use Rattle.sheets.proofs.machines.set_pairs.Goals as goal

pub loop-i-init : goal.loop-i-init
unfolding pair_words
loop-i-init c = sym (put_none c.args.from c.args.area.now)

pub loop-i-preserved : goal.loop-i-preserved
loop-i-preserved c =
    let a = c.args in
    let l = c.loop-i in
    let z : 0 + 2 * l.i ≡ 2 * l.i = omega arith in
    rw (c.word.ensures, c.from.ensures, l.invariant) (rw z at (set_pairs_more 0 a.from l.i a.pairs.now a.area.now (omega arith)))
