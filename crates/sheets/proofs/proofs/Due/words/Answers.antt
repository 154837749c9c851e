use Rattle.std.proofs.Common.{◌≡◌, ◌-◌, ◌+◌, sym, ◌∙◌, arith}
use Rattle.std.proofs.lemmas.Grind.{common_steps}
use Rattle.sheets.specs.Proofs.{word_records}
use Rattle.sheets.specs.Rests.{words_stop, words_go}
use Rattle.sheets.proofs.proofs.Due.words.Goals as goal

pub returns-in_err-rest : goal.returns-in_err-rest
returns-in_err-rest c =
    let s = c.args.self.now in
    let h = c.loop.invariant ∙ words_stop _ (c.args.count - c.loop.counter) (omega arith) s.mark s.low s.high s.k _ c.in_err-rest.ensures in
    grind (arith, common_steps)

pub loop-preserved : goal.loop-preserved
loop-preserved c =
    let s = c.args.self.now in
    let l = c.loop in
    let left : c.args.count - l.counter - 1 ≡ c.args.count - (l.counter + 1) = omega arith in
    rw (← left) (l.invariant ∙ words_go l.rest.now (c.args.count - l.counter) (omega arith) s.mark s.low s.high s.k _ c.in_ok-rest.ensures)

pub returns : goal.returns
unfolding word_records
returns c =
    let z : c.args.count - c.loop.counter ≡ 0 = omega arith in
    sym (rw z at c.loop.invariant)
