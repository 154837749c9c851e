use Rattle.std.proofs.Common.{rules, sym, ◌∙◌}
use Rattle.machine.specs.Linked.{linked}
use Rattle.machine.specs.LentLaws.{last_step, last_ends}
use Rattle.machine.proofs.lent.Lent.last_from.Goals as goal

pub loop-a-preserved : goal.loop-a-preserved
loop-a-preserved c =
    let a = c.args in
    let l = c.loop-a in record {
      state = c.next-state.ensures.there;
      last =
          rw
          (c.next-state.ensures.value, c.output-output.ensures, c.from.ensures, c.from-in-loop-a.ensures)
          (l.invariant.last ∙ last_step (linked a.self.now) l.output l.state a.w.now l.a-index (search rules));
    }

pub returns : goal.returns
returns c =
    let a = c.args in
    let l = c.loop-a in
    sym (l.invariant.last ∙ last_ends (linked a.self.now) l.output l.state a.w.now l.a-index (search rules))
