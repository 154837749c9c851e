use Rattle.std.proofs.Common.{rules, ◌∙◌}
use Rattle.machine.specs.Linked.{linked}
use Rattle.machine.specs.LentLaws.{walk_step}
use Rattle.machine.proofs.lent.Lent.state_after.Goals as goal

-- the state that the letter leads to is there, and the rest of the word leads on from it
pub loop-a-preserved : goal.loop-a-preserved
loop-a-preserved c =
    let a = c.args in
    let l = c.loop-a in record {
      state = c.next-state.ensures.there;
      walked = rw (c.next-state.ensures.value, c.from.ensures) (l.invariant.walked ∙ walk_step (linked a.self.now) l.state a.w.now l.a-index (search rules));
    }
