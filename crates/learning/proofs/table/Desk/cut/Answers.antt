use Rattle.std.proofs.Common.{◌≡◌, ℕ, ◌+◌, ◌-◌, ◌++◌, [], not, length, take, drop, get_or, refl, sym, ap, ap₂, ◌∙◌, arith, eq-eqb}
use borrow.Author.Tests.{ne_eqb}
use Rattle.rules.specs.Search.{walk}
use Rattle.rules.specs.Seek.{seek_starts, seek_passes, seek_hits, seek_ends}
use Rattle.machine.specs.Linked.{linked}
use Rattle.learning.specs.Desks.{asked}
use Rattle.learning.specs.Cut.{swapped_in, differs, cut_in, walk_next}
use Rattle.learning.proofs.table.Desk.cut.Goals as goal
use Rattle.learning.proofs.table.Desk.cut.Goals.{After-next-state, After-swapped-there}

-- the conjecture goes on by the turn's letter
moved : (c : After-next-state) → let a = c.args in c.next-state.result ≡ walk (linked a.model.now).next 0 (take (c.loop-i.i + 1) a.w.now)
moved c =
    let a = c.args in
    let l = c.loop-i in
    c.next-state.ensures.value ∙ ap₂ (linked a.model.now).next l.invariant.walked c.from.ensures ∙ sym (walk_next (linked a.model.now).next a.w.now l.i (omega arith))

-- so the answer there is the rule's
on : (c : After-swapped-there) → let a = c.args in c.swapped-there.result ≡ swapped_in (asked a.self.now) a.self.now.s (linked a.model.now).next a.w.now (c.loop-i.i + 1)
unfolding swapped_in
on c =
    let a = c.args in
    let l = c.loop-i in
    let go : c.next-state.result ≡ walk (linked a.model.now).next 0 (take (l.i + 1) a.w.now) =
    c.next-state.ensures.value ∙ ap₂ (linked a.model.now).next l.invariant.walked c.from.ensures ∙ sym (walk_next (linked a.model.now).next a.w.now l.i (omega arith)) in
    c.swapped-there.ensures ∙ ap (λ (j : ℕ). asked a.self.now (get_or a.self.now.s j [] ++ drop (l.i + 1) a.w.now)) go

pub loop-i-init : goal.loop-i-init
unfolding cut_in swapped_in
loop-i-init c =
    let a = c.args in record {
      low = a.model.now.steps.some;
      walked = refl;
      here = c.swapped-here.ensures;
      sought = sym (seek_starts (differs (asked a.self.now) a.self.now.s (linked a.model.now).next a.w.now) (length a.w.now - 1));
    }

pub returns-then-here-there : goal.returns-then-here-there
returns-then-here-there c =
    let a = c.args in
    let l = c.loop-i in
    sym (l.invariant.sought ∙ seek_hits (differs (asked a.self.now) a.self.now.s (linked a.model.now).next a.w.now) (length a.w.now - 1) l.i (omega arith)
    (ap not (ne_eqb _ _ (λ e. c.if-here-there.true (l.invariant.here ∙ e ∙ sym (on (goal.at.returns-then-here-there c).After-swapped-there))))))

pub loop-i-preserved : goal.loop-i-preserved
loop-i-preserved c =
    let a = c.args in
    let l = c.loop-i in
    let there = on (goal.at.loop-i-preserved c).After-swapped-there in record {
      low = c.next-state.ensures.there;
      walked = moved (goal.at.loop-i-preserved c).After-next-state;
      here = there;
      sought =
          l.invariant.sought
          ∙ seek_passes (differs (asked a.self.now) a.self.now.s (linked a.model.now).next a.w.now) (length a.w.now - 1) l.i (omega arith)
          (ap not (eq-eqb _ _ (sym l.invariant.here ∙ c.if-here-there.false ∙ there)));
    }

pub returns : goal.returns
returns c =
    let a = c.args in
    let l = c.loop-i in
    let end : l.i ≡ length a.w.now - 1 = omega arith in
    sym (l.invariant.sought ∙ seek_ends (differs (asked a.self.now) a.self.now.s (linked a.model.now).next a.w.now) (length a.w.now - 1) l.i (omega arith) ∙ end)
