use Rattle.std.proofs.Common.{rules, ◌≡◌, ◌+◌, [], get_or, sym, ap, ◌∙◌, arith}
use Rattle.rules.specs.Search.{walk}
use Rattle.rules.specs.Tests.{is_true, is_false}
use Rattle.machine.specs.Linked.{linked}
use Rattle.sheets.specs.Held.{said, Here, here_word, read_states, read_letters, reaching_start, reaching_here}
use Rattle.sheets.specs.ProofParts.{reaching_place}
use Rattle.sheets.proofs.CheckerSteps.{reaches_from, begins, passes, fails, ends}
use Rattle.sheets.proofs.checker.Sheet.reaches_all.Goals as goal

pub reaching-place-requires : goal.reaching-place-requires
reaching-place-requires c =
    let s = c.args.self.now in
    (omega (arith, read_states s.held _ s.read, s.held.sound.n_high), omega (arith, read_letters s.held _ s.read, s.held.sound.k_high))

pub loop-state-init : goal.loop-state-init
loop-state-init c =
    let s = c.args.self.now in record {
      place = c.reaching-place.ensures ∙ rw (read_states s.held _ s.read, read_letters s.held _ s.read) (reaching_start s.held);
      left = begins _ _;
    }

pub word_at-w-requires : goal.word_at-w-requires
word_at-w-requires c =
    let h = reaching_here c.args.self.now.held c.loop-state.state c.loop-state-test.true in
    rw c.loop-state.invariant.place (omega (arith, h.within, h.size))

pub state_after-requires : goal.state_after-requires
state_after-requires c =
    let h = reaching_here c.args.self.now.held c.loop-state.state c.loop-state-test.true in
    rw (c.word_at-w.ensures.word, c.loop-state.invariant.place, here_word h) h.below

pub returns-then-state_after-state : goal.returns-then-state_after-state
returns-then-state_after-state c =
    let s = c.args.self.now in
    let l = c.loop-state in
    let h : Here s.bytes.now s.model.k (get_or (said s.bytes.now).reaching l.state []) l.place (reaching_place (said s.bytes.now) (l.state + 1)) =
    rw l.invariant.place (reaching_here s.held l.state c.loop-state-test.true) in
    let led : c.state_after.result ≡ walk (linked s.model).next 0 (get_or (said s.bytes.now).reaching l.state []) =
    c.state_after.ensures ∙ ap (walk (linked s.model).next 0) (c.word_at-w.ensures.word ∙ here_word h) in
    sym (reaches_from s.held _ ∙ l.invariant.left ∙ fails _ _ _ c.loop-state-test.true (is_false _ _ (λ q. c.if-state_after-state.true (led ∙ q))))

pub overflow_add-place-in-loop-state : goal.overflow_add-place-in-loop-state
overflow_add-place-in-loop-state c =
    let s = c.args.self.now in
    let l = c.loop-state in
    let h : Here s.bytes.now s.model.k (get_or (said s.bytes.now).reaching l.state []) l.place (reaching_place (said s.bytes.now) (l.state + 1)) =
    rw l.invariant.place (reaching_here s.held l.state c.loop-state-test.true) in
    let w = h.within in
    rw (c.word_at-w.ensures.size, h.size) (search rules)

pub loop-state-preserved : goal.loop-state-preserved
loop-state-preserved c =
    let s = c.args.self.now in
    let l = c.loop-state in
    let h : Here s.bytes.now s.model.k (get_or (said s.bytes.now).reaching l.state []) l.place (reaching_place (said s.bytes.now) (l.state + 1)) =
    rw l.invariant.place (reaching_here s.held l.state c.loop-state-test.true) in
    let led : c.state_after.result ≡ walk (linked s.model).next 0 (get_or (said s.bytes.now).reaching l.state []) =
    c.state_after.ensures ∙ ap (walk (linked s.model).next 0) (c.word_at-w.ensures.word ∙ here_word h) in record {
      place = omega (arith, h.after, h.size, c.word_at-w.ensures.size);
      left = l.invariant.left ∙ passes _ _ _ c.loop-state-test.true (is_true _ _ (sym led ∙ c.if-state_after-state.false));
    }

pub returns : goal.returns
returns c = sym (reaches_from c.args.self.now.held _ ∙ c.loop-state.invariant.left ∙ ends _ _ _ c.loop-state-test.false)
