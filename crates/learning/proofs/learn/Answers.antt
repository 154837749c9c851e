use Rattle.std.proofs.Common.{◌≡◌, ◌≤◌, ◌<◌, length-take-le, get_or-take, drop, List, ℕ, length, get_or, sym, ap, ◌∙◌, arith}
use Rattle.std.proofs.lemmas.Result.{err_from_is_err_and}
use Rattle.learning.proofs.Outcomes.{taken}
use Rattle.learning.proofs.LearnLaws.{zeroed, zeroed_beyond}
use Rattle.learning.proofs.Leaving.{turn_whole, beyond_part, learn_refuses, learn_left}
use Rattle.learning.proofs.learn.Goals as goal
use Rattle.learning.proofs.learn.Goals.{After-zero}

pub returns-in_err-machine : goal.returns-in_err-machine
returns-in_err-machine c =
    let a = c.args in
    let p = err_from_is_err_and c.from_residual.result c.from_residual.ensures.1 in
    rw (p.1, p.2) (learn_refuses a.n a.k a.words.now a.limit a.most a.table.now a.sheet.now _ (sym c.in_err-machine.ensures.refusal))

pub zero-requires : goal.zero-requires
zero-requires c =
    let a = c.args in
    (taken a.n a.k a.words.now a.limit a.most a.table.now a.sheet.now (sym c.in_ok-machine.ensures.refusal)).table_long

-- the area is zero where the table lies, and large enough
blank : (c : After-zero) → (34043 ≤ length c.zero.new.area) × ((i : ℕ) → i < 34043 → get_or c.zero.new.area i 0 ≡ 0)
blank c =
    let a = c.args in
    let t = taken a.n a.k a.words.now a.limit a.most a.table.now a.sheet.now (sym c.in_ok-machine.ensures.refusal) in (
      omega (arith, t.table_long, ap length c.zero.ensures ∙ (zeroed_beyond 34043 a.table.now t.table_long).long),
      λ i h. ap (λ (l : List ℕ). get_or l i 0) c.zero.ensures ∙ zeroed 34043 i a.table.now h,
    )

pub slice_bounds-rounds-end : goal.slice_bounds-rounds-end
slice_bounds-rounds-end c = (blank (goal.at.slice_bounds-rounds-end c).After-zero).0

pub slice_bounds-rounds-end-2 : goal.slice_bounds-rounds-end-2
slice_bounds-rounds-end-2 c = sym (length-take-le 34043 c.zero.new.area (blank (goal.at.slice_bounds-rounds-end-2 c).After-zero).0)

pub rounds-stop-requires-clause-blank : goal.rounds-stop-requires-clause-blank
rounds-stop-requires-clause-blank c =
    let b = blank (goal.at.rounds-stop-requires-clause-blank c).After-zero in (
      omega (arith, length-take-le 34043 c.zero.new.area b.0),
      λ i h. get_or-take 34043 c.zero.new.area i 0 h ∙ b.1 i h,
    )

pub leave-requires : goal.leave-requires
leave-requires c =
    let a = c.args in
    let size = c.rounds-stop.auto.table ∙ length-take-le 34043 c.zero.new.area (blank (goal.at.leave-requires c).After-zero).0 in record {
      turn = turn_whole c.rounds-stop.new.self.laid (drop 34043 c.zero.new.area) size c.rounds-stop.ensures.turn;
      room = (taken a.n a.k a.words.now a.limit a.most a.table.now a.sheet.now (sym c.in_ok-machine.ensures.refusal)).sheet_long;
    }

pub returns : goal.returns
returns c =
    let a = c.args in
    let m = c.in_ok-machine.ensures.machine in
    let x = c.rounds-stop.ensures in
    let large = (blank (goal.at.returns c).After-zero).0 in
    learn_left a.n a.k a.words.now a.limit a.most c.rounds-stop.result.past a.table.now _ _ a.sheet.now (sym c.in_ok-machine.ensures.refusal) c.zero.ensures
    (beyond_part c.rounds-stop.new.table c.zero.new.area (c.rounds-stop.auto.table ∙ length-take-le 34043 c.zero.new.area large) large)
    (rw (m.1, m.2, m.0) at x.stop) (rw (x.machine, m.1, m.2, m.0) at c.leave.ensures)
