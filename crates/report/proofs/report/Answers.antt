use Rattle.std.proofs.Common.{◌*◌, ◌≤◌, refl, sym, rules, length-take-le}
use Rattle.rules.specs.Areas.{zeros}
use Rattle.report.specs.Reading.{refused_says, read_says, small_done}
use Rattle.report.proofs.Laws.{sized}
use Rattle.report.proofs.report.Goals as goal
use Rattle.report.proofs.report.Goals.{In-Ok}

-- n and k are in their ranges
known : (c : In-Ok) → (c.in-Ok.size.n * c.in-Ok.size.k ≤ 576) × (1 ≤ c.in-Ok.size.k) × (c.in-Ok.size.k ≤ 12)
unfolding zeros
known c = sized _ _ _ c.in-Ok.ensures

pub returns-in-Err : goal.returns-in-Err
unfolding zeros
returns-in-Err c = rw (refused_says _ _ _ c.in-Err.ensures _ refl) c.put_refusal.ensures

pub overflow_mul-size : goal.overflow_mul-size
overflow_mul-size c = let z = known c in search rules

pub slice_bounds-words-end : goal.slice_bounds-words-end
slice_bounds-words-end c = let z = known c in search rules

pub slice_bounds-learn-end : goal.slice_bounds-learn-end
slice_bounds-learn-end c = let z = known (goal.at.slice_bounds-learn-end c).In-Ok in sym (length-take-le _ _ (search rules))

pub put_learnt-requires : goal.put_learnt-requires
put_learnt-requires c =
    let z = known (goal.at.put_learnt-requires c).In-Ok in
    (search rules, search rules, z.1, z.2, small_done _ _ _ _ _ _ _ _ c.in-Ok-learn.ensures)

pub returns-in-Ok-learn : goal.returns-in-Ok-learn
unfolding zeros
returns-in-Ok-learn c = rw (read_says _ _ _ c.in-Ok.ensures _ _ refl c.in-Ok-learn.ensures) c.put_learnt.ensures

pub returns-in-Err-learn : goal.returns-in-Err-learn
unfolding zeros
returns-in-Err-learn c = rw (read_says _ _ _ c.in-Ok.ensures _ _ refl c.in-Err-learn.ensures) c.put_refusal-in-Err-learn.ensures
