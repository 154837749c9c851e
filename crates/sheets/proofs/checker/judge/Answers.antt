use Rattle.std.proofs.Common.{rules, ◌≡◌, sym, arith, length-take-le, length-drop}
use Rattle.std.specs.Prelude.{false, ◌&&◌, eqb}
use Rattle.machine.specs.LentLaws.{sound_steps}
use Rattle.sheets.specs.Rests.{from_on}
use Rattle.sheets.specs.Held.{held, rows_in, columns_at}
use Rattle.sheets.proofs.CheckerSteps.{judge_other}
use Rattle.sheets.proofs.checker.judge.Goals as goal

pub returns-then-counts-machine : goal.returns-then-counts-machine
returns-then-counts-machine c =
    let a = c.args in
    let t : (eqb a.counts.n a.machine.now.n && eqb a.counts.k a.machine.now.k) ≡ false = search rules in
    sym (judge_other _ _ _ _ _ c.requires.read t)

pub slice_bounds-set_rows-count : goal.slice_bounds-set_rows-count
slice_bounds-set_rows-count c = omega (arith, (rows_in _ _ c.requires.read).1)

pub slice_bounds-set_rows-start : goal.slice_bounds-set_rows-start
slice_bounds-set_rows-start c = omega (arith, (rows_in _ _ c.requires.read).1)

pub set_rows-requires : goal.set_rows-requires
set_rows-requires c =
    let r = rows_in _ _ c.requires.read in
    record { k_in_bounds = r.0; k_in_bounds_2 = rw (from_on 6 c.args.bytes.now) (omega (arith, r.1, length-drop 6 c.args.bytes.now)) }

pub overflow_mul-words : goal.overflow_mul-words
overflow_mul-words c = let r = (rows_in _ _ c.requires.read).0 in search rules

pub slice_bounds-words-end : goal.slice_bounds-words-end
slice_bounds-words-end c = omega (arith, (rows_in _ _ c.requires.read).0, c.set_rows.auto.area)

pub slice_bounds-model-end : goal.slice_bounds-model-end
slice_bounds-model-end c = sym (length-take-le _ _ (omega (arith, (rows_in _ _ c.requires.read).0, c.set_rows.auto.area)))

pub reaching-requires : goal.reaching-requires
reaching-requires c =
    let h = held _ _ c.requires.read c.set_rows.new.area (λ i. omega (arith, c.type_inv.bytes i)) in
    (h.sound.n_high, h.sound.k_high)

pub record_place-columns-requires : goal.record_place-columns-requires
record_place-columns-requires c =
    let H = held _ _ c.requires.read c.set_rows.new.area (λ i. omega (arith, c.type_inv.bytes i)) in
    rw c.reaching.ensures (columns_at H c.requires.read).0

pub invariant_of-model : goal.invariant_of-model
invariant_of-model c = rw (c.set_rows.ensures, from_on 6 c.args.bytes.now) (record { steps = sound_steps (held _ _ c.requires.read _ (λ i. omega (arith, c.type_inv.bytes i))).sound })

pub invariant_of-sheet : goal.invariant_of-sheet
invariant_of-sheet c =
    let h = held _ _ c.requires.read _ (λ i. omega (arith, c.type_inv.bytes i)) in record {
      read = c.requires.read;
      held = rw (c.set_rows.ensures, from_on 6 c.args.bytes.now) h;
      at = rw (c.record_place-columns.ensures, c.reaching.ensures) (columns_at h c.requires.read).1;
    }
