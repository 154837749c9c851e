use Rattle.std.proofs.Common.{length, sym, ap, ◌∙◌, arith}
use Rattle.sheets.specs.ProofAnswers.{numbers_of, read_of}
use Rattle.sheets.specs.ProofParts.{aw_place}
use Rattle.sheets.specs.Places.{AwFound, aw_refused, aw_none, aw_found}
use Rattle.handheld.proofs.trachuliem_aw_record.Goals as goal
use Rattle.handheld.proofs.trachuliem_aw_record.Goals.{Then-state-m}

-- the record lies in the sheet
there : (c : Then-state-m) → let a = c.args in AwFound a.sheet.now (numbers_of c.in-Ok.field-0) a.state (aw_place a.sheet.now a.state)
there c = let a = c.args in aw_found a.sheet.now (numbers_of c.in-Ok.field-0) a.state (sym c.in-Ok.ensures) c.if-state-m.true

pub returns-in_default-2 : goal.returns-in_default-2
returns-in_default-2 c =
    let z = aw_refused c.args.sheet.now c.args.state _ (sym c.read.ensures ∙ ap read_of c.in_default.is) in
    (sym z.1, ap length c.aw_record-length.ensures.result_value)

pub returns-in_default : goal.returns-in_default
returns-in_default c =
    let z = aw_none c.args.sheet.now (numbers_of c.in-Ok.field-0) c.args.state (sym c.in-Ok.ensures) c.if-state-m.false in
    (sym z.1, ap length c.aw_record-length.ensures.result_value)

pub overflow_mul-k : goal.overflow_mul-k
overflow_mul-k c = omega (arith, (there c).ranges.k_high)

pub overflow_add-k : goal.overflow_add-k
overflow_add-k c = omega (arith, (there c).ranges.k_high)

pub overflow_mul-m : goal.overflow_mul-m
overflow_mul-m c = omega (arith, (there c).start)

pub overflow_add-m : goal.overflow_add-m
overflow_add-m c = omega (arith, (there c).start)

pub record_place-place-requires : goal.record_place-place-requires
record_place-place-requires c = let t = there c in omega (arith, t.is, t.within)

pub returns-in-Ok : goal.returns-in-Ok
returns-in-Ok c = (c.record_place-place.ensures ∙ (there (goal.at.returns-in-Ok c).Then-state-m).is, ap length c.aw_record-length.ensures.result_value)
