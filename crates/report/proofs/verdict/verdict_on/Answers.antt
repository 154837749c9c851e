use Rattle.std.proofs.Common.{◌≡◌, Ok, ◌*◌, ◌≤◌, refl, sym, ap, ◌∙◌, rules, arith, length-take-le}
use Rattle.std.proofs.lemmas.Grind.{common_steps}
use Rattle.rules.specs.Areas.{zeros}
use Rattle.machine.specs.Refusals.{number}
use Rattle.machine.specs.Answers.{answered}
use Rattle.sheets.specs.MachineAnswers.{read_of}
use Rattle.report.specs.declared.verdict.Rejection.TheVariants as sheet
use Rattle.report.specs.DeskLaws.{machine_refused_is, proof_judged, accepted_long}
use Rattle.report.proofs.Laws.{sized, turned, unturned}
use Rattle.report.proofs.verdict.verdict_on.Goals as goal
use Rattle.report.proofs.verdict.verdict_on.Goals.{In_ok-n, In_ok-map_err}

-- the machine that was read
was_read : (c : In_ok-n) → c.read.result ≡ Ok c.in_ok-n.field-0
was_read c = unturned _ c.read.result c.map_err.result c.map_err.ensures.cases c.in_ok-n.field-0 c.in_ok-n.was

small : (c : In_ok-n) → c.in_ok-n.field-0.n * c.in_ok-n.field-0.k ≤ 576
unfolding zeros
small c = (sized _ _ _ (rw (was_read c) at c.read.ensures)).0

pub returns-in_err-n : goal.returns-in_err-n
unfolding zeros
returns-in_err-n c =
    let k = turned _ c.read.result c.map_err.result c.map_err.ensures.cases c.in_err-n.field-0.0 c.in_err-n.was in
    let same : c.in_err-n.field-0.0 ≡ sheet.Machine k.0 = k.2 in
    rw (machine_refused_is _ _ _ _ c.read.ensures (number k.0) (ap read_of k.1)) (grind (arith, common_steps, same))

pub overflow_mul-size : goal.overflow_mul-size
overflow_mul-size c = let z = small c in search rules

pub slice_bounds-words-end : goal.slice_bounds-words-end
slice_bounds-words-end c = let z = small c in search rules

pub slice_bounds-check-end : goal.slice_bounds-check-end
slice_bounds-check-end c = let z = small (goal.at.slice_bounds-check-end c).In_ok-n in sym (length-take-le _ _ (search rules))

-- the sheet that was accepted
was_sound : (c : In_ok-map_err) → c.check.result ≡ Ok c.in_ok-map_err.field-0
was_sound c = unturned _ c.check.result c.map_err-2.result c.map_err-2.ensures.cases c.in_ok-map_err.field-0 c.in_ok-map_err.was

pub returns-in_err-map_err : goal.returns-in_err-map_err
unfolding zeros
returns-in_err-map_err c =
    let e = (goal.at.returns-in_err-map_err c).In_ok-n in
    let k = turned _ c.check.result c.map_err-2.result c.map_err-2.ensures.cases c.in_err-map_err.field-0.0 c.in_err-map_err.was in
    let same : c.in_err-map_err.field-0.0 ≡ sheet.Proof k.0 = k.2 in
    rw (proof_judged _ _ _ _ c.read.ensures _ _ (ap read_of (was_read e)) (sym (ap answered k.1) ∙ c.check.ensures)) (grind (arith, common_steps, same))

pub bounds-proof-2 : goal.bounds-proof-2
bounds-proof-2 c =
    let l = accepted_long _ _ _ _ (sym c.check.ensures ∙ ap answered (was_sound (goal.at.bounds-proof-2 c).In_ok-map_err)) in
    search rules

pub returns : goal.returns
unfolding zeros
returns c =
    let e = (goal.at.returns c).In_ok-n in
    let s = was_sound (goal.at.returns c).In_ok-map_err in
    rw (c.from.ensures, proof_judged _ _ _ _ c.read.ensures _ _ (ap read_of (was_read e)) (sym (ap answered s) ∙ c.check.ensures)) refl
