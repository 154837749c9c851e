use Rattle.std.proofs.Common.{sym, ap, ◌∙◌, arith}
use Rattle.std.proofs.lemmas.Grind.{common_steps}
use Rattle.rules.specs.Answer.{gives}
use Rattle.sheets.specs.ProofParts.{header}
use Rattle.sheets.specs.ProofSteps.{header_given, read_header, read_body, read_counts}
use Rattle.sheets.specs.Rests.{from_on}
use Rattle.sheets.specs.WordSteps.{refused_given}
use Rattle.sheets.proofs.proofs.read.Goals as goal

pub returns-in_err-counts : goal.returns-in_err-counts
returns-in_err-counts c =
    let b = c.args.bytes.now in
    let refused = read_header b _ (refused_given (header b) _ (sym c.in_err-counts.ensures)) in
    grind (arith, common_steps)

pub slice_bounds-body-count : goal.slice_bounds-body-count
slice_bounds-body-count c = (header_given c.args.bytes.now _ (sym c.in_ok-counts.ensures)).0.within

pub slice_bounds-body-start : goal.slice_bounds-body-start
slice_bounds-body-start c = (header_given c.args.bytes.now _ (sym c.in_ok-counts.ensures)).0.within

pub returns-in_err-body : goal.returns-in_err-body
returns-in_err-body c =
    let b = c.args.bytes.now in
    let g = header_given b _ (sym c.in_ok-counts.ensures) in
    let refused = read_body b g.0 _ (rw (g.1, from_on 6 b) at (sym c.in_err-body.ensures)) in
    grind (arith, common_steps)

pub returns : goal.returns
returns c =
    let b = c.args.bytes.now in
    let g = header_given b _ (sym c.in_ok-counts.ensures) in
    ap gives g.1 ∙ sym (read_counts b g.0 (rw (g.1, from_on 6 b) at (sym c.in_ok-body.ensures)))
