use Rattle.std.proofs.Common.{rules, sym, arith}
use Rattle.std.proofs.lemmas.Grind.{common_steps}
use Rattle.std.specs.Prelude.{◌≡◌, true, ◌&&◌}
use Rattle.rules.specs.Answer.{within}
use Rattle.rules.specs.Tests.{and_split}
use Rattle.sheets.specs.MachineSteps.{body_unsized}
use Rattle.sheets.specs.Rests.{body_stop, body_over, body_done}
use Rattle.sheets.proofs.machines.body.Goals as goal

pub returns-then-not-sized : goal.returns-then-not-sized
returns-then-not-sized c = sym (body_unsized c.args.size.n c.args.size.k _ (search rules))

pub returns-in_err-rest : goal.returns-in_err-rest
returns-in_err-rest c =
    let a = c.args.size in
    let t : (within 1 48 a.n && within 1 12 a.k) ≡ true = search rules in
    let s = and_split (within 1 48 a.n) (within 1 12 a.k) t in
    let h = body_stop a.n a.k _ s.0 s.1 _ c.in_err-rest.ensures in
    grind (arith, common_steps)

pub returns-then-not-is_empty : goal.returns-then-not-is_empty
returns-then-not-is_empty c =
    let a = c.args.size in
    let t : (within 1 48 a.n && within 1 12 a.k) ≡ true = search rules in
    let s = and_split (within 1 48 a.n) (within 1 12 a.k) t in
    sym (body_over a.n a.k _ s.0 s.1 c.in_ok-rest.rest.now c.in_ok-rest.ensures (search rules))

pub returns : goal.returns
returns c =
    let a = c.args.size in
    let t : (within 1 48 a.n && within 1 12 a.k) ≡ true = search rules in
    let s = and_split (within 1 48 a.n) (within 1 12 a.k) t in
    sym (body_done a.n a.k _ s.0 s.1 c.in_ok-rest.rest.now c.in_ok-rest.ensures (search rules))
