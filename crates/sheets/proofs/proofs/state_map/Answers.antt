use Rattle.std.proofs.Common.{rules, sym, arith}
use Rattle.std.specs.Prelude.{true, false}
use Rattle.std.proofs.lemmas.Grind.{common_steps}
use Rattle.sheets.specs.Rests.{from_on, map_stop, map_lacks, map_is}
use Rattle.sheets.proofs.proofs.state_map.Goals as goal

pub returns-in_err-states : goal.returns-in_err-states
returns-in_err-states c = let h = map_stop c.args.m c.args.n _ _ c.in_err-states.ensures in grind (arith, common_steps)

pub returns-then-states-n : goal.returns-then-states-n
returns-then-states-n c = sym (map_lacks c.args.m c.args.n _ _ c.in_ok-states.ensures c.if-states-n.true)

pub returns-then-not-map_bytes : goal.returns-then-not-map_bytes
returns-then-not-map_bytes c = sym (map_is c.args.m c.args.n _ _ c.in_ok-states.ensures false c.if-states-n.false (search rules))

pub returns : goal.returns
returns c =
    rw (from_on c.args.n c.in_ok-states.states.now) (sym (map_is c.args.m c.args.n _ _ c.in_ok-states.ensures true c.if-states-n.false (search rules)))
