use Rattle.std.proofs.Common.{◌≡◌, List, ℕ, ◌+◌, ◌*◌, ◌/◌, ◌%◌, ◌<◌, map, length, get_or, refl, sym, ap, ◌∙◌, rules, arith}
use Rattle.rules.specs.Areas.{put}
use Rattle.rules.specs.Table.{from}
use Rattle.rules.specs.FromLaws.{put_from_none, put_from_more}
use Rattle.learning.specs.Grid.{guess_in, place_some}
use Rattle.learning.specs.Laid.{laid_size}
use Rattle.learning.specs.Desk.{desk_there, desk_conjecture}
use Rattle.learning.proofs.table.Desk.conjecture.Goals as goal
use Rattle.learning.proofs.table.Desk.conjecture.Goals.{After-state_of}

pub loop-i-init : goal.loop-i-init
loop-i-init c =
    let d = c.args.self.now in record {
      size = refl;
      words = put_from_none (guess_in 59 c.args.table.now d.rows (length d.s) d.machine.k (length d.columns)) c.args.model.now;
    }

-- the row is one of the table
row : (c : After-state_of) → c.loop-i.i < length c.args.self.now.s * c.args.self.now.machine.k
row c = omega (arith, ap (λ (i : ℕ). i * c.args.self.now.machine.k) c.len.ensures)

pub unwrap-next-requires : goal.unwrap-next-requires
unwrap-next-requires c =
    let d = c.args.self.now in
    place_some _ _ _ c.state_of.ensures (desk_there d.laid c.requires.held c.requires.shut c.loop-i.i (row c))

pub loop-i-preserved : goal.loop-i-preserved
unfolding guess_in
loop-i-preserved c =
    let d = c.args.self.now in
    let l = c.loop-i in
    let found = rw c.unwrap-next.ensures at c.state_of.ensures in record {
      size = search rules;
      words =
          put_from_more (guess_in 59 c.args.table.now d.rows (length d.s) d.machine.k (length d.columns)) l.i c.word.result l.model c.args.model.now (omega (arith, row (goal.at.loop-i-preserved c).After-state_of, laid_size d.laid)) l.invariant.words
          (c.word.ensures ∙ ap (λ (x : ℕ). 256 * x + get_or c.args.table.now (get_or d.rows (l.i / d.machine.k) 0 * 59 + l.i % d.machine.k) 0) (sym found.0));
    }

pub returns : goal.returns
returns c =
    let d = c.args.self.now in
    let l = c.loop-i in
    let end : l.i ≡ length d.s * d.machine.k = omega (arith, ap (λ (i : ℕ). i * d.machine.k) c.len.ensures) in
    l.invariant.words ∙ ap (λ (x : ℕ). put 0 (map (guess_in 59 c.args.table.now d.rows (length d.s) d.machine.k (length d.columns)) (from 0 x)) c.args.model.now) end
    ∙ ap (λ (x : List ℕ). put 0 x c.args.model.now) (desk_conjecture d.laid c.requires.held)
