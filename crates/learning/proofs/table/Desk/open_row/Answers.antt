use Rattle.std.proofs.Common.{◌≡◌, ℕ, ◌+◌, ◌*◌, ◌<◌, length, refl, ap, ◌∙◌, arith}
use Rattle.rules.specs.Seek.{seek_passes, seek_hits, seek_ends}
use Rattle.learning.specs.Grid.{open_in, is_open, place_none}
use Rattle.learning.proofs.table.Desk.open_row.Goals as goal

pub loop-r-init : goal.loop-r-init
unfolding open_in
loop-r-init c = refl

pub returns-then-is_none : goal.returns-then-is_none
returns-then-is_none c =
    let d = c.args.self.now in
    let l = c.loop-r in
    let here : l.r < 1 + length d.s * d.machine.k = omega (arith, ap (λ (i : ℕ). i * d.machine.k) c.len.ensures) in (
      l.invariant ∙ seek_hits (is_open 59 c.args.table.now d.rows (length d.s) (length d.columns)) (1 + length d.s * d.machine.k) l.r here
          (place_none _ _ _ c.state_of.ensures _ c.is_none.ensures ∙ c.if-is_none.true),
      here,
    )

pub loop-r-preserved : goal.loop-r-preserved
loop-r-preserved c =
    let d = c.args.self.now in
    let l = c.loop-r in
    l.invariant ∙ seek_passes (is_open 59 c.args.table.now d.rows (length d.s) (length d.columns)) (1 + length d.s * d.machine.k) l.r
    (omega (arith, ap (λ (i : ℕ). i * d.machine.k) c.len.ensures)) (place_none _ _ _ c.state_of.ensures _ c.is_none.ensures ∙ c.if-is_none.false)

pub returns : goal.returns
returns c =
    let d = c.args.self.now in
    let l = c.loop-r in
    let end : l.r ≡ 1 + length d.s * d.machine.k = omega (arith, ap (λ (i : ℕ). i * d.machine.k) c.len.ensures) in
    l.invariant ∙ seek_ends (is_open 59 c.args.table.now d.rows (length d.s) (length d.columns)) (1 + length d.s * d.machine.k) l.r (omega arith) ∙ end
