use Rattle.handheld.specs.Handheld.{length_of}
use Rattle.sheets.specs.Machines.{Left}
use mathlib.Core.Path.{ap, ◌∙◌}
use Prim.Native.Nat.{ℕ}
use Rattle.handheld.proofs.trachuliem_write_machine.Goals as goal

pub returns : goal.returns
returns c = let e = c.write.ensures in record { value = c.from.ensures ∙ ap (λ (l : Left ℕ). length_of l.answer) e; area_after = ap (λ (l : Left ℕ). l.area) e }
