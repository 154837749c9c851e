use Rattle.std.proofs.Common.{◌≡◌, drop}
use Rattle.machine.specs.Linked.{linked}
use Rattle.sheets.specs.Checker.{some_word}
use Rattle.sheets.specs.CheckerSteps.{tells}
use Rattle.sheets.specs.Held.{said}
use Rattle.sheets.specs.ProofParts.{column_place}
use Rattle.sheets.proofs.checker.Sheet.told_apart.Given as goal

-- the columns that are left begin here, and tell the states apart if some column does
abbrev pub invariant-loop : goal.invariant-loop
invariant-loop l = record {
  end : l.end ≡ l.self.counts.c;
  place : l.place ≡ column_place (said l.self.bytes.now) l.counter;
  left : some_word (tells (linked l.self.model) l.i l.j) (said l.self.bytes.now).columns
      ≡ some_word (tells (linked l.self.model) l.i l.j) (drop l.counter (said l.self.bytes.now).columns);
}
