use Rattle.std.proofs.Common.{◌≡◌, ◌-◌}
use Rattle.sheets.specs.Proofs.{word_records}
use Rattle.sheets.specs.Rests.{follows}
use Rattle.sheets.proofs.proofs.Due.words.Given as goal

-- the records come out as those that are left do
abbrev pub invariant-loop : goal.invariant-loop
invariant-loop l =
    follows (word_records l.self.mark l.self.low l.self.high l.self.k l.count l.bytes)
    ≡ follows (word_records l.self.mark l.self.low l.self.high l.self.k (l.count - l.counter) l.rest)
