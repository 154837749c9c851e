use Rattle.std.proofs.Common.{◌≡◌, ◌-◌}
use Rattle.sheets.specs.ProofParts.{record_place}
use Rattle.sheets.proofs.proofs.record_place.Given as goal

-- the records that are left lead on from here
abbrev pub invariant-loop : goal.invariant-loop
invariant-loop l = record_place l.bytes l.start l.j ≡ record_place l.bytes l.place (l.j - l.counter)
