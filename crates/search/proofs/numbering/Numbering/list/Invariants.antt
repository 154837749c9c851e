use Rattle.std.proofs.Common.{◌≡◌, take}
use Rattle.search.specs.Listing.{listed}
use Rattle.search.proofs.numbering.Numbering.list.Given as goal

-- the places before the turn's are listed
abbrev pub invariant-loop-place : goal.invariant-loop-place
invariant-loop-place l = l.self ≡ listed (take l.place l.queue)
