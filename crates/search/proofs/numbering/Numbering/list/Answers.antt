use Rattle.std.proofs.Common.{◌≡◌, ◌<◌, ◌≤◌, ℕ, List, length, get_or, take, replicate, ◌∙◌, arith, ◌+◌}
use Rattle.std.proofs.lemmas.List.{length-replicate}
use Rattle.std.proofs.Math.Path.{ap₂}
use Rattle.rules.specs.Areas.{put_part}
use Rattle.rules.specs.Search.{starts}
use Rattle.search.specs.Listing.{listed_more}
use Rattle.search.proofs.numbering.Numbering.list.Goals as goal

pub loop-place-preserved : goal.loop-place-preserved
loop-place-preserved c =
    let q = c.args.queue.now in
    let p = c.loop-place.place in
    let there : p < length q = omega (arith, c.loop-place-test.true, c.len-place-end.ensures.length) in
    let w = (get_or q p (starts 0)).word in
    let room : 0 + length w ≤ length (replicate {A = ℕ} 48 0) = rw length-replicate (omega (arith, c.len-place-end.ensures.short p there, c.requires.few)) in
    let z : 0 + length w ≡ length w = omega arith in
    let word : take c.spell-end.result c.spell-end.new.into ≡ w =
    ap₂ (λ (n : ℕ) (l : List ℕ). take n l) (c.spell-end.ensures.value ∙ z) c.spell-end.ensures.into_after ∙ put_part 0 w (replicate 48 0) room in
    c.push.ensures ∙ rw (c.loop-place.invariant, c.node.ensures, word) (listed_more q p there)
