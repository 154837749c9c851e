use Rattle.std.proofs.Common.{◌≡◌, ◌<◌, ◌≤◌, ◌+◌, ◌*◌, ℕ, List, length, take, map, replicate, refl, sym, ap, ◌∙◌, arith, length-set, mul-le-mul}
use Rattle.std.proofs.Math.Path.{ap₂}
use Rattle.rules.specs.Areas.{put}
use Rattle.rules.specs.Table.{from}
use Rattle.rules.specs.FromLaws.{put_from_none, put_from_more}
use Rattle.rules.specs.Numbering.{order, renumbered}
use Rattle.rules.specs.Records.{start_taken}
use Rattle.rules.specs.Sheets.{row_bytes, words_of}
use Rattle.rules.specs.SheetLaws.{rows_most}
use Rattle.machine.specs.Linked.{linked}
use Rattle.machine.specs.LentLaws.{steps_complete}
use Rattle.finish.specs.Sheet.{model_bytes, word_of}
use Rattle.finish.proofs.Sheet.{words_are, words_size, model_length}
use Rattle.finish.proofs.numbered.Numbered.put_rows.Goals as goal
use Rattle.finish.proofs.numbered.Numbered.put_rows.Goals.{After-len-count}

-- as many states as words reach
count_is : (c : After-len-count) → let n = c.args.self.now in c.len-count.result ≡ length (order n.machine.k (linked n.machine))
count_is c = c.len-count.ensures.states ∙ ap (λ l. length l.states) c.args.self.now.listed

-- the words have their room
few : (c : After-len-count) → c.len-count.result * c.args.self.now.machine.k ≤ 576
few c = mul-le-mul {n₁ = c.len-count.result} {m₁ = c.args.self.now.machine.k} {n₂ = 48} {m₂ = 12} c.len-count.ensures.few c.args.self.now.sizes.2

pub loop-i-init : goal.loop-i-init
loop-i-init c =
    let n = c.args.self.now in
    record { size = refl; put = put_from_none (word_of n.machine.k (renumbered n.machine.k (linked n.machine))) (replicate 576 0) }

pub loop-i-preserved : goal.loop-i-preserved
loop-i-preserved c =
    let n = c.args.self.now in
    let l = c.loop-i in
    let there : l.i < 576 = omega (arith, c.loop-i-test.true, few (goal.at.loop-i-preserved c).After-len-count) in record {
      size = simp length-set l.invariant.size;
      put = put_from_more (word_of n.machine.k (renumbered n.machine.k (linked n.machine))) l.i c.word.result l.words (replicate 576 0) there l.invariant.put c.word.ensures;
    }

pub returns : goal.returns
unfolding renumbered
returns c =
    let n = c.args.self.now in
    let k = n.machine.k in
    let M = linked n.machine in
    let whole = steps_complete n.machine.steps in
    let f = word_of k (renumbered k M) in
    let count = count_is (goal.at.returns c).After-len-count in
    let most = rows_most c.len-count.result k c.len-count.ensures.few n.sizes.2 in
    let length_is : length (model_bytes k M) ≡ c.len-count.result * (2 + 2 * k) = model_length k M whole ∙ ap (λ (x : ℕ). x * (2 + 2 * k)) (sym count) in
    let end : c.loop-i.i ≡ c.len-count.result * k = omega (arith, c.loop-i.auto, c.loop-i-test.false) in
    let words : c.loop-i.words ≡ put 0 (words_of 256 k (renumbered k M)) (replicate 576 0) =
    c.loop-i.invariant.put
    ∙ ap (λ (i : ℕ). put 0 (map f (from 0 i)) (replicate 576 0)) (end ∙ ap (λ (x : ℕ). x * k) count)
    ∙ ap (λ (x : List ℕ). put 0 x (replicate 576 0)) (words_are k M whole) in
    let size : length (words_of 256 k (renumbered k M)) ≡ c.len-count.result * k = words_size k M whole ∙ ap (λ (x : ℕ). x * k) (sym count) in
    let taken = start_taken (c.len-count.result * k) (words_of 256 k (renumbered k M)) (replicate 576 0) size (few (goal.at.returns c).After-len-count) in record {
      value = omega (arith, length_is);
      few = omega (arith, length_is, most);
      sheet_after =
          c.put_rows.ensures
          ∙ ap (λ (x : List ℕ). put c.args.at (row_bytes k c.len-count.result (take (c.len-count.result * k) x)) c.args.sheet.now) words
          ∙ ap₂ (λ (r : ℕ) (x : List ℕ). put c.args.at (row_bytes k r x) c.args.sheet.now) count taken;
    }
