use Rattle.std.proofs.Common.{◌≡◌, ◌<◌, ◌≤◌, ◌+◌, ◌++◌, ◌∷◌, [], ℕ, length, get_or, take, refl, sym, ap, ◌∙◌, arith, add-one, take-suc}
use Rattle.rules.specs.Areas.{put_none}
use Rattle.rules.specs.Sheets.{words_bytes}
use Rattle.rules.specs.SheetLaws.{room}
use Rattle.rules.specs.Records.{words_more_length}
use Rattle.finish.specs.Sheet.{mark_of}
use Rattle.finish.proofs.Sheet.{record_put}
use Rattle.finish.proofs.put_records.Goals as goal

pub loop-j-init : goal.loop-j-init
unfolding words_bytes
loop-j-init g c = record { size = refl; end = omega arith; few = omega arith; put = sym (put_none c.args.at c.args.sheet.now) }

pub loop-j-preserved : goal.loop-j-preserved
loop-j-preserved g c =
    let a = c.args in
    let l = c.loop-j in
    let mark = mark_of a.mark.now in
    let front = take l.j a.words.now in
    let w = get_or a.words.now l.j [] in
    let there : l.j < length a.words.now = omega (arith, c.loop-j-test.true, c.len-j-end.ensures) in
    let more : take (l.j + 1) a.words.now ≡ front ++ (w ∷ []) = ap (λ (n : ℕ). take n a.words.now) (add-one l.j) ∙ take-suc a.words.now l.j [] there in
    let size = words_more_length mark refl front w in
    let short : length w < g.row.WIDTH = rw c.word.ensures.word at c.word.ensures.short in
    let fits : a.at + (length (words_bytes mark front) + (3 + length w)) ≤ length a.sheet.now =
    omega (arith, l.invariant.few, short, c.requires.room, room l.j (length a.words.now) (g.row.WIDTH + 2) there) in
    rw more (record {
      size = c.put_record-end.auto.sheet ∙ l.invariant.size;
      end = omega (arith, c.put_record-end.ensures.value, ap length c.word.ensures.word, l.invariant.end, size);
      few = omega (arith, l.invariant.few, size, short);
      put = record_put mark refl a.at front w a.sheet.now c.word.ensures.word l.invariant.end l.invariant.put c.put_record-end.ensures.sheet_after fits;
    })
