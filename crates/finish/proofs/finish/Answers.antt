use Rattle.std.proofs.Common.{◌≡◌, ◌≤◌, ◌+◌, ◌++◌, ℕ, List, length, sym, ap, ◌∙◌, arith}
use Rattle.rules.specs.Words.{Word}
use Rattle.rules.specs.Areas.{put}
use Rattle.rules.specs.Machine.{lent}
use Rattle.rules.specs.Numbering.{order, reaching_words, renumbered, state_map}
use Rattle.rules.specs.Sheets.{SM, AW, words_bytes}
use Rattle.machine.specs.Linked.{linked}
use Rattle.finish.specs.Sheet.{model_bytes}
use Rattle.finish.proofs.Sheet.{map_length, sheet_length, sheet_written}
use Rattle.finish.proofs.finish.Goals as goal

pub returns : goal.returns
unfolding lent renumbered
returns g c =
    let a = c.args in
    let M = linked a.machine.now in
    let C = linked a.model.now in
    let k = a.machine.now.k in
    let E = a.columns.now in
    let same = c.requires.beside.same in
    let count : c.len.result ≡ length (order k C) = c.len.ensures.states ∙ ap (λ l. length l.states) c.number.ensures ∙ ap (λ k. length (order k C)) same in
    let reaching : c.words.result.now ≡ reaching_words k C = c.words.ensures ∙ ap (λ l. l.words) c.number.ensures ∙ ap (λ k. reaching_words k C) same in
    let rows = c.put_rows-rows_end.result in
    let words = c.put_records-words_end.result in
    let columns = c.put_records-columns_end.result in
    let rows_end : rows ≡ 6 + length (model_bytes k C) = c.put_rows-rows_end.ensures.value ∙ ap (λ k. 6 + length (model_bytes k C)) same in
    let words_end : words ≡ rows + length (words_bytes AW (reaching_words k C)) =
    c.put_records-words_end.ensures.value ∙ ap (λ (ws : List Word). rows + length (words_bytes AW ws)) reaching in
    let fits : columns + length (SM ++ state_map k M C) ≤ length a.sheet.now =
    omega (
      arith,
      map_length k M C,
      c.put_records-columns_end.ensures.value,
      c.put_records-columns_end.ensures.few,
      c.put_records-words_end.ensures.value,
      c.put_records-words_end.ensures.few,
      ap length c.words.ensures,
      c.len.ensures.words,
      c.len.ensures.few,
      c.put_rows-rows_end.ensures.value,
      c.put_rows-rows_end.ensures.few,
      c.requires.beside.n_high,
      c.requires.room,
    ) in record {
      value = c.put_state_map.ensures.value ∙ ap (λ (x : ℕ). columns + x) (sym (map_length k M C))
          ∙ sheet_length k M C E a.sheet.now rows words columns rows_end words_end c.put_records-columns_end.ensures.value fits;
      sheet_after = sheet_written k M C E a.sheet.now rows words columns rows_end words_end c.put_records-columns_end.ensures.value fits
          c.len.result c.len-2.result c.words.result.now c.put_head.new.sheet c.put_rows-rows_end.new.sheet c.put_records-words_end.new.sheet
          c.put_records-columns_end.new.sheet c.put_state_map.new.sheet count (sym c.len-2.ensures) reaching c.put_head.ensures
          (c.put_rows-rows_end.ensures.sheet_after ∙ ap (λ k. put 6 (model_bytes k C) c.put_head.new.sheet) same)
          c.put_records-words_end.ensures.sheet_after c.put_records-columns_end.ensures.sheet_after c.put_state_map.ensures.sheet_after;
    }
