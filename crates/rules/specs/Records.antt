-- Records of words, and numbers from a place on: their lengths, one more at the end, and how they are put into a lent area one by one.
use Rattle.std.specs.Prelude.{◌≡◌, get_or, take}
use Rattle.std.proofs.Math.Path.{sym, ap}
use Rattle.std.proofs.Common.{ap₂, ◌∙◌}
use mathlib.Core.List.{List, [], ◌∷◌, ◌++◌, map, append_assoc, append-nil}
use Prim.Native.Nat.{ℕ, suc, ◌+◌, ◌*◌, ◌≤◌, ◌<◌}
use Rattle.std.proofs.Math.Nat.{suc-mul}
use native.Mathlib.Omega.{arith}
use Rattle.std.proofs.Math.ListN.{length, set, length-append}
use Rattle.rules.specs.Words.{Word}
use Rattle.rules.specs.Areas.{put, put_put, put_store, put_none, put_front}
use Rattle.rules.specs.Table.{from}
use Rattle.rules.specs.FromLaws.{map_from_length, map_from_snoc}
use Rattle.rules.specs.Sheets.{PH, word_bytes, words_bytes}

-- ---- records of words
module _ (mark : List ℕ) (two : length mark ≡ 2) where
  pub word_length : (w : Word) → length (word_bytes mark w) ≡ 3 + length w
  unfolding word_bytes
  word_length w = length-append mark (length w ∷ w) ∙ omega arith

  pub words_more : (words : List Word) (w : Word) → words_bytes mark (words ++ (w ∷ [])) ≡ words_bytes mark words ++ word_bytes mark w
  unfolding words_bytes
  words_more [] w = append-nil (word_bytes mark w)
  words_more (x ∷ words) w = ap (λ (l : List ℕ). word_bytes mark x ++ l) (words_more words w) ∙ sym (append_assoc (word_bytes mark x) (words_bytes mark words) (word_bytes mark w))

  -- words of fewer than `width` letters
  pub words_few : (width : ℕ) (words : List Word) → ((j : ℕ) → j < length words → length (get_or words j []) < width) → length (words_bytes mark words) ≤ length words * (width + 2)
  unfolding words_bytes
  words_few width [] short = omega arith
  words_few width (w ∷ words) short =
      let rest = words_few width words (λ j h. short (suc j) (omega arith)) in
      omega (arith, length-append (word_bytes mark w) (words_bytes mark words), word_length w, short 0 (omega arith), suc-mul (length words) (width + 2))

  -- a mark, a length and letters
  pub put_word : (at : ℕ) (w : Word) (area : List ℕ) → at + (3 + length w) ≤ length area → put (at + 3) w (set (put at mark area) (at + 2) (length w)) ≡ put at (word_bytes mark w) area
  unfolding word_bytes
  put_word at w area h =
      let e : at + 2 ≡ at + length mark = omega arith in
      let head : List ℕ = mark ++ (length w ∷ []) in
      let n : at + 3 ≡ at + length head = omega (arith, length-append mark (length w ∷ [])) in
      ap (λ (l : List ℕ). put (at + 3) w l) (ap (λ (i : ℕ). set (put at mark area) i (length w)) e ∙ put_store at mark (length w) area (omega arith))
      ∙ ap (λ (i : ℕ). put i w (put at head area)) n
      ∙ put_put at head w area (omega arith)
      ∙ ap (λ (l : List ℕ). put at l area) (append_assoc mark (length w ∷ []) w)

  -- a record more
  pub put_words_more : (at : ℕ) (words : List Word) (w : Word) (area : List ℕ) → at + (length (words_bytes mark words) + (3 + length w)) ≤ length area
      → put (at + length (words_bytes mark words)) (word_bytes mark w) (put at (words_bytes mark words) area) ≡ put at (words_bytes mark (words ++ (w ∷ []))) area
  put_words_more at words w area h =
      put_put at (words_bytes mark words) (word_bytes mark w) area (omega (arith, word_length w)) ∙ ap (λ (l : List ℕ). put at l area) (sym (words_more words w))

  pub words_more_length : (words : List Word) (w : Word) → length (words_bytes mark (words ++ (w ∷ []))) ≡ length (words_bytes mark words) + (3 + length w)
  words_more_length words w =
      ap length (words_more words w) ∙ length-append (words_bytes mark words) (word_bytes mark w) ∙ ap (λ (n : ℕ). length (words_bytes mark words) + n) (word_length w)

-- ---- a list of numbers, put one by one from a place on
pub put_from_at : (f : ℕ → ℕ) (at i v : ℕ) (now area : List ℕ) → at + i < length area → now ≡ put at (map f (from 0 i)) area → v ≡ f i
    → set now (at + i) v ≡ put at (map f (from 0 (i + 1))) area
put_from_at f at i v now area h e is =
    let n : length (map f (from 0 i)) ≡ i = map_from_length f 0 i in
    let place : at + i ≡ at + length (map f (from 0 i)) = omega arith in
    let one : suc i ≡ i + 1 = omega arith in
    ap₂ (λ (l : List ℕ) (j : ℕ). set l j v) e place
    ∙ put_store at (map f (from 0 i)) v area (omega arith)
    ∙ ap (λ (l : List ℕ). put at l area) (ap (λ (x : ℕ). map f (from 0 i) ++ (x ∷ [])) is ∙ sym (map_from_snoc f i) ∙ ap (λ (j : ℕ). map f (from 0 j)) one)

pub put_from_none_at : (f : ℕ → ℕ) (at : ℕ) (area : List ℕ) → area ≡ put at (map f (from 0 0)) area
unfolding from
put_from_none_at f at area = sym (put_none at area)

-- what was put to the start of an area is read back
pub start_taken : (size : ℕ) (x area : List ℕ) → length x ≡ size → size ≤ length area → take size (put 0 x area) ≡ x
start_taken size x area n h =
    let e : size ≡ 0 + length x = omega arith in
    ap (λ (i : ℕ). take i (put 0 x area)) e ∙ put_front 0 x area (omega arith)

-- ---- the head of a proof sheet
pub put_head : (m k n c : ℕ) (area : List ℕ) → 6 ≤ length area → set (set (set (set (put 0 PH area) 2 m) 3 k) 4 n) 5 c ≡ put 0 (PH ++ (m ∷ k ∷ n ∷ c ∷ [])) area
put_head m k n c area h =
    ap (λ (l : List ℕ). set (set (set l 3 k) 4 n) 5 c) (put_store 0 PH m area (omega arith))
    ∙ ap (λ (l : List ℕ). set (set l 4 n) 5 c) (put_store 0 (PH ++ (m ∷ [])) k area (omega arith))
    ∙ ap (λ (l : List ℕ). set l 5 c) (put_store 0 (PH ++ (m ∷ k ∷ [])) n area (omega arith))
    ∙ put_store 0 (PH ++ (m ∷ k ∷ n ∷ [])) c area (omega arith)
