-- The finished proof sheet as the code writes it, part by part, from the conjecture as lent words and the columns.
use Rattle.std.specs.List.{position}
use Rattle.std.specs.Prelude.{◌≡◌, Option, Some, None, ℕ, ◌+◌, ◌*◌, ◌≤◌, ◌<◌, length, eqb}
use Rattle.std.proofs.Math.Path.{refl, ap}
use Rattle.std.proofs.Common.{sym, ap₂, ◌∙◌, arith}
use mathlib.Core.List.{List, [], ◌∷◌, ◌++◌, map, append_assoc}
use Rattle.std.proofs.Math.ListN.{get_or, length-append}
use Rattle.std.proofs.lemmas.List.{length-map}
use Rattle.std.proofs.Math.Decide.{dec_lt}
use Rattle.rules.specs.Tests.{lt_yes, lt_no}
use Rattle.rules.specs.Words.{Word}
use Rattle.rules.specs.Seek.{sought}
use Rattle.rules.specs.Search.{Entry, walk}
use Rattle.rules.specs.Machine.{Machine, Complete}
use Rattle.rules.specs.Table.{from}
use Rattle.rules.specs.FromLaws.{map_from_length}
use Rattle.rules.specs.Areas.{put, put_put}
use Rattle.rules.specs.Records.{put_words_more}
use Rattle.rules.specs.Sheets.{PH, AW, CW, SM, Proof, proof_bytes, word_bytes, words_bytes, words_of}
use Rattle.rules.specs.SheetLaws.{rows_length}
use Rattle.rules.specs.Numbering.{place, reached, order, reaching_words, renumbered, model_state, state_map}
use Rattle.rules.specs.NumberingLaws.{renumbered_complete}
use Rattle.rules.specs.Same.{Same}
use Rattle.rules.specs.SameNumbering.{words_same, states_same, renumbered_same, state_map_same}
use Rattle.search.specs.Listing.{position_place}
use Rattle.finish.specs.Sheet.{numbered_sheet, model_bytes, word_of}

-- it depends on the model at its states and letters alone
pub sheet_same : (k : ℕ) (M C K : Machine) (E : List Word) → 0 < k → Complete k M → Complete k C → Same k K C → numbered_sheet k M C E ≡ numbered_sheet k M K E
unfolding numbered_sheet
sheet_same k M C K E pos wholeM whole A =
    ap₂ (λ (m : ℕ) (model : List ℕ). sheet m model (reaching_words k C) (state_map k M C)) (states_same k C K whole A) (renumbered_same k C K whole A 256 pos)
    ∙ ap₂ (λ (reaching : List Word) (states : List ℕ). sheet (renumbered k K).states (words_of 256 k (renumbered k K)) reaching states)
    (words_same k C K whole A) (state_map_same k M C K wholeM whole A)
  where
    sheet : ℕ → List ℕ → List Word → List ℕ → Proof
    sheet m model reaching states = record { m = m; k = k; n = M.states; c = length E; model = model; reaching = reaching; columns = E; state_map = states }

-- ---- the number of a state, and that of one that is not there
pub place_le : (xs : List ℕ) (x : ℕ) → place xs x ≤ length xs
unfolding place
place_le xs x = let s = sought (λ (j : ℕ). eqb (get_or xs j 0) x) 0 (length xs) in omega (arith, s.high)

pub place_there : (xs : List ℕ) (x : ℕ) → place xs x < length xs → position (λ (y : ℕ). eqb y x) xs ≡ Some (place xs x)
place_there xs x h = position_place x xs ∙ rw (lt_yes (place xs x) (length xs) h)

place_none : (xs : List ℕ) (x : ℕ) → length xs ≤ place xs x → position (λ (y : ℕ). eqb y x) xs ≡ None
place_none xs x h = position_place x xs ∙ rw (lt_no (place xs x) (length xs) h)

-- so an answer says which it is
pub found_place : (xs : List ℕ) (x p : ℕ) → Some p ≡ position (λ (y : ℕ). eqb y x) xs → (p ≡ place xs x) × (place xs x < length xs)
found_place xs x p e = go (dec_lt (place xs x) (length xs))
  where
    go : Dec (place xs x < length xs) → (p ≡ place xs x) × (place xs x < length xs)
    go (yes h) = let q = e ∙ place_there xs x h in let r : p ≡ place xs x = cc in (r, h)
    go (no h) = let q = e ∙ place_none xs x (omega arith) in cc

pub found_none : (xs : List ℕ) (x : ℕ) → ◌≡◌ {A = Option ℕ} None (position (λ (y : ℕ). eqb y x) xs) → length xs ≤ place xs x
found_none xs x e = go (dec_lt (place xs x) (length xs))
  where
    go : Dec (place xs x < length xs) → length xs ≤ place xs x
    go (yes h) = let q = e ∙ place_there xs x h in cc
    go (no h) = omega arith

-- ---- the number of the model for a state, and that of one that no word reaches
pub mapped : (k : ℕ) (M C : Machine) (s : ℕ) → place (order k M) s < length (order k M)
    → model_state k M C s ≡ place (order k C) (walk C.next 0 (get_or (reaching_words k M) (place (order k M) s) []))
unfolding model_state
mapped k M C s h = rw (lt_yes (place (order k M) s) (length (order k M)) h, model_state)

pub unmapped : (k : ℕ) (M C : Machine) (s : ℕ) → length (order k M) ≤ place (order k M) s → model_state k M C s ≡ 255
unfolding model_state
unmapped k M C s h = rw (lt_no (place (order k M) s) (length (order k M)) h, model_state)

-- ---- the numbered model, over the states that words reach
module _ (k : ℕ) (M : Machine) (whole : Complete k M) where
  -- a numbered state's letters lead to numbered states
  pub placed_next : (i a : ℕ) → i < length (order k M) → a < k → place (order k M) (M.next (get_or (order k M) i 0) a) < length (order k M)
  unfolding renumbered
  placed_next = (renumbered_complete k M whole).1

  pub words_number : length (reaching_words k M) ≡ length (order k M)
  unfolding reaching_words order
  words_number = length-map (reached k M) (λ (e : Entry ℕ). e.word) ∙ sym (length-map (reached k M) (λ (e : Entry ℕ). e.node))

  pub words_are : map (word_of k (renumbered k M)) (from 0 (length (order k M) * k)) ≡ words_of 256 k (renumbered k M)
  unfolding words_of renumbered
  words_are = refl

  pub words_size : length (words_of 256 k (renumbered k M)) ≡ length (order k M) * k
  unfolding words_of renumbered
  words_size = map_from_length (word_of k (renumbered k M)) 0 (length (order k M) * k)

  pub model_length : length (model_bytes k M) ≡ length (order k M) * (2 + 2 * k)
  unfolding renumbered
  model_length = rows_length k (length (order k M)) (words_of 256 k (renumbered k M)) (omega (arith, words_size))

-- ---- a record that is put where those before it end
pub record_put : (mark : List ℕ) → length mark ≡ 2 → (at : ℕ) (words : List Word) (w : Word) (area : List ℕ) {read : Word} {end : ℕ} {sheet now : List ℕ} → read ≡ w
    → end ≡ at + length (words_bytes mark words) → sheet ≡ put at (words_bytes mark words) area → now ≡ put end (word_bytes mark read) sheet
    → at + (length (words_bytes mark words) + (3 + length w)) ≤ length area → now ≡ put at (words_bytes mark (words ++ (w ∷ []))) area
record_put mark two at words w area is ends before wrote fits = wrote ∙ rw (is, ends, before) (put_words_more mark two at words w area fits)

-- ---- the record of the state map
pub map_length : (k : ℕ) (M C : Machine) → length (SM ++ state_map k M C) ≡ 2 + M.states
unfolding state_map
map_length k M C = omega (arith, map_from_length (model_state k M C) 0 M.states)

-- ---- the whole sheet, part by part
module _ (k : ℕ) (M C : Machine) (E : List Word) (old : List ℕ) where
  abbrev head : List ℕ
  head = PH ++ ((renumbered k C).states ∷ k ∷ M.states ∷ length E ∷ [])

  abbrev reach_bytes : List ℕ
  reach_bytes = words_bytes AW (reaching_words k C)

  abbrev column_bytes : List ℕ
  column_bytes = words_bytes CW E

  abbrev map_bytes : List ℕ
  map_bytes = SM ++ state_map k M C

  -- what is written next joins what was written
  next_part : (x y now : List ℕ) (end : ℕ) → end ≡ length x → now ≡ put 0 x old → length x + length y ≤ length old → put end y now ≡ put 0 (x ++ y) old
  next_part x y now end e is fits = ap₂ (λ (i : ℕ) (l : List ℕ). put i y l) (e ∙ start) is ∙ put_put 0 x y old (omega arith)
    where
      start : length x ≡ 0 + length x
      start = omega arith

  module _ (rows words columns : ℕ) (rows_end : rows ≡ 6 + length (model_bytes k C)) (words_end : words ≡ rows + length reach_bytes) (columns-end : columns ≡ words + length column_bytes)
      (fits : columns + length map_bytes ≤ length old) where
    pub sheet_put : put columns map_bytes (put words column_bytes (put rows reach_bytes (put 6 (model_bytes k C) (put 0 head old)))) ≡ put 0 (proof_bytes (numbered_sheet k M C E)) old
    unfolding proof_bytes numbered_sheet
    sheet_put =
        let x1 = model_bytes k C in
        let l1 = length-append head x1 in
        let l2 = length-append (head ++ x1) reach_bytes in
        let l3 = length-append (head ++ x1 ++ reach_bytes) column_bytes in
        let one = next_part head x1 (put 0 head old) 6 refl refl (omega arith) in
        let two = next_part (head ++ x1) reach_bytes (put 6 x1 (put 0 head old)) rows (omega arith) one (omega arith) in
        let three = next_part (head ++ x1 ++ reach_bytes) column_bytes (put rows reach_bytes (put 6 x1 (put 0 head old))) words (omega arith) two (omega arith) in
        let four = next_part (head ++ x1 ++ reach_bytes ++ column_bytes) map_bytes (put words column_bytes (put rows reach_bytes (put 6 x1 (put 0 head old)))) columns (omega arith) three (omega arith) in
        four ∙ ap (λ (l : List ℕ). put 0 l old) (append_assoc (head ++ x1 ++ reach_bytes) column_bytes map_bytes
        ∙ append_assoc (head ++ x1) reach_bytes (column_bytes ++ map_bytes) ∙ append_assoc head x1 (reach_bytes ++ (column_bytes ++ map_bytes)))

    pub sheet_length : columns + length map_bytes ≡ length (proof_bytes (numbered_sheet k M C E))
    unfolding proof_bytes numbered_sheet
    sheet_length =
        let x1 = model_bytes k C in
        omega (arith, length-append x1 (reach_bytes ++ (column_bytes ++ map_bytes)), length-append reach_bytes (column_bytes ++ map_bytes), length-append column_bytes map_bytes)

    -- as the code writes it
    pub sheet_written : (count c : ℕ) (reaching : List Word) (s1 s2 s3 s4 s5 : List ℕ) → count ≡ (renumbered k C).states → length E ≡ c → reaching ≡ reaching_words k C
        → s1 ≡ put 0 (PH ++ (count ∷ k ∷ M.states ∷ c ∷ [])) old → s2 ≡ put 6 (model_bytes k C) s1 → s3 ≡ put rows (words_bytes AW reaching) s2
        → s4 ≡ put words column_bytes s3 → s5 ≡ put columns map_bytes s4 → s5 ≡ put 0 (proof_bytes (numbered_sheet k M C E)) old
    sheet_written count c reaching s1 s2 s3 s4 s5 m' c' reach one two three four five =
        let first : s1 ≡ put 0 head old = one ∙ ap₂ (λ (x y : ℕ). put 0 (PH ++ (x ∷ k ∷ M.states ∷ y ∷ [])) old) m' (sym c') in
        let second : s3 ≡ put rows reach_bytes (put 6 (model_bytes k C) (put 0 head old)) =
        three ∙ ap₂ (λ (ws : List Word) (l : List ℕ). put rows (words_bytes AW ws) l) reach (two ∙ ap (put 6 (model_bytes k C)) first) in
        five ∙ ap (put columns map_bytes) (four ∙ ap (put words column_bytes) second) ∙ sheet_put
