-- A reading step in the code's terms: it gives the bytes that follow it, or a refusal.
use Rattle.std.specs.Prelude.{◌≡◌, refl, Bool, true, false, Result, List, [], ◌∷◌, ◌++◌, ℕ, zero, suc, ◌-◌, ◌*◌, ◌<◌, ◌≤◌, length, get_or, take, drop}
use Rattle.std.specs.List.{list_all}
use borrow.Author.Tests.{le-leb, lt-leb}
use Rattle.std.proofs.Common.{Bor, take_all, length-drop, drop-drop, get_or-drop, ap, ◌∙◌, sym, arith}
use Rattle.rules.specs.Answer.{Answer, refused, gives, within}
use Rattle.machine.specs.declared.refusal.Refusal.{Refusal}
use Rattle.machine.specs.Answers.{answer}
use Rattle.rules.specs.Sheets.{MH, MR, PH, AW, CW, SM}
use Rattle.sheets.specs.Reading.{Parsed, bad, good, pure, and_then, mark, pairs, rows}
use Rattle.sheets.specs.Proofs.{map_byte, word_record, word_records, Counts}
use Rattle.sheets.specs.Steps.{outcome, row, rows_first, mark_were}
use Rattle.sheets.specs.Machines.{machine_sheet}
use Rattle.sheets.specs.MachineSteps.{sheet_body, size_in, size_refused, size_sound, head_refused, head_short, head_present}
use Rattle.sheets.specs.ProofParts.{counts, in_range, letters, header, map_record, body, given}
use Rattle.sheets.specs.ProofSteps.{counts_at, header_refused, header_short, header_judged, header_gives}
use Rattle.machine.specs.Lent.{letters_below}
use Rattle.sheets.specs.WordRecords.{words_first}
use Rattle.sheets.specs.WordSteps.{clash, given_refused}

-- the bytes that follow a step, or its refusal: by the code, and by the definitions
abbrev pub rest_of : Result (Bor (List ℕ)) Refusal → Answer (List ℕ)
rest_of r = answer (λ (bytes : Bor (List ℕ)). bytes.now) r

abbrev pub follows : {A : Type 0} → Parsed A → Answer (List ℕ)
follows (bad number) = refused number
follows (good a rest) = gives rest

-- a step that was refused, and one that was passed
pub stopped : {A : Type 0} (p : Parsed A) (x : ℕ) → refused x ≡ follows p → p ≡ bad x
stopped (bad y) x e = let h : x ≡ y = cc in rw h refl
stopped (good a rest) x e = absurd (clash e)

pub passed : {A : Type 0} (p : Parsed A) (rest : List ℕ) → gives rest ≡ follows p → (a : A) × (p ≡ good a rest)
passed (bad y) rest e = absurd (clash (sym e))
passed (good a other) rest e = let h : other ≡ rest = cc in (a, rw h refl)

-- a value that is made of another is followed by the same bytes
follows_made : {A B : Type 0} (p : Parsed A) (f : A → B) → follows (and_then p (λ a. pure (f a))) ≡ follows p
follows_made (bad x) f = refl
follows_made (good a rest) f = refl

-- a list from one of its places on
pub from_on : (n : ℕ) (bytes : List ℕ) → take (length bytes - n) (drop n bytes) ≡ drop n bytes
from_on n bytes = take_all (length bytes - n) (drop n bytes) (omega (arith, length-drop n bytes))

-- what follows a mark
pub mark_rest : (due bytes rest : List ℕ) → gives rest ≡ follows (mark due bytes) → (rest ≡ drop 2 bytes) × (2 ≤ length bytes) × (outcome (mark due bytes) ≡ gives tt)
mark_rest due bytes rest e =
    let p = passed (mark due bytes) rest e in
    let m = mark_were due bytes p.0 rest p.1 in
    (m.1, m.0, ap outcome p.1)

-- the head of a machine sheet: its mark refused; n and k not present; the body
module _ (bytes : List ℕ) where
  pub head_stop : (x : ℕ) → refused x ≡ follows (mark MH bytes) → size_in (machine_sheet bytes) ≡ refused x
  head_stop x e = size_refused bytes x (head_refused bytes x (ap outcome (stopped (mark MH bytes) x e)))

  module _ (rest : List ℕ) (e : gives rest ≡ follows (mark MH bytes)) where
    pub head_lacks : length rest < 2 → size_in (machine_sheet bytes) ≡ refused 1
    head_lacks h =
        let m = mark_rest MH bytes rest e in
        size_refused bytes 1 (head_short bytes m.2 (omega (arith, ap length m.0, length-drop 2 bytes, m.1)))

    -- n and k stand after the mark, and the body after them
    pub head_goes : 2 ≤ length rest → machine_sheet bytes ≡ sheet_body (get_or rest 0 0) (get_or rest 1 0) (drop 2 rest)
    head_goes h =
        let m = mark_rest MH bytes rest e in
        let n : get_or rest 0 0 ≡ get_or bytes 2 0 = ap (λ (l : List ℕ). get_or l 0 0) m.0 ∙ get_or-drop 2 bytes 0 0 in
        let k : get_or rest 1 0 ≡ get_or bytes 3 0 = ap (λ (l : List ℕ). get_or l 1 0) m.0 ∙ get_or-drop 2 bytes 1 0 in
        let b : drop 2 rest ≡ drop 4 bytes = ap (drop 2) m.0 ∙ drop-drop 2 2 bytes in
        rw (n, k, b) (head_present bytes m.2 (omega (arith, ap length m.0, length-drop 2 bytes)))

    pub head_gives : 2 ≤ length rest → outcome (machine_sheet bytes) ≡ gives tt → size_in (machine_sheet bytes) ≡ gives (record { n = get_or rest 0 0; k = get_or rest 1 0 })
    head_gives h t =
        let m = mark_rest MH bytes rest e in
        let n : get_or rest 0 0 ≡ get_or bytes 2 0 = ap (λ (l : List ℕ). get_or l 0 0) m.0 ∙ get_or-drop 2 bytes 0 0 in
        let k : get_or rest 1 0 ≡ get_or bytes 3 0 = ap (λ (l : List ℕ). get_or l 1 0) m.0 ∙ get_or-drop 2 bytes 1 0 in
        rw (n, k) (size_sound bytes t)

-- its rows: refused; bytes left over; none
module _ (n k : ℕ) (bytes : List ℕ) (hn : within 1 48 n ≡ true) (hk : within 1 12 k ≡ true) where
  pub body_stop : (x : ℕ) → refused x ≡ follows (rows n k n bytes) → outcome (sheet_body n k bytes) ≡ refused x
  unfolding sheet_body
  body_stop x e = rw (hn, hk, stopped (rows n k n bytes) x e) refl

  pub body_over : (rest : List ℕ) → gives rest ≡ follows (rows n k n bytes) → 0 < length rest → outcome (sheet_body n k bytes) ≡ refused 5
  unfolding sheet_body
  body_over [] e h = absurd (omega arith)
  body_over (x ∷ rest) e h = rw (hn, hk, (passed (rows n k n bytes) (x ∷ rest) e).1) refl

  pub body_done : (rest : List ℕ) → gives rest ≡ follows (rows n k n bytes) → length rest ≡ 0 → outcome (sheet_body n k bytes) ≡ gives tt
  unfolding sheet_body
  body_done [] e h = rw (hn, hk, (passed (rows n k n bytes) [] e).1) refl
  body_done (x ∷ rest) e h = absurd (omega arith)

-- a row: its mark refused; its bytes not present; its pairs
module _ (n k : ℕ) (bytes : List ℕ) where
  pub row_stop : (x : ℕ) → refused x ≡ follows (mark MR bytes) → follows (row n k bytes) ≡ refused x
  unfolding row
  row_stop x e = rw (stopped (mark MR bytes) x e) refl

  module _ (rest : List ℕ) (e : gives rest ≡ follows (mark MR bytes)) where
    pub row_lacks : length rest < 2 * k → follows (row n k bytes) ≡ refused 1
    unfolding row
    row_lacks h = rw ((passed (mark MR bytes) rest e).1, lt-leb (2 * k) (length rest) h) refl

    pub row_goes : 2 * k ≤ length rest → follows (row n k bytes) ≡ follows (pairs n k rest)
    unfolding row
    row_goes h = rw ((passed (mark MR bytes) rest e).1, le-leb (2 * k) (length rest) h) refl

-- rows and records one after the other: one of those that are left is refused, or passed
module _ (bytes : List ℕ) (left : ℕ) (h : 0 < left) where
  pub rows_stop : (n k x : ℕ) → refused x ≡ follows (row n k bytes) → follows (rows n k left bytes) ≡ refused x
  rows_stop n k x e = go left h
    where
      go : (left : ℕ) → 0 < left → follows (rows n k left bytes) ≡ refused x
      go zero h = absurd (omega arith)
      go (suc left) h = rw (rows_first n k left bytes, stopped (row n k bytes) x e) refl

  pub rows_go : (n k : ℕ) (rest : List ℕ) → gives rest ≡ follows (row n k bytes) → follows (rows n k left bytes) ≡ follows (rows n k (left - 1) rest)
  rows_go n k rest e = go left h
    where
      go : (left : ℕ) → 0 < left → follows (rows n k left bytes) ≡ follows (rows n k (left - 1) rest)
      go zero h = absurd (omega arith)
      go (suc left) h =
          let p = passed (row n k bytes) rest e in
          let m : suc left - 1 ≡ left = omega arith in
          rw (m, rows_first n k left bytes, p.1) (follows_made (rows n k left rest) (λ others. p.0 ++ others))

  module _ (due : List ℕ) (low high k : ℕ) where
    pub words_stop : (x : ℕ) → refused x ≡ follows (word_record due low high k bytes) → follows (word_records due low high k left bytes) ≡ refused x
    words_stop x e = go left h
      where
        go : (left : ℕ) → 0 < left → follows (word_records due low high k left bytes) ≡ refused x
        go zero h = absurd (omega arith)
        go (suc left) h = rw (words_first due low high k left bytes, stopped (word_record due low high k bytes) x e) refl

    pub words_go : (rest : List ℕ) → gives rest ≡ follows (word_record due low high k bytes)
        → follows (word_records due low high k left bytes) ≡ follows (word_records due low high k (left - 1) rest)
    words_go rest e = go left h
      where
        go : (left : ℕ) → 0 < left → follows (word_records due low high k left bytes) ≡ follows (word_records due low high k (left - 1) rest)
        go zero h = absurd (omega arith)
        go (suc left) h =
            let p = passed (word_record due low high k bytes) rest e in
            let m : suc left - 1 ≡ left = omega arith in
            rw (m, words_first due low high k left bytes, p.1) (follows_made (word_records due low high k left rest) (λ others. p.0 ∷ others))

-- a record: its mark refused; its length absent; its letters
module _ (due : List ℕ) (low high k : ℕ) (bytes : List ℕ) where
  pub word_stop : (x : ℕ) → refused x ≡ follows (mark due bytes) → follows (word_record due low high k bytes) ≡ refused x
  unfolding word_record
  word_stop x e = rw (stopped (mark due bytes) x e) refl

  pub word_lacks : (rest : List ℕ) → gives rest ≡ follows (mark due bytes) → length rest < 1 → follows (word_record due low high k bytes) ≡ refused 1
  unfolding word_record
  word_lacks [] e h = rw (passed (mark due bytes) [] e).1 refl
  word_lacks (x ∷ rest) e h = absurd (omega arith)

  pub word_goes : (rest : List ℕ) → gives rest ≡ follows (mark due bytes) → 1 ≤ length rest
      → follows (word_record due low high k bytes) ≡ follows (letters low high k (get_or rest 0 0) (drop 1 rest))
  unfolding word_record letters
  word_goes [] e h = absurd (omega arith)
  word_goes (x ∷ rest) e h = rw (passed (mark due bytes) (x ∷ rest) e).1 refl

-- letters: a length outside its range; absent; present, and all below k or not
module _ (low high k size : ℕ) (bytes : List ℕ) where
  pub letters_out : within low high size ≡ false → follows (letters low high k size bytes) ≡ refused 6
  unfolding letters
  letters_out e = rw e refl

  module _ (w : within low high size ≡ true) where
    pub letters_lack : length bytes < size → follows (letters low high k size bytes) ≡ refused 1
    unfolding letters
    letters_lack h = rw (w, lt-leb size (length bytes) h) refl

    pub letters_are : (t : Bool) → size ≤ length bytes → letters_below k (take size bytes) ≡ t
        → follows (letters low high k size bytes) ≡ elim t [ false ↦ refused 6 | true ↦ gives (drop size bytes) ]
    unfolding letters
    letters_are false h e = rw (w, le-leb size (length bytes) h, e) refl
    letters_are true h e = rw (w, le-leb size (length bytes) h, e) refl

-- the state map: its mark refused; its bytes absent; present, and all in order or not
module _ (m n : ℕ) (bytes : List ℕ) where
  pub map_stop : (x : ℕ) → refused x ≡ follows (mark SM bytes) → follows (map_record m n bytes) ≡ refused x
  unfolding map_record
  map_stop x e = rw (stopped (mark SM bytes) x e) refl

  module _ (rest : List ℕ) (e : gives rest ≡ follows (mark SM bytes)) where
    pub map_lacks : length rest < n → follows (map_record m n bytes) ≡ refused 1
    unfolding map_record
    map_lacks h = rw ((passed (mark SM bytes) rest e).1, lt-leb n (length rest) h) refl

    pub map_is : (t : Bool) → n ≤ length rest → list_all (map_byte m) (take n rest) ≡ t
        → follows (map_record m n bytes) ≡ elim t [ false ↦ refused 4 | true ↦ gives (drop n rest) ]
    unfolding map_record
    map_is false h f = rw ((passed (mark SM bytes) rest e).1, le-leb n (length rest) h, f) refl
    map_is true h f = rw ((passed (mark SM bytes) rest e).1, le-leb n (length rest) h, f) refl

-- the header of a proof sheet: its mark refused; its numbers not present; in their ranges or not
module _ (bytes : List ℕ) where
  pub header_stop : (x : ℕ) → refused x ≡ follows (mark PH bytes) → given (header bytes) ≡ refused x
  header_stop x e = given_refused (header bytes) x (header_refused bytes x (ap outcome (stopped (mark PH bytes) x e)))

  module _ (rest : List ℕ) (e : gives rest ≡ follows (mark PH bytes)) where
    pub header_lacks : length rest < 4 → given (header bytes) ≡ refused 1
    header_lacks h =
        let m = mark_rest PH bytes rest e in
        given_refused (header bytes) 1 (header_short bytes m.2 (omega (arith, ap length m.0, length-drop 2 bytes, m.1)))

    -- the numbers stand after the mark
    pub numbers_at : counts (get_or rest 0 0) (get_or rest 1 0) (get_or rest 2 0) (get_or rest 3 0) ≡ counts_at bytes
    numbers_at =
        let m = mark_rest PH bytes rest e in
        ap (λ (l : List ℕ). counts (get_or l 0 0) (get_or l 1 0) (get_or l 2 0) (get_or l 3 0)) m.0
        ∙ rw (get_or-drop 2 bytes 0 0, get_or-drop 2 bytes 1 0, get_or-drop 2 bytes 2 0, get_or-drop 2 bytes 3 0) refl

    pub header_is : (t : Bool) → 4 ≤ length rest → in_range (counts (get_or rest 0 0) (get_or rest 1 0) (get_or rest 2 0) (get_or rest 3 0)) ≡ t
        → given (header bytes)
        ≡ elim t [ false ↦ refused 3 | true ↦ gives (counts (get_or rest 0 0) (get_or rest 1 0) (get_or rest 2 0) (get_or rest 3 0)) ]
    header_is false h r =
        let m = mark_rest PH bytes rest e in
        given_refused (header bytes) 3 (header_judged bytes m.2 false (omega (arith, ap length m.0, length-drop 2 bytes)) (rw numbers_at at r))
    header_is true h r =
        let m = mark_rest PH bytes rest e in
        rw numbers_at (header_gives bytes m.2 (omega (arith, ap length m.0, length-drop 2 bytes)) (rw numbers_at at r))

-- what follows the header of a proof sheet: each part refused; bytes left over; none
module _ (h : Counts) (bytes : List ℕ) where
  pub stop_model : (x : ℕ) → refused x ≡ follows (rows h.m h.k h.m bytes) → outcome (body h bytes) ≡ refused x
  unfolding body
  stop_model x e = rw (stopped (rows h.m h.k h.m bytes) x e) refl

  module _ (words : List ℕ) (model : gives words ≡ follows (rows h.m h.k h.m bytes)) where
    pub stop_reaching : (x : ℕ) → refused x ≡ follows (word_records AW 0 47 h.k h.m words) → outcome (body h bytes) ≡ refused x
    unfolding body
    stop_reaching x e = rw ((passed (rows h.m h.k h.m bytes) words model).1, stopped (word_records AW 0 47 h.k h.m words) x e) refl

    module _ (more : List ℕ) (reaching : gives more ≡ follows (word_records AW 0 47 h.k h.m words)) where
      pub stop_columns : (x : ℕ) → refused x ≡ follows (word_records CW 1 93 h.k h.c more) → outcome (body h bytes) ≡ refused x
      unfolding body
      stop_columns x e =
          rw ((passed (rows h.m h.k h.m bytes) words model).1, (passed (word_records AW 0 47 h.k h.m words) more reaching).1, stopped (word_records CW 1 93 h.k h.c more) x e) refl

      module _ (map : List ℕ) (columns : gives map ≡ follows (word_records CW 1 93 h.k h.c more)) where
        pub stop_map : (x : ℕ) → refused x ≡ follows (map_record h.m h.n map) → outcome (body h bytes) ≡ refused x
        unfolding body
        stop_map x e =
            rw (
              (passed (rows h.m h.k h.m bytes) words model).1,
              (passed (word_records AW 0 47 h.k h.m words) more reaching).1,
              (passed (word_records CW 1 93 h.k h.c more) map columns).1,
              stopped (map_record h.m h.n map) x e,
            )
            refl

        pub sheet_over : (rest : List ℕ) → gives rest ≡ follows (map_record h.m h.n map) → 0 < length rest → outcome (body h bytes) ≡ refused 5
        unfolding body
        sheet_over [] e l = absurd (omega arith)
        sheet_over (x ∷ rest) e l =
            rw (
              (passed (rows h.m h.k h.m bytes) words model).1,
              (passed (word_records AW 0 47 h.k h.m words) more reaching).1,
              (passed (word_records CW 1 93 h.k h.c more) map columns).1,
              (passed (map_record h.m h.n map) (x ∷ rest) e).1,
            )
            refl

        pub sheet_done : (rest : List ℕ) → gives rest ≡ follows (map_record h.m h.n map) → length rest ≡ 0 → outcome (body h bytes) ≡ gives tt
        unfolding body
        sheet_done (x ∷ rest) e l = absurd (omega arith)
        sheet_done [] e l =
            rw (
              (passed (rows h.m h.k h.m bytes) words model).1,
              (passed (word_records AW 0 47 h.k h.m words) more reaching).1,
              (passed (word_records CW 1 93 h.k h.c more) map columns).1,
              (passed (map_record h.m h.n map) [] e).1,
            )
            refl
