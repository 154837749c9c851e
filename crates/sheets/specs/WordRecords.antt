-- Records of words (AW, CW): what is read was written so, what is written is read back, and where each of them lies in the sheet.
use Rattle.std.specs.Prelude.{◌≡◌, refl, true, take, leb}
use Rattle.std.proofs.Math.Path.{sym, ap}
use Rattle.std.proofs.Common.{ap₂, ◌∙◌, subst, not-suc-le-zero, le_of_suc-le-suc, length-drop, take-append-drop, drop_of_length-le, drop-cons, drop-drop, get_or-drop, length-take-le}
use mathlib.Core.List.{List, [], ◌∷◌, ◌++◌, append_assoc}
use Prim.Native.Nat.{ℕ, zero, suc, ◌+◌, ◌-◌, ◌≤◌, ◌<◌}
use native.Mathlib.Omega.{arith}
use Rattle.std.proofs.Math.ListN.{length, get_or, drop, length-append}
use Rattle.std.proofs.Math.Seq.{take_at, drop_at, take-append_seam, drop-append_seam}
use Rattle.rules.specs.Tests.{leb_yes, le_yes}
use Rattle.rules.specs.Words.{Word, Below}
use Rattle.rules.specs.Answer.{within}
use Rattle.rules.specs.Sheets.{word_bytes, words_bytes}
use Rattle.machine.specs.Lent.{letters_below}
use Rattle.machine.specs.LentLaws.{within_both, letters_are_below, below_letters}
use Rattle.sheets.specs.Reading.{Parsed, good, pure, and_then, ◌>>=◌, byte, mark}
use Rattle.sheets.specs.MachineLaws.{mark_read}
use Rattle.sheets.specs.Proofs.{word_record, word_records}
use Rattle.sheets.specs.ProofParts.{letters, record_place, place_of}
use Rattle.sheets.specs.Steps.{bad_good, then_good, demanded, mark_were}

-- what a word of a record has: a length from low to high and letters below k
abbrev pub Fits : ℕ → ℕ → ℕ → Word → Type 0
Fits low high k w = (low ≤ length w) × (length w ≤ high) × Below k w

abbrev pub AllFit : ℕ → ℕ → ℕ → List Word → Type 0
AllFit low high k [] = Unit {0}
AllFit low high k (w ∷ words) = Fits low high k w × AllFit low high k words

pub fits_at : (low high k : ℕ) (words : List Word) (j : ℕ) → AllFit low high k words → j < length words → Fits low high k (get_or words j [])
fits_at low high k [] j f h = absurd (not-suc-le-zero h)
fits_at low high k (w ∷ words) zero f h = f.0
fits_at low high k (w ∷ words) (suc j) f h = fits_at low high k words j f.1 (le_of_suc-le-suc h)

-- ---- what is read was written so
letters_were : (low high k size : ℕ) (bytes w rest : List ℕ) → letters low high k size bytes ≡ good w rest
    → (size ≡ length w) × (bytes ≡ w ++ rest) × Fits low high k w
unfolding letters
letters_were low high k size bytes w rest e =
    let a = demanded (within low high size) 6 bytes _ w rest e in
    let b = demanded (leb size (length bytes)) 1 bytes _ w rest a.1 in
    let c = demanded (letters_below k (take size bytes)) 6 (drop size bytes) _ w rest b.1 in
    let v : take size bytes ≡ w = cc in
    let r : drop size bytes ≡ rest = cc in
    let l : size ≡ length w = sym (length-take-le size bytes (leb_yes size (length bytes) b.0)) ∙ ap length v in
    let i = within_both low high size a.0 in
    (l, sym (take-append-drop size bytes) ∙ ap₂ ◌++◌ v r, (omega (arith, i.0), omega (arith, i.1), subst (λ (z : Word). Below k z) v (letters_are_below k (take size bytes) c.0)))

pub word_were : (due : List ℕ) (low high k : ℕ) (bytes w rest : List ℕ) → word_record due low high k bytes ≡ good w rest
    → (bytes ≡ word_bytes due w ++ rest) × Fits low high k w
unfolding word_record letters word_bytes
word_were due low high k bytes w rest e =
    let a = then_good (mark due bytes) _ w rest e in
    let m = mark_were due bytes a.0 a.1 a.2 in
    let g = sized a.1 a.3 in
    (sym (take-append-drop 2 bytes) ∙ ap₂ ◌++◌ m.2 (sym m.1 ∙ g.0) ∙ sym (append_assoc due (length w ∷ w) rest), g.1)
  where
    sized : (after : List ℕ) → and_then (byte after) (letters low high k) ≡ good w rest → (after ≡ length w ∷ (w ++ rest)) × Fits low high k w
    sized [] e = absurd (bad_good e)
    sized (size ∷ after) e =
        let l = letters_were low high k size after w rest e in
        (ap₂ {C = List ℕ} ◌∷◌ l.0 l.1, l.2)

pub words_were : (due : List ℕ) (low high k count : ℕ) (bytes : List ℕ) (words : List Word) (rest : List ℕ) → word_records due low high k count bytes ≡ good words rest
    → (bytes ≡ words_bytes due words ++ rest) × (length words ≡ count) × AllFit low high k words
unfolding word_records words_bytes
words_were due low high k zero bytes words rest e =
    let w : words ≡ [] = cc in
    let r : bytes ≡ rest = cc in
    rw w (r, refl, tt)
words_were due low high k (suc count) bytes words rest e =
    let a = then_good (word_record due low high k bytes) _ words rest e in
    let b = then_good (word_records due low high k count a.1) _ words rest a.3 in
    let first = word_were due low high k bytes a.0 a.1 a.2 in
    let more = words_were due low high k count a.1 b.0 b.1 b.2 in
    let v : words ≡ a.0 ∷ b.0 = cc in
    let r : b.1 ≡ rest = cc in
    let whole : bytes ≡ words_bytes due (a.0 ∷ b.0) ++ rest =
    first.0 ∙ ap (λ (l : List ℕ). word_bytes due a.0 ++ l) (more.0 ∙ ap (λ (l : List ℕ). words_bytes due b.0 ++ l) r)
    ∙ sym (append_assoc (word_bytes due a.0) (words_bytes due b.0) rest) in
    subst (λ (l : List Word). (bytes ≡ words_bytes due l ++ rest) × (length l ≡ suc count) × AllFit low high k l) (sym v) (whole, ap suc more.1, (first.1, more.2))

-- ---- what is written is read back
pub word_read : (x y low high k : ℕ) (w rest : List ℕ) → Fits low high k w → word_record (x ∷ y ∷ []) low high k (word_bytes (x ∷ y ∷ []) w ++ rest) ≡ good w rest
unfolding word_record word_bytes
word_read x y low high k w rest f =
    let long : leb (length w) (length (w ++ rest)) ≡ true = le_yes (length w) (length (w ++ rest)) (rw (length-append w rest) (omega arith)) in
    rw (mark_read x y (length w ∷ (w ++ rest)), le_yes low (length w) f.0, le_yes (length w) high f.1, long, take-append_seam w rest, drop-append_seam w rest, below_letters k w f.2)

-- the first of the records, and the others
pub words_first : (due : List ℕ) (low high k count : ℕ) (bytes : List ℕ)
    → word_records due low high k (suc count) bytes ≡ and_then (word_record due low high k bytes) (λ w. ◌>>=◌ (word_records due low high k count) (λ others. pure (w ∷ others)))
unfolding word_records
words_first due low high k count bytes = refl

pub words_read : (x y low high k : ℕ) (words : List Word) (rest : List ℕ) → AllFit low high k words
    → word_records (x ∷ y ∷ []) low high k (length words) (words_bytes (x ∷ y ∷ []) words ++ rest) ≡ good words rest
unfolding word_records words_bytes
words_read x y low high k [] rest f = refl
words_read x y low high k (w ∷ words) rest f =
    let due : List ℕ = x ∷ y ∷ [] in
    let others : List ℕ = words_bytes due words ++ rest in
    ap (word_records due low high k (suc (length words))) (append_assoc (word_bytes due w) (words_bytes due words) rest)
    ∙ ap (λ (p : Parsed Word). and_then p (λ v. ◌>>=◌ (word_records due low high k (length words)) (λ more. pure (v ∷ more)))) (word_read x y low high k w others f.0)
    ∙ ap (λ (p : Parsed (List Word)). and_then p (λ more. pure (w ∷ more))) (words_read x y low high k words rest f.1)

-- ---- where records lie
-- a word's record at a place of the sheet
pub record Lies (due w bytes : List ℕ) (place : ℕ) : Type 0 where
  pub within : place + (3 + length w) ≤ length bytes
  pub size : get_or bytes (place + 2) 0 ≡ length w
  pub letters : take (length w) (drop (place + 3) bytes) ≡ w
  pub whole : take (3 + length w) (drop place bytes) ≡ word_bytes due w

-- after j records of words, counted from a place
pub record Passed (due bytes : List ℕ) (words : List Word) (rest : List ℕ) (at j : ℕ) : Type 0 where
  pub place : record_place bytes at j ≡ at + length (words_bytes due (take j words))
  pub left : drop (record_place bytes at j) bytes ≡ words_bytes due (drop j words) ++ rest
  pub within : record_place bytes at j ≤ length bytes

module _ (x y : ℕ) (bytes : List ℕ) where
  pub lies : (w rest : List ℕ) (place : ℕ) → drop place bytes ≡ word_bytes (x ∷ y ∷ []) w ++ rest → Lies (x ∷ y ∷ []) w bytes place
  unfolding word_bytes
  lies w rest place e =
      let long : length (drop place bytes) ≡ 3 + (length w + length rest) = ap length e ∙ ap (λ (n : ℕ). suc (suc (suc n))) (length-append w rest) ∙ omega arith in
      let there : length bytes - place ≡ length (drop place bytes) = sym (length-drop place bytes) in
      record {
        within = omega arith;
        size = sym (get_or-drop place bytes 2 0) ∙ ap (λ (l : List ℕ). get_or l 2 0) e;
        letters = ap (take (length w)) (sym (drop-drop 3 place bytes) ∙ ap (drop 3) e) ∙ take-append_seam w rest;
        whole = ap (take (3 + length w)) e ∙ take_at (x ∷ y ∷ length w ∷ w) rest (3 + length w) (omega arith);
      }

  -- the bytes after a record
  pub lies_after : (w rest : List ℕ) (place : ℕ) → drop place bytes ≡ word_bytes (x ∷ y ∷ []) w ++ rest → drop (place + (3 + length w)) bytes ≡ rest
  unfolding word_bytes
  lies_after w rest place e = sym (drop-drop (3 + length w) place bytes) ∙ ap (drop (3 + length w)) e ∙ drop_at (x ∷ y ∷ length w ∷ w) rest (3 + length w) (omega arith)

  pub passed : (words : List Word) (rest : List ℕ) (at j : ℕ) → at ≤ length bytes → drop at bytes ≡ words_bytes (x ∷ y ∷ []) words ++ rest → j ≤ length words
      → Passed (x ∷ y ∷ []) bytes words rest at j
  unfolding record_place words_bytes
  passed words rest at zero low e h = record { place = omega arith; left = e; within = low }
  passed [] rest at (suc j) low e h = absurd (not-suc-le-zero h)
  passed (w ∷ words) rest at (suc j) low e h =
      let here : drop at bytes ≡ word_bytes (x ∷ y ∷ []) w ++ (words_bytes (x ∷ y ∷ []) words ++ rest) = e ∙ append_assoc (word_bytes (x ∷ y ∷ []) w) (words_bytes (x ∷ y ∷ []) words) rest in
      let l = lies w (words_bytes (x ∷ y ∷ []) words ++ rest) at here in
      let p = passed words rest (at + (3 + length w)) j l.within (lies_after w (words_bytes (x ∷ y ∷ []) words ++ rest) at here) (le_of_suc-le-suc h) in
      let next : record_place bytes at (suc j) ≡ record_place bytes (at + (3 + length w)) j = ap (λ (n : ℕ). record_place bytes (at + (3 + n)) j) l.size in
      record {
        place = next ∙ p.place ∙ simp length-append (omega arith);
        left = ap (λ (n : ℕ). drop n bytes) next ∙ p.left;
        within = omega (arith, next, p.within);
      }

-- all records of a list of words that stands at a place
pub record Records (due : List ℕ) (bytes : List ℕ) (words : List Word) (at count : ℕ) (rest : List ℕ) : Type 0 where
  pub places : (j : ℕ) → j ≤ count → (record_place bytes at j ≡ place_of due at words j) × (place_of due at words j ≤ length bytes)
  pub lie : (j : ℕ) → j < count → Lies due (get_or words j []) bytes (place_of due at words j)
  pub left : drop (place_of due at words count) bytes ≡ rest

pub records : (x y : ℕ) (bytes : List ℕ) (words : List Word) (at count : ℕ) (rest : List ℕ) → at ≤ length bytes → drop at bytes ≡ words_bytes (x ∷ y ∷ []) words ++ rest → length words ≡ count
    → Records (x ∷ y ∷ []) bytes words at count rest
unfolding words_bytes
records x y bytes words at count rest low e many =
    let due : List ℕ = x ∷ y ∷ [] in
    let p : (j : ℕ) → j ≤ count → Passed due bytes words rest at j = λ j h. passed x y bytes words rest at j low e (omega arith) in
    let none : drop count words ≡ [] = drop_of_length-le words {i = count} (omega arith) in
    record {
      places = λ j h. ((p j h).place, omega (arith, (p j h).place, (p j h).within));
      lie = λ j h.
          let q = p j (omega arith) in
          subst (Lies due (get_or words j []) bytes) q.place
          (lies x y bytes (get_or words j []) (words_bytes due (drop (suc j) words) ++ rest) (record_place bytes at j)
          (q.left ∙ ap (λ (l : List Word). words_bytes due l ++ rest) (drop-cons words j [] (omega arith))
          ∙ append_assoc (word_bytes due (get_or words j [])) (words_bytes due (drop (suc j) words)) rest));
      left =
          let q = p count (omega arith) in
          ap (λ (i : ℕ). drop i bytes) (sym q.place) ∙ q.left ∙ ap (λ (l : List Word). words_bytes due l ++ rest) none;
    }
