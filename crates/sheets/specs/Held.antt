-- What the checker's code holds of a proof sheet that was read: what the sheet says, its model as words, and where the words lie that are run.
use Rattle.std.specs.Prelude.{◌≡◌, true, get_or, drop}
use Rattle.std.proofs.Math.Path.{refl, sym, ap, ap₂, subst}
use Rattle.std.proofs.Common.{◌∙◌, not-suc-le-zero, le_of_suc-le-suc, mul-le-mul, add-one, arith, length-drop, drop-drop, take_all}
use mathlib.Core.List.{List, [], ◌∷◌}
use Prim.Native.Nat.{ℕ, zero, suc, ◌+◌, ◌*◌, ◌-◌, ◌≤◌, ◌<◌}
use Rattle.std.proofs.Math.ListN.{length, take, length-append}
use Rattle.std.proofs.Math.Seq.{take_at}
use Rattle.rules.specs.Words.{Word, Below}
use Rattle.rules.specs.Answer.{gives}
use Rattle.rules.specs.Areas.{put}
use Rattle.rules.specs.Sheets.{Proof, word_bytes, words_bytes}
use Rattle.machine.specs.Lent.{link, letters_below, Sound}
use Rattle.machine.specs.LentLaws.{below_letters}
use Rattle.sheets.specs.Reading.{Parsed, bad, good}
use Rattle.sheets.specs.Proofs.{proof_sheet, Counts, read_proof}
use Rattle.sheets.specs.Standing.{row_words, row_words_length}
use Rattle.sheets.specs.WordRecords.{AllFit, fits_at, Records}
use Rattle.sheets.specs.ProofParts.{counts, place_of, record_place, reaching_place, column_place, map_place}
use Rattle.sheets.specs.ProofSteps.{InRange}
use Rattle.sheets.specs.Places.{laid, reaching_records, column_records, map_lies, map_ends, read_good}
use Rattle.sheets.specs.ProofLaws.{read_ends, read_readable, model_sound}
use Rattle.sheets.specs.Checker.{model_of}

-- ---- what a sheet says; nothing, if it is refused
abbrev said_in : Parsed Proof → Proof
said_in (bad number) = record { m = 0; k = 0; n = 0; c = 0; model = []; reaching = []; columns = []; state_map = [] }
said_in (good P rest) = P

unfoldable pub said : List ℕ → Proof
unfolding proof_sheet
said sheet = said_in (proof_sheet sheet)

pub said_is : (sheet rest : List ℕ) (P : Proof) → proof_sheet sheet ≡ good P rest → said sheet ≡ P
unfolding said
said_is sheet rest P e = ap said_in e

-- ---- a sheet that was read, and its model as words
pub record Held (sheet model : List ℕ) (m k : ℕ) : Type 0 where
  pub read : proof_sheet sheet ≡ good (said sheet) []
  pub states : (said sheet).m ≡ m
  pub letters : (said sheet).k ≡ k
  pub words : (said sheet).model ≡ model
  pub sound : Sound m k model

bytes_below : (bytes : List ℕ) → ((i : ℕ) → get_or bytes i 0 < 256) → Below 256 bytes
bytes_below [] f = tt
bytes_below (x ∷ bytes) f = (f 0, bytes_below bytes (λ i. f (suc i)))

module _ (sheet : List ℕ) (h : Counts) (e : read_proof sheet ≡ gives h) where
  -- the model's rows are in the sheet, and their words go into 576
  pub rows_in : (h.m * h.k ≤ 576) × (6 + h.m * (2 + 2 * h.k) ≤ length sheet)
  rows_in =
      let g = read_good sheet h e in
      let l = laid sheet g.0 g.1 g.2 in
      let r : InRange h = subst InRange (sym l.said ∙ g.3) l.head.ranges in (
        omega (arith, mul-le-mul {n₁ = h.m} {m₁ = h.k} {n₂ = 48} {m₂ = 12} r.m_high r.k_high),
        subst (λ (h : Counts). 6 + h.m * (2 + 2 * h.k) ≤ length sheet) g.3 l.start,
      )

  -- put into an area they are its model
  pub held : (area : List ℕ) → ((i : ℕ) → get_or sheet i 0 < 256)
      → Held sheet (take (h.m * h.k) (put 0 (row_words h.k h.m (drop 6 sheet)) area)) h.m h.k
  unfolding put
  held area b =
      let g = read_good sheet h e in
      let P : Proof = g.0 in
      let is : said sheet ≡ P = said_is sheet g.1 P g.2 in
      let m : P.m ≡ h.m = ap (λ (h : Counts). h.m) g.3 in
      let k : P.k ≡ h.k = ap (λ (h : Counts). h.k) g.3 in
      let words : List ℕ = row_words h.k h.m (drop 6 sheet) in
      let long : length words ≡ h.m * h.k = row_words_length h.k h.m (drop 6 sheet) in
      let front : take (h.m * h.k) (put 0 words area) ≡ words = take_at words (drop (0 + length words) area) (h.m * h.k) long in
      let all : P.model ≡ take (h.m * h.k) (put 0 words area) = (rw (m, k) at (laid sheet P g.1 g.2).model.is) ∙ sym front in
      record {
        read = g.2 ∙ rw (read_ends sheet P g.1 g.2) (ap (λ (Q : Proof). good Q []) (sym is));
        states = ap (λ (Q : Proof). Q.m) is ∙ m;
        letters = ap (λ (Q : Proof). Q.k) is ∙ k;
        words = ap (λ (Q : Proof). Q.model) is ∙ all;
        sound = rw (m, k, all) at (model_sound P (read_readable sheet P g.1 g.2 (bytes_below sheet b)));
      }

-- ---- where the words lie
-- a word that is run, in the sheet: its record at a place, the next one after it
pub record Here (sheet : List ℕ) (k : ℕ) (w : Word) (place next : ℕ) : Type 0 where
  pub within : place + (3 + length w) ≤ length sheet
  pub size : get_or sheet (place + 2) 0 ≡ length w
  pub letters : take (length w) (drop (place + 3) sheet) ≡ w
  pub below : letters_below k w ≡ true
  pub after : next ≡ place + (3 + length w)

-- the letters that stand there are the word
pub here_word : {sheet : List ℕ} {k : ℕ} {w : Word} {place next : ℕ} → Here sheet k w place next → take (get_or sheet (place + 2) 0) (drop (place + 3) sheet) ≡ w
here_word {sheet} {k} {w} {place} h = ap (λ (i : ℕ). take i (drop (place + 3) sheet)) h.size ∙ h.letters

-- the records of words, one by one
module _ (x y : ℕ) where
  spelt_more : (words : List Word) (j : ℕ) → j < length words
      → length (words_bytes (x ∷ y ∷ []) (take (suc j) words)) ≡ length (words_bytes (x ∷ y ∷ []) (take j words)) + (3 + length (get_or words j []))
  unfolding words_bytes word_bytes
  spelt_more [] j h = absurd (not-suc-le-zero h)
  spelt_more (w ∷ words) zero h = simp length-append (omega arith)
  spelt_more (w ∷ words) (suc j) h = let i = spelt_more words j (le_of_suc-le-suc h) in simp length-append (omega arith)

  record_here : {sheet : List ℕ} {words : List Word} {at count : ℕ} {rest : List ℕ} (low high k : ℕ) → Records (x ∷ y ∷ []) sheet words at count rest
      → (length words ≡ count) × AllFit low high k words → (j : ℕ) → j < count
      → Here sheet k (get_or words j []) (place_of (x ∷ y ∷ []) at words j) (place_of (x ∷ y ∷ []) at words (j + 1))
  record_here {sheet} {words} {at} low high k r f j h =
      let i = r.lie j h in
      let long : j < length words = omega (arith, f.0) in
      record {
        within = i.within;
        size = i.size;
        letters = i.letters;
        below = below_letters k (get_or words j []) (fits_at low high k words j f.1 long).2;
        after = let e = spelt_more words j long in rw (add-one j) (omega arith);
      }

-- what reading gave is what the sheet says, and its m and k are the model's
pub counted_is : (sheet : List ℕ) (h : Counts) → read_proof sheet ≡ gives h → counts (said sheet).m (said sheet).k (said sheet).n (said sheet).c ≡ h
counted_is sheet h e = let g = read_good sheet h e in ap (λ (P : Proof). counts P.m P.k P.n P.c) (said_is sheet g.1 g.0 g.2) ∙ g.3

module _ {sheet model : List ℕ} {m k : ℕ} (H : Held sheet model m k) (h : Counts) (e : read_proof sheet ≡ gives h) where
  pub read_states : h.m ≡ m
  read_states = sym (ap (λ (h : Counts). h.m) (counted_is sheet h e)) ∙ H.states

  pub read_letters : h.k ≡ k
  read_letters = sym (ap (λ (h : Counts). h.k) (counted_is sheet h e)) ∙ H.letters

  pub read_as : read_proof sheet ≡ gives (counts m k h.n h.c)
  read_as = e ∙ ap₂ (λ (m k : ℕ). gives (counts m k h.n h.c)) read_states read_letters

-- where the records of the columns begin, and their number
abbrev pub Columns : List ℕ → ℕ → ℕ → Type 0
Columns sheet at c = (at ≡ column_place (said sheet) 0) × ((said sheet).c ≡ c)

module _ {sheet model : List ℕ} {m k : ℕ} (H : Held sheet model m k) where
  -- the sheet's model is the machine that the words lend
  pub model_is : model_of (said sheet) ≡ link m k model
  model_is = rw (H.states, H.letters, H.words) refl

  pub reaching_start : 6 + m * (2 + 2 * k) ≡ reaching_place (said sheet) 0
  unfolding reaching_place words_bytes
  reaching_start = rw (H.states, H.letters) (omega arith)

  pub reaching_here : (j : ℕ) → j < m
      → Here sheet k (get_or (said sheet).reaching j []) (reaching_place (said sheet) j) (reaching_place (said sheet) (j + 1))
  unfolding reaching_place
  reaching_here j h =
      let P : Proof = said sheet in
      subst (λ (z : ℕ). Here sheet z (get_or P.reaching j []) (reaching_place P j) (reaching_place P (j + 1))) H.letters
      (record_here 0x41 0x57 0 47 P.k (reaching_records sheet P [] H.read) (laid sheet P [] H.read).reaching j (omega (arith, H.states)))

  pub columns_many : length (said sheet).columns ≡ (said sheet).c
  columns_many = (laid sheet (said sheet) [] H.read).columns.0

  pub column_here : (j : ℕ) → j < (said sheet).c
      → Here sheet k (get_or (said sheet).columns j []) (column_place (said sheet) j) (column_place (said sheet) (j + 1))
  unfolding column_place
  column_here j h =
      let P : Proof = said sheet in
      subst (λ (z : ℕ). Here sheet z (get_or P.columns j []) (column_place P j) (column_place P (j + 1))) H.letters
      (record_here 0x43 0x57 1 93 P.k (column_records sheet P [] H.read) (laid sheet P [] H.read).columns j h)

module _ {sheet model : List ℕ} {m k n c : ℕ} (H : Held sheet model m k) (e : read_proof sheet ≡ gives (counts m k n c)) where
  -- the counts that reading gave are those of the sheet
  counted : counts (said sheet).m (said sheet).k (said sheet).n (said sheet).c ≡ counts m k n c
  counted = counted_is sheet (counts m k n c) e

  pub mapped_states : (said sheet).n ≡ n
  mapped_states = ap (λ (h : Counts). h.n) counted

  -- the columns lie after the reaching words
  pub columns_at : (record_place sheet (6 + m * (2 + 2 * k)) m ≤ length sheet) × Columns sheet (record_place sheet (6 + m * (2 + 2 * k)) m) c
  unfolding column_place reaching_place words_bytes
  columns_at =
      let r = (reaching_records sheet (said sheet) [] H.read).places (said sheet).m (omega arith) in
      let start : 6 + (said sheet).m * (2 + 2 * (said sheet).k) ≡ 6 + m * (2 + 2 * k) = rw (H.states, H.letters) refl in
      let is : record_place sheet (6 + m * (2 + 2 * k)) m ≡ reaching_place (said sheet) (said sheet).m = (rw (start, H.states) at r.0)
      ∙ rw (start, H.states) refl in
      (omega (arith, is, r.0, r.1), (omega (arith, is), ap (λ (h : Counts). h.c) counted))

  -- the map lies at the end
  pub map_is : (n ≤ length sheet) × (take (length sheet - (length sheet - n)) (drop (length sheet - n) sheet) ≡ (said sheet).state_map)
  map_is =
      let P : Proof = said sheet in
      let end = map_ends sheet P [] H.read in
      let at : length sheet - n ≡ map_place P + 2 = omega (arith, mapped_states) in
      let rest : List ℕ = drop (length sheet - n) sheet in (
        omega (arith, mapped_states),
        take_all (length sheet - (length sheet - n)) rest (omega (arith, length-drop (length sheet - n) sheet))
            ∙ ap (λ (i : ℕ). drop i sheet) at ∙ sym (drop-drop 2 (map_place P) sheet) ∙ ap (drop 2) (map_lies sheet P [] H.read),
      )
