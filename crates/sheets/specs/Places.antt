-- Where the parts of a proof sheet lie: the model's rows from 6 on, then the records of the reaching words, those of the columns, and the
-- state map.
use Rattle.std.specs.Prelude.{◌≡◌, true, ℕ, zero, suc, ◌+◌, ◌*◌, ◌≤◌, ◌<◌, get_or, take, drop}
use Rattle.std.proofs.Math.Path.{refl, sym, ap, subst}
use Rattle.std.proofs.Common.{◌∙◌, not-suc-le-zero, le_of_suc-le-suc, suc-mul, zero-mul, arith, length-drop, drop-drop, get_or-drop, get_or-append-add}
use mathlib.Core.List.{List, [], ◌++◌, append-nil}
use Rattle.std.proofs.Math.ListN.{length, get_or-append}
use borrow.Author.Tests.{lt-ltb, le-ltb}
use Rattle.rules.specs.Answer.{refused, gives}
use Rattle.rules.specs.Sheets.{AW, CW, SM, Proof, row_bytes, word_bytes, words_bytes}
use Rattle.std.specs.List.{list_all}
use Rattle.sheets.specs.Reading.{Parsed, bad, good, and_then}
use Rattle.sheets.specs.Proofs.{map_byte, proof_sheet, Counts, counts_of, read_proof, record_of, aw_record}
use Rattle.sheets.specs.Standing.{word_at, pair_words, row_words, pair_words_length}
use Rattle.sheets.specs.Steps.{then_good, Read, rows_were}
use Rattle.sheets.specs.WordRecords.{AllFit, words_were, Lies, Records, records}
use Rattle.sheets.specs.ProofParts.{counts, header, body, sheet_parts, record_place, reaching_place, column_place, map_place, place_in, aw_place}
use Rattle.sheets.specs.WordSteps.{clash}
use Rattle.sheets.specs.ProofSteps.{InRange, counts_at, Headed, headed, parts, map_were}

-- ---- a sheet that was read
-- its header and its parts: the words that stand in the model's rows, the bytes after them, and what each part has
pub record Laid (bytes : List ℕ) (P : Proof) (rest : List ℕ) : Type 0 where
  pub head : Headed bytes
  pub said : counts P.m P.k P.n P.c ≡ counts_at bytes
  pub model : Read P.m (P.m * (2 + 2 * P.k)) (P.m * P.k) (drop 6 bytes) (drop (6 + P.m * (2 + 2 * P.k)) bytes) P.model (row_words P.k P.m (drop 6 bytes)) (row_bytes P.k P.m P.model)
  pub start : 6 + P.m * (2 + 2 * P.k) ≤ length bytes
  pub records : drop (6 + P.m * (2 + 2 * P.k)) bytes ≡ words_bytes AW P.reaching ++ (words_bytes CW P.columns ++ (SM ++ P.state_map))
  pub reaching : (length P.reaching ≡ P.m) × AllFit 0 47 P.k P.reaching
  pub columns : (length P.columns ≡ P.c) × AllFit 1 93 P.k P.columns
  pub states : (length P.state_map ≡ P.n) × (list_all (map_byte P.m) P.state_map ≡ true)
  pub end : rest ≡ []

pub laid : (bytes : List ℕ) (P : Proof) (rest : List ℕ) → proof_sheet bytes ≡ good P rest → Laid bytes P rest
laid bytes P rest e =
    let a = then_good (header bytes) body P rest (sym (sheet_parts bytes) ∙ e) in
    let h = headed bytes a.0 a.1 a.2 in
    let p = parts (counts_at bytes) (drop 6 bytes) P rest (sym (ap (λ (p : Parsed Counts). and_then p body) h.is) ∙ sym (sheet_parts bytes) ∙ e) in
    let r = rows_were P.m P.k P.m (drop 6 bytes) P.model p.after_model p.model in
    let w = words_were AW 0 47 P.k P.m p.after_model P.reaching p.after_reaching p.reaching in
    let v = words_were CW 1 93 P.k P.c p.after_reaching P.columns p.after_columns p.columns in
    let s = map_were P.m P.n p.after_columns P.state_map [] p.states in
    let after : p.after_model ≡ drop (6 + P.m * (2 + 2 * P.k)) bytes = r.after ∙ drop-drop (P.m * (2 + 2 * P.k)) 6 bytes in
    record {
      head = h;
      said = p.said;
      model = subst (λ (l : List ℕ). Read P.m (P.m * (2 + 2 * P.k)) (P.m * P.k) (drop 6 bytes) l P.model (row_words P.k P.m (drop 6 bytes)) (row_bytes P.k P.m P.model)) after r;
      start = omega (arith, r.within, h.within, length-drop 6 bytes);
      records =
          sym after ∙ w.0
          ∙ ap (λ (l : List ℕ). words_bytes AW P.reaching ++ l) (v.0 ∙ ap (λ (l : List ℕ). words_bytes CW P.columns ++ l) (s.0 ∙ ap (λ (l : List ℕ). SM ++ l) (append-nil P.state_map)));
      reaching = (w.1, w.2);
      columns = (v.1, v.2);
      states = (s.1, s.2);
      end = p.end;
    }

module _ (bytes : List ℕ) (P : Proof) (rest : List ℕ) (e : proof_sheet bytes ≡ good P rest) where
  -- the records of the reaching words: `record_place` from 6 + m·(2 + 2k) on, and what lies there
  pub reaching_records : Records AW bytes P.reaching (6 + P.m * (2 + 2 * P.k)) P.m (words_bytes CW P.columns ++ (SM ++ P.state_map))
  reaching_records =
      let l = laid bytes P rest e in
      records 0x41 0x57 bytes P.reaching (6 + P.m * (2 + 2 * P.k)) P.m (words_bytes CW P.columns ++ (SM ++ P.state_map)) l.start l.records l.reaching.0

  -- after them those of the columns
  pub column_records : Records CW bytes P.columns (reaching_place P P.m) P.c (SM ++ P.state_map)
  unfolding reaching_place
  column_records =
      let r = reaching_records in
      records 0x43 0x57 bytes P.columns (reaching_place P P.m) P.c (SM ++ P.state_map) (r.places P.m (omega arith)).1 r.left (laid bytes P rest e).columns.0

  -- after them the state map, to the end of the sheet
  pub map_lies : drop (map_place P) bytes ≡ SM ++ P.state_map
  unfolding map_place
  map_lies = column_records.left

  pub map_ends : map_place P + (2 + P.n) ≡ length bytes
  unfolding map_place column_place
  map_ends =
      let r = column_records.places P.c (omega arith) in
      omega (arith, r.1, (laid bytes P rest e).states.0, sym (length-drop (map_place P) bytes) ∙ ap length map_lies)

  -- the model state of machine state s
  pub map_at : (s : ℕ) → get_or bytes (map_place P + (2 + s)) 0 ≡ get_or P.state_map s 0
  map_at s = sym (get_or-drop (map_place P) bytes (2 + s) 0) ∙ ap (λ (l : List ℕ). get_or l (2 + s) 0) map_lies ∙ get_or-append-add SM P.state_map s 0

-- ---- the AW record of a state below m: the record of the word that reaches it, at its place
module _ (bytes : List ℕ) (P : Proof) (rest : List ℕ) (e : proof_sheet bytes ≡ good P rest) (state : ℕ) (h : state < P.m) where
  pub aw_record_is : aw_record bytes state ≡ word_bytes AW (get_or P.reaching state [])
  unfolding aw_record
  aw_record_is = ap (λ (p : Parsed Proof). record_of p state) e ∙ rw (lt-ltb state P.m h, record_of) refl

  pub aw_place_is : aw_place bytes state ≡ reaching_place P state
  unfolding aw_place
  aw_place_is = ap (λ (p : Parsed Proof). place_in p state) e ∙ rw (lt-ltb state P.m h, place_in) refl

  pub aw_lies : Lies AW (get_or P.reaching state []) bytes (aw_place bytes state)
  unfolding reaching_place
  aw_lies = subst (Lies AW (get_or P.reaching state []) bytes) (sym aw_place_is) ((reaching_records bytes P rest e).lie state h)

-- ---- the words of the model, where they stand
word_drop : (n i j : ℕ) (bytes : List ℕ) → n + i ≡ j → word_at (drop n bytes) i ≡ word_at bytes j
word_drop n i j bytes e =
    let f : n + (i + 1) ≡ j + 1 = omega arith in
    rw (get_or-drop n bytes (i + 1) 0, get_or-drop n bytes i 0, e, f) refl

pair_word_at : (k : ℕ) (bytes : List ℕ) (a : ℕ) → a < k → get_or (pair_words k bytes) a 0 ≡ word_at bytes (2 * a)
unfolding pair_words
pair_word_at zero bytes a h = absurd (not-suc-le-zero h)
pair_word_at (suc k) bytes zero h = refl
pair_word_at (suc k) bytes (suc a) h = pair_word_at k (drop 2 bytes) a (le_of_suc-le-suc h) ∙ word_drop 2 (2 * a) (2 * suc a) bytes (omega arith)

row_word_at : (k r : ℕ) (bytes : List ℕ) (s a : ℕ) → s < r → a < k → get_or (row_words k r bytes) (s * k + a) 0 ≡ word_at bytes (s * (2 + 2 * k) + (2 + 2 * a))
unfolding row_words
row_word_at k zero bytes s a h l = absurd (not-suc-le-zero h)
row_word_at k (suc r) bytes zero a h l =
    let first : List ℕ = pair_words k (drop 2 bytes) in
    let at : 0 * k + a ≡ a = omega (arith, zero-mul k) in
    ap (λ (i : ℕ). get_or (first ++ row_words k r (drop (2 + 2 * k) bytes)) i 0) at
    ∙ get_or-append first (row_words k r (drop (2 + 2 * k) bytes)) 0 a (omega (arith, pair_words_length k (drop 2 bytes)))
    ∙ pair_word_at k (drop 2 bytes) a l ∙ word_drop 2 (2 * a) (0 * (2 + 2 * k) + (2 + 2 * a)) bytes (omega (arith, zero-mul (2 + 2 * k)))
row_word_at k (suc r) bytes (suc s) a h l =
    let first : List ℕ = pair_words k (drop 2 bytes) in
    let at : suc s * k + a ≡ length first + (s * k + a) = omega (arith, pair_words_length k (drop 2 bytes), suc-mul s k) in
    ap (λ (i : ℕ). get_or (first ++ row_words k r (drop (2 + 2 * k) bytes)) i 0) at
    ∙ get_or-append-add first (row_words k r (drop (2 + 2 * k) bytes)) (s * k + a) 0
    ∙ row_word_at k r (drop (2 + 2 * k) bytes) s a (le_of_suc-le-suc h) l
    ∙ word_drop (2 + 2 * k) (s * (2 + 2 * k) + (2 + 2 * a)) (suc s * (2 + 2 * k) + (2 + 2 * a)) bytes (omega (arith, suc-mul s (2 + 2 * k)))

-- the output and the next state of model state s on letter a are the two bytes at 6 + s·(2 + 2k) + 2 + 2a
pub model_at : (bytes : List ℕ) (P : Proof) (rest : List ℕ) → proof_sheet bytes ≡ good P rest → (s a : ℕ) → s < P.m → a < P.k
    → get_or P.model (s * P.k + a) 0 ≡ word_at bytes (6 + (s * (2 + 2 * P.k) + (2 + 2 * a)))
model_at bytes P rest e s a h l =
    ap (λ (words : List ℕ). get_or words (s * P.k + a) 0) (laid bytes P rest e).model.is
    ∙ row_word_at P.k P.m (drop 6 bytes) s a h l ∙ word_drop 6 (s * (2 + 2 * P.k) + (2 + 2 * a)) (6 + (s * (2 + 2 * P.k) + (2 + 2 * a))) bytes refl

-- ---- the AW record of a state, as the code finds it
-- a sheet that is not refused says something
pub read_good : (bytes : List ℕ) (h : Counts) → read_proof bytes ≡ gives h → (P : Proof) × (rest : List ℕ) × (proof_sheet bytes ≡ good P rest) × (counts P.m P.k P.n P.c ≡ h)
unfolding read_proof
read_good bytes h e = go (proof_sheet bytes) refl e
  where
    go : (p : Parsed Proof) → proof_sheet bytes ≡ p → counts_of p ≡ gives h → (P : Proof) × (rest : List ℕ) × (proof_sheet bytes ≡ good P rest) × (counts P.m P.k P.n P.c ≡ h)
    go (bad x) g e = absurd (clash e)
    go (good P rest) g e = (P, rest, g, cc)

pub aw_refused : (bytes : List ℕ) (state x : ℕ) → read_proof bytes ≡ refused x → (aw_record bytes state ≡ []) × (aw_place bytes state ≡ 0)
unfolding read_proof aw_record aw_place
aw_refused bytes state x e = go (proof_sheet bytes) e
  where
    go : (p : Parsed Proof) → counts_of p ≡ refused x → (record_of p state ≡ []) × (place_in p state ≡ 0)
    go (bad y) e = (refl, refl)
    go (good P rest) e = absurd (clash (sym e))

-- the record of a state below m, by the bytes
pub record AwFound (bytes : List ℕ) (h : Counts) (state place : ℕ) : Type 0 where
  pub ranges : InRange h
  pub start : 6 + h.m * (2 + 2 * h.k) ≤ length bytes
  pub is : record_place bytes (6 + h.m * (2 + 2 * h.k)) state ≡ place
  pub within : place + (3 + get_or bytes (place + 2) 0) ≤ length bytes
  pub part : take (3 + get_or bytes (place + 2) 0) (drop place bytes) ≡ aw_record bytes state

module _ (bytes : List ℕ) (h : Counts) (state : ℕ) (e : read_proof bytes ≡ gives h) where
  pub aw_none : h.m ≤ state → (aw_record bytes state ≡ []) × (aw_place bytes state ≡ 0)
  unfolding aw_record aw_place
  aw_none l =
      let g = read_good bytes h e in
      let m : g.0.m ≡ h.m = ap (λ (h : Counts). h.m) g.3 in
      let t = le-ltb state g.0.m (omega arith) in
      (ap (λ (p : Parsed Proof). record_of p state) g.2 ∙ rw (t, record_of) refl, ap (λ (p : Parsed Proof). place_in p state) g.2 ∙ rw (t, place_in) refl)

  pub aw_found : state < h.m → AwFound bytes h state (aw_place bytes state)
  unfolding reaching_place
  aw_found l =
      let g = read_good bytes h e in
      found g.0 g.1 g.2 g.3
    where
      found : (P : Proof) (rest : List ℕ) → proof_sheet bytes ≡ good P rest → counts P.m P.k P.n P.c ≡ h → AwFound bytes h state (aw_place bytes state)
      found P rest g c =
          let b : state < P.m = omega (arith, ap (λ (h : Counts). h.m) c) in
          let d = laid bytes P rest g in
          let i = aw_lies bytes P rest g state b in
          let start : h.m * (2 + 2 * h.k) ≡ P.m * (2 + 2 * P.k) = ap (λ (h : Counts). h.m * (2 + 2 * h.k)) (sym c) in
          record {
            ranges = subst InRange (sym d.said ∙ c) d.head.ranges;
            start = rw start d.start;
            is = rw start (((reaching_records bytes P rest g).places state (omega arith)).0 ∙ sym (aw_place_is bytes P rest g state b));
            within = rw i.size i.within;
            part = rw i.size (i.whole ∙ sym (aw_record_is bytes P rest g state b));
          }
