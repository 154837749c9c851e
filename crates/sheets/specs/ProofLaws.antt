-- What is read was written so, and what is written is read back: proof sheets are written one way only. And what the reader has seen to.
use Rattle.std.specs.Prelude.{◌≡◌, refl, ◌⊎◌, true, take, eqb}
use Rattle.std.proofs.Common.{sym, ◌∙◌, subst, inl, inr, take_all, drop_of_length-le}
use Rattle.std.proofs.Math.Path.{ap}
use mathlib.Core.List.{List, [], ◌∷◌, ◌++◌}
use Prim.Native.Nat.{ℕ, suc, ◌+◌, ◌*◌, ◌/◌, ◌≤◌, ◌<◌}
use native.Mathlib.Omega.{arith}
use Rattle.std.proofs.Math.ListN.{length, get_or, drop}
use Rattle.std.proofs.Math.Arith.{digits_lt}
use Rattle.std.proofs.Math.Dec.{ltb}
use Rattle.rules.specs.Tests.{or_split, eqb_true, ltb_yes, le_yes}
use Rattle.rules.specs.Words.{Word, Below, below_drop}
use Rattle.rules.specs.Answer.{within}
use Rattle.rules.specs.Sheets.{PH, AW, CW, SM, Proof, row_bytes, word_bytes, words_bytes, proof_bytes}
use Rattle.std.specs.List.{list_all}
use Rattle.machine.specs.Lent.{next_below, Sound}
use Rattle.machine.specs.LentLaws.{all_at}
use Rattle.sheets.specs.Reading.{Parsed, good, and_then}
use Rattle.sheets.specs.Proofs.{word_records, map_byte, proof_sheet, Counts, aw_record}
use Rattle.sheets.specs.MachineLaws.{mark_read, rows_read}
use Rattle.sheets.specs.WordRecords.{Fits, AllFit, fits_at, words_read}
use Rattle.sheets.specs.ProofParts.{counts, header, map_record, body, sheet_parts, aw_place}
use Rattle.sheets.specs.ProofSteps.{InRange}
use Rattle.sheets.specs.Places.{laid, aw_record_is, aw_lies}

-- ---- what a sheet says that can be read: counts in range, and as many words of each kind as they say, each as it has to be
pub record Readable (P : Proof) : Type 0 where
  pub ranges : InRange (counts P.m P.k P.n P.c)
  pub model_many : length P.model ≡ P.m * P.k
  pub model : next_below P.m P.model ≡ true
  pub reaching_many : length P.reaching ≡ P.m
  pub reaching : AllFit 0 47 P.k P.reaching
  pub columns_many : length P.columns ≡ P.c
  pub columns : AllFit 1 93 P.k P.columns
  pub states_many : length P.state_map ≡ P.n
  pub states : list_all (map_byte P.m) P.state_map ≡ true

-- the same by index
module _ (P : Proof) (r : Readable P) where
  -- the model is a machine as lent words have to be
  pub model_sound : Sound P.m P.k P.model
  model_sound = record {
    n_low = r.ranges.m_low;
    n_high = r.ranges.m_high;
    k_low = r.ranges.k_low;
    k_high = r.ranges.k_high;
    long = r.model_many;
    next = λ s a hs ha. ltb_yes (get_or P.model (s * P.k + a) 0 / 256) P.m (all_at (λ (x : ℕ). ltb (x / 256) P.m) P.model (s * P.k + a) r.model (rw r.model_many (digits_lt hs ha)));
  }

  pub reaching_fits : (j : ℕ) → j < P.m → Fits 0 47 P.k (get_or P.reaching j [])
  reaching_fits j h = fits_at 0 47 P.k P.reaching j r.reaching (omega (arith, r.reaching_many))

  pub column_fits : (j : ℕ) → j < P.c → Fits 1 93 P.k (get_or P.columns j [])
  column_fits j h = fits_at 1 93 P.k P.columns j r.columns (omega (arith, r.columns_many))

  -- each machine state has a model state, or none
  pub state_mapped : (s : ℕ) → s < P.n → (get_or P.state_map s 0 < P.m) ⊎ (get_or P.state_map s 0 ≡ 255)
  state_mapped s h = go (or_split (ltb (get_or P.state_map s 0) P.m) _ (all_at (map_byte P.m) P.state_map s r.states (omega (arith, r.states_many))))
    where
      go : (ltb (get_or P.state_map s 0) P.m ≡ true) ⊎ (eqb (get_or P.state_map s 0) 255 ≡ true) → (get_or P.state_map s 0 < P.m) ⊎ (get_or P.state_map s 0 ≡ 255)
      go (inl e) = inl (ltb_yes (get_or P.state_map s 0) P.m e)
      go (inr e) = inr (eqb_true (get_or P.state_map s 0) 255 e)

-- ---- WHAT IS READ WAS WRITTEN SO
module _ (bytes : List ℕ) (P : Proof) (rest : List ℕ) (e : proof_sheet bytes ≡ good P rest) where
  pub read_ends : rest ≡ []
  read_ends = (laid bytes P rest e).end

  pub read_readable : Below 256 bytes → Readable P
  read_readable b =
      let l = laid bytes P rest e in
      record {
        ranges = subst InRange (sym l.said) l.head.ranges;
        model_many = l.model.long;
        model = l.model.next (below_drop 256 6 bytes b);
        reaching_many = l.reaching.0;
        reaching = l.reaching.1;
        columns_many = l.columns.0;
        columns = l.columns.1;
        states_many = l.states.0;
        states = l.states.1;
      }

  pub read_was : Below 256 bytes → bytes ≡ proof_bytes P
  unfolding proof_bytes
  read_was b =
      let l = laid bytes P rest e in
      l.head.spelt ∙ ap (λ (h : Counts). PH ++ (h.m ∷ h.k ∷ h.n ∷ h.c ∷ drop 6 bytes)) (sym l.said)
      ∙ ap {B = List ℕ} (λ (x : List ℕ). PH ++ (P.m ∷ P.k ∷ P.n ∷ P.c ∷ x)) (l.model.spelt (below_drop 256 6 bytes b) ∙ ap (λ (x : List ℕ). row_bytes P.k P.m P.model ++ x) l.records)

  -- the AW record of a state: the bytes at its place are the mark, the length and the letters of its word
  pub aw_there : (state : ℕ) → state < P.m → let w = get_or P.reaching state [] in
      (aw_record bytes state ≡ word_bytes AW w) × (take (length (word_bytes AW w)) (drop (aw_place bytes state) bytes) ≡ word_bytes AW w)
  unfolding word_bytes
  aw_there state h =
      let w : Word = get_or P.reaching state [] in
      let n : 3 + length w ≡ suc (suc (suc (length w))) = omega arith in
      (aw_record_is bytes P rest e state h, rw n at (aw_lies bytes P rest e state h).whole)

-- so no two sheets say the same
pub one_way : (bytes other rest rest' : List ℕ) (P : Proof) → Below 256 bytes → Below 256 other → proof_sheet bytes ≡ good P rest → proof_sheet other ≡ good P rest' → bytes ≡ other
one_way bytes other rest rest' P b o e f = read_was bytes P rest e b ∙ sym (read_was other P rest' f o)

-- ---- WHAT IS WRITTEN IS READ BACK
within_yes : (low high x : ℕ) → low ≤ x → x ≤ high → within low high x ≡ true
within_yes low high x l h = rw (le_yes low x l, le_yes x high h) refl

header_read : (h : Counts) (rest : List ℕ) → InRange h → header (PH ++ (h.m ∷ h.k ∷ h.n ∷ h.c ∷ rest)) ≡ good h rest
unfolding header
header_read h rest r =
    rw (
      mark_read 0x50 0x48 (h.m ∷ h.k ∷ h.n ∷ h.c ∷ rest),
      le_yes 4 (suc (suc (suc (suc (length rest))))) (omega arith),
      within_yes 1 48 h.m r.m_low r.m_high,
      within_yes 1 12 h.k r.k_low r.k_high,
      within_yes 1 48 h.n r.n_low r.n_high,
      le_yes h.c 59 r.c_high,
    )
    refl

map_read : (m n : ℕ) (states : List ℕ) → length states ≡ n → list_all (map_byte m) states ≡ true → map_record m n (SM ++ states) ≡ good states []
unfolding map_record
map_read m n states l p =
    rw (mark_read 0x53 0x4D states, le_yes n (length states) (omega arith), take_all n states (omega arith), drop_of_length-le states {i = n} (omega arith), p) refl

words_read_as : (x y low high k count : ℕ) (words : List Word) (rest : List ℕ) → length words ≡ count → AllFit low high k words
    → word_records (x ∷ y ∷ []) low high k count (words_bytes (x ∷ y ∷ []) words ++ rest) ≡ good words rest
words_read_as x y low high k count words rest l f = subst (λ (n : ℕ). word_records (x ∷ y ∷ []) low high k n (words_bytes (x ∷ y ∷ []) words ++ rest) ≡ good words rest) l (words_read x y low high k words rest f)

pub written_reads : (P : Proof) → Readable P → proof_sheet (proof_bytes P) ≡ good P []
unfolding proof_bytes body
written_reads P r =
    let map_part : List ℕ = SM ++ P.state_map in
    let column_part : List ℕ = words_bytes CW P.columns ++ map_part in
    let word_part : List ℕ = words_bytes AW P.reaching ++ column_part in
    sheet_parts (proof_bytes P)
    ∙ ap (λ (p : Parsed Counts). and_then p body) (header_read (counts P.m P.k P.n P.c) (row_bytes P.k P.m P.model ++ word_part) r.ranges)
    ∙ rw (
      rows_read P.m P.k P.m P.model word_part r.model_many r.model,
      words_read_as 0x41 0x57 0 47 P.k P.m P.reaching column_part r.reaching_many r.reaching,
      words_read_as 0x43 0x57 1 93 P.k P.c P.columns map_part r.columns_many r.columns,
      map_read P.m P.n P.state_map r.states_many r.states,
    )
    refl
