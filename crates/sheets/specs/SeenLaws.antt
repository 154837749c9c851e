-- What can be read is what the checker takes as seen to. Such a sheet is read back as it was written, its numbers are bytes, and it has at
-- most 9,368 of them.
use Rattle.std.specs.Prelude.{◌≡◌, ◌⊎◌, true, List, [], ◌∷◌, ◌++◌, ℕ, zero, suc, ◌/◌, ◌≤◌, ◌<◌, length, get_or, take, drop, eqb, ltb}
use Rattle.std.proofs.Common.{inl, inr, mod-lt, arith, lit<}
use Rattle.rules.specs.Tests.{and_split, or_split, eqb_true, ltb_yes}
use Rattle.rules.specs.Words.{Word, Below, below_append, below_take, below_drop}
use Rattle.rules.specs.Sheets.{AW, CW, SM, Proof, pair_bytes, row_bytes, word_bytes, words_bytes, proof_bytes}
use Rattle.rules.specs.ProofLength.{proof_most}
use Rattle.std.specs.List.{list_all}
use Rattle.machine.specs.Lent.{next_below}
use Rattle.sheets.specs.Reading.{good}
use Rattle.sheets.specs.Proofs.{map_byte, proof_sheet}
use Rattle.sheets.specs.WordRecords.{Fits, AllFit}
use Rattle.sheets.specs.ProofLaws.{Readable, reaching_fits, column_fits, read_readable, written_reads}
use Rattle.sheets.specs.Seen.{Seen}

-- ---- seen to, and readable
fit_all : (low high k : ℕ) (words : List Word) → ((j : ℕ) → j < length words → Fits low high k (get_or words j [])) → AllFit low high k words
fit_all low high k [] f = tt
fit_all low high k (w ∷ words) f = (f 0 (omega arith), fit_all low high k words (λ j h. f (suc j) (omega arith)))

pub readable_seen : (P : Proof) → Readable P → Seen P
readable_seen P r = record {
  m_low = r.ranges.m_low;
  m_high = r.ranges.m_high;
  k_low = r.ranges.k_low;
  k_high = r.ranges.k_high;
  n_low = r.ranges.n_low;
  n_high = r.ranges.n_high;
  c_high = r.ranges.c_high;
  model_long = r.model_many;
  model_next = r.model;
  reaching_many = r.reaching_many;
  reaching_short = λ j h. (reaching_fits P r j h).1;
  reaching_letters = λ j h. (reaching_fits P r j h).2;
  columns_many = r.columns_many;
  columns_long = λ c h. (column_fits P r c h).0;
  columns_short = λ c h. (column_fits P r c h).1;
  columns_letters = λ c h. (column_fits P r c h).2;
  map_long = r.states_many;
  map_bytes_pass = r.states;
}

pub seen_readable : (P : Proof) → Seen P → Readable P
seen_readable P s = record {
  ranges = record { m_low = s.m_low; m_high = s.m_high; k_low = s.k_low; k_high = s.k_high; n_low = s.n_low; n_high = s.n_high; c_high = s.c_high };
  model_many = s.model_long;
  model = s.model_next;
  reaching_many = s.reaching_many;
  reaching = fit_all 0 47 P.k P.reaching (λ j h. let i : j < P.m = omega (arith, s.reaching_many) in (omega arith, s.reaching_short j i, s.reaching_letters j i));
  columns_many = s.columns_many;
  columns = fit_all 1 93 P.k P.columns (λ c h. let i : c < P.c = omega (arith, s.columns_many) in (s.columns_long c i, s.columns_short c i, s.columns_letters c i));
  states_many = s.map_long;
  states = s.map_bytes_pass;
}

-- what is read has been seen to
pub read_seen : (bytes rest : List ℕ) (P : Proof) → Below 256 bytes → proof_sheet bytes ≡ good P rest → Seen P
read_seen bytes rest P b e = readable_seen P (read_readable bytes P rest e b)

-- what has been seen to is read back
pub seen_reads : (P : Proof) → Seen P → proof_sheet (proof_bytes P) ≡ good P []
seen_reads P s = written_reads P (seen_readable P s)

-- ---- the numbers on such a sheet are bytes
below_more : (k l : ℕ) (w : Word) → k ≤ l → Below k w → Below l w
below_more k l [] h b = tt
below_more k l (a ∷ w) h b = (omega (arith, b.0), below_more k l w h b.1)

two_below : (x y : ℕ) (bytes : List ℕ) → x < 256 → y < 256 → Below 256 bytes → Below 256 (x ∷ y ∷ bytes)
two_below x y bytes hx hy b = (hx, (hy, b))

words_below : (m : ℕ) (words : List ℕ) → m ≤ 256 → next_below m words ≡ true → Below 65536 words
words_below m [] h e = tt
words_below m (x ∷ words) h e =
    let s = and_split (ltb (x / 256) m) (list_all (λ (x : ℕ). ltb (x / 256) m) words) e in
    let l = ltb_yes (x / 256) m s.0 in
    (omega arith, words_below m words h s.1)

pairs_below : (words : List ℕ) → Below 65536 words → Below 256 (pair_bytes words)
unfolding pair_bytes
pairs_below [] b = tt
pairs_below (x ∷ words) b = let h = b.0 in (mod-lt x (lit< tt), (omega arith, pairs_below words b.1))

rows_below : (k r : ℕ) (words : List ℕ) → Below 65536 words → Below 256 (row_bytes k r words)
unfolding row_bytes
rows_below k zero words b = tt
rows_below k (suc r) words b =
    two_below 0x4D 0x52 (pair_bytes (take k words) ++ row_bytes k r (drop k words)) (lit< tt) (lit< tt)
    (below_append 256 (pair_bytes (take k words)) (row_bytes k r (drop k words)) (pairs_below (take k words) (below_take 65536 k words b)) (rows_below k r (drop k words) (below_drop 65536 k words b)))

records_below : (x y low high k : ℕ) (words : List Word) → x < 256 → y < 256 → high < 256 → k ≤ 256 → AllFit low high k words → Below 256 (words_bytes (x ∷ y ∷ []) words)
unfolding words_bytes word_bytes
records_below x y low high k [] hx hy hh hk f = tt
records_below x y low high k (w ∷ words) hx hy hh hk f =
    let h = f.0.1 in
    two_below x y (length w ∷ (w ++ words_bytes (x ∷ y ∷ []) words)) hx hy
    (omega arith, below_append 256 w (words_bytes (x ∷ y ∷ []) words) (below_more k 256 w hk f.0.2) (records_below x y low high k words hx hy hh hk f.1))

map_below : (m : ℕ) (states : List ℕ) → m ≤ 256 → list_all (map_byte m) states ≡ true → Below 256 states
map_below m [] h e = tt
map_below m (x ∷ states) h e =
    let s = and_split (map_byte m x) (list_all (map_byte m) states) e in
    (byte (or_split (ltb x m) (eqb x 255) s.0), map_below m states h s.1)
  where
    byte : (ltb x m ≡ true) ⊎ (eqb x 255 ≡ true) → x < 256
    byte (inl e) = let l = ltb_yes x m e in omega arith
    byte (inr e) = let l = eqb_true x 255 e in omega arith

pub seen_bytes : (P : Proof) → Seen P → Below 256 (proof_bytes P)
unfolding proof_bytes
seen_bytes P s =
    let r = seen_readable P s in
    let states = map_below P.m P.state_map (omega (arith, s.m_high)) s.map_bytes_pass in
    let columns = records_below 0x43 0x57 1 93 P.k P.columns (lit< tt) (lit< tt) (lit< tt) (omega (arith, s.k_high)) r.columns in
    let reaching = records_below 0x41 0x57 0 47 P.k P.reaching (lit< tt) (lit< tt) (lit< tt) (omega (arith, s.k_high)) r.reaching in
    let rows = rows_below P.k P.m P.model (words_below P.m P.model (omega (arith, s.m_high)) s.model_next) in
    let after : List ℕ = row_bytes P.k P.m P.model ++ (words_bytes AW P.reaching ++ (words_bytes CW P.columns ++ (SM ++ P.state_map))) in
    let b : Below 256 after =
    below_append 256 (row_bytes P.k P.m P.model) _ rows
    (below_append 256 (words_bytes AW P.reaching) _ reaching (below_append 256 (words_bytes CW P.columns) _ columns (two_below 0x53 0x4D P.state_map (lit< tt) (lit< tt) states))) in
    two_below 0x50 0x48 (P.m ∷ P.k ∷ P.n ∷ P.c ∷ after) (lit< tt) (lit< tt)
    (two_below P.m P.k (P.n ∷ P.c ∷ after) (omega (arith, s.m_high)) (omega (arith, s.k_high)) (two_below P.n P.c after (omega (arith, s.n_high)) (omega (arith, s.c_high)) b))

-- ---- and it is short
pub seen_most : (P : Proof) → Seen P → length (proof_bytes P) ≤ 9368
seen_most P s =
    proof_most P s.m_high s.k_high s.model_long s.reaching_many s.reaching_short (omega (arith, s.columns_many, s.c_high)) (λ c h. s.columns_short c (omega (arith, s.columns_many)))
    (omega (arith, s.map_long, s.n_high))
