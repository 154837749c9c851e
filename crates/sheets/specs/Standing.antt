-- The words that stand in the bytes of a sheet, taken from their places with no test: their number, one more at the end, and how they are
-- put into a lent area one by one.
use Rattle.std.specs.Prelude.{◌≡◌, refl, List, [], ◌∷◌, ◌++◌, ℕ, zero, suc, ◌+◌, ◌*◌, ◌≤◌, ◌<◌, length, get_or, drop, set}
use Rattle.std.proofs.Common.{sym, ap, ◌∙◌, append_assoc, append-nil, zero-mul, suc-mul, add-one, arith, length-append, drop-drop, get_or-drop}
use Rattle.rules.specs.Areas.{put, put_store}
use Rattle.rules.specs.SheetLaws.{put_next}

-- the word of the pair (output, next) at a place
abbrev pub word_at : List ℕ → ℕ → ℕ
word_at bytes at = 256 * get_or bytes (at + 1) 0 + get_or bytes at 0

-- the words of k pairs
unfoldable pub pair_words : ℕ → List ℕ → List ℕ
pair_words zero bytes = []
pair_words (suc k) bytes = (256 * get_or bytes 1 0 + get_or bytes 0 0) ∷ pair_words k (drop 2 bytes)

-- the words of r rows, each with a mark before its k pairs
unfoldable pub row_words : ℕ → ℕ → List ℕ → List ℕ
unfolding pair_words
row_words k zero bytes = []
row_words k (suc r) bytes = pair_words k (drop 2 bytes) ++ row_words k r (drop (2 + 2 * k) bytes)

-- ---- pairs
pub pair_words_length : (k : ℕ) (bytes : List ℕ) → length (pair_words k bytes) ≡ k
unfolding pair_words
pair_words_length zero bytes = refl
pair_words_length (suc k) bytes = ap suc (pair_words_length k (drop 2 bytes))

-- one more
pair_words_more : (k : ℕ) (bytes : List ℕ) → pair_words (suc k) bytes ≡ pair_words k bytes ++ (word_at bytes (2 * k) ∷ [])
unfolding pair_words
pair_words_more zero bytes = refl
pair_words_more (suc k) bytes =
    let p : 2 + (2 * k + 1) ≡ 2 * suc k + 1 = omega arith in
    let q : 2 + 2 * k ≡ 2 * suc k = omega arith in
    let n : get_or (drop 2 bytes) (2 * k + 1) 0 ≡ get_or bytes (2 * suc k + 1) 0 = get_or-drop 2 bytes (2 * k + 1) 0 ∙ ap (λ (i : ℕ). get_or bytes i 0) p in
    let o : get_or (drop 2 bytes) (2 * k) 0 ≡ get_or bytes (2 * suc k) 0 = get_or-drop 2 bytes (2 * k) 0 ∙ ap (λ (i : ℕ). get_or bytes i 0) q in
    rw (pair_words_more k (drop 2 bytes), n, o)

-- the word number i is stored after those before it
pub set_pairs_more : (at from i : ℕ) (bytes area : List ℕ) → from + i < length area
    → set (put from (pair_words i (drop at bytes)) area) (from + i) (word_at bytes (at + 2 * i)) ≡ put from (pair_words (i + 1) (drop at bytes)) area
set_pairs_more at from i bytes area h =
    let l : length (pair_words i (drop at bytes)) ≡ i = pair_words_length i (drop at bytes) in
    let e : at + (2 * i + 1) ≡ at + 2 * i + 1 = omega arith in
    let w : word_at (drop at bytes) (2 * i) ≡ word_at bytes (at + 2 * i) = rw (get_or-drop at bytes (2 * i + 1) 0, get_or-drop at bytes (2 * i) 0, e) in
    let s = put_store from (pair_words i (drop at bytes)) (word_at bytes (at + 2 * i)) area (omega arith) in
    rw (add-one i, pair_words_more i (drop at bytes), w) (rw l at s)

-- ---- rows
pub row_words_length : (k r : ℕ) (bytes : List ℕ) → length (row_words k r bytes) ≡ r * k
unfolding row_words
row_words_length k zero bytes = sym (zero-mul k)
row_words_length k (suc r) bytes =
    let a = pair_words_length k (drop 2 bytes) in
    let b = row_words_length k r (drop (2 + 2 * k) bytes) in
    rw (length-append (pair_words k (drop 2 bytes)) (row_words k r (drop (2 + 2 * k) bytes))) (omega (arith, suc-mul r k))

-- one more
row_words_more : (k r : ℕ) (bytes : List ℕ) → row_words k (suc r) bytes ≡ row_words k r bytes ++ pair_words k (drop (r * (2 + 2 * k) + 2) bytes)
unfolding row_words
row_words_more k zero bytes = let z : 0 * (2 + 2 * k) + 2 ≡ 2 = omega (arith, zero-mul (2 + 2 * k)) in rw z (append-nil (pair_words k (drop 2 bytes)))
row_words_more k (suc r) bytes =
    let size : ℕ = 2 + 2 * k in
    let e : size + (r * size + 2) ≡ suc r * size + 2 = omega (arith, suc-mul r size) in
    let d : drop (r * size + 2) (drop size bytes) ≡ drop (suc r * size + 2) bytes = drop-drop (r * size + 2) size bytes ∙ ap (λ (i : ℕ). drop i bytes) e in
    ap (λ (l : List ℕ). pair_words k (drop 2 bytes) ++ l) (row_words_more k r (drop size bytes) ∙ ap (λ (l : List ℕ). row_words k r (drop size bytes) ++ pair_words k l) d)
    ∙ sym (append_assoc (pair_words k (drop 2 bytes)) (row_words k r (drop size bytes)) (pair_words k (drop (suc r * size + 2) bytes)))

-- the row number r is put after those before it
pub set_rows_more : (at k r : ℕ) (bytes area : List ℕ) → r * k + k ≤ length area
    → put (r * k) (pair_words k (drop (at + r * (2 + 2 * k) + 2) bytes)) (put 0 (row_words k r (drop at bytes)) area) ≡ put 0 (row_words k (r + 1) (drop at bytes)) area
set_rows_more at k r bytes area h =
    let e : at + (r * (2 + 2 * k) + 2) ≡ at + r * (2 + 2 * k) + 2 = omega arith in
    let d : drop (r * (2 + 2 * k) + 2) (drop at bytes) ≡ drop (at + r * (2 + 2 * k) + 2) bytes = drop-drop (r * (2 + 2 * k) + 2) at bytes ∙ ap (λ (i : ℕ). drop i bytes) e in
    let l = pair_words_length k (drop (at + r * (2 + 2 * k) + 2) bytes) in
    let z : 0 + r * k ≡ r * k = omega arith in
    let s = put_next 0 (r * k) (row_words k r (drop at bytes)) (pair_words k (drop (at + r * (2 + 2 * k) + 2) bytes)) area (row_words_length k r (drop at bytes)) (omega arith) in
    rw (add-one r, row_words_more k r (drop at bytes), d) (rw z at s)
