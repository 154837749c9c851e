-- Pairs and rows of a sheet: their lengths, one more at the end, and how they are put into a lent area one by one.
use Rattle.std.specs.Prelude.{◌≡◌, refl, List, [], ◌∷◌, ◌++◌, ℕ, zero, suc, ◌+◌, ◌*◌, ◌/◌, ◌%◌, ◌-◌, ◌≤◌, ◌<◌, length, get_or, take, drop, set}
use Rattle.std.proofs.Common.{sym, ap, ◌∙◌, append_assoc, append-nil, zero-mul, suc-mul, mul-le-mul, mul-le-mul_right, add-one, arith, length-append, length-drop, length-take-le, take-suc, drop-drop, get_or-drop}
use Rattle.rules.specs.Areas.{put, put_one, put_put, put_store}
use Rattle.rules.specs.Sheets.{MH, MR, pair_bytes, row_bytes, machine_bytes}

-- the pair of one word
abbrev pub pair : ℕ → List ℕ
pair x = x % 256 ∷ x / 256 ∷ []

pub pairs_length : (words : List ℕ) → length (pair_bytes words) ≡ 2 * length words
unfolding pair_bytes
pairs_length [] = refl
pairs_length (x ∷ words) = let h = pairs_length words in omega arith

pub pairs_append : (xs ys : List ℕ) → pair_bytes (xs ++ ys) ≡ pair_bytes xs ++ pair_bytes ys
unfolding pair_bytes
pairs_append [] ys = refl
pairs_append (x ∷ xs) ys = ap {B = List ℕ} (λ (l : List ℕ). x % 256 ∷ x / 256 ∷ l) (pairs_append xs ys)

-- the first k words have 2·k bytes
pub pairs_of : (k : ℕ) (words : List ℕ) → k ≤ length words → length (pair_bytes (take k words)) ≡ 2 * k
pairs_of k words h = pairs_length (take k words) ∙ ap (λ (n : ℕ). 2 * n) (length-take-le k words h)

-- one pair more
pub pairs_more : (words : List ℕ) (i : ℕ) → i < length words → pair_bytes (take (i + 1) words) ≡ pair_bytes (take i words) ++ pair (get_or words i 0)
unfolding pair_bytes
pairs_more words i h = rw (add-one, take-suc words i 0 h) (pairs_append (take i words) (get_or words i 0 ∷ []))

-- one row
abbrev pub row_of : ℕ → List ℕ → List ℕ
row_of k words = MR ++ pair_bytes (take k words)

pub row_length : (k : ℕ) (words : List ℕ) → k ≤ length words → length (row_of k words) ≡ 2 + 2 * k
row_length k words h = let l = pairs_of k words h in omega arith

pub rows_length : (k r : ℕ) (words : List ℕ) → r * k ≤ length words → length (row_bytes k r words) ≡ r * (2 + 2 * k)
unfolding row_bytes
rows_length k zero words h = sym (zero-mul (2 + 2 * k))
rows_length k (suc r) words h =
    let l = pairs_of k words (omega (arith, suc-mul r k)) in
    let rest = rows_length k r (drop k words) (simp length-drop (omega (arith, suc-mul r k))) in
    rw (length-append (pair_bytes (take k words)) (row_bytes k r (drop k words))) (omega (arith, suc-mul r (2 + 2 * k)))

-- one row more
pub rows_more : (k r : ℕ) (words : List ℕ) → row_bytes k (suc r) words ≡ row_bytes k r words ++ row_of k (drop (r * k) words)
unfolding row_bytes
rows_more k zero words = rw (zero-mul k) (ap {B = List ℕ} (λ (l : List ℕ). MR ++ l) (append-nil (pair_bytes (take k words))))
rows_more k (suc r) words =
    let e : k + r * k ≡ suc r * k = omega (arith, suc-mul r k) in
    let last : drop (r * k) (drop k words) ≡ drop (suc r * k) words = drop-drop (r * k) k words ∙ ap (λ (n : ℕ). drop n words) e in
    ap {B = List ℕ} (λ (l : List ℕ). MR ++ (pair_bytes (take k words) ++ l)) (rows_more k r (drop k words) ∙ ap (λ (l : List ℕ). row_bytes k r (drop k words) ++ row_of k l) last)
    ∙ ap {B = List ℕ} (λ (l : List ℕ). MR ++ l) (sym (append_assoc (pair_bytes (take k words)) (row_bytes k r (drop k words)) (row_of k (drop (suc r * k) words))))

-- the whole sheet
pub machine_length : (n k : ℕ) (words : List ℕ) → n * k ≤ length words → length (machine_bytes n k words) ≡ 4 + n * (2 + 2 * k)
unfolding machine_bytes
machine_length n k words h = let l = rows_length k n words h in omega arith

-- the rows of the longest sheet, and its words
pub rows_most : (n k : ℕ) → n ≤ 48 → k ≤ 12 → n * (2 + 2 * k) ≤ 1248
rows_most n k hn hk = mul-le-mul {n₁ = n} {m₁ = 2 + 2 * k} {n₂ = 48} {m₂ = 26} hn (omega arith)

pub words_most : (n k : ℕ) → n ≤ 48 → k ≤ 12 → n * k ≤ 576
words_most n k hn hk = mul-le-mul {n₁ = n} {m₁ = k} {n₂ = 48} {m₂ = 12} hn hk

-- of n things of one size, r come before another
pub room : (r n size : ℕ) → r < n → r * size + size ≤ n * size
room r n size h = omega (arith, suc-mul r size, mul-le-mul_right {m = suc r} {n = n} size h)

-- ---- put into an area
-- two bytes side by side
pub put_two : (area : List ℕ) (i x y : ℕ) → i + 2 ≤ length area → set (set area i x) (i + 1) y ≡ put i (x ∷ y ∷ []) area
put_two area i x y h = ap (λ (l : List ℕ). set l (i + 1) y) (put_one area i x (omega arith)) ∙ put_store i (x ∷ []) y area (omega arith)

-- what has n bytes, and what follows it
pub put_next : (at n : ℕ) (x y area : List ℕ) → length x ≡ n → at + (n + length y) ≤ length area → put (at + n) y (put at x area) ≡ put at (x ++ y) area
put_next at n x y area l h = rw (sym l) (put_put at x y area (omega arith))

-- the pair number i of the words from a place on
pub put_pairs_more : (at from i : ℕ) (words area : List ℕ) → from + i < length words → at + 2 * (i + 1) ≤ length area
    → put (at + 2 * i) (pair (get_or words (from + i) 0)) (put at (pair_bytes (take i (drop from words))) area) ≡ put at (pair_bytes (take (i + 1) (drop from words))) area
put_pairs_more at from i words area h f =
    let l : length (drop from words) ≡ length words - from = length-drop from words in
    let z = pairs_more (drop from words) i (omega arith) in
    rw (z, get_or-drop) (put_next at (2 * i) (pair_bytes (take i (drop from words))) (pair (get_or words (from + i) 0)) area (pairs_of i (drop from words) (omega arith)) (omega arith))

-- a mark and the pairs after it
pub put_row : (at k : ℕ) (words area : List ℕ) → k ≤ length words → at + (2 + 2 * k) ≤ length area → put (at + 2) (pair_bytes (take k words)) (put at MR area) ≡ put at (row_of k words) area
put_row at k words area h f = let p = pairs_of k words h in put_put at MR (pair_bytes (take k words)) area (omega arith)

-- the row number r
pub put_rows_more : (at k r : ℕ) (words area : List ℕ) → r * k + k ≤ length words → at + r * (2 + 2 * k) + (2 + 2 * k) ≤ length area
    → put (at + r * (2 + 2 * k)) (row_of k (drop (r * k) words)) (put at (row_bytes k r words) area) ≡ put at (row_bytes k (r + 1) words) area
put_rows_more at k r words area h f =
    let l : length (drop (r * k) words) ≡ length words - r * k = length-drop (r * k) words in
    let p = row_length k (drop (r * k) words) (omega arith) in
    let q = rows_length k r words (omega arith) in
    rw (add-one, rows_more k r words) (put_next at (r * (2 + 2 * k)) (row_bytes k r words) (row_of k (drop (r * k) words)) area q (omega arith))

-- a machine sheet: its mark, n and k, and its rows
pub put_machine : (n k : ℕ) (words area : List ℕ) → n * k ≤ length words → 4 + n * (2 + 2 * k) ≤ length area
    → put 4 (row_bytes k n words) (set (set (put 0 MH area) 2 n) 3 k) ≡ put 0 (machine_bytes n k words) area
unfolding machine_bytes
put_machine n k words area h f =
    let l = rows_length k n words h in
    ap (λ (a : List ℕ). put 4 (row_bytes k n words) a) (ap (λ (a : List ℕ). set a 3 k) (put_store 0 MH n area (omega arith)) ∙ put_store 0 (MH ++ (n ∷ [])) k area (omega arith))
    ∙ put_put 0 (MH ++ (n ∷ k ∷ [])) (row_bytes k n words) area (omega arith)
