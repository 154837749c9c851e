-- What the learner's desk keeps between any two steps: words of S and columns of letters below k, and for each word of S the row that it was
-- taken from.
use Rattle.std.specs.Prelude.{◌≡◌, true, List, [], ℕ, zero, suc, ◌+◌, ◌*◌, ◌/◌, ◌≤◌, ◌<◌, length, get_or}
use Rattle.std.proofs.Common.{arith, mul-le-mul, suc-mul, div-lt_iff_lt-mul, length-append}
use Rattle.rules.specs.Words.{Word}
use Rattle.rules.specs.Table.{row}
use Rattle.rules.specs.Closing.{Short}
use Rattle.machine.specs.Lent.{letters_below, Sound}
use Rattle.learning.specs.Grid.{row_below}

pub record Laid (n k : ℕ) (words : List ℕ) (S : List Word) (rows : List ℕ) (E : List Word) : Type 0 where
  pub sound : Sound n k words
  -- S
  pub few : length S ≤ n
  pub short : Short S
  pub letters : (j : ℕ) → j < length S → letters_below k (get_or S j []) ≡ true
  -- the rows they were taken from
  pub long : length rows ≡ 48
  pub low : (j : ℕ) → j < length S → get_or rows j 0 < 1 + length S * k
  pub taken : (j : ℕ) → j < length S → row k S (get_or rows j 0) ≡ get_or S j []
  -- the columns
  pub narrow : length E ≤ 59
  pub column_letters : (c : ℕ) → c < length E → letters_below k (get_or E c []) ≡ true

module _ {n k : ℕ} {words : List ℕ} {S : List Word} {rows : List ℕ} {E : List Word} (L : Laid n k words S rows E) where
  -- a row's word has at most as many letters as S has words, and each is below k
  pub laid_short : (r : ℕ) → r < 1 + length S * k → length (row k S r) ≤ length S
  unfolding row
  laid_short zero h = omega arith
  laid_short (suc r) h =
      let j : r / k < length S = (div-lt_iff_lt-mul L.sound.k_low).1 (omega arith) in
      let l = L.short (r / k) j in
      simp length-append (omega arith)

  pub laid_below : (r : ℕ) → r < 1 + length S * k → letters_below k (row k S r) ≡ true
  laid_below r h = row_below k S r L.letters L.sound.k_low h

  -- each row of the table lies within the area
  pub laid_room : (r : ℕ) → r < 1 + length S * k → r * 59 + 59 ≤ 34043
  laid_room r h =
      let a = mul-le-mul {n₁ = length S} {m₁ = k} {n₂ = 48} {m₂ = 12} (omega (arith, L.few, L.sound.n_high)) L.sound.k_high in
      omega arith

  pub laid_size : length S * k ≤ 576
  laid_size = mul-le-mul {n₁ = length S} {m₁ = k} {n₂ = 48} {m₂ = 12} (omega (arith, L.few, L.sound.n_high)) L.sound.k_high

  -- and so do those of one word more
  pub laid_next : length S < n → 1 + length S * k + k ≤ 577
  laid_next more =
      let a = mul-le-mul {n₁ = suc (length S)} {m₁ = k} {n₂ = 48} {m₂ = 12} (omega (arith, L.sound.n_high)) L.sound.k_high in
      omega (arith, suc-mul (length S) k)
