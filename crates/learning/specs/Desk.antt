-- The learner's desk with the table in its area: what it holds between two steps, what is read off it, and a word more in S.
use Rattle.std.specs.Prelude.{◌≡◌, ◌⊎◌, set}
use Rattle.std.proofs.Common.{sym, ◌∙◌, inl, inr, eq-or-lt_of_le, le_of_suc-le-suc, div-lt_iff_lt-mul, get_or-set_same, get_or-set_other}
use Rattle.std.proofs.Math.Path.{ap, ap₂}
use mathlib.Core.List.{List, [], ◌∷◌, ◌++◌, map}
use Prim.Native.Nat.{ℕ, suc, ◌+◌, ◌*◌, ◌-◌, ◌/◌, ◌%◌, ◌≤◌, ◌<◌}
use Rattle.std.proofs.Math.Nat.{mod-lt}
use native.Mathlib.Omega.{arith}
use Rattle.std.proofs.Math.ListN.{length, get_or, length-append, length-set, get_or-append}
use Rattle.std.proofs.Math.Seq.{get_or-append_seam}
use Rattle.std.proofs.Math.Bool.{true}
use Rattle.std.proofs.Math.Dec.{eqb}
use Rattle.rules.specs.Words.{Word}
use Rattle.rules.specs.Machine.{ask}
use Rattle.rules.specs.Seek.{seek, seek_same}
use Rattle.rules.specs.Table.{from, row, state_of, open_row, move, conjecture}
use Rattle.rules.specs.FromLaws.{map_from_same}
use Rattle.rules.specs.Sheets.{words_of}
use Rattle.rules.specs.Closing.{Shut, all_snoc}
use Rattle.machine.specs.Lent.{link, letters_below}
use Rattle.learning.specs.Laid.{Laid, laid_short, laid_below, laid_room}
use Rattle.learning.specs.Grid.{Filled, cell_of, Holds, holds_word, state_in, state_in_is, open_in, guess_in, row_stays}

pub record Held (n k : ℕ) (words : List ℕ) (S E : List Word) (table : List ℕ) : Type 0 where
  pub some : 0 < length S
  -- the one-letter words are the first columns
  pub ones : (a : ℕ) → a < k → get_or E a [] ≡ a ∷ []
  pub all : k ≤ length E
  pub large : 34043 ≤ length table
  pub holds : Holds 59 34043 (ask (link n k words)) k E S table

module _ {n k : ℕ} {words : List ℕ} {S : List Word} {rows : List ℕ} {E : List Word} {table : List ℕ} (L : Laid n k words S rows E) (H : Held n k words S E table) where
  -- the state of a row, read off the table
  pub desk_state : (r : ℕ) → r < 1 + length S * k → state_in 59 table rows (length S) (length E) r ≡ state_of (ask (link n k words)) E S (row k S r)
  desk_state r h = state_in_is H.holds rows L.low L.taken (λ i l. omega (arith, laid_room L i l, H.large, L.narrow)) r h

  -- and so the first open row from any row on
  pub desk_open : (first : ℕ) → first ≤ 1 + length S * k
      → open_in 59 table rows (length S) (length E) first (1 + length S * k)
      ≡ seek (λ (r : ℕ). eqb (state_of (ask (link n k words)) E S (row k S r)) (length S)) first (1 + length S * k - first)
  unfolding open_in
  desk_open first h =
      seek_same (λ (r : ℕ). eqb (state_in 59 table rows (length S) (length E) r) (length S))
      (λ (r : ℕ). eqb (state_of (ask (link n k words)) E S (row k S r)) (length S)) first (1 + length S * k - first)
      (λ r l u. ap (λ (x : ℕ). eqb x (length S)) (desk_state r (omega arith)))

  pub desk_first_open : open_in 59 table rows (length S) (length E) 1 (1 + length S * k) ≡ open_row (ask (link n k words)) k E S
  unfolding open_row
  desk_first_open =
      let z : 1 + length S * k - 1 ≡ length S * k = omega arith in
      desk_open 1 (omega arith) ∙ ap (seek (λ (r : ℕ). eqb (state_of (ask (link n k words)) E S (row k S r)) (length S)) 1) z

  -- ---- rule 4: the conjecture, read off the table
  -- where the table is closed each state is there
  pub desk_there : Shut (ask (link n k words)) k E S → (i : ℕ) → i < length S * k → state_in 59 table rows (length S) (length E) (1 + i) < length S
  unfolding move row
  desk_there shut i h =
      let j : i / k < length S = (div-lt_iff_lt-mul L.sound.k_low).1 h in
      let one : 1 + i ≡ suc i = omega arith in
      rw (one, desk_state (suc i) (omega arith)) (shut (i / k) (i % k) j (mod-lt i L.sound.k_low))

  pub desk_guess : (i : ℕ) → i < length S * k
      → guess_in 59 table rows (length S) k (length E) i
      ≡ 256 * (conjecture (ask (link n k words)) E S).next (i / k) (i % k) + (conjecture (ask (link n k words)) E S).out (i / k) (i % k)
  unfolding guess_in conjecture move row
  desk_guess i h =
      let j : i / k < length S = (div-lt_iff_lt-mul L.sound.k_low).1 h in
      let a : i % k < k = mod-lt i L.sound.k_low in
      let one : 1 + i ≡ suc i = omega arith in
      ap₂ (λ (x y : ℕ). 256 * x + y) (ap (state_in 59 table rows (length S) (length E)) one ∙ desk_state (suc i) (omega arith))
      (H.holds.cell (get_or rows (i / k) 0) (i % k) (L.low (i / k) j) (omega (arith, H.all))
      ∙ ap₂ (λ (x y : Word). ask (link n k words) (x ++ y)) (L.taken (i / k) j) (H.ones (i % k) a))

  pub desk_conjecture : map (guess_in 59 table rows (length S) k (length E)) (from 0 (length S * k)) ≡ words_of 256 k (conjecture (ask (link n k words)) E S)
  unfolding words_of conjecture
  desk_conjecture =
      map_from_same (guess_in 59 table rows (length S) k (length E))
      (λ (i : ℕ). 256 * (conjecture (ask (link n k words)) E S).next (i / k) (i % k) + (conjecture (ask (link n k words)) E S).out (i / k) (i % k))
      0 (length S * k) (λ i h. desk_guess i (omega arith))

  -- ---- the word of row r more
  module _ (r : ℕ) (there : r < 1 + length S * k) (more : length S < n) where
    w : Word
    w = row k S r

    pub laid_more : Laid n k words (S ++ (row k S r ∷ [])) (set rows (length S) r) E
    unfolding w
    laid_more = record {
      sound = L.sound;
      few = omega (arith, size);
      short = all_snoc (λ i x. length x ≤ i) [] S w L.short (laid_short L r there);
      letters = all_snoc (λ i x. letters_below k x ≡ true) [] S w L.letters (laid_below L r there);
      long = length-set rows (length S) r ∙ L.long;
      low = λ j h. low j (eq-or-lt_of_le (le_of_suc-le-suc (omega (arith, size))));
      taken = λ j h. taken j (eq-or-lt_of_le (le_of_suc-le-suc (omega (arith, size))));
      narrow = L.narrow;
      column_letters = L.column_letters;
    }
      where
        size : length (S ++ (w ∷ [])) ≡ length S + 1
        size = length-append S (w ∷ [])

        here : length S < length rows
        here = omega (arith, L.long, L.sound.n_high)

        low : (j : ℕ) → (j ≡ length S) ⊎ (j < length S) → get_or (set rows (length S) r) j 0 < 1 + length (S ++ (w ∷ [])) * k
        low j (inl e) = rw (e, get_or-set_same rows (length S) r 0 here, size) (omega arith)
        low j (inr h) = rw (get_or-set_other rows (length S) j r 0 (λ e. other e h), size) (omega (arith, L.low j h))
          where
            other : j ≡ length S → j < length S → ⊥
            other e h = omega arith

        taken : (j : ℕ) → (j ≡ length S) ⊎ (j < length S) → row k (S ++ (w ∷ [])) (get_or (set rows (length S) r) j 0) ≡ get_or (S ++ (w ∷ [])) j []
        taken j (inl e) = rw (e, get_or-set_same rows (length S) r 0 here) (row_stays k S (w ∷ []) r L.sound.k_low there ∙ sym (get_or-append_seam S w [] []))
        taken j (inr h) =
            rw (get_or-set_other rows (length S) j r 0 (λ e. other e h))
            (row_stays k S (w ∷ []) (get_or rows j 0) L.sound.k_low (L.low j h) ∙ L.taken j h ∙ sym (get_or-append S (w ∷ []) [] j h))
          where
            other : j ≡ length S → j < length S → ⊥
            other e h = omega arith

    pub held_more : {table' : List ℕ} → Filled 59 (cell_of (ask (link n k words)) k (S ++ (row k S r ∷ [])) E) (1 + length S * k) (1 + length S * k + k) 0 (length E) table table'
        → Held n k words (S ++ (row k S r ∷ [])) E table'
    held_more F = record {
      some = omega (arith, length-append S (row k S r ∷ []));
      ones = H.ones;
      all = H.all;
      large = omega (arith, H.large, F.size);
      holds = holds_word L.sound.k_low L.narrow H.holds (row k S r) F;
    }
