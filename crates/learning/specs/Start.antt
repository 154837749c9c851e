-- Rule 1 on the desk: the empty word alone, the one-letter words for columns, and a table of zeros that is filled for them.
use Rattle.std.specs.Prelude.{◌≡◌, refl, set}
use Rattle.std.proofs.Common.{sym, ◌∙◌, not-suc-le-zero, le_of_suc-le-suc, arith}
use Rattle.std.proofs.Math.Path.{ap, subst}
use mathlib.Core.List.{List, [], ◌∷◌, ◌++◌}
use Prim.Native.Nat.{ℕ, zero, suc, ◌+◌, ◌*◌, ◌≤◌, ◌<◌}
use Rattle.std.proofs.Math.ListN.{length, get_or, length-set}
use Rattle.std.proofs.Math.Seq.{get_or-set_same}
use Rattle.rules.specs.Words.{Word}
use Rattle.rules.specs.Machine.{ask}
use Rattle.rules.specs.Table.{one_letter, row}
use Rattle.rules.specs.FromLaws.{map_from_snoc}
use Rattle.rules.specs.Closing.{Short, Told}
use Rattle.rules.proofs.Links.{one_letter_at, one_letter_length}
use Rattle.machine.specs.Lent.{link, Sound}
use Rattle.machine.specs.LentLaws.{below_letters}
use Rattle.learning.specs.Grid.{Filled, cell_of, Holds, holds_columns}
use Rattle.learning.specs.Laid.{Laid}
use Rattle.learning.specs.Desk.{Held}

-- one letter more
pub one_letter_more : (k : ℕ) → one_letter k ++ ((k ∷ []) ∷ []) ≡ one_letter (k + 1)
unfolding one_letter
one_letter_more k = let one : suc k ≡ k + 1 = omega arith in sym (map_from_snoc (λ (a : ℕ). a ∷ []) k) ∙ ap one_letter one

short_one : Short ([] ∷ [])
short_one zero h = omega arith
short_one (suc i) h = absurd (not-suc-le-zero (le_of_suc-le-suc h))

pub told_one : (ask : Word → ℕ) (E : List Word) → Told ask E ([] ∷ [])
told_one ask E i zero h hj = absurd (not-suc-le-zero h)
told_one ask E i (suc j) h hj = absurd (not-suc-le-zero (le_of_suc-le-suc hj))

module _ {n k : ℕ} {words : List ℕ} (sound : Sound n k words) where
  -- the empty word
  pub laid_first : (rows : List ℕ) → length rows ≡ 48 → Laid n k words ([] ∷ []) (set rows 0 0) (one_letter k)
  unfolding row
  laid_first rows long = record {
    sound = sound;
    few = sound.n_low;
    short = short_one;
    letters = λ j h. rw (empty j h) refl;
    long = length-set rows 0 0 ∙ long;
    low = λ j h. rw (zeroth j h) (omega arith);
    taken = λ j h. rw (zeroth j h, empty j h) refl;
    narrow = omega (arith, one_letter_length k, sound.k_high);
    column_letters = λ c h. let l : c < k = omega (arith, one_letter_length k) in rw (one_letter_at k c l) (below_letters k (c ∷ []) (l, tt));
  }
    where
      zeroth : (j : ℕ) → j < 1 → get_or (set rows 0 0) j 0 ≡ 0
      zeroth zero h = get_or-set_same rows 0 0 0 (omega arith)
      zeroth (suc j) h = absurd (not-suc-le-zero (le_of_suc-le-suc h))

      empty : (j : ℕ) → j < 1 → get_or {A = Word} ([] ∷ []) j [] ≡ []
      empty zero h = refl
      empty (suc j) h = refl

  -- and its rows
  pub held_first : {table table' : List ℕ} → 34043 ≤ length table → ((i : ℕ) → i < 34043 → get_or table i 0 ≡ 0)
      → Filled 59 (cell_of (ask (link n k words)) k ([] ∷ []) (one_letter k)) 0 (1 + k) 0 (length (one_letter k)) table table'
      → Held n k words ([] ∷ []) (one_letter k) table'
  held_first {table} {table'} large zeros F = record {
    some = omega arith;
    ones = λ a h. one_letter_at k a h;
    all = omega (arith, one_letter_length k);
    large = omega (arith, F.size);
    holds = holds_columns sound.k_low (omega arith) blank (one_letter k) filled;
  }
    where
      -- no columns: all is blank
      blank : Holds 59 34043 (ask (link n k words)) k [] ([] ∷ []) table
      blank = record { cell = λ r c hr hc. absurd (not-suc-le-zero hc); blank = λ r c h o low. zeros (r * 59 + c) low }

      filled : Filled 59 (cell_of (ask (link n k words)) k ([] ∷ []) (one_letter k)) 0 (1 + 1 * k) 0 (length (one_letter k)) table table'
      filled =
          let one : k ≡ 1 * k = omega arith in
          subst (λ (i : ℕ). Filled 59 (cell_of (ask (link n k words)) k ([] ∷ []) (one_letter k)) 0 (1 + i) 0 (length (one_letter k)) table table') one F
