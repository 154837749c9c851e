-- One round on the desk: the suffix becomes the last column, its cells are filled, and the table may be closed again.
use Rattle.std.specs.Prelude.{◌≡◌, ◌≢◌, true, get_or, take}
use Rattle.std.proofs.Common.{◌∙◌, arith, length-append}
use Rattle.std.proofs.Math.Path.{ap}
use mathlib.Core.List.{List, [], ◌∷◌, ◌++◌}
use Prim.Native.Nat.{ℕ, suc, ◌+◌, ◌*◌, ◌-◌, ◌≤◌, ◌<◌}
use Rattle.std.proofs.Math.ListN.{length, drop, length-drop, get_or-append}
use Rattle.std.proofs.Math.Seq.{take_all}
use Rattle.rules.specs.Words.{Word, Below}
use Rattle.rules.specs.Machine.{lent, ask}
use Rattle.rules.specs.Table.{move, cut, suffix}
use Rattle.rules.specs.Closing.{Told, Shut, Columns, all_snoc, told_more}
use Rattle.rules.specs.Round.{guess, Opened, round, suffix_long, suffix_below}
use Rattle.rules.specs.Rounds.{more}
use Rattle.machine.specs.Lent.{link, letters_below}
use Rattle.machine.specs.LentLaws.{letters_are_below, below_letters}
use Rattle.machine.specs.declared.lent.Lent.{Lent}
use Rattle.machine.specs.Linked.{linked}
use Rattle.learning.specs.Grid.{Filled, cell_of, holds_columns}
use Rattle.learning.specs.Laid.{Laid}
use Rattle.learning.specs.Desk.{Held}
use Rattle.learning.specs.Cut.{cut_in, cut_is}

-- ---- a column more
module _ {n k : ℕ} {words : List ℕ} {S : List Word} {rows : List ℕ} {E : List Word} (L : Laid n k words S rows E) (e : Word) where
  pub laid_column : letters_below k e ≡ true → length E < 59 → Laid n k words S rows (E ++ (e ∷ []))
  laid_column letters fewer = record {
    sound = L.sound;
    few = L.few;
    short = L.short;
    letters = L.letters;
    long = L.long;
    low = L.low;
    taken = L.taken;
    narrow = omega (arith, length-append E (e ∷ []));
    column_letters = all_snoc (λ c x. letters_below k x ≡ true) [] E e L.column_letters letters;
  }

  pub held_column : {table table' : List ℕ} → Held n k words S E table
      → Filled 59 (cell_of (ask (link n k words)) k S (E ++ (e ∷ []))) 0 (1 + length S * k) (length E) (length (E ++ (e ∷ []))) table table'
      → Held n k words S (E ++ (e ∷ [])) table'
  held_column H F = record {
    some = H.some;
    ones = λ a h. get_or-append E (e ∷ []) [] a (omega (arith, H.all)) ∙ H.ones a h;
    all = omega (arith, H.all, length-append E (e ∷ []));
    large = omega (arith, H.large, F.size);
    holds = holds_columns L.sound.k_low L.narrow H.holds (e ∷ []) F;
  }

-- ---- what a round needs: a closed table, its conjecture as lent words, and a word on which machine and conjecture differ
pub record Ready (n k : ℕ) (words : List ℕ) (S E : List Word) (model : Lent) (w : Word) : Type 0 where
  pub told : Told (ask (link n k words)) E S
  pub shut : Shut (ask (link n k words)) k E S
  pub head : get_or S 0 [] ≡ []
  pub cols : Columns 1 E
  pub states : model.n ≡ length S
  pub over : model.k ≡ k
  pub moves : (j a : ℕ) → j < length S → a < k → (linked model).next j a ≡ move (ask (link n k words)) E S j a
  pub letters : letters_below k w ≡ true
  pub short : length w ≤ 94
  pub differ : ask (link n k words) w ≢ guess (ask (link n k words)) 1 E S w

module _ {n k : ℕ} {words : List ℕ} {S E : List Word} {model : Lent} {w : Word} (R : Ready n k words S E model w) (some : 0 < length S) where
  below : Below k w
  below = letters_are_below k w R.letters

  opened : Opened (ask (link n k words)) k 1 E S w
  opened = round (ask (link n k words)) k 1 E S R.told R.shut some R.head w below R.differ

  -- the code's cut is the rule's, and lies before the last letter
  pub round_cut : cut_in (ask (link n k words)) S (linked model).next w ≡ cut (ask (link n k words)) 1 E S w
  unfolding lent
  round_cut =
      cut_is (ask (link n k words)) k S E (linked model).next some R.moves
      (λ j a hj ha. rw R.states at (model.steps.next j a (rw R.states hj) (rw R.over ha))) w below

  pub round_low : cut_in (ask (link n k words)) S (linked model).next w + 1 < length w
  round_low = omega (arith, round_cut, opened.low)

  -- what is left of w after it is the suffix, of 1 to 93 letters below k
  pub round_suffix : (i : ℕ) → i ≡ cut_in (ask (link n k words)) S (linked model).next w → take (length w - (i + 1)) (drop (i + 1) w) ≡ suffix (ask (link n k words)) 1 E S w
  unfolding suffix
  round_suffix i e =
      let n : i + 1 ≡ suc (cut (ask (link n k words)) 1 E S w) = omega (arith, round_cut) in
      take_all (length w - (i + 1)) (drop (i + 1) w) (omega (arith, length-drop (i + 1) w)) ∙ ap (λ (j : ℕ). drop j w) n

  pub round_letters : letters_below k (suffix (ask (link n k words)) 1 E S w) ≡ true
  round_letters = below_letters k _ (suffix_below (ask (link n k words)) k 1 E S R.told R.shut some R.head w below)

  pub round_short : length (suffix (ask (link n k words)) 1 E S w) < 94
  unfolding suffix
  round_short = rw (length-drop (suc (cut (ask (link n k words)) 1 E S w)) w) (omega (arith, R.short, opened.low))

  pub round_told : Told (ask (link n k words)) (more (ask (link n k words)) 1 E S w) S
  unfolding more
  round_told = told_more (ask (link n k words)) E S (suffix (ask (link n k words)) 1 E S w) R.told

  pub round_columns : Columns 1 (more (ask (link n k words)) 1 E S w)
  unfolding more
  round_columns =
      all_snoc (λ i x. 1 ≤ length x) [] E (suffix (ask (link n k words)) 1 E S w) R.cols
      (suffix_long (ask (link n k words)) k 1 E S R.told R.shut some R.head w opened)
