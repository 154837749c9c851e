-- What the loop of closing asks for: S is told apart and cannot outgrow the machine's states, and once an open row's word is added the
-- search for the next one goes on from that row.
use Rattle.std.specs.Prelude.{◌≡◌, refl, List, [], ◌∷◌, ◌++◌, ℕ, suc, ◌+◌, ◌*◌, ◌-◌, ◌≤◌, ◌<◌, length, eqb}
use Rattle.std.proofs.Common.{sym, ap, ap₂, ◌∙◌, subst, suc-mul, arith, length-append}
use Rattle.rules.specs.Words.{Word, Below}
use Rattle.rules.specs.Machine.{lent, ask}
use Rattle.rules.specs.Seek.{seek}
use Rattle.rules.specs.Table.{row, state_of, open_row, close}
use Rattle.rules.specs.Closing.{Told, Columns, Words, all_snoc, open_told, open_on, closing_step, closing_stop}
use Rattle.rules.specs.Round.{lower_bound}
use Rattle.rules.proofs.Links.{machine_classes}
use Rattle.machine.specs.Lent.{link, Sound}
use Rattle.machine.specs.LentLaws.{sound_steps, steps_complete, letters_are_below}
use Rattle.learning.specs.Grid.{open_in}
use Rattle.learning.specs.Laid.{Laid, laid_below}
use Rattle.learning.specs.Desk.{Held, desk_open, desk_first_open}

-- words that are told apart are no more than the machine's states
pub told_few : {n k : ℕ} {words : List ℕ} (E S : List Word) → Sound n k words → Told (ask (link n k words)) E S → Words k S → Columns 1 E → Words k E → length S ≤ n
unfolding lent
told_few {n} {k} {words} E S sound told ws cs ls =
    let M = link n k words in
    lower_bound (ask M) k 1 n E S (machine_classes k M M (steps_complete (sound_steps sound)) (λ w b. refl)) told ws cs ls

-- the letters of a desk's words and columns
module _ {n k : ℕ} {words : List ℕ} {S : List Word} {rows : List ℕ} {E : List Word} (L : Laid n k words S rows E) where
  pub laid_words : Words k S
  laid_words j h = letters_are_below k _ (L.letters j h)

  pub laid_columns : Words k E
  laid_columns j h = letters_are_below k _ (L.column_letters j h)

module _ {n k : ℕ} {words : List ℕ} {S : List Word} {rows : List ℕ} {E : List Word} (L : Laid n k words S rows E)
    (told : Told (ask (link n k words)) E S) (cols : Columns 1 E) (r : ℕ) (is : r ≡ open_row (ask (link n k words)) k E S) (there : r < 1 + length S * k) where
  some : open_row (ask (link n k words)) k E S < 1 + length S * k
  some = rw (sym is) there

  pub more_told : Told (ask (link n k words)) E (S ++ (row k S r ∷ []))
  more_told = rw is (open_told (ask (link n k words)) k E S told some)

  -- there is a state that S lacks
  pub more_states : length S < n
  more_states =
      let w : Word = row k S r in
      let b = told_few E (S ++ (w ∷ [])) L.sound more_told (all_snoc (λ i x. Below k x) [] S w (laid_words L) (letters_are_below k w (laid_below L r there))) cols (laid_columns L) in
      omega (arith, length-append S (w ∷ []))

  -- the closing that is left
  pub more_closing : (room : ℕ) → 0 < room → close (ask (link n k words)) k room E S ≡ close (ask (link n k words)) k (room - 1) E (S ++ (row k S r ∷ []))
  more_closing room h =
      let e : room ≡ suc (room - 1) = omega arith in
      ap (λ (i : ℕ). close (ask (link n k words)) k i E S) e
      ∙ closing_step (ask (link n k words)) k (room - 1) E S some
      ∙ ap (λ (i : ℕ). close (ask (link n k words)) k (room - 1) E (S ++ (row k S i ∷ []))) (sym is)

  -- the next open row
  pub more_open : {rows' table' : List ℕ} → Laid n k words (S ++ (row k S r ∷ [])) rows' E → Held n k words (S ++ (row k S r ∷ [])) E table'
      → open_in 59 table' rows' (length (S ++ (row k S r ∷ []))) (length E) r (1 + length (S ++ (row k S r ∷ [])) * k) ≡ open_row (ask (link n k words)) k E (S ++ (row k S r ∷ []))
  more_open L' H' =
      let q = ask (link n k words) in
      let X : List Word = S ++ (row k S r ∷ []) in
      desk_open L' H' r (omega (arith, ap (λ (i : ℕ). i * k) (length-append S (row k S r ∷ [])), suc-mul (length S) k))
      ∙ ap (λ (i : ℕ). seek (λ (j : ℕ). eqb (state_of q E X (row k X j)) (length X)) i (1 + length X * k - i)) is
      ∙ sym (open_on q k E S (row k S r) L.sound.k_low some)

-- the loop: S as it stands, and the closing that is left
pub record Closing (n k : ℕ) (words : List ℕ) (S₀ E S : List Word) (rows table : List ℕ) (from : ℕ) : Type 0 where
  pub held : Held n k words S E table
  pub told : Told (ask (link n k words)) E S
  pub next : open_in 59 table rows (length S) (length E) from (1 + length S * k) ≡ open_row (ask (link n k words)) k E S
  pub low : from ≤ 1 + length S * k
  pub begun : length S₀ ≤ length S
  pub left : close (ask (link n k words)) k n E S₀ ≡ close (ask (link n k words)) k (n - (length S - length S₀)) E S

pub closing_begins : {n k : ℕ} {words : List ℕ} {S : List Word} {rows : List ℕ} {E : List Word} {table : List ℕ} → Laid n k words S rows E → Held n k words S E table
    → Told (ask (link n k words)) E S → Closing n k words S E S rows table 1
closing_begins {n} {k} {words} {S} {rows} {E} {table} L H told =
    let z : n - (length S - length S) ≡ n = omega arith in
    record {
      held = H;
      told = told;
      next = desk_first_open L H;
      low = omega arith;
      begun = omega arith;
      left = ap (λ (i : ℕ). close (ask (link n k words)) k i E S) (sym z);
    }

module _ {n k : ℕ} {words : List ℕ} {S₀ E S : List Word} {rows table : List ℕ} {from : ℕ} (C : Closing n k words S₀ E S rows table from)
    (L : Laid n k words S rows E) (cols : Columns 1 E) where
  module _ (r : ℕ) (at : open_in 59 table rows (length S) (length E) from (1 + length S * k) ≡ r) (there : r < 1 + length S * k) where
    is : r ≡ open_row (ask (link n k words)) k E S
    is = sym at ∙ C.next

    pub closing_room : length S < n
    closing_room = more_states L C.told cols r is there

    -- it goes on with one word more
    pub closing_on : {S' : List Word} {rows' table' : List ℕ} → Laid n k words S' rows' E → Held n k words S' E table' → S' ≡ S ++ (row k S r ∷ [])
        → Closing n k words S₀ E S' rows' table' r
    closing_on {S'} {rows'} {table'} L' H' grown =
        let size : length S' ≡ length S + 1 = ap length grown ∙ length-append S (row k S r ∷ []) in
        let few = closing_room in
        let room : n - (length S - length S₀) - 1 ≡ n - (length S' - length S₀) = omega (arith, C.begun) in
        record {
          held = H';
          told = subst (λ (X : List Word). Told (ask (link n k words)) E X) (sym grown) (more_told L C.told cols r is there);
          next = rw grown (more_open L C.told cols r is there (rw grown at L') (rw grown at H'));
          low = omega (arith, ap (λ (i : ℕ). i * k) size);
          begun = omega (arith, C.begun);
          left = C.left ∙ more_closing L C.told cols r is there (n - (length S - length S₀)) (omega (arith, C.begun))
              ∙ ap₂ (λ (i : ℕ) (X : List Word). close (ask (link n k words)) k i E X) room (sym grown);
        }

  -- it stops where no row is open
  pub closing_ended : open_in 59 table rows (length S) (length E) from (1 + length S * k) ≡ 1 + length S * k → S ≡ close (ask (link n k words)) k n E S₀
  closing_ended end = sym (C.left ∙ closing_stop (ask (link n k words)) k (n - (length S - length S₀)) E S (sym C.next ∙ end))
