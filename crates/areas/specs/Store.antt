-- Words kept one after the other in a flat array: slot j has `width` places, first the word's length and then its letters. This is how
-- the code keeps S (slots of 48), the columns (slots of 94) and the reaching words (slots of 48).
use Rattle.std.specs.Prelude.{◌≡◌, ◌⊎◌, get_or}
use Rattle.std.proofs.Math.Path.{sym, ap, ap₂}
use Rattle.std.proofs.Common.{◌∙◌, subst, inl, inr, mul-le-mul_right, suc-mul, eq-or-lt_of_le, le_of_suc-le-suc, drop-drop}
use mathlib.Core.List.{List, [], ◌∷◌, ◌++◌, map}
use Prim.Native.Nat.{ℕ, suc, ◌+◌, ◌*◌, ◌≤◌, ◌<◌}
use native.Mathlib.Omega.{arith}
use Rattle.std.proofs.Math.ListN.{length, take, drop, length-drop}
use Rattle.std.proofs.Math.Seq.{drop_at, length-take-le, take-append_seam}
use Rattle.rules.specs.Words.{Word, Below}
use Rattle.rules.specs.Areas.{put, put_length, put_below, put_in, part_same}
use Rattle.rules.specs.Table.{from}
use Rattle.rules.specs.Closing.{Words, all_snoc}
use Rattle.rules.specs.FromLaws.{map_from_length, map_from_at, map_from_snoc, map_from_same}

unfoldable pub slot : ℕ → List ℕ → ℕ → Word
slot width store j = take (get_or store (j * width) 0) (drop (j * width + 1) store)

-- the words of the first `count` slots
unfoldable pub stored : ℕ → List ℕ → ℕ → List Word
unfolding slot from
stored width store count = map (slot width store) (from 0 count)

-- the first `count` slots are within the array, and each word within its slot
pub record Slots (width : ℕ) (store : List ℕ) (count : ℕ) : Type 0 where
  pub room : count * width ≤ length store
  pub fits : (j : ℕ) → j < count → get_or store (j * width) 0 < width

-- ---- laws
module _ (width : ℕ) (store : List ℕ) where
  pub stored_length : (count : ℕ) → length (stored width store count) ≡ count
  unfolding stored
  stored_length count = map_from_length (slot width store) 0 count

  pub stored_at : (count j : ℕ) → j < count → get_or (stored width store count) j [] ≡ slot width store j
  unfolding stored
  stored_at count j h = let z : 0 + j ≡ j = omega arith in map_from_at (slot width store) 0 count j [] h ∙ ap (slot width store) z

  pub stored_more : (count : ℕ) → stored width store (suc count) ≡ stored width store count ++ (slot width store count ∷ [])
  unfolding stored
  stored_more count = map_from_snoc (slot width store) count

  -- a word within its slot has the length that stands before it
  pub slot_length : (j : ℕ) → j * width + width ≤ length store → get_or store (j * width) 0 < width → length (slot width store j) ≡ get_or store (j * width) 0
  unfolding slot
  slot_length j room fits = length-take-le (get_or store (j * width) 0) (drop (j * width + 1) store) (simp length-drop (omega arith))

-- a slot is read off its own places alone
pub slot_same : (width : ℕ) (old new : List ℕ) (j : ℕ) → length new ≡ length old → get_or old (j * width) 0 < width
    → ((i : ℕ) → i < j * width + width → get_or new i 0 ≡ get_or old i 0) → slot width new j ≡ slot width old j
unfolding slot
slot_same width old new j size fits same =
    ap (λ (n : ℕ). take n (drop (j * width + 1) new)) (same (j * width) (omega arith))
    ∙ part_same old new (j * width + 1) (get_or old (j * width) 0) size (λ i l h. same i (omega arith))

-- a word put into the next slot is the next word
module _ (width : ℕ) (store : List ℕ) (count : ℕ) (S : Slots width store count) (w : Word) (room : count * width + width ≤ length store) (short : length w < width) where
  size : length (put (count * width) (length w ∷ w) store) ≡ length store
  size = put_length (count * width) (length w ∷ w) store (omega arith)

  head : get_or (put (count * width) (length w ∷ w) store) (count * width) 0 ≡ length w
  head =
      let z : count * width + 0 ≡ count * width = omega arith in
      ap (λ (i : ℕ). get_or (put (count * width) (length w ∷ w) store) i 0) (sym z) ∙ put_in (count * width) (length w ∷ w) store (omega arith) 0 (omega arith)

  earlier : (j : ℕ) → j < count → j * width + width ≤ count * width
  earlier j h = omega (arith, suc-mul j width, mul-le-mul_right width h)

  -- what stands before the slot stays
  stays : (i : ℕ) → i < count * width → get_or (put (count * width) (length w ∷ w) store) i 0 ≡ get_or store i 0
  stays i h = put_below (count * width) (length w ∷ w) store (omega arith) i h

  pub new_slot : slot width (put (count * width) (length w ∷ w) store) count ≡ w
  unfolding slot put
  new_slot =
      let p = count * width in
      let rest : List ℕ = drop (p + suc (length w)) store in
      let d : drop p (put p (length w ∷ w) store) ≡ length w ∷ (w ++ rest) = drop_at (take p store) (length w ∷ (w ++ rest)) p (length-take-le p store (omega arith)) in
      let e : drop (p + 1) (put p (length w ∷ w) store) ≡ w ++ rest = sym (drop-drop 1 p (put p (length w ∷ w) store)) ∙ ap (drop 1) d in
      ap₂ take head e ∙ take-append_seam w rest

  pub old_slot : (j : ℕ) → j < count → slot width (put (count * width) (length w ∷ w) store) j ≡ slot width store j
  old_slot j h =
      let l = earlier j h in
      slot_same width store (put (count * width) (length w ∷ w) store) j size (S.fits j h) (λ i hi. stays i (omega arith))

  pub stored_put : stored width (put (count * width) (length w ∷ w) store) (suc count) ≡ stored width store count ++ (w ∷ [])
  unfolding stored
  stored_put =
      stored_more width (put (count * width) (length w ∷ w) store) count
      ∙ ap₂ (λ (l : List Word) (x : Word). l ++ (x ∷ []))
      (map_from_same (slot width (put (count * width) (length w ∷ w) store)) (slot width store) 0 count (λ j h. old_slot j (omega arith))) new_slot

  pub slots_put : Slots width (put (count * width) (length w ∷ w) store) (suc count)
  slots_put = record { room = omega (arith, size, suc-mul count width); fits = λ j h. fits j (eq-or-lt_of_le (le_of_suc-le-suc h)) }
    where
      fits : (j : ℕ) → (j ≡ count) ⊎ (j < count) → get_or (put (count * width) (length w ∷ w) store) (j * width) 0 < width
      fits j (inl e) = rw (e, head) short
      fits j (inr h) = let l = earlier j h in rw (stays (j * width) (omega (arith, S.fits j h))) (S.fits j h)

-- what is known of a slot in use, where the words are `words`
module _ {width : ℕ} {store : List ℕ} {count : ℕ} (S : Slots width store count) {words : List Word} (is : stored width store count ≡ words) (j : ℕ) (h : j < length words) where
  in_use : j < count
  in_use = omega (arith, stored_length width store count, ap length is)

  pub slot_room : j * width + width ≤ length store
  slot_room = omega (arith, in_use, suc-mul j width, mul-le-mul_right width in_use, S.room)

  pub slot_fits : get_or store (j * width) 0 < width
  slot_fits = S.fits j in_use

  pub slot_is : slot width store j ≡ get_or words j []
  slot_is = sym (stored_at width store count j in_use) ∙ ap (λ (l : List Word). get_or l j []) is

-- words kept in slots, with letters below k
pub record Kept (width k : ℕ) (store : List ℕ) (count : ℕ) : Type 0 where
  pub slots : Slots width store count
  pub letters : Words k (stored width store count)

module _ {width k : ℕ} {store : List ℕ} {count : ℕ} (K : Kept width k store count) where
  -- what a function asks that copies the word of slot j
  pub kept_room : (j : ℕ) → j < count → j * width + width ≤ length store
  kept_room j h = omega (arith, suc-mul j width, mul-le-mul_right width h, K.slots.room)

  pub kept_long : (j : ℕ) → j < count → length (slot width store j) < width
  kept_long j h = rw (slot_length width store j (kept_room j h) (K.slots.fits j h)) (K.slots.fits j h)

  pub kept_letters : (j : ℕ) → j < count → Below k (slot width store j)
  kept_letters j h = rw (stored_at width store count j h) at (K.letters j (rw (stored_length width store count) h))

  -- the first of them are kept too
  pub kept_fewer : (fewer : ℕ) → fewer ≤ count → Kept width k store fewer
  kept_fewer fewer h = record {
    slots = record { room = omega (arith, mul-le-mul_right {m = fewer} {n = count} width h, K.slots.room); fits = λ j l. K.slots.fits j (omega arith) };
    letters = λ j l. let l' : j < fewer = rw (stored_length width store fewer) at l in rw (stored_at width store fewer j l') (kept_letters j (omega arith));
  }

  -- a word more
  pub kept_more : (w : Word) → count * width + width ≤ length store → length w < width → Below k w → Kept width k (put (count * width) (length w ∷ w) store) (suc count)
  kept_more w room short below = record {
    slots = slots_put width store count K.slots w room short;
    letters = subst (λ (S : List Word). Words k S) (sym (stored_put width store count K.slots w room short))
        (all_snoc (λ i x. Below k x) [] (stored width store count) w K.letters below);
  }
