-- Lent areas: bytes (or words) that are written at a place, and the rest as it was.
use Rattle.std.specs.Prelude.{◌≡◌, List, [], ◌∷◌, ◌++◌, ℕ, suc, ◌+◌, ◌-◌, ◌≤◌, ◌<◌, take, set, replicate}
use Rattle.std.proofs.Common.{sym, ap₂, ◌∙◌, append_assoc, append-nil, length-append, length-take, length-drop, take-append-drop, drop_of_length-le, take_at, drop_at, drop-drop, length-take-le, ext_get_or, take_all}
use Rattle.std.proofs.Math.Path.{ap}
use native.Mathlib.Omega.{arith}
use Rattle.std.proofs.Math.ListN.{length, get_or, drop, get_or-append}
use Rattle.std.proofs.lemmas.List.{set_split, take-append-le, drop-append-le}
use Rattle.std.proofs.Math.Seq.{take-append-add, drop-append-add, take-append_seam, get_or-append-add, get_or-take, get_or-drop, take-length}

-- at the start of an area
unfoldable pub over : List ℕ → List ℕ → List ℕ
over new area = new ++ drop (length new) area

-- from a place on
unfoldable pub put : ℕ → List ℕ → List ℕ → List ℕ
put at new area = take at area ++ (new ++ drop (at + length new) area)

unfoldable pub zeros : ℕ → List ℕ
zeros n = replicate n 0

pub put_start : (new area : List ℕ) → put 0 new area ≡ over new area
unfolding put over
put_start new area = let z : 0 + length new ≡ length new = omega arith in rw z

pub put_none : (at : ℕ) (area : List ℕ) → put at [] area ≡ area
unfolding put
put_none at area = let z : at + 0 ≡ at = omega arith in rw z (take-append-drop at area)

pub put_length : (at : ℕ) (new area : List ℕ) → at + length new ≤ length area → length (put at new area) ≡ length area
unfolding put
put_length at new area h = simp (length-append, length-take, length-drop) (omega arith)

-- what is written next to it joins it
pub put_put : (at : ℕ) (x y area : List ℕ) → at + (length x + length y) ≤ length area → put (at + length x) y (put at x area) ≡ put at (x ++ y) area
unfolding put
put_put at x y area h =
    let front : List ℕ = take at area ++ x in
    let rest : List ℕ = drop (at + length x) area in
    let size : length (take at area ++ x) ≡ at + length x = simp (length-append, length-take) (omega arith) in
    let whole : take at area ++ (x ++ rest) ≡ front ++ rest = sym (append_assoc (take at area) x rest) in
    let end : at + length x + length y ≡ at + length (x ++ y) = simp length-append (omega arith) in
    let one : take (at + length x) (front ++ rest) ≡ front = take_at front rest (at + length x) size in
    let two : drop (at + length x + length y) (front ++ rest) ≡ drop (at + length (x ++ y)) area =
    ap (λ (n : ℕ). drop (n + length y) (front ++ rest)) (sym size) ∙ drop-append-add front rest (length y) ∙ drop-drop (length y) (at + length x) area
    ∙ ap (λ (n : ℕ). drop n area) end in
    ap (λ (l : List ℕ). take (at + length x) l ++ (y ++ drop (at + length x + length y) l)) whole
    ∙ ap₂ (λ (l m : List ℕ). l ++ (y ++ m)) one two
    ∙ append_assoc (take at area) x (y ++ drop (at + length (x ++ y)) area)
    ∙ ap (λ (l : List ℕ). take at area ++ l) (sym (append_assoc x y (drop (at + length (x ++ y)) area)))

-- a store is a put of one
pub put_one : (area : List ℕ) (i v : ℕ) → i < length area → set area i v ≡ put i (v ∷ []) area
unfolding put
put_one area i v h = let n : suc i ≡ i + 1 = omega arith in set_split area i v h ∙ ap (λ (j : ℕ). take i area ++ (v ∷ drop j area)) n

-- one more is stored at its end
pub put_store : (at : ℕ) (x : List ℕ) (v : ℕ) (area : List ℕ) → at + length x < length area → set (put at x area) (at + length x) v ≡ put at (x ++ (v ∷ [])) area
put_store at x v area h =
    let size : length (put at x area) ≡ length area = put_length at x area (omega arith) in
    put_one (put at x area) (at + length x) v (omega arith) ∙ put_put at x (v ∷ []) area (omega arith)

-- ---- place by place
module _ (at : ℕ) (new area : List ℕ) (fits : at + length new ≤ length area) where
  front : length (take at area) ≡ at
  front = length-take-le at area (omega arith)

  pub put_below : (i : ℕ) → i < at → get_or (put at new area) i 0 ≡ get_or area i 0
  unfolding put
  put_below i h = get_or-append (take at area) (new ++ drop (at + length new) area) 0 i (omega (arith, front)) ∙ get_or-take at area i 0 h

  pub put_in : (i : ℕ) → i < length new → get_or (put at new area) (at + i) 0 ≡ get_or new i 0
  unfolding put
  put_in i h = (rw front at (get_or-append-add (take at area) (new ++ drop (at + length new) area) i 0)) ∙ get_or-append new (drop (at + length new) area) 0 i h

  pub put_above : (i : ℕ) → at + length new ≤ i → get_or (put at new area) i 0 ≡ get_or area i 0
  unfolding put
  put_above i h =
      let j = i - (at + length new) in
      let e : i ≡ at + (length new + j) = omega arith in
      let f : at + length new + j ≡ i = omega arith in
      ap (λ (n : ℕ). get_or (put at new area) n 0) e
      ∙ (rw front at (get_or-append-add (take at area) (new ++ drop (at + length new) area) (length new + j) 0))
      ∙ get_or-append-add new (drop (at + length new) area) j 0
      ∙ get_or-drop (at + length new) area j 0
      ∙ ap (λ (n : ℕ). get_or area n 0) f

-- a part of two lists that agree on its places
pub part_same : (old new : List ℕ) (a n : ℕ) → length new ≡ length old → ((i : ℕ) → a ≤ i → i < a + n → get_or new i 0 ≡ get_or old i 0) → take n (drop a new) ≡ take n (drop a old)
part_same old new a n size same = ext_get_or 0 (take n (drop a new)) (take n (drop a old)) (simp (length-take, length-drop) (omega arith)) (λ i h. at i (low i h))
  where
    low : (i : ℕ) → i < length (take n (drop a new)) → i < n
    low i h = let l = length-take n (drop a new) in omega arith

    at : (i : ℕ) → i < n → get_or (take n (drop a new)) i 0 ≡ get_or (take n (drop a old)) i 0
    at i h =
        get_or-take n (drop a new) i 0 h ∙ get_or-drop a new i 0 ∙ same (a + i) (omega arith) (omega arith)
        ∙ sym (get_or-take n (drop a old) i 0 h ∙ get_or-drop a old i 0)

-- what was put is read back
pub put_part : (at : ℕ) (new area : List ℕ) → at + length new ≤ length area → take (length new) (drop at (put at new area)) ≡ new
unfolding put
put_part at new area h =
    let d : drop at (take at area ++ (new ++ drop (at + length new) area)) ≡ new ++ drop (at + length new) area =
    drop_at (take at area) (new ++ drop (at + length new) area) at (length-take-le at area (omega arith)) in
    ap (take (length new)) d ∙ take-append_seam new (drop (at + length new) area)

-- the area up to what was put, and up to its end
pub put_keeps : (at : ℕ) (new area : List ℕ) → at ≤ length area → take at (put at new area) ≡ take at area
unfolding put
put_keeps at new area h = take_at (take at area) (new ++ drop (at + length new) area) at (length-take-le at area h)

pub put_front : (at : ℕ) (new area : List ℕ) → at + length new ≤ length area → take (at + length new) (put at new area) ≡ take at area ++ new
unfolding put
put_front at new area h =
    ap (take (at + length new)) (sym (append_assoc (take at area) new (drop (at + length new) area)))
    ∙ take_at (take at area ++ new) (drop (at + length new) area) (at + length new) (simp (length-append, length-take) (omega arith))

-- ---- a part of an area, put anew
put_left : (at : ℕ) (new x y : List ℕ) → at + length new ≤ length x → put at new (x ++ y) ≡ put at new x ++ y
unfolding put
put_left at new x y h =
    ap₂ (λ (l m : List ℕ). l ++ (new ++ m)) (take-append-le at x y (omega arith)) (drop-append-le (at + length new) x y h)
    ∙ ap (λ (l : List ℕ). take at x ++ l) (sym (append_assoc new (drop (at + length new) x) y))
    ∙ sym (append_assoc (take at x) (new ++ drop (at + length new) x) y)

put_right : (at : ℕ) (new x y : List ℕ) → put (length x + at) new (x ++ y) ≡ x ++ put at new y
unfolding put
put_right at new x y =
    let n : length x + at + length new ≡ length x + (at + length new) = omega arith in
    ap₂ (λ (l m : List ℕ). l ++ (new ++ m)) (take-append-add x y at) (ap (λ (i : ℕ). drop i (x ++ y)) n ∙ drop-append-add x y (at + length new))
    ∙ append_assoc x (take at y) (new ++ drop (at + length new) y)

-- what is put into a part that was lent from a place on is put into the area
pub put_inside : (place width at : ℕ) (new area : List ℕ) → place + width ≤ length area → at + length new ≤ width
    → take place area ++ (put at new (take width (drop place area)) ++ drop width (drop place area)) ≡ put (place + at) new area
put_inside place width at new area room fits =
    let rest : List ℕ = drop place area in
    let size : length (take place area) ≡ place = length-take-le place area (omega arith) in
    let part : length (take width rest) ≡ width = length-take-le width rest (simp length-drop (omega arith)) in
    ap (λ (l : List ℕ). take place area ++ l) (sym (put_left at new (take width rest) (drop width rest) (omega arith)) ∙ ap (put at new) (take-append-drop width rest))
    ∙ sym (put_right at new (take place area) rest)
    ∙ ap₂ (λ (i : ℕ) (l : List ℕ). put (i + at) new l) size (take-append-drop place area)

-- a copy to the start of the part from a place on is a put
pub put_copied : (area w : List ℕ) (at : ℕ) → at + length w ≤ length area
    → take at area ++ ((take (length w) w ++ drop (length w) (take (length area - at) (drop at area))) ++ drop (length area - at) (drop at area)) ≡ put at w area
unfolding put
put_copied area w at h =
    let a : take (length area - at) (drop at area) ≡ drop at area = take_all (length area - at) (drop at area) (omega (arith, length-drop at area)) in
    let b : drop (length area - at) (drop at area) ≡ [] = drop_of_length-le (drop at area) {i = length area - at} (omega (arith, length-drop at area)) in
    rw (a, b, take-length, drop-drop, append-nil)
