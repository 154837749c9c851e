-- The numbers i, i + 1, .. and lists made of them.
use Rattle.std.specs.Prelude.{◌≡◌, refl, List, [], ◌∷◌, ◌++◌, map, length, get_or, set}
use Rattle.std.proofs.Common.{sym, ap₂, ◌∙◌, not-suc-le-zero, le_of_suc-le-suc}
use Rattle.std.proofs.Math.Path.{ap}
use Rattle.std.proofs.lemmas.List.{map-append, length-map}
use Prim.Native.Nat.{ℕ, zero, suc, ◌+◌, ◌<◌}
use native.Mathlib.Omega.{arith}
use Rattle.rules.specs.Areas.{put, put_none, put_store}
use Rattle.rules.specs.Table.{from}

pub from_length : (i n : ℕ) → length (from i n) ≡ n
unfolding from
from_length i zero = refl
from_length i (suc n) = ap suc (from_length (suc i) n)

pub from_snoc : (i n : ℕ) → from i (suc n) ≡ from i n ++ ((i + n) ∷ [])
unfolding from
from_snoc i zero = let z : i + 0 ≡ i = omega arith in rw z
from_snoc i (suc n) =
    let z : suc i + n ≡ i + suc n = omega arith in
    ap {B = List ℕ} (λ (l : List ℕ). i ∷ l) (from_snoc (suc i) n) ∙ ap (λ (j : ℕ). i ∷ (from (suc i) n ++ (j ∷ []))) z

module _ {A : Type 0} (f : ℕ → A) where
  pub map_from_length : (i n : ℕ) → length (map f (from i n)) ≡ n
  map_from_length i n = length-map (from i n) f ∙ from_length i n

  -- the element at a place, whatever stands for none
  pub map_from_at : (i n j : ℕ) (d : A) → j < n → get_or (map f (from i n)) j d ≡ f (i + j)
  unfolding from
  map_from_at i zero j d h = absurd (not-suc-le-zero h)
  map_from_at i (suc n) zero d h = let z : i + 0 ≡ i = omega arith in rw z
  map_from_at i (suc n) (suc j) d h =
      let z : suc i + j ≡ i + suc j = omega arith in
      map_from_at (suc i) n j d (le_of_suc-le-suc h) ∙ ap f z

  pub map_from_snoc : (n : ℕ) → map f (from 0 (suc n)) ≡ map f (from 0 n) ++ (f n ∷ [])
  map_from_snoc n =
      let z : 0 + n ≡ n = omega arith in
      ap (map f) (from_snoc 0 n) ∙ map-append f (from 0 n) ((0 + n) ∷ []) ∙ ap (λ (j : ℕ). map f (from 0 n) ++ (f j ∷ [])) z

-- a list that is put into an area element by element
pub put_from_none : (f : ℕ → ℕ) (area : List ℕ) → area ≡ put 0 (map f (from 0 0)) area
unfolding from
put_from_none f area = sym (put_none 0 area)

pub put_from_more : (f : ℕ → ℕ) (i v : ℕ) (now area : List ℕ) → i < length area → now ≡ put 0 (map f (from 0 i)) area → v ≡ f i → set now i v ≡ put 0 (map f (from 0 (i + 1))) area
put_from_more f i v now area h e is =
    let n : 0 + length (map f (from 0 i)) ≡ i = omega (arith, map_from_length f 0 i) in
    let one : suc i ≡ i + 1 = omega arith in
    ap₂ (λ (l : List ℕ) (j : ℕ). set l j v) e (sym n)
    ∙ put_store 0 (map f (from 0 i)) v area (omega arith)
    ∙ ap (λ (l : List ℕ). put 0 l area) (ap (λ (x : ℕ). map f (from 0 i) ++ (x ∷ [])) is ∙ sym (map_from_snoc f i) ∙ ap (λ (j : ℕ). map f (from 0 j)) one)

-- lists that agree at each number are equal
pub map_from_same : {A : Type 0} (f g : ℕ → A) (i n : ℕ) → ((j : ℕ) → j < i + n → f j ≡ g j) → map f (from i n) ≡ map g (from i n)
unfolding from
map_from_same f g i zero h = refl
map_from_same {A} f g i (suc n) h =
    ap (λ (x : A). x ∷ map f (from (suc i) n)) (h i (omega arith)) ∙ ap (λ (l : List A). g i ∷ l) (map_from_same f g (suc i) n (λ j l. h j (omega arith)))
