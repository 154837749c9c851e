-- Tests: what is known where a Bool came out true or false.
use Rattle.std.specs.Prelude.{◌≡◌, refl, ◌⊎◌, ◌≢◌, Bool, true, false, not, ◌&&◌, ◌||◌, List, [], ◌∷◌, ℕ, zero, suc, ◌+◌, ◌≤◌, ◌<◌, eqb, ltb, leb, T}
use Rattle.std.proofs.Common.{sym, ap₂, ◌∙◌, subst, inl, inr, true≢false, eq-or-lt_of_le, arith, eqb→eq, ltb→lt, lt→ltb, nltb→le, leb→le, le→leb}
use Rattle.std.proofs.Math.Dec.{eqb_refl}

-- The test is an explicit argument: it stands under functions that compute.
pub T→true : (b : Bool) → T b → b ≡ true
T→true true t = refl
T→true false t = absurd t

pub true→T : (b : Bool) → b ≡ true → T b
true→T true e = tt
true→T false e = absurd (true≢false (sym e))

pub outcome : (b : Bool) → (b ≡ true) ⊎ (b ≡ false)
outcome true = inl refl
outcome false = inr refl

pub and_split : (a b : Bool) → (a && b) ≡ true → (a ≡ true) × (b ≡ true)
and_split true b e = (refl, e)
and_split false b e = absurd (true≢false (sym e))

pub or_split : (a b : Bool) → (a || b) ≡ true → (a ≡ true) ⊎ (b ≡ true)
or_split true b e = inl refl
or_split false b e = inr e

pub not-true : (b : Bool) → not b ≡ true → b ≡ false
not-true true e = absurd (true≢false (sym e))
not-true false e = refl

pub not-false : (b : Bool) → not b ≡ false → b ≡ true
not-false true e = refl
not-false false e = absurd (true≢false e)

-- ---- numbers
pub eqb_true : (x y : ℕ) → eqb x y ≡ true → x ≡ y
eqb_true x y e = eqb→eq x y (true→T (eqb x y) e)

pub eqb_same : (x : ℕ) → eqb x x ≡ true
eqb_same x = T→true (eqb x x) (eqb_refl x)

pub eqb_false : (x y : ℕ) → eqb x y ≡ false → x ≢ y
eqb_false x y e q = true≢false (sym (eqb_same y) ∙ subst (λ (z : ℕ). eqb z y ≡ false) q e)

pub is_true : (x y : ℕ) → x ≡ y → eqb x y ≡ true
is_true x y e = rw e (eqb_same y)

pub is_false : (x y : ℕ) → x ≢ y → eqb x y ≡ false
is_false x y f = go (eqb x y) refl
  where
    go : (b : Bool) → eqb x y ≡ b → eqb x y ≡ false
    go false e = e
    go true e = absurd (f (eqb_true x y e))

pub ltb_yes : (x y : ℕ) → ltb x y ≡ true → x < y
ltb_yes x y e = ltb→lt x y (true→T (ltb x y) e)

pub ltb_no : (x y : ℕ) → ltb x y ≡ false → y ≤ x
ltb_no x y e = nltb→le x y (rw e tt)

pub lt_yes : (x y : ℕ) → x < y → ltb x y ≡ true
lt_yes x y h = T→true (ltb x y) (lt→ltb x y h)

pub lt_no : (x y : ℕ) → y ≤ x → ltb x y ≡ false
lt_no x y h = go (ltb x y) refl
  where
    go : (b : Bool) → ltb x y ≡ b → ltb x y ≡ false
    go false e = e
    go true e = let l = ltb_yes x y e in absurd (omega arith)

pub leb_yes : (x y : ℕ) → leb x y ≡ true → x ≤ y
leb_yes x y e = leb→le x y (true→T (leb x y) e)

pub le_yes : (x y : ℕ) → x ≤ y → leb x y ≡ true
le_yes x y h = T→true (leb x y) (le→leb x y h)

-- ---- lists of numbers
unfoldable pub eqs : List ℕ → List ℕ → Bool
eqs [] [] = true
eqs [] (y ∷ ys) = false
eqs (x ∷ xs) [] = false
eqs (x ∷ xs) (y ∷ ys) = eqb x y && eqs xs ys

pub eqs_true : (xs ys : List ℕ) → eqs xs ys ≡ true → xs ≡ ys
unfolding eqs
eqs_true [] [] e = refl
eqs_true [] (y ∷ ys) e = absurd (true≢false (sym e))
eqs_true (x ∷ xs) [] e = absurd (true≢false (sym e))
eqs_true (x ∷ xs) (y ∷ ys) e =
    let p = and_split (eqb x y) (eqs xs ys) e in
    ap₂ {C = List ℕ} ◌∷◌ (eqb_true x y p.0) (eqs_true xs ys p.1)

pub eqs_same : (xs : List ℕ) → eqs xs xs ≡ true
unfolding eqs
eqs_same [] = refl
eqs_same (x ∷ xs) = rw (eqb_same x) (eqs_same xs)

pub eqs_false : (xs ys : List ℕ) → eqs xs ys ≡ false → xs ≢ ys
eqs_false xs ys e q = true≢false (sym (eqs_same xs) ∙ subst (λ (z : List ℕ). eqs xs z ≡ false) (sym q) e)

-- whatever tells equal lists is this test
pub eqs_is : (b : Bool) (xs ys : List ℕ) → (b ≡ true → xs ≡ ys) → (xs ≡ ys → b ≡ true) → b ≡ eqs xs ys
eqs_is true xs ys f g = sym (rw (f refl) (eqs_same ys))
eqs_is false xs ys f g = go (outcome (eqs xs ys))
  where
    go : (eqs xs ys ≡ true) ⊎ (eqs xs ys ≡ false) → false ≡ eqs xs ys
    go (inl e) = absurd (true≢false (sym (g (eqs_true xs ys e))))
    go (inr e) = sym e

-- ---- all of i, i + 1, .. (n of them) pass
unfoldable pub all_from : (ℕ → Bool) → ℕ → ℕ → Bool
all_from p i zero = true
all_from p i (suc n) = p i && all_from p (suc i) n

pub all_true : (p : ℕ → Bool) (i n : ℕ) → all_from p i n ≡ true → (j : ℕ) → i ≤ j → j < i + n → p j ≡ true
unfolding all_from
all_true p i zero e j l u = absurd (out l u)
  where
    out : i ≤ j → j < i + 0 → ⊥
    out l u = omega arith
all_true p i (suc n) e j l u =
    let s = and_split (p i) (all_from p (suc i) n) e in
    go (eq-or-lt_of_le l) s.0 (all_true p (suc i) n s.1 j)
  where
    go : (i ≡ j) ⊎ (i < j) → p i ≡ true → (suc i ≤ j → j < suc i + n → p j ≡ true) → p j ≡ true
    go (inl q) h ih = subst (λ (z : ℕ). p z ≡ true) q h
    go (inr m) h ih = ih m (omega arith)

pub true_all : (p : ℕ → Bool) (i n : ℕ) → ((j : ℕ) → i ≤ j → j < i + n → p j ≡ true) → all_from p i n ≡ true
unfolding all_from
true_all p i zero f = refl
true_all p i (suc n) f = rw (f i (omega arith) (omega arith)) (true_all p (suc i) n (λ j l u. f j (omega arith) (omega arith)))
