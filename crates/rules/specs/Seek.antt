-- One search for all places: the first of i, i + 1, .. (n of them) that passes a test, i + n where none does.
use Rattle.std.specs.Prelude.{◌≡◌, refl, ◌⊎◌, Bool, true, false}
use Rattle.std.proofs.Common.{sym, ap, ◌∙◌, inl, inr, true≢false, eq-or-lt_of_le, add-one}
use Prim.Native.Nat.{ℕ, zero, suc, ◌+◌, ◌-◌, ◌≤◌, ◌<◌}
use Rattle.std.proofs.Math.Decide.{dec_lt, ℕ_discrete}
use native.Mathlib.Omega.{arith}

unfoldable pub seek : (ℕ → Bool) → ℕ → ℕ → ℕ
seek p i zero = i
seek p i (suc n) = elim (p i) [ true ↦ i | false ↦ seek p (suc i) n ]

-- what it means
pub record Sought (p : ℕ → Bool) (i n r : ℕ) : Type 0 where
  pub low : i ≤ r
  pub high : r ≤ i + n
  pub before : (j : ℕ) → i ≤ j → j < r → p j ≡ false
  pub hit : r < i + n → p r ≡ true

pub sought : (p : ℕ → Bool) (i n : ℕ) → Sought p i n (seek p i n)
unfolding seek
sought p i zero = record { low = omega arith; high = omega arith; before = λ j a b. absurd (lem j a b); hit = λ h. absurd (lem2 h) }
  where
    lem : (j : ℕ) → i ≤ j → j < i → ⊥
    lem j a b = omega arith

    lem2 : i < i + 0 → ⊥
    lem2 h = omega arith
sought p i (suc n) = go (p i) refl (sought p (suc i) n)
  where
    go : (b : Bool) → p i ≡ b → Sought p (suc i) n (seek p (suc i) n) → Sought p i (suc n) (seek p i (suc n))
    go true e s = rw (e, seek) (record { low = omega arith; high = omega arith; before = λ j a b. absurd (lem j a b); hit = λ h. e })
      where
        lem : (j : ℕ) → i ≤ j → j < i → ⊥
        lem j a b = omega arith
    go false e s = rw (e, seek) (record {
      low = omega (arith, s.low);
      high = omega (arith, s.high);
      before = λ j a b. before' j b (eq-or-lt_of_le a);
      hit = λ h. s.hit (omega arith);
    })
      where
        before' : (j : ℕ) → j < seek p (suc i) n → (i ≡ j) ⊎ (i < j) → p j ≡ false
        before' j b (inl q) = rw q at e
        before' j b (inr l) = s.before j l b

-- a place that passes, with none before it, is the one
pub seek_is : (p : ℕ → Bool) (i n r : ℕ) → i ≤ r → r < i + n → p r ≡ true → ((j : ℕ) → i ≤ j → j < r → p j ≡ false) → seek p i n ≡ r
seek_is p i n r low high hit before = go (sought p i n) (dec_lt (seek p i n) r) (ℕ_discrete (seek p i n) r)
  where
    go : Sought p i n (seek p i n) → Dec (seek p i n < r) → Dec (seek p i n ≡ r) → seek p i n ≡ r
    go s (yes l) d = absurd (true≢false (sym (s.hit (omega arith)) ∙ before (seek p i n) s.low l))
    go s (no l) (yes e) = e
    go s (no l) (no e) = absurd (true≢false (sym hit ∙ s.before r low (omega arith)))

-- where none passes it is the end
pub seek_none : (p : ℕ → Bool) (i n : ℕ) → ((j : ℕ) → i ≤ j → j < i + n → p j ≡ false) → seek p i n ≡ i + n
seek_none p i n none = go (sought p i n) (eq-or-lt_of_le (sought p i n).high)
  where
    go : Sought p i n (seek p i n) → (seek p i n ≡ i + n) ⊎ (seek p i n < i + n) → seek p i n ≡ i + n
    go s (inl e) = e
    go s (inr l) = absurd (true≢false (sym (s.hit l) ∙ none (seek p i n) s.low l))

-- places that are known to fail may be passed over
pub seek_skip : (p : ℕ → Bool) (i n r : ℕ) → i ≤ r → r ≤ i + n → ((j : ℕ) → i ≤ j → j < r → p j ≡ false) → seek p i n ≡ seek p r (i + n - r)
unfolding seek
seek_skip p i zero r low high none = let e : i ≡ r = omega arith in let z : i + 0 - r ≡ 0 = omega arith in rw z e
seek_skip p i (suc n) r low high none = go (eq-or-lt_of_le low) (seek_skip p (suc i) n r)
  where
    go : (i ≡ r) ⊎ (i < r) → (suc i ≤ r → r ≤ suc i + n → ((j : ℕ) → suc i ≤ j → j < r → p j ≡ false) → seek p (suc i) n ≡ seek p r (suc i + n - r))
        → seek p i (suc n) ≡ seek p r (i + suc n - r)
    go (inl e) ih = let z : i + suc n - r ≡ suc n = omega arith in rw z (ap (λ (x : ℕ). seek p x (suc n)) e)
    go (inr l) ih =
        let z : suc i + n - r ≡ i + suc n - r = omega arith in
        let f = none i (omega arith) l in
        rw (f, seek) (ih l (omega arith) (λ j a b. none j (omega arith) b) ∙ ap (seek p r) z)

-- tests that agree find the same
pub seek_same : (p q : ℕ → Bool) (i n : ℕ) → ((j : ℕ) → i ≤ j → j < i + n → p j ≡ q j) → seek p i n ≡ seek q i n
unfolding seek
seek_same p q i zero f = refl
seek_same p q i (suc n) f = go (q i) refl (f i (omega arith) (omega arith)) (seek_same p q (suc i) n (λ j l u. f j (omega arith) (omega arith)))
  where
    go : (b : Bool) → q i ≡ b → p i ≡ q i → seek p (suc i) n ≡ seek q (suc i) n → seek p i (suc n) ≡ seek q i (suc n)
    go true e s ih = let d : p i ≡ true = s ∙ e in rw (d, e, seek)
    go false e s ih = let d : p i ≡ false = s ∙ e in rw (d, e, seek) ih

-- ---- what a loop asks for: the search as it stands at i, of places below n
module _ (p : ℕ → Bool) (n : ℕ) where
  abbrev pub seek_on : ℕ → ℕ
  seek_on i = seek p i (n - i)

  pub seek_starts : seek_on 0 ≡ seek p 0 n
  seek_starts = let a : n - 0 ≡ n = omega arith in rw a

  pub seek_passes : (i : ℕ) → i < n → p i ≡ false → seek_on i ≡ seek_on (i + 1)
  unfolding seek
  seek_passes i h e =
      let a : n - i ≡ suc (n - (i + 1)) = omega arith in
      rw (a, e, seek, add-one)

  pub seek_hits : (i : ℕ) → i < n → p i ≡ true → seek_on i ≡ i
  unfolding seek
  seek_hits i h e =
      let a : n - i ≡ suc (n - (i + 1)) = omega arith in
      rw (a, e, seek)

  pub seek_ends : (i : ℕ) → n ≤ i → seek_on i ≡ i
  unfolding seek
  seek_ends i h =
      let a : n - i ≡ 0 = omega arith in
      rw a
