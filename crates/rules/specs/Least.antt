-- Bounded search for the least number with a decidable property, and the pigeonhole principle.
use Rattle.std.specs.Prelude.{◌≡◌, refl, ◌⊎◌, ◌≢◌, ℕ, zero, suc, ◌≤◌, ◌<◌}
use Rattle.std.proofs.Common.{sym, ◌∙◌, subst, inl, inr, eq-or-lt_of_le, le_of_suc-le-suc, not-suc-le-zero, lt_of_not-le, arith}
use Rattle.std.proofs.Math.Decide.{ℕ_discrete, dec_le, dec_lt}

-- ---- decisions
pub dec_not : {A : Type 0} → Dec A → Dec (¬ A)
dec_not (yes a) = no (λ f. f a)
dec_not (no f) = yes f

pub dec-× : {A B : Type 0} → Dec A → Dec B → Dec (A × B)
dec-× (yes a) (yes b) = yes (a, b)
dec-× (yes a) (no g) = no (λ p. g p.1)
dec-× (no f) e = no (λ p. f p.0)

pub stable : {A : Type 0} → Dec A → ¬ ¬ A → A
stable (yes a) h = a
stable (no f) h = absurd (h f)

-- less, equal or greater
pub split : {A : Type 0} (i j : ℕ) → (i < j → A) → (i ≡ j → A) → (j < i → A) → A
split i j f g h = elim (dec_lt i j) [ yes l ↦ f l | no l ↦ elim (dec_lt j i) [ yes m ↦ h m | no m ↦ g (omega arith) ] ]

-- ---- the least number below n that has a property
pub record Least (P : ℕ → Type 0) (n : ℕ) : Type 0 where
  pub at : ℕ
  pub below : at < n
  pub has : P at
  pub first : (j : ℕ) → j < at → ¬ P j

pub least : (P : ℕ → Type 0) → ((i : ℕ) → Dec (P i)) → (n : ℕ) → Least P n ⊎ ((i : ℕ) → i < n → ¬ P i)
least P d zero = inr (λ i h. absurd (not-suc-le-zero h))
least P d (suc n) = go (least P d n) (d n)
  where
    go : Least P n ⊎ ((i : ℕ) → i < n → ¬ P i) → Dec (P n) → Least P (suc n) ⊎ ((i : ℕ) → i < suc n → ¬ P i)
    go (inl l) e = inl (record { at = l.at; below = omega (arith, l.below); has = l.has; first = l.first })
    go (inr none) (yes p) = inl (record { at = n; below = omega arith; has = p; first = none })
    go (inr none) (no np) = inr (λ i h. last i (eq-or-lt_of_le (le_of_suc-le-suc h)))
      where
        last : (i : ℕ) → (i ≡ n) ⊎ (i < n) → ¬ P i
        last i (inl e) = λ p. np (subst P e p)
        last i (inr l) = none i l

-- the least one from any one
pub least_of : (P : ℕ → Type 0) → ((i : ℕ) → Dec (P i)) → (n i : ℕ) → i < n → P i → Least P n
least_of P d n i h p = go (least P d n)
  where
    go : Least P n ⊎ ((j : ℕ) → j < n → ¬ P j) → Least P n
    go (inl l) = l
    go (inr none) = absurd (none i h p)

pub dec_least : (P : ℕ → Type 0) → ((i : ℕ) → Dec (P i)) → (n : ℕ) → Dec (Least P n)
dec_least P d n = go (least P d n)
  where
    go : Least P n ⊎ ((i : ℕ) → i < n → ¬ P i) → Dec (Least P n)
    go (inl l) = yes l
    go (inr none) = no (λ l. none l.at l.below l.has)

pub dec_all : (P : ℕ → Type 0) → ((i : ℕ) → Dec (P i)) → (n : ℕ) → Dec ((i : ℕ) → i < n → P i)
dec_all P d n = go (least (λ i. ¬ P i) (λ i. dec_not (d i)) n)
  where
    go : Least (λ i. ¬ P i) n ⊎ ((i : ℕ) → i < n → ¬ ¬ P i) → Dec ((i : ℕ) → i < n → P i)
    go (inl l) = no (λ h. l.has (h l.at l.below))
    go (inr none) = yes (λ i h. stable (d i) (none i h))

-- ---- a difference between the ends shows at two neighbours
flat : (f : ℕ → ℕ) (m : ℕ) → ((i : ℕ) → i < m → f i ≡ f (suc i)) → f 0 ≡ f m
flat f zero h = refl
flat f (suc m) h = flat f m (λ i l. h i (omega arith)) ∙ h m (omega arith)

pub turn : (f : ℕ → ℕ) (m : ℕ) → f 0 ≢ f m → Least (λ i. f i ≢ f (suc i)) m
turn f m d = go (least (λ i. f i ≢ f (suc i)) (λ i. dec_not (ℕ_discrete (f i) (f (suc i)))) m)
  where
    go : Least (λ i. f i ≢ f (suc i)) m ⊎ ((i : ℕ) → i < m → ¬ (f i ≢ f (suc i))) → Least (λ i. f i ≢ f (suc i)) m
    go (inl l) = l
    go (inr none) = absurd (d (flat f m (λ i l. stable (ℕ_discrete (f i) (f (suc i))) (none i l))))

-- ---- the pigeonhole principle: of n + 1 values below n two are equal
pub record Twice (f : ℕ → ℕ) (n : ℕ) : Type 0 where
  pub i : ℕ
  pub j : ℕ
  pub apart : i < j
  pub below : j ≤ n
  pub same : f i ≡ f j

-- v where x is n, and else x
swap : {x n : ℕ} → ℕ → Dec (x ≡ n) → ℕ
swap v (yes e) = v
swap {x} v (no e) = x

pub pigeonhole : (n : ℕ) (f : ℕ → ℕ) → ((i : ℕ) → i ≤ n → f i < n) → Twice f n
unfolding swap
pigeonhole zero f h = absurd (not-suc-le-zero (h 0 (omega arith)))
pigeonhole (suc n) f h = go (least (λ i. f i ≡ f (suc n)) (λ i. ℕ_discrete (f i) (f (suc n))) (suc n)) (λ g hg. pigeonhole n g hg)
  where
    go : Least (λ i. f i ≡ f (suc n)) (suc n) ⊎ ((i : ℕ) → i < suc n → ¬ (f i ≡ f (suc n)))
        → ((g : ℕ → ℕ) → ((i : ℕ) → i ≤ n → g i < n) → Twice g n) → Twice f (suc n)
    go (inl l) ih = record { i = l.at; j = suc n; apart = l.below; below = omega arith; same = l.has }
    go (inr none) ih = back (ih g low)
      where
        g : ℕ → ℕ
        g i = swap (f (suc n)) (ℕ_discrete (f i) n)

        low' : (i : ℕ) → i ≤ n → (d : Dec (f i ≡ n)) → swap (f (suc n)) d < n
        low' i hi (yes e) = let a = none i (omega arith) in let b = h (suc n) (omega arith) in omega arith
        low' i hi (no e) = let b = h i (omega arith) in omega arith

        low : (i : ℕ) → i ≤ n → g i < n
        low i hi = low' i hi (ℕ_discrete (f i) n)

        same' : (i j : ℕ) → i ≤ n → j ≤ n → (d : Dec (f i ≡ n)) (e : Dec (f j ≡ n)) → swap (f (suc n)) d ≡ swap (f (suc n)) e → f i ≡ f j
        same' i j hi hj (yes a) (yes b) p = a ∙ sym b
        same' i j hi hj (yes a) (no b) p = absurd (none j (omega arith) (sym p))
        same' i j hi hj (no a) (yes b) p = absurd (none i (omega arith) p)
        same' i j hi hj (no a) (no b) p = p

        back : Twice g n → Twice f (suc n)
        back t = record {
          i = t.i;
          j = t.j;
          apart = t.apart;
          below = omega (arith, t.below);
          same = same' t.i t.j (omega (arith, t.apart, t.below)) t.below (ℕ_discrete (f t.i) n) (ℕ_discrete (f t.j) n) t.same;
        }

-- so numbers below n that are pairwise different are at most n
pub at_most : (m n : ℕ) (f : ℕ → ℕ) → ((i : ℕ) → i < m → f i < n) → ((i j : ℕ) → i < j → j < m → f i ≢ f j) → m ≤ n
at_most m n f low apart = go (dec_le m n)
  where
    go : Dec (m ≤ n) → m ≤ n
    go (yes h) = h
    go (no g) =
        let l = lt_of_not-le g in
        let t = pigeonhole n f (λ i h. low i (omega arith)) in
        absurd (apart t.i t.j t.apart (omega (arith, t.below)) t.same)
