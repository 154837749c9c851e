-- How long a word must be that tells two states apart: in p + 1 states, what some word shows different a word of fewer than p letters
-- shows different, before the letter or lamp that shows it. `o s` is what a state shows at once: its outputs letter by letter, or a lamp.
use Rattle.std.specs.Prelude.{◌≡◌, refl, ◌⊎◌, ◌≢◌, ℕ, zero, suc, pred, ◌+◌, ◌≤◌, ◌<◌, length}
use Rattle.std.proofs.Common.{sym, ◌∙◌, subst, inl, inr, not-suc-le-zero, le_of_suc-le-suc, add-zero, arith}
use mathlib.Core.List.{List, [], ◌∷◌, List-discrete}
use Rattle.std.proofs.Math.Decide.{ℕ_discrete, dec_lt}
use Rattle.rules.specs.Least.{Least, least, least_of, dec_not, dec-×, dec_all, dec_least, stable, pigeonhole}
use Rattle.rules.specs.Words.{Word, Below}
use Rattle.rules.specs.Search.{walk}

-- s and t show the same after each word of fewer than l letters
abbrev pub Alike : ℕ → (ℕ → ℕ → ℕ) → (ℕ → List ℕ) → ℕ → ℕ → ℕ → Type 0
Alike k δ o zero s t = Unit {0}
Alike k δ o (suc l) s t = (o s ≡ o t) × ((a : ℕ) → a < k → Alike k δ o l (δ s a) (δ t a))

module _ (k : ℕ) (δ : ℕ → ℕ → ℕ) (o : ℕ → List ℕ) where
  pub dec_alike : (l s t : ℕ) → Dec (Alike k δ o l s t)
  dec_alike zero s t = yes tt
  dec_alike (suc l) s t = dec-× (List-discrete ℕ_discrete (o s) (o t)) (dec_all (λ a. Alike k δ o l (δ s a) (δ t a)) (λ a. dec_alike l (δ s a) (δ t a)) k)

  pub alike_refl : (l s : ℕ) → Alike k δ o l s s
  alike_refl zero s = tt
  alike_refl (suc l) s = (refl, λ a h. alike_refl l (δ s a))

  pub alike_sym : (l s t : ℕ) → Alike k δ o l s t → Alike k δ o l t s
  alike_sym zero s t e = tt
  alike_sym (suc l) s t e = (sym e.0, λ a h. alike_sym l (δ s a) (δ t a) (e.1 a h))

  pub alike_trans : (l s t u : ℕ) → Alike k δ o l s t → Alike k δ o l t u → Alike k δ o l s u
  alike_trans zero s t u e f = tt
  alike_trans (suc l) s t u e f = (e.0 ∙ f.0, λ a h. alike_trans l (δ s a) (δ t a) (δ u a) (e.1 a h) (f.1 a h))

  pub alike_mono : (l m s t : ℕ) → l ≤ m → Alike k δ o m s t → Alike k δ o l s t
  alike_mono zero m s t h e = tt
  alike_mono (suc l) zero s t h e = absurd (not-suc-le-zero h)
  alike_mono (suc l) (suc m) s t h e = (e.0, λ a b. alike_mono l m (δ s a) (δ t a) (le_of_suc-le-suc h) (e.1 a b))

  -- A state y that is the least of its class at level l + 1, and was not at level l: r is less, and alike at level l.
  record NewHead (p l : ℕ) : Type 0 where
    y : ℕ
    low : y ≤ p
    head : (t : ℕ) → t < y → ¬ Alike k δ o (suc l) t y
    r : ℕ
    less : r < y
    was : Alike k δ o l r y

  -- all states up to p that are alike at level l are alike at level l + 1
  abbrev Stable : ℕ → ℕ → Type 0
  Stable p l = (s t : ℕ) → s ≤ p → t ≤ p → Alike k δ o l s t → Alike k δ o (suc l) s t

  -- r is the least state alike to s at level l, and x is alike to it there and no longer at the next level
  from_split : (p l r x : ℕ) → x ≤ p → Alike k δ o l r x → ¬ Alike k δ o (suc l) r x → ((t : ℕ) → t < r → ¬ Alike k δ o l t x) → NewHead p l
  from_split p l r x hx e ne first =
      let y = least_of (λ t. Alike k δ o (suc l) t x) (λ t. dec_alike (suc l) t x) (suc x) x (omega arith) (alike_refl (suc l) x) in
      let ye : Alike k δ o l y.at x = alike_mono l (suc l) y.at x (omega arith) y.has in
      record {
        y = y.at;
        low = omega (arith, y.below);
        head = λ t h a. y.first t h (alike_trans (suc l) t y.at x a y.has);
        r = r;
        less = before y ye (dec_lt r y.at) (ℕ_discrete r y.at);
        was = alike_trans l r x y.at e (alike_sym l y.at x ye);
      }
    where
      before : (y : Least (λ t. Alike k δ o (suc l) t x) (suc x)) → Alike k δ o l y.at x → Dec (r < y.at) → Dec (r ≡ y.at) → r < y.at
      before y ye (yes h) d = h
      before y ye (no h) (yes q) = absurd (ne (subst (λ (i : ℕ). Alike k δ o (suc l) i x) (sym q) y.has))
      before y ye (no h) (no q) = absurd (first y.at (omega arith) ye)

  new_head : (p l s t : ℕ) → s ≤ p → t ≤ p → Alike k δ o l s t → ¬ Alike k δ o (suc l) s t → NewHead p l
  new_head p l s t hs ht e ne =
      let r = least_of (λ i. Alike k δ o l i s) (λ i. dec_alike l i s) (suc s) s (omega arith) (alike_refl l s) in
      go r (dec_alike (suc l) r.at s)
    where
      go : (r : Least (λ i. Alike k δ o l i s) (suc s)) → Dec (Alike k δ o (suc l) r.at s) → NewHead p l
      go r (no f) = from_split p l r.at s hs r.has f r.first
      go r (yes a) =
          from_split p l r.at t ht (alike_trans l r.at s t r.has e)
          (λ b. ne (alike_trans (suc l) s r.at t (alike_sym (suc l) r.at s a) b))
          (λ i h c. r.first i h (alike_trans l i t s c (alike_sym l s t e)))

  -- a level is stable, or the next one has a new class
  split : (p l : ℕ) → Stable p l ⊎ NewHead p l
  split p l = go (least (λ s. Least (Bad s) (suc p)) (λ s. dec_least (Bad s) (bad? s) (suc p)) (suc p))
    where
      Bad : ℕ → ℕ → Type 0
      Bad s t = Alike k δ o l s t × ¬ Alike k δ o (suc l) s t

      bad? : (s t : ℕ) → Dec (Bad s t)
      bad? s t = dec-× (dec_alike l s t) (dec_not (dec_alike (suc l) s t))

      keep : (s t : ℕ) → s ≤ p → t ≤ p → Alike k δ o l s t → ((s : ℕ) → s < suc p → ¬ Least (Bad s) (suc p)) → Dec (Alike k δ o (suc l) s t) → Alike k δ o (suc l) s t
      keep s t hs ht e none (yes a) = a
      keep s t hs ht e none (no f) = absurd (none s (omega arith) (least_of (Bad s) (bad? s) (suc p) t (omega arith) (e, f)))

      go : Least (λ s. Least (Bad s) (suc p)) (suc p) ⊎ ((s : ℕ) → s < suc p → ¬ Least (Bad s) (suc p)) → Stable p l ⊎ NewHead p l
      go (inl x) =
          let y = x.has in
          inr (new_head p l x.at y.at (le_of_suc-le-suc x.below) (le_of_suc-le-suc y.below) y.has.0 y.has.1)
      go (inr none) = inl (λ s t hs ht e. keep s t hs ht e none (dec_alike (suc l) s t))

  dec_stable : (p l : ℕ) → Dec (Stable p l)
  dec_stable p l = go (split p l)
    where
      go : Stable p l ⊎ NewHead p l → Dec (Stable p l)
      go (inl s) = yes s
      go (inr h) = no (λ st. h.head h.r h.less (st h.r h.y (omega (arith, h.low, h.less)) h.low h.was))

  -- the new head of each level, less 1
  abbrev val : {p l : ℕ} → Stable p l ⊎ NewHead p l → ℕ
  val (inl s) = 0
  val (inr h) = pred h.y

  val_low : {p l : ℕ} → ¬ Stable p l → (x : Stable p l ⊎ NewHead p l) → val x < p
  val_low f (inl s) = absurd (f s)
  val_low {p} f (inr h) = let v : pred h.y < p = omega (arith, h.low, h.less) in v

  val_apart : {p l m : ℕ} → l < m → ¬ Stable p l → ¬ Stable p m → (x : Stable p l ⊎ NewHead p l) (y : Stable p m ⊎ NewHead p m) → val x ≢ val y
  val_apart h f g (inl s) y e = f s
  val_apart h f g (inr x) (inl s) e = g s
  val_apart {p} {l} {m} h f g (inr x) (inr y) e =
      let e' : pred x.y ≡ pred y.y = e in
      let same : x.y ≡ y.y = omega (arith, x.less, y.less) in
      x.head y.r (omega (arith, y.less)) (subst (λ (i : ℕ). Alike k δ o (suc l) y.r i) (sym same) (alike_mono (suc l) m y.r y.y h y.was))

  -- some level up to p is stable
  settles : (p : ℕ) → Least (Stable p) (suc p)
  settles p = go (least (Stable p) (dec_stable p) (suc p))
    where
      go : Least (Stable p) (suc p) ⊎ ((l : ℕ) → l < suc p → ¬ Stable p l) → Least (Stable p) (suc p)
      go (inl l) = l
      go (inr none) =
          let t = pigeonhole p (λ l. val (split p l)) (λ l h. val_low (none l (omega arith)) (split p l)) in
          absurd (val_apart t.apart (none t.i (omega (arith, t.apart, t.below))) (none t.j (omega (arith, t.below))) (split p t.i) (split p t.j) t.same)

  module _ (p : ℕ) (closed : (s a : ℕ) → s ≤ p → a < k → δ s a ≤ p) where
    stable_next : (l : ℕ) → Stable p l → Stable p (suc l)
    stable_next l st s t hs ht e = (e.0, λ a h. st (δ s a) (δ t a) (closed s a hs h) (closed t a ht h) (e.1 a h))

    forever : (l j : ℕ) → Stable p l → (s t : ℕ) → s ≤ p → t ≤ p → Alike k δ o l s t → Alike k δ o (l + j) s t
    forever l zero st s t hs ht e = rw add-zero e
    forever l (suc j) st s t hs ht e =
        rw (← (suc_add' l j)) (forever (suc l) j (stable_next l st) s t hs ht (st s t hs ht e))
      where
        suc_add' : (l j : ℕ) → suc l + j ≡ l + suc j
        suc_add' l j = omega arith

    -- alike at level p is alike for good
    pub for_good : (l s t : ℕ) → s ≤ p → t ≤ p → Alike k δ o p s t → Alike k δ o l s t
    for_good l s t hs ht e =
        let x = settles p in
        alike_mono l (x.at + l) s t (omega arith)
        (forever x.at l x.has s t hs ht (alike_mono x.at p s t (omega (arith, x.below)) e))

-- a word of fewer than l letters after which s and t show different things
pub record Telling (k : ℕ) (δ : ℕ → ℕ → ℕ) (o : ℕ → List ℕ) (l s t : ℕ) : Type 0 where
  pub word : Word
  pub letters : Below k word
  pub short : length word < l
  pub differ : o (walk δ s word) ≢ o (walk δ t word)

module _ (k : ℕ) (δ : ℕ → ℕ → ℕ) (o : ℕ → List ℕ) where
  -- alike at level l: no word of fewer than l letters shows a difference
  pub alike_word : (l s t : ℕ) → Alike k δ o l s t → (w : Word) → Below k w → length w < l → o (walk δ s w) ≡ o (walk δ t w)
  alike_word zero s t e w b h = absurd (not-suc-le-zero h)
  alike_word (suc l) s t e [] b h = e.0
  alike_word (suc l) s t e (a ∷ w) b h = alike_word l (δ s a) (δ t a) (e.1 a b.0) w b.1 (le_of_suc-le-suc h)

  -- not alike: there is such a word
  pub apart_word : (l s t : ℕ) → ¬ Alike k δ o l s t → Telling k δ o l s t
  apart_word zero s t f = absurd (f tt)
  apart_word (suc l) s t f =
      go (List-discrete ℕ_discrete (o s) (o t))
      (least (λ a. ¬ Alike k δ o l (δ s a) (δ t a)) (λ a. dec_not (dec_alike k δ o l (δ s a) (δ t a))) k)
      (λ a. apart_word l (δ s a) (δ t a))
    where
      go : Dec (o s ≡ o t) → Least (λ a. ¬ Alike k δ o l (δ s a) (δ t a)) k ⊎ ((a : ℕ) → a < k → ¬ ¬ Alike k δ o l (δ s a) (δ t a))
          → ((a : ℕ) → ¬ Alike k δ o l (δ s a) (δ t a) → Telling k δ o l (δ s a) (δ t a)) → Telling k δ o (suc l) s t
      go (no d) x ih = record { word = []; letters = tt; short = omega arith; differ = d }
      go (yes e) (inl x) ih =
          let w = ih x.at x.has in
          record { word = x.at ∷ w.word; letters = (x.below, w.letters); short = omega (arith, w.short); differ = w.differ }
      go (yes e) (inr none) ih = absurd (f (e, λ a h. stable (dec_alike k δ o l (δ s a) (δ t a)) (none a h)))

  -- THE BOUND: in p + 1 states, what some word shows different after it a word of fewer than p letters does
  pub bound : (p : ℕ) → ((s a : ℕ) → s ≤ p → a < k → δ s a ≤ p) → (s t : ℕ) → s ≤ p → t ≤ p
      → (w : Word) → Below k w → o (walk δ s w) ≢ o (walk δ t w) → Telling k δ o p s t
  bound p closed s t hs ht w b d =
      apart_word p s t (λ e. d (alike_word (suc (length w)) s t (for_good k δ o p closed (suc (length w)) s t hs ht e) w b (omega arith)))
