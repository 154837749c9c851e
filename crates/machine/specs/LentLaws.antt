-- What the tests of lent words and of letters mean, and what a run over letters asks for.
use Rattle.std.specs.Prelude.{◌≡◌, Bool, true, false, length, get_or, drop, ltb, leb}
use Rattle.std.proofs.Math.Path.{refl}
use Rattle.std.proofs.Common.{not-suc-le-zero, le_of_suc-le-suc, add-one, arith}
use mathlib.Core.List.{List, [], ◌∷◌}
use Prim.Native.Nat.{ℕ, zero, suc, ◌+◌, ◌*◌, ◌/◌, ◌≤◌, ◌<◌}
use Rattle.std.proofs.Math.ListN.{drop_of_length-le}
use Rattle.std.proofs.Math.Seq.{drop-cons}
use Rattle.std.proofs.Math.Arith.{digits_lt}
use Rattle.rules.specs.Tests.{and_split, ltb_yes, lt_yes, leb_yes}
use Rattle.rules.specs.Words.{Word, Below}
use Rattle.rules.specs.Search.{walk}
use Rattle.rules.specs.Machine.{Machine, Complete, lent, last_from}
use Rattle.rules.specs.Answer.{Answer, refused, gives, demand, within, ◌>>◌}
use Rattle.std.specs.List.{list_all}
use Rattle.machine.specs.Lent.{next_below, letters_below, lent_check, Steps, Sound, link}

-- what all letters and words pass, each does
pub all_at : (p : ℕ → Bool) (xs : List ℕ) (i : ℕ) → list_all p xs ≡ true → i < length xs → p (get_or xs i 0) ≡ true
all_at p [] i e h = absurd (not-suc-le-zero h)
all_at p (x ∷ xs) zero e h = (and_split (p x) (list_all p xs) e).0
all_at p (x ∷ xs) (suc i) e h = all_at p xs i (and_split (p x) (list_all p xs) e).1 (le_of_suc-le-suc h)

pub at_all : (p : ℕ → Bool) (xs : List ℕ) → ((i : ℕ) → i < length xs → p (get_or xs i 0) ≡ true) → list_all p xs ≡ true
at_all p [] f = refl
at_all p (x ∷ xs) f = rw (f 0 (omega arith)) (at_all p xs (λ i h. f (suc i) (omega arith)))

-- ---- letters
pub letters_are_below : (k : ℕ) (w : Word) → letters_below k w ≡ true → Below k w
letters_are_below k [] e = tt
letters_are_below k (a ∷ w) e =
    let s = and_split (ltb a k) (list_all (λ (a : ℕ). ltb a k) w) e in
    (ltb_yes a k s.0, letters_are_below k w s.1)

pub below_letters : (k : ℕ) (w : Word) → Below k w → letters_below k w ≡ true
below_letters k [] b = refl
below_letters k (a ∷ w) b = rw (lt_yes a k b.0) (below_letters k w b.1)

-- ---- lent words
-- one check and then another
pub both : (a b : Answer (Unit {0})) → ◌>>◌ a b ≡ gives tt → (a ≡ gives tt) × (b ≡ gives tt)
both (refused x) b e = let z : ◌≡◌ {A = ℕ} 0 1 = cc in absurd (omega arith)
both (gives u) b e = (refl, e)

-- a demand that is met leaves the rest
pub demanded : {A : Type 0} (t : Bool) (x : ℕ) (rest : Answer A) (a : A) → ◌>>◌ (demand t x) rest ≡ gives a → (t ≡ true) × (rest ≡ gives a)
demanded true x rest a e = (refl, e)
demanded false x rest a e = let z : ◌≡◌ {A = ℕ} 0 1 = cc in absurd (clash z)
  where
    clash : ◌≡◌ {A = ℕ} 0 1 → ⊥
    clash z = omega arith

pub last_demanded : (t : Bool) (x : ℕ) → demand t x ≡ gives tt → t ≡ true
last_demanded true x e = refl
last_demanded false x e = let z : ◌≡◌ {A = ℕ} 0 1 = cc in absurd (clash z)
  where
    clash : ◌≡◌ {A = ℕ} 0 1 → ⊥
    clash z = omega arith

pub within_both : (low high x : ℕ) → within low high x ≡ true → (low ≤ x) × (x ≤ high)
within_both low high x e =
    let s = and_split (leb low x) (leb x high) e in
    (leb_yes low x s.0, leb_yes x high s.1)

pub lent_sound : (n k : ℕ) (words : List ℕ) → lent_check n k words ≡ gives tt → Sound n k words
unfolding lent_check
lent_sound n k words e =
    let a = demanded (within 1 48 n) 3 _ tt e in
    let b = demanded (within 1 12 k) 3 _ tt a.1 in
    let c = demanded (leb (n * k) (length words)) 1 _ tt b.1 in
    let d = demanded (leb (length words) (n * k)) 5 _ tt c.1 in
    let f = last_demanded (next_below n words) 4 d.1 in
    let long : length words ≡ n * k = omega (arith, leb_yes (n * k) (length words) c.0, leb_yes (length words) (n * k) d.0) in
    record {
      n_low = (within_both 1 48 n a.0).0;
      n_high = (within_both 1 48 n a.0).1;
      k_low = (within_both 1 12 k b.0).0;
      k_high = (within_both 1 12 k b.0).1;
      long = long;
      next = λ s l hs hl. ltb_yes (get_or words (s * k + l) 0 / 256) n (all_at (λ (x : ℕ). ltb (x / 256) n) words (s * k + l) f (rw long (digits_lt hs hl)));
    }

pub sound_steps : {n k : ℕ} {words : List ℕ} → Sound n k words → Steps n k words
sound_steps s = record { some = s.n_low; long = omega (arith, s.long); next = s.next }

-- the machine that they lend is complete
pub steps_complete : {n k : ℕ} {words : List ℕ} → Steps n k words → Complete k (link n k words)
unfolding lent
steps_complete s = (s.some, s.next)

-- ---- a run and its last output, letter by letter
module _ (M : Machine) where
  pub walk_step : (s : ℕ) (w : Word) (i : ℕ) → i < length w → walk M.next s (drop i w) ≡ walk M.next (M.next s (get_or w i 0)) (drop (i + 1) w)
  walk_step s w i h = rw (add-one, drop-cons w i 0 h)

  pub walk_ends : (s : ℕ) (w : Word) (i : ℕ) → length w ≤ i → walk M.next s (drop i w) ≡ s
  walk_ends s w i h = rw drop_of_length-le

  pub last_step : (o s : ℕ) (w : Word) (i : ℕ) → i < length w → last_from M o s (drop i w) ≡ last_from M (M.out s (get_or w i 0)) (M.next s (get_or w i 0)) (drop (i + 1) w)
  unfolding last_from
  last_step o s w i h = rw (add-one, drop-cons w i 0 h)

  pub last_ends : (o s : ℕ) (w : Word) (i : ℕ) → length w ≤ i → last_from M o s (drop i w) ≡ o
  unfolding last_from
  last_ends o s w i h = rw drop_of_length-le
