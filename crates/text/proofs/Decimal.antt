-- Numbers as text: decimal digits, without leading zeros.
use Rattle.std.specs.Prelude.{◌≡◌, refl, ◌⊎◌, true, false, List, [], ◌∷◌, ◌++◌, ℕ, zero, suc, ◌+◌, ◌*◌, ◌-◌, ◌/◌, ◌%◌, ◌^◌, ◌≤◌, ◌<◌, length, take, ltb}
use Rattle.std.proofs.Common.{sym, ap, ap₂, ◌∙◌, subst, inl, inr, pow-suc, not-suc-le-zero, arith, length-append}
use Rattle.std.proofs.Math.Nat.{pow-zero}
use Rattle.io.specs.Counts.{IsPrefixLen}
use Rattle.io.specs.Digits.{last_digits, IsDigitCount, hex_digit_ascii}
use Rattle.rules.specs.Tests.{outcome, ltb_yes, ltb_no, lt_yes, lt_no}
use Rattle.text.specs.Decimal.{digits_of, decimal}

-- one digit, or the last after those before it
digits_one : (places x : ℕ) → x < 10 → digits_of (suc places) x ≡ (48 + x) ∷ []
unfolding digits_of
digits_one places x h = rw (lt_yes x 10 h, digits_of) refl

digits_more : (places x : ℕ) → 10 ≤ x → digits_of (suc places) x ≡ digits_of places (x / 10) ++ ((48 + x % 10) ∷ [])
unfolding digits_of
digits_more places x h = rw (lt_no x 10 h, digits_of) refl

glyph_low : (d : ℕ) → d < 10 → hex_digit_ascii d ≡ 48 + d
glyph_low d h = rw (lt_yes d 10 h) refl

-- ---- the fewest places that hold a number are those of its digits
pow_above : (n : ℕ) → n < 10 ^ n
pow_above zero = omega (arith, pow-zero 10)
pow_above (suc n) = omega (arith, pow-suc 10 n, pow_above n)

before : (n : ℕ) → suc n - 1 ≡ n
before n = omega arith

digits_are : (places r x : ℕ) → r < places → IsDigitCount 10 1 x (suc r) → last_digits 10 (suc r) x ≡ digits_of places x
digits_are zero r x h f = absurd (not-suc-le-zero h)
digits_are (suc places) zero x h f =
    let low : x < 10 = omega (arith, f.1, pow-suc 10 0, pow-zero 10) in
    let same : x % 10 ≡ x = omega arith in
    ap (λ (d : ℕ). hex_digit_ascii d ∷ []) same ∙ ap (λ (d : ℕ). d ∷ []) (glyph_low x low) ∙ sym (digits_one places x low)
digits_are (suc places) (suc r) x h f =
    let most : x < 10 ^ r * 10 * 10 = omega (arith, f.1, pow-suc 10 (suc r), pow-suc 10 r) in
    let low = subst (λ (p : ℕ). 10 ^ p ≤ x) (before (suc r)) (f.2 (omega arith)) in
    let least : 10 ^ r * 10 ≤ x = omega (arith, pow-suc 10 r) in
    let above : r < 10 ^ r = pow_above r in
    let front : IsDigitCount 10 1 (x / 10) (suc r) = (omega arith, omega (arith, pow-suc 10 r), λ g. subst (λ (p : ℕ). 10 ^ p ≤ x / 10) (sym (before r)) (omega arith)) in
    ap₂ (λ (front : List ℕ) (d : ℕ). front ++ (d ∷ [])) (digits_are places r (x / 10) (omega arith) front) (glyph_low (x % 10) (omega arith))
    ∙ sym (digits_more places x (omega arith))

pub fewest_decimal : (x r : ℕ) → IsDigitCount 10 1 x r → last_digits 10 r x ≡ decimal x
unfolding decimal
fewest_decimal x zero f = absurd (not-suc-le-zero f.0)
fewest_decimal x (suc zero) f = digits_are (suc x) 0 x (omega arith) f
fewest_decimal x (suc (suc r)) f = let low = subst (λ (p : ℕ). 10 ^ p ≤ x) (before (suc r)) (f.2 (omega arith)) in digits_are (suc x) (suc r) x (omega (arith, pow_above (suc r))) f

-- what the kit spells at the start of its array
pub spelt : (x r : ℕ) (out : List ℕ) → IsPrefixLen r out → IsDigitCount 10 1 x r → take r out ≡ last_digits 10 r x → (take r out ≡ decimal x) × (r ≡ length (decimal x))
spelt x r out n f e = let is = e ∙ fewest_decimal x r f in (is, n.1 ∙ ap length is)

-- ---- how long it is
digits_few : (places p x : ℕ) → x < 10 ^ suc p → length (digits_of places x) ≤ suc p
unfolding digits_of
digits_few zero p x h = omega arith
digits_few (suc places) p x h = go (outcome (ltb x 10)) p h (λ p h. digits_few places p (x / 10) h)
  where
    go : (ltb x 10 ≡ true) ⊎ (ltb x 10 ≡ false) → (p : ℕ) → x < 10 ^ suc p → ((p : ℕ) → x / 10 < 10 ^ suc p → length (digits_of places (x / 10)) ≤ suc p)
        → length (digits_of (suc places) x) ≤ suc p
    go (inl e) p h ih = rw (digits_one places x (ltb_yes x 10 e)) (omega arith)
    go (inr e) zero h ih = let l : 10 ≤ x = ltb_no x 10 e in omega (arith, pow-suc 10 0, pow-zero 10)
    go (inr e) (suc p) h ih = let front = ih p (omega (arith, pow-suc 10 (suc p))) in rw (digits_more places x (ltb_no x 10 e)) (simp length-append (omega arith))

-- a number below 100,000 has at most five digits
pub decimal_short : (x : ℕ) → x < 100000 → length (decimal x) ≤ 5
unfolding decimal
decimal_short x h = digits_few (suc x) 4 x h
