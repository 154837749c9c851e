-- Numbers as text: decimal digits, without leading zeros. That the kit spells them so: proofs/Decimal.
use Rattle.std.specs.Prelude.{true, false, List, [], ◌∷◌, ◌++◌, ℕ, zero, suc, ◌+◌, ◌/◌, ◌%◌, ltb}

-- the digits of x, in at most as many places as are given
unfoldable pub digits_of : ℕ → ℕ → List ℕ
digits_of zero x = []
digits_of (suc places) x = elim (ltb x 10) [ true ↦ (48 + x) ∷ [] | false ↦ digits_of places (x / 10) ++ ((48 + x % 10) ∷ []) ]

-- a number has no more places than its value and one
unfoldable pub decimal : ℕ → List ℕ
unfolding digits_of
decimal x = digits_of (suc x) x
