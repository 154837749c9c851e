-- M1 computed: two states that one letter tells apart, two that need the word 00, an unreachable state, and a state and itself.
use Rattle.std.specs.Prelude.{◌≡◌, refl, List, [], ◌∷◌, ℕ, replicate}
use Rattle.std.proofs.Math.Option.{none, some}
use Rattle.rules.specs.Answer.{refused, gives}
use Rattle.apart.specs.Apart.{Left, apart}

-- M1's words, and an area whose bytes are all 9
abbrev m1 : List ℕ
m1 = 256 ∷ 0 ∷ 512 ∷ 256 ∷ 1 ∷ 512 ∷ 769 ∷ 0 ∷ []

abbrev nines : ℕ → List ℕ
nines n = replicate n 9

abbrev told : ℕ → ℕ → ℕ → List ℕ → Left
told length first second area = record { answer = gives (some (record { length = length; first = first; second = second })); area = area }

pub by_one_letter : apart 4 2 m1 0 2 (nines 48) ≡ told 1 0 1 (0 ∷ nines 47)
unfolding apart
by_one_letter = refl

pub by_two_letters : apart 4 2 m1 0 1 (nines 48) ≡ told 2 0 1 (0 ∷ 0 ∷ nines 46)
unfolding apart
by_two_letters = refl

-- no word reaches state 3
pub unreachable : apart 4 2 m1 3 2 (nines 48) ≡ told 2 1 0 (0 ∷ 0 ∷ nines 46)
unfolding apart
unreachable = refl

pub itself : apart 4 2 m1 2 2 (nines 48) ≡ record { answer = gives none; area = nines 48 }
unfolding apart
itself = refl

-- refusals in order, none too
pub no_state : apart 4 2 m1 4 0 (nines 46) ≡ record { answer = refused 4; area = nines 46 }
unfolding apart
no_state = refl

pub small_area : apart 4 2 m1 2 2 (nines 46) ≡ record { answer = refused 9; area = nines 46 }
unfolding apart
small_area = refl
