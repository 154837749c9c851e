-- The states that words reach, numbered by their least words: a list of states and the list of their words.
use Rattle.std.specs.Prelude.{◌≡◌, refl, Bool, true, false, not, cond, eqb, ◌+◌, List, [], ◌∷◌, ◌++◌, map, ℕ, zero, suc, ◌≤◌, ◌<◌, length, get_or, take, replicate, Option, Some, None, ltb}
use Rattle.std.proofs.Common.{sym, ap, ◌∙◌, arith, add-one, take-suc}
use Rattle.std.proofs.lemmas.List.{length-replicate, map-append}
use Rattle.std.specs.List.{position, position_or_len}
use Rattle.rules.specs.Words.{Word}
use Rattle.rules.specs.Seek.{seek}
use Rattle.rules.specs.Search.{Entry, starts}
use Rattle.rules.specs.Machine.{Machine}
use Rattle.rules.specs.Numbering.{reached, order, reaching_words, place}
use Rattle.machine.specs.Lent.{Steps}

-- states, and a word for each
pub record Listing : Type 0 where
  pub states : List ℕ
  pub words : List Word

-- the nodes of a queue, and their words
abbrev pub listed : List (Entry ℕ) → Listing
listed queue = record { states = map (λ (e : Entry ℕ). e.node) queue; words = map (λ (e : Entry ℕ). e.word) queue }

-- the numbering of a machine
abbrev pub numbered : ℕ → Machine → Listing
numbered k M = record { states = order k M; words = reaching_words k M }

-- a place more
pub listed_more : (queue : List (Entry ℕ)) (p : ℕ) → p < length queue
    → record { states = (listed (take p queue)).states ++ (get_or queue p (starts 0)).node ∷ []; words = (listed (take p queue)).words ++ (get_or queue p (starts 0)).word ∷ [] } ≡ listed (take (p + 1) queue)
listed_more queue p h =
    let e = get_or queue p (starts 0) in
    let more = ap (λ (n : ℕ). take n queue) (add-one p) ∙ take-suc queue p (starts 0) h in
    rw (more, map-append (λ (e : Entry ℕ). e.node) (take p queue) (e ∷ []), map-append (λ (e : Entry ℕ). e.word) (take p queue) (e ∷ []))

pub listed_reached : (k : ℕ) (M : Machine) → listed (reached k M) ≡ numbered k M
unfolding order reaching_words
listed_reached k M = refl

-- ---- the place of a state in a list, as the library finds it
seek_next : (p q : ℕ → Bool) (i n : ℕ) → ((j : ℕ) → q (suc j) ≡ p j) → seek q (suc i) n ≡ suc (seek p i n)
unfolding seek
seek_next p q i zero same = refl
seek_next p q i (suc n) same = rw (same i, seek) (go (p i) (seek_next p q (suc i) n same))
  where
    go : (b : Bool) → seek q (suc (suc i)) n ≡ suc (seek p (suc i) n) → elim b [ true ↦ suc i | false ↦ seek q (suc (suc i)) n ] ≡ suc (elim b [ true ↦ i | false ↦ seek p (suc i) n ])
    go true e = refl
    go false e = e

first_place : (x : ℕ) (xs : List ℕ) → position_or_len (λ (y : ℕ). eqb y x) xs ≡ place xs x
unfolding place seek
first_place x [] = refl
first_place x (y ∷ xs) =
    go (eqb y x) _ _ (ap suc (first_place x xs) ∙ sym (seek_next (λ (j : ℕ). eqb (get_or xs j 0) x) (λ (j : ℕ). eqb (get_or (y ∷ xs) j 0) x) 0 (length xs) (λ j. refl)))
  where
    go : (b : Bool) (u v : ℕ) → suc u ≡ v → cond (not b) (1 + u) 0 ≡ elim b [ true ↦ 0 | false ↦ v ]
    go true u v e = refl
    go false u v e = omega (arith, e)

-- where something hangs on whether a state is there, it hangs on the library's answer
pub position_place : (x : ℕ) (xs : List ℕ) → position (λ (y : ℕ). eqb y x) xs ≡ elim (ltb (place xs x) (length xs)) [ false ↦ None | true ↦ Some (place xs x) ]
position_place x xs = rw (first_place x xs) (go (ltb (place xs x) (length xs)) (Some (place xs x)))
  where
    go : (b : Bool) (r : Option ℕ) → cond b r None ≡ elim b [ false ↦ None | true ↦ r ]
    go true r = refl
    go false r = refl

-- ---- the machine of one state that stays in it: words that are all 0
pub zeros_at : (n i : ℕ) → ◌≡◌ {A = ℕ} (get_or (replicate n 0) i 0) 0
zeros_at zero i = refl
zeros_at (suc n) zero = refl
zeros_at (suc n) (suc i) = zeros_at n i

pub still : (n k : ℕ) → k ≤ n → Steps 1 k (replicate n 0)
still n k h = record { some = omega arith; long = rw length-replicate (omega arith); next = λ s a hs ha. rw zeros_at (omega arith) }
