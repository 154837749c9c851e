-- The state map: a machine state that words reach has the number of the model state that each of these words reaches; a state that no word
-- reaches has 255. And a smallest model stays one when it is numbered anew.
use Rattle.std.specs.Prelude.{◌≡◌, ◌⊎◌, ◌≢◌, true, false, [], ℕ, ◌+◌, ◌≤◌, ◌<◌, length, get_or, ltb}
use Rattle.std.proofs.Math.Path.{ap}
use Rattle.std.proofs.Common.{◌∙◌, inl, inr}
use native.Mathlib.Omega.{arith}
use Rattle.std.proofs.Math.Dec.{eqb}
use Rattle.rules.specs.Tests.{outcome, eqb_true, ltb_yes, ltb_no, lt_yes}
use Rattle.rules.specs.Words.{Word, Below}
use Rattle.rules.specs.Seek.{sought}
use Rattle.rules.specs.Search.{walk}
use Rattle.rules.specs.SearchLaws as search
use Rattle.rules.specs.Machine.{Machine, Complete, SmallestModel}
use Rattle.rules.specs.MachineLaws.{walk_low}
use Rattle.rules.specs.FromLaws.{map_from_length, map_from_at}
use Rattle.rules.specs.Numbering.{place, reached, order, reaching_words, renumbered, model_state, state_map}
use Rattle.rules.specs.NumberingLaws.{reached_explored, order_length, placed, leads, letters, renumbered_complete, renumbered_equal, word_at}

-- ---- numbered anew
pub renumbered_few : (k : ℕ) (C : Machine) → Complete k C → (renumbered k C).states ≤ C.states
unfolding renumbered
renumbered_few k C whole =
    rw (order_length k C whole) (search.few C.next k 0 (reached k C) (reached_explored k C whole) C.states (λ x. x) (λ x y e. e) (λ w b. walk_low C.states k C.next whole.1 0 w whole.0 b))

pub renumbered_smallest : {k : ℕ} {M C : Machine} → SmallestModel k M C → SmallestModel k M (renumbered k C)
renumbered_smallest {k} {M} {C} m = record {
  complete = renumbered_complete k C m.complete;
  equal = λ w b. m.equal w b ∙ renumbered_equal k C m.complete w b;
  fewest = λ N whole equal. let f = m.fewest N whole equal in let l = renumbered_few k C m.complete in omega arith;
}

pub renumbered_states : {k : ℕ} {M C : Machine} → SmallestModel k M C → (renumbered k C).states ≡ C.states
renumbered_states {k} {M} {C} m =
    let f = m.fewest (renumbered k C) (renumbered_complete k C m.complete) (renumbered_smallest m).equal in
    let l = renumbered_few k C m.complete in
    omega arith

-- its words have fewer letters than it has states
pub reaching_short : (k : ℕ) (C : Machine) → Complete k C → (j : ℕ) → j < (renumbered k C).states → length (get_or (reaching_words k C) j []) ≤ j
unfolding renumbered
reaching_short k C whole j h = rw (word_at k C whole j) (search.short C.next k 0 (reached k C) (reached_explored k C whole) j (rw (order_length k C whole) at h))

-- ---- which states words reach
pub record Reached (k : ℕ) (M : Machine) (s : ℕ) : Type 0 where
  pub word : Word
  pub letters : Below k word
  pub leads : walk M.next 0 word ≡ s

abbrev pub Unreached : ℕ → Machine → ℕ → Type 0
Unreached k M s = (w : Word) → Below k w → walk M.next 0 w ≢ s

module _ (k : ℕ) (M : Machine) (whole : Complete k M) where
  at_place : (s : ℕ) → place (order k M) s < length (order k M) → get_or (order k M) (place (order k M) s) 0 ≡ s
  unfolding place
  at_place s h = eqb_true (get_or (order k M) (place (order k M) s) 0) s ((sought (λ (j : ℕ). eqb (get_or (order k M) j 0) s) 0 (length (order k M))).hit (omega arith))

  -- the least word that reaches s
  least_reached : (s : ℕ) → place (order k M) s < length (order k M) → Reached k M s
  least_reached s h = record {
    word = get_or (reaching_words k M) (place (order k M) s) [];
    letters = letters k M whole (place (order k M) s) h;
    leads = leads k M whole (place (order k M) s) h ∙ at_place s h;
  }

  pub reached_or_not : (s : ℕ) → Reached k M s ⊎ Unreached k M s
  reached_or_not s = go (outcome (ltb (place (order k M) s) (length (order k M))))
    where
      go : (ltb (place (order k M) s) (length (order k M)) ≡ true) ⊎ (ltb (place (order k M) s) (length (order k M)) ≡ false) → Reached k M s ⊎ Unreached k M s
      go (inl e) = inl (least_reached s (ltb_yes (place (order k M) s) (length (order k M)) e))
      go (inr e) =
          let l = ltb_no (place (order k M) s) (length (order k M)) e in
          inr (λ w b q. let p = rw q at (placed k M whole w b).0 in absurd (omega arith))

  -- ---- the map
  module _ (C : Machine) where
    pub map_length : length (state_map k M C) ≡ M.states
    unfolding state_map
    map_length = map_from_length (model_state k M C) 0 M.states

    pub map_at : (s : ℕ) → s < M.states → get_or (state_map k M C) s 255 ≡ model_state k M C s
    unfolding state_map
    map_at s h = let z : 0 + s ≡ s = omega arith in map_from_at (model_state k M C) 0 M.states s 255 h ∙ ap (model_state k M C) z

    pub state_unreached : (s : ℕ) → Unreached k M s → model_state k M C s ≡ 255
    unfolding model_state
    state_unreached s f = go (outcome (ltb (place (order k M) s) (length (order k M))))
      where
        go : (ltb (place (order k M) s) (length (order k M)) ≡ true) ⊎ (ltb (place (order k M) s) (length (order k M)) ≡ false) → model_state k M C s ≡ 255
        go (inl e) = let r = least_reached s (ltb_yes (place (order k M) s) (length (order k M)) e) in absurd (f r.word r.letters r.leads)
        go (inr e) = rw (e, model_state)

    -- where words that lead M to one state lead C to one state
    pub state_placed : ((u v : Word) → Below k u → Below k v → walk M.next 0 u ≡ walk M.next 0 v → walk C.next 0 u ≡ walk C.next 0 v)
        → (w : Word) → Below k w → model_state k M C (walk M.next 0 w) ≡ place (order k C) (walk C.next 0 w)
    unfolding model_state least_reached
    state_placed one w b =
        let h = (placed k M whole w b).0 in
        let r = least_reached (walk M.next 0 w) h in
        rw (lt_yes (place (order k M) (walk M.next 0 w)) (length (order k M)) h, model_state) (ap (place (order k C)) (one r.word w r.letters b r.leads))
