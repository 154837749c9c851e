-- A machine numbered anew by least words: it is complete, it answers as before, and its numbers are those of the least words.
use Rattle.std.specs.Prelude.{◌≡◌, true, false, ℕ, ◌<◌}
use Rattle.std.proofs.Math.Path.{refl, sym, ap}
use Rattle.std.proofs.Common.{◌∙◌, true≢false, arith}
use mathlib.Core.List.{List, [], ◌∷◌, ◌++◌}
use Rattle.std.proofs.Math.Decide.{dec_lt}
use Rattle.std.proofs.Math.ListN.{length, get_or, length-map, get_or-map}
use Rattle.std.proofs.Math.Dec.{eqb}
use Rattle.rules.specs.Tests.{eqb_true, eqb_false, eqb_same}
use Rattle.rules.specs.Words.{Word, Below, code, before_code, code_before, below_append}
use Rattle.rules.specs.Seek.{sought}
use Rattle.rules.specs.Search.{Entry, starts, walk, walk_append, Explored}
use Rattle.rules.specs.SearchLaws as search
use Rattle.rules.specs.Machine.{Machine, Complete, answer_from, answer, Equal, ByLeastWords}
use Rattle.rules.specs.MachineLaws.{walk_low}
use Rattle.rules.specs.Numbering.{place, reached, order, reaching_words, renumbered}

-- ---- the place of a number in a list
pub place_is : (xs : List ℕ) (x j : ℕ) → j < length xs → get_or xs j 0 ≡ x → (place xs x < length xs) × (get_or xs (place xs x) 0 ≡ x)
unfolding place
place_is xs x j h e =
    let s = sought (λ (j : ℕ). eqb (get_or xs j 0) x) 0 (length xs) in
    let t : eqb (get_or xs j 0) x ≡ true = rw e (eqb_same x) in
    let l : place xs x < length xs = low (place xs x) (λ g. s.before j (omega arith) g) t (dec_lt j (place xs x)) in
    (l, eqb_true (get_or xs (place xs x) 0) x (s.hit (omega arith)))
  where
    low : (r : ℕ) → (j < r → eqb (get_or xs j 0) x ≡ false) → eqb (get_or xs j 0) x ≡ true → Dec (j < r) → r < length xs
    low r f t (yes g) = absurd (true≢false (sym t ∙ f g))
    low r f t (no g) = omega arith

module _ (k : ℕ) (M : Machine) (whole : Complete k M) where
  pub reached_explored : Explored M.next k 0 (reached k M)
  unfolding reached
  reached_explored =
      search.explored eqb M.next k 0 eqb_true eqb_false M.states (λ x. x) (λ x y e. e) (λ w b. walk_low M.states k M.next whole.1 0 w whole.0 b)

  -- ---- the queue's columns
  abbrev entry : ℕ → Entry ℕ
  entry i = get_or (reached k M) i (starts 0)

  pub order_length : length (order k M) ≡ length (reached k M)
  unfolding order
  order_length = length-map (reached k M) (λ (e : Entry ℕ). e.node)

  pub order_at : (i : ℕ) → get_or (order k M) i 0 ≡ (entry i).node
  unfolding order
  order_at i = get_or-map (λ (e : Entry ℕ). e.node) (reached k M) i (starts 0)

  pub word_at : (i : ℕ) → get_or (reaching_words k M) i [] ≡ (entry i).word
  unfolding reaching_words
  word_at i = get_or-map (λ (e : Entry ℕ). e.word) (reached k M) i (starts 0)

  pub order_start : (0 < length (order k M)) × (get_or (order k M) 0 0 ≡ 0)
  order_start =
      let E = reached_explored in
      (rw order_length E.some, order_at 0 ∙ ap (λ (e : Entry ℕ). e.node) E.start)

  -- whatever a word leads to has a place
  pub placed : (v : Word) → Below k v → (place (order k M) (walk M.next 0 v) < length (order k M)) × (get_or (order k M) (place (order k M) (walk M.next 0 v)) 0 ≡ walk M.next 0 v)
  placed v b =
      let c = reached_explored.every v b in
      place_is (order k M) (walk M.next 0 v) c.at (rw order_length c.low) (order_at c.at ∙ c.node)

  -- the word of a place leads to its state
  pub leads : (i : ℕ) → i < length (order k M) → walk M.next 0 (get_or (reaching_words k M) i []) ≡ get_or (order k M) i 0
  leads i h = rw (word_at i, order_at i) (reached_explored.leads i (rw order_length at h))

  pub letters : (i : ℕ) → i < length (order k M) → Below k (get_or (reaching_words k M) i [])
  letters i h = rw (word_at i) (reached_explored.letters i (rw order_length at h))

  -- equal states, equal places
  pub one_place : (i j : ℕ) → i < length (order k M) → j < length (order k M) → get_or (order k M) i 0 ≡ get_or (order k M) j 0 → i ≡ j
  one_place i j hi hj e =
      search.place M.next k 0 (reached k M) reached_explored i j (rw order_length at hi) (rw order_length at hj) (sym (order_at i) ∙ e ∙ order_at j)

  -- ---- the machine numbered anew
  step : (i a : ℕ) → i < length (order k M) → a < k
      → ((renumbered k M).next i a < length (order k M)) × (get_or (order k M) ((renumbered k M).next i a) 0 ≡ M.next (get_or (order k M) i 0) a)
  unfolding renumbered
  step i a h ha =
      let w = get_or (reaching_words k M) i [] in
      let p = placed (w ++ (a ∷ [])) (below_append k w (a ∷ []) (letters i h) (ha, tt)) in
      let e : walk M.next 0 (w ++ (a ∷ [])) ≡ M.next (get_or (order k M) i 0) a =
      walk_append M.next 0 w (a ∷ []) ∙ ap (λ (s : ℕ). M.next s a) (leads i h) in
      rw e at p

  pub renumbered_complete : Complete k (renumbered k M)
  unfolding renumbered
  renumbered_complete = (order_start.0, λ i a h ha. (step i a h ha).0)

  -- runs are carried over
  pub carried : (i : ℕ) (w : Word) → i < length (order k M) → Below k w
      → (walk (renumbered k M).next i w < length (order k M)) × (get_or (order k M) (walk (renumbered k M).next i w) 0 ≡ walk M.next (get_or (order k M) i 0) w)
  carried i [] h b = (h, refl)
  carried i (a ∷ w) h b =
      let s = step i a h b.0 in
      let r = carried ((renumbered k M).next i a) w s.0 b.1 in
      (r.0, r.1 ∙ ap (λ (x : ℕ). walk M.next x w) s.1)

  answers_from : (i : ℕ) (w : Word) → i < length (order k M) → Below k w → answer_from M (get_or (order k M) i 0) w ≡ answer_from (renumbered k M) i w
  unfolding answer_from renumbered
  answers_from i [] h b = refl
  answers_from i (a ∷ w) h b =
      let s = step i a h b.0 in
      ap (λ (l : List ℕ). M.out (get_or (order k M) i 0) a ∷ l)
      (ap (λ (x : ℕ). answer_from M x w) (sym s.1) ∙ answers_from ((renumbered k M).next i a) w s.0 b.1)

  pub renumbered_equal : Equal k M (renumbered k M)
  unfolding answer
  renumbered_equal w b =
      ap (λ (s : ℕ). answer_from M s w) (sym order_start.1) ∙ answers_from 0 w order_start.0 b

  -- the new number of what a word leads to
  pub number_of : (v : Word) → Below k v → walk (renumbered k M).next 0 v ≡ place (order k M) (walk M.next 0 v)
  number_of v b =
      let c = carried 0 v order_start.0 b in
      let p = placed v b in
      one_place (walk (renumbered k M).next 0 v) (place (order k M) (walk M.next 0 v)) c.0 p.0
      (c.1 ∙ ap (λ (s : ℕ). walk M.next s v) order_start.1 ∙ sym p.1)

  pub numbered : ByLeastWords k (renumbered k M) (reaching_words k M)
  unfolding renumbered reaching_words
  numbered = record {
    all = length-map (reached k M) (λ (e : Entry ℕ). e.word) ∙ sym order_length;
    letters = letters;
    reaches = reaches;
    least = λ j h v b e before.
        let c = before_code k v (get_or (reaching_words k M) j []) b before in
        let l = search.least M.next k 0 (reached k M) reached_explored j (rw order_length at h) v b (back v j b e) in
        let w = ap (code k 0) (word_at j) in
        absurd (omega arith);
    rising = λ i j h hj.
        code_before k (get_or (reaching_words k M) i []) (get_or (reaching_words k M) j []) (letters i (omega arith)) (letters j hj)
        (rw (word_at i, word_at j) (reached_explored.rising i j h (rw order_length at hj)));
  }
    where
      reaches : (j : ℕ) → j < length (order k M) → walk (renumbered k M).next 0 (get_or (reaching_words k M) j []) ≡ j
      reaches j h =
          let c = carried 0 (get_or (reaching_words k M) j []) order_start.0 (letters j h) in
          one_place (walk (renumbered k M).next 0 (get_or (reaching_words k M) j [])) j c.0 h
          (c.1 ∙ ap (λ (s : ℕ). walk M.next s (get_or (reaching_words k M) j [])) order_start.1 ∙ leads j h)

      back : (v : Word) (j : ℕ) → Below k v → walk (renumbered k M).next 0 v ≡ j → walk M.next 0 v ≡ (entry j).node
      back v j b e =
          ap (λ (s : ℕ). walk M.next s v) (sym order_start.1) ∙ sym (carried 0 v order_start.0 b).1 ∙ ap (λ (i : ℕ). get_or (order k M) i 0) e ∙ order_at j
