-- The numbering by least words depends on a machine at its states and letters alone: two machines that agree there have the same states in
-- the same order, by the same words, the same machine numbered anew, and the same state map.
use Rattle.std.specs.Prelude.{◌≡◌, Bool}
use Rattle.std.proofs.Math.Path.{refl, sym, ap, ap₂}
use Rattle.std.proofs.Common.{◌∙◌, subst, not-suc-le-zero, le_of_suc-le-suc, mod-lt, div-lt_iff_lt-mul, arith}
use Rattle.std.proofs.Math.Logic.{inl, inr}
use Rattle.std.proofs.Math.Bool.{true, false}
use mathlib.Core.List.{List, [], ◌∷◌, ◌++◌, map}
use Prim.Native.Nat.{ℕ, zero, suc, ◌+◌, ◌*◌, ◌/◌, ◌%◌, ◌≤◌, ◌<◌}
use Rattle.std.proofs.Math.ListN.{length, get_or}
use Rattle.std.proofs.Math.Dec.{eqb, ltb}
use Rattle.rules.specs.Tests.{outcome, ltb_yes}
use Rattle.rules.specs.Words.{Word, Below}
use Rattle.rules.specs.Search.{Entry, starts, walk, met, meet, meet_all, explore_from, explore}
use Rattle.rules.specs.SearchLaws as search
use Rattle.rules.specs.Machine.{Machine, Complete}
use Rattle.rules.specs.MachineLaws.{walk_low}
use Rattle.rules.specs.Table.{from}
use Rattle.rules.specs.FromLaws.{map_from_same}
use Rattle.rules.specs.Sheets.{words_of}
use Rattle.rules.specs.Same.{Same}
use Rattle.rules.specs.Numbering.{place, reached, order, reaching_words, renumbered, model_state, state_map}
use Rattle.rules.specs.NumberingLaws.{reached_explored, order_length, leads, letters}

-- ---- the states listed
module _ (k : ℕ) (M : Machine) (whole : Complete k M) where
  -- no more than there are
  pub order_few : length (order k M) ≤ M.states
  order_few =
      let few = search.few M.next k 0 (reached k M) (reached_explored k M whole) M.states (λ x. x) (λ x y e. e) (λ w b. walk_low M.states k M.next whole.1 0 w whole.0 b) in
      omega (arith, order_length k M whole)

  -- each of them is one
  pub order_low : (i : ℕ) → i < length (order k M) → get_or (order k M) i 0 < M.states
  order_low i h = rw (sym (leads k M whole i h)) (walk_low M.states k M.next whole.1 0 (get_or (reaching_words k M) i []) whole.0 (letters k M whole i h))

-- ---- a search over nodes below n
abbrev Low : ℕ → List (Entry ℕ) → Type 0
Low n [] = Unit {0}
Low n (e ∷ queue) = (e.node < n) × Low n queue

low_append : (n : ℕ) (x y : List (Entry ℕ)) → Low n x → Low n y → Low n (x ++ y)
low_append n [] y a b = b
low_append n (e ∷ x) y a b = (a.0, low_append n x y a.1 b)

low_at : (n x0 : ℕ) (queue : List (Entry ℕ)) (i : ℕ) → Low n queue → i < length queue → (get_or queue i (starts x0)).node < n
low_at n x0 [] i l h = absurd (not-suc-le-zero h)
low_at n x0 (e ∷ queue) zero l h = l.0
low_at n x0 (e ∷ queue) (suc i) l h = low_at n x0 queue i l.1 (le_of_suc-le-suc h)

module _ (step other : ℕ → ℕ → ℕ) (x0 k n : ℕ) (stays : (s a : ℕ) → s < n → a < k → step s a < n) (same : (s a : ℕ) → s < n → a < k → step s a ≡ other s a) where
  pub walk_same : (s : ℕ) (w : Word) → s < n → Below k w → walk step s w ≡ walk other s w
  walk_same s [] h b = refl
  walk_same s (a ∷ w) h b = walk_same (step s a) w (stays s a h b.0) b.1 ∙ ap (λ (x : ℕ). walk other x w) (same s a h b.0)

  met_same : (x : ℕ) (queue : List (Entry ℕ)) → met eqb step x0 x queue ≡ met eqb other x0 x queue
  unfolding met
  met_same x [] = refl
  met_same x (e ∷ queue) = go (eqb e.node x) refl (met_same x queue)
    where
      go : (b : Bool) → eqb e.node x ≡ b → met eqb step x0 x queue ≡ met eqb other x0 x queue → met eqb step x0 x (e ∷ queue) ≡ met eqb other x0 x (e ∷ queue)
      go true t ih = rw (t, met)
      go false t ih = rw (t, met) ih

  meet_same : (e : Entry ℕ) (a : ℕ) (queue : List (Entry ℕ)) → e.node < n → a < k → meet eqb step x0 e a queue ≡ meet eqb other x0 e a queue
  unfolding meet
  meet_same e a queue h l = go (met eqb step x0 (step e.node a) queue) refl
    where
      there : met eqb other x0 (other e.node a) queue ≡ met eqb step x0 (step e.node a) queue
      there = sym (ap (λ (x : ℕ). met eqb step x0 x queue) (same e.node a h l) ∙ met_same (other e.node a) queue)

      go : (b : Bool) → met eqb step x0 (step e.node a) queue ≡ b → meet eqb step x0 e a queue ≡ meet eqb other x0 e a queue
      go true t = let u = there ∙ t in rw (t, u, meet)
      go false t =
          let u = there ∙ t in
          rw (t, u, meet) (ap (λ (x : ℕ). queue ++ (record { node = x; word = e.word ++ (a ∷ []) } ∷ [])) (same e.node a h l))

  meet_low : (e : Entry ℕ) (a : ℕ) (queue : List (Entry ℕ)) → e.node < n → a < k → Low n queue → Low n (meet eqb step x0 e a queue)
  unfolding meet
  meet_low e a queue h l L = elim (outcome (met eqb step x0 (step e.node a) queue)) [
    | inl t ↦ rw (t, meet) L
    | inr t ↦ rw (t, meet) (low_append n queue _ L (stays e.node a h l, tt))
  ]

  meet_all_same : (e : Entry ℕ) (a j : ℕ) (queue : List (Entry ℕ)) → e.node < n → a + j ≤ k → meet_all eqb step x0 e a j queue ≡ meet_all eqb other x0 e a j queue
  unfolding meet_all
  meet_all_same e a zero queue h l = refl
  meet_all_same e a (suc j) queue h l =
      meet_all_same e (suc a) j (meet eqb step x0 e a queue) h (omega arith) ∙ ap (meet_all eqb other x0 e (suc a) j) (meet_same e a queue h (omega arith))

  meet_all_low : (e : Entry ℕ) (a j : ℕ) (queue : List (Entry ℕ)) → e.node < n → a + j ≤ k → Low n queue → Low n (meet_all eqb step x0 e a j queue)
  unfolding meet_all
  meet_all_low e a zero queue h l L = L
  meet_all_low e a (suc j) queue h l L = meet_all_low e (suc a) j (meet eqb step x0 e a queue) h (omega arith) (meet_low e a queue h (omega arith) L)

  explore_from_same : (f i : ℕ) (queue : List (Entry ℕ)) → Low n queue → explore_from eqb step x0 k f i queue ≡ explore_from eqb other x0 k f i queue
  unfolding explore_from
  explore_from_same zero i queue L = refl
  explore_from_same (suc f) i queue L = go (ltb i (length queue)) refl (λ q l. explore_from_same f (suc i) q l)
    where
      go : (b : Bool) → ltb i (length queue) ≡ b → ((q : List (Entry ℕ)) → Low n q → explore_from eqb step x0 k f (suc i) q ≡ explore_from eqb other x0 k f (suc i) q)
          → explore_from eqb step x0 k (suc f) i queue ≡ explore_from eqb other x0 k (suc f) i queue
      go false t ih = rw (t, explore_from)
      go true t ih =
          let e = get_or queue i (starts x0) in
          let low = low_at n x0 queue i L (ltb_yes i (length queue) t) in
          rw (t, explore_from) (ih (meet_all eqb step x0 e 0 k queue) (meet_all_low e 0 k queue low (omega arith) L)
          ∙ ap (explore_from eqb other x0 k f (suc i)) (meet_all_same e 0 k queue low (omega arith)))

  pub explore_same : x0 < n → explore eqb step x0 k n ≡ explore eqb other x0 k n
  unfolding explore
  explore_same h = explore_from_same n 0 (starts x0 ∷ []) (h, tt)

-- ---- what is made of a machine
-- ---- two machines that agree
-- at the states of either
module _ {k : ℕ} {M N : Machine} (A : Same k N M) where
  next_at : (s a : ℕ) → s < M.states → a < k → M.next s a ≡ N.next s a
  next_at s a h = A.next s a (subst (λ (n : ℕ). s < n) A.states h)

  out_at : (s a : ℕ) → s < M.states → a < k → M.out s a ≡ N.out s a
  out_at s a h = A.out s a (subst (λ (n : ℕ). s < n) A.states h)

module _ (k : ℕ) (M N : Machine) (whole : Complete k M) (A : Same k N M) where
  pub reached_same : reached k M ≡ reached k N
  unfolding reached
  reached_same =
      explore_same M.next N.next 0 k M.states whole.1 (next_at A) whole.0 ∙ ap (λ (n : ℕ). explore eqb N.next 0 k n) A.states

  pub order_same : order k M ≡ order k N
  unfolding order
  order_same = ap (map (λ (e : Entry ℕ). e.node)) reached_same

  pub words_same : reaching_words k M ≡ reaching_words k N
  unfolding reaching_words
  words_same = ap (map (λ (e : Entry ℕ). e.word)) reached_same

  pub states_same : (renumbered k M).states ≡ (renumbered k N).states
  unfolding renumbered
  states_same = ap length order_same

  pub next_same : (i a : ℕ) → i < length (order k M) → a < k → (renumbered k M).next i a ≡ (renumbered k N).next i a
  unfolding renumbered
  next_same i a h l =
      ap (place (order k M)) (next_at A (get_or (order k M) i 0) a (order_low k M whole i h) l) ∙ ap (λ (o : List ℕ). place o (N.next (get_or o i 0) a)) order_same

  pub out_same : (i a : ℕ) → i < length (order k M) → a < k → (renumbered k M).out i a ≡ (renumbered k N).out i a
  unfolding renumbered
  out_same i a h l = out_at A (get_or (order k M) i 0) a (order_low k M whole i h) l ∙ ap (λ (o : List ℕ). N.out (get_or o i 0) a) order_same

  pub renumbered_same : (B : ℕ) → 0 < k → words_of B k (renumbered k M) ≡ words_of B k (renumbered k N)
  unfolding words_of renumbered
  renumbered_same B pos =
      map_from_same (λ (i : ℕ). B * (renumbered k M).next (i / k) (i % k) + (renumbered k M).out (i / k) (i % k))
      (λ (i : ℕ). B * (renumbered k N).next (i / k) (i % k) + (renumbered k N).out (i / k) (i % k)) 0 (length (order k M) * k) (λ i h. at i (omega arith))
      ∙ ap (λ (n : ℕ). map (λ (i : ℕ). B * (renumbered k N).next (i / k) (i % k) + (renumbered k N).out (i / k) (i % k)) (from 0 (n * k))) states_same
    where
      at : (i : ℕ) → i < length (order k M) * k
          → B * (renumbered k M).next (i / k) (i % k) + (renumbered k M).out (i / k) (i % k) ≡ B * (renumbered k N).next (i / k) (i % k) + (renumbered k N).out (i / k) (i % k)
      at i h =
          let l : i / k < length (order k M) = (div-lt_iff_lt-mul pos).1 h in
          ap₂ (λ (x y : ℕ). B * x + y) (next_same (i / k) (i % k) l (mod-lt i pos)) (out_same (i / k) (i % k) l (mod-lt i pos))

-- the state map of a machine G onto either of them
module _ (k : ℕ) (G M N : Machine) (wholeG : Complete k G) (whole : Complete k M) (A : Same k N M) where
  pub model_state_same : (s : ℕ) → model_state k G M s ≡ model_state k G N s
  unfolding model_state
  model_state_same s = go (ltb (place (order k G) s) (length (order k G))) refl
    where
      go : (b : Bool) → ltb (place (order k G) s) (length (order k G)) ≡ b → model_state k G M s ≡ model_state k G N s
      go false t = rw (t, model_state)
      go true t =
          let w = get_or (reaching_words k G) (place (order k G) s) [] in
          let below = letters k G wholeG (place (order k G) s) (ltb_yes _ _ t) in
          rw (t, model_state) (ap₂ place (order_same k M N whole A) (walk_same M.next N.next 0 k M.states whole.1 (next_at A) 0 w whole.0 below))

  pub state_map_same : state_map k G M ≡ state_map k G N
  unfolding state_map
  state_map_same = map_from_same (model_state k G M) (model_state k G N) 0 G.states (λ s h. model_state_same s)
