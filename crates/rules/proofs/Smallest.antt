-- Words that the columns tell apart, against a machine with no more states than there are such words: it has each of its states reached
-- by one of the words, any two states told apart by a column, and one state for each state of the machine that it answers as.
use Rattle.std.specs.Prelude.{◌≡◌, ◌⊎◌, ◌≢◌, ℕ, suc, ◌≤◌, ◌<◌, length, get_or}
use Rattle.std.proofs.Math.Path.{refl, sym, ap, ap₂}
use Rattle.std.proofs.Common.{◌∙◌, inl, inr, arith}
use Rattle.std.proofs.Math.Option.{none}
use mathlib.Core.List.{List, [], ◌∷◌, ◌++◌}
use Rattle.std.proofs.Math.Decide.{ℕ_discrete, dec_lt}
use Rattle.std.proofs.Math.ListN.{length-append}
use Rattle.rules.specs.Least.{Least, least, at_most}
use Rattle.rules.specs.Words.{Word, Below, below_append}
use Rattle.rules.specs.Search.{walk, walk_append}
use Rattle.rules.specs.Machine.{Machine, Complete, answer_from, last_from, ask, Equal, SmallestModel}
use Rattle.rules.specs.MachineLaws.{walk_low, last_append, last_any, ask_snoc, equal_asks, answers_last}
use Rattle.rules.specs.Table.{cells, move, conjecture}
use Rattle.rules.specs.Closing.{cells_ext, cells_at, told_place, state_same}
use Rattle.rules.specs.Stages.{Stage}
use Rattle.rules.specs.DifferenceLaws.{agrees_none}
use Rattle.rules.specs.Links.{counterexample, stopped}
use Rattle.rules.proofs.Links.{conjecture_complete, at_stop, rounds_enough, done_smallest}
use Rattle.rules.specs.Smallest.{Tells}

-- m different numbers below m: each number below m is among them
pub onto : (m : ℕ) (f : ℕ → ℕ) → ((i : ℕ) → i < m → f i < m) → ((i j : ℕ) → i < j → j < m → f i ≢ f j) → (t : ℕ) → t < m → Least (λ i. f i ≡ t) m
onto m f low apart t ht = go (least (λ i. f i ≡ t) (λ i. ℕ_discrete (f i) t) m)
  where
    -- f below m, and t at m
    pick : (i : ℕ) → Dec (i < m) → ℕ
    pick i (yes h) = f i
    pick i (no h) = t

    go : Least (λ i. f i ≡ t) m ⊎ ((i : ℕ) → i < m → ¬ (f i ≡ t)) → Least (λ i. f i ≡ t) m
    go (inl l) = l
    go (inr never) =
        let h = at_most (suc m) m (λ i. pick i (dec_lt i m)) (λ i h. low' i (dec_lt i m)) (λ i j h hj. apart' i j h hj (dec_lt i m) (dec_lt j m)) in
        absurd (omega arith)
      where
        low' : (i : ℕ) (d : Dec (i < m)) → pick i d < m
        low' i (yes h) = low i h
        low' i (no h) = ht

        apart' : (i j : ℕ) → i < j → j < suc m → (d : Dec (i < m)) (e : Dec (j < m)) → pick i d ≢ pick j e
        apart' i j h hj (yes hi) (yes hj') = apart i j h hj'
        apart' i j h hj (yes hi) (no l) = never i hi
        apart' i j h hj (no l) e = absurd (omega arith)

module _ (k : ℕ) (M N : Machine) (equal : Equal k M N) where
  -- after a word, N's state answers as M does
  pub after : (u e : Word) → Below k u → Below k e → 1 ≤ length e → ask M (u ++ e) ≡ last_from N 0 (walk N.next 0 u) e
  unfolding ask
  after u e bu be h =
      equal_asks k M N equal (u ++ e) (below_append k u e bu be) (simp length-append (omega arith))
      ∙ last_append N 0 0 u e
      ∙ last_any N (last_from N 0 0 u) 0 (walk N.next 0 u) e h

  pub after_letter : (u : Word) (a : ℕ) → Below k u → a < k → M.out (walk M.next 0 u) a ≡ N.out (walk N.next 0 u) a
  after_letter u a bu ha =
      sym (ask_snoc M u a) ∙ equal_asks k M N equal (u ++ (a ∷ [])) (below_append k u (a ∷ []) bu (ha, tt)) (simp length-append (omega arith)) ∙ ask_snoc N u a

module _ {k : ℕ} {M N : Machine} {E S : List Word} (T : Tells k M N E S) where
  abbrev ends : ℕ → ℕ
  ends i = walk N.next 0 (get_or S i [])

  low : (w : Word) → Below k w → walk N.next 0 w < N.states
  low w b = walk_low N.states k N.next T.whole.1 0 w T.whole.0 b

  -- after a word, a column is answered at the state that it leads to
  answered : (u : Word) → Below k u → (c : ℕ) → c < length E → ask M (u ++ get_or E c []) ≡ last_from N 0 (walk N.next 0 u) (get_or E c [])
  answered u b c h = after k M N T.equal u (get_or E c []) b (T.letters c h) (T.columns c h)

  -- words of S that lead to states which answer the columns alike are one
  one_word : (i j : ℕ) → i < length S → j < length S → ((c : ℕ) → c < length E → last_from N 0 (ends i) (get_or E c []) ≡ last_from N 0 (ends j) (get_or E c [])) → i ≡ j
  one_word i j hi hj f =
      told_place (ask M) E S T.told i j hi hj
      (cells_ext (ask M) E (get_or S i []) (get_or S j []) (λ c h. answered (get_or S i []) (T.words i hi) c h ∙ f c h ∙ sym (answered (get_or S j []) (T.words j hj) c h)))

  -- each state is reached by a word of S
  pub each_reached : (t : ℕ) → t < N.states → Least (λ i. walk N.next 0 (get_or S i []) ≡ t) (length S)
  each_reached t h =
      let f = T.few in
      onto (length S) ends (λ i l. let b = low (get_or S i []) (T.words i l) in omega arith)
      (λ i j l hj e. let q = one_word i j (omega arith) hj (λ c g. ap (λ (s : ℕ). last_from N 0 s (get_or E c [])) e) in absurd (omega arith)) t (omega arith)

  -- states that answer the columns alike are one
  pub one_state : (s t : ℕ) → s < N.states → t < N.states → ((c : ℕ) → c < length E → last_from N 0 s (get_or E c []) ≡ last_from N 0 t (get_or E c [])) → s ≡ t
  one_state s t hs ht f =
      let i = each_reached s hs in
      let j = each_reached t ht in
      let q = one_word i.at j.at i.below j.below
      (λ c h. ap (λ (x : ℕ). last_from N 0 x (get_or E c [])) i.has ∙ f c h ∙ sym (ap (λ (x : ℕ). last_from N 0 x (get_or E c [])) j.has)) in
      sym i.has ∙ ap ends q ∙ j.has

  -- words with the same cells lead to one state
  pub same_cells : (u v : Word) → Below k u → Below k v → cells (ask M) E u ≡ cells (ask M) E v → walk N.next 0 u ≡ walk N.next 0 v
  same_cells u v bu bv e =
      one_state (walk N.next 0 u) (walk N.next 0 v) (low u bu) (low v bv)
      (λ c h. sym (answered u bu c h) ∙ cells_at (ask M) E u v e c h ∙ answered v bv c h)

  -- words that lead M to one state lead N to one state
  pub one_for_each : (u v : Word) → Below k u → Below k v → walk M.next 0 u ≡ walk M.next 0 v → walk N.next 0 u ≡ walk N.next 0 v
  unfolding ask
  one_for_each u v bu bv e =
      same_cells u v bu bv (cells_ext (ask M) E u v (λ c h. last_append M 0 0 u (get_or E c [])
      ∙ last_any M (last_from M 0 0 u) 0 (walk M.next 0 u) (get_or E c []) (T.columns c h)
      ∙ ap (λ (s : ℕ). last_from M 0 s (get_or E c [])) e
      ∙ last_any M 0 (last_from M 0 0 v) (walk M.next 0 v) (get_or E c []) (T.columns c h)
      ∙ sym (last_append M 0 0 v (get_or E c []))))

  -- N puts out what M does
  pub outputs : (P : ℕ → Type 0) → ((s a : ℕ) → P (M.out s a)) → (t a : ℕ) → t < N.states → a < k → P (N.out t a)
  outputs P f t a h ha =
      let i = each_reached t h in
      let w = get_or S i.at [] in
      rw (sym i.has, sym (after_letter k M N T.equal w a (T.words i.at i.below) ha)) (f (walk M.next 0 w) a)

-- A closed table with as many words as the machine has states leaves no counterexample.
module _ (k : ℕ) (pos : 0 < k) (M : Machine) (whole : Complete k M) {p : ℕ} {E S : List Word} (st : Stage (ask M) k 1 k p E S) (full : M.states ≤ length S) where
  own : Tells k M M E S
  own = record { whole = whole; equal = λ w b. refl; told = st.told; words = st.words; columns = st.columns; letters = st.letters; few = full }

  abbrev state : ℕ → ℕ
  state j = walk M.next 0 (get_or S j [])

  steps : (j a : ℕ) → j < length S → a < k → state (move (ask M) E S j a) ≡ M.next (state j) a
  unfolding move
  steps j a h ha =
      same_cells own (get_or S (move (ask M) E S j a) []) (get_or S j [] ++ (a ∷ [])) (st.words (move (ask M) E S j a) (st.shut j a h ha))
      (below_append k (get_or S j []) (a ∷ []) (st.words j h) (ha, tt)) (state_same (ask M) E S (get_or S j [] ++ (a ∷ [])) (st.shut j a h ha))
      ∙ walk_append M.next 0 (get_or S j []) (a ∷ [])

  alike : (j : ℕ) (w : Word) → j < length S → Below k w → answer_from M (state j) w ≡ answer_from (conjecture (ask M) E S) j w
  unfolding answer_from conjecture
  alike j [] h b = refl
  alike j (a ∷ w) h b =
      ap₂ {C = List ℕ} ◌∷◌ (sym (ask_snoc M (get_or S j []) a))
      (ap (λ (s : ℕ). answer_from M s w) (sym (steps j a h b.0)) ∙ alike (move (ask M) E S j a) w (st.shut j a h b.0) b.1)

  pub full_none : counterexample k M E S ≡ none
  unfolding counterexample
  full_none =
      let C = conjecture_complete k M st in
      agrees_none k pos M (conjecture (ask M) E S) whole C 0 0 whole.0 C.0
      (λ w b. ap (λ (v : Word). answer_from M (walk M.next 0 v) w) (sym st.head) ∙ alike 0 w (omega (arith, st.grown)) b)

-- A smallest model has no two states that answer every word alike: held against itself, a table with rounds enough tells them apart.
pub one_of_alike : {k : ℕ} {M N : Machine} → 0 < k → SmallestModel k M N → (s t : ℕ) → s < N.states → t < N.states
    → ((w : Word) → Below k w → answer_from N s w ≡ answer_from N t w) → s ≡ t
unfolding conjecture
one_of_alike {k} {M} {N} pos m s t hs ht alike =
    let R = N.states in
    let st = (at_stop k N pos m.complete R).stage in
    let C = done_smallest k N pos m.complete R (rounds_enough k N pos m.complete R (omega arith)) in
    let own : Tells k N N (stopped k N R).E (stopped k N R).S =
    record {
      whole = m.complete;
      equal = λ w b. refl;
      told = st.told;
      words = st.words;
      columns = st.columns;
      letters = st.letters;
      few = m.fewest (conjecture (ask N) (stopped k N R).E (stopped k N R).S) C.complete (λ w b. m.equal w b ∙ C.equal w b);
    } in
    one_state own s t hs ht (λ c h. answers_last N N 0 s t (get_or (stopped k N R).E c []) (alike (get_or (stopped k N R).E c []) (st.letters c h)))
