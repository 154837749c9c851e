-- The rounds: what holds of the table at each of them, where they stop, and what the stop means. Over any oracle and any finder of
-- counterexamples, for the rules of document 01 and the kinds that share them.
use Rattle.std.specs.Prelude.{◌≡◌, ◌⊎◌, ◌≢◌, get_or, take, drop}
use Rattle.std.proofs.Math.Path.{refl}
use Rattle.std.proofs.Common.{sym, ap, ap₂, ◌∙◌, not-suc-le-zero, le_of_suc-le-suc}
use Rattle.std.proofs.Math.Logic.{inl, inr}
use Rattle.std.proofs.Math.Option.{Option, none, some}
use mathlib.Core.List.{List, [], ◌∷◌, ◌++◌}
use Prim.Native.Nat.{ℕ, zero, suc, ◌+◌, ◌-◌, ◌≤◌, ◌<◌}
use native.Mathlib.Omega.{arith}
use Rattle.std.proofs.Math.ListN.{length, length-append, get_or-append}
use Rattle.std.proofs.Math.Seq.{take-append-add, drop-append-add}
use Rattle.rules.specs.Words.{Word, Below, below_append}
use Rattle.rules.specs.Search.{walk, walk_append}
use Rattle.rules.specs.Table.{close, Closes, move, swapped, suffix}
use Rattle.rules.specs.Closing.{Told, Words, Columns, Short, all_snoc, told_more, closing_told, closing_words, closing_short, closing_grows, closing_ends, closes_shut, closes_long, open_grows}
use Rattle.rules.specs.Round.{guess, round, reach_low, suffix_long, suffix_below, Classes, lower_bound}
use Rattle.rules.specs.Rounds.{Stop, more, rounds}
use Rattle.rules.specs.Stages.{Stage, Stopped}

first_told : (ask : Word → ℕ) (E : List Word) → Told ask E ([] ∷ [])
first_told ask E i zero h hj = absurd (not-suc-le-zero h)
first_told ask E i (suc j) h hj = absurd (not-suc-le-zero (le_of_suc-le-suc hj))

first_words : (k : ℕ) → Words k ([] ∷ [])
first_words k zero h = tt
first_words k (suc i) h = absurd (not-suc-le-zero (le_of_suc-le-suc h))

first_short : Short ([] ∷ [])
first_short zero h = omega arith
first_short (suc i) h = absurd (not-suc-le-zero (le_of_suc-le-suc h))

module _ (ask : Word → ℕ) (k τ room : ℕ) (C : Classes ask k τ room) where
  -- closing a list that is told apart ends, since S cannot outgrow the states
  pub closes : (E S : List Word) → Told ask E S → Words k S → Columns τ E → Words k E → 0 < length S → Closes ask k E S (close ask k room E S)
  closes E S told ws cs ls pos =
      let bound = lower_bound ask k τ room E (close ask k room E S) C (closing_told ask k room E S told) (closing_words ask k room E S ws) cs ls in
      closing_ends ask k room E S (omega arith)

  closed_stage : (first p : ℕ) (E S : List Word) → Told ask E S → Words k S → Short S → Columns τ E → Words k E → 0 < length S → get_or S 0 [] ≡ []
      → length E ≡ first + p → p < length (close ask k room E S) → Stage ask k τ first p E (close ask k room E S)
  closed_stage first p E S told ws sh cs ls pos h0 wide grown =
      let g = closing_grows ask k room E S in
      record {
        told = closing_told ask k room E S told;
        shut = closes_shut ask k (closes E S told ws cs ls pos);
        head = ap (λ (X : List Word). get_or X 0 []) g.1 ∙ get_or-append S g.0 [] 0 pos ∙ h0;
        words = closing_words ask k room E S ws;
        short = closing_short ask k room E S sh;
        columns = cs;
        letters = ls;
        wide = wide;
        grown = grown;
      }

  -- the first table, closed
  pub first_stage : (E : List Word) → Columns τ E → Words k E → Stage ask k τ (length E) 0 E (close ask k room E ([] ∷ []))
  first_stage E cs ls =
      let long = closes_long ask k (closes E ([] ∷ []) (first_told ask E) (first_words k) cs ls (omega arith)) in
      closed_stage (length E) 0 E ([] ∷ []) (first_told ask E) (first_words k) first_short cs ls (omega arith) refl (omega arith) (omega arith)

  -- a round with any word on which oracle and conjecture differ: one column more, and at least one word
  pub next_stage : (first p : ℕ) (E S : List Word) (w : Word) → Stage ask k τ first p E S → Below k w → ask w ≢ guess ask τ E S w
      → Stage ask k τ first (suc p) (more ask τ E S w) (close ask k room (more ask τ E S w) S)
  unfolding more
  next_stage first p E S w st b d =
      let pos : 0 < length S = omega (arith, st.grown) in
      let o = round ask k τ E S st.told st.shut pos st.head w b d in
      let e : Word = suffix ask τ E S w in
      let told' = told_more ask E S e st.told in
      let cs : Columns τ (E ++ (e ∷ [])) = all_snoc (λ i x. τ ≤ length x) [] E e st.columns (suffix_long ask k τ E S st.told st.shut pos st.head w o) in
      let ls : Words k (E ++ (e ∷ [])) = all_snoc (λ i x. Below k x) [] E e st.letters (suffix_below ask k τ E S st.told st.shut pos st.head w b) in
      let longer = open_grows ask k (closes (E ++ (e ∷ [])) S told' st.words cs ls pos) o.j o.a o.j_low o.a_low o.opened in
      closed_stage first (suc p) (E ++ (e ∷ [])) S told' st.words st.short cs ls pos st.head (simp length-append (omega (arith, st.wide)))
      (omega (arith, st.grown))

  -- S has at most as many words as there are states
  pub stage_bound : {first p : ℕ} {E S : List Word} (n : ℕ) → Classes ask k τ n → Stage ask k τ first p E S → length S ≤ n
  stage_bound {first} {p} {E} {S} n D st = lower_bound ask k τ n E S D st.told st.words st.columns st.letters

  module _ (first : ℕ) (find : List Word → List Word → Option Word)
      -- what is found is a word on which oracle and conjecture differ
      (right : (p : ℕ) (E S : List Word) (w : Word) → Stage ask k τ first p E S → find E S ≡ some w → Below k w × (ask w ≢ guess ask τ E S w)) where
    pub stops : (r p : ℕ) (E S : List Word) → Stage ask k τ first p E S → Stopped ask k τ first find p r (rounds ask k τ room find r p E S)
    unfolding rounds
    stops zero p E S st = record { stage = st; asked = refl; end = inr (omega arith); few = omega arith }
    stops (suc r) p E S st = go (find E S) refl (λ E' S' st'. stops r (suc p) E' S' st')
      where
        later : {x : Stop} → Stopped ask k τ first find (suc p) r x → Stopped ask k τ first find p (suc r) x
        later {x} s = record { stage = s.stage; asked = s.asked; end = end' s.end; few = omega (arith, s.few) }
          where
            end' : (x.left ≡ none) ⊎ (x.past ≡ suc p + r) → (x.left ≡ none) ⊎ (x.past ≡ p + suc r)
            end' (inl e) = inl e
            end' (inr e) = inr (omega arith)

        go : (o : Option Word) → find E S ≡ o → ((E' S' : List Word) → Stage ask k τ first (suc p) E' S' → Stopped ask k τ first find (suc p) r (rounds ask k τ room find r (suc p) E' S'))
            → Stopped ask k τ first find p (suc r) (rounds ask k τ room find (suc r) p E S)
        go none e ih = rw (e, rounds) (record { stage = st; asked = sym e; end = inl refl; few = omega arith })
        go (some w) e ih =
            let h = right p E S w st e in
            rw (e, rounds) (later (ih (more ask τ E S w) (close ask k room (more ask τ E S w) S) (next_stage first p E S w st h.0 h.1)))

    -- with rounds enough no counterexample is left: it would bring a state too many
    pub enough : (r : ℕ) (E S : List Word) → room ≤ suc r → Stage ask k τ first 0 E S → (rounds ask k τ room find r 0 E S).left ≡ none
    enough r E S hr st = go x.left refl s.end
      where
        x : Stop
        x = rounds ask k τ room find r 0 E S

        s : Stopped ask k τ first find 0 r x
        s = stops r 0 E S st

        go : (o : Option Word) → x.left ≡ o → (x.left ≡ none) ⊎ (x.past ≡ 0 + r) → x.left ≡ none
        go none e c = e
        go (some w) e (inl n) = n
        go (some w) e (inr n) =
            let h = right x.past x.E x.S w s.stage (sym s.asked ∙ e) in
            let next = next_stage first x.past x.E x.S w s.stage h.0 h.1 in
            let l = stage_bound room C next in
            absurd (omega (arith, next.grown))

-- a conjecture with which the oracle agrees on all words has a class for each word of S
pub own_classes : (ask : Word → ℕ) (k τ first p : ℕ) (E S : List Word) → Stage ask k τ first p E S
    → ((w : Word) → Below k w → τ ≤ length w → ask w ≡ guess ask τ E S w) → Classes ask k τ (length S)
unfolding guess swapped
own_classes ask k τ first p E S st agree = record {
  state = reach;
  low = λ w b. reach_low ask k E S st.told st.shut 0 w (omega (arith, st.grown)) b;
  same = λ u v e bu bv be h r.
      agree (u ++ e) (below_append k u e bu be) (long u e h)
      ∙ split u e h ∙ ap (λ (j : ℕ). ask (get_or S (walk (move ask E S) j (take (length e - τ) e)) [] ++ drop (length e - τ) e)) r ∙ sym (split v e h)
      ∙ sym (agree (v ++ e) (below_append k v e bv be) (long v e h));
}
  where
    reach : Word → ℕ
    reach w = walk (move ask E S) 0 w

    long : (u e : Word) → τ ≤ length e → τ ≤ length (u ++ e)
    long u e h = simp length-append (omega arith)

    -- the letters kept lie in e
    split : (u e : Word) → τ ≤ length e
        → guess ask τ E S (u ++ e) ≡ ask (get_or S (walk (move ask E S) (reach u) (take (length e - τ) e)) [] ++ drop (length e - τ) e)
    split u e h =
        let n : length (u ++ e) - τ ≡ length u + (length e - τ) = simp length-append (omega arith) in
        ap (λ (i : ℕ). swapped ask E S (u ++ e) i) n
        ∙ ap₂ (λ (x y : Word). ask (get_or S (reach x) [] ++ y)) (take-append-add u e (length e - τ)) (drop-append-add u e (length e - τ))
        ∙ ap (λ (j : ℕ). ask (get_or S j [] ++ drop (length e - τ) e)) (walk_append (move ask E S) 0 u (take (length e - τ) e))
