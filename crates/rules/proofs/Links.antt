-- Links, the machines of document 01: rules 1 to 6 with a machine's answers for the oracle, and what the stop means for the machine.
use Rattle.std.specs.Prelude.{◌≡◌, refl, ◌≢◌, ℕ, suc, ◌+◌, ◌-◌, ◌≤◌, ◌<◌, get_or}
use Rattle.std.proofs.Math.Path.{sym, ap, ap₂, subst}
use Rattle.std.proofs.Common.{◌∙◌, arith}
use Rattle.std.proofs.Math.Option.{none, some}
use mathlib.Core.List.{List, [], ◌∷◌, ◌++◌}
use Rattle.std.proofs.Math.ListN.{length, length-append}
use Rattle.std.proofs.Math.Seq.{take-append_seam, drop-append_seam}
use Rattle.rules.specs.Words.{Word, Below, below_append}
use Rattle.rules.specs.Search.{walk}
use Rattle.rules.specs.Machine.{Machine, Complete, answer, last_from, ask, Equal, SmallestModel}
use Rattle.rules.specs.MachineLaws.{walk_low, last_append, last_any, ask_snoc, equal_asks}
use Rattle.rules.specs.Table.{one_letter, close, move, conjecture, swapped}
use Rattle.rules.specs.FromLaws.{map_from_length, map_from_at}
use Rattle.rules.specs.Closing.{Words, Columns}
use Rattle.rules.specs.Round.{guess, Classes, lower_bound}
use Rattle.rules.specs.Rounds.{learned}
use Rattle.rules.specs.Stages.{Stage, Stopped}
use Rattle.rules.proofs.Stages.{first_stage, stops, enough}
use Rattle.rules.specs.DifferenceLaws.{Apart, found, none_agrees}
use Rattle.rules.specs.Links.{counterexample, stopped}

-- ---- from machines to classes
-- a complete machine that is equal to M sorts the words into as many classes as it has states
pub machine_classes : (k : ℕ) (M N : Machine) → Complete k N → Equal k M N → Classes (ask M) k 1 N.states
unfolding ask
machine_classes k M N whole equal = record {
  state = walk N.next 0;
  low = λ w b. walk_low N.states k N.next whole.1 0 w whole.0 b;
  same = λ u v e bu bv be h q.
      equal_asks k M N equal (u ++ e) (below_append k u e bu be) (long u e h)
      ∙ same u v e h q
      ∙ sym (equal_asks k M N equal (v ++ e) (below_append k v e bv be) (long v e h));
}
  where
    long : (u e : Word) → 1 ≤ length e → 1 ≤ length (u ++ e)
    long u e h = simp length-append (omega arith)

    same : (u v e : Word) → 1 ≤ length e → walk N.next 0 u ≡ walk N.next 0 v → ask N (u ++ e) ≡ ask N (v ++ e)
    same u v e h q =
        last_append N 0 0 u e
        ∙ ap (λ (s : ℕ). last_from N (last_from N 0 0 u) s e) q
        ∙ last_any N (last_from N 0 0 u) (last_from N 0 0 v) (walk N.next 0 v) e h
        ∙ sym (last_append N 0 0 v e)

-- ---- the one-letter columns
pub one_letter_at : (k a : ℕ) → a < k → get_or (one_letter k) a [] ≡ a ∷ []
unfolding one_letter
one_letter_at k a h = let z : 0 + a ≡ a = omega arith in map_from_at (λ (a : ℕ). a ∷ []) 0 k a [] h ∙ ap {B = Word} (λ (b : ℕ). b ∷ []) z

pub one_letter_length : (k : ℕ) → length (one_letter k) ≡ k
unfolding one_letter
one_letter_length k = map_from_length (λ (a : ℕ). a ∷ []) 0 k

pub one_letter_long : (k : ℕ) → Columns 1 (one_letter k)
one_letter_long k c h = rw (one_letter_at k c (rw (one_letter_length k) at h)) (omega arith)

pub one_letter_below : (k : ℕ) → Words k (one_letter k)
one_letter_below k c h = let l = rw (one_letter_length k) at h in rw (one_letter_at k c l) (l, tt)

-- ---- the conjecture as a machine
module _ (k : ℕ) (M : Machine) where
  -- its answer is the oracle's with all but the last letter replaced
  pub guess_is : (E S : List Word) (v : Word) (a : ℕ) → guess (ask M) 1 E S (v ++ (a ∷ [])) ≡ ask (conjecture (ask M) E S) (v ++ (a ∷ []))
  unfolding guess swapped conjecture
  guess_is E S v a =
      let n : length (v ++ (a ∷ [])) - 1 ≡ length v = simp length-append (omega arith) in
      ap (λ (i : ℕ). swapped (ask M) E S (v ++ (a ∷ [])) i) n
      ∙ ap₂ (λ (x y : Word). ask M (get_or S (walk (move (ask M) E S) 0 x) [] ++ y)) (take-append_seam v (a ∷ [])) (drop-append_seam v (a ∷ []))
      ∙ sym (ask_snoc (conjecture (ask M) E S) v a)

  module _ {p : ℕ} {E S : List Word} (st : Stage (ask M) k 1 k p E S) where
    pub conjecture_complete : Complete k (conjecture (ask M) E S)
    unfolding conjecture
    conjecture_complete = (omega (arith, st.grown), st.shut)

  module _ (pos : 0 < k) (whole : Complete k M) where
    own : Classes (ask M) k 1 M.states
    own = machine_classes k M M whole (λ w b. refl)

    -- what is found is a word on which oracle and conjecture differ
    pub right : (p : ℕ) (E S : List Word) (w : Word) → Stage (ask M) k 1 k p E S → counterexample k M E S ≡ some w → Below k w × (ask M w ≢ guess (ask M) 1 E S w)
    unfolding counterexample
    right p E S w st e = go (found k pos M (conjecture (ask M) E S) whole (conjecture_complete st) 0 0 whole.0 (conjecture_complete st).0 w e)
      where
        go : Apart k M (conjecture (ask M) E S) 0 0 w → Below k w × (ask M w ≢ guess (ask M) 1 E S w)
        go f =
            let u : Word = f.front ++ (f.last ∷ []) in
            subst (λ (z : Word). Below k z × (ask M z ≢ guess (ask M) 1 E S z)) (sym f.joined) (
              below_append k f.front (f.last ∷ []) f.letters (f.low, tt),
              λ q. f.differ (sym (ask_snoc M f.front f.last) ∙ q ∙ guess_is E S f.front f.last ∙ ask_snoc (conjecture (ask M) E S) f.front f.last),
            )

    first : Stage (ask M) k 1 k 0 (one_letter k) (close (ask M) k M.states (one_letter k) ([] ∷ []))
    first = subst (λ (c : ℕ). Stage (ask M) k 1 c 0 (one_letter k) (close (ask M) k M.states (one_letter k) ([] ∷ []))) (one_letter_length k)
        (first_stage (ask M) k 1 M.states own (one_letter k) (one_letter_long k) (one_letter_below k))

    -- the table at the stop, for every R
    pub at_stop : (R : ℕ) → Stopped (ask M) k 1 k (counterexample k M) 0 R (stopped k M R)
    unfolding stopped learned
    at_stop R = stops (ask M) k 1 M.states own k (counterexample k M) right R 0 (one_letter k) (close (ask M) k M.states (one_letter k) ([] ∷ [])) first

    -- with as many rounds as states, less one, no counterexample is left
    pub rounds_enough : (R : ℕ) → M.states ≤ suc R → (stopped k M R).left ≡ none
    unfolding stopped learned
    rounds_enough R h = enough (ask M) k 1 M.states own k (counterexample k M) right R (one_letter k) (close (ask M) k M.states (one_letter k) ([] ∷ [])) h first

    -- S has at most as many words as any equal complete machine has states
    pub words_few : (R : ℕ) (N : Machine) → Complete k N → Equal k M N → length (stopped k M R).S ≤ N.states
    words_few R N whole' equal =
        let st = (at_stop R).stage in
        lower_bound (ask M) k 1 N.states (stopped k M R).E (stopped k M R).S (machine_classes k M N whole' equal) st.told st.words st.columns st.letters

    -- DONE: the conjecture is a smallest model
    pub done_smallest : (R : ℕ) → (stopped k M R).left ≡ none → SmallestModel k M (conjecture (ask M) (stopped k M R).E (stopped k M R).S)
    unfolding counterexample answer
    done_smallest R e =
        let s = at_stop R in
        let C = conjecture (ask M) (stopped k M R).E (stopped k M R).S in
        let wholeC = conjecture_complete s.stage in
        record {
          complete = wholeC;
          equal = λ w b. none_agrees k pos M C whole wholeC 0 0 whole.0 wholeC.0 (sym s.asked ∙ e) w b;
          fewest = λ N whole' equal. words_few R N whole' equal;
        }
