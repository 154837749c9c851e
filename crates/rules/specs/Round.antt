-- Rule 6 (Rivest and Schapire): a word on which oracle and conjecture differ gives a suffix that opens a row, so each round adds a word.
-- And the lower bound: whatever answers as the oracle does has at least as many states as S has words.
use Rattle.std.specs.Prelude.{◌≡◌, ◌≢◌, take, eqb}
use Rattle.std.proofs.Math.Path.{sym, ap}
use Rattle.std.proofs.Common.{◌∙◌, subst, drop-cons, take-suc}
use Rattle.std.proofs.Math.Bool.{not}
use mathlib.Core.List.{List, [], ◌∷◌, ◌++◌}
use Prim.Native.Nat.{ℕ, suc, ◌-◌, ◌≤◌, ◌<◌}
use Rattle.std.proofs.Math.Decide.{ℕ_discrete}
use native.Mathlib.Omega.{arith}
use Rattle.std.proofs.Math.ListN.{length, get_or, drop, length-drop}
use Rattle.std.proofs.Math.Seq.{append_snoc}
use Rattle.rules.specs.Least.{turn, stable, at_most}
use Rattle.rules.specs.Tests.{is_true, is_false}
use Rattle.rules.specs.Words.{Word, Below, below_at, below_take, below_drop}
use Rattle.rules.specs.Seek.{seek_is}
use Rattle.rules.specs.Search.{walk, walk_append}
use Rattle.rules.specs.MachineLaws.{walk_low}
use Rattle.rules.specs.Table.{cells, state_of, move, swapped, cut, suffix}
use Rattle.rules.specs.Closing.{Told, Shut, Words, Columns, cells_ext, cells_snoc, told_place, state_same, none_state}

-- the conjecture's answer: the answer with all but the last τ letters replaced
unfoldable pub guess : (Word → ℕ) → ℕ → List Word → List Word → Word → ℕ
unfolding swapped
guess ask τ E S w = swapped ask E S w (length w - τ)

module _ (ask : Word → ℕ) (k : ℕ) (E S : List Word) (told : Told ask E S) (shut : Shut ask k E S) where
  pub reach_low : (j : ℕ) (w : Word) → j < length S → Below k w → walk (move ask E S) j w < length S
  reach_low j w h b = walk_low (length S) k (move ask E S) shut j w h b

  -- a suffix that tells a row from the word of S with its cells opens that row
  opens : (j a : ℕ) (e : Word) → j < length S → a < k
      → ask ((get_or S j [] ++ (a ∷ [])) ++ e) ≢ ask (get_or S (move ask E S j a) [] ++ e) → move ask (E ++ (e ∷ [])) S j a ≡ length S
  unfolding move
  opens j a e hj ha d = none_state ask (E ++ (e ∷ [])) S x (λ i hi c. clash i hi (cells_snoc ask E e (get_or S i []) x c))
    where
      x : Word
      x = get_or S j [] ++ (a ∷ [])

      t : ℕ
      t = state_of ask E S x

      clash : (i : ℕ) → i < length S → (cells ask E (get_or S i []) ≡ cells ask E x) × (ask (get_or S i [] ++ e) ≡ ask (x ++ e)) → ⊥
      clash i hi c =
          let same : i ≡ t = told_place ask E S told i t hi (shut j a hj ha) (c.0 ∙ sym (state_same ask E S x (shut j a hj ha))) in
          d (sym (subst (λ (n : ℕ). ask (get_or S n [] ++ e) ≡ ask (x ++ e)) same c.1))

-- the row that a round opens
pub record Opened (ask : Word → ℕ) (k τ : ℕ) (E S : List Word) (w : Word) : Type 0 where
  pub low : cut ask τ E S w < length w - τ
  pub j : ℕ
  pub a : ℕ
  pub j_low : j < length S
  pub a_low : a < k
  pub opened : move ask (E ++ (suffix ask τ E S w ∷ [])) S j a ≡ length S

module _ (ask : Word → ℕ) (k τ : ℕ) (E S : List Word) (told : Told ask E S) (shut : Shut ask k E S) (pos : 0 < length S) (head : get_or S 0 [] ≡ []) where
  pub round : (w : Word) → Below k w → ask w ≢ guess ask τ E S w → Opened ask k τ E S w
  unfolding guess suffix cut
  round w b d =
      let f : ℕ → ℕ = swapped ask E S w in
      let zeroth : f 0 ≡ ask w = ap (λ (u : Word). ask (u ++ w)) head in
      let t = turn f (length w - τ) (λ e. d (sym zeroth ∙ e)) in
      let is : cut ask τ E S w ≡ t.at =
      seek_is (λ (i : ℕ). not (eqb (f i) (f (suc i)))) 0 (length w - τ) t.at (omega arith) (omega (arith, t.below))
      (rw (is_false (f t.at) (f (suc t.at)) t.has))
      (λ i l u. rw (is_true (f i) (f (suc i)) (stable (ℕ_discrete (f i) (f (suc i))) (t.first i u)))) in
      made t.at is t.below t.has
    where
      made : (i : ℕ) → cut ask τ E S w ≡ i → i < length w - τ → swapped ask E S w i ≢ swapped ask E S w (suc i) → Opened ask k τ E S w
      made i is low differ =
          let hi : i < length w = omega arith in
          let a = get_or w i 0 in
          let j = walk (move ask E S) 0 (take i w) in
          let ha : a < k = below_at k w i b hi in
          let hj : j < length S = reach_low ask k E S told shut 0 (take i w) pos (below_take k i w b) in
          let left : swapped ask E S w i ≡ ask ((get_or S j [] ++ (a ∷ [])) ++ drop (suc i) w) =
          ap (λ (u : Word). ask (get_or S j [] ++ u)) (drop-cons w i 0 hi) ∙ ap ask (sym (append_snoc (get_or S j []) a (drop (suc i) w))) in
          let right : swapped ask E S w (suc i) ≡ ask (get_or S (move ask E S j a) [] ++ drop (suc i) w) =
          ap (λ (n : ℕ). ask (get_or S n [] ++ drop (suc i) w)) (ap (walk (move ask E S) 0) (take-suc w i 0 hi) ∙ walk_append (move ask E S) 0 (take i w) (a ∷ [])) in
          record {
            low = rw is low;
            j = j;
            a = a;
            j_low = hj;
            a_low = ha;
            opened = rw is (opens ask k E S told shut j a (drop (suc i) w) hj ha (λ e. differ (left ∙ e ∙ sym right)));
          }

  -- the new column has τ letters or more, and letters below k
  pub suffix_long : (w : Word) → Opened ask k τ E S w → τ ≤ length (suffix ask τ E S w)
  unfolding suffix
  suffix_long w o = rw length-drop (omega (arith, o.low))

  pub suffix_below : (w : Word) → Below k w → Below k (suffix ask τ E S w)
  unfolding suffix
  suffix_below w b = below_drop k (suc (cut ask τ E S w)) w b

-- ---- the lower bound
-- The oracle is answered by something with n states: each word has a state, and words with one state are answered alike from there on.
-- Every machine with n states that answers as the oracle does is such a thing.
pub record Classes (ask : Word → ℕ) (k τ n : ℕ) : Type 0 where
  pub state : Word → ℕ
  pub low : (w : Word) → Below k w → state w < n
  pub same : (u v e : Word) → Below k u → Below k v → Below k e → τ ≤ length e → state u ≡ state v → ask (u ++ e) ≡ ask (v ++ e)

pub lower_bound : (ask : Word → ℕ) (k τ n : ℕ) (E S : List Word) → Classes ask k τ n → Told ask E S → Words k S → Columns τ E → Words k E → length S ≤ n
lower_bound ask k τ n E S C told ws cs ls =
    at_most (length S) n (λ i. C.state (get_or S i [])) (λ i h. C.low (get_or S i []) (ws i h))
    (λ i j h hj e. told i j h hj
    (cells_ext ask E (get_or S i []) (get_or S j []) (λ c l. C.same (get_or S i []) (get_or S j []) (get_or E c []) (ws i (omega arith)) (ws j hj) (ls c l) (cs c l) e)))
