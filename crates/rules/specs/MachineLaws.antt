-- Runs of machines: a word in two parts, answers and last outputs, and that equal machines are those whose questions are answered alike.
use Rattle.std.specs.Prelude.{◌≡◌, length}
use Rattle.std.proofs.Math.Path.{refl, sym, ap}
use Rattle.std.proofs.Common.{ap₂, ◌∙◌, not-suc-le-zero, arith, length-append}
use mathlib.Core.List.{List, [], ◌∷◌, ◌++◌, head-eq_of_cons-eq, tail-eq_of_cons-eq}
use Prim.Native.Nat.{ℕ, suc, ◌≤◌, ◌<◌}
use Rattle.std.proofs.Math.ListN.{get_or}
use Rattle.std.proofs.lemmas.List.{get_or_at}
use Rattle.rules.specs.Words.{Word, Below, below_append}
use Rattle.rules.specs.Search.{walk, walk_append}
use Rattle.rules.specs.Machine.{Machine, answer_from, answer, last_from, ask, Equal}

-- ---- walks
pub walk_low : (n k : ℕ) (step : ℕ → ℕ → ℕ) → ((s a : ℕ) → s < n → a < k → step s a < n) → (s : ℕ) (w : Word) → s < n → Below k w → walk step s w < n
walk_low n k step low s [] h b = h
walk_low n k step low s (a ∷ w) h b = walk_low n k step low (step s a) w (low s a h b.0) b.1

module _ (M : Machine) where
  -- ---- answers
  pub answer_append : (s : ℕ) (u v : Word) → answer_from M s (u ++ v) ≡ answer_from M s u ++ answer_from M (walk M.next s u) v
  unfolding answer_from
  answer_append s [] v = refl
  answer_append s (a ∷ u) v = ap (λ (l : List ℕ). M.out s a ∷ l) (answer_append (M.next s a) u v)

  pub answer_length : (s : ℕ) (w : Word) → length (answer_from M s w) ≡ length w
  unfolding answer_from
  answer_length s [] = refl
  answer_length s (a ∷ w) = ap suc (answer_length (M.next s a) w)

  -- ---- last outputs
  pub last_append : (o s : ℕ) (u v : Word) → last_from M o s (u ++ v) ≡ last_from M (last_from M o s u) (walk M.next s u) v
  unfolding last_from
  last_append o s [] v = refl
  last_append o s (a ∷ u) v = last_append (M.out s a) (M.next s a) u v

  -- what came before does not matter to a word with a letter
  pub last_any : (o p s : ℕ) (w : Word) → 1 ≤ length w → last_from M o s w ≡ last_from M p s w
  unfolding last_from
  last_any o p s [] h = absurd (not-suc-le-zero h)
  last_any o p s (a ∷ w) h = refl

  pub last_snoc : (o s : ℕ) (v : Word) (a : ℕ) → last_from M o s (v ++ (a ∷ [])) ≡ M.out (walk M.next s v) a
  unfolding last_from
  last_snoc o s v a = last_append o s v (a ∷ [])

  pub ask_snoc : (v : Word) (a : ℕ) → ask M (v ++ (a ∷ [])) ≡ M.out (walk M.next 0 v) a
  unfolding ask
  ask_snoc v a = last_snoc 0 0 v a

  -- a question's answer is the last output of the word's answer
  pub ask_last : (v : Word) (a : ℕ) → ask M (v ++ (a ∷ [])) ≡ get_or (answer M (v ++ (a ∷ []))) (length v) 0
  unfolding answer answer_from
  ask_last v a =
      ask_snoc v a
      ∙ sym (get_or_at (answer_from M 0 v) (M.out (walk M.next 0 v) a) [] 0 (length v) (answer_length 0 v))
      ∙ ap (λ (l : List ℕ). get_or l (length v) 0) (sym (answer_append 0 v (a ∷ [])))

-- a word that is answered alike has the same last output
pub answers_last : (M N : Machine) (o s t : ℕ) (w : Word) → answer_from M s w ≡ answer_from N t w → last_from M o s w ≡ last_from N o t w
unfolding answer_from last_from
answers_last M N o s t [] e = refl
answers_last M N o s t (a ∷ w) e =
    ap (λ (x : ℕ). last_from M x (M.next s a) w) (head-eq_of_cons-eq e) ∙ answers_last M N (N.out t a) (M.next s a) (N.next t a) w (tail-eq_of_cons-eq e)

-- ---- equal machines are those that answer each question alike
pub equal_asks : (k : ℕ) (M N : Machine) → Equal k M N → (w : Word) → Below k w → 1 ≤ length w → ask M w ≡ ask N w
unfolding ask answer
equal_asks k M N e w b h = answers_last M N 0 0 0 w (e w b)

pub asks_equal : (k : ℕ) (M N : Machine) → ((w : Word) → Below k w → 1 ≤ length w → ask M w ≡ ask N w) → Equal k M N
unfolding answer
asks_equal k M N f w b = go [] w tt b
  where
    -- u is run already, and v is left
    go : (u v : Word) → Below k u → Below k v → answer_from M (walk M.next 0 u) v ≡ answer_from N (walk N.next 0 u) v
    go u [] bu bv = refl
    go u (a ∷ v) bu bv =
        let bua : Below k (u ++ (a ∷ [])) = below_append k u (a ∷ []) bu (bv.0, tt) in
        let long : 1 ≤ length (u ++ (a ∷ [])) = simp length-append (omega arith) in
        ap₂ {C = List ℕ} ◌∷◌ (sym (ask_snoc M u a) ∙ f (u ++ (a ∷ [])) bua long ∙ ask_snoc N u a)
        (ap (λ (s : ℕ). answer_from M s v) (sym (walk_append M.next 0 u (a ∷ [])))
        ∙ go (u ++ (a ∷ [])) v bua bv.1
        ∙ ap (λ (s : ℕ). answer_from N s v) (walk_append N.next 0 u (a ∷ [])))
