-- How long a least difference gets: what tells two states of one machine apart is told by a word of fewer letters than it has states. Two
-- machines side by side are one machine of n + m states, so a counterexample has fewer than n + m letters.
use Rattle.std.specs.Prelude.{◌≡◌, ◌⊎◌, ◌≢◌, Bool, length}
use Rattle.std.proofs.Math.Path.{refl, sym}
use Rattle.std.proofs.Common.{◌∙◌, subst, inl, inr, eq-or-lt_of_le, arith, length-append}
use Rattle.std.proofs.Math.Bool.{true, false}
use mathlib.Core.List.{List, [], ◌∷◌, ◌++◌, map, head-eq_of_cons-eq, tail-eq_of_cons-eq}
use Prim.Native.Nat.{ℕ, zero, suc, pred, ◌+◌, ◌-◌, ◌≤◌, ◌<◌}
use Rattle.std.proofs.Math.Decide.{ℕ_discrete, dec_le}
use Rattle.std.proofs.Math.Dec.{ltb}
use Rattle.rules.specs.Least.{Least, least, dec_not, stable}
use Rattle.rules.specs.Tests.{lt_yes, lt_no, ltb_yes, ltb_no}
use Rattle.rules.specs.Words.{Word, Below, code, before_code, below_append}
use Rattle.rules.specs.Search.{walk}
use Rattle.rules.specs.Machine.{Machine, Complete}
use Rattle.rules.specs.MachineLaws.{walk_low}
use Rattle.rules.specs.Table.{from}
use Rattle.rules.specs.FromLaws.{map_from_same}
use Rattle.rules.specs.Telling.{bound}

abbrev either : {A : Type 0} → Bool → A → A → A
either true x y = x
either false x y = y

-- ---- functions over the letters as lists
map_at : (f g : ℕ → ℕ) (i n : ℕ) → map f (from i n) ≡ map g (from i n) → (b : ℕ) → i ≤ b → b < i + n → f b ≡ g b
unfolding from
map_at f g i zero e b l u = absurd (never l u)
  where
    never : i ≤ b → b < i + 0 → ⊥
    never l u = omega arith
map_at f g i (suc n) e b l u = go (eq-or-lt_of_le l) (map_at f g (suc i) n (tail-eq_of_cons-eq e) b)
  where
    go : (i ≡ b) ⊎ (i < b) → (suc i ≤ b → b < suc i + n → f b ≡ g b) → f b ≡ g b
    go (inl q) ih = subst (λ (z : ℕ). f z ≡ g z) q (head-eq_of_cons-eq e)
    go (inr m) ih = ih m (omega arith)

-- a difference that the letter b shows after v, in fewer than l letters
pub record Shown (k l : ℕ) (M N : Machine) (s t : ℕ) : Type 0 where
  pub v : Word
  pub b : ℕ
  pub letters : Below k v
  pub low : b < k
  pub short : suc (length v) < l
  pub differ : M.out (walk M.next s v) b ≢ N.out (walk N.next t v) b

-- what a machine shows in a state: its outputs letter by letter
abbrev outputs : ℕ → Machine → ℕ → List ℕ
outputs k M x = map (M.out x) (from 0 k)

-- where these differ, they do at some letter
letter_apart : (k : ℕ) (f g : ℕ → ℕ) → map f (from 0 k) ≢ map g (from 0 k) → Least (λ c. f c ≢ g c) k
letter_apart k f g d = go (least (λ c. f c ≢ g c) (λ c. dec_not (ℕ_discrete (f c) (g c))) k)
  where
    go : Least (λ c. f c ≢ g c) k ⊎ ((c : ℕ) → c < k → ¬ (f c ≢ g c)) → Least (λ c. f c ≢ g c) k
    go (inl x) = x
    go (inr never) = absurd (d (map_from_same f g 0 k (λ c h. stable (ℕ_discrete (f c) (g c)) (never c (omega arith)))))

module _ (k l : ℕ) (M N : Machine) (s t : ℕ) where
  -- after u the machines show different things
  shown_by : (u : Word) → Below k u → suc (length u) < l → outputs k M (walk M.next s u) ≢ outputs k N (walk N.next t u) → Shown k l M N s t
  shown_by u bu h d =
      let x = letter_apart k (M.out (walk M.next s u)) (N.out (walk N.next t u)) d in
      record { v = u; b = x.at; letters = bu; low = x.below; short = h; differ = x.has }

  -- a word that is not greater than any that shows a difference is as short
  pub least_short : Shown k l M N s t → (w : Word)
      → ((u : Word) (c : ℕ) → Below k u → c < k → M.out (walk M.next s u) c ≢ N.out (walk N.next t u) c → code k 0 w ≤ code k 0 (u ++ (c ∷ [])))
      → length w < l
  least_short x w first = go (first x.v x.b x.letters x.low x.differ) (dec_le (length w) (suc (length x.v)))
    where
      go : code k 0 w ≤ code k 0 (x.v ++ (x.b ∷ [])) → Dec (length w ≤ suc (length x.v)) → length w < l
      go le (yes h) = omega (arith, x.short)
      go le (no h) =
          let l : length (x.v ++ (x.b ∷ [])) < length w = rw (length-append x.v (x.b ∷ [])) (omega arith) in
          let c = before_code k (x.v ++ (x.b ∷ [])) w (below_append k x.v (x.b ∷ []) x.letters (x.low, tt)) (inl l) in
          absurd (omega arith)

-- ---- one machine
module _ (k : ℕ) (M : Machine) (whole : Complete k M) (s t : ℕ) (hs : s < M.states) (ht : t < M.states) where
  -- if some word shows a difference of its states s and t, one of fewer than n letters does
  pub shorter_alone : (v : Word) (b : ℕ) → Below k v → b < k → M.out (walk M.next s v) b ≢ M.out (walk M.next t v) b → Shown k M.states M M s t
  shorter_alone v b bv hb d =
      let x = bound k M.next (outputs k M) (pred M.states) stays s t (omega arith) (omega arith) v bv apart in
      shown_by k M.states M M s t x.word x.letters (omega (arith, x.short)) x.differ
    where
      stays : (y a : ℕ) → y ≤ pred M.states → a < k → M.next y a ≤ pred M.states
      stays y a h ha = let l = whole.1 y a (omega arith) ha in omega arith

      apart : outputs k M (walk M.next s v) ≢ outputs k M (walk M.next t v)
      apart e = d (map_at (M.out (walk M.next s v)) (M.out (walk M.next t v)) 0 k e b (omega arith) (omega arith))

-- ---- two machines
module _ (k : ℕ) (M N : Machine) (whole : Complete k M) (whole' : Complete k N) where
  n : ℕ
  n = M.states

  -- the states of M, then those of N
  step : ℕ → ℕ → ℕ
  unfolding n
  step x a = either (ltb x n) (M.next x a) (n + N.next (x - n) a)

  shows : ℕ → List ℕ
  unfolding n from
  shows x = either (ltb x n) (outputs k M x) (outputs k N (x - n))

  back : (x : ℕ) → n + x - n ≡ x
  back x = omega arith

  walk_first : (s : ℕ) (v : Word) → s < n → Below k v → walk step s v ≡ walk M.next s v
  unfolding step n
  walk_first s [] h b = refl
  walk_first s (a ∷ v) h b = rw (lt_yes s n h) (walk_first (M.next s a) v (whole.1 s a h b.0) b.1)

  walk_second : (t : ℕ) (v : Word) → walk step (n + t) v ≡ n + walk N.next t v
  unfolding step
  walk_second t [] = refl
  walk_second t (a ∷ v) = rw (lt_no (n + t) n (omega arith), back t) (walk_second (N.next t a) v)

  first_shows : (s : ℕ) (v : Word) → s < n → Below k v → shows (walk step s v) ≡ outputs k M (walk M.next s v)
  unfolding shows n
  first_shows s v h b =
      rw (walk_first s v h b, lt_yes (walk M.next s v) n (walk_low n k M.next whole.1 s v h b))

  second_shows : (t : ℕ) (v : Word) → shows (walk step (n + t) v) ≡ outputs k N (walk N.next t v)
  unfolding shows
  second_shows t v = rw (walk_second t v, lt_no (n + walk N.next t v) n (omega arith), back (walk N.next t v))

  stays : (x a : ℕ) → x ≤ pred (n + N.states) → a < k → step x a ≤ pred (n + N.states)
  unfolding step n
  stays x a hx ha = go (ltb x n) refl
    where
      go : (b : Bool) → ltb x n ≡ b → either (ltb x n) (M.next x a) (n + N.next (x - n) a) ≤ pred (n + N.states)
      go true e = let h = whole.1 x a (ltb_yes x n e) ha in let p = whole'.0 in rw e (omega arith)
      go false e =
          let g : n ≤ x = ltb_no x n e in
          let p = whole'.0 in
          let h = whole'.1 (x - n) a (omega arith) ha in
          rw e (omega arith)

  module _ (s t : ℕ) (hs : s < M.states) (ht : t < N.states) where
    -- if some word shows a difference, one of fewer than n + m letters does
    pub shorter : (v : Word) (b : ℕ) → Below k v → b < k → M.out (walk M.next s v) b ≢ N.out (walk N.next t v) b
        → Shown k (M.states + N.states) M N s t
    unfolding n
    shorter v b bv hb d =
        let p = whole'.0 in
        let x = bound k step shows (pred (n + N.states)) stays s (n + t) (omega arith) (omega arith) v bv apart in
        shown_by k (M.states + N.states) M N s t x.word x.letters (omega (arith, x.short))
        (λ e. x.differ (first_shows s x.word hs x.letters ∙ e ∙ sym (second_shows t x.word)))
      where
        apart : shows (walk step s v) ≢ shows (walk step (n + t) v)
        apart e =
            d (map_at (M.out (walk M.next s v)) (N.out (walk N.next t v)) 0 k (sym (first_shows s v hs bv) ∙ e ∙ second_shows t v) b (omega arith) (omega arith))
