-- Rule 5: `difference` is the least word that two states answer differently, and none exactly where no word does.
use Rattle.std.specs.Prelude.{◌≡◌, ◌⊎◌, ◌≢◌, true, false, length, take, drop, ltb}
use Rattle.std.proofs.Math.Path.{refl, ap, ap₂}
use Rattle.std.proofs.Common.{sym, ◌∙◌, subst, inl, inr, arith, take-append-drop, take-suc}
use Rattle.std.proofs.Math.Bool.{not}
use Rattle.std.proofs.Math.Option.{Option, none, some}
use mathlib.Core.List.{List, [], ◌∷◌, ◌++◌, List-discrete}
use Prim.Native.Nat.{ℕ, suc, ◌+◌, ◌*◌, ◌/◌, ◌%◌, ◌≤◌, ◌<◌}
use Rattle.std.proofs.Math.Decide.{ℕ_discrete}
use Rattle.std.proofs.Math.ListN.{get_or}
use Rattle.std.proofs.Math.Seq.{get_or-append_seam}
use Rattle.std.proofs.Math.Arith.{digits_div, digits_mod, digits_lt}
use Rattle.std.proofs.Math.Dec.{eqb}
use Rattle.rules.specs.Least.{stable}
use Rattle.rules.specs.Lengths.{least_short, shorter, shorter_alone}
use Rattle.rules.specs.Tests.{outcome, eqb_true, eqb_false, is_false, not-true, not-false, ltb_yes, ltb_no}
use Rattle.rules.specs.Words.{Word, Below, code, code_append, code_le, before_code, below_append, below_take, below_drop, below_at}
use Rattle.rules.specs.Seek.{sought}
use Rattle.rules.specs.Search.{Entry, starts, walk, Explored}
use Rattle.rules.specs.SearchLaws as search
use Rattle.rules.specs.Machine.{Machine, Complete, answer_from}
use Rattle.rules.specs.MachineLaws.{walk_low, answer_append, answer_length}
use Rattle.rules.specs.Difference.{LeastDifference, pair_step, pair_apart, pairs, first_apart, word_apart, difference}

-- ---- where two answers differ
pub record Parting (M N : Machine) (s t : ℕ) (w : Word) : Type 0 where
  pub at : ℕ
  pub low : at < length w
  pub differ : M.out (walk M.next s (take at w)) (get_or w at 0) ≢ N.out (walk N.next t (take at w)) (get_or w at 0)

module _ (M N : Machine) where
  -- different answers part at some letter
  pub parting : (s t : ℕ) (w : Word) → answer_from M s w ≢ answer_from N t w → Parting M N s t w
  unfolding answer_from
  parting s t [] d = absurd (d refl)
  parting s t (a ∷ w) d = go (ℕ_discrete (M.out s a) (N.out t a)) (parting (M.next s a) (N.next t a) w)
    where
      go : Dec (M.out s a ≡ N.out t a)
          → (answer_from M (M.next s a) w ≢ answer_from N (N.next t a) w → Parting M N (M.next s a) (N.next t a) w) → Parting M N s t (a ∷ w)
      go (no f) ih = record { at = 0; low = omega arith; differ = f }
      go (yes e) ih =
          let p = ih (λ q. d (ap₂ {C = List ℕ} ◌∷◌ e q)) in
          record { at = suc p.at; low = omega (arith, p.low); differ = p.differ }

  -- outputs that differ at a letter make different answers
  pub parted : (s t : ℕ) (v : Word) (b : ℕ) → M.out (walk M.next s v) b ≢ N.out (walk N.next t v) b
      → answer_from M s (v ++ (b ∷ [])) ≢ answer_from N t (v ++ (b ∷ []))
  unfolding answer_from
  parted s t v b d e =
      d (sym (last M s) ∙ ap (λ (l : List ℕ). get_or l (length v) 0) e ∙ last N t)
    where
      last : (K : Machine) (s : ℕ) → get_or (answer_from K s (v ++ (b ∷ []))) (length v) 0 ≡ K.out (walk K.next s v) b
      last K s =
          ap (λ (l : List ℕ). get_or l (length v) 0) (answer_append K s v (b ∷ []))
          ∙ ap (λ (n : ℕ). get_or (answer_from K s v ++ (K.out (walk K.next s v) b ∷ [])) n 0) (sym (answer_length K s v))
          ∙ get_or-append_seam (answer_from K s v) (K.out (walk K.next s v) b) [] 0

-- w is a word and a letter that shows a difference, and no lesser word does
pub record Apart (k : ℕ) (M N : Machine) (s t : ℕ) (w : Word) : Type 0 where
  pub front : Word
  pub last : ℕ
  pub joined : w ≡ front ++ (last ∷ [])
  pub letters : Below k front
  pub low : last < k
  pub differ : M.out (walk M.next s front) last ≢ N.out (walk N.next t front) last
  pub least : (v : Word) (b : ℕ) → Below k v → b < k → M.out (walk M.next s v) b ≢ N.out (walk N.next t v) b → code k 0 w ≤ code k 0 (v ++ (b ∷ []))

-- ---- the search over pairs
module _ (k : ℕ) (pos : 0 < k) (M N : Machine) (whole : Complete k M) (whole' : Complete k N) where
  -- the pair that a word leads to
  pub walked : (v : Word) (s t : ℕ) → t < N.states → Below k v → walk (pair_step M N) (s * N.states + t) v ≡ walk M.next s v * N.states + walk N.next t v
  unfolding pair_step
  walked [] s t h b = refl
  walked (a ∷ v) s t h b =
      ap (λ (x : ℕ). walk (pair_step M N) x v) (ap₂ (λ (x y : ℕ). M.next x a * N.states + N.next y a) (digits_div s h) (digits_mod s h))
      ∙ walked v (M.next s a) (N.next t a) (whole'.1 t a h b.0) b.1

  module _ (s t : ℕ) (hs : s < M.states) (ht : t < N.states) where
    second_low : (v : Word) → Below k v → walk N.next t v < N.states
    second_low v b = walk_low N.states k N.next whole'.1 t v ht b

    pair_low : (v : Word) → Below k v → walk (pair_step M N) (s * N.states + t) v < M.states * N.states
    pair_low v b = rw (walked v s t ht b) (digits_lt (walk_low M.states k M.next whole.1 s v hs b) (second_low v b))

    pub pairs_explored : Explored (pair_step M N) k (s * N.states + t) (pairs M N k s t)
    unfolding pairs
    pairs_explored = search.explored eqb (pair_step M N) k (s * N.states + t) eqb_true eqb_false (M.states * N.states) (λ x. x) (λ x y e. e) pair_low

    -- at most n·m pairs are met
    pub pairs_few : length (pairs M N k s t) ≤ M.states * N.states
    pairs_few = search.few (pair_step M N) k (s * N.states + t) (pairs M N k s t) pairs_explored (M.states * N.states) (λ x. x) (λ x y e. e) pair_low

    apart_of : (v : Word) (a : ℕ) → Below k v
        → pair_apart M N (walk (pair_step M N) (s * N.states + t) v) a ≡ not (eqb (M.out (walk M.next s v) a) (N.out (walk N.next t v) a))
    unfolding pair_apart
    apart_of v a b =
        ap (λ (x : ℕ). pair_apart M N x a) (walked v s t ht b)
        ∙ ap₂ (λ (x y : ℕ). not (eqb (M.out x a) (N.out y a))) (digits_div (walk M.next s v) (second_low v b)) (digits_mod (walk M.next s v) (second_low v b))

    -- the outputs after v differ, as the test says
    shown : (v : Word) (a : ℕ) → Below k v → pair_apart M N (walk (pair_step M N) (s * N.states + t) v) a ≡ true
        → M.out (walk M.next s v) a ≢ N.out (walk N.next t v) a
    shown v a b e =
        let x = M.out (walk M.next s v) a in
        let y = N.out (walk N.next t v) a in
        eqb_false x y (not-true (eqb x y) (sym (apart_of v a b) ∙ e))

    hidden : (v : Word) (a : ℕ) → Below k v → pair_apart M N (walk (pair_step M N) (s * N.states + t) v) a ≡ false
        → M.out (walk M.next s v) a ≡ N.out (walk N.next t v) a
    hidden v a b e =
        let x = M.out (walk M.next s v) a in
        let y = N.out (walk N.next t v) a in
        eqb_true x y (not-false (eqb x y) (sym (apart_of v a b) ∙ e))

    tests : (v : Word) (a : ℕ) → Below k v → M.out (walk M.next s v) a ≢ N.out (walk N.next t v) a
        → pair_apart M N (walk (pair_step M N) (s * N.states + t) v) a ≡ true
    tests v a b d = apart_of v a b ∙ rw (is_false (M.out (walk M.next s v) a) (N.out (walk N.next t v) a) d)

    -- what is found is a least difference
    pub found : (w : Word) → difference M N k s t ≡ some w → Apart k M N s t w
    unfolding difference word_apart first_apart
    found w e = go (pairs M N k s t) pairs_explored e
      where
        go : (queue : List (Entry ℕ)) → Explored (pair_step M N) k (s * N.states + t) queue
            → word_apart M N k (s * N.states + t) queue (first_apart M N k (s * N.states + t) queue) ≡ some w → Apart k M N s t w
        go queue E e = on (outcome (ltb (first_apart M N k (s * N.states + t) queue) (length queue * k)))
          where
            x0 : ℕ
            x0 = s * N.states + t

            r : ℕ
            r = first_apart M N k x0 queue

            front : Word
            front = (get_or queue (r / k) (starts x0)).word

            made : search.FirstHit (pair_step M N) k x0 (pair_apart M N) front (r % k) → w ≡ front ++ (r % k ∷ []) → Apart k M N s t w
            made f q = record {
              front = front;
              last = r % k;
              joined = q;
              letters = f.letters;
              low = f.low;
              differ = shown front (r % k) f.letters f.hit;
              least = λ v b bv hb d. rw q (f.least v b bv hb (tests v b bv d));
            }

            on : (ltb r (length queue * k) ≡ true) ⊎ (ltb r (length queue * k) ≡ false) → Apart k M N s t w
            on (inl y) =
                let e' : ◌≡◌ {A = Option Word} (some (front ++ (r % k ∷ []))) (some w) = rw (y, word_apart) at e in
                made (search.hit_least (pair_step M N) k x0 queue E (pair_apart M N) pos (ltb_yes r (length queue * k) y)) (cc)
            on (inr n) =
                let e' : ◌≡◌ {A = Option Word} none (some w) = rw (n, word_apart) at e in
                let z : ◌≡◌ {A = ℕ} 0 1 = cc in
                absurd (omega arith)

    -- none is found: the outputs agree after every word
    pub agree : difference M N k s t ≡ none → (v : Word) (b : ℕ) → Below k v → b < k → M.out (walk M.next s v) b ≡ N.out (walk N.next t v) b
    unfolding difference word_apart first_apart
    agree e v b bv hb = go (pairs M N k s t) pairs_explored e
      where
        go : (queue : List (Entry ℕ)) → Explored (pair_step M N) k (s * N.states + t) queue
            → word_apart M N k (s * N.states + t) queue (first_apart M N k (s * N.states + t) queue) ≡ none
            → M.out (walk M.next s v) b ≡ N.out (walk N.next t v) b
        go queue E e = on (outcome (ltb r (length queue * k)))
          where
            x0 : ℕ
            x0 = s * N.states + t

            r : ℕ
            r = first_apart M N k x0 queue

            on : (ltb r (length queue * k) ≡ true) ⊎ (ltb r (length queue * k) ≡ false) → M.out (walk M.next s v) b ≡ N.out (walk N.next t v) b
            on (inl y) =
                let e' : ◌≡◌ {A = Option Word} (some ((get_or queue (r / k) (starts x0)).word ++ (r % k ∷ []))) none = rw (y, word_apart) at e in
                let z : ◌≡◌ {A = ℕ} 0 1 = cc in
                absurd (omega arith)
            on (inr n) =
                let high = (sought (λ (j : ℕ). pair_apart M N (get_or queue (j / k) (starts x0)).node (j % k)) 0 (length queue * k)).high in
                let low = ltb_no r (length queue * k) n in
                hidden v b bv (search.no_hit (pair_step M N) k x0 queue E (pair_apart M N) pos (omega arith) v b bv hb)

    -- ---- in plain words
    alike : (w : Word) → ¬ (answer_from M s w ≢ answer_from N t w) → answer_from M s w ≡ answer_from N t w
    alike w f = stable (List-discrete ℕ_discrete (answer_from M s w) (answer_from N t w)) f

    -- the word found is the least that is answered differently
    pub found_least : (w : Word) → difference M N k s t ≡ some w → (x : LeastDifference k M N s t) × (x.word ≡ w)
    found_least w e = made (found w e)
      where
        made : Apart k M N s t w → (x : LeastDifference k M N s t) × (x.word ≡ w)
        made f =
            let joined : Word = f.front ++ (f.last ∷ []) in (
              record {
                word = joined;
                letters = below_append k f.front (f.last ∷ []) f.letters (f.low, tt);
                has = parted M N s t f.front f.last f.differ;
                first = λ v bv before d. first v bv (rw (sym f.joined) at (before_code k v joined bv before)) (parting M N s t v d);
              },
              sym f.joined,
            )
          where
            first : (v : Word) → Below k v → code k 0 v < code k 0 w → Parting M N s t v → ⊥
            first v bv l p =
                let u = take p.at v in
                let c = get_or v p.at 0 in
                let le = f.least u c (below_take k p.at v bv) (below_at k v p.at bv p.low) p.differ in
                let part : code k 0 (u ++ (c ∷ [])) ≤ code k 0 v =
                subst (λ (z : Word). code k 0 (u ++ (c ∷ [])) ≤ code k 0 z) (take-append-drop (suc p.at) v)
                (rw (sym (take-suc v p.at 0 p.low), code_append k 0 (take (suc p.at) v) (drop (suc p.at) v))
                (code_le k (code k 0 (take (suc p.at) v)) (drop (suc p.at) v) (below_drop k (suc p.at) v bv))) in
                omega arith

    -- only its last outputs differ: every shorter word is answered alike
    pub found_last : (w : Word) → difference M N k s t ≡ some w → (v : Word) → Below k v → length v < length w → answer_from M s v ≡ answer_from N t v
    found_last w e v bv h =
        let x = found_least w e in
        alike v (λ d. x.0.first v bv (inl (rw x.1 h)) d)

    -- none is found exactly where all words are answered alike
    pub none_agrees : difference M N k s t ≡ none → (w : Word) → Below k w → answer_from M s w ≡ answer_from N t w
    none_agrees e w b = alike w (λ d. let p = parting M N s t w d in p.differ (agree e (take p.at w) (get_or w p.at 0) (below_take k p.at w b) (below_at k w p.at b p.low)))

    pub agrees_none : ((w : Word) → Below k w → answer_from M s w ≡ answer_from N t w) → difference M N k s t ≡ none
    agrees_none f = go (difference M N k s t) refl
      where
        go : (o : Option Word) → difference M N k s t ≡ o → difference M N k s t ≡ none
        go none e = e
        go (some w) e = let x = (found_least w e).0 in absurd (x.has (f x.word x.letters))

    -- and it has fewer letters than the machines have states
    pub found_short : (w : Word) → difference M N k s t ≡ some w → length w < M.states + N.states
    found_short w e =
        let f = found w e in
        least_short k (M.states + N.states) M N s t (shorter k M N whole whole' s t hs ht f.front f.last f.letters f.low f.differ) w f.least

-- of two states of one machine, fewer than it has states
pub found_alone : (k : ℕ) → 0 < k → (M : Machine) → Complete k M → (s t : ℕ) → s < M.states → t < M.states
    → (w : Word) → difference M M k s t ≡ some w → length w < M.states
found_alone k pos M whole s t hs ht w e =
    let f = found k pos M M whole whole s t hs ht w e in
    least_short k M.states M M s t (shorter_alone k M whole s t hs ht f.front f.last f.letters f.low f.differ) w f.least
