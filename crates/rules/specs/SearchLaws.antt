-- The laws of breadth first search: the queue that it leaves holds every node that can be reached, once and by the least word that leads
-- there, and the first place and letter that pass a test make the least word that passes it.
use Rattle.std.specs.Prelude.{◌≡◌, ◌≢◌, Bool, length, take, ltb}
use Rattle.std.proofs.Math.Path.{refl, sym, subst}
use Rattle.std.proofs.Common.{ap, ◌∙◌, true≢false, not-suc-le-zero, le_of_suc-le-suc, lt_irrefl, lt_trans, mul-le-mul_right, div-add-mod', mod-lt, div-lt_iff_lt-mul}
use Rattle.std.proofs.Math.Logic.{inl, inr}
use Rattle.std.proofs.Math.Bool.{true, false}
use mathlib.Core.List.{List, [], ◌∷◌, ◌++◌, append-nil, append_assoc}
use Prim.Native.Nat.{ℕ, zero, suc, ◌+◌, ◌*◌, ◌/◌, ◌%◌, ◌-◌, ◌≤◌, ◌<◌}
use Rattle.std.proofs.Math.Decide.{dec_le}
use native.Mathlib.Omega.{arith}
use Rattle.std.proofs.Math.ListN.{get_or, length-append, get_or-append}
use Rattle.std.proofs.Math.Seq.{get_or-append_seam}
use Rattle.std.proofs.Math.Arith.{digits_lt, digits_div, digits_mod}
use Rattle.rules.specs.Tests.{outcome, ltb_yes, ltb_no}
use Rattle.rules.specs.Least.{split, stable, at_most}
use Rattle.rules.specs.Seek.{Sought, seek, sought}
use Rattle.rules.specs.Words.{Word, Below, code, code_snoc, code_inj, before_code, below_append, below_take, below_at, snoc_of}
use Rattle.rules.specs.Search.{walk, walk_append, Entry, starts, met, meet, meet_all, explore_from, explore, Covered, Explored}

-- ---- what follows from `Explored`
module _ {X : Type 0} (step : X → ℕ → X) (k : ℕ) (x0 : X) (queue : List (Entry X)) (E : Explored step k x0 queue) where
  -- no more entries than there are nodes to reach
  pub few : (n : ℕ) (num : X → ℕ) → ((x y : X) → num x ≡ num y → x ≡ y) → ((w : Word) → Below k w → num (walk step x0 w) < n) → length queue ≤ n
  few n num one low =
      at_most (length queue) n (λ i. num (get_or queue i (starts x0)).node)
      (λ i h. subst (λ (x : X). num x < n) (E.leads i h) (low (get_or queue i (starts x0)).word (E.letters i h)))
      (λ i j h hj e. E.apart i j h hj (one _ _ e))

  -- a node stands at one place
  pub place : (i j : ℕ) → i < length queue → j < length queue → (get_or queue i (starts x0)).node ≡ (get_or queue j (starts x0)).node → i ≡ j
  place i j hi hj e = split i j (λ l. absurd (E.apart i j l hj e)) (λ q. q) (λ l. absurd (E.apart j i l hi (sym e)))

  -- an entry's word is the least that leads to its node
  pub least : (i : ℕ) → i < length queue → (v : Word) → Below k v → walk step x0 v ≡ (get_or queue i (starts x0)).node
      → code k 0 (get_or queue i (starts x0)).word ≤ code k 0 v
  least i hi v bv e = let c = E.every v bv in rw (place i c.at hi c.low (sym (c.node ∙ e))) c.early

  -- the word at place i has at most i letters: without its last letter it is the word of an earlier place
  pub short : (i : ℕ) → i < length queue → length (get_or queue i (starts x0)).word ≤ i
  short i hi = go (length (get_or queue i (starts x0)).word) i hi refl
    where
      go : (m i : ℕ) → i < length queue → length (get_or queue i (starts x0)).word ≡ m → m ≤ i
      go zero i hi e = omega arith
      go (suc m) i hi e =
          let w = (get_or queue i (starts x0)).word in
          let u = take (length w - 1) w in
          let a = get_or w (length w - 1) 0 in
          let q : w ≡ u ++ (a ∷ []) = snoc_of w (omega arith) in
          let c = E.every u (below_take k (length w - 1) w (E.letters i hi)) in
          let t = (get_or queue c.at (starts x0)).word in
          let bt = E.letters c.at c.low in
          let b = below_append k t (a ∷ []) bt (below_at k w (length w - 1) (E.letters i hi) (omega arith), tt) in
          let ends = walk_append step x0 t (a ∷ []) ∙ ap (λ (x : X). step x a) (E.leads c.at c.low ∙ c.node) ∙ sym (ap (walk step x0) q ∙ walk_append step x0 u (a ∷ [])) in
          let le = least i hi (t ++ (a ∷ [])) b (ends ∙ E.leads i hi) in
          let num = ap (code k 0) q ∙ code_snoc k u a in
          let is = code_inj k (t ++ (a ∷ [])) w b (E.letters i hi) (omega (arith, code_snoc k t a, mul-le-mul_right k c.early)) in
          let len : length t ≡ m = omega (arith, length-append t (a ∷ []), ap length is) in
          let less = before_code k t w bt (inl (omega arith)) in
          let lt : c.at < i = split c.at i (λ l. l) (λ s. absurd (lt_irrefl (code k 0 w) (rw s at less))) (λ l. absurd (omega (arith, E.rising i c.at l c.low))) in
          omega (arith, go m c.at c.low len)

-- ---- the first hit: a test of nodes and letters, tried at each place of the queue with each letter
-- the number j * k + a of the first place j and letter a that pass; length queue * k where none does
abbrev pub first_hit : {X : Type 0} → ℕ → X → List (Entry X) → (X → ℕ → Bool) → ℕ
first_hit k x0 queue goal = seek (λ (j : ℕ). goal (get_or queue (j / k) (starts x0)).node (j % k)) 0 (length queue * k)

-- the test is passed after w with the letter a, and after no earlier word with its last letter
pub record FirstHit {X : Type 0} (step : X → ℕ → X) (k : ℕ) (x0 : X) (goal : X → ℕ → Bool) (w : Word) (a : ℕ) : Type 0 where
  pub hit : goal (walk step x0 w) a ≡ true
  pub letters : Below k w
  pub low : a < k
  pub least : (v : Word) (b : ℕ) → Below k v → b < k → goal (walk step x0 v) b ≡ true → code k 0 (w ++ (a ∷ [])) ≤ code k 0 (v ++ (b ∷ []))

module _ {X : Type 0} (step : X → ℕ → X) (k : ℕ) (x0 : X) (queue : List (Entry X)) (E : Explored step k x0 queue) (goal : X → ℕ → Bool) (pos : 0 < k) where
  abbrev test : ℕ → Bool
  test j = goal (get_or queue (j / k) (starts x0)).node (j % k)

  -- v with the letter b is tested at the place of v's node
  tested : (v : Word) (b : ℕ) (bv : Below k v) → b < k → goal (walk step x0 v) b ≡ test ((E.every v bv).at * k + b)
  tested v b bv hb = let c = E.every v bv in rw (digits_div c.at hb, digits_mod c.at hb, c.node)

  -- later places and letters make later words
  in_order : (i a j b : ℕ) → j < length queue → a < k → b < k → i * k + a ≤ j * k + b
      → code k 0 (get_or queue i (starts x0)).word * k + a ≤ code k 0 (get_or queue j (starts x0)).word * k + b
  in_order i a j b hj ha hb h =
      split i j (λ l. omega (arith, mul-le-mul_right k (E.rising i j l hj))) (λ q. let z = rw q at h in rw q (omega arith))
      (λ l. absurd (omega (arith, mul-le-mul_right k l)))

  -- where no place and letter pass, no word does
  pub no_hit : first_hit k x0 queue goal ≡ length queue * k → (v : Word) (b : ℕ) → Below k v → b < k → goal (walk step x0 v) b ≡ false
  no_hit e v b bv hb =
      let h = digits_lt (E.every v bv).low hb in
      tested v b bv hb ∙ (sought test 0 (length queue * k)).before ((E.every v bv).at * k + b) (omega arith) (omega arith)

  -- the first place and letter that pass make the least word that passes
  pub hit_least : first_hit k x0 queue goal < length queue * k
      → FirstHit step k x0 goal (get_or queue (first_hit k x0 queue goal / k) (starts x0)).word (first_hit k x0 queue goal % k)
  hit_least h =
      let r = first_hit k x0 queue goal in
      let s : Sought test 0 (length queue * k) r = sought test 0 (length queue * k) in
      let hi : r / k < length queue = (div-lt_iff_lt-mul pos).1 h in
      record {
        hit = ap (λ (x : X). goal x (r % k)) (E.leads (r / k) hi) ∙ s.hit (omega arith);
        letters = E.letters (r / k) hi;
        low = mod-lt r pos;
        least = λ v b bv hb g.
            let c = E.every v bv in
            let j = c.at * k + b in
            let l : r ≤ j = stable (dec_le r j) (λ n. true≢false (sym g ∙ tested v b bv hb ∙ s.before j (omega arith) (omega arith))) in
            let o = in_order (r / k) (r % k) c.at b c.low (mod-lt r pos) hb (omega (arith, div-add-mod' r k)) in
            rw (code_snoc k (get_or queue (r / k) (starts x0)).word (r % k), code_snoc k v b) (omega (arith, mul-le-mul_right k c.early));
      }

-- ---- the search: the queue only grows, at its end
abbrev pub Grown : {X : Type 0} → List (Entry X) → List (Entry X) → Type 0
Grown {X} queue longer = (more : List (Entry X)) × (longer ≡ queue ++ more)

grown_twice : {X : Type 0} (l : List (Entry X)) {m n : List (Entry X)} → Grown l m → Grown m n → Grown l n
grown_twice {X} l p q = (p.0 ++ q.0, q.1 ∙ ap (λ (z : List (Entry X)). z ++ q.0) p.1 ∙ append_assoc l p.0 q.0)

-- what holds below n and at n holds below suc n; what holds of a list and of one more holds of both together
below_suc : (P : ℕ → Type 0) (n : ℕ) → ((i : ℕ) → i < n → P i) → P n → (i : ℕ) → i < suc n → P i
below_suc P n f p i h = split i n (f i) (λ e. rw e p) (λ l. absurd (omega arith))

all_snoc : {A : Type 0} (P : ℕ → A → Type 0) (z : A) (l : List A) (x : A) → ((i : ℕ) → i < length l → P i (get_or l i z)) → P (length l) x
    → (i : ℕ) → i < length (l ++ (x ∷ [])) → P i (get_or (l ++ (x ∷ [])) i z)
all_snoc P z l x f p i h =
    below_suc (λ (j : ℕ). P j (get_or (l ++ (x ∷ [])) j z)) (length l) (λ j hj. rw (get_or-append l (x ∷ []) z j hj) (f j hj))
    (rw (get_or-append_seam l x [] z) p) i (omega (arith, length-append l (x ∷ [])))

module _ {X : Type 0} (same : X → X → Bool) (step : X → ℕ → X) (k : ℕ) (x0 : X) where
  -- the entry that the letter a leads to
  abbrev next : Entry X → ℕ → Entry X
  next e a = record { node = step e.node a; word = e.word ++ (a ∷ []) }

  pub meet_grown : (e : Entry X) (a : ℕ) (queue : List (Entry X)) → Grown queue (meet same step x0 e a queue)
  unfolding meet
  meet_grown e a queue =
      elim (outcome (met same step x0 (step e.node a) queue)) [
        | inl t ↦ rw (t, meet) ([], sym (append-nil queue))
        | inr t ↦ rw (t, meet) (next e a ∷ [], refl)
      ]

  pub meet_all_grown : (e : Entry X) (a j : ℕ) (queue : List (Entry X)) → Grown queue (meet_all same step x0 e a j queue)
  unfolding meet_all
  meet_all_grown e a zero queue = ([], sym (append-nil queue))
  meet_all_grown e a (suc j) queue = grown_twice queue (meet_grown e a queue) (meet_all_grown e (suc a) j (meet same step x0 e a queue))

  pub grown : (f i : ℕ) (queue : List (Entry X)) → Grown queue (explore_from same step x0 k f i queue)
  unfolding explore_from
  grown zero i queue = ([], sym (append-nil queue))
  grown (suc f) i queue =
      let e = get_or queue i (starts x0) in
      elim (outcome (ltb i (length queue))) [
        | inl t ↦ rw (t, explore_from) (grown_twice queue (meet_all_grown e 0 k queue) (grown f (suc i) (meet_all same step x0 e 0 k queue)))
        | inr t ↦ rw (t, explore_from) ([], sym (append-nil queue))
      ]

  -- what the outcome of `met` says
  abbrev Met : X → List (Entry X) → Bool → Type 0
  Met y l true = (j : ℕ) × (j < length l) × ((get_or l j (starts x0)).node ≡ y)
  Met y l false = (j : ℕ) → j < length l → (get_or l j (starts x0)).node ≢ y

  -- e at place j: its word leads to its node, and comes after the words of the earlier places
  record Entered (queue : List (Entry X)) (j : ℕ) (e : Entry X) : Type 0 where
    leads : walk step x0 e.word ≡ e.node
    letters : Below k e.word
    after : (i : ℕ) → i < j → (code k 0 (get_or queue i (starts x0)).word < code k 0 e.word) × ((get_or queue i (starts x0)).node ≢ e.node)

  -- the node after the letter b at place j was met, by a word that is no later
  abbrev Tried : List (Entry X) → ℕ → ℕ → Type 0
  Tried queue j b = Covered k x0 queue (step (get_or queue j (starts x0)).node b) (code k 0 (get_or queue j (starts x0)).word * k + suc b)

  -- the search before the letter a of place i: no word in the queue is later than those that were tried, and all earlier letters were tried
  record At (i a : ℕ) (queue : List (Entry X)) : Type 0 where
    sound : (j : ℕ) → j < length queue → Entered queue j (get_or queue j (starts x0))
    bound : i < length queue → (j : ℕ) → j < length queue → code k 0 (get_or queue j (starts x0)).word ≤ code k 0 (get_or queue i (starts x0)).word * k + a
    closed : (j : ℕ) → j < i → (b : ℕ) → b < k → Tried queue j b
    tried : (b : ℕ) → b < a → Tried queue i b

  start : At 0 0 (starts x0 ∷ [])
  start = record {
    sound = all_snoc (Entered (starts x0 ∷ [])) (starts x0) [] (starts x0) (λ j h. absurd (not-suc-le-zero h))
        (record { leads = refl; letters = tt; after = λ i h. absurd (not-suc-le-zero h) });
    bound = λ l. all_snoc (λ j f. code k 0 f.word ≤ 0 * k + 0) (starts x0) [] (starts x0) (λ j h. absurd (not-suc-le-zero h)) (omega arith);
    closed = λ j h. absurd (not-suc-le-zero h);
    tried = λ b h. absurd (not-suc-le-zero h);
  }

  next_place : (i : ℕ) (queue : List (Entry X)) → At i k queue → At (suc i) 0 queue
  next_place i queue I = record {
    sound = I.sound;
    bound = λ h j l. omega (arith, I.bound (omega arith) j l, mul-le-mul_right k ((I.sound (suc i) h).after i (omega arith)).0);
    closed = below_suc (λ (j : ℕ). (b : ℕ) → b < k → Tried queue j b) i I.closed I.tried;
    tried = λ b h. absurd (not-suc-le-zero h);
  }

  tried_still : (queue more : List (Entry X)) (j b : ℕ) → j < length queue → Tried queue j b → Tried (queue ++ more) j b
  tried_still queue more j b h v =
      let e = get_or-append queue more (starts x0) v.at v.low in
      rw (get_or-append queue more (starts x0) j h)
      (record { at = v.at; low = simp length-append (omega (arith, v.low)); node = rw e v.node; early = rw e v.early })

  -- a node that was not met joins the end: its word is later than all others
  joins : (i a : ℕ) (queue : List (Entry X)) → i < length queue → a < k → At i a queue
      → Met (step (get_or queue i (starts x0)).node a) queue false → At i (suc a) (queue ++ (next (get_or queue i (starts x0)) a ∷ []))
  joins i a queue here low I new =
      let e = get_or queue i (starts x0) in
      let x = I.sound i here in
      let num = code_snoc k e.word a in
      let old = get_or-append queue (next e a ∷ []) (starts x0) in
      let seam = get_or-append_seam queue (next e a) [] (starts x0) in
      record {
        sound = all_snoc (Entered (queue ++ (next e a ∷ []))) (starts x0) queue (next e a)
            (λ j h. let o = I.sound j h in record { leads = o.leads; letters = o.letters; after = λ l g. rw (old l (lt_trans g h)) (o.after l g) })
            (record {
              leads = walk_append step x0 e.word (a ∷ []) ∙ ap (λ (y : X). step y a) x.leads;
              letters = below_append k e.word (a ∷ []) x.letters (low, tt);
              after = λ l g. rw (old l g) (omega (arith, I.bound here l g), new l g);
            });
        bound = λ l. rw (old i here) (all_snoc (λ j f. code k 0 f.word ≤ code k 0 e.word * k + suc a) (starts x0) queue (next e a)
            (λ j h. omega (arith, I.bound here j h)) (omega arith));
        closed = λ j h b hb. tried_still queue (next e a ∷ []) j b (lt_trans h here) (I.closed j h b hb);
        tried = below_suc (Tried (queue ++ (next e a ∷ [])) i) a (λ b h. tried_still queue (next e a ∷ []) i b here (I.tried b h))
            (rw (old i here) (record { at = length queue; low = simp length-append (omega arith); node = rw seam; early = rw seam (omega arith) }));
      }

  -- where all letters were tried at all places, a word leads from a node that was met to one that was met by a word no later
  reaches : (queue : List (Entry X)) → ((j : ℕ) → j < length queue → (b : ℕ) → b < k → Tried queue j b) → (y : X) (c : ℕ) (v : Word) → Below k v
      → Covered k x0 queue y c → Covered k x0 queue (walk step y v) (code k c v)
  reaches queue T y c [] b h = h
  reaches queue T y c (a ∷ v) b h =
      let n = T h.at h.low a b.0 in
      reaches queue T (step y a) (c * k + suc a) v b.1
      (record { at = n.at; low = n.low; node = n.node ∙ ap (λ (x : X). step x a) h.node; early = omega (arith, n.early, mul-le-mul_right k h.early) })

  -- past the last place
  over : (i : ℕ) (queue : List (Entry X)) → Grown (starts x0 ∷ []) queue → length queue ≤ i → At i 0 queue → Explored step k x0 queue
  over i queue g h I = record {
    some = rw g.1 (omega arith);
    start = rw g.1;
    leads = λ j l. (I.sound j l).leads;
    letters = λ j l. (I.sound j l).letters;
    rising = λ i j l m. ((I.sound j m).after i l).0;
    apart = λ i j l m. ((I.sound j m).after i l).1;
    every = λ v b. reaches queue (λ j l. I.closed j (omega arith)) x0 0 v b
        (record { at = 0; low = rw g.1 (omega arith); node = rw g.1; early = rw g.1 (omega arith) });
  }

  module _ (exact : (x y : X) → same x y ≡ true → x ≡ y) (other : (x y : X) → same x y ≡ false → x ≢ y) where
    is_met : (y : X) (l : List (Entry X)) → Met y l (met same step x0 y l)
    unfolding met
    is_met y [] = λ j h. absurd (not-suc-le-zero h)
    is_met y (e ∷ l) = go (same e.node y) refl (met same step x0 y l) (is_met y l)
      where
        go : (b : Bool) → same e.node y ≡ b → (c : Bool) → Met y l c → Met y (e ∷ l) (elim b [ true ↦ true | false ↦ c ])
        go true q c m = (0, omega arith, exact e.node y q)
        go false q true m = (suc m.0, omega (arith, m.1), m.2)
        go false q false m = elim [ zero ↦ λ h. other e.node y q | suc j ↦ λ h. m j (le_of_suc-le-suc h) ]

    next_letter : (i a : ℕ) (queue : List (Entry X)) → i < length queue → a < k → At i a queue
        → At i (suc a) (meet same step x0 (get_or queue i (starts x0)) a queue)
    unfolding meet
    next_letter i a queue here low I =
        let y = step (get_or queue i (starts x0)).node a in
        elim (outcome (met same step x0 y queue)) [
          | inl t ↦
              let m = rw t at (is_met y queue) in
              rw (t, meet) (record {
                sound = I.sound;
                bound = λ h j l. omega (arith, I.bound h j l);
                closed = I.closed;
                tried = below_suc (Tried queue i) a I.tried
                    (record { at = m.0; low = m.1; node = m.2; early = omega (arith, I.bound here m.0 m.1) });
              })
          | inr t ↦ rw (t, meet) (joins i a queue here low I (rw t at (is_met y queue)))
        ]

    all_letters : (i a j : ℕ) (queue : List (Entry X)) → i < length queue → a + j ≡ k → At i a queue → (e : Entry X) → get_or queue i (starts x0) ≡ e
        → At i k (meet_all same step x0 e a j queue)
    unfolding meet_all
    all_letters i a zero queue here h I e p = let q : a ≡ k = omega arith in rw q at I
    all_letters i a (suc j) queue here h I e p =
        let g = meet_grown e a queue in
        let J = subst (λ (e : Entry X). At i (suc a) (meet same step x0 e a queue)) p (next_letter i a queue here (omega arith) I) in
        all_letters i (suc a) j (meet same step x0 e a queue) (rw g.1 (simp length-append (omega arith))) (omega arith) J
        e (rw g.1 (get_or-append queue g.0 (starts x0) i here ∙ p))

    -- n bounds the numbers of the nodes to reach
    module _ (n : ℕ) (num : X → ℕ) (one : (x y : X) → num x ≡ num y → x ≡ y) (low : (w : Word) → Below k w → num (walk step x0 w) < n) where
      all_places : (f i : ℕ) (queue : List (Entry X)) → n ≤ i + f → Grown (starts x0 ∷ []) queue → At i 0 queue
          → Explored step k x0 (explore_from same step x0 k f i queue)
      unfolding explore_from
      all_places zero i queue h g I =
          let c = at_most (length queue) n (λ j. num (get_or queue j (starts x0)).node)
          (λ j l. let o = I.sound j l in subst (λ (x : X). num x < n) o.leads (low (get_or queue j (starts x0)).word o.letters))
          (λ i j h l e. ((I.sound j l).after i h).1 (one _ _ e)) in
          over i queue g (omega arith) I
      all_places (suc f) i queue h g I =
          let e = get_or queue i (starts x0) in
          let q = meet_all same step x0 e 0 k queue in
          elim (outcome (ltb i (length queue))) [
            | inl t ↦
                let J = next_place i q (all_letters i 0 k queue (ltb_yes i (length queue) t) (omega arith) I e refl) in
                rw (t, explore_from) (all_places f (suc i) q (omega arith) (grown_twice (starts x0 ∷ []) g (meet_all_grown e 0 k queue)) J)
            | inr t ↦ rw (t, explore_from) (over i queue g (ltb_no i (length queue) t) I)
          ]

      -- THE SEARCH explores: n turns are enough, since each takes a place and no more than n nodes can be reached
      pub explored : Explored step k x0 (explore same step x0 k n)
      unfolding explore
      explored = all_places n 0 (starts x0 ∷ []) (omega arith) ([], refl) start
