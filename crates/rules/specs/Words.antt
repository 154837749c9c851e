-- Words of letters, and their order: shorter first, then lower letters first.
-- Over k letters the words are numbered 0, 1, 2, .. by `code`: a word stands before another exactly if its number is less.
use Rattle.std.specs.Prelude.{◌≡◌, refl, ◌⊎◌, List, [], ◌∷◌, ◌++◌, ℕ, zero, suc, ◌+◌, ◌*◌, ◌/◌, ◌%◌, ◌-◌, ◌≤◌, ◌<◌, length, get_or, take, drop, replicate}
use Rattle.std.proofs.Common.{sym, ap, ap₂, ◌∙◌, subst, inl, inr, not-suc-le-zero, le_of_suc-le-suc, suc-ne-zero, mul-le-mul_right, mul-le-mul_left, lt_irrefl, lt_trans, div-add-mod', mod-lt, div-le_self, le_trans, arith, length-take, length-drop, take-append-drop, drop_of_length-le}
use Rattle.std.proofs.Math.Nat.{suc_inj}
use Rattle.std.proofs.Math.Decide.{ℕ_discrete, dec_lt}
use Rattle.std.proofs.lemmas.List.{length-replicate}
use Rattle.std.proofs.Math.Seq.{split_at}
use Rattle.rules.specs.Least.{Least, least, least_of}

abbrev pub Word : Type 0
Word = List ℕ

-- every letter is below k
abbrev pub Below : ℕ → Word → Type 0
Below k [] = Unit {0}
Below k (a ∷ w) = (a < k) × Below k w

-- lower at the first letter at which they differ (words of one length)
abbrev pub Lower : Word → Word → Type 0
Lower [] v = ⊥
Lower (a ∷ u) [] = ⊥
Lower (a ∷ u) (b ∷ v) = (a < b) ⊎ ((a ≡ b) × Lower u v)

-- THE ORDER
abbrev pub Before : Word → Word → Type 0
Before u v = (length u < length v) ⊎ ((length u ≡ length v) × Lower u v)

-- the least word with a property
pub record LeastWord (k : ℕ) (P : Word → Type 0) : Type 0 where
  pub word : Word
  pub letters : Below k word
  pub has : P word
  pub first : (v : Word) → Below k v → Before v word → ¬ P v

-- ---- letters below k
pub below_append : (k : ℕ) (u v : Word) → Below k u → Below k v → Below k (u ++ v)
below_append k [] v bu bv = bv
below_append k (a ∷ u) v bu bv = (bu.0, below_append k u v bu.1 bv)

pub below_take : (k n : ℕ) (u : Word) → Below k u → Below k (take n u)
below_take k zero u b = tt
below_take k (suc n) [] b = tt
below_take k (suc n) (a ∷ u) b = (b.0, below_take k n u b.1)

pub below_drop : (k n : ℕ) (u : Word) → Below k u → Below k (drop n u)
below_drop k zero u b = b
below_drop k (suc n) [] b = tt
below_drop k (suc n) (a ∷ u) b = below_drop k n u b.1

pub below_at : (k : ℕ) (w : Word) (i : ℕ) → Below k w → i < length w → get_or w i 0 < k
below_at k [] i b h = absurd (not-suc-le-zero h)
below_at k (a ∷ w) zero b h = b.0
below_at k (a ∷ w) (suc i) b h = below_at k w i b.1 (le_of_suc-le-suc h)

-- a word with a letter is a word and a last letter
pub snoc_of : (w : Word) → 1 ≤ length w → w ≡ take (length w - 1) w ++ (get_or w (length w - 1) 0 ∷ [])
snoc_of w h =
    let n = length w - 1 in
    let d : drop (suc n) w ≡ [] = drop_of_length-le w {i = suc n} (omega arith) in
    split_at w n 0 (omega arith) ∙ ap (λ (z : Word). take n w ++ (get_or w n 0 ∷ z)) d

-- ---- a word's number
abbrev pub code : ℕ → ℕ → Word → ℕ
code k c [] = c
code k c (a ∷ w) = code k (c * k + suc a) w

pub code_append : (k c : ℕ) (u v : Word) → code k c (u ++ v) ≡ code k (code k c u) v
code_append k c [] v = refl
code_append k c (a ∷ u) v = code_append k (c * k + suc a) u v

pub code_snoc : (k : ℕ) (u : Word) (a : ℕ) → code k 0 (u ++ (a ∷ [])) ≡ code k 0 u * k + suc a
code_snoc k u a = code_append k 0 u (a ∷ [])

-- a word's number is at least that of each of its beginnings
pub code_le : (k c : ℕ) (w : Word) → Below k w → c ≤ code k c w
code_le k c [] b = omega arith
code_le k c (a ∷ w) b =
    let h = code_le k (c * k + suc a) w b.1 in
    let m : c * 1 ≤ c * k = mul-le-mul_left c (omega (arith, b.0)) in
    omega arith

module _ (k : ℕ) where
  -- a smaller start and words of one length
  code_start : (c d : ℕ) (u v : Word) → c < d → length u ≡ length v → Below k u → code k c u < code k d v
  code_start c d [] [] h e b = h
  code_start c d [] (y ∷ v) h e b = absurd (suc-ne-zero (length v) (sym e))
  code_start c d (x ∷ u) [] h e b = absurd (suc-ne-zero (length u) e)
  code_start c d (x ∷ u) (y ∷ v) h e b =
      code_start (c * k + suc x) (d * k + suc y) u v (omega (arith, mul-le-mul_right k h, b.0)) (suc_inj e) b.1

  code_pos : (c : ℕ) (v : Word) → 0 < length v → 0 < code k c v
  code_pos c [] h = absurd (not-suc-le-zero h)
  code_pos c (a ∷ []) h = omega arith
  code_pos c (a ∷ b ∷ v) h = code_pos (c * k + suc a) (b ∷ v) (omega arith)

  code_lower : (c : ℕ) (u v : Word) → length u ≡ length v → Lower u v → Below k u → code k c u < code k c v
  code_lower c [] v e l b = absurd l
  code_lower c (x ∷ u) [] e l b = absurd l
  code_lower c (x ∷ u) (y ∷ v) e (inl h) b = code_start (c * k + suc x) (c * k + suc y) u v (omega arith) (suc_inj e) b.1
  code_lower c (x ∷ u) (y ∷ v) e (inr h) b =
      subst (λ (z : ℕ). code k (c * k + suc x) u < code k (c * k + suc z) v) h.0 (code_lower (c * k + suc x) u v (suc_inj e) h.1 b.1)

  code_shorter : (u v : Word) → length u < length v → Below k u → code k 0 u < code k 0 v
  code_shorter u v h b =
      let n = length v - length u in
      let p = take n v in
      let s = drop n v in
      let lp : 0 < length p = simp length-take (omega arith) in
      let ls : length u ≡ length s = simp length-drop (omega arith) in
      subst (λ (z : Word). code k 0 u < code k 0 z) (take-append-drop n v)
      (rw (code_append k 0 p s) (code_start 0 (code k 0 p) u s (code_pos 0 p lp) ls b))

  pub before_code : (u v : Word) → Below k u → Before u v → code k 0 u < code k 0 v
  before_code u v b (inl h) = code_shorter u v h b
  before_code u v b (inr h) = code_lower 0 u v h.0 h.1 b

-- ---- of any two words one stands before the other, or they are equal
pub data Three (u v : Word) : Type 0 where
  earlier : Before u v → Three u v
  equal : u ≡ v → Three u v
  later : Before v u → Three u v

data Low (u v : Word) : Type 0 where
  lower : Lower u v → Low u v
  same : u ≡ v → Low u v
  higher : Lower v u → Low u v

low : (u v : Word) → length u ≡ length v → Low u v
low [] [] e = same refl
low [] (y ∷ v) e = absurd (suc-ne-zero (length v) (sym e))
low (x ∷ u) [] e = absurd (suc-ne-zero (length u) e)
low (x ∷ u) (y ∷ v) e = go (dec_lt x y) (ℕ_discrete x y) (low u v (suc_inj e))
  where
    go : Dec (x < y) → Dec (x ≡ y) → Low u v → Low (x ∷ u) (y ∷ v)
    go (yes h) d r = lower (inl h)
    go (no h) (no d) r = higher (inl (omega arith))
    go (no h) (yes d) (lower l) = lower (inr (d, l))
    go (no h) (yes d) (same q) = same (ap₂ {C = Word} ◌∷◌ d q)
    go (no h) (yes d) (higher l) = higher (inr (sym d, l))

pub three : (u v : Word) → Three u v
three u v = go (dec_lt (length u) (length v)) (ℕ_discrete (length u) (length v))
  where
    by : length u ≡ length v → Low u v → Three u v
    by e (lower l) = earlier (inr (e, l))
    by e (same q) = equal q
    by e (higher l) = later (inr (sym e, l))

    go : Dec (length u < length v) → Dec (length u ≡ length v) → Three u v
    go (yes h) d = earlier (inl h)
    go (no h) (yes e) = by e (low u v e)
    go (no h) (no e) = later (inl (omega arith))

module _ (k : ℕ) where
  pub code_before : (u v : Word) → Below k u → Below k v → code k 0 u < code k 0 v → Before u v
  code_before u v bu bv h = go (three u v)
    where
      go : Three u v → Before u v
      go (earlier b) = b
      go (equal e) = absurd (lt_irrefl (code k 0 v) (subst (λ (z : Word). code k 0 z < code k 0 v) e h))
      go (later b) = absurd (lt_irrefl (code k 0 u) (lt_trans h (before_code k v u bv b)))

  pub code_inj : (u v : Word) → Below k u → Below k v → code k 0 u ≡ code k 0 v → u ≡ v
  code_inj u v bu bv e = go (three u v)
    where
      go : Three u v → u ≡ v
      go (earlier b) = let h = before_code k u v bu b in absurd (omega arith)
      go (equal q) = q
      go (later b) = let h = before_code k v u bv b in absurd (omega arith)

  -- ---- the word of a number
  abbrev pub spell : ℕ → ℕ → Word
  spell zero c = []
  spell (suc f) zero = []
  spell (suc f) (suc c) = spell f (c / k) ++ (c % k ∷ [])

  pub spell_below : 0 < k → (f c : ℕ) → Below k (spell f c)
  spell_below h zero c = tt
  spell_below h (suc f) zero = tt
  spell_below h (suc f) (suc c) = below_append k (spell f (c / k)) (c % k ∷ []) (spell_below h f (c / k)) (mod-lt c h, tt)

  pub code_spell : (f c : ℕ) → c ≤ f → code k 0 (spell f c) ≡ c
  code_spell zero c h = omega arith
  code_spell (suc f) zero h = refl
  code_spell (suc f) (suc c) h =
      rw (code_snoc k (spell f (c / k)) (c % k), code_spell f (c / k) (le_trans (div-le_self c k) (le_of_suc-le-suc h)))
      (omega (arith, div-add-mod' c k))

  pub spell_code : 0 < k → (v : Word) → Below k v → spell (code k 0 v) (code k 0 v) ≡ v
  spell_code pos v bv =
      let c = code k 0 v in
      code_inj (spell c c) v (spell_below pos c c) bv (code_spell c c (omega arith))

-- ---- the least word with a decidable property, from any word that has it
pub least_word : (k : ℕ) (P : Word → Type 0) → ((w : Word) → Dec (P w)) → 0 < k → (w : Word) → Below k w → P w → LeastWord k P
least_word k P d pos w b p =
    let n = code k 0 w in
    let x = least_of (λ c. P (spell k c c)) (λ c. d (spell k c c)) (suc n) n (omega arith) (subst P (sym (spell_code k pos w b)) p) in
    record {
      word = spell k x.at x.at;
      letters = spell_below k pos x.at x.at;
      has = x.has;
      first = λ v bv h pv. x.first (code k 0 v) (earlier' x.at v bv h) (subst P (sym (spell_code k pos v bv)) pv);
    }
  where
    earlier' : (c : ℕ) (v : Word) → Below k v → Before v (spell k c c) → code k 0 v < c
    earlier' c v bv h =
        subst (λ (z : ℕ). code k 0 v < z) (code_spell k c c (omega arith)) (before_code k v (spell k c c) bv h)

-- or no word of at most b letters has it
pub least_up_to : (k : ℕ) (P : Word → Type 0) → ((w : Word) → Dec (P w)) → 0 < k → (b : ℕ)
    → LeastWord k P ⊎ ((w : Word) → Below k w → length w ≤ b → ¬ P w)
least_up_to k P d pos b = go (least (λ c. P (spell k c c)) (λ c. d (spell k c c)) n)
  where
    n : ℕ
    n = code k 0 (replicate (suc b) 0)

    short : (v : Word) → Below k v → length v ≤ b → code k 0 v < n
    short v bv h = before_code k v (replicate (suc b) 0) bv (inl (rw length-replicate (omega arith)))

    go : Least (λ c. P (spell k c c)) n ⊎ ((c : ℕ) → c < n → ¬ P (spell k c c)) → LeastWord k P ⊎ ((w : Word) → Below k w → length w ≤ b → ¬ P w)
    go (inl x) = inl (least_word k P d pos (spell k x.at x.at) (spell_below k pos x.at x.at) x.has)
    go (inr none) = inr (λ w bw h p. none (code k 0 w) (short w bw h) (subst P (sym (spell_code k pos w bw)) p))
