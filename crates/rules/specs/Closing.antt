-- Rules 2 to 4 over any `ask`: what closing keeps and reaches. The words of S differ in their cells, each row of a closed table has the
-- cells of exactly one word of S, and S grows only at its end.
use Rattle.std.specs.Prelude.{◌≡◌, ◌⊎◌, ◌≢◌, get_or}
use Rattle.std.proofs.Math.Path.{refl, ap, ap₂, subst}
use Rattle.std.proofs.Common.{sym, ◌∙◌, inl, inr, true≢false, not-suc-le-zero, le_of_suc-le-suc, mod-lt, div-lt_iff_lt-mul, eq-or-lt_of_le}
use Rattle.std.proofs.Math.Bool.{Bool, true, false}
use mathlib.Core.List.{List, [], ◌∷◌, ◌++◌, append-nil, append_assoc, head-eq_of_cons-eq, tail-eq_of_cons-eq}
use Prim.Native.Nat.{ℕ, zero, suc, ◌+◌, ◌*◌, ◌-◌, ◌/◌, ◌%◌, ◌≤◌, ◌<◌}
use Rattle.std.proofs.Math.Nat.{mul-zero}
use native.Mathlib.Omega.{arith}
use Rattle.std.proofs.Math.ListN.{length, length-append, length-map, get_or-append}
use Rattle.std.proofs.Math.Seq.{get_or-append_seam}
use Rattle.std.proofs.Math.Arith.{digits_div, digits_mod, digits_lt}
use Rattle.std.proofs.Math.Dec.{eqb, ltb}
use Rattle.rules.specs.Least.{split}
use Rattle.rules.specs.Words.{Word, Below, below_append}
use Rattle.rules.specs.Tests.{eqs, eqs_true, eqs_false, eqb_true, eqb_false, eqb_same, is_false, ltb_yes, ltb_no, lt_yes, lt_no}
use Rattle.rules.specs.Seek.{seek, sought, seek_is, seek_skip}
use Rattle.rules.specs.Table.{row, cells, state_of, open_row, close, Closes, shut, append, move}

-- ---- statements
-- any two words of S have different cells
abbrev pub Told : (Word → ℕ) → List Word → List Word → Type 0
Told ask E S = (i j : ℕ) → i < j → j < length S → cells ask E (get_or S i []) ≢ cells ask E (get_or S j [])

-- each row has the cells of some word of S
abbrev pub Shut : (Word → ℕ) → ℕ → List Word → List Word → Type 0
Shut ask k E S = (j a : ℕ) → j < length S → a < k → move ask E S j a < length S

-- every word of a list has letters below k
abbrev pub Words : ℕ → List Word → Type 0
Words k S = (i : ℕ) → i < length S → Below k (get_or S i [])

-- every column has τ letters or more
abbrev pub Columns : ℕ → List Word → Type 0
Columns τ E = (c : ℕ) → c < length E → τ ≤ length (get_or E c [])

-- a word of S has at most as many letters as its place says
abbrev pub Short : List Word → Type 0
Short S = (i : ℕ) → i < length S → length (get_or S i []) ≤ i

-- ---- a list with one more at its end
-- what holds of each place with its word, and of the new one, holds of all
pub all_snoc : {A : Type 0} (P : ℕ → A → Type 0) (z : A) (l : List A) (x : A) → ((i : ℕ) → i < length l → P i (get_or l i z)) → P (length l) x
    → (i : ℕ) → i < length (l ++ (x ∷ [])) → P i (get_or (l ++ (x ∷ [])) i z)
all_snoc P z l x f px i h = go (eq-or-lt_of_le (le_of_suc-le-suc (subst (λ (n : ℕ). i < n) len h)))
  where
    len : length (l ++ (x ∷ [])) ≡ suc (length l)
    len = simp length-append (omega arith)

    go : (i ≡ length l) ⊎ (i < length l) → P i (get_or (l ++ (x ∷ [])) i z)
    go (inr m) = rw (get_or-append l (x ∷ []) z i m) (f i m)
    go (inl e) = rw (e, get_or-append_seam l x [] z) px

module _ (ask : Word → ℕ) where
  -- ---- the state of a row
  pub state_le : (E S : List Word) (w : Word) → state_of ask E S w ≤ length S
  unfolding state_of
  state_le E S w = let s = sought (λ (j : ℕ). eqs (cells ask E (get_or S j [])) (cells ask E w)) 0 (length S) in omega (arith, s.high)

  pub state_same : (E S : List Word) (w : Word) → state_of ask E S w < length S → cells ask E (get_or S (state_of ask E S w) []) ≡ cells ask E w
  unfolding state_of
  state_same E S w h =
      let s = sought (λ (j : ℕ). eqs (cells ask E (get_or S j [])) (cells ask E w)) 0 (length S) in
      eqs_true (cells ask E (get_or S (state_of ask E S w) [])) (cells ask E w) (s.hit (omega arith))

  state_none : (E S : List Word) (w : Word) → state_of ask E S w ≡ length S → (j : ℕ) → j < length S → cells ask E (get_or S j []) ≢ cells ask E w
  unfolding state_of
  state_none E S w e j h =
      let s = sought (λ (j : ℕ). eqs (cells ask E (get_or S j [])) (cells ask E w)) 0 (length S) in
      eqs_false (cells ask E (get_or S j [])) (cells ask E w) (s.before j (omega arith) (omega arith))

  pub none_state : (E S : List Word) (w : Word) → ((j : ℕ) → j < length S → cells ask E (get_or S j []) ≢ cells ask E w) → state_of ask E S w ≡ length S
  none_state E S w f = go (eq-or-lt_of_le (state_le E S w))
    where
      go : (state_of ask E S w ≡ length S) ⊎ (state_of ask E S w < length S) → state_of ask E S w ≡ length S
      go (inl e) = e
      go (inr h) = absurd (f (state_of ask E S w) h (state_same E S w h))

  -- the words of S are told apart, so the place of given cells is one
  pub told_place : (E S : List Word) → Told ask E S → (i j : ℕ) → i < length S → j < length S → cells ask E (get_or S i []) ≡ cells ask E (get_or S j []) → i ≡ j
  told_place E S told i j hi hj e = split i j (λ l. absurd (told i j l hj e)) (λ q. q) (λ l. absurd (told j i l hi (sym e)))

  -- a word of S is its own state
  pub state_own : (E S : List Word) → Told ask E S → (j : ℕ) → j < length S → state_of ask E S (get_or S j []) ≡ j
  state_own E S told j h = go (eq-or-lt_of_le (state_le E S (get_or S j [])))
    where
      go : (state_of ask E S (get_or S j []) ≡ length S) ⊎ (state_of ask E S (get_or S j []) < length S) → state_of ask E S (get_or S j []) ≡ j
      go (inl e) = absurd (state_none E S (get_or S j []) e j h refl)
      go (inr l) = told_place E S told (state_of ask E S (get_or S j [])) j l h (state_same E S (get_or S j []) l)

  -- a row that has its word in S keeps it when words are appended
  pub state_stays : (E S more : List Word) (w : Word) → state_of ask E S w < length S → state_of ask E (S ++ more) w ≡ state_of ask E S w
  unfolding state_of
  state_stays E S more w h =
      let p : ℕ → Bool = λ (j : ℕ). eqs (cells ask E (get_or S j [])) (cells ask E w) in
      let s = sought p 0 (length S) in
      let n = length-append S more in
      seek_is (λ (j : ℕ). eqs (cells ask E (get_or (S ++ more) j [])) (cells ask E w)) 0 (length (S ++ more)) (state_of ask E S w) (omega arith) (omega arith)
      (ap (λ (x : Word). eqs (cells ask E x) (cells ask E w)) (get_or-append S more [] (state_of ask E S w) h) ∙ s.hit (omega arith))
      (λ j l u. ap (λ (x : Word). eqs (cells ask E x) (cells ask E w)) (get_or-append S more [] j (omega arith)) ∙ s.before j l u)

  -- ---- columns
  pub cells_ext : (E : List Word) (x y : Word) → ((c : ℕ) → c < length E → ask (x ++ get_or E c []) ≡ ask (y ++ get_or E c [])) → cells ask E x ≡ cells ask E y
  unfolding cells
  cells_ext [] x y h = refl
  cells_ext (e ∷ E) x y h = ap₂ {C = List ℕ} ◌∷◌ (h 0 (omega arith)) (cells_ext E x y (λ c l. h (suc c) (omega arith)))

  pub cells_at : (E : List Word) (x y : Word) → cells ask E x ≡ cells ask E y → (c : ℕ) → c < length E → ask (x ++ get_or E c []) ≡ ask (y ++ get_or E c [])
  unfolding cells
  cells_at [] x y e c h = absurd (not-suc-le-zero h)
  cells_at (d ∷ E) x y e zero h = head-eq_of_cons-eq e
  cells_at (d ∷ E) x y e (suc c) h = cells_at E x y (tail-eq_of_cons-eq e) c (le_of_suc-le-suc h)

  pub cells_get : (E : List Word) (w : Word) (c : ℕ) → c < length E → get_or (cells ask E w) c 0 ≡ ask (w ++ get_or E c [])
  unfolding cells
  cells_get [] w c h = absurd (not-suc-le-zero h)
  cells_get (e ∷ E) w zero h = refl
  cells_get (e ∷ E) w (suc c) h = cells_get E w c (le_of_suc-le-suc h)

  pub cells_length : (E : List Word) (w : Word) → length (cells ask E w) ≡ length E
  unfolding cells
  cells_length E w = length-map E (λ (e : Word). ask (w ++ e))

  -- a column more: the cells of before, and one
  pub cells_snoc : (E : List Word) (e x y : Word) → cells ask (E ++ (e ∷ [])) x ≡ cells ask (E ++ (e ∷ [])) y → (cells ask E x ≡ cells ask E y) × (ask (x ++ e) ≡ ask (y ++ e))
  unfolding cells
  cells_snoc [] e x y h = (refl, head-eq_of_cons-eq h)
  cells_snoc (d ∷ E) e x y h =
      let r = cells_snoc E e x y (tail-eq_of_cons-eq h) in
      (ap₂ {C = List ℕ} ◌∷◌ (head-eq_of_cons-eq h) r.0, r.1)

  pub told_more : (E S : List Word) (e : Word) → Told ask E S → Told ask (E ++ (e ∷ [])) S
  told_more E S e told i j h hj = λ c. told i j h hj (cells_snoc E e (get_or S i []) (get_or S j []) c).0

  -- ---- the open row
  row_at : (k : ℕ) (S : List Word) (j a : ℕ) → a < k → row k S (suc (j * k + a)) ≡ get_or S j [] ++ (a ∷ [])
  unfolding row
  row_at k S j a h = rw (digits_div j h, digits_mod j h)

  open_hit : (k : ℕ) (E S : List Word) → open_row ask k E S < 1 + length S * k → state_of ask E S (row k S (open_row ask k E S)) ≡ length S
  unfolding open_row
  open_hit k E S h =
      let s = sought (λ (r : ℕ). eqb (state_of ask E S (row k S r)) (length S)) 1 (length S * k) in
      eqb_true (state_of ask E S (row k S (open_row ask k E S))) (length S) (s.hit (omega arith))

  open_none : (k : ℕ) (E S : List Word) → 1 + length S * k ≤ open_row ask k E S → Shut ask k E S
  unfolding open_row move
  open_none k E S h j a hj ha = go (eq-or-lt_of_le (state_le E S (get_or S j [] ++ (a ∷ []))))
    where
      go : (state_of ask E S (get_or S j [] ++ (a ∷ [])) ≡ length S) ⊎ (state_of ask E S (get_or S j [] ++ (a ∷ [])) < length S) → state_of ask E S (get_or S j [] ++ (a ∷ [])) < length S
      go (inr l) = l
      go (inl e) =
          let s = sought (λ (r : ℕ). eqb (state_of ask E S (row k S r)) (length S)) 1 (length S * k) in
          let lt : j * k + a < length S * k = digits_lt hj ha in
          let f : eqb (state_of ask E S (row k S (suc (j * k + a)))) (length S) ≡ false = s.before (suc (j * k + a)) (omega arith) (omega arith) in
          let g : eqb (length S) (length S) ≡ false = subst (λ (n : ℕ). eqb n (length S) ≡ false) (ap (state_of ask E S) (row_at k S j a ha) ∙ e) f in
          absurd (true≢false (sym (eqb_same (length S)) ∙ g))

  pub open_le : (k : ℕ) (E S : List Word) → open_row ask k E S ≤ 1 + length S * k
  unfolding open_row
  open_le k E S = (sought (λ (r : ℕ). eqb (state_of ask E S (row k S r)) (length S)) 1 (length S * k)).high

  -- the place and the letter of an open row
  pub record RowOf (k : ℕ) (S : List Word) (r : ℕ) : Type 0 where
    pub j : ℕ
    pub a : ℕ
    pub j_low : j < length S
    pub a_low : a < k
    pub is : row k S r ≡ get_or S j [] ++ (a ∷ [])

  open_row_is : (k : ℕ) (E S : List Word) → open_row ask k E S < 1 + length S * k → RowOf k S (open_row ask k E S)
  unfolding open_row row
  open_row_is k E S h = go (open_row ask k E S) (sought (λ (r : ℕ). eqb (state_of ask E S (row k S r)) (length S)) 1 (length S * k)).low h
    where
      pos_of : (k r : ℕ) → r < length S * k → 0 < k
      pos_of zero r l = absurd (not-suc-le-zero (rw mul-zero at l))
      pos_of (suc k) r l = omega arith

      go : (r : ℕ) → 1 ≤ r → r < 1 + length S * k → RowOf k S r
      go zero l u = absurd (not-suc-le-zero l)
      go (suc r) l u =
          let lt : r < length S * k = omega arith in
          let pos = pos_of k r lt in
          record { j = r / k; a = r % k; j_low = (div-lt_iff_lt-mul pos).1 lt; a_low = mod-lt r pos; is = refl }

  -- the rows before the open one have their words in S
  open_before : (k : ℕ) (E S : List Word) (r : ℕ) → 1 ≤ r → r < open_row ask k E S → state_of ask E S (row k S r) < length S
  unfolding open_row
  open_before k E S r low h =
      let s = sought (λ (r : ℕ). eqb (state_of ask E S (row k S r)) (length S)) 1 (length S * k) in
      let f = eqb_false (state_of ask E S (row k S r)) (length S) (s.before r low h) in
      let l = state_le E S (row k S r) in
      omega arith

  -- so once its word is appended the search may go on from there
  pub open_on : (k : ℕ) (E S : List Word) (w : Word) → 0 < k → open_row ask k E S < 1 + length S * k
      → open_row ask k E (S ++ (w ∷ [])) ≡ seek (λ (r : ℕ). eqb (state_of ask E (S ++ (w ∷ [])) (row k (S ++ (w ∷ [])) r)) (length (S ++ (w ∷ [])))) (open_row ask k E S) (1 + length (S ++ (w ∷ [])) * k - open_row ask k E S)
  unfolding open_row row
  open_on k E S w pos h =
      let s = sought (λ (r : ℕ). eqb (state_of ask E S (row k S r)) (length S)) 1 (length S * k) in
      let n = length-append S (w ∷ []) in
      let m = ap (λ (i : ℕ). i * k) n in
      seek_skip (λ (r : ℕ). eqb (state_of ask E (S ++ (w ∷ [])) (row k (S ++ (w ∷ [])) r)) (length (S ++ (w ∷ [])))) 1 (length (S ++ (w ∷ [])) * k) (open_row ask k E S) s.low (omega arith)
      (λ r l u. passed r l u)
    where
      passed : (r : ℕ) → 1 ≤ r → r < open_row ask k E S → eqb (state_of ask E (S ++ (w ∷ [])) (row k (S ++ (w ∷ [])) r)) (length (S ++ (w ∷ []))) ≡ false
      passed zero l u = absurd (not-suc-le-zero l)
      passed (suc r) l u =
          let j : r / k < length S = (div-lt_iff_lt-mul pos).1 (omega arith) in
          let low = open_before k E S (suc r) l u in
          let is : state_of ask E (S ++ (w ∷ [])) (row k (S ++ (w ∷ [])) (suc r)) ≡ state_of ask E S (row k S (suc r)) =
          ap (λ (x : Word). state_of ask E (S ++ (w ∷ [])) (x ++ (r % k ∷ []))) (get_or-append S (w ∷ []) [] (r / k) j) ∙ state_stays E S (w ∷ []) (row k S (suc r)) low in
          let n = length-append S (w ∷ []) in
          is_false (state_of ask E (S ++ (w ∷ [])) (row k (S ++ (w ∷ [])) (suc r))) (length (S ++ (w ∷ []))) (λ e. absurd (clash (sym is ∙ e) low n))
        where
          clash : state_of ask E S (row k S (suc r)) ≡ length (S ++ (w ∷ [])) → state_of ask E S (row k S (suc r)) < length S → length (S ++ (w ∷ [])) ≡ length S + 1 → ⊥
          clash e low n = omega arith

  told_snoc : (E S : List Word) (w : Word) → Told ask E S → ((j : ℕ) → j < length S → cells ask E (get_or S j []) ≢ cells ask E w) → Told ask E (S ++ (w ∷ []))
  told_snoc E S w told new i j h hj = go (eq-or-lt_of_le (le_of_suc-le-suc (subst (λ (n : ℕ). j < n) len hj)))
    where
      len : length (S ++ (w ∷ [])) ≡ suc (length S)
      len = simp length-append (omega arith)

      go : (j ≡ length S) ⊎ (j < length S) → cells ask E (get_or (S ++ (w ∷ [])) i []) ≢ cells ask E (get_or (S ++ (w ∷ [])) j [])
      go (inr l) = rw (get_or-append S (w ∷ []) [] i (omega arith), get_or-append S (w ∷ []) [] j l) (told i j h l)
      go (inl e) =
          let hi : i < length S = omega arith in
          rw (e, get_or-append_seam S w [] [], get_or-append S (w ∷ []) [] i hi) (new i hi)

  -- ---- closing
  -- what holds of S at its start, and stays when an open row's word is appended, holds at its end
  pub closing_keeps : (P : List Word → Type 0) (k room : ℕ) (E S : List Word)
      → ((S : List Word) → open_row ask k E S < 1 + length S * k → P S → P (S ++ (row k S (open_row ask k E S) ∷ []))) → P S → P (close ask k room E S)
  unfolding close
  closing_keeps P k zero E S step p = p
  closing_keeps P k (suc room) E S step p = go (ltb (open_row ask k E S) (1 + length S * k)) refl (λ S' p'. closing_keeps P k room E S' step p')
    where
      go : (b : Bool) → ltb (open_row ask k E S) (1 + length S * k) ≡ b → ((S' : List Word) → P S' → P (close ask k room E S')) → P (close ask k (suc room) E S)
      go false e ih = rw (e, close) p
      go true e ih = rw (e, close) (ih (S ++ (row k S (open_row ask k E S) ∷ [])) (step S (ltb_yes (open_row ask k E S) (1 + length S * k) e) p))

  -- one word appended, as the code goes
  pub closing_step : (k room : ℕ) (E S : List Word) → open_row ask k E S < 1 + length S * k → close ask k (suc room) E S ≡ close ask k room E (S ++ (row k S (open_row ask k E S) ∷ []))
  unfolding close
  closing_step k room E S h = let e = lt_yes (open_row ask k E S) (1 + length S * k) h in rw (e, close)

  pub closing_stop : (k room : ℕ) (E S : List Word) → open_row ask k E S ≡ 1 + length S * k → close ask k room E S ≡ S
  unfolding close
  closing_stop k zero E S h = refl
  closing_stop k (suc room) E S h = let e = lt_no (open_row ask k E S) (1 + length S * k) (omega arith) in rw (e, close)

  pub open_told : (k : ℕ) (E S : List Word) → Told ask E S → open_row ask k E S < 1 + length S * k → Told ask E (S ++ (row k S (open_row ask k E S) ∷ []))
  open_told k E S told l = told_snoc E S (row k S (open_row ask k E S)) told (state_none E S (row k S (open_row ask k E S)) (open_hit k E S l))

  pub closing_told : (k room : ℕ) (E S : List Word) → Told ask E S → Told ask E (close ask k room E S)
  closing_told k room E S = closing_keeps (Told ask E) k room E S (λ S l told. open_told k E S told l)

  pub closing_words : (k room : ℕ) (E S : List Word) → Words k S → Words k (close ask k room E S)
  closing_words k room E S = closing_keeps (Words k) k room E S (λ S l ws. all_snoc (λ i w. Below k w) [] S (row k S (open_row ask k E S)) ws (new S l ws))
    where
      new : (S : List Word) → open_row ask k E S < 1 + length S * k → Words k S → Below k (row k S (open_row ask k E S))
      new S l ws = let r = open_row_is k E S l in rw r.is (below_append k (get_or S r.j []) (r.a ∷ []) (ws r.j r.j_low) (r.a_low, tt))

  pub closing_short : (k room : ℕ) (E S : List Word) → Short S → Short (close ask k room E S)
  closing_short k room E S = closing_keeps Short k room E S (λ S l sh. all_snoc (λ i w. length w ≤ i) [] S (row k S (open_row ask k E S)) sh (new S l sh))
    where
      new : (S : List Word) → open_row ask k E S < 1 + length S * k → Short S → length (row k S (open_row ask k E S)) ≤ length S
      new S l sh =
          let r = open_row_is k E S l in
          let h = sh r.j r.j_low in
          let lt = r.j_low in
          rw r.is (simp length-append (omega arith))

  -- S grows at its end
  pub closing_grows : (k room : ℕ) (E S : List Word) → (new : List Word) × (close ask k room E S ≡ S ++ new)
  closing_grows k room E S = closing_keeps (λ S'. (new : List Word) × (S' ≡ S ++ new)) k room E S longer ([], sym (append-nil S))
    where
      longer : (S' : List Word) → open_row ask k E S' < 1 + length S' * k → (new : List Word) × (S' ≡ S ++ new)
          → (new : List Word) × (S' ++ (row k S' (open_row ask k E S') ∷ []) ≡ S ++ new)
      longer S' l g =
          let w : Word = row k S' (open_row ask k E S') in
          (g.0 ++ (w ∷ []), ap (λ (X : List Word). X ++ (w ∷ [])) g.1 ∙ append_assoc S g.0 (w ∷ []))

  -- with room enough the table is closed, as the rule says
  pub closing_ends : (k room : ℕ) (E S : List Word) → length (close ask k room E S) < length S + room → Closes ask k E S (close ask k room E S)
  unfolding close
  closing_ends k zero E S h = absurd (never h)
    where
      never : length S < length S + 0 → ⊥
      never h = omega arith
  closing_ends k (suc room) E S h = go (ltb (open_row ask k E S) (1 + length S * k)) refl (λ S'. closing_ends k room E S') h
    where
      S⁺ : List Word
      S⁺ = S ++ (row k S (open_row ask k E S) ∷ [])

      long : length S⁺ ≡ suc (length S)
      long = simp length-append (omega arith)

      go : (b : Bool) → ltb (open_row ask k E S) (1 + length S * k) ≡ b
          → ((S' : List Word) → length (close ask k room E S') < length S' + room → Closes ask k E S' (close ask k room E S'))
          → length (close ask k (suc room) E S) < length S + suc room → Closes ask k E S (close ask k (suc room) E S)
      go false e ih =
          let high = open_le k E S in
          let low = ltb_no (open_row ask k E S) (1 + length S * k) e in
          rw (e, close) (λ h. shut {S = S} (omega arith))
      go true e ih = rw (e, close) (λ h. append (ltb_yes (open_row ask k E S) (1 + length S * k) e) (ih S⁺ (omega (arith, long, h))))

  pub closes_shut : (k : ℕ) {E S S' : List Word} → Closes ask k E S S' → Shut ask k E S'
  closes_shut k {E} {S} (shut e) = open_none k E S (omega arith)
  closes_shut k (append l c) = closes_shut k c

  pub closes_long : (k : ℕ) {E S S' : List Word} → Closes ask k E S S' → length S ≤ length S'
  closes_long k (shut e) = omega arith
  closes_long k {E} {S} (append l c) =
      let h = closes_long k c in
      let n : length (S ++ (row k S (open_row ask k E S) ∷ [])) ≡ suc (length S) = simp length-append (omega arith) in
      omega arith

  -- a row that is open is so no more once the table is closed: S has grown
  pub open_grows : (k : ℕ) {E S S' : List Word} → Closes ask k E S S' → (j a : ℕ) → j < length S → a < k → move ask E S j a ≡ length S → length S < length S'
  open_grows k {E} {S} (shut e) j a hj ha o = let h = open_none k E S (omega arith) j a hj ha in absurd (omega arith)
  open_grows k {E} {S} (append l c) j a hj ha o =
      let h = closes_long k c in
      let n : length (S ++ (row k S (open_row ask k E S) ∷ [])) ≡ suc (length S) = simp length-append (omega arith) in
      omega arith
