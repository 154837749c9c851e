-- The table in its lent area: cell (row, column) lies at row·W + column, and the other bytes of the first `size` are zero. W and `size` are
-- 59 and 34,043 for the links of document 01.
use Rattle.std.specs.Prelude.{◌≡◌, refl, ◌⊎◌, Bool, true, false, Option, Some, None, is_some, IsSome, not, MatchOption, List, [], ◌∷◌, ◌++◌, ℕ, zero, suc, ◌+◌, ◌*◌, ◌-◌, ◌/◌, ◌%◌, ◌≤◌, ◌<◌, get_or, take, drop, set, eqb}
use Rattle.std.proofs.Math.Path.{sym, ap, ap₂}
use Rattle.std.proofs.Common.{◌∙◌, subst, inl, inr, mul-le-mul_right, suc-mul, div-add-mod', mod-lt, div-lt_iff_lt-mul, drop_of_length-le, length-append, length-take, length-drop, get_or-take, get_or-drop, take-suc}
use Rattle.std.proofs.lemmas.List.{map-append, drop-append-le}
use Rattle.std.proofs.Math.Decide.{dec_lt, dec_le}
use native.Mathlib.Omega.{arith}
use Rattle.std.proofs.Math.ListN.{length, get_or-append}
use Rattle.std.proofs.Math.Seq.{ext_get_or}
use Rattle.rules.specs.Tests.{eqs, is_true, is_false}
use Rattle.rules.specs.Words.{Word, below_append, below_drop}
use Rattle.rules.specs.Seek.{seek, seek_same, sought}
use Rattle.rules.specs.Table.{row, cells, state_of}
use Rattle.rules.specs.Closing.{cells_get, cells_length}
use Rattle.rules.specs.Areas.{put, put_inside, put_store, put_length, put_below, put_in, put_above}
use Rattle.machine.specs.Lent.{letters_below}
use Rattle.machine.specs.LentLaws.{letters_are_below, below_letters}

-- letters below k, and more of them
pub letters_append : (k : ℕ) (u v : Word) → letters_below k u ≡ true → letters_below k v ≡ true → letters_below k (u ++ v) ≡ true
letters_append k u v a b = below_letters k (u ++ v) (below_append k u v (letters_are_below k u a) (letters_are_below k v b))

pub letters_drop : (k i : ℕ) (w : Word) → letters_below k w ≡ true → letters_below k (drop i w) ≡ true
letters_drop k i w b = below_letters k (drop i w) (below_drop k i w (letters_are_below k w b))

-- ---- the cells as they stand
-- the first c cells of row r
unfoldable pub row_cells : ℕ → List ℕ → ℕ → ℕ → List ℕ
row_cells W table c r = take c (drop (r * W) table)

-- the place x is found: none where it is the end
abbrev pub Place : Option ℕ → ℕ → ℕ → Type 0
Place found x end = MatchOption found (x ≡ end) (λ i. (x ≡ i) × (i < end))

-- a test for none is the test for the end
pub place_none : (found : Option ℕ) (x end : ℕ) → Place found x end → (b : Bool) → is_some found ≡ not b → eqb x end ≡ b
place_none None x end h true e = is_true x end h
place_none None x end h false e = cc
place_none (Some i) x end h true e = cc
place_none (Some i) x end h false e = is_false x end (λ q. lem q h.0 h.1)
  where
    lem : x ≡ end → x ≡ i → i < end → ⊥
    lem q r l = omega arith

-- and where x lies before the end it is found
pub place_some : (found : Option ℕ) (x end : ℕ) → Place found x end → x < end → IsSome found
place_some None x end h l = absurd (lem h l)
  where
    lem : x ≡ end → x < end → ⊥
    lem h l = omega arith
place_some (Some i) x end h l = refl

-- whether word j of S, which was taken from row rows j, has the cells of row r
abbrev pub same_as : ℕ → List ℕ → List ℕ → ℕ → ℕ → ℕ → Bool
same_as W table rows c r j = eqs (row_cells W table c (get_or rows j 0)) (row_cells W table c r)

-- the place in S of the word whose row has the cells of row r; m where there is none
unfoldable pub state_in : ℕ → List ℕ → List ℕ → ℕ → ℕ → ℕ → ℕ
unfolding row_cells seek eqs
state_in W table rows m c r = seek (same_as W table rows c r) 0 m

pub state_in_le : (W : ℕ) (table rows : List ℕ) (m c r : ℕ) → state_in W table rows m c r ≤ m
unfolding state_in
state_in_le W table rows m c r = let s = sought (same_as W table rows c r) 0 m in omega (arith, s.high)

-- whether a row's cells are those of no word of S
abbrev pub is_open : ℕ → List ℕ → List ℕ → ℕ → ℕ → ℕ → Bool
is_open W table rows m c r = eqb (state_in W table rows m c r) m

-- the first of the rows `first` up to `last` whose cells are those of no word of S; `last` where there is none
unfoldable pub open_in : ℕ → List ℕ → List ℕ → ℕ → ℕ → ℕ → ℕ → ℕ
unfolding state_in seek
open_in W table rows m c first last = seek (is_open W table rows m c) first (last - first)

-- the conjecture's word of state i / k and letter i % k: where the row goes, and the cell of the one-letter column
unfoldable pub guess_in : ℕ → List ℕ → List ℕ → ℕ → ℕ → ℕ → ℕ → ℕ
unfolding state_in
guess_in W table rows m k c i = 256 * state_in W table rows m c (1 + i) + get_or table (get_or rows (i / k) 0 * W + i % k) 0

-- ---- what was filled: the cells of the rows `first` up to `last`, of the columns `from` up to `to`, and nothing else
pub record Filled (W : ℕ) (f : ℕ → ℕ → ℕ) (first last low high : ℕ) (old new : List ℕ) : Type 0 where
  pub size : length new ≡ length old
  pub cell : (r c : ℕ) → first ≤ r → r < last → low ≤ c → c < high → get_or new (r * W + c) 0 ≡ f r c
  pub same : (r c : ℕ) → c < W → (r < first) ⊎ ((last ≤ r) ⊎ ((c < low) ⊎ (high ≤ c))) → get_or new (r * W + c) 0 ≡ get_or old (r * W + c) 0

pub filled_none : (W : ℕ) (f : ℕ → ℕ → ℕ) (first low high : ℕ) (old : List ℕ) → Filled W f first first low high old old
filled_none W f first low high old = record { size = refl; cell = λ r c l u. absurd (never r l u); same = λ r c h o. refl }
  where
    never : (r : ℕ) → first ≤ r → r < first → ⊥
    never r l u = omega arith

-- a place of an earlier row lies before the row
earlier : (W r q c : ℕ) → q < r → c < W → q * W + c < r * W
earlier W r q c h l = omega (arith, suc-mul q W, mul-le-mul_right W h)

-- one row more, written from the column `low` on
module _ (W : ℕ) (f : ℕ → ℕ → ℕ) (first r low : ℕ) (new : List ℕ) (old table : List ℕ) (begun : first ≤ r) (narrow : low + length new ≤ W) (room : r * W + W ≤ length table)
    (is : (c : ℕ) → c < length new → get_or new c 0 ≡ f r (low + c)) where
  inside : r * W + low + length new ≤ length table
  inside = omega arith

  pub filled_more : Filled W f first r low (low + length new) old table → Filled W f first (suc r) low (low + length new) old (put (r * W + low) new table)
  filled_more F = record {
    size = put_length (r * W + low) new table inside ∙ F.size;
    cell = λ q c l u a b. at q c (split q r u) l a b;
    same = λ q c h o. other q c h o;
  }
    where
      split : (q r : ℕ) → q < suc r → (q ≡ r) ⊎ (q < r)
      split q r u = elim (dec_lt q r) [ yes l ↦ inr l | no l ↦ inl (omega arith) ]

      at : (q c : ℕ) → (q ≡ r) ⊎ (q < r) → first ≤ q → low ≤ c → c < low + length new → get_or (put (r * W + low) new table) (q * W + c) 0 ≡ f q c
      at q c (inl e) l a b =
          let p : q * W + c ≡ r * W + low + (c - low) = rw e (omega arith) in
          let z : low + (c - low) ≡ c = omega arith in
          ap (λ (i : ℕ). get_or (put (r * W + low) new table) i 0) p ∙ put_in (r * W + low) new table inside (c - low) (omega arith)
          ∙ is (c - low) (omega arith) ∙ ap₂ f (sym e) z
      at q c (inr h) l a b = put_below (r * W + low) new table inside (q * W + c) (omega (arith, earlier W r q c h (omega arith))) ∙ F.cell q c l h a b

      -- what lies outside the row's new cells
      before : (i : ℕ) → i < r * W + low → get_or (put (r * W + low) new table) i 0 ≡ get_or table i 0
      before i h = put_below (r * W + low) new table inside i h

      after : (i : ℕ) → r * W + low + length new ≤ i → get_or (put (r * W + low) new table) i 0 ≡ get_or table i 0
      after i h = put_above (r * W + low) new table inside i h

      other : (q c : ℕ) → c < W → (q < first) ⊎ ((suc r ≤ q) ⊎ ((c < low) ⊎ (low + length new ≤ c))) → get_or (put (r * W + low) new table) (q * W + c) 0 ≡ get_or old (q * W + c) 0
      other q c h (inl l) = before (q * W + c) (omega (arith, earlier W r q c (omega arith) h)) ∙ F.same q c h (inl l)
      other q c h (inr (inl l)) = after (q * W + c) (omega (arith, suc-mul r W, mul-le-mul_right W l)) ∙ F.same q c h (inr (inl (omega arith)))
      other q c h (inr (inr (inl l))) = side (dec_le q r) ∙ F.same q c h (inr (inr (inl l)))
        where
          side : Dec (q ≤ r) → get_or (put (r * W + low) new table) (q * W + c) 0 ≡ get_or table (q * W + c) 0
          side (yes g) = before (q * W + c) (omega (arith, mul-le-mul_right W g))
          side (no g) = after (q * W + c) (omega (arith, suc-mul r W, mul-le-mul_right {m = suc r} {n = q} W (omega arith)))
      other q c h (inr (inr (inr l))) = side (dec_lt q r) ∙ F.same q c h (inr (inr (inr l)))
        where
          side : Dec (q < r) → get_or (put (r * W + low) new table) (q * W + c) 0 ≡ get_or table (q * W + c) 0
          side (yes g) = before (q * W + c) (omega (arith, earlier W r q c g h))
          side (no g) = after (q * W + c) (omega (arith, mul-le-mul_right {m = r} {n = q} W (omega arith)))

-- ---- a row of the area, filled column by column
-- the cells of the columns `low` up to `high` of the row word w
abbrev pub cells_from : (Word → ℕ) → List Word → ℕ → ℕ → Word → List ℕ
cells_from ask E low high w = cells ask (drop low (take high E)) w

pub cells_from_length : (ask : Word → ℕ) (E : List Word) (low high : ℕ) (w : Word) → high ≤ length E → length (cells_from ask E low high w) ≡ high - low
cells_from_length ask E low high w h = cells_length ask (drop low (take high E)) w ∙ simp (length-drop, length-take) (omega arith)

pub cells_from_none : (ask : Word → ℕ) (E : List Word) (low : ℕ) (w : Word) → low ≤ length E → cells_from ask E low low w ≡ []
unfolding cells
cells_from_none ask E low w h = ap (λ (X : List Word). cells ask X w) (drop_of_length-le (take low E) {i = low} (simp length-take (omega arith)))

-- one column more
pub cells_from_more : (ask : Word → ℕ) (E : List Word) (low c : ℕ) (w : Word) → low ≤ c → c < length E
    → cells_from ask E low (suc c) w ≡ cells_from ask E low c w ++ (ask (w ++ get_or E c []) ∷ [])
unfolding cells
cells_from_more ask E low c w h l =
    let e : Word = get_or E c [] in
    ap (λ (X : List Word). cells ask (drop low X) w) (take-suc E c [] l)
    ∙ ap (λ (X : List Word). cells ask X w) (drop-append-le low (take c E) (e ∷ []) (simp length-take (omega arith)))
    ∙ map-append (λ (x : Word). ask (w ++ x)) (drop low (take c E)) (e ∷ [])

-- the next cell is stored
pub put_cell : (ask : Word → ℕ) (E : List Word) (low c : ℕ) (w : Word) (v : ℕ) (row area : List ℕ) → low ≤ c → c < length E → c < length area → v ≡ ask (w ++ get_or E c [])
    → row ≡ put low (cells_from ask E low c w) area → set row c v ≡ put low (cells_from ask E low (c + 1) w) area
put_cell ask E low c w v row area h l room is e =
    let x = cells_from ask E low c w in
    let n : low + length x ≡ c = omega (arith, cells_from_length ask E low c w) in
    let one : suc c ≡ c + 1 = omega arith in
    ap₂ (λ (l : List ℕ) (i : ℕ). set l i v) e (sym n)
    ∙ put_store low x v area (omega arith)
    ∙ ap (λ (l : List ℕ). put low l area) (ap (λ (y : ℕ). x ++ (y ∷ [])) is ∙ sym (cells_from_more ask E low c w h l) ∙ ap (λ (i : ℕ). cells_from ask E low i w) one)

-- a cell of them
pub cells_at : (ask : Word → ℕ) (E : List Word) (low c : ℕ) (w : Word) → low + c < length E → get_or (cells ask (drop low E) w) c 0 ≡ ask (w ++ get_or E (low + c) [])
cells_at ask E low c w h =
    cells_get ask (drop low E) w c (simp length-drop (omega arith)) ∙ ap (λ (e : Word). ask (w ++ e)) (get_or-drop low E c [])

-- ---- what the code's loop over rows asks for
-- cell (row, column) of the words S and the columns E
abbrev pub cell_of : (Word → ℕ) → ℕ → List Word → List Word → ℕ → ℕ → ℕ
cell_of ask k S E row' column = ask (row k S row' ++ get_or E column [])

module _ (ask : Word → ℕ) (k : ℕ) (S E : List Word) (first r low : ℕ) (old table : List ℕ) where
  -- a row's part is lent, and its cells are put
  pub filled_row : (row' : List ℕ) → first ≤ r → low ≤ length E → length E ≤ 59 → r * 59 + 59 ≤ length table
      → row' ≡ put low (cells ask (drop low E) (row k S r)) (take (r * 59 + 59 - r * 59) (drop (r * 59) table))
      → Filled 59 (cell_of ask k S E) first r low (length E) old table
      → Filled 59 (cell_of ask k S E) first (r + 1) low (length E) old (take (r * 59) table ++ (row' ++ drop (r * 59 + 59 - r * 59) (drop (r * 59) table)))
  filled_row row' begun up narrow room is F =
      let w = row k S r in
      let x = cells ask (drop low E) w in
      let size : length x ≡ length E - low = cells_length ask (drop low E) w ∙ simp length-drop in
      let n : r * 59 + 59 - r * 59 ≡ 59 = omega arith in
      let e : low + length x ≡ length E = omega arith in
      let one : suc r ≡ r + 1 = omega arith in
      let area : take (r * 59) table ++ (row' ++ drop (r * 59 + 59 - r * 59) (drop (r * 59) table)) ≡ put (r * 59 + low) x table =
      ap (λ (l : List ℕ). take (r * 59) table ++ (l ++ drop (r * 59 + 59 - r * 59) (drop (r * 59) table))) is
      ∙ put_inside (r * 59) (r * 59 + 59 - r * 59) low x table (omega arith) (omega arith) in
      subst (λ (l : List ℕ). Filled 59 (cell_of ask k S E) first (r + 1) low (length E) old l) (sym area)
      (subst (λ (i : ℕ). Filled 59 (cell_of ask k S E) first i low (length E) old (put (r * 59 + low) x table)) one
      (subst (λ (h : ℕ). Filled 59 (cell_of ask k S E) first (suc r) low h old (put (r * 59 + low) x table)) e
      (filled_more 59 (cell_of ask k S E) first r low x old table begun (omega arith) room (λ c l. cells_at ask E low c w (omega arith))
      (subst (λ (h : ℕ). Filled 59 (cell_of ask k S E) first r low h old table) (sym e) F))))

-- ---- what the area holds
pub record Holds (W size : ℕ) (ask : Word → ℕ) (k : ℕ) (E S : List Word) (table : List ℕ) : Type 0 where
  pub cell : (r c : ℕ) → r < 1 + length S * k → c < length E → get_or table (r * W + c) 0 ≡ ask (row k S r ++ get_or E c [])
  pub blank : (r c : ℕ) → c < W → (1 + length S * k ≤ r) ⊎ (length E ≤ c) → r * W + c < size → get_or table (r * W + c) 0 ≡ 0

-- the area beyond the table stays
pub record Beyond (size : ℕ) (old new : List ℕ) : Type 0 where
  pub long : length new ≡ length old
  pub rest : (i : ℕ) → size ≤ i → get_or new i 0 ≡ get_or old i 0

pub beyond_same : (size : ℕ) (t : List ℕ) → Beyond size t t
beyond_same size t = record { long = refl; rest = λ i h. refl }

pub beyond_then : {size : ℕ} {x y z : List ℕ} → Beyond size x y → Beyond size y z → Beyond size x z
beyond_then a b = record { long = b.long ∙ a.long; rest = λ i h. b.rest i h ∙ a.rest i h }

-- filled rows lie before the rest
pub filled_beyond : {W size first last low high : ℕ} {f : ℕ → ℕ → ℕ} {old new : List ℕ} → 0 < W → last * W ≤ size → Filled W f first last low high old new → Beyond size old new
filled_beyond {W} {size} {first} {last} {low} {high} {f} {old} {new} pos room F = record { long = F.size; rest = rest }
  where
    rest : (i : ℕ) → size ≤ i → get_or new i 0 ≡ get_or old i 0
    rest i h =
        let e : i / W * W + i % W ≡ i = div-add-mod' i W in
        let m = mod-lt i pos in
        let late : last ≤ i / W = go (dec_lt (i / W) last) in
        subst (λ (j : ℕ). get_or new j 0 ≡ get_or old j 0) e (F.same (i / W) (i % W) m (inr (inl late)))
      where
        go : Dec (i / W < last) → last ≤ i / W
        go (yes l) = let b = (div-lt_iff_lt-mul pos).0 l in absurd (omega arith)
        go (no l) = omega arith

-- row r of S
pub row_at : (k : ℕ) (S : List Word) (r : ℕ) → 0 < r → row k S r ≡ get_or S ((r - 1) / k) [] ++ ((r - 1) % k ∷ [])
unfolding row
row_at k S zero h = absurd (omega arith)
row_at k S (suc r) h = let p : suc r - 1 ≡ r = omega arith in rw p

pub row_below : (k : ℕ) (S : List Word) (r : ℕ) → ((j : ℕ) → j < length S → letters_below k (get_or S j []) ≡ true) → 0 < k → r < 1 + length S * k → letters_below k (row k S r) ≡ true
unfolding row
row_below k S zero letters pos h = refl
row_below k S (suc r) letters pos h =
    let j : r / k < length S = (div-lt_iff_lt-mul pos).1 (omega arith) in
    let w : Word = get_or S (r / k) [] in
    below_letters k (w ++ (r % k ∷ [])) (below_append k w (r % k ∷ []) (letters_are_below k w (letters (r / k) j)) (mod-lt r pos, tt))

-- a word of S is put, and the row's letter is stored after it
pub row_put : (k : ℕ) (S : List Word) (r end : ℕ) (area word : List ℕ) → 0 < r
    → end ≡ 0 + length (get_or S ((r - 1) / k) []) → area ≡ put 0 (get_or S ((r - 1) / k) []) word → length (get_or S ((r - 1) / k) []) < length word
    → (end + 1 ≡ length (row k S r)) × (set area end ((r - 1) % k) ≡ put 0 (row k S r) word)
row_put k S r end area word h e a room =
    let w : Word = get_or S ((r - 1) / k) [] in
    let is = row_at k S r h in (
      omega (arith, ap length is ∙ length-append w ((r - 1) % k ∷ [])),
      ap₂ (λ (x : List ℕ) (i : ℕ). set x i ((r - 1) % k)) a e
          ∙ put_store 0 w ((r - 1) % k) word (omega arith)
          ∙ ap (λ (x : Word). put 0 x word) (sym is),
    )

-- rows of the words that stood there before
pub row_stays : (k : ℕ) (S more : List Word) (r : ℕ) → 0 < k → r < 1 + length S * k → row k (S ++ more) r ≡ row k S r
unfolding row
row_stays k S more zero pos h = refl
row_stays k S more (suc r) pos h =
    let l : r / k < length S = (div-lt_iff_lt-mul pos).1 (omega arith) in
    ap (λ (w : Word). w ++ (r % k ∷ [])) (get_or-append S more [] (r / k) l)

module _ {W size k : ℕ} {ask : Word → ℕ} {E S : List Word} {old new : List ℕ} (pos : 0 < k) (wide : length E ≤ W) (H : Holds W size ask k E S old) where
  -- a word more, its rows filled
  pub holds_word : (w : Word) → Filled W (λ r c. ask (row k (S ++ (w ∷ [])) r ++ get_or E c [])) (1 + length S * k) (1 + length S * k + k) 0 (length E) old new
      → Holds W size ask k E (S ++ (w ∷ [])) new
  holds_word w F = record { cell = λ r c hr hc. cell r c hc (dec_lt r (1 + length S * k)) (rw long at hr); blank = λ r c h o l. blank r c h o l }
    where
      long : length (S ++ (w ∷ [])) ≡ length S + 1
      long = length-append S (w ∷ [])

      cell : (r c : ℕ) → c < length E → Dec (r < 1 + length S * k) → r < 1 + (length S + 1) * k → get_or new (r * W + c) 0 ≡ ask (row k (S ++ (w ∷ [])) r ++ get_or E c [])
      cell r c hc (yes l) hr = F.same r c (omega arith) (inl l) ∙ H.cell r c l hc ∙ ap (λ (x : Word). ask (x ++ get_or E c [])) (sym (row_stays k S (w ∷ []) r pos l))
      cell r c hc (no l) hr = F.cell r c (omega arith) (omega arith) (omega arith) hc

      blank : (r c : ℕ) → c < W → (1 + length (S ++ (w ∷ [])) * k ≤ r) ⊎ (length E ≤ c) → r * W + c < size → get_or new (r * W + c) 0 ≡ 0
      blank r c h (inl l) low =
          let l' : 1 + (length S + 1) * k ≤ r = rw long at l in
          F.same r c h (inr (inl (omega arith))) ∙ H.blank r c h (inl (omega arith)) low
      blank r c h (inr l) low = F.same r c h (inr (inr (inr l))) ∙ H.blank r c h (inr l) low

  -- columns more, their cells filled in every row
  pub holds_columns : (more : List Word) → Filled W (λ r c. ask (row k S r ++ get_or (E ++ more) c [])) 0 (1 + length S * k) (length E) (length (E ++ more)) old new
      → Holds W size ask k (E ++ more) S new
  holds_columns more F = record { cell = λ r c hr hc. cell r c hr hc (dec_lt c (length E)); blank = blank }
    where
      cell : (r c : ℕ) → r < 1 + length S * k → c < length (E ++ more) → Dec (c < length E) → get_or new (r * W + c) 0 ≡ ask (row k S r ++ get_or (E ++ more) c [])
      cell r c hr hc (yes l) = F.same r c (omega arith) (inr (inr (inl l))) ∙ H.cell r c hr l ∙ ap (λ (e : Word). ask (row k S r ++ e)) (sym (get_or-append E more [] c l))
      cell r c hr hc (no l) = F.cell r c (omega arith) hr (omega arith) hc

      blank : (r c : ℕ) → c < W → (1 + length S * k ≤ r) ⊎ (length (E ++ more) ≤ c) → r * W + c < size → get_or new (r * W + c) 0 ≡ 0
      blank r c h (inl l) low = F.same r c h (inr (inl l)) ∙ H.blank r c h (inl l) low
      blank r c h (inr l) low =
          let n = length-append E more in
          F.same r c h (inr (inr (inr l))) ∙ H.blank r c h (inr (omega arith)) low

-- ---- cells and states read off the area
module _ {W size k : ℕ} {ask : Word → ℕ} {E S : List Word} {table : List ℕ} (H : Holds W size ask k E S table) where
  pub holds_cells : (r : ℕ) → r < 1 + length S * k → r * W + length E ≤ length table → row_cells W table (length E) r ≡ cells ask E (row k S r)
  unfolding row_cells
  holds_cells r h room =
      ext_get_or 0 (take (length E) (drop (r * W) table)) (cells ask E (row k S r)) (size' ∙ sym (cells_length ask E (row k S r))) (λ c l. at c (omega (arith, size')))
    where
      size' : length (take (length E) (drop (r * W) table)) ≡ length E
      size' = simp (length-take, length-drop) (omega arith)

      at : (c : ℕ) → c < length E → get_or (take (length E) (drop (r * W) table)) c 0 ≡ get_or (cells ask E (row k S r)) c 0
      at c l = get_or-take (length E) (drop (r * W) table) c 0 l ∙ get_or-drop (r * W) table c 0 ∙ H.cell r c h l ∙ sym (cells_get ask E (row k S r) c l)

  -- word j of S was taken from row rows j
  module _ (rows : List ℕ) (low : (j : ℕ) → j < length S → get_or rows j 0 < 1 + length S * k) (taken : (j : ℕ) → j < length S → row k S (get_or rows j 0) ≡ get_or S j [])
      (room : (r : ℕ) → r < 1 + length S * k → r * W + length E ≤ length table) where
    pub state_in_is : (r : ℕ) → r < 1 + length S * k → state_in W table rows (length S) (length E) r ≡ state_of ask E S (row k S r)
    unfolding state_in state_of
    state_in_is r h =
        seek_same (λ (j : ℕ). eqs (row_cells W table (length E) (get_or rows j 0)) (row_cells W table (length E) r))
        (λ (j : ℕ). eqs (cells ask E (get_or S j [])) (cells ask E (row k S r))) 0 (length S)
        (λ j l u. let hj : j < length S = omega arith in
        ap₂ eqs (holds_cells (get_or rows j 0) (low j hj) (room (get_or rows j 0) (low j hj)) ∙ ap (cells ask E) (taken j hj)) (holds_cells r h (room r h)))
