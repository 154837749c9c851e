-- What the learner's operation asks for at its end: which of the three it leaves, and that the table area is the rule's, byte by byte.
use Rattle.std.specs.Prelude.{◌≡◌, refl, ◌⊎◌, true, false, List, ◌∷◌, ◌++◌, map, drop, ltb}
use Rattle.std.proofs.Common.{sym, ap, ◌∙◌, inl, inr, div-add-mod', mod-lt, arith, length-append, length-drop, ext_get_or, get_or-append-add, get_or-drop}
use Rattle.std.proofs.Math.Path.{subst}
use Rattle.std.proofs.Math.Option.{none, some}
use Prim.Native.Nat.{ℕ, zero, suc, ◌+◌, ◌*◌, ◌-◌, ◌/◌, ◌%◌, ◌≤◌, ◌<◌}
use Rattle.std.proofs.Math.Decide.{dec_lt}
use Rattle.std.proofs.Math.ListN.{length, get_or, get_or-append}
use Rattle.rules.specs.Tests.{outcome, ltb_yes, ltb_no}
use Rattle.rules.specs.Words.{Word}
use Rattle.rules.specs.Areas.{over, zeros}
use Rattle.rules.specs.Machine.{Machine, ask}
use Rattle.rules.specs.Table.{from}
use Rattle.rules.specs.FromLaws.{map_from_length, map_from_at}
use Rattle.rules.specs.Rounds.{Stop}
use Rattle.learning.specs.Learner.{table_byte, table_bytes, stop_leaves}
use Rattle.learning.specs.Outcomes.{Outcome, over_limit, is_done, is_open, ten_leaves, done_leaves, open_leaves}
use Rattle.learning.proofs.Outcomes as outcomes
use Rattle.learning.specs.Grid.{Holds, Beyond}

-- ---- which of the three
module _ (k : ℕ) (M : Machine) (L : ℕ) (x : Stop) (table sheet : List ℕ) where
  pub leaves_ten : L < length x.S → stop_leaves k M L x table sheet ≡ ten_leaves table sheet
  leaves_ten h = go (outcomes.outcome k M L x table sheet)
    where
      go : Outcome k M L x table sheet (stop_leaves k M L x table sheet) → stop_leaves k M L x table sheet ≡ ten_leaves table sheet
      go (over_limit l e) = e
      go (is_done l n e) = absurd (omega arith)
      go (is_open w l n e) = absurd (omega arith)

  pub leaves_done : length x.S ≤ L → x.left ≡ none → stop_leaves k M L x table sheet ≡ done_leaves k M x table sheet
  leaves_done h q = go (outcomes.outcome k M L x table sheet)
    where
      go : Outcome k M L x table sheet (stop_leaves k M L x table sheet) → stop_leaves k M L x table sheet ≡ done_leaves k M x table sheet
      go (over_limit l e) = absurd (omega arith)
      go (is_done l n e) = e
      go (is_open w l n e) = let o = sym q ∙ n in let z : ◌≡◌ {A = ℕ} 0 1 = cc in absurd (omega arith)

  pub leaves_open : (w : Word) → length x.S ≤ L → x.left ≡ some w → stop_leaves k M L x table sheet ≡ open_leaves k M x w table sheet
  leaves_open w h q = go (outcomes.outcome k M L x table sheet)
    where
      go : Outcome k M L x table sheet (stop_leaves k M L x table sheet) → stop_leaves k M L x table sheet ≡ open_leaves k M x w table sheet
      go (over_limit l e) = absurd (omega arith)
      go (is_done l n e) = let o = sym q ∙ n in let z : ◌≡◌ {A = ℕ} 0 1 = cc in absurd (omega arith)
      go (is_open v l n e) = let o = sym n ∙ q in let same : v ≡ w = cc in e ∙ ap (λ (u : Word). open_leaves k M x u table sheet) same

-- ---- the table area
-- an area whose first `size` bytes are given, and whose rest stayed
area_is : (size : ℕ) (f : ℕ → ℕ) (old new : List ℕ) → size ≤ length old → ((i : ℕ) → i < size → get_or new i 0 ≡ f i) → Beyond size old new → new ≡ over (map f (from 0 size)) old
unfolding over
area_is size f old new room is B =
    let n = map_from_length f 0 size in
    let whole : length (map f (from 0 size) ++ drop (length (map f (from 0 size))) old) ≡ length old =
    length-append (map f (from 0 size)) (drop (length (map f (from 0 size))) old) ∙ omega (arith, length-drop (length (map f (from 0 size))) old) in
    ext_get_or 0 new (map f (from 0 size) ++ drop (length (map f (from 0 size))) old) (B.long ∙ sym whole) (λ i h. at i (dec_lt i size))
  where
    at : (i : ℕ) → Dec (i < size) → get_or new i 0 ≡ get_or (map f (from 0 size) ++ drop (length (map f (from 0 size))) old) i 0
    at i (yes l) =
        let z : 0 + i ≡ i = omega arith in
        is i l ∙ sym (get_or-append (map f (from 0 size)) (drop (length (map f (from 0 size))) old) 0 i (omega (arith, map_from_length f 0 size)) ∙ map_from_at f 0 size i 0 l ∙ ap f z)
    at i (no l) =
        let n = map_from_length f 0 size in
        let j = i - size in
        let e : i ≡ length (map f (from 0 size)) + j = omega arith in
        B.rest i (omega arith)
        ∙ sym (ap (λ (y : ℕ). get_or (map f (from 0 size) ++ drop (length (map f (from 0 size))) old) y 0) e ∙ get_or-append-add (map f (from 0 size)) (drop (length (map f (from 0 size))) old) j 0
        ∙ get_or-drop (length (map f (from 0 size))) old j 0 ∙ ap (λ (y : ℕ). get_or old y 0) (sym e))

module _ (k : ℕ) (M : Machine) (x : Stop) (old new : List ℕ) (H : Holds 59 34043 (ask M) k x.E x.S new) (narrow : length x.E ≤ 59) where
  cell_byte : (i : ℕ) → i < 34043 → get_or new i 0 ≡ table_byte k M x i
  unfolding table_byte
  cell_byte i h = subst (λ (j : ℕ). get_or new j 0 ≡ table_byte k M x i) e (go (outcome (ltb r (1 + length x.S * k))) (outcome (ltb c (length x.E))))
    where
      r : ℕ
      r = i / 59

      c : ℕ
      c = i % 59

      e : r * 59 + c ≡ i
      e = div-add-mod' i 59

      low : c < 59
      low = mod-lt i (omega arith)

      go : (ltb r (1 + length x.S * k) ≡ true) ⊎ (ltb r (1 + length x.S * k) ≡ false) → (ltb c (length x.E) ≡ true) ⊎ (ltb c (length x.E) ≡ false) → get_or new (r * 59 + c) 0 ≡ table_byte k M x i
      go (inl a) (inl b) = rw (a, b, table_byte) (H.cell r c (ltb_yes r (1 + length x.S * k) a) (ltb_yes c (length x.E) b))
      go (inl a) (inr b) = rw (a, b, table_byte) (H.blank r c low (inr (ltb_no c (length x.E) b)) (omega (arith, e)))
      go (inr a) b = rw (a, table_byte) (H.blank r c low (inl (ltb_no r (1 + length x.S * k) a)) (omega (arith, e)))

  pub table_is : 34043 ≤ length old → Beyond 34043 old new → new ≡ over (table_bytes k M x) old
  unfolding table_bytes
  table_is room B = area_is 34043 (table_byte k M x) old new room cell_byte B

-- ---- zeros
pub zeros_from : (i n : ℕ) → map (λ (j : ℕ). 0) (from i n) ≡ zeros n
unfolding from zeros
zeros_from i zero = refl
zeros_from i (suc n) = ap {B = List ℕ} (λ (l : List ℕ). 0 ∷ l) (zeros_from (suc i) n)

pub zeroed : (size i : ℕ) (area : List ℕ) → i < size → get_or (over (zeros size) area) i 0 ≡ 0
unfolding over
zeroed size i area h =
    let n : length (zeros size) ≡ size = ap length (sym (zeros_from 0 size)) ∙ map_from_length (λ (j : ℕ). 0) 0 size in
    get_or-append (zeros size) (drop (length (zeros size)) area) 0 i (omega arith) ∙ ap (λ (l : List ℕ). get_or l i 0) (sym (zeros_from 0 size)) ∙ map_from_at (λ (j : ℕ). 0) 0 size i 0 h

pub zeroed_beyond : (size : ℕ) (area : List ℕ) → size ≤ length area → Beyond size area (over (zeros size) area)
unfolding over
zeroed_beyond size area room = record { long = whole; rest = rest }
  where
    n : length (zeros size) ≡ size
    n = ap length (sym (zeros_from 0 size)) ∙ map_from_length (λ (j : ℕ). 0) 0 size

    whole : length (zeros size ++ drop (length (zeros size)) area) ≡ length area
    whole = length-append (zeros size) (drop (length (zeros size)) area) ∙ omega (arith, n, length-drop (length (zeros size)) area)

    rest : (i : ℕ) → size ≤ i → get_or (zeros size ++ drop (length (zeros size)) area) i 0 ≡ get_or area i 0
    rest i h =
        let j = i - size in
        let e : i ≡ length (zeros size) + j = omega (arith, n) in
        ap (λ (y : ℕ). get_or (zeros size ++ drop (length (zeros size)) area) y 0) e ∙ get_or-append-add (zeros size) (drop (length (zeros size)) area) j 0
        ∙ get_or-drop (length (zeros size)) area j 0 ∙ ap (λ (y : ℕ). get_or area y 0) (sym e)

-- zeros over an area whose rest stayed
pub zeros_over : (size : ℕ) (old new : List ℕ) → size ≤ length old → Beyond size old new → over (zeros size) new ≡ over (zeros size) old
zeros_over size old new room B =
    let z = zeroed_beyond size new (omega (arith, B.long)) in
    area_is size (λ (j : ℕ). 0) old (over (zeros size) new) room (λ i h. zeroed size i new h) (record { long = z.long ∙ B.long; rest = λ i h. z.rest i h ∙ B.rest i h })
    ∙ ap (λ (l : List ℕ). over l old) (zeros_from 0 size)
