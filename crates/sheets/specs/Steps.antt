-- Reading step by step: what a step comes to, how far it reads, and what it reads. The code takes the values after a step that came out good.
use Rattle.std.specs.Prelude.{◌≡◌, ◌≢◌, refl, Bool, true, false, List, [], ◌∷◌, ◌++◌, take, drop, ltb, leb}
use Rattle.std.proofs.Common.{sym, true≢false, ap, ap₂, ◌∙◌, subst, append_assoc, suc-mul, zero-mul, zero-add, length-append, take-append-drop, drop-cons, drop-drop, take_at, drop_at}
use Prim.Native.Nat.{ℕ, zero, suc, ◌+◌, ◌*◌, ◌-◌, ◌/◌, ◌%◌, ◌≤◌, ◌<◌}
use native.Mathlib.Omega.{arith}
use Rattle.std.proofs.Math.ListN.{length, get_or, length-drop}
use borrow.Author.Tests.{le-leb, lt-leb, lt-ltb, le-ltb}
use Rattle.rules.specs.Tests.{eqs, eqs_true, eqs_same, eqs_is, leb_yes, and_split}
use Rattle.rules.specs.Words.{Below, below_drop}
use Rattle.std.specs.List.{list_all}
use Rattle.machine.specs.Lent.{next_below}
use Rattle.rules.specs.Answer.{Answer, refused, gives}
use Rattle.rules.specs.Sheets.{MR, pair_bytes, row_bytes}
use Rattle.sheets.specs.Standing.{pair_words, row_words}
use Rattle.sheets.specs.Reading.{Parsed, bad, good, Reader, pure, and_then, ◌>>=◌, ◌>>◌, demand, present, mark, pairs, rows}

-- what a step comes to: its refusal, or that it came out good
abbrev pub outcome : {A : Type 0} → Parsed A → Answer (Unit {0})
outcome (bad number) = refused number
outcome (good a rest) = gives tt

-- one row: MR with k pairs
unfoldable pub row : ℕ → ℕ → Reader (List ℕ)
unfolding mark pairs
row n k = do
  mark MR
  present (2 * k)
  pairs n k

-- ---- steps one after the other
clash : ◌≡◌ {A = ℕ} 0 1 → ⊥
clash z = omega arith

pub bad_good : {A : Type 0} {x : ℕ} {a : A} {rest : List ℕ} → ◌≡◌ {A = Parsed A} (bad x) (good a rest) → ⊥
bad_good e = let z : ◌≡◌ {A = ℕ} 0 1 = cc in clash z

pub came_good : {A : Type 0} (p : Parsed A) → outcome p ≡ gives tt → (a : A) × (rest : List ℕ) × (p ≡ good a rest)
came_good (bad x) e = let z : ◌≡◌ {A = ℕ} 0 1 = cc in absurd (clash z)
came_good (good a rest) e = (a, rest, refl)

pub came_bad : {A : Type 0} (p : Parsed A) (x : ℕ) → outcome p ≡ refused x → p ≡ bad x
came_bad (bad y) x e = cc
came_bad (good a rest) x e = let z : ◌≡◌ {A = ℕ} 0 1 = cc in absurd (clash z)

-- a value that is made of another is not refused
pub outcome_made : {A B : Type 0} (p : Parsed A) (f : A → B) → outcome (and_then p (λ a. pure (f a))) ≡ outcome p
outcome_made (bad x) f = refl
outcome_made (good a rest) f = refl

-- a step that came out good had a good one before it
pub then_good : {A B : Type 0} (p : Parsed A) (f : A → Reader B) (b : B) (rest : List ℕ) → and_then p f ≡ good b rest
    → (a : A) × (between : List ℕ) × (p ≡ good a between) × (f a between ≡ good b rest)
then_good (bad x) f b rest e = absurd (bad_good e)
then_good (good a between) f b rest e = (a, between, refl, e)

pub demand_good : (t : Bool) (x : ℕ) (bytes : List ℕ) (u : Unit {0}) (rest : List ℕ) → demand t x bytes ≡ good u rest → (t ≡ true) × (bytes ≡ rest)
demand_good true x bytes u rest e = (refl, cc)
demand_good false x bytes u rest e = absurd (bad_good e)

-- a test that leads on was passed
pub demanded : {B : Type 0} (t : Bool) (x : ℕ) (bytes : List ℕ) (f : Unit {0} → Reader B) (b : B) (rest : List ℕ) → and_then (demand t x bytes) f ≡ good b rest → (t ≡ true) × (f tt bytes ≡ good b rest)
demanded true x bytes f b rest e = (refl, e)
demanded false x bytes f b rest e = absurd (bad_good e)

-- three steps and what is made of them: the first two and the third are one step
pub then_in : {A B C D : Type 0} (p : Parsed A) (q : Reader B) (r : Reader C) (g : C → Reader D)
    → and_then p (λ a. ◌>>◌ q (◌>>=◌ r g)) ≡ and_then (and_then p (λ a. ◌>>◌ q r)) g
then_in (bad x) q r g = refl
then_in {B = B} (good a rest) q r g = last (q rest)
  where
    last : (s : Parsed B) → and_then s (λ b. ◌>>=◌ r g) ≡ and_then (and_then s (λ b. r)) g
    last (bad x) = refl
    last (good b rest) = refl

-- ---- the bytes at a place
pub two : (bytes : List ℕ) (at : ℕ) → at + 2 ≤ length bytes → drop at bytes ≡ get_or bytes at 0 ∷ get_or bytes (at + 1) 0 ∷ drop (at + 2) bytes
two bytes at h =
    let p : suc at ≡ at + 1 = omega arith in
    let q : suc (at + 1) ≡ at + 2 = omega arith in
    drop-cons bytes at 0 (omega arith) ∙ ap {B = List ℕ} (λ (l : List ℕ). get_or bytes at 0 ∷ l) (ap (λ (i : ℕ). drop i bytes) p ∙ drop-cons bytes (at + 1) 0 (omega arith) ∙ ap {B = List ℕ} (λ (i : ℕ). get_or bytes (at + 1) 0 ∷ drop i bytes) q)

-- ---- mark
pub mark_short : (due bytes : List ℕ) → length bytes < 2 → mark due bytes ≡ bad 1
unfolding mark
mark_short due bytes h = rw (lt-leb 2 (length bytes) h)

pub mark_same : (due bytes : List ℕ) → 2 ≤ length bytes → take 2 bytes ≡ due → mark due bytes ≡ good tt (drop 2 bytes)
unfolding mark
mark_same due bytes h e = rw (le-leb 2 (length bytes) h, e, eqs_same due) refl

pub mark_other : (due bytes : List ℕ) → 2 ≤ length bytes → take 2 bytes ≢ due → mark due bytes ≡ bad 2
unfolding mark
mark_other due bytes h d = rw (le-leb 2 (length bytes) h, sym (eqs_is false (take 2 bytes) due (λ e. absurd (true≢false (sym e))) (λ e. absurd (d e)))) refl

-- a mark that came out good was two bytes
pub mark_were : (due bytes : List ℕ) (u : Unit {0}) (rest : List ℕ) → mark due bytes ≡ good u rest → (2 ≤ length bytes) × (rest ≡ drop 2 bytes) × (take 2 bytes ≡ due)
unfolding mark
mark_were due bytes u rest e =
    let a = demanded (leb 2 (length bytes)) 1 bytes _ u rest e in
    let b = demand_good (eqs (take 2 bytes) due) 2 (drop 2 bytes) u rest a.1 in
    (leb_yes 2 (length bytes) a.0, sym b.1, eqs_true (take 2 bytes) due b.0)

-- ---- What was read as words: it took `count` bytes, and the `size` words are those that stand there. Of bytes: each next state is
-- below n, and the words' bytes are those read, so that no words are written in two ways.
pub record Read (n count size : ℕ) (bytes rest words standing spelling : List ℕ) : Type 0 where
  pub within : count ≤ length bytes
  pub after : rest ≡ drop count bytes
  pub is : words ≡ standing
  pub long : length words ≡ size
  pub next : Below 256 bytes → next_below n words ≡ true
  pub spelt : Below 256 bytes → bytes ≡ spelling ++ rest

pub pairs_were : (n k : ℕ) (bytes words rest : List ℕ) → pairs n k bytes ≡ good words rest → Read n (2 * k) k bytes rest words (pair_words k bytes) (pair_bytes words)
unfolding pairs pair_words pair_bytes
pairs_were n zero bytes words rest e =
    let w : words ≡ [] = cc in
    let c : rest ≡ bytes = cc in
    rw (w, c) (record { within = omega arith; after = refl; is = refl; long = refl; next = λ b. refl; spelt = λ b. refl })
pairs_were n (suc k) [] words rest e = absurd (bad_good e)
pairs_were n (suc k) (o ∷ []) words rest e = absurd (bad_good e)
pairs_were n (suc k) (o ∷ x ∷ bytes) words rest e =
    let t = demanded (ltb x n) 4 bytes _ words rest e in
    let r = then_good (pairs n k bytes) _ words rest t.1 in
    made r.0 r.1 (pairs_were n k bytes r.0 r.1 r.2) t.0 r.3
  where
    -- the parts are variables here: a `let` would be seen through
    made : (others after : List ℕ) → Read n (2 * k) k bytes after others (pair_words k bytes) (pair_bytes others) → ltb x n ≡ true
        → ◌≡◌ {A = Parsed (List ℕ)} (good ((256 * x + o) ∷ others) after) (good words rest)
        → Read n (2 * suc k) (suc k) (o ∷ x ∷ bytes) rest words (pair_words (suc k) (o ∷ x ∷ bytes)) (pair_bytes words)
    made others after i t g =
        let w : words ≡ (256 * x + o) ∷ others = cc in
        let c : rest ≡ after = cc in
        let m : 2 * suc k ≡ suc (suc (2 * k)) = omega arith in
        rw (w, c, m) (record {
          within = omega (arith, i.within);
          after = i.after;
          is = ap {B = List ℕ} (λ (l : List ℕ). (256 * x + o) ∷ l) i.is;
          long = ap suc i.long;
          next = λ b. let v : (256 * x + o) / 256 ≡ x = omega (arith, b.0) in rw (v, t) (i.next b.1.1);
          spelt = λ b.
              let u : (256 * x + o) % 256 ≡ o = omega (arith, b.0) in
              let v : (256 * x + o) / 256 ≡ x = omega (arith, b.0) in
              rw (u, v) (ap {B = List ℕ} (λ (l : List ℕ). o ∷ x ∷ l) (i.spelt b.1.1));
        })

all_append : (p : ℕ → Bool) (xs ys : List ℕ) → list_all p xs ≡ true → list_all p ys ≡ true → list_all p (xs ++ ys) ≡ true
all_append p [] ys a b = b
all_append p (x ∷ xs) ys a b = let s = and_split (p x) (list_all p xs) a in rw s.0 (all_append p xs ys s.1 b)

-- words that were read one after the other
pub read_then : {n c d i j : ℕ} {bytes between rest words others there after spelling end : List ℕ} → Read n c i bytes between words there spelling → Read n d j between rest others after end
    → Read n (c + d) (i + j) bytes rest (words ++ others) (there ++ after) (spelling ++ end)
read_then {n} {c} {d} {i} {j} {bytes} {between} {rest} {words} {others} {there} {after} {spelling} {end} a b =
    let low : Below 256 bytes → Below 256 between = λ h. subst (λ (l : List ℕ). Below 256 l) (sym a.after) (below_drop 256 c bytes h) in
    record {
      within = omega (arith, b.within, a.within, ap length a.after ∙ length-drop c bytes);
      after = b.after ∙ ap (λ (l : List ℕ). drop d l) a.after ∙ drop-drop d c bytes;
      is = ap₂ ◌++◌ a.is b.is;
      long = length-append words others ∙ ap₂ ◌+◌ a.long b.long;
      next = λ h. all_append _ words others (a.next h) (b.next (low h));
      spelt = λ h. a.spelt h ∙ ap (λ (l : List ℕ). spelling ++ l) (b.spelt (low h)) ∙ sym (append_assoc spelling end rest);
    }

pub row_were : (n k : ℕ) (bytes words rest : List ℕ) → row n k bytes ≡ good words rest → Read n (2 + 2 * k) k bytes rest words (pair_words k (drop 2 bytes)) (MR ++ pair_bytes words)
unfolding row
row_were n k bytes words rest e =
    let a = then_good (mark MR bytes) _ words rest e in
    let m = mark_were MR bytes a.0 a.1 a.2 in
    let p = demanded (leb (2 * k) (length a.1)) 1 a.1 _ words rest a.3 in
    let i = pairs_were n k (drop 2 bytes) words rest (subst (λ (l : List ℕ). pairs n k l ≡ good words rest) m.1 p.1) in
    let mark_read : Read n 2 0 bytes (drop 2 bytes) [] [] MR = record {
      within = m.0;
      after = refl;
      is = refl;
      long = refl;
      next = λ h. refl;
      spelt = λ h. sym (take-append-drop 2 bytes) ∙ ap (λ (l : List ℕ). l ++ drop 2 bytes) m.2;
    } in
    rw zero-add at (read_then mark_read i)

-- the first of the rows, and the others
pub rows_first : (n k r : ℕ) (bytes : List ℕ) → rows n k (suc r) bytes ≡ and_then (row n k bytes) (λ words. ◌>>=◌ (rows n k r) (λ others. pure (words ++ others)))
unfolding rows row
rows_first n k r bytes = then_in (mark MR bytes) (present (2 * k)) (pairs n k) (λ words. ◌>>=◌ (rows n k r) (λ others. pure (words ++ others)))

pub rows_were : (n k r : ℕ) (bytes words rest : List ℕ) → rows n k r bytes ≡ good words rest → Read n (r * (2 + 2 * k)) (r * k) bytes rest words (row_words k r bytes) (row_bytes k r words)
unfolding rows row_words row_bytes
rows_were n k zero bytes words rest e =
    let w : words ≡ [] = cc in
    let c : rest ≡ bytes = cc in
    rw (w, c, zero-mul (2 + 2 * k), zero-mul k) (record { within = omega arith; after = refl; is = refl; long = refl; next = λ b. refl; spelt = λ b. refl })
rows_were n k (suc r) bytes words rest e =
    let a = then_good (row n k bytes) _ words rest (sym (rows_first n k r bytes) ∙ e) in
    let b = then_good (rows n k r a.1) _ words rest a.3 in
    made a.0 a.1 b.0 b.1 (row_were n k bytes a.0 a.1 a.2) (rows_were n k r a.1 b.0 b.1 b.2) b.3
  where
    made : (first between others after : List ℕ) → Read n (2 + 2 * k) k bytes between first (pair_words k (drop 2 bytes)) (MR ++ pair_bytes first)
        → Read n (r * (2 + 2 * k)) (r * k) between after others (row_words k r between) (row_bytes k r others)
        → ◌≡◌ {A = Parsed (List ℕ)} (good (first ++ others) after) (good words rest)
        → Read n (suc r * (2 + 2 * k)) (suc r * k) bytes rest words (row_words k (suc r) bytes) (row_bytes k (suc r) words)
    made first between others after a b g =
        let w : words ≡ first ++ others = cc in
        let c : rest ≡ after = cc in
        let p : suc r * (2 + 2 * k) ≡ 2 + 2 * k + r * (2 + 2 * k) = omega (arith, suc-mul r (2 + 2 * k)) in
        let q : suc r * k ≡ k + r * k = omega (arith, suc-mul r k) in
        rw (w, c, p, q, take_at first others k a.long, drop_at first others k a.long, sym a.after) (read_then a b)

-- ---- at a place of the sheet, as the code goes through it
-- a step that came out good took its bytes, and the next one begins after them
pub record Took {A : Type 0} (p : Parsed A) (bytes : List ℕ) (at count : ℕ) : Type 0 where
  pub value : A
  pub is : p ≡ good value (drop (at + count) bytes)
  pub within : at + count ≤ length bytes

-- so does every step of which it is known how many bytes it takes
pub took_at : {A : Type 0} (step : Reader A) (count : ℕ) → ((bytes : List ℕ) (a : A) (rest : List ℕ) → step bytes ≡ good a rest → (count ≤ length bytes) × (rest ≡ drop count bytes))
    → (bytes : List ℕ) (at : ℕ) → at ≤ length bytes → outcome (step (drop at bytes)) ≡ gives tt → Took (step (drop at bytes)) bytes at count
took_at step count known bytes at low e =
    let g = came_good (step (drop at bytes)) e in
    let k = known (drop at bytes) g.0 g.1 g.2 in
    record {
      value = g.0;
      is = g.2 ∙ ap (good g.0) (k.1 ∙ drop-drop count at bytes);
      within = omega (arith, k.0, length-drop at bytes);
    }

module _ (bytes : List ℕ) (at : ℕ) (low : at ≤ length bytes) where
  pub mark_took : (due : List ℕ) → outcome (mark due (drop at bytes)) ≡ gives tt → Took (mark due (drop at bytes)) bytes at 2
  mark_took due = took_at (mark due) 2 (λ b a rest e. let m = mark_were due b a rest e in (m.0, m.1)) bytes at low

  pub pairs_took : (n k : ℕ) → outcome (pairs n k (drop at bytes)) ≡ gives tt → Took (pairs n k (drop at bytes)) bytes at (2 * k)
  pairs_took n k = took_at (pairs n k) (2 * k) (λ b a rest e. let m = pairs_were n k b a rest e in (m.within, m.after)) bytes at low

-- one of the pairs that are left: refused, or passed
module _ (bytes : List ℕ) (at : ℕ) (within : at + 2 ≤ length bytes) where
  pub pairs_refused : (n left : ℕ) → 0 < left → n ≤ get_or bytes (at + 1) 0 → outcome (pairs n left (drop at bytes)) ≡ refused 4
  unfolding pairs
  pairs_refused n zero s h = absurd (omega arith)
  pairs_refused n (suc left) s h = rw (two bytes at within, le-ltb (get_or bytes (at + 1) 0) n h)

  pub pairs_passed : (n left : ℕ) → 0 < left → get_or bytes (at + 1) 0 < n → outcome (pairs n left (drop at bytes)) ≡ outcome (pairs n (left - 1) (drop (at + 2) bytes))
  unfolding pairs
  pairs_passed n zero s h = absurd (omega arith)
  pairs_passed n (suc left) s h =
      let m : suc left - 1 ≡ left = omega arith in
      rw (m, two bytes at within, lt-ltb (get_or bytes (at + 1) 0) n h)
      (outcome_made (pairs n left (drop (at + 2) bytes)) (λ words. (256 * get_or bytes (at + 1) 0 + get_or bytes at 0) ∷ words))

pub pairs_end : (n : ℕ) (bytes : List ℕ) → outcome (pairs n 0 bytes) ≡ gives tt
unfolding pairs
pairs_end n bytes = refl
