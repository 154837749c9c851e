-- Laws of the text: how long its parts are, and how it is put into an area piece by piece.
use Rattle.std.specs.Prelude.{◌≡◌, refl, List, [], ◌∷◌, ◌++◌, ℕ, suc, ◌+◌, ◌*◌, ◌/◌, ◌%◌, ◌≤◌, ◌<◌, length, get_or, set}
use Rattle.std.proofs.Common.{ap, ap₂, ◌∙◌, subst, mul-le-mul_right, one-mul, mul-add, mul_comm, mul_assoc, mul-le-mul, arith, length-append}
use Rattle.std.proofs.Math.Nat.{mod-add-div}
use Rattle.rules.specs.Areas.{put, put_store}
use Rattle.text.specs.Putting.{Put, put_same, put_then}
use Rattle.rules.specs.Answer.{Answer, refused, gives}
use Rattle.text.specs.Decimal.{decimal}
use Rattle.text.proofs.Decimal.{decimal_short}
use Rattle.learning.specs.Learner.{Counts, Learnt, done, unfinished}
use Rattle.report.specs.Report.{number, line, refused_mark, model_mark, refusal, pair_line, pair_lines, model}

-- ---- lengths, for numbers of at most five digits
pub number_length : (x end : ℕ) → length (number x end) ≡ length (decimal x) + 1
unfolding number
number_length x end = length-append (decimal x) (end ∷ [])

pub number_short : (x end : ℕ) → x < 100000 → length (number x end) ≤ 6
number_short x end h = omega (arith, number_length x end, decimal_short x h)

-- what is said of four numbers, each below 100,000
abbrev pub Low : ℕ → ℕ → ℕ → ℕ → Type 0
Low a b c d = (a < 100000) × (b < 100000) × (c < 100000) × (d < 100000)

line_length : (a b c d : ℕ) → length (line a b c d) ≡ length (number a 32) + (length (number b 32) + (length (number c 32) + length (number d 10)))
unfolding line
line_length a b c d =
    length-append (number a 32) (number b 32 ++ (number c 32 ++ number d 10))
    ∙ ap (λ (n : ℕ). length (number a 32) + n) (length-append (number b 32) (number c 32 ++ number d 10)
    ∙ ap (λ (n : ℕ). length (number b 32) + n) (length-append (number c 32) (number d 10)))

pub line_short : (a b c d : ℕ) → Low a b c d → length (line a b c d) ≤ 24
line_short a b c d l = omega (arith, line_length a b c d, number_short a 32 l.0, number_short b 32 l.1, number_short c 32 l.2, number_short d 10 l.3)

-- ---- a number, and then a line of four
pub put_number : (x end : ℕ) {at place : ℕ} {area new : List ℕ} → at + length (number x end) ≤ length area → Put at (decimal x) area place new
    → Put at (number x end) area (place + 1) (set new place end)
unfolding number
put_number x end {at = at} {area = area} h p =
    let size = length-append (decimal x) (end ∷ []) in
    record {
      ends = omega (arith, p.ends);
      is = ap₂ (λ (l : List ℕ) (i : ℕ). set l i end) p.is p.ends ∙ put_store at (decimal x) end area (omega arith);
    }

pub put_line : {at i j l end a b c d : ℕ} {area one two three four : List ℕ} → Low a b c d → at + 24 ≤ length area → Put at (number a 32) area i one → Put i (number b 32) one j two
    → Put j (number c 32) two l three → Put l (number d 10) three end four → Put at (line a b c d) area end four
unfolding line
put_line {a = a} {b = b} {c = c} {d = d} {area = area} {one = one} {two = two} low h p q r s =
    let ha = number_short a 32 low.0 in
    let hb = number_short b 32 low.1 in
    let hc = number_short c 32 low.2 in
    let hd = number_short d 10 low.3 in
    let size = put_same (omega arith) p in
    let size₂ = put_same (omega (arith, p.ends)) q in
    let last = length-append (number c 32) (number d 10) in
    let rest = length-append (number b 32) (number c 32 ++ number d 10) in
    put_then (omega arith) p (put_then (omega (arith, p.ends)) q (put_then (omega (arith, p.ends, q.ends)) r s))

-- ---- the pairs
-- state, letter and place of a pair
pub pair_low : (k i : ℕ) → 1 ≤ k → (i / k ≤ i) × (i % k ≤ i) × (i / k * (2 + 2 * k) + (2 + 2 * (i % k)) ≤ 2 + 4 * i)
pair_low k i h =
    let q = i / k in
    let whole : i % k + k * q ≡ i = mod-add-div i k in
    let least : q ≤ k * q = omega (arith, mul-le-mul_right q h, one-mul q) in
    let wide : q * (2 + 2 * k) ≡ 2 * q + 2 * (k * q) = omega (arith, mul-add q 2 (2 * k), mul_comm q (2 * k), mul_assoc 2 k q) in
    (omega arith, omega arith, omega arith)

-- the line of a pair, whose output and next are read off the sheet
pub put_pair : (k i x y : ℕ) (sheet : List ℕ) {at end : ℕ} {area new : List ℕ} → (x ≡ get_or sheet (6 + (i / k * (2 + 2 * k) + (2 + 2 * (i % k)))) 0)
    → (y ≡ get_or sheet (6 + (i / k * (2 + 2 * k) + (2 + 2 * (i % k))) + 1) 0) → Put at (line (i / k) (i % k) x y) area end new → Put at (pair_line k sheet i) area end new
unfolding pair_line
put_pair k i x y sheet {at = at} {end = end} {area = area} {new = new} ex ey p =
    subst (λ (bytes : List ℕ). Put at bytes area end new) (ap₂ (λ (x y : ℕ). line (i / k) (i % k) x y) ex ey) p

-- one line more
pub put_pairs : (k i : ℕ) (sheet : List ℕ) {at mid end : ℕ} {area new last : List ℕ} → at + (length (pair_lines k sheet i) + length (pair_line k sheet i)) ≤ length area
    → Put at (pair_lines k sheet i) area mid new → Put mid (pair_line k sheet i) new end last → Put at (pair_lines k sheet (i + 1)) area end last
unfolding pair_lines
put_pairs k i sheet {at = at} {end = end} {area = area} {last = last} h p q =
    let more : suc i ≡ i + 1 = omega arith in
    subst (λ (n : ℕ). Put at (pair_lines k sheet n) area end last) more (put_then h p q)

-- ---- a refusal, and a model
pub put_refusal : (x y : ℕ) {end : ℕ} {area one last : List ℕ} → (y ≡ x) × (y < 256) → 24 ≤ length area → one ≡ put 0 refused_mark area → Put 8 (number y 10) one end last
    → Put 0 (refusal x) area end last
unfolding refusal
put_refusal x y {end = end} {area = area} {last = last} e h is p =
    let short = number_short y 10 (omega (arith, e.1)) in
    subst (λ (x : ℕ). Put 0 (refused_mark ++ number x 10) area end last) e.0 (put_then (omega arith) (record { ends = refl; is = is }) p)

pub put_model : (k : ℕ) (c : Counts) (sheet : List ℕ) {mid end : ℕ} {area one two last : List ℕ} → Low c.states k c.rounds c.cells
    → 30 + length (pair_lines k sheet (c.states * k)) ≤ length area → one ≡ put 0 model_mark area → Put 6 (line c.states k c.rounds c.cells) one mid two
    → Put mid (pair_lines k sheet (c.states * k)) two end last → Put 0 (model k c sheet) area end last
unfolding model
put_model k c sheet {area = area} low h is p q =
    let short = line_short c.states k c.rounds c.cells low in
    let start : Put 0 model_mark area 6 _ = record { ends = refl; is = is } in
    let same = put_same (omega arith) start in
    put_then (omega (arith, length-append (line c.states k c.rounds c.cells) (pair_lines k sheet (c.states * k)))) start (put_then (omega arith) p q)

pub pairs_most : (states k : ℕ) → states ≤ 48 → k ≤ 12 → states * k ≤ 576
pairs_most states k h g = mul-le-mul h g

-- the counts of a finished model are small
abbrev pub Small : Counts → Type 0
Small c = (c.states ≤ 48) × (c.rounds ≤ 47) × (c.cells ≤ 34043) × (c.bytes ≤ 9368)

abbrev pub SmallIfDone : Answer Learnt → Type 0
SmallIfDone (refused x) = Unit {0}
SmallIfDone (gives (done c)) = Small c
SmallIfDone (gives (unfinished c)) = Unit {0}
