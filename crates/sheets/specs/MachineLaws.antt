-- What is written is read back, and what is read was written so: machine sheets are written one way only.
use Rattle.std.specs.Prelude.{◌≡◌, refl, true, List, [], ◌∷◌, ◌++◌, ℕ, zero, suc, ◌*◌, ◌/◌, ◌≤◌, length, take, drop, ltb, leb}
use Rattle.std.proofs.Common.{sym, ap, ◌∙◌, subst, append_assoc, append-nil, zero-mul, suc-mul, suc-ne-zero, arith, length-append, length-drop, take-append-drop, length-take-le, take_at, le-leb}
use Rattle.std.proofs.Math.Nat.{div-add-mod}
use Rattle.rules.specs.Tests.{eqs_same, and_split, leb_yes}
use Rattle.rules.specs.Words.{Below, below_drop}
use Rattle.rules.specs.Answer.{gives, within}
use Rattle.rules.specs.Areas.{over}
use Rattle.rules.specs.Sheets.{MH, pair_bytes, row_bytes, machine_bytes}
use Rattle.rules.specs.SheetLaws.{pairs_of}
use Rattle.machine.specs.Lent.{next_below, lent_check}
use Rattle.machine.specs.LentLaws as lents
use Rattle.sheets.specs.Reading.{good, mark, pairs, rows}
use Rattle.sheets.specs.Machines.{Sheet, Size, Left, machine_sheet, read_machine, write_machine}
use Rattle.sheets.specs.MachineSteps.{sheet_were, read_leaves_is, write_leaves_is}

-- ---- what lent words have that are not refused, and that this is all
pub record Passes (n k : ℕ) (words : List ℕ) : Type 0 where
  pub n_within : within 1 48 n ≡ true
  pub k_within : within 1 12 k ≡ true
  pub long : length words ≡ n * k
  pub next : next_below n words ≡ true

pub lent_passes : (n k : ℕ) (words : List ℕ) → lent_check n k words ≡ gives tt → Passes n k words
unfolding lent_check
lent_passes n k words e =
    let a = lents.demanded (within 1 48 n) 3 _ tt e in
    let b = lents.demanded (within 1 12 k) 3 _ tt a.1 in
    let c = lents.demanded (leb (n * k) (length words)) 1 _ tt b.1 in
    let d = lents.demanded (leb (length words) (n * k)) 5 _ tt c.1 in
    record {
      n_within = a.0;
      k_within = b.0;
      long = omega (arith, leb_yes (n * k) (length words) c.0, leb_yes (length words) (n * k) d.0);
      next = lents.last_demanded (next_below n words) 4 d.1;
    }

pub passes_lent : (n k : ℕ) (words : List ℕ) → Passes n k words → lent_check n k words ≡ gives tt
unfolding lent_check
passes_lent n k words l = rw (l.n_within, l.k_within, le-leb (n * k) (length words) (omega (arith, l.long)), le-leb (length words) (n * k) (omega (arith, l.long)), l.next)

-- ---- what is written is read back
pub mark_read : (x y : ℕ) (bytes : List ℕ) → mark (x ∷ y ∷ []) (x ∷ y ∷ bytes) ≡ good tt bytes
unfolding mark
mark_read x y bytes = rw (le-leb 2 (suc (suc (length bytes))) (omega arith), eqs_same (x ∷ y ∷ []))

pub pairs_read : (n : ℕ) (words bytes : List ℕ) → next_below n words ≡ true → pairs n (length words) (pair_bytes words ++ bytes) ≡ good words bytes
unfolding pairs pair_bytes
pairs_read n [] bytes h = refl
pairs_read n (x ∷ words) bytes h =
    let s = and_split (ltb (x / 256) n) (next_below n words) h in
    rw (s.0, pairs_read n words bytes s.1, div-add-mod x 256)

-- of the first k and of the others
next_parts : (n k : ℕ) (words : List ℕ) → next_below n words ≡ true → (next_below n (take k words) ≡ true) × (next_below n (drop k words) ≡ true)
next_parts n zero words h = (refl, h)
next_parts n (suc k) [] h = (refl, refl)
next_parts n (suc k) (x ∷ words) h =
    let s = and_split (ltb (x / 256) n) (next_below n words) h in
    let i = next_parts n k words s.1 in
    (rw s.0 i.0, i.1)

pub rows_read : (n k r : ℕ) (words bytes : List ℕ) → length words ≡ r * k → next_below n words ≡ true → rows n k r (row_bytes k r words ++ bytes) ≡ good words bytes
unfolding rows row_bytes
rows_read n k zero words bytes l h = ap (λ (x : List ℕ). good x bytes) (sym (nil_of words (l ∙ zero-mul k)))
  where
    nil_of : (words : List ℕ) → length words ≡ 0 → words ≡ []
    nil_of [] e = refl
    nil_of (x ∷ words) e = absurd (suc-ne-zero (length words) e)
rows_read n k (suc r) words bytes l h =
    let p = next_parts n k words h in
    let lk : length (take k words) ≡ k = length-take-le k words (omega (arith, suc-mul r k)) in
    let ld : length (drop k words) ≡ r * k = length-drop k words ∙ omega (arith, suc-mul r k) in
    let rest : List ℕ = row_bytes k r (drop k words) ++ bytes in
    let one : pairs n k (pair_bytes (take k words) ++ rest) ≡ good (take k words) rest =
    subst (λ (j : ℕ). pairs n j (pair_bytes (take k words) ++ rest) ≡ good (take k words) rest) lk (pairs_read n (take k words) rest p.0) in
    let two : rows n k r rest ≡ good (drop k words) bytes = rows_read n k r (drop k words) bytes ld p.1 in
    let q = pairs_of k words (omega (arith, suc-mul r k)) in
    let there : leb (2 * k) (length (pair_bytes (take k words) ++ rest)) ≡ true = le-leb (2 * k) (length (pair_bytes (take k words) ++ rest)) (simp length-append (omega arith)) in
    rw (mark_read 0x4D 0x52 (pair_bytes (take k words) ++ row_bytes k r (drop k words) ++ bytes), append_assoc (pair_bytes (take k words)) (row_bytes k r (drop k words)) bytes, there, one, two, take-append-drop k words)

-- WHAT IS WRITTEN IS READ BACK
pub written_reads : (n k : ℕ) (words : List ℕ) → lent_check n k words ≡ gives tt → machine_sheet (machine_bytes n k words) ≡ good (record { n = n; k = k; words = words }) []
unfolding machine_sheet machine_bytes
written_reads n k words e =
    let l = lent_passes n k words e in
    let r : rows n k n (row_bytes k n words) ≡ good words [] = subst (λ (b : List ℕ). rows n k n b ≡ good words []) (append-nil (row_bytes k n words)) (rows_read n k n words [] l.long l.next) in
    rw (mark_read 0x4D 0x48 (n ∷ k ∷ row_bytes k n words), le-leb 2 (suc (suc (length (row_bytes k n words)))) (omega arith), l.n_within, l.k_within, r)

-- WHAT IS READ WAS WRITTEN SO
pub read_was : (bytes rest : List ℕ) (s : Sheet) → Below 256 bytes → machine_sheet bytes ≡ good s rest
    → (rest ≡ []) × (bytes ≡ machine_bytes s.n s.k s.words) × (lent_check s.n s.k s.words ≡ gives tt)
unfolding machine_bytes
read_was bytes rest s b e =
    let r = sheet_were bytes rest s e in
    let low = below_drop 256 4 bytes b in
    let rows_were : drop 4 bytes ≡ row_bytes s.k s.n s.words = r.rows.spelt low ∙ append-nil (row_bytes s.k s.n s.words) in (
      r.ends,
      r.head ∙ ap {B = List ℕ} (λ (l : List ℕ). MH ++ (s.n ∷ s.k ∷ l)) rows_were,
      passes_lent s.n s.k s.words (record { n_within = r.n_within; k_within = r.k_within; long = r.rows.long; next = r.rows.next low }),
    )

-- so no two sheets say the same
pub one_way : (bytes other rest rest' : List ℕ) (s : Sheet) → Below 256 bytes → Below 256 other → machine_sheet bytes ≡ good s rest → machine_sheet other ≡ good s rest' → bytes ≡ other
one_way bytes other rest rest' s b o e f = (read_was bytes rest s b e).1 ∙ sym (read_was other rest' s o f).1

-- ---- the same of the operations
-- what stands at the start of an area
over_start : (new area : List ℕ) (n : ℕ) → length new ≡ n → take n (over new area) ≡ new
unfolding over
over_start new area n l = take_at new (drop (length new) area) n l

-- The writer gives a length, and the reader of that many bytes of the area gives n, k and the words back.
pub write_then_read : (n k : ℕ) (words area wordArea : List ℕ) → lent_check n k words ≡ gives tt → 1252 ≤ length area → 576 ≤ length wordArea
    → let left = write_machine n k words area in
    (size : ℕ) × (left.answer ≡ gives size) × (read_machine (take size left.area) wordArea ≡ record { answer = gives (record { n = n; k = k }); area = over words wordArea })
write_then_read n k words area wordArea e h g =
    let bytes : List ℕ = machine_bytes n k words in
    let w = write_leaves_is n k words area e h in
    let b : take (length bytes) (write_machine n k words area).area ≡ bytes = ap (λ (l : Left ℕ). take (length bytes) l.area) w ∙ over_start bytes area (length bytes) refl in
    (length bytes, ap (λ (l : Left ℕ). l.answer) w, ap (λ (l : List ℕ). read_machine l wordArea) b ∙ read_leaves_is bytes wordArea (record { n = n; k = k; words = words }) [] (written_reads n k words e) g)

-- The reader gives n and k, and the writer of the words that it set gives the sheet's bytes back.
pub read_then_write : (bytes area wordArea rest : List ℕ) (s : Sheet) → Below 256 bytes → machine_sheet bytes ≡ good s rest → 576 ≤ length wordArea → 1252 ≤ length area
    → let left = read_machine bytes wordArea in
    (left.answer ≡ gives (record { n = s.n; k = s.k }))
    × (write_machine s.n s.k (take (s.n * s.k) left.area) area ≡ record { answer = gives (length bytes); area = over bytes area })
read_then_write bytes area wordArea rest s b e g h =
    let r = read_leaves_is bytes wordArea s rest e g in
    let was = read_was bytes rest s b e in
    let l = (lent_passes s.n s.k s.words was.2).long in
    let w : take (s.n * s.k) (read_machine bytes wordArea).area ≡ s.words = ap (λ (x : Left Size). take (s.n * s.k) x.area) r ∙ over_start s.words wordArea (s.n * s.k) l in (
      ap (λ (x : Left Size). x.answer) r,
      ap (λ (x : List ℕ). write_machine s.n s.k x area) w ∙ write_leaves_is s.n s.k s.words area was.2 h
          ∙ ap (λ (x : List ℕ). record { answer = gives (length x); area = over x area }) (sym was.1),
    )
