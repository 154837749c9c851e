-- A machine sheet step by step, as the code goes through it.
use Rattle.std.specs.Prelude.{◌≡◌, refl, Bool, false, ◌&&◌, List, [], ◌∷◌, ◌++◌, ℕ, suc, ◌+◌, ◌*◌, ◌≤◌, ◌<◌, get_or, drop}
use Rattle.std.proofs.Common.{sym, true≢false, ap, ap₂, ◌∙◌, subst, arith, take-append-drop}
use Rattle.std.proofs.Math.Bool.{true}
use Rattle.std.proofs.Math.ListN.{length, length-drop}
use Rattle.std.proofs.Math.Dec.{leb}
use borrow.Author.Tests.{le-leb, lt-leb}
use Rattle.rules.specs.Tests.{leb_yes}
use Rattle.rules.specs.Answer.{Answer, refused, gives, within}
use Rattle.rules.specs.Areas.{over, put, put_start}
use Rattle.rules.specs.Sheets.{MH, row_bytes, machine_bytes}
use Rattle.rules.specs.SheetLaws.{machine_length, words_most}
use Rattle.machine.specs.Lent.{lent_check}
use Rattle.machine.specs.LentLaws.{lent_sound, within_both}
use Rattle.sheets.specs.Reading.{Parsed, bad, good, Reader, pure, and_then, ◌>>=◌, ◌>>◌, demand, at_end, mark, rows}
use Rattle.sheets.specs.Standing.{row_words}
use Rattle.sheets.specs.Steps.{outcome, bad_good, came_good, came_bad, then_good, demanded, two, mark_were, mark_took, Read, rows_were}
use Rattle.sheets.specs.Machines.{Sheet, Size, machine_sheet, read_leaves, read_machine, write_leaves, write_machine}

-- what stands after MH, n and k
unfoldable pub sheet_body : ℕ → ℕ → Reader Sheet
unfolding rows
sheet_body n k = do
  demand (within 1 48 n) 3
  demand (within 1 12 k) 3
  words ← rows n k n
  at_end
  pure (record { n = n; k = k; words = words })

-- ---- the head: mark refused; n and k not present; the body
module _ (bytes : List ℕ) where
  pub head_refused : (x : ℕ) → outcome (mark MH bytes) ≡ refused x → outcome (machine_sheet bytes) ≡ refused x
  unfolding machine_sheet
  head_refused x e = rw (came_bad (mark MH bytes) x e)

  pub head_short : outcome (mark MH bytes) ≡ gives tt → length bytes < 4 → outcome (machine_sheet bytes) ≡ refused 1
  unfolding machine_sheet
  head_short e h =
      let t = mark_took bytes 0 (omega arith) MH e in
      let l : length (drop (0 + 2) bytes) < 2 = simp length-drop (omega (arith, t.within)) in
      rw (t.is, lt-leb 2 (length (drop (0 + 2) bytes)) l)

  pub head_present : outcome (mark MH bytes) ≡ gives tt → 4 ≤ length bytes → machine_sheet bytes ≡ sheet_body (get_or bytes 2 0) (get_or bytes 3 0) (drop 4 bytes)
  unfolding machine_sheet sheet_body
  head_present e h =
      let t = mark_took bytes 0 (omega arith) MH e in
      let l : leb 2 (suc (suc (length (drop 4 bytes)))) ≡ true = le-leb 2 (suc (suc (length (drop 4 bytes)))) (omega arith) in
      rw (t.is, two bytes 2 h, l)

-- ---- the body: n or k outside its range
unsized : (a b : Bool) (bytes : List ℕ) (f : Reader Sheet) → (a && b) ≡ false → outcome (and_then (demand a 3 bytes) (λ u. ◌>>◌ (demand b 3) f)) ≡ refused 3
unsized false b bytes f e = refl
unsized true false bytes f e = refl
unsized true true bytes f e = absurd (true≢false e)

pub body_unsized : (n k : ℕ) (bytes : List ℕ) → (within 1 48 n && within 1 12 k) ≡ false → outcome (sheet_body n k bytes) ≡ refused 3
unfolding sheet_body
body_unsized n k bytes e = unsized (within 1 48 n) (within 1 12 k) bytes _ e

-- ---- what was read as a sheet: its head, its rows, and nothing else
pub record ReadSheet (bytes rest : List ℕ) (s : Sheet) : Type 0 where
  pub n_is : get_or bytes 2 0 ≡ s.n
  pub k_is : get_or bytes 3 0 ≡ s.k
  pub n_within : within 1 48 s.n ≡ true
  pub k_within : within 1 12 s.k ≡ true
  pub head : bytes ≡ MH ++ (s.n ∷ s.k ∷ drop 4 bytes)
  pub long : length bytes ≡ 4 + s.n * (2 + 2 * s.k)
  pub rows : Read s.n (s.n * (2 + 2 * s.k)) (s.n * s.k) (drop 4 bytes) [] s.words (row_words s.k s.n (drop 4 bytes)) (row_bytes s.k s.n s.words)
  pub ends : rest ≡ []

end_were : (bytes : List ℕ) (u : Unit {0}) (rest : List ℕ) → at_end bytes ≡ good u rest → (bytes ≡ []) × (rest ≡ [])
end_were [] u rest e = (refl, cc)
end_were (b ∷ bytes) u rest e = absurd (bad_good e)

-- rows that took all bytes took as many as there are
all_taken : (bytes : List ℕ) (count : ℕ) → 4 ≤ length bytes → count ≤ length (drop 4 bytes) → [] ≡ drop count (drop 4 bytes) → length bytes ≡ 4 + count
all_taken bytes count h g e = omega (arith, length-drop 4 bytes, ap length e ∙ length-drop count (drop 4 bytes))

body_were : (bytes rest : List ℕ) (n k : ℕ) (s : Sheet) → get_or bytes 2 0 ≡ n → get_or bytes 3 0 ≡ k → 4 ≤ length bytes → bytes ≡ MH ++ (n ∷ k ∷ drop 4 bytes)
    → sheet_body n k (drop 4 bytes) ≡ good s rest → ReadSheet bytes rest s
unfolding sheet_body
body_were bytes rest n k s en ek four h e =
    let a = demanded (within 1 48 n) 3 (drop 4 bytes) _ s rest e in
    let b = demanded (within 1 12 k) 3 (drop 4 bytes) _ s rest a.1 in
    let c = then_good (rows n k n (drop 4 bytes)) _ s rest b.1 in
    let d = then_good (at_end c.1) _ s rest c.3 in
    let f = end_were c.1 d.0 d.1 d.2 in
    let r = rows_were n k n (drop 4 bytes) c.0 [] (subst (λ (l : List ℕ). rows n k n (drop 4 bytes) ≡ good c.0 l) f.0 c.2) in
    made a.0 b.0 c.0 d.1 r f.1 d.3
  where
    made : within 1 48 n ≡ true → within 1 12 k ≡ true → (words after : List ℕ) → Read n (n * (2 + 2 * k)) (n * k) (drop 4 bytes) [] words (row_words k n (drop 4 bytes)) (row_bytes k n words)
        → after ≡ [] → ◌≡◌ {A = Parsed Sheet} (good (record { n = n; k = k; words = words }) after) (good s rest) → ReadSheet bytes rest s
    made hn hk words after r f g =
        let is : s ≡ record { n = n; k = k; words = words } = cc in
        rw is (record {
          n_is = en;
          k_is = ek;
          n_within = hn;
          k_within = hk;
          head = h;
          long = all_taken bytes (n * (2 + 2 * k)) four r.within r.after;
          rows = r;
          ends = cc;
        })

pub sheet_were : (bytes rest : List ℕ) (s : Sheet) → machine_sheet bytes ≡ good s rest → ReadSheet bytes rest s
unfolding machine_sheet
sheet_were bytes rest s e =
    let a = then_good (mark MH bytes) _ s rest e in
    let m = mark_were MH bytes a.0 a.1 a.2 in
    let p = demanded (leb 2 (length a.1)) 1 a.1 _ s rest a.3 in
    let four : 4 ≤ length bytes = omega (arith, m.0, leb_yes 2 (length a.1) p.0, ap length m.1 ∙ length-drop 2 bytes) in
    body_were bytes rest (get_or bytes 2 0) (get_or bytes 3 0) s refl refl four (sym (take-append-drop 2 bytes) ∙ ap₂ ◌++◌ m.2 (two bytes 2 four))
    (sym (head_present bytes (ap outcome a.2) four) ∙ e)

-- a good sheet's n and k: how many bytes it has, and how many words it sets
pub sheet_sized : (bytes : List ℕ) → outcome (machine_sheet bytes) ≡ gives tt
    → (length bytes ≡ 4 + get_or bytes 2 0 * (2 + 2 * get_or bytes 3 0)) × (get_or bytes 2 0 * get_or bytes 3 0 ≤ 576)
sheet_sized bytes e =
    let g = came_good (machine_sheet bytes) e in
    let s = sheet_were bytes g.1 g.0 g.2 in
    rw (s.n_is, s.k_is) (s.long, words_most g.0.n g.0.k (within_both 1 48 g.0.n s.n_within).1 (within_both 1 12 g.0.k s.k_within).1)

-- ---- what a sheet says of its size, or its refusal
abbrev pub size_in : Parsed Sheet → Answer Size
size_in (bad number) = refused number
size_in (good s rest) = gives (record { n = s.n; k = s.k })

-- a check that gives the size is one that answers whether the sheet is sound: one way ..
module _ (bytes : List ℕ) where
  pub size_refused : (x : ℕ) → outcome (machine_sheet bytes) ≡ refused x → size_in (machine_sheet bytes) ≡ refused x
  size_refused x e = ap size_in (came_bad (machine_sheet bytes) x e)

  pub size_sound : outcome (machine_sheet bytes) ≡ gives tt → size_in (machine_sheet bytes) ≡ gives (record { n = get_or bytes 2 0; k = get_or bytes 3 0 })
  size_sound e =
      let g = came_good (machine_sheet bytes) e in
      let s = sheet_were bytes g.1 g.0 g.2 in
      ap size_in g.2 ∙ rw (s.n_is, s.k_is) refl

  -- .. and the other
  pub sized_refused : (x : ℕ) → size_in (machine_sheet bytes) ≡ refused x → outcome (machine_sheet bytes) ≡ refused x
  sized_refused x = go (machine_sheet bytes)
    where
      go : (p : Parsed Sheet) → size_in p ≡ refused x → outcome p ≡ refused x
      go (bad y) e = let h : y ≡ x = cc in ap refused h
      go (good s rest) e = let z : ◌≡◌ {A = ℕ} 0 1 = cc in absurd (omega arith)

  pub sized_sound : (s : Size) → size_in (machine_sheet bytes) ≡ gives s → (outcome (machine_sheet bytes) ≡ gives tt) × (s ≡ record { n = get_or bytes 2 0; k = get_or bytes 3 0 })
  sized_sound s e =
      let h = go (machine_sheet bytes) e in
      let z : ◌≡◌ {A = Answer Size} (gives s) (gives (record { n = get_or bytes 2 0; k = get_or bytes 3 0 })) = sym e ∙ size_sound h in
      (h, cc)
    where
      go : (p : Parsed Sheet) → size_in p ≡ gives s → outcome p ≡ gives tt
      go (bad y) e = let z : ◌≡◌ {A = ℕ} 0 1 = cc in absurd (omega arith)
      go (good s rest) e = refl

-- ---- the operations: refused; an area too small; what they leave, by the definitions and by the places of the bytes
module _ (bytes area : List ℕ) where
  pub read_refused : (x : ℕ) → outcome (machine_sheet bytes) ≡ refused x → read_machine bytes area ≡ record { answer = refused x; area = area }
  unfolding read_machine
  read_refused x e = rw (came_bad (machine_sheet bytes) x e)

  pub read_small : outcome (machine_sheet bytes) ≡ gives tt → length area < 576 → read_machine bytes area ≡ record { answer = refused 8; area = area }
  unfolding read_machine
  read_small e h = let g = came_good (machine_sheet bytes) e in rw (g.2, lt-leb 576 (length area) h, read_leaves)

  pub read_leaves_is : (s : Sheet) (rest : List ℕ) → machine_sheet bytes ≡ good s rest → 576 ≤ length area
      → read_machine bytes area ≡ record { answer = gives (record { n = s.n; k = s.k }); area = over s.words area }
  unfolding read_machine
  read_leaves_is s rest e h = rw (e, le-leb 576 (length area) h, read_leaves)

  pub read_done : outcome (machine_sheet bytes) ≡ gives tt → 576 ≤ length area
      → read_machine bytes area ≡ record {
        answer = gives (record { n = get_or bytes 2 0; k = get_or bytes 3 0 });
        area = put 0 (row_words (get_or bytes 3 0) (get_or bytes 2 0) (drop 4 bytes)) area;
      }
  read_done e h =
      let g = came_good (machine_sheet bytes) e in
      let s = sheet_were bytes g.1 g.0 g.2 in
      rw (s.n_is, s.k_is, sym s.rows.is, put_start) (read_leaves_is g.0 g.1 g.2 h)

module _ (n k : ℕ) (words area : List ℕ) where
  pub write_refused : (x : ℕ) → lent_check n k words ≡ refused x → write_machine n k words area ≡ record { answer = refused x; area = area }
  unfolding write_machine
  write_refused x e = rw e

  pub write_small : lent_check n k words ≡ gives tt → length area < 1252 → write_machine n k words area ≡ record { answer = refused 9; area = area }
  unfolding write_machine
  write_small e h = rw (e, lt-leb 1252 (length area) h, write_leaves)

  pub write_leaves_is : lent_check n k words ≡ gives tt → 1252 ≤ length area
      → write_machine n k words area ≡ record { answer = gives (length (machine_bytes n k words)); area = over (machine_bytes n k words) area }
  unfolding write_machine
  write_leaves_is e h = rw (e, le-leb 1252 (length area) h, write_leaves)

  pub write_done : lent_check n k words ≡ gives tt → 1252 ≤ length area
      → write_machine n k words area ≡ record { answer = gives (4 + n * (2 + 2 * k)); area = put 0 (machine_bytes n k words) area }
  write_done e h =
      let l : length (machine_bytes n k words) ≡ 4 + n * (2 + 2 * k) = machine_length n k words (omega (arith, (lent_sound n k words e).long)) in
      rw (put_start, sym l) (write_leaves_is e h)
