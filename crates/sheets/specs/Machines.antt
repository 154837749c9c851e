-- Document 01: reading a machine sheet into a lent word area, and writing one from lent words.
use Rattle.std.specs.Prelude.{true, false, List, ℕ, length, leb}
use Rattle.rules.specs.Areas.{over}
use Rattle.rules.specs.Answer.{Answer, refused, gives, within}
use Rattle.rules.specs.Sheets.{MH, machine_bytes}
use Rattle.machine.specs.Lent.{lent_check}
use Rattle.sheets.specs.Reading.{Parsed, bad, good, Reader, pure, ◌>>=◌, ◌>>◌, demand, present, byte, at_end, mark, rows}

pub record Sheet : Type 0 where
  pub n : ℕ
  pub k : ℕ
  pub words : List ℕ

-- machine sheet: MH, n, k; then n times MR with k pairs
unfoldable pub machine_sheet : Reader Sheet
unfolding mark rows
machine_sheet = do
  mark MH
  present 2
  n ← byte
  k ← byte
  demand (within 1 48 n) 3
  demand (within 1 12 k) 3
  words ← rows n k n
  at_end
  pure (record { n = n; k = k; words = words })

-- what reading gives
pub record Size : Type 0 where
  pub n : ℕ
  pub k : ℕ

-- an answer, and the one lent area after it
pub record Left (A : Type 0) : Type 0 where
  pub answer : Answer A
  pub area : List ℕ

-- reader: sheet, then 8 for an area under 576 words; sets the first n·k words only
unfoldable pub read_leaves : Parsed Sheet → List ℕ → Left Size
unfolding over
read_leaves (bad number) area = record { answer = refused number; area = area }
read_leaves (good sheet rest) area =
    elim (leb 576 (length area)) [
      | false ↦ record { answer = refused 8; area = area }
      | true ↦ record { answer = gives (record { n = sheet.n; k = sheet.k }); area = over sheet.words area }
    ]

unfoldable pub read_machine : List ℕ → List ℕ → Left Size
unfolding machine_sheet read_leaves
read_machine bytes area = read_leaves (machine_sheet bytes) area

-- writer: words, then 9 for an area under 1,252 bytes; gives the sheet's length and sets that many bytes only
unfoldable pub write_leaves : Answer (Unit {0}) → ℕ → ℕ → List ℕ → List ℕ → Left ℕ
unfolding over machine_bytes
write_leaves (refused number) n k words area = record { answer = refused number; area = area }
write_leaves (gives u) n k words area =
    elim (leb 1252 (length area)) [
      | false ↦ record { answer = refused 9; area = area }
      | true ↦ record { answer = gives (length (machine_bytes n k words)); area = over (machine_bytes n k words) area }
    ]

unfoldable pub write_machine : ℕ → ℕ → List ℕ → List ℕ → Left ℕ
unfolding lent_check write_leaves
write_machine n k words area = write_leaves (lent_check n k words) n k words area
