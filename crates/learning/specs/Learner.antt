-- Document 01, 'Table, rounds and stop' and 'Numbers to build for': the learner's answer, its counts, and the contents of both areas.
use Rattle.std.specs.Prelude.{true, false, ◌&&◌, List, [], ◌++◌, map, ℕ, ◌+◌, ◌*◌, ◌/◌, ◌%◌, length, get_or, ltb, leb}
use Rattle.std.proofs.Math.Option.{none, some}
use Rattle.rules.specs.Machine.{Machine, lent, ask}
use Rattle.rules.specs.Table.{from, row, conjecture}
use Rattle.rules.specs.Rounds.{Stop, cell_count}
use Rattle.rules.specs.Links.{stopped}
use Rattle.rules.specs.Sheets.{Proof, proof_bytes, word_bytes, CX}
use Rattle.rules.specs.Areas.{over, zeros}
use Rattle.rules.specs.Answer.{Answer, refused, gives, demand, within, ◌>>◌}
use Rattle.machine.specs.Lent.{link, lent_check}
use Rattle.finish.specs.Sheet.{numbered_sheet}

-- what Done and Open give
pub record Counts : Type 0 where
  pub states : ℕ
  pub rounds : ℕ
  pub cells : ℕ
  pub bytes : ℕ

pub data Learnt : Type 0 where
  done : Counts → Learnt
  unfinished : Counts → Learnt

-- the answer, and both areas after it
pub record Left : Type 0 where
  pub answer : Answer Learnt
  pub table : List ℕ
  pub sheet : List ℕ

-- the finished proof sheet: the conjecture numbered by least words, with the columns of the table
unfoldable pub finished : ℕ → Machine → Stop → Proof
unfolding conjecture ask numbered_sheet
finished k M x = numbered_sheet k M (conjecture (ask M) x.E x.S) x.E

-- ---- the areas
abbrev pub table_width : ℕ
table_width = 59

abbrev pub table_size : ℕ
table_size = 34043

abbrev pub sheet_size : ℕ
sheet_size = 9368

-- the byte at place i of the table area: cell (row, column) lies at row·59 + column, and the rest is zero
unfoldable pub table_byte : ℕ → Machine → Stop → ℕ → ℕ
unfolding row ask
table_byte k M x i =
    elim (ltb (i / table_width) (1 + length x.S * k) && ltb (i % table_width) (length x.E)) [
      | true ↦ ask M (row k x.S (i / table_width) ++ get_or x.E (i % table_width) [])
      | false ↦ 0
    ]

unfoldable pub table_bytes : ℕ → Machine → Stop → List ℕ
unfolding table_byte from
table_bytes k M x = map (table_byte k M x) (from 0 table_size)

-- ---- the operation
-- the refusals that come before learning: 7, machine, 8, 9
unfoldable pub learn_check : ℕ → ℕ → List ℕ → ℕ → ℕ → List ℕ → List ℕ → Answer (Unit {0})
unfolding lent_check
learn_check n k words L R table sheet = do
  demand (within 1 48 L && leb R 47) 7
  lent_check n k words
  demand (leb table_size (length table)) 8
  demand (leb sheet_size (length sheet)) 9

unfoldable pub counts : ℕ → Stop → List ℕ → Counts
unfolding cell_count
counts k x bytes = record { states = length x.S; rounds = x.past; cells = cell_count k x; bytes = length bytes }

-- where the rounds stop: 10 where S has more than L words, and else Done or Open
unfoldable pub stop_leaves : ℕ → Machine → ℕ → Stop → List ℕ → List ℕ → Left
unfolding over zeros table_bytes proof_bytes finished word_bytes counts
stop_leaves k M L x table sheet =
    elim (leb (length x.S) L) [
      | false ↦ record { answer = refused 10; table = over (zeros table_size) table; sheet = sheet }
      | true ↦
          elim x.left [
            | none ↦
                let bytes = proof_bytes (finished k M x) in
                record { answer = gives (done (counts k x bytes)); table = over (table_bytes k M x) table; sheet = over bytes sheet }
            | some w ↦
                let bytes = word_bytes CX w in
                record { answer = gives (unfinished (counts k x bytes)); table = over (table_bytes k M x) table; sheet = over bytes sheet }
          ]
    ]

unfoldable pub learn_leaves : Answer (Unit {0}) → ℕ → ℕ → List ℕ → ℕ → ℕ → List ℕ → List ℕ → Left
unfolding stop_leaves stopped lent
learn_leaves (refused number) n k words L R table sheet = record { answer = refused number; table = table; sheet = sheet }
learn_leaves (gives u) n k words L R table sheet = stop_leaves k (link n k words) L (stopped k (link n k words) R) table sheet

unfoldable pub learn : ℕ → ℕ → List ℕ → ℕ → ℕ → List ℕ → List ℕ → Left
unfolding learn_check learn_leaves
learn n k words L R table sheet = learn_leaves (learn_check n k words L R table sheet) n k words L R table sheet
