-- The struct Desk in the terms of the laws.
use Rattle.std.specs.Prelude.{◌≡◌, Option, List, ℕ, ◌+◌, ◌*◌, length}
use Rattle.std.proofs.Math.Option as paper
use Rattle.rules.specs.Words.{Word}
use Rattle.rules.specs.Machine.{ask}
use Rattle.rules.specs.Rounds.{Stop}
use Rattle.rules.specs.Links.{counterexample, stopped}
use Rattle.machine.specs.Linked.{linked}
use Rattle.machine.specs.declared.lent.Lent.{Lent}
use Rattle.learning.specs.declared.table.Desk.{Desk}
use Rattle.learning.specs.Grid.{cell_of, state_in, open_in}
use Rattle.learning.specs.Desk.{Held}
use Rattle.learning.specs.Modelled.{Modelled}
use Rattle.learning.specs.RoundLaws.{Ready}
use Rattle.learning.specs.Turns.{Turn}

-- what its machine answers to a word
abbrev pub asked : Desk → Word → ℕ
asked d = ask (linked d.machine)

-- the rows of its table, a cell, the place in S of a row's word, and the first open row, both as the table has them
abbrev pub row_count : Desk → ℕ
row_count d = 1 + length d.s * d.machine.k

abbrev pub cell : Desk → ℕ → ℕ → ℕ
cell d = cell_of (asked d) d.machine.k d.s d.columns

abbrev pub state_at : Desk → List ℕ → ℕ → ℕ
state_at d table r = state_in 59 table d.rows (length d.s) (length d.columns) r

abbrev pub open_at : Desk → List ℕ → ℕ → ℕ
open_at d table first = open_in 59 table d.rows (length d.s) (length d.columns) first (row_count d)

-- rule 5 at its table
abbrev pub left_over : Desk → paper.Option Word
left_over d = counterexample d.machine.k (linked d.machine) d.columns d.s

-- where the rounds stop that learn its machine
abbrev pub stop_at : Desk → ℕ → Stop
stop_at d rounds = stopped d.machine.k (linked d.machine) rounds

-- ---- what holds of it and the areas
abbrev pub Holding : Desk → List ℕ → Type 0
Holding d table = Held d.machine.n d.machine.k d.machine.words.now d.s d.columns table

abbrev pub Modelling : Desk → List ℕ → Type 0
Modelling d model = Modelled d.machine.n d.machine.k d.machine.words.now d.s d.columns model

abbrev pub Differing : Desk → Lent → Word → Type 0
Differing d model w = Ready d.machine.n d.machine.k d.machine.words.now d.s d.columns model w

abbrev pub Turning : Desk → ℕ → List ℕ → List ℕ → List ℕ → Option ℕ → Type 0
Turning d past table model found left = Turn d.machine.n d.machine.k d.machine.words.now past d.s d.columns table model found left

-- the machine by another name
pub differing : (d : Desk) (m model : Lent) (w : Word) → d.machine ≡ m → Ready m.n m.k m.words.now d.s d.columns model w → Differing d model w
differing d m model w e R = rw e R
