-- The three ways in which the learner ends once it is not refused at the door: 10, Done and Open. That there is no other: proofs/Outcomes.
use Rattle.std.specs.Prelude.{◌≡◌, List, ℕ, ◌≤◌, ◌<◌, length}
use Rattle.std.proofs.Math.Option.{none, some}
use Rattle.rules.specs.Words.{Word}
use Rattle.rules.specs.Machine.{Machine}
use Rattle.rules.specs.Rounds.{Stop}
use Rattle.rules.specs.Sheets.{proof_bytes, word_bytes, CX}
use Rattle.rules.specs.Areas.{over, zeros}
use Rattle.rules.specs.Answer.{refused, gives}
use Rattle.machine.specs.Lent.{lent_check}
use Rattle.learning.specs.Learner.{Counts, done, unfinished, Left, finished, table_size, sheet_size, table_bytes, counts}

-- ---- at the door
pub record Taken (n k : ℕ) (words : List ℕ) (L R : ℕ) (table sheet : List ℕ) : Type 0 where
  pub limit_low : 1 ≤ L
  pub limit_high : L ≤ 48
  pub rounds_high : R ≤ 47
  pub machine : lent_check n k words ≡ gives tt
  pub table_long : table_size ≤ length table
  pub sheet_long : sheet_size ≤ length sheet

-- ---- where the rounds stop
abbrev pub ten_leaves : List ℕ → List ℕ → Left
ten_leaves table sheet = record { answer = refused 10; table = over (zeros table_size) table; sheet = sheet }

abbrev pub done_leaves : ℕ → Machine → Stop → List ℕ → List ℕ → Left
done_leaves k M x table sheet = record {
  answer = gives (done (counts k x (proof_bytes (finished k M x))));
  table = over (table_bytes k M x) table;
  sheet = over (proof_bytes (finished k M x)) sheet;
}

abbrev pub open_leaves : ℕ → Machine → Stop → Word → List ℕ → List ℕ → Left
open_leaves k M x w table sheet = record {
  answer = gives (unfinished (counts k x (word_bytes CX w)));
  table = over (table_bytes k M x) table;
  sheet = over (word_bytes CX w) sheet;
}

pub data Outcome (k : ℕ) (M : Machine) (L : ℕ) (x : Stop) (table sheet : List ℕ) (left : Left) : Type 0 where
  over_limit : L < length x.S → left ≡ ten_leaves table sheet → Outcome k M L x table sheet left
  is_done : length x.S ≤ L → x.left ≡ none → left ≡ done_leaves k M x table sheet → Outcome k M L x table sheet left
  is_open : (w : Word) → length x.S ≤ L → x.left ≡ some w → left ≡ open_leaves k M x w table sheet → Outcome k M L x table sheet left

pub record AtDone (k : ℕ) (M : Machine) (L : ℕ) (x : Stop) (table sheet : List ℕ) (c : Counts) (left : Left) : Type 0 where
  pub few : length x.S ≤ L
  pub closed : x.left ≡ none
  pub leaves : left ≡ done_leaves k M x table sheet
  pub counted : c ≡ counts k x (proof_bytes (finished k M x))

pub record AtOpen (k : ℕ) (M : Machine) (L : ℕ) (x : Stop) (table sheet : List ℕ) (c : Counts) (left : Left) : Type 0 where
  pub word : Word
  pub few : length x.S ≤ L
  pub still : x.left ≡ some word
  pub leaves : left ≡ open_leaves k M x word table sheet
  pub counted : c ≡ counts k x (word_bytes CX word)
