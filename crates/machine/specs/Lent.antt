-- Document 01, 'The machine' and 'Refusal numbers': lent words and a question, with their refusals in order.
use Rattle.std.specs.Prelude.{◌≡◌, Bool, List, ℕ, ◌+◌, ◌*◌, ◌/◌, ◌≤◌, ◌<◌, length, get_or, ltb, leb}
use Rattle.std.specs.List.{list_all}
use Rattle.rules.specs.Words.{Word}
use Rattle.rules.specs.Machine.{Machine, lent, ask}
use Rattle.rules.specs.Answer.{Answer, gives, demand, within, ◌>>◌}

-- every next state is below n
abbrev pub next_below : ℕ → List ℕ → Bool
next_below n words = list_all (λ (x : ℕ). ltb (x / 256) n) words

-- every letter is below k
abbrev pub letters_below : ℕ → Word → Bool
letters_below k w = list_all (λ (a : ℕ). ltb a k) w

-- lent words: 3, then 1 or 5, then 4
unfoldable pub lent_check : ℕ → ℕ → List ℕ → Answer (Unit {0})
lent_check n k words = do
  demand (within 1 48 n) 3
  demand (within 1 12 k) 3
  demand (leb (n * k) (length words)) 1
  demand (leb (length words) (n * k)) 5
  demand (next_below n words) 4

-- the machine that words lend: outputs are bytes
abbrev pub link : ℕ → ℕ → List ℕ → Machine
link n k words = lent 256 n k words

-- words of which the first n·k are a complete machine over k letters
pub record Steps (n k : ℕ) (words : List ℕ) : Type 0 where
  pub some : 1 ≤ n
  pub long : n * k ≤ length words
  pub next : (s a : ℕ) → s < n → a < k → get_or words (s * k + a) 0 / 256 < n

-- what lent words have that are not refused
pub record Sound (n k : ℕ) (words : List ℕ) : Type 0 where
  pub n_low : 1 ≤ n
  pub n_high : n ≤ 48
  pub k_low : 1 ≤ k
  pub k_high : k ≤ 12
  pub long : length words ≡ n * k
  pub next : (s a : ℕ) → s < n → a < k → get_or words (s * k + a) 0 / 256 < n

-- question: machine, then 6 for the empty word or a letter not below k; its answer is the last output
unfoldable pub question : ℕ → ℕ → List ℕ → Word → Answer ℕ
unfolding lent_check ask lent
question n k words w = do
  lent_check n k words
  demand (leb 1 (length w)) 6
  demand (letters_below k w) 6
  gives (ask (link n k words) w)
