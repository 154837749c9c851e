-- What the reader of a proof sheet has seen to before the checker judges it.
use Rattle.std.specs.Prelude.{◌≡◌, true, [], ℕ, ◌*◌, ◌≤◌, ◌<◌, length, get_or}
use Rattle.rules.specs.Words.{Below}
use Rattle.rules.specs.Sheets.{Proof}
use Rattle.std.specs.List.{list_all}
use Rattle.machine.specs.Lent.{next_below}
use Rattle.sheets.specs.Proofs.{map_byte}

pub record Seen (P : Proof) : Type 0 where
  pub m_low : 1 ≤ P.m
  pub m_high : P.m ≤ 48
  pub k_low : 1 ≤ P.k
  pub k_high : P.k ≤ 12
  pub n_low : 1 ≤ P.n
  pub n_high : P.n ≤ 48
  pub c_high : P.c ≤ 59
  -- m rows of k pairs, each next below m
  pub model_long : length P.model ≡ P.m * P.k
  pub model_next : next_below P.m P.model ≡ true
  -- m words of 0 to 47 letters
  pub reaching_many : length P.reaching ≡ P.m
  pub reaching_short : (j : ℕ) → j < P.m → length (get_or P.reaching j []) ≤ 47
  pub reaching_letters : (j : ℕ) → j < P.m → Below P.k (get_or P.reaching j [])
  -- c words of 1 to 93 letters
  pub columns_many : length P.columns ≡ P.c
  pub columns_long : (c : ℕ) → c < P.c → 1 ≤ length (get_or P.columns c [])
  pub columns_short : (c : ℕ) → c < P.c → length (get_or P.columns c []) ≤ 93
  pub columns_letters : (c : ℕ) → c < P.c → Below P.k (get_or P.columns c [])
  -- n bytes, each below m or 255
  pub map_long : length P.state_map ≡ P.n
  pub map_bytes_pass : list_all (map_byte P.m) P.state_map ≡ true
