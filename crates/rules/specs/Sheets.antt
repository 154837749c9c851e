-- Document 01, 'Sheets': what the bytes of a machine sheet and of a proof sheet are. Each record begins with a two-byte ASCII mark.
use Rattle.std.specs.Prelude.{List, [], ◌∷◌, ◌++◌, map, ℕ, zero, suc, ◌+◌, ◌*◌, ◌/◌, ◌%◌, length, take, drop}
use Rattle.rules.specs.Words.{Word}
use Rattle.rules.specs.Machine.{Machine}
use Rattle.rules.specs.Table.{from}

abbrev pub MH : List ℕ
MH = 0x4D ∷ 0x48 ∷ []

abbrev pub MR : List ℕ
MR = 0x4D ∷ 0x52 ∷ []

abbrev pub PH : List ℕ
PH = 0x50 ∷ 0x48 ∷ []

abbrev pub AW : List ℕ
AW = 0x41 ∷ 0x57 ∷ []

abbrev pub CW : List ℕ
CW = 0x43 ∷ 0x57 ∷ []

abbrev pub SM : List ℕ
SM = 0x53 ∷ 0x4D ∷ []

abbrev pub CX : List ℕ
CX = 0x43 ∷ 0x58 ∷ []

-- a machine as lent words, state by state and letter by letter
unfoldable pub words_of : ℕ → ℕ → Machine → List ℕ
unfolding from
words_of B k N = map (λ (i : ℕ). B * N.next (i / k) (i % k) + N.out (i / k) (i % k)) (from 0 (N.states * k))

-- the pairs (output, next) of words
unfoldable pub pair_bytes : List ℕ → List ℕ
pair_bytes [] = []
pair_bytes (x ∷ words) = x % 256 ∷ x / 256 ∷ pair_bytes words

-- r times MR with k pairs
unfoldable pub row_bytes : ℕ → ℕ → List ℕ → List ℕ
unfolding pair_bytes
row_bytes k zero words = []
row_bytes k (suc r) words = MR ++ (pair_bytes (take k words) ++ row_bytes k r (drop k words))

-- machine sheet: MH, n, k; then n times MR
unfoldable pub machine_bytes : ℕ → ℕ → List ℕ → List ℕ
unfolding row_bytes
machine_bytes n k words = MH ++ (n ∷ k ∷ row_bytes k n words)

-- a record of a word: its mark, its length and its letters
unfoldable pub word_bytes : List ℕ → Word → List ℕ
word_bytes mark w = mark ++ (length w ∷ w)

unfoldable pub words_bytes : List ℕ → List Word → List ℕ
unfolding word_bytes
words_bytes mark [] = []
words_bytes mark (w ∷ words) = word_bytes mark w ++ words_bytes mark words

-- what a proof sheet says
pub record Proof : Type 0 where
  pub m : ℕ
  pub k : ℕ
  pub n : ℕ
  pub c : ℕ
  pub model : List ℕ
  pub reaching : List Word
  pub columns : List Word
  pub state_map : List ℕ

-- proof sheet: PH, m, k, n, c; m times MR; m times AW; c times CW; SM with n bytes
unfoldable pub proof_bytes : Proof → List ℕ
unfolding row_bytes words_bytes
proof_bytes P =
    PH
    ++ (P.m ∷ P.k ∷ P.n ∷ P.c
    ∷ (row_bytes P.k P.m P.model ++ (words_bytes AW P.reaching ++ (words_bytes CW P.columns ++ (SM ++ P.state_map)))))
