-- How long a proof sheet is: exactly, and at most.
use Rattle.std.specs.Prelude.{◌≡◌, List, [], ◌∷◌, ℕ, suc, ◌+◌, ◌*◌, ◌≤◌, ◌<◌, length, get_or}
use Rattle.std.proofs.Common.{suc-mul, arith, length-append}
use Rattle.rules.specs.Words.{Word}
use Rattle.rules.specs.Sheets.{AW, CW, word_bytes, words_bytes, Proof, proof_bytes}
use Rattle.rules.specs.SheetLaws.{rows_length, rows_most}

-- records of words of at most b letters
pub records_most : (x y b : ℕ) (words : List Word) → ((i : ℕ) → i < length words → length (get_or words i []) ≤ b)
    → length (words_bytes (x ∷ y ∷ []) words) ≤ length words * (3 + b)
unfolding words_bytes word_bytes
records_most x y b [] short = omega arith
records_most x y b (w ∷ words) short =
    let rest = records_most x y b words (λ i h. short (suc i) (omega arith)) in
    let first = short 0 (omega arith) in
    rw (length-append w (words_bytes (x ∷ y ∷ []) words)) (omega (arith, suc-mul (length words) (3 + b)))

pub proof_length : (P : Proof) → P.m * P.k ≤ length P.model
    → length (proof_bytes P) ≡ 6 + P.m * (2 + 2 * P.k) + length (words_bytes AW P.reaching) + length (words_bytes CW P.columns) + 2 + length P.state_map
unfolding proof_bytes
proof_length P h = let l = rows_length P.k P.m P.model h in simp length-append (omega arith)

-- so a sheet within the numbers to build for has at most 9,368 bytes
pub proof_most : (P : Proof) → P.m ≤ 48 → P.k ≤ 12 → length P.model ≡ P.m * P.k
    → length P.reaching ≡ P.m → ((j : ℕ) → j < P.m → length (get_or P.reaching j []) ≤ 47)
    → length P.columns ≤ 59 → ((c : ℕ) → c < length P.columns → length (get_or P.columns c []) ≤ 93)
    → length P.state_map ≤ 48 → length (proof_bytes P) ≤ 9368
proof_most P hm hk model reaching words columns short states =
    let rows = rows_most P.m P.k hm hk in
    let a = records_most 0x41 0x57 47 P.reaching (λ j h. words j (omega arith)) in
    let b = records_most 0x43 0x57 93 P.columns short in
    let l = proof_length P (omega arith) in
    omega arith
