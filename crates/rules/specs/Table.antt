-- Document 01, 'Table, rounds and stop', rules 1 to 4 and 6, over any `ask`: the table knows a machine by its answers alone.
-- S is the list of words, E the list of columns. τ is how many letters at a question's end stay as they are: 1 for links, whose
-- questions have a letter, so that the first columns are the one-letter words; a kind that answers the empty word has 0.
use Rattle.std.specs.Prelude.{◌≡◌, true, false, not, List, [], ◌∷◌, ◌++◌, map, ℕ, zero, suc, ◌+◌, ◌*◌, ◌-◌, ◌/◌, ◌%◌, ◌<◌, length, get_or, take, drop, eqb, ltb}
use Rattle.rules.specs.Words.{Word}
use Rattle.rules.specs.Tests.{eqs}
use Rattle.rules.specs.Seek.{seek}
use Rattle.rules.specs.Search.{walk}
use Rattle.rules.specs.Machine.{Machine}

-- the numbers i, i + 1, .. (n of them)
unfoldable pub from : ℕ → ℕ → List ℕ
from i zero = []
from i (suc n) = i ∷ from (suc i) n

-- rule 1: the columns are at first the k one-letter words, in order
unfoldable pub one_letter : ℕ → List Word
unfolding from
one_letter k = map (λ (a : ℕ). a ∷ []) (from 0 k)

-- rule 2: row 0 is the empty word; row 1 + j·k + a is the j-th word of S followed by the letter a
unfoldable pub row : ℕ → List Word → ℕ → Word
row k S zero = []
row k S (suc r) = get_or S (r / k) [] ++ (r % k ∷ [])

-- a cell is the answer to row word followed by column word
unfoldable pub cells : (Word → ℕ) → List Word → Word → List ℕ
cells ask E w = map (λ (e : Word). ask (w ++ e)) E

-- the place in S of the word with w's cells (the first, though no two words of S have the same); length S where there is none
unfoldable pub state_of : (Word → ℕ) → List Word → List Word → Word → ℕ
unfolding cells seek eqs
state_of ask E S w = seek (λ (j : ℕ). eqs (cells ask E (get_or S j [])) (cells ask E w)) 0 (length S)

-- rule 3: the first of the rows 1, 2, .. whose cells equal those of no word in S; 1 + length S · k where there is none
unfoldable pub open_row : (Word → ℕ) → ℕ → List Word → List Word → ℕ
unfolding state_of row seek
open_row ask k E S = seek (λ (r : ℕ). eqb (state_of ask E S (row k S r)) (length S)) 1 (length S * k)

-- Append its word to S and begin again, until there is none. `room` bounds the words that are appended.
unfoldable pub close : (Word → ℕ) → ℕ → ℕ → List Word → List Word → List Word
unfolding open_row row
close ask k zero E S = S
close ask k (suc room) E S =
    elim (ltb (open_row ask k E S) (1 + length S * k)) [ false ↦ S | true ↦ close ask k room E (S ++ (row k S (open_row ask k E S) ∷ [])) ]

-- closing as the rule says it, with no bound: S becomes S'
pub data Closes (ask : Word → ℕ) (k : ℕ) (E : List Word) : List Word → List Word → Type 0 where
  shut : {S : List Word} → open_row ask k E S ≡ 1 + length S * k → Closes ask k E S S
  append : {S S' : List Word} → open_row ask k E S < 1 + length S * k → Closes ask k E (S ++ (row k S (open_row ask k E S) ∷ [])) S' → Closes ask k E S S'

-- rule 4: from state j on letter a the conjecture goes to the word of S with the same cells as that row
unfoldable pub move : (Word → ℕ) → List Word → List Word → ℕ → ℕ → ℕ
unfolding state_of
move ask E S j a = state_of ask E S (get_or S j [] ++ (a ∷ []))

-- and its output is the answer to that row's word
unfoldable pub conjecture : (Word → ℕ) → List Word → List Word → Machine
unfolding move
conjecture ask E S = record { states = length S; next = move ask E S; out = λ j a. ask (get_or S j [] ++ (a ∷ [])) }

-- rule 6: the first i letters are replaced by the word of S for the state the conjecture reaches on them, and the whole is asked
unfoldable pub swapped : (Word → ℕ) → List Word → List Word → Word → ℕ → ℕ
unfolding move
swapped ask E S w i = ask (get_or S (walk (move ask E S) 0 (take i w)) [] ++ drop i w)

-- the least i for which the answers at i and i + 1 differ
unfoldable pub cut : (Word → ℕ) → ℕ → List Word → List Word → Word → ℕ
unfolding swapped seek
cut ask τ E S w = seek (λ (i : ℕ). not (eqb (swapped ask E S w i) (swapped ask E S w (suc i)))) 0 (length w - τ)

-- the word after the letter a(i + 1): the new column
unfoldable pub suffix : (Word → ℕ) → ℕ → List Word → List Word → Word → Word
unfolding cut
suffix ask τ E S w = drop (suc (cut ask τ E S w)) w
