-- Two machines that are searched side by side: the pair of s and t is s·m + t, and no letter leads out of the n·m pairs.
use Rattle.std.specs.Prelude.{◌≡◌, Bool, true, false, length, get_or, Option, Some, None}
use Rattle.std.proofs.Math.Path.{refl, sym, ap}
use Rattle.std.proofs.Common.{◌∙◌, subst, mod-lt, div-lt_iff_lt-mul, mul-le-mul, length-append}
use Rattle.std.proofs.Math.Option.{none, some}
use Rattle.std.proofs.Math.Option as paper
use mathlib.Core.List.{List, [], ◌∷◌, ◌++◌}
use Prim.Native.Nat.{ℕ, zero, suc, ◌+◌, ◌*◌, ◌/◌, ◌%◌, ◌-◌, ◌≤◌, ◌<◌}
use native.Mathlib.Omega.{arith}
use Rattle.std.proofs.Math.Numerals.{add-one}
use Rattle.std.proofs.Math.ListN.{get_or-append}
use Rattle.std.proofs.lemmas.List.{get_or_default}
use Rattle.std.proofs.Math.Arith.{digits_lt, digits_div, digits_mod}
use Rattle.std.proofs.Math.Dec.{eqb}
use Rattle.rules.specs.Tests.{eqb_true, eqb_false, lt_yes, lt_no}
use Rattle.rules.specs.Words.{Word, Below}
use Rattle.rules.specs.Areas.{put}
use Rattle.rules.specs.Seek.{seek_on, seek_starts, seek_hits, seek_passes, seek_ends}
use Rattle.rules.specs.Search.{Entry, starts, walk, meet_all, explore_from, explore, Explored}
use Rattle.rules.specs.SearchLaws as search
use Rattle.rules.specs.MachineLaws.{walk_low}
use Rattle.rules.specs.Machine.{Machine, Complete, lent}
use Rattle.rules.specs.Difference.{pair_step, pair_apart, pairs, first_apart, word_apart, difference}
use Rattle.machine.specs.declared.lent.Lent.{Lent}
use Rattle.machine.specs.Linked.{linked}
use Rattle.machine.specs.LentLaws.{steps_complete}

-- lent machines over the same letters, within the paper's ranges
pub record Beside (machine other : Lent) : Type 0 where
  pub same : other.k ≡ machine.k
  pub n_high : machine.n ≤ 48
  pub m_high : other.n ≤ 48
  pub k_low : 1 ≤ machine.k
  pub k_high : machine.k ≤ 12

-- no letter leads out of the pairs of complete machines
pub step_low : {k : ℕ} (M N : Machine) → Complete k M → Complete k N → (x a : ℕ) → x < M.states * N.states → a < k → pair_step M N x a < M.states * N.states
unfolding pair_step
step_low {k} M N P Q x a hx ha =
    let left : x / N.states < M.states = (div-lt_iff_lt-mul Q.0).1 hx in
    let right : x % N.states < N.states = mod-lt x Q.0 in
    digits_lt (P.1 (x / N.states) a left ha) (Q.1 (x % N.states) a right ha)

module _ {machine other : Lent} (B : Beside machine other) where
  pub first_whole : Complete machine.k (linked machine)
  first_whole = steps_complete machine.steps

  pub second_whole : Complete machine.k (linked other)
  second_whole = subst (λ (k : ℕ). Complete k (linked other)) B.same (steps_complete other.steps)

  pub stays : (x a : ℕ) → x < machine.n * other.n → a < machine.k → pair_step (linked machine) (linked other) x a < machine.n * other.n
  unfolding lent
  stays = step_low (linked machine) (linked other) first_whole second_whole

  -- the queue has a place for every pair
  pub small : machine.n * other.n ≤ 2304
  small = mul-le-mul B.n_high B.m_high

-- the nodes of a queue are below `size`
abbrev pub Low : ℕ → List (Entry ℕ) → Type 0
Low size queue = (p : ℕ) → p < length queue → (get_or queue p (starts 0)).node < size

-- ---- a search underway: at the place `at`, what is left of the search makes the whole of it from the queue so far
abbrev pub Underway : (ℕ → ℕ → ℕ) → ℕ → ℕ → ℕ → ℕ → List (Entry ℕ) → Type 0
Underway step start k size at queue = explore_from eqb step start k (size - at) at queue ≡ explore eqb step start k size

-- over nodes below `size`, which no letter leads out of
module _ (step : ℕ → ℕ → ℕ) (start k size : ℕ) (stays : (x a : ℕ) → x < size → a < k → step x a < size) (low : start < size) where
  walks : (w : Word) → Below k w → walk step start w < size
  walks w b = walk_low size k step stays start w low b

  whole : Explored step k start (explore eqb step start k size)
  whole = search.explored eqb step k start eqb_true eqb_false size (λ x. x) (λ x y e. e) walks

  pub under_starts : Underway step start k size 0 (starts start ∷ [])
  unfolding explore
  under_starts = let z : size - 0 ≡ size = omega arith in rw z

  pub under_ends : Underway step start k size size (explore eqb step start k size)
  unfolding explore_from
  under_ends = let z : size - size ≡ 0 = omega arith in rw z

  module _ (at : ℕ) (queue : List (Entry ℕ)) (U : Underway step start k size at queue) where
    -- the queue is the beginning of the whole
    more : search.Grown queue (explore eqb step start k size)
    more = let g = search.grown eqb step k start (size - at) at queue in (g.0, sym U ∙ g.1)

    pub under_few : length queue ≤ size
    under_few =
        omega (arith, search.few step k start (explore eqb step start k size) whole size (λ x. x) (λ x y e. e) walks, ap length more.1, length-append queue more.0)

    pub under_low : (p : ℕ) → p < length queue → (get_or queue p (starts start)).node < size
    under_low p h =
        let all = explore eqb step start k size in
        let long : p < length all = omega (arith, ap length more.1, length-append queue more.0) in
        let same : get_or all p (starts start) ≡ get_or queue p (starts start) = ap (λ (l : List (Entry ℕ)). get_or l p (starts start)) more.1 ∙ get_or-append queue more.0 (starts start) p h in
        subst (λ (e : Entry ℕ). e.node < size) same (subst (λ (x : ℕ). x < size) (whole.leads p long) (walks (get_or all p (starts start)).word (whole.letters p long)))

    pub under_next : at < length queue → Underway step start k size (at + 1) (meet_all eqb step start (get_or queue at (starts start)) 0 k queue)
    unfolding explore_from
    under_next h =
        let l = under_few in
        let z : size - at ≡ suc (size - suc at) = omega arith in
        rw add-one (rw (z, lt_yes at (length queue) h, explore_from) at U)

    pub under_over : length queue ≤ at → queue ≡ explore eqb step start k size
    unfolding explore_from
    under_over h = sym (over (size - at)) ∙ U
      where
        over : (f : ℕ) → explore_from eqb step start k f at queue ≡ queue
        over zero = refl
        over (suc f) = rw (lt_no at (length queue) h, explore_from)

    pub under_places : Low size queue
    under_places p h = subst (λ (e : Entry ℕ). e.node < size) (get_or_default queue p (starts start) (starts 0) h) (under_low p h)

-- ---- the first place and letter at which the outputs differ
-- the word of a place and a letter
abbrev pub spelled : List (Entry ℕ) → Option (ℕ × ℕ) → paper.Option Word
spelled queue None = none
spelled queue (Some r) = some ((get_or queue r.0 (starts 0)).word ++ (r.1 ∷ []))

-- what the search over a queue spells, which begins with `start`
unfoldable pub told : Machine → Machine → ℕ → ℕ → List (Entry ℕ) → paper.Option Word
unfolding first_apart word_apart
told M N k start queue = word_apart M N k start queue (first_apart M N k start queue)

pub told_pairs : (M N : Machine) (k s t : ℕ) → told M N k (s * N.states + t) (pairs M N k s t) ≡ difference M N k s t
unfolding told difference
told_pairs M N k s t = refl

module _ (M N : Machine) (k start : ℕ) (queue : List (Entry ℕ)) where
  -- the outputs differ at the letter j % k of the place j / k
  abbrev pub differs : ℕ → Bool
  differs j = pair_apart M N (get_or queue (j / k) (starts start)).node (j % k)

  -- none differ before j: the search goes on from there
  abbrev pub Alike : ℕ → Type 0
  Alike j = first_apart M N k start queue ≡ seek_on differs (length queue * k) j

  pub alike_starts : Alike 0
  unfolding first_apart
  alike_starts = sym (seek_starts differs (length queue * k))

  module _ (p a : ℕ) (here : p < length queue) (letter : a < k) where
    low : p * k + a < length queue * k
    low = digits_lt here letter

    is : differs (p * k + a) ≡ pair_apart M N (get_or queue p (starts 0)).node a
    is = rw (digits_div p letter, digits_mod p letter, get_or_default queue p (starts start) (starts 0) here)

    spells : word_apart M N k start queue (p * k + a) ≡ spelled queue (Some (p, a))
    unfolding word_apart
    spells = rw (lt_yes (p * k + a) (length queue * k) low, word_apart, digits_div p letter, digits_mod p letter, get_or_default queue p (starts start) (starts 0) here)

    pub alike_more : Alike (p * k + a) → pair_apart M N (get_or queue p (starts 0)).node a ≡ false → Alike (p * k + (a + 1))
    alike_more A e =
        let next : p * k + a + 1 ≡ p * k + (a + 1) = omega arith in
        A ∙ seek_passes differs (length queue * k) (p * k + a) low (is ∙ e) ∙ ap (seek_on differs (length queue * k)) next

    pub told_here : Alike (p * k + a) → pair_apart M N (get_or queue p (starts 0)).node a ≡ true → told M N k start queue ≡ spelled queue (Some (p, a))
    unfolding told
    told_here A e =
        let r = A ∙ seek_hits differs (length queue * k) (p * k + a) low (is ∙ e) in
        ap (word_apart M N k start queue) r ∙ spells

  pub told_none : Alike (length queue * k) → told M N k start queue ≡ none
  unfolding told word_apart
  told_none A =
      let r = A ∙ seek_ends differs (length queue * k) (length queue * k) (omega arith) in
      rw (r, lt_no (length queue * k) (length queue * k) (omega arith), word_apart)

-- ---- what a search that found the least difference writes, and answers
abbrev pub found_length : paper.Option Word → Option ℕ
found_length none = None
found_length (some w) = Some (length w)

abbrev pub found_put : paper.Option Word → List ℕ → List ℕ
found_put none area = area
found_put (some w) area = put 0 w area
