-- WHAT THE ANSWERS MEAN: theorems about `apart`.
use Rattle.std.proofs.Math.Path.{◌≡◌, refl, sym, ap}
use Rattle.std.proofs.Common.{◌∙◌, subst, arith}
use Rattle.std.specs.Prelude.{◌≢◌, ◌↔◌, ℕ, ◌≤◌, ◌<◌, length, ltb}
use Rattle.std.proofs.Math.Option.{Option, none, some}
use mathlib.Core.List.{List, List-discrete}
use Rattle.std.proofs.Math.Decide.{ℕ_discrete}
use Rattle.rules.specs.Tests.{ltb_yes}
use Rattle.rules.specs.Words.{Word, Below, Before}
use Rattle.rules.specs.Areas.{over}
use Rattle.rules.specs.Machine.{Machine, Complete, lent, answer_from, last_from, SmallestModel}
use Rattle.rules.specs.MachineLaws.{last_snoc}
use Rattle.rules.specs.Difference.{difference}
use Rattle.rules.specs.DifferenceLaws.{found, found_least, none_agrees, agrees_none}
use Rattle.rules.specs.Least.{stable}
use Rattle.rules.proofs.Smallest.{one_of_alike}
use Rattle.rules.specs.Answer.{Answer, refused, gives}
use Rattle.machine.specs.Lent.{link, lent_check, Sound}
use Rattle.machine.specs.LentLaws.{both, demanded, lent_sound, sound_steps, steps_complete}
use Rattle.apart.specs.Apart.{Told, Left, asked, tells, leaves, apart}
use Rattle.apart.specs.Answers.{told_in}
use Rattle.apart.specs.ApartLaws.{is_found}

-- s and t answer every word alike
abbrev pub AllAlike : ℕ → Machine → ℕ → ℕ → Type 0
AllAlike k M s t = (w : Word) → Below k w → answer_from M s w ≡ answer_from M t w

-- what is told of s and t, and left in the area
pub record TellsApart (k : ℕ) (M : Machine) (s t : ℕ) (area : List ℕ) (x : Told) (left : List ℕ) : Type 0 where
  pub word : Word
  pub letters : Below k word
  pub many : x.length ≡ length word
  pub short : length word ≤ 47
  -- the word stands in the area, and the bytes past it stay
  pub stands : left ≡ over word area
  pub first : x.first ≡ last_from M 0 s word
  pub second : x.second ≡ last_from M 0 t word
  pub differ : x.first ≢ x.second
  -- no lesser word tells the two apart
  pub least : (v : Word) → Below k v → Before v word → answer_from M s v ≡ answer_from M t v

-- REFUSED: no byte of the area changes.
pub refused_leaves : (n k : ℕ) (words : List ℕ) (s t : ℕ) (area : List ℕ) (x : ℕ) → asked n k words s t area ≡ refused x
    → apart n k words s t area ≡ record { answer = refused x; area = area }
unfolding apart
refused_leaves n k words s t area x e = ap (λ (a : Answer (Unit {0})). leaves a k (link n k words) s t area) e

module _ (n k : ℕ) (words : List ℕ) (s t : ℕ) (area : List ℕ) (door : asked n k words s t area ≡ gives tt) where
  abbrev M : Machine
  M = link n k words

  abbrev left : Left
  left = apart n k words s t area

  taken : Sound n k words × (s < n) × (t < n)
  unfolding asked
  taken =
      let a = both (lent_check n k words) _ door in
      let b = demanded (ltb s n) 4 _ tt a.1 in
      let c = demanded (ltb t n) 4 _ tt b.1 in
      (lent_sound n k words a.0, ltb_yes s n b.0, ltb_yes t n c.0)

  pos : 0 < k
  pos = taken.0.k_low

  whole : Complete k M
  whole = steps_complete (sound_steps taken.0)

  low : (s < M.states) × (t < M.states)
  unfolding lent
  low = (taken.1, taken.2)

  said : (o : Option Word) → difference M M k s t ≡ o → left ≡ tells M s t o area
  unfolding apart
  said o e = ap (λ (a : Answer (Unit {0})). leaves a k M s t area) door ∙ ap (λ (o : Option Word). tells M s t o area) e

  -- TOLD. The word is over the machine's letters and stands in the area; its last outputs from the two states are those that are told, and
  -- they differ; the two states answer every lesser word alike.
  pub told : (x : Told) → left.answer ≡ gives (some x) → TellsApart k M s t area x left.area
  unfolding lent
  told x is = go (difference M M k s t) refl
    where
      go : (o : Option Word) → difference M M k s t ≡ o → TellsApart k M s t area x left.area
      go none e =
          let q : ◌≡◌ {A = Answer (Option Told)} (gives none) (gives (some x)) = sym (ap (λ (l : Left). l.answer) (said none e)) ∙ is in
          let z : ◌≡◌ {A = ℕ} 0 1 = cc in
          absurd (omega arith)
      go (some w) e =
          let f = is_found k pos M whole s t low.0 low.1 w e in
          let a = found k pos M M whole whole s t low.0 low.1 w e in
          let l = found_least k pos M M whole whole s t low.0 low.1 w e in
          let q = sym (ap (λ (l : Left). l.answer) (said (some w) e)) ∙ is in
          let first : x.first ≡ last_from M 0 s w = sym (ap (λ (y : Answer (Option Told)). (told_in y).first) q) in
          let second : x.second ≡ last_from M 0 t w = sym (ap (λ (y : Answer (Option Told)). (told_in y).second) q) in
          let differ : last_from M 0 s w ≢ last_from M 0 t w = rw (a.joined, last_snoc M 0 s a.front a.last, last_snoc M 0 t a.front a.last) a.differ in
          record {
            word = w;
            letters = f.letters;
            many = sym (ap (λ (y : Answer (Option Told)). (told_in y).length) q);
            short = omega (arith, f.short, taken.0.n_high);
            stands = ap (λ (l : Left). l.area) (said (some w) e);
            first = first;
            second = second;
            differ = λ h. differ (sym first ∙ h ∙ second);
            least = λ v bv h. stable (List-discrete ℕ_discrete (answer_from M s v) (answer_from M t v)) (l.0.first v bv (rw l.1 h));
          }

  none_found : left.answer ≡ gives none → difference M M k s t ≡ none
  none_found is = go (difference M M k s t) refl
    where
      go : (o : Option Word) → difference M M k s t ≡ o → difference M M k s t ≡ none
      go none e = e
      go (some w) e =
          let q = sym (ap (λ (l : Left). l.answer) (said (some w) e)) ∙ is in
          let z : ◌≡◌ {A = ℕ} 0 1 = cc in
          absurd (omega arith)

  -- NONE is said exactly when no word tells the two apart, and the area stays.
  pub none_when : (left.answer ≡ gives none) ↔ AllAlike k M s t
  none_when = (
    λ is. none_agrees k pos M M whole whole s t low.0 low.1 (none_found is),
    λ f. ap (λ (l : Left). l.answer) (said none (agrees_none k pos M M whole whole s t low.0 low.1 f)),
  )

  pub none_leaves : left.answer ≡ gives none → left.area ≡ area
  none_leaves is = ap (λ (l : Left). l.area) (said none (none_found is))

  -- In a finished model, which is a smallest one, none is said for a state and itself alone.
  pub none_itself : (N : Machine) → SmallestModel k N M → (left.answer ≡ gives none) ↔ (s ≡ t)
  none_itself N m = (
    λ is. one_of_alike pos m s t low.0 low.1 (none_when.0 is),
    λ e. none_when.1 (λ w b. ap (λ (x : ℕ). answer_from M x w) e),
  )

-- A word that is told has at most 47 letters.
abbrev pub Short : Answer (Option Told) → Type 0
Short (refused x) = Unit {0}
Short (gives none) = Unit {0}
Short (gives (some x)) = x.length ≤ 47

pub always_short : (n k : ℕ) (words : List ℕ) (s t : ℕ) (area : List ℕ) → Short (apart n k words s t area).answer
always_short n k words s t area = go (asked n k words s t area) refl
  where
    door : asked n k words s t area ≡ gives tt → (a : Answer (Option Told)) → (apart n k words s t area).answer ≡ a → Short a
    door e (refused x) q = tt
    door e (gives none) q = tt
    door e (gives (some x)) q = let T = told n k words s t area e x q in omega (arith, T.many, T.short)

    go : (a : Answer (Unit {0})) → asked n k words s t area ≡ a → Short (apart n k words s t area).answer
    go (refused x) e = subst Short (sym (ap (λ (l : Left). l.answer) (refused_leaves n k words s t area x e))) tt
    go (gives u) e = door e (apart n k words s t area).answer refl
