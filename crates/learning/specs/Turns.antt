-- The loop of the rounds: after p rounds the desk holds the table of the stop that p rounds allow, its conjecture and its counterexample.
use Rattle.std.specs.Prelude.{◌≡◌, Option, Some, None, take}
use Rattle.std.proofs.Math.Path.{refl, sym, ap}
use Rattle.std.proofs.Common.{ap₂, ◌∙◌}
use Rattle.std.proofs.Math.Option.{none, some}
use Rattle.std.proofs.Math.Option as paper
use mathlib.Core.List.{List, [], ◌∷◌}
use Prim.Native.Nat.{ℕ, zero, suc, ◌+◌, ◌≤◌, ◌<◌}
use native.Mathlib.Omega.{arith}
use Rattle.std.proofs.Math.ListN.{length}
use Rattle.rules.specs.Words.{Word}
use Rattle.rules.specs.Areas.{put, put_part}
use Rattle.rules.specs.Machine.{Machine, Complete, lent, ask}
use Rattle.rules.specs.Table.{one_letter, close, conjecture}
use Rattle.rules.specs.Closing.{Shut}
use Rattle.rules.specs.Rounds.{Stop, more, rounds, learned}
use Rattle.rules.specs.Stages.{Stage, Stopped}
use Rattle.rules.specs.Links.{counterexample, stopped}
use Rattle.rules.proofs.Links.{at_stop, right}
use Rattle.rules.specs.Advance.{advance}
use Rattle.rules.proofs.Advance.{stop_more}
use Rattle.machine.specs.Lent.{link, Sound}
use Rattle.machine.specs.LentLaws.{sound_steps, steps_complete, below_letters}
use Rattle.machine.specs.declared.lent.Lent.{Lent}
use Rattle.learning.specs.Desk.{Held}
use Rattle.learning.specs.Modelled.{Modelled}
use Rattle.learning.specs.RoundLaws.{Ready}
use Rattle.search.specs.Pairs.{found_length, found_put}
use Rattle.learning.specs.Proper.{sound_proper}
use Rattle.learning.specs.Bounds.{Bounds, stop_bounds}

-- the table of the stop that p rounds allow
pub record Reached (n k : ℕ) (words : List ℕ) (p : ℕ) (S E : List Word) (table : List ℕ) : Type 0 where
  pub held : Held n k words S E table
  pub S-is : S ≡ (stopped k (link n k words) p).S
  pub E-is : E ≡ (stopped k (link n k words) p).E
  pub past : (stopped k (link n k words) p).past ≡ p

-- and its conjecture and counterexample
pub record Turn (n k : ℕ) (words : List ℕ) (p : ℕ) (S E : List Word) (table model found : List ℕ) (left : Option ℕ) : Type 0 where
  pub reached : Reached n k words p S E table
  pub modelled : Modelled n k words S E model
  pub left_is : left ≡ found_length (stopped k (link n k words) p).left
  pub found_is : (w : Word) → (stopped k (link n k words) p).left ≡ some w → take (length w) found ≡ w

-- a word that was put is found again
pub found_there : (o : paper.Option Word) (found area : List ℕ) → found ≡ found_put o area → (w : Word) → o ≡ some w → length w ≤ length area → take (length w) found ≡ w
found_there none found area e w q h = cc
found_there (some v) found area e w q h =
    let same : v ≡ w = cc in
    ap (take (length w)) (e ∙ ap (λ (x : Word). put 0 x area) same) ∙ put_part 0 w area (omega arith)

module _ {n k : ℕ} {words : List ℕ} (sound : Sound n k words) where
  M : Machine
  M = link n k words

  whole : Complete k (link n k words)
  whole = steps_complete (sound_steps sound)

  pub stage_of : (p : ℕ) → Stopped (ask (link n k words)) k 1 k (counterexample k (link n k words)) 0 p (stopped k (link n k words) p)
  stage_of p = at_stop k (link n k words) sound.k_low whole p

  pub bounds_of : (p : ℕ) → Bounds k (link n k words) (stopped k (link n k words) p)
  bounds_of p = stop_bounds (sound_proper sound) p

  -- the table of the stop is closed, and its counterexample is rule 5's
  pub turn_shut : (p : ℕ) (E S : List Word) → S ≡ (stopped k (link n k words) p).S → E ≡ (stopped k (link n k words) p).E → Shut (ask (link n k words)) k E S
  turn_shut p E S s e = rw (s, e) (stage_of p).stage.shut

  pub turn_asked : (p : ℕ) (E S : List Word) → S ≡ (stopped k (link n k words) p).S → E ≡ (stopped k (link n k words) p).E → counterexample k (link n k words) E S ≡ (stopped k (link n k words) p).left
  turn_asked p E S s e = rw (s, e) (sym (stage_of p).asked)

  -- ---- the first turn
  pub first_S : (stopped k (link n k words) 0).S ≡ close (ask (link n k words)) k n (one_letter k) ([] ∷ [])
  unfolding stopped learned rounds lent
  first_S = refl

  pub first_E : (stopped k (link n k words) 0).E ≡ one_letter k
  unfolding stopped learned rounds
  first_E = refl

  pub first_past : (stopped k (link n k words) 0).past ≡ 0
  unfolding stopped learned rounds
  first_past = refl

  -- ---- one turn more
  module _ (p : ℕ) (w : Word) (left : (stopped k (link n k words) p).left ≡ some w) where
    next : stopped k (link n k words) (suc p)
        ≡ record {
          S = close (ask (link n k words)) k n (more (ask (link n k words)) 1 (stopped k (link n k words) p).E (stopped k (link n k words) p).S w) (stopped k (link n k words) p).S;
          E = more (ask (link n k words)) 1 (stopped k (link n k words) p).E (stopped k (link n k words) p).S w;
          past = suc (stopped k (link n k words) p).past;
          left = counterexample k (link n k words) (more (ask (link n k words)) 1 (stopped k (link n k words) p).E (stopped k (link n k words) p).S w)
              (close (ask (link n k words)) k n (more (ask (link n k words)) 1 (stopped k (link n k words) p).E (stopped k (link n k words) p).S w) (stopped k (link n k words) p).S);
        }
    unfolding advance lent
    next = stop_more k (link n k words) p ∙ go (stopped k (link n k words) p) left
      where
        go : (x : Stop) → x.left ≡ some w
            → advance (ask (link n k words)) k 1 n (counterexample k (link n k words)) x
            ≡ record {
              S = close (ask (link n k words)) k n (more (ask (link n k words)) 1 x.E x.S w) x.S;
              E = more (ask (link n k words)) 1 x.E x.S w;
              past = suc x.past;
              left = counterexample k (link n k words) (more (ask (link n k words)) 1 x.E x.S w) (close (ask (link n k words)) k n (more (ask (link n k words)) 1 x.E x.S w) x.S);
            }
        go x e = rw (e, advance)

    pub next_S : (stopped k (link n k words) (suc p)).S ≡ close (ask (link n k words)) k n (more (ask (link n k words)) 1 (stopped k (link n k words) p).E (stopped k (link n k words) p).S w) (stopped k (link n k words) p).S
    next_S = ap (λ (x : Stop). x.S) next

    pub next_E : (stopped k (link n k words) (suc p)).E ≡ more (ask (link n k words)) 1 (stopped k (link n k words) p).E (stopped k (link n k words) p).S w
    next_E = ap (λ (x : Stop). x.E) next

    pub next_past : (stopped k (link n k words) (suc p)).past ≡ suc (stopped k (link n k words) p).past
    next_past = ap (λ (x : Stop). x.past) next

  -- none is left: more rounds change nothing
  pub turn_stays : (p r : ℕ) → (stopped k (link n k words) p).left ≡ none → stopped k (link n k words) (p + r) ≡ stopped k (link n k words) p
  unfolding advance
  turn_stays p zero e = let z : p + 0 ≡ p = omega arith in ap (stopped k (link n k words)) z
  turn_stays p (suc r) e =
      let z : p + suc r ≡ suc (p + r) = omega arith in
      ap (stopped k (link n k words)) z ∙ stop_more k (link n k words) (p + r)
      ∙ ap (advance (ask (link n k words)) k 1 (link n k words).states (counterexample k (link n k words))) (turn_stays p r e) ∙ go (stopped k (link n k words) p) e
    where
      go : (x : Stop) → x.left ≡ none → advance (ask (link n k words)) k 1 (link n k words).states (counterexample k (link n k words)) x ≡ x
      go x q = rw (q, advance) (ap (λ (o : paper.Option Word). record { S = x.S; E = x.E; past = x.past; left = o }) q)

  -- the conjecture and the counterexample of a table that is the stop's
  pub turn_made : {p : ℕ} {S E : List Word} {table model found : List ℕ} {left : Option ℕ} (area : List ℕ) → Reached n k words p S E table → Modelled n k words S E model
      → left ≡ found_length (counterexample k (link n k words) E S) → found ≡ found_put (counterexample k (link n k words) E S) area → 96 ≤ length area
      → Turn n k words p S E table model found left
  turn_made {p} {S} {E} {table} {model} {found} {left} area R K l f room =
      let asked = turn_asked p E S R.S-is R.E-is in
      record {
        reached = R;
        modelled = K;
        left_is = l ∙ ap found_length asked;
        found_is = λ w e. found_there (stopped k (link n k words) p).left found area (f ∙ ap (λ (o : paper.Option Word). found_put o area) asked) w e
            (let b = (bounds_of p).word_left_short w e in omega arith);
      }

  -- the table is that of the stop
  pub reached_first : {S E : List Word} {table : List ℕ} → Held n k words S E table → E ≡ one_letter k → S ≡ close (ask (link n k words)) k n (one_letter k) ([] ∷ []) → Reached n k words 0 S E table
  reached_first H E S = record { held = H; S-is = S ∙ sym first_S; E-is = E ∙ sym first_E; past = first_past }

-- a counterexample that is left
pub record Left (n k : ℕ) (words : List ℕ) (p : ℕ) (found : List ℕ) (left : ℕ) : Type 0 where
  pub some' : (stopped k (link n k words) p).left ≡ some (take left found)
  pub long : length (take left found) ≡ left

module _ {n k : ℕ} {words : List ℕ} (sound : Sound n k words) {p : ℕ} {S E : List Word} {table model found : List ℕ} where
  pub turn_none : Turn n k words p S E table model found None → (stopped k (link n k words) p).left ≡ none
  turn_none T = go (stopped k (link n k words) p).left T.left_is
    where
      go : (o : paper.Option Word) → None ≡ found_length o → o ≡ none
      go none q = refl
      go (some w) q = cc

  module _ (left : ℕ) (T : Turn n k words p S E table model found (Some left)) where
    pub turn_left : Left n k words p found left
    turn_left = go (stopped k (link n k words) p).left refl
      where
        go : (o : paper.Option Word) → (stopped k (link n k words) p).left ≡ o → Left n k words p found left
        go none q = let z : Some left ≡ None = T.left_is ∙ ap found_length q in cc
        go (some w) q =
            let z : Some left ≡ Some (length w) = T.left_is ∙ ap found_length q in
            let l : left ≡ length w = cc in
            let f : take left found ≡ w = ap (λ (i : ℕ). take i found) l ∙ T.found_is w q in
            record { some' = q ∙ ap {B = paper.Option Word} some (sym f); long = ap length f ∙ sym l }

    st : Stage (ask (link n k words)) k 1 k (stopped k (link n k words) p).past (stopped k (link n k words) p).E (stopped k (link n k words) p).S
    st = (stage_of sound p).stage

    -- there is room for one column more
    pub turn_room : length E < 59
    unfolding lent
    turn_room =
        let b = bounds_of sound p in
        let o = b.open_words (take left found) turn_left.some' in
        states o b.rounds b.columns
      where
        states : length (stopped k (link n k words) p).S < (link n k words).states → (stopped k (link n k words) p).past < length (stopped k (link n k words) p).S
            → length (stopped k (link n k words) p).E ≡ k + (stopped k (link n k words) p).past → length E < 59
        states o r c = omega (arith, ap length T.reached.E-is, sound.n_high, sound.k_high)

    pub turn_ready : (lent' : Lent) → lent'.words.now ≡ model → lent'.n ≡ length S → lent'.k ≡ k → Ready n k words S E lent' (take left found)
    unfolding conjecture
    turn_ready lent' w s o =
        let r = right k (link n k words) sound.k_low (steps_complete (sound_steps sound)) (stopped k (link n k words) p).past (stopped k (link n k words) p).E (stopped k (link n k words) p).S
        (take left found) st (sym (stage_of sound p).asked ∙ turn_left.some') in
        record {
          told = rw (T.reached.S-is, T.reached.E-is) st.told;
          shut = rw (T.reached.S-is, T.reached.E-is) st.shut;
          head = rw T.reached.S-is st.head;
          cols = rw T.reached.E-is st.columns;
          states = s;
          over = o;
          moves = λ j a hj ha. rw (s, o, w) (T.modelled.same.next j a hj ha);
          letters = below_letters k (take left found) r.0;
          short = (bounds_of sound p).word_left_short (take left found) turn_left.some';
          differ = rw (T.reached.S-is, T.reached.E-is) r.1;
        }

    -- after the round: the table is that of the next stop
    pub turn_on : {S' E' : List Word} {table' : List ℕ} → Held n k words S' E' table' → E' ≡ more (ask (link n k words)) 1 E S (take left found)
        → S' ≡ close (ask (link n k words)) k n E' S → Reached n k words (p + 1) S' E' table'
    turn_on {S'} {E'} {table'} H cols closed = record {
      held = H;
      S-is = closed ∙ ap₂ (close (ask (link n k words)) k n) cols_are T.reached.S-is ∙ sym (next_S sound p (take left found) turn_left.some') ∙ ap (λ (i : ℕ). (stopped k (link n k words) i).S) one;
      E-is = cols_are ∙ sym (next_E sound p (take left found) turn_left.some') ∙ ap (λ (i : ℕ). (stopped k (link n k words) i).E) one;
      past = ap (λ (i : ℕ). (stopped k (link n k words) i).past) (sym one) ∙ next_past sound p (take left found) turn_left.some' ∙ ap suc T.reached.past ∙ one;
    }
      where
        one : suc p ≡ p + 1
        one = omega arith

        cols_are : E' ≡ more (ask (link n k words)) 1 (stopped k (link n k words) p).E (stopped k (link n k words) p).S (take left found)
        cols_are = cols ∙ ap₂ (λ (X Y : List Word). more (ask (link n k words)) 1 X Y (take left found)) T.reached.E-is T.reached.S-is
