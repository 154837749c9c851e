-- What the learner leaves where the rounds stop, made of what the desk holds there.
use Rattle.std.specs.Prelude.{◌≡◌, refl, Option, Some, None, List, ◌++◌, ℕ, ◌+◌, ◌*◌, ◌-◌, ◌≤◌, ◌<◌, length, take, drop}
use Rattle.std.proofs.Common.{length-append, get_or-append-add, sym, ap, ◌∙◌, subst, arith, length-drop, ext_get_or, get_or-drop}
use Rattle.std.proofs.Math.Path.{ap₂}
use Rattle.std.proofs.Math.ListN.{get_or, get_or-append}
use Rattle.rules.specs.Words.{Word}
use Rattle.rules.specs.Areas.{over, zeros, put, put_start}
use Rattle.rules.specs.Answer.{Answer, refused, gives}
use Rattle.rules.specs.Machine.{Machine, Complete, ask}
use Rattle.rules.specs.Table.{conjecture}
use Rattle.rules.specs.FromLaws.{map_from_length}
use Rattle.rules.specs.Rounds.{Stop, cell_count}
use Rattle.rules.specs.Links.{stopped}
use Rattle.rules.specs.Sheets.{Proof, proof_bytes, word_bytes, CX}
use Rattle.rules.specs.Records.{word_length}
use Rattle.rules.specs.Same.{Same}
use Rattle.machine.specs.Lent.{link, Sound}
use Rattle.machine.specs.LentLaws.{sound_steps, steps_complete}
use Rattle.learning.specs.Learner as learner
use Rattle.learning.specs.Learner.{Counts, Learnt, done, unfinished, finished, table_bytes, table_byte, counts, stop_leaves, learn_check, learn_leaves, learn}
use Rattle.learning.specs.Outcomes.{Outcome, over_limit, is_done, is_open}
use Rattle.learning.proofs.Outcomes as outcomes
use Rattle.learning.proofs.LearnLaws.{leaves_ten, leaves_done, leaves_open, table_is, zeros_over, zeroed_beyond}
use Rattle.learning.specs.Grid.{Holds, Beyond, beyond_same, beyond_then}
use Rattle.finish.specs.Sheet.{numbered_sheet}
use Rattle.finish.proofs.Sheet.{sheet_same}
use Rattle.learning.specs.Laid.{Laid, laid_room}
use Rattle.learning.specs.Desk.{Held}
use Rattle.learning.specs.Turns.{Turn, Left, turn_none, turn_left, bounds_of}
use Rattle.learning.specs.Leaving.{left_by, counted}

-- equal parts
parts : {a b : Answer Learnt} {t t' s s' : List ℕ} → a ≡ b → t ≡ t' → s ≡ s' → left_by a t s ≡ left_by b t' s'
parts {a} {b} {t} {t'} {s} {s'} e f g = ap₂ (λ (x : Answer Learnt) (y : List ℕ). left_by x y s) e f ∙ ap (left_by b t') g

-- the sheet is the learner's where the lent words are the conjecture
finished_is : (k : ℕ) (M C : Machine) (x : Stop) (E S : List Word) → 0 < k → Complete k M → Complete k C → x.E ≡ E → x.S ≡ S → Same k (conjecture (ask M) E S) C
    → numbered_sheet k M C E ≡ finished k M x
unfolding finished
finished_is k M C x E S pos wholeM whole columns words A =
    sheet_same k M C (conjecture (ask M) E S) E pos wholeM whole A
    ∙ ap₂ (λ (E' S' : List Word). numbered_sheet k M (conjecture (ask M) E' S') E') (sym columns) (sym words)

-- ---- at the door
pub learn_refuses : (n k : ℕ) (words : List ℕ) (L R : ℕ) (table sheet : List ℕ) (x : ℕ) → learn_check n k words L R table sheet ≡ refused x → left_by (refused x) table sheet ≡ learn n k words L R table sheet
unfolding learn learn_leaves
learn_refuses n k words L R table sheet x e = sym (ap (λ (a : Answer (Unit {0})). learn_leaves a n k words L R table sheet) e)

-- ---- from the desk
module _ {n k : ℕ} {words : List ℕ} (sound : Sound n k words) {p : ℕ} {S E : List Word} (narrow : length E ≤ 59) {table model found : List ℕ} {left : Option ℕ}
    (T : Turn n k words p S E table model found left) (L : ℕ) (sheet : List ℕ) where
  size : length (stopped k (link n k words) p).S ≡ length S
  size = ap length (sym T.reached.S-is)

  wide : length (stopped k (link n k words) p).E ≡ length E
  wide = ap length (sym T.reached.E-is)

  -- the table area holds the table's bytes
  table_left : table ≡ over (table_bytes k (link n k words) (stopped k (link n k words) p)) table
  table_left = table_is k (link n k words) (stopped k (link n k words) p) table table holds (omega (arith, wide)) T.reached.held.large (beyond_same 34043 table)
    where
      holds : Holds 59 34043 (ask (link n k words)) k (stopped k (link n k words) p).E (stopped k (link n k words) p).S table
      holds = subst (λ (X : List Word). Holds 59 34043 (ask (link n k words)) k (stopped k (link n k words) p).E X table) T.reached.S-is
          (subst (λ (X : List Word). Holds 59 34043 (ask (link n k words)) k X S table) T.reached.E-is T.reached.held.holds)

  -- the counts
  counts_are : (bytes : List ℕ) (b : ℕ) → b ≡ length bytes → counted (length S) p ((1 + length S * k) * length E) b ≡ counts k (stopped k (link n k words) p) bytes
  unfolding counts cell_count
  counts_are bytes b e =
      ap₂ (λ (i j : ℕ). counted i j ((1 + length S * k) * length E) b) (sym size) (sym T.reached.past)
      ∙ ap₂ (λ (i j : ℕ). counted (length (stopped k (link n k words) p).S) (stopped k (link n k words) p).past i j)
      (ap₂ (λ (i j : ℕ). (1 + i * k) * j) (sym size) (sym wide)) e

  pub leave_ten : L < length S → left_by (refused 10) (over (zeros 34043) table) sheet ≡ stop_leaves k (link n k words) L (stopped k (link n k words) p) table sheet
  leave_ten h = sym (leaves_ten k (link n k words) L (stopped k (link n k words) p) table sheet (omega (arith, size)))

  pub leave_done : length S ≤ L → left ≡ None → (b : ℕ) (sheet' : List ℕ) → b ≡ length (proof_bytes (numbered_sheet k (link n k words) (link (length S) k model) E))
      → sheet' ≡ put 0 (proof_bytes (numbered_sheet k (link n k words) (link (length S) k model) E)) sheet
      → left_by (gives (done (counted (length S) p ((1 + length S * k) * length E) b))) table sheet' ≡ stop_leaves k (link n k words) L (stopped k (link n k words) p) table sheet
  leave_done h none b sheet' is written =
      let f = finished_is k (link n k words) (link (length S) k model) (stopped k (link n k words) p) E S sound.k_low
      (steps_complete (sound_steps sound)) (steps_complete T.modelled.steps) (sym T.reached.E-is) (sym T.reached.S-is) T.modelled.same in
      let e : b ≡ length (proof_bytes (finished k (link n k words) (stopped k (link n k words) p))) = is ∙ ap (λ (P : Proof). length (proof_bytes P)) f in
      let w : sheet' ≡ over (proof_bytes (finished k (link n k words) (stopped k (link n k words) p))) sheet =
      written ∙ ap (λ (P : Proof). put 0 (proof_bytes P) sheet) f ∙ put_start (proof_bytes (finished k (link n k words) (stopped k (link n k words) p))) sheet in
      parts (ap (λ (c : Counts). gives (done c)) (counts_are (proof_bytes (finished k (link n k words) (stopped k (link n k words) p))) b e)) table_left w
      ∙ sym (leaves_done k (link n k words) L (stopped k (link n k words) p) table sheet (omega (arith, size)) (turn_none sound (rw none at T)))

  module _ (length' : ℕ) (some : left ≡ Some length') where
    O : Left n k words p found length'
    O = turn_left sound length' (rw some at T)

    pub leave_long : length (take length' found) ≡ length'
    leave_long = O.long

    pub leave_short : length' ≤ 94
    leave_short = omega (arith, O.long, (bounds_of sound p).word_left_short (take length' found) O.some')

    pub leave_open : length S ≤ L → (b : ℕ) (sheet' : List ℕ) → b ≡ 3 + length' → sheet' ≡ over (word_bytes CX (take length' found)) sheet
        → left_by (gives (unfinished (counted (length S) p ((1 + length S * k) * length E) b))) table sheet' ≡ stop_leaves k (link n k words) L (stopped k (link n k words) p) table sheet
    leave_open h b sheet' is put =
        let e : b ≡ length (word_bytes CX (take length' found)) = is ∙ sym (word_length CX refl (take length' found) ∙ ap (λ (i : ℕ). 3 + i) O.long) in
        parts (ap (λ (c : Counts). gives (unfinished c)) (counts_are (word_bytes CX (take length' found)) b e)) table_left put
        ∙ sym (leaves_open k (link n k words) L (stopped k (link n k words) p) table sheet (take length' found) (omega (arith, size)) O.some')

-- ---- the table's part of the area, which the rounds have
-- what the part holds the whole area holds
pub turn_whole : {n k : ℕ} {words : List ℕ} {S : List Word} {rows : List ℕ} {E : List Word} → Laid n k words S rows E → {p : ℕ} {part model found : List ℕ} {left : Option ℕ} (rest : List ℕ)
    → length part ≡ 34043 → Turn n k words p S E part model found left → Turn n k words p S E (part ++ rest) model found left
turn_whole {n} {k} {words} {S} {rows} {E} L {p} {part} rest size T =
    record { reached = record { held = held; S-is = T.reached.S-is; E-is = T.reached.E-is; past = T.reached.past }; modelled = T.modelled; left_is = T.left_is; found_is = T.found_is }
  where
    H : Held n k words S E part
    H = T.reached.held

    held : Held n k words S E (part ++ rest)
    held = record {
      some = H.some;
      ones = H.ones;
      all = H.all;
      large = omega (arith, length-append part rest);
      holds = record {
        cell = λ r c hr hc. get_or-append part rest 0 (r * 59 + c) (omega (arith, laid_room L r hr, L.narrow)) ∙ H.holds.cell r c hr hc;
        blank = λ r c hc o low. get_or-append part rest 0 (r * 59 + c) (omega arith) ∙ H.holds.blank r c hc o low;
      };
    }

-- and its rest stays
pub beyond_part : (part old : List ℕ) → length part ≡ 34043 → 34043 ≤ length old → Beyond 34043 old (part ++ drop 34043 old)
beyond_part part old size room = record { long = simp (length-append, length-drop) (omega arith); rest = rest }
  where
    rest : (i : ℕ) → 34043 ≤ i → get_or (part ++ drop 34043 old) i 0 ≡ get_or old i 0
    rest i h =
        let e : length part + (i - 34043) ≡ i = omega arith in
        let f : 34043 + (i - 34043) ≡ i = omega arith in
        ap (λ (j : ℕ). get_or (part ++ drop 34043 old) j 0) (sym e) ∙ get_or-append-add part (drop 34043 old) (i - 34043) 0 ∙ get_or-drop 34043 old (i - 34043) 0
        ∙ ap (λ (j : ℕ). get_or old j 0) f

-- ---- the area that the rounds began with
-- bytes over an area whose rest stayed
over_beyond : (bytes old new : List ℕ) → Beyond (length bytes) old new → over bytes new ≡ over bytes old
unfolding over
over_beyond bytes old new B = ap (λ (l : List ℕ). bytes ++ l) (ext_get_or 0 (drop (length bytes) new) (drop (length bytes) old)
    (length-drop (length bytes) new ∙ ap (λ (i : ℕ). i - length bytes) B.long ∙ sym (length-drop (length bytes) old))
    (λ i h. get_or-drop (length bytes) new i 0 ∙ B.rest (length bytes + i) (omega arith) ∙ sym (get_or-drop (length bytes) old i 0)))

pub leaves_beyond : (k : ℕ) (M : Machine) (L : ℕ) (x : Stop) (old new sheet : List ℕ) → 34043 ≤ length old → Beyond 34043 old new → stop_leaves k M L x new sheet ≡ stop_leaves k M L x old sheet
unfolding table_bytes
leaves_beyond k M L x old new sheet room B = go (outcomes.outcome k M L x new sheet)
  where
    same : over (table_bytes k M x) new ≡ over (table_bytes k M x) old
    same = over_beyond (table_bytes k M x) old new (subst (λ (i : ℕ). Beyond i old new) (sym (map_from_length (table_byte k M x) 0 34043)) B)

    go : Outcome k M L x new sheet (stop_leaves k M L x new sheet) → stop_leaves k M L x new sheet ≡ stop_leaves k M L x old sheet
    go (over_limit h e) = e ∙ ap (λ (t : List ℕ). left_by (refused 10) t sheet) (zeros_over 34043 old new room B) ∙ sym (leaves_ten k M L x old sheet h)
    go (is_done h q e) = e ∙ parts refl same refl ∙ sym (leaves_done k M L x old sheet h q)
    go (is_open w h q e) = e ∙ parts refl same refl ∙ sym (leaves_open k M L x old sheet w h q)

-- the whole way: taken, all zero, the rounds, and what they leave
pub learn_left : (n k : ℕ) (words : List ℕ) (L R p : ℕ) (table first last sheet : List ℕ) {l : learner.Left} → learn_check n k words L R table sheet ≡ gives tt
    → first ≡ over (zeros 34043) table → Beyond 34043 first last → stopped k (link n k words) R ≡ stopped k (link n k words) p
    → l ≡ stop_leaves k (link n k words) L (stopped k (link n k words) p) last sheet → l ≡ learn n k words L R table sheet
learn_left n k words L R p table first last sheet ok blank B stop leaves =
    let room = (outcomes.taken n k words L R table sheet ok).table_long in
    let B' = beyond_then (subst (λ (t : List ℕ). Beyond 34043 table t) (sym blank) (zeroed_beyond 34043 table room)) B in
    leaves ∙ ap (λ (x : Stop). stop_leaves k (link n k words) L x last sheet) (sym stop) ∙ leaves_beyond k (link n k words) L (stopped k (link n k words) R) table last sheet room B'
    ∙ sym (outcomes.learn_leaves_stop n k words L R table sheet ok)
