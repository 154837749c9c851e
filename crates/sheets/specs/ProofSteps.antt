-- A proof sheet step by step, as the code goes through it: header, state map, body.
use Rattle.std.specs.Prelude.{◌≡◌, Bool, true, false, ◌&&◌, ℕ, ◌≤◌, ◌<◌, get_or, take, leb}
use Rattle.std.proofs.Math.Path.{refl, ap}
use Rattle.std.proofs.Common.{sym, ap₂, ◌∙◌, subst, take-append-drop, length-take-le}
use mathlib.Core.List.{List, [], ◌∷◌, ◌++◌}
use native.Mathlib.Omega.{arith}
use Rattle.std.proofs.Math.ListN.{length, drop, length-drop}
use borrow.Author.Tests.{le-leb, lt-leb}
use Rattle.rules.specs.Tests.{leb_yes, and_split}
use Rattle.rules.specs.Words.{Word}
use Rattle.rules.specs.Answer.{refused, gives, within}
use Rattle.rules.specs.Sheets.{PH, AW, CW, SM, Proof}
use Rattle.std.specs.List.{list_all}
use Rattle.machine.specs.LentLaws.{within_both}
use Rattle.sheets.specs.Reading.{Parsed, bad, good, pure, and_then, ◌>>◌, demand, at_end, mark, rows}
use Rattle.sheets.specs.Proofs.{word_records, map_byte, proof_sheet, Counts, counts_of, read_proof}
use Rattle.sheets.specs.Steps.{outcome, came_good, came_bad, bad_good, then_good, demanded, two, mark_were, mark_took}
use Rattle.sheets.specs.ProofParts.{counts, in_range, header, map_record, body, given, sheet_parts}
use Rattle.sheets.specs.WordSteps.{given_good}

-- ---- the header
-- the numbers, as they stand
abbrev pub counts_at : List ℕ → Counts
counts_at bytes = counts (get_or bytes 2 0) (get_or bytes 3 0) (get_or bytes 4 0) (get_or bytes 5 0)

pub record InRange (h : Counts) : Type 0 where
  pub m_low : 1 ≤ h.m
  pub m_high : h.m ≤ 48
  pub k_low : 1 ≤ h.k
  pub k_high : h.k ≤ 12
  pub n_low : 1 ≤ h.n
  pub n_high : h.n ≤ 48
  pub c_high : h.c ≤ 59

pub in_range_says : (h : Counts) → in_range h ≡ true → InRange h
unfolding in_range
in_range_says h e =
    let a = and_split (within 1 48 h.m) _ e in
    let b = and_split (within 1 12 h.k) _ a.1 in
    let d = and_split (within 1 48 h.n) _ b.1 in
    let m = within_both 1 48 h.m a.0 in
    let k = within_both 1 12 h.k b.0 in
    let n = within_both 1 48 h.n d.0 in
    record { m_low = m.0; m_high = m.1; k_low = k.0; k_high = k.1; n_low = n.0; n_high = n.1; c_high = leb_yes h.c 59 d.1 }

-- demands of one number are one demand
four : (a b c d : Bool) (h : Counts) (rest : List ℕ)
    → and_then (demand a 3 rest) (λ u. ◌>>◌ (demand b 3) (◌>>◌ (demand c 3) (◌>>◌ (demand d 3) (pure h)))) ≡ and_then (demand (a && (b && (c && d))) 3 rest) (λ u. pure h)
four false b c d h rest = refl
four true false c d h rest = refl
four true true false d h rest = refl
four true true true d h rest = refl

pub header_refused : (bytes : List ℕ) (x : ℕ) → outcome (mark PH bytes) ≡ refused x → outcome (header bytes) ≡ refused x
unfolding header
header_refused bytes x e = rw (came_bad (mark PH bytes) x e)

module _ (bytes : List ℕ) (marked : outcome (mark PH bytes) ≡ gives tt) where
  pub header_short : length bytes < 6 → outcome (header bytes) ≡ refused 1
  unfolding header
  header_short h =
      let t = mark_took bytes 0 (omega arith) PH marked in
      let l : length (drop 2 bytes) < 4 = simp length-drop (omega (arith, t.within)) in
      rw (t.is, lt-leb 4 (length (drop 2 bytes)) l)

  pub header_opens : 6 ≤ length bytes → header bytes ≡ and_then (demand (in_range (counts_at bytes)) 3 (drop 6 bytes)) (λ u. pure (counts_at bytes))
  unfolding header in_range
  header_opens h =
      let l : 4 ≤ length (drop 2 bytes) = simp length-drop (omega arith) in
      rw ((mark_took bytes 0 (omega arith) PH marked).is, le-leb 4 (length (drop 2 bytes)) l, two bytes 2 (omega arith), two bytes 4 (omega arith))
      (four (within 1 48 (get_or bytes 2 0)) (within 1 12 (get_or bytes 3 0)) (within 1 48 (get_or bytes 4 0)) (leb (get_or bytes 5 0) 59) (counts_at bytes) (drop 6 bytes))

  pub header_judged : (t : Bool) → 6 ≤ length bytes → in_range (counts_at bytes) ≡ t → outcome (header bytes) ≡ elim t [ false ↦ refused 3 | true ↦ gives tt ]
  header_judged true h e = ap outcome (header_opens h) ∙ rw e refl
  header_judged false h e = ap outcome (header_opens h) ∙ rw e refl

  pub header_gives : 6 ≤ length bytes → in_range (counts_at bytes) ≡ true → given (header bytes) ≡ gives (counts_at bytes)
  header_gives h e = ap given (header_opens h) ∙ rw e refl

-- a header that came out good has six bytes, and its numbers are in range
pub record Headed (bytes : List ℕ) : Type 0 where
  pub within : 6 ≤ length bytes
  pub is : header bytes ≡ good (counts_at bytes) (drop 6 bytes)
  pub spelt : bytes ≡ PH ++ (get_or bytes 2 0 ∷ get_or bytes 3 0 ∷ get_or bytes 4 0 ∷ get_or bytes 5 0 ∷ drop 6 bytes)
  pub ranges : InRange (counts_at bytes)

pub headed : (bytes : List ℕ) (g : Counts) (rest : List ℕ) → header bytes ≡ good g rest → Headed bytes
unfolding header
headed bytes g rest e =
    let a = then_good (mark PH bytes) _ g rest e in
    let m = mark_were PH bytes a.0 a.1 a.2 in
    let b = demanded (leb 4 (length a.1)) 1 a.1 _ g rest a.3 in
    let l : 6 ≤ length bytes = omega (arith, leb_yes 4 (length a.1) b.0, ap length m.1 ∙ length-drop 2 bytes) in
    let o = header_opens bytes (ap outcome a.2) l in
    let r = demanded (in_range (counts_at bytes)) 3 (drop 6 bytes) _ g rest (sym o ∙ e) in
    record {
      within = l;
      is = o ∙ rw r.0 refl;
      spelt = sym (take-append-drop 2 bytes) ∙ ap₂ ◌++◌ m.2 (two bytes 2 (omega arith) ∙ ap {B = List ℕ} (λ (l : List ℕ). get_or bytes 2 0 ∷ get_or bytes 3 0 ∷ l) (two bytes 4 l));
      ranges = in_range_says (counts_at bytes) r.0;
    }

-- so has one that gives its numbers, and they are those that stand there
pub header_given : (bytes : List ℕ) (h : Counts) → given (header bytes) ≡ gives h → Headed bytes × (h ≡ counts_at bytes)
header_given bytes h e =
    let g = given_good (header bytes) h e in
    let H = headed bytes h g.0 g.1 in
    let z : ◌≡◌ {A = Parsed Counts} (good h g.0) (good (counts_at bytes) (drop 6 bytes)) = sym g.1 ∙ H.is in
    (H, cc)

-- ---- the state map
pub map_were : (m n : ℕ) (bytes states rest : List ℕ) → map_record m n bytes ≡ good states rest → (bytes ≡ SM ++ (states ++ rest)) × (length states ≡ n) × (list_all (map_byte m) states ≡ true)
unfolding map_record
map_were m n bytes states rest e =
    let a = then_good (mark SM bytes) _ states rest e in
    let t = mark_were SM bytes a.0 a.1 a.2 in
    let b = demanded (leb n (length a.1)) 1 a.1 _ states rest a.3 in
    let d = demanded (list_all (map_byte m) (take n a.1)) 4 (drop n a.1) _ states rest b.1 in
    let v : take n a.1 ≡ states = cc in
    let r : drop n a.1 ≡ rest = cc in (
      sym (take-append-drop 2 bytes) ∙ ap₂ ◌++◌ t.2 (sym t.1 ∙ sym (take-append-drop n a.1) ∙ ap₂ ◌++◌ v r),
      sym (ap length v) ∙ length-take-le n a.1 (leb_yes n (length a.1) b.0),
      subst (λ (l : List ℕ). list_all (map_byte m) l ≡ true) v d.0,
    )

-- ---- the body
-- its parts, one after the other
pub record Parts (h : Counts) (bytes : List ℕ) (P : Proof) (rest : List ℕ) : Type 0 where
  pub after_model : List ℕ
  pub after_reaching : List ℕ
  pub after_columns : List ℕ
  pub model : rows P.m P.k P.m bytes ≡ good P.model after_model
  pub reaching : word_records AW 0 47 P.k P.m after_model ≡ good P.reaching after_reaching
  pub columns : word_records CW 1 93 P.k P.c after_reaching ≡ good P.columns after_columns
  pub states : map_record P.m P.n after_columns ≡ good P.state_map []
  pub end : rest ≡ []
  pub said : counts P.m P.k P.n P.c ≡ h

-- the value of a step, and one where it has none
abbrev value_or : {A : Type 0} → A → Parsed A → A
value_or other (bad x) = other
value_or other (good a rest) = a

pub parts : (h : Counts) (bytes : List ℕ) (P : Proof) (rest : List ℕ) → body h bytes ≡ good P rest → Parts h bytes P rest
unfolding body
parts h bytes P rest e =
    let a = then_good (rows h.m h.k h.m bytes) _ P rest e in
    let b = then_good (word_records AW 0 47 h.k h.m a.1) _ P rest a.3 in
    let d = then_good (word_records CW 1 93 h.k h.c b.1) _ P rest b.3 in
    let f = then_good (map_record h.m h.n d.1) _ P rest d.3 in
    ended a.0 a.1 b.0 b.1 d.0 d.1 f.0 f.1 a.2 b.2 d.2 f.2 f.3
  where
    ended : (model r₁ : List ℕ) (reaching : List Word) (r₂ : List ℕ) (columns : List Word) (r₃ states r₄ : List ℕ)
        → rows h.m h.k h.m bytes ≡ good model r₁ → word_records AW 0 47 h.k h.m r₁ ≡ good reaching r₂ → word_records CW 1 93 h.k h.c r₂ ≡ good columns r₃
        → map_record h.m h.n r₃ ≡ good states r₄
        → and_then (at_end r₄) (λ u. pure (record { m = h.m; k = h.k; n = h.n; c = h.c; model = model; reaching = reaching; columns = columns; state_map = states })) ≡ good P rest → Parts h bytes P rest
    ended model r₁ reaching r₂ columns r₃ states [] a b d f g =
        let is = ap (value_or P) g in
        record {
          after_model = r₁;
          after_reaching = r₂;
          after_columns = r₃;
          model = subst (λ (Q : Proof). rows Q.m Q.k Q.m bytes ≡ good Q.model r₁) is a;
          reaching = subst (λ (Q : Proof). word_records AW 0 47 Q.k Q.m r₁ ≡ good Q.reaching r₂) is b;
          columns = subst (λ (Q : Proof). word_records CW 1 93 Q.k Q.c r₂ ≡ good Q.columns r₃) is d;
          states = subst (λ (Q : Proof). map_record Q.m Q.n r₃ ≡ good Q.state_map []) is f;
          end = cc;
          said = ap (λ (Q : Proof). counts Q.m Q.k Q.n Q.c) (sym is);
        }
    ended model r₁ reaching r₂ columns r₃ states (x ∷ r₄) a b d f g = absurd (bad_good g)

-- ---- the whole sheet
pub read_header : (bytes : List ℕ) (x : ℕ) → outcome (header bytes) ≡ refused x → read_proof bytes ≡ refused x
unfolding read_proof
read_header bytes x e = ap counts_of (sheet_parts bytes ∙ ap (λ (p : Parsed Counts). and_then p body) (came_bad (header bytes) x e))

module _ (bytes : List ℕ) (head : Headed bytes) where
  sheet_body_is : proof_sheet bytes ≡ body (counts_at bytes) (drop 6 bytes)
  sheet_body_is = sheet_parts bytes ∙ ap (λ (p : Parsed Counts). and_then p body) head.is

  pub read_body : (x : ℕ) → outcome (body (counts_at bytes) (drop 6 bytes)) ≡ refused x → read_proof bytes ≡ refused x
  unfolding read_proof
  read_body x e = ap counts_of (sheet_body_is ∙ came_bad (body (counts_at bytes) (drop 6 bytes)) x e)

  pub read_counts : outcome (body (counts_at bytes) (drop 6 bytes)) ≡ gives tt → read_proof bytes ≡ gives (counts_at bytes)
  unfolding read_proof
  read_counts e =
      let g = came_good (body (counts_at bytes) (drop 6 bytes)) e in
      ap counts_of sheet_body_is ∙ ap counts_of g.2 ∙ ap gives (parts (counts_at bytes) (drop 6 bytes) g.0 g.1 g.2).said
