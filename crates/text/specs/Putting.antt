-- Text put into an area piece by piece: from a place on, with the place where it ends.
use Rattle.std.specs.Prelude.{◌≡◌, List, [], ◌++◌, ℕ, ◌+◌, ◌≤◌, length}
use Rattle.std.proofs.Common.{sym, ap, ap₂, ◌∙◌, arith, length-append}
use Rattle.rules.specs.Areas.{put, put_none, put_length, put_put}

-- the bytes are put into the old area from a place on, which gives the new one; they end at another place
pub record Put (at : ℕ) (bytes old : List ℕ) (end : ℕ) (new : List ℕ) : Type 0 where
  pub ends : end ≡ at + length bytes
  pub is : new ≡ put at bytes old

pub put_nothing : (at : ℕ) (area : List ℕ) → Put at [] area at area
put_nothing at area = record { ends = omega arith; is = sym (put_none at area) }

-- it fixes the place and the new area: two that meet it are equal
pub put_fixed : {at end end' : ℕ} {bytes old new new' : List ℕ} → Put at bytes old end new → Put at bytes old end' new' → (end ≡ end') × (new ≡ new')
put_fixed p q = (p.ends ∙ sym q.ends, p.is ∙ sym q.is)

-- the area keeps its length
pub put_same : {at end : ℕ} {bytes old new : List ℕ} → at + length bytes ≤ length old → Put at bytes old end new → length new ≡ length old
put_same {at = at} {bytes = bytes} {old = old} h p = ap length p.is ∙ put_length at bytes old h

-- one piece after the other
pub put_then : {at mid end : ℕ} {x y old new last : List ℕ} → at + (length x + length y) ≤ length old → Put at x old mid new → Put mid y new end last
    → Put at (x ++ y) old end last
put_then {at = at} {x = x} {y = y} {old = old} h p q =
    record {
      ends = omega (arith, p.ends, q.ends, length-append x y);
      is = q.is ∙ ap₂ (λ (i : ℕ) (area : List ℕ). put i y area) p.ends p.is ∙ put_put at x y old h;
    }
