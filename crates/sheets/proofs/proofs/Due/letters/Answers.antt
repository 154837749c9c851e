use Rattle.std.proofs.Common.{rules, ◌≡◌, sym, ◌∙◌}
use Rattle.std.specs.Prelude.{true, false}
use Rattle.rules.specs.Answer.{within}
use Rattle.sheets.specs.Rests.{from_on, letters_out, letters_lack, letters_are}
use Rattle.sheets.proofs.proofs.Due.letters.Goals as goal

pub returns-then-not-within : goal.returns-then-not-within
returns-then-not-within c = let s = c.args.self.now in sym (letters_out s.low s.high s.k c.args.size _ (search rules))

pub returns-then-bytes-size : goal.returns-then-bytes-size
returns-then-bytes-size c =
    let s = c.args.self.now in
    let w : within s.low s.high c.args.size ≡ true = search rules in
    sym (letters_lack s.low s.high s.k c.args.size _ w c.if-bytes-size.true)

pub returns-then-letters_below : goal.returns-then-letters_below
returns-then-letters_below c =
    let s = c.args.self.now in
    let w : within s.low s.high c.args.size ≡ true = search rules in
    rw (from_on c.args.size c.args.bytes.now)
    (sym (letters_are s.low s.high s.k c.args.size _ w true c.if-bytes-size.false (sym c.letters_below.ensures ∙ c.if-letters_below.true)))

pub returns-else-letters_below : goal.returns-else-letters_below
returns-else-letters_below c =
    let s = c.args.self.now in
    let w : within s.low s.high c.args.size ≡ true = search rules in
    sym (letters_are s.low s.high s.k c.args.size _ w false c.if-bytes-size.false (sym c.letters_below.ensures ∙ c.if-letters_below.false))
