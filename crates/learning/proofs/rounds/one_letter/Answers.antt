use Rattle.std.proofs.Common.{◌≡◌, ◌++◌, ◌∷◌, [], List, length, ap, ◌∙◌, rules, arith}
use Rattle.rules.specs.Words.{Word}
use Rattle.rules.specs.Table.{one_letter, from}
use Rattle.rules.proofs.Links.{one_letter_length}
use Rattle.learning.specs.Start.{one_letter_more}
use Rattle.learning.proofs.rounds.one_letter.Goals as goal

pub loop-a-init : goal.loop-a-init
unfolding one_letter from
loop-a-init c = c.requires.0

pub push-requires : goal.push-requires
push-requires c =
    let l = c.loop-a in
    let size : length l.columns ≡ l.a = ap length l.invariant ∙ one_letter_length l.a in
    search (rules, arith)

pub loop-a-preserved : goal.loop-a-preserved
loop-a-preserved c =
    let l = c.loop-a in
    c.push.ensures ∙ ap (λ (E : List Word). E ++ ((l.a ∷ []) ∷ [])) l.invariant ∙ one_letter_more l.a
