use Rattle.std.proofs.Common.{sym, refl, true≢false, rules}
use Rattle.lines.proofs.Fronts.{Front, reads_back, refuses}
use Rattle.lines.proofs.reads.number.Goals as goal
use Rattle.lines.proofs.reads.number.Goals.{After-split_at}

-- what the two calls say of the text
cut : (c : After-split_at) → Front c.args.text.now c.split_at.result.0.now c.split_at.result.1.now
cut c = record {
  joined = c.split_at.ensures.by_index.0;
  digits = search rules;
  stops = search rules;
}

pub returns-then-not-is_plain : goal.returns-then-not-is_plain
returns-then-not-is_plain c =
    refuses (cut (goal.at.returns-then-not-is_plain c).After-split_at) (λ p. true≢false (sym (c.if-not-is_plain.ensures.1 p)))

pub returns : goal.returns
returns c = simp c.value_of.ensures (reads_back (cut (goal.at.returns c).After-split_at) (c.if-not-is_plain.ensures.0 refl))
