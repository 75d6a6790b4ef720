use Rattle.std.proofs.Common.{◌%◌, ap, ◌∙◌, rules}
use Rattle.hashing.specs.Stirring.{stirred}
use Rattle.tables.specs.Hashing.{bucket}
use Rattle.tables.proofs.table.buckets.bucket.Goals as goal

pub returns : goal.returns
unfolding bucket
returns c = record {
  is = ap (λ h. h % 4096) (rw (c.from.ensures, c.from-2.ensures, c.from-3.ensures, c.from-4.ensures) at (c.stir-mixed.ensures ∙ ap (λ h. stirred 29 h c.from-4.result) c.stir.ensures));
  below = search rules;
}
