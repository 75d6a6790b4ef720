use Rattle.std.proofs.Common.{refl}
use Rattle.orders.specs.Factors as factors
use Rattle.orders.proofs.laws.factoring_stands.Goals as goal

pub returns : goal.returns
returns c = record {
  nothing_remains = factors.nothing_remains;
  within = factors.factor_within;
  whole = λ g laws a. factors.factors-product g laws a (factors.factor_at g a) (λ x l h. refl);
  tell = factors.factors_tell;
}
