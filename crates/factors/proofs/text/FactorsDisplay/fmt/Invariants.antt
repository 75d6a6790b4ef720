use Rattle.std.proofs.Common.{◌≡◌, ℕ, List, ◌++◌, length, take}
use Rattle.std.specs.Fmt.{HasWritten, IsPlainFormatter}
use Rattle.orders.specs.Factors.{pairs_in}
use Rattle.factors.specs.Account.{factor_list}
use Rattle.factors.proofs.Texts.{Flag}
use Rattle.factors.proofs.text.FactorsDisplay.fmt.Given as goal

-- what is written, and the factors that are left, are all of them
abbrev pub invariant-loop-j : goal.invariant-loop-j
invariant-loop-j g l =
    (bs : List ℕ)
    × (l.j-iterator.iter.iter.rest.now ≡ take (length l.j-iterator.iter.iter.rest.now) l.self.row)
    × (IsPlainFormatter l.initial.f → HasWritten g.W.Write.write_str_gives l.initial.f bs l.f)
    × (bs ++ factor_list (pairs_in l.self.row (length l.j-iterator.iter.iter.rest.now)) ≡ factor_list (pairs_in l.self.row 16))
    × Flag l.none bs
    × (l.j-iterator.iter.count ≡ 0)
