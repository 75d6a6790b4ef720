-- The rules for nodes, test by test. Assumes nothing.
use Rattle.std.proofs.Common.{◌≡◌, ℕ, ◌<◌, ◌≤◌, true, false, ◌&&◌, ltb, List, sym, ap, ◌∙◌, arith}
use Rattle.std.proofs.lemmas.Bool.Decides.{nat_tests}
use Rattle.diagrams.specs.declared.Node.{Node}
use Rattle.diagrams.specs.Level.{level}
use Rattle.diagrams.specs.Table.{Exists, x_of, level_of}
use Rattle.diagrams.specs.Rules.{Asks}
use Rattle.tables.specs.Rules.{stands}

module _ (N : List Node) (pieces x y lo hi : ℕ) where
  -- the tests of the code, one after the other
  module _ (most : x ≤ 16) (few : x ≤ pieces) (least : 1 ≤ y) (below : y < x) (low : Exists N lo) (high : Exists N hi) (some : 1 ≤ hi) where
    placed : stands N pieces x y lo hi ≡ ltb (level_of N lo) (level x y) && ltb (x_of N hi) x
    unfolding stands
    placed = grind (arith, nat_tests)

    pub stands_lower : (l m h : ℕ) → l ≡ level_of N lo → m ≡ level x y → h ≡ x_of N hi → l < m → ltb h x ≡ stands N pieces x y lo hi
    stands_lower l m h e f d less =
        let t : ltb (level_of N lo) (level x y) ≡ true = grind (arith, nat_tests) in
        sym (placed ∙ ap (λ b. b && ltb (x_of N hi) x) t ∙ ap (λ n. ltb n x) (sym d))

    pub stands_not : (l m : ℕ) → l ≡ level_of N lo → m ≡ level x y → m ≤ l → ltb l m ≡ stands N pieces x y lo hi
    stands_not l m e f less =
        let t : ltb (level_of N lo) (level x y) ≡ false = grind (arith, nat_tests) in
        let u : ltb l m ≡ false = grind (arith, nat_tests) in
        u ∙ sym (placed ∙ ap (λ b. b && ltb (x_of N hi) x) t)

  -- what keeps the rules may be asked for
  pub stands_asks : stands N pieces x y lo hi ≡ true → Asks N x y lo hi
  unfolding stands
  stands_asks e = record {
    x_max = grind (arith, nat_tests);
    y_min = grind (arith, nat_tests);
    y_below = grind (arith, nat_tests);
    lo_there = grind (arith, nat_tests);
    hi_there = grind (arith, nat_tests);
    lo_level = grind (arith, nat_tests);
    hi_x = grind (arith, nat_tests);
  }
