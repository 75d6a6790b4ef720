-- The rules for nodes, asked of a line. Assumes nothing.
use Rattle.std.proofs.Common.{◌≡◌, ℕ, ◌+◌, ◌≤◌, Bool, true, false, not, ◌&&◌, ltb, List, length, is_some, sym, refl, ap, ◌∙◌, arith, ltb-true}
use Rattle.std.proofs.lemmas.Bool.{and_parts}
use Rattle.std.proofs.lemmas.Bool.Decides.{nat_tests}
use Rattle.lists.specs.declared.node_line.NodeLine.{NodeLine}
use Rattle.diagrams.specs.declared.Node.{Node}
use Rattle.diagrams.specs.Rules.{find}
use Rattle.tables.specs.Rows.{found, found_by}
use Rattle.tables.specs.Rules.{stands}
use Rattle.sheets.specs.Checks.{paired, earlier, Askable, keeps}

-- what the first questions give
pub askable : (pieces : ℕ) (N : List Node) (a : NodeLine) → length N ≤ 2046 → paired pieces a ≡ true → earlier (length N + 2) a ≡ true → Askable N a
askable pieces N a few p e =
    let q = and_parts (ltb a.x 17) (ltb a.x (pieces + 1) && (ltb 0 a.y && ltb a.y a.x)) p in
    let r = and_parts (ltb a.x (pieces + 1)) (ltb 0 a.y && ltb a.y a.x) q.1 in
    let s = and_parts (ltb 0 a.y) (ltb a.y a.x) r.1 in
    let t = and_parts (ltb a.lo (length N + 2)) (ltb 0 a.hi && ltb a.hi (length N + 2)) e in
    let u = and_parts (ltb 0 a.hi) (ltb a.hi (length N + 2)) t.1 in
    record {
      x_max = let h = ltb-true a.x 17 q.0 in omega arith;
      y_min = let h = ltb-true 0 a.y s.0 in omega arith;
      y_below = ltb-true a.y a.x s.1;
      lo_there = ltb-true a.lo (length N + 2) t.0;
      hi_there = ltb-true a.hi (length N + 2) u.1;
      few = few;
    }

-- a search that found nothing
none_found : (N : List Node) (x y lo hi : ℕ) (b : Bool) → is_some (found N x y lo hi) ≡ not b → b ≡ not (ltb (find N x y lo hi) (length N))
unfolding found
none_found N x y lo hi b = by (ltb (find N x y lo hi) (length N)) b
  where
    by : (t b : Bool) → is_some (found_by (find N x y lo hi) t) ≡ not b → b ≡ not t
    by true true e = e
    by true false e = refl
    by false true e = refl
    by false false e = e

-- a line keeps the rules where its branch may stand and is not found
module _ (pieces : ℕ) (N : List Node) (a : NodeLine) where
  keeps_stands : keeps pieces N a ≡ (stands N pieces a.x a.y a.lo a.hi && not (ltb (find N a.x a.y a.lo a.hi) (length N)))
  unfolding keeps stands
  keeps_stands = grind (arith, nat_tests)

  pub keeps_new : stands N pieces a.x a.y a.lo a.hi ≡ true → (b : Bool) → is_some (found N a.x a.y a.lo a.hi) ≡ not b → b ≡ keeps pieces N a
  keeps_new s b e =
      none_found N a.x a.y a.lo a.hi b e
      ∙ sym (keeps_stands ∙ ap (λ t. t && not (ltb (find N a.x a.y a.lo a.hi) (length N))) s)

  pub keeps_not : stands N pieces a.x a.y a.lo a.hi ≡ false → false ≡ keeps pieces N a
  keeps_not s = sym (keeps_stands ∙ ap (λ t. t && not (ltb (find N a.x a.y a.lo a.hi) (length N))) s)
