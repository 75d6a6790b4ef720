-- `node` on a longer table, and once more on the table that it made. Assumes nothing.
use Rattle.std.proofs.Common.{◌≡◌, ℕ, suc, ◌<◌, ◌≤◌, Bool, true, false, eqb, ltb, List, [], ◌∷◌, length, sym, refl, ap, ◌∙◌, ap₂, arith, ltb-false, ltb-true, le-ltb, lt-ltb, eq-eqb, ne_eqb, eqb-true}
use borrow.Author.Tests.{eqb-false}
use Rattle.diagrams.specs.declared.Node.{Node}
use Rattle.diagrams.specs.Table.{at, Extends}
use Rattle.diagrams.specs.Rules.{Outcome, done, full, is_node, first_by, first, find, new_node, node_by, node}
use Rattle.diagrams.proofs.Pushes.{pushed, pushed_length}

-- lists of one length, with the same at each place
list_same : (N M : List Node) → length N ≡ length M → ((i : ℕ) → i < length N → at M i ≡ at N i) → M ≡ N
list_same [] [] e f = refl
list_same [] (b ∷ M) e f = absurd (omega arith)
list_same (a ∷ N) [] e f = absurd (omega arith)
list_same (a ∷ N) (b ∷ M) e f = ap₂ ◌∷◌ (f 0 (omega arith)) (list_same N M (omega arith) (λ i l. f (suc i) (omega arith)))

-- two tables that extend one another
pub extends_back : (N M : List Node) → Extends N M → Extends M N → M ≡ N
extends_back N M X Y = list_same N M (omega (arith, X.longer, Y.longer)) X.kept

module _ (p : Node → Bool) where
  first_more : (N M : List Node) → length N ≤ length M → ((i : ℕ) → i < length N → at M i ≡ at N i) → first p N < length N → first p M ≡ first p N
  unfolding first
  first_more [] M l k h = absurd (omega arith)
  first_more (a ∷ N) [] l k h = absurd (omega arith)
  first_more (a ∷ N) (b ∷ M) l k h = rw (k 0 (omega arith)) (by (p a) h (first_more N M (omega arith) (λ i q. k (suc i) (omega arith))))
    where
      by : (c : Bool) → first_by c (first p N) < suc (length N) → (first p N < length N → first p M ≡ first p N) → first_by c (first p M) ≡ first_by c (first p N)
      by true q f = refl
      by false q f = ap suc (f (omega arith))

  first_push : (N : List Node) (a : Node) → length N ≤ first p N → p a ≡ true → first p (pushed N a) ≡ length N
  unfolding first
  first_push [] a h e = rw e
  first_push (b ∷ N) a h e = by (p b) h (λ q. first_push N a q e)
    where
      by : (c : Bool) → suc (length N) ≤ first_by c (first p N) → (length N ≤ first p N → first p (pushed N a) ≡ length N) → first_by c (first p (pushed N a)) ≡ suc (length N)
      by true q f = absurd (omega arith)
      by false q f = ap suc (f (omega arith))

module _ (cap x y lo hi n : ℕ) where
  abbrev on : List Node → Outcome
  on N = node cap N x y lo hi n

  abbrev place_of : List Node → ℕ
  place_of N = find N x y lo hi

  node_at : (N : List Node) (s t u : Bool) → eqb hi 0 ≡ s → ltb (place_of N) (length N) ≡ t → ltb (length N) cap ≡ u → on N ≡ node_by N x y lo hi n s t u
  unfolding node
  node_at N s t u es et eu = rw (es, et, eu)

  pub node_none : (N : List Node) → hi ≡ 0 → on N ≡ done N lo n
  node_none N e = node_at N true _ _ (eq-eqb hi 0 e) refl refl

  pub node_found : (N : List Node) → ¬ (hi ≡ 0) → place_of N < length N → on N ≡ done N (suc (suc (place_of N))) n
  node_found N ne l = node_at N false true _ (ne_eqb hi 0 ne) (lt-ltb _ _ l) refl

  pub node_new : (N : List Node) → ¬ (hi ≡ 0) → length N ≤ place_of N → length N < cap → on N ≡ done (pushed N (new_node N x y lo hi)) (suc (suc (length N))) n
  node_new N ne l h = node_at N false false true (ne_eqb hi 0 ne) (le-ltb _ _ l) (lt-ltb _ _ h)

  pub node_full : (N : List Node) → ¬ (hi ≡ 0) → length N ≤ place_of N → cap ≤ length N → on N ≡ full N
  node_full N ne l h = node_at N false false false (ne_eqb hi 0 ne) (le-ltb _ _ l) (le-ltb _ _ h)

  by_entries : (N K : List Node) (r m : ℕ) (s t u : Bool) → node_by N x y lo hi n s t u ≡ done K r m → n ≡ m
  by_entries N K r m true t u e = cc
  by_entries N K r m false true u e = cc
  by_entries N K r m false false true e = cc
  by_entries N K r m false false false e = let z : ◌≡◌ {A = ℕ} 0 1 = cc in absurd (omega arith)

  -- a node is no entry
  pub node_entries : (N K : List Node) (r m : ℕ) → on N ≡ done K r m → n ≡ m
  unfolding node
  node_entries N K r m e = by_entries N K r m (eqb hi 0) (ltb (place_of N) (length N)) (ltb (length N) cap) e

  new_is : (N : List Node) → is_node x y lo hi (new_node N x y lo hi) ≡ true
  new_is N = rw (eq-eqb x x refl, eq-eqb y y refl, eq-eqb lo lo refl, eq-eqb hi hi refl)

  -- a node that is there, or is not asked for, is so on every longer table
  pub node_stable : (N M : List Node) (r m : ℕ) → Extends N M → on N ≡ done N r m → on M ≡ done M r m
  node_stable N M r m X e = by (eqb hi 0) (ltb (place_of N) (length N)) (ltb (length N) cap) refl refl refl
    where
      by : (s t u : Bool) → eqb hi 0 ≡ s → ltb (place_of N) (length N) ≡ t → ltb (length N) cap ≡ u → on M ≡ done M r m
      by true t u es et eu =
          let q : done N lo n ≡ done N r m = sym (node_at N true t u es et eu) ∙ e in
          node_none M (eqb-true hi 0 es) ∙ cc
      by false true u es et eu =
          let l : place_of N < length N = ltb-true _ _ et in
          let q : done N (suc (suc (place_of N))) n ≡ done N r m = sym (node_at N false true u es et eu) ∙ e in
          let same : place_of M ≡ place_of N = first_more (is_node x y lo hi) N M X.longer X.kept l in
          let ne : ¬ (hi ≡ 0) = eqb-false hi 0 es in
          node_found M ne (omega (arith, same, X.longer)) ∙ cc
      by false false true es et eu =
          let q : done (pushed N (new_node N x y lo hi)) (suc (suc (length N))) n ≡ done N r m = sym (node_at N false false true es et eu) ∙ e in
          let z : pushed N (new_node N x y lo hi) ≡ N = cc in
          absurd (omega (arith, ap length z, pushed_length N (new_node N x y lo hi)))
      by false false false es et eu =
          let q : full N ≡ done N r m = sym (node_at N false false false es et eu) ∙ e in
          let z : ◌≡◌ {A = ℕ} 0 1 = cc in
          absurd (omega arith)

  -- a node that was made is found
  pub node_settled : (N M : List Node) (r m : ℕ) → on N ≡ done M r m → on M ≡ done M r m
  node_settled N M r m e = by (eqb hi 0) (ltb (place_of N) (length N)) (ltb (length N) cap) refl refl refl
    where
      kept : N ≡ M → on M ≡ done M r m
      kept z = ap on (sym z) ∙ e

      by : (s t u : Bool) → eqb hi 0 ≡ s → ltb (place_of N) (length N) ≡ t → ltb (length N) cap ≡ u → on M ≡ done M r m
      by true t u es et eu =
          let q : done N lo n ≡ done M r m = sym (node_at N true t u es et eu) ∙ e in
          kept (cc)
      by false true u es et eu =
          let q : done N (suc (suc (place_of N))) n ≡ done M r m = sym (node_at N false true u es et eu) ∙ e in
          kept (cc)
      by false false true es et eu =
          let a = new_node N x y lo hi in
          let q : done (pushed N a) (suc (suc (length N))) n ≡ done M r m = sym (node_at N false false true es et eu) ∙ e in
          let z : M ≡ pushed N a = cc in
          let f : place_of (pushed N a) ≡ length N = first_push (is_node x y lo hi) N a (ltb-false _ _ et) (new_is N) in
          let ne : ¬ (hi ≡ 0) = eqb-false hi 0 es in
          let there : on (pushed N a) ≡ done (pushed N a) (suc (suc (place_of (pushed N a)))) n = node_found (pushed N a) ne (omega (arith, f, pushed_length N a)) in
          ap on z ∙ there ∙ ap (λ (i : ℕ). done (pushed N a) (suc (suc i)) n) f ∙ q
      by false false false es et eu =
          let q : full N ≡ done M r m = sym (node_at N false false false es et eu) ∙ e in
          let z : ◌≡◌ {A = ℕ} 0 1 = cc in
          absurd (omega arith)
