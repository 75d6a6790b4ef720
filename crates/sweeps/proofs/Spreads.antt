-- Marks that are spread from the pegs down, and what they tell in the end. Assumes nothing.
use Rattle.std.proofs.Common.{◌≡◌, ℕ, zero, suc, ◌+◌, ◌<◌, ◌≤◌, Bool, true, false, ◌≢◌, ◌⊎◌, ◌↔◌, List, [], ◌∷◌, ◌++◌, length, get_or, set, replicate, Some, None, Option, sym, refl, ap, ◌∙◌, subst, inl, inr, arith, add-one, append_assoc, length-append, length-set, get_or-set_other, get_or-set_same}
use Rattle.std.proofs.Math.ListN.{get_or-append}
use Rattle.std.proofs.lemmas.List.{length_push, get_or_push}
use Rattle.std.specs.List.{push}
use mathlib.Core.Bool.{false≢true}
use native.Mathlib.Decide.{ℕ_discrete}
use Rattle.diagrams.specs.declared.Node.{Node}
use Rattle.diagrams.specs.Table.{at, blank, Exists, Sound, lo_of, hi_of}
use Rattle.diagrams.proofs.Bools.{both_ways}
use Rattle.sweeps.specs.Reaching.{empty, Pegged, Pegs, Reached, held, low, high, reached}
use Rattle.sweeps.specs.Marks.{test}
use Rattle.sweeps.proofs.Leads.{reached_there, reached_found, found_is_reached}

-- one more mark
module _ (marks : List Bool) (i : ℕ) (h : i < length marks) where
  mark_here : test (set marks i true) i ≡ true
  mark_here = rw get_or-set_same

  mark_other : (n : ℕ) → n ≢ i → test (set marks i true) n ≡ test marks n
  mark_other n ne = rw get_or-set_other

  mark_keeps : (n : ℕ) → test marks n ≡ true → test (set marks i true) n ≡ true
  mark_keeps n e = by (ℕ_discrete n i)
    where
      by : Dec (n ≡ i) → test (set marks i true) n ≡ true
      by (yes q) = rw q mark_here
      by (no q) = mark_other n q ∙ e

  mark_from : (n : ℕ) → test (set marks i true) n ≡ true → (n ≡ i) ⊎ (test marks n ≡ true)
  mark_from n e = by (ℕ_discrete n i)
    where
      by : Dec (n ≡ i) → (n ≡ i) ⊎ (test marks n ≡ true)
      by (yes q) = inl q
      by (no q) = inr (sym (mark_other n q) ∙ e)

pub none_marked : (k n : ℕ) → test (replicate k false) n ≡ false
none_marked zero n = refl
none_marked (suc k) zero = refl
none_marked (suc k) (suc n) = none_marked k n

-- the first p pegs are marked, and nothing that is on no peg
pub record Rooted (pegs : List (Option ℕ)) (p : ℕ) (marks : List Bool) : Type 0 where
  pub long : length marks ≡ 2048
  pub real : (n : ℕ) → test marks n ≡ true → Pegged pegs n
  pub all : (q n : ℕ) → q < p → get_or pegs q empty ≡ Some n → test marks n ≡ true

some_none : (n : ℕ) (peg : Option ℕ) → peg ≡ None → peg ≡ Some n → ⊥
some_none n peg e q = let z : ◌≡◌ {A = ℕ} 0 1 = cc in omega arith

pub rooted_none : (pegs : List (Option ℕ)) → Rooted pegs 0 (replicate 2048 false)
rooted_none pegs = record {
  long = refl;
  real = λ n e. absurd (false≢true (sym (none_marked 2048 n) ∙ e));
  all = λ q n l e. absurd (omega arith);
}

module _ (pegs : List (Option ℕ)) (p : ℕ) (marks : List Bool) (R : Rooted pegs p marks) where
  -- there is nothing on the peg
  pub rooted_skip : get_or pegs p empty ≡ None → Rooted pegs (p + 1) marks
  rooted_skip e = record { long = R.long; real = R.real; all = λ q n l w. at q n l w (ℕ_discrete q p) }
    where
      at : (q n : ℕ) → q < p + 1 → get_or pegs q empty ≡ Some n → Dec (q ≡ p) → test marks n ≡ true
      at q n l w (yes s) = absurd (some_none n (get_or pegs q empty) (ap (λ (k : ℕ). get_or pegs k empty) s ∙ e) w)
      at q n l w (no s) = R.all q n (omega arith) w

  -- the number on the peg is marked
  pub rooted_more : (m : ℕ) → get_or pegs p empty ≡ Some m → m < 2048 → Rooted pegs (p + 1) (set marks m true)
  rooted_more m e f = record {
    long = rw length-set R.long;
    real = λ n t. from n (mark_from marks m fits n t);
    all = λ q n l w. at q n l w (ℕ_discrete q p);
  }
    where
      fits : m < length marks
      fits = omega (arith, R.long)

      from : (n : ℕ) → (n ≡ m) ⊎ (test marks n ≡ true) → Pegged pegs n
      from n (inl q) = (p, e ∙ ap (λ (k : ℕ). Some k) (sym q))
      from n (inr q) = R.real n q

      at : (q n : ℕ) → q < p + 1 → get_or pegs q empty ≡ Some n → Dec (q ≡ p) → test (set marks m true) n ≡ true
      at q n l w (yes s) =
          let z : Some n ≡ Some m = sym w ∙ ap (λ (k : ℕ). get_or pegs k empty) s ∙ e in
          let y : n ≡ m = cc in
          rw y (mark_here marks m fits)
      at q n l w (no s) = mark_keeps marks m fits n (R.all q n (omega arith) w)

  past : (l : List (Option ℕ)) (q n : ℕ) → get_or l q empty ≡ Some n → q < length l
  past [] q n e = absurd (some_none n empty refl e)
  past (a ∷ l) zero n e = omega arith
  past (a ∷ l) (suc q) n e = omega (arith, past l q n e)

  pub rooted_end : length pegs ≤ p → (n : ℕ) → (test marks n ≡ true) ↔ Pegged pegs n
  rooted_end h n = (R.real n, λ r. R.all r.0 n (omega (arith, past pegs r.0 n r.1)) r.1)

-- the parts of the node at i fit, where marks and numbers stand
pub parts_fit : (N : List Node) (i : ℕ) (a : Node) → Sound N → length N ≤ 2046 → i < length N → a ≡ at N i → (a.lo < 2048) × (a.hi < 2048)
parts_fit N i a S few l is = let k = S.ok i l in (omega (arith, ap (λ (a : Node). a.lo) is), omega (arith, ap (λ (a : Node). a.hi) is))

-- the last of the first nodes of a list
module _ (N left rest : List Node) (a : Node) (tail : List Node) (whole : N ≡ left ++ tail) (split : left ≡ push rest a) where
  pub one_less : length left ≡ suc (length rest)
  one_less = ap length split ∙ length_push rest a ∙ add-one (length rest)

  pub last_there : length rest < length N
  last_there = omega (arith, one_less, ap length whole ∙ length-append left tail)

  pub last_is : a ≡ at N (length rest)
  last_is =
      let h : length rest < length left = omega (arith, one_less) in
      sym (ap (λ l. at l (length rest)) whole ∙ get_or-append left tail blank (length rest) h ∙ ap (λ l. at l (length rest)) split ∙ get_or_push rest a blank (length rest) refl)

  pub rest_whole : N ≡ rest ++ (a ∷ tail)
  rest_whole = whole ∙ ap (λ l. l ++ tail) split ∙ append_assoc rest (a ∷ []) tail

-- the nodes from i on are done: of each that is marked the parts are marked
pub record Marking (N : List Node) (pegs : List (Option ℕ)) (i : ℕ) (marks : List Bool) : Type 0 where
  pub long : length marks ≡ 2048
  pub roots : (n : ℕ) → Pegged pegs n → test marks n ≡ true
  pub real : (n : ℕ) → test marks n ≡ true → Reached N pegs n
  pub closed : (j : ℕ) → i ≤ j → j < length N → test marks (suc (suc j)) ≡ true → (test marks (at N j).lo ≡ true) × (test marks (at N j).hi ≡ true)

module _ (N : List Node) (pegs : List (Option ℕ)) where
  pub marking_begin : (marks : List Bool) → length marks ≡ 2048 → ((n : ℕ) → (test marks n ≡ true) ↔ Pegged pegs n) → Marking N pegs (length N) marks
  marking_begin marks long r = record {
    long = long;
    roots = λ n. (r n).1;
    real = λ n t. held ((r n).0 t);
    closed = λ j l q. absurd (omega arith);
  }

  module _ (S : Sound N) (few : length N ≤ 2046) where
    module _ (i : ℕ) (l : i < length N) (marks : List Bool) (M : Marking N pegs (suc i) marks) where
      abbrev lo : ℕ
      lo = (at N i).lo

      abbrev hi : ℕ
      hi = (at N i).hi

      abbrev once : List Bool
      once = set marks lo true

      abbrev twice : List Bool
      twice = set once hi true

      first : lo < length marks
      first = let k = S.ok i l in omega (arith, M.long)

      second : hi < length once
      second = let k = S.ok i l in rw length-set (omega (arith, M.long))

      more : (n : ℕ) → test marks n ≡ true → test twice n ≡ true
      more n t = mark_keeps once hi second n (mark_keeps marks lo first n t)

      from : test marks (suc (suc i)) ≡ true → (n : ℕ) → (n ≡ hi) ⊎ (test once n ≡ true) → Reached N pegs n
      unfolding lo_of hi_of
      from t n (inl q) = let R : Reached N pegs hi = high (omega arith) (M.real (suc (suc i)) t) in subst (Reached N pegs) (sym q) R
      from t n (inr q) = by (mark_from marks lo first n q)
        where
          by : (n ≡ lo) ⊎ (test marks n ≡ true) → Reached N pegs n
          by (inl w) = let R : Reached N pegs lo = low (omega arith) (M.real (suc (suc i)) t) in subst (Reached N pegs) (sym w) R
          by (inr w) = M.real n w

      -- the marks of the nodes that are done stay
      above : (j : ℕ) → i ≤ j → test twice (suc (suc j)) ≡ test marks (suc (suc j))
      above j q =
          let k = S.ok i l in
          mark_other once hi second (suc (suc j)) (omega arith) ∙ mark_other marks lo first (suc (suc j)) (omega arith)

      spread_yes : test marks (suc (suc i)) ≡ true → Marking N pegs i twice
      spread_yes t = record {
        long = rw (length-set, length-set) M.long;
        roots = λ n p. more n (M.roots n p);
        real = λ n w. from t n (mark_from once hi second n w);
        closed = λ j q w v. both j q w (sym (above j q) ∙ v) (ℕ_discrete j i);
      }
        where
          both : (j : ℕ) → i ≤ j → j < length N → test marks (suc (suc j)) ≡ true → Dec (j ≡ i) → (test twice (at N j).lo ≡ true) × (test twice (at N j).hi ≡ true)
          both j q w v (yes e) = rw e (mark_keeps once hi second lo (mark_here marks lo first), mark_here once hi second)
          both j q w v (no e) = let r = M.closed j (omega arith) w v in (more _ r.0, more _ r.1)

    -- the last node that is left, as the walk from the last node down meets it
    module _ (left rest : List Node) (a : Node) (tail : List Node) (whole : N ≡ left ++ tail) (split : left ≡ push rest a) (marks : List Bool) (M : Marking N pegs (length left) marks) where
      pub spread_marked : test marks (length rest + 2) ≡ true → Marking N pegs (length rest) (set (set marks a.lo true) a.hi true)
      spread_marked t =
          let z : length rest + 2 ≡ suc (suc (length rest)) = omega arith in
          rw (last_is N left rest a tail whole split)
          (spread_yes (length rest) (last_there N left rest a tail whole split) marks (subst (λ i. Marking N pegs i marks) (one_less N left rest a tail whole split) M) (rw z at t))

    module _ (P : Pegs N pegs) (marks : List Bool) (M : Marking N pegs 0 marks) where
      part_marked : (n : ℕ) → Exists N n → 2 ≤ n → test marks n ≡ true → (test marks (lo_of N n) ≡ true) × (test marks (hi_of N n) ≡ true)
      unfolding lo_of hi_of
      part_marked zero e h t = absurd (omega arith)
      part_marked (suc zero) e h t = absurd (omega arith)
      part_marked (suc (suc j)) e h t = M.closed j (omega arith) (omega arith) t

      complete : (n : ℕ) → Reached N pegs n → test marks n ≡ true
      complete n (held r) = M.roots n r
      complete _ (low {n} l R) = (part_marked n (reached_there N pegs S P n R) l (complete n R)).0
      complete _ (high {n} l R) = (part_marked n (reached_there N pegs S P n R) l (complete n R)).1

      -- in the end the marks tell what is reached
      pub marking_end : (n : ℕ) → test marks n ≡ reached N pegs n
      marking_end n = both_ways _ _ (λ t. reached_found N pegs S P n (M.real n t)) (λ t. complete n (found_is_reached N pegs S P n t))
