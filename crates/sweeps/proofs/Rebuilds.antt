-- Nodes made again by the rule `node`, and the pegs with new numbers. Assumes nothing.
use Rattle.std.proofs.Common.{◌≡◌, ℕ, zero, suc, ◌+◌, ◌<◌, ◌≤◌, Bool, true, false, List, [], ◌∷◌, map, length, get_or, set, replicate, Some, None, Ok, Err, Option, Result, sym, refl, ap, ◌∙◌, subst, inl, inr, arith, length-set, get_or-set_other, get_or-set_same}
use mathlib.Core.Bool.{false≢true}
use native.Mathlib.Decide.{ℕ_discrete, dec_lt}
use Rattle.orders.specs.declared.refusal.Refusal.{Refusal}
use Rattle.diagrams.specs.declared.Node.{Node}
use Rattle.diagrams.specs.Table.{at, blank, Exists, Sound}
use Rattle.diagrams.specs.Rules.{Outcome, done, is_node, find, node, new_node, Asks}
use Rattle.diagrams.proofs.Nodes.{node_new}
use Rattle.diagrams.proofs.Pushes.{pushed, first_here, is_node_same}
use Rattle.tables.specs.Rows.{Makes}
use Rattle.std.specs.Result.{is_ok}
use Rattle.sweeps.specs.Reaching.{empty, Pegs, held, reached}
use Rattle.sweeps.specs.Sweeping.{on_peg, renumber, again, kept_of, swept, renumbered, pegs_after}
use Rattle.sweeps.specs.Marks.{test, Kept, Closed, Remaking}
use Rattle.sweeps.proofs.Leads.{reached_found}
use Rattle.sweeps.proofs.Laws.{reached_closed}
use Rattle.sweeps.proofs.Keeps.{kept_none, kept_yes, kept_no, kept_long, kept_same, rank_within, renumber_zero, renumber_one, renumber_node, renumber_same, again_asks, again_some, again_counted, again_new}

module _ (N : List Node) (keep : ℕ → Bool) where
  begins : Remaking N keep 0 [] (set (replicate 2048 0) 1 1)
  begins = record { nodes = sym (kept_none keep N); long = refl; numbered = λ n l k. start n l }
    where
      start : (n : ℕ) → n < 2 → get_or (set (replicate 2048 0) 1 1) n 0 ≡ renumber keep n
      start zero l = sym (renumber_zero keep)
      start (suc zero) l = sym (renumber_one keep)
      start (suc (suc n)) l = absurd (omega arith)

  pub remaking_begin : (M : List Node) (numbers : List ℕ) → M ≡ [] → numbers ≡ set (replicate 2048 0) 1 1 → Remaking N keep 0 M numbers
  remaking_begin M numbers e q = rw (e, q) begins

  module _ (i : ℕ) (M : List Node) (numbers : List ℕ) (R : Remaking N keep i M numbers) where
    pub remaking_skip : keep (i + 2) ≡ false → Remaking N keep (suc i) M numbers
    remaking_skip t = record { nodes = R.nodes ∙ sym (kept_no keep N i gone); long = R.long; numbered = λ n l k. at n l k (ℕ_discrete n (suc (suc i))) }
      where
        gone : keep (suc (suc i)) ≡ false
        gone = let z : i + 2 ≡ suc (suc i) = omega arith in rw z at t

        never : (n : ℕ) → n ≡ suc (suc i) → Kept keep n → ⊥
        never n e (inl k) = omega arith
        never n e (inr k) = false≢true (sym gone ∙ ap keep (sym e) ∙ k)

        at : (n : ℕ) → n < suc (suc (suc i)) → Kept keep n → Dec (n ≡ suc (suc i)) → get_or numbers n 0 ≡ renumber keep n
        at n l k (yes e) = absurd (never n e k)
        at n l k (no e) = R.numbered n (omega arith) k

    module _ (S : Sound N) (closed : Closed keep N) (l : i < length N) (few : length N ≤ 2046) (t : keep (i + 2) ≡ true)
        (p : Node) (lo hi : ℕ) (is : p ≡ at N i) (low : lo ≡ get_or numbers p.lo 0) (high : hi ≡ get_or numbers p.hi 0) where
      kept : keep (suc (suc i)) ≡ true
      kept = let z : i + 2 ≡ suc (suc i) = omega arith in rw z at t

      low_is : lo ≡ renumber keep (at N i).lo
      low_is = let k = S.ok i l in low ∙ ap (λ (a : Node). get_or numbers a.lo 0) is ∙ R.numbered (at N i).lo k.lo_below (closed i l kept).0

      high_is : hi ≡ renumber keep (at N i).hi
      high_is = let k = S.ok i l in high ∙ ap (λ (a : Node). get_or numbers a.hi 0) is ∙ R.numbered (at N i).hi k.hi_below (closed i l kept).1

      pub remake_asks : Asks M p.x p.y lo hi
      remake_asks = rw (R.nodes, is, low_is, high_is) (again_asks keep N S closed i l kept)

      abbrev K : List Node
      K = kept_of keep N i

      abbrev a : Node
      a = again keep (at N i)

      -- it is not found in what was made so far
      absent : length K ≤ find K a.x a.y a.lo a.hi
      absent = by (dec_lt (find K a.x a.y a.lo a.hi) (length K))
        where
          by : Dec (find K a.x a.y a.lo a.hi < length K) → length K ≤ find K a.x a.y a.lo a.hi
          by (yes h) =
              let q = is_node_same a.x a.y a.lo a.hi (at K (find K a.x a.y a.lo a.hi)) (first_here (is_node a.x a.y a.lo a.hi) blank K h) in
              absurd (again_new keep N S closed i l kept _ h record { same_x = q.0; same_y = q.1; same_lo = q.2; same_hi = q.3 })
          by (no h) = omega arith

      made : (n : ℕ) → node 2046 M p.x p.y lo hi n ≡ done (pushed K a) (suc (suc (length K))) n
      made n =
          let some = again_some keep N S closed i l kept in
          let count : new_node K a.x a.y a.lo a.hi ≡ a =
          ap (λ (c : ℕ). record { x = a.x; y = a.y; lo = a.lo; hi = a.hi; orders = c }) (sym (again_counted keep N S closed i l kept)) in
          rw (R.nodes, is, low_is, high_is)
          (node_new 2046 a.x a.y a.lo a.hi n K (λ z. omega arith) absent (omega (arith, kept_long keep N i, rank_within keep N i))
          ∙ ap (λ (b : Node). done (pushed K b) (suc (suc (length K))) n) count)

      makes : (M' : List Node) (r : Result ℕ Refusal) → ((n : ℕ) → Makes (node 2046 M p.x p.y lo hi n) M' n r) → Makes (done (pushed K a) (suc (suc (length K))) 0) M' 0 r
      makes M' r h = subst (λ (o : Outcome). Makes o M' 0 r) (made 0) (h 0)

      pub remaking_more : (M' : List Node) (new : ℕ) → ((n : ℕ) → Makes (node 2046 M p.x p.y lo hi n) M' n (Ok new)) → Remaking N keep (suc i) M' (set numbers (i + 2) new)
      remaking_more M' new h =
          let w = makes M' (Ok new) h in
          record {
            nodes = w.0 ∙ sym (kept_yes keep N i kept);
            long = rw length-set R.long;
            numbered = λ n q k. at w.1 n q k (ℕ_discrete n (i + 2));
          }
        where
          at : new ≡ suc (suc (length K)) → (n : ℕ) → n < suc (suc (suc i)) → Kept keep n → Dec (n ≡ i + 2) → get_or (set numbers (i + 2) new) n 0 ≡ renumber keep n
          at w n q k (yes e) =
              let z : n ≡ suc (suc i) = omega arith in
              let fits : i + 2 < length numbers = omega (arith, R.long) in
              rw e (get_or-set_same numbers (i + 2) new 0 fits ∙ w ∙ ap (λ (j : ℕ). suc (suc j)) (kept_long keep N i) ∙ sym (renumber_node keep i) ∙ ap (renumber keep) (sym z ∙ e))
          at w n q k (no e) = rw get_or-set_other (R.numbered n (omega arith) k)

      -- there is room
      pub remaking_room : (M' : List Node) (r : Result ℕ Refusal) → ((n : ℕ) → Makes (node 2046 M p.x p.y lo hi n) M' n r) → is_ok r ≡ true
      remaking_room M' (Ok new) h = refl
      remaking_room M' (Err f) h = absurd (makes M' (Err f) h)

-- the first p pegs are moved by f, and those after them are as they were
pub record Moved (f : Option ℕ → Option ℕ) (pegs after : List (Option ℕ)) (p : ℕ) : Type 0 where
  pub long : length after ≡ length pegs
  pub done : (q : ℕ) → q < p → get_or after q empty ≡ f (get_or pegs q empty)
  pub left : (q : ℕ) → p ≤ q → get_or after q empty ≡ get_or pegs q empty

pegs_tell : (f : Option ℕ → Option ℕ) (pegs after : List (Option ℕ)) → length after ≡ length pegs → ((p : ℕ) → p < length pegs → get_or after p empty ≡ f (get_or pegs p empty)) → after ≡ map f pegs
pegs_tell f [] [] e h = refl
pegs_tell f [] (b ∷ after) e h = absurd (omega arith)
pegs_tell f (a ∷ pegs) [] e h = absurd (omega arith)
pegs_tell f (a ∷ pegs) (b ∷ after) e h =
    let one : b ≡ f a = h 0 (omega arith) in
    rw (one, pegs_tell f pegs after (omega arith) (λ p l. h (suc p) (omega arith)))

module _ (f : Option ℕ → Option ℕ) (pegs after : List (Option ℕ)) (p : ℕ) (M : Moved f pegs after p) where
  pub moved_end : length pegs ≤ p → after ≡ map f pegs
  moved_end h = pegs_tell f pegs after M.long (λ q l. M.done q (omega arith))

pub pegs_same : (f h : ℕ → ℕ) (pegs : List (Option ℕ)) → ((p n : ℕ) → get_or pegs p empty ≡ Some n → f n ≡ h n) → map (on_peg f) pegs ≡ map (on_peg h) pegs
pegs_same f h [] s = refl
pegs_same f h (None ∷ pegs) s = rw (pegs_same f h pegs (λ p n e. s (suc p) n e))
pegs_same f h (Some m ∷ pegs) s = rw (s 0 m refl, pegs_same f h pegs (λ p n e. s (suc p) n e))

-- what is reached, made again by marks that tell it
module _ (N : List Node) (pegs : List (Option ℕ)) (S : Sound N) (P : Pegs N pegs) (marks : List Bool) (tell : (n : ℕ) → Exists N n → test marks n ≡ reached N pegs n) where
  pub marks_closed : Closed (test marks) N
  marks_closed i l t =
      let k = S.ok i l in
      let c = reached_closed N pegs S P i l (sym (tell (suc (suc i)) (omega arith)) ∙ t) in
      (as_marked (at N i).lo (omega arith) c.0, as_marked (at N i).hi (omega arith) c.1)
    where
      as_marked : (n : ℕ) → Exists N n → Kept (reached N pegs) n → Kept (test marks) n
      as_marked n e (inl h) = inl h
      as_marked n e (inr h) = inr (tell n e ∙ h)

  module _ (M : List Node) (numbers : List ℕ) (R : Remaking N (test marks) (length N) M numbers) where
    pub nodes_swept : M ≡ swept N pegs
    unfolding swept
    nodes_swept = R.nodes ∙ kept_same (test marks) (reached N pegs) N S (length N) (omega arith) tell

    on_pegs : (p n : ℕ) → get_or pegs p empty ≡ Some n → get_or numbers n 0 ≡ renumbered N pegs n
    unfolding renumbered
    on_pegs p n e =
        let there = P p n e in
        R.numbered n there (inr (tell n there ∙ reached_found N pegs S P n (held (p, e))))
        ∙ renumber_same (test marks) (reached N pegs) n (λ m l. tell m (omega arith))

    pub pegs_swept : (after : List (Option ℕ)) → after ≡ map (on_peg (λ n. get_or numbers n 0)) pegs → after ≡ pegs_after N pegs
    unfolding pegs_after
    pegs_swept after e = e ∙ pegs_same (λ n. get_or numbers n 0) (renumbered N pegs) pegs on_pegs
