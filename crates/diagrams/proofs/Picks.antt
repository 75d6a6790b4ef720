-- What `pick` means. Assumes nothing.
use Rattle.std.proofs.Common.{◌≡◌, ℕ, ◌<◌, ◌≤◌, Bool, true, false, ◌&&◌, ◌||◌, eqb, List, sym, refl, ap, ◌∙◌, arith, eq-eqb, ne_eqb, eqb-true}
use borrow.Author.Tests.{eqb-false}
use Rattle.orders.specs.declared.order.Order.{Order}
use Rattle.orders.specs.Orders.{place, standing, inverse, place-standing, place-then, place_apart}
use Rattle.orders.specs.Chains.{ChainLaws}
use Rattle.diagrams.specs.declared.Node.{Node}
use Rattle.diagrams.specs.Moves.{Moves, back}
use Rattle.diagrams.specs.Table.{Exists, x_of, y_of, lo_of, hi_of, level_of, Sound, mem}
use Rattle.diagrams.specs.Rules.{Made}
use Rattle.diagrams.specs.Script.{Script}
use Rattle.diagrams.specs.Bodies.{row, from_of, pick_body}
use Rattle.diagrams.specs.Meets.{Meets}
use Rattle.diagrams.proofs.Folds.{level_more, mem_more, mem_zero, mem_one}
use Rattle.diagrams.proofs.Places.{Low}
use Rattle.diagrams.proofs.Binary.{anew_asks, anew_set}
use Rattle.diagrams.proofs.Tops.{mem_parts, low_if_level, high_still}
use Rattle.diagrams.proofs.Numbers.{parts, lo_lower, hi_lower}
use Rattle.diagrams.proofs.Bools.{both_ways, and_or, and_if, and_not, and_is}
use Rattle.diagrams.proofs.Groups.{same_sound, place_min, place_max}

module _ (g : Moves) (laws : ChainLaws g) where
  -- the orders of n with piece k in place z
  abbrev Picked : List Node → ℕ → ℕ → ℕ → Order → Bool
  Picked N n k z o = mem g N n o && eqb (place o k) z

  same_place : (h : Order) (i j : ℕ) → eqb (place h i) (place h j) ≡ eqb i j
  same_place h i j = both_ways _ _
      (λ e. eq-eqb i j (place_apart h i j (eqb-true _ _ e)))
      (λ e. eq-eqb _ _ (ap (place h) (eqb-true i j e)))

  module _ (N : List Node) (S : Sound N) (a k z : ℕ) (ea : Exists N a) (hk : k ≤ 16) (z_min : 1 ≤ z) (z_max : z ≤ 16) where
    abbrev Owed : Script → Type 0
    Owed s = Meets g (Picked N a k z) (level_of N a) N s

    abbrev from : ℕ
    from = from_of g (row N a) z

    parts_meet : (u : Bool) → 2 ≤ a → Owed (pick_body (row N a) a k z from false false u)
    parts_meet u h =
        let p = parts N S a ea h in
        let il : Exists N (lo_of N a) = omega (arith, p.lo_below) in
        let ih : Exists N (hi_of N a) = omega (arith, p.hi_below) in
        let m⁻ = inverse (g (x_of N a) (y_of N a)) in
        let low : (o : Order) → Picked N (lo_of N a) k z o ≡ true → Low (x_of N a) (y_of N a) o =
        λ o i. low_if_level g laws N S _ _ (lo_of N a) il p.x_max p.y_min p.y_below p.lo_level o ((and_is _ _).0 i).0 in
        let still : (o : Order) → Picked N (hi_of N a) k from o ≡ true → (j : ℕ) → x_of N a ≤ j → j ≤ 16 → place o j ≡ j =
        λ o i. high_still g laws N S a ea h o ((and_is _ _).0 i).0 in (
          (il, hk, z_min, z_max),
          lo_lower N S a ea h,
          λ M r m.
              let less : level_of M (hi_of N a) < level_of N a = rw (level_more N M m.extends (hi_of N a) ih) (hi_lower N S a ea h) in (
                (omega (arith, m.extends.longer), hk, place_min m⁻ z z_min z_max, place_max m⁻ z z_min z_max),
                less,
                λ K s q.
                    let q' : Made g M (Picked N (hi_of N a) k from) K s = record {
                      sound = q.sound;
                      extends = q.extends;
                      there = q.there;
                      means = λ o. q.means o ∙ ap (λ (t : Bool). t && eqb (place o k) from) (mem_more g N M S m.extends (hi_of N a) ih o);
                    } in (
                      anew_asks g laws N S a ea h _ _ low still M r m K s q',
                      λ L v w. (
                        w.there,
                        λ o.
                            let b = back g (x_of N a) (y_of N a) o in
                            let there : eqb (place b k) from ≡ eqb (place o k) z = ap (λ (i : ℕ). eqb i from) (place-then o m⁻ k) ∙ same_place m⁻ (place o k) z in
                            w.means o ∙ anew_set g laws N S a ea h _ _ low still M r m K s q' o
                            ∙ ap (λ (t : Bool). Picked N (lo_of N a) k z o || (mem g N (hi_of N a) b && t)) there
                            ∙ and_or (mem g N (lo_of N a) o) (mem g N (hi_of N a) b) (eqb (place o k) z)
                            ∙ ap (λ (t : Bool). t && eqb (place o k) z) (sym (mem_parts g N S a ea h o)),
                      ),
                    ),
              ),
        )

    pub pick_meets : Owed (pick_body (row N a) a k z from (eqb a 0) (eqb a 1) (eqb k z))
    pick_meets = by (eqb a 0) (eqb a 1) (eqb k z) refl refl refl
      where
        stands : (o : Order) → a ≡ 1 → mem g N a o ≡ true → place o k ≡ k
        stands o e i = ap (λ (p : Order). place p k) (same_sound o standing (sym (mem_one g N o) ∙ (rw e at i))) ∙ place-standing k

        by : (s t u : Bool) → eqb a 0 ≡ s → eqb a 1 ≡ t → eqb k z ≡ u → Owed (pick_body (row N a) a k z from s t u)
        by true t u es et eu = (ea, λ o. let e = eqb-true a 0 es in rw (e, mem_zero g N o))
        by false true true es et eu = (
          omega arith,
          λ o.
              let e = eqb-true a 1 et in
              ap (λ (n : ℕ). mem g N n o) (sym e) ∙ and_if (mem g N a o) (eqb (place o k) z) (λ i. eq-eqb _ _ (stands o e i ∙ eqb-true k z eu)),
        )
        by false true false es et eu = (
          omega arith,
          λ o.
              let e = eqb-true a 1 et in
              mem_zero g N o ∙ and_not (mem g N a o) (eqb (place o k) z) (λ i. ne_eqb _ _ (λ f. eqb-false k z eu (sym (stands o e i) ∙ f))),
        )
        by false false u es et eu =
            let y : ¬ (a ≡ 0) = eqb-false a 0 es in
            let w : ¬ (a ≡ 1) = eqb-false a 1 et in
            parts_meet u (omega arith)
