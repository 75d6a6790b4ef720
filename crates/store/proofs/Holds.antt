-- A hold that was given is the store's until it is released. Assumes nothing.
use Rattle.std.proofs.Common.{◌≡◌, ℕ, ◌<◌, Bool, true, false, ◌&&◌, eqb, ltb, length, get_or, set, Some, None, Ok, Option, sym, refl, ap, ◌∙◌, subst, arith, get_or-set_same}
use Rattle.std.proofs.lemmas.Bool.Decides.{nat_tests}
use Rattle.orders.specs.declared.refusal.Refusal.{Refusal}
use Rattle.diagrams.specs.Moves.{Moves}
use Rattle.store.specs.declared.hold.Hold.{Hold}
use Rattle.store.specs.declared.shapes.Handle.{Handle}
use Rattle.store.specs.Views.{View, with_pegs}
use Rattle.store.specs.Questions.{or_else, on_peg, handle_asked, peg_asked, held_on}
use Rattle.store.specs.Steps.{After, held, left, unless, released_by, season_asked, swept_view}
use Rattle.store.specs.Holding.{Holds, HoldsStand}
use Rattle.store.proofs.Racks.{peg_fine, held_some}
use Rattle.store.proofs.Sweeps.{pegs_on}

-- the parts of a hold that the store has
on_peg_parts : (b : Bool) (o : Option ℕ) (n : ℕ) → on_peg b o ≡ Ok n → (b ≡ true) × (o ≡ Some n)
on_peg_parts true (Some m) n e = (refl, cc)
on_peg_parts true None n e = let z : ◌≡◌ {A = ℕ} 0 1 = cc in absurd (omega arith)
on_peg_parts false o n e = let z : ◌≡◌ {A = ℕ} 0 1 = cc in absurd (omega arith)

held_parts : (w : View) (mark peg n : ℕ) → held_on w mark peg ≡ Ok n → (mark ≡ w.plan.mark) × (peg < 64) × (get_or w.pegs peg None ≡ Some n)
unfolding held_on
held_parts w mark peg n e =
    let p = on_peg_parts (eqb mark w.plan.mark && ltb peg 64) (get_or w.pegs peg None) n e in
    let t = p.0 in
    (grind (arith, nat_tests), grind (arith, nat_tests), p.1)

module _ (g : Moves) where
  given_by : (w t : View) → length w.pegs ≡ 64 → (a : Handle) (p : ℕ) (h : Hold) (q : Option Refusal) → or_else (handle_asked w a) (peg_asked w p) ≡ q
      → ◌≡◌ {A = After} (t, held h) (unless q w (with_pegs w (set w.pegs p (Some a.number)), held (record { mark = w.plan.mark; peg = p }))) → Holds t h
  given_by w t long a p h (Some x) is e = let f = ap (λ (r : After). r.1) e in let z : ◌≡◌ {A = ℕ} 0 1 = cc in absurd (omega arith)
  given_by w t long a p h None is e =
      let same : t ≡ with_pegs w (set w.pegs p (Some a.number)) = ap (λ (r : After). r.0) e in
      let f : held h ≡ held (record { mark = w.plan.mark; peg = p }) = ap (λ (r : After). r.1) e in
      let it : h ≡ record { mark = w.plan.mark; peg = p } = cc in
      let lt : p < length w.pegs = omega (arith, peg_fine w p (free (handle_asked w a) is)) in (
        a.number,
        subst (λ (v : View). held_on v h.mark h.peg ≡ Ok a.number) (sym same)
            (subst (λ (d : Hold). held_on (with_pegs w (set w.pegs p (Some a.number))) d.mark d.peg ≡ Ok a.number) (sym it)
            (sym (held_some (with_pegs w (set w.pegs p (Some a.number))) w.plan.mark p a.number refl (omega (arith, lt)) (rw get_or-set_same refl)))),
      )
    where
      free : (o : Option Refusal) → or_else o (peg_asked w p) ≡ None → peg_asked w p ≡ None
      free None k = k
      free (Some x) k = let z : ◌≡◌ {A = ℕ} 0 1 = cc in absurd (omega arith)

  lasts_by : (w t : View) (h : Hold) (q : Option Refusal) → (unless q w (swept_view w, left (length (swept_view w).nodes))).0 ≡ t → Holds w h → Holds t h
  lasts_by w t h (Some x) e k = subst (λ (v : View). Holds v h) e k
  lasts_by w t h None e (n, k) =
      let p = held_parts w h.mark h.peg n k in
      subst (λ (v : View). Holds v h) e
      (_, sym (held_some (swept_view w) h.mark h.peg _ p.0 p.1 (pegs_on w.nodes w.pegs h.peg n p.2)))

  pub holds_stand : HoldsStand g
  holds_stand = record {
    given = λ w t long a p h e. given_by w t long a p h (or_else (handle_asked w a) (peg_asked w p)) refl e;
    lasts = λ w t h e k. lasts_by w t h (season_asked w) e k;
    taken = λ w t h b x e k.
        let f = ap (λ (r : After). r.1) (e ∙ ap (released_by w h) k.1) in
        let z : ◌≡◌ {A = ℕ} 0 1 = cc in omega arith;
  }
