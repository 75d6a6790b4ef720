use Rattle.std.proofs.Common.{◌≡◌, ℕ, List, [], ◌∷◌, ◌++◌, take, get_or, decimal, sym, refl, ap, ◌∙◌, subst, inl, inr, append-nil, append_assoc, arith, length-append}
use Rattle.lists.specs.Items.{Extended}
use Rattle.lists.proofs.Places.{extended_then, extended_room, extended_length}
use Rattle.lines.specs.Format.{written}
use Rattle.lines.proofs.Pages.{Lead, written_take, written_up_to}
use Rattle.lines.proofs.writes.put_numbers.Goals as goal
use Rattle.lines.proofs.writes.put_numbers.Goals.{Joined-i-gt0, then-i-gt0, else-i-gt0}

-- the numbers before this one are written, and the blank behind them
front : (c : Joined-i-gt0) → (ls : List ℕ) × Lead c.loop-i.i ls × Extended c.args.page.now c.if-i-gt0.page (written (take c.loop-i.i c.args.values.now) ++ ls) × (c.if-i-gt0.page.room.ghost_name ≡ c.args.page.now.room.ghost_name)
front c = elim c.if-i-gt0.branch [
  | then-i-gt0 w ↦ (
    32 ∷ [],
    inr (w.if-i-gt0.true, refl),
    subst (λ p. Extended c.args.page.now p (written (take c.loop-i.i c.args.values.now) ++ 32 ∷ [])) (sym w.page-is)
        (extended_then c.args.page.now c.loop-i.page w.put_byte.new.page _ (32 ∷ []) c.loop-i.invariant.0 w.put_byte.ensures.answer),
    ap (λ p. p.room.ghost_name) w.page-is ∙ w.put_byte.ensures.lender ∙ c.loop-i.invariant.1,
  )
  | else-i-gt0 w ↦ (
    [],
    inl (omega (arith, w.if-i-gt0.false), refl),
    subst (λ p. Extended c.args.page.now p (written (take c.loop-i.i c.args.values.now) ++ [])) (sym w.page-is)
        (subst (λ l. Extended c.args.page.now c.loop-i.page l) (sym (append-nil _)) c.loop-i.invariant.0),
    ap (λ p. p.room.ghost_name) w.page-is ∙ c.loop-i.invariant.1,
  )
]

pub put_byte-requires : goal.put_byte-requires
put_byte-requires c =
    let inv = c.loop-i.invariant.0 in
    omega (arith, c.requires, extended_room _ _ _ inv, extended_length _ _ _ inv, written_up_to c.args.values.now c.loop-i.i c.loop-i-test.true (32 ∷ []) (inr (c.if-i-gt0.true, refl)))

pub put_number-requires : goal.put_number-requires
put_number-requires c =
    let f = front (goal.at.put_number-requires c).Joined-i-gt0 in
    omega (
      arith,
      c.requires,
      extended_room _ _ _ f.2,
      extended_length _ _ _ f.2,
      length-append (written (take c.loop-i.i c.args.values.now)) f.0,
      written_up_to c.args.values.now c.loop-i.i c.loop-i-test.true f.0 f.1,
    )

pub loop-i-preserved : goal.loop-i-preserved
loop-i-preserved c =
    let f = front (goal.at.loop-i-preserved c).Joined-i-gt0 in
    let here = decimal (get_or c.args.values.now c.loop-i.i 0) in (
      subst (λ l. Extended c.args.page.now c.put_number.new.page l)
          (append_assoc _ f.0 here ∙ sym (written_take c.args.values.now c.loop-i.i c.loop-i-test.true f.0 f.1))
          (extended_then c.args.page.now c.if-i-gt0.page c.put_number.new.page _ here f.2 c.put_number.ensures.answer),
      c.put_number.ensures.lender ∙ f.3,
    )
