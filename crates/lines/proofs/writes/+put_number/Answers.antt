use Rattle.std.proofs.Common.{◌≡◌, ℕ, ◌+◌, ◌%◌, List, [], ◌∷◌, ◌++◌, decimal, sym, ap, ◌∙◌, subst, arith}
use Rattle.std.proofs.lemmas.Fmt.{decimal_digit, decimal_step}
use Rattle.lists.specs.Items.{Extended}
use Rattle.lists.proofs.Places.{extended_then, extended_none, extended_room, extended_length}
use Rattle.lines.proofs.Pages.{length_step, length_end}
use Rattle.lines.proofs.writes.+put_number.Goals as goal
use Rattle.lines.proofs.writes.+put_number.Goals.{Joined-n-ge10, then-n-ge10, else-n-ge10}

-- the digits before the last are written
front : (t : ℕ) (c : Joined-n-ge10 t) → (ds : List ℕ) × Extended c.args.page.now c.if-n-ge10.page ds × (decimal c.args.n ≡ ds ++ (48 + c.args.n % 10) ∷ [])
front t c = elim c.if-n-ge10.branch [
  | then-n-ge10 w ↦ (
    decimal _,
    subst (λ p. Extended c.args.page.now p _) (sym w.page-is) w.put_number.ensures.answer,
    decimal_step c.args.n w.if-n-ge10.true c.ranges.n.fits,
  )
  | else-n-ge10 w ↦ (
    [],
    subst (λ p. Extended c.args.page.now p []) (sym w.page-is) (extended_none c.args.page.now),
    (let small : c.args.n % 10 ≡ c.args.n = omega (arith, w.if-n-ge10.false) in
        decimal_digit c.args.n (omega (arith, w.if-n-ge10.false)) ∙ ap (λ d. (48 + d) ∷ []) (sym small)),
  )
]

pub put_number-requires : goal.put_number-requires
put_number-requires t c = (omega (arith, c.decreases, c.if-n-ge10.true), omega (arith, c.requires, length_step c.args.n c.if-n-ge10.true c.ranges.n.fits))

pub put_byte-requires : goal.put_byte-requires
put_byte-requires t c =
    let f = front t (goal.at.put_byte-requires t c).Joined-n-ge10 in
    omega (arith, c.requires, extended_room _ _ _ f.1, extended_length _ _ _ f.1, length_end _ _ _ f.2)

pub returns-clause-answer : goal.returns-clause-answer
returns-clause-answer t c =
    let f = front t (goal.at.returns-clause-answer t c).Joined-n-ge10 in
    subst (λ l. Extended c.args.page.now c.put_byte.new.page l) (sym f.2)
    (extended_then c.args.page.now c.if-n-ge10.page c.put_byte.new.page f.0 _ f.1 c.put_byte.ensures.answer)
