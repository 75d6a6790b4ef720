use Rattle.std.proofs.Common.{◌≡◌, ◌+◌, ◌≤◌, length, take, sym, refl, ap, ◌∙◌, arith}
use Rattle.std.proofs.lemmas.List.{length-take-le}
use Rattle.lists.specs.Items.{laid}
use Rattle.lists.proofs.Places.{laid_part, laid_front}
use Rattle.lists.proofs.filled.Filled.extend.Goals as goal

pub returns : goal.returns
returns g c =
    let f = c.args.self.now in
    let xs = c.args.items.now in
    let count : length (take f.len f.room.now) ≡ f.len = length-take-le _ _ f.within in
    let fits : f.len + length xs ≤ length f.room.now = omega (arith, count, c.left.ensures, c.if-left-items.false) in
    let placed = laid_part f.room.now c.copy_from_slice.new.self xs f.len c.copy_from_slice.ensures.after in
    record {
      answer = record {
        free = omega (arith, count);
        items = ap (take (f.len + length xs)) placed ∙ laid_front f.room.now f.len xs fits;
        room = placed ∙ ap (λ n. laid f.room.now n xs) (sym count);
      };
      lender = refl {a = f.room.ghost_name};
    }
