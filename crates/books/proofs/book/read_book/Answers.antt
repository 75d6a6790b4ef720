use Rattle.std.proofs.Common.{◌≡◌, ℕ, List, length, ap, ◌∙◌, ap₂, arith}
use Rattle.lists.specs.Items.{items_of, room_of}
use Rattle.books.specs.Reading.{Outcome, rows}
use Rattle.books.proofs.Steps.{kept_cleared, kept_then}
use Rattle.books.proofs.Books.{exact, read_fault, read_rows}
use Rattle.books.proofs.book.read_book.Goals as goal

pub returns-in_err-book : goal.returns-in_err-book
returns-in_err-book c =
    let room = length (room_of c.args.list.now) in
    let text = c.args.bytes.now in
    let cs = items_of c.clear.new.self in
    let r = c.from_residual.result in
    let o = read_fault room text cs c.in_err-book.field-0.0 r c.from_residual.ensures.1 c.clear.ensures.items c.in_err-book.ensures in
    record {
      outcome = o;
      exact = exact room text cs r o;
      kept = kept_cleared c.args.list.now c.clear.new.self c.clear.ensures.room c.clear.ensures.lender;
    }

pub returns : goal.returns
returns c =
    let room = length (room_of c.args.list.now) in
    let text = c.args.bytes.now in
    let b = c.in_ok-book.book in
    let rest = c.in_ok-book.orders.now in
    let cleared = c.clear.new.self in
    let cs = items_of c.read_orders.new.list in
    let r = c.read_orders.result in
    let o : ◌≡◌ {A = Outcome} (cs, r) _ =
    c.read_orders.ensures.outcome
    ∙ ap₂ (λ (n : ℕ) (l : List ℕ). rows (length rest) b n l rest) (ap length c.clear.ensures.room) c.clear.ensures.items
    ∙ read_rows room text b rest c.in_ok-book.ensures in
    record {
      outcome = o;
      exact = exact room text cs r o;
      kept = kept_then c.args.list.now cleared c.read_orders.new.list (omega (arith, ap length c.clear.ensures.items))
          (kept_cleared c.args.list.now cleared c.clear.ensures.room c.clear.ensures.lender) c.read_orders.ensures.kept;
    }
