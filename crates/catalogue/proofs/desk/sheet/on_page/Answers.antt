use Rattle.std.proofs.Common.{◌≡◌, ℕ, List, length, replicate, Ok, Result, sym, ap, ◌∙◌, length-take-le}
use lib.ListN.{length-replicate}
use Rattle.orders.specs.declared.refusal.Refusal.{Refusal}
use Rattle.store.specs.Views.{View, view}
use Rattle.store.specs.Questions.{handle_asked}
use Rattle.deposits.specs.Writing.{sheet_text}
use Rattle.catalogue.specs.declared.request.Name.{Name}
use Rattle.catalogue.specs.Calls.{sheet_on}
use Rattle.catalogue.specs.Requests.{handle_named, page}
use Rattle.catalogue.proofs.Makes.{sheet_fits, sheet_short}
use Rattle.catalogue.proofs.desk.sheet.on_page.Goals as goal

-- the page as it is at first
abbrev blank : List ℕ
blank = replicate 40000 0

on_page : (r : Result (List ℕ) Refusal) (code : ℕ) (w : View) (n : Name) → r ≡ sheet_on (handle_asked w (handle_named n)) (sheet_text code w.nodes n.number) (length blank)
    → r ≡ sheet_on (handle_asked w (handle_named n)) (sheet_text code w.nodes n.number) page
on_page r code w n e = e ∙ ap (sheet_on (handle_asked w (handle_named n)) (sheet_text code w.nodes n.number)) (length-replicate {A = ℕ} 40000 0)

pub slice_bounds-page-end : goal.slice_bounds-page-end
slice_bounds-page-end g c = (sheet_fits g.G.Chain.CODE (view c.args.store.now) (handle_named c.args.name) blank c.written.new.page c.in-Ok.end c.in-Ok.ensures).0

pub slice_bounds-to_vec-end : goal.slice_bounds-to_vec-end
slice_bounds-to_vec-end g c =
    let fits = sheet_fits g.G.Chain.CODE (view c.args.store.now) (handle_named c.args.name) blank c.written.new.page c.in-Ok.end c.in-Ok.ensures in
    sym (length-take-le c.in-Ok.end c.written.new.page fits.0)

pub returns-in_ok-to_vec-in-Ok : goal.returns-in_ok-to_vec-in-Ok
returns-in_ok-to_vec-in-Ok g c =
    let fits = sheet_fits g.G.Chain.CODE (view c.args.store.now) (handle_named c.args.name) blank c.written.new.page c.in-Ok.end c.in-Ok.ensures in
    ap (λ (b : List ℕ). Ok b) (c.in_ok-to_vec-in-Ok.ensures.items_if_clones_equal (λ x y h. h)) ∙ on_page _ g.G.Chain.CODE (view c.args.store.now) c.args.name fits.1

pub returns-in-Err : goal.returns-in-Err
returns-in-Err g c =
    on_page _ g.G.Chain.CODE (view c.args.store.now) c.args.name
    (sheet_short g.G.Chain.CODE (view c.args.store.now) (handle_named c.args.name) blank c.written.new.page c.in-Err.refusal c.in-Err.ensures)
