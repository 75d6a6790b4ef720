use Rattle.sheets.proofs.Listings.{Listing}
use Rattle.sheets.proofs.listing.list_lines.Given as goal

abbrev pub invariant-loop-n : goal.invariant-loop-n
invariant-loop-n l = Listing l.nodes.rows.now l.marks l.n-items l.initial.lines l.lines l.n-index
