use Rattle.std.proofs.Common.{◌≡◌, ℕ, ◌<◌, get_or, arith, rules}
use Rattle.std.proofs.lemmas.Result.{MatchResult-weaker}
use Rattle.orders.proofs.Runs.{filled}
use Rattle.lines.specs.Held.{place_of}
use Rattle.lines.proofs.Places.{writes_held, refused_held}
use Rattle.lines.proofs.rows.order_of.Goals as goal
use Rattle.lines.proofs.rows.order_of.Goals.{After-from_row}

each : (c : After-from_row) → (j : ℕ) → j < c.args.row.count → get_or c.from_fn.result j 0 ≡ place_of (get_or c.args.row.values j 0)
each c j h = filled _ (λ k. place_of (get_or c.args.row.values k 0)) _ c.from_fn.ensures.items (λ k y q l called. search rules) j (omega (arith, c.args.row.few))

pub returns : goal.returns
returns c = MatchResult-weaker c.from_row.result c.from_row.ensures (writes_held c.args.row c.from_fn.result (each c)) (refused_held c.args.row c.from_fn.result (each c))
