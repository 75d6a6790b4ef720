-- What comes of a plan that is tested. Assumes nothing.
use Rattle.std.specs.Prelude.{◌≡◌, ℕ, Some, None}
use Rattle.orders.specs.declared.refusal.Refusal.{Refusal}
use Rattle.store.specs.declared.plan.Plan.{Plan}
use Rattle.store.specs.Questions.{plan_asked}

-- no question is left, and the plan has the numbers
pub record Planned (pieces capacity season mark : ℕ) (p : Plan) : Type 0 where
  pub asked : plan_asked pieces capacity ≡ None
  pub pieces_is : p.pieces ≡ pieces
  pub capacity_is : p.room.nodes ≡ capacity
  pub season_is : p.season ≡ season
  pub mark_is : p.mark ≡ mark

-- the first question that got a no
abbrev pub Unplanned : ℕ → ℕ → Refusal → Type 0
Unplanned pieces capacity e = plan_asked pieces capacity ≡ Some e
