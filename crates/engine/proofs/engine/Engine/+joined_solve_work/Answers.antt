-- The ring of the engine. Each answer is one step along a plan.
use Rattle.std.proofs.Common.{◌≡◌, ℕ, sym, refl, ◌∙◌, arith}
use Rattle.std.proofs.lemmas.Result.{IfOk-from_err}
use Rattle.orders.specs.Chains.{ChainLaws}
use Rattle.diagrams.specs.declared.Task.TheVariants.{Join}
use Rattle.diagrams.specs.Moves.{Moves}
use Rattle.diagrams.specs.Script.{go}
use Rattle.diagrams.specs.Bodies.{body}
use Rattle.diagrams.specs.Work.{measure, task}
use Rattle.tables.specs.Rows.{rows}
use Rattle.engine.specs.declared.plan.Rest.{Rest}
use Rattle.engine.specs.declared.plan.Last.{Last}
use Rattle.engine.specs.Plans.{rest_of, last_of}
use Rattle.engine.specs.Answers.{Forgets}
use Rattle.engine.proofs.Keeping.{never}
use Rattle.engine.proofs.Along.{Along, first_meets, opened, closed, ended, handed, entered, second, refused, added, declined, task_answered, task_refused}
use Rattle.engine.proofs.Solving.{once_one, once_none, asked, told_of, solved_outright, solved_known, refused_worked, solved_worked, kept_worked}
use Rattle.engine.proofs.engine.Engine.+joined_solve_work.Given.{Over}
use Rattle.engine.proofs.engine.Engine.+joined_solve_work.Goals as goal
use Rattle.engine.proofs.engine.Engine.+joined_solve_work.Goals.{work-In_ok-low, work-After-saturating_add-entries}

-- the chain's moves and their laws, and that the cache never remembers
abbrev moves : Over → Moves
moves g = g.G.Chain.table

abbrev laws : (g : Over) → ChainLaws (moves g)
laws g = g.met.G.Chain.laws

abbrev Blank : Over → Type 0
Blank g = Forgets g.row.C.Denot g.C.Cache.recalls

pub joined-returns-in_err-found : goal.joined-returns-in_err-found
joined-returns-in_err-found g t c = record {
  room = c.solve.ensures.room;
  rule = λ n k. task_refused (moves g) c.args.self.now.room.nodes (Blank g) (rows c.args.self.now.table) (Join c.args.a c.args.b) c.solve.new.self.table c.args.entries n k
      c.in_err-found.field-0.0 c.in_err-found.ensures.rule c.from_residual.result c.from_residual.ensures.1;
}

pub joined-returns : goal.joined-returns
joined-returns g t c = record {
  room = c.solve.ensures.room;
  rule = λ n k. task_answered (moves g) c.args.self.now.room.nodes (Blank g) (rows c.args.self.now.table) (Join c.args.a c.args.b) c.solve.new.self.table c.args.entries n k
      c.in_ok-found.found c.in_ok-found.ensures.rule c.saturating_add.ensures;
}

pub solve-returns-in-Some : goal.solve-returns-in-Some
solve-returns-in-Some g t c =
    let out = sym c.in-Some.ensures in
    record {
      room = refl;
      rule = solved_outright (moves g) (laws g) c.args.self.now.room.nodes (Blank g) c.args.self.now.table c.args.task c.requires c.in-Some.set out;
      told = λ _ none. absurd (never _ c.in-Some.set out none);
      once = once_one _ c.in-Some.set;
    }

pub solve-returns-in-Some-ask : goal.solve-returns-in-Some-ask
solve-returns-in-Some-ask g t c =
    let rc = g.C.Cache.recalls c.args.self.now.cache in
    let e = asked c.args.task rc c.key-triple.ensures c.in-Some-ask.ensures in
    record {
      room = refl;
      rule = solved_known (moves g) (laws g) c.args.self.now.room.nodes (Blank g) c.args.self.now.table c.args.task c.requires rc c.args.self.now.kept c.in-Some-ask.set e
          (λ b. b c.args.self.now.cache _ _ _);
      told = λ _ _. e;
      once = once_one _ c.in-Some-ask.set;
    }

pub solve-returns-in_err-found : goal.solve-returns-in_err-found
solve-returns-in_err-found g t c =
    let rc = g.C.Cache.recalls c.args.self.now.cache in
    record {
      room = c.work.ensures.room;
      rule = refused_worked (moves g) (laws g) c.args.self.now.room.nodes (Blank g) c.args.self.now.table c.args.task c.requires c.work.new.self.table
          c.in_err-found.field-0.0 c.in_err-found.ensures.rule c.from_residual.result c.from_residual.ensures.1;
      told = IfOk-from_err _ _ c.from_residual.ensures.0;
      once = once_none _ (asked c.args.task rc c.key-triple.ensures c.in_default-ask.ensures);
    }

pub solve-returns : goal.solve-returns
solve-returns g t c =
    let rc = g.C.Cache.recalls c.args.self.now.cache in
    let before = g.C.Cache.recalls c.work.new.self.cache in
    let after = g.C.Cache.recalls c.tell.new.self in
    let K = c.work.new.self.table in
    let j = c.in_ok-found.found in
    let h = c.in_ok-found.ensures.rule in
    let told = told_of c.args.task before c.key-triple.ensures g.C.Cache.SURE after j.set c.tell.ensures in
    record {
      room = c.work.ensures.room;
      rule = solved_worked (moves g) (laws g) c.args.self.now.room.nodes (Blank g) c.args.self.now.table c.args.task c.requires K j h c.saturating_add.ensures;
      told = λ one _. told.surely one;
      once = once_none _ (asked c.args.task rc c.key-triple.ensures c.in_default-ask.ensures);
    }

pub work-solve-requires : goal.work-solve-requires
work-solve-requires g t c κs within =
    let o = first_meets (moves g) (laws g) c.args.self.now.room.nodes (Blank g) c.args.self.now.table c.args.task c.plan-plan.result c.requires.valid c.plan-plan.ensures in
    (omega (arith, o.1), (within.0, (within.1, o.0)))

-- what is left of the rule after the first answer
module _ (g : Over) (t : ℕ) (c : work-In_ok-low g t) where
  first : {rest : Rest} → c.plan-plan.result.rest ≡ rest
      → Along (moves g) (laws g) c.args.self.now.room.nodes (Blank g) (go c.args.self.now.room.nodes (task (moves g) c.args.self.now.room.nodes) (rows c.args.self.now.table) (body (moves g) (rows c.args.self.now.table) c.args.task) 0)
      (measure (rows c.args.self.now.table) c.args.task) c.solve.new.self.table (rest_of rest c.in_ok-low.low.set) c.in_ok-low.low.entries
  first = opened (moves g) (laws g) c.args.self.now.room.nodes (Blank g) c.args.self.now.table c.args.task c.plan-plan.result c.requires.valid c.plan-plan.ensures
      c.solve.new.self.table c.in_ok-low.low c.in_ok-low.ensures.rule

-- and after the second
module _ (g : Over) (t : ℕ) (c : work-After-saturating_add-entries g t) where
  both : {last : Last} → c.in-Then.last ≡ last
      → Along (moves g) (laws g) c.args.self.now.room.nodes (Blank g) (go c.args.self.now.room.nodes (task (moves g) c.args.self.now.room.nodes) (rows c.args.self.now.table) (body (moves g) (rows c.args.self.now.table) c.args.task) 0)
      (measure (rows c.args.self.now.table) c.args.task) c.solve-in-Then.new.self.table (last_of last c.in_ok-low.low.set c.in_ok-high-in-Then.high.set) c.saturating_add-entries.result
  both e =
      let a = opened (moves g) (laws g) c.args.self.now.room.nodes (Blank g) c.args.self.now.table c.args.task c.plan-plan.result c.requires.valid c.plan-plan.ensures
      c.solve.new.self.table c.in_ok-low.low c.in_ok-low.ensures.rule c.in-Then.is in
      second e c.in_ok-low.low.set a c.solve-in-Then.new.self.table c.in_ok-high-in-Then.high (rw c.solve.ensures.room at c.in_ok-high-in-Then.ensures.rule)
      c.saturating_add-entries.ensures

pub work-returns-in_err-low : goal.work-returns-in_err-low
work-returns-in_err-low g t c = record {
  room = c.solve.ensures.room;
  rule = closed (moves g) (laws g) c.args.self.now.room.nodes (Blank g) c.args.self.now.table c.args.task c.plan-plan.result c.requires.valid c.plan-plan.ensures
      c.solve.new.self.table c.in_err-low.field-0.0 c.in_err-low.ensures.rule c.from_residual.result c.from_residual.ensures.1;
}

pub work-returns-in-Pass : goal.work-returns-in-Pass
work-returns-in-Pass g t c =
    let a = first g t (goal.at.work-returns-in-Pass g t c).In_ok-low c.in-Pass.is in
    record { room = c.solve.ensures.room; rule = ended a }

pub work-made-requires : goal.work-made-requires
work-made-requires g t c =
    let a = first g t (goal.at.work-made-requires g t c).In_ok-low c.in-Over.is in
    a.meets.0

pub work-returns-in-Over : goal.work-returns-in-Over
work-returns-in-Over g t c =
    let a = first g t (goal.at.work-returns-in-Over g t c).In_ok-low c.in-Over.is in
    record { room = c.made.ensures.room ∙ c.solve.ensures.room; rule = handed a c.made.new.self.table _ (rw c.solve.ensures.room at c.made.ensures.rule) }

pub work-made-requires-in-Lift : goal.work-made-requires-in-Lift
work-made-requires-in-Lift g t c =
    let a = first g t (goal.at.work-made-requires-in-Lift g t c).In_ok-low c.in-Lift.is in
    a.meets.0

pub work-returns-in-Lift : goal.work-returns-in-Lift
work-returns-in-Lift g t c =
    let a = first g t (goal.at.work-returns-in-Lift g t c).In_ok-low c.in-Lift.is in
    record { room = c.made-in-Lift.ensures.room ∙ c.solve.ensures.room; rule = handed a c.made-in-Lift.new.self.table _ (rw c.solve.ensures.room at c.made-in-Lift.ensures.rule) }

pub work-solve-requires-in-Then : goal.work-solve-requires-in-Then
work-solve-requires-in-Then g t c κs within =
    let a = first g t (goal.at.work-solve-requires-in-Then g t c).In_ok-low c.in-Then.is in
    (omega (arith, a.meets.1), (within.0, (within.1, a.meets.0)))

pub work-returns-in_err-high-in-Then : goal.work-returns-in_err-high-in-Then
work-returns-in_err-high-in-Then g t c =
    let a = first g t (goal.at.work-returns-in_err-high-in-Then g t c).In_ok-low c.in-Then.is in
    record {
      room = c.solve-in-Then.ensures.room ∙ c.solve.ensures.room;
      rule = refused a c.solve-in-Then.new.self.table c.in_err-high-in-Then.field-0.0 (rw c.solve.ensures.room at c.in_err-high-in-Then.ensures.rule) c.from_residual-in_err-high-in-Then.result c.from_residual-in_err-high-in-Then.ensures.1;
    }

pub work-made-requires-in-Both : goal.work-made-requires-in-Both
work-made-requires-in-Both g t c =
    let b = both g t (goal.at.work-made-requires-in-Both g t c).After-saturating_add-entries c.in-Both.is in
    b.meets.0

pub work-returns-in-Both : goal.work-returns-in-Both
work-returns-in-Both g t c =
    let b = both g t (goal.at.work-returns-in-Both g t c).After-saturating_add-entries c.in-Both.is in
    record { room = c.made-in-Both.ensures.room ∙ c.solve-in-Then.ensures.room ∙ c.solve.ensures.room; rule = handed b c.made-in-Both.new.self.table _ (rw (c.solve-in-Then.ensures.room, c.solve.ensures.room) at c.made-in-Both.ensures.rule) }

pub work-joined-requires : goal.work-joined-requires
work-joined-requires g t c κs within =
    let b = both g t (goal.at.work-joined-requires g t c).After-saturating_add-entries c.in-Join.is in
    (omega (arith, b.meets.1), (within.0, (within.1, b.meets.0)))

pub work-returns-in-Join : goal.work-returns-in-Join
work-returns-in-Join g t c =
    let b = both g t (goal.at.work-returns-in-Join g t c).After-saturating_add-entries c.in-Join.is in
    record { room = c.joined.ensures.room ∙ c.solve-in-Then.ensures.room ∙ c.solve.ensures.room; rule = handed b c.joined.new.self.table _ (rw (c.solve-in-Then.ensures.room, c.solve.ensures.room) at c.joined.ensures.rule) }

pub work-add-requires : goal.work-add-requires
work-add-requires g t c =
    let b = both g t (goal.at.work-add-requires g t c).After-saturating_add-entries c.in-Raise.is in
    b.meets.0

pub work-returns-in_err-top-in-Raise : goal.work-returns-in_err-top-in-Raise
work-returns-in_err-top-in-Raise g t c =
    let b = both g t (goal.at.work-returns-in_err-top-in-Raise g t c).After-saturating_add-entries c.in-Raise.is in
    record {
      room = c.add.ensures.room ∙ c.solve-in-Then.ensures.room ∙ c.solve.ensures.room;
      rule = declined b c.add.new.self.table c.in_err-top-in-Raise.field-0.0 (rw (c.solve-in-Then.ensures.room, c.solve.ensures.room) at c.in_err-top-in-Raise.ensures.rule) c.from_residual-in_err-top-in-Raise.result c.from_residual-in_err-top-in-Raise.ensures.1;
    }

pub work-joined-requires-in-Raise : goal.work-joined-requires-in-Raise
work-joined-requires-in-Raise g t c κs within =
    let b = both g t (goal.at.work-joined-requires-in-Raise g t c).After-saturating_add-entries c.in-Raise.is in
    let d = added b c.add.new.self.table c.in_ok-top-in-Raise.top (rw (c.solve-in-Then.ensures.room, c.solve.ensures.room) at c.in_ok-top-in-Raise.ensures.rule) in
    (omega (arith, d.meets.1), (within.0, (within.1, d.meets.0)))

pub work-returns-in_ok-top-in-Raise : goal.work-returns-in_ok-top-in-Raise
work-returns-in_ok-top-in-Raise g t c =
    let b = both g t (goal.at.work-returns-in_ok-top-in-Raise g t c).After-saturating_add-entries c.in-Raise.is in
    let d = added b c.add.new.self.table c.in_ok-top-in-Raise.top (rw (c.solve-in-Then.ensures.room, c.solve.ensures.room) at c.in_ok-top-in-Raise.ensures.rule) in
    record { room = c.joined-in-Raise.ensures.room ∙ c.add.ensures.room ∙ c.solve-in-Then.ensures.room ∙ c.solve.ensures.room; rule = handed d c.joined-in-Raise.new.self.table _ (rw (c.add.ensures.room, c.solve-in-Then.ensures.room, c.solve.ensures.room) at c.joined-in-Raise.ensures.rule) }

pub work-solve-requires-in-Move : goal.work-solve-requires-in-Move
work-solve-requires-in-Move g t c κs within =
    let b = both g t (goal.at.work-solve-requires-in-Move g t c).After-saturating_add-entries c.in-Move.is in
    (omega (arith, b.meets.1), (within.0, (within.1, b.meets.0)))

pub work-returns-in_err-moved-in-Move : goal.work-returns-in_err-moved-in-Move
work-returns-in_err-moved-in-Move g t c =
    let b = both g t (goal.at.work-returns-in_err-moved-in-Move g t c).After-saturating_add-entries c.in-Move.is in
    record {
      room = c.solve-in-Move.ensures.room ∙ c.solve-in-Then.ensures.room ∙ c.solve.ensures.room;
      rule = refused b c.solve-in-Move.new.self.table c.in_err-moved-in-Move.field-0.0 (rw (c.solve-in-Then.ensures.room, c.solve.ensures.room) at c.in_err-moved-in-Move.ensures.rule) c.from_residual-in_err-moved-in-Move.result c.from_residual-in_err-moved-in-Move.ensures.1;
    }

pub work-joined-requires-in-Move : goal.work-joined-requires-in-Move
work-joined-requires-in-Move g t c κs within =
    let b = both g t (goal.at.work-joined-requires-in-Move g t c).After-saturating_add-entries c.in-Move.is in
    let d = entered b c.solve-in-Move.new.self.table c.in_ok-moved-in-Move.moved (rw (c.solve-in-Then.ensures.room, c.solve.ensures.room) at c.in_ok-moved-in-Move.ensures.rule) c.saturating_add-entries-in-Move.ensures in
    (omega (arith, d.meets.1), (within.0, (within.1, d.meets.0)))

pub work-returns-in_ok-moved-in-Move : goal.work-returns-in_ok-moved-in-Move
work-returns-in_ok-moved-in-Move g t c =
    let b = both g t (goal.at.work-returns-in_ok-moved-in-Move g t c).After-saturating_add-entries c.in-Move.is in
    let d = entered b c.solve-in-Move.new.self.table c.in_ok-moved-in-Move.moved (rw (c.solve-in-Then.ensures.room, c.solve.ensures.room) at c.in_ok-moved-in-Move.ensures.rule) c.saturating_add-entries-in-Move.ensures in
    record { room = c.joined-in-Move.ensures.room ∙ c.solve-in-Move.ensures.room ∙ c.solve-in-Then.ensures.room ∙ c.solve.ensures.room; rule = handed d c.joined-in-Move.new.self.table _ (rw (c.solve-in-Move.ensures.room, c.solve-in-Then.ensures.room, c.solve.ensures.room) at c.joined-in-Move.ensures.rule) }

pub solve-invariant_of-self : goal.solve-invariant_of-self
solve-invariant_of-self g t c =
    let s = c.work.new.self in
    let h = c.in_ok-found.ensures.rule in
    let after = g.C.Cache.recalls c.tell.new.self in
    let told = told_of c.args.task (g.C.Cache.recalls s.cache) c.key-triple.ensures g.C.Cache.SURE after c.in_ok-found.found.set c.tell.ensures in
    record {
      kept = rw c.work.ensures.room
          (kept_worked (moves g) (laws g) c.args.self.now.room.nodes (Blank g) c.args.self.now.table c.args.task c.requires s.table c.in_ok-found.found h _ after
          g.C.Cache.SURE told (rw c.work.ensures.room at s.kept));
    }
