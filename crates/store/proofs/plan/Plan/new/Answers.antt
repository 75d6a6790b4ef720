use Rattle.std.proofs.Common.{◌≡◌, ℕ, ◌<◌, Some, None, Ok, Err, Option, refl, sym, ◌∙◌, subst, arith}
use Rattle.std.proofs.lemmas.Bool.Decides.{nat_tests}
use Rattle.std.proofs.lemmas.Result.{err_from_is_err_and}
use Rattle.std.specs.Option.{ok_or}
use Rattle.orders.specs.declared.refusal.Refusal.{Refusal}
use Rattle.engine.specs.declared.room.Room.{Room}
use Rattle.engine.specs.Rooms.{Sized}
use Rattle.store.specs.Questions.{plan_asked}
use Rattle.store.proofs.plan.Plan.new.Goals as goal

-- a room that was given has the capacity
given : (n : ℕ) (o : Option Room) (e : Refusal) (r : Room) → Sized n o → ok_or o e ≡ Ok r → r.nodes ≡ n
given n (Some q) e r h is = let same : q ≡ r = cc in subst (λ (x : Room). x.nodes ≡ n) same h
given n None e r h is = let z : ◌≡◌ {A = ℕ} 0 1 = cc in absurd (omega arith)

-- and none is given where the capacity is more than a table's
none : (n : ℕ) (o : Option Room) (e x : Refusal) → Sized n o → ok_or o e ≡ Err x → (2046 < n) × (x ≡ e)
none n (Some q) e x h is = let z : ◌≡◌ {A = ℕ} 0 1 = cc in absurd (omega arith)
none n None e x h is = (h, cc)

pub returns-then-pieces-lt2 : goal.returns-then-pieces-lt2
unfolding plan_asked
returns-then-pieces-lt2 c = grind (arith, nat_tests)

pub returns-then-capacity-eq0 : goal.returns-then-capacity-eq0
unfolding plan_asked
returns-then-capacity-eq0 c = grind (arith, nat_tests)

pub returns-in_err-room : goal.returns-in_err-room
unfolding plan_asked
returns-in_err-room c =
    let more = none c.args.capacity _ _ _ c.new.ensures (sym c.ok_or.ensures.value ∙ c.in_err-room.was) in
    let p = err_from_is_err_and c.from_residual.result c.from_residual.ensures.1 in
    rw (p.1, p.2, more.1) (let m = more.0 in grind (arith, nat_tests))

pub returns : goal.returns
unfolding plan_asked
returns c =
    let is = given c.args.capacity _ _ _ c.new.ensures (sym c.ok_or.ensures.value ∙ c.in_ok-room.was) in
    let within = c.in_ok-room.room.within in
    record {
      asked = grind (arith, nat_tests);
      pieces_is = refl;
      capacity_is = is;
      season_is = refl;
      mark_is = refl;
    }
