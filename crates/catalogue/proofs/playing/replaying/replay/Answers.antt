use Rattle.std.proofs.Common.{ap, arith}
use Rattle.std.proofs.lemmas.Grind.{common_steps}
use Rattle.store.specs.Views.{View, view}
use Rattle.catalogue.specs.Racks.{slots_of}
use Rattle.catalogue.proofs.Agrees.{agreed}
use Rattle.catalogue.proofs.Plays.{alike}
use Rattle.catalogue.proofs.Racking.{racked_none, racked_out}
use Rattle.catalogue.proofs.playing.replaying.replay.Goals as goal

pub returns-in_err-rack-clause-agreement : goal.returns-in_err-rack-clause-agreement
returns-in_err-rack-clause-agreement g c = agreed g.row.G.Denot g.row.C.Denot g.row.D.Denot g.G.Chain g.C.Cache g.D.Cache g.met.G.Chain.laws g.met.G.Chain.coded

pub new-desk-requires : goal.new-desk-requires
new-desk-requires g c = racked_none (view c.begin-store.result) (slots_of c.in_ok-rack.rack) c.in_ok-rack.ensures (ap (λ (w : View). w.pegs) c.begin-store.ensures.view_is)

pub give_back-requires : goal.give_back-requires
give_back-requires g c = let d = c.serve_all-served.new.self in racked_out (view d.store.now) (slots_of d.rack) d.racked

pub returns-in_err-served-clause-agreement : goal.returns-in_err-served-clause-agreement
returns-in_err-served-clause-agreement g c = agreed g.row.G.Denot g.row.C.Denot g.row.D.Denot g.G.Chain g.C.Cache g.D.Cache g.met.G.Chain.laws g.met.G.Chain.coded

pub returns-clause-run : goal.returns-clause-run
returns-clause-run g c =
    let opened = c.new-desk.ensures.lender in
    let served = c.in_ok-served.ensures.lender in
    let given = c.give_back.ensures in
    record {
      last = c.serve_all-served.new.self.store.now;
      reached = record { first = c.begin-store.result; begun = c.begin-store.ensures; runs = rw c.new-desk.ensures.is at c.in_ok-served.ensures.is };
      back = grind (arith, common_steps);
    }

pub returns-clause-alike : goal.returns-clause-alike
returns-clause-alike g c =
    alike g.D.Cache c.args.plan c.args.requests.now _
    (agreed g.row.G.Denot g.row.C.Denot g.row.D.Denot g.G.Chain g.C.Cache g.D.Cache g.met.G.Chain.laws g.met.G.Chain.coded)
    (returns-clause-run g c)

pub returns-clause-agreement : goal.returns-clause-agreement
returns-clause-agreement g c = agreed g.row.G.Denot g.row.C.Denot g.row.D.Denot g.G.Chain g.C.Cache g.D.Cache g.met.G.Chain.laws g.met.G.Chain.coded
