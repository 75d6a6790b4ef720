use Rattle.catalogue.proofs.Agrees.{agreed}
use Rattle.catalogue.proofs.agreement.agreement_stands.Goals as goal

pub returns : goal.returns
returns g c = agreed g.row.G.Denot g.row.C.Denot g.row.D.Denot g.G.Chain g.C.Cache g.D.Cache g.met.G.Chain.laws g.met.G.Chain.coded
