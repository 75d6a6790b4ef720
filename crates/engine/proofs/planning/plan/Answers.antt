use Rattle.diagrams.proofs.Outrights.{join_works, meet_works, without_works, carry_works, follow_works, pick_works}
use Rattle.tables.specs.Rows.{rows}
use Rattle.engine.proofs.Readings.{read_kind}
use Rattle.engine.proofs.planning.plan.Goals as goal

pub returns-in-Join : goal.returns-in-Join
returns-in-Join g c =
    let N = rows c.args.table.now in
    read_kind g.G.Chain.table N c.in-Join.is c.paired.ensures c.requires.work (join_works g.G.Chain.table N c.in-Join.a c.in-Join.b)

pub returns-in-Meet : goal.returns-in-Meet
returns-in-Meet g c =
    let N = rows c.args.table.now in
    read_kind g.G.Chain.table N c.in-Meet.is c.paired-in-Meet.ensures c.requires.work (meet_works g.G.Chain.table N c.in-Meet.a c.in-Meet.b)

pub returns-in-Without : goal.returns-in-Without
returns-in-Without g c =
    let N = rows c.args.table.now in
    read_kind g.G.Chain.table N c.in-Without.is c.paired-in-Without.ensures c.requires.work (without_works g.G.Chain.table N c.in-Without.a c.in-Without.b)

pub returns-in-Carry : goal.returns-in-Carry
returns-in-Carry g c =
    let N = rows c.args.table.now in
    read_kind g.G.Chain.table N c.in-Carry.is c.carry.ensures c.requires.work (carry_works g.G.Chain.table N c.in-Carry.a c.in-Carry.h)

pub returns-in-Follow : goal.returns-in-Follow
returns-in-Follow g c =
    let N = rows c.args.table.now in
    read_kind g.G.Chain.table N c.in-Follow.is c.follow.ensures c.requires.work (follow_works g.G.Chain.table N c.in-Follow.a c.in-Follow.b)

pub returns-in-Pick : goal.returns-in-Pick
returns-in-Pick g c =
    let N = rows c.args.table.now in
    read_kind g.G.Chain.table N c.in-Pick.is c.pick.ensures c.requires.work (pick_works g.G.Chain.table N c.in-Pick.a c.in-Pick.k c.in-Pick.p)
