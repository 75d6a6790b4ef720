use Rattle.std.proofs.Common.{◌≡◌, ◌<◌, length, sym, ◌∙◌, subst, arith, length-set}
use Rattle.diagrams.specs.Table.{Sound}
use Rattle.tables.specs.Hashing.{bucket}
use Rattle.tables.specs.Rows.{rows}
use Rattle.tables.proofs.Rows.{length_rows, take_more}
use Rattle.tables.proofs.Chains.{heads_put, links_put}
use Rattle.tables.proofs.table.Table.push.Goals as goal

pub bounds-self-i : goal.bounds-self-i
bounds-self-i c = let e = length_rows c.args.self.now in omega (arith, c.requires.room)

pub bounds-self-i-2 : goal.bounds-self-i-2
bounds-self-i-2 c = let e = length_rows c.args.self.now in omega (arith, c.requires.room)

pub invariant_of-self : goal.invariant_of-self
unfolding rows
invariant_of-self c =
    let t = c.args.self.now in
    let a = c.args.node in
    let b = c.bucket-b in
    let falls : b.result ≡ bucket a.x a.y a.lo a.hi = rw c.branch-node.ensures at b.ensures.is in
    let e = length_rows t in
    let free : t.len < length t.nodes = omega (arith, t.long, c.requires.room) in
    let chained : t.len < length t.next = omega (arith, t.deep, c.requires.room) in record { long = length-set _ _ _ ∙ t.long; wide = length-set _ _ _ ∙ t.wide; deep = length-set _ _ _ ∙ t.deep; within = omega (arith, c.requires.room); headed = heads_put t.nodes t.len a b.result falls b.ensures.below free t.heads t.wide t.headed; linked = links_put t.nodes t.len a b.result falls b.ensures.below free t.heads t.next chained t.headed t.linked; sound = ∣ subst Sound (sym (take_more t.nodes t.len a free)) c.requires.sound ∣₁ }

pub returns : goal.returns
unfolding rows
returns c =
    let t = c.args.self.now in
    let e = length_rows t in
    let free : t.len < length t.nodes = omega (arith, t.long, c.requires.room) in
    record { rows = take_more t.nodes t.len c.args.node free; number = omega arith }
