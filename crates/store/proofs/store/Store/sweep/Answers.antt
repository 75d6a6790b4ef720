use Rattle.std.proofs.Common.{◌≡◌, ◌+◌, length, get_or, None, sym, refl, ap, ◌∙◌, zero-le, arith}
use Rattle.tables.specs.Rows.{rows}
use Rattle.tables.proofs.Rows.{sound_of}
use Rattle.sweeps.specs.Sweeping.{swept, pegs_after}
use Rattle.sweeps.proofs.Laws.{sweep as sweep_law}
use Rattle.store.specs.Views.{view}
use Rattle.store.specs.Steps.{After, left, sweep, step}
use Rattle.store.proofs.Holds.{holds_stand}
use Rattle.store.proofs.Sweeps.{pegs_long, pegs_there, sweep_fine, sweep_last}
use Rattle.store.proofs.store.Store.sweep.Goals as goal

pub returns-then-self : goal.returns-then-self
returns-then-self g c = record {
  does = record {
    after = sweep_last g.G.Chain.table (view c.args.self.now) c.if-self.true;
    most = zero-le;
    just = λ never. refl;
  };
  law = tt;
  lasts = λ h k. k;
  forgot = tt;
}

pub sweep-requires : goal.sweep-requires
sweep-requires g c = rw c.table.ensures c.args.self.now.pegged

pub invariant_of-self : goal.invariant_of-self
invariant_of-self g c =
    let s = c.args.self.now in
    let N = rows s.engine.table in
    let P = s.pegs in
    let nodes : rows c.replace.new.self.table ≡ swept N P =
    ap rows c.replace.ensures.table ∙ c.sweep.ensures.nodes ∙ ap (λ t. swept (rows t) P) c.table.ensures in
    let pegs : c.sweep.result.pegs ≡ pegs_after N P = c.sweep.ensures.held ∙ ap (λ t. pegs_after (rows t) P) c.table.ensures in
    record {
      long = ap length pegs ∙ pegs_long N P ∙ s.long;
      roomed = c.replace.ensures.room ∙ s.roomed;
      pegged = λ p n e. rw nodes (pegs_there N P (sound_of s.engine.table) s.pegged p n (ap (λ l. get_or l p None) (sym pegs) ∙ e));
    }

pub returns : goal.returns
returns g c =
    let s = c.args.self.now in
    let w = view s in
    let N = w.nodes in
    let P = w.pegs in
    let made : rows c.sweep.result.table ≡ swept N P = c.sweep.ensures.nodes ∙ ap (λ t. swept (rows t) P) c.table.ensures in
    let nodes : rows c.replace.new.self.table ≡ swept N P = ap rows c.replace.ensures.table ∙ made in
    let pegs : c.sweep.result.pegs ≡ pegs_after N P = c.sweep.ensures.held ∙ ap (λ t. pegs_after (rows t) P) c.table.ensures in
    let many : c.len-left.result ≡ length (swept N P) = c.len-left.ensures.is ∙ ap length made in
    let t = g.G.Chain.table in
    let after : ◌≡◌ {A = After} (record { plan = w.plan; season = w.season + 1; nodes = rows c.replace.new.self.table; pegs = c.sweep.result.pegs }, left c.len-left.result) (step t w sweep) =
    (λ i. (record { plan = w.plan; season = w.season + 1; nodes = nodes i; pegs = pegs i }, left (many i))) ∙ sweep_fine t w (omega arith) in
    record {
      does = record {
        after = after;
        most = zero-le;
        just = λ never. refl;
      };
      law = sweep_law N P (sound_of s.engine.table) s.pegged;
      lasts = λ h k. (holds_stand t).lasts w _ h (sym (ap (λ (r : After). r.0) after)) k;
      forgot = c.replace.ensures.emptied;
    }
