use Rattle.std.proofs.Common.{vec_items, sym, refl, ◌∙◌, subst, List, []}
use Rattle.catalogue.specs.declared.request.Answer.{Answer}
use Rattle.catalogue.specs.Replays.{Played}
use Rattle.catalogue.proofs.Plays.{played_none, played_more, played_all}
use Rattle.catalogue.proofs.desk.Desk.serve_all.Goals as goal

pub loop-request-init : goal.loop-request-init
loop-request-init g c =
    let s = c.args.self.now.store.now in
    record { lender = refl; played = subst (λ (answers : List Answer). Played s [] s answers) (sym c.new-answers.ensures.items) (played_none s c.args.requests.now) }

pub loop-request-preserved : goal.loop-request-preserved
loop-request-preserved g c = record {
  lender = c.serve.ensures.lender ∙ c.loop-request.invariant.lender;
  played = played_more c.args.self.now.store.now c.loop-request.self.store.now c.serve.new.self.store.now c.args.requests.now c.loop-request.request-index c.request-item.result
      (vec_items c.loop-request.answers) (vec_items c.push.new.self) c.in_ok-answer.answer c.loop-request-test.true c.request-item.is c.in_ok-push.ensures.items c.loop-request.invariant.played c.in_ok-answer.ensures.is;
}

pub returns-clause-is : goal.returns-clause-is
returns-clause-is g c = played_all c.args.self.now.store.now c.loop-request.self.store.now c.args.requests.now c.loop-request.request-index (vec_items c.loop-request.answers) c.loop-request-test.false c.loop-request.invariant.played
