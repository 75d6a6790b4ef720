use Rattle.diagrams.proofs.Rows.{shallow}
use Rattle.diagrams.proofs.Engine.{task_makes, task_unfolds, task_enough, task_stable, task_settled}
use Rattle.diagrams.proofs.Outrights.{outright_is}
use Rattle.diagrams.proofs.theorems.work_stands.Goals as goal

pub returns : goal.returns
returns c g laws N S cap t v = record {
  makes = task_makes g laws cap N t S v;
  unfolds = task_unfolds g laws cap N t S v;
  enough = task_enough g laws cap N t S v;
  shallow = shallow N t S v;
  stable = task_stable g laws cap N t S v;
  settled = task_settled g laws cap N t S v;
  outright_is = outright_is g N t;
}
