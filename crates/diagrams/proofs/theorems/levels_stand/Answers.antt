use Rattle.diagrams.proofs.Levels.{level_x, level_y, level_inj, level_pos, level_most}
use Rattle.diagrams.proofs.theorems.levels_stand.Goals as goal

pub returns : goal.returns
returns c = record { by_x = level_x; by_y = level_y; of_one = level_inj; within = λ x y p. (level_pos x y p.1, level_most x y p.0 p.1 p.2) }
