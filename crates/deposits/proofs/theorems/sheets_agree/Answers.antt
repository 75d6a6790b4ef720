use Rattle.deposits.proofs.Agrees.{sheets_agree}
use Rattle.deposits.proofs.theorems.sheets_agree.Goals as goal

pub returns : goal.returns
returns c chain few g laws N M S T n m en em ln lm = sheets_agree chain few g laws N M S T n m en em ln lm
