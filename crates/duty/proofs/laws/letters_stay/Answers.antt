use Rattle.duty.proofs.LettersShown.{letters_stay}
use Rattle.duty.proofs.laws.letters_stay.Goals as goal

pub returns : goal.returns
returns c = letters_stay
