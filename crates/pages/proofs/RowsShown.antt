-- The number of a mark.
use Rattle.std.proofs.Common.{◌≡◌, Bool, true, false, refl}
use Rattle.std.specs.Int.{from_bool}
use Rattle.duty.specs.Sheet.{mark_number}

pub marked : (mark : Bool) → from_bool mark ≡ mark_number mark
marked true = refl
marked false = refl
