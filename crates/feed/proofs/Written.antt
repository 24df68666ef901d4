-- A line in packed form, read back. Assumes nothing.
use Rattle.std.proofs.Common.{◌≡◌, ◌<◌, Ok, sym, ap, arith}
use Rattle.std.proofs.lemmas.Nat.{div-mul-add, mod-mul-add}
use Rattle.feed.specs.Faults.{naming}
use Rattle.feed.specs.Packed.{packed_line, packed_words}
use Rattle.feed.specs.declared.faults.FaultKind.TheVariants.{OverLimit}
use Rattle.feed.specs.declared.lines.Line.{Line}
use Rattle.feed.proofs.Limited.{line_of_lem}

-- the packed form of a line reads as the line
pub read_back : (l : Line) → packed_line (packed_words l) ≡ Ok l
read_back l =
    let machine : l.machine < 65536 = omega (arith, l.machined) in
    let run : l.run < 65536 = omega (arith, l.ran) in
    rw (div-mul-add l.kind 65536 l.machine machine, mod-mul-add l.kind 65536 l.machine machine, div-mul-add l.crew 65536 l.run run, mod-mul-add l.crew 65536 l.run run) (ap (naming OverLimit) (sym (line_of_lem l)))
