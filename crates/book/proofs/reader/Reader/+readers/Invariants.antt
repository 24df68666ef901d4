use Rattle.std.proofs.Common.{◌+◌, ◌-◌, ◌*◌}
use Rattle.book.proofs.reader.Reader.+readers.Given as goal

-- Nodes may still stand inside one another while this falls.
abbrev pub decreases-read_rule : goal.decreases-read_rule
decreases-read_rule l = 3 * (9 - l.place.now.around) + 2

abbrev pub decreases-read_bracket : goal.decreases-read_bracket
decreases-read_bracket l = 3 * (9 - l.place.now.around) + 1

abbrev pub decreases-read_trigger : goal.decreases-read_trigger
decreases-read_trigger l = 3 * (9 - l.place.now.around) + 1

abbrev pub decreases-read_inside : goal.decreases-read_inside
decreases-read_inside l = 3 * (9 - l.place.now.around)
