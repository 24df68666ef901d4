-- Worked logs: a log is given by its kinds, all else 0. Assumes nothing.
use Rattle.std.specs.Prelude.{◌≡◌, ℕ, true, false, List, [], ◌∷◌, ◌++◌, map, length, replicate, Some, None, Ok, Err, Result}
use Rattle.std.proofs.Common.{lit≤}
use Rattle.feed.specs.Lines.{line_of}
use Rattle.feed.specs.declared.fields.Field.{Field}
use Rattle.feed.specs.declared.fields.Field.TheVariants.{Time, Kind, Run}
use Rattle.feed.specs.declared.lines.Line.{Line}
use Rattle.book.specs.Rules.{Pattern, never, lines, Rule, duty, trigger, bracket}
use Rattle.book.specs.declared.terms.Letter.TheVariants as letter
use Rattle.book.specs.declared.terms.Operand.TheVariants.{Number, Bound}
use Rattle.book.specs.declared.terms.Part.TheVariants as part
use Rattle.book.specs.declared.terms.Sum.TheVariants.{One, Two}
use Rattle.book.specs.declared.terms.Sign.TheVariants.{AtLeast}
use Rattle.book.specs.declared.terms.DutyKind.TheVariants.{Must, MustNot}
use Rattle.book.specs.declared.terms.TriggerKind.TheVariants.{Each, Once}
use Rattle.book.specs.declared.terms.BracketKind.TheVariants.{Else}
use Rattle.duty.specs.Matching.{unbound}
use Rattle.duty.specs.Verdicts.{verdict}
use Rattle.duty.specs.Sheet.{entry, rule_sheet, book_sheet}
use Rattle.duty.specs.declared.verdicts.Verdict.TheVariants.{Pending, Satisfied, Breached}

-- a line whose values are within their limits; else the line of zeros
abbrev pub or_zeros : Result Line Field → Line
or_zeros (Ok l) = l
or_zeros (Err f) =
    record {
      time = 0;
      kind = 0;
      machine = 0;
      crew = 0;
      run = 0;
      reading = 0;
      timed = lit≤ tt;
      kinded = lit≤ tt;
      machined = lit≤ tt;
      crewed = lit≤ tt;
      ran = lit≤ tt;
      read = lit≤ tt;
    }

abbrev pub of_kind : ℕ → Line
of_kind k = or_zeros (line_of 0 k 0 0 0 0)

-- `[kind k]`
abbrev pub kind_is : ℕ → Pattern
kind_is k = lines (record { field = Kind; operand = Number k } ∷ []) []

-- `must [kind 1] before [kind 2]`
abbrev pub task : Rule
task = duty Must (kind_is 1) (kind_is 2)

-- `must [] before []`
abbrev pub hopeless : Rule
hopeless = duty Must (lines [] []) (lines [] [])

-- `mustnot [kind 1] before never`
abbrev pub ban : Rule
ban = duty MustNot (kind_is 1) never

-- `each [kind 1] until [kind 9] then must [kind 3] before [kind 4]`
abbrev pub rounds : Rule
rounds = trigger Each (kind_is 1) (kind_is 9) (duty Must (kind_is 3) (kind_is 4))

-- the same `until never`
abbrev pub endless : Rule
endless = trigger Each (kind_is 1) never (duty Must (kind_is 3) (kind_is 4))

-- `once [kind 1] until never then must [kind 1] before never`
abbrev pub again : Rule
again = trigger Once (kind_is 1) never (duty Must (kind_is 1) never)

-- `(must [kind 3] before [kind 4] else must [kind 5] before never)`
abbrev pub substitute : Rule
substitute = bracket Else (duty Must (kind_is 3) (kind_is 4)) (duty Must (kind_is 5) never)

-- `[kind k, run A]`, and `[time C if C >= B + m]`
abbrev pub on_run : ℕ → Pattern
on_run k = lines (record { field = Kind; operand = Number k } ∷ record { field = Run; operand = Bound letter.A } ∷ []) []

abbrev pub late_by : ℕ → Pattern
late_by m =
    lines (record { field = Time; operand = Bound letter.C } ∷ [])
    (record { left = One (part.Bound letter.C); sign = AtLeast; right = Two (part.Bound letter.B) (part.Number m) } ∷ [])

-- `once [kind 10, run A, time B] until never then (must [kind 11, run A] before [time C if C >= B + 240]
-- else must [kind 12, run A] before [time C if C >= B + 360])`
abbrev pub timed : Rule
timed =
    trigger Once
    (lines (record { field = Kind; operand = Number 10 } ∷ record { field = Run; operand = Bound letter.A } ∷ record { field = Time; operand = Bound letter.B } ∷ []) [])
    never (bracket Else (duty Must (on_run 11) (late_by 240)) (duty Must (on_run 12) (late_by 360)))

abbrev pub timed_log : List Line
timed_log =
    or_zeros (line_of 100 10 7 3 21 0) ∷ or_zeros (line_of 200 11 7 3 22 0) ∷ or_zeros (line_of 340 5 7 3 21 250) ∷ []

pub record WorkedLogs : Type 0 where
  pub log1 : verdict task (map of_kind (1 ∷ [])) ≡ Satisfied 1
  pub log2 : verdict task (map of_kind (2 ∷ [])) ≡ Breached 1
  pub log3 : verdict task [] ≡ Pending
  pub log4 : verdict hopeless (map of_kind (7 ∷ [])) ≡ Breached 1
  pub log5 : verdict ban (map of_kind (3 ∷ 1 ∷ [])) ≡ Breached 2
  pub log6 : verdict rounds (map of_kind (1 ∷ 1 ∷ 3 ∷ 9 ∷ [])) ≡ Satisfied 4
  pub log7 : verdict rounds (map of_kind (1 ∷ 9 ∷ [])) ≡ Pending
  pub log7_sheet : rule_sheet rounds (map of_kind (1 ∷ 9 ∷ [])) ≡ entry 1 0 true unbound ∷ entry 2 1 false unbound ∷ []
  pub log7_then : verdict rounds (map of_kind (1 ∷ 9 ∷ 3 ∷ [])) ≡ Satisfied 3
  pub log8 : verdict rounds (map of_kind (1 ∷ 4 ∷ [])) ≡ Breached 2
  pub log9 : verdict again (map of_kind (1 ∷ [])) ≡ Pending
  pub log9_then : verdict again (map of_kind (1 ∷ 1 ∷ [])) ≡ Satisfied 2
  pub log10 : verdict substitute (map of_kind (5 ∷ 4 ∷ [])) ≡ Pending
  pub log10_then : verdict substitute (map of_kind (5 ∷ 4 ∷ 5 ∷ [])) ≡ Satisfied 3
  -- the letters of the duty that its first line opened
  pub timed_verdict : verdict timed timed_log ≡ Pending
  pub timed_sheet : rule_sheet timed timed_log ≡ entry 4 0 false (Some 21 ∷ Some 100 ∷ None ∷ None ∷ None ∷ None ∷ None ∷ None ∷ []) ∷ []
  -- 255 open duties fill the sheet; one more would need 257 places, and another line none
  pub full : length (book_sheet (endless ∷ []) (map of_kind (replicate 255 1))) ≡ 256
  pub over_full : length (book_sheet (endless ∷ []) (map of_kind (replicate 255 1 ++ (1 ∷ [])))) ≡ 257
  pub still_full : length (book_sheet (endless ∷ []) (map of_kind (replicate 255 1 ++ (2 ∷ [])))) ≡ 256
