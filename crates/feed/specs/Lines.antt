-- A line by its fields. Assumes nothing.
use Rattle.std.specs.Prelude.{ℕ, ◌≤◌, Bool, true, false, T, Ok, Err, Result, nat_le}
use Rattle.std.proofs.Common.{lit≤}
use Rattle.feed.specs.Limits.{limit}
use Rattle.feed.specs.declared.fields.Field.{Field}
use Rattle.feed.specs.declared.fields.Field.TheVariants.{Time, Kind, Machine, Crew, Run, Reading}
use Rattle.feed.specs.declared.lines.Line.{Line}

-- the value of a field
abbrev pub value : Line → Field → ℕ
value l Time = l.time
value l Kind = l.kind
value l Machine = l.machine
value l Crew = l.crew
value l Run = l.run
value l Reading = l.reading

-- goes on where the test holds, with that it does, and ends with x where it fails
abbrev pub where_holds : {X : Type 0} → (test : Bool) → (T test → X) → X → X
where_holds true go x = go tt
where_holds false go x = x

-- goes on where n is within the limit of field f, and names f where it is not
unfoldable pub limited : (f : Field) (n : ℕ) → (n ≤ limit f → Result Line Field) → Result Line Field
limited f n go = where_holds (nat_le n (limit f)) (λ h. go (lit≤ h)) (Err f)

-- the line with these values, or the lowest field whose value is over its limit
unfoldable pub line_of : (time kind machine crew run reading : ℕ) → Result Line Field
line_of t k m c u r =
    limited Time t (λ timed.
    limited Kind k (λ kinded.
    limited Machine m (λ machined.
    limited Crew c (λ crewed.
    limited Run u (λ ran.
    limited Reading r (λ read.
    Ok (record {
      time = t;
      kind = k;
      machine = m;
      crew = c;
      run = u;
      reading = r;
      timed = timed;
      kinded = kinded;
      machined = machined;
      crewed = crewed;
      ran = ran;
      read = read;
    })))))))
