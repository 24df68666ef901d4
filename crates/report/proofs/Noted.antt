-- A report by one item more. Assumes nothing.
use Rattle.std.proofs.Common.{◌≡◌, ◌+◌, min, List, [], ◌∷◌, ◌++◌, length, Some, vec_items, sym, refl, ap, ◌∙◌, append_assoc, append-nil, arith, length-append}
use Rattle.std.specs.Option.{option_or}
use Rattle.feed.specs.declared.faults.Fault.{Fault}
use Rattle.feed.specs.declared.faults.Item.{Item}
use Rattle.feed.specs.declared.faults.Item.TheVariants.{Sound, Faulty}
use Rattle.feed.specs.declared.lines.Line.{Line}
use Rattle.feed.specs.Waiting.{first, later}
use Rattle.report.specs.Reported.{sound_lines, faults_of, first_time_of, last_time_of, most_counted, Reports}
use Rattle.report.specs.declared.reports.Report.{Report}

sound_more : (xs ys : List Item) → sound_lines (xs ++ ys) ≡ sound_lines xs ++ sound_lines ys
sound_more [] ys = refl
sound_more (Sound l ∷ xs) ys = ap (λ ls. l ∷ ls) (sound_more xs ys)
sound_more (Faulty x ∷ xs) ys = sound_more xs ys

faults-more : (xs ys : List Item) → faults_of (xs ++ ys) ≡ faults_of xs ++ faults_of ys
faults-more [] ys = refl
faults-more (Sound l ∷ xs) ys = faults-more xs ys
faults-more (Faulty x ∷ xs) ys = ap (λ zs. x ∷ zs) (faults-more xs ys)

first_more : (ls : List Line) (l : Line) → first_time_of (ls ++ (l ∷ [])) ≡ option_or (first_time_of ls) (Some l.time)
first_more [] l = refl
first_more (m ∷ ls) l = refl

last_more : (ls : List Line) (l : Line) → last_time_of (ls ++ (l ∷ [])) ≡ Some l.time
last_more [] l = refl
last_more (m ∷ []) l = refl
last_more (m ∷ n ∷ ls) l = last_more (n ∷ ls) l

module _ (xs : List Item) (old new : Report) (reports : Reports xs old) where
  pub noted_sound : (l : Line) → new.sound ≡ min (old.sound + 1) most_counted → new.first_time ≡ option_or old.first_time (Some l.time) → new.last_time ≡ Some l.time → vec_items new.faults ≡ vec_items old.faults → Reports (xs ++ (Sound l ∷ [])) new
  noted_sound l counted first last faults =
      let lines : sound_lines (xs ++ (Sound l ∷ [])) ≡ sound_lines xs ++ (l ∷ []) = sound_more xs (Sound l ∷ []) in
      let long : length (sound_lines (xs ++ (Sound l ∷ []))) ≡ length (sound_lines xs) + 1 = ap length lines ∙ length-append (sound_lines xs) (l ∷ []) in
      record {
        sound = rw long (counted ∙ ap (λ n. min (n + 1) most_counted) reports.sound ∙ omega arith);
        first_time = first ∙ ap (λ t. option_or t (Some l.time)) reports.first_time ∙ sym (ap first_time_of lines ∙ first_more (sound_lines xs) l);
        last_time = last ∙ sym (ap last_time_of lines ∙ last_more (sound_lines xs) l);
        faults = faults ∙ reports.faults ∙ sym (faults-more xs (Sound l ∷ []) ∙ append-nil (faults_of xs));
      }

  pub noted_fault : (x : Fault) → new.sound ≡ old.sound → new.first_time ≡ old.first_time → new.last_time ≡ old.last_time → vec_items new.faults ≡ vec_items old.faults ++ (x ∷ []) → Reports (xs ++ (Faulty x ∷ [])) new
  noted_fault x counted first last faults =
      let lines : sound_lines xs ≡ sound_lines (xs ++ (Faulty x ∷ [])) = sym (sound_more xs (Faulty x ∷ []) ∙ append-nil (sound_lines xs)) in
      record {
        sound = counted ∙ reports.sound ∙ ap (λ ls. min (length ls) most_counted) lines;
        first_time = first ∙ reports.first_time ∙ ap first_time_of lines;
        last_time = last ∙ reports.last_time ∙ ap last_time_of lines;
        faults = faults ∙ ap (λ zs. zs ++ (x ∷ [])) reports.faults ∙ sym (faults-more xs (Faulty x ∷ []));
      }

-- the first of what waits is noted, and the rest still waits
pub one_noted : (before noted now after : List Item) (x : Item) → before ≡ noted ++ now → Some x ≡ first now → after ≡ later now → before ≡ (noted ++ (x ∷ [])) ++ after
one_noted before noted [] after x e some rest = cc
one_noted before noted (y ∷ now) after x e some rest =
    let same : x ≡ y = cc in
    rw (append_assoc, same, rest) e
