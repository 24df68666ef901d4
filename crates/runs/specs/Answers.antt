-- What is answered to a call, by its numbers. Assumes nothing.
use Rattle.std.specs.Prelude.{ℕ, Ok, Err, Option, Result}
use Rattle.std.specs.Option.{option_map}
use Rattle.std.specs.Result.{result_err}
use Rattle.auditor.specs.Answers.{refusal_numbers, stop_refusal}
use Rattle.auditor.specs.declared.answers.Refusal.{Refusal}
use Rattle.runs.specs.declared.calls.Answer.{Answer}
use Rattle.runs.specs.declared.calls.Answer.TheVariants.{Took, Skipped, Paged}
use Rattle.runs.specs.declared.calls.AnswerNumbers.{AnswerNumbers}

-- the refusal, where the call was refused
abbrev pub answer_refusal : Answer → Option Refusal
answer_refusal (Took t) = stop_refusal t.stop
answer_refusal (Skipped r) = result_err r
answer_refusal (Paged r) = result_err r

abbrev pub length_of : Result ℕ Refusal → ℕ
length_of (Ok n) = n
length_of (Err x) = 0

-- how many lines a take took, or how long a page is; a skip and a refused page call count nothing
abbrev pub answer_count : Answer → ℕ
answer_count (Took t) = t.lines
answer_count (Skipped r) = 0
answer_count (Paged r) = length_of r

-- every answer as its count and the numbers of its refusal, if it was refused
abbrev pub answer_numbers : Answer → AnswerNumbers
answer_numbers a = record { count = answer_count a; refusal = option_map refusal_numbers (answer_refusal a) }
