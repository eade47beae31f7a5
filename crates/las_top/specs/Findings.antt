-- What is found, as the code has it, and the answer that it gives.
use Rattle.std.specs.Prelude.{ℕ, List, ◌++◌, codes, string_bytes}
use Rattle.las_spec.specs.Texts.{refusal_text}
use Rattle.lasre_codec.specs.Texts as lasre
use Rattle.las_top.specs.declared.finding.Finding.{Finding}
use Rattle.las_top.specs.declared.finding.Finding.TheVariants.{Refused, Breach, Valid, OtherJob, Unserved, Solves, Accepted, Rejected, Text}
use Rattle.las_top.specs.declared.finding.Refusal.{Refusal}
use Rattle.las_top.specs.declared.finding.Refusal.TheVariants.{Words, TooLong, Spec, NoFile, LasreTooLong, Lasre, BoxNotListed, LogTooLong}
use Rattle.las_top.specs.Answers.{Answer, yes_with, no_with, refused, accepted_line, lasre_too_long_reason, log_too_long_reason, no_file_reason, not_listed_reason, other_job_line, solves_line, too_long_reason, valid_line, words_reason}
use Rattle.las_top.specs.Audit.{flow_line}
use Rattle.las_top.specs.Check.{broken_line}
use Rattle.las_top.specs.Verify.{rejected_line}

-- the reason of a refusal
abbrev pub reason_by : Refusal → List ℕ
reason_by Words = words_reason
reason_by TooLong = too_long_reason
reason_by (Spec refusal) = refusal_text refusal
reason_by (NoFile name) = no_file_reason (string_bytes name)
reason_by LasreTooLong = lasre_too_long_reason
reason_by (Lasre refusal) = codes "lasre " ++ lasre.refusal_text refusal
reason_by BoxNotListed = not_listed_reason
reason_by LogTooLong = log_too_long_reason

-- the answer that a finding gives
abbrev pub answer_by : Finding → Answer
answer_by (Refused refusal) = refused (reason_by refusal)
answer_by (Breach broken) = no_with (broken_line broken)
answer_by Valid = yes_with valid_line
answer_by OtherJob = no_with other_job_line
answer_by (Unserved flow broken) = no_with (flow_line flow broken)
answer_by Solves = yes_with solves_line
answer_by Accepted = yes_with accepted_line
answer_by (Rejected line why) = no_with (rejected_line line why)
answer_by (Text text) = yes_with text.items
