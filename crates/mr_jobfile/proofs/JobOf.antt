-- What a file means, by its length and its document.
use Rattle.std.proofs.Common.{◌≡◌, ℕ, ◌<◌, ◌≤◌, List, length, nat_lt, true, false, Some, None, Err, arith}
use Rattle.std.proofs.lemmas.Bool.Decides.{nat_tests}
use Rattle.toml.specs.Data.{Members}
use Rattle.mr_jobfile.specs.declared.fault.JobFault.TheVariants as fault
use Rattle.mr_jobfile.specs.declared.read.TheConstants.{JOB_LIMIT}
use Rattle.mr_jobfile.specs.JobOf.{document_of, job_of, judged}

pub too_long : (bytes : List ℕ) → JOB_LIMIT < length bytes → job_of bytes ≡ Err fault.TooLong
unfolding job_of
too_long bytes long = let test : nat_lt JOB_LIMIT (length bytes) ≡ true = grind (arith, nat_tests) in rw test

pub of_table : (bytes : List ℕ) (ms : Members) → length bytes ≤ JOB_LIMIT → document_of bytes ≡ Some ms → job_of bytes ≡ judged ms
unfolding job_of
of_table bytes ms short is = let test : nat_lt JOB_LIMIT (length bytes) ≡ false = grind (arith, nat_tests) in rw (test, is)

pub not_toml : (bytes : List ℕ) → length bytes ≤ JOB_LIMIT → document_of bytes ≡ None → job_of bytes ≡ Err fault.NotToml
unfolding job_of
not_toml bytes short is = let test : nat_lt JOB_LIMIT (length bytes) ≡ false = grind (arith, nat_tests) in rw (test, is)
