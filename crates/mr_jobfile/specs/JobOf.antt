-- The job that a file means, or its fault.
use Rattle.std.specs.Prelude.{ℕ, nat_lt, List, length, if◌then◌else◌, Option, None, Result, Ok, Err}
use Rattle.std.specs.Option.{option_map_or}
use Rattle.std.specs.Str.{is_utf8}
use Rattle.toml.specs.Data.{Members}
use Rattle.toml.specs.Parse.{parse_document}
use Rattle.mr_jobfile.specs.declared.fault.JobFault.{JobFault}
use Rattle.mr_jobfile.specs.declared.fault.JobFault.TheVariants as fault
use Rattle.mr_jobfile.specs.Ranges.{job_limit}
use Rattle.mr_jobfile.specs.Keys.{least_unknown, first_missing}
use Rattle.mr_jobfile.specs.Forms.{first_bad}
use Rattle.mr_jobfile.specs.Values.{SeenJob, values_of, described}

-- the document that toml reads in the bytes
unfoldable pub document_of : List ℕ → Option Members
document_of bytes = if is_utf8 bytes then parse_document bytes else None

-- the job of a table, or the first of its faults
abbrev pub judged : Members → Result SeenJob JobFault
judged ms =
    option_map_or (λ name. Err (fault.Unknown name)) (least_unknown ms)
    (option_map_or (λ k. Err (fault.Missing k)) (first_missing ms)
    (option_map_or (λ k. Err (fault.BadValue k)) (first_bad ms)
    (option_map_or Ok (described (values_of ms)) (Err fault.Pairing))))

-- the job of a file, or the first of its faults
unfoldable pub job_of : List ℕ → Result SeenJob JobFault
job_of bytes =
    if nat_lt job_limit (length bytes) then Err fault.TooLong
    else option_map_or judged (document_of bytes) (Err fault.NotToml)
